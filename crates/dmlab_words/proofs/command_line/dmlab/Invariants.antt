-- The program and the subcommands that are left make the whole program.
use Rattle.std.specs.Prelude.{◌≡◌, drop, fold}
use Rattle.clap.specs.Words.{app_of}
use Rattle.dmlab_words.specs.CommandLine.{dmlab_app}
use Rattle.dmlab_words.specs.Offered.{with_offered}
use Rattle.dmlab_words.proofs.command_line.dmlab.Given as goal

abbrev pub invariant-loop-subcommand : goal.invariant-loop-subcommand
invariant-loop-subcommand l =
    fold with_offered (app_of l.program) (drop l.subcommand-index l.subcommand-items) ≡ dmlab_app
