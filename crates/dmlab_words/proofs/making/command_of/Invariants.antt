-- The command and the options that are left make the whole command.
use Rattle.std.specs.Prelude.{◌≡◌, drop, false, fold}
use Rattle.clap.specs.Words.{app_of}
use Rattle.clap.specs.declared.builder.command.Command.TheViews.{out-Command}
use Rattle.dmlab_words.specs.Offered.{subcommand_app, with_offer}
use Rattle.dmlab_words.proofs.making.command_of.Given as goal

abbrev pub invariant-loop-option : goal.invariant-loop-option
invariant-loop-option l =
    (fold with_offer (app_of l.command) (drop l.option-index l.option-items)
    ≡ subcommand_app l.subcommand) × ((out-Command l.command).has_globals ≡ false)
