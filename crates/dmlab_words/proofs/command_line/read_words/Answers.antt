-- The subcommand that was met is the one that the words name, and what they ask for is what it does.
use Rattle.std.proofs.Common.{List, Option, subst}
use Rattle.clap.specs.Words.{Row, Text}
use Rattle.dmlab_words.specs.CommandLine.{IsWorkOf, NamesWork}
use Rattle.dmlab_words.proofs.command_line.read_words.Goals as goal

pub returns-clause-work : goal.returns-clause-work
unfolding NamesWork
returns-clause-work g c = subst (λ (met : Option (Text × List Row)). IsWorkOf met c.work_of.result)
    c.in_ok-matches.ensures.met c.work_of.ensures
