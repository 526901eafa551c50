-- The getter reads the text that the rows have.
use Rattle.std.proofs.Common.{rules}
use Rattle.clap.proofs.WalkLemmas.{first_value-rows}
use Rattle.dmlab_words.proofs.command_line.file_in.Goals as goal

pub returns : goal.returns
returns c = search (rules, first_value-rows)
