-- The getter reads the text that the rows have, as a bool reads it.
use Rattle.std.proofs.Common.{rules}
use Rattle.clap.proofs.WalkLemmas.{one_text-rows}
use Rattle.dmlab_words.proofs.options.asks.Goals as goal

pub returns : goal.returns
returns c = search (rules, one_text-rows)
