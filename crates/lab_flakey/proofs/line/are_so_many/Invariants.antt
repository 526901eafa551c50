-- The words that were taken and those left are all.
use Rattle.std.proofs.Common.{◌≡◌, ◌+◌, length}
use Rattle.lab_text.specs.Words.{words_left}
use Rattle.lab_flakey.proofs.line.are_so_many.Given as goal

abbrev pub invariant-words : goal.invariant-words
invariant-words l = l._place + length (words_left l.words) ≡ length (words_left l.fn.words)
