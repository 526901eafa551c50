-- The word before is text.
use denote.Text.{Utf8}
use denote.Shadow.{shadow}
use Rattle.lab_row_remedies.proofs.last_guesses.without_repeated.Given as goal

abbrev pub invariant-loop-word : goal.invariant-loop-word
invariant-loop-word l =
    (goal.iterator-loop-word).can_next l.word-iterator
    × (goal.iterator-loop-word).is_finite l.word-iterator
    × shadow (Utf8 l.before)
