use Rattle.lab_model.proofs.Common.{◌≡◌, ◌++◌}
use Rattle.lab_text.specs.Words.{spaced, words_left}
use Rattle.lab_script.proofs.joined.push_spaced.Given as goal

-- the bytes so far and the words that are left, each behind a space, are those that are asked for
abbrev pub invariant-loop-word : goal.invariant-loop-word
invariant-loop-word l =
    (goal.iterator-loop-word).can_next l.word-iterator
    × (goal.iterator-loop-word).is_finite l.word-iterator
    × (l.bytes.items ++ spaced (words_left l.word-iterator)
    ≡ l.fn.bytes.items ++ spaced (words_left l.fn.words))
