-- What is read so far and what the words left say is what all words say.
use Rattle.std.proofs.Common.{◌≡◌}
use Rattle.lab_text.specs.Words.{words_left}
use Rattle.lab_flakey.specs.Features.{features_of, no_features}
use Rattle.lab_flakey.proofs.features.read_features.Given as goal

abbrev pub invariant-loop-word : goal.invariant-loop-word
invariant-loop-word l =
    (goal.iterator-loop-word).can_next l.words × (goal.iterator-loop-word).is_finite l.words
    × (features_of 0 no_features (words_left l.fn.words)
    ≡ features_of 0 l.features (words_left l.words))
