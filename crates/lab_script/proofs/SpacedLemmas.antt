-- Words with spaces between. Names: joined (by spaces), spaced (a space before each).
use Rattle.lab_model.proofs.Common.{◌≡◌, ℕ, List, [], ◌∷◌, ◌++◌, ap}
use Rattle.std.proofs.Common.{append-nil}
use Rattle.std.specs.List.{join_with_byte}
use Rattle.lab_text.specs.Words.{spaced}

-- the first word has no space before it, each other has one
pub joined-spaced : (word : List ℕ) (words : List (List ℕ)) → word ++ spaced words
    ≡ join_with_byte 32 (word ∷ words)
joined-spaced word [] = append-nil word
joined-spaced word (next ∷ words) = ap (λ l. word ++ 32 ∷ l) (joined-spaced next words)
