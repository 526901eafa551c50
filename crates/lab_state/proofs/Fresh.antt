-- What is told of a new bio by its device and its stage is so once it lives behind all others.
use Rattle.lab_model.proofs.Common.{rules}
use Rattle.lab_model.proofs.Common.{◌≡◌, ℕ, List, [], ◌∷◌, ◌++◌, Option, Some, None, length}
use Rattle.lab_model.proofs.Common.{length-append, slice_get_past, Bio, option_flatten, numbered}

-- none lived at the number of the bio that comes behind all
pub next-dead : (before after : List (Option Bio)) (number : ℕ) (bio : Bio)
    → number ≡ length after → after ≡ before ++ Some bio ∷ []
    → option_flatten (numbered before number) ≡ None
next-dead before after number bio last is = search (rules, length-append, slice_get_past)
