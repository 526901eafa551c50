-- The words of the pages on lists by number say what those of the machine say.
use Rattle.lab_model.proofs.Common.{rules, ◌≡◌, ℕ, suc, List, ◌∷◌, Option, ap}
use Rattle.lab_model.proofs.Common.{change_numbered, option_flatten, numbered}
use Rattle.lab_index.specs.Lists as rows

-- the living item of a number
pub got-same : {X : Type 0} (xs : List (Option X)) (n : ℕ)
    → rows.joined (rows.numbered xs n) ≡ option_flatten (numbered xs n)
got-same xs n = search rules

-- a change at a number
pub changed-same : {X : Type 0} (xs : List X) (n : ℕ) (f : X → X)
    → rows.change_numbered xs n f ≡ change_numbered xs n f
changed-same (x ∷ xs) (suc (suc place)) f = ap (λ ys. x ∷ ys) (changed-same xs (suc place) f)
changed-same xs n f = search rules
