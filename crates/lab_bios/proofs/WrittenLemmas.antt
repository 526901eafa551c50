-- A part of what is written, and the marks in it.
use Rattle.lab_model.proofs.Common.{rules, ◌≡◌, ◌-◌, ◌<◌, ◌≤◌, ℕ, zero, suc, arith, List, [], ◌∷◌}
use Rattle.lab_model.proofs.Common.{take, drop, refl, ap, min, change, replicate}
use native.Mathlib.Numerals.{unary_clauses}

-- a change of the first items is one among them, or past them all
pub take-change : {X : Type 0} (xs : List X) (len i : ℕ) (f : X → X)
    → change (take len xs) i f ≡ take len (change xs i f)
take-change xs zero i f = refl
take-change (x ∷ xs) (suc len) (suc i) f = ap (λ zs. x ∷ zs) (take-change xs len i f)
take-change xs (suc len) i f = search rules

-- a change among the last items stands there among them
pub drop-change : {X : Type 0} (xs : List X) (first i : ℕ) (f : X → X) → first ≤ i
    → change (drop first xs) (i - first) f ≡ drop first (change xs i f)
drop-change xs zero i f behind = simp unary_clauses
drop-change [] (suc first) i f behind = refl
drop-change (x ∷ xs) (suc first) zero f behind = absurd (omega arith)
drop-change (x ∷ xs) (suc first) (suc i) f behind =
    simp unary_clauses (drop-change xs first i f (omega arith))

-- a change before the last items leaves them alone
pub drop-change-before : {X : Type 0} (xs : List X) (first i : ℕ) (f : X → X) → i < first
    → drop first xs ≡ drop first (change xs i f)
drop-change-before xs zero i f before = absurd (omega arith)
drop-change-before [] (suc first) i f before = refl
drop-change-before (x ∷ xs) (suc first) zero f before = refl
drop-change-before (x ∷ xs) (suc first) (suc i) f before =
    drop-change-before xs first i f (omega arith)

-- the first of so many copies
pub take-copies : {X : Type 0} (len count : ℕ) (x : X)
    → replicate (min count len) x ≡ take len (replicate count x)
take-copies (suc len) (suc count) x = simp unary_clauses (search (rules, take-copies len count x))
take-copies len count x = search rules
