-- What is told of sectors of which marks have changed bytes: only those that have them are told.
use Rattle.lab_model.proofs.Common.{rules, ◌≡◌, ℕ, zero, suc, ◌+◌, ◌*◌, ◌<◌, List, [], ◌∷◌, ◌++◌}
use Rattle.lab_model.proofs.Common.{take, drop, refl, arith, Sectors, drop_of_length-le}
use Rattle.lab_model.specs.Lists.{change}
use Rattle.lab_trace.specs.Written.{changes_at_both, changes_text}
use Rattle.lab_trace.proofs.WrittenSteps.{bytes_text-same}
use Rattle.std.proofs.Common.{append-nil, inl, inr}
use Rattle.std.proofs.lemmas.Bool.{cases_eq, cases_lt}

-- the sector at a place, if there is one
abbrev pub at : ℕ → Sectors → Sectors
at place sectors = take 1 (drop place sectors)

-- sectors that stay as they were are not told
pub changes_text-same : (first : ℕ) (sectors : Sectors) → changes_text first sectors sectors ≡ []
changes_text-same first [] = refl
changes_text-same first (sector ∷ sectors) =
    search (rules, bytes_text-same, changes_text-same (first + 512) sectors)

-- of one that is changed its bytes alone are told
pub one-place : (first p : ℕ) (xs : Sectors) (f : List ℕ → List ℕ)
    → changes_text first xs (change xs p f)
    ≡ changes_text (first + p * 512) (at p xs) (at p (change xs p f))
one-place first p [] f = search (rules, drop_of_length-le)
one-place first zero (x ∷ xs) f =
    search (rules, append-nil, changes_text-same (first + 512) xs)
one-place first (suc p) (x ∷ xs) f =
    let behind : first + 512 + p * 512 ≡ first + suc p * 512 = omega arith in
    search (rules, bytes_text-same, one-place (first + 512) p xs f)

-- of one that is changed twice, too
pub same-place : (first p : ℕ) (xs : Sectors) (f g : List ℕ → List ℕ)
    → changes_text first xs (change (change xs p f) p g)
    ≡ changes_text (first + p * 512) (at p xs) (at p (change (change xs p f) p g))
same-place first p [] f g = search (rules, drop_of_length-le)
same-place first zero (x ∷ xs) f g =
    search (rules, append-nil, changes_text-same (first + 512) xs)
same-place first (suc p) (x ∷ xs) f g =
    let behind : first + 512 + p * 512 ≡ first + suc p * 512 = omega arith in
    search (rules, bytes_text-same, same-place (first + 512) p xs f g)

-- of two the first is told before the second, whichever is changed first
pub two-places : (first p q : ℕ) (xs : Sectors) (f g : List ℕ → List ℕ) → p < q
    → changes_text first xs (change (change xs p f) q g)
    ≡ changes_text (first + p * 512) (at p xs) (at p (change (change xs p f) q g))
    ++ changes_text (first + q * 512) (at q xs) (at q (change (change xs p f) q g))
two-places first p q [] f g before = search (rules, drop_of_length-le)
two-places first zero (suc q) (x ∷ xs) f g before =
    let behind : first + 512 + q * 512 ≡ first + suc q * 512 = omega arith in
    search (rules, append-nil, one-place (first + 512) q xs g)
two-places first (suc p) (suc q) (x ∷ xs) f g before =
    let behind : first + 512 + p * 512 ≡ first + suc p * 512 = omega arith in
    let last : first + 512 + q * 512 ≡ first + suc q * 512 = omega arith in
    search (rules, bytes_text-same, two-places (first + 512) p q xs f g (omega arith))
two-places first p zero xs f g before = absurd (omega arith)

pub two-others : (first p q : ℕ) (xs : Sectors) (f g : List ℕ → List ℕ) → q < p
    → changes_text first xs (change (change xs p f) q g)
    ≡ changes_text (first + q * 512) (at q xs) (at q (change (change xs p f) q g))
    ++ changes_text (first + p * 512) (at p xs) (at p (change (change xs p f) q g))
two-others first p q [] f g before = search (rules, drop_of_length-le)
two-others first (suc p) zero (x ∷ xs) f g before =
    let behind : first + 512 + p * 512 ≡ first + suc p * 512 = omega arith in
    search (rules, append-nil, one-place (first + 512) p xs f)
two-others first (suc p) (suc q) (x ∷ xs) f g before =
    let behind : first + 512 + p * 512 ≡ first + suc p * 512 = omega arith in
    let last : first + 512 + q * 512 ≡ first + suc q * 512 = omega arith in
    search (rules, bytes_text-same, two-others (first + 512) p q xs f g (omega arith))
two-others first zero q xs f g before = absurd (omega arith)

-- so of two marks the sectors of both are told
pub both-places : (p q : ℕ) (xs : Sectors) (f g : List ℕ → List ℕ)
    → changes_at_both p q xs (change (change xs p f) q g)
    ≡ changes_text 0 xs (change (change xs p f) q g)
both-places p q xs f g = elim (cases_eq p q) [
  | inl same ↦ search (rules, same-place)
  | inr other ↦ elim (cases_lt p q) [
    | inl before ↦ search (rules, two-places)
    | inr behind ↦ search (rules, two-others)
  ]
]
