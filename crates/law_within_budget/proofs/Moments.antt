-- The moments that stand, weighed: those later than a bound count one each.
use Rattle.lab_model.proofs.Common.{rules, ◌≡◌, ℕ, ◌+◌, ◌<◌, ◌≤◌, Bool, true, false, if◌then◌else◌}
use Rattle.lab_model.proofs.Common.{nat_lt, List, [], ◌∷◌, Option, Some, map, length, slice_get}
use Rattle.lab_model.proofs.Common.{refl, ap, arith, le-ltb, lt-ltb, nat_tests, Bio, due_of}
use Rattle.lab_model.proofs.Common.{moments, LogState, State, of_entry, total, total-append}
use Rattle.lab_model.proofs.Common.{total-le, total-filter_map, In, In-slice_get}

-- 1 at a moment later than a bound, 0 at any other
abbrev pub later : ℕ → ℕ → ℕ
later bound moment = if nat_lt bound moment then 1 else 0

-- what the moment of a bio weighs, if it is held
abbrev pub bio_weight : (ℕ → ℕ) → Bio → ℕ
bio_weight w bio = of_entry w (due_of bio.stage)

-- what the moments of held bios weigh
abbrev pub bios_weight : (ℕ → ℕ) → List (Option Bio) → ℕ
bios_weight w bios = total (of_entry (bio_weight w)) bios

-- what the moments of logs weigh, once they have started
abbrev pub logs_weight : (ℕ → ℕ) → Bool → List LogState → ℕ
logs_weight w false logs = 0
logs_weight w true logs = total (λ log. w log.moment) logs

-- what all moments that stand weigh
abbrev pub moments_weight : {S : Type 0} → (ℕ → ℕ) → State S → ℕ
moments_weight w s = w s.moment + logs_weight w s.started s.logs + bios_weight w s.bios

-- how many bios are held
abbrev pub held : {S : Type 0} → State S → ℕ
held s = bios_weight (λ due. 1) s.bios

-- how many moments are later than the clock
abbrev pub ahead : {S : Type 0} → State S → ℕ
ahead s = moments_weight (later s.clock) s

-- a moment up to the bound counts nothing
pub later-none : (bound moment : ℕ) → moment ≤ bound → later bound moment ≤ 0
later-none bound moment within = rw (le-ltb bound moment within) (omega arith)

-- a later one counts one
pub later-one : (bound moment : ℕ) → bound < moment → 1 ≤ later bound moment
later-one bound moment past = rw (lt-ltb bound moment past) (omega arith)

-- what counts nothing is up to the bound
pub later-within : (bound moment : ℕ) → later bound moment ≤ 0 → moment ≤ bound
later-within bound moment none = grind (arith, nat_tests)

-- fewer moments are later than a greater bound
pub later-le : (bound other : ℕ) → bound ≤ other → (moment : ℕ)
    → later other moment ≤ later bound moment
later-le bound other below moment = grind (arith, nat_tests)

-- the total over what f makes of items
pub total-map : {X Y : Type 0} (w : Y → ℕ) (f : X → Y) (xs : List X)
    → total w (map f xs) ≡ total (λ x. w (f x)) xs
total-map w f [] = refl
total-map w f (x ∷ xs) = ap (λ n. w (f x) + n) (total-map w f xs)

-- the total of ones is the length
pub total-ones : {X : Type 0} (xs : List X) → total (λ x. 1) xs ≡ length xs
total-ones [] = refl
total-ones (x ∷ xs) = omega (arith, total-ones xs)

-- an item weighs at most the total
pub total-in : {X : Type 0} (w : X → ℕ) (x : X) (xs : List X) → In x xs → w x ≤ total w xs
total-in w x [] at = absurd at
total-in w x (y ∷ xs) at = grind (arith, total-in w x xs)

-- so does one at a place
pub total-at : {X : Type 0} (w : X → ℕ) (xs : List X) (place : ℕ) (x : X)
    → slice_get xs place ≡ Some x → w x ≤ total w xs
total-at w xs place x at = total-in w x xs (In-slice_get x xs place at)

-- the total falls with what each item weighs, and by one with an item that weighs one less
pub total-less : {X : Type 0} (v w : X → ℕ) (x : X) (xs : List X) → In x xs
    → ((y : X) → v y ≤ w y) → v x + 1 ≤ w x → total v xs + 1 ≤ total w xs
total-less v w x [] at le less = absurd at
total-less v w x (y ∷ xs) at le less = grind (arith, le y, total-le v w le xs, total-less v w x xs)

-- the weight is the total over the list of moments
pub moments-total : {S : Type 0} (w : ℕ → ℕ) (s : State S)
    → total w (moments s) ≡ moments_weight w s
moments-total w s = search (rules, total-map, total-filter_map, total-append)

-- moments weigh less where each does
pub weight-le : {S : Type 0} (v w : ℕ → ℕ) (s : State S) → ((moment : ℕ) → v moment ≤ w moment)
    → moments_weight v s ≤ moments_weight w s
weight-le v w s le = search (rules, moments-total, total-le)
