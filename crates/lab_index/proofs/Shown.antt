-- The items that callers see, by their numbers. A row after the last one took the place of another.
use Rattle.std.proofs.Common.{rules, ◌≡◌, ℕ, zero, suc, ◌<◌, ◌≤◌, ◌≢◌, List, [], ◌∷◌, None, length}
use Rattle.std.proofs.Common.{map, refl, ap, arith, ◌+◌, ◌-◌, take, length-set, length-take}
use Rattle.lab_index.specs.Lists.{change, change_numbered, joined, numbered}
use Rattle.lab_index.specs.Rows.{ItemRow, entry, shown}
use Rattle.std.proofs.lemmas.Grind.{common_steps}
use Rattle.std.proofs.lemmas.Option.{gets, slice_get-get_or}
use Rattle.std.specs.List.{swap_remove}

-- the item of a number is the one at its place
pub shown-entry : {X : Type 0} (places : List ℕ) (items : List X) (number : ℕ)
    → joined (numbered (shown places items) number) ≡ numbered items (entry places number)
shown-entry (place ∷ places) items (suc (suc i)) = shown-entry places items (suc i)
shown-entry _ items number = search rules

-- a number with no place has no item to be gone
pub shown-stays : {X : Type 0} (places : List ℕ) (items : List X) (number : ℕ)
    → entry places number ≡ 0
    → shown places items ≡ change_numbered (shown places items) number (λ _. None)
shown-stays places items zero none = search rules
shown-stays [] items (suc i) none = search rules
shown-stays (place ∷ places) items (suc zero) none = search rules
shown-stays (place ∷ places) items (suc (suc i)) none =
    search (rules, shown-stays places items (suc i) none)

-- two rows at each number of which functions give the same
pub map-same : {Y : Type 0} (f g : ℕ → Y) (ps qs : List ℕ) → length qs ≡ length ps
    → ((k : ℕ) → g (entry qs (suc k)) ≡ f (entry ps (suc k))) → map g qs ≡ map f ps
map-same f g [] [] many same = refl
map-same f g [] (q ∷ qs) many same = absurd (omega arith)
map-same f g (p ∷ ps) [] many same = absurd (omega arith)
map-same f g (p ∷ ps) (q ∷ qs) many same =
    let head : g q ≡ f p = same zero in
    let tail = map-same f g ps qs (omega arith) (λ k. same (suc k)) in
    cc

-- and two at each but one, told by its index
map-change : {Y : Type 0} (f g : ℕ → Y) (ps qs : List ℕ) (i : ℕ) (y : Y)
    → length qs ≡ length ps → i < length ps → g (entry qs (suc i)) ≡ y
    → ((k : ℕ) → k ≢ i → g (entry qs (suc k)) ≡ f (entry ps (suc k)))
    → map g qs ≡ change (map f ps) i (λ _. y)
map-change f g [] qs i y many within here same = absurd (omega arith)
map-change f g (p ∷ ps) [] i y many within here same = absurd (omega arith)
map-change f g (p ∷ ps) (q ∷ qs) zero y many within here same =
    let tail = map-same f g ps qs (omega arith) (λ k. same (suc k) (λ e. omega (arith, e))) in
    cc
map-change f g (p ∷ ps) (q ∷ qs) (suc i) y many within here same =
    let head : g q ≡ f p = same zero (λ e. omega (arith, e)) in
    let tail = map-change f g ps qs i y (omega arith) (omega arith) here
    (λ k ne. same (suc k) (λ e. ne (omega (arith, e)))) in
    cc

-- where that one is told by its number, counted from 1
pub map-numbered : {Y : Type 0} (f g : ℕ → Y) (ps qs : List ℕ) (n : ℕ) (y : Y)
    → length qs ≡ length ps → (0 < n) × (n ≤ length ps) → g (entry qs n) ≡ y
    → ((m : ℕ) → m ≢ n → g (entry qs m) ≡ f (entry ps m))
    → map g qs ≡ change_numbered (map f ps) n (λ _. y)
map-numbered f g ps qs zero y many within here same = absurd (omega arith)
map-numbered f g ps qs (suc i) y many within here same =
    map-change f g ps qs i y many (omega arith) here
    (λ k ne. same (suc k) (λ e. ne (omega (arith, e))))

-- of a row that is seen as another, the items are the other's
pub items-of : {X : Type 0} {row now : ItemRow X} → row ≡ now → row.items ≡ now.items
items-of seen = ap (λ (v : ItemRow _). v.items) seen

-- the first of a row are as they were
numbered-take : {X : Type 0} (count : ℕ) (xs : List X) (n : ℕ) → n ≤ count
    → numbered (take count xs) n ≡ numbered xs n
numbered-take count xs zero within = refl
numbered-take count xs (suc i) within = grind (arith, common_steps, gets)

-- the row after the last one took the place of another
pub record IsSwapped {X : Type 0} (old new : List X) (place : ℕ) : Type 0 where
  pub less : length new + 1 ≡ length old
  pub moved : place < length old → numbered new place ≡ numbered old (length old)
  pub others : (other : ℕ) → other ≢ place → other < length old
      → numbered new other ≡ numbered old other

-- as `swap_remove` leaves it
pub swaps : {X : Type 0} {new : List X} (old : List X) (place : ℕ) (x : X)
    → (0 < place) × (place ≤ length old) → new ≡ swap_remove old (place - 1) x
    → IsSwapped old new place
swaps {X} {new} old place x there is =
    search (
      rules,
      length-take,
      length-set,
      numbered-take,
      slice_get-get_or,
      gets,
    )
