-- What callers see of a number by its place. An item is lent: what the code reads of it, and what
-- callers see.
use Rattle.std.proofs.Common.{◌≡◌, ℕ, suc, ◌+◌, ◌-◌, ◌<◌, ◌≤◌, List, ◌∷◌, IsSome, None}
use Rattle.std.proofs.Common.{length, refl, ap, ◌∙◌, arith, inl, inr, rules, Some, get_or}
use Rattle.std.proofs.lemmas.Bool.{cases_eq}
use Rattle.lab_index.specs.Lists.{AreGoneFrom, IsNextFrom, joined, numbered, change_numbered}
use Rattle.lab_index.specs.Rows.{AreInverse, entry, shown, IsKept}
use Rattle.lab_index.proofs.LeftCounts.{ArePassed}
use Rattle.lab_index.proofs.Entries.{entry-past, has-place, entry-read, numbered-read}
use Rattle.lab_index.proofs.Shown.{shown-entry, map-numbered}
use Rattle.std.proofs.lemmas.Option.{gets}
use Rattle.std.specs.Prelude.{slice_set}

-- an item stands at each place up to the last
numbered-there : {X : Type 0} (xs : List X) (n : ℕ) → (0 < n) × (n ≤ length xs)
    → IsSome (numbered xs n)
numbered-there (_ ∷ xs) (suc (suc i)) within = numbered-there xs (suc i) (omega arith, omega arith)
numbered-there xs n within = search rules

-- a number with no place has no item
pub shown-none : {X : Type 0} (places : List ℕ) (items : List X) (number : ℕ)
    → entry places number ≡ 0 → joined (numbered (shown places items) number) ≡ None
shown-none places items number none = shown-entry places items number ∙ ap (numbered items) none

-- so one of which callers see an item has a place
pub shown-place : {X : Type 0} (places : List ℕ) (items : List X) (number : ℕ)
    → IsSome (joined (numbered (shown places items) number)) → 0 < entry places number
shown-place {X} places items number lives =
    elim (cases_eq (entry places number) 0) [
      | inl none ↦
          let nothing = shown-none places items number none in
          absurd (let lies : IsSome {T = X} None = rw nothing at lives in cc)
      | inr some ↦ omega (arith, some)
    ]

-- and the first number that has a place is the next one that has an item
pub next-seen : {X : Type 0} {places numbers : List ℕ} (items : List X) (from index : ℕ)
    → AreInverse places numbers → length numbers ≡ length items → from - 1 ≤ index
    → ArePassed places from index → 0 < entry places (index + 1)
    → IsNextFrom (shown places items) from (index + 1)
next-seen {X} {places} {numbers} items from index rows many upto passed held =
    let has = has-place places numbers (index + 1) rows held in
    record {
      from = omega arith;
      there = rw (shown-entry places items (index + 1)) (numbered-there items
          (entry places (index + 1)) (omega (arith, has.there), omega (arith, has.there)));
      first = λ other after below.
          shown-none places items other (passed other after (omega (arith, below)));
    }

-- where all numbers are passed, none has an item
pub none-seen : {X : Type 0} (places : List ℕ) (items : List X) (from index : ℕ)
    → length places ≤ index → ArePassed places from index → AreGoneFrom (shown places items) from
none-seen places items from index all passed other upto = shown-none places items other
    (grind (arith, entry-past places other, passed other upto))

-- the place that the code reads of a number of which callers see an item
pub record IsRead {X : Type 0} (places : List ℕ) (items : List X) (number place : ℕ) : Type 0 where
  pub is : entry places number ≡ place
  pub some : 0 < place
  pub within : place ≤ length items

-- it is the number's, and an item stands there
pub place-read : {X : Type 0} {places left numbers : List ℕ} {items : List X} {place : ℕ}
    (number : ℕ) → IsKept places left numbers items
    → IsSome (joined (numbered (shown places items) number))
    → place ≡ get_or places (number - 1) place → IsRead places items number place
place-read {X} {places} {left} {numbers} {items} {place} number kept lives read =
    let held = shown-place places items number lives in
    let has = has-place places numbers number kept.inverse held in
    let is = entry-read places number place has.within.0 has.within.1 read in
    search rules

module _ {X : Type 0} {places : List ℕ} {items : List X} {number place : ℕ}
    (at : IsRead places items number place) where
  -- the item that stands there is the one that callers see
  pub shown-read : {x : X} → x ≡ get_or items (place - 1) x
      → joined (numbered (shown places items) number) ≡ Some x
  shown-read {x} read = search (rules, shown-entry, numbered-read)

  -- it is lent: it is another, and the others stay
  pub shown-lent : {left numbers : List ℕ} (x : X) → IsKept places left numbers items
      → shown places (slice_set items (place - 1) x)
      ≡ change_numbered (shown places items) number (λ _. Some x)
  shown-lent {left} {numbers} x kept =
      let has = has-place places numbers number kept.inverse (omega (arith, at)) in
      let new = slice_set items (place - 1) x in
      map-numbered (numbered items) (numbered new) places places number (Some x) refl has.within
      (ap (numbered new) at.is ∙ (search (rules, gets, at.some, at.within)))
      (λ other ne. (search (rules, gets, at.some)))
