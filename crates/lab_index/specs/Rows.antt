-- How items by number lie side by side (this project's own).
use Rattle.std.specs.Prelude.{◌≡◌, ℕ, zero, suc, ◌+◌, ◌-◌, ◌*◌, ◌/◌, ◌^◌, ◌<◌, ◌≤◌, ◌==◌, cond, min}
use Rattle.std.specs.Prelude.{List, [], ◌∷◌, Option, length, map, slice_index, unwrap_or}
use Rattle.lab_index.specs.Lists.{numbered}

-- items by number, and how many more of them need no more memory
pub record ItemRow (X : Type 0) : Type 0 where
  -- from number 1 on; none at a number whose item is gone
  pub items : List (Option X)
  pub room : ℕ

-- what a row of numbers has at a place, counted from 1; 0 where it has no such place
abbrev pub entry : List ℕ → ℕ → ℕ
entry row place = unwrap_or (numbered row place) 0

-- the items by number, where each number leads to the place of its item, counted from 1, or to 0
abbrev pub shown : {X : Type 0} → List ℕ → List X → List (Option X)
shown places items = map (numbered items) places

-- the places of numbers and the numbers at places: each row leads back where the other leads
pub record AreInverse (places numbers : List ℕ) : Type 0 where
  -- at the place of a number stands that number
  pub stands : (number : ℕ) → 0 < entry places number
      → entry numbers (entry places number) ≡ number
  -- at each place a number stands
  pub taken : (place : ℕ) → 0 < place → place ≤ length numbers → 0 < entry numbers place
  -- and that place is the number's
  pub leads : (place : ℕ) → 0 < place → place ≤ length numbers
      → entry places (entry numbers place) ≡ place

-- what the number at this index, counted from 0, adds to the count of a group of 64 numbers: 1
-- where it is one of them and has a place
abbrev pub adds : ℕ → ℕ → ℕ → ℕ
adds group index zero = 0
adds group index (suc place) = cond (index / 64 == group) 1 0

-- how many numbers of a group of 64 have one of these places, the first of which is at this index
abbrev pub left_in : ℕ → ℕ → List ℕ → ℕ
left_in group index [] = 0
left_in group index (place ∷ places) = adds group index place + left_in group (index + 1) places

-- how many of each 64 numbers have a place, for just as many groups as there are
pub record AreCounted (places left : List ℕ) : Type 0 where
  -- the groups are enough for the numbers
  pub enough : length places ≤ 64 * length left
  -- and none is too many
  pub least : 64 * length left < length places + 64
  -- each has its count
  pub counts : (group : ℕ) → slice_index left group ≡ left_in group 0 places

-- items side by side, found by their numbers
pub record IsKept {X : Type 0} (places left numbers : List ℕ) (items : List X) : Type 0 where
  -- each item has a number
  pub as_many : length numbers ≡ length items
  -- there are no more of them than numbers
  pub few : length items ≤ length places
  -- each number that isn't gone leads to its item, and to no other
  pub inverse : AreInverse places numbers
  -- groups in which all are gone are told by their counts
  pub counted : AreCounted places left
  -- numbers end below the greatest of 32 bits
  pub fits : length places + 1 < 2 ^ 32

-- how many more items need no more memory, where so many were made and so many are held: as far as
-- each row has memory, the counts for 64 numbers each, and as numbers of 32 bits go
abbrev pub room_of : ℕ → ℕ → ℕ → ℕ → ℕ → ℕ → ℕ
room_of made held places left items numbers =
    min (min (places - made) (64 * left - made))
    (min (min (items - held) (numbers - held)) (2 ^ 32 - 2 - made))
