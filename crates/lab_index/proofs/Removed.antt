-- A number is gone, and the last one has its place: what the rows have, and what callers see. What
-- the counts of 64 numbers each say, and that they are right once a number is gone.
use Rattle.std.proofs.Common.{rules, ◌≡◌, ℕ, ◌-◌, ◌<◌, List, None, length, ap, arith, length-set}
use Rattle.std.proofs.Common.{cond, ◌==◌, ◌+◌, ◌/◌, ◌≤◌, get_or}
use Rattle.std.proofs.lemmas.Bool.Decides.{nat_tests}
use Rattle.std.specs.Prelude.{slice_set}
use Rattle.lab_index.specs.Lists.{change_numbered, numbered}
use Rattle.lab_index.specs.Rows.{AreInverse, entry, shown, AreCounted, adds, left_in}
use Rattle.lab_index.proofs.Entries.{HasPlace, as-entry, entry-set, has-place}
use Rattle.lab_index.proofs.Shown.{map-numbered, IsSwapped}
use Rattle.lab_index.proofs.LeftCounts.{adds-some, count-read, left-set}

-- the places once a number has none, and the last one has its place
abbrev pub vacated : List ℕ → ℕ → ℕ → ℕ → List ℕ
vacated places number last place =
    slice_set (slice_set places (last - 1) place) (number - 1) 0

-- a number of this place is removed, and this is the number at the last place
pub record IsRemoval (places numbers : List ℕ) (number last place : ℕ) : Type 0 where
  pub rows : AreInverse places numbers
  pub at : entry places number ≡ place
  pub some : 0 < place
  pub end : entry numbers (length numbers) ≡ last

module _ {places numbers : List ℕ} {number last place : ℕ}
    (removal : IsRemoval places numbers number last place) where
  -- the number has its place
  pub removed-place : HasPlace places numbers number place
  removed-place = search (rules, has-place)

  -- the last number leads to the last place
  pub last-leads : entry places last ≡ length numbers
  last-leads = search rules

  -- which is its place
  pub last-place : HasPlace places numbers last (length numbers)
  last-place = search (rules, has-place, last-leads, removed-place)

  -- there are as many places as before
  pub vacated-length : length (vacated places number last place) ≡ length places
  vacated-length = search rules

  -- the number has no place any more, the last one has it, and the others have their own
  pub vacated-at : (n : ℕ) → entry (vacated places number last place) n
      ≡ cond (n == number) 0 (cond (n == last) place (entry places n))
  vacated-at n = search (rules, length-set, entry-set, removed-place, last-place)

  -- the rows lead back to each other as before
  pub inverse-removed : (swapped : List ℕ) → IsSwapped numbers swapped place
      → AreInverse (vacated places number last place) swapped
  inverse-removed swapped swap =
      search (rules, as-entry, removed-place, has-place, vacated-at, last-leads, last-place)

  -- callers see no item of the number, and the others as they were
  pub shown-removed : {X : Type 0} {items swapped : List X} → IsSwapped items swapped place
      → length numbers ≡ length items
      → shown (vacated places number last place) swapped
      ≡ change_numbered (shown places items) number (λ _. None)
  shown-removed {X} {items} {swapped} swap many =
      let gone : entry (vacated places number last place) number ≡ 0 =
      grind (arith, nat_tests, vacated-at number) in
      map-numbered (numbered items) (numbered swapped) places
      (vacated places number last place) number None vacated-length removed-place.within
      (ap (numbered swapped) gone) (λ n ne.
      (search (rules, last-leads, removed-place, has-place, vacated-at, ne)))

-- a write to a number changes the count by what it adds
left-write : (group : ℕ) (places : List ℕ) (number place : ℕ) → 0 < number
    → number ≤ length places
    → left_in group 0 (slice_set places (number - 1) place)
    + adds group (number - 1) (entry places number)
    ≡ left_in group 0 places + adds group (number - 1) place
left-write group places number place some within = search (rules, left-set)

-- one less is left where a number is gone
left-vacated : {places numbers : List ℕ} {number last place : ℕ} (group : ℕ)
    → IsRemoval places numbers number last place
    → left_in group 0 (vacated places number last place) + adds group (number - 1) place
    ≡ left_in group 0 places
left-vacated {places} {numbers} {number} {last} {place} group removal =
    let has = removed-place removal in
    let end = last-place removal in
    let written = slice_set places (last - 1) place in
    let changed = left-write group places last place end.within.0 end.within.1 in
    let held = adds-some group (last - 1) (entry places last)
    (omega (arith, last-leads removal, end.there)) in
    let holds = adds-some group (last - 1) place removal.some in
    let lost = left-write group written number 0 has.within.0
    (omega (arith, has.within, length-set places (last - 1) place)) in
    let there : entry written number ≡ place =
    grind (arith, nat_tests, entry-set places last number place end.within, removal.at) in
    omega (arith, changed, held, holds, rw there at lost)

-- the count of the number's group is one less
pub counted-vacated : {places numbers : List ℕ} {number last place : ℕ} (left : List ℕ) (x : ℕ)
    → AreCounted places left → IsRemoval places numbers number last place
    → x ≡ get_or left ((number - 1) / 64) x
    → (0 < x) × AreCounted (vacated places number last place)
    (slice_set left ((number - 1) / 64) (x - 1))
counted-vacated {places} {numbers} {number} {last} {place} left x counted removal read =
    let has = removed-place removal in
    let at = (number - 1) / 64 in
    let there : at < length left = omega (arith, counted.enough) in
    let is = count-read places left at x counted there read in
    let less = λ (group : ℕ). left-vacated group removal in
    let one = λ (group : ℕ). adds-some group (number - 1) place removal.some in
    let many = vacated-length removal in
    let groups = length-set left at (x - 1) in
    search rules
