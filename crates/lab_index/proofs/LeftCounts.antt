-- How many of each 64 numbers have a place: after a write, after a push, where none has one. And
-- the counts are right once the next number has a place.
use Rattle.std.proofs.Common.{rules, ◌≡◌, ℕ, zero, suc, ◌+◌, ◌-◌, ◌*◌, ◌/◌, ◌<◌, ◌≤◌, List, [], ◌∷◌}
use Rattle.std.proofs.Common.{◌++◌, get_or, length, min, refl, arith, length-set, cond, ◌==◌}
use Rattle.std.proofs.lemmas.Bool.Decides.{nat_tests}
use Rattle.std.proofs.lemmas.Grind.{common_steps}
use Rattle.std.proofs.lemmas.List.{get_or_default, length_push}
use Rattle.std.specs.Prelude.{slice_set}
use Rattle.lab_index.specs.Rows.{AreCounted, adds, entry, left_in}

-- the numbers from one up to another have no place
abbrev pub ArePassed : List ℕ → ℕ → ℕ → Type 0
ArePassed places from upto =
    (number : ℕ) → from ≤ number → number ≤ upto → entry places number ≡ 0

-- a count that the code reads is that of its group
pub count-read : (places left : List ℕ) (group x : ℕ) → AreCounted places left
    → group < length left → x ≡ get_or left group x → x ≡ left_in group 0 places
count-read places left group x counted within read = search (rules, get_or_default)

-- a place adds one to the count of its number's group
pub adds-some : (group index place : ℕ) → 0 < place
    → adds group index place ≡ cond (index / 64 == group) 1 0
adds-some group index place some = search rules

-- a write changes the count by what it adds
pub left-set : (group index : ℕ) (places : List ℕ) (i place : ℕ) → i < length places
    → left_in group index (slice_set places i place) + adds group (index + i) (entry places (suc i))
    ≡ left_in group index places + adds group (index + i) place
left-set group index [] i place within = search rules
left-set group index (first ∷ places) zero place within = search rules
left-set group index (first ∷ places) (suc i) place within =
    search (rules, left-set group (index + 1) places i place (omega arith))

-- and so does a push
left-push : (group index place : ℕ) (places : List ℕ) → left_in group index (places ++ place ∷ [])
    ≡ left_in group index places + adds group (index + length places) place
left-push group index place [] = search rules
left-push group index place (_ ∷ places) = search (rules, left-push group (index + 1) place places)

-- no more than 64 are left, and of those from an index on no more than come from there on
pub left-le : (group index : ℕ) (places : List ℕ)
    → left_in group index places ≤ min 64 (64 * group + 64 - index)
left-le group index [] = omega arith
left-le group index (place ∷ places) = search (rules, left-le group (index + 1) places)

-- where none is left, each number of the group has no place
pub none-left : (group index : ℕ) (places : List ℕ) (i : ℕ) → left_in group index places ≡ 0
    → (index + i) / 64 ≡ group → entry places (suc i) ≡ 0
none-left group index [] i none at = refl
none-left group index (zero ∷ places) zero none at = refl
none-left group index (suc place ∷ places) zero none at = absurd (grind arith)
none-left group index (place ∷ places) (suc i) none at =
    none-left group (index + 1) places i (omega (arith, none)) (omega (arith, at))

-- one more is left where the next number has a place
left-more : (group : ℕ) (places : List ℕ) (place : ℕ)
    → left_in group 0 (places ++ place ∷ [])
    ≡ left_in group 0 places + adds group (length places) place
left-more group places place = search (rules, left-push)

-- the number is the first one of a new group
pub counted-new : (places left : List ℕ) (place : ℕ) → AreCounted places left
    → length places / 64 ≡ length left → 0 < place
    → AreCounted (places ++ place ∷ []) (left ++ 1 ∷ [])
counted-new places left place counted full some =
    let groups = length_push left 1 in
    let made = length_push places place in
    record {
      enough = omega arith;
      least = omega arith;
      counts = λ group. grind (
        arith,
        common_steps,
        full,
        counted.counts group,
        left-more group places place,
        adds-some group (length places) place some,
      );
    }

-- or the count of its group is one more
pub counted-more : (places left : List ℕ) (place x : ℕ) → AreCounted places left
    → length places / 64 < length left → 0 < place
    → x ≡ get_or left (length places / 64) x
    → (x < 64) × AreCounted (places ++ place ∷ []) (slice_set left (length places / 64) (x + 1))
counted-more places left place x counted within some read =
    let at = length places / 64 in
    let is = count-read places left at x counted within read in
    let new = λ (group : ℕ). left-more group places place in
    let one = λ (group : ℕ). adds-some group (length places) place some in
    let groups = length-set left at (x + 1) in
    let made = length_push places place in (
      grind (arith, nat_tests, left-le at 0 (places ++ place ∷ []), new at, one at, is),
      record {
        enough = omega arith;
        least = omega arith;
        counts = λ group. grind (arith, common_steps, is, counted.counts group, new group, one group);
      },
    )
