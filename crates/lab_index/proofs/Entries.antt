-- Rows read by number, counted from 1, also after a write, and two that lead back to each other.
-- The next number leads to the next place: what the rows have, and what callers see.
use Rattle.std.proofs.Common.{rules, ◌≡◌, ℕ, ◌+◌, ◌-◌, ◌<◌, ◌≤◌, List, Option, Some, get_or, length}
use Rattle.std.proofs.Common.{ap, arith, cond, ◌==◌, zero, suc, [], ◌∷◌, ◌++◌, map, refl, add-sub_cancel}
use Rattle.std.proofs.lemmas.Option.{gets, slice_get_past, slice_get_read}
use Rattle.std.specs.Prelude.{slice_set, unwrap_or}
use Rattle.lab_index.specs.Lists.{numbered}
use Rattle.lab_index.specs.Rows.{AreInverse, entry, shown}
use Rattle.std.proofs.lemmas.List.{length_push, map_push}
use Rattle.std.proofs.lemmas.Grind.{common_steps}
use Rattle.lab_index.proofs.Shown.{map-same}

-- a number that the code reads
pub numbered-read : {X : Type 0} (xs : List X) (n : ℕ) (x : X) → 0 < n → n ≤ length xs
    → x ≡ get_or xs (n - 1) x → numbered xs n ≡ Some x
numbered-read xs n x some within read = search (rules, slice_get_read)

-- the same at numbers are the same entries
pub as-entry : {read other : Option ℕ} → read ≡ other → unwrap_or read 0 ≡ unwrap_or other 0
as-entry same = ap (λ (o : Option ℕ). unwrap_or o 0) same

-- what the code reads is the entry
pub entry-read : (row : List ℕ) (place x : ℕ) → 0 < place → place ≤ length row
    → x ≡ get_or row (place - 1) x → entry row place ≡ x
entry-read row place x some within read = as-entry (numbered-read row place x some within read)

-- also by its index
pub entry-at : (row : List ℕ) (index x : ℕ) → index < length row → x ≡ get_or row index x
    → entry row (index + 1) ≡ x
entry-at row index x within read =
    entry-read row (index + 1) x (omega arith) (omega arith) (rw (add-sub_cancel index 1) read)

-- past the end it is 0
pub entry-past : (row : List ℕ) (place : ℕ) → length row < place → entry row place ≡ 0
entry-past row place past = search (rules, as-entry, slice_get_past)

-- so an entry that isn't 0 is within the row
pub entry-within : (row : List ℕ) (place : ℕ) → 0 < entry row place
    → (0 < place) × (place ≤ length row)
entry-within row place some = search (rules, entry-past)

-- a write to a number changes its entry alone
pub entry-set : (row : List ℕ) (n m x : ℕ) → (0 < n) × (n ≤ length row)
    → entry (slice_set row (n - 1) x) m ≡ cond (m == n) x (entry row m)
entry-set row n m x there = search (rules, as-entry, gets)

-- a place that a number has
pub record HasPlace (places numbers : List ℕ) (number place : ℕ) : Type 0 where
  pub within : (0 < number) × (number ≤ length places)
  pub there : (0 < place) × (place ≤ length numbers)
  pub back : entry numbers place ≡ number

-- an entry that isn't 0 is one
pub has-place : (places numbers : List ℕ) (number : ℕ) → AreInverse places numbers
    → 0 < entry places number → HasPlace places numbers number (entry places number)
has-place places numbers number rows some = search (rules, entry-within)

-- a number that is pushed
pub numbered-push_same : {X : Type 0} (xs : List X) (x : X) (n : ℕ) → n ≡ length xs + 1
    → numbered (xs ++ x ∷ []) n ≡ Some x
numbered-push_same xs x zero at = absurd (omega arith)
numbered-push_same xs x (suc i) at = grind (arith, common_steps, gets)

-- and the others
pub numbered-push_other : {X : Type 0} (xs : List X) (x : X) (n : ℕ) → n ≤ length xs
    → numbered (xs ++ x ∷ []) n ≡ numbered xs n
numbered-push_other xs x zero within = refl
numbered-push_other xs x (suc i) within = grind (arith, common_steps, gets)

-- the rows after the next number got the next place
pub inverse-push : (places numbers : List ℕ) (number place : ℕ) → AreInverse places numbers
    → number ≡ length places + 1 → place ≡ length numbers + 1
    → AreInverse (places ++ place ∷ []) (numbers ++ number ∷ [])
inverse-push places numbers number place rows next end =
    search (
      rules,
      length_push,
      as-entry,
      numbered-push_same,
      numbered-push_other,
      entry-past,
      has-place,
      entry-within,
    )

-- an item is put behind the others
pub shown-push : {X : Type 0} {numbers : List ℕ} (places : List ℕ) (items : List X) (place : ℕ)
    (x : X) → AreInverse places numbers → length numbers ≡ length items
    → place ≡ length items + 1
    → shown (places ++ place ∷ []) (items ++ x ∷ []) ≡ shown places items ++ Some x ∷ []
shown-push {X} {numbers} places items place x rows many end =
    let new = items ++ x ∷ [] in
    let old : map (numbered new) places ≡ map (numbered items) places =
    map-same (numbered items) (numbered new) places places refl
    (λ k. numbered-push_other items x (entry places (suc k))
    (grind (arith, has-place places numbers (suc k) rows, many))) in
    rw (map_push (numbered new) places place, old, numbered-push_same items x place end) refl
