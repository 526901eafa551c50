-- Lists that hold the same in another order, where an element of each was replaced. When the logs
-- are due, as logs come, start and change.
use Rattle.lab_model.proofs.Common.{◌≡◌, ◌∙◌, ◌<◌, ℕ, zero, suc, List, [], ◌∷◌, length, get_or}
use Rattle.lab_model.proofs.Common.{refl, ap, sym, arith, cond, ◌==◌, remove, slice_set, swap}
use Rattle.lab_model.proofs.Common.{IsPermutation, nat_tests, get_or-set_at, get_or-set_other}
use Rattle.lab_model.proofs.Common.{get_or_default, length-set, same_lists, length-swap}
use Rattle.lab_model.proofs.Common.{swapped_from_swap, IsPermutation-remove, IsPermutation-swap}
use Rattle.lab_model.proofs.Common.{IsPermutation-trans, rules, ◌+◌, ◌++◌, map, Contains, Some}
use Rattle.lab_model.proofs.Common.{slice_get, get_or-map, length-map, enumerate_from}
use Rattle.lab_model.proofs.Common.{get_or_from_slice_get, slice_get_read, slice_get_within}
use Rattle.lab_model.proofs.Common.{IsPermutation-sym, starting, numbered, LogState}
use Rattle.std.proofs.lemmas.List.Sorted.{IsPermutation-keeps, IsPermutation-refl}
use Rattle.std.proofs.lemmas.List.FromFn.{get_or-enumerate_from, length-enumerate_from}
use Rattle.lab_logs.specs.Agenda.{HasInPlaceOf, due_at, due_of, dues, dues_from}
use Rattle.lab_logs.specs.declared.agenda.Due.{Due}

-- the place from which the element at a place comes in an exchange
abbrev source : ℕ → ℕ → ℕ → ℕ
source i j p = cond (p == i) j (cond (p == j) i p)

-- a write after an exchange is an exchange after a write there
exchanged : {X : Type 0} (xs : List X) (i j p : ℕ) (y : X) → i < length xs → j < length xs
    → p < length xs → slice_set (swap xs i j) p y ≡ swap (slice_set xs (source i j p) y) i j
exchanged xs i j p y i_in j_in p_in = same_lists _ _
    (length-set (swap xs i j) p y ∙ length-swap xs i j
    ∙ sym (length-swap (slice_set xs (source i j p) y) i j ∙ length-set xs (source i j p) y))
    (λ k d within.
    let set = length-set xs (source i j p) y in
    let left = swapped_from_swap xs (swap xs i j) i j d i_in j_in refl in
    let right = swapped_from_swap (slice_set xs (source i j p) y)
    (swap (slice_set xs (source i j p) y) i j) i j d (omega arith) (omega arith) refl in
    grind (arith, nat_tests, get_or-set_at, get_or-set_other, length-set, length-swap, left, right))

module _ {X : Type 0} (x y : X) (rest : List X) where
  -- a list in which y may take the place of each x
  abbrev Replaceable : List X → Type 0
  Replaceable xs = (place : ℕ) → place < length xs → get_or xs place x ≡ x
      → IsPermutation (y ∷ rest) (slice_set xs place y)

  -- one with x in front of the rest
  in_front : Replaceable (x ∷ rest)
  in_front zero within is = IsPermutation-refl (y ∷ rest)
  in_front (suc place) within is = IsPermutation-swap (y ∷ rest) (x ∷ slice_set rest place y) 0
      (suc place) (omega arith) (omega arith) (cc (get_or_default rest place x y (omega arith)))

  -- an exchange keeps that
  when_swapped : (xs : List X) (i j : ℕ) → i < length xs → j < length xs → Replaceable xs
      → Replaceable (swap xs i j)
  when_swapped xs i j i_in j_in replaceable place within is =
      let from = source i j place in
      let step = swapped_from_swap xs (swap xs i j) i j x i_in j_in refl in
      let p_in : place < length xs = omega (arith, length-swap xs i j) in
      let q_in : from < length xs = grind (arith, nat_tests) in
      let there : get_or xs from x ≡ x = grind (arith, nat_tests, step, is) in
      let set = length-set xs from y in
      IsPermutation-trans (y ∷ rest) (slice_set xs from y) (slice_set (swap xs i j) place y)
      (replaceable from q_in there)
      (IsPermutation-swap (slice_set xs from y) _ i j (omega arith) (omega arith)
      (exchanged xs i j place y i_in j_in p_in))

  -- so in each list with x and the rest another element can take the place of x
  pub replaced : (xs : List X) (place : ℕ) → IsPermutation (x ∷ rest) xs → place < length xs
      → get_or xs place x ≡ x → IsPermutation (y ∷ rest) (slice_set xs place y)
  replaced xs place same = IsPermutation-keeps (x ∷ rest) Replaceable in_front when_swapped xs same
      place

-- a write at a place leaves the others
remove-set : {X : Type 0} (xs : List X) (i : ℕ) (y : X)
    → remove (slice_set xs i y) i ≡ remove xs i
remove-set (x ∷ xs) (suc i) y = ap (λ zs. x ∷ zs) (remove-set xs i y)
remove-set xs i y = search rules

-- what was written at a place, and the others
pub set-others : {X : Type 0} (xs : List X) (i : ℕ) (y : X) → i < length xs
    → IsPermutation (slice_set xs i y) (y ∷ remove xs i)
set-others xs i y within = rw (← remove-set xs i y) (IsPermutation-remove (slice_set xs i y) i y
    (omega (arith, length-set xs i y)) (sym (get_or-set_at xs i i y y refl within)))

-- each log is due once
pub length-dues : (first : ℕ) (logs : List LogState) → length (dues_from first logs) ≡ length logs
length-dues first logs = length-map (enumerate_from first logs) _ ∙ length-enumerate_from first logs

-- at its moment
pub moments-dues : (first : ℕ) (logs : List LogState)
    → map (λ (due : Due). due.moment) (dues_from first logs) ≡ map (λ log. log.moment) logs
moments-dues first [] = refl
moments-dues first (log ∷ logs) = ap (λ ms. log.moment ∷ ms) (moments-dues (first + 1) logs)

-- by its number
pub due-there : (first : ℕ) (logs : List LogState) (place : ℕ) (log : LogState)
    (d : Due) → slice_get logs place ≡ Some log
    → get_or (dues_from first logs) place d ≡ due_of (first + place) log
due-there first logs place log d at =
    let within = slice_get_within logs place log at in
    get_or-map (λ (entry : ℕ × LogState). due_of entry.0 entry.1) (enumerate_from first logs) place
    (first, log) d (omega (arith, within, length-enumerate_from first logs))
    ∙ rw (
      get_or-enumerate_from first logs place (first, log) within,
      get_or_from_slice_get logs place log log at,
    ) refl

-- one log more
pub dues-push : (first : ℕ) (logs : List LogState) (log : LogState)
    → dues_from first (logs ++ log ∷ [])
    ≡ dues_from first logs ++ due_of (first + length logs) log ∷ []
dues-push first [] log = search rules
dues-push first (l ∷ logs) log = search (rules, dues-push (first + 1) logs log)

-- all logs start
pub dues-start : (first now : ℕ) (logs : List LogState)
    → dues_from first (map (starting now) logs) ≡ map (due_at now) (dues_from first logs)
dues-start first now [] = search rules
dues-start first now (log ∷ logs) = search (rules, dues-start (first + 1) now logs)

-- a log becomes another
pub dues-set : (first : ℕ) (logs : List LogState) (place : ℕ) (log : LogState)
    → dues_from first (slice_set logs place log)
    ≡ slice_set (dues_from first logs) place (due_of (first + place) log)
dues-set first [] place log = search rules
dues-set first (l ∷ logs) zero log = search rules
dues-set first (l ∷ logs) (suc place) log = search (rules, dues-set (first + 1) logs place log)

-- one that is due at the same moment
pub dues-same : (first : ℕ) (logs : List LogState) (place : ℕ) (old new : LogState)
    → old ≡ get_or logs place old → new.moment ≡ old.moment
    → dues_from first (slice_set logs place new) ≡ dues_from first logs
dues-same first [] place old new is same = search rules
dues-same first (l ∷ logs) zero old new is same = search rules
dues-same first (l ∷ logs) (suc place) old new is same =
    search (rules, dues-same (first + 1) logs place old new is same)

-- each log that is there is due
pub dues-numbered : (logs : List LogState) (number : ℕ) (log : LogState)
    → numbered logs number ≡ Some log → Contains (dues logs) (due_of number log)
dues-numbered logs zero log at = cc
dues-numbered logs (suc place) log at =
    let number : 1 + place ≡ suc place = omega arith in (
      place,
      omega (arith, slice_get_within logs place log at, length-dues 1 logs),
      due-there 1 logs place log (due_of (suc place) log) at ∙ ap (λ n. due_of n log) number,
    )

-- a log becomes one that is due at the same moment
pub dues-kept : (logs : List LogState) (row : List Due) (place : ℕ) (old new : LogState)
    → old ≡ get_or logs place old → new.moment ≡ old.moment → IsPermutation (dues logs) row
    → IsPermutation (dues (slice_set logs place new)) row
dues-kept logs row place old new is same = search (rules, dues-same)

-- a log becomes one that is due at another moment
pub dues-replaced : (logs : List LogState) (row new : List Due) (number place : ℕ)
    (before after : LogState) → number ≡ suc place → place < length logs
    → before ≡ get_or logs place before → IsPermutation (dues logs) row
    → HasInPlaceOf row (due_of number before) (due_of number after) new
    → IsPermutation (dues (slice_set logs place after)) new
dues-replaced logs row new number place before after number_is within is same replaced =
    let others = remove (dues logs) place in
    let inside : place < length (dues logs) = omega (arith, length-dues 1 logs) in
    let shift : 1 + place ≡ number = omega arith in
    let there : due_of number before ≡ get_or (dues logs) place (due_of number before) =
    sym (due-there 1 logs place before (due_of number before)
    (slice_get_read logs (length logs) place before refl within is)
    ∙ ap (λ n. due_of n before) shift) in
    rw (dues-set 1 logs place after, shift)
    (IsPermutation-trans _ (due_of number after ∷ others) new
    (set-others (dues logs) place (due_of number after) inside)
    (replaced others (IsPermutation-trans _ (dues logs) row (IsPermutation-sym (dues logs) _
    (IsPermutation-remove (dues logs) place (due_of number before) inside there)) same)))
