-- What is told of a bio by the mode of the device that it depends on is so.
use Rattle.lab_model.proofs.Common.{rules, ◌≡◌, ◌≢◌, ℕ, zero, suc, ◌<◌, ◌≤◌, Bool, List, Option}
use Rattle.lab_model.proofs.Common.{None, Some, length, arith, slice_get_past, Bio, option_flatten}
use Rattle.lab_model.proofs.Common.{numbered, slot_at, slot_runs, Slot, Table, inl, inr, cases_lt}
use Rattle.lab_model.proofs.Common.{◌+◌, ◌==◌, ◌∙◌, false, drop, get_or, add-one, State}
use Rattle.std.proofs.Common.{drop-cons}
use Rattle.std.proofs.lemmas.Bool.{ne_eqb}
use Rattle.lab_index.specs.Numbers.{Marks}
use Rattle.lab_state.specs.Dependents.{device_of, has_number, told_by}
use Rattle.lab_state.specs.Index.{goes, is_marked, state_of}
use Rattle.lab_state.proofs.Modes.{each-but}

-- a bio of which something is told has been made
pub told-made : (clock : ℕ) (bios : List (Option Bio)) (device : ℕ) (runs : Bool) (number : ℕ)
    (may : Bool) → told_by clock device runs (option_flatten (numbered bios number)) ≡ Some may
    → (0 < number) × (number ≤ length bios)
told-made clock bios device runs zero may told = search rules
told-made clock bios device runs (suc place) may told =
    elim (cases_lt place (length bios)) [
      | inl there ↦ (omega arith, omega arith)
      | inr past ↦ search (rules, slice_get_past)
    ]

-- where nothing is told, it doesn't depend on the device
pub told-none : (clock : ℕ) (bios : List (Option Bio)) (device : ℕ) (runs : Bool) (number : ℕ)
    → told_by clock device runs (option_flatten (numbered bios number)) ≡ None
    → device_of bios number ≢ Some device
told-none clock bios device runs number none = search rules

-- and what is told is so
pub told-goes : {S : Type 0} (clock : ℕ) (bios : List (Option Bio))
    (slots : List (Option (Slot (Table S)))) (device : ℕ) (runs : Bool) (number : ℕ) (may : Bool)
    → runs ≡ slot_runs (slot_at slots device)
    → told_by clock device runs (option_flatten (numbered bios number)) ≡ Some may
    → may ≡ goes (state_of clock bios slots) number
told-goes clock bios slots device runs number may is told = search rules

module _ {S : Type 0} (s : State S) (old new : Marks) (row : List ℕ) (index number : ℕ)
    (inside : index < length row) (at : number ≡ get_or row index 0)
    (here : is_marked new number ≡ goes s number)
    (others : (other : ℕ) → other ≢ number → is_marked new other ≡ is_marked old other) where
  -- another number than the first of those left in a row is left in it once that is gone through
  unread : (n : ℕ) → n ≢ number → has_number (drop (index + 1) row) n ≡ false
      → has_number (drop index row) n ≡ false
  unread n apart not =
      let rest = rw (add-one index) at not in
      let skip : (get_or row index 0 == n) ≡ false = search (rules, ne_eqb) in
      rw (drop-cons row index 0) (search (rules, skip, rest))

  -- the first of those left in a row is marked as it is to be, and so are all that aren't left then
  pub right-on : ((n : ℕ) → has_number (drop index row) n ≡ false → is_marked old n ≡ goes s n)
      → (n : ℕ) → has_number (drop (index + 1) row) n ≡ false → is_marked new n ≡ goes s n
  right-on right = each-but
      (λ n. has_number (drop (index + 1) row) n ≡ false → is_marked new n ≡ goes s n) number
      (λ _. here) (λ n apart not. others n apart ∙ right n (unread n apart not))

  -- so are those that don't depend on a device
  pub apart-on : (device : ℕ)
      → ((n : ℕ) → device_of s.bios n ≢ Some device → is_marked old n ≡ goes s n)
      → (n : ℕ) → device_of s.bios n ≢ Some device → is_marked new n ≡ goes s n
  apart-on device free = each-but
      (λ n. device_of s.bios n ≢ Some device → is_marked new n ≡ goes s n) number
      (λ _. here) (λ n apart none. others n apart ∙ free n none)
