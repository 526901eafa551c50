-- Where one is counted more or less at a device, the counts have that one more or less, and no
-- other.
use Rattle.lab_model.proofs.Common.{rules, ◌≡◌, ℕ, suc, zero, [], ◌∷◌, ◌++◌, ◌∙◌, ◌+◌, ◌-◌, ◌<◌}
use Rattle.lab_model.proofs.Common.{◌≤◌, ◌^◌, Bool, true, cond, List, Option, Some, None, get_or}
use Rattle.lab_model.proofs.Common.{length, refl, ap, IfSome, slice_set, change-set, Bio, change}
use Rattle.std.proofs.lemmas.List.{get_or_past}
use Rattle.lab_bios.specs.Flights.{one_in}
use Rattle.lab_state.specs.Flights.{AddsFlight, AreAllCounted}

-- a change of a count that is there writes it anew
changed-is : (flights : List ℕ) (device : ℕ) (f : ℕ → ℕ) → device < length flights
    → change flights device f ≡ slice_set flights device (f (get_or flights device 0))
changed-is flights device f there = search (rules, change-set)

-- a count is one that is there
some-there : (flights : List ℕ) (device : ℕ) → 0 < get_or flights device 0
    → device < length flights
some-there flights device some = search (rules, get_or_past)

-- so the counts have one more
pub flown_more : (flights more : List ℕ) (device : ℕ) → device < length flights
    → more ≡ change flights device (λ count. count + 1) → AddsFlight flights more (Some device)
flown_more flights more device there is = search (rules, changed-is)

-- or one less
pub flown_less : (flights less : List ℕ) (device : ℕ) → 0 < get_or flights device 0
    → less ≡ change flights device (λ count. count - 1) → AddsFlight less flights (Some device)
flown_less flights less device some is = search (rules, some-there, changed-is)

-- where bios in flight are counted, this is the device
pub counted-on : (is_counted : Bool) (flight result : Option ℕ)
    → result ≡ cond is_counted flight None → is_counted ≡ true → result ≡ flight
counted-on is_counted flight result is on = rw on at is

module _ (is_counted : Bool) (flight result : Option ℕ) (flights : List ℕ)
    (is : result ≡ cond is_counted flight None) where
  -- one more fits where the counts have room for it
  pub fits-on : (is_counted ≡ true → (device : ℕ)
      → get_or flights device 0 + one_in device flight < 2 ^ 64)
      → IfSome result (λ device. get_or flights device 0 < 2 ^ 64 - 1)
  fits-on room = search rules

  -- one less is there where the counts have it
  pub flew-on : (is_counted ≡ true → (device : ℕ) → one_in device flight ≤ get_or flights device 0)
      → IfSome result (λ device. 0 < get_or flights device 0)
  flew-on was = search rules

-- a device more has a count, of none
pub all-next : (bios : List (Option Bio)) (flights more : List ℕ)
    → more ≡ flights ++ 0 ∷ [] → AreAllCounted bios flights → AreAllCounted bios more
all-next bios flights more is counted device =
    ap (λ counts. get_or counts device 0) is ∙ same flights device ∙ counted device
  where
    same : (flights : List ℕ) (device : ℕ)
        → get_or (flights ++ 0 ∷ []) device 0 ≡ get_or flights device 0
    same [] zero = refl
    same [] (suc device) = refl
    same (count ∷ flights) zero = refl
    same (count ∷ flights) (suc device) = same flights device
