-- The tests of the rules on modes, removes and messages decide those rules.
use Rattle.lab_model.proofs.Common.{arith, ◌≡◌, ◌≢◌, ◌∙◌, ℕ, ◌<◌, true, false, List, Option, Some}
use Rattle.lab_model.proofs.Common.{None, refl, ap, slice_get, length, Contains, Decides, list_any}
use Rattle.lab_model.proofs.Common.{eqb-true, Decides-like, Decides-not}
use Rattle.lab_model.proofs.Common.{get_or_from_slice_get, slice_get_within, slice_get-get_or}
use Rattle.lab_model.proofs.Common.{DevNo, Dm, Meaning, Shape, has_device, same_device}
use Rattle.lab_model.proofs.Common.{LogPlan, Table, ◌++◌, slot_at, nat_tests}
use Rattle.lab_model.specs.Fine.{under_live}
use Rattle.lab_model.specs.declared.plan.LogLine.{LogLine}
use Rattle.lab_model.specs.declared.micro.Mode.TheVariants.{Running}
use Rattle.std.proofs.lemmas.Bool.{eq-eqb}
use Rattle.std.specs.Option.{IsSomeAnd}
use Rattle.lab_model.specs.State.{Slot}
use Rattle.lab_script.specs.declared.slot.DeviceVersions.{DeviceVersions}
use Rattle.lab_script.specs.Image.{plain}
use Rattle.lab_rulebook.specs.Parts.{Parts}
use Rattle.lab_rulebook.specs.Standing.{Standing as Stands}
use Rattle.lab_rulebook.specs.ScriptRules.{IsLogged, IsReferred, SomeRests}
use Rattle.lab_standing.specs.declared.standing.Standing.{Standing}
use Rattle.lab_standing.specs.Image.{own_of, slot_of}
use Rattle.lab_standing.specs.Stands.{standing_of}
use Rattle.lab_standing.proofs.LinkRows.{any-Decides}
use Rattle.lab_standing.proofs.Images.{device-stands}
use Rattle.lab_rule_checks.specs.Live.{slot_rests}
use Rattle.lab_rule_checks.proofs.NameRules.{never-Decides, option-Decides}
use Rattle.lab_rule_checks.specs.Used.{is_named_by, names_device, refers_in}

-- whether a device is among some
pub has_device-Decides : (device : DevNo) (devices : List DevNo)
    → Decides (has_device device devices) (Contains devices device)
has_device-Decides device devices = Decides-like (has_device device devices)
    (λ f. (
      f.0,
      slice_get_within devices f.0 f.1 f.2,
      get_or_from_slice_get devices f.0 f.1 device f.2 ∙ f.3,
    )) (λ f. (f.0, _, slice_get-get_or devices f.0 device f.1, f.2))
    (any-Decides (same_device device) (λ other. other ≡ device)
    (grind (arith, nat_tests, eqb-true, eq-eqb, never-Decides)) devices)

-- what holds of a value that is there, by that value
some-and : {X : Type 0} {P : X → Type 0} (o : Option X) → IsSomeAnd o P
    → (x : X) × (o ≡ Some x) × P x
some-and (Some x) holds = (x, refl, holds)
some-and None holds = absurd holds

module _ {S : Type 0} (m : Meaning S) (parts : Parts S) (st : Standing S) where
  -- what stands, as the definitions see it
  abbrev s : Stands S
  s = standing_of m st

  -- a device's slots, as the definitions see them
  abbrev Slots : Type 0
  Slots = Slot (Table (Shape S))

  -- a device as the definitions see it, by its number
  abbrev seen : ℕ → DeviceVersions → Slots
  seen number held = slot_of m (own_of s.versions number) (plain held)

  -- the device at a place
  pub device-at : (number : ℕ) (held : DeviceVersions)
      → slice_get st.walk.slots.items number ≡ Some (Some held)
      → slot_at s.devices number ≡ Some (seen number held)
  device-at number held at = grind (arith, nat_tests, device-stands)

  -- and the place of a device
  pub placed : (number : ℕ) (slot : Slots) → slot_at s.devices number ≡ Some slot
      → (held : DeviceVersions) × (slice_get st.walk.slots.items number ≡ Some (Some held))
      × (seen number held ≡ slot)
  placed number slot is = grind (arith, nat_tests, device-stands)

  -- whether a device at a place doesn't run
  place-Decides : (o : Option DeviceVersions)
      → Decides (slot_rests o) ((held : DeviceVersions) × (o ≡ Some held) × (held.mode ≢ Running))
  place-Decides = grind (arith, nat_tests, option-Decides, Decides-not, never-Decides)

  -- whether some device doesn't run
  pub some_rests-Decides : Decides (list_any slot_rests st.walk.slots.items) (SomeRests m parts s)
  some_rests-Decides = let found = any-Decides slot_rests
      (λ o. (held : DeviceVersions) × (o ≡ Some held) × (held.mode ≢ Running)) place-Decides
      st.walk.slots.items in (
        λ e. let (number, o, at, (held, is, differs)) = found.0 e in
            (number, rw (device-at number held (at ∙ ap (λ o. Some o) is)) differs),
        λ (number, rests). let (slot, is, differs) = some-and _ rests in
            let (held, at, same) = placed number slot is in
            found.1 (number, Some held, at, (held, refl, rw (← same) at differs)),
      )

  -- whether the device of some number refers to another
  number-Decides : (number device : ℕ) → Decides (refers_in (slot_at s.devices number) (Dm device))
      ((slot : Slots) × (slot_at s.devices number ≡ Some slot)
      × Contains (under_live slot.live ++ under_live slot.inactive) (Dm device))
  number-Decides number device = option-Decides (λ o. refers_in o (Dm device)) _ refl
      (λ slot. has_device-Decides (Dm device) _) (slot_at s.devices number)

  -- a device of some number refers to another
  pub referred : (number device : ℕ)
      → refers_in (slot_at s.devices number) (Dm device) ≡ true
      → IsReferred m parts s device
  referred number device e =
      let f = (number-Decides number device).0 e in (number, f.0, f.1, f.2)

  -- no device does, where none of the numbers in use does
  pub unreferred : (device : ℕ) → ((number : ℕ) → number < length st.walk.slots.items
      → refers_in (slot_at s.devices number) (Dm device) ≡ false) → IsReferred m parts s device → ⊥
  unreferred device none f = grind (arith, nat_tests, number-Decides, placed, slice_get_within)

  -- whether a log names a device
  pub logged-Decides : (device : ℕ)
      → Decides (list_any (names_device (Dm device)) st.logs.items) (IsLogged m parts s device)
  logged-Decides device = Decides-like (list_any (names_device (Dm device)) st.logs.items)
      (λ f. (f.0, f.3.0, f.1, f.3.1, f.2, f.3.2, f.3.3))
      (λ f. (f.0, f.2, f.4, (f.1, f.3, f.5, f.6))) (any-Decides (names_device (Dm device))
      (λ (plan : LogPlan). (place : ℕ) × (line : LogLine)
      × (slice_get plan.lines place ≡ Some line) × (line.device ≡ Some (Dm device)))
      (λ plan. any-Decides (is_named_by (Dm device)) (λ line. line.device ≡ Some (Dm device))
      (λ line. (grind (arith, nat_tests, never-Decides, Decides-like, eqb-true, eq-eqb)))
      plan.lines) st.logs.items)
