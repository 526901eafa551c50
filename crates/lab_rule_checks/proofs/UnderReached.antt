-- What links lead to is what lies below. Links by live tables: a search among marks finds whether a
-- device rests below another (dmsetup(8), suspend).
use Rattle.lab_model.proofs.Common.{rules, ◌≡◌, ◌∙◌, inl, inr, ℕ, zero, suc, ◌<◌, ◌≤◌, List, []}
use Rattle.lab_model.proofs.Common.{◌∷◌, None, length, sym, ap, arith, Contains}
use Rattle.lab_model.proofs.Common.{cases_lt, DevNo, Dm, Devices}
use Rattle.lab_model.proofs.Common.{slot_at, Bool, true, Option, slice_get, Decides-eqb}
use Rattle.lab_model.proofs.Common.{Decides-like, Decides-not, nat_tests, slice_get_past}
use Rattle.lab_model.proofs.Common.{slice_get_within, Meaning, option_flatten}
use Rattle.std.proofs.lemmas.List.{length-append}
use Rattle.lab_model.specs.Fine.{live_under}
use Rattle.lab_standing.specs.Image.{own_of}
use Rattle.lab_standing.specs.Linked.{RowTells}
use Rattle.lab_standing.proofs.LinkedAfter.{grown-tells, nothing-tells}
use Rattle.lab_standing.proofs.OwnRows.{own-before, own-last, own-past}
use Rattle.lab_rule_checks.specs.Search.{Reached, at_first, further, TellsReached}
use Rattle.lab_rule_checks.specs.Live.{live_row, live_rows, SomeRestsAmong, rests_at}
use Rattle.lab_rule_checks.specs.Live.{slot_suspended}
use Rattle.lab_model.specs.declared.micro.Mode.{Mode}
use Rattle.lab_model.specs.declared.micro.Mode.TheVariants.{Suspended}
use Rattle.std.proofs.Common.{Decides, IsSomeAnd}
use Rattle.std.proofs.lemmas.Bool.Decides.{Decides-and}
use Rattle.lab_rulebook.specs.Parts.{Parts}
use Rattle.lab_rulebook.specs.Standing.{Standing as Stands}
use Rattle.lab_rulebook.specs.ScriptRules.{SuspendedBelow}
use Rattle.lab_script.specs.declared.slot.DeviceVersions.{DeviceVersions}
use Rattle.lab_script.specs.Slots.{is_suspended}
use Rattle.lab_standing.specs.declared.standing.Standing.{Standing}
use Rattle.lab_standing.specs.Stands.{standing_of}
use Rattle.lab_standing.proofs.Images.{device-stands}
use Rattle.lab_model.specs.Below.{Below, direct, through}

module _ {S : Type 0} (devices : Devices S) where
  -- a row tells what a device's live table refers to
  row-live : (device : ℕ) → RowTells (live_under devices device) (live_row devices device)
  row-live device = grown-tells [] (live_under devices device) [] nothing-tells

  -- as many rows as there are devices
  pub rows-count : (count : ℕ) → length (live_rows devices count) ≡ count
  rows-count zero = search rules
  rows-count (suc count) = search (rules, length-append, rows-count count)

  -- the rows by number
  own-live : (count device : ℕ) → device < count
      → own_of (live_rows devices count) device ≡ live_row devices device
  own-live zero device within = absurd (omega (arith, within))
  own-live (suc count) device within = elim (cases_lt device count) [
    | inl before ↦ own-before (live_rows devices count) (live_row devices count ∷ []) device
        (omega (arith, before, rows-count count)) ∙ own-live count device before
    | inr here ↦
        let same : device ≡ length (live_rows devices count)
        = omega (arith, here, within, rows-count count) in
        ap (own_of (live_rows devices (suc count))) same
        ∙ own-last (live_rows devices count) (live_row devices count)
        ∙ ap (live_row devices) (sym (same ∙ rows-count count))
  ]

  -- each row tells what its device's live table refers to
  pub live-tells : (count : ℕ)
      → ((device : ℕ) → count ≤ device → slot_at devices device ≡ None) → (device : ℕ)
      → RowTells (live_under devices device) (own_of (live_rows devices count) device)
  live-tells count gone device = elim (cases_lt device count) [
    | inl within ↦ rw (own-live count device within) (row-live device)
    | inr past ↦ rw (
      own-past (live_rows devices count) device (omega (arith, past, rows-count count)),
      gone device past,
    ) nothing-tells
  ]

module _ (under : ℕ → List DevNo) where
  -- one reference further down
  under-further : {device middle : ℕ} → Below under device middle → (below : ℕ)
      → Contains (under middle) (Dm below) → Below under device below
  under-further (direct has) below next = through has (direct next)
  under-further (through has lower) below next = through has (under-further lower below next)

  module _ (rows : List (List ℕ))
      (tells : (device : ℕ) → RowTells (under device) (own_of rows device)) where
    -- what links lead to from what a device refers to lies below the device
    pub reached-under : (device : ℕ) {n : ℕ} → Reached rows (own_of rows device) n
        → Below under device n
    reached-under device (at_first {number = n} has) = direct ((tells device n).0 has)
    reached-under device (further up has) = under-further (reached-under _ up) _ ((tells _ _).0 has)

    -- and back
    pub under-reached : {device below : ℕ} → Below under device below → (first : List ℕ)
        → ((n : ℕ) → Contains (own_of rows device) n → Reached rows first n)
        → Reached rows first below
    under-reached (direct {device = device} {below = below} has) first starts =
        starts below ((tells device below).1 has)
    under-reached (through {device = device} {next = next} has lower) first starts =
        under-reached lower first (λ n at. further (starts next ((tells device next).1 has)) at)

-- whether a device is suspended, by its mode
suspended-Decides : (mode : Mode) → Decides (is_suspended mode) (mode ≡ Suspended)
suspended-Decides mode = search rules

-- where the test passes, there is such a device
pub rests-within : (slots : List (Option DeviceVersions)) (marks : List Bool) (device other : ℕ)
    → rests_at slots marks device other ≡ true → other < length slots
rests-within slots marks device other e =
    grind (arith, nat_tests, slice_get_within)

module _ {S : Type 0} (m : Meaning S) (parts : Parts S) (st : Standing S) where
  -- what stands, as the definitions see it
  abbrev s : Stands S
  s = standing_of m st

  -- past the end no device stands
  past-gone : (number : ℕ) → length st.walk.slots.items ≤ number → slot_at s.devices number ≡ None
  past-gone number past = grind (arith, nat_tests, device-stands, slice_get_past)

  -- whether a device stands and is suspended
  stands-Decides : (number : ℕ)
      → Decides (slot_suspended (option_flatten (slice_get st.walk.slots.items number)))
      (IsSomeAnd (slot_at s.devices number) (λ slot. slot.mode ≡ Suspended))
  stands-Decides number = grind (arith, nat_tests, device-stands, suspended-Decides)

  module _ (rows : List (List ℕ)) (marks : List Bool) (device : ℕ)
      (is : rows ≡ live_rows s.devices (length st.walk.slots.items))
      (told : TellsReached rows (own_of rows device) marks) where
    -- each row tells what a live table refers to
    tells : (number : ℕ) → RowTells (live_under s.devices number) (own_of rows number)
    tells number = rw is (live-tells s.devices (length st.walk.slots.items) past-gone number)

    -- a device that stands has a row
    in-rows : (number : ℕ) → IsSomeAnd (slot_at s.devices number) (λ slot. slot.mode ≡ Suspended)
        → number < length rows
    in-rows number stands = grind (arith, nat_tests, is, rows-count, past-gone)

    -- the search among the marks decides whether a device rests below
    pub below-Decides : (b : Bool) → Decides b (SomeRestsAmong st.walk.slots.items marks device)
        → Decides b (SuspendedBelow m parts s device)
    below-Decides b found =
        let under = live_under s.devices in
        let each = λ (other : ℕ). Decides-and _ _ (Decides-not _ (Decides-eqb other device))
        (Decides-and _ _ (stands-Decides other) (told other)) in
        Decides-like b
        (λ f. let (differs, (rests, (within, below))) = (each f.0).0 f.1 in
        (f.0, differs, reached-under under rows tells device below, rests))
        (λ (other, differs, lies, rests). (
          other,
          (each other).1 (
            differs,
            (
              rests,
              (
                in-rows other rests,
                under-reached under rows tells lies (own_of rows device) (λ n has. at_first has),
              ),
            ),
          ),
        )) found
