-- What holds of one number and of all others. Where devices change or are new, an event may come to
-- the same bios of those whose devices run as they did.
use Rattle.lab_model.proofs.Common.{rules, ◌≢◌, ℕ, ◌≡◌, suc, Bool, true, List, [], ◌∷◌}
use Rattle.lab_model.proofs.Common.{◌++◌, Option, Some, length, refl, ap, sym, ◌∙◌, arith}
use Rattle.lab_model.proofs.Common.{option_map, nat_cmp, Bio, slot_runs, change}
use Rattle.lab_model.proofs.Common.{slot_at, None-not-Some, Slot, State, Table}
use Rattle.lab_index.specs.Groups.{Groups}
use Rattle.lab_index.specs.Numbers.{Marks}
use Rattle.std.proofs.lemmas.Bool.{true≢false}
use Rattle.lab_bios.proofs.Numbers.{at-changed, at-other, at-unpushed}
use Rattle.lab_state.specs.Dependents.{DependentRows, device_of, no_rows}
use Rattle.lab_state.specs.Grouped.{IsKept}
use Rattle.lab_state.specs.HeldRows.{HeldRows}
use Rattle.lab_state.specs.Index.{IsMarked, goes, is_marked, state_of}
use Rattle.std.specs.FinMap as map

-- it holds of each
pub each-but : (P : ℕ → Type 0) (number : ℕ) → P number
    → ((other : ℕ) → other ≢ number → P other) → (other : ℕ) → P other
each-but P number here others other = search rules

-- a device runs just if it ran before
abbrev RunsAlike : {S : Type 0} → List (Option (Slot (Table S))) → List (Option (Slot (Table S)))
    → ℕ → Type 0
RunsAlike old new device = slot_runs (slot_at new device) ≡ slot_runs (slot_at old device)

-- a bio may go on as before where the device does that it depends on
goes-slots : {S : Type 0} (s : State S) (slots : List (Option (Slot (Table S)))) (number : ℕ)
    → ((at : ℕ) → device_of s.bios number ≡ Some at → RunsAlike s.devices slots at)
    → goes (record s { devices = slots }) number ≡ goes s number
goes-slots s slots number alike = search rules

-- a change of one device leaves the others as they run
changed-apart : {S : Type 0} (old new : List (Option (Slot (Table S)))) (device : ℕ)
    (f : Option (Slot (Table S)) → Option (Slot (Table S))) → new ≡ change old device f
    → (other : ℕ) → other ≢ device → RunsAlike old new other
changed-apart old _ device f is at apart = search (rules, at-other old (suc device) (suc at))

module _ {S : Type 0} {s : State S} {marks : Marks} (slots : List (Option (Slot (Table S))))
    (device : ℕ) (was : IsMarked s marks) where
  -- so the bios that don't depend on a device are still marked as they are to be, where no other
  -- one changes
  marked-apart : ((other : ℕ) → other ≢ device → RunsAlike s.devices slots other)
      → (number : ℕ) → device_of s.bios number ≢ Some device
      → is_marked marks number ≡ goes (record s { devices = slots }) number
  marked-apart alike number free = search rules

  -- so where one device changes
  pub marked_changed : (f : Option (Slot (Table S)) → Option (Slot (Table S)))
      → slots ≡ change s.devices device f → (number : ℕ) → device_of s.bios number ≢ Some device
      → is_marked marks number ≡ goes (record s { devices = slots }) number
  marked_changed f is = search (rules, changed-apart)

  -- and where one is put behind them all
  pub marked_pushed : (entry : Option (Slot (Table S))) → device ≡ length s.devices
      → slots ≡ s.devices ++ entry ∷ [] → (number : ℕ) → device_of s.bios number ≢ Some device
      → is_marked marks number ≡ goes (record s { devices = slots }) number
  marked_pushed entry last is = marked-apart (λ other apart. rw is (ap slot_runs
      (at-unpushed s.devices entry (suc other) (λ same. apart (omega arith)))))

-- what is kept beside the bios stays right where one device changes that runs just if it ran
pub kept-slots : {S : Type 0} {s : State S} {marks : Marks} {groups : Groups}
    {held : map.FinMap nat_cmp ℕ} {rows : DependentRows} {lines : HeldRows} {is_counted : Bool}
    {flights : List ℕ} (slots : List (Option (Slot (Table S)))) (counts : List ℕ) (device : ℕ)
    (f : Slot (Table S) → Slot (Table S))
    → slot_runs (option_map f (slot_at s.devices device)) ≡ slot_runs (slot_at s.devices device)
    → slots ≡ change s.devices device (option_map f) → counts ≡ flights
    → IsKept s marks groups held rows lines is_counted flights
    → IsKept (record s { devices = slots }) marks groups held rows lines is_counted counts
kept-slots {S} {s} slots counts device f same is all was = record {
  indexed = record {
    marked = record {
      ready = λ n. was.indexed.marked.ready n ∙ sym (goes-slots s slots n (λ at _. alike at));
      reach = was.indexed.marked.reach;
    };
    waits = was.indexed.waits;
  };
  grouped = was.grouped;
  listed = was.listed;
  lines = was.lines;
  counted = rw all was.counted;
}
  where
    alike : (at : ℕ) → RunsAlike s.devices slots at
    alike = each-but (RunsAlike s.devices slots) device
        (rw is (ap slot_runs (at-changed s.devices (suc device) (option_map f) refl) ∙ same))
        (changed-apart s.devices slots device (option_map f) is)

-- where there is no bio, nothing is kept
pub kept-none : {S : Type 0} (clock : ℕ) (slots : List (Option (Slot (Table S)))) (groups : Groups)
    {rows : DependentRows} {bios : List (Option Bio)} {marks : Marks} {flights : List ℕ}
    {held : map.FinMap nat_cmp ℕ} → bios ≡ [] → marks ≡ [] → held ≡ map.empty
    → rows ≡ no_rows → flights ≡ [] → {lines : HeldRows} → lines ≡ []
    → IsKept (state_of clock bios slots) marks groups held rows lines true flights
kept-none clock slots groups no_bios no_marks none_held none_listed no_flights =
    search (rules, true≢false, None-not-Some, map.get-empty)
