-- The names in use along a script, the devices and their versions: what each command keeps. The
-- creates of a script are numbered from 0, in order.
use Rattle.lab_model.proofs.Common.{slice_get, rules, ◌≡◌, inl, inr, ℕ, ◌+◌, List, [], ◌∷◌, ◌++◌}
use Rattle.lab_model.proofs.Common.{Option, Some, None, length, refl, sym, ap, ◌∙◌, subst, arith}
use Rattle.lab_model.proofs.Common.{option_map, length_push, Meaning, Shape, created}
use Rattle.lab_model.proofs.Common.{option_flatten, Slot}
use Rattle.lab_model.proofs.Common.{Table, image, Devices, IsThere, length-change, slot_at}
use Rattle.lab_model.proofs.Common.{None-not-Some, Some-holds, CreatesFrom}
use Rattle.lab_script.specs.Task.{Task, ram, create, remove, replay, on, wait, sleep}
use Rattle.lab_script.specs.Slots.{slot_after}
use Rattle.lab_script.specs.Walk.{Names, change_found, devices_after, found_by, loads_after}
use Rattle.lab_script.specs.Walk.{names_after, steps_of}
use Rattle.lab_rulebook.specs.Parts.{Parts}
use Rattle.lab_rulebook.specs.Standing.{Standing, table_meant, with_version, walk_of}
use Rattle.lab_rulebook.specs.Walked.{rest_micros, standing_next}
use Rattle.lab_rulebook.proofs.NameLemmas.{NamesFine, names-renamed}
use Rattle.lab_rulebook.proofs.PlaceLemmas.{change-becomes, pushed-there, there-within}
use Rattle.lab_model.specs.declared.micro.Micro.{Micro}
use Rattle.lab_script.specs.Script.{ScriptRow}
use Rattle.lab_model.proofs.Common.{slice_get-append, joined-Some}
use Rattle.lab_script.specs.Steps.{on_line}
use Rattle.lab_rulebook.proofs.PlainSteps.{TaskIsPlain}

-- how many devices were made after a command
abbrev pub made_after : ℕ → Task → ℕ
made_after made (create name chosen) = made + 1
made_after made _ = made

-- a change of one item, or of none, leaves as many
length-found : {X : Type 0} (xs : List X) (o : Option ℕ) (f : X → X)
    → length (change_found xs o f) ≡ length xs
length-found xs o f = search (rules, length-change)

-- so many devices are numbered
pub devices-made : {L : Type 0} (devices : List (Option (Slot L))) (found : Option ℕ) (task : Task)
    (held : Option L)
    → length (devices_after devices found task held) ≡ made_after (length devices) task
devices-made devices found task held = search (rules, length_push, length-found)

-- and so many have versions
pub versions-made : {X : Type 0} (all : List (List X)) (found : Option ℕ) (task : Task)
    (held : Option X)
    → length (loads_after with_version [] all found task held) ≡ made_after (length all) task
versions-made all found task held = search (rules, length_push, length-found)

-- each name is of a device that stands, no two are of one, and each device has its versions
pub record SoundNames {S : Type 0} (names : Names) (devices : Devices S)
    (versions : List (List (Table S))) : Type 0 where
  pub fine : NamesFine devices names
  pub lengths : length devices ≡ length versions

-- an entry put at the end leaves the others
pushed-stays : {X : Type 0} (xs : List (Option X)) (entry : Option X) (j : ℕ) (x : X)
    → option_flatten (slice_get xs j) ≡ Some x
    → option_flatten (slice_get (xs ++ entry ∷ []) j) ≡ Some x
pushed-stays xs entry j x there = search (rules, slice_get-append, joined-Some)

module _ {S : Type 0} (devices : Devices S) where
  module _ (names : Names) (fine : NamesFine devices names) where
    -- names stay fine where the slots of a device change
    names-inside : (found : Option ℕ) (f : Slot (Table (Shape S)) → Slot (Table (Shape S)))
        → NamesFine (change_found devices found (option_map f)) names
    names-inside None f = fine
    names-inside (Some number) f = record {
      one = fine.one;
      there = λ name device is.
          let (slot, there) = fine.there name device is in
          elim (change-becomes devices number (option_map f) _ refl device) [
            | inl new ↦ (
              f slot,
              new.1 ∙ ap (option_map f) (ap (slot_at devices) (sym new.0) ∙ there),
            )
            | inr old ↦ (slot, old ∙ there)
          ];
    }

    -- where a device is made under a name
    names-made : (name : List ℕ) (made : Slot (Table (Shape S)))
        → NamesFine (devices ++ Some made ∷ [])
        (names_after names (length devices) (create name None))
    names-made name made =
        let next = devices ++ Some made ∷ [] in
        names-renamed devices next names fine name (Some (length devices)) (λ device is. (
          subst (IsThere next) (Some-holds is)
              (made, ap option_flatten (pushed-there devices (Some made))),
          λ there. omega (arith, Some-holds is, there-within devices device there.0 there.1),
        )) (λ other device apart is. let there = fine.there other device is in
        (there.0, pushed-stays devices (Some made) device there.0 there.1))

    -- and where the device of a name is taken out
    names-gone : (name : List ℕ) → NamesFine (change_found devices (names name) (λ entry. None))
        (names_after names (length devices) (on name remove))
    names-gone name = search (rules, names-renamed, None-not-Some, change-becomes)

    -- after each command on names and devices
    names-obeyed : (task : Task) (held : Option (Table (Shape S)))
        → NamesFine (devices_after devices (found_by names task) task held)
        (names_after names (length devices) task)
    names-obeyed (create name chosen) held = names-made name (created held)
    names-obeyed (on name remove) held = names-gone name
    names-obeyed task held = names-inside (found_by names task) (slot_after task held)

module _ {S : Type 0} where
  -- so it is of what stands
  abbrev pub Sound : Standing S → Type 0
  Sound s = SoundNames s.device_of s.devices s.versions

  -- and of what stands after each command
  pub sound-after : (m : Meaning S) (parts : Parts S) (s : Standing S) → Sound s → (task : Task)
      → Sound (standing_next m parts s task)
  sound-after m parts s sound (ram number size) = sound
  sound-after m parts s sound replay = sound
  sound-after m parts s sound wait = sound
  sound-after m parts s sound task =
      let found = found_by s.device_of task in
      let table = table_meant parts s task in
      record {
        fine = names-obeyed s.devices s.device_of sound.fine task (option_map (image m) table);
        lengths = devices-made s.devices found task (option_map (image m) table)
            ∙ ap (λ n. made_after n task) sound.lengths
            ∙ sym (versions-made s.versions found task table);
      }

module _ {S : Type 0} (m : Meaning S) (parts : Parts S) (s : Standing S) where
  -- the steps of a command, and the number of devices after it
  abbrev Counts : Task → Type 0
  Counts task = (line : ℕ) (rest : List Micro)
      → CreatesFrom (length (standing_next m parts s task).devices) rest
      → CreatesFrom (length s.devices) (on_line line (steps_of (walk_of s) task) ++ rest)

  -- of a plain command
  plain-counts : (task : Task) → TaskIsPlain task
      → length (standing_next m parts s task).devices ≡ length s.devices → Counts task
  plain-counts task plain same line rest more = search rules

  -- each command
  counts : (task : Task) → Counts task
  counts (create name chosen) = λ line rest more.
      (refl, subst (λ n. CreatesFrom n rest) (search (rules, devices-made)) more)
  counts (sleep time) = λ line rest more. (tt, more)
  counts (ram number size) = plain-counts (ram number size) tt refl
  counts replay = plain-counts replay tt refl
  counts wait = plain-counts wait tt refl
  counts task = plain-counts task tt (search (rules, devices-made))

-- the creates of the rest of a script are in order
pub creates-from : {S : Type 0} (m : Meaning S) (parts : Parts S) (s : Standing S)
    (rows : List ScriptRow) → CreatesFrom (length s.devices) (rest_micros m parts s rows)
creates-from m parts s [] = search rules
creates-from m parts s (row ∷ rows) =
    search (rules, counts, creates-from m parts (standing_next m parts s row.task) rows)
