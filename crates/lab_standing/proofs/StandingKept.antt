-- What stands after a command: the devices with their tables, the counts of versions, and the whole.
use Rattle.lab_model.proofs.Common.{rules, ◌≡◌, ◌∙◌, ◌+◌, ℕ, zero, suc, List, [], ◌∷◌, ◌++◌, Option}
use Rattle.lab_model.proofs.Common.{Some, None, length, map, refl, ap, sym, subst, option_map}
use Rattle.lab_model.proofs.Common.{is_some, length_push, Meaning, Shape, change, created, slot_at}
use Rattle.lab_model.proofs.Common.{Slot, Table, image}
use Rattle.std.specs.Option.{option_map_or}
use Rattle.std.proofs.lemmas.Bool.{true≢false}
use Rattle.lab_script.specs.Alike.{Any, Both, SlotsAlike, WalksAlike}
use Rattle.lab_script.specs.Slots.{slot_after}
use Rattle.lab_script.specs.Task.{Task, create, load, remove, table_asked, on}
use Rattle.lab_script.specs.Walk.{Walk, after, change_found, counted, devices_after}
use Rattle.lab_script.specs.Walk.{found_by, loads_after, version_for}
use Rattle.lab_rulebook.specs.Standing.{Standing as Stands, obeyed, with_version}
use Rattle.lab_standing.specs.Image.{devices_of, own_of}
use Rattle.lab_standing.specs.Sound.{Counted, HaveVersions}
use Rattle.lab_standing.proofs.Images.{length-devices_of}
use Rattle.lab_standing.proofs.DevicesKept.{Are, change-same, devices-change, devices-push}
use Rattle.lab_standing.proofs.DevicesKept.{entry-change, after-seen, filled-seen, first-seen}
use Rattle.lab_standing.proofs.DevicesKept.{number-there}
use Rattle.lab_standing.proofs.LinkedAfter.{pairs-after, pairs-map}
use Rattle.std.specs.Prelude.{slice_get, unwrap_or}

-- two options that both hold something or don't have the same first version
first-same : {K L : Type 0} (one : Option K) (other : Option L) → is_some one ≡ is_some other
    → option_map {U = ℕ} (λ _. 0) one ≡ option_map (λ _. 0) other
first-same None None same = refl
first-same (Some x) (Some y) same = refl
first-same (Some x) None same = absurd (true≢false same)
first-same None (Some y) same = absurd (true≢false (sym same))

-- a device's count is that of its versions
count-own : {L : Type 0} (loads : List ℕ) (versions : List (List L)) → Counted loads versions
    → (device : ℕ) → unwrap_or (slice_get loads device) 0 ≡ length (own_of versions device)
count-own [] [] counts zero = refl
count-own [] [] counts (suc device) = count-own [] [] counts device
count-own (count ∷ loads) (own ∷ versions) counts zero = counts.0
count-own (count ∷ loads) (own ∷ versions) counts (suc device) =
    count-own loads versions counts.1 device
count-own _ _ counts device = absurd counts

-- a command loads a version where it asks for a table
version-asked : (w : Walk ℕ) (task : Task) → is_some (version_for w task) ≡ is_some (table_asked
    task)
version-asked w task = search rules

-- a count goes up where a version more is kept
count-more : {L K : Type 0} (version : Option K) (chosen : Option L)
    → is_some version ≡ is_some chosen → (count : ℕ) (own : List L) → count ≡ length own
    → counted count version ≡ length (with_version own chosen)
count-more None None same count own is = is
count-more (Some number) (Some table) same count own is =
    ap (λ n. n + 1) is ∙ sym (length_push own table)
count-more None (Some table) same count own is = cc
count-more (Some number) None same count own is = cc

-- each device that is kept is alike the one that stands
slots-alike : {S : Type 0} (m : Meaning S) (slots : List (Option (Slot ℕ)))
    (versions : List (List (Table S))) → HaveVersions slots versions → (number : ℕ)
    → Both (SlotsAlike Any) (slot_at (devices_of m slots versions) number) (slot_at slots number)
slots-alike m [] [] have number = search (rules, number-there)
slots-alike m (None ∷ slots) (own ∷ versions) have zero = search (rules, number-there)
slots-alike m (Some slot ∷ slots) (own ∷ versions) have zero = search (rules, number-there)
slots-alike m (slot ∷ slots) (own ∷ versions) have (suc number) =
    search (rules, number-there, slots-alike m slots versions have.1 number)
slots-alike m _ _ have number = search (rules, number-there)

module _ {S : Type 0} (m : Meaning S) (w : Walk ℕ) (versions : List (List (Table S)))
    (have : HaveVersions w.devices versions) (counts : Counted w.loads versions) where
  -- the devices with their tables
  abbrev devices : List (Option (Slot (Table (Shape S))))
  devices = devices_of m w.devices versions

  -- after a command that loads nothing
  changed : (task : Task) (found : Option ℕ)
      → Are m (change_found w.devices found (option_map (slot_after task None))) versions
      (change_found devices found (option_map (slot_after task None)))
  changed task None = (refl, have)
  changed task (Some device) =
      let own = own_of versions device in
      subst (λ left. Are m (change w.devices device (option_map (slot_after task None))) left
      (change devices device (option_map (slot_after task None)))) (change-same versions device)
      (devices-change m (option_map (slot_after task None)) (option_map (slot_after task None))
      (λ own. own)
      w.devices versions device (entry-change m (slot_after task None) own own
      (slot_after task None) (after-seen m own task None None tt)) have)

  -- after a remove
  removed : (found : Option ℕ) → Are m (change_found w.devices found (λ entry. None)) versions
      (change_found devices found (λ entry. None))
  removed None = (refl, have)
  removed (Some device) = subst (λ left. Are m (change w.devices device (λ entry. None)) left
      (change devices device (λ entry. None))) (change-same versions device)
      (devices-change m (λ entry. None) (λ entry. None) (λ own. own) w.devices versions device
      (λ entry has. (refl, tt)) have)

  -- after a load, whose table is the next version
  loaded : (name chosen : List ℕ) (table : Table S) (found : Option ℕ)
      → Are m (change_found w.devices found (option_map (slot_after (on name (load chosen))
      (Some (option_map_or (λ number. unwrap_or (slice_get w.loads number) 0) found 0)))))
      (change_found versions found (λ own. with_version own (Some table)))
      (change_found devices found (option_map (slot_after (on name (load chosen)) (Some
      (image m table)))))
  loaded name chosen table None = (refl, have)
  loaded name chosen table (Some device) =
      let own = own_of versions device in
      let fill = λ (number : ℕ). slot_after {L = ℕ} (on name (load chosen)) (Some number) in
      let filled = slot_after (on name (load chosen)) (Some (image m table)) in
      subst (λ number. Are m (change w.devices device (option_map (fill number)))
      (change versions device (λ own. with_version own (Some table)))
      (change devices device (option_map filled))) (sym (count-own w.loads versions counts device))
      (devices-change m (option_map (fill (length own))) (option_map filled)
      (λ own. with_version own (Some table)) w.devices versions device
      (entry-change m (fill (length own)) own (own ++ table ∷ []) filled
      (filled-seen m own table (on name (load chosen)))) have)

  -- after each command that has the table that it asks for
  after-are : (task : Task) (chosen : Option (Table S))
      → is_some chosen ≡ is_some (table_asked task)
      → Are m (after w task (version_for w task)).devices
      (loads_after with_version [] versions (found_by w.device_of task) task chosen)
      (devices_after devices (found_by w.device_of task) task (option_map (image m) chosen))
  after-are (create name part) chosen same =
      let first = first-seen m chosen in
      let all = devices-push m (created (option_map (λ _. 0) chosen)) (with_version [] chosen)
      first.1 w.devices versions have in
      subst (λ version. Are m (w.devices ++ Some (created version) ∷ [])
      (versions ++ with_version [] chosen ∷ [])
      (devices ++ Some (created (option_map (image m) chosen)) ∷ [])) (first-same chosen part same)
      (all.0 ∙ ap (λ slot. devices ++ Some slot ∷ []) first.0, all.1)
  after-are (on name (load part)) (Some table) same = loaded name part table (w.device_of name)
  after-are (on name (load part)) None same = absurd (true≢false (sym same))
  after-are (on name remove) chosen same = removed (w.device_of name)
  after-are task chosen same = changed task (found_by w.device_of task)

  -- so the versions that a command leaves are those of the walk that it leaves
  pub sound-after : (task : Task) (chosen : Option (Table S))
      → is_some chosen ≡ is_some (table_asked task) → (next : Walk ℕ) (left : List (List (Table S)))
      → next ≡ after w task (version_for w task)
      → left ≡ loads_after with_version [] versions (found_by w.device_of task) task chosen
      → HaveVersions next.devices left × Counted next.loads left
  sound-after task chosen same next left walked kept = rw (walked, kept)
      ((after-are task chosen same).1, search (rules, pairs-after, count-more, version-asked))

  -- the walk that is kept sees the devices as they stand, with numbers for their tables
  pub walk-alike : WalksAlike Any (record {
    device_of = w.device_of;
    devices = devices;
    loads = map length versions;
  }) w
  walk-alike = record {
    device_of = λ name. refl;
    devices = λ number. slots-alike m w.devices versions have number;
    made = length-devices_of m w.devices versions;
    loads = sym (pairs-map length w.loads versions counts);
  }

  -- what stands after a command, by the walk and the versions that it leaves
  pub obeyed-stands : (s : Stands S) (task : Task) (chosen : Option (Table S))
      → is_some chosen ≡ is_some (table_asked task) → s.device_of ≡ w.device_of
      → s.devices ≡ devices → s.versions ≡ versions
      → record s {
        device_of = (after w task (version_for w task)).device_of;
        devices = devices_of m (after w task (version_for w task)).devices
            (loads_after with_version [] versions (found_by w.device_of task) task chosen);
        versions = loads_after with_version [] versions (found_by w.device_of task) task chosen;
      } ≡ obeyed m s task chosen
  obeyed-stands s task chosen same named stood kept = search (rules, length-devices_of, after-are)
