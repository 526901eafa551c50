-- What a command that breaks no rule finds: its device, its table, and what that refers to.
use Rattle.lab_model.proofs.Common.{◌≡◌, ℕ, ◌+◌, List, [], Option, Some, length, refl, sym}
use Rattle.lab_model.proofs.Common.{ap, ◌∙◌, subst, Meaning, Shape}
use Rattle.lab_model.proofs.Common.{Scenario, Slot, Table, image, HasNoCycle, LinesStand}
use Rattle.lab_model.specs.declared.phase.Phase.TheVariants.{Before}
use Rattle.lab_model.proofs.Common.{Reaches, TableStands, size_at, slot_at}
use Rattle.lab_model.specs.declared.phase.Phase.{Phase}
use Rattle.lab_model.specs.declared.phase.Phase.TheVariants.{Replayed}
use Rattle.lab_model.specs.declared.micro.Mode.{Mode}
use Rattle.lab_model.specs.declared.micro.Mode.TheVariants.{Running}
use Rattle.std.specs.Option.{option_and_then, option_map}
use Rattle.lab_script.specs.Task.{Task, device_asked, replay, table_asked}
use Rattle.lab_script.specs.Walk.{WalkDevice, devices_after, found_by, known_at, loads_after}
use Rattle.lab_script.specs.Walk.{names_after, orders_for, steps_of}
use Rattle.lab_model.specs.declared.rule.Rule.{Rule}
use Rattle.lab_rulebook.specs.Parts.{Parts}
use Rattle.lab_rulebook.specs.Read.{WellRead}
use Rattle.lab_rulebook.specs.ScriptRules.{Breaks}
use Rattle.lab_rulebook.specs.Standing.{Standing, obeyed, table_meant, table_named, walk_of}
use Rattle.lab_rulebook.specs.Standing.{with_version}
use Rattle.lab_rulebook.specs.Walked.{standing_next}
use Rattle.lab_rulebook.proofs.PlaceLemmas.{some-there}
use Rattle.lab_rulebook.proofs.ReadVersions.{table-read}
use Rattle.lab_rulebook.proofs.SizeLemmas.{IsInside, image-no_gap, line-of-image, reaches-later}
use Rattle.lab_rulebook.proofs.SizeLemmas.{reaches-stable}
use Rattle.lab_rulebook.proofs.SoundNames.{Sound}
use Rattle.lab_rulebook.proofs.StandLemmas.{Goes, Later, Stands}
use Rattle.lab_model.specs.declared.rule.Rule.TheVariants as told
use Rattle.lab_rulebook.specs.ScriptRules as rules
use Rattle.lab_model.specs.Fine.{AllRun}
use Rattle.lab_model.proofs.Common.{inl, inr, slice_get, unwrap_or}

-- a phase that isn't another than before the replay
pub before-stable : (phase : Phase) → ((phase ≡ Before → ⊥) → ⊥) → phase ≡ Before
before-stable Before possible = refl
before-stable _ possible = absurd (possible (λ same. cc))

-- nor another than after it
pub replayed-stable : (phase : Phase) → ((phase ≡ Replayed → ⊥) → ⊥) → phase ≡ Replayed
replayed-stable Replayed possible = refl
replayed-stable _ possible = absurd (possible (λ same. cc))

-- a mode that isn't another than running
running-stable : (mode : Mode) → ((mode ≡ Running → ⊥) → ⊥) → mode ≡ Running
running-stable Running possible = refl
running-stable _ possible = absurd (possible (λ same. cc))

-- what the walk that compiles the script knows of a device
abbrev pub known : {S : Type 0} → Standing S → ℕ → Slot (Table (Shape S))
    → WalkDevice (Table (Shape S))
known s device slot = record {
  number = device;
  versions = unwrap_or (slice_get (walk_of s).loads device) 0;
  slot = slot;
}

-- what stands after a command on a device, with the table that it asks for
abbrev pub obeyed_by : {S : Type 0} → Meaning S → Standing S → Option ℕ → Task → Option (Table S)
    → Standing S
obeyed_by m s found task chosen = record s {
  device_of = names_after s.device_of (length s.devices) task;
  devices = devices_after s.devices found task (option_map (image m) chosen);
  versions = loads_after with_version [] s.versions found task chosen;
}

module _ {S : Type 0} (m : Meaning S) (parts : Parts S) (s : Standing S) where
  -- a command breaks no rule
  abbrev pub IsFree : Task → Type 0
  IsFree task = (rule : Rule) → Breaks m parts s task rule → ⊥

  -- the device of a command
  pub record Found (task : Task) : Type 0 where
    pub device : ℕ
    pub slot : Slot (Table (Shape S))
    pub named : found_by s.device_of task ≡ Some device
    pub there : slot_at s.devices device ≡ Some slot

  -- the steps of a command lead to what stands after it, as it should
  abbrev pub CommandGoes : Scenario S → Task → Type 0
  CommandGoes c task = Goes m c s (standing_next m parts s task) (steps_of (walk_of s) task)

  -- a command on its device goes by what the walk that compiles the script knows of that
  pub goes-found : (c : Scenario S) (task : Task) (d : Found task) (chosen : Option (Table S))
      → Goes m c s (obeyed_by m s (Some d.device) task chosen)
      (orders_for task (Some (known s d.device d.slot)) (length s.devices))
      → Goes m c s (obeyed m s task chosen) (steps_of (walk_of s) task)
  goes-found c task d chosen goes =
      let made = length s.devices in
      subst (λ o. Goes m c s (obeyed_by m s o task chosen)
      (orders_for task (option_and_then (known_at (walk_of s)) o) made)) (sym d.named)
      (subst (λ o. Goes m c s (obeyed_by m s (Some d.device) task chosen)
      (orders_for task (option_map (known s d.device) o) made)) (sym d.there) goes)

  -- so far, each reference of the table that a command asks for is inside the device that it names
  pub asked-inside : (task : Task) → IsFree task → (table : Table S)
      → table_meant parts s task ≡ Some table
      → IsInside s.disks s.devices (image m table)
  asked-inside task free table is number line kind ref is_line refers =
      let own = line-of-image m table number line is_line in
      let size = size_at s.disks s.devices ref.dev in
      subst (λ len. Reaches size (ref.first + len)) (ap (λ l. l.len) own.2)
      (reaches-stable size (ref.first + own.0.len) (λ past. free told.V4 (rw is
      (number, own.0, kind, ref, own.1, ap (λ l. l.target.reference kind) own.2 ∙ refers, past))))

  -- all devices run where none rests
  pub all-run : (rules.SomeRests m parts s → ⊥) → AllRun s.devices
  all-run none number slot there = running-stable slot.mode (λ rests. none (number, rw there rests))

  -- what is known where a command comes: what stands, what was read, and the scenario at the end
  pub record Here (c : Scenario S) : Type 0 where
    pub sound : Sound s
    pub stands : Stands m c s
    pub read : WellRead m parts
    pub acyclic : HasNoCycle m c
    pub now : Later m c s

  -- a command may come: it breaks no rule, it is well read, and what follows is known
  pub record May (c : Scenario S) (task : Task) : Type 0 where
    pub free : IsFree task
    pub lines : task ≡ replay → LinesStand c s.devices
    pub next : Later m c (standing_next m parts s task)

  module _ (c : Scenario S) (here : Here c) where
    -- a command finds the device that it asks for
    pub find : (task : Task) → IsFree task → (name : List ℕ)
        → device_asked task ≡ Some name → Found task
    find task free name asks =
        let named = some-there (s.device_of name)
        (λ none. free told.V1 (inl (rw asks none))) in
        let there = here.sound.fine.there name named.0 named.1 in
        record {
          device = named.0;
          slot = there.0;
          named = ap (option_and_then s.device_of) asks ∙ named.1;
          there = there.1;
        }

    -- the table that a command asks for, which may stand
    pub record Chosen (task : Task) : Type 0 where
      pub table : Table S
      pub is : table_meant parts s task ≡ Some table
      pub may_stand : TableStands c s.devices (image m table)

    -- a command finds the table that it asks for, which may stand
    pub choose : (task : Task) → IsFree task → (name : List ℕ)
        → table_asked task ≡ Some name → Chosen task
    choose task free name asks =
        let found = some-there (table_named parts s name)
        (λ none. free told.V1 (inr (rw asks none))) in
        let is : table_meant parts s task ≡ Some found.0 =
        ap (option_and_then (table_named parts s)) asks ∙ found.1 in
        record {
          table = found.0;
          is = is;
          may_stand = record {
            no_gap = image-no_gap m 0 found.0
                (table-read m parts here.read s name found.0 found.1).no_gap;
            inside = λ number line kind ref is_line refers.
                reaches-later s.disks c.disks here.now.disks s.devices ref.dev
                (ref.first + line.len)
                (asked-inside task free found.0 is number line kind ref is_line refers);
          };
        }
