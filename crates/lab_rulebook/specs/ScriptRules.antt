-- The rules that a line of a script can break where it stands (dmsetup(8); the rules and their
-- numbers are this project's own).
use Rattle.std.specs.Prelude.{◌≡◌, ◌≢◌, ℕ, ◌+◌, ◌<◌, ◌==◌, true, List, [], ◌∷◌, Some, None, Contains, IsSome, slice_get, ◌++◌, IsSomeAnd, ◌⊎◌}
use Rattle.std.specs.List.{list_any}
use Rattle.lab_sector.specs.declared.device.DevNo.TheVariants.{Dm}
use Rattle.lab_sector.specs.declared.request.Kind.{Kind}
use Rattle.lab_target.specs.declared.verdict.Ref.{Ref}
use Rattle.lab_target.specs.Meaning.{Meaning, Shape}
use Rattle.lab_model.specs.declared.micro.Mode.TheVariants.{Running, Suspended}
use Rattle.lab_model.specs.declared.rule.Rule.{Rule}
use Rattle.lab_model.specs.declared.rule.Rule.TheVariants.{V1, V2, V3, V4, V5, V6, V7, V8, V9, V10, V11}
use Rattle.lab_model.specs.declared.table_line.TableLine.{TableLine}
use Rattle.lab_model.specs.Below.{Below, ever_under}
use Rattle.lab_model.specs.Lists.{change}
use Rattle.lab_model.specs.Scenario.{LogPlan}
use Rattle.lab_model.specs.declared.plan.LogLine.{LogLine}
use Rattle.lab_model.specs.State.{Slot}
use Rattle.lab_model.specs.Tables.{Table, size_of}
use Rattle.lab_text.specs.Words.{words_of}
use Rattle.lab_script.specs.Task.{Task, ram, create, load, suspend, resume, remove, message, status, table, replay, wait, device_asked, table_asked, on}
use Rattle.lab_model.specs.declared.phase.Phase.TheVariants.{Before, Replayed, Waited}
use Rattle.lab_model.specs.Sizes.{Reaches, live_size, size_at}
use Rattle.lab_model.specs.Slots.{slot_at}
use Rattle.lab_rulebook.specs.Parts.{Parts}
use Rattle.lab_rulebook.specs.Standing.{Standing, table_meant, table_named}
use Rattle.lab_model.specs.Fine.{TakesAt, under_live, live_under}

module _ {S : Type 0} (m : Meaning S) (parts : Parts S) (s : Standing S) where
  -- the name is of a device that stands, and something holds of its number and its slots
  abbrev pub OnNamed : List ℕ → (ℕ → Slot (Table (Shape S)) → Type 0) → Type 0
  OnNamed name Holds = (device : ℕ) × (slot : Slot (Table (Shape S)))
      × ((s.device_of name ≡ Some device) × (slot_at s.devices device ≡ Some slot))
      × Holds device slot

  -- a command names an unknown device, or an unknown table or one that names an unknown device
  abbrev pub IsUnknown : Task → Type 0
  IsUnknown task = IsSomeAnd (device_asked task) (λ name. s.device_of name ≡ None)
      ⊎ IsSomeAnd (table_asked task) (λ name. table_named parts s name ≡ None)

  -- a device without a live table
  abbrev pub HasNoLive : List ℕ → Type 0
  HasNoLive name = OnNamed name (λ device slot. slot.live ≡ None)

  -- a reference of a table that isn't inside the size that its device has, over the whole line
  abbrev pub ReachesPast : Table S → Type 0
  ReachesPast chosen = (number : ℕ) × (line : TableLine S) × (kind : Kind) × (ref : Ref)
      × (slice_get chosen number ≡ Some line) × ((m.shape line.target).reference kind ≡ Some ref)
      × (Reaches (size_at s.disks s.devices ref.dev) (ref.first + line.len) → ⊥)

  -- another device that is reachable through live tables is suspended
  abbrev pub SuspendedBelow : ℕ → Type 0
  SuspendedBelow device = (below : ℕ) × (below ≢ device) × Below (live_under s.devices) device below
      × IsSomeAnd (slot_at s.devices below) (λ slot. slot.mode ≡ Suspended)

  -- a device that doesn't run
  abbrev pub SomeRests : Type 0
  SomeRests = (device : ℕ) × IsSomeAnd (slot_at s.devices device) (λ slot. slot.mode ≢ Running)

  -- a live or inactive table refers to a device
  abbrev pub IsReferred : ℕ → Type 0
  IsReferred device = (other : ℕ) × (slot : Slot (Table (Shape S)))
      × (slot_at s.devices other ≡ Some slot)
      × Contains (under_live slot.live ++ under_live slot.inactive) (Dm device)

  -- a log line other than a wait names a device, as the replay has bound it
  abbrev pub IsLogged : ℕ → Type 0
  IsLogged device = (number place : ℕ) × (plan : LogPlan) × (line : LogLine)
      × (slice_get s.logs number ≡ Some plan) × (slice_get plan.lines place ≡ Some line)
      × (line.device ≡ Some (Dm device))

  -- a device is still used: a table refers to it, or, after the replay and before any wait, a log
  pub data IsUsed (device : ℕ) : Type 0 where
    by_table : IsReferred device → IsUsed device
    by_log : s.phase ≡ Replayed → IsLogged device → IsUsed device

  -- a command breaks a rule where it stands
  abbrev pub Breaks : Task → Rule → Type 0
  -- V1: an unknown device name, an unknown table, or a table that names an unknown device
  Breaks task V1 = IsUnknown task
  -- V2: a create of a name in use, or a disk of a number in use
  Breaks (create name chosen) V2 = IsSome (s.device_of name)
  Breaks (ram number size) V2 = list_any (λ disk. disk.number == number) s.disks ≡ true
  -- V3: a suspend, message, status or table of a device without a live table, or a resume of one
  -- without any table
  Breaks (on name suspend) V3 = HasNoLive name
  Breaks (on name (message sector text)) V3 = HasNoLive name
  Breaks (on name status) V3 = HasNoLive name
  Breaks (on name table) V3 = HasNoLive name
  Breaks (on name resume) V3 =
      OnNamed name (λ device slot. (slot.live ≡ None) × (slot.inactive ≡ None))
  -- V4: at a create or load, a reference of a line isn't inside the size that its device has there
  Breaks task V4 = IsSomeAnd (table_meant parts s task) ReachesPast
  -- V5: a load of a table that is shorter than the live one
  Breaks (on name (load chosen)) V5 = OnNamed name (λ device slot. (loaded : Table S)
      × (table_named parts s chosen ≡ Some loaded) × (size_of loaded < live_size slot.live))
  -- V6: a running device is suspended, by a suspend or for a resume's swap, while another device
  -- that is reachable from it through live tables is suspended
  Breaks (on name suspend) V6 =
      OnNamed name (λ device slot. (slot.mode ≡ Running) × SuspendedBelow device)
  Breaks (on name resume) V6 = OnNamed name (λ device slot. (slot.mode ≡ Running)
      × IsSome slot.inactive × SuspendedBelow device)
  -- V7: a device isn't running at a wait
  Breaks wait V7 = SomeRests
  -- V8: a remove of a device that is still used
  Breaks (on name remove) V8 = (device : ℕ) × (s.device_of name ≡ Some device) × IsUsed device
  -- V9: a message to a sector past the end, or one that the line there doesn't take
  Breaks (on name (message sector text)) V9 = OnNamed name (λ device slot. (held : Table (Shape S))
      × (slot.live ≡ Some held) × (TakesAt held sector (words_of text) → ⊥))
  -- V10: a second replay or wait, or a wait before the replay
  Breaks replay V10 = s.phase ≢ Before
  Breaks wait V10 = s.phase ≢ Replayed
  -- V11: a load that closes a cycle over all tables loaded so far, with its own; a create can't,
  -- since its device has no name yet
  Breaks (on name (load chosen)) V11 = (device : ℕ) × (loaded : Table S)
      × (s.device_of name ≡ Some device) × (table_named parts s chosen ≡ Some loaded)
      × Below (ever_under m (change s.versions device (λ own. own ++ loaded ∷ []))) device device
  Breaks _ _ = ⊥

  -- a rule is broken at the script's end
  abbrev pub EndBreaks : Rule → Type 0
  -- V7: a device isn't running, and there was no wait
  EndBreaks V7 = (s.phase ≢ Waited) × SomeRests
  -- V10: there was no replay
  EndBreaks V10 = s.phase ≡ Before
  EndBreaks _ = ⊥
