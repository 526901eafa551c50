-- What stands is decided: modes, sizes, and whether a device that stands has a property. Whether a
-- command of a script breaks a rule where it stands is decided.
use Rattle.lab_model.proofs.Common.{rules, ◌≡◌, ◌∙◌, ℕ, List, Option, Some, None, ap, refl, Kind}
use Rattle.lab_model.proofs.Common.{Meaning, Shape, kinds, option_flatten, Slot, Table, Devices}
use Rattle.lab_model.specs.declared.phase.Phase.{Phase}
use Rattle.lab_model.proofs.Common.{Reaches, slot_at, In-kinds, member-place, ◌≢◌, ◌+◌, inr, true}
use Rattle.lab_model.proofs.Common.{slice_get, cases_eq, Dm}
use Rattle.lab_model.proofs.Common.{line_at, size_of, live_size, change}
use Rattle.lab_model.specs.declared.phase.Phase.TheVariants.{Before, Replayed}
use Rattle.lab_model.proofs.Common.{size_at}
use Rattle.lab_model.specs.declared.micro.Mode.{Mode}
use Rattle.lab_rulebook.specs.Parts.{Parts}
use Rattle.lab_rulebook.specs.ScriptRules.{Breaks, HasNoLive, IsLogged, IsReferred}
use Rattle.lab_rulebook.specs.ScriptRules.{IsUsed, ReachesPast, SomeRests, SuspendedBelow}
use Rattle.lab_rulebook.specs.ScriptRules.{by_log, by_table}
use Rattle.lab_model.specs.declared.rule.Rule.{Rule}
use Rattle.lab_model.specs.declared.rule.Rule.TheVariants.{V1, V2, V3, V4, V5, V6, V7, V8, V9, V10, V11}
use Rattle.lab_rulebook.specs.Standing.{Standing, table_meant, table_named}
use Rattle.law_one_output.proofs.Decide.{Decided, decided-as, decided-given, decided-item, some-holds, holds-some, decided-some, decided-either}
use Rattle.law_one_output.proofs.Decide.{decided-all, decided-both, decided-less, decided-never}
use Rattle.law_one_output.proofs.Decide.{decided-not, decided-or, decided-test}
use Rattle.lab_model.specs.declared.micro.Mode.TheVariants.{Running, Suspended}
use Rattle.lab_model.specs.declared.table_line.TableLine.{TableLine}
use Rattle.std.proofs.Common.{is_some}
use Rattle.lab_text.specs.Words.{words_of}
use Rattle.lab_script.specs.Task.{Task, create, load, message, ram, remove, replay, resume, status, on}
use Rattle.lab_script.specs.Task.{suspend, table, wait, device_asked, table_asked}
use Rattle.law_one_output.proofs.Below.{decided-below, decided-contains}
use Rattle.lab_model.specs.Fine.{live_under, under_live, TakesAt}
use Rattle.lab_model.specs.Below.{Below, ever_under}
use Rattle.std.specs.Prelude.{IsSomeAnd, ◌++◌, ◌∷◌, []}

-- whether an option has no value
pub decided-none : {X : Type 0} (o : Option X) → Decided (o ≡ None)
decided-none o = search rules

-- two modes
pub decided-mode : (one other : Mode) → Decided (one ≡ other)
decided-mode one other = search rules

-- two phases
pub decided-phase : (one other : Phase) → Decided (one ≡ other)
decided-phase one other = search rules

-- whether a size reaches an end
pub decided-reaches : (size : Option ℕ) (end : ℕ) → Decided (Reaches size end)
decided-reaches size end = search rules

-- some kind has a property
pub decided-kind : (P : Kind → Type 0) → ((kind : Kind) → Decided (P kind))
    → Decided ((kind : Kind) × P kind)
decided-kind P each = decided-as (λ at. (at.1, at.3))
    (λ at. let place = member-place at.0 kinds (In-kinds at.0) in (place.0, at.0, place.1, at.1))
    (decided-item (λ place kind. P kind) (λ place kind. each kind) kinds)

-- whether a device stands that has a property of its slots
pub decided-standing : {S : Type 0} (devices : Devices S)
    (P : ℕ → Slot (Table (Shape S)) → Type 0)
    → ((device : ℕ) (slot : Slot (Table (Shape S))) → Decided (P device slot))
    → Decided ((device : ℕ) × IsSomeAnd (slot_at devices device) (P device))
decided-standing devices P each = decided-as
    (λ at. (at.0, some-holds _ (at.3.0, ap option_flatten at.2 ∙ at.3.1, at.3.2)))
    (λ at. let has = holds-some (slot_at devices at.0) at.1 in
    (at.0, Some has.0, search (rules, has.1), (has.0, refl, has.2)))
    (decided-item _ (λ device entry. decided-given (P device) (each device) entry) devices)

module _ {S : Type 0} (m : Meaning S) (parts : Parts S) (s : Standing S) where
  -- a device of a name has a property of its slots
  pub decided-slot : (name : List ℕ) (P : ℕ → Slot (Table (Shape S)) → Type 0)
      → ((device : ℕ) (slot : Slot (Table (Shape S))) → Decided (P device slot))
      → Decided ((device : ℕ) × (slot : Slot (Table (Shape S)))
      × ((s.device_of name ≡ Some device) × (slot_at s.devices device ≡ Some slot))
      × P device slot)
  decided-slot name P each = decided-as (λ at. search) (λ at. search) (decided-given _
      (λ device. decided-given (P device) (each device) (slot_at s.devices device))
      (s.device_of name))

module _ {S : Type 0} (m : Meaning S) (parts : Parts S) (s : Standing S) where
  -- a device without a live table
  decided-no_live : (name : List ℕ) → Decided (HasNoLive m parts s name)
  decided-no_live name = decided-slot m parts s name (λ device slot. slot.live ≡ None)
      (λ device slot. decided-none slot.live)

  -- a reference past its device's size
  decided-past : (chosen : Table S) → Decided (ReachesPast m parts s chosen)
  decided-past chosen = decided-as (λ at. search)
      (λ at. (at.0, at.1, at.4, (at.2, (at.3, at.5, at.6))))
      (decided-item _ (λ number line. decided-kind _ (λ kind. decided-given _ (λ ref. decided-not
      (decided-reaches (size_at s.disks s.devices ref.dev)
      (ref.first + line.len))) ((m.shape line.target).reference kind))) chosen)

  -- another device below is suspended
  decided-suspended : (device : ℕ) → Decided (SuspendedBelow m parts s device)
  decided-suspended device = decided-as
      (λ at. let has = holds-some (slot_at s.devices at.0) at.1 in
      (at.0, has.2.0, has.2.1, some-holds (slot_at s.devices at.0) (has.0, has.1, has.2.2)))
      (λ at. let has = holds-some (slot_at s.devices at.0) at.3 in
      (at.0, some-holds (slot_at s.devices at.0) (has.0, has.1, (at.1, at.2, has.2))))
      (decided-standing s.devices (λ below slot. (below ≢ device)
      × Below (live_under s.devices) device below × (slot.mode ≡ Suspended))
      (λ below slot. decided-all (decided-not (cases_eq below device))
      (decided-below (live_under s.devices) s.devices (λ k gone. rw gone refl) device below)
      (decided-mode slot.mode Suspended)))

  -- a device doesn't run
  pub decided-rests : Decided (SomeRests m parts s)
  decided-rests = search (rules, decided-standing, decided-not, decided-mode)

  -- a table refers to a device
  decided-referred : (device : ℕ) → Decided (IsReferred m parts s device)
  decided-referred device = decided-as
      (λ at. let has = holds-some (slot_at s.devices at.0) at.1 in (at.0, has.0, has.1, has.2))
      (λ at. (at.0, some-holds _ (at.1, at.2, at.3))) (decided-standing s.devices _ (λ other slot.
      decided-contains (under_live slot.live ++ under_live slot.inactive) (Dm device)))

  -- a log line names it
  decided-logged : (device : ℕ) → Decided (IsLogged m parts s device)
  decided-logged device = decided-as (λ at. search) (λ at. search)
      (decided-item _ (λ number plan. decided-item (λ place line. line.device ≡ Some (Dm device))
      (λ place line. (search rules)) plan.lines) s.logs)

  -- a device is still used
  decided-used : (device : ℕ) → Decided (IsUsed m parts s device)
  decided-used device = decided-or (decided-referred device) by_table (λ a.
      decided-or (decided-both (decided-phase s.phase Replayed) (decided-logged device))
      (λ at. by_log at.0 at.1) (λ b.
      inr (λ used. elim used [ by_table at ↦ a at | by_log phase at ↦ b (phase, at) ])))

  -- a message that a table takes
  decided-takes : (held : Table (Shape S)) (sector : ℕ) (words : List (List ℕ))
      → Decided (TakesAt held sector words)
  decided-takes held sector words = decided-as (λ at. (at.0, at.2.0, at.1, at.2.1, at.2.2))
      (λ at. (at.0, at.2, (at.1, at.3, at.4))) (decided-given _
      (λ number. decided-given (λ (line : TableLine (Shape S)). line.target.takes words ≡ true)
      (λ line. decided-test (line.target.takes words) true) (slice_get held number))
      (line_at held sector))

  -- whether a command breaks a rule: each rule but V1 and V4 is one of some commands only
  pub decided-breaks : (task : Task) (rule : Rule) → Decided (Breaks m parts s task rule)
  decided-breaks task V1 = decided-either
      (decided-some _ (λ name. decided-none (s.device_of name)) (device_asked task))
      (decided-some _ (λ name. decided-none (table_named parts s name)) (table_asked task))
  decided-breaks (create name chosen) V2 = decided-test (is_some (s.device_of name)) true
  decided-breaks (ram number size) V2 = decided-test _ true
  decided-breaks (on name suspend) V3 = decided-no_live name
  decided-breaks (on name (message sector text)) V3 = decided-no_live name
  decided-breaks (on name status) V3 = decided-no_live name
  decided-breaks (on name table) V3 = decided-no_live name
  decided-breaks (on name resume) V3 = decided-as (λ at. search) (λ at. search)
      (decided-slot m parts s name _
      (λ device slot. decided-both (decided-none slot.live) (decided-none slot.inactive)))
  decided-breaks task V4 =
      decided-some (ReachesPast m parts s) decided-past (table_meant parts s task)
  decided-breaks (on name (load chosen)) V5 = decided-as (λ at. search) (λ at. search)
      (decided-slot m parts s name _ (λ device slot. decided-given _
      (λ loaded. decided-less (size_of loaded) (live_size slot.live)) (table_named parts s chosen)))
  decided-breaks (on name suspend) V6 = decided-as (λ at. search) (λ at. search)
      (decided-slot m parts s name _
      (λ device slot. decided-both (decided-mode slot.mode Running) (decided-suspended device)))
  decided-breaks (on name resume) V6 = decided-as (λ at. search) (λ at. search)
      (decided-slot m parts s name _ (λ device slot. decided-all (decided-mode slot.mode Running)
      (decided-test (is_some slot.inactive) true) (decided-suspended device)))
  decided-breaks wait V7 = decided-rests
  decided-breaks (on name remove) V8 =
      decided-given (IsUsed m parts s) decided-used (s.device_of name)
  decided-breaks (on name (message sector text)) V9 = decided-as (λ at. search) (λ at. search)
      (decided-slot m parts s name _ (λ device slot. decided-given _
      (λ held. decided-not (decided-takes held sector (words_of text))) slot.live))
  decided-breaks replay V10 = decided-not (decided-phase s.phase Before)
  decided-breaks wait V10 = decided-not (decided-phase s.phase Replayed)
  decided-breaks (on name (load chosen)) V11 = decided-as (λ at. search) (λ at. search)
      (decided-given _ (λ device. decided-given _ (λ loaded.
      let versions = change s.versions device (λ own. own ++ loaded ∷ []) in
      decided-below (ever_under m versions) versions (λ k gone. rw gone refl) device device)
      (table_named parts s chosen)) (s.device_of name))
  decided-breaks task rule = decided-never
