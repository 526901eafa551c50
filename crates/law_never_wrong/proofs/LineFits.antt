-- Where a log's operation goes, or a piece that its line lets pass: to a device that stands, and
-- inside it, since what stands on the walk stands in the state, and the script's tables stand at
-- each place of the walk. A state still fits where a log takes its next line.
use Rattle.lab_model.proofs.Common.{◌≡◌, ℕ, zero, suc, ◌<◌, ◌≤◌, true, List, [], ◌∷◌, Some}
use Rattle.lab_model.proofs.Common.{slice_get, rules, DevicesStand, Reaches}
use Rattle.lab_model.proofs.Common.{TableStands, size_at, DevNo, Ram, Dm, Kind, Flush, Span}
use Rattle.lab_model.proofs.Common.{Meaning, numbered, LogPlan, Scenario, Slot}
use Rattle.lab_model.specs.declared.plan.LogLine.{LogLine}
use Rattle.lab_model.proofs.Common.{State, Table, image, Devices, devices_image, slot_at}
use Rattle.lab_model.proofs.Common.{slot_image, None-not-Some, FineFrom, HasTable, LineOn}
use Rattle.lab_model.specs.declared.phase.Phase.{Phase}
use Rattle.lab_model.proofs.Common.{size_of-image, ◌+◌, ◌++◌, Option, None, inl, inr}
use Rattle.lab_model.specs.declared.phase.Phase.TheVariants.{Replayed}
use Rattle.lab_model.proofs.Common.{drop, map, refl, sym, ◌∙◌, subst, ltb-false, true≢false}
use Rattle.lab_model.proofs.Common.{le_refl, slice_get_within, Bio, effect, FilesFine}
use Rattle.lab_model.specs.declared.phase.Phase.TheVariants.{Before}
use Rattle.lab_model.proofs.Common.{is_started, is_enabled, line_effect, next_line}
use Rattle.lab_model.specs.declared.phase.Phase.TheVariants.{Waited}
use Rattle.lab_model.proofs.Common.{with_log, LogState, length-change_numbered, drop-found}
use Rattle.lab_model.proofs.Common.{Some-holds, In, length-replicate, le-leb}
use Rattle.lab_model.specs.Tables.{end_of}
use Rattle.lab_model.specs.declared.micro.Micro.{Micro}
use Rattle.lab_model.specs.LogEffect.{stands, kind_of}
use Rattle.lab_model.specs.Fine.{FileFine}
use Rattle.law_never_wrong.specs.Fits.{FitsDevice, FitsDisks, FitsMapped, Fits, FitsPhase}
use Rattle.law_never_wrong.proofs.FitsKept.{image-of-device, table-there}
use Rattle.lab_model.specs.declared.entry.Entry.{Entry}
use Rattle.lab_model.specs.declared.entry.Entry.TheVariants.{Operate, Add, Wait}
use Rattle.lab_model.specs.declared.event.Event.TheVariants.{Line}
use Rattle.law_slots.proofs.ByLine.{Comes, Entered, entry-does, line-comes, made_by, Then-so}
use Rattle.law_slots.proofs.DoneLemmas.{logs-over}
use Rattle.law_never_wrong.specs.NeverWrong.{Goes}
use Rattle.law_never_wrong.proofs.Survives.{goes-then, Stands, came-same, changed-files}
use Rattle.law_never_wrong.proofs.Survives.{parents-fly, went-fits, child-rests}
use Rattle.law_never_wrong.proofs.NumberedEntries.{behind-cases, entry-stays}

module _ {S : Type 0} (m : Meaning S) (c : Scenario S) (s : State S) (disks : FitsDisks c s) where
  module _ (kind : Kind) (span : Span) (end : ℕ) (within : end_of kind span ≤ end) where
    -- a mapped device that an end reaches has what ends there, if it has a table
    reaches-mapped : (number : ℕ)
        → Reaches (size_at c.disks (devices_image m s.devices) (Dm number)) end
        → HasTable (devices_image m s.devices) (Dm number) → FitsMapped s number kind span
    reaches-mapped n reaches has =
        search (rules, table-there m s n has.1 (rw has.2 has.3), size_of-image, le-leb)

    -- a device that an end reaches on the walk has what ends there
    pub reaches-fits : (device : DevNo)
        → Reaches (size_at c.disks (devices_image m s.devices) device) end
        → HasTable (devices_image m s.devices) device → FitsDevice s device kind span
    reaches-fits device reaches has = search (rules, reaches-mapped)

  -- a device where an operation fits stands
  pub fits-stands : (device : DevNo) (kind : Kind) (span : Span) → FitsDevice s device kind span
      → stands s device ≡ true
  fits-stands device kind span fits = search rules

  -- so does a device that an end reaches
  pub reaches-stands : (d : DevNo) (end : ℕ)
      → Reaches (size_at c.disks (devices_image m s.devices) d) end
      → HasTable (devices_image m s.devices) d → stands s d ≡ true
  reaches-stands d end reaches has =
      search (rules, fits-stands d Flush (record { first = 0; len = 0 }), reaches-fits)

-- the tables stand at each place of the walk that a script goes on from
pub FineFrom-tables : {S : Type 0} (m : Meaning S) (c : Scenario S) (phase : _) (devices : _)
    (micros : _) → FineFrom m c phase devices micros → DevicesStand c devices
FineFrom-tables m c phase devices [] fine = fine.0.tables
FineFrom-tables m c phase devices (micro ∷ micros) fine = fine.0.tables

-- and the lines of the logs find their devices from the replay to the wait
pub FineFrom-line : {S : Type 0} (m : Meaning S) (c : Scenario S) (devices : Devices S)
    (micros : List Micro) → FineFrom m c Replayed devices micros → (number place : ℕ)
    (plan : LogPlan) (line : LogLine) → numbered c.logs number ≡ Some plan
    → slice_get plan.lines place ≡ Some line → LineOn c devices line.device line.entry
FineFrom-line m c devices micros fine zero place plan line planned there =
    absurd (None-not-Some planned)
FineFrom-line m c devices [] fine (suc number) place plan line planned there =
    fine.0.lines number place plan line planned there
FineFrom-line m c devices (micro ∷ micros) fine (suc number) place plan line planned there =
    fine.0.lines number place plan line planned there

-- a device that a sector's end reaches has a table
pub reaches-table : {S : Type 0} (c : Scenario S) (devices : Devices S) (device : DevNo) (end : ℕ)
    → 0 < end → Reaches (size_at c.disks devices device) end → HasTable devices device
reaches-table c devices (Ram number) end some reaches = tt
reaches-table {S} c devices (Dm number) end some reaches = search rules

module _ {S : Type 0} (m : Meaning S) (c : Scenario S) (s : State S)
    (tables : DevicesStand c (devices_image m s.devices)) (disks : FitsDisks c s) where
  -- a live table stands
  pub live-stands : (device : ℕ) (slot : Slot (Table S)) (table : Table S)
      → slot_at s.devices device ≡ Some slot → slot.live ≡ Some table
      → TableStands c (devices_image m s.devices) (image m table)
  live-stands d slot _ at live = search (rules, tables d (slot_image m slot), image-of-device)

-- where a log may take its next line, the logs have started, and haven't all ended
takes-phase : {S : Type 0} (c : Scenario S) (s : State S) (number : ℕ) → Comes c s number
    → (phase : Phase) → s.started ≡ is_started phase → FitsPhase c s phase → phase ≡ Replayed
takes-phase c s number takes Before is none = absurd (true≢false (sym takes.started ∙ is))
takes-phase c s number takes Replayed is none = refl
takes-phase c s number takes Waited is ended =
    let over = logs-over c s ended.0 number takes.plan takes.log takes.planned takes.stands in
    search (rules, slice_get_within, ltb-false)

-- a line goes on: the log may use its file, and the device that it names stands
line-goes : {S : Type 0} (m : Meaning S) (c : Scenario S) (s : State S) → FitsDisks c s
    → (number : ℕ) (log : LogState) (line : LogLine) (entry : Entry) (o : Option DevNo)
    → line.device ≡ o → FileFine log.files o entry
    → LineOn c (devices_image m s.devices) o entry
    → Goes (line_effect s number log line entry) (λ next. Unit {0})
line-goes m c s disks number log line (Wait time) o is fine finds = tt
line-goes m c s disks number log line entry None is fine finds = absurd finds
line-goes m c s disks number log line Add (Some device) is fine finds =
    rw (is, reaches-stands m c s disks device _ finds.0 finds.1) tt
line-goes m c s disks number log line entry (Some device) is fine finds =
    rw (is, reaches-stands m c s disks device _ finds.0 finds.1, fine) tt

module _ {S : Type 0} (m : Meaning S) (c : Scenario S) (s : State S) (fits : Fits m c s)
    (number : ℕ) (takes : Comes c s number) (replayed : fits.phase ≡ Replayed) where
  -- the line may come with the files that the log has, and so may the rest after it
  files-fine : FilesFine takes.log.files (takes.line ∷ drop (takes.log.taken + 1) takes.plan.lines)
  files-fine = subst (FilesFine takes.log.files)
      (drop-found takes.plan.lines takes.log.taken takes.line takes.comes)
      (fits.files number takes.plan takes.log takes.planned takes.stands)

  -- it finds its device
  finds : LineOn c (devices_image m s.devices) takes.line.device takes.line.entry
  finds = search (rules, FineFrom-line)

  -- the state with another log and with these bios more
  abbrev begun : (LogState → LogState) → List Bio → State S
  begun f made = record (with_log s number f) { bios = s.bios ++ map (λ bio. Some bio) made }

  -- the bio that the line makes, if it makes one, stands
  made-stands : (f : LogState → LogState) (all : List Bio) (entry : Entry) (device : Option DevNo)
      → takes.line.entry ≡ entry → takes.line.device ≡ device
      → LineOn c (devices_image m s.devices) device entry → (at : ℕ) (bio : Bio) → In bio
      (made_by number takes.line.number entry device)
      → Stands m c (begun f all) at bio
  made-stands f all (Operate action span) (Some device) asks on found at bio (inl same) =
      let device = reaches-fits m c (begun f all) fits.disks (kind_of action) span _ (le_refl _)
      device found.0 found.1 in
      subst (Stands m c (begun f all) at) same (search (rules, length-replicate, child-rests))
  made-stands f all (Operate action span) (Some device) asks on found at bio (inr none) =
      absurd none
  made-stands f all entry device asks on found at bio none = absurd none

  -- so the state fits after what the entry does
  entered-fits : (next : State S) → Entered s number takes.line takes.line.entry next
      → Fits m c next
  entered-fits next does =
      let made = made_by number takes.line.number takes.line.entry takes.line.device in
      let after = begun does.f made in
      let files = does.files (next_line takes.log) in
      rw does.is (went-fits m c s fits after refl fits.disks
      (parents-fly s after (λ at above flying. entry-stays s.bios _ at above flying.there)) refl
      refl (subst (FitsPhase c after) (sym replayed) tt)
      (length-change_numbered s.logs (λ l. does.f (next_line l)) number)
      (changed-files c s number (λ l. does.f (next_line l)) fits.files
      (λ other_plan other is_plan stood. rw (Some-holds (sym is_plan ∙ takes.planned))
      (rw (Some-holds (sym stood ∙ takes.stands))
      (rw (files, does.taken (next_line takes.log)) files-fine.1))))
      (λ at bio there. elim (behind-cases s.bios made at bio there) [
        | inl old ↦ inl (came-same s.bios at bio old)
        | inr new ↦
            inr (made-stands does.f made takes.line.entry takes.line.device refl refl finds at bio
            new.1)
      ]))

-- the line of a log that may come goes on
pub line-keeps-Fits : {S : Type 0} (m : Meaning S) (c : Scenario S) (s : State S) → Fits m c s
    → (number : ℕ) → is_enabled c s (Line number) ≡ true
    → Goes (effect m c s (Line number)) (Fits m c)
line-keeps-Fits m c s fits number may =
    let takes = line-comes c s number may in
    let replayed = takes-phase c s number takes fits.phase fits.is_started fits.in_phase in
    let entry = takes.line.entry in
    rw (takes.planned, takes.stands, takes.comes) (goes-then (Fits m c) _
    (line-goes m c s fits.disks number takes.log takes.line entry takes.line.device refl
    (files-fine m c s fits number takes replayed).0 (finds m c s fits number takes replayed))
    (Then-so (Entered s number takes.line entry) (Fits m c)
    (entered-fits m c s fits number takes replayed) _
    (entry-does s number takes.log takes.line entry)))
