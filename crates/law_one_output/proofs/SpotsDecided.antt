-- Whether a rule is broken at a spot is decided.
use Rattle.std.specs.Option.{IsSomeAnd}
use Rattle.lab_model.proofs.Common.{false, rules, ◌≡◌, inl, inr, Option, Some, None, slice_get}
use Rattle.lab_model.proofs.Common.{refl, Files, DevNo, Dm, Ram, Meaning, Shape}
use Rattle.lab_model.proofs.Common.{Slot, Table, HasTable}
use Rattle.lab_model.specs.declared.plan.LogLine.{LogLine}
use Rattle.lab_model.specs.declared.phase.Phase.TheVariants.{Before, Waited}
use Rattle.lab_model.proofs.Common.{slot_at}
use Rattle.lab_model.specs.declared.entry.Entry.{Entry}
use Rattle.lab_model.specs.Files.{allows}
use Rattle.lab_model.specs.declared.rule.Rule.{Rule}
use Rattle.lab_model.specs.declared.rule.Rule.TheVariants.{V7, V10, V12, V13, V14}
use Rattle.lab_script.specs.Task.{Task, replay}
use Rattle.lab_rulebook.specs.Accepted.{standing_before}
use Rattle.lab_rulebook.specs.Limits.{WithinLimits}
use Rattle.lab_rulebook.specs.Parts.{Parts}
use Rattle.lab_rulebook.specs.ScriptRules.{EndBreaks}
use Rattle.lab_rulebook.specs.Standing.{Standing}
use Rattle.lab_rulebook.specs.Told.{IsBroken, Spot, at_budget, at_command, at_end, at_limits}
use Rattle.lab_rulebook.specs.Told.{at_line}
use Rattle.lab_rulebook.specs.Walked.{scenario_of, standing_after}
use Rattle.lab_rulebook.specs.LogRules as logs
use Rattle.law_one_output.proofs.Decide.{decided-test, Decided, decided-as, decided-both, some-holds, holds-some}
use Rattle.law_one_output.proofs.Decide.{decided-either, decided-given, decided-item, decided-less}
use Rattle.law_one_output.proofs.Decide.{decided-never, decided-not}
use Rattle.law_one_output.proofs.RulesDecided.{decided-breaks, decided-rests, decided-phase}
use Rattle.law_one_output.proofs.RulesDecided.{decided-reaches}

-- an option has a value
decided-value : {X : Type 0} (o : Option X) → Decided ((x : X) × (o ≡ Some x))
decided-value None = inr (λ at. let is = at.1 in cc)
decided-value (Some x) = inl (x, refl)

-- whether a command is a replay
decided-is_replay : (task : Task) → Decided (task ≡ replay)
decided-is_replay replay = inl refl
decided-is_replay task = inr (λ same. cc)

-- ---- the lines of logs

module _ {S : Type 0} (s : Standing S) where
  -- whether a device has a live table, or is a disk
  decided-table : (device : DevNo) → Decided (HasTable s.devices device)
  decided-table (Ram number) = inl tt
  decided-table (Dm number) = decided-as (λ at. search) (λ at. search)
      (decided-given (λ (slot : Slot (Table (Shape S))). (table : Table (Shape S))
      × (slot.live ≡ Some table)) (λ slot. decided-value slot.live) (slot_at s.devices number))

  -- whether a log line breaks V13
  decided-v13 : (files : Files) (device : Option DevNo) (entry : Entry)
      → Decided (IsSomeAnd device (λ device. allows files device entry ≡ false))
  decided-v13 files None entry = decided-never
  decided-v13 files (Some device) entry =
      decided-test (allows files device entry) false

  -- whether a line breaks a rule
  decided-log : (files : Files) (line : LogLine) (rule : Rule)
      → Decided (logs.Breaks s files line rule)
  decided-log files line V12 = search (rules, decided-never, decided-not, decided-table)
  decided-log files line V13 = decided-v13 files line.device line.entry
  decided-log files line V14 = search (rules, decided-never, decided-not, decided-reaches)
  decided-log files line rule = decided-never

-- ---- limits

-- whether the parts are past a limit
decided-limits : {S : Type 0} (parts : Parts S) → Decided (WithinLimits parts → ⊥)
decided-limits parts = search (rules, decided-not)

-- ---- spots

-- whether a rule is broken at a script's end
decided-end : {S : Type 0} (m : Meaning S) (parts : Parts S) (s : Standing S) (rule : Rule)
    → Decided (EndBreaks m parts s rule)
decided-end m parts s V7 =
    decided-both (decided-not (decided-phase s.phase Waited)) (decided-rests m parts s)
decided-end m parts s V10 = decided-phase s.phase Before
decided-end m parts s rule = decided-never

-- whether a rule is broken at a spot
pub decided-spot : {S : Type 0} (m : Meaning S) (parts : Parts S) (spot : Spot)
    → Decided (IsBroken m parts spot)
decided-spot m parts at_limits = decided-limits parts
decided-spot m parts (at_command place rule) = decided-as (λ at. (at.0, (at.1, at.2)))
    (λ at. (at.0, at.1.0, at.1.1)) (decided-given _
    (λ row. decided-breaks m parts (standing_before m parts place) row.task rule)
    (slice_get parts.script place))
decided-spot m parts (at_end rule) =
    decided-end m parts (standing_after m parts parts.script) rule
decided-spot m parts (at_line number place rule) = decided-as (λ at.
    let (row_at, row, is_row, (is_replay, breaks)) = at.2.2 in
    let replays = some-holds (slice_get parts.script row_at) (row, is_row, is_replay) in
    (at.0, at.2.0, (row_at, replays, at.1, (at.2.1, breaks))))
    (λ at. let has = holds-some (slice_get parts.script at.2.0) at.2.1 in
    (at.0, at.2.2, (at.1, at.2.3.0, (at.2.0, has.0, has.1, (has.2, at.2.3.1)))))
    (decided-given _ (λ plan. decided-given _ (λ line. decided-item _ (λ at row. decided-both
    (decided-is_replay row.task)
    (decided-log (standing_before m parts at) (logs.files_at plan.lines place) line rule))
    parts.script)
    (slice_get plan.lines place)) (slice_get (scenario_of m parts).logs number))
decided-spot m parts at_budget = search (rules, decided-either, decided-less)
