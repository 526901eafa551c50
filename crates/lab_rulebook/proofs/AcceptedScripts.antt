-- An accepted scenario is fine: its script by each command, and its log lines each find their
-- device, and their file added or open.
use Rattle.lab_model.proofs.Common.{rules, ◌≡◌, ℕ, [], Some, slice_get, refl, zero, suc, List, ◌∷◌}
use Rattle.lab_model.proofs.Common.{fold, take, Meaning, HasNoCycle, LogPlan}
use Rattle.lab_model.proofs.Common.{Scenario, Files, FilesFine, Fine, LinesStand, LineOn}
use Rattle.lab_model.specs.declared.plan.LogLine.{LogLine}
use Rattle.lab_model.proofs.Common.{None-not-Some, no_files}
use Rattle.lab_rulebook.specs.Accepted.{KeepsRules, ReplaysAt, standing_before}
use Rattle.lab_rulebook.specs.AcceptedIsFine.{AcceptedIsFine}
use Rattle.lab_rulebook.specs.LogRules.{files_after_line}
use Rattle.lab_rulebook.specs.Parts.{Parts}
use Rattle.lab_rulebook.specs.Read.{WellRead}
use Rattle.lab_rulebook.specs.Standing.{Standing, nothing}
use Rattle.lab_rulebook.specs.Walked.{scenario_of, standing_after}
use Rattle.lab_rulebook.proofs.ClearLemmas.{IsClear, fine-from, is-clear, known-at-end}
use Rattle.lab_rulebook.proofs.ClearLemmas.{later-at, replay-place}
use Rattle.lab_rulebook.proofs.SizeLemmas.{DisksStay, reaches-later, reaches-stable}
use Rattle.lab_rulebook.proofs.SoundNames.{creates-from, Sound}
use Rattle.lab_rulebook.proofs.StandLemmas.{Later}
use Rattle.lab_rulebook.specs.LogRules as logs
use Rattle.lab_model.specs.declared.rule.Rule.TheVariants as told

module _ {S : Type 0} (c : Scenario S) (s : Standing S) where
  -- a line that breaks neither V12 nor V14 finds its device, where disks stay
  line-on : (line : LogLine) (files : Files) → DisksStay s.disks c.disks
      → (logs.Breaks s files line told.V12 → ⊥) → (logs.Breaks s files line told.V14 → ⊥)
      → LineOn c s.devices line.device line.entry
  line-on line files stay has inside = search (rules, reaches-later, reaches-stable)

  -- nor do the rest of a log's lines break V13
  files-fine : (files : Files) (lines : List LogLine)
      → ((place : ℕ) (line : LogLine) → slice_get lines place ≡ Some line
      → logs.Breaks s (fold files_after_line files (take place lines)) line told.V13 → ⊥)
      → FilesFine files lines
  files-fine files [] allows = tt
  files-fine files (line ∷ lines) allows = (
    (search (rules, allows zero line refl)),
    files-fine (files_after_line files line) lines (λ place. allows (suc place)),
  )

module _ {S : Type 0} (m : Meaning S) where
  -- no name is in use
  nothing-sound : Sound (nothing {S = S})
  nothing-sound = search rules

  module _ (parts : Parts S) (keeps : KeepsRules m parts) where
    -- the script is clear
    script-clear : IsClear m parts nothing parts.script
    script-clear = search (rules, is-clear)

    -- no chain of references ends where it starts
    script-acyclic : HasNoCycle m (scenario_of m parts)
    script-acyclic = (known-at-end m parts nothing parts.script script-clear nothing-sound
        (search rules)).acyclic

    -- what stands at the script's end is what the scenario has
    later-end : Later m (scenario_of m parts) (standing_after m parts parts.script)
    later-end = search rules

    -- the log lines find their devices at the replay
    lines-at : (place : ℕ) → ReplaysAt m parts place
        → LinesStand (scenario_of m parts) (standing_before m parts place).devices
    lines-at place replays number at plan line is_log is_line =
        line-on (scenario_of m parts) (standing_before m parts place) line no_files
        (later-at m parts (scenario_of m parts) nothing parts.script place script-clear
        later-end).disks (λ breaks. keeps.lines number at plan line told.V12
        (place, replays, is_log, (is_line, breaks)))
        (λ breaks. keeps.lines number at plan line told.V14
        (place, replays, is_log, (is_line, breaks)))

    -- and each log's files are added and open where they are used
    files-at : (place : ℕ) → ReplaysAt m parts place → (number : ℕ) (plan : LogPlan)
        → slice_get (scenario_of m parts).logs number ≡ Some plan → FilesFine no_files plan.lines
    files-at place replays number plan is_log =
        files-fine (scenario_of m parts) (standing_before m parts place) no_files
        plan.lines (λ at line is_line breaks. keeps.lines number at plan line told.V13
        (place, replays, is_log, (is_line, breaks)))

    -- so the scenario is fine
    accepted-fine : WellRead m parts → Fine m (scenario_of m parts)
    accepted-fine read =
        let c = scenario_of m parts in
        let (place, row, is_row, is_replay) =
        replay-place m parts nothing parts.script refl script-clear in
        record {
          acyclic = script-acyclic;
          creates = creates-from m parts nothing parts.script;
          files = files-at place (rw is_row is_replay);
          script = fine-from m parts c read script-acyclic nothing parts.script
              nothing-sound (record {
                devices = λ number slot there. absurd (None-not-Some there);
                lines = tt;
              }) script-clear later-end
              (λ place row is_row is_replay. lines-at place (rw is_row is_replay));
        }

  -- the theorem
  pub accepted-is-fine : AcceptedIsFine m
  accepted-is-fine parts read keeps = accepted-fine parts keeps read
