-- What one command leaves of what stood: versions, disks, and the logs once they are bound. An
-- accepted script, command by command.
use Rattle.lab_model.proofs.Common.{arith, ◌≡◌, ◌⊎◌, inl, inr, List, [], ◌∷◌, ◌++◌, refl, Meaning}
use Rattle.lab_model.proofs.Common.{Scenario, None-not-Some, nat_tests, ℕ, zero, suc}
use Rattle.lab_model.specs.declared.plan.DiskPlan.{DiskPlan}
use Rattle.lab_model.proofs.Common.{Some, fold, slice_get, take, sym, ◌∙◌, subst, HasNoCycle}
use Rattle.lab_model.proofs.Common.{FineFrom, LinesStand}
use Rattle.lab_model.specs.declared.phase.Phase.TheVariants.{Before, Replayed, Waited}
use Rattle.lab_script.specs.Task.{Task, ram, replay, wait, create, load, clear as emptied, suspend}
use Rattle.lab_script.specs.Task.{on}
use Rattle.lab_script.specs.Task.{resume, remove, message, status, table as shown, sleep}
use Rattle.lab_script.specs.Walk.{found_by}
use Rattle.lab_model.specs.declared.rule.Rule.{Rule}
use Rattle.lab_rulebook.specs.Parts.{Parts}
use Rattle.lab_rulebook.specs.Standing.{Standing, table_meant}
use Rattle.lab_rulebook.specs.Walked.{rest_micros, standing_next}
use Rattle.lab_rulebook.proofs.FoundLemmas.{all-run, IsFree, CommandGoes, Here, May}
use Rattle.lab_rulebook.proofs.ReferenceLemmas.{versions-stay}
use Rattle.lab_rulebook.proofs.SizeLemmas.{DisksStay}
use Rattle.lab_rulebook.proofs.StandLemmas.{Later, Stands, place-fine}
use Rattle.lab_script.specs.Script.{ScriptRow}
use Rattle.lab_rulebook.specs.Read.{WellRead}
use Rattle.lab_rulebook.specs.ScriptRules.{Breaks, EndBreaks}
use Rattle.lab_rulebook.proofs.KnownLemmas.{KnownFine, known-after}
use Rattle.lab_rulebook.proofs.LoadLemmas.{clear-goes, create-goes, load-goes, remove-goes}
use Rattle.lab_rulebook.proofs.SoundNames.{Sound, sound-after}
use Rattle.lab_rulebook.proofs.SuspendLemmas.{resume-goes, suspend-goes}
use Rattle.lab_rulebook.proofs.TellLemmas.{message-goes, ram-goes, replay-goes, sleep-goes}
use Rattle.lab_rulebook.proofs.TellLemmas.{status-goes, table-goes, wait-goes}
use Rattle.lab_model.specs.declared.rule.Rule.TheVariants as told
use Rattle.lab_model.specs.Fine.{AllRun, EndFine}
use Rattle.lab_model.specs.declared.phase.Phase.{Phase}
use Rattle.lab_model.proofs.Common.{Devices, rules}

-- a disk more leaves the others
disks-push : (disks : List DiskPlan) (disk : DiskPlan) → DisksStay disks (disks ++ disk ∷ [])
disks-push [] disk number size = grind (arith, nat_tests, None-not-Some)
disks-push (first ∷ disks) disk number size =
    grind (arith, nat_tests, None-not-Some, disks-push disks disk number size)

-- a script may end behind its replay, where all devices run or its wait is done
end-fine : {S : Type 0} (devices : Devices S) (phase : Phase) → (phase ≡ Before → ⊥)
    → ((phase ≡ Waited → ⊥) → AllRun devices) → EndFine devices phase
end-fine devices phase ended runs = search rules

module _ {S : Type 0} (m : Meaning S) (parts : Parts S) (s : Standing S) where
  -- what is known at the end of what stands after a command that breaks no rule is known of what
  -- stood before it
  pub later-before : (c : Scenario S) (task : Task) → IsFree m parts s task
      → Later m c (standing_next m parts s task) → Later m c s
  later-before c (ram number size) free later = record {
    versions = later.versions;
    disks = λ disk sectors is. later.disks disk sectors
        (disks-push s.disks (record { number = number; size = size }) disk sectors is);
    logs = later.logs;
  }
  later-before c replay free later = record {
    versions = later.versions;
    disks = later.disks;
    logs = λ after_replay. absurd (free told.V10 after_replay);
  }
  later-before c wait free later = record {
    versions = later.versions;
    disks = later.disks;
    logs = λ after_replay. later.logs (λ same. cc);
  }
  later-before c task free later = record {
    versions = λ device version table is. later.versions device version table
        (versions-stay s.versions (found_by s.device_of task) task (table_meant parts s task)
        device version table is);
    disks = later.disks;
    logs = later.logs;
  }

  -- a command leaves the phase, or is the replay or the wait
  pub phase-cases : (task : Task) → ((standing_next m parts s task).phase ≡ s.phase)
      ⊎ ((task ≡ replay) ⊎ (task ≡ wait))
  phase-cases task = search arith

module _ {S : Type 0} (m : Meaning S) (parts : Parts S) where
  -- what stands after more commands
  abbrev pub standing_from : Standing S → List ScriptRow → Standing S
  standing_from s rows = fold (λ before row. standing_next m parts before row.task) s rows

  -- the commands break no rule, from here to the end
  abbrev pub IsClear : Standing S → List ScriptRow → Type 0
  IsClear s [] = (rule : Rule) → EndBreaks m parts s rule → ⊥
  IsClear s (row ∷ rows) = IsFree m parts s row.task
      × IsClear (standing_next m parts s row.task) rows

  -- place by place
  pub is-clear : (s : Standing S) (rows : List ScriptRow)
      → ((place : ℕ) (row : ScriptRow) (rule : Rule) → slice_get rows place ≡ Some row
      → Breaks m parts (standing_from s (take place rows)) row.task rule → ⊥)
      → ((rule : Rule) → EndBreaks m parts (standing_from s rows) rule → ⊥) → IsClear s rows
  is-clear s [] free ends = ends
  is-clear s (row ∷ rows) free ends = (
    λ rule. free zero row rule refl,
    is-clear (standing_next m parts s row.task) rows (λ place. free (suc place)) ends,
  )

  -- so all references are known, and close no cycle
  pub known-at-end : (s : Standing S) (rows : List ScriptRow) → IsClear s rows → Sound s
      → KnownFine m s.versions → KnownFine m (standing_from s rows).versions
  known-at-end s [] clear sound fine = fine
  known-at-end s (row ∷ rows) clear sound fine =
      known-at-end (standing_next m parts s row.task) rows clear.1
      (sound-after m parts s sound row.task) (known-after m parts s sound fine row.task clear.0)

  -- where nothing was replayed before and something is at the end, there is a replay
  pub replay-place : (s : Standing S) (rows : List ScriptRow) → s.phase ≡ Before → IsClear s rows
      → (place : ℕ) × (row : ScriptRow) × (slice_get rows place ≡ Some row) × (row.task ≡ replay)
  replay-place s [] before clear = absurd (clear told.V10 before)
  replay-place s (row ∷ rows) before clear = elim (phase-cases m parts s row.task) [
    | inl same ↦
        let later = replay-place (standing_next m parts s row.task) rows (same ∙ before) clear.1 in
        (suc later.0, later.1, later.2, later.3)
    | inr (inl is) ↦ (zero, row, refl, is)
    | inr (inr is) ↦ absurd (subst (IsFree m parts s) is clear.0 told.V10
        (λ same. let wrong : Before ≡ Replayed = sym before ∙ same in cc))
  ]

  module _ (c : Scenario S) where
    -- what is known at the end of what stands there is known of what stands at each place
    pub later-at : (s : Standing S) (rows : List ScriptRow) (place : ℕ) → IsClear s rows
        → Later m c (standing_from s rows) → Later m c (standing_from s (take place rows))
    later-at s [] zero clear later = later
    later-at s [] (suc place) clear later = later
    later-at s (row ∷ rows) zero clear later = later-before m parts s c row.task clear.0
        (later-at (standing_next m parts s row.task) rows zero clear.1 later)
    later-at s (row ∷ rows) (suc place) clear later =
        later-at (standing_next m parts s row.task) rows place clear.1 later

    module _ (read : WellRead m parts) (acyclic : HasNoCycle m c) where
      -- each command that breaks no rule leads to what it should
      pub command-goes : (s : Standing S) → Here m parts s c → (task : Task)
          → May m parts s c task → CommandGoes m parts s c task
      command-goes s at (ram number size) may = ram-goes m parts s c at number size
      command-goes s at (create name chosen) may = create-goes m parts s c at name chosen may
      command-goes s at (on name (load chosen)) may = load-goes m parts s c at name chosen may
      command-goes s at (on name emptied) may = clear-goes m parts s c at name may
      command-goes s at (on name suspend) may = suspend-goes m parts s c at name may
      command-goes s at (on name resume) may = resume-goes m parts s c at name may
      command-goes s at (on name remove) may = remove-goes m parts s c at name may
      command-goes s at (on name (message sector text)) may =
          message-goes m parts s c at name sector text may
      command-goes s at (on name status) may = status-goes m parts s c at name may
      command-goes s at (on name shown) may = table-goes m parts s c at name may
      command-goes s at (sleep time) may = sleep-goes m parts s c at time
      command-goes s at replay may = replay-goes m parts s c at may
      command-goes s at wait may = wait-goes m parts s c at may

      -- the rest of a clear script may come, where the log lines find their devices at each replay
      pub fine-from : (s : Standing S) (rows : List ScriptRow) → Sound s → Stands m c s
          → IsClear s rows → Later m c (standing_from s rows)
          → ((place : ℕ) (row : ScriptRow) → slice_get rows place ≡ Some row
          → row.task ≡ replay → LinesStand c (standing_from s (take place rows)).devices)
          → FineFrom m c s.phase s.devices (rest_micros m parts s rows)
      fine-from s [] sound stands clear later ready = (
        place-fine m c s stands (λ number. ⊥),
        end-fine s.devices s.phase (clear told.V10)
            (λ before. all-run m parts s (λ rests. clear told.V7 (before, rests))),
      )
      fine-from s (row ∷ rows) sound stands clear later ready =
          let next = standing_next m parts s row.task in
          let at : Here m parts s c = record {
            sound = sound;
            stands = stands;
            read = read;
            acyclic = acyclic;
            now = later-at s (row ∷ rows) zero clear later;
          } in
          let may : May m parts s c row.task = record {
            free = clear.0;
            lines = ready zero row refl;
            next = later-at next rows zero clear.1 later;
          } in
          let goes = command-goes s at row.task may in
          goes.leads row.number (rest_micros m parts next rows)
          (fine-from next rows (sound-after m parts s sound row.task) goes.stands clear.1 later
          (λ place. ready (suc place)))
