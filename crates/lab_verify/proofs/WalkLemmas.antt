-- Until the replay the logs are as they were read. The walk through a script, line by line.
use Rattle.lab_model.proofs.Common.{rules, ◌≡◌, List, sym, subst, Meaning, ◌∙◌, ◌⊎◌, inl, inr, ℕ}
use Rattle.lab_model.proofs.Common.{◌+◌, ◌<◌, Some, None, Err, ap, refl, arith, get_or, length, map}
use Rattle.lab_model.proofs.Common.{slice_get, length-map, slice_get-map, cases_lt}
use Rattle.lab_model.proofs.Common.{same_Some}
use Rattle.lab_script.specs.Task.{Task, task_of, replay}
use Rattle.lab_script.specs.declared.command.Command.{Command}
use Rattle.lab_script.specs.declared.command.Command.TheVariants.{Replay, Ram}
use Rattle.lab_rulebook.specs.Parts.{Parts}
use Rattle.lab_model.specs.declared.rule.Rule.{Rule}
use Rattle.lab_model.specs.declared.rule.Rule.TheVariants.{V10}
use Rattle.lab_rulebook.specs.ScriptRules.{Breaks}
use Rattle.lab_rulebook.specs.Standing.{Standing as Stands}
use Rattle.lab_rulebook.specs.Walked.{bound_log, standing_next}
use Rattle.lab_rulebook.proofs.FoundLemmas.{before-stable}
use Rattle.lab_standing.specs.Stands.{standing_of}
use Rattle.lab_model.specs.declared.phase.Phase.TheVariants.{Before}
use Rattle.lab_standing.specs.declared.standing.Standing.{Standing}
use Rattle.lab_verify.specs.Steps.{HasReadLogs, KeepsLogs, FaultAfter, IsLeast, StepTells}
use Rattle.lab_verify.specs.Steps.{TellsLogs}
use Rattle.lab_verify.specs.declared.parts.NamedLog.{NamedLog}
use Rattle.lab_script.specs.declared.command.ScriptLine.{ScriptLine}
use Rattle.lab_script.specs.Script.{ScriptRow, row_of, script_rows}
use Rattle.lab_rulebook.specs.Accepted.{LineBreaks, ReplaysAt, standing_before}
use Rattle.lab_refusal.specs.declared.fault.Refusal.{Refusal}
use Rattle.lab_refusal.specs.declared.fault.Refusal.TheVariants.{Fault, NoMemory}
use Rattle.lab_verify.specs.Walks.{HasWalked, WalkTells}
use Rattle.lab_verify.proofs.ReadTexts.{item-there}
use Rattle.lab_verify.proofs.Replays.{next-standing, no-second}

module _ {S : Type 0} (m : Meaning S) (parts : Parts S) where
  -- a command leaves the logs in wait, unless it is the replay
  pub logs-wait : (old new : Standing S) (task : Task) (named left : List NamedLog)
      → standing_of m new ≡ standing_next m parts (standing_of m old) task
      → KeepsLogs task named left → HasReadLogs parts old.phase named
      → HasReadLogs parts new.phase left
  logs-wait old new task named left stands keeps has start = search rules

  -- a replay that breaks no rule is the first
  pub replayed-obeys : (s : Standing S) (made : Stands S) (command : Command) → command ≡ Replay
      → ((rule : Rule) → Breaks m parts (standing_of m s) (task_of command) rule → ⊥)
      → (s.phase ≡ Before → made ≡ standing_next m parts (standing_of m s) replay)
      → made ≡ standing_next m parts (standing_of m s) (task_of command)
  replayed-obeys s made command is unbroken done =
      subst (λ (k : Command). made ≡ standing_next m parts (standing_of m s) (task_of k)) (sym is)
      (done (before-stable s.phase
      (subst (λ (k : Command). Breaks m parts (standing_of m s) (task_of k) V10 → ⊥) is
      (unbroken V10))))

-- a line with nothing in it
abbrev pub blank_line : ScriptLine
blank_line = record { number = 0; command = Ram 0 0 }

-- a line of a script is its row, by a slice of the same lines
pub row-there : (script : List ScriptRow) (lines items : List ScriptLine) (place : ℕ)
    → script ≡ script_rows lines → items ≡ lines → place < length items
    → slice_get script place ≡ Some (row_of (get_or items place blank_line))
row-there script lines items place same also within = search (rules, slice_get-map, item-there)

-- a script has as many rows as lines
pub script-length : (script : List ScriptRow) (lines : List ScriptLine) → script ≡ script_rows lines
    → length script ≡ length lines
script-length script lines same = ap length same ∙ length-map lines row_of

module _ {S : Type 0} (m : Meaning S) (parts : Parts S) where
  module _ (old new : Standing S) where
    -- what a replay tells
    abbrev pub ReplayTells : Type 0
    ReplayTells = TellsLogs (standing_of m old) new.logs.items new.fault

    -- a replay tells the logs' fault, and any other command leaves it
    pub fault-cases : (task : Task) → FaultAfter m old new task
        → ((task ≡ replay) × ReplayTells) ⊎ ((task ≡ replay → ⊥) × (new.fault ≡ old.fault))
    fault-cases replay tells = inl (refl, tells)
    fault-cases task same = inr ((λ is. cc), same)

    module _ (place : ℕ) (row : ScriptRow) (at : slice_get parts.script place ≡ Some row)
        (walked : HasWalked m parts place old) where
      -- so none up to it does
      free-more : ((rule : Rule) → Breaks m parts (standing_of m old) row.task rule → ⊥)
          → (earlier : ℕ) (other : ScriptRow) (rule : Rule) → earlier < place + 1
          → LineBreaks m parts earlier other rule → ⊥
      free-more free earlier other rule less (is_row, breaks) = elim (cases_lt earlier place) [
        | inl before ↦ walked.free earlier other rule before (is_row, breaks)
        | inr past ↦
            let here : earlier ≡ place = omega (arith, less, past) in
            let same : other ≡ row = same_Some other row (sym is_row ∙ rw here at) in
            free rule (rw (walked.stands, ← here, ← same) breaks)
      ]

      module _ (free : (rule : Rule)
          → Breaks m parts (standing_of m old) row.task rule → ⊥)
          (stands : standing_of m new ≡ standing_next m parts (standing_of m old) row.task) where
        -- what stands behind the line
        next : standing_of m new ≡ standing_next m parts (standing_before m parts place) row.task
        next = stands ∙ ap (λ (s : Stands S). standing_next m parts s row.task) walked.stands

        -- the logs' fault is silent where nothing was replayed
        silent-more : ((row.task ≡ replay) × ReplayTells)
            ⊎ ((row.task ≡ replay → ⊥) × (new.fault ≡ old.fault))
            → ((other : ℕ) → other < place + 1 → ReplaysAt m parts other → ⊥)
            → new.fault ≡ None
        silent-more (inl (is, tells)) gone = absurd (gone place (omega arith) (rw at is))
        silent-more (inr (other, same)) gone =
            same ∙ walked.silent (λ earlier less. gone earlier (omega (arith, less)))

        -- what was told, or is told here
        told-more : ((row.task ≡ replay) × ReplayTells)
            ⊎ ((row.task ≡ replay → ⊥) × (new.fault ≡ old.fault))
            → (other : ℕ) → other < place + 1 → ReplaysAt m parts other
            → TellsLogs (standing_before m parts other)
            (map (bound_log (standing_before m parts other)) parts.logs) new.fault
        told-more holds other less replays = elim (cases_lt other place) [
          | inl before ↦ elim holds [
            | inl here ↦ absurd (no-second m parts place row at
                (λ rule breaks. free rule (rw walked.stands breaks)) here.0 other before replays)
            | inr none ↦ rw none.1 (walked.told other before replays)
          ]
          | inr past ↦ let here : other ≡ place = omega (arith, less, past) in search rules
        ]

        -- the walk goes on
        pub walked-more : FaultAfter m old new row.task → HasWalked m parts (place + 1) new
        walked-more fault =
            search (rules, next, next-standing, free-more, silent-more, fault-cases, told-more)

      -- or ends at this line, whose refusal is that of the walk
      pub walk-refuses : (refusal : Refusal)
          → StepTells m parts (standing_of m old) (standing_of m new) row (Err refusal)
          → WalkTells m parts (Err refusal)
      walk-refuses NoMemory tells = tt
      walk-refuses (Fault fault) tells = record {
        place = place;
        row = row;
        rule = tells.0;
        is_row = at;
        least = subst (λ (s : Stands S). IsLeast (Breaks m parts s row.task) tells.0)
            walked.stands tells.1;
        first = walked.free;
        tells = tells.2;
      }
