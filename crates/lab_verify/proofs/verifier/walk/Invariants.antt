use Rattle.lab_model.proofs.Common.{◌≡◌, ◌++◌}
use Rattle.lab_script.specs.Script.{script_rows}
use Rattle.lab_rulebook.specs.Parts.{Parts}
use Rattle.lab_standing.specs.Sound.{IsSound}
use Rattle.lab_model.specs.declared.phase.Phase.TheVariants.{Before}
use Rattle.lab_verify.specs.Steps.{HasReadParts}
use Rattle.lab_verify.specs.Walks.{HasWalked}
use Rattle.lab_verify.proofs.MicrosGiven.{micros_before}
use Rattle.lab_verify.proofs.verifier.walk.Given as goal

-- the lines gone over break no rule, the logs are as they were read until the replay, and the
-- lines' micro-commands are added
abbrev pub invariant-loop-line : goal.invariant-loop-line
invariant-loop-line g l = record {
  sound : IsSound g.T.Target.meaning l.standing;
  walked : (parts : Parts g.row.T.Denot)
      → HasReadParts g.T.Target.meaning parts l.tables l.fn.logs.items Before
      → parts.script ≡ script_rows l.script.lines.items
      → HasWalked g.T.Target.meaning parts l.line-index l.standing
      × HasReadParts g.T.Target.meaning parts l.tables l.logs.items l.standing.phase
      × (l.micros.items
      ≡ l.fn.micros.items ++ micros_before g.T.Target.meaning parts l.line-index);
}
