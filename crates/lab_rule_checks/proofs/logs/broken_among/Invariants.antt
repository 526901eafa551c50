use Rattle.lab_model.proofs.Common.{◌≡◌, fold, take, no_files}
use Rattle.lab_rulebook.specs.LogRules.{files_after_line}
use Rattle.lab_standing.specs.Stands.{standing_of}
use Rattle.lab_rule_checks.specs.Logs.{NoneBroken}
use Rattle.lab_rule_checks.proofs.logs.broken_among.Given as goal

-- the files are those after the lines gone over, of which none breaks a rule
abbrev pub invariant-loop-line : goal.invariant-loop-line
invariant-loop-line g l = record {
  files : l.files ≡ fold files_after_line no_files (take l.line-index l.lines);
  none : NoneBroken (standing_of g.T.Target.meaning l.standing) l.lines l.line-index;
}
