use Rattle.lab_model.proofs.Common.{◌∙◌, ◌<◌, arith, length, slice_get-get_or}
use Rattle.lab_standing.specs.Stands.{standing_of}
use Rattle.lab_rule_checks.proofs.LogLemmas.{files-more, none-more}
use Rattle.lab_rule_checks.proofs.logs.broken_among.Goals as goal

-- the line breaks none
pub loop-line-preserved : goal.loop-line-preserved
loop-line-preserved g c =
    let s = standing_of g.T.Target.meaning c.args.standing.now in
    let lines = c.args.lines.now in
    let at = c.loop-line.line-index in
    let within : c.loop-line.line-index < length c.args.lines.now = omega arith in
    record {
      files = c.in_ok-follow-in-None.ensures.next ∙ files-more c.loop-line.files lines at _
          (slice_get-get_or lines at _ within) c.loop-line.invariant.files;
      none = none-more s lines at _ c.loop-line.files (slice_get-get_or lines at _ within)
          c.loop-line.invariant.none c.loop-line.invariant.files
          (rw c.in-None.is at c.broken_entry.ensures);
    }
