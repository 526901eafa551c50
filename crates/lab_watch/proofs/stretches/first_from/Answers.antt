-- What the map has from the place on begins with it.
use Rattle.std.proofs.Common.{◌∙◌, sym}
use Rattle.lab_watch.proofs.Firsts.{first-none, first-of}
use Rattle.lab_watch.proofs.stretches.first_from.Goals as goal

pub returns-in_err-end-clause-first : goal.returns-in_err-end-clause-first
returns-in_err-end-clause-first c = c.from_residual.ensures
    ∙ first-none c.args.place c.args.stretches.now.entries
    (sym (c.range.ensures.between tt) ∙ c.in_err-end.ensures.steps.0)

pub returns-clause-first : goal.returns-clause-first
returns-clause-first c = first-of c.args.place c.args.stretches.now.entries _ _
    (sym (c.range.ensures.between tt) ∙ c.in_ok-end.ensures.steps)
