-- The log is that of the mark of this rank.
use Rattle.lab_model.proofs.Common.{◌≡◌, None, rules, sym, ◌∙◌}
use Rattle.lab_core.proofs.FreeLines.{free-none, free-some}
use Rattle.lab_core.proofs.lab.Lab.nth_line.Goals as goal

-- no mark has this rank
pub returns-in_err-place : goal.returns-in_err-place
returns-in_err-place g c =
    let lab = c.self.inside in
    let out : c.from_residual.result ≡ None = search rules in
    rw (← c.self.view_is) (out ∙ sym (free-none lab.accepted.scenario lab.state lab.free
    c.self.invariant.marked c.args.number (sym c.nth.ensures.nth ∙ c.in_err-place.was)))

-- the log of the mark
pub returns : goal.returns
returns g c =
    let lab = c.self.inside in
    rw (← c.self.view_is) (sym (free-some lab.accepted.scenario lab.state lab.free
    c.self.invariant.marked c.args.number c.in_ok-place.place
    (sym c.nth.ensures.nth ∙ c.in_ok-place.was)))
