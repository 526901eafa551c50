-- The agenda has just the logs.
use Rattle.lab_model.proofs.Common.{Contains-permutation, IsPermutation-sym}
use Rattle.lab_logs.specs.Agenda.{dues}
use Rattle.lab_logs.proofs.logs.Logs.due.Goals as goal

-- in another order
pub returns : goal.returns
returns c = rw (← c.self.view_is) (λ due.
    let each = c.between.ensures due in
    let logs = dues c.self.inside.items.items in
    let row = c.self.inside.agenda in (
      λ held.
          let there = each.0 held in (
            Contains-permutation row logs due (IsPermutation-sym logs row c.self.invariant) there.0,
            there.1,
            there.2,
          ),
      λ there. each.1
          (Contains-permutation logs row due c.self.invariant there.0, there.1, there.2),
    ))
