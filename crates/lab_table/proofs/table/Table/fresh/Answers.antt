use Rattle.lab_table.proofs.Images.{IsTable-same, image-map}
use Rattle.lab_table.proofs.table.Table.fresh.Goals as goal

-- the opening state has the same image
pub invariant_of-result : goal.invariant_of-result
invariant_of-result g c =
    let m = g.T.Target.meaning in
    let law = g.met.T.Target.lawful in
    IsTable-same m law _ _ (rw (c.in_ok-lines.ensures, c.deref.ensures.value) (image-map m
    (λ t. (m.shape t).opening) law.opening c.self.inside.lines.items)) c.self.invariant
