use Rattle.lab_table.proofs.Images.{IsTable-same, image-map}
use Rattle.lab_table.proofs.table.Table.start.Goals as goal

-- a load leaves the image alone
pub invariant_of-self : goal.invariant_of-self
invariant_of-self g c =
    let m = g.T.Target.meaning in
    let law = g.met.T.Target.lawful in
    IsTable-same m law _ _ (rw c.start_lines.ensures (image-map m (λ t. m.started t c.args.now)
    (λ t. law.started t c.args.now) c.self.inside.lines.items)) c.self.invariant
