use Rattle.lab_table.proofs.Images.{IsTable-same, image-change}
use Rattle.lab_table.proofs.table.Table.judge.Goals as goal

-- a judged piece leaves the image alone
pub invariant_of-self : goal.invariant_of-self
invariant_of-self g c =
    let m = g.T.Target.meaning in
    let law = g.met.T.Target.lawful in
    IsTable-same m law _ _ (rw c.judge_line.ensures.state (image-change m
    (λ t. m.judged t c.args.kind c.args.piece c.args.now)
    (λ t. law.judged t c.args.kind c.args.piece c.args.now) c.self.inside.lines.items c.args.line))
    c.self.invariant
