use Rattle.std.proofs.Common.{arith, ap, ◌∙◌}
use Rattle.std.specs.FinMap.{get}
use Rattle.lab_queue.specs.Moments.{Moments}
use Rattle.lab_queue.proofs.OnceEach.{own-is, put-ranked, ranks-own}
use Rattle.lab_queue.proofs.moments.MomentQueue.hold.Goals as goal

-- it goes into the row, which had room
pub invariant_of-self : goal.invariant_of-self
invariant_of-self c =
    let free = ap (λ (q : Moments). get q.due c.args.number) c.self.view_is ∙ c.requires.free in
    record {
      moments = ranks-own _ _ (put-ranked _ c.args.number c.args.moment _ _
          c.self.invariant.moments free c.insert.ensures.contains);
      room = omega (arith, c.self.invariant.room, c.insert.ensures.spare);
    }

-- the map gets that number alone
pub returns-clause-due : goal.returns-clause-due
returns-clause-due c =
    let free = ap (λ (q : Moments). get q.due c.args.number) c.self.view_is ∙ c.requires.free in
    rw (← c.self.view_is) (own-is _ _ (put-ranked _ c.args.number c.args.moment _ _
    c.self.invariant.moments free c.insert.ensures.contains))
