use Rattle.std.proofs.Common.{arith, ap, ◌∙◌}
use Rattle.std.specs.FinMap.{get}
use Rattle.lab_queue.specs.Moments.{Moments}
use Rattle.lab_queue.proofs.OnceEach.{own-is, ranks-own, taken-ranked}
use Rattle.lab_queue.proofs.Ranks.{entry}
use Rattle.lab_queue.proofs.moments.MomentQueue.take.Goals as goal

-- a number stands at the rank of its moment
pub remove-requires : goal.remove-requires
remove-requires c = (c.self.invariant.moments (entry c.args.moment c.args.number)).1
    (ap (λ (q : Moments). get q.due c.args.number) c.self.view_is ∙ c.requires)

-- it goes out of the row, and no room is lost
pub invariant_of-self : goal.invariant_of-self
invariant_of-self c =
    let had = ap (λ (q : Moments). get q.due c.args.number) c.self.view_is ∙ c.requires in
    record {
      moments = ranks-own _ _ (taken-ranked _ c.args.number c.args.moment _ _
          c.self.invariant.moments had c.remove.ensures.contains);
      room = omega (arith, c.self.invariant.room, c.remove.ensures.spare);
    }

-- the map loses that number alone
pub returns-clause-due : goal.returns-clause-due
returns-clause-due c =
    let had = ap (λ (q : Moments). get q.due c.args.number) c.self.view_is ∙ c.requires in
    rw (← c.self.view_is) (own-is _ _ (taken-ranked _ c.args.number c.args.moment _ _
    c.self.invariant.moments had c.remove.ensures.contains))
