use Rattle.std.proofs.Common.{rules}
use Rattle.std.proofs.lemmas.List.Elements.{All-append, All-take, All-drop}
use Rattle.std.proofs.lemmas.List.Quantifiers.{all_pairs_remove}
use Rattle.lab_queue.specs.Ranking.{Before}
use Rattle.lab_queue.proofs.Ranks.{Contains-remove, found}
use Rattle.lab_queue.proofs.ranking.Ranking.remove.Goals as goal

-- without it the row stays in order
pub invariant_of-self : goal.invariant_of-self
invariant_of-self c =
    let held = rw (← c.self.view_is) at c.requires in
    let at = found _ _ _ c.self.invariant.ranked c.spot_from_front-spot.ensures.place held in
    rw c.remove.ensures.flat (record {
      ranked = all_pairs_remove Before _ _ at.0 c.self.invariant.ranked;
      fits = search (rules, All-append, All-take, All-drop, c.self.invariant.fits);
    })

-- the row has what it had but that one
pub returns-clause-contains : goal.returns-clause-contains
returns-clause-contains c x =
    let held = rw (← c.self.view_is) at c.requires in
    let at = found _ _ _ c.self.invariant.ranked c.spot_from_front-spot.ensures.place held in
    rw (← c.self.view_is, c.remove.ensures.flat)
    (Contains-remove _ _ _ x c.self.invariant.ranked at.0 at.1)
