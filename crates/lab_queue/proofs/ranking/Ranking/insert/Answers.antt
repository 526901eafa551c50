use Rattle.std.proofs.Common.{arith, ◌<◌, ◌^◌}
use Rattle.lab_queue.specs.declared.ranking.Ranked.{Ranked}
use Rattle.lab_queue.proofs.Flats.{All-insert}
use Rattle.lab_queue.proofs.Ranks.{IsRanked-new, Contains-insert}
use Rattle.lab_queue.proofs.ranking.Ranking.insert.Goals as goal

-- it goes to its place
pub invariant_of-self : goal.invariant_of-self
invariant_of-self c = rw c.insert.ensures.flat (record {
  ranked = IsRanked-new _ _ _ c.self.invariant.ranked c.spot-spot.ensures.place
      (rw (← c.self.view_is) at c.requires.absent);
  fits = All-insert (λ (x : Ranked). x.rank < 2 ^ 64) _ _ _ c.self.invariant.fits
      (omega (arith, c.rank-known.type_inv, c.rank-known.ensures));
})

-- the row has it and what it had
pub returns-clause-contains : goal.returns-clause-contains
returns-clause-contains c x = rw (← c.self.view_is, c.insert.ensures.flat) (Contains-insert _ _ _ x)
