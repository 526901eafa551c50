use Rattle.lab_queue.proofs.Runs.{ids-rise, ids_behind}
use Rattle.lab_queue.proofs.Ranks.{IsRanked-drop}
use Rattle.lab_queue.proofs.ranking.Ranking.with_rank.Goals as goal

-- the numbers behind the place rise, and are all with the rank
pub returns : goal.returns
returns c =
    let ranked = IsRanked-drop _ _ c.self.invariant.ranked in
    rw (c.in_ok-ids_from.ensures, c.rows.ensures.rows, ← c.self.view_is) (record {
      rising = ids-rise _ c.args.rank ranked;
      contains = λ id. ids_behind _ c.args.rank id _ ranked c.spot-spot.ensures.place;
    })
