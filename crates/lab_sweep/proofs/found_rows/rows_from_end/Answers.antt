-- What was noted at a place comes in front of what was noted after it.
use Rattle.lab_sweep.specs.NextSyncs.{next_sync}
use Rattle.lab_sweep.proofs.FoundRows.{drop-back, rows-more, syncs-more}
use Rattle.lab_sweep.proofs.found_rows.rows_from_end.Goals as goal

pub loop-place-preserved : goal.loop-place-preserved
loop-place-preserved c =
    let before = c.loop-place.invariant in
    let after = c.in_ok-push_before.ensures in
    let here = drop-back c.args.noted.now c.loop-place.place _ c.loop-place-test.true
    c.loop-place.auto.place in
    record {
      rows = rows-more _ _ _ _ _ (next_sync c.loop-place.syncs) here before.rows before.syncs
          after.rows;
      syncs = syncs-more _ _ _ (next_sync c.loop-place.syncs) (next_sync c.push_before.new.syncs)
          here before.syncs after.syncs;
    }
