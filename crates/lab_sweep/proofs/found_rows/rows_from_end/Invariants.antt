-- What was noted from here on is gone through: its rows are told, and its syncs are known.
use Rattle.lab_model.proofs.Common.{◌≡◌, DevNo, drop}
use Rattle.std.specs.Prelude.{reverse}
use Rattle.lab_sweep.specs.FoundRows.{rows_found, sync_of}
use Rattle.lab_sweep.specs.NextSyncs.{next_sync}
use Rattle.lab_sweep.proofs.found_rows.rows_from_end.Given as goal

abbrev pub invariant-loop-place : goal.invariant-loop-place
invariant-loop-place l = record {
  rows : l.rows.items ≡ reverse (rows_found (drop l.place l.noted));
  syncs : (device : DevNo) → next_sync l.syncs device ≡ sync_of (drop l.place l.noted) device;
}
