-- The depth falls on each way from a device over a version's pieces to the next device.
use Rattle.lab_model.proofs.Common.{◌≡◌, ◌+◌, ◌-◌, ◌*◌, [], true, IfSome, filter, length, map}
use Rattle.lab_model.proofs.Common.{sum, slice_get}
use Rattle.lab_model.proofs.Common.{cost_within, greatest, piece_by, table_cost}
use Rattle.lab_model.proofs.Common.{table_visits, visits_by, visits_within, fits_table}
use Rattle.lab_model.proofs.Common.{sector_pieces, versions_of}
use Rattle.lab_split.specs.Cuts.{IsUncut}
use Rattle.lab_budget.specs.Counted.{with_steps}
use Rattle.lab_budget.specs.Grouped.{fitting_from}
use Rattle.lab_budget.proofs.SoFar.{MostSoFar, SumSoFar}
use Rattle.lab_budget.proofs.walk.+walks.Given as goal

-- a device is done by versions whose devices are one lower
abbrev pub decreases-device_walk : goal.decreases-device_walk
decreases-device_walk g l = 3 * l.depth

-- a piece is done by a device at its own depth
abbrev pub decreases-piece_walk : goal.decreases-piece_walk
decreases-piece_walk g l = 3 * l.depth + 1

-- and a version by its pieces
abbrev pub decreases-table_walk : goal.decreases-table_walk
decreases-table_walk g l = 3 * l.depth + 2

-- with the versions that are left they are the device's; the next one has the sectors
abbrev pub invariant-device_walk-loop-version : goal.invariant-device_walk-loop-version
invariant-device_walk-loop-version g l =
    let m = g.T.Target.meaning in
    let c = with_steps l.plan [] in
    let costs = table_cost m (cost_within m c (l.depth - 1)) l.kind l.span in
    let visits = table_visits m (visits_within m c (l.depth - 1)) l.kind l.span in
    let all = filter (λ table. fits_table table l.kind l.span) (versions_of c.versions l.number) in
    let left = fitting_from l.kind l.span l.versions l.place in
    record {
      most : MostSoFar (greatest (map costs all)) (l.before + sum (map visits all))
          (greatest (map costs left)) (sum (map visits left)) l.most;
      next : IfSome (slice_get l.versions l.place) (λ table. fits_table table l.kind l.span ≡ true);
    }

-- each turn goes on
abbrev pub decreases-device_walk-loop-version : goal.decreases-device_walk-loop-version
decreases-device_walk-loop-version g l = length l.versions - l.place

-- with the pieces of the sectors that are left both sums are the table's
abbrev pub invariant-table_walk-loop-uncut : goal.invariant-table_walk-loop-uncut
invariant-table_walk-loop-uncut g l =
    let m = g.T.Target.meaning in
    let c = with_steps l.plan [] in
    let costs = cost_within m c l.depth in
    let visits = visits_within m c l.depth in
    let left = sector_pieces m l.table l.uncut.span.first l.uncut.span.len in
    record {
      uncut : IsUncut l.table l.uncut;
      sums : SumSoFar (table_cost m costs l.kind l.fn.span l.table)
          (l.before + table_visits m visits l.kind l.fn.span l.table)
          (sum (map (λ p. piece_by m costs l.kind p (slice_get l.table p.line)) left))
          (sum (map (λ p. visits_by m visits l.kind p (slice_get l.table p.line)) left)) l.sum;
    }

-- each piece takes at least one of the sectors that are left
abbrev pub decreases-table_walk-loop-uncut : goal.decreases-table_walk-loop-uncut
decreases-table_walk-loop-uncut g l = l.uncut.span.len
