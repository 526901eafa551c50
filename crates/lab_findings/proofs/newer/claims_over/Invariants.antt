-- The claims so far and those that are left make the whole; each run has fewer than 2^64 sectors.
use Rattle.lab_model.proofs.Common.{◌≡◌, ◌≤◌, ◌*◌, ◌++◌, drop}
use Rattle.lab_watch.specs.Grids.{spelled_writers}
use Rattle.lab_findings.specs.Settled.{claims_over}
use Rattle.lab_findings.proofs.newer.claims_over.Given as goal

abbrev pub invariant-loop-run : goal.invariant-loop-run
invariant-loop-run l = record {
  claims : l.row ++ claims_over (record { origin = l.origin; sector = l.sector })
      (spelled_writers (drop l.run-index l.run-items))
      ≡ claims_over (record { origin = l.fn.origin; sector = 0 }) l.fn.voids;
  within : l.sector ≤ l.run-index * 18446744073709551616;
}
