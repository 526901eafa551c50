-- The sectors so far are spoiled, and those that are left are to be.
use Rattle.lab_model.proofs.Common.{◌≡◌, drop}
use Rattle.lab_findings.specs.Heard.{spoiled_by}
use Rattle.lab_findings.proofs.watch.Watch.spoil_by.Given as goal

abbrev pub invariant-loop-sector : goal.invariant-loop-sector
invariant-loop-sector g l = record {
  place : l.place ≡ l.sector-index;
  spoiled : spoiled_by g.T.Target.meaning l.state l.self l.number l.root l.byte l.place
      (drop l.sector-index l.sectors)
      ≡ spoiled_by g.T.Target.meaning l.fn.state l.fn.self l.fn.number l.fn.root l.fn.byte 0
      l.fn.sectors;
}
