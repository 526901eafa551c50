-- What the parts that are left add is what is still to be dropped.
use Rattle.lab_model.proofs.Common.{◌≡◌, drop, fold}
use Rattle.lab_watch.specs.Drops.{with_drop}
use Rattle.lab_watch.proofs.dropped.drop_each.Given as goal

abbrev pub invariant-loop-part : goal.invariant-loop-part
invariant-loop-part l =
    fold (with_drop l.root) l.drops (drop l.part-index l.own)
    ≡ fold (with_drop l.root) l.fn.drops l.own
