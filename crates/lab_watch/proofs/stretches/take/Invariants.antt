-- What is left has the same without what is taken; the map shrinks.
use Rattle.std.proofs.Common.{◌≡◌, ◌+◌, length, nat_cmp}
use Rattle.std.specs.BTreeMap.{IsOrdered}
use Rattle.lab_watch.specs.Stretches.{first_from, taken}
use Rattle.lab_watch.proofs.stretches.take.Given as goal

abbrev pub invariant-loop-next : goal.invariant-loop-next
invariant-loop-next l = record {
  first : l.next ≡ first_from l.stretches.entries (l.place + 1);
  ordered : IsOrdered nat_cmp l.stretches;
  so_far : taken l.stretches.entries (l.place + 1) l.last
      ≡ taken l.fn.stretches.entries (l.place + 1) l.last;
}

abbrev pub decreases-loop-next : goal.decreases-loop-next
decreases-loop-next l = length l.stretches.entries
