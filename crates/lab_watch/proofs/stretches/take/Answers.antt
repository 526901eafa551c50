-- Where the first behind one place isn't in front of the other, nothing is left to take.
use Rattle.std.proofs.Common.{◌∙◌, ◌+◌, ◌<◌, ap, length, subst, sym}
use Rattle.lab_watch.proofs.Firsts.{first-from}
use Rattle.lab_watch.proofs.Rising.{Rises-from_sorted}
use Rattle.lab_watch.proofs.Taken.{shorter-remove, taken-none, taken-remove, taken-some}
use Rattle.lab_watch.specs.Stretches.{taken}
use Rattle.lab_watch.proofs.stretches.take.Goals as goal

pub returns-then-end-last-clause-taken : goal.returns-then-end-last-clause-taken
returns-then-end-last-clause-taken c =
    sym (taken-some (c.args.place + 1) c.args.last 0 c.loop-next.stretches.entries _
    (Rises-from_sorted c.loop-next.stretches.entries c.loop-next.invariant.ordered)
    (sym c.loop-next.invariant.first ∙ c.in-Some.is) c.if-end-last.true)
    ∙ c.loop-next.invariant.so_far

pub loop-next-smaller : goal.loop-next-smaller
loop-next-smaller c = subst (λ left. length left < length c.loop-next.stretches.entries)
    (sym c.remove.ensures.entries) (shorter-remove (c.args.place + 1)
    c.loop-next.stretches.entries _ (sym c.loop-next.invariant.first ∙ c.in-Some.is))

pub loop-next-preserved : goal.loop-next-preserved
loop-next-preserved c = record {
  first = c.first_from-next.ensures.first;
  ordered = c.remove.ensures.ordered;
  so_far = ap (λ left. taken left (c.args.place + 1) c.args.last) c.remove.ensures.entries
      ∙ taken-remove (c.args.place + 1) c.args.last c.in-Some.end c.loop-next.stretches.entries
      (first-from c.loop-next.stretches.entries (c.args.place + 1) _
      (sym c.loop-next.invariant.first ∙ c.in-Some.is)) c.if-end-last.false
      ∙ c.loop-next.invariant.so_far;
}

pub returns-clause-taken : goal.returns-clause-taken
returns-clause-taken c =
    sym (taken-none (c.args.place + 1) c.args.last c.loop-next.stretches.entries
    (sym c.loop-next.invariant.first ∙ c.in_default.is)) ∙ c.loop-next.invariant.so_far
