-- Each stretch in turn says what is seen in front of its end.
use Rattle.std.proofs.Common.{◌∙◌, ◌≡◌, ◌≤◌, ◌+◌, ◌-◌, ◌++◌, ap, sym, subst, arith, None}
use Rattle.lab_watch.specs.Grids.{side_by_side}
use Rattle.lab_watch.specs.Stretches.{seen_row}
use Rattle.lab_watch.proofs.Rising.{Rises, Rises-between, Rises-from_sorted, Rises-weaker}
use Rattle.lab_watch.proofs.Seen.{rest-none, rest-past, seen_row-from, seen_row-step}
use Rattle.lab_watch.proofs.seeing.seen_between.Goals as goal
use Rattle.lab_watch.proofs.seeing.seen_between.Goals.{in-None, in-Some+then-place-last}

pub loop-end-init : goal.loop-end-init
loop-end-init c =
    let from = c.args.first + 1 in
    let had = c.args.stretches.now.entries in
    let all = c.into_iter-end-iterator.ensures.into_iter_gives
    ∙ c.range-end-items.ensures.between tt in
    let in_order = Rises-from_sorted had c.range-end-items.ensures.ordered in
    record {
      from = omega arith;
      upward = c.requires.upward;
      rises = subst (Rises from) (sym all)
          (Rises-between from 0 from had in_order (omega arith));
      so_far = ap (λ row. row ++ seen_row c.into_iter-end-iterator.result c.args.first
          (c.args.last - c.args.first)) c.new-row.ensures.none
          ∙ ap (λ entries. seen_row entries c.args.first (c.args.last - c.args.first)) all
          ∙ seen_row-from (c.args.last - c.args.first) c.args.first c.args.first had
          (omega arith);
    }

pub loop-end-preserved : goal.loop-end-preserved
loop-end-preserved c =
    let held = c.loop-end.invariant in
    let rises = subst (Rises (c.loop-end.place + 1)) c.in-Some.ensures.steps held.rises in
    let above : c.loop-end.place + 1 ≤ c.in-Some.end.now = rises.0 in
    record {
      from = omega arith;
      upward = omega arith;
      rises = Rises-weaker (c.min-stop.result + 1) (c.in-Some.end.now + 1) c.next.new.self
          (omega arith) rises.1;
      so_far = seen_row-step (c.in-Some.end.now, c.in-Some.stretch.now) c.next.new.self _
          c.loop-end.place c.min-stop.result c.args.last c.loop-end.row c.push_at.new.row _
          c.in-Some.ensures.steps (omega arith) held.upward (omega arith) c.in_ok-push_at.ensures
          held.so_far;
    }

pub returns : goal.returns
returns c = c.in_ok-push.ensures.pushed
    ∙ ap (λ rest. c.loop-end.row ++ rest) (elim c.match-next.branch
    as (λ _. side_by_side (c.args.last - c.loop-end.place) None
    ≡ seen_row c.loop-end.end-iterator c.loop-end.place (c.args.last - c.loop-end.place)) [
      | in-None w ↦ rest-none c.loop-end.end-iterator (c.args.last - c.loop-end.place)
          c.loop-end.place w.in-None.ensures.steps.0
      | in-Some+then-place-last w ↦ rest-past c.loop-end.end-iterator c.args.last
          c.loop-end.place w.if-place-last.true
    ])
    ∙ c.loop-end.invariant.so_far
