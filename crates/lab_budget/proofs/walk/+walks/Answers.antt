use Rattle.lab_model.proofs.Common.{rules, ◌≡◌, ℕ, ◌+◌, ◌-◌, Bool, true, [], IfSome, None, Some, slice_get, subst, sym, if◌then◌else◌}
use Rattle.lab_model.proofs.Common.{slice_get_within}
use Rattle.lab_model.proofs.Common.{ap, ◌∙◌, arith, get_or_from_slice_get, Span, shifted}
use Rattle.lab_model.proofs.Common.{cost_within, table_cost, table_visits, visits_within}
use Rattle.lab_model.proofs.Common.{fits_table, sector_pieces}
use mir.Val.{bool_byte}
use Rattle.lab_budget.specs.Counted.{with_steps}
use Rattle.lab_budget.specs.Reach.{IsReach}
use Rattle.lab_budget.proofs.Walks.{first-reach, device-counted, piece-goes, placed-is, shift-is}
use Rattle.lab_budget.proofs.SoFar.{most-last, most-onward, most-over, most-passes, past-all}
use Rattle.lab_budget.proofs.walk.+walks.Goals as goal

-- more pieces than the limit were visited
pub device_walk-returns-then-most-gt-LIMIT : goal.device_walk-returns-then-most-gt-LIMIT
device_walk-returns-then-most-gt-LIMIT g t c = search (rules, device-counted, most-over)

-- one version more
pub device_walk-loop-version-preserved : goal.device_walk-loop-version-preserved
device_walk-loop-version-preserved g t c =
    let m = g.T.Target.meaning in
    let s = with_steps c.args.plan.now [] in
    let kind = c.args.kind in
    let span = c.args.span in
    let costs = table_cost m (cost_within m s (c.args.depth - 1)) kind span in
    let visits = table_visits m (visits_within m s (c.args.depth - 1)) kind span in
    let items = c.in-Some.versions.now in
    let i = c.loop-version.place in
    let version = c.in-Some-get.version.now in
    let next = c.counted-most-in-Some-get.result in
    let there : slice_get items i ≡ Some version = search rules in
    let passes : fits_table version kind span ≡ true =
    subst (λ found. IfSome found (λ table. fits_table table kind span ≡ true)) there
    c.loop-version.invariant.next in
    let so = most-passes (λ table. fits_table table kind span) costs visits items i version
    (slice_get_within items i version there) (sym (get_or_from_slice_get items i version version there))
    passes _ _ c.loop-version.most c.table_walk-one.result next c.loop-version.invariant.most
    c.table_walk-one.ensures (c.counted-most-in-Some-get.ensures.cost ∙ c.max.ensures)
    c.counted-most-in-Some-get.ensures.visited in
    record {
      most = most-onward (λ table. fits_table table kind span) costs visits items (i + 1)
          c.next_fit-place-in-Some-get.result c.next_fit-place-in-Some-get.ensures.passed _ _ next so;
      next = c.next_fit-place-in-Some-get.ensures.fits;
    }

-- each turn goes on
pub device_walk-loop-version-smaller : goal.device_walk-loop-version-smaller
device_walk-loop-version-smaller g t c =
    let items = c.in-Some.versions.now in
    let i = c.loop-version.place in
    let version = c.in-Some-get.version.now in
    let there : slice_get items i ≡ Some version = search rules in
    omega (arith, slice_get_within items i version there, c.next_fit-place-in-Some-get.ensures.from)

-- all versions are done
pub device_walk-returns : goal.device_walk-returns
device_walk-returns g t c =
    let m = g.T.Target.meaning in
    let s = with_steps c.args.plan.now [] in
    let kind = c.args.kind in
    let span = c.args.span in
    let costs = table_cost m (cost_within m s (c.args.depth - 1)) kind span in
    let visits = table_visits m (visits_within m s (c.args.depth - 1)) kind span in
    let items = c.in-Some.versions.now in
    let i = c.loop-version.place in
    let past : slice_get items i ≡ None = search rules in
    device-counted m s c.in-Dm.number kind span c.args.depth c.args.before c.args.dev
    c.counted-2.result c.if-depth-eq0.false c.in-Dm.is
    (most-last (λ table. fits_table table kind span) costs visits items i
    (past-all items i past) _ _ 2 c.loop-version.most c.counted-2.result
    c.loop-version.invariant.most (c.counted-2.ensures.cost ∙ c.capped_sum.ensures)
    c.counted-2.ensures.visited)

-- a bool as a number is the cost of a hold
hold-is : (held : Bool) (n : ℕ) → n ≡ bool_byte held → n ≡ (if held then 1 else 0)
hold-is held n is = search rules

-- the piece goes on to the line's reference
pub piece_walk-returns : goal.piece_walk-returns
piece_walk-returns g t c =
    let m = g.T.Target.meaning in
    let s = with_steps c.args.plan.now [] in
    let row = c.index-lines-piece.result in
    let table = c.args.lines.now in
    let piece = c.args.piece in
    let same : row ≡ c.requires.reach.line = c.index-lines-piece.is
    ∙ get_or_from_slice_get table piece.line c.requires.reach.line row c.requires.reach.there in
    let place : Span = record {
      first = piece.span.first - row.start;
      len = piece.span.len;
    } in
    let ref = c.in-Some.reference in
    piece-goes m (cost_within m s c.args.depth) (visits_within m s c.args.depth) c.args.kind piece
    (slice_get table piece.line) row (c.requires.reach.there ∙ ap Some (sym same)) c.args.before
    c.counted-2.result ref (sym c.in-Some.ensures) c.shift-below.result
    (shift-is place c.shift-below.result ref.first c.shift-below.ensures.first
    c.shift-below.ensures.len
    ∙ ap (shifted ref.first) (sym (placed-is c.args.kind row piece.span c.requires.no_flush)))
    c.from-hold.result c.capped_sum-visited.result
    (hold-is c.may_hold.result c.from-hold.result c.from-hold.ensures
    ∙ ap (λ held. if held then 1 else 0) c.may_hold.ensures) c.capped_sum-visited.ensures
    c.device_walk-there.result c.device_walk-there.ensures
    (c.counted-2.ensures.cost ∙ c.capped_sum.ensures) c.counted-2.ensures.visited

-- the first piece of the sectors that are left is at a place that a table may name
pub table_walk-piece_walk-one-requires : goal.table_walk-piece_walk-one-requires
table_walk-piece_walk-one-requires g t c κs within =
    let span = c.loop-uncut.uncut.span in
    let rest = c.take_piece-piece.new.uncut.span in
    let reach : IsReach g.T.Target.meaning c.lines-lines.result.now c.take_piece-piece.result =
    rw c.lines-lines.ensures.lines (first-reach g.T.Target.meaning c.args.table.now
    span.first span.len c.take_piece-piece.result
    (sector_pieces g.T.Target.meaning c.args.table.now rest.first rest.len)
    c.lines-lines.ensures.table c.loop-uncut.invariant.uncut.inside
    c.take_piece-piece.ensures.piece) in
    (omega arith, (within, (c.requires.no_flush, (reach, omega arith))))
