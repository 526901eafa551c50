use Rattle.std.proofs.Common.{rules, length, ◌<◌}
use Rattle.lab_queue.proofs.Walks.{ahead-more, ids-more, ids-none}
use Rattle.lab_queue.proofs.search.add_ids.Goals as goal

-- a row's numbers go over to those that were gathered
pub loop-at-preserved : goal.loop-at-preserved
loop-at-preserved c =
    let below = rw (c.len-at-end.ensures, c.args.rows.now.ok.0) at c.loop-at-test.true in
    record {
      ahead = ahead-more c.args.rows.now.items c.loop-at.at c.args.rank c.index-row.result.now below
          c.index-row.ensures c.loop-at.invariant.ahead;
      found = rw (c.in_ok-extend_from_slice.ensures.items, c.deref.ensures.value)
          (rw (c.in_ok-more.ensures, c.entries.ensures)
          (ids-more c.args.rows.now.items c.loop-at.at c.args.rank c.index-row.result.now below
          c.index-row.ensures c.loop-at.ids.items _ c.loop-at.invariant.ahead
          c.loop-at.invariant.found));
    }

-- a row that begins with another rank has none of this one, nor have those behind it
pub returns-then-not-begins_with : goal.returns-then-not-begins_with
returns-then-not-begins_with c =
    let rows = c.args.rows.now in
    let below = rw (c.len-at-end.ensures, rows.ok.0) at c.loop-at-test.true in
    let its = c.index-row.result.now in
    let some : 0 < length its = search (rules, c.requires.filled, c.index-row.ensures, below) in
    let none = ids-none rows.items c.loop-at.at c.args.rank its below c.index-row.ensures some
    (search (rules, c.begins_with.ensures, c.if-not-begins_with.true)) in
    search (rules, none, c.loop-at.invariant.found)
