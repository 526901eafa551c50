-- Groups with none left are passed over, and of the others each number that has no place.
use Rattle.std.proofs.Common.{rules, arith}
use Rattle.lab_index.proofs.LeftCounts.{count-read, none-left}
use Rattle.lab_index.proofs.Entries.{entry-at}
use Rattle.lab_index.proofs.Seen.{next-seen, none-seen}
use Rattle.lab_index.proofs.Shown.{items-of}
use Rattle.lab_index.proofs.items.Numbered.next.Goals as goal

-- none of the group is left
pub loop-index-preserved-then-index-eq0 : goal.loop-index-preserved-then-index-eq0
loop-index-preserved-then-index-eq0 g c = search (rules, count-read, none-left)

-- the next number has no place
pub loop-index-preserved : goal.loop-index-preserved
loop-index-preserved g c = search (rules, entry-at)

-- the next number has one
pub returns-else-index-eq0-2-clause-next : goal.returns-else-index-eq0-2-clause-next
returns-else-index-eq0-2-clause-next g c = search (rules, entry-at, items-of, next-seen)

-- past the last number there is no item
pub returns-clause-none : goal.returns-clause-none
returns-clause-none g c = rw (← items-of c.self.view_is) (none-seen c.self.inside.places.items
    c.self.inside.items.items c.args.from c.loop-index.index
    (omega (arith, c.self.inside.places.ok.0)) c.loop-index.invariant.gone)
