-- The first that ends behind is shortened, if it is too long.
use Rattle.std.proofs.Common.{◌∙◌, sym}
use Rattle.lab_watch.proofs.Cuts.{trimmed-none, trimmed-same, trimmed-some}
use Rattle.lab_watch.proofs.Firsts.{first-from}
use Rattle.lab_watch.proofs.Rising.{Rises-from_sorted}
use Rattle.lab_watch.proofs.stretches.trim.Goals as goal

pub returns-in_default : goal.returns-in_default
returns-in_default c = trimmed-none c.args.place 0 c.args.stretches.now.entries
    (Rises-from_sorted c.args.stretches.now.entries c.requires.ordered)
    (sym c.requires.first ∙ c.in_default.is)

pub overflow_sub-count : goal.overflow_sub-count
overflow_sub-count c = first-from c.args.stretches.now.entries c.args.place _
    (sym c.requires.first ∙ c.in-Some.is)

pub returns-in_ok-insert : goal.returns-in_ok-insert
returns-in_ok-insert c = c.in_ok-insert.ensures.entries
    ∙ trimmed-some c.args.place 0 c.args.stretches.now.entries (c.in-Some.end, c.in-Some.stretch)
    (Rises-from_sorted c.args.stretches.now.entries c.requires.ordered)
    (sym c.requires.first ∙ c.in-Some.is) c.if-count-stretch.true

pub returns-else-count-stretch : goal.returns-else-count-stretch
returns-else-count-stretch c = trimmed-same c.args.place 0 c.args.stretches.now.entries
    (c.in-Some.end, c.in-Some.stretch)
    (Rises-from_sorted c.args.stretches.now.entries c.requires.ordered)
    (sym c.requires.first ∙ c.in-Some.is) c.if-count-stretch.false
