-- The front is put in, if there is one.
use Rattle.std.proofs.Common.{◌∙◌, ◌+◌, ap, sym}
use Rattle.lab_watch.specs.Stretches.{first_from}
use Rattle.lab_watch.proofs.Cuts.{cut-none, cut-some, first-cut}
use Rattle.lab_watch.proofs.Rising.{Rises-from_sorted}
use Rattle.lab_watch.proofs.stretches.cut.Goals as goal

pub returns-in_ok-insert-clause-cut : goal.returns-in_ok-insert-clause-cut
returns-in_ok-insert-clause-cut c = c.in_ok-insert.ensures.entries
    ∙ cut-some c.args.place 0 c.args.stretches.now.entries c.in-Some.front
    (Rises-from_sorted c.args.stretches.now.entries c.around-front.ensures.ordered)
    (sym c.around-front.ensures.front ∙ c.in-Some.is)

pub returns-in_ok-insert-clause-first : goal.returns-in_ok-insert-clause-first
returns-in_ok-insert-clause-first c = c.around-front.ensures.first
    ∙ sym (ap (λ entries. first_from entries (c.args.place + 1))
    (returns-in_ok-insert-clause-cut c)
    ∙ first-cut c.args.place c.args.stretches.now.entries)

pub returns-in_default-clause-cut : goal.returns-in_default-clause-cut
returns-in_default-clause-cut c = cut-none c.args.place 0 c.args.stretches.now.entries
    (Rises-from_sorted c.args.stretches.now.entries c.around-front.ensures.ordered)
    (sym c.around-front.ensures.front ∙ c.in_default.is)
