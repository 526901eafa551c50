-- The first stretch that ends behind the place says so.
use Rattle.std.proofs.Common.{◌∙◌, sym}
use Rattle.lab_watch.proofs.Seen.{seen-first, seen-none}
use Rattle.lab_watch.proofs.seeing.seen.Goals as goal

pub returns-in_err-end : goal.returns-in_err-end
returns-in_err-end c = c.from_residual.ensures
    ∙ seen-none c.args.stretches.now.entries c.args.place
    (sym c.first_from.ensures.first ∙ c.in_err-end.was)

pub returns : goal.returns
returns c = c.back_from.ensures ∙ seen-first c.args.stretches.now.entries c.args.place
    (c.in_ok-end.end, c.in_ok-end.stretch) (sym c.first_from.ensures.first ∙ c.in_ok-end.was)
