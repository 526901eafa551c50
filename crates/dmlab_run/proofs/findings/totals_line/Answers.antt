-- The line is text, so a string can be made of it.
use Rattle.lab_model.proofs.Common.{◌∙◌, List, ℕ, ap, subst, sym}
use Rattle.std.specs.Prelude.{◌++◌, IsUtf8}
use Rattle.lab_sweep.specs.Totals.{totals_text}
use Rattle.dmlab_run.proofs.TotalsLemmas.{made-text, totals-text}
use Rattle.dmlab_run.proofs.findings.totals_line.Goals as goal

pub unreachable-requires : goal.unreachable-requires
unreachable-requires c =
    let totals = c.args.totals in
    let text = totals-text c.args.sought totals c.fit.ensures.0 c.fit.ensures.1
    c.fit-2.ensures.0 c.fit-2.ensures.1 c.fit-3.ensures.0 c.fit-3.ensures.1 c.fit-4.ensures.0
    c.fit-4.ensures.1 in
    let same = c.in_ok-push_totals.ensures ∙ ap (λ (l : List ℕ). l ++ totals_text c.args.sought totals) c.new-line.ensures.items in
    made-text c.from_utf8.result c.in-Err.is
    (c.from_utf8.ensures.succeeds (subst IsUtf8 (sym same) text))
