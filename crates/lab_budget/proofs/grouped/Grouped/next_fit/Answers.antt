use Rattle.lab_model.proofs.Common.{rules, ◌≡◌, ◌∙◌, arith, IfSome, slice_get, false}
use Rattle.lab_model.specs.MapEffect.{fits_table}
use Rattle.lab_budget.proofs.Passed.{passed-by}
use Rattle.lab_budget.proofs.grouped.Grouped.next_fit.Goals as goal

-- one more group or place is passed
pub loop-table-preserved : goal.loop-table-preserved
loop-table-preserved g c =
    let fails : IfSome (slice_get c.args.self.now c.loop-table.place)
    (λ table. fits_table table c.args.kind c.args.span ≡ false) = search rules in
    record {
      from = omega (arith, c.loop-table.invariant.from, c.behind-place.ensures.later);
      passed = c.loop-table.invariant.passed ∙ passed-by c.args.kind c.args.span c.args.self.now
          c.loop-table.place c.behind-place.result c.behind-place.ensures.later fails
          c.behind-place.ensures.none;
    }
