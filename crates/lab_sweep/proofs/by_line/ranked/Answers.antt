-- The sort ranks what was listed.
use Rattle.lab_model.proofs.Common.{rules, subst}
use Rattle.std.specs.Cmp.{IsStrictWeakOrder}
use Rattle.std.specs.List.Sorted.{IsPermutation, IsStableBy}
use Rattle.std.proofs.lemmas.List.Sorted.{IsStrictWeakOrder-by_number, IsStrictWeakOrder-flip}
use Rattle.std.proofs.lemmas.List.Sorted.{answers_always}
use Rattle.lab_sweep.specs.ByLine.{has_more}
use Rattle.lab_sweep.specs.declared.line_counts.FoundAt.{FoundAt}
use Rattle.lab_sweep.specs.declared.tally.SeedCount.{SeedCount}
use Rattle.lab_sweep.proofs.by_line.ranked.Goals as goal

-- having more seeds is an order
more-orders : IsStrictWeakOrder has_more
more-orders = IsStrictWeakOrder-flip _ (IsStrictWeakOrder-by_number
    (λ (entry : FoundAt × SeedCount). entry.1.count))

pub returns : goal.returns
returns c =
    let after = c.sort_by.new.self.items in
    let listed = c.in_ok-ranked.ensures in
    record {
      all = subst (λ before. IsPermutation before after) listed c.sort_by.ensures.permutation;
      most = c.in_ok-sort_by.ensures.sorted has_more more-orders
          (answers_always _ _ _ (λ f a r g h. search rules));
      kept = subst (λ before. IsStableBy has_more before after) listed
          (c.sort_by.ensures.stable has_more more-orders
          (answers_always _ _ _ (λ f a r g h. search rules)));
    }
