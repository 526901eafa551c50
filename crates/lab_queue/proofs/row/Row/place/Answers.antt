use Rattle.std.proofs.Common.{rules, ◌≡◌, true, false}
use Rattle.std.specs.List.Sorted.{IsPartitionPoint}
use Rattle.std.proofs.lemmas.List.Sorted.{IsPartitionPoint-from_clause}
use Rattle.lab_queue.specs.Ranking.{is_before}
use Rattle.lab_queue.proofs.Ranks.{partitioned}
use Rattle.lab_queue.proofs.row.Row.place.Goals as goal

-- the search tests what comes before the bound
pub returns : goal.returns
returns c =
    let cut : IsPartitionPoint (λ x. is_before c.args.bound x ≡ true)
    (λ x. is_before c.args.bound x ≡ false) c.self.inside.entries.items c.partition_point.result =
    rw (← c.deref.ensures.value) (IsPartitionPoint-from_clause
    (is_before c.args.bound) _ _ c.partition_point.ensures.partitioned
    (rw (c.deref.ensures.value, c.self.view_is) (partitioned c.args.bound _ c.requires))
    (λ a r f called. search rules)) in
    search rules
