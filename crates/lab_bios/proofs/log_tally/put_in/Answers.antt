-- The number goes behind the lower ones.
use Rattle.lab_model.proofs.Common.{nat_tests}
use Rattle.lab_model.proofs.Common.{◌≡◌, ℕ, true, false, arith, rules, nat_lt, IsPartitionPoint}
use Rattle.lab_model.proofs.Common.{IsPartitionPoint-from_clause, IsPartitionedBy-ltb}
use Rattle.std.proofs.lemmas.Bool.{ltb-false, ltb-true}
use Rattle.std.proofs.lemmas.List.Sorted.{IsNonDecreasingBy-insert}
use Rattle.lab_bios.proofs.log_tally.put_in.Goals as goal

-- none before it is above it, and none behind it is below it
pub returns-clause-rises : goal.returns-clause-rises
returns-clause-rises c =
    let log = c.args.log in
    let logs = c.args.logs.now.items in
    let cut : IsPartitionPoint (λ (x : ℕ). nat_lt x log ≡ true)
    (λ (x : ℕ). nat_lt x log ≡ false) logs c.partition_point-place.result =
    rw (← c.deref.ensures.value) (IsPartitionPoint-from_clause (λ (x : ℕ). nat_lt x log) _ _
    c.partition_point-place.ensures.partitioned
    (rw c.deref.ensures.value (IsPartitionedBy-ltb (λ (x : ℕ). x) logs log c.requires.rises))
    (λ a r f called. search rules)) in
    grind (arith, nat_tests, IsNonDecreasingBy-insert, ltb-true, ltb-false)
