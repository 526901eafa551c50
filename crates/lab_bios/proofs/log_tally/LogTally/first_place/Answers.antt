-- Where 0 stands, the search tells; else the first of all is it.
use Rattle.lab_model.proofs.Common.{◌≡◌, ℕ, false, true, rules, ◌∙◌, nat_lt}
use Rattle.lab_model.proofs.Common.{IsPartitionPoint-from_clause, IsPartitionedBy-ltb}
use Rattle.lab_model.proofs.Common.{IsPartitionPoint}
use Rattle.lab_bios.proofs.Tallies.{first-of-all}
use Rattle.lab_bios.proofs.log_tally.LogTally.first_place.Goals as goal

-- the numbers don't fall, so those below 1 stand first
pub returns-then-contains : goal.returns-then-contains
returns-then-contains c =
    let logs = c.self.inside.logs.items in
    let cut : IsPartitionPoint (λ (x : ℕ). nat_lt x 1 ≡ true) (λ (x : ℕ). nat_lt x 1 ≡ false)
    logs c.partition_point.result =
    rw (← c.deref.ensures.value) (IsPartitionPoint-from_clause (λ (x : ℕ). nat_lt x 1) _ _
    c.partition_point.ensures.partitioned
    (rw c.deref.ensures.value (IsPartitionedBy-ltb (λ (x : ℕ). x) logs 1 c.self.invariant.rises))
    (λ a r f called. search rules)) in
    rw (← c.self.view_is) (search (rules, cut))

-- 0 is marked where it stands
pub returns-else-contains : goal.returns-else-contains
returns-else-contains c = rw (← c.self.view_is) (first-of-all c.self.inside.logs.items
    (c.if-contains.ensures ∙ c.self.invariant.low 0 (search rules)))
