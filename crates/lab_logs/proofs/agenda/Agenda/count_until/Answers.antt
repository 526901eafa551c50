-- In their order the moments that have come stand before those that haven't.
use Rattle.lab_model.proofs.Common.{◌≡◌, rules, nat_le, true, false, IsPartitionPoint}
use Rattle.lab_model.proofs.Common.{IsPartitionPoint-from_clause, IsPartitionedBy-leb}
use Rattle.lab_logs.specs.declared.agenda.Due.{Due}
use Rattle.lab_logs.proofs.agenda.Agenda.count_until.Goals as goal

-- the search tests whether a moment has come
pub returns-clause-cut : goal.returns-clause-cut
returns-clause-cut c =
    let cut : IsPartitionPoint (λ (due : Due). nat_le due.moment c.args.moment ≡ true)
    (λ (due : Due). nat_le due.moment c.args.moment ≡ false) c.self.inside.rows.items
    c.partition_point.result = rw (← c.deref.ensures.value)
    (IsPartitionPoint-from_clause (λ (due : Due). nat_le due.moment c.args.moment) _ _
    c.partition_point.ensures.partitioned (rw c.deref.ensures.value
    (IsPartitionedBy-leb (λ (due : Due). due.moment) _ c.args.moment c.self.invariant))
    (λ a r f called. search rules)) in
    search rules
