-- A bio that is marked joins its group.
use Rattle.lab_model.proofs.Common.{arith, rules, ◌≡◌, ◌≢◌, ℕ, nat_tests}
use Rattle.lab_state.specs.Index.{is_marked}
use Rattle.lab_state.proofs.index.mark_due.Goals as goal

-- it is in its group from now on
pub returns-in-Some-clause-grouped : goal.returns-in-Some-clause-grouped
returns-in-Some-clause-grouped g c =
    let others : (other : ℕ) → other ≢ c.args.number
    → is_marked c.insert.new.self other ≡ is_marked c.args.ready.now other = search rules in
    grind (arith, nat_tests, others, c.join.ensures.keeps)
