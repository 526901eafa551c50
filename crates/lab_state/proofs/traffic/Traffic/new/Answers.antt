-- Without bios nothing is marked and nothing waits.
use Rattle.lab_model.proofs.Common.{rules}
use Rattle.lab_state.proofs.Modes.{kept-none}
use Rattle.lab_state.proofs.traffic.Traffic.new.Goals as goal

-- all is empty
pub invariant_of-result : goal.invariant_of-result
invariant_of-result g c = search (rules, kept-none)
