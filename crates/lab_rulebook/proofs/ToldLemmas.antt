-- What is accepted has no fault at any spot, and what has none is accepted.
use Rattle.lab_model.proofs.Common.{inl, inr, arith, Meaning}
use Rattle.lab_rulebook.specs.Accepted.{Accepted}
use Rattle.lab_rulebook.specs.Limits.{WithinLimits}
use Rattle.lab_rulebook.specs.Parts.{Parts}
use Rattle.lab_rulebook.specs.Told.{AcceptedHasNoFault, IsBroken, Spot, at_budget, at_command}
use Rattle.lab_rulebook.specs.Told.{at_end, at_limits, at_line}
use Rattle.lab_rulebook.proofs.PlaceLemmas.{not_less}

-- parts that aren't past the limits are within each
within-each : {S : Type 0} (parts : Parts S) → ((WithinLimits parts → ⊥) → ⊥) → WithinLimits parts
within-each parts fits = record {
  disks = not_less _ _ (λ past. fits (λ it. omega (arith, it.disks)));
  sectors = not_less _ _ (λ past. fits (λ it. omega (arith, it.sectors)));
  creates = not_less _ _ (λ past. fits (λ it. omega (arith, it.creates)));
  tables = not_less _ _ (λ past. fits (λ it. omega (arith, it.tables)));
  logs = not_less _ _ (λ past. fits (λ it. omega (arith, it.logs)));
  commands = not_less _ _ (λ past. fits (λ it. omega (arith, it.commands)));
}

-- what is accepted has no fault
none-told : {S : Type 0} (m : Meaning S) (parts : Parts S) → Accepted m parts → (spot : Spot)
    → IsBroken m parts spot → ⊥
none-told m parts accepted at_limits fault = fault accepted.limits
none-told m parts accepted (at_command place rule) fault =
    accepted.rules.script place fault.0 rule fault.1
none-told m parts accepted (at_end rule) fault = accepted.rules.ends rule fault
none-told m parts accepted (at_line number place rule) fault =
    accepted.rules.lines number place fault.0 fault.1 rule fault.2
none-told m parts accepted at_budget (inl past) = omega (arith, past, accepted.budget)
none-told m parts accepted at_budget (inr past) = omega (arith, past, accepted.visits)

-- both ways
pub accepted-has-no-fault : {S : Type 0} (m : Meaning S) → AcceptedHasNoFault m
accepted-has-no-fault m = record {
  none = none-told m;
  accepted = λ parts none. record {
    limits = within-each parts (none at_limits);
    rules = record {
      script = λ place row rule breaks. none (at_command place rule) (row, breaks);
      ends = λ rule. none (at_end rule);
      lines = λ number place plan line rule breaks.
          none (at_line number place rule) (plan, line, breaks);
    };
    budget = not_less _ _ (λ past. none at_budget (inl past));
    visits = not_less _ _ (λ past. none at_budget (inr past));
  };
}
