-- The laws hold of every lawful meaning.
use Rattle.lab_model.proofs.Common.{rules}
use Rattle.law_within_budget.proofs.Within.{opening-is-budget, potential-falls, runs-fall}
use Rattle.law_within_budget.proofs.Within.{runs-keep-budget}
use Rattle.law_within_budget.proofs.potential_falls.Goals as goal

pub returns : goal.returns
returns g c = search (rules, potential-falls, runs-fall, opening-is-budget, runs-keep-budget)
