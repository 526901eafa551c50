-- The laws hold of each lawful meaning, and the target's own is lawful.
use Rattle.lab_model.proofs.Common.{rules}
use Rattle.law_within_budget.proofs.ExactRuns.{meets-its-budget, steps-and-rest, steps-are-budget}
use Rattle.law_within_budget.proofs.NoneLeft.{none-left}
use Rattle.law_within_budget.proofs.steps_are_budget.Goals as goal

pub returns : goal.returns
returns g c = search (rules, steps-and-rest, none-left, steps-are-budget, meets-its-budget)
