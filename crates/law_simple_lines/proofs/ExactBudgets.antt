-- An accepted scenario is fine, and its lines take the dearest course of each piece.
use Rattle.std.proofs.Common.{ℕ, sym, ◌∙◌}
use Rattle.lab_model.specs.Fine.{Fine}
use Rattle.lab_model.specs.Scenario.{Scenario}
use Rattle.lab_any.specs.Any.{any_meaning}
use Rattle.lab_any.specs.AnyLaws.{any-lawful}
use Rattle.lab_any.specs.declared.any_target.AnyTarget.{AnyTarget}
use Rattle.lab_rulebook.specs.IsAccepted.{IsAccepted}
use Rattle.lab_rulebook.specs.PartsOf.{parts_of_texts}
use Rattle.lab_rulebook.proofs.AcceptedScripts.{accepted-is-fine}
use Rattle.lab_rulebook.proofs.ReadParts.{parts-well}
use Rattle.law_within_budget.proofs.ExactRuns.{meets-its-budget}
use Rattle.law_simple_lines.specs.ExactBudgets.{BudgetsAreExact}
use Rattle.law_simple_lines.proofs.ExactLines.{any-passes}

-- an accepted scenario is fine, since its parts are read of texts
fine : (c : Scenario AnyTarget) (most : ℕ) → IsAccepted any_meaning c most → Fine any_meaning c
fine c most accepted = rw accepted.said (accepted-is-fine any_meaning
    (parts_of_texts any_meaning accepted.texts)
    (parts-well any_meaning any-lawful accepted.texts) accepted.keeps.rules)

-- so its runs take what is printed
pub budgets-are-exact : BudgetsAreExact
budgets-are-exact c most accepted single exact events end complete =
    meets-its-budget any_meaning any-lawful c (fine c most accepted) single
    (λ device version table number line is there. any-passes line.target
    (exact device version table number line is there)) events end complete
    ∙ sym accepted.budget
