-- The lemma of that name.
use Rattle.law_simple_lines.proofs.ExactBudgets.{budgets-are-exact}
use Rattle.law_simple_lines.proofs.budgets_are_exact.Goals as goal

pub returns : goal.returns
returns g = budgets-are-exact
