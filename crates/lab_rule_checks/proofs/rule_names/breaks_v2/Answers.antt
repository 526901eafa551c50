use Rattle.lab_model.proofs.Common.{◌∙◌, sym}
use Rattle.lab_rule_checks.proofs.rule_names.breaks_v2.Goals as goal

-- a disk of the number is declared
pub returns-in-Ram : goal.returns-in-Ram
returns-in-Ram g c = λ parts. rw c.in-Ram.is
    (λ e. sym c.has_disk.ensures ∙ e, λ e. c.has_disk.ensures ∙ e)
