-- The choice is all that may come, or one fewer without the clock's event.
use Rattle.lab_model.proofs.Common.{rules, arith, nat_tests}
use Rattle.lab_core.proofs.Choice.{choice-count}
use Rattle.lab_core.proofs.lab.Lab.count_choice.Goals.{else-prompt-via-then-prompt+then-count-gt1+else-is_enabled}
use Rattle.lab_core.proofs.lab.Lab.count_choice.Goals.{else-prompt-via-then-prompt+else-count-gt1}
use Rattle.lab_core.proofs.lab.Lab.count_choice.Goals.{else-prompt-via-else-prompt}
use Rattle.lab_core.proofs.lab.Lab.count_choice.Goals as goal

-- the clock's event is one of several
pub returns-then-is_enabled : goal.returns-then-is_enabled
returns-then-is_enabled g c = search (rules, choice-count)

-- it may not come, no other may, or the run isn't prompt
pub returns-else-prompt : goal.returns-else-prompt
returns-else-prompt g c =
    let counted = choice-count c.args.self.now.scenario c.args.self.now.state in
    elim c.else-prompt.branch [
      | else-prompt-via-then-prompt+then-count-gt1+else-is_enabled w ↦
          rw w.if-prompt.true (grind (arith, nat_tests, c.requires, counted))
      | else-prompt-via-then-prompt+else-count-gt1 w ↦
          rw w.if-prompt.true (grind (arith, nat_tests, c.requires, counted))
      | else-prompt-via-else-prompt w ↦ rw w.if-prompt.false c.requires
    ]
