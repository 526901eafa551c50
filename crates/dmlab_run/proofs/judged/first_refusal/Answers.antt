-- A fault of the history comes before one of the rules, and after one of reading.
use Rattle.lab_model.proofs.Common.{rules, ◌≡◌, true, false}
use Rattle.lab_any.specs.Any.{any_meaning}
use Rattle.lab_refusal.specs.Faults.{told_by}
use Rattle.dmlab_run.specs.Answering.{is_told_by_rules}
use Rattle.dmlab_run.proofs.AnswerLemmas.{first-read, first-unread, first-verdict, rules-readable}
use Rattle.dmlab_run.proofs.judged.first_refusal.Goals as goal

-- a fault of reading comes first
pub returns-then-not-is_of_scenario : goal.returns-then-not-is_of_scenario
returns-then-not-is_of_scenario c texts verdict seen same =
    let none : is_told_by_rules (told_by c.args.refusal) ≡ false = search rules in
    first-read any_meaning texts c.args.refusal _ seen none verdict same

-- the history gives none
pub returns-in-Err : goal.returns-in-Err
returns-in-Err c texts verdict seen same =
    let some : is_told_by_rules (told_by c.args.refusal) ≡ true = search rules in
    let readable = rules-readable any_meaning texts c.args.refusal some verdict in
    first-unread any_meaning texts c.in-Err.unread _ seen readable c.in-Err.ensures.fault same

-- the history gives events, and a rule is told
pub returns : goal.returns
returns c texts verdict seen same =
    first-verdict any_meaning texts c.args.refusal _ _ seen c.in_default.ensures.events verdict same
