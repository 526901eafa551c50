-- What is written and the lines that are left make the whole text.
use Rattle.lab_model.proofs.Common.{◌≡◌, ◌++◌, drop, flat_map, text_line}
use Rattle.lab_model.specs.Report.{answer_text}
use Rattle.lab_core.proofs.texts.push_answers.Given as goal

abbrev pub invariant-loop-answer : goal.invariant-loop-answer
invariant-loop-answer l =
    l.out.items ++ flat_map (λ answer. text_line (answer_text answer)) (drop l.answer-index l.answers)
    ≡ l.fn.out.items ++ flat_map (λ answer. text_line (answer_text answer)) l.fn.answers
