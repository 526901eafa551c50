use Rattle.lab_model.proofs.Common.{append_assoc, rules, ◌≡◌, ◌+◌, false, [], ◌∷◌, ◌++◌, length, ap}
use Rattle.lab_model.proofs.Common.{sym, ◌∙◌, arith, is_skipped, length-lines_of, map-append}
use Rattle.lab_model.proofs.Common.{common_steps, All-nil, All-push}
use Rattle.lab_text.specs.Lines.{lines_left}
use Rattle.lab_text.specs.Rows.{with_front}
use Rattle.lab_text.specs.Words.{words_of}
use Rattle.lab_script.specs.Script.{ScriptRow, script_rows, row_of, declares}
use Rattle.lab_script.specs.Task.{task_of, IsBounded}
use Rattle.lab_script.specs.declared.command.ScriptLine.{ScriptLine}
use Rattle.lab_script.proofs.Rows.{rows_from, rows_from-bad, rows_from-kept}
use Rattle.lab_script.proofs.reader.read_script.Goals as goal

-- at first no row is there, and all lines are left
pub loop-line-init : goal.loop-line-init
loop-line-init c = search (rules, length-lines_of, All-nil)

-- the line's row goes over to the front
pub loop-line-preserved : goal.loop-line-preserved
loop-line-preserved c =
    let line = c.in-Some.line.now in
    let command = c.in-Some-read_command.command in
    let left = c.in-Some.ensures.steps in
    let kept : is_skipped line ≡ false = grind (arith, common_steps) in
    let allowed : c.loop-line.may_declare ≡ false → declares (words_of line) ≡ false =
    λ h. grind (arith, common_steps) in
    let front = script_rows c.loop-line.lines.items in
    let row : ScriptRow = record { number = c.loop-line.number + 1; task = task_of command } in
    let rest = lines_left c.next.new.self in
    let asked = sym c.in-Some-read_command.ensures.exact in
    let bounded : IsBounded command = c.in-Some-read_command.ensures.bounded in
    let number = c.loop-line.number in
    let step =
    rows_from-kept c.loop-line.may_declare number line rest (task_of command) kept asked allowed in
    let pushed : script_rows c.push.new.self.items ≡ front ++ row ∷ [] =
    ap script_rows c.in_ok-push.ensures.items ∙ map-append row_of c.loop-line.lines.items _ in
    let moved = c.loop-line.invariant.2
    ∙ ap (λ ls. with_front front (rows_from c.loop-line.may_declare c.loop-line.number ls)) left
    ∙ ap (with_front front) step
    ∙ (search (rules, append_assoc)) in (
      tt,
      tt,
      rw (pushed, c.declares_disk-declares.ensures) moved,
      omega (arith, c.loop-line.invariant.3, ap length left),
      rw c.in_ok-push.ensures.items
          (All-push (λ (l : ScriptLine). IsBounded l.command) _ _ c.loop-line.invariant.4 bounded),
    )

-- a kept line that is no command is the first fault
pub returns-in_default-clause-fault : goal.returns-in_default-clause-fault
returns-in_default-clause-fault c = grind (arith, common_steps, rows_from-bad)
