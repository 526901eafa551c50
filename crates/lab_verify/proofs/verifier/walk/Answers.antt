use Rattle.lab_model.proofs.Common.{rules, ◌≡◌, ◌∙◌, ◌<◌, ◌++◌, ℕ, ap, arith, get_or, length, subst}
use Rattle.lab_script.specs.Script.{row_of}
use Rattle.lab_script.specs.Task.{task_of}
use Rattle.lab_verify.specs.Walks.{HasWalked}
use Rattle.lab_standing.specs.Stands.{standing_of}
use Rattle.lab_verify.proofs.WalkLemmas.{logs-wait, blank_line, row-there, script-length}
use Rattle.lab_verify.proofs.WalkLemmas.{walk-refuses, walked-more}
use Rattle.lab_verify.proofs.MicrosGiven.{micros-all, micros-more, micros_before}
use Rattle.lab_verify.proofs.verifier.walk.Goals as goal

-- before the first line
pub loop-line-init : goal.loop-line-init
loop-line-init g c = search rules

-- a line that breaks no rule
pub loop-line-preserved : goal.loop-line-preserved
loop-line-preserved g c =
    let m = g.T.Target.meaning in
    let items = c.deref-line-items.result.now in
    let place = c.loop-line.line-index in
    let within : place < length items = omega arith in
    let line = get_or items place blank_line in
    record {
      sound = c.in_default.ensures.sound c.loop-line.invariant.sound;
      walked = λ parts has same.
          let so_far = c.loop-line.invariant.walked parts has same in
          let told = c.in_default.ensures.told parts so_far.1 c.loop-line.invariant.sound in
          let at = row-there parts.script c.args.script.now.lines.items items place same
          c.deref-line-items.ensures.value within in (
            walked-more m parts c.loop-line.standing c.step.new.standing place (row_of line) at
                so_far.0 told.0 told.1 c.in_default.ensures.fault,
            record {
              tables = has.tables;
              logs = logs-wait m parts c.loop-line.standing c.step.new.standing
                  (task_of line.command) c.loop-line.logs.items c.step.new.logs.items told.1
                  c.in_default.ensures.logs so_far.1.logs;
            },
            micros-more m parts (standing_of m c.loop-line.standing) place (row_of line)
                c.args.micros.now.items c.loop-line.micros.items c.step.new.micros.items at
                so_far.0.stands (c.in_default.ensures.micros c.loop-line.invariant.sound) so_far.2,
          );
    }

-- a line that is refused
pub returns-in-Err-clause-told : goal.returns-in-Err-clause-told
returns-in-Err-clause-told g c =
    let m = g.T.Target.meaning in
    let items = c.deref-line-items.result.now in
    let place = c.loop-line.line-index in
    let within : place < length items = omega arith in
    let line = get_or items place blank_line in
    λ parts has same.
    let so_far = c.loop-line.invariant.walked parts has same in
    walk-refuses m parts c.loop-line.standing c.step.new.standing place (row_of line)
    (row-there parts.script c.args.script.now.lines.items items place same
    c.deref-line-items.ensures.value within) so_far.0 c.in-Err.refusal
    (c.in-Err.ensures.told parts so_far.1 c.loop-line.invariant.sound)

-- all lines break none
pub returns-clause-told : goal.returns-clause-told
returns-clause-told g c = λ parts has same.
    let count = script-length parts.script c.args.script.now.lines.items same in
    let end : c.loop-line.line-index ≡ length parts.script
    = omega (arith, count, c.deref-line-items.ensures.len) in
    subst (λ (n : ℕ). HasWalked g.T.Target.meaning parts n c.loop-line.standing) end
    (c.loop-line.invariant.walked parts has same).0

-- and their micro-commands are the script's
pub returns-clause-micros : goal.returns-clause-micros
returns-clause-micros g c = λ parts has same.
    let m = g.T.Target.meaning in
    let count = script-length parts.script c.args.script.now.lines.items same in
    let end : c.loop-line.line-index ≡ length parts.script
    = omega (arith, count, c.deref-line-items.ensures.len) in
    (c.loop-line.invariant.walked parts has same).2
    ∙ ap (λ micros. c.args.micros.now.items ++ micros)
    (ap (micros_before m parts) end ∙ micros-all m parts)
