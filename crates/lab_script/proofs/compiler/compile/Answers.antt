use Rattle.lab_model.proofs.Common.{rules, ◌<◌, ◌++◌, length, refl, ap, sym, ◌∙◌, append_assoc}
use Rattle.lab_model.proofs.Common.{arith, append-nil, drop_more, drop_of_length-le}
use Rattle.lab_script.specs.Image.{walk_known}
use Rattle.lab_script.specs.Script.{script_rows}
use Rattle.lab_script.specs.Walk.{micros_from}
use Rattle.lab_script.proofs.compiler.compile.Goals as goal

-- before the first line nothing was added
pub loop-line-init : goal.loop-line-init
loop-line-init c = rw (c.new-micros.ensures.items, c.new-walk.ensures) refl

-- the line's steps were added
pub loop-line-preserved : goal.loop-line-preserved
loop-line-preserved c =
    let is = c.deref-line-items.ensures.value in
    let lines = c.args.script.now.lines.items in
    let i = c.loop-line.line-index in
    let within : i < length lines = omega (arith, c.loop-line-test.true, ap length is) in
    let w = walk_known c.loop-line.walk in
    let old = c.loop-line.micros.items in
    rw (
      c.in_ok-push_orders.ensures.ok,
      c.device_for-device.ensures,
      c.in_ok-made.ensures,
      c.in_ok-obey.ensures,
      is,
      append_assoc,
    ) (sym (ap (λ ls. old ++ micros_from w (script_rows ls)) (drop_more lines i _ within))
    ∙ c.loop-line.invariant)

-- no line is left
pub returns : goal.returns
returns c = search (rules, append-nil, drop_of_length-le)
