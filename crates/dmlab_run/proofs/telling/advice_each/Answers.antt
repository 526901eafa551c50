-- The advice on one fault more is told.
use Rattle.lab_model.proofs.Common.{rules, ◌≡◌, ◌++◌, arith}
use Rattle.std.specs.String.{string_bytes}
use Rattle.dmlab_run.proofs.PartLemmas.{each-push}
use Rattle.dmlab_run.proofs.telling.advice_each.Goals as goal

pub loop-fault-preserved : goal.loop-fault-preserved
loop-fault-preserved c =
    let told : string_bytes c.push_str.new.self
    ≡ string_bytes c.loop-fault.text ++ string_bytes c.in_ok-own.own = search rules in
    each-push c.args.bytes.now c.args.faults.now c.loop-fault.fault-index _
    (string_bytes c.loop-fault.text) (string_bytes c.in_ok-own.own) _ (omega arith) told
    c.loop-fault.invariant c.in_ok-own.ensures
