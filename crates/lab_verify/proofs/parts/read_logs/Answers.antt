use Rattle.lab_model.proofs.Common.{ap, arith, get_or, length, IsOk, err_from_is_err_and, part_of}
use Rattle.lab_iolog.specs.Log.{log_of_lines}
use Rattle.lab_rulebook.specs.PartsOf.{log_part as text_log}
use Rattle.lab_refusal.specs.Faults.{log_told}
use Rattle.lab_verify.specs.NamedLogs.{named_log_part}
use Rattle.lab_verify.proofs.ReadTexts.{blank, first-told, given-all, given-more, item-there}
use Rattle.lab_verify.proofs.ReadTexts.{read-all, read-more}
use Rattle.lab_verify.proofs.parts.read_logs.Goals as goal

-- a log that can't be read is told, and those before it can be
pub returns-in_err-read_one_log-clause-fault : goal.returns-in_err-read_one_log-clause-fault
returns-in_err-read_one_log-clause-fault c =
    let p = err_from_is_err_and c.from_residual-in_err-read_one_log.result
    c.from_residual-in_err-read_one_log.ensures.1 in
    let items = c.deref-part-items.result.now in
    rw (p.1, p.2) (first-told (λ text fault. log_told text.0 fault) (λ text. log_of_lines text.1)
    part_of c.args.bundle.now.logs.items _ (get_or items c.loop-part.part-index blank)
    (item-there _ items _ blank c.deref-part-items.ensures.value (omega arith))
    c.loop-part.invariant.readable c.in_err-read_one_log.field-0.0
    c.in_err-read_one_log.ensures.fault)

-- one log more is read
pub loop-part-preserved : goal.loop-part-preserved
loop-part-preserved c =
    let items = c.deref-part-items.result.now in
    let logs = c.args.bundle.now.logs.items in
    let place = c.loop-part.part-index in
    let part = get_or items place blank in
    let at = item-there logs items place blank c.deref-part-items.ensures.value (omega arith) in
    record {
      read = rw c.in_ok-push.ensures.items
          (given-more (λ part. text_log (part_of part)) named_log_part
          logs place part c.loop-part.logs.items c.in_ok-read_one_log.field-0 at
          c.loop-part.invariant.read c.in_ok-read_one_log.ensures.read);
      readable = read-more (λ part. IsOk (log_of_lines (part_of part).1)) logs place part at
          c.loop-part.invariant.readable c.in_ok-read_one_log.ensures.readable;
    }

-- all are
pub returns-clause-read : goal.returns-clause-read
returns-clause-read c =
    given-all text_log part_of named_log_part c.args.bundle.now.logs.items c.loop-part.part-index
    c.loop-part.logs.items (omega (arith, ap length c.deref-part-items.ensures.value))
    c.loop-part.invariant.read

-- all can be
pub returns-clause-readable : goal.returns-clause-readable
returns-clause-readable c =
    read-all (λ text. IsOk (log_of_lines text.1)) part_of c.args.bundle.now.logs.items
    c.loop-part.part-index (omega (arith, ap length c.deref-part-items.ensures.value))
    c.loop-part.invariant.readable
