use Rattle.lab_model.proofs.Common.{◌≤◌, ◌∙◌, ap, arith, get_or, length, map, sym, IsOk}
use Rattle.lab_model.proofs.Common.{err_from_is_err_and, take_all, part_of}
use Rattle.lab_table.specs.TableText.{each_known}
use Rattle.lab_rulebook.specs.PartsOf.{table_of_lines}
use Rattle.lab_refusal.specs.Faults.{table_told}
use Rattle.lab_standing.specs.Image.{text_of}
use Rattle.lab_verify.proofs.ReadTexts.{blank, first-told, given-more, item-there, read-all}
use Rattle.lab_verify.proofs.ReadTexts.{read-more}
use Rattle.lab_verify.proofs.parts.read_tables.Goals as goal

-- a table that can't be read is told, and those before it can be
pub returns-in_err-read_one_table-clause-fault : goal.returns-in_err-read_one_table-clause-fault
returns-in_err-read_one_table-clause-fault g c =
    let p = err_from_is_err_and c.from_residual-in_err-read_one_table.result
    c.from_residual-in_err-read_one_table.ensures.1 in
    let items = c.deref-part-items.result.now in
    rw (p.1, p.2) (first-told (λ text fault. table_told text.0 fault.line fault.why)
    (λ text. table_of_lines g.T.Target.meaning each_known text.1)
    part_of c.args.bundle.now.tables.items _ (get_or items c.loop-part.part-index blank)
    (item-there _ items _ blank c.deref-part-items.ensures.value (omega arith))
    c.loop-part.invariant.readable c.in_err-read_one_table.field-0.0
    c.in_err-read_one_table.ensures.fault)

-- one table more is read
pub loop-part-preserved : goal.loop-part-preserved
loop-part-preserved g c =
    let items = c.deref-part-items.result.now in
    let tables = c.args.bundle.now.tables.items in
    let place = c.loop-part.part-index in
    let part = get_or items place blank in
    let at = item-there tables items place blank c.deref-part-items.ensures.value (omega arith) in
    record {
      read = rw c.in_ok-push.ensures.items (given-more part_of text_of tables place part
          c.loop-part.tables.items c.in_ok-read_one_table.field-0 at
          c.loop-part.invariant.read c.in_ok-read_one_table.ensures.read);
      readable = read-more
          (λ part. IsOk (table_of_lines g.T.Target.meaning each_known (part_of part).1)) tables
          place part at c.loop-part.invariant.readable c.in_ok-read_one_table.ensures.readable;
    }

-- all are
pub returns-clause-read : goal.returns-clause-read
returns-clause-read g c =
    let items = c.args.bundle.now.tables.items in
    let enough : length items ≤ c.loop-part.part-index =
    omega (arith, ap length c.deref-part-items.ensures.value) in
    ap (map part_of) (sym (take_all c.loop-part.part-index items enough))
    ∙ c.loop-part.invariant.read

-- all can be
pub returns-clause-readable : goal.returns-clause-readable
returns-clause-readable g c =
    read-all (λ text. IsOk (table_of_lines g.T.Target.meaning each_known text.1)) part_of
    c.args.bundle.now.tables.items c.loop-part.part-index
    (omega (arith, ap length c.deref-part-items.ensures.value)) c.loop-part.invariant.readable
