-- The line of a check is told, and behind it those of the faults beside the one that it tells.
use Rattle.lab_model.proofs.Common.{map}
use Rattle.lab_any.specs.Any.{any_meaning}
use Rattle.lab_refusal.specs.Faults.{fault_seen}
use Rattle.dmlab_run.specs.Answering.{told_of}
use Rattle.dmlab_run.proofs.PartLemmas.{check-alone, lines-behind, stopped-behind, told-behind}
use Rattle.dmlab_run.proofs.all.answer_to_check_all.Goals as goal

pub invariant_of-result : goal.invariant_of-result
invariant_of-result c =
    let first = c.in_ok-answer.answer in
    record {
      stopped = stopped-behind first.refused first.text.items c.push_faults.new.text.items
          first.trouble (map fault_seen first.others.items)
          (map fault_seen c.in_ok-others.others.items)
          (check-alone any_meaning c.args.bytes.now (told_of first) c.in_ok-answer.ensures)
          first.stopped (lines-behind first.text.items c.in_ok-others.others.items
          c.push_faults.new.text.items
          (rw c.deref.ensures.value at c.in_ok-push_faults.ensures));
    }

pub returns : goal.returns
returns c = (
  told_of c.in_ok-answer.answer,
  map fault_seen c.in_ok-others.others.items,
  c.in_ok-answer.ensures,
  c.in_ok-others.ensures,
  told-behind (told_of c.in_ok-answer.answer) c.in_ok-others.others.items _
      (rw c.deref.ensures.value at c.in_ok-push_faults.ensures),
)
