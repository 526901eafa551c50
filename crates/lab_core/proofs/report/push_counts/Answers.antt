-- Each piece is written after the others.
use Rattle.lab_model.proofs.Common.{append_assoc}
use Rattle.lab_core.proofs.report.push_counts.Goals as goal

pub returns : goal.returns
returns c = rw (
  c.in_ok-push.ensures.items,
  c.in_ok-push_number-3.ensures.ok,
  c.in_ok-extend_from_slice-3.ensures.items,
  c.in_ok-push_number-2.ensures.ok,
  c.in_ok-extend_from_slice-2.ensures.items,
  c.in_ok-push_number.ensures.ok,
  c.in_ok-extend_from_slice.ensures.items,
) (simp append_assoc)
