-- Those of the numbers so far are counted, and the others are still to come.
use Rattle.lab_model.proofs.Common.{◌≡◌, ◌+◌, ◌-◌, ◌<◌, length, count_by, Bio, is_bio}
use Rattle.lab_bios.specs.Children.{child_count}
use Rattle.lab_bios.proofs.Walks.{left_from}
use Rattle.lab_bios.proofs.bios.Bios.count_each.Given as goal

abbrev pub invariant-loop-child : goal.invariant-loop-child
invariant-loop-child l = record {
  counted : l.count + count_by (λ (bio : Bio). is_bio l.number bio.parent)
      (left_from l.from l.self.items) ≡ child_count l.number l.self.items;
  few : l.count < l.from;
}

abbrev pub decreases-loop-child : goal.decreases-loop-child
decreases-loop-child l = length l.self.items + 1 - l.from
