use Rattle.std.proofs.lemmas.List.{get_or-set_same}
use Rattle.std.proofs.Common.{rules, ◌/◌, ◌∙◌, ap, get_or, false}
use Rattle.lab_disk.proofs.Slots.{same-slots, made-at, slot_read, kept-made, below_slots}
use Rattle.lab_disk.specs.Pages.{PageRow}
use Rattle.lab_disk.proofs.pages.Pages.make.Goals as goal

-- the slot had no page, and the new one has zeroes alone
pub returns-clause-same : goal.returns-clause-same
returns-clause-same c = search (rules, slot_read, same-slots)

-- the slot has its page now
pub returns-clause-made : goal.returns-clause-made
returns-clause-made c = search (rules, made-at, get_or-set_same, below_slots)

-- a page comes and none goes
pub returns-clause-kept : goal.returns-clause-kept
returns-clause-kept c k made =
    kept-made c.self.inside.slots.items (c.args.at / 64) (k / 64) c.in_ok-blank_page.field-0
    (ap (λ (row : PageRow). get_or row.made (k / 64) false) c.self.view_is ∙ made)
