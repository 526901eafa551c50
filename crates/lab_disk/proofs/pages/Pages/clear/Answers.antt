use Rattle.std.proofs.Common.{rules, sym}
use Rattle.std.proofs.lemmas.List.{length-replicate}
use Rattle.lab_disk.specs.Disk.{zero_sector}
use Rattle.lab_disk.proofs.Slots.{put-shown, same-made, same-zeroes}
use Rattle.lab_disk.proofs.pages.Pages.clear.Goals as goal

-- the slot's page has those sectors
pub returns-clause-zero : goal.returns-clause-zero
returns-clause-zero c = search (rules, put-shown, length-replicate)

-- a page stays where a page was
pub returns-clause-same_pages : goal.returns-clause-same_pages
returns-clause-same_pages c = search (rules, same-made)

-- the slot has no page, so its sectors are zero already
pub returns-in_default-clause-zero : goal.returns-in_default-clause-zero
returns-in_default-clause-zero c =
    put-shown _ _ c.self.view_is c.self.invariant.laid c.requires c.index_mut.ensures.value
    c.in_default.is _ _ (length-replicate c.args.part.len zero_sector)
    (rw c.in_default.is (sym (same-zeroes _ _ c.requires.on_page)))
