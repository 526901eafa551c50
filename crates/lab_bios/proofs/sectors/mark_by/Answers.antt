-- A marked byte is set in its sector.
use Rattle.lab_model.proofs.Common.{◌/◌, ◌%◌, ap, sym, ◌∙◌, slice_set, change-set}
use Rattle.lab_bios.proofs.sectors.mark_by.Goals as goal

-- the sector is there, and gets the byte
pub returns-in_ok-set : goal.returns-in_ok-set
returns-in_ok-set c =
    let mark = c.in-Some.mark in
    let items = c.args.sectors.now.items in
    rw c.in-Some.is (ap (slice_set items (mark.place / 512)) c.in_ok-set.ensures.ok
    ∙ sym (change-set items (mark.place / 512)
    (λ sector. slice_set sector (mark.place % 512) mark.value) _ c.in-Some-get_mut.ensures.value))
