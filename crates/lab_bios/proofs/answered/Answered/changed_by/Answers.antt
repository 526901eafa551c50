-- The sector that a mark changes takes its place.
use Rattle.std.proofs.Common.{◌%◌, ◌/◌, slice_set}
use Rattle.lab_bios.specs.Answered.{with_change}
use Rattle.lab_bios.proofs.SectorLemmas.{set_change}
use Rattle.lab_bios.proofs.answered.Answered.changed_by.Goals as goal

-- it is the one that was there, with the marked byte
pub returns : goal.returns
returns c = let mark = c.in-Some.mark in
    rw (c.in-Some.is) (set_change (with_change c.args.before.now c.args.self.now) (mark.place / 512)
    c.in_ok-sector.sector c.set.new.self (λ sector. slice_set sector (mark.place % 512) mark.value)
    c.in_ok-sector.ensures c.in_ok-set.ensures.ok)
