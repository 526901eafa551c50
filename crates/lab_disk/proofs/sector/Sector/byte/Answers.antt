use Rattle.std.proofs.Common.{sym}
use Rattle.std.proofs.lemmas.List.{get_or-replicate}
use Rattle.lab_disk.proofs.sector.Sector.byte.Goals as goal

-- each place has the one byte
pub returns-in-Same-clause-byte : goal.returns-in-Same-clause-byte
returns-in-Same-clause-byte c = rw (← c.self.view_is, c.in-Same.is)
    (sym (get_or-replicate 512 c.args.place c.in-Same.byte 0 c.requires))
