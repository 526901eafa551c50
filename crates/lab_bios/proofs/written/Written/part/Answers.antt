use Rattle.lab_bios.proofs.written.Written.part.Goals as goal

-- the part is of the changed sectors
pub returns-in-Changed : goal.returns-in-Changed
returns-in-Changed c = rw (← c.self.view_is, c.in-Changed.is, ← c.deref.ensures) c.part.ensures
