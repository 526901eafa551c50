use Rattle.lab_bios.proofs.written.Written.sectors.Goals as goal

-- the sectors are the changed ones
pub returns-in-Changed : goal.returns-in-Changed
returns-in-Changed c = rw (← c.self.view_is, c.in-Changed.is, ← c.deref.ensures) c.sectors.ensures
