-- The script's next micro-command is done, if one is left.
use Rattle.lab_model.proofs.Common.{rules}
use Rattle.lab_effect.proofs.control_effect.control.Goals as goal

-- it is not wrong
pub carry_out-requires-clause-moves : goal.carry_out-requires-clause-moves
carry_out-requires-clause-moves g c = rw (← c.in-Some.ensures.micro) at c.requires.moves

-- and it finds what it needs
pub carry_out-requires-clause-fits : goal.carry_out-requires-clause-fits
carry_out-requires-clause-fits g c = rw (← c.in-Some.ensures.micro) at c.requires.fits

-- so it is done and counted
pub returns-clause-next : goal.returns-clause-next
returns-clause-next g c = search rules
