-- A line that isn't an operation changes its log alone.
use Rattle.lab_model.proofs.Common.{rules}
use Rattle.lab_effect.proofs.LogLines.{entry_done}
use Rattle.lab_effect.proofs.log_effect.take_this.Goals as goal

-- the line is done, if memory was there
pub returns-in_default-clause-next : goal.returns-in_default-clause-next
returns-in_default-clause-next g c =
    entry_done c.take_entry.result _ _ c.args.number c.args.line.now c.take_entry.new.self
    c.state.view_is c.requires.there (search rules) (search rules) (search rules)
