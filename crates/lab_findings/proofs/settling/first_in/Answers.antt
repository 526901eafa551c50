-- No sector of an empty grid has a writer.
use Rattle.lab_model.proofs.Common.{ap}
use Rattle.std.specs.Prelude.{option_map}
use Rattle.lab_findings.specs.declared.found.Wrong.{Wrong}
use Rattle.lab_findings.proofs.Empties.{none-in}
use Rattle.lab_findings.proofs.settling.first_in.Goals as goal

pub returns-then-is_empty : goal.returns-then-is_empty
returns-then-is_empty c = ap (option_map (λ (wrong : Wrong). wrong.first))
    (none-in c.args.grid.now c.args.count c.args.number 0 0
    (c.is_empty.ensures.nobody c.if-is_empty.true))
