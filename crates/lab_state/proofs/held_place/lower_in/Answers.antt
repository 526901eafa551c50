-- The counts of the line are written anew, if the row has it; else nothing changes.
use Rattle.lab_model.proofs.Common.{rules, sym, change-past, change-set}
use Rattle.lab_state.specs.HeldRows.{without_kind}
use Rattle.lab_state.proofs.held_place.lower_in.Goals as goal

-- one is counted less
pub returns-then-line-len : goal.returns-then-line-len
returns-then-line-len c = rw c.lower.ensures (sym
    (change-set c.args.row.now.items c.args.line (without_kind c.args.kind) c.index_mut.result.now
    c.index_mut.ensures.value))

-- a change past the end does nothing
pub returns-else-line-len : goal.returns-else-line-len
returns-else-line-len c = search (rules, change-past)
