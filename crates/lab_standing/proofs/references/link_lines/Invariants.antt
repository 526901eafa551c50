use Rattle.lab_model.proofs.Common.{◌≡◌, take, flat_map}
use Rattle.lab_standing.specs.Linked.{devices_of_line, grown}
use Rattle.lab_standing.proofs.references.link_lines.Given as goal

-- the row has what the lines gone over refer to
abbrev pub invariant-loop-line : goal.invariant-loop-line
invariant-loop-line g l = l.row.items
    ≡ grown (flat_map (devices_of_line g.T.Target.meaning) (take l.line-index l.lines))
    l.initial.row.items
