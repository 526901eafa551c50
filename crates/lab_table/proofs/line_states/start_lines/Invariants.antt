use Rattle.lab_model.proofs.Common.{◌≡◌, ◌++◌, map, take, drop, with_target}
use Rattle.lab_table.proofs.line_states.start_lines.Given as goal

-- the lines gone over are loaded
abbrev pub invariant-loop-line : goal.invariant-loop-line
invariant-loop-line g l =
    l.line-items ≡ map (with_target (λ t. g.T.Target.meaning.started t l.now))
    (take l.line-index l.initial.line-items) ++ drop l.line-index l.initial.line-items
