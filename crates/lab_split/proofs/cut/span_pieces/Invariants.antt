use Rattle.lab_model.proofs.Common.{◌≡◌, ◌++◌, sector_pieces}
use Rattle.lab_split.specs.Cuts.{IsUncut}
use Rattle.lab_split.proofs.cut.span_pieces.Given as goal

-- the pieces so far and those of the sectors that are left are the run's
abbrev pub invariant-loop-uncut : goal.invariant-loop-uncut
invariant-loop-uncut g l = record {
  uncut : IsUncut l.table l.uncut;
  pieces : l.pieces.items
      ++ sector_pieces g.T.Target.meaning l.table l.uncut.span.first l.uncut.span.len
      ≡ sector_pieces g.T.Target.meaning l.table l.fn.span.first l.fn.span.len;
}

-- each piece takes at least one of the sectors that are left
abbrev pub decreases-loop-uncut : goal.decreases-loop-uncut
decreases-loop-uncut g l = l.uncut.span.len
