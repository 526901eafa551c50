-- The pieces gone over are put down as their lines' own.
use Rattle.lab_model.proofs.Common.{◌≡◌, map, take}
use Rattle.lab_next.specs.Own.{own_of}
use Rattle.lab_next.proofs.own.own_of_each.Given as goal

abbrev pub invariant-loop-piece : goal.invariant-loop-piece
invariant-loop-piece g l =
    l.out.items ≡ map (own_of g.T.Target.meaning l.bio l.lines) (take l.piece-index l.pieces)
