-- Those found, and those among the pieces that are left, are all.
use Rattle.lab_model.proofs.Common.{◌≡◌, ◌++◌, drop}
use Rattle.lab_next.specs.Own.{unmade}
use Rattle.lab_next.proofs.pieces.unmade.Given as goal

abbrev pub invariant-loop-piece : goal.invariant-loop-piece
invariant-loop-piece g l =
    l.out.items ++ unmade l.state l.number l.place (drop l.piece-index l.pieces)
    ≡ unmade l.state l.number l.made l.pieces
