use Rattle.lab_model.proofs.Common.{◌≡◌, map, take}
use Rattle.lab_effect.specs.Mapping.{part_of}
use Rattle.lab_effect.proofs.pieces.written_parts.Given as goal

-- each piece gone over has its part
abbrev pub invariant-loop-piece : goal.invariant-loop-piece
invariant-loop-piece l =
    l.parts.items ≡ map (part_of l.bio) (take l.piece-index l.pieces)
