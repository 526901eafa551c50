use Rattle.lab_model.proofs.Common.{◌≡◌, map, range_with_len, empty_piece}
use Rattle.lab_split.proofs.cut.flush_pieces.Given as goal

-- each line so far has its piece
abbrev pub invariant-loop-line : goal.invariant-loop-line
invariant-loop-line l = l.pieces.items ≡ map empty_piece (range_with_len 0 l.line)
