use Rattle.lab_model.proofs.Common.{sym, arith, empty_piece}
use Rattle.std.proofs.lemmas.List.FromFn.{map-range_with_len_more}
use Rattle.lab_split.proofs.cut.flush_pieces.Goals as goal

-- the line's piece is there
pub loop-line-preserved : goal.loop-line-preserved
loop-line-preserved c = rw (c.in_ok-push.ensures.items, c.loop-line.invariant)
    (sym (map-range_with_len_more empty_piece 0 c.loop-line.line c.loop-line.line (omega arith)))
