use Rattle.lab_model.proofs.Common.{rules}
use Rattle.lab_split.proofs.Cuts.{cut-past, sector_pieces-cut}
use Rattle.lab_split.proofs.cut.take_piece.Goals as goal

-- the sector after the piece is in the piece's line or at its end
pub line_from-next-requires : goal.line_from-next-requires
line_from-next-requires g c = search (rules, cut-past)

-- the first piece is off, and the line of the next sector is known
pub returns : goal.returns
returns g c = search (rules, sector_pieces-cut)
