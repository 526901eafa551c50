-- A flush has one empty piece for each line, in order.
use Rattle.lab_model.proofs.Common.{length, Some, map, ap, ◌∙◌, arith, range_with_len}
use Rattle.lab_model.proofs.Common.{slice_get-get_or, Meaning, empty_piece}
use Rattle.std.proofs.lemmas.List.FromFn.{get_or-map-range_with_len, length-map-range_with_len}
use Rattle.lab_split.specs.PiecesAreClasses.{FlushIsCounted, FlushIsOrdered}

-- as many pieces as lines
pub flush-counted : {S : Type 0} (m : Meaning S) → FlushIsCounted m
flush-counted m table span = length-map-range_with_len empty_piece 0 (length table)

-- each line's piece at its place
pub flush-ordered : {S : Type 0} (m : Meaning S) → FlushIsOrdered m
flush-ordered m table span line below =
    let cut = map empty_piece (range_with_len 0 (length table)) in
    let many = length-map-range_with_len empty_piece 0 (length table) in
    slice_get-get_or cut line (empty_piece line) (omega (arith, many))
    ∙ ap Some (get_or-map-range_with_len empty_piece 0 (length table) line line (empty_piece line)
    below (omega arith))
