-- The class of a piece: that of each of its sectors. Where the pieces lie that cover a run of
-- sectors, by their places in the list. Names: covered, and where a piece of these lies. The pieces
-- of a bio are its classes: sectors of one piece are of one class, those of one class are in one
-- piece, and so no two pieces are of one class.
use Rattle.lab_model.proofs.Common.{rules, ◌≡◌, ℕ, ◌+◌, ◌-◌, true, Some, arith, Holds, Meaning}
use Rattle.lab_model.proofs.Common.{block_at, line_number, same_class, Table, HasNoGap, line_at}
use Rattle.lab_model.proofs.Common.{zero, suc, ◌<◌, ◌≤◌, List, [], ◌∷◌, All, slice_get}
use Rattle.lab_model.proofs.Common.{get_or_from_slice_get, slice_get_within, ◌≢◌, inl, inr, ◌⊎◌}
use Rattle.lab_model.proofs.Common.{cases_eq, Kind, Span, Lawful, pieces, sector_pieces, size_of}
use Rattle.lab_model.specs.declared.piece.Piece.{Piece}
use Rattle.lab_table.proofs.Lines.{line_at-is}
use Rattle.lab_split.specs.PiecesCover.{IsOfLine, Covers}
use Rattle.lab_split.proofs.Cuts.{line_number-is, same_class-block}
use Rattle.lab_split.specs.PiecesAreClasses.{AreOfOneClass, AreInOne, IsInTable, PiecesAreClasses}
use Rattle.lab_split.specs.PiecesAreClasses.{PiecesDiffer}
use Rattle.lab_split.proofs.Covering.{sector_pieces-are}
use Rattle.lab_split.proofs.Together.{same_class-are, run-AreInOne}

module _ {S : Type 0} (m : Meaning S) (table : Table S) (gap : HasNoGap 0 table) where
  -- the line of a piece has each of its sectors
  piece-line : (piece : Piece) (sector : ℕ) → IsOfLine m table piece → Holds piece.span sector
      → line_at table sector ≡ Some piece.line
  piece-line piece sector is has = line_at-is table sector piece.line gap (record {
    line = is.line;
    there = is.there;
    after = omega (arith, is.after, has.0);
    before = omega (arith, is.before, has.1);
  })

  -- a sector of a piece is in the block of the first
  piece-block : (piece : Piece) (sector : ℕ) → (is : IsOfLine m table piece)
      → Holds piece.span sector
      → (m.shape is.line.target).block (sector - is.line.start)
      ≡ (m.shape is.line.target).block (piece.span.first - is.line.start)
  piece-block piece sector is has =
      let place : piece.span.first + (sector - piece.span.first) ≡ sector = omega (arith, has.0) in
      rw place at (is.together (sector - piece.span.first) (omega (arith, has.0, has.1)))

  -- two sectors of a piece are of one class
  pub piece-class : (piece : Piece) (a b : ℕ) → IsOfLine m table piece → Holds piece.span a
      → Holds piece.span b → same_class m table a b ≡ true
  piece-class piece a b is one other = search (rules, same_class-block, piece-line, piece-block)

  -- the number of a piece's line is that of its first sector
  piece-number : (piece : Piece) → IsOfLine m table piece
      → line_number table piece.span.first ≡ piece.line
  piece-number piece is = line_number-is m table piece.span.first piece.line
      (piece-line piece piece.span.first is (omega arith, omega (arith, is.some)))

  -- pieces of one line and block have first sectors of one class
  pub firsts-class : (left right : Piece) → IsOfLine m table left → IsOfLine m table right
      → left.line ≡ right.line → block_at m table left.span.first ≡ block_at m table
      right.span.first → AreOfOneClass m table left.span.first right.span.first
  firsts-class left right one other line block = search (rules, piece-number)

-- what holds of all items holds of the one at a place
pub All-slice_get : {X : Type 0} (P : X → Type 0) (xs : List X) (place : ℕ) (x : X) → All P xs
    → slice_get xs place ≡ Some x → P x
All-slice_get P xs place x all there = search (rules, get_or_from_slice_get, slice_get_within)

-- a piece lies in the run that pieces cover
pub covered-inside : (first len : ℕ) (cut : List Piece) (place : ℕ) (piece : Piece)
    → Covers first len cut → slice_get cut place ≡ Some piece
    → (first ≤ piece.span.first) × (piece.span.first + piece.span.len ≤ first + len)
covered-inside first len [] place piece cover there = absurd (cc)
covered-inside first len (head ∷ more) zero piece cover there =
    let is : piece ≡ head = cc in
    rw is (omega (arith, cover.0), omega (arith, cover.0, cover.1))
covered-inside first len (head ∷ more) (suc place) piece cover there =
    let later = covered-inside (first + head.span.len) (len - head.span.len) more place piece
    cover.2 there in
    (omega (arith, later.0), omega (arith, cover.1, later.1))

-- of pieces that cover sectors the earlier one ends where the later begins, or before
pub covered-rise : (first len : ℕ) (cut : List Piece) → Covers first len cut
    → (i j : ℕ) (left right : Piece) → i < j → slice_get cut i ≡ Some left
    → slice_get cut j ≡ Some right → left.span.first + left.span.len ≤ right.span.first
covered-rise first len (head ∷ more) cover zero (suc j) left right below one other =
    let is : left ≡ head = cc in
    let later = covered-inside (first + head.span.len) (len - head.span.len) more j right cover.2
    other in
    rw is (omega (arith, cover.0, later.0))
covered-rise first len (head ∷ more) cover (suc i) (suc j) left right below one other =
    covered-rise (first + head.span.len) (len - head.span.len) more cover.2 i j left right
    (omega arith) one other
covered-rise first len _ cover _ _ left right below one other = absurd (first_of (omega arith, cc))

-- a bio in a table that is no flush has the pieces of its sectors, which are the table's
record IsRun {S : Type 0} (m : Meaning S) (table : Table S) (kind : Kind) (span : Span)
    : Type 0 where
  cut : pieces m table kind span ≡ sector_pieces m table span.first span.len
  within : span.first + span.len ≤ size_of table

-- so it is, whatever its kind
kind-IsRun : {S : Type 0} (m : Meaning S) (table : Table S) (kind : Kind) (span : Span)
    → IsInTable table kind span → IsRun m table kind span
kind-IsRun m table kind span is = search rules

-- one piece has both sectors, whichever is called first
swapped : (cut : List Piece) (a b : ℕ) → AreInOne cut a b → AreInOne cut b a
swapped cut a b are = search rules

module _ {S : Type 0} (m : Meaning S) (lawful : Lawful m) (table : Table S)
    (gap : HasNoGap 0 table) (first len : ℕ) (within : first + len ≤ size_of table) where
  -- each piece of a run is of its line
  of-line : (place : ℕ) (piece : Piece)
      → slice_get (sector_pieces m table first len) place ≡ Some piece → IsOfLine m table piece
  of-line place piece = All-slice_get (IsOfLine m table) (sector_pieces m table first len) place
      piece (sector_pieces-are m table gap first len within).each

  -- sectors of one piece of a run are of one class
  in-one-class : (a b : ℕ) → AreInOne (sector_pieces m table first len) a b
      → AreOfOneClass m table a b
  in-one-class a b are = search (rules, same_class-are, piece-class, of-line)

  -- sectors of one class are in one piece of a run
  class-in-one : (a b : ℕ) → first ≤ a → a < first + len → first ≤ b → b < first + len
      → AreOfOneClass m table a b → AreInOne (sector_pieces m table first len) a b
  class-in-one a b from below start upto same =
      search (rules, run-AreInOne, swapped)

  -- the first sectors of two pieces of a run are in no one piece
  firsts-apart : (i j : ℕ) (left right : Piece) → i < j
      → slice_get (sector_pieces m table first len) i ≡ Some left
      → slice_get (sector_pieces m table first len) j ≡ Some right → 0 < left.span.len
      → AreInOne (sector_pieces m table first len) left.span.first right.span.first → ⊥
  firsts-apart i j left right below one other some are =
      let cut = sector_pieces m table first len in
      let cover = (sector_pieces-are m table gap first len within).cover in
      let rise = covered-rise first len cut cover in
      search rules

  -- the first sector of a piece of a run is one of the run
  first-inside : (place : ℕ) (piece : Piece)
      → slice_get (sector_pieces m table first len) place ≡ Some piece
      → (first ≤ piece.span.first) × (piece.span.first < first + len)
  first-inside place piece there =
      let cut = sector_pieces m table first len in
      let cover = (sector_pieces-are m table gap first len within).cover in
      let some = (of-line place piece there).some in
      let inside = covered-inside first len cut place piece cover there in
      (inside.0, omega (arith, inside.1))

  -- two pieces of a run differ in line or block: else one piece would have both first sectors
  run-differs : (i j : ℕ) (left right : Piece) → i < j
      → slice_get (sector_pieces m table first len) i ≡ Some left
      → slice_get (sector_pieces m table first len) j ≡ Some right
      → (left.line ≢ right.line)
      ⊎ (block_at m table left.span.first ≢ block_at m table right.span.first)
  run-differs i j left right below one other = elim (cases_eq left.line right.line) [
    | inr apart ↦ inl apart
    | inl line ↦ inr (λ block.
        let start = first-inside i left one in
        let later = first-inside j right other in
        let same = firsts-class m table gap left right (of-line i left one)
        (of-line j right other) line block in
        firsts-apart i j left right below one other (of-line i left one).some
        (class-in-one left.span.first right.span.first start.0 start.1 later.0 later.1 same))
  ]

-- any two pieces of a bio differ
pub pieces-differ : {S : Type 0} (m : Meaning S) → Lawful m → PiecesDiffer m
pieces-differ m lawful table kind span is i j left right below one other =
    search (rules, kind-IsRun, run-differs)

-- the pieces of a bio are its classes
pub pieces-are-classes : {S : Type 0} (m : Meaning S) → Lawful m → PiecesAreClasses m
pieces-are-classes m lawful table kind span is a b one other =
    let run = kind-IsRun m table kind span is in
    rw run.cut (
      in-one-class m lawful table is.no_gap span.first span.len run.within a b,
      class-in-one m lawful table is.no_gap span.first span.len run.within a b one.0 one.1
          other.0 other.1,
    )
