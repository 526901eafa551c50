-- Pieces judged one after another by the lines of a table. The pieces of a bio that is inside a
-- table: each fits its line.
use Rattle.lab_model.proofs.Common.{rules, ◌≡◌, ◌+◌, ◌≤◌, ℕ, suc, zero, List, [], ◌∷◌, Some}
use Rattle.lab_model.proofs.Common.{slice_get, Kind, Span, IsPiece, Meaning, change, table_judged}
use Rattle.lab_model.proofs.Common.{Table, placed, true, length, map, refl, arith, All}
use Rattle.lab_model.proofs.Common.{range_with_len, All-cons, All-nil, All-weaker, Flush}
use Rattle.lab_model.proofs.Common.{fits_table, empty_piece, pieces, HasNoGap, slice_get-within}
use Rattle.lab_model.specs.declared.piece.Piece.{Piece}
use Rattle.lab_model.specs.declared.table_line.TableLine.{TableLine}
use Rattle.lab_model.specs.Tables.{with_target}
use Rattle.lab_effect.specs.Mapping.{FitsLine}
use Rattle.lab_split.specs.PiecesCover.{IsOfLine}
use Rattle.lab_split.proofs.Covering.{pieces-cover}

-- an item that is there is there after a change somewhere, as it was or as the change made it
item-after : {X : Type 0} (P : X → Type 0) (xs : List X) (at i : ℕ) (f : X → X) (x : X)
    → slice_get xs i ≡ Some x → P x → P (f x)
    → (y : X) × (slice_get (change xs at f) i ≡ Some y) × P y
item-after P [] at i f x there was is = absurd (cc)
item-after P (y ∷ ys) zero zero f x there was is = (f x, cc, is)
item-after P (y ∷ ys) zero (suc i) f x there was is = (x, there, was)
item-after P (y ∷ ys) (suc at) zero f x there was is = (x, there, was)
item-after P (y ∷ ys) (suc at) (suc i) f x there was is = item-after P ys at i f x there was is

module _ {S : Type 0} (m : Meaning S) (now : ℕ) where
  -- a line counts sectors as before once it has judged a piece
  placed-judged : (kind of : Kind) (piece : Piece) (line : TableLine S) (span : Span)
      → placed kind (with_target (λ t. m.judged t of (placed of line piece.span) now) line) span
      ≡ placed kind line span
  placed-judged kind of piece line span = search rules

  -- a piece that fits its line fits it after another is judged
  pub FitsLine-judged : (kind : Kind) (table : Table S) (judged piece : Piece)
      → FitsLine kind table piece → FitsLine kind (table_judged m kind now table judged) piece
  FitsLine-judged kind table judged piece fits =
      let after = item-after (λ line. IsPiece kind (placed kind line piece.span)
      × ((placed kind line piece.span).first + (placed kind line piece.span).len ≤ line.len))
      table judged.line piece.line
      (λ line. with_target (λ t. m.judged t kind (placed kind line judged.span) now) line)
      fits.line fits.there
      (fits.asked, fits.inside)
      (rw (placed-judged kind kind judged fits.line piece.span) (fits.asked, fits.inside)) in
      record { line = after.0; there = after.1; asked = after.2.0; inside = after.2.1 }

-- a flush's pieces fit the lines that they count
flush-fits : {S : Type 0} (table : Table S) (first count : ℕ) → first + count ≤ length table
    → All (FitsLine Flush table) (map empty_piece (range_with_len first count))
flush-fits table first zero inside = All-nil (FitsLine Flush table)
flush-fits table first (suc count) inside =
    let found = slice_get-within table first (omega arith) in
    All-cons (FitsLine Flush table) (empty_piece first)
    (map empty_piece (range_with_len (first + 1) count))
    (record { line = found.0; there = found.1; asked = refl; inside = omega arith })
    (flush-fits table (first + 1) count (omega arith))

module _ {S : Type 0} (m : Meaning S) (table : Table S) (gap : HasNoGap 0 table) (span : Span) where
  -- each piece fits its line
  pub pieces-fit : (kind : Kind) → fits_table table kind span ≡ true
      → All (FitsLine kind table) (pieces m table kind span)
  pieces-fit Flush inside = flush-fits table 0 (length table) (omega arith)
  pieces-fit kind inside = All-weaker (IsOfLine m table) (FitsLine kind table)
      (λ piece of. record {
        line = of.line;
        there = of.there;
        asked = of.some;
        inside = omega (arith, of.after, of.before);
      })
      (pieces m table kind span) ((pieces-cover m).of_lines table kind span gap (λ same. cc) inside)
