-- The pieces of a run cover it, line by line and block by block.
-- Names: the form of the pieces, and the fact.
use Rattle.lab_model.proofs.Common.{◌≡◌, ◌≢◌, ℕ, zero, suc, ◌+◌, ◌-◌, ◌<◌, ◌≤◌, Bool, true, false}
use Rattle.lab_model.proofs.Common.{cond, List, [], ◌∷◌, refl, ap, sym, subst, ◌∙◌, arith, Some}
use Rattle.lab_model.proofs.Common.{All, add-zero, leb-true, All-nil, All-cons, All-head, All-tail}
use Rattle.lab_model.proofs.Common.{Kind, Flush, Span, Meaning, fits_table, grown, piece_of_one}
use Rattle.lab_model.proofs.Common.{pieces, same_class, sector_pieces, with_sector, Table, HasNoGap}
use Rattle.lab_model.proofs.Common.{line_at, size_of}
use Rattle.lab_model.specs.declared.piece.Piece.{Piece}
use Rattle.lab_table.proofs.Lines.{line_at-has, line_at-is, line_at-some}
use Rattle.lab_split.specs.PiecesCover.{Covers, IsOfLine, PiecesCover}
use Rattle.lab_split.proofs.Cuts.{block_at-is, line_number-is, same_class-block_at, same_class-line}

-- pieces of a run: each is of its line, and they cover the run
pub record AreOf {S : Type 0} (m : Meaning S) (table : Table S) (first len : ℕ) (cut : List Piece)
    : Type 0 where
  pub each : All (IsOfLine m table) cut
  pub cover : Covers first len cut

module _ {S : Type 0} (m : Meaning S) (table : Table S) (gap : HasNoGap 0 table) where
  -- a sector of the table alone is of its line
  one-of-line : (sector : ℕ) → sector < size_of table → IsOfLine m table (piece_of_one table sector)
  one-of-line sector within =
      let found = line_at-some table sector gap within in
      let has = line_at-has table sector found.0 found.1 in
      let number = line_number-is m table sector found.0 found.1 in
      record {
        line = has.line;
        there = rw number has.there;
        some = omega arith;
        after = has.after;
        before = omega (arith, has.before);
        together = λ i below.
            let same : sector + i ≡ sector = omega arith in rw same;
      }

  -- a piece grows by the sector before it, where the two are of one class
  grown-of-line : (sector : ℕ) (p : Piece) → sector < size_of table → p.span.first ≡ sector + 1
      → same_class m table sector p.span.first ≡ true → IsOfLine m table p
      → IsOfLine m table (grown p sector)
  grown-of-line sector p within next same is =
      let found = line_at-some table sector gap within in
      let has = line_at-has table sector found.0 found.1 in
      let some = is.some in
      let before = is.before in
      let later : line_at table p.span.first ≡ Some p.line =
      line_at-is table p.span.first p.line gap
      (record { line = is.line; there = is.there; after = is.after; before = omega arith }) in
      let number : found.0 ≡ p.line =
      sym (line_number-is m table sector found.0 found.1)
      ∙ same_class-line m table sector p.span.first same
      ∙ line_number-is m table p.span.first p.line later in
      let here : line_at table sector ≡ Some p.line = found.1 ∙ ap Some number in
      let row : has.line ≡ is.line = cc (has.there, is.there) in
      let start = ap (λ l. l.start) row in
      let block : (m.shape is.line.target).block (sector - is.line.start)
      ≡ (m.shape is.line.target).block (p.span.first - is.line.start) =
      sym (block_at-is m table sector p.line is.line here is.there)
      ∙ same_class-block_at m table sector p.span.first same
      ∙ block_at-is m table p.span.first p.line is.line later is.there in
      record {
        line = is.line;
        there = is.there;
        some = omega arith;
        after = omega (arith, has.after);
        before = omega (arith, is.before);
        together = λ i below. grown-together sector p next is block i below;
      }
    where
      -- all sectors of the piece and the one before it are in one block
      grown-together : (sector : ℕ) (p : Piece) → p.span.first ≡ sector + 1
          → (is : IsOfLine m table p)
          → (m.shape is.line.target).block (sector - is.line.start)
          ≡ (m.shape is.line.target).block (p.span.first - is.line.start)
          → (i : ℕ) → i < p.span.len + 1
          → (m.shape is.line.target).block (sector + i - is.line.start)
          ≡ (m.shape is.line.target).block (sector - is.line.start)
      grown-together sector p next is block zero below =
          rw add-zero
      grown-together sector p next is block (suc i) below =
          let same : sector + suc i ≡ p.span.first + i = omega arith in
          rw same (is.together i (omega arith) ∙ sym block)

  -- a sector before pieces, by whether it is of the first's class
  with-chosen : (same : Bool) (sector more : ℕ) (p : Piece) (cut : List Piece)
      → same_class m table sector p.span.first ≡ same → sector < size_of table
      → AreOf m table (sector + 1) more (p ∷ cut)
      → AreOf m table sector (suc more)
      (cond same (grown p sector ∷ cut) (piece_of_one table sector ∷ p ∷ cut))
  with-chosen true sector more p cut is within are = record {
    each = All-cons (IsOfLine m table) (grown p sector) cut
        (grown-of-line sector p within are.cover.0 is (All-head (IsOfLine m table) p cut are.each))
        (All-tail (IsOfLine m table) p cut are.each);
    cover =
        let first : sector + 1 + p.span.len ≡ sector + (p.span.len + 1) = omega arith in
        let len : more - p.span.len ≡ suc more - (p.span.len + 1) = omega arith in (
          refl,
          omega (arith, are.cover.1),
          rw (← first, ← len) are.cover.2,
        );
  }
  with-chosen false sector more p cut is within are = record {
    each = All-cons (IsOfLine m table) (piece_of_one table sector) (p ∷ cut)
        (one-of-line sector within) are.each;
    cover =
        let len : more ≡ suc more - 1 = omega arith in
        (refl, omega arith, subst (λ n. Covers (sector + 1) n (p ∷ cut)) len are.cover);
  }

  -- a sector before pieces goes into the first or is one of its own
  with_sector-are : (sector more : ℕ) (cut : List Piece) → sector < size_of table
      → AreOf m table (sector + 1) more cut
      → AreOf m table sector (suc more) (with_sector m table sector cut)
  with_sector-are sector more [] within are = record {
    each = All-cons (IsOfLine m table) (piece_of_one table sector) [] (one-of-line sector within)
        (All-nil (IsOfLine m table));
    cover = (refl, omega arith, omega (arith, are.cover));
  }
  with_sector-are sector more (p ∷ cut) within are =
      with-chosen (same_class m table sector p.span.first) sector more p cut refl within are

  -- the pieces of a run
  pub sector_pieces-are : (first len : ℕ) → first + len ≤ size_of table
      → AreOf m table first len (sector_pieces m table first len)
  sector_pieces-are first zero within = record { each = All-nil (IsOfLine m table); cover = refl }
  sector_pieces-are first (suc more) within =
      with_sector-are first more (sector_pieces m table (first + 1) more) (omega arith)
      (sector_pieces-are (first + 1) more (omega arith))

-- the pieces of a bio that is no flush
kind-are : {S : Type 0} (m : Meaning S) (table : Table S) (kind : Kind) (span : Span)
    → HasNoGap 0 table → kind ≢ Flush → fits_table table kind span ≡ true
    → AreOf m table span.first span.len (pieces m table kind span)
kind-are m table Flush span gap other fits = absurd (other refl)
kind-are m table kind span gap other fits = sector_pieces-are m table gap span.first span.len
    (leb-true (span.first + span.len) (size_of table) fits)

-- the pieces of a bio cover its sectors
pub pieces-cover : {S : Type 0} (m : Meaning S) → PiecesCover m
pieces-cover m = record {
  of_lines = λ table kind span gap other fits. (kind-are m table kind span gap other fits).each;
  cover = λ table kind span gap other fits. (kind-are m table kind span gap other fits).cover;
}
