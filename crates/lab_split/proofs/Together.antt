-- Which sectors are of one class: one that lies between two of a class is of that class too, since
-- lines follow without gap, and blocks go up with the places of a line. Sectors of one class are in
-- one piece of a run of sectors.
use Rattle.lab_model.proofs.Common.{rules, ◌≡◌, ℕ, ◌-◌, ◌<◌, ◌≤◌, true, Some, ap, sym, ◌∙◌, arith}
use Rattle.lab_model.proofs.Common.{Lawful, Meaning, same_class, Table, HasNoGap, line_at, size_of}
use Rattle.lab_model.proofs.Common.{zero, suc, ◌+◌, Bool, false, cond, List, ◌∷◌, inl, inr, refl}
use Rattle.lab_model.proofs.Common.{slice_get, cases_lt, Holds, grown, piece_of_one, sector_pieces}
use Rattle.lab_model.proofs.Common.{with_sector}
use Rattle.lab_table.proofs.Lines.{line_at-has, line_at-is, line_at-some}
use Rattle.lab_split.proofs.Cuts.{block_at-is, line_number-is, same_class-block_at, same_class-line}
use Rattle.lab_split.specs.PiecesAreClasses.{AreOfOneClass, AreInOne}
use Rattle.lab_model.specs.declared.piece.Piece.{Piece}
use Rattle.lab_split.specs.PiecesCover.{Covers}
use Rattle.lab_split.proofs.Covering.{sector_pieces-are}

module _ {S : Type 0} (m : Meaning S) (table : Table S) where
  -- sectors that pass the test are of one line and block
  pub same_class-are : (a b : ℕ) → same_class m table a b ≡ true → AreOfOneClass m table a b
  same_class-are a b same = search rules

  -- two sectors that are of one class with a third are of one class
  pub same_class-third : (a b c : ℕ) → same_class m table a b ≡ true
      → same_class m table a c ≡ true → same_class m table b c ≡ true
  same_class-third a b c one other = search rules

module _ {S : Type 0} (m : Meaning S) (lawful : Lawful m) (table : Table S)
    (gap : HasNoGap 0 table) where
  -- a sector between two of one class is of the first's class
  pub same_class-between : (a b c : ℕ) → a ≤ b → b ≤ c → c < size_of table
      → same_class m table a c ≡ true → same_class m table a b ≡ true
  same_class-between a b c up on within same =
      let found = line_at-some table a gap (omega arith) in
      let last = line_at-some table c gap within in
      let has = line_at-has table a found.0 found.1 in
      let ends = line_at-has table c last.0 last.1 in
      let number : found.0 ≡ last.0 =
      sym (line_number-is m table a found.0 found.1) ∙ same_class-line m table a c same
      ∙ line_number-is m table c last.0 last.1 in
      let row : has.line ≡ ends.line = cc (has.there, ends.there) in
      let start = ap (λ l. l.start) row in
      let len = ap (λ l. l.len) row in
      let middle : line_at table b ≡ Some found.0 = line_at-is table b found.0 gap (record {
        line = has.line;
        there = has.there;
        after = omega (arith, has.after);
        before = omega (arith, ends.before);
      }) in
      let end : line_at table c ≡ Some found.0 = last.1 ∙ ap Some (sym number) in
      let block = (m.shape has.line.target).block in
      let whole : block (a - has.line.start) ≡ block (c - has.line.start) =
      sym (block_at-is m table a found.0 has.line found.1 has.there)
      ∙ same_class-block_at m table a c same
      ∙ block_at-is m table c found.0 has.line end has.there in
      let first = lawful.rises has.line.target (a - has.line.start) (b - has.line.start)
      (omega arith) in
      let second = lawful.rises has.line.target (b - has.line.start) (c - has.line.start)
      (omega arith) in
      search rules

-- pieces of which the first begins at a sector, and has another
record FirstHas (cut : List Piece) (first other : ℕ) : Type 0 where
  head : Piece
  more : List Piece
  is : cut ≡ head ∷ more
  begins : head.span.first ≡ first
  has : other < head.span.first + head.span.len

-- the first of the pieces has both sectors
FirstHas-gives-AreInOne : (cut : List Piece) (a b : ℕ) → a ≤ b → FirstHas cut a b
    → AreInOne cut a b
FirstHas-gives-AreInOne cut a b up first = record {
  place = 0;
  piece = first.head;
  there = ap (λ pieces. slice_get pieces 0) first.is;
  one = (omega (arith, first.begins), omega (arith, first.begins, first.has));
  other = (omega (arith, first.begins), first.has);
}

module _ {S : Type 0} (m : Meaning S) (table : Table S) where
  -- a sector that is put before pieces is in the first
  with_sector-has : (sector : ℕ) (cut : List Piece)
      → FirstHas (with_sector m table sector cut) sector sector
  with_sector-has sector cut = search rules

  -- a sector of the first piece's class joins it, and leaves it what it has
  joined-has : (sector other : ℕ) (cut : List Piece)
      → same_class m table sector (sector + 1) ≡ true → FirstHas cut (sector + 1) other
      → FirstHas (with_sector m table sector cut) sector other
  joined-has sector other cut same first = search rules

  -- what one of the pieces has it still has behind a sector, by whether that joins the first
  chosen-keeps-AreInOne : (same : Bool) (sector a b : ℕ) (piece : Piece) (cut : List Piece)
      → piece.span.first ≡ sector + 1 → AreInOne (piece ∷ cut) a b → AreInOne
      (cond same (grown piece sector ∷ cut) (piece_of_one table sector ∷ piece ∷ cut)) a b
  chosen-keeps-AreInOne false sector a b piece cut begins are = record {
    place = suc are.place;
    piece = are.piece;
    there = are.there;
    one = are.one;
    other = are.other;
  }
  chosen-keeps-AreInOne true sector a b piece cut begins are =
      by_place are.place are.piece are.there are.one are.other
    where
      by_place : (place : ℕ) (q : Piece) → slice_get (piece ∷ cut) place ≡ Some q
          → Holds q.span a → Holds q.span b → AreInOne (grown piece sector ∷ cut) a b
      by_place zero q there one other =
          let is : q ≡ piece = cc in
          let has = rw is at one in
          let too = rw is at other in record {
            place = 0;
            piece = grown piece sector;
            there = refl;
            one = (omega (arith, has.0), omega (arith, has.1));
            other = (omega (arith, too.0), omega (arith, too.1));
          }
      by_place (suc place) q there one other = record {
        place = suc place;
        piece = q;
        there = there;
        one = one;
        other = other;
      }

  -- what one of the pieces has it still has when a sector is put before them
  with_sector-keeps-AreInOne : (sector len a b : ℕ) (cut : List Piece)
      → Covers (sector + 1) len cut → AreInOne cut a b
      → AreInOne (with_sector m table sector cut) a b
  with_sector-keeps-AreInOne sector len a b cut cover are = search (rules, chosen-keeps-AreInOne)

module _ {S : Type 0} (m : Meaning S) (lawful : Lawful m) (table : Table S)
    (gap : HasNoGap 0 table) where
  -- the first piece of a run has each sector of its first one's class
  run-first-has : (first len other : ℕ) → first ≤ other → other < first + len
      → first + len ≤ size_of table → same_class m table first other ≡ true
      → FirstHas (sector_pieces m table first len) first other
  run-first-has first zero other from upto within same = absurd (omega arith)
  run-first-has first (suc more) other from upto within same = elim (cases_lt first other) [
    | inl later ↦
        let next = same_class-between m lawful table gap first (first + 1) other (omega arith)
        (omega arith) (omega arith) same in
        joined-has m table first other (sector_pieces m table (first + 1) more) next
        (run-first-has (first + 1) more other (omega arith) (omega arith) (omega arith)
        (same_class-third m table first (first + 1) other next same))
    | inr here ↦
        let is : first ≡ other = omega arith in
        rw (← is) (with_sector-has m table first (sector_pieces m table (first + 1) more))
  ]

  -- sectors of one class, the lower one first, are in one piece
  pub run-AreInOne : (first len a b : ℕ) → first ≤ a → a ≤ b → b < first + len
      → first + len ≤ size_of table → same_class m table a b ≡ true
      → AreInOne (sector_pieces m table first len) a b
  run-AreInOne first zero a b from up upto within same = absurd (omega arith)
  run-AreInOne first (suc more) a b from up upto within same = elim (cases_lt first a) [
    | inl later ↦ with_sector-keeps-AreInOne m table first more a b
        (sector_pieces m table (first + 1) more)
        (sector_pieces-are m table gap (first + 1) more (omega arith)).cover
        (run-AreInOne (first + 1) more a b (omega arith) up (omega arith) (omega arith) same)
    | inr here ↦
        let is : first ≡ a = omega arith in
        rw (← is) (FirstHas-gives-AreInOne (sector_pieces m table first (suc more)) first b
        (omega arith) (run-first-has first (suc more) b (omega arith) upto within
        (rw (← is) at same)))
  ]
