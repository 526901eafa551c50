-- The classes of a run of sectors, one after another. Names: sector_pieces or same_class, and the
-- form of the run. One cut of a run of sectors by its line and the line's target gives its first
-- class.
use Rattle.lab_model.proofs.Common.{rules, ◌≡◌, ℕ, zero, suc, ◌+◌, ◌-◌, ◌<◌, true, false, List, ◌∷◌}
use Rattle.lab_model.proofs.Common.{refl, ap, arith, Some, slice_get, unwrap_or, add-zero, Meaning}
use Rattle.lab_model.proofs.Common.{block_at, line_number, piece_of_one, same_class, sector_pieces}
use Rattle.lab_model.proofs.Common.{with_sector, Table, line_at, ◌≤◌, get_or, sym, ◌∙◌}
use Rattle.lab_model.proofs.Common.{get_or_from_slice_get}
use Rattle.lab_model.specs.declared.piece.Piece.{Piece}
use Rattle.lab_model.specs.declared.table_line.TableLine.{TableLine}
use Rattle.lab_table.proofs.Lines.{line_at-has, line_at-is, line_at-next}
use Rattle.lab_split.specs.Cuts.{IsCut, IsInOrPast}

-- a piece of these sectors of a line
abbrev pub piece : ℕ → ℕ → ℕ → Piece
piece line first len = record { line = line; span = record { first = first; len = len } }

module _ {S : Type 0} (m : Meaning S) (table : Table S) where
  -- sectors of one class are of one line
  pub same_class-line : (a b : ℕ) → same_class m table a b ≡ true
      → line_number table a ≡ line_number table b
  same_class-line a b same = search rules

  -- sectors of one class are of one block
  pub same_class-block_at : (a b : ℕ) → same_class m table a b ≡ true
      → block_at m table a ≡ block_at m table b
  same_class-block_at a b same = search rules

  -- pieces whose first begins at a sector
  record BeginsAt (sector : ℕ) (cut : List Piece) : Type 0 where
    first : Piece
    others : List Piece
    is : cut ≡ first ∷ others
    there : first.span.first ≡ sector

  -- a sector that is of no class with the next is a piece of its own
  one-apart : (sector : ℕ) (cut : List Piece) → BeginsAt (sector + 1) cut
      → same_class m table sector (sector + 1) ≡ false
      → with_sector m table sector cut ≡ piece_of_one table sector ∷ cut
  one-apart sector cut begins apart = search rules

  -- the pieces of a run whose sectors are of one class, each with the next
  pub sector_pieces-run : (first count more all : ℕ) → all ≡ count + more
      → ((i : ℕ) → i < count → same_class m table (first + i) (first + i + 1) ≡ true)
      → (0 < more → same_class m table (first + count) (first + count + 1) ≡ false)
      → sector_pieces m table first (suc all)
      ≡ piece (line_number table first) first (count + 1)
      ∷ sector_pieces m table (first + count + 1) more
  sector_pieces-run first zero zero zero sum together apart = refl
  sector_pieces-run first zero (suc more) (suc all) sum together apart =
      let rest : all ≡ more = omega arith in
      rw (rest, add-zero) (one-apart first (sector_pieces m table (first + 1) (suc more))
      (search rules)
      (rw add-zero at (apart (omega arith))))
  sector_pieces-run first (suc count) more (suc all) sum together apart =
      let end : first + 1 + count ≡ first + suc count = omega arith in
      let joins : same_class m table first (first + 1) ≡ true =
      rw add-zero at (together 0 (omega arith)) in
      let later = sector_pieces-run (first + 1) count more all (omega arith)
      (λ i below. let same : first + 1 + i ≡ first + (i + 1) = omega arith in
      rw same (together (i + 1) (omega arith))) (λ some. rw end (apart some)) in
      let len : count + 1 + 1 ≡ suc count + 1 = omega arith in
      rw (later, joins, ← same_class-line first (first + 1) joins, len, end)
  sector_pieces-run first _ _ _ sum together apart = absurd (omega arith)

module _ {S : Type 0} (m : Meaning S) (table : Table S) where
  -- the block of a place in a line
  abbrev pub block_of : TableLine S → ℕ → ℕ
  block_of line place = (m.shape line.target).block place

  -- the number of the line that is found
  pub line_number-is : (sector number : ℕ) → line_at table sector ≡ Some number
      → line_number table sector ≡ number
  line_number-is sector number found = ap (λ o. unwrap_or o 0) found

  -- the block is that in the line that is found
  pub block_at-is : (sector number : ℕ) (line : TableLine S) → line_at table sector ≡ Some number
      → slice_get table number ≡ Some line
      → block_at m table sector ≡ block_of line (sector - line.start)
  block_at-is sector number line found there = search rules

  -- sectors of one line and one block are of one class
  pub same_class-block : (a b number : ℕ) (line : TableLine S) → line_at table a ≡ Some number
      → line_at table b ≡ Some number → slice_get table number ≡ Some line
      → block_of line (a - line.start) ≡ block_of line (b - line.start)
      → same_class m table a b ≡ true
  same_class-block a b number line one other there same = search rules

module _ {S : Type 0} (m : Meaning S) (table : Table S) (number first len count : ℕ)
    (cut : IsCut m table number first len count) where
  -- a sector of the line from the first on is found in it
  in-line : (sector : ℕ) → first ≤ sector → sector < cut.line.start + cut.line.len
      → line_at table sector ≡ Some number
  in-line sector from before =
      let after = cut.after in
      line_at-is table sector number cut.no_gap
      (record { line = cut.line; there = cut.there; after = omega arith; before = before })

  -- the block of a sector that is taken
  taken-block : (i : ℕ) → i < count
      → block_of m table cut.line (first + i - cut.line.start)
      ≡ block_of m table cut.line (first - cut.line.start)
  taken-block i below =
      let place : first + i - cut.line.start ≡ first - cut.line.start + i =
      omega (arith, cut.after) in
      rw place (cut.cuts.together i below)

  -- sectors that are taken are of one class, each with the next
  taken-together : (i : ℕ) → i + 1 < count
      → same_class m table (first + i) (first + i + 1) ≡ true
  taken-together i below =
      let within = cut.cuts.within in
      let next : first + i + 1 ≡ first + (i + 1) = omega arith in
      same_class-block m table (first + i) (first + i + 1) number cut.line
      (in-line (first + i) (omega arith) (omega (arith, cut.after)))
      (in-line (first + i + 1) (omega arith) (omega (arith, cut.after))) cut.there
      (taken-block i (omega arith) ∙ sym (rw next (taken-block (i + 1) below)))

  -- the last sector that is taken and the next are of two classes
  taken-apart : (last : ℕ) → count ≡ last + 1 → count < len
      → same_class m table (first + last) (first + last + 1) ≡ false
  taken-apart last is more =
      search (rules, in-line, taken-block, line_at-next)

  -- the sector after those that are taken is in the line or at its end
  pub cut-past : IsInOrPast table number (first + count)
  cut-past = let within = cut.cuts.within in record {
    line = cut.line;
    there = cut.there;
    after = omega (arith, cut.after);
    upto = omega (arith, cut.after, cut.before);
  }

  -- the sectors that are taken are the first piece
  pub sector_pieces-cut : sector_pieces m table first len
      ≡ piece number first count ∷ sector_pieces m table (first + count) (len - count)
  sector_pieces-cut =
      let within = cut.cuts.within in
      let some = cut.cuts.some in
      let all : len ≡ suc (len - 1) = omega arith in
      let end : first + (count - 1) + 1 ≡ first + count = omega arith in
      let taken : count - 1 + 1 ≡ count = omega arith in
      let run = sector_pieces-run m table first (count - 1) (len - count) (len - 1) (omega arith)
      (λ i below. taken-together i (omega arith))
      (λ more. taken-apart (count - 1) (omega arith) (omega arith)) in
      let here = line_number-is m table first number (in-line first (omega arith) cut.before) in
      ap (sector_pieces m table first) all ∙ rw (taken, end, here) at run

-- a line that was read at the number that is found has the sector
pub record IsRow {S : Type 0} (table : Table S) (sector number : ℕ) (row : TableLine S)
    : Type 0 where
  pub there : slice_get table number ≡ Some row
  pub after : row.start ≤ sector
  pub before : sector < row.start + row.len

-- what is read at a line's number is the line
pub row-same : {S : Type 0} {table lines : Table S} {row line : TableLine S} (number : ℕ)
    → slice_get table number ≡ Some line → lines ≡ table → row ≡ get_or lines number row
    → row ≡ line
row-same number there same is = search (rules, get_or_from_slice_get)

-- what is read at the number that is found is the line that has the sector
pub row-is : {S : Type 0} {table lines : Table S} {row : TableLine S} (sector number : ℕ)
    → line_at table sector ≡ Some number → lines ≡ table → row ≡ get_or lines number row
    → IsRow table sector number row
row-is {table = table} sector number found same is =
    let has = line_at-has table sector number found in
    let row = row-same number has.there same is in
    rw row (record { there = has.there; after = has.after; before = has.before })
