-- The lines of a table by their numbers. Names: the fact that a line keeps to. The line that has a
-- sector. Names: line_at, and what is known of the sector.
use Rattle.lab_model.proofs.Common.{rules, ◌≡◌, ℕ, zero, suc, ◌+◌, ◌-◌, ◌<◌, ◌≤◌, true, false, leb}
use Rattle.lab_model.proofs.Common.{[], ◌∷◌, length, get_or, ◌∙◌, arith, Some, inl, inr, lt-ltb}
use Rattle.lab_model.proofs.Common.{leb-true, leb-false, cases_lt, IsPartitionPoint, Table}
use Rattle.lab_model.proofs.Common.{HasNoGap, line_at, size_of, refl, ap, slice_get, nat_tests}
use Rattle.lab_model.proofs.Common.{position-Some, get_or_from_slice_get, slice_get-get_or}
use Rattle.lab_model.proofs.Common.{slice_get_within, has_sector}
use Rattle.lab_model.specs.declared.table_line.TableLine.{TableLine}
use Rattle.std.specs.List.Sorted.{IsNonDecreasingBy}
use Rattle.std.proofs.lemmas.List.Sorted.{IsNonDecreasingBy-from_all_adjacent}
use Rattle.std.proofs.lemmas.List.Sums.{position_or_len_is}
use Rattle.std.proofs.Math.Numerals.{add-one}

module _ {S : Type 0} (d : TableLine S) where
  -- where a line begins
  abbrev pub start_at : Table S → ℕ → ℕ
  start_at lines k = (get_or lines k d).start

  -- where a line ends
  abbrev pub end_at : Table S → ℕ → ℕ
  end_at lines k = (get_or lines k d).start + (get_or lines k d).len

  -- a line ends where the next one begins
  next_suc : (s : ℕ) (lines : Table S) (k : ℕ) → HasNoGap s lines → suc k < length lines
      → end_at lines k ≡ start_at lines (suc k)
  next_suc s [] k gap within = search rules
  next_suc s (line ∷ []) k gap within = search rules
  next_suc s (line ∷ next ∷ more) zero gap within = search rules
  next_suc s (line ∷ next ∷ more) (suc k) gap within =
      search (rules, next_suc (s + line.len) (next ∷ more) k gap.2 (omega arith))

  -- a line ends where the next one begins
  pub end-next : (s : ℕ) (lines : Table S) (k : ℕ) → HasNoGap s lines → k + 1 < length lines
      → end_at lines k ≡ start_at lines (k + 1)
  end-next s lines k gap within = rw add-one (next_suc s lines k gap (omega arith))

  -- the last line ends at the table's end
  pub end-last : (s : ℕ) (lines : Table S) (k : ℕ) → HasNoGap s lines → suc k ≡ length lines
      → end_at lines k ≡ s + size_of lines
  end-last s [] k gap last = absurd (omega arith)
  end-last s (line ∷ []) zero gap last = omega (arith, gap.0)
  end-last s (line ∷ []) (suc k) gap last = absurd (omega arith)
  end-last s (line ∷ next ∷ more) zero gap last = absurd (omega arith)
  end-last s (line ∷ next ∷ more) (suc k) gap last =
      end-last (s + line.len) (next ∷ more) k gap.2 (omega arith) ∙ omega arith

  -- a line has a sector
  pub len-some : (s : ℕ) (lines : Table S) (k : ℕ) → HasNoGap s lines → k < length lines
      → 0 < (get_or lines k d).len
  len-some s [] k gap within = absurd (omega arith)
  len-some s (line ∷ lines) zero gap within = gap.1
  len-some s (line ∷ lines) (suc k) gap within = len-some (s + line.len) lines k gap.2 (omega arith)

-- where the next line begins past a sector, or no line is left, the line ends past it
end-past : {S : Type 0} (lines : Table S) (sector k : ℕ) (d : TableLine S) → HasNoGap 0 lines
    → sector < size_of lines → k < length lines
    → (k + 1 < length lines → sector < (get_or lines (k + 1) d).start)
    → sector < (get_or lines k d).start + (get_or lines k d).len
end-past lines sector k d gap within there next = search (rules, cases_lt, end-next, end-last)

-- of the lines that begin at or before a sector the last has the sector, if it ends past it
pub line_at-last : {S : Type 0} (lines : Table S) (sector last : ℕ) (d : TableLine S)
    → HasNoGap 0 lines → last < length lines
    → ((k : ℕ) → k ≤ last → (get_or lines k d).start ≤ sector)
    → sector < (get_or lines last d).start + (get_or lines last d).len
    → line_at lines sector ≡ Some last
line_at-last lines sector last d gap there before inside =
    search (rules, position_or_len_is, end-next, lt-ltb)

-- lines begin at rising sectors
pub starts-rise : {S : Type 0} (s : ℕ) (lines : Table S) → HasNoGap s lines
    → IsNonDecreasingBy (λ (line : TableLine S). line.start) lines
starts-rise s lines gap = IsNonDecreasingBy-from_all_adjacent (λ line. line.start) lines
    (λ k d within. omega (arith, end-next d s lines k gap within))

-- the point up to which lines begin at or before a sector is past the line that has it
pub line_at-point : {S : Type 0} (lines : Table S) (sector count : ℕ) → HasNoGap 0 lines
    → sector < size_of lines → count ≤ length lines
    → IsPartitionPoint (λ (line : TableLine S). leb line.start sector ≡ true)
    (λ line. leb line.start sector ≡ false) lines count
    → (0 < count) × (line_at lines sector ≡ Some (count - 1))
line_at-point [] sector count gap within few point = absurd (omega arith)
line_at-point (line ∷ more) sector count gap within few point =
    let lines = line ∷ more in
    let first : 0 < count = elim (cases_lt 0 count) [
      | inl some ↦ some
      | inr none ↦ let late = leb-false line.start sector (point.1 0 line none (omega arith)) in
          absurd (omega (arith, gap.0))
    ] in (
      first,
      line_at-last lines sector (count - 1) line gap (omega arith)
          (λ k before. leb-true (get_or lines k line).start sector
          (point.0 k line (omega arith) (omega arith)))
          (end-past lines sector (count - 1) line gap within (omega arith)
          (λ more. leb-false (get_or lines (count - 1 + 1) line).start sector
          (point.1 (count - 1 + 1) line (omega arith) more))),
    )

-- the line of this number is there and has the sector
pub record HasSector {S : Type 0} (lines : Table S) (number sector : ℕ) : Type 0 where
  pub line : TableLine S
  pub there : slice_get lines number ≡ Some line
  pub after : line.start ≤ sector
  pub before : sector < line.start + line.len

-- the test of a line says that the sector is between its first and its end
passes-inside : {S : Type 0} (line : TableLine S) (sector : ℕ) → has_sector sector line ≡ true
    → (line.start ≤ sector) × (sector < line.start + line.len)
passes-inside line sector passes = (grind (arith, nat_tests), grind (arith, nat_tests))

-- the line that is found has the sector
pub line_at-has : {S : Type 0} (lines : Table S) (sector number : ℕ)
    → line_at lines sector ≡ Some number → HasSector lines number sector
line_at-has [] sector number found = absurd (cc)
line_at-has (first ∷ more) sector number found =
    let lines = first ∷ more in
    let is = position-Some (has_sector sector) lines number first found in
    let inside = passes-inside (get_or lines number first) sector is.1 in
    record {
      line = get_or lines number first;
      there = slice_get-get_or lines number first is.0;
      after = inside.0;
      before = inside.1;
    }

-- a line that has the sector is found
pub line_at-is : {S : Type 0} (lines : Table S) (sector number : ℕ) → HasNoGap 0 lines
    → HasSector lines number sector → line_at lines sector ≡ Some number
line_at-is lines sector number gap has =
    let within = slice_get_within lines number has.line has.there in
    let is = get_or_from_slice_get lines number has.line has.line has.there in
    let start = ap (λ l. l.start) is in
    let len = ap (λ l. l.len) is in
    line_at-last lines sector number has.line gap within
    (λ k upto. omega (arith, starts-rise 0 lines gap k number has.line upto within, has.after))
    (omega (arith, has.before))

-- each sector of the table is some line's
pub some-line : {S : Type 0} (s : ℕ) (lines : Table S) (sector : ℕ) → HasNoGap s lines
    → s ≤ sector → sector < s + size_of lines → (number : ℕ) × HasSector lines number sector
some-line s [] sector gap from within = absurd (omega arith)
some-line s (line ∷ lines) sector gap from within = elim (cases_lt sector (s + line.len)) [
  | inl inside ↦
      let starts = gap.0 in
      (0, record { line = line; there = refl; after = omega arith; before = omega arith })
  | inr past ↦
      let later = some-line (s + line.len) lines sector gap.2 past (omega arith) in
      let has = later.1 in (
        suc later.0,
        record { line = has.line; there = has.there; after = has.after; before = has.before },
      )
]

-- each sector of the table is found in a line
pub line_at-some : {S : Type 0} (lines : Table S) (sector : ℕ) → HasNoGap 0 lines
    → sector < size_of lines → (number : ℕ) × (line_at lines sector ≡ Some number)
line_at-some lines sector gap within = let some = some-line 0 lines sector gap (omega arith)
    (omega arith) in (some.0, line_at-is lines sector some.0 gap some.1)

-- the sector at a line's end is the next line's
pub line_at-next : {S : Type 0} (lines : Table S) (sector number : ℕ) (line : TableLine S)
    → HasNoGap 0 lines → slice_get lines number ≡ Some line → sector ≡ line.start + line.len
    → sector < size_of lines → line_at lines sector ≡ Some (number + 1)
line_at-next lines sector number line gap there at within =
    let inside = slice_get_within lines number line there in
    let is = get_or_from_slice_get lines number line line there in
    let start = ap (λ l. l.start) is in
    let len = ap (λ l. l.len) is in
    let later : number + 1 < length lines = elim (cases_lt (number + 1) (length lines)) [
      | inl more ↦ more
      | inr last ↦ absurd (omega (arith, end-last line 0 lines number gap (omega arith)))
    ] in
    let next = end-next line 0 lines number gap later in
    let some = len-some line 0 lines (number + 1) gap later in
    line_at-is lines sector (number + 1) gap (record {
      line = get_or lines (number + 1) line;
      there = slice_get-get_or lines (number + 1) line later;
      after = omega arith;
      before = omega arith;
    })
