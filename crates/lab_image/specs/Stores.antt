-- Which sector of which write stands where, and which bytes of it were changed on the way (this
-- project's own).
use Rattle.std.specs.Prelude.{ℕ, ◌/◌, ◌%◌, [], Option, Some, None, refl}
use Rattle.std.specs.Coded.{Coded, code_by, coded×, coded_list, coded_ℕ}
use Rattle.lab_target.specs.declared.verdict.Mark.{Mark}
use Rattle.lab_target.specs.declared.verdict.Marks.{Marks}
use Rattle.lab_next.specs.declared.writer.Writer.{Writer}
use Rattle.lab_watch.specs.Grids.{Grid, cleared, empty, grid_code, spread, with_writers_from}
use Rattle.lab_watch.specs.Grids.{writers_in}
use Rattle.lab_image.specs.Changes.{Changes, handed, marks_at, taken_over, unmarked, with_mark}
use Rattle.lab_image.specs.Changes.{with_marks}

-- by the number of a disk or of a bio, and by a sector of it
pub record Store : Type 0 where
  -- which sector of which write stands there, if one does
  pub writers : Grid
  -- the bytes of it that were changed on the way
  pub changes : Changes

-- a changed byte is stored as the pair of its numbers
abbrev pub mark_code : Coded Mark
mark_code = code_by (ℕ × ℕ) (coded× coded_ℕ coded_ℕ) (λ mark. (mark.place, mark.value))
    (λ pair. record { place = pair.0; value = pair.1 }) (λ _. refl)

-- and all of it as a pair
abbrev pub store_code : Coded Store
store_code = code_by (Grid × Changes)
    (coded× grid_code (coded_list (coded× (coded× coded_ℕ coded_ℕ) (coded_list mark_code))))
    (λ store. (store.writers, store.changes))
    (λ pair. record { writers = pair.0; changes = pair.1 }) (λ _. refl)

-- no write stands anywhere
abbrev pub bare : Store
bare = record { writers = empty; changes = [] }

-- a write's sectors, from this one on, stand in so many sectors of a number, from its first on
abbrev pub with_write : Store → ℕ → ℕ → Writer → Store
with_write store number count writer = record {
  writers = spread store.writers number 0 count writer;
  changes = unmarked store.changes number 0 count;
}

-- no write stands in so many sectors of a number, from one on
abbrev pub erased : Store → ℕ → ℕ → ℕ → Store
erased store number first count =
    record store { writers = cleared store.writers number first count }

-- what stands in so many sectors of a number, from one on, stands in those of another, from its first
-- on
abbrev pub passed : Store → ℕ → ℕ → ℕ → ℕ → Store
passed store above place number count = record {
  writers = with_writers_from store.writers number 0 (writers_in store.writers above place count);
  changes = handed store.changes above place number 0 count;
}

-- what stands in the first so many sectors of a number elsewhere stands in those of another, from one
-- on
abbrev pub stored : Store → ℕ → Store → ℕ → ℕ → ℕ → Store
stored from above store number first count = record {
  writers = with_writers_from store.writers number first (writers_in from.writers above 0 count);
  changes = taken_over from.changes above 0 store.changes number first count;
}

-- a byte of a number is changed, if one is; it is counted from the first byte of its first sector
abbrev pub with_changed_byte : ℕ → Option Mark → Store → Store
with_changed_byte number None store = store
with_changed_byte number (Some mark) store = record store {
  changes = with_marks store.changes (number, mark.place / 512)
      (with_mark (marks_at store.changes (number, mark.place / 512))
      (record { place = mark.place % 512; value = mark.value }));
}

-- both bytes are, the fixed one first
abbrev pub both_marked : ℕ → Marks → Store → Store
both_marked number marks store = with_changed_byte number marks.random
    (with_changed_byte number marks.fixed store)
