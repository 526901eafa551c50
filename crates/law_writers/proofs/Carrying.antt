-- What is known of the bytes at a place: a sector of a write, with its changed bytes, as it goes
-- from a log to a bio, from there to the bios of its pieces, and to a disk.
use Rattle.lab_model.proofs.Common.{◌≡◌, ◌≢◌, ◌∙◌, ◌+◌, ◌<◌, ◌≤◌, ℕ, List, [], None, Sectors, Some}
use Rattle.lab_model.proofs.Common.{ap, arith, nat_tests, refl, slice_get, sym}
use Rattle.lab_next.specs.declared.writer.Writer.{Writer}
use Rattle.lab_watch.specs.Grids.{writer_at, writer_from}
use Rattle.lab_image.specs.Changes.{marks_at}
use Rattle.lab_image.specs.Given.{Data, replaced}
use Rattle.lab_image.specs.Stores.{Store, erased, passed, stored}
use Rattle.law_writers.proofs.Changing.{handed-at, taken-at, unmarked-at}
use Rattle.law_writers.proofs.GridLemmas.{IsOutside, cleared-at, put-at, spread-at}
use Rattle.lab_image.specs.Stores as stores

-- these bytes are those of a sector of a write that stands at a place, with its changed bytes
pub record Carried (contents : Data) (store : Store) (number sector : ℕ) (bytes : List ℕ) : Type 0
  where
    pub writer : Writer
    pub found : writer_at store.writers number sector ≡ Some writer
    pub has : bytes ≡ replaced (marks_at store.changes (number, sector)) (contents writer)

-- all of some sectors are, at the places of a number
abbrev pub Carries : Data → Store → ℕ → Sectors → Type 0
Carries contents store number own = (i : ℕ) (bytes : List ℕ) → slice_get own i ≡ Some bytes
    → Carried contents store number i bytes

-- at a place stands what stood at another place before
pub record Stood (store : Store) (number sector : ℕ) (later : Store) (other place : ℕ) : Type 0
  where
    pub writers : writer_at later.writers other place ≡ writer_at store.writers number sector
    pub changes : marks_at later.changes (other, place) ≡ marks_at store.changes (number, sector)

-- then its bytes are those of that place
pub carried-on : {contents : Data} {store later : Store} {number sector other place : ℕ}
    {bytes : List ℕ} → Stood store number sector later other place
    → Carried contents store number sector bytes → Carried contents later other place bytes
carried-on {contents} stood c = record {
  writer = c.writer;
  found = stood.writers ∙ c.found;
  has = c.has ∙ ap (λ marks. replaced marks (contents c.writer)) (sym stood.changes);
}

module _ (store : Store) (number : ℕ) where
  -- where a write's sectors come to stand, each has its data
  pub filled-has : (contents : Data) (count : ℕ) (writer : Writer) (i : ℕ) → i < count
      → Carried contents (stores.with_write store number count writer) number i
      (contents (writer_from writer i))
  filled-has contents count writer i less =
      let none : marks_at (stores.with_write store number count writer).changes (number, i) ≡ [] =
      unmarked-at count store.changes number 0 number i ∙ grind (arith, nat_tests, less) in
      record {
        writer = writer_from writer i;
        found = spread-at count store.writers number 0 writer number i
            ∙ grind (arith, nat_tests, less);
        has = ap (λ marks. replaced marks (contents (writer_from writer i))) (sym none);
      }

  -- and other places have what they had
  pub filled-other : (count : ℕ) (writer : Writer) (other i : ℕ) → other ≢ number
      → Stood store other i (stores.with_write store number count writer) other i
  filled-other count writer other i apart = record {
    writers = spread-at count store.writers number 0 writer other i
        ∙ grind (arith, nat_tests, apart);
    changes = unmarked-at count store.changes number 0 other i ∙ grind (arith, nat_tests, apart);
  }

  -- where the sectors of another number are passed on, each has that one's
  pub passed-has : (above place count i : ℕ) → above ≢ number → i < count
      → Stood store above (place + i) (passed store above place number count) number i
  passed-has above place count i apart less = record {
    writers = put-at count store.writers store.writers number 0 above place number i
        ∙ grind (arith, nat_tests, less);
    changes = handed-at count store.changes above place number 0 number i apart
        ∙ grind (arith, nat_tests, less);
  }

  -- and other places have what they had
  pub passed-other : (above place count other i : ℕ) → above ≢ number → other ≢ number
      → Stood store other i (passed store above place number count) other i
  passed-other above place count other i up apart = record {
    writers = put-at count store.writers store.writers number 0 above place other i
        ∙ grind (arith, nat_tests, apart);
    changes = handed-at count store.changes above place number 0 other i up
        ∙ grind (arith, nat_tests, apart);
  }

  -- where sectors are erased, other places have what they had
  pub erased-other : (first count other sector : ℕ) → IsOutside number first count other sector
      → Stood store other sector (erased store number first count) other sector
  erased-other first count other sector out = record {
    writers = cleared-at count store.writers number first other sector
        ∙ grind (arith, nat_tests, out);
    changes = refl;
  }

  -- those have no writer
  pub erased-none : (first count sector : ℕ) → first ≤ sector → sector < first + count
      → writer_at (erased store number first count).writers number sector ≡ None
  erased-none first count sector low high =
      cleared-at count store.writers number first number sector
      ∙ grind (arith, nat_tests, low, high)

  module _ (from : Store) (above first count : ℕ) where
    -- what stands elsewhere is stored at the sectors from one on
    pub stored-has : (i : ℕ) → i < count
        → Stood from above i (stored from above store number first count) number (first + i)
    stored-has i less = record {
      writers = put-at count store.writers from.writers number first above 0 number (first + i)
          ∙ grind (arith, nat_tests, less);
      changes = taken-at count from.changes store.changes above 0 number first number (first + i)
          ∙ grind (arith, nat_tests, less);
    }

    -- and other places have what they had
    pub stored-other : (other sector : ℕ) → IsOutside number first count other sector
        → Stood store other sector (stored from above store number first count) other sector
    stored-other other sector out = record {
      writers = put-at count store.writers from.writers number first above 0 other sector
          ∙ grind (arith, nat_tests, out);
      changes = taken-at count from.changes store.changes above 0 number first other sector
          ∙ grind (arith, nat_tests, out);
    }
