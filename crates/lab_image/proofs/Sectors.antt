-- The sectors of a disk, one run after another.
use Rattle.lab_model.proofs.Common.{rules, ◌≡◌, ◌∙◌, ℕ, suc, zero, ◌+◌, ◌-◌, ◌<◌, List, [], ◌∷◌, ◌++◌, Option, Some, None}
use Rattle.lab_model.proofs.Common.{add-zero, ap, arith, length, refl, sym}
use Rattle.lab_next.specs.declared.writer.Writer.{Writer}
use Rattle.lab_watch.specs.Grids.{next, side_by_side, writer_from}
use Rattle.lab_image.specs.Changes.{Changes}
use Rattle.lab_image.specs.Rows.{DiskRow, added, sector_row, with_sector_rows}

module _ (changes : Changes) (disk : ℕ) where
  -- some sectors, and then those behind them
  pub sectors-behind : (rows : List DiskRow) (sector : ℕ) (some more : List (Option Writer))
      → with_sector_rows changes disk rows sector (some ++ more)
      ≡ with_sector_rows changes disk (with_sector_rows changes disk rows sector some)
      (sector + length some) more
  sectors-behind rows sector [] more =
      ap (λ n. with_sector_rows changes disk rows n more) (sym (add-zero sector))
  sectors-behind rows sector (None ∷ some) more =
      sectors-behind rows (sector + 1) some more
      ∙ ap (λ n. with_sector_rows changes disk
      (with_sector_rows changes disk rows (sector + 1) some) n more)
      (one-behind sector (length some))
    where
      one-behind : (a b : ℕ) → a + 1 + b ≡ a + suc b
      one-behind a b = omega arith
  sectors-behind rows sector (Some writer ∷ some) more =
      sectors-behind (added rows (sector_row changes disk sector writer)) (sector + 1) some more
      ∙ ap (λ n. with_sector_rows changes disk (with_sector_rows changes disk
      (added rows (sector_row changes disk sector writer)) (sector + 1) some) n more)
      (one-behind sector (length some))
    where
      one-behind : (a b : ℕ) → a + 1 + b ≡ a + suc b
      one-behind a b = omega arith

  -- one of an operation's sectors, and then those behind it
  pub one-written : (rows : List DiskRow) (sector place count : ℕ) (writer : Writer) → place < count
      → with_sector_rows changes disk rows (sector + place)
      (side_by_side (count - place) (Some (writer_from writer place)))
      ≡ with_sector_rows changes disk
      (added rows (sector_row changes disk (sector + place) (writer_from writer place)))
      (sector + (place + 1))
      (side_by_side (count - (place + 1)) (Some (writer_from writer (place + 1))))
  one-written rows sector place count writer less =
      ap (λ n. with_sector_rows changes disk rows (sector + place)
      (side_by_side n (Some (writer_from writer place)))) (one-left count place less)
      ∙ ap (λ n. with_sector_rows changes disk
      (added rows (sector_row changes disk (sector + place) (writer_from writer place))) n
      (side_by_side (count - (place + 1)) (Some (next (writer_from writer place)))))
      (add-assoc sector place 1)
      ∙ ap (λ n. with_sector_rows changes disk
      (added rows (sector_row changes disk (sector + place) (writer_from writer place)))
      (sector + (place + 1)) (side_by_side (count - (place + 1))
      (Some (record { origin = writer.origin; sector = n })))) (add-assoc writer.sector place 1)
    where
      one-left : (n m : ℕ) → m < n → n - m ≡ suc (n - (m + 1))
      one-left n m less = omega (arith, less)

      add-assoc : (a b c : ℕ) → a + b + c ≡ a + (b + c)
      add-assoc a b c = omega arith

  -- sectors of nobody add nothing
  pub nobodys : (rows : List DiskRow) (sector count : ℕ)
      → with_sector_rows changes disk rows sector (side_by_side count None) ≡ rows
  nobodys rows sector zero = refl
  nobodys rows sector (suc count) = nobodys rows (sector + 1) count

-- a run has as many sectors as it counts
pub length-side_by_side : (count : ℕ) (writer : Option Writer)
    → length (side_by_side count writer) ≡ count
length-side_by_side zero writer = refl
length-side_by_side (suc count) None = search (rules, length-side_by_side count None)
length-side_by_side (suc count) (Some writer) =
    search (rules, length-side_by_side count (Some (next writer)))
