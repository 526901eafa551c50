-- One of so many, and then those that are left.
use Rattle.lab_model.proofs.Common.{◌≡◌, ◌∙◌, ℕ, suc, ◌+◌, ◌-◌, ◌<◌, [], List, ap, ap₂, arith, Disk}
use Rattle.lab_image.specs.Changes.{Changes, handed, marks_at, taken_over, unmarked, with_marks}
use Rattle.lab_image.specs.Rows.{DiskRow, sectors_on, with_disk_rows, with_disks}
use Rattle.lab_image.specs.Stores.{Store}

-- one less is left
pub one-left : (count at : ℕ) → at < count → count - at ≡ suc (count - (at + 1))
one-left count at less = omega (arith, less)

-- a sum in another grouping
add-assoc : (a b c : ℕ) → a + b + c ≡ a + (b + c)
add-assoc a b c = omega arith

module _ (changes : Changes) (number : ℕ) where
  -- one sector has no changed byte, and then the others have none
  pub unmarked-more : (first place count : ℕ) → place < count
      → unmarked changes number (first + place) (count - place)
      ≡ unmarked (with_marks changes (number, first + place) []) number (first + (place + 1))
      (count - (place + 1))
  unmarked-more first place count less =
      ap (unmarked changes number (first + place)) (one-left count place less)
      ∙ ap (λ at. unmarked (with_marks changes (number, first + place) []) number at
      (count - (place + 1))) (add-assoc first place 1)

  -- one is handed down, and then the others are
  pub handed-more : (above begin first place count : ℕ) → place < count
      → handed changes above (begin + place) number (first + place) (count - place)
      ≡ handed
      (with_marks changes (number, first + place) (marks_at changes (above, begin + place))) above
      (begin + (place + 1)) number (first + (place + 1)) (count - (place + 1))
  handed-more above begin first place count less =
      ap (handed changes above (begin + place) number (first + place)) (one-left count place less)
      ∙ ap₂ (λ from at. handed
      (with_marks changes (number, first + place) (marks_at changes (above, begin + place))) above
      from number at (count - (place + 1))) (add-assoc begin place 1) (add-assoc first place 1)

  -- one is taken, and then the others are
  pub taken-more : (from : Changes) (above begin first place count : ℕ) → place < count
      → taken_over from above (begin + place) changes number (first + place) (count - place)
      ≡ taken_over from above (begin + (place + 1))
      (with_marks changes (number, first + place) (marks_at from (above, begin + place))) number
      (first + (place + 1)) (count - (place + 1))
  taken-more from above begin first place count less =
      ap (taken_over from above (begin + place) changes number (first + place))
      (one-left count place less)
      ∙ ap₂ (λ p at. taken_over from above p
      (with_marks changes (number, first + place) (marks_at from (above, begin + place))) number at
      (count - (place + 1))) (add-assoc begin place 1) (add-assoc first place 1)

-- one disk is added, and then the others are
pub disks-more : (store : Store) (disks : List Disk) (rows : List DiskRow) (number count : ℕ)
    → number < count → with_disks store disks rows number (count - number)
    ≡ with_disks store disks (with_disk_rows store rows number (sectors_on disks number))
    (number + 1)
    (count - (number + 1))
disks-more store disks rows number count less =
    ap (with_disks store disks rows number) (one-left count number less)
