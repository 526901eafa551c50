-- What rows give a sector of a disk, one row after another.
use Rattle.lab_model.proofs.Common.{rules, ◌≡◌, ◌∙◌, ℕ, ◌+◌, ◌-◌, ◌≤◌, ◌==◌, ◌||◌, Bool}
use Rattle.lab_model.proofs.Common.{true, false, List, [], ◌∷◌, ap, ap₂, arith, length, nat_tests, refl, sym}
use Rattle.lab_model.proofs.Common.{cases_Bool, cond, inl, inr}
use Rattle.lab_target.specs.declared.verdict.Mark.{Mark}
use Rattle.lab_next.specs.declared.writer.Writer.{Writer}
use Rattle.lab_watch.specs.Grids.{writer_from}
use Rattle.lab_image.specs.Given.{Data, covers, given_by, given_else, replaced}
use Rattle.lab_image.specs.Rows.{DiskRow, added, goes_on, is_behind, joined_rows}

-- a list of no item is empty
none-left : (marks : List Mark) → (length marks == 0) ≡ true → marks ≡ []
none-left [] is = refl
none-left (mark ∷ marks) is = search rules

-- the same sector of a write, counted from two of its sectors
same-sector : (writer first : Writer) (count begin at : ℕ) → is_behind writer first count ≡ true
    → begin + count ≤ at → writer_from first (at - begin) ≡ writer_from writer (at - (begin + count))
same-sector writer first count begin at is low = grind (arith, nat_tests)

-- two rows of which one goes on with the other have no changed byte
both-plain : (last row : DiskRow) → goes_on last row ≡ true
    → (last.changed ≡ []) × (row.changed ≡ [])
both-plain last row is = search (rules, none-left)

-- the second begins where the first ends, on the disk and in the write
begins-behind : (last row : DiskRow) → goes_on last row ≡ true
    → (last.first + last.count ≡ row.first) × (is_behind row.writer last.writer last.count ≡ true)
begins-behind last row is = search rules

-- a choice by one of two tests is one by the first, and then by the second
either-test : (one other both : Bool) → both ≡ one || other → (x y z : List ℕ)
    → (other ≡ true → x ≡ y) → cond both x z ≡ cond one x (cond other y z)
either-test true other both same x y z is = rw same refl
either-test false true both same x y z is = rw same (is refl)
either-test false false both same x y z is = rw same refl

module _ (contents : Data) (disk sector : ℕ) where
  -- the first of some rows gives a sector that it has, and else the others do
  first-gives : (row : DiskRow) (rows : List DiskRow) (others : List ℕ)
      → given_else contents (row ∷ rows) disk sector others
      ≡ cond (covers disk sector row) (given_by contents sector row)
      (given_else contents rows disk sector others)
  first-gives row rows others = search rules

  -- two rows as one give a sector what the second gives it
  joined-gives : (last row : DiskRow) → goes_on last row ≡ true → covers disk sector row ≡ true
      → given_by contents sector (joined_rows last row) ≡ given_by contents sector row
  joined-gives last row is has =
      let plain = both-plain last row is in
      let behind = begins-behind last row is in
      ap₂ (λ marks writer. replaced marks (contents writer)) (plain.0 ∙ sym plain.1)
      (same-sector row.writer last.writer last.count last.first sector behind.1
      (grind (arith, nat_tests))
      ∙ ap (λ n. writer_from row.writer (sector - n)) behind.0)

  -- they have the sectors of both
  joined-covers : (last row : DiskRow) → goes_on last row ≡ true
      → covers disk sector (joined_rows last row) ≡ covers disk sector last
      || covers disk sector row
  joined-covers last row is = grind (arith, nat_tests)

  -- so a row that is added to another gives what both gave
  joined-both : (last row : DiskRow) (others : List ℕ) → goes_on last row ≡ true
      → given_else contents (joined_rows last row ∷ []) disk sector others
      ≡ given_else contents (last ∷ []) disk sector
      (cond (covers disk sector row) (given_by contents sector row) others)
  joined-both last row others is =
      first-gives (joined_rows last row) [] others
      ∙ either-test (covers disk sector last) (covers disk sector row) _ (joined-covers last row is)
      (given_by contents sector (joined_rows last row)) (given_by contents sector row) others
      (joined-gives last row is)
      ∙ sym (first-gives last []
      (cond (covers disk sector row) (given_by contents sector row) others))

  -- rows with one more behind them give what they gave; where they have no row, what the one gives
  pub added-gives : (rows : List DiskRow) (row : DiskRow) (others : List ℕ)
      → given_else contents (added rows row) disk sector others ≡ given_else contents rows disk sector
      (cond (covers disk sector row) (given_by contents sector row) others)
  added-gives [] row others = search rules
  added-gives (last ∷ []) row others = elim (cases_Bool (goes_on last row)) [
    | inl is ↦ rw is (joined-both last row others is)
    | inr not ↦ rw not (search rules)
  ]
  added-gives (one ∷ next ∷ rows) row others = search (rules, added-gives (next ∷ rows) row others)
