-- Marks that are told to be the same are the same.
use Rattle.lab_model.proofs.Common.{rules, ◌≡◌, List, [], ◌∷◌, true}
use Rattle.std.specs.Cmp.Lexicographic.{pointwise}
use Rattle.lab_target.specs.declared.verdict.Mark.{Mark}
use Rattle.lab_target.specs.contracts.verdict.MarkPartialEq.TheImpl.{eq-value}
use Rattle.lab_bios.specs.declared.written.Changes.{Changes}
use Rattle.lab_bios.specs.Written.{changed_by}

-- two of the same place and value
same-mark : (a b : Mark) → eq-value.it a b ≡ true → a ≡ b
same-mark a b same = search rules

-- two lists of the same marks
pub same-marks : (xs ys : List Mark) → pointwise eq-value.it xs ys ≡ true → xs ≡ ys
same-marks [] [] same = search rules
same-marks (x ∷ xs) [] same = search rules
same-marks [] (y ∷ ys) same = search rules
same-marks (x ∷ xs) (y ∷ ys) same = search (rules, same-mark, same-marks xs ys)

-- and so are sectors of the same byte with them
pub same-changes : (changes other : Changes) → changes.byte ≡ other.byte
    → changes.count ≡ other.count → changes.marks.items ≡ other.marks.items
    → changed_by changes ≡ changed_by other
same-changes changes other byte count marks = rw (byte, count, marks)
