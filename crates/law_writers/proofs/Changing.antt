-- Which bytes of which sectors were changed, place by place, after those of some sectors are set.
use Rattle.lab_model.proofs.Common.{◌≡◌, ◌≢◌, ◌∙◌, ◌+◌, ◌-◌, ◌&&◌, ℕ, suc, zero, List, [], ◌∷◌}
use Rattle.lab_model.proofs.Common.{arith, cases_Bool, cond, inl, inr, nat_eq, nat_tests, refl}
use Rattle.lab_target.specs.declared.verdict.Mark.{Mark}
use Rattle.lab_watch.specs.Stretches.{sector_is_within}
use Rattle.lab_image.specs.Changes.{Changes, handed, marks_at, same_place, taken_over, unmarked}
use Rattle.lab_image.specs.Changes.{with_marks}

-- a place that is set has its own, and another what it had
pub marks-with : (changes : Changes) (place : ℕ × ℕ) (marks : List Mark) (other : ℕ × ℕ)
    → marks_at (with_marks changes place marks) other
    ≡ cond (nat_eq other.0 place.0 && nat_eq other.1 place.1) marks (marks_at changes other)
marks-with [] place [] other = elim (cases_Bool (same_place other place)) [
  | inl is ↦ rw is refl
  | inr not ↦ rw not refl
]
marks-with [] place (mark ∷ marks) other = refl
marks-with (entry ∷ entries) place marks other =
    grind (arith, nat_tests, marks-with entries place marks other)

-- a sector among those that are set to none has none, and another what it had
pub unmarked-at : (count : ℕ) (changes : Changes) (number first other sector : ℕ)
    → marks_at (unmarked changes number first count) (other, sector)
    ≡ cond (nat_eq number other && sector_is_within first count sector) []
    (marks_at changes (other, sector))
unmarked-at zero changes number first other sector = grind (arith, nat_tests)
unmarked-at (suc more) changes number first other sector =
    unmarked-at more (with_marks changes (number, first) []) number (first + 1) other sector
    ∙ grind (arith, nat_tests, marks-with changes (number, first) [] (other, sector))

-- a sector to which those of another number are handed has that one's, and another what it had
pub handed-at : (count : ℕ) (changes : Changes) (above place number first other sector : ℕ)
    → above ≢ number
    → marks_at (handed changes above place number first count) (other, sector)
    ≡ cond (nat_eq number other && sector_is_within first count sector)
    (marks_at changes (above, place + (sector - first))) (marks_at changes (other, sector))
handed-at zero changes above place number first other sector apart = grind (arith, nat_tests)
handed-at (suc more) changes above place number first other sector apart =
    let marks = marks_at changes (above, place) in
    handed-at more (with_marks changes (number, first) marks) above (place + 1) number (first + 1)
    other sector apart
    ∙ grind (
      arith,
      nat_tests,
      apart,
      marks-with changes (number, first) marks (other, sector),
      marks-with changes (number, first) marks (above, place + 1 + (sector - (first + 1))),
    )

-- so it is where they are taken from elsewhere
pub taken-at : (count : ℕ) (from changes : Changes) (above place number first other sector : ℕ)
    → marks_at (taken_over from above place changes number first count) (other, sector)
    ≡ cond (nat_eq number other && sector_is_within first count sector)
    (marks_at from (above, place + (sector - first))) (marks_at changes (other, sector))
taken-at zero from changes above place number first other sector = grind (arith, nat_tests)
taken-at (suc more) from changes above place number first other sector =
    let marks = marks_at from (above, place) in
    taken-at more from (with_marks changes (number, first) marks) above (place + 1) number
    (first + 1) other sector
    ∙ grind (arith, nat_tests, marks-with changes (number, first) marks (other, sector))
