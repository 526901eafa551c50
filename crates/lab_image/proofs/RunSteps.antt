-- The changed bytes of one run, and then those of the runs that are left.
use Rattle.lab_model.proofs.Common.{◌≡◌, ◌∙◌, ℕ, suc, zero, ◌+◌, ◌==◌, false, List, ◌++◌, Option, None, Some}
use Rattle.lab_model.proofs.Common.{ap, if◌then◌else◌, is_some, length, refl, subst, sym}
use Rattle.lab_next.specs.declared.writer.Writer.{Writer}
use Rattle.lab_watch.specs.Grids.{next, side_by_side}
use Rattle.lab_image.specs.Changes.{Changes, handed, has_place, taken_over, unmarked}
use Rattle.lab_image.specs.Places.{ShowsKept}
use Rattle.lab_image.proofs.Sectors.{length-side_by_side}
use Rattle.lab_image.proofs.Runs.{and_more, handed-behind, handed-none, kept-handed, kept-unmarked}
use Rattle.lab_image.proofs.Runs.{shows-behind, shows-same, taken-behind, taken-none, unmarked-behind, unmarked-none}

-- there are as many as a run has and are left
run-length : (count : ℕ) (writer : Option Writer) (row : List (Option Writer))
    → and_more count (length row) ≡ length (side_by_side count writer ++ row)
run-length zero writer row = refl
run-length (suc count) None row = ap suc (run-length count None row)
run-length (suc count) (Some writer) row = ap suc (run-length count (Some (next writer)) row)

-- what shows of all shows of those that are left
run-shows : (count : ℕ) (writer : Option Writer) (row : List (Option Writer)) (changes : Changes)
    (number first : ℕ) → ShowsKept changes number first (side_by_side count writer ++ row)
    → ShowsKept changes number (first + count) row
run-shows count writer row changes number first shows =
    subst (λ n. ShowsKept changes number (first + n) row) (length-side_by_side count writer)
    (shows-behind changes number first (side_by_side count writer) row shows)

-- those of a run have no changed byte, and then those of the runs that are left
pub unmark-step : (count : ℕ) (writer : Option Writer) (row : List (Option Writer))
    (changes next : Changes) (number first : ℕ)
    → ShowsKept changes number first (side_by_side count writer ++ row)
    → next ≡ (if is_some writer then unmarked changes number first count else changes)
    → (unmarked next number (first + count) (length row)
    ≡ unmarked changes number first (length (side_by_side count writer ++ row)))
    × ShowsKept next number (first + count) row
unmark-step count None row changes next number first shows is = (
  ap (λ one. unmarked one number (first + count) (length row)) is
      ∙ sym (unmarked-none number count (length row) changes first row shows)
      ∙ ap (unmarked changes number first) (run-length count None row),
  subst (λ one. ShowsKept one number (first + count) row) (sym is)
      (run-shows count None row changes number first shows),
)
unmark-step count (Some writer) row changes next number first shows is = (
  ap (λ one. unmarked one number (first + count) (length row)) is
      ∙ sym (unmarked-behind number count (length row) changes first)
      ∙ ap (unmarked changes number first) (run-length count (Some writer) row),
  shows-same changes next number (first + count) row
      (λ sector. ap (λ one. has_place one (number, sector)) is
      ∙ kept-unmarked number count changes first (number, sector))
      (run-shows count (Some writer) row changes number first shows),
)

-- those of a run are handed down, and then those of the runs that are left
pub hand-step : (count : ℕ) (writer : Option Writer) (row : List (Option Writer))
    (changes next : Changes) (number above place first : ℕ) → (above == number) ≡ false
    → ShowsKept changes above place (side_by_side count writer ++ row)
    → next ≡ (if is_some writer then handed changes above place number first count
    else unmarked changes number first count)
    → (handed next above (place + count) number (first + count) (length row)
    ≡ handed changes above place number first (length (side_by_side count writer ++ row)))
    × ShowsKept next above (place + count) row
hand-step count None row changes next number above place first apart shows is = (
  ap (λ one. handed one above (place + count) number (first + count) (length row)) is
      ∙ sym (handed-none number above count (length row) changes place first row shows)
      ∙ ap (handed changes above place number first) (run-length count None row),
  shows-same changes next above (place + count) row
      (λ sector. ap (λ one. has_place one (above, sector)) is
      ∙ kept-unmarked number count changes first (above, sector))
      (run-shows count None row changes above place shows),
)
hand-step count (Some writer) row changes next number above place first apart shows is = (
  ap (λ one. handed one above (place + count) number (first + count) (length row)) is
      ∙ sym (handed-behind number above count (length row) changes place first)
      ∙ ap (handed changes above place number first) (run-length count (Some writer) row),
  shows-same changes next above (place + count) row
      (λ sector. ap (λ one. has_place one (above, sector)) is
      ∙ kept-handed number above count changes place first sector apart)
      (run-shows count (Some writer) row changes above place shows),
)

-- those of a run are taken over, and then those of the runs that are left
pub take-step : (count : ℕ) (writer : Option Writer) (row : List (Option Writer))
    (from changes next : Changes) (number above place first : ℕ)
    → ShowsKept from above place (side_by_side count writer ++ row)
    → next ≡ (if is_some writer then taken_over from above place changes number first count
    else unmarked changes number first count)
    → (taken_over from above (place + count) next number (first + count) (length row)
    ≡ taken_over from above place changes number first (length (side_by_side count writer ++ row)))
    × ShowsKept from above (place + count) row
take-step count None row from changes next number above place first shows is = (
  ap (λ one. taken_over from above (place + count) one number (first + count) (length row)) is
      ∙ sym (taken-none number above from count (length row) changes place first row shows)
      ∙ ap (taken_over from above place changes number first) (run-length count None row),
  run-shows count None row from above place shows,
)
take-step count (Some writer) row from changes next number above place first shows is = (
  ap (λ one. taken_over from above (place + count) one number (first + count) (length row)) is
      ∙ sym (taken-behind number above from count (length row) changes place first)
      ∙ ap (taken_over from above place changes number first) (run-length count (Some writer) row),
  run-shows count (Some writer) row from above place shows,
)
