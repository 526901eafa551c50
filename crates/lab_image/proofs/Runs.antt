-- Changed bytes, one run after another of sectors that may have some or have none.
use Rattle.lab_model.proofs.Common.{rules, ◌≡◌, ◌∙◌, ℕ, suc, zero, ◌+◌, ◌==◌, false, List, [], ◌∷◌, ◌++◌}
use Rattle.lab_model.proofs.Common.{Option, None, add-zero, ap, ap₂, arith, length, refl, subst, sym}
use Rattle.lab_target.specs.declared.verdict.Mark.{Mark}
use Rattle.lab_next.specs.declared.writer.Writer.{Writer}
use Rattle.lab_watch.specs.Grids.{side_by_side}
use Rattle.lab_image.specs.Changes.{Changes, handed, has_place, marks_at, same_place, taken_over}
use Rattle.lab_image.specs.Changes.{unmarked, with_marks}
use Rattle.lab_image.specs.Places.{ShowsKept}
use Rattle.lab_image.proofs.Kept.{keep-marks}

-- so many, and more behind them
abbrev pub and_more : ℕ → ℕ → ℕ
and_more zero more = more
and_more (suc count) more = suc (and_more count more)

-- one more in front is one more
one-behind : (a b : ℕ) → a + 1 + b ≡ a + suc b
one-behind a b = omega arith

-- a place that isn't kept has no changed byte
none-at : (changes : Changes) (place : ℕ × ℕ) → has_place changes place ≡ false
    → marks_at changes place ≡ []
none-at [] place not = refl
none-at (entry ∷ entries) place not = search (rules, none-at entries place)

-- with none at a place, the same places are kept
kept-without : (changes : Changes) (place other : ℕ × ℕ)
    → has_place (with_marks changes place []) other ≡ has_place changes other
kept-without [] place other = refl
kept-without (entry ∷ entries) place other = search (rules, kept-without entries place other)

-- with some at a place, others are kept as they were
pub kept-elsewhere : (changes : Changes) (place other : ℕ × ℕ) (marks : List Mark)
    → same_place other place ≡ false
    → has_place (with_marks changes place marks) other ≡ has_place changes other
kept-elsewhere [] place other [] apart = refl
kept-elsewhere [] place other (mark ∷ marks) apart = search rules
kept-elsewhere (entry ∷ entries) place other marks apart =
    search (rules, kept-elsewhere entries place other marks apart)

-- what shows where some are kept shows it of others that are kept in the same sectors
pub shows-same : (changes others : Changes) (number first : ℕ) (row : List (Option Writer))
    → ((sector : ℕ) → has_place others (number, sector) ≡ has_place changes (number, sector))
    → ShowsKept changes number first row → ShowsKept others number first row
shows-same changes others number first [] same shows = tt
shows-same changes others number first (one ∷ row) same shows = (
  (λ nobody. same first ∙ shows.0 nobody),
  shows-same changes others number (first + 1) row same shows.1,
)

-- and it shows it of the sectors behind some
pub shows-behind : (changes : Changes) (number first : ℕ) (row more : List (Option Writer))
    → ShowsKept changes number first (row ++ more) → ShowsKept changes number (first + length row) more
shows-behind changes number first [] more shows =
    subst (λ n. ShowsKept changes number n more) (sym (add-zero first)) shows
shows-behind changes number first (one ∷ row) more shows =
    subst (λ n. ShowsKept changes number n more) (one-behind first (length row))
    (shows-behind changes number (first + 1) row more shows.1)

module _ (number : ℕ) where
  -- no changed byte in some sectors, and then in those behind them
  pub unmarked-behind : (count more : ℕ) (changes : Changes) (first : ℕ)
      → unmarked changes number first (and_more count more)
      ≡ unmarked (unmarked changes number first count) number (first + count) more
  unmarked-behind zero more changes first =
      ap (λ n. unmarked changes number n more) (sym (add-zero first))
  unmarked-behind (suc count) more changes first =
      let bare = with_marks changes (number, first) [] in
      unmarked-behind count more bare (first + 1)
      ∙ ap (λ n. unmarked (unmarked bare number (first + 1) count) number n more)
      (one-behind first count)

  -- where none is kept, nothing changes
  pub unmarked-none : (count more : ℕ) (changes : Changes) (first : ℕ) (row : List (Option Writer))
      → ShowsKept changes number first (side_by_side count None ++ row)
      → unmarked changes number first (and_more count more)
      ≡ unmarked changes number (first + count) more
  unmarked-none zero more changes first row shows =
      ap (λ n. unmarked changes number n more) (sym (add-zero first))
  unmarked-none (suc count) more changes first row shows =
      ap (λ same. unmarked same number (first + 1) (and_more count more))
      (sym (keep-marks changes (number, first) [] (shows.0 refl)))
      ∙ unmarked-none count more changes (first + 1) row shows.1
      ∙ ap (λ n. unmarked changes number n more) (one-behind first count)

  -- the same places are kept
  pub kept-unmarked : (count : ℕ) (changes : Changes) (first : ℕ) (other : ℕ × ℕ)
      → has_place (unmarked changes number first count) other ≡ has_place changes other
  kept-unmarked zero changes first other = refl
  kept-unmarked (suc count) changes first other =
      kept-unmarked count (with_marks changes (number, first) []) (first + 1) other
      ∙ kept-without changes (number, first) other

  module _ (above : ℕ) where
    -- some are handed down, and then those behind them
    pub handed-behind : (count more : ℕ) (changes : Changes) (place first : ℕ)
        → handed changes above place number first (and_more count more)
        ≡ handed (handed changes above place number first count) above (place + count) number
        (first + count) more
    handed-behind zero more changes place first =
        ap₂ (λ p n. handed changes above p number n more) (sym (add-zero place))
        (sym (add-zero first))
    handed-behind (suc count) more changes place first =
        let next = with_marks changes (number, first) (marks_at changes (above, place)) in
        handed-behind count more next (place + 1) (first + 1)
        ∙ ap₂ (λ p n. handed (handed next above (place + 1) number (first + 1) count) above p number
        n more) (one-behind place count) (one-behind first count)

    -- where none is kept, there is none then
    pub handed-none : (count more : ℕ) (changes : Changes) (place first : ℕ)
        (row : List (Option Writer)) → ShowsKept changes above place (side_by_side count None ++ row)
        → handed changes above place number first (and_more count more)
        ≡ handed (unmarked changes number first count) above (place + count) number (first + count)
        more
    handed-none zero more changes place first row shows =
        ap₂ (λ p n. handed changes above p number n more) (sym (add-zero place))
        (sym (add-zero first))
    handed-none (suc count) more changes place first row shows =
        let bare = with_marks changes (number, first) [] in
        ap (λ marks. handed (with_marks changes (number, first) marks) above (place + 1) number
        (first + 1) (and_more count more)) (none-at changes (above, place) (shows.0 refl))
        ∙ handed-none count more bare (place + 1) (first + 1) row
        (shows-same changes bare above (place + 1) (side_by_side count None ++ row)
        (λ sector. kept-without changes (number, first) (above, sector)) shows.1)
        ∙ ap₂ (λ p n. handed (unmarked bare number (first + 1) count) above p number n more)
        (one-behind place count) (one-behind first count)

    -- those of another number are kept as they were
    pub kept-handed : (count : ℕ) (changes : Changes) (place first sector : ℕ)
        → (above == number) ≡ false
        → has_place (handed changes above place number first count) (above, sector)
        ≡ has_place changes (above, sector)
    kept-handed zero changes place first sector apart = refl
    kept-handed (suc count) changes place first sector apart =
        let marks = marks_at changes (above, place) in
        kept-handed count (with_marks changes (number, first) marks) (place + 1) (first + 1) sector
        apart
        ∙ kept-elsewhere changes (number, first) (above, sector) marks (search (rules, apart))

    module _ (from : Changes) where
      -- some are taken over, and then those behind them
      pub taken-behind : (count more : ℕ) (changes : Changes) (place first : ℕ)
          → taken_over from above place changes number first (and_more count more)
          ≡ taken_over from above (place + count)
          (taken_over from above place changes number first count) number (first + count) more
      taken-behind zero more changes place first =
          ap₂ (λ p n. taken_over from above p changes number n more) (sym (add-zero place))
          (sym (add-zero first))
      taken-behind (suc count) more changes place first =
          let next = with_marks changes (number, first) (marks_at from (above, place)) in
          taken-behind count more next (place + 1) (first + 1)
          ∙ ap₂ (λ p n. taken_over from above p
          (taken_over from above (place + 1) next number (first + 1) count) number n more)
          (one-behind place count) (one-behind first count)

      -- where none is kept, there is none then
      pub taken-none : (count more : ℕ) (changes : Changes) (place first : ℕ)
          (row : List (Option Writer)) → ShowsKept from above place (side_by_side count None ++ row)
          → taken_over from above place changes number first (and_more count more)
          ≡ taken_over from above (place + count) (unmarked changes number first count) number
          (first + count) more
      taken-none zero more changes place first row shows =
          ap₂ (λ p n. taken_over from above p changes number n more) (sym (add-zero place))
          (sym (add-zero first))
      taken-none (suc count) more changes place first row shows =
          let bare = with_marks changes (number, first) [] in
          ap (λ marks. taken_over from above (place + 1) (with_marks changes (number, first) marks)
          number (first + 1) (and_more count more)) (none-at from (above, place) (shows.0 refl))
          ∙ taken-none count more bare (place + 1) (first + 1) row shows.1
          ∙ ap₂ (λ p n. taken_over from above p (unmarked bare number (first + 1) count) number n
          more) (one-behind place count) (one-behind first count)
