-- A walk over the items that are left, from each number to the next one.
use Rattle.lab_model.proofs.Common.{rules, ◌≡◌, ℕ, suc, zero, ◌+◌, ◌-◌, ◌<◌, ◌≤◌, Bool, cond, ◌||◌}
use Rattle.lab_model.proofs.Common.{List, [], ◌∷◌, Option, Some, None, drop, refl, ap, sym, ◌∙◌}
use Rattle.lab_model.proofs.Common.{arith, slice_get, sum_by-cons, count_by, list_any, Bio, bio_may}
use Rattle.lab_model.proofs.Common.{option_flatten, numbered}
use Rattle.lab_index.specs.Lists.{AreGoneFrom, IsNextFrom}
use Rattle.std.specs.List.{filter_map}
use Rattle.lab_bios.proofs.Same.{got-same}

-- the items that are left from a number on; from 1 on they are all
abbrev pub left_from : {X : Type 0} → ℕ → List (Option X) → List X
left_from from items = filter_map (λ item. item) (drop (from - 1) items)

-- behind the first place at which one is left come those behind it
next-place : {X : Type 0} (items : List (Option X)) (from place : ℕ) (x : X) → from ≤ place
    → option_flatten (slice_get items place) ≡ Some x
    → ((other : ℕ) → from ≤ other → other < place → option_flatten (slice_get items other) ≡ None)
    → filter_map (λ item. item) (drop from items)
    ≡ x ∷ filter_map (λ item. item) (drop (suc place) items)
next-place [] from place x upto got first = absurd (cc)
next-place (None ∷ items) zero zero x upto got first = absurd (cc)
next-place (Some y ∷ items) zero zero x upto got first =
    let same : y ≡ x = cc in ap (λ z. z ∷ filter_map (λ item. item) items) same
next-place (None ∷ items) zero (suc place) x upto got first =
    next-place items zero place x (omega arith) got
    (λ other above below. first (suc other) (omega arith) (omega arith))
next-place (Some y ∷ items) zero (suc place) x upto got first =
    let none = first zero (omega arith) (omega arith) in absurd (cc)
next-place (item ∷ items) (suc from) zero x upto got first = absurd (omega arith)
next-place (item ∷ items) (suc from) (suc place) x upto got first =
    next-place items from place x (omega arith) got
    (λ other above below. first (suc other) (omega arith) (omega arith))

-- where none is left from a place on, there is nothing
none-place : {X : Type 0} (items : List (Option X)) (from : ℕ)
    → ((other : ℕ) → from ≤ other → option_flatten (slice_get items other) ≡ None)
    → filter_map (λ item. item) (drop from items) ≡ []
none-place [] zero none = refl
none-place [] (suc from) none = refl
none-place (None ∷ items) zero none =
    none-place items zero (λ other above. none (suc other) (omega arith))
none-place (Some y ∷ items) zero none = let no = none zero (omega arith) in absurd (cc)
none-place (item ∷ items) (suc from) none =
    none-place items from (λ other above. none (suc other) (omega arith))

module _ {X : Type 0} (items : List (Option X)) (from : ℕ) where
  -- the next one is the first of those that are left, and the others are those behind it
  pub left-next : (number : ℕ) (x : X) → IsNextFrom items from number
      → option_flatten (numbered items number) ≡ Some x
      → left_from from items ≡ x ∷ left_from (number + 1) items
  left-next zero x next got = absurd (cc)
  left-next (suc place) x next got =
      let upto = next.from in
      let behind : suc place + 1 - 1 ≡ suc place = omega arith in
      next-place items (from - 1) place x (omega arith) got
      (λ other above below. sym (got-same items (suc other))
      ∙ next.first (suc other) (omega arith) (omega arith))
      ∙ ap (λ n. x ∷ filter_map (λ item. item) (drop n items)) (sym behind)

  -- where the item of each number is gone, none is left
  pub left-none : AreGoneFrom items from → left_from from items ≡ []
  left-none gone = none-place items (from - 1)
      (λ other above. sym (got-same items (suc other)) ∙ gone (suc other) (omega arith))

  -- so the item that is there at the next number comes first
  left-some : (number : ℕ) → IsNextFrom items from number
      → (x : X) × (option_flatten (numbered items number) ≡ Some x)
      × (left_from from items ≡ x ∷ left_from (number + 1) items)
  left-some number next = search (rules, got-same, left-next)

module _ (bios : List (Option Bio)) (from number : ℕ) (test : Bio → Bool)
    (next : IsNextFrom bios from number) where
  -- those that pass a test are the next one, if it does, and those behind it
  pub counted-may : count_by test (left_from (number + 1) bios)
      + cond (bio_may (option_flatten (numbered bios number)) test) 1 0
      ≡ count_by test (left_from from bios)
  counted-may =
      let first = left-some bios from number next in
      let sum = sum_by-cons (λ y. cond (test y) 1 0) first.0 (left_from (number + 1) bios) in
      rw (first.1, first.2) (omega arith)

  -- one passes where the next one does, or one behind it
  pub any-may : list_any test (left_from from bios)
      ≡ (bio_may (option_flatten (numbered bios number)) test
      || list_any test (left_from (number + 1) bios))
  any-may = let first = left-some bios from number next in rw (first.1, first.2) refl
