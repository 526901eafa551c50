-- Items whose spans lie one behind another, as those of the pieces do that have a child: a sector
-- is in one of them at most.
use Rattle.lab_model.proofs.Common.{rules, ◌+◌, ◌<◌, ◌≡◌, ◌≤◌, ◌∷◌, [], ap, arith, filter_map}
use Rattle.lab_model.proofs.Common.{List, None, Option, refl, slice_get, Some, Some-holds, Span}
use Rattle.lab_model.proofs.Common.{subst, suc, sym, zero, ℕ}
use Rattle.law_sectors_touched.proofs.Tiles.{Tiles}

-- items whose spans begin at a sector or behind it, each behind the end of the one before
abbrev pub Spaced : {X : Type 0} → (X → Span) → ℕ → List X → Type 0
Spaced span first [] = Unit {0}
Spaced span first (x ∷ more) =
    (first ≤ (span x).first) × Spaced span ((span x).first + (span x).len) more

-- a span has a sector
pub record Covers (span : Span) (sector : ℕ) : Type 0 where
  pub from : span.first ≤ sector
  pub to : sector < span.first + span.len

module _ {X : Type 0} (span : X → Span) where
  -- spans that follow each other are spaced
  pub tiles-spaced : (first end : ℕ) (xs : List X) → Tiles span first end xs → Spaced span first xs
  tiles-spaced first end [] tiles = search rules
  tiles-spaced first end (x ∷ more) tiles =
      search (rules, tiles-spaced (first + (span x).len) end more tiles.1)

  -- so they are from an earlier sector on
  spaced-lower : (first low : ℕ) (xs : List X) → low ≤ first → Spaced span first xs
      → Spaced span low xs
  spaced-lower first low [] below spaced = tt
  spaced-lower first low (x ∷ more) below spaced = (omega (arith, below, spaced.0), spaced.1)

  -- each begins where they do, or behind that
  spaced-from : (xs : List X) (first : ℕ) → Spaced span first xs → (k : ℕ) (x : X)
      → slice_get xs k ≡ Some x → first ≤ (span x).first
  spaced-from [] first spaced k x there = search rules
  spaced-from (own ∷ more) first spaced zero x there = search rules
  spaced-from (own ∷ more) first spaced (suc k) x there =
      search (rules, spaced-from more ((span own).first + (span own).len) spaced.1 k x there)

  -- a sector is in one of them at most
  pub spaced-one : (xs : List X) (first : ℕ) → Spaced span first xs → (a b : ℕ) (x y : X)
      → slice_get xs a ≡ Some x → slice_get xs b ≡ Some y → (sector : ℕ) → Covers (span x) sector
      → Covers (span y) sector → a ≡ b
  spaced-one [] first spaced a b x y at_x at_y sector own other = search rules
  spaced-one (z ∷ more) first spaced zero zero x y at_x at_y sector own other = refl
  spaced-one (z ∷ more) first spaced zero (suc b) x y at_x at_y sector own other =
      search (rules, Some-holds, spaced-from)
  spaced-one (z ∷ more) first spaced (suc a) zero x y at_x at_y sector own other =
      search (rules, Some-holds, spaced-from)
  spaced-one (z ∷ more) first spaced (suc a) (suc b) x y at_x at_y sector own other =
      search (
        rules,
        Some-holds,
        spaced-from,
        spaced-one more ((span z).first + (span z).len) spaced.1 a b x y at_x at_y sector own
            other,
      )

-- what some of them give, with the same spans, is spaced too
pub spaced-given : {X Y : Type 0} (span : X → Span) (later : Y → Span) (f : X → Option Y)
    → ((x : X) (y : Y) → f x ≡ Some y → later y ≡ span x) → (xs : List X) (first : ℕ)
    → Spaced span first xs → Spaced later first (filter_map f xs)
spaced-given span later f same [] first spaced = tt
spaced-given {X} {Y} span later f same (x ∷ more) first spaced = by_item (f x) refl
    (spaced-given span later f same more ((span x).first + (span x).len) spaced.1)
  where
    by_item : (o : Option Y) → f x ≡ o
        → Spaced later ((span x).first + (span x).len) (filter_map f more)
        → Spaced later first (filter_map f (x ∷ more))
    by_item None is rest = rw is (search (rules, spaced-lower))
    by_item (Some y) is rest =
        let own = same x y is in
        rw is (
          omega (arith, spaced.0, ap (λ l. l.first) own),
          subst (λ l. Spaced later (l.first + l.len) (filter_map f more)) (sym own) rest,
        )
