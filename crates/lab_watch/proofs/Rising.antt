-- Stretches by rising ends, as a map has them.
use Rattle.std.proofs.Common.{List, [], arith, max, nat_cmp, ℕ, ◌+◌, ◌<◌, ◌∷◌, ◌≡◌}
use Rattle.std.proofs.Common.{◌≤◌}
use Rattle.std.specs.Prelude.{⊤}
use Rattle.std.proofs.lemmas.Bool.Decides.{nat_tests}
use Rattle.std.specs.declared.cmp.Ordering.TheVariants.{Less}
use Rattle.std.specs.List.{AllByRecursion}
use Rattle.std.specs.List.Sorted.{IsStrictlySortedBy}
use Rattle.std.specs.BTreeMap.{insert_entry}
use Rattle.std.specs.BTreeMap.Range.{entries_between}
use Rattle.std.specs.declared.ops.Bound.TheVariants.{Included, Unbounded}
use Rattle.std.specs.Map.{keys_of}
use Rattle.lab_watch.specs.declared.stretch.Stretch.{Stretch}

-- each ends at the place or behind it, and behind the one before
abbrev pub Rises : ℕ → List (ℕ × Stretch) → Type 0
Rises place [] = ⊤
Rises place (entry ∷ entries) = (place ≤ entry.0) × Rises (entry.0 + 1) entries

-- what rises behind an end
Rises-behind : (entries : List (ℕ × Stretch)) (end : ℕ)
    → AllByRecursion (λ other. nat_cmp end other ≡ Less) (keys_of entries)
    → IsStrictlySortedBy nat_cmp (keys_of entries) → Rises (end + 1) entries
unfolding IsStrictlySortedBy
Rises-behind [] end above sorted = tt
Rises-behind (entry ∷ entries) end above sorted =
    (grind (arith, nat_tests, above.0), Rises-behind entries entry.0 sorted.0 sorted.1)

-- a map's entries rise
pub Rises-from_sorted : (entries : List (ℕ × Stretch))
    → IsStrictlySortedBy nat_cmp (keys_of entries) → Rises 0 entries
unfolding IsStrictlySortedBy
Rises-from_sorted [] sorted = tt
Rises-from_sorted (entry ∷ entries) sorted =
    (omega arith, Rises-behind entries entry.0 sorted.0 sorted.1)

-- what rises behind a place rises behind one in front of it
pub Rises-weaker : (low high : ℕ) (entries : List (ℕ × Stretch)) → low ≤ high
    → Rises high entries → Rises low entries
Rises-weaker low high [] within rises = tt
Rises-weaker low high (entry ∷ entries) within rises = (omega (arith, rises.0), rises.1)

-- what a map has from a place on rises from it on
pub Rises-between : (place lowest from : ℕ) (entries : List (ℕ × Stretch))
    → Rises lowest entries → from ≤ max place lowest
    → Rises from (entries_between nat_cmp (Included place) Unbounded entries)
Rises-between place lowest from [] rises within = tt
Rises-between place lowest from (entry ∷ entries) rises within =
    grind (
      arith,
      nat_tests,
      rises.0,
      Rises-between place (entry.0 + 1) from entries rises.1,
      Rises-between place (entry.0 + 1) (entry.0 + 1) entries rises.1,
    )

-- one that ends before the first goes in front
pub insert-before : (entry : ℕ × Stretch) (entries : List (ℕ × Stretch)) (end : ℕ)
    (stretch : Stretch) → end < entry.0
    → insert_entry nat_cmp (entry ∷ entries) end stretch ≡ (end, stretch) ∷ entry ∷ entries
insert-before entry entries end stretch before = grind (arith, nat_tests)

-- one with the same end takes the first one's place
pub insert-at : (entry : ℕ × Stretch) (entries : List (ℕ × Stretch)) (end : ℕ) (stretch : Stretch)
    → end ≡ entry.0
    → insert_entry nat_cmp (entry ∷ entries) end stretch ≡ (entry.0, stretch) ∷ entries
insert-at entry entries end stretch same = grind (arith, nat_tests)

-- one that ends behind the first goes to the others
pub insert-behind : (entry : ℕ × Stretch) (entries : List (ℕ × Stretch)) (end : ℕ)
    (stretch : Stretch) → entry.0 < end
    → insert_entry nat_cmp (entry ∷ entries) end stretch
    ≡ entry ∷ insert_entry nat_cmp entries end stretch
insert-behind entry entries end stretch behind = grind (arith, nat_tests)
