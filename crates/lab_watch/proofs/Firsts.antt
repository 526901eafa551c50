-- The first stretch that ends at a place or behind it.
use Rattle.std.proofs.Common.{List, None, Some, [], arith, nat_cmp, rules, ℕ, ◌+◌, ◌-◌, ◌<◌}
use Rattle.std.proofs.Common.{◌∷◌, ◌≡◌, ◌≤◌}
use Rattle.std.proofs.lemmas.Bool.Decides.{nat_tests}
use Rattle.std.specs.BTreeMap.Range.{entries_between}
use Rattle.std.specs.declared.ops.Bound.TheVariants.{Included, Unbounded}
use Rattle.lab_watch.specs.Stretches.{first_from, in_front, without_last}
use Rattle.lab_watch.specs.declared.stretch.Stretch.{Stretch}
use Rattle.lab_watch.proofs.Rising.{Rises}

-- the first with its end at the place or behind it has its end there
pub first-from : (entries : List (ℕ × Stretch)) (place : ℕ) (entry : ℕ × Stretch)
    → first_from entries place ≡ Some entry → place ≤ entry.0
first-from [] place entry is = grind arith
first-from (other ∷ entries) place entry is =
    grind (arith, nat_tests, first-from entries place entry)

-- what a map has from a place on begins with the first from it on
pub first-of : (place : ℕ) (entries rest : List (ℕ × Stretch)) (entry : ℕ × Stretch)
    → entries_between nat_cmp (Included place) Unbounded entries ≡ entry ∷ rest
    → Some entry ≡ first_from entries place
first-of place [] rest entry is = grind arith
first-of place (other ∷ entries) rest entry is =
    grind (arith, nat_tests, first-of place entries rest entry)

-- and where the map has nothing there is none
pub first-none : (place : ℕ) (entries : List (ℕ × Stretch))
    → entries_between nat_cmp (Included place) Unbounded entries ≡ []
    → None ≡ first_from entries place
first-none place [] is = search rules
first-none place (other ∷ entries) is = grind (arith, nat_tests, first-none place entries)

-- where nothing ends at a place or behind it, nothing does behind it
pub none-more : (place : ℕ) (entries : List (ℕ × Stretch)) → None ≡ first_from entries place
    → None ≡ first_from entries (place + 1)
none-more place [] none = search rules
none-more place (entry ∷ entries) none = grind (arith, nat_tests, none-more place entries)

-- what ends at no other place is the first behind it
pub first-more : (place : ℕ) (entries : List (ℕ × Stretch)) (entry : ℕ × Stretch)
    → Some entry ≡ first_from entries place → place < entry.0
    → Some entry ≡ first_from entries (place + 1)
first-more place [] entry is behind = grind arith
first-more place (other ∷ entries) entry is behind =
    grind (arith, nat_tests, first-more place entries entry)

-- what ends behind a place reaches over it by what it has in front
pub front-behind : (place : ℕ) (entry : ℕ × Stretch) → place < entry.0
    → without_last entry.1 (entry.0 - place) ≡ in_front (Some entry) place
front-behind place entry behind = grind (arith, nat_tests)

-- what ends at a place doesn't reach over it
pub front-at : (place : ℕ) (entry : ℕ × Stretch) → entry.0 ≡ place
    → None ≡ in_front (Some entry) place
front-at place entry ends = grind (arith, nat_tests)

-- where nothing ends in front of a place, the first is one for all places up to it
first-risen : (low high : ℕ) (entries : List (ℕ × Stretch)) → Rises high entries → low ≤ high
    → first_from entries low ≡ first_from entries high
first-risen low high [] rises within = search rules
first-risen low high (entry ∷ entries) rises within = grind (arith, nat_tests, rises.0)

-- where a stretch ends at the place, the map's next is the first behind it
pub second-of : (place lowest : ℕ) (entries rest : List (ℕ × Stretch)) (entry other : ℕ × Stretch)
    → Rises lowest entries
    → entries_between nat_cmp (Included place) Unbounded entries ≡ entry ∷ other ∷ rest
    → entry.0 ≤ place → Some other ≡ first_from entries (place + 1)
second-of place lowest [] rest entry other rises is ends = grind arith
second-of place lowest (one ∷ entries) rest entry other rises is ends =
    grind (
      arith,
      nat_tests,
      first-of place entries rest other,
      first-risen place (one.0 + 1) entries rises.1,
      second-of place (one.0 + 1) entries rest entry other rises.1,
    )

-- and where the map has no other there is none
pub second-none : (place lowest : ℕ) (entries : List (ℕ × Stretch)) (entry : ℕ × Stretch)
    → Rises lowest entries
    → entries_between nat_cmp (Included place) Unbounded entries ≡ entry ∷ []
    → entry.0 ≤ place → None ≡ first_from entries (place + 1)
second-none place lowest [] entry rises is ends = grind arith
second-none place lowest (one ∷ entries) entry rises is ends =
    grind (
      arith,
      nat_tests,
      first-none place entries,
      first-risen place (one.0 + 1) entries rises.1,
      second-none place (one.0 + 1) entries entry rises.1,
    )
