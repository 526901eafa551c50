-- Stretches that are cut at a place, or trimmed.
use Rattle.std.proofs.Common.{List, None, Some, [], arith, nat_cmp, rules, ℕ, ◌+◌, ◌-◌, ◌<◌}
use Rattle.std.proofs.Common.{◌∷◌, ◌≡◌, ◌≤◌}
use Rattle.std.proofs.lemmas.Bool.Decides.{nat_tests}
use Rattle.std.specs.BTreeMap.{insert_entry}
use Rattle.lab_watch.specs.Stretches.{cut, first_from, in_front, trimmed}
use Rattle.lab_watch.specs.declared.stretch.Stretch.{Stretch}
use Rattle.lab_watch.proofs.Firsts.{first-from}
use Rattle.lab_watch.proofs.Rising.{Rises, insert-at, insert-before, insert-behind}

-- to cut is to put the front in, if there is one
pub cut-some : (place lowest : ℕ) (entries : List (ℕ × Stretch)) (stretch : Stretch)
    → Rises lowest entries → in_front (first_from entries place) place ≡ Some stretch
    → insert_entry nat_cmp entries place stretch ≡ cut entries place
cut-some place lowest [] stretch rises is = search rules
cut-some place lowest (entry ∷ entries) stretch rises is =
    grind (
      arith,
      nat_tests,
      insert-before entry entries place stretch,
      insert-behind entry entries place stretch,
      cut-some place (entry.0 + 1) entries stretch rises.1,
    )

-- and else nothing
pub cut-none : (place lowest : ℕ) (entries : List (ℕ × Stretch))
    → Rises lowest entries → in_front (first_from entries place) place ≡ None
    → entries ≡ cut entries place
cut-none place lowest [] rises is = search rules
cut-none place lowest (entry ∷ entries) rises is =
    grind (arith, nat_tests, cut-none place (entry.0 + 1) entries rises.1)

-- what is cut rises as before
pub Rises-cut : (place lowest : ℕ) (entries : List (ℕ × Stretch)) → Rises lowest entries
    → lowest ≤ place → Rises lowest (cut entries place)
Rises-cut place lowest [] rises within = tt
Rises-cut place lowest (entry ∷ entries) rises within =
    grind (arith, nat_tests, Rises-cut place (entry.0 + 1) entries rises.1)

-- a cut changes nothing behind the place
pub first-cut : (place : ℕ) (entries : List (ℕ × Stretch))
    → first_from (cut entries place) (place + 1) ≡ first_from entries (place + 1)
first-cut place [] = search rules
first-cut place (entry ∷ entries) = grind (arith, nat_tests, first-cut place entries)

-- a stretch with so many sectors, where it has more
abbrev with_count : Stretch → ℕ → Stretch
with_count stretch count = record stretch { count = count }

-- to trim is to shorten what reaches over the place
pub trimmed-some : (place lowest : ℕ) (entries : List (ℕ × Stretch)) (entry : ℕ × Stretch)
    → Rises lowest entries → first_from entries place ≡ Some entry
    → entry.0 - place < entry.1.count
    → insert_entry nat_cmp entries entry.0 (with_count entry.1 (entry.0 - place))
    ≡ trimmed entries place
trimmed-some place lowest [] entry rises is long = grind arith
trimmed-some place lowest (other ∷ entries) entry rises is long =
    grind (
      arith,
      nat_tests,
      insert-at other entries entry.0 (with_count entry.1 (entry.0 - place)),
      insert-behind other entries entry.0 (with_count entry.1 (entry.0 - place)),
      first-from entries place entry,
      trimmed-some place (other.0 + 1) entries entry rises.1,
    )

-- where it is as short, nothing is trimmed
pub trimmed-same : (place lowest : ℕ) (entries : List (ℕ × Stretch)) (entry : ℕ × Stretch)
    → Rises lowest entries → first_from entries place ≡ Some entry
    → entry.1.count ≤ entry.0 - place → entries ≡ trimmed entries place
trimmed-same place lowest [] entry rises is short = search rules
trimmed-same place lowest (other ∷ entries) entry rises is short =
    grind (arith, nat_tests, trimmed-same place (other.0 + 1) entries entry rises.1)

-- nor where nothing reaches so far
pub trimmed-none : (place lowest : ℕ) (entries : List (ℕ × Stretch))
    → Rises lowest entries → first_from entries place ≡ None → entries ≡ trimmed entries place
trimmed-none place lowest [] rises is = search rules
trimmed-none place lowest (entry ∷ entries) rises is =
    grind (arith, nat_tests, trimmed-none place (entry.0 + 1) entries rises.1)
