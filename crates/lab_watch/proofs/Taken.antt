-- Stretches with those between two places taken away.
use Rattle.std.proofs.Common.{List, None, Some, [], arith, length, nat_cmp, rules, ℕ, ◌+◌}
use Rattle.std.proofs.Common.{◌<◌, ◌∷◌, ◌≡◌, ◌≤◌}
use Rattle.std.proofs.lemmas.Bool.Decides.{nat_tests}
use Rattle.std.specs.BTreeMap.{is_at}
use Rattle.std.specs.Map.{remove_entry}
use Rattle.lab_watch.specs.Stretches.{first_from, taken}
use Rattle.lab_watch.specs.declared.stretch.Stretch.{Stretch}
use Rattle.lab_watch.proofs.Rising.{Rises}

-- with nothing between two places, nothing is taken
pub taken-past : (first last lowest : ℕ) (entries : List (ℕ × Stretch))
    → Rises lowest entries → last ≤ lowest → taken entries first last ≡ entries
taken-past first last lowest [] rises past = search rules
taken-past first last lowest (entry ∷ entries) rises past =
    grind (arith, nat_tests, taken-past first last (entry.0 + 1) entries rises.1)

-- where the first behind one place isn't in front of the other, nothing is taken
pub taken-some : (first last lowest : ℕ) (entries : List (ℕ × Stretch)) (entry : ℕ × Stretch)
    → Rises lowest entries → first_from entries first ≡ Some entry → last ≤ entry.0
    → taken entries first last ≡ entries
taken-some first last lowest [] entry rises is past = search rules
taken-some first last lowest (other ∷ entries) entry rises is past =
    grind (
      arith,
      nat_tests,
      taken-past first last (other.0 + 1) entries rises.1,
      taken-some first last (other.0 + 1) entries entry rises.1,
    )

-- where none is behind a place, nothing is taken
pub taken-none : (first last : ℕ) (entries : List (ℕ × Stretch)) → first_from entries first ≡ None
    → taken entries first last ≡ entries
taken-none first last [] is = search rules
taken-none first last (other ∷ entries) is =
    grind (arith, nat_tests, taken-none first last entries)

-- where one that ends between two places is removed, the others are taken
pub taken-remove : (first last end : ℕ) (entries : List (ℕ × Stretch)) → first ≤ end → end < last
    → taken (remove_entry (is_at (nat_cmp end)) entries) first last ≡ taken entries first last
taken-remove first last end [] from before = search rules
taken-remove first last end (entry ∷ entries) from before =
    grind (arith, nat_tests, taken-remove first last end entries)

-- without one that was found the map is smaller
pub shorter-remove : (place : ℕ) (entries : List (ℕ × Stretch)) (entry : ℕ × Stretch)
    → first_from entries place ≡ Some entry
    → length (remove_entry (is_at (nat_cmp entry.0)) entries) < length entries
shorter-remove place [] entry is = grind arith
shorter-remove place (other ∷ entries) entry is =
    grind (arith, nat_tests, shorter-remove place entries entry)

-- behind what is taken, all begin alike
pub first-taken : (first last place : ℕ) (entries : List (ℕ × Stretch)) → first ≤ place
    → place ≤ last
    → first_from (taken entries first last) first ≡ first_from (taken entries first last) place
first-taken first last place [] from within = search rules
first-taken first last place (entry ∷ entries) from within =
    grind (arith, nat_tests, first-taken first last place entries)
