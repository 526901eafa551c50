-- A set that is written at its place, as a change of the group there.
use Rattle.std.proofs.Common.{rules, ◌≡◌, ◌≢◌, ◌<◌, ℕ, Bool, ◌==◌, List, get_or, length, map, refl}
use Rattle.std.specs.BTreeSet.{BTreeSet}
use Rattle.std.specs.List.{list_any}
use Rattle.std.specs.Prelude.{slice_set}
use Rattle.std.proofs.lemmas.List.{get_or-map, length-map, map-set}
use Rattle.lab_index.specs.Groups.{Groups, Keeps, is_in}

-- the groups of some sets
abbrev pub groups_of : List (BTreeSet ℕ) → Groups
groups_of sets = map (λ set. set.keys) sets

-- in the group of a set that is written is what is in the set
pub written-here : (sets : List (BTreeSet ℕ)) (place number : ℕ) (new : BTreeSet ℕ) (there : Bool)
    → place < length sets → list_any (λ n. n == number) new.keys ≡ there
    → is_in (groups_of (slice_set sets place new)) place number ≡ there
written-here sets place number new there inside is = search (rules, map-set, length-map)

-- a set that is written and has its other numbers as before keeps all but one number
pub written-keeps : (sets : List (BTreeSet ℕ)) (place number : ℕ) (old new : BTreeSet ℕ)
    → place < length sets → old ≡ get_or sets place old
    → ((other : ℕ) → other ≢ number
    → list_any (λ n. n == other) new.keys ≡ list_any (λ n. n == other) old.keys)
    → Keeps (groups_of sets) (groups_of (slice_set sets place new)) place number
written-keeps sets place number old new inside is others =
    search (rules, map-set, length-map, get_or-map)

-- groups that stay keep all numbers
pub keeps-same : (groups : Groups) (place number : ℕ) → Keeps groups groups place number
keeps-same groups place number = record { count = refl; others = λ other n apart. refl }
