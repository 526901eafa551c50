-- One seed more in a tally, as a map that is kept by what is counted takes it.
use Rattle.lab_model.proofs.Common.{rules, ◌≡◌, ℕ, Bool, List, [], ◌∷◌, lookup, refl, rules}
use Rattle.indexmap.specs.IndexMap.{insert_entry}
use Rattle.lab_sweep.specs.Tally.{count_after, counted_seed}
use Rattle.lab_sweep.specs.declared.tally.SeedCount.{SeedCount}

-- the count that is found for a key gives the count that is put in its place
pub counted-in : {K : Type 0} (same : K → K → Bool) (entries : List (K × SeedCount)) (key : K)
    (seed : ℕ) → insert_entry same entries key (count_after (lookup (same key) entries) seed)
    ≡ counted_seed same entries key seed
counted-in same [] key seed = search rules
counted-in same (entry ∷ entries) key seed = search (rules, counted-in same entries key seed)

-- tests that answer the same count the same
pub counted-same : {K : Type 0} (same other : K → K → Bool)
    → ((a b : K) → same a b ≡ other a b) → (entries : List (K × SeedCount)) (key : K) (seed : ℕ)
    → counted_seed same entries key seed ≡ counted_seed other entries key seed
counted-same same other are [] key seed = refl
counted-same same other are (entry ∷ entries) key seed =
    rw (are key entry.0, counted-same same other are entries key seed) refl
