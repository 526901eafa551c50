-- How many seeds have each digest (this project's own).
use Rattle.std.specs.Prelude.{ℕ, ◌+◌, Bool, List, [], ◌∷◌, Option, Some, None, if◌then◌else◌}
use Rattle.std.specs.List.{fold}
use Rattle.std.specs.Str.{bytes_eq}
use Rattle.lab_sweep.specs.declared.outcome.SeedOutcome.{SeedOutcome}
use Rattle.lab_sweep.specs.declared.tally.SeedCount.{SeedCount}

-- a count with one seed more, which is its first where nothing was counted
abbrev pub count_after : Option SeedCount → ℕ → SeedCount
count_after None seed = record { first = seed; count = 1 }
count_after (Some count) seed = record { first = count.first; count = count.count + 1 }

-- the counts with one seed more that has this: its count goes up, or it comes last, with this seed
-- as its first
abbrev pub counted_seed : {K : Type 0} → (K → K → Bool) → List (K × SeedCount) → K → ℕ
    → List (K × SeedCount)
counted_seed same [] key seed = (key, count_after None seed) ∷ []
counted_seed same (entry ∷ entries) key seed =
    if same key entry.0 then (entry.0, count_after (Some entry.1) seed) ∷ entries
    else entry ∷ counted_seed same entries key seed

-- each digest of some outcomes, in the order of the first seed that has it, with this seed and with
-- how many have it
abbrev pub tally : List SeedOutcome → List (List ℕ × SeedCount)
tally outcomes =
    fold (λ counts outcome. counted_seed bytes_eq counts outcome.digest outcome.seed) [] outcomes
