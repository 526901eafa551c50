-- The words that a seeded run picks its events by: those of Pcg32 (O'Neill's PCG XSH RR 64/32; that
-- they are these is this project's own).
use Rattle.std.specs.Prelude.{ℕ, suc, zero, List, [], ◌∷◌}
use Rattle.rand_core.specs.Pcg32Seed.{pcg32_seed}
use Rattle.rand_pcg.specs.Lcg.{Lcg}
use Rattle.rand_pcg.specs.Pcg.{pcg32, pcg32_of_seed}

-- the generator that a number seeds
unfoldable pub seeded : ℕ → Lcg
seeded seed = pcg32_of_seed (pcg32_seed 16 seed)

-- the next word, and the generator after it
unfoldable pub drawn : Lcg → ℕ × Lcg
drawn generator = pcg32 generator

-- the first words of a generator
unfoldable pub first_words : Lcg → ℕ → List ℕ
first_words generator zero = []
first_words generator (suc count) =
    (drawn generator).0 ∷ first_words (drawn generator).1 count
