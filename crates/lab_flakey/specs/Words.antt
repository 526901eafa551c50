-- The words that random corruptions are drawn by: those of Pcg32 (O'Neill's PCG XSH RR 64/32; that
-- they are these is this project's own).
use Rattle.std.specs.Prelude.{ℕ}
use Rattle.rand_core.specs.Pcg32Seed.{pcg32_seed}
use Rattle.rand_pcg.specs.Lcg.{Lcg}
use Rattle.rand_pcg.specs.Pcg.{pcg32, pcg32_of_seed}
use Rattle.lab_flakey.specs.Flakey.{Generator}

-- the generator that a number seeds
unfoldable pub seeded : ℕ → Lcg
seeded seed = pcg32_of_seed (pcg32_seed 16 seed)

-- the next word, and the generator after it
unfoldable pub drawn : Lcg → ℕ × Lcg
drawn generator = pcg32 generator

-- the words of Pcg32
abbrev pub pcg_words : Generator Lcg
pcg_words = record { seeded = seeded; drawn = drawn }
