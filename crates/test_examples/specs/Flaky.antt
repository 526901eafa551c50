-- Flakey lines over a generator of the examples' own, whose words count up from the seed.
use Rattle.std.specs.Prelude.{ℕ, ◌+◌, Some}
use Rattle.lab_sector.specs.declared.device.DevNo.TheVariants.{Ram}
use Rattle.lab_flakey.specs.declared.feature.Direction.{Direction}
use Rattle.lab_flakey.specs.declared.feature.Features.{Features}
use Rattle.lab_flakey.specs.Flakey.{FlakeyLine, Generator}
use Rattle.lab_flakey.specs.Features.{no_features}
use Rattle.test_examples.specs.Example.{to}

-- the words seed, seed + 1, and so on
abbrev pub counting : Generator ℕ
counting = record { seeded = λ seed. seed; drawn = λ word. (word, word + 1) }

-- a line to disk 0 from this sector on, with intervals in seconds
abbrev pub flaky : ℕ → ℕ → ℕ → Features → FlakeyLine ℕ
flaky first up down features = record {
  reference = to (Ram 0) first;
  up = up;
  down = down;
  features = features;
  loaded = 0;
  generator = first;
}

-- `corrupt_bio_byte NTH DIRECTION VALUE 0`
abbrev pub fixed_byte : ℕ → Direction → ℕ → Features
fixed_byte nth direction value = record no_features {
  corrupt = Some (record { nth = nth; direction = direction; value = value; flags = 0 });
}
