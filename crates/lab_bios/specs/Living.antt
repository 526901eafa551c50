-- The living bios among those of all numbers (this project's own).
use Rattle.std.specs.Prelude.{ℕ, List, Option, map, option_map}
use Rattle.std.specs.List.{filter_map}
use Rattle.lab_model.specs.Bios.{Bio}
use Rattle.lab_bios.specs.declared.bio.Living.{Living}

-- the bios that live
abbrev pub living_of : List (Option Bio) → List Bio
living_of bios = filter_map (λ bio. bio) bios

-- the bios by number, of those that are kept with a count
abbrev pub bios_of : List (Option Living) → List (Option Bio)
bios_of items = map (option_map (λ (living : Living). living.bio)) items

-- and their counts
abbrev pub counts_of : List (Option Living) → List (Option ℕ)
counts_of items = map (option_map (λ (living : Living). living.children)) items

-- a bio with f at its count
abbrev pub with_count : (ℕ → ℕ) → Living → Living
with_count f living = record living { children = f living.children }
