-- The features that have arguments, by their names (this project's own).
use Rattle.std.specs.Prelude.{ℕ, List, Option, Some, None, codes, if◌then◌else◌}
use Rattle.std.specs.Str.{bytes_eq}
use Rattle.lab_flakey.specs.declared.feature.FeatureName.{FeatureName}
use Rattle.lab_flakey.specs.declared.feature.FeatureName.TheVariants.{CorruptByte, RandomRead, RandomWrite}

-- the feature that a word names, where it is none without arguments
abbrev pub later_name_of : List ℕ → Option FeatureName
later_name_of word =
    if bytes_eq word (codes "corrupt_bio_byte") then Some CorruptByte
    else (if bytes_eq word (codes "random_read_corrupt") then Some RandomRead
    else (if bytes_eq word (codes "random_write_corrupt") then Some RandomWrite
    else None))
