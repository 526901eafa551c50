-- The devices that are found, one word after the other.
use Rattle.std.specs.Prelude.{List, ◌++◌, Option, Some, None}
use Rattle.lab_sector.specs.declared.device.DevNo.{DevNo}

-- devices before others, if these are found
abbrev pub with_found : List DevNo → Option (List DevNo) → Option (List DevNo)
with_found front None = None
with_found front (Some others) = Some (front ++ others)
