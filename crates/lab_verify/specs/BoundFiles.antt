-- The files of logs, bound to the devices that stand (this project's own).
use Rattle.std.specs.Prelude.{◌≡◌}
use Rattle.lab_rulebook.specs.BoundWords.{path_device}
use Rattle.lab_rulebook.specs.Standing.{Standing}
use Rattle.lab_verify.specs.declared.bound.BoundFile.{BoundFile}

-- the device is the one that the file's path names
abbrev pub IsBound : {S : Type 0} → Standing S → BoundFile → Type 0
IsBound s bound = bound.device ≡ path_device s bound.file.now
