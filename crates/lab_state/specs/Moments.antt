-- The moments of held bios (this project's own).
use Rattle.std.specs.Prelude.{ℕ, List}
use Rattle.std.specs.List.{filter_map}
use Rattle.lab_model.specs.Bios.{Bio}
use Rattle.lab_model.specs.Guard.{due_of}

-- the moments of the held bios
abbrev pub dues : List Bio → List ℕ
dues bios = filter_map (λ bio. due_of bio.stage) bios
