-- The devices of a script are numbered by its creates (this project's own).
use Rattle.std.specs.Prelude.{◌≡◌, ℕ, ◌+◌, List, [], ◌∷◌}
use Rattle.lab_model.specs.declared.micro.Micro.{Micro}
use Rattle.lab_model.specs.declared.micro.Order.{Order}
use Rattle.lab_model.specs.declared.micro.Order.TheVariants.{Create}
use Rattle.lab_model.specs.Scenario.{Scenario}

-- where so many devices were created before, a create is of the device of that number
abbrev pub CreatesNext : ℕ → Order → Type 0
CreatesNext count (Create device version) = device ≡ count
CreatesNext count _ = Unit {0}

-- the devices that were created after a step more
abbrev pub created_after : ℕ → Order → ℕ
created_after count (Create device version) = count + 1
created_after count _ = count

-- each create among these steps is of the next number
abbrev pub CreatesFrom : ℕ → List Micro → Type 0
CreatesFrom count [] = Unit {0}
CreatesFrom count (micro ∷ micros) =
    CreatesNext count micro.order × CreatesFrom (created_after count micro.order) micros

-- the script's creates count from 0
abbrev pub CreatesInOrder : {S : Type 0} → Scenario S → Type 0
CreatesInOrder c = CreatesFrom 0 c.micros
