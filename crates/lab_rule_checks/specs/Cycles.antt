-- Loads that close a cycle of references (dm-linear).
use Rattle.std.specs.Prelude.{◌≡◌, ℕ, ◌++◌, List, [], ◌∷◌, Some}
use Rattle.lab_target.specs.Meaning.{Meaning}
use Rattle.lab_model.specs.Below.{Below, ever_under}
use Rattle.lab_model.specs.Lists.{change}
use Rattle.lab_model.specs.Tables.{Table}
use Rattle.lab_rulebook.specs.Standing.{Standing as Stands}

-- a device lies below itself after a load of a table into it, over all tables loaded so far
abbrev pub ClosesCycle : {S : Type 0} → Meaning S → Stands S → ℕ → Table S → Type 0
ClosesCycle m s device table =
    Below (ever_under m (change s.versions device (λ own. own ++ table ∷ []))) device device

-- the device of a name lies below itself after a load of a table into it
abbrev pub NamedCloses : {S : Type 0} → Meaning S → Stands S → List ℕ → Table S → Type 0
NamedCloses m s name table =
    (device : ℕ) × (s.device_of name ≡ Some device) × ClosesCycle m s device table
