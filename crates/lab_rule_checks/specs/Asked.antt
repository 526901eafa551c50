-- What a command asks for by its names (dmsetup(8)).
use Rattle.std.specs.Prelude.{ℕ, ◌&&◌, Bool, false, not, is_some, List, Option, Some, None}
use Rattle.lab_rulebook.specs.Standing.{Standing as Stands}

-- whether it is a name that no device has
abbrev pub is_unknown : {S : Type 0} → Stands S → Option (List ℕ) → Bool
is_unknown s None = false
is_unknown s (Some name) = not (is_some (s.device_of name))

-- whether a table is asked for that isn't there
abbrev pub is_missing : {X Y : Type 0} → Option X → Option Y → Bool
is_missing asked table = is_some asked && not (is_some table)
