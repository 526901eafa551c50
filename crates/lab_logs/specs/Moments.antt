-- The least of the moments that lie ahead, in parts (this project's own).
use Rattle.std.specs.Prelude.{ℕ, min, List, [], ◌∷◌, nat_lt, Option, Some, if◌then◌else◌}
use Rattle.std.specs.Option.{option_map_or}

-- the lesser of a moment and another, if there is another
abbrev pub least_with : ℕ → Option ℕ → Option ℕ
least_with moment other = Some (option_map_or (min moment) other moment)

-- the lesser of a moment, if it is later than now, and another
abbrev pub lesser : ℕ → ℕ → Option ℕ → Option ℕ
lesser now moment other = if nat_lt now moment then least_with moment other else other

-- the least of some moments that are later than now, and another
abbrev pub least_over : ℕ → List ℕ → Option ℕ → Option ℕ
least_over now [] other = other
least_over now (moment ∷ more) other = lesser now moment (least_over now more other)
