-- What a read in flight has been answered so far (this project's own).
use Rattle.std.specs.Prelude.{ℕ, List, Option, None, Some, [], ◌∷◌, slice_set, vec_capacity}
use Rattle.std.specs.Global.{Box, Vec}
use Rattle.lab_model.specs.Sectors.{Sectors, filled}

-- the sectors that are kept; where none is, zero bytes of as many sectors as there is room for
abbrev pub answered_of : Sectors → ℕ → Sectors
answered_of [] room = filled room 0
answered_of (sector ∷ others) room = sector ∷ others

-- the sectors in a box; none where there is no box
abbrev pub kept_in : Option (Box (Vec (List ℕ))) → Sectors
kept_in None = []
kept_in (Some kept) = answered_of kept.value.items (vec_capacity kept.value)

-- two sectors, each of which takes the place of another if it is there
abbrev pub Changed : Type 0
Changed = Option (ℕ × List ℕ) × Option (ℕ × List ℕ)

-- the sectors where one, if there is one, has taken the place of another
abbrev pub with_change : Option (ℕ × List ℕ) → Sectors → Sectors
with_change None sectors = sectors
with_change (Some (place, bytes)) sectors = slice_set sectors place bytes

-- the sectors after one such change and another
abbrev pub after : Changed → Sectors → Sectors
after (first, second) sectors = with_change second (with_change first sectors)
