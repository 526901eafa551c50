-- Which devices links lead to, and how a search finds them (this project's own).
use Rattle.std.specs.Prelude.{ℕ, ◌<◌, ◌++◌, Bool, true, false, not, List, [], ◌∷◌, Contains}
use Rattle.std.specs.Prelude.{Decides, length, replicate, slice_get}
use Rattle.lab_model.specs.Lists.{change}
use Rattle.lab_standing.specs.Image.{own_of}
use Rattle.lab_standing.specs.Seen.{passes}
use Rattle.lab_rule_checks.specs.declared.search.Search.{Search}

-- a chain of links leads to a device from one of some first devices, or it is one of these
pub data Reached (rows : List (List ℕ)) (first : List ℕ) : ℕ → Type 0 where
  at_first : {number : ℕ} → Contains first number → Reached rows first number
  further : {number below : ℕ} → Reached rows first number
      → Contains (own_of rows number) below → Reached rows first below

-- how far a search has come: which devices it has reached, and those whose links it has to follow
pub record Front : Type 0 where
  pub marks : List Bool
  pub waiting : List ℕ

-- how far a search has come
abbrev pub front : Search → Front
front search = record { marks = search.marks.items; waiting = search.waiting.items }

-- none of so many devices was reached
abbrev pub nothing_reached : ℕ → Front
nothing_reached devices = record { marks = replicate devices false; waiting = [] }

-- whether a device is marked
abbrev pub is_set : List Bool → ℕ → Bool
is_set marks device = passes (slice_get marks device) (λ mark. mark)

-- whether there is such a device, and it isn't marked
abbrev pub is_new : List Bool → ℕ → Bool
is_new marks device = passes (slice_get marks device) not

-- the marks with that of a device set
abbrev pub marked : ℕ → List Bool → List Bool
marked device marks = change marks device (λ mark. true)

-- a search after it reached a device, which is new or not
abbrev pub reach_if : Bool → ℕ → Front → Front
reach_if true device f =
    record { marks = marked device f.marks; waiting = f.waiting ++ device ∷ [] }
reach_if false device f = f

-- a search after it reached a device
abbrev pub reach : ℕ → Front → Front
reach device f = reach_if (is_new f.marks device) device f

-- a search after it reached some devices
abbrev pub reach_all : List ℕ → Front → Front
reach_all [] f = f
reach_all (device ∷ devices) f = reach_all devices (reach device f)

-- marks tell of each device that there is whether links lead to it
abbrev pub TellsReached : List (List ℕ) → List ℕ → List Bool → Type 0
TellsReached rows first marks = (number : ℕ)
    → Decides (is_set marks number) ((number < length rows) × Reached rows first number)
