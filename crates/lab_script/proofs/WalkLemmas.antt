-- How a walk is written, and what is behind a line. Names: what is done, and what is seen of it.
use Rattle.lab_model.proofs.Common.{rules, ◌≡◌, ℕ, zero, suc, List, [], ◌∷◌, map, get_or, slice_set}
use Rattle.lab_model.proofs.Common.{change, change-past, length-map}
use Rattle.lab_script.specs.Walk.{Walk}

-- walks with the same names, devices and counts are one
pub same-walk : {L : Type 0} (w v : Walk L)
    → ((name : List ℕ) → w.device_of name ≡ v.device_of name)
    → w.devices ≡ v.devices → w.loads ≡ v.loads → w ≡ v
same-walk w v names devices loads = search rules

-- an item is written that is seen as what f makes of what was seen
pub write-seen : {X Y : Type 0} (see : X → Y) (f : Y → Y) (xs : List X) (place : ℕ) (old new : X)
    → old ≡ get_or xs place old → see new ≡ f (see old)
    → map see (slice_set xs place new) ≡ change (map see xs) place f
write-seen see f [] place old new is made = search rules
write-seen see f (x ∷ xs) zero old new is made = search rules
write-seen see f (x ∷ xs) (suc place) old new is made =
    search (rules, write-seen see f xs place old new is made)

-- past the end there is no item to change
pub ruleset past_end = (change-past, length-map)
