-- Lists that are changed at one place.
use Rattle.lab_model.proofs.Common.{rules, ◌≡◌, ℕ, zero, suc, List, [], ◌∷◌, map, get_or, slice_set}
use Rattle.lab_model.proofs.Common.{change}

-- a write of an item that shows as what f makes of what was shown is a change by f
pub map-change : {X Y : Type 0} (show : X → Y) (xs : List X) (place : ℕ) (f : Y → Y) (x next : X)
    → x ≡ get_or xs place x → show next ≡ f (show x)
    → map show (slice_set xs place next) ≡ change (map show xs) place f
map-change show [] place f x next is shows = search rules
map-change show (y ∷ ys) zero f x next is shows = search rules
map-change show (y ∷ ys) (suc place) f x next is shows =
    search (rules, map-change show ys place f x next is shows)
