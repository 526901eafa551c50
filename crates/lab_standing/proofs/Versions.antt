-- The versions of a device by their numbers.
use Rattle.lab_model.proofs.Common.{rules, ◌≡◌, ℕ, List, [], Option, Some, None, refl, slice_get}
use Rattle.lab_standing.specs.Image.{own_of, version_at}
use Rattle.lab_standing.proofs.OwnRows.{own-at, own-none}

-- a device that isn't there has no version
no_version : {L : Type 0} (number : Option ℕ) → version_at {L = L} [] number ≡ None
no_version number = search rules

-- no device has a number past the end
pub past-own_of : {L : Type 0} (versions : List (List L)) (device : ℕ) (number : Option ℕ)
    → slice_get versions device ≡ None → version_at (own_of versions device) number ≡ None
past-own_of versions device number is = rw (own-none versions device is) (no_version number)

-- the versions of a device are those of its place
pub at-own_of : {L : Type 0} (versions : List (List L)) (device : ℕ) (own : List L)
    → slice_get versions device ≡ Some own → own_of versions device ≡ own
at-own_of versions device own is = rw (own-at versions device, is) refl
