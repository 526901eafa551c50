-- What follows from an event's guard.
use Rattle.std.proofs.Common.{rules, ◌≡◌, Bool, true, Option, Some}
use Rattle.lab_model.specs.Bios.{Bio}
use Rattle.lab_model.specs.Guard.{bio_may}

-- a bio's guard finds the living bio
pub bio_may-gives : (o : Option Bio) (test : Bio → Bool) → bio_may o test ≡ true
    → (bio : Bio) × (o ≡ Some bio) × (test bio ≡ true)
bio_may-gives o test may = search rules
