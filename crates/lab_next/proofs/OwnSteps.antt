-- The bios that were made for the pieces of one, place after place.
use Rattle.lab_model.proofs.Common.{◌≡◌, ℕ, suc, ◌+◌, ◌-◌, ◌<◌, arith, State, bio_of}
use Rattle.lab_next.specs.Bios.{sectors_in}
use Rattle.lab_next.specs.Own.{made_sectors}

-- with the sectors of the bio at a place, and those that are left, all are taken away
pub one_taken : {S : Type 0} (s : State S) (place count before after whole : ℕ) → place < count
    → after ≡ before - sectors_in (bio_of s (place + 1))
    → before - made_sectors s place (count - place) ≡ whole
    → after - made_sectors s (place + 1) (count - (place + 1)) ≡ whole
one_taken s place count before after whole ahead one-is so_far =
    let left : count - place ≡ suc (count - (place + 1)) = omega arith in
    let told = rw left at so_far in omega (arith, told)
