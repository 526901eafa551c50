-- The marks of numbers below 64, where one of them is set or cleared.
use Rattle.lab_model.proofs.Common.{◌≡◌, ◌≢◌, ℕ, suc, zero, Bool, false, [], ◌∷◌, refl, slice_set}
use Rattle.lab_model.proofs.Common.{get_or-set_other}
use Rattle.lab_index.specs.Numbers.{Marks, has}

-- another number's mark stays
pub mark-other : (low marks : Marks) (log other : ℕ) (mark : Bool) → marks ≡ slice_set low log mark
    → other ≢ log → has marks other ≡ has low other
mark-other low marks log other mark is apart = rw (is, get_or-set_other)

-- a mark that is taken away is not set, whether it was there or not
pub clear-at : (marks : Marks) (place : ℕ) → has (slice_set marks place false) place ≡ false
clear-at [] place = refl
clear-at (mark ∷ marks) zero = refl
clear-at (mark ∷ marks) (suc place) = clear-at marks place
