-- One bio that is made, and then those behind it.
use Rattle.lab_model.proofs.Common.{◌≡◌, ℕ, ◌+◌, ◌-◌, ◌<◌, ap, State, bio_of}
use Rattle.lab_image.specs.Images.{Image, all_begun, if_begun}
use Rattle.lab_image.proofs.Steps.{one-left}

-- one is made, and then the others are
pub begun-more : {S : Type 0} (s : State S) (image : Image) (place count : ℕ) → place < count
    → all_begun s place (count - place) image
    ≡ all_begun s (place + 1) (count - (place + 1))
    (if_begun s (place + 1) (bio_of s (place + 1)) image)
begun-more s image place count less =
    ap (λ n. all_begun s place n image) (one-left count place less)
