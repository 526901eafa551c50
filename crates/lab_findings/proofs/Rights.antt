-- Whether the sector of a bio has the byte that was written.
use Rattle.lab_model.proofs.Common.{rules, ◌≡◌, ◌∙◌, ℕ, suc, zero, List, [], ◌∷◌, None, Some, refl}
use Rattle.lab_model.proofs.Common.{false, not, slice_get, Bio, Sectors, part, sym, ap, drop, take}
use Rattle.lab_findings.specs.Changes.{is_changed}
use Rattle.lab_findings.specs.Heard.{has_right}

-- the first sector of those from a place on is the one at the place
first-from : (sectors : Sectors) (place : ℕ)
    → slice_get (take 1 (drop place sectors)) 0 ≡ slice_get sectors place
first-from [] zero = refl
first-from [] (suc place) = refl
first-from (sector ∷ sectors) zero = refl
first-from (sector ∷ sectors) (suc place) = first-from sectors place

-- a sector of a bio has the byte where nothing else is in it
pub right-there : (byte place : ℕ) (bio : Bio) (found : Sectors) (sector : List ℕ)
    → found ≡ part bio.sectors (record { first = place; len = 1 })
    → slice_get found 0 ≡ Some sector
    → not (is_changed byte sector) ≡ has_right byte place (Some bio)
right-there byte place bio found sector found-is sector-is =
    let here : slice_get bio.sectors place ≡ Some sector =
    sym (first-from bio.sectors place) ∙ ap (λ all. slice_get all 0) (sym found-is) ∙ sector-is in
    search (rules, here)

-- and hasn't where there is none
pub right-past : (byte place : ℕ) (bio : Bio) (found : Sectors)
    → found ≡ part bio.sectors (record { first = place; len = 1 })
    → slice_get found 0 ≡ None
    → false ≡ has_right byte place (Some bio)
right-past byte place bio found found-is none =
    let here : slice_get bio.sectors place ≡ None =
    sym (first-from bio.sectors place) ∙ ap (λ all. slice_get all 0) (sym found-is) ∙ none in
    search (rules, here)
