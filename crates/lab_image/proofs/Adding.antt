-- A row behind others, by the last of them.
use Rattle.lab_model.proofs.Common.{◌≡◌, true, false, List, [], ◌∷◌, ◌++◌, ap, refl}
use Rattle.lab_image.specs.Rows.{DiskRow, added, goes_on, joined_rows}

-- it is added to the last one where it goes on there
pub added-on : (rows : List DiskRow) (last row : DiskRow) → goes_on last row ≡ true
    → added (rows ++ last ∷ []) row ≡ rows ++ joined_rows last row ∷ []
added-on [] last row is = rw is refl
added-on (one ∷ []) last row is = rw is refl
added-on (one ∷ next ∷ rows) last row is =
    ap (λ more. one ∷ more) (added-on (next ∷ rows) last row is)

-- else it comes behind it
pub added-off : (rows : List DiskRow) (last row : DiskRow) → goes_on last row ≡ false
    → added (rows ++ last ∷ []) row ≡ rows ++ last ∷ row ∷ []
added-off [] last row is = rw is refl
added-off (one ∷ []) last row is = rw is refl
added-off (one ∷ next ∷ rows) last row is =
    ap (λ more. one ∷ more) (added-off (next ∷ rows) last row is)
