-- Which sectors have another byte than was written, run by run of who wrote them.
use Rattle.lab_model.proofs.Common.{◌≡◌, ◌∙◌, ℕ, suc, zero, List, [], ◌∷◌, ◌++◌, Option, None, Some}
use Rattle.lab_model.proofs.Common.{refl, sym, ap, map, drop}
use Rattle.std.specs.Prelude.{length, min, take}
use Rattle.std.proofs.Math.Nat.{min_comm}
use Rattle.std.proofs.lemmas.List.{drop_min, take_min}
use Rattle.lab_model.specs.Sectors.{Sectors}
use Rattle.lab_next.specs.declared.writer.Writer.{Writer}
use Rattle.lab_watch.specs.Grids.{next, side_by_side}
use Rattle.lab_findings.specs.Changes.{byte_of, changed_hits, is_changed}
use Rattle.lab_findings.specs.Deeds.{Deeds}

module _ (deeds : Deeds) where
  -- those of a run, and those behind it
  pub changed-run : (count : ℕ) (writer : Option Writer) (rest : List (Option Writer)) (sectors : Sectors)
      → changed_hits deeds (side_by_side count writer ++ rest) sectors
      ≡ map (λ sector. is_changed (byte_of deeds writer) sector) (take count sectors)
      ++ changed_hits deeds rest (drop count sectors)
  changed-run zero writer rest sectors = refl
  changed-run (suc more) None rest [] = sym (none rest) where
    none : (others : List (Option Writer)) → changed_hits deeds others [] ≡ []
    none [] = refl
    none (one ∷ others) = refl
  changed-run (suc more) (Some writer) rest [] = sym (none rest) where
    none : (others : List (Option Writer)) → changed_hits deeds others [] ≡ []
    none [] = refl
    none (one ∷ others) = refl
  changed-run (suc more) None rest (sector ∷ sectors) =
      ap (λ others. is_changed 0 sector ∷ others) (changed-run more None rest sectors)
  changed-run (suc more) (Some writer) rest (sector ∷ sectors) =
      ap (λ others. is_changed (byte_of deeds (Some writer)) sector ∷ others)
      (changed-run more (Some (next writer)) rest sectors)

-- no more than all can be taken
pub take-least : (n : ℕ) (sectors : Sectors) → take (min (length sectors) n) sectors ≡ take n sectors
take-least n sectors =
    ap (λ k. take k sectors) (min_comm (length sectors) n) ∙ take_min n sectors

-- nor left out
pub drop-least : (n : ℕ) (sectors : Sectors) → drop (min (length sectors) n) sectors ≡ drop n sectors
drop-least n sectors =
    ap (λ k. drop k sectors) (min_comm (length sectors) n) ∙ drop_min n sectors
