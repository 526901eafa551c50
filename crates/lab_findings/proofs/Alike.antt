-- What is asked alike of all sectors of a run.
use Rattle.lab_model.proofs.Common.{◌≡◌, ◌∙◌, ℕ, suc, zero, ◌+◌, ◌==◌, ◌&&◌, List, ◌∷◌, ◌++◌, Option}
use Rattle.lab_model.proofs.Common.{None, Some, false, refl, sym, ap, ap₂, arith, add-zero}
use Rattle.lab_model.proofs.Common.{map-append, map, not}
use Rattle.std.specs.Prelude.{replicate}
use Rattle.std.proofs.Math.Dec.{eqb-suc-suc}
use Rattle.lab_next.specs.declared.writer.Writer.{Writer}
use Rattle.lab_watch.specs.Grids.{next, side_by_side}
use Rattle.lab_findings.specs.declared.deed.Deed.{Deed}
use Rattle.lab_findings.specs.Deeds.{Deeds, deed_of}
use Rattle.lab_findings.specs.Judged.{is_elsewhere, is_misplaced, misplaced_hits}

module _ {A : Type 0} (asked : Option Writer → A)
    (same : (writer : Writer) → asked (Some (next writer)) ≡ asked (Some writer)) where
  -- all sectors of a run have the same answer
  pub map-side : (count : ℕ) (writer : Option Writer)
      → map asked (side_by_side count writer) ≡ replicate count (asked writer)
  map-side zero writer = refl
  map-side (suc more) None = ap (λ others. asked None ∷ others) (map-side more None)
  map-side (suc more) (Some writer) = ap (λ others. asked (Some writer) ∷ others)
      (map-side more (Some (next writer)) ∙ ap (replicate more) (same writer))

  -- and those behind the run have theirs
  pub map-run : (count : ℕ) (writer : Option Writer) (rest : List (Option Writer))
      → map asked (side_by_side count writer ++ rest)
      ≡ replicate count (asked writer) ++ map asked rest
  map-run count writer rest = map-append asked (side_by_side count writer) rest
      ∙ ap (λ here. here ++ map asked rest) (map-side count writer)

module _ (deeds : Deeds) (device : ℕ) where
  -- the next sector of an operation stands elsewhere than at the next place where this one does
  elsewhere-next : (first sector : ℕ) (deed : Option Deed)
      → is_elsewhere device (first + 1) (sector + 1) deed ≡ is_elsewhere device first sector deed
  elsewhere-next first sector None = refl
  elsewhere-next first sector (Some deed) =
      ap (λ same. (deed.device == device) && not same)
      (ap₂ (λ a b. a == b) (one-more deed.first sector) (more first)
      ∙ eqb-suc-suc (deed.first + sector) first) where
        one-more : (a b : ℕ) → a + (b + 1) ≡ suc (a + b)
        one-more a b = omega arith

        more : (a : ℕ) → a + 1 ≡ suc a
        more a = omega arith

  -- the sectors of a run are misplaced where the first of them is
  pub misplaced-run : (first count : ℕ) (writer : Option Writer) (rest : List (Option Writer))
      → misplaced_hits deeds device first (side_by_side count writer ++ rest)
      ≡ replicate count (is_misplaced deeds device first writer)
      ++ misplaced_hits deeds device (first + count) rest
  misplaced-run first zero writer rest =
      ap (λ n. misplaced_hits deeds device n rest) (sym (add-zero first))
  misplaced-run first (suc more) None rest =
      ap (λ others. false ∷ others) (misplaced-run (first + 1) more None rest
      ∙ ap (λ n. replicate more false ++ misplaced_hits deeds device n rest) (behind first more))
    where
      behind : (n more : ℕ) → n + 1 + more ≡ n + suc more
      behind n more = omega arith
  misplaced-run first (suc more) (Some writer) rest =
      let hit = is_misplaced deeds device first (Some writer) in
      ap (λ others. hit ∷ others) (misplaced-run (first + 1) more (Some (next writer)) rest
      ∙ ap₂ (λ b n. replicate more b ++ misplaced_hits deeds device n rest)
      (elsewhere-next first writer.sector (deed_of deeds writer.origin)) (behind first more)) where
        behind : (n more : ℕ) → n + 1 + more ≡ n + suc more
        behind n more = omega arith
