-- Tables of one image keep to the same. Names: the word, and what is the same.
use Rattle.lab_model.proofs.Common.{rules, ◌≡◌, ℕ, zero, suc, ◌+◌, ◌<◌, List, [], ◌∷◌, length, map}
use Rattle.lab_model.proofs.Common.{refl, ap, ◌∙◌, All, slice_set, get_or, length-map, All-nil}
use Rattle.lab_model.proofs.Common.{All-cons, All-head, All-tail, change, Table, HasNoGap}
use Rattle.lab_model.proofs.Common.{change-set as change-of, sym, image, with_target, Lawful}
use Rattle.lab_model.proofs.Common.{Meaning, Shape}
use Rattle.lab_model.specs.declared.table_line.TableLine.{TableLine}
use Rattle.lab_table.specs.IsTable.{IsLine, IsTable}

module _ {S : Type 0} (m : Meaning S) where
  -- a line as no event changes it
  abbrev shaped : TableLine S → TableLine (Shape S)
  shaped line = with_target m.shape line

  -- lines of one image start and end at the same sectors
  pub HasNoGap-same : (s : ℕ) (lines others : Table S) → image m others ≡ image m lines
      → HasNoGap s lines → HasNoGap s others
  HasNoGap-same s [] [] same gap = tt
  HasNoGap-same s (line ∷ lines) (other ∷ others) same gap =
      let first : shaped other ≡ shaped line = cc in
      let start : other.start ≡ line.start = ap (λ l. l.start) first in
      let len : other.len ≡ line.len = ap (λ l. l.len) first in
      let more : image m others ≡ image m lines = cc in
      (start ∙ gap.0, rw len gap.1, rw len (HasNoGap-same (s + line.len) lines others more gap.2))
  HasNoGap-same s _ _ same gap = absurd (cc)

module _ {S : Type 0} (m : Meaning S) (lawful : Lawful m) where
  -- the same of all lines
  All-same-image : (lines others : Table S) → image m others ≡ image m lines
      → All (IsLine m) lines → All (IsLine m) others
  All-same-image [] [] same each = All-nil (IsLine m)
  All-same-image (line ∷ lines) (other ∷ others) same each =
      let first : shaped m other ≡ shaped m line = cc in
      let more : image m others ≡ image m lines = cc in
      All-cons (IsLine m) other others
      (search (rules, first, All-head (IsLine m) line lines each))
      (All-same-image lines others more (All-tail (IsLine m) line lines each))
  All-same-image _ _ same each = absurd (cc)

  -- lines of one image with a table are one
  pub IsTable-same : (lines others : Table S) → image m others ≡ image m lines
      → IsTable m lines → IsTable m others
  IsTable-same lines others same is = search (rules, HasNoGap-same, All-same-image, length-map)

-- an f that leaves shapes alone leaves a table's image alone
pub image-map : {S : Type 0} (m : Meaning S) (f : S → S) → ((t : S) → m.shape (f t) ≡ m.shape t)
    → (lines : Table S) → image m (map (with_target f) lines) ≡ image m lines
image-map m f same [] = refl
image-map m f same (line ∷ lines) = rw (same line.target, image-map m f same lines)

-- the same of one line
pub image-change : {S : Type 0} (m : Meaning S) (f : S → S)
    → ((t : S) → m.shape (f t) ≡ m.shape t) → (lines : Table S) (at : ℕ)
    → image m (change lines at (with_target f)) ≡ image m lines
image-change m f same [] at = refl
image-change m f same (line ∷ lines) zero = rw (same line.target) refl
image-change m f same (line ∷ lines) (suc at) = rw (image-change m f same lines at)

-- a change of an item that is there sets it
pub change-set : {X : Type 0} (f : X → X) (xs : List X) (at : ℕ) (x : X) → at < length xs
    → x ≡ get_or xs at x → slice_set xs at (f x) ≡ change xs at f
change-set f xs at x within is = sym (change-of xs at f x is)
