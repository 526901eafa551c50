-- Pieces and costs see of a table its image alone: the lines with their targets' shapes, which no
-- event changes.
use Rattle.std.proofs.Common.{rules, ◌≡◌, ℕ, zero, suc, ◌+◌, Bool, cond, List, [], ◌∷◌, Option, Err}
use Rattle.std.proofs.Common.{map, slice_get, option_map, unwrap_or, refl, sym, ap, ◌∙◌}
use Rattle.std.specs.Prelude.{◌-◌, true}
use Rattle.std.specs.List.{prefix_len}
use Rattle.std.specs.Option.{option_map_or}
use Rattle.std.proofs.lemmas.List.{length-map}
use Rattle.std.proofs.lemmas.Option.{slice_get-map}
use Rattle.lab_sector.specs.declared.device.DevNo.{DevNo}
use Rattle.lab_sector.specs.declared.request.Kind.{Kind}
use Rattle.lab_sector.specs.declared.span.Span.{Span}
use Rattle.lab_target.specs.declared.fault.TargetFault.TheVariants.{Unknown}
use Rattle.lab_target.specs.declared.verdict.Verdict.TheVariants.{Fail}
use Rattle.lab_target.specs.Meaning.{Meaning, Shape}
use Rattle.lab_model.specs.declared.piece.Piece.{Piece}
use Rattle.lab_model.specs.declared.table_line.TableLine.{TableLine}
use Rattle.lab_model.specs.Cost.{piece_by, table_cost}
use Rattle.lab_model.specs.Lists.{change}
use Rattle.lab_model.specs.MapEffect.{fits_table}
use Rattle.lab_model.specs.Pieces.{line_number, pieces, sector_pieces, with_sector}
use Rattle.lab_model.specs.Tables.{Table, image, line_at, size_of, with_target}
use Rattle.lab_model.proofs.ListLemmas.{sum-total, total}

-- shapes as targets that are nothing but their shape
abbrev pub of_shapes : (S : Type 0) → Meaning (Shape S)
of_shapes S = record {
  parsed = λ words len. Err Unknown;
  shape = λ shape. record {
    reference = shape.reference;
    may_hold = shape.may_hold;
    block = shape.block;
    takes = shape.takes;
    printed = shape.printed;
    opening = shape;
  };
  is_sound = λ shape. true;
  started = λ shape now. shape;
  verdict = λ shape kind piece now. Fail;
  judged = λ shape kind piece now. shape;
  reply = λ shape words. [];
  messaged = λ shape words. shape;
  status = λ shape now held. [];
}

-- how long a front passes sees of the items what the test does
prefix_len-map : {X Y : Type 0} (p : Y → Bool) (f : X → Y) (xs : List X)
    → prefix_len p (map f xs) ≡ prefix_len (λ x. p (f x)) xs
prefix_len-map p f [] = refl
prefix_len-map p f (x ∷ xs) = ap (λ n. cond (p (f x)) (1 + n) 0) (prefix_len-map p f xs)

-- a size is the image's
pub size_of-image : {S : Type 0} (m : Meaning S) (table : Table S) → size_of
    (image m table) ≡ size_of table
size_of-image m [] = refl
size_of-image m (line ∷ table) = ap (λ n. line.len + n) (size_of-image m table)

-- a table's line for a sector is the image's
pub line_at-image : {S : Type 0} (m : Meaning S) (table : Table S) (sector : ℕ)
    → line_at (image m table) sector ≡ line_at table sector
line_at-image m table sector = search (rules, prefix_len-map, length-map)

-- so is the line's number
line_number-image : {S : Type 0} (m : Meaning S) (table : Table S) (sector : ℕ)
    → line_number (image m table) sector ≡ line_number table sector
line_number-image m table sector = ap (λ o. unwrap_or o 0) (line_at-image m table sector)

-- a block by its line is the shape's
block_by-image : {S : Type 0} (m : Meaning S) (sector : ℕ) (line : Option (TableLine S))
    → option_map_or (λ (l : TableLine (Shape S)). l.target.block (sector - l.start))
    (option_map (with_target m.shape) line) 0
    ≡ option_map_or (λ (l : TableLine S). (m.shape l.target).block (sector - l.start)) line 0
block_by-image m sector line = search rules

-- so are the pieces of a run of sectors
sector_pieces-image : {S : Type 0} (m : Meaning S) (table : Table S) (first count : ℕ)
    → sector_pieces (of_shapes S) (image m table) first count ≡ sector_pieces m table first count
sector_pieces-image m table first zero = refl
sector_pieces-image {S} m table first (suc count) =
    ap (with_sector (of_shapes S) (image m table) first)
    (sector_pieces-image m table (first + 1) count)
    ∙ (search (rules, line_number-image, slice_get-map, block_by-image))

-- what a piece costs by its line
module _ {S : Type 0} (m : Meaning S) (costs : DevNo → Kind → Span → ℕ) (kind : Kind) where
  -- by a line and by its shape
  piece_by-image : (piece : Piece) (line : Option (TableLine S))
      → piece_by (of_shapes S) costs kind piece
      (option_map (with_target m.shape) line) ≡ piece_by m costs kind piece line
  piece_by-image piece line = search rules

  -- a piece costs the same by two tables with one image
  pub piece_at-alike : (table other : Table S) → image m table ≡ image m other → (piece : Piece)
      → piece_by m costs kind piece (slice_get table piece.line) ≡ piece_by m costs kind piece
      (slice_get other piece.line)
  piece_at-alike table other alike piece = sym (search (rules, slice_get-map, piece_by-image))
      ∙ ap (λ image. piece_by (of_shapes S) costs kind piece (slice_get image piece.line)) alike
      ∙ (search (rules, slice_get-map, piece_by-image))

  -- what a table costs is the total over its pieces
  pub table_cost-total : (table : Table S) (span : Span) → table_cost m costs kind span table
      ≡ total (λ piece. piece_by m costs kind piece (slice_get table piece.line))
      (pieces m table kind span)
  table_cost-total table span = search (rules, sum-total)

-- two tables with one image have the same pieces, and fit the same spans
pub pieces-alike : {S : Type 0} (m : Meaning S) (table other : Table S)
    → image m table ≡ image m other
    → (kind : Kind) (span : Span) → pieces m table kind span ≡ pieces m other kind span
pieces-alike {S} m table other alike kind span =
    sym (search (rules, sector_pieces-image, length-map)) ∙ ap (λ image. pieces (of_shapes S) image
    kind span) alike
    ∙ (search (rules, sector_pieces-image, length-map))

-- and have the same spans
pub fits-alike : {S : Type 0} (m : Meaning S) (table other : Table S)
    → image m table ≡ image m other
    → (kind : Kind) (span : Span) → fits_table table kind span ≡ fits_table other kind span
fits-alike m table other alike kind span = search (rules, size_of-image)

-- a change of a line that leaves its shape leaves the image
pub image-change : {S : Type 0} (m : Meaning S) (f : TableLine S → TableLine S)
    → ((line : TableLine S) → with_target m.shape (f line) ≡ with_target m.shape line)
    → (table : Table S) (place : ℕ) → image m (change table place f) ≡ image m table
image-change m f same [] place = search rules
image-change m f same (line ∷ table) zero = search rules
image-change m f same (line ∷ table) (suc place) = search (rules, image-change m f same table place)
