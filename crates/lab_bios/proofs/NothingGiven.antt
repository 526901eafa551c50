-- What a bio records of a piece that gave nothing: it stays as it was, and so do all bios.
use Rattle.lab_model.proofs.Common.{rules, ◌≡◌, ℕ, Bool, false, List, Option, length}
use Rattle.lab_model.proofs.Common.{option_map, nil_from_length, recorded, Bio}
use Rattle.lab_model.proofs.Common.{change_numbered, Sectors, marked}
use Rattle.lab_model.specs.declared.piece.Piece.{Piece}
use Rattle.std.proofs.lemmas.List.{take-append-drop}
use Rattle.lab_bios.specs.Recording.{told}
use Rattle.lab_bios.proofs.Numbers.{changed-alone}
use Rattle.lab_bios.proofs.MarkLemmas.{length_marked, marked-none}

-- where a piece that didn't fail left no sectors, the bios are those after its parent recorded it
pub bios-none : (bios : List (Option Bio)) (n : ℕ) (child : Bio) (piece : Piece) (failed : Bool)
    (given left : Sectors) → failed ≡ false → length left ≡ 0 → left ≡ marked child.marks given
    → bios ≡ change_numbered bios n (option_map (recorded child piece (told failed given)))
bios-none bios n child piece failed given left fine none is =
    search (rules, nil_from_length, length_marked, changed-alone, marked-none, take-append-drop)
