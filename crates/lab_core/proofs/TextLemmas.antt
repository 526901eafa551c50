-- Texts that are written one after another, and the pairs of two lists from a place on.
use Rattle.lab_model.proofs.Common.{rules, ◌≡◌, ℕ, ◌+◌, ◌<◌, List, ◌∷◌, ◌++◌, get_or, drop, length}
use Rattle.lab_model.proofs.Common.{append_assoc, arith, flat_map, zip, drop_more, length-zip}
use Rattle.std.proofs.lemmas.Slice.Zip.{get_or-zip}

-- after a text another was written, so both were
pub and-then : (start x y one two : List ℕ) → one ≡ start ++ x → two ≡ one ++ y
    → two ≡ start ++ (x ++ y)
and-then start x y one two first second = search (rules, append_assoc)

-- the pair at a place comes before those behind it
pub zip-at : {X Y : Type 0} (xs : List X) (ys : List Y) (place : ℕ) (x : X) (y : Y)
    → place < length xs → place < length ys → x ≡ get_or xs place x → y ≡ get_or ys place y
    → drop place (zip xs ys) ≡ (x, y) ∷ drop (place + 1) (zip xs ys)
zip-at xs ys place x y in_xs in_ys x-is y-is =
    rw (
      drop_more (zip xs ys) place (x, y) (omega (arith, length-zip xs ys)),
      get_or-zip xs ys place (x, y) in_xs in_ys,
      ← x-is,
      ← y-is,
    )

-- what is written of one pair more, and the pairs that are left, make the whole text
pub pair-written : {X Y : Type 0} (f : X × Y → List ℕ) (xs : List X) (ys : List Y) (place : ℕ)
    (x : X) (y : Y) (one two whole : List ℕ)
    → drop place (zip xs ys) ≡ (x, y) ∷ drop (place + 1) (zip xs ys)
    → one ++ flat_map f (drop place (zip xs ys)) ≡ whole → two ≡ one ++ f (x, y)
    → two ++ flat_map f (drop (place + 1) (zip xs ys)) ≡ whole
pair-written f xs ys place x y one two whole at before written = search (rules, append_assoc)
