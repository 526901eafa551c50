-- Where nobody wrote anything.
use Rattle.lab_model.proofs.Common.{◌≡◌, ◌∙◌, ℕ, suc, zero, ◌+◌, Bool, true, false, cond, Option, None}
use Rattle.lab_model.proofs.Common.{refl, ap, sym, get, is_some, same_map}
use Rattle.std.specs.FinMap.{get-empty, get-remove}
use Rattle.lab_next.specs.declared.writer.Writer.{Writer}
use Rattle.lab_watch.proofs.Places.{places_apart, places_total}
use Rattle.std.specs.FinMap as map
use Rattle.lab_watch.specs.Grids.{Grid, empty, place_cmp, set, with_writers_from, writers_in}
use Rattle.lab_findings.specs.Judged.{written_hits}
use Rattle.lab_findings.specs.Wrongs.{wrong_from, wrong_with_first}

-- no sector has a writer
pub none-written : (count number first place : ℕ)
    → None ≡ wrong_from place (written_hits (writers_in empty number first count))
none-written zero number first place = refl
none-written (suc more) number first place = none-written more number (first + 1) (place + 1)
    ∙ ap (λ got. wrong_with_first (is_some got) place
    (wrong_from (place + 1) (written_hits (writers_in empty number (first + 1) more))))
    (sym (get-empty place_cmp (number, first)))

-- so none is found in a grid that is empty
pub none-in : (grid : Grid) (count number first place : ℕ) → grid ≡ empty
    → None ≡ wrong_from place (written_hits (writers_in grid number first count))
none-in grid count number first place is = none-written count number first place
    ∙ ap (λ g. wrong_from place (written_hits (writers_in g number first count))) (sym is)

-- nothing is taken out of nothing
nothing : (b : Bool) (got : Option Writer) → got ≡ None → cond b None got ≡ None
nothing true got is = refl
nothing false got is = is

set-none : (number sector : ℕ) → set empty number sector None ≡ empty
set-none number sector = same_map places_total places_apart (map.remove empty (number, sector)) empty
    (λ place. get-remove places_total empty (number, sector) place
    ∙ nothing _ (get empty place) (get-empty place_cmp place) ∙ sym (get-empty place_cmp place))

-- and none is put into one
put-none : (count number first device at : ℕ)
    → with_writers_from empty device at (writers_in empty number first count) ≡ empty
put-none zero number first device at = refl
put-none (suc more) number first device at =
    ap (λ grid. with_writers_from grid device (at + 1) (writers_in empty number (first + 1) more))
    (ap (set empty device at) (get-empty place_cmp (number, first)) ∙ set-none device at)
    ∙ put-none more number (first + 1) device (at + 1)

-- what an empty grid has is put into another
pub put-nothing : (grid drops : Grid) (count number first device at : ℕ) → grid ≡ empty → drops ≡ empty
    → with_writers_from grid device at (writers_in drops number first count) ≡ grid
put-nothing grid drops count number first device at is none =
    ap (λ g. with_writers_from g device at (writers_in drops number first count)) is
    ∙ ap (λ g. with_writers_from empty device at (writers_in g number first count)) none
    ∙ put-none count number first device at ∙ sym is
