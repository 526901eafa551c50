-- What the stretches of a grid say of each sector.
use Rattle.std.proofs.Common.{rules, ◌≡◌, ◌∙◌, ap, sym, ℕ, zero, suc, ◌+◌, ◌-◌, ◌/◌, ◌%◌, ◌<◌, ◌≤◌}
use Rattle.std.proofs.Common.{◌^◌}
use Rattle.std.proofs.Common.{◌&&◌, nat_eq, nat_lt, cond, None, Some, List, [], ◌∷◌, arith, ap₂}
use Rattle.std.proofs.Common.{◌⊎◌, inl, inr, refl}
use Rattle.std.proofs.lemmas.Bool.Decides.{nat_tests}
use Rattle.std.specs.FinMap.{get, get-empty, same_map}
use Rattle.lab_watch.specs.Grids.{Grid, cleared, next, place_cmp, set, spread, writer_at}
use Rattle.lab_watch.specs.Grids.{writer_from, writers_in}
use Rattle.lab_watch.specs.Stretches.{IsRoom, behind, kept, laid, laid_below, place_room}
use Rattle.lab_watch.specs.Stretches.{sector_is_within, sector_place, seen, seen_row}
use Rattle.lab_watch.specs.declared.stretch.Stretch.{Stretch}
use Rattle.lab_next.specs.declared.writer.Writer.{Writer}
use Rattle.lab_watch.proofs.Places.{places_apart, places_total, same_place, writer_at-set}

-- a place is that of a number and a sector below the width
same_place-parts : (place number sector : ℕ)
    → same_place (place / place_room, place % place_room) (number, sector)
    ≡ (nat_lt sector place_room && nat_eq (sector_place number sector) place)
same_place-parts place number sector = grind (arith, nat_tests)

-- behind all stretches nobody wrote anything
seen-behind : (entries : List (ℕ × Stretch)) (place : ℕ) → behind entries ≤ place
    → seen entries place ≡ None
seen-behind [] place past = search rules
seen-behind (entry ∷ entries) place past = grind (arith, nat_tests, seen-behind entries place)

-- a sector that is laid has what its place has
get-laid_below : (entries : List (ℕ × Stretch)) (below number sector : ℕ)
    → get (laid_below entries below) (number, sector)
    ≡ cond (nat_lt sector place_room && nat_lt (sector_place number sector) below)
    (kept entries (sector_place number sector)) None
get-laid_below entries zero number sector =
    grind (arith, nat_tests, get-empty {X = Writer} place_cmp (number, sector))
get-laid_below entries (suc below) number sector =
    writer_at-set (laid_below entries below) (below / place_room) (below % place_room)
    (kept entries below)
    (number, sector)
    ∙ grind (
      arith,
      nat_tests,
      same_place-parts below number sector,
      get-laid_below entries below number sector,
    )

-- a sector has what its place has
pub get-laid : (entries : List (ℕ × Stretch)) (number sector : ℕ)
    → get (laid entries) (number, sector)
    ≡ cond (nat_lt sector place_room) (kept entries (sector_place number sector)) None
get-laid entries number sector = get-laid_below entries (behind entries) number sector
    ∙ grind (arith, nat_tests, seen-behind entries (sector_place number sector))

-- a sector among those over which an operation's are spread has its own, and another what it had
get-spread : (count : ℕ) (grid : Grid) (number first : ℕ) (writer : Writer) (other sector : ℕ)
    → get (spread grid number first count writer) (other, sector)
    ≡ cond (nat_eq number other && sector_is_within first count sector)
    (Some (writer_from writer (sector - first))) (get grid (other, sector))
get-spread zero grid number first writer other sector = grind (arith, nat_tests)
get-spread (suc more) grid number first writer other sector =
    get-spread more (set grid number first (Some writer)) number (first + 1) (next writer) other
    sector
    ∙ grind (arith, nat_tests, writer_at-set grid number first (Some writer) (other, sector))

-- a sector among those that are cleared has nobody's, and another what it had
pub get-cleared : (count : ℕ) (grid : Grid) (number first other sector : ℕ)
    → get (cleared grid number first count) (other, sector)
    ≡ cond (nat_eq number other && sector_is_within first count sector) None
    (get grid (other, sector))
get-cleared zero grid number first other sector = grind (arith, nat_tests)
get-cleared (suc more) grid number first other sector =
    get-cleared more (set grid number first None) number (first + 1) other sector
    ∙ grind (arith, nat_tests, writer_at-set grid number first None (other, sector))

-- a sector that is kept has what its place has
pub writer_at-kept : (entries : List (ℕ × Stretch)) (number sector place : ℕ) → number < 2 ^ 62
    → sector < place_room → place ≡ sector_place number sector
    → seen entries place ≡ writer_at (laid entries) number sector
writer_at-kept entries number sector place low near is =
    grind (arith, nat_tests, get-laid entries number sector)

-- no other has any
pub writer_at-none : (entries : List (ℕ × Stretch)) (number sector : ℕ)
    → (2 ^ 62 ≤ number) ⊎ ((number < 2 ^ 62) × (place_room ≤ sector))
    → None ≡ writer_at (laid entries) number sector
writer_at-none entries number sector (inl high) =
    grind (arith, nat_tests, get-laid entries number sector)
writer_at-none entries number sector (inr far) =
    grind (arith, nat_tests, get-laid entries number sector)

-- stretches that say so at each place have an operation's sectors spread
pub laid-spread : (entries whole : List (ℕ × Stretch)) (number first count : ℕ) (writer : Writer)
    (places : ℕ × ℕ) → IsRoom number first count places
    → ((place : ℕ) → seen whole place
    ≡ cond (sector_is_within places.0 (places.1 - places.0) place)
    (Some (writer_from writer (place - places.0))) (seen entries place))
    → laid whole ≡ spread (laid entries) number first count writer
laid-spread entries whole number first count writer places room seen_is =
    same_map places_total places_apart (laid whole)
    (spread (laid entries) number first count writer)
    (λ q. get-laid whole q.0 q.1
    ∙ grind (
      arith,
      nat_tests,
      seen_is (sector_place q.0 q.1),
      get-laid entries q.0 q.1,
      room.begin,
      room.end,
      room.numbers,
      room.sectors,
    )
    ∙ sym (get-spread count (laid entries) number first writer q.0 q.1))

-- and those that say so have them cleared
pub laid-cleared : (entries whole : List (ℕ × Stretch)) (number first count : ℕ) (places : ℕ × ℕ)
    → IsRoom number first count places
    → ((place : ℕ) → seen whole place
    ≡ cond (sector_is_within places.0 (places.1 - places.0) place) None (seen entries place))
    → laid whole ≡ cleared (laid entries) number first count
laid-cleared entries whole number first count places room seen_is =
    same_map places_total places_apart (laid whole) (cleared (laid entries) number first count)
    (λ q. get-laid whole q.0 q.1
    ∙ grind (
      arith,
      nat_tests,
      seen_is (sector_place q.0 q.1),
      get-laid entries q.0 q.1,
      room.begin,
      room.end,
      room.numbers,
      room.sectors,
    )
    ∙ sym (get-cleared count (laid entries) number first q.0 q.1))

-- a part of what is laid is seen place by place
part-seen : (entries : List (ℕ × Stretch)) (count number first : ℕ) → number < 2 ^ 62
    → first + count ≤ place_room
    → seen_row entries (sector_place number first) count
    ≡ writers_in (laid entries) number first count
part-seen entries zero number first low near = search rules
part-seen entries (suc more) number first low near =
    let next_place : sector_place number first + 1
    ≡ sector_place number (first + 1) = omega arith in
    ap₂ (λ writer row. writer ∷ row)
    (writer_at-kept entries number first (sector_place number first) low (omega arith) refl)
    (ap (λ place. seen_row entries place more) next_place
    ∙ part-seen entries more number (first + 1) low (omega arith))

-- so is the part that has room
pub part-room : (entries : List (ℕ × Stretch)) (number first count : ℕ) (places : ℕ × ℕ)
    → IsRoom number first count places
    → seen_row entries places.0 (places.1 - places.0) ≡ writers_in (laid entries) number first count
part-room entries number first count places room =
    let long : places.1 - places.0 ≡ count = omega (arith, room.end) in
    ap₂ (λ place more. seen_row entries place more) room.begin long
    ∙ part-seen entries count number first room.numbers room.sectors
