-- Who wrote what, as it is kept: by stretches of sectors (this project's own).
use Rattle.std.specs.Prelude.{ℕ, suc, zero, ◌+◌, ◌-◌, ◌*◌, ◌/◌, ◌%◌, ◌^◌, ◌≡◌, ◌<◌, ◌≤◌, List, []}
use Rattle.std.specs.Prelude.{◌∷◌, Option, Some, None}
use Rattle.std.specs.Prelude.{Bool, cond, min, nat_eq, nat_le, nat_lt, ◌&&◌}
use Rattle.lab_watch.specs.Grids.{Grid, empty, set}
use Rattle.lab_watch.specs.declared.stretch.Stretch.{Stretch}
use Rattle.lab_next.specs.declared.writer.Writer.{Writer}

-- a sector of a disk or of a bio as one number, its place: each has room for so many
abbrev pub place_room : ℕ
place_room = 2 ^ 65

-- the place of a sector
abbrev pub sector_place : ℕ → ℕ → ℕ
sector_place number sector = number * place_room + sector

-- who wrote what stands so far in front of a stretch's end
abbrev pub back_from : Stretch → ℕ → Option Writer
back_from stretch back = cond (nat_le back stretch.count && nat_le back stretch.end)
    (Some (record { origin = stretch.origin; sector = stretch.end - back })) None

-- who wrote what stands at a place, where this stretch, with its end, is the first that ends
-- behind it
abbrev pub at : ℕ × Stretch → ℕ → Option Writer
at entry place = back_from entry.1 (entry.0 - place)

-- who wrote what stands at a place: the first stretch that ends behind it says so
abbrev pub seen : List (ℕ × Stretch) → ℕ → Option Writer
seen [] place = None
seen (entry ∷ entries) place =
    cond (nat_lt place entry.0) (at entry place) (seen entries place)

-- who wrote what stands at a place, of those that are kept
abbrev pub kept : List (ℕ × Stretch) → ℕ → Option Writer
kept entries place = cond (nat_lt place (2 ^ 127)) (seen entries place) None

-- who wrote what stands at the places below one
abbrev pub laid_below : List (ℕ × Stretch) → ℕ → Grid
laid_below entries zero = empty
laid_below entries (suc place) =
    set (laid_below entries place) (place / place_room) (place % place_room) (kept entries place)

-- a place behind all stretches
abbrev pub behind : List (ℕ × Stretch) → ℕ
behind [] = 0
behind (entry ∷ entries) = entry.0 + behind entries

-- who wrote what stands where, by the stretches
abbrev pub laid : List (ℕ × Stretch) → Grid
laid entries = laid_below entries (behind entries)

-- the first entry with its end at a place or behind it
abbrev pub first_from : List (ℕ × Stretch) → ℕ → Option (ℕ × Stretch)
first_from [] place = None
first_from (entry ∷ entries) place =
    cond (nat_le place entry.0) (Some entry) (first_from entries place)

-- what is left of a stretch without so many sectors at its end, if anything
abbrev pub without_last : Stretch → ℕ → Option Stretch
without_last stretch count = cond (nat_lt count stretch.count)
    (Some (record {
      count = stretch.count - count;
      origin = stretch.origin;
      end = stretch.end - count;
    }))
    None

-- what reaches over a place, as far as it lies in front of it
abbrev pub in_front : Option (ℕ × Stretch) → ℕ → Option Stretch
in_front None place = None
in_front (Some entry) place =
    cond (nat_eq entry.0 place) None (without_last entry.1 (entry.0 - place))

-- with an entry in front, if there is one
abbrev pub with_entry : Option Stretch → ℕ → List (ℕ × Stretch) → List (ℕ × Stretch)
with_entry None place entries = entries
with_entry (Some stretch) place entries = (place, stretch) ∷ entries

-- what reaches over a place ends there too
abbrev pub cut : List (ℕ × Stretch) → ℕ → List (ℕ × Stretch)
cut [] place = []
cut (entry ∷ entries) place = cond (nat_lt entry.0 place) (entry ∷ cut entries place)
    (with_entry (in_front (Some entry) place) place (entry ∷ entries))

-- nothing ends at or behind the first place and in front of the other
abbrev pub taken : List (ℕ × Stretch) → ℕ → ℕ → List (ℕ × Stretch)
taken [] first last = []
taken (entry ∷ entries) first last = cond (nat_le first entry.0 && nat_lt entry.0 last)
    (taken entries first last) (entry ∷ taken entries first last)

-- so many sectors of a stretch at most, those at its end
abbrev pub shortened : Stretch → ℕ → Stretch
shortened stretch count = record stretch { count = min count stretch.count }

-- of what reaches over a place only what lies behind it is kept
abbrev pub trimmed : List (ℕ × Stretch) → ℕ → List (ℕ × Stretch)
trimmed [] place = []
trimmed (entry ∷ entries) place = cond (nat_lt entry.0 place) (entry ∷ trimmed entries place)
    ((entry.0, shortened entry.1 (entry.0 - place)) ∷ entries)

-- who wrote what stands at so many places from the first on, in order
abbrev pub seen_row : List (ℕ × Stretch) → ℕ → ℕ → List (Option Writer)
seen_row entries place zero = []
seen_row entries place (suc more) = seen entries place ∷ seen_row entries (place + 1) more

-- the same, where the entry is the first that ends behind them
abbrev pub at_row : ℕ × Stretch → ℕ → ℕ → List (Option Writer)
at_row entry place zero = []
at_row entry place (suc more) = at entry place ∷ at_row entry (place + 1) more

-- whether a sector is one of so many from the first on
abbrev pub sector_is_within : ℕ → ℕ → ℕ → Bool
sector_is_within first count sector = nat_le first sector && nat_lt sector (first + count)

-- the place of the first of so many sectors, and the one behind the last
pub record IsRoom (number first count : ℕ) (places : ℕ × ℕ) : Type 0 where
  pub begin : places.0 ≡ sector_place number first
  pub end : places.1 ≡ places.0 + count
  pub numbers : number < 2 ^ 62
  pub sectors : first + count ≤ place_room
