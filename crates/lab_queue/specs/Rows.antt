-- A list in rows of a bounded length, with rows that lie ready (this project's own).
use Rattle.std.specs.Prelude.{◌≡◌, ℕ, ◌+◌, ◌<◌, ◌≤◌, ◌⊎◌, List, [], All, length}
use Rattle.std.specs.Prelude.{take, drop, get_or, set}
use Rattle.std.specs.List.{flat_map, insert}
use Rattle.lab_queue.specs.declared.ranking.Ranked.{Ranked}
use Rattle.lab_queue.specs.declared.rows.Spot.{Spot}
use Rattle.lab_queue.specs.Ranking.{Before, IsRanked, NotAfter}

-- the rows, and for how many more entries there is room for certain: each takes at most one row
-- that lies ready
pub record ManyRows : Type 0 where
  pub rows : List (List Ranked)
  pub spare : ℕ

-- the rows joined in order
abbrev pub flat : List (List Ranked) → List Ranked
flat rows = flat_map (λ r. r) rows

-- how many entries stand before a row
abbrev pub start : List (List Ranked) → ℕ → ℕ
start rows row = length (flat (take row rows))

-- a row has an entry, and is at most full
abbrev pub IsFilled : List Ranked → Type 0
IsFilled row = (0 < length row) × (length row ≤ 128)

-- what rows in use, rows that lie ready and the room in their lists promise
pub record IsStocked (rows spares : List (List Ranked)) (reach reach_spares : ℕ)
    : Type 0 where
  pub filled : All IsFilled rows
  pub empty : All (λ r. r ≡ []) spares
  pub rows_fit : length rows + length spares ≤ reach
  pub spares_fit : length rows + length spares ≤ reach_spares

-- the spot of an entry, or the one behind the last row
abbrev pub IsSpot : List (List Ranked) → Spot → Type 0
IsSpot rows spot = ((spot.row < length rows) × (spot.place < length (get_or rows spot.row [])))
    ⊎ ((spot.row ≡ length rows) × (spot.place ≡ 0))

-- the spot of an entry, or the end of a row
abbrev pub IsWithin : List (List Ranked) → Spot → Type 0
IsWithin rows spot = (spot.row < length rows) × (spot.place ≤ length (get_or rows spot.row []))

-- the rows with one of them split in two
abbrev pub split_at_half : List (List Ranked) → ℕ → List (List Ranked)
split_at_half rows at = let row = get_or rows at [] in
    insert (set rows at (take 64 row)) (at + 1) (drop 64 row)

-- all in front of the row stand before the bound, and its last entry and all behind don't
pub record IsRowFor (rows : List (List Ranked)) (bound : Ranked) (row : ℕ) : Type 0 where
  pub within : row ≤ length rows
  pub front : (k : ℕ) (d : Ranked) → k < start rows row → Before (get_or (flat rows) k d) bound
  pub rest : (k : ℕ) (d : Ranked) → row < length rows → start rows (row + 1) ≤ k + 1
      → k < length (flat rows) → NotAfter bound (get_or (flat rows) k d)

-- what the rows from a place on promise a walk: they are in order, and none has a lower rank
pub record IsAhead (rows : List (List Ranked)) (i rank : ℕ) : Type 0 where
  pub ranked : IsRanked (flat (drop i rows))
  pub above : All (λ x. rank ≤ x.rank) (flat (drop i rows))
