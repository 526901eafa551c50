-- Numbers in the order of a rank, and then in their own (this project's own).
use Rattle.std.specs.Prelude.{◌≡◌, ℕ, ◌-◌, ◌<◌, ◌≤◌, List, length, slice_index_or, map}
use Rattle.std.specs.Prelude.{take_while, ◌==◌, Bool, nat_lt, nat_eq, ◌||◌, ◌&&◌, get_or}
use Rattle.std.specs.Prelude.{Contains, All, ◌^◌}
use Rattle.lab_queue.specs.declared.ranking.Ranked.{Ranked}

-- a row of ranked numbers, and how many more have room
pub record RankedRow : Type 0 where
  pub row : List Ranked
  pub spare : ℕ

-- a stands before b: by the rank, and by the number where the ranks are equal
abbrev pub Before : Ranked → Ranked → Type 0
Before a b = (a.rank ≤ b.rank) × (a.rank ≡ b.rank → a.id < b.id)

-- a is b or stands before it
abbrev pub NotAfter : Ranked → Ranked → Type 0
NotAfter a b = (a.rank ≤ b.rank) × (a.rank ≡ b.rank → a.id ≤ b.id)

-- each stands before those that follow it
abbrev pub IsRanked : List Ranked → Type 0
IsRanked row = (i j : ℕ) (d : Ranked) → i < j → j < length row
    → Before (slice_index_or row i d) (slice_index_or row j d)

-- a row in order, with ranks of 64 bits
pub record IsRow (row : List Ranked) : Type 0 where
  pub ranked : IsRanked row
  pub fits : All (λ x. x.rank < 2 ^ 64) row

-- so many of the row stand before the bound, and the rest don't
pub record IsPlace (row : List Ranked) (bound : Ranked) (place : ℕ) : Type 0 where
  pub within : place ≤ length row
  pub front : (k : ℕ) (d : Ranked) → k < place → Before (slice_index_or row k d) bound
  pub rest : (k : ℕ) (d : Ranked) → place ≤ k → k < length row → NotAfter bound
      (slice_index_or row k d)

-- the first of the row that doesn't stand before the bound
pub record IsFirstFrom (row : List Ranked) (bound x : Ranked) : Type 0 where
  pub contains : Contains row x
  pub from : NotAfter bound x
  pub least : (y : Ranked) → Contains row y → NotAfter bound y → NotAfter x y

-- whether an element stands before the bound
abbrev pub is_before : Ranked → Ranked → Bool
is_before bound x = nat_lt x.rank bound.rank || (nat_eq x.rank bound.rank && nat_lt x.id bound.id)

-- whether a row's last element stands before the bound
abbrev pub ends_before : Ranked → List Ranked → Bool
ends_before bound row = is_before bound (get_or row (length row - 1) bound)

-- the numbers with the rank, which stand together
abbrev pub ids_in_front : List Ranked → ℕ → List ℕ
ids_in_front row rank = map (λ x. x.id) (take_while (λ x. x.rank == rank) row)
