-- What waits for a moment alone: a map from number to due moment (this project's own).
use Rattle.std.specs.Prelude.{◌≡◌, ℕ, ◌≤◌, List, Some, refl}
use Rattle.std.specs.Prelude.{map as each}
use Rattle.std.specs.Ordering.{nat_cmp}
use Rattle.std.specs.FinMap as map
use Rattle.std.specs.Coded.{Coded, code_by, coded×, coded_ℕ}
use Rattle.lab_queue.specs.declared.moments.Due.{Due}
use Rattle.lab_queue.specs.declared.ranking.Ranked.{Ranked}
use Rattle.lab_queue.specs.Indexed.{IsIndex}
use Rattle.lab_queue.specs.Ranking.{RankedRow}

-- the moment at which each number is due, in microseconds, and how many more numbers have room
pub record Moments : Type 0 where
  pub due : map.FinMap nat_cmp ℕ
  pub spare : ℕ

-- what waits is stored as the pair of the map and the room
abbrev pub moments_code : Coded Moments
moments_code = code_by (map.FinMap nat_cmp ℕ × ℕ) (coded× (map.code coded_ℕ coded_ℕ) coded_ℕ)
    (λ w. (w.due, w.spare)) (λ p. record { due = p.0; spare = p.1 }) (λ _. refl)

-- the ranks of a row's numbers, as their moments
abbrev pub moments_in : List Ranked → map.FinMap nat_cmp ℕ
moments_in row = map.from_entries (each (λ x. (x.id, x.rank)) row)

-- each number stands in the row once, and the row has the room
pub record IsMoments (spare : ℕ) (by_moment : RankedRow) : Type 0 where
  pub moments : IsIndex by_moment.row (map.get (moments_in by_moment.row))
  pub room : spare ≤ by_moment.spare

-- the least due moment of all that is held
pub record IsFirstMoment (due : map.FinMap nat_cmp ℕ) (moment : ℕ) : Type 0 where
  pub held : (number : ℕ) × (map.get due number ≡ Some moment)
  pub least : (number other : ℕ) → map.get due number ≡ Some other → moment ≤ other

-- the number with the least moment, and then the least number, of those due by now
pub record IsFirstBy (due : map.FinMap nat_cmp ℕ) (now : ℕ) (first : Due) : Type 0 where
  pub held : map.get due first.number ≡ Some first.moment
  pub upto : first.moment ≤ now
  pub least : (number moment : ℕ) → map.get due number ≡ Some moment → moment ≤ now
      → (first.moment ≤ moment) × (first.moment ≡ moment → first.number ≤ number)
