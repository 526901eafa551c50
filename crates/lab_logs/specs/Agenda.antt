-- When each log of a run is due: its moment with its number (this project's own).
use Rattle.std.specs.Prelude.{◌≢◌, ℕ, ◌<◌, ◌≤◌, List, ◌∷◌, length, map, slice_index_or}
use Rattle.std.specs.List.{enumerate_from}
use Rattle.std.specs.List.Sorted.{IsNonDecreasingBy, IsPermutation}
use Rattle.lab_model.specs.State.{LogState}
use Rattle.lab_logs.specs.declared.agenda.Due.{Due}

-- a log is due at its moment
abbrev pub due_of : ℕ → LogState → Due
due_of number log = record { moment = log.moment; log = number }

-- when each log is due, where the first has this number
abbrev pub dues_from : ℕ → List LogState → List Due
dues_from first logs = map (λ entry. due_of entry.0 entry.1) (enumerate_from first logs)

-- when each log is due; logs are numbered from 1
abbrev pub dues : List LogState → List Due
dues logs = dues_from 1 logs

-- a log is due at this moment in place of its own
abbrev pub due_at : ℕ → Due → Due
due_at moment due = record due { moment = moment }

-- none is due later than one that follows it
abbrev pub IsInOrder : List Due → Type 0
IsInOrder row = IsNonDecreasingBy (λ due. due.moment) row

-- none but the one at this place is due later than one that follows it
abbrev pub IsInOrderBut : List Due → ℕ → Type 0
IsInOrderBut row place = (i j : ℕ) (d : Due) → i ≤ j → j < length row → i ≢ place
    → (slice_index_or row i d).moment ≤ (slice_index_or row j d).moment

-- a row in which another entry stands in place of one, in any order
abbrev pub HasInPlaceOf : List Due → Due → Due → List Due → Type 0
HasInPlaceOf old due other new = (rest : List Due) → IsPermutation (due ∷ rest) old
    → IsPermutation (other ∷ rest) new
