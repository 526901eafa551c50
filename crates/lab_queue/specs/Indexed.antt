-- How a queue's rows of ranked numbers go with what it holds (this project's own).
use Rattle.std.specs.Prelude.{◌≡◌, ℕ, ◌≤◌, ◌↔◌, List, Option, Some, Contains}
use Rattle.std.specs.Ordering.{nat_cmp}
use Rattle.std.specs.FinMap as map
use Rattle.lab_queue.specs.declared.queue.Held.{Held}
use Rattle.lab_queue.specs.declared.ranking.Ranked.{Ranked}
use Rattle.lab_queue.specs.Queue.{due_of, holder_of}
use Rattle.lab_queue.specs.Ranking.{RankedRow}

-- the row ranks just the numbers that have a rank
abbrev pub IsIndex : List Ranked → (ℕ → Option ℕ) → Type 0
IsIndex row rank_of = (x : Ranked) → Contains row x ↔ (rank_of x.id ≡ Some x.rank)

-- both rows rank what is held, and all have the room
pub record IsIndexed (held : map.FinMap nat_cmp Held) (room spare : ℕ)
    (by_moment by_device : RankedRow) : Type 0 where
  pub moments : IsIndex by_moment.row (due_of held)
  pub devices : IsIndex by_device.row (holder_of held)
  pub room_held : spare ≤ room
  pub room_moments : spare ≤ by_moment.spare
  pub room_devices : spare ≤ by_device.spare
