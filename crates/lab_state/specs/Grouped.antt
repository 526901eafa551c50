-- The bios to which an event may come, in groups by whom it belongs to (this project's own).
use Rattle.std.specs.Prelude.{◌≡◌, ◌≢◌, ℕ, ◌<◌, ◌≤◌, Bool, true, List, Option, Some, None, length}
use Rattle.std.specs.Ordering.{nat_cmp}
use Rattle.std.specs.FinMap as map
use Rattle.lab_bios.specs.Origin.{log_of}
use Rattle.lab_index.specs.Groups.{Groups, is_in}
use Rattle.lab_model.specs.declared.event.Who.{Who}
use Rattle.lab_model.specs.declared.event.Who.TheVariants.{Log, Control, Timers}
use Rattle.lab_model.specs.Bios.{Bio, Stage, Entering, Held, InFlight}
use Rattle.lab_model.specs.Lists.{numbered}
use Rattle.lab_model.specs.State.{State}
use Rattle.lab_index.specs.Numbers.{Marks}
use Rattle.lab_state.specs.Dependents.{DependentRows, IsListed}
use Rattle.lab_state.specs.Flights.{AreAllCounted}
use Rattle.lab_state.specs.HeldRows.{AreHeldCounted, HeldRows}
use Rattle.lab_state.specs.Index.{IsIndexed, is_marked}
use Rattle.std.specs.Option.{option_flatten}

-- the group of those whose events belong to one: a log's has its number, and the timers' the one
-- above those of 64 logs; 0, in which none is, for the script
abbrev pub group_for : Who → ℕ
group_for (Log log) = log
group_for Control = 0
group_for Timers = 65

-- the group of a bio at a stage, where it comes from this log
abbrev pub staged_group : ℕ → Stage → ℕ
staged_group log Entering = log
staged_group log (Held due holder) = 65
staged_group log (InFlight failed answered) = log

-- the group of a bio that comes from this log, if it lives; 0 where it doesn't
abbrev pub living_group : ℕ → Option Bio → ℕ
living_group log None = 0
living_group log (Some bio) = staged_group log bio.stage

-- the group of the bio of a number; 0 where there is none
abbrev pub group_of : List (Option Bio) → ℕ → ℕ
group_of bios number = living_group (log_of bios number) (option_flatten (numbered bios number))

-- a marked bio is in its group, if that is there
abbrev pub IsInGroup : List (Option Bio) → Marks → Groups → ℕ → Type 0
IsInGroup bios marks groups number = is_marked marks number ≡ true → 0 < group_of bios number
    → group_of bios number < length groups → is_in groups (group_of bios number) number ≡ true

-- each marked bio is
abbrev pub IsGrouped : List (Option Bio) → Marks → Groups → Type 0
IsGrouped bios marks groups = (number : ℕ) → IsInGroup bios marks groups number

-- each but one
abbrev pub IsGroupedBut : List (Option Bio) → Marks → Groups → ℕ → Type 0
IsGroupedBut bios marks groups number =
    (other : ℕ) → other ≢ number → IsInGroup bios marks groups other

-- of no other number it changes in which groups it is, as far as these are still there
pub record KeepsOthers (old new : Groups) (number : ℕ) : Type 0 where
  pub count : length new ≤ length old
  pub others : (group other : ℕ) → other ≢ number → group < length new
      → is_in new group other ≡ is_in old group other

-- what is kept beside the bios: the marks, what waits, the groups, the rows of the devices, and,
-- where they are counted, the counts of those held for each line and of those in flight
pub record IsKept {S : Type 0} (s : State S) (marks : Marks) (groups : Groups)
    (held : map.FinMap nat_cmp ℕ) (rows : DependentRows) (counts : HeldRows)
    (is_counted : Bool) (flights : List ℕ) : Type 0 where
  pub indexed : IsIndexed s marks held
  pub grouped : IsGrouped s.bios marks groups
  pub listed : IsListed s.bios rows
  pub lines : AreHeldCounted s.bios counts
  pub counted : is_counted ≡ true → AreAllCounted s.bios flights
