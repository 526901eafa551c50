-- The group that a bio is in tells whom the event belongs to that may come to it.
use Rattle.lab_model.proofs.Common.{rules, ◌≡◌, ℕ, ◌<◌, ◌≤◌, Bool, false, IfNone, IfSome, Option}
use Rattle.lab_model.proofs.Common.{None, length, State}
use Rattle.lab_model.specs.declared.event.Who.{Who}
use Rattle.std.specs.Bool.{then_some}
use Rattle.lab_index.specs.Groups.{Groups, IsNext, is_in}
use Rattle.lab_index.specs.Numbers.{Marks}
use Rattle.lab_state.specs.Grouped.{IsGrouped, group_for}
use Rattle.lab_state.specs.Index.{IsMarked}
use Rattle.lab_state.proofs.OwnBios.{IsOthers}
use Rattle.lab_state.proofs.Ready.{past-none}

module _ {S : Type 0} {s : State S} {marks : Marks} (groups : Groups) (who : Who)
    (marked : IsMarked s marks) (grouped : IsGrouped s.bios marks groups)
    (there : (0 < group_for who) × (group_for who < length groups)) where
  -- where none of a group is left, all numbers have others' events
  pub elses-none : (from : ℕ) (next : Option ℕ) → next ≡ None
      → IfNone next ((number : ℕ) → from ≤ number → is_in groups (group_for who) number ≡ false)
      → (other : ℕ) → from ≤ other → IsOthers s who other
  elses-none from next is none other ahead = search rules

  -- and so have those before the next one
  pub elses-before : (from number : ℕ) → IsNext groups (group_for who) from number
      → (other : ℕ) → from ≤ other → other < number → IsOthers s who other
  elses-before from number next other ahead before = search rules

  -- and where the next one is that of no bio, so have all
  pub elses-past : (from number : ℕ) → IsNext groups (group_for who) from number
      → length s.bios < number → (other : ℕ) → from ≤ other → IsOthers s who other
  elses-past from number next past other ahead = search (rules, past-none)

-- what holds of a number holds of it where it is there
pub if-some : (there : Bool) (number : ℕ) (P : ℕ → Type 0) → P number
    → IfSome (then_some there number) P
if-some there number P holds = search rules

-- and what holds where it isn't there holds of none
pub if-none : (there : Bool) (number : ℕ) (P : Type 0) → (there ≡ false → P)
    → IfNone (then_some there number) P
if-none there number P holds = search rules
