-- An event that may come to a bio looks at whether the device runs that the bio depends on, whether
-- the moment has come until which it is held, and whether it has a child: where two states are
-- alike in that, the same may come.
use Rattle.lab_model.proofs.Common.{rules, ◌≡◌, ℕ, Some, DevNo, Bio, Stage, due_of, has_child}
use Rattle.lab_model.proofs.Common.{has_come, slot_at, slot_runs, State, bio_of}
use Rattle.lab_state.specs.Dependents.{depends_on}
use Rattle.lab_state.specs.Index.{goes}
use Rattle.lab_state.specs.Places.{bio_event}

-- two states are alike in what the event of a bio of this device and at this stage looks at
pub record LooksAlike {S : Type 0} (s t : State S) (number : ℕ) (device : DevNo) (stage : Stage)
    : Type 0 where
  pub runs : (at : ℕ) → depends_on device stage ≡ Some at
      → slot_runs (slot_at t.devices at) ≡ slot_runs (slot_at s.devices at)
  pub come : (due : ℕ) → due_of stage ≡ Some due → has_come t due ≡ has_come s due
  pub child : has_child t number ≡ has_child s number

-- then the same event may come to it
pub event-alike : {S : Type 0} (s t : State S) (number : ℕ) (device : DevNo) (stage : Stage)
    → LooksAlike s t number device stage
    → bio_event t number device stage ≡ bio_event s number device stage
event-alike s t number device stage alike = search rules

-- so a bio may go on in both or in none
pub goes-alike : {S : Type 0} (s t : State S) (number : ℕ) → bio_of t number ≡ bio_of s number
    → ((bio : Bio) → bio_of s number ≡ Some bio → LooksAlike s t number bio.device bio.stage)
    → goes t number ≡ goes s number
goes-alike s t number same looks = search rules
