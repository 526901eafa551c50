-- How often bios are answered in a run (this project's own).
use Rattle.std.specs.Prelude.{◌≡◌, ℕ, ◌<◌, ◌≤◌, ◌==◌, Bool, false, List, None, IsSome, length}
use Rattle.std.specs.List.{count_by}
use Rattle.lab_target.specs.Meaning.{Meaning}
use Rattle.lab_model.specs.declared.event.Event.{Event}
use Rattle.lab_model.specs.declared.event.Event.TheVariants.{Serve, Finish}
use Rattle.lab_model.specs.Effect.{IsRun, IsComplete}
use Rattle.lab_model.specs.Scenario.{Scenario}
use Rattle.lab_model.specs.State.{State, bio_of}

-- whether an event answers the bio of this number: a disk serves it, or it is finished
abbrev pub is_answer_to : ℕ → Event → Bool
is_answer_to number (Serve bio) = bio == number
is_answer_to number (Finish bio) = bio == number
is_answer_to number _ = false

-- how many of some events answer the bio of this number
abbrev pub times_answered : List Event → ℕ → ℕ
times_answered events number = count_by (is_answer_to number) events

-- where a run has come to a state, no bio has more than one answer: a living one has none, a dead
-- one has one, and a number that no bio has had yet has none
pub record AnsweredSo {S : Type 0} (s : State S) (events : List Event) (number : ℕ) : Type 0 where
  pub most : times_answered events number ≤ 1
  pub living : IsSome (bio_of s number) → times_answered events number ≡ 0
  pub dead : 0 < number → number ≤ length s.bios → bio_of s number ≡ None
      → times_answered events number ≡ 1
  pub unmade : length s.bios < number → times_answered events number ≡ 0

-- in any run each bio is answered so
abbrev pub AnsweredOnce : {S : Type 0} → Meaning S → Type 0
AnsweredOnce {S} m = (c : Scenario S) (events : List Event) (s : State S) → IsRun m c events s
    → (number : ℕ) → AnsweredSo s events number

-- in a run after which all is done each bio that was made is answered exactly once
abbrev pub AnsweredWhenDone : {S : Type 0} → Meaning S → Type 0
AnsweredWhenDone {S} m = (c : Scenario S) (events : List Event) (s : State S)
    → IsComplete m c events s → (number : ℕ) → 0 < number → number ≤ length s.bios
    → times_answered events number ≡ 1
