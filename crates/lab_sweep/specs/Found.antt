-- What is noted in the run of one scenario by one seed (this project's own).
use Rattle.std.specs.Prelude.{◌≡◌, ℕ, Bool, true, List, [], ◌∷◌, ◌++◌, length}
use Rattle.lab_target.specs.Meaning.{Meaning}
use Rattle.lab_model.specs.declared.event.Event.{Event}
use Rattle.lab_model.specs.Guard.{is_done}
use Rattle.lab_model.specs.Scenario.{Scenario}
use Rattle.lab_model.specs.State.{State, opening}
use Rattle.lab_core.specs.Runs.{ChoosesFrom}
use Rattle.lab_core.specs.Words.{first_words, seeded}
use Rattle.lab_findings.specs.declared.noted.Noted.{Noted}
use Rattle.lab_findings.specs.declared.sought.Sought.{Sought}
use Rattle.lab_findings.specs.Searched.{FindsIn}
use Rattle.lab_findings.specs.Watched.{unwatched}
use Rattle.lab_sweep.specs.FoundRow.{row_names}
use Rattle.lab_sweep.specs.FoundRows.{found_rows}
use Rattle.lab_sweep.specs.Totals.{totals_of}
use Rattle.lab_sweep.specs.declared.totals.Totals.{Totals}

-- this is noted, of what is sought, in the complete run whose events the seed's words pick, one
-- after another: in a prompt run among those that are not the clock's, where there are others
pub record IsNotedOf {S : Type 0} (m : Meaning S) (c : Scenario S) (prompt : Bool) (seed : ℕ)
    (sought : Sought) (noted : List Noted) : Type 0 where
  pub events : List Event
  pub end : State S
  pub picks : ChoosesFrom m c prompt (opening c) (first_words (seeded seed) (length events)) events
      end
  pub done : is_done c end ≡ true
  pub finds : FindsIn m c (opening c) (unwatched sought) events noted

-- the text tells what is sought and found in a run by a seed that had these events, under the names
-- of the columns, and the totals count it
pub record TellsRun {S : Type 0} (m : Meaning S) (c : Scenario S) (seed : ℕ) (sought : Sought)
    (events : List Event) (text : List ℕ) (totals : Totals) : Type 0 where
  pub noted : List Noted
  pub finds : FindsIn m c (opening c) (unwatched sought) events noted
  pub told : text ≡ row_names ++ found_rows c seed noted
  pub counted : totals ≡ totals_of (noted ∷ [])
