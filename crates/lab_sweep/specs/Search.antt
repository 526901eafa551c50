-- What a search tells of the runs of one scenario by many seeds: what is sought and found (this
-- project's own).
use Rattle.std.specs.Prelude.{◌≡◌, ℕ, ◌+◌, ◌-◌, Bool, true, false, List, [], ◌∷◌, ◌++◌, length}
use Rattle.lab_target.specs.Meaning.{Meaning}
use Rattle.lab_model.specs.Scenario.{Scenario}
use Rattle.lab_findings.specs.declared.noted.Noted.{Noted}
use Rattle.lab_findings.specs.declared.sought.Sought.{Sought}
use Rattle.lab_sweep.specs.ByLine.{IsByLine, count_runs}
use Rattle.lab_sweep.specs.Found.{IsNotedOf}
use Rattle.lab_sweep.specs.FoundRow.{row_names}
use Rattle.lab_sweep.specs.FoundRows.{found_rows}
use Rattle.lab_sweep.specs.Totals.{totals_of}
use Rattle.lab_sweep.specs.declared.totals.Totals.{Totals}

-- this is noted in the runs by this seed and the ones after it, one after another
abbrev pub NotedFrom : {S : Type 0} → Meaning S → Scenario S → Bool → Sought → ℕ
    → List (List Noted) → Type 0
NotedFrom m c prompt sought seed [] = Unit {0}
NotedFrom m c prompt sought seed (noted ∷ runs) =
    IsNotedOf m c prompt seed sought noted × NotedFrom m c prompt sought (seed + 1) runs

-- the rows of what was noted in the runs by this seed and the ones after it
abbrev pub all_found_rows : {S : Type 0} → Scenario S → ℕ → List (List Noted) → List ℕ
all_found_rows c seed [] = []
all_found_rows c seed (noted ∷ runs) = found_rows c seed noted ++ all_found_rows c (seed + 1) runs

-- the text tells of what was noted in the runs by this seed and the ones after it: by line how many
-- seeds have it, or a row for each finding
abbrev pub TellsRuns : {S : Type 0} → Scenario S → ℕ → Bool → List (List Noted) → List ℕ → Type 0
TellsRuns c first true runs text = IsByLine c (length runs) (count_runs [] first runs) text
TellsRuns c first false runs text = text ≡ row_names ++ all_found_rows c first runs

-- the text tells what is sought and found in the run of each seed from the first to the last, none
-- where the last comes before the first, and the totals count it
pub record IsSearch {S : Type 0} (m : Meaning S) (c : Scenario S) (prompt : Bool)
    (first last : ℕ) (sought : Sought) (by_line : Bool) (text : List ℕ) (totals : Totals)
    : Type 0 where
  pub runs : List (List Noted)
  pub all : length runs ≡ last + 1 - first
  pub each : NotedFrom m c prompt sought first runs
  pub told : TellsRuns c first by_line runs text
  pub counted : totals ≡ totals_of runs
