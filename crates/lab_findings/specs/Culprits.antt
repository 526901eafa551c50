-- Which line of a table did something to a sector of an operation (this project's own).
use Rattle.std.specs.Prelude.{ℕ, List, Option, refl}
use Rattle.std.specs.Coded.{Coded, code_by, coded×, coded_list, coded_ℕ}
use Rattle.std.specs.FinMap as map
use Rattle.std.specs.HashMap.{HashMap}
use Rattle.lab_watch.specs.Grids.{place_cmp}
use Rattle.lab_findings.specs.declared.culprit.Culprit.{Culprit}

-- by the number of an operation's bio and a sector, counted from the operation's first
abbrev pub Culprits : Type 0
Culprits = map.FinMap place_cmp Culprit

-- a culprit is stored as the triple of its fields
abbrev pub culprit_code : Coded Culprit
culprit_code = code_by (ℕ × (ℕ × List ℕ)) (coded× coded_ℕ (coded× coded_ℕ (coded_list coded_ℕ)))
    (λ culprit. (culprit.device, (culprit.line, culprit.target)))
    (λ three. record { device = three.0; line = three.1.0; target = three.1.1 }) (λ _. refl)

-- by each number and sector
abbrev pub culprits_code : Coded Culprits
culprits_code = map.code (coded× coded_ℕ coded_ℕ) culprit_code

-- no line did anything
abbrev pub no_culprits : Culprits
no_culprits = map.empty

-- the line that did something to a sector
abbrev pub culprit_at : Culprits → ℕ → ℕ → Option Culprit
culprit_at culprits number sector = map.get culprits (number, sector)

-- a line did something to a sector
abbrev pub with_culprit : Culprits → ℕ → ℕ → Culprit → Culprits
with_culprit culprits number sector culprit = map.insert culprits (number, sector) culprit

-- what a map by number and sector has
abbrev pub culprits_in : {H : Type 0} → HashMap (ℕ × ℕ) Culprit H → Culprits
culprits_in held = map.from_entries held.entries
