-- Tables before their device words are bound to devices (this project's own).
use Rattle.std.specs.Prelude.{◌≡◌, ◌≢◌, ℕ, List, [], ◌∷◌, Option, Some, None, Result, Ok, Err}
use Rattle.std.specs.Global.{Vec}
use Rattle.std.specs.Result.{result_map_both}
use Rattle.lab_sector.specs.declared.device.DevNo.{DevNo}
use Rattle.lab_text.specs.Rows.{with_first, with_front}
use Rattle.lab_target.specs.declared.fault.TargetFault.TheVariants.{NoMemory}
use Rattle.lab_target.specs.Meaning.{Meaning}
use Rattle.lab_target.specs.Reading.{draft_of, resolved}
use Rattle.lab_model.specs.declared.table_line.TableLine.{TableLine}
use Rattle.lab_model.specs.Tables.{Table}
use Rattle.lab_table.specs.declared.fault.TableFault.{TableFault}
use Rattle.lab_table.specs.declared.fault.Why.{Why}
use Rattle.lab_table.specs.declared.fault.Why.TheVariants as why
use Rattle.lab_table.specs.declared.unbound.UnboundLine.{UnboundLine}
use Rattle.lab_table.specs.TableText.{some_line, table_of}

-- a line under some names, where binding puts devices in their places
abbrev pub line_under : {S : Type 0} → (S → List DevNo → S) → (List ℕ → Option DevNo)
    → UnboundLine S → Result (TableLine S) Why
line_under bound found line =
    result_map_both (λ target. record { start = line.start; len = line.len; target = target })
    why.Target (resolved found (Ok (draft_of bound line.target)))

-- lines under some names, with those that come after them
abbrev pub lines_under : {S : Type 0} → (S → List DevNo → S) → (List ℕ → Option DevNo)
    → List (UnboundLine S) → Result (Table S) TableFault → Result (Table S) TableFault
lines_under bound found [] others = others
lines_under bound found (line ∷ lines) others =
    elim (line_under bound found line) [
      | Ok l ↦ with_first l (lines_under bound found lines others)
      | Err fault ↦ Err (record { line = line.number; why = fault })
    ]

-- lines that are bound stand before whatever comes after them, or the first that can't be has the
-- fault, unless memory runs out
abbrev pub AreBound : {S : Type 0} → (S → List DevNo → S) → (List ℕ → Option DevNo)
    → List (UnboundLine S) → Result (Vec (TableLine S)) TableFault → Type 0
AreBound {S} bound found lines (Ok front) = (others : Result (Table S) TableFault)
    → lines_under bound found lines others ≡ with_front front.items others
AreBound {S} bound found lines (Err fault) = fault.why ≢ why.Target NoMemory
    → (others : Result (Table S) TableFault) → lines_under bound found lines others ≡ Err fault

-- a line's reading finds the line that it is under any names, or the line's own fault, unless memory
-- runs out
abbrev pub IsLineFound : {S : Type 0} → (S → List DevNo → S)
    → ((List ℕ → Option DevNo) → Result (TableLine S) Why) → Result (UnboundLine S) Why → Type 0
IsLineFound bound wanted (Ok line) =
    (found : List ℕ → Option DevNo) → wanted found ≡ line_under bound found line
IsLineFound bound wanted (Err fault) = fault ≢ why.Target NoMemory
    → (found : List ℕ → Option DevNo) → wanted found ≡ Err fault

-- what comes after lines that were read: nothing, or a fault, unless memory runs out
abbrev pub EndsSo : {S : Type 0} → Option TableFault → Result (Table S) TableFault → Type 0
EndsSo None others = others ≡ Ok []
EndsSo (Some fault) others = fault.why ≢ why.Target NoMemory → others ≡ Err fault

-- under some names the lines are the first of a text, and end so
pub record AreFirst {S : Type 0} (m : Meaning S) (bound : S → List DevNo → S) (text : List ℕ)
    (lines : List (UnboundLine S)) (fault : Option TableFault) (found : List ℕ → Option DevNo)
    : Type 0 where
  pub others : Result (Table S) TableFault
  pub is : table_of m found text ≡ some_line (lines_under bound found lines others)
  pub ends : EndsSo fault others

-- the lines are those of a text up to its first fault, whatever names stand
abbrev pub AreLinesOf : {S : Type 0} → Meaning S → (S → List DevNo → S) → List ℕ
    → List (UnboundLine S) → Option TableFault → Type 0
AreLinesOf m bound text lines fault =
    (found : List ℕ → Option DevNo) → AreFirst m bound text lines fault found

-- the lines are those of a text, whatever names stand
abbrev pub AreOfText : {S : Type 0} → Meaning S → (S → List DevNo → S) → List ℕ
    → List (UnboundLine S) → Type 0
AreOfText m bound text lines = (found : List ℕ → Option DevNo)
    → table_of m found text ≡ some_line (lines_under bound found lines (Ok []))
