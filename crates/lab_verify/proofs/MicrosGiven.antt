-- The micro-commands that a walk through a script gives, line by line.
use Rattle.lab_model.proofs.Common.{◌≡◌, ◌∙◌, ℕ, zero, suc, ◌+◌, List, [], ◌∷◌, ◌++◌, Some, add-one}
use Rattle.lab_model.proofs.Common.{ap, append_assoc, length, slice_get, sym, take, take-length}
use Rattle.lab_model.proofs.Common.{append-nil, none-some, same_Some, Meaning}
use Rattle.lab_model.specs.declared.micro.Micro.{Micro}
use Rattle.lab_script.specs.Script.{ScriptRow}
use Rattle.lab_script.specs.Steps.{on_line}
use Rattle.lab_script.specs.Walk.{steps_of}
use Rattle.lab_rulebook.specs.Accepted.{standing_before}
use Rattle.lab_rulebook.specs.Parts.{Parts}
use Rattle.lab_rulebook.specs.Standing.{Standing as Stands, nothing, walk_of}
use Rattle.lab_rulebook.specs.Walked.{rest_micros, standing_next}
use Rattle.lab_rulebook.proofs.ClearLemmas.{standing_from}

module _ {S : Type 0} (m : Meaning S) (parts : Parts S) where
  -- the micro-commands of a row where this stands
  abbrev pub given_by : Stands S → ScriptRow → List Micro
  given_by s row = on_line row.number (steps_of (walk_of s) row.task)

  -- one row more gives its micro-commands behind those of the rows before it
  micros-taken : (s : Stands S) (rows : List ScriptRow) (place : ℕ) (row : ScriptRow)
      → slice_get rows place ≡ Some row → rest_micros m parts s (take (suc place) rows)
      ≡ rest_micros m parts s (take place rows)
      ++ given_by (standing_from m parts s (take place rows)) row
  micros-taken s [] place row is = absurd (none-some row is)
  micros-taken s (first ∷ rows) zero row is =
      append-nil (given_by s first) ∙ ap (given_by s) (same_Some first row is)
  micros-taken s (first ∷ rows) (suc place) row is = ap (λ micros. given_by s first ++ micros)
      (micros-taken (standing_next m parts s first.task) rows place row is)
      ∙ sym (append_assoc (given_by s first) _ _)

  -- those of the script's rows before a place
  abbrev pub micros_before : ℕ → List Micro
  micros_before place = rest_micros m parts nothing (take place parts.script)

  -- with one line more
  pub micros-more : (s : Stands S) (place : ℕ) (row : ScriptRow) (first old new : List Micro)
      → slice_get parts.script place ≡ Some row → s ≡ standing_before m parts place
      → new ≡ old ++ given_by s row → old ≡ first ++ micros_before place
      → new ≡ first ++ micros_before (place + 1)
  micros-more s place row first old new at stands added before =
      added ∙ ap (λ micros. micros ++ given_by s row) before
      ∙ append_assoc first (micros_before place) (given_by s row)
      ∙ ap (λ (z : Stands S). first ++ (micros_before place ++ given_by z row)) stands
      ∙ ap (λ micros. first ++ micros) (sym (micros-taken nothing parts.script place row at))
      ∙ ap (λ n. first ++ micros_before n) (sym (add-one place))

  -- those of all lines are the script's
  pub micros-all : micros_before (length parts.script) ≡ rest_micros m parts nothing parts.script
  micros-all = ap (rest_micros m parts nothing) (take-length parts.script)
