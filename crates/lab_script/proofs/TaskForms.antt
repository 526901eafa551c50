-- What holds of each form of a command holds of each command that words make. What holds of each
-- form of a command holds of each row of a script.
use Rattle.lab_model.proofs.Common.{rules, ◌≡◌, ℕ, ◌≤◌, Bool, cond, List, [], ◌∷◌, Option}
use Rattle.lab_model.proofs.Common.{IfSome, number_of-within, zero, suc, Some, Result, Ok, Err}
use Rattle.lab_model.proofs.Common.{slice_get, subst, All, IfOk, cond_both, All-append, All-head}
use Rattle.lab_model.proofs.Common.{All-map, All-tail, result_unwrap_or}
use Rattle.std.specs.Option.{ok_or, option_and_then, option_map}
use Rattle.lab_script.specs.Task.{DeviceTask, Task, bare_task, max_sleep, message_task}
use Rattle.lab_script.specs.Task.{one_word_task, task_of_words, two_words_task}
use Rattle.lab_text.specs.Rows.{all_rows, with_first}
use Rattle.lab_text.specs.Words.{words_of}
use Rattle.lab_script.specs.declared.command.ScriptFault.{ScriptFault}
use Rattle.lab_script.specs.Script.{ScriptRow, declares, later_row, line_row, rows_of}
use Rattle.lab_script.specs.Task as tasks
use Rattle.lab_script.specs.declared.command.ScriptFault.TheVariants as faults

-- a fact of each command
pub record EachForm (P : Task → Type 0) : Type 0 where
  pub ram : (number sectors : ℕ) → P (tasks.ram number sectors)
  pub create : (name : List ℕ) (chosen : Option (List ℕ)) → P (tasks.create name chosen)
  pub on : (name : List ℕ) (task : DeviceTask) → P (tasks.on name task)
  pub sleep : (time : ℕ) → time ≤ max_sleep → P (tasks.sleep time)
  pub replay : P tasks.replay
  pub wait : P tasks.wait

module _ (P : Task → Type 0) where
  -- what two options in a row give
  and_then-has : {X : Type 0} (f : X → Option Task) (o : Option X) → ((x : X) → IfSome (f x) P)
      → IfSome (option_and_then f o) P
  and_then-has f o each = search rules

  -- what is made of an option
  map-has : {X : Type 0} (f : X → Task) (o : Option X) → ((x : X) → P (f x))
      → IfSome (option_map f o) P
  map-has f o each = search rules

  -- either of two
  cond-has : (b : Bool) (first second : Option Task) → IfSome first P → IfSome second P
      → IfSome (cond b first second) P
  cond-has b first second one two = search rules

  -- a sleep of a word
  sleep-has : ((time : ℕ) → time ≤ max_sleep → P (tasks.sleep time)) → (o : Option ℕ)
      → IfSome o (λ n. n ≤ max_sleep) → IfSome (option_map tasks.sleep o) P
  sleep-has each o within = search rules

  module _ (each : EachForm P) where
    -- a line of one word
    bare-has : (verb : List ℕ) → IfSome (bare_task verb) P
    bare-has verb = search (cond-has, each.replay, each.wait)

    -- a line of two words
    one-has : (verb word : List ℕ) → IfSome (one_word_task verb word) P
    one-has verb word =
        search (cond-has, map-has, sleep-has, number_of-within, each.sleep, each.on)

    -- a line of three words
    two-has : (verb first second : List ℕ) → IfSome (two_words_task verb first second) P
    two-has verb first second =
        search (cond-has, and_then-has, each.ram, each.create, each.on) depth 9

    -- a message
    message-has : (verb name place : List ℕ) (words : List (List ℕ))
        → IfSome (message_task verb name place words) P
    message-has verb name place words = search (cond-has, map-has, each.on)

    -- what a line's words ask for
    pub words-have : (words : List (List ℕ)) → IfSome (task_of_words words) P
    words-have [] = tt
    words-have (verb ∷ []) = bare-has verb
    words-have (verb ∷ (word ∷ [])) = one-has verb word
    words-have (verb ∷ (first ∷ (second ∷ []))) = two-has verb first second
    words-have (verb ∷ (name ∷ (place ∷ (text ∷ [])))) = message-has verb name place (text ∷ [])
    words-have (verb ∷ (name ∷ (place ∷ (text ∷ (more ∷ []))))) =
        message-has verb name place (text ∷ more ∷ [])
    words-have _ = tt

-- each of some rows has it
abbrev pub AllHave : (Task → Type 0) → List ScriptRow → Type 0
AllHave P [] = Unit {0}
AllHave P (row ∷ rows) = P row.task × AllHave P rows

-- so the row of a place has it
pub all-each : (P : Task → Type 0) (rows : List ScriptRow) → AllHave P rows → (place : ℕ) (row : ScriptRow)
    → slice_get rows place ≡ Some row → P row.task
all-each P [] all place row is = absurd (cc)
all-each P (first ∷ rows) all zero row is = subst (λ o. IfSome o (λ r. P r.task)) is all.0
all-each P (first ∷ rows) all (suc place) row is = all-each P rows all.1 place row is

module _ (P : Task → Type 0) (each : EachForm P) where
  -- a row that is read, if one is
  abbrev Has : Result ScriptRow ScriptFault → Type 0
  Has read = IfOk read (λ row. P row.task)

  -- no row is kept of a script with a fault
  abbrev kept : Result (List ScriptRow) ScriptFault → List ScriptRow
  kept read = result_unwrap_or read []

  -- a row before others
  first-have : (row : ScriptRow) (others : Result (List ScriptRow) ScriptFault) → P row.task
      → AllHave P (kept others) → AllHave P (kept (with_first row others))
  first-have row others has all = search rules

  -- all rows of what is read
  all-have : (reads : List (Result ScriptRow ScriptFault)) → All Has reads
      → AllHave P (kept (all_rows reads))
  all-have [] has = tt
  all-have (Ok row ∷ others) has = first-have row (all_rows others)
      (All-head Has (Ok row) others has) (all-have others (All-tail Has (Ok row) others has))
  all-have (Err fault ∷ others) has = tt

  -- a task that a line asks for
  row-has : (n : ℕ) (o : Option Task) → IfSome o P
      → Has (ok_or (option_map (λ task. record { number = n; task = task }) o) (faults.BadLine n))
  row-has n o has = search rules

  -- a line
  line-has : (line : ℕ × List ℕ) → Has (line_row line)
  line-has (n, line) = search (rules, row-has, words-have)

  -- a line behind the disks
  later-has : (line : ℕ × List ℕ) → Has (later_row line)
  later-has (n, line) = cond_both (declares (words_of line)) (Err (faults.BadLine n))
      (line_row (n, line)) Has (λ declared. tt) (λ other. line-has (n, line))

  -- so each row of a script's lines
  pub rows-have : (lines : List (ℕ × List ℕ)) → AllHave P (result_unwrap_or (rows_of lines) [])
  rows-have lines = search (rules, all-have, All-append, All-map, line-has, later-has)
