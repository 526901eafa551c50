-- Texts that are read in turn: the first fault among them, and that all were read. What the readers
-- found, put together.
use Rattle.lab_model.proofs.Common.{rules, ◌≡◌, ◌∙◌, ℕ, zero, suc, ◌+◌, ◌<◌, ◌≤◌, List, [], ◌∷◌}
use Rattle.lab_model.proofs.Common.{◌++◌, Option, Some, None, Result, All, get_or, map, length}
use Rattle.lab_model.proofs.Common.{take, slice_get, ap, refl, subst, arith, IsOk, map-append}
use Rattle.lab_model.proofs.Common.{take_all, map-map, All-map, All-push, none-some, same_Some}
use Rattle.lab_model.proofs.Common.{slice_get-get_or, take-more, Ok, part_of, result_unwrap_or}
use Rattle.lab_model.proofs.Common.{length-map, Meaning}
use Rattle.lab_text.specs.declared.bundle.Part.{Part}
use Rattle.lab_model.specs.Rules.{FaultSeen}
use Rattle.lab_refusal.specs.Faults.{TellsOf}
use Rattle.lab_refusal.specs.declared.fault.Refusal.{Refusal}
use Rattle.lab_verify.specs.ReadFaults.{fault_found, first_fault}
use Rattle.lab_text.specs.declared.bundle.Bundle.{Bundle}
use Rattle.lab_iolog.specs.Log.{log_of_lines}
use Rattle.lab_script.specs.declared.command.Script.{Script}
use Rattle.lab_script.specs.Script.{script_of, script_rows}
use Rattle.lab_rulebook.specs.Limits.{WithinLimits}
use Rattle.lab_table.specs.TableText.{each_known}
use Rattle.lab_rulebook.specs.PartsOf.{IsReadable, log_part as text_log, parts_of_texts}
use Rattle.lab_rulebook.specs.PartsOf.{table_of_lines, table_part, texts_of}
use Rattle.lab_standing.specs.Image.{text_of}
use Rattle.lab_standing.specs.declared.named.NamedTable.{NamedTable}
use Rattle.lab_model.specs.declared.phase.Phase.TheVariants.{Before}
use Rattle.lab_verify.specs.declared.parts.NamedLog.{NamedLog}
use Rattle.lab_verify.specs.Counted.{counted_parts}
use Rattle.lab_verify.specs.NamedLogs.{named_log_part}
use Rattle.lab_verify.specs.Steps.{HasReadParts}

-- what was read has no fault
pub found-none : {X E : Type 0} (told : E → Option FaultSeen) (r : Result X E) → IsOk r
    → fault_found told r ≡ None
found-none told r ok = search rules

-- each but one
pub all-later : {X : Type 0} (P : X → Type 0) (x : X) (xs : List X) → All P (x ∷ xs) → All P xs
all-later P x xs all = λ k d within. all (suc k) d (omega (arith, within))

-- the first fault is that of a text behind some that have none
pub first-found : {X Y : Type 0} (f : Y → Option FaultSeen) (g : X → Y) (xs : List X) (place : ℕ)
    (x : X) (fault : FaultSeen) → All (λ y. f (g y) ≡ None) (take place xs)
    → slice_get xs place ≡ Some x → f (g x) ≡ Some fault
    → first_fault (map f (map g xs)) ≡ Some fault
first-found f g [] place x fault none at is = absurd (none-some x at)
first-found f g (y ∷ xs) zero x fault none at is =
    let same : f (g y) ≡ Some fault = ap (λ z. f (g z)) (same_Some y x at) ∙ is in
    rw same refl
first-found f g (y ∷ xs) (suc place) x fault none at is =
    let here : f (g y) ≡ None = none zero y (omega arith) in
    rw here (first-found f g xs place x fault
    (all-later (λ z. f (g z) ≡ None) y (take place xs) none) at is)

-- a refusal that tells a fault tells what is the same
pub tells-same : (one other : Option FaultSeen)
    → ((fault : FaultSeen) → one ≡ Some fault → other ≡ Some fault)
    → (refusal : Refusal) → TellsOf one refusal → TellsOf other refusal
tells-same one other same refusal tells = search rules

-- one text more is read
pub read-more : {X : Type 0} (P : X → Type 0) (xs : List X) (place : ℕ) (x : X)
    → slice_get xs place ≡ Some x → All P (take place xs) → P x → All P (take (place + 1) xs)
read-more P xs place x at all this =
    rw (take-more xs place x at) (All-push P (take place xs) x all this)

-- and what it gives is one more
pub given-more : {X Y Z : Type 0} (f : X → Z) (g : Y → Z) (xs : List X) (place : ℕ) (x : X)
    (ys : List Y) (y : Y) → slice_get xs place ≡ Some x → map f (take place xs) ≡ map g ys
    → f x ≡ g y → map f (take (place + 1) xs) ≡ map g (ys ++ y ∷ [])
given-more f g xs place x ys y at same this = simp (take-more xs place x at, map-append, same, this)

-- all are read at the end
pub read-all : {X Y : Type 0} (P : Y → Type 0) (g : X → Y) (xs : List X) (end : ℕ)
    → length xs ≤ end → All (λ x. P (g x)) (take end xs) → All P (map g xs)
read-all P g xs end enough all =
    All-map P g xs (subst (λ ys. All (λ x. P (g x)) ys) (take_all end xs enough) all)

-- and all is given
pub given-all : {X Y Z W : Type 0} (f : Y → Z) (g : X → Y) (h : W → Z) (xs : List X) (end : ℕ)
    (ws : List W) → length xs ≤ end → map (λ x. f (g x)) (take end xs) ≡ map h ws
    → map f (map g xs) ≡ map h ws
given-all f g h xs end ws enough same = map-map f g xs ∙ rw (take_all end xs enough) at same

module _ {X Y T E : Type 0} (told : Y → E → Option FaultSeen) (r : Y → Result T E) (g : X → Y) where
  -- what is wrong with a text
  abbrev pub found_in : Y → Option FaultSeen
  found_in y = fault_found (told y) (r y)

  -- texts that are read have no fault
  pub all-none : (xs : List X) → All (λ x. IsOk (r (g x))) xs → All (λ x. found_in (g x) ≡ None) xs
  all-none xs all = search rules

  -- a refusal that tells the fault of a text behind some that are read tells the first fault
  pub first-told : (xs : List X) (place : ℕ) (x : X) → slice_get xs place ≡ Some x
      → All (λ x. IsOk (r (g x))) (take place xs) → (refusal : Refusal)
      → TellsOf (found_in (g x)) refusal → TellsOf (first_fault (map found_in (map g xs))) refusal
  first-told xs place x at all = search (rules, tells-same, first-found, all-none)

-- an item of a list, by a slice of the same items
pub item-there : {X : Type 0} (xs items : List X) (place : ℕ) (blank : X) → items ≡ xs
    → place < length items → slice_get xs place ≡ Some (get_or items place blank)
item-there xs items place blank same within = search (rules, slice_get-get_or)

-- a part with nothing in it
abbrev pub blank : Part
blank = record {
  name = record { ref_ptr = (0, 0); now = [] };
  text = record { ref_ptr = (0, 0); now = [] };
}

-- the first of some faults is the first of more
pub first-front : (faults more : List (Option FaultSeen)) (fault : FaultSeen)
    → first_fault faults ≡ Some fault → first_fault (faults ++ more) ≡ Some fault
first-front [] more fault is = absurd (none-some fault is)
first-front (found ∷ faults) more fault is = search (rules, first-front faults more)

-- behind texts with none
pub first-behind : {X : Type 0} (f : X → Option FaultSeen) (xs : List X)
    (more : List (Option FaultSeen)) → All (λ x. f x ≡ None) xs
    → first_fault (map f xs ++ more) ≡ first_fault more
first-behind f [] more none = refl
first-behind f (x ∷ xs) more none =
    let here : f x ≡ None = none 0 x (omega arith) in
    rw here (first-behind f xs more (all-later (λ y. f y ≡ None) x xs none))

module _ {S : Type 0} (m : Meaning S) (bundle : Bundle) where
  -- the tables can be read
  abbrev pub TablesAreRead : Type 0
  TablesAreRead = All (λ text. IsOk (table_of_lines m each_known text.1))
      (map part_of bundle.tables.items)

  module _ (script : Script)
      (is_script : script_of bundle.script.now ≡ Ok (script_rows script.lines.items)) where
    -- the script's rows are those of its text
    pub same-rows : (parts_of_texts m (texts_of bundle)).script ≡ script_rows script.lines.items
    same-rows = ap (λ r. result_unwrap_or r []) is_script

    -- all texts can be read
    pub are-readable : TablesAreRead
        → All (λ text. IsOk (log_of_lines text.1)) (map part_of bundle.logs.items)
        → IsReadable m (texts_of bundle)
    are-readable tables logs = search rules

    -- so the limits are the same
    fits : WithinLimits (counted_parts bundle script)
        → WithinLimits (parts_of_texts m (texts_of bundle))
    fits = search (rules, same-rows, length-map)

  -- what the readers found is within the limits, and the parts are those that are handed on
  pub record AreJudged (script : Script) (logs : List NamedLog) (tables : List (NamedTable S))
      : Type 0 where
    pub readable : IsReadable m (texts_of bundle)
    pub rows : (parts_of_texts m (texts_of bundle)).script ≡ script_rows script.lines.items
    pub within : WithinLimits (parts_of_texts m (texts_of bundle))
    pub parts : HasReadParts m (parts_of_texts m (texts_of bundle)) tables logs Before

  -- put together
  pub are-judged : (script : Script) (logs : List NamedLog) → TablesAreRead
      → script_of bundle.script.now ≡ Ok (script_rows script.lines.items)
      → map text_log (map part_of bundle.logs.items) ≡ map named_log_part logs
      → All (λ text. IsOk (log_of_lines text.1)) (map part_of bundle.logs.items)
      → WithinLimits (counted_parts bundle script)
      → (named : List (NamedTable S)) → map part_of bundle.tables.items ≡ map text_of named
      → AreJudged script logs named
  are-judged script logs tables is_script is_logs readable within named same = record {
    readable = are-readable script is_script tables readable;
    rows = same-rows script is_script;
    within = fits script is_script within;
    parts = record {
      tables = ap (map (table_part m)) same ∙ map-map (table_part m) text_of named;
      logs = λ start. is_logs;
    };
  }
