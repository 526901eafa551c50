-- The two walks are alike before each command, so both give its micro-commands.
use Rattle.lab_model.proofs.Common.{◌≡◌, ℕ, suc, [], ◌∷◌, ◌++◌, List, Option, Some, None, fold}
use Rattle.lab_model.proofs.Common.{length, map, refl, sym, ap, ap₂, ◌∙◌, subst, slice_get, take}
use Rattle.lab_model.proofs.Common.{IsSome, inr, option_map, length_push, map-append, Meaning}
use Rattle.lab_model.proofs.Common.{image}
use Rattle.lab_model.proofs.Common.{map-change}
use Rattle.lab_script.specs.Alike.{Any, Both, WalksAlike}
use Rattle.lab_script.specs.Script.{ScriptRow}
use Rattle.lab_script.specs.Steps.{on_line}
use Rattle.lab_script.specs.Task.{Task, create, load, ram, replay, wait, table_asked, on}
use Rattle.lab_script.specs.Walk.{Walk, counted, loads_after, start, version_for}
use Rattle.lab_script.proofs.AlikeLemmas.{steps-same, walks-after}
use Rattle.lab_rulebook.specs.Accepted.{standing_before}
use Rattle.lab_rulebook.specs.Parts.{Parts}
use Rattle.lab_rulebook.specs.Standing.{Standing, nothing, table_meant, table_named, walk_of}
use Rattle.lab_rulebook.specs.Standing.{with_version}
use Rattle.lab_rulebook.specs.Walked.{rest_micros, standing_next}
use Rattle.law_headline.specs.CompiledIsWalked.{AcceptedIsCompiled, KnownIsCompiled}
use Rattle.lab_script.specs.Walk as compiled
use Rattle.lab_model.specs.declared.rule.Rule.TheVariants as told

module _ {L K : Type 0} (f : L → K) where
  -- one table more is counted as one more
  count-seen : (own : List L) (chosen : Option L)
      → length (with_version own chosen) ≡ counted (length own) (option_map f chosen)
  count-seen own None = refl
  count-seen own (Some held) = length_push own held

  -- the counts of what was loaded are walked as what was loaded
  loads-seen : (versions : List (List L)) (found : Option ℕ) (task : Task) (chosen : Option L)
      → map length (loads_after with_version [] versions found task chosen)
      ≡ loads_after counted 0 (map length versions) found task (option_map f chosen)
  loads-seen versions found (create name table) chosen =
      map-append length versions _ ∙ ap (λ n. map length versions ++ n ∷ []) (count-seen [] chosen)
  loads-seen versions None (on name (load table)) chosen = refl
  loads-seen versions (Some place) (on name (load table)) chosen = map-change length
      (λ own. with_version own chosen) (λ n. counted n (option_map f chosen)) versions place
      (λ own is. count-seen own chosen)
  loads-seen versions found _ chosen = refl

  -- a table that is there is alike to its number
  is-numbered : (o : Option L) (number : ℕ) → IsSome o → Both Any (option_map f o) (Some number)
  is-numbered None number there = cc
  is-numbered (Some x) number there = tt

-- what isn't missing is there
is-there : {L : Type 0} (o : Option L) → (o ≡ None → ⊥) → IsSome o
is-there None there = absurd (there refl)
is-there (Some x) there = refl

module _ {S : Type 0} (m : Meaning S) (parts : Parts S) where
  -- what stands after a command is what the walk knows after it
  walk-after : (s : Standing S) (task : Task) → walk_of (standing_next m parts s task)
      ≡ compiled.after (walk_of s) task (option_map (image m) (table_meant parts s task))
  walk-after s (ram number size) = refl
  walk-after s replay = refl
  walk-after s wait = refl
  walk-after s task = λ i. record (walk_of (standing_next m parts s task)) {
    loads = loads-seen (image m) s.versions (compiled.found_by s.device_of task) task
        (table_meant parts s task) i;
  }

  -- a command's table is alike to its number, where it is known
  tables-alike : (s : Standing S) (w : Walk ℕ) (task : Task)
      → ((name : List ℕ) → table_asked task ≡ Some name → IsSome (table_named parts s name))
      → Both Any (option_map (image m) (table_meant parts s task)) (version_for w task)
  tables-alike s w (create name (Some table)) knows =
      is-numbered (image m) (table_named parts s table) 0 (knows table refl)
  tables-alike s w (on name (load table)) knows =
      is-numbered (image m) (table_named parts s table) _ (knows table refl)
  tables-alike s w (create name None) knows = tt
  tables-alike s w _ knows = tt

  -- the micro-commands of the rest of a script
  micros-agree : (s : Standing S) (w : Walk ℕ) → WalksAlike Any (walk_of s) w
      → (rows : List ScriptRow) → ((place : ℕ) (row : ScriptRow) (name : List ℕ)
      → slice_get rows place ≡ Some row → table_asked row.task ≡ Some name
      → IsSome (table_named parts (fold (λ before row. standing_next m parts before row.task) s
      (take place rows)) name))
      → rest_micros m parts s rows ≡ compiled.micros_from w rows
  micros-agree s w alike [] knows = refl
  micros-agree s w alike (row ∷ rows) knows =
      let next = compiled.after w row.task (version_for w row.task) in
      let walked = walks-after Any (walk_of s) w alike row.task _ _
      (tables-alike s w row.task (λ name. knows 0 row name refl)) in
      ap₂ (λ steps rest. on_line row.number steps ++ rest)
      (steps-same Any (walk_of s) w alike row.task)
      (micros-agree (standing_next m parts s row.task) next
      (subst (λ v. WalksAlike Any v next) (sym (walk-after s row.task)) walked) rows
      (λ place. knows (suc place)))

module _ {S : Type 0} (m : Meaning S) where
  -- the theorem
  pub known-is-compiled : KnownIsCompiled m
  known-is-compiled parts knows = micros-agree m parts nothing start (record {
    device_of = λ name. refl;
    devices = λ number. tt;
    made = refl;
    loads = refl;
  }) parts.script knows

  -- and for accepted scenarios, whose tables are all known
  pub accepted-is-compiled : AcceptedIsCompiled m
  accepted-is-compiled parts accepted = known-is-compiled parts (λ place row name is asked.
      is-there (table_named parts (standing_before m parts place) name) (λ none.
      accepted.rules.script place row told.V1 (is, inr (rw asked none))))
