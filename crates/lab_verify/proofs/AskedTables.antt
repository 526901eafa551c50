-- A command on names and devices that breaks no rule has the table that it asks for.
use Rattle.lab_model.proofs.Common.{◌≡◌, List, ℕ, true, Option, Some, None, refl, inr, is_some}
use Rattle.lab_model.proofs.Common.{Meaning}
use Rattle.std.specs.Option.{IsSomeAnd, option_and_then}
use Rattle.lab_script.specs.declared.command.Command.{Command}
use Rattle.lab_script.specs.declared.command.Command.TheVariants.{Ram, Replay, Wait}
use Rattle.lab_script.specs.Task.{Task, table_asked, task_of}
use Rattle.lab_rulebook.specs.Parts.{Parts}
use Rattle.lab_model.specs.declared.rule.Rule.{Rule}
use Rattle.lab_model.specs.declared.rule.Rule.TheVariants.{V1}
use Rattle.lab_rulebook.specs.ScriptRules.{Breaks}
use Rattle.lab_rulebook.specs.Standing.{Standing as Stands, obeyed, table_meant, table_named}
use Rattle.lab_rulebook.specs.Walked.{standing_next}

-- what isn't none is there
there : {X : Type 0} (o : Option X) → (o ≡ None → ⊥) → is_some o ≡ true
there None lacks = absurd (lacks refl)
there (Some x) lacks = refl

-- the table is there where one is asked for
pub has-asked : {S : Type 0} (m : Meaning S) (parts : Parts S) (s : Stands S) (task : Task)
    → ((rule : Rule) → Breaks m parts s task rule → ⊥)
    → is_some (table_meant parts s task) ≡ is_some (table_asked task)
has-asked m parts s task unbroken = by (table_asked task) (λ none. unbroken V1 (inr none))
  where
    by : (asked : Option (List ℕ)) → (IsSomeAnd asked (λ name. table_named parts s name ≡ None) → ⊥)
        → is_some (option_and_then (table_named parts s) asked) ≡ is_some asked
    by None free = refl
    by (Some name) free = there (table_named parts s name) free

-- a command that is none of the others is one on names and devices
pub on-devices : {S : Type 0} (m : Meaning S) (parts : Parts S) (s : Stands S) (command : Command)
    → ((number sectors : ℕ) → command ≡ Ram number sectors → ⊥) → (command ≡ Replay → ⊥)
    → (command ≡ Wait → ⊥) → standing_next m parts s (task_of command)
    ≡ obeyed m s (task_of command) (table_meant parts s (task_of command))
on-devices m parts s (Ram number sectors) ram replay wait = absurd (ram number sectors refl)
on-devices m parts s Replay ram replay wait = absurd (replay refl)
on-devices m parts s Wait ram replay wait = absurd (wait refl)
on-devices m parts s command ram replay wait = refl
