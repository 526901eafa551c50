-- A fault of reading, of the limits or of a command is the verdict. A fault of the script's end, of
-- a log line or of the budget is the verdict, and so is the scenario where there is none.
use Rattle.lab_model.proofs.Common.{rules, ◌≡◌, ℕ, Some, Err, refl, Meaning, ◌∙◌, inr, ◌≤◌}
use Rattle.lab_model.proofs.Common.{List, [], ◌∷◌, Option, None, Result, Ok, ap, sym, subst, length}
use Rattle.lab_model.proofs.Common.{take-length, slice_get_within, all_visits}
use Rattle.lab_model.proofs.Common.{budget}
use Rattle.lab_rulebook.specs.Limits.{WithinLimits, limit}
use Rattle.lab_rulebook.specs.Parts.{Parts}
use Rattle.lab_rulebook.specs.Told.{IsTold}
use Rattle.lab_rulebook.specs.PartsOf.{IsReadable, Texts, parts_of_texts}
use Rattle.lab_refusal.specs.declared.fault.PartName.{PartName}
use Rattle.lab_refusal.specs.declared.fault.Refusal.{Refusal}
use Rattle.lab_refusal.specs.declared.fault.Refusal.TheVariants.{Fault, NoMemory}
use Rattle.lab_model.specs.declared.rule.Rule.{Rule}
use Rattle.lab_model.specs.Rules.{of_log}
use Rattle.lab_refusal.specs.Faults.{part_seen}
use Rattle.lab_refusal.specs.Refusals.{refusal_at, RefusesTold}
use Rattle.lab_rule_checks.specs.Least.{TellsFirst}
use Rattle.lab_verify.specs.Verdict.{IsVerdict}
use Rattle.lab_verify.specs.Walks.{WalkTells, AwaitsBudget, BudgetTells, HasWalked, IsPast}
use Rattle.lab_verify.specs.Walks.{scenario_seen}
use Rattle.lab_verify.proofs.ToldFirst.{told-command, told-limits, CommandsFree, IsFine, LinesFree}
use Rattle.lab_verify.proofs.ToldFirst.{accepted-within, told-budget, told-end}
use Rattle.lab_verify.proofs.ToldRules.{end-all, least-told, none-told}
use Rattle.lab_model.specs.declared.micro.Micro.{Micro}
use Rattle.lab_rulebook.specs.Accepted.{Accepted}
use Rattle.lab_rulebook.specs.ScriptRules.{EndBreaks}
use Rattle.lab_rulebook.specs.Standing.{Standing as Stands}
use Rattle.lab_rulebook.specs.Walked.{scenario_of, standing_after}
use Rattle.lab_rulebook.specs.IsAccepted.{Verified}
use Rattle.lab_standing.specs.declared.standing.Standing.{Standing}
use Rattle.lab_standing.specs.Stands.{standing_of}
use Rattle.lab_verify.specs.Steps.{IsLeast, TellsLogs}
use Rattle.lab_verify.proofs.LogVerdicts.{at, first-line, is-at, lines-free, plans, there}
use Rattle.lab_verify.proofs.Replays.{replay-row}
use Rattle.lab_refusal.specs.declared.fault.PartName.TheVariants as names
use Rattle.lab_model.specs.declared.rule.Rule.TheVariants as told_rules
use Rattle.lab_model.specs.declared.rule.Rule.TheVariants.{V7, V10}

module _ {S : Type 0} (m : Meaning S) (texts : Texts) where
  -- the parts of the texts
  abbrev pub parts : Parts S
  parts = parts_of_texts m texts

  module _ (readable : IsReadable m texts) where
    -- so is one of a rule
    pub rule-verdict : (refusal : Refusal) (part : PartName) (line : ℕ) (rule : Rule)
        → refusal ≡ refusal_at part line rule
        → IsTold m parts (record { part = part_seen part; line = line; rule = rule })
        → IsVerdict m texts (Err refusal)
    rule-verdict refusal part line rule is told = subst (λ r. IsVerdict m texts (Err r)) (sym is)
        (inr (record { readable = readable; is_told = told }))

    -- past the limits
    pub limits-verdict : (refusal : Refusal) → refusal ≡ refusal_at names.Limits 0 told_rules.V16
        → (WithinLimits parts → ⊥) → IsVerdict m texts (Err refusal)
    limits-verdict refusal is past = rule-verdict refusal names.Limits 0 told_rules.V16 is
        (told-limits m parts past)

    module _ (fits : WithinLimits parts) where
      -- a command, as the walk answers
      pub walk-verdict : (refusal : Refusal) → WalkTells m parts (Err refusal)
          → IsVerdict m texts (Err refusal)
      walk-verdict (Fault fault) first = rule-verdict (Fault fault) names.Script
          first.row.number first.rule first.tells (told-command m parts fits first.place first.row
          first.rule first.is_row first.least first.first)
      walk-verdict NoMemory tells = tt

module _ {S : Type 0} (m : Meaning S) (texts : Texts) (readable : IsReadable m texts)
    (fits : WithinLimits (parts m texts)) (s : Standing S)
    (walked : HasWalked m (parts m texts) (length (parts m texts).script) s) where
  -- what the texts say
  abbrev said : Parts S
  said = parts m texts

  -- what stands at the end
  last : standing_of m s ≡ standing_after m said said.script
  last = search (rules, take-length)

  -- no command breaks a rule
  free : CommandsFree m said
  free place row rule breaks = walked.free place row rule
      (slice_get_within said.script place row breaks.0) breaks

  -- V7 or V10 at the end
  pub end-verdict : (refusal : Refusal)
      → RefusesTold (TellsFirst (EndBreaks m said (standing_of m s)) (V7 ∷ V10 ∷ [])) 0
      (Err refusal) → IsVerdict m texts (Err refusal)
  end-verdict refusal (rule, tells, is) = rule-verdict m texts readable refusal names.Script 0 rule
      is (told-end m said fits free rule
      (subst (λ (z : Stands S). IsLeast (EndBreaks m said z) rule) last
      (least-told (end-all m said (standing_of m s)) rule refl tells)))

  module _ (ended : TellsFirst (EndBreaks m said (standing_of m s)) (V7 ∷ V10 ∷ []) None) where
    -- nothing up to the end breaks a rule
    fine : IsFine m said
    fine = record {
      fits = fits;
      free = free;
      ends = subst (λ (z : Stands S). (rule : Rule) → EndBreaks m said z rule → ⊥) last
          (none-told (end-all m said (standing_of m s)) refl ended);
    }

    -- what the replay told
    told_logs : (told : Option Refusal) → s.fault ≡ told
        → TellsLogs (there m said fine) (plans m said fine) told
    told_logs told is =
        let replays = is-at m said fine in
        let (row, is_row, _) = replay-row m said (at m said fine) replays in
        subst (TellsLogs (there m said fine) (plans m said fine)) is
        (walked.told (at m said fine) (slice_get_within said.script _ row is_row) replays)

    -- a log line
    pub log-verdict : (refusal : Refusal) → s.fault ≡ Some refusal
        → IsVerdict m texts (Err refusal)
    log-verdict refusal is =
        let first = told_logs (Some refusal) is in
        rule-verdict m texts readable refusal (names.Log first.name) first.told.0 first.told.1
        first.refusal (subst (λ name. IsTold m said
        (record { part = of_log name; line = first.told.0; rule = first.told.1 }))
        (sym first.is_name) (subst (λ line. IsTold m said
        (record { part = of_log first.plan.name; line = line; rule = first.told.1 }))
        (sym first.line.number) (first-line m said fine refusal first)))

    module _ (silent : s.fault ≡ None) where
      -- no log line breaks a rule
      lines : LinesFree m said
      lines = lines-free m said fine (told_logs None silent)

      module _ (steps : List Micro) (given : steps ≡ (scenario_of m said).micros) where
        -- what is handed over is the scenario
        handed : scenario_seen (standing_of m s) steps ≡ scenario_of m said
        handed = search (rules, last)

        -- it is accepted where its budget is within the limit
        within-accepted : budget m (scenario_seen (standing_of m s) steps) ≤ limit
            → all_visits m (scenario_seen (standing_of m s) steps) ≤ limit
            → Accepted m said
        within-accepted most visits = search (rules, accepted-within m said fine lines, handed)

        -- only its budget is still to be looked at
        pub awaits : AwaitsBudget m (scenario_seen (standing_of m s) steps)
        awaits = search (rules, handed, within-accepted)

        -- what its budget answers is the verdict
        pub budget-verdict : (result : Result (Verified S) Refusal)
            → BudgetTells m (scenario_seen (standing_of m s) steps) result
            → IsVerdict m texts result
        budget-verdict (Ok accepted) over = record {
          readable = readable;
          keeps = within-accepted over.within.budget over.within.visits;
          scenario = over.scenario ∙ handed;
          budget = over.budget ∙ ap (budget m) (sym over.scenario);
        }
        budget-verdict (Err (Fault fault)) (past, is) = rule-verdict m texts readable (Fault fault)
            names.Budget 0 told_rules.V15 is (told-budget m said fine lines
            (subst (IsPast m) handed past))
        budget-verdict (Err NoMemory) tells = tt
