-- The logs' fault, as the replay finds it, is the one that is told of the whole scenario.
use Rattle.lab_model.proofs.Common.{rules, ◌≡◌, ℕ, List, Some, refl, sym, map, slice_get, same_Some}
use Rattle.lab_model.proofs.Common.{◌∙◌, ◌⊎◌, inl, inr, ◌<◌, ap, subst, slice_get_within, Meaning}
use Rattle.lab_model.proofs.Common.{LogPlan}
use Rattle.lab_model.specs.declared.plan.LogLine.{LogLine}
use Rattle.lab_rulebook.specs.Standing.{Standing as Stands}
use Rattle.lab_rulebook.specs.Walked.{bound_log, scenario_of}
use Rattle.lab_rulebook.specs.Accepted.{LogBreaks, ReplaysAt, standing_before}
use Rattle.lab_model.specs.declared.rule.Rule.{Rule}
use Rattle.lab_model.specs.Rules.{of_log}
use Rattle.lab_rulebook.specs.LogRules.{Breaks, BreaksAt, files_at}
use Rattle.lab_rulebook.specs.Parts.{Parts}
use Rattle.lab_rulebook.specs.Told.{IsTold}
use Rattle.lab_refusal.specs.declared.fault.Refusal.{Refusal}
use Rattle.lab_verify.specs.Steps.{IsFirstOfLogs, IsLeast, NoLogBroken}
use Rattle.lab_verify.proofs.Replays.{logs-bound, one-replay, some-replay}
use Rattle.lab_verify.proofs.ToldFirst.{IsFine, LinesFree, RuleBefore, told-line}
use Rattle.lab_verify.proofs.ToldRules.{least-told, log-all}

module _ {S : Type 0} (m : Meaning S) (parts : Parts S) (fine : IsFine m parts) where
  -- the place of the replay
  abbrev pub at : ℕ
  at = (some-replay m parts fine.free fine.ends).0

  -- where the script replays
  pub is-at : ReplaysAt m parts at
  is-at = (some-replay m parts fine.free fine.ends).1

  -- what stands there
  abbrev pub there : Stands S
  there = standing_before m parts at

  -- the logs as they are bound there
  abbrev pub plans : List LogPlan
  plans = map (bound_log there) parts.logs

  -- the scenario's logs are those
  bound : plans ≡ (scenario_of m parts).logs
  bound = logs-bound m parts fine.free fine.ends at is-at

  -- a line that breaks a rule of the scenario is one of theirs, and breaks it there
  seen-there : (number place : ℕ) (plan : LogPlan) (line : LogLine) (rule : Rule)
      → LogBreaks m parts number place plan line rule
      → (slice_get plans number ≡ Some plan) × BreaksAt there plan.lines place line rule
  seen-there number place plan line rule (other, also, is_plan, breaks) = (
    ap (λ (ls : List LogPlan). slice_get ls number) bound ∙ is_plan,
    subst (λ (p : ℕ). BreaksAt (standing_before m parts p) plan.lines place line rule)
        (one-replay m parts fine.free other at also is-at) breaks,
  )

  -- where no line is told, none breaks a rule
  pub lines-free : NoLogBroken there plans → LinesFree m parts
  lines-free none number place plan line rule breaks =
      search (rules, seen-there number place plan line rule breaks, slice_get_within)

  module _ (refusal : Refusal) (first : IsFirstOfLogs there plans refusal)
      (least : IsLeast (Breaks there (files_at first.plan.lines first.line.place) first.line.line)
      first.told.1) where
    -- on the same log
    same-log : (place : ℕ) (line : LogLine) (rule : Rule)
        → BreaksAt there first.plan.lines place line rule
        → RuleBefore place rule first.line.place first.told.1 → ⊥
    same-log place line rule breaks holds = search rules

    -- none comes before
    none-earlier : (number place : ℕ) (plan : LogPlan) (line : LogLine) (rule : Rule)
        → (number < first.number) ⊎ ((number ≡ first.number)
        × RuleBefore place rule first.line.place first.told.1)
        → LogBreaks m parts number place plan line rule → ⊥
    none-earlier number place plan line rule (inl less) breaks =
        let seen = seen-there number place plan line rule breaks in
        first.first number plan less seen.0 place line rule
        (slice_get_within plan.lines place line seen.1.0) seen.1
    none-earlier number place plan line rule (inr (is, order)) breaks =
        let seen = seen-there number place plan line rule breaks in
        let same : plan ≡ first.plan = same_Some plan first.plan
        (sym seen.0 ∙ ap (slice_get plans) is ∙ first.is_plan) in
        same-log place line rule
        (subst (λ (p : LogPlan). BreaksAt there p.lines place line rule) same seen.1) order

  -- the line that is told is the first one
  pub first-line : (refusal : Refusal) (first : IsFirstOfLogs there plans refusal)
      → IsTold m parts (record {
        part = of_log first.plan.name;
        line = first.line.line.number;
        rule = first.told.1;
      })
  first-line refusal first =
      let line = first.line in
      let least = least-told (log-all there (files_at first.plan.lines line.place) line.line)
      first.told.1 refl line.rule in
      told-line m parts fine first.number line.place first.told.1 first.plan line.line (
        at,
        is-at,
        ap (λ (ls : List LogPlan). slice_get ls first.number) (sym bound) ∙ first.is_plan,
        (line.is_line, least.broken),
      ) (none-earlier refusal first least)
