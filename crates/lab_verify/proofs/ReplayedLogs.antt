-- The first fault of some logs, with one log more.
use Rattle.lab_model.proofs.Common.{rules, ◌≡◌, ◌∙◌, ◌<◌, ◌⊎◌, ℕ, List, [], ◌∷◌, ◌++◌, Option, Some}
use Rattle.lab_model.proofs.Common.{None, length, slice_get, sym, subst, arith, ◌+◌, map, take}
use Rattle.lab_model.proofs.Common.{map-append, same_Some, slice_get_within, LogPlan}
use Rattle.lab_model.proofs.Common.{take-more}
use Rattle.std.specs.Borrow.{Bor}
use Rattle.lab_rulebook.proofs.PlaceLemmas.{pushed-there}
use Rattle.lab_rulebook.specs.Standing.{Standing}
use Rattle.lab_refusal.specs.declared.fault.Refusal.{Refusal}
use Rattle.lab_standing.proofs.DevicesKept.{same-version}
use Rattle.lab_rule_checks.specs.Logs.{NoneBroken}
use Rattle.lab_verify.specs.Steps.{IsFirstOfLogs, NoLogBroken, TellsLogs, TellsNext}

-- an item of a list with one more is the last, or one as before
pushed-cases : {X : Type 0} (xs : List X) (last : X) (i : ℕ) (x : X)
    → slice_get (xs ++ last ∷ []) i ≡ Some x → (last ≡ x) ⊎ (slice_get xs i ≡ Some x)
pushed-cases [] last i x at = search (rules, same_Some)
pushed-cases (first ∷ xs) last i x at = search (rules, pushed-cases xs last)

-- an item before the last is one as before
before-last : {X : Type 0} (xs : List X) (last : X) (i : ℕ) (x : X) → i < length xs
    → slice_get (xs ++ last ∷ []) i ≡ Some x → slice_get xs i ≡ Some x
before-last xs last i x within at = sym (same-version xs last i within) ∙ at

-- what f makes of one item more
pub bound-more : {X Y : Type 0} (f : X → Y) (xs : List X) (i : ℕ) (x : X) (ys : List Y) (y : Y)
    → slice_get xs i ≡ Some x → ys ≡ map f (take i xs) → y ≡ f x
    → ys ++ y ∷ [] ≡ map f (take (i + 1) xs)
bound-more f xs i x ys y at made is = simp (made, is, take-more xs i x at, map-append)

module _ {S : Type 0} (s : Standing S) where
  -- no log breaks a rule, and the next doesn't
  none-more : (plans : List LogPlan) (plan : LogPlan) → NoLogBroken s plans
      → NoneBroken s plan.lines (length plan.lines)
      → NoLogBroken s (plans ++ plan ∷ [])
  none-more plans plan none here number other at = search (rules, pushed-cases)

  -- the first fault stays the first with a log more
  first-more : (plans : List LogPlan) (plan : LogPlan) (fault : Refusal)
      → IsFirstOfLogs s plans fault → IsFirstOfLogs s (plans ++ plan ∷ []) fault
  first-more plans plan fault told = record {
    number = told.number;
    plan = told.plan;
    is_plan = same-version plans plan told.number
        (slice_get_within plans told.number told.plan told.is_plan) ∙ told.is_plan;
    told = told.told;
    line = told.line;
    first = λ earlier other before at. told.first earlier other before
        (before-last plans plan earlier other
        (omega (arith, before, slice_get_within plans told.number told.plan told.is_plan)) at);
    name = told.name;
    is_name = told.is_name;
    refusal = told.refusal;
  }

  -- what is told of some logs and of the next is what is told of all
  pub logs-more : (plans : List LogPlan) (plan : LogPlan) (name : Bor (List ℕ))
      → name.now ≡ plan.name → (before told : Option Refusal)
      → TellsLogs s plans before → TellsNext s name plan.lines before told
      → TellsLogs s (plans ++ plan ∷ []) told
  logs-more plans plan name is (Some fault) told tells next =
      subst (TellsLogs s (plans ++ plan ∷ [])) (sym next)
      (first-more plans plan fault tells)
  logs-more plans plan name is None None tells next = none-more plans plan tells next
  logs-more plans plan name is None (Some fault) tells next = record {
    number = length plans;
    plan = plan;
    is_plan = pushed-there plans plan;
    told = next.0;
    line = next.1;
    first = λ earlier other before at.
        tells earlier other (before-last plans plan earlier other before at);
    name = name;
    is_name = is;
    refusal = next.2;
  }
