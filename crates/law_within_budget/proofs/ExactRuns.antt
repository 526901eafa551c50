-- A Map takes exactly one, where the live table is the device's only version and its targets take
-- the dearest course. Runs take exactly what their potential falls by.
use Rattle.lab_model.proofs.Common.{rules, ◌≡◌, ℕ, zero, suc, ◌+◌, ◌≤◌, true, List, [], ◌∷◌, Some, if◌then◌else◌}
use Rattle.lab_model.proofs.Common.{length, slice_get, ap, arith, Dm, Kind, Span, Meaning}
use Rattle.lab_model.proofs.Common.{cost_within, table_cost, versions_of, fits_table, Scenario}
use Rattle.lab_model.proofs.Common.{Table, None-not-Some, Some-holds, Verdict, Lawful, Shape}
use Rattle.lab_model.proofs.Common.{beyond, cost, State, not, cond, opening}
use Rattle.law_within_budget.specs.Ranked.{Ranked}
use Rattle.law_within_budget.proofs.Ranks.{cost_within-enough, table_cost-le, under, version-cost}
use Rattle.law_within_budget.proofs.Ranks.{ranked}
use Rattle.law_slots.proofs.ByBio.{Judges}
use Rattle.law_within_budget.specs.PotentialFalls.{TablesAreVersions}
use Rattle.law_within_budget.proofs.Judged.{as-much, by-version, children-worth, judges-weight}
use Rattle.law_within_budget.proofs.Judged.{taken}
use Rattle.law_within_budget.proofs.Weight.{Spends, each-spends, events-sum, potential-is, weight}
use Rattle.law_within_budget.specs.Exactly.{IsDear, MeetsItsBudget, StepsAndRest, StepsAreBudget}
use Rattle.law_within_budget.specs.PassesAll.{IsDearest}
use Rattle.law_within_budget.proofs.WalkVersions.{keeps-versions}
use Rattle.law_within_budget.proofs.Within.{opening-is-budget}
use Rattle.law_within_budget.proofs.NoneLeft.{none-left}

-- a list of one item at most that has one is that item
only-item : {X : Type 0} (xs : List X) (place : ℕ) (x : X) → length xs ≤ 1
    → slice_get xs place ≡ Some x → xs ≡ x ∷ []
only-item [] place x single at = absurd (None-not-Some at)
only-item (y ∷ []) zero x single at = ap (λ z. z ∷ []) (Some-holds at)
only-item (y ∷ []) (suc place) x single at = absurd (None-not-Some at)
only-item (y ∷ z ∷ xs) place x single at = absurd (omega (arith, single))

module _ {S : Type 0} (m : Meaning S) (c : Scenario S) (r : Ranked m c) where
  -- a device costs at most two more than its only version
  only-most : (depth device version : ℕ) (table : Table S) (kind : Kind) (span : Span)
      → r.rank (Dm device) ≤ depth → length (versions_of c.versions device) ≤ 1
      → slice_get (versions_of c.versions device) version ≡ Some table
      → fits_table table kind span ≡ true → cost_within m c depth (Dm device) kind span
      ≤ table_cost m (cost_within m c depth) kind span table + 2
  only-most zero device version table kind span ranked single at fits = omega arith
  only-most (suc depth) device version table kind span ranked single at fits =
      let below = table_cost-le m (cost_within m c depth) (cost_within m c (suc depth)) kind table
      span (λ number line ref at_line at_ref there.
      let lower = under m c r device version table number line kind ref at at_line at_ref in
      cost_within-enough m c r (suc depth) depth ref.dev kind there
      (omega (arith, lower, ranked))) in
      rw (only-item (versions_of c.versions device) version table single at, fits)
      (omega (arith, below))

  -- so it costs exactly two more
  pub only-cost : (depth device version : ℕ) (table : Table S) (kind : Kind) (span : Span)
      → r.rank (Dm device) ≤ depth → length (versions_of c.versions device) ≤ 1
      → slice_get (versions_of c.versions device) version ≡ Some table
      → fits_table table kind span ≡ true
      → table_cost m (cost_within m c depth) kind span table + 2
      ≡ cost_within m c depth (Dm device) kind span
  only-cost depth device version table kind span ranked single at fits =
      search (rules, only-most, version-cost)

-- the child of the dearest course is worth exactly what its piece costs
taken-dear : {S : Type 0} (m : Meaning S) (c : Scenario S) (shape : Shape S) (kind : Kind)
    (span : Span) (v : Verdict) → IsDearest shape kind v → taken m c shape kind span v
    ≡ beyond (cost m c) kind (if shape.may_hold kind then 1 else 0) span (shape.reference kind)
taken-dear m c shape kind span v dear = search rules

-- where a version judges a bio, the children are worth exactly two less
pub judges-spends : {S : Type 0} (m : Meaning S) → Lawful m → (c : Scenario S) → Ranked m c
    → IsDear m c → (s : State S) → TablesAreVersions m c s → (number : ℕ) (next : State S)
    → Judges m s number next → Spends m c s next
judges-spends m lawful c r is_dear s are number next is =
    let by = by-version m c s number next is are in
    omega (
      arith,
      judges-weight m c s number next is,
      children-worth m c s number next is lawful as-much by
          (λ place old line span at same may allowed.
          taken-dear m c (m.shape line.target) is.bio.kind span _
          (is_dear.passes is.device by.place by.table place old by.known at line.target same
          is.bio.kind span s.clock may)),
      only-cost m c r (length c.versions) is.device by.place by.table is.bio.kind is.bio.span
          (r.bounded is.device) (is_dear.single is.device) by.known by.fits,
    )

-- a run begins with the budget, and each event takes what it counts
pub steps-and-rest : {S : Type 0} (m : Meaning S) → Lawful m → StepsAndRest m
steps-and-rest m lawful c is_dear events end run =
    let spends = events-sum m c (λ s t steps ticks. weight m c t + steps ≡ weight m c s)
    (λ s. omega arith) (λ s t end a b c d first rest. omega arith)
    (λ s are. each-spends m c s (λ clock t. weight m c t + cond (not clock) 1 0 ≡ weight m c s)
    (λ t spends. spends) (λ t same. omega arith)
    (judges-spends m lawful c (ranked m c is_dear.acyclic) is_dear s are)) events (opening c) end
    (keeps-versions m lawful c is_dear.creates) run in
    omega (
      arith,
      potential-is m c (opening c),
      potential-is m c end,
      spends,
      opening-is-budget m c,
    )

-- and ends with none left where all is done
pub steps-are-budget : {S : Type 0} (m : Meaning S) → Lawful m → StepsAreBudget m
steps-are-budget m lawful c is_dear events end complete = search (rules, steps-and-rest, none-left)

-- a fine scenario has no cycle, and its creates count from 0
pub meets-its-budget : {S : Type 0} (m : Meaning S) → Lawful m → MeetsItsBudget m
meets-its-budget m lawful c fine single passes = steps-are-budget m lawful c (search)
