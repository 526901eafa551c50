-- Parts are accepted, or the first spot at which a rule of theirs is broken tells a fault, which
-- can be told of each spot.
use Rattle.lab_model.proofs.Common.{◌≡◌, ◌⊎◌, ℕ, ◌<◌, inl, inr, List, [], ◌∷◌, ◌++◌, Option, Some}
use Rattle.lab_model.proofs.Common.{None, length, map, slice_get, refl, subst, arith}
use Rattle.lab_model.proofs.Common.{range_with_len, slice_get_within, Meaning, LogPlan, In}
use Rattle.lab_model.proofs.Common.{In-flat_map, In-map, In-append_left, In-append_right}
use Rattle.lab_model.proofs.Common.{AllByRecursion, All-In}
use Rattle.std.proofs.Common.{flat_map}
use Rattle.std.specs.Cmp.Lexicographic.{nat_list_cmp_total, slice_cmp}
use Rattle.std.specs.Ordering.{nat_cmp}
use Rattle.std.specs.declared.cmp.Ordering.{Ordering}
use Rattle.std.specs.declared.cmp.Ordering.TheVariants.{Less, Equal, Greater}
use Rattle.lab_model.specs.declared.rule.Rule.TheVariants.{V7, V10}
use Rattle.lab_model.specs.Rules.{FaultSeen}
use Rattle.lab_rulebook.specs.Parts.{Parts}
use Rattle.lab_rulebook.specs.Told.{ComesBefore, IsBroken, IsTold, Spot, at_budget, at_command}
use Rattle.lab_rulebook.specs.Told.{at_end, at_limits, at_line, fault_told, key}
use Rattle.lab_rulebook.specs.Walked.{scenario_of}
use Rattle.lab_rulebook.proofs.ToldLemmas.{accepted-has-no-fault}
use Rattle.lab_rulebook.specs.Accepted.{Accepted, standing_before}
use Rattle.lab_rulebook.specs.LogRules as logs
use Rattle.lab_rule_checks.specs.Least.{script_rules}
use Rattle.lab_rule_checks.specs.Logs.{log_rules}
use Rattle.lab_core.proofs.Enabled.{number-in}
use Rattle.law_one_output.proofs.Decide.{Decided, decided-both}
use Rattle.law_one_output.proofs.SpotsDecided.{decided-spot}
use Rattle.lab_verify.proofs.ToldRules.{log-among, script-among}

-- parts are accepted, or a fault of theirs is told
abbrev pub HasVerdict : {S : Type 0} → Meaning S → Parts S → Type 0
HasVerdict m parts = ((seen : FaultSeen) × IsTold m parts seen) ⊎ Accepted m parts

-- two keys stand in one order
decided-key : (order : Ordering) → Decided (order ≡ Less)
decided-key Less = inl refl
decided-key Equal = inr (λ is. cc)
decided-key Greater = inr (λ is. cc)

-- no spot comes before itself
never-itself : (spot : Spot) → ComesBefore spot spot → ⊥
never-itself spot before = let same = nat_list_cmp_total.antisymm (key spot) (key spot) in cc

-- ---- the first of some items

-- what holds of all of some items holds of each
all-In : {X : Type 0} (P : X → Type 0) (xs : List X) → AllByRecursion P xs → (x : X) → In x xs
    → P x
all-In P [] all x at = absurd at
all-In P (y ∷ xs) all x (inl same) = subst P same all.0
all-In P (y ∷ xs) all x (inr later) = all-In P xs all.1 x later

module _ {X : Type 0} (P : X → Type 0) (Before : X → X → Type 0)
    (never : (x : X) → Before x x → ⊥)
    (join : (x y z : X) → Before x y → Before y z → Before x z)
    (decided : (x : X) → Decided (P x)) (order : (x y : X) → Decided (Before x y)) where
  -- P holds of an item, and of none of some items that comes before it
  abbrev IsFirst : List X → X → Type 0
  IsFirst xs x = P x × AllByRecursion (λ y. P y → Before y x → ⊥) xs

  -- P holds of a first one of some items, or of none
  find-first : (xs : List X) → ((x : X) × IsFirst xs x) ⊎ AllByRecursion (λ y. P y → ⊥) xs
  find-first [] = inr tt
  find-first (x ∷ xs) = elim (find-first xs) [
    | inr none ↦ elim (decided x) [
      | inl holds ↦ inl (
        x,
        (
          holds,
          (
            λ own. never x,
            All-In _ xs (λ z at own. absurd (all-In _ xs none z at own)),
          ),
        ),
      )
      | inr free ↦ inr (free, none)
    ]
    | inl (y, (holds, first)) ↦ elim (decided-both (decided x) (order x y)) [
      | inl (own, earlier) ↦ inl (
        x,
        (
          own,
          (
            λ own. never x,
            All-In _ xs (λ z at wrong before.
                all-In _ xs first z at wrong (join z x y before earlier)),
          ),
        ),
      )
      | inr later ↦ inl (y, (holds, (λ own earlier. later (own, earlier), first)))
    ]
  ]

-- ---- all spots

-- the lists of the places below a count have what the list of one of them has
in-places : {X : Type 0} (f : ℕ → List X) (count place : ℕ) (x : X) → place < count
    → In x (f place) → In x (flat_map f (range_with_len 0 count))
in-places f count place x within =
    In-flat_map f place x _ (number-in count 0 place (omega arith) (omega arith))

-- how many lines a log has
abbrev lines_in : Option LogPlan → ℕ
lines_in None = 0
lines_in (Some plan) = length plan.lines

-- the spots of a command's place
abbrev command_spots : ℕ → List Spot
command_spots place = map (at_command place) script_rules

-- those of a log line's place
abbrev line_spots : ℕ → ℕ → List Spot
line_spots number place = map (at_line number place) log_rules

module _ {S : Type 0} (m : Meaning S) (parts : Parts S) where
  -- those of a log
  abbrev log_spots : ℕ → List Spot
  log_spots number = flat_map (line_spots number)
      (range_with_len 0 (lines_in (slice_get (scenario_of m parts).logs number)))

  -- all spots at which a rule may be broken
  abbrev spots : List Spot
  spots = at_limits ∷ at_end V7 ∷ at_end V10 ∷ at_budget
      ∷ (flat_map command_spots (range_with_len 0 (length parts.script))
      ++ flat_map log_spots (range_with_len 0 (length (scenario_of m parts).logs)))

  -- each spot at which a rule is broken is among them
  broken-in : (spot : Spot) → IsBroken m parts spot → In spot spots
  broken-in at_limits broken = inl refl
  broken-in (at_end V7) broken = inr (inl refl)
  broken-in (at_end V10) broken = inr (inr (inl refl))
  broken-in (at_end rule) broken = absurd broken
  broken-in at_budget broken = inr (inr (inr (inl refl)))
  broken-in (at_command place rule) broken = inr (inr (inr (inr
      (In-append_left (at_command place rule) _ _ (in-places command_spots _ place _
      (slice_get_within parts.script place broken.0 broken.1.0)
      (In-map (at_command place) rule script_rules
      (script-among m parts (standing_before m parts place) broken.0.task rule broken.1.1)))))))
  broken-in (at_line number place rule) broken = inr (inr (inr (inr
      (In-append_right (at_line number place rule) _ _ (in-places log_spots _ number _
      (slice_get_within (scenario_of m parts).logs number broken.0 broken.2.2)
      (in-places (line_spots number) _ place _
      (rw broken.2.2 (slice_get_within broken.0.lines place broken.1 broken.2.3.0))
      (In-map (at_line number place) rule log_rules
      (log-among (standing_before m parts broken.2.0) (logs.files_at broken.0.lines place)
      broken.1 rule broken.2.3.1))))))))

  -- so parts are accepted, or the first spot tells a fault
  pub has-verdict : HasVerdict m parts
  has-verdict = elim (find-first (IsBroken m parts) ComesBefore never-itself
      (λ a b c. nat_list_cmp_total.trans (key a) (key b) (key c)) (decided-spot m parts)
      (λ a b. decided-key (slice_cmp nat_cmp (key a) (key b))) spots) [
        | inl (spot, (broken, first)) ↦ inl (
          fault_told m parts spot broken,
          (
            spot,
            broken,
            refl,
            λ other wrong. all-In _ spots first other (broken-in other wrong) wrong,
          ),
        )
        | inr none ↦ inr ((accepted-has-no-fault m).accepted parts
            (λ spot broken. all-In _ spots none spot (broken-in spot broken) broken))
      ]
