-- Whether a device lies below another is decided, by live tables and by all versions alike.
use Rattle.lab_model.proofs.Common.{rules, ◌≡◌, ℕ, ◌<◌, inl, inr, List, [], ◌∷◌, Contains, None}
use Rattle.lab_model.proofs.Common.{slice_get, ◌⊎◌, zero, suc, arith, length, slice_get_past}
use Rattle.lab_model.proofs.Common.{cases_lt, DevNo, Dm, Below, direct}
use Rattle.lab_model.proofs.Common.{through, Contains-In, In, In-Contains}
use Rattle.law_one_output.proofs.Decide.{Decided, decided-as, decided-either, decided-both}

-- ---- chains

-- chains of edges are least: what holds of each edge, and before a chain of which it holds, holds of
-- each chain
abbrev AreLeast : (ℕ → ℕ → Type 0) → (ℕ → ℕ → Type 0) → Type 1
AreLeast Edge Chain = (P : ℕ → ℕ → Type 0) → ((from to : ℕ) → Edge from to → P from to)
    → ((from next to : ℕ) → Edge from next → P next to → P from to)
    → (from to : ℕ) → Chain from to → P from to

module _ (Edge Chain : ℕ → ℕ → Type 0) (one : (from to : ℕ) → Edge from to → Chain from to)
    (more : (from next to : ℕ) → Edge from next → Chain next to → Chain from to)
    (least : AreLeast Edge Chain) where
  -- a chain leads from one to the other that passes numbers below a bound only
  abbrev Within : ℕ → ℕ → ℕ → Type 0
  Within zero from to = Edge from to
  Within (suc n) from to = Within n from to ⊎ (Within n from n × Within n n to)

  -- it is a chain
  within-chain : (n from to : ℕ) → Within n from to → Chain from to
  within-chain zero from to edge = one from to edge
  within-chain (suc n) from to (inl less) = within-chain n from to less
  within-chain (suc n) from to (inr parts) =
      least (λ a b. Chain b to → Chain a to) (λ a b edge rest. more a b to edge rest)
      (λ a b c edge join rest. more a b to edge (join rest)) from n
      (within-chain n from n parts.0) (within-chain n n to parts.1)

  -- an edge is one
  edge-within : (n from to : ℕ) → Edge from to → Within n from to
  edge-within zero from to edge = edge
  edge-within (suc n) from to edge = inl (edge-within n from to edge)

  -- two such chains that meet below the bound are one
  within-join : (n from at to : ℕ) → at < n → Within n from at → Within n at to
      → Within n from to
  within-join zero from at to less first second = absurd (omega (arith, less))
  within-join (suc n) from at to less first second = elim (cases_lt at n) [
    | inr most ↦
        let same : at ≡ n = omega (arith, less, most) in
        inr (
          elim (rw same at first) [ inl way ↦ way | inr parts ↦ parts.0 ],
          elim (rw same at second) [ inl way ↦ way | inr parts ↦ parts.1 ],
        )
    | inl under ↦ elim first [
      | inl first ↦ elim second [
        | inl second ↦ inl (within-join n from at to under first second)
        | inr second ↦ inr (within-join n from at n under first second.0, second.1)
      ]
      | inr first ↦ elim second [
        | inl second ↦ inr (first.0, within-join n n at to under first.1 second)
        | inr second ↦ inr (first.0, second.1)
      ]
    ]
  ]

  -- so it is decided
  within-decided : ((from to : ℕ) → Decided (Edge from to)) → (n from to : ℕ)
      → Decided (Within n from to)
  within-decided edges zero from to = edges from to
  within-decided edges (suc n) from to = decided-either (within-decided edges n from to)
      (decided-both (within-decided edges n from n) (within-decided edges n n to))

  -- where each number with an edge is below a bound, whether a chain leads from one to the other
  chain-decided : (n : ℕ) → ((from to : ℕ) → Edge from to → from < n)
      → ((from to : ℕ) → Decided (Edge from to)) → (from to : ℕ) → Decided (Chain from to)
  chain-decided n bound edges from to = decided-as (within-chain n from to)
      (λ chain. (least (λ a b. (a < n) × Within n a b)
      (λ a b edge. (bound a b edge, edge-within n a b edge)) (λ a b c edge rest.
      (bound a b edge, within-join n a b c rest.0 (edge-within n a b edge) rest.1))
      from to chain).1) (within-decided edges n from to)

-- whether one is among some
decided-in : (device : DevNo) (devices : List DevNo) → Decided (In device devices)
decided-in device [] = search rules
decided-in device (other ∷ devices) = search (rules, decided-in device devices)

-- the same in the words of contracts
pub decided-contains : (devices : List DevNo) (device : DevNo) → Decided (Contains devices device)
decided-contains devices device = decided-as (Contains-In device devices)
    (In-Contains device devices) (decided-in device devices)

-- only an item that is there has devices under it, where nothing has none
item-there : {X : Type 0} (xs : List X) (k : ℕ) (under : List DevNo) (device : DevNo)
    → (slice_get xs k ≡ None → under ≡ []) → Contains under device → k < length xs
item-there xs k under device none has = elim (cases_lt k (length xs)) [
  | inl within ↦ within
  | inr past ↦ absurd (rw (none (slice_get_past xs k past)) at (In-Contains device under has))
]

-- ---- below

module _ (under : ℕ → List DevNo) where
  -- a device refers to another
  abbrev Refers : ℕ → ℕ → Type 0
  Refers device below = Contains (under device) (Dm below)

  -- what lies below does so by a chain
  below-least : AreLeast Refers (Below under)
  below-least P one more device below (direct {device = a} {below = b} refers) =
      one device below refers
  below-least P one more device below (through {device = a} {next = next} {below = b} refers lies) =
      more device next below refers (below-least P one more next below lies)

  -- so it is decided, where nothing lies under a number past the end of some row
  pub decided-below : {X : Type 0} (row : List X)
      → ((k : ℕ) → slice_get row k ≡ None → under k ≡ []) → (device below : ℕ)
      → Decided (Below under device below)
  decided-below row none = chain-decided Refers (Below under) (λ a b refers. direct refers)
      (λ a b c refers lies. through refers lies) below-least (length row)
      (λ a b. item-there row a (under a) (Dm b) (none a))
      (λ a b. decided-contains (under a) (Dm b))
