-- A leaf gets a new count: how many stand before each node then, and which nodes have it below.
use Rattle.std.proofs.Common.{rules, ◌≡◌, ℕ, suc, ◌+◌, ◌*◌, ◌/◌, ◌^◌, ◌<◌, ◌≤◌, List, [], ◌∷◌}
use Rattle.std.proofs.Common.{length, drop, set, get_or, arith, sum}
use Rattle.std.proofs.lemmas.List.{get_or-drop, get_or-take, length-drop, length-take, take-set-le}
use Rattle.std.proofs.lemmas.List.Sums.{sum_by-cons, sum_by-set, sum_by-take-le}
use Rattle.std.proofs.Math.Nat.{pow-suc, mul-le-mul_right}
use Rattle.std.proofs.Math.Seq.{take-set-lt}
use Rattle.lab_index.specs.Tree.{AddsUp, IsLow, IsNode, before}
use Rattle.lab_index.proofs.Nodes.{before-later, before-next, node-sum}

-- the leaves with a new count at one place
abbrev pub HasPut : ℕ → ℕ → ℕ → List ℕ → List ℕ → Type 0
HasPut leaves at count old new = drop leaves new ≡ set (drop leaves old) at count

module _ (leaves at count : ℕ) (old new : List ℕ) (put : HasPut leaves at count old new) where
  -- before what comes behind the leaf stand as many more
  pub before-past : length old ≡ 2 * leaves → at < leaves → (x : ℕ) → leaves + at < x
      → before leaves new x + get_or old (leaves + at) 0 ≡ before leaves old x + count
  unfolding before
  before-past size inside x past =
      search (rules, length-take, length-drop, get_or-take, take-set-lt, get_or-drop, sum_by-set)

  -- before what comes no later, as many as before
  pub before-until : (x : ℕ) → x ≤ leaves + at → before leaves new x ≡ before leaves old x
  unfolding before
  before-until x until = search (rules, take-set-le)

-- node j, so many steps above the leaves, has this leaf below it
pub record Holds (leaf step j : ℕ) : Type 0 where
  pub from : j * 16 ^ step ≤ leaf
  pub to : leaf < (j + 1) * 16 ^ step

-- it is a node
pub holder-is_node : {step j : ℕ} (leaves at : ℕ) → at < leaves → 0 < j
    → Holds (leaves + at) step j → IsNode leaves step j
holder-is_node leaves at inside some holds = search rules

-- the node above one that has the leaf below it has it, too
pub holds-above : {leaf step node : ℕ} → Holds leaf step node → Holds leaf (suc step) (node / 16)
holds-above {step = step} {node = node} holds =
    let low : node / 16 * 16 * 16 ^ step ≤ node * 16 ^ step =
    mul-le-mul_right (16 ^ step) (omega arith) in
    let high : (node + 1) * 16 ^ step ≤ (node / 16 + 1) * 16 * 16 ^ step =
    mul-le-mul_right (16 ^ step) (omega arith) in
    record {
      from = rw (pow-suc 16 step) (omega (arith, low, holds.from));
      to = rw (pow-suc 16 step) (omega (arith, high, holds.to));
    }

-- low numbers have a low sum
sum-low : (xs : List ℕ) → ((i : ℕ) → get_or xs i 0 ≤ 64) → sum xs ≤ 64 * length xs
sum-low [] low = omega arith
sum-low (x ∷ xs) low =
    omega (arith, sum_by-cons (λ (n : ℕ). n) x xs, low 0, sum-low xs (λ i. low (suc i)))

-- all leaves together count so many
pub all-few : (leaves : ℕ) (counts : List ℕ) → IsLow leaves counts
    → sum (drop leaves counts) ≤ 64 * leaves
all-few leaves counts low = search (rules, sum-low, length-drop)

-- a node counts no more than all leaves
pub node-few : {leaves step node : ℕ} {counts : List ℕ} → AddsUp leaves counts
    → IsNode leaves step node → get_or counts node 0 ≤ 64 * leaves
unfolding before
node-few tree is = omega (arith, sum_by-take-le (λ n. n), node-sum tree is, all-few _ _ tree.low)

-- and no less than a leaf below it
pub leaf-le : {leaves step node : ℕ} {counts : List ℕ} (at : ℕ) → AddsUp leaves counts
    → at < leaves → 0 < node → Holds (leaves + at) step node
    → get_or counts (leaves + at) 0 ≤ get_or counts node 0
leaf-le {leaves = leaves} {step = step} {node = node} {counts = counts} at tree inside some holds =
    let later = before-later leaves counts in
    let sum = node-sum tree (holder-is_node leaves at inside some holds) in
    let next = before-next leaves counts (leaves + at) tree.low.size (omega arith) (omega arith) in
    search rules
