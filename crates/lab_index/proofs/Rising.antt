-- The way up a tree of counts from a leaf with a new count.
use Rattle.std.proofs.lemmas.Grind.{get_or-set_at}
use Rattle.std.proofs.lemmas.Bool.Decides.{nat_tests}
use Rattle.std.proofs.Common.{rules, ◌≡◌, ◌≢◌, ℕ, suc, ◌+◌, ◌-◌, ◌*◌, ◌/◌, ◌^◌, ◌<◌, ◌≤◌, List}
use Rattle.std.proofs.Common.{length, drop, set, get_or, ◌∙◌, arith, sum, inl, inr}
use Rattle.std.proofs.lemmas.Bool.{cases_eq, cases_lt}
use Rattle.std.proofs.lemmas.List.{get_or-drop, get_or-set_other, get_or-set_same, length-drop}
use Rattle.std.proofs.lemmas.List.{drop-set-add, drop-set-lt, length-set}
use Rattle.std.proofs.lemmas.List.Sums.{get_or-le-sum_by, sum_by-set}
use Rattle.std.proofs.Math.Nat.{lt_of_mul-lt-mul_right, mul-le-mul_left, pow-le-pow_right}
use Rattle.lab_index.specs.Tree.{AddsUp, IsNode, IsSum, before}
use Rattle.lab_index.proofs.Nodes.{node-sum, one-step, wider}
use Rattle.lab_index.proofs.Puts.{HasPut, Holds, before-past, before-until, holder-is_node}
use Rattle.lab_index.proofs.Puts.{holds-above, leaf-le}

-- the nodes behind this one, which has the leaf below it, are right, and the others are as they were
pub record IsRising (leaves at count : ℕ) (old counts : List ℕ) (node : ℕ) : Type 0 where
  pub step : ℕ
  pub holds : Holds (leaves + at) step node
  pub low : node < leaves
  pub size : length counts ≡ 2 * leaves
  pub put : HasPut leaves at count old counts
  pub all : get_or counts 0 0 ≡ sum (drop leaves counts)
  pub sums : (s j : ℕ) → IsNode leaves (suc s) j → node < j → IsSum leaves counts (suc s) j
  pub still : (j : ℕ) → 0 < j → j ≤ node → get_or counts j 0 ≡ get_or old j 0

-- a node above the leaves stands before them
pub before-leaves : {leaves step j : ℕ} → IsNode leaves (suc step) j → j < leaves
before-leaves {step = step} {j = j} node =
    omega (arith, mul-le-mul_left j (wider 0 (suc step) (omega arith)), node.to)

-- of two nodes with this leaf below them the lower number is no higher than the node above the other
lower-holder : {leaf step other node j : ℕ} → Holds leaf step node → Holds leaf other j → j < node
    → j ≤ node / 16
lower-holder {step = step} {other = other} {node = node} {j = j} here there less =
    elim (cases_lt step other) [
      | inl up ↦
          let far = mul-le-mul_left j (wider step other up) in
          let below : 16 * j < node + 1 =
          lt_of_mul-lt-mul_right (16 ^ step) (omega (arith, far, there.from, here.to)) in
          omega arith
      | inr down ↦
          let near : 16 ^ other ≤ 16 ^ step = pow-le-pow_right (omega arith) down in
          let above : node < j + 1 = lt_of_mul-lt-mul_right (16 ^ other)
          (omega (arith, mul-le-mul_left node near, here.from, there.to)) in
          absurd (omega arith)
    ]

-- the leaf with its new count, and with it the count of all
abbrev pub first-counts : List ℕ → ℕ → ℕ → ℕ → List ℕ
first-counts old leaf count all = set (set old leaf count) 0 all

-- what a node that isn't on the way counts stays
kept-sum : (leaves s j : ℕ) (counts new : List ℕ) → drop leaves new ≡ drop leaves counts
    → get_or new j 0 ≡ get_or counts j 0 → IsSum leaves counts s j → IsSum leaves new s j
unfolding before
kept-sum leaves s j counts new same still was = rw (same, still) was

module _ (leaves at count : ℕ) (old : List ℕ) (inside : at < leaves)
    (tree : AddsUp leaves old) where
  -- a node that hasn't the leaf below it counts what it did
  apart-sum : (s j : ℕ) (new : List ℕ) → HasPut leaves at count old new → IsNode leaves (suc s) j
      → ¬ Holds (leaves + at) (suc s) j → get_or new j 0 ≡ get_or old j 0
      → IsSum leaves new (suc s) j
  apart-sum s j new put node none still =
      let width = 16 ^ suc s in
      let past = before-past leaves at count old new put tree.low.size inside in
      grind (arith, nat_tests, before-until)

  -- a node that has it, and gets what the leaf got, counts what stands in the leaves below it
  node-right : (step node : ℕ) (new : List ℕ) → 0 < node → Holds (leaves + at) step node
      → HasPut leaves at count old new
      → get_or new node 0 ≡ get_or old node 0 + count - get_or old (leaves + at) 0
      → IsSum leaves new step node
  node-right step node new some holds put is =
      grind (arith, nat_tests, leaf-le, node-sum, holder-is_node, before-until, before-past)

  -- where a node is right, too, the way goes on one step higher
  rising-next : (step node : ℕ) (counts : List ℕ) → Holds (leaves + at) step node → 0 < node
      → node < 2 * leaves → length counts ≡ 2 * leaves → HasPut leaves at count old counts
      → get_or counts 0 0 ≡ sum (drop leaves counts)
      → ((s j : ℕ) → IsNode leaves (suc s) j → node ≤ j → IsSum leaves counts (suc s) j)
      → ((j : ℕ) → 0 < j → j < node → j < leaves → get_or counts j 0 ≡ get_or old j 0)
      → IsRising leaves at count old counts (node / 16)
  rising-next step node counts holds some inside-list size put all sums still = record {
    step = suc step;
    holds = holds-above holds;
    low = omega arith;
    size = size;
    put = put;
    all = all;
    sums = λ s j is-node behind. elim (cases_lt j node) [
      | inl before ↦ apart-sum s j counts put is-node
          (λ held. omega (arith, lower-holder holds held before))
          (still j is-node.some before (before-leaves is-node))
      | inr from ↦ sums s j is-node from
    ];
    still = λ j positive upto. still j positive (omega arith) (omega arith);
  }

  -- the way begins one step above the leaf
  pub rising-starts : (all : ℕ) → all ≡ get_or old 0 0 + count - get_or old (leaves + at) 0
      → IsRising leaves at count old (first-counts old (leaves + at) count all)
      ((leaves + at) / 16)
  rising-starts all is =
      let leaf = leaves + at in
      let put : HasPut leaves at count old (first-counts old leaf count all) =
      search (rules, drop-set-lt, drop-set-add) in
      let here : at < length (drop leaves old) = rw length-drop (omega (arith, tree.low.size)) in
      let size = length-set old leaf count ∙ tree.low.size in
      rising-next 0 leaf _ (record { from = omega arith; to = omega arith }) (omega arith)
      (omega arith) (length-set (set old leaf count) 0 all ∙ size) put
      (search (
        rules,
        get_or-set_same,
        sum_by-set,
        get_or-drop,
        get_or-le-sum_by,
      )) (λ s j is-node from. absurd (omega (arith, before-leaves is-node)))
      (search (rules, get_or-set_other))

  -- and goes on from a node that gets what the leaf got
  pub rising-on : (node value : ℕ) (counts : List ℕ) → 0 < node
      → value ≡ get_or counts node 0 + count - get_or old (leaves + at) 0
      → IsRising leaves at count old counts node
      → IsRising leaves at count old (set counts node value) (node / 16)
  rising-on node value counts some more way =
      let new = set counts node value in
      let here = holder-is_node leaves at inside some way.holds in
      let same : drop leaves new ≡ drop leaves counts =
      drop-set-lt leaves counts node value way.low in
      let is : get_or new node 0 ≡ value =
      get_or-set_same counts node value 0 (omega (arith, way.low, way.size)) in
      let other : (j : ℕ) → j ≢ node → get_or new j 0 ≡ get_or counts j 0 =
      λ j apart. get_or-set_other counts node j value 0 apart in
      rising-next way.step node new way.holds some (omega (arith, way.low))
      (length-set counts node value ∙ way.size) (same ∙ way.put)
      (rw (other 0 (omega arith), same) way.all)
      (λ s j is-node from. elim (cases_eq j node) [
        | inl this ↦ rw (this, one-step (rw this at is-node) here) (node-right way.step node new some
            way.holds (same ∙ way.put) (omega (arith, is, more, way.still node some (omega arith))))
        | inr apart ↦ grind (arith, nat_tests, kept-sum)
      ]) (λ j positive before low. other j (omega arith) ∙ way.still j positive (omega arith))

  -- above the last node there is none, so that all are right
  pub rising-ends : (counts : List ℕ) → count ≤ 64 → IsRising leaves at count old counts 0
      → AddsUp leaves counts
  rising-ends counts few way = search (rules, length-drop, get_or-set_at, get_or-set_other)
