-- The nodes of a tree of counts: which leaves stand below each.
use Rattle.std.proofs.Common.{rules, ◌≡◌, ℕ, zero, suc, ◌+◌, ◌-◌, ◌*◌, ◌^◌, ◌<◌, ◌≤◌, List, length}
use Rattle.std.proofs.Common.{take, drop, get_or, sym, arith, sum, inl, inr}
use Rattle.std.proofs.lemmas.Bool.{cases_order}
use Rattle.std.proofs.lemmas.List.{get_or-drop, length-drop, take-take, take_all}
use Rattle.std.proofs.lemmas.List.Sums.{sum_by_more, sum_by-take-le}
use Rattle.std.proofs.Math.Numerals.{add-one}
use Rattle.std.proofs.Math.Nat.{pow-suc, mul-le-mul_left, mul-le-mul_right, one-le-pow}
use Rattle.std.proofs.Math.Nat.{pow-le-pow_right, mul-one}
use Rattle.lab_index.specs.Tree.{AddsUp, IsNode, IsSum, before}

-- a step has some width
pub wide : (step : ℕ) → 0 < 16 ^ step
wide step = one-le-pow step 16 (omega arith)

-- a later step is sixteen times as wide, or more
pub wider : (low high : ℕ) → low < high → 16 * 16 ^ low ≤ 16 ^ high
wider low high later =
    let up : 16 ^ suc low ≤ 16 ^ high = pow-le-pow_right (omega arith) later in
    omega (arith, rw (pow-suc 16 low) at up)

-- a node stands at no later step, too
pub no-later : {leaves low high j : ℕ} → low < high → IsNode leaves low j → IsNode leaves high j
    → low ≡ high
no-later {j = j} later here there =
    search (rules, mul-le-mul_right, mul-le-mul_left j (wider _ _ later), wide)

-- a node stands at one step
pub one-step : {leaves step other j : ℕ} → IsNode leaves step j → IsNode leaves other j
    → step ≡ other
one-step {step = step} {other = other} here there =
    elim (cases_order step other) [
      | inl same ↦ same
      | inr (inl less) ↦ no-later less here there
      | inr (inr more) ↦ sym (no-later more there here)
    ]

-- a part of some numbers is no more than a longer one
pub sum-longer : (xs : List ℕ) (n m : ℕ) → n ≤ m → sum (take n xs) ≤ sum (take m xs)
sum-longer xs n m more = rw (← take-take n m xs more) (sum_by-take-le (λ n. n) (take m xs) n)

module _ (leaves : ℕ) (counts : List ℕ) where
  -- no more stand before a node than before one behind it
  pub before-later : (x y : ℕ) → x ≤ y → before leaves counts x ≤ before leaves counts y
  unfolding before
  before-later x y later = search (rules, sum-longer)

  -- all stand before the end
  pub before-all : (x : ℕ) → length counts ≡ 2 * leaves → 2 * leaves ≤ x
      → before leaves counts x ≡ sum (drop leaves counts)
  unfolding before
  before-all x size past = search (rules, take_all, length-drop)

  -- one leaf on
  pub before-next : (x : ℕ) → length counts ≡ 2 * leaves → leaves ≤ x → x < 2 * leaves
      → before leaves counts (x + 1) ≡ before leaves counts x + get_or counts x 0
  unfolding before
  before-next x size from to =
      let next : x + 1 - leaves ≡ x - leaves + 1 = omega arith in
      let place : leaves + (x - leaves) ≡ x = omega arith in
      search (rules, length-drop, sum_by_more, get_or-drop)

-- a node is in the list
pub node-inside : {leaves step j : ℕ} → IsNode leaves step j → j < 2 * leaves
node-inside {step = step} {j = j} node = search (rules, mul-le-mul_left, wide)

-- nodes whose leaves are all there
pub record AreAt (leaves step first n : ℕ) : Type 0 where
  pub some : 0 < first
  pub from : leaves ≤ first * 16 ^ step
  pub to : (first + n) * 16 ^ step ≤ 2 * leaves

-- each of them is a node
pub is_node : {leaves step first n : ℕ} (place : ℕ) → AreAt leaves step first n → place < n
    → IsNode leaves step (first + place)
is_node {step = step} {first = first} {n = n} place are inside =
    search (rules, mul-le-mul_right, wide)

module _ {leaves : ℕ} {counts : List ℕ} (tree : AddsUp leaves counts) where
  -- a node counts what stands in the leaves below it, and so does a leaf
  pub node-sum : {step j : ℕ} → IsNode leaves step j → IsSum leaves counts step j
  node-sum {step = zero} {j = j} node =
      rw (mul-one, mul-one) (search (rules, before-next))
  node-sum {step = suc step} {j = j} node = tree.sums step j node

  -- nodes side by side count what stands in the leaves below them
  pub siblings : {step first all : ℕ} (n : ℕ) → n ≤ all → AreAt leaves step first all
      → before leaves counts ((first + n) * 16 ^ step)
      ≡ before leaves counts (first * 16 ^ step) + sum (take n (drop first counts))
  siblings zero within are = search rules
  siblings {first = first} (suc n) within are =
      let node = is_node n are (omega arith) in
      let next : first + suc n ≡ first + n + 1 = omega arith in
      let inside : n < length (drop first counts) =
      rw length-drop (omega (arith, node-inside node, tree.low.size)) in
      let sum-more = sum_by_more (λ n. n) (drop first counts) n 0 inside in
      rw (next, node-sum node, siblings n (omega arith) are, ← add-one n, sum-more, get_or-drop)
      (omega arith)
