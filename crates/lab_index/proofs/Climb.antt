-- The way up a tree of counts from a leaf, and the row of nodes in which it ends. What is counted
-- from the node on where the way up from a leaf ends, before which none stand.
use Rattle.std.proofs.Common.{rules, ◌≡◌, ℕ, zero, suc, ◌+◌, ◌-◌, ◌*◌, ◌^◌, ◌<◌, ◌≤◌, refl, mul-suc}
use Rattle.std.proofs.Common.{arith, List, take, drop, get_or, sum}
use Rattle.std.proofs.Math.Pow.{pow_mono}
use Rattle.std.proofs.Math.Nat.{pow-suc, mul-le-mul_right, lt_of_mul-lt-mul_right}
use Rattle.std.proofs.lemmas.Nat.{pow-add}
use Rattle.lab_index.proofs.Nodes.{AreAt, before-all, before-later, siblings, sum-longer}
use Rattle.lab_index.proofs.Puts.{Holds}
use Rattle.std.proofs.lemmas.List.{get_or-take, length-take, take-take}
use Rattle.std.proofs.lemmas.List.Sums.{sum_by-take-le}
use Rattle.lab_index.specs.Tree.{AddsUp, before}
use Rattle.lab_index.proofs.Descent.{IsPlaceOf, StandsBelow, stands-at}
use native.Mathlib.Nat.{add-sub_cancel_left}

-- a power of two in steps of sixteen
power : (step : ℕ) → 2 ^ (4 * step) ≡ 16 ^ step
power zero = refl
power (suc step) = search (rules, pow-add, pow-suc, mul-suc, power step)

-- a node above a leaf is few steps up
pub few-steps : {leaf step node : ℕ} (bits : ℕ) → leaf < 2 ^ bits → 0 < node
    → Holds leaf step node → 4 * step < bits
few-steps {step = step} bits fits some holds =
    grind (arith, pow_mono, mul-le-mul_right (16 ^ step) some, holds.from, power step)

-- so many nodes stand in a row, and as many before it
abbrev pub half-row : ℕ → ℕ → ℕ
half-row height step = 2 ^ (height - 4 * step)

-- all leaves stand below them
pub leaves-below : (height step : ℕ) → 4 * step ≤ height
    → 2 ^ height ≡ half-row height step * 16 ^ step
leaves-below height step low = search (rules, pow-add, power)

-- a node with this leaf below it
pub record IsAbove (height first step node : ℕ) : Type 0 where
  pub inside : first < 2 ^ height
  pub some : 0 < node
  pub holds : Holds (2 ^ height + first) step node

-- how many nodes there are from this one to the end of its row
abbrev pub to-end : ℕ → ℕ → ℕ → ℕ
to-end height step node = 2 * half-row height step - node

module _ {height first step node : ℕ} (above : IsAbove height first step node) where
  -- it is no more steps up than the highest row
  pub low-step : 4 * step ≤ height
  low-step =
      let fits : 2 ^ height + first < 2 ^ suc height = omega (arith, pow-suc 2 height) in
      omega (arith, few-steps (suc height) fits above.some above.holds)

  -- it stands in the row
  pub in-row : (half-row height step ≤ node) × (node ≤ 2 * half-row height step)
  in-row =
      let half = half-row height step in
      let below = leaves-below height step low-step in
      let from : half < node + 1 =
      lt_of_mul-lt-mul_right (16 ^ step) (omega (arith, below, above.holds.to)) in
      let to : node < 2 * half =
      lt_of_mul-lt-mul_right (16 ^ step) (omega (arith, below, above.holds.from, above.inside)) in
      (omega arith, omega arith)

  -- the nodes from there to the end of the row
  pub are-row : AreAt (2 ^ height) step node (to-end height step node)
  are-row =
      let half = half-row height step in
      let below = leaves-below height step low-step in
      let end : node + to-end height step node ≡ 2 * half = omega (arith, in-row.1) in
      let from : half * 16 ^ step ≤ node * 16 ^ step = mul-le-mul_right (16 ^ step) in-row.0 in
      record {
        some = above.some;
        from = omega (arith, from, below);
        to = rw end (omega (arith, below));
      }

-- what is found among some numbers stands among the first of them that are more
place-before : (xs : List ℕ) (n k place left : ℕ) → k < sum (take n xs) → IsPlaceOf xs k place left
    → IsPlaceOf (take n xs) k place left
place-before xs n k place left below found =
    search (rules, sum-longer, length-take, take-take, get_or-take)

module _ {counts : List ℕ} (height first k : ℕ) (tree : AddsUp (2 ^ height) counts)
    (passed : sum (take first (drop (2 ^ height) counts)) ≡ 0) (below : k < get_or counts 0 0) where
  module _ {step node : ℕ} (above : IsAbove height first step node) where
    -- none stand before it
    start : before (2 ^ height) counts (node * 16 ^ step) ≡ 0
    unfolding before
    start = search (rules, before-later, add-sub_cancel_left (2 ^ height) first)

    -- the row from there to its end counts all
    row-sum : sum (take (to-end height step node) (drop node counts)) ≡ get_or counts 0 0
    row-sum =
        let n = to-end height step node in
        let wide = leaves-below height step (low-step above) in
        let place = in-row above in
        let end : node + n ≡ 2 * half-row height step = omega (arith, place.1) in
        let past : 2 * 2 ^ height ≤ (node + n) * 16 ^ step = rw end (omega (arith, wide)) in
        let all = before-all (2 ^ height) counts ((node + n) * 16 ^ step) tree.low.size past in
        omega (arith, siblings tree n (omega arith) (are-row above), start, all, tree.all)

    -- and with all behind it no less
    pub rest-sum : get_or counts 0 0 ≤ sum (drop node counts)
    rest-sum = search (rules, row-sum, sum_by-take-le, to-end)

    -- so where it is found from the node on, it stands below a node of the row
    pub stands-in_row : (place left : ℕ) → IsPlaceOf (drop node counts) k place left
        → StandsBelow (2 ^ height) counts k step (node + place) left
    stands-in_row place left found = stands-at tree (are-row above) (omega (arith, start))
        (place-before (drop node counts) _ k place left (omega (arith, row-sum)) found)
