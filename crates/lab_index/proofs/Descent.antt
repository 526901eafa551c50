-- The way down a tree of counts, to the leaf with the k-th.
use Rattle.std.proofs.lemmas.Bool.Decides.{nat_tests}
use Rattle.std.proofs.Common.{rules, ◌≡◌, ℕ, zero, suc, ◌+◌, ◌-◌, ◌*◌, ◌^◌, ◌<◌, ◌≤◌, List, length}
use Rattle.std.proofs.Common.{take, drop, get_or, arith, sum}
use Rattle.std.proofs.lemmas.List.{get_or-drop, get_or-take, length-take, take-take}
use Rattle.std.proofs.Math.Numerals.{sub-one}
use Rattle.std.proofs.Math.Nat.{pow-suc, mul-le-mul_left, mul-le-mul_right}
use Rattle.lab_index.specs.Tree.{AddsUp, IsNode, before}
use Rattle.lab_index.proofs.Nodes.{AreAt, node-sum, siblings, wide}

-- the k-th stands below this node, and is the rest-th there
pub record StandsBelow (leaves : ℕ) (counts : List ℕ) (k step node rest : ℕ) : Type 0 where
  pub some : 0 < node
  pub from : leaves ≤ node * 16 ^ step
  pub to : (node + 1) * 16 ^ step ≤ 2 * leaves
  pub rank : before leaves counts (node * 16 ^ step) + rest ≡ k
  pub few : rest < get_or counts node 0

-- a place among nodes side by side, with what is left there
pub record IsPlaceOf (counts : List ℕ) (rest place left : ℕ) : Type 0 where
  pub inside : place < length counts
  pub rank : sum (take place counts) + left ≡ rest
  pub few : left < get_or counts place 0

-- the children of a node, the rest among them, and how many stand before them
pub record GoesOn (leaves : ℕ) (counts : List ℕ) (k step node rest : ℕ) : Type 0 where
  pub are : AreAt leaves step (16 * node) 16
  pub few : rest < sum (take 16 (drop (16 * node) counts))
  pub rank : before leaves counts (16 * node * 16 ^ step) + rest ≡ k

module _ {leaves : ℕ} {counts : List ℕ} (tree : AddsUp leaves counts) where
  -- nodes side by side are in the list
  pub in-list : {step first n : ℕ} → AreAt leaves step first n → first + n ≤ length counts
  in-list {step = step} {first = first} {n = n} are = search (rules, mul-le-mul_left, wide)

  -- where it is found among nodes side by side, it stands below that one
  pub stands-at : {k step first n rest place left : ℕ} → AreAt leaves step first n
      → before leaves counts (first * 16 ^ step) + rest ≡ k
      → IsPlaceOf (take n (drop first counts)) rest place left
      → StandsBelow leaves counts k step (first + place) left
  stands-at {step = step} {first = first} {n = n} {place = place} are rank found =
      search (rules, length-take, mul-le-mul_right, take-take, siblings, get_or-take, get_or-drop)

  -- a node that has not come down to the leaves has sixteen children
  pub goes-on : {k step node rest : ℕ} → 0 < step → StandsBelow leaves counts k step node rest
      → GoesOn leaves counts k (step - 1) node rest
  goes-on {step = zero} above stands = absurd (omega arith)
  goes-on {step = suc step} {node = node} above stands =
      let next : 16 ^ suc step ≡ 16 ^ step * 16 = pow-suc 16 step in
      let are : AreAt leaves step (16 * node) 16 = record {
        some = omega (arith, stands.some);
        from = omega (arith, rw next at stands.from);
        to = omega (arith, rw next at stands.to);
      } in
      let is-node : IsNode leaves (suc step) node = search (rules, wide) in
      let first : node * 16 ^ suc step ≡ 16 * node * 16 ^ step = rw next (omega arith) in
      let last : (node + 1) * 16 ^ suc step ≡ (16 * node + 16) * 16 ^ step =
      rw next (omega arith) in
      grind (arith, nat_tests, node-sum, sub-one, siblings)
