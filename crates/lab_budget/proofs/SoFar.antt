-- Numbers that are told up to the limit, summed up or compared one after another, and loops over
-- lists whose items' costs and visited pieces are summed up.
use Rattle.lab_model.proofs.Common.{rules, ◌≡◌, ℕ, ◌+◌, ◌≤◌, max, List, [], ◌∷◌, map, sum, refl}
use Rattle.lab_model.proofs.Common.{arith, ◌<◌, Bool, true, length, get_or, drop, filter}
use Rattle.lab_model.proofs.Common.{sum_by-cons, greatest, None, slice_get, subst}
use Rattle.std.proofs.lemmas.Option.{slice_get_cases}
use Rattle.lab_table.specs.declared.scenario.TheConstants.{LIMIT}
use Rattle.lab_budget.specs.Capped.{capped}
use Rattle.std.proofs.lemmas.List.{at_drop_more, at_drop_all}
use Rattle.lab_budget.specs.declared.cost.OpCost.{OpCost}
use Rattle.lab_budget.specs.Counted.{IsCounted}

-- a number is told of the first numbers of a sum; with the rest it is that of the whole
pub record SumsTo (total rest n : ℕ) : Type 0 where
  pub low : n ≤ LIMIT + 1
  pub whole : capped (n + rest) ≡ capped total

-- a number is told of the greatest of the first numbers; with the rest it is that of all
pub record RisesTo (total rest n : ℕ) : Type 0 where
  pub low : n ≤ LIMIT + 1
  pub whole : capped (max n rest) ≡ capped total

-- the sum of one item more
pub sum-cons : {X : Type 0} (f : X → ℕ) (x : X) (xs : List X)
    → sum (map f (x ∷ xs)) ≡ f x + sum (map f xs)
sum-cons f x xs = sum_by-cons (λ n. n) (f x) (map f xs)

-- sums of items that are told alike are told alike
pub capped-sum : {X : Type 0} (f g : X → ℕ) → ((x : X) → capped (f x) ≡ capped (g x))
    → (xs : List X) → capped (sum (map f xs)) ≡ capped (sum (map g xs))
capped-sum f g same [] = search (rules, sum-cons)
capped-sum f g same (x ∷ xs) = search (rules, sum-cons, capped-sum f g same xs)

-- so is the greatest of them
pub capped-greatest : {X : Type 0} (f g : X → ℕ) → ((x : X) → capped (f x) ≡ capped (g x))
    → (xs : List X) → capped (greatest (map f xs)) ≡ capped (greatest (map g xs))
capped-greatest f g same [] = refl
capped-greatest f g same (x ∷ xs) = omega (arith, same x, capped-greatest f g same xs)

-- both sums as far as a loop has come
pub record SumSoFar (events pieces rest_events rest_pieces : ℕ) (op : OpCost) : Type 0 where
  pub visited : SumsTo pieces rest_pieces op.visited
  pub cost : pieces ≤ LIMIT → SumsTo events rest_events op.cost

-- the greatest cost and the sum of the visited pieces as far as a loop has come
pub record MostSoFar (events pieces rest_events rest_pieces : ℕ) (op : OpCost) : Type 0 where
  pub visited : SumsTo pieces rest_pieces op.visited
  pub cost : pieces ≤ LIMIT → RisesTo events rest_events op.cost

-- past the limit
pub most-over : {events pieces rest_events rest_pieces : ℕ} {op : OpCost} (own : ℕ)
    → LIMIT < op.visited → MostSoFar events pieces rest_events rest_pieces op
    → IsCounted (own + events) pieces op
most-over own over so = search rules

-- of the items that pass
module _ {X : Type 0} (test : X → Bool) (costs visits : X → ℕ) (xs : List X) where
  -- how far a loop has come that has the items from one on before it
  abbrev pub MostAt : ℕ → ℕ → ℕ → OpCost → Type 0
  MostAt events pieces i op = MostSoFar events pieces
      (greatest (map costs (filter test (drop i xs))))
      (sum (map visits (filter test (drop i xs)))) op

  module _ (i : ℕ) (x : X) (within : i < length xs) (at : x ≡ get_or xs i x) where
    -- the next passes
    pub most-passes : test x ≡ true
        → (events pieces : ℕ) (op one next : OpCost) → MostAt events pieces i op
        → IsCounted (costs x) (op.visited + visits x) one
        → next.cost ≡ max op.cost one.cost → next.visited ≡ one.visited
        → MostAt events pieces (i + 1) next
    most-passes passes events pieces op one next so is cost visited =
        let all = sum-cons visits x (filter test (drop (i + 1) xs)) in
        let before = rw (at_drop_more (filter test) xs i x within, ← at, passes) at so in
        let counted : SumsTo pieces (sum (map visits (filter test (drop (i + 1) xs)))) next.visited
        = record { low = omega arith; whole = omega (arith, before.visited) } in
        search rules

  -- those behind that don't pass are passed by
  pub most-onward : (i j : ℕ) → filter test (drop i xs) ≡ filter test (drop j xs)
      → (events pieces : ℕ) (op : OpCost) → MostAt events pieces i op → MostAt events pieces j op
  most-onward i j passed events pieces op so = subst
      (λ left. MostSoFar events pieces (greatest (map costs left)) (sum (map visits left)) op)
      passed so

  -- none is left
  pub most-last : (i : ℕ) → length xs ≤ i → (events pieces own : ℕ) (op last : OpCost)
      → MostAt events pieces i op → last.cost ≡ capped (own + op.cost)
      → last.visited ≡ op.visited → IsCounted (own + events) pieces last
  most-last i past _ _ _ op last so cost visited = search (rules, at_drop_all (filter test) xs i)

-- a place where no item is lies behind all
pub past-all : {X : Type 0} (xs : List X) (i : ℕ) → slice_get xs i ≡ None → length xs ≤ i
past-all xs i none = search (rules, slice_get_cases)
