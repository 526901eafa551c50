-- What maps by two numbers have, so that examples which keep some can be computed.
use Rattle.std.specs.Prelude.{◌≡◌, ℕ, Some, None, cond}
use Rattle.std.specs.FinMap.{get, empty, insert, remove, get-empty, get-insert, get-remove, FinMap}
use Rattle.std.specs.Ordering.{eq_by_cmp}
use Rattle.lab_watch.proofs.Places.{places_total}
use Rattle.lab_watch.specs.Grids.{place_cmp}

module _ {X : Type 0} where
  -- nothing stands in an empty map
  pub at-none : (q : ℕ × ℕ) → get (empty {X = X} {R = place_cmp}) q ≡ None
  at-none q = get-empty place_cmp q

  -- what was put in last stands at its place, and what stood elsewhere before still does
  pub at-insert : (m : FinMap place_cmp X) (k : ℕ × ℕ) (v : X) (q : ℕ × ℕ)
      → get (insert m k v) q ≡ cond (eq_by_cmp place_cmp q k) (Some v) (get m q)
  at-insert m k v q = get-insert places_total m k v q

  -- nothing stands at a place that was cleared last
  pub at-remove : (m : FinMap place_cmp X) (k q : ℕ × ℕ)
      → get (remove m k) q ≡ cond (eq_by_cmp place_cmp q k) None (get m q)
  at-remove m k q = get-remove places_total m k q

-- all of them
pub ruleset places = (at-none, at-insert, at-remove)
