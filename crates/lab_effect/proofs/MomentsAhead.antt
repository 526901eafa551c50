-- The least moment that lies ahead is later than now.
use Rattle.lab_model.proofs.Common.{◌≡◌, ◌≤◌, ℕ, List, Some, arith, filter, min, nat_lt}
use Rattle.lab_model.proofs.LeastAhead.{least-is}
use Rattle.std.specs.List.{reduce}

-- so the clock doesn't go back to it
pub least-later : (now : ℕ) (moments : List ℕ) (least : ℕ)
    → reduce min (filter (nat_lt now) moments) ≡ Some least → now ≤ least
least-later now moments least is = omega (arith, (least-is now moments least is).1)
