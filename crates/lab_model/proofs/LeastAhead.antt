-- The least moment that lies ahead: there is one where a moment lies ahead, it is one of the
-- moments, and it lies ahead.
use Rattle.lab_model.proofs.Common.{rules, ◌≡◌, ℕ, ◌<◌, true, nat_lt, min, fold, filter}
use Rattle.lab_model.proofs.Common.{List, [], ◌∷◌, Some, refl, arith, nat_tests, is_some, inl}
use Rattle.lab_model.proofs.Common.{list_any, None-not-Some, In}
use Rattle.std.specs.List.{reduce}

-- the least of a moment ahead and those of others that lie ahead is one of them, and lies ahead
fold-ahead : (now first : ℕ) (xs : List ℕ) → now < first
    → let least = fold min first (filter (nat_lt now) xs) in In least (first ∷ xs) × (now < least)
fold-ahead now first [] ahead = (inl refl, ahead)
fold-ahead now first (x ∷ xs) ahead =
    grind (arith, nat_tests, fold-ahead now first xs, fold-ahead now (min first x) xs)

-- the least moment ahead is one of the moments, and lies ahead
pub least-is : (now : ℕ) (xs : List ℕ) (least : ℕ)
    → reduce min (filter (nat_lt now) xs) ≡ Some least → In least xs × (now < least)
least-is now [] least is = absurd (None-not-Some is)
least-is now (x ∷ xs) least is =
    grind (arith, nat_tests, fold-ahead now x xs, least-is now xs least)

-- there is a least moment ahead just where some moment lies ahead
pub ahead_some : (now : ℕ) (moments : List ℕ)
    → is_some (reduce min (filter (nat_lt now) moments))
    ≡ list_any (λ moment. nat_lt now moment) moments
ahead_some now [] = refl
ahead_some now (moment ∷ more) = search (rules, ahead_some now more)

-- so where a test passes for one of some moments that are later than now, there is a least of them
pub least-there : (now : ℕ) (xs : List ℕ) → list_any (λ moment. nat_lt now moment) xs ≡ true
    → (moment : ℕ) × (reduce min (filter (nat_lt now) xs) ≡ Some moment)
least-there now xs may = search (rules, ahead_some now xs)
