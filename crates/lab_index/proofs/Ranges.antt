-- What the library says of a set, in terms of the numbers that it has. The first number of a set's
-- range from a number on, as the next number of a group.
use Rattle.std.proofs.Common.{rules, ◌≡◌, ◌≢◌, ℕ, Bool, ◌==◌, List, [], ◌∷◌, nat_cmp, sym, ◌∙◌}
use Rattle.std.proofs.Common.{arith, ◌≤◌, false, Option, Some, None, Bor, get_or, refl, ap, subst}
use Rattle.std.specs.BTreeMap.{is_at}
use Rattle.std.specs.BTreeSet.{BTreeSet, Updates, IsKeyRangeOf}
use Rattle.std.specs.List.{list_any}
use Rattle.std.proofs.lemmas.Bool.Decides.{nat_tests}
use Rattle.std.specs.Ordering.{is_gt}
use Rattle.std.specs.Prelude.{IfNone, IfSome, MatchOption, option_copied}
use Rattle.std.specs.declared.ops.Bound.TheVariants.{Included, Unbounded}
use Rattle.lab_index.specs.Groups.{Groups, IsNext, is_in}

-- the library finds a number among the keys where it is one of them
pub found-there : (number : ℕ) (keys : List ℕ)
    → list_any (is_at (nat_cmp number)) keys ≡ list_any (λ n. n == number) keys
found-there number [] = search rules
found-there number (key ∷ keys) = search (rules, found-there number keys)

-- an update at a number says of it whether it is there afterwards
pub updated-here : (old new : BTreeSet ℕ) (number : ℕ) (there : Bool)
    → Updates nat_cmp old new number there → list_any (λ n. n == number) new.keys ≡ there
updated-here old new number there updates = sym (found-there number new.keys) ∙ updates.1

-- and each other number is there as before
pub updated-others : (old new : BTreeSet ℕ) (number : ℕ) (there : Bool)
    → Updates nat_cmp old new number there → (other : ℕ) → other ≢ number
    → list_any (λ n. n == other) new.keys ≡ list_any (λ n. n == other) old.keys
updated-others old new number there updates other apart =
    sym (found-there other new.keys) ∙ updates.2 other (grind (arith, nat_tests, apart))
    ∙ found-there other old.keys

-- and conversely
from-not_above : (a b : ℕ) → is_gt (nat_cmp a b) ≡ false → a ≤ b
from-not_above a b is = grind (arith, nat_tests, is)

-- the range of a set from a number on
abbrev pub IsFrom : BTreeSet ℕ → ℕ → List ℕ → Type 0
IsFrom set from range = IsKeyRangeOf nat_cmp (Included from) Unbounded set range

-- the first of such a range is the next number of the group with the set's numbers
first-next : (groups : Groups) (group from number : ℕ) (set : BTreeSet ℕ) (rest : List ℕ)
    → get_or groups group [] ≡ set.keys → IsFrom set from (number ∷ rest)
    → IsNext groups group from number
first-next groups group from number set rest is range = record {
  is = ap (list_any (λ n. n == number)) is ∙ sym (found-there number set.keys) ∙ range.1.1;
  reached = from-not_above from number range.1.0.0;
  least = λ other low there. from-not_above number other
      (range.2 other ((grind (arith, nat_tests, low)), tt)
      (found-there other set.keys ∙ sym (ap (list_any (λ n. n == other)) is) ∙ there));
}

-- where such a range is empty, no number from there on is in the group
none-next : (groups : Groups) (group from : ℕ) (set : BTreeSet ℕ)
    → get_or groups group [] ≡ set.keys → IsFrom set from []
    → (number : ℕ) → from ≤ number → is_in groups group number ≡ false
none-next groups group from set is range number low = ap (list_any (λ n. n == number)) is ∙
    sym (found-there number set.keys) ∙ range.5 refl number ((grind (arith, nat_tests, low)), tt)

-- so what the library takes from the range first is the next number
pub next-some : (groups : Groups) (group from : ℕ) (set : BTreeSet ℕ) (range rest : List ℕ)
    (found : Option (Bor ℕ)) → get_or groups group [] ≡ set.keys → IsFrom set from range
    → MatchOption found ((range ≡ []) × (rest ≡ [])) (λ first. range ≡ first.now ∷ rest)
    → IfSome (option_copied found) (IsNext groups group from)
next-some groups group from set range rest None is in_range step = tt
next-some groups group from set range rest (Some first) is in_range step =
    first-next groups group from first.now set rest is (subst (IsFrom set from) step in_range)

-- and where it takes none, there is none
pub next-none : (groups : Groups) (group from : ℕ) (set : BTreeSet ℕ) (range rest : List ℕ)
    (found : Option (Bor ℕ)) → get_or groups group [] ≡ set.keys → IsFrom set from range
    → MatchOption found ((range ≡ []) × (rest ≡ [])) (λ first. range ≡ first.now ∷ rest)
    → IfNone (option_copied found)
    ((number : ℕ) → from ≤ number → is_in groups group number ≡ false)
next-none groups group from set range rest None is in_range step =
    none-next groups group from set is (subst (IsFrom set from) step.0 in_range)
next-none groups group from set range rest (Some first) is in_range step = tt
