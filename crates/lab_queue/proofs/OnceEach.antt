-- A row in which each number stands once, seen as the finite map of its numbers to their ranks.
use Rattle.std.proofs.Common.{rules, Option, ◌≡◌, ◌≢◌, ℕ, List, [], ◌∷◌, Some, None, refl, ap, sym}
use Rattle.std.proofs.Common.{◌∙◌, arith, nat_eq, inl, inr}
use Rattle.std.specs.Prelude.{Contains, ◌⊎◌, ◌↔◌, map}
use Rattle.std.specs.Ordering.{nat_cmp}
use Rattle.std.specs.Cmp.{nat_cmp_total}
use Rattle.std.specs.Map.{lookup}
use Rattle.std.specs.FinMap.{FinMap, get, insert, remove, same_map, nat_cmp-IsAntisymmetric}
use Rattle.std.specs.FinMap.{empty, get-empty}
use Rattle.std.proofs.lemmas.Bool.{eq-eqb, ne_eqb, cases_eq}
use Rattle.std.proofs.lemmas.Option.{none-some}
use Rattle.lab_queue.specs.declared.ranking.Ranked.{Ranked}
use Rattle.lab_queue.specs.Indexed.{IsIndex}
use Rattle.lab_queue.specs.Moments.{moments_in}
use Rattle.lab_queue.proofs.Indexes.{get-entries, get-insert_other, get-insert_same}
use Rattle.lab_queue.proofs.Indexes.{get-remove_other, get-remove_same, index-drop, index-put}
use Rattle.lab_queue.proofs.Ranks.{Contains-cons, Contains-cons_cases, entry, same_ranked}

-- entries of a row with the same number have the same rank
abbrev AreOnce : List Ranked → Type 0
AreOnce row = (x y : Ranked) → Contains row x → Contains row y → x.id ≡ y.id → x.rank ≡ y.rank

-- the row's numbers, with their ranks
abbrev pairs : List Ranked → List (ℕ × ℕ)
pairs row = map (λ x. (x.id, x.rank)) row

-- what is found of a number stands in the row
found-stands : (row : List Ranked) (q rank : ℕ) → lookup (nat_eq q) (pairs row) ≡ Some rank
    → Contains row (entry rank q)
found-stands [] q rank is = absurd (cc)
found-stands (y ∷ ys) q rank is = elim (cases_eq q y.id) [
  | inl same ↦ Contains-cons y ys (entry rank q)
      (inl (same_ranked (entry rank q) y (grind (arith, eq-eqb q y.id same, is)) same))
  | inr ne ↦ Contains-cons y ys (entry rank q)
      (inr (found-stands ys q rank (grind (arith, ne_eqb q y.id ne, is))))
]

-- what stands in the row is found
stands-found : (row : List Ranked) (x : Ranked) → AreOnce row → Contains row x
    → lookup (nat_eq x.id) (pairs row) ≡ Some x.rank
stands-found [] x once held = absurd (omega (arith, held.1))
stands-found (y ∷ ys) x once held = elim (cases_eq x.id y.id) [
  | inl same ↦
      let rank = once x y held (Contains-cons y ys y (inl refl)) same in
      grind (arith, eq-eqb x.id y.id same, rank)
  | inr ne ↦ elim (Contains-cons_cases y ys x held) [
    | inl is ↦ absurd (ne (ap (λ (z : Ranked). z.id) is))
    | inr later ↦
        let rest = stands-found ys x (λ a b in_a in_b. once a b (Contains-cons y ys a (inr in_a))
        (Contains-cons y ys b (inr in_b))) later in
        grind (arith, ne_eqb x.id y.id ne, rest)
  ]
]

-- a row that ranks the numbers of a map ranks those of its own
pub ranks-own : (row : List Ranked) (m : FinMap nat_cmp ℕ) → IsIndex row (get m)
    → IsIndex row (get (moments_in row))
ranks-own row m index x = (
  λ held. get-entries (pairs row) x.id ∙ stands-found row x once held,
  λ is. found-stands row x.id x.rank (sym (get-entries (pairs row) x.id) ∙ is),
)
  where
    once : AreOnce row
    once a b in_a in_b same = grind (arith, (index a).0 in_a, (index b).0 in_b)

-- two answers that give just the same are the same
same-answer : (a b : Option ℕ) → ((rank : ℕ) → a ≡ Some rank → b ≡ Some rank)
    → ((rank : ℕ) → b ≡ Some rank → a ≡ Some rank) → a ≡ b
same-answer None None there back = refl
same-answer None (Some rank) there back = back rank refl
same-answer (Some rank) b there back = sym (there rank refl)

-- and its own map is that map
pub own-is : (row : List Ranked) (m : FinMap nat_cmp ℕ) → IsIndex row (get m)
    → moments_in row ≡ m
own-is row m index = same_map nat_cmp_total nat_cmp-IsAntisymmetric _ _ (λ q.
    let own = ranks-own row m index in
    same-answer (get (moments_in row) q) (get m q)
    (λ rank is. (index (entry rank q)).0 ((own (entry rank q)).1 is))
    (λ rank is. (own (entry rank q)).0 ((index (entry rank q)).1 is)))

-- an empty row ranks an empty map
pub none-ranked : (row : List Ranked) → row ≡ [] → IsIndex row (get (empty {X = ℕ} {R = nat_cmp}))
none-ranked row none x = search (rules, get-empty)

-- a number that is put into the map goes into the row
pub put-ranked : (m : FinMap nat_cmp ℕ) (k moment : ℕ) (row new : List Ranked) → IsIndex row (get m)
    → get m k ≡ None
    → ((x : Ranked) → Contains new x ↔ ((x ≡ entry moment k) ⊎ Contains row x))
    → IsIndex new (get (insert m k moment))
put-ranked m k moment row new index free = index-put (get m) (get (insert m k moment)) k moment row
    new index free (get-insert_same m k moment) (λ q ne. get-insert_other m k q moment ne)

-- a number that is taken out of the map goes out of the row
pub taken-ranked : (m : FinMap nat_cmp ℕ) (k moment : ℕ) (row new : List Ranked)
    → IsIndex row (get m) → get m k ≡ Some moment
    → ((x : Ranked) → Contains new x ↔ (Contains row x × (x ≢ entry moment k)))
    → IsIndex new (get (remove m k))
taken-ranked m k moment row new index had = index-drop (get m) (get (remove m k)) k moment row
    new index had (get-remove_same m k) (λ q ne. get-remove_other m k q ne)

-- where nothing is ranked, nothing is held
pub none-due : (row : List Ranked) (m : FinMap nat_cmp ℕ) → IsIndex row (get m)
    → ((y : Ranked) → ¬ Contains row y) → (number : ℕ) → get m number ≡ None
none-due row m index none number = same-answer (get m number) None
    (λ rank is. absurd (none (entry rank number) ((index (entry rank number)).1 is)))
    (λ rank is. absurd (none-some rank is))
