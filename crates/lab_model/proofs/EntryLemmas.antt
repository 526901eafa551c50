-- Lists of entries, some of them gone: one changed inside, one taken out, one put at the end; and
-- what options hold.
use Rattle.std.proofs.Common.{rules, ◌≡◌, ◌⊎◌, inl, inr, ℕ, zero, suc, ◌+◌, Bool, true, List, []}
use Rattle.std.proofs.Common.{◌∷◌, Option, Some, None, drop, filter_map, option_map}
use Rattle.std.proofs.Common.{slice_get, refl, ap, ◌∙◌}
use Rattle.std.specs.List.{list_any}
use Rattle.std.proofs.lemmas.List.{drop_more}
use Rattle.std.proofs.lemmas.Option.{get_or_from_slice_get, slice_get_within}
use Rattle.lab_model.specs.Lists.{change, numbered}
use Rattle.std.specs.Option.{option_flatten}

-- what is left of a list from an item on
pub drop-found : {X : Type 0} (xs : List X) (i : ℕ) (x : X) → slice_get xs i ≡ Some x
    → drop i xs ≡ x ∷ drop (i + 1) xs
drop-found xs i x found = drop_more xs i x (slice_get_within xs i x found)
    ∙ ap (λ y. y ∷ drop (i + 1) xs) (get_or_from_slice_get xs i x x found)

-- what f makes of an option holds something: the option does
pub option_map-holds : {X Y : Type 0} (f : X → Y) (o : Option X) (y : Y)
    → option_map f o ≡ Some y → (x : X) × (o ≡ Some x) × (f x ≡ y)
option_map-holds f o y e = search rules

-- places one further on
pub further : {A B : Type 0} (i j : ℕ) → ((j ≡ i) × A) ⊎ B → ((suc j ≡ suc i) × A) ⊎ B
further i j holds = search rules

-- one entry taken out: that one is gone, another is as before
pub removed-cases : {X : Type 0} (xs : List (Option X)) (i j : ℕ)
    → ((j ≡ i) × (option_flatten (slice_get (change xs i (λ entry. None)) j) ≡ None))
    ⊎ (option_flatten (slice_get (change xs i (λ entry. None)) j) ≡ option_flatten (slice_get xs j))
removed-cases [] i j = inr refl
removed-cases (x ∷ xs) zero zero = inl (refl, refl)
removed-cases (x ∷ xs) zero (suc j) = inr refl
removed-cases (x ∷ xs) (suc i) zero = inr refl
removed-cases (x ∷ xs) (suc i) (suc j) = further i j (removed-cases xs i j)

-- the entry that was taken out is gone
pub removed-gone : {X : Type 0} (xs : List (Option X)) (i : ℕ)
    → option_flatten (slice_get (change xs i (λ entry. None)) i) ≡ None
removed-gone (x ∷ xs) (suc i) = removed-gone xs i
removed-gone xs i = search rules

-- a test that passes for an entry that is there passes for some
pub there-passes : {X : Type 0} (test : X → Bool) (entries : List (Option X)) (number : ℕ) (x : X)
    → option_flatten (numbered entries number) ≡ Some x → test x ≡ true
    → list_any test (filter_map (λ entry. entry) entries) ≡ true
there-passes test entries zero x there passes = search rules
there-passes test [] (suc j) x there passes = search rules
there-passes test (None ∷ entries) (suc zero) x there passes = search rules
there-passes test (Some y ∷ entries) (suc zero) x there passes = search rules
there-passes test (None ∷ entries) (suc (suc j)) x there passes =
    search (rules, there-passes test entries (suc j) x there passes)
there-passes test (Some y ∷ entries) (suc (suc j)) x there passes =
    search (rules, there-passes test entries (suc j) x there passes)
