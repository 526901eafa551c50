-- What is decided: it holds, or it doesn't.
use Rattle.lab_model.proofs.Common.{rules, ◌≡◌, ◌⊎◌, ℕ, zero, suc, ◌<◌, inl, inr, Bool, List, []}
use Rattle.lab_model.proofs.Common.{◌∷◌, Option, Some, None, slice_get, refl, sym, subst, same_Some}
use Rattle.std.specs.Prelude.{IsSomeAnd}

-- it holds, or it doesn't
abbrev pub Decided : Type 0 → Type 0
Decided P = P ⊎ (P → ⊥)

-- what is the same as something decided is decided
pub decided-as : {P Q : Type 0} → (P → Q) → (Q → P) → Decided P → Decided Q
decided-as to from holds = search rules

-- both of two
pub decided-both : {P Q : Type 0} → Decided P → Decided Q → Decided (P × Q)
decided-both holds q = search rules

-- all of three
pub decided-all : {P Q R : Type 0} → Decided P → Decided Q → Decided R → Decided (P × Q × R)
decided-all p q r = search rules

-- one of two
pub decided-either : {P Q : Type 0} → Decided P → Decided Q → Decided (P ⊎ Q)
decided-either holds q = search rules

-- what a first reason gives, or else another
pub decided-or : {A P : Type 0} → Decided A → (A → P) → ((A → ⊥) → Decided P) → Decided P
decided-or (inl a) gives other = inl (gives a)
decided-or (inr none) gives other = other none

-- that something doesn't hold
pub decided-not : {P : Type 0} → Decided P → Decided (P → ⊥)
decided-not holds = search rules

-- what is never
pub decided-never : Decided ⊥
decided-never = inr (λ never. never)

-- a test
pub decided-test : (test wanted : Bool) → Decided (test ≡ wanted)
decided-test test wanted = search rules

-- an order of numbers
pub decided-less : (a b : ℕ) → Decided (a < b)
decided-less a b = search rules

-- the value of an option with a property
pub decided-given : {X : Type 0} (P : X → Type 0) → ((x : X) → Decided (P x)) → (o : Option X)
    → Decided ((x : X) × (o ≡ Some x) × P x)
decided-given P each None = inr (λ there. let is = there.1 in cc)
decided-given P each (Some x) = decided-as (λ holds. (x, refl, holds))
    (λ there. subst P (sym (same_Some x there.0 there.1)) there.2) (each x)

-- an option with a property of its value, in other words
pub some-holds : {X : Type 0} {P : X → Type 0} (o : Option X) → (x : X) × (o ≡ Some x) × P x
    → IsSomeAnd o P
some-holds {P = P} o has = subst (λ o. IsSomeAnd o P) (sym has.1) has.2

-- and back
pub holds-some : {X : Type 0} {P : X → Type 0} (o : Option X) → IsSomeAnd o P
    → (x : X) × (o ≡ Some x) × P x
holds-some None holds = absurd holds
holds-some (Some x) holds = (x, refl, holds)

-- so it is decided in those, too
pub decided-some : {X : Type 0} (P : X → Type 0) → ((x : X) → Decided (P x)) → (o : Option X)
    → Decided (IsSomeAnd o P)
decided-some P each o = decided-as (some-holds o) (holds-some o) (decided-given P each o)

-- an item of a list with a property of its place
pub decided-item : {X : Type 0} (P : ℕ → X → Type 0) → ((k : ℕ) (x : X) → Decided (P k x))
    → (xs : List X) → Decided ((k : ℕ) × (x : X) × (slice_get xs k ≡ Some x) × P k x)
decided-item P each [] = inr (λ there. let is = there.2 in cc)
decided-item {X} P each (x ∷ xs) = decided-as
    (λ at. elim at [
      | inl here ↦ (0, x, refl, here)
      | inr later ↦ (suc later.0, later.1, later.2, later.3)
    ])
    (λ there. from_place there.0 there.1 there.2 there.3)
    (decided-either (each 0 x) (decided-item _ (λ k y. each (suc k) y) xs))
  where
    from_place : (k : ℕ) (y : X) → slice_get (x ∷ xs) k ≡ Some y → P k y
        → P 0 x ⊎ ((k : ℕ) × (y : X) × (slice_get xs k ≡ Some y) × P (suc k) y)
    from_place zero y at holds = inl (subst (P 0) (sym (same_Some x y at)) holds)
    from_place (suc k) y at holds = inr (k, y, at, holds)

-- an option has no value, or one
pub cases_Option : {X : Type 0} (o : Option X) → (o ≡ None) ⊎ ((x : X) × (o ≡ Some x))
cases_Option None = inl refl
cases_Option (Some x) = inr (x, refl)
