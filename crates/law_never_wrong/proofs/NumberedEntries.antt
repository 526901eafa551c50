-- Lists whose entries are options, as the bios are by number: what stands in such a list after one
-- entry has changed and others have come behind it. Living bios by number: what a change, a removal
-- or an append leaves. Names: WHAT-cases for where an item of the new list comes from, WHAT-there
-- for where an old one is.
use Rattle.lab_model.proofs.Common.{rules, ◌≡◌, ◌≢◌, ℕ, zero, suc, ◌<◌, ◌≤◌, Bool, false, List, []}
use Rattle.lab_model.proofs.Common.{◌∷◌, ◌++◌, Option, Some, ◌⊎◌, inl, inr, map, filter_map, length}
use Rattle.lab_model.proofs.Common.{slice_get, refl, ap, ◌∙◌, subst, arith, option_map, list_any}
use Rattle.lab_model.proofs.Common.{change, change_numbered, option_flatten, numbered}
use Rattle.lab_model.proofs.Common.{change_numbered-cases, length-change_numbered, option_map-holds}
use Rattle.lab_model.proofs.Common.{None-not-Some, Some-holds, joined-Some, slice_get-append, In}
use Rattle.lab_model.proofs.Common.{In-slice_get, map-member, filter_map-member, member-place}
use Rattle.lab_model.proofs.Common.{there-passes, None, sym}
use Rattle.std.proofs.lemmas.Bool.{true≢false}

-- what stands where a change comes is what it makes
pub slice_get-change : {X : Type 0} (xs : List X) (i : ℕ) (f : X → X) (x : X)
    → slice_get xs i ≡ Some x → slice_get (change xs i f) i ≡ Some (f x)
slice_get-change [] i f x at = absurd (None-not-Some at)
slice_get-change (y ∷ xs) i f x at = search (rules, slice_get-change xs, Some-holds)

-- and elsewhere nothing changes
pub slice_get-change_other : {X : Type 0} (xs : List X) (place i : ℕ) (f : X → X) → i ≢ place
    → slice_get (change xs place f) i ≡ slice_get xs i
slice_get-change_other [] place i f apart = refl
slice_get-change_other (x ∷ xs) place i f apart = search (rules, slice_get-change_other xs)

-- the same by number: where the change comes
pub numbered-change : {X : Type 0} (xs : List X) (number : ℕ) (f : X → X) (x : X)
    → numbered xs number ≡ Some x → numbered (change_numbered xs number f) number ≡ Some (f x)
numbered-change xs number f x at = search (rules, None-not-Some, slice_get-change)

-- and elsewhere
pub numbered-change_other : {X : Type 0} (xs : List X) (number n : ℕ) (f : X → X) → n ≢ number
    → numbered (change_numbered xs number f) n ≡ numbered xs n
numbered-change_other xs number n f apart = search (rules, slice_get-change_other)

-- an entry of a list of entries
abbrev pub entry_at : {X : Type 0} → List (Option X) → ℕ → Option X
entry_at entries number = option_flatten (numbered entries number)

-- an entry that is there has a number up to the length
pub entry-within : {X : Type 0} (entries : List (Option X)) (number : ℕ) (x : X)
    → entry_at entries number ≡ Some x → number ≤ length entries
entry-within (_ ∷ more) (suc (suc i)) x there = omega (arith, entry-within more (suc i) x there)
entry-within entries number x there = search rules

-- it stays where others come behind the end
pub entry-stays : {X : Type 0} (entries ys : List (Option X)) (number : ℕ) (x : X)
    → entry_at entries number ≡ Some x → entry_at (entries ++ ys) number ≡ Some x
entry-stays entries ys number x there = search (rules, slice_get-append, joined-Some)

module _ {X : Type 0} (entries : List (Option X)) (number : ℕ) where
  -- the entry that changes
  pub entry-changed : (f : X → X) (ys : List (Option X)) (x : X)
      → entry_at entries number ≡ Some x
      → entry_at (change_numbered entries number (option_map f) ++ ys) number ≡ Some (f x)
  entry-changed f ys x there = entry-stays _ ys number (f x) (ap option_flatten
      (numbered-change entries number (option_map f) (Some x) (joined-Some _ x there)))

  -- an entry that doesn't
  pub entry-other : (g : Option X → Option X) (ys : List (Option X)) (n : ℕ) (x : X)
      → n ≢ number → entry_at entries n ≡ Some x
      → entry_at (change_numbered entries number g ++ ys) n ≡ Some x
  entry-other g ys n x apart there = search (rules, entry-stays, numbered-change_other)

-- what stands in a list that others came behind stood there, or is one of them behind the end
pub behind-cases : {X : Type 0} (entries : List (Option X)) (others : List X) (n : ℕ) (y : X)
    → entry_at (entries ++ map Some others) n ≡ Some y
    → (entry_at entries n ≡ Some y) ⊎ ((length entries < n) × In y others)
behind-cases entries others zero y at = absurd (None-not-Some at)
behind-cases [] others (suc place) y at =
    let other = map-member Some (Some y) others
    (In-slice_get (Some y) (map Some others) place (joined-Some _ y at)) in
    inr (omega arith, subst (λ x. In x others) (Some-holds other.2) other.1)
behind-cases (entry ∷ entries) others (suc zero) y at = inl at
behind-cases (entry ∷ entries) others (suc (suc place)) y at =
    grind (arith, behind-cases entries others (suc place) y at)

-- what is there after one entry has changed and others have come: what the change makes, what was
-- there, or one of the others behind the end
pub entries-cases : {X : Type 0} (P : ℕ → X → Type 0) (entries : List (Option X)) (number : ℕ)
    (f : X → X) (others : List X)
    → ((x : X) → entry_at entries number ≡ Some x → P number (f x))
    → ((n : ℕ) (x : X) → n ≢ number → entry_at entries n ≡ Some x → P n x)
    → ((n : ℕ) (x : X) → length entries < n → In x others → P n x) → (n : ℕ) (y : X)
    → entry_at (change_numbered entries number (option_map f) ++ map Some others) n
    ≡ Some y
    → P n y
entries-cases P entries number f others here there behind n y at =
    elim (behind-cases (change_numbered entries number (option_map f)) others n y at) [
      | inr new ↦ search (rules, length-change_numbered)
      | inl stands ↦ elim (change_numbered-cases entries (option_map f) number n (Some y)
          (joined-Some _ y stands)) [
            | inr other ↦ there n y other.0 (ap option_flatten other.1)
            | inl one ↦ search (rules, option_map-holds)
          ]
    ]

-- a test that no item passes
pub any-none : {X : Type 0} (test : X → Bool) (xs : List X)
    → ((x : X) → In x xs → test x ≡ false) → list_any test xs ≡ false
any-none test [] each = refl
any-none test (x ∷ xs) each = rw (each x (inl refl)) (any-none test xs (λ y at. each y (inr at)))

-- no entry passes a test where none of any number does
pub none-passes : {X : Type 0} (test : X → Bool) (entries : List (Option X))
    → ((n : ℕ) (x : X) → entry_at entries n ≡ Some x → test x ≡ false)
    → list_any test (filter_map (λ entry. entry) entries) ≡ false
none-passes test entries each = any-none test _ (λ x among.
    let entry = filter_map-member (λ entry. entry) x entries among in
    let place = member-place entry.0 entries entry.1 in
    each (suc place.0) x (ap option_flatten place.1 ∙ entry.2))

-- and back
pub entry-fails : {X : Type 0} (test : X → Bool) (entries : List (Option X))
    → list_any test (filter_map (λ entry. entry) entries) ≡ false
    → (n : ℕ) (x : X) → entry_at entries n ≡ Some x → test x ≡ false
entry-fails test entries none n x at = search (rules, true≢false, there-passes)

-- where one entry was taken out, each that is there was there, at another number
pub removed-cases : {X : Type 0} (entries : List (Option X)) (at number : ℕ) (y : X)
    → entry_at (change_numbered entries at (λ entry. None)) number ≡ Some y
    → (number ≡ at → ⊥) × (entry_at entries number ≡ Some y)
removed-cases entries at number y e =
    elim (change_numbered-cases entries (λ entry. None) at number (Some y) (joined-Some _ y e)) [
      | inl one ↦ absurd (None-not-Some (sym one.is))
      | inr other ↦ (other.0, ap option_flatten other.1)
    ]

-- an entry that f was done to
pub record Became {X : Type 0} (entries : List (Option X)) (at : ℕ) (f : X → X) (number : ℕ)
    (y : X) : Type 0 where
  pub same : number ≡ at
  pub old : X
  pub stood : entry_at entries at ≡ Some old
  pub is : y ≡ f old

-- the entry that f was done to, or another one that was there
abbrev pub BecameOr : {X : Type 0} → (X → X) → List (Option X) → ℕ → ℕ → X → Type 0
BecameOr f entries at number y =
    Became entries at f number y ⊎ ((number ≡ at → ⊥) × (entry_at entries number ≡ Some y))

-- where f was done to one entry, each that is there is that one, or was there
pub inside-cases : {X : Type 0} (f : X → X) (entries : List (Option X)) (at number : ℕ) (y : X)
    → entry_at (change_numbered entries at (option_map f)) number ≡ Some y
    → BecameOr f entries at number y
inside-cases f entries at number y e =
    elim (change_numbered-cases entries (option_map f) at number (Some y) (joined-Some _ y e)) [
      | inl one ↦ search (rules, option_map-holds)
      | inr other ↦ inr (other.0, ap option_flatten other.1)
    ]

-- where an entry was added behind the others, each that is there is that one, or was there
pub appended-cases : {X : Type 0} (entries : List (Option X)) (x : X) (number : ℕ) (y : X)
    → entry_at (entries ++ Some x ∷ []) number ≡ Some y
    → (entry_at entries number ≡ Some y) ⊎ ((length entries < number) × (y ≡ x))
appended-cases entries x number y e = grind (arith, behind-cases entries (x ∷ []) number y e)

-- an entry of another number stays where one is taken out
pub removed-there : {X : Type 0} (entries : List (Option X)) (at number : ℕ) (x : X)
    → (number ≡ at → ⊥) → entry_at entries number ≡ Some x
    → entry_at (change_numbered entries at (λ entry. None)) number ≡ Some x
removed-there entries at number x apart e = search (rules, numbered-change_other)

-- where f was done to the entry of a number, an entry is there, f done to it if it is that one
abbrev pub ThereOr : {X : Type 0} → (X → X) → List (Option X) → ℕ → ℕ → X → Type 0
ThereOr f entries at number x =
    ((number ≡ at) × (entry_at (change_numbered entries at (option_map f)) number ≡ Some (f x)))
    ⊎ (entry_at (change_numbered entries at (option_map f)) number ≡ Some x)

-- what was there is still there
pub inside-there : {X : Type 0} (f : X → X) (entries : List (Option X)) (at number : ℕ) (x : X)
    → entry_at entries number ≡ Some x → ThereOr f entries at number x
inside-there f entries at number x e =
    search (rules, numbered-change, joined-Some, numbered-change_other)
