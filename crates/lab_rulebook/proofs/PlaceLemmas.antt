-- Lists with one item changed, taken out or put at the end, and what their places hold then.
use Rattle.lab_model.proofs.Common.{rules, ◌≡◌, ℕ, zero, suc, ◌<◌, List, [], ◌∷◌, ◌++◌, Option}
use Rattle.lab_model.proofs.Common.{Some, None, length, slice_get, refl, ap, ◌≤◌, arith, ◌⊎◌, inl}
use Rattle.lab_model.proofs.Common.{inr, sym, ◌∙◌, option_map, unwrap_or, slice_get_within, change}
use Rattle.lab_model.proofs.Common.{change-set, slice_set, get_or_from_slice_get, option_flatten}
use Rattle.lab_model.proofs.Common.{None-not-Some, Some-holds, joined-Some}
use Rattle.lab_script.specs.Task.{Task, create, load, on}
use Rattle.lab_script.specs.Walk.{loads_after}
use Rattle.lab_rulebook.specs.Standing.{with_version}

-- an option that isn't empty holds something
pub some-there : {X : Type 0} (o : Option X) → (o ≡ None → ⊥) → (x : X) × (o ≡ Some x)
some-there o some = search rules

-- what isn't less is at least as great
pub not_less : (a b : ℕ) → (a < b → ⊥) → b ≤ a
not_less a b other = omega (arith, other)

-- what relates the changed item to what it is then, and each item to itself, relates each place
-- of a list to what it is after the change
pub change-relates : {X : Type 0} (R : ℕ → Option X → Option X → Type 0) (xs : List X) (i : ℕ)
    (g : X → X) → ((x : X) → slice_get xs i ≡ Some x → R i (Some x) (Some (g x)))
    → ((j : ℕ) → R j (slice_get xs j) (slice_get xs j)) → (j : ℕ)
    → R j (slice_get xs j) (slice_get (change xs i g) j)
change-relates R [] i g here same j = same j
change-relates R (x ∷ xs) zero g here same zero = here x refl
change-relates R (x ∷ xs) zero g here same (suc j) = same (suc j)
change-relates R (x ∷ xs) (suc i) g here same zero = same zero
change-relates R (x ∷ xs) (suc i) g here same (suc j) =
    change-relates (λ k. R (suc k)) xs i g here (λ k. same (suc k)) j

-- what relates no item to the one put at the end, and each item to itself, relates each place
pub push-relates : {X : Type 0} (R : ℕ → Option X → Option X → Type 0) (xs : List X) (put : X)
    → R (length xs) None (Some put) → ((j : ℕ) → R j (slice_get xs j) (slice_get xs j)) → (j : ℕ)
    → R j (slice_get xs j) (slice_get (xs ++ put ∷ []) j)
push-relates R [] put here same zero = here
push-relates R [] put here same (suc j) = same (suc j)
push-relates R (x ∷ xs) put here same zero = same zero
push-relates R (x ∷ xs) put here same (suc j) =
    push-relates (λ k. R (suc k)) xs put here (λ k. same (suc k)) j

-- at one place an entry becomes another, and each other place keeps its own
abbrev pub Becomes : {X : Type 0} → List (Option X) → List (Option X) → ℕ → Option X → Type 0
Becomes before after place now = (j : ℕ)
    → ((j ≡ place) × (option_flatten (slice_get after j) ≡ now))
    ⊎ (option_flatten (slice_get after j) ≡ option_flatten (slice_get before j))

-- an entry at some place became that one, or stayed
abbrev BecomesAt : {X : Type 0} → ℕ → Option X → ℕ → Option (Option X) → Option (Option X) → Type 0
BecomesAt place now j was later =
    ((j ≡ place) × (option_flatten later ≡ now)) ⊎ (option_flatten later ≡ option_flatten was)

-- so it is where an entry is changed
pub change-becomes : {X : Type 0} (xs : List (Option X)) (i : ℕ) (g : Option X → Option X)
    (now : Option X) → g (option_flatten (slice_get xs i)) ≡ now → Becomes xs (change xs i g) i now
change-becomes xs i g now is = change-relates (BecomesAt i now) xs i g
    (λ x here. inl (refl, ap (λ o. g (option_flatten o)) (sym here) ∙ is)) (λ j. inr refl)

-- and where one is put at the end
pub push-becomes : {X : Type 0} (xs : List (Option X)) (put : Option X)
    → Becomes xs (xs ++ put ∷ []) (length xs) put
push-becomes xs put =
    push-relates (BecomesAt (length xs) put) xs put (inl (refl, refl)) (λ j. inr refl)

-- what holds of each entry and its place
abbrev AtEach : {X : Type 0} → (ℕ → X → Type 0) → List (Option X) → Type 0
AtEach {X} P xs = (j : ℕ) (x : X) → option_flatten (slice_get xs j) ≡ Some x → P j x

-- what holds of what is there now, and of each that was there, holds of each
pub becomes-each : {X : Type 0} (P : ℕ → X → Type 0) (before after : List (Option X)) (place : ℕ)
    (now : Option X) → Becomes before after place now → ((x : X) → now ≡ Some x → P place x)
    → AtEach P before → AtEach P after
becomes-each P before after place now becomes here each j x is = search rules

-- the device that a command loads a version into, if it does
abbrev pub loads_into : ℕ → Option ℕ → Task → Option ℕ
loads_into made found (create name chosen) = Some made
loads_into made found (on name (load chosen)) = found
loads_into made found _ = None

-- what relates a device's versions to them with one more, and each device's to themselves, relates
-- all versions, device by device, to what they are after a command
pub versions-relate : {X : Type 0} (R : ℕ → Option (List X) → Option (List X) → Type 0)
    (all : List (List X)) (found : Option ℕ) (task : Task) (held : Option X)
    → ((device : ℕ) (was : Option (List X)) → loads_into (length all) found task ≡ Some device
    → R device was (Some (with_version (unwrap_or was []) held)))
    → ((device : ℕ) → R device (slice_get all device) (slice_get all device)) → (device : ℕ)
    → R device (slice_get all device)
    (slice_get (loads_after with_version [] all found task held) device)
versions-relate R all found (create name chosen) held more same =
    push-relates R all (with_version [] held) (more (length all) None refl) same
versions-relate R all None (on name (load chosen)) held more same = same
versions-relate R all (Some device) (on name (load chosen)) held more same =
    change-relates R all device (λ own. with_version own held)
    (λ own is. more device (Some own) refl) same
versions-relate R all found _ held more same = same

-- the entry that was put at the end
pub pushed-there : {X : Type 0} (xs : List X) (put : X)
    → slice_get (xs ++ put ∷ []) (length xs) ≡ Some put
pushed-there [] put = refl
pushed-there (x ∷ xs) put = pushed-there xs put

-- a place that holds something is before the end
pub there-within : {X : Type 0} (xs : List (Option X)) (i : ℕ) (x : X)
    → option_flatten (slice_get xs i) ≡ Some x → i < length xs
there-within xs i x there = slice_get_within xs i (Some x) (joined-Some (slice_get xs i) x there)

-- two changes inside one entry
pub change-twice : {X : Type 0} (f g h : X → X) → ((x : X) → g (f x) ≡ h x)
    → (xs : List (Option X)) (i : ℕ)
    → change (change xs i (option_map f)) i (option_map g) ≡ change xs i (option_map h)
change-twice f g h same [] i = refl
change-twice f g h same (None ∷ xs) zero = refl
change-twice f g h same (Some x ∷ xs) zero = ap (λ y. Some y ∷ xs) (same x)
change-twice f g h same (x ∷ xs) (suc i) = ap (λ l. x ∷ l) (change-twice f g h same xs i)

-- a change that does nothing
pub change-idle : {X : Type 0} (f : X → X) (xs : List X) (i : ℕ) (x : X)
    → slice_get xs i ≡ Some x → f x ≡ x → change xs i f ≡ xs
change-idle f [] i x there same = refl
change-idle f (y ∷ xs) zero x there same = cc
change-idle f (y ∷ xs) (suc i) x there same = ap (λ l. y ∷ l) (change-idle f xs i x there same)

-- two changes that are one where they are made
pub change-alike : {X : Type 0} (f g : X → X) (xs : List X) (i : ℕ) (x : X)
    → slice_get xs i ≡ Some x → f x ≡ g x → change xs i f ≡ change xs i g
change-alike f g xs i x there same = let is = sym (get_or_from_slice_get xs i x x there) in
    change-set xs i f x is ∙ ap (slice_set xs i) same ∙ sym (change-set xs i g x is)

-- what stands at a changed place
pub change-there : {X : Type 0} (f : X → X) (xs : List X) (i : ℕ) (x : X)
    → slice_get xs i ≡ Some x → slice_get (change xs i f) i ≡ Some (f x)
change-there f [] i x there = absurd (None-not-Some there)
change-there f (y ∷ xs) zero x there = ap (λ z. Some (f z)) (Some-holds there)
change-there f (y ∷ xs) (suc i) x there = change-there f xs i x there
