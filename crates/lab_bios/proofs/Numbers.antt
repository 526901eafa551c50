-- What stands at each number of a list after a change at one of them, or with one more behind it.
use Rattle.lab_model.proofs.Common.{rules, ◌≡◌, ◌≢◌, ℕ, suc, zero, List, [], ◌∷◌, ◌++◌, Option}
use Rattle.lab_model.proofs.Common.{Some, None, length, refl, ap, arith, common_steps}
use Rattle.lab_model.proofs.Common.{option_map, change_numbered, option_flatten, numbered}
use Rattle.std.proofs.lemmas.Option.{gets}

-- two changes that make the same of what stands at a number are the same there
pub changed-agree : {X : Type 0} (xs : List X) (n : ℕ) (f g : X → X)
    → ((x : X) → numbered xs n ≡ Some x → f x ≡ g x)
    → change_numbered xs n f ≡ change_numbered xs n g
changed-agree xs zero f g agree = refl
changed-agree [] (suc place) f g agree = refl
changed-agree (x ∷ xs) (suc zero) f g agree = ap (λ y. y ∷ xs) (agree x refl)
changed-agree (x ∷ xs) (suc (suc place)) f g agree =
    ap (λ ys. x ∷ ys) (changed-agree xs (suc place) f g agree)

-- one that leaves what stands there as it is changes nothing
pub changed-alone : {X : Type 0} (xs : List X) (n : ℕ) (f : X → X)
    → ((x : X) → numbered xs n ≡ Some x → f x ≡ x) → change_numbered xs n f ≡ xs
changed-alone (x ∷ xs) (suc (suc place)) f same = search (rules, changed-alone xs (suc place) f)
changed-alone xs n f same = search rules

-- where none lives, that is one that makes nothing of nothing
pub changed-none : {X : Type 0} (xs : List (Option X)) (n : ℕ) (f : Option X → Option X)
    → f None ≡ None → option_flatten (numbered xs n) ≡ None → change_numbered xs n f ≡ xs
changed-none xs n f stays none = search (rules, changed-alone)

-- what a change makes of the one at its number
pub at-changed : {X : Type 0} (xs : List (Option X)) (n : ℕ) (f : Option X → Option X)
    → f None ≡ None
    → option_flatten (numbered (change_numbered xs n f) n) ≡ f (option_flatten (numbered xs n))
at-changed (x ∷ xs) (suc (suc place)) f stays = at-changed xs (suc place) f stays
at-changed xs n f stays = search rules

-- those of other numbers stay
pub at-other : {X : Type 0} (xs : List X) (n m : ℕ) (f : X → X) → m ≢ n
    → numbered (change_numbered xs n f) m ≡ numbered xs m
at-other xs zero m f apart = refl
at-other xs (suc place) zero f apart = refl
at-other [] (suc place) (suc other) f apart = refl
at-other (x ∷ xs) (suc zero) (suc zero) f apart = absurd (apart refl)
at-other (x ∷ xs) (suc zero) (suc (suc other)) f apart = refl
at-other (x ∷ xs) (suc (suc place)) (suc zero) f apart = refl
at-other (x ∷ xs) (suc (suc place)) (suc (suc other)) f apart =
    at-other xs (suc place) (suc other) f (λ same. apart (ap suc same))

-- what a change of the living ones leaves alone is the same at each number
pub at-inside : {X Y : Type 0} (h : Option X → Y) (f : X → X)
    → ((x : X) → h (Some (f x)) ≡ h (Some x)) → (xs : List (Option X)) (n m : ℕ)
    → h (option_flatten (numbered (change_numbered xs n (option_map f)) m))
    ≡ h (option_flatten (numbered xs m))
at-inside h f same xs n m = search (rules, at-changed, at-other)

-- one that is put behind has the next number
pub at-pushed : {X : Type 0} (xs : List X) (x : X) (n : ℕ) → n ≡ suc (length xs)
    → numbered (xs ++ x ∷ []) n ≡ Some x
at-pushed xs x zero is = absurd (omega arith)
at-pushed xs x (suc place) is = grind (arith, common_steps, gets)

-- and those of other numbers stay
pub at-unpushed : {X : Type 0} (xs : List (Option X)) (x : Option X) (n : ℕ)
    → n ≢ suc (length xs)
    → option_flatten (numbered (xs ++ x ∷ []) n) ≡ option_flatten (numbered xs n)
at-unpushed (y ∷ xs) x (suc (suc place)) apart = search (rules, at-unpushed xs x (suc place))
at-unpushed xs x n apart = search rules
