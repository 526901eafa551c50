-- Lists in which the item at a place was changed. An answer that a log is told and then loses has
-- changed nothing.
use Rattle.lab_model.proofs.Common.{rules, ◌≡◌, ℕ, zero, suc, List, [], ◌∷◌, ◌++◌, Option, Some}
use Rattle.lab_model.proofs.Common.{refl, slice_get, change, change_numbered, option_flatten, numbered}
use Rattle.lab_model.proofs.Common.{joined-Some, ◌∙◌, ◌-◌, arith, length-append, length, take}
use Rattle.lab_model.proofs.Common.{take-append_seam, Told, Bio, LogState}
use Rattle.lab_model.specs.declared.parent.Parent.{Parent}
use Rattle.lab_effect.specs.Telling.{told_logs, untold_logs}
use Rattle.lab_bios.proofs.Numbers.{changed-alone}

module _ {X : Type 0} where
  -- two changes of one item are the one that does both
  pub change-twice : (xs : List X) (i : ℕ) (f g h : X → X) → ((x : X) → g (f x) ≡ h x)
      → change (change xs i f) i g ≡ change xs i h
  change-twice (x ∷ xs) (suc i) f g h both = search (rules, change-twice xs i f g h both)
  change-twice xs i f g h both = search rules

  -- a change of the item that is there, with more behind all
  change-append : (xs more : List X) (i : ℕ) (f g : X → X) (x : X) → slice_get xs i ≡ Some x
      → f x ≡ g x → change (xs ++ more) i f ≡ change xs i g ++ more
  change-append (y ∷ ys) more (suc i) f g x is same = search (rules, change-append ys more i f g x)
  change-append xs more i f g x is same = search rules

module _ {X : Type 0} where
  -- the same of the item of a number
  pub change_numbered-append : (xs more : List (Option X)) (number : ℕ) (f g : Option X → Option X)
      (x : X) → option_flatten (numbered xs number) ≡ Some x → f (Some x) ≡ g (Some x)
      → change_numbered (xs ++ more) number f ≡ change_numbered xs number g ++ more
  change_numbered-append xs more number f g x is same = search (rules, change-append, joined-Some)

  -- all but the last of some, where that was put behind them
  but-last : (xs : List X) (x : X) → take (length (xs ++ x ∷ []) - 1) (xs ++ x ∷ []) ≡ xs
  but-last xs x =
      let fewer : length (xs ++ x ∷ []) - 1 ≡ length xs = omega (arith, length-append {A = X}) in
      rw fewer (take-append_seam xs (x ∷ []))

  -- a change of the item of a number that another one undoes
  numbered-undone : (xs : List X) (number : ℕ) (f g : X → X) → ((x : X) → g (f x) ≡ x)
      → change_numbered (change_numbered xs number f) number g ≡ xs
  numbered-undone xs zero f g undoes = refl
  numbered-undone xs (suc place) f g undoes = change-twice xs place f g (λ x. x) undoes
      ∙ changed-alone xs (suc place) (λ x. x) (λ x there. refl)

-- logs that were told of a bio and lose the answer are as they were
pub untold_same : (logs : List LogState) (bio : Bio) (answer : Told) (parent : Parent)
    → untold_logs (told_logs logs bio answer parent) parent ≡ logs
untold_same logs bio answer parent = search (rules, numbered-undone, but-last)
