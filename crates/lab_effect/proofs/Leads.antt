-- Where an event or a step of the script leads, unless it is wrong.
use Rattle.lab_model.proofs.Common.{rules, ◌≡◌, Bool, true, Option, Some, ap, ◌∙◌, After, Cause}
use Rattle.lab_model.proofs.Common.{Next, given, unless, State}
use Rattle.lab_model.specs.Moves.{Moves}

-- this holds of the state that it leads to, if it leads to one
abbrev pub Then : {S : Type 0} → After S → (State S → Type 0) → Type 0
Then {S} after P = (next : State S) → after ≡ Next next → P next

-- what isn't wrong leads to the one state that it may lead to
pub leads : {S : Type 0} {after : After S} {t : State S} → Moves after
    → Then after (λ next. next ≡ t) → after ≡ Next t
leads moves only = moves.1 ∙ ap Next (only moves.0 moves.1)

-- it leads there where it is known
pub next-is : {S : Type 0} {t next : State S} → Next t ≡ Next next → next ≡ t
next-is is = cc

module _ {S : Type 0} {P : State S → Type 0} where
  -- it leads where it does if a test passes
  pub then-unless : (cause : Cause) (test : Bool) (after : After S)
      → (test ≡ true → Then after P) → Then (unless cause test after) P
  then-unless cause test after holds = search rules

  -- it leads where it does with a value that is there
  pub then-given : {X : Type 0} (cause : Cause) (found : Option X) (next : X → After S)
      → ((x : X) → found ≡ Some x → Then (next x) P) → Then (given cause found next) P
  then-given cause found next holds = search rules
