-- Targets that no event changes (dm-linear, dm-zero, dm-error).
use Rattle.std.specs.Prelude.{List, Option, Result, true, false, [], ℕ}
use Rattle.lab_target.specs.declared.fault.TargetFault.{TargetFault}
use Rattle.lab_target.specs.declared.verdict.Ref.{Ref}
use Rattle.lab_target.specs.declared.verdict.Verdict.TheVariants.{Fail}
use Rattle.lab_target.specs.Meaning.{Draft, Meaning}
use Rattle.lab_target.specs.Types.{of_type}

-- the targets of a name, by what the words after it say, where they refer to and how they are
-- printed: they keep no state, and take no message, and all pieces fail unless it is said otherwise
abbrev pub stateless : {S : Type 0} → List ℕ → (List (List ℕ) → Result (Draft S) TargetFault)
    → (S → Option Ref) → (S → List ℕ) → Meaning S
stateless name arguments refers text = record {
  parsed = λ words len. of_type name arguments words;
  shape = λ target. record {
    reference = λ kind. refers target;
    may_hold = λ kind. false;
    block = λ place. 0;
    takes = λ words. false;
    printed = text target;
    opening = target;
  };
  is_sound = λ target. true;
  started = λ target now. target;
  verdict = λ target kind piece now. Fail;
  judged = λ target kind piece now. target;
  reply = λ target words. [];
  messaged = λ target words. target;
  status = λ target now held. name;
}
