-- A type of target as one of several: S stands for a target of any type, A for those of one
-- (this project's own).
use Rattle.std.specs.Prelude.{ℕ, Bool, List, Result}
use Rattle.std.specs.Result.{result_map_both}
use Rattle.lab_sector.specs.declared.request.Kind.{Kind}
use Rattle.lab_sector.specs.declared.span.Span.{Span}
use Rattle.lab_target.specs.declared.fault.TargetFault.{TargetFault}
use Rattle.lab_target.specs.declared.verdict.Held.{Held}
use Rattle.lab_target.specs.declared.verdict.Verdict.{Verdict}
use Rattle.lab_target.specs.Meaning.{Draft, Meaning, Shape}

-- a shape of one type
abbrev pub shape_as : {A S : Type 0} → (A → S) → Shape A → Shape S
shape_as any shape = record {
  reference = shape.reference;
  may_hold = shape.may_hold;
  block = shape.block;
  takes = shape.takes;
  printed = shape.printed;
  opening = any shape.opening;
}

-- a draft of one type
abbrev pub draft_as : {A S : Type 0} → (A → S) → Draft A → Draft S
draft_as any draft =
    record { devices = draft.devices; made = λ devices. any (draft.made devices) }

-- what words say of a target of one type
abbrev pub said_as : {A S : Type 0} → (A → S) → Result (Draft A) TargetFault
    → Result (Draft S) TargetFault
said_as any = result_map_both (draft_as any) (λ fault. fault)

-- what a target is and does in one state
pub record Acts (S : Type 0) : Type 0 where
  -- what no event changes of it
  pub shape : Shape S
  -- whether its numbers are in their ranges
  pub is_sound : Bool
  -- after its table is loaded at a moment
  pub started : ℕ → S
  -- what becomes of a piece at a moment, and the target after that
  pub verdict : Kind → Span → ℕ → Verdict
  pub judged : Kind → Span → ℕ → S
  -- the reply to a message, and the target after it
  pub reply : List (List ℕ) → List ℕ
  pub messaged : List (List ℕ) → S
  -- the words of its status at a moment, where so many of its pieces are held
  pub status : ℕ → Held → List ℕ

-- a target of one type acts as its type says
abbrev pub acts_as : {A S : Type 0} → (A → S) → Meaning A → A → Acts S
acts_as any part t = record {
  shape = shape_as any (part.shape t);
  is_sound = part.is_sound t;
  started = λ now. any (part.started t now);
  verdict = part.verdict t;
  judged = λ kind piece now. any (part.judged t kind piece now);
  reply = part.reply t;
  messaged = λ words. any (part.messaged t words);
  status = part.status t;
}
