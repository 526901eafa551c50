-- A linear, a zero, an error or a delay line: four of the types of target in one table.
use Rattle.std.specs.Prelude.{ℕ, List, [], Err, true}
use Rattle.lab_target.specs.declared.fault.TargetFault.TheVariants.{Unknown}
use Rattle.lab_target.specs.declared.verdict.Ref.{Ref}
use Rattle.lab_sector.specs.declared.request.Kind.{Kind}
use Rattle.lab_sector.specs.declared.span.Span.{Span}
use Rattle.lab_target.specs.declared.verdict.Verdict.{Verdict}
use Rattle.lab_target.specs.declared.verdict.Held.{Held}
use Rattle.lab_delay.specs.Delay.{delay_target}
use Rattle.test_examples.specs.Example.{Groups}
use Rattle.lab_simple.specs.ErrorTarget.{error_target}
use Rattle.lab_simple.specs.Linear.{linear}
use Rattle.lab_target.specs.Meaning.{Meaning, Shape}
use Rattle.lab_simple.specs.Zero.{zero_target}

-- one of four targets
pub data Simple : Type 0 where
  Linear : Ref → Simple
  Zero : Simple
  Error : Simple
  Delay : Groups → Simple

-- a shape with another opening state
abbrev pub with_opening : {S : Type 0} → Shape S → Simple → Shape Simple
with_opening shape opening = record {
  reference = shape.reference;
  may_hold = shape.may_hold;
  block = shape.block;
  takes = shape.takes;
  printed = shape.printed;
  opening = opening;
}

-- the shape of each
abbrev pub shape_of : Simple → Shape Simple
shape_of (Linear ref) = with_opening (linear.shape ref) (Linear ref)
shape_of Zero = with_opening (zero_target.shape tt) Zero
shape_of Error = with_opening (error_target.shape tt) Error
shape_of (Delay groups) = with_opening (delay_target.shape groups) (Delay groups)

-- what becomes of a piece
abbrev pub verdict_of : Simple → Kind → Span → ℕ → Verdict
verdict_of (Linear ref) kind piece now = linear.verdict ref kind piece now
verdict_of Zero kind piece now = zero_target.verdict tt kind piece now
verdict_of Error kind piece now = error_target.verdict tt kind piece now
verdict_of (Delay groups) kind piece now = delay_target.verdict groups kind piece now

-- the status words of each
abbrev pub status_of : Simple → ℕ → Held → List ℕ
status_of (Linear ref) now held = linear.status ref now held
status_of Zero now held = zero_target.status tt now held
status_of Error now held = error_target.status tt now held
status_of (Delay groups) now held = delay_target.status groups now held

-- none of the four has a state that events change, and no words are read here
abbrev pub simple : Meaning Simple
simple = record {
  parsed = λ words len. Err Unknown;
  shape = shape_of;
  is_sound = λ target. true;
  started = λ target now. target;
  verdict = verdict_of;
  judged = λ target kind piece now. target;
  reply = λ target words. [];
  messaged = λ target words. target;
  status = status_of;
}
