-- A target of the examples' own that is told beforehand what to do with each of its pieces.
use Rattle.std.specs.Prelude.{ℕ, ◌*◌, true, false, List, [], ◌∷◌, Option, Some, None, Err, codes, drop}
use Rattle.lab_sector.specs.declared.device.DevNo.{DevNo}
use Rattle.lab_sector.specs.declared.request.Kind.{Kind}
use Rattle.lab_sector.specs.declared.span.Span.{Span}
use Rattle.lab_target.specs.declared.fault.TargetFault.TheVariants.{Unknown}
use Rattle.lab_target.specs.declared.verdict.Marks.{Marks}
use Rattle.lab_target.specs.declared.verdict.Ref.{Ref}
use Rattle.lab_target.specs.declared.verdict.Verdict.{Verdict}
use Rattle.lab_target.specs.declared.verdict.Verdict.TheVariants.{Done, Fail}
use Rattle.lab_target.specs.Meaning.{Meaning, Shape}
use Rattle.lab_target.specs.Types.{no_marks, passed_to}
use Rattle.lab_simple.specs.Zero.{verdict_of as zero_verdict}
use Rattle.test_examples.specs.Example.{to}

-- what is done with a piece
pub data Mood : Type 0 where
  Keep : Mood
  Drop : Mood
  Break : Mood
  Spoil : ℕ → Mood

-- a line: where it hands pieces on, if it does, and what it does with each of them in order; the ones
-- after that it keeps
pub record Moody : Type 0 where
  pub reference : Option Ref
  pub moods : List Mood

-- a line to a device from this sector on
abbrev pub moody : DevNo → ℕ → List Mood → Moody
moody device first moods = record { reference = Some (to device first); moods = moods }

-- a line without a reference
abbrev pub nowhere : Moody
nowhere = record { reference = None; moods = [] }

-- the first byte of a piece becomes another
abbrev pub first_byte : Span → ℕ → Marks
first_byte piece value = record no_marks {
  fixed = Some (record { place = 512 * piece.first; value = value });
}

-- what becomes of a piece by the first of some moods
abbrev pub by_mood : Ref → Span → List Mood → Verdict
by_mood reference piece (Drop ∷ moods) = Done
by_mood reference piece (Break ∷ moods) = Fail
by_mood reference piece (Spoil value ∷ moods) =
    passed_to reference piece 0 (first_byte piece value)
by_mood reference piece moods = passed_to reference piece 0 no_marks

-- what becomes of a piece: without a reference reads give zeroes, and all else is done
abbrev pub verdict_by : List Mood → Kind → Span → Option Ref → Verdict
verdict_by moods kind piece None = zero_verdict kind
verdict_by moods kind piece (Some reference) = by_mood reference piece moods

-- the shape of a line
abbrev pub shape_of : Moody → Shape Moody
shape_of line = record {
  reference = λ kind. line.reference;
  may_hold = λ kind. false;
  block = λ place. 0;
  takes = λ words. false;
  printed = codes "moody";
  opening = line;
}

-- each piece takes a mood away
abbrev pub as_told : Meaning Moody
as_told = record {
  parsed = λ words len. Err Unknown;
  shape = shape_of;
  is_sound = λ line. true;
  started = λ line now. line;
  verdict = λ line kind piece now. verdict_by line.moods kind piece line.reference;
  judged = λ line kind piece now. record line { moods = drop 1 line.moods };
  reply = λ line words. [];
  messaged = λ line words. line;
  status = λ line now held. codes "moody";
}
