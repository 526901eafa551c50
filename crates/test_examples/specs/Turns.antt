-- A target of the examples' own whose sectors are blocks, and whose pieces take turns: the first
-- goes on, the second is answered by the target itself, the third goes on again.
use Rattle.std.specs.Prelude.{ℕ, ◌+◌, ◌%◌, ◌==◌, Bool, true, false, [], Some, None, Err, codes}
use Rattle.lab_sector.specs.declared.device.DevNo.TheVariants.{Ram}
use Rattle.lab_sector.specs.declared.request.Kind.{Kind}
use Rattle.lab_sector.specs.declared.span.Span.{Span}
use Rattle.lab_target.specs.declared.fault.TargetFault.TheVariants.{Unknown}
use Rattle.lab_target.specs.declared.verdict.Verdict.{Verdict}
use Rattle.lab_target.specs.declared.verdict.Verdict.TheVariants.{Pass}
use Rattle.lab_target.specs.Laws.{shifted}
use Rattle.lab_target.specs.Meaning.{Meaning, Shape}
use Rattle.lab_simple.specs.Zero.{verdict_of}
use Rattle.test_examples.specs.Example.{to}

-- a line to disk 0; its state is the number of pieces that it has judged
abbrev pub shape_of : ℕ → Shape ℕ
shape_of judged = record {
  reference = λ kind. Some (to (Ram 0) 0);
  may_hold = λ kind. false;
  block = λ place. place;
  takes = λ words. false;
  printed = codes "turns";
  opening = 0;
}

-- whether it is a piece's turn to go on
abbrev pub turn : Bool → Kind → Span → Verdict
turn true kind piece =
    Pass (Ram 0) (shifted 0 piece) 0 (record { fixed = None; random = None })
turn false kind piece = verdict_of kind

-- every second piece goes on, over all bios
abbrev pub turns : Meaning ℕ
turns = record {
  parsed = λ words len. Err Unknown;
  shape = shape_of;
  is_sound = λ judged. true;
  started = λ judged now. 0;
  verdict = λ judged kind piece now. turn (judged % 2 == 0) kind piece;
  judged = λ judged kind piece now. judged + 1;
  reply = λ judged words. [];
  messaged = λ judged words. judged;
  status = λ judged now held. codes "turns";
}
