-- A target for tests: all bios go on to a run of sectors of another device, its blocks have three
-- places, and it takes one message (this project's own).
use Rattle.std.specs.Prelude.{ℕ, ◌/◌, Bool, true, false, nat_le, List, [], ◌∷◌, ◌++◌, Option, Some, None, Result, Ok, Err, codes, decimal}
use Rattle.lab_text.specs.Numbers.{number_of}
use Rattle.lab_text.specs.declared.numbers.NumberFault.{NumberFault}
use Rattle.lab_target.specs.declared.fault.TargetFault.{TargetFault}
use Rattle.lab_target.specs.declared.fault.TargetFault.TheVariants.{Args, Number}
use Rattle.lab_target.specs.declared.verdict.Ref.{Ref}
use Rattle.lab_target.specs.Laws.{greatest_sector}
use Rattle.lab_target.specs.Meaning.{Draft, Meaning, Shape}
use Rattle.lab_target.specs.Reading.{device_text}
use Rattle.lab_target.specs.Types.{after_type, no_marks, of_type, one_device, passed_to}

-- a line to the sectors of a device from an offset on
abbrev pub drafted : List ℕ → ℕ → Draft Ref
drafted device first = one_device device (λ dev. record { dev = dev; first = first })

-- a line whose offset is read, or isn't a number of its range
abbrev pub with_offset : List ℕ → Result ℕ NumberFault → Result (Draft Ref) TargetFault
with_offset device (Err fault) = Err Number
with_offset device (Ok first) = Ok (drafted device first)

-- a device word and a number, in sectors
abbrev pub arguments : List (List ℕ) → Result (Draft Ref) TargetFault
arguments (device ∷ offset ∷ []) = with_offset device (number_of offset greatest_sector)
arguments _ = Err Args

-- `thirds DEV OFFSET`
abbrev pub text : Ref → List ℕ
text target = codes "thirds " ++ device_text target.dev ++ 32 ∷ decimal target.first

-- whether a word stood there, and none after it
abbrev pub is_alone : Option (List (List ℕ)) → Bool
is_alone None = false
is_alone (Some []) = true
is_alone (Some (word ∷ words)) = false

-- whether the words are the message `ping`
abbrev pub is_ping : List (List ℕ) → Bool
is_ping words = is_alone (after_type (codes "ping") words)

-- what no event changes of it: all
abbrev pub shape_of : Ref → Shape Ref
shape_of target = record {
  reference = λ kind. Some target;
  may_hold = λ kind. false;
  block = λ place. place / 3;
  takes = is_ping;
  printed = text target;
  opening = target;
}

-- all pass, and the message has the reply `pong`
abbrev pub thirds_target : Meaning Ref
thirds_target = record {
  parsed = λ words len. of_type (codes "thirds") arguments words;
  shape = shape_of;
  is_sound = λ target. nat_le target.first greatest_sector;
  started = λ target now. target;
  verdict = λ target kind piece now. passed_to target piece 0 no_marks;
  judged = λ target kind piece now. target;
  reply = λ target words. codes "pong";
  messaged = λ target words. target;
  status = λ target now held. codes "thirds";
}
