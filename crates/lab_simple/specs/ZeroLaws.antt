-- The zero target keeps the laws.
use Rattle.std.proofs.Common.{◌≢◌, ℕ, List, refl, ap, arith, rules}
use Rattle.std.specs.Prelude.{Err, codes}
use Rattle.lab_sector.specs.declared.request.Kind.{Kind}
use Rattle.lab_sector.specs.declared.span.Span.{Span}
use Rattle.lab_target.specs.declared.fault.TargetFault.TheVariants.{Device, NoMemory}
use Rattle.lab_target.specs.Laws.{Allowed, Bounded, Lawful}
use Rattle.lab_target.specs.Reading.{resolved}
use Rattle.lab_target.specs.Types.{no_arguments}
use Rattle.lab_target.proofs.PrintedWords.{words_of-only}
use Rattle.lab_target.proofs.ReadBack.{no_arguments-never, of_type-never}
use Rattle.lab_simple.specs.Zero.{verdict_of, zero_target}

-- zeroes are only given to a read
allowed : (kind : Kind) (piece : Span) → Allowed (zero_target.shape tt) kind piece (verdict_of kind)
allowed kind piece = search rules

-- nothing passes
bounded-verdict : (kind : Kind) → Bounded (verdict_of kind)
bounded-verdict kind = search rules

-- an unknown device is no fault of the words
not-device : (words : List (List ℕ)) (len : ℕ) → zero_target.parsed words len ≢ Err Device
not-device words len = of_type-never (codes "zero") (no_arguments tt) Device (λ same. absurd (cc))
    (no_arguments-never tt Device (λ same. absurd (cc))) words

-- that memory ran out is no fault of the words
not-memory : (words : List (List ℕ)) (len : ℕ) → zero_target.parsed words len ≢ Err NoMemory
not-memory words len = of_type-never (codes "zero") (no_arguments tt) NoMemory (λ same. absurd (cc))
    (no_arguments-never tt NoMemory (λ same. absurd (cc))) words

-- the zero target keeps the laws
pub zero-lawful : Lawful zero_target
zero-lawful = record {
  started = λ t now. refl;
  judged = λ t kind piece now. refl;
  messaged = λ t words. refl;
  opening = λ t. refl;
  rises = λ t place further before. omega arith;
  sound = λ t other alike sound. refl;
  near = λ t sound kind. tt;
  bounded = λ t sound kind piece now. bounded-verdict kind;
  verdicts = λ t kind piece now asked. allowed kind piece;
  none = λ len. refl;
  not_device = not-device;
  not_memory = not-memory;
  plain_printed = λ t. refl;
  plain_reply = λ t words. refl;
  plain_status = λ t now held. refl;
  made_sound = λ words len draft said devices. refl;
  opened = λ words len draft said devices. refl;
  printed = λ words len draft said devices count found finds.
      ap (λ line. resolved found (zero_target.parsed line len))
      (words_of-only (codes "zero") (record { some = refl; solid = refl }));
}
