-- The error target keeps the laws.
use Rattle.std.proofs.Common.{◌≢◌, ℕ, List, refl, ap, arith}
use Rattle.std.specs.Prelude.{Err, codes}
use Rattle.lab_target.specs.declared.fault.TargetFault.TheVariants.{Device, NoMemory}
use Rattle.lab_target.specs.Laws.{Lawful}
use Rattle.lab_target.specs.Reading.{resolved}
use Rattle.lab_target.specs.Types.{no_arguments}
use Rattle.lab_target.proofs.PrintedWords.{words_of-only}
use Rattle.lab_target.proofs.ReadBack.{no_arguments-never, of_type-never}
use Rattle.lab_simple.specs.ErrorTarget.{error_target}

-- an unknown device is no fault of the words
not-device : (words : List (List ℕ)) (len : ℕ) → error_target.parsed words len ≢ Err Device
not-device words len = of_type-never (codes "error") (no_arguments tt) Device (λ same. absurd (cc))
    (no_arguments-never tt Device (λ same. absurd (cc))) words

-- that memory ran out is no fault of the words
not-memory : (words : List (List ℕ)) (len : ℕ) → error_target.parsed words len ≢ Err NoMemory
not-memory words len = of_type-never (codes "error") (no_arguments tt) NoMemory (λ same. absurd (cc))
    (no_arguments-never tt NoMemory (λ same. absurd (cc))) words

-- the error target keeps the laws
pub error-lawful : Lawful error_target
error-lawful = record {
  started = λ t now. refl;
  judged = λ t kind piece now. refl;
  messaged = λ t words. refl;
  opening = λ t. refl;
  rises = λ t place further before. omega arith;
  sound = λ t other alike sound. refl;
  near = λ t sound kind. tt;
  bounded = λ t sound kind piece now. tt;
  verdicts = λ t kind piece now asked. tt;
  none = λ len. refl;
  not_device = not-device;
  not_memory = not-memory;
  plain_printed = λ t. refl;
  plain_reply = λ t words. refl;
  plain_status = λ t now held. refl;
  made_sound = λ words len draft said devices. refl;
  opened = λ words len draft said devices. refl;
  printed = λ words len draft said devices count found finds.
      ap (λ line. resolved found (error_target.parsed line len))
      (words_of-only (codes "error") (record { some = refl; solid = refl }));
}
