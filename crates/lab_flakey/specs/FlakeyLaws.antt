-- The flakey target keeps the laws, whatever its generator.
use Rattle.std.proofs.Common.{◌≡◌, ap, refl, ◌∙◌, arith, rules}
use Rattle.std.proofs.lemmas.Bool.{leb-true}
use Rattle.std.specs.Prelude.{◌≤◌, true}
use Rattle.lab_target.specs.declared.fault.TargetFault.TheVariants.{Device, NoMemory}
use Rattle.lab_target.specs.Laws.{Lawful, greatest_sector}
use Rattle.lab_target.proofs.PrintedWords.{first_of_both}
use Rattle.lab_flakey.specs.Flakey.{FlakeyLine, Generator, flakey, is_down, is_sound_flakey}
use Rattle.lab_flakey.specs.FaultLaws.{line-never}
use Rattle.lab_flakey.specs.PieceLaws.{verdict-allowed, verdict-bounded}
use Rattle.lab_flakey.specs.PrintingLaws.{printed-back, status-plain, text-plain}
use Rattle.lab_flakey.specs.ReadingLaws.{line-ok, read-opened, read-sound}

-- a sound line refers to a sector that a table may name
sound-near : {G : Type 0} (target : FlakeyLine G) → is_sound_flakey target ≡ true
    → target.reference.first ≤ greatest_sector
sound-near target sound = search (rules, leb-true, first_of_both)

-- the flakey target keeps the laws
pub flakey-lawful : {G : Type 0} (source : Generator G) → Lawful (flakey source)
flakey-lawful {G} source = record {
  started = λ t now. refl;
  judged = λ t kind piece now. refl;
  messaged = λ t words. refl;
  opening = λ t. refl;
  rises = λ t place further before. omega arith;
  sound = λ t other alike sound. ap (λ s. is_sound_flakey s.opening) alike ∙ sound;
  near = λ t sound kind. sound-near t sound;
  bounded = verdict-bounded source;
  verdicts = verdict-allowed source;
  none = λ len. refl;
  not_device = λ words len. line-never Device (λ same. absurd (cc)) (λ same. absurd (cc))
      (λ same. absurd (cc)) (λ same. absurd (cc)) (λ same. absurd (cc)) (λ same. absurd (cc))
      source (λ same. absurd (cc)) words len;
  not_memory = λ words len. line-never NoMemory (λ same. absurd (cc)) (λ same. absurd (cc))
      (λ same. absurd (cc)) (λ same. absurd (cc)) (λ same. absurd (cc)) (λ same. absurd (cc))
      source (λ same. absurd (cc)) words len;
  plain_printed = text-plain;
  plain_reply = λ t words. refl;
  plain_status = λ t now held. status-plain (is_down t now);
  made_sound = λ words len draft said devices.
      read-sound source draft (line-ok source words len draft said) devices;
  opened = λ words len draft said devices.
      read-opened source draft (line-ok source words len draft said) devices;
  printed = printed-back source;
}
