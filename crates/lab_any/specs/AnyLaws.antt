-- A target of any of the types keeps the laws, since each of the types does.
use Rattle.std.proofs.Common.{◌≡◌, ◌≢◌, ℕ, List, [], ◌∷◌, length, refl, ap, sym, ◌∙◌, rules}
use Rattle.std.specs.Prelude.{Option, Some, None, Ok, Err, codes}
use Rattle.lab_sector.specs.declared.device.DevNo.{DevNo}
use Rattle.lab_text.specs.Words.{words_of}
use Rattle.lab_target.specs.declared.fault.TargetFault.{TargetFault}
use Rattle.lab_target.specs.declared.fault.TargetFault.TheVariants.{Device, NoMemory, Unknown}
use Rattle.lab_target.specs.Laws.{Lawful}
use Rattle.lab_target.specs.Meaning.{Draft}
use Rattle.lab_target.specs.Reading.{FindsPrinted, resolved}
use Rattle.lab_target.specs.Types.{no_arguments}
use Rattle.lab_simple.specs.ErrorTarget.{error_target}
use Rattle.lab_simple.specs.Linear as linear_line
use Rattle.lab_simple.specs.Linear.{linear}
use Rattle.lab_simple.specs.Zero.{zero_target}
use Rattle.lab_simple.specs.ErrorTargetLaws.{error-lawful}
use Rattle.lab_simple.specs.LinearLaws.{linear-lawful}
use Rattle.lab_simple.specs.ZeroLaws.{zero-lawful}
use Rattle.lab_flakey.specs.Flakey as flakey_line
use Rattle.lab_flakey.specs.Flakey.{flakey}
use Rattle.lab_flakey.specs.FlakeyLaws.{flakey-lawful}
use Rattle.lab_flakey.specs.Words.{pcg_words}
use Rattle.lab_dust.specs.Dust as dust
use Rattle.lab_dust.specs.Dust.{dust_target}
use Rattle.lab_dust.specs.DustLaws.{dust-lawful}
use Rattle.lab_delay.specs.Delay as delay
use Rattle.lab_delay.specs.Delay.{delay_target}
use Rattle.lab_delay.specs.DelayLaws.{delay-lawful}
use Rattle.lab_any.specs.declared.any_target.AnyTarget.{AnyTarget}
use Rattle.lab_any.specs.declared.any_target.AnyTarget.TheVariants as any
use Rattle.lab_any.specs.declared.type_name.TypeName.{TypeName}
use Rattle.lab_any.specs.declared.type_name.TypeName.TheVariants.{Linear, Zero, Error, Flakey, Dust, Delay}
use Rattle.lab_any.specs.Any.{acts_of, any_meaning}
use Rattle.lab_any.specs.Names.{name_of, said_by, said_if, type_named, type_of}
use Rattle.lab_any.specs.PartLaws.{IsLawfulAt, IsLawfulReading, IsTyped, of_type-typed, part-IsLawfulAt, part-IsLawfulReading, resolved-ok}

-- each target is lawful
lawful-at : (t : AnyTarget) → IsLawfulAt acts_of (acts_of t)
lawful-at (any.Linear t) = part-IsLawfulAt any.Linear linear linear-lawful acts_of (λ t. refl) t
lawful-at (any.Zero t) = part-IsLawfulAt any.Zero zero_target zero-lawful acts_of (λ t. refl) t
lawful-at (any.Error t) = part-IsLawfulAt any.Error error_target error-lawful acts_of (λ t. refl) t
lawful-at (any.Flakey t) =
    part-IsLawfulAt any.Flakey (flakey pcg_words) (flakey-lawful pcg_words) acts_of (λ t. refl) t
lawful-at (any.Dust t) = part-IsLawfulAt any.Dust dust_target dust-lawful acts_of (λ t. refl) t
lawful-at (any.Delay t) = part-IsLawfulAt any.Delay delay_target delay-lawful acts_of (λ t. refl) t

-- a linear line begins with its name
linear-typed : IsTyped (codes "linear") linear
unfolding IsTyped
linear-typed words len = of_type-typed (codes "linear") linear_line.arguments words

-- a zero line begins with its name
zero-typed : IsTyped (codes "zero") zero_target
unfolding IsTyped
zero-typed words len = of_type-typed (codes "zero") (no_arguments tt) words

-- an error line begins with its name
error-typed : IsTyped (codes "error") error_target
unfolding IsTyped
error-typed words len = of_type-typed (codes "error") (no_arguments tt) words

-- a flakey line begins with its name
flakey-typed : IsTyped (codes "flakey") (flakey pcg_words)
unfolding IsTyped
flakey-typed words len =
    of_type-typed (codes "flakey") (flakey_line.arguments pcg_words) words

-- a dust line begins with its name
dust-typed : IsTyped (codes "dust") dust_target
unfolding IsTyped
dust-typed words len = of_type-typed (codes "dust") (dust.arguments len) words

-- a delay line begins with its name
delay-typed : IsTyped (codes "delay") delay_target
unfolding IsTyped
delay-typed words len = of_type-typed (codes "delay") delay.arguments words

-- the words of each type are lawful
lawful-reading : (name : TypeName) → IsLawfulReading acts_of (name_of name) (said_by name)
lawful-reading Linear =
    part-IsLawfulReading any.Linear linear linear-lawful acts_of (λ t. refl) (codes "linear")
    linear-typed
lawful-reading Zero =
    part-IsLawfulReading any.Zero zero_target zero-lawful acts_of (λ t. refl) (codes "zero")
    zero-typed
lawful-reading Error =
    part-IsLawfulReading any.Error error_target error-lawful acts_of (λ t. refl) (codes "error")
    error-typed
lawful-reading Flakey =
    part-IsLawfulReading any.Flakey (flakey pcg_words) (flakey-lawful pcg_words) acts_of
    (λ t. refl) (codes "flakey") flakey-typed
lawful-reading Dust =
    part-IsLawfulReading any.Dust dust_target dust-lawful acts_of (λ t. refl) (codes "dust")
    dust-typed
lawful-reading Delay =
    part-IsLawfulReading any.Delay delay_target delay-lawful acts_of (λ t. refl) (codes "delay")
    delay-typed

-- each type's name names it
named : (name : TypeName) → type_named (name_of name) ≡ Some name
named name = search rules

-- a line says what its type says, if it is of one
pub parsed-is : (words : List (List ℕ)) (len : ℕ)
    → any_meaning.parsed words len ≡ said_if (type_of words) words len
parsed-is [] len = refl
parsed-is (word ∷ words) len = search rules

-- words that say something are of a type
said_if-ok : (name : Option TypeName) (words : List (List ℕ)) (len : ℕ) (draft : Draft AnyTarget)
    → said_if name words len ≡ Ok draft → (n : TypeName) × (said_by n words len ≡ Ok draft)
said_if-ok None words len draft said = absurd (cc)
said_if-ok (Some name) words len draft said = (name, said)

-- a fault that no type's words have is none
said_if-never : (fault : TargetFault) → Unknown ≢ fault → (words : List (List ℕ)) (len : ℕ)
    → ((n : TypeName) → said_by n words len ≢ Err fault) → (name : Option TypeName)
    → said_if name words len ≢ Err fault
said_if-never fault other words len never name said = search rules

-- what is printed reads back
printed-back : (words : List (List ℕ)) (len : ℕ) (draft : Draft AnyTarget)
    → any_meaning.parsed words len ≡ Ok draft → (devices : List DevNo)
    → length devices ≡ length draft.devices → (found : List ℕ → Option DevNo)
    → FindsPrinted found devices
    → resolved found
    (any_meaning.parsed (words_of (any_meaning.shape (draft.made devices)).printed) len)
    ≡ Ok (draft.made devices)
printed-back words len draft said devices count found finds =
    let line = said_if-ok (type_of words) words len draft (sym (parsed-is words len) ∙ said) in
    let law = lawful-reading line.0 in
    let text = words_of (any_meaning.shape (draft.made devices)).printed in
    let back = law.printed words len draft line.1 devices count found finds in
    let again = resolved-ok found (said_by line.0 text len) (draft.made devices) back in
    let typed = law.typed text len again.0 again.1 in
    ap (resolved found) (parsed-is text len)
    ∙ ap (λ name. resolved found (said_if name text len)) (ap type_of typed.1 ∙ named line.0) ∙ back

-- a target of any type keeps the laws
pub any-lawful : Lawful any_meaning
any-lawful = record {
  started = λ t. (lawful-at t).started;
  judged = λ t. (lawful-at t).judged;
  messaged = λ t. (lawful-at t).messaged;
  opening = λ t. (lawful-at t).opening;
  rises = λ t. (lawful-at t).rises;
  sound = λ t other alike sound. ap (λ s. (acts_of s.opening).is_sound) alike ∙ sound;
  near = λ t. (lawful-at t).near;
  bounded = λ t. (lawful-at t).bounded;
  verdicts = λ t. (lawful-at t).verdicts;
  none = λ len. refl;
  not_device = λ words len said.
      said_if-never Device (λ same. absurd (cc)) words len
      (λ name. (lawful-reading name).not_device words len) (type_of words)
      (sym (parsed-is words len) ∙ said);
  not_memory = λ words len said.
      said_if-never NoMemory (λ same. absurd (cc)) words len
      (λ name. (lawful-reading name).not_memory words len) (type_of words)
      (sym (parsed-is words len) ∙ said);
  plain_printed = λ t. (lawful-at t).plain_printed;
  plain_reply = λ t. (lawful-at t).plain_reply;
  plain_status = λ t. (lawful-at t).plain_status;
  made_sound = λ words len draft said.
      let line = said_if-ok (type_of words) words len draft (sym (parsed-is words len) ∙ said) in
      (lawful-reading line.0).made_sound words len draft line.1;
  opened = λ words len draft said.
      let line = said_if-ok (type_of words) words len draft (sym (parsed-is words len) ∙ said) in
      (lawful-reading line.0).opened words len draft line.1;
  printed = printed-back;
}
