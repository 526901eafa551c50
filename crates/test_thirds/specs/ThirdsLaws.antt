-- The target of thirds keeps the laws.
use Rattle.std.proofs.Common.{◌≡◌, ◌≢◌, ℕ, ◌≤◌, List, [], ◌∷◌, ◌++◌, length, refl, ap, sym, subst, ◌∙◌, arith, rules}
use Rattle.std.specs.Prelude.{Option, Result, Ok, Err, true, codes, decimal, nat_le}
use Rattle.std.specs.List.{list_all}
use Rattle.std.proofs.lemmas.Bool.{leb-true, le-leb}
use Rattle.lab_sector.specs.declared.device.DevNo.{DevNo}
use Rattle.lab_sector.specs.declared.request.Kind.{Kind}
use Rattle.lab_sector.specs.declared.span.Span.{Span}
use Rattle.lab_text.specs.Numbers.{number_of}
use Rattle.lab_text.specs.Words.{words_of}
use Rattle.lab_text.specs.declared.numbers.NumberFault.{NumberFault}
use Rattle.lab_target.specs.declared.fault.TargetFault.{TargetFault}
use Rattle.lab_target.specs.declared.fault.TargetFault.TheVariants.{Args, Device, NoMemory, Number}
use Rattle.lab_target.specs.declared.verdict.Ref.{Ref}
use Rattle.lab_target.specs.Laws.{Allowed, Lawful, greatest_sector, is_plain}
use Rattle.test_thirds.specs.Thirds.{arguments, thirds_target, text, drafted, with_offset}
use Rattle.lab_target.specs.Meaning.{Draft}
use Rattle.lab_target.specs.Reading.{FindsPrinted, device_text, resolved}
use Rattle.lab_target.proofs.Numbers.{number_of-within}
use Rattle.lab_target.proofs.PrintedWords.{words_of-first, words_of-only, decimal-IsWord, decimal-plain, device_text-IsWord, device_text-plain, append-plain, number_of-decimal}
use Rattle.lab_target.proofs.ReadBack.{of_type-ok, of_type-never, resolved-printed}

-- a line of thirds passes each piece to its reference
allowed : (t : Ref) (kind : Kind) (piece : Span) (now : ℕ)
    → Allowed (thirds_target.shape t) kind piece (thirds_target.verdict t kind piece now)
allowed t kind piece now = search rules

-- a line that was read: it has an offset in its range
record IsRead (draft : Draft Ref) : Type 0 where
  device : List ℕ
  first : ℕ
  near : first ≤ greatest_sector
  is : draft ≡ drafted device first

-- where an offset's word says a number, the number is in its range
offset-ok : (device word : List ℕ) (draft : Draft Ref) (number : Result ℕ NumberFault)
    → number_of word greatest_sector ≡ number → with_offset device number ≡ Ok draft → IsRead draft
offset-ok device word draft number is said = search (rules, number_of-within)

-- what the arguments say when they say something
arguments-ok : (words : List (List ℕ)) (draft : Draft Ref) → arguments words ≡ Ok draft
    → IsRead draft
arguments-ok words draft said = search (rules, offset-ok)

-- what a line says when it says something
line-ok : (words : List (List ℕ)) (len : ℕ) (draft : Draft Ref)
    → thirds_target.parsed words len ≡ Ok draft → IsRead draft
line-ok words len draft said = search (rules, of_type-ok, arguments-ok)

-- an offset's fault is that it is no number
offset-never : (fault : TargetFault) → Number ≢ fault → (device : List ℕ)
    → (number : Result ℕ NumberFault) → with_offset device number ≢ Err fault
offset-never fault other device number said = search rules

-- the arguments' faults are their number and the offset
arguments-never : (fault : TargetFault) → Args ≢ fault → Number ≢ fault → (words : List (List ℕ))
    → arguments words ≢ Err fault
arguments-never fault args number words said = search (rules, offset-never)

-- an unknown device is no fault of the words
not-device : (words : List (List ℕ)) (len : ℕ) → thirds_target.parsed words len ≢ Err Device
not-device words len = of_type-never (codes "thirds") arguments Device (λ same. absurd (cc))
    (arguments-never Device (λ same. absurd (cc)) (λ same. absurd (cc))) words

-- that memory ran out is no fault of the words
not-memory : (words : List (List ℕ)) (len : ℕ) → thirds_target.parsed words len ≢ Err NoMemory
not-memory words len = of_type-never (codes "thirds") arguments NoMemory (λ same. absurd (cc))
    (arguments-never NoMemory (λ same. absurd (cc)) (λ same. absurd (cc))) words

-- the words of a printed line
words_of-text : (target : Ref)
    → words_of (text target) ≡ codes "thirds" ∷ device_text target.dev ∷ decimal target.first ∷ []
words_of-text target =
    words_of-first (codes "thirds") (device_text target.dev ++ 32 ∷ decimal target.first)
    (record { some = refl; solid = refl })
    ∙ ap (λ words. codes "thirds" ∷ words)
    (words_of-first (device_text target.dev) (decimal target.first) (device_text-IsWord target.dev))
    ∙ ap (λ words. codes "thirds" ∷ device_text target.dev ∷ words)
    (words_of-only (decimal target.first) (decimal-IsWord target.first))

-- a printed line is plain
text-plain : (target : Ref) → list_all is_plain (text target) ≡ true
text-plain target = search (rules, append-plain, device_text-plain, decimal-plain)

-- the printed line of a device and an offset in its range reads back
text-reads : (device : DevNo) (first : ℕ) → first ≤ greatest_sector → (len : ℕ)
    → thirds_target.parsed (words_of (text (record { dev = device; first = first }))) len
    ≡ Ok (drafted (device_text device) first)
text-reads device first near len = search (rules, words_of-text, number_of-decimal)

-- a line's target has one device, and reads back from its printed line
drafted-printed : (device : List ℕ) (first : ℕ) → first ≤ greatest_sector → (len : ℕ)
    → (devices : List DevNo) → length devices ≡ 1 → (found : List ℕ → Option DevNo)
    → FindsPrinted found devices
    → resolved found
    (thirds_target.parsed (words_of (text ((drafted device first).made devices))) len)
    ≡ Ok ((drafted device first).made devices)
drafted-printed device first near len [] one found finds = absurd (omega arith)
drafted-printed device first near len (known ∷ []) one found finds =
    ap (resolved found) (text-reads known first near len)
    ∙ resolved-printed (drafted (device_text known) first) found (known ∷ []) refl finds
drafted-printed device first near len (known ∷ other ∷ devices) one found finds =
    absurd (omega arith)

-- what is printed of a line that was read reads back
read-printed : (draft : Draft Ref) → IsRead draft → (len : ℕ) (devices : List DevNo)
    → length devices ≡ length draft.devices → (found : List ℕ → Option DevNo)
    → FindsPrinted found devices
    → resolved found (thirds_target.parsed (words_of (text (draft.made devices))) len)
    ≡ Ok (draft.made devices)
read-printed draft read len devices count found finds =
    subst
    (λ (d : Draft Ref). resolved found (thirds_target.parsed (words_of (text (d.made devices))) len)
    ≡ Ok (d.made devices))
    (sym read.is)
    (drafted-printed read.device read.first read.near len devices
    (count ∙ ap (λ d. length d.devices) read.is) found finds)

-- the target of thirds keeps the laws
pub thirds-lawful : Lawful thirds_target
thirds-lawful = record {
  started = λ t now. refl;
  judged = λ t kind piece now. refl;
  messaged = λ t words. refl;
  opening = λ t. refl;
  rises = λ t place further before. omega arith;
  sound = λ t other alike sound. ap (λ s. nat_le s.opening.first greatest_sector) alike ∙ sound;
  near = λ t sound kind. leb-true t.first greatest_sector sound;
  bounded = λ t sound kind piece now. (omega arith, tt, tt);
  verdicts = λ t kind piece now asked. allowed t kind piece now;
  none = λ len. refl;
  not_device = not-device;
  not_memory = not-memory;
  plain_printed = text-plain;
  plain_reply = λ t words. refl;
  plain_status = λ t now held. refl;
  made_sound = λ words len draft said devices.
      let read = line-ok words len draft said in
      ap (λ d. thirds_target.is_sound (d.made devices)) read.is
      ∙ le-leb read.first greatest_sector read.near;
  opened = λ words len draft said devices. refl;
  printed = λ words len draft said devices count found finds.
      read-printed draft (line-ok words len draft said) len devices count found finds;
}
