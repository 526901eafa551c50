-- The dust target keeps the laws.
use Rattle.std.proofs.Common.{◌≡◌, ◌≢◌, ℕ, zero, suc, ◌≤◌, Bool, true, false, cond, not, List, [], ◌∷◌, ◌++◌, length, refl, ap, sym, subst, ◌∙◌, arith, append_assoc, rules}
use Rattle.std.specs.Prelude.{◌&&◌, Option, Some, None, Result, Ok, Err, codes, decimal, nat_le, if◌then◌else◌}
use Rattle.std.specs.List.{list_all}
use Rattle.std.specs.Option.{option_map_or, option_zip}
use Rattle.std.specs.Result.{result_ok}
use Rattle.std.proofs.lemmas.Bool.{leb-true, le-leb}
use Rattle.std.proofs.lemmas.Nat.{div-add-mod', le-div}
use Rattle.lab_sector.specs.declared.device.DevNo.{DevNo}
use Rattle.lab_sector.specs.declared.request.Kind.{Kind}
use Rattle.lab_sector.specs.declared.span.Span.{Span}
use Rattle.lab_text.specs.Numbers.{number_of, spaced_numbers}
use Rattle.lab_text.specs.Words.{words_of}
use Rattle.lab_text.specs.declared.numbers.NumberFault.{NumberFault}
use Rattle.lab_target.specs.declared.fault.TargetFault.{TargetFault}
use Rattle.lab_target.specs.declared.fault.TargetFault.TheVariants.{Args, BlockSize, Device, NoMemory, Number, Unknown}
use Rattle.lab_target.specs.declared.verdict.Ref.{Ref}
use Rattle.lab_target.specs.declared.verdict.Verdict.TheVariants.{Fail}
use Rattle.lab_target.specs.declared.verdict.Held.{Held}
use Rattle.lab_target.specs.Laws.{Allowed, Bounded, Lawful, greatest_sector, is_plain}
use Rattle.lab_target.specs.Meaning.{Draft}
use Rattle.lab_target.specs.Reading.{FindsPrinted, device_text, resolved}
use Rattle.lab_target.proofs.Numbers.{number_of-within}
use Rattle.lab_target.proofs.PrintedWords.{words_of-first, words_of-only, decimal-IsWord, decimal-plain, device_text-IsWord, device_text-plain, append-plain, number_of-decimal, both, first_of_both, second_of_both}
use Rattle.lab_target.proofs.ReadBack.{of_type-ok, of_type-never, resolved-printed}
use Rattle.lab_target.specs.Types.{no_marks, passed_to}
use Rattle.lab_dust.specs.Dust.{DustLine, DustList, arguments, block_at, block_count, drafted, dust_target, is_bad, is_block_size, is_listed, list_text, message_of, mode_text, opening_line, quiet_text, reply_to}
use Rattle.lab_dust.specs.declared.message.Message.{Message}
use Rattle.lab_dust.specs.declared.message.Message.TheVariants.{AddBlock, RemoveBlock, QueryBlock, CountBlocks, ListBlocks, ClearBlocks, Enable, Disable, Quiet}

-- a line's printed text
abbrev text : DustLine → List ℕ
text line = (dust_target.shape line).printed

-- a further place is in no earlier block
block-rises : (size place further : ℕ) → place ≤ further
    → block_at size place ≤ block_at size further
block-rises zero place further before = omega arith
block-rises (suc size) place further before = search (rules, le-div, div-add-mod')

-- a piece passes to the line's reference or fails
allowed : (line : DustLine) (kind : Kind) (piece : Span) (bad : Bool) → Allowed
    (dust_target.shape line) kind piece
    (if bad then Fail else passed_to line.reference piece 0 no_marks)
allowed line kind piece bad = search rules

-- a piece isn't held, and no byte is marked
bounded-verdict : (reference : Ref) (piece : Span) (bad : Bool)
    → Bounded (if bad then Fail else passed_to reference piece 0 no_marks)
bounded-verdict reference piece bad = search rules

-- a line that was read: its numbers are in their ranges
record IsRead (draft : Draft DustLine) (len : ℕ) : Type 0 where
  device : List ℕ
  first : ℕ
  size : ℕ
  near : first ≤ greatest_sector
  sized : is_block_size size ≡ true
  is : draft ≡ drafted device first size len

-- what an offset and a size say
abbrev found : List ℕ → Result ℕ NumberFault → Result ℕ NumberFault → ℕ
    → Result (Draft DustLine) TargetFault
found device offset size len = elim (option_zip (result_ok offset) (result_ok size)) [
  | None ↦ Err Number
  | Some (first, bytes) ↦
      if is_block_size bytes then Ok (drafted device first bytes len) else Err BlockSize
]

-- a draft comes out where the size is a block's
sized-ok : (is : Bool) (made draft : Draft DustLine)
    → (if is then Ok made else Err BlockSize) ≡ Ok draft → (is ≡ true) × (draft ≡ made)
sized-ok true made draft said = (refl, cc)
sized-ok false made draft said = absurd (cc)

-- where two words say numbers and the second a block size, they are in their ranges
numbers-ok : (device offset : List ℕ) (len : ℕ) (draft : Draft DustLine)
    (first size : Result ℕ NumberFault)
    → number_of offset greatest_sector ≡ first → found device first size len ≡ Ok draft
    → IsRead draft len
numbers-ok device offset len draft (Ok first) (Ok size) is said =
    let read = sized-ok (is_block_size size) (drafted device first size len) draft said in
    record {
      device = device;
      first = first;
      size = size;
      near = number_of-within offset greatest_sector first is;
      sized = read.0;
      is = read.1;
    }
numbers-ok device offset len draft (Ok first) (Err fault) is said = absurd (cc)
numbers-ok device offset len draft (Err fault) size is said = absurd (cc)

-- what the arguments say when they say something
arguments-ok : (words : List (List ℕ)) (len : ℕ) (draft : Draft DustLine)
    → arguments len words ≡ Ok draft → IsRead draft len
arguments-ok [] len draft said = absurd (cc)
arguments-ok (a ∷ []) len draft said = absurd (cc)
arguments-ok (a ∷ b ∷ []) len draft said = absurd (cc)
arguments-ok (device ∷ offset ∷ size ∷ []) len draft said = numbers-ok device offset len draft
    (number_of offset greatest_sector) (number_of size 4294967295) refl said
arguments-ok (a ∷ b ∷ c ∷ d ∷ words) len draft said = absurd (cc)

-- what a line says when it says something
line-ok : (words : List (List ℕ)) (len : ℕ) (draft : Draft DustLine)
    → dust_target.parsed words len ≡ Ok draft → IsRead draft len
line-ok words len draft said = search (rules, of_type-ok, arguments-ok)

module _ (fault : TargetFault) (args : Args ≢ fault) (number : Number ≢ fault)
    (block : BlockSize ≢ fault) where
  -- the numbers' faults are that they are none, and that the size is no block's
  numbers-never : (device : List ℕ) (first size : Result ℕ NumberFault) (len : ℕ)
      → found device first size len ≢ Err fault
  numbers-never device first size len said = search rules

  -- the arguments' faults are their number and the numbers'
  arguments-never : (len : ℕ) (words : List (List ℕ)) → arguments len words ≢ Err fault
  arguments-never len words said = search (rules, numbers-never)

  -- a line has no other faults
  line-never : (words : List (List ℕ)) (len : ℕ) → Unknown ≢ fault
      → dust_target.parsed words len ≢ Err fault
  line-never words len unknown = of_type-never (codes "dust") (arguments len) fault unknown
      (arguments-never len) words

-- a choice of two plain texts is plain
chosen-plain : (b : Bool) (first second : List ℕ) → list_all is_plain first ≡ true
    → list_all is_plain second ≡ true → list_all is_plain (cond b first second) ≡ true
chosen-plain true first second one other = one
chosen-plain false first second one other = other

-- numbers after spaces are plain
spaces-plain : (blocks : List ℕ) → list_all is_plain (spaced_numbers blocks) ≡ true
spaces-plain [] = refl
spaces-plain (block ∷ blocks) =
    append-plain (decimal block) (spaced_numbers blocks) (decimal-plain block) (spaces-plain blocks)

-- a printed list is plain
list-plain : (blocks : List ℕ) → list_all is_plain (list_text blocks) ≡ true
list-plain [] = refl
list-plain (block ∷ blocks) =
    append-plain (decimal block) (spaced_numbers blocks) (decimal-plain block) (spaces-plain blocks)

-- the flag's text is plain
quiet-plain : (quiet : Bool) → list_all is_plain (quiet_text quiet) ≡ true
quiet-plain true = refl
quiet-plain false = refl

-- the mode's text is plain
mode-plain : (enabled : Bool) → list_all is_plain (mode_text enabled) ≡ true
mode-plain true = refl
mode-plain false = refl

-- a reply is plain
reply-plain : (list : DustList) (message : Option Message)
    → list_all is_plain (option_map_or (reply_to list) message []) ≡ true
reply-plain list None = refl
reply-plain list (Some (AddBlock block)) =
    chosen-plain (is_listed block list.blocks) (codes "already") (codes "added") refl refl
reply-plain list (Some (RemoveBlock block)) =
    chosen-plain (is_listed block list.blocks) (codes "removed") (codes "not listed") refl refl
reply-plain list (Some (QueryBlock block)) =
    chosen-plain (is_listed block list.blocks) (codes "listed") (codes "not listed") refl refl
reply-plain list (Some CountBlocks) = decimal-plain (length list.blocks)
reply-plain list (Some ListBlocks) = list-plain list.blocks
reply-plain list (Some ClearBlocks) = decimal-plain (length list.blocks)
reply-plain list (Some Enable) = refl
reply-plain list (Some Disable) = refl
reply-plain list (Some Quiet) = quiet-plain (not list.quiet)

-- a status is plain
status-plain : (line : DustLine) (now : ℕ) (held : Held)
    → list_all is_plain (dust_target.status line now held) ≡ true
status-plain line now held = search (rules, append-plain, device_text-plain, mode-plain, quiet-plain)

-- a printed line is plain
text-plain : (line : DustLine) → list_all is_plain (text line) ≡ true
text-plain line = search (rules, append-plain, device_text-plain, decimal-plain)

-- the words of a printed line
words_of-text : (line : DustLine)
    → words_of (text line)
    ≡ codes "dust" ∷ device_text line.reference.dev ∷ decimal line.reference.first ∷ decimal
    line.size ∷ []
words_of-text line =
    let device = device_text line.reference.dev in
    let first = decimal line.reference.first in
    let size = decimal line.size in
    ap words_of (append_assoc (codes "dust " ++ device) (32 ∷ first) (32 ∷ size))
    ∙ words_of-first (codes "dust") (device ++ 32 ∷ (first ++ 32 ∷ size))
    (record { some = refl; solid = refl })
    ∙ ap (λ words. codes "dust" ∷ words)
    (words_of-first device (first ++ 32 ∷ size) (device_text-IsWord line.reference.dev)
    ∙ ap (λ words. device ∷ words)
    (words_of-first first size (decimal-IsWord line.reference.first)
    ∙ ap (λ words. first ∷ words) (words_of-only size (decimal-IsWord line.size))))

-- a block's size is below the greatest number of a table
size-small : (size : ℕ) → is_block_size size ≡ true → size ≤ 1073741824
size-small size is = leb-true size 1073741824
    (second_of_both (nat_le 512 size) (nat_le size 1073741824)
    (second_of_both _ (nat_le 512 size && nat_le size 1073741824) is))

-- the printed line of a device and two numbers in their ranges reads back
text-reads : (device : DevNo) (first size len : ℕ) → first ≤ greatest_sector → is_block_size size
    ≡ true
    → dust_target.parsed (words_of
    (text (opening_line (record { dev = device; first = first }) size len))) len
    ≡ Ok (drafted (device_text device) first size len)
text-reads device first size len near sized =
    ap (λ words. dust_target.parsed words len)
    (words_of-text (opening_line (record { dev = device; first = first }) size len))
    ∙ ap (λ number. found (device_text device) number (number_of (decimal size) 4294967295) len)
    (number_of-decimal first greatest_sector near (omega arith))
    ∙ ap (λ number. found (device_text device) (Ok first) number len)
    (number_of-decimal size 4294967295 (omega (arith, size-small size sized)) (omega arith))
    ∙ ap (λ (is : Bool).
    if is then Ok (drafted (device_text device) first size len) else Err BlockSize) sized

-- a line's target has one device, and reads back from its printed line
drafted-printed : (device : List ℕ) (first size len : ℕ) → first ≤ greatest_sector
    → is_block_size size ≡ true → (devices : List DevNo)
    → length devices ≡ 1 → (found : List ℕ → Option DevNo) → FindsPrinted found devices
    → resolved found (dust_target.parsed
    (words_of (text ((drafted device first size len).made devices))) len)
    ≡ Ok ((drafted device first size len).made devices)
drafted-printed device first size len near sized [] one found finds = absurd (omega arith)
drafted-printed device first size len near sized (known ∷ []) one found finds =
    ap (resolved found) (text-reads known first size len near sized)
    ∙ resolved-printed (drafted (device_text known) first size len) found (known ∷ []) refl finds
drafted-printed device first size len near sized (known ∷ other ∷ devices) one found finds = absurd
    (omega arith)

-- what is printed of a line that was read reads back
read-printed : (draft : Draft DustLine) (len : ℕ) → IsRead draft len → (devices : List DevNo)
    → length devices ≡ length draft.devices → (found : List ℕ → Option DevNo)
    → FindsPrinted found devices
    → resolved found (dust_target.parsed (words_of (text (draft.made devices))) len)
    ≡ Ok (draft.made devices)
read-printed draft len read devices count found finds =
    subst (λ (d : Draft DustLine). resolved found
    (dust_target.parsed (words_of (text (d.made devices))) len)
    ≡ Ok (d.made devices))
    (sym read.is)
    (drafted-printed read.device read.first read.size len read.near read.sized devices
    (count ∙ ap (λ d. length d.devices) read.is) found finds)

-- what was read is in its opening state
read-opened : (draft : Draft DustLine) (len : ℕ) → IsRead draft len → (devices : List DevNo)
    → (dust_target.shape (draft.made devices)).opening ≡ draft.made devices
read-opened draft len read devices = rw read.is refl

-- the dust target keeps the laws
pub dust-lawful : Lawful dust_target
dust-lawful = record {
  started = λ t now. refl;
  judged = λ t kind piece now. refl;
  messaged = λ t words. refl;
  opening = λ t. refl;
  rises = λ t place further before. block-rises t.size place further before;
  sound = λ t other alike sound. ap (λ s. dust_target.is_sound s.opening) alike ∙ sound;
  near = λ t sound kind. leb-true t.reference.first greatest_sector
      (first_of_both (nat_le t.reference.first greatest_sector) (is_block_size t.size) sound);
  bounded = λ t sound kind piece now. bounded-verdict t.reference piece
      (is_bad t.list kind (block_at t.size piece.first));
  verdicts = λ t kind piece now asked. allowed t kind piece
      (is_bad t.list kind (block_at t.size piece.first));
  none = λ len. refl;
  not_device = λ words len.
      line-never Device (λ same. absurd (cc)) (λ same. absurd (cc)) (λ same. absurd (cc)) words len
      (λ same. absurd (cc));
  not_memory = λ words len.
      line-never NoMemory (λ same. absurd (cc)) (λ same. absurd (cc)) (λ same. absurd (cc)) words
      len
      (λ same. absurd (cc));
  plain_printed = text-plain;
  plain_reply = λ t words. reply-plain t.list (message_of (block_count t) words);
  plain_status = λ t now held. status-plain t now held;
  made_sound = λ words len draft said devices.
      let read = line-ok words len draft said in
      ap (λ d. dust_target.is_sound (d.made devices)) read.is
      ∙ both (nat_le read.first greatest_sector) (is_block_size read.size)
      (le-leb read.first greatest_sector read.near) read.sized;
  opened = λ words len draft said devices. read-opened draft len (line-ok words len draft said)
      devices;
  printed = λ words len draft said devices count found finds.
      read-printed draft len (line-ok words len draft said) devices count found finds;
}
