-- The delay target keeps the laws. Names: the part of a line, and the fact.
use Rattle.std.proofs.Common.{◌≡◌, ◌≢◌, ◌==◌, ℕ, ◌+◌, ◌*◌, ◌<◌, ◌≤◌, Bool, true, false, not, List, [], ◌∷◌, ◌++◌, length, refl, ap, sym, ◌∙◌, arith, append_assoc, rules}
use Rattle.std.specs.Prelude.{◌&&◌, IfSome, Option, Some, None, Result, Ok, Err, codes, decimal, flat_map, map, nat_le, if◌then◌else◌}
use Rattle.std.specs.List.{list_all, list_any}
use Rattle.std.specs.Option.{option_and_then, option_map}
use Rattle.std.specs.Result.{result_ok}
use Rattle.std.proofs.lemmas.Bool.{leb-true, le-leb, lt-ltb}
use Rattle.std.proofs.lemmas.Bool.Decides.{nat_tests}
use Rattle.std.proofs.lemmas.List.{append-nil}
use Rattle.lab_sector.specs.declared.device.DevNo.{DevNo}
use Rattle.lab_sector.specs.declared.request.Kind.{Kind}
use Rattle.lab_sector.specs.declared.span.Span.{Span}
use Rattle.lab_text.specs.Numbers.{number_of}
use Rattle.lab_text.specs.Words.{words_of}
use Rattle.lab_target.specs.declared.fault.TargetFault.{TargetFault}
use Rattle.lab_target.specs.declared.fault.TargetFault.TheVariants.{Args, Device, NoMemory, Number, TooLong, Unknown}
use Rattle.lab_target.specs.declared.verdict.Held.{Held}
use Rattle.lab_target.specs.Laws.{Allowed, Bounded, Lawful, greatest_sector, is_plain}
use Rattle.lab_target.specs.Meaning.{Draft}
use Rattle.lab_target.specs.Reading.{FindsPrinted, device_text, resolved}
use Rattle.lab_target.specs.Types.{later_devices}
use Rattle.lab_text.proofs.NumbersLemmas.{number_of-within}
use Rattle.lab_target.proofs.PrintedWords.{IsWord, words_of-first, words_of-only, decimal-IsWord, decimal-plain, device_text-IsWord, device_text-plain, append-plain, number_of-decimal, both, first_of_both, second_of_both}
use Rattle.lab_target.proofs.ReadBack.{of_type-ok, of_type-never, resolved-printed}
use Rattle.lab_delay.specs.Delay.{Group, arguments, delay_target, given, group_for, group_text, is_sound_group, longest_delay, text, with_group}

-- a delay line passes each piece to its kind's reference, and holds it where it may
allowed : (t : List Group) (kind : Kind) (piece : Span) (now : ℕ)
    → Allowed (delay_target.shape t) kind piece (delay_target.verdict t kind piece now)
allowed t kind piece now = search (rules, lt-ltb)

-- the group of a kind is one of the groups
sound-group : (t : List Group) (kind : Kind) → list_all is_sound_group t ≡ true
    → is_sound_group (group_for t kind) ≡ true
sound-group t kind sound = search (rules, first_of_both, second_of_both)

-- a sound group refers to a sector that a table may name
group-near : (group : Group) → is_sound_group group ≡ true → group.reference.first ≤ greatest_sector
group-near group sound = leb-true group.reference.first greatest_sector
    (first_of_both (nat_le group.reference.first greatest_sector) (nat_le group.delay longest_delay) sound)

-- a sound group holds for an hour at most
group-timely : (group : Group) → is_sound_group group ≡ true → group.delay ≤ longest_delay
group-timely group sound = leb-true group.delay longest_delay
    (second_of_both (nat_le group.reference.first greatest_sector) (nat_le group.delay longest_delay) sound)

-- what a sound line answers keeps its bounds
bounded-verdict : (t : List Group) → list_all is_sound_group t ≡ true → (kind : Kind) (piece : Span) (now : ℕ)
    → Bounded (delay_target.verdict t kind piece now)
bounded-verdict t sound kind piece now =
    (omega (arith, group-timely (group_for t kind) (sound-group t kind sound)), tt, tt)

-- whether a group's delay is an hour at most
abbrev is_timely : Group → Bool
is_timely group = nat_le group.delay longest_delay

-- whether words are of one, two or three groups
abbrev is_counted : List (List ℕ) → Bool
is_counted words = list_any (λ count. length words == count) (3 ∷ 6 ∷ 9 ∷ [])

-- what words say of groups: so many and near ones, on the devices that are put in their places
record Reads (words : List (List ℕ)) (draft : Draft (List Group)) : Type 0 where
  least : (devices : List DevNo) → 3 * length (draft.made devices) ≤ length words
  most : (devices : List DevNo) → length words < 3 + 3 * length (draft.made devices)
  sound : (some devices : List DevNo) → list_all is_timely (draft.made some) ≡ true
      → list_all is_sound_group (draft.made devices) ≡ true
  placed : (devices : List DevNo) → length devices ≡ length draft.devices
      → map (λ (group : Group). group.reference.dev) (draft.made devices) ≡ devices

-- no group
reads-none : (words : List (List ℕ)) → length words < 3
    → Reads words (record { devices = []; made = λ devices. [] })
reads-none words few = record {
  least = λ devices. omega arith;
  most = λ devices. omega (arith, few);
  sound = λ some devices timely. refl;
  placed = elim [ [] ↦ λ same. refl | device ∷ devices ↦ λ same. absurd (omega (arith, same)) ];
}

-- one group more
reads-more : (device offset delay : List ℕ) (words : List (List ℕ)) (first held : ℕ) (others : Draft (List Group))
    → first ≤ greatest_sector → Reads words others
    → Reads (device ∷ offset ∷ delay ∷ words) (with_group device first held others)
reads-more device offset delay words first held others near reads = record {
  least = λ devices. omega (arith, reads.least (later_devices devices));
  most = λ devices. omega (arith, reads.most (later_devices devices));
  sound = λ some devices timely.
      let now = first_of_both (nat_le held longest_delay) (list_all is_timely (others.made (later_devices some)))
      timely in
      both (nat_le first greatest_sector && nat_le held longest_delay)
      (list_all is_sound_group (others.made (later_devices devices)))
      (both (nat_le first greatest_sector) (nat_le held longest_delay) (le-leb first greatest_sector near) now)
      (reads.sound (later_devices some) (later_devices devices)
      (second_of_both (nat_le held longest_delay) (list_all is_timely (others.made (later_devices some))) timely));
  placed = elim [
    | [] ↦ λ same. absurd (omega (arith, same))
    | known ∷ devices ↦ λ same. ap (λ rest. known ∷ rest) (reads.placed devices (omega (arith, same)))
  ];
}

-- the words of one group and others, where their numbers can be read
more-reads : (device offset delay : List ℕ) (words : List (List ℕ)) (first held : Option ℕ)
    (rest : Option (Draft (List Group))) (draft : Draft (List Group))
    → IfSome first (λ n. n ≤ greatest_sector)
    → ((others : Draft (List Group)) → rest ≡ Some others → Reads words others)
    → option_and_then (λ f. option_and_then (λ m. option_map (with_group device f m) rest) held) first ≡ Some draft
    → Reads (device ∷ offset ∷ delay ∷ words) draft
more-reads device offset delay words None held rest draft near others said = absurd (cc)
more-reads device offset delay words (Some first) None rest draft near others said = absurd (cc)
more-reads device offset delay words (Some first) (Some held) None draft near others said = absurd (cc)
more-reads device offset delay words (Some first) (Some held) (Some rest) draft near others said =
    let same : draft ≡ with_group device first held rest = cc in
    rw same (reads-more device offset delay words first held rest near (others rest refl))

-- what words say when they say something
given-reads : (words : List (List ℕ)) (draft : Draft (List Group)) → given words ≡ Some draft → Reads words draft
given-reads [] draft said =
    let same : draft ≡ record { devices = []; made = λ devices. [] } = cc in
    rw same (reads-none [] (omega arith))
given-reads (a ∷ []) draft said =
    let same : draft ≡ record { devices = []; made = λ devices. [] } = cc in
    rw same (reads-none (a ∷ []) (omega arith))
given-reads (a ∷ b ∷ []) draft said =
    let same : draft ≡ record { devices = []; made = λ devices. [] } = cc in
    rw same (reads-none (a ∷ b ∷ []) (omega arith))
given-reads (device ∷ offset ∷ delay ∷ words) draft said =
    more-reads device offset delay words (result_ok (number_of offset greatest_sector))
    (result_ok (number_of delay 4294967295)) (given words) draft (number_of-within offset greatest_sector)
    (λ others is. given-reads words others is) said

-- a line that was read
record IsRead (words : List (List ℕ)) (draft : Draft (List Group)) : Type 0 where
  counted : is_counted words ≡ true
  reads : Reads words draft
  timely : list_all is_timely (draft.made []) ≡ true

-- what a number of words, the groups of them and their delays say
abbrev found : Bool → Option (Draft (List Group)) → Result (Draft (List Group)) TargetFault
found counted groups = if not counted then Err Args
    else elim groups [
      | None ↦ Err Number
      | Some draft ↦ if list_all is_timely (draft.made []) then Ok draft else Err TooLong
    ]

-- a draft comes out where its delays are an hour at most
timely-ok : (timely : Bool) (made draft : Draft (List Group)) → (if timely then Ok made else Err TooLong) ≡ Ok draft
    → (timely ≡ true) × (draft ≡ made)
timely-ok true made draft said = (refl, cc)
timely-ok false made draft said = absurd (cc)

-- what the arguments say when they say something
found-ok : (words : List (List ℕ)) (counted : Bool) (groups : Option (Draft (List Group))) (draft : Draft (List Group))
    → is_counted words ≡ counted → given words ≡ groups → found counted groups ≡ Ok draft → IsRead words draft
found-ok words false groups draft is gives said = absurd (cc)
found-ok words true None draft is gives said = absurd (cc)
found-ok words true (Some made) draft is gives said =
    let one = timely-ok (list_all is_timely (made.made [])) made draft said in
    rw one.1 (record { counted = is; reads = given-reads words made gives; timely = one.0 })

-- what a line says when it says something
line-ok : (words : List (List ℕ)) (len : ℕ) (draft : Draft (List Group))
    → delay_target.parsed words len ≡ Ok draft → (rest : List (List ℕ)) × IsRead rest draft
line-ok words len draft said =
    let args = of_type-ok (codes "delay") arguments words draft said in
    (args.0, found-ok args.0 (is_counted args.0) (given args.0) draft refl refl args.1)

module _ (fault : TargetFault) (args : Args ≢ fault) (number : Number ≢ fault) (long : TooLong ≢ fault) where
  -- the arguments' faults are their number, their numbers and their delays
  found-never : (counted : Bool) (groups : Option (Draft (List Group))) → found counted groups ≢ Err fault
  found-never counted groups said = search rules

  -- a line has no other faults
  line-never : (words : List (List ℕ)) (len : ℕ) → (Unknown ≢ fault) → delay_target.parsed words len ≢ Err fault
  line-never words len unknown = of_type-never (codes "delay") arguments fault unknown
      (λ rest. found-never (is_counted rest) (given rest)) words

-- a printed group is plain
group-plain : (group : Group) → list_all is_plain (group_text group) ≡ true
group-plain group = search (rules, append-plain, device_text-plain, decimal-plain)

-- printed groups are plain
groups-plain : (groups : List Group) → list_all is_plain (flat_map (λ group. 32 ∷ group_text group) groups) ≡ true
groups-plain [] = refl
groups-plain (group ∷ groups) = append-plain (32 ∷ group_text group)
    (flat_map (λ group. 32 ∷ group_text group) groups) (group-plain group) (groups-plain groups)

-- a status is plain
status-plain : (target : List Group) (now : ℕ) (held : Held)
    → list_all is_plain (delay_target.status target now held) ≡ true
status-plain target now held = search (rules, append-plain, decimal-plain)

-- the words that groups are printed with
printed_words : List Group → List (List ℕ)
printed_words [] = []
printed_words (group ∷ groups) = device_text group.reference.dev ∷ decimal group.reference.first
    ∷ decimal group.delay ∷ printed_words groups

-- what these words say
printed_draft : List Group → Draft (List Group)
printed_draft [] = record { devices = []; made = λ devices. [] }
printed_draft (group ∷ groups) =
    with_group (device_text group.reference.dev) group.reference.first group.delay (printed_draft groups)

-- the words of printed groups after a word
words_of-printed : (word : List ℕ) → IsWord word → (groups : List Group)
    → words_of (word ++ flat_map (λ group. 32 ∷ group_text group) groups) ≡ word ∷ printed_words groups
unfolding printed_words
words_of-printed word is [] = ap words_of (append-nil word) ∙ words_of-only word is
words_of-printed word is (group ∷ groups) =
    let device = device_text group.reference.dev in
    let first = decimal group.reference.first in
    let delay = decimal group.delay in
    let rest = flat_map (λ group. 32 ∷ group_text group) groups in
    words_of-first word (group_text group ++ rest) is
    ∙ ap (λ words. word ∷ words)
    (ap words_of (append_assoc (device ++ 32 ∷ first) (32 ∷ delay) rest
    ∙ append_assoc device (32 ∷ first) (32 ∷ (delay ++ rest)))
    ∙ words_of-first device (first ++ 32 ∷ (delay ++ rest)) (device_text-IsWord group.reference.dev)
    ∙ ap (λ words. device ∷ words)
    (words_of-first first (delay ++ rest) (decimal-IsWord group.reference.first)
    ∙ ap (λ words. first ∷ words) (words_of-printed delay (decimal-IsWord group.delay) groups)))

-- printed groups read back
given-printed : (groups : List Group) → list_all is_sound_group groups ≡ true
    → given (printed_words groups) ≡ Some (printed_draft groups)
unfolding printed_words printed_draft
given-printed [] sound = refl
given-printed (group ∷ groups) sound =
    let now = first_of_both (is_sound_group group) (list_all is_sound_group groups) sound in
    rw (
      number_of-decimal group.reference.first greatest_sector (group-near group now) (omega arith),
      number_of-decimal group.delay 4294967295 (omega (arith, group-timely group now)) (omega arith),
      given-printed groups (second_of_both (is_sound_group group) (list_all is_sound_group groups) sound),
    ) refl

-- three words are printed for each group
printed-length : (groups : List Group) → length (printed_words groups) ≡ 3 * length groups
unfolding printed_words
printed-length [] = refl
printed-length (group ∷ groups) = omega (arith, printed-length groups)

-- the device words are the devices', in order
printed-devices : (groups : List Group)
    → (printed_draft groups).devices ≡ map device_text (map (λ (group : Group). group.reference.dev) groups)
unfolding printed_draft
printed-devices [] = refl
printed-devices (group ∷ groups) = ap (λ words. device_text group.reference.dev ∷ words) (printed-devices groups)

-- with the devices in their places they are the groups again
printed-made : (groups : List Group)
    → (printed_draft groups).made (map (λ (group : Group). group.reference.dev) groups) ≡ groups
unfolding printed_draft
printed-made [] = refl
printed-made (group ∷ groups) = ap (λ rest. group ∷ rest) (printed-made groups)

-- their delays are as they were
printed-timely : (groups : List Group) → list_all is_sound_group groups ≡ true → (devices : List DevNo)
    → list_all is_timely ((printed_draft groups).made devices) ≡ true
unfolding printed_draft
printed-timely [] sound devices = refl
printed-timely (group ∷ groups) sound devices =
    both (nat_le group.delay longest_delay) (list_all is_timely ((printed_draft groups).made (later_devices devices)))
    (second_of_both (nat_le group.reference.first greatest_sector) (nat_le group.delay longest_delay)
    (first_of_both (is_sound_group group) (list_all is_sound_group groups) sound))
    (printed-timely groups (second_of_both (is_sound_group group) (list_all is_sound_group groups) sound)
    (later_devices devices))

-- a number of words of one, two or three groups is three times that of the groups
count-same : (words n : ℕ) → list_any (λ count. words == count) (3 ∷ 6 ∷ 9 ∷ []) ≡ true → 3 * n ≤ words
    → words < 3 + 3 * n → words ≡ 3 * n
count-same words n counted least most = grind (arith, nat_tests)

-- as many words as those of a line are of one, two or three groups, too
same-counted : (words printed : List (List ℕ)) (n : ℕ) → is_counted words ≡ true → 3 * n ≤ length words
    → length words < 3 + 3 * n → length printed ≡ 3 * n → is_counted printed ≡ true
same-counted words printed n counted least most is =
    let same : length printed ≡ length words = is ∙ sym (count-same (length words) n counted least most) in
    rw same counted

-- sound groups of this number read back from their printed line
text-reads : (groups : List Group) (len : ℕ) → list_all is_sound_group groups ≡ true
    → is_counted (printed_words groups) ≡ true
    → delay_target.parsed (words_of (text groups)) len ≡ Ok (printed_draft groups)
text-reads groups len sound counted =
    ap (λ words. delay_target.parsed words len)
    (words_of-printed (codes "delay") (record { some = refl; solid = refl }) groups)
    ∙ ap (λ some. found some (given (printed_words groups))) counted
    ∙ ap (found true) (given-printed groups sound)
    ∙ ap (λ (timely : Bool). if timely then Ok (printed_draft groups) else Err TooLong)
    (printed-timely groups sound [])

-- groups on some devices read back from their printed line
text-resolved : (groups : List Group) (len : ℕ) → list_all is_sound_group groups ≡ true
    → is_counted (printed_words groups) ≡ true → (devices : List DevNo)
    → map (λ (group : Group). group.reference.dev) groups ≡ devices
    → (found : List ℕ → Option DevNo) → FindsPrinted found devices
    → resolved found (delay_target.parsed (words_of (text groups)) len) ≡ Ok groups
text-resolved groups len sound counted devices placed found finds =
    ap (resolved found) (text-reads groups len sound counted)
    ∙ resolved-printed (printed_draft groups) found devices
    (printed-devices groups ∙ ap (map device_text) placed) finds
    ∙ ap (λ known. Ok ((printed_draft groups).made known)) (sym placed)
    ∙ ap Ok (printed-made groups)

-- the printed law
printed-back : (words : List (List ℕ)) (draft : Draft (List Group)) → IsRead words draft → (len : ℕ)
    → (devices : List DevNo) → length devices ≡ length draft.devices
    → (found : List ℕ → Option DevNo) → FindsPrinted found devices
    → resolved found (delay_target.parsed (words_of (text (draft.made devices))) len) ≡ Ok (draft.made devices)
printed-back words draft read len devices count found finds =
    let groups = draft.made devices in
    text-resolved groups len (read.reads.sound [] devices read.timely)
    (same-counted words (printed_words groups) (length groups) read.counted (read.reads.least devices)
    (read.reads.most devices) (printed-length groups))
    devices (read.reads.placed devices count) found finds

-- the delay target keeps the laws
pub delay-lawful : Lawful delay_target
delay-lawful = record {
  started = λ t now. refl;
  judged = λ t kind piece now. refl;
  messaged = λ t words. refl;
  opening = λ t. refl;
  rises = λ t place further before. omega arith;
  sound = λ t other alike sound. ap (λ s. list_all is_sound_group s.opening) alike ∙ sound;
  near = λ t sound kind. group-near (group_for t kind) (sound-group t kind sound);
  bounded = bounded-verdict;
  verdicts = λ t kind piece now asked. allowed t kind piece now;
  none = λ len. refl;
  not_device = λ words len.
      line-never Device (λ same. absurd (cc)) (λ same. absurd (cc)) (λ same. absurd (cc)) words len
      (λ same. absurd (cc));
  not_memory = λ words len.
      line-never NoMemory (λ same. absurd (cc)) (λ same. absurd (cc)) (λ same. absurd (cc)) words len
      (λ same. absurd (cc));
  plain_printed = groups-plain;
  plain_reply = λ t words. refl;
  plain_status = status-plain;
  made_sound = λ words len draft said devices.
      let read = (line-ok words len draft said).1 in read.reads.sound [] devices read.timely;
  opened = λ words len draft said devices. refl;
  printed = λ words len draft said. let line = line-ok words len draft said in printed-back line.0 draft line.1 len;
}
