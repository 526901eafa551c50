-- A printed flakey line is plain and reads back. Names: what is printed, and the fact.
use Rattle.std.proofs.Common.{◌≡◌, ℕ, cond, ◌≤◌, Bool, true, false, List, [], ◌∷◌, ◌++◌, length, refl, ap, sym, subst, ◌∙◌, arith, append-nil, eq-eqb, length-append, rules}
use Rattle.std.specs.Prelude.{◌&&◌, ◌==◌, not, drop, slice_get, nat_le, Option, Some, None, Ok, Err, codes, decimal}
use Rattle.std.specs.List.{list_all}
use Rattle.std.specs.Option.{ok_or, option_map_or, unwrap_or}
use Rattle.std.proofs.lemmas.Bool.{leb-true}
use Rattle.lab_sector.specs.declared.device.DevNo.{DevNo}
use Rattle.lab_text.specs.Numbers.{is_number, number_of, value_of}
use Rattle.lab_text.specs.Words.{spaced, words_of}
use Rattle.lab_target.specs.declared.fault.TargetFault.TheVariants.{Args, Conflict, Interval, Number}
use Rattle.lab_target.specs.Laws.{greatest_sector, is_plain}
use Rattle.lab_target.specs.Meaning.{Draft}
use Rattle.lab_target.specs.Reading.{FindsPrinted, device_text, resolved}
use Rattle.lab_target.proofs.PrintedWords.{IsWord, words_of-first, words_of-only, decimal-IsWord, decimal-plain, device_text-IsWord, device_text-plain, append-plain, number_of-decimal, first_of_both, second_of_both}
use Rattle.lab_target.proofs.ReadBack.{resolved-printed}
use Rattle.lab_flakey.specs.declared.feature.Corruption.{Corruption}
use Rattle.lab_flakey.specs.declared.feature.Direction.{Direction}
use Rattle.lab_flakey.specs.declared.feature.Direction.TheVariants.{Reads, Writes}
use Rattle.lab_flakey.specs.declared.feature.Features.{Features}
use Rattle.lab_flakey.specs.declared.line.Counts.{Counts}
use Rattle.lab_flakey.specs.Flakey.{FlakeyLine, Generator, counted, counts_said, drafted, flakey, is_interval, text, with_counts}
use Rattle.lab_flakey.specs.Features.{result_and_then, certain, conflicts, corruption_first, direction_of, direction_word, feature_words, features_of, greatest_count, is_sound_corruption, is_sound_features, no_features}
use Rattle.lab_flakey.specs.Printed.{chance_words, corruption_words, feature_words_are, flag_words}
use Rattle.lab_flakey.specs.ReadingLaws.{IsGood, line-ok, parts-of-sound}

-- what is printed as one word: it is one, and plain
record IsPrinted (word : List ℕ) : Type 0 where
  is : IsWord word
  plain : list_all is_plain word ≡ true

-- each word is printed as one
ArePrinted : List (List ℕ) → Type 0
ArePrinted [] = Unit {0}
ArePrinted (word ∷ words) = IsPrinted word × ArePrinted words

-- words that are printed so, and others after them
append-printed : (first second : List (List ℕ)) → ArePrinted first → ArePrinted second
    → ArePrinted (first ++ second)
unfolding ArePrinted
append-printed [] second one other = other
append-printed (word ∷ first) second one other = (one.0, append-printed first second one.1 other)

-- a number is printed as one word
decimal-printed : (n : ℕ) → IsPrinted (decimal n)
decimal-printed n = record { is = decimal-IsWord n; plain = decimal-plain n }

-- a device is printed as one word
device-printed : (device : DevNo) → IsPrinted (device_text device)
device-printed device = record { is = device_text-IsWord device; plain = device_text-plain device }

-- the word of a feature without arguments is printed as one
flag-printed : (given : Bool) (word : List ℕ) → IsPrinted word → ArePrinted (flag_words given word)
unfolding ArePrinted
flag-printed true word one = (one, tt)
flag-printed false word one = tt

-- a direction is printed as one word
direction-printed : (direction : Direction) → IsPrinted (direction_word direction)
direction-printed Reads = record { is = record { some = refl; solid = refl }; plain = refl }
direction-printed Writes = record { is = record { some = refl; solid = refl }; plain = refl }

-- a corruption's words are printed as such
corruption-printed : (corrupt : Option Corruption) → ArePrinted (corruption_words corrupt)
unfolding ArePrinted
corruption-printed corrupt = search (rules, decimal-printed, direction-printed)

-- a chance's words are printed as such
chance-printed : (name : List ℕ) → IsPrinted name → (chance : Option ℕ)
    → ArePrinted (chance_words name chance)
unfolding ArePrinted
chance-printed name one chance = search (rules, decimal-printed)

-- the features' words are printed as such
features-printed : (features : Features) → ArePrinted (feature_words features)
features-printed features = rw (feature_words_are features) (
    let errors = flag_words features.error_reads (codes "error_reads") in
    let drops = flag_words features.drop_writes (codes "drop_writes") in
    let fails = flag_words features.error_writes (codes "error_writes") in
    let corrupts = corruption_words features.corrupt in
    let reads = chance_words (codes "random_read_corrupt") features.random_read in
    let writes = chance_words (codes "random_write_corrupt") features.random_write in
    append-printed errors (drops ++ (fails ++ (corrupts ++ (reads ++ writes))))
    (flag-printed features.error_reads (codes "error_reads")
    (record { is = record { some = refl; solid = refl }; plain = refl }))
    (append-printed drops (fails ++ (corrupts ++ (reads ++ writes)))
    (flag-printed features.drop_writes (codes "drop_writes")
    (record { is = record { some = refl; solid = refl }; plain = refl }))
    (append-printed fails (corrupts ++ (reads ++ writes))
    (flag-printed features.error_writes (codes "error_writes")
    (record { is = record { some = refl; solid = refl }; plain = refl }))
    (append-printed corrupts (reads ++ writes) (corruption-printed features.corrupt)
    (append-printed reads writes
    (chance-printed (codes "random_read_corrupt")
    (record { is = record { some = refl; solid = refl }; plain = refl }) features.random_read)
    (chance-printed (codes "random_write_corrupt")
    (record { is = record { some = refl; solid = refl }; plain = refl }) features.random_write))))))

-- words with their number before them are printed as such
counted-printed : (words : List (List ℕ)) → ArePrinted words → ArePrinted (counted words)
unfolding ArePrinted
counted-printed [] are = tt
counted-printed (word ∷ words) are = (decimal-printed (length (word ∷ words)), are)

-- the words of a line after the type's own
abbrev line_words : {G : Type 0} → FlakeyLine G → List (List ℕ)
line_words target =
    device_text target.reference.dev ∷ decimal target.reference.first ∷ decimal target.up
    ∷ decimal target.down ∷ counted (feature_words target.features)

-- a line's words are printed as such
line-printed : {G : Type 0} (target : FlakeyLine G) → ArePrinted (line_words target)
unfolding ArePrinted
line-printed target = (
  device-printed target.reference.dev,
  (
    decimal-printed target.reference.first,
    (
      decimal-printed target.up,
      (
        decimal-printed target.down,
        counted-printed (feature_words target.features) (features-printed target.features),
      ),
    ),
  ),
)

-- plain words are plain with spaces before them
spaced-plain : (words : List (List ℕ)) → ArePrinted words → list_all is_plain (spaced words) ≡ true
unfolding ArePrinted
spaced-plain [] are = refl
spaced-plain (word ∷ words) are = search (rules, append-plain, spaced-plain words are.1)

-- a printed line is plain
pub text-plain : {G : Type 0} (target : FlakeyLine G) → list_all is_plain (text target) ≡ true
text-plain target = append-plain (codes "flakey") (spaced (line_words target)) refl
    (spaced-plain (line_words target) (line-printed target))

-- a status is plain
pub status-plain : (down : Bool)
    → list_all is_plain (cond down (codes "flakey down") (codes "flakey up")) ≡ true
status-plain true = refl
status-plain false = refl

-- words with spaces between them are these words
words_of-spaced : (word : List ℕ) (words : List (List ℕ)) → IsWord word → ArePrinted words
    → words_of (word ++ spaced words) ≡ word ∷ words
unfolding ArePrinted
words_of-spaced word [] is are = ap words_of (append-nil word) ∙ words_of-only word is
words_of-spaced word (next ∷ words) is are =
    words_of-first word (next ++ spaced words) is
    ∙ ap (λ (rest : List (List ℕ)). word ∷ rest) (words_of-spaced next words are.0.is are.1)

-- the words of a printed line
words_of-text : {G : Type 0} (target : FlakeyLine G)
    → words_of (text target) ≡ codes "flakey" ∷ line_words target
words_of-text target = words_of-spaced (codes "flakey") (line_words target)
    (record { some = refl; solid = refl }) (line-printed target)

-- the word of a direction names it
direction-back : (direction : Direction) → direction_of (direction_word direction) ≡ Some direction
direction-back Reads = refl
direction-back Writes = refl

-- a number that is printed is one, and has its value
record IsSpelled (n : ℕ) : Type 0 where
  is : is_number (decimal n) ≡ true
  value : value_of (decimal n) ≡ n

-- a word that is read as a number spells it
spelled : (word : List ℕ) (max n : ℕ) → number_of word max ≡ Ok n
    → (is_number word ≡ true) × (value_of word ≡ n)
unfolding number_of
spelled word max n said = search rules

-- a number of 32 bits is spelled by its digits
decimal-spelled : (n : ℕ) → n ≤ greatest_count → IsSpelled n
decimal-spelled n fits =
    let read = spelled (decimal n) greatest_count n
    (number_of-decimal n greatest_count fits (omega arith)) in
    record { is = read.0; value = read.1 }

-- a sound corruption's words say it
corruption-back : (c : Corruption) → is_sound_corruption c ≡ true → (rest : List (List ℕ))
    → corruption_first (decimal c.nth ∷ direction_word c.direction ∷ decimal c.value
    ∷ decimal c.flags ∷ rest) ≡ Ok c
corruption-back c sound rest =
    let high = nat_le c.nth greatest_count in
    let byte = nat_le c.value 255 in
    let flag = nat_le c.flags greatest_count in
    let more = second_of_both (nat_le 1 c.nth) (high && (byte && flag)) sound in
    let last = second_of_both high (byte && flag) more in
    let nth = decimal-spelled c.nth
    (leb-true c.nth greatest_count (first_of_both high (byte && flag) more)) in
    let small = leb-true c.value 255 (first_of_both byte flag last) in
    let value = decimal-spelled c.value (omega (arith, small)) in
    let flags = decimal-spelled c.flags
    (leb-true c.flags greatest_count (second_of_both byte flag last)) in
    rw (
      direction-back c.direction,
      nth.is,
      value.is,
      flags.is,
      nth.value,
      value.value,
      flags.value,
      sound,
    ) refl

-- a sound chance's word says it
chance-back : (chance : ℕ) → nat_le chance certain ≡ true
    → number_of (decimal chance) certain ≡ Ok chance
chance-back chance sound =
    number_of-decimal chance certain (leb-true chance certain sound) (omega arith)

-- `error_reads` read back
error_reads-back : (reads : Bool) (rest : List (List ℕ))
    → features_of 0 no_features (flag_words reads (codes "error_reads") ++ rest)
    ≡ features_of 0 (record no_features { error_reads = reads }) rest
error_reads-back reads rest = search rules

-- `drop_writes` read back
drop_writes-back : (reads drop : Bool) (rest : List (List ℕ)) → features_of 0
    (record no_features { error_reads = reads }) (flag_words drop (codes "drop_writes") ++ rest)
    ≡ features_of 0 (record no_features { error_reads = reads; drop_writes = drop }) rest
drop_writes-back reads drop rest = search rules

-- `error_writes` read back
error_writes-back : (reads drop writes : Bool) (rest : List (List ℕ))
    → features_of 0 (record no_features { error_reads = reads; drop_writes = drop })
    (flag_words writes (codes "error_writes") ++ rest)
    ≡ features_of 0
    (record no_features { error_reads = reads; drop_writes = drop; error_writes = writes }) rest
error_writes-back reads drop true rest = refl
error_writes-back reads drop false rest = refl

-- the features up to a fixed corruption
certain_features : Features → Features
certain_features f = record no_features {
  error_reads = f.error_reads;
  drop_writes = f.drop_writes;
  error_writes = f.error_writes;
}

-- a fixed corruption reads back
corrupt-back : (f : Features) (corrupt : Option Corruption)
    → option_map_or is_sound_corruption corrupt true ≡ true → (rest : List (List ℕ))
    → features_of 0 (certain_features f) (corruption_words corrupt ++ rest)
    ≡ features_of 0 (record (certain_features f) { corrupt = corrupt }) rest
unfolding certain_features
corrupt-back f None sound rest = refl
corrupt-back f (Some c) sound rest = rw (corruption-back c sound rest) refl

-- a chance for reads reads back
random_read-back : (f : Features) (corrupt : Option Corruption) (chance : Option ℕ)
    → nat_le (unwrap_or chance 0) certain ≡ true → (rest : List (List ℕ))
    → features_of 0 (record (certain_features f) { corrupt = corrupt })
    (chance_words (codes "random_read_corrupt") chance ++ rest)
    ≡ features_of 0 (record (certain_features f) { corrupt = corrupt; random_read = chance }) rest
unfolding certain_features
random_read-back f corrupt None sound rest = refl
random_read-back f corrupt (Some chance) sound rest = rw (chance-back chance sound) refl

-- a chance for writes reads back
random_write-back : (f : Features) (corrupt : Option Corruption) (reads chance : Option ℕ)
    → nat_le (unwrap_or chance 0) certain ≡ true
    → features_of 0 (record (certain_features f) { corrupt = corrupt; random_read = reads })
    (chance_words (codes "random_write_corrupt") chance)
    ≡ Ok (record (certain_features f) {
      corrupt = corrupt;
      random_read = reads;
      random_write = chance;
    })
unfolding certain_features
random_write-back f corrupt reads None sound = refl
random_write-back f corrupt reads (Some chance) sound = rw (chance-back chance sound) refl

-- sound features read back from their words
features-back : (f : Features) → is_sound_features f ≡ true
    → features_of 0 no_features (feature_words f) ≡ Ok f
unfolding certain_features
features-back f sound = rw (feature_words_are f) (
    let parts = parts-of-sound f sound in
    let drops = flag_words f.drop_writes (codes "drop_writes") in
    let fails = flag_words f.error_writes (codes "error_writes") in
    let corrupts = corruption_words f.corrupt in
    let reads = chance_words (codes "random_read_corrupt") f.random_read in
    let writes = chance_words (codes "random_write_corrupt") f.random_write in
    error_reads-back f.error_reads (drops ++ (fails ++ (corrupts ++ (reads ++ writes))))
    ∙ drop_writes-back f.error_reads f.drop_writes (fails ++ (corrupts ++ (reads ++ writes)))
    ∙ error_writes-back f.error_reads f.drop_writes f.error_writes (corrupts ++ (reads ++ writes))
    ∙ corrupt-back f f.corrupt parts.corrupt (reads ++ writes)
    ∙ random_read-back f f.corrupt f.random_read parts.reads writes
    ∙ random_write-back f f.corrupt f.random_read f.random_write parts.writes)

-- so many words of a feature without arguments at most
flag-few : (given : Bool) (word : List ℕ) → length (flag_words given word) ≤ 1
flag-few true word = omega arith
flag-few false word = omega arith

-- so many words of a fixed corruption at most
corruption-few : (corrupt : Option Corruption) → length (corruption_words corrupt) ≤ 5
corruption-few None = omega arith
corruption-few (Some c) = omega arith

-- so many words of a chance at most
chance-few : (name : List ℕ) (chance : Option ℕ) → length (chance_words name chance) ≤ 2
chance-few name None = omega arith
chance-few name (Some chance) = omega arith

-- twelve words of features at most
features-few : (f : Features) → length (feature_words f) ≤ 12
features-few f = rw (feature_words_are f) (
    let errors = flag_words f.error_reads (codes "error_reads") in
    let drops = flag_words f.drop_writes (codes "drop_writes") in
    let fails = flag_words f.error_writes (codes "error_writes") in
    let corrupts = corruption_words f.corrupt in
    let reads = chance_words (codes "random_read_corrupt") f.random_read in
    let writes = chance_words (codes "random_write_corrupt") f.random_write in
    omega (
      arith,
      length-append errors (drops ++ (fails ++ (corrupts ++ (reads ++ writes)))),
      length-append drops (fails ++ (corrupts ++ (reads ++ writes))),
      length-append fails (corrupts ++ (reads ++ writes)),
      length-append corrupts (reads ++ writes),
      length-append reads writes,
      flag-few f.error_reads (codes "error_reads"),
      flag-few f.drop_writes (codes "drop_writes"),
      flag-few f.error_writes (codes "error_writes"),
      corruption-few f.corrupt,
      chance-few (codes "random_read_corrupt") f.random_read,
      chance-few (codes "random_write_corrupt") f.random_write,
    ))

-- the number of words that is told after the intervals
abbrev told : List (List ℕ) → List ℕ
told words = unwrap_or (slice_get words 0) (codes "0")

-- the number of words is told before them
count-back : (words : List (List ℕ)) → length words ≤ greatest_count
    → number_of (told (counted words)) greatest_count ≡ Ok (length words)
unfolding number_of
count-back [] few = refl
count-back (word ∷ words) few =
    number_of-decimal (length (word ∷ words)) greatest_count few (omega arith)

-- the words come after their number
words-back : (words : List (List ℕ)) → drop 1 (counted words) ≡ words
words-back [] = refl
words-back (word ∷ words) = refl

-- the numbers of a line as it is printed
printed_counts : Counts → Features → Counts
printed_counts counts features = record counts { count = length (feature_words features) }

-- an interval's parts are of 32 bits
record IntervalParts (up down : ℕ) : Type 0 where
  up_fits : up ≤ greatest_count
  down_fits : down ≤ greatest_count

-- the parts of an interval
parts-of-interval : (up down : ℕ) → is_interval up down ≡ true → IntervalParts up down
parts-of-interval up down interval = search (rules, leb-true, second_of_both)

-- good numbers read back
counts-back : (counts : Counts) (features : Features) → IsGood counts features
    → counts_said (decimal counts.first) (decimal counts.up) (decimal counts.down)
    (told (counted (feature_words features))) ≡ Some (printed_counts counts features)
unfolding printed_counts
counts-back n features good =
    let words = feature_words features in
    let parts = parts-of-interval n.up n.down good.interval in
    let few : length words ≤ greatest_count = omega (arith, features-few features) in
    rw (
      number_of-decimal n.first greatest_sector good.near (omega arith),
      number_of-decimal n.up greatest_count parts.up_fits (omega arith),
      number_of-decimal n.down greatest_count parts.down_fits (omega arith),
      count-back words few,
    ) refl

module _ {G : Type 0} (source : Generator G) where
  -- the printed line of a device, good numbers and good features reads back
  line-back : (device : DevNo) (word : List ℕ) (counts : Counts) (features : Features)
      → IsGood counts features → (len : ℕ)
      → (flakey source).parsed
      (words_of (text ((drafted source word counts features).made (device ∷ [])))) len
      ≡ Ok (drafted source (device_text device) (printed_counts counts features) features)
  unfolding printed_counts
  line-back device word n features good len =
      let words = feature_words features in
      let name = device_text device in
      let printed = printed_counts n features in
      let made = λ (f : Features). cond (conflicts f) (Err Conflict)
      (Ok (drafted source name printed f)) in
      ap (λ (line : List (List ℕ)). (flakey source).parsed line len)
      (words_of-text ((drafted source word n features).made (device ∷ [])))
      ∙ ap (λ (read : Option Counts).
      result_and_then (λ counts. with_counts source name counts (drop 1 (counted words)))
      (ok_or read Number)) (counts-back n features good)
      ∙ ap (with_counts source name printed) (words-back words)
      ∙ ap (λ (test : Bool). cond (not test) (Err Interval)
      (cond (not (length words == length words)) (Err Args)
      (result_and_then made (features_of 0 no_features words)))) good.interval
      ∙ ap (λ (test : Bool). cond (not test) (Err Args)
      (result_and_then made (features_of 0 no_features words)))
      (eq-eqb (length words) (length words) refl)
      ∙ ap (result_and_then made) (features-back features good.sound)
      ∙ ap (λ (test : Bool). cond test (Err Conflict) (Ok (drafted source name printed features)))
      good.apart

  -- a line of good numbers and features reads back from its printed text
  ReadsBack : Draft (FlakeyLine G) → ℕ → List DevNo → (List ℕ → Option DevNo) → Type 0
  ReadsBack draft len devices found =
      resolved found ((flakey source).parsed (words_of (text (draft.made devices))) len)
      ≡ Ok (draft.made devices)

  -- a draft of good numbers and features reads back
  drafted-back : (word : List ℕ) (counts : Counts) (features : Features) → IsGood counts features
      → (len : ℕ) (devices : List DevNo) → length devices ≡ 1
      → (found : List ℕ → Option DevNo) → FindsPrinted found devices
      → ReadsBack (drafted source word counts features) len devices found
  unfolding ReadsBack printed_counts
  drafted-back word n features good len [] one found finds = absurd (omega arith)
  drafted-back word n features good len (device ∷ []) one found finds =
      ap (resolved found) (line-back device word n features good len)
      ∙ resolved-printed (drafted source (device_text device) (printed_counts n features) features)
      found (device ∷ []) refl finds
  drafted-back word n features good len (device ∷ other ∷ devices) one found finds =
      absurd (omega arith)

  -- what is printed of a line that was read reads back
  pub printed-back : (words : List (List ℕ)) (len : ℕ) (draft : Draft (FlakeyLine G))
      → (flakey source).parsed words len ≡ Ok draft
      → (devices : List DevNo) → length devices ≡ length draft.devices
      → (found : List ℕ → Option DevNo) → FindsPrinted found devices
      → resolved found ((flakey source).parsed (words_of (text (draft.made devices))) len)
      ≡ Ok (draft.made devices)
  unfolding ReadsBack
  printed-back words len draft said devices count found finds =
      let read = line-ok source words len draft said in
      subst (λ (d : Draft (FlakeyLine G)). ReadsBack d len devices found) (sym read.is)
      (drafted-back read.device read.counts read.features read.good len devices
      (count ∙ ap (λ (d : Draft (FlakeyLine G)). length d.devices) read.is) found finds)
