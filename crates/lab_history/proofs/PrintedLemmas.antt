-- The numbers that words spell. The events of a history, one line after another. Names:
-- events_from, and the form of the next line. The printed text of events, read back line by line
-- and word by word.
use Rattle.lab_model.proofs.Common.{rules, ◌≡◌, ℕ, ◌≤◌, true, length, Some, refl, arith, All}
use Rattle.lab_model.proofs.Common.{decimal, le-leb, lt-ltb, decimal_nonempty, All-from_get_or}
use Rattle.lab_model.proofs.Common.{All-weaker, number_to, ◌+◌, false, List, ◌∷◌, ◌++◌, map, Result}
use Rattle.lab_model.proofs.Common.{Ok, is_skipped, kept_from, ◌<◌, Bool, [], ap, ◌∙◌}
use Rattle.lab_model.proofs.Common.{append_assoc, ◌==◌, nat_lt, codes, list_all, common_steps}
use Rattle.lab_model.proofs.Common.{All-cons, All-head, All-tail, All-append, lines_of-ended}
use Rattle.lab_model.proofs.Common.{lines_of-nil, has_byte, is_blank_byte}
use Rattle.lab_text.specs.Numbers.{number_of, is_number}
use Rattle.std.specs.Int.{IsInRange}
use Rattle.std.specs.Char.{is_ascii_digit}
use Rattle.std.proofs.lemmas.Fmt.{decimal_is_IsNumeral, digits_decimal, length-decimal-le}
use Rattle.std.proofs.lemmas.List.Sums.{list_all-from_AllPass, AllPass-from_list_all}
use Rattle.std.proofs.lemmas.Str.Parse.{numerals_by_value, tells_by_index}
use Rattle.lab_history.specs.History.{event_of, line_event}
use Rattle.lab_history.specs.History.{event_text, history_text}
use Rattle.lab_text.specs.Rows.{all_rows, with_first}
use Rattle.lab_text.specs.Words.{words_of}
use Rattle.lab_model.specs.declared.event.Event.{Event}
use Rattle.lab_history.specs.declared.fault.HistoryFault.{HistoryFault}
use Rattle.lab_text.specs.Lines.{lines_of}
use Rattle.lab_model.specs.declared.event.Event.TheVariants.{Line, Map, Serve, Release, Finish}
use Rattle.lab_model.specs.declared.event.Event.TheVariants.{Control, Clock}
use Rattle.std.proofs.lemmas.Bool.{ltb-true}
use Rattle.std.proofs.lemmas.List.Splits.{slice_split_at, slice_split_none}
use Rattle.lab_history.specs.ReadsBack.{FitsEvent, max_bio, max_log}

-- a printed number has bytes from `0` to `9`
pub decimal-digits : (n : ℕ) → n ≤ max_bio → All (λ byte. IsInRange 48 57 byte) (decimal n)
decimal-digits n fits = All-from_get_or (λ byte. IsInRange 48 57 byte) (decimal n) 0
    (digits_decimal (numerals_by_value _ tells_by_index) n (omega arith))

-- a byte from `0` to `9` is a digit
is_ascii_digit-within : (byte : ℕ) → IsInRange 48 57 byte → is_ascii_digit byte ≡ true
is_ascii_digit-within byte within = search rules

-- a printed number is a number
is_number-decimal : (n : ℕ) → n ≤ max_bio → is_number (decimal n) ≡ true
is_number-decimal n fits =
    let some = lt-ltb 0 (length (decimal n)) (decimal_nonempty n (omega arith)) in
    let few = le-leb (length (decimal n)) 20
    (length-decimal-le 20 n (omega arith) (omega arith) (omega arith)) in
    let digits = list_all-from_AllPass is_ascii_digit (decimal n)
    (All-weaker _ (λ byte. is_ascii_digit byte ≡ true) is_ascii_digit-within (decimal n)
    (decimal-digits n fits)) in
    rw (some, few, digits) refl

-- a printed number is read as itself
pub number_to-decimal : (max n : ℕ) → n ≤ max → n ≤ max_bio
    → number_to max (decimal n) ≡ Some n
unfolding number_of
number_to-decimal max n within fits = search (rules, is_number-decimal, decimal_is_IsNumeral)

-- the events on the lines after `number`
abbrev pub events_from : ℕ → List (List ℕ) → Result (List Event) HistoryFault
events_from number lines = all_rows (map line_event (kept_from (number + 1) lines))

-- a line that is kept, and names an event, puts it first
pub events_from-kept : (number : ℕ) (line : List ℕ) (lines : List (List ℕ)) (event : Event)
    → is_skipped line ≡ false → event_of (words_of line) ≡ Some event
    → events_from number (line ∷ lines) ≡ with_first event (events_from (number + 1) lines)
events_from-kept number line lines event kept named = rw (kept, named) refl

-- each byte is above the space: it is no blank and no newline
abbrev IsPlain : List ℕ → Type 0
IsPlain word = All (λ byte. 32 < byte) word

-- whether the bytes are plain
abbrev is_plain : List ℕ → Bool
is_plain word = list_all (nat_lt 32) word

-- bytes that pass the test are plain
plain : (word : List ℕ) → is_plain word ≡ true → IsPlain word
plain word passes = search (rules, All-weaker, ltb-true, AllPass-from_list_all)

-- a printed number is plain
decimal-plain : (n : ℕ) → n ≤ max_bio → IsPlain (decimal n)
decimal-plain n fits = search (rules, All-weaker, decimal-digits)

-- a plain byte is no blank
plain-is_blank_byte : (byte : ℕ) → 32 < byte → is_blank_byte byte ≡ false
plain-is_blank_byte byte above = grind (arith, common_steps)

-- a plain byte is no newline
plain-newline : (byte : ℕ) → 32 < byte → (byte == 10) ≡ false
plain-newline byte above = grind (arith, common_steps)

-- plain bytes have no blank
no_blank : (word : List ℕ) → IsPlain word → All (λ byte. is_blank_byte byte ≡ false) word
no_blank word is = All-weaker _ (λ byte. is_blank_byte byte ≡ false) plain-is_blank_byte word is

-- plain bytes have no newline
no_newline : (word : List ℕ) → IsPlain word → All (λ byte. (byte == 10) ≡ false) word
no_newline word is = All-weaker _ (λ byte. (byte == 10) ≡ false) plain-newline word is

-- plain bytes are one word
words_of-plain : (word : List ℕ) → has_byte word ≡ true → is_plain word ≡ true
    → words_of word ≡ word ∷ []
unfolding words_of
words_of-plain word some is = search (rules, slice_split_none, no_blank, plain)

-- plain bytes, a space and a number are two words
words_of-numbered : (word : List ℕ) (n : ℕ) → has_byte word ≡ true → is_plain word ≡ true
    → n ≤ max_bio → words_of (word ++ 32 ∷ decimal n) ≡ word ∷ decimal n ∷ []
unfolding words_of
words_of-numbered word n some is fits =
    let digits = lt-ltb 0 (length (decimal n)) (decimal_nonempty n (omega arith)) in
    rw (
      slice_split_at is_blank_byte word 32 (decimal n) (no_blank word (plain word is)) refl,
      slice_split_none is_blank_byte (decimal n) (no_blank (decimal n) (decimal-plain n fits)),
      some,
      digits,
    ) refl

-- plain bytes, a space and a number have no newline
numbered-no_newline : (word : List ℕ) (n : ℕ) → is_plain word ≡ true → n ≤ max_bio
    → All (λ byte. (byte == 10) ≡ false) (word ++ 32 ∷ decimal n)
numbered-no_newline word n is fits =
    search (rules, All-append, no_newline, plain, All-cons, decimal-plain)

-- the text of an event has no newline
event_text-no_newline : (event : Event) → FitsEvent event
    → All (λ byte. (byte == 10) ≡ false) (event_text event)
event_text-no_newline (Line log) fits = numbered-no_newline (codes "line") log refl (omega arith)
event_text-no_newline (Map bio) fits = numbered-no_newline (codes "map") bio refl fits
event_text-no_newline (Serve bio) fits = numbered-no_newline (codes "serve") bio refl fits
event_text-no_newline (Release bio) fits = numbered-no_newline (codes "release") bio refl fits
event_text-no_newline (Finish bio) fits = numbered-no_newline (codes "finish") bio refl fits
event_text-no_newline Control fits = no_newline (codes "control") (plain (codes "control") refl)
event_text-no_newline Clock fits = no_newline (codes "clock") (plain (codes "clock") refl)

-- the text of an event is neither blank nor a comment
event_text-kept : (event : Event) → is_skipped (event_text event) ≡ false
event_text-kept event = search rules

-- the text of an event names this event
event_of-event_text : (event : Event) → FitsEvent event
    → event_of (words_of (event_text event)) ≡ Some event
event_of-event_text (Line log) fits =
    rw (
      words_of-numbered (codes "line") log refl refl (omega arith),
      number_to-decimal max_bio log (omega arith) (omega arith),
      le-leb log max_log fits,
    ) refl
event_of-event_text (Map bio) fits =
    rw (
      words_of-numbered (codes "map") bio refl refl fits,
      number_to-decimal max_bio bio fits fits,
    ) refl
event_of-event_text (Serve bio) fits =
    rw (
      words_of-numbered (codes "serve") bio refl refl fits,
      number_to-decimal max_bio bio fits fits,
    ) refl
event_of-event_text (Release bio) fits =
    rw (
      words_of-numbered (codes "release") bio refl refl fits,
      number_to-decimal max_bio bio fits fits,
    ) refl
event_of-event_text (Finish bio) fits =
    rw (
      words_of-numbered (codes "finish") bio refl refl fits,
      number_to-decimal max_bio bio fits fits,
    ) refl
event_of-event_text Control fits = rw (words_of-plain (codes "control") refl refl) refl
event_of-event_text Clock fits = rw (words_of-plain (codes "clock") refl refl) refl

-- the lines of some events' text are the first event's and those of the others
pub lines_of-history_text : (event : Event) (events : List Event) → FitsEvent event
    → lines_of (history_text (event ∷ events))
    ≡ event_text event ∷ lines_of (history_text events)
lines_of-history_text _ _ fits = search (rules, append_assoc, lines_of-ended, event_text-no_newline)

-- the lines of some events' text tell these events
pub events_from-history_text : (number : ℕ) (events : List Event) → All FitsEvent events
    → events_from number (lines_of (history_text events)) ≡ Ok events
events_from-history_text number [] fit = rw lines_of-nil refl
events_from-history_text number (event ∷ events) fit =
    let fits = All-head FitsEvent event events fit in
    let others =
    events_from-history_text (number + 1) events (All-tail FitsEvent event events fit) in
    ap (events_from number) (lines_of-history_text event events fits)
    ∙ events_from-kept number (event_text event) (lines_of (history_text events)) event
    (event_text-kept event) (event_of-event_text event fits) ∙ ap (with_first event) others
