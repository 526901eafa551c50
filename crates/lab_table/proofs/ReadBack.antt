-- A table that was read is in its opening state, and reads back from its printed text.
-- Names: the form of the lines, and the fact.
use Rattle.std.specs.Option.{option_zip}
use Rattle.lab_model.proofs.Common.{rules, ◌≡◌, ℕ, suc, ◌+◌, ◌<◌, ◌≤◌, true, false, List, [], option_map}
use Rattle.lab_model.proofs.Common.{◌∷◌, ◌++◌, append_assoc, Option, Some, None, Ok, refl, ap, ap₂}
use Rattle.lab_model.proofs.Common.{sym, ◌∙◌, arith, length, ◌==◌, ◌||◌, not, All, decimal}
use Rattle.lab_model.proofs.Common.{is_blank, is_comment, kept_from, has_byte, is_blank_byte}
use Rattle.lab_model.proofs.Common.{lines_of-ended, lines_of-nil, second_of_both, list_all, lt-ltb}
use Rattle.lab_model.proofs.Common.{nat_tests, All-nil, All-cons, DevNo, Lawful, greatest_sector}
use Rattle.lab_model.proofs.Common.{Meaning, devices_of, resolved, line_text, table_texts}
use Rattle.lab_model.proofs.Common.{text_line, Table, image, with_target, opened}
use Rattle.lab_text.specs.Lines.{lines_of}
use Rattle.lab_text.specs.Words.{words_of}
use Rattle.lab_model.specs.declared.table_line.TableLine.{TableLine}
use Rattle.lab_text.proofs.LinesLemmas.{is_newline}
use Rattle.lab_target.specs.Laws.{is_plain}
use Rattle.lab_target.specs.Reading.{FindsPrinted}
use Rattle.lab_target.proofs.PrintedWords.{append-plain, decimal-IsWord, decimal-passes}
use Rattle.lab_target.proofs.PrintedWords.{decimal-plain, first_of_both, number_of-decimal}
use Rattle.lab_target.proofs.PrintedWords.{words_of-first}
use Rattle.std.proofs.lemmas.Bool.{eq-eqb}
use Rattle.lab_table.specs.IsTable.{most_lines}
use Rattle.lab_table.specs.Printed.{ReadsBack, table_text}
use Rattle.lab_table.specs.TableText.{lines_after, next_line, words_line}
use Rattle.lab_table.proofs.AsRead.{AreRead, IsMade, IsRead, lines_after-cons, table_of-read}

-- a line is its three parts
line-is : {S : Type 0} (start len : ℕ) (target : S) (line : TableLine S) → start ≡ line.start
    → len ≡ line.len → target ≡ line.target
    → record { start = start; len = len; target = target } ≡ line
line-is start len target line one two three = rw (one, two, three) refl

-- a byte that isn't a newline
abbrev NoNewline : ℕ → Type 0
NoNewline byte = is_newline byte ≡ false

-- no newline is among plain bytes
plain-newlines : (text : List ℕ) → list_all is_plain text ≡ true → All NoNewline text
plain-newlines [] plain = All-nil NoNewline
plain-newlines (byte ∷ text) plain = All-cons NoNewline byte text
    (grind (arith, nat_tests, first_of_both)) (plain-newlines text (second_of_both _ _ plain))

-- a plain line and its newline are the first line of a text
lines_of-plain : (text rest : List ℕ) → list_all is_plain text ≡ true
    → lines_of (text_line text ++ rest) ≡ text ∷ lines_of rest
lines_of-plain text rest plain = search (rules, append_assoc, lines_of-ended, plain-newlines)

-- a digit begins no comment and no blank line
digit-begins : (d : ℕ) → d < 10 → not ((48 + d) == 35 || is_blank_byte (48 + d)) ≡ true
digit-begins d small = grind (arith, nat_tests)

-- a line that begins with a number is kept
kept-begins : (word rest : List ℕ) → has_byte word ≡ true
    → list_all (λ byte. not (byte == 35 || is_blank_byte byte)) word ≡ true
    → (is_comment (word ++ rest) || is_blank (word ++ rest)) ≡ false
kept-begins [] rest some passes = absurd (cc)
kept-begins (byte ∷ word) rest some passes = search (rules, first_of_both)

-- a line that is kept stands before the kept ones after it
kept_from-kept : (n : ℕ) (line : List ℕ) (lines : List (List ℕ))
    → (is_comment line || is_blank line) ≡ false
    → kept_from n (line ∷ lines) ≡ (n, line) ∷ kept_from (n + 1) lines
kept_from-kept n line lines kept = rw kept refl

-- known devices are as many as the words that name them
devices_of-many : (found : List ℕ → Option DevNo) (words : List (List ℕ)) (devices : List DevNo)
    → devices_of found words ≡ Some devices → length devices ≡ length words
devices_of-many found [] devices known =
    let none : [] ≡ devices = cc in sym (ap length none)
devices_of-many found (word ∷ words) devices known =
    chosen (found word) (devices_of found words) (devices_of-many found words) known
  where
    chosen : (first : Option DevNo) (more : Option (List DevNo))
        → ((others : List DevNo) → more ≡ Some others → length others ≡ length words)
        → option_map (λ (both : DevNo × List DevNo). both.0 ∷ both.1) (option_zip first more)
        ≡ Some devices → length devices ≡ suc (length words)
    chosen None more later all = absurd (cc)
    chosen (Some device) None later all = absurd (cc)
    chosen (Some device) (Some others) later all =
        let same : device ∷ others ≡ devices = cc in
        sym (ap length same) ∙ ap suc (later others refl)

-- nothing is asked of a table's devices
abbrev any_devices : List DevNo → Type 0
any_devices devices = Unit {0}

module _ {S : Type 0} (m : Meaning S) (lawful : Lawful m) (found : List ℕ → Option DevNo)
    (P : List DevNo → Type 0) where
  -- a target that was read is in its opening state
  made-opening : (len : ℕ) (target : S) → IsMade m found P len target
      → (m.shape target).opening ≡ target
  made-opening len target made = search rules

  -- lines of the image of lines that were read are these in their opening state
  opened-read : (count end : ℕ) (lines since : Table S) → AreRead m found P count end lines
      → image m since ≡ image m lines → opened m since ≡ lines
  opened-read count end [] [] are same = refl
  opened-read count end (line ∷ lines) (other ∷ since) are same =
      let first : with_target m.shape other ≡ with_target m.shape line = cc in
      let more : image m since ≡ image m lines = cc in
      let shape : m.shape other.target ≡ m.shape line.target = ap (λ l. l.target) first in
      let opening = made-opening line.len line.target are.1.made in
      cc (
        line-is other.start other.len (m.shape other.target).opening line
            (ap (λ l. l.start) first) (ap (λ l. l.len) first) (rw shape opening),
        opened-read (count + 1) (line.start + line.len) lines since are.2 more,
      )
  opened-read count end _ _ are same = absurd (cc)

  -- lines of one image are printed alike
  texts-same : (lines since : Table S) → image m since ≡ image m lines
      → table_texts m since ≡ table_texts m lines
  texts-same [] [] same = refl
  texts-same (line ∷ lines) (other ∷ since) same =
      let first : with_target m.shape other ≡ with_target m.shape line = cc in
      let more : image m since ≡ image m lines = cc in
      ap₂ (λ l ls. line_text l l.target.printed ∷ ls) first (texts-same lines since more)
  texts-same _ _ same = absurd (cc)

module _ {S : Type 0} (m : Meaning S) (lawful : Lawful m)
    (found others : List ℕ → Option DevNo) where
  -- words that make a target are a line's from the third word on
  words_line-made : (end start len : ℕ) (target : S) (words : List (List ℕ)) → start ≡ end
      → start ≤ greatest_sector → len ≤ greatest_sector → 0 < len
      → resolved others (m.parsed words len) ≡ Ok target
      → words_line m others end (decimal start ∷ decimal len ∷ words)
      ≡ Ok (record { start = start; len = len; target = target })
  words_line-made end start len target words there near short some made =
      search (rules, number_of-decimal, eq-eqb)

  -- a printed line
  abbrev text_of : TableLine S → List ℕ
  text_of line = line_text line (m.shape line.target).printed

  -- a printed line is plain
  text-plain : (line : TableLine S) → list_all is_plain (text_of line) ≡ true
  text-plain line = search (rules, append-plain, decimal-plain)

  -- the words of a printed line
  text-words : (line : TableLine S)
      → words_of (text_of line)
      ≡ decimal line.start ∷ decimal line.len ∷ words_of (m.shape line.target).printed
  text-words line = search (rules, words_of-first, decimal-IsWord, append_assoc)

  -- a line that was read is read again from its printed text
  next_line-printed : (count end : ℕ) (line : TableLine S) → count < most_lines
      → IsRead m found (FindsPrinted others) end line
      → next_line m others count end (text_of line) ≡ Ok line
  next_line-printed count end line room is = rw (lt-ltb count most_lines room, text-words line)
      (words_line-made end line.start line.len line.target
      (words_of (m.shape line.target).printed) is.there is.near is.short is.some
      (search (rules, devices_of-many, is.made)))

  -- lines that were read are read again from their printed text
  lines_after-printed : (n count end : ℕ) (lines : Table S)
      → AreRead m found (FindsPrinted others) count end lines
      → lines_after m others count end (kept_from n (lines_of (table_text m lines))) ≡ Ok lines
  lines_after-printed n count end [] are = rw lines_of-nil
  lines_after-printed n count end (line ∷ lines) are =
      let rest = lines_of (table_text m lines) in
      let next = next_line-printed count end line are.0 are.1 in
      let later = lines_after-printed (n + 1) (count + 1) (line.start + line.len) lines are.2 in
      rw (lines_of-plain (text_of line) (table_text m lines) (text-plain line))
      (rw (
        kept_from-kept n (text_of line) rest
            (search (rules, append_assoc, kept-begins, decimal-IsWord, decimal-passes, digit-begins)),
        lines_after-cons m others count end n (text_of line) (kept_from (n + 1) rest),
        next,
        later,
      ))

-- a table that was read is in its opening state and reads back
pub reads-back : {S : Type 0} (m : Meaning S) → Lawful m → ReadsBack m
reads-back m lawful = record {
  opened = λ found text lines since read same.
      let was = table_of-read m found any_devices text lines read (λ k d within. tt) in
      opened-read m lawful found any_devices 0 0 lines since was.0 same;
  printed = λ found others text lines since read same finds.
      let was = table_of-read m found (FindsPrinted others) text lines read finds in
      let again = lines_after-printed m lawful found others 1 0 0 lines was.0 in
      rw (texts-same m lawful found any_devices lines since same, again)
      (search (rules, was.1));
}
