-- What is known of the lines of a table that was read. Names: the form of the lines, and the fact.
use Rattle.std.specs.Option.{ok_or}
use Rattle.lab_target.specs.declared.fault.TargetFault.TheVariants.{Device}
use Rattle.lab_model.proofs.Common.{rules, ◌≡◌, ℕ, ◌+◌, ◌<◌, ◌≤◌, Bool, true, false, cond, List, []}
use Rattle.lab_model.proofs.Common.{◌∷◌, Option, Some, None, Result, Ok, Err, refl, ◌∙◌, arith}
use Rattle.lab_model.proofs.Common.{length, ◌==◌, All, not, nat_lt, eqb-true, All-head, All-tail}
use Rattle.lab_model.proofs.Common.{DevNo, TargetFault, greatest_sector, Meaning, devices_of}
use Rattle.lab_model.proofs.Common.{resolved, Table, unwrap_or, kept_from, IfSome, number_of-within}
use Rattle.lab_model.proofs.Common.{number_to}
use Rattle.lab_text.specs.Lines.{lines_of}
use Rattle.lab_text.specs.Rows.{with_first}
use Rattle.lab_text.specs.Words.{words_of}
use Rattle.lab_model.specs.declared.table_line.TableLine.{TableLine}
use Rattle.std.proofs.lemmas.Bool.{ltb-true, eqb-false}
use Rattle.lab_target.specs.Meaning.{Draft}
use Rattle.std.specs.Option.{option_zip}
use Rattle.std.specs.Result.{result_map_both}
use Rattle.lab_table.specs.declared.fault.TableFault.{TableFault}
use Rattle.lab_table.specs.declared.fault.Why.{Why}
use Rattle.lab_table.specs.IsTable.{most_lines}
use Rattle.lab_table.specs.Printed.{devices_named, line_devices}
use Rattle.lab_table.specs.TableText.{lines_after, next_line, sectors_line}
use Rattle.lab_table.specs.TableText.{some_line, table_of, words_line}
use Rattle.lab_table.specs.declared.fault.Why.TheVariants as why

-- a line of a start, a length and a target, or the target's fault
abbrev pub with_target_read : {S : Type 0} → ℕ → ℕ → Result S TargetFault
    → Result (TableLine S) Why
with_target_read start len read =
    result_map_both (λ target. record { start = start; len = len; target = target }) why.Target read

-- a line of this number and those after it, or its fault
abbrev pub and_then : {S : Type 0} → ℕ → Result (TableLine S) Why
    → (TableLine S → Result (Table S) TableFault) → Result (Table S) TableFault
and_then number line others =
    elim line [
      | Ok l ↦ with_first l (others l)
      | Err fault ↦ Err (record { line = number; why = fault })
    ]

module _ {S : Type 0} (m : Meaning S) (found : List ℕ → Option DevNo) (count end number : ℕ)
    (line : List ℕ) (more : List (ℕ × List ℕ)) where
  -- a line, and those after it
  pub lines_after-cons : lines_after m found count end ((number, line) ∷ more)
      ≡ and_then number (next_line m found count end line)
      (λ l. lines_after m found (count + 1) (l.start + l.len) more)
  lines_after-cons = refl

  -- a line's fault is that of the lines from it on
  pub lines_after-fault : (fault : Why) → next_line m found count end line ≡ Err fault
      → lines_after m found count end ((number, line) ∷ more)
      ≡ Err (record { line = number; why = fault })
  lines_after-fault fault is = rw (lines_after-cons, is) refl

-- a target that was read under some names: its words say a draft, and the devices are found, of
-- which P holds
pub record IsMade {S : Type 0} (m : Meaning S) (found : List ℕ → Option DevNo)
    (P : List DevNo → Type 0) (len : ℕ) (target : S)
    : Type 0 where
  pub words : List (List ℕ)
  pub draft : Draft S
  pub devices : List DevNo
  pub said : m.parsed words len ≡ Ok draft
  pub known : devices_of found draft.devices ≡ Some devices
  pub made : target ≡ draft.made devices
  pub keep : P devices

-- a line that was read where the ones before it end
pub record IsRead {S : Type 0} (m : Meaning S) (found : List ℕ → Option DevNo)
    (P : List DevNo → Type 0) (end : ℕ) (line : TableLine S) : Type 0 where
  pub there : line.start ≡ end
  pub near : line.start ≤ greatest_sector
  pub short : line.len ≤ greatest_sector
  pub some : 0 < line.len
  pub made : IsMade m found P line.len line.target

module _ {S : Type 0} (m : Meaning S) (found : List ℕ → Option DevNo)
    (P : List DevNo → Type 0) where
  -- a draft whose devices are known is made with them
  made-known : (words : List (List ℕ)) (len : ℕ) (draft : Draft S) (known : Option (List DevNo))
      (target : S) → m.parsed words len ≡ Ok draft → devices_of found draft.devices ≡ known
      → result_map_both draft.made (λ fault. fault) (ok_or known Device) ≡ Ok target
      → P (unwrap_or known []) → IsMade m found P len target
  made-known words len draft None target said is made keep = absurd (cc)
  made-known words len draft (Some devices) target said is made keep = record {
    words = words;
    draft = draft;
    devices = devices;
    said = said;
    known = is;
    made = cc;
    keep = keep;
  }

  -- a target that words give was made
  resolved-made : (words : List (List ℕ)) (len : ℕ) (result : Result (Draft S) TargetFault)
      (target : S) → m.parsed words len ≡ result → resolved found result ≡ Ok target
      → P (devices_named found result) → IsMade m found P len target
  resolved-made words len result target said made keep = search (rules, made-known)

  -- a line that words give has the sectors that they say
  target_read-line : (start len : ℕ) (result : Result S TargetFault) (line : TableLine S)
      → with_target_read start len result ≡ Ok line
      → (line.start ≡ start) × (line.len ≡ len) × (result ≡ Ok line.target)
  target_read-line start len result line read = search rules

  -- a line of two numbers in their range was read, if it is one
  sectors-read : (zero_len there : Bool) (end start len : ℕ) (words : List (List ℕ))
      (line : TableLine S)
      → (len == 0) ≡ zero_len → (start == end) ≡ there
      → start ≤ greatest_sector → len ≤ greatest_sector
      → cond zero_len (Err why.ZeroLength) (cond (not there) (Err why.Gap)
      (with_target_read start len (resolved found (m.parsed words len)))) ≡ Ok line
      → P (devices_named found (m.parsed words len)) → IsRead m found P end line
  sectors-read false true end start len words line none is near short read keep =
      let parts = target_read-line start len (resolved found (m.parsed words len)) line read in
      let made = resolved-made words len (m.parsed words len) line.target refl parts.2 keep in
      let same = eqb-true start end is in
      let some : 0 < len = omega (arith, eqb-false len 0 none) in
      record {
        there = parts.0 ∙ same;
        near = omega (arith, parts.0);
        short = omega (arith, parts.1);
        some = omega (arith, parts.1);
        made = rw parts.1 made;
      }
  sectors-read _ _ end start len words line none is near short read keep = absurd (cc)

  -- a line of a start and a length, where they are numbers
  abbrev range_line : ℕ → List (List ℕ) → Option ℕ → Option ℕ → Result (TableLine S) Why
  range_line end words first second =
      elim (option_zip first second) [
        | Some (start, len) ↦ sectors_line m found end words start len
        | None ↦ Err why.Number
      ]

  -- the devices that it names
  abbrev range_devices : List (List ℕ) → Option ℕ → Option ℕ → List DevNo
  range_devices words first second =
      elim (option_zip first second)
      [ Some (start, len) ↦ devices_named found (m.parsed words len) | None ↦ [] ]

  -- a line whose numbers are read was read, if it is one
  range-read : (first second : Option ℕ) (end : ℕ) (words : List (List ℕ)) (line : TableLine S)
      → IfSome first (λ start. start ≤ greatest_sector)
      → IfSome second (λ len. len ≤ greatest_sector)
      → range_line end words first second ≡ Ok line
      → P (range_devices words first second) → IsRead m found P end line
  range-read (Some start) (Some len) end words line near short read keep =
      sectors-read (len == 0) (start == end) end start len words line refl refl near short read keep
  range-read _ _ end words line near short read keep = absurd (cc)

  -- a line that words give was read
  words-read : (end : ℕ) (words : List (List ℕ)) (line : TableLine S)
      → words_line m found end words ≡ Ok line → P (line_devices m found words)
      → IsRead m found P end line
  words-read end (start ∷ len ∷ kind ∷ words) line read keep =
      range-read (number_to greatest_sector start) (number_to greatest_sector len) end
      (kind ∷ words) line (number_of-within start greatest_sector)
      (number_of-within len greatest_sector) read keep
  words-read end _ line read keep = absurd (cc)

  -- a line that was read has room among the table's
  room-read : (room : Bool) (end : ℕ) (words : List (List ℕ)) (line : TableLine S)
      → cond room (words_line m found end words) (Err why.TooManyLines) ≡ Ok line
      → P (line_devices m found words) → (room ≡ true) × IsRead m found P end line
  room-read true end words line read keep = (refl, words-read end words line read keep)
  room-read false end words line read keep = absurd (cc)

  -- the lines of a table that come after so many, which end at a sector, were read
  abbrev pub AreRead : ℕ → ℕ → Table S → Type 0
  AreRead count end [] = Unit {0}
  AreRead count end (line ∷ more) =
      (count < most_lines) × IsRead m found P end line
      × AreRead (count + 1) (line.start + line.len) more

  -- where others follow a line
  first-read : (line : TableLine S) (others : Result (Table S) TableFault) (lines : Table S)
      → with_first line others ≡ Ok lines
      → (more : Table S) × (others ≡ Ok more) × (lines ≡ line ∷ more)
  first-read line others lines read = search rules

  -- a line that was read, and those after it
  then-read : (number : ℕ) (next : Result (TableLine S) Why)
      (others : TableLine S → Result (Table S) TableFault) (lines : Table S)
      → and_then number next others ≡ Ok lines
      → (line : TableLine S) × (more : Table S) × (next ≡ Ok line) × (others line ≡ Ok more)
      × (lines ≡ line ∷ more)
  then-read number (Ok line) others lines read =
      let parts = first-read line (others line) lines read in
      (line, parts.0, refl, parts.1, parts.2)
  then-read number (Err fault) others lines read = absurd (cc)

  -- what is asked of the devices that a line of the text names
  abbrev pub Keeps : ℕ × List ℕ → Type 0
  Keeps row = P (line_devices m found (words_of row.1))

  -- lines that were read are known to be
  pub lines_after-read : (count end : ℕ) (rows : List (ℕ × List ℕ)) (lines : Table S)
      → lines_after m found count end rows ≡ Ok lines → All Keeps rows
      → AreRead count end lines
  lines_after-read count end [] lines read keep =
      let none : lines ≡ [] = cc in rw none tt
  lines_after-read count end ((number, row) ∷ rows) lines read keep =
      let parts = then-read number (next_line m found count end row)
      (λ l. lines_after m found (count + 1) (l.start + l.len) rows) lines read in
      let line = parts.0 in
      let room = room-read (nat_lt count most_lines) end (words_of row) line parts.2
      (All-head Keeps (number, row) rows keep) in
      rw parts.4 (
        ltb-true count most_lines room.0,
        room.1,
        lines_after-read (count + 1) (line.start + line.len) rows parts.1 parts.3
            (All-tail Keeps (number, row) rows keep),
      )

  -- a table has a line
  pub some-read : (result : Result (Table S) TableFault) (lines : Table S)
      → some_line result ≡ Ok lines → (result ≡ Ok lines) × (0 < length lines)
  some-read result lines read = search rules

  -- the lines of a table that was read are known to be
  pub table_of-read : (text : List ℕ) (lines : Table S) → table_of m found text ≡ Ok lines
      → All Keeps (kept_from 1 (lines_of text)) → AreRead 0 0 lines × (0 < length lines)
  table_of-read text lines read keep = search (rules, some-read, lines_after-read)
