-- Lines that were read of a text are a table. What lines that are bound say of their text's table.
-- Names: table, and what is known of them.
use Rattle.lab_model.proofs.Common.{rules, ◌≡◌, ◌∙◌, ◌+◌, ◌≤◌, ℕ, List, [], ◌∷◌, All, ap, arith}
use Rattle.lab_model.proofs.Common.{length, Ok, Option, All-cons, All-nil, DevNo, HasNoGap, Lawful}
use Rattle.lab_model.proofs.Common.{Meaning, Table, ◌≢◌, ◌<◌, Some, None, Result, Err, refl}
use Rattle.lab_model.proofs.Common.{append-nil}
use Rattle.lab_text.specs.Rows.{with_front}
use Rattle.lab_table.specs.IsTable.{IsLine, IsTable, most_lines}
use Rattle.lab_table.specs.TableText.{table_of, some_line}
use Rattle.lab_table.proofs.AsRead.{AreRead, and_then, table_of-read}
use Rattle.lab_model.specs.declared.table_line.TableLine.{TableLine}
use Rattle.lab_target.specs.declared.fault.TargetFault.TheVariants.{NoMemory}
use Rattle.lab_table.specs.declared.fault.TableFault.{TableFault}
use Rattle.lab_table.specs.declared.fault.Why.{Why}
use Rattle.lab_table.specs.declared.unbound.UnboundLine.{UnboundLine}
use Rattle.lab_table.specs.Unbound.{AreFirst, AreOfText, lines_under}
use Rattle.lab_table.specs.declared.fault.Why.TheVariants as why

-- nothing is asked of the devices that a line names
abbrev pub Anything : List DevNo → Type 0
Anything devices = Unit {0}

module _ {S : Type 0} (m : Meaning S) (lawful : Lawful m) (found : List ℕ → Option DevNo) where
  -- they have no gap
  pub no_gap : (count end : ℕ) (lines : Table S) → AreRead m found Anything count end lines
      → HasNoGap end lines
  no_gap count end [] read = tt
  no_gap n end (line ∷ lines) read = search (rules, no_gap (n + 1) (line.start + line.len) lines)

  -- there are no more than a table has
  few : (count end : ℕ) (lines : Table S) → count ≤ most_lines
      → AreRead m found Anything count end lines → count + length lines ≤ most_lines
  few count end [] room read = omega arith
  few count end (line ∷ lines) room read =
      omega (arith, few (count + 1) (line.start + line.len) lines (omega (arith, read.0)) read.2)

  -- each is as words may give it
  each : (count end : ℕ) (lines : Table S) → AreRead m found Anything count end lines
      → All (IsLine m) lines
  each count end [] read = All-nil (IsLine m)
  each count end (line ∷ lines) read =
      let made = read.1.made in
      let sound = lawful.made_sound made.words line.len made.draft made.said made.devices in
      All-cons (IsLine m) line lines
      (record { near = read.1.near; short = read.1.short; sound = ap m.is_sound made.made ∙ sound })
      (each (count + 1) (line.start + line.len) lines read.2)

  -- so they are a table
  pub table_of-IsTable : (text : List ℕ) (lines : Table S) → table_of m found text ≡ Ok lines
      → IsTable m lines
  table_of-IsTable text lines is =
      let read = table_of-read m found Anything text lines is (λ place row within. tt) in
      record {
        some = read.1;
        are_lines = record {
          no_gap = no_gap 0 0 lines read.0;
          few = omega (arith, few 0 0 lines (omega arith) read.0);
          each = each 0 0 lines read.0;
        };
      }

-- a table with a line has one
some-table : {S : Type 0} (table : Table S) → 0 < length table → some_line (Ok table) ≡ Ok table
some-table [] some = absurd (omega arith)
some-table (line ∷ table) some = refl

-- behind a line that is read there is a table with a line, if there is one
first-some : {S : Type 0} (number : ℕ) (line : Result (TableLine S) Why)
    (others : Result (Table S) TableFault) (table : Table S)
    → and_then number line (λ l. others) ≡ Ok table → some_line (Ok table) ≡ Ok table
first-some number line others table is = search rules

module _ {S : Type 0} (bound : S → List DevNo → S) (found : List ℕ → Option DevNo) where
  -- what some lines are is a table with a line
  front-some : (lines : List (UnboundLine S)) (table : Table S) → 0 < length lines
      → lines_under bound found lines (Ok []) ≡ Ok table → some_line (Ok table) ≡ Ok table
  front-some [] table some is = absurd (omega arith)
  front-some (line ∷ lines) table some is = search (rules, first-some)

  module _ (m : Meaning S) (text : List ℕ) (lines : List (UnboundLine S)) where
    -- a fault of lines that are bound is the text's
    pub table-refused : (told : Option TableFault) (fault : TableFault)
        → AreFirst m bound text lines told found → ((others : Result (Table S) TableFault)
        → lines_under bound found lines others ≡ Err fault) → table_of m found text ≡ Err fault
    table-refused told fault first are = first.is ∙ ap some_line (are first.others)

    module _ (front : Table S) (are : (others : Result (Table S) TableFault)
        → lines_under bound found lines others ≡ with_front front others) where
      -- a fault behind lines that are bound is the text's
      pub table-fault : (told : Option TableFault) (fault : TableFault)
          → AreFirst m bound text lines told found → told ≡ Some fault
          → fault.why ≢ why.Target NoMemory → table_of m found text ≡ Err fault
      table-fault told fault first is other = search rules

      -- what lines that are bound are, up to no fault
      table-whole : (told : Option TableFault) → AreFirst m bound text lines told found
          → told ≡ None → table_of m found text ≡ some_line (Ok front)
      table-whole None first none = search (rules, append-nil)
      table-whole (Some told) first none = absurd (cc)

      -- a text of no line has that fault
      pub table-empty : (told : Option TableFault) → AreFirst m bound text lines told found
          → told ≡ None → front ≡ []
          → table_of m found text ≡ Err (record { line = 0; why = why.Empty })
      table-empty told first none nothing = table-whole told first none ∙ rw nothing refl

      -- some lines that are bound are the text's table
      pub table-first : (told : Option TableFault) → AreFirst m bound text lines told found
          → told ≡ None → 0 < length front → table_of m found text ≡ Ok front
      table-first told first none some = table-whole told first none ∙ some-table front some

      -- and so are all lines of a text that has some
      pub table-bound : AreOfText m bound text lines → 0 < length lines
          → table_of m found text ≡ Ok front
      table-bound all some = search (rules, append-nil, front-some)
