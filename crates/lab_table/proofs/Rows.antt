-- The lines of a table's text, one after another, before their device words are bound. Names:
-- rest_of or lines_under, and the form of the next line; first, and what ends the lines.
use Rattle.lab_model.proofs.Common.{rules, ◌≡◌, ◌∙◌, ℕ, ◌+◌, ◌<◌, ◌||◌, false, List, [], ◌∷◌, ◌++◌}
use Rattle.lab_model.proofs.Common.{map, length, length-append, Option, Some, None, Result, Ok, Err}
use Rattle.lab_model.proofs.Common.{IsOk, ap, refl, sym, arith, is_blank, is_comment, kept_from}
use Rattle.lab_model.proofs.Common.{Ram, DevNo, Meaning, Table, TargetFault, devices_of}
use Rattle.lab_model.specs.declared.table_line.TableLine.{TableLine}
use Rattle.lab_table.specs.declared.fault.TableFault.{TableFault}
use Rattle.lab_table.specs.declared.unbound.UnboundLine.{UnboundLine}
use Rattle.lab_table.specs.TableText.{IsRead, each_known, lines_after, next_line}
use Rattle.lab_table.specs.TableText.{some_line, table_of}
use Rattle.lab_table.proofs.AsRead.{and_then, with_target_read}
use Rattle.lab_table.specs.Unbound.{AreLinesOf, AreOfText, line_under, lines_under}
use Rattle.lab_table.specs.declared.fault.Why.TheVariants as why

-- some devices are found where each word is known
devices-known : (words : List (List ℕ))
    → (devices : List DevNo) × (devices_of each_known words ≡ Some devices)
devices-known [] = ([], refl)
devices-known (word ∷ words) = (Ram 0 ∷ (devices-known words).0, rw (devices-known words).1 refl)

-- the next line begins where this one ends, under any names
same-end : {S : Type 0} (number start len : ℕ) (result : Result S TargetFault)
    (more : ℕ → Result (Table S) TableFault)
    → and_then number (with_target_read start len result) (λ l. more (l.start + l.len))
    ≡ and_then number (with_target_read start len result) (λ l. more (start + len))
same-end number start len (Ok target) more = refl
same-end number start len (Err fault) more = refl

-- a table with a line can be read
table-some : {S : Type 0} (table : Table S) → 0 < length table → IsOk (some_line (Ok table))
table-some [] some = absurd (omega arith)
table-some (line ∷ table) some = refl

module _ {S : Type 0} (bound : S → List DevNo → S) where
  -- a line more stands before what comes after it
  lines_under-push : (found : List ℕ → Option DevNo) (lines : List (UnboundLine S))
      (line : UnboundLine S) (others : Result (Table S) TableFault)
      → lines_under bound found (lines ++ line ∷ []) others
      ≡ lines_under bound found lines
      (and_then line.number (line_under bound found line) (λ l. others))
  lines_under-push found [] line others = refl
  lines_under-push found (first ∷ lines) line others =
      ap (λ more. and_then first.number (line_under bound found first) (λ l. more))
      (lines_under-push found lines line others)

  -- a line, and those after it
  lines_under-cons : (found : List ℕ → Option DevNo) (line : UnboundLine S)
      (lines : List (UnboundLine S)) (others : Result (Table S) TableFault)
      → lines_under bound found (line ∷ lines) others
      ≡ and_then line.number (line_under bound found line)
      (λ l. lines_under bound found lines others)
  lines_under-cons found line lines others = refl

  -- a line is one where each word is known
  line-known : (line : UnboundLine S)
      → (l : TableLine S) × (line_under bound each_known line ≡ Ok l)
  line-known line =
      let devices = devices-known (map (λ word. word.now) line.target.devices.items) in (
        record { start = line.start; len = line.len; target = bound line.target.target devices.0 },
        rw devices.1 refl,
      )

  -- a fault behind lines is told where each word is known
  lines_under-fault : (lines : List (UnboundLine S)) (fault : TableFault)
      → lines_under bound each_known lines (Err fault) ≡ Err fault
  lines_under-fault [] fault = refl
  lines_under-fault (line ∷ lines) fault = rw (
    lines_under-cons each_known line lines (Err fault),
    (line-known line).1,
    lines_under-fault lines fault,
  ) refl

  -- lines are a table where each word is known
  lines_under-known : (lines : List (UnboundLine S))
      → (table : Table S) × (lines_under bound each_known lines (Ok []) ≡ Ok table)
      × (length table ≡ length lines)
  lines_under-known [] = ([], refl, refl)
  lines_under-known (line ∷ lines) =
      let others = lines_under-known lines in
      let first = line-known line in
      let cons = lines_under-cons each_known line lines (Ok []) in
      (first.0 ∷ others.0, rw (cons, first.1, others.1) refl, search (rules, others.2))

  module _ (m : Meaning S) (found : List ℕ → Option DevNo) where
    -- the lines that come after these
    abbrev pub after : List (UnboundLine S) → ℕ → ℕ → List (List ℕ) → Result (Table S) TableFault
    after lines end number rest =
        lines_after m found (length lines) end (kept_from (number + 1) rest)

    -- what a text is where so many lines are gone over, and these are read of them
    abbrev pub rest_of : List (UnboundLine S) → ℕ → ℕ → List (List ℕ) → Result (Table S) TableFault
    rest_of lines end number rest =
        some_line (lines_under bound found lines (after lines end number rest))

    -- a line that is read goes over to those that are
    pub rest_of-read : (lines : List (UnboundLine S)) (end number : ℕ) (line : List ℕ)
        (rest : List (List ℕ)) (next : UnboundLine S) → (is_comment line || is_blank line) ≡ false
        → next_line m found (length lines) end line ≡ line_under bound found next
        → next.number ≡ number + 1
        → rest_of lines end number (line ∷ rest)
        ≡ rest_of (lines ++ next ∷ []) (next.start + next.len) (number + 1) rest
    rest_of-read lines end number line rest next kept read there =
        search (rules, length-append, lines_under-push, same-end)

  module _ (m : Meaning S) (text : List ℕ) (lines : List (UnboundLine S)) where
    -- lines up to no fault are the text's
    pub first-all : (fault : Option TableFault) → AreLinesOf m bound text lines fault
        → fault ≡ None → AreOfText m bound text lines
    first-all None first none = λ found. (search (rules, first found))
    first-all (Some fault) first none = absurd (cc)

    -- the fault that ends lines is the text's, where each word is known
    pub first-fault : (told : Option TableFault) (fault : TableFault)
        → AreLinesOf m bound text lines told → told ≡ Some fault
        → IsRead (table_of m each_known text) (Err fault)
    first-fault None fault first is = absurd (cc)
    first-fault (Some told) fault first is = λ other.
        let same : told ≡ fault = cc in
        let known = first each_known in
        rw (sym same) (known.is ∙ ap (λ x. some_line (lines_under bound each_known lines x))
        (known.ends (λ why. other (ap (λ f. f.why) (sym same) ∙ why)))
        ∙ ap some_line (lines_under-fault lines told))

    -- a text of no line has that fault
    pub text-empty : AreOfText m bound text lines → lines ≡ []
        → table_of m each_known text ≡ Err (record { line = 0; why = why.Empty })
    text-empty are none = are each_known ∙ rw none refl

    -- a text of some lines can be read, where each word is known
    pub text-known : AreOfText m bound text lines → 0 < length lines
        → IsOk (table_of m each_known text)
    text-known are some = let known = lines_under-known lines in
        rw (are each_known, known.1) (table-some known.0 (omega (arith, known.2)))
