-- The texts of a table's lines, one line after another.
use Rattle.lab_model.proofs.Common.{rules, ◌≡◌, ℕ, ◌+◌, ◌<◌, List, [], ◌∷◌, ◌++◌, ap, sym, ◌∙◌}
use Rattle.lab_model.proofs.Common.{arith, map, take, length, get_or, length-take-le, map-append}
use Rattle.lab_model.proofs.Common.{take_more, enumerate_from, Meaning, held_counts, line_text}
use Rattle.lab_model.proofs.Common.{status_texts, State, Table}
use Rattle.lab_model.specs.declared.reply.Reply.{Reply}
use Rattle.lab_model.specs.declared.table_line.TableLine.{TableLine}
use Rattle.lab_target.specs.declared.verdict.Held.{Held as HeldCounts}
use Rattle.lab_effect.specs.Replies.{reply_of}

-- what is made of each of some items and its number, with one item more behind them
numbered-more : {X Y : Type 0} (f : ℕ × X → Y) (first : ℕ) (xs : List X) (x : X)
    → map f (enumerate_from first (xs ++ x ∷ []))
    ≡ map f (enumerate_from first xs) ++ f (first + length xs, x) ∷ []
numbered-more f first [] x = search rules
numbered-more f first (y ∷ ys) x = search (rules, numbered-more f (first + 1) ys x)

module _ {S : Type 0} (m : Meaning S) (s : State S) (device : ℕ) where
  -- the status of a line of a number
  abbrev pub status_text : ℕ × TableLine S → List ℕ
  status_text entry =
      line_text entry.1 (m.status entry.1.target s.clock (held_counts s device entry.0))

  -- the status of the lines up to one
  texts-more : (lines : Table S) (place : ℕ) (line : TableLine S) → place < length lines
      → line ≡ get_or lines place line
      → status_texts m s device (take (place + 1) lines)
      ≡ status_texts m s device (take place lines) ++ status_text (place, line) ∷ []
  texts-more lines place line inside is = ap (status_texts m s device)
      (take_more lines place line inside ∙ ap (λ l. take place lines ++ l ∷ []) (sym is))
      ∙ numbered-more status_text 0 (take place lines) line
      ∙ ap (λ n. status_texts m s device (take place lines) ++ status_text (n, line) ∷ [])
      (omega (arith, length-take-le place lines (omega arith)))

  -- one line more is told, with what is held for it
  pub status-more : (script_line : ℕ) (lines : Table S) (place : ℕ) (line : TableLine S)
      (held : HeldCounts) (reply : Reply) (before after : List Reply) → place < length lines
      → line ≡ get_or lines place line → held ≡ held_counts s device place
      → before ≡ map (reply_of script_line) (status_texts m s device (take place lines))
      → reply ≡ reply_of script_line (line_text line (m.status line.target s.clock held))
      → after ≡ before ++ reply ∷ []
      → after ≡ map (reply_of script_line) (status_texts m s device (take (place + 1) lines))
  status-more script_line lines place line held reply before after inside is held-is were one are =
      search (rules, texts-more, map-append)
