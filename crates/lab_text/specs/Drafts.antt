-- The parts of a bundle while it is read (this project's own).
use Rattle.std.specs.Prelude.{◌≡◌, ℕ, Bool, List, Option, map}
use Rattle.std.specs.Borrow.{Bor}
use Rattle.std.specs.List.{list_any, filter_map}
use Rattle.std.specs.Option.{option_map, option_to_list}
use Rattle.std.specs.HashSet.{HashSet}
use Rattle.std.specs.declared.hash.FoldHasher.{FoldHasher}
use Rattle.std.specs.declared.hash.BuildHasherDefault.{BuildHasherDefault}
use Rattle.lab_text.specs.Lines.{lines_of}
use Rattle.lab_text.specs.Bundle.{Line, Title, is_same_title, part_of, as_table, as_script, as_log, as_history}
use Rattle.lab_text.specs.Reading.{title}
use Rattle.lab_text.specs.declared.heading.Heading.{Heading}
use Rattle.lab_text.specs.declared.draft.Draft.{Draft}

-- one of the parts has the title
abbrev pub has_title : Title → List (Title × List Line) → Bool
has_title title parts = list_any (λ part. is_same_title title part.0) parts

-- the headings, in no order
abbrev pub Headings : Type 0
Headings = HashSet Heading (BuildHasherDefault FoldHasher)

-- one of them opens what the heading opens
abbrev pub is_seen : Heading → Headings → Bool
is_seen heading seen = list_any (λ key. is_same_title (title heading) (title key)) seen.keys

-- the lines of a text, if there is one
abbrev pub lines_if_any : Option (Bor (List ℕ)) → List (List Line)
lines_if_any text = option_to_list (option_map (λ text. lines_of text.now) text)

-- the draft has these parts, each kind's in their order, and knows their headings
pub record DraftHas (draft : Draft) (parts : List (Title × List Line)) : Type 0 where
  pub opened : (heading : Heading)
      → is_seen heading draft.seen ≡ has_title (title heading) parts
  pub tables : map part_of draft.tables.items ≡ filter_map as_table parts
  pub script : lines_if_any draft.script ≡ filter_map as_script parts
  pub logs : map part_of draft.logs.items ≡ filter_map as_log parts
  pub history : lines_if_any draft.history ≡ filter_map as_history parts
