-- The table of a name among the parts that are read.
use Rattle.lab_model.proofs.Common.{rules, ◌≡◌, ℕ, List, [], ◌∷◌, Option, Some, None, map}
use Rattle.lab_model.proofs.Common.{result_ok, bytes_eq, Meaning}
use Rattle.std.proofs.Common.{find}
use Rattle.std.specs.Option.{option_map}
use Rattle.lab_table.specs.TableText as texts
use Rattle.lab_rulebook.specs.Parts.{Parts, part_named}
use Rattle.lab_rulebook.specs.BoundWords.{word_device}
use Rattle.lab_rulebook.specs.Standing.{Standing as Stands, table_named}
use Rattle.lab_rulebook.specs.PartsOf.{table_part}
use Rattle.lab_standing.specs.Image.{text_of}
use Rattle.lab_standing.specs.declared.named.NamedTable.{NamedTable}

-- the part of a name, by the tables
named-part : {S : Type 0} (m : Meaning S) (name : List ℕ) (tables : List (NamedTable S))
    → part_named (map (λ named. table_part m (text_of named)) tables) name
    ≡ option_map (λ named. table_part m (text_of named))
    (find (λ named. bytes_eq named.name.now name) tables)
named-part m name [] = search rules
named-part m name (named ∷ tables) = search (rules, named-part m name tables)

module _ {S : Type 0} (m : Meaning S) (s : Stands S) (name : List ℕ) (tables : List (NamedTable S))
    (parts : Parts S)
    (are : parts.tables ≡ map (λ named. table_part m (text_of named)) tables) where
  -- no table has the name
  pub none-named : (found : Option (NamedTable S))
      → found ≡ find (λ named. bytes_eq named.name.now name) tables → found ≡ None
      → None ≡ table_named parts s name
  none-named found is none = search (rules, named-part)

  -- the table of the name is bound
  pub text-named : (found : Option (NamedTable S)) (named : NamedTable S)
      → found ≡ find (λ named. bytes_eq named.name.now name) tables → found ≡ Some named
      → result_ok (texts.table_of m (word_device s) named.table) ≡ table_named parts s name
  text-named found named is some = search (rules, named-part)
