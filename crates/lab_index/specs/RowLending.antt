-- What becomes of the items where one of them is lent to be changed (this project's own).
use Rattle.std.specs.Prelude.{ℕ, Some}
use Rattle.std.specs.Borrow.{Fml, Lends, MutBor, RattleType}
use Rattle.lab_index.specs.Lists.{change_numbered}
use Rattle.lab_index.specs.Rows.{ItemRow}
use Rattle.lab_index.specs.contracts.items.Numbered.{the_row}

module _ (T : RattleType) where
  -- the row with an item of this number in place of another
  abbrev pub with_numbered : ItemRow T.Denot → ℕ → T.Denot → ItemRow T.Denot
  with_numbered row number item =
      record row { items = change_numbered row.items number (λ _. Some item) }

  -- the item of this number ends as what was last written, and nothing else changes
  abbrev pub LendsNumbered : MutBor (ItemRow T.Denot) → ℕ → MutBor T.Denot → Fml
  LendsNumbered row number item = Lends (the_row T) T row item (with_numbered row.now number)
