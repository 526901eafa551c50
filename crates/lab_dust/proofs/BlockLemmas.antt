-- The list of bad blocks is a set: what is listed after a change, and that the list keeps rising.
-- Names: the question, and the change. The listed blocks go on rising, whatever a dust line takes
-- or is told.
use Rattle.std.proofs.Common.{rules, ◌≡◌, ℕ, not, ◌==◌, List, [], ◌∷◌, Less, nat_cmp, Bool, cond}
use Rattle.std.specs.Prelude.{◌&&◌, ◌||◌, Option}
use Rattle.std.specs.List.{AllByRecursion}
use Rattle.std.specs.List.Sorted.{IsStrictlySortedBy}
use Rattle.lab_dust.specs.Dust.{DustList, after_message, after_piece, is_listed, opening_list}
use Rattle.lab_sector.specs.declared.request.Kind.{Kind}
use Rattle.lab_sector.specs.declared.request.Kind.TheVariants.{Read, Write, Trim, Flush}
use Rattle.lab_dust.specs.declared.message.Message.{Message}
use Rattle.lab_dust.specs.declared.message.Message.TheVariants.{AddBlock, RemoveBlock}
use Rattle.std.specs.BTreeSet.{insert_key}
use Rattle.std.specs.Option.{option_map_or}
use Rattle.std.specs.Prelude.{filter}
use Rattle.std.proofs.lemmas.List.Kept.{IsStrictlySortedBy-filter}

-- a block that is put into a list stands before the first one, is that, or goes behind it
by_place : (P : List ℕ → Type 0) (block listed : ℕ) (blocks : List ℕ)
    → (nat_cmp block listed ≡ Less → P (block ∷ listed ∷ blocks))
    → (block ≡ listed → P (listed ∷ blocks))
    → (nat_cmp listed block ≡ Less → P (listed ∷ insert_key nat_cmp blocks block))
    → P (insert_key nat_cmp (listed ∷ blocks) block)
by_place P block listed blocks before at behind = search rules

module _ (other block : ℕ) where
  -- a block is listed with another if it is that one or was listed
  is_listed-in : (blocks : List ℕ)
      → is_listed other (insert_key nat_cmp blocks block)
      ≡ (block == other || is_listed other blocks)
  is_listed-in [] = search rules
  is_listed-in (listed ∷ blocks) = search (rules, is_listed-in blocks)

  -- a block is listed without another if it was listed and isn't that one
  is_listed-out : (blocks : List ℕ)
      → is_listed other (filter (λ listed. not (listed == block)) blocks)
      ≡ (not (block == other) && is_listed other blocks)
  is_listed-out [] = search rules
  is_listed-out (listed ∷ blocks) = search (rules, is_listed-out blocks)

-- the blocks are all above one
abbrev AllAbove : ℕ → List ℕ → Type 0
AllAbove low blocks = AllByRecursion (λ b. nat_cmp low b ≡ Less) blocks

module _ (low block : ℕ) (less : nat_cmp low block ≡ Less) where
  -- what is above a block is above a lower one
  lower-AllAbove : (blocks : List ℕ) → AllAbove block blocks → AllAbove low blocks
  lower-AllAbove [] above = search rules
  lower-AllAbove (listed ∷ blocks) above = search (rules, lower-AllAbove blocks above.1)

  -- a block that is above a number is so in a list that is
  insert-AllAbove : (blocks : List ℕ) → AllAbove low blocks
      → AllAbove low (insert_key nat_cmp blocks block)
  insert-AllAbove [] above = search rules
  insert-AllAbove (listed ∷ blocks) above = search (rules, insert-AllAbove blocks above.1)

-- a rising list rises with one more block
rising-insert : (block : ℕ) (blocks : List ℕ) → IsStrictlySortedBy nat_cmp blocks
    → IsStrictlySortedBy nat_cmp (insert_key nat_cmp blocks block)
unfolding IsStrictlySortedBy
rising-insert block [] rising = (tt, tt)
rising-insert block (listed ∷ blocks) rising =
    by_place (IsStrictlySortedBy nat_cmp) block listed blocks
    (λ less. ((less, lower-AllAbove block listed less blocks rising.0), rising)) (λ same. rising)
    (λ more. (
      insert-AllAbove listed block more blocks rising.0,
      rising-insert block blocks rising.1,
    ))

-- a list's blocks rise
abbrev Rising : DustList → Type 0
Rising list = IsStrictlySortedBy nat_cmp list.blocks

-- no blocks rise
pub none-rise : IsStrictlySortedBy nat_cmp opening_list.blocks
unfolding IsStrictlySortedBy
none-rise = tt

-- after words, whether they are a message or none
pub told-rises : (list : DustList) (message : Option Message) → Rising list
    → Rising (option_map_or (after_message list) message list)
told-rises list message rising =
    search (rules, rising-insert, IsStrictlySortedBy-filter, none-rise)

-- after a block was overwritten, in bypass or not
left-rises : (enabled : Bool) (list : DustList) (block : ℕ) → Rising list
    → Rising (cond enabled (after_message list (RemoveBlock block)) list)
left-rises enabled list block rising = search (rules, IsStrictlySortedBy-filter)

-- after a piece
pub piece-rises : (list : DustList) (kind : Kind) (block : ℕ) → Rising list
    → Rising (after_piece list kind block)
piece-rises list Read block rising = rising
piece-rises list Write block rising = left-rises list.enabled list block rising
piece-rises list Trim block rising = left-rises list.enabled list block rising
piece-rises list Flush block rising = rising

module _ (other block : ℕ) (list : DustList) where
  -- a block is listed after another was added if it is that one or was listed
  pub is_listed-added : is_listed other (after_message list (AddBlock block)).blocks
      ≡ (block == other || is_listed other list.blocks)
  is_listed-added = is_listed-in other block list.blocks

  -- a block is listed after another was removed if it was listed and isn't that one
  pub is_listed-removed : is_listed other (after_message list (RemoveBlock block)).blocks
      ≡ (not (block == other) && is_listed other list.blocks)
  is_listed-removed = is_listed-out other block list.blocks
