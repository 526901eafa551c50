-- The list of bad blocks is a set whose numbers rise (this project's own).
use Rattle.std.specs.Prelude.{◌≡◌, ℕ, ◌==◌, ◌&&◌, ◌||◌, not, List}
use Rattle.std.specs.List.Sorted.{IsStrictlySortedBy}
use Rattle.std.specs.Ordering.{nat_cmp}
use Rattle.lab_sector.specs.declared.request.Kind.{Kind}
use Rattle.lab_sector.specs.declared.span.Span.{Span}
use Rattle.lab_target.specs.declared.verdict.Ref.{Ref}
use Rattle.lab_dust.specs.Dust.{DustLine, DustList, after_message, dust_target, is_listed, opening_line}
use Rattle.lab_dust.specs.declared.message.Message.TheVariants.{AddBlock, RemoveBlock}

-- the listed blocks of a line rise, so that none stands there twice
abbrev pub Rises : DustLine → Type 0
Rises line = IsStrictlySortedBy nat_cmp line.list.blocks

-- they rise in the opening state, and after each piece and each message if they did before
pub record AlwaysRises : Type 0 where
  pub opening : (reference : Ref) (size len : ℕ) → Rises (opening_line reference size len)
  pub started : (line : DustLine) (now : ℕ) → Rises line → Rises (dust_target.started line now)
  pub judged : (line : DustLine) (kind : Kind) (piece : Span) (now : ℕ) → Rises line
      → Rises (dust_target.judged line kind piece now)
  pub messaged : (line : DustLine) (words : List (List ℕ)) → Rises line
      → Rises (dust_target.messaged line words)

-- after a block was added a block is listed if it is that one or was listed
abbrev pub AddsOne : Type 0
AddsOne = (other block : ℕ) (list : DustList)
    → is_listed other (after_message list (AddBlock block)).blocks
    ≡ (block == other || is_listed other list.blocks)

-- after a block was removed a block is listed if it isn't that one and was listed
abbrev pub TakesOne : Type 0
TakesOne = (other block : ℕ) (list : DustList)
    → is_listed other (after_message list (RemoveBlock block)).blocks
    ≡ (not (block == other) && is_listed other list.blocks)
