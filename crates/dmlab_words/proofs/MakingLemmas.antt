-- What a command is with a subcommand behind its others, and a fold over what is left of a list.
use Rattle.std.proofs.Common.{◌≡◌, ◌∙◌, ◌+◌, ◌<◌, ℕ, List, suc, ap, arith, drop, drop-cons, fold, get_or, length}
use Rattle.clap.specs.Words.{AddsSubcommand, App, app_of, with_subcommand}
use Rattle.clap.specs.declared.builder.command.Command.{Command}
use Rattle.dmlab_words.specs.Making.{IsLocal}

-- its subcommands have the last one's words behind the others
pub joined : (old sub new : Command) (below : App) → AddsSubcommand old sub new → IsLocal sub below
    → app_of new ≡ with_subcommand (app_of old) below.top
joined old sub new below adds local =
    adds.shape local.1 ∙ ap (λ (app : App). with_subcommand (app_of old) app.top) local.0

-- the next element is the first of those that are left
pub fold_next : {A X : Type 0} (f : A → X → A) (a : A) (xs : List X) (i : ℕ) (d : X)
    → i < length xs → fold f a (drop i xs) ≡ fold f (f a (get_or xs i d)) (drop (i + 1) xs)
fold_next f a xs i d below =
    let next : suc i ≡ i + 1 = omega arith in
    ap (fold f a) (drop-cons xs i d below)
    ∙ ap (λ (k : ℕ). fold f (f a (get_or xs i d)) (drop k xs)) next
