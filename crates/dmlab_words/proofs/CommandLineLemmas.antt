-- From what `clap` ensures of its parse to what the words ask for.
use Rattle.std.proofs.Common.{◌≡◌, ◌∙◌, Bool, true, List, [], ◌∷◌, Option, ap, inl, inr, refl, rules, subst, sym}
use Rattle.std.specs.Prelude.{is_some}
use Rattle.clap.specs.Faults.{level_fault}
use Rattle.clap.specs.Kinds.{or_else}
use Rattle.clap.specs.Simple.{Shape, argument_words, built, entered, names_of}
use Rattle.clap.specs.Walk.{Held, Names, stop_after}
use Rattle.clap.specs.Words.{App, HasKind, HasMatchesOf, Kinds, Text, fault_of, is_simple_and_free}
use Rattle.clap.specs.Words.{subcommand_of, subcommand_rows_of}
use Rattle.clap.specs.declared.error.Error.{Error}
use Rattle.clap.specs.declared.parser.matches.ArgMatches.{ArgMatches}
use Rattle.dmlab_words.specs.CommandLine.{HasWork, dmlab_app}

-- what `clap` ensures of an app whose arguments have no rule on one another holds of the program's
-- own command line
pub of_own : (P : App → Type 0) (app : App) → app ≡ dmlab_app
    → (is_simple_and_free app ≡ true → P app) → P dmlab_app
of_own P app same holds = subst (λ a. is_simple_and_free a ≡ true → P a) same holds refl

-- the subcommand that a parse met is the one that the words name
pub met_by_words : (app : App) (words : List Text) (m : ArgMatches) → app ≡ dmlab_app
    → HasMatchesOf app words m → subcommand_rows_of m ≡ subcommand_of dmlab_app words
met_by_words app words m same found = (subst (λ a. HasMatchesOf a words m) same found refl).1

-- ---- the kinds of error: those of the parser, or where it has none those of words without sense

-- an error of the parser is one of the words
pub first_kinds : (first second : Kinds) (error : Error) → HasKind first error
    → HasKind (or_else first second) error
first_kinds [] second error (inl memory) = inl memory
first_kinds [] second error (inr none) = absurd none
first_kinds (kind ∷ kinds) second error has = has

-- where the parser has none, those of words without sense are all
pub or_else-second : (first second : Kinds) → first ≡ [] → or_else first second ≡ second
or_else-second first second none = ap (λ kinds. or_else kinds second) none

-- and an error of these is one of the words
pub second_kinds : (first found second : Kinds) (error : Error) → first ≡ [] → found ≡ second
    → HasKind found error → HasKind (or_else first second) error
second_kinds first found second error none same has =
    subst (λ kinds. HasKind kinds error) (same ∙ sym (or_else-second first second none)) has

-- ---- words without a fault meet one of the program's subcommands

-- the same at a whole level of a parse
met-level : (s : Shape) (names : Names) (held : Held) (words : List Text) (met : Bool)
    (below : Kinds) → s.subcommand_required ≡ true
    → level_fault s names held words met below ≡ [] → met ≡ true
met-level s names held words met below wants none = search rules

-- a subcommand at which a walk stopped is one of the program's
entered-work : (stop : Option (Text × List Text))
    → is_some (entered (built dmlab_app) stop) ≡ true → HasWork (entered (built dmlab_app) stop)
entered-work stop met = search rules

-- so the subcommand that a parse met is
pub HasWork-met : (app : App) (words : List Text) (m : ArgMatches) → app ≡ dmlab_app
    → fault_of dmlab_app words ≡ [] → HasMatchesOf app words m → HasWork (subcommand_rows_of m)
HasWork-met app words m same none found = subst HasWork (sym (met_by_words app words m same found))
    (entered-work (stop_after (built dmlab_app).top.rules (names_of (built dmlab_app))
    (argument_words dmlab_app words)) (met-level _ _ _ _ _ _ refl none))
