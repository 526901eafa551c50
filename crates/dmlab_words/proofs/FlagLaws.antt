-- What the flags of the program are, and so which texts they have, whatever the words are.
use Rattle.std.proofs.Common.{◌≡◌, ◌&&◌, ◌||◌, Bool, true, false, List, [], ◌∷◌, Option, Some, None}
use Rattle.std.proofs.Common.{refl, sym, inl, inr, not, true≢false}
use Rattle.std.specs.Prelude.{IfSome, codes, find, if◌then◌else◌, is_some}
use Rattle.std.specs.List.{list_all}
use Rattle.std.specs.Option.{option_map}
use Rattle.std.specs.Str.{bytes_eq}
use Rattle.std.proofs.lemmas.Bool.{cases_Bool}
use Rattle.clap.proofs.WalkLemmas.{both}
use Rattle.clap.specs.Simple.{Shape, argument_words, built, entered, label_of, names_of, rows_at}
use Rattle.clap.specs.Walk.{Rule, action_of, answers_to, reading_by, stop_after, takes_values}
use Rattle.clap.specs.Words.{Text, one_of}
use Rattle.clap.specs.declared.builder.action.ArgAction.{ArgAction}
use Rattle.clap.specs.declared.builder.action.ArgAction.TheVariants.{SetTrue}
use Rattle.clap.specs.declared.builder.value_parser.Reading.{Reading}
use Rattle.clap.specs.declared.builder.value_parser.Reading.TheVariants.{AsWritten}
use Rattle.dmlab_words.specs.CommandLine.{dmlab_app}
use Rattle.dmlab_words.specs.Flags.{FlagsAreTold, IsFlagText, IsTold, flags}
use Rattle.dmlab_words.proofs.FlagTexts.{Each, Each-found, IsFlag, Plain, flag-texts}
use Rattle.dmlab_words.proofs.FlagTexts.{same-name}

-- ---- what a flag is, as a test

-- the text is `true` or `false`
abbrev is_flag_text : Text → Bool
is_flag_text text = bytes_eq text (codes "true") || bytes_eq text (codes "false")

-- a use of the argument sets its text
abbrev is_set_true : ArgAction → Bool
is_set_true SetTrue = true
is_set_true _ = false

-- its text is read as it is written
abbrev is_as_written : Reading → Bool
is_as_written AsWritten = true
is_as_written _ = false

-- the argument is a flag
abbrev is_flag : Rule → Bool
is_flag a = is_set_true (action_of a) && (list_all is_flag_text a.missing
    && (list_all is_flag_text a.defaults && (is_as_written (reading_by a)
    && (not (takes_values a) && not (is_some a.index)))))

-- an argument of this name is one
abbrev is_plain : Text → Rule → Bool
is_plain f a = if bytes_eq a.id f then is_flag a else true

-- ---- the tests say so

-- the action is that of a flag
set-true : (action : ArgAction) → is_set_true action ≡ true → action ≡ SetTrue
set-true SetTrue is = refl
set-true _ is = absurd (true≢false (sym is))

-- the reading is that of a flag
as-written : (how : Reading) → is_as_written how ≡ true → how ≡ AsWritten
as-written AsWritten is = refl
as-written _ is = absurd (true≢false (sym is))

-- what is not true is false
is-false : (b : Bool) → not b ≡ true → b ≡ false
is-false true is = absurd (true≢false (sym is))
is-false false is = refl

-- what is not there is none
is-none : {X : Type 0} (o : Option X) → not (is_some o) ≡ true → o ≡ None
is-none None is = refl
is-none (Some x) is = absurd (true≢false (sym is))

-- the text is one of the two
flag-text : (text : Text) → is_flag_text text ≡ true → IsFlagText text
flag-text text is = elim (cases_Bool (bytes_eq text (codes "true"))) [
  | inl same ↦ inl (same-name text (codes "true") same)
  | inr other ↦ inr (same-name text (codes "false") (rw other at is))
]

-- what passes a test that gives a fact, each has it
Each-all : {X : Type 0} (P : X → Type 0) (test : X → Bool) → ((x : X) → test x ≡ true → P x)
    → (xs : List X) → list_all test xs ≡ true → Each P xs
Each-all P test gives [] is = tt
Each-all P test gives (x ∷ xs) is =
    let parts = both (test x) (list_all test xs) is in
    (gives x parts.0, Each-all P test gives xs parts.1)

-- an argument that passes is a flag
flag-is : (a : Rule) → is_flag a ≡ true → IsFlag a
flag-is a is =
    let first = both (is_set_true (action_of a)) _ is in
    let second = both (list_all is_flag_text a.missing) _ first.1 in
    let third = both (list_all is_flag_text a.defaults) _ second.1 in
    let fourth = both (is_as_written (reading_by a)) _ third.1 in
    let fifth = both (not (takes_values a)) (not (is_some a.index)) fourth.1 in
    record {
      action = set-true (action_of a) first.0;
      missing = Each-all IsFlagText is_flag_text flag-text a.missing second.0;
      defaults = Each-all IsFlagText is_flag_text flag-text a.defaults third.0;
      reading = as-written (reading_by a) fourth.0;
      takes = is-false (takes_values a) fifth.0;
      index = is-none a.index fifth.1;
    }

-- so is one of this name that passes
plain-is : (f : Text) (a : Rule) → is_plain f a ≡ true → Plain f a
plain-is f a is = λ same. flag-is a (rw same at is)

-- ---- the program's flags

-- an argument of this name is a flag of the subcommand
abbrev HasFlag : Text → Shape → Type 0
HasFlag f s = Each (Plain f) s.rules

-- so in each subcommand of the program
abbrev are_plain : Text → Bool
are_plain f = list_all (λ (s : Shape). list_all (is_plain f) s.rules) (built dmlab_app).subs

-- the text of a flag of the subcommand that was met is one of the two
entered-flag : (f : Text) → are_plain f ≡ true → (stop : Option (Text × List Text))
    → IfSome (entered (built dmlab_app) stop) (λ met. IfSome (one_of f met.1) IsFlagText)
entered-flag f is None = tt
entered-flag f is (Some p) = by_shape
    (find (λ (s : Shape). answers_to p.0 (label_of s)) (built dmlab_app).subs)
    (Each-found (HasFlag f) (λ (s : Shape). answers_to p.0 (label_of s)) (built dmlab_app).subs
    (Each-all (HasFlag f) (λ (s : Shape). list_all (is_plain f) s.rules)
    (λ s own. Each-all (Plain f) (is_plain f) (plain-is f) s.rules own) (built dmlab_app).subs is))
  where
    by_shape : (o : Option Shape)
        → ((s : Shape) → o ≡ Some s → HasFlag f s × (answers_to p.0 (label_of s) ≡ true))
        → IfSome (option_map (λ s. rows_at s p.1) o) (λ met. IfSome (one_of f met.1) IsFlagText)
    by_shape None found = tt
    by_shape (Some s) found = flag-texts f s.rules (found s refl).0 [] p.1

-- it is so where each subcommand's argument of this name is a flag
told : (words : List Text) (f : Text) → are_plain f ≡ true → IsTold words f
told words f is = entered-flag f is (stop_after (built dmlab_app).top.rules
    (names_of (built dmlab_app)) (argument_words dmlab_app words))

-- whatever the words are, each flag has no other text than these two
pub flags_told : FlagsAreTold
flags_told words = Each-all (IsTold words) are_plain (told words) flags refl
