-- A flag of the program has one of two texts: `true` where it is given, and `false` elsewhere.
--
-- Why it holds: a row of the flag is made by a use of it, which gives it the text `true`, or by its
-- default, which is `false`. The flag takes no value, so no word waits for it: each word that is a
-- value goes to another argument. So it is after each word of the walk, and after the defaults.
use Rattle.std.proofs.Common.{◌≡◌, ◌∙◌, ◌&&◌, ◌++◌, ◌+◌, ◌∷◌, ℕ, zero, suc, Bool, true, false}
use Rattle.std.proofs.Common.{List, [], Option, Some, None, refl, sym, subst, rules, inl, inr, min}
use Rattle.std.proofs.Common.{true≢false}
use Rattle.std.specs.Prelude.{◌==◌, IfSome, drop, encode_utf8, find, fold, if◌then◌else◌}
use Rattle.std.specs.Prelude.{length, slice_get}
use Rattle.std.specs.Option.{option_and_then, option_map, option_map_or}
use Rattle.std.specs.Str.{bytes_eq, chars}
use Rattle.std.proofs.lemmas.Bool.{cases_Bool}
use Rattle.std.proofs.lemmas.Option.{none-some, same_Some}
use Rattle.std.proofs.lemmas.Slice.Eq.{bytes_eq-Decides}
use Rattle.clap.specs.Lexer.{short_of, long_of}
use Rattle.clap.specs.Matches.{count_text}
use Rattle.clap.specs.Values.{read_as}
use Rattle.clap.specs.Walk as w
use Rattle.clap.specs.Walk.{Held, Names, Outcome, Row, Rule, Step, Text, Waiting, Walk}
use Rattle.clap.specs.Words.{one_of}
use Rattle.clap.specs.declared.builder.action.ArgAction.{ArgAction}
use Rattle.clap.specs.declared.builder.action.ArgAction.TheVariants.{Append, Count, Set, SetFalse}
use Rattle.clap.specs.declared.builder.action.ArgAction.TheVariants.{SetTrue}
use Rattle.clap.specs.declared.builder.value_parser.Reading.{Reading}
use Rattle.clap.specs.declared.builder.value_parser.Reading.TheVariants.{AsWritten}
use Rattle.clap.specs.declared.parser.matches.ValueSource.{ValueSource}
use Rattle.dmlab_words.specs.Flags.{IsFlagText}
use Rattle.clap.specs.declared.parser.matches.ValueSource.TheVariants.{CommandLine, DefaultValue}

-- what holds of each
abbrev pub Each : {X : Type 0} → (X → Type 0) → List X → Type 0
Each P [] = Unit {0}
Each P (x ∷ xs) = P x × Each P xs

-- the elements of two lists
Each-append : {X : Type 0} (P : X → Type 0) (xs ys : List X) → Each P xs → Each P ys
    → Each P (xs ++ ys)
Each-append P [] ys first second = second
Each-append P (x ∷ xs) ys first second = (first.0, Each-append P xs ys first.1 second)

-- the one that a search finds
pub Each-found : {X : Type 0} (P : X → Type 0) (test : X → Bool) (xs : List X) → Each P xs → (x : X)
    → find test xs ≡ Some x → P x × (test x ≡ true)
Each-found P test [] all x is = absurd (none-some x is)
Each-found {X} P test (first ∷ rest) all x is = elim (cases_Bool (test first)) [
  | inl here ↦
      let at : (if true then Some first else find test rest) ≡ Some x =
      subst (λ (b : Bool). (if b then Some first else find test rest) ≡ Some x) here is in
      let same : first ≡ x = same_Some first x at in
      (subst P same all.0, subst (λ (y : X). test y ≡ true) same here)
  | inr past ↦
      let at : (if false then Some first else find test rest) ≡ Some x =
      subst (λ (b : Bool). (if b then Some first else find test rest) ≡ Some x) past is in
      Each-found P test rest all.1 x at
]

-- names that are the same
pub same-name : (a b : Text) → bytes_eq a b ≡ true → a ≡ b
same-name a b is = search (rules, bytes_eq-Decides)

-- ---- what a flag is

-- the argument is a flag as the program has them
pub record IsFlag (a : Rule) : Type 0 where
  pub action : w.action_of a ≡ SetTrue
  pub missing : Each IsFlagText a.missing
  pub defaults : Each IsFlagText a.defaults
  pub reading : w.reading_by a ≡ AsWritten
  pub takes : w.takes_values a ≡ false
  pub index : a.index ≡ None

module _ (f : Text) where
  -- the row, if it is the flag's, has such texts alone, and they are read as written
  abbrev Fits : Row → Type 0
  Fits r = bytes_eq r.id f ≡ true → Each IsFlagText r.values × (r.reading ≡ AsWritten)

  -- the argument, if it has the flag's name, is one
  abbrev pub Plain : Rule → Type 0
  Plain a = bytes_eq a.id f ≡ true → IsFlag a

  -- what is given to an argument of this name are such texts if it is the flag
  abbrev Allows : Text → Reading → List Text → Type 0
  Allows id how values = bytes_eq id f ≡ true → Each IsFlagText values × (how ≡ AsWritten)

  -- a row's name is the flag's if it is a name that is
  renamed : (a b : Text) → bytes_eq a b ≡ true → bytes_eq a f ≡ true → bytes_eq b f ≡ true
  renamed a b same is = subst (λ (t : Text). bytes_eq t f ≡ true) (same-name a b same) is

  -- ---- rows

  -- rows that fit still do where one is changed so that it fits, or one that fits is added
  at_row-fits : (id : Text) (change : Row → List Row) (missing rows : List Row)
      → ((r : Row) → bytes_eq r.id id ≡ true → Fits r → Each Fits (change r))
      → Each Fits missing → Each Fits rows → Each Fits (w.at_row id change missing rows)
  at_row-fits id change missing [] changes new fits = new
  at_row-fits id change missing (r ∷ rs) changes new fits = elim (cases_Bool (bytes_eq r.id id)) [
    | inl same ↦
        subst (λ (b : Bool). Each Fits (if b then change r ++ rs
        else r ∷ w.at_row id change missing rs)) (sym same)
        (Each-append Fits (change r) rs (changes r same fits.0) fits.1)
    | inr other ↦
        subst (λ (b : Bool). Each Fits (if b then change r ++ rs
        else r ∷ w.at_row id change missing rs)) (sym other)
        (fits.0, at_row-fits id change missing rs changes new fits.1)
  ]

  -- where one is taken out
  without-fits : (id : Text) (rows : List Row) → Each Fits rows → Each Fits (w.without id rows)
  without-fits id rows fits = at_row-fits id (λ _. []) [] rows (λ r same own. tt) tt fits

  -- where values are given that the name allows
  with_values-fits : (id : Text) (how : Reading) (s : ValueSource) (values : List Text)
      (rows : List Row) → Allows id how values → Each Fits rows
      → Each Fits (w.with_values id how s values rows)
  with_values-fits id how s values rows allows fits =
      at_row-fits id (w.more_values s values) (record {
        id = id;
        values = values;
        count = None;
        source = Some s;
        reading = how;
      } ∷ []) rows
      (λ r same own. (
        (λ is. (
          Each-append IsFlagText r.values values (own is).0 (allows (renamed r.id id same is)).0,
          (own is).1,
        )),
        tt,
      ))
      (allows, tt) fits

  -- where another argument than the flag is counted
  with_count-fits : (id : Text) (how : Reading) (s : ValueSource) (n : ℕ) (rows : List Row)
      → (bytes_eq id f ≡ true → ⊥) → Each Fits rows
      → Each Fits (w.with_count id how s n rows)
  with_count-fits id how s n rows other fits =
      at_row-fits id (w.new_count s n) (record {
        id = id;
        values = count_text n ∷ [];
        count = Some n;
        source = Some s;
        reading = how;
      } ∷ []) rows
      (λ r same own. ((λ is. absurd (other (renamed r.id id same is))), tt))
      ((λ is. absurd (other is)), tt) fits

  -- the same of a use of an argument that counts
  counted-fits : (id : Text) (how : Reading) (values : List Text) (rows : List Row)
      → (bytes_eq id f ≡ true → ⊥) → Each Fits rows → Each Fits (w.counted id how values rows)
  counted-fits id how [] rows other fits =
      with_count-fits id how CommandLine (min (w.count_of id rows + 1) 255) (w.without id rows) other
      (without-fits id rows fits)
  counted-fits id how (v ∷ vs) rows other fits =
      with_values-fits id how CommandLine (v ∷ vs) (w.without id rows) (λ is. absurd (other is))
      (without-fits id rows fits)

  -- where an argument is used by its action; the flag's sets it
  used_as-fits : (action : ArgAction) (id : Text) (how : Reading) (values : List Text)
      (rows : List Row) → (bytes_eq id f ≡ true → action ≡ SetTrue) → Allows id how values
      → Each Fits rows → Each Fits (w.used_as action id how values rows)
  used_as-fits Set id how values rows sets allows fits =
      with_values-fits id how CommandLine values (w.without id rows) allows
      (without-fits id rows fits)
  used_as-fits SetTrue id how values rows sets allows fits =
      with_values-fits id how CommandLine values (w.without id rows) allows
      (without-fits id rows fits)
  used_as-fits SetFalse id how values rows sets allows fits =
      with_values-fits id how CommandLine values (w.without id rows) allows
      (without-fits id rows fits)
  used_as-fits Append id how values rows sets allows fits =
      with_values-fits id how CommandLine values rows allows fits
  used_as-fits Count id how values rows sets allows fits =
      counted-fits id how values rows (λ is. let same = sets is in cc) fits
  used_as-fits _ id how values rows sets allows fits = fits

  -- a use of an argument; the flag has no values of its own
  used-fits : (a : Rule) (values : List Text) (rows : List Row) → Plain a
      → (bytes_eq a.id f ≡ true → values ≡ []) → Each Fits rows → Each Fits (w.used a values rows)
  used-fits a values rows plain none fits =
      used_as-fits (w.action_of a) a.id (w.reading_by a) (w.values_or_missing a values) rows
      (λ is. (plain is).action)
      (λ is. (
        subst (λ (vs : List Text). Each IsFlagText (w.values_or_missing a vs)) (sym (none is))
            (plain is).missing,
        (plain is).reading,
      )) fits

  -- ---- what is held between two words

  -- what waits for values is not the flag
  abbrev Waits : Option (Text × List Text) → Type 0
  Waits None = Unit {0}
  Waits (Some p) = bytes_eq p.0 f ≡ false

  -- the rows fit, and what waits is another argument
  abbrev Good : Held → Type 0
  Good h = Each Fits h.rows × Waits h.pending

  -- an option that waits is not the flag
  abbrev Told : Outcome → Type 0
  Told (w.waits id) = bytes_eq id f ≡ false
  Told _ = Unit {0}

  -- what is held is good, and so is what a flag word came to
  abbrev Met : Held × Outcome → Type 0
  Met m = Good m.0 × Told m.1

  -- an option that takes the next word is not the flag
  abbrev Awaits : Waiting → Type 0
  Awaits (w.option id) = bytes_eq id f ≡ false
  Awaits _ = Unit {0}

  -- nor is one that waits after a step
  abbrev Steps : Step → Type 0
  Steps (w.next waiting) = Awaits waiting
  Steps _ = Unit {0}

  -- what is held is good, and so is the step
  abbrev MetStep : Held × Step → Type 0
  MetStep m = Good m.0 × Steps m.1

  -- an argument that is none has another name
  no-flag : (a : Rule) → Plain a → (IsFlag a → ⊥) → bytes_eq a.id f ≡ false
  no-flag a plain none = elim (cases_Bool (bytes_eq a.id f)) [
    | inl is ↦ absurd (none (plain is))
    | inr other ↦ other
  ]

  -- one that takes values is none
  takes-other : (a : Rule) → Plain a → w.takes_values a ≡ true → bytes_eq a.id f ≡ false
  takes-other a plain takes =
      no-flag a plain (λ flag. true≢false (sym takes ∙ flag.takes))

  -- a name that is another's
  other-name : (a b : Text) → bytes_eq a b ≡ true → bytes_eq b f ≡ false → bytes_eq a f ≡ true → ⊥
  other-name a b same other is = true≢false (sym (renamed a b same is) ∙ other)

  -- a use of an argument of a name that is not the flag's
  used_by_id-fits : (o : Option Rule) (id : Text) (values : List Text) (rows : List Row)
      → bytes_eq id f ≡ false
      → ((a : Rule) → o ≡ Some a → Plain a × (bytes_eq a.id id ≡ true)) → Each Fits rows
      → Each Fits (w.used_by_id o values rows)
  used_by_id-fits None id values rows other found fits = fits
  used_by_id-fits (Some a) id values rows other found fits =
      used-fits a values rows (found a refl).0
      (λ is. absurd (other-name a.id id (found a refl).1 other is)) fits

  -- where nothing waits yet, an argument of another name does
  started-waits : (id : Text) (p : Option (Text × List Text)) → Waits p → bytes_eq id f ≡ false
      → bytes_eq (w.started id p).0 f ≡ false
  started-waits id None waits other = other
  started-waits id (Some p) waits other = waits

  -- a word more goes to another argument
  pushed-good : (id word : Text) (h : Held) → bytes_eq id f ≡ false → Good h
      → Good (w.pushed id word h)
  pushed-good id word h other good = (good.0, started-waits id h.pending good.1 other)

  -- an option of another name may wait on
  awaits-either : (b : Bool) (id : Text) → bytes_eq id f ≡ false
      → Awaits (if b then w.option id else w.idle)
  awaits-either true id other = other
  awaits-either false id other = tt

  -- a word that goes to an option of another name
  option_word-good : (o : Option Rule) (id word : Text) (h : Held) → bytes_eq id f ≡ false
      → Good h → Good (w.option_word o id word h).0 × Awaits (w.option_word o id word h).1
  option_word-good None id word h other good = (good, other)
  option_word-good (Some a) id word h other good =
      (pushed-good id word h other good, awaits-either _ id other)

  module _ (c : List Rule) (plain : Each Plain c) where
    -- the argument that waits is used
    settled_rows-fits : (p : Option (Text × List Text)) (rows : List Row) → Waits p
        → Each Fits rows → Each Fits (w.settled_rows c p rows)
    settled_rows-fits None rows waits fits = fits
    settled_rows-fits (Some p) rows waits fits =
        used_by_id-fits (w.arg_by_id c p.0) p.0 p.1 rows waits
        (Each-found Plain (λ (a : Rule). bytes_eq a.id p.0) c plain) fits

    -- the same of all that is held
    settled-good : (h : Held) → Good h → Good (w.settled c h)
    settled-good h good = (settled_rows-fits h.pending h.rows good.1 good.0, tt)

    -- and then another one is
    reacted-good : (a : Rule) (values : List Text) (h : Held) → Plain a
        → (bytes_eq a.id f ≡ true → values ≡ []) → Good h → Good (w.reacted c a values h)
    reacted-good a values h is none good =
        (used-fits a values (w.settled c h).rows is none (settled-good h good).0, tt)

    -- an option is met, which takes values
    option_met-good : (a : Rule) (v : Option Text) (h : Held) → Plain a
        → w.takes_values a ≡ true → Good h → Met (w.option_met c a v h)
    option_met-good a (Some v) h is takes good = (
      reacted-good a (v ∷ []) h is
          (λ own. absurd (true≢false (sym own ∙ takes-other a is takes))) good,
      tt,
    )
    option_met-good a None h is takes good =
        (((settled-good h good).0, takes-other a is takes), takes-other a is takes)

    -- an argument is met that takes none
    flag_met-good : (a : Rule) (v : Option Text) (h : Held) → Plain a → Good h
        → Met (w.flag_met c a v h)
    flag_met-good a (Some v) h is good = (good, tt)
    flag_met-good a None h is good = (reacted-good a [] h is (λ own. refl) good, tt)

    -- `--name`
    long_met-good : (o : Option Rule) (v : Option Text) (h : Held)
        → ((a : Rule) → o ≡ Some a → Plain a) → Good h → Met (w.long_met c o v h)
    long_met-good None v h found good = (good, tt)
    long_met-good (Some a) v h found good = elim (cases_Bool (w.takes_values a)) [
      | inl takes ↦
          subst (λ (b : Bool). Met (if b then w.option_met c a v h else w.flag_met c a v h))
          (sym takes) (option_met-good a v h (found a refl) takes good)
      | inr none ↦
          subst (λ (b : Bool). Met (if b then w.option_met c a v h else w.flag_met c a v h))
          (sym none) (flag_met-good a v h (found a refl) good)
    ]

    -- `-x`, and what follows in its word
    short_met-good : (o : Option Rule) (rest : Text) (h : Held) (next : Held → Held × Outcome)
        → ((a : Rule) → o ≡ Some a → Plain a) → ((g : Held) → Good g → Met (next g)) → Good h
        → Met (w.short_met c o rest h next)
    short_met-good None rest h next found goes good = (good, tt)
    short_met-good (Some a) rest h next found goes good = elim (cases_Bool (w.takes_values a)) [
      | inl takes ↦
          subst (λ (b : Bool). Met (if b then w.option_met c a (w.attached_value rest) h
          else next (w.reacted c a [] h))) (sym takes)
          (option_met-good a (w.attached_value rest) h (found a refl) takes good)
      | inr none ↦
          subst (λ (b : Bool). Met (if b then w.option_met c a (w.attached_value rest) h
          else next (w.reacted c a [] h))) (sym none)
          (goes _ (reacted-good a [] h (found a refl) (λ own. refl) good))
    ]

    -- one character of `-abc`
    bundle_step-good : (x : Option ℕ) (flags : Text) (skip : ℕ) (so_far : Outcome) (h : Held)
        (next : Text → ℕ → Outcome → Held → Held × Outcome)
        → ((t : Text) (n : ℕ) (o : Outcome) (g : Held) → Told o → Good g → Met (next t n o g))
        → Told so_far → Good h → Met (w.bundle_step c x flags skip so_far h next)
    bundle_step-good None flags skip so_far h next goes told good = (good, told)
    bundle_step-good (Some x) flags zero so_far h next goes told good =
        let rest = drop (length (encode_utf8 x)) flags in
        short_met-good (w.arg_by_short c x) rest h (next rest 0 w.done)
        (λ a is. (Each-found Plain _ c plain a is).0) (λ g own. goes rest 0 w.done g tt own) good
    bundle_step-good (Some x) flags (suc skip) so_far h next goes told good =
        goes (drop (length (encode_utf8 x)) flags) skip so_far h told good

    -- all of them
    bundle_met-good : (k : ℕ) (flags : Text) (skip : ℕ) (so_far : Outcome) (h : Held)
        → Told so_far → Good h → Met (w.bundle_met c k flags skip so_far h)
    unfolding w.bundle_met
    bundle_met-good zero flags skip so_far h told good = (good, told)
    bundle_met-good (suc k) flags skip so_far h told good =
        bundle_step-good (slice_get (chars flags) 0) flags skip so_far h (w.bundle_met c k)
        (bundle_met-good k) told good

    -- ---- words

    -- a word that is no flag
    plain_word-good : (waiting : Waiting) (word : Text) (h : Held) → Awaits waiting → Good h
        → MetStep (w.plain_word c waiting word h)
    plain_word-good (w.option id) word h awaits good =
        option_word-good (w.arg_by_id c id) id word h awaits good
    plain_word-good w.idle word h awaits good = (good, tt)
    plain_word-good w.positional word h awaits good = (good, tt)

    -- what a flag word came to
    after_flag-good : (waiting : Waiting) (word : Text) (h : Held) (o : Outcome)
        → Awaits waiting → Told o → Good h → MetStep (w.after_flag c waiting word h o)
    after_flag-good waiting word h w.done awaits told good = (good, tt)
    after_flag-good waiting word h (w.waits id) awaits told good = (good, told)
    after_flag-good waiting word h w.plain awaits told good =
        plain_word-good waiting word h awaits good
    after_flag-good waiting word h w.refused awaits told good =
        plain_word-good waiting word h awaits good

    -- a word that is no long option
    short_or_plain-good : (waiting : Waiting) (word : Text) (o : Option Text) (h : Held)
        → Awaits waiting → Good h → MetStep (w.short_or_plain c waiting word o h)
    short_or_plain-good waiting word (Some flags) h awaits good =
        let met = bundle_met-good (length flags) flags h.skip w.plain (record h { skip = 0 })
        tt good in
        after_flag-good waiting word _ _ awaits met.1 met.0
    short_or_plain-good waiting word None h awaits good =
        plain_word-good waiting word h awaits good

    -- a word that may be a long option
    long_or_other-good : (waiting : Waiting) (word : Text) (o : Option (Text × Option Text))
        (h : Held) → Awaits waiting → Good h → MetStep (w.long_or_other c waiting word o h)
    long_or_other-good waiting word (Some p) h awaits good =
        let met = long_met-good (w.arg_by_long c p.0) p.1 h
        (λ a is. (Each-found Plain _ c plain a is).0) good in
        after_flag-good waiting word _ _ awaits met.1 met.0
    long_or_other-good waiting word None h awaits good =
        short_or_plain-good waiting word (short_of word) h awaits good

    -- a word that may name a subcommand
    subcommand_or_other-good : (o : Option Text) (waiting : Waiting) (position : ℕ) (word : Text)
        (h : Held) → Awaits waiting → Good h
        → MetStep (w.subcommand_or_other c o waiting position word h)
    subcommand_or_other-good (Some name) waiting position word h awaits good = (good, tt)
    subcommand_or_other-good None waiting position word h awaits good =
        either (bytes_eq word (45 ∷ 45 ∷ []))
      where
        either : (b : Bool) → MetStep (if b then (h, w.trailing position)
            else w.long_or_other c waiting word (long_of word) h)
        either true = (good, tt)
        either false = long_or_other-good waiting word (long_of word) h awaits good

    -- any word
    word_met-good : (names : Names) (is_trailing : Bool) (waiting : Waiting) (position : ℕ)
        (word : Text) (h : Held) → Awaits waiting → Good h
        → MetStep (w.word_met c names is_trailing waiting position word h)
    word_met-good names true waiting position word h awaits good = (good, tt)
    word_met-good names false waiting position word h awaits good = subcommand_or_other-good
        (w.subcommand_met names waiting word) waiting position word h awaits good

    -- ---- the walk

    -- what the walk holds is good, and so is what waits
    abbrev GoodWalk : Walk → Type 0
    GoodWalk walk = Good walk.held × Awaits walk.waiting

    -- a word that goes to a positional, which the flag is none of
    positional_held-good : (a : Rule) (word : Text) (h : Held) → bytes_eq a.id f ≡ false → Good h
        → Good (w.positional_held c a word h)
    positional_held-good a word h other good =
        pushed-good a.id word
        (if w.is_pending a h.pending && w.takes_several a then h else w.settled c h) other
        (either (w.is_pending a h.pending && w.takes_several a))
      where
        either : (b : Bool) → Good (if b then h else w.settled c h)
        either true = good
        either false = settled-good h good

    -- a positional has a place
    has-place : (o : Option ℕ) (i : ℕ) → option_map_or (λ k. k == i) o false ≡ true → o ≡ None → ⊥
    has-place None i found none = true≢false (sym found)
    has-place (Some k) i found none = none-some k (sym none)

    -- a word that goes to the positional of a place
    to_positional-good : (o : Option Rule) (word : Text) (walk : Walk) (h : Held)
        → ((a : Rule) → o ≡ Some a → bytes_eq a.id f ≡ false) → Awaits walk.waiting → Good h
        → GoodWalk (w.to_positional c o word walk h)
    to_positional-good None word walk h other awaits good = (good, awaits)
    to_positional-good (Some a) word walk h other awaits good =
        (positional_held-good a word h (other a refl) good, either (w.is_multiple a))
      where
        either : (b : Bool) → Awaits (if b then w.positional else w.idle)
        either true = tt
        either false = tt

    -- which has another name than the flag
    by_index-other : (i : ℕ) (a : Rule) → w.arg_by_index c i ≡ Some a → bytes_eq a.id f ≡ false
    by_index-other i a is =
        let found = Each-found Plain _ c plain a is in
        no-flag a found.0 (λ flag. has-place a.index i found.1 flag.index)

    -- the walk after what a word was
    after_step-good : (word : Text) (walk : Walk) (h : Held) (step : Step) → GoodWalk walk
        → Good h → Steps step → GoodWalk (w.after_step c word walk h step)
    after_step-good word walk h (w.next waiting) so_far good steps = (good, steps)
    after_step-good word walk h (w.trailing position) so_far good steps = (good, so_far.1)
    after_step-good word walk h (w.subcommand name) so_far good steps = (good, so_far.1)
    after_step-good word walk h w.value so_far good steps =
        to_positional-good (w.arg_by_index c walk.position) word walk h
        (by_index-other walk.position) so_far.1 good

    -- after a word, where a subcommand may have been met
    walked_from-good : (names : Names) (stop : Option (Text × List Text)) (walk : Walk)
        (word : Text) → GoodWalk walk → GoodWalk (w.walked_from c names stop walk word)
    walked_from-good names (Some p) walk word good = good
    walked_from-good names None walk word good =
        let met = word_met-good names walk.is_trailing walk.waiting walk.position word walk.held
        good.1 good.0 in
        after_step-good word walk _ _ good met.0 met.1

    -- after a word
    walked-good : (names : Names) (walk : Walk) (word : Text) → GoodWalk walk
        → GoodWalk (w.walked c names walk word)
    unfolding w.walked
    walked-good names walk word good = walked_from-good names walk.stopped walk word good

    -- after all words
    walk-good : (names : Names) (words : List Text) (walk : Walk) → GoodWalk walk
        → GoodWalk (fold (w.walked c names) walk words)
    walk-good names [] walk good = good
    walk-good names (word ∷ words) walk good =
        walk-good names words (w.walked c names walk word) (walked-good names walk word good)

    -- ---- defaults

    -- an argument gets its default values
    default_rows-fits : (id : Text) (how : Reading) (defaults : List Text) (rows : List Row)
        → Allows id how defaults → Each Fits rows → Each Fits (w.default_rows id how defaults rows)
    default_rows-fits id how [] rows allows fits = fits
    default_rows-fits id how (v ∷ vs) rows allows fits =
        with_values-fits id how DefaultValue (v ∷ vs) rows allows fits

    -- where it has no row yet
    with_default-fits : (rows : List Row) (a : Rule) → Plain a → Each Fits rows
        → Each Fits (w.with_default rows a)
    with_default-fits rows a is fits = either (w.has_row a.id rows)
      where
        either : (b : Bool) → Each Fits (if b then rows
            else w.default_rows a.id (w.reading_by a) a.defaults rows)
        either true = fits
        either false = default_rows-fits a.id (w.reading_by a) a.defaults rows
            (λ own. ((is own).defaults, (is own).reading)) fits

    -- each argument does
    defaults-fits : (rules : List Rule) (rows : List Row) → Each Plain rules → Each Fits rows
        → Each Fits (fold w.with_default rows rules)
    defaults-fits [] rows is fits = fits
    defaults-fits (a ∷ rest) rows is fits =
        defaults-fits rest (w.with_default rows a) is.1 (with_default-fits rows a is.0 fits)

    -- the rows of the words
    rows_after-fits : (names : Names) (words : List Text)
        → Each Fits (w.rows_after c names words)
    rows_after-fits names words =
        let end : Walk = w.walk c names w.nothing_held words in
        let good = walk-good names words (w.walk_from w.nothing_held) ((tt, tt), tt) in
        defaults-fits c (w.settled c end.held).rows plain (settled-good end.held good.0).0

    -- ---- the flag

    -- the text of the flag's row is one of the two
    one_of-flag : (rows : List Row) → Each Fits rows → IfSome (one_of f rows) IsFlagText
    one_of-flag rows fits =
        by_row (find (λ (r : Row). bytes_eq r.id f) rows)
        (Each-found Fits (λ (r : Row). bytes_eq r.id f) rows fits)
      where
        first : (how : Reading) (values : List Text) → how ≡ AsWritten → Each IsFlagText values
            → IfSome (option_map (read_as how) (slice_get values 0)) IsFlagText
        first how [] is texts = tt
        first how (v ∷ vs) is texts =
            subst (λ (h : Reading). IsFlagText (read_as h v)) (sym is) texts.0

        by_row : (o : Option Row) → ((r : Row) → o ≡ Some r → Fits r × (bytes_eq r.id f ≡ true))
            → IfSome (option_and_then w.row_text o) IsFlagText
        by_row None found = tt
        by_row (Some r) found =
            let own = (found r refl).0 (found r refl).1 in
            first r.reading r.values own.1 own.0

    -- so the text of the flag is one of the two, whatever the words are
    pub flag-texts : (names : Names) (words : List Text)
        → IfSome (one_of f (w.rows_after c names words)) IsFlagText
    flag-texts names words =
        one_of-flag (w.rows_after c names words) (rows_after-fits names words)
