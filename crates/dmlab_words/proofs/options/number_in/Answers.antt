-- The getter reads the text that the rows have, as a u64 reads it.
use Rattle.std.proofs.Common.{◌≡◌, ◌∙◌, ℕ, arith, inl, inr, false, List, Option, Some, None, Result}
use Rattle.std.proofs.Common.{ap, refl}
use Rattle.std.specs.Prelude.{unwrap_or}
use Rattle.std.specs.Option.{option_map_or}
use Rattle.std.proofs.lemmas.Bool.{cases_Bool}
use Rattle.std.specs.Str.Parse.{ParsesUnsigned, ExplainsUnsignedError, HasUnsignedDigitsIfOk}
use Rattle.std.specs.declared.num.ParseIntError.{ParseIntError}
use Rattle.clap.specs.Matches.{ReadsOne}
use Rattle.clap.specs.ValueTests.{is_unsigned_in}
use Rattle.clap.specs.Words.{Text, found_of, one_of, rows_of}
use Rattle.clap.specs.declared.builder.value_parser.ValueParser.TheVariants.{Unsigned}
use Rattle.clap.proofs.ValueTestLemmas.{Accepts-accepts, accepts-Accepts}
use Rattle.clap.proofs.WalkLemmas.{one_text-rows}
use Rattle.dmlab_words.specs.Options.{written_number}
use Rattle.dmlab_words.proofs.options.number_in.Goals as goal

-- what `u64::from_str` gives for a text
abbrev Gives : List ℕ → Result ℕ ParseIntError → Type 0
Gives text r =
    ParsesUnsigned 64 10 text r × ExplainsUnsignedError 10 text r × HasUnsignedDigitsIfOk text r

-- so a text that is read gives the number that it writes
number_read : (text : Text) (o : Option ℕ) → ReadsOne Gives text o
    → unwrap_or o 0 ≡ written_number text
number_read text (Some n) read =
    let (fits, is) = read.0 in
    rw (Accepts-accepts false (Unsigned 0 18446744073709551615) text
    (fits.0, fits.1, omega arith, omega arith)) is
number_read text None read = elim (cases_Bool (is_unsigned_in 0 18446744073709551615 text)) [
  | inl one ↦
      let accepted = accepts-Accepts false (Unsigned 0 18446744073709551615) text one in
      absurd (read.1.0 (accepted.0, accepted.1))
  | inr none ↦ rw none refl
]

-- no text gives no number, and a text its own
pub returns : goal.returns
returns c =
    let same = one_text-rows (found_of c.args.matches.now) c.args.name.now in
    rw c.unwrap_or.ensures (by_text (one_of c.args.name.now (rows_of (found_of c.args.matches.now)))
    (λ e. c.get_one.ensures.none (same ∙ e)) (λ t e. c.get_one.ensures.value t (same ∙ e)))
  where
    by_text : (text : Option Text) → (text ≡ None → c.get_one.result ≡ None)
        → ((t : Text) → text ≡ Some t → ReadsOne Gives t c.get_one.result)
        → unwrap_or c.get_one.result 0 ≡ option_map_or written_number text 0
    by_text None none value = ap (λ (o : Option ℕ). unwrap_or o 0) (none refl)
    by_text (Some t) none value = number_read t c.get_one.result (value t refl)
