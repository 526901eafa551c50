-- The words and numbers of printed texts. Names: words_of, decimal or device_text, and the fact.
use Rattle.std.proofs.Common.{rules, ◌≡◌, ℕ, zero, suc, ◌+◌, ◌/◌, ◌%◌, ◌^◌, ◌<◌, ◌≤◌, Bool, true}
use Rattle.std.proofs.Common.{false, not, List, [], ◌∷◌, ◌++◌, length, refl, ap, ◌∙◌, arith, cond}
use Rattle.std.specs.Prelude.{◌&&◌, ◌==◌, nat_lt, nat_le, Ok, All, codes, decimal}
use Rattle.std.specs.List.{list_all}
use Rattle.std.specs.Char.{is_ascii_digit}
use Rattle.std.specs.Fmt.{digits, digits_onto, digit_glyph}
use Rattle.std.proofs.lemmas.Bool.{lt-ltb, le-leb}
use Rattle.std.proofs.lemmas.Bool.Decides.{nat_tests}
use Rattle.std.proofs.lemmas.Fmt.{decimal_is_IsNumeral, length-decimal-le}
use Rattle.std.proofs.lemmas.List.Folds.{list_all-append}
use Rattle.std.proofs.lemmas.List.Splits.{slice_split_none, slice_split_at}
use Rattle.lab_sector.specs.declared.device.DevNo.{DevNo}
use Rattle.lab_sector.specs.declared.device.DevNo.TheVariants.{Ram, Dm}
use Rattle.lab_text.specs.Numbers.{number_of, is_number}
use Rattle.lab_text.specs.Words.{words_of, is_blank_byte, has_byte}
use Rattle.lab_target.specs.Laws.{is_plain}
use Rattle.lab_target.specs.Reading.{device_text}

-- two tests that pass both pass
pub both : (a b : Bool) → a ≡ true → b ≡ true → (a && b) ≡ true
both a b first second = search rules

-- of two tests that both pass the first passes
pub first_of_both : (a b : Bool) → (a && b) ≡ true → a ≡ true
first_of_both a b passes = search rules

-- of two tests that both pass the second passes
pub second_of_both : (a b : Bool) → (a && b) ≡ true → b ≡ true
second_of_both a b passes = search rules

-- a byte of a word, so neither a space nor a tab
abbrev pub is_solid : ℕ → Bool
is_solid byte = not (is_blank_byte byte)

-- the bytes are one word: there are some, and no blank is among them
pub record IsWord (word : List ℕ) : Type 0 where
  pub some : has_byte word ≡ true
  pub solid : list_all is_solid word ≡ true

-- no byte of solid ones is blank
no_blank : (word : List ℕ) → list_all is_solid word ≡ true → All (λ b. is_blank_byte b ≡ false) word
no_blank [] passes = search rules
no_blank (byte ∷ word) passes =
    search (rules, no_blank word (second_of_both (is_solid byte) (list_all is_solid word) passes))

-- a word before a space is the first of the words
pub words_of-first : (word rest : List ℕ) → IsWord word → words_of (word ++ 32 ∷ rest) ≡ word ∷ words_of rest
unfolding words_of
words_of-first word rest is = search (rules, slice_split_at, no_blank)

-- a word alone is the only one
pub words_of-only : (word : List ℕ) → IsWord word → words_of word ≡ word ∷ []
unfolding words_of
words_of-only word is = search (rules, slice_split_none, no_blank)

-- what holds of two texts holds of whichever is chosen
chosen_text : (P : List ℕ → Type 0) (b : Bool) (xs ys : List ℕ) → P xs → P ys → P (cond b xs ys)
chosen_text P b xs ys first second = search rules

-- a digit's byte
glyph-passes : (p : ℕ → Bool) → ((d : ℕ) → d < 10 → p (48 + d) ≡ true) → (d : ℕ) → d < 10
    → p (digit_glyph false d) ≡ true
glyph-passes p digit d small = ap (λ b. p (cond b (48 + d) (87 + d))) (lt-ltb d 10 small) ∙ digit d small

-- digits put before bytes that pass, pass too
digits_onto-passes : (p : ℕ → Bool) → ((d : ℕ) → d < 10 → p (48 + d) ≡ true) → (k n : ℕ) (acc : List ℕ)
    → list_all p acc ≡ true → list_all p (digits_onto k 10 false n acc) ≡ true
digits_onto-passes p digit zero n acc passes = passes
digits_onto-passes p digit (suc k) n acc passes =
    let glyph = digit_glyph false (n % 10) in
    let more : list_all p (glyph ∷ acc) ≡ true =
    both (p glyph) (list_all p acc) (glyph-passes p digit (n % 10) (omega arith)) passes in
    chosen_text (λ xs. list_all p xs ≡ true) (n / 10 == 0) (glyph ∷ acc) (digits_onto k 10 false (n / 10) (glyph ∷ acc))
    more (digits_onto-passes p digit k (n / 10) (glyph ∷ acc) more)

-- what passes for each digit passes for all bytes of a printed number
pub decimal-passes : (p : ℕ → Bool) → ((d : ℕ) → d < 10 → p (48 + d) ≡ true) → (n : ℕ)
    → list_all p (decimal n) ≡ true
unfolding digits
decimal-passes p digit n = digits_onto-passes p digit 64 n [] refl

-- digits only make a text longer
digits_onto-grows : (k n : ℕ) (acc : List ℕ) → length acc ≤ length (digits_onto k 10 false n acc)
digits_onto-grows zero n acc = omega arith
digits_onto-grows (suc k) n acc =
    search (rules, digits_onto-grows k (n / 10) (digit_glyph false (n % 10) ∷ acc))

-- a digit is there at once
digits_onto-some : (k n : ℕ) (acc : List ℕ) → length acc < length (digits_onto (suc k) 10 false n acc)
digits_onto-some k n acc = search (rules, chosen_text, digits_onto-grows)

-- a printed number has a digit
decimal-some : (n : ℕ) → 0 < length (decimal n)
unfolding digits
decimal-some n = digits_onto-some 63 n []

-- a digit's byte is no blank
digit-solid : (d : ℕ) → d < 10 → is_solid (48 + d) ≡ true
digit-solid d small = grind (arith, nat_tests)

-- a digit's byte is plain
digit-plain : (d : ℕ) → d < 10 → is_plain (48 + d) ≡ true
digit-plain d small = grind (arith, nat_tests)

-- a digit's byte is a digit
digit-digit : (d : ℕ) → d < 10 → is_ascii_digit (48 + d) ≡ true
digit-digit d small = grind (arith, nat_tests)

-- a printed number is one word
pub decimal-IsWord : (n : ℕ) → IsWord (decimal n)
decimal-IsWord n = search (rules, lt-ltb, decimal-some, decimal-passes, digit-solid)

-- a printed number is plain
pub decimal-plain : (n : ℕ) → list_all is_plain (decimal n) ≡ true
decimal-plain n = decimal-passes is_plain digit-plain n

-- a printed number in its range reads back
pub number_of-decimal : (n max : ℕ) → n ≤ max → max < 2 ^ 64 → number_of (decimal n) max ≡ Ok n
unfolding number_of
number_of-decimal n max within small =
    let numeral = decimal_is_IsNumeral n (omega arith) in
    let long : is_number (decimal n) ≡ true =
    both (nat_lt 0 (length (decimal n)) && nat_le (length (decimal n)) 20) (list_all is_ascii_digit (decimal n))
    (both (nat_lt 0 (length (decimal n))) (nat_le (length (decimal n)) 20)
    (lt-ltb 0 (length (decimal n)) (decimal-some n))
    (le-leb (length (decimal n)) 20 (length-decimal-le 20 n (omega arith) (omega arith) (omega arith))))
    (decimal-passes is_ascii_digit digit-digit n) in
    search rules

-- a word that begins with a word
pub append-IsWord : (word more : List ℕ) → IsWord word → list_all is_solid more ≡ true → IsWord (word ++ more)
append-IsWord [] more is solid = absurd (cc (is.some))
append-IsWord (byte ∷ word) more is solid = record {
  some = lt-ltb 0 (length ((byte ∷ word) ++ more)) (omega arith);
  solid = list_all-append is_solid (byte ∷ word) more
      ∙ both (list_all is_solid (byte ∷ word)) (list_all is_solid more) is.solid solid;
}

-- a printed device is one word
pub device_text-IsWord : (device : DevNo) → IsWord (device_text device)
device_text-IsWord (Ram n) = append-IsWord (codes "1:") (decimal n) (record { some = refl; solid = refl }) (decimal-IsWord n).solid
device_text-IsWord (Dm n) = append-IsWord (codes "253:") (decimal n) (record { some = refl; solid = refl }) (decimal-IsWord n).solid

-- texts that are plain are plain together
pub append-plain : (first second : List ℕ) → list_all is_plain first ≡ true → list_all is_plain second ≡ true
    → list_all is_plain (first ++ second) ≡ true
append-plain first second one other = search (rules, list_all-append, both)

-- a printed device is plain
pub device_text-plain : (device : DevNo) → list_all is_plain (device_text device) ≡ true
device_text-plain device = search (rules, append-plain, decimal-plain)
