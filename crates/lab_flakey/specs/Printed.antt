-- The words of each feature as they are appended to a printed line, one feature after another.
use Rattle.std.proofs.Common.{◌≡◌, ℕ, Bool, true, false, List, [], ◌∷◌, ◌++◌, cond, refl, append-nil}
use Rattle.std.specs.Prelude.{Option, Some, None, codes, decimal, if◌then◌else◌}
use Rattle.std.specs.Option.{option_map, option_map_or}
use Rattle.lab_flakey.specs.declared.feature.Corruption.{Corruption}
use Rattle.lab_flakey.specs.declared.feature.Features.{Features}
use Rattle.lab_flakey.specs.Features.{direction_word, feature_words}

-- the word of a feature that has no arguments
abbrev pub flag_words : Bool → List ℕ → List (List ℕ)
flag_words given word = if given then word ∷ [] else []

-- `corrupt_bio_byte N DIRECTION VALUE FLAGS`
abbrev pub corruption_words : Option Corruption → List (List ℕ)
corruption_words None = []
corruption_words (Some corruption) =
    codes "corrupt_bio_byte" ∷ decimal corruption.nth ∷ direction_word corruption.direction
    ∷ decimal corruption.value ∷ decimal corruption.flags ∷ []

-- a feature's name and its chance
abbrev pub chance_words : List ℕ → Option ℕ → List (List ℕ)
chance_words name chance = option_map_or (λ c. name ∷ decimal c ∷ []) chance []

-- the words of a feature without arguments are its word, where it is given
flag_are : (given : Bool) (word : List ℕ)
    → option_map_or (λ words. word ∷ words) (cond given (Some []) None) [] ≡ flag_words given word
flag_are true word = refl
flag_are false word = refl

-- the words of a feature with arguments are its word and these, where it is given
given_are : {A : Type 0} (word : List ℕ) (words : A → List (List ℕ)) (value : Option A)
    → option_map_or (λ more. word ∷ more) (option_map words value) []
    ≡ option_map_or (λ x. word ∷ words x) value []
given_are word words None = refl
given_are word words (Some x) = refl

-- the words of a corruption are its name and its arguments, where there is one
corruption_are : (corrupt : Option Corruption)
    → option_map_or (λ c. codes "corrupt_bio_byte" ∷ decimal c.nth ∷ direction_word c.direction
    ∷ decimal c.value ∷ decimal c.flags ∷ []) corrupt [] ≡ corruption_words corrupt
corruption_are None = refl
corruption_are (Some c) = refl

-- the words of the features are those of each, one after another
pub feature_words_are : (f : Features)
    → feature_words f ≡ flag_words f.error_reads (codes "error_reads")
    ++ (flag_words f.drop_writes (codes "drop_writes")
    ++ (flag_words f.error_writes (codes "error_writes")
    ++ (corruption_words f.corrupt
    ++ (chance_words (codes "random_read_corrupt") f.random_read
    ++ chance_words (codes "random_write_corrupt") f.random_write))))
feature_words_are f = rw (
  flag_are f.error_reads (codes "error_reads"),
  flag_are f.drop_writes (codes "drop_writes"),
  flag_are f.error_writes (codes "error_writes"),
  given_are (codes "corrupt_bio_byte") _ f.corrupt,
  corruption_are f.corrupt,
  given_are (codes "random_read_corrupt") (λ c. decimal c ∷ []) f.random_read,
  given_are (codes "random_write_corrupt") (λ c. decimal c ∷ []) f.random_write,
  append-nil (chance_words (codes "random_write_corrupt") f.random_write),
) refl
