-- The features of a flakey line: what they do to a piece while the line is down, and their words
-- (dm-flakey; what they do alone and combined, and the random ones, are this project's own).
-- Chances are in 1,000,000,000.
use Rattle.std.specs.Prelude.{ℕ, zero, suc, ◌+◌, ◌-◌, ◌*◌, ◌==◌, ◌&&◌, ◌||◌, not, Bool, true, false, nat_le, List, [], ◌∷◌, Option, Some, None, is_some, Result, Ok, Err, codes, decimal, if◌then◌else◌}
use Rattle.std.specs.List.{find, flat_map, list_all, list_any}
use Rattle.std.specs.Option.{ok_or, option_and_then, option_map, option_map_or, unwrap_or}
use Rattle.std.specs.Str.{bytes_eq}
use Rattle.lab_sector.specs.declared.request.Kind.{Kind}
use Rattle.lab_sector.specs.declared.request.Kind.TheVariants.{Read, Write}
use Rattle.lab_sector.specs.declared.span.Span.{Span}
use Rattle.lab_text.specs.Numbers.{is_number, number_to, value_of}
use Rattle.lab_target.specs.declared.fault.TargetFault.{TargetFault}
use Rattle.lab_target.specs.declared.fault.TargetFault.TheVariants.{Args, Feature, Conflict, Value}
use Rattle.lab_target.specs.declared.verdict.Mark.{Mark}
use Rattle.lab_flakey.specs.declared.feature.Corruption.{Corruption}
use Rattle.lab_flakey.specs.declared.feature.Direction.{Direction}
use Rattle.lab_flakey.specs.declared.feature.Direction.TheVariants.{Reads, Writes}
use Rattle.lab_flakey.specs.declared.feature.FeatureName.{FeatureName}
use Rattle.lab_flakey.specs.declared.feature.FeatureName.TheVariants.{ErrorReads, DropWrites, ErrorWrites, CorruptByte, RandomRead, RandomWrite}
use Rattle.lab_flakey.specs.declared.feature.Features.{Features}

-- the greatest number of seconds of both intervals together, and of any other number of 32 bits
abbrev pub greatest_count : ℕ
greatest_count = 4294967295

-- a certain chance
abbrev pub certain : ℕ
certain = 1000000000

-- no feature
abbrev pub no_features : Features
no_features = record {
  error_reads = false;
  drop_writes = false;
  error_writes = false;
  corrupt = None;
  random_read = None;
  random_write = None;
}

-- a feature's own word
abbrev pub word_of : FeatureName → List ℕ
word_of ErrorReads = codes "error_reads"
word_of DropWrites = codes "drop_writes"
word_of ErrorWrites = codes "error_writes"
word_of CorruptByte = codes "corrupt_bio_byte"
word_of RandomRead = codes "random_read_corrupt"
word_of RandomWrite = codes "random_write_corrupt"

-- all features, in the order in which they are printed
abbrev pub feature_names : List FeatureName
feature_names = ErrorReads ∷ DropWrites ∷ ErrorWrites ∷ CorruptByte ∷ RandomRead ∷ RandomWrite ∷ []

-- the word of a direction
abbrev pub direction_word : Direction → List ℕ
direction_word Reads = codes "r"
direction_word Writes = codes "w"

-- the words of a feature's arguments, if the feature is given
abbrev pub arguments_of : Features → FeatureName → Option (List (List ℕ))
arguments_of features ErrorReads = if features.error_reads then Some [] else None
arguments_of features DropWrites = if features.drop_writes then Some [] else None
arguments_of features ErrorWrites = if features.error_writes then Some [] else None
arguments_of features CorruptByte = option_map (λ c.
    decimal c.nth ∷ direction_word c.direction ∷ decimal c.value ∷ decimal c.flags ∷ [])
    features.corrupt
arguments_of features RandomRead = option_map (λ c. decimal c ∷ []) features.random_read
arguments_of features RandomWrite = option_map (λ c. decimal c ∷ []) features.random_write

-- whether a feature is given
abbrev pub is_given : Features → FeatureName → Bool
is_given features name = is_some (arguments_of features name)

-- whether no feature is given
abbrev pub has_none : Features → Bool
has_none features = not (list_any (is_given features) feature_names)

-- whether a corruption of this direction is one of this kind
abbrev pub is_of_kind : Direction → Kind → Bool
is_of_kind Reads Read = true
is_of_kind Writes Write = true
is_of_kind _ _ = false

-- whether two features are given that don't go together
abbrev pub conflicts : Features → Bool
conflicts features =
    (features.drop_writes && features.error_writes)
    || (option_map_or (λ c. is_of_kind c.direction Write) features.corrupt false
    && (features.drop_writes || features.error_writes))

-- whether a fixed corruption's numbers are in their ranges
abbrev pub is_sound_corruption : Corruption → Bool
is_sound_corruption corruption =
    nat_le 1 corruption.nth && (nat_le corruption.nth greatest_count
    && (nat_le corruption.value 255 && nat_le corruption.flags greatest_count))

-- whether all numbers of the features are in their ranges
abbrev pub is_sound_features : Features → Bool
is_sound_features features =
    option_map_or is_sound_corruption features.corrupt true
    && (nat_le (unwrap_or features.random_read 0) certain
    && nat_le (unwrap_or features.random_write 0) certain)

-- whether a piece of this kind fails while the line is down
abbrev pub fails : Features → Kind → Bool
fails features Read = has_none features || features.error_reads
fails features _ = has_none features || features.error_writes

-- whether a piece of this kind is dropped while the line is down
abbrev pub drops : Features → Kind → Bool
drops features Read = false
drops features _ = features.drop_writes

-- the fixed mark of a piece, at a byte counted in the line: bios carry no flags, and a short piece
-- is left alone
abbrev pub fixed_mark : Option Corruption → Kind → Span → Option Mark
fixed_mark None kind piece = None
fixed_mark (Some c) kind piece =
    if is_of_kind c.direction kind && (c.flags == 0 && nat_le c.nth (512 * piece.len))
    then Some (record { place = 512 * piece.first + (c.nth - 1); value = c.value }) else None

-- the chance that a byte of this kind is corrupted
abbrev pub chance_of : Features → Kind → Option ℕ
chance_of features Read = features.random_read
chance_of features Write = features.random_write
chance_of features _ = None

-- the feature that a word names
abbrev pub name_of : List ℕ → Option FeatureName
name_of word = find (λ name. bytes_eq word (word_of name)) feature_names

-- how many words follow a feature's name
abbrev pub width : FeatureName → ℕ
width CorruptByte = 4
width RandomRead = 1
width RandomWrite = 1
width _ = 0

-- the direction that a word names
abbrev pub direction_of : List ℕ → Option Direction
direction_of word = find (λ way. bytes_eq word (direction_word way)) (Reads ∷ Writes ∷ [])

-- the corruption that the first words say: `N DIRECTION VALUE FLAGS`
abbrev pub corruption_first : List (List ℕ) → Result Corruption TargetFault
corruption_first (nth ∷ direction ∷ byte ∷ flags ∷ words) = ok_or (option_and_then (λ way.
    let said : Corruption =
    record { nth = value_of nth; direction = way; value = value_of byte; flags = value_of flags } in
    if list_all is_number (nth ∷ byte ∷ flags ∷ []) && is_sound_corruption said
    then Some said else None) (direction_of direction)) Value
corruption_first _ = Err Args

-- the chance that the first word says
abbrev pub chance_first : List (List ℕ) → Result ℕ TargetFault
chance_first [] = Err Args
chance_first (word ∷ words) = ok_or (number_to certain word) Value

-- what is made of an answer, or the answer's fault
abbrev pub result_and_then : {A B E : Type 0} → (A → Result B E) → Result A E → Result B E
result_and_then made (Ok answer) = made answer
result_and_then made (Err fault) = Err fault

-- the features with one more, whose arguments are the first of these words
abbrev pub with_feature : Features → FeatureName → List (List ℕ) → Result Features TargetFault
with_feature features ErrorReads words = Ok (record features { error_reads = true })
with_feature features DropWrites words = Ok (record features { drop_writes = true })
with_feature features ErrorWrites words = Ok (record features { error_writes = true })
with_feature features CorruptByte words =
    result_and_then (λ read. Ok (record features { corrupt = Some read })) (corruption_first words)
with_feature features RandomRead words =
    result_and_then (λ read. Ok (record features { random_read = Some read })) (chance_first words)
with_feature features RandomWrite words =
    result_and_then (λ read. Ok (record features { random_write = Some read })) (chance_first words)

-- the features of words from the left, after some words that belong to a feature before; none may
-- be given twice
abbrev pub features_of : ℕ → Features → List (List ℕ) → Result Features TargetFault
features_of before features [] = Ok features
features_of zero features (word ∷ words) =
    result_and_then (λ name. result_and_then (λ more. features_of (width name) more words)
    (if is_given features name then Err Conflict else with_feature features name words))
    (ok_or (name_of word) Feature)
features_of (suc before) features (word ∷ words) = features_of before features words

-- the words of the features that are given
abbrev pub feature_words : Features → List (List ℕ)
feature_words features = flat_map
    (λ name. option_map_or (λ words. word_of name ∷ words) (arguments_of features name) [])
    feature_names
