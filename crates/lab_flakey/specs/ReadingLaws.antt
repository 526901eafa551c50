-- What the words of a flakey line say is sound. Names: what is read, and the fact.
use Rattle.std.proofs.Common.{◌≡◌, ℕ, zero, suc, ◌≤◌, Bool, true, false, List, [], ◌∷◌, length, refl, ap, sym, subst, ◌∙◌, cond, rules}
use Rattle.std.specs.Prelude.{◌&&◌, ◌==◌, not, codes, drop, slice_get, nat_le, Option, Some, None, Result, Ok, Err}
use Rattle.std.specs.List.{list_all}
use Rattle.std.specs.Option.{ok_or, option_and_then, option_map, option_map_or, unwrap_or}
use Rattle.std.proofs.lemmas.Bool.{le-leb}
use Rattle.lab_sector.specs.declared.device.DevNo.{DevNo}
use Rattle.lab_text.specs.Numbers.{is_number, number_to, value_of}
use Rattle.lab_target.specs.declared.fault.TargetFault.{TargetFault}
use Rattle.lab_target.specs.declared.fault.TargetFault.TheVariants.{Args, Interval, Conflict, Feature, Number, Value}
use Rattle.lab_target.specs.Laws.{greatest_sector}
use Rattle.lab_target.specs.Meaning.{Draft}
use Rattle.lab_target.proofs.Numbers.{number_of-within}
use Rattle.lab_target.proofs.PrintedWords.{both, first_of_both, second_of_both}
use Rattle.lab_target.proofs.ReadBack.{of_type-ok}
use Rattle.lab_flakey.specs.declared.feature.Corruption.{Corruption}
use Rattle.lab_flakey.specs.declared.feature.Direction.{Direction}
use Rattle.lab_flakey.specs.declared.feature.FeatureName.{FeatureName}
use Rattle.lab_flakey.specs.declared.feature.FeatureName.TheVariants.{ErrorReads, DropWrites, ErrorWrites, CorruptByte, RandomRead, RandomWrite}
use Rattle.lab_flakey.specs.declared.feature.Features.{Features}
use Rattle.lab_flakey.specs.declared.line.Counts.{Counts}
use Rattle.lab_flakey.specs.Flakey.{FlakeyLine, Generator, arguments, counts_said, drafted, flakey, is_interval, is_sound_flakey, with_counts}
use Rattle.lab_flakey.specs.Features.{result_and_then, certain, chance_first, conflicts, corruption_first, direction_of, features_of, greatest_count, is_given, is_sound_corruption, is_sound_features, name_of, no_features, width, with_feature}

-- where a test must not pass for an answer, it didn't
fails-ok : {A : Type 0} (test : Bool) (answer : Result A TargetFault) (fault : TargetFault) (x : A)
    → cond test (Err fault) answer ≡ Ok x → (test ≡ false) × (answer ≡ Ok x)
fails-ok true answer fault x said = absurd (cc)
fails-ok false answer fault x said = (refl, said)

-- where a test must pass for a value, it passed
passes-some : {A : Type 0} (test : Bool) (x y : A) → ok_or (cond test (Some x) None) Value ≡ Ok y
    → (test ≡ true) × (x ≡ y)
passes-some true x y said = (refl, cc)
passes-some false x y said = absurd (cc)

-- what was made of an answer
record IsMade {A B : Type 0} (made : A → Result B TargetFault) (read : Result A TargetFault)
    (last : B) : Type 0 where
  answer : A
  is : read ≡ Ok answer
  rest : made answer ≡ Ok last

-- where something was made of an answer, there was one
and_then-ok : {A B : Type 0} (made : A → Result B TargetFault) (read : Result A TargetFault)
    (last : B) → result_and_then made read ≡ Ok last → IsMade made read last
and_then-ok made (Ok x) last said = record { answer = x; is = refl; rest = said }
and_then-ok made (Err fault) last said = absurd (cc)

-- a corruption that is taken if it is sound is
choice-sound : (are : Bool) (made : Direction → Corruption) (way : Option Direction)
    (corruption : Corruption)
    → ok_or (option_and_then (λ d. cond (are && is_sound_corruption (made d)) (Some (made d)) None)
    way) Value
    ≡ Ok corruption → is_sound_corruption corruption ≡ true
choice-sound are made None corruption said = absurd (cc)
choice-sound are made (Some d) corruption said =
    let sound = passes-some (are && is_sound_corruption (made d)) (made d) corruption said in
    ap is_sound_corruption (sym sound.1)
    ∙ second_of_both are (is_sound_corruption (made d)) sound.0

-- a corruption of words is sound
corruption_first-sound : (words : List (List ℕ)) (corruption : Corruption)
    → corruption_first words ≡ Ok corruption → is_sound_corruption corruption ≡ true
corruption_first-sound (a ∷ b ∷ c ∷ d ∷ words) corruption said =
    choice-sound (list_all is_number (a ∷ c ∷ d ∷ []))
    (λ way. record { nth = value_of a; direction = way; value = value_of c; flags = value_of d })
    (direction_of b) corruption said
corruption_first-sound (a ∷ b ∷ c ∷ []) corruption said = absurd (cc)
corruption_first-sound (a ∷ b ∷ []) corruption said = absurd (cc)
corruption_first-sound (a ∷ []) corruption said = absurd (cc)
corruption_first-sound [] corruption said = absurd (cc)

-- a chance of words is sound
chance_first-sound : (words : List (List ℕ)) (chance : ℕ) → chance_first words ≡ Ok chance
    → nat_le chance certain ≡ true
chance_first-sound words chance said = search (rules, le-leb, number_of-within)

-- the parts of sound features
pub record SoundParts (features : Features) : Type 0 where
  pub corrupt : option_map_or is_sound_corruption features.corrupt true ≡ true
  pub reads : nat_le (unwrap_or features.random_read 0) certain ≡ true
  pub writes : nat_le (unwrap_or features.random_write 0) certain ≡ true

-- sound features have sound parts
pub parts-of-sound : (features : Features) → is_sound_features features ≡ true → SoundParts features
parts-of-sound features sound = search (rules, first_of_both, second_of_both)

-- features of sound parts are sound
sound-of-parts : (features : Features) → SoundParts features → is_sound_features features ≡ true
sound-of-parts features parts = search (rules, both)

-- the features with one that isn't given yet
abbrev pub with_another : Features → FeatureName → List (List ℕ) → Result Features TargetFault
with_another features name words =
    cond (is_given features name) (Err Conflict) (with_feature features name words)

module _ (features more : Features) (sound : is_sound_features features ≡ true) where
  -- sound features with one more are sound
  with_feature-sound : (name : FeatureName) (words : List (List ℕ))
      → with_feature features name words ≡ Ok more → is_sound_features more ≡ true
  with_feature-sound ErrorReads words said =
      let same : record features { error_reads = true } ≡ more = cc in
      ap is_sound_features (sym same) ∙ sound
  with_feature-sound DropWrites words said =
      let same : record features { drop_writes = true } ≡ more = cc in
      ap is_sound_features (sym same) ∙ sound
  with_feature-sound ErrorWrites words said =
      let same : record features { error_writes = true } ≡ more = cc in
      ap is_sound_features (sym same) ∙ sound
  with_feature-sound CorruptByte words said =
      let parts = parts-of-sound features sound in
      let read = and_then-ok _ (corruption_first words) more said in
      let same : record features { corrupt = Some read.answer } ≡ more = cc (read.rest) in
      ap is_sound_features (sym same)
      ∙ sound-of-parts (record features { corrupt = Some read.answer }) (record {
        corrupt = corruption_first-sound words read.answer read.is;
        reads = parts.reads;
        writes = parts.writes;
      })
  with_feature-sound RandomRead words said =
      let parts = parts-of-sound features sound in
      let read = and_then-ok _ (chance_first words) more said in
      let same : record features { random_read = Some read.answer } ≡ more = cc (read.rest) in
      ap is_sound_features (sym same)
      ∙ sound-of-parts (record features { random_read = Some read.answer }) (record {
        corrupt = parts.corrupt;
        reads = chance_first-sound words read.answer read.is;
        writes = parts.writes;
      })
  with_feature-sound RandomWrite words said =
      let parts = parts-of-sound features sound in
      let read = and_then-ok _ (chance_first words) more said in
      let same : record features { random_write = Some read.answer } ≡ more = cc (read.rest) in
      ap is_sound_features (sym same)
      ∙ sound-of-parts (record features { random_write = Some read.answer }) (record {
        corrupt = parts.corrupt;
        reads = parts.reads;
        writes = chance_first-sound words read.answer read.is;
      })

  -- sound features with one that wasn't given are sound
  with_another-sound : (name : FeatureName) (words : List (List ℕ))
      → with_another features name words ≡ Ok more → is_sound_features more ≡ true
  with_another-sound name words said = with_feature-sound name words
      (fails-ok (is_given features name) (with_feature features name words) Conflict more said).1

-- features that were read are sound
features_of-sound : (before : ℕ) (features : Features) (words : List (List ℕ)) (last : Features)
    → is_sound_features features ≡ true → features_of before features words ≡ Ok last
    → is_sound_features last ≡ true
features_of-sound before features [] last sound said =
    let same : features ≡ last = cc in
    ap is_sound_features (sym same) ∙ sound
features_of-sound zero features (word ∷ words) last sound said =
    let named = and_then-ok (λ name. result_and_then (λ more. features_of (width name) more words)
    (with_another features name words)) (ok_or (name_of word) Feature) last said in
    let read = and_then-ok (λ more. features_of (width named.answer) more words)
    (with_another features named.answer words) last named.rest in
    features_of-sound (width named.answer) read.answer words last
    (with_another-sound features read.answer sound named.answer words read.is) read.rest
features_of-sound (suc before) features (word ∷ words) last sound said =
    features_of-sound before features words last sound said

-- four numbers of a line
abbrev counts_of : ℕ → ℕ → ℕ → ℕ → Counts
counts_of first up down count = record { first = first; up = up; down = down; count = count }

-- an offset of numbers that were read is one that a table may name
counts-near : (offset up down told : Option ℕ)
    → ((n : ℕ) → offset ≡ Some n → n ≤ greatest_sector) → (counts : Counts)
    → ok_or (option_and_then (λ first. option_and_then (λ up. option_and_then (λ down.
    option_map (λ count. counts_of first up down count) told) down) up) offset) Number ≡ Ok counts
    → counts.first ≤ greatest_sector
counts-near (Some first) (Some up) (Some down) (Some count) near counts said =
    let same : counts_of first up down count ≡ counts = cc in
    subst (λ (n : Counts). n.first ≤ greatest_sector) same (near first refl)
counts-near (Some first) (Some up) (Some down) None near counts said = absurd (cc)
counts-near (Some first) (Some up) None count near counts said = absurd (cc)
counts-near (Some first) None down count near counts said = absurd (cc)
counts-near None up down count near counts said = absurd (cc)

-- a number that is read is in its range
number_to-within : (max : ℕ) (word : List ℕ) (n : ℕ) → number_to max word ≡ Some n → n ≤ max
number_to-within max word n said = search (rules, number_of-within)

-- what isn't false is true
not-false : (test : Bool) → not test ≡ false → test ≡ true
not-false true said = refl
not-false false said = absurd (cc)

-- numbers and features of a line that are in their ranges and go together
pub record IsGood (counts : Counts) (features : Features) : Type 0 where
  pub near : counts.first ≤ greatest_sector
  pub interval : is_interval counts.up counts.down ≡ true
  pub sound : is_sound_features features ≡ true
  pub apart : conflicts features ≡ false

module _ {G : Type 0} (source : Generator G) where
  -- a line that was read
  pub record IsRead (draft : Draft (FlakeyLine G)) : Type 0 where
    pub device : List ℕ
    pub counts : Counts
    pub features : Features
    pub good : IsGood counts features
    pub is : draft ≡ drafted source device counts features

  -- a line whose numbers were read
  with_counts-ok : (device : List ℕ) (counts : Counts) (rest : List (List ℕ))
      (draft : Draft (FlakeyLine G)) → counts.first ≤ greatest_sector
      → with_counts source device counts rest ≡ Ok draft → IsRead draft
  with_counts-ok device counts rest draft near said =
      let made = λ (features : Features). cond (conflicts features) (Err Conflict)
      (Ok (drafted source device counts features)) in
      let last = result_and_then made (features_of 0 no_features rest) in
      let timed = fails-ok (not (is_interval counts.up counts.down))
      (cond (not (length rest == counts.count)) (Err Args) last) Interval draft said in
      let full = fails-ok (not (length rest == counts.count)) last Args draft timed.1 in
      let read = and_then-ok made (features_of 0 no_features rest) draft full.1 in
      let apart = fails-ok (conflicts read.answer)
      (Ok (drafted source device counts read.answer)) Conflict draft read.rest in
      record {
        device = device;
        counts = counts;
        features = read.answer;
        good = record {
          near = near;
          interval = not-false (is_interval counts.up counts.down) timed.0;
          sound = features_of-sound 0 no_features rest read.answer refl read.is;
          apart = apart.0;
        };
        is = cc (apart.1);
      }

  -- what the arguments say when they say something
  arguments-ok : (words : List (List ℕ)) (draft : Draft (FlakeyLine G))
      → arguments source words ≡ Ok draft → IsRead draft
  arguments-ok (a ∷ b ∷ c ∷ d ∷ more) draft said =
      let told = unwrap_or (slice_get more 0) (codes "0") in
      let read = and_then-ok (λ counts. with_counts source a counts (drop 1 more))
      (ok_or (counts_said b c d told) Number) draft said in
      with_counts-ok a read.answer (drop 1 more) draft
      (counts-near (number_to greatest_sector b) (number_to greatest_count c)
      (number_to greatest_count d) (number_to greatest_count told)
      (number_to-within greatest_sector b) read.answer read.is) read.rest
  arguments-ok (a ∷ b ∷ c ∷ []) draft said = absurd (cc)
  arguments-ok (a ∷ b ∷ []) draft said = absurd (cc)
  arguments-ok (a ∷ []) draft said = absurd (cc)
  arguments-ok [] draft said = absurd (cc)

  -- what a line says when it says something
  pub line-ok : (words : List (List ℕ)) (len : ℕ) (draft : Draft (FlakeyLine G))
      → (flakey source).parsed words len ≡ Ok draft → IsRead draft
  line-ok words len draft said = search (rules, of_type-ok, arguments-ok)

  -- a line that was read is sound
  pub read-sound : (draft : Draft (FlakeyLine G)) → IsRead draft → (devices : List DevNo)
      → is_sound_flakey (draft.made devices) ≡ true
  read-sound draft read devices = rw read.is (search (rules, le-leb, both))

  -- what is read is in its opening state
  pub read-opened : (draft : Draft (FlakeyLine G)) → IsRead draft → (devices : List DevNo)
      → ((flakey source).shape (draft.made devices)).opening ≡ draft.made devices
  read-opened draft read devices = rw read.is refl
