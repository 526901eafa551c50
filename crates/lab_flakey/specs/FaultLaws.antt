-- The words of a flakey line have no fault but their own. Names: what is read, and never.
use Rattle.std.proofs.Common.{◌≢◌, ℕ, zero, suc, Bool, true, false, List, [], ◌∷◌, length, cond, rules}
use Rattle.std.specs.Prelude.{◌==◌, not, drop, slice_get, Option, Some, None, Result, Ok, Err, codes}
use Rattle.std.specs.Option.{ok_or, unwrap_or}
use Rattle.lab_target.specs.declared.fault.TargetFault.{TargetFault}
use Rattle.lab_target.specs.declared.fault.TargetFault.TheVariants.{Args, Number, Interval, Feature, Conflict, Value, Unknown}
use Rattle.lab_target.proofs.ReadBack.{of_type-never}
use Rattle.lab_flakey.specs.declared.feature.FeatureName.{FeatureName}
use Rattle.lab_flakey.specs.declared.feature.FeatureName.TheVariants.{ErrorReads, DropWrites, ErrorWrites, CorruptByte, RandomRead, RandomWrite}
use Rattle.lab_flakey.specs.declared.feature.Features.{Features}
use Rattle.lab_flakey.specs.declared.line.Counts.{Counts}
use Rattle.lab_flakey.specs.Flakey.{Generator, arguments, counts_said, drafted, flakey, is_interval, with_counts}
use Rattle.lab_flakey.specs.ReadingLaws.{with_another}
use Rattle.lab_flakey.specs.Features.{result_and_then, chance_first, conflicts, corruption_first, features_of, is_given, name_of, no_features, width, with_feature}

module _ {A : Type 0} (answer : Result A TargetFault) (other fault : TargetFault)
    (apart : other ≢ fault) (never : answer ≢ Err fault) where
  -- where a test must not pass for an answer, the answer's faults and one more are the faults
  fails-never : (test : Bool) → cond test (Err other) answer ≢ Err fault
  fails-never true said = apart (cc)
  fails-never false said = never said

-- a value that is there has no fault but the one that stands for none
ok_or-never : {A : Type 0} (read : Option A) (other fault : TargetFault) → other ≢ fault
    → ok_or read other ≢ Err fault
ok_or-never None other fault apart said = apart (cc)
ok_or-never (Some x) other fault apart said = absurd (cc)

-- what is made of an answer has the faults of both
and_then-never : {A B : Type 0} (fault : TargetFault) (made : A → Result B TargetFault)
    (read : Result A TargetFault) → read ≢ Err fault → ((x : A) → made x ≢ Err fault)
    → result_and_then made read ≢ Err fault
and_then-never fault made (Ok x) never others said = others x said
and_then-never fault made (Err why) never others said = never (cc)

module _ (fault : TargetFault) (args : Args ≢ fault) (number : Number ≢ fault)
    (interval : Interval ≢ fault) (feature : Feature ≢ fault) (conflict : Conflict ≢ fault)
    (value : Value ≢ fault) where
  -- a corruption has no other faults
  corruption_first-never : (words : List (List ℕ)) → corruption_first words ≢ Err fault
  corruption_first-never [] said = args (cc)
  corruption_first-never (a ∷ []) said = args (cc)
  corruption_first-never (a ∷ b ∷ []) said = args (cc)
  corruption_first-never (a ∷ b ∷ c ∷ []) said = args (cc)
  corruption_first-never (a ∷ b ∷ c ∷ d ∷ words) said =
      ok_or-never _ Value fault value said

  -- nor has a chance
  chance_first-never : (words : List (List ℕ)) → chance_first words ≢ Err fault
  chance_first-never words said = search rules

  -- one more feature has no other faults
  with_feature-never : (features : Features) (name : FeatureName) (words : List (List ℕ))
      → with_feature features name words ≢ Err fault
  with_feature-never features ErrorReads words said = absurd (cc)
  with_feature-never features DropWrites words said = absurd (cc)
  with_feature-never features ErrorWrites words said = absurd (cc)
  with_feature-never features CorruptByte words said =
      and_then-never fault _ (corruption_first words) (corruption_first-never words)
      (λ c same. absurd (cc)) said
  with_feature-never features RandomRead words said =
      and_then-never fault _ (chance_first words) (chance_first-never words)
      (λ c same. absurd (cc)) said
  with_feature-never features RandomWrite words said =
      and_then-never fault _ (chance_first words) (chance_first-never words)
      (λ c same. absurd (cc)) said

  -- features have no other faults
  features_of-never : (before : ℕ) (features : Features) (words : List (List ℕ))
      → features_of before features words ≢ Err fault
  features_of-never before features [] said = absurd (cc)
  features_of-never zero features (word ∷ words) said =
      and_then-never fault
      (λ name. result_and_then (λ more. features_of (width name) more words)
      (with_another features name words))
      (ok_or (name_of word) Feature) (ok_or-never (name_of word) Feature fault feature)
      (λ name. and_then-never fault (λ more. features_of (width name) more words)
      (with_another features name words)
      (fails-never (with_feature features name words) Conflict fault conflict
      (with_feature-never features name words) (is_given features name))
      (λ more. features_of-never (width name) more words)) said
  features_of-never (suc before) features (word ∷ words) said =
      features_of-never before features words said

  module _ {G : Type 0} (source : Generator G) where
    -- a line whose numbers are read has no other faults
    with_counts-never : (device : List ℕ) (counts : Counts) (rest : List (List ℕ))
        → with_counts source device counts rest ≢ Err fault
    with_counts-never device counts rest =
        let made = λ (features : Features). cond (conflicts features) (Err Conflict)
        (Ok (drafted source device counts features)) in
        fails-never (cond (not (length rest == counts.count)) (Err Args)
        (result_and_then made (features_of 0 no_features rest))) Interval fault interval
        (fails-never (result_and_then made (features_of 0 no_features rest)) Args fault args
        (and_then-never fault made (features_of 0 no_features rest)
        (features_of-never 0 no_features rest) (λ features.
        fails-never (Ok (drafted source device counts features)) Conflict fault conflict
        (λ same. absurd (cc)) (conflicts features))) (not (length rest == counts.count)))
        (not (is_interval counts.up counts.down))

    -- the arguments have no other faults
    arguments-never : (words : List (List ℕ)) → arguments source words ≢ Err fault
    arguments-never [] said = args (cc)
    arguments-never (a ∷ []) said = args (cc)
    arguments-never (a ∷ b ∷ []) said = args (cc)
    arguments-never (a ∷ b ∷ c ∷ []) said = args (cc)
    arguments-never (a ∷ b ∷ c ∷ d ∷ more) said =
        let told = unwrap_or (slice_get more 0) (codes "0") in
        let read = counts_said b c d told in
        and_then-never fault (λ counts. with_counts source a counts (drop 1 more))
        (ok_or read Number) (ok_or-never read Number fault number)
        (λ counts. with_counts-never a counts (drop 1 more)) said

    -- a line has no other faults
    pub line-never : Unknown ≢ fault → (words : List (List ℕ)) (len : ℕ)
        → (flakey source).parsed words len ≢ Err fault
    line-never unknown words len =
        of_type-never (codes "flakey") (arguments source) fault unknown arguments-never words
