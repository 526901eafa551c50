-- The flakey target: a line that fails or corrupts while it is down (dm-flakey; the draws of random
-- features are this project's own). Intervals are in seconds, moments in microseconds.
use Rattle.std.specs.Prelude.{ℕ, ◌+◌, ◌-◌, ◌*◌, ◌/◌, ◌%◌, ◌^◌, ◌==◌, ◌&&◌, not, Bool, false, nat_le, nat_lt, List, [], ◌∷◌, ◌++◌, length, Option, Some, None, Result, Ok, Err, codes, decimal, if◌then◌else◌}
use Rattle.std.specs.Prelude.{drop, slice_get}
use Rattle.std.specs.Option.{ok_or, option_and_then, option_map, unwrap_or}
use Rattle.lab_sector.specs.declared.device.DevNo.{DevNo}
use Rattle.lab_sector.specs.declared.request.Kind.{Kind}
use Rattle.lab_sector.specs.declared.span.Span.{Span}
use Rattle.lab_text.specs.Numbers.{number_to}
use Rattle.lab_text.specs.Words.{spaced}
use Rattle.lab_target.specs.declared.fault.TargetFault.{TargetFault}
use Rattle.lab_target.specs.declared.fault.TargetFault.TheVariants.{Args, Number, Interval, Conflict}
use Rattle.lab_target.specs.declared.verdict.Mark.{Mark}
use Rattle.lab_target.specs.declared.verdict.Marks.{Marks}
use Rattle.lab_target.specs.declared.verdict.Ref.{Ref}
use Rattle.lab_target.specs.declared.verdict.Verdict.{Verdict}
use Rattle.lab_target.specs.declared.verdict.Verdict.TheVariants.{Done, Fail}
use Rattle.lab_target.specs.Laws.{greatest_sector}
use Rattle.lab_target.specs.Meaning.{Draft, Meaning, Shape}
use Rattle.lab_target.specs.Reading.{device_text}
use Rattle.lab_target.specs.Types.{no_marks, of_type, one_device, only_device, passed_to}
use Rattle.lab_flakey.specs.declared.feature.Features.{Features}
use Rattle.lab_flakey.specs.declared.line.Counts.{Counts}
use Rattle.lab_flakey.specs.Features.{result_and_then, certain, chance_of, conflicts, drops, fails, feature_words, features_of, fixed_mark, greatest_count, is_sound_features, no_features}

-- a generator of 32-bit words: what a seed makes, and the next word with the generator after it
pub record Generator (G : Type 0) : Type 0 where
  pub seeded : ℕ → G
  pub drawn : G → ℕ × G

-- a flakey line: where it goes, its intervals, its features, the moment it was loaded, and its
-- generator
pub record FlakeyLine (G : Type 0) : Type 0 where
  pub reference : Ref
  pub up : ℕ
  pub down : ℕ
  pub features : Features
  pub loaded : ℕ
  pub generator : G

-- whether a line may be up and down for so many seconds
abbrev pub is_interval : ℕ → ℕ → Bool
is_interval up down = nat_le 1 (up + down) && nat_le (up + down) greatest_count

-- whether a line's numbers are in their ranges, and its features go together
abbrev pub is_sound_flakey : {G : Type 0} → FlakeyLine G → Bool
is_sound_flakey target =
    nat_le target.reference.first greatest_sector && (is_interval target.up target.down
    && (is_sound_features target.features && not (conflicts target.features)))

-- whether a line is down: it is up first, then down, and so on from the moment it was loaded
abbrev pub is_down : {G : Type 0} → FlakeyLine G → ℕ → Bool
is_down target now =
    nat_le target.up ((now - target.loaded) / 1000000 % (target.up + target.down))

module _ {G : Type 0} (words : Generator G) where
  -- the mark that is drawn for a piece, if its kind is corrupted by chance, and the generator after
  -- it: a word below the chance, then the word of a byte of the piece, then that of what it becomes
  abbrev pub draw : Option ℕ → Span → G → Option Mark × G
  draw None piece generator = (None, generator)
  draw (Some chance) piece generator =
      let word = words.drawn generator in
      let place = words.drawn word.1 in
      let value = words.drawn place.1 in
      let mark : Mark =
      record { place = 512 * piece.first + place.0 % (512 * piece.len); value = value.0 % 256 } in
      if nat_lt (word.0 % certain) chance then (Some mark, value.1) else (None, word.1)

  -- what becomes of a piece, and the generator after it: only a piece that passes while the line is
  -- down is marked, and draws
  abbrev pub judged_at : FlakeyLine G → Kind → Span → ℕ → Verdict × G
  judged_at target kind piece now =
      let drawn = draw (chance_of target.features kind) piece target.generator in
      let marks : Marks =
      record { fixed = fixed_mark target.features.corrupt kind piece; random = drawn.0 } in
      if not (is_down target now)
      then (passed_to target.reference piece 0 no_marks, target.generator)
      else if fails target.features kind then (Fail, target.generator)
      else if drops target.features kind then (Done, target.generator)
      else (passed_to target.reference piece 0 marks, drawn.1)

  -- the line in its opening state, on other devices
  abbrev pub bound : FlakeyLine G → List DevNo → FlakeyLine G
  bound target devices = record target {
    reference = record { dev = only_device devices; first = target.reference.first };
    loaded = 0;
    generator = words.seeded target.reference.first;
  }

-- the numbers that four words say, if all are in their ranges: an offset in sectors, the seconds up
-- and down, and the number of words of the features
abbrev pub counts_said : List ℕ → List ℕ → List ℕ → List ℕ → Option Counts
counts_said offset up down told =
    option_and_then (λ first. option_and_then (λ up. option_and_then (λ down. option_map (λ count.
    record { first = first; up = up; down = down; count = count })
    (number_to greatest_count told)) (number_to greatest_count down))
    (number_to greatest_count up)) (number_to greatest_sector offset)

module _ {G : Type 0} (words : Generator G) where
  -- a line of these numbers and features, with the device that is found
  abbrev pub drafted : List ℕ → Counts → Features → Draft (FlakeyLine G)
  drafted device counts features = one_device device (λ dev. record {
    reference = record { dev = dev; first = counts.first };
    up = counts.up;
    down = counts.down;
    features = features;
    loaded = 0;
    generator = words.seeded counts.first;
  })

  -- a line of these numbers whose features are the rest of its words
  abbrev pub with_counts : List ℕ → Counts → List (List ℕ)
      → Result (Draft (FlakeyLine G)) TargetFault
  with_counts device counts rest =
      if not (is_interval counts.up counts.down) then Err Interval
      else if not (length rest == counts.count) then Err Args
      else result_and_then (λ features.
      if conflicts features then Err Conflict else Ok (drafted device counts features))
      (features_of 0 no_features rest)

  -- `DEV OFFSET UP DOWN`, and then, if there are features, their number of words and the features
  abbrev pub arguments : List (List ℕ) → Result (Draft (FlakeyLine G)) TargetFault
  arguments (device ∷ offset ∷ up ∷ down ∷ more) =
      result_and_then (λ counts. with_counts device counts (drop 1 more))
      (ok_or (counts_said offset up down (unwrap_or (slice_get more 0) (codes "0"))) Number)
  arguments _ = Err Args

-- words with their number before them, if there are any
abbrev pub counted : List (List ℕ) → List (List ℕ)
counted [] = []
counted (word ∷ words) = decimal (length (word ∷ words)) ∷ word ∷ words

-- `flakey DEV OFFSET UP DOWN`, and the number of words of the features and the features, if any
abbrev pub text : {G : Type 0} → FlakeyLine G → List ℕ
text target =
    codes "flakey" ++ spaced (device_text target.reference.dev ∷ decimal target.reference.first
    ∷ decimal target.up ∷ decimal target.down ∷ counted (feature_words target.features))

-- what no event changes of it: all but the moment it was loaded and its generator
abbrev pub shape_of : {G : Type 0} → Generator G → FlakeyLine G → Shape (FlakeyLine G)
shape_of words target = record {
  reference = λ kind. Some target.reference;
  may_hold = λ kind. false;
  block = λ place. 0;
  takes = λ message. false;
  printed = text target;
  opening = record target { loaded = 0; generator = words.seeded target.reference.first };
}

-- all pass while it is up, and as its features say while it is down; when its table is loaded, its
-- generator is seeded by the moment and the offset
abbrev pub flakey : {G : Type 0} → Generator G → Meaning (FlakeyLine G)
flakey words = record {
  parsed = λ line len. of_type (codes "flakey") (arguments words) line;
  shape = shape_of words;
  is_sound = is_sound_flakey;
  started = λ target now. record target {
    loaded = now;
    generator = words.seeded ((now + target.reference.first) % 2 ^ 64);
  };
  verdict = λ target kind piece now. (judged_at words target kind piece now).0;
  judged = λ target kind piece now.
      record target { generator = (judged_at words target kind piece now).1 };
  reply = λ target message. [];
  messaged = λ target message. target;
  status = λ target now held. if is_down target now then codes "flakey down" else codes "flakey up";
}
