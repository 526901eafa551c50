-- What a flakey line does with a piece is allowed and bounded. Names: what it is about, and the
-- fact.
use Rattle.std.proofs.Common.{◌≡◌, ◌≢◌, ℕ, ◌+◌, ◌*◌, ◌%◌, ◌<◌, ◌≤◌, Bool, true, false, refl, arith, cond, rules}
use Rattle.std.specs.Prelude.{◌-◌, ◌==◌, ◌&&◌, not, nat_le, Option, Some, None, IfSome}
use Rattle.std.specs.Option.{option_map_or}
use Rattle.std.proofs.lemmas.Bool.{leb-true}
use Rattle.lab_sector.specs.declared.request.Kind.{Kind}
use Rattle.lab_sector.specs.declared.request.Kind.TheVariants.{Read}
use Rattle.lab_sector.specs.declared.span.Span.{Span}
use Rattle.lab_target.specs.declared.verdict.Mark.{Mark}
use Rattle.lab_target.specs.declared.verdict.Marks.{Marks}
use Rattle.lab_target.specs.declared.verdict.Verdict.{Verdict}
use Rattle.lab_target.specs.declared.verdict.Verdict.TheVariants.{Done, Fail}
use Rattle.lab_target.specs.Types.{no_marks, passed_to}
use Rattle.lab_target.specs.Laws.{Allowed, Bounded, IsByte, IsPiece, MarksInside}
use Rattle.lab_target.proofs.PrintedWords.{first_of_both, second_of_both}
use Rattle.lab_flakey.specs.declared.feature.Corruption.{Corruption}
use Rattle.lab_flakey.specs.declared.feature.Direction.{Direction}
use Rattle.lab_flakey.specs.declared.feature.Features.{Features}
use Rattle.lab_flakey.specs.Flakey.{FlakeyLine, Generator, draw, is_down, is_sound_flakey, judged_at, shape_of}
use Rattle.lab_flakey.specs.Features.{chance_of, drops, fails, fixed_mark, is_of_kind, is_sound_corruption}

-- what holds of two verdicts holds of whichever is chosen
chosen_verdict : {G : Type 0} (P : Verdict → Type 0) (test : Bool) (first second : Verdict × G)
    → (test ≡ true → P first.0) → P second.0 → P (cond test first second).0
chosen_verdict P true first second one other = one refl
chosen_verdict P false first second one other = other

-- what holds of a mark where the test passes holds of the mark that is chosen by it
chosen_mark : (P : Mark → Type 0) (test : Bool) (mark : Mark) → (test ≡ true → P mark)
    → IfSome (cond test (Some mark) None) P
chosen_mark P true mark one = one refl
chosen_mark P false mark one = tt

-- what holds of the marks of two draws holds of that of whichever is chosen
chosen_draw : {G : Type 0} (P : Mark → Type 0) (test : Bool) (first second : Option Mark × G)
    → IfSome first.0 P → IfSome second.0 P → IfSome (cond test first second).0 P
chosen_draw P true first second one other = one
chosen_draw P false first second one other = other

-- a piece of a kind that a corruption is of has sectors
filled : (direction : Direction) (kind : Kind) (piece : Span) → IsPiece kind piece
    → is_of_kind direction kind ≡ true → 0 < piece.len
filled direction kind piece asked of = search rules

-- whether a fixed corruption changes this piece
abbrev is_marked : Corruption → Kind → Span → Bool
is_marked c kind piece =
    is_of_kind c.direction kind && (c.flags == 0 && nat_le c.nth (512 * piece.len))

-- the byte that a fixed corruption changes, counted in the line, and what it becomes
abbrev mark_at : Corruption → Span → Mark
mark_at c piece = record { place = 512 * piece.first + (c.nth - 1); value = c.value }

-- a byte that is within the piece's bytes is marked inside the piece
mark_at-inside : (corruption : Corruption) (piece : Span) → 0 < piece.len
    → corruption.nth ≤ 512 * piece.len → MarksInside piece (mark_at corruption piece)
mark_at-inside corruption piece some within = (omega arith, omega arith)

-- a fixed corruption marks inside the piece
marked-inside : (corruption : Corruption) (kind : Kind) (piece : Span) → IsPiece kind piece
    → is_marked corruption kind piece ≡ true → MarksInside piece (mark_at corruption piece)
marked-inside corruption kind piece asked marked =
    search (rules, mark_at-inside, filled, leb-true, first_of_both, second_of_both)

-- the fixed mark is inside the piece
fixed-inside : (corrupt : Option Corruption) (kind : Kind) (piece : Span) → IsPiece kind piece
    → IfSome (fixed_mark corrupt kind piece) (MarksInside piece)
fixed-inside corrupt kind piece asked = search (rules, marked-inside, chosen_mark)

-- a sound corruption's mark is a byte
fixed-byte : (corrupt : Option Corruption) (kind : Kind) (piece : Span)
    → option_map_or is_sound_corruption corrupt true ≡ true
    → IfSome (fixed_mark corrupt kind piece) IsByte
fixed-byte corrupt kind piece sound =
    search (rules, chosen_mark, leb-true, first_of_both, second_of_both)

module _ {G : Type 0} (words : Generator G) where
  -- a byte that is drawn is inside the piece
  drawn-inside : (piece : Span) (place value : ℕ) → 0 < piece.len
      → MarksInside piece
      (record { place = 512 * piece.first + place % (512 * piece.len); value = value % 256 })
  drawn-inside piece place value some = (omega arith, omega arith)

  -- a draw for a piece with sectors marks inside the piece
  draw-inside : (chance : Option ℕ) (piece : Span) (generator : G) → 0 < piece.len
      → IfSome (draw words chance piece generator).0 (MarksInside piece)
  draw-inside chance piece generator some = search (rules, chosen_draw, drawn-inside)

  -- what is drawn is a byte
  draw-byte : (chance : Option ℕ) (piece : Span) (generator : G)
      → IfSome (draw words chance piece generator).0 IsByte
  draw-byte chance piece generator = search (rules, chosen_draw)

  -- the marks of a piece that passes while the line is down
  abbrev marks_of : FlakeyLine G → Kind → Span → Marks
  marks_of target kind piece = record {
    fixed = fixed_mark target.features.corrupt kind piece;
    random = (draw words (chance_of target.features kind) piece target.generator).0;
  }

  -- the random mark is inside the piece
  random-inside : (target : FlakeyLine G) (kind : Kind) (piece : Span) → IsPiece kind piece
      → IfSome (marks_of target kind piece).random (MarksInside piece)
  random-inside target kind piece asked = search (rules, draw-inside)

  -- a piece may pass without marks
  passed-allowed : (target : FlakeyLine G) (kind : Kind) (piece : Span)
      → Allowed (shape_of words target) kind piece (passed_to target.reference piece 0 no_marks)
  passed-allowed target kind piece = search rules

  -- a piece may pass with its marks
  marked-allowed : (target : FlakeyLine G) (kind : Kind) (piece : Span) → IsPiece kind piece
      → Allowed (shape_of words target) kind piece
      (passed_to target.reference piece 0 (marks_of target kind piece))
  marked-allowed target kind piece asked = search (rules, fixed-inside, random-inside)

  -- reads aren't dropped
  drops-not-read : (features : Features) (kind : Kind) → drops features kind ≡ true → kind ≢ Read
  drops-not-read features kind dropped same = search rules

  -- what a line answers is allowed
  pub verdict-allowed : (target : FlakeyLine G) (kind : Kind) (piece : Span) (now : ℕ)
      → IsPiece kind piece
      → Allowed (shape_of words target) kind piece (judged_at words target kind piece now).0
  verdict-allowed target kind piece now asked =
      let P = λ (v : Verdict). Allowed (shape_of words target) kind piece v in
      let left = target.generator in
      let drawn = draw words (chance_of target.features kind) piece left in
      let marked : Verdict × G =
      (passed_to target.reference piece 0 (marks_of target kind piece), drawn.1) in
      let plain : Verdict × G = (passed_to target.reference piece 0 no_marks, left) in
      let kept : Verdict × G = cond (drops target.features kind) (Done, left) marked in
      chosen_verdict P (not (is_down target now)) plain
      (cond (fails target.features kind) (Fail, left) kept)
      (λ up. passed-allowed target kind piece)
      (chosen_verdict P (fails target.features kind) (Fail, left) kept (λ failed. tt)
      (chosen_verdict P (drops target.features kind) (Done, left) marked
      (drops-not-read target.features kind) (marked-allowed target kind piece asked)))

  -- a sound line's fixed corruption is sound
  sound-corruption : (target : FlakeyLine G) → is_sound_flakey target ≡ true
      → option_map_or is_sound_corruption target.features.corrupt true ≡ true
  sound-corruption target sound = search (rules, first_of_both, second_of_both)

  -- a piece that passes with its marks is bounded
  marked-bounded : (target : FlakeyLine G) → is_sound_flakey target ≡ true
      → (kind : Kind) (piece : Span)
      → Bounded (passed_to target.reference piece 0 (marks_of target kind piece))
  marked-bounded target sound kind piece = search (rules, fixed-byte, sound-corruption, draw-byte)

  -- what a sound line answers is bounded
  pub verdict-bounded : (target : FlakeyLine G) → is_sound_flakey target ≡ true
      → (kind : Kind) (piece : Span) (now : ℕ)
      → Bounded (judged_at words target kind piece now).0
  verdict-bounded target sound kind piece now =
      let left = target.generator in
      let drawn = draw words (chance_of target.features kind) piece left in
      let marked : Verdict × G =
      (passed_to target.reference piece 0 (marks_of target kind piece), drawn.1) in
      let plain : Verdict × G = (passed_to target.reference piece 0 no_marks, left) in
      let kept : Verdict × G = cond (drops target.features kind) (Done, left) marked in
      chosen_verdict Bounded (not (is_down target now)) plain
      (cond (fails target.features kind) (Fail, left) kept) (λ up. (omega arith, tt, tt))
      (chosen_verdict Bounded (fails target.features kind) (Fail, left) kept (λ failed. tt)
      (chosen_verdict Bounded (drops target.features kind) (Done, left) marked (λ dropped. tt)
      (marked-bounded target sound kind piece)))
