-- The events that judge nothing, by what they do to the bios: a log's line makes one at most, a
-- release and the clock none; and a bio that is answered is gone, and the one that it was made for
-- a piece of has recorded what it tells.
use Rattle.lab_model.proofs.Common.{rules, ◌++◌, ◌<◌, [], ap, arith, false, inl, inr, length, List}
use Rattle.lab_model.proofs.Common.{map, None, Option, refl, Some, subst, sym, true, ℕ, ◌∙◌, ◌≡◌}
use Rattle.lab_model.proofs.Common.{◌≢◌, ◌⊎◌, Bio, bio_of, bio_releases, DevNo, effect, Entering}
use Rattle.lab_model.proofs.Common.{In, InFlight, is_enabled, Meaning, Next}
use Rattle.lab_model.specs.declared.parent.Parent.TheVariants.{FromBio, FromLog}
use Rattle.lab_model.proofs.Common.{None-not-Some, recorded, recorded_at, Scenario, Stage}
use Rattle.lab_model.specs.declared.parent.Parent.{Parent}
use Rattle.lab_model.proofs.Common.{State, Told, told_to, without_bio}
use Rattle.lab_model.specs.declared.entry.Action.{Action}
use Rattle.lab_model.specs.declared.entry.Entry.{Entry}
use Rattle.lab_model.specs.declared.entry.Entry.TheVariants.{Operate}
use Rattle.std.proofs.Common.{append-nil}
use Rattle.law_slots.proofs.ByLine.{line-does, made_by, Takes}
use Rattle.law_answered_once.proofs.Waiting.{IsAnswered}
use Rattle.law_never_wrong.proofs.NumberedEntries.{behind-cases}
use Rattle.law_sectors_touched.proofs.Words.{Clock, entry-within, entry_at, Line, moved, Piece}
use Rattle.law_sectors_touched.proofs.Words.{Release, Then-at}
use Rattle.law_sectors_touched.proofs.Descent.{is_flying, IsLogs}
use Rattle.law_sectors_touched.proofs.KeptBios.{Edit, edit-all, edit-cases, edit-leaves, Leaves}
use Rattle.law_sectors_touched.proofs.KeptBios.{LeavesAll}

-- where only some that enter are made behind the others, all are left
makes-leaves : {S : Type 0} (s next : State S) (made : List Bio)
    → ((b : Bio) → In b made → IsLogs b.parent × (b.stage ≡ Entering))
    → next.bios ≡ s.bios ++ map Some made → LeavesAll s next
makes-leaves s next made enter bios = edit-all (record {
  numbered = omega arith;
  at = 0;
  stage = λ b. b.stage;
  flies = λ b stood. refl;
  made = made;
  enter = enter;
  bios = bios;
}) (λ b stood. absurd (None-not-Some stood))

-- a bio that a log has made enters
pub record Made (log : ℕ) (b : Bio) : Type 0 where
  pub line : ℕ
  pub action : Action
  pub from : b.parent ≡ FromLog log line action
  pub enters : b.stage ≡ Entering

-- so it is one of a log
pub made-logs : {log : ℕ} {b : Bio} → Made log b → IsLogs b.parent
made-logs made = subst IsLogs (sym made.from) tt

-- so is each that a line makes
made-by : (log line : ℕ) (entry : Entry) (device : Option DevNo) (b : Bio)
    → In b (made_by log line entry device) → Made log b
made-by log line (Operate action span) (Some device) b among = elim among [
  | inl is ↦
      subst (Made log) is (record { line = line; action = action; from = refl; enters = refl })
  | inr more ↦ absurd more
]
made-by log line (Operate action span) None b among = absurd among
made-by log line _ (Some device) b among = absurd among
made-by log line _ None b among = absurd among

module _ {S : Type 0} (m : Meaning S) (c : Scenario S) (s next : State S) where
  -- what a log's line makes
  line-made : (log : ℕ) → is_enabled c s (Line log) ≡ true → effect m c s (Line log) ≡ Next next
      → (made : List Bio) × ((b : Bio) → In b made → Made log b)
      × (next.bios ≡ s.bios ++ map Some made)
  line-made log may leads =
      let takes = Then-at (Takes c s log) _ next (line-does c s log may) leads in (
        _,
        made-by log takes.from.line.number takes.from.line.entry takes.from.line.device,
        ap (λ t. t.bios) takes.does.is,
      )

  -- it leaves all
  pub line-leaves : (log : ℕ) → is_enabled c s (Line log) ≡ true
      → effect m c s (Line log) ≡ Next next → LeavesAll s next
  line-leaves log may is = makes-leaves s next (line-made log may is).0
      (λ b a. search (rules, (line-made log may is).1 b a, made-logs)) (line-made log may is).2

  -- and what stands behind the others then is made by the log
  pub line-behind : (log : ℕ) → is_enabled c s (Line log) ≡ true
      → effect m c s (Line log) ≡ Next next → (n : ℕ) (b : Bio) → length s.bios < n
      → bio_of next n ≡ Some b → Made log b
  line-behind log may leads n b far there =
      let line = line-made log may leads in
      let stands = subst (λ bios. entry_at bios n ≡ Some b) line.2 there in
      elim (behind-cases s.bios line.0 n b stands) [
        | inl old ↦ absurd (omega (arith, entry-within s.bios n b old, far))
        | inr new ↦ line.1 b new.1
      ]

  -- so does the clock
  pub clock-leaves : is_enabled c s Clock ≡ true → effect m c s Clock ≡ Next next
      → LeavesAll s next
  clock-leaves may leads = makes-leaves s next [] (λ b among. absurd among)
      ((moved m c s Clock next may leads).bios ∙ sym (append-nil s.bios))

  -- and a release
  pub release-leaves : (at : ℕ) → is_enabled c s (Release at) ≡ true
      → effect m c s (Release at) ≡ Next next → LeavesAll s next
  release-leaves at may leads = Then-at (LeavesAll s) _ next (edit-all (record {
    numbered = omega arith;
    at = at;
    stage = λ b. Entering;
    flies = λ b stood. sym (rests b.stage (rw stood at may));
    made = [];
    enter = λ b among. absurd among;
    bios = sym (append-nil _);
  }) (λ b stood. refl)) leads
    where
      rests : (stage : Stage) → bio_releases s stage ≡ true → is_flying stage ≡ false
      rests (InFlight failed answered) may = cc
      rests _ may = refl

-- what a bio in flight records leaves it in flight, and no other goes into flight by it
pub recorded-alike : (child : Bio) (piece : Piece) (told : Told) (parent : Bio) (stage : Stage)
    → is_flying (recorded_at child piece told parent stage) ≡ is_flying stage
recorded-alike child piece told parent stage = search rules

-- a bio that has recorded what one of its pieces was told
pub record IsTold {S : Type 0} (s : State S) (bio : Bio) (told : Told) (number : ℕ) (y : Bio)
    : Type 0 where
  pub piece : Piece
  pub is_parent : bio.parent ≡ FromBio number piece
  pub old : Bio
  pub stood : bio_of s number ≡ Some old
  pub is : y ≡ recorded bio piece told old

-- it is the same but for its stage
pub told-same : {S : Type 0} {s : State S} {bio : Bio} {told : Told} {number : ℕ} {y : Bio}
    → (is : IsTold s bio told number y) → y ≡ record is.old { stage = y.stage }
told-same is = is.is ∙ ap (λ b. record is.old { stage = b.stage }) (sym is.is)

-- one that is as it was, and not above the bio that is answered, or is told
abbrev pub ToldOr : {S : Type 0} → State S → Bio → Told → ℕ → Bio → Type 0
ToldOr s bio told number y = ((bio_of s number ≡ Some y)
    × ((piece : Piece) → bio.parent ≢ FromBio number piece)) ⊎ IsTold s bio told number y

module _ {S : Type 0} {s : State S} {at : ℕ} {next : State S} (is : IsAnswered s at next) where
  -- what an answer does to the bios
  abbrev answer-edit : (parent : Parent)
      → next.bios ≡ (told_to (without_bio s at) is.bio is.told parent).bios → Edit s at next
  answer-edit (FromLog log line action) bios = record {
    numbered = entry-within s.bios at is.bio is.lives;
    at = 0;
    stage = λ b. b.stage;
    flies = λ b stood. refl;
    made = [];
    enter = λ b among. absurd among;
    bios = bios ∙ sym (append-nil _);
  }
  answer-edit (FromBio number piece) bios = record {
    numbered = entry-within s.bios at is.bio is.lives;
    at = number;
    stage = λ b. recorded_at is.bio piece is.told b b.stage;
    flies = λ b stood. recorded-alike is.bio piece is.told b b.stage;
    made = [];
    enter = λ b among. absurd among;
    bios = bios ∙ sym (append-nil _);
  }

  -- so the others are left
  pub answered-leaves : Leaves s at next
  answered-leaves = edit-leaves (answer-edit is.bio.parent is.bios)

  -- the bio is gone, and each other is as it was, or told
  pub told-each : (number : ℕ) (y : Bio) → bio_of next number ≡ Some y
      → (number ≢ at) × ToldOr s is.bio is.told number y
  told-each = by_parent is.bio.parent refl is.bios
    where
      by_parent : (parent : Parent) → is.bio.parent ≡ parent
          → next.bios ≡ (told_to (without_bio s at) is.bio is.told parent).bios → (number : ℕ)
          (y : Bio) → bio_of next number ≡ Some y
          → (number ≢ at) × ToldOr s is.bio is.told number y
      by_parent (FromLog log line action) from bios number y there =
          let was = edit-cases (answer-edit (FromLog log line action) bios) number y there in (
            was.0,
            elim was.1 [
              | inl (inl became) ↦ absurd (None-not-Some became.stood)
              | inl (inr other) ↦ inl (other.1, λ piece of. cc (from, of))
              | inr new ↦ absurd new.1
            ],
          )
      by_parent (FromBio parent piece) from bios number y there =
          let was = edit-cases (answer-edit (FromBio parent piece) bios) number y there in (
            was.0,
            elim was.1 [
              | inl (inl became) ↦ inr (record {
                piece = piece;
                is_parent = from ∙ ap (λ n. FromBio n piece) (sym became.same);
                old = became.old;
                stood = ap (bio_of s) became.same ∙ became.stood;
                is = became.is;
              })
              | inl (inr other) ↦ inl (other.1, λ own of. other.0 (cc (from, of)))
              | inr new ↦ absurd new.1
            ],
          )
