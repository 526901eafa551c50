-- What a living bio has from where it comes: a log's line asks for it, or it carries its part of
-- what the bio above it writes; and its answer isn't changed.
use Rattle.lab_model.proofs.Common.{rules, Flush, ◌≢◌, ap, arith, inl, inr, length, List, refl}
use Rattle.lab_model.proofs.Common.{slice_get, Some, subst, sym, true, ℕ, ◌∙◌, ◌≡◌, ◌≤◌, Bio}
use Rattle.lab_model.proofs.Common.{bio_of, DevNo, effect, In, is_enabled, Meaning, Next, None}
use Rattle.lab_model.proofs.Common.{Option, no_marks, Sectors, Scenario, State, Write}
use Rattle.lab_model.specs.LogEffect.{fill_of, kind_of, written}
use Rattle.lab_model.specs.declared.entry.Action.{Action}
use Rattle.lab_model.specs.declared.entry.Entry.{Entry}
use Rattle.lab_model.specs.declared.entry.Entry.TheVariants.{Operate}
use Rattle.lab_model.specs.declared.parent.Parent.{Parent}
use Rattle.lab_model.specs.declared.parent.Parent.TheVariants.{FromBio, FromLog}
use Rattle.law_slots.proofs.ByLine.{Comes, line-does, made_by, Takes, Then-at}
use Rattle.law_never_wrong.proofs.NumberedEntries.{behind-cases}
use Rattle.law_sectors_touched.proofs.Descent.{Stayed}
use Rattle.law_bytes_carried.proofs.Words.{LiesUnder, above-of, entry-within, entry_at, Leaves}
use Rattle.law_bytes_carried.proofs.Words.{leaves-passage, Fits, Line, Passage, Piece}
use Rattle.law_writers.specs.Wrote.{Asks}

-- each of some sectors is one of others
abbrev pub AreAmong : Sectors → Sectors → Type 0
AreAmong own all = (i : ℕ) (bytes : List ℕ) → slice_get own i ≡ Some bytes
    → (k : ℕ) × (slice_get all k ≡ Some bytes)

-- a bio of a log: a line asks for it, of its kind, and a write fills all its sectors
pub record OfLine {S : Type 0} (c : Scenario S) (bio : Bio) (log line : ℕ) (action : Action)
    : Type 0 where
  pub asks : Asks c (record { log = log; line = line }) action
  pub kind : bio.kind ≡ kind_of action
  pub span : bio.span ≡ asks.span
  pub sectors : bio.sectors ≡ written action (fill_of log line) bio.span.len

-- what a bio has from a log that has made it
abbrev pub Made : {S : Type 0} → Scenario S → Bio → Parent → Type 0
Made c bio (FromLog log line action) = OfLine c bio log line action
Made c bio (FromBio parent piece) = Unit {0}

-- it has it on where only its stage changes
made-stays : {S : Type 0} (c : Scenario S) (old bio : Bio) → bio ≡ record old { stage = bio.stage }
    → (parent : Parent) → Made c old parent → Made c bio parent
made-stays c old bio same (FromLog log line action) of = record {
  asks = of.asks;
  kind = ap (λ b. b.kind) same ∙ of.kind;
  span = ap (λ b. b.span) same ∙ of.span;
  sectors = search rules;
}
made-stays c old bio same (FromBio parent piece) of = tt

-- a living bio: its answer isn't changed; a line asks for a log's, and a piece's lies in the bio
-- above it, and writes sectors of what that writes
pub record Sound {S : Type 0} (c : Scenario S) (s : State S) (bio : Bio) : Type 0 where
  pub marks : bio.marks ≡ no_marks
  pub line : Made c bio bio.parent
  pub part : bio.kind ≡ Write → (parent : ℕ) (piece : Piece) (above : Bio)
      → bio.parent ≡ FromBio parent piece → bio_of s parent ≡ Some above
      → AreAmong bio.sectors above.sectors
  pub lies : bio.kind ≢ Flush → (parent : ℕ) (piece : Piece) (above : Bio)
      → bio.parent ≡ FromBio parent piece → bio_of s parent ≡ Some above
      → LiesUnder bio.span piece.span above.span

-- all are
abbrev pub AllSound : {S : Type 0} → Scenario S → State S → Type 0
AllSound c s = (number : ℕ) (bio : Bio) → bio_of s number ≡ Some bio → Sound c s bio

module _ {S : Type 0} {m : Meaning S} {c : Scenario S} {first : ℕ} {s next : State S}
    (p : Passage m c first s next) (all : AllSound c s) where
  -- the bio above one that stayed has stayed, too
  high-stayed : (number : ℕ) (bio : Bio) → Stayed s number bio → bio_of next number ≡ Some bio
      → (parent : ℕ) (piece : Piece) → bio.parent ≡ FromBio parent piece → (above : Bio)
      → bio_of next parent ≡ Some above → Stayed s parent above
  high-stayed number bio stay lives parent piece is above there =
      let from = above-of p.fits number bio parent piece lives is in
      search (rules, entry-within)

  -- a bio that stayed is as sound
  pub sound-stays : (number : ℕ) (bio : Bio) → Stayed s number bio → bio_of next number ≡ Some bio
      → Sound c next bio
  sound-stays number bio stay lives =
      let old = all number stay.old stay.stood in
      let parents : bio.parent ≡ stay.old.parent = ap (λ b. b.parent) stay.same in
      let kinds : bio.kind ≡ stay.old.kind = ap (λ b. b.kind) stay.same in
      record {
        marks = ap (λ b. b.marks) stay.same ∙ old.marks;
        line = search (rules, made-stays);
        part = λ writes parent piece above is there i bytes at.
            let high = high-stayed number bio stay lives parent piece is above there in
            let was = old.part (sym kinds ∙ writes) parent piece high.old (sym parents ∙ is)
            high.stood i bytes
            (ap (λ b. slice_get b.sectors i) (sym stay.same) ∙ at) in
            (was.0, ap (λ b. slice_get b.sectors was.0) high.same ∙ was.1);
        lies = λ sized parent piece above is there.
            let high = high-stayed number bio stay lives parent piece is above there in
            search rules;
      }

-- what a line makes is sound
made-sound : {S : Type 0} (c : Scenario S) (s next : State S) (log : ℕ) (from : Comes c s log)
    (entry : Entry) → from.line.entry ≡ entry → (device : Option DevNo) (b : Bio)
    → In b (made_by log from.line.number entry device) → Sound c next b
made-sound c s next log from (Operate action span) is (Some device) b among = elim among [
  | inl same ↦ subst (Sound c next) same (record {
    marks = refl;
    line = record {
      asks = search rules;
      kind = refl;
      span = refl;
      sectors = refl;
    };
    part = λ writes parent piece above of. cc (of);
    lies = λ sized parent piece above of. cc (of);
  })
  | inr more ↦ absurd more
]
made-sound c s next log from (Operate action span) is None b among = absurd among
made-sound c s next log from _ is (Some device) b among = absurd among
made-sound c s next log from _ is None b among = absurd among

module _ {S : Type 0} (m : Meaning S) (c : Scenario S) (s next : State S) (fits : Fits m c next)
    (all : AllSound c s) where
  -- where no log makes a bio, all stay sound
  pub left-sound : {at : ℕ} → Leaves s at next
      → ((number : ℕ) (bio : Bio) → bio_of next number ≡ Some bio → number ≤ length s.bios)
      → AllSound c next
  left-sound leaves old number bio lives =
      let p = leaves-passage leaves {first = 0} fits (omega arith) in
      sound-stays p all number bio (p.stayed number bio (old number bio lives) lives) lives

  -- with a log's line all are
  pub line-sound : (log : ℕ) → is_enabled c s (Line log) ≡ true
      → effect m c s (Line log) ≡ Next next → Leaves s 0 next → AllSound c next
  line-sound log may leads leaves number bio lives =
      let p = leaves-passage leaves {first = 0} fits (omega arith) in
      let takes = Then-at (Takes c s log) _ next (line-does c s log may) leads in
      let stands = ap (λ t. entry_at t.bios number) (sym takes.does.is) ∙ lives in
      elim (behind-cases s.bios (made_by log takes.from.line.number takes.from.line.entry
      takes.from.line.device) number bio stands) [
        | inl old ↦ search (rules, sound-stays)
        | inr new ↦ made-sound c s next log takes.from takes.from.line.entry refl
            takes.from.line.device bio new.1
      ]
