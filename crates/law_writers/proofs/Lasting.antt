-- With an event that judges nothing the invariant of reads lasts. What is known of a place changes
-- only where the answered bio carries it, and what is recorded is what that bio tells.
use Rattle.lab_model.proofs.Common.{rules, ◌+◌, ◌-◌, ◌<◌, ◌≡◌, ◌≢◌, ◌≤◌, ◌∙◌, ◌⊎◌, ap, arith}
use Rattle.lab_model.proofs.Common.{false, inl, inr, length, List, Some, subst, sym, true, ℕ, Bio}
use Rattle.lab_model.proofs.Common.{bio_of, Meaning, None, None-not-Some, Option, Read, Scenario}
use Rattle.lab_model.proofs.Common.{Some-holds, State}
use Rattle.lab_model.specs.declared.parent.Parent.TheVariants.{FromBio}
use Rattle.lab_watch.specs.Grids.{Grid, writer_at}
use Rattle.law_sectors_touched.proofs.Descent.{child-descends, comes-from}
use Rattle.law_sectors_touched.proofs.KeptBios.{Kept, numbered-kept}
use Rattle.law_bytes_carried.proofs.Words.{above-of, entry-within, Fits, is_flying, IsLogs, Leaves}
use Rattle.law_bytes_carried.proofs.Words.{leaves-passage, LiesUnder, Piece}
use Rattle.law_bytes_carried.proofs.Places.{child-stands}
use Rattle.law_bytes_carried.proofs.Seats.{seat-stays}
use Rattle.law_bytes_carried.specs.Carried.{stands_for}
use Rattle.law_reads_recorded.specs.Recorded.{span_has, Records}
use Rattle.law_reads_recorded.proofs.Kept.{AllKept}
use Rattle.law_reads_recorded.proofs.Told.{has-from, has-to}
use Rattle.law_writers.specs.Wrote.{WroteBytes}
use Rattle.law_writers.proofs.Roots.{first-only}
use Rattle.law_writers.proofs.Readings.{AllTold, NoneRests, PlaceTold, Reading, reading-first}

-- a bio that is answered tells the bio of a number these bytes for a sector of its piece
pub record TellsIt {S : Type 0} (s : State S) (at : ℕ) (own : ℕ → Option (List ℕ))
    (n sector : ℕ) (bytes : List ℕ) : Type 0 where
  pub bio : Bio
  pub lives : bio_of s at ≡ Some bio
  pub piece : Piece
  pub is_parent : bio.parent ≡ FromBio n piece
  pub covers : span_has piece.span sector ≡ true
  pub says : own (bio.span.first + (sector - piece.span.first)) ≡ Some bytes

-- what an event that answers the bio of a number changes of what is known and recorded. Of another
-- place nothing is known anew. Another bio has recorded what it had, or what the answered bio
-- tells it. What that tells is what is known then, and only bios in flight read its places then
pub record Changes {S : Type 0} (c : Scenario S) (s : State S) (at : ℕ) (records after : Records)
    (reads later : Grid) : Type 0 where
  pub own : ℕ → Option (List ℕ)
  pub keeps : (first place : ℕ) → first ≢ at
      → ((i : ℕ) (bio : Bio) → Reading s first place at i bio → is_flying bio.stage ≢ false)
      → writer_at later first place ≡ writer_at reads first place
  pub says : (n sector : ℕ) (bytes : List ℕ) → n ≢ at → after n sector ≡ Some bytes
      → (records n sector ≡ Some bytes) ⊎ TellsIt s at own n sector bytes
  pub tells : (first place i : ℕ) (bio : Bio) (bytes : List ℕ) → first ≢ at
      → Reading s first place at i bio → own (bio.span.first + i) ≡ Some bytes
      → WroteBytes c (writer_at later first place) bytes
  pub goes : (first place i : ℕ) (bio : Bio) (bytes : List ℕ) → Reading s first place at i bio
      → own (bio.span.first + i) ≡ Some bytes → (n k : ℕ) (other : Bio) → n ≢ at
      → Reading s first place n k other → is_flying other.stage ≢ false

-- a log's bio that is kept was its bio
kept-logs : {S : Type 0} {s : State S} {number : ℕ} {bio : Bio} (kept : Kept s number bio)
    → IsLogs bio.parent → IsLogs kept.old.parent
kept-logs kept = subst IsLogs (ap (λ b. b.parent) kept.same)

module _ {S : Type 0} {m : Meaning S} {c : Scenario S} {s next : State S} (fits : Fits m c s)
    (next_fits : Fits m c next) {at : ℕ} (leaves : Leaves s at next) where
  -- a place that is read after the event was read before it, or is one of a bio that it has made
  abbrev pub WasRead : ℕ → ℕ → ℕ → ℕ → Bio → Type 0
  WasRead first place n i bio = ((kept : Kept s n bio) × Reading s first place n i kept.old)
      ⊎ ((length s.bios < n) × (n ≡ first))

  -- where the bio was there before
  kept-read : (first place n i : ℕ) (bio : Bio) → Reading next first place n i bio
      → (kept : Kept s n bio) → Reading s first place n i kept.old
  kept-read first place n i bio r kept =
      let comes = comes-from next_fits first n bio r.seat.lives r.seat.comes in
      let low : first ≤ length s.bios =
      omega (arith, comes.up, entry-within s.bios n kept.old kept.stood) in
      let p = leaves-passage leaves {first = first} next_fits low in
      let span : bio.span ≡ kept.old.span = ap (λ b. b.span) kept.same in
      let kind : bio.kind ≡ kept.old.kind = ap (λ b. b.kind) kept.same in
      let top = numbered-kept leaves first r.top low r.begins in
      record {
        seat = seat-stays p kept.stood r.seat span;
        reads = sym kind ∙ r.reads;
        top = top.old;
        begins = top.stood;
        is_logs = kept-logs top r.is_logs;
      }

  -- each was
  pub was-read : (first place n i : ℕ) (bio : Bio) → Reading next first place n i bio
      → WasRead first place n i bio
  was-read first place n i bio r = elim (leaves.each n bio r.seat.lives) [
    | inl kept ↦ inl (kept, kept-read first place n i bio r kept)
    | inr new ↦
        search (rules, comes-from, first-only)
  ]

  -- the bio that is answered isn't there
  pub apart-from : (first place n i : ℕ) (bio : Bio) → Reading next first place n i bio → n ≢ at
  apart-from first place n i bio r is = search rules

  -- nor is it the log's
  pub first-apart : (first place n i : ℕ) (bio : Bio) → Reading next first place n i bio
      → first ≢ at
  first-apart first place n i bio r is = search rules

  module _ {records after : Records} {reads later : Grid} (kept : AllKept s.bios records)
      (all : AllTold c s records reads) (changes : Changes c s at records after reads later)
      (first place : ℕ) where
    -- what is known before
    abbrev before : PlaceTold c s records reads first place
    before = all.each first place

    -- one carries the place at most
    only-on : (n k i l : ℕ) (a b : Bio) → Reading next first place n i a
        → is_flying a.stage ≡ false → Reading next first place k l b → is_flying b.stage ≡ false
        → n ≡ k
    only-on n k i l a b own rests other quiet = elim (was-read first place n i a own) [
      | inl was ↦ elim (was-read first place k l b other) [
        | inl had ↦ before.only n k i l was.0.old had.0.old was.1 (sym was.0.flies ∙ rests) had.1
            (sym had.0.flies ∙ quiet)
        | inr new ↦ absurd (omega (arith, new, reading-first was.1))
      ]
      | inr new ↦ elim (was-read first place k l b other) [
        | inl had ↦ absurd (omega (arith, new, reading-first had.1))
        | inr made ↦ new.1 ∙ sym made.1
      ]
    ]

    -- what carries it after the event carried it before, where a bio that was there reads it
    still-rests : (n i : ℕ) (bio : Bio) → Reading s first place n i bio
        → ((k l : ℕ) (other : Bio) → k ≢ at → Reading s first place k l other
        → is_flying other.stage ≢ false) → NoneRests next first place
    still-rests n i bio own none k l other r rests = elim (was-read first place k l other r) [
      | inl was ↦ none k l was.0.old (apart-from first place k l other r) was.1
          (sym was.0.flies ∙ rests)
      | inr new ↦ absurd (omega (arith, new, reading-first own))
    ]

    -- while one carries it nobody is known as its writer
    rests-on : (n i : ℕ) (bio : Bio) → Reading next first place n i bio
        → is_flying bio.stage ≡ false → writer_at later first place ≡ None
    rests-on n i bio r rests = elim (was-read first place n i bio r) [
      | inl was ↦ changes.keeps first place (first-apart first place n i bio r)
          (λ l other there quiet. apart-from first place n i bio r
          (before.only n at i l was.0.old other was.1
          (sym was.0.flies ∙ rests) there quiet))
          ∙ before.rests n i was.0.old was.1 (sym was.0.flies ∙ rests)
      | inr new ↦ changes.keeps first place (first-apart first place n i bio r)
          (λ l other there quiet. absurd (omega (arith, new, reading-first there)))
          ∙ all.unmade first place (omega (arith, new))
    ]

    -- the answered bio reads the place of its parent that it tells
    module _ (n i : ℕ) (old : Bio) (r : Reading s first place n i old) (bytes : List ℕ)
        (t : TellsIt s at changes.own n (old.span.first + i) bytes) where
      -- where its piece begins
      abbrev from : ℕ
      from = (old.span.first + i) - t.piece.span.first

      -- its piece lies in the bio
      under : LiesUnder t.bio.span t.piece.span old.span × (t.bio.kind ≡ Read)
      under =
          let u = (kept.each at t.bio t.lives).lies n t.piece t.is_parent in
          search (rules, Some-holds)

      -- so it reads it
      told-reads : Reading s first place at from t.bio
      told-reads =
          let comes = comes-from fits first n old r.seat.lives r.seat.comes in
          let above = above-of fits at t.bio n t.piece t.lives t.is_parent in
          let later : first < at = omega (arith, comes.up, above.earlier) in
          let low = has-from t.piece.span (old.span.first + i) t.covers in
          let high = has-to t.piece.span (old.span.first + i) t.covers in
          let lies = under.0 in
          let same : (t.piece.span.first - old.span.first) + from ≡ i =
          omega (arith, low, lies.from) in
          record {
            seat = record {
              lives = t.lives;
              comes = child-descends fits first at n t.bio old t.piece t.lives t.is_parent later
                  r.seat.lives ∙ r.seat.comes;
              within = omega (arith, low, high, lies.long);
              stands = child-stands fits first at n t.bio old t.piece t.lives t.is_parent later
                  r.seat.lives from ∙ ap (stands_for s first n) same ∙ r.seat.stands;
            };
            reads = under.1;
            top = r.top;
            begins = r.begins;
            is_logs = r.is_logs;
          }

    -- what is recorded of a bio that was there is what is known, and none carries its place
    kept-on : (n i : ℕ) (bio : Bio) (bytes : List ℕ) → Reading next first place n i bio
        → (was : Kept s n bio) → Reading s first place n i was.old
        → (records n (bio.span.first + i) ≡ Some bytes)
        ⊎ TellsIt s at changes.own n (bio.span.first + i) bytes
        → NoneRests next first place × WroteBytes c (writer_at later first place) bytes
    kept-on n i bio bytes r was old (inl had) =
        let span : bio.span ≡ was.old.span = ap (λ b. b.span) was.same in
        let had_so = ap (λ span. records n (span.first + i)) (sym span) ∙ had in
        let gone = before.gone n i was.old bytes old had_so in (
          still-rests n i was.old old (λ k l other apart there. gone k l other there),
          subst (λ w. WroteBytes c w bytes) (search (rules, first-apart, changes.keeps))
              (before.has n i was.old bytes old had_so),
        )
    kept-on n i bio bytes r was old (inr tells) =
        let span : bio.span ≡ was.old.span = ap (λ b. b.span) was.same in
        let t = subst (λ span. TellsIt s at changes.own n (span.first + i) bytes) span tells in
        let own = told-reads n i was.old old bytes t in (
          still-rests n i was.old old (changes.goes first place (from n i was.old old bytes t)
              t.bio bytes own t.says),
          changes.tells first place (from n i was.old old bytes t) t.bio bytes
              (first-apart first place n i bio r) own t.says,
        )

    -- so what is recorded of any is
    recorded-on : (n i : ℕ) (bio : Bio) (bytes : List ℕ) → Reading next first place n i bio
        → after n (bio.span.first + i) ≡ Some bytes
        → NoneRests next first place × WroteBytes c (writer_at later first place) bytes
    recorded-on n i bio bytes r is = elim (was-read first place n i bio r) [
      | inl was ↦ kept-on n i bio bytes r was.0 was.1 (search (rules, apart-from))
      | inr new ↦ elim (changes.says n (bio.span.first + i) bytes
          (apart-from first place n i bio r) is) [
            | inl had ↦ search (rules, None-not-Some)
            | inr t ↦ absurd (omega (
              arith,
              new.0,
              (above-of fits at t.bio n t.piece t.lives t.is_parent).earlier,
              entry-within s.bios at t.bio t.lives,
            ))
          ]
    ]

    -- so it is with the place
    pub place-on : PlaceTold c next after later first place
    place-on = record {
      only = only-on;
      rests = rests-on;
      gone = λ n i bio bytes r is. (recorded-on n i bio bytes r is).0;
      has = λ n i bio bytes r is. (recorded-on n i bio bytes r is).1;
    }

  -- so it is with all
  pub told-on : {records after : Records} {reads later : Grid} → AllKept s.bios records
      → AllTold c s records reads → Changes c s at records after reads later
      → AllTold c next after later
  told-on kept all changes = record {
    each = place-on kept all changes;
    unmade = λ number place far.
        let count = leaves.count in
        let numbered = leaves.numbered in
        changes.keeps number place (λ is. omega (arith, is, far, count, numbered))
        (λ i bio r. absurd (omega (arith, far, count, reading-first r)))
        ∙ all.unmade number place (omega (arith, far, count));
  }
