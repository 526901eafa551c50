-- Who reads a place once a table has judged a bio: that bio, another as before, or a child. A
-- child reads what its place above read, and no two children read one place.
use Rattle.lab_model.proofs.Common.{rules, ◌&&◌, ◌+◌, ◌-◌, ◌<◌, ◌≡◌, ◌≢◌, ◌∙◌, ◌∷◌, ◌⊎◌, [], ap}
use Rattle.lab_model.proofs.Common.{arith, Bool, false, inl, inr, length, List, refl, replicate}
use Rattle.lab_model.proofs.Common.{Some, subst, sym, true, ℕ, and_parts, Bio, bio_of, child_of}
use Rattle.lab_model.proofs.Common.{In, Judgement, Meaning, member-place, None-not-Some, Read}
use Rattle.lab_model.proofs.Common.{Scenario, slice_get, Some-holds, Span, State, Verdict}
use Rattle.lab_model.specs.declared.parent.Parent.{Parent}
use Rattle.lab_model.specs.declared.parent.Parent.TheVariants.{FromBio, FromLog}
use Rattle.lab_target.specs.declared.verdict.Verdict.TheVariants.{Zeroes}
use Rattle.law_sectors_touched.proofs.Descent.{Stayed}
use Rattle.law_sectors_touched.proofs.SentBios.{child-at, child-comes, sent-passage, sent-was}
use Rattle.law_bytes_carried.proofs.Words.{born, child-lies, entry-within, Fits, IsLogs, Judged}
use Rattle.law_bytes_carried.proofs.Words.{judged, judged-tiles, judged_span, LiesUnder, off}
use Rattle.law_bytes_carried.proofs.Words.{Passage, sent, sent-cases, sent-flies}
use Rattle.law_bytes_carried.proofs.Places.{child-stands, place-stays, stands-one}
use Rattle.law_bytes_carried.proofs.Seats.{Seat, seat-stays}
use Rattle.law_reads_recorded.specs.Recorded.{is_zeroes, span_has, zeroes_in}
use Rattle.law_writers.proofs.Births.{Born, born-is}
use Rattle.law_writers.proofs.Readings.{Reading}
use Rattle.law_writers.proofs.Spaced.{Covers, spaced-given, spaced-one, tiles-spaced}

-- the sectors of the piece that a bio was made for
abbrev piece_of : Parent → Span
piece_of (FromLog log line action) = record { first = 0; len = 0 }
piece_of (FromBio number piece) = piece.span

-- a child's piece is the one that was judged
child-piece : (now device number : ℕ) (bio : Bio) (k : Judgement) (verdict : Verdict) (child : Bio)
    → child_of now device number bio k verdict ≡ Some child → piece_of child.parent ≡ judged_span k
child-piece now device number bio k verdict child is = search rules

-- what reads as zeroes is judged so
zeroes-verdict : (verdict : Verdict) → is_zeroes verdict ≡ true → verdict ≡ Zeroes
zeroes-verdict verdict is = search rules

-- a judged piece that reads as zeroes at a sector, with zero bytes
pub record ZeroesAt (ks : List Judgement) (sector : ℕ) (bytes : List ℕ) : Type 0 where
  pub k : Judgement
  pub among : In k ks
  pub verdict : k.verdict ≡ Zeroes
  pub covers : span_has k.piece.span sector ≡ true
  pub zero_bytes : bytes ≡ replicate 512 0

-- where a sector reads as zeroes, a piece that has it does
pub zeroes-found : (ks : List Judgement) (sector : ℕ) (bytes : List ℕ)
    → zeroes_in ks sector ≡ Some bytes → ZeroesAt ks sector bytes
zeroes-found [] sector bytes is = absurd (None-not-Some is)
zeroes-found (k ∷ more) sector bytes is =
    by_test (is_zeroes k.verdict && span_has k.piece.span sector) refl
    (zeroes-found more sector bytes)
  where
    by_test : (test : Bool) → (is_zeroes k.verdict && span_has k.piece.span sector) ≡ test
        → (zeroes_in more sector ≡ Some bytes → ZeroesAt more sector bytes)
        → ZeroesAt (k ∷ more) sector bytes
    by_test true test rest = record {
      k = k;
      among = inl refl;
      verdict = zeroes-verdict k.verdict (and_parts _ _ test).0;
      covers = (and_parts _ _ test).1;
      zero_bytes = sym (Some-holds (rw test at is));
    }
    by_test false test rest =
        let found = rest (rw test at is) in
        record {
          k = found.k;
          among = inr found.among;
          verdict = found.verdict;
          covers = found.covers;
          zero_bytes = found.zero_bytes;
        }

module _ {S : Type 0} {m : Meaning S} {c : Scenario S} {s : State S} {number : ℕ}
    (j : Judged m s number) (fits : Fits m c (sent j)) where
  -- a place that a child reads: its place above read it
  pub record ChildReads (first place n i : ℕ) (y : Bio) : Type 0 where
    pub far : length s.bios < n
    pub lives : bio_of (sent j) n ≡ Some y
    pub is : Born j y
    pub lies : LiesUnder y.span is.k.piece.span j.bio.span
    pub within : i < y.span.len
    pub own : Reading s first place number ((is.k.piece.span.first - j.bio.span.first) + i) j.bio

  module _ {first place n i : ℕ} {y : Bio} (r : Reading (sent j) first place n i y) where
    -- the log's read was there
    top-was : Stayed s first r.top
    top-was = elim (sent-was j first r.top r.begins) [
      | inl stay ↦ stay
      | inr child ↦ absurd (subst IsLogs (born-is j r.top child.1).is_piece r.is_logs)
    ]

    -- and is on its way
    passage : Passage m c first s (sent j)
    passage = sent-passage j fits (entry-within s.bios first top-was.old top-was.stood)

    -- it is a log's as before
    is_logs-was : IsLogs top-was.old.parent
    is_logs-was = subst IsLogs (ap (λ b. b.parent) top-was.same) r.is_logs

    -- a child reads what its place above reads
    child-reads : length s.bios < n → In y (born j) → ChildReads first place n i y
    child-reads far among =
        let is = born-is j y among in
        let kind : j.bio.kind ≡ Read = sym is.kind ∙ r.reads in
        let lies = child-lies j is.part (λ flush. cc (flush, kind)) in
        let low = entry-within s.bios first top-was.old top-was.stood in
        let begin = is.k.piece.span.first - j.bio.span.first in
        record {
          far = far;
          lives = r.seat.lives;
          is = is;
          lies = lies;
          within = r.seat.within;
          own = record {
            seat = record {
              lives = j.lives;
              comes = sym (child-comes j passage n y far among r.seat.lives) ∙ r.seat.comes;
              within = omega (arith, r.seat.within, lies.from, lies.within, lies.long);
              stands = sym (child-stands fits first n number y (off j j.bio) is.k.piece
                  r.seat.lives is.is_piece (omega (arith, low, far)) (sent-flies j) i
                  ∙ place-stays passage number j.lives (sent-flies j) (begin + i)) ∙ r.seat.stands;
            };
            reads = kind;
            top = top-was.old;
            begins = top-was.stood;
            is_logs = is_logs-was;
          };
        }

    -- who reads a place: the bio itself, another as before, or a child
    abbrev pub WhoReads : Type 0
    WhoReads = ((n ≡ number) × (y ≡ off j j.bio) × Reading s first place number i j.bio)
        ⊎ (((n ≢ number) × Reading s first place n i y) ⊎ ChildReads first place n i y)

    -- each is one of these
    pub who-reads : WhoReads
    who-reads = elim (sent-cases j n y r.seat.lives) [
      | inl own ↦ inl (
        own.0,
        own.1,
        record {
          seat = seat-stays passage j.lives
              (subst (λ k. Seat (sent j) first place k i y) own.0 r.seat) (ap (λ b. b.span) own.1);
          reads = ap (λ b. b.kind) (sym own.1) ∙ r.reads;
          top = top-was.old;
          begins = top-was.stood;
          is_logs = is_logs-was;
        },
      )
      | inr (inl old) ↦ inr (inl (
        old.0,
        record {
          seat = seat-stays passage old.1 r.seat refl;
          reads = r.reads;
          top = top-was.old;
          begins = top-was.stood;
          is_logs = is_logs-was;
        },
      ))
      | inr (inr child) ↦ inr (inr (child-reads child.0 child.1))
    ]

  -- a judged piece that has a sector is one of those that follow each other
  pub judged-one : j.bio.kind ≡ Read → (k l : Judgement) → In k (judged j) → In l (judged j)
      → (sector : ℕ) → Covers k.piece.span sector → Covers l.piece.span sector → k ≡ l
  judged-one reads k l among other sector own covers =
      let at_k = member-place k (judged j) among in
      let at_l = member-place l (judged j) other in
      let same = spaced-one judged_span (judged j) j.bio.span.first (tiles-spaced judged_span
      j.bio.span.first (j.bio.span.first + j.bio.span.len) (judged j)
      (judged-tiles j (λ flush. cc (flush, reads)))) at_k.0 at_l.0 k l at_k.1 at_l.1 sector own
      covers in
      Some-holds (sym at_k.1 ∙ ap (slice_get (judged j)) same ∙ at_l.1)

  -- the place of a bio that a child reads is in the child's piece
  pub child-covers : {first place n i : ℕ} {y : Bio} (r : ChildReads first place n i y) (q : ℕ)
      → q ≡ r.is.k.piece.span.first + i → Covers r.is.k.piece.span q
  child-covers r q is = search rules

  -- two children that read a place are one
  pub child-one : {first place n k i l : ℕ} {a b : Bio} → ChildReads first place n i a
      → ChildReads first place k l b → n ≡ k
  child-one {first = first} {n = n} {k = k} {i = i} {l = l} {a = a} {b = b} r t =
      let at_a = child-at j n a r.far r.lives in
      let at_b = child-at j k b t.far t.lives in
      let same = stands-one s first number _ _ (r.own.seat.stands ∙ sym t.own.seat.stands) in
      let q = r.is.k.piece.span.first + i in
      let q_is : q ≡ t.is.k.piece.span.first + l =
      omega (arith, same, r.lies.from, t.lies.from) in
      let reads = r.own.reads in
      let one = spaced-one (λ b. piece_of b.parent) (born j) j.bio.span.first
      (spaced-given judged_span (λ b. piece_of b.parent) _
      (λ x y. child-piece s.clock j.device number j.bio x x.verdict y) (judged j) j.bio.span.first
      (tiles-spaced judged_span j.bio.span.first (j.bio.span.first + j.bio.span.len) (judged j)
      (judged-tiles j (λ flush. cc (flush, reads))))) at_a.place at_b.place a b at_a.there
      at_b.there q (subst (λ p. Covers (piece_of p) q) (sym r.is.is_piece) (child-covers r q refl))
      (subst (λ p. Covers (piece_of p) q) (sym t.is.is_piece) (child-covers t q q_is)) in
      omega (arith, at_a.is, at_b.is, one)
