-- Where a table judges a bio, the invariant of reads is kept: a piece that reads as zeroes has
-- nobody as its writer, and no child reads it.
use Rattle.lab_model.proofs.Common.{rules, ◌+◌, ◌≡◌, ◌≢◌, ◌∙◌, ap, arith, false, inl, inr, List}
use Rattle.lab_model.proofs.Common.{Some, subst, sym, true≢false, ℕ, Bio, Meaning, None}
use Rattle.lab_model.proofs.Common.{None-not-Some, Scenario, State}
use Rattle.lab_watch.specs.Grids.{Grid, writer_at}
use Rattle.law_sectors_touched.proofs.SentBios.{sent-count}
use Rattle.law_bytes_carried.proofs.Words.{entry-within, Fits, is_flying, Judged, judged, sent}
use Rattle.law_bytes_carried.proofs.Places.{stands-one}
use Rattle.law_reads_recorded.specs.Recorded.{Records, with_record, zeroes_in}
use Rattle.law_reads_recorded.proofs.Kept.{AllKept}
use Rattle.law_reads_recorded.proofs.Told.{has-from, has-to, other-record, own-record}
use Rattle.law_writers.specs.Wrote.{WroteBytes}
use Rattle.law_writers.proofs.Readings.{AllTold, NoneRests, PlaceTold, Reading}
use Rattle.law_writers.proofs.Readers.{child-covers, child-one, judged-one, who-reads, WhoReads}
use Rattle.law_writers.proofs.Readers.{zeroes-found, ZeroesAt}

module _ {S : Type 0} {m : Meaning S} {c : Scenario S} {s : State S} {number : ℕ}
    (j : Judged m s number) (fits : Fits m c (sent j)) where
  module _ {records : Records} {reads : Grid} (kept : AllKept s.bios records)
      (all : AllTold c s records reads) (first place : ℕ) where
    -- what is known before
    abbrev before : PlaceTold c s records reads first place
    before = all.each first place

    -- what is recorded after it
    abbrev after : Records
    after = with_record records number (zeroes_in (judged j))

    -- the bio isn't in flight before
    rested : is_flying j.bio.stage ≡ false
    rested = ap is_flying j.enters

    -- one carries the place at most
    judged-only : (n k i l : ℕ) (a b : Bio) → Reading (sent j) first place n i a
        → is_flying a.stage ≡ false → Reading (sent j) first place k l b
        → is_flying b.stage ≡ false → n ≡ k
    judged-only n k i l a b own rests other quiet =
        by_cases (who-reads j fits own) (who-reads j fits other)
      where
        by_cases : WhoReads j fits own → WhoReads j fits other → n ≡ k
        by_cases (inl it) _ = absurd (search rules)
        by_cases (inr x) (inl it) = absurd (search rules)
        by_cases (inr (inl x)) (inr (inl y)) = before.only n k i l a b x.1 rests y.1 quiet
        by_cases (inr (inl x)) (inr (inr y)) =
            absurd (x.0 (before.only n number i _ a j.bio x.1 rests y.own rested))
        by_cases (inr (inr x)) (inr (inl y)) =
            absurd (y.0 (before.only k number l _ b j.bio y.1 quiet x.own rested))
        by_cases (inr (inr x)) (inr (inr y)) = child-one j fits x y

    -- while one carries it nobody is known as its writer
    judged-rests : (n i : ℕ) (bio : Bio) → Reading (sent j) first place n i bio
        → is_flying bio.stage ≡ false → writer_at reads first place ≡ None
    judged-rests n i bio r rests = by_case (who-reads j fits r)
      where
        by_case : WhoReads j fits r → writer_at reads first place ≡ None
        by_case (inl it) = absurd (true≢false (sym (ap (λ b. is_flying b.stage) it.1) ∙ rests))
        by_case (inr (inl old)) = before.rests n i bio old.1 rests
        by_case (inr (inr child)) = before.rests number _ j.bio child.own rested

    -- where nothing carries a place but what is in flight, no child reads it
    none-judged : NoneRests s first place → NoneRests (sent j) first place
    none-judged none n i bio r rests = by_case (who-reads j fits r)
      where
        by_case : WhoReads j fits r → ⊥
        by_case (inl it) = true≢false (sym (ap (λ b. is_flying b.stage) it.1) ∙ rests)
        by_case (inr (inl old)) = none n i bio old.1 rests
        by_case (inr (inr child)) = none number _ j.bio child.own rested

    -- nor where its piece reads as zeroes
    none-zeroes : (i : ℕ) (bytes : List ℕ) → Reading s first place number i j.bio
        → ZeroesAt (judged j) (j.bio.span.first + i) bytes → NoneRests (sent j) first place
    none-zeroes i bytes own zeroes n l y r rests = by_case (who-reads j fits r)
      where
        by_case : WhoReads j fits r → ⊥
        by_case (inl it) = true≢false (sym (ap (λ b. is_flying b.stage) it.1) ∙ rests)
        by_case (inr (inl old)) = old.0 (before.only n number l i y j.bio old.1 rests own rested)
        by_case (inr (inr child)) =
            let same = stands-one s first number _ _
            (child.own.seat.stands ∙ sym own.seat.stands) in
            let q = j.bio.span.first + i in
            let q_is : q ≡ child.is.k.piece.span.first + l =
            omega (arith, same, child.lies.from) in
            let one = judged-one j fits own.reads zeroes.k child.is.k zeroes.among child.is.among q
            (search (rules, has-from, has-to)) (child-covers j fits child q q_is) in
            cc (zeroes.verdict, child.is.passes, ap (λ k. k.verdict) one)

    -- what is recorded is what is known, and none carries its place
    judged-recorded : (n i : ℕ) (bio : Bio) (bytes : List ℕ) → Reading (sent j) first place n i bio
        → after n (bio.span.first + i) ≡ Some bytes
        → NoneRests (sent j) first place × WroteBytes c (writer_at reads first place) bytes
    judged-recorded n i bio bytes r is = by_case (who-reads j fits r)
      where
        by_case : WhoReads j fits r
            → NoneRests (sent j) first place × WroteBytes c (writer_at reads first place) bytes
        by_case (inl it) =
            let sector : bio.span.first + i ≡ j.bio.span.first + i =
            ap (λ b. b.span.first + i) it.1 in
            let zeroes = zeroes-found (judged j) (j.bio.span.first + i) bytes
            (search (rules, own-record)) in (
              none-zeroes i bytes it.2 zeroes,
              subst (λ w. WroteBytes c w bytes) (sym (before.rests number i j.bio it.2 rested))
                  zeroes.zero_bytes,
            )
        by_case (inr (inl old)) =
            let had = sym (search (rules, other-record)) ∙ is in (
              none-judged (before.gone n i bio bytes old.1 had),
              before.has n i bio bytes old.1 had,
            )
        by_case (inr (inr child)) =
            let apart : n ≢ number = λ same. absurd (search (rules, entry-within)) in
            absurd (search (rules, None-not-Some, other-record))

    -- so it is with the place
    judged-place : PlaceTold c (sent j) after reads first place
    judged-place = record {
      only = judged-only;
      rests = judged-rests;
      gone = λ n i bio bytes r is. (judged-recorded n i bio bytes r is).0;
      has = λ n i bio bytes r is. (judged-recorded n i bio bytes r is).1;
    }

  -- and with all
  pub judged-told : {records : Records} {reads : Grid} → AllKept s.bios records
      → AllTold c s records reads
      → AllTold c (sent j) (with_record records number (zeroes_in (judged j))) reads
  judged-told kept all = search (rules, judged-place, sent-count)
