-- Where a mapped device judges a bio, all is kept. Each sector of a read reads as zeroes, has
-- failed, or goes to a child whose piece has it; so the bio in flight has recorded zero bytes for
-- the pieces that read as zeroes, and its children owe it the rest, or it has failed.
use Rattle.lab_model.proofs.Common.{rules, ◌+◌, ◌<◌, [], ap, arith, Bool, false, inl, inr, length}
use Rattle.lab_model.proofs.Common.{List, None, refl, slice_get, Some, subst, suc, sym, true, ℕ}
use Rattle.lab_model.proofs.Common.{true≢false, unwrap_or, ◌∙◌, ◌∷◌, ◌≡◌, ◌≢◌, ◌≤◌, ◌⊎◌}
use Rattle.lab_model.proofs.Common.{Bio, bio_of, fails, In, In-filter_map}
use Rattle.lab_model.specs.declared.parent.Parent.TheVariants.{FromBio}
use Rattle.lab_model.proofs.Common.{In-slice_get, Judgement, list_any, Meaning, member-place}
use Rattle.lab_model.proofs.Common.{length-replicate, None-not-Some, or_left, or_right, Read}
use Rattle.lab_model.proofs.Common.{replicate, State, Verdict}
use Rattle.lab_target.specs.declared.verdict.Verdict.TheVariants.{Done, Zeroes}
use Rattle.law_sectors_touched.proofs.Judged.{allowed}
use Rattle.law_sectors_touched.proofs.SentBios.{sent-count}
use Rattle.law_bytes_carried.proofs.Words.{born, child-is, child-lies, child-lives, entry-within}
use Rattle.law_bytes_carried.proofs.Words.{entry_at, is-judged, Judged, judged, judged-tiles, Map}
use Rattle.law_bytes_carried.proofs.Words.{judged_span, LiesUnder, off, Piece, sent}
use Rattle.law_bytes_carried.proofs.Words.{sent-cases, sent-flies, sent-on, tiles-find}
use Rattle.law_bytes_carried.proofs.Served.{replicate-place}
use Rattle.law_reads_recorded.specs.Recorded.{span_has, recording, Records, with_record, zeroes_in}
use Rattle.law_reads_recorded.proofs.Told.{has-from, has-to, in-has, own-record}
use Rattle.law_reads_recorded.proofs.Kept.{AllKept, flown-kept, Kept, kept-on, lies-on, LivesOn}
use Rattle.law_reads_recorded.proofs.Kept.{Owed, rest-kept}

-- a test that an item passes is passed by some
In-any : {X : Type 0} (test : X → Bool) (xs : List X) (x : X) → In x xs → test x ≡ true
    → list_any test xs ≡ true
In-any test [] x among is = absurd among
In-any test (y ∷ xs) x among is = search (rules, or_left, or_right, In-any test xs x)

-- a child whose piece has a sector
pub record Takes (number sector : ℕ) (born : List Bio) : Type 0 where
  pub place : ℕ
  pub child : Bio
  pub piece : Piece
  pub there : slice_get born place ≡ Some child
  pub is_piece : child.parent ≡ FromBio number piece
  pub covers : span_has piece.span sector ≡ true

-- what is recorded of pieces that are judged is zero bytes
pub zeroes-are : (judged : List Judgement) (sector : ℕ)
    → unwrap_or (zeroes_in judged sector) (replicate 512 0) ≡ replicate 512 0
zeroes-are [] sector = search rules
zeroes-are (j ∷ more) sector = search (rules, zeroes-are more sector)

-- a piece that reads as zeroes reads so at its sectors
zeroes-found : (judged : List Judgement) (k : Judgement) → In k judged → k.verdict ≡ Zeroes
    → (sector : ℕ) → span_has k.piece.span sector ≡ true
    → zeroes_in judged sector ≡ Some (replicate 512 0)
zeroes-found [] k among is sector covers = search rules
zeroes-found (j ∷ more) k among is sector covers = search (rules, zeroes-found more k)

module _ {S : Type 0} {m : Meaning S} {s : State S} {number : ℕ} (j : Judged m s number) where
  -- what becomes of a sector: it reads as zeroes, a piece has failed, or a child's piece has it
  abbrev pub Fate : ℕ → Type 0
  Fate sector = (zeroes_in (judged j) sector ≡ Some (replicate 512 0))
      ⊎ ((list_any (λ k. fails k.verdict) (judged j) ≡ true) ⊎ Takes number sector (born j))

  -- by how the piece is judged that has it
  piece-fate : (k : Judgement) → In k (judged j) → (sector : ℕ) → span_has k.piece.span sector
      ≡ true
      → (verdict : Verdict) → k.verdict ≡ verdict → verdict ≢ Done → Fate sector
  piece-fate k among sector covers verdict is gives =
      search (rules, member-place, born, In-filter_map, judged, zeroes-found, In-any)

  -- each sector of a read has its fate: no piece of it is done without an answer
  pub sector-fates : j.bio.kind ≡ Read → (sector : ℕ) → j.bio.span.first ≤ sector → sector
      < j.bio.span.first + j.bio.span.len → Fate sector
  sector-fates reads sector from to =
      let found = tiles-find judged_span j.bio.span.first (j.bio.span.first + j.bio.span.len)
      (judged j) (judged-tiles j (λ flush. cc (reads, flush))) sector from to in
      let k = found.item in
      let among = In-slice_get k (judged j) found.place found.there in
      let by = is-judged j k among in
      piece-fate k among sector (in-has k.piece.span sector found.from found.to) k.verdict refl
      (search (rules, allowed))

module _ {S : Type 0} {m : Meaning S} {s : State S} {number : ℕ} (j : Judged m s number)
    (records : Records) (all : AllKept s.bios records) where
  -- the records after the judgements
  abbrev after : Records
  after = with_record records number (zeroes_in (judged j))

  -- each lives on
  on : (n : ℕ) (y : Bio) → entry_at s.bios n ≡ Some y → LivesOn (sent j).bios n y
  on n y stood =
      let on = sent-on j n y stood in
      record { bio = on.0; lives = on.1; same = on.2; flies = on.3 }

  -- so of one behind all bios nothing is
  nothing-behind : (n : ℕ) → length s.bios < n → (sector : ℕ) → after n sector ≡ None
  nothing-behind n far sector = search (rules, entry-within)

  -- another is kept
  other-kept : (n : ℕ) (y : Bio) → n ≢ number → entry_at s.bios n ≡ Some y
      → Kept (sent j).bios after n y
  other-kept n y apart stood = search (rules, kept-on, all.each n y stood, on)

  -- a child is kept: nothing is recorded of it
  child-kept : (n : ℕ) (y : Bio) → length s.bios < n → In y (born j) → Kept (sent j).bios after n y
  child-kept n y far among =
      let of = child-is j y among in
      rest-kept of.rests (nothing-behind n far) (λ parent piece is.
      let both : FromBio number of.k.piece ≡ FromBio parent piece = sym of.is_piece ∙ is in
      let at : number ≡ parent = cc (both) in
      let same : of.k.piece ≡ piece = cc (both) in
      record {
        above = off j j.bio;
        lives = ap (bio_of (sent j)) (sym at) ∙ sent-flies j;
        flies = refl;
        kind = sym of.kind;
        within = search (rules, LiesUnder, child-lies);
      })

  -- a sector of a read that isn't zeroes is owed by a child, where no piece has failed
  rest-owed : j.bio.kind ≡ Read → list_any (λ k. fails k.verdict) (judged j) ≡ false → (sector : ℕ)
      → span_has j.bio.span sector ≡ true → after number sector ≡ None
      → Owed (sent j).bios number sector
  rest-owed reads sound sector covers none = elim (sector-fates j reads sector
      (has-from j.bio.span sector covers) (has-to j.bio.span sector covers)) [
        | inl zeroes ↦ search (rules, None-not-Some, own-record, judged)
        | inr (inl failed) ↦ absurd (true≢false (sym failed ∙ sound))
        | inr (inr takes) ↦ record {
          child = length s.bios + suc takes.place;
          bio = takes.child;
          piece = takes.piece;
          lives = search (rules, child-lives);
          is_piece = takes.is_piece;
          covers = takes.covers;
        }
      ]

  -- the bio in flight is kept
  own-kept : Kept (sent j).bios after number (off j j.bio)
  own-kept = flown-kept refl
      (search (rules, length-replicate, replicate-place, zeroes-are, judged, own-record)) rest-owed
      (lies-on (all.each number j.bio j.lives) refl (search (rules, on)))

  -- so all are kept
  sent-kept : AllKept (sent j).bios after
  sent-kept = record {
    unmade = λ n far. nothing-behind n (omega (arith, far, sent-count j));
    each = λ n y there. elim (sent-cases j n y there) [
      | inl own ↦ search (rules, Kept, sent, own-kept)
      | inr (inl old) ↦ other-kept n y old.0 old.1
      | inr (inr child) ↦ child-kept n y child.0 child.1
    ];
  }

  -- that is what the judged pieces record
  map-records : recording m s records (Map number) ≡ after
  map-records = rw (j.lives, j.on, j.stands, j.live) refl

  -- so all is kept with what a Map records
  pub map-kept : AllKept (sent j).bios (recording m s records (Map number))
  map-kept = subst (λ r. AllKept (sent j).bios r) (sym map-records) sent-kept
