-- Where the living bios come from after an event: they were there before it, or it has made them.
use Rattle.lab_model.proofs.Common.{◌≡◌, ◌≢◌, ◌∙◌, ◌-◌, ◌<◌, ◌≤◌, ◌⊎◌, ℕ, Bio, In, Meaning, None}
use Rattle.lab_model.proofs.Common.{None-not-Some, Option, Some, State, Write, ap, arith, bio_of}
use Rattle.lab_model.proofs.Common.{inl, inr, length, marked, marks_in, part, refl, subst, sym}
use Rattle.lab_model.proofs.Common.{DevNo, Span}
use Rattle.lab_model.specs.LogEffect.{fill_of, written}
use Rattle.lab_model.specs.declared.entry.Entry.{Entry}
use Rattle.lab_model.specs.declared.entry.Entry.TheVariants.{Operate}
use Rattle.lab_model.specs.declared.piece.Piece.{Piece}
use Rattle.law_slots.proofs.ByLine.{made_by}
use Rattle.law_sectors_touched.proofs.Descent.{Stayed}
use Rattle.law_sectors_touched.proofs.SentBios.{child-is, child-lies, sent-flies, sent-was}
use Rattle.law_bytes_carried.proofs.Words.{Judged, Leaves, born, child_sectors, entry-within, off}
use Rattle.law_bytes_carried.proofs.Words.{sent}
use Rattle.law_writers.proofs.Leavings.{write-action}
use Rattle.law_writers.proofs.Making.{MadeBy}

-- a bio after an event that answers the bio of a number at most: another that was there, or one
-- that is made
abbrev pub Comes : {S : Type 0} → State S → ℕ → State S → ℕ → Bio → Type 0
Comes s at next n bio = ((n ≢ at) × Stayed s n bio)
    ⊎ ((length s.bios < n) × (bio.kind ≡ Write → MadeBy next n bio bio.parent))

-- where the bios are left, and none comes, each was there
pub leaves-come : {S : Type 0} {s next : State S} {at : ℕ} → Leaves s at next
    → ((n : ℕ) (bio : Bio) → bio_of next n ≡ Some bio → n ≤ length s.bios)
    → (n : ℕ) (bio : Bio) → bio_of next n ≡ Some bio → Comes s at next n bio
leaves-come {next = next} leaves old n bio lives = elim (leaves.each n bio lives) [
  | inl kept ↦ inl (
    (λ same. None-not-Some (sym leaves.without ∙ ap (bio_of next) (sym same) ∙ lives)),
    kept.stayed,
  )
  | inr new ↦ absurd (omega (arith, new.behind, old n bio lives))
]

-- a write that a log's line makes has its fill, and no byte of it is changed
pub line-made : {S : Type 0} (s : State S) (n log line : ℕ) (entry : Entry) (device : Option DevNo)
    (b : Bio) → In b (made_by log line entry device) → b.kind ≡ Write → MadeBy s n b b.parent
line-made s n log line (Operate action span) (Some device) b among = elim among [
  | inl same ↦ subst (λ b. b.kind ≡ Write → MadeBy s n b b.parent) same (λ is. (
    ap (λ a. written a (fill_of log line) span.len) (write-action action is),
    refl,
  ))
  | inr more ↦ absurd more
]
line-made s n log line (Operate action span) None b among = absurd among
line-made s n log line _ (Some device) b among = absurd among
line-made s n log line _ None b among = absurd among

module _ {S : Type 0} {m : Meaning S} {s : State S} {number : ℕ} (j : Judged m s number) where
  -- a write that is made for a piece of another writes its part of that
  child-part : (n : ℕ) (child : Bio) → length s.bios < n → In child (born j) → child.kind ≡ Write
      → MadeBy (sent j) n child child.parent
  child-part n child high among writes =
      let is = child-is j child among in
      let kind : j.bio.kind ≡ Write = sym is.kind ∙ writes in
      let piece : Piece = is.k.piece in
      let own : Span =
      record { first = piece.span.first - j.bio.span.first; len = piece.span.len } in
      subst (MadeBy (sent j) n child) (sym is.is_piece) (record {
        up = off j j.bio;
        lives = sent-flies j;
        earlier = omega (arith, high, entry-within s.bios number j.bio j.lives);
        writes = kind;
        long = (child-lies j is (λ flush. cc (flush, kind))).long;
        sectors = is.sectors
            ∙ ap (child_sectors j.bio piece (marks_in is.k.span is.given)) kind
            ∙ ap (λ marks. marked marks (part j.bio.sectors own)) (sym is.marks);
      })

  -- each bio was there, or is one that is made so
  pub sent-come : (n : ℕ) (bio : Bio) → bio_of (sent j) n ≡ Some bio → Comes s 0 (sent j) n bio
  sent-come n bio lives = elim (sent-was j n bio lives) [
    | inl stay ↦
        inl ((λ same. None-not-Some (ap (bio_of s) (sym same) ∙ stay.stood)), stay)
    | inr child ↦ inr (child.0, child-part n bio child.0 child.1)
  ]
