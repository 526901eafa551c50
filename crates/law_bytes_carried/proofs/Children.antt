-- Where the lines of a bio's pieces pass them as they are, each piece has a child, without marks;
-- so each of the bio's sectors is in the piece of one child, and no piece fails.
use Rattle.lab_model.proofs.Common.{rules, ◌+◌, ◌<◌, [], ap, Bool, false, inr, List, refl, Some}
use Rattle.lab_model.proofs.Common.{subst, sym, true, ℕ, ◌∙◌, ◌∷◌, ◌≡◌, ◌≤◌, Bio, child_of, fails}
use Rattle.lab_model.proofs.Common.{In, Judgement, list_any, marks_in}
use Rattle.lab_model.specs.declared.parent.Parent.TheVariants.{FromBio, FromLog}
use Rattle.lab_model.proofs.Common.{no_marks, Pass, Span, State, Verdict}
use Rattle.lab_model.specs.declared.parent.Parent.{Parent}
use Rattle.law_sectors_touched.proofs.Judged.{IsJudged}
use Rattle.law_sectors_touched.proofs.LineRoutes.{lies-of, pass-sends, placed-len}
use Rattle.law_sectors_touched.proofs.Tiles.{HasSector, tiles-given}
use Rattle.law_sectors_touched.proofs.Ways.{piece-held, piece-on-way}
use Rattle.law_bytes_carried.proofs.Words.{born, child_sectors, descends, is-judged, IsChild}
use Rattle.law_bytes_carried.proofs.Words.{Judged, judged, judged-tiles, judged_span, tiles-find}
use Rattle.law_bytes_carried.specs.Plain.{IsPlain, PassesPlainly}
use Rattle.law_bytes_carried.proofs.Loads.{Going, not-flush}
use Rattle.law_bytes_carried.proofs.Seats.{Course}

-- what passes as it is doesn't fail
plain-sound : (verdict : Verdict) → IsPlain verdict → fails verdict ≡ false
plain-sound verdict plain = search rules

-- a test that none of some items passes
none-pass : {X : Type 0} (test : X → Bool) (xs : List X) → ((x : X) → In x xs → test x ≡ false)
    → list_any test xs ≡ false
none-pass test [] fails = search rules
none-pass test (x ∷ xs) fails = search (rules, none-pass test xs (λ y among. fails y (inr among)))

-- where the piece begins that a bio was made for
abbrev pub begins_at : Parent → ℕ
begins_at (FromLog log line action) = 0
begins_at (FromBio number piece) = piece.span.first

-- its sectors, if it has as many as the bio
abbrev pub own_span : Bio → Span
own_span b = record { first = begins_at b.parent; len = b.span.len }

module _ {S : Type 0} {o : Course S} {s : State S} (g : Going o s) {number : ℕ}
    (j : Judged o.m s number) (comes : descends s o.first number ≡ true) where
  -- the line of each piece of a bio of the operation passes it as it is
  judged-plain : (k : Judgement) → (by : IsJudged j k) → IsPlain k.verdict
  judged-plain k by =
      let travels = g.travel number j.bio j.lives comes in
      let sized = not-flush g j comes in
      let some = (lies-of j by.of sized).some in
      let passes : PassesPlainly o.m j.bio.kind by.of.line.target = subst
      (λ kind. PassesPlainly o.m kind by.of.line.target) (sym travels.0) (g.plain.plain j.device
      (k.piece.span.first + 0) by.of.line (piece-on-way j sized by.of o.way travels.1 0 some)
      (piece-held j sized by.of 0 some)) in
      search rules

  -- so a child has no marks
  pub child-plain : {child : Bio} → (is : IsChild j child) → is.given ≡ no_marks
  child-plain is = subst IsPlain is.passes (judged-plain is.k is.by)

  -- none that wait for the answer
  pub child-marks : {child : Bio} → IsChild j child → child.marks ≡ no_marks
  child-marks is = is.marks ∙ ap (marks_in is.k.span) (child-plain is)

  -- and none in what it writes
  pub child-writes : {child : Bio} → (is : IsChild j child)
      → child.sectors ≡ child_sectors j.bio is.k.piece no_marks j.bio.kind
  child-writes is = is.sectors
      ∙ ap (λ w. child_sectors j.bio is.k.piece (marks_in is.k.span w) j.bio.kind) (child-plain is)

  -- each piece has a child
  judged-part : (k : Judgement) (by : IsJudged j k) (verdict : Verdict) → k.verdict ≡ verdict
      → IsPlain verdict → (child : Bio)
      × (child_of s.clock j.device number j.bio k verdict ≡ Some child)
      × (own_span child ≡ judged_span k)
  judged-part k by (Pass below span hold marks) is plain =
      let long = placed-len j (pass-sends j k by below span hold marks is) (not-flush g j comes) in
      (_, refl, ap (λ n. record { first = k.piece.span.first; len = n }) long)
  judged-part k by _ is plain = absurd plain

  -- so each of its sectors is in one child's piece
  pub born-has : (q : ℕ) → j.bio.span.first ≤ q → q < j.bio.span.first + j.bio.span.len
      → HasSector own_span (born j) q
  born-has = tiles-find own_span j.bio.span.first (j.bio.span.first + j.bio.span.len) (born j)
      (tiles-given judged_span own_span (λ k. child_of s.clock j.device number j.bio k k.verdict)
      j.bio.span.first (j.bio.span.first + j.bio.span.len) (judged j) (λ k among.
      let by = is-judged j k among in
      judged-part k by k.verdict refl (judged-plain k by)) (judged-tiles j (not-flush g j comes)))

  -- and none of its pieces fails
  pub none-fails : list_any (λ k. fails k.verdict) (judged j) ≡ false
  none-fails = search (rules, none-pass, plain-sound, judged-plain, is-judged)
