-- The children of a bio that a table judges, where no byte is changed on the way: each carries its
-- part of what the bio writes, and its answer isn't changed.
use Rattle.lab_model.proofs.Common.{rules, ◌+◌, ◌-◌, ◌<◌, ap, arith, inl, inr, List, refl, subst}
use Rattle.lab_model.proofs.Common.{sym, ℕ, ◌∙◌, ◌≡◌, AllByRecursion, Bio, bio_of, child_sectors}
use Rattle.lab_model.proofs.Common.{In, Judgement, length-take, marks_in, Meaning}
use Rattle.lab_model.proofs.Common.{no_marks, part, recursion_from_All, Scenario, Sectors}
use Rattle.lab_model.proofs.Common.{slice_get_within, Some-holds, Span, State, Write, [], ◌∷◌}
use Rattle.lab_model.specs.declared.parent.Parent.TheVariants.{FromBio}
use Rattle.law_never_wrong.proofs.ChildFits.{children-passed}
use Rattle.law_sectors_touched.proofs.SentBios.{IsChild, sent-passage, sent-was}
use Rattle.law_bytes_carried.proofs.Words.{child-lies, born, Fits, is-judged, Judged, judged, Map}
use Rattle.law_bytes_carried.proofs.Words.{off, sent, sent-flies}
use Rattle.law_bytes_carried.proofs.Served.{part-place}
use Rattle.law_writers.specs.Unmarked.{ChangesNone, EventPlain}
use Rattle.law_writers.proofs.Sources.{AllSound, AreAmong, Made, Sound, sound-stays}

-- what holds of each item of a list holds of one that is among them
All-among : {X : Type 0} (P : X → Type 0) (xs : List X) → AllByRecursion P xs → (x : X)
    → In x xs → P x
All-among P [] all x among = absurd among
All-among P (y ∷ ys) all x (inl is) = subst P is all.0
All-among P (y ∷ ys) all x (inr more) = All-among P ys all.1 x more

-- each sector of a part is one of the whole
part-among : (sectors : Sectors) (span : Span) → AreAmong (part sectors span) sectors
part-among sectors span i bytes at =
    let less : i < span.len = search (rules, slice_get_within, length-take) in
    (span.first + i, sym (part-place sectors span i less) ∙ at)

module _ {S : Type 0} {m : Meaning S} {s : State S} {number : ℕ} (j : Judged m s number) where
  -- a child of the bio: it was made for a judged piece that passes
  pub record Born (child : Bio) : Type 0 where
    pub part : IsChild j child
    pub open part use *
    pub among : In part.k (judged j)

  -- each is
  pub born-is : (child : Bio) → In child (born j) → Born child
  born-is = children-passed Born s.clock j.device number j.bio (judged j)
      (λ k below span hold given among is. record {
        part = record {
          k = k;
          by = is-judged j k among;
          hold = hold;
          given = given;
          passes = is;
          is_piece = refl;
          kind = refl;
          rests = search rules;
          marks = refl;
          sectors = refl;
        };
        among = among;
      })

  -- where no verdict changes a byte
  module _ (plain : EventPlain m s (Map number)) where
    -- none on its pieces does
    each-plain : (k : Judgement) → In k (judged j) → ChangesNone k.verdict
    each-plain = All-among (λ k. ChangesNone k.verdict) (judged j) (recursion_from_All
        (λ k. ChangesNone k.verdict) (judged j)
        (rw (j.on, j.stands, j.live) at (rw j.lives at plain)))

    -- so nothing is given to a child
    given-none : {child : Bio} → (is : Born child) → is.given ≡ no_marks
    given-none is = subst ChangesNone is.passes (each-plain is.k is.among)

    -- its answer isn't changed
    born-marks : {child : Bio} → Born child → child.marks ≡ no_marks
    born-marks is = is.marks
        ∙ ap (marks_in is.k.span) (given-none is)

    -- and it writes its part
    born-writes : {child : Bio} → (is : Born child) → j.bio.kind ≡ Write
        → AreAmong child.sectors j.bio.sectors
    born-writes {child} is writes =
        let same : child.sectors ≡ part j.bio.sectors
        (record { first = is.k.piece.span.first - j.bio.span.first; len = is.k.piece.span.len }) =
        is.sectors
        ∙ ap (λ given. child_sectors j.bio is.k.piece (marks_in is.k.span given) j.bio.kind)
        (given-none is)
        ∙ ap (child_sectors j.bio is.k.piece no_marks) writes in
        subst (λ own. AreAmong own j.bio.sectors) (sym same) (part-among j.bio.sectors _)

    module _ {c : Scenario S} (fits : Fits m c (sent j)) (all : AllSound c s) where
      -- so a child is sound
      born-sound : (child : Bio) → In child (born j) → Sound c (sent j) child
      born-sound child among =
          let is = born-is child among in
          record {
            marks = born-marks is;
            line = subst (Made c child) (sym is.is_piece) tt;
            part = λ writes parent piece above of there i bytes at.
                let both : FromBio number is.k.piece ≡ FromBio parent piece =
                sym is.is_piece ∙ of in
                let here : number ≡ parent = cc (both) in
                let own : off j j.bio ≡ above = Some-holds
                (sym (sent-flies j) ∙ ap (bio_of (sent j)) here ∙ there) in
                search (rules, born-writes);
            lies = λ sized parent piece above of there.
                let both : FromBio number is.k.piece ≡ FromBio parent piece =
                sym is.is_piece ∙ of in
                let here : number ≡ parent = cc (both) in
                let same : is.k.piece ≡ piece = cc (both) in
                let own : off j j.bio ≡ above = Some-holds
                (sym (sent-flies j) ∙ ap (bio_of (sent j)) here ∙ there) in
                search (rules, child-lies);
          }

      -- and so are all
      pub map-sound : AllSound c (sent j)
      map-sound n bio lives =
          let p = sent-passage j {first = 0} fits (omega arith) in
          elim (sent-was j n bio lives) [
            | inl stay ↦ sound-stays p all n bio stay lives
            | inr child ↦ born-sound bio child.1
          ]
