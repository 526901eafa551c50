-- The children of a judged bio have no more routes than the bio, and where each line passes what it
-- refers to they have them all: a piece that passes goes where its line sends its sectors, and one
-- that doesn't makes no child.
use Rattle.lab_model.proofs.Common.{rules, [], arith, inr, List, None, refl, subst}
use Rattle.lab_model.proofs.Common.{sym, ℕ, ◌∷◌, ◌≡◌, ◌≢◌, ◌≤◌, Bio, child_of, Dm, Flush, In}
use Rattle.lab_model.proofs.Common.{Judgement, Meaning, of_entry, Pass, placed, Scenario, State}
use Rattle.lab_model.proofs.Common.{DevNo, Marks, Span, total, total-filter_map, Verdict}
use Rattle.law_sectors_touched.proofs.Words.{DiskSector, lies-is_piece}
use Rattle.law_sectors_touched.specs.AllRoutes.{IsPassing, PassesOn}
use Rattle.law_sectors_touched.proofs.Hits.{hits}
use Rattle.law_sectors_touched.proofs.Judged.{born, is-judged, IsJudged, Judged, judged, Sound}
use Rattle.law_sectors_touched.proofs.Judged.{judged-tiles, judged_span}
use Rattle.law_sectors_touched.proofs.LineRoutes.{own_route, pass-sends, piece-none, placed-hits}
use Rattle.law_sectors_touched.proofs.RouteImages.{span_hits}
use Rattle.law_sectors_touched.proofs.Tiles.{tiles-hits}

-- a total is at most another where it is for each item
total-each : {X : Type 0} (f g : X → ℕ) (xs : List X) → ((x : X) → In x xs → f x ≤ g x)
    → total f xs ≤ total g xs
total-each f g [] less = search rules
total-each f g (x ∷ xs) less = search (rules, total-each f g xs (λ y among. less y (inr among)))

module _ {S : Type 0} {m : Meaning S} {c : Scenario S} {s : State S} (sound : Sound m c s)
    {number : ℕ} (j : Judged m s number) (x : DiskSector) where
  -- how often the disk sector is among a bio's routes
  abbrev pub bio_hits : Bio → ℕ
  bio_hits b = span_hits m s x b.kind b.device b.span

  -- among those of a judgement's piece, and of its child
  abbrev piece_hits : Judgement → ℕ
  piece_hits k = hits x (own_route j) k.piece.span.first k.piece.span.len

  abbrev child_hits : Verdict → Judgement → ℕ
  child_hits verdict k = of_entry bio_hits (child_of s.clock j.device number j.bio k verdict)

  -- the children have as many as those of the judgements
  children-total : total bio_hits (born j) ≡ total (λ k. child_hits k.verdict k) (judged j)
  children-total = search (rules, total-filter_map)

  module _ (sized : j.bio.kind ≢ Flush) where
    -- and the bio as many as all pieces
    pieces-total : total piece_hits (judged j) ≡ span_hits m s x j.bio.kind (Dm j.device) j.bio.span
    pieces-total = search (rules, tiles-hits judged_span x (own_route j), judged-tiles j sized)

    -- a piece that passes has the routes of what it is sent to
    passed-hits : (k : Judgement) → IsJudged j k → {below : DevNo} {span : Span} {hold : ℕ}
        {marks : Marks} → k.verdict ≡ Pass below span hold marks
        → span_hits m s x j.bio.kind below span ≡ piece_hits k
    passed-hits k by is = placed-hits sound j (pass-sends j k by _ _ _ _ is) sized x

    -- a child has no more routes than its piece
    child-hits : (k : Judgement) → IsJudged j k → (verdict : Verdict) → k.verdict ≡ verdict
        → child_hits verdict k ≤ piece_hits k
    child-hits k by verdict is = search (rules, passed-hits)

    -- so all children have no more than the bio
    pub children-hits :
        total bio_hits (born j) ≤ span_hits m s x j.bio.kind (Dm j.device) j.bio.span
    children-hits = rw (children-total, ← pieces-total)
        (search (rules, total-each, child-hits, is-judged))

    module _ (passes : (k : Judgement) → (by : IsJudged j k)
        → PassesOn m j.bio.kind by.of.line.target) where
      -- a piece of a line without a reference has no routes, whatever its child has
      lacks : (k : Judgement) (by : IsJudged j k)
          → (m.shape by.target).reference j.bio.kind ≡ None → (hits : ℕ) → piece_hits k ≤ hits
      lacks k by none hits = search (rules, piece-none j by.of sized x, by.shape)

      -- a piece that its line passes, if it can, has all its routes at its child
      child-covers : (k : Judgement) (by : IsJudged j k) (verdict : Verdict) → k.verdict ≡ verdict
          → IsPassing (m.shape by.target) j.bio.kind verdict → piece_hits k ≤ child_hits verdict k
      child-covers k by (Pass _ _ _ _) is passing = omega (arith, passed-hits k by is)
      child-covers k by _ is none = lacks k by none 0

      -- so the children have all of the bio's routes
      pub children-cover :
          span_hits m s x j.bio.kind (Dm j.device) j.bio.span ≤ total bio_hits (born j)
      children-cover =
          let more = total-each piece_hits (λ k. child_hits k.verdict k) (judged j) (λ k among.
          let by = is-judged j k among in
          let piece = placed j.bio.kind by.of.line k.piece.span in
          child-covers k by k.verdict refl (subst (IsPassing (m.shape by.target) j.bio.kind)
          (sym by.verdict) (passes k by by.target by.shape piece s.clock
          (lies-is_piece j.bio.kind by.of.line j.bio.span k.piece.span by.of.lies)))) in
          omega (arith, more, children-total, pieces-total)
