-- The line of a table that holds a sector, how the pieces of a bio lie in their lines, and the
-- route of a sector of a mapped device, which is that of the sector that its line sends it to: so
-- the sectors that a piece of a judged bio is sent to have the piece's routes.
use Rattle.lab_model.proofs.Common.{rules, ◌+◌, ◌-◌, ◌<◌, [], ap, arith, false, inl, inr, length}
use Rattle.lab_model.proofs.Common.{nat_le, ltb-true, nat_lt, None, Option, option_and_then, refl}
use Rattle.lab_model.proofs.Common.{slice_get, suc, Some, subst, true, zero, ℕ, ◌∙◌, ◌∷◌, ◌≡◌}
use Rattle.lab_model.proofs.Common.{◌≢◌, ◌≤◌, ◌⊎◌, Allowed, and_from, and_parts, cases_Bool, DevNo}
use Rattle.lab_model.proofs.Common.{Dm, Flush, Ref, has_sector, HasNoGap, joined-Some, Judgement}
use Rattle.lab_model.proofs.Common.{Kind, le-leb, line_at, Marks, Meaning, None-not-Some, Pass}
use Rattle.lab_model.proofs.Common.{PassAllowed, Span, placed, position_or_len, Scenario, shifted}
use Rattle.lab_model.proofs.Common.{slice_get_within, Some-holds, State, Table}
use Rattle.std.proofs.Common.{lt-ltb}
use Rattle.law_never_wrong.proofs.PieceLemmas.{LiesIn, LiesInside}
use Rattle.law_sectors_touched.proofs.Words.{DiskSector, partner_of, Piece, PieceOf, route}
use Rattle.law_sectors_touched.proofs.Words.{route_within, TableLine}
use Rattle.law_sectors_touched.proofs.Chains.{line-falls, route-below}
use Rattle.law_sectors_touched.proofs.Hits.{hits, hits-none, hits-same}
use Rattle.law_sectors_touched.proofs.Judged.{allowed, IsJudged, Judged, Sound}

-- the line that has a sector of a table without gaps is the first that has it
pub place-found : {S : Type 0} (table : Table S) (start number : ℕ) (line : TableLine S) (p : ℕ)
    → HasNoGap start table → slice_get table number ≡ Some line → line.start ≤ p → p
    < line.start + line.len → (start ≤ line.start) × (position_or_len (has_sector p) table ≡ number)
place-found [] start number line p gap at from to = absurd (None-not-Some at)
place-found (first ∷ table) start zero line p gap at from to =
    search (rules, Some-holds, and_from, le-leb, lt-ltb, TableLine)
place-found {S} (first ∷ table) start (suc number) line p gap at from to =
    by_test (cases_Bool (has_sector p first))
    (place-found table (start + first.len) number line p gap.2 at from to)
  where
    by_test : (has_sector p first ≡ true) ⊎ (has_sector p first ≡ false)
        → (start + first.len ≤ line.start) × (position_or_len (has_sector p) table ≡ number)
        → (start ≤ line.start) × (position_or_len (has_sector p) (first ∷ table) ≡ suc number)
    by_test (inl is) rest =
        let parts = and_parts (nat_le first.start p) (nat_lt p (first.start + first.len)) is in
        absurd (omega (arith, ltb-true _ _ parts.1, rest.0, gap.0, from))
    by_test (inr is) rest = (omega (arith, rest.0), rw is (omega (arith, rest.1)))

-- so the table finds it
pub line-found : {S : Type 0} (table : Table S) (number : ℕ) (line : TableLine S) (p : ℕ)
    → HasNoGap 0 table → slice_get table number ≡ Some line → line.start ≤ p
    → p < line.start + line.len → line_at table p ≡ Some number
line-found _ _ _ _ gap at from to = search (rules, place-found, slice_get_within, lt-ltb)

-- where it isn't a flush, a piece has sectors, and lies in its line and in the bio
pub lies-inside : {S : Type 0} (kind : Kind) (line : TableLine S) (whole piece : Span)
    → kind ≢ Flush → LiesIn kind line whole piece → LiesInside line whole piece
lies-inside kind line whole piece sized lies = search rules

-- a piece that its line sends to some sectors behind its reference
pub record Sends {S : Type 0} {m : Meaning S} {s : State S} {number : ℕ} (j : Judged m s number)
    (piece : Piece) (below : DevNo) (span : Span) : Type 0 where
  pub of : PieceOf j.table j.bio.kind j.bio.span piece
  pub first : ℕ
  pub refers : (m.shape of.line.target).reference j.bio.kind
      ≡ Some (record { dev = below; first = first })
  pub is : span ≡ shifted first (placed j.bio.kind of.line piece.span)

-- a piece that passes is sent so
pub pass-sends : {S : Type 0} {m : Meaning S} {s : State S} {number : ℕ} (j : Judged m s number)
    (k : Judgement) → IsJudged j k → (below : DevNo) (span : Span) (hold : ℕ) (marks : Marks)
    → k.verdict ≡ Pass below span hold marks → Sends j k.piece below span
pass-sends {m = m} j k by below span hold marks is =
    let there = placed j.bio.kind by.of.line k.piece.span in
    let may : PassAllowed (m.shape by.of.line.target) j.bio.kind there below span hold marks =
    subst (Allowed (m.shape by.of.line.target) j.bio.kind there) is (allowed j k by) in
    record { of = by.of; first = may.refers.0; refers = may.refers.1; is = may.refers.2 }

module _ {S : Type 0} {m : Meaning S} {s : State S} {number : ℕ} (j : Judged m s number) where
  -- the routes of the sectors of the bio's device
  abbrev pub own_route : ℕ → Option DiskSector
  own_route p = route m s j.bio.kind (Dm j.device) p

  module _ {piece : Piece} (of : PieceOf j.table j.bio.kind j.bio.span piece) where
    -- a sector of a piece's line has the partner that the line gives it, if it has a reference
    partner-is : (o : Option Ref) → (m.shape of.line.target).reference j.bio.kind ≡ o → (p : ℕ)
        → of.line.start ≤ p → p < of.line.start + of.line.len → partner_of m s j.bio.kind j.device p
        ≡ option_and_then (λ r. Some (r.dev, r.first + (p - of.line.start))) o
    partner-is o refers p from to = search (rules, line-found)

    -- without one it has no route
    route-none : (m.shape of.line.target).reference j.bio.kind ≡ None → (p : ℕ)
        → of.line.start ≤ p → p < of.line.start + of.line.len → own_route p ≡ None
    route-none refers p from to = by_count (length s.devices)
      where
        by_count : (count : ℕ) → route_within m s count j.bio.kind (Dm j.device) p ≡ None
        by_count zero = refl
        by_count (suc count) = ap (option_and_then (λ place.
            route_within m s count j.bio.kind place.0 place.1)) (partner-is None refers p from to)

    module _ (sized : j.bio.kind ≢ Flush) where
      -- the piece lies in its line
      abbrev pub lies-of : LiesInside of.line j.bio.span piece.span
      lies-of = lies-inside j.bio.kind of.line j.bio.span piece.span sized of.lies

      -- so a piece of such a line has no routes
      pub piece-none : (x : DiskSector) → (m.shape of.line.target).reference j.bio.kind ≡ None
          → hits x own_route piece.span.first piece.span.len ≡ 0
      piece-none x refers = search (rules, hits-none, route-none)

  module _ {piece : Piece} {below : DevNo} {span : Span} (to : Sends j piece below span)
      (sized : j.bio.kind ≢ Flush) where
    -- where the sectors are that it is sent to
    placed-is : span ≡ shifted to.first
        (record { first = piece.span.first - to.of.line.start; len = piece.span.len })
    placed-is = to.is ∙ ap (shifted to.first) (search (rules, sized))

    -- they stand for the piece's
    pub placed-sector : (i : ℕ)
        → span.first + i ≡ to.first + ((piece.span.first + i) - to.of.line.start)
    placed-sector i = omega (arith, ap (λ l. l.first) placed-is, (lies-of to.of sized).starts)

    -- and are as many
    pub placed-len : span.len ≡ piece.span.len
    placed-len = ap (λ l. l.len) placed-is

module _ {S : Type 0} {m : Meaning S} {c : Scenario S} {s : State S} (sound : Sound m c s)
    {number : ℕ} (j : Judged m s number) {piece : Piece} {below : DevNo} {span : Span}
    (to : Sends j piece below span) where
  -- a sector of the line of a piece that is sent has the route of the one that stands for it
  route-found : (p : ℕ) → to.of.line.start ≤ p → p < to.of.line.start + to.of.line.len
      → own_route j p ≡ route m s j.bio.kind below (to.first + (p - to.of.line.start))
  route-found p from up = by_count (length s.devices) refl
    where
      within : j.device < length s.devices
      within = slice_get_within s.devices j.device (Some j.slot)
          (joined-Some (slice_get s.devices j.device) j.slot j.stands)

      by_count : (count : ℕ) → length s.devices ≡ count → route_within m s count j.bio.kind
          (Dm j.device) p ≡ route m s j.bio.kind below (to.first + (p - to.of.line.start))
      by_count zero is = absurd (omega (arith, within, is))
      by_count (suc count) is = ap (option_and_then (λ place. route_within m s count j.bio.kind
          place.0 place.1)) (partner-is j to.of (Some (record { dev = below; first = to.first }))
          to.refers p from up) ∙ route-below m c sound.ranked s sound.versions j.bio.kind j.device
          below count (to.first + (p - to.of.line.start)) within (line-falls m c sound.ranked s
          sound.versions j.device j.slot j.table piece.line to.of.line j.bio.kind
          (record { dev = below; first = to.first }) j.stands j.live to.of.is_line to.refers) is

  module _ (sized : j.bio.kind ≢ Flush) where
    -- the sectors that it is sent to have the piece's routes
    pub placed-route : (i : ℕ) → i < piece.span.len
        → route m s j.bio.kind below (span.first + i) ≡ own_route j (piece.span.first + i)
    placed-route i less = search (rules, route, placed-sector, route-found)

    -- so they are routes as often
    pub placed-hits : (x : DiskSector) → hits x (λ p. route m s j.bio.kind below p) span.first
        span.len ≡ hits x (own_route j) piece.span.first piece.span.len
    placed-hits x = search (rules, placed-len, hits-same, route, placed-route)
