-- Where a table on the way judges the bio that carries a place, the child whose piece has it
-- carries it on; and no other child carries anything.
use Rattle.lab_model.proofs.Common.{rules, ◌+◌, ◌-◌, ◌<◌, ap, arith, false, inl, inr, length, refl}
use Rattle.lab_model.proofs.Common.{slice_get, ℕ, Some, suc, sym, true, true≢false, ◌∙◌, ◌≡◌, ◌≢◌}
use Rattle.lab_model.proofs.Common.{◌⊎◌, Bio, bio_of, cases_eq, Dm, In, In-slice_get, Kind}
use Rattle.lab_model.proofs.Common.{no_marks, part, Some-holds, State, Write}
use Rattle.law_sectors_touched.proofs.LineRoutes.{placed-route}
use Rattle.law_sectors_touched.proofs.RouteImages.{route-same}
use Rattle.law_sectors_touched.proofs.SentBios.{child-at, child-comes, child-sent, sent-other}
use Rattle.law_sectors_touched.proofs.SentBios.{sent-was}
use Rattle.law_bytes_carried.proofs.Words.{born, child-is, child-lies, child-lives, child_sectors}
use Rattle.law_bytes_carried.proofs.Words.{descends, is_flying, IsChild, Judged, LiesUnder, off}
use Rattle.law_bytes_carried.proofs.Words.{Passage, Piece, route, sent, sent-cases, sent-flies}
use Rattle.law_bytes_carried.specs.Carried.{stands_for}
use Rattle.law_bytes_carried.proofs.Children.{begins_at, born-has, child-marks, child-writes}
use Rattle.law_bytes_carried.proofs.Loads.{Going, going-sound, kind-of, not-flush}
use Rattle.law_bytes_carried.proofs.Places.{child-stands, place-stays}
use Rattle.law_bytes_carried.proofs.Seats.{AllFare, Course, Fare, fare-lasts, Gone, route_of, Seat}
use Rattle.law_bytes_carried.proofs.Seats.{seat-lasts, seat-stays, Waits, waits-seat}
use Rattle.law_bytes_carried.proofs.Served.{part-place}

-- a write's child writes its part
child-part : (bio : Bio) (piece : Piece) (kind : Kind) → kind ≡ Write
    → child_sectors bio piece no_marks kind ≡ part bio.sectors
    (record { first = piece.span.first - bio.span.first; len = piece.span.len })
child-part bio piece kind is = ap (child_sectors bio piece no_marks) is

module _ {S : Type 0} {o : Course S} {s : State S} (g : Going o s) {number : ℕ}
    (j : Judged o.m s number) (p : Passage o.m o.c o.first s (sent j)) where
  -- a child of a bio of the operation: its piece lies in that
  pub record Child (n : ℕ) (y : Bio) : Type 0 where
    pub comes : descends s o.first number ≡ true
    pub part : IsChild j y
    pub lies : LiesUnder y.span part.k.piece.span j.bio.span

  -- each that descends from the first is one
  pub child-of : (n : ℕ) (y : Bio) → length s.bios < n → In y (born j)
      → bio_of (sent j) n ≡ Some y → descends (sent j) o.first n ≡ true → Child n y
  child-of n y far among there came =
      let comes = sym (child-comes j p n y far among there) ∙ came in
      let part = child-is j y among in
      record { comes = comes; part = part; lies = child-lies j part (not-flush g j comes) }

  -- a child's place stands for what the place above it stands for
  child-place : (n : ℕ) (y : Bio) → length s.bios < n → bio_of (sent j) n ≡ Some y
      → (of : IsChild j y) → (k : ℕ) → stands_for (sent j) o.first n k
      ≡ stands_for s o.first number ((of.k.piece.span.first - j.bio.span.first) + k)
  child-place n y far there of k =
      child-stands p.fits o.first n number y (off j j.bio) of.k.piece there of.is_piece
      (omega (arith, g.numbered, far)) (sent-flies j) k
      ∙ place-stays p number j.lives (sent-flies j) ((of.k.piece.span.first - j.bio.span.first) + k)

  -- a place of the operation that a bio has that isn't in flight is one that it had, or the child's
  -- of the bio that had it
  pub rest-cases : {place n k : ℕ} {y : Bio} → Seat (sent j) o.first place n k y
      → is_flying y.stage ≡ false → ((n ≢ number) × Seat s o.first place n k y)
      ⊎ ((length s.bios < n) × (child : Child n y) × Seat s o.first place number
      ((child.part.k.piece.span.first - j.bio.span.first) + k) j.bio)
  rest-cases {n = n} {k = k} {y = y} seat rests = elim (sent-cases j n y seat.lives) [
    | inl own ↦ absurd (true≢false (sym (ap (λ b. is_flying b.stage) own.1) ∙ rests))
    | inr (inl old) ↦ inl (old.0, seat-stays p old.1 seat refl)
    | inr (inr new) ↦
        let child = child-of n y new.0 new.1 seat.lives seat.comes in
        let lies = child.lies in
        inr (
          new.0,
          child,
          record {
            lives = j.lives;
            comes = child.comes;
            within = omega (arith, seat.within, lies.from, lies.within, lies.long);
            stands = sym (child-place n y new.0 seat.lives child.part k) ∙ seat.stands;
          },
        )
  ]

  -- where none carried a place none does
  pub map-gone : (place : ℕ) → Gone s o.first place → Gone (sent j) o.first place
  map-gone place gone n k y seat rests = search (rules, rest-cases seat rests, gone, j.enters)

  -- where another bio carries it, it carries it on
  waits-apart : (place : ℕ) → (w : Waits s o.first place) → w.number ≢ number
      → Waits (sent j) o.first place
  waits-apart place w apart = record {
    number = w.number;
    i = w.i;
    bio = w.bio;
    seat = seat-lasts p w.seat (sent-other j w.number w.bio apart w.seat.lives) refl;
    rests = w.rests;
    only = λ n k y seat rests. elim (rest-cases seat rests) [
      | inl old ↦ w.only n k y old.1 rests
      | inr child ↦ absurd (apart (sym (w.only number _ j.bio child.2 (ap is_flying j.enters)).0))
    ];
  }

  -- where the bio itself carries it, the child whose piece has it does
  waits-judged : (place : ℕ) → (w : Waits s o.first place) → w.number ≡ number
      → Waits (sent j) o.first place
  waits-judged place w is =
      let seat = waits-seat w number j.lives is in
      let comes = seat.comes in
      let q = j.bio.span.first + w.i in
      let found = born-has g j comes q (omega arith) (omega (arith, seat.within)) in
      let child = found.item in
      let of = child-is j child (In-slice_get child (born j) found.place found.there) in
      let lies = child-lies j of (not-flush g j comes) in
      let begin = ap begins_at of.is_piece in
      let n = length s.bios + suc found.place in
      let k = q - of.k.piece.span.first in
      let there = child-lives j n found.place child refl found.there in
      let above : (of.k.piece.span.first - j.bio.span.first) + k ≡ w.i =
      omega (arith, found.from, begin, lies.from) in
      record {
        number = n;
        i = k;
        bio = child;
        seat = record {
          lives = there;
          comes = child-comes j p n child (omega arith)
              (In-slice_get child (born j) found.place found.there) there ∙ comes;
          within = omega (arith, found.to, found.from, begin);
          stands = child-place n child (omega arith) there of k
              ∙ ap (stands_for s o.first number) above ∙ seat.stands;
        };
        rests = of.rests;
        only = λ a l y seat rests. elim (rest-cases seat rests) [
          | inl old ↦ absurd (old.0 ((w.only a l y old.1 rests).0 ∙ is))
          | inr other ↦
              let at = child-at j a y other.0 seat.lives in
              let part = other.1.part in
              let starts = ap begins_at part.is_piece in
              let at_i = (w.only number _ j.bio other.2 (ap is_flying j.enters)).1 in
              let at_q : part.k.piece.span.first + l ≡ q = omega (arith, at_i, other.1.lies.from) in
              let same = found.only at.place y at.there (omega (arith, starts, at_q))
              (omega (arith, starts, at_q, seat.within)) in
              let one : y ≡ child = Some-holds
              (sym at.there ∙ ap (slice_get (born j)) same ∙ found.there) in (
                omega (arith, at.is, same),
                omega (arith, at_q, starts, begin, ap (λ b. begins_at b.parent) one),
              )
        ];
      }

  -- so it is carried on
  pub map-waits : (place : ℕ) → Waits s o.first place → Waits (sent j) o.first place
  map-waits place w =
      search (rules, cases_eq w.number number, waits-judged place w, waits-apart place w)

  -- a child carries what its place above carries
  child-fare : (n : ℕ) (y : Bio) → length s.bios < n → In y (born j)
      → bio_of (sent j) n ≡ Some y → descends (sent j) o.first n ≡ true → Fare o (sent j) n y
  child-fare n y far among there came =
      let child = child-of n y far among there came in
      let lies = child.lies in
      let of = child.part in
      let piece = of.k.piece.span in
      let fare = g.fares number j.bio j.lives child.comes in
      let kind = kind-of g number j.bio j.lives child.comes in
      record {
        marks = λ parent piece is. child-marks g j child.comes of;
        routed = λ i less.
            let low = (piece.first - j.bio.span.first) + i in
            let at_low : piece.first + i ≡ j.bio.span.first + low = omega (arith, lies.from) in
            sym (route-same o.m o.begun s g.image o.op.kind y.device (y.span.first + i))
            ∙ ap (λ k. route o.m s k y.device (y.span.first + i)) (sym kind)
            ∙ placed-route (going-sound g) j (child-sent j of) (not-flush g j child.comes) i
            (omega (arith, less, lies.long))
            ∙ ap (λ k. route o.m s k (Dm j.device) (piece.first + i)) kind
            ∙ route-same o.m o.begun s g.image o.op.kind (Dm j.device) (piece.first + i)
            ∙ ap (λ d. route o.m o.begun o.op.kind d (piece.first + i)) (sym j.on)
            ∙ ap (route o.m o.begun o.op.kind j.bio.device) at_low
            ∙ fare.routed low (omega (arith, less, lies.from, lies.within, lies.long))
            ∙ ap (route_of o) (sym (child-place n y far there of i));
        filled = λ writes i less.
            let low = (piece.first - j.bio.span.first) + i in
            ap (λ x. slice_get x i) (child-writes g j child.comes of ∙ child-part j.bio of.k.piece
            j.bio.kind (kind ∙ writes)) ∙ part-place j.bio.sectors (record {
              first = piece.first - j.bio.span.first;
              len = piece.len;
            }) i (omega (arith, less, lies.long))
            ∙ fare.filled writes low (omega (arith, less, lies.from, lies.within, lies.long))
            ∙ ap (slice_get o.op.sectors) (sym (child-place n y far there of i));
      }

  -- so all carry theirs
  pub map-fares : AllFare o (sent j)
  map-fares n y there came = search (rules, sent-was, fare-lasts, child-fare)
