-- Where a table on the way judges a bio of an operation, it goes into flight with room for its
-- answer, none of its pieces fails, and its children have its places.
use Rattle.lab_model.proofs.Common.{◌<◌, ap, Bool, inl, inr, length, List, refl, Some, subst, sym}
use Rattle.lab_model.proofs.Common.{true, true≢false, ℕ, ◌∙◌, ◌≡◌, answer_room, Bio, bio_of, fails}
use Rattle.lab_model.proofs.Common.{In, InFlight, Sectors, list_any, Some-holds, State}
use Rattle.lab_model.specs.declared.parent.Parent.TheVariants.{FromBio}
use Rattle.law_sectors_touched.proofs.SentBios.{own-comes}
use Rattle.law_bytes_carried.proofs.Words.{born, child-is, descends, is_flying, Judged, judged, off}
use Rattle.law_bytes_carried.proofs.Words.{length-filled, LiesUnder, Passage, sent, sent-cases}
use Rattle.law_bytes_carried.proofs.Words.{sent-flies, sent-on}
use Rattle.law_bytes_carried.proofs.Loads.{AllLoad, Below, Going, Hangs, HangsOr, HasBytes, Holds}
use Rattle.law_bytes_carried.proofs.Loads.{kind-of, lies-lasts, Load, load-lasts}
use Rattle.law_bytes_carried.proofs.Children.{none-fails}
use Rattle.law_bytes_carried.proofs.MapSeats.{child-of, rest-cases}
use Rattle.law_bytes_carried.proofs.Seats.{Course, Gone, Seat, seat-lasts, seat-stays, Waits}

-- and of their sectors
pub in-flight-sectors : {a b : Bool} {x y : Sectors} → InFlight a x ≡ InFlight b y → x ≡ y
in-flight-sectors both = cc

module _ {S : Type 0} {o : Course S} {s : State S} (g : Going o s) {number : ℕ}
    (j : Judged o.m s number) (p : Passage o.m o.c o.first s (sent j)) where
  -- a bio below another lives on below it
  map-below : {place above : ℕ} → Below s o.first place above → Below (sent j) o.first place above
  map-below below =
      let on = sent-on j below.number below.bio below.seat.lives in
      record {
        number = below.number;
        i = below.i;
        bio = on.0;
        piece = below.piece;
        seat = seat-lasts p below.seat on.1 (ap (λ b. b.span) on.2);
        is_piece = ap (λ b. b.parent) on.2 ∙ below.is_piece;
      }

  -- what hangs, or is held, does on, where the bio in flight has another below it
  map-hangs-or : (Has : Bio → ℕ → Type 0) {place : ℕ} → ((k : ℕ) → Seat s o.first place number k
      j.bio → Below (sent j) o.first place number) → HangsOr Has s o.first place
      → HangsOr Has (sent j) o.first place
  map-hangs-or Has {place} own hangs n k y seat flies = elim (sent-cases j n y seat.lives) [
    | inl is ↦ inr (subst (Below (sent j) o.first place) (sym is.0)
        (own k (seat-stays p j.lives (subst (λ a. Seat (sent j) o.first place a k y) is.0 seat)
        (ap (λ b. b.span) is.1))))
    | inr (inl old) ↦ elim (hangs n k y (seat-stays p old.1 seat refl) flies) [
      | inl has ↦ inl has
      | inr below ↦ inr (map-below below)
    ]
    | inr (inr new) ↦ absurd (true≢false (sym flies ∙ (child-is j y new.1).rests))
  ]

  -- what hangs hangs on: the bio in flight has the child that carries the place below it
  pub map-hangs : (place : ℕ) → Waits s o.first place → Waits (sent j) o.first place
      → Hangs s o.first place → Hangs (sent j) o.first place
  map-hangs place w later = map-hangs-or (λ bio k. ⊥) (λ k own.
      let one = w.only number k j.bio own (ap is_flying j.enters) in
      elim (rest-cases g j p later.seat later.rests) [
        | inl old ↦ absurd (old.0
            ((w.only later.number later.i later.bio old.1 later.rests).0 ∙ sym one.0))
        | inr child ↦ record {
          number = later.number;
          i = later.i;
          bio = later.bio;
          piece = child.1.part.k.piece;
          seat = later.seat;
          is_piece = child.1.part.is_piece;
        }
      ])

  -- what is held is held on
  pub map-holds : (place : ℕ) (bytes : List ℕ) → Gone s o.first place
      → Holds s o.first place bytes → Holds (sent j) o.first place bytes
  map-holds place bytes gone = map-hangs-or (λ bio k. HasBytes bio k bytes)
      (λ k own. absurd (gone number k j.bio own (ap is_flying j.enters)))

  -- the bio in flight has room for its answer
  flown-load : descends s o.first number ≡ true → Load o.op (sent j) (off j j.bio)
  flown-load comes = record {
    sound = λ failed sectors is.
        let both : InFlight (list_any (λ k. fails k.verdict) (judged j))
        (answer_room j.bio.kind j.bio.span.len) ≡ InFlight failed sectors = is in (
          sym (cc) ∙ none-fails g j comes,
          λ reads. ap (λ x. length x) (sym (in-flight-sectors both))
              ∙ ap (λ k. length (answer_room k j.bio.span.len))
              (kind-of g number j.bio j.lives comes ∙ reads) ∙ length-filled j.bio.span.len 0,
        );
    lies = lies-lasts p number j.lives (sent-flies j) refl (g.loads number j.bio j.lives comes);
  }

  -- a child has its piece's sectors, which lie in the bio
  child-load : (n : ℕ) (y : Bio) → length s.bios < n → In y (born j) → bio_of (sent j) n ≡ Some y
      → descends (sent j) o.first n ≡ true → Load o.op (sent j) y
  child-load n y far among there came =
      let child = child-of g j p n y far among there came in
      record {
        sound = λ failed sectors is. absurd (true≢false (sym (ap is_flying is) ∙ child.part.rests));
        lies = λ parent piece above is stood.
            let both : FromBio number child.part.k.piece ≡ FromBio parent piece =
            sym child.part.is_piece ∙ is in
            let at_parent : number ≡ parent = cc (both) in
            let own : child.part.k.piece ≡ piece = cc (both) in
            let one : off j j.bio ≡ above =
            Some-holds (sym (sent-flies j) ∙ ap (bio_of (sent j)) at_parent ∙ stood) in
            subst (λ q. LiesUnder y.span q.span above.span) own
            (subst (λ b. LiesUnder y.span child.part.k.piece.span b.span) one child.lies);
      }

  -- so all are sound
  pub map-loads : AllLoad o.op o.first (sent j)
  map-loads n y there came = elim (sent-cases j n y there) [
    | inl is ↦
        let comes : descends s o.first number ≡ true = sym (own-comes j p)
        ∙ ap (descends (sent j) o.first) (sym is.0) ∙ came in
        subst (λ b. Load o.op (sent j) b) (sym is.1) (flown-load comes)
    | inr (inl old) ↦ load-lasts p g.loads n y old.1 there came
    | inr (inr child) ↦ child-load n y child.0 child.1 there came
  ]
