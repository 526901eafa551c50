-- With each event but the script's no more is owed than before, less what it touches; and where the
-- lines on an operation's way pass what they refer to, no less. Where a table judges a bio, what is
-- owed for it is given up, and its children take what is owed for them.
use Rattle.lab_model.proofs.Common.{rules, ◌+◌, [], ap, arith, Bool, false, if◌then◌else◌, inl, inr}
use Rattle.lab_model.proofs.Common.{le_refl, ℕ, length, List, refl, slice_get, Some, subst, suc}
use Rattle.lab_model.proofs.Common.{sym, true, ◌∙◌, ◌≡◌, ◌≢◌, ◌≤◌, Bio, devices_image, DevNo, Dm}
use Rattle.lab_model.proofs.Common.{effect, Flush, In-slice_get, is_enabled, Judgement, Kind}
use Rattle.lab_model.proofs.Common.{Meaning, Next, None-not-Some, Scenario, State, total}
use Rattle.lab_model.proofs.Common.{total-none}
use Rattle.law_sectors_touched.proofs.Words.{Control, descends, DiskSector, entry-within, Event}
use Rattle.law_sectors_touched.proofs.Words.{Finish, Fits, is_control, Serve, serves, times}
use Rattle.law_sectors_touched.proofs.Words.{touched_by}
use Rattle.law_sectors_touched.specs.AllRoutes.{PassesOn, WayPasses}
use Rattle.law_sectors_touched.proofs.ChildHits.{bio_hits, children-cover, children-hits}
use Rattle.law_sectors_touched.proofs.Descent.{is_flying, Passage}
use Rattle.law_sectors_touched.proofs.Judged.{born, IsJudged, Judged, off, sent, Sound}
use Rattle.law_sectors_touched.proofs.KeptBios.{itself-kept, leaves-passage}
use Rattle.law_sectors_touched.proofs.Owed.{sum_to, sum_to-behind, sum_to-but, counted, leaves-owes}
use Rattle.law_sectors_touched.proofs.Owed.{outstanding, owed, owes, owes-kept, owes-lives}
use Rattle.law_sectors_touched.proofs.Owed.{owes-none, serves-counted}
use Rattle.law_sectors_touched.proofs.RouteImages.{span_hits, span_hits-same}
use Rattle.law_sectors_touched.proofs.SentBios.{child-comes, child-is, child-lives, sent-cases}
use Rattle.law_sectors_touched.proofs.SentBios.{sent-count, sent-flies, sent-other, sent-passage}
use Rattle.law_sectors_touched.proofs.Events.{event-cases, event-image, finishing-of, gone_of}
use Rattle.law_sectors_touched.proofs.Events.{serving-of}
use Rattle.law_sectors_touched.proofs.LineRoutes.{lies-of}
use Rattle.law_sectors_touched.proofs.Ways.{AllTravel, LeadsOn, leaves-travel, piece-held}
use Rattle.law_sectors_touched.proofs.Ways.{piece-on-way, sent-travel}

-- what counts of more is more
counted-more : (d : Bool) (a b : ℕ) → (d ≡ true → a ≤ b) → counted d a ≤ counted d b
counted-more d a b less = search rules

-- what counts item by item counts of the total
total-counted : {X : Type 0} (d : Bool) (f : X → ℕ) (xs : List X)
    → total (λ x. counted d (f x)) xs ≡ counted d (total f xs)
total-counted d f xs = search (rules, total-none, le_refl)

module _ {S : Type 0} {m : Meaning S} {c : Scenario S} {s : State S} (sound : Sound m c s)
    {number : ℕ} (j : Judged m s number) (x : DiskSector) {first : ℕ}
    (p : Passage m c first s (sent j))
    (same : devices_image m (sent j).devices ≡ devices_image m s.devices) where
  -- whether the bio descends from the first
  abbrev comes : Bool
  comes = descends s first number

  -- what is owed for a child are its routes
  child-owes : (i : ℕ) (y : Bio) → slice_get (born j) i ≡ Some y
      → owes m (sent j) x first (length s.bios + suc i) ≡ counted comes (bio_hits sound j x y)
  child-owes i y at =
      let n = length s.bios + suc i in
      let there = child-lives j n i y refl at in
      let among = In-slice_get y (born j) i at in
      let hits = span_hits m (sent j) x y.kind y.device y.span in
      owes-lives m (sent j) x first n y there ∙ ap (λ d. counted d (owed (is_flying y.stage) hits))
      (child-comes j p n y (omega arith) among there) ∙ ap (λ f. counted comes (owed f hits))
      (child-is j y among).rests
      ∙ ap (counted comes) (span_hits-same m s (sent j) x y.kind y.device y.span same)

  -- another's is as before
  other-owes : (n : ℕ) → n ≤ length s.bios → n ≢ number
      → owes m (sent j) x first n ≡ owes m s x first n
  other-owes n up apart = owes-kept p x same n
      (λ y there. elim (sent-cases j n y there) [
        | inl own ↦ absurd (apart own.0)
        | inr (inl old) ↦ itself-kept s n y old.1
        | inr (inr child) ↦ absurd (omega (arith, child.0, up))
      ]) (λ y stood none. None-not-Some (sym none ∙ sent-other j n y apart stood))

  -- the bio's routes were owed
  abbrev given_up : ℕ
  given_up = counted comes (span_hits m s x j.bio.kind (Dm j.device) j.bio.span)

  own-owed : owes m s x first number ≡ given_up
  own-owed = rw (j.lives, j.enters, j.on) refl

  -- so the children's routes are owed for the bio's
  sent-owed : outstanding m (sent j) x first + given_up
      ≡ outstanding m s x first + counted comes (total (bio_hits sound j x) (born j))
  sent-owed =
      let but = sum_to-but (owes m (sent j) x first) (owes m s x first) (length s.bios) number
      other-owes (entry-within s.bios number j.bio j.lives) (owes-lives m (sent j) x first number
      (off j j.bio) (sent-flies j) ∙ (search rules))
      (owes-none m s x first 0 refl) in
      let more = sum_to-behind (owes m (sent j) x first)
      (λ y. counted comes (bio_hits sound j x y)) (born j) (length s.bios) child-owes in
      let count = ap (sum_to (owes m (sent j) x first)) (sent-count j) in
      omega (arith, but, more, count, total-counted comes (bio_hits sound j x) (born j), own-owed)

  module _ (sized : comes ≡ true → j.bio.kind ≢ Flush) where
    -- which are no more
    pub sent-owes : outstanding m (sent j) x first ≤ outstanding m s x first
    sent-owes = search (rules, counted-more, children-hits, sent-owed)

    -- and no fewer where each line passes what it refers to
    pub sent-covers : (comes ≡ true → (k : Judgement) → (by : IsJudged j k)
        → PassesOn m j.bio.kind by.of.line.target)
        → outstanding m s x first ≤ outstanding m (sent j) x first
    sent-covers passes =
        let more = counted-more comes (span_hits m s x j.bio.kind (Dm j.device) j.bio.span)
        (total (bio_hits sound j x) (born j))
        (λ on. children-cover sound j x (sized on) (passes on)) in
        omega (arith, sent-owed, more)

module _ {S : Type 0} {m : Meaning S} {c : Scenario S} {s : State S} (sound : Sound m c s)
    (x : DiskSector) {first : ℕ} (numbered : first ≤ length s.bios) {kind : Kind}
    (sized : kind ≢ Flush) (way : DevNo → ℕ → Bool) (leads_on : LeadsOn m s kind way)
    (travel : AllTravel s first kind way) (next : State S) (next_fits : Fits m c next)
    (event : Event) (quiet : is_control event ≡ false) (may : is_enabled c s event ≡ true)
    (leads : effect m c s event ≡ Next next) where
  -- an event touches just what was owed for the bio that it answers
  event-touches : (e : Event) → is_control e ≡ false → is_enabled c s e ≡ true
      → effect m c s e ≡ Next next → times x (touched_by s first e) ≡ owes m s x first (gone_of e)
  event-touches (Serve at) quiet may leads =
      let serving = serving-of m c s next at may leads in
      let bio = serving.bio in
      ap (λ o. times x (if descends s first at then serves o else [])) serving.lives
      ∙ serves-counted m s x bio serving.disk serving.on (descends s first at) serving.enters
      ∙ sym (owes-lives m s x first at bio serving.lives)
  event-touches (Finish at) quiet may leads =
      search (rules, finishing-of, owes-lives, counted, descends, owed, is_flying, span_hits)
  event-touches Control quiet may leads = cc
  event-touches _ quiet may leads = sym (owes-none m s x first 0 refl)

  -- as much is touched
  abbrev touches : ℕ
  touches = times x (touched_by s first event)

  -- less is owed, by what an event touches, and no fewer bios are numbered; where the lines on the
  -- way pass what they refer to, just as much less; and all travel on
  pub record OwesOn (t : State S) : Type 0 where
    pub less : outstanding m t x first + touches ≤ outstanding m s x first
    pub all : WayPasses m s kind way
        → outstanding m s x first ≤ outstanding m t x first + touches
    pub count : length s.bios ≤ length t.bios
    pub travels : AllTravel t first kind way

  -- the lines of the pieces of a bio on the way pass them
  lines-pass : WayPasses m s kind way → (at : ℕ) (j : Judged m s at) → (j.bio.kind ≢ Flush)
      → descends s first at ≡ true → {k : _} (by : IsJudged j k)
      → PassesOn m j.bio.kind by.of.line.target
  lines-pass passes at j some comes {k} by =
      let travels = travel at j.bio j.lives comes in
      let less = (lies-of j by.of some).some in
      subst (λ kind. PassesOn m kind by.of.line.target) (sym travels.0)
      (passes.passes j.device (k.piece.span.first + 0) by.of.line
      (piece-on-way j some by.of way travels.1 0 less) (piece-held j some by.of 0 less))

  -- so it is with each event
  pub event-owes : OwesOn next
  event-owes =
      let own = event-touches event quiet may leads in
      event-cases sound.lawful sound.fits next (λ t. Fits m c t × (devices_image m t.devices
      ≡ devices_image m s.devices) → OwesOn t) event quiet may leads (λ leaves is.
      let p = leaves-passage leaves is.0 numbered in
      let all = leaves-owes p x is.1 leaves in
      record {
        less = omega (arith, all, own);
        all = λ passes. omega (arith, all, own);
        count = leaves.count;
        travels = leaves-travel sized way travel p leaves;
      }) (λ none at j is.
      let p = sent-passage j is.0 numbered in
      let nothing = ap (owes m s x first) none ∙ owes-none m s x first 0 refl in
      let some = λ (comes : descends s first at ≡ true) (flush : j.bio.kind ≡ Flush).
      sized (sym (travel at j.bio j.lives comes).0 ∙ flush) in
      let less = sent-owes sound j x p is.1 some in
      record {
        less = omega (arith, less, own, nothing);
        all = λ passes. omega (
          arith,
          sent-covers sound j x p is.1 some
              (λ comes k by. lines-pass passes at j (some comes) comes by),
        );
        count = omega (arith, sent-count j);
        travels = sent-travel sized way travel j leads_on p;
      }) (next_fits, event-image sound.lawful sound.fits next event quiet may leads)
