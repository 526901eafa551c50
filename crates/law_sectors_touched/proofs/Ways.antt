-- Ways as sets of sectors of devices: a way that lines lead on along stays one; and with each event
-- but the script's the bios that descend from an operation stay on its way: where a table on the
-- way judges one of them, its children have the sectors that stand for its own.
use Rattle.lab_model.proofs.Common.{rules, ◌+◌, ◌-◌, ◌<◌, ap, arith, Bool, inl, inr, Some}
use Rattle.lab_model.proofs.Common.{sym, true, ℕ, ◌∙◌, ◌≡◌, ◌≢◌, Bio, bio_of, devices_image, DevNo}
use Rattle.lab_model.proofs.Common.{Dm, Flush, Kind, line_at, line_at-image, Meaning, Ref, Scenario}
use Rattle.lab_model.proofs.Common.{State}
use Rattle.law_never_wrong.proofs.FitsKept.{device-kept, live-kept}
use Rattle.law_sectors_touched.proofs.Words.{descends, line-kept, Piece, PieceOf, TableLine}
use Rattle.law_sectors_touched.specs.AllRoutes.{HoldingLine, IsOnWay, WayPasses}
use Rattle.law_sectors_touched.proofs.Descent.{comes-stay, Passage, Stayed}
use Rattle.law_sectors_touched.proofs.Judged.{Judged, sent}
use Rattle.law_sectors_touched.proofs.KeptBios.{came-kept, Leaves}
use Rattle.law_sectors_touched.proofs.LineRoutes.{lies-of, line-found, placed-len, placed-sector}
use Rattle.law_sectors_touched.proofs.SentBios.{child-comes, child-is, child-sent, IsChild}
use Rattle.law_sectors_touched.proofs.SentBios.{sent-was}

-- the bios that descend from the first are of one kind, and all their sectors are on a way
abbrev pub AllTravel : {S : Type 0} → State S → ℕ → Kind → (DevNo → ℕ → Bool) → Type 0
AllTravel s first kind way = (number : ℕ) (bio : Bio) → bio_of s number ≡ Some bio
    → descends s first number ≡ true → (bio.kind ≡ kind) × IsOnWay way bio

-- a way leads on along the lines that hold its sectors
abbrev pub LeadsOn : {S : Type 0} → Meaning S → State S → Kind → (DevNo → ℕ → Bool) → Type 0
LeadsOn {S} m s kind way = (device sector : ℕ) (line : TableLine S) (ref : Ref) → way
    (Dm device) sector ≡ true → HoldingLine s device sector line → (m.shape line.target).reference
    kind ≡ Some ref → way ref.dev (ref.first + (sector - line.start)) ≡ true

module _ {S : Type 0} (m : Meaning S) (s next : State S)
    (same : devices_image m next.devices ≡ devices_image m s.devices) where
  -- a line that held a sector before: it starts at the same sector, and has the same shape
  pub record HeldBefore (device sector : ℕ) (line : TableLine S) : Type 0 where
    pub own : TableLine S
    pub held : HoldingLine s device sector own
    pub start : own.start ≡ line.start
    pub shape : m.shape own.target ≡ m.shape line.target

  -- a line that holds a sector is one that did
  pub line-before : (device sector : ℕ) (line : TableLine S) → HoldingLine next device sector line
      → HeldBefore device sector line
  line-before device sector line at =
      let slot = device-kept m next s (sym same) device at.slot at.stands in
      let table = live-kept m at.slot slot.0 slot.2 at.table at.is_live in
      let own = line-kept m at.table table.0 table.2 at.number line at.is_line in
      record {
        own = own.0;
        held = record {
          slot = slot.0;
          table = table.0;
          number = at.number;
          stands = slot.1;
          is_live = table.1;
          holds = sym (line_at-image m table.0 sector) ∙ ap (λ t. line_at t sector) table.2
              ∙ line_at-image m at.table sector ∙ at.holds;
          is_line = own.1;
        };
        start = ap (λ image. image.start) own.2;
        shape = ap (λ image. image.target) own.2;
      }

  -- so a way leads on as before
  pub leads-stay : (kind : Kind) (way : DevNo → ℕ → Bool) → LeadsOn m s kind way
      → LeadsOn m next kind way
  leads-stay kind way leads device sector line ref on at refers =
      search (rules, line-before device sector line at, leads)

  -- and one whose lines pass all stays so
  pub way-stays : (kind : Kind) (way : DevNo → ℕ → Bool) → WayPasses m s kind way
      → WayPasses m next kind way
  way-stays kind way passes = record {
    leads = leads-stay kind way passes.leads;
    passes = λ device sector line on at later shape piece now is.
        let before = line-before device sector line at in
        passes.passes device sector before.own on before.held later (shape ∙ sym before.shape) piece
        now is;
  }

module _ {S : Type 0} {m : Meaning S} {s : State S} {number : ℕ} (j : Judged m s number)
    (sized : j.bio.kind ≢ Flush) {piece : Piece}
    (of : PieceOf j.table j.bio.kind j.bio.span piece) where
  -- the line of a piece holds each of its sectors
  pub piece-held : (place : ℕ) → place < piece.span.len
      → HoldingLine s j.device (piece.span.first + place) of.line
  piece-held place less = search (rules, line-found, lies-of)

  -- they are on the way that the bio is on
  pub piece-on-way : (way : DevNo → ℕ → Bool) → IsOnWay way j.bio → (place : ℕ)
      → place < piece.span.len → way (Dm j.device) (piece.span.first + place) ≡ true
  piece-on-way way on place less =
      search (rules, lies-of j of sized, on ((piece.span.first - j.bio.span.first) + place))

-- so are those of a child, where the way leads on
child-on-way : {S : Type 0} {m : Meaning S} {s : State S} {number : ℕ} (j : Judged m s number)
    (sized : j.bio.kind ≢ Flush) (kind : Kind) → j.bio.kind ≡ kind → (way : DevNo → ℕ → Bool)
    → LeadsOn m s kind way → IsOnWay way j.bio → (child : Bio) → IsChild j child
    → IsOnWay way child
child-on-way {m = m} j sized kind is way leads on child of place less =
    let to = child-sent j of in
    let within : place < of.k.piece.span.len = omega (arith, less, placed-len j to sized) in
    ap (way child.device) (placed-sector j to sized place) ∙ leads j.device
    (of.k.piece.span.first + place) to.of.line (record { dev = child.device; first = to.first })
    (piece-on-way j sized to.of way on place within) (piece-held j sized to.of place within)
    (ap (m.shape to.of.line.target).reference (sym is) ∙ to.refers)

module _ {S : Type 0} {m : Meaning S} {c : Scenario S} {s : State S} {first : ℕ} {kind : Kind}
    (sized : kind ≢ Flush) (way : DevNo → ℕ → Bool) (travel : AllTravel s first kind way) where
  -- a bio that stayed is on the way as before
  same-travels : {next : State S} → Passage m c first s next → (n : ℕ) (b : Bio) → Stayed s n b
      → bio_of next n ≡ Some b → descends next first n ≡ true → (b.kind ≡ kind) × IsOnWay way b
  same-travels p n b stay lives comes =
      search (rules, travel n stay.old stay.stood, comes-stay p n stay.stood lives)

  -- so all are that an event leaves
  pub leaves-travel : {at : ℕ} {next : State S} → Passage m c first s next → Leaves s at next
      → AllTravel next first kind way
  leaves-travel p leaves number bio lives comes =
      same-travels p number bio (came-kept leaves p number bio lives comes).stayed lives comes

  -- and so are the children of one that is judged
  pub sent-travel : {number : ℕ} (j : Judged m s number) → LeadsOn m s kind way
      → Passage m c first s (sent j) → AllTravel (sent j) first kind way
  sent-travel {number} j leads p n y there comes = elim (sent-was j n y there) [
    | inl stay ↦ same-travels p n y stay there comes
    | inr child ↦
        let travels = travel number j.bio j.lives
        (sym (child-comes j p n y child.0 child.1 there) ∙ comes) in
        let of = child-is j y child.1 in (
          of.kind ∙ travels.0,
          child-on-way j (λ flush. sized (sym travels.0 ∙ flush)) kind travels.0 way leads
              travels.1 y of,
        )
  ]
