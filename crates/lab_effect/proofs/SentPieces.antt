-- The pieces of a bio, sent off one after another.
use Rattle.lab_model.proofs.Common.{rules, ◌≡◌, ℕ, suc, zero, ◌+◌, ◌<◌, ◌≤◌, Bool, false, ◌||◌}
use Rattle.lab_model.proofs.Common.{List, [], ◌∷◌, ◌++◌, Option, Some, None, length, map, drop}
use Rattle.lab_model.proofs.Common.{get_or, refl, ap, sym, ◌∙◌, ◌⊎◌, append_assoc, arith, All}
use Rattle.lab_model.proofs.Common.{IfSome, IsSome, option_map, drop_all, drop_more, map-append}
use Rattle.lab_model.proofs.Common.{or-false, All-head, All-tail, All-weaker, filter_map-append}
use Rattle.lab_model.proofs.Common.{list_any-append, list_any, Kind, Read, Trim, Flush, Meaning}
use Rattle.lab_model.proofs.Common.{live_at, Bio, change, Judgement, all_judged, child_of, children}
use Rattle.lab_model.proofs.Common.{fails, judgements, table_judged, with_live, Sectors, Slot}
use Rattle.lab_model.proofs.Common.{Table}
use Rattle.lab_model.specs.declared.piece.Piece.{Piece}
use Rattle.std.proofs.Common.{append-nil}
use Rattle.lab_model.specs.MapEffect.{judgement}
use Rattle.lab_state.specs.Traffic.{TrafficRow}
use Rattle.lab_effect.specs.Mapping.{AreParts, FitsLine, IfMaps, IsReady, TakesPart, part_of}
use Rattle.lab_effect.proofs.Untold.{change-twice}
use Rattle.lab_effect.proofs.PieceLines.{FitsLine-judged}
use Rattle.lab_effect.proofs.LiveTables.{live-same}

-- the live table of a device after it has got another
live-changed : {L : Type 0} (slots : List (Option (Slot L))) (device : ℕ) (table last : L)
    → live_at slots device ≡ Some table
    → live_at (change slots device (option_map (with_live last))) device ≡ Some last
live-changed [] device table last is = absurd (cc)
live-changed (None ∷ slots) zero table last is = absurd (cc)
live-changed (Some slot ∷ slots) zero table last is = refl
live-changed (entry ∷ slots) (suc device) table last is = live-changed slots device table last is

-- the part that is taken is the next piece's, and the others are those of the pieces behind it
parts-next : (bio : Bio) (parts : List Sectors) (part : Sectors) (rest : List Sectors)
    (piece : Piece) (pieces : List Piece) → AreParts bio parts (piece ∷ pieces)
    → TakesPart parts part rest → (part ≡ part_of bio piece) × AreParts bio rest pieces
parts-next bio parts part rest piece pieces are takes = search rules

-- parts that are made one for each piece are the pieces' parts
pub parts_each : (bio : Bio) (pieces : List Piece) (parts : List Sectors)
    → parts ≡ map (part_of bio) pieces → AreParts bio parts pieces
parts_each bio [] parts is = tt
parts_each bio (piece ∷ pieces) parts is = rw is (refl, parts_each bio pieces _ refl)

-- so it needs no part
pub parts_none : (bio : Bio) (pieces : List Piece)
    → (bio.kind ≡ Read) ⊎ ((bio.kind ≡ Trim) ⊎ (bio.kind ≡ Flush)) → AreParts bio [] pieces
parts_none bio [] other = tt
parts_none bio (piece ∷ pieces) other = ((grind arith), parts_none bio pieces other)

module _ {S : Type 0} (m : Meaning S) (kind : Kind) (now number device : ℕ) where
  -- how far the sending of a bio's pieces has come: so many are judged, and with the traffic after
  -- that these parts are left
  pub record SentSoFar (before : TrafficRow S) (pieces : List Piece) (i : ℕ) (failed : Bool)
      (after : TrafficRow S) (parts : List Sectors) : Type 0 where
    pub all : List Sectors
    pub ready : IsReady kind number device pieces all before
    pub parts_are : AreParts ready.bio parts (drop i pieces)
    pub done : List Judgement
    pub table : Table S
    pub judged : done ++ judgements m kind now table (drop i pieces)
        ≡ judgements m kind now ready.table pieces
    pub table_is : all_judged m kind now table (drop i pieces)
        ≡ all_judged m kind now ready.table pieces
    pub fit : All (FitsLine kind table) (drop i pieces)
    pub bios : after.bios
        ≡ before.bios ++ map (λ child. Some child) (children now device number ready.bio done)
    pub devices : after.devices ≡ change before.devices device (option_map (with_live table))
    pub failed_is : failed ≡ list_any (λ j. fails j.verdict) done

  -- what the judging of a piece and the sending of its child make of the traffic
  pub record SendsPiece (piece : Piece) (part : Sectors) (fail : Bool) (from to : TrafficRow S)
      : Type 0 where
    pub failed : IfSome (live_at from.devices device)
        (λ table. fail ≡ fails (judgement m kind now table piece).verdict)
    pub bios : IfSome (live_at from.devices device) (λ table.
        (bio : Bio) → bio.kind ≡ kind → part ≡ part_of bio piece
        → to.bios ≡ from.bios ++ map (λ child. Some child)
        (children now device number bio (judgement m kind now table piece ∷ [])))
    pub devices : IfSome (live_at from.devices device) (λ table. to.devices
        ≡ change from.devices device (option_map (with_live (table_judged m kind now table piece))))

module _ {S : Type 0} {m : Meaning S} {kind : Kind} {now number device : ℕ} {before : TrafficRow S}
    {pieces : List Piece} where
  -- before the first piece nothing is judged
  pub sent-first : {parts : List Sectors} → IsReady kind number device pieces parts before
      → SentSoFar m kind now number device before pieces 0 false before parts
  sent-first {parts} ready = record {
    all = parts;
    ready = ready;
    parts_are = ready.parts_are;
    done = [];
    table = ready.table;
    judged = refl;
    table_is = refl;
    fit = ready.fit;
    bios = sym (append-nil before.bios);
    devices = sym (live-same before.devices device ready.table ready.live);
    failed_is = refl;
  }

  module _ {i : ℕ} {failed : Bool} {after : TrafficRow S} {parts : List Sectors}
      (so : SentSoFar m kind now number device before pieces i failed after parts) where
    -- the table that has judged the pieces gone over is the live one
    so-live : live_at after.devices device ≡ Some so.table
    so-live =
        rw so.devices (live-changed before.devices device so.ready.table so.table so.ready.live)

    -- so there is one
    pub sent-there : IsSome (live_at after.devices device)
    sent-there = rw so-live refl

    -- the next of the pieces fits its line
    pub sent-fits : (d : Piece) → i < length pieces
        → IfSome (live_at after.devices device) (λ table. FitsLine kind table (get_or pieces i d))
    sent-fits d below = rw so-live (All-head (FitsLine kind so.table) (get_or pieces i d)
        (drop (i + 1) pieces) (rw (drop_more pieces i d below) at so.fit))

    -- the next of the pieces is judged, and its child sent off
    pub sent-more : (d : Piece) (part : Sectors) (rest : List Sectors) {fail : Bool}
        {next : TrafficRow S} → i < length pieces → TakesPart parts part rest
        → SendsPiece m kind now number device (get_or pieces i d) part fail after next
        → SentSoFar m kind now number device before pieces (i + 1) (failed || fail) next rest
    sent-more d part rest below takes sends =
        let piece = get_or pieces i d in
        let left = drop (i + 1) pieces in
        let cut = drop_more pieces i d below in
        let bio = so.ready.bio in
        let one = judgement m kind now so.table piece in
        let last = table_judged m kind now so.table piece in
        let taken = parts-next bio parts part rest piece left (rw cut at so.parts_are) takes in
        let child = (rw so-live at sends.bios) bio so.ready.kind_is taken.0 in
        let table = rw so-live at sends.devices in
        let fault = rw so-live at sends.failed in
        record {
          all = so.all;
          ready = so.ready;
          parts_are = taken.1;
          done = so.done ++ one ∷ [];
          table = last;
          judged = append_assoc so.done (one ∷ []) (judgements m kind now last left)
              ∙ (rw cut at so.judged);
          table_is = rw cut at so.table_is;
          fit = All-weaker (FitsLine kind so.table) (FitsLine kind last)
              (FitsLine-judged m now kind so.table piece) left
              (All-tail (FitsLine kind so.table) piece left (rw cut at so.fit));
          bios = rw (
            child,
            so.bios,
            filter_map-append (λ j. child_of now device number bio j j.verdict) so.done (one ∷ []),
            map-append,
          ) (simp append_assoc);
          devices = rw (table, so.devices)
              (change-twice before.devices device _ _ _ (search rules));
          failed_is = rw (so.failed_is, fault, list_any-append) (ap (λ b. list_any
              (λ j. fails j.verdict) so.done || b) (sym (or-false (fails one.verdict))));
        }

    module _ (past : length pieces ≤ i) where
      -- past the last piece all are judged
      all-judged : (so.done ≡ judgements m kind now so.ready.table pieces)
          × (so.table ≡ all_judged m kind now so.ready.table pieces)
      all-judged = search (rules, drop_all i pieces past, append-nil, so.judged, so.table_is)

      -- so it is known whether one fails
      pub sent-failed : IfSome (live_at before.devices device) (λ table. failed
          ≡ list_any (λ j. fails j.verdict) (judgements m kind now table pieces))
      sent-failed = rw (so.ready.live, ← all-judged.0) so.failed_is

      -- the children of all stand behind the bios
      pub sent-bios : IfMaps before number device (λ bio table. after.bios
          ≡ before.bios ++ map (λ child. Some child)
          (children now device number bio (judgements m kind now table pieces)))
      sent-bios = rw (so.ready.lives, so.ready.live, ← all-judged.0) so.bios

      -- and the table that has judged all is live
      pub sent-devices : IfSome (live_at before.devices device) (λ table. after.devices
          ≡ change before.devices device (option_map (with_live
          (all_judged m kind now table pieces))))
      sent-devices = rw (so.ready.live, ← all-judged.1) so.devices
