-- Where no bio is left: once all logs have ended none lives, since each leads by its parents to one
-- of a log, which would be busy; and none stands at a device whose removal the rest of the script
-- bears, since what leads a bio there, a log line or a live table, would not stand after it. Once
-- all is done no event may come.
use Rattle.lab_model.proofs.Common.{rules, ◌≡◌, inl, inr, ℕ, zero, suc, ◌+◌, ◌<◌, IfSome, Some}
use Rattle.lab_model.proofs.Common.{None, drop, sym, ap, ◌∙◌, subst, arith, true, Option, length}
use Rattle.lab_model.proofs.Common.{List, refl, true≢false, option_map, Dm, Meaning, Bio}
use Rattle.lab_model.specs.declared.parent.Parent.{Parent}
use Rattle.lab_model.proofs.Common.{change, numbered, Scenario, State, bio_of}
use Rattle.lab_model.specs.declared.parent.Parent.TheVariants.{FromLog, FromBio}
use Rattle.lab_model.proofs.Common.{image, with_target, Devices, devices_image, slot_image}
use Rattle.lab_model.proofs.Common.{None-not-Some, slice_get-within, FineFrom, TableStands, slot_at}
use Rattle.lab_model.proofs.Common.{there-passes, slice_get_within, is_busy, logs_ended, Bool}
use Rattle.lab_model.proofs.Common.{false, [], map, if◌then◌else◌, nat_lt, nil_from_length, le-ltb}
use Rattle.lab_model.proofs.Common.{leb-true, slice_get_past, bio_may, has_come, is_done}
use Rattle.lab_model.proofs.Common.{is_enabled, line_may, LogPlan, LogState, map-member}
use Rattle.lab_model.proofs.Common.{member-place, append-nil, list_any}
use Rattle.lab_model.specs.declared.entry.Action.{Action}
use Rattle.lab_model.specs.declared.piece.Piece.{Piece}
use Rattle.lab_model.proofs.EntryLemmas.{removed-gone, removed-cases}
use Rattle.std.proofs.lemmas.Bool.{eq-eqb}
use Rattle.law_slots.proofs.DoneLemmas.{logs-over, Ended, done-ended, done-gone}
use Rattle.law_never_wrong.specs.Fits.{Fits, FitsParent, FromLine, FromPiece}
use Rattle.law_never_wrong.proofs.LineFits.{FineFrom-line, FineFrom-tables}
use Rattle.law_never_wrong.proofs.FitsKept.{image-of-device, image-of-line}
use Rattle.lab_model.specs.declared.event.Event.{Event}
use Rattle.lab_model.specs.declared.event.Event.TheVariants.{Line, Map, Serve, Release, Finish}
use Rattle.lab_model.specs.declared.event.Event.TheVariants.{Control, Clock}
use Rattle.std.proofs.Math.Bool.{and-false}
use Rattle.law_never_wrong.proofs.NumberedEntries.{any-none}

-- lists of one length have an item at the same numbers
pub same-numbers : {X Y : Type 0} (xs : List X) (ys : List Y) → length ys ≡ length xs → (number : ℕ)
    (x : X) → numbered xs number ≡ Some x → (y : Y) × (numbered ys number ≡ Some y)
same-numbers xs ys long zero x found = absurd (None-not-Some found)
same-numbers xs ys long (suc at) x found = slice_get-within ys at (omega (arith, slice_get_within))

module _ {S : Type 0} (m : Meaning S) (c : Scenario S) (s : State S) (fits : Fits m c s) where
  -- what holds of each bio of a log, and of each child of a bio of which it holds, holds of all
  from-parents : (P : Bio → Type 0)
      → ((number : ℕ) (bio : Bio) (log line : ℕ) (action : Action) → bio_of s number ≡ Some bio
      → bio.parent ≡ FromLog log line action → FromLine c s bio log action → P bio)
      → ((number : ℕ) (bio : Bio) (parent : ℕ) (piece : Piece) (device : ℕ)
      → (from : FromPiece m s number bio parent piece device) → P from.above → P bio)
      → (number : ℕ) (bio : Bio) → bio_of s number ≡ Some bio → P bio
  from-parents P of_line of_piece number bio lives =
      up_to (suc number) number (omega arith) bio lives
    where
      by_parent : (number : ℕ) → ((n : ℕ) → n < number → (b : Bio) → bio_of s n ≡ Some b → P b)
          → (bio : Bio) → bio_of s number ≡ Some bio → (parent : Parent) → bio.parent ≡ parent
          → FitsParent m c s number bio parent → P bio
      by_parent number lower bio lives (FromLog log line action) is from =
          of_line number bio log line action lives is from
      by_parent number lower bio lives (FromBio parent piece) is from =
          of_piece number bio parent piece from.0 from.1
          (lower parent from.1.earlier from.1.above from.1.lives)

      up_to : (bound number : ℕ) → number < bound → (bio : Bio) → bio_of s number ≡ Some bio → P bio
      up_to zero number below bio lives = absurd (omega (arith, below))
      up_to (suc bound) number below bio lives = by_parent number
          (λ n less. up_to bound n (omega (arith, less, below))) bio lives bio.parent refl
          (fits.bios number bio lives).parent

  module _ (ended : logs_ended c s ≡ true) where
    -- no bio of a log lives
    no-line : (number : ℕ) (bio : Bio) (log line : ℕ) (action : Action) → bio_of s number ≡ Some bio
        → bio.parent ≡ FromLog log line action → FromLine c s bio log action → ⊥
    no-line number bio log line action lives parent from =
        let busy : is_busy s log ≡ true = search (rules, there-passes, eq-eqb) in
        let state = same-numbers c.logs s.logs fits.logs log from.plan from.is_log in
        true≢false (sym busy
        ∙ (logs-over c s ended log from.plan state.0 from.is_log state.1).is_free)

    -- so no bio lives
    pub none-lives : (number : ℕ) → bio_of s number ≡ None
    none-lives number = by-entry (bio_of s number) refl
      where
        -- an entry that is there can't be
        by-entry : (o : Option Bio) → bio_of s number ≡ o → o ≡ None
        by-entry None is = refl
        by-entry (Some bio) is = absurd (from-parents (λ b. ⊥) no-line
            (λ n b parent piece device from none. none) number bio is)

  module _ (device : ℕ)
      (fine : FineFrom m c fits.phase (change (devices_image m s.devices) device (λ entry. None))
      (drop (s.done + 1) c.micros)) where
    -- the devices after the removal, as the walk has them
    abbrev after : Devices S
    after = change (devices_image m s.devices) device (λ entry. None)

    -- the device is gone
    gone : slot_at after device ≡ None
    gone = removed-gone (devices_image m s.devices) device

    -- no child of a bio at another device stands there
    piece-not-at : (number : ℕ) (bio : Bio) (parent : ℕ) (piece : Piece) (other : ℕ)
        → FromPiece m s number bio parent piece other
        → slot_at after other ≡ slot_at (devices_image m s.devices) other
        → bio.device ≡ Dm device → ⊥
    piece-not-at number bio parent piece other from stays at_device =
        let there : slot_at after other ≡ Some (slot_image m from.slot) =
        stays ∙ image-of-device m s other from.slot from.stands in
        let slot = FineFrom-tables m c fits.phase after (drop (s.done + 1) c.micros) fine other
        (slot_image m from.slot) there in
        let table : TableStands c after (image m from.table) =
        subst (λ o. IfSome (option_map (image m) o) (TableStands c after)) from.is_live slot.live in
        let reaches = table.inside piece.line (with_target m.shape from.line) bio.kind from.ref
        (image-of-line m from.table piece.line from.line from.is_line) from.refers in
        search (rules, gone)

    -- so no bio stands there
    pub none-at : (number : ℕ) (bio : Bio) → bio_of s number ≡ Some bio → bio.device ≡ Dm device → ⊥
    none-at = from-parents (λ bio. bio.device ≡ Dm device → ⊥)
        (search (rules, None-not-Some, FineFrom-line, gone))
        (λ number bio parent piece other from none at_device.
        elim (removed-cases (devices_image m s.devices) device other) [
          | inl one ↦ none (from.at_device ∙ ap (λ d. Dm d) one.0)
          | inr stays ↦ piece-not-at number bio parent piece other from stays at_device
        ])

module _ {S : Type 0} (c : Scenario S) (s : State S) (long : length s.logs ≡ length c.logs)
    (done : is_done c s ≡ true) where
  -- the script and all logs have ended, and no bio lives
  ended : Ended c s
  ended = done-ended c s done

  -- no bio may do anything
  bio-rests : (number : ℕ) (test : Bio → Bool) → bio_may (bio_of s number) test ≡ false
  bio-rests number test = subst (λ o. bio_may o test ≡ false) (sym (done-gone c s done number)) refl

  -- a log has no line left
  line-rests : (number : ℕ) (o : Option LogPlan) (p : Option LogState)
      → numbered c.logs number ≡ o → numbered s.logs number ≡ p → line_may s number o p ≡ false
  line-rests number o p planned logged = search (rules, logs-over, ended, and-false)

  -- a moment that has come doesn't lie ahead
  come-rests : (moment : ℕ) → has_come s moment ≡ true → nat_lt s.clock moment ≡ false
  come-rests moment come = le-ltb s.clock moment (leb-true moment s.clock come)

  -- no log's moment lies ahead
  logs-rest : (started : Bool) → list_any (λ moment. nat_lt s.clock moment)
      (if started then map (λ log. log.moment) s.logs else []) ≡ false
  logs-rest false = refl
  logs-rest true = any-none _ _ (λ moment at.
      let log = map-member (λ l. l.moment) moment s.logs at in
      let place = member-place log.0 s.logs log.1 in
      let plan = same-numbers s.logs c.logs (sym long) (suc place.0) log.0 place.1 in
      rw (← log.2) (come-rests log.0.moment
      (logs-over c s ended.logs (suc place.0) plan.0 log.0 plan.1 place.1).come))

  -- no event may come
  pub done-rests : (event : Event) → is_enabled c s event ≡ false
  done-rests (Line number) =
      line-rests number (numbered c.logs number) (numbered s.logs number) refl refl
  done-rests (Map number) = bio-rests number _
  done-rests (Serve number) = bio-rests number _
  done-rests (Release number) = bio-rests number _
  done-rests (Finish number) = bio-rests number _
  done-rests Control = search (rules, slice_get_past, leb-true)
  done-rests Clock = search (rules, nil_from_length, append-nil, come-rests, logs-rest)
