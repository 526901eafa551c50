-- A bio that is judged goes into flight with room for its answer, and its children lie inside it. A
-- log that takes a line leaves the bios, and makes one for an operation; so after every run all
-- living bios have recorded what they give.
use Rattle.lab_model.proofs.Common.{rules, ◌≡◌, ◌⊎◌, inl, inr, ℕ, List, Some, drop, refl, sym, ◌∙◌}
use Rattle.lab_model.proofs.Common.{list_any, Read, Lawful, Meaning, Bio, Judgement, children}
use Rattle.lab_model.proofs.Common.{fails, judgements, sent_off, pieces, Scenario, State, bio_of}
use Rattle.lab_model.proofs.Common.{image, devices_image, Some-holds, In, DevicesStand, TableStands}
use Rattle.lab_model.proofs.Common.{[], ◌∷◌, ◌++◌, ap, subst, Entering, IsRun, Fine}
use Rattle.lab_model.proofs.Common.{length-replicate}
use Rattle.law_slots.proofs.ByBio.{Judges, judged_next}
use Rattle.law_never_wrong.specs.Fits.{Fits}
use Rattle.law_never_wrong.proofs.ChildFits.{children-passed, JudgedBy, judgements-allowed}
use Rattle.law_never_wrong.proofs.ChildFits.{no_gap-image}
use Rattle.law_never_wrong.proofs.NumberedEntries.{entries-cases, entry-changed, appended-cases}
use Rattle.law_never_wrong.proofs.LineFits.{FineFrom-tables, live-stands}
use Rattle.law_never_wrong.proofs.PieceLemmas.{pieces-lie}
use Rattle.law_needs_met.proofs.LivedOrNew.{LivedBefore, AllLivedOrNew, IsNew, itself-followed}
use Rattle.law_needs_met.proofs.LivedOrNew.{follows-recorded, staged-followed, answers-follows}
use Rattle.law_needs_met.proofs.Recorded.{IsRecorded, LiesAmong, Recorded}
use Rattle.lab_model.specs.declared.event.Event.{Event}
use Rattle.std.proofs.Common.{append-nil}
use Rattle.law_slots.proofs.WalkRuns.{AfterEach}
use Rattle.law_needs_met.proofs.EventsLeave.{run-keeps}

module _ {S : Type 0} (m : Meaning S) (lawful : Lawful m) (c : Scenario S) (s : State S)
    (fits : Fits m c s) (all : Recorded s) (number : ℕ) (next : State S)
    (is : Judges m s number next) where
  -- the judgements of the bio's pieces
  abbrev judged : List Judgement
  judged = judgements m is.bio.kind s.clock is.table (pieces m is.table is.bio.kind is.bio.span)

  -- the state after them
  abbrev after : State S
  after = judged_next m s number is.bio is.device is.table

  -- what is done to the bio
  abbrev off : Bio → Bio
  off = sent_off (list_any (λ j. fails j.verdict) judged)

  -- each judgement is of a piece that lies in the bio
  judged-allowed : (j : Judgement) → In j judged
      → JudgedBy m is.table is.bio.kind is.bio.span j
  judged-allowed =
      let tables : DevicesStand c (devices_image m s.devices) =
      FineFrom-tables m c fits.phase (devices_image m s.devices) (drop s.done c.micros)
      fits.script in
      let stand : TableStands c (devices_image m s.devices) (image m is.table) =
      live-stands m c s tables fits.disks is.device is.slot is.table is.there is.live in
      judgements-allowed m lawful is.bio.kind is.bio.span s.clock is.table is.table refl
      (pieces m is.table is.bio.kind is.bio.span)
      (search (rules, pieces-lie, no_gap-image))

  -- so does the piece of each child
  child-lies : (j : Judgement) → In j judged → (above : Bio) → bio_of after number ≡ Some above
      → is.bio.kind ≡ Read → LiesAmong above.span j.piece.span
  child-lies j among above there reads =
      let by = judged-allowed j among in
      let same : off is.bio ≡ above =
      Some-holds (sym (entry-changed s.bios number off _ is.bio is.lives) ∙ there) in
      search rules

  -- so each child is recorded
  child-recorded : (child : Bio) → In child (children s.clock is.device number is.bio judged)
      → IsRecorded after child
  child-recorded = children-passed (IsRecorded after) s.clock is.device number is.bio judged
      (λ j below span hold marks among passes. record {
        flown = search rules;
        piece = child-lies j among;
      })

  -- each bio after the judgements lived before, or is a child
  pub judges-follows : AllLivedOrNew s next
  judges-follows = rw is.is (entries-cases (λ n b. LivedBefore s n b ⊎ IsNew s after n b) s.bios
      number off (children s.clock is.device number is.bio judged)
      (search (rules, length-replicate))
      (λ n other apart there. inl (itself-followed s all n other there))
      (λ n child far among. inr (record { behind = far; is = child-recorded child among })))

module _ {S : Type 0} (s : State S) (recorded : Recorded s) where
  -- a bio that is made behind the others
  pushed-follows : (made : Bio) (next : State S) → next.bios ≡ s.bios ++ Some made ∷ []
      → IsRecorded next made → AllLivedOrNew s next
  pushed-follows made next are is number bio lives =
      let there = subst (λ bios. bio_of (record s { bios = bios }) number ≡ Some bio) are lives in
      elim (appended-cases s.bios made number bio there) [
        | inl old ↦ inl (itself-followed s recorded number bio old)
        | inr new ↦ search (rules, IsRecorded)
      ]

module _ {S : Type 0} (m : Meaning S) (lawful : Lawful m) (c : Scenario S) where
  -- each event
  each-follows : (s : State S) → Fits m c s → Recorded s
      → AfterEach m c s (λ event. AllLivedOrNew s)
  each-follows s fits all = record {
    takes = search (rules, pushed-follows, append-nil);
    judges = judges-follows m lawful c s fits all;
    serves = answers-follows m c s fits all;
    finishes = answers-follows m c s fits all;
    releases = λ at may number bio lives. inl (staged-followed s all s.bios (λ n b there. there)
        (λ b. Entering) at (λ old stood. tt) number bio lives);
    steps = λ next is. (search (rules, ap (λ t. t.bios) is.does.is));
    ticks = λ moment among ahead. (search rules);
  }

  -- so each run
  pub runs-recorded : Fine m c → (events : List Event) (s : State S) → IsRun m c events s
      → Recorded s
  runs-recorded fine = run-keeps m lawful c Recorded AllLivedOrNew each-follows
      (follows-recorded m c) fine (search rules)
