-- Each marked bio stays in its group as bios come, go, are marked and come to other stages. Where a
-- bio records what its piece was told, nothing changes of what may come next, nor of what is kept
-- beside the bios.
use Rattle.lab_model.proofs.Common.{rules, ◌≡◌, ◌≢◌, ℕ, ◌<◌, false, List, [], ◌∷◌, ◌++◌, Option}
use Rattle.lab_model.proofs.Common.{Some, length, list_any, Bio, is_bio, Bool, None, refl, ap, sym}
use Rattle.lab_model.proofs.Common.{◌∙◌, arith, option_map, nat_cmp, Told, recorded, recorded_at}
use Rattle.lab_model.proofs.Common.{Stage, InFlight, change_numbered, option_flatten, numbered, Sectors}
use Rattle.lab_model.proofs.Common.{State, length-change_numbered, DevNo, Ram, Dm}
use Rattle.lab_index.specs.Groups.{Groups, is_in}
use Rattle.lab_index.specs.Numbers.{Marks}
use Rattle.lab_bios.proofs.Parents.{log-pushed, log-staged}
use Rattle.lab_bios.specs.Living.{living_of}
use Rattle.lab_bios.specs.Origin.{log_of}
use Rattle.lab_state.specs.Grouped.{IsGrouped, IsGroupedBut, KeepsOthers, IsInGroup, IsKept}
use Rattle.lab_state.specs.Grouped.{group_of, living_group, staged_group}
use Rattle.lab_state.specs.HeldRows.{HeldRows}
use Rattle.lab_state.specs.Index.{is_marked, goes, waits_at, waits_of}
use Rattle.lab_state.proofs.Going.{OneChanges, child-staged, one-staged, listed-changed}
use Rattle.lab_model.specs.declared.parent.Parent.{Parent}
use Rattle.lab_model.specs.declared.parent.Parent.TheVariants.{FromBio, FromLog}
use Rattle.lab_model.specs.declared.piece.Piece.{Piece}
use Rattle.std.proofs.Common.{is_some}
use Rattle.lab_bios.specs.Flights.{flight_of}
use Rattle.lab_bios.specs.Views.{with_stage}
use Rattle.lab_state.specs.Dependents.{DependentRows, depends_on, living_device}
use Rattle.lab_state.specs.Entered.{entered_at, living_entered}
use Rattle.lab_state.specs.Places.{bio_event}
use Rattle.lab_bios.proofs.Sums.{all-kept}
use Rattle.lab_bios.proofs.Numbers.{changed-agree, changed-none}
use Rattle.lab_model.specs.ControlEffect.{piece_held}
use Rattle.lab_state.proofs.Holding.{held-kept}
use Rattle.lab_state.proofs.Modes.{each-but}
use Rattle.lab_state.proofs.Events.{event-alike}
use Rattle.lab_state.proofs.GoingBios.{indexed-alone}
use Rattle.std.specs.FinMap as map

-- a bio that is marked no more needn't be in its group
pub grouped-unmarked : (bios : List (Option Bio)) (old new : Marks) (groups : Groups)
    (number : ℕ) → is_marked new number ≡ false
    → ((other : ℕ) → other ≢ number → is_marked new other ≡ is_marked old other)
    → IsGroupedBut bios old groups number → IsGrouped bios new groups
grouped-unmarked bios old new groups number here others but = search rules

-- where one bio changes and the others come from the logs that they came from, if from any, these
-- are still in their groups
pub grouped-but : {before after : List (Option Bio)} (marks : Marks) {old new : Groups}
    {number parent : ℕ} {now : Option Bio} → OneChanges before after number parent now
    → KeepsOthers old new number
    → (0 < length new → (other : ℕ) → other ≢ number → 0 < log_of after other
    → log_of after other ≡ log_of before other)
    → IsGrouped before marks old → IsGroupedBut after marks new number
grouped-but {before} {after} marks {old} one keeps logs was other apart marked some there =
    search (rules)

-- the others come from the logs that they came from, where one is put behind that none is a
-- piece of
pub logs-pushed : (before after : List (Option Bio)) (number : ℕ) (bio : Bio)
    → number ≡ length after → after ≡ before ++ Some bio ∷ []
    → list_any (λ (b : Bio). is_bio number b.parent) (living_of after) ≡ false
    → (other : ℕ) → other ≢ number → log_of after other ≡ log_of before other
logs-pushed before after number bio last is childless other apart = search (rules, log-pushed)

-- at each stage in flight, whatever is recorded there, it is the same
abbrev FliesAlike : {X : Type 0} → (Stage → X) → Type 0
FliesAlike f = (was is : Bool) (few more : Sectors) → f (InFlight was few) ≡ f (InFlight is more)

-- so what is recorded of a piece doesn't change it
by-recorded : {X : Type 0} (f : Stage → X) (child : Bio) (piece : Piece) (told : Told)
    (parent : Bio) (stage : Stage) → FliesAlike f
    → f (recorded_at child piece told parent stage) ≡ f stage
by-recorded f child piece told parent stage alike = search rules

-- nor whether it is held for a line
held-alike : (device line : ℕ) (parent : Parent) → FliesAlike (piece_held device line parent)
held-alike device line (FromLog log at action) was is few more = refl
held-alike device line (FromBio number piece) was is few more = refl

-- nor does it change what a device decides, too
by-device : {X : Type 0} (f : DevNo → Stage → X) (device : DevNo)
    → ((disk : ℕ) → FliesAlike (f (Ram disk))) → ((mapped : ℕ) → FliesAlike (f (Dm mapped)))
    → FliesAlike (f device)
by-device f (Ram disk) ram dm = ram disk
by-device f (Dm mapped) ram dm = dm mapped

module _ {S : Type 0} (s : State S) (after : List (Option Bio)) (number : ℕ) (child : Bio)
    (piece : Piece) (told : Told) (bio : Bio)
    (lives : option_flatten (numbered s.bios number) ≡ Some bio)
    (is : after ≡ change_numbered s.bios number (option_map (recorded child piece told))) where
  -- its stage after it
  abbrev stage : Stage
  stage = recorded_at child piece told bio bio.stage

  -- it comes to that stage
  staged : after ≡ change_numbered s.bios number (option_map (with_stage stage))
  staged = search (rules, changed-agree)

  -- and nothing else changes
  one : OneChanges s.bios after number number (Some (with_stage stage bio))
  one = one-staged s.bios after number bio stage lives staged

  -- what its device and its stage decide is as it was
  same : {X : Type 0} (f : DevNo → Stage → X) → ((disk : ℕ) → FliesAlike (f (Ram disk)))
      → ((mapped : ℕ) → FliesAlike (f (Dm mapped))) → f bio.device stage ≡ f bio.device bio.stage
  same f ram dm =
      by-recorded (f bio.device) child piece told bio bio.stage (by-device f bio.device ram dm)

  -- it may go on where it could before
  goes-here : goes (record s { bios = after }) number ≡ goes s number
  goes-here = rw (one.here, lives) (ap is_some
      (event-alike s (record s { bios = after }) number bio.device stage (record {
        runs = λ at its. refl;
        come = λ due its. refl;
        child = rw staged (child-staged s.bios number stage number);
      })
      ∙ same (bio_event s number) (λ disk was is few more. refl) (λ mapped was is few more. refl)))

  -- it has the group that it had
  group-here : group_of after number ≡ group_of s.bios number
  group-here = ap (living_group (log_of after number)) one.here
      ∙ ap (λ log. staged_group log stage) (rw staged (log-staged s.bios number stage number))
      ∙ by-recorded (staged_group (log_of s.bios number)) child piece told bio bio.stage
      (λ was is few more. refl) ∙ sym (ap (living_group (log_of s.bios number)) lives)

  -- so all that is kept beside the bios is right
  kept-one : {marks : Marks} {groups : Groups} {held : map.FinMap nat_cmp ℕ} {rows : DependentRows}
      {lines : HeldRows} {is_counted : Bool} {flights : List ℕ}
      → IsKept s marks groups held rows lines is_counted flights
      → IsKept (record s { bios = after }) marks groups held rows lines is_counted flights
  kept-one {marks} {groups} {held} {rows} {lines} {is_counted} {flights} was =
      let keeps : KeepsOthers groups groups number =
      record { count = omega arith; others = λ group other apart small. refl } in
      record {
        indexed = indexed-alone s after one was.indexed
            (omega (
              arith,
              ap length is,
              length-change_numbered s.bios (option_map (recorded child piece told)) number,
              was.indexed.marked.reach,
            ))
            (record {
              here = was.indexed.marked.ready number ∙ sym goes-here;
              others = λ other apart. refl;
              reach = refl;
            }) (was.indexed.waits number ∙ ap (waits_of s.clock) lives
            ∙ sym (by-recorded (waits_at s.clock) child piece told bio bio.stage
            (λ was is few more. refl))) (λ other apart. refl);
        grouped = each-but (IsInGroup after marks groups) number
            (λ marked some small. let here = group-here in
            ap (λ group. is_in groups group number) here
            ∙ was.grouped number marked (omega arith) (omega arith))
            (grouped-but marks one keeps (λ _ other apart _. rw staged
            (log-staged s.bios number stage other)) was.grouped);
        listed = listed-changed rows rows one was.listed (λ other there. there) (record {
          row = λ device its. (was.listed number).row device
              (ap living_device lives ∙ sym (ap living_device one.here
              ∙ same depends_on (λ disk was is few more. refl) (λ mapped was is few more. refl))
              ∙ its);
          known = λ some. ap living_entered one.here
              ∙ same entered_at (λ disk was is few more. refl) (λ mapped was is few more. refl)
              ∙ sym (ap living_entered lives) ∙ (was.listed number).known some;
        });
        lines = held-kept number bio lives was.lines stage staged (λ device line.
            by-recorded (piece_held device line bio.parent) child piece told bio bio.stage
            (held-alike device line bio.parent));
        counted = λ on. all-kept s.bios after flights (was.counted on) number bio stage lives staged
            (same flight_of (λ disk was is few more. refl) (λ mapped was is few more. refl));
      }

-- none of the number lives, and nothing changes; or one does, which records what its piece was told
pub kept-recorded : {S : Type 0} {s : State S} {marks : Marks} {groups : Groups}
    {held : map.FinMap nat_cmp ℕ} {rows : DependentRows} {lines : HeldRows} {is_counted : Bool}
    {flights : List ℕ} (after : List (Option Bio)) (number : ℕ) (child : Bio) (piece : Piece) (told : Told)
    → after ≡ change_numbered s.bios number (option_map (recorded child piece told))
    → IsKept s marks groups held rows lines is_counted flights
    → IsKept (record s { bios = after }) marks groups held rows lines is_counted flights
kept-recorded {S} {s} {marks} {groups} {held} {rows} {lines} {is_counted} {flights} after number child
    piece told is was = by_entry (option_flatten (numbered s.bios number)) refl
  where
    by_entry : (entry : Option Bio) → option_flatten (numbered s.bios number) ≡ entry
        → IsKept (record s { bios = after }) marks groups held rows lines is_counted flights
    by_entry None none =
        rw (is, changed-none s.bios number (option_map (recorded child piece told)) refl none) was
    by_entry (Some bio) lives = kept-one s after number child piece told bio lives is was
