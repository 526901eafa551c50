-- How many bios are held for each line, as bios come, go, come to other stages and are looked at one
-- after another.
use Rattle.lab_model.proofs.Common.{rules, arith, ◌≡◌, ◌∙◌, ℕ, ◌+◌, ◌-◌, ◌<◌, ◌≤◌, ◌^◌}
use Rattle.lab_model.proofs.Common.{◌==◌, ◌&&◌, Bool, cond, List, [], ◌∷◌, ◌++◌, Option, false}
use Rattle.lab_model.proofs.Common.{Some, None, IfSome, Bio, Kind, Stage, Held}
use Rattle.lab_model.proofs.Common.{ap, sym, length, count_by, option_map, InFlight, Entering}
use Rattle.lab_model.proofs.Common.{bio_may, due_of, change_numbered, numbered, option_flatten}
use Rattle.lab_bios.specs.Living.{living_of}
use Rattle.lab_bios.specs.Views.{with_stage}
use Rattle.lab_bios.proofs.Sums.{counted-few, summed-changed, summed-gone, summed-push}
use Rattle.lab_bios.proofs.Walks.{counted-may, left_from, left-none}
use Rattle.lab_index.specs.Lists.{AreGoneFrom, IsNextFrom}
use Rattle.lab_model.specs.declared.parent.Parent.{Parent}
use Rattle.lab_model.specs.declared.parent.Parent.TheVariants.{FromBio, FromLog}
use Rattle.lab_model.specs.ControlEffect.{is_change, is_flush, is_read, piece_held}
use Rattle.lab_state.specs.declared.held_place.HeldPlace.{HeldPlace}
use Rattle.lab_state.specs.HeldRows.{AreEmpty, AreHeldCounted, HasRoom, HaveRoom, HeldRows}
use Rattle.lab_state.specs.HeldRows.{change_place, counts_at, held_among, living_place, place_at}
use Rattle.lab_state.specs.HeldRows.{place_of, nothing, with_kind, without_kind}
use Rattle.lab_state.proofs.HeldPlaces.{at_place, if-mapped, if-weaker, one-less, one-more, place-at}
use Rattle.lab_state.proofs.HeldPlaces.{same-counts}
use Rattle.lab_target.specs.declared.verdict.Held.{Held as HeldCounts}

-- whether a bio of some kinds is held for a piece of a line of a device
abbrev pub is_held : ℕ → ℕ → (Kind → Bool) → Bio → Bool
is_held device line kinds bio = kinds bio.kind && piece_held device line bio.parent bio.stage

-- what a bio, if it lives, adds to the count of those kinds
abbrev pub one_held : ℕ → ℕ → (Kind → Bool) → Option Bio → ℕ
one_held device line kinds bio = cond (bio_may bio (is_held device line kinds)) 1 0

-- how many bios of those kinds are held
abbrev pub of_kind : ℕ → ℕ → (Kind → Bool) → List (Option Bio) → ℕ
of_kind device line kinds bios = count_by (is_held device line kinds) (living_of bios)

-- the counts with a bio, if it lives and is held
abbrev pub with_bio : ℕ → ℕ → Option Bio → HeldCounts → HeldCounts
with_bio device line bio held = record {
  reads = held.reads + one_held device line is_read bio;
  writes = held.writes + one_held device line is_change bio;
  flushes = held.flushes + one_held device line is_flush bio;
}

-- and without it
abbrev pub without_bio : ℕ → ℕ → Option Bio → HeldCounts → HeldCounts
without_bio device line bio held = record {
  reads = held.reads - one_held device line is_read bio;
  writes = held.writes - one_held device line is_change bio;
  flushes = held.flushes - one_held device line is_flush bio;
}

module _ (device line : ℕ) (held : HeldCounts) where
  -- nothing is added where none is held
  none-more : (kind : Kind) → held ≡ record {
    reads = held.reads + cond (is_read kind && false) 1 0;
    writes = held.writes + cond (is_change kind && false) 1 0;
    flushes = held.flushes + cond (is_flush kind && false) 1 0;
  }
  none-more kind = one-more false kind held

  -- nor taken off
  none-less : (kind : Kind) → held ≡ record {
    reads = held.reads - cond (is_read kind && false) 1 0;
    writes = held.writes - cond (is_change kind && false) 1 0;
    flushes = held.flushes - cond (is_flush kind && false) 1 0;
  }
  none-less kind = one-less false kind held

  -- a change at the place of a bio counts it, by its parent and its stage
  counts-at : (kind : Kind) (parent : Parent) (stage : Stage)
      → at_place with_kind (place_at kind parent stage) device line held ≡ record {
        reads = held.reads + cond (is_read kind && piece_held device line parent stage) 1 0;
        writes = held.writes + cond (is_change kind && piece_held device line parent stage) 1 0;
        flushes = held.flushes + cond (is_flush kind && piece_held device line parent stage) 1 0;
      }
  counts-at kind (FromLog log at action) stage = none-more kind
  counts-at kind (FromBio number piece) Entering = none-more kind
  counts-at kind (FromBio number piece) (Held due holder) =
      one-more (holder == device && piece.line == line) kind held
  counts-at kind (FromBio number piece) (InFlight failed answered) = none-more kind

  -- or counts it off
  uncounts-at : (kind : Kind) (parent : Parent) (stage : Stage)
      → at_place without_kind (place_at kind parent stage) device line held ≡ record {
        reads = held.reads - cond (is_read kind && piece_held device line parent stage) 1 0;
        writes = held.writes - cond (is_change kind && piece_held device line parent stage) 1 0;
        flushes = held.flushes - cond (is_flush kind && piece_held device line parent stage) 1 0;
      }
  uncounts-at kind (FromLog log at action) stage = none-less kind
  uncounts-at kind (FromBio number piece) Entering = none-less kind
  uncounts-at kind (FromBio number piece) (Held due holder) =
      one-less (holder == device && piece.line == line) kind held
  uncounts-at kind (FromBio number piece) (InFlight failed answered) = none-less kind

  -- so does one at the place of a bio that may live
  counts-living : (bio : Option Bio)
      → at_place with_kind (living_place bio) device line held ≡ with_bio device line bio held
  counts-living None = same-counts _ _ (omega arith) (omega arith) (omega arith)
  counts-living (Some bio) = counts-at bio.kind bio.parent bio.stage

  -- or takes it off
  uncounts-living : (bio : Option Bio) → at_place without_kind (living_place bio) device line held
      ≡ without_bio device line bio held
  uncounts-living None = same-counts _ _ (omega arith) (omega arith) (omega arith)
  uncounts-living (Some bio) = uncounts-at bio.kind bio.parent bio.stage

module _ (device line : ℕ) (kinds : Kind → Bool) (before after : List (Option Bio)) (bio : Bio) where
  -- one that is put behind adds its own
  kind-pushed : after ≡ before ++ Some bio ∷ [] → of_kind device line kinds after
      ≡ of_kind device line kinds before + one_held device line kinds (Some bio)
  kind-pushed is =
      rw is (summed-push (λ b. one_held device line kinds (Some b)) before bio)

  module _ (number : ℕ) (lives : option_flatten (numbered before number) ≡ Some bio) where
    -- one that is taken out had added its own
    kind-gone : after ≡ change_numbered before number (λ _. None) → of_kind device line kinds after
        + one_held device line kinds (Some bio) ≡ of_kind device line kinds before
    kind-gone is =
        rw is (summed-gone (λ b. one_held device line kinds (Some b)) before number bio lives)

    -- one that comes to another stage adds by that one
    kind-staged : (stage : Stage)
        → after ≡ change_numbered before number (option_map (with_stage stage))
        → of_kind device line kinds after + one_held device line kinds (Some bio)
        ≡ of_kind device line kinds before
        + one_held device line kinds (Some (with_stage stage bio))
    kind-staged stage is = rw is (summed-changed (λ b. one_held device line kinds (Some b))
        (with_stage stage) before number bio lives)

-- at a stage without a moment none is held
not-held : (device line : ℕ) (kinds : Kind → Bool) (bio : Bio) (stage : Stage)
    → due_of stage ≡ None → one_held device line kinds (Some (with_stage stage bio)) ≡ 0
not-held device line kinds bio stage free = search rules

-- where the counts of a line are changed as those of its bios are, they are still right
changed-counts : (f : Kind → HeldCounts → HeldCounts) {before after : List (Option Bio)}
    (place : Option HeldPlace) {rows : HeldRows} → AreHeldCounted before rows
    → ((device line : ℕ) → at_place f place device line (held_among before device line)
    ≡ held_among after device line) → AreHeldCounted after (change_place f place rows)
changed-counts f {before} {after} place {rows} was alike = record {
  each = λ device line. rw (place-at f place rows device line)
      (if-mapped (at_place f place device line)
      (λ held. held ≡ held_among before device line) (λ held. held ≡ held_among after device line)
      (counts_at rows device line)
      (λ held is. ap (at_place f place device line) is ∙ alike device line) (was.each device line));
}

-- a bio that is put behind is counted at its place
pub held-pushed : {before after : List (Option Bio)} {rows : HeldRows} (number : ℕ) (bio : Bio)
    → option_flatten (numbered after number) ≡ Some bio → after ≡ before ++ Some bio ∷ []
    → AreHeldCounted before rows
    → AreHeldCounted after (change_place with_kind (place_of after number) rows)
held-pushed {before} {after} {rows} number bio here is was =
    rw here (changed-counts with_kind (living_place (Some bio)) was (λ device line.
    let one = λ (kinds : Kind → Bool). kind-pushed device line kinds before after bio is in
    counts-living device line (held_among before device line) (Some bio)
    ∙ same-counts _ _ (sym (one is_read)) (sym (one is_change)) (sym (one is_flush))))

-- where none of the number lives, none is counted off
pub held-none : {bios : List (Option Bio)} {rows : HeldRows} (number : ℕ)
    → option_flatten (numbered bios number) ≡ None → AreHeldCounted bios rows
    → AreHeldCounted bios (change_place without_kind (place_of bios number) rows)
held-none number none was = rw none was

module _ {before after : List (Option Bio)} {rows : HeldRows} (number : ℕ) (bio : Bio)
    (lives : option_flatten (numbered before number) ≡ Some bio)
    (was : AreHeldCounted before rows) where
  -- where it counts no more, it is counted off at its place
  uncounted : ((device line : ℕ) (kinds : Kind → Bool) → of_kind device line kinds after
      + one_held device line kinds (Some bio) ≡ of_kind device line kinds before)
      → AreHeldCounted after (change_place without_kind (place_of before number) rows)
  uncounted less = rw lives (changed-counts without_kind {before = before} {after = after}
      (living_place (Some bio)) was (λ device line.
      let reads = less device line is_read in
      let writes = less device line is_change in
      let flushes = less device line is_flush in
      uncounts-living device line (held_among before device line) (Some bio)
      ∙ same-counts _ (held_among after device line) (omega (arith, reads)) (omega (arith, writes))
      (omega (arith, flushes))))

  -- one that is taken out doesn't
  pub held-gone : after ≡ change_numbered before number (λ _. None)
      → AreHeldCounted after (change_place without_kind (place_of before number) rows)
  held-gone is =
      uncounted (λ device line kinds. kind-gone device line kinds before after bio number lives is)

  -- nor does one that comes to a stage at which it isn't held
  pub held-staged : (stage : Stage)
      → after ≡ change_numbered before number (option_map (with_stage stage))
      → due_of stage ≡ None
      → AreHeldCounted after (change_place without_kind (place_of before number) rows)
  held-staged stage is free = uncounted (λ device line kinds.
      let staged = kind-staged device line kinds before after bio number lives stage is in
      let none = not-held device line kinds bio stage free in omega (arith, staged, none))

  -- one that is held as before leaves all counts
  pub held-kept : (stage : Stage)
      → after ≡ change_numbered before number (option_map (with_stage stage))
      → ((device line : ℕ)
      → piece_held device line bio.parent stage ≡ piece_held device line bio.parent bio.stage)
      → AreHeldCounted after rows
  held-kept stage is same = record {
    each = λ device line. if-weaker (λ held. held ≡ held_among before device line)
        (λ held. held ≡ held_among after device line) (counts_at rows device line)
        (λ held right. right ∙ same-counts _ _ (kept device line is_read)
        (kept device line is_change) (kept device line is_flush)) (was.each device line);
  }
    where
      -- so many are held as before
      kept : (device line : ℕ) (kinds : Kind → Bool)
          → of_kind device line kinds before ≡ of_kind device line kinds after
      kept device line kinds =
          let staged = kind-staged device line kinds before after bio number lives stage is in
          let alike = ap {B = ℕ} (λ here. cond (kinds bio.kind && here) 1 0) (same device line) in
          omega (arith, staged, alike)

-- no more bios are held than were made, so that each count can be raised
pub room-behind : (bios : List (Option Bio)) (rows : HeldRows) → AreHeldCounted bios rows
    → length bios + 1 < 2 ^ 64 → HaveRoom rows
room-behind bios rows was fits device line =
    let few = λ (kinds : Kind → Bool). counted-few (is_held device line kinds) bios in
    if-weaker (λ held. held ≡ held_among bios device line) HasRoom (counts_at rows device line)
    (λ held is. rw is (record {
      reads = omega (arith, few is_read);
      writes = omega (arith, few is_change);
      flushes = omega (arith, few is_flush);
    })) (was.each device line)

-- what is counted for a line makes, with what is held of the bios from a number on, all that is held
pub record IsCountedTo (bios : List (Option Bio)) (device line from : ℕ) (held : HeldCounts)
    : Type 0 where
  pub reads : held.reads + count_by (is_held device line is_read) (left_from from bios)
      ≡ of_kind device line is_read bios
  pub writes : held.writes + count_by (is_held device line is_change) (left_from from bios)
      ≡ of_kind device line is_change bios
  pub flushes : held.flushes + count_by (is_held device line is_flush) (left_from from bios)
      ≡ of_kind device line is_flush bios
  pub few_reads : held.reads < from
  pub few_writes : held.writes < from
  pub few_flushes : held.flushes < from

-- that is so for each line whose counts are kept
pub record AreCountedTo (bios : List (Option Bio)) (rows : HeldRows) (from : ℕ) : Type 0 where
  pub each : (device line : ℕ)
      → IfSome (counts_at rows device line) (IsCountedTo bios device line from)

-- before the first none is counted
pub counted-first : (bios : List (Option Bio)) (rows : HeldRows) → AreEmpty rows
    → AreCountedTo bios rows 1
counted-first bios rows empty = record {
  each = λ device line. if-weaker (λ held. held ≡ nothing) (IsCountedTo bios device line 1)
      (counts_at rows device line) (λ held none. rw none (record {
        reads = omega arith;
        writes = omega arith;
        flushes = omega arith;
        few_reads = omega arith;
        few_writes = omega arith;
        few_flushes = omega arith;
      })) (empty device line);
}

-- at most one is counted of each
one-small : (here : Bool) → cond here 1 0 ≤ 1
one-small here = search (rules, arith)

module _ {bios : List (Option Bio)} {rows : HeldRows} {from : ℕ}
    (so_far : AreCountedTo bios rows from) where
  -- the next one is counted at its place
  pub counted-next : (number : ℕ) → IsNextFrom bios from number
      → AreCountedTo bios (change_place with_kind (place_of bios number) rows) (number + 1)
  counted-next number next = record {
    each = λ device line. rw (place-at with_kind (place_of bios number) rows device line)
        (if-mapped (at_place with_kind (place_of bios number) device line)
        (IsCountedTo bios device line from) (IsCountedTo bios device line (number + 1))
        (counts_at rows device line) (λ held was. rw (counts-living device line held (option_flatten (numbered bios number)))
        (one-more device line held was)) (so_far.each device line));
  }
    where
      -- of each line
      one-more : (device line : ℕ) (held : HeldCounts) → IsCountedTo bios device line from held
          → IsCountedTo bios device line (number + 1)
          (with_bio device line (option_flatten (numbered bios number)) held)
      one-more device line held was =
          let upto = next.from in
          let may = λ (kinds : Kind → Bool).
          counted-may bios from number (is_held device line kinds) next in
          let small = λ (kinds : Kind → Bool).
          one-small (bio_may (option_flatten (numbered bios number)) (is_held device line kinds)) in
          record {
            reads = omega (arith, may is_read, was.reads);
            writes = omega (arith, may is_change, was.writes);
            flushes = omega (arith, may is_flush, was.flushes);
            few_reads = omega (arith, small is_read, was.few_reads, upto);
            few_writes = omega (arith, small is_change, was.few_writes, upto);
            few_flushes = omega (arith, small is_flush, was.few_flushes, upto);
          }

  -- each count is below the next number, so that it can be raised
  pub room-to : (number : ℕ) → from ≤ number → number + 1 < 2 ^ 64 → HaveRoom rows
  room-to number upto fits device line = if-weaker (IsCountedTo bios device line from) HasRoom
      (counts_at rows device line) (λ held was. record {
        reads = omega (arith, was.few_reads);
        writes = omega (arith, was.few_writes);
        flushes = omega (arith, was.few_flushes);
      }) (so_far.each device line)

  -- where none is left, all are counted
  pub counted-all : AreGoneFrom bios from → AreHeldCounted bios rows
  counted-all gone = record {
    each = λ device line.
        let none = λ (kinds : Kind → Bool).
        ap (count_by (is_held device line kinds)) (left-none bios from gone) in
        if-weaker (IsCountedTo bios device line from) (λ held. held ≡ held_among bios device line)
        (counts_at rows device line) (λ held was. same-counts held (held_among bios device line)
        (omega (arith, none is_read, was.reads)) (omega (arith, none is_change, was.writes))
        (omega (arith, none is_flush, was.flushes))) (so_far.each device line);
  }
