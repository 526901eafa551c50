-- What is known of the disks and of the living writes, as it is followed along a run, is what
-- their bytes are.
use Rattle.lab_model.proofs.Common.{◌≡◌, ◌≢◌, ◌∙◌, ◌-◌, ◌≤◌, ℕ, Bio, Lawful, Meaning, Next}
use Rattle.lab_model.proofs.Common.{None-not-Some, Scenario, Some, State, Write, ap, arith, bio_of}
use Rattle.lab_model.proofs.Common.{effect, inl, inr, is_enabled, length, refl, slice_get, sym}
use Rattle.lab_model.proofs.Common.{true}
use Rattle.lab_image.specs.Images.{Image, image_heard, image_next}
use Rattle.law_slots.proofs.ByLine.{Takes, Then-at, line-does, made_by}
use Rattle.law_never_wrong.proofs.NumberedEntries.{behind-cases}
use Rattle.law_sectors_touched.proofs.Descent.{Stayed}
use Rattle.law_bytes_carried.proofs.Words.{Clock, Control, Event, Finish, Fits, IsAnswered, Leaves}
use Rattle.law_bytes_carried.proofs.Words.{Line, Map, Release, Serve, answered-leaves, entry_at}
use Rattle.law_bytes_carried.proofs.Words.{entry-within, finishing-of, line-leaves, map-gives}
use Rattle.law_bytes_carried.proofs.Words.{moved, release-leaves, sent, serving-of, told-each}
use Rattle.law_writers.proofs.AllMade.{MadeBehind, UpTo, all-made, made-disks}
use Rattle.law_writers.proofs.Carrying.{Carries, Stood, carried-on}
use Rattle.law_writers.proofs.Coming.{Comes, leaves-come, line-made, sent-come}
use Rattle.law_writers.proofs.Disks.{answered-disks}
use Rattle.law_writers.proofs.Forgetting.{HearsOf, serve-hears, finish-hears, finish-disks}
use Rattle.law_writers.proofs.Landing.{DisksHave, same-have, serve-have}
use Rattle.law_writers.proofs.Quiet.{event-stays, same-leaves}
use Rattle.law_writers.specs.RowsTell.{fills}

-- what holds wherever a run stands: disks have the bytes that are known to stand there, and living
-- writes carry those that are known of them
pub record Has {S : Type 0} (m : Meaning S) (c : Scenario S) (s : State S) (image : Image) : Type 0
  where
    pub fits : Fits m c s
    pub disks : DisksHave s image.disks
    pub bios : (n : ℕ) (bio : Bio) → bio_of s n ≡ Some bio → bio.kind ≡ Write
        → Carries fills image.bios n bio.sectors

-- what is known of a bio that was there is known on
kept-carries : {S : Type 0} (s : State S) (event : Event) (gone : ℕ) (image : Image)
    → HearsOf s event gone image → (n : ℕ) (bio : Bio) → n ≢ gone → (stay : Stayed s n bio)
    → Carries fills image.bios n stay.old.sectors
    → Carries fills (image_heard s event image).bios n bio.sectors
kept-carries s event gone image hears n bio apart stay carries i bytes at =
    carried-on (hears n i apart)
    (carries i bytes (ap (λ b. slice_get b.sectors i) (sym stay.same) ∙ at))

-- where all bios come so, and the disks have what is known when it is heard, it goes on
event-has : {S : Type 0} {m : Meaning S} {c : Scenario S} {s next : State S} {image : Image}
    → Has m c s image → Fits m c next → (event : Event) (at : ℕ) → HearsOf s event at image
    → DisksHave next (image_heard s event image).disks
    → ((n : ℕ) (bio : Bio) → bio_of next n ≡ Some bio → Comes s at next n bio)
    → Has m c next (image_next s next event image)
event-has {s = s} {next} {image} has fits event at hears disks comes = record {
  fits = fits;
  disks = same-have next next refl (made-disks next (length next.bios - length s.bios)
      (length s.bios) (image_heard s event image)) disks;
  bios = λ n bio lives. all-made next (length next.bios - length s.bios) (length s.bios)
      (image_heard s event image) made up n bio (omega (arith, entry-within next.bios n bio lives))
      lives;
}
  where
    made : MadeBehind next (length s.bios)
    made n bio high lives writes = elim (comes n bio lives) [
      | inl was ↦ absurd (omega (arith, high, entry-within s.bios n was.1.old was.1.stood))
      | inr new ↦ new.1 writes
    ]

    up : UpTo next (length s.bios) (image_heard s event image)
    up n bio low lives writes = elim (comes n bio lives) [
      | inl was ↦ kept-carries s event at image hears n bio was.0 was.1
          (has.bios n was.1.old was.1.stood (ap (λ b. b.kind) (sym was.1.same) ∙ writes))
      | inr new ↦ absurd (omega (arith, low, new.0))
    ]

-- nothing changes of what is known where an event neither judges nor answers
quiet-hears : (image : Image) (n i : ℕ) → Stood image.bios n i image.bios n i
quiet-hears image n i = record { writers = refl; changes = refl }

module _ {S : Type 0} {m : Meaning S} (lawful : Lawful m) {c : Scenario S} {s : State S}
    {image : Image} (has : Has m c s image) (next : State S) (fits : Fits m c next) where
  -- where no bio comes
  quiet-has : (event : Event) {at : ℕ} → HearsOf s event at image → Leaves s at next
      → ((n : ℕ) (bio : Bio) → bio_of next n ≡ Some bio → n ≤ length s.bios)
      → DisksHave next (image_heard s event image).disks
      → Has m c next (image_next s next event image)
  quiet-has event {at} hears leaves old disks =
      event-has has fits event at hears disks (leaves-come leaves old)

  -- no bio comes where as many are numbered
  none-comes : length next.bios ≡ length s.bios → (n : ℕ) (bio : Bio) → bio_of next n ≡ Some bio
      → n ≤ length s.bios
  none-comes count n bio lives = omega (arith, count, entry-within next.bios n bio lives)

  -- nor where one is answered
  answer-none : {at : ℕ} → IsAnswered s at next → (n : ℕ) (bio : Bio) → bio_of next n ≡ Some bio
      → n ≤ length s.bios
  answer-none by n bio lives = elim (told-each by n bio lives).1 [
    | inl was ↦ entry-within s.bios n bio was.0
    | inr told ↦ entry-within s.bios n told.old told.stood
  ]

  -- where a log takes a line
  line-has : (log : ℕ) → is_enabled c s (Line log) ≡ true → effect m c s (Line log) ≡ Next next
      → Has m c next (image_next s next (Line log) image)
  line-has log may leads = event-has has fits (Line log) 0 (λ n i apart. quiet-hears image n i)
      (same-have s next (event-stays m c s (Line log) next may leads) refl has.disks) come
    where
      come : (n : ℕ) (bio : Bio) → bio_of next n ≡ Some bio → Comes s 0 next n bio
      come n bio lives =
          let takes = Then-at (Takes c s log) _ next (line-does c s log may) leads in
          let leaves = (line-leaves m c s next log may leads).leaves in
          let stands = ap (λ t. entry_at t.bios n) (sym takes.does.is) ∙ lives in
          elim (behind-cases s.bios (made_by log takes.from.line.number takes.from.line.entry
          takes.from.line.device) n bio stands) [
            | inl old ↦ elim (leaves.each n bio lives) [
              | inl kept ↦ inl (
                (λ same. None-not-Some (ap (bio_of next) (sym same) ∙ lives)),
                kept.stayed,
              )
              | inr new ↦ absurd (omega (arith, new.behind, entry-within s.bios n bio old))
            ]
            | inr new ↦ inr (
              new.0,
              line-made next n log takes.from.line.number
                  takes.from.line.entry takes.from.line.device bio new.1,
            )
          ]

  -- where a table judges a bio
  map-has : (at : ℕ) → is_enabled c s (Map at) ≡ true → effect m c s (Map at) ≡ Next next
      → Has m c next (image_next s next (Map at) image)
  map-has at may leads = map-gives lawful has.fits at
      (λ t. Fits m c t → Has m c t (image_next s t (Map at) image))
      (λ j fits. event-has has fits (Map at) 0 (λ n i apart. quiet-hears image n i)
      (same-have s (sent j) refl refl has.disks) (sent-come j)) may next leads fits

  -- with each event it goes on
  pub kept-has : (event : Event) → is_enabled c s event ≡ true → effect m c s event ≡ Next next
      → Has m c next (image_next s next event image)
  kept-has (Line log) may leads = line-has log may leads
  kept-has (Map at) may leads = map-has at may leads
  kept-has (Serve at) may leads =
      let v = serving-of m c s next at may leads in
      let by = moved m c s (Serve at) next may leads in
      quiet-has (Serve at) (serve-hears image v) (answered-leaves by) (answer-none by)
      (serve-have has.fits v image has.disks (has.bios at v.bio v.lives))
  kept-has (Release at) may leads =
      let stays = event-stays m c s (Release at) next may leads in
      quiet-has (Release at) (λ n i apart. quiet-hears image n i)
      (release-leaves m c s next at may leads).leaves (none-comes stays.count)
      (same-have s next stays.disks refl has.disks)
  kept-has (Finish at) may leads =
      let f = finishing-of m c s next at may leads in
      let by = moved m c s (Finish at) next may leads in
      quiet-has (Finish at) (finish-hears image f) (answered-leaves by) (answer-none by)
      (same-have s next (ap (λ t. t.disks) f.next_is ∙ answered-disks s at f.bio _)
      (finish-disks image f) has.disks)
  kept-has Control may leads =
      let stays = event-stays m c s Control next may leads in
      quiet-has Control (λ n i apart. quiet-hears image n i) (same-leaves s next stays.1).leaves
      (none-comes (ap length stays.1)) (same-have s next stays.0 refl has.disks)
  kept-has Clock may leads =
      let stays = event-stays m c s Clock next may leads in
      quiet-has Clock (λ n i apart. quiet-hears image n i) (same-leaves s next stays.1).leaves
      (none-comes (ap length stays.1)) (same-have s next stays.0 refl has.disks)
