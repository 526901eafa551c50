-- A state still fits where a bio that has no child is answered, where a disk serves it or it is
-- finished; where a held bio goes on; and where the clock does.
use Rattle.lab_model.proofs.Common.{rules, arith, ◌≡◌, ℕ, true, false, List, [], Some, inl, length}
use Rattle.lab_model.proofs.Common.{refl, sym, ap, true≢false, None, ◌∙◌, Option, ◌<◌, Bool, ◌∷◌}
use Rattle.lab_model.proofs.Common.{option_map, not-true, DevNo, Ram, Dm, Kind, Read, Write, Next}
use Rattle.lab_model.proofs.Common.{Trim, Flush, Meaning, Gave, Told, recorded, recorded_at}
use Rattle.lab_model.proofs.Common.{told_to, without_bio, Bio, Stage}
use Rattle.lab_model.specs.declared.parent.Parent.{Parent}
use Rattle.lab_model.specs.declared.parent.Parent.TheVariants.{FromLog, FromBio}
use Rattle.lab_model.proofs.Common.{Entering, served, with_disk, nat_le, ◌+◌, unless}
use Rattle.lab_model.proofs.Common.{effect, bio_serves, is_bio, is_enabled, Scenario, Sectors}
use Rattle.lab_model.proofs.Common.{filled, part, put, Disk, State, bio_of, disk_of, bio_may-gives}
use Rattle.lab_model.proofs.Common.{change_numbered, devices_image, list_all, bio_releases, moments}
use Rattle.lab_model.proofs.Common.{Held}
use Rattle.lab_model.specs.After.{NoDevice, PastEnd, given}
use Rattle.lab_model.specs.Tables.{end_of}
use Rattle.lab_model.specs.declared.event.Event.TheVariants.{Serve, Finish, Release, Clock}
use Rattle.lab_model.specs.declared.piece.Piece.{Piece}
use Rattle.std.proofs.lemmas.Bool.{ne_eqb}
use Rattle.lab_model.specs.Answers.{answered as answered_state}
use Rattle.law_slots.proofs.ByBio.{told_to-aside}
use Rattle.law_slots.proofs.LogsStand.{told_to-length}
use Rattle.lab_model.proofs.LeastAhead.{least-is, least-there}
use Rattle.law_never_wrong.specs.Fits.{Fits, FitsDevice, FitsDisks, FitsParent}
use Rattle.law_never_wrong.specs.NeverWrong.{Goes}
use Rattle.law_never_wrong.proofs.DiskLemmas.{length-filled, length-put-span, with_disk-fits}
use Rattle.law_never_wrong.proofs.NumberedEntries.{entry-fails, removed-cases, removed-there}
use Rattle.law_never_wrong.proofs.NumberedEntries.{entry_at}
use Rattle.law_never_wrong.proofs.Survives.{changed-files, flies-apart, in_flight, living-in-phase}
use Rattle.law_never_wrong.proofs.Survives.{went-fits, Came, came-same, turned-came, turned-flies}
use Rattle.law_never_wrong.proofs.Survives.{parents-fly}
use Rattle.law_never_wrong.proofs.Carry.{Stays, Records, Flying, ParentsFly, StillFlies}
use Rattle.law_never_wrong.proofs.Carry.{still-flies, StageGoes, Enters}

-- a bio that records an answer stays in flight, or as it was
recorded-goes : (child : Bio) (piece : Piece) (told : Told) (parent : Bio) (stage : Stage)
    → StageGoes stage (recorded_at child piece told parent stage)
recorded-goes child piece told parent stage = search (rules, Records, Stays)

module _ {S : Type 0} (s : State S) (disks : List Disk) (at : ℕ) (bio : Bio) (told : Told) where
  -- the state with these disks, after a parent is told
  abbrev pub told_state : Parent → State S
  told_state parent = told_to (without_bio (record s { disks = disks }) at) bio told parent

  -- the bios without the one that is answered
  abbrev others : List (Option Bio)
  others = change_numbered s.bios at (λ entry. None)

  -- the bio that is told comes to such a stage
  told-goes : (piece : Piece) (parent : ℕ) (b : Bio) → entry_at others parent ≡ Some b
      → (stage : Stage) × (recorded bio piece told b ≡ record b { stage = stage })
      × StageGoes b.stage stage
  told-goes piece parent b there = (_, refl, recorded-goes bio piece told b b.stage)

  -- a bio in flight, of another number, still flies
  told-flies : (parent : Parent) (number : ℕ) (above : Bio) → Flying s number above
      → entry_at others number ≡ Some above → StillFlies (told_state parent) number above
  told-flies (FromLog log line action) = still-flies s (told_state (FromLog log line action))
  told-flies (FromBio p q) = turned-flies s (told_state (FromBio p q)) _ p _ refl (told-goes q p)

  -- the parent of a living bio isn't the one that is answered, so it flies on
  pub told-parents : ((number : ℕ) (b : Bio) → bio_of s number ≡ Some b
      → is_bio at b.parent ≡ false) → (parent : Parent) → ParentsFly s (told_state parent)
  told-parents childless parent number b up piece lives is above flying =
      search (rules, told-flies, removed-there, childless number b lives)

  -- each bio that lives after it lived before
  pub told-came : (of : _) (n : ℕ) (y : Bio) → bio_of (told_state of) n ≡ Some y → Came s.bios n y
  told-came (FromLog log line action) = search (rules, came-same, removed-cases)
  told-came (FromBio p q) = turned-came s (told_state (FromBio p q)) others p _ refl (told-goes q p)
      (search (rules, removed-cases))

module _ {S : Type 0} (m : Meaning S) (c : Scenario S) (s : State S) (fits : Fits m c s) (at : ℕ)
    (bio : Bio) (lives : bio_of s at ≡ Some bio) where
  -- no bio is a piece of one that is entering: a parent is in flight
  entering-childless : bio.stage ≡ Entering → (number : ℕ) (b : Bio) → bio_of s number ≡ Some b
      → is_bio at b.parent ≡ false
  entering-childless enters number b stands =
      by_parent b.parent (fits.bios number b stands).parent
    where
      by_parent : (parent : Parent) → FitsParent m c s number b parent → is_bio at parent ≡ false
      by_parent (FromLog log line action) stands = refl
      by_parent (FromBio parent piece) stands = ne_eqb at parent (λ same.
          search (rules, flies-apart, in_flight))

  -- a bio without a child may be answered
  module _ (childless : (number : ℕ) (b : Bio) → bio_of s number ≡ Some b
      → is_bio at b.parent ≡ false) where
    -- so the state after the answer fits
    told-fits : (disks : List Disk) → FitsDisks c (record s { disks = disks }) → (told : Told)
        → (parent : Parent) → Fits m c (told_state s disks at bio told parent)
    told-fits disks sizes told parent =
        let next = told_state s disks at bio told parent in
        let aside = told_to-aside (without_bio (record s { disks = disks }) at) bio told parent in
        went-fits m c s fits next (ap (λ t. devices_image m t.devices) aside)
        (λ number. ap (λ t. option_map length (disk_of t number)) aside ∙ sizes number)
        (told-parents s disks at bio told childless parent) (ap (λ t. t.done) aside)
        (ap (λ t. t.started) aside) (living-in-phase c s next fits.phase at bio fits.in_phase lives)
        (told_to-length _ bio told parent) (search (rules, changed-files))
        (λ number y there. inl (told-came s disks at bio told parent number y there))

    -- a disk serves it
    module _ (disk : ℕ) (sectors : Sectors) (stands : disk_of s disk ≡ Some sectors) where
      -- the state after sectors of the disk were written
      written-fits : (new : Sectors) → length new ≡ bio.span.len
          → nat_le (bio.span.first + bio.span.len) (length sectors) ≡ true → Fits m c
          (answered_state (with_disk s disk (put sectors bio.span.first new)) at bio (Gave []))
      written-fits new full inside = search (rules, told-fits, with_disk-fits, length-put-span)

      -- by its kind
      served-fits : (kind : Kind) → (kind ≡ Write → length bio.sectors ≡ bio.span.len)
          → nat_le (end_of kind bio.span) (length sectors) ≡ true
          → Fits m c (served s at bio disk sectors kind)
      served-fits Read fills inside =
          told-fits s.disks fits.disks (Gave (part sectors bio.span)) bio.parent
      served-fits Write fills inside = written-fits bio.sectors (fills refl) inside
      served-fits Trim fills inside =
          written-fits (filled bio.span.len 0) (length-filled bio.span.len 0) inside
      served-fits Flush fills inside = told-fits s.disks fits.disks (Gave []) bio.parent

  -- a disk that may serve a bio serves it: it is entering
  serve_at-goes : (device : DevNo) (stage : Stage) → bio.stage ≡ stage
      → bio_serves device stage ≡ true → FitsDevice s device bio.kind bio.span
      → Goes (elim device [
        | Ram disk ↦ given NoDevice (disk_of s disk) (λ sectors.
            unless PastEnd (nat_le (end_of bio.kind bio.span) (length sectors))
            (Next (served s at bio disk sectors bio.kind)))
        | Dm device ↦ Next s
      ]) (Fits m c)
  serve_at-goes (Ram disk) Entering enters may inside =
      rw (inside.stands, inside.inside) (served-fits (entering-childless enters) disk inside.sectors
      inside.stands bio.kind (fits.bios at bio lives).fills inside.inside)
  serve_at-goes device stage is may inside = absurd (true≢false (sym may))

-- a disk that serves a bio leaves a state that fits
pub serve-keeps-Fits : {S : Type 0} (m : Meaning S) (c : Scenario S) (s : State S) → Fits m c s
    → (number : ℕ) → is_enabled c s (Serve number) ≡ true
    → Goes (effect m c s (Serve number)) (Fits m c)
serve-keeps-Fits m c s fits number may = search (rules, bio_may-gives, serve_at-goes)

-- a bio that is finished leaves a state that fits
pub finish-keeps-Fits : {S : Type 0} (m : Meaning S) (c : Scenario S) (s : State S) → Fits m c s
    → (n : ℕ) → is_enabled c s (Finish n) ≡ true → Goes (effect m c s (Finish n)) (Fits m c)
finish-keeps-Fits m c s fits n may =
    search (rules, bio_may-gives, told-fits, entry-fails, not-true, true≢false)

-- a bio that enters its device
abbrev entered : Bio → Bio
entered bio = record bio { stage = Entering }

-- the state after the bio of a number was released
abbrev released : {S : Type 0} → State S → ℕ → State S
released s number = record s { bios = change_numbered s.bios number (option_map entered) }

-- a bio that may be released is held, so it may enter
releases-goes : {S : Type 0} (s : State S) (stage : Stage) → bio_releases s stage ≡ true
    → StageGoes stage Entering
releases-goes s (Held due holder) may = Enters
releases-goes s _ may = cc

-- a held bio that goes on leaves a state that fits
pub release-keeps-Fits : {S : Type 0} (m : Meaning S) (c : Scenario S) (s : State S) → Fits m c s
    → (number : ℕ) → is_enabled c s (Release number) ≡ true
    → Goes (effect m c s (Release number)) (Fits m c)
release-keeps-Fits m c s fits at may =
    let held = bio_may-gives (bio_of s at) (λ bio. bio_releases s bio.stage) may in
    let next = released s at in
    let goes : (b : Bio) → bio_of s at ≡ Some b
    → (stage : Stage) × (entered b ≡ record b { stage = stage }) × StageGoes b.stage stage =
    λ b there. (Entering, refl, releases-goes s b.stage (rw there at may)) in
    went-fits m c s fits next refl fits.disks (λ number b up piece lives is above flying.
    turned-flies s next s.bios at entered refl goes up above flying flying.there) refl refl
    (living-in-phase c s next fits.phase at held.0 fits.in_phase held.1) refl fits.files
    (λ number y there.
    inl (turned-came s next s.bios at entered refl goes (λ n b lives. lives) number y there))

-- what passes a test passes a wider one
all-wider : {X : Type 0} (test wider : X → Bool) → ((x : X) → test x ≡ true → wider x ≡ true)
    → (xs : List X) → list_all test xs ≡ true → list_all wider xs ≡ true
all-wider test wider widens [] all = refl
all-wider test wider widens (x ∷ xs) all = grind (arith, widens x, all-wider test wider widens xs)

module _ {S : Type 0} (m : Meaning S) (c : Scenario S) (s : State S) (fits : Fits m c s)
    (moment : ℕ) (ahead : s.clock < moment) where
  -- the state at a later moment
  abbrev ticked : State S
  ticked = record s { clock = moment }

  -- the state fits
  ticked-fits : Fits m c ticked
  ticked-fits = went-fits m c s fits ticked refl fits.disks (search (rules, parents-fly)) refl refl
      (search (rules, all-wider, fits.in_phase)) refl fits.files (search (rules, came-same))

-- the clock leaves a state that fits
pub tick-keeps-Fits : {S : Type 0} (m : Meaning S) (c : Scenario S) (s : State S) → Fits m c s
    → is_enabled c s Clock ≡ true → Goes (effect m c s Clock) (Fits m c)
tick-keeps-Fits m c s fits may =
    search (rules, least-there s.clock, ticked-fits m c s fits, least-is s.clock (moments s))
