-- Some event may come unless all is done, by what the script comes to next: items that pass a test
-- or fail it are found by their number; and from a bio that can't go on a way leads down to one
-- that can, which ends, since a piece's bio has a higher number than the one it is a piece of.
use Rattle.lab_model.proofs.Common.{rules, arith, ◌≡◌, ℕ, zero, suc, ◌+◌, Bool, true, false, List}
use Rattle.lab_model.proofs.Common.{[], ◌∷◌, Option, Some, inl, inr, filter_map, map, slice_get}
use Rattle.lab_model.proofs.Common.{refl, ap, if◌then◌else◌, ◌∙◌, ◌<◌, Contains, length, sym, subst}
use Rattle.lab_model.proofs.Common.{◌&&◌, eqb, true≢false, list_any, enumerate_from, list_all, zip}
use Rattle.lab_model.proofs.Common.{cases_Bool, leb-false, lt-ltb, Bio, Held, due_of, has_come}
use Rattle.lab_model.proofs.Common.{is_enabled, moments, option_flatten, numbered, Scenario}
use Rattle.lab_model.proofs.Common.{LogState, State, bio_of, living, In, In-filter_map, In-map}
use Rattle.lab_model.proofs.Common.{In-slice_get, In-append_left, In-append_right, joined-Some}
use Rattle.lab_model.proofs.Common.{filter_map-member, member-place, eqb-true, DevNo, Ram, Dm}
use Rattle.lab_model.specs.declared.parent.Parent.{Parent}
use Rattle.lab_model.proofs.Common.{Meaning, Shape, Stage, Entering, InFlight, bio_may}
use Rattle.lab_model.specs.declared.parent.Parent.TheVariants.{FromLog, FromBio}
use Rattle.lab_model.proofs.Common.{bio_finishes, bio_releases, bio_serves, has_child}
use Rattle.lab_model.proofs.Common.{is_bio, devices_under, references_of, Slot, Table, image}
use Rattle.lab_model.proofs.Common.{with_target, devices_image, slot_image, Contains-In}
use Rattle.lab_model.proofs.Common.{In-flat_map, In-kinds, Below, direct, through, live_under}
use Rattle.lab_model.proofs.Common.{slot_at, Some-holds}
use Rattle.lab_model.proofs.Common.{le-leb, flies_at, has_flight, has_line, is_busy, is_done}
use Rattle.lab_model.proofs.Common.{log_ended, logs_ended, LogPlan, BelowRuns, OrderFine}
use Rattle.lab_model.proofs.Common.{is_started, None-not-Some, cases_lt, drop_all}
use Rattle.lab_model.specs.declared.phase.Phase.{Phase}
use Rattle.lab_model.proofs.Common.{slice_get-within}
use Rattle.lab_model.specs.declared.event.Event.TheVariants.{Clock, Map, Serve, Release, Finish}
use Rattle.lab_model.specs.declared.event.Event.TheVariants.{Line, Control}
use Rattle.lab_model.specs.declared.micro.Mode.TheVariants.{Running}
use Rattle.lab_model.specs.declared.piece.Piece.{Piece}
use Rattle.lab_model.specs.declared.micro.Micro.{Micro}
use Rattle.lab_model.specs.declared.micro.Order.{Order}
use Rattle.lab_model.specs.declared.micro.Order.TheVariants.{Drained, Wait}
use Rattle.lab_model.specs.Fine.{AllRun, EndFine}
use Rattle.law_never_wrong.specs.Fits.{Fits, FitsDevice, FitsParent, FitsStage, FromPiece}
use Rattle.law_never_wrong.specs.Fits.{FitsPhase}
use Rattle.law_never_wrong.proofs.FitsKept.{image-of-device, image-of-line}
use Rattle.law_never_wrong.proofs.NumberedEntries.{entry-within}
use Rattle.law_never_wrong.specs.NeverStuck.{SomeMay}
use Rattle.law_never_wrong.proofs.Survives.{in_flight}
use Rattle.law_never_wrong.proofs.ControlFits.{step-fine}

-- where an item passes, some item does
any-In : {X : Type 0} (test : X → Bool) (x : X) (xs : List X) → In x xs → test x ≡ true
    → list_any test xs ≡ true
any-In test x [] at passes = elim at [ ]
any-In test x (y ∷ xs) at passes = grind (arith, any-In test x xs)

-- an entry that is there is among those that are
In-there : {X : Type 0} (entries : List (Option X)) (number : ℕ) (x : X)
    → option_flatten (numbered entries number) ≡ Some x → In x (filter_map (λ entry. entry) entries)
In-there entries zero x is = cc
In-there entries (suc place) x is = search (rules, In-filter_map, In-slice_get, joined-Some)

-- where some item passes, here is one
any-member : {X : Type 0} (test : X → Bool) (xs : List X) → list_any test xs ≡ true
    → (x : X) × In x xs × (test x ≡ true)
any-member test [] some = cc
any-member test (x ∷ xs) some = elim (cases_Bool (test x)) [
  | inl passes ↦ (x, inl refl, passes)
  | inr fails ↦
      let later = any-member test xs (rw fails at some) in (later.0, inr later.1, later.2)
]

-- where some entry passes, one of a number does
some-passes : {X : Type 0} (test : X → Bool) (entries : List (Option X))
    → list_any test (filter_map (λ entry. entry) entries) ≡ true → (number : ℕ) × (item : X)
    × (option_flatten (numbered entries number) ≡ Some item) × (test item ≡ true)
some-passes test entries some =
    let found = any-member test (filter_map (λ entry. entry) entries) some in
    let entry = filter_map-member (λ entry. entry) found.0 entries found.1 in
    let place = member-place entry.0 entries entry.1 in
    (suc place.0, found.0, ap option_flatten place.1 ∙ entry.2, found.2)

-- some item is anything, where there is one
some-item : {X : Type 0} (xs : List X) → eqb (length xs) 0 ≡ false → list_any (λ x. true) xs ≡ true
some-item [] some = cc
some-item (x ∷ xs) some = refl

-- where not all pairs of two lists pass, one of a place and its number doesn't
failing-at : {X Y : Type 0} (start : ℕ) (test : ℕ → X → Y → Bool) (xs : List X) (ys : List Y)
    → list_all (λ entry. test entry.0 entry.1.0 entry.1.1) (enumerate_from start (zip xs ys))
    ≡ false → (place : ℕ) × (x : X) × (y : Y) × (slice_get xs place ≡ Some x)
    × (slice_get ys place ≡ Some y) × (number : ℕ) × (number ≡ start + place)
    × (test number x y ≡ false)
failing-at start test [] ys some = cc
failing-at start test (x ∷ xs) [] some = cc
failing-at start test (x ∷ xs) (y ∷ ys) some = elim (cases_Bool (test start x y)) [
  | inl passes ↦
      let later = failing-at (start + 1) test xs ys (rw passes at some) in (
        suc later.0,
        later.1,
        later.2,
        later.3,
        later.4,
        later.5,
        omega (arith, later.6),
        later.7,
      )
  | inr fails ↦ (0, x, y, refl, refl, start, omega arith, fails)
]

module _ {S : Type 0} (c : Scenario S) (s : State S) where
  -- a moment that stands and hasn't come lets the clock go on
  moment-ticks : (moment : ℕ) → In moment (moments s) → has_come s moment ≡ false
      → is_enabled c s Clock ≡ true
  moment-ticks moment stands ahead = search (rules, leb-false, any-In, lt-ltb)

  -- that of a log, where the logs have started
  log-ticks : (number : ℕ) (log : LogState) → numbered s.logs number ≡ Some log
      → s.started ≡ true → has_come s log.moment ≡ false → is_enabled c s Clock ≡ true
  log-ticks number log logged started ahead = moment-ticks log.moment
      (inr (In-append_left log.moment (if s.started then map (λ l. l.moment) s.logs else [])
      (filter_map (λ bio. due_of bio.stage) (living s))
      (rw started (In-map (λ l. l.moment) log s.logs (listed number logged))))) ahead
    where
      listed : (n : ℕ) → numbered s.logs n ≡ Some log → In log s.logs
      listed zero at = cc
      listed (suc place) at = In-slice_get log s.logs place at

  -- that of a held bio
  held-ticks : (number : ℕ) (bio : Bio) (due holder : ℕ) → bio_of s number ≡ Some bio
      → bio.stage ≡ Held due holder → has_come s due ≡ false → is_enabled c s Clock ≡ true
  held-ticks number bio due holder lives held ahead = moment-ticks due (inr (In-append_right due
      (if s.started then map (λ l. l.moment) s.logs else [])
      (filter_map (λ b. due_of b.stage) (living s))
      (In-filter_map (λ b. due_of b.stage) bio due (living s)
      (In-there s.bios number bio lives) (ap due_of held)))) ahead

module _ {S : Type 0} (m : Meaning S) (c : Scenario S) (s : State S) (fits : Fits m c s) where
  -- a device that is there runs
  abbrev pub Runs : ℕ → Type 0
  Runs device = (slot : Slot (Table (Shape S)))
      → slot_at (devices_image m s.devices) device ≡ Some slot → slot.mode ≡ Running

  -- the devices that stand below one, through live tables, run
  abbrev pub RunBelow : ℕ → Type 0
  RunBelow device = (below : ℕ) → Below (live_under (devices_image m s.devices)) device below
      → Runs below

  -- a device where a piece's bio goes lies directly under the device that cut it
  goes-under : (number : ℕ) (bio : Bio) (parent : ℕ) (piece : Piece) (device below : ℕ)
      → FromPiece m s number bio parent piece device → bio.device ≡ Dm below
      → Contains (live_under (devices_image m s.devices) device) (Dm below)
  goes-under number bio parent piece device below from is =
      let line = with_target m.shape from.line in
      let refers = In-map (λ r. r.dev) from.ref (references_of line.target)
      (search (rules, In-filter_map, In-kinds)) in
      rw (image-of-device m s device from.slot from.stands, from.is_live)
      (Contains-In (Dm below) (devices_under (image m from.table))
      (In-flat_map (λ l. map (λ r. r.dev) (references_of l.target)) line (Dm below)
      (image m from.table) (In-slice_get line (image m from.table) piece.line
      (image-of-line m from.table piece.line from.line from.is_line))
      (search (rules, In))))

  -- what a bio has to find so that it goes on, or one below it does: where it doesn't fly, its
  -- device runs, and so do those that stand below that
  abbrev pub IsFree : Bio → Type 0
  IsFree bio = (device : ℕ) → bio.device ≡ Dm device
      → (in_flight bio.stage ≡ false → Runs device) × RunBelow device

  -- a piece of a bio in flight below whose device all run is free
  piece-free : (number : ℕ) (bio : Bio) → (parent : Parent) → bio.parent ≡ parent
      → FitsParent m c s number bio parent → (above : ℕ) → is_bio above parent ≡ true
      → ((device : ℕ) (from : Bio) → bio_of s above ≡ Some from → from.device ≡ Dm device
      → RunBelow device) → (above < number) × IsFree bio
  piece-free number bio (FromLog log line action) is from above own runs = cc
  piece-free number bio (FromBio other piece) is from above own runs =
      let same : above ≡ other = eqb-true above other own in
      let below = runs from.0 from.1.above (rw same from.1.lives) from.1.at_device in (
        rw same from.1.earlier,
        λ device on.
            let under = goes-under number bio other piece from.0 device from.1 on in (
              λ rests. below device (direct under),
              λ deeper chain. below deeper (through under chain),
            ),
      )

  -- from a free bio something may come: counting down from the last bio, since a piece's bio has a
  -- higher number than the one that it is a piece of
  leads-on : (steps number : ℕ) (bio : Bio) → length s.bios < number + steps
      → bio_of s number ≡ Some bio → IsFree bio → SomeMay c s
  leads-on zero number bio high lives free =
      absurd (omega (arith, high, entry-within s.bios number bio lives))
  leads-on (suc steps) number bio high lives free =
      by_place bio.stage refl bio.device refl (fits.bios number bio lives).device
      (λ at child later. leads-on steps at child (omega (arith, later, high)))
    where
      -- a test that the living bio passes
      may : (test : Bio → Bool) → test bio ≡ true → bio_may (bio_of s number) test ≡ true
      may test passes = rw lives passes

      by_place : (stage : Stage) → bio.stage ≡ stage → (on : DevNo) → bio.device ≡ on
          → FitsDevice s on bio.kind bio.span → ((at : ℕ) (child : Bio) → number < at
          → bio_of s at ≡ Some child → IsFree child → SomeMay c s) → SomeMay c s
      by_place Entering enters (Ram disk) on inside more =
          (Serve number, may (λ b. bio_serves b.device b.stage) (rw (on, enters) refl))
      by_place Entering enters (Dm device) on inside more =
          let mode : inside.slot.mode ≡ Running = (free device on).0 (rw enters refl)
          (slot_image m inside.slot) (image-of-device m s device inside.slot inside.stands) in (
            Map number,
            search rules,
          )
      by_place (Held due holder) held on at inside more = elim (cases_Bool (has_come s due)) [
        | inl come ↦ (Release number, may (λ b. bio_releases s b.stage) (rw (held, come) refl))
        | inr ahead ↦ (Clock, held-ticks c s number bio due holder lives held ahead)
      ]
      by_place (InFlight failed answered) flies (Ram disk) on inside more =
          let own = subst (FitsStage m s number bio) flies (fits.bios number bio lives).stage in
          let no : Ram disk ≡ Dm own.0 = sym on ∙ own.1 in
          cc
      by_place (InFlight failed answered) flies (Dm device) on inside more =
          elim (cases_Bool (has_child s number)) [
            | inr none ↦
                (Finish number, may (λ b. bio_finishes s number b.stage) (rw (flies, none) refl))
            | inl some ↦
                let child = some-passes (λ b. is_bio number b.parent) s.bios some in
                let down = piece-free child.0 child.1 child.1.parent refl
                (fits.bios child.0 child.1 child.2).parent number child.3
                (search (rules, Some-holds)) in
                more child.0 child.1 down.0 child.2 down.1
          ]

  -- so something may come where a free bio lives
  moves : (number : ℕ) (bio : Bio) → bio_of s number ≡ Some bio → IsFree bio → SomeMay c s
  moves number bio = leads-on (length s.bios + 1) number bio (omega arith)

module _ {S : Type 0} (m : Meaning S) (c : Scenario S) (s : State S) (fits : Fits m c s) where
  -- where all devices run, each living bio leads to something that may come
  living-moves : AllRun (devices_image m s.devices) → (number : ℕ) (bio : Bio)
      → bio_of s number ≡ Some bio → SomeMay c s
  living-moves run number bio lives = search (rules, moves)

  -- a log that hasn't ended takes a line, waits for its moment, or has a bio under way
  log-moves : AllRun (devices_image m s.devices) → s.started ≡ true → (number : ℕ)
      (plan : LogPlan) (log : LogState) → numbered c.logs number ≡ Some plan
      → numbered s.logs number ≡ Some log → log_ended s number plan log ≡ false → SomeMay c s
  log-moves run started number plan log planned logged open_still =
      elim (cases_Bool (has_come s log.moment)) [
        | inr ahead ↦ (Clock, log-ticks c s number log logged started ahead)
        | inl come ↦ elim (cases_Bool (is_busy s number)) [
          | inl busy ↦ search (rules, some-passes, living-moves)
          | inr free ↦ elim (cases_Bool (has_line plan log)) [
            | inl has ↦ (Line number, rw (planned, logged, started, has, free) come)
            | inr none ↦ absurd (true≢false (rw (started, none, free, come) at open_still))
          ]
        ]
      ]

  -- where not all logs have ended, one hasn't
  logs-move : AllRun (devices_image m s.devices) → s.started ≡ true → logs_ended c s ≡ false
      → SomeMay c s
  logs-move run started open_still =
      search (rules, failing-at 1 (log_ended s) c.logs s.logs open_still, log-moves)

  -- where all logs have ended, a bio lives, unless all is done
  some-lives : logs_ended c s ≡ true → (logs_ended c s && eqb (length (living s)) 0) ≡ false
      → (number : ℕ) × (bio : Bio) × (bio_of s number ≡ Some bio) × (true ≡ true)
  some-lives ended rest = some-passes (λ b. true) s.bios (some-item (living s) (rw ended at rest))

  -- a bio that flies at a device that drains leads to something that may come
  flight-moves : (device : ℕ) → BelowRuns (devices_image m s.devices) device → (number : ℕ)
      (bio : Bio) → bio_of s number ≡ Some bio → (on : DevNo) → bio.device ≡ on → (stage : Stage)
      → bio.stage ≡ stage → flies_at device on stage ≡ true → SomeMay c s
  flight-moves device runs number bio lives (Dm other) on (InFlight failed answered) flies at =
      moves m c s fits number bio lives (search (rules, eqb-true, Some-holds))
  flight-moves device runs number bio lives on at_device stage is at = cc

  -- the script's next step may come, or what it waits for leads to something that may come
  order-moves : (micro : Micro) → slice_get c.micros s.done ≡ Some micro
      → has_come s s.moment ≡ true → (order : Order) → micro.order ≡ order → (more : List Micro)
      → OrderFine c (devices_image m s.devices) fits.phase order more → SomeMay c s
  order-moves micro next come (Drained device) is more fine =
      elim (cases_Bool (has_flight s device)) [
        | inr none ↦ (Control, rw (next, come, is, none) refl)
        | inl some ↦ search (rules, some-passes, flight-moves)
      ]
  order-moves micro next come Wait is more fine = elim (cases_Bool (logs_ended c s)) [
    | inl ended ↦ (Control, rw (next, come, is) ended)
    | inr open_still ↦ logs-move fine.1 (fits.is_started ∙ ap is_started fine.0) open_still
  ]
  order-moves micro next come order is more fine = (Control, rw (next, come, is) refl)

  -- at the script's end something may come unless all is done
  end-moves : (phase : Phase) → s.started ≡ is_started phase → FitsPhase c s phase
      → EndFine (devices_image m s.devices) phase
      → (logs_ended c s && eqb (length (living s)) 0) ≡ false → SomeMay c s
  end-moves p on at fine rest = search (rules, logs-move, some-lives, living-moves, None-not-Some)

  -- something may come unless all is done
  pub fits-moves : is_done c s ≡ false → SomeMay c s
  fits-moves rest = elim (cases_Bool (has_come s s.moment)) [
    | inr ahead ↦ (Clock, moment-ticks c s s.moment (inl refl) ahead)
    | inl come ↦ elim (cases_lt s.done (length c.micros)) [
      | inl within ↦
          let next = slice_get-within c.micros s.done within in
          order-moves next.0 next.1 come next.0.order refl _ (step-fine m c s fits next.0 next.1).1
      | inr past ↦ end-moves fits.phase fits.is_started fits.in_phase
          (rw (drop_all s.done c.micros past) at fits.script).1
          (rw (le-leb (length c.micros) s.done past, come) at rest)
    ]
  ]
