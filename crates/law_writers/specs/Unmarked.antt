-- Runs in which no target changes a byte on the way (dm-flakey's corrupt_bio_byte and
-- random_write_corrupt do).
use Rattle.std.specs.Prelude.{◌≡◌, ℕ, List, [], ◌∷◌, Option, Some, None, All}
use Rattle.lab_sector.specs.declared.request.Kind.{Kind}
use Rattle.lab_sector.specs.declared.span.Span.{Span}
use Rattle.lab_target.specs.Meaning.{Meaning}
use Rattle.lab_target.specs.Types.{no_marks}
use Rattle.lab_target.specs.declared.verdict.Verdict.{Verdict}
use Rattle.lab_target.specs.declared.verdict.Verdict.TheVariants.{Pass}
use Rattle.lab_model.specs.After.{After, Next, Wrong}
use Rattle.lab_model.specs.Bios.{Bio}
use Rattle.lab_model.specs.Effect.{effect}
use Rattle.lab_model.specs.Scenario.{Scenario}
use Rattle.lab_model.specs.State.{State, bio_of, opening}
use Rattle.lab_model.specs.declared.event.Event.{Event}
use Rattle.lab_model.specs.declared.event.Event.TheVariants.{Map}
use Rattle.law_reads_recorded.specs.Recorded.{judged_at}

-- a verdict changes no byte of its piece
abbrev pub ChangesNone : Verdict → Type 0
ChangesNone (Pass device span hold marks) = marks ≡ no_marks
ChangesNone verdict = Unit {0}

-- no verdict on the pieces of a bio changes a byte
abbrev pub JudgedPlainly : {S : Type 0} → Meaning S → State S → Option Bio → Type 0
JudgedPlainly m s None = Unit {0}
JudgedPlainly m s (Some bio) =
    All (λ judged. ChangesNone judged.verdict) (judged_at m s bio bio.device)

-- an event that comes in a state changes no byte on the way
abbrev pub EventPlain : {S : Type 0} → Meaning S → State S → Event → Type 0
EventPlain m s (Map number) = JudgedPlainly m s (bio_of s number)
EventPlain m s event = Unit {0}

-- none of some events does, one after another
abbrev pub PlainFrom : {S : Type 0} → Meaning S → Scenario S → After S → List Event → Type 0
PlainFrom m c after [] = Unit {0}
PlainFrom m c (Wrong cause) (event ∷ events) = Unit {0}
PlainFrom m c (Next s) (event ∷ events) =
    EventPlain m s event × PlainFrom m c (effect m c s event) events

-- no event of a run changes a byte on the way
abbrev pub IsPlainRun : {S : Type 0} → Meaning S → Scenario S → List Event → Type 0
IsPlainRun m c events = PlainFrom m c (Next (opening c)) events

-- no verdict of any target changes a byte of its piece
abbrev pub NeverChanges : {S : Type 0} → Meaning S → Type 0
NeverChanges {S} m = (target : S) (kind : Kind) (piece : Span) (now : ℕ)
    → ChangesNone (m.verdict target kind piece now)

-- then no run changes one
abbrev pub RunsArePlain : {S : Type 0} → Meaning S → Type 0
RunsArePlain {S} m =
    NeverChanges m → (c : Scenario S) (events : List Event) → IsPlainRun m c events
