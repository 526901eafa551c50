-- What a line that is told does to a refused bundle (this project's own).
use Rattle.std.specs.Prelude.{◌≡◌, ◌≢◌, ◌⊎◌, ℕ, ◌+◌, ◌/◌, List, [], ◌∷◌, ◌++◌, All, Bool, true, false}
use Rattle.std.specs.Prelude.{codes, if◌then◌else◌, length, max, min, nat_lt, take}
use Rattle.std.specs.Prelude.{Option, Result, Ok}
use Rattle.lab_any.specs.Any.{any_meaning}
use Rattle.lab_any.specs.declared.any_target.AnyTarget.{AnyTarget}
use Rattle.lab_model.specs.declared.event.Event.{Event}
use Rattle.lab_model.specs.Rules.{FaultSeen, PartSeen, of_history}
use Rattle.lab_rulebook.specs.IsAccepted.{Verified}
use Rattle.lab_refusal.specs.Faults.{fault_seen}
use Rattle.lab_refusal.specs.FaultText.{fault_text}
use Rattle.lab_refusal.specs.declared.fault.Fault.{Fault}
use Rattle.lab_advice.specs.Mended.{mended_text}
use Rattle.lab_advice.specs.Places.{Shows}
use Rattle.lab_advice.specs.RemedyText.{remedy_text}
use Rattle.lab_advice.specs.Shown.{place_text}
use Rattle.lab_advice.specs.declared.place.Place.{Place}
use Rattle.lab_advice.specs.declared.remedy.Mend.{Mend}
use Rattle.lab_advice.specs.declared.remedy.Remedy.{Remedy}
use Rattle.lab_advice.specs.declared.remedy.Spot.{Spot}
use Rattle.lab_advice.specs.declared.remedy.Spot.TheVariants.{Before}
use Rattle.lab_advice.specs.declared.trouble.Trouble.{Trouble}
use Rattle.lab_advice.specs.declared.trouble.Trouble.TheVariants as troubles
use Rattle.dmlab_run.specs.AllParts.{AreGiven, part_faults}
use Rattle.dmlab_run.specs.Answering.{HasFirstFault, HasScenario}
use Rattle.dmlab_run.specs.Histories.{histories_of, history_read}

-- what is read of the history where a fault of this part is looked for: the events for one of the
-- history, and nothing for another one
abbrev pub history_beside : PartSeen → List ℕ → Result (List Event) (Option FaultSeen)
history_beside of_history bytes = history_read (histories_of bytes)
history_beside part bytes = Ok []

-- the fault one line further down
abbrev pub moved : FaultSeen → FaultSeen
moved seen = record { part = seen.part; line = seen.line + 1; rule = seen.rule }

-- another refusal is told: one of another part, line or rule; a line that is put before the refused
-- one moves that down, and it isn't refused there either
abbrev pub IsOther : Spot → FaultSeen → FaultSeen → Type 0
IsOther (Before number) seen other =
    (fault_text other ≢ fault_text seen) × (fault_text other ≢ fault_text (moved seen))
IsOther spot seen other = fault_text other ≢ fault_text seen

-- the bytes are a scenario
abbrev pub AreScenario : List ℕ → Type 0
AreScenario bytes = (accepted : Verified AnyTarget) × HasScenario any_meaning bytes accepted

-- with the mend in its place the bytes are a scenario, or another refusal is told of them
abbrev pub Removes : List ℕ → FaultSeen → Mend → Type 0
Removes bytes seen mend = AreScenario (mended_text bytes mend)
    ⊎ ((other : FaultSeen)
    × HasFirstFault any_meaning (mended_text bytes mend)
    (history_beside seen.part (mended_text bytes mend)) other
    × IsOther mend.spot seen other)

-- with the mend in its place the bytes are a bundle, and another refusal is told of each of its
-- parts that can't be read
abbrev pub RemovesBeside : List ℕ → FaultSeen → Mend → Type 0
RemovesBeside bytes seen mend = (faults : List FaultSeen)
    × AreGiven (part_faults any_meaning) (mended_text bytes mend) faults
    × All (λ other. IsOther mend.spot seen other) faults

-- the mend removes the fault, which is the first one, or one beside it
abbrev pub RemovesOne : Bool → List ℕ → FaultSeen → Mend → Type 0
RemovesOne false bytes seen mend = Removes bytes seen mend
RemovesOne true bytes seen mend = RemovesBeside bytes seen mend

-- each line that is told removes the fault; of what no fault is nothing is told
abbrev pub AllRemove : Bool → List ℕ → Trouble → List Mend → Type 0
AllRemove beside bytes (troubles.Fault fault) mends =
    All (RemovesOne beside bytes (fault_seen fault)) mends
AllRemove beside bytes (troubles.NotARun place) mends = mends ≡ []
AllRemove beside bytes (troubles.Unfinished place) mends = mends ≡ []

-- the text is the place of the trouble, if it has one, and a remedy whose lines all remove it; the
-- trouble is the first one, or one beside it
abbrev pub Advises : Bool → List ℕ → Trouble → List ℕ → Type 0
Advises beside bytes trouble text =
    (remedy : Remedy) × AllRemove beside bytes trouble remedy.mends.items
    × ((place : Place) → Shows bytes trouble place → text ≡ place_text place ++ remedy_text remedy)

-- the text is the advice on each of these faults beside the first one, in order
abbrev pub AdvisesEach : List ℕ → List Fault → List ℕ → Type 0
AdvisesEach bytes [] text = text ≡ []
AdvisesEach bytes (fault ∷ faults) text = (own more : List ℕ)
    × Advises true bytes (troubles.Fault fault) own × AdvisesEach bytes faults more
    × (text ≡ own ++ more)

-- on how many faults beside the first one a tester is advised, where a bundle has so many bytes: so
-- many that it has 4,194,304 if it is taken once for each, and 128 at most
abbrev pub advised_count : ℕ → ℕ
advised_count bytes = min (4194304 / max bytes 1) 128

-- the line that is told where there are more faults than this
abbrev pub more_text : ℕ → List Fault → List ℕ
more_text count faults =
    if nat_lt count (length faults)
    then codes "dmlab: the parts behind these can't be read either. Mend these first.\n" else []

-- the text is the advice on the first of these faults beside the first one, and a line where there
-- are more
abbrev pub AdvisesFew : List ℕ → List Fault → List ℕ → Type 0
AdvisesFew bytes faults text = (own : List ℕ)
    × AdvisesEach bytes (take (advised_count (length bytes)) faults) own
    × (text ≡ own ++ more_text (advised_count (length bytes)) faults)

-- the text is the advice on the trouble, and then that on these faults beside it; either is left
-- out where memory runs out
abbrev pub AdvisesAll : List ℕ → Trouble → List Fault → List ℕ → Type 0
AdvisesAll bytes trouble others text = (own more : List ℕ)
    × ((own ≡ []) ⊎ Advises false bytes trouble own)
    × ((more ≡ []) ⊎ AdvisesFew bytes others more) × (text ≡ own ++ more)
