-- In any run the bios that are gone are those that were answered, each once.
use Rattle.lab_model.proofs.Common.{rules, ◌≡◌, ℕ, zero, suc, ◌+◌, ◌<◌, ◌≤◌, cond, eqb, List, []}
use Rattle.lab_model.proofs.Common.{◌∷◌, ◌++◌, Option, Some, None, length, map, refl, arith, inl}
use Rattle.lab_model.proofs.Common.{inr, ◌∙◌, option_map, change_numbered, option_flatten, numbered}
use Rattle.lab_model.proofs.Common.{nat_tests, sum_by-cons, Meaning, Told, told_to, Bio}
use Rattle.lab_model.proofs.Common.{IsRun, Leads, Scenario, State}
use Rattle.lab_model.specs.declared.parent.Parent.{Parent}
use Rattle.lab_model.specs.declared.parent.Parent.TheVariants.{FromLog, FromBio}
use Rattle.lab_model.proofs.Common.{opening, joined-Some}
use Rattle.lab_model.specs.declared.event.Event.{Event}
use Rattle.lab_model.specs.declared.event.Event.TheVariants.{Line, Map, Serve, Release, Finish}
use Rattle.lab_model.specs.declared.event.Event.TheVariants.{Control, Clock}
use Rattle.law_slots.proofs.DoneLemmas.{done-gone}
use Rattle.law_answered_once.specs.AnsweredOnce.{AnsweredOnce, AnsweredWhenDone, is_answer_to}
use Rattle.law_answered_once.specs.AnsweredOnce.{times_answered}
use Rattle.law_answered_once.proofs.OrderLaw.{first-Moves}
use Rattle.law_answered_once.proofs.Waiting.{IsAnswered, Moves}

-- 1 at an entry that is gone, 0 at one that is there or past the end
abbrev pub gone_at : {X : Type 0} → Option (Option X) → ℕ
gone_at None = 0
gone_at (Some None) = 1
gone_at (Some (Some x)) = 0

-- whether the entry of this number is gone
abbrev pub gone : {X : Type 0} → List (Option X) → ℕ → ℕ
gone entries number = gone_at (numbered entries number)

-- f inside one entry leaves each there or gone
pub gone-inside : {X : Type 0} (f : X → X) (entries : List (Option X)) (at number : ℕ)
    → gone (change_numbered entries at (option_map f)) number ≡ gone entries number
gone-inside f (entry ∷ entries) (suc (suc place)) (suc (suc j)) =
    gone-inside f entries (suc place) (suc j)
gone-inside f (None ∷ entries) (suc zero) (suc zero) = refl
gone-inside f (Some x ∷ entries) (suc zero) (suc zero) = refl
gone-inside f [] zero _ = refl
gone-inside f _ _ _ = refl

-- entries that are there, put at the end, are not gone
pub gone-append : {X : Type 0} (entries : List (Option X)) (more : List X) (number : ℕ)
    → gone (entries ++ map (λ x. Some x) more) number ≡ gone entries number
gone-append (entry ∷ entries) more (suc (suc j)) = gone-append entries more (suc j)
gone-append [] (x ∷ more) (suc (suc j)) = gone-append [] more (suc j)
gone-append _ _ _ = refl

-- an entry that was there is gone once it is taken out, and no other changes
pub gone-remove : {X : Type 0} (entries : List (Option X)) (at number : ℕ) (x : X)
    → numbered entries at ≡ Some (Some x)
    → gone (change_numbered entries at (λ entry. None)) number
    ≡ gone entries number + cond (eqb at number) 1 0
gone-remove entries zero number x there = cc
gone-remove [] (suc place) number x there = cc
gone-remove (entry ∷ entries) (suc (suc place)) (suc (suc j)) x there =
    grind (arith, nat_tests, gone-remove entries (suc place) (suc j) x there)
gone-remove (entry ∷ entries) (suc place) number x there = grind (arith, nat_tests)

-- an entry within the list where nothing is, is gone
pub gone-dead : {X : Type 0} (entries : List (Option X)) (number : ℕ) → 0 < number
    → number ≤ length entries → option_flatten (numbered entries number) ≡ None
    → gone entries number ≡ 1
gone-dead (entry ∷ entries) (suc (suc n)) low high dead =
    gone-dead entries (suc n) (omega arith) (omega arith) dead
gone-dead entries number low high dead = grind arith

-- nothing is gone past the end
pub gone-past : {X : Type 0} (entries : List (Option X)) (number : ℕ) → length entries < number
    → gone entries number ≡ 0
gone-past (entry ∷ entries) (suc (suc n)) past = gone-past entries (suc n) (omega arith)
gone-past entries number past = search rules

-- a parent that is told stays
told_to-gone : {S : Type 0} (s : State S) (bio : Bio) (told : Told) (parent : Parent) (number : ℕ)
    → gone (told_to s bio told parent).bios number ≡ gone s.bios number
told_to-gone s bio told (FromLog log line action) number = refl
told_to-gone s bio told (FromBio at piece) number = gone-inside _ s.bios at number

-- a bio that is answered is gone, and no other
answered-gone : {S : Type 0} (s next : State S) (at : ℕ) → IsAnswered s at next → (number : ℕ)
    → gone next.bios number ≡ gone s.bios number + cond (eqb at number) 1 0
answered-gone s next at moves number = search (rules, told_to-gone, gone-remove, joined-Some)

-- each event takes away the bio that it answers, and no other
event-gone : {S : Type 0} (c : Scenario S) (s : State S) (event : Event) (next : State S)
    → Moves c s event next → (number : ℕ)
    → gone next.bios number ≡ gone s.bios number + cond (is_answer_to number event) 1 0
event-gone c s (Line log) next moves number = rw (moves.bios, gone-append) (omega arith)
event-gone c s (Map at) next moves number = rw (moves.bios, gone-append, gone-inside) (omega arith)
event-gone c s (Serve at) next moves number = answered-gone s next at moves number
event-gone c s (Release at) next moves number =
    rw (moves.bios, gone-append, gone-inside) (omega arith)
event-gone c s (Finish at) next moves number = answered-gone s next at moves number
event-gone c s Control next (inl moves) number = rw moves.bios (omega arith)
event-gone c s Control next (inr moves) number = rw moves.bios (omega arith)
event-gone c s Clock next moves number = rw moves.bios (omega arith)

-- in a run as many bios of a number go as are answered
run-gone : {S : Type 0} (m : Meaning S) (c : Scenario S) (events : List Event) (s end : State S)
    → Leads m c s events end
    → (number : ℕ) → gone end.bios number ≡ gone s.bios number + times_answered events number
run-gone m c [] s end leads number = rw leads (omega arith)
run-gone m c (event ∷ events) s end leads number = omega (
  arith,
  run-gone m c events leads.1 end leads.3 number,
  event-gone c s event leads.1 (first-Moves m c s event events end leads) number,
  sum_by-cons (λ e. cond (is_answer_to number e) 1 0) event events,
)

-- so a bio is gone as often as it was answered, since none is at first
pub gone-is-answered : {S : Type 0} (m : Meaning S) (c : Scenario S) (events : List Event)
    (s : State S) → IsRun m c events s
    → (number : ℕ) → times_answered events number ≡ gone s.bios number
gone-is-answered m c events s run n = grind (arith, run-gone m c events (opening c) s run n)

-- the law: a living bio has no answer, a dead one has one
pub each-answered_once : {S : Type 0} (m : Meaning S) → AnsweredOnce m
each-answered_once m c events s run number =
    let as_gone = gone-is-answered m c events s run number in
    record {
      most = rw as_gone (search rules);
      living = λ lives. as_gone ∙ (search (rules, lives));
      dead = λ low high dead. as_gone ∙ gone-dead s.bios number low high dead;
      unmade = λ past. as_gone ∙ gone-past s.bios number past;
    }

-- the law at the end of a run: no bio lives, so each has one answer
pub each-answered_when_done : {S : Type 0} (m : Meaning S) → AnsweredWhenDone m
each-answered_when_done m c events s complete number low high =
    gone-is-answered m c events s complete.0 number
    ∙ gone-dead s.bios number low high (done-gone c s complete.1 number)
