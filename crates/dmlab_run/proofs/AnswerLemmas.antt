-- From what single steps answered to the output.
use Rattle.lab_model.proofs.Common.{◌≡◌, ℕ, List, ◌++◌, Bool, true, sym, refl, inl, inr, ap, Vec, Global, IfOk}
use Rattle.std.specs.Prelude.{IfErr, MatchResult}
use Rattle.lab_model.proofs.Common.{zero, suc, not, ◌==◌, false, ◌∙◌, true≢false, Option, Some, Result, Ok, Err, IfSome}
use Rattle.lab_model.proofs.Common.{none-some, same_Some, subst, Meaning, is_done, report, Scenario}
use Rattle.lab_model.specs.declared.event.Event.{Event}
use Rattle.lab_model.specs.State.{State}
use Rattle.lab_rulebook.specs.PartsOf.{IsReadable, Texts, parts_of_texts}
use Rattle.lab_rulebook.specs.IsAccepted.{Verified}
use Rattle.lab_refusal.specs.Faults.{fault_seen, told_by}
use Rattle.lab_model.specs.Rules.{FaultSeen}
use Rattle.lab_refusal.specs.declared.fault.Fault.{Fault}
use Rattle.lab_refusal.specs.declared.fault.Refusal.{Refusal}
use Rattle.lab_model.specs.Rules.{rule_number}
use Rattle.lab_verify.specs.Verdict.{IsRuleFault, IsVerdict}
use Rattle.lab_core.specs.Audit.{IsFaultOf}
use Rattle.lab_core.specs.declared.audit.AuditFault.{AuditFault}
use Rattle.lab_core.specs.declared.audit.AuditFault.TheVariants.{NotEnabled, Unfinished, NoMemory}
use Rattle.lab_core.specs.Running.{IsRunning, Running, begun}
use Rattle.lab_core.specs.Runs.{IsPaced}
use Rattle.lab_sweep.specs.Found.{TellsRun}
use Rattle.lab_sweep.specs.declared.totals.Totals.{Totals}
use Rattle.dmlab_words.specs.Findings.{is_seeking}
use Rattle.dmlab_words.specs.declared.asked.Asked.{Asked}
use Rattle.dmlab_run.specs.Findings.{found_with, sought_by}
use Rattle.dmlab_run.specs.Answering.{HasFirstFault, HasScenario, IsReportOf, IsUnread, TellsFault}
use Rattle.dmlab_run.specs.Answering.{TellsRefusal, is_told_by_rules}
use Rattle.dmlab_run.specs.Lines.{Output, done_with}
use Rattle.dmlab_run.specs.Output.{Answers, Audits, IsFirst, RefusesRun, Simulates, TellsRunBy}
use Rattle.dmlab_run.specs.Output.{history_part}
use Rattle.lab_verify.proofs.ToldRules.{told-numbered}
use Rattle.dmlab_run.proofs.ReadingRules.{reading-rule}
use Rattle.lab_refusal.specs.declared.fault.Refusal.TheVariants as refusals

-- an output that is done tells its own text
pub done-itself : (told : Output) (text : List ℕ) → told ≡ done_with text
    → told ≡ done_with told.text
done-itself told text tells = tells ∙ ap done_with (sym (ap (λ (t : Output). t.text) tells))

module _ {S : Type 0} (m : Meaning S) (accepted : Verified S) (prompt : Bool) (seed : ℕ)
    (history : Bool) (asked : Asked) (lab : Running S) (told : Output)
    (run : IsPaced m prompt seed (begun accepted) lab)
    (done : is_done lab.scenario lab.state ≡ true) where
  -- what is told of a seeded run that is done is what a simulation tells
  simulates : TellsRunBy m (is_seeking asked) accepted.scenario seed history asked lab.history
      lab.state told → Simulates m accepted.scenario prompt seed history asked told
  simulates tells = record {
    events = run.events;
    end = lab.state;
    picks = run.chosen;
    done = rw run.goes.scenario at done;
    tells = rw run.goes.history at tells;
  }

  -- its report and its events are, where no finding is asked for
  pub simulates-plain : is_seeking asked ≡ false
      → told ≡ done_with (report m lab.scenario lab.history lab.state
      ++ history_part history lab.history)
      → Simulates m accepted.scenario prompt seed history asked told
  simulates-plain none tells =
      simulates (subst (λ seeking. TellsRunBy m seeking accepted.scenario seed history asked
      lab.history lab.state told) (sym none) (rw run.goes.scenario at tells))

  -- and with the table of what was found between them where one is
  pub simulates-searched : (table : List ℕ) (totals : Totals) → is_seeking asked ≡ true
      → TellsRun m accepted.scenario seed (sought_by asked) lab.history table totals
      → told ≡ found_with asked (report m lab.scenario lab.history lab.state ++ table
      ++ history_part history lab.history) totals
      → Simulates m accepted.scenario prompt seed history asked told
  simulates-searched table totals some found tells =
      simulates (subst (λ seeking. TellsRunBy m seeking accepted.scenario seed history asked
      lab.history lab.state told) (sym some)
      (table, totals, found, rw run.goes.scenario at tells))

-- what is told of a run refuses nothing
TellsRunBy-accepts : {S : Type 0} (m : Meaning S) (seeking : Bool) (c : Scenario S) (seed : ℕ)
    (history : Bool) (asked : Asked) (events : List Event) (end : State S) (told : Output)
    → TellsRunBy m seeking c seed history asked events end told → told.refused ≡ false
TellsRunBy-accepts m false c seed history asked events end told tells =
    ap (λ (t : Output). t.refused) tells
TellsRunBy-accepts m true c seed history asked events end told tells =
    ap (λ (t : Output). t.refused) tells.3

-- nor does what is told of one by a seed
pub Simulates-accepts : {S : Type 0} (m : Meaning S) (c : Scenario S) (prompt : Bool) (seed : ℕ)
    (history : Bool) (asked : Asked) (told : Output)
    → Simulates m c prompt seed history asked told → told.refused ≡ false
Simulates-accepts m c prompt seed history asked told run = TellsRunBy-accepts m (is_seeking asked)
    c seed history asked run.events run.end told run.tells

-- the report of a laboratory that has run these events to their end is that of a complete run
pub report-done : {S : Type 0} (m : Meaning S) (c : Scenario S) (events : List Event)
    (lab : Running S) (text : List ℕ) → lab.scenario ≡ c → lab.history ≡ events
    → is_done lab.scenario lab.state ≡ true → IsRunning m lab
    → text ≡ report m lab.scenario lab.history lab.state → IsReportOf m c events text
report-done {S} m c events lab text scenario history done running tells = (
  lab.state,
  (rw (scenario, history) at running.run, rw scenario at done),
  rw (scenario, history) at tells,
)

module _ {S : Type 0} (m : Meaning S) (c : Scenario S) (events : List Event) (told : Output) where
  -- what is told of an audit's fault is why the events are no complete run
  pub refuses-run : (fault : AuditFault) → IsFaultOf m c events fault → TellsFault fault told
      → RefusesRun m c events told
  refuses-run (NotEnabled number) (place, same, stops) tells =
      inl (place, stops, rw same at tells)
  refuses-run (Unfinished number) (same, early) tells = inr (early, rw same at tells)
  refuses-run NoMemory is tells = absurd tells

  -- so what is told of an audit that was tried is its report, or why there is none
  pub audits-tried : (tried : Result (Vec ℕ Global) AuditFault)
      → IfOk tried (λ text. IsReportOf m c events text.items)
      → IfErr tried (λ fault. IsFaultOf m c events fault)
      → MatchResult tried (λ text. told ≡ done_with text.items) (λ fault. TellsFault fault told)
      → Audits m c events told
  audits-tried (Ok text) (end, complete, is) fault tells =
      inr (end, complete, tells ∙ ap done_with is)
  audits-tried (Err fault) is why tells = inl (refuses-run fault why tells)

module _ {S : Type 0} (m : Meaning S) (bytes : List ℕ)
    (history : Result (List Event) (Option FaultSeen))
    (Tells : Verified S → List Event → Output → Type 0) (told : Output) where
  -- what is told of the scenario that some bytes are, and of the events that are read of its
  -- history, is what is answered for them
  pub answers-bytes : (accepted : Verified S) (events : List Event) → HasScenario m bytes accepted
      → history ≡ Ok events → Tells accepted events told → Answers m bytes history Tells told
  answers-bytes accepted events is read tells =
      inr (is.none, is.texts, is.has, inr (accepted, is.scenario, events, read, tells))

  -- and so is what is told of their first fault
  pub refuses-bytes : (refusal : Refusal)
      → ((seen : FaultSeen) → told_by refusal ≡ Some seen → HasFirstFault m bytes history seen)
      → TellsRefusal refusal told → Answers m bytes history Tells told
  refuses-bytes refusal first (seen, same, tells) = elim (first seen same) [
    | inl bundle ↦ inl (seen, bundle, tells)
    | inr is ↦ inr (is.none, is.texts, is.has, inl (seen, is.first, tells))
  ]

-- what isn't 0 is no rule of reading
not-zero : (number : ℕ) → not (number == 0) ≡ true → number ≡ 0 → ⊥
not-zero zero some none = true≢false (sym some)
not-zero (suc number) some none = cc

-- a first fault that is of one of them is one of the rules
rule-first : {S : Type 0} (m : Meaning S) (texts : Texts) (fault : Fault)
    → IsVerdict m texts (Err (refusals.Fault fault))
    → not (rule_number fault.rule == 0) ≡ true
    → IsRuleFault m texts (fault_seen fault)
rule-first m texts fault (inl read) some =
    absurd (not-zero (rule_number fault.rule) some (reading-rule m texts (fault_seen fault) read))
rule-first m texts fault (inr broken) some = broken

-- texts with a fault of the rules can be read
pub rules-readable : {S : Type 0} (m : Meaning S) (texts : Texts) (refusal : Refusal)
    → is_told_by_rules (told_by refusal) ≡ true → IsVerdict m texts (Err refusal)
    → IsReadable m texts
rules-readable m texts (refusals.Fault fault) some verdict =
    (rule-first m texts fault verdict some).readable
rules-readable m texts refusals.NoMemory some verdict = absurd (true≢false (sym some))

-- a verdict's fault comes first where the history gives events, or is not read
pub first-verdict : {S : Type 0} (m : Meaning S) (texts : Texts) (refusal : Refusal)
    (history : Result (List Event) (Option FaultSeen)) (events : List Event) (seen : FaultSeen)
    → history ≡ Ok events → IsVerdict m texts (Err refusal) → told_by refusal ≡ Some seen
    → IsFirst m texts history seen
first-verdict m texts (refusals.Fault fault) history events seen is verdict same =
    subst (λ read. IsFirst m texts read seen) (sym is)
    (subst (λ (s : FaultSeen). IsFirst m texts (Ok events) s) (same_Some _ _ same) verdict)
first-verdict m texts refusals.NoMemory history events seen is verdict same =
    absurd (none-some seen same)

-- a fault of reading comes first, whatever is read of the history
pub first-read : {S : Type 0} (m : Meaning S) (texts : Texts) (refusal : Refusal)
    (history : Result (List Event) (Option FaultSeen)) (seen : FaultSeen)
    → is_told_by_rules (told_by refusal) ≡ false → IsVerdict m texts (Err refusal)
    → told_by refusal ≡ Some seen → IsFirst m texts history seen
first-read m texts (refusals.Fault fault) history seen none verdict same =
    subst (λ (s : FaultSeen). IsFirst m texts history s) (same_Some _ _ same) (first history)
  where
    first : (read : Result (List Event) (Option FaultSeen))
        → IsFirst m texts read (fault_seen fault)
    first (Ok events) = verdict
    first (Err other) = elim verdict [
      | inl found ↦ inl found
      | inr broken ↦ absurd (true≢false (sym (told-numbered m (parts_of_texts m texts)
          (fault_seen fault) broken.is_told) ∙ none))
    ]
first-read m texts refusals.NoMemory history seen none verdict same = absurd (none-some seen same)

-- a history's fault comes first where the texts can be read
pub first-unread : {S : Type 0} (m : Meaning S) (texts : Texts) (unread : Refusal)
    (history : Result (List Event) (Option FaultSeen)) (seen : FaultSeen) → IsReadable m texts
    → IsUnread history unread → told_by unread ≡ Some seen → IsFirst m texts history seen
first-unread m texts unread history seen readable is same =
    subst (λ read. IsFirst m texts read seen)
    (sym (subst (λ o. IfSome o (λ s. history ≡ Err (Some s))) same is)) (inr (readable, refl))
