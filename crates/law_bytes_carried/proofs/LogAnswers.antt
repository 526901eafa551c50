-- A log's answers: while an operation of it lives it has no other, and its answers stay; and no
-- event takes an answer away.
use Rattle.lab_model.proofs.Common.{rules, [], ap, arith, cond, eq-eqb, false, inl, inr, List, None}
use Rattle.lab_model.proofs.Common.{refl, slice_get, Some, subst, suc, sym, true, true≢false, zero}
use Rattle.lab_model.proofs.Common.{ℕ, ◌∙◌, ◌∷◌, ◌≡◌, ◌≢◌, Bio, bio_of, cases_eq, change}
use Rattle.lab_model.proofs.Common.{change_numbered, effect, is_busy, is_enabled, option_flatten}
use Rattle.lab_model.specs.declared.parent.Parent.TheVariants.{FromLog}
use Rattle.lab_model.proofs.Common.{is_log, IsRun, Lawful, joined-Some, LogPlan, LogState}
use Rattle.lab_model.proofs.Common.{map-cases, Meaning, Next, State, next_line, None-not-Some}
use Rattle.lab_model.proofs.Common.{numbered, opening, Told, Scenario, slice_get-append}
use Rattle.lab_model.specs.declared.parent.Parent.{Parent}
use Rattle.lab_model.proofs.Common.{slice_get-within, told_to, slice_get_within, there-passes}
use Rattle.lab_model.proofs.Common.{without_bio}
use Rattle.law_answered_once.proofs.Waiting.{Moves, operation_for, has_item, waiting-busy}
use Rattle.law_answered_once.proofs.Waiting.{waiting-only}
use Rattle.law_answered_once.proofs.OrderLaw.{run-keeps}
use Rattle.law_answered_once.proofs.OrderLemmas.{event-InOrder, InOrder, Waits-same}
use Rattle.law_never_wrong.proofs.NumberedEntries.{numbered-change_other}
use Rattle.law_sectors_touched.proofs.Events.{event-cases, gone_of}
use Rattle.law_bytes_carried.proofs.Words.{Action, Answer, answers_in, answers_of, Control, Event}
use Rattle.law_bytes_carried.proofs.Words.{Finish, Fits, FitsParent, is_answer_to, is_control, Line}
use Rattle.law_bytes_carried.proofs.Words.{IsAnswered, sent-on, Serve}

-- each answer that is there is there later, at its place
abbrev pub Lasts : List Answer → List Answer → Type 0
Lasts before later = (i : ℕ) (answer : Answer) → slice_get before i ≡ Some answer
    → slice_get later i ≡ Some answer

-- what is there lasts where nothing changes
itself-lasts : (answers : List Answer) → Lasts answers answers
itself-lasts answers i answer is = is

module _ (P : List Answer → List Answer → Type 0) (itself : (answers : List Answer) → P answers
    answers) (f : LogState → LogState) (each : (l : LogState) → P l.answers (f l).answers) where
  -- what holds of each log's answers before and after a change holds at each place
  changed-at : (logs : List LogState) (place i : ℕ)
      → P (answers_in (slice_get logs i)) (answers_in (slice_get (change logs place f) i))
  changed-at [] place i = itself []
  changed-at (l ∷ logs) zero zero = each l
  changed-at (l ∷ logs) zero (suc i) = itself (answers_in (slice_get logs i))
  changed-at (l ∷ logs) (suc place) zero = itself l.answers
  changed-at (l ∷ logs) (suc place) (suc i) = changed-at logs place i

  -- and by number
  changed-numbered : (logs : List LogState) (at log : ℕ)
      → P (answers_in (numbered logs log)) (answers_in (numbered (change_numbered logs at f) log))
  changed-numbered logs at log = search (rules, answers_in, changed-at)

-- so answers stay where each log's do
pub answers-stay : (logs : List LogState) (at log : ℕ) (f : LogState → LogState)
    → ((l : LogState) → (f l).answers ≡ l.answers)
    → answers_in (numbered (change_numbered logs at f) log) ≡ answers_in (numbered logs log)
answers-stay logs at log f each = changed-numbered (λ a b. b ≡ a) (λ a. refl) f each logs at log

-- what is told lasts
told-lasts : {S : Type 0} (s : State S) (bio : Bio) (told : Told) (parent : Parent) (log : ℕ)
    → Lasts (answers_of s log) (answers_of (told_to s bio told parent) log)
told-lasts s bio told parent log =
    search (rules, changed-numbered Lasts, itself-lasts, slice_get-append)

module _ {S : Type 0} (c : Scenario S) (s next : State S) (log : ℕ) where
  -- they last where the logs come to some in which they do
  logs-last : (logs : List LogState) → next.logs ≡ logs → Lasts (answers_of s log)
      (answers_in (numbered logs log)) → Lasts (answers_of s log) (answers_of next log)
  logs-last logs same lasts = search rules

  -- where a bio is answered
  answered-last : (at : ℕ) → IsAnswered s at next → Lasts (answers_of s log) (answers_of next log)
  answered-last at is = search (rules, logs-last, told-lasts)

  -- so with each event but the script's
  pub event-lasts : (event : Event) → is_control event ≡ false → Moves c s event next
      → Lasts (answers_of s log) (answers_of next log)
  event-lasts (Line at) quiet moves = logs-last _ moves.logs
      (changed-numbered Lasts itself-lasts _ (λ l i answer is. ap (λ xs. slice_get xs i)
      (moves.keeps_answers (next_line l)) ∙ is) s.logs at log)
  event-lasts (Serve at) quiet moves = answered-last at moves
  event-lasts (Finish at) quiet moves = answered-last at moves
  event-lasts Control quiet moves = absurd (true≢false quiet)
  event-lasts _ quiet moves = logs-last s.logs moves.logs (itself-lasts _)

-- the operation of a number is the only living one of a log
abbrev pub Alone : {S : Type 0} → State S → ℕ → ℕ → Type 0
Alone s log first = (number : ℕ) (bio : Bio) (line : ℕ) (action : Action)
    → bio_of s number ≡ Some bio → bio.parent ≡ FromLog log line action → number ≡ first

module _ {S : Type 0} (m : Meaning S) (c : Scenario S) where
  -- a log of the scenario stands
  pub log-stands : (s : State S) → Fits m c s → (log : ℕ) (plan : LogPlan)
      → numbered c.logs log ≡ Some plan → (l : LogState) × (numbered s.logs log ≡ Some l)
  log-stands s fits zero plan is = absurd (None-not-Some is)
  log-stands s fits (suc at) plan is = slice_get-within s.logs at (omega (arith, slice_get_within))

  -- in a run an operation that lives is alone in its log: at most one waits
  pub run-alone : (events : List Event) (s : State S)
      → IsRun m c events s → Fits m c s → (log first : ℕ) (op : Bio) (line : ℕ) (action : Action)
      → bio_of s first ≡ Some op → op.parent ≡ FromLog log line action → Alone s log first
  run-alone events s run fits log first op line action lives own number bio at act there is =
      let from : FitsParent m c s first op (FromLog log line action) =
      subst (FitsParent m c s first op) own (fits.bios first op lives).parent in
      let stood = log-stands s fits log from.plan from.is_log in
      let most = (run-keeps m c (InOrder c) (event-InOrder c) events (opening c) s run
      (search (rules, map-cases, Waits-same)) log from.plan stood.0 from.is_log stood.1).most in
      let only = waiting-only log s.bios first op (record { line = line; action = action })
      (joined-Some (numbered s.bios first) op lives)
      (ap (operation_for log) own ∙ ap (λ test. cond test
      (Some (record { line = line; action = action })) None) (eq-eqb log log refl)) most in
      elim (cases_eq number first) [
        | inl same ↦ same
        | inr apart ↦
            let busy : is_busy (without_bio s first) log ≡ true = there-passes
            (λ b. is_log log b.parent) (without_bio s first).bios number bio
            (ap option_flatten (numbered-change_other s.bios first number _ apart) ∙ there)
            (ap (is_log log) is ∙ eq-eqb log log refl) in
            absurd (true≢false
            (sym busy ∙ waiting-busy (without_bio s first) log ∙ ap has_item only.after))
      ]

module _ {S : Type 0} (c : Scenario S) (s next : State S) (log first : ℕ) where
  -- with each event but the script's that doesn't answer the operation
  pub event-stays : (event : Event) → is_control event ≡ false → is_answer_to first event ≡ false
      → Moves c s event next → Alone s log first → answers_of next log ≡ answers_of s log
  event-stays event quiet apart moves alone =
      search (rules, answers_in, answers-stay, numbered-change_other, eq-eqb, true≢false)

-- it lives on with each event but the script's that doesn't answer it, the same but for its stage
pub event-lives : {S : Type 0} {m : Meaning S} → Lawful m → {c : Scenario S} {s : State S}
    → Fits m c s → (next : State S) (first : ℕ) (op : Bio) → bio_of s first ≡ Some op
    → (event : Event) → is_control event ≡ false → is_enabled c s event ≡ true → effect m c s event
    ≡ Next next → is_answer_to first event ≡ false → (later : Bio)
    × (bio_of next first ≡ Some later) × (later ≡ record op { stage = later.stage })
event-lives lawful {s = s} fits next first op lives event quiet may leads apart = event-cases lawful
    fits next (λ t. (later : Bio) × (bio_of t first ≡ Some later)
    × (later ≡ record op { stage = later.stage })) event quiet may leads (λ leaves.
    let on = leaves.remains first op lives (not-gone_of event apart) in
    (on.later, on.lives, on.same)) (λ none at j.
    let on = sent-on j first op lives in (on.0, on.1, on.2))
  where
    some : first ≢ 0
    some is = None-not-Some (ap (bio_of s) (sym is) ∙ lives)

    not-gone_of : (e : Event) → is_answer_to first e ≡ false → first ≢ gone_of e
    not-gone_of (Serve at) apart is = true≢false (sym (eq-eqb at first (sym is)) ∙ apart)
    not-gone_of (Finish at) apart is = true≢false (sym (eq-eqb at first (sym is)) ∙ apart)
    not-gone_of _ apart is = some is
