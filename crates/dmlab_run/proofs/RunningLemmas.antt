-- From what single steps did to what a run did. From what single steps of a run by threads found to
-- its output.
use Rattle.lab_model.proofs.Common.{◌≡◌, ◌≢◌, ◌∙◌, ◌↔◌, ◌+◌, ◌≤◌, ◌<◌, ◌++◌, ℕ, List, [], Bool, length}
use Rattle.lab_model.proofs.Common.{take, ap, sym, inl, inr, cases_lt, take_all, Option, true, IfSome}
use Rattle.lab_model.proofs.Common.{Some, None, report, Scenario, rules, arith, refl, none-some, subst}
use Rattle.lab_model.proofs.Common.{map, same_Some}
use Rattle.std.specs.String.{string_bytes}
use Rattle.std.proofs.Common.{append-nil}
use Rattle.std.proofs.lemmas.List.{take-append-le}
use Rattle.std.specs.Io.KnownBytes.{Consumes, IsAtEnd, Keeps}
use Rattle.lab_any.specs.Any.{any_meaning}
use Rattle.clap.specs.Words.{Text}
use Rattle.dmlab_words.specs.CommandLine.{NamesWork, faults_of}
use Rattle.dmlab_run.specs.Counting.{IsUncalled, WritesInOrder}
use Rattle.dmlab_run.specs.Running.{IsAdvice, IsInput, IsSilent, IsWords, Runs, TellsAnswer, TellsWork}
use Rattle.dmlab_run.specs.Running.{Writes}
use Rattle.dmlab_run.specs.Threads.{IsOutputOf, RunsByThreads, fired_line}
use Rattle.dmlab_run.specs.declared.counted.Counted.{Counted}
use Rattle.dmlab_run.specs.declared.outcome.Answer.{Answer}
use Rattle.dmlab_run.specs.declared.status.Status.{Status}
use Rattle.dmlab_run.specs.declared.status.Status.TheVariants.{Done, Found, Refused, Words, NoMemory}
use Rattle.dmlab_run.specs.declared.status.Status.TheVariants.{ReadFault, Version, WriteFault}
use Rattle.dmlab_words.specs.declared.work.Work.{Work}
use Rattle.lab_any.specs.declared.any_target.AnyTarget.{AnyTarget}
use Rattle.lab_runner.specs.Finished.{IsFinished}
use Rattle.lab_runner.specs.declared.sweep.Finished.{Finished}
use Rattle.dmlab_run.specs.Lines.{Output}
use Rattle.dmlab_run.specs.Answering.{told_of}
use Rattle.dmlab_run.specs.Tried.{AdvisesAll}
use Rattle.dmlab_run.specs.Troubles.{IsStopped, troubles_text}
use Rattle.lab_refusal.specs.Faults.{fault_seen}
use Rattle.lab_refusal.specs.declared.fault.Fault.{Fault}
use Rattle.lab_advice.specs.declared.trouble.Trouble.{Trouble}
use Rattle.dmlab_run.specs.Output.{history_part}

-- bytes up to the end, or as many as are read at most, are those that a run reads; where the input
-- doesn't tell its bytes, that they are so many at most is all that is asked
pub IsInput-gone : (old new : Option (List ℕ)) (bytes : List ℕ) → Consumes old new bytes
    → length bytes ≤ 16777217 → (length bytes < 16777217 → IsAtEnd new) → IsInput old bytes
IsInput-gone None new bytes gone most end = most
IsInput-gone (Some known) None bytes gone most end = absurd gone
IsInput-gone (Some known) (Some rest) bytes gone most end =
    elim (cases_lt (length bytes) 16777217) [
      | inl short ↦
          let all : known ≡ bytes = gone ∙ ap (λ l. bytes ++ l) (end short) ∙ append-nil bytes in
          sym (take_all 16777217 bytes most) ∙ ap (take 16777217) (sym all)
      | inr long ↦
          sym (take_all 16777217 bytes most) ∙ sym (take-append-le 16777217 bytes rest long)
          ∙ ap (take 16777217) (sym gone)
    ]

-- what stayed as it was is kept
Keeps-same : (old new : Option (List ℕ)) → new ≡ old → Keeps old new
Keeps-same None new same = tt
Keeps-same (Some bytes) None same = cc
Keeps-same (Some bytes) (Some others) same = cc

module _ (bytes bundle : List ℕ) (told : Output) (taken : ℕ) (old new : Option (List ℕ)) where
  -- an answer to these bytes that was told so is the output of a run that ended so, where they are
  -- the bundle's if it is refused
  pub Writes-told : (status : Status) (work : Work) (input : Option (List ℕ))
      → TellsAnswer bytes status told taken old new → (told.refused ≡ true → bytes ≡ bundle)
      → IsInput input bundle → IsOutputOf any_meaning work bundle told
      → Writes status work input taken old new
  Writes-told (Done besides) work input tells own read answer =
      (bundle, told, read, answer, tells.0, tells.1, tells.2)
  Writes-told (Found besides) work input tells own read answer =
      (bundle, told, read, answer, tells.0, tells.1, tells.2)
  Writes-told (Refused advice) work input tells own read answer = (
    bundle,
    told,
    read,
    answer,
    (tells.0.0, subst (λ b. IsAdvice b told (string_bytes advice)) (own tells.0.0) tells.0.1),
    tells.1,
    tells.2,
  )
  Writes-told WriteFault work input tells own read answer =
      (bundle, told, read, answer, tells.0, tells.1)
  Writes-told status work input tells own read answer = absurd tells.0

  -- what was told is the end of no read
  pub Tells-no_read : (status : Status) → TellsAnswer bytes status told taken old new
      → status ≢ ReadFault
  Tells-no_read (Done besides) tells same = cc
  Tells-no_read (Found besides) tells same = cc
  Tells-no_read (Refused advice) tells same = cc
  Tells-no_read WriteFault tells same = cc
  Tells-no_read status tells same = absurd tells.0

  -- and not silent
  pub Tells-loud : (status : Status) → TellsAnswer bytes status told taken old new
      → IsSilent status → ⊥
  Tells-loud (Done besides) tells quiet = quiet
  Tells-loud (Found besides) tells quiet = quiet
  Tells-loud (Refused advice) tells quiet = quiet
  Tells-loud WriteFault tells quiet = quiet
  Tells-loud status tells quiet = tells.0

-- what a refusal tells besides is advice on what stopped the bundle and on the other faults, which
-- its text tells
pub IsAdvice-told : (bytes : List ℕ) (told : Output) (advice : List ℕ) (trouble : Option Trouble)
    (others : List Fault) → map fault_seen others ≡ told.others
    → IsStopped true told.text trouble told.others
    → IfSome trouble (λ it. AdvisesAll bytes it others advice) → IsAdvice bytes told advice
IsAdvice-told bytes told advice None others same stopped advised =
    absurd (none-some told.text stopped)
IsAdvice-told bytes told advice (Some trouble) others same stopped advised = (
  trouble,
  others,
  same,
  sym (same_Some (troubles_text trouble told.others) told.text stopped),
  advised,
)

-- the same of an answer that refuses the bundle
pub IsAdvice-answer : (bytes advice : List ℕ) (answer : Answer) → answer.refused ≡ true
    → IfSome answer.trouble (λ it. AdvisesAll bytes it answer.others.items advice)
    → IsAdvice bytes (told_of answer) advice
IsAdvice-answer bytes advice answer refused advised =
    IsAdvice-told bytes (told_of answer) advice answer.trouble answer.others.items refl
    (subst (λ is. IsStopped is answer.text.items answer.trouble
    (map fault_seen answer.others.items)) refused answer.stopped) advised

module _ {O : Type 0} (held : O → Option (List ℕ)) (work : Work) (bundle : List ℕ) where
  -- an answer that was told so is told as the output of the work whose answer it is
  pub Works-told : (bytes : List ℕ) (status : Status) (told : Output) (old new : Counted O)
      → ((status ≡ WriteFault) ↔ (old.failures < new.failures))
      → new.failures ≤ old.failures + 1 → WritesInOrder new
      → TellsAnswer bytes status told new.bytes (held old.inner) (held new.inner)
      → (told.refused ≡ true → bytes ≡ bundle) → IsOutputOf any_meaning work bundle told
      → TellsWork held work bundle status old new
  Works-told bytes status told old new fault few order tells own is = record {
    fault = fault;
    one_fault = few;
    read = Tells-no_read bytes bundle told new.bytes (held old.inner) (held new.inner) status tells;
    order = order;
    writes = λ input read. Writes-told bytes bundle told new.bytes (held old.inner)
        (held new.inner) status work input tells own read is;
    silent = λ quiet. absurd (Tells-loud bytes bundle told new.bytes (held old.inner)
        (held new.inner) status tells quiet);
  }

  -- where memory was wanting for an answer nothing is told
  pub Works-untold : (output : Counted O) → IsUncalled output
      → TellsWork held work bundle NoMemory output output
  Works-untold output none = record {
    fault = search (rules, arith);
    one_fault = omega arith;
    read = λ same. cc;
    order = search rules;
    writes = λ input read. Keeps-same (held output.inner) (held output.inner) refl;
    silent = λ quiet. refl;
  }

-- no work refuses words
pub Writes-words : (status : Status) (work : Work) (input : Option (List ℕ)) (taken : ℕ)
    (old new : Option (List ℕ)) → Writes status work input taken old new → IsWords status → ⊥
Writes-words (Words error) work input taken old new wrote words = wrote
Writes-words (Version error) work input taken old new wrote words = wrote
Writes-words status work input taken old new wrote words = words

-- what the work wrote is what the run by its words did
pub Runs-written : (status : Status) (words : List Text) (work : Work)
    (input : Option (List ℕ)) (taken : ℕ) (old new : Option (List ℕ)) → NamesWork words work
    → faults_of words ≡ [] → Writes status work input taken old new
    → Runs status words input taken old new
Runs-written (Words error) words work input taken old new names none wrote = absurd wrote
Runs-written (Version error) words work input taken old new names none wrote = absurd wrote
Runs-written NoMemory words work input taken old new names none wrote = wrote
Runs-written status words work input taken old new names none wrote = (work, names, none, wrote)

-- the report of a run that is done, its counts and its events are what a run by threads tells
pub runs-finished : (c : Scenario AnyTarget) (asked : Bool) (run : Finished) (text : List ℕ)
    → IsFinished any_meaning c run
    → text ≡ report any_meaning run.lab.scenario run.lab.history run.lab.state
    ++ fired_line run.counts.items run.swept ++ history_part asked run.lab.history
    → RunsByThreads any_meaning c asked text
runs-finished c asked run text finished told = record {
  events = finished.events;
  swept = finished.swept;
  end = run.lab.state;
  counts = run.counts.items;
  complete = (rw finished.history at finished.back.run, finished.done);
  counted = finished.counted;
  told = rw (finished.back.scenario, finished.history, finished.swept_count) at told;
}
