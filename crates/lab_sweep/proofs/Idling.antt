-- Nothing is watched or noted at an event that answers nothing.
use Rattle.lab_model.proofs.Common.{◌≡◌, Bool, true, false, [], refl, if◌then◌else◌}
use Rattle.std.proofs.lemmas.Bool.{false≢true}
use Rattle.lab_target.specs.Meaning.{Meaning}
use Rattle.lab_model.specs.declared.event.Event.{Event}
use Rattle.lab_model.specs.declared.event.Event.TheVariants.{Line, Map, Serve, Release, Finish}
use Rattle.lab_model.specs.declared.event.Event.TheVariants.{Control, Clock}
use Rattle.lab_model.specs.State.{State}
use Rattle.lab_findings.specs.Heard.{watch_heard}
use Rattle.lab_findings.specs.Searched.{noted_here}
use Rattle.lab_findings.specs.Settled.{watch_settled}
use Rattle.lab_findings.specs.Watched.{Watched}
use Rattle.lab_sweep.specs.Idle.{is_idle}

-- one of two that are the same
same : {A : Type 0} (b : Bool) (x : A) → (if b then x else x) ≡ x
same true x = refl
same false x = refl

module _ {S : Type 0} (m : Meaning S) (s : State S) (watched : Watched) where
  -- nothing is heard
  pub heard-idle : (event : Event) → is_idle event ≡ true → watch_heard m s event watched ≡ watched
  heard-idle (Line log) is = same watched.sought.corrupt watched
  heard-idle (Map number) is = same watched.sought.corrupt watched
  heard-idle (Serve number) is = elim (false≢true is) [ ]
  heard-idle (Release number) is = same watched.sought.corrupt watched
  heard-idle (Finish number) is = elim (false≢true is) [ ]
  heard-idle Control is = same watched.sought.corrupt watched
  heard-idle Clock is = same watched.sought.corrupt watched

  -- nothing is noted
  pub noted-idle : (event : Event) → is_idle event ≡ true → noted_here m s event watched ≡ []
  noted-idle (Line log) is = refl
  noted-idle (Map number) is = refl
  noted-idle (Serve number) is = elim (false≢true is) [ ]
  noted-idle (Release number) is = refl
  noted-idle (Finish number) is = elim (false≢true is) [ ]
  noted-idle Control is = refl
  noted-idle Clock is = refl

  -- nothing is settled
  pub settled-idle : (event : Event) → is_idle event ≡ true → watch_settled s event watched ≡ watched
  settled-idle (Line log) is = refl
  settled-idle (Map number) is = refl
  settled-idle (Serve number) is = elim (false≢true is) [ ]
  settled-idle (Release number) is = refl
  settled-idle (Finish number) is = elim (false≢true is) [ ]
  settled-idle Control is = refl
  settled-idle Clock is = refl
