-- The exit status of the program (this project's own).
use Rattle.std.specs.Prelude.{◌≡◌, ◌⊎◌, ℕ}
use Rattle.dmlab_run.specs.declared.status.Status.{Status}
use Rattle.dmlab_run.specs.declared.status.Status.TheVariants.{Done, Found, Refused, Version, Words}

-- 0 done, 1 refused, 2 wrong words, or a call for help, 3 no memory or a failed read or write, 4 done
-- where something was found that is to be a failure
abbrev pub status_number : Status → ℕ
status_number (Done besides) = 0
status_number (Found besides) = 4
status_number (Refused advice) = 1
status_number (Words error) = 2
status_number _ = 3

-- a run that ended so has this exit status; the version ends with 0, or with 3 where it can't be
-- written
abbrev pub EndsWith : Status → ℕ → Type 0
EndsWith (Version version) number = (number ≡ 0) ⊎ (number ≡ 3)
EndsWith status number = number ≡ status_number status
