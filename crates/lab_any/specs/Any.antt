-- A target of any of the types that a table may name (dmsetup(8)).
use Rattle.std.specs.Map.{lookup}
use Rattle.std.specs.Option.{option_and_then, option_map_or}
use Rattle.std.specs.Prelude.{ℕ, List, [], ◌∷◌, Result, Err, codes, slice_get}
use Rattle.std.specs.Str.{bytes_eq}
use Rattle.lab_target.specs.declared.fault.TargetFault.{TargetFault}
use Rattle.lab_target.specs.declared.fault.TargetFault.TheVariants.{Unknown}
use Rattle.lab_target.specs.Meaning.{Draft, Meaning}
use Rattle.lab_simple.specs.ErrorTarget.{error_target}
use Rattle.lab_simple.specs.Linear.{linear}
use Rattle.lab_simple.specs.Zero.{zero_target}
use Rattle.lab_flakey.specs.Flakey.{flakey}
use Rattle.lab_flakey.specs.Words.{pcg_words}
use Rattle.lab_dust.specs.Dust.{dust_target}
use Rattle.lab_delay.specs.Delay.{delay_target}
use Rattle.lab_any.specs.declared.any_target.AnyTarget.{AnyTarget}
use Rattle.lab_any.specs.declared.any_target.AnyTarget.TheVariants.{Linear, Zero, Error, Flakey, Dust, Delay}
use Rattle.lab_any.specs.Part.{Acts, said_as, shape_as}

-- what is made of a target, by its type among the others and what the type means
abbrev pub by_type : {R : Type 0} → ((A : Type 0) → (A → AnyTarget) → Meaning A → A → R)
    → AnyTarget → R
by_type made (Linear t) = made _ Linear linear t
by_type made (Zero t) = made _ Zero zero_target t
by_type made (Error t) = made _ Error error_target t
by_type made (Flakey t) = made _ Flakey (flakey pcg_words) t
by_type made (Dust t) = made _ Dust dust_target t
by_type made (Delay t) = made _ Delay delay_target t

-- the type words of a table, and what a line of each type says
abbrev pub types : List (List ℕ × (List (List ℕ) → ℕ → Result (Draft AnyTarget) TargetFault))
types = (codes "linear", λ words len. said_as Linear (linear.parsed words len))
    ∷ (codes "zero", λ words len. said_as Zero (zero_target.parsed words len))
    ∷ (codes "error", λ words len. said_as Error (error_target.parsed words len))
    ∷ (codes "flakey", λ words len. said_as Flakey ((flakey pcg_words).parsed words len))
    ∷ (codes "dust", λ words len. said_as Dust (dust_target.parsed words len))
    ∷ (codes "delay", λ words len. said_as Delay (delay_target.parsed words len)) ∷ []

-- a target of any type; its numbers are in their ranges where those of its opening state are
abbrev pub any_meaning : Meaning AnyTarget
any_meaning = record {
  parsed = λ words len. option_map_or (λ said. said words len)
      (option_and_then (λ word. lookup (bytes_eq word) types) (slice_get words 0)) (Err Unknown);
  shape = by_type (λ _ any part t. shape_as any (part.shape t));
  is_sound = λ t. by_type (λ _ any part t. part.is_sound t)
      (by_type (λ _ any part t. shape_as any (part.shape t)) t).opening;
  started = λ t now. by_type (λ _ any part t. any (part.started t now)) t;
  verdict = by_type (λ _ any part t. part.verdict t);
  judged = λ t kind piece now. by_type (λ _ any part t. any (part.judged t kind piece now)) t;
  reply = by_type (λ _ any part t. part.reply t);
  messaged = λ t words. by_type (λ _ any part t. any (part.messaged t words)) t;
  status = by_type (λ _ any part t. part.status t);
}

-- what a target is and does in its state
abbrev pub acts_of : AnyTarget → Acts AnyTarget
acts_of t = record {
  shape = any_meaning.shape t;
  is_sound = by_type (λ _ any part t. part.is_sound t) t;
  started = any_meaning.started t;
  verdict = any_meaning.verdict t;
  judged = any_meaning.judged t;
  reply = any_meaning.reply t;
  messaged = any_meaning.messaged t;
  status = any_meaning.status t;
}
