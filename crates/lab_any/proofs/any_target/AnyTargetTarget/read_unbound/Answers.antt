-- A line is read as its type reads it.
use Rattle.std.proofs.Common.{◌≡◌, ℕ, List, refl, ◌∙◌}
use Rattle.std.specs.Prelude.{Some, Ok, Err}
use Rattle.std.proofs.lemmas.Result.{err_from_is_err_and}
use Rattle.lab_target.specs.declared.fault.TargetFault.{TargetFault}
use Rattle.lab_target.specs.Meaning.{Draft, Meaning}
use Rattle.lab_text.specs.Words.{words_left}
use Rattle.lab_simple.specs.ErrorTarget.{error_target}
use Rattle.lab_simple.specs.Linear.{linear}
use Rattle.lab_simple.specs.Zero.{zero_target}
use Rattle.lab_flakey.specs.Flakey.{flakey}
use Rattle.lab_flakey.specs.Words.{pcg_words}
use Rattle.lab_dust.specs.Dust.{dust_target}
use Rattle.lab_delay.specs.Delay.{delay_target}
use Rattle.lab_any.specs.declared.any_target.AnyTarget.{AnyTarget}
use Rattle.lab_any.specs.declared.any_target.AnyTarget.TheVariants as any
use Rattle.lab_any.specs.declared.type_name.TypeName.{TypeName}
use Rattle.lab_any.specs.declared.type_name.TypeName.TheVariants.{Linear, Zero, Error, Flakey, Dust}
use Rattle.lab_any.specs.declared.type_name.TypeName.TheVariants.{Delay}
use Rattle.lab_any.specs.Any.{any_meaning}
use Rattle.lab_any.specs.AnyLaws.{parsed-is}
use Rattle.lab_any.specs.Part.{draft_as, said_as}
use Rattle.lab_any.specs.Names.{said_by, type_of}
use Rattle.lab_any.proofs.any_target.AnyTargetTarget.read_unbound.Goals.{in-Linear+in_ok-line-in-Linear}
use Rattle.lab_any.proofs.any_target.AnyTargetTarget.read_unbound.Goals.{in-Zero+in_ok-line-in-Zero}
use Rattle.lab_any.proofs.any_target.AnyTargetTarget.read_unbound.Goals.{in-Error+in_ok-line-in-Error}
use Rattle.lab_any.proofs.any_target.AnyTargetTarget.read_unbound.Goals.{in-Flakey+in_ok-line-in-Flakey}
use Rattle.lab_any.proofs.any_target.AnyTargetTarget.read_unbound.Goals.{in-Dust+in_ok-line-in-Dust}
use Rattle.lab_any.proofs.any_target.AnyTargetTarget.read_unbound.Goals.{in-Delay+in_ok-line-in-Delay}
use Rattle.lab_any.proofs.any_target.AnyTargetTarget.read_unbound.Goals as goal

-- what a type makes of a line is made
made : {A : Type 0} (any : A → AnyTarget) (part : Meaning A) (name : TypeName)
    (words : List (List ℕ)) (len : ℕ) (draft : Draft A) → type_of words ≡ Some name
    → said_by name words len ≡ said_as any (part.parsed words len)
    → part.parsed words len ≡ Ok draft
    → any_meaning.parsed words len ≡ Ok (draft_as any draft)
made any part name words len draft typed says is =
    parsed-is words len ∙ rw (typed, says, is) refl

-- a fault that a type finds in a line is the line's
refused : {A : Type 0} (any : A → AnyTarget) (part : Meaning A) (name : TypeName)
    (words : List (List ℕ)) (len : ℕ) (fault : TargetFault) → type_of words ≡ Some name
    → said_by name words len ≡ said_as any (part.parsed words len)
    → part.parsed words len ≡ Err fault → any_meaning.parsed words len ≡ Err fault
refused any part name words len fault typed says is =
    parsed-is words len ∙ rw (typed, says, is) refl

-- a flakey line has a fault of its own
pub returns-in_err-line-in-Flakey : goal.returns-in_err-line-in-Flakey
returns-in_err-line-in-Flakey c =
    let residual = c.from_residual-in_err-line-in-Flakey in
    let p = err_from_is_err_and residual.result residual.ensures.1 in
    rw (p.1, p.2) (λ memory. refused any.Flakey (flakey pcg_words) Flakey (words_left c.args.words)
    c.args.len _ (cc) refl (c.in_err-line-in-Flakey.ensures memory))

-- a delay line has a fault of its own
pub returns-in_err-line-in-Delay : goal.returns-in_err-line-in-Delay
returns-in_err-line-in-Delay c =
    let residual = c.from_residual-in_err-line-in-Delay in
    let p = err_from_is_err_and residual.result residual.ensures.1 in
    rw (p.1, p.2) (λ memory. refused any.Delay delay_target Delay (words_left c.args.words)
    c.args.len _ (cc) refl (c.in_err-line-in-Delay.ensures memory))

-- a line of a type is read
pub returns : goal.returns
returns c =
    let words = words_left c.args.words in
    elim c.match-name.branch [
      | in-Linear+in_ok-line-in-Linear w ↦ rw w.devices-is (made any.Linear linear Linear words
          c.args.len _ (cc) refl w.in_ok-line-in-Linear.ensures)
      | in-Zero+in_ok-line-in-Zero w ↦ rw w.devices-is (made any.Zero zero_target Zero words
          c.args.len _ (cc) refl w.in_ok-line-in-Zero.ensures)
      | in-Error+in_ok-line-in-Error w ↦ rw w.devices-is (made any.Error error_target Error words
          c.args.len _ (cc) refl w.in_ok-line-in-Error.ensures)
      | in-Flakey+in_ok-line-in-Flakey w ↦ rw w.devices-is (made any.Flakey (flakey pcg_words)
          Flakey words c.args.len _ (cc) refl w.in_ok-line-in-Flakey.ensures)
      | in-Dust+in_ok-line-in-Dust w ↦ rw w.devices-is (made any.Dust dust_target Dust words
          c.args.len _ (cc) refl w.in_ok-line-in-Dust.ensures)
      | in-Delay+in_ok-line-in-Delay w ↦ rw w.devices-is (made any.Delay delay_target Delay words
          c.args.len _ (cc) refl w.in_ok-line-in-Delay.ensures)
    ]
