-- What a sweep tells of one seed's run (this project's own).
use Rattle.std.specs.Prelude.{ℕ, Bool, true, false, List, ◌∷◌, ◌++◌, codes, count_by, decimal, sum_by, take}
use Rattle.sha2.specs.Sha256.{sha256}
use Rattle.hex.specs.Hex.{encode_lower}
use Rattle.lab_model.specs.declared.answer.Outcome.{Outcome}
use Rattle.lab_model.specs.declared.answer.Outcome.TheVariants.{Eio}
use Rattle.lab_model.specs.Report.{text_line}
use Rattle.lab_model.specs.State.{LogState}
use Rattle.lab_sweep.specs.declared.outcome.SeedOutcome.{SeedOutcome}

-- the first 16 digits of a text's SHA-256, in lower case
abbrev pub digest_digits : List ℕ → List ℕ
digest_digits text = encode_lower (take 8 (sha256 text))

-- whether an operation ended with an error
abbrev pub is_eio : Outcome → Bool
is_eio Eio = true
is_eio _ = false

-- how many of some logs' answers are errors
abbrev pub eio_count : List LogState → ℕ
eio_count logs = sum_by (λ log. count_by (λ answer. is_eio answer.outcome) log.answers) logs

-- ` eio=K steps=S clock=C now=T`
abbrev pub figures_text : SeedOutcome → List ℕ
figures_text outcome = codes " eio=" ++ decimal outcome.eio ++ codes " steps="
    ++ decimal outcome.steps ++ codes " clock=" ++ decimal outcome.clock ++ codes " now="
    ++ decimal outcome.time

-- `seed N DIGEST eio=K steps=S clock=C now=T`
abbrev pub seed_line : SeedOutcome → List ℕ
seed_line outcome = text_line (codes "seed " ++ decimal outcome.seed ++ 32 ∷ outcome.digest
    ++ figures_text outcome)
