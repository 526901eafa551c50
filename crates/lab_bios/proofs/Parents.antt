-- The log that a bio comes from, one parent after another, as the bios of a run change. The parents
-- of the bios of a run as one is put behind, taken out or comes to another stage. The log that a
-- bio comes from, as one is put behind, taken out or comes to another stage.
use Rattle.lab_model.proofs.Common.{rules, ◌≡◌, ◌≢◌, ℕ, suc, zero, Bool, false, List, Option, Some}
use Rattle.lab_model.proofs.Common.{None, refl, ap, ◌∙◌, Bio, is_bio}
use Rattle.lab_model.specs.declared.parent.Parent.{Parent}
use Rattle.lab_model.specs.declared.parent.Parent.TheVariants.{FromLog, FromBio}
use Rattle.lab_model.proofs.Common.{parent_of, [], ◌∷◌, ◌++◌, length, option_map, option_and_then}
use Rattle.lab_model.proofs.Common.{or_parts, list_any, Stage, bio_may, change_numbered, option_flatten}
use Rattle.lab_model.proofs.Common.{numbered, ◌<◌, cases_eq}
use Rattle.lab_model.specs.declared.piece.Piece.{Piece}
use Rattle.lab_model.specs.Owner.{origin_within}
use Rattle.lab_bios.specs.Origin.{state_with, log_of}
use Rattle.std.proofs.lemmas.List.{length-append}
use Rattle.lab_bios.specs.Living.{living_of}
use Rattle.lab_bios.specs.Views.{with_stage}
use Rattle.lab_bios.proofs.Numbers.{at-changed, at-inside, at-other, at-unpushed}

-- the parent of the bio of a number among some
abbrev pub parent_among : List (Option Bio) → ℕ → Option Parent
parent_among bios number = parent_of (state_with bios) number

-- the log that a bio of this parent comes from, so many parents up at most
abbrev pub log_within : List (Option Bio) → ℕ → Option Parent → ℕ
log_within bios steps parent = origin_within (state_with bios) steps parent

-- without a parent there is no log
pub within-none : (bios : List (Option Bio)) (left : ℕ) → log_within bios left None ≡ 0
within-none bios left = search rules

-- whether a parent is the bio of this number
abbrev pub is_above : ℕ → Option Parent → Bool
is_above number None = false
is_above number (Some parent) = is_bio number parent

-- a bio that isn't the parent has another number than the parent's
pub not-above : (number above : ℕ) (piece : Piece)
    → is_above number (Some (FromBio above piece)) ≡ false → above ≢ number
not-above number above piece isnt same = search rules

-- where each parent on the way up has the parent that it had, a bio comes from where it did
pub within-same : (before after : List (Option Bio)) (Keeps : ℕ → Option Parent → Type 0)
    → ((steps above : ℕ) (piece : Piece) → Keeps (suc steps) (Some (FromBio above piece))
    → Keeps steps (parent_among after above)
    × (parent_among after above ≡ parent_among before above))
    → (steps : ℕ) (parent : Option Parent) → Keeps steps parent
    → log_within after steps parent ≡ log_within before steps parent
within-same before after Keeps up zero None keeps = refl
within-same before after Keeps up zero (Some (FromLog log line action)) keeps = refl
within-same before after Keeps up zero (Some (FromBio above piece)) keeps = refl
within-same before after Keeps up (suc steps) None keeps = refl
within-same before after Keeps up (suc steps) (Some (FromLog log line action)) keeps = refl
within-same before after Keeps up (suc steps) (Some (FromBio above piece)) keeps =
    let next = up steps above piece keeps in
    search (rules, within-same before after Keeps up steps (parent_among after above) next.0)

-- the parent of a bio, if there is one
abbrev parent_in : Option Bio → Option Parent
parent_in bio = option_and_then (λ b. Some b.parent) bio

-- a test that no living bio passes isn't passed by the one of a number
pub passed : (test : Bio → Bool) (bios : List (Option Bio)) (number : ℕ)
    → list_any test (living_of bios) ≡ false
    → bio_may (option_flatten (numbered bios number)) test ≡ false
passed test bios zero none = refl
passed test [] (suc place) none = refl
passed test (None ∷ bios) (suc zero) none = refl
passed test (None ∷ bios) (suc (suc place)) none = passed test bios (suc place) none
passed test (Some bio ∷ bios) (suc zero) none =
    (or_parts (test bio) (list_any test (living_of bios)) none).0
passed test (Some bio ∷ bios) (suc (suc place)) none =
    passed test bios (suc place) (or_parts (test bio) (list_any test (living_of bios)) none).1

-- a bio is above another just if that one was made for a piece of it
pub above-of : (last : ℕ) (bio : Option Bio)
    → is_above last (parent_in bio) ≡ bio_may bio (λ b. is_bio last b.parent)
above-of last bio = search rules

-- with one more behind all, those of other numbers have the parents that they had
pub parent-pushed : (bios : List (Option Bio)) (bio : Bio) (number : ℕ)
    → number ≢ length (bios ++ Some bio ∷ [])
    → parent_among (bios ++ Some bio ∷ []) number ≡ parent_among bios number
parent-pushed bios bio number apart = search (rules, length-append, at-unpushed)

-- none lives at the number of one that was taken out, so that there is no parent
pub parent-gone : (bios : List (Option Bio)) (number : ℕ)
    → parent_among (change_numbered bios number (λ _. None)) number ≡ None
parent-gone bios number = ap parent_in (at-changed bios number (λ _. None) refl)

-- a change leaves the parents of other numbers
pub parent-other : (bios : List (Option Bio)) (number other : ℕ) (f : Option Bio → Option Bio)
    → other ≢ number → parent_among (change_numbered bios number f) other ≡ parent_among bios other
parent-other bios number other f apart = search (rules, at-other)

-- a bio that comes to another stage keeps its parent, and so do the others
pub parent-staged : (bios : List (Option Bio)) (number : ℕ) (stage : Stage) (other : ℕ)
    → parent_among (change_numbered bios number (option_map (with_stage stage))) other
    ≡ parent_among bios other
parent-staged bios number stage other = search (rules, at-inside parent_in (with_stage stage))

-- a bio that comes to another stage comes from where it did, and so do the others
pub log-staged : (bios : List (Option Bio)) (number : ℕ) (stage : Stage) (other : ℕ)
    → log_of (change_numbered bios number (option_map (with_stage stage))) other ≡ log_of bios other
log-staged bios number stage other =
    let after = change_numbered bios number (option_map (with_stage stage)) in
    within-same bios after (λ steps parent. Unit {0})
    (λ steps above piece keeps. (tt, parent-staged bios number stage above))
    other (parent_among after other) tt
    ∙ ap (log_within bios other) (parent-staged bios number stage other)

-- where one is taken out, another that comes from a log came from it before
pub log-left : (bios : List (Option Bio)) (number other : ℕ) → other ≢ number
    → 0 < log_of (change_numbered bios number (λ _. None)) other
    → log_of (change_numbered bios number (λ _. None)) other ≡ log_of bios other
log-left bios number other apart some =
    let after = change_numbered bios number (λ _. None) in
    within-same bios after (λ steps parent. 0 < log_within after steps parent)
    (search (
      rules,
      cases_eq,
      parent_among,
      parent-gone,
      log_within,
      within-none,
      parent-other,
    )) other (parent_among after other) some
    ∙ ap (log_within bios other) (parent-other bios number other (λ _. None) apart)

-- where one is put behind that no bio was made for a piece of, the others come from where they did
pub log-pushed : (bios : List (Option Bio)) (bio : Bio) (number : ℕ)
    → list_any (λ (b : Bio). is_bio (length (bios ++ Some bio ∷ [])) b.parent)
    (living_of (bios ++ Some bio ∷ [])) ≡ false
    → number ≢ length (bios ++ Some bio ∷ [])
    → log_of (bios ++ Some bio ∷ []) number ≡ log_of bios number
log-pushed bios bio number childless apart =
    let after = bios ++ Some bio ∷ [] in
    within-same bios after (λ steps parent. is_above (length after) parent ≡ false)
    (λ steps above piece keeps. (
      (search (rules, above-of, passed)),
      parent-pushed bios bio above (not-above (length after) above piece keeps),
    )) number (parent_among after number) (search (rules, above-of, passed))
    ∙ ap (log_within bios number) (parent-pushed bios bio number apart)
