-- Bytes have a fault that can be told, or the texts of one bundle.
use Rattle.lab_model.proofs.Common.{rules, ◌≡◌, ◌∙◌, ℕ, ◌+◌, ◌≤◌, inl, inr, true, false, cond, List}
use Rattle.lab_model.proofs.Common.{[], ◌∷◌, ◌++◌, Option, Some, length, refl, sym, arith, or-false}
use Rattle.lab_model.proofs.Common.{list_any, cases_Bool, append-nil, filter-append}
use Rattle.lab_model.proofs.Common.{filter_map-append, list_all, list_any-append, is_some, first_of}
use Rattle.lab_model.proofs.Common.{BundleFault, Line}
use Rattle.lab_text.specs.Bundle.{bundle_faults, Script, Title, as_log, as_script, as_table}
use Rattle.lab_text.specs.Bundle.{faults_after, is_heading, is_same_title, line_faults}
use Rattle.lab_text.specs.Bundle.{parts_of, script_faults, size_faults, text_faults, title_faults}
use Rattle.lab_text.specs.Bundle.{titles_of}
use Rattle.lab_text.specs.Lines.{lines_of}
use Rattle.std.specs.List.{filter_map}
use Rattle.law_one_output.proofs.ReadWhole.{seen-told}
use Rattle.lab_text.proofs.BundleLemmas.{faults_after-cons, parts_of-heading, titles_of-heading}
use Rattle.lab_rulebook.specs.PartsOf.{HasTexts, Texts}
use Rattle.lab_model.specs.Rules.{FaultSeen}
use Rattle.lab_refusal.specs.Faults.{bundle_told}

-- ---- each fault can be told

-- each of some faults can be told
abbrev AreTold : List BundleFault → Type 0
AreTold faults = list_all (λ fault. is_some (bundle_told fault)) faults ≡ true

-- faults before others
told-append : (faults others : List BundleFault) → AreTold faults → AreTold others
    → AreTold (faults ++ others)
told-append [] others told more = more
told-append (fault ∷ faults) others told more = grind (arith, told-append faults others)

-- those of lines
lines-told : (before lines : List Line) → AreTold (faults_after before lines)
unfolding faults_after
lines-told before [] = search rules
lines-told before (line ∷ lines) = search (rules, lines-told (before ++ line ∷ []) lines)

-- all faults of some bytes
bytes-told : (bytes : List ℕ) → AreTold (bundle_faults bytes)
unfolding bundle_faults
bytes-told bytes = search (rules, told-append, lines-told)

-- so the first one can
pub first-told : (bytes : List ℕ) (fault : BundleFault)
    → first_of (bundle_faults bytes) ≡ Some fault
    → (seen : FaultSeen) × (bundle_told fault ≡ Some seen)
first-told bytes fault first =
    seen-told (bundle_told fault) (at-front (bundle_faults bytes) (bytes-told bytes) first)
  where
    at-front : (faults : List BundleFault) → AreTold faults → first_of faults ≡ Some fault
        → is_some (bundle_told fault) ≡ true
    at-front [] told is = cc
    at-front (other ∷ faults) told is = grind arith

-- ---- a bundle without a fault has one script

-- no list before another where both make none
empty-parts : {X : Type 0} (xs ys : List X) → xs ++ ys ≡ [] → (xs ≡ []) × (ys ≡ [])
empty-parts [] ys none = (refl, none)
empty-parts (x ∷ xs) ys none = cc

-- how many scripts may come behind parts of these titles
abbrev scripts_left : List Title → ℕ
scripts_left opened = cond (list_any (is_same_title Script) opened) 0 1

-- the parts from a line on that is no heading
parts-plain : (line : Line) (lines : List Line) → is_heading line ≡ false
    → parts_of (line ∷ lines) ≡ parts_of lines
unfolding parts_of
parts-plain line lines plain = rw plain refl

-- a heading without a fault has a title, whose part isn't opened
title-clean : (opened : List Title) (number : ℕ) (title : Option Title)
    → title_faults opened number title ≡ []
    → (own : Title) × (title ≡ Some own) × (list_any (is_same_title own) opened ≡ false)
title-clean opened number title none = search rules

-- what a heading's part adds to the scripts behind it
few-titled : (opened : List Title) (title : Title) (body : List Line)
    (others : List (Title × List Line)) → list_any (is_same_title title) opened ≡ false
    → length (filter_map as_script others) ≤ scripts_left (opened ++ title ∷ [])
    → length (filter_map as_script ((title, body) ∷ others)) ≤ scripts_left opened
few-titled opened title body others new few = search (rules, list_any-append, or-false)

-- lines without a fault have no more scripts than may come
few-scripts : (lines before : List Line) → faults_after before lines ≡ []
    → length (filter_map as_script (parts_of lines)) ≤ scripts_left (titles_of before)
unfolding parts_of
few-scripts [] before none = omega arith
few-scripts (line ∷ lines) before none =
    let clean = empty-parts (line_faults before line) _
    (sym (faults_after-cons before line lines) ∙ none) in
    let few = few-scripts lines (before ++ line ∷ []) clean.1 in
    elim (cases_Bool (is_heading line)) [
      | inl heading ↦
          let behind = empty-parts (text_faults (length before + 1) line) _ clean.0 in
          search (rules, title-clean, parts_of-heading, few-titled, titles_of-heading)
      | inr plain ↦ search (rules, parts-plain, filter-append, filter_map-append, append-nil)
    ]

-- a script's lines are there, and no other's
one-script : (scripts : List (List Line)) → length scripts ≤ 1 → script_faults scripts ≡ []
    → (script : List Line) × (script ∷ [] ≡ scripts)
one-script [] few none = cc
one-script (script ∷ []) few none = (script, refl)
one-script (script ∷ other ∷ others) few none = absurd (omega (arith, few))

-- bytes without a fault have texts
pub clean-texts : (bytes : List ℕ) → bundle_faults bytes ≡ []
    → (texts : Texts) × HasTexts bytes texts
unfolding bundle_faults
clean-texts bytes none =
    let parts = parts_of (lines_of bytes) in
    let sized = empty-parts (size_faults bytes) _ none in
    let lines = empty-parts (faults_after [] (lines_of bytes)) _ sized.1 in
    let script = one-script (filter_map as_script parts)
    (few-scripts (lines_of bytes) [] lines.0) lines.1 in (
      record {
        tables = filter_map as_table parts;
        script = script.0;
        logs = filter_map as_log parts;
      },
      record { tables = refl; script = script.1; logs = refl },
    )
