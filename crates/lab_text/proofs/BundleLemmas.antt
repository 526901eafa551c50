-- The parts of a bundle, read one by one. The parts of a bundle while it is read.
use Rattle.std.proofs.Common.{inr, inl, rules, ◌≡◌, ◌+◌, true, List, [], ◌∷◌, ◌++◌, length, Some}
use Rattle.std.proofs.Common.{refl, append_assoc, append-nil, length-append, false, cond, ◌||◌}
use Rattle.std.specs.Prelude.{map}
use Rattle.std.specs.List.{list_any, filter_map}
use Rattle.std.proofs.Math.Bool.{or-false}
use Rattle.std.proofs.lemmas.Bool.{cases_Bool}
use Rattle.std.proofs.lemmas.List.Folds.{list_any-append}
use Rattle.std.proofs.lemmas.List.Elements.{filter_map-append, filter-append}
use Rattle.lab_text.specs.Bundle.{Line, Title, is_heading, is_same_title, body_of, title_of}
use Rattle.lab_text.specs.Bundle.{titles_of, parts_of, line_faults, faults_after, Script}
use Rattle.lab_text.specs.Bundle.{as_script, as_history}
use Rattle.lab_text.specs.Reading.{BeginsPart, after_body, body_faults, title}
use Rattle.lab_text.specs.Drafts.{has_title, DraftHas, Headings, is_seen}
use Rattle.lab_text.proofs.ReadingLemmas.{body_of-plain, after_body-plain, body_of-BeginsPart}
use Rattle.lab_text.proofs.ReadingLemmas.{after_body-BeginsPart}
use Rattle.lab_text.specs.contracts.heading.HeadingPartialEq.TheImpl.{ghosts}
use Rattle.lab_text.specs.declared.draft.Draft.{Draft}
use Rattle.lab_text.specs.declared.heading.Heading.{Heading}
use Rattle.lab_text.specs.declared.heading.Heading.TheVariants.{History}

-- ---- lines that are no headings

-- the faults of a line and of those after it
pub faults_after-cons : (before : List Line) (line : Line) (lines : List Line)
    → faults_after before (line ∷ lines) ≡ line_faults before line
    ++ faults_after (before ++ line ∷ []) lines
unfolding faults_after
faults_after-cons before line lines = refl

-- the faults up to the next heading, and those from it on
pub faults_after-body : (before lines : List Line)
    → faults_after before lines
    ≡ body_faults (list_any is_heading before) (length before + 1) (body_of lines)
    ++ faults_after (before ++ body_of lines) (after_body lines)
faults_after-body before [] = rw append-nil
faults_after-body before (line ∷ lines) =
    elim (cases_Bool (is_heading line)) [
      | inl heading ↦ rw (
        body_of-BeginsPart (line ∷ lines) heading,
        after_body-BeginsPart (line ∷ lines) heading,
        append-nil,
      )
      | inr plain ↦
          let later = faults_after-body (before ++ line ∷ []) lines in
          rw (body_of-plain line lines plain, after_body-plain line lines plain, faults_after-cons)
          (simp (later, list_any-append, plain, or-false, length-append, append_assoc))
    ]

-- a body has no heading
pub titles_of-body : (lines : List Line) → titles_of (body_of lines) ≡ []
titles_of-body [] = search rules
titles_of-body (line ∷ lines) =
    search (rules, cases_Bool, body_of-BeginsPart, body_of-plain, titles_of-body lines)

-- the titles of lines and of those after them
pub titles_of-append : (before lines : List Line) → titles_of (before ++ lines)
    ≡ titles_of before ++ titles_of lines
titles_of-append before lines = rw (filter-append, filter_map-append)

-- and the parts are those from the next heading on
pub parts_of-after_body : (lines : List Line) → parts_of lines ≡ parts_of (after_body lines)
unfolding parts_of
parts_of-after_body [] = search rules
parts_of-after_body (line ∷ lines) =
    search (rules, cases_Bool, after_body-BeginsPart, after_body-plain, parts_of-after_body lines)

-- what follows a body begins a part
pub BeginsPart-after_body : (lines : List Line) → BeginsPart (after_body lines)
BeginsPart-after_body [] = search rules
BeginsPart-after_body (line ∷ lines) =
    search (rules, cases_Bool, after_body-BeginsPart, after_body-plain, BeginsPart-after_body lines)

-- ---- headings

-- the part of a heading, and those after it
pub parts_of-heading : (line : Line) (lines : List Line) (title : Title) → is_heading line ≡ true
    → title_of line ≡ Some title → parts_of (line ∷ lines) ≡ (title, body_of lines) ∷ parts_of lines
unfolding parts_of
parts_of-heading line lines title heading titled = rw (heading, titled)

-- one of the titles is that of a part where one of the parts has it
pub list_any-titles : (title : Title) (parts : List (Title × List Line))
    → list_any (is_same_title title) (map (λ part. part.0) parts) ≡ has_title title parts
list_any-titles title [] = refl
list_any-titles title (part ∷ parts) = rw (list_any-titles title parts)

-- the title of a heading with one of the four forms
pub titles_of-heading : (before : List Line) (line : Line) (title : Title) → is_heading line ≡ true
    → title_of line ≡ Some title → titles_of (before ++ line ∷ []) ≡ titles_of before ++ title ∷ []
titles_of-heading before line title heading titled = search (rules, titles_of-append)

-- one more heading is seen after it is put in
pub is_seen-update : (heading other : Heading) (old new : Headings)
    → list_any (ghosts.eq other) new.keys
    ≡ cond (ghosts.eq heading other) true (list_any (ghosts.eq other) old.keys)
    → is_seen other new ≡ (is_same_title (title heading) (title other) || is_seen other old)
is_seen-update heading other old new updated = search rules

-- a heading is known among those before the last part, or is the last part's
pub opened-add : {parts : List (Title × List Line)} {old : Draft} (new : Headings)
    (heading : Heading) (lines : List Line) → DraftHas old parts
    → ((other : Heading) → is_seen other new
    ≡ (is_same_title (title heading) (title other) || is_seen other old.seen))
    → (other : Heading)
    → is_seen other new ≡ has_title (title other) (parts ++ (title heading, lines) ∷ [])
opened-add new heading lines had seen other = search (rules, list_any-append)

-- no script, where no part has its title
pub as_script-none : (parts : List (Title × List Line)) → has_title Script parts ≡ false
    → filter_map as_script parts ≡ []
as_script-none [] none = refl
as_script-none ((title, lines) ∷ parts) none = search (rules, as_script-none parts)

-- no history, where no part has its title
pub as_history-none : (parts : List (Title × List Line)) → has_title (title History) parts ≡ false
    → filter_map as_history parts ≡ []
as_history-none [] none = refl
as_history-none ((own, lines) ∷ parts) none = search (rules, as_history-none parts)
