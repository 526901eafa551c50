-- What is known of a bundle up to a heading, and how one more part is read.
use Rattle.std.proofs.Common.{rules, ◌≡◌, ℕ, ◌+◌, ◌<◌, ◌≤◌, true, false, cond, List, [], ◌∷◌, ◌++◌}
use Rattle.std.proofs.Common.{length, Some, append_assoc, append-nil, length-append}
use Rattle.std.specs.Prelude.{map}
use Rattle.std.specs.List.{filter_map}
use Rattle.std.proofs.lemmas.List.{map-append}
use Rattle.std.proofs.lemmas.List.Folds.{list_any-append}
use Rattle.std.proofs.lemmas.Bool.{lt-ltb, le-ltb}
use Rattle.lab_text.proofs.BundleLemmas.{titles_of-append, titles_of-body, faults_after-cons}
use Rattle.lab_text.proofs.BundleLemmas.{faults_after-body, titles_of-heading, parts_of-after_body}
use Rattle.lab_text.proofs.BundleLemmas.{parts_of-heading, BeginsPart-after_body, list_any-titles}
use Rattle.lab_text.specs.Lines.{lines_of}
use Rattle.lab_text.specs.Bundle.{Line, Title, body_of, title_of, titles_of, parts_of, as_script}
use Rattle.lab_text.specs.Bundle.{first_of, text_faults, title_faults, faults_after, script_faults}
use Rattle.lab_text.specs.Bundle.{bundle_faults}
use Rattle.lab_text.specs.Reading.{BeginsPart, after_body, body_faults}
use Rattle.lab_text.specs.Drafts.{DraftHas, has_title}
use Rattle.lab_text.specs.declared.bundle.BundleFault.{BundleFault}
use Rattle.lab_text.specs.declared.bundle.BundleFault.TheVariants.{TooBig, Twice}
use Rattle.lab_text.specs.declared.draft.Draft.{Draft}
use Rattle.lab_text.proofs.ReadingLemmas.{first_of-line}

-- the first fault of too many bytes is that
pub first_of-too_big : (bytes : List ℕ) → 16777216 < length bytes → first_of (bundle_faults bytes)
    ≡ Some TooBig
unfolding bundle_faults
first_of-too_big bytes over = rw (lt-ltb 16777216 (length bytes) over)

-- a bundle that isn't too big has the faults of its lines and of its scripts
pub bundle_faults-small : (bytes : List ℕ) → length bytes ≤ 16777216
    → bundle_faults bytes ≡ faults_after [] (lines_of bytes)
    ++ script_faults (filter_map as_script (parts_of (lines_of bytes)))
unfolding bundle_faults
bundle_faults-small bytes within = rw (le-ltb 16777216 (length bytes) within)

-- a fault before the first heading is the first one of the bundle
pub first_of-before : (bytes : List ℕ) {fault : BundleFault} → length bytes ≤ 16777216
    → first_of (body_faults false 1 (body_of (lines_of bytes))) ≡ Some fault
    → first_of (bundle_faults bytes) ≡ Some fault
first_of-before bytes within told = rw (bundle_faults-small bytes within, faults_after-body)
    (first_of-line _ _ _ (first_of-line _ _ _ told))

-- the lines before the rest are read, and have no fault
pub record ReadsParts (bytes rest : List ℕ) (number : ℕ) (draft : Draft) : Type 0 where
  pub before : List Line
  pub parts : List (Title × List Line)
  pub size : length bytes ≤ 16777216
  pub counted : number ≡ length before + 1
  pub faults : faults_after [] (lines_of bytes) ≡ faults_after before (lines_of rest)
  pub titles : titles_of before ≡ map (λ part. part.0) parts
  pub all : parts_of (lines_of bytes) ≡ parts ++ parts_of (lines_of rest)
  pub has : DraftHas draft parts
  pub begins : BeginsPart (lines_of rest)

module _ {bytes rest : List ℕ} {number : ℕ} {draft : Draft}
    (reads : ReadsParts bytes rest number draft) where
  -- a fault that comes next is the first one of the bundle
  ReadsParts-fault : (fault : BundleFault)
      → first_of (faults_after reads.before (lines_of rest)) ≡ Some fault
      → first_of (bundle_faults bytes) ≡ Some fault
  ReadsParts-fault fault told = search (rules, bundle_faults-small, first_of-line)

  -- at the end the parts are all
  pub ReadsParts-all : rest ≡ [] → parts_of (lines_of bytes) ≡ reads.parts
  unfolding lines_of parts_of
  ReadsParts-all empty = rw (reads.all, empty, append-nil)

  -- and what faults there are are those of the scripts
  pub ReadsParts-scripts : rest ≡ []
      → bundle_faults bytes ≡ script_faults (filter_map as_script reads.parts)
  unfolding lines_of faults_after
  ReadsParts-scripts empty = search (rules, bundle_faults-small, ReadsParts-all)

  module _ {line : Line} {lines : List Line} (first : lines_of rest ≡ line ∷ lines) where
    -- a heading's own faults
    abbrev own_faults : List BundleFault
    own_faults =
        text_faults number line ++ title_faults (titles_of reads.before) number (title_of line)

    -- the faults from a heading on
    heading-faults : faults_after reads.before (lines_of rest)
        ≡ own_faults ++ faults_after (reads.before ++ line ∷ []) lines
    heading-faults = search (rules, faults_after-cons)

    -- a heading's own fault
    pub ReadsParts-heading_fault : {fault : BundleFault} → first_of own_faults ≡ Some fault
        → first_of (bundle_faults bytes) ≡ Some fault
    ReadsParts-heading_fault told =
        ReadsParts-fault _ (rw heading-faults (first_of-line _ _ _ told))

    module _ {title : Title} (clean : text_faults number line ≡ [])
        (titled : title_of line ≡ Some title) where
      -- a heading's title is that of another part, if one has it
      known : title_faults (titles_of reads.before) number (Some title)
          ≡ cond (has_title title reads.parts) (Twice number ∷ []) []
      known = rw (reads.titles, list_any-titles title reads.parts)

      -- the second heading of one part
      pub ReadsParts-twice : has_title title reads.parts ≡ true
          → first_of (bundle_faults bytes) ≡ Some (Twice number)
      ReadsParts-twice old = ReadsParts-heading_fault (rw (clean, titled, known, old))

      module _ (new : has_title title reads.parts ≡ false) where
        -- a heading without a fault is read
        heading-clean : faults_after reads.before (lines_of rest)
            ≡ body_faults true (number + 1) (body_of lines)
            ++ faults_after ((reads.before ++ line ∷ []) ++ body_of lines) (after_body lines)
        heading-clean =
            search (rules, heading-faults, known, faults_after-body, list_any-append, length-append)

        -- a fault of the lines after a heading
        pub ReadsParts-body_fault : {fault : BundleFault}
            → first_of (body_faults true (number + 1) (body_of lines)) ≡ Some fault
            → first_of (bundle_faults bytes) ≡ Some fault
        ReadsParts-body_fault told = search (rules, ReadsParts-fault, heading-clean, first_of-line)

        -- one more part is read
        pub ReadsParts-part : {end : List ℕ} {next : ℕ} {draft_then : Draft}
            → body_faults true (number + 1) (body_of lines) ≡ []
            → next ≡ number + 1 + length (body_of lines)
            → lines_of end ≡ after_body lines
            → DraftHas draft_then (reads.parts ++ (title, body_of lines) ∷ [])
            → ReadsParts bytes end next draft_then
        ReadsParts-part quiet counted left has =
            search (
              rules,
              length-append,
              heading-clean,
              titles_of-append,
              titles_of-body,
              titles_of-heading,
              map-append,
              parts_of-heading,
              parts_of-after_body,
              append_assoc,
              BeginsPart-after_body,
            )
