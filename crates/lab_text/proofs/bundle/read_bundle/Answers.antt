-- Each way out tells the first fault, or has read all parts.
use Rattle.std.proofs.Common.{rules, sym, ◌∙◌}
use Rattle.std.proofs.lemmas.Result.{IfOk-weaker}
use Rattle.lab_text.proofs.BundleLemmas.{titles_of-append, titles_of-body, parts_of-after_body}
use Rattle.lab_text.proofs.BundleLemmas.{BeginsPart-after_body, faults_after-body}
use Rattle.lab_text.proofs.PartsLemmas.{first_of-too_big}
use Rattle.lab_text.proofs.PartsLemmas.{ReadsParts-heading_fault, ReadsParts-twice}
use Rattle.lab_text.proofs.PartsLemmas.{ReadsParts-body_fault, ReadsParts-part, ReadsParts-all}
use Rattle.lab_text.proofs.PartsLemmas.{ReadsParts-scripts, first_of-before}
use Rattle.lab_text.specs.Bundle.{titles_of}
use Rattle.lab_text.proofs.bundle.read_bundle.Goals as goal

-- too many bytes
pub returns-then-bytes-gt-MAX_BUNDLE_BYTES-clause-err :
    goal.returns-then-bytes-gt-MAX_BUNDLE_BYTES-clause-err
returns-then-bytes-gt-MAX_BUNDLE_BYTES-clause-err c = search (rules, first_of-too_big)

-- a fault before the first heading
pub returns-in_err-spot-clause-err : goal.returns-in_err-spot-clause-err
returns-in_err-spot-clause-err c = search (rules, first_of-before)

-- the lines before the first heading are read
pub loop-line-init : goal.loop-line-init
loop-line-init c =
    search (
      rules,
      faults_after-body,
      titles_of-append,
      titles_of-body,
      parts_of-after_body,
      BeginsPart-after_body,
    )

-- a heading's own fault
pub returns-in_err-heading-clause-err : goal.returns-in_err-heading-clause-err
returns-in_err-heading-clause-err c =
    let reads = c.loop-line.invariant in
    let told = c.in_err-heading.ensures.err (titles_of reads.before) in
    search (rules, ReadsParts-heading_fault reads c.in-Some.ensures.first told)

-- a second heading of one part
pub returns-then-is_opened-clause-err : goal.returns-then-is_opened-clause-err
returns-then-is_opened-clause-err c = λ _.
    let reads = c.loop-line.invariant in
    ReadsParts-twice reads c.in-Some.ensures.first c.in_ok-heading.ensures.text
    c.in_ok-heading.ensures.title
    (sym (c.is_opened.ensures reads.parts reads.has) ∙ c.if-is_opened.true)

-- a fault of the lines after a heading
pub returns-in_err-end-clause-err : goal.returns-in_err-end-clause-err
returns-in_err-end-clause-err c =
    let reads = c.loop-line.invariant in
    let new = sym (c.is_opened.ensures reads.parts reads.has) ∙ c.if-is_opened.false in
    let told = rw c.in-Some.ensures.number at c.in_err-end.ensures.err in
    search (
      rules,
      ReadsParts-body_fault reads c.in-Some.ensures.first c.in_ok-heading.ensures.text
          c.in_ok-heading.ensures.title new told,
    )

-- one more part is read
pub loop-line-preserved : goal.loop-line-preserved
loop-line-preserved c =
    let reads = c.loop-line.invariant in
    let new = sym (c.is_opened.ensures reads.parts reads.has) ∙ c.if-is_opened.false in
    ReadsParts-part reads c.in-Some.ensures.first c.in_ok-heading.ensures.text
    c.in_ok-heading.ensures.title new (rw c.in-Some.ensures.number at c.in_ok-end.ensures.ok)
    (rw c.in-Some.ensures.number at c.in_ok-end.ensures.number) c.in_ok-end.ensures.rest
    (rw (c.text_between.ensures, c.in_ok-end.ensures.body)
    at (c.in_ok-add.ensures reads.parts reads.has new))

-- all parts are read, and one is the script
pub returns-clause-ok : goal.returns-clause-ok
returns-clause-ok c =
    let reads = c.loop-line.invariant in
    let scripts = ReadsParts-scripts reads c.in_default.ensures.first in
    search rules

-- and they are the bundle's
pub returns-clause-parts : goal.returns-clause-parts
returns-clause-parts c =
    let reads = c.loop-line.invariant in
    IfOk-weaker c.finish.result _ _
    (λ bundle has. rw (ReadsParts-all reads c.in_default.ensures.first)
    (has reads.parts reads.has)) c.finish.ensures.parts

-- or none is
pub returns-clause-err : goal.returns-clause-err
returns-clause-err c =
    let reads = c.loop-line.invariant in
    let scripts = ReadsParts-scripts reads c.in_default.ensures.first in
    search rules
