-- The lines of a part, read one by one.
use Rattle.std.proofs.Common.{rules, ◌≡◌, ℕ, ◌+◌, ◌-◌, ◌<◌, ◌≤◌, Bool, false, List, [], ◌∷◌, ◌++◌}
use Rattle.std.proofs.Common.{length, take, ap, ◌∙◌, arith, append_assoc, length-append, Some}
use Rattle.std.proofs.lemmas.List.{take_at}
use Rattle.std.proofs.Math.Numerals.{one-add}
use Rattle.lab_text.specs.Lines.{lines_of, CutsLine}
use Rattle.lab_text.specs.Bundle.{Line, is_heading, body_of, first_of}
use Rattle.lab_text.specs.Reading.{BeginsPart, after_body, plain_faults, body_faults}
use Rattle.lab_text.specs.declared.bundle.BundleFault.{BundleFault}
use Rattle.lab_text.proofs.LinesLemmas.{lines_of-nil, CutsLine-first}

-- a line that is no heading is one of the body
pub body_of-plain : (line : Line) (lines : List Line) → is_heading line ≡ false
    → body_of (line ∷ lines) ≡ line ∷ body_of lines
body_of-plain line lines plain = rw (plain, one-add)

-- and what follows the body stays
pub after_body-plain : (line : Line) (lines : List Line) → is_heading line ≡ false
    → after_body (line ∷ lines) ≡ after_body lines
after_body-plain line lines plain = rw (plain, one-add)

-- where a part begins, no line is left of the body before it
pub body_of-BeginsPart : (lines : List Line) → BeginsPart lines → body_of lines ≡ []
body_of-BeginsPart lines begins = search rules

-- and all lines follow it
pub after_body-BeginsPart : (lines : List Line) → BeginsPart lines → after_body lines ≡ lines
after_body-BeginsPart lines begins = search rules

-- what is known where the lines from `text` on, whose first has the number `first`, are passed up to
-- `rest`, whose first has the number `number`
pub record PassesBody (text : List ℕ) (first : ℕ) (rest : List ℕ) (number : ℕ) : Type 0 where
  pub before : List ℕ
  pub lines : List Line
  pub joined : text ≡ before ++ rest
  pub alone : lines_of before ≡ lines
  pub ended : 0 < length rest → (more : List ℕ) → lines_of (before ++ more) ≡ lines ++ lines_of more
  pub body : body_of (lines_of text) ≡ lines ++ body_of (lines_of rest)
  pub after : after_body (lines_of text) ≡ after_body (lines_of rest)
  pub counted : number ≡ first + length lines

-- a line has a byte, or a newline
CutsLine-filled : (chunk line : List ℕ) → lines_of chunk ≡ line ∷ [] → 0 < length chunk
CutsLine-filled [] line alone = let none = lines_of-nil in cc
CutsLine-filled (byte ∷ chunk) line alone = omega arith

-- a line that is no heading is the first of the body
pub body_of-cut : {text line below : List ℕ} → CutsLine text line below → is_heading line ≡ false
    → body_of (lines_of text) ≡ line ∷ body_of (lines_of below)
body_of-cut {line = line} {below} cut plain =
    rw (CutsLine-first cut) (body_of-plain line (lines_of below) plain)

-- one more line is passed
pub PassesBody-line : {text rest line below : List ℕ} {first number next : ℕ}
    → PassesBody text first rest number → CutsLine rest line below → is_heading line ≡ false
    → next ≡ number + 1 → PassesBody text first below next
PassesBody-line {rest = rest} {line} {below} passes cut plain counted =
    let chunk = cut.chunk in
    let filled = CutsLine-filled chunk line cut.alone in
    let some : 0 < length rest = omega (arith, ap length cut.joined, length-append chunk below) in
    record {
      before = passes.before ++ chunk;
      lines = passes.lines ++ line ∷ [];
      joined = rw (append_assoc, ← cut.joined) passes.joined;
      alone = rw (← cut.alone) (passes.ended some chunk);
      ended = λ h more.
          simp append_assoc (rw (← cut.ended h more) (passes.ended some (chunk ++ more)));
      body = rw (append_assoc, ← body_of-cut cut plain) passes.body;
      after = passes.after ∙ rw (CutsLine-first cut) (after_body-plain line (lines_of below) plain);
      counted = omega (arith, length-append passes.lines (line ∷ []), passes.counted);
    }

-- what is known where the lines are read, each of which is checked
pub record ReadsBody (in_part : Bool) (text : List ℕ) (first : ℕ) (rest : List ℕ)
    (number : ℕ) : Type 0 where
  pub passes : PassesBody text first rest number
  pub faults : body_faults in_part first (body_of (lines_of text))
      ≡ body_faults in_part number (body_of (lines_of rest))

-- a body whose first line has a fault has it first
pub first_of-line : (faults others : List BundleFault) (fault : BundleFault) → first_of faults
    ≡ Some fault
    → first_of (faults ++ others) ≡ Some fault
first_of-line [] others fault none = cc
first_of-line (first ∷ faults) others fault e = e

module _ {in_part : Bool} {text rest line below : List ℕ} {first number : ℕ}
    (reads : ReadsBody in_part text first rest number) (cut : CutsLine rest line below)
    (plain : is_heading line ≡ false) where
  -- one more line is read
  pub ReadsBody-line : {next : ℕ} → plain_faults in_part number line ≡ [] → next ≡ number + 1
      → ReadsBody in_part text first below next
  ReadsBody-line clean counted = record {
    passes = PassesBody-line reads.passes cut plain counted;
    faults = reads.faults ∙ rw (body_of-cut cut plain, clean, counted);
  }

  -- the first fault of a line that is read next is the body's
  pub ReadsBody-fault : {fault : BundleFault}
      → first_of (plain_faults in_part number line) ≡ Some fault
      → first_of (body_faults in_part first (body_of (lines_of text))) ≡ Some fault
  ReadsBody-fault told = rw (reads.faults, body_of-cut cut plain) (first_of-line _ _ _ told)

-- what is known where all lines up to the next heading are passed
pub record PassedBody (text : List ℕ) (first : ℕ) (rest : List ℕ) (number : ℕ) : Type 0 where
  pub counted : number ≡ first + length (body_of (lines_of text))
  pub left : lines_of rest ≡ after_body (lines_of text)
  pub body : lines_of (take (length text - length rest) text) ≡ body_of (lines_of text)
  pub later : length rest ≤ length text

-- the next heading or the end is reached
pub PassesBody-end : {text rest : List ℕ} {first number : ℕ}
    → PassesBody text first rest number → BeginsPart (lines_of rest)
    → PassedBody text first rest number
PassesBody-end {text} {rest} passes begins = search (rules, length-append, take_at)
