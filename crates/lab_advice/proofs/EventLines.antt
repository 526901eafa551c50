-- The lines of a history's events, one line after another. Names: event_among, and the next line.
use Rattle.std.proofs.Common.{rules, ◌≡◌, ℕ, suc, ◌+◌, ◌-◌, ◌<◌, true, false, List, [], ◌∷◌, drop}
use Rattle.std.proofs.Common.{ap, sym, ◌∙◌, add-one}
use Rattle.std.proofs.lemmas.List.{drop-drop}
use Rattle.lab_text.specs.Bundle.{Line, is_heading}
use Rattle.lab_text.specs.Lines.{is_skipped}
use Rattle.lab_advice.specs.Places.{event_among}

-- behind a line that is skipped, as many events come before
pub event_among-skipped : (n before : ℕ) (line : Line) (lines : List Line)
    → is_heading line ≡ false → is_skipped line ≡ true
    → event_among n before (line ∷ lines) ≡ event_among (n + 1) before lines
event_among-skipped n before line lines plain skipped = search rules

-- behind the line of an event, one event less comes before
pub event_among-kept : (n before : ℕ) (line : Line) (lines : List Line)
    → is_heading line ≡ false → is_skipped line ≡ false → 0 < before
    → event_among n before (line ∷ lines) ≡ event_among (n + 1) (before - 1) lines
event_among-kept n before line lines plain kept some = search rules

-- behind the first of some elements
pub drop_tail : (all : List Line) (i : ℕ) (first : Line) (others : List Line)
    → drop i all ≡ first ∷ others → drop (suc i) all ≡ others
drop_tail all i first others e = rw (← add-one i) (sym (drop-drop 1 i all) ∙ ap (drop 1) e)

-- nothing stands behind the end
pub drop_end : (all : List Line) (i : ℕ) → drop i all ≡ [] → drop (suc i) all ≡ []
drop_end all i e = rw (← add-one i) (sym (drop-drop 1 i all) ∙ ap (drop 1) e)
