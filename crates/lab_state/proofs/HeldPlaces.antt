-- What a change at a place makes of the counts of each line.
use Rattle.lab_model.proofs.Common.{rules, arith, ◌≡◌, ◌∙◌, ℕ, suc, zero, ◌+◌, ◌-◌, ◌==◌, ◌&&◌, Bool}
use Rattle.lab_model.proofs.Common.{true, false, cond, List, [], ◌∷◌, Option, Some, None, IfSome, Kind}
use Rattle.lab_model.proofs.Common.{refl, ap, get_or, length, length-change, slice_get, option_map}
use Rattle.lab_model.proofs.Common.{change, change-set, get_or-map, map, slice_set, sym}
use Rattle.lab_model.proofs.Common.{◌<◌, Global, Vec, replicate}
use Rattle.std.proofs.lemmas.List.{map-set}
use Rattle.lab_model.specs.ControlEffect.{is_change, is_flush, is_read}
use Rattle.lab_state.specs.declared.held_place.HeldPlace.{HeldPlace}
use Rattle.lab_state.specs.HeldRows.{AreEmpty, HeldRows, change_place, counts_at, nothing}
use Rattle.lab_state.specs.HeldRows.{with_kind, without_kind}
use Rattle.lab_target.specs.declared.verdict.Held.{Held as HeldCounts}

-- an item of a list in which one was changed, where the change leaves what stands for none
get_or-change : {X : Type 0} (xs : List X) (i j : ℕ) (f : X → X) (none : X) → f none ≡ none
    → get_or (change xs i f) j none ≡ cond (i == j) (f (get_or xs j none)) (get_or xs j none)
get_or-change [] i j f none stays = search rules
get_or-change (x ∷ xs) (suc i) (suc j) f none stays =
    search (rules, get_or-change xs i j f none stays)
get_or-change xs i j f none stays = search rules

-- the same where it is there
slice_get-change : {X : Type 0} (xs : List X) (i j : ℕ) (f : X → X)
    → slice_get (change xs i f) j ≡ option_map (λ x. cond (i == j) (f x) x) (slice_get xs j)
slice_get-change (x ∷ xs) (suc i) (suc j) f = search (rules, slice_get-change xs i j f)
slice_get-change xs i j f = search rules

-- what a change at a place makes of the counts of a line
abbrev pub at_place : (Kind → HeldCounts → HeldCounts) → Option HeldPlace → ℕ → ℕ → HeldCounts
    → HeldCounts
at_place f None device line held = held
at_place f (Some place) device line held =
    cond (place.device == device && place.line == line) (f place.kind held) held

-- of those in a row that is changed or isn't
in-row : (f : HeldCounts → HeldCounts) (here : Bool) (row : List HeldCounts) (place line : ℕ)
    → slice_get (cond here (change row place f) row) line
    ≡ option_map (λ held. cond (here && place == line) (f held) held) (slice_get row line)
in-row f true row place line = slice_get-change row place line f
in-row f false row place line = search rules

-- so they are found in the rows
pub place-at : (f : Kind → HeldCounts → HeldCounts) (place : Option HeldPlace) (rows : HeldRows)
    (device line : ℕ) → counts_at (change_place f place rows) device line
    ≡ option_map (at_place f place device line) (counts_at rows device line)
place-at f None rows device line = search rules
place-at f (Some place) rows device line =
    ap (λ row. slice_get row line) (get_or-change rows place.device device
    (λ row. change row place.line (f place.kind)) [] refl)
    ∙ in-row (f place.kind) (place.device == device) (get_or rows device []) place.line line

-- what holds of what is found is passed on to what is made of it
pub if-mapped : {X : Type 0} (g : X → X) (P Q : X → Type 0) (found : Option X)
    → ((x : X) → P x → Q (g x)) → IfSome found P → IfSome (option_map g found) Q
if-mapped g P Q None each was = was
if-mapped g P Q (Some x) each was = each x was

-- or to what follows from it
pub if-weaker : {X : Type 0} (P Q : X → Type 0) (found : Option X) → ((x : X) → P x → Q x)
    → IfSome found P → IfSome found Q
if-weaker P Q None each was = was
if-weaker P Q (Some x) each was = each x was

-- counts of so many
abbrev made : ℕ → ℕ → ℕ → HeldCounts
made reads writes flushes = record { reads = reads; writes = writes; flushes = flushes }

-- counts are the same where each is
pub same-counts : (x y : HeldCounts) → x.reads ≡ y.reads → x.writes ≡ y.writes
    → x.flushes ≡ y.flushes → x ≡ y
same-counts x y reads writes flushes = ap (λ n. made n x.writes x.flushes) reads
    ∙ ap (λ n. made y.reads n x.flushes) writes ∙ ap (made y.reads y.writes) flushes

-- one of a kind is counted where it is held, and nowhere else
pub one-more : (here : Bool) (kind : Kind) (held : HeldCounts)
    → cond here (with_kind kind held) held ≡ record {
      reads = held.reads + cond (is_read kind && here) 1 0;
      writes = held.writes + cond (is_change kind && here) 1 0;
      flushes = held.flushes + cond (is_flush kind && here) 1 0;
    }
one-more here kind held = same-counts _ _ (search (rules, arith)) (search (rules, arith)) (search (rules, arith))

-- and counted off there
pub one-less : (here : Bool) (kind : Kind) (held : HeldCounts)
    → cond here (without_kind kind held) held ≡ record {
      reads = held.reads - cond (is_read kind && here) 1 0;
      writes = held.writes - cond (is_change kind && here) 1 0;
      flushes = held.flushes - cond (is_flush kind && here) 1 0;
    }
one-less here kind held = same-counts _ _ (search (rules, arith)) (search (rules, arith)) (search (rules, arith))

-- each device has the counts of as many lines
pub lines-kept : (f : Kind → HeldCounts → HeldCounts) (place : Option HeldPlace) (rows : HeldRows)
    (device : ℕ)
    → length (get_or (change_place f place rows) device []) ≡ length (get_or rows device [])
lines-kept f None rows device = refl
lines-kept f (Some place) rows device =
    ap length (get_or-change rows place.device device (λ row. change row place.line (f place.kind))
    [] refl) ∙ as-long (place.device == device)
  where
    -- in either case
    as-long : (here : Bool) → length (cond here (change (get_or rows device []) place.line
        (f place.kind)) (get_or rows device [])) ≡ length (get_or rows device [])
    as-long true = length-change (get_or rows device []) place.line (f place.kind)
    as-long false = refl

-- a row that is written has the counts that are seen of it
pub row-at : (rows : List (Vec HeldCounts Global)) (seen : HeldRows) (device : ℕ)
    (old : Vec HeldCounts Global) → map (λ row. row.items) rows ≡ seen → device < length rows
    → old ≡ get_or rows device old → get_or seen device [] ≡ old.items
row-at rows seen device old is there at =
    rw (← is) (get_or-map (λ (row : Vec HeldCounts Global). row.items) rows device old [] there
    ∙ sym (ap (λ (row : Vec HeldCounts Global). row.items) at))

-- where the row of a device is written anew, the rows are changed there
pub rows-set : (rows : List (Vec HeldCounts Global)) (seen : HeldRows) (device : ℕ)
    (old new : Vec HeldCounts Global) (f : List HeldCounts → List HeldCounts)
    → map (λ row. row.items) rows ≡ seen → device < length rows → old ≡ get_or rows device old
    → new.items ≡ f old.items
    → map (λ row. row.items) (slice_set rows device new) ≡ change seen device f
rows-set rows seen device old new f is there at changed =
    rw (← is) (map-set (λ (row : Vec HeldCounts Global). row.items) rows device new
    ∙ ap (slice_set (map (λ (row : Vec HeldCounts Global). row.items) rows) device) changed
    ∙ sym (change-set (map (λ (row : Vec HeldCounts Global). row.items) rows) device f old.items
    (ap (λ (row : Vec HeldCounts Global). row.items) at
    ∙ sym (get_or-map (λ (row : Vec HeldCounts Global). row.items) rows device old old.items
    there))))

-- in a row of so many lines for which nothing is held each count is none
none-in : (lines line : ℕ)
    → IfSome (slice_get (replicate lines nothing) line) (λ held. held ≡ nothing)
none-in zero line = search rules
none-in (suc lines) zero = refl
none-in (suc lines) (suc line) = none-in lines line

-- so in rows of so many such lines
pub empty-rows : (rows : HeldRows) (count lines : ℕ)
    → rows ≡ replicate count (replicate lines nothing) → AreEmpty rows
empty-rows rows count lines is device line = rw is (in-rows count device)
  where
    -- in each of them
    in-rows : (count device : ℕ)
        → IfSome (counts_at (replicate count (replicate lines nothing)) device line)
        (λ held. held ≡ nothing)
    in-rows zero device = search rules
    in-rows (suc count) zero = none-in lines line
    in-rows (suc count) (suc device) = in-rows count device
