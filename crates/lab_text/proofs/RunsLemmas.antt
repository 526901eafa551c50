-- Runs behind which bytes of one value follow. Runs of bytes, and their text.
use Rattle.std.proofs.Common.{rules, ◌≡◌, ◌≢◌, ℕ, zero, suc, ◌+◌, ◌<◌, List, [], ◌∷◌, ◌++◌}
use Rattle.std.proofs.Common.{eqb, cond, refl, sym, ◌∙◌, arith, add-one, eq-eqb, drop, ap, inl, inr}
use Rattle.std.proofs.Common.{append_assoc}
use Rattle.std.specs.Prelude.{replicate, All}
use Rattle.lab_text.specs.declared.run.Run.{Run}
use Rattle.lab_text.specs.Runs.{with_byte, runs_list, spelled, NeighboursDiffer, run_text}
use Rattle.lab_text.specs.Runs.{runs_text}
use Rattle.lab_text.specs.Packed.{run_of, before_others}
use Rattle.std.specs.List.{prefix_len}
use Rattle.std.proofs.lemmas.Bool.{cases_Bool, eqb-true, ne_eqb}
use Rattle.std.proofs.lemmas.List.Elements.{All-tail, All-cons}
use Rattle.std.proofs.Math.Numerals.{one-add}
use Rattle.lab_text.specs.Extends.{Extends}

-- the runs with so many bytes of the value behind the last, which gets longer if it has this value
abbrev pub with_bytes : ℕ → ℕ → List Run → List Run
with_bytes count value [] = run_of count value ∷ []
with_bytes count value (run ∷ []) =
    cond (eqb run.value value) (run_of (run.count + count) value ∷ [])
    (run ∷ run_of count value ∷ [])
with_bytes count value (run ∷ next ∷ runs) = run ∷ with_bytes count value (next ∷ runs)

-- a byte before some runs and bytes behind them, whichever comes first
around-runs : (byte count value : ℕ) (runs : List Run)
    → with_byte byte (with_bytes count value runs) ≡ with_bytes count value (with_byte byte runs)
around-runs byte count value runs = search rules

-- bytes of one value are one run
one-run : (count value : ℕ)
    → runs_list (replicate (suc count) value) ≡ run_of (suc count) value ∷ []
unfolding runs_list
one-run zero value = refl
one-run (suc count) value = rw (one-run count value) (rw (eq-eqb value value refl, add-one))

-- the runs of bytes behind which some of one value follow
pub runs_list-with_bytes : (bytes : List ℕ) (count value : ℕ) → 0 < count
    → runs_list (bytes ++ replicate count value) ≡ with_bytes count value (runs_list bytes)
unfolding runs_list
runs_list-with_bytes bytes zero value some = search (rules, one-run, around-runs)
runs_list-with_bytes [] (suc count) value some = search (rules, one-run, around-runs)
runs_list-with_bytes (byte ∷ bytes) (suc count) value some =
    search (rules, one-run, around-runs, runs_list-with_bytes bytes (suc count) value some)

-- the bytes join the last run if they have its value, and follow it otherwise
pub with_bytes-last : (runs : List Run) (last : Run) (count value : ℕ)
    → with_bytes count value (runs ++ last ∷ []) ≡ runs ++ with_bytes count value (last ∷ [])
with_bytes-last [] last count value = refl
with_bytes-last (run ∷ []) last count value = refl
with_bytes-last (run ∷ next ∷ runs) last count value =
    ap (λ others. run ∷ others) (with_bytes-last (next ∷ runs) last count value)

-- some bytes of one value behind others
module _ (bytes : List ℕ) (count value : ℕ) (some : 0 < count) where
  -- where there is no run, they are the first
  pub first-run : runs_list bytes ≡ []
      → runs_list (bytes ++ replicate count value) ≡ run_of count value ∷ []
  first-run none = runs_list-with_bytes bytes count value some ∙ ap (with_bytes count value) none

  module _ (runs : List Run) (last : Run) (is : runs_list bytes ≡ runs ++ last ∷ []) where
    -- all runs but the last stay
    behind : runs_list (bytes ++ replicate count value) ≡ runs ++ with_bytes count value (last ∷ [])
    behind =
        runs_list-with_bytes bytes count value some ∙ ap (with_bytes count value) is
        ∙ with_bytes-last runs last count value

    -- the last run gets longer if it has the value
    pub longer-run : last.value ≡ value
        → runs_list (bytes ++ replicate count value)
        ≡ runs ++ run_of (last.count + count) value ∷ []
    longer-run same = rw (eq-eqb last.value value same) at behind

    -- and another one follows it otherwise
    pub next-run : last.value ≢ value
        → runs_list (bytes ++ replicate count value)
        ≡ (runs ++ last ∷ []) ++ run_of count value ∷ []
    next-run other =
        rw (ne_eqb last.value value other) at behind
        ∙ sym (append_assoc runs (last ∷ []) (run_of count value ∷ []))

-- no byte makes no run
pub runs_list-nil : runs_list [] ≡ []
unfolding runs_list
runs_list-nil = refl

-- how many bytes of the value stand at the front
abbrev pub same : ℕ → List ℕ → ℕ
same value bytes = prefix_len (λ byte. eqb byte value) bytes

-- the first run has the first byte and those of its value after it
pub runs_list-cons : (value : ℕ) (bytes : List ℕ)
    → runs_list (value ∷ bytes)
    ≡ record { count = same value bytes + 1; value = value } ∷ runs_list
    (drop (same value bytes) bytes)
unfolding runs_list
runs_list-cons value [] = refl
runs_list-cons value (byte ∷ bytes) =
    let rest = runs_list-cons byte bytes in
    elim (cases_Bool (eqb byte value)) [
      | inl is ↦ simp (rest, is) (rw (eqb-true byte value is) (simp (one-add, add-one)))
      | inr other ↦ simp (rest, other)
    ]

-- the runs are made of the bytes
pub spelled-runs_list : (bytes : List ℕ) → spelled (runs_list bytes) ≡ bytes
unfolding runs_list
spelled-runs_list [] = search rules
spelled-runs_list (byte ∷ bytes) = search (rules, spelled-runs_list bytes)

-- the bytes are those of the first run, and the ones that the others are of
pub spelled-first : (bytes after : List ℕ) (run : Run) → runs_list bytes ≡ run ∷ runs_list after
    → replicate run.count run.value ++ after ≡ bytes
spelled-first bytes after run is =
    ap (λ others. replicate run.count run.value ++ others) (sym (spelled-runs_list after))
    ∙ ap spelled (sym is) ∙ spelled-runs_list bytes

-- the run has a byte
abbrev HasByte : Run → Type 0
HasByte run = 0 < run.count

-- each run has a byte
pub filled-runs_list : (bytes : List ℕ) → All (λ run. 0 < run.count) (runs_list bytes)
unfolding runs_list
filled-runs_list [] = search rules
filled-runs_list (byte ∷ bytes) = filled-with_byte (runs_list bytes) (filled-runs_list bytes)
  where
    filled-with_byte : (runs : List Run) → All HasByte runs → All HasByte (with_byte byte runs)
    filled-with_byte [] h = All-cons HasByte _ [] (omega arith) h
    filled-with_byte (run ∷ runs) h =
        elim (cases_Bool (eqb run.value byte)) [
          | inl is ↦ rw is (All-cons HasByte _ runs (omega arith) (All-tail HasByte run runs h))
          | inr other ↦ rw other (All-cons HasByte _ (run ∷ runs) (omega arith) h)
        ]

-- runs beside one another differ
pub NeighboursDiffer-runs_list : (bytes : List ℕ) → NeighboursDiffer (runs_list bytes)
unfolding runs_list
NeighboursDiffer-runs_list [] = search rules
NeighboursDiffer-runs_list (byte ∷ bytes) = search (rules, NeighboursDiffer-runs_list bytes)

-- the text of runs and of a last one behind them
pub runs_text-last : (runs : List Run) (last : Run)
    → runs_text (runs ++ last ∷ []) ≡ before_others runs ++ run_text last
unfolding runs_text
runs_text-last [] last = refl
runs_text-last (run ∷ []) last = search (rules, append_assoc)
runs_text-last (run ∷ next ∷ runs) last =
    ap (λ others. run_text run ++ 32 ∷ others) (runs_text-last (next ∷ runs) last)
    ∙ search (rules, append_assoc)

-- no run has no text
pub runs_text-nil : runs_text [] ≡ []
unfolding runs_text
runs_text-nil = refl

-- what was added to twice was added to
pub Extends-trans : (old : List ℕ) {middle new : List ℕ} → Extends old middle → Extends middle new
    → Extends old new
Extends-trans old first second = (first.0 ++ second.0, rw (second.1, first.1, append_assoc))
