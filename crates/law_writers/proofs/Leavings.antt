-- What a living bio's operation leaves: each sector that a write carries has its byte, and a trim
-- leaves zero bytes.
use Rattle.lab_model.proofs.Common.{filled, Flush, ◌+◌, ◌≢◌, rules, ap, List, slice_get, Some}
use Rattle.lab_model.proofs.Common.{subst, sym, ℕ, ◌<◌, ◌∙◌, ◌≡◌, Bio, length-replicate, replicate}
use Rattle.lab_model.proofs.Common.{Scenario, slice_get_within, Some-holds, State, Trim, Write}
use Rattle.lab_model.specs.LogEffect.{fill_of, kind_of}
use Rattle.lab_model.specs.declared.entry.Action.{Action}
use Rattle.lab_model.specs.declared.entry.Action.TheVariants as actions
use Rattle.lab_watch.specs.Grids.{writer_from}
use Rattle.law_bytes_carried.proofs.Served.{replicate-place}
use Rattle.law_writers.specs.Wrote.{Left, sectors_left}
use Rattle.law_writers.proofs.Roots.{IsFrom}
use Rattle.law_writers.proofs.Sources.{AllSound, Made, OfLine}

-- an item of copies is the one
pub replicate-one : {X : Type 0} (count : ℕ) (x y : X) (i : ℕ)
    → slice_get (replicate count x) i ≡ Some y → y ≡ x
replicate-one count x y i at =
    let less : i < count = search (rules, slice_get_within, length-replicate) in
    Some-holds (sym at ∙ replicate-place count x i less)

-- an operation of the kind of a write is one
pub write-action : (action : Action) → kind_of action ≡ Write → action ≡ actions.Write
write-action action is = search rules

-- and one of the kind of a trim is one
trim-action : (action : Action) → kind_of action ≡ Trim → action ≡ actions.Trim
trim-action action is = search rules

module _ {S : Type 0} {c : Scenario S} {s : State S} (all : AllSound c s) {number : ℕ} {bio : Bio}
    (from : IsFrom s number bio) where
  -- the line that asks for its operation
  of-line : OfLine c from.first from.root.writer.origin.log from.root.writer.origin.line
      from.action
  of-line = subst (Made c from.first) from.from (all from.root.number from.first from.lives).line

  -- each sector of it is one of its operation's
  in-span : bio.kind ≢ Flush → (i : ℕ) → i < bio.span.len
      → from.root.writer.sector + i < of-line.asks.span.len
  in-span sized i less = search rules

  -- a sector of one byte that its operation leaves is left
  filled-leaves : (byte : ℕ) → bio.kind ≢ Flush → sectors_left from.action from.root.writer.origin
      of-line.asks.span.len ≡ filled of-line.asks.span.len byte → (i : ℕ) → i < bio.span.len
      → Left c (writer_from from.root.writer i) (replicate 512 byte)
  filled-leaves byte sized left i less = record {
    action = from.action;
    asks = of-line.asks;
    leaves = search (rules, replicate-place, of-line, in-span);
  }

  -- the byte of its line
  abbrev fill : ℕ
  fill = fill_of from.root.writer.origin.log from.root.writer.origin.line

  -- a write's sectors
  pub write-leaves : bio.kind ≡ Write → (i : ℕ) (bytes : List ℕ) → i < bio.span.len
      → slice_get bio.sectors i ≡ Some bytes → Left c (writer_from from.root.writer i) bytes
  write-leaves writes i bytes less at =
      let is = write-action from.action (sym of-line.kind ∙ from.kind ∙ writes) in
      let found = from.among writes i bytes at in
      let all_fill : bytes ≡ replicate 512 fill = search (rules, replicate-one, of-line) in
      subst (Left c (writer_from from.root.writer i)) (sym all_fill)
      (filled-leaves fill (λ flush. cc (flush, writes))
      (ap (λ action. sectors_left action from.root.writer.origin of-line.asks.span.len) is) i less)

  -- a trim's
  pub trim-leaves : bio.kind ≡ Trim → (i : ℕ) → i < bio.span.len
      → Left c (writer_from from.root.writer i) (replicate 512 0)
  trim-leaves trims = filled-leaves 0 (λ flush. cc (flush, trims))
      (search (rules, of-line, trim-action))
