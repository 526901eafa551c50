-- The faults that reading finds, text by text.
use Rattle.lab_model.proofs.Common.{◌≡◌, ◌∙◌, ℕ, ◌+◌, List, [], ◌∷◌, ◌++◌, Option, Some, None, map}
use Rattle.lab_model.proofs.Common.{take, slice_get, ap, refl, sym, map-append, append_assoc}
use Rattle.lab_model.proofs.Common.{filter_map, filter_map-append, take-more}
use Rattle.std.proofs.Common.{ap₂}
use Rattle.std.specs.Option.{option_to_list}
use Rattle.lab_model.specs.Rules.{FaultSeen}

-- an item that may be there is kept if it is
pub kept : {F : Type 0} (o : Option F) → filter_map (λ x. x) (o ∷ []) ≡ option_to_list o
kept None = refl
kept (Some x) = refl

module _ {X Y : Type 0} (f : Y → Option FaultSeen) (g : X → Y) (xs : List X) where
  -- the faults of the texts before a place
  abbrev pub found_to : ℕ → List FaultSeen
  found_to place = filter_map (λ fault. fault) (map f (map g (take place xs)))

  -- that of the text there is one more, if it has one
  pub found-more : (place : ℕ) (x : X) → slice_get xs place ≡ Some x
      → found_to (place + 1) ≡ found_to place ++ option_to_list (f (g x))
  found-more place x at =
      ap (λ ys. filter_map (λ fault. fault) (map f (map g ys))) (take-more xs place x at)
      ∙ ap (λ ys. filter_map (λ fault. fault) (map f ys))
      (map-append g (take place xs) (x ∷ []))
      ∙ ap (filter_map (λ fault. fault)) (map-append f (map g (take place xs)) (g x ∷ []))
      ∙ filter_map-append (λ fault. fault) (map f (map g (take place xs))) (f (g x) ∷ [])
      ∙ ap (λ ys. found_to place ++ ys) (kept (f (g x)))

  -- so behind some faults that were there before
  pub added-more : (old now more : List FaultSeen) (place : ℕ) (x : X) (found : Option FaultSeen)
      → slice_get xs place ≡ Some x → now ≡ old ++ found_to place → found ≡ f (g x)
      → more ≡ now ++ option_to_list found → more ≡ old ++ found_to (place + 1)
  added-more old now more place x found at before is added = added
      ∙ ap (λ ys. ys ++ option_to_list found) before
      ∙ append_assoc old (found_to place) (option_to_list found)
      ∙ ap (λ o. old ++ (found_to place ++ option_to_list o)) is
      ∙ ap (λ ys. old ++ ys) (sym (found-more place x at))

-- the faults of the tables, then the script's, then those of the logs are those of all texts
pub found-parts : (tables logs : List (Option FaultSeen)) (script : Option FaultSeen)
    → filter_map (λ fault. fault) (tables ++ script ∷ logs)
    ≡ (filter_map (λ fault. fault) tables ++ option_to_list script)
    ++ filter_map (λ fault. fault) logs
found-parts tables logs script = filter_map-append (λ fault. fault) tables (script ∷ logs)
    ∙ ap (λ ys. filter_map (λ fault. fault) tables ++ ys)
    (filter_map-append (λ fault. fault) (script ∷ []) logs
    ∙ ap (λ ys. ys ++ filter_map (λ fault. fault) logs) (kept script))
    ∙ sym (append_assoc (filter_map (λ fault. fault) tables) (option_to_list script)
    (filter_map (λ fault. fault) logs))

-- so what was added part by part is what reading all texts finds
pub found-whole : (tables logs : List (Option FaultSeen)) (script found : Option FaultSeen)
    (first second third : List FaultSeen) → first ≡ filter_map (λ fault. fault) tables
    → found ≡ script → second ≡ first ++ option_to_list found
    → third ≡ second ++ filter_map (λ fault. fault) logs
    → third ≡ filter_map (λ fault. fault) (tables ++ script ∷ logs)
found-whole tables logs script found first second third one two three four = four
    ∙ ap (λ faults. faults ++ filter_map (λ fault. fault) logs)
    (three ∙ ap₂ (λ faults o. faults ++ option_to_list o) one two)
    ∙ sym (found-parts tables logs script)
