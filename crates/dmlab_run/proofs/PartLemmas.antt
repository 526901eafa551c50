-- From what single steps find in the parts of a bundle to what is told of all of them.
use Rattle.lab_model.proofs.Common.{◌≡◌, ◌≢◌, ◌⊎◌, ◌∙◌, ℕ, ◌+◌, ◌<◌, List, [], ◌∷◌, ◌++◌, Some, Bool}
use Rattle.lab_model.proofs.Common.{true, false, if◌then◌else◌, All, All-push, ap, refl, sym, subst}
use Rattle.lab_model.proofs.Common.{inl, inr, map, drop, remove, flat_map, append-nil, append_assoc, take}
use Rattle.lab_model.proofs.Common.{get_or, length, take_more, none-some, option_and_then, first_of}
use Rattle.lab_model.proofs.Common.{BundleFault, Meaning, None, Option, same_Some}
use Rattle.std.proofs.lemmas.List.Folds.{flat_map-map}
use Rattle.lab_model.specs.Rules.{FaultSeen}
use Rattle.lab_text.specs.Bundle.{bundle_faults}
use Rattle.lab_text.specs.declared.bundle.BundleFault.TheVariants.{NoMemory}
use Rattle.lab_refusal.specs.Faults.{bundle_told, fault_seen}
use Rattle.lab_refusal.specs.declared.fault.Fault.{Fault}
use Rattle.lab_advice.specs.declared.trouble.Trouble.{Trouble}
use Rattle.lab_advice.specs.declared.trouble.Trouble.TheVariants as troubles
use Rattle.dmlab_run.specs.AllParts.{told_with}
use Rattle.dmlab_run.specs.Lines.{Output, refused_for, refused_lines}
use Rattle.dmlab_run.specs.Output.{IsOutput, bundle_fault}
use Rattle.dmlab_run.specs.Tried.{Advises, AdvisesAll, AdvisesEach, AdvisesFew}
use Rattle.dmlab_run.specs.Troubles.{IsStopped, trouble_text, troubles_text}
use Rattle.dmlab_words.specs.declared.job.Job.TheVariants.{Check}

-- a text with the lines of faults behind it
pub lines-behind : (text : List ℕ) (faults : List Fault) (more : List ℕ)
    → more ≡ text ++ flat_map (λ fault. (refused_for (fault_seen fault)).text) faults
    → more ≡ text ++ refused_lines (map fault_seen faults)
lines-behind text faults more is = is ∙ ap (λ lines. text ++ lines)
    (sym (flat_map-map (λ seen. (refused_for seen).text) fault_seen faults))

-- an output with the lines of faults behind it
pub told-behind : (told : Output) (faults : List Fault) (text : List ℕ)
    → text ≡ told.text ++ flat_map (λ fault. (refused_for (fault_seen fault)).text) faults
    → record told { text = text; others = map fault_seen faults }
    ≡ told_with told (map fault_seen faults)
told-behind told faults text is =
    ap (λ (t : List ℕ). record told { text = t; others = map fault_seen faults })
    (lines-behind told.text faults text is)

-- an output of a check alone tells one line
pub check-alone : {S : Type 0} (m : Meaning S) (bytes : List ℕ) (told : Output)
    → IsOutput m Check bytes told → told.others ≡ []
check-alone m bytes told (inl (seen, is, same)) = ap (λ (t : Output). t.others) same
check-alone m bytes told (inr (none, texts, has, inl (seen, first, same))) =
    ap (λ (t : Output). t.others) same
check-alone m bytes told (inr (none, texts, has, inr (accepted, is, events, read, same))) =
    ap (λ (t : Output). t.others) same

-- so what stopped the bundle is told in its first line, and the others below it
pub stopped-behind : (refused : Bool) (text more : List ℕ) (trouble : Option Trouble)
    (none others : List FaultSeen) → none ≡ [] → IsStopped refused text trouble none
    → more ≡ text ++ refused_lines others → IsStopped refused more trouble others
stopped-behind true text more None none others empty stopped is = absurd (none-some text stopped)
stopped-behind true text more (Some trouble) none others empty stopped is =
    let first : trouble_text trouble ≡ text = sym (append-nil (trouble_text trouble))
    ∙ ap (λ seen. troubles_text trouble seen) (sym empty)
    ∙ same_Some (troubles_text trouble none) text stopped in
    ap Some (ap (λ t. t ++ refused_lines others) first ∙ sym is)
stopped-behind false text more None none others empty stopped is = refl
stopped-behind false text more (Some trouble) none others empty stopped is =
    absurd (none-some (troubles_text trouble none) (sym stopped))

-- the fault that is told of bytes that are no bundle is the first one
pub no-bundle : (bytes : List ℕ) (fault : BundleFault) (seen : FaultSeen)
    → bundle_told fault ≡ Some seen
    → (fault ≢ NoMemory → first_of (bundle_faults bytes) ≡ Some fault)
    → bundle_fault bytes ≡ Some seen
no-bundle bytes fault seen told first =
    ap (λ found. option_and_then bundle_told found)
    (first (λ same. none-some seen (sym (ap bundle_told same) ∙ told))) ∙ told

-- without the first fault, as they are seen
pub seen-later : (faults : List Fault)
    → map fault_seen (drop 1 faults) ≡ drop 1 (map fault_seen faults)
seen-later [] = refl
seen-later (fault ∷ faults) = refl

-- the first one is removed
pub removed-first : {X : Type 0} (xs : List X) → remove xs 0 ≡ drop 1 xs
removed-first [] = refl
removed-first (x ∷ xs) = refl

-- the advice on one fault more stands behind that on the others
pub each-more : (bytes : List ℕ) (faults : List Fault) (fault : Fault) (text own : List ℕ)
    → AdvisesEach bytes faults text → Advises true bytes (troubles.Fault fault) own
    → AdvisesEach bytes (faults ++ fault ∷ []) (text ++ own)
each-more bytes [] fault text own none is =
    (own, [], is, refl, ap (λ t. t ++ own) none ∙ sym (append-nil own))
each-more bytes (first ∷ faults) fault text own (head, more, advises, others, same) is = (
  head,
  more ++ own,
  advises,
  each-more bytes faults fault more own others is,
  ap (λ t. t ++ own) same ∙ append_assoc head more own,
)

-- so behind those on the faults before a place
pub each-push : (bytes : List ℕ) (faults : List Fault) (place : ℕ) (d : Fault)
    (text own now : List ℕ) → place < length faults → now ≡ text ++ own
    → AdvisesEach bytes (take place faults) text
    → Advises true bytes (troubles.Fault (get_or faults place d)) own
    → AdvisesEach bytes (take (place + 1) faults) now
each-push bytes faults place d text own now within told before is =
    subst (λ (gone : List Fault). AdvisesEach bytes gone now) (sym (take_more faults place d within))
    (subst (λ (t : List ℕ). AdvisesEach bytes (take place faults ++ get_or faults place d ∷ []) t)
    (sym told)
    (each-more bytes (take place faults) (get_or faults place d) text own before is))

-- the advice on the first fault, and that on the others, where there was memory for it
pub advises-both : (bytes : List ℕ) (trouble : Trouble) (others : List Fault)
    (own more now : List ℕ) (ok : Bool) → (own ≡ []) ⊎ Advises false bytes trouble own
    → (more ≡ []) ⊎ AdvisesFew bytes others more → now ≡ (if ok then own ++ more else own)
    → AdvisesAll bytes trouble others now
advises-both bytes trouble others own more now true first second is = (own, more, first, second, is)
advises-both bytes trouble others own more now false first second is =
    (own, [], first, inl refl, is ∙ sym (append-nil own))

-- one fault more is another one
pub others-more : (Other : Fault → Type 0) (faults : List Fault) (place : ℕ) (d : Fault)
    → place < length faults → All Other (take place faults) → Other (get_or faults place d)
    → All Other (take (place + 1) faults)
others-more Other faults place d within before is = rw (take_more faults place d within)
    (All-push Other (take place faults) (get_or faults place d) before is)
