-- A version more of a device closes no cycle of references, if none goes through that device. Along
-- an accepted script all references are to devices that there are, and close no cycle.
use Rattle.lab_model.proofs.Common.{◌≡◌, ◌⊎◌, inl, inr, ℕ, ◌<◌, List, Contains, refl, sym}
use Rattle.lab_model.proofs.Common.{subst, Option, Some, DevNo, Dm, Meaning, Below}
use Rattle.lab_model.proofs.Common.{direct, ever_under, through, Table, Some-holds}
use Rattle.lab_model.proofs.Common.{◌≤◌, length, arith, image}
use Rattle.lab_rulebook.proofs.ReferenceLemmas.{Adds, NewRefers, ever-refers}
use Rattle.lab_rulebook.proofs.ReferenceLemmas.{refers-ever, versions-added}
use Rattle.lab_script.specs.Task.{Task, create, load, on}
use Rattle.lab_script.specs.Walk.{found_by}
use Rattle.lab_rulebook.specs.Parts.{Parts}
use Rattle.lab_rulebook.specs.Standing.{Standing, obeyed, table_meant, table_named}
use Rattle.lab_rulebook.specs.Walked.{standing_next}
use Rattle.lab_rulebook.proofs.FoundLemmas.{IsFree, asked-inside}
use Rattle.lab_rulebook.proofs.PlaceLemmas.{loads_into, some-there, there-within}
use Rattle.lab_rulebook.proofs.SizeLemmas.{inside-there}
use Rattle.lab_rulebook.proofs.SoundNames.{Sound, made_after, versions-made}
use Rattle.lab_model.specs.declared.rule.Rule.TheVariants as told

-- one chain behind another
below-joined : {refers : ℕ → List DevNo} {over middle under : ℕ} → Below refers over middle
    → Below refers middle under → Below refers over under
below-joined (direct has) lower = through has lower
below-joined (through has upper) lower = through has (below-joined upper lower)

module _ {S : Type 0} (m : Meaning S) where
  -- references of all versions to mapped devices are to numbers below this
  abbrev pub AllKnown : ℕ → List (List (Table S)) → Type 0
  AllKnown bound all =
      (device below : ℕ) → Contains (ever_under m all device) (Dm below) → below < bound

  -- a chain ends at a known device
  below-known : (all : List (List (Table S))) (bound : ℕ) → AllKnown bound all
      → {over under : ℕ} → Below (ever_under m all) over under → under < bound
  below-known all bound known (direct {device = device} {below = below} has) =
      known device below has
  below-known all bound known (through has lower) = below-known all bound known lower

  -- references to known devices, without a cycle
  pub record KnownFine (all : List (List (Table S))) : Type 0 where
    pub known : AllKnown (length all) all
    pub acyclic : (device : ℕ) → Below (ever_under m all) device device → ⊥

  module _ (all next : List (List (Table S))) (place : ℕ) (held : Option (Table S))
      (adds : Adds all next (Some place) held) where
    -- a reference is of the device that got a version, or an old one
    next-refers : (device : ℕ) (below : DevNo) → Contains (ever_under m next device) below
        → ((device ≡ place) × NewRefers m held below) ⊎ Contains (ever_under m all device) below
    next-refers device below has =
        let (table, is, under) = ever-refers m next device below has in
        elim (adds device table is) [
          | inl new ↦ inl (sym (Some-holds new.0), (table, new.1, under))
          | inr old ↦ inr (refers-ever m all device below (table, old, under))
        ]

    -- to a known device where the new one's are
    next-known : (bound : ℕ) → AllKnown bound all
        → ((below : ℕ) → NewRefers m held (Dm below) → below < bound) → AllKnown bound next
    next-known bound known knows device below has = elim (next-refers device (Dm below) has) [
      | inl new ↦ knows below new.1
      | inr old ↦ known device below old
    ]

    -- a chain was there, starts at that device, or goes through it
    below-cases : {over under : ℕ} → Below (ever_under m next) over under
        → Below (ever_under m all) over under ⊎ ((over ≡ place)
        ⊎ (Below (ever_under m next) over place × Below (ever_under m next) place under))
    below-cases (direct {device = device} {below = below} has) =
        elim (next-refers device (Dm below) has) [
          | inl new ↦ inr (inl new.0)
          | inr old ↦ inl (direct old)
        ]
    below-cases (through {device = device} {next = middle} {below = below} has lower) =
        elim (next-refers device (Dm middle) has) [
          | inl new ↦ inr (inl new.0)
          | inr old ↦ elim (below-cases lower) [
            | inl rest ↦ inl (through old rest)
            | inr (inl here) ↦ inr (inr (
              direct (rw here at has),
              subst (λ d. Below (ever_under m next) d below) here lower,
            ))
            | inr (inr more) ↦ inr (inr (through has more.0, more.1))
          ]
        ]

    -- a version more closes no cycle where none goes through its device
    next-no_cycle : ((device : ℕ) → Below (ever_under m all) device device → ⊥)
        → (Below (ever_under m next) place place → ⊥) → (device : ℕ)
        → Below (ever_under m next) device device → ⊥
    next-no_cycle acyclic none device itself = elim (below-cases itself) [
      | inl old ↦ acyclic device old
      | inr (inl here) ↦ none (subst (λ d. Below (ever_under m next) d d) here itself)
      | inr (inr more) ↦ none (below-joined more.1 more.0)
    ]

module _ {S : Type 0} (m : Meaning S) (parts : Parts S) (s : Standing S) (sound : Sound s)
    (fine : KnownFine m s.versions) where
  -- a table that a command asks for refers to known devices
  asked-known : (task : Task) → IsFree m parts s task → (below : ℕ)
      → NewRefers m (table_meant parts s task) (Dm below) → below < length s.versions
  asked-known task free below (table, is, has) =
      let there = inside-there s.disks s.devices (image m table)
      (asked-inside m parts s task free table is) below has in
      omega (arith, sound.lengths, there-within s.devices below there.0 there.1)

  -- they stay so where the version that a command loads into a device closes no cycle
  known-loaded : (task : Task) → IsFree m parts s task → (place : ℕ)
      → loads_into (length s.versions) (found_by s.device_of task) task ≡ Some place
      → length s.versions ≤ made_after (length s.versions) task
      → (let next = (obeyed m s task (table_meant parts s task)).versions in
      AllKnown m (length s.versions) next → Below (ever_under m next) place place → ⊥)
      → KnownFine m (obeyed m s task (table_meant parts s task)).versions
  known-loaded task free place is more none =
      let held = table_meant parts s task in
      let next = (obeyed m s task held).versions in
      let found = found_by s.device_of task in
      let adds = subst (λ o. Adds s.versions next o held) is
      (versions-added s.versions found task held) in
      let known = next-known m s.versions next place held adds (length s.versions) fine.known
      (asked-known task free) in
      record {
        known = λ device below has. omega (
          arith,
          more,
          versions-made s.versions found task held,
          known device below has,
        );
        acyclic = next-no_cycle m s.versions next place held adds fine.acyclic (none known);
      }

  -- a table loaded
  load-known : (name chosen : List ℕ) → IsFree m parts s (on name (load chosen))
      → (device : ℕ) × (s.device_of name ≡ Some device)
      → (table : Table S) × (table_named parts s chosen ≡ Some table)
      → KnownFine m (standing_next m parts s (on name (load chosen))).versions
  load-known name chosen free (device, named) (table, meant) =
      known-loaded (on name (load chosen)) free device named (omega arith) (λ known cycle.
      free told.V11 (device, table, named, meant, rw (named, meant) at cycle))

  -- each command that breaks no rule
  pub known-after : (task : Task) → IsFree m parts s task
      → KnownFine m (standing_next m parts s task).versions
  known-after (create name chosen) free =
      known-loaded (create name chosen) free (length s.versions) refl (omega arith)
      (λ known itself. omega (arith, below-known m _ (length s.versions) known itself))
  known-after (on name (load chosen)) free = load-known name chosen free
      (some-there _ (λ none. free told.V1 (inl none)))
      (some-there _ (λ none. free told.V1 (inr none)))
  known-after task free = fine
