-- The place of the replay in a script that breaks no rule, and what stands there.
use Rattle.lab_model.proofs.Common.{◌≡◌, ◌∙◌, ◌⊎◌, inl, inr, ℕ, zero, suc, ◌+◌, ◌<◌, List, [], ◌∷◌}
use Rattle.lab_model.proofs.Common.{Some, ap, refl, sym, arith, map, take, slice_get, cases_lt}
use Rattle.lab_model.proofs.Common.{fold_more, get_or_from_slice_get, none-some, same_Some}
use Rattle.lab_model.proofs.Common.{slice_get_within, Meaning, rules}
use Rattle.lab_model.specs.declared.phase.Phase.TheVariants.{Before, Replayed, Waited}
use Rattle.lab_model.specs.declared.rule.Rule.{Rule}
use Rattle.lab_script.specs.Script.{ScriptRow}
use Rattle.lab_script.specs.Task.{Task, replay, wait}
use Rattle.lab_rulebook.specs.Accepted.{LineBreaks, ReplaysAt, standing_before}
use Rattle.lab_rulebook.specs.Parts.{Parts}
use Rattle.lab_rulebook.specs.ScriptRules.{Breaks, EndBreaks}
use Rattle.lab_rulebook.specs.Standing.{Standing, nothing}
use Rattle.lab_rulebook.specs.Walked.{bound_log, scenario_of, standing_after, standing_next}
use Rattle.lab_rulebook.proofs.ClearLemmas.{IsClear, is-clear, later-at, replay-place}
use Rattle.lab_rulebook.proofs.ClearLemmas.{standing_from, phase-cases}
use Rattle.lab_rulebook.proofs.StandLemmas.{Later}
use Rattle.lab_model.specs.declared.rule.Rule.TheVariants as told

module _ {S : Type 0} (m : Meaning S) (parts : Parts S) where
  -- what stands behind one command more
  pub next-standing : (place : ℕ) (row : ScriptRow) → slice_get parts.script place ≡ Some row
      → standing_before m parts (place + 1)
      ≡ standing_next m parts (standing_before m parts place) row.task
  next-standing place row at =
      fold_more (λ s (row : ScriptRow). standing_next m parts s row.task) nothing parts.script place row
      (slice_get_within parts.script place row at)
      ∙ ap (λ (r : ScriptRow). standing_next m parts (standing_before m parts place) r.task)
      (get_or_from_slice_get parts.script place row row at)

  -- a replay and a wait leave the script's first phase behind them
  pub past-first : (s : Standing S) (task : Task) → (task ≡ replay) ⊎ (task ≡ wait)
      → (standing_next m parts s task).phase ≡ Before → ⊥
  past-first s task (inl is) before =
      let wrong : Replayed ≡ Before
      = sym (ap (λ (t : Task). (standing_next m parts s t).phase) is) ∙ before in cc
  past-first s task (inr is) before =
      let wrong : Waited ≡ Before
      = sym (ap (λ (t : Task). (standing_next m parts s t).phase) is) ∙ before in cc

  -- what was replayed stays so
  never-back : (s : Standing S) (rows : List ScriptRow) → (s.phase ≡ Before → ⊥)
      → (standing_from m parts s rows).phase ≡ Before → ⊥
  never-back s [] gone = gone
  never-back s (row ∷ rows) gone = never-back (standing_next m parts s row.task) rows
      (λ before. elim (phase-cases m parts s row.task) [
        | inl same ↦ gone (sym same ∙ before)
        | inr passed ↦ past-first s row.task passed before
      ])

  -- behind a replay
  behind-replay : (s : Standing S) (rows : List ScriptRow) (place at : ℕ) (row : ScriptRow)
      → at < place → slice_get rows at ≡ Some row → row.task ≡ replay
      → (standing_from m parts s (take place rows)).phase ≡ Before → ⊥
  behind-replay s [] place at row less is_row is_replay = absurd (none-some row is_row)
  behind-replay s (first ∷ rows) zero at row less is_row is_replay = absurd (omega (arith, less))
  behind-replay s (first ∷ rows) (suc place) zero row less is_row is_replay =
      let same : first ≡ row = same_Some first row is_row in
      never-back (standing_next m parts s first.task) (take place rows)
      (past-first s first.task (inl (ap (λ (r : ScriptRow). r.task) same ∙ is_replay)))
  behind-replay s (first ∷ rows) (suc place) (suc at) row less is_row is_replay =
      behind-replay (standing_next m parts s first.task) rows place at row
      (omega (arith, less)) is_row
      is_replay

  -- the row of a replay's place
  pub replay-row : (place : ℕ) → ReplaysAt m parts place → (row : ScriptRow)
      × (slice_get parts.script place ≡ Some row) × (row.task ≡ replay)
  replay-row place replays = search rules

  -- behind a replay's place
  pub replayed-behind : (place at : ℕ) → at < place → ReplaysAt m parts at
      → (standing_before m parts place).phase ≡ Before → ⊥
  replayed-behind place at less replays = let (row, is_row, is_replay) = replay-row at replays in
      behind-replay nothing parts.script place at row less is_row is_replay

  -- a command that breaks no rule is no second replay
  pub no-second : (place : ℕ) (row : ScriptRow) → slice_get parts.script place ≡ Some row
      → ((rule : Rule) → Breaks m parts (standing_before m parts place) row.task rule → ⊥)
      → row.task ≡ replay → (at : ℕ) → at < place → ReplaysAt m parts at → ⊥
  no-second _ _ _ free same at less has = free told.V10 (rw same (replayed-behind _ at less has))

  module _ (free : (place : ℕ) (row : ScriptRow) (rule : Rule)
      → LineBreaks m parts place row rule → ⊥) where
    -- none before another
    none-earlier : (at other : ℕ) → ReplaysAt m parts at → ReplaysAt m parts other → at < other → ⊥
    none-earlier at other replays also less =
        let (row, is_row, is_replay) = replay-row other also in
        no-second other row is_row (λ rule breaks. free other row rule (is_row, breaks)) is_replay
        at less replays

    -- there is only one replay
    pub one-replay : (at other : ℕ) → ReplaysAt m parts at → ReplaysAt m parts other → at ≡ other
    one-replay at other replays also = elim (cases_lt at other) [
      | inl less ↦ absurd (none-earlier at other replays also less)
      | inr enough ↦ elim (cases_lt other at) [
        | inl less ↦ absurd (none-earlier other at also replays less)
        | inr most ↦ omega (arith, enough, most)
      ]
    ]

    module _ (ends : (rule : Rule) → EndBreaks m parts (standing_after m parts parts.script) rule
        → ⊥) where
      -- command by command
      clear : IsClear m parts nothing parts.script
      clear = is-clear m parts nothing parts.script
          (λ place row rule is breaks. free place row rule (is, breaks)) ends

      -- there is a replay
      pub some-replay : (at : ℕ) × ReplaysAt m parts at
      some-replay =
          let (at, row, is_row, is_replay) = replay-place m parts nothing parts.script refl clear in
          (at, rw is_row is_replay)

      -- what is known at the end of each place
      known-later : (place : ℕ) → Later m (scenario_of m parts) (standing_before m parts place)
      known-later place = later-at m parts (scenario_of m parts) nothing parts.script place clear
          (record {
            versions = λ device version held is. is;
            disks = λ number size is. is;
            logs = λ after_replay. refl;
          })

      -- the scenario's logs are those that the replay binds
      pub logs-bound : (at : ℕ) → ReplaysAt m parts at
          → map (bound_log (standing_before m parts at)) parts.logs ≡ (scenario_of m parts).logs
      logs-bound at there =
          let s = standing_before m parts at in
          let (row, is_row, is_replay) = replay-row at there in
          let next : standing_before m parts (at + 1) ≡ standing_next m parts s replay
          = next-standing at row is_row ∙ ap (λ (t : Task). standing_next m parts s t) is_replay in
          sym (ap (λ (z : Standing S). z.logs) next)
          ∙ (known-later (at + 1)).logs (replayed-behind (at + 1) at (omega arith) there)
