-- What the traffic ends as, where a `&mut` to a live table in it is handed out (this project's own).
use Rattle.std.specs.Prelude.{ℕ, Option, option_map}
use Rattle.std.specs.Borrow.{Fml, LendsIf, MutBor, RattleType}
use Rattle.lab_target.specs.declared.target.Target.{Ghosts}
use Rattle.lab_model.specs.Lists.{change}
use Rattle.lab_model.specs.MapEffect.{with_live}
use Rattle.lab_model.specs.Tables.{Table}
use Rattle.lab_table.specs.contracts.table.Table.{the_row as table_row}
use Rattle.lab_state.specs.Traffic.{TrafficRow}
use Rattle.lab_state.specs.contracts.traffic.Traffic.{the_row}

-- the device's live table is the last one behind the reference, and nothing else changes;
-- without one all stays
abbrev pub LendsLive : (T : RattleType) → Ghosts T.Denot → MutBor (TrafficRow T.Denot) → ℕ
    → Option (MutBor (Table T.Denot)) → Fml
LendsLive T target traffic device table =
    LendsIf (the_row T target) (table_row T target) traffic table
    (λ last. record traffic.now {
      devices = change traffic.now.devices device (option_map (with_live last));
    }) traffic.now
