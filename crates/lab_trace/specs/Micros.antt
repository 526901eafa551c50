-- What a trace tells of the script's micro-commands (this project's own).
use Rattle.std.specs.Prelude.{ℕ, List, [], Option, Some, None, codes}
use Rattle.lab_sector.specs.declared.device.DevNo.{DevNo}
use Rattle.lab_sector.specs.declared.device.DevNo.TheVariants.{Dm}
use Rattle.lab_model.specs.declared.micro.Micro.{Micro}
use Rattle.lab_model.specs.declared.micro.Order.{Order}
use Rattle.lab_model.specs.declared.micro.Order.TheVariants.{Create, Load, Clear, Begin, Drained}
use Rattle.lab_model.specs.declared.micro.Order.TheVariants.{Swap, Remove, Message, Status}
use Rattle.lab_model.specs.declared.micro.Order.TheVariants.{Table, Sleep, Replay, Wait}
use Rattle.lab_trace.specs.declared.row.TraceRow.{TraceRow}

-- the word of a micro-command
abbrev pub order_word : Order → List ℕ
order_word (Create device version) = codes "create"
order_word (Load device version) = codes "load"
order_word (Clear device) = codes "clear"
order_word (Begin device) = codes "begin"
order_word (Drained device) = codes "drained"
order_word (Swap device) = codes "swap"
order_word (Remove device) = codes "remove"
order_word (Message device sector text) = codes "message"
order_word (Status device) = codes "status"
order_word (Table device) = codes "table"
order_word (Sleep time) = codes "sleep"
order_word Replay = codes "replay"
order_word Wait = codes "wait"

-- the mapped device that a micro-command names, if it names one
abbrev pub order_device : Order → Option DevNo
order_device (Create device version) = Some (Dm device)
order_device (Load device version) = Some (Dm device)
order_device (Clear device) = Some (Dm device)
order_device (Begin device) = Some (Dm device)
order_device (Drained device) = Some (Dm device)
order_device (Swap device) = Some (Dm device)
order_device (Remove device) = Some (Dm device)
order_device (Message device sector text) = Some (Dm device)
order_device (Status device) = Some (Dm device)
order_device (Table device) = Some (Dm device)
order_device (Sleep time) = None
order_device Replay = None
order_device Wait = None

-- the word of a micro-command, if there is one
abbrev pub micro_word : Option Micro → List ℕ
micro_word None = []
micro_word (Some micro) = order_word micro.order

-- the row with the script's line that a micro-command comes from, and the device that it names
abbrev pub with_micro : TraceRow → Option Micro → TraceRow
with_micro row None = row
with_micro row (Some micro) =
    record row { line = Some micro.line; device = order_device micro.order }
