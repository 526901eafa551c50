-- The script's steps (dmsetup(8): create, load, clear, suspend, resume, remove, message,
-- status, table).
use Rattle.std.specs.Prelude.{ℕ, ◌+◌, ◌==◌, ◌&&◌, ◌||◌, Bool, true, false, not, List, [], ◌∷◌, ◌++◌, Option, Some, None, map, slice_get, count_by, decimal, option_map}
use Rattle.std.specs.Option.{option_or}
use Rattle.std.specs.List.{enumerate_from}
use Rattle.lab_sector.specs.declared.request.Kind.{Kind}
use Rattle.lab_sector.specs.declared.request.Kind.TheVariants.{Read, Flush}
use Rattle.lab_target.specs.declared.verdict.Held.{Held as HeldCounts}
use Rattle.lab_target.specs.Meaning.{Meaning}
use Rattle.lab_text.specs.Words.{words_of}
use Rattle.lab_model.specs.declared.micro.Mode.{Mode}
use Rattle.lab_model.specs.declared.micro.Mode.TheVariants.{Running, Draining, Suspended}
use Rattle.lab_model.specs.declared.micro.Order.{Order}
use Rattle.lab_model.specs.declared.micro.Order.TheVariants.{Create, Load, Clear, Begin, Drained, Swap, Remove, Message, Status, Table as TableOf, Sleep, Replay, Wait}
use Rattle.lab_model.specs.declared.table_line.TableLine.{TableLine}
use Rattle.lab_model.specs.After.{After, Next, NoDevice, NoTable, PastEnd, NoTarget, given, on_live, unless, where_there}
use Rattle.lab_model.specs.Bios.{Stage, Held}
use Rattle.lab_model.specs.declared.parent.Parent.{Parent}
use Rattle.lab_model.specs.declared.parent.Parent.TheVariants.{FromBio}
use Rattle.lab_model.specs.Lists.{change}
use Rattle.lab_model.specs.MapEffect.{with_live}
use Rattle.lab_model.specs.Scenario.{Scenario, version_of}
use Rattle.lab_model.specs.Slots.{slot_at}
use Rattle.lab_model.specs.State.{State, Slot, LogState, living}
use Rattle.lab_model.specs.Tables.{Table, line_at, loaded, with_target}

-- the state with one micro-command more done
abbrev pub stepped : {S : Type 0} → State S → State S
stepped s = record s { done = s.done + 1 }

-- the state with f of a device
abbrev pub with_device : {S : Type 0} → State S → ℕ → (Slot (Table S) → Slot (Table S)) → State S
with_device s device f = record s { devices = change s.devices device (option_map f) }

-- a device that is there, running, with this live table
abbrev pub created : {L : Type 0} → Option L → Slot L
created live = record { live = live; inactive = None; mode = Running }

-- a device with this in its inactive slot
abbrev pub with_inactive : {L : Type 0} → Option L → Slot L → Slot L
with_inactive table slot = record slot { inactive = table }

-- a device in another mode
abbrev pub with_mode : {L : Type 0} → Mode → Slot L → Slot L
with_mode mode slot = record slot { mode = mode }

-- a device after its tables are swapped: an inactive table becomes live if there is one, and the
-- device runs
abbrev pub swapped : {L : Type 0} → Slot L → Slot L
swapped slot = created (option_or slot.inactive slot.live)

-- a step on a device that has to be there
abbrev pub on_device : {S : Type 0} → State S → ℕ → (Slot (Table S) → Slot (Table S)) → After S
on_device s device f =
    given NoDevice (slot_at s.devices device) (λ slot. Next (stepped (with_device s device f)))

-- a create makes the next device; its table is loaded now
abbrev pub with_created : {S : Type 0} → State S → Option (Table S) → State S
with_created s live = record s { devices = s.devices ++ Some (created live) ∷ [] }

-- the first version of a device, if the create names one
abbrev pub named_version : {S : Type 0} → Scenario S → ℕ → Option ℕ → Option (Table S)
named_version c device None = None
named_version c device (Some version) = version_of c device version

-- the next device is created, with the named version live, which has to be there, if the create
-- names one
abbrev pub create : {S : Type 0} → Meaning S → Scenario S → State S → ℕ → Option ℕ → After S
create m c s device None = Next (stepped (with_created s None))
create m c s device (Some version) = given NoTable (version_of c device version)
    (λ table. Next (stepped (with_created s (Some (loaded m s.clock table)))))

-- a load fills the inactive slot with a version, which has to be there; it is loaded now
abbrev pub load : {S : Type 0} → Meaning S → Scenario S → State S → ℕ → ℕ → After S
load m c s device version = given NoDevice (slot_at s.devices device)
    (λ slot. given NoTable (version_of c device version) (λ table.
    Next (stepped (with_device s device (with_inactive (Some (loaded m s.clock table)))))))

-- the state with these texts as replies to a line of the script
abbrev pub with_replies : {S : Type 0} → State S → ℕ → List (List ℕ) → State S
with_replies s line texts =
    record s { replies = s.replies ++ map (λ text. record { line = line; text = text }) texts }

-- a table whose line of this number has taken a message
abbrev pub line_told : {S : Type 0} → Meaning S → List (List ℕ) → ℕ → Table S → Table S
line_told m words number table = change table number (with_target (λ t. m.messaged t words))

-- a message goes to the line that has this sector of the device, which takes it and replies
abbrev pub message : {S : Type 0} → Meaning S → State S → ℕ → ℕ → ℕ → List (List ℕ) → After S
message m s script_line device sector words = on_live s device
    (λ table. given PastEnd (line_at table sector) (λ number. given PastEnd (slice_get table number)
    (λ line. unless NoTarget ((m.shape line.target).takes words)
    (Next (stepped (with_replies (with_device s device (with_live (line_told m words number table)))
    script_line (m.reply line.target words ∷ [])))))))

-- whether a bio is held for a piece of a line of a device
abbrev pub piece_held : ℕ → ℕ → Parent → Stage → Bool
piece_held device line (FromBio number piece) (Held due holder) =
    (holder == device) && (piece.line == line)
piece_held device line _ _ = false

-- a read: a status counts reads, writes with trims, and flushes
abbrev pub is_read : Kind → Bool
is_read Read = true
is_read _ = false

-- a flush
abbrev pub is_flush : Kind → Bool
is_flush Flush = true
is_flush _ = false

-- a write or a trim
abbrev pub is_change : Kind → Bool
is_change kind = not (is_read kind || is_flush kind)

-- how many bios of some kinds are held now for pieces of a line of a device
abbrev pub held_of : {S : Type 0} → State S → ℕ → ℕ → (Kind → Bool) → ℕ
held_of s device line test =
    count_by (λ bio. test bio.kind && piece_held device line bio.parent bio.stage) (living s)

-- how many reads, writes and trims, and flushes are held for a line of a device
abbrev pub held_counts : {S : Type 0} → State S → ℕ → ℕ → HeldCounts
held_counts s device line = record {
  reads = held_of s device line is_read;
  writes = held_of s device line is_change;
  flushes = held_of s device line is_flush;
}

-- a line's start and length, and a text after them
abbrev pub line_text : {S : Type 0} → TableLine S → List ℕ → List ℕ
line_text line text = decimal line.start ++ 32 ∷ decimal line.len ++ 32 ∷ text

-- the status of each line of a table, with what is held for it
abbrev pub status_texts : {S : Type 0} → Meaning S → State S → ℕ → Table S → List (List ℕ)
status_texts m s device table = map
    (λ entry. line_text entry.1 (m.status entry.1.target s.clock (held_counts s device entry.0)))
    (enumerate_from 0 table)

-- the words of each line of a table
abbrev pub table_texts : {S : Type 0} → Meaning S → Table S → List (List ℕ)
table_texts m table = map (λ line. line_text line (m.shape line.target).printed) table

-- these texts of a live table are told, a reply for each
abbrev pub tell : {S : Type 0} → State S → ℕ → ℕ → (Table S → List (List ℕ)) → After S
tell s script_line device texts = on_live s device
    (λ table. Next (stepped (with_replies s script_line (texts table))))

-- a log that starts at a moment
abbrev pub starting : ℕ → LogState → LogState
starting now log = record log { moment = now }

-- the logs start, each at this moment
abbrev pub replayed : {S : Type 0} → State S → State S
replayed s = record s { started = true; logs = map (starting s.clock) s.logs }

-- a step of the script
abbrev pub order_effect : {S : Type 0} → Meaning S → Scenario S → State S → ℕ → Order → After S
order_effect m c s line (Create device version) = create m c s device version
order_effect m c s line (Load device version) = load m c s device version
order_effect m c s line (Clear device) = on_device s device (with_inactive None)
order_effect m c s line (Begin device) = on_device s device (with_mode Draining)
order_effect m c s line (Drained device) = on_device s device (with_mode Suspended)
order_effect m c s line (Swap device) = on_device s device swapped
order_effect m c s line (Remove device) = given NoDevice (slot_at s.devices device)
    (λ slot. Next (stepped (record s { devices = change s.devices device (λ entry. None) })))
order_effect m c s line (Message device sector text) =
    message m s line device sector (words_of text)
order_effect m c s line (Status device) = tell s line device (status_texts m s device)
order_effect m c s line (TableOf device) = tell s line device (table_texts m)
order_effect m c s line (Sleep time) = Next (stepped (record s { moment = s.clock + time }))
order_effect m c s line Replay = Next (stepped (replayed s))
order_effect m c s line Wait = Next (stepped s)

-- the next micro-command
abbrev pub control : {S : Type 0} → Meaning S → Scenario S → State S → After S
control m c s =
    where_there s (slice_get c.micros s.done) (λ micro. order_effect m c s micro.line micro.order)
