-- The delay target: bios go on to other devices after some time (dm-delay; that trims go with
-- writes is this project's own). Delays are in milliseconds.
use Rattle.std.specs.Prelude.{ℕ, ◌*◌, ◌==◌, ◌&&◌, Bool, false, nat_le, nat_lt, not, List, [], ◌∷◌, ◌++◌, length, Option, Some, None, Result, Ok, Err, codes, decimal, flat_map, if◌then◌else◌}
use Rattle.std.specs.List.{list_all, list_any}
use Rattle.std.specs.Option.{option_and_then, option_map}
use Rattle.std.specs.Result.{result_ok}
use Rattle.lab_sector.specs.declared.device.DevNo.TheVariants.{Ram}
use Rattle.lab_sector.specs.declared.request.Kind.{Kind}
use Rattle.lab_sector.specs.declared.request.Kind.TheVariants.{Read, Flush}
use Rattle.lab_text.specs.Numbers.{number_of}
use Rattle.lab_target.specs.declared.fault.TargetFault.{TargetFault}
use Rattle.lab_target.specs.declared.fault.TargetFault.TheVariants.{Args, Number, TooLong}
use Rattle.lab_target.specs.declared.verdict.Ref.{Ref}
use Rattle.lab_target.specs.Laws.{greatest_sector}
use Rattle.lab_target.specs.Meaning.{Draft, Meaning}
use Rattle.lab_target.specs.Reading.{device_text}
use Rattle.lab_target.specs.Types.{later_devices, no_marks, of_type, only_device, passed_to}

-- the greatest delay, an hour
abbrev pub longest_delay : ℕ
longest_delay = 3600000

-- where some kinds go, and how long they are held
pub record Group : Type 0 where
  pub reference : Ref
  pub delay : ℕ

-- the group of a kind among those that a line gives: one for all kinds; one for reads, and one for
-- all else; or one for reads, one for writes and trims, and one for flushes
abbrev pub group_for : List Group → Kind → Group
group_for (all ∷ []) kind = all
group_for (reads ∷ others) Read = reads
group_for (reads ∷ writes ∷ flushes ∷ more) Flush = flushes
group_for (reads ∷ writes ∷ more) kind = writes
group_for [] kind = record { reference = record { dev = Ram 0; first = 0 }; delay = 0 }

-- a group's numbers are in their ranges
abbrev pub is_sound_group : Group → Bool
is_sound_group group =
    nat_le group.reference.first greatest_sector && nat_le group.delay longest_delay

-- one group more before others: it is on the first device, and they are on the later ones
abbrev pub with_group : List ℕ → ℕ → ℕ → Draft (List Group) → Draft (List Group)
with_group device first delay others = record {
  devices = device ∷ others.devices;
  made = λ devices. record {
    reference = record { dev = only_device devices; first = first };
    delay = delay;
  } ∷ others.made (later_devices devices);
}

-- the groups of words, `DEV OFFSET DELAY` each, if their numbers can be read
abbrev pub given : List (List ℕ) → Option (Draft (List Group))
given (device ∷ offset ∷ delay ∷ words) =
    option_and_then (λ first. option_and_then (λ milliseconds.
    option_map (with_group device first milliseconds) (given words))
    (result_ok (number_of delay 4294967295))) (result_ok (number_of offset greatest_sector))
given _ = Some (record { devices = []; made = λ devices. [] })

-- one, two or three groups, whose delays are an hour at most on any devices
abbrev pub arguments : List (List ℕ) → Result (Draft (List Group)) TargetFault
arguments words =
    if not (list_any (λ count. length words == count) (3 ∷ 6 ∷ 9 ∷ [])) then Err Args
    else elim (given words) [
      | None ↦ Err Number
      | Some draft ↦ if list_all (λ group. nat_le group.delay longest_delay) (draft.made [])
          then Ok draft else Err TooLong
    ]

-- `DEV OFFSET DELAY`
abbrev pub group_text : Group → List ℕ
group_text group =
    device_text group.reference.dev ++ 32 ∷ decimal group.reference.first ++ 32
    ∷ decimal group.delay

-- the groups as they were given
abbrev pub text : List Group → List ℕ
text groups = codes "delay" ++ flat_map (λ group. 32 ∷ group_text group) groups

-- all pass, each kind after its group's delay, of 1000 microseconds each
abbrev pub delay_target : Meaning (List Group)
delay_target = record {
  parsed = λ words len. of_type (codes "delay") arguments words;
  -- no event changes any of it
  shape = λ target. record {
    reference = λ kind. Some (group_for target kind).reference;
    may_hold = λ kind. nat_lt 0 (group_for target kind).delay;
    block = λ place. 0;
    takes = λ words. false;
    printed = text target;
    opening = target;
  };
  is_sound = list_all is_sound_group;
  started = λ target now. target;
  verdict = λ target kind piece now. passed_to (group_for target kind).reference piece
      (1000 * (group_for target kind).delay) no_marks;
  judged = λ target kind piece now. target;
  reply = λ target words. [];
  messaged = λ target words. target;
  -- `delay READS WRITES FLUSHES`, the numbers of pieces that are held; trims count as writes
  status = λ target now held. codes "delay " ++ decimal held.reads
      ++ 32 ∷ decimal held.writes ++ 32 ∷ decimal held.flushes;
}
