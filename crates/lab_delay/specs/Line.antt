-- What a delay line's words say, group by group (dm-delay).
use Rattle.std.specs.Prelude.{◌≤◌, Bool, List, [], ◌∷◌, All, Result, Ok, Err, flat_map, nat_le, if◌then◌else◌}
use Rattle.std.specs.List.{list_all}
use Rattle.lab_target.specs.declared.fault.TargetFault.{TargetFault}
use Rattle.lab_target.specs.declared.fault.TargetFault.TheVariants.{TooLong}
use Rattle.lab_target.specs.Laws.{greatest_sector}
use Rattle.lab_target.specs.Meaning.{Draft}
use Rattle.lab_delay.specs.Delay.{Group, arguments, longest_delay, with_group}
use Rattle.lab_delay.specs.Groups.{members}
use Rattle.lab_delay.specs.declared.grouped.Grouped.{Grouped}
use Rattle.lab_delay.specs.declared.line.GroupWords.{GroupWords}
use Rattle.lab_delay.specs.declared.line.GivenGroup.{GivenGroup}

-- what a line's words say, as groups of three words each
abbrev pub said : Grouped GroupWords → Result (Draft (List Group)) TargetFault
said line = arguments (flat_map
    (λ group. group.device.now ∷ group.offset.now ∷ group.delay.now ∷ []) (members line))

-- groups before their devices are known
abbrev pub draft_of : List GivenGroup → Draft (List Group)
draft_of [] = record { devices = []; made = λ devices. [] }
draft_of (group ∷ groups) =
    with_group group.device.now group.first group.delay (draft_of groups)

-- the line of one, two or three groups before their devices are known
abbrev pub drafted : Grouped GivenGroup → Draft (List Group)
drafted groups = draft_of (members groups)

-- each group goes to a sector that a table may name
abbrev pub are_near : Grouped GivenGroup → Type 0
are_near groups = All (λ group. group.first ≤ greatest_sector) (members groups)

-- whether a group's delay is an hour at most
abbrev pub is_timely : GivenGroup → Bool
is_timely group = nat_le group.delay longest_delay

-- whether each group's delay is an hour at most
abbrev pub are_timely : Grouped GivenGroup → Bool
are_timely groups = list_all is_timely (members groups)

-- a draft whose delays are an hour at most
abbrev pub if_timely : Bool → Draft (List Group) → Result (Draft (List Group)) TargetFault
if_timely timely draft = if timely then Ok draft else Err TooLong
