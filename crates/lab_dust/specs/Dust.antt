-- The dust target: reads of bad blocks fail, and a write makes a block good again (dm-dust; that
-- blocks are counted from the line's first sector, that a flush passes without a look at the
-- list, and the replies to messages are this project's own).
use Rattle.std.specs.BTreeSet.{insert_key}
use Rattle.std.specs.Int.{div_ceil, is_power_of_two}
use Rattle.std.specs.List.{list_any}
use Rattle.std.specs.Map.{lookup}
use Rattle.std.specs.Option.{option_and_then, option_map_or, option_zip}
use Rattle.std.specs.Ordering.{nat_cmp}
use Rattle.std.specs.Prelude.{ℕ, ◌*◌, ◌/◌, ◌==◌, ◌&&◌, not, is_some, Bool, true, false, nat_le, nat_lt, List, [], ◌∷◌, ◌++◌, length, filter, Option, Some, None, Result, Ok, Err, codes, decimal, if◌then◌else◌}
use Rattle.std.specs.Result.{result_ok}
use Rattle.std.specs.Str.{str_eq_ignore_ascii_case}
use Rattle.lab_sector.specs.declared.request.Kind.{Kind}
use Rattle.lab_sector.specs.declared.request.Kind.TheVariants.{Read, Flush}
use Rattle.lab_text.specs.Numbers.{number_of, spaced_numbers}
use Rattle.lab_target.specs.declared.fault.TargetFault.{TargetFault}
use Rattle.lab_target.specs.declared.fault.TargetFault.TheVariants.{Args, Number, BlockSize}
use Rattle.lab_target.specs.declared.verdict.Ref.{Ref}
use Rattle.lab_target.specs.declared.verdict.Verdict.TheVariants.{Fail}
use Rattle.lab_target.specs.Laws.{greatest_sector}
use Rattle.lab_target.specs.Meaning.{Draft, Meaning}
use Rattle.lab_target.specs.Reading.{device_text}
use Rattle.lab_target.specs.Types.{no_marks, of_type, one_device, passed_to}
use Rattle.lab_dust.specs.declared.message.Message.{Message}
use Rattle.lab_dust.specs.declared.message.Message.TheVariants.{AddBlock, RemoveBlock, QueryBlock, CountBlocks, ListBlocks, ClearBlocks, Enable, Disable, Quiet}

-- the list of bad blocks, and two flags
pub record DustList : Type 0 where
  -- the listed blocks, rising
  pub blocks : List ℕ
  -- whether reads of listed blocks fail; else the list is passed by
  pub enabled : Bool
  pub quiet : Bool

-- a dust line with its list
pub record DustLine : Type 0 where
  pub reference : Ref
  -- the bytes of a block
  pub size : ℕ
  -- the line's length in sectors
  pub len : ℕ
  pub list : DustList

-- the opening state: no block is listed, the list is passed by, and it is verbose
abbrev pub opening_list : DustList
opening_list = record { blocks = []; enabled = false; quiet = false }

-- a line in its opening state
abbrev pub opening_line : Ref → ℕ → ℕ → DustLine
opening_line reference size len =
    record { reference = reference; size = size; len = len; list = opening_list }

-- whether a block has so many bytes: a power of two from 512 to 1073741824 (dm-dust)
abbrev pub is_block_size : ℕ → Bool
is_block_size size = is_power_of_two size && (nat_le 512 size && nat_le size 1073741824)

-- the block that a place is in
abbrev pub block_at : ℕ → ℕ → ℕ
block_at size place = place * 512 / size

-- how many blocks a line has: its length divided by a block's sectors, rounded up
abbrev pub block_count : DustLine → ℕ
block_count line = div_ceil line.len (line.size / 512)

-- whether a block is in the list
abbrev pub is_listed : ℕ → List ℕ → Bool
is_listed block blocks = list_any (λ listed. listed == block) blocks

-- the message of a word alone, in letters of either case
abbrev pub lone_message : List ℕ → Option Message
lone_message word = lookup (str_eq_ignore_ascii_case word)
    ((codes "countbadblocks", CountBlocks)
    ∷ (codes "listbadblocks", ListBlocks)
    ∷ (codes "clearbadblocks", ClearBlocks)
    ∷ (codes "enable", Enable)
    ∷ (codes "disable", Disable)
    ∷ (codes "quiet", Quiet) ∷ [])

-- the message of a word, in letters of either case, and a block
abbrev pub block_message : List ℕ → ℕ → Option Message
block_message word block = lookup (str_eq_ignore_ascii_case word)
    ((codes "addbadblock", AddBlock block)
    ∷ (codes "removebadblock", RemoveBlock block)
    ∷ (codes "queryblock", QueryBlock block) ∷ [])

-- the message that words are to a line of so many blocks, if they are one
abbrev pub message_of : ℕ → List (List ℕ) → Option Message
message_of count (word ∷ []) = lone_message word
message_of count (word ∷ number ∷ []) =
    option_and_then (λ block. if nat_lt block count then block_message word block else None)
    (result_ok (number_of number 18446744073709551615))
message_of count _ = None

-- the state of the flag `quiet`
abbrev pub quiet_text : Bool → List ℕ
quiet_text quiet = if quiet then codes "quiet" else codes "verbose"

-- whether reads of listed blocks fail (dm-dust's status)
abbrev pub mode_text : Bool → List ℕ
mode_text enabled = if enabled then codes "fail_read_on_bad_block" else codes "bypass"

-- the listed blocks with a space between, or `none`
abbrev pub list_text : List ℕ → List ℕ
list_text [] = codes "none"
list_text (block ∷ blocks) = decimal block ++ spaced_numbers blocks

-- the reply to a message
abbrev pub reply_to : DustList → Message → List ℕ
reply_to list (AddBlock block) =
    if is_listed block list.blocks then codes "already" else codes "added"
reply_to list (RemoveBlock block) =
    if is_listed block list.blocks then codes "removed" else codes "not listed"
reply_to list (QueryBlock block) =
    if is_listed block list.blocks then codes "listed" else codes "not listed"
reply_to list CountBlocks = decimal (length list.blocks)
reply_to list ListBlocks = list_text list.blocks
reply_to list ClearBlocks = codes "cleared " ++ decimal (length list.blocks)
reply_to list Enable = codes "enabled"
reply_to list Disable = codes "disabled"
reply_to list Quiet = quiet_text (not list.quiet)

-- the list after a message; listed blocks rise
abbrev pub after_message : DustList → Message → DustList
after_message list (AddBlock block) =
    record list { blocks = insert_key nat_cmp list.blocks block }
after_message list (RemoveBlock block) =
    record list { blocks = filter (λ listed. not (listed == block)) list.blocks }
after_message list ClearBlocks = record list { blocks = [] }
after_message list Enable = record list { enabled = true }
after_message list Disable = record list { enabled = false }
after_message list Quiet = record list { quiet = not list.quiet }
after_message list _ = list

-- whether a piece of a kind in a block fails: a read of a listed block, but not in bypass
abbrev pub is_bad : DustList → Kind → ℕ → Bool
is_bad list Read block = list.enabled && is_listed block list.blocks
is_bad list _ block = false

-- the list after a piece of a kind in a block: a write or a trim takes the block off it, but not
-- in bypass
abbrev pub after_piece : DustList → Kind → ℕ → DustList
after_piece list Read block = list
after_piece list Flush block = list
after_piece list _ block =
    if list.enabled then after_message list (RemoveBlock block) else list

-- a line of a block size to the sectors of a device from an offset on
abbrev pub drafted : List ℕ → ℕ → ℕ → ℕ → Draft DustLine
drafted device first size len = one_device device
    (λ dev. opening_line (record { dev = dev; first = first }) size len)

-- a device word, an offset in sectors and a block size in bytes
abbrev pub arguments : ℕ → List (List ℕ) → Result (Draft DustLine) TargetFault
arguments len (device ∷ offset ∷ size ∷ []) =
    elim (option_zip (result_ok (number_of offset greatest_sector))
    (result_ok (number_of size 4294967295))) [
      | None ↦ Err Number
      | Some (first, bytes) ↦ if is_block_size bytes then Ok (drafted device first bytes len)
          else Err BlockSize
    ]
arguments len _ = Err Args

-- all pass but reads of listed blocks, which fail while it is enabled; a piece's block is that
-- of its first place
abbrev pub dust_target : Meaning DustLine
dust_target = record {
  parsed = λ words len. of_type (codes "dust") (arguments len) words;
  -- no event changes any of it but the list and its flags
  shape = λ line. record {
    reference = λ kind. Some line.reference;
    may_hold = λ kind. false;
    block = block_at line.size;
    takes = λ words. is_some (message_of (block_count line) words);
    -- `dust DEV OFFSET BLKSZ`
    printed = codes "dust " ++ device_text line.reference.dev
        ++ 32 ∷ decimal line.reference.first ++ 32 ∷ decimal line.size;
    opening = opening_line line.reference line.size line.len;
  };
  is_sound = λ line. nat_le line.reference.first greatest_sector && is_block_size line.size;
  started = λ line now. line;
  verdict = λ line kind piece now. if is_bad line.list kind (block_at line.size piece.first)
      then Fail else passed_to line.reference piece 0 no_marks;
  judged = λ line kind piece now.
      record line { list = after_piece line.list kind (block_at line.size piece.first) };
  -- words that are no message get a reply of no byte, and change nothing
  reply = λ line words. option_map_or (reply_to line.list)
      (message_of (block_count line) words) [];
  messaged = λ line words. record line {
    list = option_map_or (after_message line.list)
        (message_of (block_count line) words) line.list;
  };
  -- `dust DEV MODE QUIET` (dm-dust's status)
  status = λ line now held. codes "dust " ++ device_text line.reference.dev
      ++ 32 ∷ mode_text line.list.enabled ++ 32 ∷ quiet_text line.list.quiet;
}
