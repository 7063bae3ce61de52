-- How answers are printed (profile).
use Rattle.std.specs.Prelude.{Bool, Err, List, None, Ok, Option, Result, Some, [], codes, decimal, flat_map, if◌then◌else◌, length, map, nat_lt, ℕ, ◌%◌, ◌++◌, ◌+◌, ◌/◌, ◌∷◌}
use Rattle.vt_spec.specs.declared.attributes.Attr.{Attr}
use Rattle.vt_spec.specs.declared.attributes.Kind.{Kind}
use Rattle.vt_spec.specs.declared.attributes.Kind.TheVariants.{Dir, File, Symlink, White}
use Rattle.vt_spec.specs.declared.errors.Deny.{Deny}
use Rattle.vt_spec.specs.Errors.{errno_name, number_of, rule_name}
use Rattle.vt_spec.specs.Lists.{counted_from}
use Rattle.vt_spec.specs.Language.Calls.{MountFlags, TaskName}
use Rattle.vt_spec.specs.Language.Answers.{Answer, MountLine, PeerLine, Spot, StatLine, TypeLine}
use Rattle.vt_spec.specs.Language.Answers.Answer.{Bytes, Child, Done, MountList, Names, Opened, PeerList, Told, YesNo}
use Rattle.vt_spec.specs.Language.Answers.Spot.{Gone, Reached}
use Rattle.vt_spec.specs.Language.Answers.TypeLine.{PrivateLine, SharedLine, SlaveLine, UnbindableLine}
use Rattle.vt_spec.specs.Language.Script.{is_plain}

-- a lower-case hexadecimal digit
abbrev pub hex_digit : ℕ → ℕ
hex_digit value = if nat_lt value 10 then 48 + value else 87 + value

-- a byte as it is, or as `\xhh`
abbrev pub printed_byte : ℕ → List ℕ
printed_byte byte = if is_plain byte then byte ∷ [] else 92 ∷ 120 ∷ hex_digit (byte / 16) ∷ hex_digit (byte % 16) ∷ []

-- a text; the empty one is `\e`
abbrev pub printed_text : List ℕ → List ℕ
printed_text [] = codes "\\e"
printed_text (byte ∷ bytes) = printed_byte byte ++ flat_map printed_byte bytes

-- words with a space before each
abbrev pub spaced : List (List ℕ) → List ℕ
spaced words = flat_map (λ word. 32 ∷ word) words

-- four octal digits
abbrev pub printed_mode : ℕ → List ℕ
printed_mode mode = (48 + mode / 512 % 8) ∷ (48 + mode / 64 % 8) ∷ (48 + mode / 8 % 8) ∷ (48 + mode % 8) ∷ []

-- kind, mode, owner and group of an object
abbrev pub owner_words : List ℕ → Attr → List (List ℕ)
owner_words kind attr = kind ∷ printed_mode attr.mode ∷ decimal attr.uid ∷ decimal attr.gid ∷ []

-- the words that stat and lstat answer: inode(7)
abbrev pub stat_words : Kind → StatLine → List (List ℕ)
stat_words Dir line = owner_words (codes "dir") line.attr ++ (if line.opaque then codes "opaque" ∷ [] else [])
stat_words File line = owner_words (codes "file") line.attr ++ (decimal line.size ∷ [])
stat_words Symlink line = owner_words (codes "link") line.attr ++ (decimal line.size ∷ [])
stat_words White line = owner_words (codes "white") line.attr

-- `t` and the numbers of a task's name
abbrev pub printed_task : TaskName → List ℕ
printed_task name = codes "t" ++ flat_map (λ number. 46 ∷ decimal number) name

-- a path from a root, a slash before each name
abbrev pub printed_path : List (List ℕ) → List ℕ
printed_path [] = codes "/"
printed_path (name ∷ names) = flat_map (λ word. 47 ∷ flat_map printed_byte word) (name ∷ names)

-- such a path, or `gone`
abbrev pub printed_spot : Spot → List ℕ
printed_spot Gone = codes "gone"
printed_spot (Reached path) = printed_path path

-- the flags of a mount
abbrev pub printed_flags : MountFlags → List ℕ
printed_flags given =
    (if given.read_only then codes "ro" else codes "rw")
    ++ (if given.noexec then codes ",noexec" else [])
    ++ (if given.nosymfollow then codes ",nosymfollow" else [])

-- the propagation type of a mount
abbrev pub printed_type : TypeLine → List ℕ
printed_type (SharedLine group None) = codes "shared:" ++ decimal group
printed_type (SharedLine group (Some master)) = codes "shared:" ++ decimal group ++ codes ",slave:" ++ decimal master
printed_type (SlaveLine master) = codes "slave:" ++ decimal master
printed_type PrivateLine = codes "private"
printed_type UnbindableLine = codes "unbindable"

-- a mount's parent and the path of its mount point there, `-` for a mount without one
abbrev pub mount_point_words : Option (ℕ × Spot) → List (List ℕ)
mount_point_words None = codes "-" ∷ codes "-" ∷ []
mount_point_words (Some place) = decimal place.0 ∷ printed_spot place.1 ∷ []

-- the kind of a filesystem, before its number
abbrev pub kind_word : (overlay : Bool) → List ℕ
kind_word overlay = if overlay then codes "overlay:" else codes "plain:"

-- a line of the list of mounts: mountinfo of proc(5), in the profile's form
abbrev pub mount_line_words : ℕ × MountLine → List (List ℕ)
mount_line_words line =
    decimal line.0 ∷ mount_point_words line.1.mount_point
    ++ ((kind_word line.1.overlay ++ decimal line.1.filesystem) ∷ printed_spot line.1.root
    ∷ printed_flags line.1.flags ∷ printed_type line.1.kind ∷ [])

-- a number, or `-` for none
abbrev pub number_or_dash : Option ℕ → List ℕ
number_or_dash None = codes "-"
number_or_dash (Some number) = decimal number

-- a mount as `namespace.k`
abbrev pub printed_member : ℕ × ℕ → List ℕ
printed_member member = decimal member.0 ++ codes "." ++ decimal member.1

-- mounts with commas between, or `-` for none
abbrev pub printed_members : List (ℕ × ℕ) → List ℕ
printed_members [] = codes "-"
printed_members (member ∷ members) = printed_member member ++ flat_map (λ other. 44 ∷ printed_member other) members

-- a line of the list of peer groups
abbrev pub peer_line_words : PeerLine → List (List ℕ)
peer_line_words line =
    decimal line.group ∷ number_or_dash line.master ∷ printed_members line.peers ∷ printed_members line.slaves ∷ []

-- an answer's value as words
abbrev pub printed_value : Answer → List (List ℕ)
printed_value Done = []
printed_value (Bytes bytes) = printed_text bytes ∷ []
printed_value (Names names) = map printed_text names
printed_value (Told line) = stat_words line.kind line
printed_value (Opened descriptor) = decimal descriptor ∷ []
printed_value (Child name) = printed_task name ∷ []
printed_value (MountList lines) = decimal (length lines) ∷ []
printed_value (PeerList lines) = decimal (length lines) ∷ []
printed_value (YesNo yes_or_no) = (if yes_or_no then codes "yes" else codes "no") ∷ []

-- the lines of a list behind the first
abbrev pub printed_rows : Answer → List (List (List ℕ))
printed_rows (MountList lines) = map mount_line_words (counted_from 1 lines)
printed_rows (PeerList lines) = map peer_line_words lines
printed_rows answer = []

-- words as a line, with the number of the line that they answer
abbrev pub printed_line : ℕ → List (List ℕ) → List ℕ
printed_line number words = decimal number ++ spaced words ++ codes "\n"

-- the text that answers the line of this number
abbrev pub reply_line : ℕ → Result Answer Deny → List ℕ
reply_line number (Ok answer) =
    printed_line number (codes "ok" ∷ printed_value answer) ++ flat_map (printed_line number) (printed_rows answer)
reply_line number (Err deny) =
    printed_line number
    (codes "deny" ∷ decimal (number_of deny.errno) ∷ errno_name deny.errno ∷ rule_name deny.rule ∷ [])
