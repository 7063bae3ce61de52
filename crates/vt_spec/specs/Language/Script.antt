-- The text of a script: its lines, tokens and grammar (profile).
use Rattle.std.specs.Prelude.{Bool, List, None, Option, Some, [], codes, drop, false, if◌then◌else◌, is_some, length, nat_le, nat_lt, not, option_map, slice_index, take, true, unwrap_or, ℕ, ◌&&◌, ◌*◌, ◌++◌, ◌+◌, ◌-◌, ◌==◌, ◌∷◌}
use Rattle.std.specs.Int.RustNames.{bit_or}
use Rattle.std.specs.List.{list_all, list_any}
use Rattle.std.specs.Str.{bytes_eq}
use Rattle.vt_spec.specs.Language.Calls.{Access, Call, CapabilityWord, Creation, Directive, MountFlags, OverlayWords, TaskName, TypeWord, plain_flags}
use Rattle.vt_spec.specs.Language.Calls.Access.{ReadOnly, ReadWrite, WriteOnly}
use Rattle.vt_spec.specs.Language.Calls.Call.{Bind, Chdir, Chmod, Chown, Chroot, Close, Drop, Exec, Exit, Fork, Lazy, LinkTo, ListMounts, Ls, Lstat, MakeWhiteout, Mkdir, MountOverlay, MountPlain, MoveMount, Opaque, OpenFile, PivotRoot, Pread, Pwrite, Read, Readlink, Remount, Rename, Rmdir, SetType, Setns, Stat, SymlinkAt, Umask, Umount, Unlink, Unshare, Write}
use Rattle.vt_spec.specs.Language.Calls.CapabilityWord.{Held, These}
use Rattle.vt_spec.specs.Language.Calls.Creation.{Exclusive, NoCreation, OrCreate}
use Rattle.vt_spec.specs.Language.Calls.Directive.{AskPeers, AskSealed}
use Rattle.vt_spec.specs.Language.Calls.TypeWord.{ToPrivate, ToShared, ToSlave, ToUnbindable}
use Rattle.vt_spec.specs.Language.Limits.{largest_descriptor, most_forks, most_groups, most_named_tasks}
use Rattle.vt_spec.specs.Lists.{folded, or_else, then_some, when}
use Rattle.vt_spec.specs.PathText.{is_empty, parts, words_between}
use Rattle.vt_spec.specs.Rights.{cap_chown, cap_dac_override, cap_dac_read_search, cap_fowner, cap_setgid, cap_setuid, cap_sys_admin, cap_sys_chroot}

-- the lines with one byte more before them; a newline ends a line
abbrev pub with_line_byte : (newline : Bool) → ℕ → List (List ℕ) → List (List ℕ)
with_line_byte true byte lines = [] ∷ lines
with_line_byte false byte [] = (byte ∷ []) ∷ []
with_line_byte false byte (line ∷ lines) = (byte ∷ line) ∷ lines

-- The lines of a script end with a newline; a last line without one counts too.
abbrev pub lines_of : List ℕ → List (List ℕ)
lines_of [] = []
lines_of (byte ∷ bytes) = with_line_byte (byte == 10) byte (lines_of bytes)

-- tokens stand between spaces
abbrev pub raw_tokens : List ℕ → List (List ℕ)
raw_tokens line = words_between 32 line

-- the tokens of a line of spaces alone, or of a comment
abbrev pub is_silent_token : List (List ℕ) → Bool
is_silent_token [] = true
is_silent_token (token ∷ tokens) = slice_index token 0 == 35

-- a line of spaces alone, and a comment, have no answer
abbrev pub is_silent : List ℕ → Bool
is_silent line = is_silent_token (raw_tokens line)

-- a byte that stands for itself in a token, and is printed as it is
abbrev pub is_plain : ℕ → Bool
is_plain byte = nat_le 33 byte && nat_le byte 126 && not (byte == 92)

-- where the reading of a token stands: between bytes, or in an escape `\xhh`
pub data Reading : Type 0 where
  Between : Reading
  AfterBackslash : Reading
  AfterX : Reading
  AfterHigh : (digit : ℕ) → Reading
  Failed : Reading

-- the value of a lower-case hexadecimal digit
abbrev pub hex_value : ℕ → Option ℕ
hex_value byte =
    if nat_le 48 byte && nat_le byte 57 then Some (byte - 48)
    else if nat_le 97 byte && nat_le byte 102 then Some (byte - 87)
    else None

-- the reading after the first digit of an escape
abbrev pub after_first_digit : Option ℕ → Reading
after_first_digit None = Failed
after_first_digit (Some digit) = AfterHigh digit

-- the reading after its second digit
abbrev pub after_second_digit : Option ℕ → Reading
after_second_digit None = Failed
after_second_digit (Some digit) = Between

-- the reading after one byte more
abbrev pub next_reading : Reading → ℕ → Reading
next_reading Between byte = if byte == 92 then AfterBackslash else if is_plain byte then Between else Failed
next_reading AfterBackslash byte = if byte == 120 then AfterX else Failed
next_reading AfterX byte = after_first_digit (hex_value byte)
next_reading (AfterHigh digit) byte = after_second_digit (hex_value byte)
next_reading Failed byte = Failed

-- the byte that a token's byte completes, if any
abbrev pub completed : Reading → ℕ → Option ℕ
completed Between byte = if is_plain byte then Some byte else None
completed AfterBackslash byte = None
completed AfterX byte = None
completed (AfterHigh high) byte = option_map (λ low. 16 * high + low) (hex_value byte)
completed Failed byte = None

-- the text with a byte before it, if one was completed
abbrev pub with_completed : Option ℕ → Option (List ℕ) → Option (List ℕ)
with_completed None rest = rest
with_completed (Some byte) rest = option_map (λ bytes. byte ∷ bytes) rest

-- the text that a token's bytes spell from a reading on
abbrev pub spelled : Reading → List ℕ → Option (List ℕ)
spelled Between [] = Some []
spelled AfterBackslash [] = None
spelled AfterX [] = None
spelled (AfterHigh digit) [] = None
spelled Failed [] = None
spelled reading (byte ∷ bytes) = with_completed (completed reading byte) (spelled (next_reading reading byte) bytes)

-- the text of a token; `\e` is the empty text
abbrev pub token_text : List ℕ → Option (List ℕ)
token_text token = if bytes_eq token (codes "\\e") then Some [] else spelled Between token

-- one value more before others, if all exist
abbrev pub with_first : {A : Type 0} → Option A → Option (List A) → Option (List A)
with_first None rest = None
with_first (Some a) None = None
with_first (Some a) (Some rest) = Some (a ∷ rest)

-- all of them read, if each can be
abbrev pub each_of : {A B : Type 0} → (A → Option B) → List A → Option (List B)
each_of read [] = Some []
each_of read (a ∷ rest) = with_first (read a) (each_of read rest)

-- Numbers

-- all are digits of a base
abbrev pub digits_below : ℕ → List ℕ → Bool
digits_below base text = list_all (λ byte. nat_le 48 byte && nat_lt byte (48 + base)) text

-- the value of digits in a base, from a value on
abbrev pub value_from : ℕ → ℕ → List ℕ → ℕ
value_from base value [] = value
value_from base value (byte ∷ bytes) = value_from base (base * value + (byte - 48)) bytes

-- a number of 1 to `most` digits in a base, of at most `limit`
abbrev pub number_in : ℕ → ℕ → ℕ → List ℕ → Option ℕ
number_in base most limit text =
    if not (is_empty text) && nat_le (length text) most && digits_below base text
    && nat_le (value_from base 0 text) limit
    then Some (value_from base 0 text) else None

-- one to four octal digits, at most 1777: chmod(1)
abbrev pub mode_word : List ℕ → Option ℕ
mode_word text = number_in 8 4 1023 text

-- the number of a child in a task's name: from 1 to 64, without leading zeros
abbrev pub child_number : List ℕ → Option ℕ
child_number text = if slice_index text 0 == 48 then None else number_in 10 2 most_forks text

-- a task is `t` and any number of such numbers
abbrev pub name_of_parts : List (List ℕ) → Option TaskName
name_of_parts [] = None
name_of_parts (first ∷ children) = if bytes_eq first (codes "t") then each_of child_number children else None

-- A task is `t` and any number of `.k`, with k from 1 to 64 without leading zeros.
abbrev pub task_word : List ℕ → Option TaskName
task_word text = name_of_parts (parts 46 text)

-- a path, or the text of a symlink: any text without byte 0
abbrev pub path_word : List ℕ → Option (List ℕ)
path_word text = if list_any (λ byte. byte == 0) text then None else Some text

-- the names of capabilities(7)
abbrev pub capability_named : List ℕ → Option ℕ
capability_named text =
    if bytes_eq text (codes "CAP_CHOWN") then Some cap_chown
    else if bytes_eq text (codes "CAP_DAC_OVERRIDE") then Some cap_dac_override
    else if bytes_eq text (codes "CAP_DAC_READ_SEARCH") then Some cap_dac_read_search
    else if bytes_eq text (codes "CAP_FOWNER") then Some cap_fowner
    else if bytes_eq text (codes "CAP_SETGID") then Some cap_setgid
    else if bytes_eq text (codes "CAP_SETUID") then Some cap_setuid
    else if bytes_eq text (codes "CAP_SYS_CHROOT") then Some cap_sys_chroot
    else if bytes_eq text (codes "CAP_SYS_ADMIN") then Some cap_sys_admin
    else None

-- all of these capabilities
abbrev pub union : List ℕ → ℕ
union [] = 0
union (set ∷ sets) = bit_or set (union sets)

-- `-` for none, `*` for all that the caller holds, or names between commas
abbrev pub capabilities_word : List ℕ → Option CapabilityWord
capabilities_word text =
    if bytes_eq text (codes "-") then Some (These 0)
    else if bytes_eq text (codes "*") then Some Held
    else option_map (λ sets. These (union sets)) (each_of capability_named (parts 44 text))

-- a uid or gid of at most ten digits, at most 2^32 - 2: chown(2) takes 2^32 - 1 for none
abbrev pub identity_word : List ℕ → Option ℕ
identity_word text = number_in 10 10 4294967294 text

-- an offset or a length of at most ten digits, at most 2^32 - 1
abbrev pub offset_word : List ℕ → Option ℕ
offset_word text = number_in 10 10 4294967295 text

-- the number of a descriptor, of at most ten digits
abbrev pub descriptor_word : List ℕ → Option ℕ
descriptor_word text = number_in 10 10 largest_descriptor text

-- `-` for what stays, or an identity
abbrev pub kept_or_identity : List ℕ → Option (Option ℕ)
kept_or_identity text =
    if bytes_eq text (codes "-") then Some None else option_map (λ number. Some number) (identity_word text)

-- `-` for none, or 1 to 32 identities between commas
abbrev pub groups_word : List ℕ → Option (List ℕ)
groups_word text =
    if bytes_eq text (codes "-") then Some []
    else if nat_le (length (parts 44 text)) most_groups then each_of identity_word (parts 44 text)
    else None

-- any text
abbrev pub bytes_word : List ℕ → Option (List ℕ)
bytes_word text = Some text

-- which flags a version of the language knows; nosymfollow came with the second
pub data Version : Type 0 where
  One : Version
  Two : Version

-- the flags of a mount
abbrev pub flags_given : (read_only : Bool) → (noexec : Bool) → (nosymfollow : Bool) → MountFlags
flags_given read_only noexec nosymfollow = record { read_only = read_only; noexec = noexec; nosymfollow = nosymfollow }

-- the flags that both versions know
abbrev pub first_flags : List ℕ → Option MountFlags
first_flags text =
    if bytes_eq text (codes "rw") then Some (flags_given false false false)
    else if bytes_eq text (codes "ro") then Some (flags_given true false false)
    else if bytes_eq text (codes "rw,noexec") then Some (flags_given false true false)
    else if bytes_eq text (codes "ro,noexec") then Some (flags_given true true false)
    else None

-- the flags that the second version knows too
abbrev pub second_flags : List ℕ → Option MountFlags
second_flags text =
    if bytes_eq text (codes "rw,nosymfollow") then Some (flags_given false false true)
    else if bytes_eq text (codes "ro,nosymfollow") then Some (flags_given true false true)
    else if bytes_eq text (codes "rw,noexec,nosymfollow") then Some (flags_given false true true)
    else if bytes_eq text (codes "ro,noexec,nosymfollow") then Some (flags_given true true true)
    else None

-- the flags of a mount, in a version of the language
abbrev pub flags_word : Version → List ℕ → Option MountFlags
flags_word One text = first_flags text
flags_word Two text = or_else (first_flags text) (second_flags text)

-- a propagation type
abbrev pub type_word : List ℕ → Option TypeWord
type_word text =
    if bytes_eq text (codes "shared") then Some ToShared
    else if bytes_eq text (codes "slave") then Some ToSlave
    else if bytes_eq text (codes "private") then Some ToPrivate
    else if bytes_eq text (codes "unbindable") then Some ToUnbindable
    else None

-- what a file is opened for
abbrev pub access_word : List ℕ → Option Access
access_word text =
    if bytes_eq text (codes "r") then Some ReadOnly
    else if bytes_eq text (codes "w") then Some WriteOnly
    else if bytes_eq text (codes "rw") then Some ReadWrite
    else None

-- whether a directory is marked opaque
abbrev pub yes_or_no_word : List ℕ → Option Bool
yes_or_no_word text =
    if bytes_eq text (codes "yes") then Some true
    else if bytes_eq text (codes "no") then Some false
    else None

-- The options of an overlay: items between commas. Of a repeated one the last counts.
pub data OptionItem : Type 0 where
  LowerItem : (paths : List (List ℕ)) → OptionItem
  UpperItem : (path : List ℕ) → OptionItem
  WorkItem : (path : List ℕ) → OptionItem
  OffItem : OptionItem

-- what follows a beginning of a text
abbrev pub behind : List ℕ → List ℕ → Option (List ℕ)
behind beginning text = when (bytes_eq (take (length beginning) text) beginning) (drop (length beginning) text)

-- one path: no colon in it
abbrev pub single_path : List ℕ → Option (List ℕ)
single_path text = if list_any (λ byte. byte == 58) text then None else path_word text

-- `lowerdir=` and paths between colons, from the top layer down: overlayfs
abbrev pub lower_item : List ℕ → Option OptionItem
lower_item text =
    then_some (behind (codes "lowerdir=") text) (λ paths. option_map LowerItem (each_of path_word (parts 58 paths)))

-- `upperdir=` and a path
abbrev pub upper_item : List ℕ → Option OptionItem
upper_item text = then_some (behind (codes "upperdir=") text) (λ path. option_map UpperItem (single_path path))

-- `workdir=` and a path
abbrev pub work_item : List ℕ → Option OptionItem
work_item text = then_some (behind (codes "workdir=") text) (λ path. option_map WorkItem (single_path path))

-- a feature of overlayfs that is turned off; here it always is (profile)
abbrev pub off_item : List ℕ → Option OptionItem
off_item text =
    when (list_any (bytes_eq text)
    (codes "index=off" ∷ codes "metacopy=off" ∷ codes "redirect_dir=off" ∷ codes "xino=off" ∷ [])) OffItem

-- one option of an overlay
abbrev pub option_item : List ℕ → Option OptionItem
option_item text = or_else (lower_item text) (or_else (upper_item text) (or_else (work_item text) (off_item text)))

-- the options with one more; of a repeated one the last counts
abbrev pub with_item : OverlayWords → OptionItem → OverlayWords
with_item words (LowerItem paths) = record words { lowers = paths }
with_item words (UpperItem path) = record words { upper = Some path }
with_item words (WorkItem path) = record words { work = Some path }
with_item words OffItem = words

-- the options of an overlay, if all of them are options
abbrev pub options_of : List ℕ → Option OverlayWords
options_of text =
    option_map (folded with_item (record { lowers = []; upper = None; work = None }))
    (each_of option_item (parts 44 text))

-- The words after a call's name: one after the other, and no more

-- a word, then what comes after it
abbrev pub word_then : {A B : Type 0} → (List ℕ → Option A) → (A → List (List ℕ) → Option B) → List (List ℕ) → Option B
word_then read next [] = None
word_then read next (word ∷ rest) = then_some (read word) (λ a. next a rest)

-- the end of the words
abbrev pub no_more : {B : Type 0} → B → List (List ℕ) → Option B
no_more b [] = Some b
no_more b (word ∷ rest) = None

-- a word that may be left out
abbrev pub may_have : {A B : Type 0} → (List ℕ → Option A) → (Option A → B) → List (List ℕ) → Option B
may_have read b [] = Some (b None)
may_have read b (word ∷ rest) = then_some (read word) (λ a. no_more (b (Some a)) rest)

-- a call of one path
abbrev pub path_alone : (List ℕ → Call) → List (List ℕ) → Option Call
path_alone call = word_then path_word (λ path. no_more (call path))

-- a call of two paths
abbrev pub two_paths : (List ℕ → List ℕ → Call) → List (List ℕ) → Option Call
two_paths call = word_then path_word (λ first. word_then path_word (λ second. no_more (call first second)))

-- a mount call's flags; `rw` where they are left out
abbrev pub flags_or_plain : Version → (MountFlags → Call) → List (List ℕ) → Option Call
flags_or_plain version call = may_have (flags_word version) (λ given. call (unwrap_or given plain_flags))

-- chown with nothing to change is not of the grammar
abbrev pub chown_call : List ℕ → Option ℕ → Option ℕ → List (List ℕ) → Option Call
chown_call path None None rest = None
chown_call path None (Some gid) rest = no_more (Chown path None (Some gid)) rest
chown_call path (Some uid) gid rest = no_more (Chown path (Some uid) gid) rest

-- what `open` does where the name is missing: open(2), O_CREAT and O_EXCL
abbrev pub creation_words : List (List ℕ) → Option Creation
creation_words [] = Some NoCreation
creation_words (word ∷ rest) =
    if bytes_eq word (codes "create") then word_then mode_word (λ mode. no_more (OrCreate mode)) rest
    else if bytes_eq word (codes "excl") then word_then mode_word (λ mode. no_more (Exclusive mode)) rest
    else None

-- the words of `fork`
abbrev pub fork_words : List (List ℕ) → Option Call
fork_words [] = Some (Fork None)
fork_words (word ∷ rest) =
    word_then identity_word (λ uid. word_then identity_word (λ gid. word_then groups_word (λ groups.
    word_then capabilities_word (λ capabilities. no_more (Fork (Some (record {
      uid = uid;
      gid = gid;
      groups = groups;
      capabilities = capabilities;
    }))))))) (word ∷ rest)

-- the words of `mount`, by the kind of the filesystem
abbrev pub mount_words : Version → List ℕ → List (List ℕ) → Option Call
mount_words version kind words =
    if bytes_eq kind (codes "plain") then
    word_then path_word (λ path. flags_or_plain version (λ given. MountPlain path given)) words
    else if bytes_eq kind (codes "overlay") then
    word_then path_word (λ path. word_then bytes_word (λ options.
    flags_or_plain version (λ given. MountOverlay path (options_of options) given))) words
    else None

-- the words of a call by its name, in a version of the language

-- of the calls that came with the second version
abbrev pub second_words : Version → List ℕ → List (List ℕ) → Option Call
second_words One name words = None
second_words Two name words = if bytes_eq name (codes "pivot_root") then two_paths PivotRoot words else None

-- of these, and the calls on mounts
abbrev pub mounting_words : Version → List ℕ → List (List ℕ) → Option Call
mounting_words version name words =
    if bytes_eq name (codes "mount") then word_then bytes_word (λ kind. mount_words version kind) words
    else if bytes_eq name (codes "bind") then two_paths (λ source path. Bind source path false) words
    else if bytes_eq name (codes "rbind") then two_paths (λ source path. Bind source path true) words
    else if bytes_eq name (codes "move") then two_paths MoveMount words
    else if bytes_eq name (codes "umount") then path_alone Umount words
    else if bytes_eq name (codes "lazy") then path_alone Lazy words
    else if bytes_eq name (codes "remount") then
    word_then path_word (λ path. word_then (flags_word version) (λ given. no_more (Remount path given))) words
    else if bytes_eq name (codes "type") then
    word_then path_word (λ path. word_then type_word (λ word. no_more (SetType path word false))) words
    else if bytes_eq name (codes "rtype") then
    word_then path_word (λ path. word_then type_word (λ word. no_more (SetType path word true))) words
    else if bytes_eq name (codes "mounts") then no_more ListMounts words
    else second_words version name words

-- of these, and the calls on tasks and namespaces
abbrev pub task_words : Version → List ℕ → List (List ℕ) → Option Call
task_words version name words =
    if bytes_eq name (codes "chdir") then path_alone Chdir words
    else if bytes_eq name (codes "chroot") then path_alone Chroot words
    else if bytes_eq name (codes "umask") then word_then mode_word (λ mode. no_more (Umask mode)) words
    else if bytes_eq name (codes "drop") then word_then capabilities_word (λ which. no_more (Drop which)) words
    else if bytes_eq name (codes "fork") then fork_words words
    else if bytes_eq name (codes "exit") then no_more Exit words
    else if bytes_eq name (codes "unshare") then no_more Unshare words
    else if bytes_eq name (codes "setns") then word_then task_word (λ task. no_more (Setns task)) words
    else mounting_words version name words

-- of these, and the calls on open files
abbrev pub descriptor_words : Version → List ℕ → List (List ℕ) → Option Call
descriptor_words version name words =
    if bytes_eq name (codes "open") then
    word_then path_word (λ path. word_then access_word
    (λ access rest. option_map (OpenFile path access) (creation_words rest))) words
    else if bytes_eq name (codes "pread") then
    word_then descriptor_word (λ number.
    word_then offset_word (λ offset. word_then offset_word (λ size. no_more (Pread number offset size)))) words
    else if bytes_eq name (codes "pwrite") then
    word_then descriptor_word (λ number.
    word_then offset_word (λ offset. word_then bytes_word (λ bytes. no_more (Pwrite number offset bytes)))) words
    else if bytes_eq name (codes "close") then word_then descriptor_word (λ number. no_more (Close number)) words
    else task_words version name words

-- of these, and the calls that set attributes
abbrev pub attribute_words : Version → List ℕ → List (List ℕ) → Option Call
attribute_words version name words =
    if bytes_eq name (codes "chmod") then
    word_then path_word (λ path. word_then mode_word (λ mode. no_more (Chmod path mode))) words
    else if bytes_eq name (codes "chown") then
    word_then path_word (λ path.
    word_then kept_or_identity (λ uid. word_then kept_or_identity (λ gid. chown_call path uid gid))) words
    else if bytes_eq name (codes "opaque") then
    word_then path_word (λ path. word_then yes_or_no_word (λ mark. no_more (Opaque path mark))) words
    else descriptor_words version name words

-- of these, and the calls that make, remove and rename
abbrev pub naming_words : Version → List ℕ → List (List ℕ) → Option Call
naming_words version name words =
    if bytes_eq name (codes "mkdir") then word_then path_word (λ path. may_have mode_word (Mkdir path)) words
    else if bytes_eq name (codes "symlink") then two_paths SymlinkAt words
    else if bytes_eq name (codes "whiteout") then path_alone MakeWhiteout words
    else if bytes_eq name (codes "link") then two_paths LinkTo words
    else if bytes_eq name (codes "unlink") then path_alone Unlink words
    else if bytes_eq name (codes "rmdir") then path_alone Rmdir words
    else if bytes_eq name (codes "rename") then two_paths Rename words
    else attribute_words version name words

-- of all calls
abbrev pub call_words : Version → List ℕ → List (List ℕ) → Option Call
call_words version name words =
    if bytes_eq name (codes "ls") then path_alone Ls words
    else if bytes_eq name (codes "stat") then path_alone Stat words
    else if bytes_eq name (codes "lstat") then path_alone Lstat words
    else if bytes_eq name (codes "readlink") then path_alone Readlink words
    else if bytes_eq name (codes "read") then path_alone Read words
    else if bytes_eq name (codes "write") then
    word_then path_word (λ path. word_then bytes_word (λ bytes. no_more (Write path bytes))) words
    else if bytes_eq name (codes "exec") then path_alone Exec words
    else naming_words version name words

-- Directives stand behind a `!`

-- the tasks of `sealed`, one at least
abbrev pub some_tasks : List (List ℕ) → Option Directive
some_tasks names =
    if nat_le 1 (length names) && nat_le (length names) most_named_tasks
    then option_map AskSealed (each_of task_word names) else None

-- the words of a directive by its name
abbrev pub directive_words : List ℕ → List (List ℕ) → Option Directive
directive_words name words =
    if bytes_eq name (codes "peers") then no_more AskPeers words
    else if bytes_eq name (codes "sealed") then some_tasks words
    else None

-- Which calls and directives a grammar has, each by its name: a line with another is not of the grammar. Of the options
-- of overlays it may know some and not others: with any other a text is no list of options.
pub record Grammar : Type 0 where
  pub version : Version
  pub knows : List ℕ → Bool
  pub options : OverlayWords → Bool
  pub directs : List ℕ → Bool

-- the names of the calls on files and tasks, in one tree
abbrev pub file_call_names : List (List ℕ)
file_call_names =
    codes "ls" ∷ codes "stat" ∷ codes "lstat" ∷ codes "readlink" ∷ codes "read" ∷ codes "write" ∷ codes "exec"
    ∷ codes "mkdir" ∷ codes "symlink" ∷ codes "link" ∷ codes "unlink" ∷ codes "rmdir" ∷ codes "rename"
    ∷ codes "chmod" ∷ codes "chown" ∷ codes "open" ∷ codes "pread" ∷ codes "pwrite" ∷ codes "close"
    ∷ codes "umask" ∷ codes "drop" ∷ codes "fork" ∷ codes "exit" ∷ []

-- the names of the calls on mounts, and on the places and namespaces of tasks
abbrev pub mounting_call_names : List (List ℕ)
mounting_call_names =
    codes "mount" ∷ codes "bind" ∷ codes "rbind" ∷ codes "move" ∷ codes "umount" ∷ codes "lazy" ∷ codes "remount"
    ∷ codes "type" ∷ codes "rtype" ∷ codes "mounts" ∷ codes "chdir" ∷ codes "chroot" ∷ codes "unshare"
    ∷ codes "setns" ∷ []

-- options without `upperdir`
abbrev pub names_no_upper : OverlayWords → Bool
names_no_upper words = not (is_some words.upper)

-- the names of the calls that make what hides lower layers: overlayfs, the kernel's document, "whiteouts and opaque
-- directories"
abbrev pub marking_call_names : List (List ℕ)
marking_call_names = codes "whiteout" ∷ codes "opaque" ∷ []

-- the name of the call that exchanges root mounts: pivot_root(2). The first version has no words for it
abbrev pub pivoting_call_names : List (List ℕ)
pivoting_call_names = codes "pivot_root" ∷ []

-- the calls on files, tasks, mounts and namespaces, those that make whiteouts and opaque directories, overlays without
-- an upper layer, and the directives, which the product has today, in a version of the language: the second has the flag
-- nosymfollow and pivot_root too
abbrev pub overlays : Version → Grammar
overlays version = record {
  version = version;
  knows = λ name. list_any (bytes_eq name)
      (file_call_names ++ mounting_call_names ++ marking_call_names ++ pivoting_call_names);
  options = names_no_upper;
  directs = λ name. true;
}

-- the whole language
abbrev pub whole : Version → Grammar
whole version = record {
  version = version;
  knows = λ name. true;
  options = λ words. true;
  directs = λ name. true;
}

-- whose line it is: a task's, or nobody's
pub data Who : Type 0 where
  Someone : (task : TaskName) → Who
  Nobody : Who

-- a line of the grammar: a task's call, or a directive
pub data Request : Type 0 where
  Calling : (task : TaskName) → (call : Call) → Request
  Asking : (directive : Directive) → Request

-- whose line it is, by its first token
abbrev pub who_of : List ℕ → Option Who
who_of token = if bytes_eq token (codes "!") then Some Nobody else option_map Someone (task_word token)

-- the options of an overlay, if a grammar knows them
abbrev pub known_options : (OverlayWords → Bool) → Option OverlayWords → Option OverlayWords
known_options known options = then_some options (λ words. when (known words) words)

-- a call as a grammar reads it that knows these options of overlays
abbrev pub call_read : (OverlayWords → Bool) → Call → Call
call_read known (MountOverlay path options given) = MountOverlay path (known_options known options) given
call_read known call = call

-- the call that the words after a task's name ask for
abbrev pub call_asked : Grammar → TaskName → List (List ℕ) → Option Request
call_asked grammar task [] = None
call_asked grammar task (name ∷ words) =
    if grammar.knows name then
    option_map (Calling task) (option_map (call_read grammar.options) (call_words grammar.version name words))
    else None

-- the directive that the words after `!` ask for
abbrev pub directive_asked : Grammar → List (List ℕ) → Option Request
directive_asked grammar [] = None
directive_asked grammar (name ∷ words) =
    if grammar.directs name then option_map Asking (directive_words name words) else None

-- what the words after the first token ask for
abbrev pub asked_by : Grammar → Option Who → List (List ℕ) → Option Request
asked_by grammar None words = None
asked_by grammar (Some (Someone task)) words = call_asked grammar task words
asked_by grammar (Some Nobody) words = directive_asked grammar words

-- what a line's tokens ask for
abbrev pub request_of_texts : Grammar → List (List ℕ) → Option Request
request_of_texts grammar [] = None
request_of_texts grammar (first ∷ words) = asked_by grammar (who_of first) words

-- what a line asks for, if it is of the grammar
unfoldable pub request_of : Grammar → List ℕ → Option Request
request_of grammar line = then_some (each_of token_text (raw_tokens line)) (request_of_texts grammar)
