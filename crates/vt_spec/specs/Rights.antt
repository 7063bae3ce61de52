-- Who may do what to an object: path_resolution(7), "Permissions", and capabilities(7).
use Rattle.std.specs.Prelude.{ℕ, ◌+◌, ◌-◌, ◌/◌, ◌%◌, ◌==◌, Bool, true, false, not, ◌&&◌, ◌||◌, List, if◌then◌else◌, bit_and}
use Rattle.std.specs.List.{list_any}
use Rattle.vt_spec.specs.declared.attributes.Kind.{Kind}
use Rattle.vt_spec.specs.declared.attributes.Kind.TheVariants.{Dir, File, Symlink, White}
use Rattle.vt_spec.specs.declared.attributes.Attr.{Attr}

-- what a task acts as: credentials(7). Capabilities are a set of bits, as in capget(2)
pub record Credentials : Type 0 where
  pub uid : ℕ
  pub gid : ℕ
  pub groups : List ℕ
  pub capabilities : ℕ

-- the set has all of the wanted bits
abbrev pub has_all : ℕ → ℕ → Bool
has_all set wanted = bit_and set wanted == wanted

-- the rights of a request, by their bits in a class of a mode: inode(7)

-- read; of a directory: list its names
abbrev pub read_right : ℕ
read_right = 4

-- write; of a directory: make, remove and rename in it
abbrev pub write_right : ℕ
write_right = 2

-- execute; of a directory: search
abbrev pub execute_right : ℕ
execute_right = 1

-- the capabilities of this profile, by the profile's bits: capabilities(7)

-- CAP_CHOWN: give any owner and group
abbrev pub cap_chown : ℕ
cap_chown = 1

-- CAP_DAC_OVERRIDE: the mode is not checked, but for execute of a file without an execute bit
abbrev pub cap_dac_override : ℕ
cap_dac_override = 2

-- CAP_DAC_READ_SEARCH: read files, and read and search directories, without regard to the mode
abbrev pub cap_dac_read_search : ℕ
cap_dac_read_search = 4

-- CAP_FOWNER: count as the owner
abbrev pub cap_fowner : ℕ
cap_fowner = 8

-- CAP_SETGID: another gid, other supplementary groups
abbrev pub cap_setgid : ℕ
cap_setgid = 16

-- CAP_SETUID: another uid
abbrev pub cap_setuid : ℕ
cap_setuid = 32

-- CAP_SYS_CHROOT: chroot(2), setns(2)
abbrev pub cap_sys_chroot : ℕ
cap_sys_chroot = 64

-- CAP_SYS_ADMIN: mount(2), umount(2), pivot_root(2), unshare(2), setns(2), trusted.overlay.opaque
abbrev pub cap_sys_admin : ℕ
cap_sys_admin = 128

-- all of them
abbrev pub all_capabilities : ℕ
all_capabilities = 255

-- the capabilities of a set that are not dropped
abbrev pub without : ℕ → ℕ → ℕ
without held dropped = bit_and held (all_capabilities - dropped)

-- the three classes of a mode: inode(7)

-- the owner's
abbrev pub owner_bits : ℕ → ℕ
owner_bits mode = mode / 64 % 8

-- the group's
abbrev pub group_bits : ℕ → ℕ
group_bits mode = mode / 8 % 8

-- the others'
abbrev pub other_bits : ℕ → ℕ
other_bits mode = mode % 8

-- the sticky bit: inode(7)
abbrev pub is_sticky : ℕ → Bool
is_sticky mode = mode / 512 % 2 == 1

-- the group is the task's own, or one of its supplementary groups
abbrev pub is_member : Credentials → ℕ → Bool
is_member who gid = who.gid == gid || list_any (λ g. g == gid) who.groups

-- the bits of the one class that counts for the caller: path_resolution(7)
abbrev pub class_bits : Credentials → Attr → ℕ
class_bits who attr =
    if who.uid == attr.uid then owner_bits attr.mode
    else if is_member who attr.gid then group_bits attr.mode
    else other_bits attr.mode

-- the kind of a directory
abbrev pub is_directory : Kind → Bool
is_directory Dir = true
is_directory File = false
is_directory Symlink = false
is_directory White = false

-- one of the three execute bits is set
abbrev pub has_execute_bit : ℕ → Bool
has_execute_bit mode =
    has_all (owner_bits mode) execute_right || has_all (group_bits mode) execute_right
    || has_all (other_bits mode) execute_right

-- CAP_DAC_OVERRIDE grants everything but execute of a non-directory without an execute bit: capabilities(7)
abbrev pub override_grants : Attr → Kind → ℕ → Bool
override_grants attr kind wanted =
    is_directory kind || not (has_all wanted execute_right) || has_execute_bit attr.mode

-- CAP_DAC_READ_SEARCH grants read and search of directories, and read of files: capabilities(7)
abbrev pub read_search_grants : Kind → ℕ → Bool
read_search_grants kind wanted =
    if is_directory kind then has_all (read_right + execute_right) wanted else has_all read_right wanted

-- whether the caller has all of the wanted rights on an object, asked as one request: path_resolution(7)
abbrev pub allows : Credentials → Attr → Kind → ℕ → Bool
allows who attr kind wanted =
    has_all (class_bits who attr) wanted
    || (has_all who.capabilities cap_dac_override && override_grants attr kind wanted)
    || (has_all who.capabilities cap_dac_read_search && read_search_grants kind wanted)

-- whether the caller counts as the owner: chmod(2), capabilities(7) at CAP_FOWNER
abbrev pub owns : Credentials → Attr → Bool
owns who attr = who.uid == attr.uid || has_all who.capabilities cap_fowner

-- whether the sticky bit of the directory lets the caller remove or replace the object: unlink(2), EPERM
abbrev pub may_delete_sticky : Credentials → Attr → Attr → Bool
may_delete_sticky who directory object =
    not (is_sticky directory.mode) || who.uid == object.uid || who.uid == directory.uid
    || has_all who.capabilities cap_fowner

-- the mode of a new object: the mode asked for, without the bits of the umask: umask(2)
abbrev pub masked : ℕ → ℕ → ℕ
masked umask mode = bit_and mode (1023 - umask)
