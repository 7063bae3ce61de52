-- The numbers by which the definitions know what code counts, and inodes in their slots. Mounts, peer groups,
-- filesystems and namespaces have odd numbers, inodes even ones; no number `4·c + 3` is given out.
use Rattle.std.specs.Prelude.{Bool, if◌then◌else◌, nat_eq, nat_lt, not, ℕ, ◌&&◌, ◌*◌, ◌+◌, ◌-◌, ◌/◌}
use Rattle.vt_location.specs.declared.numbers.FilesystemId.{FilesystemId}
use Rattle.vt_location.specs.declared.numbers.GroupId.{GroupId}
use Rattle.vt_location.specs.declared.numbers.MountId.{MountId}
use Rattle.vt_location.specs.declared.numbers.NamespaceId.{NamespaceId}

-- the largest count of uses, mounts or writers: one more is refused
abbrev pub most_counted : ℕ
most_counted = 18446744073709551615

-- the number of the mount, peer group, filesystem or namespace with this count
abbrev pub counted : ℕ → ℕ
counted count = 4 * count + 1

-- of a mount, a peer group, a filesystem, a mount namespace
abbrev pub mount_number : MountId → ℕ
mount_number mount = counted mount.count

-- two numbers of mounts are one
abbrev pub same_id : MountId → MountId → Bool
same_id a b = nat_eq a.count b.count

abbrev pub group_number : GroupId → ℕ
group_number group = counted group.count

abbrev pub filesystem_number : FilesystemId → ℕ
filesystem_number filesystem = counted filesystem.count

abbrev pub namespace_number : NamespaceId → ℕ
namespace_number namespace = counted namespace.count

-- a number that is never given out
abbrev pub left_over : ℕ → ℕ
left_over count = 4 * count + 3

-- the number of the inode in a slot of a filesystem; slots are below 2^64
abbrev pub inode_number : ℕ → ℕ → ℕ
inode_number filesystem slot = 2 * (slot + 18446744073709551616 * (filesystem + 1))

-- the number is one of an inode of this filesystem
abbrev pub is_inode_of : ℕ → ℕ → Bool
is_inode_of filesystem number =
    not (nat_lt number (inode_number filesystem 0)) && nat_lt number (inode_number (filesystem + 1) 0)
    && nat_eq (2 * (number / 2)) number

-- so it is, and the filesystem's count is one that code has, below 2^64
abbrev pub is_own_number : ℕ → ℕ → Bool
is_own_number filesystem number = nat_lt filesystem 18446744073709551616 && is_inode_of filesystem number

-- Exchanges each slot with the number of its inode, and keeps all other numbers; it is its own inverse.
abbrev pub exchanged : ℕ → ℕ → ℕ
exchanged filesystem number =
    if nat_lt number 18446744073709551616 then inode_number filesystem number
    else if is_inode_of filesystem number then number / 2 - 18446744073709551616 * (filesystem + 1)
    else number
