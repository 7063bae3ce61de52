-- Mounts that leave their groups one after another, and what the slaves of a group that ends become.
use Rattle.std.specs.Prelude.{All, List, Option, Some, if◌then◌else◌, map, nat_eq, ℕ, ◌≡◌}
use Rattle.vt_spec.specs.Lists.{is_among}
use Rattle.vt_spec.specs.Machine.Mounts.{source_of}
use Rattle.vt_group.specs.Grouping.{Grouping, propagation_in}
use Rattle.vt_group.specs.Leaving.{lone_group, type_after_end, type_once_ended}
use Rattle.vt_mount.specs.MountsValue.{MountEntry}
use Rattle.vt_retype.specs.Retyping.{retyped, typed_entry}

-- each mount that is a member or a slave is so in the groups
abbrev pub HaveSources : Grouping → List MountEntry → Type 0
HaveSources groups entries =
    All (λ entry. (group : ℕ) → source_of entry.mount.propagation ≡ Some group
    → source_of (propagation_in groups entry.mount.number) ≡ Some group) entries

-- Only types change, and none of an unbindable mount or to unbindable.
abbrev pub OnlyTypesChange : List MountEntry → List MountEntry → Type 0
OnlyTypesChange old new = (groups : Grouping) → map (typed_entry groups) new ≡ map (typed_entry groups) old

-- a mount after this group ended, which had this master, if any
abbrev pub after_end : ℕ → Option ℕ → MountEntry → MountEntry
after_end lost heir entry = retyped (λ number kind. type_after_end lost heir kind) entry

-- and if it is one of these
abbrev pub after_end_of : List ℕ → ℕ → Option ℕ → MountEntry → MountEntry
after_end_of numbers lost heir entry =
    if is_among nat_eq entry.mount.number numbers then after_end lost heir entry else entry

-- a mount once another is in no group: the group of that one may have ended
abbrev pub once_left : Grouping → ℕ → MountEntry → MountEntry
once_left groups mount entry = retyped (λ number kind. type_once_ended groups (lone_group groups mount) kind) entry
