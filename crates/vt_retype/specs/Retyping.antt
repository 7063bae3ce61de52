-- Mounts that change with their groups.
use Rattle.std.specs.Prelude.{All, List, None, false, if◌then◌else◌, map, nat_eq, true, ℕ, ◌≡◌}
use Rattle.vt_spec.specs.Lists.{is_among}
use Rattle.vt_spec.specs.Machine.Mounts.{Propagation, source_of}
use Rattle.vt_group.specs.Grouping.{Grouping, propagation_in}
use Rattle.vt_group.specs.Laws.{typed_by}
use Rattle.vt_group.specs.Together.{is_ordered}
use Rattle.vt_mount.specs.MountsValue.{MountEntry, changed}

-- a mount with the type that a function gives for its number and its type
abbrev pub retyped : (ℕ → Propagation ℕ → Propagation ℕ) → MountEntry → MountEntry
retyped seen entry =
    record entry { mount = record entry.mount { propagation = seen entry.mount.number entry.mount.propagation } }

-- a mount that is kept, with the type that the groups tell; an unbindable one stays so
abbrev pub typed_entry : Grouping → MountEntry → MountEntry
typed_entry groups entry = record entry { mount = typed_by groups entry.mount }

-- each mount has the type that the groups tell
abbrev pub AreTyped : Grouping → List MountEntry → Type 0
AreTyped groups entries = All (λ entry. typed_by groups entry.mount ≡ entry.mount) entries

-- and each but these
abbrev pub AreTypedBut : Grouping → List ℕ → List MountEntry → Type 0
AreTypedBut groups numbers entries =
    All (λ entry. is_among nat_eq entry.mount.number numbers ≡ false → typed_entry groups entry ≡ entry) entries

-- If each mount but these had the type that the groups told, each has the type that they tell now.
abbrev pub FollowsTypes : Grouping → Grouping → List ℕ → List MountEntry → List MountEntry → Type 0
FollowsTypes before now numbers old new = AreTypedBut before numbers old → new ≡ map (typed_entry now) old

-- these mounts are private or unbindable
abbrev pub HaveNoSource : List ℕ → List MountEntry → Type 0
HaveNoSource numbers entries =
    All (λ entry. is_among nat_eq entry.mount.number numbers ≡ true → source_of entry.mount.propagation ≡ None) entries

-- So it is where these mounts were detached, or have become private or unbindable.
abbrev pub FollowsTypesLeft : Grouping → Grouping → List ℕ → List MountEntry → List MountEntry → Type 0
FollowsTypesLeft before now numbers old new =
    is_ordered before ≡ true → HaveNoSource numbers old → FollowsTypes before now numbers old new

-- If each mount had the type that the groups told, each that is left has the type that they tell now.
abbrev pub FollowTypes : Grouping → List MountEntry → Grouping → List MountEntry → List MountEntry → Type 0
FollowTypes before old now left new = is_ordered before ≡ true → AreTyped before old → new ≡ map (typed_entry now) left

-- one mount with another type
abbrev pub with_kind : Propagation ℕ → MountEntry → MountEntry
with_kind kind entry = record entry { mount = record entry.mount { propagation = kind } }

-- one of these mounts with the type that the groups tell, also if it was unbindable
abbrev pub shared_by : Grouping → List ℕ → MountEntry → MountEntry
shared_by groups numbers entry =
    if is_among nat_eq entry.mount.number numbers then with_kind (propagation_in groups entry.mount.number) entry
    else entry

-- the mounts, one of them with this type
abbrev pub with_type_in : List MountEntry → ℕ × Propagation ℕ → List MountEntry
with_type_in entries new = changed new.0 (with_kind new.1) entries
