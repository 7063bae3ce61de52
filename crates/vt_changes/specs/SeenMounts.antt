-- What a change number tells of the mounts of a namespace.
use Rattle.std.specs.Prelude.{Bool, List, Option, [], map, nat_eq, option_map, unwrap_or, ℕ, ◌&&◌}
use Rattle.std.specs.Map.{lookup}
use Rattle.std.specs.declared.vec.Vec.{Vec}
use Rattle.vt_spec.specs.Language.Calls.{MountFlags}
use Rattle.vt_spec.specs.Lists.{same_list, same_option}
use Rattle.vt_spec.specs.Machine.Mounts.{Location, Mount, Propagation, same_location}
use Rattle.vt_spec.specs.Machine.Policy.{master_above, same_flags, same_propagation}
use Rattle.vt_spec.specs.Machine.World.{World, mounts_of}
use Rattle.vt_cred.specs.MountFlags.{flags_of}
use Rattle.vt_location.specs.declared.numbers.NamespaceId.{NamespaceId}
use Rattle.vt_location.specs.Locations.{location_of}
use Rattle.vt_location.specs.MountValue.{propagation_of}
use Rattle.vt_location.specs.Numbers.{group_number, mount_number}
use Rattle.vt_changes.specs.declared.mounts.Seen.{Seen}
use Rattle.vt_changes.specs.Kept.{is_namespace}

-- of a mount: its number, mount point, flags, type, and the master of its group
pub record SeenMount : Type 0 where
  pub number : ℕ
  pub point : Option (Location ℕ)
  pub flags : MountFlags
  pub kind : Propagation ℕ
  pub master : Option ℕ

-- in a world
abbrev pub seen_in : World ℕ → Mount ℕ → SeenMount
seen_in world mount = record {
  number = mount.number;
  point = mount.mount_point;
  flags = mount.flags;
  kind = mount.propagation;
  master = master_above world mount;
}

-- and as it is kept
abbrev pub seen_of : Seen → SeenMount
seen_of seen = record {
  number = mount_number seen.number;
  point = option_map location_of seen.point;
  flags = flags_of seen.flags;
  kind = propagation_of seen.kind;
  master = option_map group_number seen.master;
}

abbrev pub same_seen : SeenMount → SeenMount → Bool
same_seen a b =
    nat_eq a.number b.number && same_option (same_location nat_eq) a.point b.point && same_flags a.flags b.flags
    && same_propagation nat_eq a.kind b.kind && same_option nat_eq a.master b.master

-- all mounts of a namespace
abbrev pub mounts_seen : World ℕ → ℕ → List SeenMount
mounts_seen world namespace = map (seen_in world) (mounts_of nat_eq world namespace)

-- they are the same
abbrev pub same_all : List SeenMount → List SeenMount → Bool
same_all before after = same_list same_seen before after

-- the mounts of a namespace as they are kept, and those of all namespaces
abbrev pub list_kept : {A : Type 0} → Option (Vec Seen A) → List SeenMount
list_kept list = unwrap_or (option_map (λ kept. map seen_of kept.items) list) []

abbrev pub mounts_kept : {A : Type 0} → List (NamespaceId × Vec Seen A) → ℕ → List SeenMount
mounts_kept entries namespace = list_kept (lookup (is_namespace namespace) entries)
