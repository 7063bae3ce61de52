-- What the definitions see of what a world shows to code.
use Rattle.std.specs.Prelude.{Bool, List, Option, Some, false, nat_eq, option_map, true, unwrap_or, ℕ, ◌≡◌}
use Rattle.std.specs.List.{list_any}
use Rattle.vt_spec.specs.Machine.Filesystems.{lies_only_in_lowers}
use Rattle.vt_spec.specs.Machine.Locked.{overlay_or}
use Rattle.vt_spec.specs.Machine.Looks.{Looks, is_directory_at, topmost}
use Rattle.vt_spec.specs.Machine.Walking.{is_lost}
use Rattle.vt_spec.specs.Machine.Mounts as meant
use Rattle.vt_spec.specs.Machine.Mounts.{no_mount}
use Rattle.vt_spec.specs.Tree.{Node, bytes_of, kind_of}
use Rattle.vt_spec.specs.declared.attributes.Attr.{Attr}
use Rattle.vt_spec.specs.declared.attributes.Kind.{Kind}
use Rattle.vt_location.specs.declared.mounts.Mount.{Mount}
use Rattle.vt_location.specs.declared.numbers.MountId.{MountId}
use Rattle.vt_location.specs.MountValue.{mount_of}
use Rattle.vt_location.specs.Numbers.{counted}
use Rattle.vt_looks.specs.declared.look.Ground.{Ground}

-- the mount of a number, or the value of a number that no mount has
abbrev pub mount_seen : MountId → Option Mount → meant.Mount ℕ
mount_seen id mount = unwrap_or (option_map mount_of mount) (no_mount (counted id.count))

-- what a walk keeps of a mount: its filesystem; and where it is bare, no mount is over a location on it
pub record IsGround (looks : Looks ℕ) (mount : MountId) (ground : Ground) : Type 0 where
  pub filesystem : counted ground.filesystem.count ≡ (looks.mount (counted mount.count)).filesystem
  pub bare : ground.is_bare ≡ true → (at : meant.Location ℕ) → at.mount ≡ counted mount.count → topmost looks at ≡ at

-- the second mount is the first, or a descendant of it
abbrev pub is_at_or_below : Looks ℕ → ℕ → ℕ → Bool
is_at_or_below looks top mount = list_any (λ other. nat_eq other.number mount) (looks.mount_tree top)

-- a directory at the second location is not lost, if that at the first is not: `..` of it leads somewhere
abbrev pub StaysFound : Looks ℕ → meant.Location ℕ → meant.Location ℕ → Type 0
StaysFound looks here there =
    is_lost nat_eq looks here ≡ false → is_directory_at looks there ≡ true → is_lost nat_eq looks there ≡ false

-- of an overlay, what is there lies only in lower layers
abbrev pub is_only_below : Looks ℕ → meant.Location ℕ → Bool
is_only_below looks at = overlay_or false (λ overlay. lies_only_in_lowers overlay at.node) (looks.overlay at)
