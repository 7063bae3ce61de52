-- Mounts, filesystems and groups may go before the sweep.
use Rattle.std.proofs.Common.{arith, ◌≡◌, ap, ◌∙◌, ℕ, nat_eq, Bool, false, not, ◌||◌, ◌&&◌, filter}
use Rattle.vt_spec.proofs.Common.{Filesystem, World, common_steps, filesystem_lives, has_layer_on, is_mounted, mount_lives, or_false_right, or_parts, without_dead_groups, without_dead_inodes, without_dead_mounts}
use Rattle.vt_spec.proofs.Lists.{none-filter}
use Rattle.vt_laws_mounts.specs.LettingGo.OneByOne.{let_go_filesystem}
use Rattle.vt_laws_mounts.proofs.letting_go.Lists.{any-filter, filter_less, none_among, none_from_among}
use Rattle.vt_laws_worlds.specs.Seen.SweptBefore.{FilesystemsMayGoBefore, GroupsMayGoBefore, MountsMayGoBefore}

pub mounts_may_go_before : MountsMayGoBefore
mounts_may_go_before world number = cc (filter_less (mount_lives nat_eq world)
    (λ mount. not (nat_eq mount.number number) || mount_lives nat_eq world mount) world.mounts
    (λ mount m e. or_false_right (not (nat_eq mount.number number)) (mount_lives nat_eq world mount) e))

-- a filesystem that is not in use before mounts go is not in use then
module _ (world : World ℕ) (number : ℕ) where
  abbrev mounted : World ℕ
  mounted = without_dead_mounts nat_eq world

  mounted_before : (filesystem : ℕ) → is_mounted nat_eq world filesystem ≡ false
      → is_mounted nat_eq mounted filesystem ≡ false
  mounted_before filesystem e =
      none-filter (λ mount. nat_eq filesystem mount.filesystem) (mount_lives nat_eq world) world.mounts e

  abbrev layered : World ℕ → ℕ → Filesystem ℕ → Bool
  layered w on merged = has_layer_on nat_eq on merged && is_mounted nat_eq w merged.number

  less : (on : ℕ) (merged : Filesystem ℕ) → layered world on merged ≡ false → layered mounted on merged ≡ false
  less on merged = grind (arith, common_steps, mounted_before)

  abbrev stays : Filesystem ℕ → Bool
  stays filesystem = not (nat_eq filesystem.number number) || filesystem_lives nat_eq world filesystem

  not_mounted : (filesystem : Filesystem ℕ) → stays filesystem ≡ false
      → is_mounted nat_eq mounted filesystem.number ≡ false
  not_mounted filesystem e = mounted_before _ (or_parts _ _ (or_false_right _ _ e)).0

  not_layering : (on : ℕ) (filesystem : Filesystem ℕ) → stays filesystem ≡ false → layered mounted on filesystem ≡ false
  not_layering on filesystem e = grind (arith, common_steps, not_mounted)

  abbrev left : World ℕ
  left = without_dead_mounts nat_eq (let_go_filesystem world number)

  same_lives : (filesystem : Filesystem ℕ) → filesystem_lives nat_eq left filesystem
      ≡ filesystem_lives nat_eq mounted filesystem
  same_lives filesystem = cc (any-filter (layered mounted filesystem.number) stays world.filesystems
      (λ g m e. not_layering filesystem.number g e))

  -- what is let go is not in use then
  dead : (filesystem : Filesystem ℕ) → stays filesystem ≡ false → filesystem_lives nat_eq mounted filesystem ≡ false
  dead filesystem e = grind
      (arith, common_steps, or_parts, or_false_right, mounted_before, none_from_among, less, none_among)

pub filesystems_may_go_before : FilesystemsMayGoBefore
filesystems_may_go_before world number =
    ap (λ filesystems. without_dead_groups nat_eq (without_dead_inodes nat_eq (record
    (without_dead_mounts nat_eq world) { filesystems = filesystems })))
    ((λ i. filter (λ filesystem. same_lives world number filesystem i) (filter (stays world number) world.filesystems))
    ∙ filter_less (filesystem_lives nat_eq (without_dead_mounts nat_eq world)) (stays world number) world.filesystems
    (λ filesystem m e. dead world number filesystem e))

-- a group without members has none when mounts go
pub groups_may_go_before : GroupsMayGoBefore
groups_may_go_before world group = grind (arith, common_steps, none-filter)
