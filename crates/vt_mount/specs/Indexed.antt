-- Mounts, and what lists them.
use Rattle.std.specs.Prelude.{Bool, List, filter, map, true, ◌≡◌}
use Rattle.std.specs.List.{list_all}
use Rattle.vt_location.specs.Numbers.{same_id}
use Rattle.vt_location.specs.declared.locations.Location.{Location}
use Rattle.vt_location.specs.declared.mounts.Mount.{Mount}
use Rattle.vt_location.specs.declared.numbers.MountId.{MountId}
use Rattle.vt_location.specs.declared.numbers.NamespaceId.{NamespaceId}
use Rattle.vt_mount.specs.declared.indexes.Indexes.{Indexes}
use Rattle.vt_mount.specs.declared.mounted.Mounted.{Mounted}
use Rattle.vt_mount.specs.Indexes.{count_at, has_small_point, is_at, is_in, is_on, listed_in, listed_on}
use Rattle.vt_mount.specs.Listed.{count_of}
use Rattle.vt_mount.specs.MountsValue.{mount_kept}

-- the numbers of the mounts that pass a test
abbrev pub numbers_where : (Mount → Bool) → List (MountId × Mounted) → List MountId
numbers_where test kept = map (λ one. one.0) (filter (λ one. test (mount_kept one.0 one.1)) kept)

abbrev pub is_kept_small : MountId × Mounted → Bool
is_kept_small one = has_small_point (mount_kept one.0 one.1)

-- each list has the mounts that it is for: in the order of their numbers, or as often as they stand there
pub record IsIndexed (indexes : Indexes) (kept : List (MountId × Mounted)) : Type 0 where
  pub namespace : (q : NamespaceId) → listed_in indexes q ≡ numbers_where (is_in q) kept
  pub parent : (q : MountId) → listed_on indexes q ≡ numbers_where (is_on q) kept
  pub place : (q : Location) (mount : MountId)
      → count_at indexes q mount ≡ count_of (same_id mount) (numbers_where (is_at q) kept)
  pub slots : list_all is_kept_small kept ≡ true
