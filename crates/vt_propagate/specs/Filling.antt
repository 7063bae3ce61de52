-- How many mounts a namespace has.
use Rattle.std.specs.Prelude.{All, Bool, Contains, List, Option, count_by}
use Rattle.std.specs.Prelude.{if◌then◌else◌, nat_eq, nat_lt, option_map, false, ℕ, ◌*◌, ◌+◌, ◌-◌, ◌≡◌}
use Rattle.vt_spec.specs.Language.Limits.{most_mounts}
use Rattle.vt_spec.specs.Lists.{any_pair, holds_of}
use Rattle.vt_spec.specs.Machine.Mounts as meant
use Rattle.vt_spec.specs.Machine.World.{World}
use Rattle.vt_location.specs.declared.mounts.Mount.{Mount}
use Rattle.vt_location.specs.declared.numbers.NamespaceId.{NamespaceId}
use Rattle.vt_location.specs.Numbers.{counted}
use Rattle.vt_propagate.specs.declared.filling.Load.{Load}
use Rattle.vt_mount.specs.Indexes.{same_namespace, is_in as is_part_in}
pub use Rattle.vt_laws_mounts.specs.Mounts.Ending.{count_in}

abbrev pub parts_in : List Mount → NamespaceId → ℕ
parts_in parts namespace = count_by (is_part_in namespace) parts

-- how many mounts leave a namespace
abbrev pub leaving : Load → NamespaceId → ℕ
leaving load namespace = if holds_of (same_namespace namespace) load.leaves then load.count else 0

-- a namespace has too many mounts once some leave it and it gets so many at each of its parts
abbrev pub is_overfilled : List (meant.Mount ℕ) → Load → (NamespaceId → ℕ) → Option NamespaceId → Bool
is_overfilled mounts load parts namespace =
    holds_of (λ one. nat_lt most_mounts
    (count_in mounts (counted one.count) - leaving load one + parts one * load.count)) namespace

-- these are mounts of the world, each once, all of one namespace, or all of none
pub record MovesFrom (world : World ℕ) (namespace : Option NamespaceId) (tree : List (meant.Mount ℕ)) : Type 0 where
  pub there : All (Contains world.mounts) tree
  pub inside : All (λ mount. mount.namespace ≡ option_map (λ one. counted one.count) namespace) tree
  pub one_number : any_pair (λ a b. nat_eq a.number b.number) world.mounts ≡ false
  pub each_once : any_pair (λ a b. nat_eq a.number b.number) tree ≡ false

-- a world that has so many more mounts in the namespace of each of these mounts, for each of them
pub record GrowsBy (world after : World ℕ) (parts : List (meant.Mount ℕ)) (count : ℕ) : Type 0 where
  pub there : All (Contains world.mounts) parts
  pub namespaces : after.namespaces ≡ world.namespaces
  pub counts : (namespace : ℕ)
      → count_in after.mounts namespace ≡ count_in world.mounts namespace + count_in parts namespace * count
