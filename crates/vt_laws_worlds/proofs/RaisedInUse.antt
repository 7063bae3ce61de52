-- What is in use does not go by change numbers, so raising them keeps all invariants.
use Rattle.std.proofs.Common.{arith, ◌≡◌, refl, sym, ap, subst, ◌∙◌, ℕ, nat_eq, true, cond, List, ◌∷◌, ◌++◌, ◌||◌, ◌&&◌, map, is_some, filter, filter_map}
use Rattle.vt_spec.proofs.Common.{All-map, All-weaker, Filesystem, IsWorld, Layer, Location, Mount, Namespace, Task, TaskName, World, all-map, all_locations, common_steps, filesystem_lives, has_layer_on, is_mounted, list_all, list_any, mount_at, numbers_raised, raised, raised_if_changed, raised_namespace, raised_task, root_of, same_mounts_in, same_name, settled, used_in}
use Rattle.vt_laws_mounts.specs.LettingGo.InUse.{AllInUse, is_inode_used}
use Rattle.vt_laws_mounts.proofs.letting_go.sweeps.InUse.{nothing_goes}
use Rattle.vt_laws_mounts.proofs.letting_go.Lists.{any-map, flat_map-map}
use Rattle.vt_laws_worlds.specs.Worlds.Kept.{IsPlain, IsWorldButForUse}
use Rattle.vt_laws_worlds.proofs.Plain.{plain_overlays}
use Rattle.vt_laws_worlds.proofs.Raised.{counted, unsettled_counted}
pub use Rattle.vt_laws_mounts.proofs.letting_go.sweeps.OfWorlds.{all_in_use}

-- the invariants of a world are those while a call is under way, and that nothing goes
pub unsettled_of : (world : World ℕ) → IsWorld nat_eq world → IsPlain world → IsWorldButForUse world
unsettled_of world is plain = grind (arith, common_steps)

pub world_of : (world : World ℕ) → IsWorldButForUse world → settled nat_eq world ≡ world → IsWorld nat_eq world
world_of world is nothing = record {
  files = is.files;
  overlays = plain_overlays world is.plain;
  mounts = is.mounts;
  namespaces = is.namespaces;
  tasks = is.tasks;
  roots = is.roots;
  nothing_unused = nothing;
}

module _ (of_filesystem : Filesystem ℕ → ℕ) (of_namespace : Namespace ℕ → ℕ) (of_task : Task ℕ → ℕ) (change : ℕ)
    (world : World ℕ) where
  abbrev later : World ℕ
  later = counted of_filesystem of_namespace of_task change world

  abbrev filesystem_later : Filesystem ℕ → Filesystem ℕ
  filesystem_later filesystem = record filesystem { change = of_filesystem filesystem }

  abbrev task_later : Task ℕ → Task ℕ
  task_later task = record task { change = of_task task }

  locations_later : all_locations later ≡ all_locations world
  locations_later = flat_map-map task_later
      (λ task. task.root ∷ task.directory ∷ map (λ descriptor. descriptor.location) task.descriptors) world.tasks
      (λ task. refl)

  abbrev located_by : List (Location ℕ) → ℕ → List ℕ
  located_by locations filesystem = map (λ location. location.node)
      (filter (λ location. nat_eq filesystem (mount_at nat_eq world location).filesystem)
      (locations ++ map root_of world.mounts ++ filter_map (λ mount. mount.mount_point) world.mounts))

  abbrev layers_by : List (Layer ℕ) → ℕ → List ℕ
  layers_by layers filesystem = map (λ layer. layer.directory)
      (filter (λ layer. nat_eq filesystem layer.filesystem) layers)

  used_later : (filesystem : Filesystem ℕ) → used_in nat_eq later (filesystem_later filesystem)
      ≡ used_in nat_eq world filesystem
  used_later filesystem = grind (arith, common_steps, locations_later, flat_map-map)

  lives_later : (filesystem : Filesystem ℕ) → filesystem_lives nat_eq later (filesystem_later filesystem)
      ≡ filesystem_lives nat_eq world filesystem
  lives_later filesystem = cc (any-map (λ merged. has_layer_on nat_eq filesystem.number merged && is_mounted nat_eq
      world merged.number) filesystem_later world.filesystems (λ f. refl))

  pub in_use_later : AllInUse world → AllInUse later
  in_use_later is = record {
    mounts = ap (λ locations. list_all (λ (mount : Mount ℕ). is_some mount.namespace
        || list_any (λ (l : Location ℕ). nat_eq mount.number l.mount) locations) world.mounts) locations_later
        ∙ is.mounts;
    filesystems = all-map (filesystem_lives nat_eq later) filesystem_later
        (λ f e. lives_later f ∙ e) world.filesystems is.filesystems;
    inodes = All-map (λ f. list_all (is_inode_used later f) f.files.numbers ≡ true) filesystem_later world.filesystems
        (All-weaker (λ f. list_all (is_inode_used world f) f.files.numbers ≡ true)
        (λ f. list_all (is_inode_used later (filesystem_later f)) f.files.numbers ≡ true)
        (λ f e. ap (λ used. list_all (λ number. list_any (nat_eq number) used) f.files.numbers) (used_later f) ∙ e)
        world.filesystems is.inodes);
    groups = is.groups;
  }

  pub world_counted : IsWorld nat_eq world → IsPlain world → IsWorld nat_eq later × IsPlain later
  world_counted is plain =
      let rest : IsWorldButForUse later = unsettled_counted _ _ _ change world (unsettled_of world is plain) in
      (world_of later rest (nothing_goes later (in_use_later (all_in_use world is))), rest.plain)

module _ (changed : List ℕ) (world : World ℕ) where
  abbrev pub number_if : Filesystem ℕ → ℕ
  number_if filesystem = cond (list_any (λ number. nat_eq number filesystem.number) changed)
      (raised filesystem.change) filesystem.change

  raised_filesystem_is : (filesystem : Filesystem ℕ) → raised_if_changed nat_eq changed filesystem
      ≡ record filesystem { change = number_if filesystem }
  raised_filesystem_is filesystem = grind (arith, common_steps)

module _ (before : World ℕ) (name : TaskName) (changed : List ℕ) (world : World ℕ) where
  abbrev pub namespace_if : Namespace ℕ → ℕ
  namespace_if namespace = cond (same_mounts_in nat_eq before world namespace.number) namespace.change
      (raised namespace.change)

  abbrev pub task_if : Task ℕ → ℕ
  task_if task = cond (same_name name task.name) (raised task.change) task.change

  raised_namespace_is : (namespace : Namespace ℕ) → raised_namespace nat_eq before world namespace
      ≡ record namespace { change = namespace_if namespace }
  raised_namespace_is namespace = grind (arith, common_steps)

  raised_task_is : (task : Task ℕ) → raised_task name task ≡ record task { change = task_if task }
  raised_task_is task = grind (arith, common_steps)

  pub numbers_raised_are : numbers_raised nat_eq before name changed world
      ≡ counted (number_if changed world) namespace_if task_if (raised world.change) world
  numbers_raised_are = grind (arith, common_steps, raised_filesystem_is, raised_namespace_is, raised_task_is)

  pub raising_numbers_keeps_world : IsWorld nat_eq world → IsPlain world
      → IsWorld nat_eq (numbers_raised nat_eq before name changed world)
      × IsPlain (numbers_raised nat_eq before name changed world)
  raising_numbers_keeps_world is plain = subst (λ w. IsWorld nat_eq w × IsPlain w) (sym numbers_raised_are)
      (world_counted _ _ _ _ world is plain)
