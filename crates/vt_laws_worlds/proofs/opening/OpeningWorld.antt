-- The opening world has the invariants.
use Rattle.std.proofs.Common.{arith, ◌≡◌, refl, ap, ◌∙◌, ℕ, nat_eq, eq-eqb, true, false, [], ◌||◌, ◌&&◌, is_some, option_to_list}
use Rattle.vt_spec.proofs.Common.{All-cons, All-head, All-nil, All-weaker, Filesystem, Fresh, HasOwnParents, IsTree, ListsNumbers, Mount, MountInvariants, NamespaceInvariants, Stands, TaskInvariants, TreeInvariants, World, and_from, at_root, common_steps, directory_is_there, first_mount, is_directory_at, list_all, mount_at, mount_numbered, new_plain, node_at, opening, root_of}
use Rattle.vt_spec.specs.Machine.World.{first_location}
use Rattle.vt_laws_mounts.specs.LettingGo.InUse.{AllInUse}
use Rattle.vt_laws_mounts.proofs.letting_go.sweeps.InUse.{nothing_goes}
use Rattle.vt_laws_mounts.proofs.letting_go.Lists.{or_left}
use Rattle.vt_laws_trees.specs.Trees.{IsFileTree}
use Rattle.vt_laws_trees.specs.Trees.Calls.{IsStanding, IsWorldOfTrees}
use Rattle.vt_laws_trees.proofs.trees.ChangesByCalls.{opening_has_trees}
use Rattle.vt_laws_trees.proofs.trees.ChangesWithinSizes.{opening_is_fit}
use Rattle.vt_laws_trees.proofs.trees.TreesLimits.{opening_has_small_tasks}
use Rattle.vt_laws_worlds.specs.Worlds.Calls.{OpeningIsAWorld}
use Rattle.vt_laws_worlds.specs.Worlds.Kept.{MountsShow}
use Rattle.vt_laws_worlds.proofs.TasksNamed.{opening_counts_forks}
use Rattle.vt_laws_worlds.proofs.RaisedInUse.{world_of}
use Rattle.vt_laws_mounts.proofs.GroupsLiving.{all_live}

module _ (fresh : Fresh ℕ) where
  abbrev first_world : World ℕ
  first_world = opening nat_eq fresh

  abbrev the_mount : Mount ℕ
  the_mount = first_mount nat_eq fresh

  abbrev the_filesystem : Filesystem ℕ
  the_filesystem = new_plain nat_eq (fresh 2) (fresh 3)

  itself : (k : ℕ) → nat_eq (fresh k) (fresh k) ≡ true
  itself k = eq-eqb (fresh k) (fresh k) refl

  has_trees : IsWorldOfTrees first_world
  has_trees = (opening_has_trees fresh).0

  is_standing : IsStanding first_world
  is_standing = (opening_has_trees fresh).1

  found_mount : mount_numbered nat_eq first_world (fresh 0) ≡ the_mount
  found_mount = cc (itself 0)

  root_is_directory : is_directory_at nat_eq first_world (first_location nat_eq fresh) ≡ true
  root_is_directory =
      All-head (λ (mount : Mount ℕ). is_directory_at nat_eq first_world (root_of mount) ≡ true) the_mount []
      is_standing.roots

  trees : TreeInvariants nat_eq first_world
  trees = record {
    trees = All-weaker (λ (f : Filesystem ℕ). IsFileTree f.files) (λ f. IsTree f.files.tree)
        (λ f is. is.tree) first_world.filesystems has_trees.trees;
    own_parents = All-weaker (λ (f : Filesystem ℕ). IsFileTree f.files) (λ f. HasOwnParents f.files.tree)
        (λ f is. is.own_parents) first_world.filesystems has_trees.trees;
    numbers = All-weaker (λ (f : Filesystem ℕ). IsFileTree f.files) (λ f. ListsNumbers nat_eq f.files)
        (λ f is. is.numbers) first_world.filesystems has_trees.trees;
    one_filesystem = refl;
    fit_filesystems = (opening_is_fit fresh).fit;
  }

  mounts : MountInvariants nat_eq first_world
  mounts = record {
    one_number = refl;
    one_child = refl;
    standing = All-cons (λ (mount : Mount ℕ). Stands nat_eq first_world mount.number) the_mount []
        (at_root (fresh 0) (ap (λ (m : Mount ℕ). m.mount_point) found_mount))
        (All-nil (λ (mount : Mount ℕ). Stands nat_eq first_world mount.number));
    nowhere = refl;
    groups = all_live first_world refl;
  }

  namespaces : NamespaceInvariants nat_eq first_world
  namespaces = grind (arith, common_steps, itself)

  located : (nat_eq (fresh 0) (fresh 0) || false) && is_some (node_at nat_eq first_world (first_location nat_eq fresh))
      ≡ true
  located = and_from _ _ (cc (itself 0)) (directory_is_there _ root_is_directory)

  seen : is_directory_at nat_eq first_world (first_location nat_eq fresh) && list_all (nat_eq (fresh 1)) (option_to_list
      (mount_at nat_eq first_world (first_location nat_eq fresh)).namespace) ≡ true
  seen = and_from (is_directory_at nat_eq first_world (first_location nat_eq fresh)) _ root_is_directory
      (ap (λ (m : Mount ℕ). list_all (nat_eq (fresh 1)) (option_to_list m.namespace)) found_mount
      ∙ ap (λ b. b && true) (itself 1))

  tasks : TaskInvariants nat_eq first_world
  tasks = grind (arith, common_steps, opening_has_small_tasks, opening_counts_forks, located, seen)

  roots : MountsShow first_world
  roots = cc (found_mount, root_is_directory)

  in_use : AllInUse first_world
  in_use = grind (arith, common_steps, mounts, itself, or_left)

pub opening_is_a_world : OpeningIsAWorld
opening_is_a_world fresh apart = (
  world_of (opening nat_eq fresh) (record {
    plain = (has_trees fresh).plain;
    files = trees fresh;
    mounts = mounts fresh;
    namespaces = namespaces fresh;
    tasks = tasks fresh;
    roots = roots fresh;
  }) (nothing_goes (opening nat_eq fresh) (in_use fresh)),
  (has_trees fresh).plain,
)
