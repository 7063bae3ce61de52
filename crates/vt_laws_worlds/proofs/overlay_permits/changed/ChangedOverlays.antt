-- The change of an overlay that a permit asks for can be made.
use Rattle.std.proofs.Common.{arith, ◌≡◌, refl, ◌*◌, ◌+◌, ℕ, nat_eq, None}
use Rattle.vt_spec.proofs.Common.{Change, Filesystem, Fresh, IsWorld, ListsNumbers, Merge, Permit, Serves, Stack, ToMake, ToOpenNew, World, common_steps, merge_of, mount_at, odds, served-distinct, stack_of}
use Rattle.vt_laws_trees.proofs.trees.ChangesKeepTrees.{changes_keep_numbers, changes_keep_trees}
use Rattle.vt_laws_trees.proofs.trees.TreesOfWorlds.{numbered_anyhow}
use Rattle.vt_laws_trees.proofs.layers.layers.UpperWorld.{overlay_numbers, overlay_tree}
use Rattle.vt_laws_trees.specs.Overlays.WholeChanges.{IsAskedWell}
use Rattle.vt_laws_trees.proofs.overlays.whole.UpperWhole.{change_goes, proper}
use Rattle.vt_laws_trees.proofs.overlays.changes.WholeWorlds.{overlays_are_whole}
use Rattle.vt_laws_mounts.specs.LettingGo.FileChanges.{MayChange}
use Rattle.vt_laws_worlds.specs.OverlaysLetGo.OverlayChanges.{NameIsThere}
use Rattle.vt_laws_worlds.proofs.worlds.CallsKept.{new_numbers}
use Rattle.vt_laws_worlds.specs.OverlayPermits.Changed.{AskedChangesCanBeMade, PermitsCanChange, numbers_left}
use Rattle.vt_laws_worlds.proofs.overlay_permits.asked.AskedOverlays.{permits_ask_overlays_well}
use Rattle.vt_laws_trees.specs.Trees.Settling.{inode_in}

may_change : (stack : Stack ℕ) (merge : Merge ℕ) (change : Change ℕ) → IsAskedWell stack merge change
    → MayChange merge.files change
may_change stack merge change asked = grind (arith, common_steps)

name_there : (stack : Stack ℕ) (merge : Merge ℕ) (change : Change ℕ) → IsAskedWell stack merge change
    → NameIsThere merge.files change
name_there stack merge change asked = grind (arith, common_steps)

pub asked_changes_can_be_made : AskedChangesCanBeMade
asked_changes_can_be_made fresh world location change overlay upper conditions is has distinct unused asked =
    let number = (mount_at nat_eq world location).filesystem in
    let stack = stack_of nat_eq world overlay upper in
    let merge = merge_of nat_eq world
    (Rattle.vt_spec.specs.Machine.World.filesystem_at nat_eq world location) overlay upper in
    let whole = overlays_are_whole world number overlay upper conditions is has in
    let goes = change_goes fresh stack merge whole (record { distinct = distinct; unused = unused }) change asked in
    record {
      overlay_there = is;
      upper_there = has;
      distinct = distinct;
      unused = unused;
      may = may_change stack merge change asked;
      named = name_there stack merge change asked;
      tree = record {
        tree = changes_keep_trees merge.files change (overlay_tree world conditions number overlay is)
            (proper stack merge change asked);
        numbers = changes_keep_numbers merge.files change (overlay_numbers world conditions number overlay is);
      };
      upper_tree = record {
        tree = goes.good.tree;
        numbers = goes.numbers (numbered_anyhow
            (λ (f : Filesystem ℕ). ListsNumbers nat_eq f.files) upper.filesystem world.filesystems
            conditions.files.numbers (λ n. refl));
      };
    }

-- The numbers that are left
module _ (world : World ℕ) (fresh : Fresh ℕ) (conditions : IsWorld nat_eq world)
    (serves : Serves nat_eq world fresh) where
  unused : (filesystem k : ℕ) → inode_in world filesystem (fresh k) ≡ None
  unused filesystem k =
      numbered_anyhow (λ (f : Filesystem ℕ). (j : ℕ) → f.files.tree.node (fresh j) ≡ None) filesystem world.filesystems
      (new_numbers world fresh conditions serves) (λ j. refl) k

  abbrev AreLeft : Fresh ℕ → Type 0
  AreLeft supply = ((j k : ℕ) → supply j ≡ supply k → j ≡ k)
      × ((filesystem k : ℕ) → inode_in world filesystem (supply k) ≡ None)

  all : AreLeft fresh
  all = (served-distinct world fresh serves, unused)

  every_second : AreLeft (odds fresh)
  every_second = (
    λ j k e. let same = served-distinct world fresh serves _ _ e in omega (arith, same),
    λ filesystem k. unused filesystem (2 * k + 1),
  )

  pub are_left : (permit : Permit ℕ) → AreLeft (numbers_left fresh permit)
  are_left (ToMake directory name node) = every_second
  are_left (ToOpenNew directory name node access) = every_second
  are_left permit = all

pub permits_can_change : PermitsCanChange
permits_can_change world fresh task call permit location change overlay upper conditions serves called judged asks is
    has =
    let left = are_left world fresh conditions serves permit in
    asked_changes_can_be_made (numbers_left fresh permit) world location change overlay upper conditions is has left.0
    (left.1 upper.filesystem)
    (permits_ask_overlays_well world fresh task call permit location change overlay upper conditions serves called
    judged asks is has)
