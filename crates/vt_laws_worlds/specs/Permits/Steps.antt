-- One step of a program whose world is the same as the policy's, which counts, and gives inodes even numbers.
use Rattle.std.specs.Prelude.{Bool, Ok, Some, false, nat_eq, true, ℕ, ◌%◌, ◌+◌, ◌≡◌, ◌≤◌}
use Rattle.vt_laws_rules.specs.Numbers.{KeepsTo}
use Rattle.vt_laws_worlds.specs.Permits.InUse.{is_in_use}
use Rattle.vt_laws_worlds.specs.Permits.Left.{IsGiven, left_by}
use Rattle.vt_laws_worlds.specs.Permits.Taken.{IsUngrouped, counts_taken, handed_to}
use Rattle.vt_laws_trees.specs.Runs.Handed.{counts_from, is_counted_before}
use Rattle.vt_spec.specs.Language.Calls.{Call}
use Rattle.vt_spec.specs.Language.Calls.TypeWord.{ToShared}
use Rattle.vt_spec.specs.Machine.Judge.{judge_in}
use Rattle.vt_spec.specs.Machine.Permits.{Permit}
use Rattle.vt_spec.specs.Machine.Permits.Permit.{ToMake, ToMountPlain, ToOpenNew, ToSetType}
use Rattle.vt_spec.specs.Machine.SameWorlds.{SameWorlds}
use Rattle.vt_spec.specs.Machine.World.{Task, World, task_called}
use Rattle.vt_spec.specs.Machine.Invariants.{IsWorld}
use Rattle.vt_laws_trees.specs.Trees.Calls.{mounts_overlay}
use Rattle.vt_laws_trees.specs.Trees.Limits.{names_few_groups}
use Rattle.vt_laws_worlds.specs.Worlds.Kept.{IsPlain}

-- the permit makes an inode, or a filesystem with a root
abbrev pub makes_inode : Permit ℕ → Bool
makes_inode (ToMake directory name node) = true
makes_inode (ToOpenNew directory name node access) = true
makes_inode (ToMountPlain place flags) = true
makes_inode permit = false

-- The world has the invariants, no mount is in a group, and all counts are before the next one. The permit is what the
-- call is given, judged with whatever numbers serve, here the next counts; a new inode has an even number that is not
-- in use.
pub record IsStep (next inode : ℕ) (world : World ℕ) (task : Task ℕ) (permit : Permit ℕ) : Type 0 where
  pub whole : IsWorld nat_eq world
  pub plain : IsPlain world
  pub ungrouped : IsUngrouped world
  pub counted : KeepsTo (is_counted_before next) world
  pub called : task_called world task.name ≡ Some task
  pub call : Call
  pub no_overlay : mounts_overlay call ≡ false
  pub few_groups : names_few_groups call ≡ true
  pub judged : judge_in nat_eq (counts_from next) world task call ≡ Ok permit
  pub even : inode % 2 ≡ 0
  pub unused : makes_inode permit ≡ true → is_in_use world inode ≡ false

-- The call is given the permit with the numbers that are handed to it too,
abbrev pub StepsAreGiven : Type 0
StepsAreGiven =
    (next inode : ℕ) (world : World ℕ) (task : Task ℕ) (permit : Permit ℕ) → IsStep next inode world task permit
    → IsGiven (handed_to next inode permit) world task permit

-- and each world that is the same as the one left has all invariants, and all its counts are before the next one.
pub record IsAfterStep (later : ℕ) (world : World ℕ) : Type 0 where
  pub whole : IsWorld nat_eq world
  pub plain : IsPlain world
  pub counted : KeepsTo (is_counted_before later) world

abbrev pub StepsKeepWorlds : Type 0
StepsKeepWorlds =
    (next inode later : ℕ) (world : World ℕ) (task : Task ℕ) (permit : Permit ℕ) (other : World ℕ)
    → IsStep next inode world task permit → next + counts_taken world task permit ≤ later
    → SameWorlds (left_by (handed_to next inode permit) world task permit) other → IsAfterStep later other

-- So no mount is in a group either, but where one is made shared: mount(2) with MS_SHARED.
abbrev pub makes_shared : Permit ℕ → Bool
makes_shared (ToSetType mount ToShared recursive) = true
makes_shared permit = false

abbrev pub StepsStayUngrouped : Type 0
StepsStayUngrouped =
    (next inode : ℕ) (world : World ℕ) (task : Task ℕ) (permit : Permit ℕ) (other : World ℕ)
    → IsStep next inode world task permit → makes_shared permit ≡ false
    → SameWorlds (left_by (handed_to next inode permit) world task permit) other → IsUngrouped other
