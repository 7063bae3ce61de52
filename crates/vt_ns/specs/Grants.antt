-- A grant as it was judged, whatever numbers the call is handed: an event that makes an inode or a filesystem proves by
-- itself that nothing has its number.
use Rattle.std.specs.Prelude.{Ok, Some, false, nat_eq, true, ℕ, ◌≡◌}
use Rattle.vt_spec.specs.Language.Calls.{Call, TaskName}
use Rattle.vt_spec.specs.Lists.{Fresh}
use Rattle.vt_spec.specs.Machine.Judge.{judge_in}
use Rattle.vt_spec.specs.Machine.Permits.{Permit}
use Rattle.vt_spec.specs.Machine.World.{Task, task_called}
use Rattle.vt_laws_trees.specs.Trees.Calls.{mounts_overlay}
use Rattle.vt_laws_trees.specs.Trees.Limits.{names_few_groups}
use Rattle.vt_permits.specs.GrantValue.{overlay_permit}
use Rattle.vt_permits.specs.declared.grant.ToMountOverlay.{ToMountOverlay}
use Rattle.vt_world.specs.WorldValue.{WorldValue, world_of}

-- a call of the task of this name is granted this permit
pub record Grants (value : WorldValue) (name : TaskName) (permit : Permit ℕ) : Type 0 where
  pub task : Task ℕ
  pub called : task_called (world_of value) name ≡ Some task
  pub call : Call
  pub no_overlay : mounts_overlay call ≡ false
  pub few_groups : names_few_groups call ≡ true
  pub judged : (fresh : Fresh ℕ) → judge_in nat_eq fresh (world_of value) task call ≡ Ok permit

-- a call of it is granted the mount of this overlay, of which it is the mounter
pub record GrantsOverlay (value : WorldValue) (name : TaskName) (new : ToMountOverlay) : Type 0 where
  pub task : Task ℕ
  pub called : task_called (world_of value) name ≡ Some task
  pub call : Call
  pub few_groups : names_few_groups call ≡ true
  pub judged : (fresh : Fresh ℕ) → judge_in nat_eq fresh (world_of value) task call ≡ Ok (overlay_permit task new)
