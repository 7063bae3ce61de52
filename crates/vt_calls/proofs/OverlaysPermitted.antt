-- A grant to mount an overlay, and the world that it leaves.
use Rattle.std.proofs.Common.{◌≡◌, ap, refl, sym, subst, ◌∙◌, ℕ, None, Some, Result, Ok, Err, OnErr, OnOk}
use Rattle.vt_spec.proofs.Common.{AllocError, SameWorlds, Task, TaskName, same_Some, task_called, ⊤}
use Rattle.vt_spec.specs.declared.errors.Deny.{Deny}
use Rattle.vt_permits.specs.GrantValue.{overlay_permit}
use Rattle.vt_permits.specs.declared.grant.Grant.TheVariants as granting
use Rattle.vt_permits.specs.declared.grant.ToMountOverlay.{ToMountOverlay}
use Rattle.vt_request.specs.declared.answer.Answer.{Answer}
use Rattle.vt_mounting.specs.Detach.Events.{Becomes, left_by}
use Rattle.vt_world.specs.WorldValue.{WorldValue, world_of}
use Rattle.vt_ns.specs.Grants.{GrantsOverlay}
use Rattle.vt_ns.specs.OverlayMounts.{MountsOverlay}
use Rattle.vt_ns.specs.Vacancy.{NextFilesystemIsNew}
use Rattle.vt_calls.proofs.Endings.{changed_new}
use Rattle.vt_calls.proofs.OverlaysHanded.{overlay_is_vacant}
use Rattle.vt_calls.proofs.Supplies.{AreVacant, judged_with}
use Rattle.vt_calls.specs.Answered.{answered}
use Rattle.vt_calls.specs.Permitted.{EndsGiven, IsGiven}

module _ (value : WorldValue) (name : TaskName) (new : ToMountOverlay)
    (given : IsGiven value name (granting.Overlay new)) where
  -- only the caller has this name
  pub caller_alone : (task : Task ℕ) → task_called (world_of value) name ≡ Some task
      → overlay_permit task new ≡ overlay_permit given.1.task new
  caller_alone task called = ap (λ one. overlay_permit one new) (same_Some _ _ (sym called ∙ given.1.called))

  pub overlay_granted : GrantsOverlay value name new
  overlay_granted = record {
    task = given.1.task;
    called = given.1.called;
    call = given.0;
    few_groups = given.1.few_groups;
    judged = judged_with value name given.0 (granting.Overlay new) given.1;
  }

  -- its layers are there, and nothing has the numbers of the overlay
  vacant : (change : Result ⊤ AllocError) → OnOk change ((new.upper ≡ None) × (new.work ≡ None))
      → OnOk change (NextFilesystemIsNew value) → OnOk change (AreVacant value (overlay_permit given.1.task new))
  vacant (Ok done) lower is_new = overlay_is_vacant value given.1.held name new overlay_granted lower.0 is_new
  vacant (Err refused) lower is_new = tt

  -- the world is as its permit leaves it
  becomes_so : (later : WorldValue) (change : Result ⊤ AllocError) → OnOk change (MountsOverlay value name new later)
      → OnOk change (Becomes value name (overlay_permit given.1.task new) later)
  becomes_so later (Ok done) mounts = λ task called.
      subst (λ permit. SameWorlds (left_by value task permit) (world_of later)) (caller_alone task called)
      (mounts task called)
  becomes_so later (Err refused) mounts = tt

  pub overlay_ends : (later : WorldValue) (change : Result ⊤ AllocError) (result : Result Answer Deny)
      → result ≡ answered change → OnOk change ((new.upper ≡ None) × (new.work ≡ None))
      → OnOk change (NextFilesystemIsNew value)
      → OnOk change (MountsOverlay value name new later)
      → OnErr change (later ≡ value) → EndsGiven value name (granting.Overlay new) result later
  overlay_ends later change result e lower is_new mounts same =
      changed_new value name (granting.Overlay new) (overlay_permit given.1.task new) caller_alone later change result e
      (vacant change lower is_new) (λ task called. refl) refl (becomes_so later change mounts) same
