-- No mount(2) of a new overlay by a task of a sealed set gives others a foothold.
use Rattle.std.proofs.Common.{inl, inr, ◌≡◌, refl, ap, ℕ, nat_eq, Some, Ok, Err, is_ok}
use Rattle.vt_spec.proofs.Common.{Among, Judgement, MountOverlay, Overlay, Permit, Task, ToMountOverlay, evens, evens-distinct, judge_in, looks_of, members, overlay_at, overlay_filesystem, served-distinct, task_called}
use Rattle.vt_laws_containers.proofs.Common.{cases_Option, a_member, caller_in, calls_are_granted, ran, sealing_of}
use Rattle.vt_laws_worlds.proofs.overlays_let_go.mounting.NewOverlays.{new_overlays_are_named}
use Rattle.vt_laws_members.proofs.new_overlays.LayersTheirs.{MountsOverlay, all_used, mounts_overlay}
use Rattle.vt_laws_containers.specs.Footholds.{GivesNoFoothold}
use Rattle.vt_laws_containers.proofs.footholds.Granting.{denied_out, refused_out}
use Rattle.vt_laws_containers.proofs.footholds.TasksPermits.{permit_out}
use Rattle.vt_laws_containers.proofs.attached_apart.AttachFootholds.{OverlayMountsGiveNoFoothold}
use Rattle.vt_laws_containers.proofs.attached_apart.Mounting.{mounted_as_before}

pub overlay_mounts_give_no_foothold : OverlayMountsGiveNoFoothold
overlay_mounts_give_no_foothold world names name path options flags it fresh serves = elim (cases_Option _) [
  | inl e ↦ refused_out it fresh (ap (λ o. is_ok (ran name (MountOverlay path options flags) world fresh o).answer)
      e)
  | inr its ↦ judged_by its.0 (caller_in it its.1).among its.1
      (judge_in nat_eq fresh world its.0 (MountOverlay path options flags)) refl
]
  where
    granted_out : (task : Task ℕ) (member : Among task (members world names)) → task_called world name ≡ Some task
        → (permit : Permit ℕ) → judge_in nat_eq fresh world task (MountOverlay path options flags) ≡ Ok permit
        → MountsOverlay (a_member (sealing_of it) member) flags permit
        → GivesNoFoothold world names name (MountOverlay path options flags) fresh
    granted_out task member e permit judged its =
        let overlay : Overlay ℕ = overlay_at (looks_of nat_eq world) task its.places in
        permit_out (record { it = it; few = refl; serves = serves; called = e }) (ToMountOverlay its.here overlay flags)
        (cc (its.is_so)) (λ ends. mounted_as_before (sealing_of it) serves its.here its.on its.own
        (overlay_filesystem nat_eq (evens fresh) world overlay) refl (all_used (a_member (sealing_of it) member)
        its.places its.all) (new_overlays_are_named (evens fresh) world overlay it.is its.are_layers
        (evens-distinct fresh (served-distinct world fresh serves))) flags)

    judged_by : (task : Task ℕ) → Among task (members world names) → task_called world name ≡ Some task
        → (j : Judgement ℕ) → judge_in nat_eq fresh world task (MountOverlay path options flags) ≡ j
        → GivesNoFoothold world names name (MountOverlay path options flags) fresh
    judged_by task member e (Ok permit) judged = granted_out task _ e _ judged (mounts_overlay
        (a_member (sealing_of it) member) fresh path _ flags _ (calls_are_granted nat_eq _ _ task _ _ judged))
    judged_by task member e (Err deny) judged = denied_out it fresh task deny e judged
