-- Mounts that a granted call leaves show what they showed.
use Rattle.std.proofs.Common.{inl, inr, ◌≡◌, ap, subst, ◌∙◌, ℕ, nat_eq, true, false, Some, Ok, map}
use Rattle.vt_spec.proofs.Common.{cases_Bool, Among, Call, Fresh, IsWorld, Mount, MountOverlay, Outcome, Permit, Serves, Task, World, among-from_filter, among-map, among_from_contains, apply, call_outcome, is_among_numbers, judge_in, looks_of, mount_lives, mount_numbered, odds, overfills, settled, task_called}
use Rattle.vt_laws_turns.proofs.Common.{IsGranted, KeepsWhatIsSeen, all_mounts_kept, all_permits_fit, call_is_judged_then_applied, calls_are_granted, found_itself, is_mount, mounting_leaves_a_world, mounts_overlay, mounts_overlayfs, permits_keep_what_is_seen}
use Rattle.vt_laws_mounts.specs.Mounts.Invariants.{OneNumberEach}
use Rattle.vt_laws_worlds.proofs.worlds.SeenMounts.{mounted_seen}
use Rattle.vt_laws_turns.proofs.frames.frames.SameMounts.{ShowAlike}

-- where mounts have numbers of their own before and after
pub show_alike : (world middle later : World ℕ) → OneNumberEach world → OneNumberEach middle
    → KeepsWhatIsSeen world middle → ((mount : Mount ℕ) → Among mount later.mounts → Among mount middle.mounts)
    → ShowAlike world later
show_alike world middle later one_before one_after seen left one other c d e =
    let was : Among one world.mounts = among_from_contains world.mounts one c in
    let is_there : is_mount world one.number ≡ true =
    is_among_numbers (map (λ (m : Mount ℕ). m.number) world.mounts) one.number (among-map _ world.mounts one was) in
    let before : mount_numbered nat_eq world one.number ≡ one = found_itself world.mounts one_before one was in
    let after : mount_numbered nat_eq middle one.number ≡ other = ap (mount_numbered nat_eq middle) e
    ∙ found_itself middle.mounts one_after other (left other (among_from_contains later.mounts other d)) in
    let view = seen.views one.number is_there in (
      cc (before, view.filesystem, after),
      cc (before, view.root, after),
    )

module _ {world : World ℕ} {fresh : Fresh ℕ} {task : Task ℕ} (call : Call) {permit : Permit ℕ}
    (is : IsWorld nat_eq world) (serves : Serves nat_eq world fresh) (called : task_called world task.name ≡ Some task)
    (granted : judge_in nat_eq fresh world task call ≡ Ok permit) where
  abbrev applied : World ℕ
  applied = (apply nat_eq fresh world task permit).world

  abbrev Shown : Permit ℕ → Type 0
  Shown given = OneNumberEach (apply nat_eq fresh world task given).world
      × KeepsWhatIsSeen world (apply nat_eq fresh world task given).world

  others : mounts_overlay call ≡ false → Shown permit
  others other =
      let fits = all_permits_fit world fresh task call permit is serves called other granted in (
        (all_mounts_kept world fresh task permit is serves called fits).one_number,
        permits_keep_what_is_seen world fresh task is serves permit fits.names,
      )

  -- the mount of an overlay
  mounted_world : (asked : Call) → mounts_overlay asked ≡ true
      → IsWorld nat_eq (call_outcome nat_eq fresh world task asked).world
  mounted_world (MountOverlay path options flags) e =
      mounting_leaves_a_world fresh world task path options flags is serves called
  mounted_world asked e = cc

  outcome : call_outcome nat_eq fresh world task call ≡ apply nat_eq fresh world task permit
  outcome = cc (call_is_judged_then_applied fresh world task call, granted)

  mounting : (asked : Call) (given : Permit ℕ)
      → IsGranted nat_eq (looks_of nat_eq world) (overfills nat_eq fresh world task) task asked given
      → mounts_overlay asked ≡ true → KeepsWhatIsSeen world (apply nat_eq fresh world task given).world
  mounting asked given (mounts_overlayfs path words wanted here places admin end walked layered passed) e =
      mounted_seen world (odds fresh) here.location _ wanted
  mounting asked given other e = cc

  pub permit_shown : Shown permit
  permit_shown = elim (cases_Bool _) [
    | inl e ↦ (
      subst (λ (o : Outcome ℕ). OneNumberEach o.world) outcome (mounted_world call e).mounts.one_number,
      mounting call permit (calls_are_granted nat_eq (looks_of nat_eq world) _ task call permit granted) e,
    )
    | inr e ↦ others e
  ]

  -- and so does the sweep
  pub swept_show_alike : ShowAlike world (settled nat_eq applied)
  swept_show_alike =
      show_alike world applied (settled nat_eq applied) is.mounts.one_number permit_shown.0 permit_shown.1
      (λ mount m. (among-from_filter (mount_lives nat_eq applied) applied.mounts mount m).0)
