-- Each mount(2) of a new overlay ends in the part as in the world.
use Rattle.std.proofs.Common.{◌≡◌, refl, ap, ◌∙◌, ℕ, nat_eq, true, List, [], Option, Some, Ok}
use Rattle.vt_spec.proofs.Common.{Among, Call, Done, Filesystem, Fresh, Layer, MountFlags, MountOverlay, Overlay, OverlayWords, Permit, Serves, Task, TaskName, ToMountOverlay, World, evens, evens-distinct, granted, judge_in, layers_of, looks_of, members, mounted, numbers_raised, odds, overfills, overlay_at, overlay_filesystem, part_of, policy, served-distinct, settled, task_called, used_directly}
use Rattle.vt_laws_members.proofs.judging.Common.{a_member, caller_in, sealing_of}
use Rattle.vt_laws_members.proofs.Common.{calls_are_granted, has_only_named}
use Rattle.vt_laws_worlds.proofs.overlays_let_go.mounting.NewOverlays.{new_overlays_are_named}
use Rattle.vt_laws_members.specs.Changes.Changes.{EndsAlike, IsCallOfTheirs}
use Rattle.vt_laws_members.proofs.changes.Common.{by_permit, ended_alike, ran, ran_there, run_by, same_caller}
use Rattle.vt_laws_members.specs.NewOverlays.OverlayMounts.{OverlayMountsEndAlike}
use Rattle.vt_laws_members.proofs.new_overlays.LayersTheirs.{MountsOverlay, all_used, mounts_overlay, shown_used}
use Rattle.vt_laws_members.proofs.new_overlays.NewFilesystem.{mounted_alike, now, now_there, settled_here, settled_there}
use Rattle.vt_laws_members.proofs.new_overlays.SameOverlay.{same_overlay}

-- A granted mount of an overlay
module _ {world : World ℕ} {names : List TaskName} {name : TaskName} {path : List ℕ} {options : Option OverlayWords}
    {flags : MountFlags} (it : IsCallOfTheirs world names name (MountOverlay path options flags)) {task : Task ℕ}
    {member : Among task (members world names)} (called : task_called world name ≡ Some task) {fresh : Fresh ℕ}
    (serves : Serves nat_eq world fresh) {permit : Permit ℕ}
    (its : MountsOverlay (a_member (sealing_of it) member) flags permit)
    (judged : judge_in nat_eq fresh world task (MountOverlay path options flags) ≡ Ok permit) where
  abbrev part : World ℕ
  part = part_of nat_eq world names

  abbrev call : Call
  call = MountOverlay path options flags

  abbrev overlay : Overlay ℕ
  overlay = overlay_at (looks_of nat_eq world) task its.places

  abbrev new_one : Filesystem ℕ
  new_one = overlay_filesystem nat_eq (evens fresh) world overlay

  new_named : has_only_named new_one ≡ true
  new_named = new_overlays_are_named (evens fresh) world overlay it.is its.are_layers
      (evens-distinct fresh (served-distinct world fresh serves))

  new_layers : (layer : Layer ℕ) → Among layer (layers_of overlay)
      → Among layer.filesystem (used_directly nat_eq world names)
  new_layers = all_used (a_member (sealing_of it) member) its.places its.all

  abbrev later : World ℕ
  later = now (sealing_of it) serves its.here its.on its.own new_one refl new_layers new_named
      flags

  abbrev later_there : World ℕ
  later_there =
      now_there (sealing_of it) serves its.here its.on its.own new_one refl new_layers new_named flags

  granted_so : judge_in nat_eq fresh world task call ≡ Ok (ToMountOverlay its.here overlay flags)
  granted_so = cc its.is_so

  first : policy nat_eq fresh world name call ≡ granted Done (numbers_raised nat_eq world name [] later)
  first = ap (ran name call world fresh) called ∙ ap (run_by it world fresh task) granted_so
      ∙ ap (λ w. granted Done (numbers_raised nat_eq world name [] w)) (settled_here (sealing_of it) serves
      its.here its.on its.own new_one refl new_layers new_named flags)

  second : policy nat_eq fresh part name call ≡ granted Done (numbers_raised nat_eq part name [] later_there)
  second = ap (ran name call part fresh) (same_caller (sealing_of it) name it.theirs ∙ called)
      ∙ ran_there it fresh fresh task called granted_so
      ∙ ap (λ f. granted Done (numbers_raised nat_eq part name []
      (settled nat_eq (mounted nat_eq (odds fresh) part its.here f flags))))
      (same_overlay names it.is overlay its.are_layers (shown_used (a_member (sealing_of it) member) its.places
      its.all) (evens fresh)) ∙ ap (λ w. granted Done (numbers_raised nat_eq part name [] w))
      (settled_there (sealing_of it) serves its.here its.on its.own new_one refl new_layers new_named flags)

  mount_alike : EndsAlike world names name call fresh fresh
  mount_alike = ended_alike names name call first second (record {
    answer = refl;
    part = mounted_alike (sealing_of it) serves its.here its.on its.own new_one refl
        new_layers new_named flags name;
  })

pub overlay_mounts_end_alike : OverlayMountsEndAlike
overlay_mounts_end_alike world names name path options flags it fresh serves = by_permit it fresh fresh refl
    (λ task e permit judged. mount_alike it e serves (mounts_overlay (caller_in it e) fresh path options flags permit
    (calls_are_granted nat_eq (looks_of nat_eq world) (overfills nat_eq fresh world task) task
    (MountOverlay path options flags) permit judged)) judged)
