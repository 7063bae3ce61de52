-- A judgement goes neither by the numbers handed in nor, as to room for mounts, by the task: the mount of an overlay's
-- too.
use Rattle.std.proofs.Common.{◌≡◌, refl, sym, ◌∙◌, ℕ, nat_eq, Bool, List, ◌++◌, Option, None, Some, Ok}
use Rattle.vt_spec.proofs.Common.{Call, Fresh, IsWorld, Location, Looks, MountFlags, MountOverlay, Overlay, OverlayWords, Permit, Task, ToMountOverlay, World, admin_rules, and_then, destination_walk, judge, judge_in, judging, layer_rules, layers_walked, looks_of, new_mount_rules, overfills, overlay_at, unless, walk_end}
use Rattle.vt_laws_later_calls.proofs.limits.room.Counted.{overlays_ask_for_room}
use Rattle.vt_laws_worlds.proofs.permits.taken.TakenJudged.{judgements_do_not_see_supplies}
use Rattle.vt_laws_trees.specs.Runs.Handed.{counts_from}
use Rattle.vt_mounting.specs.Detach.Looking.{looks_of_value, overfills_of}
use Rattle.vt_world.specs.WorldValue.{WorldValue, world_of}
use Rattle.vt_calls.proofs.Tied.{judged_alike}

-- what says alike whether the mount of an overlay fills a namespace judges alike
module _ (looks : Looks ℕ) (task : Task ℕ) (ones others : Permit ℕ → Bool)
    (alike : (place : Location ℕ) (overlay : Overlay ℕ) (flags : MountFlags)
    → ones (ToMountOverlay place overlay flags) ≡ others (ToMountOverlay place overlay flags)) where
  overlay_alike : (path : List ℕ) (options : Option OverlayWords) (flags : MountFlags)
      → judge nat_eq looks ones task (MountOverlay path options flags)
      ≡ judge nat_eq looks others task (MountOverlay path options flags)
  unfolding judging
  overlay_alike path None flags = refl
  overlay_alike path (Some words) flags = λ i. unless (admin_rules task)
      (and_then (walk_end (destination_walk nat_eq looks task path)) (λ here.
      and_then (layers_walked nat_eq looks task words) (λ layers.
      unless (layer_rules nat_eq looks layers (overlay_at looks task layers)
      ++ new_mount_rules nat_eq looks task here.location (alike here.location (overlay_at looks task layers) flags i))
      (Ok (ToMountOverlay here.location (overlay_at looks task layers) flags)))))

-- What the world of the code judges is what the definitions judge.
pub judged_as_meant : (value : WorldValue) (task : Task ℕ) (call : Call)
    → judge nat_eq (looks_of_value value) (overfills_of value) task call
    ≡ judge_in nat_eq (counts_from value.next) (world_of value) task call
judged_as_meant value task (MountOverlay path options flags) =
    overlay_alike (looks_of_value value) task (overfills_of value)
    (overfills nat_eq (counts_from value.next) (world_of value) task) (λ place overlay given. refl) path options flags
judged_as_meant value task call = judged_alike value task call refl

-- A judgement does not see the supply.
pub judged_with_any : (world : World ℕ) → IsWorld nat_eq world → (task : Task ℕ) (call : Call) (fresh again : Fresh ℕ)
    → judge_in nat_eq fresh world task call ≡ judge_in nat_eq again world task call
judged_with_any world is task (MountOverlay path options flags) fresh again =
    overlay_alike (looks_of nat_eq world) task (overfills nat_eq fresh world task) (overfills nat_eq again world task)
    (λ place overlay given.
    overlays_ask_for_room world fresh task place overlay given is
    ∙ sym (overlays_ask_for_room world again task place overlay given is)) path options flags
judged_with_any world is task call fresh again = judgements_do_not_see_supplies world task call fresh again is refl
