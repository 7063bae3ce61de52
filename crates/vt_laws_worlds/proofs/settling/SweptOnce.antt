-- Where the invariants of mounts hold, they hold on the way, so that one sweep serves for several.
use Rattle.std.proofs.Common.{arith, ℕ, nat_eq, List, [], ◌∷◌}
use Rattle.vt_spec.proofs.Common.{Mount, MountInvariants, TaskName, World, all_from_among, among_from_all, common_steps, stands_alike, unmounted_if_there, without_task}
use Rattle.vt_laws_mounts.specs.LettingGo.Several.{KeepsMounts, ended_task}
use Rattle.vt_laws_mounts.proofs.letting_go.ends.EndsInTurn.{one_sweep_for_all_exits_with_overlays}
use Rattle.vt_laws_mounts.proofs.letting_go.mounting.EventsInTurn.{one_sweep_for_all_events_with_overlays}
use Rattle.vt_laws_mounts.proofs.ends.Ending.{ended_namespaces_keep_mounts}
use Rattle.vt_laws_mounts.proofs.ends.EndingLazy.{IsUnderWay, begun, next}
use Rattle.vt_laws_mounts.proofs.ends.EndingOrder.{taken_in_turn}
use Rattle.vt_laws_worlds.specs.Worlds.Swept.{ExitsAreSweptOnce, LazyUnmountsAreSweptOnce}

-- without a task mounts are as they were
fewer_tasks_keep_mounts : (world : World ℕ) (name : TaskName) → MountInvariants nat_eq world
    → MountInvariants nat_eq (without_task world name)
fewer_tasks_keep_mounts world name kept = grind (arith, common_steps, all_from_among, stands_alike, among_from_all)

exits_keep : (world : World ℕ) (names : List TaskName) → MountInvariants nat_eq world
    → KeepsMounts ended_task world names
exits_keep world [] kept = kept
exits_keep world (name ∷ rest) kept = (
  kept,
  exits_keep (ended_task world name) rest
      (ended_namespaces_keep_mounts (without_task world name) (fewer_tasks_keep_mounts world name kept)),
)

pub exits_are_swept_once : ExitsAreSweptOnce
exits_are_swept_once world names trees uppers reals kept =
    one_sweep_for_all_exits_with_overlays world names trees uppers reals (exits_keep world names kept)

events_keep : (start : World ℕ) (kept : MountInvariants nat_eq start) (one : ℕ) (world : World ℕ)
    (left : List (Mount ℕ)) → IsUnderWay start kept one world left → KeepsMounts (unmounted_if_there nat_eq) world left
events_keep start kept one world [] way = way.kept
events_keep start kept one world (mount ∷ left) way = (
  way.kept,
  events_keep start kept one (unmounted_if_there nat_eq world mount) left (next start kept one world mount left way),
)

pub lazy_unmounts_are_swept_once : LazyUnmountsAreSweptOnce
lazy_unmounts_are_swept_once world number trees uppers reals kept = one_sweep_for_all_events_with_overlays world
    (taken_in_turn world number) trees uppers reals (events_keep world kept number world _ (begun world kept number))
