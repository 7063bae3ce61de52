-- Mounts of others that move, with what stands on them: mount(2) with MS_MOVE.
use Rattle.std.proofs.Common.{◌≡◌, refl, sym, ap, inl, ⊎_elim, ℕ, nat_eq, true, false, List, [], append-nil, Some, Ok, length}
use Rattle.vt_spec.proofs.Common.{Among, Call, Fresh, Location, Mount, Task, TaskName, ToMove, World, apply, found_or_none, judge_in, mount_numbered, moved_tree, none_is_some, overlays, settled}
use Rattle.vt_laws_sealed.proofs.outsiders.OthersCalls.{IsOthersCall, apart_from}
use Rattle.vt_laws_sealed.proofs.Common.{all_permits_fit, mounts_overlay, name_found, permits_are_for_their_calls}
use Rattle.vt_laws_sealed.specs.Part.Seals.{IsApart}
use Rattle.vt_laws_sealed.proofs.outsiders.Attaching.{AttachesApart, attaching_leaves_apart}
use Rattle.vt_laws_sealed.proofs.outsiders.ChangingFiles.{call_swept}
use Rattle.vt_laws_sealed.proofs.outsiders.OtherMounts.{IsIn, is_other, namespace_outside, tree_in}
use Rattle.vt_laws_sealed.proofs.outsiders.OwnTasks.{caller_outside}
use Rattle.vt_laws_sealed.proofs.outsiders.Refusals.{leaves_apart_itself}
use Rattle.vt_laws_sealed.proofs.outsiders.Staying.{LeavesApart}

-- each mount that moves is in the namespace of the caller
moved_in : (world : World ℕ) (names : List TaskName) → IsApart world names → (namespace number : ℕ)
    → (mount_numbered nat_eq world number).namespace ≡ Some namespace → (origin : Mount ℕ)
    → Among origin (moved_tree nat_eq world number) → IsIn world namespace origin
moved_in world names apart namespace number placed origin m =
    tree_in apart namespace (length world.mounts) (mount_numbered nat_eq world number) (
      ⊎_elim (λ there. there) (λ none. none_is_some namespace (cc))
          (found_or_none world.mounts number),
      placed,
    ) origin m

module _ {world : World ℕ} {fresh : Fresh ℕ} {names : List TaskName} {name : TaskName} {call : Call}
    {task : Task ℕ} (outsider : IsOthersCall world fresh names name call task) where
  pub move_leaves : (number : ℕ) (place : Location ℕ) → judge_in nat_eq fresh world task call ≡ Ok (ToMove number place)
      → LeavesApart world (settled nat_eq (apply nat_eq fresh world task (ToMove number place)).world) names []
  move_leaves number place judged =
      let set_apart = apart_from outsider.it in
      let for = permits_are_for_their_calls fresh world task call (ToMove number place) judged in
      let no_overlay : mounts_overlay call ≡ false = ap mounts_overlay for.2 in
      let named = (all_permits_fit world fresh task call (ToMove number place) outsider.is outsider.serves
      (cc (name_found world name task outsider.called, outsider.called)) no_overlay
      judged).names in
      let outside = namespace_outside world names set_apart task
      (caller_outside outsider) in
      let attaches : AttachesApart world names fresh = record {
        attaching = record {
          apart = set_apart;
          serves = outsider.serves;
          filesystems = world.filesystems;
          supply = fresh;
          supplied = λ k. (k, refl);
          place = place;
          mounts = moved_tree nat_eq world number;
          origins = λ origin m.
              let is = moved_in world names set_apart task.namespace number named.own origin m in
              inl (origin, is_other world names outside origin is.0 is.1, refl, refl);
          moves = true;
        };
        sees_base = (leaves_apart_itself outsider.it).sees;
        more = [];
        grown = sym (append-nil (overlays world));
        none_there = λ merged m number free. absurd m;
        namespace = task.namespace;
        outside = outside;
        placed = named.destination.own;
        in_place = λ moving origin m. moved_in world names set_apart task.namespace number named.own origin m;
      } in
      call_swept outsider (ToMove number place) judged no_overlay [] (attaching_leaves_apart attaches)
