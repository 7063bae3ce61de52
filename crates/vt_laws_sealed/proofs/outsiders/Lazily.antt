-- Trees of mounts of others that are unmounted at once: umount2(2) with MNT_DETACH.
use Rattle.std.proofs.Common.{◌≡◌, refl, sym, ap, subst, ◌∙◌, ⊎_elim, inl, inr, ℕ, nat_eq, Bool, true, false, cond, List, [], ◌∷◌, Some, Ok, is_some, length}
use Rattle.vt_spec.proofs.Common.{Among, Call, Fresh, Mount, MountInvariants, Task, TaskName, ToUnmountLazily, World, apply, folded, found_or_none, going, is_going, is_own_namespace, judge_in, lazily_unmounted, mount_numbered, none_is_some, number-mount_in, same_Some, settled, unmounted, unmounted_if_there}
use Rattle.vt_laws_sealed.proofs.outsiders.OthersCalls.{IsOthersCall, apart_from}
use Rattle.vt_laws_sealed.proofs.Common.{cases_Option, all_permits_fit, found_itself, mounts_overlay, name_found, permits_are_for_their_calls}
use Rattle.vt_laws_mounts.proofs.ends.EndingLazy.{IsUnderWay, begun, lazy_unmount_keeps_mounts, next}
use Rattle.vt_laws_mounts.proofs.ends.EndingOrder.{from_tree, taken_in_turn}
use Rattle.vt_laws_sealed.specs.Part.Seals.{IsApart}
use Rattle.vt_laws_sealed.proofs.outsiders.ChangedWorlds.{OthersMove, others_rest}
use Rattle.vt_laws_sealed.proofs.outsiders.OtherMounts.{namespace_outside, standing_apart, tree_in}
use Rattle.vt_laws_sealed.proofs.outsiders.OwnTasks.{caller_outside}
use Rattle.vt_laws_sealed.proofs.outsiders.Refusals.{leaves_apart_itself}
use Rattle.vt_laws_sealed.proofs.outsiders.StandingApart.{NothingNew, StandsApart}
use Rattle.vt_laws_sealed.proofs.outsiders.Staying.{LeavesApart}
use Rattle.vt_laws_sealed.proofs.outsiders.Steps.{leaves_on, standing_on}
use Rattle.vt_laws_sealed.proofs.outsiders.Sweeping.{sweeping_leaves_apart}
use Rattle.vt_laws_sealed.proofs.outsiders.TakingAway.{filesystems_taken, namespaces_taken_away, taken_from, taken_leaves_apart}
use Rattle.vt_laws_sealed.proofs.outsiders.Unmounting.{others_go}

module _ {world : World ℕ} {names : List TaskName} (apart : IsApart world names) (namespace : ℕ)
    (outside : is_own_namespace nat_eq world names namespace ≡ false) (one : ℕ)
    (placed : (mount_numbered nat_eq world one).namespace ≡ Some namespace) where
  -- each mount that has an event is in the namespace
  event_placed : (mount : Mount ℕ) → Among mount (taken_in_turn world one)
      → (mount_numbered nat_eq world mount.number).namespace ≡ Some namespace
  event_placed mount m =
      let is_in = tree_in apart namespace (length world.mounts) (mount_numbered nat_eq world one) (
        ⊎_elim (λ k. k) (λ none. none_is_some namespace (cc))
            (found_or_none world.mounts one),
        placed,
      ) mount (from_tree world one mount m) in
      cc (found_itself world.mounts apart.is.mounts.one_number mount is_in.0, is_in.1)

  -- a mount that is in a namespace still was in it
  abbrev WasIn : World ℕ → Type 0
  WasIn now = (k n : ℕ) → (mount_numbered nat_eq now k).namespace ≡ Some n
      → (mount_numbered nat_eq world k).namespace ≡ Some n

  -- after some events
  record HasGone (now : World ℕ) : Type 0 where
    standing : StandsApart now names NothingNew
    leaves : LeavesApart world now names []
    same : now.filesystems ≡ world.filesystems
    was_in : WasIn now

  -- one event more
  module _ (now : World ℕ) (gone_so_far : HasGone now) (number : ℕ)
      (at : (mount_numbered nat_eq now number).namespace ≡ Some namespace)
      (later_mounts : MountInvariants nat_eq (unmounted nat_eq now number)) where
    abbrev gone : List ℕ
    gone = going nat_eq now (mount_numbered nat_eq now number)

    outside_now : is_own_namespace nat_eq now names namespace ≡ false
    outside_now = cc (gone_so_far.leaves.sees.tasks)

    abbrev rest_now : OthersMove now names now.tasks now.namespaces
    rest_now = others_rest now names gone_so_far.standing

    abbrev others_now : (k : ℕ) → is_going nat_eq gone k ≡ true
        → (n : ℕ) × ((mount_numbered nat_eq now k).namespace ≡ Some n) × (is_own_namespace nat_eq now names n ≡ false)
    others_now = others_go gone_so_far.standing namespace outside_now number at

    abbrev later : World ℕ
    later = unmounted nat_eq now number

    step_leaves : LeavesApart now later names []
    step_leaves = subst (λ w. LeavesApart now w names []) (namespaces_taken_away now gone)
        (taken_leaves_apart gone_so_far.standing rest_now gone others_now)

    from : (mount : Mount ℕ) → Among mount later.mounts → (n : ℕ) → mount.namespace ≡ Some n
        → (old : Mount ℕ) × Among old now.mounts × (old.number ≡ mount.number) × (old.namespace ≡ Some n)
    from mount m n e = taken_from gone_so_far.standing rest_now gone others_now mount
        (subst (λ (w : World ℕ). Among mount w.mounts) (sym (namespaces_taken_away now gone)) m) n e

    goes_on : HasGone later
    goes_on = record {
      standing = standing_on now later names gone_so_far.standing step_leaves later_mounts
          (sym (ap (λ (w : World ℕ). w.namespaces) (namespaces_taken_away now gone))) from;
      leaves = leaves_on world now later names gone_so_far.same gone_so_far.leaves step_leaves;
      same = sym (ap (λ (w : World ℕ). w.filesystems) (namespaces_taken_away now gone))
          ∙ filesystems_taken gone_so_far.standing rest_now gone others_now
          ∙ gone_so_far.same;
      was_in = λ k n e. ⊎_elim (λ there.
          let old = from (mount_numbered nat_eq later k) there n e in
          gone_so_far.was_in k n (ap (λ j. (mount_numbered nat_eq now j).namespace)
          (sym (number-mount_in later.mounts k) ∙ sym old.2) ∙ ap (λ (x : Mount ℕ). x.namespace)
          (found_itself now.mounts gone_so_far.standing.mounts.one_number old.0 old.1) ∙ old.3))
          (λ none. none_is_some n (cc)) (found_or_none later.mounts k);
    }

  -- all of them
  all_go : (events : List (Mount ℕ)) (now : World ℕ) → IsUnderWay world apart.is.mounts one now events → HasGone now
      → ((mount : Mount ℕ) → Among mount events → Among mount (taken_in_turn world one))
      → HasGone (folded (unmounted_if_there nat_eq) now events)
  all_go [] now way gone_so_far of = gone_so_far
  all_go (mount ∷ events) now way gone_so_far of =
      all_go events (unmounted_if_there nat_eq now mount) (next world apart.is.mounts one now mount events way)
      ((elim (cases_Option (mount_numbered nat_eq now mount.number).namespace) [
        | inl e ↦ subst (λ o. HasGone (event (is_some o))) (sym e) gone_so_far
        | inr its ↦ let same : its.0 ≡ namespace =
            same_Some its.0 namespace (sym (gone_so_far.was_in mount.number its.0 its.1) ∙ event_placed mount
            (of mount (inl refl)))
            in subst (λ o. HasGone (event (is_some o))) (sym its.1) (goes_on now gone_so_far mount.number (cc)
            (subst (λ o. MountInvariants nat_eq (event (is_some o))) its.1
            (next world apart.is.mounts one now mount events way).kept))
      ])) (λ x m. of x (inr m))
    where
      event : Bool → World ℕ
      event b = cond b (unmounted nat_eq now mount.number) now

  pub lazily_leaves : LeavesApart world world names [] → LeavesApart world (lazily_unmounted nat_eq world one) names []
      × ((lazily_unmounted nat_eq world one).filesystems ≡ world.filesystems)
  lazily_leaves itself =
      let all = all_go (taken_in_turn world one) world (begun world apart.is.mounts one) (record {
        standing = standing_apart world names apart;
        leaves = itself;
        same = refl;
        was_in = λ k n e. e;
      }) (λ mount m. m) in
      (all.leaves, all.same)

module _ {world : World ℕ} {fresh : Fresh ℕ} {names : List TaskName} {name : TaskName} {call : Call}
    {task : Task ℕ} (outsider : IsOthersCall world fresh names name call task) where
  pub lazy_leaves : (number : ℕ) → judge_in nat_eq fresh world task call ≡ Ok (ToUnmountLazily number)
      → LeavesApart world (settled nat_eq (apply nat_eq fresh world task (ToUnmountLazily number)).world) names []
  lazy_leaves number judged =
      let set_apart = apart_from outsider.it in
      let for = permits_are_for_their_calls fresh world task call (ToUnmountLazily number) judged in
      let placed = (all_permits_fit world fresh task call (ToUnmountLazily number) outsider.is outsider.serves
      (cc (name_found world name task outsider.called, outsider.called))
      (ap mounts_overlay for.1) judged).names.0 in
      let left = lazily_leaves set_apart task.namespace
      (namespace_outside world names set_apart task (caller_outside outsider))
      number placed (leaves_apart_itself outsider.it) in
      sweeping_leaves_apart world (lazily_unmounted nat_eq world number) names set_apart outsider.sealed_off left.1
      (lazy_unmount_keeps_mounts world number outsider.is.mounts).one_number [] left.0
