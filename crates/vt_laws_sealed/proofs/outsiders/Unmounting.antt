-- Mounts of others that are unmounted, with those that an event takes away: umount(2).
use Rattle.std.proofs.Common.{arith, ◌≡◌, refl, sym, ap, subst, ◌∙◌, ⊎_elim, ℕ, nat_eq, Bool, true, false, true≢false, List, [], ◌∷◌, Option, Some, None, Ok, map, option_map, unwrap_or, filter_map}
use Rattle.vt_spec.proofs.Common.{Among, Call, Fresh, Location, Mount, Stands, Task, TaskName, ToUnmount, Umount, World, among-filter, among-from_filter, among-from_filter_map, among-from_map, among_from_all, among_numbers, apply, child_at, common_steps, contains_from_among, false_from_ne_true, found_among, found_or_none, found_passes, goes_at, going, going_at, going_from, group_of, holds_of, is_going, is_own_mount, is_own_namespace, is_shared, judge_in, mount_at, mount_numbered, none_is_some, number-mount_in, other_mounts, own_mounts, receivers, receivers_of, receives, settled, stands_at}
use Rattle.vt_laws_sealed.proofs.Common.{all_permits_fit, found_itself, mounts_overlay, name_found, namespace_below, permits_are_for_their_calls, placed_inside, stands_there}
use Rattle.vt_laws_sealed.proofs.outsiders.OthersCalls.{IsOthersCall, apart_from}
use Rattle.vt_laws_sealed.specs.Part.Seals.{IsApart}
use Rattle.vt_laws_sealed.proofs.part.groups.EventsApart.{no_event_of_others_reaches_them}
use Rattle.vt_laws_sealed.proofs.outsiders.ChangedWorlds.{others_rest}
use Rattle.vt_laws_sealed.proofs.outsiders.OtherMounts.{is_other, namespace_outside, standing_apart}
use Rattle.vt_laws_sealed.proofs.outsiders.OwnTasks.{caller_outside}
use Rattle.vt_laws_sealed.proofs.outsiders.StandingApart.{NothingNew, StandsApart}
use Rattle.vt_laws_sealed.proofs.outsiders.Staying.{LeavesApart}
use Rattle.vt_laws_sealed.proofs.outsiders.TakingAway.{namespaces_taken_away, taking_leaves_apart}

-- The mounts that the unmount event of a mount of others takes away are of others.
module _ {world : World ℕ} {names : List TaskName} {New : ℕ → Type 0} (apart : StandsApart world names New)
    (namespace : ℕ) (outside : is_own_namespace nat_eq world names namespace ≡ false)
    (number : ℕ) (placed : (mount_numbered nat_eq world number).namespace ≡ Some namespace) where
  abbrev IsOfOthersAt : ℕ → Type 0
  IsOfOthersAt k =
      (n : ℕ) × ((mount_numbered nat_eq world k).namespace ≡ Some n) × (is_own_namespace nat_eq world names n ≡ false)

  abbrev unmounted_one : Mount ℕ
  unmounted_one = mount_numbered nat_eq world number

  its_own : (k : ℕ) → Among k (unmounted_one.number ∷ []) → IsOfOthersAt k
  its_own k m = grind (arith, common_steps, number-mount_in)

  -- the parent is one of others
  module _ (point : Location ℕ) (at : unmounted_one.mount_point ≡ Some point) where
    abbrev parent : Mount ℕ
    parent = mount_at nat_eq world point

    one_there : Among unmounted_one world.mounts
    one_there = ⊎_elim (λ m. m) (λ none. none_is_some namespace (cc))
        (found_or_none world.mounts number)

    itself : (mount : Mount ℕ) → Among mount world.mounts → mount_numbered nat_eq world mount.number ≡ mount
    itself mount m = found_itself world.mounts apart.mounts.one_number mount m

    below : (mount : Mount ℕ) → Among mount world.mounts → (place : Location ℕ) → mount.mount_point ≡ Some place
        → mount.namespace ≡ (mount_at nat_eq world place).namespace
    below mount m place e = ap (λ (x : Mount ℕ). x.namespace) (sym (itself mount m))
        ∙ namespace_below world mount.number place
        (among_from_all (λ (x : Mount ℕ). Stands nat_eq world x.number) world.mounts apart.mounts.standing mount m)
        (ap (λ (x : Mount ℕ). x.mount_point) (itself mount m) ∙ e)

    parent_placed : parent.namespace ≡ Some namespace
    parent_placed = cc (below unmounted_one one_there point at)

    parent_other : Among parent (other_mounts nat_eq world names)
    parent_other = is_other world names outside parent (⊎_elim (λ m. m)
        (λ none. none_is_some namespace (cc (parent_placed)))
        (found_or_none world.mounts point.mount)) parent_placed

    -- a receiver of its events is none of theirs
    receiver_there : (receiver : Mount ℕ) → Among receiver (receivers_of nat_eq world parent)
        → Among receiver world.mounts × ((n : ℕ) → receiver.namespace ≡ Some n
        → is_own_namespace nat_eq world names n ≡ true → ⊥)
    receiver_there receiver m = by (group_of parent.propagation) refl m
      where
        by : (o : Option ℕ) → group_of parent.propagation ≡ o
            → Among receiver (unwrap_or (option_map (receivers nat_eq world) o) [])
            → Among receiver world.mounts × ((n : ℕ) → receiver.namespace ≡ Some n
            → is_own_namespace nat_eq world names n ≡ true → ⊥)
        by None e m = absurd m
        by (Some group) e m =
            let out = among-from_filter (receives nat_eq world group) world.mounts receiver m in (
              out.0,
              λ n f own. true≢false (sym out.1 ∙ no_event_of_others_reaches_them world names receiver parent group
                  (record { mounts = apart.mounts; apart = apart.events })
                  (contains_from_among (own_mounts nat_eq world names) receiver
                  (among-filter (is_own_mount nat_eq world names) world.mounts receiver out.0
                  (ap (holds_of (is_own_namespace nat_eq world names)) f ∙ own)))
                  (contains_from_among (other_mounts nat_eq world names) parent parent_other) e),
            )

    child_gone : (receiver child : Mount ℕ) → goes_at nat_eq world point.node receiver ≡ Some child
        → child_at nat_eq world.mounts (record { mount = receiver.number; node = point.node }) ≡ Some child
    child_gone receiver child e = grind (arith, common_steps, none_is_some)

    its_receivers : (k : ℕ) → Among k (map (λ (x : Mount ℕ). x.number) (filter_map (goes_at nat_eq world point.node)
        (receivers_of nat_eq world parent))) → IsOfOthersAt k
    its_receivers k m =
        let child = among-from_map (λ (x : Mount ℕ). x.number) (filter_map (goes_at nat_eq world point.node)
        (receivers_of nat_eq world parent)) k m in
        let from = among-from_filter_map (goes_at nat_eq world point.node) (receivers_of nat_eq world parent) child.0
        child.1 in
        let receiver = receiver_there from.0 from.1 in
        let place : Location ℕ = record { mount = from.0.number; node = point.node } in
        let found = child_gone from.0 child.0 from.2 in
        let child_there = found_among (stands_at nat_eq place) world.mounts child.0 found in
        let stands = stands_there place child.0 (found_passes (stands_at nat_eq place) world.mounts child.0 found) in
        let same : child.0.namespace ≡ from.0.namespace =
        cc (below child.0 child_there place stands, itself from.0 receiver.0) in
        by child.0 child_there place stands child.0.namespace refl (λ n e own. receiver.1 n (cc) own)
        (cc (child.2, itself child.0 child_there))
      where
        by : (child : Mount ℕ) → Among child world.mounts → (place : Location ℕ) → child.mount_point ≡ Some place
            → (o : Option ℕ) → child.namespace ≡ o
            → ((n : ℕ) → child.namespace ≡ Some n → is_own_namespace nat_eq world names n ≡ true → ⊥)
            → mount_numbered nat_eq world k ≡ child → IsOfOthersAt k
        by child m place stands None e no_own it = absurd (placed_inside world apart.mounts child m place stands e)
        by child m place stands (Some n) e no_own it = (
          n,
          cc (it, e),
          false_from_ne_true (is_own_namespace nat_eq world names n) (no_own n e),
        )

  pub others_go : (k : ℕ) → is_going nat_eq (going nat_eq world unmounted_one) k ≡ true → IsOfOthersAt k
  others_go k h = by unmounted_one.mount_point refl (among_numbers (going nat_eq world unmounted_one) k h)
    where
      shared : (point : Location ℕ) → unmounted_one.mount_point ≡ Some point → (b : Bool)
          → Among k (going_from nat_eq world unmounted_one point b) → IsOfOthersAt k
      shared point at true m = its_receivers point at k m
      shared point at false m = its_own k m

      by : (o : Option (Location ℕ)) → unmounted_one.mount_point ≡ o
          → Among k (going_at nat_eq world unmounted_one o) → IsOfOthersAt k
      by None e m = its_own k m
      by (Some point) e m = shared point e (is_shared (mount_at nat_eq world point).propagation) m

module _ {world : World ℕ} {fresh : Fresh ℕ} {names : List TaskName} {name : TaskName} {call : Call}
    {task : Task ℕ} (outsider : IsOthersCall world fresh names name call task) (number : ℕ)
    (judged : judge_in nat_eq fresh world task call ≡ Ok (ToUnmount number)) where
  set_apart : IsApart world names
  set_apart = apart_from outsider.it

  abbrev so_far : StandsApart world names NothingNew
  so_far = standing_apart world names set_apart

  for_umount : (path : List ℕ) × (call ≡ Umount path)
  for_umount = permits_are_for_their_calls fresh world task call (ToUnmount number) judged

  placed_in : (mount_numbered nat_eq world number).namespace ≡ Some task.namespace
  placed_in = (all_permits_fit world fresh task call (ToUnmount number) outsider.is outsider.serves
      (cc (name_found world name task outsider.called, outsider.called))
      (ap mounts_overlay for_umount.1) judged).names.0

  abbrev gone : List ℕ
  gone = going nat_eq world (mount_numbered nat_eq world number)

  pub unmount_leaves : LeavesApart world (settled nat_eq (apply nat_eq fresh world task (ToUnmount number)).world)
      names []
  unmount_leaves = subst (λ w. LeavesApart world (settled nat_eq w) names []) (namespaces_taken_away world gone)
      (taking_leaves_apart world names set_apart outsider.sealed_off world.tasks world.namespaces
      (others_rest world names so_far) gone (others_go so_far task.namespace
      (namespace_outside world names set_apart task (caller_outside outsider)) number placed_in))
