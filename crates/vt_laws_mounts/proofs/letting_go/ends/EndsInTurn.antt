-- Namespaces that end with their last tasks, in a world that was swept before, or that was not.
use Rattle.std.proofs.Common.{arith, ◌≡◌, refl, sym, ap, subst, ◌∙◌, ⊎_elim, ℕ, nat_eq, Bool, true, false, true≢false, not, ◌&&◌, List, filter, flat_map, map, Option, Some, None, is_some, option_map, option_to_list}
use Rattle.vt_spec.proofs.Common.{Location, Mount, MountInvariants, Namespace, Task, World, all_locations, cases_Bool, common_steps, filesystems-taken_away, has_tasks, is_going, is_in_ended, is_nowhere_or_attached, list_all, locations_of, mount_at, mount_in, inherited_mount_point, number-mount_in, pair-map, same_Some, same_name, settled, taken_away, without_task}
use Rattle.vt_laws_mounts.specs.LettingGo.Leaving.{MountsStand, comes_nowhere, is_location_among, stands_on_attached, with_tasks}
use Rattle.vt_laws_mounts.specs.LettingGo.Mounting.{ended_mounts}
use Rattle.vt_laws_mounts.specs.LettingGo.Several.{OneSweepForAllExits, OneSweepForAllExitsWithOverlays, OneSweepForEnds, OneSweepForEndsWithOverlays, OneSweepForExits, OneSweepForExitsWithOverlays, ended_task}
use Rattle.vt_laws_mounts.proofs.letting_go.Lists.{Among, among-filter, among-flat_map, among-from_filter, among-from_flat_map, among-from_map, among-map, among_from_list_all, among_numbers, filter_twice, is_among_numbers, list_all_from_among}
use Rattle.vt_laws_mounts.proofs.letting_go.SweptBetween.{follows}
use Rattle.vt_laws_mounts.proofs.letting_go.leaving.Detached.{found-map}
use Rattle.vt_laws_mounts.proofs.letting_go.leaving.LeftOneByOne.{plain_reals, plain_uppers}
use Rattle.vt_laws_mounts.proofs.letting_go.leaving.PlacesLeft.{found_is_there, found_itself, location_among, placed_is_attached}
use Rattle.vt_laws_mounts.proofs.letting_go.mounting.MountingTaken
use Rattle.vt_laws_mounts.proofs.letting_go.mounting.MountingTaken.{hands_on, is_changed, nowhere_after, same_namespace, same_number, same_place, stays_there}
use Rattle.vt_laws_mounts.proofs.letting_go.mounting.TakenBetween.{one_sweep_between}
use Rattle.vt_laws_mounts.proofs.letting_go.mounting.MountsSwept.{beside_parent}
use Rattle.vt_laws_mounts.proofs.letting_go.mounting.Unmounted.{does_not_go}
use Rattle.vt_laws_mounts.proofs.letting_go.mounting.TakenInTurn.{one_sweep_in_turn}

module _ (world : World ℕ) (tasks : List (Task ℕ)) (kept : MountInvariants nat_eq world) where
  abbrev not_swept : World ℕ
  not_swept = with_tasks world tasks

  abbrev swept : World ℕ
  swept = with_tasks (settled nat_eq world) tasks

  abbrev namespaces : List (Namespace ℕ)
  namespaces = filter (has_tasks nat_eq not_swept) world.namespaces

  abbrev ends_with_it : Mount ℕ → Bool
  ends_with_it = is_in_ended nat_eq not_swept

  abbrev gone : List ℕ
  gone = ended_mounts not_swept

  -- what is in a namespace is in use, so that the sweep takes no mount of one that ends
  same_gone : ended_mounts swept ≡ gone
  same_gone = grind (arith, common_steps, filter_twice, follows, true≢false)

  -- the mounts of a namespace that does not end stay
  stays : (mount : Mount ℕ) → Among mount world.mounts → ends_with_it mount ≡ false
      → is_going nat_eq gone mount.number ≡ false
  stays mount m e = ⊎_elim (λ is.
      let from = among-from_map _ _ _ (among_numbers _ gone is) in
      let ended = among-from_filter _ _ from.0 from.1 in
      let same : mount ≡ from.0 = sym (found_itself _ kept.one_number mount m) ∙ ap (mount_in nat_eq world.mounts)
      from.2 ∙ found_itself _ kept.one_number from.0 ended.0 in
      absurd (cc (ended.1, same))) (λ isnt. isnt) (cases_Bool _)

  ends_or_stays : (mount : Mount ℕ) → Among mount world.mounts → is_going nat_eq gone mount.number ≡ false
      → ends_with_it mount ≡ false
  ends_or_stays mount m e = ⊎_elim (λ is. absurd (true≢false (sym (is_among_numbers _ gone
      (among-map _ _ mount (among-filter _ _ mount m is))) ∙ e))) (λ isnt. isnt) (cases_Bool _)

  abbrev b : Bool
  b = hands_on not_swept gone

  abbrev change : Mount ℕ → Mount ℕ
  change = MountingTaken.change not_swept gone namespaces b

  abbrev ended : World ℕ
  ended = MountingTaken.after not_swept gone namespaces b

  -- and so does what is below a mount that stays
  on_attached : (mount : Mount ℕ) → Among mount world.mounts → (place : Location ℕ)
      → (change mount).mount_point ≡ Some place → is_some (mount_at nat_eq ended place).namespace ≡ true
  on_attached mount m place p = by mount.mount_point refl
    where
      isnt : is_going nat_eq gone mount.number ≡ false
      isnt = does_not_go not_swept gone b mount
          (placed_is_attached (change mount) (nowhere_after not_swept gone namespaces b mount
          (among_from_list_all is_nowhere_or_attached world.mounts kept.nowhere mount m)) place p)

      left : (c : Bool) → (MountingTaken.change not_swept gone namespaces c mount).mount_point
          ≡ option_map (inherited_mount_point nat_eq not_swept gone) mount.mount_point
      left true = ap (λ (x : Mount ℕ). x.mount_point) (stays_there not_swept gone namespaces mount isnt)
      left false = ap (λ (x : Mount ℕ). x.mount_point) (stays_there not_swept gone namespaces mount isnt)

      by : (o : Option (Location ℕ)) → mount.mount_point ≡ o → is_some (mount_at nat_eq ended place).namespace ≡ true
      by None e = absurd (cc (p, left b))
      by (Some at) e =
          let below = mount_in nat_eq world.mounts at.mount in
          let same = beside_parent world kept mount m at e in
          let attached : is_some below.namespace ≡ true = ap is_some (sym same)
          ∙ placed_is_attached mount (among_from_list_all is_nowhere_or_attached world.mounts kept.nowhere mount m) at
          e in
          let there = found_is_there world.mounts at.mount attached in
          let below_stays : is_going nat_eq gone below.number ≡ false =
          stays below there (ap (λ o. ends_with_it (record mount { namespace = o })) (sym same)
          ∙ ends_or_stays mount m isnt) in
          let here : at ≡ place = same_Some at place (sym (same_place not_swept gone namespaces b mount at e isnt
          (ap (is_going nat_eq gone) (sym (number-mount_in world.mounts at.mount)) ∙ below_stays)) ∙ p) in
          ap (λ l. is_some (mount_at nat_eq ended l).namespace) (sym here) ∙ ap (λ (x : Mount ℕ). is_some x.namespace)
          (found-map change (same_number not_swept gone namespaces b) world.mounts at.mount below there refl
          (number-mount_in world.mounts at.mount))
          ∙ ap is_some (same_namespace not_swept gone namespaces b below below_stays) ∙ attached

  stand : MountsStand ended
  stand = record {
    one_number = pair-map (λ (x y : Mount ℕ). nat_eq x.number y.number) (λ (x y : Mount ℕ). nat_eq x.number y.number)
        change world.mounts (λ x y m n e. (λ i. nat_eq (number x i) (number y i)) ∙ e) kept.one_number;
    nowhere = list_all_from_among is_nowhere_or_attached (map change world.mounts) (λ mount m.
        let from = among-from_map change world.mounts mount m in
        ap is_nowhere_or_attached from.2 ∙ nowhere_after not_swept gone namespaces b from.0
        (among_from_list_all is_nowhere_or_attached world.mounts kept.nowhere from.0 from.1));
    on_attached = list_all_from_among (stands_on_attached ended) (map change world.mounts) (λ mount m.
        let from = among-from_map change world.mounts mount m in
        on from.0 from.1 mount.mount_point (ap (λ (x : Mount ℕ). x.mount_point) (sym from.2)));
  }
    where
      number : (mount : Mount ℕ) → (change mount).number ≡ mount.number
      number mount = same_number not_swept gone namespaces b mount

      on : (old : Mount ℕ) → Among old world.mounts → (o : Option (Location ℕ)) → (change old).mount_point ≡ o
          → list_all (λ place. is_some (mount_at nat_eq ended place).namespace) (option_to_list o) ≡ true
      on old m None e = refl
      on old m (Some place) e = ap (λ c. c && true) (on_attached old m place e)

  pub stand_afterwards : MountsStand (record (taken_away nat_eq not_swept gone) { namespaces = namespaces })
  stand_afterwards = subst MountsStand (sym (is_changed _ gone _ b)) stand

pub one_sweep_for_ends_with_overlays : OneSweepForEndsWithOverlays
one_sweep_for_ends_with_overlays world tasks trees uppers reals kept nowhere_new =
    ap (λ numbers. settled nat_eq (record (taken_away nat_eq (swept world tasks kept) numbers) {
      namespaces = namespaces world tasks kept;
    })) (same_gone world tasks kept)
    ∙ one_sweep_between world tasks (namespaces world tasks kept) (gone world tasks kept) kept nowhere_new
    trees uppers reals (stand_afterwards world tasks kept)

pub one_sweep_for_ends : OneSweepForEnds
one_sweep_for_ends world tasks plain trees kept nowhere_new =
    one_sweep_for_ends_with_overlays world tasks trees (plain_uppers world plain) (plain_reals world plain) kept
    nowhere_new

-- A task that ends

-- the locations of some tasks are locations of all
fewer_come_nowhere : (world : World ℕ) (keeps : Task ℕ → Bool) → comes_nowhere world (filter keeps world.tasks) ≡ true
fewer_come_nowhere world keeps =
    list_all_from_among (is_location_among (all_locations world)) (flat_map locations_of (filter keeps world.tasks))
    (λ location m.
    let from = among-from_flat_map locations_of (filter keeps world.tasks) location m in
    location_among (all_locations world) location (among-flat_map locations_of world.tasks from.0 location
    (among-from_filter keeps world.tasks from.0 from.1).0 from.2))

pub one_sweep_for_exits_with_overlays : OneSweepForExitsWithOverlays
one_sweep_for_exits_with_overlays fresh world task trees uppers reals kept =
    one_sweep_for_ends_with_overlays world (filter (λ other. not (same_name task.name other.name)) world.tasks)
    trees uppers reals kept (fewer_come_nowhere world _)

pub one_sweep_for_exits : OneSweepForExits
one_sweep_for_exits fresh world task plain trees kept =
    one_sweep_for_exits_with_overlays fresh world task trees (plain_uppers world plain) (plain_reals world plain) kept

pub one_sweep_for_all_exits_with_overlays : OneSweepForAllExitsWithOverlays
one_sweep_for_all_exits_with_overlays world names trees uppers reals kept =
    one_sweep_in_turn ended_task (λ now name. filesystems-taken_away (without_task now name)
    (ended_mounts (without_task now name))) (λ now name t u r before after.
    one_sweep_for_ends_with_overlays now (filter (λ other. not (same_name name other.name)) now.tasks)
    t u r before (fewer_come_nowhere now (λ other. not (same_name name other.name))))
    world names trees uppers reals kept

pub one_sweep_for_all_exits : OneSweepForAllExits
one_sweep_for_all_exits world names plain trees kept =
    one_sweep_for_all_exits_with_overlays world names trees (plain_uppers world plain) (plain_reals world plain) kept
