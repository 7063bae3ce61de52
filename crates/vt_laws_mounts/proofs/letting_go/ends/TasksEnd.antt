-- What goes when tasks leave locations and namespaces at once.
use Rattle.std.proofs.Common.{arith, ◌≡◌, refl, sym, ap, subst, ◌∙◌, ◌⊎◌, inl, inr, ⊎_elim, ℕ, nat_eq, eqb-true, Bool, true, false, not, List, filter, map, true≢false, flat_map, ◌++◌, Some, is_some}
use Rattle.vt_spec.proofs.Common.{Fresh, Location, Mount, Namespace, Task, TaskName, World, all_locations, cases_Bool, common_steps, copied_mount, evens, has_tasks, holds_of, is_among, is_going, is_member_of, is_nowhere_or_attached, list_any, list_any-append, locations_of, lost_a_group, mount_at, mount_in, mount_lives, mount_numbered, mounts_of, namespaces_ended, numbers_by, odds, or_cases, or_parts, replaced_if_called, same_name, settled, without_task}
use Rattle.vt_laws_mounts.specs.LettingGo.EndingTasks.{EntersLetGo, EntersWithOverlaysLetGo, ExitsLetGo, ExitsWithOverlaysLetGo, LeavingNamespacesLetsGo, LeavingNamespacesWithOverlaysLetsGo, UnsharesLetGo, UnsharesWithOverlaysLetGo, gone_with, locations_of_named, used_by_ended, used_by_ended_with_layers}
use Rattle.vt_laws_mounts.specs.LettingGo.InUse.{AllInUse, GroupsInUse}
use Rattle.vt_laws_mounts.specs.LettingGo.Keeping.{LocationsStand}
use Rattle.vt_laws_mounts.specs.LettingGo.Unmounting.{groups_of_mounts}
use Rattle.vt_laws_mounts.specs.LettingGo.Leaving.{IsSettledPlain, MountsStand, only_these_are_left}
use Rattle.vt_laws_mounts.specs.LettingGo.LeavingOverlays.{IsSettled}
use Rattle.vt_laws_mounts.specs.LettingGo.Mounting.{ended_mounts, loses_its_place, places_lost}
use Rattle.vt_laws_mounts.specs.LettingGo.OneByOne.{GroupsInUseBut, let_go}
use Rattle.vt_laws_mounts.specs.LettingGo.Overlays.{let_go_all}
use Rattle.vt_laws_mounts.proofs.letting_go.leaving.Detached.{found-map, not_found-map}
use Rattle.vt_laws_mounts.proofs.letting_go.mounting.Unmounted.{event_groups}
use Rattle.vt_laws_mounts.proofs.letting_go.Lists.{Among, among-append, among-append_left, among-append_right, among-filter, among-filter_map, among-flat_map, among-from_flat_map, among-from_map, among-map, among_from_list_all, any_among, any_from_among, is_among_numbers, list_all_from_among, or_left, or_right}
use Rattle.vt_laws_mounts.proofs.letting_go.mounting.MountingLosers.{Loses, StillAPlace, changed, losers_go, places_of, places_stand}
use Rattle.vt_laws_mounts.proofs.letting_go.mounting.MountingOverlays.{all_losers_go}
use Rattle.vt_laws_mounts.proofs.letting_go.mounting.MountingTaken
use Rattle.vt_laws_mounts.proofs.letting_go.mounting.MountingTaken.{is_changed, nowhere_after, same_filesystem, same_namespace, same_number, same_place, same_root}
use Rattle.vt_laws_mounts.proofs.letting_go.leaving.MountsAdded.{found_before}
use Rattle.vt_laws_mounts.proofs.letting_go.leaving.PlacesLeft.{found_itself, is_it, place_attached}

-- A world with more mounts, other tasks and other namespaces, in which namespaces end
module _ (world : World ℕ) (all : List (Mount ℕ)) (tasks : List (Task ℕ)) (namespaces : List (Namespace ℕ))
    (left : List (Location ℕ)) (in_use : AllInUse world) (stand : MountsStand world)
    (kept : (mount : Mount ℕ) → Among mount world.mounts → Among mount all)
    (new : (mount : Mount ℕ) → Among mount all → Among mount world.mounts ⊎ (is_some mount.namespace ≡ true))
    (found : (location : Location ℕ) → Among location (places_of world) → mount_in nat_eq all location.mount
    ≡ mount_in nat_eq world.mounts location.mount)
    (stay : (location : Location ℕ) → Among location (all_locations world)
    → Among location (flat_map locations_of tasks) ⊎ Among location left) where
  abbrev pub base : World ℕ
  base = record world { mounts = all; tasks = tasks; namespaces = namespaces }

  abbrev pub ended : List ℕ
  ended = ended_mounts base

  abbrev pub gone : List ℕ
  gone = gone_with left base

  abbrev lasting : List (Namespace ℕ)
  lasting = filter (has_tasks nat_eq base) namespaces

  abbrev b : Bool
  b = list_any (lost_a_group nat_eq (MountingTaken.without base ended lasting))
      (MountingTaken.without base ended lasting).mounts

  abbrev change : Mount ℕ → Mount ℕ
  change = MountingTaken.change base ended lasting b

  abbrev pub last : World ℕ
  last = changed world (map change all) (MountingTaken.masters base ended lasting b) lasting tasks

  pub ends_so : namespaces_ended nat_eq base ≡ last
  ends_so = is_changed base ended _ b

  number_kept : (mount : Mount ℕ) → (change mount).number ≡ mount.number
  number_kept mount = same_number base ended lasting b mount

  not_ended : (number : ℕ) → is_among nat_eq number gone ≡ false → is_going nat_eq ended number ≡ false
  not_ended number isnt =
      (or_parts (is_among nat_eq number (map (λ location. location.mount) left)) (is_among nat_eq number ended)
      (cc (list_any-append (nat_eq number) (map (λ location. location.mount) left) ended))).1

  not_left : (number : ℕ) → is_among nat_eq number gone ≡ false
      → is_among nat_eq number (map (λ location. location.mount) left) ≡ false
  not_left number isnt =
      (or_parts (is_among nat_eq number (map (λ location. location.mount) left)) (is_among nat_eq number ended)
      (cc (list_any-append (nat_eq number) (map (λ location. location.mount) left) ended))).0

  attached_still : (mount : Mount ℕ) → is_going nat_eq ended mount.number ≡ false → is_some mount.namespace ≡ true
      → is_some (change mount).namespace ≡ true
  attached_still mount isnt e = cc (same_namespace base ended lasting b mount isnt)

  old_lives : (mount : Mount ℕ) → Among mount world.mounts → is_among nat_eq mount.number gone ≡ false
      → mount_lives nat_eq last (change mount) ≡ true
  old_lives mount m isnt = ⊎_elim (λ in_one. or_left _ _ (attached_still mount (not_ended _ isnt) in_one))
      (λ at. let t = any_among _ _ at in
      ⊎_elim (λ there. or_right _ _ (any_from_among _ _ t.0 there (cc (number_kept mount, t.2))))
      (λ gone_from. absurd (true≢false (sym (is_among_numbers _ _ (subst
      (λ n. Among n (map (λ location. location.mount) left)) (sym (eqb-true mount.number t.0.mount t.2))
      (among-map _ left t.0 gone_from))) ∙ not_left _ isnt))) (stay t.0 t.1))
      (or_cases _ _ (among_from_list_all _ _ in_use.mounts mount m))

  lives : (mount : Mount ℕ) → Among mount all → is_among nat_eq mount.number gone ≡ false
      → mount_lives nat_eq last (change mount) ≡ true
  lives mount m isnt = ⊎_elim (λ was. old_lives mount was isnt) (λ in_one. or_left _ _
      (attached_still mount (not_ended _ isnt) in_one)) (new mount m)

  nowhere : (mount : Mount ℕ) → Among mount all → is_nowhere_or_attached (change mount) ≡ true
  nowhere mount m = nowhere_after base ended lasting b mount
      (⊎_elim (among_from_list_all is_nowhere_or_attached world.mounts stand.nowhere mount)
      (λ in_one. or_left (is_some mount.namespace) _ in_one) (new mount m))

  on_attached : (number : ℕ) → is_some (mount_numbered nat_eq world number).namespace ≡ true
      → is_going nat_eq ended number ≡ false
      → (other : Mount ℕ) → Among other last.mounts → other.number ≡ number → is_some other.namespace ≡ true
  on_attached number in_one isnt other m e =
      grind (arith, common_steps, among-from_map, number_kept, attached_still, found_itself)

  place_still : (mount : Mount ℕ) → Among mount world.mounts → (at : Location ℕ) → mount.mount_point ≡ Some at
      → StillAPlace last.mounts gone at ⊎ Among at (places_lost world ended ++ left)
  place_still mount m at p = ⊎_elim (λ is. inr (among-append_left (places_lost world ended) left at
      (among-filter_map (λ x. x.mount_point) (filter (loses_its_place ended) world.mounts) mount at
      (among-filter (loses_its_place ended) world.mounts mount m is) p)))
      (λ isnt. let parts = or_parts (is_going nat_eq ended mount.number)
      (holds_of (λ l. is_going nat_eq ended l.mount) mount.mount_point) isnt in
      let on : is_going nat_eq ended at.mount ≡ false =
      cc (p, parts.1) in
      inl (
        change mount,
        (
          among-map change all mount (kept mount m),
          (
            same_place base ended lasting b mount at p parts.0 on,
            inr (on_attached at.mount (place_attached world stand mount m at p) on),
          ),
        ),
      )) (cases_Bool (loses_its_place ended mount))

  shows_the_same : (location : Location ℕ) → Among location (places_of world)
      → (mount_at nat_eq last location).filesystem ≡ (mount_at nat_eq world location).filesystem
  shows_the_same location m = ⊎_elim (λ e. e)
      (λ there. ap (λ x. x.filesystem) (found-map change number_kept all location.mount there.0 there.1 there.2 there.3)
      ∙ same_filesystem base ended lasting b (mount_in nat_eq all location.mount))
      (not_found-map change number_kept all location.mount) ∙ ap (λ x. x.filesystem) (found location m)

  pub ends_losing : Loses world last gone (places_lost world ended ++ left)
  ends_losing = record {
    images = λ mount m. (
      change mount,
      (
        among-map change all mount (kept mount m),
        (same_root base ended lasting b mount, same_filesystem base ended lasting b mount),
      ),
    );
    shown = shows_the_same;
    live = λ other m isnt. let from = among-from_map change all other m in
        ap (mount_lives nat_eq last) from.2 ∙ lives from.0 from.1 (ap (λ n. is_among nat_eq n gone)
        (sym (number_kept from.0) ∙ ap (λ (x : Mount ℕ). x.number) (sym from.2)) ∙ isnt);
    locations = λ location m. ⊎_elim (λ there. inl (inl there))
        (λ gone_from. inr (among-append_right (places_lost world ended) left location gone_from)) (stay location m);
    places = place_still;
    nowhere = list_all_from_among is_nowhere_or_attached last.mounts (λ other m.
        let from = among-from_map change all other m in cc (from.2, nowhere from.0 from.1));
  }

  -- groups without members had none before
  groups_of_base : GroupsInUse base
  groups_of_base group none = in_use.groups group (by _ refl)
    where
      by : (c : Bool) → list_any (is_member_of nat_eq group) world.mounts ≡ c → c ≡ false
      by false e = refl
      by true e =
          let t = any_among _ _ e in
          absurd (cc (any_from_among (is_member_of nat_eq group) all t.0 (kept t.0 t.1) t.2, none))

  pub ends_hearing : GroupsInUseBut (groups_of_mounts base ended) last
  ends_hearing = subst (GroupsInUseBut (groups_of_mounts base ended)) ends_so (event_groups base ended groups_of_base)

module _ (world : World ℕ) (all : List (Mount ℕ)) (tasks : List (Task ℕ)) (namespaces : List (Namespace ℕ))
    (left : List (Location ℕ)) where
  abbrev ending : World ℕ
  ending = record world { mounts = all; tasks = tasks; namespaces = namespaces }

  ended_lets_go : IsSettledPlain world → ((mount : Mount ℕ) → Among mount world.mounts → Among mount all)
      → ((mount : Mount ℕ) → Among mount all → Among mount world.mounts ⊎ (is_some mount.namespace ≡ true))
      → ((location : Location ℕ) → Among location (places_of world) → mount_in nat_eq all location.mount
      ≡ mount_in nat_eq world.mounts location.mount)
      → ((location : Location ℕ) → Among location (all_locations world) → Among location (flat_map locations_of tasks)
      ⊎ Among location left) → settled nat_eq (namespaces_ended nat_eq ending)
      ≡ let_go (namespaces_ended nat_eq ending) (used_by_ended world left ending)
  ended_lets_go settles kept new found stay = grind (
    arith,
    common_steps,
    ends_so world all tasks namespaces left settles.in_use settles.mounts kept new found stay,
    losers_go,
    ends_losing world all tasks namespaces left settles.in_use settles.mounts kept new found stay,
    ends_hearing world all tasks namespaces left settles.in_use settles.mounts kept new found stay,
  )

  all_ended_lets_go : IsSettled world → ((mount : Mount ℕ) → Among mount world.mounts → Among mount all)
      → ((mount : Mount ℕ) → Among mount all → Among mount world.mounts ⊎ (is_some mount.namespace ≡ true))
      → ((location : Location ℕ) → Among location (places_of world) → mount_in nat_eq all location.mount
      ≡ mount_in nat_eq world.mounts location.mount)
      → ((location : Location ℕ) → Among location (all_locations world) → Among location (flat_map locations_of tasks)
      ⊎ Among location left)
      → settled nat_eq (namespaces_ended nat_eq ending) ≡ let_go_all (namespaces_ended nat_eq ending)
      (used_by_ended_with_layers world left ending)
  all_ended_lets_go settles kept new found stay =
      subst (λ w. settled nat_eq w ≡ let_go_all w (used_by_ended_with_layers world left ending))
      (sym (ends_so world all tasks namespaces left settles.in_use settles.mounts kept new found stay))
      (all_losers_go world now.mounts now.master now.namespaces tasks (gone_with left ending)
      (places_lost world (ended_mounts ending) ++ left) (groups_of_mounts ending (ended_mounts ending)) settles
      (ends_losing world all tasks namespaces left settles.in_use settles.mounts kept new found stay)
      (ends_hearing world all tasks namespaces left settles.in_use settles.mounts kept new found stay))
    where
      now : World ℕ
      now = last world all tasks namespaces left settles.in_use settles.mounts kept new found stay

-- each location is one still, or was left
left_or_still : (world : World ℕ) (tasks : List (Task ℕ)) (left : List (Location ℕ))
    → only_these_are_left world tasks left ≡ true → (location : Location ℕ) → Among location (all_locations world)
    → Among location (flat_map locations_of tasks) ⊎ Among location left
left_or_still world tasks left only location m = grind (arith, common_steps, is_it, or_cases, among_from_list_all)

pub leaving_namespaces_lets_go : LeavingNamespacesLetsGo
leaving_namespaces_lets_go world tasks left settles only = ended_lets_go world _ tasks _ left settles (λ mount m. m)
    (λ mount m. inl m) (λ location m. refl) (left_or_still world tasks left only)

pub leaving_namespaces_with_overlays_lets_go : LeavingNamespacesWithOverlaysLetsGo
leaving_namespaces_with_overlays_lets_go world tasks left settles only = all_ended_lets_go world _ tasks _ left settles
    (λ mount m. m) (λ mount m. inl m) (λ location m. refl) (left_or_still world tasks left only)

-- One task that goes, or is another
module _ (world : World ℕ) (name : TaskName) where
  of_named : (task : Task ℕ) → Among task world.tasks → same_name name task.name ≡ true → (location : Location ℕ)
      → Among location (locations_of task) → Among location (locations_of_named world name)
  of_named task m is location n =
      among-flat_map locations_of (filter (λ other. same_name name other.name) world.tasks) task location
      (among-filter (λ other. same_name name other.name) world.tasks task m is) n

  without_it : (location : Location ℕ) → Among location (all_locations world)
      → Among location (flat_map locations_of (without_task world name).tasks)
      ⊎ Among location (locations_of_named world name)
  without_it location m =
      let from = among-from_flat_map locations_of world.tasks location m in
      ⊎_elim (λ is. inr (of_named from.0 from.1 is location from.2))
      (λ isnt. inl (among-flat_map locations_of (without_task world name).tasks from.0 location
      (among-filter (λ other. not (same_name name other.name)) world.tasks from.0 from.1 (ap not isnt)) from.2))
      (cases_Bool (same_name name from.0.name))

  with_another : (task : Task ℕ) → task.name ≡ name → (location : Location ℕ) → Among location (all_locations world)
      → Among location (flat_map locations_of (map (replaced_if_called task) world.tasks))
      ⊎ Among location (locations_of_named world name)
  with_another task called location m =
      let from = among-from_flat_map locations_of world.tasks location m in
      ⊎_elim (λ is. inr (of_named from.0 from.1 is location from.2))
      (λ isnt. inl (among-flat_map locations_of (map (replaced_if_called task) world.tasks) from.0 location
      (subst (λ t. Among t (map (replaced_if_called task) world.tasks)) (cc)
      (among-map (replaced_if_called task) world.tasks from.0 from.1)) from.2))
      (cases_Bool (same_name name from.0.name))

pub exits_let_go : ExitsLetGo
exits_let_go fresh world task settles =
    ended_lets_go world _ _ _ _ settles (λ mount m. m) (λ mount m. inl m) (λ location m. refl) (without_it world _)

pub exits_with_overlays_let_go : ExitsWithOverlaysLetGo
exits_with_overlays_let_go fresh world task settles =
    all_ended_lets_go world _ _ _ _ settles (λ mount m. m) (λ mount m. inl m) (λ location m. refl) (without_it world _)

pub enters_let_go : EntersLetGo
enters_let_go fresh world task namespace settles = ended_lets_go world _ _ _ _ settles (λ mount m. m) (λ mount m. inl m)
    (λ location m. refl) (with_another world _ _ refl)

pub enters_with_overlays_let_go : EntersWithOverlaysLetGo
enters_with_overlays_let_go fresh world task namespace settles = all_ended_lets_go world _ _ _ _ settles (λ mount m. m)
    (λ mount m. inl m) (λ location m. refl) (with_another world _ _ refl)

-- Copies in a new namespace
module _ (world : World ℕ) (fresh : Fresh ℕ) (task : Task ℕ) where
  abbrev copies : List (Mount ℕ)
  copies = map (copied_mount (numbers_by nat_eq (odds fresh) (mounts_of nat_eq world task.namespace)) (evens fresh 0))
      (mounts_of nat_eq world task.namespace)

  was_or_copy : (mount : Mount ℕ) → Among mount (world.mounts ++ copies)
      → Among mount world.mounts ⊎ (is_some mount.namespace ≡ true)
  was_or_copy mount m = ⊎_elim inl (λ copy. let from = among-from_map _ _ mount copy in
      inr (ap (λ (x : Mount ℕ). is_some x.namespace) from.2)) (among-append _ copies mount m)

  found_with_copies : MountsStand world → LocationsStand world → (location : Location ℕ)
      → Among location (places_of world)
      → mount_in nat_eq (world.mounts ++ copies) location.mount ≡ mount_in nat_eq world.mounts location.mount
  found_with_copies stand located location m =
      found_before world.mounts copies location.mount (places_stand world stand located location m)

pub unshares_let_go : UnsharesLetGo
unshares_let_go fresh world task settles located =
    ended_lets_go world _ _ _ _ settles (λ mount m. among-append_left _ _ mount m) (was_or_copy world fresh task)
    (found_with_copies world fresh task settles.mounts located) (with_another world _ _ refl)

pub unshares_with_overlays_let_go : UnsharesWithOverlaysLetGo
unshares_with_overlays_let_go fresh world task settles located =
    all_ended_lets_go world _ _ _ _ settles (λ mount m. among-append_left _ _ mount m) (was_or_copy world fresh task)
    (found_with_copies world fresh task settles.mounts located) (with_another world _ _ refl)
