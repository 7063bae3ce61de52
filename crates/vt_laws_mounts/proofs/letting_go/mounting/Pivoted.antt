-- What goes after pivot_root.
use Rattle.std.proofs.Common.{arith, ◌≡◌, refl, sym, ap, ◌∙◌, ◌⊎◌, inl, inr, ⊎_elim, ℕ, nat_eq, eqb-true, eq-eqb, true, cond, ◌||◌, [], Option, Some, is_some, option_to_list}
use Rattle.vt_spec.proofs.Common.{Location, Mount, Task, World, all_locations, common_steps, is_located, is_member_of, is_nowhere_or_attached, locations_of, mount_in, mount_lives, mount_numbered, or_cases, pivoted, pivoted_location, pivoted_mount, pivoted_task, root_of, same_location_is}
use Rattle.vt_laws_mounts.specs.LettingGo.Attaching.{is_attached}
use Rattle.vt_laws_mounts.specs.LettingGo.InUse.{AllInUse, GroupsInUse}
use Rattle.vt_laws_mounts.specs.LettingGo.Leaving.{MountsStand}
use Rattle.vt_laws_mounts.specs.LettingGo.Pivoting.{PivotedLetsGo, PivotsLetGo}
use Rattle.vt_laws_mounts.proofs.letting_go.leaving.Detached.{found-map, not_found-map}
use Rattle.vt_laws_mounts.proofs.letting_go.Lists.{Among, among-flat_map, among-from_flat_map, among-from_map, among-map, among_from_list_all, any-map, any_among, any_from_among, list_all_from_among, or_left, or_right}
use Rattle.vt_laws_mounts.proofs.letting_go.mounting.MountingLosers.{Loses, StillALocation, StillAPlace, losers_go}
use Rattle.vt_laws_mounts.proofs.letting_go.leaving.PlacesLeft.{found_is_there, found_itself}

module _ (world : World ℕ) (namespace old new : ℕ) (put : Location ℕ) (in_use : AllInUse world)
    (stand : MountsStand world)
    (old_attached : is_attached world old ≡ true) (new_attached : is_attached world new ≡ true) where
  abbrev root : Mount ℕ
  root = mount_numbered nat_eq world old

  abbrev target : Mount ℕ
  target = mount_numbered nat_eq world new

  abbrev pub after : World ℕ
  after = pivoted nat_eq world namespace root target put

  abbrev change : Mount ℕ → Mount ℕ
  change = pivoted_mount nat_eq root target put

  root_there : Among root world.mounts
  root_there = found_is_there _ old old_attached

  target_there : Among target world.mounts
  target_there = found_is_there _ new new_attached

  itself : (a b : Mount ℕ) → Among a world.mounts → Among b world.mounts → nat_eq a.number b.number ≡ true → a ≡ b
  itself a b m n e = sym (found_itself _ stand.one_number a m) ∙ ap (mount_in nat_eq world.mounts)
      (eqb-true a.number b.number e) ∙ found_itself _ stand.one_number b n

  -- a mount keeps all but its place
  keeps : {A : Type 0} (part : Mount ℕ → A) → ((mount : Mount ℕ) (at : Option (Location ℕ))
      → part (record mount { mount_point = at }) ≡ part mount) → (mount : Mount ℕ) → part (change mount) ≡ part mount
  keeps part same mount = grind (arith, common_steps)

  number_kept : (mount : Mount ℕ) → (change mount).number ≡ mount.number
  number_kept mount = keeps (λ x. x.number) (λ x at. refl) mount

  target_gets : (change target).mount_point ≡ root.mount_point
  target_gets = ap (λ b. (cond b (record target { mount_point = root.mount_point })
      (cond (nat_eq target.number root.number) (record target { mount_point = Some put }) target)).mount_point)
      (eq-eqb target.number target.number refl)

  -- the new root mount, the old one, or one that stays
  data Is (mount : Mount ℕ) : Type 0 where
    is_target : mount ≡ target → Is mount
    is_root : mount ≡ root → Is mount
    is_other : change mount ≡ mount → Is mount

  which : (mount : Mount ℕ) → Among mount world.mounts → Is mount
  which mount m = grind (arith, common_steps, itself, target_there, root_there)

  -- a location is one still, or it was the root of the old root mount
  left_or_same : (location : Location ℕ)
      → (location ≡ pivoted_location nat_eq root target location) ⊎ (location ≡ root_of root)
  left_or_same location = grind (arith, common_steps, same_location_is)

  of_task : (task : Task ℕ) (location : Location ℕ) → Among location (locations_of task)
      → Among location (locations_of (pivoted_task nat_eq namespace root target task)) ⊎ (location ≡ root_of root)
  of_task task location m = grind (arith, common_steps, left_or_same)

  still : (location : Location ℕ) → Among location (all_locations world)
      → Among location (all_locations after) ⊎ (location ≡ root_of root)
  still location m =
      let from = among-from_flat_map locations_of world.tasks location m in
      ⊎_elim
      (λ there. inl (among-flat_map locations_of after.tasks (pivoted_task nat_eq namespace root target from.0) location
      (among-map (pivoted_task nat_eq namespace root target) world.tasks from.0 from.1) there)) inr
      (of_task from.0 location from.2)

  still_used : (location : Location ℕ) → Among location (all_locations world) → StillALocation after [] location
  still_used location m = ⊎_elim inl (λ was. inr (
    change root,
    (among-map change world.mounts root root_there, (keeps root_of (λ x at. refl) root ∙ sym was, refl)),
  )) (still location m)

  lives : (mount : Mount ℕ) → Among mount world.mounts → mount_lives nat_eq after (change mount) ≡ true
  lives mount m = ap (λ b. b || is_located nat_eq after (change mount).number)
      (keeps (λ x. is_some x.namespace) (λ x at. refl) mount)
      ∙ ap (λ n. is_some mount.namespace || is_located nat_eq after n) (number_kept mount) ∙ ⊎_elim
      (or_left (is_some mount.namespace) (is_located nat_eq after mount.number))
      (λ at. let t = any_among (λ l. nat_eq mount.number l.mount) (all_locations world) at in
      ⊎_elim (λ there. or_right (is_some mount.namespace) (is_located nat_eq after mount.number)
      (any_from_among (λ l. nat_eq mount.number l.mount) (all_locations after) t.0 there t.2))
      (λ was. or_left (is_some mount.namespace) (is_located nat_eq after mount.number)
      (ap (λ (x : Mount ℕ). is_some x.namespace) (itself mount root m root_there
      (sym (ap (λ (l : Location ℕ). nat_eq mount.number l.mount) was) ∙ t.2)) ∙ old_attached)) (still t.0 t.1))
      (or_cases (is_some mount.namespace) (is_located nat_eq world mount.number)
      (among_from_list_all (mount_lives nat_eq world) world.mounts in_use.mounts mount m))

  nowhere : (mount : Mount ℕ) → Among mount world.mounts → is_nowhere_or_attached (change mount) ≡ true
  nowhere mount m = by (which mount m)
    where
      in_one : is_some mount.namespace ≡ true → is_nowhere_or_attached (change mount) ≡ true
      in_one e = or_left _ _ (keeps (λ x. is_some x.namespace) (λ x at. refl) mount ∙ e)

      by : Is mount → is_nowhere_or_attached (change mount) ≡ true
      by (is_target e) = in_one (cc)
      by (is_root e) = in_one (cc)
      by (is_other e) = cc (among_from_list_all is_nowhere_or_attached world.mounts stand.nowhere mount m)

  place_still : (mount : Mount ℕ) → Among mount world.mounts → (place : Location ℕ) → mount.mount_point ≡ Some place
      → StillAPlace after.mounts [] place ⊎ Among place (option_to_list target.mount_point)
  place_still mount m place p = by (which mount m)
    where
      by : Is mount → StillAPlace after.mounts [] place ⊎ Among place (option_to_list target.mount_point)
      by known = grind (arith, common_steps, among-map, target_there, target_gets)

  pub loses : Loses world after [] (option_to_list target.mount_point)
  loses = record {
    images = λ mount m. (
      change mount,
      (
        among-map change world.mounts mount m,
        (keeps root_of (λ x at. refl) mount, keeps (λ x. x.filesystem) (λ x at. refl) mount),
      ),
    );
    shown = λ location m. ⊎_elim (λ e. e) (λ found. ap (λ x. x.filesystem)
        (found-map change number_kept world.mounts location.mount found.0 found.1 found.2 found.3)
        ∙ keeps (λ x. x.filesystem) (λ x at. refl) (mount_in nat_eq world.mounts location.mount))
        (not_found-map change number_kept world.mounts location.mount);
    live = λ last m isnt. let from = among-from_map change world.mounts last m in cc (from.2, lives from.0 from.1);
    locations = λ location m. inl (still_used location m);
    places = place_still;
    nowhere = list_all_from_among is_nowhere_or_attached after.mounts (λ last m.
        let from = among-from_map change world.mounts last m in
        cc (from.2, nowhere from.0 from.1));
  }

  pub groups : GroupsInUse after
  groups group none = in_use.groups group (sym (any-map (is_member_of nat_eq group) change world.mounts
      (λ mount. keeps (is_member_of nat_eq group) (λ x at. refl) mount)) ∙ none)

pub pivoted_lets_go : PivotedLetsGo
pivoted_lets_go world namespace old new put settles old_attached new_attached =
    losers_go world last.mounts world.master world.namespaces last.tasks []
    (option_to_list (mount_numbered nat_eq world new).mount_point) [] settles
    (loses world namespace old new put settles.in_use settles.mounts old_attached new_attached) (λ group among none.
    groups world namespace old new put settles.in_use settles.mounts old_attached new_attached group none)
  where
    last : World ℕ
    last = pivoted nat_eq world namespace (mount_numbered nat_eq world old) (mount_numbered nat_eq world new) put

pub pivots_let_go : PivotsLetGo
pivots_let_go fresh world task new put settles old_attached new_attached =
    pivoted_lets_go world task.namespace task.root.mount new put settles old_attached new_attached
