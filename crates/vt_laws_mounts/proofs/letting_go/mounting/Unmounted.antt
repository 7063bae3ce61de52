-- What goes after unmounts, one or several after one another.
use Rattle.std.proofs.Common.{arith, ◌≡◌, refl, sym, ap, subst, ◌∙◌, ◌⊎◌, inl, inr, ⊎_elim, ℕ, nat_eq, Bool, true, false, cond, not, ◌&&◌, List, [], ◌∷◌, map, true≢false, Option, Some, None, is_some}
use Rattle.vt_spec.proofs.Common.{Location, Mount, World, cases_Bool, common_steps, deepest_first, false_from_ne_true, folded, has_members, heir, is_among, is_going, is_located, is_member_of, is_nowhere_or_attached, lazily_unmounted, list_any, lost_a_group, map_twice, mount_at, mount_in, mount_lives, mount_numbered, mount_tree, number-mount_in, or_cases, or_parts, regrouped_by, root_of, settled, taken_away, unmounted, unmounted_if_there}
use Rattle.vt_laws_mounts.specs.LettingGo.InUse.{AllInUse, GroupsInUse}
use Rattle.vt_laws_mounts.specs.LettingGo.Unmounting.{LazyUnmountsLetGo, MountsOnDirectoriesLetGo, TreesLetGo, UnmountsLetGo, detached_between, groups_of_mounts, used_by_gone}
use Rattle.vt_laws_mounts.specs.LettingGo.Leaving.{IsSettledPlain, MountsStand}
use Rattle.vt_laws_mounts.specs.LettingGo.Mounting.{places_lost}
use Rattle.vt_laws_mounts.specs.LettingGo.OneByOne.{GroupsInUseBut, let_go}
use Rattle.vt_laws_mounts.proofs.letting_go.leaving.Detached.{found-map, not_found-map}
use Rattle.vt_laws_mounts.proofs.letting_go.Lists.{Among, list_all_from_among, among-filter, among-filter_map, among-from_map, among-map, any_from_among, is_among_numbers, map_same, none_from_among, or_left, or_right, among_from_list_all, held_number}
use Rattle.vt_laws_mounts.proofs.letting_go.mounting.MountingLosers.{Loses, StillAPlace, changed, losers_go}
use Rattle.vt_laws_mounts.proofs.letting_go.mounting.MountingTaken.{is_changed, nowhere_after, same_filesystem, same_namespace, same_namespaces, same_number, same_place, same_root, stays_there, taking_away_lets_go}
use Rattle.vt_laws_mounts.proofs.letting_go.mounting.MountingTaken
use Rattle.vt_laws_mounts.proofs.letting_go.leaving.PlacesLeft.{found_is_there, found_itself, nowhere_parts, placed_is_attached, private_is_no_member, place_attached}

-- Where the other mounts stay in their groups, a group that is none of those of the mounts that went and has no members
-- had none, and no master
pub no_members : (world after : World ℕ) (gone : List ℕ) → GroupsInUse world
    → ((mount : Mount ℕ) → Among mount world.mounts → is_among nat_eq mount.number gone ≡ false → (group : ℕ)
    → is_member_of nat_eq group mount ≡ true → has_members nat_eq after.mounts group ≡ true)
    → (group : ℕ) → is_among nat_eq group (groups_of_mounts world gone) ≡ false
    → has_members nat_eq after.mounts group ≡ false → world.master group ≡ None
no_members world after gone in_use stay group among none = in_use group
    (none_from_among _ _ (λ mount m. false_from_ne_true _ (λ is. ⊎_elim
    (λ went. true≢false (sym (is_among_numbers group _ (among-filter_map _ _ mount group (among-filter _ _ mount m went)
    (held_number group _ is))) ∙ among)) (λ kept. cc (stay mount m kept group is)) (cases_Bool _))))

-- So all other groups have members or no master
groups_but : (world after : World ℕ) (gone : List ℕ) → GroupsInUse world
    → ((mount : Mount ℕ) → Among mount world.mounts → is_among nat_eq mount.number gone ≡ false → (group : ℕ)
    → is_member_of nat_eq group mount ≡ true → has_members nat_eq after.mounts group ≡ true)
    → ((group : ℕ) → world.master group ≡ None → after.master group ≡ None)
    → GroupsInUseBut (groups_of_mounts world gone) after
groups_but world after gone in_use stay masters group among none =
    masters group (no_members world after gone in_use stay group among none)

module _ (world : World ℕ) (gone : List ℕ) where
  abbrev without : World ℕ
  without = MountingTaken.without world gone world.namespaces

  abbrev change : Bool → Mount ℕ → Mount ℕ
  change = MountingTaken.change world gone world.namespaces

  abbrev masters : Bool → ℕ → Option ℕ
  masters = MountingTaken.masters world gone world.namespaces

  abbrev hands_on : Bool
  hands_on = list_any (lost_a_group nat_eq without) without.mounts

  -- an event is a change of each mount
  one_event : (b : Bool) → regrouped_by nat_eq b without ≡ changed world (map (change b) world.mounts)
      (masters b) world.namespaces world.tasks
  one_event b = sym (same_namespaces _ b) ∙ is_changed world gone _ b

  -- one that goes is in no namespace then
  outside : (b : Bool) (mount : Mount ℕ) → is_going nat_eq gone mount.number ≡ true
      → is_some (change b mount).namespace ≡ false
  outside b mount is = grind (arith, common_steps)

  -- one that is in a namespace then does not go
  pub does_not_go : (b : Bool) (mount : Mount ℕ) → is_some (change b mount).namespace ≡ true
      → is_going nat_eq gone mount.number ≡ false
  does_not_go b mount e = false_from_ne_true _ (λ is. cc (outside b mount is))

  -- a mount that does not go stays in its group
  stays_member : (b : Bool) (mount : Mount ℕ) → is_going nat_eq gone mount.number ≡ false → (group : ℕ)
      → is_member_of nat_eq group mount ≡ true → is_member_of nat_eq group (change b mount) ≡ true
  stays_member true mount isnt group is =
      grind (arith, common_steps, stays_there world gone world.namespaces mount isnt, true≢false)
  stays_member false mount isnt group is = cc (stays_there world gone world.namespaces mount isnt, is)

  masters_end : (b : Bool) (group : ℕ) → world.master group ≡ None → masters b group ≡ None
  masters_end true group e = ap (heir nat_eq without) e
  masters_end false group e = e

pub event_groups : (world : World ℕ) (gone : List ℕ) → GroupsInUse world
    → GroupsInUseBut (groups_of_mounts world gone) (taken_away nat_eq world gone)
event_groups world gone in_use =
    subst (GroupsInUseBut (groups_of_mounts world gone)) (sym (one_event world gone b)) then_
  where
    b : Bool
    b = hands_on world gone

    after : World ℕ
    after = changed world (map (change world gone b) world.mounts) (masters world gone b) world.namespaces world.tasks

    then_ : GroupsInUseBut (groups_of_mounts world gone) after
    then_ = groups_but world after gone in_use (λ mount m isnt group is. any_from_among _ _ _ (among-map _ _ mount m)
        (stays_member world gone b mount isnt group is)) (masters_end world gone b)

one_event_lets_go : (world : World ℕ) (gone : List ℕ) → IsSettledPlain world
    → settled nat_eq (taken_away nat_eq world gone) ≡ let_go (taken_away nat_eq world gone) (used_by_gone world gone)
one_event_lets_go world gone settles =
    taking_away_lets_go world gone (groups_of_mounts world gone) settles (event_groups world gone settles.in_use.groups)

pub unmounts_let_go : UnmountsLetGo
unmounts_let_go fresh world task mount settles = one_event_lets_go world _ settles

pub trees_let_go : TreesLetGo
trees_let_go world mounts settles = one_event_lets_go world _ settles

pub mounts_on_directories_let_go : MountsOnDirectoriesLetGo
mounts_on_directories_let_go world directory settles = one_event_lets_go world _ settles

-- Several events after one another

-- What a world is after some: each mount is in its namespace or in none, and what is in one keeps its place while the
-- mount that it is on is in one
pub record Faded (world now : World ℕ) : Type 0 where
  pub change : Mount ℕ → Mount ℕ
  pub is : now ≡ changed world (map change world.mounts) now.master world.namespaces world.tasks
  pub number : (mount : Mount ℕ) → (change mount).number ≡ mount.number
  pub root : (mount : Mount ℕ) → root_of (change mount) ≡ root_of mount
  pub filesystem : (mount : Mount ℕ) → (change mount).filesystem ≡ mount.filesystem
  pub place : (mount : Mount ℕ) (at : Location ℕ) → mount.mount_point ≡ Some at
      → is_some (change mount).namespace ≡ true
      → is_some (change (mount_at nat_eq world at)).namespace ≡ true → (change mount).mount_point ≡ Some at
  pub nowhere : (mount : Mount ℕ) → Among mount world.mounts → is_nowhere_or_attached (change mount) ≡ true
  pub member : (mount : Mount ℕ) → is_some (change mount).namespace ≡ true → (group : ℕ)
      → is_member_of nat_eq group mount ≡ true → is_member_of nat_eq group (change mount) ≡ true
  pub master : (group : ℕ) → world.master group ≡ None → now.master group ≡ None

begun : (world : World ℕ) → MountsStand world → Faded world world
begun world stand = record {
  change = λ mount. mount;
  is = ap (λ mounts. changed world mounts world.master world.namespaces world.tasks)
      (sym (map_same (λ mount. mount) world.mounts (λ mount m. refl)));
  number = λ mount. refl;
  root = λ mount. refl;
  filesystem = λ mount. refl;
  place = λ mount at e here there. e;
  nowhere = λ mount m. among_from_list_all is_nowhere_or_attached world.mounts stand.nowhere mount m;
  member = λ mount here group is. is;
  master = λ group e. e;
}

module _ (world now : World ℕ) (faded : Faded world now) (gone : List ℕ) where
  abbrev b : Bool
  b = hands_on now gone

  abbrev next : Mount ℕ → Mount ℕ
  next mount = change now gone b (faded.change mount)

  abbrev then_ : World ℕ
  then_ = taken_away nat_eq now gone

  next_is : then_ ≡ changed world (map next world.mounts) then_.master world.namespaces world.tasks
  next_is = grind (arith, common_steps, then_, changed, one_event, map_twice)

  still_in_one : (mount : Mount ℕ) → is_some (next mount).namespace ≡ true
      → is_some (faded.change mount).namespace ≡ true
  still_in_one mount e = ap is_some (sym (same_namespace now gone now.namespaces b (faded.change mount)
      (does_not_go now gone b (faded.change mount) e))) ∙ e

  fades : Faded world then_
  fades = record {
    change = next;
    is = next_is;
    number = λ mount. same_number now gone now.namespaces b (faded.change mount) ∙ faded.number mount;
    root = λ mount. same_root now gone now.namespaces b (faded.change mount) ∙ faded.root mount;
    filesystem = λ mount. same_filesystem now gone now.namespaces b (faded.change mount) ∙ faded.filesystem mount;
    place = λ mount at e here there. same_place now gone now.namespaces b (faded.change mount) at
        (faded.place mount at e (still_in_one mount here) (still_in_one (mount_at nat_eq world at) there))
        (does_not_go now gone b (faded.change mount) here)
        (ap (is_going nat_eq gone) (sym (faded.number (mount_at nat_eq world at)
        ∙ number-mount_in world.mounts at.mount))
        ∙ does_not_go now gone b (faded.change (mount_at nat_eq world at)) there);
    nowhere = λ mount m. nowhere_after now gone now.namespaces b (faded.change mount) (faded.nowhere mount m);
    member = λ mount here group is.
        stays_member now gone b (faded.change mount) (does_not_go now gone b (faded.change mount) here) group
        (faded.member mount (still_in_one mount here) group is);
    master = λ group e. ap (λ w. w.master group) (one_event now gone b)
        ∙ masters_end now gone b group (faded.master group e);
  }

all_events : (world : World ℕ) (mounts : List (Mount ℕ)) (now : World ℕ) → Faded world now
    → Faded world (folded (unmounted_if_there nat_eq) now mounts)
all_events world [] now faded = faded
all_events world (mount ∷ mounts) now faded = all_events world mounts _ (by _)
  where
    by : (c : Bool) → Faded world (cond c (unmounted nat_eq now mount.number) now)
    by true = fades world now faded _
    by false = faded

module _ (world now : World ℕ) (in_use : AllInUse world) (stand : MountsStand world) (faded : Faded world now) where
  abbrev last : World ℕ
  last = changed world (map faded.change world.mounts) now.master world.namespaces world.tasks

  abbrev lost : List ℕ
  lost = detached_between world now

  found_now : (mount : Mount ℕ) → Among mount world.mounts → mount_numbered nat_eq now mount.number ≡ faded.change mount
  found_now mount m =
      let itself = found_itself _ stand.one_number mount m in
      ap (λ w. mount_numbered nat_eq w mount.number) faded.is
      ∙ found-map _ faded.number _ _ mount m itself refl ∙ ap faded.change itself

  -- what is not lost is in its namespace
  in_one_still : (mount : Mount ℕ) → Among mount world.mounts → is_some mount.namespace ≡ true
      → is_among nat_eq mount.number lost ≡ false → is_some (faded.change mount).namespace ≡ true
  in_one_still mount m e isnt = ⊎_elim (λ is. is) (λ out. absurd (true≢false
      (sym (is_among_numbers _ lost (among-map _ _ mount (among-filter _ _ mount m
      (ap (λ c. c && not (is_some (mount_numbered nat_eq now mount.number).namespace)) e ∙ ap
      (λ x. not (is_some x.namespace)) (found_now mount m) ∙ ap not out)))) ∙ isnt))) (cases_Bool _)

  placed_in_one : (mount : Mount ℕ) → Among mount world.mounts → (at : Location ℕ) → mount.mount_point ≡ Some at
      → is_some mount.namespace ≡ true
  placed_in_one mount m at p = placed_is_attached mount (among_from_list_all _ _ stand.nowhere mount m) at p

  member_is_in_one : (mount : Mount ℕ) → Among mount world.mounts → (group : ℕ) → is_member_of nat_eq group mount ≡ true
      → is_some mount.namespace ≡ true
  member_is_in_one mount m group is = ⊎_elim (λ in_one. in_one) (λ out. absurd
      (true≢false (sym is ∙ private_is_no_member group mount (nowhere_parts mount (among_from_list_all _ _ stand.nowhere
      mount m) out).1))) (cases_Bool _)

  lives : (mount : Mount ℕ) → Among mount world.mounts → is_among nat_eq mount.number lost ≡ false
      → mount_lives nat_eq last (faded.change mount) ≡ true
  lives mount m isnt = ⊎_elim (λ in_one. or_left _ _ (in_one_still mount m in_one isnt))
      (λ at. or_right _ _ (ap (is_located nat_eq world) (faded.number mount) ∙ at))
      (or_cases _ _ (among_from_list_all _ _ in_use.mounts mount m))

  place_still : (mount : Mount ℕ) → Among mount world.mounts → (at : Location ℕ) → mount.mount_point ≡ Some at
      → StillAPlace last.mounts lost at ⊎ Among at (places_lost world lost)
  place_still mount m at p = ⊎_elim (λ loses. inr (among-filter_map _ _ mount at (among-filter _ _ mount m loses) p))
      (λ keeps. let parts = or_parts _ _ keeps in
      let on : is_going nat_eq lost at.mount ≡ false =
      cc (p, parts.1) in
      let parent = place_attached world stand mount m at p in
      inl (
        faded.change mount,
        (
          among-map _ _ mount m,
          (
            faded.place mount at p (in_one_still mount m (placed_in_one mount m at p) parts.0)
                (in_one_still _ (found_is_there _ _ parent) parent (cc (number-mount_in world.mounts at.mount, on))),
            inl on,
          ),
        ),
      )) (cases_Bool _)

  pub loses : Loses world last lost (places_lost world lost)
  loses = record {
    images = λ mount m. (
      faded.change mount,
      (among-map faded.change world.mounts mount m, (faded.root mount, faded.filesystem mount)),
    );
    shown = λ location m. ⊎_elim (λ e. e) (λ found. ap (λ x. x.filesystem)
        (found-map faded.change faded.number world.mounts location.mount found.0 found.1 found.2 found.3)
        ∙ faded.filesystem (mount_in nat_eq world.mounts location.mount))
        (not_found-map faded.change faded.number world.mounts location.mount);
    live = λ x m isnt. let from = among-from_map faded.change world.mounts x m in
        ap (mount_lives nat_eq last) from.2 ∙ lives from.0 from.1 (ap (λ n. is_among nat_eq n lost)
        (sym (faded.number from.0) ∙ ap (λ (y : Mount ℕ). y.number) (sym from.2)) ∙ isnt);
    locations = λ location m. inl (inl m);
    places = place_still;
    nowhere = list_all_from_among is_nowhere_or_attached last.mounts (λ x m.
        let from = among-from_map faded.change world.mounts x m in
        cc (from.2, faded.nowhere from.0 from.1));
  }

  pub groups : GroupsInUseBut (groups_of_mounts world lost) last
  groups = groups_but world last lost in_use.groups (λ mount m isnt group is. any_from_among _ _ _
      (among-map _ _ mount m) (faded.member mount (in_one_still mount m (member_is_in_one mount m group is) isnt) group
      is)) faded.master

pub faded_lets_go : (world now : World ℕ) → IsSettledPlain world → Faded world now
    → settled nat_eq now ≡ let_go now (used_by_gone world (detached_between world now))
faded_lets_go world now settles faded = grind (
  arith,
  common_steps,
  losers_go,
  loses world now settles.in_use settles.mounts faded,
  groups world now settles.in_use settles.mounts faded,
)

-- a lazy unmount is several events
pub lazily_fades : (world : World ℕ) (number : ℕ) → MountsStand world
    → Faded world (lazily_unmounted nat_eq world number)
lazily_fades world number stand = all_events world (deepest_first nat_eq world
    (mount_tree nat_eq world.mounts (mount_numbered nat_eq world number))) world (begun world stand)

pub lazy_unmounts_let_go : LazyUnmountsLetGo
lazy_unmounts_let_go fresh world task number settles =
    faded_lets_go world _ settles (lazily_fades world number settles.mounts)
