-- What goes when mounts are taken away.
use Rattle.std.proofs.Common.{arith, ◌≡◌, refl, sym, ap, subst, ◌∙◌, inl, inr, ⊎_elim, ℕ, nat_eq, Bool, true, false, cond, ◌||◌, List, filter, map, Option, Some, is_some, option_map, true≢false}
use Rattle.vt_spec.proofs.Common.{Location, Mount, Namespace, Private, Propagation, Shared, Slave, Unbindable, World, after_going, cases_Bool, common_steps, detached, heir, holds_of, inherited, inheriting, is_going, is_located, is_nowhere_or_attached, is_private, list_any, lost_a_group, map_twice, mount_in, mount_lives, inherited_mount_point, or_parts, regrouped_by, root_of, settled, taken_away, with_mounts}
use Rattle.vt_laws_mounts.specs.LettingGo.InUse.{AllInUse}
use Rattle.vt_laws_mounts.specs.LettingGo.Leaving.{IsSettledPlain, MountsStand}
use Rattle.vt_laws_mounts.specs.LettingGo.Mounting.{EndingLetsGo, TakingAwayLetsGo, loses_its_place, places_lost, used_by_mounts}
use Rattle.vt_laws_mounts.specs.LettingGo.OneByOne.{GroupsInUseBut, let_go}
use Rattle.vt_laws_mounts.proofs.letting_go.leaving.Detached.{found-map, not_found-map}
use Rattle.vt_laws_mounts.proofs.letting_go.Lists.{among-filter, among-filter_map, among-from_map, among-map, among_from_list_all, list_all_from_among}
use Rattle.vt_laws_mounts.proofs.letting_go.mounting.MountingLosers.{Loses, changed, losers_go}
use Rattle.vt_laws_mounts.proofs.letting_go.leaving.PlacesLeft.{nowhere_parts}

module _ (world : World ℕ) (gone : List ℕ) (namespaces : List (Namespace ℕ)) where
  abbrev pub without : World ℕ
  without = with_mounts world (map (after_going nat_eq world gone) world.mounts)

  -- a mount afterwards, where groups were handed on and where none was
  abbrev pub change : Bool → Mount ℕ → Mount ℕ
  change true mount = inheriting nat_eq without (after_going nat_eq world gone mount)
  change false mount = after_going nat_eq world gone mount

  abbrev pub masters : Bool → ℕ → Option ℕ
  masters true = λ group. heir nat_eq without (world.master group)
  masters false = world.master

  abbrev pub after : Bool → World ℕ
  after b = changed world (map (change b) world.mounts) (masters b) namespaces world.tasks

  pub is_changed : (b : Bool) → record (regrouped_by nat_eq b without) { namespaces = namespaces } ≡ after b
  is_changed true = ap (λ mounts. changed world mounts (masters true) namespaces world.tasks) (map_twice _ _ _)
  is_changed false = refl

  -- what a mount shows stays
  same_part : {A : Type 0} (part : Mount ℕ → A) (mount : Mount ℕ) → part (detached mount) ≡ part mount
      → part (record mount { mount_point = option_map (inherited_mount_point nat_eq world gone) mount.mount_point })
      ≡ part mount → part (after_going nat_eq world gone mount) ≡ part mount
  same_part part mount down up = grind (arith, common_steps)

  pub same_root : (b : Bool) (mount : Mount ℕ) → root_of (change b mount) ≡ root_of mount
  same_root true mount = same_part root_of mount refl refl
  same_root false mount = same_part root_of mount refl refl

  pub same_number : (b : Bool) (mount : Mount ℕ) → (change b mount).number ≡ mount.number
  same_number true mount = same_part (λ m. m.number) mount refl refl
  same_number false mount = same_part (λ m. m.number) mount refl refl

  pub same_filesystem : (b : Bool) (mount : Mount ℕ) → (change b mount).filesystem ≡ mount.filesystem
  same_filesystem true mount = same_part (λ m. m.filesystem) mount refl refl
  same_filesystem false mount = same_part (λ m. m.filesystem) mount refl refl

  pub shows_the_same : (b : Bool) (number : ℕ) → (mount_in nat_eq (map (change b) world.mounts) number).filesystem
      ≡ (mount_in nat_eq world.mounts number).filesystem
  shows_the_same b number = ⊎_elim (λ e. e) (λ found. ap (λ x. x.filesystem) (found-map _ (same_number b) _ number _
      found.1 found.2 found.3) ∙ same_filesystem b _) (not_found-map _ (same_number b) _ number)

  -- a mount that does not go
  pub stays_there : (mount : Mount ℕ) → is_going nat_eq gone mount.number ≡ false
      → after_going nat_eq world gone mount ≡ record mount {
        mount_point = option_map (inherited_mount_point nat_eq world gone) mount.mount_point;
      }
  stays_there mount isnt = ap (λ c. cond c (detached mount)
      (record mount { mount_point = option_map (inherited_mount_point nat_eq world gone) mount.mount_point })) isnt

  pub same_namespace : (b : Bool) (mount : Mount ℕ) → is_going nat_eq gone mount.number ≡ false
      → (change b mount).namespace ≡ mount.namespace
  same_namespace true mount isnt = ap (λ m. m.namespace) (stays_there mount isnt)
  same_namespace false mount isnt = ap (λ m. m.namespace) (stays_there mount isnt)

  stays_at : (place : Location ℕ) → is_going nat_eq gone place.mount ≡ false
      → inherited_mount_point nat_eq world gone place ≡ place
  stays_at place isnt = grind (arith, common_steps)

  pub same_place : (b : Bool) (mount : Mount ℕ) (place : Location ℕ) → mount.mount_point ≡ Some place
      → is_going nat_eq gone mount.number ≡ false
      → is_going nat_eq gone place.mount ≡ false → (change b mount).mount_point ≡ Some place
  same_place b mount place p isnt on = grind (arith, common_steps, stays_there, stays_at)

  -- one outside every namespace has no place and is private
  private_still : (propagation : Propagation ℕ) → is_private propagation ≡ true
      → is_private (inherited nat_eq without propagation) ≡ true
  private_still (Shared group) h = h
  private_still (Slave master) h = cc
  private_still Private h = h
  private_still Unbindable h = h

  pub nowhere_after : (b : Bool) (mount : Mount ℕ) → is_nowhere_or_attached mount ≡ true
      → is_nowhere_or_attached (change b mount) ≡ true
  nowhere_after b mount h = grind (arith, common_steps, true≢false, nowhere_parts, stays_there, private_still)

  module _ (in_use : AllInUse world) (stand : MountsStand world) where
    pub loses : (b : Bool) → Loses world (after b) gone (places_lost world gone)
    loses b = record {
      images = λ mount m. (
        change b mount,
        (among-map (change b) world.mounts mount m, (same_root b mount, same_filesystem b mount)),
      );
      shown = λ location m. shows_the_same b location.mount;
      live = λ last m isnt. let from = among-from_map (change b) world.mounts last m in
          let other : is_going nat_eq gone from.0.number ≡ false = cc (same_number b from.0, from.2) in
          ap (mount_lives nat_eq world) from.2
          ∙ (λ i. is_some (same_namespace b from.0 other i) || is_located nat_eq world (same_number b from.0 i))
          ∙ among_from_list_all (mount_lives nat_eq world) world.mounts in_use.mounts from.0 from.1;
      locations = λ location m. inl (inl m);
      places = λ mount m place p. ⊎_elim
          (λ is. inr (among-filter_map (λ x. x.mount_point) (filter (loses_its_place gone) world.mounts) mount place
          (among-filter (loses_its_place gone) world.mounts mount m is) p))
          (λ isnt. let parts = or_parts (is_going nat_eq gone mount.number)
          (holds_of (λ l. is_going nat_eq gone l.mount) mount.mount_point) isnt in
          let on : is_going nat_eq gone place.mount ≡ false =
          cc (p, parts.1) in
          inl (
            change b mount,
            (among-map (change b) world.mounts mount m, (same_place b mount place p parts.0 on, inl on)),
          )) (cases_Bool (loses_its_place gone mount));
      nowhere = list_all_from_among is_nowhere_or_attached (map (change b) world.mounts) (λ last m.
          let from = among-from_map (change b) world.mounts last m in
          ap is_nowhere_or_attached from.2 ∙ nowhere_after b from.0
          (among_from_list_all is_nowhere_or_attached world.mounts stand.nowhere from.0 from.1));
    }

-- the world without mounts, with other namespaces
taken_with_namespaces : (world : World ℕ) (gone groups : List ℕ) (namespaces : List (Namespace ℕ))
    → IsSettledPlain world → GroupsInUseBut groups (record (taken_away nat_eq world gone) { namespaces = namespaces })
    → settled nat_eq (record (taken_away nat_eq world gone) { namespaces = namespaces })
    ≡ let_go (record (taken_away nat_eq world gone) { namespaces = namespaces })
    (used_by_mounts world gone (places_lost world gone) groups)
taken_with_namespaces world gone groups namespaces settles hears =
    by (list_any (lost_a_group nat_eq (without world gone namespaces)) (without world gone namespaces).mounts) hears
  where
    taken : Bool → World ℕ
    taken b = record (regrouped_by nat_eq b (without world gone namespaces)) { namespaces = namespaces }

    by : (b : Bool) → GroupsInUseBut groups (taken b) → settled nat_eq (taken b)
        ≡ let_go (taken b) (used_by_mounts world gone (places_lost world gone) groups)
    by b h = subst (λ w. settled nat_eq w ≡ let_go w (used_by_mounts world gone (places_lost world gone) groups))
        (sym (is_changed world gone namespaces b)) (losers_go world (map (change world gone namespaces b) world.mounts)
        (masters world gone namespaces b) namespaces world.tasks gone
        (places_lost world gone) groups settles (loses world gone namespaces settles.in_use settles.mounts b)
        (subst (GroupsInUseBut groups) (is_changed world gone namespaces b) h))

pub same_namespaces : (world : World ℕ) (b : Bool)
    → record (regrouped_by nat_eq b world) { namespaces = world.namespaces } ≡ regrouped_by nat_eq b world
same_namespaces world true = refl
same_namespaces world false = refl

-- the event in which mounts are taken away is a change of each mount
abbrev pub hands_on : World ℕ → List ℕ → Bool
hands_on world gone = list_any (lost_a_group nat_eq (without world gone world.namespaces))
    (without world gone world.namespaces).mounts

pub taken_is : (world : World ℕ) (gone : List ℕ)
    → taken_away nat_eq world gone ≡ after world gone world.namespaces (hands_on world gone)
taken_is world gone = sym (same_namespaces (without world gone world.namespaces) (hands_on world gone))
    ∙ is_changed world gone world.namespaces (hands_on world gone)

pub taking_away_lets_go : TakingAwayLetsGo
taking_away_lets_go world gone groups settles hears =
    grind (arith, common_steps, taken_with_namespaces, same_namespaces)

pub ending_lets_go : EndingLetsGo
ending_lets_go world groups settles hears = taken_with_namespaces world _ groups _ settles hears
