-- An unmount takes just the mounts that propagation names.
use Rattle.std.proofs.Common.{arith, ◌≡◌, refl, sym, ap, ◌∙◌, ℕ, zero, suc, nat_eq, Bool, true, false, true≢false, List, length, map, Option, Some, None, is_some, find, if◌then◌else◌, option_map}
use Rattle.vt_spec.proofs.Common.{Location, Mount, Private, Propagation, Shared, Slave, Unbindable, World, after_going, among_from_list_all, and_parts, chain, chain_ends, chain_goes_on, common_steps, detached, found_or_none, going, groups_up, has_members, inherited, inheriting, is_going, last_of_chain, last_or, length-map, mount_at, mount_in, mount_numbered, inherited_mount_point, mount_point_of_parent, no_mount, not-true, number-mount_in, slave_of_heir, stands_in_its_namespace, taken_away, with_mounts}
use Rattle.vt_laws_mounts.specs.Mounts.Unmounting.{FallsTo, GroupsKeepTheirMasters, KeepsAllButMounts, KeepsAllButMountPointAndType, ChainsEnd, RootMountsStay, SlavesAreInherited, UnmountIsOfMounts, UnmountKeepsTheOrder, WhatCoveredFalls, WhatGoesIsDetached, WhatStaysKeeps, WhatStaysKeepsItsMountPoint, WhatStaysKeepsItsType, has_its_master}
use Rattle.vt_laws_mounts.specs.Mounts.Unmounting.FallsTo.{falls, rests}
use Rattle.vt_laws_mounts.proofs.Groups.{inherited_kept, master-regrouped, members-regrouped, mounts-regrouped}
use Rattle.vt_spec.proofs.Lists.{find_agrees}
use Rattle.vt_laws_mounts.proofs.mounts.MountsFound.{found-map, numbers-map}
pub use Rattle.vt_spec.proofs.Worlds.{number-after_going}

module _ (world : World ℕ) (gone : List ℕ) where
  -- one mount after the event
  pub going_is_detached : (mount : Mount ℕ) → is_going nat_eq gone mount.number ≡ true
      → after_going nat_eq world gone mount ≡ detached mount
  going_is_detached mount e = ap (λ b. if b then detached mount else
      (record mount { mount_point = option_map (inherited_mount_point nat_eq world gone) mount.mount_point })) e

  pub staying_is_placed : (mount : Mount ℕ) → is_going nat_eq gone mount.number ≡ false
      → after_going nat_eq world gone mount
      ≡ record mount { mount_point = option_map (inherited_mount_point nat_eq world gone) mount.mount_point }
  staying_is_placed mount e = ap (λ b. if b then detached mount else
      (record mount { mount_point = option_map (inherited_mount_point nat_eq world gone) mount.mount_point })) e

  none_after : (number : ℕ) → after_going nat_eq world gone (no_mount number) ≡ no_mount number
  none_after number = grind (arith, common_steps)

  -- the world in which they are detached, before groups inherit
  abbrev pub middle : World ℕ
  middle = with_mounts world (map (after_going nat_eq world gone) world.mounts)

  pub taken : (number : ℕ) → mount_numbered nat_eq (taken_away nat_eq world gone) number ≡ inheriting nat_eq middle
      (after_going nat_eq world gone (mount_numbered nat_eq world number))
  taken number = ap (λ mounts. mount_in nat_eq mounts number) (mounts-regrouped middle) ∙ found-map _ (λ mount. refl) _
      number refl ∙ ap (inheriting nat_eq middle) (found-map _ (number-after_going world gone) _ number
      (none_after number))

  pub numbers_taken : map (λ mount. mount.number) (taken_away nat_eq world gone).mounts
      ≡ map (λ mount. mount.number) world.mounts
  numbers_taken = ap (map (λ mount. mount.number)) (mounts-regrouped middle) ∙ numbers-map _ (λ mount. refl) _
      ∙ numbers-map _ (number-after_going world gone) _

  -- what goes, by the number of what is found
  taken_going : (number : ℕ) → is_going nat_eq gone (mount_numbered nat_eq world number).number ≡ true
      → mount_numbered nat_eq (taken_away nat_eq world gone) number ≡ detached (mount_numbered nat_eq world number)
  taken_going number e = taken number ∙ ap (inheriting nat_eq middle) (going_is_detached _ e)

  taken_staying : (number : ℕ) → is_going nat_eq gone (mount_numbered nat_eq world number).number ≡ false
      → mount_numbered nat_eq (taken_away nat_eq world gone) number ≡ inheriting nat_eq middle
      (record (mount_numbered nat_eq world number) {
        mount_point = option_map (inherited_mount_point nat_eq world gone) (mount_numbered nat_eq world number).mount_point;
      })
  taken_staying number e = taken number ∙ ap (inheriting nat_eq middle) (staying_is_placed _ e)

  -- Places

  -- the place of the mount that a place is on
  abbrev down : Location ℕ → Option (Location ℕ)
  down place = (mount_at nat_eq world place).mount_point

  pub left_at_rest : (n : ℕ) (place : Location ℕ) → is_going nat_eq gone place.mount ≡ false
      → last_or place (chain n (mount_point_of_parent nat_eq world gone) place) ≡ place
  left_at_rest zero place e = refl
  left_at_rest (suc n) place e = ap (last_or place) (chain_ends (mount_point_of_parent nat_eq world gone) n place
      (ap (λ b. if b then down place else None) e))

  -- the places below a place end within so many steps
  abbrev EndsBelow : ℕ → Location ℕ → Type 0
  EndsBelow n place = is_some (down (last_or place (chain n down place))) ≡ false

  falls_to_rest : (n : ℕ) (place rest : Location ℕ) → EndsBelow n place → FallsTo world gone place rest
      → last_or place (chain n (mount_point_of_parent nat_eq world gone) place) ≡ rest
  falls_to_rest n place rest ends (rests at stays) = left_at_rest n at stays
  falls_to_rest zero place rest ends (falls at below end goes under later) = grind (arith, common_steps, true≢false)
  falls_to_rest (suc n) place rest ends (falls at below end goes under later) =
      grind (arith, common_steps, chain_goes_on, last_of_chain, falls_to_rest n below end)

  abbrev below_mount : Mount ℕ → Option (Mount ℕ)
  below_mount mount = option_map (mount_at nat_eq world) mount.mount_point

  -- the mounts below the mount of a place are those of the places below it
  same_end : (n : ℕ) (place : Location ℕ)
      → (last_or (mount_at nat_eq world place) (chain n below_mount (mount_at nat_eq world place))).mount_point ≡ down
      (last_or place (chain n down place))
  same_end zero place = refl
  same_end (suc n) place = grind (arith, common_steps, same_end n, chain_ends, chain_goes_on, last_of_chain)

  ends_below : ChainsEnd world → (place : Location ℕ) → EndsBelow (length world.mounts) place
  ends_below ends place = grind (
    arith,
    common_steps,
    same_end (length world.mounts) place,
    not-true,
    and_parts,
    among_from_list_all (stands_in_its_namespace nat_eq world) world.mounts ends (mount_at nat_eq world place),
    found_or_none world.mounts place.mount,
  )

  -- What goes and what stays, by a number
  abbrev left : ℕ → Mount ℕ
  left number = mount_numbered nat_eq (taken_away nat_eq world gone) number

  abbrev before_it : ℕ → Mount ℕ
  before_it number = mount_numbered nat_eq world number

  goes_so : (number : ℕ) (b : Bool) → is_going nat_eq gone number ≡ b
      → is_going nat_eq gone (before_it number).number ≡ b
  goes_so number b e = ap (is_going nat_eq gone) (number-mount_in _ number) ∙ e

  pub detached_by_number : (number : ℕ) → is_going nat_eq gone number ≡ true → left number ≡ detached (before_it number)
  detached_by_number number e = taken_going number (goes_so number true e)

  pub kept_by_number : (number : ℕ) → is_going nat_eq gone number ≡ false
      → KeepsAllButMountPointAndType (before_it number) (left number)
  kept_by_number number e =
      grind (arith, common_steps, taken_staying number (goes_so number false e), goes_so number false e)

  place_by_number : (number : ℕ) (place : Location ℕ) → is_going nat_eq gone number ≡ false
      → (before_it number).mount_point ≡ Some place
      → (left number).mount_point ≡ Some (inherited_mount_point nat_eq world gone place)
  place_by_number number place e at = cc (taken_staying number (goes_so number false e))

  pub place_kept : (number : ℕ) (place : Location ℕ) → is_going nat_eq gone number ≡ false
      → (before_it number).mount_point ≡ Some place
      → is_going nat_eq gone place.mount ≡ false → (left number).mount_point ≡ Some place
  place_kept number place e at stays = place_by_number number place e at ∙ ap Some (left_at_rest _ place stays)

  pub place_fallen : ChainsEnd world → (number : ℕ) (place rest : Location ℕ) → is_going nat_eq gone number ≡ false
      → (before_it number).mount_point ≡ Some place → FallsTo world gone place rest
      → (left number).mount_point ≡ Some rest
  place_fallen ends number place rest e at fall = place_by_number number place e at
      ∙ ap Some (falls_to_rest _ place rest (ends_below ends place) fall)

  pub root_stays : (number : ℕ) → (before_it number).mount_point ≡ None → (left number).mount_point ≡ None
  root_stays number at = grind (arith, common_steps, taken number, going_is_detached, staying_is_placed)

  -- Types
  type_by_number : (number : ℕ) → is_going nat_eq gone number ≡ false
      → (left number).propagation ≡ inherited nat_eq middle (before_it number).propagation
  type_by_number number e = ap (λ m. m.propagation) (taken_staying number (goes_so number false e))

  members_of_middle : (group : ℕ)
      → has_members nat_eq (taken_away nat_eq world gone).mounts group ≡ has_members nat_eq middle.mounts group
  members_of_middle group = members-regrouped middle group

  pub type_kept : (number : ℕ) → is_going nat_eq gone number ≡ false
      → has_its_master (taken_away nat_eq world gone) (before_it number).propagation ≡ true
      → (left number).propagation ≡ (before_it number).propagation
  type_kept number e has = type_by_number number e ∙ by _ has
    where
      by : (kind : Propagation ℕ) → has_its_master (taken_away nat_eq world gone) kind ≡ true
          → inherited nat_eq middle kind ≡ kind
      by (Shared group) h = refl
      by (Slave above) h = inherited_kept middle above (sym (members_of_middle above) ∙ h)
      by Private h = refl
      by Unbindable h = refl

  pub slave_inherits : (number master : ℕ) → is_going nat_eq gone number ≡ false
      → (before_it number).propagation ≡ Slave master → (left number).propagation ≡ slave_of_heir
      (find (has_members nat_eq (taken_away nat_eq world gone).mounts) (groups_up world master))
  slave_inherits number master e slave = type_by_number number e ∙ ap (inherited nat_eq middle) slave ∙ ap
      (λ n. slave_of_heir (find (has_members nat_eq middle.mounts) (chain n world.master master)))
      (length-map world.mounts (after_going nat_eq world gone)) ∙ ap slave_of_heir
      (find_agrees _ _ (λ group. sym (members_of_middle group)) _)

  pub master_kept : (group master : ℕ) → world.master group ≡ Some master
      → has_members nat_eq (taken_away nat_eq world gone).mounts master ≡ true
      → (taken_away nat_eq world gone).master group ≡ Some master
  master_kept group master e h = master-regrouped middle group master e (sym (members_of_middle master) ∙ h)

  pub all_but_mounts : KeepsAllButMounts world (taken_away nat_eq world gone)
  all_but_mounts = grind (arith, common_steps)

-- At an unmount
abbrev gone_with : World ℕ → ℕ → List ℕ
gone_with world one = going nat_eq world (mount_numbered nat_eq world one)

pub unmount_keeps_the_order : UnmountKeepsTheOrder
unmount_keeps_the_order world one = numbers_taken world _

pub what_goes_is_detached : WhatGoesIsDetached
what_goes_is_detached world one number e = detached_by_number world _ number e

pub what_stays_keeps : WhatStaysKeeps
what_stays_keeps world one number e = kept_by_number world _ number e

pub what_stays_keeps_its_place : WhatStaysKeepsItsMountPoint
what_stays_keeps_its_place world one number place e at stays = place_kept world _ number place e at stays

pub root_mounts_stay : RootMountsStay
root_mounts_stay world one number at = root_stays world _ number at

pub what_covered_falls : WhatCoveredFalls
what_covered_falls world one number place rest ends e at fall = place_fallen world _ ends number place rest e at fall

pub what_stays_keeps_its_type : WhatStaysKeepsItsType
what_stays_keeps_its_type world one number e has = type_kept world _ number e has

pub slaves_are_inherited : SlavesAreInherited
slaves_are_inherited world one number master e slave = slave_inherits world _ number master e slave

pub groups_keep_their_masters : GroupsKeepTheirMasters
groups_keep_their_masters world one group master e h = master_kept world _ group master e h

pub unmount_is_of_mounts : UnmountIsOfMounts
unmount_is_of_mounts world one = all_but_mounts world _
