-- What the sweep leaves of mounts: those in namespaces stay, with all their groups, and those outside are private.
use Rattle.std.proofs.Common.{◌≡◌, refl, sym, ap, subst, ◌∙◌, ℕ, nat_eq, true, false, not, ◌&&◌, List, ◌≤◌, filter, length, map, Option, Some, None, is_some, unwrap_or, arith, option_to_list}
use Rattle.vt_spec.proofs.Common.{Lives, Location, Mount, MountInvariants, Stands, World, group_of, has_master, has_members, has_no_master, is_private, length-filter_both, list_all, mount_at, mount_in, mount_lives, number-mount_in, or_parts, settled}
use Rattle.vt_laws_mounts.specs.LettingGo.Leaving.{MountsStand, stands_on_attached}
use Rattle.vt_laws_mounts.proofs.letting_go.Chains.{Way}
use Rattle.vt_laws_mounts.proofs.letting_go.Chains.Way.{ends, goes_on}
use Rattle.vt_laws_mounts.proofs.letting_go.Lists.{Among, list_all_from_among, among-filter, among-from_filter, among-map, among_from_all, any-filter, any_among, or_left, among_from_list_all, held_number}
use Rattle.vt_laws_mounts.proofs.namespaces.Unsharing.{parent_of}
use Rattle.vt_laws_mounts.proofs.letting_go.leaving.PlacesLeft.{found_in_filter, found_is_there, found_itself, nowhere_parts, placed_is_attached, private_is_no_member}

-- By their invariants mounts stand, each on one of its namespace.
module _ (world : World ℕ) (kept : MountInvariants nat_eq world) where
  pub beside_parent : (mount : Mount ℕ) → Among mount world.mounts → (place : Location ℕ)
      → mount.mount_point ≡ Some place → mount.namespace ≡ (mount_at nat_eq world place).namespace
  beside_parent mount m place p =
      let parent = parent_of world kept mount m place p in
      cc (parent.namespace, parent.number, found_itself world.mounts kept.one_number parent.parent parent.there)

  on : (mount : Mount ℕ) → Among mount world.mounts → (o : Option (Location ℕ)) → mount.mount_point ≡ o
      → list_all (λ place. is_some (mount_at nat_eq world place).namespace) (option_to_list o) ≡ true
  on mount m None e = refl
  on mount m (Some place) e = ap (λ b. b && true) (ap is_some (sym (beside_parent mount m place e))
      ∙ placed_is_attached mount (among_from_list_all _ _ kept.nowhere mount m) place e)

  pub mounts_stand : MountsStand world
  mounts_stand = record {
    one_number = kept.one_number;
    nowhere = kept.nowhere;
    on_attached = list_all_from_among (stands_on_attached world) world.mounts
        (λ mount m. on mount m mount.mount_point refl);
  }

  abbrev pub first_mounts : List (Mount ℕ)
  first_mounts = filter (mount_lives nat_eq world) world.mounts

  pub of_world : (mount : Mount ℕ) → Among mount first_mounts → Among mount world.mounts
  of_world mount m = (among-from_filter _ _ mount m).0

  pub attached_lives : (mount : Mount ℕ) → is_some mount.namespace ≡ true → mount_lives nat_eq world mount ≡ true
  attached_lives mount e = or_left _ _ e

  abbrev pub IsAttached : ℕ → Type 0
  IsAttached number = is_some (mount_in nat_eq world.mounts number).namespace ≡ true

  abbrev pub numbers : List ℕ
  numbers = map (λ (mount : Mount ℕ). mount.number) first_mounts

  pub the_one : (number : ℕ) → IsAttached number → (mount : Mount ℕ) → Among mount world.mounts → mount.number ≡ number
      → is_some mount.namespace ≡ true
  the_one number attached mount m same = cc (found_itself world.mounts kept.one_number mount m)

  pub same_found : (number : ℕ) → IsAttached number
      → mount_in nat_eq first_mounts number ≡ mount_in nat_eq world.mounts number
  same_found number attached = found_in_filter _ _ number
      (λ mount m same. attached_lives mount (the_one number attached mount m same))

  pub number_there : (number : ℕ) → IsAttached number → Among number numbers
  number_there number attached =
      let found = mount_in nat_eq world.mounts number in
      subst (λ n. Among n numbers) (number-mount_in _ number) (among-map _ _ found
      (among-filter _ _ found (found_is_there _ number attached) (attached_lives found attached)))

  pub standing_at : (number : ℕ) → IsAttached number → Stands nat_eq world number
  standing_at number attached = subst (Stands nat_eq world) (number-mount_in world.mounts number)
      (among_from_all (λ x. Stands nat_eq world x.number) world.mounts kept.standing
      (mount_in nat_eq world.mounts number) (found_is_there world.mounts number attached))

  pub shorter : length first_mounts ≤ length world.mounts
  shorter = omega (
    arith,
    length-filter_both (mount_lives nat_eq world) (λ mount. not (mount_lives nat_eq world mount))
        (λ mount. refl) world.mounts,
  )

  pub unused_private : (mount : Mount ℕ) → Among mount world.mounts → mount_lives nat_eq world mount ≡ false
      → is_private mount.propagation ≡ true
  unused_private mount m dead =
      (nowhere_parts mount (among_from_list_all _ _ kept.nowhere mount m) (or_parts _ _ dead).0).1

  pub members_first : (group : ℕ) → has_members nat_eq first_mounts group ≡ has_members nat_eq world.mounts group
  members_first group = any-filter _ _ _
      (λ mount m dead. private_is_no_member group mount (unused_private mount m dead))

  abbrev pub LivesIn : ℕ → Type 0
  LivesIn = Lives (has_members nat_eq world.mounts) world.master

  pub master_kept : (group : ℕ) → has_members nat_eq world.mounts group ≡ true
      → (settled nat_eq world).master group ≡ world.master group
  master_kept group has = cc (members_first group)

  pub master_of : (group : ℕ) → LivesIn group → (settled nat_eq world).master group ≡ world.master group
  master_of group (has_no_master it has e) = master_kept it has
  master_of group (has_master it above has e rest) = master_kept it has

  abbrev pub groups_there : List ℕ
  groups_there = map (λ (mount : Mount ℕ). unwrap_or (group_of mount.propagation) 0) first_mounts

  pub group_there : (group : ℕ) → has_members nat_eq world.mounts group ≡ true → Among group groups_there
  group_there group has =
      let t = any_among _ _ (members_first group ∙ has) in
      subst (λ n. Among n groups_there) (ap (λ o. unwrap_or o 0) (held_number group _ t.2)) (among-map _ _ t.0 t.1)

  pub way_up : (group : ℕ) → LivesIn group
      → Way world.master (settled nat_eq world).master (λ (g : ℕ). g) groups_there group
  way_up group (has_no_master it has e) = ends it e (master_kept it has ∙ e)
  way_up group (has_master it above has e rest) =
      goes_on it above e (master_kept it has ∙ e) (group_there it has) (way_up above rest)
