-- An unshare: the copies of a namespace's mounts stand on copies.
use Rattle.std.proofs.Common.{arith, ◌≡◌, refl, sym, ap, subst, ◌∙◌, false, nat_eq, ℕ, List, None, Some, eq-eqb, is_some, map, not, option_map, true≢false, ⊎_elim, ◌&&◌, ◌||◌, ◌+◌, ◌*◌, true}
use Rattle.vt_spec.proofs.Common.{Among, Fresh, Location, Mount, MountInvariants, Serves, Stands, Task, World, all_from_among, among-append, among-append_left, among-append_right, among-filter, among-from_filter, among-from_map, among-map, among_from_all, among_from_list_all, any_pair, at_root, common_steps, copied_mount, evens, false_from_ne_true, found_or_none, holds_of, index_of, is_private, location_on_copy, mount_numbered, mounts_of, number-mount_in, numbers_by, odds, odds-distinct, on_parent, pair-filter, pair-map, same_Some, served-distinct, share_a_mount_point, unshared}
use Rattle.vt_laws_mounts.specs.Mounts.Namespaces.{UnshareKeepsMounts}
use Rattle.vt_laws_mounts.proofs.GroupsLiving.{all_live, tested_live}
use Rattle.vt_laws_mounts.proofs.GroupsKept.{unshare_keeps_groups}
use Rattle.vt_laws_mounts.proofs.mounts.MountsApart.{unshare_keeps_nowhere}
use Rattle.vt_laws_mounts.proofs.mounts.MountsNumbered.{is_one_of, number_is_old, one_index, pair-append, unshare_keeps_numbers}
use Rattle.vt_laws_mounts.proofs.mounts.MountsPlaces.{one_place_of_two, place_of_both}
use Rattle.vt_laws_mounts.proofs.mounts.MountsReplaced.{found_itself}
use Rattle.vt_laws_mounts.specs.Mounts.Attaching.{is_mount}

-- A mount that stands on a parent
pub record Parent (world : World ℕ) (mount : Mount ℕ) (place : Location ℕ) : Type 0 where
  pub parent : Mount ℕ
  pub there : Among parent world.mounts
  pub number : parent.number ≡ place.mount
  pub namespace : mount.namespace ≡ parent.namespace

module _ (world : World ℕ) (mounts : MountInvariants nat_eq world) where
  pub itself : (mount : Mount ℕ) → Among mount world.mounts → mount_numbered nat_eq world mount.number ≡ mount
  itself mount m = found_itself _ mounts.one_number mount m

  pub stands_itself : (mount : Mount ℕ) → Among mount world.mounts → Stands nat_eq world mount.number
  stands_itself mount m =
      among_from_all (λ (other : Mount ℕ). Stands nat_eq world other.number) world.mounts mounts.standing mount m

  -- a mount outside every namespace has no place
  pub placed_inside : (mount : Mount ℕ) → Among mount world.mounts → (place : Location ℕ)
      → mount.mount_point ≡ Some place → mount.namespace ≡ None → ⊥
  placed_inside mount m place e none = true≢false (sym (among_from_list_all _ _ mounts.nowhere mount m) ∙ ap
      (λ n. is_some n || (not (is_some mount.mount_point) && is_private mount.propagation)) none ∙ ap
      (λ q. not (is_some q) && is_private mount.propagation) e)

  pub parent_of : (mount : Mount ℕ) → Among mount world.mounts → (place : Location ℕ) → mount.mount_point ≡ Some place
      → Parent world mount place
  parent_of mount m place e = by (stands_itself mount m) (itself mount m)
    where
      by : Stands nat_eq world mount.number → mount_numbered nat_eq world mount.number ≡ mount
          → Parent world mount place
      by (at_root it f) same = absurd (cc e)
      by (on_parent it at f g stands) same =
          let at_is : at ≡ place = same_Some at place (sym f ∙ ap (λ x. x.mount_point) same ∙ e) in
          let inside : mount.namespace ≡ (mount_numbered nat_eq world place.mount).namespace =
          ap (λ x. x.namespace) (sym same) ∙ g
          ∙ ap (λ (p : Location ℕ). (mount_numbered nat_eq world p.mount).namespace) at_is in
          ⊎_elim (λ there. record {
            parent = mount_numbered nat_eq world place.mount;
            there = there;
            number = number-mount_in _ _;
            namespace = inside;
          }) (λ none. absurd (placed_inside mount m place e (inside ∙ ap (λ x. x.namespace) none))) (found_or_none _ _)

  -- and that is a mount of the world
  pub stands_on_mount : (mount : Mount ℕ) → Among mount world.mounts → (place : Location ℕ)
      → mount.mount_point ≡ Some place → is_mount world place.mount ≡ true
  stands_on_mount mount m place e =
      let parent = parent_of mount m place e in
      subst (λ n. is_mount world n ≡ true) parent.number (is_one_of _ _ parent.there)

module _ (world : World ℕ) (fresh : Fresh ℕ) (task : Task ℕ) (serves : Serves nat_eq world fresh)
    (mounts : MountInvariants nat_eq world) where
  abbrev after : World ℕ
  after = unshared nat_eq world fresh task

  abbrev copied : List (Mount ℕ)
  copied = mounts_of nat_eq world task.namespace

  abbrev new_number : ℕ → ℕ
  new_number = numbers_by nat_eq (odds fresh) copied

  abbrev copy : Mount ℕ → Mount ℕ
  copy = copied_mount new_number (evens fresh 0)

  one_after : any_pair (λ (a b : Mount ℕ). nat_eq a.number b.number) after.mounts ≡ false
  one_after = unshare_keeps_numbers world fresh task serves mounts.one_number

  is_copied_from : (mount : Mount ℕ) → Among mount copied → Among mount world.mounts
  is_copied_from mount m = (among-from_filter _ _ mount m).0

  -- the parent of what is copied is copied
  copied_parent : (mount : Mount ℕ) → Among mount copied → (place : Location ℕ) → mount.mount_point ≡ Some place
      → (parent : Mount ℕ) × Among parent copied × (parent.number ≡ place.mount)
  copied_parent mount m place e =
      let parent = parent_of world mounts mount (is_copied_from mount m) place e in
      grind (arith, common_steps, among-from_filter, among-filter)

  -- a mount that was there is found as it was, and each copy by its own number
  pub old_found : (mount : Mount ℕ) → Among mount world.mounts → mount_numbered nat_eq after mount.number ≡ mount
  old_found mount m = found_itself _ one_after mount (among-append_left _ _ mount m)

  pub copy_found : (mount : Mount ℕ) → Among mount copied → mount_numbered nat_eq after (copy mount).number ≡ copy mount
  copy_found mount m = found_itself _ one_after _ (among-append_right _ _ _ (among-map copy copied mount m))

  old_stands : (number : ℕ) → Stands nat_eq world number → (mount : Mount ℕ) → Among mount world.mounts
      → mount.number ≡ number → Stands nat_eq after number
  old_stands number (at_root it e) mount m same = at_root it
      (ap (λ n. (mount_numbered nat_eq after n).mount_point) (sym same) ∙ ap (λ x. x.mount_point) (old_found mount m)
      ∙ ap (λ x. x.mount_point) (sym (itself world mounts mount m))
      ∙ ap (λ n. (mount_numbered nat_eq world n).mount_point) same ∙ e)
  old_stands number (on_parent it place e f stands) mount m same =
      let back : mount_numbered nat_eq world it ≡ mount =
      ap (mount_numbered nat_eq world) (sym same) ∙ itself world mounts mount m in
      let found : mount_numbered nat_eq after it ≡ mount =
      ap (mount_numbered nat_eq after) (sym same) ∙ old_found mount m in
      let at : mount.mount_point ≡ Some place = ap (λ x. x.mount_point) (sym back) ∙ e in
      let parent = parent_of world mounts mount m place at in
      let below : mount_numbered nat_eq after place.mount ≡ parent.parent =
      ap (mount_numbered nat_eq after) (sym parent.number) ∙ old_found _ parent.there in
      on_parent it place (ap (λ x. x.mount_point) found ∙ at) (ap (λ x. x.namespace) found ∙ parent.namespace ∙ ap
      (λ x. x.namespace) (sym below)) (old_stands _ stands _ parent.there parent.number)

  copy_stands : (number : ℕ) → Stands nat_eq world number → (mount : Mount ℕ) → Among mount copied
      → mount.number ≡ number → Stands nat_eq after (copy mount).number
  copy_stands number (at_root it e) mount m same = at_root (copy mount).number
      (ap (λ x. x.mount_point) (copy_found mount m) ∙ ap (option_map (location_on_copy new_number))
      (ap (λ x. x.mount_point) (sym (itself world mounts mount (is_copied_from mount m)))
      ∙ ap (λ n. (mount_numbered nat_eq world n).mount_point) same ∙ e))
  copy_stands number (on_parent it place e f stands) mount m same =
      let back : mount_numbered nat_eq world it ≡ mount =
      ap (mount_numbered nat_eq world) (sym same) ∙ itself world mounts mount (is_copied_from mount m) in
      let at : mount.mount_point ≡ Some place = ap (λ x. x.mount_point) (sym back) ∙ e in
      let parent = copied_parent mount m place at in
      let number_is : (copy parent.0).number ≡ new_number place.mount = ap new_number parent.2 in
      let below : mount_numbered nat_eq after (new_number place.mount) ≡ copy parent.0 =
      ap (mount_numbered nat_eq after) (sym number_is) ∙ copy_found _ parent.1 in
      on_parent (copy mount).number (location_on_copy new_number place) (ap (λ x. x.mount_point) (copy_found mount m)
      ∙ ap (option_map (location_on_copy new_number)) at) (ap (λ x. x.namespace) (copy_found mount m) ∙ ap
      (λ x. x.namespace) (sym below)) (subst (Stands nat_eq after) number_is (copy_stands _ stands _ parent.1 parent.2))

  all_stand_after : (mount : Mount ℕ) → Among mount after.mounts → Stands nat_eq after mount.number
  all_stand_after mount m = ⊎_elim (λ old. old_stands _ (stands_itself world mounts mount old) mount old refl) (λ new.
      let from = among-from_map copy copied mount new in
      subst (λ (x : Mount ℕ). Stands nat_eq after x.number) (sym from.2)
      (copy_stands _ (stands_itself world mounts from.0 (is_copied_from from.0 from.1)) from.0 from.1 refl))
      (among-append _ _ mount m)

  -- the place of a copy
  copy_mount_point : (mount : Mount ℕ) (place : Location ℕ) → (copy mount).mount_point ≡ Some place
      → (origin : Location ℕ) × (mount.mount_point ≡ Some origin) × (location_on_copy new_number origin ≡ place)
  copy_mount_point mount place e = grind (arith, common_steps, new_number, true≢false)

  two_copies : (a b : Mount ℕ) → Among a copied → Among b copied → share_a_mount_point nat_eq a b ≡ false
      → share_a_mount_point nat_eq (copy a) (copy b) ≡ false
  two_copies a b m n differ = false_from_ne_true (share_a_mount_point nat_eq (copy a) (copy b)) (λ together.
      let both = place_of_both (copy a) (copy b) together in
      let p = copy_mount_point a both.0 both.1 in
      let q = copy_mount_point b both.0 both.2 in
      let on_p = copied_parent a m p.0 p.1 in
      let on_q = copied_parent b n q.0 q.1 in
      let same : location_on_copy new_number p.0 ≡ location_on_copy new_number q.0 = p.2 ∙ sym q.2 in
      let index : index_of nat_eq copied on_p.0.number ≡ index_of nat_eq copied on_q.0.number =
      odds-distinct fresh (served-distinct world fresh serves) (index_of nat_eq copied on_p.0.number)
      (index_of nat_eq copied on_q.0.number)
      (ap new_number on_p.2 ∙ ap (λ (l : Location ℕ). l.mount) same ∙ ap new_number (sym on_q.2)) in
      let mount_same : p.0.mount ≡ q.0.mount = sym on_p.2
      ∙ one_index copied on_p.0.number on_q.0.number (is_one_of copied on_p.0 on_p.1)
      (is_one_of copied on_q.0 on_q.1) index ∙ on_q.2 in
      let node_same : p.0.node ≡ q.0.node = ap (λ (l : Location ℕ). l.node) same in
      let place_same : p.0 ≡ q.0 = λ i. record { mount = mount_same i; node = node_same i } in
      true≢false (sym (one_place_of_two p.0 a b p.1 (q.1 ∙ ap Some (sym place_same))) ∙ differ))

  old_and_copy : (a b : Mount ℕ) → Among a world.mounts → Among b copied → share_a_mount_point nat_eq a (copy b) ≡ false
  old_and_copy a b m n = false_from_ne_true (share_a_mount_point nat_eq a (copy b)) (λ together.
      let both = place_of_both a (copy b) together in
      let q = copy_mount_point b both.0 both.2 in
      let parent = parent_of world mounts a m both.0 both.1 in
      let index = index_of nat_eq copied q.0.mount in
      let same : parent.parent.number ≡ fresh (2 * index + 1) =
      parent.number ∙ ap (λ (l : Location ℕ). l.mount) (sym q.2) in
      true≢false (sym (eq-eqb parent.parent.number (fresh (2 * index + 1)) same)
      ∙ number_is_old world fresh serves parent.parent.number
      (among-map (λ (mount : Mount ℕ). mount.number) world.mounts parent.parent parent.there) (2 * index + 1)))

  one_child_after : any_pair (share_a_mount_point nat_eq) after.mounts ≡ false
  one_child_after = pair-append (share_a_mount_point nat_eq) world.mounts (map copy copied) mounts.one_child
      (pair-map (share_a_mount_point nat_eq) (share_a_mount_point nat_eq) copy copied two_copies
      (pair-filter (share_a_mount_point nat_eq) (λ (x : Mount ℕ). holds_of (nat_eq task.namespace) x.namespace)
      world.mounts mounts.one_child)) (λ a b m n.
      let from = among-from_map copy copied b n in
      ap (share_a_mount_point nat_eq a) from.2 ∙ old_and_copy a from.0 m from.1)

pub unshare_keeps_mounts : UnshareKeepsMounts
unshare_keeps_mounts world fresh task serves mounts = record {
  one_number = unshare_keeps_numbers world fresh task serves mounts.one_number;
  one_child = one_child_after world fresh task serves mounts;
  standing = all_from_among (λ (mount : Mount ℕ). Stands nat_eq (unshared nat_eq world fresh task) mount.number)
      (unshared nat_eq world fresh task).mounts (all_stand_after world fresh task serves mounts);
  nowhere = unshare_keeps_nowhere world fresh task mounts.nowhere;
  groups = all_live (unshared nat_eq world fresh task)
      (unshare_keeps_groups world fresh task (tested_live world mounts.groups));
}
