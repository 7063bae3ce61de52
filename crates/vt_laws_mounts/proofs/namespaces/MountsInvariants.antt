-- Changes of types and flags keep the invariants of mounts.
use Rattle.std.proofs.Common.{arith, ◌≡◌, refl, sym, ap, ◌∙◌, true, false, nat_eq, ℕ, Bool, List, None, Option, Some, eqb-true, is_some, map, not, ◌&&◌, ◌||◌}
use Rattle.vt_spec.proofs.Common.{Among, Fresh, Location, Mount, MountFlags, MountInvariants, World, among-from_map, among_from_list_all, any_among, common_steps, inheriting, is_nowhere_or_attached, is_private, list_all_from_among, list_any, mount_at, mount_numbered, named_mounts, number-mount_in, replaced_if_same, type_after, with_flags, with_type}
use Rattle.vt_laws_mounts.specs.Mounts.Invariants.{NowhereOrAttached, OneNumberEach}
use Rattle.vt_laws_mounts.specs.Mounts.Namespaces.{SetFlagsKeepCounts, SetFlagsKeepMounts, SetTypeKeepsCounts, SetTypeKeepsMounts}
use Rattle.vt_laws_mounts.proofs.GroupsLiving.{all_live, tested_live}
use Rattle.vt_laws_mounts.proofs.Groups.{mounts-regrouped}
use Rattle.vt_laws_mounts.proofs.GroupsKept.{flags_keep_groups}
use Rattle.vt_laws_mounts.proofs.GroupsRetyped.{type_keeps_groups}
use Rattle.vt_laws_mounts.proofs.mounts.MountsApart.{flags_keep_apart, flags_keep_nowhere, types_keep_apart}
use Rattle.vt_laws_mounts.proofs.mounts.MountsCounted.{as_many}
use Rattle.vt_laws_mounts.proofs.mounts.MountsEnding.{flags_keep_places_ending, type_keeps_places_ending}
use Rattle.vt_laws_mounts.proofs.mounts.MountsFound.{placed_among}
use Rattle.vt_laws_mounts.proofs.mounts.MountsKept.{flags_keep_numbers, inheritance_keeps_nowhere, types_keep_numbers}
use Rattle.vt_laws_mounts.proofs.mounts.MountsReplaced.{found_itself, replaced_elsewhere, replaced_there}
use Rattle.vt_laws_mounts.proofs.mounts.MountsRetyped.{between, groups_by, retype, retype_keeps, retyped_if}
use Rattle.vt_laws_mounts.proofs.mounts.Standing.{LiesIn, lies_in_tree, standing_is_computed}
use Rattle.vt_laws_mounts.proofs.mounts.Standing.LiesIn.{itself, under}
use Rattle.vt_laws_mounts.proofs.namespaces.Unsharing.{placed_inside}

module _ (world : World ℕ) (mounts : MountInvariants nat_eq world) where
  -- what lies in the tree of a mount of a namespace is in one
  inside : (top number : ℕ) → LiesIn world top number → is_some (mount_numbered nat_eq world top).namespace ≡ true
      → is_some (mount_numbered nat_eq world number).namespace ≡ true
  inside top number (itself it) h = h
  inside top number (under above it place e way) h = by _ refl
    where
      by : (found : Option ℕ) → (mount_numbered nat_eq world it).namespace ≡ found
          → is_some (mount_numbered nat_eq world it).namespace ≡ true
      by (Some namespace) f = ap is_some f
      by None f = absurd (placed_inside world mounts _ (placed_among _ it place e) place e f)

  named_inside : (number : ℕ) (recursive : Bool) → is_some (mount_numbered nat_eq world number).namespace ≡ true
      → (other : Mount ℕ) → Among other (named_mounts nat_eq world number recursive)
      → is_some (mount_numbered nat_eq world other.number).namespace ≡ true
  named_inside number recursive h other m = grind (arith, common_steps, number-mount_in, inside, lies_in_tree)

  type_keeps_nowhere : (fresh : Fresh ℕ) (number : ℕ) (word : _) (recursive : Bool)
      → is_some (mount_numbered nat_eq world number).namespace ≡ true
      → NowhereOrAttached (with_type nat_eq fresh world number word recursive)
  type_keeps_nowhere fresh number word recursive h =
      let group = groups_by world fresh number recursive in
      let named = named_mounts nat_eq world number recursive in
      inheritance_keeps_nowhere (between world group word named)
      (list_all_from_among is_nowhere_or_attached (map (retype world group word named) world.mounts) (λ mount m.
      let from = among-from_map (retype world group word named) world.mounts mount m in
      ap is_nowhere_or_attached from.2
      ∙ by group named from.0 from.1 (list_any (λ (other : Mount ℕ). nat_eq from.0.number other.number) named) (λ there.
      let one = any_among (λ (other : Mount ℕ). nat_eq from.0.number other.number) named there in
      ap (λ (x : Mount ℕ). is_some x.namespace) (sym (found_itself world.mounts mounts.one_number from.0 from.1))
      ∙ ap (λ n. is_some (mount_numbered nat_eq world n).namespace) (eqb-true from.0.number one.0.number one.2)
      ∙ named_inside number recursive h one.0 one.1)))
    where
      by : (group : ℕ → ℕ) (named : List (Mount ℕ)) (mount : Mount ℕ) → Among mount world.mounts → (b : Bool)
          → (b ≡ true → is_some mount.namespace ≡ true)
          → is_nowhere_or_attached (retyped_if world group word named mount b) ≡ true
      by group named mount m true f =
          let kind = type_after (group mount.number) word mount.propagation in
          ap (λ s. s || (not (is_some mount.mount_point) && is_private kind)) (f refl)
      by group named mount m false f = among_from_list_all is_nowhere_or_attached world.mounts mounts.nowhere mount m

pub type_keeps_mounts : SetTypeKeepsMounts
type_keeps_mounts world fresh number word recursive serves named mounts =
    let after = with_type nat_eq fresh world number word recursive in
    let one = types_keep_numbers world fresh number word recursive mounts.one_number in
    let apart = types_keep_apart world fresh number word recursive
    (record { by_number = mounts.one_number; by_place = mounts.one_child }) in
    record {
      one_number = one;
      one_child = apart.by_place;
      standing = (standing_is_computed after one).1
          (type_keeps_places_ending world fresh number word recursive mounts.one_number
          ((standing_is_computed world mounts.one_number).0 mounts.standing));
      nowhere = type_keeps_nowhere world mounts fresh number word _ named;
      groups = all_live after
          (type_keeps_groups world fresh number word recursive serves (tested_live world mounts.groups));
    }

pub flags_keep_mounts : SetFlagsKeepMounts
flags_keep_mounts world here flags mounts =
    let after = with_flags nat_eq world here.mount flags in
    let one = flags_keep_numbers world here flags mounts.one_number in
    let apart =
    flags_keep_apart world here flags (record { by_number = mounts.one_number; by_place = mounts.one_child }) in
    record {
      one_number = one;
      one_child = apart.by_place;
      standing = (standing_is_computed after one).1 (flags_keep_places_ending world here flags mounts.one_number
          ((standing_is_computed world mounts.one_number).0 mounts.standing));
      nowhere = flags_keep_nowhere world here flags mounts.one_number mounts.nowhere;
      groups = all_live after (flags_keep_groups world here flags mounts.one_number (tested_live world mounts.groups));
    }

-- Counts
pub type_keeps_counts : SetTypeKeepsCounts
type_keeps_counts world fresh number word recursive namespace =
    let group = groups_by world fresh number recursive in
    let named = named_mounts nat_eq world number recursive in
    let middle = between world group word named in
    let first = as_many world middle (retype world group word named) refl
    (λ mount m. (retype_keeps world group word named mount).namespace)
    (λ mount m. (retype_keeps world group word named mount).mount_point) namespace in
    let second = as_many middle (with_type nat_eq fresh world number word recursive) (inheriting nat_eq middle)
    (mounts-regrouped middle) (λ mount m. refl) (λ mount m. refl) namespace in
    record { mounts = second.mounts ∙ first.mounts; roots = second.roots ∙ first.roots }

module _ (world : World ℕ) (here : Location ℕ) (flags : MountFlags) (one : OneNumberEach world) where
  abbrev new : Mount ℕ
  new = record (mount_at nat_eq world here) { flags = flags }

  replaced_keeps : (mount : Mount ℕ) → Among mount world.mounts
      → ((replaced_if_same nat_eq new mount).namespace ≡ mount.namespace)
      × ((replaced_if_same nat_eq new mount).mount_point ≡ mount.mount_point)
  replaced_keeps mount m =
      grind (arith, common_steps, number-mount_in, eqb-true, found_itself, replaced_there, replaced_elsewhere)

pub flags_keep_counts : SetFlagsKeepCounts
flags_keep_counts world here flags namespace one = as_many world _ _ refl
    (λ mount m. (replaced_keeps world here flags one mount m).0) (λ mount m. (replaced_keeps world here flags one mount
    m).1) _
