-- Groups live on through a change of type.
use Rattle.std.proofs.Common.{arith, ◌≡◌, refl, sym, ap, subst, ◌∙◌, true, false, nat_eq, Bool, List, Option, Some, [], eq-eqb, eqb-true, inl, inr, true≢false, ⊎_elim, ◌∷◌, ◌⊎◌, ℕ, option_to_list}
use Rattle.vt_spec.proofs.Common.{Among, Mount, Private, Propagation, Shared, Slave, TypeWord, Unbindable, World, among-from_map, any_among, common_steps, eqb_tells, false_from_ne_true, found_or_none, has_master, has_members, has_no_master, index_of, is_among, is_among_numbers, is_member_of, master_after, named_mounts, numbers_in_use, same_Some, source_of, tree_among, type_after, used_by_mount, with_master, with_new_groups}
use Rattle.vt_laws_mounts.proofs.GroupsUp.{EndsUp, LivesIn, lives_in}
use Rattle.vt_laws_mounts.proofs.GroupsUp.EndsUp.{at_top, goes_up}
use Rattle.vt_laws_mounts.specs.Mounts.Receivers.{GroupsLive}
use Rattle.vt_laws_mounts.specs.Mounts.Invariants.{TypeKeepsGroups}
use Rattle.vt_laws_mounts.proofs.mounts.MountsRetyped.{groups_by, next_world}
use Rattle.vt_laws_mounts.proofs.GroupsKept.{member_shared, regrouped_live}
use Rattle.vt_laws_mounts.proofs.mounts.MountsNumbered.{mount_uses}

-- what a type that is taken has as its source
source_taken : (new : ℕ) (word : TypeWord) (kind : Propagation ℕ) (source : ℕ)
    → source_of (type_after new word kind) ≡ Some source → (source ≡ new) ⊎ (source_of kind ≡ Some source)
source_taken new word kind source e = grind (arith, common_steps, same_Some, true≢false)

-- the master of a group after new groups were made: as it was, or that of the mount for which the group is new
module _ (group : ℕ → ℕ) where
  IsNewMaster : List (Mount ℕ) → ℕ → Option ℕ → Type 0
  IsNewMaster named one above =
      (mount : Mount ℕ) × Among mount named × (one ≡ group mount.number) × (above ≡ master_after mount.propagation)

  new_or_old : (master : ℕ → Option ℕ) (named : List (Mount ℕ)) (one : ℕ)
      → (with_new_groups nat_eq group master named one ≡ master one)
      ⊎ IsNewMaster named one (with_new_groups nat_eq group master named one)
  unfolding IsNewMaster
  new_or_old master [] one = inl refl
  new_or_old master (first ∷ rest) one = grind (
    arith,
    common_steps,
    eqb_tells,
    new_or_old (with_master nat_eq master (group first.number) (master_after first.propagation)) rest one,
  )

  -- a group that is made for one of them has a new master
  new_for_one : (master : ℕ → Option ℕ) (named : List (Mount ℕ)) (mount : Mount ℕ) → Among mount named
      → IsNewMaster named (group mount.number) (with_new_groups nat_eq group master named (group mount.number))
  unfolding IsNewMaster
  new_for_one master [] mount m = absurd m
  new_for_one master (first ∷ rest) mount m = ⊎_elim (λ kept.
      ⊎_elim (λ e. (
        first,
        inl refl,
        ap (λ (x : Mount ℕ). group x.number) e,
        cc (kept, eq-eqb (group mount.number) (group first.number) (ap (λ (x : Mount ℕ). group x.number) e)),
      )) (λ l.
      let t =
      new_for_one (with_master nat_eq master (group first.number) (master_after first.propagation)) rest mount l in
      (t.0, inr t.1, t.2, t.3)) m) (λ t. (t.0, inr t.1, t.2, t.3)) (new_or_old _ rest _)

module _ (world : World ℕ) (group : ℕ → ℕ) (word : TypeWord) (named : List (Mount ℕ)) (live : GroupsLive world)
    (none : (number : ℕ) → has_members nat_eq world.mounts (group number) ≡ false)
    (sourced : (mount : Mount ℕ) → Among mount named
    → (source : ℕ) → source_of mount.propagation ≡ Some source → Among mount world.mounts) where
  abbrev after_all : ℕ → Option ℕ
  after_all = with_new_groups nat_eq group world.master named

  other_master : (one : ℕ) → has_members nat_eq world.mounts one ≡ true → after_all one ≡ world.master one
  unfolding IsNewMaster
  other_master one has = ⊎_elim (λ kept. kept) (λ t. absurd (cc (t.2, none t.0.number))) (new_or_old group _ named one)

  still_ends : (one : ℕ) → LivesIn world one → EndsUp after_all one
  still_ends one (has_no_master it has e) = at_top it (other_master it has ∙ e)
  still_ends one (has_master it next has e later) = goes_up it next (other_master it has ∙ e) (still_ends next later)

  new_ends : (mount : Mount ℕ) → Among mount named → EndsUp after_all (group mount.number)
  unfolding IsNewMaster
  new_ends mount m =
      let t = new_for_one group _ named mount m in
      by t.0 t.1 _ refl t.3
    where
      by : (x : Mount ℕ) → Among x named → (kind : Propagation ℕ) → x.propagation ≡ kind
          → after_all (group mount.number) ≡ master_after x.propagation → EndsUp after_all (group mount.number)
      by x l (Shared one) e is = at_top (group mount.number) (cc)
      by x l (Slave above) e is = goes_up (group mount.number) above (cc)
          (still_ends above (lives_in world live x (sourced x l above (ap source_of e)) above (ap source_of e)))
      by x l Private e is = at_top (group mount.number) (cc)
      by x l Unbindable e is = at_top (group mount.number) (cc)

  pub all_live : GroupsLive (next_world world group word named)
  all_live = grind (
    arith,
    common_steps,
    regrouped_live,
    among-from_map,
    any_among,
    eqb-true,
    new_ends,
    still_ends,
    lives_in,
    source_taken,
  )

-- numbers that are not in use have no members
pub unused_members : (world : World ℕ) (number : ℕ) → is_among nat_eq number (numbers_in_use world) ≡ false
    → has_members nat_eq world.mounts number ≡ false
unused_members world number h = false_from_ne_true (has_members nat_eq world.mounts number) (λ has.
    let member = any_among (is_member_of nat_eq number) world.mounts has in
    let shared = member_shared number member.0 member.2 in
    let used : Among number (used_by_mount member.0) =
    inr (subst (λ k. Among number (option_to_list (source_of k))) (sym shared) (inl refl)) in
    let among = mount_uses world member.0 member.1 number used in
    cc (is_among_numbers (numbers_in_use world) number among, h))

-- a named mount with a source is one of the world's
named_sourced : (world : World ℕ) (number : ℕ) (recursive : Bool) (mount : Mount ℕ)
    → Among mount (named_mounts nat_eq world number recursive)
    → (source : ℕ) → source_of mount.propagation ≡ Some source → Among mount world.mounts
named_sourced world number recursive mount m source e =
    grind (arith, common_steps, true≢false, found_or_none, tree_among)

pub type_keeps_groups : TypeKeepsGroups
type_keeps_groups world fresh number word recursive serves live =
    all_live world (groups_by world fresh number recursive) word (named_mounts nat_eq world number recursive) live
    (λ other. unused_members world (groups_by world fresh number recursive other)
    (serves.unused (index_of nat_eq (named_mounts nat_eq world number recursive) other)))
    (named_sourced world number recursive)
