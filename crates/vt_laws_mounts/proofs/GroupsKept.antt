-- Groups live on through changes of mounts.
use Rattle.std.proofs.Common.{arith, ◌≡◌, refl, sym, ap, subst, ◌∙◌, true, false, Bool, List, None, Option, Some, [], eq-eqb, eqb-true, filter, find, length, map, not, true≢false, ℕ, ⊎_elim, ◌++◌, ◌∷◌, nat_eq, if◌then◌else◌}
use Rattle.vt_spec.proofs.Common.{Among, Lives, Mount, Private, Propagation, Shared, Slave, Unbindable, World, after_going, among-append, among-append_left, among-filter, among-from_filter, among-from_map, among-map, among_from_list_all, and-false, any_among, any_from_among, common_steps, copied_mount, deepest_first, evens, folded, going, group_of, groups_up, has_master, has_members, has_no_master, head_among, heir, holds_of, inherited, is_among, is_going, is_in_ended, is_lost_group, is_member_of, is_nowhere_or_attached, list_any, lost_a_group, mount_at, mount_lives, mount_numbered, mount_tree, mounts_of, none_among, not-false, number-mount_in, numbers_by, odds, or_parts, pivoted, pivoted_mount, regrouped, regrouped_by, replaced_if_same, same_Some, settled, slave_of_heir, source_of, tail_among, then_some, unmounted, unmounted_if_there, unshared, with_flags, with_mount}
use Rattle.vt_laws_mounts.proofs.GroupsUp.{EndsUp, LivesIn, Up, groups_live_by, lives_in, way_up}
use Rattle.vt_laws_mounts.proofs.GroupsUp.EndsUp.{at_top, goes_up}
use Rattle.vt_laws_mounts.proofs.GroupsUp.Up.{above, here}
use Rattle.vt_laws_mounts.specs.Mounts.Receivers.{GroupsLive}
use Rattle.vt_laws_mounts.specs.Mounts.Invariants.{KeptByEndedNamespaces, KeptByInheritance, KeptByLazyUnmount, KeptByPivot, KeptByTakingAway, KeptByUnmount, KeptByUnshare, SettlingKeepsGroups, FlagsKeepGroups}
use Rattle.vt_laws_mounts.proofs.mounts.MountsReplaced.{found_itself, replaced_elsewhere, replaced_there}
use Rattle.vt_laws_mounts.proofs.ends.Unmounting.{going_is_detached, staying_is_placed}
use Rattle.vt_laws_mounts.proofs.Groups.{members-inherited}

-- what is found passes, and is there
pub found_passes : (p : ℕ → Bool) (xs : List ℕ) (x : ℕ) → find p xs ≡ Some x
    → (p x ≡ true) × (is_among nat_eq x xs ≡ true)
found_passes p [] x e = absurd cc
found_passes p (y ∷ ys) x e = grind (arith, common_steps, found_passes p ys x, head_among, tail_among)

-- a group lives also where more groups count as having members
pub lives_weaker : (p q : ℕ → Bool) (master : ℕ → Option ℕ) → ((group : ℕ) → p group ≡ true → q group ≡ true)
    → (group : ℕ) → Lives p master group → Lives q master group
lives_weaker p q master more group (has_no_master it has e) = has_no_master it (more it has) e
lives_weaker p q master more group (has_master it next has e later) =
    has_master it next (more it has) e (lives_weaker p q master more next later)

-- the masters of a living group end, also by another function that agrees on groups with members
pub lives_end : (p : ℕ → Bool) (master other : ℕ → Option ℕ)
    → ((group : ℕ) → p group ≡ true → other group ≡ master group) → (group : ℕ)
    → Lives p master group → EndsUp other group
lives_end p master other same group (has_no_master it has e) = at_top it (same it has ∙ e)
lives_end p master other same group (has_master it next has e later) =
    goes_up it next (same it has ∙ e) (lives_end p master other same next later)

-- a member of a group is shared
pub member_shared : (group : ℕ) (mount : Mount ℕ) → is_member_of nat_eq group mount ≡ true
    → mount.propagation ≡ Shared group
member_shared group mount h = grind (arith, common_steps, eqb-true, true≢false)

-- and what is shared in a group is a member of it
pub shared_member : (group : ℕ) (mount : Mount ℕ) → mount.propagation ≡ Shared group
    → is_member_of nat_eq group mount ≡ true
shared_member group mount e = cc (eq-eqb group group refl)

-- Inheritance
module _ (world : World ℕ) where
  abbrev members : ℕ → Bool
  members = has_members nat_eq world.mounts

  abbrev inherited_master : ℕ → Option ℕ
  inherited_master group = heir nat_eq world (world.master group)

  heir_found : (first group : ℕ) → heir nat_eq world (Some first) ≡ Some group
      → (members group ≡ true) × Up world.master first group
  heir_found first group e =
      let t = found_passes members (groups_up world first) group e in
      (t.0, way_up world.master (length world.mounts) first group t.1)

  -- where masters end, each group with members that comes up them lives after the inheritance
  inherits_live : (group : ℕ) → EndsUp world.master group → (other : ℕ) → Up world.master group other
      → members other ≡ true → Lives members inherited_master other
  inherits_live group (at_top it e) other (here same) has = has_no_master same has (ap (heir nat_eq world) e)
  inherits_live group (at_top it e) other (above same next end f way) has = absurd cc
  inherits_live group (goes_up it next e rest) other (here same) has = by _ refl (inherits_live next rest)
    where
      by : (found : Option ℕ) → heir nat_eq world (Some next) ≡ found
          → ((o : ℕ) → Up world.master next o → members o ≡ true → Lives members inherited_master o)
          → Lives members inherited_master same
      by None f later = has_no_master same has (ap (heir nat_eq world) e ∙ f)
      by (Some end) f later =
          let t = heir_found next end f in
          has_master same end has (ap (heir nat_eq world) e ∙ f) (later end t.1 t.0)
  inherits_live group (goes_up it next e rest) other (above same step end f way) has =
      inherits_live next rest end (subst (λ g. Up world.master g end) (same_Some step next (sym f ∙ e)) way) has

  -- where no group is lost, each lives already
  lives_unlost : ((mount : Mount ℕ) → Among mount world.mounts → lost_a_group nat_eq world mount ≡ false) → (group : ℕ)
      → EndsUp world.master group → members group ≡ true → LivesIn world group
  lives_unlost unlost group (at_top it e) has = has_no_master it has e
  lives_unlost unlost group (goes_up it next e rest) has =
      has_master it next has e (lives_unlost unlost next rest (not-false _ kept))
    where
      kept : not (members next) ≡ false
      kept =
          let member = any_among _ _ has in
          let shared = member_shared it member.0 member.2 in
          sym (ap (is_lost_group nat_eq world) (ap (λ k. then_some (source_of k) world.master) shared ∙ e))
          ∙ (or_parts (is_lost_group nat_eq world (source_of member.0.propagation))
          (is_lost_group nat_eq world (then_some (source_of member.0.propagation) world.master))
          (unlost member.0 member.1)).1

  pub regrouped_live : ((mount : Mount ℕ) → Among mount world.mounts → (source : ℕ)
      → source_of mount.propagation ≡ Some source → EndsUp world.master source) → GroupsLive (regrouped nat_eq world)
  regrouped_live ends = by _ refl
    where
      source_lives : (mount : Mount ℕ) → Among mount world.mounts → (kind : Propagation ℕ) → mount.propagation ≡ kind
          → (source : ℕ) → source_of (inherited nat_eq world kind) ≡ Some source → Lives members inherited_master source
      source_lives mount m (Shared group) e source f =
          let same : group ≡ source = same_Some group source f in
          subst (Lives members inherited_master) same (inherits_live group (ends mount m group (ap source_of e)) group
          (here group) (any_from_among _ _ mount m (shared_member group mount e)))
      source_lives mount m (Slave first) e source f = slave _ refl f
        where
          slave : (found : Option ℕ) → heir nat_eq world (Some first) ≡ found
              → source_of (slave_of_heir (heir nat_eq world (Some first))) ≡ Some source
              → Lives members inherited_master source
          slave None g t = absurd cc
          slave (Some end) g t =
              let same : end ≡ source = same_Some end source (sym (ap (λ o. source_of (slave_of_heir o)) g) ∙ t) in
              let found = heir_found first end g in
              subst (Lives members inherited_master) same
              (inherits_live first (ends mount m first (ap source_of e)) end found.1 found.0)
      source_lives mount m Private e source f = absurd cc
      source_lives mount m Unbindable e source f = absurd cc

      by : (b : Bool) → list_any (lost_a_group nat_eq world) world.mounts ≡ b → GroupsLive (regrouped_by nat_eq b world)
      by true e = groups_live_by (regrouped_by nat_eq true world) (λ mount m source f.
          let from = among-from_map _ _ mount m in
          lives_weaker _ _ _ (λ group has. members-inherited world world.mounts group ∙ has) source
          (source_lives from.0 from.1 _ refl source (sym (ap (λ x. source_of x.propagation) from.2) ∙ f)))
      by false e = groups_live_by world (λ mount m source f.
          let unlost = none_among _ _ e in
          lives_unlost unlost source (ends mount m source f)
          (not-false _ (sym (ap (is_lost_group nat_eq world) f) ∙ (or_parts _ _ (unlost mount m)).0)))

-- the masters of a living world's groups end
masters_end_in : (world : World ℕ) → GroupsLive world → (mount : Mount ℕ) → Among mount world.mounts → (source : ℕ)
    → source_of mount.propagation ≡ Some source → EndsUp world.master source
masters_end_in world live mount m source e =
    lives_end _ _ _ (λ group has. refl) source (lives_in world live mount m source e)

pub inheritance_keeps_groups : KeptByInheritance GroupsLive
inheritance_keeps_groups world live = regrouped_live world (masters_end_in world live)

pub taking_away_keeps_groups : KeptByTakingAway GroupsLive
taking_away_keeps_groups world gone live = regrouped_live _ (λ mount m source e.
    let from = among-from_map _ _ mount m in
    masters_end_in world live from.0 from.1 source
    (by from.0 _ refl source (sym (ap (λ x. source_of x.propagation) from.2) ∙ e)))
  where
    by : (mount : Mount ℕ) (b : Bool) → is_going nat_eq gone mount.number ≡ b → (source : ℕ)
        → source_of (after_going nat_eq world gone mount).propagation ≡ Some source
        → source_of mount.propagation ≡ Some source
    by mount true e source f = absurd (cc (going_is_detached world gone mount e))
    by mount false e source f = cc (staying_is_placed world gone mount e)

pub unmount_keeps_groups : KeptByUnmount GroupsLive
unmount_keeps_groups world one live =
    taking_away_keeps_groups world (going nat_eq world (mount_numbered nat_eq world one)) live

pub ended_namespaces_keep_groups : KeptByEndedNamespaces GroupsLive
ended_namespaces_keep_groups world live =
    taking_away_keeps_groups world (map (λ mount. mount.number) (filter (is_in_ended nat_eq world) world.mounts)) live

lazy_keeps : (mounts : List (Mount ℕ)) (world : World ℕ) → GroupsLive world
    → GroupsLive (folded (unmounted_if_there nat_eq) world mounts)
lazy_keeps [] world live = live
lazy_keeps (mount ∷ mounts) world live = lazy_keeps mounts _ (by _)
  where
    by : (b : Bool) → GroupsLive (if b then unmounted nat_eq world mount.number else world)
    by true = unmount_keeps_groups world mount.number live
    by false = live

pub lazy_keeps_groups : KeptByLazyUnmount GroupsLive
lazy_keeps_groups world one live = lazy_keeps (deepest_first nat_eq world
    (mount_tree nat_eq world.mounts (mount_numbered nat_eq world one))) world live

-- Mounts that keep their types
members-map : (f : Mount ℕ → Mount ℕ) → ((mount : Mount ℕ) → (f mount).propagation ≡ mount.propagation)
    → (mounts : List (Mount ℕ)) (group : ℕ) → has_members nat_eq (map f mounts) group ≡ has_members nat_eq mounts group
members-map f same [] group = refl
members-map f same (mount ∷ mounts) group = cc (same mount, members-map f same mounts group)

pub pivot_keeps_groups : KeptByPivot GroupsLive
pivot_keeps_groups world namespace root new put live =
    groups_live_by (pivoted nat_eq world namespace root new put) (λ mount m source e.
    let from = among-from_map (pivoted_mount nat_eq root new put) world.mounts mount m in
    lives_weaker (has_members nat_eq world.mounts)
    (has_members nat_eq (map (pivoted_mount nat_eq root new put) world.mounts)) world.master
    (λ group has. members-map (pivoted_mount nat_eq root new put) kept world.mounts group ∙ has) source
    (lives_in world live from.0 from.1 source (sym (ap source_of (ap (λ x. x.propagation) from.2 ∙ kept from.0)) ∙ e)))
  where
    kept : (mount : Mount ℕ) → (pivoted_mount nat_eq root new put mount).propagation ≡ mount.propagation
    kept mount = grind (arith, common_steps)

pub unshare_keeps_groups : KeptByUnshare GroupsLive
unshare_keeps_groups world fresh task live =
    let copied = mounts_of nat_eq world task.namespace in
    let copy = copied_mount (numbers_by nat_eq (odds fresh) copied) (evens fresh 0) in
    groups_live_by (unshared nat_eq world fresh task) (λ mount m source e.
    let more : (group : ℕ) → has_members nat_eq world.mounts group ≡ true
    → has_members nat_eq (world.mounts ++ map copy copied) group ≡ true = λ group has.
    let member = any_among (is_member_of nat_eq group) world.mounts has in
    any_from_among (is_member_of nat_eq group) (world.mounts ++ map copy copied) member.0
    (among-append_left world.mounts (map copy copied) member.0 member.1) member.2 in
    lives_weaker (has_members nat_eq world.mounts)
    (has_members nat_eq (world.mounts ++ map copy copied)) world.master more source (⊎_elim
    (λ old. lives_in world live mount old source e) (λ new.
    let from = among-from_map copy copied mount new in
    let origin = among-from_filter (λ x. holds_of (nat_eq task.namespace) x.namespace) world.mounts from.0 from.1 in
    lives_in world live from.0 origin.0 source (sym (ap (λ x. source_of x.propagation) from.2) ∙ e))
    (among-append world.mounts (map copy copied) mount m)))

-- a way up the masters goes by groups that have members, so it is there where only these keep their masters
lives_with_members : (members : ℕ → Bool) (master : ℕ → Option ℕ) (group : ℕ) → Lives members master group
    → Lives members (λ other. if members other then master other else None) group
lives_with_members members master group (has_no_master it has f) =
    has_no_master it has (ap (λ b. if b then master it else None) has ∙ f)
lives_with_members members master group (has_master it next has f later) =
    has_master it next has (ap (λ b. if b then master it else None) has ∙ f) (lives_with_members _ master next later)

pub settling_keeps_groups : SettlingKeepsGroups
settling_keeps_groups world nowhere live = groups_live_by (settled nat_eq world) (λ mount m source e.
    let from = among-from_filter (mount_lives nat_eq world) world.mounts mount m in
    lives_with_members (has_members nat_eq (filter (mount_lives nat_eq world) world.mounts)) world.master source
    (lives_weaker (has_members nat_eq world.mounts)
    (has_members nat_eq (filter (mount_lives nat_eq world) world.mounts)) world.master (λ group has.
    let member = any_among (is_member_of nat_eq group) world.mounts has in
    any_from_among (is_member_of nat_eq group) (filter (mount_lives nat_eq world) world.mounts) member.0
    (among-filter (mount_lives nat_eq world) world.mounts member.0 member.1
    (attached member.0 (among_from_list_all is_nowhere_or_attached world.mounts nowhere member.0 member.1) group
    (member_shared group member.0 member.2))) member.2) source (lives_in world live mount from.0 source e)))
  where
    attached : (mount : Mount ℕ) → is_nowhere_or_attached mount ≡ true → (group : ℕ) → mount.propagation ≡ Shared group
        → mount_lives nat_eq world mount ≡ true
    attached mount fit group shared = grind (arith, common_steps, true≢false, and-false)

-- A mount that takes other flags keeps its type.
pub flags_keep_groups : FlagsKeepGroups
flags_keep_groups world at flags one_each live =
    let new = record (mount_at nat_eq world at) { flags = flags } in
    let kept : (old : Mount ℕ) → Among old world.mounts
    → (replaced_if_same nat_eq new old).propagation ≡ old.propagation =
    λ old m. same_type old m (nat_eq new.number old.number) refl in
    groups_live_by (with_flags nat_eq world at.mount flags) (λ mount m source e.
    let from = among-from_map (replaced_if_same nat_eq new) world.mounts mount m in
    lives_weaker (has_members nat_eq world.mounts)
    (has_members nat_eq (with_mount nat_eq world.mounts new)) world.master (λ group has.
    let member = any_among (is_member_of nat_eq group) world.mounts has in
    any_from_among (is_member_of nat_eq group) (with_mount nat_eq world.mounts new)
    (replaced_if_same nat_eq new member.0) (among-map (replaced_if_same nat_eq new) world.mounts member.0 member.1)
    (ap (λ k. holds_of (nat_eq group) (group_of k)) (kept member.0 member.1) ∙ member.2))
    source (lives_in world live from.0 from.1 source
    (sym (ap source_of (ap (λ x. x.propagation) from.2 ∙ kept from.0 from.1)) ∙ e)))
  where
    same_type : (old : Mount ℕ) → Among old world.mounts → (b : Bool)
        → nat_eq (mount_at nat_eq world at).number old.number ≡ b
        → (replaced_if_same nat_eq (record (mount_at nat_eq world at) { flags = flags }) old).propagation
        ≡ old.propagation
    same_type old m b e =
        grind (arith, common_steps, replaced_there, number-mount_in, eqb-true, found_itself, replaced_elsewhere)
