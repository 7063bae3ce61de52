-- What goes when types of mounts change.
use Rattle.std.proofs.Common.{arith, ◌≡◌, refl, sym, ap, subst, ◌∙◌, inl, inr, ⊎_elim, ℕ, zero, suc, nat_eq, eqb-true, Bool, true, false, cond, List, [], ◌∷◌, map, true≢false, Option, None, is_some}
use Rattle.vt_spec.proofs.Common.{Fresh, Mount, Private, Propagation, Shared, Slave, TypeWord, Unbindable, World, cases_Bool, common_steps, false_from_ne_true, heir, inherited, inheriting, is_among, is_member_of, is_nowhere_or_attached, is_private, list_any, list_any-append, lost_a_group, map_twice, master_after, mount_in, mount_lives, named_mounts, numbers_by, or_parts, regrouped_by, retyped_mount, root_of, settled, stands_on, tree_from, type_after, with_new_groups}
use Rattle.vt_laws_mounts.specs.LettingGo.Attaching.{is_attached}
use Rattle.vt_laws_mounts.specs.LettingGo.InUse.{AllInUse}
use Rattle.vt_laws_mounts.specs.LettingGo.Unmounting.{groups_of_mounts}
use Rattle.vt_laws_mounts.specs.LettingGo.Leaving.{MountsStand}
use Rattle.vt_laws_mounts.specs.LettingGo.OneByOne.{GroupsInUseBut, let_go_groups}
use Rattle.vt_laws_mounts.specs.LettingGo.Retyping.{SetTypesLetGo, groups_of_types}
use Rattle.vt_laws_mounts.proofs.letting_go.mounting.AttachedSwept.{of_tree}
use Rattle.vt_laws_mounts.proofs.letting_go.leaving.Detached.{found-map, not_found-map}
use Rattle.vt_laws_mounts.proofs.letting_go.mounting.Unmounted.{no_members}
use Rattle.vt_laws_mounts.proofs.letting_go.Lists.{Among, among-from_filter, among-from_flat_map, among-from_map, among-map, among_from_list_all, any_among, any_from_among, is_among_numbers, list_all_from_among, or_left}
use Rattle.vt_laws_mounts.proofs.letting_go.mounting.MountingLosers.{Loses, changed}
use Rattle.vt_laws_mounts.proofs.letting_go.mounting.MountingOverlays.{only_groups_go}
use Rattle.vt_laws_mounts.proofs.letting_go.leaving.PlacesLeft.{found_is_there, found_itself, nowhere_parts}

-- the masters of groups that are not new stay
old_masters : (group : ℕ → ℕ) (mounts : List (Mount ℕ)) (master : ℕ → Option ℕ) (one : ℕ)
    → ((mount : Mount ℕ) → Among mount mounts → nat_eq one (group mount.number) ≡ false)
    → with_new_groups nat_eq group master mounts one ≡ master one
old_masters group [] master one none = refl
old_masters group (mount ∷ rest) master one none = old_masters group rest _ one (λ x m. none x (inr m)) ∙ ap
    (λ b. cond b (master_after mount.propagation) (master one)) (none mount (inl refl))

-- each mount of a tree whose top is in a namespace is in one
tree_attached : (world : World ℕ) → MountsStand world → (depth : ℕ) (top : Mount ℕ) → is_some top.namespace ≡ true
    → (mount : Mount ℕ) → Among mount (tree_from nat_eq depth world.mounts top) → is_some mount.namespace ≡ true
tree_attached world stand zero top is mount m = ⊎_elim (λ e. cc) (λ none. absurd none) m
tree_attached world stand (suc depth) top is mount m = ⊎_elim (λ e. cc) (λ later.
    let under = among-from_flat_map _ _ mount later in
    let child = among-from_filter _ _ _ under.1 in
    tree_attached world stand depth _ (placed _ child.0 child.1) mount under.2) m
  where
    placed : (child : Mount ℕ) → Among child world.mounts → stands_on nat_eq top.number child ≡ true
        → is_some child.namespace ≡ true
    placed child n on = grind (
      arith,
      common_steps,
      among_from_list_all is_nowhere_or_attached world.mounts stand.nowhere child n,
      cases_Bool (is_some child.namespace),
    )

module _ (fresh : Fresh ℕ) {world : World ℕ} (number : ℕ) (word : TypeWord) (recursive : Bool)
    (in_use : AllInUse world) (stand : MountsStand world) (attached : is_attached world number ≡ true) where
  abbrev named : List (Mount ℕ)
  named = named_mounts nat_eq world number recursive

  abbrev group : ℕ → ℕ
  group = numbers_by nat_eq fresh named

  abbrev retype : Mount ℕ → Mount ℕ
  retype = retyped_mount nat_eq group word named

  abbrev base : World ℕ
  base = record world { mounts = map retype world.mounts; master = with_new_groups nat_eq group world.master named }

  abbrev change : Bool → Mount ℕ → Mount ℕ
  change true mount = inheriting nat_eq base (retype mount)
  change false mount = retype mount

  abbrev masters : Bool → ℕ → Option ℕ
  masters true = λ one. heir nat_eq base (base.master one)
  masters false = base.master

  abbrev last : Bool → World ℕ
  last b = changed world (map (change b) world.mounts) (masters b) world.namespaces world.tasks

  retyped_so : (b : Bool) → regrouped_by nat_eq b base ≡ last b
  retyped_so true = ap (λ mounts. changed world mounts (masters true) world.namespaces world.tasks)
      (map_twice _ retype _)
  retyped_so false = refl

  -- a mount keeps all but its type
  keeps : {A : Type 0} (part : Mount ℕ → A) → ((mount : Mount ℕ) (kind : Propagation ℕ)
      → part (record mount { propagation = kind }) ≡ part mount)
      → (b : Bool) (mount : Mount ℕ) → part (change b mount) ≡ part mount
  keeps part same b mount = grind (arith, common_steps, group)

  abbrev is_named : Mount ℕ → Bool
  is_named mount = list_any (λ other. nat_eq mount.number other.number) named

  unnamed_stays : (mount : Mount ℕ) → is_named mount ≡ false → retype mount ≡ mount
  unnamed_stays mount isnt = ap (λ c. cond c (record mount {
    propagation = type_after (group mount.number) word mount.propagation;
  }) mount) isnt

  -- those that change are in namespaces
  named_of_world : (mount : Mount ℕ) → Among mount named → Among mount world.mounts × (is_some mount.namespace ≡ true)
  named_of_world = grind (arith, common_steps, of_tree, tree_attached, found_is_there)

  named_attached : (mount : Mount ℕ) → Among mount world.mounts → is_named mount ≡ true → is_some mount.namespace ≡ true
  named_attached mount m is =
      let t = any_among _ named is in
      let other = named_of_world t.0 t.1 in
      let same : mount ≡ t.0 = sym (found_itself _ stand.one_number mount m) ∙ ap (mount_in nat_eq world.mounts)
      (eqb-true mount.number t.0.number t.2) ∙ found_itself _ stand.one_number t.0 other.0 in
      cc (same, other.1)

  nowhere : (b : Bool) (mount : Mount ℕ) → Among mount world.mounts → is_nowhere_or_attached (change b mount) ≡ true
  nowhere b mount m = ⊎_elim (λ in_one. or_left (is_some (change b mount).namespace) _
      (keeps (λ x. is_some x.namespace) (λ x kind. refl) b mount ∙ in_one))
      (λ out. outside b out (false_from_ne_true (is_named mount)
      (λ is. cc (named_attached mount m is)))) (cases_Bool (is_some mount.namespace))
    where
      was : is_nowhere_or_attached mount ≡ true
      was = among_from_list_all is_nowhere_or_attached world.mounts stand.nowhere mount m

      private_stays : (kind : Propagation ℕ) → is_private kind ≡ true → inherited nat_eq base kind ≡ kind
      private_stays (Shared own) e = refl
      private_stays (Slave up) e = cc
      private_stays Private e = refl
      private_stays Unbindable e = refl

      outside : (c : Bool) → is_some mount.namespace ≡ false → is_named mount ≡ false
          → is_nowhere_or_attached (change c mount) ≡ true
      outside true out isnt =
          cc (unnamed_stays mount isnt, private_stays mount.propagation (nowhere_parts mount was out).1, was)
      outside false out isnt = cc (unnamed_stays mount isnt, was)

  loses : (b : Bool) → Loses world (last b) [] []
  loses b = record {
    images = λ mount m. (
      change b mount,
      (
        among-map (change b) world.mounts mount m,
        (keeps root_of (λ x kind. refl) b mount, keeps (λ x. x.filesystem) (λ x kind. refl) b mount),
      ),
    );
    shown = λ location m. ⊎_elim (λ e. e) (λ found. ap (λ x. x.filesystem) (found-map (change b) (keeps (λ x. x.number)
        (λ x kind. refl) b) world.mounts location.mount found.0 found.1 found.2 found.3)
        ∙ keeps (λ x. x.filesystem) (λ x kind. refl) b (mount_in nat_eq world.mounts location.mount))
        (not_found-map (change b) (keeps (λ x. x.number) (λ x kind. refl) b) world.mounts location.mount);
    live = λ x m isnt. let from = among-from_map (change b) world.mounts x m in
        ap (mount_lives nat_eq world) from.2 ∙ keeps (mount_lives nat_eq world) (λ y kind. refl) b from.0
        ∙ among_from_list_all (mount_lives nat_eq world) world.mounts in_use.mounts from.0 from.1;
    locations = λ location m. inl (inl m);
    places = λ mount m place p. inl (
      change b mount,
      (among-map (change b) world.mounts mount m, (keeps (λ x. x.mount_point) (λ x kind. refl) b mount ∙ p, inl refl)),
    );
    nowhere = list_all_from_among is_nowhere_or_attached (last b).mounts (λ x m.
        let from = among-from_map (change b) world.mounts x m in
        cc (from.2, nowhere b from.0 from.1));
  }

  abbrev numbers : List ℕ
  numbers = map (λ mount. mount.number) named

  unnamed_member : (b : Bool) (mount : Mount ℕ) → is_among nat_eq mount.number numbers ≡ false → (one : ℕ)
      → is_member_of nat_eq one mount ≡ true → is_member_of nat_eq one (change b mount) ≡ true
  unnamed_member b mount isnt one is = grind (
    arith,
    common_steps,
    unnamed_stays,
    false_from_ne_true,
    any_among,
    true≢false,
    is_among_numbers,
    eqb-true,
    among-map,
  )

  no_master : (b : Bool) (one : ℕ) → is_among nat_eq one (map (λ mount. group mount.number) named) ≡ false
      → world.master one ≡ None → masters b one ≡ None
  no_master b one old e = by b
    where
      before : base.master one ≡ None
      before = old_masters group named _ one (λ mount m. false_from_ne_true _
          (λ same. true≢false (sym (any_from_among _ _ _ (among-map _ named mount m) same) ∙ old))) ∙ e

      by : (c : Bool) → masters c one ≡ None
      by true = ap (heir nat_eq base) before
      by false = before

  hears : (b : Bool) → GroupsInUseBut (groups_of_types fresh world number recursive) (last b)
  hears b one among none =
      let parts = or_parts (is_among nat_eq one (groups_of_mounts world numbers))
      (is_among nat_eq one (map (λ mount. group mount.number) named))
      (cc (list_any-append (nat_eq one) (groups_of_mounts world numbers) (map (λ mount. group mount.number) named))) in
      no_master b one parts.1 (no_members world (last b) numbers in_use.groups
      (λ mount m isnt other is. any_from_among (is_member_of nat_eq other) (last b).mounts (change b mount)
      (among-map (change b) world.mounts mount m) (unnamed_member b mount isnt other is)) one parts.0 none)

pub set_types_let_go : SetTypesLetGo
set_types_let_go fresh world task number word recursive in_use stand attached =
    subst (λ w. settled nat_eq w ≡ let_go_groups w (groups_of_types fresh world number recursive))
    (sym (retyped_so fresh number word recursive in_use stand attached b))
    (only_groups_go world now.mounts now.master world.filesystems
    (groups_of_types fresh world number recursive) in_use stand
    (loses fresh number word recursive in_use stand attached b)
    (hears fresh number word recursive in_use stand attached b) (record { kept = λ f m. m; new = λ f m. inl m }))
  where
    b : Bool
    b = list_any (lost_a_group nat_eq (base fresh number word recursive in_use stand attached))
        (base fresh number word recursive in_use stand attached).mounts

    now : World ℕ
    now = last fresh number word recursive in_use stand attached b
