-- A move leaves each mount standing, and at most one at a place.
use Rattle.std.proofs.Common.{arith, ◌≡◌, refl, sym, ap, subst, ◌∙◌, true, nat_eq, ℕ, List, [], append-nil, eqb-true, flat_map, inl, inr, is_some, length, suc, true≢false, zero, ⊎_elim, ◌∷◌}
use Rattle.vt_spec.proofs.Common.{Among, Location, Mount, MountInvariants, Stands, World, among-flat_map, among-from_filter, among-from_flat_map, among-from_map, among_from_all, among_from_list_all, at_root, children, common_steps, found_or_none, is_among, is_nowhere_or_attached, mount_at, mount_in, mount_numbered, mount_tree, moved_tree, nat_eq_false_turned, none_among, none_from_among, number-mount_in, on_parent, or_false_alone, parts_of, stands_on, tree_among, tree_from}
use Rattle.vt_laws_mounts.specs.Mounts.Attaching.{numbers_of}
use Rattle.vt_laws_mounts.specs.Mounts.Moving.{CanMove, MovesKeepMountPoints, MovesKeepStanding}
use Rattle.vt_laws_mounts.proofs.attached.Attaching.{Hangs}
use Rattle.vt_laws_mounts.proofs.attached.Attaching.Hangs.{from_top}
use Rattle.vt_laws_mounts.proofs.attached.BindsStand.{child_hangs}
use Rattle.vt_laws_mounts.proofs.mounts.MountsNumbered.{is_one_of, supplies_serve_as_copies}
use Rattle.vt_laws_mounts.proofs.mounts.MountsReplaced.{found_itself}
use Rattle.vt_laws_mounts.proofs.moves.MovingLeaves.{MayMove}
use Rattle.vt_laws_mounts.proofs.moves.TreesMoved.{moved_apart, moved_stand}
use Rattle.vt_laws_mounts.proofs.mounts.Standing.{standing_is_computed, trees_have_each_once}
use Rattle.vt_laws_mounts.proofs.ends.UnmountingTrees.{AreClosed, trees_closed}

-- a tree begins with its top
pub tree_top : (fuel : ℕ) (mounts : List (Mount ℕ)) (top : Mount ℕ)
    → (rest : List (Mount ℕ)) × (tree_from nat_eq fuel mounts top ≡ top ∷ rest)
tree_top zero mounts top = ([], refl)
tree_top (suc fuel) mounts top = (flat_map (tree_from nat_eq fuel mounts) (children nat_eq mounts top.number), refl)

top_among_tree : (fuel : ℕ) (mounts : List (Mount ℕ)) (top : Mount ℕ) → Among top (tree_from nat_eq fuel mounts top)
top_among_tree fuel mounts top = let t = tree_top fuel mounts top in subst (Among top) (sym t.1) (inl refl)

-- a number of a mount that has a place, or is in a namespace, is that of one that is there
pub placed_there : (mounts : List (Mount ℕ)) (number : ℕ) → is_some (mount_in nat_eq mounts number).mount_point ≡ true
    → Among (mount_in nat_eq mounts number) mounts
placed_there mounts number placed = ⊎_elim (λ l. l) (λ none. absurd cc) (found_or_none mounts number)

attached_there : (mounts : List (Mount ℕ)) (number : ℕ) → is_some (mount_in nat_eq mounts number).namespace ≡ true
    → is_among nat_eq number (numbers_of mounts) ≡ true
attached_there mounts number attached = ⊎_elim (λ l. subst (λ n. is_among nat_eq n (numbers_of mounts) ≡ true)
    (number-mount_in mounts number) (is_one_of mounts _ l)) (λ none. absurd cc) (found_or_none mounts number)

module _ (world : World ℕ) where
  -- each of a tree hangs on another of it
  tree_hangs : (whole : List (Mount ℕ)) (fuel : ℕ) (mount : Mount ℕ) → Hangs whole mount.number
      → ((x : Mount ℕ) → Among x (tree_from nat_eq fuel world.mounts mount) → Among x whole)
      → (x : Mount ℕ) → Among x (tree_from nat_eq fuel world.mounts mount) → Hangs whole x.number
  tree_hangs whole zero mount hung all x m =
      ⊎_elim (λ e. subst (λ (y : Mount ℕ). Hangs whole y.number) (sym e) hung) (λ none. absurd none) m
  tree_hangs whole (suc fuel) mount hung all x m = ⊎_elim
      (λ e. subst (λ (y : Mount ℕ). Hangs whole y.number) (sym e) hung) (λ later.
      let below = children nat_eq world.mounts mount.number in
      let from = among-from_flat_map _ below x later in
      let within : (y : Mount ℕ) → Among y (tree_from nat_eq fuel world.mounts from.0) → Among y whole =
      λ y n. all y (inr (among-flat_map _ below from.0 y from.1 n)) in
      tree_hangs whole fuel from.0 (child_hangs world whole _ from.0 from.1
      (within from.0 (top_among_tree fuel _ from.0)) hung) within x from.2) m

  module _ (invariants : MountInvariants nat_eq world) where
    -- a tree is in one namespace
    child_namespace : (mount child : Mount ℕ) → Among mount world.mounts
        → Among child (children nat_eq world.mounts mount.number) → child.namespace ≡ mount.namespace
    child_namespace mount child m n =
        let from = among-from_filter (stands_on nat_eq mount.number) world.mounts child n in
        by
        (among_from_all (λ (x : Mount ℕ). Stands nat_eq world x.number) world.mounts invariants.standing child from.0)
        (found_itself world.mounts invariants.one_number child from.0) from.1
      where
        by : Stands nat_eq world child.number → mount_numbered nat_eq world child.number ≡ child
            → stands_on nat_eq mount.number child ≡ true → child.namespace ≡ mount.namespace
        by (at_root it e) itself on = grind (arith, common_steps, true≢false)
        by (on_parent it at e f stands) itself on = grind (arith, common_steps, eqb-true, found_itself)

    tree_namespace : (fuel : ℕ) (mount x : Mount ℕ) → Among mount world.mounts
        → Among x (tree_from nat_eq fuel world.mounts mount) → x.namespace ≡ mount.namespace
    tree_namespace zero mount x there m = ⊎_elim (λ e. ap (λ (y : Mount ℕ). y.namespace) e) (λ none. absurd none) m
    tree_namespace (suc fuel) mount x there m = ⊎_elim (λ e. ap (λ (y : Mount ℕ). y.namespace) e) (λ later.
        let from = among-from_flat_map _ _ x later in
        let child = (among-from_filter _ _ from.0 from.1).0 in
        tree_namespace fuel from.0 x child from.2 ∙ child_namespace mount from.0 there from.1) m

    -- what stands on a mount of a tree is in it
    tree_closed : (top : Mount ℕ) → AreClosed world (numbers_of (mount_tree nat_eq world.mounts top))
    tree_closed top =
        subst (λ list. AreClosed world (numbers_of list)) (append-nil (mount_tree nat_eq world.mounts top))
        (trees_closed world invariants.one_number
        ((standing_is_computed world invariants.one_number).0 invariants.standing) (top ∷ []))

    may_move : (source place : Location ℕ) → CanMove world source place
        → MayMove world place (moved_tree nat_eq world source.mount)
    may_move source place can =
        let top = mount_at nat_eq world source in
        let fuel = length world.mounts in
        let mounts = moved_tree nat_eq world source.mount in
        let begins = tree_top fuel world.mounts top in
        let top_there = placed_there world.mounts source.mount can.placed in
        let attached : is_some (mount_at nat_eq world place).namespace ≡ true =
        ap is_some can.one_namespace ∙ in_some top top_there can.placed in
        record {
          own = trees_have_each_once world source.mount invariants.one_number invariants.standing;
          one = invariants.one_number;
          nowhere = invariants.nowhere;
          all = invariants.standing;
          there = attached_there world.mounts place.mount attached;
          inside = λ origin m. ⊎_elim (λ e. subst (λ y. Among y world.mounts) (sym e) top_there) (λ l. l)
              (tree_among fuel world.mounts top origin m);
          hangs = tree_hangs mounts fuel top (from_top top begins.0 begins.1) (λ x m. m);
          top = top;
          rest = begins.0;
          is_tree = begins.1;
          closed = tree_closed top;
          outside = none_from_among (nat_eq place.mount) (numbers_of mounts) (λ number m.
              let from = among-from_map (λ (mount : Mount ℕ). mount.number) mounts number m in
              ap (nat_eq place.mount) from.2 ∙ nat_eq_false_turned from.0.number place.mount
              (none_among (λ (other : Mount ℕ). nat_eq other.number place.mount) mounts can.outside from.0 from.1));
          in_one = λ origin m. tree_namespace fuel top origin top_there m ∙ sym can.one_namespace;
          attached = attached;
        }
      where
        in_some : (mount : Mount ℕ) → Among mount world.mounts → is_some mount.mount_point ≡ true
            → is_some mount.namespace ≡ true
        in_some mount m placed = or_false_alone (is_some mount.namespace)
            (cc (among_from_list_all is_nowhere_or_attached world.mounts invariants.nowhere mount m))

pub moves_keep_standing : MovesKeepStanding
moves_keep_standing world fresh source place serves invariants can =
    let mounts = moved_tree nat_eq world source.mount in
    moved_stand (may_move world invariants source place can)
    (supplies_serve_as_copies world fresh (parts_of nat_eq world place) mounts serves)

pub moves_keep_places : MovesKeepMountPoints
moves_keep_places world fresh source place serves invariants can free =
    let mounts = moved_tree nat_eq world source.mount in
    moved_apart (may_move world invariants source place can)
    (supplies_serve_as_copies world fresh (parts_of nat_eq world place) mounts serves) invariants.one_child free
