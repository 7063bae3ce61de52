-- Mounts that go with all that stands on them leave at most one mount at a place.
use Rattle.std.proofs.Common.{◌≡◌, refl, sym, ap, subst, ◌∙◌, true, zero, suc, nat_eq, ℕ, List, Option, Some, arith, eq-eqb, eqb-true, flat_map, inl, inr, is_some, length, map, option_map, true≢false, ⊎_elim, ◌⊎◌}
use Rattle.vt_spec.proofs.Common.{Among, Location, Mount, World, after_going, among-filter, among-flat_map, among-from_filter, among-from_flat_map, among-from_map, among-map, among_from_list_all, among_numbers, and_parts, any_pair, chain, chain_goes_on, common_steps, false_from_ne_true, holds_of, inheriting, is_among_numbers, is_going, last_of_chain, last_or, mount_at, mount_numbered, mount_tree, not-true, pair-map, share_a_mount_point, stands_on, taken_away, tree_from}
use Rattle.vt_laws_mounts.specs.Mounts.Invariants.{AreApart, OneNumberEach, TreesLeaveOneMountAMountPoint}
use Rattle.vt_laws_mounts.specs.Mounts.Unmounting.{ChainsEnd}
use Rattle.vt_laws_mounts.proofs.mounts.MountsReplaced.{found_itself}
use Rattle.vt_laws_mounts.proofs.ends.Unmounting.{going_is_detached, left_at_rest, middle, staying_is_placed}
use Rattle.vt_laws_mounts.proofs.Groups.{mounts-regrouped}
use Rattle.vt_laws_mounts.proofs.mounts.MountsPlaces.{one_place_of_two, place_of_both}
use Rattle.vt_laws_mounts.proofs.mounts.MountsKept.{taking_away_keeps_numbers}

-- what stands on a mount that goes, goes
abbrev pub AreClosed : World ℕ → List ℕ → Type 0
AreClosed world gone = (x : Mount ℕ) (place : Location ℕ) → Among x world.mounts → x.mount_point ≡ Some place
    → is_going nat_eq gone place.mount ≡ true → is_going nat_eq gone x.number ≡ true

module _ (world : World ℕ) (gone : List ℕ) (closed : AreClosed world gone) where
  -- then what stays stands where it stood
  stood_there : (a : Mount ℕ) (rest : Location ℕ) → Among a world.mounts
      → (after_going nat_eq world gone a).mount_point ≡ Some rest → a.mount_point ≡ Some rest
  stood_there a rest m e = grind (arith, common_steps, true≢false, left_at_rest, going_is_detached, staying_is_placed)

  pub closed_keeps_apart : AreApart world → AreApart (taken_away nat_eq world gone)
  closed_keeps_apart both = record {
    by_number = taking_away_keeps_numbers world gone both.by_number;
    by_place = ap (any_pair (share_a_mount_point nat_eq)) (mounts-regrouped (middle world gone))
        ∙ pair-map (share_a_mount_point nat_eq) (share_a_mount_point nat_eq) (inheriting nat_eq (middle world gone))
        (middle world gone).mounts (λ a b m n e. e)
        (pair-map (share_a_mount_point nat_eq) (share_a_mount_point nat_eq) (after_going nat_eq world gone) world.mounts
        (λ a b m n differ. false_from_ne_true _ (λ together.
        let place = place_of_both (after_going nat_eq world gone a) (after_going nat_eq world gone b) together in
        true≢false (sym (one_place_of_two place.0 a b (stood_there a place.0 m place.1)
        (stood_there b place.0 n place.2)) ∙ differ))) both.by_place);
  }

-- Trees

module _ (world : World ℕ) where
  abbrev mount_below : Mount ℕ → Option (Mount ℕ)
  mount_below mount = option_map (mount_at nat_eq world) mount.mount_point

  -- one mount stands so many places above another
  data Reaches : ℕ → Mount ℕ → Mount ℕ → Type 0 where
    arrived : (mount : Mount ℕ) → Reaches zero mount mount
    down : (n : ℕ) (mount end : Mount ℕ) (place : Location ℕ) → mount.mount_point ≡ Some place
        → Reaches n (mount_at nat_eq world place) end → Reaches (suc n) mount end

  one_more : (n : ℕ) (mount end : Mount ℕ) (place : Location ℕ) → Reaches n mount end → end.mount_point ≡ Some place
      → Reaches (suc n) mount (mount_at nat_eq world place)
  one_more n mount end place (arrived it) e =
      down zero it (mount_at nat_eq world place) place e (arrived (mount_at nat_eq world place))
  one_more n mount end place (down k it last at f later) e =
      down (suc k) it (mount_at nat_eq world place) at f (one_more k _ last place later e)

  -- so its places do not end sooner
  not_ended : (n k : ℕ) (mount end : Mount ℕ) → Reaches k mount end → k ≡ suc n
      → is_some (last_or mount (chain n mount_below mount)).mount_point ≡ true
  not_ended n k mount end (arrived it) e = absurd (omega (arith, e))
  not_ended zero k mount end (down j it last at f later) e = ap is_some f
  not_ended (suc n) k mount end (down j it last at f later) e = ap (λ m. is_some m.mount_point)
      (ap (last_or it) (chain_goes_on _ n it _ (ap (option_map (mount_at nat_eq world)) f)) ∙ last_of_chain _ n _ it)
      ∙ not_ended n j _ last later (omega (arith, e))

  module _ (one : OneNumberEach world) (ends : ChainsEnd world) where
    ended : (mount end : Mount ℕ) → Among mount world.mounts → Reaches (suc (length world.mounts)) mount end → ⊥
    ended mount end m r = true≢false (sym (not_ended _ _ mount end r refl) ∙ not-true _
        (and_parts _ _ (among_from_list_all _ _ ends mount m)).0)

    -- what stands on a mount of a tree is in it, or lies so deep
    in_tree : (depth : ℕ) (top under x : Mount ℕ) (place : Location ℕ)
        → Among under (tree_from nat_eq depth world.mounts top)
        → Among x world.mounts → x.mount_point ≡ Some place → place.mount ≡ under.number
        → Among x (tree_from nat_eq depth world.mounts top)
        ⊎ Reaches (suc depth) x (mount_numbered nat_eq world top.number)
    in_tree zero top under x place m n e same =
        let number : place.mount ≡ top.number = ⊎_elim (λ f. cc) (λ none. absurd none) m in
        inr (subst (λ k. Reaches 1 x (mount_numbered nat_eq world k)) number
        (down zero x (mount_at nat_eq world place) place e (arrived (mount_at nat_eq world place))))
    in_tree (suc depth) top under x place m n e same = ⊎_elim (λ f.
        let number : place.mount ≡ top.number = cc in
        inl (inr (among-flat_map _ _ x x (among-filter _ _ x n (ap (holds_of (λ p. nat_eq top.number p.mount)) e
        ∙ eq-eqb top.number place.mount (sym number))) (top_among depth x)))) (λ later.
        let from = among-from_flat_map _ _ under later in
        let child = among-from_filter _ _ from.0 from.1 in
        ⊎_elim (λ found. inl (inr (among-flat_map _ _ from.0 x from.1 found)))
        (λ deep. inr (deeper depth x from.0 child.0 child.1 (subst (Reaches (suc depth) x)
        (found_itself _ one from.0 child.0) deep))) (in_tree depth from.0 under x place from.2 n e same)) m
      where
        top_among : (d : ℕ) (z : Mount ℕ) → Among z (tree_from nat_eq d world.mounts z)
        top_among zero z = inl refl
        top_among (suc d) z = inl refl

        deeper : (d : ℕ) (z child : Mount ℕ) → Among child world.mounts → stands_on nat_eq top.number child ≡ true
            → Reaches (suc d) z child → Reaches (suc (suc d)) z (mount_numbered nat_eq world top.number)
        deeper d z child c on r = grind (arith, common_steps, true≢false, eqb-true, one_more)

    pub trees_closed : (tops : List (Mount ℕ))
        → AreClosed world (map (λ (mount : Mount ℕ). mount.number) (flat_map (mount_tree nat_eq world.mounts) tops))
    trees_closed tops x place m e goes =
        let numbers = map (λ (mount : Mount ℕ). mount.number) (flat_map (mount_tree nat_eq world.mounts) tops) in
        let gone = among-from_map _ _ _ (among_numbers _ _ goes) in
        let tree = among-from_flat_map _ tops gone.0 gone.1 in
        ⊎_elim (λ found. is_among_numbers _ _ (among-map _ _ x (among-flat_map _ tops tree.0 x tree.1 found)))
        (λ deep. absurd (ended x _ m deep)) (in_tree _ tree.0 gone.0 x place tree.2 m e gone.2)

pub trees_leave_one_mount_a_place : TreesLeaveOneMountAMountPoint
trees_leave_one_mount_a_place world tops ends both =
    closed_keeps_apart world (map (λ (mount : Mount ℕ). mount.number) (flat_map (mount_tree nat_eq world.mounts) tops))
    (trees_closed world both.by_number ends tops) both
