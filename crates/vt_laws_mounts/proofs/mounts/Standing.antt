-- Mounts that stand, and what the test of it computes.
use Rattle.std.proofs.Common.{◌≡◌, refl, sym, ap, subst, ◌∙◌, true, false, zero, suc, nat_eq, ℕ, Bool, List, None, Option, Some, [], arith, eq-eqb, eqb-true, filter, flat_map, inl, inr, is_some, length, not, option_map, true≢false, ⊎_elim, ◌<◌, ◌∷◌, ◌≤◌, ◌⊎◌}
use Rattle.vt_spec.proofs.Common.{Among, Location, Mount, Stands, World, all_from_among, among-filter, among-from_filter, among-from_flat_map, among-map, among_from_all, among_from_list_all, among_numbers, and_from, and_parts, any_pair, at_root, bind_tree, bindable_children, bindable_tree, bound, chain, chain_ends, chain_goes_on, children, common_steps, depth_of, false_from_ne_true, found_or_none, is_unbindable, last_of_chain, last_or, last_parent, length-filter_both, length-map, list_all_from_among, list_any, mount_at, mount_numbered, no_mount, none_among, none_from_among, not-true, number-mount_in, on_parent, or_from, or_parts, pair-filter, same_Some, same_option, stands_in_its_namespace, stands_on, stands_under, tree_from}
use Rattle.vt_laws_mounts.specs.Mounts.Attaching.{OneNumberAMount, numbers_of}
use Rattle.vt_laws_mounts.specs.Mounts.Invariants.{OneNumberEach}
use Rattle.vt_laws_mounts.specs.Mounts.Standing.{AllStand, BindsTakeEachOnce, StandingIsComputed, TreesHaveEachOnce}
use Rattle.vt_laws_mounts.specs.Mounts.Unmounting.{ChainsEnd}
use Rattle.vt_laws_mounts.proofs.mounts.MountsFound.{placed_among}
use Rattle.vt_laws_mounts.proofs.mounts.MountsNumbered.{pair-flat_map, same_number}
use Rattle.vt_laws_mounts.proofs.mounts.MountsReplaced.{found_itself}
use Rattle.vt_laws_mounts.proofs.ends.UnmountingNamespaces.{one_namespace, same_namespace}
use Rattle.vt_spec.proofs.Found.{length_from_among}

-- numbers that are each another one and stand in a list are no more than it has
pub fewer_numbers : (numbers others : List ℕ) → any_pair nat_eq numbers ≡ false
    → ((number : ℕ) → Among number numbers → Among number others) → length numbers ≤ length others
fewer_numbers [] others distinct all = omega arith
fewer_numbers (first ∷ rest) others distinct all =
    let apart_all : (list_any (nat_eq first) rest ≡ false) × (any_pair nat_eq rest ≡ false) =
    or_parts (list_any (nat_eq first) rest) (any_pair nat_eq rest) distinct in
    let inside : Among first (filter (nat_eq first) others) =
    among-filter (nat_eq first) others first (all first (inl refl)) (eq-eqb first first refl) in
    let some_inside : 1 ≤ length (filter (nat_eq first) others) =
    not_empty (filter (nat_eq first) others) first inside in
    let both = length-filter_both (nat_eq first) (λ number. not (nat_eq first number)) (λ number. refl) others in
    let later : length rest ≤ length (filter (λ number. not (nat_eq first number)) others) =
    fewer_numbers rest (filter (λ number. not (nat_eq first number)) others) apart_all.1 (λ number m.
    among-filter (λ other. not (nat_eq first other)) others number (all number (inr m))
    (ap not (none_among (nat_eq first) rest apart_all.0 number m))) in
    omega (arith, both, later, some_inside)
  where
    not_empty : (list : List ℕ) (x : ℕ) → Among x list → 1 ≤ length list
    not_empty [] x m = absurd m
    not_empty (y ∷ ys) x m = omega arith

module _ (world : World ℕ) where
  abbrev Stand : ℕ → Type 0
  Stand = Stands nat_eq world

  abbrev below : Mount ℕ → Option (Mount ℕ)
  below mount = option_map (mount_at nat_eq world) mount.mount_point

  abbrev mount_of : ℕ → Mount ℕ
  mount_of = mount_numbered nat_eq world

  -- the last of so many mounts below a mount
  abbrev last_in : ℕ → Mount ℕ → Mount ℕ
  last_in n mount = last_or mount (chain n below mount)

  -- how many places there are below a mount, and the mounts that have one
  depth : (number : ℕ) → Stand number → ℕ
  depth number (at_root it e) = 0
  depth number (on_parent it place e f stands) = suc (depth _ stands)

  way : (number : ℕ) → Stand number → List ℕ
  way number (at_root it e) = []
  way number (on_parent it place e f stands) = it ∷ way _ stands

  way_length : (number : ℕ) (stands : Stand number) → length (way number stands) ≡ depth number stands
  unfolding depth way
  way_length number (at_root it e) = refl
  way_length number (on_parent it place e f stands) = ap suc (way_length _ stands)

  same_depth : (a : ℕ) (x : Stand a) (b : ℕ) (y : Stand b) → a ≡ b → depth a x ≡ depth b y
  unfolding depth
  same_depth a (at_root it e) b (at_root other f) same = refl
  same_depth a (at_root it e) b (on_parent other place f g y) same = grind (arith, common_steps, true≢false)
  same_depth a (on_parent it place e f x) b (at_root other g) same = grind (arith, common_steps, true≢false)
  same_depth a (on_parent it place e f x) b (on_parent other at g h y) same =
      grind (arith, common_steps, same_Some, same_depth place.mount x at.mount y)

  -- what is on the way stands no deeper
  on_way : (number : ℕ) (stands : Stand number) (other : ℕ) → Among other (way number stands)
      → (x : Stand other) × (depth other x ≤ depth number stands)
  unfolding depth way
  on_way number (at_root it e) other m = absurd m
  on_way number (on_parent it place e f stands) other m = ⊎_elim
      (λ same. subst (λ k. (x : Stand k) × (depth k x ≤ suc (depth _ stands))) (sym same)
      (on_parent it place e f stands, omega arith)) (λ later.
      let t : (x : Stand other) × (depth other x ≤ depth place.mount stands) = on_way _ stands other later in
      (t.0, omega (arith, t.1))) m

  way_apart : (number : ℕ) (stands : Stand number) → any_pair nat_eq (way number stands) ≡ false
  unfolding depth way
  way_apart number (at_root it e) = refl
  way_apart number (on_parent it place e f stands) = or_from (list_any (nat_eq it) (way place.mount stands)) _
      (false_from_ne_true (list_any (nat_eq it) (way _ stands)) (λ h.
      let t : (x : Stand it) × (depth it x ≤ depth place.mount stands) =
      on_way place.mount stands it (among_numbers (way _ stands) it h) in
      let same : depth it t.0 ≡ suc (depth place.mount stands) =
      same_depth it t.0 it (on_parent it place e f stands) refl in
      absurd (omega (arith, t.1, same)))) (way_apart place.mount stands)

  way_there : (number : ℕ) (stands : Stand number) (other : ℕ) → Among other (way number stands)
      → Among other (numbers_of world.mounts)
  unfolding way
  way_there number (at_root it e) other m = absurd m
  way_there number (on_parent it place e f stands) other m = ⊎_elim
      (λ same. subst (λ k. Among k (numbers_of world.mounts)) (number-mount_in _ it ∙ sym same)
      (among-map _ _ _ (placed_among _ it place e))) (way_there _ stands other) m

  not_deep : (number : ℕ) (stands : Stand number) → depth number stands ≤ length world.mounts
  not_deep number stands =
      let few = fewer_numbers _ _ (way_apart number stands) (way_there number stands) in
      let one = way_length number stands in
      let two = length-map world.mounts (λ (mount : Mount ℕ). mount.number) in
      omega (arith, few, one, two)

  -- where the places below a mount end, in its namespace
  last_stands : (n number : ℕ) (stands : Stand number) → depth number stands ≤ n
      → ((last_in n (mount_of number)).mount_point ≡ None)
      × ((mount_of number).namespace ≡ (last_in n (mount_of number)).namespace)
  unfolding depth
  last_stands zero number (at_root it e) l = (e, refl)
  last_stands zero number (on_parent it place e f stands) l = absurd (omega (arith, l))
  last_stands (suc n) number (at_root it e) l = grind (arith, common_steps, chain_ends)
  last_stands (suc n) number (on_parent it place e f stands) l =
      grind (arith, common_steps, chain_goes_on, last_of_chain, last_stands n place.mount stands (omega (arith, l)))

  chain_length : (n number : ℕ) (stands : Stand number) → depth number stands ≤ n
      → length (chain n below (mount_of number)) ≡ suc (depth number stands)
  unfolding depth
  chain_length zero number (at_root it e) l = omega arith
  chain_length zero number (on_parent it place e f stands) l = absurd (omega (arith, l))
  chain_length (suc n) number (at_root it e) l = grind (arith, common_steps, chain_ends)
  chain_length (suc n) number (on_parent it place e f stands) l =
      grind (arith, common_steps, chain_goes_on, chain_length n place.mount stands (omega (arith, l)))

  same_as_test : (a b : Option ℕ) → a ≡ b → same_option nat_eq a b ≡ true
  same_as_test None None e = refl
  same_as_test None (Some b) e = cc
  same_as_test (Some a) None e = absurd cc
  same_as_test (Some a) (Some b) e = eq-eqb a b (same_Some a b e)

  test_of_standing : OneNumberEach world → AllStand world → ChainsEnd world
  test_of_standing one all = list_all_from_among (stands_in_its_namespace nat_eq world) world.mounts (λ mount m.
      let itself : mount_of mount.number ≡ mount = found_itself world.mounts one mount m in
      let stands : Stand mount.number =
      among_from_all (λ (other : Mount ℕ). Stand other.number) world.mounts all mount m in
      let last = last_stands (length world.mounts) mount.number stands (not_deep mount.number stands) in
      subst (λ x. stands_in_its_namespace nat_eq world x ≡ true) itself (and_from _ _ (ap (λ p. not (is_some p)) last.0)
      (same_as_test (mount_of mount.number).namespace
      (last_parent nat_eq world (mount_of mount.number)).namespace last.1)))

  -- the other way round
  namespace_below : OneNumberEach world → ChainsEnd world → (number : ℕ) (place : Location ℕ)
      → (mount_of number).mount_point ≡ Some place → (mount_of number).namespace ≡ (mount_of place.mount).namespace
  namespace_below one ends number place e = ⊎_elim (λ there. same_namespace world ends _ place
      (placed_among _ number place e) e there) (λ none. missing none) (found_or_none _ _)
    where
      alone : (k : ℕ) (x : Mount ℕ) → below x ≡ None → last_in k x ≡ x
      alone zero x f = refl
      alone (suc k) x f = ap (last_or x) (chain_ends below k x f)

      missing : mount_of place.mount ≡ no_mount place.mount
          → (mount_of number).namespace ≡ (mount_of place.mount).namespace
      missing none =
          let x = mount_of number in
          let parent = mount_of place.mount in
          let long = length_from_among _ x (placed_among _ number place e) in
          let both : (not (is_some (last_parent nat_eq world x).mount_point) ≡ true)
          × (same_option nat_eq x.namespace (last_parent nat_eq world x).namespace ≡ true) = and_parts _ _
          (among_from_list_all _ _ ends x (placed_among _ number place e)) in
          let end : last_parent nat_eq world x ≡ parent = ap (λ k. last_in k x) long.1
          ∙ ap (last_or x) (chain_goes_on below long.0 x parent (ap (option_map (mount_at nat_eq world)) e))
          ∙ last_of_chain below long.0 parent x
          ∙ alone long.0 parent (ap (λ m. option_map (mount_at nat_eq world) m.mount_point) none) in
          cc (one_namespace x.namespace (last_parent nat_eq world x).namespace both.1, end)

  stands_by_test : OneNumberEach world → ChainsEnd world → (n number : ℕ)
      → is_some (last_in n (mount_of number)).mount_point ≡ false → Stand number
  stands_by_test one ends zero number h = at_root number (no_place _ h)
    where
      no_place : (place : Option (Location ℕ)) → is_some place ≡ false → place ≡ None
      no_place None e = refl
      no_place (Some place) e = absurd (true≢false e)
  stands_by_test one ends (suc n) number h = by _ refl (stands_by_test one ends n)
    where
      by : (place : Option (Location ℕ)) → (mount_of number).mount_point ≡ place
          → ((other : ℕ) → is_some (last_in n (mount_of other)).mount_point ≡ false → Stand other) → Stand number
      by None e later = at_root number e
      by (Some place) e later =
          let x = mount_of number in
          let parent = mount_of place.mount in
          on_parent number place e (namespace_below one ends number place e) (later place.mount
          (sym (ap (λ m. is_some m.mount_point)
          (ap (last_or x) (chain_goes_on below n x parent (ap (option_map (mount_at nat_eq world)) e))
          ∙ last_of_chain below n parent x)) ∙ h))

  standing_by_test : OneNumberEach world → ChainsEnd world → AllStand world
  standing_by_test one ends = all_from_among _ _ (λ mount m.
      let itself : mount_of mount.number ≡ mount = found_itself _ one mount m in
      stands_by_test one ends _ _ (subst (λ x. is_some (last_parent nat_eq world x).mount_point ≡ false) (sym itself)
      (not-true _ (and_parts _ _ (among_from_list_all _ _ ends mount m)).0)))

pub standing_is_computed : StandingIsComputed
standing_is_computed world one = (test_of_standing world one, standing_by_test world one)

-- Trees of mounts: a mount, and each that stands on one of them
pub data LiesIn (world : World ℕ) : ℕ → ℕ → Type 0 where
  itself : (number : ℕ) → LiesIn world number number
  under : (above number : ℕ) (place : Location ℕ) → (mount_numbered nat_eq world number).mount_point ≡ Some place
      → LiesIn world above place.mount → LiesIn world above number

module _ (world : World ℕ) where
  pub further_in : (a b c : ℕ) → LiesIn world a b → LiesIn world b c → LiesIn world a c
  further_in a b c first (itself it) = first
  further_in a b c first (under it number place e way) = under a number place e (further_in a it _ first way)

pub bindable_child : (world : World ℕ) (number : ℕ) (child : Mount ℕ)
    → Among child (bindable_children nat_eq world.mounts number) → Among child (children nat_eq world.mounts number)
bindable_child world number child m = (among-from_filter _ _ child m).0

module _ (world : World ℕ) (one : OneNumberEach world) (all : AllStand world) where
  pub stand : (number : ℕ) → Stands nat_eq world number
  stand number = ⊎_elim (λ there. subst (Stands nat_eq world) (number-mount_in world.mounts number)
      (among_from_all (λ (mount : Mount ℕ). Stands nat_eq world mount.number) world.mounts all
      (mount_numbered nat_eq world number) there)) (λ none. at_root number (ap (λ m. m.mount_point) none))
      (found_or_none world.mounts number)

  pub rank : ℕ → ℕ
  rank number = depth world number (stand number)

  pub rank_bounded : (number : ℕ) → rank number ≤ length world.mounts
  unfolding rank
  rank_bounded number = not_deep world number _

  pub rank_child : (number : ℕ) (place : Location ℕ) → (mount_numbered nat_eq world number).mount_point ≡ Some place
      → rank number ≡ suc (rank place.mount)
  unfolding depth rank
  rank_child number place e = same_depth world number (stand number) number
      (on_parent number place e (by (stand number)) (stand _)) refl
    where
      by : Stands nat_eq world number
          → (mount_numbered nat_eq world number).namespace ≡ (mount_numbered nat_eq world place.mount).namespace
      by (at_root it f) = cc
      by (on_parent it at f g x) = cc (g, same_Some at place (sym f ∙ e))

  -- how deep a mount lies is counted so
  pub depth_by_rank : (number : ℕ) → depth_of nat_eq world (mount_numbered nat_eq world number) ≡ suc (rank number)
  unfolding depth rank
  depth_by_rank number =
      chain_length world (length world.mounts) number (stand number) (not_deep world number (stand number))

  pub lies_deeper : (above number : ℕ) → LiesIn world above number → (above ≡ number) ⊎ (rank above < rank number)
  lies_deeper above number (itself it) = inl refl
  lies_deeper above number (under top it place e way) =
      grind (arith, common_steps, rank_child, lies_deeper top place.mount way)

  -- of those that are no deeper than another, one alone is above a mount
  one_above : (a b number : ℕ) → LiesIn world a number → LiesIn world b number → rank a ≡ rank b → a ≡ b
  one_above a b number (itself it) second same = grind (arith, common_steps, lies_deeper)
  one_above a b number (under top it place e way) (itself other) same =
      grind (arith, common_steps, rank_child, lies_deeper)
  one_above a b number (under top it place e way) (under above other at f later) same =
      grind (arith, common_steps, same_Some, one_above top above place.mount way)

  -- a child stands on its parent
  child_lies : (mount child : Mount ℕ) → Among child (children nat_eq world.mounts mount.number)
      → (place : Location ℕ) × ((mount_numbered nat_eq world child.number).mount_point ≡ Some place)
      × (place.mount ≡ mount.number)
  child_lies mount child m = grind (arith, common_steps, among-from_filter, found_itself, true≢false, eqb-true)

  pub lies_in_tree : (fuel : ℕ) (mount x : Mount ℕ) → Among x (tree_from nat_eq fuel world.mounts mount)
      → LiesIn world mount.number x.number
  lies_in_tree zero mount x m = ⊎_elim
      (λ e. subst (λ (y : Mount ℕ). LiesIn world mount.number y.number) (sym e) (itself mount.number))
      (λ none. absurd none) m
  lies_in_tree (suc fuel) mount x m = ⊎_elim
      (λ e. subst (λ (y : Mount ℕ). LiesIn world mount.number y.number) (sym e) (itself mount.number)) (λ later.
      let from = among-from_flat_map _ _ x later in
      let child = child_lies mount from.0 from.1 in
      further_in world _ _ _ (under mount.number from.0.number child.0 child.1
      (subst (LiesIn world mount.number) (sym child.2) (itself mount.number))) (lies_in_tree fuel from.0 x from.2)) m

  child_rank : (mount child : Mount ℕ) → Among child (children nat_eq world.mounts mount.number)
      → rank child.number ≡ suc (rank mount.number)
  child_rank mount child m =
      let t = child_lies mount child m in
      cc (rank_child child.number t.0 t.1, t.2)

  -- some children, each with what is taken below it, and each once
  module _ (mount : Mount ℕ) (trees : Mount ℕ → List (Mount ℕ)) (chosen : List (Mount ℕ))
      (are_children : (child : Mount ℕ) → Among child chosen → Among child (children nat_eq world.mounts mount.number))
      (distinct : any_pair same_number chosen ≡ false)
      (lie : (child x : Mount ℕ) → Among child chosen → Among x (trees child) → LiesIn world child.number x.number)
      (own : (child : Mount ℕ) → Among child chosen → OneNumberAMount (trees child)) where
    chosen_once : OneNumberAMount (mount ∷ flat_map trees chosen)
    chosen_once = or_from _ _ (none_from_among _ _ (λ x m.
        let from = among-from_flat_map trees chosen x m in
        let child = child_rank mount from.0 (are_children from.0 from.1) in
        false_from_ne_true _ (λ same.
        let level : rank mount.number ≡ rank x.number = ap rank (eqb-true mount.number x.number same) in
        ⊎_elim (λ equal.
        let l : rank from.0.number ≡ rank x.number = ap rank equal in
        absurd (omega (arith, l, level, child))) (λ further. absurd (omega (arith, further, level, child)))
        (lies_deeper _ _ (lie from.0 x from.1 from.2))))) (pair-flat_map _ trees chosen distinct own
        (λ a b x y m n differ k l. false_from_ne_true _ (λ same.
        let level : rank a.number ≡ rank b.number =
        child_rank mount a (are_children a m) ∙ sym (child_rank mount b (are_children b n)) in
        let equal : a.number ≡ b.number = one_above _ _ _ (lie a x m k)
        (subst (LiesIn world b.number) (sym (eqb-true x.number y.number same)) (lie b y n l)) level in
        cc (eq-eqb a.number b.number equal, differ))))

  each_once : (fuel : ℕ) (mount : Mount ℕ) → OneNumberAMount (tree_from nat_eq fuel world.mounts mount)
  each_once zero mount = refl
  each_once (suc fuel) mount =
      chosen_once mount (tree_from nat_eq fuel world.mounts) (children nat_eq world.mounts mount.number) (λ child m. m)
      (pair-filter same_number (stands_on nat_eq mount.number) world.mounts one)
      (λ child x m k. lies_in_tree fuel child x k) (λ child m. each_once fuel child)

  -- a bind takes some of the trees on the mount of the source
  bindable_in_tree : (fuel : ℕ) (mount x : Mount ℕ) → Among x (bindable_tree nat_eq fuel world.mounts mount)
      → LiesIn world mount.number x.number
  bindable_in_tree zero mount x m = ⊎_elim
      (λ e. subst (λ (y : Mount ℕ). LiesIn world mount.number y.number) (sym e) (itself mount.number))
      (λ none. absurd none) m
  bindable_in_tree (suc fuel) mount x m = ⊎_elim
      (λ e. subst (λ (y : Mount ℕ). LiesIn world mount.number y.number) (sym e) (itself mount.number)) (λ later.
      let from = among-from_flat_map _ _ x later in
      let child = child_lies mount from.0 (bindable_child world _ from.0 from.1) in
      further_in world _ _ _ (under mount.number from.0.number child.0 child.1
      (subst (LiesIn world mount.number) (sym child.2) (itself mount.number))) (bindable_in_tree fuel from.0 x from.2))
      m

  bindable_apart : (number : ℕ) → any_pair same_number (bindable_children nat_eq world.mounts number) ≡ false
  bindable_apart number =
      pair-filter same_number (λ (y : Mount ℕ). not (is_unbindable y.propagation)) (children nat_eq world.mounts number)
      (pair-filter same_number (stands_on nat_eq number) world.mounts one)

  bindable_once : (fuel : ℕ) (mount : Mount ℕ) → OneNumberAMount (bindable_tree nat_eq fuel world.mounts mount)
  bindable_once zero mount = refl
  bindable_once (suc fuel) mount =
      chosen_once mount (bindable_tree nat_eq fuel world.mounts) (bindable_children nat_eq world.mounts mount.number)
      (bindable_child world mount.number) (bindable_apart mount.number)
      (λ child x m k. bindable_in_tree fuel child x k) (λ child m. bindable_once fuel child)

  bind_once : (source : Location ℕ) (recursive : Bool) → OneNumberAMount (bind_tree nat_eq world source recursive)
  bind_once source false = refl
  bind_once source true =
      let mount = bound nat_eq world source in
      let number : mount.number ≡ source.mount = number-mount_in world.mounts source.mount in
      let fuel = length world.mounts in
      let under_source = bindable_children nat_eq world.mounts source.mount in
      let chosen = filter (stands_under nat_eq world source) under_source in
      let from : (child : Mount ℕ) → Among child chosen → Among child under_source =
      λ child m. (among-from_filter (stands_under nat_eq world source) under_source child m).0 in
      chosen_once mount (bindable_tree nat_eq fuel world.mounts) chosen
      (λ child m. subst (λ n. Among child (children nat_eq world.mounts n)) (sym number)
      (bindable_child world source.mount child (from child m)))
      (pair-filter same_number (stands_under nat_eq world source) under_source (bindable_apart source.mount))
      (λ child x m k. bindable_in_tree fuel child x k) (λ child m. bindable_once fuel child)

pub trees_have_each_once : TreesHaveEachOnce
trees_have_each_once world number one all = each_once world one all _ _

pub binds_take_each_once : BindsTakeEachOnce
binds_take_each_once world source recursive one all = bind_once world one all source _
