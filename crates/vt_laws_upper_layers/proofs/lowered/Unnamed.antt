-- Upper objects are pinned where they have no name.
use Rattle.std.proofs.Common.{◌≡◌, refl, sym, ap, subst, ◌∙◌, ⊎_elim, inl, true≢false, ℕ, nat_eq, eqb-true, eq-eqb, Bool, true, false, cond, not, ◌&&◌, ◌||◌, List, [], ◌∷◌, ◌++◌, Option, Some, None, map, filter, filter_map, flat_map, option_and_then, option_to_list}
use Rattle.vt_spec.proofs.Common.{Among, Filesystem, HasName, IsTree, IsWorld, Layer, ListsNumbers, Lower, Overlay, Real, Tree, Upper, World, all_from_among, among-append_left, among-filter, among-filter_map, among-flat_map, among-from_filter, among-from_filter_map, among-from_flat_map, among-from_map, among-map, among_from_all, and_from, and_parts, any_among, any_from_among, entry_at, filesystem_numbered, holds_of, is_among, is_among_left, is_among_numbers, is_among_right, layers_of, led, merge_of, named_in, none_is_some, number_at_path, objects_of_overlay, of_overlay, or_left, or_right, overlay_or, same_Some, stack_of, upper_object}
use Rattle.vt_spec.proofs.Lists.{among_numbers}
use Rattle.vt_laws_mounts.specs.LettingGo.InUse.{IsListedTree}
use Rattle.vt_laws_mounts.proofs.letting_go.Trees.{named_among}
use Rattle.vt_laws_mounts.proofs.letting_go.sweeps.OfWorlds.{found_filesystem}
use Rattle.vt_laws_trees.proofs.layers.layers.ShownNames.{last_name}
use Rattle.vt_laws_trees.proofs.layers.layers.UpperLine.{is_reached_in}
use Rattle.vt_laws_trees.proofs.layers.layers.UpperShown.{way_to}
use Rattle.vt_laws_trees.proofs.overlays.changes.WholeWorlds.{overlays_are_whole}
use Rattle.vt_laws_trees.proofs.overlays.steps.WholeNames.{named_above}
use Rattle.vt_laws_trees.specs.Overlays.WhatIsShown.{IsWhole}
use Rattle.vt_laws_worlds.proofs.overlays_let_go.changing.NamesLost.{entry_of}
use Rattle.vt_laws_upper_layers.specs.Lowered.{ArePinned, PinsInLayers, all_pins, is_at, is_pinned, is_upper_object, is_used_beside, pins_of}
use Rattle.vt_laws_upper_layers.specs.UnnamedPins.{UnnamedArePinned, is_unnamed, objects_unnamed, pin_of, pins_in, unnamed_pins}

upper_is : (r : Option (Real ℕ)) (object : ℕ) → upper_object r ≡ Some object → r ≡ Some (Upper object)
upper_is None object e = none_is_some object e
upper_is (Some (Upper other)) object e = ap (λ n. Some (Upper n)) (same_Some other object e)
upper_is (Some (Lower layer path)) object e = none_is_some object e

not_both : (a b : Bool) → (not a && not b) ≡ false → (a ≡ false → b ≡ true)
not_both true b e f = absurd (true≢false f)
not_both false true e f = refl
not_both false false e f = absurd (true≢false e)

module _ (world : World ℕ) (is : IsWorld nat_eq world) where
  found_one : (f : Filesystem ℕ) → Among f world.filesystems → filesystem_numbered nat_eq world f.number ≡ f
  found_one = found_filesystem world.filesystems is.files.one_filesystem

  listed_one : (f : Filesystem ℕ) → Among f world.filesystems → IsListedTree f.files
  listed_one f m = record {
    tree = among_from_all (λ (g : Filesystem ℕ). IsTree g.files.tree) world.filesystems is.files.trees f m;
    numbers = among_from_all (λ (g : Filesystem ℕ). ListsNumbers nat_eq g.files) world.filesystems is.files.numbers f m;
  }

  -- An inode of an overlay whose real object is in the upper layer
  module _ (m : Filesystem ℕ) (among : Among m world.filesystems) (overlay : Overlay ℕ) (there : m.overlay ≡ Some overlay)
      (upper : Layer ℕ) (has : overlay.upper ≡ Some upper) where
    numbered_there : (filesystem_numbered nat_eq world m.number).overlay ≡ Some overlay
    numbered_there = ap (λ (f : Filesystem ℕ). f.overlay) (found_one m among) ∙ there

    whole : IsWhole (stack_of nat_eq world overlay upper) (merge_of nat_eq world m overlay upper)
    whole = subst (λ f. IsWhole (stack_of nat_eq world overlay upper) (merge_of nat_eq world f overlay upper))
        (found_one m among) (overlays_are_whole world m.number overlay upper is numbered_there has)

    -- the upper layer is a layer
    is_layer : Among upper (flat_map (of_overlay [] layers_of) world.filesystems)
    is_layer = among-flat_map (of_overlay [] layers_of) world.filesystems m upper among
        (subst (λ o. Among upper (overlay_or [] layers_of o)) (sym there)
        (subst (λ o. Among upper (option_to_list o ++ option_to_list overlay.work ++ overlay.lowers)) (sym has)
        (inl refl)))

    -- what has a name has it in the upper layer, too
    named_object : (f : Filesystem ℕ) → Among f world.filesystems → f.number ≡ upper.filesystem → (n object : ℕ)
        → overlay.real n ≡ Some (Upper object) → HasName m.files.tree n → is_among nat_eq object (named_in f.files) ≡ true
    named_object f f_among same n object real named =
        named_among f.files (listed_one f f_among) object (by (led tree upper.directory way.0) refl)
      where
        way : (q : List (List ℕ)) × (number_at_path m.files q ≡ Some named.0)
        way = let reached = is_reached_in m.files whole.tree named.0 named.1 n named.2 in
            way_to m.files.tree reached.0 named.0 reached.1

        tree : Tree ℕ
        tree = (filesystem_numbered nat_eq world upper.filesystem).files.tree

        leads : option_and_then (λ d. entry_at tree d named.1) (led tree upper.directory way.0) ≡ Some object
        leads = sym (last_name tree upper.directory way.0 named.1)
            ∙ named_above (stack_of nat_eq world overlay upper) (merge_of nat_eq world m overlay upper) whole
            (way.0 ++ named.1 ∷ []) n object
            (last_name m.files.tree m.files.tree.root way.0 named.1
            ∙ ap (option_and_then (λ d. entry_at m.files.tree d named.1)) way.1 ∙ named.2) real

        same_tree : tree ≡ f.files.tree
        same_tree = ap (λ k. (filesystem_numbered nat_eq world k).files.tree) (sym same)
            ∙ ap (λ (g : Filesystem ℕ). g.files.tree) (found_one f f_among)

        by : (o : Option ℕ) → led tree upper.directory way.0 ≡ o → HasName f.files.tree object
        by None e = none_is_some object (ap (option_and_then (λ d. entry_at tree d named.1)) (sym e) ∙ leads)
        by (Some d) e = (
          d,
          named.1,
          ap (λ t. entry_at t d named.1) (sym same_tree)
              ∙ ap (option_and_then (λ k. entry_at tree k named.1)) (sym e) ∙ leads,
        )

    -- the root is the upper directory
    root_object : (object : ℕ) → overlay.real m.files.tree.root ≡ Some (Upper object) → upper.directory ≡ object
    root_object object real = same_Some upper.directory object
        (named_above (stack_of nat_eq world overlay upper) (merge_of nat_eq world m overlay upper) whole []
        m.files.tree.root object refl real)

    covered : (f : Filesystem ℕ) → Among f world.filesystems → f.number ≡ upper.filesystem → (n object : ℕ)
        → Among n m.files.numbers → overlay.real n ≡ Some (Upper object)
        → (is_used_beside world f object || is_pinned (unnamed_pins world) world f.number object) ≡ true
    covered f f_among same n object listed real = by (is_unnamed m.files n) refl
      where
        by : (b : Bool) → is_unnamed m.files n ≡ b
            → (is_used_beside world f object || is_pinned (unnamed_pins world) world f.number object) ≡ true
        by true e = or_right (is_used_beside world f object) _ (any_from_among (is_at f.number object)
            (all_pins (unnamed_pins world) world) (pin_of upper object)
            (among-flat_map (pins_of (unnamed_pins world)) world.filesystems m (pin_of upper object) among
            (subst (λ o. Among (pin_of upper object) (overlay_or [] (λ overlay. unnamed_pins world m.number) o)) (sym there)
            (subst (λ (g : Filesystem ℕ). Among (pin_of upper object) (of_overlay [] (pins_in g) g)) (sym (found_one m among))
            (subst (λ o. Among (pin_of upper object) (overlay_or [] (pins_in m) o)) (sym there)
            (subst (λ o. Among (pin_of upper object) (flat_map (λ (u : Layer ℕ). map (pin_of u)
            (objects_unnamed m overlay)) (option_to_list o))) (sym has)
            (among-flat_map (λ (u : Layer ℕ). map (pin_of u)
            (objects_unnamed m overlay)) (upper ∷ []) upper (pin_of upper object) (inl refl)
            (among-map (pin_of upper) (objects_unnamed m overlay) object
            (among-filter_map (λ k. upper_object (overlay.real k)) (filter (is_unnamed m.files) m.files.numbers) n object
            (among-filter (is_unnamed m.files) m.files.numbers n listed e) (ap upper_object real)))))))))
            (and_from _ _ (eq-eqb f.number upper.filesystem same) (eq-eqb object object refl)))
        by false e = or_left (is_used_beside world f object) _ (at (nat_eq n m.files.tree.root) refl)
          where
            at : (b : Bool) → nat_eq n m.files.tree.root ≡ b → is_used_beside world f object ≡ true
            at true t = or_right _ _ (any_from_among (is_at f.number object)
                (flat_map (of_overlay [] layers_of) world.filesystems) upper is_layer
                (and_from _ _ (eq-eqb f.number upper.filesystem same) (eq-eqb object upper.directory
                (sym (root_object object (ap overlay.real (sym (eqb-true n m.files.tree.root t)) ∙ real))))))
            at false t = or_left _ _ (is_among_right object (f.files.tree.root ∷ []) _
                (is_among_left object (named_in f.files) _ (named_object f f_among same n object real
                (entry_of m.files (listed_one m among) n (among_numbers (named_in m.files) n
                (not_both (nat_eq n m.files.tree.root) (is_among nat_eq n (named_in m.files)) e t))))))

  -- the overlay of which an inode is an upper object
  objects : (f : Filesystem ℕ) → Among f world.filesystems → (object : ℕ)
      → is_upper_object world f.number object ≡ true
      → (is_used_beside world f object || is_pinned (unnamed_pins world) world f.number object) ≡ true
  objects f f_among object e =
      let from = among-from_flat_map (objects_of_overlay nat_eq f.number) world.filesystems object
      (among_numbers (flat_map (objects_of_overlay nat_eq f.number) world.filesystems)
      object e) in
      by from.0 from.1 from.0.overlay refl from.2
    where
      Goal : Type 0
      Goal = (is_used_beside world f object || is_pinned (unnamed_pins world) world f.number object) ≡ true

      by : (m : Filesystem ℕ) → Among m world.filesystems → (o : Option (Overlay ℕ)) → m.overlay ≡ o
          → Among object (objects_of_overlay nat_eq f.number m) → Goal
      by m among None there is_object = absurd (subst (λ o. Among object (overlay_or [] (λ (overlay : Overlay ℕ).
          cond (holds_of (λ (layer : Layer ℕ). nat_eq f.number layer.filesystem) overlay.upper)
          (filter_map (λ n. upper_object (overlay.real n)) m.files.numbers) []) o)) there is_object)
      by m among (Some overlay) there is_object = upper overlay.upper refl
          (subst (λ o. Among object (overlay_or [] (λ (overlay : Overlay ℕ).
          cond (holds_of (λ (layer : Layer ℕ). nat_eq f.number layer.filesystem) overlay.upper)
          (filter_map (λ n. upper_object (overlay.real n)) m.files.numbers) []) o)) there is_object)
        where
          all : List ℕ
          all = filter_map (λ n. upper_object (overlay.real n)) m.files.numbers

          upper : (u : Option (Layer ℕ)) → overlay.upper ≡ u
              → Among object (cond (holds_of (λ (layer : Layer ℕ). nat_eq f.number layer.filesystem) overlay.upper)
              (filter_map (λ n. upper_object (overlay.real n)) m.files.numbers) [])
              → Goal
          upper None has is_one = absurd (subst (λ u. Among object
              (cond (holds_of (λ (layer : Layer ℕ). nat_eq f.number layer.filesystem) u)
              (filter_map (λ n. upper_object (overlay.real n)) m.files.numbers) [])) has is_one)
          upper (Some layer) has is_one = at (nat_eq f.number layer.filesystem) refl
              (subst (λ u. Among object
              (cond (holds_of (λ (layer : Layer ℕ). nat_eq f.number layer.filesystem) u)
              (filter_map (λ n. upper_object (overlay.real n)) m.files.numbers) [])) has is_one)
            where
              at : (b : Bool) → nat_eq f.number layer.filesystem ≡ b
                  → Among object (cond (nat_eq f.number layer.filesystem)
                  (filter_map (λ n. upper_object (overlay.real n)) m.files.numbers) [])
                  → Goal
              at false t is_this = absurd (subst (λ b. Among object
                  (cond b (filter_map (λ n. upper_object (overlay.real n)) m.files.numbers) [])) t is_this)
              at true t is_this =
                  let one = among-from_filter_map (λ n. upper_object (overlay.real n)) m.files.numbers object
                  (subst (λ b. Among object
                  (cond b (filter_map (λ n. upper_object (overlay.real n)) m.files.numbers) [])) t is_this) in
                  covered m among overlay there layer has f f_among (eqb-true f.number layer.filesystem t) one.0 object
                  one.1 (upper_is (overlay.real one.0) object one.2)

  -- what is pinned is one
  pinned_object : (m : Filesystem ℕ) → Among m world.filesystems → (filesystem object : ℕ) (layer : Layer ℕ)
      → Among layer (pins_of (unnamed_pins world) m) → is_at filesystem object layer ≡ true
      → Among object (objects_of_overlay nat_eq filesystem m)
  pinned_object m among filesystem object layer is_pin at = by m.overlay refl
    where
      same : is_at filesystem object layer ≡ true → (nat_eq filesystem layer.filesystem ≡ true)
          × (nat_eq object layer.directory ≡ true)
      same e = and_parts _ _ e

      by : (o : Option (Overlay ℕ)) → m.overlay ≡ o → Among object (objects_of_overlay nat_eq filesystem m)
      by None there = absurd (subst (λ o. Among layer (overlay_or [] (λ overlay. unnamed_pins world m.number) o)) there
          is_pin)
      by (Some overlay) there =
          let pin : Among layer (unnamed_pins world m.number)
          = subst (λ o. Among layer (overlay_or [] (λ overlay. unnamed_pins world m.number) o)) there is_pin in
          let own : Among layer (pins_in m overlay) = subst (λ o. Among layer (overlay_or [] (pins_in m) o)) there
          (subst (λ (g : Filesystem ℕ). Among layer (of_overlay [] (pins_in g) g)) (found_one m among) pin) in
          upper overlay.upper refl own
        where
          upper : (u : Option (Layer ℕ)) → overlay.upper ≡ u → Among layer (pins_in m overlay)
              → Among object (objects_of_overlay nat_eq filesystem m)
          upper None has own = absurd (subst (λ u. Among layer (flat_map (λ (top : Layer ℕ).
              map (pin_of top) (objects_unnamed m overlay))
              (option_to_list u))) has own)
          upper (Some top) has own =
              let one = among-from_flat_map (λ (t : Layer ℕ).
              map (pin_of t) (objects_unnamed m overlay)) (top ∷ []) layer
              (subst (λ u. Among layer (flat_map (λ (t : Layer ℕ).
              map (pin_of t) (objects_unnamed m overlay))
              (option_to_list u))) has own) in
              let from = among-from_map (pin_of one.0)
              (objects_unnamed m overlay) layer one.2 in
              let inode = among-from_filter_map (λ n. upper_object (overlay.real n))
              (filter (is_unnamed m.files) m.files.numbers) from.0 from.1 in
              let listed = (among-from_filter (is_unnamed m.files) m.files.numbers inode.0 inode.1).0 in
              let top_same : one.0 ≡ top = ⊎_elim (λ e. e) (λ none. absurd none) one.1 in
              let filesystem_same : filesystem ≡ top.filesystem = eqb-true filesystem layer.filesystem (same at).0
              ∙ ap (λ (l : Layer ℕ). l.filesystem) from.2 ∙ ap (λ (l : Layer ℕ). l.filesystem) top_same in
              let object_same : object ≡ from.0 = eqb-true object layer.directory (same at).1
              ∙ ap (λ (l : Layer ℕ). l.directory) from.2 in
              subst (λ o. Among object (overlay_or [] (λ (overlay : Overlay ℕ).
              cond (holds_of (λ (layer : Layer ℕ). nat_eq filesystem layer.filesystem) overlay.upper)
              (filter_map (λ n. upper_object (overlay.real n)) m.files.numbers) []) o)) (sym there)
              (subst (λ u. Among object
              (cond (holds_of (λ (layer : Layer ℕ). nat_eq filesystem layer.filesystem) u)
              (filter_map (λ n. upper_object (overlay.real n)) m.files.numbers) [])) (sym has)
              (subst (λ b. Among object (cond b (filter_map (λ n. upper_object (overlay.real n)) m.files.numbers) []))
              (sym (eq-eqb filesystem top.filesystem filesystem_same))
              (subst (λ k. Among k (filter_map (λ n. upper_object (overlay.real n)) m.files.numbers)) (sym object_same)
              (among-filter_map (λ n. upper_object (overlay.real n)) m.files.numbers inode.0 from.0 listed inode.2))))

  pinned : (f : Filesystem ℕ) (object : ℕ) → is_pinned (unnamed_pins world) world f.number object ≡ true
      → is_upper_object world f.number object ≡ true
  pinned f object e =
      let layer = any_among (is_at f.number object) (all_pins (unnamed_pins world) world) e in
      let from = among-from_flat_map (pins_of (unnamed_pins world)) world.filesystems layer.0 layer.1 in
      is_among_numbers (flat_map (objects_of_overlay nat_eq f.number) world.filesystems) object
      (among-flat_map (objects_of_overlay nat_eq f.number) world.filesystems from.0 object from.1
      (pinned_object from.0 from.1 f.number object layer.0 from.2 layer.2))

  -- an overlay pins in its upper layer's filesystem
  in_layers : (m : Filesystem ℕ) → Among m world.filesystems → PinsInLayers (unnamed_pins world) m
  in_layers m among overlay number there e =
      let layer = any_among (λ (l : Layer ℕ). nat_eq number l.filesystem) (unnamed_pins world m.number) e in
      let own : Among layer.0 (pins_in m overlay) = subst (λ o. Among layer.0 (overlay_or [] (pins_in m) o)) there
      (subst (λ (g : Filesystem ℕ). Among layer.0 (of_overlay [] (pins_in g) g)) (found_one m among) layer.1) in
      let one = among-from_flat_map (λ (t : Layer ℕ).
      map (pin_of t) (objects_unnamed m overlay))
      (option_to_list overlay.upper) layer.0 own in
      let from = among-from_map (pin_of one.0)
      (objects_unnamed m overlay) layer.0 one.2 in
      let same : layer.0 ≡ pin_of one.0 from.0 = from.2 in
      any_from_among (λ (l : Layer ℕ). nat_eq number l.filesystem) (layers_of overlay) one.0
      (among-append_left (option_to_list overlay.upper ++ option_to_list overlay.work) overlay.lowers one.0
      (among-append_left (option_to_list overlay.upper) (option_to_list overlay.work) one.0 one.1))
      (subst (λ (l : Layer ℕ). nat_eq number l.filesystem ≡ true) same layer.2)

pub unnamed_are_pinned : UnnamedArePinned
unnamed_are_pinned world is = (
  all_from_among (ArePinned (unnamed_pins world) world) world.filesystems (λ f m. record {
    objects = objects world is f m;
    pinned = pinned world is f;
  }),
  all_from_among (PinsInLayers (unnamed_pins world)) world.filesystems (in_layers world is),
)
