-- What lies or counts under a layer is there.
use Rattle.std.proofs.Common.{arith, ◌≡◌, sym, ap, subst, ◌∙◌, true≢false, eqb-true, eq-eqb, ne_eqb, ⊎_elim, inl, inr, ℕ, nat_eq, true, false, not, List, [], ◌∷◌, Option, Some, None, is_some}
use Rattle.vt_spec.proofs.Common.{Among, OverlayInvariants, Filesystem, Layer, Lower, Overlay, Real, Upper, World, among-from_filter, and_true_left, and_true_right, any_among, any_pair, common_steps, counts_as_in_layer, filesystem_numbered, holds_of, is_object_of, is_overlay, is_plain_layer, is_real_upper, is_there, is_under, lies_in_layer, lies_or_counts_under, list_any, none_among, open_layer, or_cases, or_false_left, or_false_right, overlays, upper_object, OverlayInvariants, or_right, any_from_among, and_from}
use Rattle.vt_laws_trees.proofs.layers.layers.ShownDirectories.{led_is_there}
use Rattle.vt_laws_trees.proofs.overlays.whole.ApartPaths.{under_led}
use Rattle.vt_laws_trees.specs.Trees.Settling.{inode_in}
use Rattle.vt_laws_trees.proofs.layers.locked.Layers.{AreTrees, tree_of_directory}

-- one filesystem has a number
pub own_number : (world : World ℕ)
    → any_pair (λ (a b : Filesystem ℕ). nat_eq a.number b.number) world.filesystems ≡ false → (f : Filesystem ℕ)
    → Among f world.filesystems → filesystem_numbered nat_eq world f.number ≡ f
own_number world one f m =
    ap (λ o. Rattle.std.specs.Prelude.unwrap_or o (Rattle.vt_spec.specs.Machine.World.no_filesystem f.number))
    (by world.filesystems one m)
  where
    by : (fs : List (Filesystem ℕ)) → any_pair (λ (a b : Filesystem ℕ). nat_eq a.number b.number) fs ≡ false
        → Among f fs → Rattle.std.specs.Prelude.find (λ (g : Filesystem ℕ). nat_eq f.number g.number) fs ≡ Some f
    by [] e m = absurd m
    by (x ∷ fs) e (inl same) = grind (arith, common_steps, eq-eqb)
    by (x ∷ fs) e (inr l) =
        grind (arith, common_steps, ne_eqb, true≢false, eq-eqb, none_among, or_false_left, or_false_right, by fs)

-- What counts under a layer: the parts of it
pub record Counts (w : World ℕ) (layer : Layer ℕ) (n object : ℕ) (g : Filesystem ℕ) : Type 0 where
  pub overlay_of : Overlay ℕ
  pub is_of : g.overlay ≡ Some overlay_of
  pub upper_of_it : Layer ℕ
  pub has_it : overlay_of.upper ≡ Some upper_of_it
  pub lies : lies_in_layer nat_eq w upper_of_it.filesystem upper_of_it.directory layer ≡ true
  pub object_of : is_object_of nat_eq n object g overlay_of ≡ true

pub counts_parts : (w : World ℕ) (layer : Layer ℕ) (n object : ℕ) (g : Filesystem ℕ)
    → counts_as_in_layer nat_eq w n object layer g ≡ true → Counts w layer n object g
counts_parts w layer n object g e = grind (arith, common_steps, true≢false, and_true_left, and_true_right)

pub counts_again : (world : World ℕ) (layer : Layer ℕ) (n object : ℕ) (g : Filesystem ℕ) → Among g (overlays world)
    → Counts world layer n object g → lies_or_counts_under nat_eq world n object layer ≡ true
counts_again world layer n object g m parts = grind (arith, common_steps, or_right, any_from_among, and_from)

-- the object of which it is said is one of the upper layer
pub real_of_object : (g : Filesystem ℕ) (v : Overlay ℕ) (u : Layer ℕ) → v.upper ≡ Some u → (n object : ℕ)
    → is_object_of nat_eq n object g v ≡ true → (n ≡ u.filesystem) × ((k : ℕ) × (v.real k ≡ Some (Upper object)))
real_of_object g v u has_u n object e =
    let first = and_true_left (holds_of (λ l. nat_eq n l.filesystem) v.upper) _ e in
    let found = any_among (is_real_upper nat_eq v object) g.files.numbers
    (and_true_right (holds_of (λ l. nat_eq n l.filesystem) v.upper) _ e) in (
      eqb-true n u.filesystem (sym (ap (holds_of (λ l. nat_eq n l.filesystem)) has_u) ∙ first),
      (found.0, by (v.real found.0) found.2),
    )
  where
    by : (r : Option (Real ℕ)) → holds_of (nat_eq object) (upper_object r) ≡ true → r ≡ Some (Upper object)
    by None h = absurd (true≢false (sym h))
    by (Some (Upper k)) h = ap (λ x. Some (Upper x)) (sym (eqb-true object k h))
    by (Some (Lower layer path)) h = absurd (true≢false (sym h))

module _ (world : World ℕ) (files : AreTrees world) (are : OverlayInvariants nat_eq world) where
  -- what lies or counts under a layer is there
  pub lying_there : (layer : Layer ℕ) → is_plain_layer nat_eq world layer ≡ true → (n object : ℕ)
      → lies_or_counts_under nat_eq world n object layer ≡ true → is_some (inode_in world n object) ≡ true
  lying_there layer plain n object e =
      ⊎_elim led_there counted (or_cases (lies_in_layer nat_eq world n object layer) _ e)
    where
      led_there : lies_in_layer nat_eq world n object layer ≡ true → is_some (inode_in world n object) ≡ true
      led_there f =
          let same = eqb-true n layer.filesystem (and_true_left (nat_eq n layer.filesystem) _ f) in
          let tree = tree_of_directory world files layer.filesystem layer.directory (and_true_right (not (is_overlay
          (filesystem_numbered nat_eq world layer.filesystem))) _ plain) in
          let way = under_led (filesystem_numbered nat_eq world layer.filesystem).files tree layer.directory object
          (subst (λ k. is_under nat_eq (filesystem_numbered nat_eq world k).files layer.directory object ≡ true) same
          (and_true_right (nat_eq n layer.filesystem) _ f)) in
          subst (λ k. is_some (inode_in world k object) ≡ true) (sym same)
          (led_is_there (open_layer nat_eq world layer) tree (and_true_right (not
          (is_overlay (filesystem_numbered nat_eq world layer.filesystem))) _ plain) way.0 object way.1)

      counted : list_any (counts_as_in_layer nat_eq world n object layer) (overlays world) ≡ true
          → is_some (inode_in world n object) ≡ true
      counted f =
          let found = any_among (counts_as_in_layer nat_eq world n object layer) (overlays world) f in
          let g = found.0 in
          let parts = counts_parts world layer n object g found.2 in
          let real = real_of_object g parts.overlay_of parts.upper_of_it parts.has_it n object parts.object_of in
          let here = own_number world files.one_filesystem g (among-from_filter is_overlay world.filesystems g
          found.1).0 in
          let of_it : (filesystem_numbered nat_eq world g.number).overlay ≡ Some parts.overlay_of =
          ap (λ x. x.overlay) here ∙ parts.is_of in
          subst (λ k. is_some (inode_in world k object) ≡ true) (sym real.0)
          (sym (ap (holds_of (λ l. is_there nat_eq world l.filesystem object)) parts.has_it)
          ∙ (are.overlays_merge g.number parts.overlay_of of_it).upper_there real.1.0 object real.1.1)
