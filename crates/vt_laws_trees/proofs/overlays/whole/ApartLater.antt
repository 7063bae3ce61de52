-- Layers stand apart after a change of an overlay.
use Rattle.std.proofs.Common.{arith, ◌≡◌, ◌≢◌, refl, sym, ap, subst, ◌∙◌, true≢false, eqb-true, eq-eqb, ◌⊎◌, ⊎_elim, inl, inr, ℕ, nat_eq, Bool, true, false, not, cond, ◌&&◌, ◌||◌, List, [], ◌∷◌, ◌++◌, map, Option, Some, None, is_some, flat_map, option_to_list}
use Rattle.vt_spec.proofs.Common.{Among, Change, Filesystem, Fresh, IsTree, Layer, Location, Merge, Overlay, Real, Stack, Upper, World, among-append_left, among-append_right, among-filter, among-flat_map, among-from_filter, among-from_flat_map, among-from_map, among_from_list_all, and_from, and_true_left, and_true_right, any_among, any_from_among, any_pair, common_steps, counts_as_in_layer, directory_used, entry_at, eqb_tells, filesystem_numbered, is_directory_node, is_overlay, is_plain_layer, is_under, layers_of, layers_of_all, led, lies_in_layer, lies_or_counts_under, list_any, live_lowers, live_upper_and_work, mount_at, none_among, none_from_among, none_is_some, of_overlay, or_cases, or_false_alone, or_left, overlap, overlaps_one_of, overlay_or, overlays, replaced_if_numbered, same_Some, stack_of, upper_and_work, with_change}
use Rattle.vt_laws_trees.specs.Layers.Layers.Locked.{LeadsAsBefore}
use Rattle.vt_laws_trees.specs.Layers.Layers.Upper.{IsUpperObject}
use Rattle.vt_laws_trees.proofs.layers.locked.Apart.{layer_among, layer_plain, lies_there, never_both, no_overlay_in, object_counts, upper_in_layers, upper_is_layer}
use Rattle.vt_laws_trees.proofs.layers.locked.Paths.{layer_tree, leads_as_before}
use Rattle.vt_laws_trees.proofs.layers.layers.LowersWorld.{number_of_filesystem}
use Rattle.vt_laws_trees.proofs.layers.layers.UpperLine.{has_entries}
use Rattle.vt_laws_trees.proofs.overlays.changes.WholeLater.{ChangesMerge, changing}
use Rattle.vt_laws_trees.specs.Overlays.LayersApart.{LayersStayApart, StandApart}
use Rattle.vt_laws_trees.specs.Overlays.WhatIsShown.{IsWhole}
use Rattle.vt_laws_trees.specs.Overlays.WholeStays.{AreNew}
use Rattle.vt_laws_trees.proofs.overlays.whole.ApartPairs.{no_pair_later, two_apart}
use Rattle.vt_laws_trees.proofs.layers.locked.Layers.{AreTrees, are_trees, inode_listed, numbers_listed}
use Rattle.vt_laws_trees.proofs.overlays.whole.ApartThere.{Counts, counts_again, counts_parts, lying_there, own_number, real_of_object}
use Rattle.vt_laws_trees.proofs.overlays.whole.ApartPaths.{led_under, under_led}
use Rattle.vt_laws_trees.proofs.overlays.whole.UpperGoes.{Goes}
use Rattle.vt_laws_trees.proofs.overlays.whole.UpperOwn
use Rattle.vt_laws_trees.proofs.overlays.whole.UpperWhole.{change_goes}
use Rattle.vt_laws_trees.proofs.overlays.changes.WholeLater
use Rattle.vt_laws_trees.proofs.overlays.changes.WholeOthers.{inode_kept}
use Rattle.vt_laws_trees.proofs.overlays.changes.WholeWorlds.{overlays_are_whole}
use Rattle.vt_laws_trees.specs.Trees.Settling.{inode_in}
use Rattle.vt_laws_trees.specs.Layers.Layers.ChangesUpper.{IsNewBy}

module _ {fresh : Fresh ℕ} {world : World ℕ} {location : Location ℕ} {change : Change ℕ} {overlay : Overlay ℕ}
    {upper : Layer ℕ} (it : ChangesMerge fresh world location change overlay upper) where
  abbrev pub number : ℕ
  number = (mount_at nat_eq world location).filesystem

  abbrev pub later : World ℕ
  later = with_change nat_eq fresh world location change

  abbrev pub stack : Stack ℕ
  stack = stack_of nat_eq world overlay upper

  abbrev pub before : Merge ℕ
  before = WholeLater.before it

  abbrev pub merge : Merge ℕ
  merge = WholeLater.merge it

  abbrev pub changed : Filesystem ℕ
  changed = WholeLater.changed_filesystem it

  abbrev pub changed_upper : Filesystem ℕ
  changed_upper = WholeLater.changed_upper it

  pub later_is : later ≡ WholeLater.later it
  later_is = WholeLater.later_is it

  pub apart : upper.filesystem ≢ number
  apart = WholeLater.apart it

  pub upper_later : filesystem_numbered nat_eq later upper.filesystem ≡ changed_upper
  upper_later = ap (λ w. filesystem_numbered nat_eq w upper.filesystem) later_is ∙ WholeLater.upper_later it

  pub new : AreNew fresh before
  new = record { distinct = it.distinct; unused = λ k. it.none upper.filesystem k }

  pub whole : IsWhole stack before
  whole = overlays_are_whole world number overlay upper it.conditions it.is it.has

  pub goes : Goes upper.directory before.upper merge.upper
  goes = change_goes fresh stack before whole new change it.asked

  trees : AreTrees world
  trees = are_trees world it.conditions.files

  -- the layers that are not the upper one
  abbrev pub IsOther : Layer ℕ → Type 0
  IsOther layer = (Among layer (live_upper_and_work world) × (layer ≢ upper)) ⊎ Among layer (live_lowers nat_eq world)

  pub upper_live : Among upper (live_upper_and_work world)
  upper_live = layer_among world upper_and_work number overlay it.is upper
      (upper_is_layer world it.conditions number overlay it.is upper it.has)

  pub upper_plain : is_plain_layer nat_eq world upper ≡ true
  upper_plain = layer_plain world it.conditions number overlay it.is upper
      (upper_in_layers world it.conditions number overlay it.is upper it.has)

  -- layers are directories of plain trees
  plain_of : (some_layers : Overlay ℕ → List (Layer ℕ))
      → ((o : Overlay ℕ) (layer : Layer ℕ) → Among layer (some_layers o) → Among layer (layers_of o))
      → (layer : Layer ℕ) → Among layer (flat_map (of_overlay [] some_layers) (overlays world))
      → is_plain_layer nat_eq world layer ≡ true
  plain_of some_layers of layer m =
      let found = among-from_flat_map (of_overlay [] some_layers) (overlays world) layer m in
      by found.0.overlay found.2 (among_from_list_all
      (of_overlay true (λ o. Rattle.std.specs.List.list_all (is_plain_layer nat_eq world) (layers_of o)))
      world.filesystems
      it.conditions.overlays.plain_layers found.0 (among-from_filter is_overlay world.filesystems found.0 found.1).0)
    where
      by : (o : Option (Overlay ℕ)) → Among layer (overlay_or [] some_layers o)
          → overlay_or true (λ v. Rattle.std.specs.List.list_all (is_plain_layer nat_eq world) (layers_of v)) o ≡ true
          → is_plain_layer nat_eq world layer ≡ true
      by None a e = absurd a
      by (Some v) a e = among_from_list_all (is_plain_layer nat_eq world) (layers_of v) e layer (of v layer a)

  pub changed_plain : (layer : Layer ℕ) → Among layer (live_upper_and_work world)
      → is_plain_layer nat_eq world layer ≡ true
  changed_plain = plain_of upper_and_work (λ o layer m. among-append_left (upper_and_work o) o.lowers layer m)

  pub other_plain : (layer : Layer ℕ) → IsOther layer → is_plain_layer nat_eq world layer ≡ true
  other_plain layer (inl m) = changed_plain layer m.0
  other_plain layer (inr m) = plain_of (λ o. o.lowers) (λ o l a. among-append_right _ o.lowers l a) layer m

  -- what lies under two of them
  abbrev pub Lies : Layer ℕ → ℕ → ℕ → Type 0
  Lies layer n object = lies_or_counts_under nat_eq world n object layer ≡ true

  overlap_of : (a b : Layer ℕ) (n object : ℕ) → n ≡ a.filesystem → is_some (inode_in world n object) ≡ true
      → Lies a n object → Lies b n object → overlap nat_eq world a b ≡ true
  overlap_of a b n object same there in_a in_b = grind (
    arith,
    common_steps,
    any_from_among,
    inode_listed world trees,
    and_from,
    or_left,
  )

  pub clash : (layer : Layer ℕ) → IsOther layer → (n object : ℕ) → is_some (inode_in world n object) ≡ true
      → Lies upper n object → Lies layer n object → ⊥
  clash layer known n object there in_upper in_layer = grind (
    arith,
    common_steps,
    true≢false,
    overlap_of,
    lies_there,
    two_apart,
    upper_live,
    never_both,
    none_among,
    inode_listed world trees,
    any_from_among,
  )

  -- paths from the others lead where they led
  pub other_leads : (layer : Layer ℕ) → IsOther layer → LeadsAsBefore world later layer
  other_leads layer other = leads_as_before world it.conditions layer (other_plain layer other)
      later (λ inode lies there. inode_kept fresh world location change overlay upper it.conditions it.is it.has
      it.none (WholeLater.spoken stack before change whole.tree it.asked) layer (other_plain layer other) inode there
      (λ same object. clash layer other _ inode (subst (λ n. is_some (inode_in world n inode) ≡ true) (sym same) there)
      (object_counts world it.conditions number overlay it.is upper it.has inode object) (cc (same, lies))))

  -- The trees afterwards
  pub plain_elsewhere : (layer : Layer ℕ) → is_plain_layer nat_eq world layer ≡ true → layer.filesystem ≢ number
  plain_elsewhere layer plain same = none_is_some overlay
      (sym (no_overlay_in world it.conditions layer plain) ∙ ap (λ n. (filesystem_numbered nat_eq world n).overlay) same
      ∙ it.is)

  pub stays : (n : ℕ) → n ≢ number → n ≢ upper.filesystem
      → filesystem_numbered nat_eq later n ≡ filesystem_numbered nat_eq world n
  stays n no_number no_upper =
      Rattle.vt_laws_trees.proofs.layers.layers.LowersWorld.others_elsewhere fresh world location change n no_number
      (λ o u f g s. no_upper (s
      ∙ ap (λ l. l.filesystem) (same_Some u upper (sym g ∙ ap (λ v. v.upper) (same_Some o overlay (sym f ∙ it.is))
      ∙ it.has))))

  tree_later : (layer : Layer ℕ) → is_plain_layer nat_eq world layer ≡ true
      → IsTree (filesystem_numbered nat_eq later layer.filesystem).files.tree
  tree_later layer plain = ⊎_elim here other (eqb_tells layer.filesystem upper.filesystem)
    where
      here : (nat_eq layer.filesystem upper.filesystem ≡ true) × (layer.filesystem ≡ upper.filesystem)
          → IsTree (filesystem_numbered nat_eq later layer.filesystem).files.tree
      here t = subst (λ n. IsTree (filesystem_numbered nat_eq later n).files.tree) (sym t.1)
          (subst (λ f. IsTree f.files.tree) (sym upper_later) goes.good.tree)

      other : (nat_eq layer.filesystem upper.filesystem ≡ false) × (layer.filesystem ≢ upper.filesystem)
          → IsTree (filesystem_numbered nat_eq later layer.filesystem).files.tree
      other t = subst (λ f. IsTree f.files.tree) (sym (stays layer.filesystem (plain_elsewhere layer plain) t.1))
          (layer_tree world it.conditions layer plain)

  -- what lies under a layer, by paths
  abbrev pub LedIn : World ℕ → Layer ℕ → ℕ → Type 0
  LedIn w layer object = (path : List (List ℕ)) ×
      (led (filesystem_numbered nat_eq w layer.filesystem).files.tree layer.directory path ≡ Some object)

  lies_later : (layer : Layer ℕ) → is_plain_layer nat_eq world layer ≡ true → (n object : ℕ)
      → lies_in_layer nat_eq later n object layer ≡ true → (n ≡ layer.filesystem) × LedIn later layer object
  lies_later layer plain n object e =
      let same = eqb-true n layer.filesystem (and_true_left (nat_eq n layer.filesystem) _ e) in (
        same,
        under_led (filesystem_numbered nat_eq later layer.filesystem).files (tree_later layer plain) layer.directory
            object
            (subst (λ k. is_under nat_eq (filesystem_numbered nat_eq later k).files layer.directory object ≡ true) same
            (and_true_right (nat_eq n layer.filesystem) _ e)),
      )

  pub led_lies : (layer : Layer ℕ) → is_plain_layer nat_eq world layer ≡ true → (n object : ℕ) → n ≡ layer.filesystem
      → LedIn world layer object → lies_in_layer nat_eq world n object layer ≡ true
  led_lies layer plain n object same way = and_from _ _ (eq-eqb n layer.filesystem same)
      (subst (λ k. is_under nat_eq (filesystem_numbered nat_eq world k).files layer.directory object ≡ true) (sym same)
      (led_under (filesystem_numbered nat_eq world layer.filesystem).files (layer_tree world it.conditions layer plain)
      layer.directory (numbers_listed world trees layer.filesystem) (and_true_right _ _ plain) object way))

  pub lies_first : (layer : Layer ℕ) (n object : ℕ) → lies_in_layer nat_eq world n object layer ≡ true
      → Lies layer n object
  lies_first layer n object e = or_left (lies_in_layer nat_eq world n object layer) _ e

  -- under the others lies what lay there
  other_lies : (layer : Layer ℕ) → IsOther layer → (n object : ℕ) → lies_in_layer nat_eq later n object layer ≡ true
      → lies_in_layer nat_eq world n object layer ≡ true
  other_lies layer other n object e =
      let plain = other_plain layer other in
      let found = lies_later layer plain n object e in
      led_lies layer plain n object found.0 (found.1.0, sym (other_leads layer other found.1.0).0 ∙ found.1.1)

  -- under the upper layer lies what lay or counted there, or is new
  IsPlaced : ℕ → Type 0
  IsPlaced object = LedIn world upper object ⊎
      ((IsUpperObject overlay object × (is_directory_node (before.upper.tree.node object) ≡ false)) ⊎ IsNewBy fresh
      object)

  has_no_entry : (object : ℕ) (name : List ℕ) (next : ℕ) → is_directory_node (before.upper.tree.node object) ≡ false
      → entry_at before.upper.tree object name ≡ Some next → ⊥
  has_no_entry object name next file e = true≢false (sym (has_entries before.upper.tree object name next e) ∙ file)

  placed_on : (object : ℕ) (name : List ℕ) (next : ℕ) → IsPlaced object
      → entry_at merge.upper.tree object name ≡ Some next → IsPlaced next
  unfolding IsPlaced
  placed_on object name next placed e = ⊎_elim (λ old. ⊎_elim (λ way. inl (
    way.0 ++ name ∷ [],
    Rattle.vt_spec.proofs.Trees.led-append before.upper.tree upper.directory way.0 name object next way.1 old,
  )) (λ leaf. absurd (⊎_elim (λ own. has_no_entry object name next own.1 old) (λ fresh_one. has_no_entry object name
      next (ap (λ n. is_directory_node (before.upper.tree.node n)) fresh_one.1 ∙ ap is_directory_node (it.none _ _))
      old) leaf)) placed) (⊎_elim (λ own. ⊎_elim (λ file. inr (inl ((own.0, own.1), file))) (λ way. inl way) own.2)
      (λ fresh_one. inr (inr fresh_one)))
      (UpperOwn.told fresh stack before whole new change it.asked object name next e)

  placed_along : (path : List (List ℕ)) (from object : ℕ) → IsPlaced from → led merge.upper.tree from path ≡ Some object
      → IsPlaced object
  placed_along [] from object placed e = subst IsPlaced (same_Some from object e) placed
  placed_along (name ∷ path) from object placed e =
      let step = Rattle.vt_spec.proofs.Trees.found _ (entry_at merge.upper.tree from name) object e in
      placed_along path step.0 object (placed_on from name step.0 placed step.1) step.2

  upper_counts : (object : ℕ) → IsUpperObject overlay object → Lies upper upper.filesystem object
  upper_counts object own = object_counts world it.conditions number overlay it.is upper it.has object own

  upper_lies : (n object : ℕ) → lies_in_layer nat_eq later n object upper ≡ true
      → Lies upper n object ⊎ IsNewBy fresh object
  unfolding IsPlaced
  upper_lies n object e =
      let found = lies_later upper upper_plain n object e in
      ⊎_elim (λ way. inl (lies_first upper n object (led_lies upper upper_plain n object found.0 way)))
      (⊎_elim (λ own. inl (cc (found.0, upper_counts object own.0))) (λ fresh_one. inr fresh_one))
      (placed_along found.1.0 upper.directory object (inl ([], refl)) (cc (upper_later, found.1.1)))

  -- The overlays afterwards
  overlay_then : (f : Filesystem ℕ) → Among f (overlays later)
      → (f ≡ changed) ⊎ (Among f (overlays world) × (f.number ≢ number))
  overlay_then f m =
      let kept = among-from_filter is_overlay _ f (subst (λ w. Among f (overlays w)) later_is m) in
      let one = among-from_map (replaced_if_numbered nat_eq changed_upper) _ f kept.0 in
      let two = among-from_map (replaced_if_numbered nat_eq changed) world.filesystems one.0 one.1 in
      by two.0 two.1 kept.1 _ refl _ refl (one.2 ∙ ap (replaced_if_numbered nat_eq changed_upper) two.2)
    where
      by : (old : Filesystem ℕ) → Among old world.filesystems → is_overlay f ≡ true
          → (p : Bool) → nat_eq changed.number old.number ≡ p → (q : Bool)
          → nat_eq changed_upper.number (cond p changed old).number ≡ q → f ≡ cond q changed_upper (cond p changed old)
          → (f ≡ changed) ⊎ (Among f (overlays world) × (f.number ≢ number))
      by old o over true e false g same = inl same
      by old o over true e true g same = absurd (apart
          (sym (number_of_filesystem world upper.filesystem) ∙ eqb-true _ _ g ∙ number_of_filesystem world number))
      by old o over false e true g same = absurd (true≢false
          (sym over ∙ ap (λ x. is_overlay x) same ∙ ap is_some (no_overlay_in world it.conditions upper upper_plain)))
      by old o over false e false g same = inr (
        subst (λ x. Among x (overlays world)) (sym same) (among-filter _ _ old o (ap is_overlay (sym same) ∙ over)),
        λ at. true≢false (sym (eq-eqb changed.number old.number
            (number_of_filesystem world number ∙ sym at ∙ ap (λ x. x.number) same)) ∙ e),
      )

  pub upper_itself : lies_in_layer nat_eq world upper.filesystem upper.directory upper ≡ true
  upper_itself = led_lies upper upper_plain upper.filesystem upper.directory refl ([], refl)

  pub directory_there : (layer : Layer ℕ) → is_plain_layer nat_eq world layer ≡ true
      → is_some (inode_in world layer.filesystem layer.directory) ≡ true
  directory_there layer plain =
      directory_used (filesystem_numbered nat_eq world layer.filesystem).files.tree layer.directory
      (and_true_right (not (is_overlay (filesystem_numbered nat_eq world layer.filesystem))) _ plain)

  changed_parts : (w : World ℕ) (layer : Layer ℕ) (n object : ℕ) → Counts w layer n object changed
      → (lies_in_layer nat_eq w upper.filesystem upper.directory layer ≡ true) ×
      ((n ≡ upper.filesystem) × ((k : ℕ) × (merge.real k ≡ Some (Upper object))))
  changed_parts w layer n object parts =
      let same = same_Some _ parts.overlay_of parts.is_of in
      let one : upper ≡ parts.upper_of_it = same_Some upper parts.upper_of_it (cc (it.has, same, parts.has_it)) in
      let real = real_of_object changed parts.overlay_of parts.upper_of_it parts.has_it n object parts.object_of in (
        subst (λ u. lies_in_layer nat_eq w u.filesystem u.directory layer ≡ true) (sym one) parts.lies,
        (real.0 ∙ ap (λ u. u.filesystem) (sym one), (real.1.0, ap (λ v. v.real real.1.0) same ∙ real.1.1)),
      )

  -- under the others
  counted_other : (layer : Layer ℕ) → IsOther layer → (n object : ℕ) (g : Filesystem ℕ) → Counts later layer n object g
      → (g ≡ changed) ⊎ (Among g (overlays world) × (g.number ≢ number)) → Lies layer n object
  counted_other layer other n object g parts (inl same) =
      let own = changed_parts later layer n object (subst (λ x. Counts later layer n object x) same parts) in
      absurd (clash layer other upper.filesystem upper.directory (directory_there upper upper_plain)
      (lies_first upper _ upper.directory upper_itself) (lies_first layer _ _ (other_lies layer other _ _ own.0)))
  counted_other layer other n object g parts (inr old) = counts_again world layer n object g old.0 (record {
    overlay_of = parts.overlay_of;
    is_of = parts.is_of;
    upper_of_it = parts.upper_of_it;
    has_it = parts.has_it;
    lies = other_lies layer other parts.upper_of_it.filesystem parts.upper_of_it.directory parts.lies;
    object_of = parts.object_of;
  })

  later_other : (layer : Layer ℕ) → IsOther layer → (n object : ℕ)
      → lies_or_counts_under nat_eq later n object layer ≡ true → Lies layer n object
  later_other layer other n object e =
      ⊎_elim (λ f. lies_first layer n object (other_lies layer other n object f)) counted
      (or_cases (lies_in_layer nat_eq later n object layer) _ e)
    where
      found_of : (g : Filesystem ℕ) × Among g (overlays later) × (counts_as_in_layer nat_eq later n object layer g ≡ true)
          → Lies layer n object
      found_of (g, m, f) =
          counted_other layer other n object g (counts_parts later layer n object g f) (overlay_then g m)

      counted : list_any (counts_as_in_layer nat_eq later n object layer) (overlays later) ≡ true → Lies layer n object
      counted f = found_of (any_among (counts_as_in_layer nat_eq later n object layer) (overlays later) f)

  pub same_layer : (a b : Layer ℕ) → (a ≡ b) ⊎ (a ≢ b)
  same_layer a b = ⊎_elim (λ f. ⊎_elim (λ d. inl (λ i. record { filesystem = f.1 i; directory = d.1 i }))
      (λ d. inr (λ e. d.1 (ap (λ l. l.directory) e))) (eqb_tells a.directory b.directory))
      (λ f. inr (λ e. f.1 (ap (λ l. l.filesystem) e))) (eqb_tells a.filesystem b.filesystem)

  -- under the upper one
  counted_upper : (n object : ℕ) (g : Filesystem ℕ) → Counts later upper n object g
      → (g ≡ changed) ⊎ (Among g (overlays world) × (g.number ≢ number)) → Lies upper n object ⊎ IsNewBy fresh object
  counted_upper n object g parts (inl same) =
      let own = changed_parts later upper n object (subst (λ x. Counts later upper n object x) same parts) in
      ⊎_elim (λ was. inl (subst (λ k. Lies upper k object) (sym own.1.0) (upper_counts object (own.1.1.0, was)))) inr
      (UpperOwn.objects fresh stack before whole new change it.asked own.1.1.0 object own.1.1.1)
  counted_upper n object g parts (inr old) = ⊎_elim (λ same. inl (counts_again world upper n object g old.0 (record {
    overlay_of = parts.overlay_of;
    is_of = parts.is_of;
    upper_of_it = parts.upper_of_it;
    has_it = parts.has_it;
    lies = subst (λ x. lies_in_layer nat_eq world x.filesystem x.directory upper ≡ true) (sym same) upper_itself;
    object_of = parts.object_of;
  }))) (λ differ. ⊎_elim (λ under. absurd
      (clash parts.upper_of_it (inl (live, differ)) parts.upper_of_it.filesystem parts.upper_of_it.directory
      (directory_there parts.upper_of_it (changed_plain parts.upper_of_it live)) under
      (lies_first parts.upper_of_it parts.upper_of_it.filesystem parts.upper_of_it.directory
      (led_lies parts.upper_of_it (changed_plain parts.upper_of_it live) parts.upper_of_it.filesystem
      parts.upper_of_it.directory refl ([], refl)))))
      (λ fresh_one. absurd (true≢false (sym (directory_there parts.upper_of_it (changed_plain parts.upper_of_it live))
      ∙ ap (λ k. is_some (inode_in world parts.upper_of_it.filesystem k)) fresh_one.1
      ∙ ap is_some (it.none parts.upper_of_it.filesystem fresh_one.0))))
      (upper_lies parts.upper_of_it.filesystem parts.upper_of_it.directory parts.lies))
      (same_layer parts.upper_of_it upper)
    where
      live : Among parts.upper_of_it (live_upper_and_work world)
      live = among-flat_map (of_overlay [] upper_and_work) (overlays world) g parts.upper_of_it old.0
          (subst (λ o. Among parts.upper_of_it (overlay_or [] upper_and_work o)) (sym parts.is_of)
          (subst (λ o. Among parts.upper_of_it (option_to_list o ++ option_to_list parts.overlay_of.work))
          (sym parts.has_it) (inl refl)))

  later_upper : (n object : ℕ) → lies_or_counts_under nat_eq later n object upper ≡ true
      → Lies upper n object ⊎ IsNewBy fresh object
  later_upper n object e =
      ⊎_elim (λ f. upper_lies n object f) counted (or_cases (lies_in_layer nat_eq later n object upper) _ e)
    where
      found_of : (g : Filesystem ℕ) × Among g (overlays later) × (counts_as_in_layer nat_eq later n object upper g ≡ true)
          → Lies upper n object ⊎ IsNewBy fresh object
      found_of (g, m, f) = counted_upper n object g (counts_parts later upper n object g f) (overlay_then g m)

      counted : list_any (counts_as_in_layer nat_eq later n object upper) (overlays later) ≡ true
          → Lies upper n object ⊎ IsNewBy fresh object
      counted f = found_of (any_among (counts_as_in_layer nat_eq later n object upper) (overlays later) f)

  -- what overlaps then overlapped before
  not_new : (layer : Layer ℕ) → is_plain_layer nat_eq world layer ≡ true → (n object : ℕ) → Lies layer n object
      → IsNewBy fresh object → ⊥
  not_new layer plain n object lies fresh_one =
      true≢false (sym (lying_there world trees it.conditions.overlays layer plain n object lies)
      ∙ ap (λ k. is_some (inode_in world n k)) fresh_one.1 ∙ ap is_some (it.none n fresh_one.0))

  IsLive : Layer ℕ → Type 0
  IsLive layer = (layer ≡ upper) ⊎ IsOther layer

  live_plain : (layer : Layer ℕ) → IsLive layer → is_plain_layer nat_eq world layer ≡ true
  unfolding IsLive
  live_plain layer (inl same) = ap (is_plain_layer nat_eq world) same ∙ upper_plain
  live_plain layer (inr other) = other_plain layer other

  both_lie : (a b : Layer ℕ) → IsLive a → IsLive b → a ≢ b → (n object : ℕ)
      → lies_or_counts_under nat_eq later n object a ≡ true
      → lies_or_counts_under nat_eq later n object b ≡ true → Lies a n object × Lies b n object
  unfolding IsLive
  both_lie a b (inl x) (inl y) differ n object p q = absurd (differ (x ∙ sym y))
  both_lie a b (inl x) (inr y) differ n object p q =
      let in_b = later_other b y n object q in (
        ⊎_elim (λ l. subst (λ m. Lies m n object) (sym x) l) (λ f. absurd (not_new b (other_plain b y) n object in_b f))
            (later_upper n object (subst (λ m. lies_or_counts_under nat_eq later n object m ≡ true) x p)),
        in_b,
      )
  both_lie a b (inr x) (inl y) differ n object p q =
      let in_a = later_other a x n object p in (
        in_a,
        ⊎_elim (λ l. subst (λ m. Lies m n object) (sym y) l) (λ f. absurd (not_new a (other_plain a x) n object in_a f))
            (later_upper n object (subst (λ m. lies_or_counts_under nat_eq later n object m ≡ true) y q)),
      )
  both_lie a b (inr x) (inr y) differ n object p q = (later_other a x n object p, later_other b y n object q)

  overlap_itself : (a : Layer ℕ) → IsLive a → overlap nat_eq world a a ≡ true
  overlap_itself a live =
      let plain = live_plain a live in
      let lies = lies_first a a.filesystem a.directory (led_lies a plain a.filesystem a.directory refl ([], refl)) in
      overlap_of a a a.filesystem a.directory refl (directory_there a plain) lies lies

  overlap_before : (a b : Layer ℕ) → IsLive a → IsLive b → (n object : ℕ) → n ≡ a.filesystem
      → lies_or_counts_under nat_eq later n object a ≡ true
      → lies_or_counts_under nat_eq later n object b ≡ true → overlap nat_eq world a b ≡ true
  overlap_before a b live_a live_b n object same p q =
      ⊎_elim (λ one. subst (λ x. overlap nat_eq world a x ≡ true) one (overlap_itself a live_a)) (λ differ.
      let lie = both_lie a b live_a live_b differ n object p q in
      overlap_of a b n object same (lying_there world trees it.conditions.overlays a
      (live_plain a live_a) n object lie.0) lie.0 lie.1) (same_layer a b)

  -- The layers afterwards are those that were
  abbrev IgnoresReal : (Overlay ℕ → List (Layer ℕ)) → Type 0
  IgnoresReal layers = (o : Overlay ℕ) (real : ℕ → Option (Real ℕ)) → layers (record o { real = real }) ≡ layers o

  mapped_same : (layers : Overlay ℕ → List (Layer ℕ)) (r : Filesystem ℕ → Filesystem ℕ) (fs : List (Filesystem ℕ))
      → ((f : Filesystem ℕ) → Among f fs → of_overlay [] layers (r f) ≡ of_overlay [] layers f)
      → flat_map (of_overlay [] layers) (map r fs) ≡ flat_map (of_overlay [] layers) fs
  mapped_same layers r [] h = refl
  mapped_same layers r (f ∷ fs) h = cc (h f (inl refl), mapped_same layers r fs (λ g m. h g (inr m)))

  first_same : (layers : Overlay ℕ → List (Layer ℕ)) → IgnoresReal layers → (f : Filesystem ℕ)
      → Among f world.filesystems
      → of_overlay [] layers (replaced_if_numbered nat_eq changed f) ≡ of_overlay [] layers f
  first_same layers ignores f m = grind (
    arith,
    common_steps,
    number_of_filesystem,
    eqb-true,
    own_number world
        trees.one_filesystem,
  )

  second_same : (layers : Overlay ℕ → List (Layer ℕ)) (f : Filesystem ℕ)
      → Among f (map (replaced_if_numbered nat_eq changed) world.filesystems)
      → of_overlay [] layers (replaced_if_numbered nat_eq changed_upper f) ≡ of_overlay [] layers f
  second_same layers f m = from (among-from_map (replaced_if_numbered nat_eq changed) world.filesystems f m)
    where
      at : (old : Filesystem ℕ) → Among old world.filesystems → (b : Bool) → nat_eq changed.number old.number ≡ b
          → f ≡ cond b changed old → (c : Bool) → nat_eq changed_upper.number f.number ≡ c
          → of_overlay [] layers (cond c changed_upper f) ≡ of_overlay [] layers f
      at old o b e same c g = grind (
        arith,
        common_steps,
        apart,
        number_of_filesystem,
        eqb-true,
        own_number world
            trees.one_filesystem,
      )

      from : (old : Filesystem ℕ) × Among old world.filesystems × (f ≡ replaced_if_numbered nat_eq changed old)
          → of_overlay [] layers (replaced_if_numbered nat_eq changed_upper f) ≡ of_overlay [] layers f
      from (old, o, same) = at old o (nat_eq changed.number old.number) refl same _ refl

  layers_same : (layers : Overlay ℕ → List (Layer ℕ)) → IgnoresReal layers
      → flat_map (of_overlay [] layers) (overlays later) ≡ flat_map (of_overlay [] layers) (overlays world)
  layers_same layers ignores = ap (λ w. flat_map (of_overlay [] layers) (overlays w)) later_is ∙ layers_of_all layers
      (map (replaced_if_numbered nat_eq changed_upper) (map (replaced_if_numbered nat_eq changed) world.filesystems))
      ∙ mapped_same layers (replaced_if_numbered nat_eq changed_upper) _ (second_same layers) ∙ mapped_same layers _
      world.filesystems (first_same layers ignores) ∙ sym (layers_of_all layers world.filesystems)

  live_of : (layer : Layer ℕ) → Among layer (live_upper_and_work world) → IsLive layer
  unfolding IsLive
  live_of layer m = ⊎_elim inl (λ differ. inr (inl (m, differ))) (same_layer layer upper)

  low_of : (layer : Layer ℕ) → Among layer (live_lowers nat_eq world) → IsLive layer
  unfolding IsLive
  low_of layer m = inr (inr m)

  -- two that overlap then
  overlap_then : (a b : Layer ℕ) → IsLive a → IsLive b → overlap nat_eq later a b ≡ true
      → overlap nat_eq world a b ≡ true
  overlap_then a b live_a live_b e =
      grind (arith, common_steps, any_among, overlap_before, and_true_left, or_false_alone, and_true_right)

  changed_stay : any_pair (overlap nat_eq later) (live_upper_and_work later) ≡ false
  changed_stay = ap (any_pair (overlap nat_eq later)) (layers_same upper_and_work (λ o real. refl)) ∙ no_pair_later _
      _ _ (λ a b m n e. overlap_then a b (live_of a m) (live_of b n) e) it.conditions.overlays.changed_apart

  lowers_stay : list_any (overlaps_one_of nat_eq later (live_lowers nat_eq later)) (live_upper_and_work later) ≡ false
  lowers_stay = ap (list_any (overlaps_one_of nat_eq later (live_lowers nat_eq later))) (layers_same _ (λ o real. refl))
      ∙ ap (λ l. list_any (overlaps_one_of nat_eq later l) (live_upper_and_work world))
      (layers_same (λ o. o.lowers) (λ o real. refl)) ∙ none_from_among _ _ (λ a m. by a m _ refl)
    where
      inner : (a : Layer ℕ) → Among a (live_upper_and_work world) → (o : ℕ)
          → lies_or_counts_under nat_eq later a.filesystem o a ≡ true
          → (b : Layer ℕ) × Among b (live_lowers nat_eq world) ×
          (lies_or_counts_under nat_eq later a.filesystem o b ≡ true) → ⊥
      inner a m o p (b, n, q) = found (any_among _ _ (overlap_before a b (live_of a m) (low_of b n) _ o refl p q))
        where
          found : (x : ℕ) × Among x (filesystem_numbered nat_eq world a.filesystem).files.numbers
              × ((lies_or_counts_under nat_eq world a.filesystem x a
              && (lies_or_counts_under nat_eq world a.filesystem x b || false)) ≡ true) → ⊥
          found (x, l, f) = never_both _ _ (none_among _ _ (none_among _ _ it.conditions.overlays.lowers_apart a m) x l)
              (and_true_left _ _ f) (any_from_among _ _ b n (or_false_alone _ (and_true_right _ _ f)))

      from : (a : Layer ℕ) → Among a (live_upper_and_work world)
          → (o : ℕ) × Among o (filesystem_numbered nat_eq later a.filesystem).files.numbers
          × ((lies_or_counts_under nat_eq later a.filesystem o a
          && list_any (lies_or_counts_under nat_eq later a.filesystem o) (live_lowers nat_eq world)) ≡ true) → ⊥
      from a m (o, l, f) = inner a m o (and_true_left _ _ f) (any_among _ _ (and_true_right _ _ f))

      by : (a : Layer ℕ) → Among a (live_upper_and_work world) → (b : Bool)
          → overlaps_one_of nat_eq later (live_lowers nat_eq world) a ≡ b
          → overlaps_one_of nat_eq later (live_lowers nat_eq world) a ≡ false
      by a m false e = e
      by a m true e = absurd (from a m (any_among _ (filesystem_numbered nat_eq later a.filesystem).files.numbers e))

  pub stand_apart : StandApart later
  stand_apart = record { changed = changed_stay; lowers = lowers_stay }

pub layers_stay_apart : LayersStayApart
layers_stay_apart fresh world location change overlay upper conditions is has distinct none asked =
    stand_apart (changing fresh world location change overlay upper conditions is has distinct none asked)
