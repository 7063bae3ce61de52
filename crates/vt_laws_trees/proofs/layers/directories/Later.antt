-- The layers of a newly mounted overlay lie apart from those of live ones, and what lies under a layer is as it was.
use Rattle.std.proofs.Common.{arith, ◌≡◌, inl, inr, refl, sym, ap, ◌∙◌, true≢false, ℕ, nat_eq, eqb-true, Bool, true, false, cond, not, ◌&&◌, ◌||◌, List, [], ◌∷◌, ◌++◌, map, Option, Some, None, is_some, unwrap_or, find, option_to_list}
use Rattle.vt_spec.proofs.Common.{Filesystem, Fresh, IsTree, IsWorld, Layer, ListsNumbers, Lower, Overlay, Real, Upper, World, and_true_left, and_true_right, common_steps, counts_as_in_layer, evens, filesystem_numbered, filter-append, holds_of, is_among, is_directory_node, is_directory_under, is_file_under, is_overlay, is_plain_layer, is_real_upper, is_under, led, lies_in_layer, lies_or_counts_under, list_all, list_any, list_any-append, no_filesystem, none_is_some, odds-distinct, overlaps_one_of, overlay_filesystem, overlays, real_of, same_Some, upper_real, with_new_filesystem}
use Rattle.vt_laws_trees.specs.Layers.Layers.Mounted.{AreLayers}
use Rattle.vt_laws_trees.proofs.layers.directories.Lower.{led_below}
use Rattle.vt_laws_trees.proofs.layers.layers.ShownMerged.{inodes}
use Rattle.vt_laws_trees.proofs.layers.layers.ShownMounted.{can_merge, are_open, bounded}
use Rattle.vt_laws_trees.proofs.layers.layers.ShownObjects.{Among}
use Rattle.vt_laws_trees.proofs.layers.layers.ShownWhole.{has_real}
use Rattle.vt_laws_trees.proofs.layers.layers.UpperWorld.{all_found}

find_skips : (test : Filesystem ℕ → Bool) (list : List (Filesystem ℕ)) (last : Filesystem ℕ) → test last ≡ false
    → find test (list ++ last ∷ []) ≡ find test list
find_skips test [] last e = ap (λ b. cond b (Some last) None) e
find_skips test (first ∷ list) last e = ap (cond (test first) (Some first)) (find_skips test list last e)

pub not_found : (n : ℕ) (list : List (Filesystem ℕ)) → list_any (nat_eq n) (map (λ f. f.number) list) ≡ false
    → find (λ f. nat_eq n f.number) list ≡ None
not_found n [] e = refl
not_found n (first ∷ list) e = grind (arith, common_steps, not_found n list, true≢false)

pub any_found : {A : Type 0} (test : A → Bool) (list : List A) → list_any test list ≡ true → (a : A) × (test a ≡ true)
any_found test [] e = cc
any_found test (first ∷ list) e = grind (arith, common_steps, any_found test list)

pub any_same : {A : Type 0} (test other : A → Bool) (list : List A) → ((a : A) → Among list a → test a ≡ other a)
    → list_any test list ≡ list_any other list
any_same test other [] same = refl
any_same test other (first ∷ list) same =
    cc (same first (inl refl), any_same test other list (λ a among. same a (inr among)))

absorbed : (l c n : Bool) → (n ≡ true → l ≡ true) → (l || (c || (n || false))) ≡ (l || c)
absorbed true c n h = refl
absorbed false true n h = refl
absorbed false false false h = refl
absorbed false false true h = sym (h refl)

module _ (world : World ℕ) (conditions : IsWorld nat_eq world) (overlay : Overlay ℕ)
    (are_layers : AreLayers world overlay) (fresh : Fresh ℕ) (distinct : (j k : ℕ) → fresh j ≡ fresh k → j ≡ k)
    (unused : is_among nat_eq (evens fresh 0) (map (λ filesystem. filesystem.number) world.filesystems) ≡ false) where
  abbrev pub new : Filesystem ℕ
  new = overlay_filesystem nat_eq fresh world overlay

  abbrev pub later : World ℕ
  later = with_new_filesystem world new

  -- a layer that is in another filesystem
  abbrev pub IsOld : Layer ℕ → Type 0
  IsOld layer = nat_eq layer.filesystem new.number ≡ false

  pub same_filesystem : (n : ℕ) → nat_eq n new.number ≡ false
      → filesystem_numbered nat_eq later n ≡ filesystem_numbered nat_eq world n
  same_filesystem n e = ap (λ o. unwrap_or o (no_filesystem n))
      (find_skips (λ f. nat_eq n f.number) world.filesystems new e)

  is_there : (layer : Layer ℕ) → is_plain_layer nat_eq world layer ≡ true
      → is_directory_node ((filesystem_numbered nat_eq world layer.filesystem).files.tree.node layer.directory) ≡ true
  is_there layer plain = and_true_right (not (is_overlay (filesystem_numbered nat_eq world layer.filesystem))) _ plain

  plain_found : (layer : Layer ℕ) → is_plain_layer nat_eq world layer ≡ true
      → find (λ f. nat_eq layer.filesystem f.number) world.filesystems
      ≡ Some (filesystem_numbered nat_eq world layer.filesystem)
  plain_found layer plain = grind (arith, common_steps, is_there layer plain, true≢false)

  pub plain_is_old : (layer : Layer ℕ) → is_plain_layer nat_eq world layer ≡ true → IsOld layer
  plain_is_old layer plain = by (nat_eq layer.filesystem new.number) refl
    where
      by : (b : Bool) → nat_eq layer.filesystem new.number ≡ b → b ≡ false
      by false e = refl
      by true e = none_is_some (filesystem_numbered nat_eq world layer.filesystem)
          (sym (not_found layer.filesystem world.filesystems
          (cc (eqb-true layer.filesystem new.number e))) ∙ plain_found layer plain)

  lies_same : (fs object : ℕ) (layer : Layer ℕ) → IsOld layer
      → lies_in_layer nat_eq later fs object layer ≡ lies_in_layer nat_eq world fs object layer
  lies_same fs object layer old = grind (arith, common_steps, same_filesystem, eqb-true)

  counts_same : (fs object : ℕ) (layer : Layer ℕ) → IsOld layer → (merged : Filesystem ℕ)
      → counts_as_in_layer nat_eq later fs object layer merged ≡ counts_as_in_layer nat_eq world fs object layer merged
  counts_same fs object layer old merged = grind (arith, common_steps, lies_same)

  -- what is an object of the new overlay lies under its upper directory, and so where that lies
  abbrev made : Overlay ℕ
  made = record overlay {
    real = real_of nat_eq
        (inodes (can_merge world conditions overlay are_layers fresh distinct) (is_some overlay.upper));
  }

  upper_in : Real ℕ → Option ℕ
  upper_in (Upper o) = Some o
  upper_in (Lower layer path) = None

  upper_led : (upper : Layer ℕ) → overlay.upper ≡ Some upper → (number object : ℕ)
      → made.real number ≡ Some (Upper object) → (path : List (List ℕ)) × (led
      (filesystem_numbered nat_eq world upper.filesystem).files.tree upper.directory path ≡ Some object)
  unfolding upper_in
  upper_led upper is number object e =
      let real = has_real (can_merge world conditions overlay are_layers fresh distinct)
      (is_some overlay.upper) number (Upper object) e in
      grind (arith, common_steps, are_open, bounded, odds-distinct, same_Some, none_is_some)

  new_counts : (fs object : ℕ) (layer : Layer ℕ) → IsOld layer
      → counts_as_in_layer nat_eq later fs object layer new ≡ true → lies_in_layer nat_eq world fs object layer ≡ true
  new_counts fs object layer old e =
      by overlay.upper refl (and_true_left _ _ e) (and_true_left _ _ (and_true_right _ _ e))
      (and_true_right _ _ (and_true_right _ _ e))
    where
      up_plain : (upper : Layer ℕ) → overlay.upper ≡ Some upper → is_plain_layer nat_eq world upper ≡ true
      up_plain upper is = and_true_left (is_plain_layer nat_eq world upper) _
          (ap (λ o. list_all (is_plain_layer nat_eq world) (option_to_list o ++ overlay.lowers)) (sym is)
          ∙ are_layers.1)

      by : (o : Option (Layer ℕ)) → overlay.upper ≡ o
          → holds_of (λ upper. lies_in_layer nat_eq later upper.filesystem upper.directory layer) o ≡ true
          → holds_of (λ upper. nat_eq fs upper.filesystem) o ≡ true
          → list_any (is_real_upper nat_eq made object) new.files.numbers ≡ true
          → lies_in_layer nat_eq world fs object layer ≡ true
      by None is lies one any = cc
      by (Some upper) is lies one any =
          let plain = up_plain upper is in
          let found = any_found (is_real_upper nat_eq made object) new.files.numbers any in
          let leads = upper_led upper is found.0 object (upper_real (made.real found.0) object found.1) in
          let filesystem = filesystem_numbered nat_eq world upper.filesystem in
          let tree = all_found (λ f. IsTree f.files.tree) _ _ conditions.files.trees _ (plain_found upper plain) in
          let listed = all_found (λ f. ListsNumbers nat_eq f.files)
          (λ f. nat_eq upper.filesystem f.number) world.filesystems conditions.files.numbers filesystem
          (plain_found upper plain) in
          let before = sym (lies_same upper.filesystem upper.directory layer old) ∙ lies in
          let under = and_true_right (nat_eq upper.filesystem layer.filesystem) _ before in
          let directory = is_there upper plain in
          let directory_under = sym (ap (λ b.
          cond b (is_directory_under nat_eq filesystem.files layer.directory upper.directory)
          (is_file_under nat_eq filesystem.files layer.directory upper.directory)) directory) ∙ under in
          ap (λ n. lies_in_layer nat_eq world n object layer) (eqb-true fs upper.filesystem one) ∙ ap
          (λ b. b && is_under nat_eq filesystem.files layer.directory object) (and_true_left _ _ before) ∙ led_below
          filesystem.files tree listed layer.directory upper.directory leads.0 object directory_under directory leads.1

  overlays_later : overlays later ≡ overlays world ++ new ∷ []
  overlays_later = filter-append is_overlay world.filesystems (new ∷ [])

  pub under_same : (fs object : ℕ) (layer : Layer ℕ) → IsOld layer
      → lies_or_counts_under nat_eq later fs object layer ≡ lies_or_counts_under nat_eq world fs object layer
  under_same fs object layer old =
      cc (
        lies_same fs object layer old,
        overlays_later,
        list_any-append (counts_as_in_layer nat_eq later fs object layer) (overlays world) (new ∷ []),
        any_same _ _ (overlays world) (λ merged among. counts_same fs object layer old merged),
        absorbed (lies_in_layer nat_eq world fs object layer) _ _ (new_counts fs object layer old),
      )

  pub overlaps_same : (others : List (Layer ℕ)) (layer : Layer ℕ) → IsOld layer
      → ((other : Layer ℕ) → Among others other → IsOld other)
      → overlaps_one_of nat_eq later others layer ≡ overlaps_one_of nat_eq world others layer
  overlaps_same others layer old olds =
      cc (
        same_filesystem layer.filesystem old,
        any_same _ _ (filesystem_numbered nat_eq world layer.filesystem).files.numbers
            (λ object among. ap (λ b. b && list_any (lies_or_counts_under nat_eq later layer.filesystem object) others)
            (under_same layer.filesystem object layer old)
            ∙ ap (λ b. lies_or_counts_under nat_eq world layer.filesystem object layer && b)
            (any_same _ _ others (λ other in_others. under_same layer.filesystem object other (olds other in_others)))),
      )
