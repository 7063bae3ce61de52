-- What lower layers show in two overlays over them: where that is the same, and where it is nothing.
use Rattle.std.proofs.Common.{arith, ◌≡◌, refl, sym, ap, subst, ◌∙◌, true≢false, ℕ, suc, ◌+◌, nat_eq, Bool, true, false, List, [], ◌∷◌, ◌++◌, map, Option, Some, None, is_some, option_and_then, append-nil}
use Rattle.vt_spec.proofs.Common.{Merge, OpenLayer, SameObject, Shown, Stack, Tree, Upper, View, common_steps, cuts, directory_no_whiteout, hides, hides_directory, is_directory_node, is_directory_shown, is_in_upper, layer_node, led, list_any, node_led, none_from_not_some, number_at_path, prefixes, same_Some, shown, shown_from, then_some, upper_object, upper_of, view_of}
use Rattle.vt_laws_trees.specs.Layers.Layers.Mounted.{IsAlike}
use Rattle.vt_laws_trees.specs.Layers.Layers.Views.{view_in}
use Rattle.vt_laws_trees.proofs.layers.layers.ShownDirectories.{AreOpen, ShowsDirectory, append_assoc, last_of, led_is_there, longer_is_not_empty}
use Rattle.vt_laws_trees.proofs.layers.layers.ShownFronts.{cons_is_not_empty, prefix_passes}
use Rattle.vt_laws_trees.proofs.layers.layers.ShownPaths.{not_empty}
use Rattle.vt_laws_trees.proofs.layers.layers.UpperFit.{same_directory}
use Rattle.vt_laws_trees.proofs.layers.layers.UpperShown.{without_last_of_longer}
use Rattle.vt_laws_trees.proofs.layers.views.After.{prefixes_fail}
use Rattle.vt_laws_trees.proofs.layers.views.Fronts.{prefixes_agree, hides_so, hiding_alike}
use Rattle.vt_laws_trees.specs.Overlays.WhatIsShown.{IsWhole, layers_under}
use Rattle.vt_laws_trees.proofs.overlays.steps.WholeAttributes.{top_open, upper_real}
use Rattle.vt_laws_trees.proofs.overlays.steps.WholeLinked.{file_hides}
use Rattle.vt_laws_trees.proofs.overlays.steps.WholeMade.{below_name}
use Rattle.vt_laws_trees.proofs.overlays.steps.WholeNames.{above_named, directory_stands, named_above}
use Rattle.vt_laws_trees.proofs.overlays.steps.WholePlaces.{directory_below_top, shown_longer}
use Rattle.vt_laws_worlds.specs.Merging.UpperChanges.{LeadsToDirectory, led_above, seen_below}
use Rattle.vt_laws_worlds.proofs.merging.upper.Copying.{led_none}
use Rattle.vt_laws_worlds.proofs.merging.upper.Places.{path_there, seen_same}

-- a way that is not cut is not cut at its fronts
pub uncut_prefix : (test : List (List ℕ) → Bool) (way front rest : List (List ℕ)) → front ++ rest ≡ way
    → list_any test (prefixes way) ≡ false → list_any test (prefixes front) ≡ false
uncut_prefix test way [] rest e none = refl
uncut_prefix test way (word ∷ front) rest e none = prefixes_fail test way _ (rest, e, cons_is_not_empty word front) none

-- the fronts of a path that leads somewhere lead somewhere
pub front_leads : (tree : Tree ℕ) (front rest : List (List ℕ)) (from to : ℕ) → led tree from (front ++ rest) ≡ Some to
    → (n : ℕ) × (led tree from front ≡ Some n)
front_leads tree [] rest from to e = (from, refl)
front_leads tree (word ∷ front) rest from to e = by _ (λ next. front_leads tree front rest next to) e
  where
    by : (o : Option ℕ) → ((next : ℕ) → led tree next (front ++ rest) ≡ Some to
        → (n : ℕ) × (led tree next front ≡ Some n))
        → option_and_then (λ next. led tree next (front ++ rest)) o ≡ Some to
        → (n : ℕ) × (option_and_then (λ next. led tree next front) o ≡ Some n)
    by None on e = cc
    by (Some next) on e = on next e

-- One overlay
module _ (stack : Stack ℕ) (m : Merge ℕ) (whole : IsWhole stack m) where
  abbrev pub view : View ℕ
  view = view_in m.upper stack.directory

  abbrev lowers : List (View ℕ)
  lowers = map view_of stack.lowers

  lowers_open : AreOpen stack.lowers
  lowers_open k layer f = whole.layers (suc k) layer f

  -- where a path leads in the upper layer is the real object of what is there
  pub led_is : (path : List (List ℕ)) (n : ℕ) → number_at_path m.files path ≡ Some n
      → led_above stack m.upper path ≡ upper_object (m.real n)
  led_is path n e = by (is_in_upper m n) refl
    where
      by : (b : Bool) → is_in_upper m n ≡ b → led_above stack m.upper path ≡ upper_object (m.real n)
      by true stands = named_above stack m whole path n (upper_of m n) e (upper_real m n stands)
          ∙ sym (ap upper_object (upper_real m n stands))
      by false low = led_none (λ k. k) whole n (path_there stack m whole path n e) path e low
          ∙ sym (none_from_not_some (upper_object (m.real n)) low)

  -- the inode of a directory that lower layers show
  shown_node : (layers : List (OpenLayer ℕ)) (seen : Shown ℕ) → is_directory_shown layers (Some seen) ≡ true
      → is_directory_node (layer_node layers seen) ≡ true
  shown_node layers seen e = grind (arith, common_steps)

  abbrev seen_in : (way : List (List ℕ)) → ShowsDirectory 1 stack.lowers way → Shown ℕ
  seen_in way shows = record { layer = 1 + shows.place; object = shows.object }

  -- A directory that lower layers show, where the upper layer does not cut, is one of the overlay.
  pub open_leads : (way : List (List ℕ)) → ShowsDirectory 1 stack.lowers way → cuts view way ≡ false
      → (directory : ℕ) × LeadsToDirectory m way directory
  open_leads way shows uncut = by (led m.upper.tree stack.directory way) refl
    where
      low : led m.upper.tree stack.directory way ≡ None → shown (layers_under stack m) way ≡ Some (seen_in way shows)
      low e = cc (uncut, shows.is)

      is_directory : is_directory_node (layer_node (layers_under stack m) (seen_in way shows)) ≡ true
      is_directory = shown_node (layers_under stack m) (seen_in way shows)
          (sym (ap (is_directory_shown (layers_under stack m)) shows.is)
          ∙ directory_below_top (record { tree = m.upper.tree; directory = stack.directory }) stack.lowers way shows)

      at : (o : Option ℕ) → number_at_path m.files way ≡ o
          → SameObject (then_some o m.files.tree.node) (layer_node (layers_under stack m) (seen_in way shows))
          → (directory : ℕ) × LeadsToDirectory m way directory
      at o e same = grind (arith, common_steps, is_directory, true≢false, same_directory)

      top : (way : List (List ℕ)) → cuts view way ≡ false → (u : ℕ) → led m.upper.tree stack.directory way ≡ Some u
          → is_directory_node (m.upper.tree.node u) ≡ true
      top [] none u e = subst (λ k. is_directory_node (m.upper.tree.node k) ≡ true)
          (same_Some stack.directory u e) (top_open stack m whole).1
      top (word ∷ way) none u e = kind (is_directory_node (m.upper.tree.node u)) refl
        where
          there : is_some (m.upper.tree.node u) ≡ true
          there = led_is_there (record { tree = m.upper.tree; directory = stack.directory }) (top_open stack m whole).0
              (top_open stack m whole).1 (word ∷ way) u e

          kind : (b : Bool) → is_directory_node (m.upper.tree.node u) ≡ b
              → is_directory_node (m.upper.tree.node u) ≡ true
          kind true d = d
          kind false d =
              absurd (true≢false (sym (prefix_passes (λ front. hides (node_led view front)) (word ∷ way) (word ∷ way) []
              (append-nil (word ∷ way)) (cons_is_not_empty word way)
              (ap (λ o. hides (then_some o m.upper.tree.node)) e ∙ file_hides (m.upper.tree.node u) there d)) ∙ none))

      by : (o : Option ℕ) → led m.upper.tree stack.directory way ≡ o
          → (directory : ℕ) × LeadsToDirectory m way directory
      by None e = at (number_at_path m.files way) refl
          (subst (λ o. SameObject (then_some (number_at_path m.files way) m.files.tree.node)
          (then_some o (layer_node (layers_under stack m)))) (low e) (whole.shown.shows way))
      by (Some u) e =
          let d = top way uncut u e in
          let found = above_named stack m whole way u e (directory_no_whiteout (m.upper.tree.node u) d) in
          (found.0, (found.1, sym (directory_stands stack m whole found.0 u found.2) ∙ d))

  -- nothing is shown below where the upper layer cuts,
  pub cut_none : (way : List (List ℕ)) (name : List ℕ) → cuts view way ≡ true
      → seen_below stack m.upper (way ++ name ∷ []) ≡ None
  cut_none way name cut = cc (without_last_of_longer way name)

  -- nor, unless lower layers show a directory above,
  pub shown_none : (way : List (List ℕ)) (name : List ℕ)
      → (cuts view way ≡ false → (seen : Shown ℕ) → shown_from 1 lowers (way ++ name ∷ []) ≡ Some seen → ⊥)
      → seen_below stack m.upper (way ++ name ∷ []) ≡ None
  shown_none way name out = grind (arith, common_steps, out, without_last_of_longer)

  -- nor at a name of what is no directory of the overlay
  pub none_below : (way : List (List ℕ)) (name : List ℕ)
      → ((directory : ℕ) → LeadsToDirectory m way directory → cuts view way ≡ false → ⊥)
      → seen_below stack m.upper (way ++ name ∷ []) ≡ None
  none_below way name out = shown_none way name (λ uncut seen e.
      let shows = shown_longer _ lowers_open 1 [] way name seen e in
      let found = open_leads way shows uncut in
      out found.0 found.1 uncut)

-- Two overlays over the same lower layers
module _ (stack : Stack ℕ) (m later : Merge ℕ) (whole : IsWhole stack m) (whole_later : IsWhole stack later) where
  abbrev before : View ℕ
  before = view_in m.upper stack.directory

  abbrev after : View ℕ
  after = view_in later.upper stack.directory

  -- The same is shown below where ways to directories are cut alike.
  pub same_below : (way : List (List ℕ)) (name : List ℕ)
      → ((directory : ℕ) → LeadsToDirectory m way directory → cuts after way ≡ cuts before way)
      → ((directory : ℕ) → LeadsToDirectory later way directory → cuts after way ≡ cuts before way)
      → seen_below stack later.upper (way ++ name ∷ []) ≡ seen_below stack m.upper (way ++ name ∷ [])
  same_below way name one two = by (cuts after way) refl (cuts before way) refl
    where
      by : (a : Bool) → cuts after way ≡ a → (b : Bool) → cuts before way ≡ b
          → seen_below stack later.upper (way ++ name ∷ []) ≡ seen_below stack m.upper (way ++ name ∷ [])
      by true a true b = seen_same stack m.upper later.upper way name (a ∙ sym b)
      by false a false b = seen_same stack m.upper later.upper way name (a ∙ sym b)
      by true a false b = cut_none stack later whole_later way name a
          ∙ sym (none_below stack m whole way name (λ d is c. true≢false (sym a ∙ one d is ∙ b)))
      by false a true b =
          none_below stack later whole_later way name (λ d is c. true≢false (sym b ∙ sym (two d is) ∙ a))
          ∙ sym (cut_none stack m whole way name b)

  -- an inode hides what it hid, by its upper object
  abbrev pub HidesAsBefore : ℕ → Type 0
  HidesAsBefore n = hides (then_some (upper_object (later.real n)) later.upper.tree.node)
      ≡ hides (then_some (upper_object (m.real n)) m.upper.tree.node)

  -- as where its real object is the same, and the inode of that is as it was
  pub hides_kept : (n : ℕ) → later.real n ≡ m.real n
      → ((u : ℕ) → m.real n ≡ Some (Upper u) → IsAlike (m.upper.tree.node u) (later.upper.tree.node u))
      → HidesAsBefore n
  hides_kept n real alike = grind (arith, common_steps, hiding_alike, hides_so, alike)

  -- A way is cut alike if its fronts lead to the same inodes, and these hide what they hid.
  pub same_cuts : (way : List (List ℕ)) (to : ℕ) → number_at_path m.files way ≡ Some to
      → ((front rest : List (List ℕ)) → front ++ rest ≡ way
      → number_at_path later.files front ≡ number_at_path m.files front)
      → ((front rest : List (List ℕ)) (n : ℕ) → front ++ rest ≡ way → number_at_path m.files front ≡ Some n
      → HidesAsBefore n) → cuts after way ≡ cuts before way
  same_cuts way to leads same hiding =
      prefixes_agree (λ front. hides (node_led before front)) (λ front. hides (node_led after front)) way (λ front is.
      let found = front_leads m.files.tree front is.0 m.files.tree.root to (ap (number_at_path m.files) is.1 ∙ leads) in
      ap (λ o. hides (then_some o later.upper.tree.node))
      (led_is stack later whole_later front found.0 (same front is.0 is.1 ∙ found.1))
      ∙ hiding front is.0 found.0 is.1 found.1
      ∙ sym (ap (λ o. hides (then_some o m.upper.tree.node)) (led_is stack m whole front found.0 found.1)))

  -- So the same is shown below at its names.
  pub kept_below : (way : List (List ℕ)) (name : List ℕ) → ((front rest : List (List ℕ)) → front ++ rest ≡ way
      → number_at_path later.files front ≡ number_at_path m.files front)
      → ((front rest : List (List ℕ)) (n : ℕ) → front ++ rest ≡ way → number_at_path m.files front ≡ Some n
      → HidesAsBefore n) → seen_below stack later.upper (way ++ name ∷ []) ≡ seen_below stack m.upper (way ++ name ∷ [])
  kept_below way name same hiding = same_below way name (λ d is. same_cuts way d is.0 same hiding)
      (λ d is. same_cuts way d (cc (same way [] (append-nil way))) same hiding)

  -- Under a name where lower layers show a directory, if what the upper layer has there later hides that, and under
  -- one where they show none, nothing is shown below.
  pub under_mark : (path : List (List ℕ)) (name : List ℕ) (d : ℕ) → LeadsToDirectory m path d
      → cuts after path ≡ cuts before path → (c : ℕ) → led_above stack later.upper (path ++ name ∷ []) ≡ Some c
      → (hides_directory nat_eq stack m d name ≡ true → hides (later.upper.tree.node c) ≡ true)
      → (word : List ℕ) (rest : List (List ℕ)) → seen_below stack later.upper (path ++ name ∷ word ∷ rest) ≡ None
  under_mark path name d is cut c leads marks word rest = ap (seen_below stack later.upper) (sym split)
      ∙ shown_none stack later whole_later (path ++ name ∷ last.0) last.1 none
    where
      last : (front : List (List ℕ)) × (name : List ℕ) × (front ++ name ∷ [] ≡ word ∷ rest)
      last = last_of (word ∷ rest) (not_empty word rest)

      split : (path ++ name ∷ last.0) ++ last.1 ∷ [] ≡ path ++ name ∷ word ∷ rest
      split = cc (append_assoc path (name ∷ last.0) (last.1 ∷ []), last.2)

      none : cuts after (path ++ name ∷ last.0) ≡ false → (seen : Shown ℕ)
          → shown_from 1 (map view_of stack.lowers) ((path ++ name ∷ last.0) ++ last.1 ∷ []) ≡ Some seen → ⊥
      none uncut seen e =
          let shows = shown_longer stack.lowers (λ k layer f. whole.layers (suc k) layer f) 1 rest (path ++ name ∷ [])
          word seen
          (ap (shown_from 1 (map view_of stack.lowers)) (append_assoc path (name ∷ []) (word ∷ rest) ∙ sym split)
          ∙ e) in
          let uncut_path = sym cut ∙ uncut_prefix (λ front. hides (node_led after front)) (path ++ name ∷ last.0) path
          (name ∷ last.0) refl uncut in
          let hidden = ap (is_directory_shown (layers_under stack m))
          (below_name stack m whole d name path is.0 is.1 uncut_path)
          ∙ directory_below_top (record { tree = m.upper.tree; directory = stack.directory }) stack.lowers
          (path ++ name ∷ []) shows in
          true≢false (sym (prefix_passes (λ front. hides (node_led after front)) (path ++ name ∷ last.0)
          (path ++ name ∷ []) last.0 (append_assoc path (name ∷ []) last.0) (longer_is_not_empty path name)
          (ap (λ o. hides (then_some o later.upper.tree.node)) leads ∙ marks hidden)) ∙ uncut)
