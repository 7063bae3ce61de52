-- What lower layers of overlays that members reach have at a path is in the part.
use Rattle.std.proofs.Common.{◌≡◌, refl, sym, ap, ◌∙◌, inl, inr, ℕ, nat_eq, Bool, true, false, cond, not, List, [], ◌∷◌, ◌++◌, filter, find, flat_map, map, Option, Some, None, ◌||◌, ◌&&◌, eq-eqb, eqb-true, arith, option_to_list, unwrap_or, filter_map}
use Rattle.vt_spec.proofs.Common.{cases_Bool, Among, FileTree, Filesystem, IsTree, IsWorld, Layer, ListsNumbers, Location, Node, Overlay, TaskName, World, among-append_left, among-append_right, among-filter, among-flat_map, among-map, among_from_all, among_numbers, and_from, any_from_among, change_layers, common_steps, cons_option, cuts, filesystem_at, filesystem_numbered, found_among, has_lower_directory, has_lower_directory_at, hides, is_among, is_among_numbers, is_directory_node, led, lies_in_own_lower, list_any, mount_at, no_filesystem, node_led, none_is_some, open_layer, overlay_or, own_lowers, part_of, part_of_filesystem, part_of_lower, path_down, prefixes, used_directly, used_filesystems, view_of, when}
use Rattle.vt_laws_members.proofs.Common.{cases_Option, among-each_once, found, found_filesystem, layer_directory, led_is_there, led_under, lowers_have_directory, shown_number}
use Rattle.vt_laws_trees.proofs.layers.views.Stay.{led_where}
use Rattle.vt_laws_members.proofs.judging.SeenInPart.{OnTheirs, filesystem_alike, theirs_directly}

module _ (world : World ℕ) (names : List TaskName) (is : IsWorld nat_eq world) where
  abbrev part : World ℕ
  part = part_of nat_eq world names

  abbrev lowers : List (Layer ℕ)
  lowers = own_lowers nat_eq world names

  abbrev used : List ℕ
  used = used_filesystems nat_eq world names

  -- what a layer has at a path, in a filesystem
  abbrev view_at : Layer ℕ → List (List ℕ) → Filesystem ℕ → Option (Node ℕ)
  view_at layer path x = node_led (view_of (record { tree = x.files.tree; directory = layer.directory })) path

  module _ (layer : Layer ℕ) (low : Among layer lowers) (directory : is_directory_node
      ((filesystem_numbered nat_eq world layer.filesystem).files.tree.node layer.directory) ≡ true)
    where
      module _ (x : Filesystem ℕ) (there : Among x world.filesystems) (its : layer.filesystem ≡ x.number) where
        itself : filesystem_numbered nat_eq world x.number ≡ x
        itself = found_filesystem world.filesystems is.files.one_filesystem x there

        top : is_directory_node (x.files.tree.node layer.directory) ≡ true
        top = cc (its, itself, directory)

        tree : IsTree x.files.tree
        tree = among_from_all (λ (f : Filesystem ℕ). IsTree f.files.tree) world.filesystems is.files.trees x there

        listed : ListsNumbers nat_eq x.files
        listed = among_from_all
            (λ (f : Filesystem ℕ). ListsNumbers nat_eq f.files) world.filesystems is.files.numbers x there

        abbrev cut : FileTree ℕ
        cut = (part_of_lower nat_eq world names x).files

        in_chosen : (object : ℕ) (way : List (List ℕ)) → led x.files.tree layer.directory way ≡ Some object
            → is_among nat_eq object (filter (lies_in_own_lower nat_eq world names x.number) x.files.numbers) ≡ true
        in_chosen object way e = is_among_numbers (filter (lies_in_own_lower nat_eq world names x.number)
            x.files.numbers) object (among-filter _ x.files.numbers object (among_numbers x.files.numbers object
            (listed object ∙ led_is_there _ tree top way object e)) (any_from_among _ lowers layer low
            (and_from (nat_eq x.number layer.filesystem) _ (eq-eqb x.number layer.filesystem (sym its)) (cc (
              itself,
              led_under x.files tree layer.directory listed top
                  object (way, e),
            )))))

        same_node : (object : ℕ) (way : List (List ℕ)) → led x.files.tree layer.directory way ≡ Some object
            → cut.tree.node object ≡ x.files.tree.node object
        same_node object way e = cc (in_chosen object way e)

        leads : (path : List (List ℕ)) → led cut.tree layer.directory path ≡ led x.files.tree layer.directory path
        leads path =
            led_where x.files.tree cut.tree path layer.directory (λ way inode e word. cc (same_node inode way e))

        cut_view : (path : List (List ℕ))
            → view_at layer path (part_of_lower nat_eq world names x) ≡ view_at layer path x
        cut_view path = grind (arith, common_steps, leads, same_node)

      abbrev shown : Filesystem ℕ → Option (Filesystem ℕ)
      shown = part_of_filesystem nat_eq world names

      kept : (x : Filesystem ℕ) → Among x world.filesystems → layer.filesystem ≡ x.number → (path : List (List ℕ))
          → (y : Filesystem ℕ) × (shown x ≡ Some y) × (view_at layer path y ≡ view_at layer path x)
      kept x there its path = elim (cases_Bool (is_among nat_eq x.number used)) [
        | inl e ↦ (
          x,
          ap (λ b. cond b (Some x) (when (list_any (λ layer. nat_eq x.number layer.filesystem) lowers)
              (part_of_lower nat_eq world names x))) e,
          refl,
        )
        | inr e ↦ (
          part_of_lower nat_eq world names x,
          ap (λ b. cond b (Some x) (when (list_any (λ layer. nat_eq x.number layer.filesystem) lowers)
              (part_of_lower nat_eq world names x))) e ∙ ap (λ b. when b (part_of_lower nat_eq world names x))
              (any_from_among (λ (l : Layer ℕ). nat_eq x.number l.filesystem) lowers layer low
              (eq-eqb x.number layer.filesystem (sym its))),
          cut_view x there its path,
        )
      ]

      abbrev passes : Filesystem ℕ → Bool
      passes x = nat_eq layer.filesystem x.number

      abbrev none : Filesystem ℕ
      none = no_filesystem layer.filesystem

      search : (path : List (List ℕ)) (list : List (Filesystem ℕ))
          → ((x : Filesystem ℕ) → Among x list → Among x world.filesystems)
          → view_at layer path (unwrap_or (find passes (filter_map shown list)) none)
          ≡ view_at layer path (unwrap_or (find passes list) none)
      search path [] all = refl
      search path (x ∷ rest) all = by (passes x) refl (search path rest (λ y m. all y (inr m)))
        where
          skip : (o : Option (Filesystem ℕ)) → shown x ≡ o → passes x ≡ false
              → find passes (cons_option o (filter_map shown rest)) ≡ find passes (filter_map shown rest)
          skip None e f = refl
          skip (Some y) e f = cc (shown_number world names x y e, f)

          by : (b : Bool) → passes x ≡ b → view_at layer path (unwrap_or (find passes (filter_map shown rest)) none)
              ≡ view_at layer path (unwrap_or (find passes rest) none)
              → view_at layer path (unwrap_or (find passes (cons_option (shown x) (filter_map shown rest))) none)
              ≡ view_at layer path (unwrap_or (cond b (Some x) (find passes rest)) none)
          by true e later =
              let its = kept x (all x (inl refl)) (eqb-true layer.filesystem x.number e) path in
              ap (λ o. view_at layer path (unwrap_or (find passes (cons_option o (filter_map shown rest))) none)) its.1
              ∙ ap (λ b. view_at layer path
              (unwrap_or (cond b (Some its.0) (find passes (filter_map shown rest))) none))
              (ap (nat_eq layer.filesystem) (shown_number world names x its.0 its.1) ∙ e) ∙ its.2
          by false e later = cc (skip (shown x) refl e, later)

      pub lower_view : (path : List (List ℕ)) → node_led (view_of (open_layer nat_eq part layer)) path
          ≡ node_led (view_of (open_layer nat_eq world layer)) path
      lower_view path = search path world.filesystems (λ x m. m)

  -- Layers that have the same at each path
  abbrev ViewsAlike : Layer ℕ → Type 0
  ViewsAlike layer = (path : List (List ℕ))
      → node_led (view_of (open_layer nat_eq part layer)) path ≡ node_led (view_of (open_layer nat_eq world layer)) path

  cuts_alike : (layer : Layer ℕ) → ViewsAlike layer → (path : List (List ℕ))
      → cuts (view_of (open_layer nat_eq part layer)) path ≡ cuts (view_of (open_layer nat_eq world layer)) path
  cuts_alike layer same path = λ i. list_any (λ prefix. hides (same prefix i)) (prefixes path)

  lowers_alike : (list : List (Layer ℕ)) → ((layer : Layer ℕ) → Among layer list → ViewsAlike layer)
      → (path : List (List ℕ)) → lowers_have_directory (map view_of (map (open_layer nat_eq part) list)) path
      ≡ lowers_have_directory (map view_of (map (open_layer nat_eq world) list)) path
  lowers_alike [] same path = refl
  lowers_alike (layer ∷ rest) same path =
      let first = same layer (inl refl) in
      let cut = cuts_alike layer first path in
      let later = lowers_alike rest (λ l m. same l (inr m)) path in
      λ i. is_directory_node (first path i) || (not (cut i) && later i)

  uppers_alike : (list : List (Layer ℕ)) → ((layer : Layer ℕ) → Among layer list → ViewsAlike layer)
      → (path : List (List ℕ)) → list_any (λ upper. cuts upper path) (map view_of (map (open_layer nat_eq part) list))
      ≡ list_any (λ upper. cuts upper path) (map view_of (map (open_layer nat_eq world) list))
  uppers_alike [] same path = refl
  uppers_alike (layer ∷ rest) same path =
      let cut = cuts_alike layer (same layer (inl refl)) path in
      let later = uppers_alike rest (λ l m. same l (inr m)) path in
      λ i. cut i || later i

  -- an overlay is there
  pub overlay_there : (number : ℕ) (overlay : Overlay ℕ)
      → (filesystem_numbered nat_eq world number).overlay ≡ Some overlay
      → Among (filesystem_numbered nat_eq world number) world.filesystems
  overlay_there number overlay = grind (arith, common_steps, none_is_some, found_among)

  module _ (here : Location ℕ) (own : OnTheirs world names is here) where
    abbrev number : ℕ
    number = (mount_at nat_eq world here).filesystem

    abbrev merged : Filesystem ℕ
    merged = filesystem_at nat_eq world here

    module _ (overlay : Overlay ℕ) (e : merged.overlay ≡ Some overlay) where
      lower_low : (layer : Layer ℕ) → Among layer overlay.lowers → Among layer lowers
      lower_low layer m = among-flat_map _ _ number layer (theirs_directly world names is here own) (rw e m)

      lower_alike : (layer : Layer ℕ) → Among layer overlay.lowers → ViewsAlike layer
      lower_alike layer m path = lower_view layer (lower_low layer m) (layer_directory world names is merged
          (overlay_there number overlay e) layer (rw e (among-append_right
          (option_to_list overlay.upper ++ option_to_list overlay.work) overlay.lowers layer m))) path

      pub upper_used : (layer : Layer ℕ) → Among layer (option_to_list overlay.upper)
          → is_among nat_eq layer.filesystem used ≡ true
      upper_used layer m = is_among_numbers used layer.filesystem (among-each_once _ layer.filesystem
          (among-append_right (used_directly nat_eq world names) (flat_map
          (λ n. change_layers (filesystem_numbered nat_eq world n)) (used_directly nat_eq world names)) layer.filesystem
          (among-flat_map _ _ number layer.filesystem (theirs_directly world names is here own)
          (rw e (among-map (λ (l : Layer ℕ). l.filesystem) (option_to_list overlay.upper ++ option_to_list overlay.work)
          layer (among-append_left (option_to_list overlay.upper) (option_to_list overlay.work) layer m))))))

      upper_alike : (layer : Layer ℕ) → Among layer (option_to_list overlay.upper) → ViewsAlike layer
      upper_alike layer m path = cc (found world names layer.filesystem (upper_used layer m))

      all_alike : (path : List (List ℕ))
          → has_lower_directory (map (open_layer nat_eq world) (option_to_list overlay.upper))
          (map (open_layer nat_eq world) overlay.lowers) path
          ≡ has_lower_directory (map (open_layer nat_eq part) (option_to_list overlay.upper))
          (map (open_layer nat_eq part) overlay.lowers) path
      all_alike path =
          let up = uppers_alike (option_to_list overlay.upper) upper_alike path in
          let down = lowers_alike overlay.lowers lower_alike path in
          sym (λ i. not (up i) && down i)

    abbrev asked : World ℕ → List ℕ → Filesystem ℕ → Option (Overlay ℕ) → Bool
    asked w name x o = overlay_or false (λ (overlay : Overlay ℕ). has_lower_directory
        (map (open_layer nat_eq w) (option_to_list overlay.upper)) (map (open_layer nat_eq w) overlay.lowers)
        (unwrap_or (path_down nat_eq x.files x.files.tree.root here.node) [] ++ (name ∷ []))) o

    pub lower_directory_alike : (name : List ℕ)
        → has_lower_directory_at nat_eq world here name ≡ has_lower_directory_at nat_eq part here name
    lower_directory_alike name = (elim (cases_Option merged.overlay) [
      | inl e ↦ ap (asked world name merged) e ∙ sym (ap (asked part name merged) e)
      | inr its ↦ ap (asked world name merged) its.1 ∙ all_alike its.0 its.1
          (unwrap_or (path_down nat_eq merged.files merged.files.tree.root here.node) [] ++ (name ∷ []))
          ∙ sym (ap (asked part name merged) its.1)
    ])
        ∙ ap (λ (x : Filesystem ℕ). asked part name x x.overlay) (filesystem_alike world names is here own)
