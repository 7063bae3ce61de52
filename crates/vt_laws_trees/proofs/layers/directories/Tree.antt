-- A tree that is found one directory at a time has what layers show at every path.
use Rattle.std.proofs.Common.{◌≡◌, ◌≢◌, refl, sym, ap, subst, ◌∙◌, true≢false, arith, ℕ, suc, ◌+◌, Bool, true, false, cond, not, ◌||◌, List, [], ◌∷◌, ◌++◌, map, Option, Some, None, is_some, option_and_then, All, option_map, nat_eq}
use Rattle.vt_spec.proofs.Common.{All-cons, All-head, All-nil, All-tail, IsDirectory, Node, OpenLayer, SameObject, Tree, View, common_steps, directory_no_whiteout, entry_at, hides, is_directory, is_directory_node, layer_node, led, none_is_some, open_layer, real_object, same_Some, shown_layers, shown_over, slice_get-map, then_some, view_of, when}
use Rattle.vt_spec.specs.Machine.Views.{Shown, shown}
use Rattle.vt_laws_trees.specs.Layers.Layers.Directories.{AreViews, PlacedView, merged_under, placed, placed_from, shown_in, shown_node}
use Rattle.vt_laws_trees.specs.Layers.Layers.DirectoryTrees.{IsMergedByDirectory, IsSaidByDirectory, ObjectsAreThoseShown, OneDirectoryIsEnough, OverlaysAreMergedByDirectory, RealObjectsAreThoseShown, node_shown_by, views_of_overlay}
use Rattle.vt_laws_trees.proofs.layers.directories.Under.{HasView, merged_are_views, placed_show_the_same, layers_are_views, shown_under_name}
use Rattle.vt_laws_trees.proofs.layers.layers.ShownDirectories.{AreOpen, append_assoc}
use Rattle.vt_laws_trees.proofs.layers.layers.ShownMounted.{are_open}
use Rattle.vt_laws_trees.proofs.layers.layers.ShownNames.{last_name}
use Rattle.vt_laws_trees.proofs.layers.layers.ShownPaths.{not_empty}
use Rattle.vt_laws_trees.proofs.layers.layers.UpperLine.{has_entries}
use Rattle.vt_spec.proofs.NodeChanges.{same_content_kind}

-- what is the same is a directory or is none
same_directory : (a b : Option (Node ℕ)) → SameObject a b → is_directory_node a ≡ is_directory_node b
same_directory None None same = refl
same_directory None (Some b) same = absurd same
same_directory (Some a) None same = absurd same
same_directory (Some a) (Some b) same = same_content_kind a.content b.content same.1

-- what is no directory has no names
nothing_led : (tree : Tree ℕ) (from : ℕ) (name other : List ℕ) (rest : List (List ℕ))
    → is_directory_node (then_some (entry_at tree from name) tree.node) ≡ false
    → led tree from (name ∷ other ∷ rest) ≡ None
nothing_led tree from name other rest d = grind (arith, common_steps, true≢false, has_entries)

module _ (views : List (View ℕ)) where
  -- the inodes of these views are those of the layers at their places
  abbrev IsOfPlace : PlacedView ℕ → Type 0
  IsOfPlace top = (object : ℕ) → shown_node views (record { layer = top.layer; object = object }) ≡ top.view.node object

  merged_of_place : (some_views : List (PlacedView ℕ)) (name : List ℕ) → All IsOfPlace some_views
      → All IsOfPlace (merged_under some_views name)
  merged_of_place [] name are = are
  merged_of_place (top ∷ lower) name are = by _ _ (merged_of_place lower name (All-tail IsOfPlace top lower are))
    where
      own : PlacedView ℕ
      own = record {
        layer = top.layer;
        view = record { leads = λ rest. top.view.leads (name ∷ rest); node = top.view.node };
      }

      by : (d h : Bool) → All IsOfPlace (merged_under lower name)
          → All IsOfPlace (cond d (own ∷ []) [] ++ cond h [] (merged_under lower name))
      by true true rest = All-cons IsOfPlace own [] (All-head IsOfPlace top lower are) (All-nil IsOfPlace)
      by true false rest = All-cons IsOfPlace own (merged_under lower name) (All-head IsOfPlace top lower are) rest
      by false true rest = All-nil IsOfPlace
      by false false rest = rest

  -- nothing is merged under a name that shows no directory
  nothing_merged : (some_views : List (PlacedView ℕ)) (name : List ℕ) → All HasView some_views
      → All IsOfPlace some_views
      → is_directory_node (node_shown_by views some_views (name ∷ [])) ≡ false → merged_under some_views name ≡ []
  nothing_merged [] name are of d = refl
  nothing_merged (top ∷ lower) name are of d = by (top.view.leads (name ∷ [])) refl d
      (nothing_merged lower name (All-tail HasView top lower are) (All-tail IsOfPlace top lower of))
    where
      own : PlacedView ℕ
      own = record {
        layer = top.layer;
        view = record { leads = λ rest. top.view.leads (name ∷ rest); node = top.view.node };
      }

      seen_by : Option ℕ → Option (Shown ℕ)
      seen_by o = shown_over top.view top.layer o (hides (then_some o top.view.node) || false)
          (shown_in lower (name ∷ []))

      merged_by : Option (Node ℕ) → List (PlacedView ℕ)
      merged_by o = cond (is_directory_node o) (own ∷ []) [] ++ cond (hides o) [] (merged_under lower name)

      hidden : (object : ℕ) (b : Bool) → is_directory_node (top.view.node object) ≡ b → (node : Option (Node ℕ))
          → top.view.node object ≡ node → is_some node ≡ true
          → is_directory_node (then_some (seen_by (Some object)) (shown_node views)) ≡ false → merged_by node ≡ []
      hidden object b t None e h d = absurd (true≢false (sym h))
      hidden object true t (Some node) e h d = absurd (true≢false (sym (
          ap (λ w. is_directory_node (then_some (when (not w) (record { layer = top.layer; object = object }))
          (shown_node views))) (directory_no_whiteout (top.view.node object) t)
          ∙ ap is_directory_node (All-head IsOfPlace top lower of object) ∙ t) ∙ d))
      hidden object false t (Some node) e h d = cc (e, t)

      by : (o : Option ℕ) → top.view.leads (name ∷ []) ≡ o
          → is_directory_node (then_some (seen_by o) (shown_node views)) ≡ false
          → (is_directory_node (node_shown_by views lower (name ∷ [])) ≡ false → merged_under lower name ≡ [])
          → merged_by (then_some o top.view.node) ≡ []
      by None e d rest = rest d
      by (Some object) e d rest = hidden object _ refl _ refl ((All-head HasView top lower are).there _ object e) d

  placed_of_place : All IsOfPlace (placed views)
  placed_of_place = by views 0 (λ k object.
      ap (λ d. shown_node views (record { layer = d; object = object })) (let h : 0 + k ≡ k = omega arith in h))
    where
      by : (list : List (View ℕ)) (depth : ℕ)
          → ((k : ℕ) (object : ℕ) → shown_node views (record { layer = depth + k; object = object })
          ≡ shown_node list (record { layer = k; object = object })) → All IsOfPlace (placed_from depth list)
      by [] depth is = All-nil IsOfPlace
      by (view ∷ lower) depth is =
          All-cons IsOfPlace (record { layer = depth; view = view }) (placed_from (depth + 1) lower)
          (λ object. ap (λ d. shown_node views (record { layer = d; object = object }))
          (let h : depth ≡ depth + 0 = omega arith in h) ∙ is 0 object) (by lower (depth + 1) (λ k object.
          ap (λ d. shown_node views (record { layer = d; object = object }))
          (let h : (depth + 1) + k ≡ depth + suc k = omega arith in h) ∙ is (suc k) object))

  module _ (tree : Tree ℕ) (views_of : ℕ → List (PlacedView ℕ)) (are : AreViews (placed views))
      (is : IsMergedByDirectory views tree views_of) where
    -- the views of a directory show what all of them show under its path
    record ShowsFrom (front : List (List ℕ)) (directory : ℕ) : Type 0 where
      is_led : led tree tree.root front ≡ Some directory
      are_views : AreViews (views_of directory)
      of_place : All IsOfPlace (views_of directory)
      same : (rest : List (List ℕ)) → rest ≢ [] → shown_in (views_of directory) rest ≡ shown views (front ++ rest)

    from_root : ShowsFrom [] tree.root
    from_root = grind (arith, common_steps, placed_of_place, placed_show_the_same)

    goes_on : (front : List (List ℕ)) (directory : ℕ) (name : List ℕ) (number : ℕ) → ShowsFrom front directory
        → IsDirectory tree directory → entry_at tree directory name ≡ Some number → IsDirectory tree number
        → ShowsFrom (front ++ name ∷ []) number
    goes_on front directory name number from d e is_directory =
        let merged = (is.directories front directory from.is_led d).below name number e is_directory in
        record {
          is_led = last_name tree _ front name ∙ ap (option_and_then (λ n. entry_at tree n name)) from.is_led ∙ e;
          are_views = subst AreViews (sym merged) (merged_are_views (views_of directory) name from.are_views);
          of_place = subst (All IsOfPlace) (sym merged) (merged_of_place (views_of directory) name from.of_place);
          same = λ rest n. ap (λ v. shown_in v rest) merged
              ∙ sym (shown_under_name (views_of directory) name rest from.are_views n)
              ∙ from.same (name ∷ rest) (not_empty name rest)
              ∙ ap (shown views) (sym (append_assoc front (name ∷ []) rest));
        }

    -- what is said at every path that is not the root's, of where the tree leads and what is shown, if it is said of an
    -- entry and of nothing
    module _ (Said : List (List ℕ) → Option ℕ → Option (Shown ℕ) → Type 0)
        (nothing : (path : List (List ℕ)) → Said path None None)
        (entry : (front : List (List ℕ)) (directory : ℕ) (name : List ℕ) → led tree tree.root front ≡ Some directory
        → IsDirectory tree directory → Said (front ++ name ∷ []) (entry_at tree directory name)
        (shown_in (views_of directory) (name ∷ [])))
      where
        said_below : (front : List (List ℕ)) (directory : ℕ) → ShowsFrom front directory → IsDirectory tree directory
            → (name : List ℕ) (rest : List (List ℕ))
            → Said (front ++ name ∷ rest) (led tree directory (name ∷ rest)) (shown views (front ++ name ∷ rest))
        said_below front directory from d name [] =
            subst (λ o. Said (front ++ name ∷ []) o (shown views (front ++ name ∷ [])))
            (sym (last_name tree directory [] name)) (subst (Said (front ++ name ∷ []) (entry_at tree directory name))
            (from.same (name ∷ []) (not_empty name [])) (entry front directory name from.is_led d))
        said_below front directory from d name (other ∷ rest) = by _ refl _ refl (λ number e f. said_below
            (front ++ name ∷ []) number (goes_on front directory name number from d e f) f other rest)
          where
            path : List (List ℕ)
            path = front ++ name ∷ other ∷ rest

            ends : is_directory_node (then_some (entry_at tree directory name) tree.node) ≡ false
                → Said path (led tree directory (name ∷ other ∷ rest)) (shown views path)
            ends f =
                let none_shown = nothing_merged (views_of directory) name from.are_views from.of_place
                (sym (same_directory _ _ ((is.directories front directory from.is_led d).entries name)) ∙ f) in
                grind (arith, common_steps, nothing_led, shown_under_name, not_empty)

            by : (o : Option ℕ) → entry_at tree directory name ≡ o → (b : Bool)
                → is_directory_node (then_some (entry_at tree directory name) tree.node) ≡ b
                → ((number : ℕ) → entry_at tree directory name ≡ Some number → IsDirectory tree number
                → Said ((front ++ name ∷ []) ++ other ∷ rest) (led tree number (other ∷ rest))
                (shown views ((front ++ name ∷ []) ++ other ∷ rest)))
                → Said path (led tree directory (name ∷ other ∷ rest)) (shown views path)
            by o e b f on = grind (arith, common_steps, ends, true≢false, append_assoc)

        said_everywhere : Said [] (Some tree.root) (shown views []) → (path : List (List ℕ))
            → Said path (led tree tree.root path) (shown views path)
        said_everywhere root [] = root
        said_everywhere root (name ∷ rest) = said_below [] tree.root from_root is.root_directory name rest

    one_directory : (path : List (List ℕ))
        → SameObject (then_some (led tree tree.root path) tree.node) (then_some (shown views path) (shown_node views))
    one_directory path =
        said_everywhere (λ path found seen. SameObject (then_some found tree.node) (then_some seen (shown_node views)))
        (λ path. tt) (λ front directory name l d. (is.directories front directory l d).entries name)
        (subst (λ o. SameObject (tree.node tree.root) (then_some o (shown_node views)))
        (sym (placed_show_the_same views [])) is.root) path

    module _ {A : Type 0} (of : List (List ℕ) → Shown ℕ → A) (said : ℕ → Option A)
        (is_said : IsSaidByDirectory views tree views_of of said) where
      said_of_shown : (path : List (List ℕ)) (number : ℕ) → led tree tree.root path ≡ Some number
          → said number ≡ option_map (of path) (shown views path)
      said_of_shown path = said_everywhere (λ path found seen. (number : ℕ) → found ≡ Some number
          → said number ≡ option_map (of path) seen) (λ path number e. none_is_some number e)
          (λ front directory name l d number e. is_said.entries front directory name number l e)
          (λ number e. ap said (sym (same_Some tree.root number e)) ∙ is_said.root) path

pub one_directory_is_enough : OneDirectoryIsEnough
one_directory_is_enough views tree views_of path are is = one_directory views tree views_of are is path

pub objects_are_those_shown : ObjectsAreThoseShown
objects_are_those_shown views tree views_of seen path number are is is_said e =
    said_of_shown views tree views_of are is (λ path shown. shown) seen is_said path number e
    ∙ itself (shown views path)
  where
    itself : (o : Option (Shown ℕ)) → option_map (λ seen. seen) o ≡ o
    itself None = refl
    itself (Some seen) = refl

-- layers of a world are views
views_of_layers : (layers : List (OpenLayer ℕ)) (depth : ℕ) → AreOpen layers
    → AreViews (placed_from depth (map view_of layers))
views_of_layers [] depth are = All-nil HasView
views_of_layers (layer ∷ lower) depth are =
    let first = are 0 layer refl in
    All-cons HasView _ _ (layers_are_views layer first.0 first.1) (views_of_layers lower _ (λ k l h. are (suc k) l h))

nodes_of_layers : (layers : List (OpenLayer ℕ)) (seen : Shown ℕ)
    → shown_node (map view_of layers) seen ≡ layer_node layers seen
nodes_of_layers layers seen = grind (arith, common_steps, slice_get-map)

pub overlays_are_merged_by_directory : OverlaysAreMergedByDirectory
overlays_are_merged_by_directory world overlay tree views_of path conditions are_layers is = subst
    (SameObject (then_some (led tree tree.root path) tree.node)) (by _) (one_directory (views_of_overlay world overlay)
    tree views_of (views_of_layers _ 0 (are_open world conditions overlay are_layers)) is path)
  where
    by : (o : Option (Shown ℕ)) → then_some o (shown_node (views_of_overlay world overlay))
        ≡ then_some o (layer_node (map (open_layer nat_eq world) (shown_layers overlay)))
    by None = refl
    by (Some seen) = nodes_of_layers (map (open_layer nat_eq world) (shown_layers overlay)) seen

pub real_objects_are_those_shown : RealObjectsAreThoseShown
real_objects_are_those_shown world overlay tree views_of path number conditions are_layers is is_said e = said_of_shown
    _ tree _ (views_of_layers _ 0 (are_open world conditions overlay are_layers)) is _ _ is_said path number e ∙ by _
  where
    by : (o : Option (Shown ℕ))
        → option_map (λ seen. real_object (is_some overlay.upper) seen.layer (record { path = path; seen = seen })) o
        ≡ option_map (λ object. real_object (is_some overlay.upper) object.seen.layer object)
        (option_map (λ seen. record { path = path; seen = seen }) o)
    by None = refl
    by (Some seen) = refl
