-- What is fit for an object is fit for it once it is in the upper layer.
use Rattle.std.proofs.Common.{◌≡◌, ◌∙◌, ◌+◌, ◌∷◌, ◌++◌, [], ap, append-nil, append_assoc, arith, Bool, false, is_some, IsSome, List, map, None, not, option_map, Option, refl, reverse, slice_get, Some, subst, sym, true, true≢false, ℕ}
use Rattle.vt_spec.proofs.Common.{Content, Node, OpenLayer, Shown, at_path, common_steps, is_directory_node, is_kind_in, layer_node, none_is_some, same_Some, shown, slice_get-map, then_some, cuts, shown_from, view_of, when}
use Rattle.vt_spec.specs.declared.attributes.Kind.TheVariants.{White}
use Rattle.vt_spec.specs.Machine.Views.{shown_over}
use Rattle.vt_spec.specs.Tree.Content.{Directory, Regular, Symlink, Whiteout}
use Rattle.vt_copyup.specs.declared.plans.Piece.{Piece}
use Rattle.vt_copyup.specs.declared.plans.Plan.{Plan}
use Rattle.vt_copyup.specs.Copied.{copied}
use Rattle.vt_copyup.specs.Planned.{AreCopiesFrom, IsPlanOf, names_of}
use Rattle.vt_copyup.specs.Plans.{in_turn}
use Rattle.vt_fs.specs.FilesystemsValue.{Filesystems, files_at, node_seen}
use Rattle.vt_location.specs.declared.locations.NodeRef.{NodeRef}
use Rattle.vt_location.specs.Locations.{inode_of, number_of}
use Rattle.vt_location.specs.NodeNumbers.{IsSmall}
use Rattle.vt_overlay.specs.Alike.{lent_at}
use Rattle.vt_overlay.specs.declared.merge.layers.LayerRef.{LayerRef}
use Rattle.vt_overlay.specs.declared.merge.layers.Real.{Real as Object}
use Rattle.vt_overlay.specs.Merge.LayerValue.{layer_of, layers_of, seen_of}
use Rattle.vt_upper.specs.Copies.{AreCopiesOf, IsLastFit, IsLastOf}
use Rattle.vt_upper.specs.Copies.AreCopiesOf.{is_above, is_below}
use Rattle.vt_upper_overlay.specs.MergedAbove.{lent, number_at, object_lent}
use Rattle.vt_upper_overlay.specs.UpperValue.{UpperOverlayValue, real_at}
use Rattle.vt_upper_overlay.proofs.Objects.{real_shown_at}
use Rattle.vt_upper_overlay.proofs.Shown.{IsLooked, shown_node}
use Rattle.vt_upper.proofs.PlansOf.{AreSplit, split_layers}
use Rattle.std.proofs.Common.{⊎_elim}

-- by slots and by numbers an inode is of one kind, and so is what is copied of it
seen_kind : (f : ℕ) (node : Option (Node ℕ)) → is_directory_node (option_map (node_seen f) node) ≡ is_directory_node node
seen_kind f object = grind (arith, common_steps)

copied_kind : (with_bytes : Bool) (node : Node ℕ)
    → is_directory_node (Some node) ≡ is_directory_node (Some (copied with_bytes node))
copied_kind with_bytes node = by with_bytes node.content
  where
    by : (b : Bool) (content : Content ℕ) → is_directory_node (Some (record { attr = node.attr; content = content }))
        ≡ is_directory_node (Some (copied b (record { attr = node.attr; content = content })))
    by true (Directory parent entries opaque) = refl
    by false (Directory parent entries opaque) = refl
    by true (Regular bytes) = refl
    by false (Regular bytes) = refl
    by true (Symlink text) = refl
    by false (Symlink text) = refl
    by true Whiteout = refl
    by false Whiteout = refl

-- where the first layer has an object, it decides
pub shown_first : (trees : Filesystems) (layers : List LayerRef) (top : LayerRef) → slice_get layers 0 ≡ Some top
    → (path : List (List ℕ)) (object : ℕ) → at_path (layer_of trees top) path ≡ Some object
    → shown (layers_of trees layers) path
    ≡ when (not (is_kind_in White ((files_at trees top.directory.filesystem.count).tree.node object)))
    (record { layer = 0; object = object })
shown_first trees [] top e path object leads = none_is_some top e
shown_first trees (first ∷ layers) top e path object leads =
    let same : first ≡ top = same_Some first top e in
    ap (λ o. shown_over (view_of (layer_of trees first)) 0 o (cuts (view_of (layer_of trees first)) path)
    (shown_from (0 + 1) (map view_of (layers_of trees layers)) path))
    (ap (λ l. at_path (layer_of trees l) path) same ∙ leads)
    ∙ ap (λ (l : LayerRef). when (not (is_kind_in White
    ((files_at trees l.directory.filesystem.count).tree.node object))) (record { layer = 0; object = object })) same

when_some : (b : Bool) (seen : Shown ℕ) → IsSome (when b seen) → when b seen ≡ Some seen
when_some true seen some = refl
when_some false seen some = absurd (true≢false (sym some))

module _ (trees : Filesystems) (overlay : UpperOverlayValue) (Fits : Option (Node ℕ) → Type 0)
    (fits_kind : (a b : Option (Node ℕ)) → is_directory_node a ≡ is_directory_node b → Fits a → Fits b) where
  abbrev layers : List (OpenLayer ℕ)
  layers = layers_of trees overlay.layers.lowers

  -- what is lent of an object is of the kind that is shown
  lent_kind : (o : Option (Shown ℕ)) → is_directory_node (lent trees overlay o)
      ≡ is_directory_node (then_some o (layer_node layers))
  lent_kind None = refl
  lent_kind (Some one) = by (slice_get overlay.layers.lowers one.layer)
      ∙ ap (λ o. is_directory_node (then_some o (λ (layer : OpenLayer ℕ). layer.tree.node one.object)))
      (sym (slice_get-map (layer_of trees) overlay.layers.lowers one.layer))
    where
      by : (o : Option LayerRef) → is_directory_node (then_some o (lent_at trees one.object))
          ≡ is_directory_node (then_some (option_map (layer_of trees) o)
          (λ (layer : OpenLayer ℕ). layer.tree.node one.object))
      by None = refl
      by (Some lower) = seen_kind lower.directory.filesystem.count
          ((files_at trees lower.directory.filesystem.count).tree.node one.object)

  -- the last of copies is that of the object
  last_fit : (with_bytes : Bool) (path : List (List ℕ)) (node : Option (Node ℕ))
      → Fits (then_some (shown layers path) (layer_node layers)) → (piece : Piece) (rest : List Piece)
      (front : List (List ℕ))
      → AreCopiesFrom with_bytes trees overlay.layers.lowers overlay.layers.number front (piece ∷ rest)
      → front ++ names_of (piece ∷ rest) ≡ path → IsLastOf Fits Fits (piece ∷ rest) node
  last_fit with_bytes path _ fit piece [] front copies whole =
      let copy = copies.0 in
      let is : then_some (shown layers path) (layer_node layers) ≡ Some copy.inode =
      ap (λ p. then_some (shown layers p) (layer_node layers)) (sym whole) ∙ copy.shows in
      fits_kind (then_some (shown layers path) (layer_node layers)) (Some piece.copy.node)
      (ap is_directory_node is ∙ copied_kind with_bytes copy.inode ∙ ap (λ n. is_directory_node (Some n)) (sym copy.node))
      fit
  last_fit with_bytes path node fit piece (next ∷ rest) front copies whole =
      last_fit with_bytes path node fit next rest (front ++ piece.copy.name.items ∷ []) copies.1
      (append_assoc front (piece.copy.name.items ∷ []) (names_of (next ∷ rest)) ∙ whole)

  module _ (looked : IsLooked trees overlay) (node : NodeRef) (node_small : IsSmall node)
      (fit : Fits (object_lent trees overlay node)) where
    abbrev split : AreSplit overlay.layers.lowers
    split = split_layers overlay.layers.lowers looked.stands.upper

    abbrev top : LayerRef
    top = split.upper

    first_is : slice_get overlay.layers.lowers 0 ≡ Some top
    first_is = ap (λ l. slice_get l 0) split.is

    -- the inode of an object that the upper layer shows
    node_above : (object : ℕ) → then_some (Some (record { layer = 0; object = object })) (layer_node layers)
        ≡ (files_at trees top.directory.filesystem.count).tree.node object
    node_above object = ap (λ o. then_some o (λ (layer : OpenLayer ℕ). layer.tree.node object))
        (slice_get-map (layer_of trees) overlay.layers.lowers 0 ∙ ap (option_map (layer_of trees)) first_is)

    pub fit_shown : (o : Option (Shown ℕ)) → option_map seen_of (real_at overlay node) ≡ o
        → Fits (then_some o (layer_node layers))
    fit_shown o e = fits_kind (object_lent trees overlay node) (then_some o (layer_node layers))
        (lent_kind (option_map seen_of (real_at overlay node)) ∙ ap (λ o. is_directory_node
        (then_some o (layer_node layers))) e) fit

    module _ (after : Filesystems) where
      -- of copies of a path
      fit_below : (with_bytes : Bool) (plan : Plan) (path : List (List ℕ))
          → number_at trees overlay path ≡ Some (number_of node)
          → IsPlanOf with_bytes trees top split.lowers overlay.layers.number path plan
          → files_at after plan.directory.filesystem.count ≡ files_at trees top.directory.filesystem.count
          → IsLastFit Fits plan after
      fit_below with_bytes plan path numbered is same = by (in_turn plan) is.whole
          (subst (λ l. AreCopiesFrom with_bytes trees l overlay.layers.number is.front (in_turn plan)) (sym split.is)
          is.copies)
        where
          fit_path : Fits (then_some (shown layers path) (layer_node layers))
          fit_path = fit_shown (shown layers path) (real_shown_at trees overlay looked node node_small path numbered)

          some : IsSome (shown layers path)
          some = ⊎_elim (λ a. ap is_some a.is) (λ b. ap is_some b.is)
              (shown_node trees overlay looked path node node_small numbered)

          by : (pieces : List Piece) → is.front ++ names_of pieces ≡ path
              → AreCopiesFrom with_bytes trees overlay.layers.lowers overlay.layers.number is.front pieces
              → IsLastOf Fits Fits pieces
              ((files_at after plan.directory.filesystem.count).tree.node (inode_of plan.directory))
          by [] whole copies =
              let here = shown_first trees overlay.layers.lowers top first_is path (inode_of plan.directory)
              (ap (at_path (layer_of trees top)) (sym whole ∙ append-nil is.front) ∙ is.leads) in
              let all = here ∙ when_some (not (is_kind_in White
              ((files_at trees top.directory.filesystem.count).tree.node (inode_of plan.directory))))
              (record { layer = 0; object = inode_of plan.directory }) (subst IsSome here some) in
              subst Fits (ap (λ o. then_some o (layer_node layers)) all
              ∙ node_above (inode_of plan.directory)
              ∙ ap (λ (files : Rattle.vt_spec.proofs.Common.FileTree ℕ). files.tree.node (inode_of plan.directory))
              (sym same)) fit_path
          by (piece ∷ rest) whole copies = last_fit with_bytes path _ fit_path piece rest is.front
              copies whole

      -- of an object in the upper layer
      fit_above : (plan : Plan) (real : Object) → real_at overlay node ≡ Some real → real.layer ≡ 0
          → plan.directory ≡ real.inode → plan.pieces.items ≡ []
          → files_at after plan.directory.filesystem.count ≡ files_at trees top.directory.filesystem.count
          → IsLastFit Fits plan after
      fit_above plan real is zero directory none same =
          let seen : option_map seen_of (real_at overlay node)
          ≡ Some (record { layer = 0; object = inode_of plan.directory }) =
          ap (option_map seen_of) is
          ∙ (λ i. Some (record { layer = zero i; object = inode_of (sym directory i) })) in
          subst (λ pieces. IsLastOf Fits Fits (reverse pieces)
          ((files_at after plan.directory.filesystem.count).tree.node (inode_of plan.directory))) (sym none)
          (subst Fits (node_above (inode_of plan.directory)
          ∙ ap (λ (files : Rattle.vt_spec.proofs.Common.FileTree ℕ). files.tree.node (inode_of plan.directory)) (sym same))
          (fit_shown (Some (record { layer = 0; object = inode_of plan.directory })) seen))

      pub fit_copies : (with_bytes : Bool) (plan : Plan) → AreCopiesOf with_bytes trees overlay node plan
          → files_at after plan.directory.filesystem.count ≡ files_at trees top.directory.filesystem.count
          → IsLastFit Fits plan after
      fit_copies with_bytes plan (is_above _ real is zero directory none) same =
          fit_above plan real is zero directory none same
      fit_copies with_bytes plan (is_below _ path numbered planned) same =
          fit_below with_bytes plan path numbered (planned top split.lowers split.is) same
