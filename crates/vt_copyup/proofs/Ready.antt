-- What is planned is ready to be made: different nodes without a copy, and room for all.
use Rattle.std.proofs.Common.{All, ◌≡◌, ◌≢◌, ◌∙◌, ◌∷◌, ◌++◌, [], append-nil, append_assoc, arith, ap, Bool, false, length, length-append, List, None, option_map, refl, slice_get, Some, subst, suc, sym, true, unwrap_or, ℕ, if◌then◌else◌}
use Rattle.std.specs.Prelude.{⊤}
use Rattle.vt_spec.proofs.Common.{All-cons, All-nil, Content, IsDirectory, Node, OpenLayer, Tree, Fresh, at_path, common_steps, entry_at, is_directory_node, is_root_path, kind_of, led, none_is_some, same_Some, shown, slice_get-map, then_some}
use Rattle.vt_spec.proofs.NodeChanges.{entry_from}
use Rattle.vt_spec.specs.Machine.Merging.{layer_node}
use Rattle.vt_spec.specs.Rights.{Credentials, is_directory}
use Rattle.vt_spec.specs.Tree.Content.{Directory, Regular, Symlink, Whiteout}
use Rattle.vt_laws_trees.proofs.layers.layers.ShownPaths.{one_path, root_of_longer}
use Rattle.vt_location.specs.declared.births.Birth.{Birth}
use Rattle.vt_location.specs.declared.births.Birth.TheVariants.{Below, Here}
use Rattle.vt_location.specs.declared.locations.NodeRef.{NodeRef}
use Rattle.vt_location.specs.declared.numbers.FilesystemId.{FilesystemId}
use Rattle.vt_location.specs.Locations.{inode_of}
use Rattle.vt_location.specs.Numbers.{exchanged}
use Rattle.vt_location.specs.SameNodes.{same_node}
use Rattle.vt_location.proofs.NumberLemmas.{exchanged_same}
use Rattle.vt_fs.specs.FilesystemsValue.{Filesystems, files_at}
use Rattle.vt_overlay.specs.declared.merge.layers.LayerRef.{LayerRef}
use Rattle.vt_overlay.specs.Merge.LayerValue.{layer_of, layers_of}
use Rattle.vt_overlay.specs.MergedTree.{AreLayers, birth_at, node_born, rank_at, slot_at}
use Rattle.vt_births.proofs.Nodes.{same_node-is}
use Rattle.vt_births.specs.Births.{BirthsValue, copy_of, is_below, is_born_below}
use Rattle.vt_laws_worlds.specs.Seen.CopySteps.{Copy}
use Rattle.vt_copyup.specs.Copied.{copied}
use Rattle.vt_copyup.specs.Planned.{AreBirthsOf, AreCopiesFrom, ArePlannedBy, IsCopyIn, IsNodeAt}
use Rattle.vt_copyup.specs.Plans.{AreApart, AreNested, EntriesAreThere}
use Rattle.vt_copyup.specs.declared.plans.Piece.{Piece}
use Rattle.vt_copyup.proofs.Ways.{nowhere_next}

-- a directory is copied as one
directory-copied : (with_bytes : Bool) (node : Node ℕ) → is_directory (kind_of (copied with_bytes node).content) ≡ true
    → is_directory (kind_of node.content) ≡ true
directory-copied with_bytes node = by with_bytes node.content
  where
    by : (b : Bool) (content : Content ℕ)
        → is_directory (kind_of (copied b (record { attr = node.attr; content = content })).content) ≡ true
        → is_directory (kind_of content) ≡ true
    by b (Directory parent entries opaque) d = refl
    by true (Regular bytes) d = d
    by false (Regular bytes) d = d
    by true (Symlink text) d = d
    by false (Symlink text) d = d
    by true Whiteout d = d
    by false Whiteout d = d

-- in a tree each entry leads to what is there
pub entries_are_there : (tree : Tree ℕ) → Rattle.vt_spec.proofs.Common.IsTree tree → EntriesAreThere tree
entries_are_there tree conditions directory number has =
    let found = entry_from tree conditions directory number has in
    conditions.alive directory found.0 number found.1

place_in : Birth → ℕ
place_in Here = 0
place_in (Below layer directory rank) = layer

module _ (trees : Filesystems) (layers : List LayerRef) (overlay : FilesystemId) where
  -- a copy is that of a node below
  below_there : (path : List (List ℕ)) (name : List ℕ) (node : NodeRef)
      → IsNodeAt trees layers overlay (path ++ name ∷ []) node → is_born_below node ≡ true
  below_there path name node at = ap is_born_below at.is
      ∙ ap (λ b. is_below (if b then Here else Below at.place
      (slot_at trees at.lower (Rattle.vt_spec.proofs.Common.without_last (path ++ name ∷ [])))
      (rank_at trees at.lower (path ++ name ∷ [])))) (root_of_longer path name)

  pub all_below : (w : Bool) (path : List (List ℕ)) (pieces : List Piece) → AreCopiesFrom w trees layers overlay path pieces
      → All (λ (piece : Piece). is_born_below piece.copy.born ≡ true) pieces
  all_below w path [] copies = All-nil (λ (piece : Piece). is_born_below piece.copy.born ≡ true)
  all_below w path (piece ∷ rest) copies = All-cons (λ (piece : Piece). is_born_below piece.copy.born ≡ true) piece rest
      (below_there path piece.copy.name.items piece.copy.born copies.0.born)
      (all_below w (path ++ piece.copy.name.items ∷ []) rest copies.1)

  -- it has no copy yet
  pub all_new : (w : Bool) (births : BirthsValue) → AreBirthsOf trees layers overlay births → (path : List (List ℕ))
      (pieces : List Piece) → AreCopiesFrom w trees layers overlay path pieces
      → All (λ (piece : Piece). copy_of births piece.copy.born ≡ None) pieces
  all_new w births of path [] copies = All-nil (λ (piece : Piece). copy_of births piece.copy.born ≡ None)
  all_new w births of path (piece ∷ rest) copies =
      All-cons (λ (piece : Piece). copy_of births piece.copy.born ≡ None) piece rest
      (of.new (path ++ piece.copy.name.items ∷ []) piece.copy.born copies.0.born)
      (all_new w births of (path ++ piece.copy.name.items ∷ []) rest copies.1)

  -- a node that is shown in a directory is at one path
  module _ (are : AreLayers trees layers) where
    pub one_place : (path other : List (List ℕ)) (name last : List ℕ) (one two : NodeRef)
        (at : IsNodeAt trees layers overlay (path ++ name ∷ []) one)
        (by : IsNodeAt trees layers overlay (other ++ last ∷ []) two)
        → IsDirectory (layer_of trees at.lower).tree at.object → one ≡ two → path ++ name ∷ [] ≡ other ++ last ∷ []
    unfolding place_in
    one_place path other name last one two at by directory same =
        let born : node_born trees overlay at.place at.lower (path ++ name ∷ [])
        ≡ node_born trees overlay by.place by.lower (other ++ last ∷ []) = sym at.is ∙ same ∙ by.is in
        let here : place_in (birth_at trees at.place at.lower (path ++ name ∷ [])) ≡ at.place =
        ap (λ b. place_in (if b then Here else Below at.place
        (slot_at trees at.lower (Rattle.vt_spec.proofs.Common.without_last (path ++ name ∷ [])))
        (rank_at trees at.lower (path ++ name ∷ [])))) (root_of_longer path name) in
        let there : place_in (birth_at trees by.place by.lower (other ++ last ∷ [])) ≡ by.place =
        ap (λ b. place_in (if b then Here else Below by.place
        (slot_at trees by.lower (Rattle.vt_spec.proofs.Common.without_last (other ++ last ∷ [])))
        (rank_at trees by.lower (other ++ last ∷ [])))) (root_of_longer other last) in
        let place : at.place ≡ by.place = sym here ∙ ap (λ (n : NodeRef). place_in n.birth) born ∙ there in
        let layer : at.lower ≡ by.lower =
        same_Some at.lower by.lower (sym at.layer ∙ ap (λ n. slice_get layers (suc n)) place ∙ by.layer) in
        let f = at.lower.directory.filesystem.count in
        let leads : at_path (layer_of trees at.lower) (other ++ last ∷ []) ≡ Some by.object =
        ap (λ l. at_path (layer_of trees l) (other ++ last ∷ [])) layer ∙ by.leads in
        let slots : exchanged f at.object ≡ exchanged f by.object =
        ap (λ o. exchanged f (unwrap_or o 0)) (sym at.leads) ∙ ap (λ (n : NodeRef). n.slot) born
        ∙ ap (λ l. slot_at trees l (other ++ last ∷ [])) (sym layer)
        ∙ ap (λ o. exchanged f (unwrap_or o 0)) leads in
        let object = exchanged_same f at.object by.object slots in
        one_path (layer_of trees at.lower).tree (are (suc at.place) at.lower at.layer).tree
        (inode_of at.lower.directory) (path ++ name ∷ []) (other ++ last ∷ []) at.object at.leads
        (leads ∙ ap Some (sym object)) directory

    -- longer paths are others
    longer_differs : (path more : List (List ℕ)) (word : List ℕ) → path ≢ path ++ word ∷ more
    longer_differs path more word same =
        let longer = ap length same ∙ length-append path (word ∷ more) in absurd (let no : ⊥ = omega (arith, longer) in no)

    -- the inode of a node that is shown
    pub inode_is : (w : Bool) (path : List (List ℕ)) (copy : Rattle.vt_copyup.specs.declared.plans.PlannedCopy.PlannedCopy)
        → (in_path : IsCopyIn w trees layers overlay path copy)
        → is_directory (kind_of copy.node.content) ≡ true
        → IsDirectory (layer_of trees in_path.born.lower).tree in_path.born.object
    inode_is w path copy in_path directory =
        let stack = layers_of trees layers in
        let at = in_path.born in
        let node : then_some (shown stack (path ++ copy.name.items ∷ [])) (layer_node stack)
        ≡ (layer_of trees at.lower).tree.node at.object =
        ap (λ o. then_some o (layer_node stack)) at.shows
        ∙ ap (λ o. then_some o (λ (layer : OpenLayer ℕ). layer.tree.node at.object))
        (slice_get-map (layer_of trees) layers (suc at.place) ∙ ap (option_map (layer_of trees)) at.layer) in
        ap is_directory_node (sym node ∙ in_path.shows)
        ∙ directory-copied w in_path.inode (subst (λ (n : Node ℕ). is_directory (kind_of n.content) ≡ true) in_path.node
        directory)

    -- the first of nested copies differs from all that follow
    module _ (w : Bool) (path : List (List ℕ)) (piece : Piece) (copy : IsCopyIn w trees layers overlay path piece.copy)
        (directory : is_directory (kind_of piece.copy.node.content) ≡ true) where
      others : (more : List (List ℕ)) (rest : List Piece)
          → AreCopiesFrom w trees layers overlay ((path ++ piece.copy.name.items ∷ []) ++ more) rest
          → All (λ (other : Piece). same_node piece.copy.born other.copy.born ≡ false) rest
      others more [] copies = All-nil (λ (other : Piece). same_node piece.copy.born other.copy.born ≡ false)
      others more (other ∷ rest) copies =
          All-cons (λ (other : Piece). same_node piece.copy.born other.copy.born ≡ false) other rest
          (differs (same_node piece.copy.born other.copy.born) refl)
          (others (more ++ other.copy.name.items ∷ []) rest
          (subst (λ p. AreCopiesFrom w trees layers overlay p rest)
          (append_assoc (path ++ piece.copy.name.items ∷ []) more (other.copy.name.items ∷ [])) copies.1))
        where
          longer : path ++ piece.copy.name.items ∷ []
              ≢ ((path ++ piece.copy.name.items ∷ []) ++ more) ++ other.copy.name.items ∷ []
          longer same =
              let one = length-append (path ++ piece.copy.name.items ∷ []) more in
              let two = length-append ((path ++ piece.copy.name.items ∷ []) ++ more) (other.copy.name.items ∷ []) in
              let all = ap length same in omega (arith, one, two, all)

          differs : (b : Bool) → same_node piece.copy.born other.copy.born ≡ b
              → same_node piece.copy.born other.copy.born ≡ false
          differs false e = e
          differs true e = absurd (longer (one_place path ((path ++ piece.copy.name.items ∷ []) ++ more)
              piece.copy.name.items other.copy.name.items piece.copy.born other.copy.born copy.born copies.0.born
              (inode_is w path piece.copy copy directory) (same_node-is piece.copy.born other.copy.born e)))

    pub all_apart : (w : Bool) (path : List (List ℕ)) (pieces : List Piece) → AreCopiesFrom w trees layers overlay path pieces
        → AreNested pieces → AreApart pieces
    all_apart w path [] copies nested = tt
    all_apart w path (piece ∷ []) copies nested =
        (All-nil (λ (other : Piece). same_node piece.copy.born other.copy.born ≡ false), tt)
    all_apart w path (piece ∷ next ∷ rest) copies nested = (
      others w path piece copies.0 nested.0 [] (next ∷ rest)
          (subst (λ p. AreCopiesFrom w trees layers overlay p (next ∷ rest))
          (sym (append-nil (path ++ piece.copy.name.items ∷ []))) copies.1),
      all_apart w (path ++ piece.copy.name.items ∷ []) (next ∷ rest) copies.1 nested.2,
    )

-- The definitions plan these copies: the upper layer leads nowhere at the first, so at none.
module _ (fresh : Fresh ℕ) (mounter : Credentials) (trees : Filesystems) (upper : LayerRef) (lowers : List LayerRef)
    (overlay : FilesystemId) where
  abbrev tree : Tree ℕ
  tree = (files_at trees upper.directory.filesystem.count).tree

  abbrev pub FirstLeadsNowhere : List (List ℕ) → List Piece → Type 0
  FirstLeadsNowhere path [] = ⊤
  FirstLeadsNowhere path (piece ∷ rest) =
      led tree (inode_of upper.directory) (path ++ piece.copy.name.items ∷ []) ≡ None

  next_leads_nowhere : (path : List (List ℕ)) (rest : List Piece) → led tree (inode_of upper.directory) path ≡ None
      → FirstLeadsNowhere path rest
  next_leads_nowhere path [] none = tt
  next_leads_nowhere path (piece ∷ rest) none =
      nowhere_next tree (inode_of upper.directory) path piece.copy.name.items none

  pub are_planned : (w : Bool) (path : List (List ℕ)) (pieces : List Piece)
      → AreCopiesFrom w trees (upper ∷ lowers) overlay path pieces → FirstLeadsNowhere path pieces
      → ArePlannedBy w fresh mounter trees upper lowers path pieces
  are_planned w path [] copies none = record { copies = []; planned = tt; names = refl; nodes = refl }
  are_planned w path (piece ∷ rest) copies none =
      let longer = path ++ piece.copy.name.items ∷ [] in
      let after = are_planned w longer rest copies.1 (next_leads_nowhere longer rest none) in
      let copy : Copy = record { name = piece.copy.name.items; node = copies.0.inode; number = fresh (length longer) } in
      record {
        copies = copy ∷ after.copies;
        planned = (none, copies.0.shows, refl, after.planned);
        names = ap (λ l. piece.copy.name.items ∷ l) after.names;
        nodes = (λ i. sym copies.0.node i ∷ after.nodes i);
      }
