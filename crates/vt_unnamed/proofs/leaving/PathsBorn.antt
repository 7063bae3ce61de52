-- The path of a lower layer at which a node was born, where the layer stays as it was along its paths.
use Rattle.std.proofs.Common.{◌≡◌, ◌∙◌, refl, sym, ap, arith, ℕ, zero, suc, Bool, true, false, if◌then◌else◌, List, [], ◌∷◌, ◌++◌, find, Option, Some, None, is_some, inl, inr, ⊎_elim, unwrap_or}
use Rattle.vt_spec.proofs.Common.{Among, OpenLayer, among-from_filter, among-from_flat_map, at_path, found_passes, is_root_path, names_shown, paths_from, shown, without_last}
use Rattle.vt_spec.proofs.Found as places
use Rattle.vt_spec.specs.Machine.World.{first_credentials}
use Rattle.vt_laws_trees.proofs.layers.layers.ShownObjects as listed
use Rattle.vt_location.specs.declared.births.Birth.{Birth}
use Rattle.vt_location.specs.declared.births.Birth.TheVariants.{Below, Here}
use Rattle.vt_location.specs.declared.locations.NodeRef.{NodeRef}
use Rattle.vt_location.specs.declared.numbers.FilesystemId.{FilesystemId}
use Rattle.vt_location.specs.Locations.{number_of}
use Rattle.vt_location.specs.NodeNumbers.{IsSmall}
use Rattle.vt_location.specs.Numbers.{exchanged, inode_number}
use Rattle.vt_location.specs.SameNodes.{same_node}
use Rattle.vt_location.proofs.NumberLemmas.{exchanged_back, exchanged_slot}
use Rattle.vt_births.proofs.Nodes.{same_node-is}
use Rattle.vt_fs.specs.FilesystemsValue.{Filesystems}
use Rattle.vt_overlay.specs.Merge.LayerValue.{layer_of}
use Rattle.vt_overlay.specs.declared.merge.layers.LayerRef.{LayerRef}
use Rattle.vt_overlay.specs.MergedTree.{AreLayers, OverlayValue, longest, node_born, rank_at, slot_at}
use Rattle.vt_overlay.proofs.TreeFound.{IsAt, bounded, open_layers}
use Rattle.vt_upper_overlay.proofs.Shown.{root_shown}
use Rattle.vt_world.proofs.overlays_made.Births.{one_path_numbered}
use Rattle.vt_unnamed.proofs.leaving.LayersAlong.{StaysAlong, alone_alike, born_alike}

-- What is shown is listed, and nothing else
turned : {A : Type 0} (list : List A) (a : A) → listed.Among list a → Among a list
turned [] a m = absurd m
turned (first ∷ list) a m = ⊎_elim (λ e. inl (sym e)) (λ later. inr (turned list a later)) m

among_shown : (layers : List (OpenLayer ℕ)) (depth : ℕ) (base path : List (List ℕ))
    → is_some (shown layers base) ≡ true → Among path (paths_from depth layers base)
    → is_some (shown layers path) ≡ true
among_shown layers zero base path there m =
    ⊎_elim (λ same. ap (λ p. is_some (shown layers p)) same ∙ there) (λ none. absurd none) m
among_shown layers (suc depth) base path there m =
    ⊎_elim (λ same. ap (λ p. is_some (shown layers p)) same ∙ there) (λ later.
    let of = among-from_flat_map (λ name. paths_from depth layers (base ++ (name ∷ []))) (names_shown layers base)
    path later in
    among_shown layers depth (base ++ (of.0 ∷ [])) path
    (among-from_filter (λ name. is_some (shown layers (base ++ (name ∷ [])))) _ of.0 of.1).1 of.2) m

-- a node that was born in another layer
abbrev laid : Birth → Birth
laid Here = Here
laid (Below layer directory rank) = Below 0 directory rank

module _ (lower : LayerRef) (number : FilesystemId) (node : NodeRef) (small : IsSmall node) (place : ℕ) where
  abbrev alone : OverlayValue
  alone = record { number = number; lowers = lower ∷ []; mounter = first_credentials }

  abbrev passes : Filesystems → List (List ℕ) → Bool
  passes trees path = same_node node (node_born trees number place lower path)

  abbrev all : Filesystems → List (List (List ℕ))
  all trees = paths_from (longest trees (lower ∷ [])) (layer_of trees lower ∷ []) []

  abbrev count : ℕ
  count = lower.directory.filesystem.count

  -- its path leads to its slot
  leads_to : (trees : Filesystems) (path : List (List ℕ)) → passes trees path ≡ true
      → at_path (layer_of trees lower) path ≡ Some (inode_number count node.slot)
  leads_to trees path same = by (at_path (layer_of trees lower) path) refl
    where
      slot_is : node.slot ≡ slot_at trees lower path
      slot_is = ap (λ (n : NodeRef). n.slot) (same_node-is node (node_born trees number place lower path) same)

      by : (o : Option ℕ) → at_path (layer_of trees lower) path ≡ o
          → at_path (layer_of trees lower) path ≡ Some (inode_number count node.slot)
      by None e =
          let zero_is = slot_is ∙ ap (λ o. exchanged count (unwrap_or o 0)) e ∙ exchanged_slot count 0 (omega arith) in
          let slot_small = small.slot in
          absurd (let no : ⊥ = omega (arith, zero_is, slot_small) in no)
      by (Some object) e = e ∙ ap Some (sym (exchanged_back count object)
          ∙ ap (exchanged count) (sym (slot_is ∙ ap (λ o. exchanged count (unwrap_or o 0)) e))
          ∙ exchanged_slot count node.slot small.slot)

  -- in the first layer it was born alike
  laid_is : (trees : Filesystems) (path : List (List ℕ))
      → record (node_born trees number place lower path) { birth = laid (node_born trees number place lower path).birth }
      ≡ node_born trees number 0 lower path
  laid_is trees path = λ i. record {
    filesystem = number;
    slot = slot_at trees lower path;
    birth = by (is_root_path path) (slot_at trees lower (without_last path))
        (rank_at trees lower path) i;
  }
    where
      by : (b : Bool) (directory rank : ℕ)
          → laid (if b then Here else Below place directory rank) ≡ (if b then Here else Below 0 directory rank)
      by true directory rank = refl
      by false directory rank = refl

  module _ (trees : Filesystems) (are : AreLayers trees (lower ∷ [])) where
    root_there : is_some (shown (layer_of trees lower ∷ []) []) ≡ true
    root_there = ap is_some (root_shown trees (lower ∷ []) lower refl (are 0 lower refl).directory)

    shown_value : (path : List (List ℕ)) → passes trees path ≡ true
        → is_some (shown (layer_of trees lower ∷ []) path) ≡ true
        → shown (layer_of trees lower ∷ []) path
        ≡ Some (record { layer = 0; object = inode_number count node.slot })
    shown_value path same there = alone_alike trees trees lower itself path (inode_number count node.slot)
        (leads_to trees path same) there
      where
        itself : StaysAlong trees trees lower
        itself = record {
          leads = λ path. refl;
          keeps = λ path. record { there = refl; kind = refl; attr = refl; names = refl; bytes = refl; mark = refl };
        }

    -- two paths of it are one
    one_path_born : (path other : List (List ℕ)) → passes trees path ≡ true → passes trees other ≡ true
        → is_some (shown (layer_of trees lower ∷ []) path) ≡ true
        → is_some (shown (layer_of trees lower ∷ []) other) ≡ true → path ≡ other
    one_path_born path other same same_other there there_other =
        one_path_numbered trees alone are (omega arith) path other n (at path same there refl)
        (at other same_other there_other (ap number_of
        (sym (laid_is trees other)
        ∙ ap (λ (one : NodeRef). record one { birth = laid one.birth })
        (sym (same_node-is node (node_born trees number place lower other) same_other)
        ∙ same_node-is node (node_born trees number place lower path) same)
        ∙ laid_is trees path)))
      where
        n : ℕ
        n = number_of (node_born trees number 0 lower path)

        at : (p : List (List ℕ)) → passes trees p ≡ true → is_some (shown (layer_of trees lower ∷ []) p) ≡ true
            → number_of (node_born trees number 0 lower p) ≡ n → IsAt trees alone are p n
        at p is some numbered = record {
          place = 0;
          object = inode_number count node.slot;
          lower = lower;
          layer = refl;
          is = shown_value p is some;
          leads = leads_to trees p is;
          numbered = numbered;
        }

  -- So it is found at the same path.
  module _ (old new : Filesystems) (are_old : AreLayers old (lower ∷ [])) (are_new : AreLayers new (lower ∷ []))
      (stays : StaysAlong old new lower) where
    pub path_kept : (path : List (List ℕ)) → find (passes old) (all old) ≡ Some path
        → find (passes new) (all new) ≡ Some path
    path_kept path e = found.is ∙ ap Some (one_path_born new are_new found.element path found.passes later_passes
        (among_shown (layer_of new lower ∷ []) (longest new (lower ∷ [])) [] found.element (root_there new are_new)
        (turned (all new) found.element found.among)) (ap is_some shown_new))
      where
        passed : passes old path ≡ true
        passed = found_passes (passes old) (all old) path e

        shown_old : is_some (shown (layer_of old lower ∷ []) path) ≡ true
        shown_old = among_shown (layer_of old lower ∷ []) (longest old (lower ∷ [])) [] path (root_there old are_old)
            (places.found_among (passes old) (all old) path e)

        shown_new : shown (layer_of new lower ∷ []) path
            ≡ Some (record { layer = 0; object = inode_number count node.slot })
        shown_new = alone_alike old new lower stays path (inode_number count node.slot) (leads_to old path passed)
            shown_old

        later_passes : passes new path ≡ true
        later_passes = ap (same_node node) (born_alike old new lower stays number place path) ∙ passed

        found : listed.Found (passes new) (all new)
        found = listed.found_among (passes new) (all new) path (listed.paths_complete (layer_of new lower ∷ [])
            (open_layers new alone are_new) (longest new (lower ∷ [])) [] path
            (record { layer = 0; object = inode_number count node.slot })
            (bounded new alone are_new path (record { layer = 0; object = inode_number count node.slot }) shown_new)
            shown_new) later_passes
