-- What is kept without a name finds the real object that it was shown with.
use Rattle.std.proofs.Common.{◌≡◌, ◌≢◌, ◌∙◌, ◌<◌, ◌∷◌, [], ap, arith, Bool, false, find, is_some, List, None, not, nat_eq, option_map, Option, refl, Some, subst, suc, sym, true, true≢false, unwrap_or, zero, ⊎_elim, ℕ, if◌then◌else◌}
use Rattle.vt_spec.proofs.Common.{Content, Directory, Lower, Node, OpenLayer, Real, Regular, Symlink, Tree, Upper, Whiteout, World, at_path, common_steps, found_passes, is_kind, is_kind_in, is_root_path, kind_of, none_is_some, paths_from, real_object, real_shown, same_Some, shown, slice_get-map, then_some, when, without_last}
use Rattle.vt_spec.specs.declared.attributes.Kind.TheVariants.{White}
use Rattle.vt_laws_trees.proofs.layers.layers.ShownAtPath.{computed}
use Rattle.vt_laws_trees.proofs.layers.layers.ShownObjects.{Among, paths_complete}
use Rattle.vt_births.proofs.Nodes.{same_node-is}
use Rattle.vt_fs.specs.FilesystemsValue.{Filesystems, files_at}
use Rattle.vt_upper.proofs.FitCopies.{shown_first}
use Rattle.vt_upper.proofs.LastNames.{directory_in, one_born, rank_in}
use Rattle.vt_location.proofs.NodeLemmas.{same_node-itself}
use Rattle.vt_location.proofs.NumberLemmas.{exchanged_back, exchanged_slot}
use Rattle.vt_location.specs.Births.{IsSmallBirth}
use Rattle.vt_location.specs.declared.births.Birth.{Birth}
use Rattle.vt_location.specs.declared.births.Birth.TheVariants.{Below, Here}
use Rattle.vt_location.specs.declared.locations.NodeRef.{NodeRef}
use Rattle.vt_location.specs.Locations.{number_of}
use Rattle.vt_location.specs.NodeNumbers.{IsSmall}
use Rattle.vt_location.specs.Numbers.{exchanged, inode_number}
use Rattle.vt_location.specs.SameNodes.{same_node}
use Rattle.vt_overlay.proofs.BirthsFound.{Birthplace, IsBorn}
use Rattle.vt_overlay.proofs.TreeFound as plain
use Rattle.vt_overlay.specs.declared.merge.layers.LayerRef.{LayerRef}
use Rattle.vt_overlay.specs.Merge.LayerValue.{layer_of, layers_of}
use Rattle.vt_overlay.specs.MergedTree.{AreLayers, IsLayer, OverlayValue, layer_seen, longest, node_born, plain_world, rank_at, slot_at}
use Rattle.vt_upper_overlay.proofs.Shown.{IsAbove, IsBelow, IsLooked, birth_below, layers_are, no_slot_below, shown_node, slot_is_above}
use Rattle.vt_upper_overlay.specs.MergedAbove.{born_object, count_of, number_at, object_by, object_kept, path_born, upper_seen}
use Rattle.vt_upper_overlay.specs.UpperValue.{UpperOverlayValue}

-- what is found where something passes
not_missed : {A : Type 0} (test : A → Bool) (list : List A) (a : A) → test a ≡ true → Among list a
    → find test list ≡ None → ⊥
not_missed test [] a passes among e = among
not_missed {A = A} test (first ∷ list) a passes among e =
    grind (arith, common_steps, test first, not_missed test list a passes)

abbrev is_born_below : Birth → Bool
is_born_below Here = false
is_born_below (Below layer directory rank) = true

-- no whiteout
not_white : (o : Option (Node ℕ)) → ((inode : Node ℕ) → o ≡ Some inode → inode.content ≢ Whiteout)
    → is_kind_in White o ≡ false
not_white None other = refl
not_white (Some node) other = by node.content (other node refl)
  where
    by : (content : Content ℕ) → content ≢ Whiteout → is_kind White (kind_of content) ≡ false
    by (Directory parent entries opaque) other = refl
    by (Regular bytes) other = refl
    by (Symlink text) other = refl
    by Whiteout other = absurd (other refl)

module _ (trees : Filesystems) (overlay : UpperOverlayValue) (looked : IsLooked trees overlay) (node : NodeRef)
    (node_small : IsSmall node) where
  abbrev f : ℕ
  f = looked.top.directory.filesystem.count

  abbrev world : World ℕ
  world = plain_world trees

  abbrev layers : List (OpenLayer ℕ)
  layers = layers_of trees overlay.layers.lowers

  abbrev real_at_path : List (List ℕ) → Option (Real ℕ)
  real_at_path path = real_shown nat_eq world (upper_seen overlay) path

  has_upper : is_some (upper_seen overlay).upper ≡ true
  has_upper = ap (λ o. is_some (option_map layer_seen o)) looked.first

  real_above : (path : List (List ℕ)) (object : ℕ) → shown layers path ≡ Some (record { layer = 0; object = object })
      → real_at_path path ≡ Some (Upper object)
  real_above path object e = grind (arith, common_steps, layers_are trees overlay looked, has_upper, real_object)

  real_below : (path : List (List ℕ)) (layer object : ℕ)
      → shown layers path ≡ Some (record { layer = suc layer; object = object })
      → real_at_path path ≡ Some (Lower layer path)
  real_below path layer object e = grind (arith, common_steps, layers_are trees overlay looked, has_upper, real_object)

  kept_above : (path : List (List ℕ)) → IsAbove trees overlay looked path node
      → object_kept trees overlay node ≡ real_at_path path
  kept_above path a = ap (object_by trees overlay node) (slot_is_above trees overlay looked path node a)
      ∙ ap (λ o. Some (Upper (inode_number (count_of o) (exchanged f a.object)))) looked.first
      ∙ ap (λ n. Some (Upper n)) (sym (exchanged_slot f (exchanged f a.object) a.slot_small)
      ∙ exchanged_back f a.object)
      ∙ sym (real_above path a.object a.is)

  -- In the layer in which it was born
  module _ (path : List (List ℕ)) (b : IsBelow trees overlay looked path node) where
    abbrev lower : LayerRef
    lower = b.lower

    abbrev g : ℕ
    g = b.lower.directory.filesystem.count

    abbrev files : Tree ℕ
    files = (files_at trees g).tree

    abbrev born_at : List (List ℕ) → NodeRef
    born_at other = node_born trees overlay.layers.number b.layer b.lower other

    is_layer : IsLayer trees b.lower
    is_layer = looked.stands.layers (suc b.layer) b.lower b.at

    its_birth : node.birth ≡ Below b.layer (slot_at trees b.lower (without_last path)) (rank_at trees b.lower path)
    its_birth = birth_below trees overlay looked path node b

    -- the layer alone
    abbrev alone : OverlayValue
    alone = record {
      number = overlay.layers.number;
      lowers = b.lower ∷ [];
      mounter = overlay.layers.mounter;
    }

    are_alone : AreLayers trees (b.lower ∷ [])
    are_alone zero layer e = subst (IsLayer trees) (same_Some b.lower layer e) is_layer
    are_alone (suc place) layer e = none_is_some layer e

    small : (slot_at trees b.lower (without_last path) < 18446744073709551616) × (b.layer < 18446744073709551616)
    small = subst IsSmallBirth its_birth node_small.birth

    abbrev birthplace : Birthplace trees alone
    birthplace = record {
      are = are_alone;
      few = omega arith;
      place = 0;
      directory = slot_at trees b.lower (without_last path);
      rank = rank_at trees b.lower path;
      slot = node.slot;
      place_small = omega arith;
      directory_small = small.0;
      slot_small = node_small.slot;
    }

    object_is : b.object ≡ exchanged g node.slot
    object_is = sym (exchanged_back g b.object)
        ∙ ap (exchanged g) (sym (ap (λ (n : NodeRef). n.slot) (sym b.node_is)
        ∙ ap (λ o. exchanged g (unwrap_or o 0)) b.leads))

    no_whiteout : is_kind_in White (files.node (exchanged g node.slot)) ≡ false
    no_whiteout = not_white (files.node (exchanged g node.slot)) (λ inode e.
        ((computed layers path (record { layer = suc b.layer; object = b.object })).0 b.is).no_whiteout inode (
          layer_of trees b.lower,
          slice_get-map (layer_of trees) overlay.layers.lowers (suc b.layer) ∙ ap (option_map (layer_of trees)) b.at,
          ap (λ o. then_some o files.node) b.leads ∙ ap files.node object_is ∙ e,
        ))

    shown_alone : (other : List (List ℕ)) → at_path (layer_of trees b.lower) other ≡ Some (exchanged g node.slot)
        → shown (layers_of trees (b.lower ∷ [])) other ≡ Some (record { layer = 0; object = exchanged g node.slot })
    shown_alone other leads =
        shown_first trees (b.lower ∷ []) b.lower refl other (exchanged g node.slot) leads
        ∙ ap (λ w. when (not w) (record { layer = 0; object = exchanged g node.slot })) no_whiteout

    -- a path at which it would be born leads to its inode, and has a name
    leads_born : (other : List (List ℕ)) → born_at other ≡ node
        → at_path (layer_of trees b.lower) other ≡ Some (exchanged g node.slot)
    leads_born other is = by (at_path (layer_of trees b.lower) other) refl
      where
        slot_is : node.slot ≡ slot_at trees b.lower other
        slot_is = ap (λ (n : NodeRef). n.slot) (sym is)

        by : (o : Option ℕ) → at_path (layer_of trees b.lower) other ≡ o
            → at_path (layer_of trees b.lower) other ≡ Some (exchanged g node.slot)
        by None e =
            let zero_is = slot_is ∙ ap (λ o. exchanged g (unwrap_or o 0)) e ∙ exchanged_slot g 0 (omega arith) in
            let slot_small = node_small.slot in
            absurd (let no : ⊥ = omega (arith, zero_is, slot_small) in no)
        by (Some object) e = e ∙ ap Some (sym (exchanged_back g object)
            ∙ ap (exchanged g) (sym (slot_is ∙ ap (λ o. exchanged g (unwrap_or o 0)) e)))

    has_birth : (other : List (List ℕ)) → born_at other ≡ node → (r : Bool) → is_root_path other ≡ r
        → (is_root_path other ≡ false)
        × (Below b.layer (slot_at trees b.lower (without_last other)) (rank_at trees b.lower other)
        ≡ Below b.layer (slot_at trees b.lower (without_last path)) (rank_at trees b.lower path))
    has_birth other is true r = absurd (true≢false (sym (ap is_born_below (
        sym (ap (λ r. if r then Here
        else Below b.layer (slot_at trees b.lower (without_last other)) (rank_at trees b.lower other)) r)
        ∙ ap (λ (n : NodeRef). n.birth) is ∙ its_birth))))
    has_birth other is false r = (
      r,
      sym (ap (λ r. if r then Here
          else Below b.layer (slot_at trees b.lower (without_last other)) (rank_at trees b.lower other)) r)
          ∙ ap (λ (n : NodeRef). n.birth) is ∙ its_birth,
    )

    born : (other : List (List ℕ)) → born_at other ≡ node → IsBorn trees alone birthplace other b.lower
    born other is =
        let leads = leads_born other is in
        let birth = has_birth other is (is_root_path other) refl in
        record {
          layer = refl;
          leads = leads;
          named = birth.0;
          above = ap directory_in birth.1;
          ranked = ap rank_in birth.1;
          shown_there = shown_alone other leads;
        }

    abbrev paths : List (List (List ℕ))
    paths = paths_from (longest trees (b.lower ∷ [])) (layer_of trees b.lower ∷ []) []

    its_path : path_born trees overlay node b.layer b.lower ≡ Some path
    its_path = by (find (λ other. same_node node (born_at other)) paths) refl
      where
        among : Among paths path
        among =
            let is = shown_alone path (leads_born path b.node_is) in
            paths_complete (layers_of trees (b.lower ∷ [])) (plain.open_layers trees alone are_alone)
            (longest trees (b.lower ∷ [])) [] path (record { layer = 0; object = exchanged g node.slot })
            (plain.bounded trees alone are_alone path (record { layer = 0; object = exchanged g node.slot }) is) is

        by : (o : Option (List (List ℕ))) → find (λ other. same_node node (born_at other)) paths ≡ o
            → path_born trees overlay node b.layer b.lower ≡ Some path
        by None e = absurd (not_missed (λ other. same_node node (born_at other)) paths path
            (ap (same_node node) b.node_is ∙ same_node-itself node) among e)
        by (Some other) e =
            let is = sym (same_node-is node (born_at other)
            (found_passes (λ other. same_node node (born_at other)) paths other e)) in
            e ∙ ap Some (one_born trees alone birthplace b.lower refl path other (born path b.node_is) (born other is))

    kept_below : object_kept trees overlay node ≡ real_at_path path
    kept_below = ap (object_by trees overlay node) (no_slot_below trees overlay looked path node b)
        ∙ ap (born_object trees overlay node) its_birth
        ∙ ap (λ o. then_some o (λ lower. option_map (λ path. Lower b.layer path)
        (path_born trees overlay node b.layer lower))) b.at
        ∙ ap (option_map (λ path. Lower b.layer path)) its_path
        ∙ sym (real_below path b.layer b.object b.is)

  -- what is shown at a path is found, should it be kept
  pub kept_so : (path : List (List ℕ)) → number_at trees overlay path ≡ Some (number_of node)
      → object_kept trees overlay node ≡ real_at_path path
  kept_so path numbered = ⊎_elim (kept_above path) (kept_below path)
      (shown_node trees overlay looked path node node_small numbered)
