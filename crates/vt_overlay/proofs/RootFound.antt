-- The root of an overlay is at the path without names.
use Rattle.std.proofs.Common.{◌≡◌, ◌≢◌, ◌∙◌, ◌<◌, ◌≤◌, ◌∷◌, [], arith, ap, Bool, false, length, List, None, Option, refl, Some, sym, true, true≢false, ℕ, slice_get, IfSome, if◌then◌else◌, unwrap_or}
use Rattle.vt_spec.proofs.Common.{IsDirectory, Shown, Tree, is_root_path, led, none_is_some, same_Some, shown, slice_get_within, then_some, without_last, common_steps}
use Rattle.vt_laws_trees.proofs.layers.layers.ShownPaths.{one_path}
use Rattle.vt_location.proofs.NumberLemmas.{exchanged_back, exchanged_number, exchanged_slot}
use Rattle.vt_location.specs.Locations.{inode_of, number_of}
use Rattle.vt_location.specs.Numbers.{exchanged, inode_number}
use Rattle.vt_fs.specs.FilesystemsValue.{Filesystems, files_at}
use Rattle.vt_overlay.specs.Merge.LayerValue.{layers_of}
use Rattle.vt_overlay.specs.declared.merge.layers.LayerRef.{LayerRef}
use Rattle.vt_location.specs.Births.{born_in}
use Rattle.vt_overlay.specs.MergedTree.{AreLayers, IsLayer, OverlayValue, birth_at, born_here, directory_path, merged_tree, object_shown, only_of_directory, rank_at, slot_at}
use Rattle.vt_location.specs.declared.births.Birth.{Birth}
use Rattle.vt_location.specs.declared.births.Birth.TheVariants.{Below, Here}
use Rattle.vt_overlay.proofs.BirthsFound.{in_slot, small_birth}
use Rattle.vt_location.proofs.NodeLemmas.{births_apart, number_parts}
use Rattle.vt_overlay.proofs.TreeFound.{IsAt, directory_shown, found_at, found_is, found_is_at, layers, number_of_shown}

is_here : Birth → Bool
is_here Here = true
is_here (Below layer directory rank) = false

-- at the path without names the highest layer's directory is shown
top_shown : (trees : Filesystems) (lowers : List LayerRef) (top : LayerRef) → slice_get lowers 0 ≡ Some top
    → IsDirectory (files_at trees top.directory.filesystem.count).tree (inode_of top.directory)
    → shown (layers_of trees lowers) [] ≡ Some (record { layer = 0; object = inode_of top.directory })
top_shown trees [] top e is = none_is_some top e
top_shown trees (first ∷ lowers) top e is = grind (arith, common_steps)

pub no_name : (path : List (List ℕ)) → is_root_path path ≡ true → path ≡ []
no_name path e = grind (arith, common_steps)

no_first : (lowers : List LayerRef) (place : ℕ) (lower : LayerRef) → slice_get lowers 0 ≡ None
    → slice_get lowers place ≡ Some lower → ⊥
no_first [] place lower none e = none_is_some lower e
no_first (first ∷ lowers) place lower none e = none_is_some first (sym none)

module _ (trees : Filesystems) (overlay : OverlayValue) (are : AreLayers trees overlay.lowers)
    (few : length overlay.lowers ≤ 129) (slot : ℕ) (slot_small : slot < 18446744073709551616) where
  abbrev pub root_number : ℕ
  root_number = number_of (born_here overlay.number slot)

  pub record IsRoot (path : List (List ℕ)) (lower : LayerRef) : Type 0 where
    pub nameless : path ≡ []
    pub in_slot_of_top : slot_at trees lower [] ≡ slot

  pub is_root : (path : List (List ℕ)) (at : IsAt trees overlay are path root_number) → IsRoot path at.lower
  unfolding is_here
  is_root path at =
      let layer_is = are at.place at.lower at.layer in
      let within = slice_get_within overlay.lowers at.place at.lower at.layer in
      let at_slot = in_slot trees at.lower layer_is path at.object at.leads in
      let parts = number_parts (born_in overlay.number.count (birth_at trees at.place at.lower path))
      (born_in overlay.number.count Here) (slot_at trees at.lower path) slot at_slot.0 slot_small at.numbered in
      let birth = births_apart overlay.number.count (birth_at trees at.place at.lower path) Here
      (small_birth trees at.lower layer_is at.place path at.object (omega (arith, within, few)) at.leads) tt parts.0 in
      let named = by (is_root_path path) refl birth in
      record {
        nameless = no_name path named;
        in_slot_of_top = ap (slot_at trees at.lower) (sym (no_name path named)) ∙ parts.1;
      }
    where
      by : (b : Bool) → is_root_path path ≡ b
          → (if b then Here else Below at.place (slot_at trees at.lower (without_last path))
          (rank_at trees at.lower path))
          ≡ Here → is_root_path path ≡ true
      by true e birth = e
      by false e birth = absurd (true≢false (sym (ap is_here birth)))

  -- where it is at no path, it is not shown, and no directory
  nowhere : ((path : List (List ℕ)) → IsAt trees overlay are path root_number → ⊥)
      → found_at trees overlay are root_number ≡ None
  nowhere none = by (found_at trees overlay are root_number) refl
    where
      by : (o : Option (List (List ℕ))) → found_at trees overlay are root_number ≡ o
          → found_at trees overlay are root_number ≡ None
      by None e = e
      by (Some path) e = absurd (none path (found_is_at trees overlay are root_number path e))

  no_way : found_at trees overlay are root_number ≡ None → None ≡ directory_path trees overlay root_number
  no_way none = sym (ap (only_of_directory trees overlay) none)

  no_object : found_at trees overlay are root_number ≡ None → None ≡ object_shown trees overlay root_number
  no_object none = sym (ap (λ o. then_some o (shown (layers trees overlay are))) none)

  nothing : slice_get overlay.lowers 0 ≡ None → found_at trees overlay are root_number ≡ None
  nothing none = nowhere (λ path at. no_first overlay.lowers at.place at.lower none at.layer)

  pub no_top : slice_get overlay.lowers 0 ≡ None → None ≡ directory_path trees overlay root_number
  no_top none = no_way (nothing none)

  pub no_top_object : slice_get overlay.lowers 0 ≡ None → None ≡ object_shown trees overlay root_number
  no_top_object none = no_object (nothing none)

  module _ (top : LayerRef) (layer : slice_get overlay.lowers 0 ≡ Some top) where
    abbrev count : ℕ
    count = top.directory.filesystem.count

    abbrev pub start : ℕ
    start = inode_of top.directory

    abbrev pub files : Tree ℕ
    files = (files_at trees count).tree

    is_layer : IsLayer trees top
    is_layer = are 0 top layer

    top_is_shown : shown (layers trees overlay are) [] ≡ Some (record { layer = 0; object = start })
    top_is_shown = top_shown trees overlay.lowers top layer is_layer.directory

    -- the top layer is the first
    first_layer : (path : List (List ℕ)) (at : IsAt trees overlay are path root_number) → at.lower ≡ top
    first_layer path at =
        let root = is_root path at in
        let place : at.place ≡ 0 =
        ap (λ (s : Shown ℕ). s.layer) (same_Some (record { layer = at.place; object = at.object })
        (record { layer = 0; object = start })
        (sym at.is ∙ ap (shown (layers trees overlay are)) root.nameless ∙ top_is_shown)) in
        same_Some at.lower top (sym at.layer ∙ ap (slice_get overlay.lowers) place ∙ layer)

    elsewhere : (top.directory.slot ≡ slot → ⊥) → found_at trees overlay are root_number ≡ None
    elsewhere other = nowhere (λ path at.
        let root = is_root path at in
        let own : exchanged count start ≡ slot =
        ap (λ (l : LayerRef). slot_at trees l []) (sym (first_layer path at)) ∙ root.in_slot_of_top in
        let number : inode_number count top.directory.slot ≡ inode_number count slot =
        sym (exchanged_back count start) ∙ ap (exchanged count) own ∙ exchanged_slot count slot slot_small in
        other (omega (arith, number)))

    pub other_slot : (top.directory.slot ≡ slot → ⊥) → None ≡ directory_path trees overlay root_number
    other_slot other = no_way (elsewhere other)

    pub other_object : (top.directory.slot ≡ slot → ⊥) → None ≡ object_shown trees overlay root_number
    other_object other = no_object (elsewhere other)

    module _ (same : top.directory.slot ≡ slot) where
      at_root : IsAt trees overlay are [] root_number
      at_root = record {
        place = 0;
        object = start;
        lower = top;
        layer = layer;
        is = top_is_shown;
        leads = refl;
        numbered = ap (inode_number overlay.number.count)
            (ap (λ s. exchanged count (inode_number count s)) same ∙ exchanged_number count slot slot_small);
      }

      found_there : found_at trees overlay are root_number ≡ Some []
      found_there = found_is trees overlay are root_number [] at_root (λ path at. (is_root path at).nameless)

      pub root_object : Some (record { layer = 0; object = start }) ≡ object_shown trees overlay root_number
      root_object = sym (ap (λ o. then_some o (shown (layers trees overlay are))) found_there ∙ top_is_shown)

      root_path : Some [] ≡ directory_path trees overlay root_number
      unfolding at_root
      root_path = cc (found_there, directory_shown trees overlay are root_number [] at_root is_layer.directory)

      pub way_of_root : (way : List (List ℕ)) → led files start way ≡ Some start
          → Some way ≡ directory_path trees overlay root_number
      way_of_root way leads =
          ap Some (one_path files is_layer.tree start way [] start leads refl is_layer.directory) ∙ root_path

      pub way_result : (r : Option (List (List ℕ))) → IfSome r (λ way. led files start way ≡ Some start)
          → (r ≡ None → IsDirectory files start → (path : List (List ℕ)) → led files start path ≢ Some start)
          → r ≡ directory_path trees overlay root_number
      way_result None leads none = absurd (none refl is_layer.directory [] refl)
      way_result (Some way) leads none = way_of_root way leads

-- the root of the tree is the highest layer's directory
pub root_number_is : (trees : Filesystems) (overlay : OverlayValue) (are : AreLayers trees overlay.lowers)
    (top : LayerRef) → slice_get overlay.lowers 0 ≡ Some top
    → exchanged top.directory.filesystem.count (inode_of top.directory) ≡ top.directory.slot
    → number_of (born_here overlay.number top.directory.slot) ≡ (merged_tree trees overlay).root
root_number_is trees overlay are top layer slot =
    sym (ap (λ o. unwrap_or o 0)
    (number_of_shown trees overlay are [] (record { layer = 0; object = inode_of top.directory })
    top (top_shown trees overlay.lowers top layer (are 0 top layer).directory) layer)
    ∙ ap (inode_number overlay.number.count) slot)
