-- A directory that was born below is at one path of its layer, if at all.
use Rattle.std.proofs.Common.{◌≡◌, ◌≢◌, ◌∙◌, ◌<◌, ◌≤◌, ◌∷◌, ◌++◌, [], arith, ap, Bool, eq-eqb, eqb-true, false, length, List, nat_eq, None, Option, option_map, refl, Some, subst, sym, true, true≢false, ℕ, slice_get, if◌then◌else◌, is_some, unwrap_or}
use Rattle.vt_spec.proofs.Common.{IsDirectory, Node, Shown, Tree, entry_at, found, holds_of, is_directory_node, is_root_path, led, node_at_path, node_in, none_is_some, parent_in, same_Some, shown, slice_get_within, then_some, without_last, common_steps}
use Rattle.vt_laws_trees.proofs.layers.layers.ShownDirectories.{last_of, led_is_there}
use Rattle.vt_laws_trees.proofs.layers.layers.ShownNames.{last_name}
use Rattle.vt_laws_trees.proofs.layers.layers.ShownPaths.{not_empty, one_path}
use Rattle.vt_laws_trees.proofs.layers.layers.UpperShown.{without_last_of_longer}
use Rattle.vt_location.proofs.NumberLemmas.{exchanged_back, exchanged_number, exchanged_slot, slot_of}
use Rattle.vt_location.specs.declared.locations.InodeRef.{InodeRef}
use Rattle.vt_location.specs.Locations.{inode_of, number_of}
use Rattle.vt_location.specs.Numbers.{exchanged, is_inode_of}
use Rattle.vt_fs.specs.FilesystemsValue.{Filesystems, files_at}
use Rattle.vt_overlay.specs.Merge.LayerValue.{layer_of}
use Rattle.vt_overlay.specs.declared.merge.layers.LayerRef.{LayerRef}
use Rattle.vt_location.specs.Births.{IsSmallBirth, born_in}
use Rattle.vt_overlay.specs.MergedTree.{AreLayers, IsLayer, OverlayValue, birth_at, born_below, directory_path, node_born, only_of_directory, rank_at, slot_at}
use Rattle.vt_location.specs.declared.births.Birth.{Birth}
use Rattle.vt_location.specs.declared.births.Birth.TheVariants.{Below, Here}
use Rattle.vt_location.proofs.NodeLemmas.{births_apart, number_parts}
use Rattle.vt_overlay.proofs.TreeFound.{IsAt, found_at, found_is_at, found_is, in_layer, layers, no_directory_shown, directory_shown}

-- what a birth tells
place_in : Birth → ℕ
place_in Here = 0
place_in (Below layer directory rank) = layer

directory_in : Birth → ℕ
directory_in Here = 0
directory_in (Below layer directory rank) = directory

rank_in : Birth → ℕ
rank_in Here = 0
rank_in (Below layer directory rank) = rank

is_below : Birth → Bool
is_below Here = false
is_below (Below layer directory rank) = true

no_rank : (b : Bool) (rank : ℕ) → b ≡ true → (if b then 0 else rank) ≡ 0
no_rank b rank t = cc

module _ (trees : Filesystems) (lower : LayerRef) (is : IsLayer trees lower) where
  abbrev f : ℕ
  f = lower.directory.filesystem.count

  abbrev tree : Tree ℕ
  tree = (files_at trees f).tree

  abbrev top : ℕ
  top = inode_of lower.directory

  -- what names lead to has a slot
  pub in_slot : (path : List (List ℕ)) (object : ℕ) → led tree top path ≡ Some object
      → (slot_at trees lower path < 18446744073709551616) × (slot_at trees lower path ≡ exchanged f object)
  in_slot path object leads = by (is_inode_of f object) refl
    where
      at : slot_at trees lower path ≡ exchanged f object
      at = ap (λ o. exchanged f (unwrap_or o 0)) leads

      by : (b : Bool) → is_inode_of f object ≡ b
          → (slot_at trees lower path < 18446744073709551616) × (slot_at trees lower path ≡ exchanged f object)
      by true e =
          let slot = slot_of f object e in (
            subst (λ n. n < 18446744073709551616)
                (sym (at ∙ ap (exchanged f) slot.2 ∙ exchanged_number f slot.0 slot.1)) slot.1,
            at,
          )
      by false e = absurd (true≢false (sym (led_is_there (layer_of trees lower) is.tree is.directory path object leads)
          ∙ ap (λ o. is_some (node_in o)) (is.own_numbers object e)))

  -- a path with a last name
  pub record HasLast (path : List (List ℕ)) (object : ℕ) : Type 0 where
    pub directory : ℕ
    pub name : List ℕ
    pub leads : led tree top (without_last path) ≡ Some directory
    pub entry : entry_at tree directory name ≡ Some object
    pub split : without_last path ++ name ∷ [] ≡ path

  pub has_last : (path : List (List ℕ)) (object : ℕ) → is_root_path path ≡ false → led tree top path ≡ Some object
      → HasLast path object
  has_last [] object root leads = absurd (true≢false root)
  has_last (first ∷ rest) object root leads =
      let last = last_of (first ∷ rest) (not_empty first rest) in
      let step = found (λ directory. entry_at tree directory last.1) (led tree top last.0) object (sym (last_name
      tree top last.0 last.1) ∙ ap (led tree top) last.2 ∙ leads) in
      let front : without_last (first ∷ rest) ≡ last.0 = ap without_last (sym last.2) ∙ without_last_of_longer last.0
      last.1 in
      grind (arith, common_steps, step.0, last.1, step.1, step.2, last.2)

  -- the slot of its directory
  pub directory_slot : (path : List (List ℕ)) (object : ℕ) (last : HasLast path object) → IsDirectory tree object
      → slot_at trees lower (without_last path) ≡ exchanged f (parent_in object (tree.node object))
  directory_slot path object last directory = ap (λ o. exchanged f (unwrap_or o 0)) last.leads
      ∙ ap (exchanged f) (sym (is.tree.one_parent last.directory last.name object last.entry directory))

  pub small_birth : (place : ℕ) (path : List (List ℕ)) (object : ℕ) → place < 18446744073709551616
      → led tree top path ≡ Some object → IsSmallBirth (birth_at trees place lower path)
  small_birth place path object small leads = by (is_root_path path) refl
    where
      by : (b : Bool) → is_root_path path ≡ b → IsSmallBirth (if b then Here
          else Below place (slot_at trees lower (without_last path)) (rank_at trees lower path))
      by true e = tt
      by false e =
          let last = has_last path object e leads in
          ((in_slot (without_last path) last.directory last.leads).0, small)

-- the birth of a node below a layer
pub record Birthplace (trees : Filesystems) (overlay : OverlayValue) : Type 0 where
  pub are : AreLayers trees overlay.lowers
  pub few : length overlay.lowers ≤ 129
  pub place : ℕ
  pub directory : ℕ
  pub rank : ℕ
  pub slot : ℕ
  pub place_small : place < 18446744073709551616
  pub directory_small : directory < 18446744073709551616
  pub slot_small : slot < 18446744073709551616

module _ (trees : Filesystems) (overlay : OverlayValue) (b : Birthplace trees overlay) where
  abbrev are : AreLayers trees overlay.lowers
  are = b.are

  abbrev place : ℕ
  place = b.place

  abbrev directory : ℕ
  directory = b.directory

  abbrev rank : ℕ
  rank = b.rank

  abbrev slot : ℕ
  slot = b.slot

  abbrev pub node_number : ℕ
  node_number = number_of (born_below overlay.number place directory rank slot)

  -- a path at which it is
  pub record IsBorn (path : List (List ℕ)) (lower : LayerRef) : Type 0 where
    pub layer : slice_get overlay.lowers place ≡ Some lower
    pub leads : led (files_at trees lower.directory.filesystem.count).tree (inode_of lower.directory) path
        ≡ Some (exchanged lower.directory.filesystem.count slot)
    pub named : is_root_path path ≡ false
    pub above : slot_at trees lower (without_last path) ≡ directory
    pub ranked : rank_at trees lower path ≡ rank
    pub shown_there : shown (layers trees overlay are) path
        ≡ Some (record { layer = place; object = exchanged lower.directory.filesystem.count slot })

  pub is_born : (path : List (List ℕ)) (at : IsAt trees overlay are path node_number) → IsBorn path at.lower
  unfolding place_in directory_in rank_in is_below
  is_born path at =
      let layer_is = are at.place at.lower at.layer in
      let within = slice_get_within overlay.lowers at.place at.lower at.layer in
      let at_slot = in_slot trees at.lower layer_is path at.object at.leads in
      let parts = number_parts (born_in overlay.number.count (birth_at trees at.place at.lower path))
      (born_in overlay.number.count (Below place directory rank)) (slot_at trees at.lower path) slot at_slot.0
      b.slot_small
      at.numbered in
      let birth = births_apart overlay.number.count (birth_at trees at.place at.lower path) (Below place directory rank)
      (small_birth trees at.lower layer_is at.place path at.object (let few = b.few in omega (arith, within, few))
      at.leads)
      (b.directory_small, b.place_small) parts.0 in
      let f = at.lower.directory.filesystem.count in
      let object : at.object ≡ exchanged f slot =
      sym (exchanged_back f at.object) ∙ ap (exchanged f) (sym at_slot.1 ∙ parts.1) in
      by (is_root_path path) refl object at birth
    where
      by : (b : Bool) → is_root_path path ≡ b → at.object ≡ exchanged at.lower.directory.filesystem.count slot
          → (is : IsAt trees overlay are path node_number)
          → (if b then Here else Below at.place (slot_at trees at.lower (without_last path))
          (rank_at trees at.lower path))
          ≡ Below place directory rank → IsBorn path at.lower
      by true e object is birth = absurd (true≢false (sym (ap is_below birth)))
      by false e object is birth = grind (arith, common_steps)

  -- where it is at no path of a directory, it is no directory
  pub no_directory : ((path : List (List ℕ)) (lower : LayerRef) → IsBorn path lower
      → IsDirectory (files_at trees lower.directory.filesystem.count).tree
      (exchanged lower.directory.filesystem.count slot) → ⊥) → None ≡ directory_path trees overlay node_number
  no_directory none = by (found_at trees overlay are node_number) refl
    where
      by : (o : Option (List (List ℕ))) → found_at trees overlay are node_number ≡ o
          → None ≡ directory_path trees overlay node_number
      by None e = sym (ap (only_of_directory trees overlay) e)
      by (Some path) e =
          let at = found_is_at trees overlay are node_number path e in
          let born = is_born path at in
          let tree = (files_at trees at.lower.directory.filesystem.count).tree in
          cc (no_directory_shown trees overlay are node_number path at (λ directory. none path at.lower born (sym (ap
          (λ o. is_directory_node (then_some o tree.node)) born.leads) ∙ directory)))

  pub no_layer : slice_get overlay.lowers place ≡ None → None ≡ directory_path trees overlay node_number
  no_layer none = no_directory (λ path lower born directory. none_is_some lower (sym none ∙ born.layer))

  module _ (lower : LayerRef) (layer : slice_get overlay.lowers place ≡ Some lower) where
    abbrev pub count : ℕ
    count = lower.directory.filesystem.count

    abbrev pub files : Tree ℕ
    files = (files_at trees count).tree

    abbrev pub start : ℕ
    start = inode_of lower.directory

    abbrev pub object : ℕ
    object = exchanged count slot

    is_layer : IsLayer trees lower
    is_layer = are place lower layer

    same_lower : (other : LayerRef) → slice_get overlay.lowers place ≡ Some other → other ≡ lower
    same_lower other e = same_Some other lower (sym e ∙ layer)

    -- where it is at no path of this layer, it is no directory
    none_here : ((path : List (List ℕ)) → IsBorn path lower → IsDirectory files object → ⊥)
        → None ≡ directory_path trees overlay node_number
    none_here none = no_directory (λ path other born.
        subst (λ (l : LayerRef). IsDirectory (files_at trees l.directory.filesystem.count).tree
        (exchanged l.directory.filesystem.count slot) → ⊥) (sym (same_lower other born.layer))
        (none path (subst (IsBorn path) (same_lower other born.layer) born)))

    pub other_rank : (rank ≡ 0 → ⊥) → None ≡ directory_path trees overlay node_number
    other_rank some = grind (arith, common_steps, none_here, no_rank)

    abbrev pub parent : ℕ
    parent = parent_in object (files.node object)

    pub other_parent : nat_eq (exchanged count directory) parent ≡ false
        → None ≡ directory_path trees overlay node_number
    other_parent other = none_here (λ path born is.
        let last = has_last trees lower is_layer path object born.named born.leads in
        let up = sym born.above ∙ directory_slot trees lower is_layer path object last is in
        true≢false (sym (eq-eqb (exchanged count directory) parent
        (ap (exchanged count) up ∙ exchanged_back count parent)) ∙ other))

    pub no_way : (IsDirectory files object → (path : List (List ℕ)) → led files start path ≢ Some object)
        → None ≡ directory_path trees overlay node_number
    no_way none = none_here (λ path born is. none is path born.leads)

    module _ (way : List (List ℕ)) (leads : led files start way ≡ Some object) (is : IsDirectory files object) where
      one_way : (path : List (List ℕ)) → led files start path ≡ Some object → path ≡ way
      one_way path other = one_path files is_layer.tree start path way object other leads is

      pub way_of_root : is_root_path way ≡ true → None ≡ directory_path trees overlay node_number
      way_of_root root = none_here (λ path born directory.
          true≢false (sym root ∙ sym (ap is_root_path (one_way path born.leads)) ∙ born.named))

      abbrev pub shown_in : Bool
      shown_in = holds_of (λ (seen : Shown ℕ). nat_eq seen.layer place) (shown (layers trees overlay are) way)

      pub shown_elsewhere : shown_in ≡ false → None ≡ directory_path trees overlay node_number
      shown_elsewhere other = none_here (λ path born directory.
          true≢false (sym (ap (holds_of (λ (seen : Shown ℕ). nat_eq seen.layer place))
          (ap (shown (layers trees overlay are)) (sym (one_way path born.leads)) ∙ born.shown_there)
          ∙ eq-eqb place place refl) ∙ other))

      born_so : rank ≡ 0 → is_root_path way ≡ false → exchanged count directory ≡ parent
          → number_of (node_born trees overlay.number place lower way) ≡ node_number
      born_so none named up =
          let last = has_last trees lower is_layer way object named leads in
          let above : slot_at trees lower (without_last way) ≡ directory = directory_slot trees lower is_layer way
          object last is ∙ ap (exchanged count) (sym up) ∙ exchanged_back count directory in
          let ranked : rank_at trees lower way ≡ rank = no_rank _ _ (ap (λ o. is_directory_node (then_some o
          files.node)) leads ∙ is) ∙ sym none in
          let birth : birth_at trees place lower way ≡ Below place directory rank = ap (λ b. if b then Here else
          Below place (slot_at trees lower (without_last way)) (rank_at trees lower way)) named ∙ (λ i. Below place
          (above i) (ranked i)) in
          let own : slot_at trees lower way ≡ slot = (in_slot trees lower is_layer way object leads).1 ∙
          exchanged_back count slot in
          cc

      is_at : rank ≡ 0 → is_root_path way ≡ false → exchanged count directory ≡ parent → (o : Option (Shown ℕ))
          → shown (layers trees overlay are) way ≡ o → holds_of (λ (seen : Shown ℕ). nat_eq seen.layer place) o ≡ true
          → IsAt trees overlay are way node_number
      is_at none named up None e holds = absurd (true≢false (sym holds))
      is_at none named up (Some seen) e holds =
          let same = eqb-true seen.layer place holds in
          let at = in_layer trees overlay are way seen e in
          let here = same_lower at.0 (ap (slice_get overlay.lowers) (sym same) ∙ at.1) in
          let there : seen.object ≡ object = same_Some seen.object object (sym at.2
          ∙ ap (λ (l : LayerRef). led (files_at trees l.directory.filesystem.count).tree (inode_of l.directory) way)
          here
          ∙ leads) in
          record {
            place = place;
            object = object;
            lower = lower;
            layer = layer;
            is = e ∙ (λ i. Some (record { layer = same i; object = there i }));
            leads = leads;
            numbered = born_so none named up;
          }

      pub is_shown : rank ≡ 0 → is_root_path way ≡ false → nat_eq (exchanged count directory) parent ≡ true
          → shown_in ≡ true → Some way ≡ directory_path trees overlay node_number
      is_shown none named up holds =
          let at = is_at none named (eqb-true (exchanged count directory) parent up) (shown (layers trees overlay
          are) way) refl holds in
          let there = found_is trees overlay are node_number way at (λ path other. let born = is_born path other in
          one_way path (subst (λ (l : LayerRef). led (files_at trees l.directory.filesystem.count).tree (inode_of
          l.directory) path ≡ Some (exchanged l.directory.filesystem.count slot)) (same_lower other.lower born.layer)
          born.leads)) in
          let here : at.lower ≡ lower = same_lower at.lower (is_born way at).layer in
          cc (directory_shown trees overlay are node_number way at (ap (λ (l : LayerRef). is_directory_node
          (node_at_path (layer_of trees l) way)) here ∙ ap (λ o. is_directory_node (then_some o files.node)) leads ∙
          is))

    -- the same of an inode in that slot
    module _ (inode : InodeRef) (is : inode ≡ record { filesystem = lower.directory.filesystem; slot = slot }) where
      number_is : inode_of (record { filesystem = lower.directory.filesystem; slot = slot }) ≡ object
      number_is = sym (exchanged_slot count slot b.slot_small)

      pub inode_number_is : inode_of inode ≡ object
      inode_number_is = ap inode_of is ∙ number_is

      -- the slot of its parent, as it is found
      module _ (found : Option ℕ) (finds : option_map (exchanged inode.filesystem.count) found
          ≡ option_map (λ (node : Node ℕ). parent_in (inode_of inode) (Some node))
          ((files_at trees inode.filesystem.count).tree.node (inode_of inode))) where
        parent_found : option_map (exchanged count) found
            ≡ option_map (λ (node : Node ℕ). parent_in object (Some node)) (files.node object)
        parent_found = grind (arith, common_steps)

        pub no_inode : found ≡ None → None ≡ directory_path trees overlay node_number
        no_inode none = none_here (λ path born is. by (files.node object) refl is)
          where
            by : (o : Option (Node ℕ)) → files.node object ≡ o → is_directory_node (files.node object) ≡ true → ⊥
            by None e is = true≢false (sym (sym (ap is_directory_node e) ∙ is))
            by (Some node) e is = grind (arith, common_steps, none_is_some, parent_found)

        parent_at : (p : ℕ) → found ≡ Some p → exchanged count p ≡ parent
        parent_at p e = by (files.node object) refl
          where
            by : (o : Option (Node ℕ)) → files.node object ≡ o → exchanged count p ≡ parent
            by None none = grind (arith, common_steps)
            by (Some node) some = grind (arith, common_steps)

        pub its_parent : found ≡ Some directory → nat_eq (exchanged count directory) parent ≡ true
        its_parent e = eq-eqb (exchanged count directory) parent (parent_at directory e)

        pub not_its_parent : (p : ℕ) → found ≡ Some p → (p ≡ directory → ⊥)
            → None ≡ directory_path trees overlay node_number
        not_its_parent p e other = by (nat_eq (exchanged count directory) parent) refl
          where
            by : (b : Bool) → nat_eq (exchanged count directory) parent ≡ b
                → None ≡ directory_path trees overlay node_number
            by false apart = other_parent apart
            by true same = absurd (other (sym (exchanged_back count p)
                ∙ ap (exchanged count) (parent_at p e ∙ sym (eqb-true (exchanged count directory) parent same))
                ∙ exchanged_back count directory))

-- a path without names
pub no_names : (path : List (List ℕ)) → length path ≡ 0 → is_root_path path ≡ true
no_names path e = grind (arith, common_steps)

pub some_names : (path : List (List ℕ)) → (length path ≡ 0 → ⊥) → is_root_path path ≡ false
some_names path e = grind (arith, common_steps)
