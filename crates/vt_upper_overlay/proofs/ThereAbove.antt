-- Which nodes are there: each look asks where a node has its object, and whether the layers show that.
use Rattle.std.proofs.Common.{◌≡◌, ◌≢◌, ◌∙◌, ◌<◌, ◌+◌, ◌^◌, ◌∷◌, ◌++◌, ◌&&◌, [], ap, arith, Bool, eq-eqb, false, is_some, List, nat_eq, nat_lt, None, not, option_map, Option, refl, Some, subst, suc, sym, true, true≢false, unwrap_or, ℕ, slice_get, if◌then◌else◌, lt-ltb, ltb-true}
use Rattle.vt_spec.proofs.Common.{IsDirectory, Node, OpenLayer, Tree, and_true_left, and_true_right, any_among, at_path, directory_no_whiteout, directory_used, entry_from, entry_to, has_entry_to, is_directory_node, node_in, is_kind_in, is_root_path, led, led-append, list_any, none_is_some, same_Some, shown, slice_get_within, then_some, when, without_last}
use Rattle.vt_spec.specs.declared.attributes.Kind.TheVariants.{White}
use Rattle.vt_spec.proofs.Layers.{cuts, shown_from, shown_over}
use Rattle.vt_laws_trees.proofs.layers.layers.ShownDirectories.{led_is_there}
use Rattle.vt_laws_trees.proofs.layers.layers.UpperLine.{has_entries}
use Rattle.vt_location.specs.declared.births.Birth.{Birth}
use Rattle.vt_location.specs.declared.births.Birth.TheVariants.{Below, Here}
use Rattle.vt_location.specs.declared.locations.InodeRef.{InodeRef}
use Rattle.vt_location.specs.declared.locations.NodeRef.{NodeRef}
use Rattle.vt_location.specs.Births.{IsSmallBirth}
use Rattle.vt_location.specs.Locations.{inode_of, number_of}
use Rattle.vt_location.specs.NodeNumbers.{IsSmall}
use Rattle.vt_location.specs.Numbers.{exchanged, inode_number, is_inode_of}
use Rattle.vt_location.proofs.NumberLemmas.{exchanged_number, exchanged_same, slot_of}
use Rattle.vt_births.specs.Births.{node_above, node_of, slot_above}
use Rattle.vt_births.proofs.NodesAbove.{born_here, slots_found}
use Rattle.vt_fs.specs.FilesystemsValue.{Filesystems, files_at, node_seen}
use Rattle.vt_overlay.specs.Merge.LayerValue.{layer_of, layers_of}
use Rattle.vt_overlay.specs.declared.merge.layers.LayerRef.{LayerRef}
use Rattle.vt_overlay.specs.MergedTree as through
use Rattle.vt_overlay.specs.MergedTree.{IsLayer, longest, plain_world}
use Rattle.vt_overlay.proofs.BirthsFound.{has_last}
use Rattle.vt_overlay.proofs.RootFound.{no_name}
use Rattle.vt_overlay.proofs.TreeFound as plain
use Rattle.vt_upper_overlay.specs.Lent.{is_shown_name}
use Rattle.vt_upper_overlay.specs.MergedAbove.{directory_path, held, number_at, object_shown, path_at, real_number, upper_seen}
use Rattle.vt_upper_overlay.specs.Standing.{StandsAbove}
use Rattle.vt_upper_overlay.specs.UpperValue.{UpperOverlayValue, below_upper, node_for}
use Rattle.vt_upper_overlay.proofs.Named.{inode_at, is_naming, is_way, lifted_number, way_number}
use Rattle.vt_upper_overlay.proofs.Shown.{IsAbove, IsBelow, IsLooked, birth_below, converted, layers_are, lifted, number_above, small_shown}
use Rattle.vt_upper_overlay.proofs.Through.{is_same, object_is, only_above, only_below, slot_is}
use Rattle.vt_upper_overlay.proofs.Ways as ways

-- where the first layer has an object, it decides
shown_first : (trees : Filesystems) (layers : List LayerRef) (top : LayerRef) → slice_get layers 0 ≡ Some top
    → (path : List (List ℕ)) (object : ℕ) → at_path (layer_of trees top) path ≡ Some object
    → shown (layers_of trees layers) path
    ≡ when (not (is_kind_in White ((files_at trees top.directory.filesystem.count).tree.node object)))
    (record { layer = 0; object = object })
shown_first trees [] top e path object leads = none_is_some top e
shown_first trees (first ∷ layers) top e path object leads =
    ap (λ o. shown_over (layer_of trees first) 0 o (cuts (layer_of trees first) path)
    (shown_from (0 + 1) (layers_of trees layers) path))
    (ap (λ l. at_path (layer_of trees l) path) same ∙ leads)
    ∙ ap (λ (l : LayerRef). when (not (is_kind_in White ((files_at trees l.directory.filesystem.count).tree.node object)))
    (record { layer = 0; object = object })) same
  where
    same : first ≡ top
    same = same_Some first top e

-- the node of a slot of the upper layer is one of the overlay
pub own_above : (trees : Filesystems) (overlay : UpperOverlayValue) → StandsAbove trees overlay → (slot : ℕ)
    → (node_above overlay.nodes.births overlay.layers.number slot).filesystem ≡ overlay.layers.number
own_above trees overlay stands slot = by (node_of overlay.nodes.births slot) refl
  where
    by : (o : Option NodeRef) → node_of overlay.nodes.births slot ≡ o
        → (unwrap_or o (born_here overlay.layers.number slot)).filesystem ≡ overlay.layers.number
    by None e = refl
    by (Some node) e = stands.own slot node e

pub some_mapped : {A B : Type 0} (f : A → B) (o : Option A) → is_some (option_map f o) ≡ is_some o
some_mapped f None = refl
some_mapped f (Some a) = refl

-- an inode that is looked up in a slot of a layer's tree
pub seen_there : (trees : Filesystems) (layer : LayerRef) (slot : ℕ) (inode : InodeRef) (at : NodeRef)
    (found : Option (Node ℕ))
    → inode ≡ record { filesystem = layer.directory.filesystem; slot = slot }
    → at ≡ record { filesystem = inode.filesystem; slot = inode.slot; birth = Here }
    → option_map (node_seen at.filesystem.count) found ≡ (files_at trees at.filesystem.count).tree.node (number_of at)
    → option_map (node_seen layer.directory.filesystem.count) found
    ≡ (files_at trees layer.directory.filesystem.count).tree.node
    (inode_number layer.directory.filesystem.count slot)
seen_there trees layer slot inode at found is same seen =
    subst (λ (n : NodeRef). option_map (node_seen n.filesystem.count) found
    ≡ (files_at trees n.filesystem.count).tree.node (number_of n))
    (same ∙ ap (λ (one : InodeRef). born_here one.filesystem one.slot) is) seen

some_path : {A : Type 0} (o : Option A) → is_some o ≡ true → (a : A) × (o ≡ Some a)
some_path None e = absurd (true≢false (sym e))
some_path (Some a) e = (a, refl)

module _ (trees : Filesystems) (overlay : UpperOverlayValue) (looked : IsLooked trees overlay) (node : NodeRef)
    (node_small : IsSmall node) (own : node.filesystem ≡ overlay.layers.number) where
  abbrev layers : List (OpenLayer ℕ)
  layers = layers_of trees overlay.layers.lowers

  abbrev f : ℕ
  f = looked.top.directory.filesystem.count

  abbrev tree : Tree ℕ
  tree = (files_at trees f).tree

  abbrev number : ℕ
  number = number_of node

  is_top : IsLayer trees looked.top
  is_top = looked.stands.layers 0 looked.top looked.first

  abbrev pub IsShown : Bool
  IsShown = is_some (object_shown trees overlay number)

  -- a node is shown just if its number is that of some path
  shown_at : (path : List (List ℕ)) → number_at trees overlay path ≡ Some number → true ≡ IsShown
  shown_at path numbered = by (path_at trees overlay number) refl
    where
      by : (o : Option (List (List ℕ))) → path_at trees overlay number ≡ o → true ≡ IsShown
      by None e = absurd (ways.is_found_by (real_number trees overlay) (held trees overlay)
          (longest trees overlay.layers.lowers) (plain_world trees) (upper_seen overlay)
          (is_naming trees overlay looked) number path numbered e)
      by (Some other) e =
          let there = ways.found_numbered (real_number trees overlay) (held trees overlay)
          (longest trees overlay.layers.lowers) (plain_world trees) (upper_seen overlay) number other e in
          sym (ap (λ o. is_some (then_some o (shown layers))) e
          ∙ sym (ap (λ all. is_some (shown all other)) (layers_are trees overlay looked))
          ∙ sym (ways.number_is_shown (real_number trees overlay) (held trees overlay)
          (longest trees overlay.layers.lowers) (plain_world trees) (upper_seen overlay) other)
          ∙ ap is_some there)

  not_shown : ((path : List (List ℕ)) → number_at trees overlay path ≡ Some number → ⊥) → false ≡ IsShown
  not_shown none = by (path_at trees overlay number) refl
    where
      by : (o : Option (List (List ℕ))) → path_at trees overlay number ≡ o → false ≡ IsShown
      by None e = sym (ap (λ o. is_some (then_some o (shown layers))) e)
      by (Some path) e = absurd (none path (ways.found_numbered (real_number trees overlay) (held trees overlay)
          (longest trees overlay.layers.lowers) (plain_world trees) (upper_seen overlay) number path e))

  -- so whatever says that
  decided : (b : Bool)
      → (b ≡ true → (path : List (List ℕ)) × (number_at trees overlay path ≡ Some number))
      → (b ≡ false → (path : List (List ℕ)) → number_at trees overlay path ≡ Some number → ⊥) → b ≡ IsShown
  decided true there none = let at = there refl in shown_at at.0 at.1
  decided false there none = not_shown (none refl)

  -- so what is shown at a path is there
  pub numbered_is_shown : (path : List (List ℕ)) → number_at trees overlay path ≡ Some number → IsShown ≡ true
  numbered_is_shown path numbered = sym (shown_at path numbered)

  -- A node that has its object where it was born
  module _ (no_slot : slot_above overlay.nodes.births node ≡ None) where
    record IsLifted (plain_node : NodeRef) : Type 0 where
      pub is : record { filesystem = overlay.layers.number; slot = node.slot; birth = lifted node.birth } ≡ plain_node
      pub back : node_for overlay plain_node.slot plain_node.birth ≡ node
      pub small : IsSmall plain_node

    is_lifted : (plain_node : NodeRef) → below_upper node node.birth ≡ Some plain_node → IsLifted plain_node
    is_lifted plain_node e = by node.birth refl e
      where
        by : (birth : Birth) → node.birth ≡ birth → below_upper node birth ≡ Some plain_node → IsLifted plain_node
        by Here b e = none_is_some plain_node e
        by (Below layer directory rank) b e = fits (nat_lt (layer + 1) (2 ^ 16)) refl e
          where
            more : layer + 1 ≡ suc layer
            more = omega arith

            birth_small : IsSmallBirth (Below layer directory rank)
            birth_small = subst IsSmallBirth b node_small.birth

            fits : (t : Bool) → nat_lt (layer + 1) (2 ^ 16) ≡ t
                → (if t then Some (record node { birth = Below (layer + 1) directory rank }) else None) ≡ Some plain_node
                → IsLifted plain_node
            fits false t e = none_is_some plain_node e
            fits true t e = subst IsLifted (same_Some _ plain_node e) (record {
              is = λ i. record {
                filesystem = sym own i;
                slot = node.slot;
                birth = (ap lifted b ∙ ap (λ l. Below l directory rank) (sym more)) i;
              };
              back = ap (λ l. node_for overlay node.slot (Below l directory rank)) more
                  ∙ (λ i. record { filesystem = sym own i; slot = node.slot; birth = sym b i });
              small = record {
                filesystem = node_small.filesystem;
                slot = node_small.slot;
                birth = (birth_small.0, let less = ltb-true (layer + 1) (2 ^ 16) t in omega (arith, less));
              };
            })

    -- is looked for where the upper layer is the highest lower one
    pub shown_below : (plain_node : NodeRef) → Some plain_node ≡ below_upper node node.birth
        → is_some (through.object_shown trees overlay.layers (number_of plain_node)) ≡ IsShown
    shown_below plain_node e = decided
        (is_some (through.object_shown trees overlay.layers (number_of plain_node))) there nowhere
      where
        is : IsLifted plain_node
        is = is_lifted plain_node (sym e)

        there : is_some (through.object_shown trees overlay.layers (number_of plain_node)) ≡ true
            → (path : List (List ℕ)) × (number_at trees overlay path ≡ Some number)
        there some = by (through.path_at trees overlay.layers (number_of plain_node)) refl
          where
            by : (o : Option (List (List ℕ))) → through.path_at trees overlay.layers (number_of plain_node) ≡ o
                → (path : List (List ℕ)) × (number_at trees overlay path ≡ Some number)
            by None p = absurd (true≢false (sym some ∙ ap (λ o. is_some (then_some o (shown layers))) p))
            by (Some path) p =
                let at = plain.found_is_at trees overlay.layers looked.stands.layers (number_of plain_node) path p in
                let numbered = plain.number_of_shown trees overlay.layers looked.stands.layers path
                (record { layer = at.place; object = at.object }) at.lower at.is at.layer
                ∙ ap Some at.numbered in (
                  path,
                  converted trees overlay looked path plain_node is.small numbered
                      ∙ ap (λ n. Some (number_of n)) is.back,
                )

        nowhere : is_some (through.object_shown trees overlay.layers (number_of plain_node)) ≡ false
            → (path : List (List ℕ)) → number_at trees overlay path ≡ Some number → ⊥
        nowhere none path numbered = by (through.path_at trees overlay.layers (number_of plain_node)) refl
          where
            plainly : through.number_at trees overlay.layers path ≡ Some (number_of plain_node)
            plainly = lifted_number trees overlay looked path node
                (only_below trees overlay looked node node_small own no_slot path numbered)
                ∙ ap (λ n. Some (number_of n)) is.is

            by : (o : Option (List (List ℕ))) → through.path_at trees overlay.layers (number_of plain_node) ≡ o → ⊥
            by None p = plain.at_is_found trees overlay.layers looked.stands.layers (number_of plain_node) path
                (plain.numbered_is_at trees overlay.layers looked.stands.layers (number_of plain_node) path plainly) p
            by (Some other) p =
                let at = plain.found_is_at trees overlay.layers looked.stands.layers (number_of plain_node) other p in
                true≢false (sym (ap (λ o. is_some (then_some o (shown layers))) p ∙ ap is_some at.is) ∙ none)

    pub no_place_below : None ≡ below_upper node node.birth → false ≡ IsShown
    no_place_below e = not_shown (λ path numbered. by path (only_below trees overlay looked node node_small own no_slot
        path numbered))
      where
        by : (path : List (List ℕ)) → IsBelow trees overlay looked path node → ⊥
        by path below = fits (nat_lt (below.layer + 1) (2 ^ 16)) refl
            (e ∙ ap (below_upper node) (birth_below trees overlay looked path node below))
          where
            fits : (t : Bool) → nat_lt (below.layer + 1) (2 ^ 16) ≡ t
                → None ≡ (if t then Some (record node {
                  birth = Below (below.layer + 1)
                      (through.slot_at trees below.lower (without_last path)) (through.rank_at trees below.lower path);
                })
                else None) → ⊥
            fits true t none = none_is_some _ none
            fits false t none =
                let within = slice_get_within overlay.layers.lowers (suc below.layer) below.lower below.at in
                let few = looked.stands.few in
                true≢false (sym (lt-ltb (below.layer + 1) (2 ^ 16) (omega (arith, within, few))) ∙ t)

  -- A node that has its object in a slot of the upper layer
  module _ (slot : ℕ) (slot_small : slot < 18446744073709551616)
      (its_slot : slot_above overlay.nodes.births node ≡ Some slot) where
    abbrev object : ℕ
    object = inode_number f slot

    above : (path : List (List ℕ)) → number_at trees overlay path ≡ Some number → IsAbove trees overlay looked path node
    above = only_above trees overlay looked node node_small own slot slot_small its_slot

    leads_to : (path : List (List ℕ)) (numbered : number_at trees overlay path ≡ Some number)
        → (above path numbered).object ≡ object
    leads_to path numbered = object_is trees overlay looked node node_small own slot slot_small its_slot path
        (above path numbered)

    -- the slot is another node's
    pub others_slot : nat_eq (number_of (node_above overlay.nodes.births node.filesystem slot)) number ≡ false
        → false ≡ IsShown
    others_slot other = not_shown (λ path numbered.
        let a = above path numbered in
        true≢false (sym (eq-eqb (number_of (node_above overlay.nodes.births node.filesystem slot)) number
        (ap number_of ((λ i. node_above overlay.nodes.births (own i) (sym (slot_is trees overlay looked node node_small
        own slot slot_small its_slot path a) i)) ∙ a.node_is))) ∙ other))

    -- nothing is in it
    pub vacant_slot : tree.node object ≡ None → false ≡ IsShown
    vacant_slot none = not_shown (λ path numbered.
        let a = above path numbered in
        true≢false (sym (led_is_there (layer_of trees looked.top) is_top.tree is_top.directory path a.object a.leads)
        ∙ ap (λ o. is_some (tree.node o)) (leads_to path numbered) ∙ ap is_some none))

    -- or a whiteout
    pub white_slot : is_kind_in White (tree.node object) ≡ true → false ≡ IsShown
    white_slot white = not_shown (λ path numbered.
        let a = above path numbered in
        none_is_some _ (sym (sym a.is ∙ shown_first trees overlay.layers.lowers looked.top looked.first path a.object
        a.leads ∙ ap (λ o. when (not (is_kind_in White (tree.node o))) (record { layer = 0; object = a.object }))
        (leads_to path numbered) ∙ ap (λ b. when (not b) (record { layer = 0; object = a.object })) white)))

    -- a directory has a way
    pub directory_slot : is_directory_node (tree.node object) ≡ true
        → is_some (directory_path trees overlay number) ≡ IsShown
    directory_slot directory = decided (is_some (directory_path trees overlay number))
        (λ some. let way = some_path (directory_path trees overlay number) some in
        (way.0, way_number trees overlay looked number way.0 way.1))
        (λ none path numbered.
        let a = above path numbered in
        let is = inode_at trees overlay looked path 0 a.object looked.top a.is looked.first in
        true≢false (sym (ap is_some (is_way trees overlay looked number path numbered (ap is_directory_node is
        ∙ ap (λ o. is_directory_node (tree.node o)) (leads_to path numbered) ∙ directory))) ∙ none))

    -- A file has a name in a directory that is shown.
    module _ (same : nat_eq (number_of (node_above overlay.nodes.births node.filesystem slot)) number ≡ true)
        (no_directory : is_directory_node (tree.node object) ≡ false)
        (not_white : is_kind_in White (tree.node object) ≡ false) where
      abbrev node_of_directory : ℕ → NodeRef
      node_of_directory directory =
          node_above overlay.nodes.births overlay.layers.number (exchanged f directory)

      directory_small : (directory : ℕ) → is_some (tree.node directory) ≡ true
          → exchanged f directory < 18446744073709551616
      directory_small directory there = by (is_inode_of f directory) refl
        where
          by : (b : Bool) → is_inode_of f directory ≡ b → exchanged f directory < 18446744073709551616
          by true e =
              let of = slot_of f directory e in
              subst (λ n. n < 18446744073709551616)
              (sym (ap (exchanged f) of.2 ∙ exchanged_number f of.0 of.1)) of.1
          by false e = absurd (true≢false (sym there ∙ ap (λ o. is_some (node_in o)) (is_top.own_numbers directory e)))

      own_directory : (directory : ℕ) → (node_of_directory directory).filesystem ≡ overlay.layers.number
      own_directory directory = own_above trees overlay looked.stands (exchanged f directory)

      -- a name in a directory that has a way leads to the node
      leads_on : (directory : ℕ) → has_entry_to nat_eq tree directory object ≡ true → (way : List (List ℕ))
          → directory_path trees overlay (number_of (node_of_directory directory)) ≡ Some way
          → (path : List (List ℕ)) × (number_at trees overlay path ≡ Some number)
      leads_on directory named way e =
          let name = entry_from tree is_top.tree directory object named in
          let small = directory_small directory (directory_used tree directory
          (has_entries tree directory name.0 object name.1)) in
          let at = way_number trees overlay looked (number_of (node_of_directory directory)) way e in
          let a = only_above trees overlay looked (node_of_directory directory)
          (small_shown trees overlay looked directory small) (own_directory directory) (exchanged f directory) small
          (slots_found overlay.nodes.births overlay.layers.number (exchanged f directory) looked.stands.one_to_one) way at
          in
          let is : a.object ≡ directory = exchanged_same f a.object directory (slot_is trees overlay looked
          (node_of_directory directory) (small_shown trees overlay looked directory small) (own_directory directory)
          (exchanged f directory) small (slots_found overlay.nodes.births overlay.layers.number (exchanged f directory) looked.stands.one_to_one)
          way a) in
          let leads = led-append tree (inode_of looked.top.directory) way name.0 directory object
          (a.leads ∙ ap Some is) name.1 in
          let there = shown_first trees overlay.layers.lowers looked.top looked.first (way ++ name.0 ∷ []) object leads
          ∙ ap (λ b. when (not b) (record { layer = 0; object = object })) not_white in (
            way ++ name.0 ∷ [],
            number_above trees overlay looked (way ++ name.0 ∷ []) object there
                ∙ ap (λ s. Some (number_of (node_above overlay.nodes.births overlay.layers.number s)))
                (exchanged_number f slot slot_small)
                ∙ ap (λ n. Some (number_of n)) (is_same trees overlay looked node node_small own slot slot_small its_slot
                same),
          )

      -- and where it is shown, the directory of its last name is
      directory_shown : (path : List (List ℕ)) → number_at trees overlay path ≡ Some number
          → (directory : ℕ) × (is_shown_name trees overlay f object directory ≡ true)
      directory_shown path numbered = by (is_root_path path) refl
        where
          a : IsAbove trees overlay looked path node
          a = above path numbered

          by : (b : Bool) → is_root_path path ≡ b
              → (directory : ℕ) × (is_shown_name trees overlay f object directory ≡ true)
          by true r =
              let start : inode_of looked.top.directory ≡ object =
              same_Some (inode_of looked.top.directory) object
              (sym (ap (led tree (inode_of looked.top.directory)) (no_name path r)) ∙ a.leads
              ∙ ap Some (leads_to path numbered)) in
              absurd (true≢false (sym (ap (λ o. is_directory_node (tree.node o)) (sym start) ∙ is_top.directory)
              ∙ no_directory))
          by false r =
              let last = has_last trees looked.top is_top path a.object r a.leads in
              let directory : IsDirectory tree last.directory =
              has_entries tree last.directory last.name a.object last.entry in
              let there = shown_first trees overlay.layers.lowers looked.top looked.first (without_last path) last.directory
              last.leads
              ∙ ap (λ b. when (not b) (record { layer = 0; object = last.directory }))
              (directory_no_whiteout (tree.node last.directory) directory) in
              let is = inode_at trees overlay looked (without_last path) 0 last.directory looked.top there looked.first in
              let way = is_way trees overlay looked (number_of (node_of_directory last.directory)) (without_last path)
              (number_above trees overlay looked (without_last path) last.directory there)
              (ap is_directory_node is ∙ directory) in (
                last.directory,
                λ i. (entry_to tree last.directory last.name object
                    (last.entry ∙ ap Some (leads_to path numbered))) i
                    && is_some (way i),
              )

      pub named_slot : (listed : (directory : ℕ) → is_shown_name trees overlay f object directory ≡ true
          → list_any (is_shown_name trees overlay f object) (files_at trees f).numbers ≡ true)
          → list_any (is_shown_name trees overlay f object) (files_at trees f).numbers ≡ IsShown
      named_slot listed = decided (list_any (is_shown_name trees overlay f object) (files_at trees f).numbers)
          (λ some.
          let one = any_among (is_shown_name trees overlay f object) (files_at trees f).numbers some in
          let way = some_path (directory_path trees overlay (number_of (node_of_directory one.0)))
          (and_true_right (has_entry_to nat_eq tree one.0 object) _ one.2) in
          leads_on one.0 (and_true_left (has_entry_to nat_eq tree one.0 object) _ one.2) way.0 way.1)
          (λ none path numbered.
          let one = directory_shown path numbered in true≢false (sym (listed one.0 one.1) ∙ none))
