-- The node that a directory is as a plain look sees it, which takes the upper layer for the highest lower one.
use Rattle.std.proofs.Common.{◌≡◌, ◌∙◌, ◌<◌, ◌+◌, ◌^◌, ◌⊎◌, [], ap, arith, Bool, eq-eqb, eqb-true, false, List, lt-ltb, ltb-true, nat_eq, nat_lt, None, option_map, Option, refl, Some, subst, suc, sym, true, true≢false, unwrap_or, ⊎_elim, ℕ, if◌then◌else◌}
use Rattle.vt_spec.proofs.Common.{IsDirectory, Node, Tree, is_directory_node, is_root_path, led, node_shown, none_is_some, parent_in, same_Some, slice_get_within, then_some, without_last}
use Rattle.vt_laws_trees.proofs.layers.layers.ShownPaths.{one_path}
use Rattle.vt_location.specs.declared.births.Birth.{Birth}
use Rattle.vt_location.specs.declared.births.Birth.TheVariants.{Below, Here}
use Rattle.vt_location.specs.declared.locations.InodeRef.{InodeRef}
use Rattle.vt_location.specs.declared.locations.NodeRef.{NodeRef}
use Rattle.vt_location.specs.declared.numbers.FilesystemId.{FilesystemId}
use Rattle.vt_location.specs.Births.{IsSmallBirth}
use Rattle.vt_location.specs.Locations.{inode_of, number_of}
use Rattle.vt_location.specs.NodeNumbers.{IsSmall}
use Rattle.vt_location.specs.Numbers.{exchanged, inode_number}
use Rattle.vt_location.proofs.NodeLemmas.{one_to_one}
use Rattle.vt_location.proofs.NumberLemmas.{exchanged_back, exchanged_slot}
use Rattle.vt_births.specs.Births.{node_above, slot_above, slot_by}
use Rattle.vt_fs.specs.FilesystemsValue.{Filesystems, files_at}
use Rattle.vt_overlay.specs.MergedTree as through
use Rattle.vt_overlay.specs.MergedTree.{IsLayer, birth_at, node_born, plain_world, rank_at, slot_at}
use Rattle.vt_overlay.proofs.BirthsFound.{directory_slot, has_last}
use Rattle.vt_overlay.proofs.RootFound.{no_name}
use Rattle.vt_upper_overlay.specs.MergedAbove.{directory_path, number_at, upper_seen}
use Rattle.vt_upper_overlay.specs.UpperValue.{UpperOverlayValue, below_upper, node_for}
use Rattle.vt_upper_overlay.proofs.Named.{directory_above, lifted_number, one_way_for_both, shows_way, way_number}
use Rattle.vt_upper_overlay.proofs.Shown.{IsAbove, IsBelow, IsLooked, birth_below, lifted, no_slot_below, plain_number, shown_node, slot_is_above, small_above, top_slot}

no_rank : (b : Bool) (rank : ℕ) → b ≡ true → (if b then 0 else rank) ≡ 0
no_rank b rank t = cc

abbrev layer_of_birth : Birth → ℕ
layer_of_birth Here = 0
layer_of_birth (Below place above rank) = place

is_root : (path : List (List ℕ)) → path ≡ [] → is_root_path path ≡ true
is_root path e = ap is_root_path e

module _ (trees : Filesystems) (overlay : UpperOverlayValue) (looked : IsLooked trees overlay) (node : NodeRef)
    (node_small : IsSmall node) (own : node.filesystem ≡ overlay.layers.number) where
  abbrev pub own_way : Option (List (List ℕ))
  own_way = directory_path trees overlay (number_of node)

  abbrev pub plain_way_of : Option NodeRef → Option (List (List ℕ))
  plain_way_of found = then_some (option_map number_of found) (through.directory_path trees overlay.layers)

  abbrev shows_directory : List (List ℕ) → Bool
  shows_directory path = is_directory_node (node_shown nat_eq (plain_world trees) (upper_seen overlay) path)

  -- a node that is shown nowhere as a directory has no way
  no_way : ((path : List (List ℕ)) → number_at trees overlay path ≡ Some (number_of node) → shows_directory path ≡ true
      → ⊥) → own_way ≡ None
  no_way nowhere = by own_way refl
    where
      by : (o : Option (List (List ℕ))) → own_way ≡ o → own_way ≡ None
      by None e = e
      by (Some path) e = absurd (nowhere path (way_number trees overlay looked (number_of node) path e)
          (shows_way trees overlay looked (number_of node) path e))

  cases : (path : List (List ℕ)) → number_at trees overlay path ≡ Some (number_of node)
      → IsAbove trees overlay looked path node ⊎ IsBelow trees overlay looked path node
  cases path numbered = shown_node trees overlay looked path node node_small numbered

  -- Of a node that has its object where it was born, in a lower layer
  module _ (no_slot : slot_above overlay.nodes.births node ≡ None) where
    pub only_below : (path : List (List ℕ)) → number_at trees overlay path ≡ Some (number_of node)
        → IsBelow trees overlay looked path node
    only_below path numbered = ⊎_elim (λ a. none_is_some (exchanged looked.top.directory.filesystem.count a.object)
        (sym no_slot ∙ slot_is_above trees overlay looked path node a)) (λ b. b) (cases path numbered)

    pub way_below : plain_way_of (below_upper node node.birth) ≡ own_way
    way_below = by node.birth refl
      where
        by : (birth : Birth) → node.birth ≡ birth → plain_way_of (below_upper node birth) ≡ own_way
        by Here e = none_is_some node.slot (sym no_slot ∙ ap (slot_by overlay.nodes.births node) e)
        by (Below layer directory rank) e = fits (nat_lt (layer + 1) (2 ^ 16)) refl
          where
            plain_node : NodeRef
            plain_node = record node { birth = Below (layer + 1) directory rank }

            more : layer + 1 ≡ suc layer
            more = omega arith

            place_small : nat_lt (layer + 1) (2 ^ 16) ≡ true → layer + 1 < 18446744073709551616
            place_small t = let less = ltb-true (layer + 1) (2 ^ 16) t in omega (arith, less)

            birth_small : IsSmallBirth (Below layer directory rank)
            birth_small = subst IsSmallBirth e node_small.birth

            is_lifted : record { filesystem = overlay.layers.number; slot = node.slot; birth = lifted node.birth }
                ≡ plain_node
            is_lifted = λ i. record {
              filesystem = sym own i;
              slot = node.slot;
              birth = (ap lifted e ∙ ap (λ l. Below l directory rank) (sym more)) i;
            }

            back : node_for overlay plain_node.slot plain_node.birth ≡ node
            back = ap (λ l. node_for overlay node.slot (Below l directory rank)) more
                ∙ (λ i. record { filesystem = sym own i; slot = node.slot; birth = sym e i })

            fits : (b : Bool) → nat_lt (layer + 1) (2 ^ 16) ≡ b
                → plain_way_of (if b then Some (record node { birth = Below (layer + 1) directory rank }) else None)
                ≡ own_way
            fits true t = one_way_for_both trees overlay looked node plain_node node_small
                (record {
                  filesystem = node_small.filesystem;
                  slot = node_small.slot;
                  birth = (birth_small.0, place_small t);
                })
                back (λ path numbered directory. lifted_number trees overlay looked path node (only_below path numbered)
                ∙ ap (λ n. Some (number_of n)) is_lifted)
            fits false t = sym (no_way (λ path numbered directory. many path (only_below path numbered)))
              where
                many : (path : List (List ℕ)) → IsBelow trees overlay looked path node → ⊥
                many path below =
                    let within = slice_get_within overlay.layers.lowers (suc below.layer) below.lower below.at in
                    let few = looked.stands.few in
                    let place : below.layer ≡ layer = ap layer_of_birth (sym (birth_of path below) ∙ e) in
                    true≢false (sym (lt-ltb (layer + 1) (2 ^ 16) (omega (arith, within, few, place))) ∙ t)
                  where
                    birth_of : (path : List (List ℕ)) (below : IsBelow trees overlay looked path node)
                        → node.birth ≡ Below below.layer (slot_at trees below.lower (without_last path))
                        (rank_at trees below.lower path)
                    birth_of path below = birth_below trees overlay looked path node below

  -- Of a node that has its object in a slot of the upper layer
  module _ (slot : ℕ) (slot_small : slot < 18446744073709551616)
      (its_slot : slot_above overlay.nodes.births node ≡ Some slot) where
    abbrev f : ℕ
    f = looked.top.directory.filesystem.count

    abbrev tree : Tree ℕ
    tree = (files_at trees f).tree

    abbrev start : ℕ
    start = inode_of looked.top.directory

    is_top : IsLayer trees looked.top
    is_top = looked.stands.layers 0 looked.top looked.first

    pub only_above : (path : List (List ℕ)) → number_at trees overlay path ≡ Some (number_of node)
        → IsAbove trees overlay looked path node
    only_above path numbered = ⊎_elim (λ a. a) (λ b. none_is_some slot
        (sym (no_slot_below trees overlay looked path node b) ∙ its_slot)) (cases path numbered)

    pub slot_is : (path : List (List ℕ)) (a : IsAbove trees overlay looked path node) → exchanged f a.object ≡ slot
    slot_is path a = same_Some (exchanged f a.object) slot
        (sym (slot_is_above trees overlay looked path node a) ∙ its_slot)

    pub object_is : (path : List (List ℕ)) (a : IsAbove trees overlay looked path node) → a.object ≡ inode_number f slot
    object_is path a = sym (exchanged_back f a.object) ∙ ap (exchanged f) (slot_is path a)
        ∙ exchanged_slot f slot slot_small

    -- the slot is another node's
    pub way_of_other : nat_eq (number_of (node_above overlay.nodes.births node.filesystem slot)) (number_of node) ≡ false
        → None ≡ own_way
    way_of_other other = sym (no_way (λ path numbered directory.
        let a = only_above path numbered in
        true≢false (sym (eq-eqb (number_of (node_above overlay.nodes.births node.filesystem slot)) (number_of node)
        (ap number_of ((λ i. node_above overlay.nodes.births (own i) (sym (slot_is path a) i)) ∙ a.node_is))) ∙ other)))

    -- nothing is in the slot
    pub way_of_nothing : tree.node (inode_number f slot) ≡ None → None ≡ own_way
    way_of_nothing none = sym (no_way (λ path numbered directory.
        let a = only_above path numbered in
        true≢false (sym (directory_above trees overlay looked path node a directory)
        ∙ ap (λ o. is_directory_node (tree.node o)) (object_is path a) ∙ ap is_directory_node none)))

    module _ (same : nat_eq (number_of (node_above overlay.nodes.births node.filesystem slot)) (number_of node) ≡ true)
      where
        pub is_same : node_above overlay.nodes.births overlay.layers.number slot ≡ node
        is_same = ap (λ (id : FilesystemId). node_above overlay.nodes.births id slot) (sym own)
            ∙ one_to_one
            (node_above overlay.nodes.births node.filesystem slot) node
            (small_above overlay.nodes.births node slot looked.stands.one_to_one
            node_small.filesystem slot_small) node_small
            (eqb-true (number_of (node_above overlay.nodes.births node.filesystem slot)) (number_of node) same)

        -- the node of a birth in the upper layer
        abbrev plain_of : Birth → NodeRef
        plain_of birth = record { filesystem = node.filesystem; slot = slot; birth = birth }

        number_plain : (path : List (List ℕ)) (a : IsAbove trees overlay looked path node) (birth : Birth)
            → birth_at trees 0 looked.top path ≡ birth
            → through.number_at trees overlay.layers path ≡ Some (number_of (plain_of birth))
        number_plain path a birth is = plain_number trees overlay looked path 0 a.object looked.top a.is looked.first
            ∙ (λ i. Some (number_of (record {
              filesystem = sym own i;
              slot = (ap (λ o. exchanged f (unwrap_or o 0)) a.leads ∙ slot_is path a) i;
              birth = is i;
            })))

        -- the slot is that of the upper directory
        pub way_of_root : slot ≡ looked.top.directory.slot
            → plain_way_of (Some (record { filesystem = node.filesystem; slot = slot; birth = Here })) ≡ own_way
        way_of_root root = one_way_for_both trees overlay looked node (plain_of Here) node_small
            (record { filesystem = node_small.filesystem; slot = slot_small; birth = tt })
            is_same (λ path numbered directory.
            let a = only_above path numbered in
            let at : a.object ≡ start = object_is path a ∙ ap (inode_number f) root in
            let nameless : path ≡ [] = one_path tree is_top.tree start path [] start (a.leads ∙ ap Some at) refl
            is_top.directory in
            number_plain path a Here (ap (λ b. if b then Here
            else Below 0 (slot_at trees looked.top (without_last path)) (rank_at trees looked.top path))
            (is_root path nameless)))

        -- or another one
        pub way_of_named : (slot ≡ looked.top.directory.slot → ⊥) → (directory : ℕ)
            → directory < 18446744073709551616
            → Some (exchanged f directory) ≡ option_map (λ (one : Node ℕ). parent_in (inode_number f slot) (Some one))
            (tree.node (inode_number f slot))
            → plain_way_of (Some (record { filesystem = node.filesystem; slot = slot; birth = Below 0 directory 0 }))
            ≡ own_way
        way_of_named other directory directory_small parent =
            one_way_for_both trees overlay looked node (plain_of (Below 0 directory 0)) node_small
            (record {
              filesystem = node_small.filesystem;
              slot = slot_small;
              birth = (directory_small, omega arith);
            })
            is_same (λ path numbered is_directory.
            let a = only_above path numbered in
            number_plain path a (Below 0 directory 0) (born path a
            (directory_above trees overlay looked path node a is_directory)))
          where
            born : (path : List (List ℕ)) (a : IsAbove trees overlay looked path node) → IsDirectory tree a.object
                → birth_at trees 0 looked.top path ≡ Below 0 directory 0
            born path a is = by (is_root_path path) refl
              where
                above_is : exchanged f directory ≡ parent_in a.object (tree.node a.object)
                above_is = there (tree.node (inode_number f slot)) parent
                    ∙ ap (λ o. parent_in o (tree.node o)) (sym (object_is path a))
                  where
                    there : (o : Option (Node ℕ))
                        → Some (exchanged f directory) ≡ option_map (λ (one : Node ℕ). parent_in (inode_number f slot)
                        (Some one)) o → exchanged f directory ≡ parent_in (inode_number f slot) o
                    there None e = none_is_some (exchanged f directory) (sym e)
                    there (Some one) e = same_Some _ _ e

                by : (b : Bool) → is_root_path path ≡ b
                    → (if b then Here else Below 0 (slot_at trees looked.top (without_last path))
                    (rank_at trees looked.top path)) ≡ Below 0 directory 0
                by true r =
                    let at : start ≡ a.object = same_Some start a.object
                    (sym (ap (led tree start) (no_name path r)) ∙ a.leads) in
                    absurd (other (sym (slot_is path a) ∙ ap (exchanged f) (sym at) ∙ top_slot trees overlay looked))
                by false r =
                    let last = has_last trees looked.top is_top path a.object r a.leads in
                    let up : slot_at trees looked.top (without_last path) ≡ directory =
                    directory_slot trees looked.top is_top path a.object last is ∙ ap (exchanged f) (sym above_is)
                    ∙ exchanged_back f directory in
                    let rank : rank_at trees looked.top path ≡ 0 =
                    no_rank _ _ (ap (λ o. is_directory_node (then_some o tree.node)) a.leads ∙ is) in
                    (λ i. Below 0 (up i) (rank i))

    -- The same, of what is looked up in the slot
    module _ (inode : InodeRef) (is : inode ≡ record { filesystem = looked.top.directory.filesystem; slot = slot }) where
      abbrev its_parent : Option (Node ℕ) → Option ℕ
      its_parent found = option_map (λ (one : Node ℕ). parent_in (inode_number f slot) (Some one)) found

      looked_in : option_map (λ (one : Node ℕ). parent_in (inode_of inode) (Some one))
          ((files_at trees inode.filesystem.count).tree.node (inode_of inode)) ≡ its_parent (tree.node (inode_number f slot))
      looked_in = ap (λ (i : InodeRef). option_map (λ (one : Node ℕ). parent_in (inode_of i) (Some one))
          ((files_at trees i.filesystem.count).tree.node (inode_of i))) is

      nothing_there : (o : Option (Node ℕ)) → None ≡ its_parent o → o ≡ None
      nothing_there None e = refl
      nothing_there (Some one) e = none_is_some (parent_in (inode_number f slot) (Some one)) e

      pub way_of_no_inode : None ≡ option_map (λ (one : Node ℕ). parent_in (inode_of inode) (Some one))
          ((files_at trees inode.filesystem.count).tree.node (inode_of inode)) → None ≡ own_way
      way_of_no_inode e = way_of_nothing (nothing_there (tree.node (inode_number f slot)) (e ∙ looked_in))

      pub way_of_inode
          : (same : nat_eq (number_of (node_above overlay.nodes.births node.filesystem slot)) (number_of node) ≡ true)
          → (slot ≡ looked.top.directory.slot → ⊥) → (directory : ℕ) → directory < 18446744073709551616
          → Some (exchanged inode.filesystem.count directory)
          ≡ option_map (λ (one : Node ℕ). parent_in (inode_of inode) (Some one))
          ((files_at trees inode.filesystem.count).tree.node (inode_of inode))
          → plain_way_of (Some (record { filesystem = node.filesystem; slot = slot; birth = Below 0 directory 0 }))
          ≡ own_way
      way_of_inode same other directory directory_small e = way_of_named same other directory directory_small
          (ap (λ (i : InodeRef). Some (exchanged i.filesystem.count directory)) (sym is) ∙ e ∙ looked_in)
