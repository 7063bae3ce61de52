-- The directory in which an inode is made, and what has the name there.
use Rattle.std.proofs.Common.{◌≡◌, ◌∙◌, ◌+◌, ◌<◌, ◌≤◌, ◌++◌, ◌∷◌, [], ap, append-nil, append_assoc, arith, Bool, eqb-true, false, IfOk, IfSome, is_some, IsSome, length, List, nat_eq, None, not, option_map, Option, refl, reverse, slice_get, Some, subst, suc, sym, true, true≢false, zero, ⊎_elim, ℕ}
use Rattle.std.proofs.lemmas.List.{length-append}
use Rattle.std.specs.Prelude.{Result}
use Rattle.std.specs.declared.result.Result.TheVariants.{Ok, Err}
use Rattle.vt_spec.proofs.Common.{Content, FileTree, Inodes, IsDirectory, IsTree, Node, Shown, Tree, at_path, entries_in, entry_at, entry_named, is_directory_node, is_kind_in, is_sorted, led, led-append, length-reverse, name_cmp, names_in, same_Some, shown, tree_of, when}
use Rattle.vt_spec.specs.FileTree.{targets_in}
use Rattle.vt_laws_trees.proofs.layers.layers.ShownPaths.{one_path}
use Rattle.vt_spec.specs.declared.attributes.Kind.TheVariants.{White}
use Rattle.vt_spec.specs.Tree.Content.{Directory, Regular, Symlink, Whiteout}
use Rattle.vt_births.specs.Births.{BirthsValue}
use Rattle.vt_copyup.specs.declared.plans.Piece.{Piece}
use Rattle.vt_copyup.specs.declared.plans.Plan.{Plan}
use Rattle.vt_copyup.specs.Planned.{names_of}
use Rattle.vt_copyup.specs.Plans.{in_turn, many}
use Rattle.vt_copyup.proofs.Changed.{is_there, promised_files, promised_more}
use Rattle.vt_fs.specs.FilesystemsValue.{Filesystems, entry_of, files_at, inodes_at, inodes_promised, no_entry, promising, with_changed}
use Rattle.vt_fs.specs.FilesystemsValue as fs
use Rattle.vt_location.specs.declared.locations.InodeRef.{InodeRef}
use Rattle.vt_location.specs.declared.locations.NodeRef.{NodeRef}
use Rattle.vt_location.specs.declared.numbers.FilesystemId.{FilesystemId}
use Rattle.vt_location.specs.Locations.{inode_of, number_of}
use Rattle.vt_location.specs.NodeNumbers.{IsSmall}
use Rattle.vt_overlay.specs.declared.merge.layers.LayerRef.{LayerRef}
use Rattle.vt_overlay.specs.Merge.LayerValue.{layer_of, layers_of, seen_of}
use Rattle.vt_upper.specs.Copies.{AreCopiesOf, IsLastFit, IsLastOf}
use Rattle.vt_upper.specs.Copies.AreCopiesOf.{is_above, is_below}
use Rattle.vt_upper.specs.declared.making.Place.{Place}
use Rattle.vt_upper.specs.declared.making.Place.TheVariants.{Copied, There}
use Rattle.vt_upper.specs.declared.leaving.Leaving.{Leaving}
use Rattle.vt_upper.specs.declared.making.Spot.{Spot}
use Rattle.vt_upper.specs.Leaving.{MayBeEmptied, NamesAreUsed}
use Rattle.vt_upper.specs.New.{HasName, IsAbove, IsCopiedFrom, IsKnown, IsPlaceReady, MayBeFreed, MayMakeIn, MayPutIn, MayRemoveFrom, object_in}
use Rattle.vt_upper.proofs.BornBelow.{at_its_path}
use Rattle.vt_upper.proofs.CopiesBeside.{IsWhite}
use Rattle.vt_upper.proofs.FitCopies.{fit_copies, shown_first}
use Rattle.vt_upper.proofs.PlansOf.{AreSplit, count_is, is_first, split_layers}
use Rattle.vt_upper_overlay.specs.MergedAbove.{number_at, object_lent, object_shown, upper_count}
use Rattle.vt_upper_overlay.specs.Standing.{StandsAbove}
use Rattle.vt_upper_overlay.specs.UpperValue.{UpperOverlayValue}
use Rattle.vt_upper_overlay.proofs.Objects.{real_shown_at}
use Rattle.vt_upper_overlay.proofs.Shown.{IsLooked, shown_node}
use Rattle.vt_upper_overlay.proofs.Shown as shows

abbrev IsADirectory : Option (Node ℕ) → Type 0
IsADirectory node = is_directory_node node ≡ true

directory_kind : (a b : Option (Node ℕ)) → is_directory_node a ≡ is_directory_node b → IsADirectory a → IsADirectory b
directory_kind a b same is = sym same ∙ is

-- the inodes stay as they are where inodes are promised
module _ (count inodes : ℕ) where
  promised_entry : (trees : Filesystems)
      → entry_of (with_changed count (promising inodes) trees) count
      ≡ option_map (promising inodes) (entry_of trees count)
  promised_entry [] = refl
  promised_entry (entry ∷ rest) = by (nat_eq count entry.count) refl (promised_entry rest)
    where
      by : (b : Bool) → nat_eq count entry.count ≡ b
          → entry_of (with_changed count (promising inodes) rest) count
          ≡ option_map (promising inodes) (entry_of rest count)
          → entry_of (with_changed count (promising inodes) (entry ∷ rest)) count
          ≡ option_map (promising inodes) (entry_of (entry ∷ rest) count)
      by b e after = grind (arith, Rattle.vt_spec.proofs.Common.common_steps)

  pub promised_inodes : (trees : Filesystems)
      → inodes_at (with_changed count (promising inodes) trees) count ≡ inodes_at trees count
  promised_inodes trees = ap (λ o. fs.inodes_seen
      (Rattle.std.specs.Prelude.unwrap_or o (no_entry count))) (promised_entry trees) ∙ by (entry_of trees count)
    where
      by : (o : Option fs.FilesystemEntry)
          → fs.inodes_seen (Rattle.std.specs.Prelude.unwrap_or (option_map (promising inodes) o) (no_entry count))
          ≡ fs.inodes_seen (Rattle.std.specs.Prelude.unwrap_or o (no_entry count))
      by None = refl
      by (Some entry) = refl

-- a whiteout
white_so : (node : Option (Node ℕ)) → is_kind_in White node ≡ true → IsWhite node
white_so None is = absurd (true≢false (sym is))
white_so (Some node) is = by node.content is
  where
    by : (content : Content ℕ) → is_kind_in White (Some (record { attr = node.attr; content = content })) ≡ true
        → IsWhite (Some (record { attr = node.attr; content = content }))
    by (Directory parent entries opaque) is = absurd (true≢false (sym is))
    by (Regular bytes) is = absurd (true≢false (sym is))
    by (Symlink text) is = absurd (true≢false (sym is))
    by Whiteout is = record { there = refl; empty = refl; other = refl; kind = is }

-- what is not shown
when_none : (b : Bool) (seen : Shown ℕ) → when (not b) seen ≡ None → b ≡ true
when_none true seen none = refl
when_none false seen none = absurd (true≢false (ap is_some none))

-- with copies, nothing is said of what is there
copies_last : (IsCopied IsThere IsOther : Option (Node ℕ) → Type 0) (pieces : List Piece) (node other : Option (Node ℕ))
    → 0 < length pieces → IsLastOf IsCopied IsThere pieces node → IsLastOf IsCopied IsOther pieces other
copies_last IsCopied IsThere IsOther [] _ other some is = absurd (let no : ⊥ = omega (arith, some) in no)
copies_last IsCopied IsThere IsOther (piece ∷ []) _ other some is = is
copies_last IsCopied IsThere IsOther (piece ∷ next ∷ rest) node other some is =
    let more : 0 < length (next ∷ rest) = omega arith in
    copies_last IsCopied IsThere IsOther (next ∷ rest) node other more is

-- no copies, and some
none_in : {A : Type 0} (xs : List A) → length xs ≡ 0 → xs ≡ []
none_in [] none = refl
none_in (x ∷ xs) none = absurd (let no : ⊥ = omega (arith, none) in no)

pub no_pieces : (plan : Plan) → many plan ≡ 0 → in_turn plan ≡ []
no_pieces plan none = ap reverse (none_in plan.pieces.items none)

pub some_pieces : (plan : Plan) → nat_eq (many plan) 0 ≡ false → 0 < length (in_turn plan)
some_pieces plan some =
    let turned = length-reverse plan.pieces.items in
    let more = above_zero (many plan) some in omega (arith, turned, more)
  where
    above_zero : (n : ℕ) → nat_eq n 0 ≡ false → 0 < n
    above_zero zero e = absurd (true≢false e)
    above_zero (suc n) e = omega arith

-- a place among copies
pub copied_ok : {E : Type 0} (copies : Plan) (Holds : Place → Type 0) (result : Result Place E)
    → IfOk result (IsCopiedFrom copies) → ((room : ℕ) → 0 < room → Holds (Copied copies room)) → IfOk result Holds
copied_ok copies Holds (Err e) is holds = tt
copied_ok copies Holds (Ok (There spot)) is holds = absurd (true≢false (sym is))
copied_ok copies Holds (Ok (Copied plan room)) is holds =
    subst (λ (p : Plan). Holds (Copied p room)) (sym is.0) (holds room is.1)

-- an object that needs no copies is in the upper layer
module _ (trees : Filesystems) (overlay : UpperOverlayValue) (looked : IsLooked trees overlay) (node : NodeRef)
    (node_small : IsSmall node) (some : IsSome (object_shown trees overlay (number_of node))) (plan : Plan)
    (none : in_turn plan ≡ []) where
  leads_for : (path : List (List ℕ)) (object : ℕ) (first : LayerRef)
      → slice_get overlay.layers.lowers 0 ≡ Some first
      → at_path (layer_of trees first) path ≡ Some object → (upper : LayerRef)
      → slice_get overlay.layers.lowers 0 ≡ Some upper → at_path (layer_of trees upper) path ≡ Some object
  leads_for path object first is leads upper e =
      ap (λ (l : LayerRef). at_path (layer_of trees l) path) (same_Some upper first (sym e ∙ is)) ∙ leads

  -- a path leads to it
  pub above_there : AreCopiesOf true trees overlay node plan → IsAbove trees overlay node plan.directory
  above_there (is_above _ real is zero_layer same nothing) =
      ⊎_elim by_above by_below (shown_node trees overlay looked at.0 node node_small at.1)
    where
      at : (path : List (List ℕ)) × (number_at trees overlay path ≡ Some (number_of node))
      at = at_its_path trees overlay looked node node_small some

      seen : Some (seen_of real) ≡ shown (layers_of trees overlay.layers.lowers) at.0
      seen = ap (option_map seen_of) (sym is) ∙ real_shown_at trees overlay looked node node_small at.0 at.1

      by_above : shows.IsAbove trees overlay looked at.0 node → IsAbove trees overlay node plan.directory
      by_above a =
          let object : a.object ≡ inode_of plan.directory =
          ap (λ (s : Shown ℕ). s.object) (same_Some (record { layer = 0; object = a.object }) (seen_of real)
          (sym a.is ∙ sym seen)) ∙ ap inode_of (sym same) in
          record {
            path = at.0;
            numbered = at.1;
            leads = leads_for at.0 (inode_of plan.directory) looked.top looked.first (a.leads ∙ ap Some object);
          }

      by_below : shows.IsBelow trees overlay looked at.0 node → IsAbove trees overlay node plan.directory
      by_below b =
          let layer : suc b.layer ≡ real.layer = ap (λ (s : Shown ℕ). s.layer)
          (same_Some (record { layer = suc b.layer; object = b.object }) (seen_of real) (sym b.is ∙ sym seen)) in
          absurd (let no : ⊥ = omega (arith, layer, zero_layer) in no)
  above_there (is_below _ path numbered planned) =
      let whole : AreSplit overlay.layers.lowers = split_layers overlay.layers.lowers looked.stands.upper in
      let is = planned whole.upper whole.lowers whole.is in
      let all : is.front ≡ path = sym (append-nil is.front)
      ∙ ap (λ pieces. is.front ++ names_of pieces) (sym none) ∙ is.whole in
      record {
        path = path;
        numbered = numbered;
        leads = leads_for path (inode_of plan.directory) whole.upper (ap (λ l. slice_get l 0) whole.is)
            (ap (at_path (layer_of trees whole.upper)) (sym all) ∙ is.leads);
      }

module _ (trees : Filesystems) (overlay : UpperOverlayValue) (looked : IsLooked trees overlay) (node : NodeRef)
    (node_small : IsSmall node) (some : IsSome (object_shown trees overlay (number_of node)))
    (directory : is_directory_node (object_lent trees overlay node) ≡ true) (plan : Plan)
    (copies : AreCopiesOf true trees overlay node plan)
    (upper_is : plan.directory.filesystem.count ≡ upper_count overlay) where
  abbrev top : LayerRef
  top = looked.top

  abbrev f : ℕ
  f = plan.directory.filesystem.count

  abbrev tree : Tree ℕ
  tree = (files_at trees f).tree

  top_first : slice_get overlay.layers.lowers 0 ≡ Some top
  top_first = looked.first

  f_is : f ≡ top.directory.filesystem.count
  f_is = upper_is ∙ count_is trees overlay looked.stands top top_first

  layer_is_tree : IsTree tree
  layer_is_tree = subst (λ n. IsTree (files_at trees n).tree) (sym f_is) (looked.stands.layers 0 top top_first).tree

  -- names stand in order
  pub in_order : (number : ℕ) → is_sorted name_cmp (entries_in (tree.node number)) ≡ true
  in_order number = layer_is_tree.in_order number

  -- the upper layer's filesystem is there, and inodes may be promised in it
  more_promised : (inodes : ℕ)
      → inodes_promised (with_changed f (promising inodes) trees) f ≡ inodes_promised trees f + inodes
  more_promised inodes = promised_more f inodes trees (is_there trees f (inode_of top.directory)
      (subst (λ n. IsDirectory (files_at trees n).tree (inode_of top.directory)) (sym f_is)
      (looked.stands.layers 0 top top_first).directory))

  pub promised_for : (inodes : ℕ) → many plan < inodes
      → many plan < inodes_promised (with_changed f (promising inodes) trees) f
  promised_for inodes few = let more = more_promised inodes in omega (arith, more, few)

  -- the inode that the last copy was made of, or that which is there, is a directory
  pub last_directory : IsLastFit IsADirectory plan trees
  last_directory = fit_copies trees overlay IsADirectory directory_kind looked node node_small directory trees true plan
      copies (ap (files_at trees) (upper_is ∙ count_is trees overlay looked.stands _
      (is_first trees overlay looked.stands)))

  pub last_copied : 0 < length (in_turn plan)
      → IsLastOf IsADirectory (λ node. false ≡ true) (in_turn plan) None
  last_copied some_pieces = copies_last IsADirectory IsADirectory (λ node. false ≡ true) (in_turn plan) _ None some_pieces
      last_directory

  module _ (none : in_turn plan ≡ []) where
    pub directory_there : IsDirectory tree (inode_of plan.directory)
    directory_there = subst (λ pieces. IsLastOf IsADirectory IsADirectory pieces
        (tree.node (inode_of plan.directory))) none last_directory

    pub above_found : AreCopiesOf true trees overlay node plan → IsAbove trees overlay node plan.directory
    above_found = above_there trees overlay looked node node_small some plan none

    module _ (name : List ℕ) (may : MayPutIn trees overlay node name) (leaving : Option Leaving)
        (leads : option_map object_in leaving ≡ entry_at tree (inode_of plan.directory) name)
        (known : IfSome leaving (IsKnown trees plan.directory)) where
      abbrev at : IsAbove trees overlay node plan.directory
      at = above_found copies

      abbrev spot : Spot
      spot = record { directory = plan.directory; leaving = leaving; keeps = false }

      -- no directory has a name in itself
      not_itself : (object : ℕ) → entry_at tree (inode_of plan.directory) name ≡ Some object
          → nat_eq object (inode_of plan.directory) ≡ false
      not_itself object entry = by (nat_eq object (inode_of plan.directory)) refl
        where
          led_so : led tree (inode_of top.directory) at.path ≡ Some (inode_of plan.directory)
          led_so = ap (λ n. led (files_at trees n).tree (inode_of top.directory) at.path) f_is ∙ at.leads top top_first

          by : (b : Bool) → nat_eq object (inode_of plan.directory) ≡ b
              → nat_eq object (inode_of plan.directory) ≡ false
          by false e = e
          by true e =
              let same : object ≡ inode_of plan.directory = eqb-true object (inode_of plan.directory) e in
              let longer : led tree (inode_of top.directory) (at.path ++ name ∷ []) ≡ Some (inode_of plan.directory) =
              led-append tree (inode_of top.directory) at.path name (inode_of plan.directory) object led_so entry
              ∙ ap Some same in
              let path : at.path ++ name ∷ [] ≡ at.path =
              one_path tree layer_is_tree (inode_of top.directory) (at.path ++ name ∷ []) at.path (inode_of plan.directory)
              longer led_so directory_there in
              let long = ap length path in
              let sum = length-append at.path (name ∷ []) in
              absurd (let no : ⊥ = omega (arith, long, sum) in no)

      freed_so : (l : Leaving) → leaving ≡ Some l → MayBeFreed trees plan.directory l
      freed_so l e =
          let is : IsKnown trees plan.directory l = subst (λ o. IfSome o (IsKnown trees plan.directory)) e known in
          let entry : entry_at tree (inode_of plan.directory) name ≡ Some (object_in l) =
          sym leads ∙ ap (option_map object_in) e in
          record {
            filesystem = is.filesystem;
            known = is.known;
            other = not_itself (object_in l) entry;
            emptied = record {
              order = layer_is_tree.in_order (object_in l);
              plain = λ word one leads_on. may.plain plan.directory (object_in l) one word at upper_is entry leads_on;
              few = is.few;
            };
          }

      all_freed : (o : Option Leaving) → leaving ≡ o → IfSome o (MayBeFreed trees plan.directory)
      all_freed None e = tt
      all_freed (Some l) e = freed_so l e

      pub has_name : HasName trees spot name
      has_name = record {
        directory_there = directory_there;
        leads = sym leads;
        leaves = all_freed leaving refl;
        used = subst (λ n. NamesAreUsed (inodes_at trees n)) (sym upper_is) may.used;
      }

      -- the name is as it was once inodes are promised
      module _ (inodes : ℕ) where
        abbrev promised : Filesystems
        promised = with_changed f (promising inodes) trees

        still : inodes_at promised f ≡ inodes_at trees f
        still = promised_inodes f inodes trees

        freed_still : (l : Leaving) → MayBeFreed trees plan.directory l → MayBeFreed promised plan.directory l
        freed_still l is =
            let count : l.object.filesystem.count ≡ f = ap (λ (id : FilesystemId). id.count) is.filesystem in
            let node : (files_at promised l.object.filesystem.count).tree.node (inode_of l.object)
            ≡ (files_at trees l.object.filesystem.count).tree.node (inode_of l.object) =
            ap (λ n. (files_at promised n).tree.node (inode_of l.object)) count
            ∙ ap (λ (files : FileTree ℕ). files.tree.node (inode_of l.object)) (promised_files f inodes trees)
            ∙ ap (λ n. (files_at trees n).tree.node (inode_of l.object)) (sym count) in
            record {
              filesystem = is.filesystem;
              known = record {
                names = is.known.names ∙ ap names_in (sym node);
                inodes = is.known.inodes ∙ ap targets_in (sym node);
                own = is.known.own;
              };
              other = is.other;
              emptied = subst (λ all. MayBeEmptied all (inode_of l.object)) (sym still) is.emptied;
            }

        each_still : (o : Option Leaving) → IfSome o (MayBeFreed trees plan.directory)
            → IfSome o (MayBeFreed promised plan.directory)
        each_still None is = tt
        each_still (Some l) is = freed_still l is

        pub name_there : HasName promised spot name
        name_there = record {
          directory_there = ap (λ (files : FileTree ℕ). is_directory_node (files.tree.node (inode_of plan.directory)))
              (promised_files f inodes trees) ∙ has_name.directory_there;
          leads = ap (λ (files : FileTree ℕ). entry_at files.tree (inode_of plan.directory) name)
              (promised_files f inodes trees) ∙ has_name.leads;
          leaves = each_still leaving has_name.leaves;
          used = subst NamesAreUsed (sym still) has_name.used;
        }

        -- so is its place, with room for one name
        pub there_ready : (births : BirthsValue) (room : ℕ) → 0 < inodes
            → length (entries_in (tree.node (inode_of plan.directory))) + 1 ≤ room
            → IsPlaceReady (There spot) name promised births room
        there_ready births room more has_room =
            let enough = more_promised inodes in
            let same = ap (λ (files : FileTree ℕ). length (entries_in (files.tree.node (inode_of plan.directory))))
            (promised_files f inodes trees) in (
              name_there,
              omega (arith, enough, more),
              omega (arith, same, has_room),
            )

-- where a directory shows nothing under a name, what has it in the upper layer is a whiteout, and has nothing in it
module _ (trees : Filesystems) (overlay : UpperOverlayValue) (stands : StandsAbove trees overlay) (node : NodeRef)
    (name : List ℕ) where
  whole : AreSplit overlay.layers.lowers
  whole = split_layers overlay.layers.lowers stands.upper

  whole_first : slice_get overlay.layers.lowers 0 ≡ Some whole.upper
  whole_first = ap (λ l. slice_get l 0) whole.is

  module _ (directory : InodeRef) (object : ℕ) (at : IsAbove trees overlay node directory)
      (count : directory.filesystem.count ≡ upper_count overlay)
      (entry : entry_at (files_at trees directory.filesystem.count).tree (inode_of directory) name ≡ Some object) where
    abbrev tree_in : Tree ℕ
    tree_in = (files_at trees directory.filesystem.count).tree

    whole_count : directory.filesystem.count ≡ whole.upper.directory.filesystem.count
    whole_count = count ∙ count_is trees overlay stands whole.upper whole_first

    -- where a path leads that shows nothing is a whiteout
    white_at : (path : List (List ℕ)) (number : ℕ)
        → at_path (layer_of trees whole.upper) path ≡ Some number
        → shown (layers_of trees overlay.layers.lowers) path ≡ None → IsWhite (tree_in.node number)
    white_at path number leads none = white_so (tree_in.node number)
        (ap (λ n. is_kind_in White ((files_at trees n).tree.node number)) whole_count
        ∙ when_none (is_kind_in White ((files_at trees whole.upper.directory.filesystem.count).tree.node number))
        (record { layer = 0; object = number })
        (sym (shown_first trees overlay.layers.lowers whole.upper whole_first path number leads) ∙ none))

    longer : at_path (layer_of trees whole.upper) (at.path ++ name ∷ []) ≡ Some object
    longer = led-append (layer_of trees whole.upper).tree (inode_of whole.upper.directory) at.path name
        (inode_of directory) object (at.leads whole.upper whole_first)
        (ap (λ n. entry_at (files_at trees n).tree (inode_of directory) name) (sym whole_count) ∙ entry)

    longest : (word : List ℕ) (one : ℕ) → entry_at tree_in object word ≡ Some one
        → at_path (layer_of trees whole.upper) (at.path ++ name ∷ word ∷ []) ≡ Some one
    longest word one leads =
        ap (at_path (layer_of trees whole.upper)) (sym (append_assoc at.path (name ∷ []) (word ∷ [])))
        ∙ led-append (layer_of trees whole.upper).tree (inode_of whole.upper.directory) (at.path ++ name ∷ []) word
        object one longer
        (ap (λ n. entry_at (files_at trees n).tree object word) (sym whole_count) ∙ leads)

  pub white_there : MayMakeIn trees overlay node name → (directory : InodeRef) (object : ℕ)
      → IsAbove trees overlay node directory → directory.filesystem.count ≡ upper_count overlay
      → entry_at (files_at trees directory.filesystem.count).tree (inode_of directory) name ≡ Some object
      → IsWhite ((files_at trees directory.filesystem.count).tree.node object)
  white_there may directory object at count entry =
      white_at directory object at count entry (at.path ++ name ∷ []) object (longer directory object at count entry)
      (may.free at.path at.numbered)

  pub may_put : MayMakeIn trees overlay node name → MayPutIn trees overlay node name
  may_put may = record {
    shown_there = may.shown_there;
    directory = may.directory;
    plain = λ directory object one word at count entry leads.
        let white = white_at directory object at count entry (at.path ++ name ∷ []) object
        (longer directory object at count entry) (may.free at.path at.numbered) in
        absurd (true≢false (ap is_some (sym leads ∙ ap (entry_named word) white.empty)));
    used = may.used;
  }

  pub may_take : MayRemoveFrom trees overlay node name → MayPutIn trees overlay node name
  may_take may = record {
    shown_there = may.shown_there;
    directory = may.directory;
    plain = λ directory object one word at count entry leads.
        (white_at directory object at count entry (at.path ++ name ∷ word ∷ []) one
        (longest directory object at count entry word one leads) (may.bare at.path word at.numbered)).other;
    used = may.used;
  }
