-- What is planned for an object without a name.
use Rattle.std.proofs.Common.{◌≡◌, ◌∙◌, ◌+◌, ◌<◌, ap, arith, Bool, false, IsSome, is_some, nat_eq, None, option_map, Option, refl, slice_get, Some, suc, sym, true, true≢false, zero, ℕ}
use Rattle.vt_spec.proofs.Common.{Content, FileTree, Node, is_directory_node, none_is_some, same_Some, then_some}
use Rattle.vt_spec.specs.Tree.Content.{Directory, Regular, Symlink, Whiteout}
use Rattle.vt_births.specs.Births.{BirthsValue, copy_of, is_born_below, slot_above, slot_by}
use Rattle.vt_copyup.specs.Copied.{copied}
use Rattle.vt_copyup.specs.Plans.{CopiesAreThere}
use Rattle.vt_copyup.proofs.Changed.{is_there, promised_files, promised_more}
use Rattle.vt_copyup.specs.declared.unnamed.UnnamedPlan.{UnnamedPlan}
use Rattle.vt_fs.specs.FilesystemsValue.{Filesystems, files_at, inodes_promised, node_seen, promising, with_changed}
use Rattle.vt_location.specs.declared.births.Birth.{Birth}
use Rattle.vt_location.specs.declared.births.Birth.TheVariants.{Below, Here}
use Rattle.vt_location.specs.declared.locations.InodeRef.{InodeRef}
use Rattle.vt_location.specs.declared.locations.NodeRef.{NodeRef}
use Rattle.vt_location.specs.declared.numbers.FilesystemId.{FilesystemId}
use Rattle.vt_location.specs.Locations.{inode_of}
use Rattle.vt_location.specs.Numbers.{inode_number}
use Rattle.vt_overlay.specs.Alike.{lent_at}
use Rattle.vt_overlay.specs.Merge.LayerValue.{seen_of}
use Rattle.vt_overlay.specs.declared.merge.layers.LayerRef.{LayerRef}
use Rattle.vt_overlay.specs.declared.merge.layers.Real.{Real as Object}
use Rattle.vt_overlay.specs.MergedTree.{real_in}
use Rattle.vt_upper.specs.Changes.{IsFit}
use Rattle.vt_upper.specs.KeptChanges.{IsCopyOfKept, IsKeptFit, IsKeptReady, IsUnnamedCopy, many_kept, upper_of}
use Rattle.vt_upper.specs.declared.changing.ObjectChange.{ObjectChange}
use Rattle.vt_upper.specs.declared.keeping.KeptObject.{KeptObject}
use Rattle.vt_upper.specs.declared.keeping.KeptObject.TheVariants.{Copied, There}
use Rattle.vt_upper.proofs.LastMade.{fit_of}
use Rattle.vt_upper_overlay.specs.MergedAbove.{count_of, lent, object_lent, upper_count}
use Rattle.vt_upper_overlay.specs.Standing.{StandsAbove}
use Rattle.vt_upper_overlay.specs.UpperValue.{UpperOverlayValue, real_at, real_by}
use Rattle.vt_upper_overlay.proofs.Objects.{is_placed}

-- nodes by slots are of the same kind
seen_kind : (f : ℕ) (node : Option (Node ℕ)) → is_directory_node (option_map (node_seen f) node) ≡ is_directory_node node
seen_kind f None = refl
seen_kind f (Some node) = by node.content
  where
    by : (content : Content ℕ)
        → is_directory_node (Some (node_seen f (record { attr = node.attr; content = content })))
        ≡ is_directory_node (Some (record { attr = node.attr; content = content }))
    by (Directory parent entries opaque) = refl
    by (Regular bytes) = refl
    by (Symlink text) = refl
    by Whiteout = refl

seen_there : (f : ℕ) (node : Option (Node ℕ)) → is_some (option_map (node_seen f) node) ≡ is_some node
seen_there f None = refl
seen_there f (Some node) = refl

-- what is copied is of the same kind
copied_kind : (with_bytes : Bool) (node : Node ℕ)
    → is_directory_node (Some (copied with_bytes node)) ≡ is_directory_node (Some node)
copied_kind with_bytes node = by with_bytes node.content
  where
    by : (with_bytes : Bool) (content : Content ℕ)
        → is_directory_node (Some (copied with_bytes (record { attr = node.attr; content = content })))
        ≡ is_directory_node (Some (record { attr = node.attr; content = content }))
    by true (Directory parent entries opaque) = refl
    by true (Regular bytes) = refl
    by true (Symlink text) = refl
    by true Whiteout = refl
    by false (Directory parent entries opaque) = refl
    by false (Regular bytes) = refl
    by false (Symlink text) = refl
    by false Whiteout = refl

module _ (trees : Filesystems) (overlay : UpperOverlayValue) (node : NodeRef) (real : Object)
    (is : real_at overlay node ≡ Some real) where
  -- the object is that of its layer
  object_is : {X : Type 0} (look : Option (Node ℕ) → X)
      → ((f : ℕ) (node : Option (Node ℕ)) → look (option_map (node_seen f) node) ≡ look node)
      → look (object_lent trees overlay node)
      ≡ look ((files_at trees real.inode.filesystem.count).tree.node (inode_of real.inode))
  object_is look keeps = ap (λ o. look (lent trees overlay (option_map seen_of o))) is
      ∙ by (slice_get overlay.layers.lowers real.layer) (is_placed trees overlay node real is)
    where
      by : (o : Option LayerRef)
          → option_map (λ (layer : LayerRef). layer.directory.filesystem) o ≡ Some real.inode.filesystem
          → look (then_some o (lent_at trees (inode_of real.inode)))
          ≡ look ((files_at trees real.inode.filesystem.count).tree.node (inode_of real.inode))
      by None t = none_is_some real.inode.filesystem t
      by (Some lower) t =
          let same = same_Some lower.directory.filesystem real.inode.filesystem t in
          keeps lower.directory.filesystem.count
          ((files_at trees lower.directory.filesystem.count).tree.node (inode_of real.inode))
          ∙ ap (λ (id : FilesystemId). look ((files_at trees id.count).tree.node (inode_of real.inode))) same

  pub object_there : IsSome (object_lent trees overlay node)
      → is_some ((files_at trees real.inode.filesystem.count).tree.node (inode_of real.inode)) ≡ true
  object_there some = sym (object_is is_some seen_there) ∙ some

  object_kind : is_directory_node (object_lent trees overlay node)
      ≡ is_directory_node ((files_at trees real.inode.filesystem.count).tree.node (inode_of real.inode))
  object_kind = object_is is_directory_node seen_kind

  -- what is below the upper layer was born there, and has no copy
  no_slot : 0 < real.layer → slot_above overlay.nodes.births node ≡ None
  no_slot below = by (slot_above overlay.nodes.births node) refl
    where
      first : (slot : ℕ) (o : Option LayerRef) → option_map (real_in 0 slot) o ≡ Some real → real.layer ≡ 0
      first slot None e = none_is_some real e
      first slot (Some layer) e = sym (ap (λ (r : Object). r.layer) (same_Some (real_in 0 slot layer) real e))

      by : (o : Option ℕ) → slot_above overlay.nodes.births node ≡ o → slot_above overlay.nodes.births node ≡ None
      by None e = e
      by (Some slot) e =
          let top = first slot (slice_get overlay.layers.lowers 0) (ap (real_by overlay node) (sym e) ∙ is) in
          absurd (let no : ⊥ = omega (arith, top, below) in no)

  pub born_below : 0 < real.layer → (is_born_below node ≡ true) × (copy_of overlay.nodes.births node ≡ None)
  born_below below = by node.birth refl
    where
      none : slot_above overlay.nodes.births node ≡ None
      none = no_slot below

      by : (birth : Birth) → node.birth ≡ birth
          → (is_born_below node ≡ true) × (copy_of overlay.nodes.births node ≡ None)
      by Here e = absurd (true≢false (ap is_some (sym (ap (slot_by overlay.nodes.births node) e) ∙ none)))
      by (Below layer directory rank) e = (
        ap Rattle.vt_births.specs.Births.is_below e,
        sym (ap (slot_by overlay.nodes.births node) e) ∙ none,
      )

  -- the plan of a copy
  pub unnamed_copy : is_some ((files_at trees real.inode.filesystem.count).tree.node (inode_of real.inode)) ≡ true
      → nat_eq real.layer 0 ≡ false → (upper : LayerRef) → slice_get overlay.layers.lowers 0 ≡ Some upper
      → (with_bytes : Bool) (copy : UnnamedPlan)
      → ((inode : Node ℕ) → (files_at trees real.inode.filesystem.count).tree.node (inode_of real.inode) ≡ Some inode
      → copy.node ≡ copied with_bytes inode)
      → copy.born ≡ node → copy.upper ≡ upper.directory.filesystem
      → IsUnnamedCopy with_bytes trees overlay node copy
  unnamed_copy there not_above upper first with_bytes copy same born in_upper =
      by ((files_at trees real.inode.filesystem.count).tree.node (inode_of real.inode)) refl there
    where
      positive : (n : ℕ) → nat_eq n 0 ≡ false → 0 < n
      positive zero e = absurd (true≢false e)
      positive (suc n) e = omega arith

      by : (o : Option (Node ℕ))
          → (files_at trees real.inode.filesystem.count).tree.node (inode_of real.inode) ≡ o → is_some o ≡ true
          → IsUnnamedCopy with_bytes trees overlay node copy
      by None e is_one = absurd cc
      by (Some inode) e _ = record {
        real = real;
        is = is;
        below = positive real.layer not_above;
        inode = inode;
        there = e;
        copies = same inode e;
        born = born;
        upper = λ other at. in_upper ∙ ap (λ (l : LayerRef). l.directory.filesystem)
            (same_Some upper other (sym first ∙ at));
      }

module _ (trees : Filesystems) (overlay : UpperOverlayValue) (stands : StandsAbove trees overlay) (node : NodeRef)
    (upper : LayerRef) (first : slice_get overlay.layers.lowers 0 ≡ Some upper) where
  abbrev f : ℕ
  f = upper.directory.filesystem.count

  abbrev births : BirthsValue
  births = overlay.nodes.births

  pub upper_count_is : upper_count overlay ≡ f
  upper_count_is = ap count_of first

  above : (real : Object) → real_at overlay node ≡ Some real → real.layer ≡ 0
      → real.inode.filesystem ≡ upper.directory.filesystem
  above real is top = same_Some real.inode.filesystem upper.directory.filesystem
      (sym (is_placed trees overlay node real is)
      ∙ ap (λ n. option_map (λ (layer : LayerRef). layer.directory.filesystem) (slice_get overlay.layers.lowers n)) top
      ∙ ap (option_map (λ (layer : LayerRef). layer.directory.filesystem)) first)

  -- it is, or will be, in the upper layer
  pub in_upper : (with_bytes : Bool) (kept : KeptObject) → IsCopyOfKept with_bytes trees overlay node kept
      → upper_of upper.directory.filesystem kept ≡ upper.directory.filesystem
  in_upper with_bytes (There object) is = ap (λ (i : InodeRef). i.filesystem) is.same ∙ above is.real is.is is.above
  in_upper with_bytes (Copied copy) is = is.upper upper first

  module _ (n : ℕ) where
    abbrev promised : Filesystems
    promised = with_changed f (promising n) trees

    more_promised : inodes_promised promised f ≡ inodes_promised trees f + n
    more_promised = promised_more f n trees (is_there trees f (inode_of upper.directory)
        (stands.layers 0 upper first).directory)

    pub kept_ready : (with_bytes : Bool) (kept : KeptObject) → IsCopyOfKept with_bytes trees overlay node kept
        → CopiesAreThere trees (upper_count overlay) births → n ≡ many_kept kept
        → IsKeptReady kept promised (record births { promised = births.promised + n })
    kept_ready with_bytes (There object) is _ many = tt
    kept_ready with_bytes (Copied copy) is there many =
        let count : copy.upper.count ≡ f = ap (λ (id : FilesystemId). id.count) (is.upper upper first) in
        let below = born_below trees overlay node is.real is.is is.below in
        let one : n ≡ 1 = many in
        record {
          there = λ slot one e.
              (λ i. is_some ((files_at promised (count i)).tree.node (inode_number (count i) slot)))
              ∙ ap (λ (files : FileTree ℕ). is_some (files.tree.node (inode_number f slot))) (promised_files f n trees)
              ∙ (λ i. is_some ((files_at trees (sym upper_count_is i)).tree.node (inode_number (sym upper_count_is i) slot)))
              ∙ there slot one e;
          inode =
              let same = ap (inodes_promised promised) count in
              let more = more_promised in omega (arith, same, more, one);
          birth = omega (arith, one);
          below = ap is_born_below is.born ∙ below.0;
          new = ap (copy_of births) is.born ∙ below.1;
        }

    pub kept_fit : (change : ObjectChange) (with_bytes : Bool) (kept : KeptObject)
        → IsCopyOfKept with_bytes trees overlay node kept → IsFit change (object_lent trees overlay node)
        → IsKeptFit (IsFit change) kept promised
    kept_fit change with_bytes (There object) is fit =
        let at : object.filesystem.count ≡ f =
        ap (λ (i : InodeRef). i.filesystem.count) is.same ∙ ap (λ (id : FilesystemId). id.count)
        (above is.real is.is is.above) in
        let same : (files_at promised object.filesystem.count).tree.node (inode_of object)
        ≡ (files_at trees is.real.inode.filesystem.count).tree.node (inode_of is.real.inode) =
        ap (λ k. (files_at promised k).tree.node (inode_of object)) at
        ∙ ap (λ (files : FileTree ℕ). files.tree.node (inode_of object)) (promised_files f n trees)
        ∙ ap (λ k. (files_at trees k).tree.node (inode_of object)) (sym at)
        ∙ ap (λ (i : InodeRef). (files_at trees i.filesystem.count).tree.node (inode_of i)) is.same in
        fit_of change (object_lent trees overlay node)
        ((files_at promised object.filesystem.count).tree.node (inode_of object))
        (object_kind trees overlay node is.real is.is ∙ ap is_directory_node (sym same)) fit
    kept_fit change with_bytes (Copied copy) is fit =
        fit_of change (object_lent trees overlay node) (Some copy.node)
        (object_kind trees overlay node is.real is.is ∙ ap is_directory_node is.there
        ∙ sym (copied_kind with_bytes is.inode) ∙ ap (λ n. is_directory_node (Some n)) (sym is.copies)) fit
