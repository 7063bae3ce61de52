-- What the permit that mounts an overlay leaves: the plain filesystems that are kept once the layers are held, the
-- overlay that these show, and a mount of it, but for the order of the numbers beside trees.
use Rattle.std.proofs.Common.{◌≡◌, refl, sym, ap, subst, ◌∙◌, ℕ, nat_eq, true, false, ◌||◌, List, [], ◌∷◌, ◌++◌, map, flat_map, length, Some, None, is_some, All}
use Rattle.vt_spec.proofs.Common.{Filesystem, Fresh, Location, MergedInode, MountFlags, Overlay, SameFiles, SameFilesystem, SameWorlds, Task, ToMountOverlay, Tree, World, attach, evens, evens-distinct, inode_count, is_among, length_permutation, list_all, list_any, list_any-IsPermutation, merged_inodes, merged_objects, named_in, new_mount, odds, open_layer, overlay_filesystem, served-distinct, shown_layers, targets_in, with_new_filesystem}
use Rattle.vt_spec.specs.Machine.Merging.{tree_of}
use Rattle.vt_spec.specs.Machine.Mounts as meant
use Rattle.vt_mounting.proofs.Common.{AreLayers, Filesystems, Inode, IsGivenToTask, IsHeld, OverlayValue, ShowsLayer, ShowsLayers, WorldValue, alike_from_same, all_from_among, counted, filesystems_seen, found_by_number, found_same, has_only_named, inodes_are_the_tree, inodes_have_their_objects, layer_seen, overlay_of_store, overlay_seen, overlays_seen, same_numbers_are_permuted, sameness_is_an_equivalence, shown, with_objects, world_of, woven}
use Rattle.vt_laws_trees.proofs.layers.directories.Merged.{merged_lists_numbers}
use Rattle.vt_laws_trees.specs.Layers.Layers.Mounted as mounted
use Rattle.vt_laws_trees.proofs.runs.answered.AlikeAttached.{attach_alike}
use Rattle.vt_laws_trees.proofs.runs.answered.AlikeWorlds.{Alike, alike_onward, same_from_alike}
use Rattle.vt_world.specs.OverlaysKept.Inodes.{inodes_kept}
use Rattle.vt_laws_worlds.proofs.overlays_let_go.mounting.NewOverlays.{new_mounts_of_overlays_keep_all, new_overlays_are_named}
use Rattle.vt_world.proofs.overlays_made.Numbers.{made_overlays_are_same}
use Rattle.vt_world.specs.OverlaysMade.Made.{handed_in, overlay_shown}
use Rattle.vt_laws_trees.proofs.runs.Each.{each_append}
use Rattle.vt_laws_trees.proofs.runs.Permuted.{IsPermutation-flat_map, list_all-IsPermutation}
use Rattle.vt_overlay.specs.declared.merge.layers.LayerRef.{LayerRef}
use Rattle.vt_overlay.specs.MergedTree as Kept
use Rattle.vt_layered.proofs.StayingKinds.{layered_stay}
use Rattle.vt_layered.specs.Staying.{ShowsTheSame}
use Rattle.vt_world.proofs.overlays_kept.inodes.InodesAbove.{layered_inodes_stay}
use Rattle.vt_store.specs.Laws.{IsSameLayer}
use Rattle.vt_store.specs.OverlaysValue as stored
use Rattle.vt_mounting.specs.Detach.Events.{layer_kept, left_by, overlay_kept, supply_of}
use Rattle.vt_mounting.specs.Detach.Stored.{layer_of}
use Rattle.vt_mounting.proofs.detach.LowerKept as low
use Rattle.vt_mounting.proofs.detach.OverlayGranted.{NamesLayers, kept_layers, lowers_seen, overlay_names}
use Rattle.vt_mounting.proofs.attach.NewOverlaySame.{all_same_when_held, same_with_layers_held}
use Rattle.vt_mounting.proofs.attach.NewOverlayUses.{held_by, overlay_last}
use Rattle.vt_world.proofs.overlays_made.Numbers.{once_apart}

-- Trees of inodes

-- where two of them are one tree, they have the same numbers beside it
same_inodes : (root again : ℕ) (one other : List (MergedInode ℕ))
    → (tree_of nat_eq root one).tree ≡ (tree_of nat_eq again other).tree
    → SameFiles (tree_of nat_eq root one) (tree_of nat_eq again other)
same_inodes root again one other same = record {
  tree = same;
  numbers = same_numbers_are_permuted (tree_of nat_eq root one).numbers (tree_of nat_eq again other).numbers
      (once_apart (map (λ (inode : MergedInode ℕ). inode.number) one))
      (once_apart (map (λ (inode : MergedInode ℕ). inode.number) other))
      (λ n. merged_lists_numbers root one n ∙ ap (λ (tree : Tree ℕ). is_some (tree.node n)) same
      ∙ sym (merged_lists_numbers again other n));
}

-- What is named does not depend on the order of the numbers.
pub named_same : (a b : Filesystem ℕ) → SameFilesystem a b → has_only_named a ≡ has_only_named b
named_same a b same =
    list_all-IsPermutation (λ n. nat_eq n a.files.tree.root || is_among nat_eq n (named_in a.files)) a.files.numbers
    b.files.numbers same.files.numbers
    ∙ (λ i. list_all (λ n. nat_eq n (same.files.tree i).root || among n i) b.files.numbers)
  where
    among : (n : ℕ) → is_among nat_eq n (named_in a.files) ≡ is_among nat_eq n (named_in b.files)
    among n = list_any-IsPermutation (nat_eq n)
        (flat_map (λ directory. targets_in (a.files.tree.node directory)) a.files.numbers)
        (flat_map (λ directory. targets_in (a.files.tree.node directory)) b.files.numbers)
        (IsPermutation-flat_map (λ directory. targets_in (a.files.tree.node directory)) a.files.numbers b.files.numbers
        same.files.numbers) ∙ (λ i. list_any (nat_eq n)
        (flat_map (λ directory. targets_in ((same.files.tree i).node directory)) b.files.numbers))

-- An overlay is shown as it was, once its layers are held.
module _ (old base : Filesystems) (entry : stored.OverlayEntry)
    (layers : List Inode) (held : shown base ≡ map (held_by layers) (shown old)) where
  same_layer : (layer : LayerRef) → IsSameLayer old base layer
  same_layer layer =
      let count = layer.directory.filesystem.count in
      let alike = found_same (counted count) (filesystems_seen old) (filesystems_seen base)
      (all_same_when_held layers old base held) in
      record {
        tree = ap (λ (f : Filesystem ℕ). f.files.tree) (sym (found_by_number base count)) ∙ sym alike.files.tree
            ∙ ap (λ (f : Filesystem ℕ). f.files.tree) (found_by_number old count);
        numbers = ap (λ (f : Filesystem ℕ). length f.files.numbers) (sym (found_by_number base count))
            ∙ length_permutation _ _ alike.files.numbers
            ∙ ap (λ (f : Filesystem ℕ). length f.files.numbers) (found_by_number old count);
      }

  shown_when_held : ShowsTheSame old base entry.overlay entry.above
  shown_when_held = layered_stay old base entry.overlay entry.above
      (all_from_among (IsSameLayer old base) entry.overlay.lowers (λ layer m. same_layer layer))

  pub overlay_stays_when_held : overlay_of_store base entry ≡ overlay_of_store old entry
  overlay_stays_when_held = λ i. record (overlay_of_store old entry) {
    root = (shown_when_held.files i).tree.root;
    inodes = layered_inodes_stay old base entry.overlay entry.above shown_when_held i;
  }

-- The policy grants a task an overlay without an upper layer.
pub record IsOverlayGiven (value : WorldValue) (task : Task ℕ) (place : Location ℕ) (overlay : Overlay ℕ)
    (flags : MountFlags) : Type 0 where
  pub whole : IsHeld value
  pub given : IsGivenToTask (supply_of value (ToMountOverlay place overlay flags)) (world_of value) task
      (ToMountOverlay place overlay flags)
  pub lower : overlay.upper ≡ None

-- and this is its entry
pub record IsEntryOf (value : WorldValue) (overlay : Overlay ℕ) (entry : stored.OverlayEntry) : Type 0 where
  pub kept : entry.overlay ≡ overlay_kept value.next overlay
  pub no_upper : entry.above ≡ None
  pub count_is : entry.count ≡ value.next

module _ {value : WorldValue} {task : Task ℕ} {place : Location ℕ} {overlay : Overlay ℕ} {flags : MountFlags}
    (granted : IsOverlayGiven value task place overlay flags) where
  open granted use {whole, given, lower}

  abbrev world : World ℕ
  world = world_of value

  abbrev fresh : Fresh ℕ
  fresh = supply_of value (ToMountOverlay place overlay flags)

  pub names_layers : NamesLayers (world_of value) task place overlay
  names_layers =
      overlay_names value whole (supply_of value (ToMountOverlay place overlay flags)) task given.called given.call
      place overlay flags given.judged

  distinct : (j k : ℕ) → fresh j ≡ fresh k → j ≡ k
  distinct = served-distinct world fresh given.serves

  abbrev made : Filesystem ℕ
  made = overlay_filesystem nat_eq (evens fresh) world overlay

  abbrev made_inodes : List (MergedInode ℕ)
  made_inodes = merged_inodes nat_eq (odds (evens fresh)) (is_some overlay.upper)
      (map (open_layer nat_eq world) (shown_layers overlay))
      (merged_objects (map (open_layer nat_eq world) (shown_layers overlay)) (inode_count world))

  -- nothing goes, so what is left is the world with the overlay that is made
  left_is : left_by value task (ToMountOverlay place overlay flags)
      ≡ attach nat_eq (with_new_filesystem world made) (odds fresh) place false
      (new_mount made.number made.files.tree.root flags ∷ [])
  left_is =
      new_mounts_of_overlays_keep_all fresh world task place overlay flags whole.in_world names_layers.layers distinct
      (ap is_some names_layers.to.own)

  module _ {entry : stored.OverlayEntry} (is_entry : IsEntryOf value overlay entry) where
    open is_entry use {kept, no_upper, count_is}

    lowers_are : map layer_kept overlay.lowers ≡ entry.overlay.lowers
    lowers_are = sym (ap (λ (o : OverlayValue). o.lowers) kept)

    pub shows_layers : ShowsLayers (world_of value) value.filesystems entry.overlay
    shows_layers =
        let both = kept_layers value whole overlay lower names_layers.layers in
        record {
          are = subst (AreLayers value.filesystems) lowers_are both.0;
          all = subst (All (ShowsLayer world value.filesystems)) lowers_are both.1;
        }

    -- an overlay without a work directory is seen as it was, once it is kept
    pub seen_again : overlay.work ≡ None → overlay.real ≡ (λ number. None) → overlay ≡ Kept.overlay_seen entry.overlay
    seen_again none unmade = λ i. record {
      upper = lower i;
      work = none i;
      lowers = (sym (lowers_seen value whole overlay lower names_layers.layers) ∙ ap (map layer_seen) lowers_are) i;
      mounter = sym (ap (λ (o : OverlayValue). o.mounter) kept) i;
      real = unmade i;
    }

    module _ (seen : overlay ≡ Kept.overlay_seen entry.overlay) where
      abbrev shown_over : Filesystem ℕ
      shown_over = overlay_seen (overlay_of_store value.filesystems entry)

      supply_is : fresh ≡ handed_in world value.filesystems entry.overlay
      supply_is = ap (handed_in world value.filesystems) (sym kept)

      made_as_shown : SameFilesystem made (overlay_shown value.filesystems entry.overlay)
      made_as_shown = subst (λ (f : Filesystem ℕ). SameFilesystem f (overlay_shown value.filesystems entry.overlay))
          (λ i. overlay_filesystem nat_eq (evens (sym supply_is i)) world (sym seen i))
          (made_overlays_are_same world value.filesystems entry.overlay whole.in_world
          (subst (mounted.AreLayers world) seen names_layers.layers) shows_layers
          (subst (λ (supply : Fresh ℕ). (j k : ℕ) → supply j ≡ supply k → j ≡ k) supply_is distinct))

      made_lower : SameFilesystem made (overlay_seen (low.lower_entry entry no_upper value.filesystems))
      made_lower = record {
        number = made_as_shown.number ∙ ap counted (ap (λ (o : OverlayValue). o.number.count) kept ∙ sym count_is);
        files = same_inodes (odds (evens fresh) 0) (Kept.merged_tree value.filesystems entry.overlay).root made_inodes
            (inodes_kept value.filesystems entry.overlay)
            (made_as_shown.files.tree ∙ sym (inodes_are_the_tree value.filesystems entry.overlay));
        overlay = made_as_shown.overlay ∙ (λ i. Some (record (with_objects value.filesystems entry.overlay) {
          real = sym (inodes_have_their_objects value.filesystems entry.overlay shows_layers.are) i;
        }));
      }

      -- it is the one that a store shows
      made_same : SameFilesystem made shown_over
      made_same = subst (λ one. SameFilesystem made (overlay_seen one))
          (sym (low.stored_are entry no_upper value.filesystems)) made_lower

      module _ (base : Filesystems)
          (held : shown base ≡ map (held_by (map layer_of entry.overlay.lowers)) (shown value.filesystems)) where
        abbrev over : Filesystem ℕ
        over = overlay_seen (overlay_of_store base entry)

        abbrev over_base : World ℕ
        over_base = record (world_of value) {
          filesystems =
              woven (filesystems_seen base) (overlays_seen (value.overlays ++ overlay_of_store base entry ∷ []));
        }

        over_same : SameFilesystem made over
        over_same = subst (λ one. SameFilesystem made (overlay_seen one))
            (sym (overlay_stays_when_held value.filesystems base entry (map layer_of entry.overlay.lowers)
            held)) made_same

        -- each of its inodes has a name
        pub new_overlay_is_named : has_only_named (overlay_seen (overlay_of_store base entry)) ≡ true
        new_overlay_is_named = sym (named_same made over over_same)
            ∙ new_overlays_are_named (evens fresh) world overlay whole.in_world names_layers.layers
            (evens-distinct fresh distinct)

        worlds_alike : Alike (with_new_filesystem world made) over_base
        worlds_alike =
            let itself = alike_from_same world world (sameness_is_an_equivalence.itself world) in
            alike_onward (with_new_filesystem world made) (overlay_last value base entry) over_base (record {
              mounts = refl;
              master = refl;
              filesystems = each_append SameFilesystem world.filesystems world.filesystems (made ∷ []) (over ∷ [])
                  itself.filesystems (over_same, tt);
              namespaces = itself.namespaces;
              tasks = itself.tasks;
            }) (alike_from_same (overlay_last value base entry) over_base
            (same_with_layers_held whole base entry (map layer_of entry.overlay.lowers) count_is held))

        -- so with its mount the world is what the permit leaves
        pub overlay_left : SameWorlds (left_by value task (ToMountOverlay place overlay flags))
            (attach nat_eq (record (world_of value) {
              filesystems =
                  woven (filesystems_seen base) (overlays_seen (value.overlays ++ overlay_of_store base entry ∷ []));
            }) (odds (supply_of value (ToMountOverlay place overlay flags))) place false
            (new_mount (counted value.next) (overlay_seen (overlay_of_store base entry)).files.tree.root flags ∷ []))
        overlay_left = subst (λ (w : World ℕ). SameWorlds w (attach nat_eq over_base (odds fresh) place false
            (new_mount (counted value.next) over.files.tree.root flags ∷ []))) (sym left_is)
            (subst (λ (tree : List (meant.Mount ℕ)). SameWorlds (attached_made) (attach nat_eq over_base (odds fresh) place
            false tree))
            (λ i. new_mount ((over_same.number ∙ ap counted count_is) i) (over_same.files.tree i).root flags ∷ [])
            (same_from_alike attached_made (attach nat_eq over_base (odds fresh) place false made_tree)
            (attach_alike (odds fresh) place false made_tree (with_new_filesystem world made) over_base worlds_alike)))
          where
            made_tree : List (meant.Mount ℕ)
            made_tree = new_mount made.number made.files.tree.root flags ∷ []

            attached_made : World ℕ
            attached_made = attach nat_eq (with_new_filesystem world made) (odds fresh) place false made_tree
