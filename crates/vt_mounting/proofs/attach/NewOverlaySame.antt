-- The code's world with a new overlay, and the one with the plain filesystems that are kept once its layers are held:
-- the same but for the order of the numbers beside trees.
use Rattle.std.proofs.Common.{◌≡◌, refl, sym, ap, subst, ◌∙◌, inl, inr, ℕ, nat_eq, nat_lt, eqb-true, lt-ltb, Bool, true, false, cond, List, [], ◌∷◌, ◌++◌, map, Option, Some, None, is_some, arith, le-ltb}
use Rattle.vt_spec.proofs.Common.{Filesystem, Inode as Counted, Inodes, SameFiles, SameFilesystem, SameFilesystems, SameWorlds, Tree, common_steps, folded, map-append, node_in, pinned, tree_of, used_once_more}
use Rattle.vt_mounting.proofs.Common.{Among, FilesystemEntry, Filesystems, Inode, IsHeld, Shown, WorldValue, among-from_map, counted, filesystem_seen, filesystems_seen, inodes_seen, numbers_apart_each, numbers_listed, numbers_seen, overlay_of_store, overlay_seen, overlays_seen, pinned_if, put_in, same_numbers_are_permuted, sameness_is_an_equivalence, shown, shown_entry, world_of, woven, woven_lists_are_alike}
use Rattle.vt_fs.specs.FilesystemsValue.{files_seen}
use Rattle.vt_store.specs.OverlaysValue as stored
use Rattle.vt_mounting.proofs.detach.PlainFound.{overlay_among}
use Rattle.vt_mounting.proofs.attach.NewBase.{put_before}
use Rattle.vt_mounting.proofs.attach.NewFilesystems.{filesystem_counted, number_below}
use Rattle.vt_mounting.proofs.attach.NewOverlayUses.{held_by, overlay_last}

-- An overlay with a greater number than all is woven last

put_behind : (over : Filesystem ℕ) (list : List (Filesystem ℕ))
    → ((f : Filesystem ℕ) → Among f list → nat_lt f.number over.number ≡ true) → put_in over list ≡ list ++ over ∷ []
put_behind over [] above = refl
put_behind over (first ∷ rest) above =
    ap (λ b. cond b (first ∷ put_in over rest) (over ∷ first ∷ rest)) (above first (inl refl))
    ∙ ap (λ list. first ∷ list) (put_behind over rest (λ f m. above f (inr m)))

over_last : (plain overlays : List (Filesystem ℕ)) (over : Filesystem ℕ)
    → ((f : Filesystem ℕ) → Among f plain → nat_lt f.number over.number ≡ true)
    → ((f : Filesystem ℕ) → Among f overlays → nat_lt over.number f.number ≡ false)
    → woven plain (overlays ++ over ∷ []) ≡ woven plain overlays ++ over ∷ []
over_last plain [] over above below = put_behind over plain above
over_last plain (first ∷ rest) over above below =
    ap (put_in first) (over_last plain rest over above (λ f m. below f (inr m)))
    ∙ put_before first over (below first (inl refl)) (woven plain rest)

-- Uses change no tree

pinned_tree : (inodes : Inodes ℕ) (number : ℕ) → tree_of (pinned nat_eq inodes number) ≡ tree_of inodes
pinned_tree inodes number = λ i. record {
  root = inodes.root;
  node = λ other. by other (nat_eq other number) (eqb-true other number) i;
}
  where
    same : (o : Option (Counted ℕ)) → node_in (used_once_more o) ≡ node_in o
    same None = refl
    same (Some inode) = refl

    by : (other : ℕ) (b : Bool) → (b ≡ true → other ≡ number)
        → node_in (cond b (used_once_more (inodes.inode number)) (inodes.inode other)) ≡ node_in (inodes.inode other)
    by other true e = same (inodes.inode number) ∙ ap (λ n. node_in (inodes.inode n)) (sym (e refl))
    by other false e = refl

all_pinned_tree : (filesystem : ℕ) (layers : List Inode) (inodes : Inodes ℕ)
    → tree_of (folded (pinned_if filesystem) inodes layers) ≡ tree_of inodes
all_pinned_tree filesystem [] inodes = refl
all_pinned_tree filesystem (inode ∷ rest) inodes = grind (arith, common_steps, all_pinned_tree filesystem rest)

-- the same tree, the same files
same_tree_same_files : (a b : FilesystemEntry) → tree_of (inodes_seen a) ≡ tree_of (inodes_seen b)
    → SameFiles (files_seen a) (files_seen b)
same_tree_same_files a b same = record {
  tree = same;
  numbers = same_numbers_are_permuted (numbers_seen a) (numbers_seen b) (numbers_apart_each a) (numbers_apart_each b)
      (λ number. numbers_listed a number ∙ ap (λ (tree : Tree ℕ). is_some (tree.node number)) same
      ∙ sym (numbers_listed b number));
}

same_when_held : (layers : List Inode) (was entry : FilesystemEntry)
    → shown_entry entry ≡ held_by layers (shown_entry was)
    → SameFilesystem (filesystem_seen was) (filesystem_seen entry)
same_when_held layers was entry is = record {
  number = ap (λ (one : Shown). counted one.count) (sym is);
  files = same_tree_same_files was entry
      (sym (ap (λ (one : Shown). tree_of one.inodes) is ∙ all_pinned_tree (counted was.count) layers (inodes_seen was)));
  overlay = refl;
}

pub all_same_when_held : (layers : List Inode) (old new : Filesystems) → shown new ≡ map (held_by layers) (shown old)
    → SameFilesystems (filesystems_seen old) (filesystems_seen new)
all_same_when_held layers [] [] is = tt
all_same_when_held layers [] (entry ∷ new) is = absurd cc
all_same_when_held layers (was ∷ old) [] is = absurd cc
all_same_when_held layers (was ∷ old) (entry ∷ new) is =
    let heads : shown_entry entry ≡ held_by layers (shown_entry was) = cc in
    let tails : map shown_entry new ≡ map (held_by layers) (map shown_entry old) = cc in
    (same_when_held layers was entry heads, all_same_when_held layers old new tails)

-- so the worlds are
pub same_with_layers_held : {value : WorldValue} → IsHeld value → (base : Filesystems) (entry : stored.OverlayEntry)
    (layers : List Inode) → entry.count ≡ value.next → shown base ≡ map (held_by layers) (shown value.filesystems)
    → SameWorlds (overlay_last value base entry) (record (world_of value) {
      filesystems = woven (filesystems_seen base) (overlays_seen (value.overlays ++ overlay_of_store base entry ∷ []));
    })
same_with_layers_held {value} whole base entry layers count_is is = record {
  mounts = refl;
  master = refl;
  filesystems = subst (λ list. SameFilesystems list (woven (filesystems_seen base)
      (overlays_seen (value.overlays ++ overlay_of_store base entry ∷ []))))
      (ap (woven (filesystems_seen value.filesystems))
      (map-append overlay_seen value.overlays (overlay_of_store base entry ∷ []))
      ∙ over_last (filesystems_seen value.filesystems) (overlays_seen value.overlays)
      (overlay_seen (overlay_of_store base entry))
      (λ f m. let from = among-from_map filesystem_seen value.filesystems f m in
      let low = filesystem_counted value whole from.0 from.1 in
      ap (λ (g : Filesystem ℕ). nat_lt g.number (counted entry.count)) from.2
      ∙ lt-ltb (counted from.0.count) (counted entry.count) (omega (arith, low, count_is)))
      (λ f m. let low = number_below value whole f (overlay_among value whole.overlays f m).0 in
      le-ltb (counted entry.count) f.number (omega (arith, low, count_is))))
      (woven_lists_are_alike (filesystems_seen value.filesystems)
      (overlays_seen (value.overlays ++ overlay_of_store base entry ∷ [])) (filesystems_seen base)
      (overlays_seen (value.overlays ++ overlay_of_store base entry ∷ []))
      (all_same_when_held layers value.filesystems base is)
      (sameness_is_an_equivalence.itself (record (world_of value) {
        filesystems = overlays_seen (value.overlays ++ overlay_of_store base entry ∷ []);
      })).filesystems);
  namespaces = refl;
  tasks = refl;
}
