-- The root of a mount: its uses change together with the mounts of its filesystem.
use Rattle.std.proofs.Common.{◌≡◌, refl, sym, ap, ◌∙◌, ℕ, ◌+◌, ◌-◌, Bool, true, false, cond, nat_eq, List, [], ◌∷◌, Option, Some, None, option_map, is_some, eq-eqb, not, Result, Ok, Err, OnOk}
use Rattle.vt_spec.proofs.Common.{Inodes, lookup, pinned, unpinned, uses_in, ⊤}
use Rattle.indexmap.specs.IndexMap.{IndexMap, WritesThrough, get_by}
use Rattle.vt_location.specs.declared.numbers.FilesystemId.{FilesystemId}
use Rattle.vt_location.specs.Numbers.{exchanged}
use Rattle.vt_fs.specs.Trees.TreeValue.{TreeValue, inodes_of}
use Rattle.vt_fs.specs.declared.filesystems.Filesystem.{Filesystem}
use Rattle.vt_fs.specs.FilesystemsValue.{FilesystemEntry, Filesystems, HoldsRoot, LeavesRoot, changed_if, entry_at, entry_of, held, inodes_at, mounted_once_less, seen_in, with_changed, with_tree, without, without_unmounted}
use Rattle.vt_fs.proofs.Entries.{absent_changed, held_apart, is_key, key_eq, mounts_of-held, tree_of-held, writes}
use Rattle.vt_fs.proofs.Renamed.{by_numbers, pinned_by_numbers, unpinned_by_numbers, uses_by_numbers}
use Rattle.vt_fs.proofs.Nowhere.{pinned_none, unpinned_none}
use Rattle.vt_fs.proofs.Standing.{Standing, at_look, changes_seen, entry_nowhere, nothing_changes, nowhere}

-- What a tree has in a slot it has by its number

module _ (f : ℕ) (tree : TreeValue) (slot number : ℕ) (same : exchanged f slot ≡ number) where
  pub uses_seen : uses_in ((seen_in f tree).inode number) ≡ uses_in ((inodes_of tree).inode slot)
  uses_seen = (λ i. uses_in ((seen_in f tree).inode (sym same i))) ∙ uses_by_numbers f (inodes_of tree) slot

  pub pin_seen : (new : TreeValue) → inodes_of new ≡ pinned nat_eq (inodes_of tree) slot
      → seen_in f new ≡ pinned nat_eq (seen_in f tree) number
  pin_seen new is = ap (by_numbers f) is ∙ sym (pinned_by_numbers f (inodes_of tree) slot)
      ∙ ap (pinned nat_eq (seen_in f tree)) same

  pub unpin_seen : (new : TreeValue) → inodes_of new ≡ unpinned nat_eq (inodes_of tree) slot
      → seen_in f new ≡ unpinned nat_eq (seen_in f tree) number
  unpin_seen new is = ap (by_numbers f) is ∙ sym (unpinned_by_numbers f (inodes_of tree) slot)
      ∙ ap (unpinned nat_eq (seen_in f tree)) same

module _ (f : ℕ) (tree : TreeValue) (number : ℕ) (none : (inodes_of tree).inode (exchanged f number) ≡ None) where
  none_seen : (seen_in f tree).inode number ≡ None
  none_seen = ap (option_map _) none

  pub no_uses_seen : uses_in ((seen_in f tree).inode number) ≡ 0
  no_uses_seen = ap uses_in none_seen

  pub no_pin_seen : pinned nat_eq (seen_in f tree) number ≡ seen_in f tree
  no_pin_seen = pinned_none (seen_in f tree) number none_seen

  pub no_unpin_seen : unpinned nat_eq (seen_in f tree) number ≡ seen_in f tree
  no_unpin_seen = unpinned_none (seen_in f tree) number none_seen

-- One change after another of the same filesystem

with_both : (f : ℕ) (tree : TreeValue) (change : FilesystemEntry → FilesystemEntry) (fs : Filesystems)
    → with_changed f change (with_tree f tree fs) ≡ with_changed f (λ entry. change (record entry { tree = tree })) fs
with_both f tree change [] = refl
with_both f tree change (e ∷ fs) = λ i. by (nat_eq f e.count) refl i ∷ with_both f tree change fs i
  where
    by : (b : Bool) → nat_eq f e.count ≡ b → changed_if f change (cond b (record e { tree = tree }) e)
        ≡ cond b (change (record e { tree = tree })) e
    by true is = ap (λ b. cond b (change (record e { tree = tree })) (record e { tree = tree })) is
    by false is = ap (λ b. cond b (change e) e) is

same_with : (f : ℕ) (fs : Filesystems) → with_changed f (λ entry. entry) fs ≡ fs
same_with f [] = refl
same_with f (e ∷ fs) = λ i. by (nat_eq f e.count) i ∷ same_with f fs i
  where
    by : (b : Bool) → cond b e e ≡ e
    by true = refl
    by false = refl

pub on_ok_both : {E : Type 0} {A B P : Type 0} (result : Result ⊤ E) → (A → B → P) → OnOk result A → OnOk result B
    → OnOk result P
on_ok_both (Ok value) so a b = so a b
on_ok_both (Err refused) so a b = tt

absent_without : (f : ℕ) (fs : Filesystems) → entry_of fs f ≡ None → without f fs ≡ fs
absent_without f [] absent = refl
absent_without f (e ∷ fs) absent = by (nat_eq f e.count) absent (absent_without f fs)
  where
    by : (b : Bool) → cond b (Some e) (entry_of fs f) ≡ None → (entry_of fs f ≡ None → without f fs ≡ fs)
        → cond (not b) (e ∷ without f fs) (without f fs) ≡ e ∷ fs
    by true found rest = absurd cc
    by false absent rest = ap (λ l. e ∷ l) (rest absent)

-- What was written to the filesystem of a count

module _ {S : Type 0} (f number : ℕ) (m n : IndexMap FilesystemId Filesystem S) (fs : Filesystems) (x w : Filesystem)
    (view : held m.entries ≡ fs) (there : get_by (is_key f) m ≡ Some x) (through : WritesThrough key_eq (is_key f) m w n)
  where
    standing : Standing fs f x.tree
    standing = record {
      apart = held_apart m.entries fs view;
      found = ap (λ fs. option_map (λ (entry : FilesystemEntry). entry.tree) (entry_of fs f)) (sym view)
          ∙ sym (tree_of-held f m.entries (Some x) (sym there));
    }

    pub kept_root : w ≡ x → held n.entries ≡ fs
    kept_root same = writes f (λ one. one) (λ entry. entry) m n fs x w view there same (λ k one. refl) through
        ∙ same_with f fs

    pub holds_root : seen_in f w.tree ≡ pinned nat_eq (seen_in f x.tree) number → w.mounts ≡ x.mounts + 1
        → HoldsRoot f number fs (held n.entries)
    holds_root tree mounts = record {
      between = with_tree f w.tree fs;
      pins = changes_seen f (λ inodes. pinned nat_eq inodes number) fs w.tree x.tree standing tree;
      mounted = writes f (λ one. record { tree = w.tree; mounts = one.mounts + 1 })
          (λ entry. record entry { tree = w.tree; mounts = entry.mounts + 1 }) m n fs x w view there
          (λ i. record { tree = w.tree; mounts = mounts i }) (λ k one. refl) through
          ∙ sym (with_both f w.tree (λ entry. record entry { mounts = entry.mounts + 1 }) fs);
    }

    pub leaves_root : seen_in f w.tree ≡ unpinned nat_eq (seen_in f x.tree) number → w.mounts ≡ x.mounts - 1
        → (new : Filesystems) → new ≡ cond (nat_eq w.mounts 0) (without f (held n.entries)) (held n.entries)
        → LeavesRoot f number fs new
    leaves_root tree mounts new is =
        let left : held n.entries ≡ mounted_once_less f (with_tree f w.tree fs) =
        writes f (λ one. record { tree = w.tree; mounts = one.mounts - 1 })
        (λ entry. record entry { tree = w.tree; mounts = entry.mounts - 1 }) m n fs x w view there
        (λ i. record { tree = w.tree; mounts = mounts i }) (λ k one. refl) through
        ∙ sym (with_both f w.tree (λ entry. record entry { mounts = entry.mounts - 1 }) fs) in
        let found : lookup (is_key f) n.entries ≡ Some w = (through.3 (ap is_some there)).0 (record { count = f })
        ∙ ap (λ b. cond b (Some w) (lookup (is_key f) m.entries)) (eq-eqb f f refl) in
        record {
          between = with_tree f w.tree fs;
          unpins = changes_seen f (λ inodes. unpinned nat_eq inodes number) fs w.tree x.tree standing tree;
          left = is ∙ ap (λ many. cond (nat_eq many 0) (without f (held n.entries)) (held n.entries))
              (sym (mounts_of-held f n.entries (held n.entries) w refl found))
              ∙ ap (without_unmounted f) left;
        }

-- What is kept under a count

module _ (f number : ℕ) (es : List (FilesystemId × Filesystem)) (fs : Filesystems) (view : held es ≡ fs) where
  pub mounts_there : (x : Filesystem) → lookup (is_key f) es ≡ Some x → (entry_at fs f).mounts ≡ x.mounts
  mounts_there x there = mounts_of-held f es fs x view there

  tree_there : (o : Option Filesystem) → lookup (is_key f) es ≡ o
      → option_map (λ (entry : FilesystemEntry). entry.tree) (entry_of fs f)
      ≡ option_map (λ (found : Filesystem). found.tree) o
  tree_there o there = ap (λ fs. option_map (λ (entry : FilesystemEntry). entry.tree) (entry_of fs f)) (sym view)
      ∙ sym (tree_of-held f es o (sym there))

  pub root_uses_there : (x : Filesystem) → lookup (is_key f) es ≡ Some x
      → uses_in ((inodes_at fs f).inode number) ≡ uses_in ((seen_in f x.tree).inode number)
  root_uses_there x there = ap (λ (all : Inodes _). uses_in (all.inode number))
      (at_look fs f x.tree (tree_there (Some x) there) seen_in)

  pub none_there : lookup (is_key f) es ≡ None
      → option_map (λ (entry : FilesystemEntry). entry.tree) (entry_of fs f) ≡ None
  none_there none = tree_there None none

-- and where there is none of that count

module _ (f number : ℕ) (fs new : Filesystems) (same : new ≡ fs)
    (absent : option_map (λ (entry : FilesystemEntry). entry.tree) (entry_of fs f) ≡ None) where
  pub holds_none : HoldsRoot f number fs new
  holds_none = record {
    between = fs;
    pins = nothing_changes f _ fs fs refl absent;
    mounted = same ∙ sym (absent_changed f (λ entry. record entry { mounts = entry.mounts + 1 }) fs
        (nowhere fs f absent));
  }

  pub leaves_none : LeavesRoot f number fs new
  leaves_none = record {
    between = fs;
    unpins = nothing_changes f _ fs fs refl absent;
    left = same ∙ sym (ap (λ n. cond (nat_eq n 0) (without f fs) fs)
        (ap (λ (entry : FilesystemEntry). entry.mounts) (entry_nowhere fs f absent))
        ∙ absent_without f fs (nowhere fs f absent))
        ∙ ap (without_unmounted f) (sym (absent_changed f (λ entry. record entry { mounts = entry.mounts - 1 }) fs
        (nowhere fs f absent)));
  }
