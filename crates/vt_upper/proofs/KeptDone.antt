-- An object without a name, once its copy is made.
use Rattle.std.proofs.Common.{◌≡◌, ◌∙◌, ◌<◌, ap, arith, cond, is_some, nat_eq, None, Option, refl, Some, subst, sym, true, ℕ}
use Rattle.vt_spec.proofs.Common.{Inodes, nat_eq_itself, node_in}
use Rattle.vt_births.specs.Births.{BirthsValue}
use Rattle.vt_copyup.proofs.Changed.{inodes_after}
use Rattle.vt_fs.specs.FilesystemsValue.{FilesystemEntry, Filesystems, entry_of, files_at, inodes_at, inodes_promised, no_entry}
use Rattle.vt_fs.specs.Trees.TreeValue.{with_unnamed}
use Rattle.vt_laws_worlds.specs.Merging.UpperChanges.{copy_node}
use Rattle.vt_location.specs.declared.locations.InodeRef.{InodeRef}
use Rattle.vt_location.specs.declared.numbers.FilesystemId.{FilesystemId}
use Rattle.vt_location.specs.Locations.{inode_of}
use Rattle.vt_upper.specs.Changes.{IsFit}
use Rattle.vt_upper.specs.KeptChanges.{IsKeptFit, IsKeptMade, IsKeptReady, upper_of}
use Rattle.vt_upper.specs.declared.changing.ObjectChange.{ObjectChange}
use Rattle.vt_upper.specs.declared.keeping.KeptObject.{KeptObject}
use Rattle.vt_upper.specs.declared.keeping.KeptObject.TheVariants.{Copied, There}
use Rattle.vt_upper.proofs.LastMade.{copy_kind, fit_of}

-- where inodes are promised, a filesystem is
promised_there : (trees : Filesystems) (f : ℕ) → 0 < inodes_promised trees f → is_some (entry_of trees f) ≡ true
promised_there trees f some = by (entry_of trees f) refl
  where
    by : (o : Option FilesystemEntry) → entry_of trees f ≡ o → is_some (entry_of trees f) ≡ true
    by None e =
        let none = ap (λ o. (Rattle.std.specs.Prelude.unwrap_or o (no_entry f)).tree.promised) e in
        absurd (let no : ⊥ = omega (arith, none, some) in no)
    by (Some entry) e = ap is_some e

module _ (change : ObjectChange) (kept : KeptObject) (trees : Filesystems) (births : BirthsValue) (after : Filesystems)
    (births_after : BirthsValue) (object : InodeRef) where
  pub fits_made : IsKeptReady kept trees births → IsKeptFit (IsFit change) kept trees
      → IsKeptMade kept trees births after births_after object
      → IsFit change ((files_at after object.filesystem.count).tree.node (inode_of object))
  fits_made ready fit made = by kept ready fit made
    where
      by : (kept : KeptObject) → IsKeptReady kept trees births → IsKeptFit (IsFit change) kept trees
          → IsKeptMade kept trees births after births_after object
          → IsFit change ((files_at after object.filesystem.count).tree.node (inode_of object))
      by (There there) ready fit made =
          subst (IsFit change) (λ i. (files_at (sym made.trees_stay i) (sym made.object_is i).filesystem.count).tree.node
          (inode_of (sym made.object_is i))) fit
      by (Copied copy) ready fit made =
          let o = inode_of object in
          let n = copy_node o copy.node in
          let node : (files_at after copy.upper.count).tree.node o ≡ Some n =
          ap (λ (inodes : Inodes ℕ). node_in (inodes.inode o)) (inodes_after copy.upper.count
          (λ inodes. with_unnamed nat_eq inodes o n) trees after made.made
          (promised_there trees copy.upper.count ready.inode))
          ∙ ap (λ b. node_in (cond b (Some (record { node = n; uses = 1 })) ((inodes_at trees copy.upper.count).inode o)))
          (nat_eq_itself o) in
          subst (IsFit change) (sym (ap (λ (id : FilesystemId). (files_at after id.count).tree.node o) made.filesystem ∙ node))
          (fit_of change (Some copy.node) (Some n) (sym (copy_kind o copy.node)) fit)

pub made_in : (upper : FilesystemId) (kept : KeptObject) (trees : Filesystems) (births : BirthsValue) (after : Filesystems)
    (births_after : BirthsValue) (object : InodeRef) → IsKeptMade kept trees births after births_after object
    → object.filesystem ≡ upper_of upper kept
made_in upper (There _) trees births after births_after object made =
    ap (λ (i : InodeRef). i.filesystem) made.object_is
made_in upper (Copied copy) trees births after births_after object made = made.filesystem
