-- The world with the changed inodes in it is the world after the change.
use Rattle.std.proofs.Common.{arith, ◌≡◌, refl, sym, ap, subst, ◌∙◌, ℕ, nat_eq, List, [], ◌∷◌, map, is_some}
use Rattle.vt_spec.proofs.Common.{FileTree, Filesystem, SameFilesystem, SameFilesystems, SameWorlds, common_steps, is_some-node_in, replaced_if_numbered}
use Rattle.vt_laws_mounts.specs.LettingGo.TreeChanges.{with_tree}
use Rattle.vt_laws_mounts.specs.Counts.BesideOverlays.{CountedChangesAreSweptBesideOverlays, CountedChangesAreSweptOf, IsChangeInUse}
use Rattle.vt_laws_mounts.specs.Counts.Changing.{CountedChangesAreSwept, filesystem_of}
use Rattle.vt_laws_mounts.specs.Counts.Rows.{CountedRowsAreSwept}
use Rattle.vt_laws_mounts.proofs.counts.changing.Changes
use Rattle.vt_laws_mounts.proofs.counts.changing.Rows
use Rattle.vt_laws_mounts.proofs.counts.Listed.{among_by_times, same_numbers_are_permuted}
use Rattle.vt_laws_rules.proofs.same.SameMany.{same_filesystem_itself}

-- two worlds that differ in the order of the numbers of one filesystem
same_filesystems : (one other : Filesystem ℕ) → one.number ≡ other.number → SameFilesystem one other
    → (filesystems : List (Filesystem ℕ)) → SameFilesystems (map (replaced_if_numbered nat_eq one) filesystems)
    (map (replaced_if_numbered nat_eq other) filesystems)
same_filesystems one other number same [] = tt
same_filesystems one other number same (first ∷ rest) =
    grind (arith, common_steps, same_filesystem_itself, same_filesystems one other number same rest)

pub counted_rows_are_swept : CountedRowsAreSwept
counted_rows_are_swept world number inodes row is files tree once lists =
    subst (SameWorlds (with_tree world number files)) (sym (Rows.after_is world number inodes row is)) (record {
      mounts = refl;
      master = refl;
      filesystems = same_filesystems _ _ refl (record {
        number = refl;
        files = record { tree = same_tree; numbers = same_numbers };
        overlay = refl;
      }) _;
      namespaces = refl;
      tasks = refl;
    })
  where
    left : FileTree ℕ
    left = Rows.left world number inodes row is

    same_tree : files.tree ≡ left.tree
    same_tree = tree ∙ (λ i. record {
      root = (Rows.counted_then world number inodes row is).root i;
      node = λ n. (Rows.counted_then world number inodes row is).node n i;
    })

    same_numbers : Rattle.std.specs.List.Sorted.IsPermutation files.numbers left.numbers
    same_numbers = same_numbers_are_permuted files.numbers left.numbers once
        (Rows.counted_then world number inodes row is).once (λ n. lists n ∙ ap (λ t. is_some (t.node n)) tree
        ∙ is_some-node_in _ ∙ sym (among_by_times n _ _ (Rows.left_times world number inodes row is n)))

pub counted_changes_are_swept_in_use : CountedChangesAreSweptOf IsChangeInUse
counted_changes_are_swept_in_use fresh world location inodes change is files tree once lists =
    subst (SameWorlds (with_tree world (filesystem_of world location) files))
    (sym (Changes.after_is fresh world location inodes change is))
    (counted_rows_are_swept world (filesystem_of world location) inodes (change ∷ [])
    (Changes.row fresh world location inodes change is) files tree once lists)

pub counted_changes_are_swept_beside_overlays : CountedChangesAreSweptBesideOverlays
counted_changes_are_swept_beside_overlays fresh world location inodes change is files tree once lists =
    counted_changes_are_swept_in_use fresh world location inodes change
    (Changes.worlds_are_in_use world location inodes change is) files tree once lists

pub counted_changes_are_swept : CountedChangesAreSwept
counted_changes_are_swept fresh world location inodes change is files tree once lists =
    counted_changes_are_swept_beside_overlays fresh world location inodes change
    (Changes.is_change_of_plain world location inodes change is) files tree once lists
