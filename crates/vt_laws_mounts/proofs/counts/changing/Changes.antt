-- Each change that fits, with the sweep after it: a row of one.
use Rattle.std.proofs.Common.{◌≡◌, ◌≢◌, refl, sym, ap, subst, ◌∙◌, ℕ, nat_eq, false, [], ◌∷◌, arith}
use Rattle.vt_spec.proofs.Common.{AddName, Change, CopyUp, FileTree, Fits, Fresh, Inodes, Location, Make, Move, Remove, SetAttr, SetBytes, SetMark, World, common_steps, filesystem_at, filesystem_numbered, is_overlay, node_in, settled, with_change}
use Rattle.vt_spec.specs.Language.Changes
use Rattle.vt_spec.specs.Inodes.{changed}
use Rattle.vt_laws_mounts.specs.LettingGo.TreeChanges.{with_tree}
use Rattle.vt_laws_mounts.proofs.letting_go.Lists.{among_from_all}
use Rattle.vt_laws_mounts.proofs.letting_go.sweeps.OfWorlds.{all_in_use, worlds_have_trees}
use Rattle.vt_laws_mounts.specs.Counts.Changing.{CountsFollowChanges, IsChange, OnlyFilesChange, OtherCountsStay, after_change, filesystem_of}
use Rattle.vt_laws_mounts.specs.Counts.BesideOverlays.{CountsFollowChangesBesideOverlays, CountsFollowChangesOf, IsChangeInUse, IsChangeOfPlain, OnlyFilesChangeBesideOverlays, OnlyFilesChangeOf, OtherCountsStayBesideOverlays, OtherCountsStayOf, WorldsAreInUse}
use Rattle.vt_laws_mounts.specs.Counts.Counted.{IsCounted}
use Rattle.vt_laws_mounts.specs.Counts.Rows.{IsNewNumber, IsRowInUse, after_row}
use Rattle.vt_laws_mounts.proofs.counts.changing.Rows
use Rattle.vt_laws_mounts.proofs.counts.changing.Rows.{counts_follow_rows, only_files_change_in_rows, other_counts_stay_in_rows}
use Rattle.vt_laws_mounts.proofs.counts.using.Swept.{found_is, there_if_counted}

-- before a change the tree has the inodes' nodes, so a number without an inode is new in the tree
new_number : (files : FileTree ℕ) (inodes : Inodes ℕ) (change : Change ℕ)
    → ((n : ℕ) → node_in (inodes.inode n) ≡ files.tree.node n) → Fits inodes change → IsNewNumber files change
new_number files inodes (Make directory name number node) same fits = sym (same number) ∙ ap node_in fits.2
new_number files inodes (AddName directory name object) same fits = tt
new_number files inodes (Remove directory name object) same fits = tt
new_number files inodes (Move from old to new object) same fits = tt
new_number files inodes (SetBytes file bytes) same fits = tt
new_number files inodes (SetAttr object attr) same fits = tt
new_number files inodes (SetMark directory opaque) same fits = tt
new_number files inodes (CopyUp object) same fits = tt

module _ (fresh : Fresh ℕ) (world : World ℕ) (location : Location ℕ) (inodes : Inodes ℕ) (change : Change ℕ)
    (is : IsChangeInUse world location inodes change) where
  abbrev number : ℕ
  number = filesystem_of world location

  pub row : IsRowInUse world number inodes (change ∷ [])
  row = record {
    in_use = is.in_use;
    trees = is.trees;
    one_filesystem = is.one_filesystem;
    plain = is.plain;
    counted = is.counted;
    fit = (
      is.fits,
      is.links,
      new_number (filesystem_numbered nat_eq world number).files inodes change is.counted.node is.fits,
      tt,
    );
  }

  -- before the sweep
  pub raw_is : with_change nat_eq fresh world location change
      ≡ with_tree world number (Changes.changed nat_eq (filesystem_numbered nat_eq world number).files change)
  raw_is = grind (arith, common_steps)

  pub after_is : after_change fresh world location change ≡ after_row world number (change ∷ [])
  after_is = ap (settled nat_eq) raw_is

  same_mount : filesystem_at nat_eq (after_row world number (change ∷ [])) location
      ≡ filesystem_numbered nat_eq (after_row world number (change ∷ [])) number
  same_mount = subst (λ w. filesystem_at nat_eq w location ≡ filesystem_numbered nat_eq w number)
      (sym (Rows.after_is world number inodes (change ∷ []) row)) refl

  only_files : after_change fresh world location change ≡ with_tree world number
      (filesystem_at nat_eq (after_change fresh world location change) location).files
  only_files = after_is ∙ only_files_change_in_rows world number inodes (change ∷ []) row
      ∙ ap (λ f. with_tree world number f.files)
      (sym (ap (λ w. filesystem_at nat_eq w location) after_is ∙ same_mount))

  counts_follow : IsCounted (after_change fresh world location change)
      (filesystem_at nat_eq (after_change fresh world location change) location) (changed nat_eq inodes change)
  counts_follow =
      subst (λ w. IsCounted w (filesystem_at nat_eq w location) (changed nat_eq inodes change)) (sym after_is)
      (subst (λ f. IsCounted (after_row world number (change ∷ [])) f (changed nat_eq inodes change)) (sym same_mount)
      (counts_follow_rows world number inodes (change ∷ []) row))

  others : (other : ℕ) (counts : Inodes ℕ) → other ≢ number
      → IsCounted world (filesystem_numbered nat_eq world other) counts
      → IsCounted (after_change fresh world location change)
      (filesystem_numbered nat_eq (after_change fresh world location change) other) counts
  others other counts apart counted =
      subst (λ w. IsCounted w (filesystem_numbered nat_eq w other) counts) (sym after_is)
      (other_counts_stay_in_rows world number inodes (change ∷ []) row other counts apart counted)

pub only_files_change_in_use : OnlyFilesChangeOf IsChangeInUse
only_files_change_in_use fresh world location inodes change is = only_files fresh world location inodes change is

pub counts_follow_changes_in_use : CountsFollowChangesOf IsChangeInUse
counts_follow_changes_in_use fresh world location inodes change is =
    counts_follow fresh world location inodes change is

pub other_counts_stay_in_use : OtherCountsStayOf IsChangeInUse
other_counts_stay_in_use fresh world location inodes change is other counts apart counted =
    others fresh world location inodes change is other counts apart counted

-- In a world with all invariants all is in use.
pub worlds_are_in_use : WorldsAreInUse
worlds_are_in_use world location inodes change is = record {
  in_use = all_in_use world is.in_world;
  trees = worlds_have_trees world is.in_world;
  one_filesystem = is.in_world.files.one_filesystem;
  plain = is.plain;
  counted = is.counted;
  fits = is.fits;
  links = is.links;
}

pub only_files_change_beside_overlays : OnlyFilesChangeBesideOverlays
only_files_change_beside_overlays fresh world location inodes change is =
    only_files fresh world location inodes change (worlds_are_in_use world location inodes change is)

pub counts_follow_changes_beside_overlays : CountsFollowChangesBesideOverlays
counts_follow_changes_beside_overlays fresh world location inodes change is =
    counts_follow fresh world location inodes change (worlds_are_in_use world location inodes change is)

pub other_counts_stay_beside_overlays : OtherCountsStayBesideOverlays
other_counts_stay_beside_overlays fresh world location inodes change is other counts apart counted =
    others fresh world location inodes change (worlds_are_in_use world location inodes change is) other counts apart
    counted

-- In a world of plain filesystems each location is in a plain one.
pub is_change_of_plain : (world : World ℕ) (location : Location ℕ) (inodes : Inodes ℕ) (change : Change ℕ)
    → IsChange world location inodes change → IsChangeOfPlain world location inodes change
is_change_of_plain world location inodes change is = record {
  in_world = is.in_world;
  plain = among_from_all (λ f. is_overlay f ≡ false) world.filesystems is.plain (filesystem_at nat_eq world location)
      (found_is world.filesystems (filesystem_of world location)
      (there_if_counted world (filesystem_of world location) inodes is.counted));
  counted = is.counted;
  fits = is.fits;
  links = is.links;
}

pub only_files_change : OnlyFilesChange
only_files_change fresh world location inodes change is =
    only_files_change_beside_overlays fresh world location inodes change
    (is_change_of_plain world location inodes change is)

pub counts_follow_changes : CountsFollowChanges
counts_follow_changes fresh world location inodes change is =
    counts_follow_changes_beside_overlays fresh world location inodes change
    (is_change_of_plain world location inodes change is)

pub other_counts_stay : OtherCountsStay
other_counts_stay fresh world location inodes change is other counts apart counted =
    other_counts_stay_beside_overlays fresh world location inodes change
    (is_change_of_plain world location inodes change is) other counts apart counted
