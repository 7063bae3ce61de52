-- Changes by which no name goes leave all.
use Rattle.std.proofs.Common.{◌≡◌, refl, sym, ap, ◌∙◌, ℕ, ◌≤◌, nat_eq, Bool, true, false, cond, [], ◌∷◌, map, is_some, arith}
use Rattle.vt_spec.proofs.Common.{Change, FileTree, Fits, Inodes, common_steps, eqb_tells, is_among, is_some-node_in, list_all, node_in, pinned}
use Rattle.vt_spec.specs.Language.Changes
use Rattle.vt_spec.specs.Inodes.{changed}
use Rattle.vt_laws_mounts.specs.LettingGo.TreeChanges.{with_tree}
use Rattle.vt_laws_mounts.proofs.letting_go.Lists.{is_among_numbers, list_all_from_among}
use Rattle.vt_laws_mounts.proofs.counts.counting.Times.{among_times, times_in}
use Rattle.vt_laws_mounts.specs.Counts.BesideOverlays.{IsChangeInUse, NamesKeepAllBesideOverlays, NamesKeepAllOf}
use Rattle.vt_laws_mounts.specs.Counts.Changing.{NamesKeepAll, TakesNoName, filesystem_of}
use Rattle.vt_laws_mounts.specs.Counts.Rows.{IsRowInUse}
use Rattle.vt_laws_mounts.proofs.counts.changing.Changes as After
use Rattle.vt_laws_mounts.proofs.counts.changing.Rows
use Rattle.vt_laws_mounts.proofs.counts.using.Swept
use Rattle.vt_laws_mounts.proofs.counts.using.Swept.{base_of}
use Rattle.vt_laws_mounts.proofs.counts.changing.TreeCounts.{IsStart, IsTallied, changed_same}

-- a use more leaves the node
pinned_same : (inodes : Inodes ℕ) (object n : ℕ)
    → node_in ((pinned nat_eq inodes object).inode n) ≡ node_in (inodes.inode n)
pinned_same inodes object n = grind (arith, common_steps, eqb_tells)

-- the changed inodes are those of the changed tree
module _ (base : ℕ → ℕ) (files : FileTree ℕ) (inodes : Inodes ℕ)
    (start : IsStart base files.tree.node files.numbers inodes) where
  nodes_same : (change : Change ℕ) → Fits inodes change → TakesNoName change → (n : ℕ)
      → node_in ((changed nat_eq inodes change).inode n) ≡ (Changes.changed nat_eq files change).tree.node n
  nodes_same change fits none n = grind (arith, common_steps, changed_same, pinned_same)

pub names_keep_all_in_use : NamesKeepAllOf IsChangeInUse
names_keep_all_in_use fresh world location inodes change is keeps =
    After.after_is fresh world location inodes change is ∙ Rows.after_is world number inodes (change ∷ []) row
    ∙ ap (with_tree world number) (sym (Swept.all_kept world number files is.in_use is.one_filesystem is.plain there
    tallied.once all_used)) ∙ sym (After.raw_is fresh world location inodes change is)
  where
    number : ℕ
    number = filesystem_of world location

    row : IsRowInUse world number inodes (change ∷ [])
    row = After.row fresh world location inodes change is

    before : FileTree ℕ
    before = (Rows.old world number inodes (change ∷ []) row).files

    files : FileTree ℕ
    files = Rows.files world number inodes (change ∷ []) row

    there : is_among nat_eq number (map (λ f. f.number) world.filesystems) ≡ true
    there = Rows.filesystem_there world number inodes (change ∷ []) row

    start : IsStart (base_of world
        (Rows.old world number inodes (change ∷ []) row)) before.tree.node before.numbers inodes
    start = Rows.start world number inodes (change ∷ []) row

    tallied : IsTallied (base_of world
        (Rows.old world number inodes (change ∷ []) row)) files.tree.node files.numbers (changed nat_eq inodes change)
    tallied = Rows.row_tallied world number inodes (change ∷ []) row

    is_used : (n : ℕ) → is_among nat_eq n (Swept.used world number files is.in_use is.one_filesystem is.plain there)
        ≡ is_some ((changed nat_eq inodes change).inode n)
    is_used = Swept.used_there world number files is.in_use is.one_filesystem is.plain there
        (changed nat_eq inodes change) (Rows.counted_root world number inodes (change ∷ []) row)
        (Rows.row_root world number inodes (change ∷ []) row) tallied

    all_used : list_all (λ n. is_among nat_eq n (Swept.used world number files is.in_use is.one_filesystem is.plain
        there)) files.numbers ≡ true
    all_used = list_all_from_among _ _ (λ n m. is_used n ∙ sym (is_some-node_in _) ∙ ap is_some
        (nodes_same _ before inodes start change is.fits keeps n) ∙ stands n _ (tallied.once n)
        (among_times n _ (is_among_numbers n _ m)))
      where
        stands : (n : ℕ) (b : Bool) → times_in n files.numbers ≡ cond b 1 0 → 1 ≤ times_in n files.numbers → b ≡ true
        stands n true e some = refl
        stands n false e some = absurd (omega arith)

pub names_keep_all_beside_overlays : NamesKeepAllBesideOverlays
names_keep_all_beside_overlays fresh world location inodes change is keeps =
    names_keep_all_in_use fresh world location inodes change
    (After.worlds_are_in_use world location inodes change is) keeps

pub names_keep_all : NamesKeepAll
names_keep_all fresh world location inodes change is keeps =
    names_keep_all_beside_overlays fresh world location inodes change
    (After.is_change_of_plain world location inodes change is) keeps
