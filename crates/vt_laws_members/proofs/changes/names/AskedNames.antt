-- What a granted call of theirs that makes, gives or takes a name asks of a plain tree.
use Rattle.std.proofs.Common.{arith, ◌≡◌, refl, sym, ap, subst, ◌∙◌, ⊎_elim, ℕ, nat_eq, eq-eqb, true, false, true≢false, List, Some, is_some, map}
use Rattle.vt_spec.proofs.Common.{Call, Change, CopyUp, FileTree, Filesystem, IsTree, ListsNumbers, TaskName, World, among_numbers, changed, common_steps, filesystem_at, is_among, is_overlay, mount_at, or_cases, task_called, used_alone, used_filesystems, wholly_locked, with_files}
use Rattle.vt_laws_trees.specs.Trees.{IsProper}
use Rattle.vt_laws_trees.proofs.trees.ChangesKeepTrees.{changes_keep_numbers, changes_keep_trees}
use Rattle.vt_laws_trees.proofs.trees.TreesOfWorlds.{numbered_all, numbered_anyhow}
use Rattle.vt_laws_mounts.specs.LettingGo.FileChanges.{MayChange, names_lost}
use Rattle.vt_laws_members.proofs.Common.{AsksWell, AsksWellIf, ChangesFilesystem, ChangesTree, Inode, IsListedTree, SparesLocked, SparesLockedIf, all_locked, among-map, among_from_list_all, any_from_among, is_inode_among, list_all_from_among, name_found, no_objects, or_left, or_right, permits_ask_well, permits_spare_what_is_locked, used_are_free}
use Rattle.vt_laws_mounts.proofs.letting_go.leaving.NamesKept.{changes_keep_names}
use Rattle.vt_laws_worlds.proofs.overlay_permits.asked.AskedOverlays.{permits_ask_properly}
use Rattle.vt_laws_sealed.proofs.outsiders.FilesChanged.{IsCopy, written_not_spared, written_there, written_to}
use Rattle.vt_laws_members.proofs.changes.names.GrantedNames.{Names, NamingCall}

-- A plain tree that changes, and the names that it loses
module _ (world : World ℕ) (old : Filesystem ℕ) {files : FileTree ℕ} (plain : is_overlay old ≡ false) {unnamed : List ℕ}
    (changes : ChangesTree old.files files unnamed) where
  abbrev pub lost : List Inode
  lost = map (λ inode. (old.number, inode)) unnamed

  lost_name : (inode : ℕ) → is_among nat_eq inode unnamed ≡ true → is_inode_among old.number inode lost ≡ true
  lost_name inode is = any_from_among _ lost (old.number, inode) (among-map (λ k. (old.number, k)) unnamed inode
      (among_numbers unnamed inode is)) (cc (eq-eqb old.number old.number refl, eq-eqb inode inode refl))

  pub tree_changes : (after : World ℕ) → ChangesFilesystem after lost old (with_files old files)
  tree_changes after =
      grind (
        arith,
        common_steps,
        list_all_from_among,
        or_left,
        among_from_list_all,
        or_right,
        lost_name,
        or_cases,
        no_objects,
      )

-- A call that is granted
module _ {world : World ℕ} {names : List TaskName} {name : TaskName} {call : Call}
    (naming : NamingCall world names name call) where
  abbrev number : ℕ
  number = (mount_at nat_eq world naming.location).filesystem

  abbrev old : Filesystem ℕ
  old = filesystem_at nat_eq world naming.location

  itself : task_called world naming.task.name ≡ Some naming.task
  itself = cc (name_found world name naming.task naming.found, naming.found)

  asked : AsksWell world naming.location naming.change
  asked = (subst (AsksWellIf world) naming.asks (permits_ask_well world naming.fresh naming.task call naming.permit
      naming.is naming.serves itself naming.judged)).0

  pub proper : IsProper old.files.tree naming.change
  proper = (permits_ask_properly world naming.fresh naming.task call naming.permit naming.location naming.change
      naming.is naming.serves itself naming.judged naming.asks).0

  node_there : is_some (old.files.tree.node (written_to naming.change)) ≡ true
  node_there = grind (arith, common_steps, asked, written_to, written_there)

  pub old_listed : IsListedTree old.files
  old_listed = record {
    tree = ⊎_elim (λ tree. tree) (λ missing. absurd (true≢false (sym node_there
        ∙ ap (λ (f : Filesystem ℕ). is_some (f.files.tree.node (written_to naming.change))) missing.0)))
        (numbered_all (λ (f : Filesystem ℕ). IsTree f.files.tree) number world.filesystems naming.is.files.trees);
    numbers = numbered_anyhow (λ (f : Filesystem ℕ). ListsNumbers nat_eq f.files) number world.filesystems
        naming.is.files.numbers (λ k. refl);
  }

  pub listed_after : IsListedTree (changed nat_eq old.files naming.change)
  listed_after = record {
    tree = changes_keep_trees old.files naming.change old_listed.tree proper;
    numbers = changes_keep_numbers old.files naming.change old_listed.numbers;
  }

  may : MayChange old.files naming.change
  may = grind (arith, common_steps, proper)

  pub changes_so : ChangesTree old.files (changed nat_eq old.files naming.change) (names_lost old.files naming.change)
  changes_so = changes_keep_names old.files naming.change old_listed listed_after may

  spared : SparesLocked world naming.location naming.change
  spared = subst (SparesLockedIf world) naming.asks
      (permits_spare_what_is_locked world naming.fresh naming.task call naming.permit naming.is naming.serves itself
      naming.judged)

  -- others have no foothold on it: what is wholly locked is not changed
  pub old_alone : is_among nat_eq number (used_filesystems nat_eq world names) ≡ true
      → used_alone nat_eq world names number ≡ true
  old_alone used = ⊎_elim (λ alone. alone) (λ locked.
      absurd (no_copy naming.change naming.comes (written_not_spared old.files naming.change
      (spared.spares (written_to naming.change) (all_locked world names number old_listed.tree old_listed.numbers locked
      (written_to naming.change) node_there))))) (or_cases (used_alone nat_eq world names number)
      (wholly_locked nat_eq world names number) (used_are_free world names naming.sealed_off number
      (among_numbers (used_filesystems nat_eq world names) number used)))
    where
      no_copy : (c : Change ℕ) → Names c → IsCopy c → ⊥
      no_copy (CopyUp object) none copy = none
      no_copy c any copy = absurd copy
