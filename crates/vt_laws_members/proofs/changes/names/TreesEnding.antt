-- A call of theirs that changes one plain tree, which they use alone, ends in the part as in the world.
use Rattle.std.proofs.Common.{◌≡◌, ap, ◌∙◌, ⊎_elim, ℕ, nat_eq, false, true, List, [], ◌∷◌, Some, Ok, ◌||◌}
use Rattle.vt_spec.proofs.Common.{Call, Change, Done, FileTree, Filesystem, Fresh, Location, Outcome, Task, TaskName, World, changed_at, filesystem_at, filesystem_changed, finished, finished_unless, granted, is_among, is_overlay, mount_at, numbers_of_change, numbers_raised, only_looks, part_of, settled, task_called, used_alone, used_filesystems, with_change}
use Rattle.vt_spec.specs.Language.Changes
use Rattle.vt_laws_members.proofs.judging.Common.{sealing_of}
use Rattle.vt_laws_members.proofs.Common.{with_filesystems}
use Rattle.vt_laws_members.specs.Changes.Changes.{EndsAlike, IsCallOfTheirs, grown}
use Rattle.vt_laws_members.proofs.changes.files.FilesEnding.{no_overlay}
use Rattle.vt_laws_members.proofs.changes.files.FilesRaised.{swap}
use Rattle.vt_laws_members.proofs.changes.files.OneFilesystem.{old_number, old_used, one_in_part, one_in_world}
use Rattle.vt_laws_members.proofs.changes.letting_go.Changed.{Retasks}
use Rattle.vt_laws_members.proofs.changes.letting_go.PartReady.{no_others_there}
use Rattle.vt_laws_members.proofs.changes.letting_go.Ready.{Alone}
use Rattle.vt_laws_members.proofs.changes.letting_go.WorldReady.{alone}
use Rattle.vt_laws_members.proofs.changes.looks.Told.{ran}
use Rattle.vt_laws_members.proofs.detached.removals.WithTree.{changes_theirs}
use Rattle.vt_laws_members.proofs.overlay_names.names.SteppedAlike.{living, living_part, stepped_ends}
use Rattle.vt_laws_members.proofs.changes.letting_go.TasksStay.{tasks_stay}

-- the outcome of a call that gives a plain filesystem this tree
abbrev pub with_tree : World ℕ → TaskName → Filesystem ℕ → FileTree ℕ → Outcome ℕ
with_tree w name old files =
    granted Done (numbers_raised nat_eq w name (old.number ∷ []) (settled nat_eq (with_filesystems w (swap old files))))

-- so ends a granted change of a plain tree
pub plain_run : (w : World ℕ) (name : TaskName) (call : Call) (supply : Fresh ℕ) (location : Location ℕ)
    (change : Change ℕ) (old : Filesystem ℕ) → only_looks call ≡ false → filesystem_at nat_eq w location ≡ old
    → is_overlay old ≡ false → finished nat_eq w name call (changed_at nat_eq w location)
    (granted Done (with_change nat_eq supply w location change))
    ≡ with_tree w name old (Changes.changed nat_eq old.files change)
plain_run w name call supply location change old looks e plain =
    ap (λ b. finished_unless nat_eq (b || false) w name (changed_at nat_eq w location)
    (granted Done (with_change nat_eq supply w location change))) looks
    ∙ ap (λ f. granted Done (numbers_raised nat_eq w name (numbers_of_change nat_eq w f f.overlay)
    (settled nat_eq (filesystem_changed nat_eq supply w f f.overlay change)))) e
    ∙ ap (λ o. granted Done (numbers_raised nat_eq w name (numbers_of_change nat_eq w old o)
    (settled nat_eq (filesystem_changed nat_eq supply w old o change)))) (no_overlay old.overlay plain)

module _ {world : World ℕ} {names : List TaskName} {name : TaskName} {call : Call}
    (it : IsCallOfTheirs world names name call) (fresh other : Fresh ℕ) {task : Task ℕ}
    (found : task_called world name ≡ Some task) (stays : grown names name call (Ok Done) ≡ names)
    (location : Location ℕ)
    (used : is_among nat_eq (mount_at nat_eq world location).filesystem (used_filesystems nat_eq world names) ≡ true)
    (alone_before : used_alone nat_eq world names (mount_at nat_eq world location).filesystem ≡ true)
    (files : FileTree ℕ) where
  abbrev part : World ℕ
  part = part_of nat_eq world names

  abbrev number : ℕ
  number = (mount_at nat_eq world location).filesystem

  abbrev old : Filesystem ℕ
  old = filesystem_at nat_eq world location

  abbrev all_used : List ℕ
  all_used = used_filesystems nat_eq world names

  is_used : is_among nat_eq old.number all_used ≡ true
  is_used = old_used world names it.is number used

  abbrev left : Retasks world names names
  left = tasks_stay (sealing_of it)

  -- others have no foothold on it, in the world and in the part
  alone_here : Alone (living it left (swap old files)) names old.number
  alone_here = alone (sealing_of it) names world.tasks world.change left.lets old.number
      (cc (old_number world names it.is number used))

  alone_there : Alone (living_part it left (swap old files)) names old.number
  alone_there = record {
    itself = no_others_there left world.change part.change old.number;
    overlays = λ merged m has. no_others_there left world.change part.change merged.number;
  }

  pub tree_ends : ran name call world fresh (Some task) ≡ with_tree world name old files
      → ran name call part other (Some task) ≡ with_tree part name old files
      → EndsAlike world names name call fresh other
  tree_ends = stepped_ends it left (swap old files) (changes_theirs all_used old files
      (one_in_world world names it.is number used) alone_here is_used)
      (changes_theirs all_used old files (one_in_part world names it.is number used) alone_there is_used)
      (old.number ∷ []) (λ n m. ⊎_elim (λ e. cc is_used) (λ none. absurd none) m) task found fresh other Done stays
