-- An open of theirs that makes the file, on a plain filesystem, ends in the part as in the world.
use Rattle.std.proofs.Common.{◌≡◌, refl, sym, ap, subst, ◌∙◌, ℕ, nat_eq, eqb-true, Bool, true, false, List, [], ◌∷◌, option_to_list}
use Rattle.vt_spec.proofs.Common.{Access, Among, Call, Change, Creation, FileTree, Filesystem, Fresh, Location, Make, OpenFile, Opened, Task, TaskName, ToOpenNew, World, changed, changed_at, evens, filesystem_at, filesystem_changed, finished, free_number, granted, is_among, is_overlay, mount_at, numbers_of_change, numbers_raised, odds, opened, part_of, settled, used_filesystems, with_change, with_descriptor, with_task}
use Rattle.vt_laws_members.proofs.judging.Common.{IsTheirs, filesystem_alike, sealing_of, theirs_used}
use Rattle.vt_laws_members.proofs.Common.{AllInUse, ChangesTree, all_in_use, same_used}
use Rattle.vt_laws_members.specs.Changes.NameChanges.{NewOpensEndAlike}
use Rattle.vt_laws_members.proofs.changes.Common.{NamingCall, both, both_kept, both_numbered, both_overlaid, naming_of, naming_theirs, no_overlay, old_used, one_in_part, one_in_world, part_in_use, part_with_files, ran_there, run_by, swap}
use Rattle.vt_laws_members.proofs.changes.files.FilesInUse.{in_use_changed}
use Rattle.vt_laws_members.proofs.changes.names.AskedNames.{changes_so, proper, tree_changes}
use Rattle.vt_laws_members.proofs.changes.names.Swept.{swap_changes}
use Rattle.vt_laws_members.proofs.changes.tasks.OpenedFiles.{MovesIn, opened_ends, opened_with}

-- so ends a granted open that gives a plain filesystem another tree
new_run : (w : World ℕ) (name : TaskName) (path : List ℕ) (access : Access) (how : Creation) (supply : Fresh ℕ)
    (location : Location ℕ) (change : Change ℕ) (old : Filesystem ℕ) (task : Task ℕ) (file : Location ℕ)
    (wanted : Access) → filesystem_at nat_eq w location ≡ old → is_overlay old ≡ false
    → finished nat_eq w name (OpenFile path access how) (changed_at nat_eq w location)
    (opened (with_change nat_eq supply w location change) task file wanted)
    ≡ opened_with w name (swap old (changed nat_eq old.files change)) (old.number ∷ []) task file wanted
new_run w name path access how supply location change old task file wanted e plain =
    ap (λ f. granted (Opened (free_number task)) (numbers_raised nat_eq w name (numbers_of_change nat_eq w f f.overlay)
    (settled nat_eq (with_task (filesystem_changed nat_eq supply w f f.overlay change)
    (with_descriptor task file wanted))))) e
    ∙ ap (λ o. granted (Opened (free_number task)) (numbers_raised nat_eq w name (numbers_of_change nat_eq w old o)
    (settled nat_eq (with_task (filesystem_changed nat_eq supply w old o change) (with_descriptor task file wanted)))))
    (no_overlay old.overlay plain)

pub new_opens_end_alike : NewOpensEndAlike
new_opens_end_alike world names name path access how it task found fresh serves directory entry node wanted judged
    plain = opened_ends it fresh found file ground wanted (swap old files)
    (old.number ∷ []) (moves world (all_in_use world it.is) (one_in_world world names it.is number used)
    (old_used world names it.is number used)) (moves part (part_in_use (sealing_of it))
    (one_in_part world names it.is number used) (ap (is_among nat_eq old.number) (same_used world names) ∙ old_used
    world names it.is number used)) (ap (run_by it world fresh task) judged ∙ new_run world name path access how
    (odds fresh) directory change old task file wanted refl plain) (ran_there it fresh fresh task found judged ∙ new_run
    part name path access how (odds fresh) directory change old task file wanted
    (sym (filesystem_alike world names it.is directory ground)) plain)
  where
    call : Call
    call = OpenFile path access how

    part : World ℕ
    part = part_of nat_eq world names

    number : ℕ
    number = (mount_at nat_eq world directory).filesystem

    old : Filesystem ℕ
    old = filesystem_at nat_eq world directory

    change : Change ℕ
    change = Make directory.node entry (evens fresh 0) node

    files : FileTree ℕ
    files = changed nat_eq old.files change

    file : Location ℕ
    file = record { mount = directory.mount; node = evens fresh 0 }

    naming : NamingCall world names name call
    naming = naming_of it task found fresh serves (ToOpenNew directory entry node wanted) judged directory change refl
        tt

    ground : IsTheirs world names it.is.mounts directory.mount
    ground = naming_theirs naming

    used : is_among nat_eq number (used_filesystems nat_eq world names) ≡ true
    used = theirs_used world names it.is directory ground

    none_lost : ChangesTree old.files files []
    none_lost = subst (ChangesTree old.files files) (ap option_to_list (proper naming).name_is_free.free)
        (changes_so naming)

    moves : (w : World ℕ) → AllInUse w
        → ((x : Filesystem ℕ) → Among x w.filesystems → nat_eq old.number x.number ≡ true → x ≡ old)
        → is_among nat_eq old.number (used_filesystems nat_eq w names) ≡ true
        → MovesIn it fresh found file ground wanted (swap old files)
        (old.number ∷ []) w
    moves w in_use one used_there = record {
      in_use = in_use_changed w in_use (swap old files)
          (swap_changes w old files [] (tree_changes world old plain none_lost) one);
      part_moved = part_with_files w names (both old files) (both_numbered old files)
          (λ x m. both_overlaid old files x (one x m)) (λ x unused. kept x unused (nat_eq old.number x.number) refl);
    }
      where
        kept : (x : Filesystem ℕ) → is_among nat_eq x.number (used_filesystems nat_eq w names) ≡ false → (b : Bool)
            → nat_eq old.number x.number ≡ b → both old files x ≡ x
        kept x unused true e = cc (eqb-true old.number x.number e)
        kept x unused false e = both_kept old files x e
