-- Calls of theirs that make, give and take names through overlays end in the part as in the world.
use Rattle.std.proofs.Common.{inl, inr, ◌≡◌, refl, sym, ap, subst, ◌∙◌, ℕ, nat_eq, true, false, true≢false, List, Option, Some, None, Ok, is_some}
use Rattle.vt_spec.proofs.Common.{Among, Call, Change, Done, Filesystem, Fresh, Layer, LinkTo, Location, Make, Mkdir, Overlay, Permit, Serves, SymlinkAt, Task, TaskName, ToChange, ToMake, Unlink, World, Write, changed_at, evens, filesystem_at, finished, granted, is_overlay, judge_in, linking, looks_of, mount_at, numbers_raised, object_there, only_looks, overfills, part_of, removing, settled, task_called, used_directly, with_change}
use Rattle.vt_laws_members.proofs.judging.Common.{filesystem_alike, sealing_of, theirs_directly}
use Rattle.vt_laws_members.proofs.Common.{cases_Option, IsGranted, calls_are_granted, makes_hard_link, name_found, numbers_left, permits_can_change, unlinks, with_filesystems}
use Rattle.vt_laws_members.specs.Changes.Changes.{EndsAlike, IsCallOfTheirs, grown}
use Rattle.vt_laws_members.proofs.changes.Common.{Names, NamingCall, OverlayChange, idle_end_alike, naming_of, naming_theirs, ran, ran_there, run_by, tasks_stay, unwritten_run}
use Rattle.vt_laws_members.specs.OverlayNames.OverlayNames.{OverlayLinksEndAlike, OverlayMakingEndsAlike, OverlayMkdirsEndAlike, OverlayNewFilesEndAlike, OverlaySymlinksEndAlike, OverlayUnlinksEndAlike}
use Rattle.vt_laws_members.proofs.overlay_names.names.OverlayNaming.{changed_ends, changed_in_part, changed_in_world, listed_in_part, listed_in_world}

-- so ends a granted change of filesystems, before which mounts may go
pub stepped_run : (before w : World ℕ) (name : TaskName) (call : Call) (supply : Fresh ℕ) (location : Location ℕ)
    (change : Change ℕ) (step : Filesystem ℕ → Filesystem ℕ) (numbers : List ℕ) → only_looks call ≡ false
    → with_change nat_eq supply w location change ≡ with_filesystems w step → changed_at nat_eq w location ≡ numbers
    → finished nat_eq before name call (changed_at nat_eq w location)
    (granted Done (with_change nat_eq supply w location change))
    ≡ granted Done (numbers_raised nat_eq before name numbers (settled nat_eq (with_filesystems w step)))
stepped_run before w name call supply location change step numbers looks made listed = cc

-- A granted call by which a name comes or goes through an overlay
module _ {world : World ℕ} {names : List TaskName} {name : TaskName} {call : Call}
    (naming : NamingCall world names name call) where
  abbrev part : World ℕ
  part = part_of nat_eq world names

  abbrev merged : Filesystem ℕ
  merged = filesystem_at nat_eq world naming.location

  abbrev supply : Fresh ℕ
  supply = numbers_left naming.fresh naming.permit

  direct : Among (mount_at nat_eq world naming.location).filesystem (used_directly nat_eq world names)
  direct = theirs_directly world names naming.is naming.location (naming_theirs naming)

  alike : filesystem_at nat_eq world naming.location ≡ filesystem_at nat_eq part naming.location
  alike = filesystem_alike world names naming.is naming.location (naming_theirs naming)

  abbrev through : (overlay : Overlay ℕ) (upper : Layer ℕ) → merged.overlay ≡ Some overlay
      → overlay.upper ≡ Some upper → OverlayChange world names
  through overlay upper overlaid has = record {
    is = naming.is;
    supply = supply;
    location = naming.location;
    change = naming.change;
    overlay = overlay;
    upper = upper;
    can = permits_can_change world naming.fresh naming.task call naming.permit naming.location naming.change overlay
        upper naming.is naming.serves (ap (task_called world) (sym (name_found world name naming.task naming.found))
        ∙ naming.found) naming.judged
        naming.asks overlaid has;
    direct = direct;
    alike = alike;
  }

  -- so it runs, if its permit is for that change
  abbrev Runs : World ℕ → Type 0
  Runs w = run_by naming.it w naming.fresh naming.task (Ok naming.permit) ≡ finished nat_eq w name call
      (changed_at nat_eq w naming.location) (granted Done (with_change nat_eq supply w naming.location naming.change))

  pub naming_through_ends : only_looks call ≡ false → grown names name call (Ok Done) ≡ names
      → is_overlay merged ≡ true → Runs world → Runs part → EndsAlike world names name call naming.fresh naming.fresh
  naming_through_ends looks stays is runs runs_too = elim (cases_Option merged.overlay) [
    | inl none ↦ absurd (true≢false (sym is ∙ ap is_some none))
    | inr its ↦ layered its.0 its.1 its.0.upper refl
  ]
    where
      one : ran name call world naming.fresh (Some naming.task)
          ≡ finished nat_eq world name call (changed_at nat_eq world naming.location)
          (granted Done (with_change nat_eq supply world naming.location naming.change))
      one = cc naming.judged

      two : ran name call part naming.fresh (Some naming.task)
          ≡ finished nat_eq part name call (changed_at nat_eq part naming.location)
          (granted Done (with_change nat_eq supply part naming.location naming.change))
      two = ran_there naming.it naming.fresh naming.fresh naming.task naming.found naming.judged ∙ runs_too

      layered : (overlay : Overlay ℕ) → merged.overlay ≡ Some overlay → (o : Option (Layer ℕ)) → overlay.upper ≡ o
          → EndsAlike world names name call naming.fresh naming.fresh
      layered overlay overlaid None none = idle_end_alike world names name call naming.it naming.task naming.found
          naming.fresh naming.fresh Done stays (one ∙ unwritten_run world name call supply naming.location naming.change
          merged overlay looks refl overlaid none) (two ∙ unwritten_run part name call supply naming.location
          naming.change merged overlay looks (sym alike) overlaid none)
      layered overlay overlaid (Some upper) has =
          let copied = through overlay upper overlaid has in
          changed_ends naming.it copied (tasks_stay (sealing_of naming.it)) direct naming.task naming.found naming.fresh
          Done stays (one ∙ stepped_run world world name call supply naming.location naming.change _ _ looks
          (changed_in_world naming.it copied) (listed_in_world naming.it copied))
          (two ∙ stepped_run part part name call supply naming.location naming.change _ _ looks
          (changed_in_part naming.it copied) (listed_in_part naming.it copied))

-- calls that make an inode
pub overlay_makings_end : (world : World ℕ) (names : List TaskName) (name : TaskName) (call : Call)
    → only_looks call ≡ false → grown names name call (Ok Done) ≡ names → OverlayMakingEndsAlike world names name call
overlay_makings_end world names name call looks stays it task found fresh serves directory entry node judged is =
    naming_through_ends (naming_of it task found fresh serves (ToMake directory entry node) judged directory
    (Make directory.node entry (evens fresh 0) node) refl tt) looks stays is refl refl

pub overlay_mkdirs_end_alike : OverlayMkdirsEndAlike
overlay_mkdirs_end_alike world names name path mode = overlay_makings_end world names name (Mkdir path mode) refl refl

pub overlay_symlinks_end_alike : OverlaySymlinksEndAlike
overlay_symlinks_end_alike world names name text path =
    overlay_makings_end world names name (SymlinkAt text path) refl refl

pub overlay_new_files_end_alike : OverlayNewFilesEndAlike
overlay_new_files_end_alike world names name path bytes =
    overlay_makings_end world names name (Write path bytes) refl refl

-- calls that give or take a name
pub overlay_changes_end : (world : World ℕ) (names : List TaskName) (name : TaskName) (call : Call)
    (it : IsCallOfTheirs world names name call) (task : Task ℕ) → task_called world name ≡ Some task
    → (fresh : Fresh ℕ) → Serves nat_eq world fresh → only_looks call ≡ false → grown names name call (Ok Done) ≡ names
    → (location : Location ℕ) (change : Change ℕ)
    → judge_in nat_eq fresh world task call ≡ Ok (ToChange location change) → Names change
    → is_overlay (filesystem_at nat_eq world location) ≡ true → EndsAlike world names name call fresh fresh
overlay_changes_end world names name call it task found fresh serves looks stays location change judged names_it is =
    naming_through_ends (naming_of it task found fresh serves (ToChange location change) judged location change refl
    names_it) looks stays is refl refl

links_name : (world : World ℕ) (fresh : Fresh ℕ) (task : Task ℕ) (asked : Call) (permit : Permit ℕ)
    → IsGranted nat_eq (looks_of nat_eq world) (overfills nat_eq fresh world task) task asked permit
    → (first second : List ℕ) → asked ≡ LinkTo first second → (location : Location ℕ) (change : Change ℕ)
    → permit ≡ ToChange location change → Names change
links_name world fresh task asked permit (makes_hard_link old new from place from_walk walk named passed) first second e
    location change f =
    let same : linking from.location place ≡ change = cc in subst Names same tt
links_name world fresh task asked permit other_way first second e location change f = absurd cc

pub overlay_links_end_alike : OverlayLinksEndAlike
overlay_links_end_alike world names name first second it task found fresh serves location change judged is =
    overlay_changes_end world names name (LinkTo first second) it task found fresh serves refl refl location change
    judged (links_name world fresh task (LinkTo first second) (ToChange location change)
    (calls_are_granted nat_eq (looks_of nat_eq world) (overfills nat_eq fresh world task) task (LinkTo first second)
    (ToChange location change) judged) first second refl location change refl) is

unlinks_name : (world : World ℕ) (fresh : Fresh ℕ) (task : Task ℕ) (asked : Call) (permit : Permit ℕ)
    → IsGranted nat_eq (looks_of nat_eq world) (overfills nat_eq fresh world task) task asked permit
    → (path : List ℕ) → asked ≡ Unlink path → (location : Location ℕ) (change : Change ℕ)
    → permit ≡ ToChange location change → Names change
unlinks_name world fresh task asked permit (unlinks own_path place walk named passed) path e location change f =
    let same : removing place (object_there place) ≡ change = cc in subst Names same tt
unlinks_name world fresh task asked permit other_way path e location change f = absurd cc

pub overlay_unlinks_end_alike : OverlayUnlinksEndAlike
overlay_unlinks_end_alike world names name path it task found fresh serves location change judged is =
    overlay_changes_end world names name (Unlink path) it task found fresh serves refl refl location change judged
    (unlinks_name world fresh task (Unlink path) (ToChange location change)
    (calls_are_granted nat_eq (looks_of nat_eq world) (overfills nat_eq fresh world task) task (Unlink path)
    (ToChange location change) judged) path refl location change refl) is
