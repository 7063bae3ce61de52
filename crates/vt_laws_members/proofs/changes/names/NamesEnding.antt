-- Calls of theirs by which a name comes or goes on a plain filesystem end in the part as in the world.
use Rattle.std.proofs.Common.{◌≡◌, refl, sym, subst, ◌∙◌, ℕ, suc, nat_eq, eqb-true, arith, true, false, List, [], ◌∷◌, Ok, ◌+◌, ◌≤◌}
use Rattle.vt_spec.proofs.Common.{AddName, Call, Change, Done, Filesystem, Fresh, LinkTo, Location, Make, MakeWhiteout, Mkdir, Permit, Remove, Serves, SymlinkAt, TaskName, ToChange, ToMake, Unlink, World, Write, changed, common_steps, evens, filesystem_at, is_among, is_overlay, judge_in, linking, looks_of, mount_at, numbers_in_use, object_there, odds, only_looks, overfills, part_of, removing, used_alone, used_filesystems, ⊤, changed_at, finished, granted, with_change, Task, judging}
use Rattle.vt_laws_members.proofs.Common.{IsGranted, calls_are_granted, makes_hard_link, unlinks}
use Rattle.vt_laws_members.proofs.judging.Common.{filesystem_alike, theirs_used}
use Rattle.vt_laws_members.specs.Changes.Changes.{EndsAlike, grown}
use Rattle.vt_laws_members.specs.Changes.NameChanges.{LinksEndAlike, MkdirsEndAlike, NewFilesEndAlike, PlainMakingEndsAlike, SymlinksEndAlike, UnlinksEndAlike, WhiteoutsEndAlike}
use Rattle.vt_laws_members.proofs.changes.names.AskedNames.{old_alone}
use Rattle.vt_laws_members.proofs.changes.names.GrantedNames.{Names, NamingCall, naming_of, naming_theirs}
use Rattle.vt_laws_members.proofs.changes.names.TreesEnding.{plain_run, tree_ends}
use Rattle.vt_laws_members.proofs.changes.tasks.Denied.{ran_there, run_by}

-- numbers above all of these
abbrev bound : List ℕ → ℕ
bound [] = 0
bound (number ∷ rest) = suc (number + bound rest)

above : (list : List ℕ) (number : ℕ) → bound list ≤ number → is_among nat_eq number list ≡ false
above [] number l = refl
above (first ∷ rest) number l = grind (arith, common_steps, eqb-true, above rest number (omega (arith, l)))

-- a supply of numbers that a world does not use
abbrev pub unused_numbers : World ℕ → Fresh ℕ
unused_numbers world k = bound (numbers_in_use world) + k

pub unused_serve : (world : World ℕ) → Serves nat_eq world (unused_numbers world)
unused_serve world = grind (arith, common_steps, above, eqb-true)

-- A granted call by which a name comes or goes
module _ {world : World ℕ} {names : List TaskName} {name : TaskName} {call : Call}
    (naming : NamingCall world names name call) where
  abbrev old : Filesystem ℕ
  old = filesystem_at nat_eq world naming.location

  abbrev part : World ℕ
  part = part_of nat_eq world names

  used : is_among nat_eq (mount_at nat_eq world naming.location).filesystem (used_filesystems nat_eq world names) ≡ true
  used = theirs_used world names naming.is naming.location (naming_theirs naming)

  pub alike : filesystem_at nat_eq part naming.location ≡ old
  alike = sym (filesystem_alike world names naming.is naming.location (naming_theirs naming))

  -- others have no foothold on the filesystem
  pub naming_alone : used_alone nat_eq world names (mount_at nat_eq world naming.location).filesystem ≡ true
  naming_alone = old_alone naming used

  -- by any numbers it ends alike, if its permit changes the plain filesystem and no more
  abbrev Runs : World ℕ → Fresh ℕ → Fresh ℕ → Type 0
  Runs w fresh supply = run_by naming.it w fresh naming.task (Ok naming.permit) ≡ finished nat_eq w name call
      (changed_at nat_eq w naming.location) (granted Done (with_change nat_eq supply w naming.location naming.change))

  pub naming_ends : only_looks call ≡ false → grown names name call (Ok Done) ≡ names → is_overlay old ≡ false
      → (fresh other : Fresh ℕ) → judge_in nat_eq fresh world naming.task call ≡ Ok naming.permit
      → (supply supply_too : Fresh ℕ) → Runs world fresh supply → Runs part other supply_too
      → EndsAlike world names name call fresh other
  naming_ends looks stays plain fresh other judged supply supply_too one two =
      tree_ends naming.it fresh other naming.found stays naming.location used naming_alone
      (changed nat_eq old.files naming.change) (cc (plain_run world name call supply naming.location naming.change old
      looks refl plain)) (ran_there naming.it fresh other naming.task naming.found judged ∙ two ∙ plain_run part name
      call supply_too naming.location naming.change old looks alike plain)

-- link(2) gives a name
abbrev IsGiving : Change ℕ → Type 0
IsGiving (AddName directory entry object) = ⊤
IsGiving change = ⊥

links_give : (world : World ℕ) (fresh : Fresh ℕ) (task : Task ℕ) (asked : Call) (permit : Permit ℕ)
    → IsGranted nat_eq (looks_of nat_eq world) (overfills nat_eq fresh world task) task asked permit
    → (first second : List ℕ) → asked ≡ LinkTo first second → (location : Location ℕ) (change : Change ℕ)
    → permit ≡ ToChange location change → IsGiving change
links_give world fresh task asked permit (makes_hard_link old new from place from_walk walk named passed) first second e
    location change f =
    let same : linking from.location place ≡ change = cc in subst IsGiving same tt
links_give world fresh task asked permit granted first second e location change f = absurd cc

pub links_end_alike : LinksEndAlike
unfolding judging
links_end_alike world names name first second it task found fresh other location change judged plain =
    naming_ends (naming_of it task found (unused_numbers world) (unused_serve world) (ToChange location change) judged
    location change refl (by change (links_give world fresh task (LinkTo first second) (ToChange location change)
    (calls_are_granted nat_eq (looks_of nat_eq world) (overfills nat_eq fresh world task) task (LinkTo first second)
    (ToChange location change) judged) first second refl location change refl))) refl refl plain fresh other judged
    fresh other refl refl
  where
    by : (c : Change ℕ) → IsGiving c → Names c
    by (AddName directory entry object) any = tt
    by c none = absurd none

-- unlink(2) takes a name
abbrev IsTaking : Change ℕ → Type 0
IsTaking (Remove directory entry object) = ⊤
IsTaking change = ⊥

unlinks_take : (world : World ℕ) (fresh : Fresh ℕ) (task : Task ℕ) (asked : Call) (permit : Permit ℕ)
    → IsGranted nat_eq (looks_of nat_eq world) (overfills nat_eq fresh world task) task asked permit
    → (path : List ℕ) → asked ≡ Unlink path → (location : Location ℕ) (change : Change ℕ)
    → permit ≡ ToChange location change → IsTaking change
unlinks_take world fresh task asked permit (unlinks own_path place walk named passed) path e location change f =
    let same : removing place (object_there place) ≡ change = cc in subst IsTaking same tt
unlinks_take world fresh task asked permit granted path e location change f = absurd cc

pub unlinks_end_alike : UnlinksEndAlike
unfolding judging
unlinks_end_alike world names name path it task found fresh other location change judged plain =
    naming_ends (naming_of it task found (unused_numbers world) (unused_serve world) (ToChange location change) judged
    location change refl (by change (unlinks_take world fresh task (Unlink path) (ToChange location change)
    (calls_are_granted nat_eq (looks_of nat_eq world) (overfills nat_eq fresh world task) task (Unlink path)
    (ToChange location change) judged) path refl location change refl))) refl refl plain fresh other judged fresh other
    refl refl
  where
    by : (c : Change ℕ) → IsTaking c → Names c
    by (Remove directory entry object) any = tt
    by c none = absurd none

pub makings_end : (world : World ℕ) (names : List TaskName) (name : TaskName) (call : Call) → only_looks call ≡ false
    → grown names name call (Ok Done) ≡ names → PlainMakingEndsAlike world names name call
makings_end world names name call looks stays it task found fresh serves directory entry node judged plain =
    naming_ends (naming_of it task found fresh serves (ToMake directory entry node) judged directory
    (Make directory.node entry (evens fresh 0) node) refl tt) looks stays plain fresh fresh judged (odds fresh)
    (odds fresh) refl refl

pub mkdirs_end_alike : MkdirsEndAlike
mkdirs_end_alike world names name path mode = makings_end world names name (Mkdir path mode) refl refl

pub symlinks_end_alike : SymlinksEndAlike
symlinks_end_alike world names name text path = makings_end world names name (SymlinkAt text path) refl refl

pub whiteouts_end_alike : WhiteoutsEndAlike
whiteouts_end_alike world names name path = makings_end world names name (MakeWhiteout path) refl refl

pub new_files_end_alike : NewFilesEndAlike
new_files_end_alike world names name path bytes = makings_end world names name (Write path bytes) refl refl
