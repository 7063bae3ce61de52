-- Calls that end alike in every world, and the scripts of these.
use Rattle.std.proofs.Common.{inl, inr, arith, ◌≡◌, refl, sym, ap, ◌∙◌, ℕ, nat_eq, Bool, true, false, true≢false, List, [], ◌∷◌, Some, None, Ok, Err, ◌||◌, is_ok}
use Rattle.vt_spec.proofs.Common.{Allowed, Bind, Call, Fresh, Judgement, MountOverlay, MountPlain, MoveMount, Permit, Serves, SetType, Task, TaskName, ToBind, ToChange, ToClose, ToEnterNamespace, ToExit, ToFork, ToList, ToListMounts, ToMake, ToMountOverlay, ToMountPlain, ToMove, ToOpen, ToOpenNew, ToPivot, ToRead, ToReadPart, ToRemoveDirectory, ToRename, ToSetCredentials, ToSetDirectory, ToSetFlags, ToSetRoot, ToSetType, ToSetUmask, ToStat, ToUnmount, ToUnmountLazily, ToUnshare, ToWritePart, Unshare, World, common_steps, denied, finished_unless, judge_in, only_looks, task_called}
use Rattle.vt_laws_containers.proofs.Common.{cases_Option, EndsAlike, IsCallOfTheirs, names_few_groups, permits_are_for_their_calls, ran, run_by}
use Rattle.vt_laws_containers.specs.Footholds.{GivesNoFoothold}
use Rattle.vt_laws_containers.proofs.footholds.PermitFootholds.{is_of_detaching, is_of_files, is_of_removing, is_of_replacing, is_of_tasks}
use Rattle.vt_laws_containers.specs.Scripts.{Asked, Stand, next}
use Rattle.vt_laws_containers.proofs.footholds.RemovingPermits.{removing_gives_no_foothold}
use Rattle.vt_laws_containers.proofs.footholds.ReplacedAsBefore.{replacing_gives_no_foothold}
use Rattle.vt_laws_containers.proofs.footholds.TakingPermits.{detaching_gives_no_foothold}
use Rattle.vt_laws_containers.proofs.footholds.TasksPermits.{denials_give_no_foothold, files_give_no_foothold, tasks_give_no_foothold}
use Rattle.vt_laws_containers.proofs.scripts.AnsweredAlike.{AreFew, EachEndsAlike}

-- the calls but those that attach or copy mounts, or change their types
abbrev pub keeps_others_out : Call → Bool
keeps_others_out (MountPlain path flags) = false
keeps_others_out (MountOverlay path words flags) = false
keeps_others_out (Bind source path recursive) = false
keeps_others_out (MoveMount source path) = false
keeps_others_out (SetType path word recursive) = false
keeps_others_out Unshare = false
keeps_others_out call = true

-- By the permit
module _ {world : World ℕ} {names : List TaskName} {name : TaskName} {call : Call}
    (it : IsCallOfTheirs world names name call) (few : names_few_groups call ≡ true) (fresh : Fresh ℕ)
    (serves : Serves nat_eq world fresh) (keeps : keeps_others_out call ≡ true) where
  abbrev None_given : Type 0
  None_given = GivesNoFoothold world names name call fresh

  -- no such call has this permit
  never : (other : Call) → call ≡ other → keeps_others_out other ≡ false → None_given
  never other same out = absurd (true≢false (sym keeps ∙ ap keeps_others_out same ∙ out))

  module _ (task : Task ℕ) (called : task_called world name ≡ Some task) where
    abbrev Judged : Permit ℕ → Type 0
    Judged permit = judge_in nat_eq fresh world task call ≡ Ok permit

    of_tasks : (permit : Permit ℕ) → Judged permit → is_of_tasks permit ≡ true → None_given
    of_tasks permit judged is =
        tasks_give_no_foothold world names name call it few fresh serves task called permit judged is

    of_files : (permit : Permit ℕ) → Judged permit → is_of_files permit ≡ true → None_given
    of_files permit judged is =
        files_give_no_foothold world names name call it few fresh serves task called permit judged is

    of_detaching : (permit : Permit ℕ) → Judged permit → is_of_detaching permit ≡ true → None_given
    of_detaching permit judged is =
        detaching_gives_no_foothold world names name call it few fresh serves task called permit judged is

    of_replacing : (permit : Permit ℕ) → Judged permit → is_of_replacing permit ≡ true → None_given
    of_replacing permit judged is =
        replacing_gives_no_foothold world names name call it few fresh serves task called permit judged is

    of_removing : (permit : Permit ℕ) → Judged permit → is_of_removing permit ≡ true → None_given
    of_removing permit judged is =
        removing_gives_no_foothold world names name call it few fresh serves task called permit judged is

    by_permit : (permit : Permit ℕ) → Judged permit → None_given
    by_permit Allowed judged = of_tasks Allowed judged refl
    by_permit (ToList directory) judged = of_tasks (ToList directory) judged refl
    by_permit (ToStat object) judged = of_tasks (ToStat object) judged refl
    by_permit (ToRead file) judged = of_tasks (ToRead file) judged refl
    by_permit (ToReadPart file offset size) judged = of_tasks (ToReadPart file offset size) judged refl
    by_permit (ToChange location change) judged = of_files (ToChange location change) judged refl
    by_permit (ToMake directory entry node) judged = of_files (ToMake directory entry node) judged refl
    by_permit (ToRemoveDirectory parent entry directory) judged = of_removing _ judged refl
    by_permit (ToRename from old to new object replaced) judged = of_removing _ judged refl
    by_permit (ToOpen file access) judged = of_files (ToOpen file access) judged refl
    by_permit (ToOpenNew directory entry node access) judged = of_files _ judged refl
    by_permit (ToWritePart file offset bytes) judged = of_files (ToWritePart file offset bytes) judged refl
    by_permit (ToClose descriptor) judged = of_tasks (ToClose descriptor) judged refl
    by_permit (ToSetDirectory directory) judged = of_tasks (ToSetDirectory directory) judged refl
    by_permit (ToSetRoot root) judged = of_tasks (ToSetRoot root) judged refl
    by_permit (ToSetUmask umask) judged = of_tasks (ToSetUmask umask) judged refl
    by_permit (ToSetCredentials credentials) judged = of_tasks (ToSetCredentials credentials) judged refl
    by_permit (ToFork credentials) judged = of_tasks (ToFork credentials) judged refl
    by_permit ToExit judged = of_detaching ToExit judged refl
    by_permit ToUnshare judged = never Unshare (permits_are_for_their_calls fresh world task call ToUnshare judged) refl
    by_permit (ToEnterNamespace namespace) judged = of_detaching (ToEnterNamespace namespace) judged refl
    by_permit (ToMountPlain place flags) judged =
        let for = permits_are_for_their_calls fresh world task call (ToMountPlain place flags) judged in
        never (MountPlain for.0 flags) for.1 refl
    by_permit (ToMountOverlay place overlay flags) judged =
        let for = permits_are_for_their_calls fresh world task call (ToMountOverlay place overlay flags) judged in
        never (MountOverlay for.0 for.1 flags) for.2 refl
    by_permit (ToBind source place recursive) judged =
        let for = permits_are_for_their_calls fresh world task call (ToBind source place recursive) judged in
        never (Bind for.0 for.1 recursive) for.2 refl
    by_permit (ToMove mount place) judged =
        let for = permits_are_for_their_calls fresh world task call (ToMove mount place) judged in
        never (MoveMount for.0 for.1) for.2 refl
    by_permit (ToUnmount mount) judged = of_detaching (ToUnmount mount) judged refl
    by_permit (ToUnmountLazily mount) judged = of_removing (ToUnmountLazily mount) judged refl
    by_permit (ToSetFlags mount flags) judged = of_replacing (ToSetFlags mount flags) judged refl
    by_permit (ToSetType mount word recursive) judged =
        let for = permits_are_for_their_calls fresh world task call (ToSetType mount word recursive) judged in
        never (SetType for.0 word recursive) for.1 refl
    by_permit (ToPivot new put) judged = of_replacing (ToPivot new put) judged refl
    by_permit ToListMounts judged = of_tasks ToListMounts judged refl

  keeping : None_given
  keeping = elim (cases_Option (task_called world name)) [
    | inl e ↦ denials_give_no_foothold world names name call it fresh
        (ap (λ found. is_ok (ran name call world fresh found).answer) e)
    | inr its ↦ judged_by its.0 its.1 (judge_in nat_eq fresh world its.0 call) refl
  ]
    where
      judged_by : (task : Task ℕ) → task_called world name ≡ Some task → (judgement : Judgement ℕ)
          → judge_in nat_eq fresh world task call ≡ judgement → None_given
      judged_by task e (Ok permit) judged = by_permit task e permit judged
      judged_by task e (Err deny) judged = denials_give_no_foothold world names name call it fresh
          (ap (λ found. is_ok (ran name call world fresh found).answer) e
          ∙ ap (λ judgement. is_ok (run_by it world fresh task judgement).answer) judged ∙ refused (only_looks call))
        where
          refused : (b : Bool) → is_ok (finished_unless nat_eq (b || true) world name [] (denied world deny)).answer ≡ false
          refused true = refl
          refused false = refl

-- Granted or refused, each of them gives others no foothold.
pub calls_give_no_foothold : (world : World ℕ) (names : List TaskName) (name : TaskName) (call : Call)
    → IsCallOfTheirs world names name call → names_few_groups call ≡ true → (fresh : Fresh ℕ)
    → Serves nat_eq world fresh → keeps_others_out call ≡ true → GivesNoFoothold world names name call fresh
calls_give_no_foothold world names name call it few fresh serves keeps =
    keeping it few fresh serves keeps

-- in each world in which a call is one of theirs, it ends alike and gives others no foothold
abbrev pub StaysApart : Call → Type 0
StaysApart call =
    (world : World ℕ) (names : List TaskName) (name : TaskName) (fresh : Fresh ℕ)
    → IsCallOfTheirs world names name call → names_few_groups call ≡ true → Serves nat_eq world fresh
    → EndsAlike world names name call fresh fresh × GivesNoFoothold world names name call fresh

-- where every call does, so does each along a run
pub each_so : ((call : Call) → StaysApart call) → (others : Bool) (calls : List Asked) → AreFew calls → (at : Stand)
    → EachEndsAlike others at calls
each_so always others [] few at = record { in_part = tt; footholds = tt }
each_so always others (None ∷ calls) few at =
    grind (arith, common_steps, each_so always others calls few.1 (next others at None))
each_so always others (Some call ∷ calls) few at =
    grind (arith, common_steps, always, each_so always others calls few.1 (next others at (Some call)))
