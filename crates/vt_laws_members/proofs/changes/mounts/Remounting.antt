-- Each mount(2) with MS_REMOUNT and MS_BIND ends in the part as in the world.
use Rattle.std.proofs.Common.{◌≡◌, refl, sym, ap, ◌∙◌, ℕ, nat_eq, Bool, true, false, List, [], Some, Ok, not, IfOk}
use Rattle.vt_spec.proofs.Common.{Among, Done, Fresh, Location, Mount, MountFlags, Permit, Remount, Task, TaskName, ToSetFlags, World, granted, holds_of, judge, judge_in, judging, members, mount_at, mount_numbered, numbers_raised, part_of, policy, task_called, with_mount, with_mounts}
use Rattle.vt_laws_members.proofs.judging.Common.{IsMember, IsTheirs, caller_in, in_own, its_mount, same_mount, sealing_of, theirs_from}
use Rattle.vt_laws_members.proofs.Common.{all_in_use, is_own, set_flags_keep_all}
use Rattle.vt_laws_members.specs.Judging.{is_theirs}
use Rattle.vt_laws_members.specs.Changes.Changes.{EndsAlike, IsCallOfTheirs}
use Rattle.vt_laws_members.specs.Changes.MountChanges.{RemountsEndAlike}
use Rattle.vt_laws_members.proofs.changes.Common.{StandsHere, at_directory, by_known, ended_alike, ends_so, judged_so, one, part_in_use, part_mounts, ran, ran_there, run_by, same_caller}
use Rattle.vt_laws_members.proofs.changes.mounts.FlagsLeft.{flags_left, later, later_part}

-- What a granted remount sets
module _ {world : World ℕ} {names : List TaskName} {task : Task ℕ} (member : IsMember world names task)
    (flags : MountFlags) where
  abbrev On : ℕ → Type 0
  On number = is_theirs world names number ≡ true

  abbrev SetsFlags : Permit ℕ → Type 0
  SetsFlags permit = (here : Location ℕ) × (permit ≡ ToSetFlags here.mount flags) × On here.mount
      × (is_own world names (members world names) (mount_at nat_eq world here) ≡ true)

  is_so : (b : Bool) → not b ≡ false → b ≡ true
  is_so true e = refl
  is_so false e = sym e

  sets_flags : (full : Permit ℕ → Bool) (path : List ℕ) → IfOk (judge nat_eq (one member) full task (Remount path flags)) SetsFlags
  unfolding judging
  sets_flags full path = judged_so (one member) full task SetsFlags (Remount path flags) (λ admin here end passed. (
    here.location,
    refl,
    ends_so (StandsHere member) (at_directory member path) end,
    in_own world names member.is task member.among (mount_at nat_eq world here.location)
        (is_so (holds_of (nat_eq task.namespace) (mount_at nat_eq world here.location).namespace) passed.0),
  ))

-- A granted remount
module _ {world : World ℕ} {names : List TaskName} {name : TaskName} {path : List ℕ} {flags : MountFlags}
    (it : IsCallOfTheirs world names name (Remount path flags)) {task : Task ℕ}
    (called : task_called world name ≡ Some task) (fresh other : Fresh ℕ) (here : Location ℕ)
    (on : is_theirs world names here.mount ≡ true)
    (own : is_own world names (members world names) (mount_at nat_eq world here) ≡ true)
    (judged : judge_in nat_eq fresh world task (Remount path flags) ≡ Ok (ToSetFlags here.mount flags)) where
  abbrev there : World ℕ
  there = part_of nat_eq world names

  abbrev mount_of : Mount ℕ
  mount_of = mount_numbered nat_eq world here.mount

  theirs : IsTheirs world names it.is.mounts here.mount
  theirs = theirs_from world names it.is.mounts here.mount on

  mount_there : Among mount_of world.mounts
  mount_there = rw (its_mount world names it.is.mounts here.mount theirs) theirs.1

  abbrev now : World ℕ
  now = later (sealing_of it) mount_of mount_there own flags

  abbrev now_there : World ℕ
  now_there = later_part (sealing_of it) mount_of mount_there own flags

  first : policy nat_eq fresh world name (Remount path flags) ≡ granted Done (numbers_raised nat_eq world name [] now)
  first = ap (ran name (Remount path flags) world fresh) called ∙ ap (run_by it world fresh task) judged
      ∙ ap (λ w. granted Done (numbers_raised nat_eq world name [] w))
      (set_flags_keep_all fresh world task here.mount flags it.is.mounts.one_number (all_in_use world it.is))

  second : policy nat_eq other there name (Remount path flags)
      ≡ granted Done (numbers_raised nat_eq there name [] now_there)
  second = ap (ran name (Remount path flags) there other)
      (same_caller (sealing_of it) name it.theirs ∙ called) ∙ ran_there it fresh other task called judged ∙ ap
      (λ w. granted Done (numbers_raised nat_eq there name [] w)) (set_flags_keep_all other there task here.mount flags
      (part_mounts (sealing_of it)).one_number (part_in_use (sealing_of it)) ∙ ap
      (λ (m : Mount ℕ). with_mounts there (with_mount nat_eq there.mounts (record m { flags = flags })))
      (same_mount world names it.is.mounts here.mount theirs))

  remount_alike : EndsAlike world names name (Remount path flags) fresh other
  remount_alike = ended_alike names name (Remount path flags) first second (record {
    answer = refl;
    part = flags_left (sealing_of it) mount_of mount_there own flags name;
  })

pub remounts_end_alike : RemountsEndAlike
remounts_end_alike world names name path flags it fresh other = by_known it fresh other refl
    (λ task e. SetsFlags (caller_in it e) flags) (λ task e. sets_flags (caller_in it e) flags _ path)
    (λ task e permit judged its. remount_alike it e fresh other its.0 its.2 its.3 (judged ∙ ap Ok its.1))
