-- Each umount(2) with MNT_DETACH ends in the part as in the world.
use Rattle.std.proofs.Common.{◌≡◌, refl, ap, ◌∙◌, ⊎_elim, ℕ, nat_eq, eq-eqb, true, List, [], Some, Ok}
use Rattle.vt_spec.proofs.Common.{Among, Call, Done, Fresh, Lazy, Mount, MountInvariants, Outcome, Permit, Task, TaskName, ToUnmountLazily, World, folded, found_or_none, granted, judge_in, lazily_unmounted, looks_of, members, mount_numbered, none_is_some, numbers_raised, overfills, part_of, policy, settled, taken_away, task_called, unmounted_if_there, judging}
use Rattle.vt_laws_members.proofs.judging.Common.{caller_in, in_own, sealing_of}
use Rattle.vt_laws_members.proofs.Common.{IsGranted, IsSealed, all_permits_fit, begun, calls_are_granted, is_own, name_found, taken_in_turn, unmounts_lazily}
use Rattle.vt_laws_mounts.proofs.letting_go.SweptBetween.{settled_without_groups}
use Rattle.vt_laws_members.specs.Changes.Changes.{EndsAlike, IsCallOfTheirs}
use Rattle.vt_laws_members.proofs.changes.Common.{TheirsGo, by_permit, ended_alike, part_mounts, ran, ran_there, run_by, same_caller, taken_parts, unused_numbers, unused_serve}
use Rattle.vt_laws_members.specs.Detached.Lazily.{LazyUmountsDetachAlike}
use Rattle.vt_laws_members.proofs.detached.lazily.Order.{same_turns, turns_own}
use Rattle.vt_laws_members.proofs.detached.lazily.Turns.{SameButGroups, TookAway, events_alike, kept_but_groups, took, took_none}

-- worlds that differ in dead groups are swept to one
settled_but_groups : (one other : World ℕ) → SameButGroups one other → settled nat_eq one ≡ settled nat_eq other
settled_but_groups one other same = cc (settled_without_groups one, same, settled_without_groups other)

module _ {world : World ℕ} {names : List TaskName} (sealing : IsSealed world names) (name : TaskName) (number : ℕ)
    (there : Among (mount_numbered nat_eq world number) world.mounts)
    (own : is_own world names (members world names) (mount_numbered nat_eq world number) ≡ true) where
  abbrev part : World ℕ
  part = part_of nat_eq world names

  abbrev in_part : MountInvariants nat_eq part
  in_part = part_mounts sealing

  abbrev turns : List (Mount ℕ)
  turns = taken_in_turn world number

  same : taken_in_turn part number ≡ turns
  same = same_turns sealing number there own

  abbrev left_there : World ℕ
  left_there = folded (unmounted_if_there nat_eq) part turns

  -- all that goes, in both
  all_gone : (gone : List ℕ) × TheirsGo world names gone
      × TookAway world (lazily_unmounted nat_eq world number) gone × TookAway part left_there gone
  all_gone = events_alike sealing number turns world part [] (begun world sealing.is.mounts number)
      (rw (← same) (begun part in_part number)) (record { sealing = sealing; own_go = λ m n none. cc })
      (took_none world sealing.is.mounts) (took_none part in_part) (turns_own sealing number there own)

  abbrev gone : List ℕ
  gone = all_gone.0

  same_here : SameButGroups (lazily_unmounted nat_eq world number) (taken_away nat_eq world gone)
  same_here = took world (lazily_unmounted nat_eq world number) gone all_gone.2

  same_there : SameButGroups left_there (taken_away nat_eq part gone)
  same_there = took part left_there gone all_gone.3

  pub lazy_parts : part_of nat_eq (numbers_raised nat_eq world name [] (settled nat_eq
      (lazily_unmounted nat_eq world number))) names
      ≡ part_of nat_eq (numbers_raised nat_eq part name [] (settled nat_eq (lazily_unmounted nat_eq part number))) names
  lazy_parts = cc (
    settled_but_groups (lazily_unmounted nat_eq world number)
        (taken_away nat_eq world gone) same_here,
    taken_parts all_gone.1 (kept_but_groups
        (lazily_unmounted nat_eq world number) (taken_away nat_eq world gone) same_here all_gone.2.kept)
        (kept_but_groups left_there
        (taken_away nat_eq part gone) same_there all_gone.3.kept) name,
    same,
    settled_but_groups left_there
        (taken_away nat_eq part gone) same_there,
  )

-- a granted call detaches a mount
detaches : (world : World ℕ) (fresh : Fresh ℕ) (task : Task ℕ) (path : List ℕ) (asked : Call) (permit : Permit ℕ)
    → IsGranted nat_eq (looks_of nat_eq world) (overfills nat_eq fresh world task) task asked permit
    → asked ≡ Lazy path → (number : ℕ) × (permit ≡ ToUnmountLazily number)
detaches world fresh task path asked permit (unmounts_lazily own_path here admin walk passed) e =
    (here.location.mount, refl)
detaches world fresh task path asked permit other_way e = absurd cc

module _ {world : World ℕ} {names : List TaskName} {name : TaskName} {path : List ℕ}
    (it : IsCallOfTheirs world names name (Lazy path)) (fresh other : Fresh ℕ) {task : Task ℕ}
    (found : task_called world name ≡ Some task) {number : ℕ}
    (judged : judge_in nat_eq fresh world task (Lazy path) ≡ Ok (ToUnmountLazily number)) where
  abbrev its_part : World ℕ
  its_part = part_of nat_eq world names

  -- its mount is in the caller's namespace
  in_callers : (mount_numbered nat_eq world number).namespace ≡ Some task.namespace
  unfolding judging
  in_callers = (all_permits_fit world (unused_numbers world) task (Lazy path) (ToUnmountLazily number) it.is
      (unused_serve world) (cc (name_found world name task found)) refl judged).names.0

  is_there : Among (mount_numbered nat_eq world number) world.mounts
  is_there = ⊎_elim (λ m. m) (λ none. none_is_some task.namespace (cc in_callers)) (found_or_none world.mounts number)

  is_theirs : is_own world names (members world names) (mount_numbered nat_eq world number) ≡ true
  is_theirs = in_own world names it.is task (caller_in it found).among (mount_numbered nat_eq world number)
      (cc (in_callers, eq-eqb task.namespace task.namespace refl))

  abbrev outcome : World ℕ → Outcome ℕ
  outcome w = granted Done (numbers_raised nat_eq w name [] (settled nat_eq (lazily_unmounted nat_eq w number)))

  granted_ends : EndsAlike world names name (Lazy path) fresh other
  granted_ends =
      let first : policy nat_eq fresh world name (Lazy path) ≡ outcome world =
      ap (ran name (Lazy path) world fresh) found ∙ ap (run_by it world fresh task) judged in
      let second : policy nat_eq other its_part name (Lazy path) ≡ outcome its_part =
      ap (ran name (Lazy path) its_part other) (same_caller (sealing_of it) name it.theirs ∙ found)
      ∙ ran_there it fresh other task found judged in
      ended_alike names name (Lazy path) first second (record {
        answer = refl;
        part = lazy_parts (sealing_of it) name number is_there is_theirs;
      })

pub lazy_umounts_detach_alike : LazyUmountsDetachAlike
lazy_umounts_detach_alike world names name path it fresh other = by_permit it fresh other refl
    (λ task e permit judged. let its = detaches world fresh task path (Lazy path) permit
    (calls_are_granted nat_eq (looks_of nat_eq world) (overfills nat_eq fresh world task) task (Lazy path) permit
    judged) refl in
    granted_ends it fresh other e (judged ∙ ap Ok its.1))
