-- Calls of theirs that only look are answered in the part as in the world.
use Rattle.std.proofs.Common.{inl, inr, arith, ◌≡◌, refl, sym, subst, ℕ, nat_eq, true, List, Option, Some, None, Ok, Err, IfOk, ok_or}
use Rattle.vt_spec.proofs.Common.{Allowed, Among, Call, Fresh, Judgement, Location, Outcome, Permit, Task, TaskName, ToList, ToListMounts, ToRead, ToReadPart, ToStat, World, after, apply, call_outcome, common_steps, contains_from_among, denial, filesystems_changed_by, finished, is_among, judge_in, locations, members, mount_at, node_at, part_of, policy, same_name, task_called}
use Rattle.vt_laws_members.proofs.Common.{cases_Option, IsSealed, S2, found, located}
use Rattle.vt_laws_members.proofs.judging.Common.{a_member, called_alike, caller_in, located_used, members_are_judged_by_their_part, sealing_of, walks}
use Rattle.vt_laws_members.specs.Judging.{is_theirs}
use Rattle.vt_laws_members.specs.Changes.Changes.{EndAlike, LooksEndAlike, grown, left}
use Rattle.vt_laws_members.proofs.changes.looks.Granted.{IsLook, looked}
use Rattle.vt_laws_members.proofs.changes.looks.Listed.{lines_alike}
use Rattle.vt_laws_members.proofs.changes.part.PartAgain.{part_again}

module _ {world : World ℕ} {names : List TaskName} (sealing : IsSealed world names) where
  abbrev part : World ℕ
  part = part_of nat_eq world names

  -- who has a name of theirs, in the part
  pub same_caller : (name : TaskName) → is_among same_name name names ≡ true
      → task_called part name ≡ task_called world name
  same_caller name theirs = called_alike names name theirs world.tasks

  -- an open file of theirs
  pub open_file : (file : Location ℕ) → Among file (locations (members world names))
      → node_at nat_eq world file ≡ node_at nat_eq part file
  open_file file m = cc (
    found world names (mount_at nat_eq world file).filesystem (located_used world names sealing.is file m),
    located world names file m,
  )

  module _ (task : Task ℕ) (member : Among task (members world names)) (fresh other : Fresh ℕ) where
    abbrev Looked : Permit ℕ → Type 0
    Looked = IsLook (is_theirs world names) (locations (members world names))

    -- what is told, and that nothing changes
    abbrev ToldAlike : Permit ℕ → Type 0
    ToldAlike permit = ((apply nat_eq fresh world task permit).answer ≡ (apply nat_eq other part task permit).answer)
        × ((apply nat_eq fresh world task permit).world ≡ world) × ((apply nat_eq other part task permit).world ≡ part)

    told : (permit : Permit ℕ) → Looked permit → ToldAlike permit
    told Allowed on = (refl, refl, refl)
    told (ToList directory) on = (
      cc ((walks (a_member sealing member)).node directory on),
      refl,
      refl,
    )
    told (ToStat object) on = (cc ((walks (a_member sealing member)).node object on), refl, refl)
    told (ToRead file) on = (cc ((walks (a_member sealing member)).node file on), refl, refl)
    told (ToReadPart file offset size) on = (cc (open_file file on), refl, refl)
    told ToListMounts on = (cc (lines_alike world names sealing.is task member), refl, refl)
    told permit on = absurd on

    -- an answer that leaves the set
    stays : (name : TaskName) (call : Call) → left names name call ≡ names → (permit : Permit ℕ) → Looked permit
        → grown names name call (apply nat_eq fresh world task permit).answer ≡ names
    stays name call same permit on = grind (arith, common_steps)

    looks_by : (name : TaskName) (call : Call) → left names name call ≡ names → (j : Judgement ℕ) → IfOk j Looked
        → EndAlike (grown names name call (after world j (apply nat_eq fresh world task)).answer)
        (after world j (apply nat_eq fresh world task)) (after part j (apply nat_eq other part task))
    looks_by name call same (Ok permit) on = grind (arith, common_steps, told, stays, part_again)
    looks_by name call same (Err deny) on = record { answer = refl; part = sym (part_again world names sealing.is) }

-- a call by the task that is found
abbrev pub ran : TaskName → Call → World ℕ → Fresh ℕ → Option (Task ℕ) → Outcome ℕ
ran name call world fresh found = after world (ok_or found (denial S2)) (λ task.
    finished nat_eq world name call (filesystems_changed_by nat_eq world (judge_in nat_eq fresh world task call))
    (call_outcome nat_eq fresh world task call))

-- two runs end alike, if the outcomes that they come to do
pub ended_alike : (names : List TaskName) (name : TaskName) (call : Call) {one first other second : Outcome ℕ}
    → one ≡ first → other ≡ second → EndAlike (grown names name call first.answer) first second
    → EndAlike (grown names name call one.answer) one other
ended_alike names name call {one = one} {second = second} is is_too alike =
    rw is_too (subst (λ o. EndAlike (grown names name call o.answer) o second) (sym is) alike)

pub looks_end_alike : LooksEndAlike
looks_end_alike world names name call it looks fresh other = elim (cases_Option _) [
  | inl e ↦ also None e
      (record { answer = refl; part = sym (part_again world names it.is) })
  | inr its ↦ let member = caller_in it its.1 in
      let granted = looked member _ names name call looks in
      let judged : judge_in nat_eq fresh world its.0 call ≡ judge_in nat_eq other part its.0 call =
      members_are_judged_by_their_part world names its.0 call (record {
        is = it.is;
        sealed_off = it.sealed_off;
        member = contains_from_among (members world names) its.0 member.among;
        among_them = it.among_them;
      }) fresh other in
      also (Some its.0) its.1 (ended_alike names name call (looking world fresh its.0) (cc (looking part other its.0))
      (looks_by (sealing_of it) its.0 member.among fresh other name call granted.1 _ granted.0))
]
  where
    part : World ℕ
    part = part_of nat_eq world names

    also : (found : Option (Task ℕ)) → task_called world name ≡ found
        → EndAlike (grown names name call (ran name call world fresh found).answer) (ran name call world fresh found)
        (ran name call part other found) → EndAlike (grown names name call (policy nat_eq fresh world name call).answer)
        (policy nat_eq fresh world name call) (policy nat_eq other part name call)
    also found e alike = ended_alike names name call (cc) (cc (same_caller (sealing_of it) name it.theirs)) alike

    looking : (w : World ℕ) (fr : Fresh ℕ) (task : Task ℕ)
        → ran name call w fr (Some task) ≡ call_outcome nat_eq fr w task call
    looking w fr task = cc
