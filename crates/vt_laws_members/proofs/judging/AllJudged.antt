-- Calls of members are judged in their part as in the world.
use Rattle.std.proofs.Common.{arith, ◌≡◌, refl, sym, ap, subst, ◌∙◌, inr, ℕ, nat_eq, Bool, true, false, cond, List, [], ◌∷◌, filter, find, Some, not, ◌||◌}
use Rattle.vt_spec.proofs.Common.{Among, Call, Descriptor, Location, Looks, Permit, Setns, Task, TaskName, World, among-append_left, among-append_right, among-flat_map, among-map, among_from_contains, common_steps, contains_from_among, holds_of, is_among, is_busy, is_elsewhere, is_locked_at, is_member_task, judge, live_layers, live_upper_and_work, locations, locations_of, looks_of, members, mount_at, mount_tree, number-mount_in, overlaps_one_of, part_of, same_name, same_task_name, upper_and_work, used_filesystems}
use Rattle.vt_laws_members.proofs.Common.{Alike, each_from, is_own, located, sealed_by}
use Rattle.vt_laws_members.proofs.judging.TheirCalls.{IsMember, a_member}
use Rattle.vt_laws_members.specs.Judging.{MembersAreJudgedAlike, is_theirs}
use Rattle.vt_laws_members.proofs.judging.Busy.{busy_alike}
use Rattle.vt_laws_members.proofs.judging.Grounds.{IsTheirs, its_mount, over_alike, same_mount, theirs_from, theirs_test}
use Rattle.vt_laws_members.proofs.judging.Judged.{JudgesAlike, run_alike}
use Rattle.vt_laws_members.proofs.judging.CallsAsked.{calls_asked}
use Rattle.vt_spec.specs.Machine.Judging.{judging}
use Rattle.vt_laws_members.proofs.judging.JudgedMoves.{TreesAlike}
use Rattle.vt_laws_members.proofs.judging.JudgedOverlays.{LayersAlike, any_same}
use Rattle.vt_laws_members.proofs.judging.JudgedRemoving.{RenamesAlike}
use Rattle.vt_laws_members.proofs.judging.LowersSeen.{lower_directory_alike}
use Rattle.vt_laws_members.proofs.judging.Anywhere.{anywhere_alike}
use Rattle.vt_laws_members.proofs.judging.JudgedPivots.{ParentsAlike}
use Rattle.vt_laws_members.proofs.judging.ParentsSeen.{parents_alike}
use Rattle.vt_laws_members.proofs.judging.Locks.{locked_alike}
use Rattle.vt_laws_members.proofs.judging.Masks.{RulesSeeAlike}
use Rattle.vt_laws_members.proofs.judging.MountPoints.{in_own, points_alike}
use Rattle.vt_laws_members.proofs.judging.MountTrees.{tree_alike}
use Rattle.vt_laws_members.proofs.judging.Overlaps.{overlaps_alike, overlaps_live, overlaps_written}
use Rattle.vt_laws_members.proofs.judging.SeenInPart.{OnTheirs, directory_theirs, filesystem_alike, located_used, members_see_alike, mount_alike, theirs_used, under_alike}

-- who has a name of theirs is one of them
pub called_alike : (names : List TaskName) (name : TaskName) → is_among same_name name names ≡ true
    → (tasks : List (Task ℕ)) → find (λ (task : Task ℕ). same_name name task.name) (filter (is_member_task names) tasks)
    ≡ find (λ (task : Task ℕ). same_name name task.name) tasks
called_alike names name theirs [] = refl
called_alike names name theirs (task ∷ rest) = by _ _ refl refl (called_alike names name theirs rest)
  where
    by : (a b : Bool) → same_name name task.name ≡ a → is_member_task names task ≡ b
        → find (λ (t : Task ℕ). same_name name t.name) (filter (is_member_task names) rest)
        ≡ find (λ (t : Task ℕ). same_name name t.name) rest → find (λ (t : Task ℕ). same_name name t.name)
        (cond b (task ∷ filter (is_member_task names) rest) (filter (is_member_task names) rest))
        ≡ cond a (Some task) (find (λ (t : Task ℕ). same_name name t.name) rest)
    by true true e f later = cc
    by true false e f later = cc (same_task_name name task.name e)
    by false true e f later = cc (e, later)
    by false false e f later = later

module _ {world : World ℕ} {names : List TaskName} {task : Task ℕ} (member : IsMember world names task) where
  abbrev part : World ℕ
  part = part_of nat_eq world names

  abbrev one : Looks ℕ
  one = looks_of nat_eq world

  abbrev other : Looks ℕ
  other = looks_of nat_eq part

  abbrev own : ℕ → Bool
  own = is_theirs world names

  abbrev uses : ℕ → Bool
  uses number = is_among nat_eq number (used_filesystems nat_eq world names)

  on : (here : Location ℕ) → own here.mount ≡ true → OnTheirs world names member.is here
  on here e = theirs_from world names member.is.mounts here.mount e

  locked_here : (here : Location ℕ) → uses (mount_at nat_eq world here).filesystem ≡ true
      → (mount_at nat_eq world here).filesystem ≡ (mount_at nat_eq part here).filesystem
      → is_locked_at nat_eq world here ≡ is_locked_at nat_eq part here
  locked_here here used same =
      cc (locked_alike member.sealing (mount_at nat_eq world here).filesystem used here.node, same)

  rules : RulesSeeAlike one other own uses
  rules = record {
    mount = λ number e. sym (same_mount world names member.is.mounts number
        (theirs_from world names member.is.mounts number e));
    over = λ here e. sym (over_alike world names member.is.mounts here (on here e));
    node = λ here e. cc (filesystem_alike world names member.is here (on here e));
    removed = λ here e. cc (filesystem_alike world names member.is here (on here e));
    under = λ filesystem top directory used. under_alike world names member.is filesystem used top directory;
    overlay = λ here e. cc (filesystem_alike world names member.is here (on here e));
    mounter = λ here change e. cc (filesystem_alike world names member.is here (on here e));
    locked = λ here e. locked_here here (theirs_used world names member.is here (on here e))
        (cc (mount_alike world names member.is here (on here e)));
  }

  pub walks : Alike one other task (λ number. own number ≡ true)
  walks =
      let alike = members_see_alike world names task member.is (contains_from_among _ task member.among) in
      record {
        root = alike.root;
        node = alike.node;
        mount = alike.mount;
        overlay = alike.overlay;
        over = alike.over;
        entered = λ here e. each_from own _ (alike.entered here e);
        hops_alike = alike.hops_alike;
        hopped = λ here e. each_from own _ (alike.hopped here e);
        lost = alike.lost;
      }

  pub judges : JudgesAlike one other task own uses
  judges = record {
    walks = walks;
    directory = theirs_test world names member.is.mounts task.directory.mount
        (directory_theirs world names member.is task member.among);
    rules = rules;
    seen = λ number e. theirs_used world names member.is (record { mount = number; node = 0 })
        (theirs_from world names member.is.mounts number e);
  }

  -- a descriptor of theirs
  descriptor_locked : (descriptor : Descriptor ℕ) → Among descriptor task.descriptors
      → is_locked_at nat_eq world descriptor.location ≡ is_locked_at nat_eq part descriptor.location
  descriptor_locked descriptor m =
      let at : Among descriptor.location (locations (members world names)) = among-flat_map locations_of _ task
      descriptor.location member.among (inr (inr (among-map _ task.descriptors descriptor m))) in
      locked_here descriptor.location (located_used world names member.is _ at) (sym (located world names _ at))

  namespace_alike : (name : TaskName) → is_among same_name name names ≡ true
      → one.namespace_called name ≡ other.namespace_called name
  namespace_alike name theirs = grind (arith, common_steps, called_alike)

  renames : RenamesAlike one other own
  renames = record {
    anywhere = λ here e free. anywhere_alike member.sealing here (on here e) free;
    lower = λ here name e. lower_directory_alike world names member.is here (on here e) name;
  }

  parents : ParentsAlike one other task own
  parents = parents_alike member

  -- a mount of the task's namespace is theirs
  pub owned : (here : Location ℕ) → is_elsewhere nat_eq one task here ≡ false
      → is_own world names (members world names) (mount_at nat_eq world here) ≡ true
  owned here e = in_own world names member.is task member.among (mount_at nat_eq world here)
      (by (holds_of (nat_eq task.namespace) (mount_at nat_eq world here).namespace) e)
    where
      by : (b : Bool) → not b ≡ false → b ≡ true
      by true h = refl
      by false h = cc

  trees : TreesAlike one other task own
  trees = record {
    busy = λ here e apart. let at = on here e in
        subst (λ n. is_busy nat_eq world n ≡ is_busy nat_eq part n) at.2
        (busy_alike member.sealing at.0 at.1 (cc
        (its_mount world names member.is.mounts here.mount at, owned here apart)));
    tree = λ here e. let at = on here e in
        sym (ap (mount_tree nat_eq part.mounts) (same_mount world names member.is.mounts here.mount at) ∙ tree_alike
        world names member.is (mount_at nat_eq world here)
        (subst (IsTheirs world names member.is.mounts) (sym (number-mount_in world.mounts here.mount)) at));
  }

  layers : LayersAlike one other uses
  layers = record {
    overlaps = λ layer used others. overlaps_alike member.sealing layer.filesystem used layer.directory others;
    in_use = λ overlay used i.
        any_same (overlaps_one_of nat_eq world (live_layers world)) (overlaps_one_of nat_eq part (live_layers part))
        (upper_and_work overlay) (λ layer m. overlaps_live member.sealing layer.filesystem
        (used layer (among-append_left (upper_and_work overlay) overlay.lowers layer m)) layer.directory) i || any_same
        (overlaps_one_of nat_eq world (live_upper_and_work world)) (overlaps_one_of nat_eq part
        (live_upper_and_work part)) overlay.lowers (λ layer m. overlaps_written member.sealing layer.filesystem
        (used layer (among-append_right (upper_and_work overlay) overlay.lowers layer m)) layer.directory) i;
  }

  pub judged : (overfills : Permit ℕ → Bool) (call : Call)
      → ((name : TaskName) → call ≡ Setns name → is_among same_name name names ≡ true)
      → judge nat_eq one overfills task call ≡ judge nat_eq other overfills task call
  judged overfills call theirs =
      run_alike judges overfills (judging nat_eq one task call) (judging nat_eq other task call)
      (calls_asked judges (points_alike world names member.is task member.among) renames parents trees layers
      descriptor_locked overfills call (λ name same. namespace_alike name (theirs name same)))

pub members_are_judged_alike : MembersAreJudgedAlike
members_are_judged_alike world names task call is overfills =
    judged (a_member (sealed_by is.is is.sealed_off) (among_from_contains (members world names) task is.member))
    overfills call is.among_them
