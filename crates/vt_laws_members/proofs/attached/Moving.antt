-- Each mount(2) with MS_MOVE ends in the part as in the world.
use Rattle.std.proofs.Common.{arith, ◌≡◌, refl, sym, ap, subst, ◌∙◌, ℕ, nat_eq, true, false, List, [], Option, Some, None, Ok, is_some, not, eqb-true, IfOk}
use Rattle.vt_spec.proofs.Common.{Among, Copies, Done, Fresh, Location, Mount, MountInvariants, MoveMount, Permit, Serves, Task, TaskName, ToMove, World, among-filter, among-map, attach, attached_by, common_steps, copies_from, granted, holds_of, is_among_numbers, is_elsewhere, is_own_mount, judge, judge_in, judging, members, mount_at, mount_tree, moved_to, moved_tree, not-false, number-mount_in, numbers_raised, or_parts, overfills, part_of, policy, settled, task_called}
use Rattle.vt_laws_members.proofs.judging.Common.{IsMember, IsTheirs, caller_in, own_theirs, owned, same_mount, sealing_of, theirs_from, tree_alike}
use Rattle.vt_laws_members.proofs.Common.{all_live, is_attached, is_mount, is_own, numbers_of, tested_live}
use Rattle.vt_laws_mounts.specs.Mounts.Moving.{CanMove}
use Rattle.vt_laws_mounts.proofs.attached.AttachedKept.{moves_keep_groups}
use Rattle.vt_laws_mounts.proofs.attached.AttachedNowhere.{moves_keep_nowhere}
use Rattle.vt_laws_mounts.proofs.attached.BindsStand.{moves_keep_numbers}
use Rattle.vt_laws_mounts.proofs.moves.Moving.{moves_keep_standing}
use Rattle.vt_laws_members.specs.Judging.{is_theirs}
use Rattle.vt_laws_members.specs.Changes.Changes.{EndsAlike, IsCallOfTheirs}
use Rattle.vt_laws_members.proofs.changes.Common.{StandsHere, by_known, ended_alike, ends_so, judged_so, one, own_in_part, part_mounts, ran, ran_there, run_by, same_caller}
use Rattle.vt_laws_members.specs.Attached.Attaching.{MovesEndAlike}
use Rattle.vt_laws_members.proofs.attached.CopiesAlike.{AttachesTheirs, attached_there, base_part, no_new_ones, parts, parts_alike}
use Rattle.vt_laws_members.proofs.attached.Destination.{at_destination, at_source, placed, placed_there, there}
use Rattle.vt_laws_members.proofs.attached.GrownPart.{Grows}
use Rattle.vt_laws_members.proofs.attached.GrownReady.{without_new}
use Rattle.vt_laws_members.proofs.attached.MovedAlike.{Stays, grows_there, left_here, left_there, moved_alike, ready_here, ready_there}
use Rattle.vt_laws_members.proofs.attached.MovedGrows.{MovesTheirs, at_receivers, moved, moved_as, moved_grows, moved_known, moved_master, none_new}
use Rattle.vt_laws_members.proofs.attached.PartServes.{serves_there}
use Rattle.vt_laws_members.proofs.attached.Unused.{group_new}

-- a mount of theirs moves to another one
pub record MovesTo (world : World ℕ) (names : List TaskName) (from here : Location ℕ) : Type 0 where
  pub from_on : is_theirs world names from.mount ≡ true
  pub from_own : is_own world names (members world names) (mount_at nat_eq world from) ≡ true
  pub on : is_theirs world names here.mount ≡ true
  pub own : is_own world names (members world names) (mount_at nat_eq world here) ≡ true
  pub can : CanMove world from here

-- What a granted move moves
module _ {world : World ℕ} {names : List TaskName} {task : Task ℕ} (member : IsMember world names task) where
  abbrev pub Moves : Permit ℕ → Type 0
  Moves permit =
      (from : Location ℕ) × (here : Location ℕ) × (permit ≡ ToMove from.mount here) × MovesTo world names from here

  in_it : (n : ℕ) (o : Option ℕ) → not (holds_of (nat_eq n) o) ≡ false → o ≡ Some n
  in_it n None e = cc
  in_it n (Some k) e = cc (eqb-true n k (not-false (nat_eq n k) e))

  pub moves_there : (fresh : Fresh ℕ) (source path : List ℕ) → IfOk
      (judge nat_eq (one member) (overfills nat_eq fresh world task) task (MoveMount source path)) Moves
  unfolding judging
  moves_there fresh source path = judged_so (one member) (overfills nat_eq fresh world task) task Moves
      (MoveMount source path) (λ admin from from_end here end passed.
      let both = or_parts (is_elsewhere nat_eq (one member) task from.location)
      (is_elsewhere nat_eq (one member) task here.location) passed.0 in (
        from.location,
        here.location,
        refl,
        record {
          from_on = ends_so (StandsHere member) (at_source member source) from_end;
          from_own = owned member from.location both.0;
          on = ends_so (StandsHere member) (at_destination member path) end;
          own = owned member here.location both.1;
          can = record {
            placed = not-false (is_some (mount_at nat_eq world from.location).mount_point) passed.1.1.1.1.1.1.0;
            one_namespace = in_it task.namespace (mount_at nat_eq world here.location).namespace both.1
                ∙ sym (in_it task.namespace (mount_at nat_eq world from.location).namespace both.0);
            outside = passed.1.1.1.0;
          };
        },
      ))

-- after a move mounts stand, and groups live
moves_stay : (w : World ℕ) (fresh : Fresh ℕ) (from here : Location ℕ) → Serves nat_eq w fresh
    → MountInvariants nat_eq w → CanMove w from here → is_attached w here.mount ≡ true → is_mount w from.mount ≡ true
    → Stays (moved_to nat_eq fresh w from.mount here)
moves_stay w fresh from here serves kept can attached from_there = record {
  one = moves_keep_numbers w fresh from here serves kept.one_number kept.standing;
  stands = moves_keep_standing w fresh from here serves kept can;
  nowhere = moves_keep_nowhere w fresh from here kept.nowhere attached;
  groups = all_live (moved_to nat_eq fresh w from.mount here)
      (moves_keep_groups w fresh from here serves kept.one_number kept.standing from_there (tested_live w kept.groups));
}

-- A granted move
module _ {world : World ℕ} {names : List TaskName} {name : TaskName} {source path : List ℕ}
    (it : IsCallOfTheirs world names name (MoveMount source path)) {task : Task ℕ}
    (called : task_called world name ≡ Some task) {fresh : Fresh ℕ} (serves : Serves nat_eq world fresh)
    {from here : Location ℕ} (to : MovesTo world names from here)
    (judged : judge_in nat_eq fresh world task (MoveMount source path) ≡ Ok (ToMove from.mount here)) where
  abbrev part : World ℕ
  part = part_of nat_eq world names

  from_theirs : IsTheirs world names it.is.mounts from.mount
  from_theirs = theirs_from world names it.is.mounts from.mount to.from_on

  here_theirs : IsTheirs world names it.is.mounts here.mount
  here_theirs = theirs_from world names it.is.mounts here.mount to.on

  here_there : Among (mount_at nat_eq world here) world.mounts
  here_there = there world names it.is it.sealed_off here here_theirs to.own

  from_there : Among (mount_at nat_eq world from) world.mounts
  from_there = there world names it.is it.sealed_off from from_theirs to.from_own

  abbrev origins : List (Mount ℕ)
  origins = moved_tree nat_eq world from.mount

  abbrev attaching : AttachesTheirs world names
  attaching = record {
    sealing = sealing_of it;
    new_ones = [];
    unused = none_new world names;
    place = here;
    there = here_there;
    own = to.own;
  }

  abbrev new : Copies ℕ
  new = copies_from nat_eq fresh (parts attaching) origins

  abbrev moving : MovesTheirs world names
  moving = record {
    sealing = sealing_of it;
    place = here;
    there = here_there;
    own = to.own;
    new = new;
    number = from.mount;
    top_there = from_there;
    top_own = to.from_own;
  }

  abbrev change : Mount ℕ → Mount ℕ
  change = moved moving

  abbrev added : List (Mount ℕ)
  added = at_receivers moving

  abbrev with_made : (ℕ → Option ℕ) → ℕ → Option ℕ
  with_made = moved_master moving

  grows : Grows world names change added [] (with_made world.master)
  grows = moved_grows moving (with_made world.master)

  abbrev now : World ℕ
  now = moved_to nat_eq fresh world from.mount here

  abbrev now_there : World ℕ
  now_there = moved_to nat_eq fresh part from.mount here

  abbrev left : World ℕ
  left = left_here (sealing_of it) (with_made part.master) grows
      (moved_known moving (λ a b. group_new world names it.is fresh serves _))

  abbrev left_too : World ℕ
  left_too =
      left_there (sealing_of it) (with_made part.master) grows
      (moved_known moving (λ a b. group_new world names it.is fresh serves _))

  abbrev attached_to : List (Mount ℕ) → World ℕ → World ℕ
  attached_to mounts w = attach nat_eq w fresh here true mounts

  now_so : now ≡ left
  now_so = ap (attached_to origins) (no_new_ones world) ∙ moved_as moving world
      ∙ without_new (ready_here (sealing_of it)) grows

  same_tree : moved_tree nat_eq part from.mount ≡ origins
  same_tree = ap (mount_tree nat_eq part.mounts) (same_mount world names it.is.mounts from.mount from_theirs)
      ∙ tree_alike world names it.is (mount_at nat_eq world from)
      (own_theirs world names it.is (mount_at nat_eq world from) from_there to.from_own)

  there_so : now_there ≡ left_too
  there_so = ap (λ l. attached_to l part) same_tree ∙ ap (attached_to origins) (no_new_ones part)
      ∙ ap (λ l. attached_by nat_eq (base_part attaching) (copies_from nat_eq fresh l origins) here true origins)
      (parts_alike attaching) ∙ attached_there attaching new true origins ∙ moved_as moving part ∙ without_new
      (ready_there (sealing_of it)) (grows_there (sealing_of it) (with_made part.master) grows (moved_known moving
      (λ a b. group_new world names it.is fresh serves _)))

  -- what moves exists, in both
  is_there : is_mount world from.mount ≡ true
  is_there = subst (λ n. is_mount world n ≡ true) (number-mount_in world.mounts from.mount)
      (is_among_numbers (numbers_of world.mounts) (mount_at nat_eq world from).number
      (among-map (λ (m : Mount ℕ). m.number) world.mounts (mount_at nat_eq world from) from_there))

  is_there_too : is_mount part from.mount ≡ true
  is_there_too = subst (λ n. is_mount part n ≡ true) (number-mount_in world.mounts from.mount)
      (is_among_numbers (numbers_of part.mounts) (mount_at nat_eq world from).number
      (among-map (λ (m : Mount ℕ). m.number) part.mounts (mount_at nat_eq world from)
      (own_in_part (sealing_of it) (mount_at nat_eq world from) (among-filter (is_own_mount nat_eq world names)
      world.mounts (mount_at nat_eq world from) from_there to.from_own))))

  can_there : CanMove part from here
  can_there = grind (arith, common_steps, placed, same_mount, from_theirs, here_theirs, same_tree)

  stays : Stays left
  stays = subst Stays now_so (moves_stay world fresh from here serves it.is.mounts to.can
      (placed world names it.is it.sealed_off here here_theirs to.own) is_there)

  stays_too : Stays left_too
  stays_too = subst Stays there_so (moves_stay part fresh from here (serves_there world names fresh serves)
      (part_mounts (sealing_of it)) can_there (placed_there world names it.is it.sealed_off here here_theirs to.own)
      is_there_too)

  parts_same : part_of nat_eq (numbers_raised nat_eq world name [] (settled nat_eq now)) names
      ≡ part_of nat_eq (numbers_raised nat_eq part name [] (settled nat_eq now_there)) names
  parts_same = cc (
    now_so,
    moved_alike (sealing_of it) (with_made part.master) grows (moved_known moving
        (λ a b. group_new world names it.is fresh serves _)) stays stays_too name,
    there_so,
  )

  first : policy nat_eq fresh world name (MoveMount source path)
      ≡ granted Done (numbers_raised nat_eq world name [] (settled nat_eq now))
  first = ap (ran name (MoveMount source path) world fresh) called ∙ ap (run_by it world fresh task) judged

  second : policy nat_eq fresh part name (MoveMount source path)
      ≡ granted Done (numbers_raised nat_eq part name [] (settled nat_eq now_there))
  second = ap (ran name (MoveMount source path) part fresh)
      (same_caller (sealing_of it) name it.theirs ∙ called) ∙ ran_there it fresh fresh task called judged

  move_ends : EndsAlike world names name (MoveMount source path) fresh fresh
  move_ends = ended_alike names name (MoveMount source path) first second (record { answer = refl; part = parts_same })

pub moves_end_alike : MovesEndAlike
moves_end_alike world names name source path it fresh serves = by_known it fresh fresh refl
    (λ task e. Moves (caller_in it e)) (λ task e. moves_there (caller_in it e) fresh source path)
    (λ task e permit judged its. move_ends it e serves its.3 (judged ∙ ap Ok its.2))
