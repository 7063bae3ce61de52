-- No mount(2) with MS_MOVE by a task of a sealed set gives others a foothold.
use Rattle.std.proofs.Common.{inl, ◌≡◌, refl, sym, ap, subst, ◌∙◌, inr, ⊎_elim, ℕ, nat_eq, true, List, [], ◌++◌, Option, Some, Ok, Err, map, IfOk, is_ok}
use Rattle.vt_spec.proofs.Common.{Among, Copies, Fresh, Judgement, Location, Mount, MoveMount, Serves, Task, TaskName, ToMove, World, among-filter, attach, copies_from, folded, is_own_mount, judge_in, masters_with, mount_at, moved_to, moved_tree, source_of, task_called}
use Rattle.vt_laws_containers.proofs.Common.{cases_Option, AttachesTheirs, Grows, IsMember, IsSealed, MovesTheirs, at_receiver, at_receivers, base, caller_in, grown_world, made, moved, moved_as, moved_grows, no_new_ones, none_new, origin_mine, own_how, parts, push_keeps, ran, run_by, sealing_of, theirs_from, there, went, went_how}
use Rattle.vt_laws_members.proofs.attached.Moving.{Moves, MovesTo, moves_there}
use Rattle.vt_laws_containers.specs.Footholds.{GivesNoFoothold}
use Rattle.vt_laws_containers.proofs.footholds.AsBefore.{OthersAsBefore}
use Rattle.vt_laws_containers.proofs.footholds.Granting.{refused_out}
use Rattle.vt_laws_containers.proofs.footholds.TasksPermits.{permit_out}
use Rattle.vt_laws_containers.proofs.attached_apart.AttachFootholds.{MovesGiveNoFoothold}
use Rattle.vt_laws_containers.proofs.attached_apart.CopiesHear.{copy_ours, made_ours}
use Rattle.vt_laws_containers.proofs.attached_apart.GroupsApart.{Ours, groups_apart, source_ours}
use Rattle.vt_laws_containers.proofs.attached_apart.GrownAsBefore.{grown_as_before}

module _ {world : World ℕ} {names : List TaskName} (sealing : IsSealed world names) {fresh : Fresh ℕ}
    (serves : Serves nat_eq world fresh) {from here : Location ℕ} (to : MovesTo world names from here) where
  here_there : Among (mount_at nat_eq world here) world.mounts
  here_there =
      there world names sealing.is sealing.sealed_off here (theirs_from world names sealing.is.mounts here.mount to.on)
      to.own

  from_there : Among (mount_at nat_eq world from) world.mounts
  from_there =
      there world names sealing.is sealing.sealed_off from (theirs_from world names sealing.is.mounts from.mount
      to.from_on) to.from_own

  abbrev origins : List (Mount ℕ)
  origins = moved_tree nat_eq world from.mount

  abbrev attaching : AttachesTheirs world names
  attaching = record {
    sealing = sealing;
    new_ones = [];
    unused = none_new world names;
    place = here;
    there = here_there;
    own = to.own;
  }

  abbrev new : Copies ℕ
  new = copies_from nat_eq fresh (parts attaching) origins

  abbrev moving : MovesTheirs world names
  moving = record {
    sealing = sealing;
    place = here;
    there = here_there;
    own = to.own;
    new = new;
    number = from.mount;
    top_there = from_there;
    top_own = to.from_own;
  }

  abbrev IsOurs : ℕ → Type 0
  IsOurs = Ours sealing fresh serves

  abbrev base_here : World ℕ
  base_here = base attaching

  abbrev change : Mount ℕ → Mount ℕ
  change = moved moving

  -- before it is pushed up
  abbrev before : Mount ℕ → Mount ℕ
  before = went moving

  abbrev added : List (Mount ℕ)
  added = at_receivers moving

  abbrev formed : List (ℕ × Option ℕ)
  formed = made attaching new true origins

  abbrev masters : ℕ → Option ℕ
  masters = folded (masters_with nat_eq) world.master formed

  grows : Grows world names change added [] masters
  grows = moved_grows moving masters

  sources : (o : Mount ℕ) → Among o origins → (g : ℕ) → source_of o.propagation ≡ Some g → IsOurs g
  sources o m g e =
      let its = origin_mine moving o m
      in source_ours sealing fresh serves o (among-filter _ _ o its.0 its.1) g e

  new_groups : (a b : ℕ) → IsOurs (new.image a b)
  new_groups a b = inr (_, refl)

  -- a mount that stayed or moved is in groups of theirs
  old_sourced : (x : Mount ℕ) → Among x world.mounts → is_own_mount nat_eq world names x ≡ true → (g : ℕ)
      → source_of (change x).propagation ≡ Some g → IsOurs g
  old_sourced x n mine g e = ⊎_elim (λ same. source_ours sealing fresh serves x (among-filter _ _ x n mine) g
      (ap (λ (z : Mount ℕ). source_of z.propagation) (sym same) ∙ pushed))
      (λ moves. copy_ours base_here new here true _ _ new_groups sources (mount_at nat_eq world here) x moves.0 g
      (ap (λ (z : Mount ℕ). source_of z.propagation) (sym moves.1) ∙ pushed)) (went_how moving x x n refl)
    where
      pushed : source_of (before x).propagation ≡ Some g
      pushed =
          sym (push_keeps attaching new true origins (λ (z : Mount ℕ). source_of z.propagation) (λ z at. refl)
          (before x)) ∙ e

  sourced : (y : Mount ℕ) → Among y (map change world.mounts ++ added) → is_own_mount nat_eq world names y ≡ true
      → (g : ℕ) → source_of y.propagation ≡ Some g → IsOurs g
  sourced y m mine g e = ⊎_elim (λ old. old_sourced old.0 old.1 old.2 g
      (ap (λ (x : Mount ℕ). source_of x.propagation) (sym old.3) ∙ e)) (λ more.
      let of = at_receiver moving y
      more in
      copy_ours base_here new here true origins IsOurs new_groups sources of.0 of.2 of.3 g
      (ap (λ (x : Mount ℕ). source_of x.propagation) (sym of.4) ∙ e))
      (own_how grows y m mine)

  as_grown : moved_to nat_eq fresh world from.mount here ≡ grown_world world names change added [] masters
  as_grown = ap (λ w. attach nat_eq w fresh here true origins) (no_new_ones world) ∙ moved_as moving world

  pub moved_as_before : OthersAsBefore world (moved_to nat_eq fresh world from.mount here) names names
  moved_as_before = subst (λ w. OthersAsBefore world w names names) (sym as_grown) (grown_as_before sealing grows
      (groups_apart sealing fresh serves _ grows sourced (made_ours base_here new here true _ _ new_groups sources)))

pub moves_give_no_foothold : MovesGiveNoFoothold
moves_give_no_foothold world names name source path it fresh serves = elim (cases_Option _) [
  | inl e ↦ refused_out it fresh (ap (λ o. is_ok (ran name (MoveMount source path) world fresh o).answer) e)
  | inr its ↦ let member = caller_in it its.1 in
      judged_by its.0 member its.1 _ refl (moves_there member fresh source path)
]
  where
    judged_by : (task : Task ℕ) (member : IsMember world names task) → task_called world name ≡ Some task
        → (j : Judgement ℕ) → judge_in nat_eq fresh world task (MoveMount source path) ≡ j
        → IfOk j (Moves member)
        → GivesNoFoothold world names name (MoveMount source path) fresh
    judged_by task member e (Ok permit) judged its =
        permit_out (record { it = it; few = refl; serves = serves; called = e }) (ToMove its.0.mount its.1)
        (judged ∙ ap Ok its.2) (λ ends. moved_as_before (sealing_of it) serves its.3)
    judged_by task member e (Err deny) judged its = refused_out it fresh
        (ap (λ o. is_ok (ran name (MoveMount source path) world fresh o).answer) e
        ∙ ap (λ j. is_ok (run_by it world fresh task j).answer) judged)
