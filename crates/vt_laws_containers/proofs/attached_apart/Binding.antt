-- No mount(2) with MS_BIND by a task of a sealed set gives others a foothold.
use Rattle.std.proofs.Common.{inr, arith, ◌≡◌, refl, sym, ap, subst, ◌∙◌, inl, ℕ, nat_eq, Bool, true, false, List, [], Some, Ok, Err, IfOk, is_ok}
use Rattle.vt_spec.proofs.Common.{Among, Bind, Copies, Fresh, Judgement, Location, Mount, Serves, Task, TaskName, ToBind, World, among-filter, attach, bind_tree, bound_at, common_steps, copies_from, judge_in, members, mount_at, source_of, task_called, used_directly}
use Rattle.vt_laws_containers.proofs.Common.{cases_Option, AttachesTheirs, IsMember, IsSealed, ShowTheirs, caller_in, is_own, is_theirs, no_new_ones, none_new, own_theirs, parts, ran, sealing_of, theirs_directly, theirs_from, there}
use Rattle.vt_laws_sealed.proofs.part.part.MountsOver.{numbered}
use Rattle.vt_laws_members.proofs.attached.Binding.{Binds, all_copied, binds_there}
use Rattle.vt_laws_containers.specs.Footholds.{GivesNoFoothold}
use Rattle.vt_laws_containers.proofs.footholds.AsBefore.{OthersAsBefore}
use Rattle.vt_laws_containers.proofs.footholds.Granting.{denied_out, refused_out}
use Rattle.vt_laws_containers.proofs.footholds.TasksPermits.{permit_out}
use Rattle.vt_laws_containers.proofs.attached_apart.AttachFootholds.{BindsGiveNoFoothold}
use Rattle.vt_laws_containers.proofs.attached_apart.AttachedAsBefore.{copies_as_before}
use Rattle.vt_laws_containers.proofs.attached_apart.GroupsApart.{Ours, source_ours}

module _ {world : World ℕ} {names : List TaskName} (sealing : IsSealed world names) {fresh : Fresh ℕ}
    (serves : Serves nat_eq world fresh) (from here : Location ℕ) (recursive : Bool)
    (from_on : is_theirs world names from.mount ≡ true)
    (from_own : is_own world names (members world names) (mount_at nat_eq world from) ≡ true)
    (on : is_theirs world names here.mount ≡ true)
    (own : is_own world names (members world names) (mount_at nat_eq world here) ≡ true) where
  here_there : Among (mount_at nat_eq world here) world.mounts
  here_there =
      there world names sealing.is sealing.sealed_off here (theirs_from world names sealing.is.mounts here.mount on) own

  from_there : Among (mount_at nat_eq world from) world.mounts
  from_there =
      there world names sealing.is sealing.sealed_off from (theirs_from world names sealing.is.mounts from.mount
      from_on) from_own

  abbrev origins : List (Mount ℕ)
  origins = bind_tree nat_eq world from recursive

  abbrev attaching : AttachesTheirs world names
  attaching = record {
    sealing = sealing;
    new_ones = [];
    unused = none_new world names;
    place = here;
    there = here_there;
    own = own;
  }

  abbrev new : Copies ℕ
  new = copies_from nat_eq fresh (parts attaching) origins

  shows : ShowTheirs attaching new false origins
  shows = record {
    shown = λ o m. let x = all_copied world names sealing.is from recursive (from_there, from_own) o m in
        inl (subst (λ n. Among n (used_directly nat_eq world names)) (ap (λ (k : Mount ℕ). k.filesystem)
        (numbered world names sealing.is.mounts x.0 x.1.0) ∙ sym x.2) (theirs_directly world names sealing.is
        (record { mount = x.0.number; node = x.0.root })
        (own_theirs world names sealing.is x.0 x.1.0 x.1.1)));
    unlisted = λ f m. refl;
    layers = λ f m. absurd m;
    mounted = λ f m. absurd m;
  }

  -- what is copied is in groups of theirs
  sources : (o : Mount ℕ) → Among o origins → (g : ℕ) → source_of o.propagation ≡ Some g
      → Ours sealing fresh serves g
  sources o m g e =
      let x = all_copied world names sealing.is from recursive (from_there, from_own) o m in
      grind (arith, common_steps, source_ours, among-filter)

  pub bound_as_before : OthersAsBefore world (bound_at nat_eq fresh world from here recursive) names names
  bound_as_before = subst (λ w. OthersAsBefore world w names names)
      (sym (ap (λ w. attach nat_eq w fresh here false origins) (no_new_ones world)))
      (copies_as_before serves (λ a b. (_, refl)) sources shows)

pub binds_give_no_foothold : BindsGiveNoFoothold
binds_give_no_foothold world names name source path recursive it fresh serves = elim (cases_Option _) [
  | inl e ↦ refused_out it fresh (ap (λ o. is_ok (ran name (Bind source path recursive) world fresh o).answer) e)
  | inr its ↦ let member = caller_in it its.1 in
      judged_by its.0 member its.1 _ refl (binds_there member recursive fresh source path)
]
  where
    judged_by : (task : Task ℕ) (member : IsMember world names task) → task_called world name ≡ Some task
        → (j : Judgement ℕ) → judge_in nat_eq fresh world task (Bind source path recursive) ≡ j
        → IfOk j (Binds member recursive)
        → GivesNoFoothold world names name (Bind source path recursive) fresh
    judged_by task member e (Ok permit) judged its =
        permit_out (record { it = it; few = refl; serves = serves; called = e }) (ToBind its.0 its.1 recursive)
        (cc (its.2)) (λ ends. bound_as_before (sealing_of it) serves its.0 its.1 recursive its.3 its.4
        its.5 its.6)
    judged_by task member e (Err deny) judged its = denied_out it fresh task deny e judged
