-- No mount(2) of a new plain filesystem by a task of a sealed set gives others a foothold.
use Rattle.std.proofs.Common.{inl, inr, ◌≡◌, refl, ap, ⊎_elim, ℕ, nat_eq, true, List, [], Some, Ok, Err, ◌&&◌, eq-eqb, IfOk, is_ok}
use Rattle.vt_spec.proofs.Common.{Among, Filesystem, Fresh, Judgement, Layer, Location, Mount, MountFlags, MountPlain, Serves, Task, TaskName, ToMountPlain, World, evens, judge_in, layers_of, members, mount_at, mounted, none_is_some, odds, of_overlay, or_left, plain_filesystem, source_of, task_called, used_directly}
use Rattle.vt_laws_containers.proofs.Common.{cases_Option, IsMember, IsSealed, caller_in, is_own, is_theirs, ran, sealing_of}
use Rattle.vt_laws_mounts.specs.LettingGo.Keeping.{has_only_named}
use Rattle.vt_laws_members.proofs.attached.PlainMounting.{Mounts, mounts_there}
use Rattle.vt_laws_members.proofs.new_overlays.NewFilesystem.{origins, shows}
use Rattle.vt_laws_containers.specs.Footholds.{GivesNoFoothold}
use Rattle.vt_laws_containers.proofs.footholds.AsBefore.{OthersAsBefore}
use Rattle.vt_laws_containers.proofs.footholds.Granting.{denied_out, refused_out}
use Rattle.vt_laws_containers.proofs.footholds.TasksPermits.{permit_out}
use Rattle.vt_laws_containers.proofs.attached_apart.AttachFootholds.{PlainMountsGiveNoFoothold}
use Rattle.vt_laws_containers.proofs.attached_apart.AttachedAsBefore.{copies_as_before}
use Rattle.vt_laws_containers.proofs.attached_apart.GroupsApart.{Ours}

-- A new filesystem, mounted at a mount of theirs
module _ {world : World ℕ} {names : List TaskName} (sealing : IsSealed world names) {fresh : Fresh ℕ}
    (serves : Serves nat_eq world fresh) (here : Location ℕ) (on : is_theirs world names here.mount ≡ true)
    (own : is_own world names (members world names) (mount_at nat_eq world here) ≡ true) (new_one : Filesystem ℕ)
    (number : new_one.number ≡ fresh 0) (layers : (layer : Layer ℕ) → Among layer (of_overlay [] layers_of new_one)
    → Among layer.filesystem (used_directly nat_eq world names)) (named : has_only_named new_one ≡ true)
    (flags : MountFlags) where
  abbrev its_origins : List (Mount ℕ)
  its_origins = origins sealing serves here on own new_one number layers named flags

  -- it is private
  sources : (o : Mount ℕ) → Among o its_origins → (g : ℕ) → source_of o.propagation ≡ Some g
      → Ours sealing fresh serves g
  sources o m g e = ⊎_elim (λ same. none_is_some g (cc))
      (λ none. absurd none) m

  pub mounted_as_before : OthersAsBefore world (mounted nat_eq (odds fresh) world here new_one flags) names names
  mounted_as_before = copies_as_before serves
      (λ a b. (_, refl)) sources (shows sealing serves here on own new_one number layers named flags)

-- A plain one
pub plain_mounts_give_no_foothold : PlainMountsGiveNoFoothold
plain_mounts_give_no_foothold world names name path flags it fresh serves = elim (cases_Option _) [
  | inl e ↦ refused_out it fresh (ap (λ o. is_ok (ran name (MountPlain path flags) world fresh o).answer) e)
  | inr its ↦ let member = caller_in it its.1 in
      judged_by its.0 member its.1 _ refl (mounts_there member flags fresh path)
]
  where
    judged_by : (task : Task ℕ) (member : IsMember world names task) → task_called world name ≡ Some task
        → (j : Judgement ℕ) → judge_in nat_eq fresh world task (MountPlain path flags) ≡ j
        → IfOk j (Mounts member flags)
        → GivesNoFoothold world names name (MountPlain path flags) fresh
    judged_by task member e (Ok permit) judged its = permit_out
        (record { it = it; few = refl; serves = serves; called = e }) (ToMountPlain its.0 flags) (cc (its.1))
        (λ ends. mounted_as_before (sealing_of it) serves its.0 its.2 its.3 (plain_filesystem nat_eq fresh) refl
        (λ layer m. absurd m) (ap (λ b. b && true) (or_left _ _ (eq-eqb (evens fresh 1) _ refl))) flags)
    judged_by task member e (Err deny) judged its = denied_out it fresh task deny e judged
