-- Each mount(2) that changes a propagation type ends in the part as in the world.
use Rattle.std.proofs.Common.{◌≡◌, refl, sym, ap, subst, ◌∙◌, ⊎_elim, ℕ, zero, suc, nat_eq, Bool, true, false, List, [], Option, Some, Ok, map, IfOk}
use Rattle.vt_spec.proofs.Common.{Among, Done, Fresh, IsWorld, Location, Mount, Permit, Propagation, Serves, SetType, Task, TaskName, ToSetType, TypeWord, World, among-filter, among-from_filter, among-from_flat_map, children, granted, holds_of, is_own_mount, judge, judge_in, judging, members, mount_at, mount_numbered, mount_tree, named_mounts, not-false, number-mount_in, numbers_by, numbers_raised, own_mounts, part_of, policy, regrouped, retyped, settled, task_called, tree_from}
use Rattle.vt_laws_members.proofs.judging.Common.{IsMember, IsTheirs, caller_in, children_own, in_own, its_mount, own_theirs, same_mount, sealing_of, theirs_from, tree_alike}
use Rattle.vt_laws_members.proofs.Common.{AllInUse, all_in_use, is_own, with_changed}
use Rattle.vt_laws_members.specs.Judging.{is_theirs}
use Rattle.vt_laws_members.specs.Changes.Changes.{EndsAlike, IsCallOfTheirs}
use Rattle.vt_laws_members.proofs.changes.Common.{StandsHere, at_directory, by_known, ended_alike, ends_so, judged_so, one, part_in_use, ran, ran_there, run_by, same_caller}
use Rattle.vt_laws_members.specs.Types.TypeChanges.{OtherTypesEndAlike, TypesEndAlike, takes_groups}
use Rattle.vt_laws_members.proofs.types.Inherited.{kind_left, master_left, settled_so}
use Rattle.vt_laws_members.proofs.types.Retyped.{alike_by_any, alike_by_one, new_kind, new_masters, retyped_so, same_kind}
use Rattle.vt_laws_members.proofs.types.TypesLeft.{AreTypedAlike, types_left}

-- The world after a change of types and the sweep
module _ (w : World ℕ) (all : AllInUse w) (fresh : Fresh ℕ) (word : TypeWord) (named : List (Mount ℕ)) where
  abbrev masters : ℕ → Option ℕ
  masters = new_masters fresh word named w

  abbrev pub after_types : World ℕ
  after_types = with_changed w (λ m. record m { propagation = kind_left w (new_kind fresh word named) masters m })
      (master_left w (new_kind fresh word named) masters)

  pub types_settled : settled nat_eq (retyped nat_eq w (numbers_by nat_eq fresh named) word named) ≡ after_types
  types_settled = (λ i. settled nat_eq (regrouped nat_eq (record w {
    mounts = map (λ m. retyped_so fresh word named m i) w.mounts;
    master = masters;
  }))) ∙ settled_so w (new_kind fresh word named) masters all

-- What a granted call sets
module _ {world : World ℕ} {names : List TaskName} {task : Task ℕ} (member : IsMember world names task)
    (word : TypeWord) (recursive : Bool) where
  abbrev On : ℕ → Type 0
  On number = is_theirs world names number ≡ true

  abbrev pub SetsType : Permit ℕ → Type 0
  SetsType permit = (here : Location ℕ) × (permit ≡ ToSetType here.mount word recursive) × On here.mount
      × (is_own world names (members world names) (mount_at nat_eq world here) ≡ true)

  pub sets_type : (full : Permit ℕ → Bool) (path : List ℕ) → IfOk (judge nat_eq (one member) full task (SetType path word recursive)) SetsType
  unfolding judging
  sets_type full path = judged_so (one member) full task SetsType (SetType path word recursive)
      (λ admin here end passed. (
        here.location,
        refl,
        ends_so (StandsHere member) (at_directory member path) end,
        in_own world names member.is task member.among (mount_at nat_eq world here.location)
            (not-false (holds_of (nat_eq task.namespace) (mount_at nat_eq world here.location).namespace) passed.0),
      ))

-- The mounts named
module _ (world : World ℕ) (names : List TaskName) (is : IsWorld nat_eq world) where
  abbrev part : World ℕ
  part = part_of nat_eq world names

  abbrev owns : List (Mount ℕ)
  owns = own_mounts nat_eq world names

  tree_own : (n : ℕ) (mount x : Mount ℕ) → Among mount owns → Among x (tree_from nat_eq n world.mounts mount)
      → Among x owns
  tree_own zero mount x own m = ⊎_elim (λ e. rw e own) (λ none. absurd none) m
  tree_own (suc n) mount x own m = ⊎_elim (λ e. rw e own) (λ below. let at = among-from_filter
      (is_own_mount nat_eq world names) world.mounts mount own in let from = among-from_flat_map
      (tree_from nat_eq n world.mounts) (children nat_eq world.mounts mount.number) x below in let child = children_own
      world names is mount.number from.0 (own_theirs world names is mount at.0 at.1) from.1 in tree_own n from.0 x
      (among-filter (is_own_mount nat_eq world names) world.mounts from.0 child.0 child.1) from.2) m

  module _ (number : ℕ) (theirs : IsTheirs world names is.mounts number)
      (own : Among (mount_numbered nat_eq world number) owns) where
    named_own : (recursive : Bool) (x : Mount ℕ) → Among x (named_mounts nat_eq world number recursive) → Among x owns
    named_own true x m = tree_own _ (mount_numbered nat_eq world number) x own m
    named_own false x m = ⊎_elim (λ e. rw e own) (λ none. absurd none) m

    named_alike : (recursive : Bool)
        → named_mounts nat_eq part number recursive ≡ named_mounts nat_eq world number recursive
    named_alike true = ap (mount_tree nat_eq part.mounts) (same_mount world names is.mounts number theirs)
        ∙ tree_alike world names is (mount_numbered nat_eq world number)
        (subst (IsTheirs world names is.mounts) (sym (number-mount_in world.mounts number)) theirs)
    named_alike false = cc (same_mount world names is.mounts number theirs)

-- A granted call
module _ {world : World ℕ} {names : List TaskName} {name : TaskName} {path : List ℕ} {word : TypeWord}
    {recursive : Bool} (it : IsCallOfTheirs world names name (SetType path word recursive)) {task : Task ℕ}
    (called : task_called world name ≡ Some task) (fresh other : Fresh ℕ) (here : Location ℕ)
    (on : is_theirs world names here.mount ≡ true)
    (own : is_own world names (members world names) (mount_at nat_eq world here) ≡ true)
    (judged : judge_in nat_eq fresh world task (SetType path word recursive) ≡ Ok (ToSetType here.mount word recursive))
  where
    abbrev there : World ℕ
    there = part_of nat_eq world names

    abbrev mount_of : Mount ℕ
    mount_of = mount_numbered nat_eq world here.mount

    theirs : IsTheirs world names it.is.mounts here.mount
    theirs = theirs_from world names it.is.mounts here.mount on

    its_own : Among mount_of (own_mounts nat_eq world names)
    its_own = among-filter (is_own_mount nat_eq world names) world.mounts mount_of
        (rw (its_mount world names it.is.mounts here.mount theirs) theirs.1) own

    abbrev pub named : List (Mount ℕ)
    named = named_mounts nat_eq world here.mount recursive

    pub all_own : (m : Mount ℕ) → Among m named → Among m (own_mounts nat_eq world names)
    all_own = named_own world names it.is here.mount theirs its_own recursive

    abbrev kind : Mount ℕ → Propagation ℕ
    kind = new_kind fresh word named

    abbrev now : World ℕ
    now = after_types world (all_in_use world it.is) fresh word named

    module _ (kind_there : Mount ℕ → Propagation ℕ) (masters_there : ℕ → Option ℕ) (settled_there : settled nat_eq
        (retyped nat_eq there (numbers_by nat_eq other named) word named)
        ≡ with_changed there (λ m. record m { propagation = kind_there m }) masters_there) (typed : AreTypedAlike
        (sealing_of it) (kind_left world kind (new_masters fresh word named world)) kind_there (master_left world kind
        (new_masters fresh word named world)) masters_there) where
      abbrev now_there : World ℕ
      now_there = with_changed there (λ m. record m { propagation = kind_there m }) masters_there

      first : policy nat_eq fresh world name (SetType path word recursive)
          ≡ granted Done (numbers_raised nat_eq world name [] now)
      first = ap (ran name (SetType path word recursive) world fresh) called ∙ ap (run_by it world fresh task) judged
          ∙ ap (λ w. granted Done (numbers_raised nat_eq world name [] w))
          (types_settled world (all_in_use world it.is) fresh word named)

      second : policy nat_eq other there name (SetType path word recursive)
          ≡ granted Done (numbers_raised nat_eq there name [] now_there)
      second = cc (
        same_caller (sealing_of it) name it.theirs,
        ran_there it fresh other task called judged,
        named_alike world names it.is here.mount theirs its_own recursive,
      )

      pub type_alike : EndsAlike world names name (SetType path word recursive) fresh other
      type_alike = ended_alike names name (SetType path word recursive) first second (record {
        answer = refl;
        part = types_left (sealing_of it)
            (kind_left world kind (new_masters fresh word named world)) kind_there
            (master_left world kind (new_masters fresh word named world)) masters_there typed name;
      })

    pub by_one : Serves nat_eq world fresh → fresh ≡ other
        → EndsAlike world names name (SetType path word recursive) fresh other
    by_one serves same = type_alike (kind_left there kind (new_masters fresh word named there))
        (master_left there kind (new_masters fresh word named there))
        (ap (λ supply. settled nat_eq (retyped nat_eq there (numbers_by nat_eq supply named) word named)) (sym same)
        ∙ types_settled there (part_in_use (sealing_of it)) fresh word named)
        (alike_by_one (sealing_of it) serves word named all_own)

    pub by_any : Serves nat_eq world fresh → Serves nat_eq there other → takes_groups word ≡ false
        → EndsAlike world names name (SetType path word recursive) fresh other
    by_any serves serves_there no_groups = type_alike (kind_left there kind (new_masters other word named there))
        (master_left there kind (new_masters other word named there)) (types_settled there (part_in_use (sealing_of it))
        other word named ∙ (λ i. with_changed there (λ m. record m {
          propagation = kind_left there (λ x. same x i)
              (new_masters other word named there) m;
        }) (master_left there (λ x. same x i)
        (new_masters other word named there)))) (alike_by_any (sealing_of it) serves word named all_own other
        serves_there no_groups)
      where
        same : (m : Mount ℕ) → new_kind other word named m ≡ kind m
        same = same_kind (sealing_of it) serves word named all_own other serves_there no_groups

-- A call, granted or refused
module _ {world : World ℕ} {names : List TaskName} {name : TaskName} {path : List ℕ} {word : TypeWord}
    {recursive : Bool} (it : IsCallOfTheirs world names name (SetType path word recursive)) (fresh other : Fresh ℕ)
    (ends : (task : Task ℕ) → task_called world name ≡ Some task
    → (here : Location ℕ) → is_theirs world names here.mount ≡ true
    → is_own world names (members world names) (mount_at nat_eq world here) ≡ true
    → judge_in nat_eq fresh world task (SetType path word recursive) ≡ Ok (ToSetType here.mount word recursive)
    → EndsAlike world names name (SetType path word recursive) fresh other) where
  all_end : EndsAlike world names name (SetType path word recursive) fresh other
  all_end = by_known it fresh other refl (λ task e. SetsType (caller_in it e) word recursive)
      (λ task e. sets_type (caller_in it e) word recursive _ path)
      (λ task e permit judged its. ends task e its.0 its.2 its.3 (judged ∙ ap Ok its.1))

pub types_end_alike : TypesEndAlike
types_end_alike world names name path word recursive it fresh serves =
    all_end it fresh fresh (λ task e here on own judged. by_one it e fresh fresh here on own judged serves refl)

pub other_types_end_alike : OtherTypesEndAlike
other_types_end_alike world names name path word recursive it no_groups fresh other serves serves_there =
    all_end it fresh other (λ task e here on own judged. by_any it e fresh other here on own judged serves
    serves_there no_groups)
