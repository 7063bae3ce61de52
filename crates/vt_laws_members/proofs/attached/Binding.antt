-- Each mount(2) with MS_BIND, recursive or not, ends in the part as in the world.
use Rattle.std.proofs.Common.{arith, ◌≡◌, refl, sym, ap, subst, ◌∙◌, ⊎_elim, ℕ, zero, suc, nat_eq, Bool, true, false, List, [], Some, None, Ok, filter, length, not, IfOk}
use Rattle.vt_spec.proofs.Common.{Among, Bind, Copies, Done, Filesystem, Fresh, IsWorld, Location, Mount, Permit, Serves, Task, TaskName, ToBind, World, among-filter, among-from_filter, among-from_flat_map, attached_by, bind_tree, bindable_children, bindable_tree, bound_at, children, common_steps, copies_from, granted, is_among, is_elsewhere, is_own_mount, is_unbindable, judge, judge_in, judging, list_any, members, mount_at, number-mount_in, numbers_raised, or_parts, overfills, part_of, policy, source_of, stands_under, task_called, used_directly, used_filesystems}
use Rattle.vt_laws_members.proofs.judging.Common.{IsMember, IsTheirs, bind_alike, caller_in, children_own, own_theirs, owned, sealing_of, theirs_directly, theirs_from}
use Rattle.vt_laws_members.proofs.Common.{all_in_use, binds_keep_all, is_own, locations_of_worlds_stand, mounts_of_worlds_stand, numbered}
use Rattle.vt_laws_members.specs.Judging.{is_theirs}
use Rattle.vt_laws_members.specs.Changes.Changes.{EndsAlike, IsCallOfTheirs}
use Rattle.vt_laws_members.proofs.changes.Common.{StandsHere, by_known, heard_by_own, master_same, ends_so, judged_so, one, part_in_use, ran, ran_there, run_by, same_caller}
use Rattle.vt_laws_members.specs.Attached.Attaching.{BindsEndAlike}
use Rattle.vt_laws_members.proofs.attached.AttachedAlike.{copies_alike}
use Rattle.vt_laws_members.proofs.attached.CopiesAlike.{AttachesTheirs, base, base_part, no_new_ones, parts, parts_alike}
use Rattle.vt_laws_members.proofs.attached.Destination.{at_destination, at_source, locations_stand_there, mounts_stand_there, placed, placed_there, there}
use Rattle.vt_laws_members.proofs.attached.PushedUp.{ShowTheirs}
use Rattle.vt_laws_members.proofs.attached.Unused.{group_new}

-- What a granted bind attaches
module _ {world : World ℕ} {names : List TaskName} {task : Task ℕ} (member : IsMember world names task)
    (recursive : Bool) where
  abbrev own_at : Location ℕ → Type 0
  own_at here = is_own world names (members world names) (mount_at nat_eq world here) ≡ true

  abbrev pub Binds : Permit ℕ → Type 0
  Binds permit = (from : Location ℕ) × (here : Location ℕ) × (permit ≡ ToBind from here recursive)
      × (is_theirs world names from.mount ≡ true) × own_at from × (is_theirs world names here.mount ≡ true)
      × own_at here

  pub binds_there : (fresh : Fresh ℕ) (source path : List ℕ) → IfOk
      (judge nat_eq (one member) (overfills nat_eq fresh world task) task (Bind source path recursive)) Binds
  unfolding judging
  binds_there fresh source path = judged_so (one member) (overfills nat_eq fresh world task) task Binds
      (Bind source path recursive) (λ admin from from_end here end passed.
      let both = or_parts (is_elsewhere nat_eq (one member) task from.location)
      (is_elsewhere nat_eq (one member) task here.location) passed.0 in (
        from.location,
        here.location,
        refl,
        ends_so (StandsHere member) (at_source member source) from_end,
        owned member from.location both.0,
        ends_so (StandsHere member) (at_destination member path) end,
        owned member here.location both.1,
      ))

-- What a bind copies is of mounts of theirs
module _ (world : World ℕ) (names : List TaskName) (is : IsWorld nat_eq world) where
  abbrev mine : Mount ℕ → Type 0
  mine m = Among m world.mounts × (is_own world names (members world names) m ≡ true)

  child_mine : (m child : Mount ℕ) → mine m → Among child (bindable_children nat_eq world.mounts m.number) → mine child
  child_mine m child its n = children_own world names is m.number child (own_theirs world names is m its.0 its.1)
      (among-from_filter (λ (x : Mount ℕ). not (is_unbindable x.propagation))
      (children nat_eq world.mounts m.number) child n).0

  tree_mine : (depth : ℕ) (m : Mount ℕ) → mine m → (o : Mount ℕ) → Among o (bindable_tree nat_eq depth world.mounts m)
      → mine o
  tree_mine zero m its o n = ⊎_elim (λ same. rw same its) (λ none. absurd none) n
  tree_mine (suc depth) m its o n = ⊎_elim (λ same. rw same its) (λ below. let child = among-from_flat_map _ _ o below
      in tree_mine depth child.0 (child_mine m child.0 its child.1) o child.2) n

  -- each is one of theirs, or shows what the source's mount shows
  abbrev IsCopied : Mount ℕ → Type 0
  IsCopied o = (x : Mount ℕ) × mine x × (o.filesystem ≡ x.filesystem) × (o.propagation ≡ x.propagation)

  pub all_copied : (source : Location ℕ) (recursive : Bool) → mine (mount_at nat_eq world source) → (o : Mount ℕ)
      → Among o (bind_tree nat_eq world source recursive) → IsCopied o
  all_copied source false its o n = ⊎_elim (λ same. (
    mount_at nat_eq world source,
    its,
    ap (λ (x : Mount ℕ). x.filesystem) same,
    ap (λ (x : Mount ℕ). x.propagation) same,
  )) (λ none. absurd none) n
  all_copied source true its o n = ⊎_elim (λ same. (
    mount_at nat_eq world source,
    its,
    ap (λ (x : Mount ℕ). x.filesystem) same,
    ap (λ (x : Mount ℕ). x.propagation) same,
  )) (λ below.
      let top = among-from_flat_map (bindable_tree nat_eq (length world.mounts) world.mounts)
      (filter (stands_under nat_eq world source) (bindable_children nat_eq world.mounts source.mount)) o below in
      let child = among-from_filter (stands_under nat_eq world source)
      (bindable_children nat_eq world.mounts source.mount) top.0 top.1 in
      let same : (mount_at nat_eq world source).number ≡ source.mount = number-mount_in world.mounts source.mount in (
        o,
        tree_mine (length world.mounts) top.0 (child_mine (mount_at nat_eq world source) top.0 its
            (subst (λ k. Among top.0 (bindable_children nat_eq world.mounts k)) (sym same) child.0)) o top.2,
        refl,
        refl,
      )) n

-- A granted bind
module _ {world : World ℕ} {names : List TaskName} {name : TaskName} {source path : List ℕ} {recursive : Bool}
    (it : IsCallOfTheirs world names name (Bind source path recursive)) {task : Task ℕ}
    (called : task_called world name ≡ Some task) {fresh : Fresh ℕ} (serves : Serves nat_eq world fresh)
    {from here : Location ℕ} (from_on : is_theirs world names from.mount ≡ true)
    (from_own : is_own world names (members world names) (mount_at nat_eq world from) ≡ true)
    (on : is_theirs world names here.mount ≡ true)
    (own : is_own world names (members world names) (mount_at nat_eq world here) ≡ true)
    (judged : judge_in nat_eq fresh world task (Bind source path recursive) ≡ Ok (ToBind from here recursive)) where
  abbrev part : World ℕ
  part = part_of nat_eq world names

  from_theirs : IsTheirs world names it.is.mounts from.mount
  from_theirs = theirs_from world names it.is.mounts from.mount from_on

  here_theirs : IsTheirs world names it.is.mounts here.mount
  here_theirs = theirs_from world names it.is.mounts here.mount on

  here_there : Among (mount_at nat_eq world here) world.mounts
  here_there = there world names it.is it.sealed_off here here_theirs own

  from_mine : mine world names it.is (mount_at nat_eq world from)
  from_mine = (there world names it.is it.sealed_off from from_theirs from_own, from_own)

  abbrev origins : List (Mount ℕ)
  origins = bind_tree nat_eq world from recursive

  unused : (n : ℕ) → is_among nat_eq n (used_filesystems nat_eq world names) ≡ true
      → list_any (λ (f : Filesystem ℕ). nat_eq n f.number) [] ≡ false
  unused n used = refl

  abbrev attaching : AttachesTheirs world names
  attaching = record {
    sealing = sealing_of it;
    new_ones = [];
    unused = unused;
    place = here;
    there = here_there;
    own = own;
  }

  abbrev new : Copies ℕ
  new = copies_from nat_eq fresh (parts attaching) origins

  shown : (o : Mount ℕ) → Among o origins → Among o.filesystem (used_directly nat_eq world names)
  shown o m =
      let x = all_copied world names it.is from recursive from_mine o m in
      subst (λ n. Among n (used_directly nat_eq world names)) (cc (numbered world names it.is.mounts x.0 x.1.0, x.2))
      (theirs_directly world names it.is (record { mount = x.0.number; node = x.0.root })
      (own_theirs world names it.is x.0 x.1.0 x.1.1))

  shows : ShowTheirs attaching new false origins
  shows = grind (arith, common_steps, shown)

  sources : (o : Mount ℕ) → Among o origins → (g : ℕ) → source_of o.propagation ≡ Some g
      → part.master g ≡ world.master g
  sources o m g e =
      let x = all_copied world names it.is from recursive from_mine o m in
      master_same (sealing_of it) g (heard_by_own (sealing_of it) x.0
      (among-filter (is_own_mount nat_eq world names) world.mounts x.0 x.1.0 x.1.1) g (cc x.3))

  new_groups : (a b : ℕ) → world.master (new.image a b) ≡ None
  new_groups a b = group_new world names it.is fresh serves _

  abbrev now : World ℕ
  now = bound_at nat_eq fresh world from here recursive

  abbrev now_there : World ℕ
  now_there = bound_at nat_eq fresh part from here recursive

  first : policy nat_eq fresh world name (Bind source path recursive)
      ≡ granted Done (numbers_raised nat_eq world name [] now)
  first = ap (ran name (Bind source path recursive) world fresh) called ∙ ap (run_by it world fresh task) judged
      ∙ ap (λ w. granted Done (numbers_raised nat_eq world name [] w))
      (binds_keep_all fresh world task from here recursive (all_in_use world it.is) (mounts_of_worlds_stand world it.is)
      (locations_of_worlds_stand world it.is) (placed world names it.is it.sealed_off here here_theirs own))

  second : policy nat_eq fresh part name (Bind source path recursive)
      ≡ granted Done (numbers_raised nat_eq part name [] now_there)
  second = ap (ran name (Bind source path recursive) part fresh)
      (same_caller (sealing_of it) name it.theirs ∙ called) ∙ ran_there it fresh fresh task called judged ∙ ap
      (λ w. granted Done (numbers_raised nat_eq part name [] w)) (binds_keep_all fresh part task from here recursive
      (part_in_use (sealing_of it)) (mounts_stand_there world names it.is it.sealed_off)
      (locations_stand_there world names it.is) (placed_there world names it.is it.sealed_off here here_theirs own))

  now_so : now ≡ attached_by nat_eq (base attaching) new here false origins
  now_so = cc (no_new_ones world)

  there_so : now_there ≡ attached_by nat_eq
      (base_part attaching) new here false origins
  there_so = cc (bind_alike world names it.is from recursive from_theirs, no_new_ones part, parts_alike attaching)

  parts_same : part_of nat_eq (numbers_raised nat_eq world name [] now) names
      ≡ part_of nat_eq (numbers_raised nat_eq part name [] now_there) names
  parts_same = ap (λ w. part_of nat_eq (numbers_raised nat_eq world name [] w) names) now_so
      ∙ copies_alike attaching new_groups sources shows name
      ∙ sym (ap (λ w. part_of nat_eq (numbers_raised nat_eq part name [] w) names) there_so)

  bind_ends : EndsAlike world names name (Bind source path recursive) fresh fresh
  bind_ends = grind (arith, common_steps, second, first, parts_same)

pub binds_end_alike : BindsEndAlike
binds_end_alike world names name source path recursive it fresh serves = by_known it fresh fresh refl
    (λ task e. Binds (caller_in it e) recursive) (λ task e. binds_there (caller_in it e) recursive fresh source path)
    (λ task e permit judged its. bind_ends it e serves its.3 its.4 its.5 its.6 (judged ∙ ap Ok its.2))
