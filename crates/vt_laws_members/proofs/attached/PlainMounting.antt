-- Each mount(2) of a new plain filesystem ends in the part as in the world.
use Rattle.std.proofs.Common.{◌≡◌, refl, sym, ap, subst, ◌∙◌, inl, inr, ⊎_elim, ℕ, nat_eq, true, false, List, [], ◌∷◌, Some, None, Ok, ◌||◌, eq-eqb, IfOk}
use Rattle.vt_spec.proofs.Common.{Among, Copies, Done, Filesystem, Fresh, Location, Mount, MountFlags, MountPlain, Permit, Serves, Task, TaskName, ToMountPlain, World, attached_by, copies_from, granted, is_among, judge, judge_in, judging, layers_of, list_any, members, mount_at, mounted, new_mount, none_is_some, numbers_raised, odds, of_overlay, overfills, part_of, plain_filesystem, policy, source_of, task_called, used_filesystems}
use Rattle.vt_laws_members.proofs.judging.Common.{IsMember, IsTheirs, caller_in, owned, sealing_of, theirs_from}
use Rattle.vt_laws_members.proofs.Common.{all_in_use, is_own, locations_of_worlds_stand, mounts_of_worlds_stand, new_mounts_of_trees_keep_all}
use Rattle.vt_laws_members.specs.Judging.{is_theirs}
use Rattle.vt_laws_members.specs.Changes.Changes.{EndsAlike, IsCallOfTheirs}
use Rattle.vt_laws_members.proofs.changes.Common.{StandsHere, by_known, ended_alike, ends_so, judged_so, one, part_in_use, ran, ran_there, run_by, same_caller}
use Rattle.vt_laws_members.specs.Attached.Attaching.{PlainMountsEndAlike}
use Rattle.vt_laws_members.proofs.attached.AttachedAlike.{copies_alike}
use Rattle.vt_laws_members.proofs.attached.CopiesAlike.{AttachesTheirs, base_part, parts, parts_alike}
use Rattle.vt_laws_members.proofs.attached.Destination.{at_destination, locations_stand_there, mounts_stand_there, placed, placed_there, there}
use Rattle.vt_laws_members.proofs.attached.PushedUp.{ShowTheirs}
use Rattle.vt_laws_members.proofs.attached.Unused.{filesystem_unlike, group_new, used_unlike}

-- What a granted mount of a plain filesystem attaches
module _ {world : World ℕ} {names : List TaskName} {task : Task ℕ} (member : IsMember world names task)
    (flags : MountFlags) where
  abbrev pub Mounts : Permit ℕ → Type 0
  Mounts permit = (here : Location ℕ) × (permit ≡ ToMountPlain here flags) × (is_theirs world names here.mount ≡ true)
      × (is_own world names (members world names) (mount_at nat_eq world here) ≡ true)

  pub mounts_there : (fresh : Fresh ℕ) (path : List ℕ) → IfOk
      (judge nat_eq (one member) (overfills nat_eq fresh world task) task (MountPlain path flags)) Mounts
  unfolding judging
  mounts_there fresh path = judged_so (one member) (overfills nat_eq fresh world task) task Mounts
      (MountPlain path flags) (λ admin here end passed. (
        here.location,
        refl,
        ends_so (StandsHere member) (at_destination member path) end,
        owned member here.location passed.0,
      ))

-- A granted mount of a plain filesystem
module _ {world : World ℕ} {names : List TaskName} {name : TaskName} {path : List ℕ} {flags : MountFlags}
    (it : IsCallOfTheirs world names name (MountPlain path flags)) {task : Task ℕ}
    (called : task_called world name ≡ Some task) {fresh : Fresh ℕ} (serves : Serves nat_eq world fresh)
    {here : Location ℕ} (on : is_theirs world names here.mount ≡ true)
    (own : is_own world names (members world names) (mount_at nat_eq world here) ≡ true)
    (judged : judge_in nat_eq fresh world task (MountPlain path flags) ≡ Ok (ToMountPlain here flags)) where
  abbrev part : World ℕ
  part = part_of nat_eq world names

  theirs : IsTheirs world names it.is.mounts here.mount
  theirs = theirs_from world names it.is.mounts here.mount on

  here_there : Among (mount_at nat_eq world here) world.mounts
  here_there = there world names it.is it.sealed_off here theirs own

  abbrev new_one : Filesystem ℕ
  new_one = plain_filesystem nat_eq fresh

  abbrev origins : List (Mount ℕ)
  origins = new_mount new_one.number new_one.files.tree.root flags ∷ []

  unused : (n : ℕ) → is_among nat_eq n (used_filesystems nat_eq world names) ≡ true
      → list_any (λ (f : Filesystem ℕ). nat_eq n f.number) (new_one ∷ []) ≡ false
  unused n used = ap (λ b. b || false) (used_unlike world names it.is fresh serves n used 0)

  abbrev attaching : AttachesTheirs world names
  attaching = record {
    sealing = sealing_of it;
    new_ones = new_one ∷ [];
    unused = unused;
    place = here;
    there = here_there;
    own = own;
  }

  abbrev new : Copies ℕ
  new = copies_from nat_eq (odds fresh) (parts attaching) origins

  shows : ShowTheirs attaching new false origins
  shows = record {
    shown = λ o m. inr (⊎_elim (λ same. ap (λ (x : Mount ℕ). nat_eq x.filesystem new_one.number || false) same
        ∙ ap (λ b. b || false) (eq-eqb new_one.number new_one.number refl)) (λ none. absurd none) m);
    unlisted = λ f m. ap (λ b. b || false) (filesystem_unlike world names it.is fresh serves f m 0);
    layers = λ f m layer n. ⊎_elim
        (λ same. absurd (subst (Among layer) (ap (of_overlay [] layers_of) same) n)) (λ none. absurd none) m;
    mounted = λ f m. (
      new_mount new_one.number new_one.files.tree.root flags,
      inl refl,
      ⊎_elim (λ same. ap (λ (g : Filesystem ℕ). g.number) (sym same)) (λ none. absurd none) m,
    );
  }

  sources : (o : Mount ℕ) → Among o origins → (g : ℕ) → source_of o.propagation ≡ Some g
      → part.master g ≡ world.master g
  sources o m g e = ⊎_elim (λ same. none_is_some g (sym (ap (λ (x : Mount ℕ). source_of x.propagation) same) ∙ e))
      (λ none. absurd none) m

  new_groups : (a b : ℕ) → world.master (new.image a b) ≡ None
  new_groups a b = group_new world names it.is fresh serves _

  abbrev now : World ℕ
  now = mounted nat_eq (odds fresh) world here new_one flags

  abbrev now_there : World ℕ
  now_there = mounted nat_eq (odds fresh) part here new_one flags

  first : policy nat_eq fresh world name (MountPlain path flags)
      ≡ granted Done (numbers_raised nat_eq world name [] now)
  first = ap (ran name (MountPlain path flags) world fresh) called ∙ ap (run_by it world fresh task) judged
      ∙ ap (λ w. granted Done (numbers_raised nat_eq world name [] w))
      (new_mounts_of_trees_keep_all fresh world task here flags (all_in_use world it.is)
      (mounts_of_worlds_stand world it.is) (locations_of_worlds_stand world it.is)
      (placed world names it.is it.sealed_off here theirs own))

  second : policy nat_eq fresh part name (MountPlain path flags)
      ≡ granted Done (numbers_raised nat_eq part name [] now_there)
  second = ap (ran name (MountPlain path flags) part fresh)
      (same_caller (sealing_of it) name it.theirs ∙ called) ∙ ran_there it fresh fresh task called judged ∙ ap
      (λ w. granted Done (numbers_raised nat_eq part name [] w)) (new_mounts_of_trees_keep_all fresh part task here
      flags (part_in_use (sealing_of it)) (mounts_stand_there world names it.is it.sealed_off)
      (locations_stand_there world names it.is) (placed_there world names it.is it.sealed_off here theirs own))

  -- the numbers are handed out to the same parts
  same_numbers : now_there ≡ attached_by nat_eq
      (base_part attaching) new here false origins
  same_numbers = ap (λ l. attached_by nat_eq (base_part attaching) (copies_from nat_eq (odds fresh) l origins) here
      false origins) (parts_alike attaching)

  parts_same : part_of nat_eq (numbers_raised nat_eq world name [] now) names
      ≡ part_of nat_eq (numbers_raised nat_eq part name [] now_there) names
  parts_same = copies_alike attaching new_groups sources shows name
      ∙ sym (ap (λ w. part_of nat_eq (numbers_raised nat_eq part name [] w) names) same_numbers)

  mount_alike : EndsAlike world names name (MountPlain path flags) fresh fresh
  mount_alike = ended_alike names name (MountPlain path flags) first second
      (record { answer = refl; part = parts_same })

pub plain_mounts_end_alike : PlainMountsEndAlike
plain_mounts_end_alike world names name path flags it fresh serves = by_known it fresh fresh refl
    (λ task e. Mounts (caller_in it e) flags) (λ task e. mounts_there (caller_in it e) flags fresh path)
    (λ task e permit judged its. mount_alike it e serves its.2 its.3 (judged ∙ ap Ok its.1))
