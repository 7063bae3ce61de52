-- So is the part, where the tasks let go in it what they let go in the world.
use Rattle.std.proofs.Common.{◌≡◌, sym, ap, subst, ◌∙◌, ◌⊎◌, inl, inr, ⊎_elim, ℕ, nat_eq, true, List, Option, Some, None, filter, is_some, eq-eqb}
use Rattle.vt_spec.proofs.Common.{Among, Location, Mount, Task, TaskName, World, among-filter, among-filter_map, among-flat_map, among-from_filter, among-from_filter_map, among-from_flat_map, any_from_among, is_at, is_located, is_member_task, locations, locations_of, members, mount_lives, none_is_some, or_left, own_lowers, pair-filter, part_of, roots_and_directories, used_filesystems, without_dead_mounts}
use Rattle.vt_laws_members.proofs.Common.{cases_Option, OneNumberEach, is_own, keep, kept_how, kept_whole, lowers_same, nowhere_stands, shown_at, used_same}
use Rattle.vt_laws_members.proofs.judging.Common.{IsTheirs, part_mount, part_one_number}
use Rattle.vt_laws_members.proofs.changes.letting_go.Changed.{Retasks, ground_is, ground_whole, mount_parent, owned_same, placed_on, sees_less}
use Rattle.vt_laws_members.proofs.changes.letting_go.Ready.{NoOthers, Ready}
use Rattle.vt_laws_members.proofs.changes.letting_go.LessSeen.{AreLess, less_lowers, less_used}
use Rattle.vt_laws_members.proofs.changes.letting_go.PartFiles.{cut_in_part, numbers_in_part, plain_in_part}
use Rattle.vt_laws_members.proofs.changes.letting_go.SeeLess.{SeeLess, now_less}
use Rattle.vt_laws_members.proofs.changes.letting_go.WorldReady.{sees_living}
use Rattle.vt_laws_members.proofs.changes.letting_go.Living.{located_lives}

module _ {world : World ℕ} {names set : List TaskName} (left : Retasks world names set)
    (change change_too : ℕ) where
  abbrev part : World ℕ
  part = part_of nat_eq world names

  abbrev later : World ℕ
  later = record world { tasks = left.tasks; change = change }

  abbrev later_part : World ℕ
  later_part = record part { tasks = left.tasks_too; change = change_too }

  abbrev living : World ℕ
  living = without_dead_mounts nat_eq later_part

  abbrev old : List (Task ℕ)
  old = members world names

  abbrev new : List (Task ℕ)
  new = members later set

  abbrev kept : Mount ℕ → Option (Mount ℕ)
  kept = keep world names old

  less : SeeLess world names set left.tasks change
  less = sees_less left.sealing set left.tasks change left.lets

  there : (y : Mount ℕ) → Among y living.mounts → Among y part.mounts
  there y n = (among-from_filter (mount_lives nat_eq later_part) part.mounts y n).0

  was : (y : Mount ℕ) → Among y living.mounts → (m : Mount ℕ) × Among m world.mounts × (kept m ≡ Some y)
  was y n = among-from_filter_map kept world.mounts y (there y n)

  number_kept : (m y : Mount ℕ) → kept m ≡ Some y → y.number ≡ m.number
  number_kept m y e = ⊎_elim (λ its. cc) (λ stub. cc stub.0) (kept_how world names old m y e)

  attached_lives : (y : Mount ℕ) (n : ℕ) → Among y part.mounts → y.namespace ≡ Some n → Among y living.mounts
  attached_lives y n at e = among-filter (mount_lives nat_eq later_part) part.mounts y at
      (or_left (is_some y.namespace) (is_located nat_eq later_part y.number) (cc))

  -- a location of the set is on a mount of the part
  located_so : (l : Location ℕ) → Among l (locations (filter (is_member_task set) left.tasks_too))
      → (y : Mount ℕ) × Among y living.mounts × (l.mount ≡ y.number)
  located_so l m =
      let theirs : Among l (locations new) = rw (← left.same) m in
      let on = placed_on left.sealing set left.tasks change left.lets l theirs in
      let shows = by on.0 on.1 (left.lets.places l theirs) on.2 in
      let there_too = among-filter_map kept world.mounts on.0 shows.0 on.1 shows.1 in
      let t = among-from_flat_map locations_of (filter (is_member_task set) left.tasks_too) l m in
      let number : l.mount ≡ shows.0.number = on.2 ∙ sym (number_kept on.0 shows.0 shows.1) in (
        shows.0,
        located_lives later_part shows.0 l there_too (among-flat_map locations_of left.tasks_too t.0 l
            (among-from_filter (is_member_task set) left.tasks_too t.0 t.1).0 t.2) number,
        number,
      )
    where
      by : (m : Mount ℕ) → Among m world.mounts → Among l (locations old) ⊎ IsTheirs world names left.is.mounts l.mount
          → l.mount ≡ m.number → (y : Mount ℕ) × (kept m ≡ Some y)
      by m n (inl before) e = shown_at world names m (any_from_among _ _ l before (eq-eqb l.mount m.number e))
      by m n (inr theirs) e = (
        m,
        kept_whole world names old m (ground_whole left.sealing set left.tasks change left.lets m
            (ground_is left.sealing set left.tasks change left.lets m n l.mount e theirs)),
      )

  -- a mount of the part with a mount point is theirs, and whole
  whole_point : (m y : Mount ℕ) (l : Location ℕ) → Among m world.mounts → kept m ≡ Some y → y.mount_point ≡ Some l
      → (m ≡ y) × (is_own world names old y ≡ true)
  whole_point m y l n e point = ⊎_elim (λ its. (
    its,
    ⊎_elim (λ own. own) (λ none. absurd (nowhere_stands world names left.is.mounts y l
        (subst (λ k. Among k world.mounts) its n) none point)) (part_mount world names left.is m y n e),
  )) (λ stub. none_is_some l (ap (λ (k : Mount ℕ). k.mount_point) stub.0 ∙ point)) (kept_how world names old m y e)

  own_whole : (k : Mount ℕ) → Among k world.mounts → is_own world names old k ≡ true → Among k part.mounts
  own_whole k n own = among-filter_map kept world.mounts k k n (kept_whole world names old k (or_left _ _ own))

  parents_so : (y : Mount ℕ) (l : Location ℕ) → Among y living.mounts → y.mount_point ≡ Some l
      → (n : ℕ) × (y.namespace ≡ Some n) × (k : Mount ℕ) × Among k living.mounts × (l.mount ≡ k.number)
      × (k.namespace ≡ Some n)
  parents_so y l n point =
      let from = was y n in
      let whole = whole_point from.0 y l from.1 from.2 point in
      let up = mount_parent world left.is.mounts y l (rw (← whole.0) from.1) point in
      let own : is_own world names old up.2 ≡ true = cc (up.5, up.1, whole.1) in
      (up.0, up.1, up.2, attached_lives up.2 up.0 (own_whole up.2 up.3 own) up.5, up.4, up.5)

  -- owned by the set of before, so by that of now
  owned_now : (y : Mount ℕ) → is_own world names old y ≡ true
      → is_own world names (filter (is_member_task set) left.tasks_too) y ≡ true
  owned_now y own = cc (left.same, owned_same left.sealing set left.tasks change left.lets y)

  stood_there : (y : Mount ℕ) → Among y living.mounts
      → is_at nat_eq (roots_and_directories (filter (is_member_task set) left.tasks_too)) y ≡ true
      → (is_own world names (filter (is_member_task set) left.tasks_too) y ≡ true) ⊎ (y.mount_point ≡ None)
  stood_there y n h = elim (cases_Option y.mount_point) [
    | inl e ↦ inr e
    | inr its ↦ let from = was y n in inl (owned_now y (whole_point from.0 y its.0 from.1 from.2 its.1).1)
  ]

  -- all is theirs
  pub no_others_there : (number : ℕ) → NoOthers living set number
  no_others_there number = record {
    mounts = λ y n e. let from = was y n in
        ⊎_elim (λ own. inl (owned_now y own)) inr (part_mount world names left.is from.0 y from.1 from.2);
    locations = λ l m e. let t = among-from_flat_map locations_of left.tasks_too l m in among-flat_map locations_of
        (filter (is_member_task set) left.tasks_too) t.0 l
        (among-filter (is_member_task set) left.tasks_too t.0 t.1 (left.all t.0 t.1)) t.2;
  }

  sees : AreLess world names set later later_part
  sees = now_less left.is left.tasks_too change_too less left.same

  one_number : OneNumberEach living
  one_number = pair-filter (λ (p q : Mount ℕ). nat_eq p.number q.number) (mount_lives nat_eq later_part) part.mounts
      (part_one_number world names left.is)

  pub part_ready : Ready living set (used_filesystems nat_eq later set) (own_lowers nat_eq later set)
  part_ready = record {
    used_are = used_same later_part living set (sees_living later_part set)
        ∙ less_used left.is sees;
    lowers_are = lowers_same later_part living set (sees_living later_part set)
        ∙ less_lowers left.is sees;
    one = one_number;
    lives = λ y n. (among-from_filter (mount_lives nat_eq later_part) part.mounts y n).1;
    located = located_so;
    parents = parents_so;
    stood = stood_there;
    one_filesystem = numbers_in_part world names left.is;
    plain = plain_in_part world names left.is;
    free = λ y m u. inl (record {
      itself = no_others_there y.number;
      overlays = λ merged n has. no_others_there merged.number;
    });
    cut = cut_in_part world names left.is set later later_part sees;
  }
