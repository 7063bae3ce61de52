-- What stands on a directory of theirs goes with it: the same mounts in the world and in the part, all of them theirs.
use Rattle.std.proofs.Common.{inr, arith, ◌≡◌, refl, sym, ap, subst, ◌∙◌, ⊎_elim, inl, ℕ, nat_eq, eq-eqb, Bool, true, false, true≢false, List, Some, filter, flat_map, length, map, ◌&&◌}
use Rattle.vt_spec.proofs.Common.{Among, IsWorld, Location, Mount, Task, TaskName, World, among-filter, among-from_filter, among-from_flat_map, among-from_map, among_numbers, any_among, any_from_among, common_steps, holds_of, is_going, is_mount_point_in, is_own_namespace, is_point, list_any, looks_of, members, mount_at, mount_numbered, mount_tree, mounts_on, none_is_some, part_of, points_of}
use Rattle.vt_laws_members.proofs.Common.{cases_Option, LiesIn, filter_both, flat_map_alike, is_own, keep, kept_how, lies_in_tree, namespace_below, nowhere_stands, numbered, stand}
use Rattle.vt_laws_mounts.proofs.mounts.Standing.LiesIn.{itself, under}
use Rattle.vt_laws_members.proofs.judging.Common.{OnTheirs, filesystem_alike, own_by, own_theirs, own_whole, parent_theirs, part_mount, same_mount, tree_alike}

-- the mount stands on one of these points
abbrev stands : World ℕ → List (ℕ × ℕ) → Mount ℕ → Bool
stands w points mount = list_any (λ (point : ℕ × ℕ). is_point nat_eq w point.0 point.1 mount) points

-- so it has a mount point
has_point : (w : World ℕ) (points : List (ℕ × ℕ)) (mount : Mount ℕ) → stands w points mount ≡ true
    → (l : Location ℕ) × (mount.mount_point ≡ Some l)
has_point w points mount h = grind (arith, common_steps, any_among, true≢false)

module _ (world : World ℕ) (names : List TaskName) (is : IsWorld nat_eq world) where
  abbrev theirs : List (Task ℕ)
  theirs = members world names

  abbrev part : World ℕ
  part = part_of nat_eq world names

  abbrev owns : Mount ℕ → Bool
  owns = is_own world names theirs

  -- what stands in a tree is in the namespace of its top
  same_namespace_in : (top number : ℕ) → LiesIn world top number
      → (mount_numbered nat_eq world number).namespace ≡ (mount_numbered nat_eq world top).namespace
  same_namespace_in top number (itself it) = refl
  same_namespace_in top number (under above it place e way) =
      namespace_below world it place (stand world is.mounts.one_number is.mounts.standing it) e
      ∙ same_namespace_in above place.mount way

  -- a mount of theirs stands on the same points in the part
  stands_alike : (mount : Mount ℕ) → Among mount world.mounts → owns mount ≡ true → (points : List (ℕ × ℕ))
      → stands part points mount ≡ stands world points mount
  stands_alike mount m own points = elim (cases_Option mount.mount_point) [
    | inl e ↦ ap (λ o. list_any (λ (point : ℕ × ℕ). holds_of (here part point) o) points) e
        ∙ sym (ap (λ o. list_any (λ (point : ℕ × ℕ). holds_of (here world point) o) points) e)
    | inr its ↦ ap (λ o. list_any (λ (point : ℕ × ℕ). holds_of (here part point) o) points) its.1
        ∙ ap (λ (x : Mount ℕ). list_any (λ (point : ℕ × ℕ). nat_eq its.0.node point.1
        && nat_eq x.filesystem point.0) points) (same_mount world names is.mounts its.0.mount
        (parent_theirs world names is.mounts mount.number its.0 (mount, m, refl, inl own)
        (ap (λ (x : Mount ℕ). x.mount_point) (numbered world names is.mounts mount m) ∙ its.1)))
        ∙ sym (ap (λ o. list_any (λ (point : ℕ × ℕ). holds_of (here world point) o) points) its.1)
  ]
    where
      here : World ℕ → (ℕ × ℕ) → Location ℕ → Bool
      here w point l = nat_eq l.node point.1 && nat_eq (mount_at nat_eq w l).filesystem point.0

  -- A directory of theirs on which only mounts of their namespaces stand
  module _ (gone : Location ℕ) (on : OnTheirs world names is gone)
      (own_here : (mount : Mount ℕ) → Among mount (mounts_on nat_eq world gone) → (n : ℕ) → mount.namespace ≡ Some n
      → is_own_namespace nat_eq world names n ≡ true) where
    abbrev points : List (ℕ × ℕ)
    points = points_of nat_eq world gone

    abbrev tops : List (Mount ℕ)
    tops = mounts_on nat_eq world gone

    top_own : (mount : Mount ℕ) → Among mount world.mounts → stands world points mount ≡ true → owns mount ≡ true
    top_own mount m h = elim (cases_Option mount.namespace) [
      | inl e ↦ let l = has_point world points mount h in
          absurd (nowhere_stands world names is.mounts mount l.0 m e l.1)
      | inr its ↦ cc (own_here mount (among-filter (stands world points) world.mounts mount m h) its.0 its.1)
    ]

    same_points : points_of nat_eq part gone ≡ points
    same_points = cc (filesystem_alike world names is gone on)

    not_there : (x y : Mount ℕ) → Among x world.mounts → stands world points x ≡ false
        → keep world names theirs x ≡ Some y → (b : Bool) → stands part points y ≡ b → b ≡ false
    not_there x y m h e false f = refl
    not_there x y m h e true f =
        let l = has_point part points y f in
        absurd (⊎_elim (λ same. let there : Among y world.mounts = subst (λ k. Among k world.mounts) same m in ⊎_elim
        (λ own. true≢false (sym f ∙ stands_alike y there own points ∙ ap (stands world points) (sym same) ∙ h))
        (λ none. nowhere_stands world names is.mounts y l.0 there none l.1) (part_mount world names is x y m e))
        (λ stub. none_is_some l.0 (cc (stub.0, l.1))) (kept_how world names theirs x y e))

    same_tops : mounts_on nat_eq part gone ≡ tops
    same_tops = ap (λ list. filter (stands part list) part.mounts) same_points
        ∙ filter_both (keep world names theirs) (stands part points) (stands world points) world.mounts
        (λ x m h. (own_whole world names is x (top_own x m h), stands_alike x m (top_own x m h) points ∙ h))
        (λ x y m h e. not_there x y m h e (stands part points y) refl)

    -- the numbers of what goes
    abbrev pub going_with : List ℕ
    going_with = map (λ (mount : Mount ℕ). mount.number) (flat_map (mount_tree nat_eq world.mounts) tops)

    pub same_going : map (λ (mount : Mount ℕ). mount.number)
        (flat_map (mount_tree nat_eq part.mounts) (mounts_on nat_eq part gone)) ≡ going_with
    same_going = cc (
      same_tops,
      flat_map_alike (mount_tree nat_eq part.mounts) (mount_tree nat_eq world.mounts) tops (λ x m. let from =
          among-from_filter (stands world points) world.mounts x m in tree_alike world names is x (own_theirs world
          names is x from.0 (top_own x from.0 from.1))),
    )

    -- each goes with a mount on the directory, of its namespace
    goes_with : (mount : Mount ℕ) → Among mount world.mounts → is_going nat_eq going_with mount.number ≡ true
        → (top : Mount ℕ) × Among top tops × (mount.namespace ≡ top.namespace)
    goes_with mount m h =
        let from = among-from_map (λ (x : Mount ℕ). x.number) (flat_map (mount_tree nat_eq world.mounts) tops)
        mount.number (among_numbers going_with mount.number h) in
        let of = among-from_flat_map (mount_tree nat_eq world.mounts) tops from.0 from.1 in
        let there = (among-from_filter (stands world points) world.mounts of.0 of.1).0 in (
          of.0,
          of.1,
          ap (λ (x : Mount ℕ). x.namespace) (sym (numbered world names is.mounts mount m))
              ∙ ap (λ n. (mount_numbered nat_eq world n).namespace) from.2 ∙ same_namespace_in of.0.number from.0.number
              (lies_in_tree world is.mounts.one_number is.mounts.standing (length world.mounts) of.0 from.0 of.2)
              ∙ ap (λ (x : Mount ℕ). x.namespace) (numbered world names is.mounts of.0 there),
        )

    pub own_go : (mount : Mount ℕ) → Among mount world.mounts → is_going nat_eq going_with mount.number ≡ true
        → owns mount ≡ true
    own_go mount m h = grind (arith, common_steps, goes_with, among-from_filter, own_by, top_own)

    -- where none of a task's namespace stands on the directory, what is in that namespace stays
    pub caller_stays : (task : Task ℕ) → is_mount_point_in nat_eq (looks_of nat_eq world) task.namespace gone ≡ false
        → (mount : Mount ℕ) → Among mount world.mounts → mount.namespace ≡ Some task.namespace
        → is_going nat_eq going_with mount.number ≡ false
    caller_stays task none mount m placed = grind (arith, common_steps, goes_with, true≢false, any_from_among, eq-eqb)
