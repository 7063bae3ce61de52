-- Whether an attachment at a mount of theirs leaves a namespace with too many mounts is the same in the part (M9).
use Rattle.std.proofs.Common.{◌≡◌, refl, sym, ap, subst, ◌∙◌, ⊎_elim, ℕ, nat_eq, nat_lt, Bool, true, false, true≢false, not, List, [], ◌∷◌, filter, is_some, length, ◌&&◌, ◌+◌, ◌*◌, ◌≤◌, arith}
use Rattle.vt_spec.proofs.Common.{Among, Copies, Filesystem, Fresh, Location, Mount, MountFlags, Namespace, Overlay, Task, TaskName, ToBind, ToMountOverlay, ToMountPlain, ToMove, World, among-filter_map, among-from_filter, among_from_list_all, attach, attached_by, bind_tree, common_steps, copies_from, evens, false_from_ne_true, filesystem_numbered, filter_alike, find-append, has_too_many, is_directory_node, is_directory_under, is_own_namespace, list_any, members, most_mounts, mount_at, mount_numbered, mount_tree, new_mount, number-mount_in, odds, overfills, overlay_filesystem, part_of, parts_of, plain_filesystem, receivers_of, takes_part, tree_among, with_new_filesystem}
use Rattle.vt_laws_members.proofs.detached.lazily.GoingAlike.{receivers_alike, receivers_own}
use Rattle.vt_laws_members.proofs.Common.{IsSealed, any-filter, filter_kept, found, is_own, keep, kept_how, numbered, trees_have_each_once}
use Rattle.vt_laws_mounts.specs.Mounts.Ending.{count_in, is_in}
use Rattle.vt_laws_mounts.proofs.Counting.{added_counted, moved_all}
use Rattle.vt_laws_worlds.proofs.worlds.FewMounts.{few_of, none_counted, not_too_many}
use Rattle.vt_laws_members.proofs.judging.Busy.{no_events}
use Rattle.vt_laws_members.proofs.judging.Grounds.{IsTheirs, same_mount}
use Rattle.vt_laws_members.proofs.judging.JudgedOverlays.{any_same}
use Rattle.vt_laws_members.proofs.judging.MountTrees.{bind_alike, own_theirs, own_whole, part_one_number, part_stands, tree_alike}
use Rattle.vt_laws_members.proofs.judging.SeenInPart.{theirs_used}
use Rattle.vt_laws_worlds.proofs.permits.taken.PartsKept.{same_parts}

no_rows : (n : ℕ) → 0 * n ≡ 0
no_rows n = omega arith

-- a filesystem that has a directory is found before what is added
found_before : (world : World ℕ) (added : Filesystem ℕ) (number directory : ℕ)
    → is_directory_node ((filesystem_numbered nat_eq world number).files.tree.node directory) ≡ true
    → filesystem_numbered nat_eq (with_new_filesystem world added) number ≡ filesystem_numbered nat_eq world number
found_before world added number directory shows = grind (arith, common_steps, shows, find-append, true≢false)

module _ {world : World ℕ} {names : List TaskName} (sealing : IsSealed world names) where
  abbrev theirs : List (Task ℕ)
  theirs = members world names

  abbrev part : World ℕ
  part = part_of nat_eq world names

  abbrev owns : Mount ℕ → Bool
  owns = is_own world names theirs

  abbrev own_one : ℕ → Bool
  own_one namespace = is_own_namespace nat_eq world names namespace

  abbrev On : ℕ → Type 0
  On = IsTheirs world names sealing.is.mounts

  -- Namespaces of theirs have the same mounts

  inside_own : (namespace : ℕ) → own_one namespace ≡ true → (mount : Mount ℕ) → is_in namespace mount ≡ true
      → owns mount ≡ true
  inside_own namespace own mount h = grind (arith, common_steps)

  own_inside : (namespace : ℕ) → own_one namespace ≡ false → (mount : Mount ℕ) → owns mount ≡ true
      → is_in namespace mount ≡ false
  own_inside namespace other mount own = grind (arith, common_steps, false_from_ne_true, true≢false)

  count_alike : (namespace : ℕ) → own_one namespace ≡ true
      → count_in part.mounts namespace ≡ count_in world.mounts namespace
  count_alike namespace own = grind (arith, common_steps, filter_kept, keep, own_whole, inside_own, kept_how)

  -- Worlds that are left by what is attached
  too_many_alike : (one other : World ℕ) → one.namespaces ≡ world.namespaces → other.namespaces ≡ part.namespaces
      → ((namespace : ℕ) → own_one namespace ≡ true → count_in one.mounts namespace ≡ count_in other.mounts namespace)
      → ((namespace : ℕ) → own_one namespace ≡ false → count_in one.mounts namespace ≤ count_in world.mounts namespace)
      → has_too_many nat_eq one ≡ has_too_many nat_eq other
  too_many_alike one other listed listed_too same less = ap (list_any full) listed
      ∙ sym (any-filter full (λ (n : Namespace ℕ). own_one n.number) world.namespaces (λ n m outside.
      not_too_many (count_in one.mounts n.number) (count_in world.mounts n.number) (less n.number outside)
      (few_of world sealing.is.namespaces.few_mounts n m))) ∙ any_same full full_too part.namespaces
      (λ n m. ap (nat_lt most_mounts) (same n.number (among-from_filter (λ (k : Namespace ℕ). own_one k.number)
      world.namespaces n m).1)) ∙ sym (ap (list_any full_too) listed_too)
    where
      full : Namespace ℕ → Bool
      full n = nat_lt most_mounts (count_in one.mounts n.number)

      full_too : Namespace ℕ → Bool
      full_too n = nat_lt most_mounts (count_in other.mounts n.number)

  -- A destination on a mount of theirs
  module _ (place : Location ℕ) (there : Among (mount_at nat_eq world place) world.mounts)
      (own : owns (mount_at nat_eq world place) ≡ true) where
    abbrev destination : Mount ℕ
    destination = mount_at nat_eq world place

    on : On place.mount
    on = subst On (number-mount_in world.mounts place.mount) (own_theirs world names sealing.is destination there own)

    same_destination : mount_at nat_eq part place ≡ destination
    same_destination = same_mount world names sealing.is.mounts place.mount on

    reached_alike : (mount : Mount ℕ) → Among mount world.mounts → owns mount ≡ true
        → filesystem_numbered nat_eq part mount.filesystem ≡ filesystem_numbered nat_eq world mount.filesystem
    reached_alike mount m its = found world names mount.filesystem (cc (
      numbered world names sealing.is.mounts mount m,
      theirs_used world names sealing.is (record { mount = mount.number; node = mount.root })
          (own_theirs world names sealing.is mount m its),
    ))

    abbrev takes : World ℕ → Location ℕ → Mount ℕ → Mount ℕ → Bool
    takes w at to mount =
        not (nat_eq at.mount mount.number) && is_some mount.namespace && nat_eq to.filesystem mount.filesystem
        && is_directory_under nat_eq (filesystem_numbered nat_eq w mount.filesystem).files mount.root at.node

    parts_alike : parts_of nat_eq part place ≡ parts_of nat_eq world place
    parts_alike =
        grind (
          arith,
          common_steps,
          same_destination,
          receivers_alike world names sealing.is.mounts (no_events sealing),
          filter_alike,
          receivers_own world names sealing.is.mounts (no_events sealing),
          reached_alike,
        )

    parts_own : (mount : Mount ℕ) → Among mount (parts_of nat_eq world place)
        → Among mount world.mounts × (owns mount ≡ true)
    parts_own mount m = ⊎_elim (λ same. (rw same there, cc)) (λ receiver. receivers_own world names sealing.is.mounts
        (no_events sealing) destination mount there own (among-from_filter (takes_part nat_eq world place)
        (receivers_of nat_eq world destination) mount receiver).0) m

    none_outside : (namespace : ℕ) → own_one namespace ≡ false → count_in (parts_of nat_eq world place) namespace ≡ 0
    none_outside namespace other = none_counted (parts_of nat_eq world place) namespace (λ mount m.
        own_inside namespace other mount (parts_own mount m).1)

    -- a filesystem that is added changes no parts
    shows : (mount : Mount ℕ) → Among mount world.mounts
        → is_directory_node ((filesystem_numbered nat_eq world mount.filesystem).files.tree.node mount.root) ≡ true
    shows mount m = grind (arith, common_steps, among_from_list_all)

    added_parts_in_part : (added : Filesystem ℕ)
        → parts_of nat_eq (with_new_filesystem part added) place ≡ parts_of nat_eq part place
    added_parts_in_part added = ap (λ to. to ∷ filter (takes (with_new_filesystem part added) place to)
        (receivers_of nat_eq part to)) same_destination
        ∙ ap (λ list. destination ∷ filter (takes (with_new_filesystem part added) place destination) list)
        (receivers_alike world names sealing.is.mounts (no_events sealing) destination there own) ∙ ap
        (λ list. destination ∷ list) (filter_alike (takes (with_new_filesystem part added) place destination)
        (takes part place destination) (receivers_of nat_eq world destination) (λ mount m.
        let its = receivers_own world names sealing.is.mounts (no_events sealing) destination mount there own m in
        ap (λ (f : Filesystem ℕ). not (nat_eq place.mount mount.number) && is_some mount.namespace
        && nat_eq destination.filesystem mount.filesystem && is_directory_under nat_eq f.files mount.root place.node)
        (found_before part added mount.filesystem mount.root
        (ap (λ (f : Filesystem ℕ). is_directory_node (f.files.tree.node mount.root)) (reached_alike mount its.0 its.1)
        ∙ shows mount its.0)))) ∙ sym (ap (λ list. destination ∷ filter (takes part place destination) list)
        (receivers_alike world names sealing.is.mounts (no_events sealing) destination there own)) ∙ sym
        (ap (λ to. to ∷ filter (takes part place to) (receivers_of nat_eq part to)) same_destination)

    -- what is added at each part
    copies_alike : (base other : World ℕ) → base.mounts ≡ world.mounts → base.namespaces ≡ world.namespaces
        → other.mounts ≡ part.mounts → other.namespaces ≡ part.namespaces
        → parts_of nat_eq base place ≡ parts_of nat_eq world place
        → parts_of nat_eq other place ≡ parts_of nat_eq part place
        → (supply supply_too : Fresh ℕ) (mounts mounts_too : List (Mount ℕ)) → length mounts ≡ length mounts_too
        → has_too_many nat_eq (attach nat_eq base supply place false mounts)
        ≡ has_too_many nat_eq (attach nat_eq other supply_too place false mounts_too)
    copies_alike base other same listed same_too listed_too parts parts_too supply supply_too mounts mounts_too long =
        too_many_alike (attach nat_eq base supply place false mounts) (attach nat_eq other supply_too place false
        mounts_too) listed listed_too (λ namespace its. cc (
          added_counted base place
              (copies_from nat_eq supply (parts_of nat_eq base place) mounts) mounts namespace,
          parts_alike,
          count_alike
              namespace its,
          added_counted other place (copies_from nat_eq supply_too (parts_of nat_eq other place)
              mounts_too) mounts_too namespace,
        )) (λ namespace outside. let all = added_counted base place
        (copies_from nat_eq supply (parts_of nat_eq base place) mounts) mounts namespace in let none : count_in
        (parts_of nat_eq base place) namespace * length mounts ≡ 0 = ap (λ list. count_in list namespace * length
        mounts) parts ∙ ap (λ n. n * length mounts) (none_outside namespace outside) ∙ no_rows (length mounts) in let
        before : count_in base.mounts namespace ≡ count_in world.mounts namespace = ap (λ list. count_in list namespace)
        same in omega (arith, all, none, before))

    pub plain_overfills : (fresh other : Fresh ℕ) (task : Task ℕ) (flags : MountFlags)
        → overfills nat_eq fresh world task (ToMountPlain place flags)
        ≡ overfills nat_eq other part task (ToMountPlain place flags)
    plain_overfills fresh other task flags = copies_alike (with_new_filesystem world (plain_filesystem nat_eq fresh))
        (with_new_filesystem part (plain_filesystem nat_eq other)) refl refl refl refl
        (same_parts world sealing.is (plain_filesystem nat_eq fresh) place)
        (added_parts_in_part (plain_filesystem nat_eq other))
        (odds fresh) (odds other) (mount_of flags (plain_filesystem nat_eq fresh))
        (mount_of flags (plain_filesystem nat_eq other)) refl
      where
        mount_of : MountFlags → Filesystem ℕ → List (Mount ℕ)
        mount_of flags filesystem = new_mount filesystem.number filesystem.files.tree.root flags ∷ []

    pub overlay_overfills : (fresh other : Fresh ℕ) (task : Task ℕ) (overlay : Overlay ℕ) (flags : MountFlags)
        → overfills nat_eq fresh world task (ToMountOverlay place overlay flags)
        ≡ overfills nat_eq other part task (ToMountOverlay place overlay flags)
    overlay_overfills fresh other task overlay flags =
        copies_alike (with_new_filesystem world (overlay_filesystem nat_eq (evens fresh) world overlay))
        (with_new_filesystem part (overlay_filesystem nat_eq (evens other) part overlay)) refl refl refl refl
        (same_parts world sealing.is (overlay_filesystem nat_eq (evens fresh) world overlay) place)
        (added_parts_in_part (overlay_filesystem nat_eq (evens other) part overlay))
        (odds fresh) (odds other) (mount_of flags (overlay_filesystem nat_eq (evens fresh) world overlay))
        (mount_of flags (overlay_filesystem nat_eq (evens other) part overlay)) refl
      where
        mount_of : MountFlags → Filesystem ℕ → List (Mount ℕ)
        mount_of flags filesystem = new_mount filesystem.number filesystem.files.tree.root flags ∷ []

    -- a source on a mount of theirs
    pub bind_overfills : (fresh other : Fresh ℕ) (task : Task ℕ) (source : Location ℕ) (recursive : Bool)
        → On source.mount → overfills nat_eq fresh world task (ToBind source place recursive)
        ≡ overfills nat_eq other part task (ToBind source place recursive)
    bind_overfills fresh other task source recursive from = copies_alike world part refl refl refl refl refl refl fresh
        other _ (bind_tree nat_eq part source recursive) (cc (bind_alike world names sealing.is source recursive from))

    -- a tree of theirs that moves
    module _ (number : ℕ) (source : Among (mount_numbered nat_eq world number) world.mounts)
        (its : owns (mount_numbered nat_eq world number) ≡ true) where
      abbrev tree : List (Mount ℕ)
      tree = mount_tree nat_eq world.mounts (mount_numbered nat_eq world number)

      abbrev tree_too : List (Mount ℕ)
      tree_too = mount_tree nat_eq part.mounts (mount_numbered nat_eq part number)

      from : On number
      from = subst On (number-mount_in world.mounts number)
          (own_theirs world names sealing.is (mount_numbered nat_eq world number) source its)

      same_source : mount_numbered nat_eq part number ≡ mount_numbered nat_eq world number
      same_source = same_mount world names sealing.is.mounts number from

      same_tree : tree_too ≡ tree
      same_tree = ap (mount_tree nat_eq part.mounts) same_source
          ∙ tree_alike world names sealing.is (mount_numbered nat_eq world number)
          (own_theirs world names sealing.is (mount_numbered nat_eq world number) source its)

      source_in_part : Among (mount_numbered nat_eq part number) part.mounts
      source_in_part = rw same_source (among-filter_map (keep world names theirs) world.mounts
          (mount_numbered nat_eq world number) (mount_numbered nat_eq world number) source
          (own_whole world names sealing.is (mount_numbered nat_eq world number) its))

      within : (w : World ℕ) → Among (mount_numbered nat_eq w number) w.mounts → (one : Mount ℕ)
          → Among one (mount_tree nat_eq w.mounts (mount_numbered nat_eq w number)) → Among one w.mounts
      within w there one m = ⊎_elim (λ same. rw same there) (λ other. other) (tree_among (length w.mounts) w.mounts
          (mount_numbered nat_eq w number) one m)

      moved_count : (new : Copies ℕ) (namespace : ℕ)
          → count_in (attached_by nat_eq world new place true tree).mounts namespace + count_in tree namespace
          ≡ count_in world.mounts namespace + count_in (parts_of nat_eq world place) namespace * length tree
      moved_count new namespace = moved_all world place new tree sealing.is.mounts.one_number
          (trees_have_each_once world number sealing.is.mounts.one_number sealing.is.mounts.standing)
          (within world source) namespace

      moved_count_in_part : (new : Copies ℕ) (namespace : ℕ)
          → count_in (attached_by nat_eq part new place true tree_too).mounts namespace + count_in tree_too namespace
          ≡ count_in part.mounts namespace + count_in (parts_of nat_eq part place) namespace * length tree_too
      moved_count_in_part new namespace = moved_all part place new tree_too (part_one_number world names sealing.is)
          (trees_have_each_once part number (part_one_number world names sealing.is)
          (part_stands world names sealing.is)) (within part source_in_part) namespace

      pub move_overfills : (fresh other : Fresh ℕ) (task : Task ℕ)
          → overfills nat_eq fresh world task (ToMove number place)
          ≡ overfills nat_eq other part task (ToMove number place)
      move_overfills fresh other task = too_many_alike (attached_by nat_eq world new place true tree)
          (attached_by nat_eq part newer place true tree_too) refl refl (λ namespace own_too.
          let all = moved_count new namespace in
          let all_too = moved_count_in_part newer namespace in
          let count = count_alike namespace own_too in
          let at_parts : count_in (parts_of nat_eq part place) namespace * length tree_too
          ≡ count_in (parts_of nat_eq world place) namespace * length tree =
          λ i. count_in (parts_alike i) namespace * length (same_tree i) in
          let inside : count_in tree_too namespace ≡ count_in tree namespace =
          ap (λ list. count_in list namespace) same_tree in
          omega (arith, all, all_too, count, at_parts, inside)) (λ namespace outside.
          let all = moved_count new namespace in
          let none : count_in (parts_of nat_eq world place) namespace * length tree ≡ 0 =
          ap (λ n. n * length tree) (none_outside namespace outside) ∙ no_rows (length tree) in
          omega (arith, all, none))
        where
          new : Copies ℕ
          new = copies_from nat_eq fresh (parts_of nat_eq world place) tree

          newer : Copies ℕ
          newer = copies_from nat_eq other (parts_of nat_eq part place) tree_too
