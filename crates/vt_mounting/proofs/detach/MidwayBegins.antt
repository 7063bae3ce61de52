-- Where tasks have left uses and a namespace, before code has taken anything away.
use Rattle.std.proofs.Common.{◌≡◌, refl, sym, ap, subst, ◌∙◌, ⊎_elim, ℕ, ◌+◌, nat_eq, eqb-true, Bool, true, false, true≢false, cond, not, ◌&&◌, ◌||◌, List, [], ◌∷◌, ◌++◌, map, flat_map, Option, Some, None, is_some, append_assoc, arith, option_to_list, append-nil}
use Rattle.vt_spec.proofs.Common.{Filesystem, Location, Mount, Namespace, Stands, World, all_locations, and_parts, at_root, common_steps, detached, folded, has_its_root, is_among, is_directory_at, is_located, is_located_well, is_nowhere_or_attached, list_all, map_twice, mount_at, mount_in, mount_lives, mount_numbered, node_at, not-true, on_parent, root_of, same_Some}
use Rattle.vt_mounting.proofs.Common.{Among, CountsItsMounts, CountsItsUses, Exchanges, FilesystemEntry, Inode, IsHeld, LocationsStand, MountEntry, MountsStand, OneNumberAMount, Shown, Tasks, WorldValue, all_in_use, among-append, among-append_left, among-append_right, among-filter_map, among-from_map, among-map, among_from_all, among_from_list_all, counted, directory_is_there, exchanges_follow, filesystem_seen, found_itself, inode_at, inodes_of_mount_point, layer_count, list_all_from_among, located_while_counted, locations_use_mounts, mount_is_placed, mount_uses, mounts_in, mounts_of_worlds_stand, pinned_if, places_of, shown, shown_entry, stands_on_attached, times, world_of, writes_of}
use Rattle.vt_laws_mounts.proofs.counts.using.MountRoots as Roots
use Rattle.vt_mounting.specs.Detach.Uses.{Kept, is_unused, kept_of}
use Rattle.vt_mounting.proofs.detach.Keeping.{nowhere_still}
use Rattle.vt_mounting.proofs.detach.LostUses.{positive}
use Rattle.vt_mounting.proofs.detach.LowerLayers.{exchanges_of_lowers}
use Rattle.vt_mounting.proofs.detach.Midway.{IsShown, Midway, NoneUnused, Reached, gone_if, gone_number, gone_numbers, one_number_gone, point_left, points_left}
use Rattle.vt_mounting.proofs.detach.Moving.{Moves, Use, filesystems_gained, gain, gained_overlays, gained_there, held_counts, hold_if, inodes_of_uses, is_use_on, locations, mounts_gained, same_moved_mounts, times_mapped, uses_moved, writes_on_mount}
use Rattle.vt_mounting.proofs.detach.Staying.{after}
use Rattle.vt_mounting.proofs.detach.MountsLeave.{leaves_alike, leaves_at_first, merged_alike, merged_at_first, some_at_first}
use Rattle.vt_mounting.proofs.detach.Overlaid.{plain_ones_are}

-- Mounts that are detached at once, in a world

module _ (goes : Mount ℕ → Bool)
    (attached : (mount : Mount ℕ) → goes mount ≡ true → is_some mount.namespace ≡ true) where
  pub gone_shows : (mount : Mount ℕ)
      → ((gone_if goes mount).filesystem ≡ mount.filesystem) × ((gone_if goes mount).root ≡ mount.root)
  gone_shows mount = grind (arith, common_steps)

  pub gone_showing : (c : ℕ) (mounts : List (Mount ℕ))
      → times (λ (x : Mount ℕ). nat_eq c x.filesystem) (map (gone_if goes) mounts)
      ≡ times (λ (x : Mount ℕ). nat_eq c x.filesystem) mounts
  gone_showing c [] = refl
  gone_showing c (x ∷ xs) = λ i. cond (nat_eq c ((gone_shows x).0 i)) 1 0 + gone_showing c xs i

  pub mount_in_gone : (mounts : List (Mount ℕ)) (n : ℕ)
      → mount_in nat_eq (map (gone_if goes) mounts) n ≡ gone_if goes (mount_in nat_eq mounts n)
  mount_in_gone [] n = grind (arith, common_steps)
  mount_in_gone (x ∷ xs) n = grind (arith, common_steps, mount_in_gone xs n, gone_if, gone_number)

  -- some are detached, the others not yet
  shows_alike : (front back : List (Mount ℕ)) (n : ℕ)
      → (mount_in nat_eq (map (gone_if goes) front ++ back) n).filesystem
      ≡ (mount_in nat_eq (front ++ back) n).filesystem
  shows_alike [] back n = refl
  shows_alike (x ∷ xs) back n = grind (arith, common_steps, shows_alike xs back n, gone_if, gone_number, gone_shows)

  module _ (world : World ℕ) (k : ℕ) where
    abbrev over : List (Mount ℕ) → World ℕ
    over mounts = record world { mounts = mounts }

    nothing : (one : World ℕ) → Exchanges [] [] k one one
    nothing one = record { same = refl; uses = λ n. refl }

    -- one more is detached
    one_detached : (front rest : List (Mount ℕ)) (x : Mount ℕ) → world.mounts ≡ front ++ (x ∷ rest)
        → Exchanges [] (point_left world goes x) k (over (map (gone_if goes) front ++ (x ∷ rest)))
        (over (map (gone_if goes) front ++ (gone_if goes x ∷ rest)))
    one_detached front rest x whole = by (goes x)
      where
        before : World ℕ
        before = over (map (gone_if goes) front ++ (x ∷ rest))

        same_inodes : (o : Option (Location ℕ))
            → map (inode_at before) (option_to_list o) ≡ map (inode_at world) (option_to_list o)
        same_inodes None = refl
        same_inodes (Some place) = λ i. (
          (shows_alike front (x ∷ rest) place.mount
              ∙ ap (λ mounts. (mount_in nat_eq mounts place.mount).filesystem) (sym whole)) i,
          place.node,
        ) ∷ []

        by : (b : Bool) → Exchanges [] (cond b (inodes_of_mount_point world x) []) k before
            (over (map (gone_if goes) front ++ (cond b (detached x) x ∷ rest)))
        by true = subst (λ lost. Exchanges [] lost k before (over (map (gone_if goes) front ++ (detached x ∷ rest))))
            (same_inodes x.mount_point) (mount_is_placed before (over (map (gone_if goes) front ++ (detached x ∷ rest)))
            (map (gone_if goes) front) rest x (detached x) refl refl refl refl refl refl refl k)
        by false = nothing before

    all_detached : (front back : List (Mount ℕ)) → world.mounts ≡ front ++ back
        → Exchanges [] (flat_map (point_left world goes) back) k (over (map (gone_if goes) front ++ back))
        (over (map (gone_if goes) (front ++ back)))
    all_detached front [] whole =
        subst (λ mounts. Exchanges [] [] k (over (map (gone_if goes) front ++ [])) (over mounts))
        (sym (Rattle.std.proofs.lemmas.List.map-append (gone_if goes) front []))
        (nothing (over (map (gone_if goes) front ++ [])))
    all_detached front (x ∷ rest) whole =
        let again : front ++ (x ∷ rest) ≡ (front ++ (x ∷ [])) ++ rest = sym (append_assoc front (x ∷ []) rest) in
        let later = all_detached (front ++ (x ∷ [])) rest (whole ∙ again) in
        let here : map (gone_if goes) (front ++ (x ∷ [])) ++ rest ≡ map (gone_if goes) front
        ++ (gone_if goes x ∷ rest) =
        ap (λ list. list ++ rest) (Rattle.std.proofs.lemmas.List.map-append (gone_if goes) front (x ∷ []))
        ∙ append_assoc (map (gone_if goes) front) (gone_if goes x ∷ []) rest in
        exchanges_follow (over (map (gone_if goes) front ++ (x ∷ rest)))
        (over (map (gone_if goes) front ++ (gone_if goes x ∷ rest))) (over (map (gone_if goes) (front ++ (x ∷ rest))))
        [] (point_left world goes x) [] (flat_map (point_left world goes) rest) k (one_detached front rest x whole)
        (subst (λ mounts. Exchanges [] (flat_map (point_left world goes) rest) k (over mounts)
        (over (map (gone_if goes) (front ++ (x ∷ rest))))) here
        (subst (λ mounts. Exchanges [] (flat_map (point_left world goes) rest) k
        (over (map (gone_if goes) (front ++ (x ∷ [])) ++ rest)) (over (map (gone_if goes) mounts))) (sym again) later))

    pub points_are_left : Exchanges [] (flat_map (point_left world goes) world.mounts) k world
        (over (map (gone_if goes) world.mounts))
    points_are_left = all_detached [] world.mounts refl

-- A mount that stays has a parent in its namespace

pub parent_inside : (world : World ℕ) → OneNumberAMount world.mounts
    → ((mount : Mount ℕ) → Among mount world.mounts → Stands nat_eq world mount.number)
    → (mount : Mount ℕ) → Among mount world.mounts → (place : Location ℕ) → mount.mount_point ≡ Some place
    → mount.namespace ≡ (mount_numbered nat_eq world place.mount).namespace
parent_inside world one stands mount m place p = by (stands mount m) (found_itself world.mounts one mount m)
  where
    by : Stands nat_eq world mount.number → mount_numbered nat_eq world mount.number ≡ mount
        → mount.namespace ≡ (mount_numbered nat_eq world place.mount).namespace
    by (at_root number e) itself = absurd
        (true≢false (sym (ap is_some p) ∙ sym (ap (λ (x : Mount ℕ). is_some x.mount_point) itself) ∙ ap is_some e))
    by (on_parent number at e same above) itself =
        let it : at ≡ place = same_Some at place (sym e ∙ ap (λ (x : Mount ℕ). x.mount_point) itself ∙ p) in
        cc

-- Tasks move, and with that the mounts of a namespace may go, which is one that mounts in none are not in.
pub record MayGo (value : WorldValue) (tasks : Tasks) (more less : List Use) (inside : Option ℕ → Bool) : Type 0 where
  pub whole : IsHeld value
  pub moves : Moves value tasks more less
  pub nowhere_stays : inside None ≡ false

module _ {value : WorldValue} {tasks : Tasks} {more less : List Use} {inside : Option ℕ → Bool}
    (may_go : MayGo value tasks more less inside) (namespaces : List (Namespace ℕ)) where
  open may_go use {whole, moves, nowhere_stays}

  abbrev world : World ℕ
  world = world_of value

  abbrev next : World ℕ
  next = world_of (after value tasks)

  -- the mounts of a namespace go, or none
  abbrev pub goes : Mount ℕ → Bool
  goes mount = inside mount.namespace

  pub goes_attached : (mount : Mount ℕ) → goes mount ≡ true → is_some mount.namespace ≡ true
  goes_attached mount e = grind (arith, common_steps)

  -- the world when all is left
  abbrev pub ended : World ℕ
  ended = record next { mounts = map (gone_if goes) next.mounts; namespaces = namespaces }

  abbrev gained : List Inode
  gained = inodes_of_uses world more

  abbrev pub k_begins : Kept
  k_begins = folded (gain world) (kept_of value) more

  stand : MountsStand world
  stand = mounts_of_worlds_stand world whole.in_world

  -- Mounts

  same_entries : mounts_in k_begins.mounts ≡ mounts_in value.mounts
  same_entries = same_moved_mounts world more [] (kept_of value)

  entry_was : (entry : MountEntry) → Among entry k_begins.mounts
      → (was : MountEntry) × Among was value.mounts × (entry ≡ folded hold_if was more)
  entry_was entry m = among-from_map (λ was. folded hold_if was more) value.mounts entry
      (subst (λ all. Among entry all) (mounts_gained world more (kept_of value)) m)

  same_mount : (was : MountEntry) → (folded hold_if was more).mount ≡ was.mount
  same_mount was = (held_counts more was).mount

  uses_are : (was : MountEntry) → Among was value.mounts → (folded hold_if was more).uses
      ≡ mount_uses next (folded hold_if was more).mount.number + times
      (is_use_on (folded hold_if was more).mount.number) less
  uses_are was m =
      let n = was.mount.number in
      let had = (among_from_all (CountsItsUses world) value.mounts whole.mounts was m).uses in
      let held = (held_counts more was).uses in
      let moved = locations_use_mounts world next (locations more)
      (locations less) moves.front moves.back moves.was moves.is n in
      let a = times_mapped n more in
      let b = times_mapped n less in
      let one : (folded hold_if was more).uses
      ≡ mount_uses next n + times (is_use_on n) less = omega (arith, had, held, moved, a, b) in
      one ∙ ap (λ (x : Mount ℕ). mount_uses next x.number + times (is_use_on x.number) less) (sym (same_mount was))

  writers_are : (was : MountEntry) → Among was value.mounts → (folded hold_if was more).writers
      ≡ writes_of (folded hold_if was more).mount.number tasks + times
      (writes_on_mount (folded hold_if was more).mount.number) less
  writers_are was m =
      let n = was.mount.number in
      let had = (among_from_all (CountsItsUses world) value.mounts whole.mounts was m).writers in
      let held = (held_counts more was).writers in
      let moved = moves.writes n in
      let one : (folded hold_if was more).writers
      ≡ writes_of n tasks + times (writes_on_mount n) less = omega (arith, had, held, moved) in
      cc (same_mount was)

  in_world : (was : MountEntry) → Among was value.mounts → Among was.mount world.mounts
  in_world was m = among-map (λ (e : MountEntry). e.mount) value.mounts was m

  pub point_is_located : (mount : Mount ℕ) → Among mount world.mounts → (o : Option (Location ℕ))
      → mount.mount_point ≡ o → list_all (is_located_well nat_eq world) (option_to_list o) ≡ true
  point_is_located mount m None e = refl
  point_is_located mount m (Some place) e =
      let standing = among_from_list_all (Rattle.vt_laws_mounts.specs.Counts.Using.is_on world.mounts)
      (all_locations world ++ places_of world.mounts)
      (Roots.places_stand world stand (Roots.locations_of_worlds_stand world whole.in_world)) place
      (among-append_right (all_locations world) (places_of world.mounts) place
      (among-append_right (map root_of world.mounts) _ place
      (among-filter_map (λ (x : Mount ℕ). x.mount_point) world.mounts mount place m e))) in
      let root = among_from_list_all (has_its_root nat_eq world) world.mounts whole.in_world.roots mount m in
      let directory : is_directory_at nat_eq world place ≡ true =
      (and_parts _ true (ap (λ o. list_all (is_directory_at nat_eq world) (option_to_list o)) (sym e)
      ∙ (and_parts _ _ root).1)).0 in
      (λ i. (standing i && directory_is_there (node_at nat_eq world place) directory i) && true)

  -- what mounts stand on stays with them
  pub parent_stays : (mount : Mount ℕ) → Among mount world.mounts → goes mount ≡ false → {place : Location ℕ}
      → mount.mount_point ≡ Some place → goes (mount_at nat_eq world place) ≡ false
  parent_stays mount m stays {place} e = ap inside (sym (parent_inside world whole.in_world.mounts.one_number
      (λ x n. among_from_all (λ (x : Mount ℕ). Stands nat_eq world x.number) world.mounts whole.in_world.mounts.standing x n) mount m place e))
      ∙ stays

  stand_ended : MountsStand ended
  stand_ended = record {
    one_number = one_number_gone goes world.mounts stand.one_number;
    nowhere = list_all_from_among is_nowhere_or_attached ended.mounts
        (λ x m. let from = among-from_map (gone_if goes) world.mounts x m in
        ap is_nowhere_or_attached from.2
        ∙ nowhere_still from.0 (goes from.0)
        (among_from_list_all is_nowhere_or_attached world.mounts stand.nowhere from.0 from.1));
    on_attached = list_all_from_among (stands_on_attached ended) ended.mounts
        (λ x m. let from = among-from_map (gone_if goes) world.mounts x m in
        ap (stands_on_attached ended) from.2 ∙ on from.0 from.1 (goes from.0) refl);
  }
    where
      still : (x : Mount ℕ) → Among x world.mounts → goes x ≡ false → (o : Option (Location ℕ)) → x.mount_point ≡ o
          → list_all (λ place. is_some (mount_at nat_eq world place).namespace) (option_to_list o) ≡ true
          → list_all (λ place. is_some (mount_at nat_eq ended place).namespace) (option_to_list o) ≡ true
      still x m stays None e h = refl
      still x m stays (Some place) e h = ap (λ (y : Mount ℕ). is_some y.namespace && true)
          (mount_in_gone goes goes_attached world.mounts place.mount
          ∙ ap (λ b. cond b (detached (mount_at nat_eq world place)) (mount_at nat_eq world place))
          (parent_stays x m stays e)) ∙ h

      on : (x : Mount ℕ) → Among x world.mounts → (b : Bool) → goes x ≡ b
          → stands_on_attached ended (cond b (detached x) x) ≡ true
      on x m true e = refl
      on x m false e = still x m e x.mount_point refl
          (among_from_list_all (stands_on_attached world) world.mounts stand.on_attached x m)

  located_ended : LocationsStand ended
  located_ended =
      list_all_from_among (λ location. is_among nat_eq location.mount (map (λ x. x.number) ended.mounts))
      (all_locations next)
      (λ location m.
      ap (is_among nat_eq location.mount) (gone_numbers goes world.mounts) ∙ ⊎_elim
      (λ f. old location (subst (λ all. Among location all) (sym moves.was)
      (among-append_left moves.front (locations less ++ moves.back) location f))) (λ rest. ⊎_elim
      (λ come. (and_parts (is_among nat_eq location.mount (map (λ x. x.number) world.mounts)) _
      (among_from_list_all (is_located_well nat_eq world) (locations more) moves.there location come)).0)
      (λ b. old location (subst (λ all. Among location all) (sym moves.was)
      (among-append_right moves.front (locations less ++ moves.back) location
      (among-append_right (locations less) moves.back location b))))
      (among-append (locations more) moves.back location rest))
      (among-append moves.front (locations more ++ moves.back) location (subst (λ all. Among location all) moves.is m)))
    where
      old : (location : Location ℕ) → Among location (all_locations world)
          → is_among nat_eq location.mount (map (λ x. x.number) world.mounts) ≡ true
      old location m = among_from_list_all
          (λ location. is_among nat_eq location.mount (map (λ x. x.number) world.mounts))
          (all_locations world) (Roots.locations_of_worlds_stand world whole.in_world) location m

  -- Filesystems

  abbrev pinned_one : Shown → Shown
  pinned_one one = record one { inodes = folded (pinned_if (counted one.count)) one.inodes gained }

  shown_was : (one : Shown) → Among one k_begins.filesystems
      → (was : FilesystemEntry) × Among was value.filesystems × (one ≡ pinned_one (shown_entry was))
  shown_was one m =
      let from = among-from_map pinned_one (shown value.filesystems) one
      (subst (λ all. Among one all) (filesystems_gained world more (kept_of value)) m) in
      let first = among-from_map shown_entry value.filesystems from.0 from.1 in
      (first.0, first.1, from.2 ∙ ap pinned_one first.2)

  shown_is : (was : FilesystemEntry) → Among was value.filesystems
      → IsShown value ended gained [] (pinned_one (shown_entry was))
  shown_is was m = record {
    was = was;
    among = m;
    count = refl;
    there = gained_there value whole tasks more less moves was m;
    inodes = refl;
    mounts = (among_from_all (CountsItsMounts world) value.filesystems whole.filesystems was m).mounts
        ∙ ap (λ n. n + layer_count world (counted was.count))
        (sym (gone_showing goes goes_attached (counted was.count) world.mounts));
    mounted = some_at_first value whole was m;
  }

  exchanges_are : (c : ℕ) → Exchanges gained
      (inodes_of_uses world less ++ points_left world goes k_begins.mounts) c world ended
  exchanges_are c =
      let points = points_are_left goes goes_attached next c in
      let moved : Exchanges (gained ++ [])
      (inodes_of_uses world less ++ flat_map (point_left world goes) world.mounts) c world ended =
      exchanges_follow world next ended gained (inodes_of_uses world less) []
      (flat_map (point_left world goes) world.mounts) c
      (uses_moved value whole tasks more less moves c) (record { same = points.same; uses = points.uses }) in
      subst (λ mounts. Exchanges gained
      (inodes_of_uses world less ++ flat_map (point_left world goes) mounts) c world ended) (sym same_entries)
      (subst (λ all. Exchanges all (inodes_of_uses world less
      ++ flat_map (point_left world goes) world.mounts) c world ended) (append-nil gained) moved)

  begins_midway : Midway value ended gained goes less ended k_begins []
  begins_midway = record {
    held = whole;
    merged = gained_overlays world more (kept_of value) ∙ merged_at_first value whole
        ∙ merged_alike world ended refl (λ n. gone_showing goes goes_attached n world.mounts);
    mounts = ap (map (gone_if goes)) (sym same_entries);
    uses = λ entry m. let from = entry_was entry m in
        subst (λ (e : MountEntry). e.uses ≡ mount_uses next e.mount.number + times (is_use_on e.mount.number) less)
        (sym from.2) (uses_are from.0 from.1);
    writers = λ entry m. let from = entry_was entry m in
        subst (λ (e : MountEntry). e.writers
        ≡ writes_of e.mount.number tasks + times (writes_on_mount e.mount.number) less) (sym from.2)
        (writers_are from.0 from.1);
    well = λ entry m going. let from = entry_was entry m in
        subst (λ (x : Mount ℕ). list_all (is_located_well nat_eq world) (option_to_list x.mount_point) ≡ true)
        (sym (ap (λ (e : MountEntry). e.mount) from.2 ∙ same_mount from.0))
        (point_is_located from.0.mount (in_world from.0 from.1) from.0.mount.mount_point refl);
    shown = λ one m. let from = shown_was one m in subst (IsShown value ended gained []) (sym from.2)
        (shown_is from.0 from.1);
    exchanges = λ one m. exchanges_of_lowers {world = world} {after = ended} refl (exchanges_are (counted one.count));
    numbers = ap (map (λ (f : Filesystem ℕ). f.number)) (plain_ones_are value whole.overlays)
        ∙ map_twice (λ (f : Filesystem ℕ). f.number) filesystem_seen value.filesystems
        ∙ sym (map_twice (λ (one : Shown). counted one.count) shown_entry value.filesystems)
        ∙ sym (map_twice (λ (one : Shown). counted one.count) pinned_one (shown value.filesystems))
        ∙ sym (ap (map (λ (one : Shown). counted one.count)) (filesystems_gained world more (kept_of value)));
    stand = stand_ended;
    located = located_ended;
    leaves = leaves_alike world ended refl (λ n. gone_showing goes goes_attached n world.mounts)
        (leaves_at_first value whole);
    same = refl;
  }

  none_begins : NoneUnused k_begins
  none_begins entry m =
      let from = entry_was entry m in ap is_unused from.2 ∙ used from.0 from.1
    where
      used : (was : MountEntry) → Among was value.mounts → is_unused (folded hold_if was more) ≡ false
      used was n =
          let held = held_counts more was in
          ap (λ (x : Mount ℕ). not (is_some x.namespace) && nat_eq (folded hold_if was more).uses 0) held.mount
          ∙ by (is_some was.mount.namespace)
          (among_from_list_all (mount_lives nat_eq world) world.mounts (all_in_use world whole.in_world).mounts
          was.mount
          (in_world was n)) held.uses (among_from_all (CountsItsUses world) value.mounts whole.mounts was n).uses
        where
          by : (b : Bool) → (b || is_located nat_eq world was.mount.number) ≡ true
              → (folded hold_if was more).uses ≡ was.uses + times (is_use_on was.mount.number) more
              → was.uses ≡ mount_uses world was.mount.number
              → (not b && nat_eq (folded hold_if was more).uses 0) ≡ false
          by true lives more_uses uses = refl
          by false lives more_uses uses = zero (nat_eq (folded hold_if was more).uses 0) refl
            where
              some : nat_eq (mount_uses world was.mount.number) 0 ≡ false
              some = not-true (nat_eq (mount_uses world was.mount.number) 0)
                  (sym (positive (mount_uses world was.mount.number))
                  ∙ sym (located_while_counted world was.mount.number) ∙ lives)

              zero : (b : Bool) → nat_eq (folded hold_if was more).uses 0 ≡ b → b ≡ false
              zero false e = refl
              zero true e =
                  let none : (folded hold_if was more).uses ≡ 0 = eqb-true _ 0 e in
                  let none_on : mount_uses world was.mount.number ≡ 0 = omega (arith, none, more_uses, uses) in
                  sym (ap (λ n. nat_eq n 0) none_on) ∙ some

  pub begins : Reached value ended gained goes less k_begins
  begins = record { now = ended; lost = []; midway = begins_midway; none = none_begins }
