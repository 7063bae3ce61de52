-- Mounts were added and tasks went from locations to others of the same inodes, and mounts are to be detached: what
-- code counts
-- before it detaches them. So does unshare(2), where a namespace ends with it.
use Rattle.std.proofs.Common.{◌≡◌, refl, sym, ap, subst, ◌∙◌, ◌⊎◌, ⊎_elim, inl, inr, ℕ, ◌+◌, nat_eq, eqb-true, eq-eqb, Bool, true, false, true≢false, cond, not, ◌&&◌, ◌||◌, List, [], ◌∷◌, ◌++◌, map, flat_map, Option, Some, None, is_some, arith, nat_lt, option_to_list, append-nil}
use Rattle.vt_spec.proofs.Common.{Filesystem, Location, Mount, Namespace, World, all_locations, and_parts, detached, folded, is_among, is_located, is_nowhere_or_attached, is_private, list_all, map-append, map_twice, mount_at, mount_in, mount_lives}
use Rattle.vt_mounting.proofs.Common.{Among, AreThere, CountsItsMounts, Exchanges, FilesystemEntry, Inode, IsHeld, LocationsStand, MountEntry, MountsStand, OneNumberAMount, Shown, Tasks, WorldValue, all_in_use, among-append, among-append_left, among-append_right, among-from_map, among-map, among_from_all, among_from_list_all, any_among, any_from_among, counted, exchanges_follow, filesystem_seen, inode_at, inodes_of_mount_point, inodes_seen, is_inode, is_on, list_all_from_among, located_while_counted, locations_use_mounts, mount_uses, mounts_in, mounts_of_worlds_stand, or_left, pinned_if, places_of, shown, shown_entry, stands_on_attached, times, times_append, world_of, writes_of}
use Rattle.vt_laws_mounts.proofs.counts.using.MountRoots as Roots
use Rattle.vt_laws_mounts.proofs.counts.using.Places.{locations_are_uses, mounts_are_uses}
use Rattle.vt_laws_mounts.proofs.letting_go.leaving.MountsAdded.{found_before}
use Rattle.vt_mounting.proofs.detach.LowerLayers.{exchanges_of_lowers}
use Rattle.vt_mounting.proofs.detach.MountsLeave.{leaves_alike, merged_alike}
use Rattle.vt_mounting.specs.Detach.Uses.{Kept, is_unused, merged_seen}
use Rattle.vt_mounting.proofs.detach.Keeping.{nowhere_still}
use Rattle.vt_mounting.proofs.detach.Midway.{IsShown, Midway, NoneUnused, Reached, gone_if, gone_numbers, one_number_gone, point_left, points_left}
use Rattle.vt_mounting.proofs.detach.MidwayBegins as Begins
use Rattle.vt_mounting.proofs.detach.Moving.{Moves}
use Rattle.vt_mounting.proofs.attach.OverlaysMore.{grown, leaves_grown, merged_grown, mounted_more}
use Rattle.vt_mounting.proofs.detach.Overlaid.{plain_ones_are}

flat_alike : {A B : Type 0} (f g : A → List B) (xs : List A) → ((x : A) → Among x xs → f x ≡ g x)
    → flat_map f xs ≡ flat_map g xs
flat_alike f g [] same = refl
flat_alike f g (x ∷ xs) same = λ i. same x (inl refl) i ++ flat_alike f g xs (λ y m. same y (inr m)) i

-- nothing moves
pub nothing_moves : (value : WorldValue) → Moves value value.tasks [] []
nothing_moves value = record {
  front = all_locations (world_of value);
  back = [];
  was = sym (append-nil (all_locations (world_of value)));
  is = sym (append-nil (all_locations (world_of value)));
  there = refl;
  writes = λ mount. refl;
}

-- The world with more mounts, and the tasks elsewhere
abbrev pub with_added : WorldValue → List (Mount ℕ) → Tasks → World ℕ
with_added value added tasks = record (world_of value) { mounts = (world_of value).mounts ++ added; tasks = tasks }

pub record IsAdded (value : WorldValue) (added : List (Mount ℕ)) (tasks : Tasks) (more less : List (Location ℕ))
    (goes : Mount ℕ → Bool) : Type 0 where
  pub front : List (Location ℕ)
  pub back : List (Location ℕ)
  pub was : all_locations (world_of value) ≡ front ++ (less ++ back)
  pub is : all_locations (with_added value added tasks) ≡ front ++ (more ++ back)
  pub same_inodes : map (inode_at (with_added value added tasks)) more
      ≡ map (inode_at (with_added value added tasks)) less
  pub there : list_all (λ location.
      is_among nat_eq location.mount (map (λ mount. mount.number) (with_added value added tasks).mounts)) more ≡ true
  pub writes : (mount : ℕ) → writes_of mount tasks ≡ writes_of mount value.tasks
  pub one_number : OneNumberAMount (with_added value added tasks).mounts
  pub attached : (mount : Mount ℕ) → Among mount added → is_some mount.namespace ≡ true
  pub stays : (mount : Mount ℕ) → Among mount added → goes mount ≡ false
  -- a mount point of theirs is on a mount that stays
  pub parent : (mount : Mount ℕ) → Among mount added → (place : Location ℕ) → mount.mount_point ≡ Some place
      → (is_some (mount_at nat_eq (with_added value added tasks) place).namespace ≡ true)
      × (goes (mount_at nat_eq (with_added value added tasks) place) ≡ false)
  -- a location that was left was on an attached mount, or is one still
  pub left : (location : Location ℕ) → Among location less
      → (is_some (mount_at nat_eq (world_of value) location).namespace ≡ true) ⊎ Among location more

-- what code counts then
pub record KeepsAdded (value : WorldValue) (added : List (Mount ℕ)) (more less : List (Location ℕ))
    (gained : List Inode) (k : Kept) : Type 0 where
  pub merged : k.overlays ≡ map (mounted_more added) (map merged_seen value.overlays)
  pub mounts : mounts_in k.mounts ≡ (world_of value).mounts ++ added
  pub uses : (entry : MountEntry) → Among entry k.mounts
      → entry.uses + times (λ location. nat_eq entry.mount.number location.mount) less
      ≡ mount_uses (world_of value) entry.mount.number + times
      (λ location. nat_eq entry.mount.number location.mount) more
  pub writers : (entry : MountEntry) → Among entry k.mounts → entry.writers ≡ writes_of entry.mount.number value.tasks
  pub filesystems : k.filesystems ≡ map (λ (one : Shown). record one {
    inodes = folded (pinned_if (counted one.count)) one.inodes gained;
    mounts = one.mounts + times (λ (mount : Mount ℕ). nat_eq (counted one.count) mount.filesystem) added;
  }) (shown value.filesystems)

-- Mounts are added, the inodes that they use are gained, and the mounts of a namespace may go.
pub record AddedMayGo (value : WorldValue) (added : List (Mount ℕ)) (tasks : Tasks) (more less : List (Location ℕ))
    (inside : Option ℕ → Bool) (gained : List Inode) (k : Kept) : Type 0 where
  pub whole : IsHeld value
  pub nowhere_stays : inside None ≡ false
  pub is : IsAdded value added tasks more less (λ mount. inside mount.namespace)
  pub keeps : KeepsAdded value added more less gained k
  pub uses_gained : (test : Inode → Bool)
      → times test (map (inode_at (with_added value added tasks)) (places_of added)) ≡ times test gained
  pub gained_there : (was : FilesystemEntry) → Among was value.filesystems
      → AreThere (counted was.count) (inodes_seen was) gained

module _ {value : WorldValue} {added : List (Mount ℕ)} {tasks : Tasks} {more less : List (Location ℕ)}
    {inside : Option ℕ → Bool} {gained : List Inode} {k : Kept}
    (may_go : AddedMayGo value added tasks more less inside gained k) (namespaces : List (Namespace ℕ)) where
  open may_go use {whole, nowhere_stays, is, keeps, uses_gained, gained_there}

  -- without what is added
  abbrev still : Begins.MayGo value value.tasks [] [] inside
  still = record { whole = whole; moves = nothing_moves value; nowhere_stays = nowhere_stays }

  abbrev world : World ℕ
  world = world_of value

  abbrev base : World ℕ
  base = with_added value added tasks

  abbrev pub goes : Mount ℕ → Bool
  goes mount = inside mount.namespace

  goes_attached : (mount : Mount ℕ) → goes mount ≡ true → is_some mount.namespace ≡ true
  goes_attached = Begins.goes_attached still namespaces

  abbrev pub ended : World ℕ
  ended = record base { mounts = map (gone_if goes) base.mounts; namespaces = namespaces }

  stand : MountsStand world
  stand = mounts_of_worlds_stand world whole.in_world

  places : list_all (is_on world.mounts) (all_locations world ++ places_of world.mounts) ≡ true
  places = Roots.places_stand world stand (Roots.locations_of_worlds_stand world whole.in_world)

  -- Mounts

  entry_mount : (entry : MountEntry) → Among entry k.mounts → Among entry.mount world.mounts ⊎ Among entry.mount added
  entry_mount entry m = among-append world.mounts added entry.mount
      (subst (Among entry.mount) keeps.mounts (among-map (λ (e : MountEntry). e.mount) k.mounts entry m))

  point_on : (mount : Mount ℕ) → Among mount world.mounts → {place : Location ℕ} → mount.mount_point ≡ Some place
      → is_among nat_eq place.mount (map (λ x. x.number) world.mounts) ≡ true
  point_on mount m {place} e = among_from_list_all (is_on world.mounts) (all_locations world ++ places_of world.mounts)
      places place (among-append_right (all_locations world) (places_of world.mounts) place
      (among-append_right (map Rattle.vt_spec.specs.Machine.Mounts.root_of world.mounts) _ place
      (Rattle.vt_laws_mounts.proofs.letting_go.Lists.among-filter_map
      (λ (x : Mount ℕ). x.mount_point) world.mounts mount place m e)))

  same_parent : (mount : Mount ℕ) → Among mount world.mounts → {place : Location ℕ} → mount.mount_point ≡ Some place
      → mount_at nat_eq base place ≡ mount_at nat_eq world place
  same_parent mount m {place} e = found_before world.mounts added place.mount (point_on mount m e)

  -- what mounts stand on is attached, and stays with them
  pub parent_is : (mount : Mount ℕ) → Among mount base.mounts → goes mount ≡ false → {place : Location ℕ}
      → mount.mount_point ≡ Some place
      → (is_some (mount_at nat_eq base place).namespace ≡ true) × (goes (mount_at nat_eq base place) ≡ false)
  parent_is mount m stays {place} e = ⊎_elim (λ old. (
    ap (λ (x : Mount ℕ). is_some x.namespace) (same_parent mount old e)
        ∙ (and_parts (is_some (mount_at nat_eq world place).namespace) true
        (sym (ap (λ o. list_all (λ at. is_some (mount_at nat_eq world at).namespace) (option_to_list o)) e)
        ∙ among_from_list_all (stands_on_attached world) world.mounts stand.on_attached mount old)).0,
    ap goes (same_parent mount old e) ∙ Begins.parent_stays still namespaces mount old stays e,
  )) (λ new. is.parent mount new place e) (among-append world.mounts added mount m)

  stand_ended : MountsStand ended
  stand_ended = record {
    one_number = one_number_gone goes base.mounts is.one_number;
    nowhere = list_all_from_among is_nowhere_or_attached ended.mounts
        (λ x m. let from = among-from_map (gone_if goes) base.mounts x m in
        ap is_nowhere_or_attached from.2 ∙ nowhere_still from.0 (goes from.0)
        (⊎_elim (λ old. among_from_list_all is_nowhere_or_attached world.mounts stand.nowhere from.0 old)
        (λ new. or_left (is_some from.0.namespace) (not (is_some from.0.mount_point) && is_private from.0.propagation)
        (is.attached from.0 new)) (among-append world.mounts added from.0 from.1)));
    on_attached = list_all_from_among (stands_on_attached ended) ended.mounts
        (λ x m. let from = among-from_map (gone_if goes) base.mounts x m in
        ap (stands_on_attached ended) from.2 ∙ on from.0 from.1 (goes from.0) refl);
  }
    where
      still : (x : Mount ℕ) → Among x base.mounts → goes x ≡ false → (o : Option (Location ℕ)) → x.mount_point ≡ o
          → list_all (λ place. is_some (mount_at nat_eq ended place).namespace) (option_to_list o) ≡ true
      still x m stays None e = refl
      still x m stays (Some place) e = let parent = parent_is x m stays e in
          ap (λ (y : Mount ℕ). is_some y.namespace && true)
          (Begins.mount_in_gone goes goes_attached base.mounts place.mount
          ∙ ap (λ b. cond b (detached (mount_at nat_eq base place)) (mount_at nat_eq base place)) parent.1)
          ∙ ap (λ b. b && true) parent.0

      on : (x : Mount ℕ) → Among x base.mounts → (b : Bool) → goes x ≡ b
          → stands_on_attached ended (cond b (detached x) x) ≡ true
      on x m true e = refl
      on x m false e = still x m e x.mount_point refl

  located_ended : LocationsStand ended
  located_ended =
      list_all_from_among (λ location. is_among nat_eq location.mount (map (λ x. x.number) ended.mounts))
      (all_locations base)
      (λ location m.
      ap (is_among nat_eq location.mount) (gone_numbers goes base.mounts) ∙ ⊎_elim
      (λ f. old location (subst (λ all. Among location all) (sym is.was)
      (among-append_left is.front (less ++ is.back) location f))) (λ rest. ⊎_elim
      (λ come. among_from_list_all (λ one. is_among nat_eq one.mount (map (λ x. x.number) base.mounts)) more is.there
      location come)
      (λ b. old location (subst (λ all. Among location all) (sym is.was)
      (among-append_right is.front (less ++ is.back) location (among-append_right less is.back location b))))
      (among-append more is.back location rest))
      (among-append is.front (more ++ is.back) location (subst (λ all. Among location all) is.is m)))
    where
      old : (location : Location ℕ) → Among location (all_locations world)
          → is_among nat_eq location.mount (map (λ x. x.number) base.mounts) ≡ true
      old location m =
          let there = among_from_list_all
          (λ location. is_among nat_eq location.mount (map (λ x. x.number) world.mounts))
          (all_locations world) (Roots.locations_of_worlds_stand world whole.in_world) location m in
          ap (is_among nat_eq location.mount) (map-append (λ (x : Mount ℕ). x.number) world.mounts added)
          ∙ Rattle.vt_laws_mounts.proofs.letting_go.Lists.is_among_left location.mount
          (map (λ (x : Mount ℕ). x.number) world.mounts) (map (λ (x : Mount ℕ). x.number) added) there

  -- Filesystems

  abbrev shown_so : Shown → Shown
  shown_so one = record one {
    inodes = folded (pinned_if (counted one.count)) one.inodes gained;
    mounts = one.mounts + times (λ (mount : Mount ℕ). nat_eq (counted one.count) mount.filesystem) added;
  }

  shown_was : (one : Shown) → Among one k.filesystems
      → (was : FilesystemEntry) × Among was value.filesystems × (one ≡ shown_so (shown_entry was))
  shown_was one m =
      let from = among-from_map shown_so (shown value.filesystems) one
      (subst (λ all. Among one all) keeps.filesystems m) in
      let first = among-from_map shown_entry value.filesystems from.0 from.1 in
      (first.0, first.1, from.2 ∙ ap shown_so first.2)

  shown_is : (was : FilesystemEntry) → Among was value.filesystems
      → IsShown value ended gained [] (shown_so (shown_entry was))
  shown_is was m =
      let counts = (among_from_all (CountsItsMounts world) value.filesystems whole.filesystems was m).mounts in
      let all = times_append (λ (x : Mount ℕ). nat_eq (counted was.count) x.filesystem) world.mounts added in
      let gone = Begins.gone_showing goes goes_attached (counted was.count) base.mounts in
      record {
        was = was;
        among = m;
        count = refl;
        there = gained_there was m;
        inodes = refl;
        mounts = omega (arith, counts, all, gone);
        mounted = some (was.mounts) (times (λ (mount : Mount ℕ). nat_eq (counted was.count) mount.filesystem) added)
            ((Begins.begins still namespaces).midway.shown (shown_entry was)
            (among-map shown_entry value.filesystems was m)).mounted;
      }
    where
      some : (a b : ℕ) → nat_eq a 0 ≡ false → nat_eq (a + b) 0 ≡ false
      some a b e = by (nat_eq (a + b) 0) refl
        where
          by : (t : Bool) → nat_eq (a + b) 0 ≡ t → t ≡ false
          by false f = refl
          by true f = let none = eqb-true (a + b) 0 f in let zero : a
              ≡ 0 = omega (arith, none) in absurd (true≢false (sym (eq-eqb a 0 zero) ∙ e))

  -- Inodes

  points_alike : flat_map (point_left base goes) base.mounts ≡ points_left world goes k.mounts
  points_alike = flat_alike (point_left base goes) (point_left world goes) base.mounts (λ x m. by x m (goes x) refl)
      ∙ ap (flat_map (point_left world goes)) (sym keeps.mounts)
    where
      same_inode : (x : Mount ℕ) → Among x world.mounts → (o : Option (Location ℕ)) → x.mount_point ≡ o
          → map (inode_at base) (option_to_list o) ≡ map (inode_at world) (option_to_list o)
      same_inode x m None e = refl
      same_inode x m (Some place) e = λ i. ((same_parent x m e i).filesystem, place.node) ∷ []

      by : (x : Mount ℕ) → Among x base.mounts → (b : Bool) → goes x ≡ b
          → cond b (inodes_of_mount_point base x) [] ≡ cond b (inodes_of_mount_point world x) []
      by x m false e = refl
      by x m true e = ⊎_elim (λ old. same_inode x old x.mount_point refl)
          (λ new. absurd (true≢false (sym e ∙ is.stays x new))) (among-append world.mounts added x m)

  exchanges_are : (c : ℕ) → Exchanges gained (points_left world goes k.mounts) c world ended
  exchanges_are c =
      let one = record world { mounts = base.mounts } in
      let added_so = mounts_are_uses world one world.mounts added [] refl refl (sym (append-nil world.mounts))
      (ap (λ all. world.mounts ++ all) (sym (append-nil added))) is.one_number places c in
      let moved_so = locations_are_uses one base more less is.front is.back refl refl is.was is.is c in
      let points = Begins.points_are_left goes goes_attached base c in
      let come = map (inode_at base) (places_of added) in
      let all = exchanges_follow world base ended (come ++ map (inode_at base) more) ([] ++ map (inode_at base) less) []
      (flat_map (point_left base goes) base.mounts) c
      (exchanges_follow world one base come [] (map (inode_at base) more) (map (inode_at base) less) c
      (record { same = added_so.same; uses = added_so.uses }) (record { same = moved_so.same; uses = moved_so.uses }))
      (record { same = points.same; uses = points.uses }) in
      record {
        same = all.same;
        uses = λ n.
            let test = is_inode c n in
            let sum = all.uses n in
            let a = times_append test (come ++ map (inode_at base) more) [] in
            let b = times_append test come (map (inode_at base) more) in
            let d = times_append test (map (inode_at base) less) (flat_map (point_left base goes) base.mounts) in
            let same = ap (times test) is.same_inodes in
            let own = uses_gained test in
            let lost = ap (times test) points_alike in
            omega (arith, sum, a, b, d, same, own, lost);
      }

  -- Uses

  uses_are : (entry : MountEntry) → Among entry k.mounts → entry.uses ≡ mount_uses ended entry.mount.number + 0
  uses_are entry m =
      let counts = keeps.uses entry m in
      let moved = locations_use_mounts world base more less is.front is.back is.was is.is entry.mount.number in
      omega (arith, counts, moved)

  begins_midway : Midway value ended gained goes [] ended k []
  begins_midway = record {
    held = whole;
    merged = keeps.merged ∙ merged_grown value whole added
        ∙ merged_alike (grown value whole added) ended refl
        (λ n. Begins.gone_showing goes goes_attached n base.mounts);
    mounts = ap (map (gone_if goes)) (sym keeps.mounts);
    uses = uses_are;
    writers = λ entry m. let counts = keeps.writers entry m in let same = is.writes entry.mount.number in omega
        (arith, counts, same);
    well = λ entry m going. ⊎_elim (λ old. Begins.point_is_located still namespaces entry.mount old
        entry.mount.mount_point refl)
        (λ new. absurd (true≢false (sym going ∙ is.stays entry.mount new))) (entry_mount entry m);
    shown = λ one m. let from = shown_was one m in subst (IsShown value ended gained []) (sym from.2)
        (shown_is from.0 from.1);
    exchanges = λ one m. exchanges_of_lowers {world = world} {after = ended} refl (exchanges_are (counted one.count));
    numbers = ap (map (λ (f : Filesystem ℕ). f.number)) (plain_ones_are value whole.overlays)
        ∙ map_twice (λ (f : Filesystem ℕ). f.number) filesystem_seen value.filesystems
        ∙ sym (map_twice (λ (one : Shown). counted one.count) shown_entry value.filesystems)
        ∙ sym (map_twice (λ (one : Shown). counted one.count) shown_so (shown value.filesystems))
        ∙ sym (ap (map (λ (one : Shown). counted one.count)) keeps.filesystems);
    stand = stand_ended;
    located = located_ended;
    leaves = leaves_alike (grown value whole added) ended refl
        (λ n. Begins.gone_showing goes goes_attached n base.mounts) (leaves_grown value whole added);
    same = refl;
  }

  -- a mount that is not attached is still located
  none_begins : NoneUnused k
  none_begins entry m = ⊎_elim (λ old. by (is_some entry.mount.namespace) refl old)
      (λ new. ap (λ b. not b && nat_eq entry.uses 0) (is.attached entry.mount new)) (entry_mount entry m)
    where
      still : is_some entry.mount.namespace ≡ false → Among entry.mount world.mounts
          → is_located nat_eq base entry.mount.number ≡ true
      still none old =
          let lives = among_from_list_all (mount_lives nat_eq world) world.mounts
          (all_in_use world whole.in_world).mounts entry.mount old in
          let t = any_among (λ (l : Location ℕ). nat_eq entry.mount.number l.mount) (all_locations world)
          (sym (ap (λ b. b || is_located nat_eq world entry.mount.number) none) ∙ lives) in
          let there = λ (n : Among t.0 (all_locations base)). any_from_among
          (λ (l : Location ℕ). nat_eq entry.mount.number l.mount) (all_locations base) t.0 n t.2 in
          ⊎_elim
          (λ f. there (subst (λ all. Among t.0 all) (sym is.is) (among-append_left is.front (more ++ is.back) t.0 f)))
          (λ rest. ⊎_elim (λ gone. ⊎_elim (λ attached. absurd (true≢false (sym attached
          ∙ ap (λ n. is_some (mount_in nat_eq world.mounts n).namespace)
          (sym (eqb-true entry.mount.number t.0.mount t.2)) ∙ ap (λ (x : Mount ℕ). is_some x.namespace)
          (Rattle.vt_laws_mounts.proofs.letting_go.leaving.PlacesLeft.found_itself world.mounts stand.one_number entry.mount old) ∙ none)))
          (λ come. there (subst (λ all. Among t.0 all) (sym is.is)
          (among-append_right is.front (more ++ is.back) t.0 (among-append_left more is.back t.0 come))))
          (is.left t.0 gone)) (λ b. there (subst (λ all. Among t.0 all) (sym is.is)
          (among-append_right is.front (more ++ is.back) t.0 (among-append_right more is.back t.0 b))))
          (among-append less is.back t.0 rest))
          (among-append is.front (less ++ is.back) t.0 (subst (λ all. Among t.0 all) is.was t.1))

      by : (b : Bool) → is_some entry.mount.namespace ≡ b → Among entry.mount world.mounts → is_unused entry ≡ false
      by true e old = ap (λ b. not b && nat_eq entry.uses 0) e
      by false e old = ap (λ b. not b && nat_eq entry.uses 0) e ∙ used (nat_eq entry.uses 0) refl
        where
          used : (b : Bool) → nat_eq entry.uses 0 ≡ b → b ≡ false
          used false f = refl
          used true f =
              let none = eqb-true entry.uses 0 f in
              let counts = uses_are entry m in
              let zero : mount_uses base entry.mount.number ≡ 0 = omega (arith, none, counts) in
              sym (sym (ap (Rattle.std.specs.Prelude.nat_lt 0) zero)
              ∙ sym (located_while_counted base entry.mount.number) ∙ still e old)

  pub added_begins : Reached value ended gained goes [] k
  added_begins = record { now = ended; lost = []; midway = begins_midway; none = none_begins }
