-- A mount that nothing uses any more goes, and its filesystem with its last mount, between the first and the last use
-- that a
-- task leaves.
use Rattle.std.proofs.Common.{◌≡◌, refl, sym, ap, subst, ◌∙◌, ℕ, ◌+◌, nat_eq, eqb-true, eq-eqb, Bool, true, false, true≢false, cond, not, ◌&&◌, ◌||◌, List, [], ◌∷◌, ◌++◌, map, filter, find, flat_map, Option, Some, None, is_some, arith, nat_lt, option_to_list}
use Rattle.vt_spec.proofs.Common.{Filesystem, Location, Mount, World, all_locations, and_parts, common_steps, detached, filesystem_lives, folded, has_layer_on, is_among, is_located, is_mounted, is_nowhere_or_attached, is_overlay, list_all, list_any, mount_at, mount_in, mount_lives, mount_numbered, not-false, or_parts, same_Some, without_dead_filesystems, without_dead_mounts}
use Rattle.vt_mounting.proofs.Common.{Among, Exchanges, Inode, LocationsStand, MountEntry, MountsStand, OneNumberAMount, Shown, WorldValue, among-filter, among-from_filter, among-from_map, among-map, among_from_list_all, among_numbers, any-filter, any_among, any_from_among, counted, entry_numbered, exchanges_follow, filter-map, filter_alike, filter_less, found_itself, in_use_of, inodes_of_mount_point, inodes_seen, is_among_numbers, is_mount_used, layer_count, list_all_from_among, located_while_counted, mount_takes_its_count, mount_uses, mounted_layer_count, mounts_in, mounts_showing, none_among, overlays_seen, pinned_if, stands_on_attached, unpinned_if, without, without_mount, world_of}
use Rattle.vt_laws_mounts.proofs.counts.using.MountRoots as Roots
use Rattle.vt_mounting.specs.Detach.Uses as meant
use Rattle.vt_mounting.specs.Detach.Uses.{Kept, is_unused, let_go_entry}
use Rattle.vt_mounting.proofs.detach.LayersLeft.{later_shown}
use Rattle.vt_mounting.proofs.detach.LostUses.{entry_found_at, entry_itself, flat_map_less, folded_append, one_number_less, positive}
use Rattle.vt_mounting.proofs.detach.LowerLayers.{exchanges_of_lowers, of_lowers}
use Rattle.vt_mounting.proofs.detach.Midway.{IsShown, MayLeave, Midway, NoneUnused, Reached, UnusedOnly, gone_if, gone_number, one_number_kept, point_left, points_left, unused_parts}
use Rattle.vt_mounting.proofs.detach.Moving.{Use, inodes_of_uses, nat_eq_turned}
use Rattle.vt_mounting.proofs.detach.BesideOverlays.{lives_more}
use Rattle.vt_mounting.proofs.detach.MountsGone.{exchanges_between}
use Rattle.vt_mounting.proofs.detach.MountsLeave.{IsKeptOf, layers_exchanged, layers_stay, leaves_then, left_counted, left_shown, numbers_are, overlay_was, overlays_apart, overlays_stay, shown_are}
use Rattle.vt_mounting.proofs.detach.OverlaysGone.{Takes, layers_gone, merged_in}
use Rattle.vt_mounting.proofs.detach.OverlaysKept.{merged_then}
use Rattle.vt_mounting.proofs.detach.Overlaid.{overlay_apart}

-- What the sweep leaves when a dead mount, and what it alone showed, are gone already

module _ (now : World ℕ) (number : ℕ)
    (dead : (mount : Mount ℕ) → Among mount now.mounts → not (nat_eq mount.number number) ≡ false
    → mount_lives nat_eq now mount ≡ false) where
  abbrev others : World ℕ
  others = without_mount now number

  abbrev second : World ℕ
  second = without_dead_filesystems nat_eq others

  abbrev living : World ℕ
  living = without_dead_mounts nat_eq now

  same_left : filter (mount_lives nat_eq now) (filter (λ mount. not (nat_eq mount.number number)) now.mounts)
      ≡ filter (mount_lives nat_eq now) now.mounts
  same_left = filter_less (mount_lives nat_eq now) (λ mount. not (nat_eq mount.number number)) now.mounts dead

  abbrev showing : List (Mount ℕ) → ℕ → Bool
  showing mounts n = list_any (λ (mount : Mount ℕ). nat_eq n mount.filesystem) mounts

  -- what living mounts show, other mounts show
  shown_by_others : (n : ℕ) → is_mounted nat_eq living n ≡ true → is_mounted nat_eq others n ≡ true
  shown_by_others n h =
      let one = any_among (λ (mount : Mount ℕ). nat_eq n mount.filesystem)
      (filter (mount_lives nat_eq now) others.mounts) (ap (λ mounts. showing mounts n) same_left ∙ h) in
      any_from_among (λ (mount : Mount ℕ). nat_eq n mount.filesystem) others.mounts one.0
      (among-from_filter (mount_lives nat_eq now) others.mounts one.0 one.1).0 one.2

  unshown : (n : ℕ) → is_mounted nat_eq others n ≡ false → is_mounted nat_eq living n ≡ false
  unshown n h = by (is_mounted nat_eq living n) refl
    where
      by : (b : Bool) → is_mounted nat_eq living n ≡ b → b ≡ false
      by true e = absurd (true≢false (sym (shown_by_others n e) ∙ h))
      by false e = refl

  not_living : (f : Filesystem ℕ) → Among f now.filesystems → filesystem_lives nat_eq others f ≡ false
      → filesystem_lives nat_eq living f ≡ false
  not_living f m gone = by (filesystem_lives nat_eq living f) refl
    where
      by : (b : Bool) → filesystem_lives nat_eq living f ≡ b → b ≡ false
      by true e = absurd (true≢false (sym (lives_more living others (λ g n. n) shown_by_others f e) ∙ gone))
      by false e = refl

  -- an overlay that no mount shows keeps nothing alive
  same_lives : (f : Filesystem ℕ)
      → filesystem_lives nat_eq (without_dead_mounts nat_eq second) f ≡ filesystem_lives nat_eq living f
  same_lives f = (λ i. showing (same_left i) f.number
      || list_any (λ (merged : Filesystem ℕ). has_layer_on nat_eq f.number merged
      && showing (same_left i) merged.number) second.filesystems) ∙ ap (λ b. is_mounted nat_eq living f.number || b)
      (any-filter (λ (merged : Filesystem ℕ). has_layer_on nat_eq f.number merged
      && is_mounted nat_eq living merged.number) (filesystem_lives nat_eq others) now.filesystems
      (λ merged m gone. none (has_layer_on nat_eq f.number merged) (is_mounted nat_eq living merged.number)
      (unshown merged.number (or_parts (is_mounted nat_eq others merged.number) _ gone).0)))
    where
      none : (a b : Bool) → b ≡ false → (a && b) ≡ false
      none true b e = e
      none false b e = refl

  same_filesystems : filter (filesystem_lives nat_eq (without_dead_mounts nat_eq second)) second.filesystems
      ≡ filter (filesystem_lives nat_eq living) now.filesystems
  same_filesystems =
      filter_alike (filesystem_lives nat_eq (without_dead_mounts nat_eq second)) (filesystem_lives nat_eq living)
      second.filesystems (λ f m. same_lives f)
      ∙ filter_less (filesystem_lives nat_eq living) (filesystem_lives nat_eq others) now.filesystems not_living

  pub living_alike : in_use_of second ≡ in_use_of now
  living_alike = λ i. record now { mounts = same_left i; filesystems = same_filesystems i }

module _ {value : WorldValue} {start : World ℕ} {gained : List Inode} {goes : Mount ℕ → Bool}
    (may : MayLeave value goes) (number : ℕ) {left : List Use} {now : World ℕ} {k : Kept} {lost : List Inode}
    (mid : Midway value start gained goes left now k lost) where
  open may use {whole, attached}

  abbrev world : World ℕ
  world = world_of value

  one_number : OneNumberAMount (mounts_in k.mounts)
  one_number = one_number_kept goes (mounts_in k.mounts) (subst OneNumberAMount mid.mounts mid.stand.one_number)

  module _ {entry : MountEntry} (found : entry_numbered k.mounts number ≡ Some entry)
      (unused : is_unused entry ≡ true) where
    abbrev mount : Mount ℕ
    mount = entry.mount

    among : Among entry k.mounts × (number ≡ mount.number)
    among = entry_found_at k.mounts number entry found

    nowhere : is_some mount.namespace ≡ false
    nowhere = (unused_parts entry unused).0

    not_going : goes mount ≡ false
    not_going = grind (arith, common_steps)

    is_entry : (other : MountEntry) → Among other k.mounts → other.mount.number ≡ number → other ≡ entry
    is_entry other m e = same_Some other entry
        (sym (entry_itself k.mounts one_number other m) ∙ ap (entry_numbered k.mounts) e ∙ found)

    in_now : Among mount now.mounts
    in_now = subst (λ all. Among mount all) (sym mid.mounts)
        (subst (λ one. Among one (map (gone_if goes) (mounts_in k.mounts)))
        (ap (λ b. cond b (detached mount) mount) not_going) (among-map (gone_if goes) (mounts_in k.mounts) mount
        (among-map (λ (one : MountEntry). one.mount) k.mounts entry among.0)))

    mount_is : mount_numbered nat_eq now number ≡ mount
    mount_is = ap (mount_numbered nat_eq now) among.1 ∙ found_itself now.mounts mid.stand.one_number mount in_now

    -- the mount is one of the world
    mount_listed : is_among nat_eq number (map (λ x. x.number) now.mounts) ≡ true
    mount_listed = is_among_numbers number (map (λ x. x.number) now.mounts)
        (subst (λ n. Among n (map (λ (x : Mount ℕ). x.number) now.mounts)) (sym among.1)
        (among-map (λ (x : Mount ℕ). x.number) now.mounts mount in_now))

    no_uses : mount_uses now number ≡ 0
    no_uses =
        let had = mid.uses entry among.0 in
        let zero : entry.uses ≡ 0 = (unused_parts entry unused).1 in
        let none : mount_uses now mount.number ≡ 0 = omega (arith, had, zero) in
        ap (mount_uses now) among.1 ∙ none

    not_located : is_located nat_eq now number ≡ false
    not_located = located_while_counted now number ∙ ap (nat_lt 0) no_uses

    not_used : is_mount_used now number ≡ false
    not_used = ap (λ (x : Mount ℕ). is_some x.namespace || is_located nat_eq now number) mount_is
        ∙ ap (λ b. b || is_located nat_eq now number) nowhere ∙ not_located

    dead : (other : Mount ℕ) → Among other now.mounts → not (nat_eq other.number number) ≡ false
        → mount_lives nat_eq now other ≡ false
    dead other m e =
        let same : other.number ≡ number = eqb-true other.number number (not-false (nat_eq other.number number) e) in
        let is : other ≡ mount = sym (found_itself now.mounts mid.stand.one_number other m)
        ∙ ap (mount_numbered nat_eq now) same ∙ mount_is in
        cc (among.1, nowhere, not_located)

    abbrev first : World ℕ
    first = without_mount now number

    abbrev f : ℕ
    f = mount.filesystem

    abbrev root : Inode
    root = (mount.filesystem, mount.root)

    -- Filesystems

    taking : Takes now number f
    taking = record {
      showing = λ n. mount_takes_its_count now number n mid.stand.one_number mount_listed
          ∙ ap (λ (x : Mount ℕ). mounts_showing first n + cond (nat_eq n x.filesystem) 1 0) mount_is
          ∙ ap (λ b. mounts_showing first n + cond b 1 0) (nat_eq_turned n f);
    }

    keeping : IsKeptOf value now k.overlays k.filesystems
    keeping = record {
      merged = mid.merged;
      each = λ one m. (mid.shown one m).mounts;
      some = λ one m. (mid.shown one m).mounted;
      apart = λ one m overlay n. let was = mid.shown one m in
          cc (was.count, overlay_apart whole was.was was.among overlay n);
      numbers = mid.numbers;
    }

    abbrev after : World ℕ
    after = without_dead_filesystems nat_eq first

    abbrev kept_left : Kept
    kept_left = meant.without_mount number mount k

    -- what is lost with the mount
    abbrev lost_here : List Inode
    lost_here = root ∷ layers_gone f k.overlays

    abbrev lost_now : List Inode
    lost_now = lost ++ lost_here

    shown_left : kept_left.filesystems ≡ left_shown whole mid.leaves taking mount.root keeping
    shown_left = shown_are whole mid.leaves taking mount.root keeping

    shown_was : (new : Shown) → Among new kept_left.filesystems
        → (one : Shown) × Among one k.filesystems × (new ≡ later_shown lost_here one)
        × (new.mounts ≡ mounts_showing after (counted new.count) + layer_count after (counted new.count))
        × (nat_eq new.mounts 0 ≡ false)
    shown_was new m =
        left_counted whole mid.leaves taking mount.root keeping new (subst (λ all. Among new all) shown_left m)

    same_count : (new : Shown) → (m : Among new kept_left.filesystems) → new.count ≡ (shown_was new m).0.count
    same_count new m = ap (λ (x : Shown). x.count) (shown_was new m).2

    -- Mounts

    stand_first : MountsStand first
    stand_first = record {
      one_number = one_number_less (λ other. not (nat_eq other.number number)) now.mounts mid.stand.one_number;
      nowhere = list_all_from_among is_nowhere_or_attached first.mounts
          (λ x m. among_from_list_all is_nowhere_or_attached now.mounts mid.stand.nowhere x (was x m).0);
      on_attached = list_all_from_among (stands_on_attached first) first.mounts
          (λ x m. still x.mount_point
          (among_from_list_all (stands_on_attached now) now.mounts mid.stand.on_attached x (was x m).0));
    }
      where
        was : (x : Mount ℕ) → Among x first.mounts → Among x now.mounts × (not (nat_eq x.number number) ≡ true)
        was x m = among-from_filter (λ other. not (nat_eq other.number number)) now.mounts x m

        found_alike : (mounts : List (Mount ℕ)) (n : ℕ) → nat_eq n number ≡ false
            → mount_in nat_eq (filter (λ (other : Mount ℕ). not (nat_eq other.number number)) mounts) n
            ≡ mount_in nat_eq mounts n
        found_alike [] n apart = refl
        found_alike (x ∷ xs) n apart = by (nat_eq x.number number) refl (nat_eq n x.number) refl
            (found_alike xs n apart)
          where
            by : (b : Bool) → nat_eq x.number number ≡ b → (c : Bool) → nat_eq n x.number ≡ c
                → mount_in nat_eq (filter (λ (other : Mount ℕ). not (nat_eq other.number number)) xs) n
                ≡ mount_in nat_eq xs n
                → mount_in nat_eq (cond (not b) (x ∷ filter (λ (other : Mount ℕ). not (nat_eq other.number number)) xs)
                (filter (λ (other : Mount ℕ). not (nat_eq other.number number)) xs)) n
                ≡ Rattle.std.specs.Prelude.unwrap_or (cond c (Some x) (find (λ mount. nat_eq n mount.number) xs))
                (Rattle.vt_spec.specs.Machine.Mounts.no_mount n)
            by true e true g later = absurd
                (true≢false (sym (ap (λ k. nat_eq k number) (eqb-true n x.number g) ∙ e) ∙ apart))
            by true e false g later = later
            by false e true g later = ap (λ d.
                Rattle.std.specs.Prelude.unwrap_or (cond d (Some x) (find (λ mount. nat_eq n mount.number)
                (filter (λ (other : Mount ℕ). not (nat_eq other.number number)) xs)))
                (Rattle.vt_spec.specs.Machine.Mounts.no_mount n)) g
            by false e false g later = cc

        -- what a mount stands on is in a namespace, so it stays
        still : (o : Option (Location ℕ))
            → list_all (λ place. is_some (mount_at nat_eq now place).namespace) (option_to_list o) ≡ true
            → list_all (λ place. is_some (mount_at nat_eq first place).namespace) (option_to_list o) ≡ true
        still None e = refl
        still (Some place) e =
            let on : is_some (mount_at nat_eq now place).namespace ≡ true = (and_parts _ _ e).0 in
            ap (λ (x : Mount ℕ). is_some x.namespace && true)
            (found_alike now.mounts place.mount (apart place.mount on (nat_eq place.mount number) refl))
            ∙ ap (λ b. b && true) on
          where
            apart : (n : ℕ) → is_some (mount_numbered nat_eq now n).namespace ≡ true → (b : Bool) → nat_eq n number ≡ b
                → b ≡ false
            apart n on true e = absurd (true≢false
                (sym on ∙ ap (λ m. is_some (mount_numbered nat_eq now m).namespace) (eqb-true n number e)
                ∙ ap (λ (x : Mount ℕ). is_some x.namespace) mount_is ∙ nowhere))
            apart n on false e = refl

    located_first : LocationsStand first
    located_first =
        list_all_from_among (λ location. is_among nat_eq location.mount (map (λ x. x.number) first.mounts))
        (all_locations now)
        (λ location m.
        let on = among_from_list_all (λ location. is_among nat_eq location.mount (map (λ x. x.number) now.mounts))
        (all_locations now) mid.located location m in
        let from = among-from_map (λ (x : Mount ℕ). x.number) now.mounts location.mount
        (among_numbers location.mount (map (λ x. x.number) now.mounts) on) in
        let apart = none_among (λ (l : Location ℕ). nat_eq number l.mount) (all_locations now) not_located location m in
        is_among_numbers location.mount (map (λ x. x.number) first.mounts)
        (subst (λ n. Among n (map (λ (x : Mount ℕ). x.number) first.mounts)) (sym from.2)
        (among-map (λ (x : Mount ℕ). x.number) first.mounts from.0
        (among-filter (λ other. not (nat_eq other.number number)) now.mounts from.0 from.1
        (ap not (ap (λ n. nat_eq n number) (sym from.2) ∙ nat_eq_turned location.mount number ∙ apart))))))

    same_points : points_left world goes (without number k.mounts) ≡ points_left world goes k.mounts
    same_points = ap (flat_map (point_left world goes))
        (sym (filter-map (λ (x : Mount ℕ). not (nat_eq number x.number)) (λ (e : MountEntry). e.mount) k.mounts
        (λ e. refl)))
        ∙ flat_map_less (point_left world goes) (λ (x : Mount ℕ). not (nat_eq number x.number)) (mounts_in k.mounts)
        (λ x m gone.
        let from = among-from_map (λ (e : MountEntry). e.mount) k.mounts x m in
        let same : from.0.mount.number ≡ number = ap (λ (y : Mount ℕ). y.number) (sym from.2)
        ∙ sym (eqb-true number x.number (not-false (nat_eq number x.number) gone)) in
        ap (λ b. cond b (inodes_of_mount_point world x) [])
        (ap goes (from.2 ∙ ap (λ (e : MountEntry). e.mount) (is_entry from.0 from.1 same)) ∙ not_going))

    same_mounts : after.mounts ≡ map (gone_if goes) (mounts_in (without number k.mounts))
    same_mounts =
        cc (
          mid.mounts,
          filter-map (λ (x : Mount ℕ). not (nat_eq x.number number)) (gone_if goes) (mounts_in k.mounts)
              (λ x. ap (λ n. not (nat_eq n number)) (gone_number goes x)),
          filter-map (λ (x : Mount ℕ). not (nat_eq x.number
              number)) (λ (e : MountEntry). e.mount) k.mounts (λ e. ap not (nat_eq_turned e.mount.number number)),
        )

    shown_is : (new : Shown) → Among new kept_left.filesystems → IsShown value after gained lost_now new
    shown_is new m = let from = shown_was new m in let had = mid.shown from.0 from.1 in record {
      was = had.was;
      among = had.among;
      count = same_count new m ∙ had.count;
      there = had.there;
      inodes = ap (λ (x : Shown). x.inodes) from.2
          ∙ (λ i. folded (unpinned_if (counted (had.count i))) (had.inodes i) lost_here)
          ∙ sym (folded_append (unpinned_if (counted had.was.count))
          (folded (pinned_if (counted had.was.count)) (inodes_seen had.was) gained) lost lost_here);
      mounts = from.3;
      mounted = from.4;
    }

    -- Exchanges

    lost_in : (c : ℕ) → nat_lt 0 (mounts_showing first c + mounted_layer_count first c) ≡ true
        → ((overlay : Filesystem ℕ) → Among overlay (overlays_seen value.overlays) → nat_eq c overlay.number ≡ false)
        → Exchanges [] lost_here c (of_lowers now) (of_lowers after)
    lost_in c there no_overlay = exchanges_follow (of_lowers now) (of_lowers first) (of_lowers after) [] (root ∷ []) []
        (layers_gone f k.overlays) c (exchanges_of_lowers {world = now} {after = first} refl
        (subst (λ (x : Mount ℕ). Exchanges [] ((x.filesystem, x.root) ∷ []) c now first) mount_is
        (Roots.mounts_leave_their_roots now number mid.stand mid.located mount_listed not_used c)))
        (layers_exchanged whole mid.leaves taking mount.root keeping c there (λ overlay m. no_overlay overlay
        (overlay_was whole mid.leaves overlay m).0))

    counted_there : (new : Shown) → (m : Among new kept_left.filesystems)
        → nat_lt 0 (mounts_showing first (counted (shown_was new m).0.count) + mounted_layer_count first
        (counted (shown_was new m).0.count)) ≡ true
    counted_there new m =
        let from = shown_was new m in
        let c = counted from.0.count in
        positive (mounts_showing first c + mounted_layer_count first c) ∙ ap (λ n. not (nat_eq n 0))
        (ap (λ n. mounts_showing first c + n) (sym (layers_stay whole mid.leaves taking c))
        ∙ ap (λ n. mounts_showing after n + layer_count after n) (sym (ap counted (same_count new m))) ∙ sym from.3)
        ∙ ap not from.4

    exchanges_are : (new : Shown) → Among new kept_left.filesystems
        → Exchanges gained (lost_now ++ (inodes_of_uses world left ++ points_left world goes (without number k.mounts)))
        (counted new.count) (of_lowers world) (of_lowers after)
    exchanges_are new m =
        let from = shown_was new m in
        let c = counted from.0.count in
        let rest = inodes_of_uses world left ++ points_left world goes k.mounts in
        subst (λ n. Exchanges gained (lost_now ++
        (inodes_of_uses world left ++ points_left world goes (without number k.mounts))) n (of_lowers world)
        (of_lowers after))
        (sym (ap counted (same_count new m)))
        (subst (λ points. Exchanges gained (lost_now ++ (inodes_of_uses world left ++ points)) c (of_lowers world)
        (of_lowers after))
        (sym same_points) (exchanges_between lost rest (mid.exchanges from.0 from.1)
        (lost_in c (counted_there new m) (keeping.apart from.0 from.1))))

    merged_left : kept_left.overlays ≡ map (merged_in after) (filter is_overlay after.filesystems)
    merged_left = (λ i. meant.merged_left_by f (meant.merged_at f (mid.merged i)) (mid.merged i))
        ∙ merged_then taking (filter is_overlay now.filesystems) (overlays_apart whole mid.leaves)
        (λ overlay m. (overlay_was whole mid.leaves overlay m).1)
        ∙ ap (map (merged_in first)) (sym (overlays_stay whole mid.leaves taking))

    still_there : (e : MountEntry) → Among e (without number k.mounts)
        → Among e k.mounts × (not (nat_eq number e.mount.number) ≡ true)
    still_there e m = among-from_filter (λ (x : MountEntry). not (nat_eq number x.mount.number)) k.mounts e m

    gone_midway : Midway value start gained goes left after kept_left lost_now
    gone_midway = record {
      held = mid.held;
      merged = merged_left;
      mounts = same_mounts;
      uses = λ e m. mid.uses e (still_there e m).0;
      writers = λ e m. mid.writers e (still_there e m).0;
      well = λ e m. mid.well e (still_there e m).0;
      shown = shown_is;
      exchanges = exchanges_are;
      numbers = numbers_are whole mid.leaves taking mount.root keeping ∙ sym
          (ap (map (λ (one : Shown). counted one.count)) shown_left);
      stand = record {
        one_number = stand_first.one_number;
        nowhere = stand_first.nowhere;
        on_attached = stand_first.on_attached;
      };
      located = located_first;
      leaves = leaves_then whole mid.leaves taking;
      same = living_alike now number dead ∙ mid.same;
    }

    gone_none : UnusedOnly number k → NoneUnused kept_left
    gone_none only e m = grind (arith, common_steps, still_there, eq-eqb)

    pub unused_goes : UnusedOnly number k → Reached value start gained goes left (meant.without_mount number mount k)
    unused_goes only = record { now = after; lost = lost_now; midway = gone_midway; none = gone_none only }

  -- the mount goes, if it is to go
  pub mount_looked_at : UnusedOnly number k → Reached value start gained goes left (meant.let_go_mount number k)
  mount_looked_at only = by (entry_numbered k.mounts number) refl
    where
      stays_as_it_is : ((e : MountEntry) → Among e k.mounts → is_unused e ≡ true
          → Some e ≡ entry_numbered k.mounts number → true ≡ false) → Reached value start gained goes left k
      stays_as_it_is never = record { now = now; lost = lost; midway = mid; none = λ e m. one e m (is_unused e) refl }
        where
          one : (e : MountEntry) → Among e k.mounts → (b : Bool) → is_unused e ≡ b → b ≡ false
          one e m false h = refl
          one e m true h = never e m h (sym (entry_itself k.mounts one_number e m)
              ∙ ap (entry_numbered k.mounts) (sym (only e m h)))

      by : (o : Option MountEntry) → entry_numbered k.mounts number ≡ o
          → Reached value start gained goes left (let_go_entry number k o)
      by None e = stays_as_it_is (λ x m h f. some_none x (f ∙ e))
        where
          some_none : (x : MountEntry) → Some x ≡ None → true ≡ false
          some_none x f = absurd cc
      by (Some entry) e = chosen (is_unused entry) refl
        where
          chosen : (b : Bool) → is_unused entry ≡ b
              → Reached value start gained goes left (cond b (meant.without_mount number entry.mount k) k)
          chosen true h = unused_goes e h only
          chosen false h = stays_as_it_is (λ x m u f. sym u ∙ ap is_unused (same_Some x entry (f ∙ e)) ∙ h)
