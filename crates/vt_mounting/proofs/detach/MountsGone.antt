-- A mount that has left its namespace is looked at: it goes if nothing is on it, and its filesystem with its last
-- mount.
use Rattle.std.proofs.Common.{◌≡◌, ◌≢◌, refl, sym, ap, subst, ◌∙◌, ℕ, ◌+◌, nat_eq, eqb-true, Bool, true, false, true≢false, cond, not, ◌&&◌, ◌||◌, List, [], ◌∷◌, ◌++◌, map, filter, find, Option, Some, None, option_map, is_some, unwrap_or, arith, nat_lt, option_to_list, lt-ltb}
use Rattle.vt_spec.proofs.Common.{Filesystem, Location, Mount, World, all_locations, common_steps, detached, eqb-false, filesystem_lives, folded, is_among, is_located, is_nowhere_or_attached, is_overlay, mount_at, mount_lives, mount_numbered, no_mount, not-true, pair-filter, without_dead_filesystems}
use Rattle.vt_mounting.proofs.Common.{Among, CountsItsUses, Exchanges, Inode, LocationsStand, MountEntry, MountsStand, Shown, WorldValue, all_from_among, among-filter, among-from_filter, among-from_map, among-map, among_from_all, among_from_list_all, among_numbers, counted, entry_numbered, exchanges_follow, filter-map, filter_all, found_in, inodes_seen, is_among_numbers, is_inode, is_mount_used, layer_count, list_all_from_among, located_while_counted, mount_takes_its_count, mount_uses, mounted_layer_count, mounts_in, mounts_showing, none_among, or_right, overlays_seen, pinned_if, stands_on_attached, times_append, unpinned_if, without, without_mount, world_of}
use Rattle.vt_laws_mounts.proofs.counts.going.Gone.{mount_goes_at_zero}
use Rattle.vt_laws_mounts.proofs.counts.using.MountRoots as Roots
use Rattle.vt_laws_mounts.specs.LettingGo.Mounting.{root_inode}
use Rattle.vt_laws_mounts.specs.LettingGo.OneByOne as Looks
use Rattle.vt_laws_mounts.proofs.letting_go.leaving.PlacesLeft.{found_in_filter}
use Rattle.vt_mounting.specs.Detach.Uses as meant
use Rattle.vt_mounting.specs.Detach.Uses.{Kept}
use Rattle.vt_mounting.proofs.detach.Going.{map_filtered}
use Rattle.vt_mounting.proofs.detach.Keeping.{IsKeptBut, IsShownIn, detached_in, looked_at, points_lost, points_without}
use Rattle.vt_mounting.proofs.detach.Moving.{nat_eq_turned}
use Rattle.vt_mounting.proofs.detach.Shown.{found_entry}
use Rattle.vt_mounting.proofs.detach.MountsLeave.{IsKeptOf, layers_exchanged, layers_stay, leaves_then, left_counted, left_shown, living_then, numbers_are, overlay_was, overlays_apart, overlays_stay, plain_ones_counted, shown_are}
use Rattle.vt_mounting.proofs.detach.OverlaysGone.{Takes, layers_gone, merged_in}
use Rattle.vt_mounting.proofs.detach.OverlaysKept.{merged_then}
use Rattle.vt_mounting.proofs.detach.LostUses.{folded_append, positive}
use Rattle.vt_mounting.proofs.detach.LowerLayers.{exchanges_of_lowers, of_lowers}
use Rattle.vt_mounting.proofs.detach.Overlaid.{is_plain_one, overlay_apart}

-- Mounts that are changed, by their numbers

pub found_mapped : (change : Mount ℕ → Mount ℕ) → ((mount : Mount ℕ) → (change mount).number ≡ mount.number)
    → (mounts : List (Mount ℕ)) (number : ℕ)
    → find (λ (mount : Mount ℕ). nat_eq number mount.number) (map change mounts)
    ≡ option_map change (find (λ (mount : Mount ℕ). nat_eq number mount.number) mounts)
found_mapped change same [] number = refl
found_mapped change same (first ∷ rest) number = grind (arith, common_steps, found_mapped change same rest number)

-- where none is found by a number, none has it
pub none_numbered : (number : ℕ) (mounts : List (Mount ℕ))
    → find (λ (x : Mount ℕ). nat_eq number x.number) mounts ≡ None
    → (x : Mount ℕ) → Among x mounts → nat_eq x.number number ≡ false
none_numbered number [] none x m = absurd m
none_numbered number (first ∷ rest) none x m = grind (arith, common_steps, none_numbered number rest, nat_eq_turned)

-- one that is pending keeps what it shows
module _ (pending : List ℕ) (mount : Mount ℕ) where
  still : {A : Type 0} (part : Mount ℕ → A) → part (detached mount) ≡ part mount
      → part (detached_in pending mount) ≡ part mount
  still part same = grind (arith, common_steps)

  pub pending_number : (detached_in pending mount).number ≡ mount.number
  pending_number = still (λ (one : Mount ℕ). one.number) refl

  pub pending_filesystem : (detached_in pending mount).filesystem ≡ mount.filesystem
  pending_filesystem = still (λ (one : Mount ℕ). one.filesystem) refl

  pub pending_root : (detached_in pending mount).root ≡ mount.root
  pending_root = still (λ (one : Mount ℕ). one.root) refl

  pub pending_nowhere : is_some mount.namespace ≡ false → is_some (detached_in pending mount).namespace ≡ false
  pending_nowhere none = grind (arith, common_steps)

-- what is lost in between is lost before what is lost later
pub exchanges_between : {world between after : World ℕ} {gained : List Inode} (lost later : List Inode)
    {more : List Inode} {filesystem : ℕ}
    → Exchanges gained (lost ++ later) filesystem world between → Exchanges [] more filesystem between after
    → Exchanges gained ((lost ++ more) ++ later) filesystem world after
exchanges_between lost later {more} {filesystem} first second = record {
  same = second.same ∙ first.same;
  uses = λ number.
      let one = first.uses number in
      let other = second.uses number in
      let a = times_append (is_inode filesystem number) lost later in
      let b = times_append (is_inode filesystem number) lost more in
      let c = times_append (is_inode filesystem number) (lost ++ more) later in
      omega (arith, one, other, a, b, c);
}

module _ {old : WorldValue} {number : ℕ} {pending : List ℕ} {gained lost : List Inode} {world : World ℕ} {k : Kept}
    (is : IsKeptBut old (number ∷ pending) pending gained lost world k) where
  abbrev later : List Inode
  later = points_lost (world_of old) (mounts_in k.mounts) pending

  -- where the mount is used, or there is none of that number
  mount_stays : Looks.let_go_mount world number ≡ world
      → IsKeptBut old pending pending gained lost (looked_at world number) k
  mount_stays stay = subst (λ one. IsKeptBut old pending pending gained lost one k) (sym same) (record {
    held = is.held;
    merged = is.merged;
    mounts = is.mounts;
    uses = is.uses;
    numbers = is.numbers;
    filesystems = is.filesystems;
    stand = is.stand;
    located = is.located;
    in_use = list_all_from_among (λ mount. is_among nat_eq mount.number pending || mount_lives nat_eq world mount)
        world.mounts
        (λ mount m.
        both (nat_eq mount.number number) (is_among nat_eq mount.number pending) (mount_lives nat_eq world mount)
        (among_from_list_all (λ mount. is_among nat_eq mount.number (number ∷ pending)
        || mount_lives nat_eq world mount) world.mounts is.in_use mount m)
        (among-from_filter (λ mount. not (nat_eq mount.number number)
        || mount_lives nat_eq world mount) world.mounts mount
        (subst (λ all. Among mount all) (sym (ap (λ (one : World ℕ). one.mounts) stay)) m)).1);
    mounted = is.mounted;
    leaves = is.leaves;
    points = is.points;
    places = is.places;
  })
    where
      same : looked_at world number ≡ world
      same = ap (without_dead_filesystems nat_eq) stay ∙ ap (λ all. record world { filesystems = all })
          (filter_all (filesystem_lives nat_eq world) world.filesystems
          (λ f m. among_from_list_all (filesystem_lives nat_eq world) world.filesystems is.mounted f m))

      both : (a b c : Bool) → ((a || b) || c) ≡ true → (not a || c) ≡ true → (b || c) ≡ true
      both true b c h g = or_right b c g
      both false b c h g = h

  module _ {entry : MountEntry} (e : entry_numbered k.mounts number ≡ Some entry)
      (nowhere : is_some entry.mount.namespace ≡ false) (unplaced : entry.mount.mount_point ≡ None) where
    abbrev mount : Mount ℕ
    mount = entry.mount

    abbrev seen : Mount ℕ
    seen = detached_in pending mount

    -- the entry is one of those kept, with the number
    entry_found : Among entry k.mounts × (nat_eq number entry.mount.number ≡ true)
    entry_found = found_in (λ (x : MountEntry). nat_eq number x.mount.number) k.mounts entry e

    numbered : number ≡ mount.number
    numbered = eqb-true number mount.number entry_found.1

    mount_is : mount_numbered nat_eq world number ≡ seen
    mount_is = ap (λ o. unwrap_or o (no_mount number)) (ap (find (λ x. nat_eq number x.number)) is.mounts
        ∙ found_mapped (detached_in pending) (pending_number pending) (mounts_in k.mounts) number
        ∙ ap (option_map (detached_in pending))
        (found_entry number k.mounts ∙ ap (option_map (λ (one : MountEntry). one.mount)) e))

    shows : (mount_numbered nat_eq world number).filesystem ≡ mount.filesystem
    shows = ap (λ (x : Mount ℕ). x.filesystem) mount_is ∙ pending_filesystem pending mount

    nowhere_so : is_some (mount_numbered nat_eq world number).namespace ≡ false
    nowhere_so = ap (λ (x : Mount ℕ). is_some x.namespace) mount_is ∙ pending_nowhere pending mount nowhere

    uses_are : entry.uses ≡ mount_uses world number
    uses_are = (among_from_all (CountsItsUses world) k.mounts is.uses entry entry_found.0).uses
        ∙ ap (mount_uses world) (sym numbered)

    looked : {c : Bool} → nat_lt 0 entry.uses ≡ c
        → Looks.let_go_mount world number ≡ cond c world (without_mount world number)
    looked f = mount_goes_at_zero world number is.stand.one_number
        ∙ (λ i. cond (nowhere_so i || nat_lt 0 (sym uses_are i)) world (without_mount world number))
        ∙ ap (λ b. cond b world (without_mount world number)) f

    kept_is : {b c : Bool} → is_some mount.namespace ≡ b → nat_eq entry.uses 0 ≡ c
        → meant.let_go_mount number k ≡ cond (not b && c) (meant.without_mount number mount k) k
    kept_is f g =
        ap (meant.let_go_entry number k) e ∙ (λ i. cond (not (f i) && g i) (meant.without_mount number mount k) k)

    -- the mount is one of the world
    mount_listed : is_among nat_eq number (map (λ x. x.number) world.mounts) ≡ true
    mount_listed = is_among_numbers number (map (λ (x : Mount ℕ). x.number) world.mounts)
        (subst (λ n. Among n (map (λ (x : Mount ℕ). x.number) world.mounts))
        (pending_number pending mount ∙ sym numbered) (among-map (λ (x : Mount ℕ). x.number) world.mounts seen
        (subst (λ all. Among seen all) (sym is.mounts) (among-map (detached_in pending) (mounts_in k.mounts) mount
        (among-map (λ (x : MountEntry). x.mount) k.mounts entry entry_found.0)))))

    -- where nothing is on it
    module _ (unused : mount_uses world number ≡ 0)
        (dead : Looks.let_go_mount world number ≡ without_mount world number) where
      abbrev mounted : World ℕ
      mounted = without_mount world number

      abbrev root : Inode
      root = (mount.filesystem, mount.root)

      abbrev kept_now : Kept
      kept_now = meant.without_mount number mount k

      -- what is lost with the mount
      abbrev lost_here : List Inode
      lost_here = root ∷ layers_gone mount.filesystem k.overlays

      abbrev is_other : Mount ℕ → Bool
      is_other x = not (nat_eq x.number number)

      abbrev remaining : World ℕ
      remaining = without_dead_filesystems nat_eq mounted

      looked_is : looked_at world number ≡ remaining
      looked_is = ap (without_dead_filesystems nat_eq) dead

      taking : Takes world number mount.filesystem
      taking = record {
        showing = λ n. mount_takes_its_count world number n is.stand.one_number mount_listed
            ∙ ap (λ f. mounts_showing mounted n + cond (nat_eq n f) 1 0) shows
            ∙ ap (λ b. mounts_showing mounted n + cond b 1 0) (nat_eq_turned n mount.filesystem);
      }

      keeping : IsKeptOf old world k.overlays k.filesystems
      keeping = record {
        merged = is.merged;
        each = λ one m. (is.filesystems one m).mounts;
        some = λ one m.
            let there = among-from_map (λ (f : Filesystem ℕ). f.number) (filter is_plain_one world.filesystems)
            (counted one.count) (subst (λ all. Among (counted one.count) all) (sym is.numbers)
            (among-map (λ (x : Shown). counted x.count) k.filesystems one m)) in
            not-true (nat_eq one.mounts 0) (ap (λ n. not (nat_eq n 0)) ((is.filesystems one m).mounts
            ∙ ap (λ n. mounts_showing world n + layer_count world n) there.2)
            ∙ sym (positive (mounts_showing world there.0.number + layer_count world there.0.number))
            ∙ plain_ones_counted is.held is.leaves is.mounted there.0
            (among-from_filter is_plain_one world.filesystems there.0 there.1).0);
        apart = λ one m overlay n. let was = is.filesystems one m in
            cc (was.count, overlay_apart is.held was.was was.among overlay n);
        numbers = is.numbers;
      }

      shown_left : kept_now.filesystems ≡ left_shown is.held is.leaves taking mount.root keeping
      shown_left = shown_are is.held is.leaves taking mount.root keeping

      not_located : is_located nat_eq world number ≡ false
      not_located = located_while_counted world number ∙ ap (nat_lt 0) unused

      unused_so : is_mount_used world number ≡ false
      unused_so = ap (λ b. b || is_located nat_eq world number) nowhere_so ∙ not_located

      root_is : root_inode world number ≡ root
      root_is = (λ i. ((mount_is i).filesystem, (mount_is i).root))
          ∙ (λ i. (pending_filesystem pending mount i, pending_root pending mount i))

      root_goes : (n : ℕ) → nat_lt 0 (mounts_showing mounted n + mounted_layer_count mounted n) ≡ true
          → ((overlay : Filesystem ℕ) → Among overlay (overlays_seen old.overlays) → nat_eq n overlay.number ≡ false)
          → Exchanges [] lost_here n (of_lowers world) (of_lowers remaining)
      root_goes n some_there others =
          let first = exchanges_of_lowers {world = world} {after = mounted} refl
          (subst (λ inode. Exchanges [] (inode ∷ []) n world mounted) root_is
          (Roots.mounts_leave_their_roots world number is.stand is.located mount_listed unused_so n)) in
          let second = layers_exchanged is.held is.leaves taking mount.root keeping n some_there
          (λ overlay m. others overlay (overlay_was is.held is.leaves overlay m).0) in
          exchanges_follow (of_lowers world) (of_lowers mounted) (of_lowers remaining) [] (root ∷ []) []
          (layers_gone mount.filesystem k.overlays) n first second

      -- a place that stays
      stays_there : (n : ℕ) → is_some (mount_numbered nat_eq world n).namespace ≡ true
          → mount_numbered nat_eq remaining n ≡ mount_numbered nat_eq world n
      stays_there n attached =
          found_in_filter is_other world.mounts n (λ x m same. by x same (nat_eq x.number number) refl)
        where
          by : (x : Mount ℕ) → x.number ≡ n → (b : Bool) → nat_eq x.number number ≡ b → not b ≡ true
          by x same true h = absurd (true≢false (sym attached
              ∙ ap (λ one. is_some (mount_numbered nat_eq world one).namespace)
              (sym same ∙ eqb-true x.number number h) ∙ nowhere_so))
          by x same false h = refl

      place_attached : (x : Mount ℕ) → Among x world.mounts → {place : Location ℕ} → x.mount_point ≡ Some place
          → is_some (mount_numbered nat_eq world place.mount).namespace ≡ true
      place_attached x m {place} p = grind (arith, common_steps, among_from_list_all)

      stand_still : MountsStand remaining
      stand_still = record {
        one_number = pair-filter (λ
            (a b : Mount ℕ). nat_eq a.number b.number) is_other world.mounts is.stand.one_number;
        nowhere = list_all_from_among is_nowhere_or_attached remaining.mounts (λ x m.
            among_from_list_all is_nowhere_or_attached world.mounts is.stand.nowhere x
            (among-from_filter is_other world.mounts x m).0);
        on_attached = list_all_from_among (stands_on_attached remaining) remaining.mounts (λ x m.
            list_all_from_among (λ place. is_some (mount_at nat_eq remaining place).namespace)
            (option_to_list x.mount_point)
            (λ place p.
            let attached = among_from_list_all (λ place. is_some (mount_at nat_eq world place).namespace)
            (option_to_list x.mount_point)
            (among_from_list_all (stands_on_attached world) world.mounts is.stand.on_attached x
            (among-from_filter is_other world.mounts x m).0) place p in
            ap (λ (one : Mount ℕ). is_some one.namespace) (stays_there place.mount attached) ∙ attached));
      }

      located_still : LocationsStand remaining
      located_still =
          list_all_from_among
          (λ location. is_among nat_eq location.mount (map (λ mount. mount.number) remaining.mounts))
          (all_locations world) (λ location m.
          let from = among-from_map (λ (x : Mount ℕ). x.number) world.mounts location.mount
          (among_numbers location.mount (map (λ (x : Mount ℕ). x.number) world.mounts)
          (among_from_list_all (λ location. is_among nat_eq location.mount (map (λ mount. mount.number) world.mounts))
          (all_locations world) is.located location m)) in
          is_among_numbers location.mount (map (λ (x : Mount ℕ). x.number) remaining.mounts)
          (subst (λ n. Among n (map (λ (x : Mount ℕ). x.number) remaining.mounts)) (sym from.2)
          (among-map (λ (x : Mount ℕ). x.number) remaining.mounts from.0
          (among-filter is_other world.mounts from.0 from.1
          (ap not (ap (λ n. nat_eq n number) (sym from.2) ∙ nat_eq_turned location.mount number
          ∙ none_among (λ (l : Location ℕ). nat_eq number l.mount) (all_locations world) not_located location m))))))

      abbrev kept_mounts : List MountEntry
      kept_mounts = without number k.mounts

      mounts_are : mounts_in kept_mounts ≡ filter is_other (mounts_in k.mounts)
      mounts_are = map_filtered (λ (one : MountEntry). one.mount)
          (λ (one : MountEntry). not (nat_eq number one.mount.number)) is_other
          (λ one. ap not (nat_eq_turned one.mount.number number)) k.mounts

      later_is : points_lost (world_of old) (mounts_in kept_mounts) pending ≡ later
      later_is = ap (λ all. points_lost (world_of old) all pending) mounts_are
          ∙ points_without (world_of old) pending (mounts_in k.mounts) number
          (ap (λ o. (unwrap_or o (no_mount number)).mount_point)
          (found_entry number k.mounts ∙ ap (option_map (λ (one : MountEntry). one.mount)) e) ∙ unplaced)

      shown_now : (new : Shown) → Among new kept_now.filesystems → IsShownIn old gained (lost ++ lost_here)
          (points_lost (world_of old) (mounts_in kept_mounts) pending) remaining new
      shown_now new m =
          let from = left_counted is.held is.leaves taking mount.root keeping new
          (subst (λ all. Among new all) shown_left m) in
          let was = is.filesystems from.0 from.1 in
          let count : new.count ≡ from.0.count = ap (λ (x : Shown). x.count) from.2 in
          let n = counted was.was.count in
          let same : counted new.count ≡ n = ap counted (count ∙ was.count) in
          let some_there : nat_lt 0 (mounts_showing mounted n + mounted_layer_count mounted n) ≡ true =
          positive (mounts_showing mounted n + mounted_layer_count mounted n) ∙ ap (λ k. not (nat_eq k 0))
          (ap (λ k. mounts_showing mounted n + k)
          (sym (layers_stay is.held is.leaves taking n))
          ∙ ap (λ k. mounts_showing remaining k + layer_count remaining k) (sym same) ∙ sym from.3) ∙ ap not from.4 in
          record {
            was = was.was;
            among = was.among;
            count = count ∙ was.count;
            there = was.there;
            inodes = ap (λ (x : Shown). x.inodes) from.2
                ∙ (λ i. folded (unpinned_if (counted (was.count i))) (was.inodes i) lost_here)
                ∙ sym (folded_append (unpinned_if n)
                (folded (pinned_if n) (inodes_seen was.was) gained) lost lost_here);
            exchanges = subst (λ rest. Exchanges gained ((lost ++ lost_here) ++ rest) n (of_lowers (world_of old))
                (of_lowers remaining))
                (sym later_is)
                (exchanges_between lost later was.exchanges
                (root_goes n some_there (overlay_apart is.held was.was was.among)));
            mounts = from.3;
          }

      remaining_kept : IsKeptBut old pending pending gained (lost ++ lost_here) remaining kept_now
      remaining_kept = record {
        held = is.held;
        merged = (λ i. meant.merged_left_by mount.filesystem (meant.merged_at mount.filesystem (is.merged i))
            (is.merged i)) ∙ merged_then taking (filter is_overlay world.filesystems)
            (overlays_apart is.held is.leaves)
            (λ overlay m. (overlay_was is.held is.leaves overlay m).1) ∙ ap (map (merged_in mounted))
            (sym (overlays_stay is.held is.leaves taking));
        mounts = ap (filter is_other) is.mounts ∙ filter-map is_other (detached_in pending) (mounts_in k.mounts)
            (λ x. ap (λ n. not (nat_eq n number)) (pending_number pending x))
            ∙ ap (map (detached_in pending)) (sym mounts_are);
        uses = all_from_among (CountsItsUses remaining) kept_mounts (λ one m.
            let counts = among_from_all (CountsItsUses world) k.mounts is.uses one
            (among-from_filter (λ (x : MountEntry). not (nat_eq number x.mount.number)) k.mounts one m).0 in
            record { uses = counts.uses; writers = counts.writers });
        numbers = numbers_are is.held is.leaves taking mount.root keeping ∙ sym
            (ap (map (λ (one : Shown). counted one.count)) shown_left);
        filesystems = shown_now;
        stand = stand_still;
        located = located_still;
        in_use = list_all_from_among (λ x. is_among nat_eq x.number pending || mount_lives nat_eq world x)
            remaining.mounts (λ x m.
            let from = among-from_filter is_other world.mounts x m in
            other (nat_eq x.number number) (is_among nat_eq x.number pending) (mount_lives nat_eq world x)
            (among_from_list_all (λ x. is_among nat_eq x.number (number ∷ pending)
            || mount_lives nat_eq world x) world.mounts is.in_use x from.0) from.1);
        mounted = living_then is.held is.leaves taking;
        leaves = leaves_then is.held is.leaves taking;
        points = λ x m point p few. is.points x (among-from_filter is_other (mounts_in k.mounts) x
            (subst (λ all. Among x all) mounts_are m)).0 point p few;
        places = λ x m place p.
            let from = (among-from_filter is_other world.mounts x m).0 in
            ap (λ (one : Mount ℕ). one.filesystem) (stays_there place.mount (place_attached x from p))
            ∙ is.places x from place p;
      }
        where
          other : (a b c : Bool) → ((a || b) || c) ≡ true → not a ≡ true → (b || c) ≡ true
          other true b c h g = absurd (true≢false (sym g))
          other false b c h g = h

    entry_looked_at : (now : List Inode)
        × IsKeptBut old pending pending gained now (looked_at world number) (meant.let_go_mount number k)
    entry_looked_at = by (nat_eq entry.uses 0) refl
      where
        by : (c : Bool) → nat_eq entry.uses 0 ≡ c
            → (now : List Inode) × IsKeptBut old pending pending gained now (looked_at world number)
            (meant.let_go_mount number k)
        by true g =
            let zero : entry.uses ≡ 0 = eqb-true entry.uses 0 g in
            let unused : mount_uses world number ≡ 0 = sym uses_are ∙ zero in
            let dead = looked (ap (nat_lt 0) zero) in (
              lost ++ lost_here unused dead,
              subst (λ one. IsKeptBut old pending pending gained (lost ++ lost_here unused dead) one
                  (meant.let_go_mount number k)) (sym (looked_is unused dead))
                  (subst (λ one. IsKeptBut old pending pending gained (lost ++ lost_here unused dead)
                  (remaining unused dead) one) (sym (kept_is nowhere g)) (remaining_kept unused dead)),
            )
        by false g =
            let some : entry.uses ≢ 0 = eqb-false entry.uses 0 g in (
              lost,
              subst (λ one. IsKeptBut old pending pending gained lost (looked_at world number) one)
                  (sym (kept_is nowhere g))
                  (mount_stays (looked {c = true} (lt-ltb 0 entry.uses (omega (arith, some))))),
            )

  -- where there is no such mount
  none_looked_at : entry_numbered k.mounts number ≡ None
      → (now : List Inode) × IsKeptBut old pending pending gained now (looked_at world number)
      (meant.let_go_mount number k)
  none_looked_at e = (
    lost,
    subst (λ one. IsKeptBut old pending pending gained lost (looked_at world number) one)
        (sym (ap (meant.let_go_entry number k) e)) (mount_stays nothing),
  )
    where
      absent : find (λ (x : Mount ℕ). nat_eq number x.number) world.mounts ≡ None
      absent =
          cc (
            is.mounts,
            found_mapped (detached_in pending) (pending_number pending) (mounts_in k.mounts) number,
            found_entry number k.mounts,
          )

      nothing : Looks.let_go_mount world number ≡ world
      nothing = ap (λ all. record world { mounts = all })
          (filter_all (λ x. not (nat_eq x.number number) || mount_lives nat_eq world x) world.mounts
          (λ x m. ap (λ b. not b || mount_lives nat_eq world x) (none_numbered number world.mounts absent x m)))

  -- The mount is in no namespace, if it is there: then it is looked at, as the definitions do.
  pub mount_looked_at : ((entry : MountEntry) → entry_numbered k.mounts number ≡ Some entry
      → (is_some entry.mount.namespace ≡ false) × (entry.mount.mount_point ≡ None))
      → (now : List Inode) × IsKeptBut old pending pending gained now (looked_at world number)
      (meant.let_go_mount number k)
  mount_looked_at apart = by (entry_numbered k.mounts number) refl
    where
      by : (o : Option MountEntry) → entry_numbered k.mounts number ≡ o
          → (now : List Inode) × IsKeptBut old pending pending gained now (looked_at world number)
          (meant.let_go_mount number k)
      by None e = none_looked_at e
      by (Some entry) e = entry_looked_at e (apart entry e).0 (apart entry e).1
