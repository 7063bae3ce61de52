-- A mount goes, and the world is without what it alone showed: a plain filesystem, or an overlay and filesystems of its
-- layers.
use Rattle.std.proofs.Common.{◌≡◌, refl, sym, ap, subst, ◌∙◌, ℕ, ◌+◌, ◌-◌, nat_eq, nat_lt, eqb-true, eq-eqb, Bool, true, false, true≢false, cond, not, ◌&&◌, List, [], ◌∷◌, map, filter, find, flat_map, Option, Some, None, unwrap_or, arith, map-id}
use Rattle.vt_spec.proofs.Common.{Filesystem, World, any_pair, filesystem_lives, folded, is_mounted, is_overlay, map_alike, map_twice, no_filesystem, not-true, pair-filter, without_dead_filesystems}
use Rattle.vt_mounting.proofs.Common.{Among, CountsItsMounts, Exchanges, FilesystemEntry, FilesystemsInUse, Inode, IsHeld, IsMountedSoOften, Shown, WorldValue, all_in_use, among-filter, among-from_filter, among-from_map, among_from_all, among_from_list_all, are_rising, counted, filesystem_seen, filter-map, filter_alike, filter_all, filter_twice, found_in, layer_count, layers_among, list_all_from_among, mounted_layer_count, mounted_while_counted, mounts_showing, or_left, overlay_seen, overlays_seen, times, without_mount, world_of}
use Rattle.vt_laws_mounts.specs.Counts.OverlaysStay.{HasNoLayerIn}
use Rattle.vt_laws_mounts.proofs.counts.overlays.FilesystemUses.{overlays_take_their_uses}
use Rattle.vt_laws_mounts.proofs.counts.overlays.Living.{layers_left_are_mounted, lives_while_counted, lives_while_mounted}
use Rattle.vt_laws_mounts.specs.LettingGo.Overlays.{used_by_filesystem}
use Rattle.vt_laws_worlds.proofs.overlays_stay.weaving.WovenLists.{rising_filtered}
use Rattle.vt_mounting.specs.Detach.Uses as meant
use Rattle.vt_mounting.specs.Detach.Uses.{Merged, let_go_filesystem, merged_at, merged_seen, shown_left_by, unpinned_in, without_layer}
use Rattle.vt_mounting.proofs.detach.BesideOverlays.{mounted_at_first, no_layer_midway, some_of_both}
use Rattle.vt_mounting.proofs.detach.LayersLeft.{go_one_by_one, is_some_left, later_shown}
use Rattle.vt_mounting.proofs.detach.LostUses.{found_unless, positive}
use Rattle.vt_mounting.proofs.detach.LowerLayers.{all_use_lowers, numbered_of_lowers, of_lowers, overlays_of_lowers, with_lowers}
use Rattle.vt_mounting.proofs.detach.Moving.{nat_eq_turned}
use Rattle.vt_mounting.proofs.detach.Overlaid.{is_plain_one, overlays_are, plain_one_among}
use Rattle.vt_mounting.proofs.detach.OverlaysGone.{Takes, layers_go, layers_gone, layers_gone_by, layers_of_overlays, layers_parted, layers_used, merged_in}

-- A world midway in an event has those overlays of before that mounts show still.
pub record LeavesOverlays (old : WorldValue) (world : World ℕ) : Type 0 where
  pub overlays : filter is_overlay world.filesystems
      ≡ filter (λ overlay. is_mounted nat_eq world overlay.number) (overlays_seen old.overlays)
  pub rise : are_rising world.filesystems ≡ true

-- Code keeps this of a world: its overlays, and what it shows of plain filesystems.
pub record IsKeptOf (old : WorldValue) (world : World ℕ) (overlays : List Merged) (shown : List Shown) : Type 0 where
  pub merged : overlays ≡ map (merged_in world) (filter is_overlay world.filesystems)
  pub each : (one : Shown) → Among one shown
      → one.mounts ≡ mounts_showing world (counted one.count) + layer_count world (counted one.count)
  pub some : (one : Shown) → Among one shown → nat_eq one.mounts 0 ≡ false
  pub apart : (one : Shown) → Among one shown → (overlay : Filesystem ℕ)
      → Among overlay (overlays_seen old.overlays) → nat_eq (counted one.count) overlay.number ≡ false
  pub numbers : map (λ (f : Filesystem ℕ). f.number) (filter is_plain_one world.filesystems)
      ≡ map (λ (one : Shown). counted one.count) shown

module _ {old : WorldValue} (held : IsHeld old) {world : World ℕ} (leaves : LeavesOverlays old world) where
  -- an overlay of the world is one of before, and a mount shows it
  pub overlay_was : (overlay : Filesystem ℕ) → Among overlay (filter is_overlay world.filesystems)
      → Among overlay (overlays_seen old.overlays) × (is_mounted nat_eq world overlay.number ≡ true)
  overlay_was overlay m =
      among-from_filter (λ overlay. is_mounted nat_eq world overlay.number) (overlays_seen old.overlays) overlay
      (subst (λ all. Among overlay all) leaves.overlays m)

  among_before : (overlay : Filesystem ℕ) → Among overlay (overlays_seen old.overlays)
      → Among overlay (world_of old).filesystems × (is_overlay overlay ≡ true)
  among_before overlay m = among-from_filter is_overlay (world_of old).filesystems overlay
      (subst (λ all. Among overlay all) (sym (overlays_are old held.overlays)) m)

  -- no overlay has a layer in it
  no_layer_in : (overlay : Filesystem ℕ) → Among overlay (filter is_overlay world.filesystems)
      → HasNoLayerIn overlay.number world
  no_layer_in overlay m = no_layer_midway held world
      (λ f n e. (overlay_was f (among-filter is_overlay world.filesystems f n e)).0) overlay (overlay_was overlay m).0

  -- all layers are those of overlays that mounts show
  all_layers_mounted : (number : ℕ) → layer_count world number ≡ mounted_layer_count world number
  all_layers_mounted number = layers_left_are_mounted world world number
      (sym (filter_all (λ overlay. is_mounted nat_eq world overlay.number) (filter is_overlay world.filesystems)
      (λ overlay n. (overlay_was overlay n).1)))

  -- an overlay lives,
  pub overlay_lives_still : (f : Filesystem ℕ) → Among f world.filesystems → is_overlay f ≡ true
      → filesystem_lives nat_eq world f ≡ true
  overlay_lives_still f m e =
      or_left (is_mounted nat_eq world f.number) _ (overlay_was f (among-filter is_overlay world.filesystems f m e)).1

  -- and so does a filesystem in which something is counted
  pub counted_lives : (f : Filesystem ℕ) → nat_lt 0 (mounts_showing world f.number + layer_count world f.number) ≡ true
      → filesystem_lives nat_eq world f ≡ true
  counted_lives f some = lives_while_counted world f
      ∙ some_of_both (mounts_showing world f.number) (mounted_layer_count world f.number)
      ∙ ap (λ n. nat_lt 0 (mounts_showing world f.number + n)) (sym (all_layers_mounted f.number)) ∙ some

  -- in a plain filesystem that is in use something is counted
  pub plain_ones_counted : FilesystemsInUse world → (f : Filesystem ℕ) → Among f world.filesystems
      → nat_lt 0 (mounts_showing world f.number + layer_count world f.number) ≡ true
  plain_ones_counted living f m = ap (λ n. nat_lt 0 (mounts_showing world f.number + n)) (all_layers_mounted f.number)
      ∙ sym (some_of_both (mounts_showing world f.number) (mounted_layer_count world f.number))
      ∙ sym (lives_while_counted world f) ∙ among_from_list_all (filesystem_lives nat_eq world) world.filesystems
      living f m

  pub overlays_apart : any_pair (λ (a b : Filesystem ℕ). nat_eq a.number b.number) (filter is_overlay world.filesystems)
      ≡ false
  overlays_apart =
      subst (λ list. any_pair (λ (a b : Filesystem ℕ). nat_eq a.number b.number) list ≡ false) (sym leaves.overlays)
      (pair-filter (λ (a b : Filesystem ℕ). nat_eq a.number b.number)
      (λ overlay. is_mounted nat_eq world overlay.number) (overlays_seen old.overlays)
      (subst (λ list. any_pair (λ (a b : Filesystem ℕ). nat_eq a.number b.number) list ≡ false)
      (overlays_are old held.overlays)
      (pair-filter (λ (a b : Filesystem ℕ). nat_eq a.number b.number) is_overlay (world_of old).filesystems
      held.in_world.files.one_filesystem)))

  module _ {number filesystem : ℕ} (taking : Takes world number filesystem) where
    open taking use {showing as takes}

    abbrev mounted : World ℕ
    mounted = without_mount world number

    abbrev left : World ℕ
    left = without_dead_filesystems nat_eq mounted

    abbrev is_shown : Filesystem ℕ → Bool
    is_shown overlay = is_mounted nat_eq mounted overlay.number

    -- what is counted of a plain filesystem then
    abbrev counts : ℕ → ℕ
    counts n = mounts_showing mounted n + mounted_layer_count mounted n

    abbrev stays : Filesystem ℕ → Bool
    stays f = cond (is_overlay f) (is_shown f) (nat_lt 0 (counts f.number))

    lives_is : (f : Filesystem ℕ) → Among f world.filesystems → filesystem_lives nat_eq mounted f ≡ stays f
    lives_is f m = by (is_overlay f) refl
      where
        by : (b : Bool) → is_overlay f ≡ b
            → filesystem_lives nat_eq mounted f ≡ cond b (is_shown f) (nat_lt 0 (counts f.number))
        by true e = lives_while_mounted mounted f (no_layer_in f (among-filter is_overlay world.filesystems f m e))
            ∙ sym (mounted_while_counted mounted f.number)
        by false e = lives_while_counted mounted f
            ∙ some_of_both (mounts_showing mounted f.number) (mounted_layer_count mounted f.number)

    pub left_are : left.filesystems ≡ filter stays world.filesystems
    left_are = filter_alike (filesystem_lives nat_eq mounted) stays world.filesystems lives_is

    -- overlays that mounts show stay
    pub overlays_stay : filter is_overlay left.filesystems ≡ filter is_shown (filter is_overlay world.filesystems)
    overlays_stay = ap (filter is_overlay) left_are ∙ filter_twice is_overlay stays (λ f. is_overlay f && is_shown f)
        (λ f. by (is_overlay f) (is_shown f) (nat_lt 0 (counts f.number))) world.filesystems
        ∙ sym (filter_twice is_shown is_overlay (λ f. is_overlay f && is_shown f) (λ f. refl) world.filesystems)
      where
        by : (a b c : Bool) → (a && b) ≡ (cond a b c && a)
        by true true c = refl
        by true false c = refl
        by false b true = refl
        by false b false = refl

    pub layers_stay : (n : ℕ) → layer_count left n ≡ mounted_layer_count mounted n
    layers_stay n = layers_left_are_mounted mounted left n overlays_stay

    -- plain filesystems stay of which something is left
    pub plain_ones_stay : filter is_plain_one left.filesystems
        ≡ filter (λ (f : Filesystem ℕ). nat_lt 0 (counts f.number)) (filter is_plain_one world.filesystems)
    plain_ones_stay = ap (filter is_plain_one) left_are
        ∙ filter_twice is_plain_one stays (λ f. is_plain_one f && nat_lt 0 (counts f.number))
        (λ f. by (is_overlay f) (is_shown f) (nat_lt 0 (counts f.number))) world.filesystems
        ∙ sym (filter_twice (λ (f : Filesystem ℕ). nat_lt 0 (counts f.number)) is_plain_one
        (λ f. is_plain_one f && nat_lt 0 (counts f.number)) (λ f. refl) world.filesystems)
      where
        by : (a b c : Bool) → (not a && c) ≡ (cond a b c && not a)
        by true true c = refl
        by true false c = refl
        by false b true = refl
        by false b false = refl

    -- overlays of before that are shown then were shown
    is_shown_before : (n : ℕ) → is_mounted nat_eq mounted n ≡ true → is_mounted nat_eq world n ≡ true
    is_shown_before n h =
        let took = takes n in
        cc (
          mounted_while_counted world n,
          some_of_both (mounts_showing mounted n) (cond (nat_eq filesystem n) 1 0),
          mounted_while_counted mounted n,
        )

    -- So those of before are left that mounts show.
    pub leaves_then : LeavesOverlays old left
    leaves_then = record {
      overlays = overlays_stay ∙ ap (filter is_shown) leaves.overlays
          ∙ filter_twice is_shown (λ overlay. is_mounted nat_eq world overlay.number) is_shown
          (λ overlay. by overlay (is_shown overlay) refl) (overlays_seen old.overlays);
      rise = ap are_rising left_are ∙ rising_filtered stays world.filesystems leaves.rise;
    }
      where
        both : (b : Bool) → false ≡ (b && false)
        both true = refl
        both false = refl

        by : (overlay : Filesystem ℕ) (b : Bool) → is_shown overlay ≡ b
            → is_shown overlay ≡ (is_mounted nat_eq world overlay.number && is_shown overlay)
        by overlay true e = e ∙ (λ i. sym (is_shown_before overlay.number e) i && sym e i)
        by overlay false e = e ∙ both (is_mounted nat_eq world overlay.number)
            ∙ ap (λ c. is_mounted nat_eq world overlay.number && c) (sym e)

    -- and all that is left is in use.
    pub living_then : FilesystemsInUse left
    living_then = list_all_from_among (filesystem_lives nat_eq left) left.filesystems (λ f m.
        let from = among-from_filter stays world.filesystems f (subst (λ all. Among f all) left_are m) in
        by f from.1 (is_overlay f) refl)
      where
        all_shown : filter (λ overlay. is_mounted nat_eq left overlay.number) (filter is_overlay left.filesystems)
            ≡ filter is_overlay left.filesystems
        all_shown = filter_all is_shown (filter is_overlay left.filesystems) (λ overlay m.
            (among-from_filter is_shown (filter is_overlay world.filesystems) overlay
            (subst (λ all. Among overlay all) overlays_stay m)).1)

        by : (f : Filesystem ℕ) → stays f ≡ true → (b : Bool) → is_overlay f ≡ b → filesystem_lives nat_eq left f ≡ true
        by f stay true e = or_left (is_mounted nat_eq left f.number) _
            (ap (λ b. cond b (is_shown f) (nat_lt 0 (counts f.number))) (sym e) ∙ stay)
        by f stay false e =
            cc (
              lives_while_counted left f,
              some_of_both (mounts_showing left f.number) (mounted_layer_count left
                  f.number),
              layers_left_are_mounted left left f.number (sym all_shown),
              layers_stay f.number,
            )

    -- Code keeps this of the world, and a mount of the filesystem goes with a use of its root.
    module _ (root : ℕ) {overlays : List Merged} {shown : List Shown} (keeping : IsKeptOf old world overlays shown) where
      open keeping use {merged, each, some, apart, numbers}

      -- what is lost with it
      abbrev lost : List Inode
      lost = (filesystem, root) ∷ layers_gone filesystem overlays

      abbrev pub left_shown : List Shown
      left_shown = filter is_some_left (map (later_shown lost) shown)

      gone_is : flat_map layers_used (filter (λ f. not (is_shown f)) (filter is_overlay world.filesystems))
          ≡ layers_gone filesystem overlays
      gone_is = layers_go taking (filter is_overlay world.filesystems) overlays_apart
          (λ overlay m. (overlay_was overlay m).1) ∙ ap (layers_gone filesystem) (sym merged)

      fewer_layers : (n : ℕ) → layer_count world n
          ≡ mounted_layer_count mounted n + times (λ (inode : Inode). nat_eq n inode.0) (layers_gone filesystem overlays)
      fewer_layers n = layers_of_overlays world n ∙ layers_parted n is_shown (filter is_overlay world.filesystems)
          ∙ (λ i. layers_among n (sym overlays_stay i) + times (λ (inode : Inode). nat_eq n inode.0) (gone_is i))
          ∙ ap (λ k. k + times (λ (inode : Inode). nat_eq n inode.0) (layers_gone filesystem overlays))
          (sym (layers_of_overlays left n) ∙ layers_stay n)

      counted_less : (one : Shown) → Among one shown → (later_shown lost one).mounts ≡ counts (counted one.count)
      counted_less one m =
          let counts_are = each one m in
          let took = takes (counted one.count) in
          let layers = fewer_layers (counted one.count) in
          ap (λ b. one.mounts - (cond b 1 0
          + times (λ (inode : Inode). nat_eq (counted one.count) inode.0) (layers_gone filesystem overlays)))
          (nat_eq_turned (counted one.count) filesystem) ∙ omega (arith, counts_are, took, layers)

      -- where an overlay has the number, no plain filesystem has it
      module _ {one : Merged} (found : merged_at filesystem overlays ≡ Some one) where
        abbrev unpinned : List Shown
        unpinned = unpinned_in (filesystem, root) shown

        none_has_it : (x : Shown) → Among x unpinned → nat_eq filesystem (counted x.count) ≡ false
        none_has_it x m =
            let from = among-from_map (λ (y : Shown). record y {
              inodes = Rattle.vt_laws_mounts.specs.Counts.Using.unpinned_if (counted y.count) y.inodes (filesystem, root);
            }) shown x m in
            let there = found_in (λ (y : Merged). nat_eq filesystem y.number) overlays one found in
            let was = among-from_map (merged_in world) (filter is_overlay world.filesystems) one
            (subst (λ all. Among one all) merged there.0) in
            ap (λ n. nat_eq n (counted x.count))
            (eqb-true filesystem one.number there.1 ∙ ap (λ (y : Merged). y.number) was.2)
            ∙ nat_eq_turned was.0.number (counted x.count) ∙ ap (λ (y : Shown). nat_eq (counted y.count) was.0.number)
            from.2
            ∙ apart from.0 from.1 was.0 (overlay_was was.0 was.1).0

        nothing : without_layer shown (filesystem, root) ≡ unpinned
        nothing = ap (let_go_filesystem filesystem) (map_alike (meant.released_if filesystem) (λ x. x) unpinned
            (λ x m. ap (λ b. cond b (record x { mounts = x.mounts - 1 }) x) (none_has_it x m))
            ∙ map-id unpinned) ∙ by (nat_eq (meant.mounts_shown filesystem unpinned) 0)
          where
            by : (b : Bool) → cond b (meant.without_filesystem filesystem unpinned) unpinned ≡ unpinned
            by true = filter_all (λ (x : Shown). not (nat_eq filesystem (counted x.count))) unpinned
                (λ x m. ap not (none_has_it x m))
            by false = refl

        leaves_so : shown_left_by filesystem (Some one) unpinned
            ≡ folded without_layer (without_layer shown (filesystem, root)) (layers_gone_by (Some one))
        leaves_so = by (nat_eq (one.mounts - 1) 0)
          where
            by : (b : Bool) → cond b (folded without_layer unpinned one.layers) unpinned
                ≡ folded without_layer (without_layer shown (filesystem, root)) (cond b one.layers [])
            by true = ap (λ all. folded without_layer all one.layers) (sym nothing)
            by false = sym nothing

      -- code keeps what has something left,
      pub shown_are : shown_left_by filesystem (merged_at filesystem overlays) (unpinned_in (filesystem, root) shown)
          ≡ left_shown
      shown_are = by (merged_at filesystem overlays) refl
          ∙ go_one_by_one lost {counts = λ n. mounts_showing world n + layer_count world n}
          (record { each = each; some = some })
        where
          by : (o : Option Merged) → merged_at filesystem overlays ≡ o
              → shown_left_by filesystem o (unpinned_in (filesystem, root) shown)
              ≡ folded without_layer (without_layer shown (filesystem, root)) (layers_gone_by o)
          by None e = refl
          by (Some one) e = leaves_so e

      -- which the world keeps, too
      pub numbers_are : map (λ (f : Filesystem ℕ). f.number) (filter is_plain_one left.filesystems)
          ≡ map (λ (one : Shown). counted one.count) left_shown
      numbers_are = ap (map (λ (f : Filesystem ℕ). f.number)) plain_ones_stay
          ∙ sym (filter-map (λ n. nat_lt 0 (counts n)) (λ (f : Filesystem ℕ). f.number)
          (filter is_plain_one world.filesystems) (λ f. refl)) ∙ ap (filter (λ n. nat_lt 0 (counts n))) numbers
          ∙ filter-map (λ n. nat_lt 0 (counts n)) (λ (one : Shown). counted one.count) shown (λ one. refl)
          ∙ ap (map (λ (one : Shown). counted one.count))
          (filter_alike (λ (one : Shown). nat_lt 0 (counts (counted one.count)))
          (λ (one : Shown). is_some_left (later_shown lost one)) shown
          (λ one m. positive (counts (counted one.count)) ∙ ap (λ n. not (nat_eq n 0)) (sym (counted_less one m))))
          ∙ sym (map_twice (λ (one : Shown). counted one.count) (later_shown lost)
          (filter (λ (one : Shown). is_some_left (later_shown lost one)) shown))
          ∙ ap (map (λ (one : Shown). counted one.count))
          (sym (filter-map is_some_left (later_shown lost) shown (λ one. refl)))

      -- with its count,
      pub left_counted : (new : Shown) → Among new left_shown → (one : Shown) × Among one shown ×
          (new ≡ later_shown lost one)
          × (new.mounts ≡ mounts_showing left (counted new.count) + layer_count left (counted new.count))
          × (nat_eq new.mounts 0 ≡ false)
      left_counted new m =
          let from = among-from_filter is_some_left (map (later_shown lost) shown) new m in
          let was = among-from_map (later_shown lost) shown new from.0 in (
            was.0,
            was.1,
            was.2,
            ap (λ (x : Shown). x.mounts) was.2 ∙ counted_less was.0 was.1
                ∙ ap (λ k. mounts_showing left (counted was.0.count) + k) (sym (layers_stay (counted was.0.count)))
                ∙ ap (λ (x : Shown). mounts_showing left (counted x.count) + layer_count left (counted x.count)) (sym was.2),
            not-true (nat_eq new.mounts 0) from.1,
          )

      -- and its inodes lose a use for each layer that goes.
      pub layers_exchanged : (n : ℕ) → nat_lt 0 (counts n) ≡ true
          → ((overlay : Filesystem ℕ) → Among overlay (filter is_overlay world.filesystems)
          → nat_eq n overlay.number ≡ false)
          → Exchanges [] (layers_gone filesystem overlays) n (of_lowers mounted) (of_lowers left)
      layers_exchanged n some_there others = subst (λ all. Exchanges [] all n (of_lowers mounted) (of_lowers left))
          (ap (flat_map used_by_filesystem) (ap (filter (λ f. not (is_shown f))) (overlays_of_lowers mounted)
          ∙ filter-map (λ f. not (is_shown f)) with_lowers (filter is_overlay world.filesystems) (λ f. refl))
          ∙ all_use_lowers (filter (λ f. not (is_shown f)) (filter is_overlay world.filesystems)) ∙ gone_is)
          (overlays_take_their_uses (of_lowers mounted) (of_lowers left) is_shown n refl refl
          (overlays_of_lowers left ∙ ap (map with_lowers) overlays_stay
          ∙ sym (filter-map is_shown with_lowers (filter is_overlay world.filesystems) (λ f. refl))
          ∙ ap (filter is_shown) (sym (overlays_of_lowers mounted)))
          (numbered_of_lowers left n ∙ ap with_lowers
          (ap (λ all. unwrap_or (find (λ (x : Filesystem ℕ). nat_eq n x.number) all) (no_filesystem n)) left_are
          ∙ found_unless stays world.filesystems n (λ x m e. by x m e (is_overlay x) refl))
          ∙ sym (numbered_of_lowers mounted n)))
        where
          by : (x : Filesystem ℕ) → Among x world.filesystems → x.number ≡ n → (b : Bool) → is_overlay x ≡ b
              → cond b (is_shown x) (nat_lt 0 (counts x.number)) ≡ true
          by x m e true o = absurd (true≢false (sym (eq-eqb n x.number (sym e))
              ∙ others x (among-filter is_overlay world.filesystems x m o)))
          by x m e false o = ap (λ k. nat_lt 0 (counts k)) e ∙ some_there

-- In the code's world all overlays are shown, and kept with their counts.
pub leaves_at_first : (value : WorldValue) → IsHeld value → LeavesOverlays value (world_of value)
leaves_at_first value whole = record {
  overlays = overlays_are value whole.overlays
      ∙ sym (filter_all (λ overlay. is_mounted nat_eq (world_of value) overlay.number) (overlays_seen value.overlays)
      (among_from_all (λ (overlay : Filesystem ℕ). is_mounted nat_eq (world_of value) overlay.number ≡ true)
      (overlays_seen value.overlays) (mounted_at_first value whole)));
  rise = whole.overlays.all_rise;
}

pub merged_at_first : (value : WorldValue) → IsHeld value → map merged_seen value.overlays
    ≡ map (merged_in (world_of value)) (filter is_overlay (world_of value).filesystems)
merged_at_first value whole =
    map_alike merged_seen (λ entry. merged_in (world_of value) (overlay_seen entry)) value.overlays
    (λ entry m. λ i. record {
      number = entry.number;
      mounts = among_from_all (IsMountedSoOften (world_of value)) value.overlays whole.overlays.mounts entry m i;
      layers = (merged_seen entry).layers;
    }) ∙ sym (map_twice (merged_in (world_of value)) overlay_seen value.overlays)
    ∙ ap (map (merged_in (world_of value))) (sym (overlays_are value whole.overlays))

-- In each of its plain filesystems something is counted.
pub some_at_first : (value : WorldValue) → IsHeld value → (was : FilesystemEntry) → Among was value.filesystems
    → nat_eq was.mounts 0 ≡ false
some_at_first value whole was m = not-true (nat_eq was.mounts 0) (ap (λ n. not (nat_eq n 0))
    (among_from_all (CountsItsMounts (world_of value)) value.filesystems whole.filesystems was m).mounts
    ∙ sym (positive (mounts_showing (world_of value) (counted was.count)
    + layer_count (world_of value) (counted was.count)))
    ∙ plain_ones_counted whole (leaves_at_first value whole) (all_in_use (world_of value) whole.in_world).filesystems
    (filesystem_seen was) (plain_one_among value whole.overlays.merged was m))

-- Overlays are left and kept where as many mounts show each filesystem.
module _ (world other : World ℕ) (same : other.filesystems ≡ world.filesystems)
    (showing : (n : ℕ) → mounts_showing other n ≡ mounts_showing world n) where
  pub leaves_alike : {old : WorldValue} → LeavesOverlays old world → LeavesOverlays old other
  leaves_alike {old} leaves = record {
    overlays = ap (filter is_overlay) same ∙ leaves.overlays
        ∙ filter_alike (λ (overlay : Filesystem ℕ). is_mounted nat_eq world overlay.number)
        (λ (overlay : Filesystem ℕ). is_mounted nat_eq other overlay.number) (overlays_seen old.overlays) (λ overlay m.
        mounted_while_counted world overlay.number ∙ ap (nat_lt 0) (sym (showing overlay.number))
        ∙ sym (mounted_while_counted other overlay.number));
    rise = ap are_rising same ∙ leaves.rise;
  }

  pub merged_alike : map (merged_in world) (filter is_overlay world.filesystems)
      ≡ map (merged_in other) (filter is_overlay other.filesystems)
  merged_alike =
      cc (map_alike (merged_in world) (merged_in other) (filter is_overlay world.filesystems) (λ overlay m. λ i. record
      { number = overlay.number; mounts = sym (showing overlay.number) i; layers = layers_used overlay }))
