-- Between the first and the last use that a task leaves: what code counts then. Uses are left and mounts are detached
-- in
-- whatever order; what is no longer used goes at once, and at the end that is gone which the sweep takes.
use Rattle.std.proofs.Common.{◌≡◌, refl, sym, ap, subst, ◌∙◌, ℕ, ◌+◌, nat_eq, eqb-true, Bool, true, false, true≢false, cond, not, List, [], ◌∷◌, ◌++◌, map, filter, flat_map, Option, Some, None, option_map, is_some, append_assoc, arith, IfSome, option_to_list}
use Rattle.vt_spec.proofs.Common.{Filesystem, Mount, World, and_parts, any_pair, common_steps, detached, folded, is_located_well, is_overlay, list_all, list_any, map_alike, map_twice, not-true, or_parts, same_Some}
use Rattle.vt_mounting.proofs.Common.{Among, AreThere, Exchanges, FilesystemEntry, Inode, IsHeld, LocationsStand, MountEntry, MountsStand, OneNumberAMount, Shown, WorldValue, among-from_map, among-map, changed, counted, entry_numbered, exchanged, in_use_of, inode_at, inodes_of_mount_point, inodes_seen, is_inode, is_small_node, layer_count, location_of, map_same, mount_uses, mounts_in, mounts_showing, none_among, number_of, numbers_of, one_number_by_numbers, pinned_if, released, times, times_append, unpinned_if, world_of, writes_of}
use Rattle.vt_location.specs.declared.locations.Location.{Location}
use Rattle.vt_mounting.specs.Detach.Uses as meant
use Rattle.vt_mounting.specs.Detach.Uses.{Kept, detached_entry, is_unused, unpinned_at, unpinned_in}
use Rattle.vt_mounting.proofs.detach.LocationsSeen.{seen_where_located}
use Rattle.vt_mounting.proofs.detach.LostUses.{entry_found_at, entry_itself, folded_append, lost_alike, mounts_unchanged}
use Rattle.vt_mounting.proofs.detach.LowerLayers.{of_lowers}
use Rattle.vt_mounting.proofs.detach.MountsLeave.{LeavesOverlays}
use Rattle.vt_mounting.proofs.detach.Overlaid.{is_plain_one}
use Rattle.vt_mounting.proofs.detach.OverlaysGone.{merged_in}
use Rattle.vt_mounting.proofs.detach.Moving.{Use, inodes_of_uses, is_use_on, lose, release_if, released_counts, writes_on_mount}

-- a mount that is still to be detached, as it is afterwards
abbrev pub gone_if : (Mount ℕ → Bool) → Mount ℕ → Mount ℕ
gone_if goes mount = cond (goes mount) (detached mount) mount

-- the inodes of the mount points that are still to be left
abbrev pub point_left : World ℕ → (Mount ℕ → Bool) → Mount ℕ → List Inode
point_left world goes mount = cond (goes mount) (inodes_of_mount_point world mount) []

abbrev pub points_left : World ℕ → (Mount ℕ → Bool) → List MountEntry → List Inode
points_left world goes entries = flat_map (point_left world goes) (mounts_in entries)

-- what is shown comes from an entry of the same filesystem, and counts the mounts of a world
pub record IsShown (value : WorldValue) (now : World ℕ) (gained lost : List Inode) (one : Shown) : Type 0 where
  pub was : FilesystemEntry
  pub among : Among was value.filesystems
  pub count : one.count ≡ was.count
  pub there : AreThere (counted was.count) (inodes_seen was) gained
  pub inodes : one.inodes ≡ exchanged (counted was.count) gained lost (inodes_seen was)
  pub mounts : one.mounts ≡ mounts_showing now (counted one.count) + layer_count now (counted one.count)
  pub mounted : nat_eq one.mounts 0 ≡ false

-- In `now` tasks have left the uses `left`, and mounts that `goes` tells are detached; code has yet to leave and detach
-- them. Overlays are those of before that mounts show still.
pub record Midway (value : WorldValue) (start : World ℕ) (gained : List Inode) (goes : Mount ℕ → Bool)
    (left : List Use) (now : World ℕ) (k : Kept) (lost : List Inode) : Type 0 where
  pub held : IsHeld value
  pub merged : k.overlays ≡ map (merged_in now) (filter is_overlay now.filesystems)
  pub mounts : now.mounts ≡ map (gone_if goes) (mounts_in k.mounts)
  pub uses : (entry : MountEntry) → Among entry k.mounts
      → entry.uses ≡ mount_uses now entry.mount.number + times (is_use_on entry.mount.number) left
  pub writers : (entry : MountEntry) → Among entry k.mounts
      → entry.writers ≡ writes_of entry.mount.number now.tasks + times (writes_on_mount entry.mount.number) left
  pub well : (entry : MountEntry) → Among entry k.mounts → goes entry.mount ≡ true
      → list_all (is_located_well nat_eq (world_of value)) (option_to_list entry.mount.mount_point) ≡ true
  pub shown : (one : Shown) → Among one k.filesystems → IsShown value now gained lost one
  pub exchanges : (one : Shown) → Among one k.filesystems
      → Exchanges gained (lost ++ (inodes_of_uses (world_of value) left ++ points_left (world_of value) goes k.mounts))
      (counted one.count) (of_lowers (world_of value)) (of_lowers now)
  pub numbers : map (λ (f : Filesystem ℕ). f.number) (filter is_plain_one now.filesystems)
      ≡ map (λ (one : Shown). counted one.count) k.filesystems
  pub stand : MountsStand now
  pub located : LocationsStand now
  pub leaves : LeavesOverlays value now
  pub same : in_use_of now ≡ in_use_of start

-- nothing waits to go, or one mount alone
abbrev pub NoneUnused : Kept → Type 0
NoneUnused k = (entry : MountEntry) → Among entry k.mounts → is_unused entry ≡ false

abbrev pub UnusedOnly : ℕ → Kept → Type 0
UnusedOnly number k = (entry : MountEntry) → Among entry k.mounts → is_unused entry ≡ true → number ≡ entry.mount.number

-- after some steps
pub record Reached (value : WorldValue) (start : World ℕ) (gained : List Inode) (goes : Mount ℕ → Bool)
    (left : List Use) (k : Kept) : Type 0 where
  pub now : World ℕ
  pub lost : List Inode
  pub midway : Midway value start gained goes left now k lost
  pub none : NoneUnused k

pub gone_number : (goes : Mount ℕ → Bool) (mount : Mount ℕ) → (gone_if goes mount).number ≡ mount.number
gone_number goes mount = grind (arith, common_steps)

pub gone_numbers : (goes : Mount ℕ → Bool) (mounts : List (Mount ℕ))
    → numbers_of (map (gone_if goes) mounts) ≡ numbers_of mounts
gone_numbers goes mounts = map_twice (λ (x : Mount ℕ). x.number) (gone_if goes) mounts
    ∙ map_alike (λ (x : Mount ℕ). (gone_if goes x).number) (λ x. x.number) mounts (λ x m. gone_number goes x)

pub one_number_kept : (goes : Mount ℕ → Bool) (mounts : List (Mount ℕ)) → OneNumberAMount (map (gone_if goes) mounts)
    → OneNumberAMount mounts
one_number_kept goes mounts =
    one_number_by_numbers (map (gone_if goes) mounts) mounts (sym (gone_numbers goes mounts))

pub one_number_gone : (goes : Mount ℕ → Bool) (mounts : List (Mount ℕ)) → OneNumberAMount mounts
    → OneNumberAMount (map (gone_if goes) mounts)
one_number_gone goes mounts = one_number_by_numbers mounts (map (gone_if goes) mounts) (gone_numbers goes mounts)

-- an entry that has no use and is in no namespace
pub unused_parts : (entry : MountEntry) → is_unused entry ≡ true
    → (is_some entry.mount.namespace ≡ false) × (entry.uses ≡ 0)
unused_parts entry e =
    let parts = and_parts (not (is_some entry.mount.namespace)) (nat_eq entry.uses 0) e in
    (not-true (is_some entry.mount.namespace) parts.0, eqb-true entry.uses 0 parts.1)

-- The mounts that go are all in a namespace.
pub record MayLeave (value : WorldValue) (goes : Mount ℕ → Bool) : Type 0 where
  pub whole : IsHeld value
  pub attached : (mount : Mount ℕ) → goes mount ≡ true → is_some mount.namespace ≡ true

-- what a mount is at, in the world in which the call began
pub record IsGoing (goes : Mount ℕ → Bool) (k : Kept) (number : ℕ) (point : Option Location) (entry : MountEntry)
    : Type 0 where
  pub found : entry_numbered k.mounts number ≡ Some entry
  pub goes_so : goes entry.mount ≡ true
  pub point_is : option_map location_of point ≡ entry.mount.mount_point
  pub small : IfSome point (λ place. is_small_node place.node ≡ true)

module _ {value : WorldValue} {goes : Mount ℕ → Bool} (may : MayLeave value goes) where
  open may use {whole, attached}

  abbrev world : World ℕ
  world = world_of value

  -- A use is left

  module _ {start : World ℕ} {gained : List Inode} {u : Use} {left : List Use} {now : World ℕ} {k : Kept}
      {lost : List Inode} (mid : Midway value start gained goes (u ∷ left) now k lost) where
    abbrev inode : Inode
    inode = inode_at world u.location

    abbrev number : ℕ
    number = u.location.mount

    abbrev new : Kept
    new = lose world k u

    abbrev unpinned_one : Shown → Shown
    unpinned_one one = record one { inodes = unpinned_if (counted one.count) one.inodes inode }

    entry_was : (entry : MountEntry) → Among entry new.mounts
        → (was : MountEntry) × Among was k.mounts × (entry ≡ release_if was u)
    entry_was entry m = among-from_map (λ was. release_if was u) k.mounts entry m

    same_mount : (was : MountEntry) → (release_if was u).mount ≡ was.mount
    same_mount was = (released_counts (u ∷ []) was).mount

    same_mounts : mounts_in new.mounts ≡ mounts_in k.mounts
    same_mounts = mounts_unchanged number (released u.writes) k.mounts (λ entry. refl)

    uses_are : (was : MountEntry) → Among was k.mounts
        → (release_if was u).uses ≡ mount_uses now (release_if was u).mount.number + times
        (is_use_on (release_if was u).mount.number) left
    uses_are was m = grind (arith, common_steps)

    writers_are : (was : MountEntry) → Among was k.mounts
        → (release_if was u).writers ≡ writes_of (release_if was u).mount.number now.tasks + times
        (writes_on_mount (release_if was u).mount.number) left
    writers_are was m = grind (arith, common_steps)

    shown_was : (one : Shown) → Among one new.filesystems
        → (was : Shown) × Among was k.filesystems × (one ≡ unpinned_one was)
    shown_was one m = among-from_map unpinned_one k.filesystems one m

    shown_is : (was : Shown) → Among was k.filesystems
        → IsShown value now gained (lost ++ (inode ∷ [])) (unpinned_one was)
    shown_is was m = let is = mid.shown was m in record {
      was = is.was;
      among = is.among;
      count = is.count;
      there = is.there;
      inodes = (λ i. unpinned_if (counted (is.count i)) (is.inodes i) inode)
          ∙ sym (folded_append (unpinned_if (counted is.was.count))
          (folded (pinned_if (counted is.was.count)) (inodes_seen is.was) gained) lost (inode ∷ []));
      mounts = is.mounts;
      mounted = is.mounted;
    }

    pub use_left : Midway value start gained goes left now new (lost ++ (inode ∷ []))
    use_left = record {
      held = mid.held;
      merged = mid.merged;
      mounts = mid.mounts ∙ ap (map (gone_if goes)) (sym same_mounts);
      uses = λ entry m. let from = entry_was entry m in
          subst (λ (e : MountEntry). e.uses ≡ mount_uses now e.mount.number + times (is_use_on e.mount.number) left)
          (sym from.2) (uses_are from.0 from.1);
      writers = λ entry m. let from = entry_was entry m in
          subst (λ (e : MountEntry). e.writers
          ≡ writes_of e.mount.number now.tasks + times (writes_on_mount e.mount.number) left) (sym from.2)
          (writers_are from.0 from.1);
      well = λ entry m. let from = entry_was entry m in
          subst (λ (x : Mount ℕ). goes x ≡ true
          → list_all (is_located_well nat_eq world) (option_to_list x.mount_point) ≡ true)
          (sym (ap (λ (e : MountEntry). e.mount) from.2 ∙ same_mount from.0)) (mid.well from.0 from.1);
      shown = λ one m. let from = shown_was one m in
          subst (IsShown value now gained (lost ++ (inode ∷ []))) (sym from.2) (shown_is from.0 from.1);
      exchanges = λ one m. let from = shown_was one m in
          subst (λ count. Exchanges gained
          ((lost ++ (inode ∷ [])) ++ (inodes_of_uses world left ++ points_left world goes new.mounts))
          (counted count) (of_lowers world) (of_lowers now)) (ap (λ (x : Shown). x.count) (sym from.2))
          (subst (λ all. Exchanges gained all (counted from.0.count) (of_lowers world) (of_lowers now))
          ((λ i. lost ++ (inodes_of_uses world (u ∷ left) ++ flat_map (point_left world goes) (sym same_mounts i)))
          ∙ sym (append_assoc lost (inode ∷ []) (inodes_of_uses world left ++ points_left world goes new.mounts)))
          (mid.exchanges from.0 from.1));
      numbers = mid.numbers ∙ sym (map_twice (λ (one : Shown). counted one.count) unpinned_one k.filesystems);
      stand = mid.stand;
      located = mid.located;
      leaves = mid.leaves;
      same = mid.same;
    }

    pub left_alone : NoneUnused k → UnusedOnly number new
    left_alone none entry m unused =
        let from = entry_was entry m in
        by from.0 from.1 (nat_eq number from.0.mount.number) refl (ap is_unused (sym from.2) ∙ unused)
        ∙ ap (λ (x : Mount ℕ). x.number) (sym (ap (λ (e : MountEntry). e.mount) from.2 ∙ same_mount from.0))
      where
        by : (was : MountEntry) → Among was k.mounts → (b : Bool) → nat_eq number was.mount.number ≡ b
            → is_unused (cond b (released u.writes was) was) ≡ true → number ≡ was.mount.number
        by was n true e f = eqb-true number was.mount.number e
        by was n false e f = absurd (true≢false (sym f ∙ none was n))

  -- A mount is detached

  not_going_detached : (mount : Mount ℕ) → goes (detached mount) ≡ false
  not_going_detached mount = grind (arith, common_steps)

  -- the points of the entries are those of the others, and of this one
  points_are : (number : ℕ) (entries : List MountEntry) → OneNumberAMount (mounts_in entries) → {entry : MountEntry}
      → entry_numbered entries number ≡ Some entry → goes entry.mount ≡ true → (test : Inode → Bool)
      → times test (points_left world goes entries) ≡ times test (inodes_of_mount_point world entry.mount) + times test
      (points_left world goes (changed number detached_entry entries))
  points_are number [] one e going test = absurd cc
  points_are number (x ∷ xs) one {entry} e going test =
      let parts = or_parts (list_any (λ b. nat_eq x.mount.number b.number) (mounts_in xs))
      (any_pair (λ (a b : Mount ℕ). nat_eq a.number b.number) (mounts_in xs)) one in
      by parts.0 (nat_eq number x.mount.number) refl e (λ h. points_are number xs parts.1 h going test)
    where
      by : list_any (λ b. nat_eq x.mount.number b.number) (mounts_in xs) ≡ false → (b : Bool)
          → nat_eq number x.mount.number ≡ b → cond b (Some x) (entry_numbered xs number) ≡ Some entry
          → (entry_numbered xs number ≡ Some entry → times test (points_left world goes xs)
          ≡ times test (inodes_of_mount_point world entry.mount) + times test
          (points_left world goes (changed number detached_entry xs)))
          → times test (point_left world goes x.mount ++ points_left world goes xs)
          ≡ times test (inodes_of_mount_point world entry.mount)
          + times test (point_left world goes (cond b (detached_entry x) x).mount
          ++ points_left world goes (changed number detached_entry xs))
      by others true t h next =
          let same : x ≡ entry = same_Some x entry h in
          let here : point_left world goes x.mount ≡ inodes_of_mount_point world entry.mount =
          (λ i. cond (goes (same i).mount) (inodes_of_mount_point world (same i).mount) [])
          ∙ ap (λ b. cond b (inodes_of_mount_point world entry.mount) []) going in
          let gone : point_left world goes (detached x.mount)
          ≡ [] = ap (λ b. cond b (inodes_of_mount_point world (detached x.mount)) []) (not_going_detached x.mount) in
          let still : changed number detached_entry xs ≡ xs = map_same
          (λ (y : MountEntry). cond (nat_eq number y.mount.number) (detached_entry y) y) xs
          (λ y m. ap (λ b. cond b (detached_entry y) y)
          (ap (λ n. nat_eq n y.mount.number) (eqb-true number x.mount.number t)
          ∙ none_among (λ b. nat_eq x.mount.number b.number) (mounts_in xs) others y.mount
          (among-map (λ (one : MountEntry). one.mount) xs y m))) in
          (λ i. times test (here i ++ points_left world goes xs))
          ∙ times_append test (inodes_of_mount_point world entry.mount) (points_left world goes xs)
          ∙ (λ i. times test (inodes_of_mount_point world entry.mount) + times test
          (sym gone i ++ points_left world goes (sym still i)))
      by others false t h next =
          let later = next h in
          let one = times_append test (point_left world goes x.mount) (points_left world goes xs) in
          let two = times_append test (point_left world goes x.mount)
          (points_left world goes (changed number detached_entry xs)) in
          omega (arith, later, one, two)

  module _ {start : World ℕ} {gained : List Inode} {left : List Use} {now : World ℕ} {k : Kept} {lost : List Inode}
      (mid : Midway value start gained goes left now k lost) {number : ℕ} {point : Option Location} {entry : MountEntry}
      (going : IsGoing goes k number point entry) where
    abbrev lost_here : List Inode
    lost_here = inodes_of_mount_point world entry.mount

    abbrev taken : Kept
    taken = meant.detached_use number point k

    abbrev take : MountEntry → MountEntry
    take was = cond (nat_eq number was.mount.number) (detached_entry was) was

    one_number : OneNumberAMount (mounts_in k.mounts)
    one_number = one_number_kept goes (mounts_in k.mounts) (subst OneNumberAMount mid.mounts mid.stand.one_number)

    is_entry : (was : MountEntry) → Among was k.mounts → nat_eq number was.mount.number ≡ true → was ≡ entry
    is_entry was m e = same_Some was entry (sym (entry_itself k.mounts one_number was m)
        ∙ ap (entry_numbered k.mounts) (sym (eqb-true number was.mount.number e)) ∙ going.found)

    -- a detached mount is what it is to become
    same_gone : (was : MountEntry) → Among was k.mounts → gone_if goes (take was).mount ≡ gone_if goes was.mount
    same_gone was m = grind (arith, common_steps, not_going_detached, is_entry)

    same_now : now.mounts ≡ map (gone_if goes) (mounts_in taken.mounts)
    same_now = mid.mounts ∙ map_twice (gone_if goes) (λ (x : MountEntry). x.mount) k.mounts
        ∙ map_alike (λ (x : MountEntry). gone_if goes x.mount)
        (λ (x : MountEntry). gone_if goes (take x).mount) k.mounts (λ was m. sym (same_gone was m))
        ∙ sym (map_twice (λ (x : MountEntry). gone_if goes x.mount) take k.mounts)
        ∙ sym (map_twice (gone_if goes) (λ (x : MountEntry). x.mount) taken.mounts)

    -- the inodes that code unpins
    unpinned_are : unpinned_at point k.filesystems ≡ map (λ (one : Shown). record one {
      inodes = folded (unpinned_if (counted one.count)) one.inodes lost_here;
    }) k.filesystems
    unpinned_are = by point going.point_is going.small
      where
        by : (o : Option Location) → option_map location_of o ≡ entry.mount.mount_point
            → IfSome o (λ place. is_small_node place.node ≡ true) → unpinned_at o k.filesystems
            ≡ map (λ (one : Shown). record one {
              inodes = folded (unpinned_if (counted one.count)) one.inodes lost_here;
            }) k.filesystems
        by None is few = sym (map_same (λ (one : Shown). one) k.filesystems (λ one m. refl))
            ∙ (λ i. map (λ (one : Shown). record one {
              inodes = folded (unpinned_if (counted one.count)) one.inodes
                  (map (inode_at world) (option_to_list (is i)));
            }) k.filesystems)
        by (Some place) is few =
            let well = ap (λ o. list_all (is_located_well nat_eq world) (option_to_list o)) is
            ∙ mid.well entry (entry_found_at k.mounts number entry going.found).0 going.goes_so in
            (λ i. unpinned_in (
              sym (seen_where_located value whole place few (and_parts _ _ well).0) i,
              number_of place.node,
            ) k.filesystems) ∙ (λ i. map (λ (one : Shown). record one {
              inodes = folded (unpinned_if (counted one.count)) one.inodes
                  (map (inode_at world) (option_to_list (is i)));
            }) k.filesystems)

    -- the filesystems with the uses of these inodes lost
    abbrev unpinned_here : Shown → Shown
    unpinned_here one = record one { inodes = folded (unpinned_if (counted one.count)) one.inodes lost_here }

    shown_before : (one : Shown) → Among one taken.filesystems
        → (was : Shown) × Among was k.filesystems × (one ≡ unpinned_here was)
    shown_before one m = among-from_map unpinned_here k.filesystems one (subst (λ all. Among one all) unpinned_are m)

    shown_here : (was : Shown) → Among was k.filesystems
        → IsShown value now gained (lost ++ lost_here) (unpinned_here was)
    shown_here was m = let is = mid.shown was m in record {
      was = is.was;
      among = is.among;
      count = is.count;
      there = is.there;
      inodes = (λ i. folded (unpinned_if (counted (is.count i))) (is.inodes i) lost_here)
          ∙ sym (folded_append (unpinned_if (counted is.was.count))
          (folded (pinned_if (counted is.was.count)) (inodes_seen is.was) gained) lost lost_here);
      mounts = is.mounts;
      mounted = is.mounted;
    }

    same_lost : (test : Inode → Bool)
        → times test (lost ++ (inodes_of_uses world left ++ points_left world goes k.mounts))
        ≡ times test ((lost ++ lost_here) ++ (inodes_of_uses world left ++ points_left world goes taken.mounts))
    same_lost test =
        let a = times_append test lost (inodes_of_uses world left ++ points_left world goes k.mounts) in
        let b = times_append test (inodes_of_uses world left) (points_left world goes k.mounts) in
        let c = times_append test (lost ++ lost_here)
        (inodes_of_uses world left ++ points_left world goes taken.mounts) in
        let d = times_append test lost lost_here in
        let e = times_append test (inodes_of_uses world left) (points_left world goes taken.mounts) in
        let p = points_are number k.mounts one_number going.found going.goes_so test in
        omega (arith, a, b, c, d, e, p)

    entry_before : (e : MountEntry) → Among e taken.mounts → (was : MountEntry) × Among was k.mounts × (e ≡ take was)
    entry_before e m = among-from_map take k.mounts e m

    -- what a detached entry keeps
    take_keeps : (was : MountEntry) → ((take was).mount.number ≡ was.mount.number) × ((take was).uses ≡ was.uses)
        × ((take was).writers ≡ was.writers)
    take_keeps was = grind (arith, common_steps)

    well_still : (was : MountEntry) → Among was k.mounts → goes (take was).mount ≡ true
        → list_all (is_located_well nat_eq world) (option_to_list (take was).mount.mount_point) ≡ true
    well_still was m = grind (arith, common_steps)

    pub mount_taken : Midway value start gained goes left now taken (lost ++ lost_here)
    mount_taken = record {
      held = mid.held;
      merged = mid.merged;
      mounts = same_now;
      uses = λ e m. let from = entry_before e m in let keeps = take_keeps from.0 in
          subst (λ (x : MountEntry). x.uses ≡ mount_uses now x.mount.number + times (is_use_on x.mount.number) left)
          (sym from.2)
          (keeps.1 ∙ mid.uses from.0 from.1 ∙ ap (λ n. mount_uses now n + times (is_use_on n) left) (sym keeps.0));
      writers = λ e m. let from = entry_before e m in let keeps = take_keeps from.0 in
          subst (λ (x : MountEntry). x.writers
          ≡ writes_of x.mount.number now.tasks + times (writes_on_mount x.mount.number) left) (sym from.2)
          (keeps.2 ∙ mid.writers from.0 from.1
          ∙ ap (λ n. writes_of n now.tasks + times (writes_on_mount n) left) (sym keeps.0));
      well = λ e m. let from = entry_before e m in
          subst (λ (x : MountEntry). goes x.mount ≡ true
          → list_all (is_located_well nat_eq world) (option_to_list x.mount.mount_point) ≡ true) (sym from.2)
          (well_still from.0 from.1);
      shown = λ one m. let from = shown_before one m in subst (IsShown value now gained (lost ++ lost_here))
          (sym from.2) (shown_here from.0 from.1);
      exchanges = λ one m. let from = shown_before one m in
          subst (λ count. Exchanges gained
          ((lost ++ lost_here) ++ (inodes_of_uses world left ++ points_left world goes taken.mounts))
          (counted count) (of_lowers world) (of_lowers now)) (ap (λ (x : Shown). x.count) (sym from.2))
          (lost_alike ((lost ++ lost_here) ++ (inodes_of_uses world left ++ points_left world goes taken.mounts))
          (λ n. same_lost (is_inode (counted from.0.count) n)) (mid.exchanges from.0 from.1));
      numbers = mid.numbers ∙ sym (map_twice (λ (one : Shown). counted one.count) unpinned_here k.filesystems)
          ∙ sym (ap (map (λ (one : Shown). counted one.count)) unpinned_are);
      stand = mid.stand;
      located = mid.located;
      leaves = mid.leaves;
      same = mid.same;
    }

    pub taken_alone : NoneUnused k → UnusedOnly number taken
    taken_alone none e m unused =
        let from = entry_before e m in
        by from.0 from.1 (nat_eq number from.0.mount.number) refl (ap is_unused (sym from.2) ∙ unused)
        ∙ sym (ap (λ (x : MountEntry). x.mount.number) from.2 ∙ (take_keeps from.0).0)
      where
        by : (was : MountEntry) → Among was k.mounts → (b : Bool) → nat_eq number was.mount.number ≡ b
            → is_unused (cond b (detached_entry was) was) ≡ true → number ≡ was.mount.number
        by was n true t f = eqb-true number was.mount.number t
        by was n false t f = absurd (true≢false (sym f ∙ none was n))
