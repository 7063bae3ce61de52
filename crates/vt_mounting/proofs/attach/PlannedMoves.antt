-- Mounts that get other mount points, one after the other: their room, and the uses of their mount points.
use Rattle.std.proofs.Common.{◌≡◌, refl, ap, subst, sym, ◌∙◌, ℕ, ◌+◌, ◌-◌, ◌<◌, ◌≤◌, Bool, true, false, cond, ◌&&◌, List, [], ◌∷◌, length, Some, None, Option, option_map, take, drop, get_or, map, inl, arith, nat_le, option_to_list, le-leb, leb-true, length-append, length-take-le, take-append-drop}
use Rattle.vt_spec.proofs.Common.{and_parts, common_steps, folded, length-map, list_all, list_all-append, take_more, uses_in}
use Rattle.std.proofs.lemmas.List.{flat_map_more, map_more}
use Rattle.std.proofs.lemmas.List.Folds.{list_all_more}
use Rattle.vt_location.specs.Numbers.{most_counted}
use Rattle.vt_mounting.proofs.Common.{Among, Filesystems, Inode, MountEntry, Shown, among-append_left, among-append_right, among-map, among_from_list_all, counted, inodes_at, location_of, number_of, shown}
use Rattle.vt_location.specs.declared.locations.Location.{Location}
use Rattle.vt_location.specs.declared.mounts.Mount.{Mount}
use Rattle.vt_mount.specs.declared.moving.Moved.{Moved}
use Rattle.vt_mounting.specs.Attach.Planned.{Point, left_of, pinned_by, placed_entry, points_taken, taken_of, unpinned_by}
use Rattle.vt_mounting.specs.Attach.Room.{has_room, point_has_room, uses_shown}
use Rattle.vt_mounting.specs.Detach.Uses.{inode_of, mounts_shown, unpinned_at}
use Rattle.vt_mounting.proofs.attach.RoomLemmas.{folded_more, pinned_mounts, pinned_uses, uses_are_shown}
use Rattle.vt_mounting.proofs.detach.LostUses.{folded_append}

-- Their numbers stay

pub number_stays : (place : Location) (entry : MountEntry) (b : Bool)
    → (cond b (placed_entry place entry) entry).mount.number ≡ entry.mount.number
number_stays place entry true = refl
number_stays place entry false = refl

pub mapped_points : (o : Option Location)
    → map location_of (option_to_list o) ≡ option_to_list (option_map location_of o)
mapped_points None = refl
mapped_points (Some point) = refl

-- The mount points that are taken are among those of the list

pub taken_pass : (test : Location → Bool) (points : List Point) (entries : List MountEntry)
    → list_all (λ (point : Point). test point.place) points ≡ true → list_all test (points_taken points entries) ≡ true
taken_pass test [] entries all = refl
taken_pass test (point ∷ rest) entries all = grind (arith, common_steps, taken_pass test rest entries, list_all-append)

pub taken_few : (points : List Point) (entries : List MountEntry) → length (points_taken points entries) ≤ length points
taken_few [] entries = omega arith
taken_few (point ∷ rest) entries = grind (arith, common_steps, taken_few rest entries, length-append)

-- Room for them, and for the mounts that come then

pub pins_more : (points : List Location) (other : Inode) (all : List Shown)
    → uses_shown other (folded pinned_by all points) ≤ uses_shown other all + length points
pins_more [] other all = omega arith
pins_more (point ∷ rest) other all =
    let later = pins_more rest other (pinned_by all point) in
    let first = pinned_uses (inode_of point.node) other all in
    omega (arith, later, first)

pins_mounts : (points : List Location) (other : ℕ) (all : List Shown)
    → mounts_shown other (folded pinned_by all points) ≡ mounts_shown other all
pins_mounts [] other all = refl
pins_mounts (point ∷ rest) other all = pins_mounts rest other (pinned_by all point)
    ∙ pinned_mounts (inode_of point.node) other all

-- one has room when those before it are in use
pin_room : (front : List Location) (point : Location) (all : List Shown) {now : List Shown} (n : ℕ) → length front < n
    → n ≤ most_counted → point_has_room (most_counted - n) all (Some point) ≡ true → now ≡ folded pinned_by all front
    → uses_shown (inode_of point.node) now < most_counted
pin_room front point all n less fits room so_far =
    let was = leb-true (uses_shown (inode_of point.node) all) (most_counted - n) room in
    let more = pins_more front (inode_of point.node) all in
    subst (λ later. uses_shown (inode_of point.node) later < most_counted) (sym so_far)
    (omega (arith, was, more, less, fits))

-- fewer uses are room for more
pub room_stays : (most less : ℕ) (all : List Shown) → less ≤ most → (points : List Location)
    → list_all (λ (point : Location). point_has_room less all (Some point)) points ≡ true
    → list_all (λ (point : Location). point_has_room most all (Some point)) points ≡ true
room_stays most less all fewer [] room = refl
room_stays most less all fewer (point ∷ rest) room =
    let parts = and_parts (point_has_room less all (Some point))
    (list_all (λ (other : Location). point_has_room less all (Some other)) rest) room in
    let few = leb-true (uses_shown (inode_of point.node) all) less parts.0 in
    λ i. le-leb (uses_shown (inode_of point.node) all) most (omega (arith, few, fewer)) i
    && room_stays most less all fewer rest parts.1 i

module _ (points : List Location) (all : List Shown) (less most : ℕ) (fits : less + length points ≤ most) where
  point_room_then : (point : Option Location) → point_has_room less all point ≡ true
      → point_has_room most (folded pinned_by all points) point ≡ true
  point_room_then None room = refl
  point_room_then (Some point) room =
      let was = leb-true (uses_shown (inode_of point.node) all) less room in
      let more = pins_more points (inode_of point.node) all in
      le-leb (uses_shown (inode_of point.node) (folded pinned_by all points)) most (omega (arith, was, more, fits))

  room_then : (mount : Mount) → has_room less all mount ≡ true
      → has_room most (folded pinned_by all points) mount ≡ true
  room_then mount room =
      let first = and_parts (nat_le (uses_shown (inode_of mount.root) all) less
      && point_has_room less all mount.mount_point) _ room in
      let second = and_parts (nat_le (uses_shown (inode_of mount.root) all) less) _ first.0 in
      let root = leb-true (uses_shown (inode_of mount.root) all) less second.0 in
      let shows = leb-true (mounts_shown (counted mount.root.filesystem.count) all) less first.1 in
      let more = pins_more points (inode_of mount.root) all in
      let same = pins_mounts points (counted mount.root.filesystem.count) all in
      λ i. le-leb (uses_shown (inode_of mount.root) (folded pinned_by all points)) most
      (omega (arith, root, more, fits)) i && point_room_then mount.mount_point second.1 i
      && le-leb (mounts_shown (counted mount.root.filesystem.count) (folded pinned_by all points)) most
      (omega (arith, shows, same, fits)) i

  pub all_room_then : (new : List Mount) → list_all (has_room less all) new ≡ true
      → list_all (has_room most (folded pinned_by all points)) new ≡ true
  all_room_then [] room = refl
  all_room_then (mount ∷ new) room =
      let parts = and_parts (has_room less all mount) (list_all (has_room less all) new) room in
      λ i. room_then mount parts.0 i && all_room_then new parts.1 i

-- One step of a loop

module _ (moved : List Moved) (old : List Shown) {before : List Shown} (i : ℕ) (d : Moved) (less : i < length moved)
    (so_far : before ≡ folded pinned_by old (taken_of (take i moved))) where
  abbrev place : Moved → Location
  place one = one.to

  at : (list : List Moved) (k : ℕ) → k < length list → Among (get_or list k d) list
  at list k low = subst (Among (get_or list k d)) (take-append-drop (k + 1) list)
      (among-append_left (take (k + 1) list) (drop (k + 1) list) (get_or list k d)
      (subst (Among (get_or list k d)) (sym (take_more list k d low))
      (among-append_right (take k list) (get_or list k d ∷ []) (get_or list k d) (inl refl))))

  -- the next mount point has room for a use more
  pub pinned_fits : length moved ≤ most_counted
      → list_all (λ (point : Location). point_has_room (most_counted - length moved) old (Some point)) (taken_of moved)
      ≡ true → uses_shown (inode_of (get_or moved i d).to.node) before < most_counted
  pinned_fits fits room =
      let point = (get_or moved i d).to in
      let size : length (taken_of (take i moved)) ≡ i =
      length-map (take i moved) place ∙ length-take-le i moved (omega (arith, less)) in
      pin_room (taken_of (take i moved)) point old (length moved) (omega (arith, size, less)) fits
      (among_from_list_all (λ (other : Location). point_has_room (most_counted - length moved) old (Some other))
      (taken_of moved) room point (among-map place moved (get_or moved i d) (at moved i less))) so_far

  pub pinned_next : {after : List Shown} → after ≡ pinned_by before (get_or moved i d).to
      → after ≡ folded pinned_by old (taken_of (take (i + 1) moved))
  pinned_next step = step ∙ ap (λ all. pinned_by all (get_or moved i d).to) so_far
      ∙ sym (ap (folded pinned_by old) (map_more place moved i d less)
      ∙ folded_more pinned_by (taken_of (take i moved)) (get_or moved i d).to old)

pub unpinned_once : (point : Option Location) (all : List Shown)
    → unpinned_at point all ≡ folded unpinned_by all (option_to_list point)
unpinned_once None all = refl
unpinned_once (Some point) all = refl

pub unpinned_next : (moved : List Moved) (old : List Shown) {before after : List Shown} (i : ℕ) (d : Moved)
    → i < length moved
    → before ≡ folded unpinned_by old (left_of (take i moved))
    → after ≡ folded unpinned_by before (option_to_list (get_or moved i d).from)
    → after ≡ folded unpinned_by old (left_of (take (i + 1) moved))
unpinned_next moved old i d less so_far step =
    cc (
      folded_append unpinned_by old (left_of (take i moved)) (option_to_list (get_or moved i d).from),
      flat_map_more
          (λ (one : Moved). option_to_list one.from) [] (take i moved) (get_or moved i d),
      take_more moved i d less,
    )

pub place_next : (most : ℕ) (filesystems : Filesystems) (points : List Point) (i : ℕ) (d : Point) → i < length points
    → list_all (λ (point : Point). point_has_room most (shown filesystems) (Some point.place)) (take i points) ≡ true
    → {n : ℕ} → n ≡ uses_in ((inodes_at filesystems (get_or points i d).place.node.filesystem.count).inode
    (number_of (get_or points i d).place.node)) → n ≤ most
    → list_all (λ (point : Point). point_has_room most (shown filesystems) (Some point.place)) (take (i + 1) points)
    ≡ true
place_next most filesystems points i d less so_far is few =
    let node = (get_or points i d).place.node in
    let same = uses_are_shown node.filesystem.count (number_of node) filesystems in
    list_all_more (λ (point : Point). point_has_room most (shown filesystems) (Some point.place)) points i d less
    ∙ (λ j. so_far j && le-leb (uses_shown (inode_of node) (shown filesystems)) most (omega (arith, is, few, same)) j)
