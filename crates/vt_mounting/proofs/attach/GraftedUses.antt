-- The uses of inodes where mounts come and others move onto them.
use Rattle.std.proofs.Common.{◌≡◌, refl, sym, ap, subst, ◌∙◌, inl, inr, true≢false, ℕ, ◌+◌, nat_eq, eqb-true, Bool, true, false, cond, not, ◌&&◌, ◌||◌, List, [], ◌∷◌, ◌++◌, map, Option, Some, is_some, arith, All, filter, filter_map, flat_map, option_to_list, unwrap_or, ne_eqb}
use Rattle.vt_spec.proofs.Common.{Filesystem, IsWorld, ListsNumbers, Propagation, World, all_locations, and_parts, any_pair, common_steps, cons_option, filesystem_numbered, has_its_root, is_among, is_directory_at, is_directory_node, layers_in, list_all, list_all-append, lookup, map-append, map_alike, map_twice, mount_at, mount_in, named_in, node_at, objects_of_overlay, or_else, root_of, used_in, with_mounts}
use Rattle.vt_mounting.proofs.Common.{Among, AreThere, Exchanges, FilesystemEntry, Filesystems, HasOwnInodes, HasOwnNodes, Inode, IsUnderWay, MountEntry, MovesOnce, WorldValue, all_in_use, among-append_left, among-append_right, among-filter_map, among-from_map, among-map, among_from_all, among_from_list_all, among_numbers, are_ascending, counted, directory_is_there, exchanges_follow, filesystem_seen, filesystems_seen, found_filesystem, inode_at, inodes_seen, is_inode, is_inode_used, is_on, list_all_from_among, location_of, map_same, mount_of, mounts_entered, mounts_in, none_from_among, number_of, one_number_by_numbers, overlays_seen, places_of, times, times_append, world_of, woven}
use Rattle.vt_laws_mounts.proofs.counts.using.MountRoots.{places_stand}
use Rattle.vt_laws_mounts.specs.LettingGo.OneByOne.{let_go_inode_of, let_go_inodes, without_inode}
use Rattle.vt_location.specs.declared.locations.Location.{Location}
use Rattle.vt_location.specs.declared.mounts.Mount.{Mount}
use Rattle.vt_spec.specs.Machine.Mounts as meant
use Rattle.vt_mounting.specs.Detach.Uses.{inode_of, unused_entry}
use Rattle.vt_mounting.proofs.detach.NodesFound.{node_at_home, own_together}
use Rattle.vt_mounting.proofs.detach.Overlaid.{plain_one_among}
use Rattle.vt_mounting.proofs.attach.Beside.{IsBeside}
use Rattle.vt_mounting.specs.Attach.Planned.{Point, is_small, points_left, points_taken, with_points}
use Rattle.vt_mounting.specs.Attach.PlannedUses.{point_seen}
use Rattle.vt_mounting.specs.Attach.Room.{has_small_nodes}
use Rattle.vt_mounting.proofs.attach.AddedUses.{IsFoundIn, gained_by, mounts_are_gained}
use Rattle.vt_mounting.proofs.attach.AttachedWorlds.{WereAttached, new_found, new_uses_there, there_in}
use Rattle.vt_mounting.proofs.attach.EnteringLemmas.{apart}
use Rattle.vt_mounting.proofs.attach.MovedPoints.{points_are_moved}
use Rattle.vt_mounting.proofs.attach.PlacedUses.{points_are_uses}
use Rattle.vt_mounting.proofs.attach.PlannedCounts.{inodes_of_points}
use Rattle.vt_mounting.proofs.attach.PlannedPoints.{moved_at, number_at, others_stay, left_with_more, stands_then, stood, taken_with_more}

-- What is in use stays

used_stays : {after : World ℕ} → IsWorld nat_eq after → (inode : Inode)
    → is_some ((filesystem_numbered nat_eq after inode.0).files.tree.node inode.1) ≡ true
    → (f : Filesystem ℕ) → Among f after.filesystems → let_go_inode_of after inode f ≡ f
used_stays {after} is inode there f m =
    ap (λ b. cond b (record f { files = without_inode inode.1 f.files }) f) (by (nat_eq f.number inode.0) refl)
  where
    listed : nat_eq f.number inode.0 ≡ true → is_among nat_eq inode.1 f.files.numbers ≡ true
    listed e =
        among_from_all (λ (g : Filesystem ℕ). ListsNumbers nat_eq g.files) after.filesystems is.files.numbers f m inode.1
        ∙ ap (λ (g : Filesystem ℕ). is_some (g.files.tree.node inode.1))
        (sym (found_filesystem after.filesystems is.files.one_filesystem f m))
        ∙ ap (λ n. is_some ((filesystem_numbered nat_eq after n).files.tree.node inode.1)) (eqb-true f.number inode.0 e)
        ∙ there

    used : nat_eq f.number inode.0 ≡ true → is_inode_used after f inode.1 ≡ true
    used e = among_from_list_all (is_inode_used after f) f.files.numbers
        (among_from_all (λ (g : Filesystem ℕ). list_all (is_inode_used after g) g.files.numbers
        ≡ true) after.filesystems (all_in_use after is).inodes f m)
        inode.1 (among_numbers inode.1 f.files.numbers (listed e))

    by : (b : Bool) → nat_eq f.number inode.0 ≡ b → (b && not (is_inode_used after f inode.1)) ≡ false
    by false e = refl
    by true e = ap not (used e)

pub none_let_go : (after : World ℕ) → IsWorld nat_eq after → (lost : List Inode) → ((inode : Inode) → Among inode lost
    → is_some ((filesystem_numbered nat_eq after inode.0).files.tree.node inode.1) ≡ true)
    → let_go_inodes after lost ≡ after
none_let_go after is [] there = refl
none_let_go after is (inode ∷ lost) there = ap (λ (world : World ℕ). let_go_inodes world lost)
    (ap (λ filesystems. record after { filesystems = filesystems })
    (map_same (let_go_inode_of after inode) after.filesystems (used_stays is inode (there inode (inl refl)))))
    ∙ none_let_go after is lost (λ other m. there other (inr m))

-- The inode at a mount point of code is the definitions'

point_shown : (world : World ℕ) → All HasOwnNodes world.filesystems → (point : Location)
    → is_small point ≡ true → is_directory_at nat_eq world (location_of point) ≡ true
    → (mount_at nat_eq world (location_of point)).filesystem ≡ counted point.node.filesystem.count
point_shown world own point small directory =
    node_at_home world own (mount_at nat_eq world (location_of point)).filesystem point.node small
    (directory_is_there (node_at nat_eq world (location_of point)) directory)

-- these filesystems, and the overlays of the code's world
abbrev pub beside_overlays : WorldValue → Filesystems → List (Filesystem ℕ)
beside_overlays value base = woven (filesystems_seen base) (overlays_seen value.overlays)

-- their inodes are their own
pub own_beside : (value : WorldValue) → IsBeside value → (base : Filesystems) → All HasOwnInodes base
    → All HasOwnNodes (beside_overlays value base)
own_beside value whole base own = own_together base own (overlays_seen value.overlays) whole.own_nodes

-- and each of them is among both
base_among : (value : WorldValue) → IsBeside value → (base : Filesystems) (entry : FilesystemEntry) → Among entry base
    → Among (filesystem_seen entry) (beside_overlays value base)
base_among value whole base entry m = plain_one_among (record value { filesystems = base }) whole.merged entry m

-- Mounts that come behind others, which get other mount points

abbrev number_of_mount : meant.Mount ℕ → ℕ
number_of_mount mount = mount.number

-- a mount at its new mount point, with its new type
abbrev pub changed_at : List Point → List (ℕ × Propagation ℕ) → meant.Mount ℕ → meant.Mount ℕ
changed_at points kinds mount = record mount {
  mount_point = or_else (lookup (nat_eq mount.number) (map point_seen points)) mount.mount_point;
  propagation = unwrap_or (lookup (nat_eq mount.number) kinds) mount.propagation;
}

module _ (points : List Point) (kinds : List (ℕ × Propagation ℕ)) where
  numbers_alike : (mounts back : List (meant.Mount ℕ))
      → map number_of_mount (map (changed_at points kinds) mounts ++ back) ≡ map number_of_mount (mounts ++ back)
  numbers_alike [] back = refl
  numbers_alike (mount ∷ rest) back = ap (λ numbers. mount.number ∷ numbers) (numbers_alike rest back)

  shows_alike : (number : ℕ) (mounts back : List (meant.Mount ℕ))
      → (mount_in nat_eq (map (changed_at points kinds) mounts ++ back) number).filesystem
      ≡ (mount_in nat_eq (mounts ++ back) number).filesystem
  shows_alike number [] back = refl
  shows_alike number (mount ∷ rest) back = grind (arith, common_steps, shows_alike number rest back)

  -- types are in the way of nothing
  roots_alike : (mounts back : List (meant.Mount ℕ)) → map root_of (map (moved_at points) mounts ++ back) ≡ map root_of
      (map (changed_at points kinds) mounts ++ back)
  roots_alike [] back = refl
  roots_alike (mount ∷ rest) back = ap (λ list. root_of mount ∷ list) (roots_alike rest back)

  points_alike : (mounts back : List (meant.Mount ℕ))
      → filter_map (λ (mount : meant.Mount ℕ). mount.mount_point) (map (moved_at points) mounts ++ back)
      ≡ filter_map (λ (mount : meant.Mount ℕ). mount.mount_point) (map (changed_at points kinds) mounts ++ back)
  points_alike [] back = refl
  points_alike (mount ∷ rest) back = ap (cons_option (moved_at points mount).mount_point) (points_alike rest back)

found_first : (number : ℕ) (mounts back : List (meant.Mount ℕ))
    → is_among nat_eq number (map number_of_mount mounts) ≡ true
    → mount_in nat_eq (mounts ++ back) number ≡ mount_in nat_eq mounts number
found_first number [] back there = absurd (true≢false (sym there))
found_first number (mount ∷ rest) back there = grind (arith, common_steps, found_first number rest back)

-- The world before the attachment, with these filesystems, and the one after it
module _ (value : WorldValue) (base : Filesystems) (master : ℕ → Option ℕ) (copies : List Mount)
    (points : List Point) (kinds : List (ℕ × Propagation ℕ)) where
  abbrev pub middle : World ℕ
  middle = record (world_of value) { filesystems = beside_overlays value base }

  abbrev pub after : World ℕ
  after = record (world_of value) {
    filesystems = beside_overlays value base;
    mounts = map (changed_at points kinds) (mounts_in value.mounts) ++ map mount_of copies;
    master = master;
  }

-- Mounts can move and others come: code holds the inodes at the places that are taken and left.
pub record CanEnter (value : WorldValue) (base : Filesystems) (copies : List Mount) (points : List Point)
    (left : List Location) : Type 0 where
  pub whole : IsBeside value
  pub own : All HasOwnInodes base
  pub roots : list_all (has_its_root nat_eq (record (world_of value) { filesystems = beside_overlays value base }))
      (mounts_in value.mounts) ≡ true
  pub once : MovesOnce (mounts_in value.mounts) (map point_seen points)
  pub left_are : map location_of left ≡ points_left points value.mounts
  pub left_small : list_all is_small left ≡ true
  pub taken_small : list_all is_small (points_taken points value.mounts) ≡ true
  pub slots : list_all has_small_nodes copies ≡ true
  pub ascending : are_ascending (mounts_in value.mounts ++ map mount_of copies) ≡ true

module _ {value : WorldValue} {base : Filesystems} {copies : List Mount} {points : List Point} {left : List Location}
    (can : CanEnter value base copies points left) (master : ℕ → Option ℕ) (kinds : List (ℕ × Propagation ℕ))
    (is_world : IsUnderWay (after value base master copies points kinds)) where
  open can use {whole, own, roots, once, left_are, left_small, taken_small, slots, ascending}

  abbrev first_world : World ℕ
  first_world = middle value base master copies points kinds

  abbrev last_world : World ℕ
  last_world = after value base master copies points kinds

  -- where types are still as they were
  abbrev untyped_world : World ℕ
  untyped_world = record first_world {
    mounts = map (moved_at points) (mounts_in value.mounts) ++ map mount_of copies;
    master = master;
  }

  -- where they have come, and none has moved yet
  abbrev come_world : World ℕ
  come_world = record first_world {
    mounts = mounts_in value.mounts ++ map mount_of copies;
    master = master;
  }

  abbrev taken : List Location
  taken = points_taken points value.mounts

  abbrev entries : List MountEntry
  entries = value.mounts ++ map unused_entry copies

  all_stand : list_all (is_on (mounts_in value.mounts))
      (all_locations (world_of value) ++ places_of (mounts_in value.mounts)) ≡ true
  all_stand = places_stand (world_of value) whole.mounts_stand whole.locations_stand

  come_as_after : inode_at come_world ≡ inode_at last_world
  come_as_after = λ i. λ location. (
    sym (shows_alike points kinds location.mount (mounts_in value.mounts) (map mount_of copies)) i,
    location.node,
  )

  one_come : any_pair (λ (a b : meant.Mount ℕ). nat_eq a.number b.number) come_world.mounts ≡ false
  one_come = one_number_by_numbers last_world.mounts come_world.mounts
      (sym (numbers_alike points kinds (mounts_in value.mounts) (map mount_of copies))) is_world.mounts.one_number

  -- the inodes at the mount points that are taken

  taken_directory : (point : Location) → Among point taken → is_directory_at nat_eq last_world (location_of point) ≡ true
  taken_directory point m =
      let stands = stands_then value.mounts points once point m in
      let was = among-from_map (moved_at points) (mounts_in value.mounts) stands.0 stands.1 in
      let at : (changed_at points kinds was.0).mount_point ≡ Some (location_of point) =
      ap (λ (mount : meant.Mount ℕ). mount.mount_point) (sym was.2) ∙ stands.2 in
      let root = and_parts _ _ (among_from_list_all (has_its_root nat_eq last_world) last_world.mounts is_world.roots
      (changed_at points kinds was.0)
      (among-append_left (map (changed_at points kinds) (mounts_in value.mounts)) (map mount_of copies)
      (changed_at points kinds was.0) (among-map (changed_at points kinds) (mounts_in value.mounts) was.0 was.1))) in
      (and_parts _ _ (subst (λ o. list_all (is_directory_at nat_eq last_world) (option_to_list o) ≡ true) at root.1)).0

  taken_inode : (point : Location) → Among point taken → inode_at come_world (location_of point) ≡ inode_of point.node
  taken_inode point m = (λ i. come_as_after i (location_of point)) ∙ (λ i. (
    point_shown last_world (own_beside value whole base own) point (among_from_list_all is_small taken taken_small point m)
        (taken_directory point m) i,
    number_of point.node,
  ))

  -- and at those that are left

  left_stood : (point : Location) → Among point left → (mount : meant.Mount ℕ) × Among mount (mounts_in value.mounts)
      × (mount.mount_point ≡ Some (location_of point))
  left_stood point m = stood value.mounts points once (location_of point)
      (subst (Among (location_of point)) left_are (among-map location_of left point m))

  left_directory : (point : Location) → Among point left → is_directory_at nat_eq first_world (location_of point) ≡ true
  left_directory point m =
      let stands = left_stood point m in
      let root = and_parts _ _ (among_from_list_all (has_its_root nat_eq first_world)
      (mounts_in value.mounts) roots stands.0 stands.1) in
      (and_parts _ _ (subst (λ o. list_all (is_directory_at nat_eq first_world) (option_to_list o)
      ≡ true) stands.2 root.1)).0

  left_on : (point : Location) → Among point left → is_on (mounts_in value.mounts) (location_of point) ≡ true
  left_on point m =
      let stands = left_stood point m in
      among_from_list_all (is_on (mounts_in value.mounts))
      (all_locations (world_of value) ++ places_of (mounts_in value.mounts)) all_stand (location_of point)
      (among-append_right (all_locations (world_of value)) (places_of (mounts_in value.mounts)) (location_of point)
      (among-append_right (map (meant.root_of {N = ℕ}) (mounts_in value.mounts)) _ (location_of point)
      (among-filter_map (λ (x : meant.Mount ℕ). x.mount_point) (mounts_in value.mounts) stands.0
      (location_of point) stands.1 stands.2)))

  left_shown : (point : Location) → Among point left
      → (mount_at nat_eq first_world (location_of point)).filesystem ≡ counted point.node.filesystem.count
  left_shown point m =
      point_shown first_world (own_beside value whole base own) point
      (among_from_list_all is_small left left_small point m)
      (left_directory point m)

  left_inode : (point : Location) → Among point left → inode_at come_world (location_of point) ≡ inode_of point.node
  left_inode point m = (λ i. (
    (found_first (counted point.mount.count) (mounts_in value.mounts) (map mount_of copies)
        (left_on point m) i).filesystem,
    number_of point.node,
  )) ∙ (λ i. (left_shown point m i, number_of point.node))

  -- what they use more and less

  gained_are : map (inode_at come_world) (map location_of (points_taken points entries)) ≡ inodes_of_points taken
  gained_are =
      cc (
        taken_with_more value.mounts points once (map unused_entry copies),
        map_twice (inode_at come_world) location_of
            taken,
        map_alike (λ (point : Location). inode_at come_world (location_of point)) (λ (point : Location). inode_of
            point.node) taken taken_inode,
      )

  lost_are : map (inode_at come_world) (points_left points entries) ≡ inodes_of_points left
  lost_are =
      ap (map (inode_at come_world)) (left_with_more value.mounts points once (map unused_entry copies) ∙ sym left_are)
      ∙ map_twice (inode_at come_world) location_of left
      ∙ map_alike (λ (point : Location). inode_at come_world (location_of point))
      (λ (point : Location). inode_of point.node) left left_inode

  copies_stay : map (moved_at points) (map mount_of copies) ≡ map mount_of copies
  copies_stay = others_stay points (map mount_of copies) (λ mount m.
      none_from_among (λ (point : Point). nat_eq mount.number (number_at point)) points (λ point n.
      let there = among_from_list_all (λ (seen : ℕ × meant.Location ℕ). is_among nat_eq seen.0
      (map number_of_mount (mounts_in value.mounts))) (map point_seen points)
      once.there (point_seen point) (among-map point_seen points point n) in
      let from = among-from_map number_of_mount (mounts_in value.mounts) (number_at point)
      (among_numbers (number_at point) (map number_of_mount (mounts_in value.mounts)) there) in
      let less = apart (mounts_in value.mounts) (map mount_of copies) ascending from.0 mount from.1 m in
      let is : number_at point ≡ from.0.number = from.2 in
      ne_eqb mount.number (number_at point) (λ same. absurd (omega (arith, less, is, same)))))

  mounts_then : mounts_in (with_points points entries) ≡ untyped_world.mounts
  mounts_then = points_are_moved entries points ∙ ap (map (moved_at points)) (mounts_entered value.mounts copies)
      ∙ map-append (moved_at points) (mounts_in value.mounts) (map mount_of copies)
      ∙ ap (λ back. map (moved_at points) (mounts_in value.mounts) ++ back) copies_stay

  were_attached : WereAttached last_world (map (changed_at points kinds) (mounts_in value.mounts)) copies
  were_attached = record {
    is_world = is_world;
    after_mounts = refl;
    slots = slots;
    own = own_beside value whole base own;
  }

  -- each copy is found in the world that is left
  copies_found : (mount : Mount) → Among mount copies → IsFoundIn last_world mount
  copies_found = new_found were_attached

  found_come : (mount : Mount) → Among mount copies → IsFoundIn come_world mount
  found_come mount m = record {
    root = (λ i. come_as_after i (meant.root_of (mount_of mount))) ∙ (copies_found mount m).root;
    point = λ point is. (λ i. come_as_after i (location_of point)) ∙ (copies_found mount m).point point is;
  }

  abbrev pub gained : List Inode
  gained = inodes_of_points (points_taken points value.mounts) ++ gained_by copies

  abbrev pub lost : List Inode
  lost = inodes_of_points left

  -- types are no uses
  used_typed : (f : Filesystem ℕ) → used_in nat_eq untyped_world f ≡ used_in nat_eq last_world f
  used_typed f = λ i. f.files.tree.root ∷ (named_in f.files ++ map (λ (location : meant.Location ℕ). location.node)
      (filter (λ (location : meant.Location ℕ). nat_eq f.number
      ((shows_alike points [] location.mount (mounts_in value.mounts) (map mount_of copies)
      ∙ sym (shows_alike points kinds location.mount (mounts_in value.mounts) (map mount_of copies))) i))
      (all_locations (world_of value) ++ roots_alike points kinds (mounts_in value.mounts) (map mount_of copies) i
      ++ points_alike points kinds (mounts_in value.mounts) (map mount_of copies) i))
      ++ layers_in nat_eq last_world f.number ++ flat_map (objects_of_overlay nat_eq f.number) last_world.filesystems)

  pub exchanged_then : (filesystem : ℕ) → Exchanges gained lost filesystem first_world last_world
  exchanged_then filesystem =
      let coming = mounts_are_gained come_world first_world copies found_come refl refl refl one_come all_stand filesystem in
      let moving : Exchanges (inodes_of_points taken) lost filesystem come_world untyped_world =
      subst (λ (list : List Inode). Exchanges list lost filesystem come_world untyped_world) gained_are
      (subst (λ (list : List Inode). Exchanges
      (map (inode_at come_world) (map location_of (points_taken points entries))) list filesystem come_world untyped_world) lost_are
      (subst (λ (mounts : List (meant.Mount ℕ)). Exchanges
      (map (inode_at come_world) (map location_of (points_taken points entries)))
      (map (inode_at come_world) (points_left points entries)) filesystem come_world (with_mounts come_world mounts)) mounts_then
      (points_are_uses come_world entries points (mounts_entered value.mounts copies) one_come filesystem))) in
      let typing : Exchanges (inodes_of_points taken) lost filesystem come_world last_world = record {
        same = moving.same;
        uses = λ number. moving.uses number
            ∙ (λ i. times (nat_eq number) (used_typed (filesystem_numbered nat_eq last_world filesystem) i)
            + times (is_inode filesystem number) lost);
      } in
      let both = exchanges_follow first_world come_world last_world (gained_by copies) []
      (inodes_of_points taken) lost filesystem coming typing in
      record {
        same = both.same;
        uses = λ number.
            let uses = both.uses number in
            let one = times_append (is_inode filesystem number) (gained_by copies) (inodes_of_points taken) in
            let two = times_append (is_inode filesystem number) (inodes_of_points taken) (gained_by copies) in
            omega (arith, uses, one, two);
      }

  pub gained_there : (entry : FilesystemEntry) → Among entry base
      → AreThere (counted entry.count) (inodes_seen entry) gained
  gained_there entry m = list_all-append (λ (inode : Inode). not (nat_eq (counted entry.count) inode.0)
      || is_some ((inodes_seen entry).inode inode.1)) (inodes_of_points taken) (gained_by copies)
      ∙ (λ i. taken_there i && new_uses_there were_attached entry (base_among value whole base entry m) i)
    where
      taken_there : list_all (λ (inode : Inode). not (nat_eq (counted entry.count) inode.0)
          || is_some ((inodes_seen entry).inode inode.1)) (inodes_of_points taken) ≡ true
      taken_there = list_all_from_among (λ (inode : Inode). not (nat_eq (counted entry.count) inode.0)
          || is_some ((inodes_seen entry).inode inode.1)) (inodes_of_points taken) (λ inode n.
          let from = among-from_map (λ (point : Location). inode_of point.node) taken inode n in
          let shown = point_shown last_world (own_beside value whole base own) from.0
          (among_from_list_all is_small taken taken_small from.0 from.1) (taken_directory from.0 from.1) in
          ap (λ (one : Inode). not (nat_eq (counted entry.count) one.0)
          || is_some ((inodes_seen entry).inode one.1)) from.2
          ∙ there_in were_attached entry (base_among value whole base entry m) from.0.node
          (ap (λ number. is_directory_node
          ((filesystem_numbered nat_eq last_world number).files.tree.node (number_of from.0.node))) (sym shown)
          ∙ taken_directory from.0 from.1))

  pub nothing_goes : IsWorld nat_eq last_world → let_go_inodes last_world lost ≡ last_world
  nothing_goes settled = none_let_go last_world settled lost (λ inode n.
      let from = among-from_map (λ (point : Location). inode_of point.node) left inode n in
      ap (λ (one : Inode). is_some ((filesystem_numbered nat_eq last_world one.0).files.tree.node one.1)) from.2
      ∙ ap (λ number. is_some ((filesystem_numbered nat_eq last_world number).files.tree.node (number_of from.0.node)))
      (sym (left_shown from.0 from.1))
      ∙ directory_is_there (node_at nat_eq first_world (location_of from.0)) (left_directory from.0 from.1))
