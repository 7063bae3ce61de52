-- The inodes that the copies of an unshare use are there, and are found through the copies as through the originals.
use Rattle.std.proofs.Common.{◌≡◌, refl, sym, ap, subst, ◌∙◌, inl, inr, ℕ, nat_eq, eqb-true, Bool, true, false, not, ◌&&◌, ◌||◌, List, [], ◌∷◌, ◌++◌, map, Option, Some, None, option_map, is_some, arith}
use Rattle.vt_spec.proofs.Common.{Fresh, Task, TaskName, World, and_parts, common_steps, copied_mount, filesystem_numbered, has_its_root, holds_of, is_located_well, is_there, list_all, location_on_copy, mount_at, mount_numbered, same_Some}
use Rattle.vt_spec.specs.Machine.Mounts as meant
use Rattle.vt_mounting.proofs.Common.{Among, AreThere, FilesystemEntry, Inode, WorldValue, among-append_right, among-filter, among-from_filter, among-from_map, among-map, among_from_list_all, counted, directory_is_there, found_itself, inode_at, inodes_seen, is_small_node, location_of, mount_of, number_of, places_of, times, world_of}
use Rattle.vt_location.specs.declared.locations.Location.{Location}
use Rattle.vt_location.specs.declared.locations.NodeRef.{NodeRef}
use Rattle.vt_location.specs.declared.mounts.Mount.{Mount}
use Rattle.vt_laws_mounts.proofs.namespaces.Unsharing.{parent_of}
use Rattle.vt_mounting.proofs.detach.Detached.{inodes_of_point}
use Rattle.vt_mounting.specs.Attach.Room.{has_small_nodes, point_is_small}
use Rattle.vt_mounting.proofs.attach.AddedBegins.{nothing_moves, with_added}
use Rattle.vt_mounting.proofs.attach.AddedUses.{IsFoundIn, gained_by, gained_uses}
use Rattle.vt_mounting.proofs.detach.MidwayBegins.{point_is_located}
use Rattle.vt_mounting.proofs.detach.NodesFound.{at_home}
use Rattle.vt_mounting.proofs.detach.Overlaid.{found_plain_one}
use Rattle.vt_mounting.proofs.attach.UnsharedTasks.{Unsharing, added, copied, copy, copy_is, from_spec, new_namespace, one_number, tasks_moved, to_spec}

module _ {value : WorldValue} {name : TaskName} {task : Task ℕ} {fresh : Fresh ℕ} (it : Unsharing value name task fresh)
    (copies : List Mount) (same : map mount_of copies ≡ added it) (slots : list_all has_small_nodes copies ≡ true) where
  open it use {whole}

  abbrev world : World ℕ
  world = world_of value

  abbrev base : World ℕ
  base = with_added value (added it) (tasks_moved it)

  abbrev originals : List (meant.Mount ℕ)
  originals = copied it

  abbrev number_of_copy : ℕ → ℕ
  number_of_copy = copy it

  abbrev copy_of : meant.Mount ℕ → meant.Mount ℕ
  copy_of = copied_mount number_of_copy (new_namespace it)

  in_added : (mount : Mount) → Among mount copies → Among (mount_of mount) (added it)
  in_added mount m = subst (Among (mount_of mount)) same (among-map mount_of copies mount m)

  original : (mount : Mount) → Among mount copies
      → (x : meant.Mount ℕ) × Among x originals × (mount_of mount ≡ copy_of x)
  original mount m = among-from_map copy_of originals (mount_of mount) (in_added mount m)

  was_there : (x : meant.Mount ℕ) → Among x originals
      → Among x world.mounts × (holds_of (nat_eq task.namespace) x.namespace ≡ true)
  was_there x m = among-from_filter
      (λ (y : meant.Mount ℕ). holds_of (nat_eq task.namespace) y.namespace) world.mounts x m

  -- roots

  root_there : (mount : Mount) → Among mount copies
      → is_there nat_eq world (counted mount.root.filesystem.count) (number_of mount.root) ≡ true
  root_there mount m =
      let from = original mount m in
      let root =
      (and_parts _ _ (among_from_list_all (has_its_root nat_eq world) world.mounts whole.in_world.roots from.0
      (was_there from.0 from.1).0)).0 in
      ap (λ (x : meant.Mount ℕ). is_some
      ((filesystem_numbered nat_eq world x.filesystem).files.tree.node x.root)) from.2
      ∙ directory_is_there ((filesystem_numbered nat_eq world from.0.filesystem).files.tree.node from.0.root) root

  -- mount points

  pub record IsPointOf (point : Location) : Type 0 where
    pub shown : (mount_at nat_eq base (location_of point)).filesystem ≡ counted point.node.filesystem.count
    pub there : is_there nat_eq world (counted point.node.filesystem.count) (number_of point.node) ≡ true

  point_is : (x : meant.Mount ℕ) → Among x originals → (o : Option (meant.Location ℕ)) → x.mount_point ≡ o
      → (point : Location) → Some (location_of point) ≡ option_map (location_on_copy number_of_copy) o
      → is_small_node point.node ≡ true → IsPointOf point
  point_is x m None e point at small = absurd cc
  point_is x m (Some place) e point at small =
      let was = was_there x m in
      let is : location_of point ≡ location_on_copy number_of_copy place = same_Some (location_of point)
      (location_on_copy number_of_copy place) at in
      let parent = parent_of world whole.in_world.mounts x (to_spec world.mounts x was.0) place e in
      let parent_was = from_spec world.mounts parent.parent parent.there in
      let inside : Among parent.parent originals = among-filter
      (λ (y : meant.Mount ℕ). holds_of (nat_eq task.namespace) y.namespace) world.mounts parent.parent
      parent_was (ap (holds_of (nat_eq task.namespace)) (sym parent.namespace) ∙ was.1) in
      let found_parent : mount_numbered nat_eq world place.mount ≡ parent.parent =
      ap (mount_numbered nat_eq world) (sym parent.number)
      ∙ found_itself world.mounts whole.in_world.mounts.one_number parent.parent parent_was in
      let through : (mount_at nat_eq base (location_of point)).filesystem ≡ (mount_at nat_eq world place).filesystem =
      ap (λ (l : meant.Location ℕ). (mount_at nat_eq base l).filesystem) is
      ∙ ap (λ n. (mount_numbered nat_eq base (number_of_copy n)).filesystem) (sym parent.number)
      ∙ ap (λ (y : meant.Mount ℕ). y.filesystem) (copy_is it parent.parent inside)
      ∙ ap (λ (y : meant.Mount ℕ). y.filesystem) (sym found_parent) in
      let well : is_located_well nat_eq world place ≡ true = (and_parts (is_located_well nat_eq world place) true
      (point_is_located {inside = λ o. false} (record {
        whole = whole;
        moves = nothing_moves value;
        nowhere_stays = refl;
      }) [] x was.0 (Some place)
      e)).0 in
      let there : is_there nat_eq world (mount_at nat_eq world place).filesystem (number_of point.node) ≡ true =
      ap (λ (l : meant.Location ℕ). is_there nat_eq world (mount_at nat_eq world place).filesystem l.node) is
      ∙ (and_parts _ _ well).1 in
      let shown_in : (mount_at nat_eq world place).filesystem ≡ counted point.node.filesystem.count =
      at_home whole (mount_at nat_eq world place).filesystem point.node small there in
      record {
        shown = through ∙ shown_in;
        there = ap (λ f. is_there nat_eq world f (number_of point.node)) (sym shown_in) ∙ there;
      }

  point_of_copy : (mount : Mount) → Among mount copies → {point : Location} → mount.mount_point ≡ Some point
      → IsPointOf point
  point_of_copy mount m {point} e =
      let from = original mount m in
      point_is from.0 from.1 from.0.mount_point refl point
      (sym (ap (option_map location_of) e) ∙ ap (λ (x : meant.Mount ℕ). x.mount_point) from.2)
      (subst (λ o. point_is_small o ≡ true) e
      (and_parts (is_small_node mount.root) _ (among_from_list_all has_small_nodes copies slots mount m)).1)

  copy_found : (mount : Mount) → Among mount copies → IsFoundIn base mount
  copy_found mount m = record {
    root = ap (λ (x : meant.Mount ℕ). (x.filesystem, number_of mount.root))
        (found_itself base.mounts (one_number it) (mount_of mount)
        (among-append_right world.mounts (added it) (mount_of mount) (in_added mount m)));
    point = λ point e. ap (λ f. (f, number_of point.node)) (point_of_copy mount m e).shown;
  }

  pub copies_gain : (test : Inode → Bool) → times test (map (inode_at (with_added value (map mount_of copies)
      (tasks_moved it))) (places_of (map mount_of copies))) ≡ times test (gained_by copies)
  copies_gain test = ap (λ all. times test (map (inode_at (with_added value all (tasks_moved it)))
      (places_of (map mount_of copies)))) same ∙ gained_uses base test copies copy_found

  -- each is there

  there_in : (was : FilesystemEntry) → Among was value.filesystems → (node : NodeRef)
      → is_there nat_eq world (counted node.filesystem.count) (number_of node) ≡ true
      → (not (nat_eq (counted was.count) (counted node.filesystem.count))
      || is_some ((inodes_seen was).inode (number_of node))) ≡ true
  there_in was m node there = grind (arith, common_steps, found_plain_one, eqb-true)

  pub copies_there : (was : FilesystemEntry) → Among was value.filesystems
      → AreThere (counted was.count) (inodes_seen was) (gained_by copies)
  copies_there was m = each copies (λ mount n. n)
    where
      test : Inode → Bool
      test inode = not (nat_eq (counted was.count) inode.0) || is_some ((inodes_seen was).inode inode.1)

      both : (xs ys : List Inode) → list_all test xs ≡ true → list_all test ys ≡ true → list_all test (xs ++ ys) ≡ true
      both [] ys a b = b
      both (x ∷ xs) ys a b = let parts = and_parts (test x) (list_all test xs) a in λ i. parts.0 i
          && both xs ys parts.1 b i

      points : (mount : Mount) → Among mount copies → (o : Option Location) → mount.mount_point ≡ o
          → list_all test (inodes_of_point o) ≡ true
      points mount n None e = refl
      points mount n (Some point) e = λ i. there_in was m point.node (point_of_copy mount n e).there i && true

      each : (some : List Mount) → ((mount : Mount) → Among mount some → Among mount copies)
          → AreThere (counted was.count) (inodes_seen was) (gained_by some)
      each [] within = refl
      each (mount ∷ rest) within = λ i. there_in was m mount.root (root_there mount (within mount (inl refl))) i
          && both (inodes_of_point mount.mount_point) (gained_by rest)
          (points mount (within mount (inl refl)) mount.mount_point refl)
          (each rest (λ other n. within other (inr n))) i
