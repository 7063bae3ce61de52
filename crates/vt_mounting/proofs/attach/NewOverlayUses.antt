-- The uses that the layers of a new overlay are, in the code's world with that overlay, whatever mounts show.
use Rattle.std.proofs.Common.{◌≡◌, refl, sym, ap, subst, ◌∙◌, ⊎_elim, ℕ, suc, ◌+◌, nat_eq, eqb-true, Bool, true, false, cond, not, ◌||◌, List, [], ◌∷◌, ◌++◌, map, filter, flat_map, Option, Some, is_some, None, unwrap_or, arith, slice_get, ne_eqb, append-nil, append_assoc, map-id}
use Rattle.vt_spec.proofs.Common.{Filesystem, Layer, World, common_steps, filesystem_numbered, folded, is_directory_node, layers_in, layers_of, located_in, map-append, map_alike, map_twice, named_in, no_filesystem, node_in, objects_of_overlay, of_overlay}
use Rattle.vt_mounting.proofs.Common.{Among, AreLayers, AreThere, Exchanges, FilesystemEntry, Filesystems, Inode, IsCounted, IsHeld, OverlaysHaveNoUpper, Shown, WorldValue, all_in_use, among-from_map, counted, counted_same, directory_is_there, entry_of, exchanged, inode_of, inode_uses, inodes_seen, is_inode, layer_count, layer_seen, list_all_from_among, no_entry, no_upper_is_in_any, number_numbered, overlay_of_store, overlay_seen, pinned_if, shown, times, times_append, uses_are_exchanged_beside_overlays, world_of, worlds_have_trees}
use Rattle.vt_world.proofs.counting.Lowered.{counts_there}
use Rattle.vt_overlay.specs.declared.merge.layers.LayerRef.{LayerRef}
use Rattle.vt_store.specs.OverlaysValue as stored
use Rattle.vt_mounting.specs.Detach.Stored.{layer_of}
use Rattle.vt_mounting.specs.Detach.Uses.{mounted_if}
use Rattle.vt_mounting.proofs.detach.FilesSeen.{one_entry}
use Rattle.vt_mounting.proofs.detach.Overlaid.{found_plain_one, plain_ones_apart}
use Rattle.vt_mounting.proofs.attach.AttachedWorlds.{inode_is_there}
use Rattle.vt_mounting.proofs.attach.Beside.{IsReadOnly}
use Rattle.vt_mounting.proofs.attach.NewOverlay.{all_last}
use Rattle.vt_mounting.proofs.attach.OverlaysNew.{with_layer}
use Rattle.vt_mounting.proofs.attach.NewBase.{flat_before, found_before}
use Rattle.vt_mounting.proofs.attach.NewFilesystems.{filesystem_counted}
use Rattle.vt_mounting.proofs.detach.LowerKept.{layers_are, no_objects, no_upper_seen}

-- the directory of a layer
abbrev pub directory_in : Layer ℕ → Inode
directory_in layer = (layer.filesystem, layer.directory)

-- each layer in a filesystem is one use of its directory
layers_use : (filesystem number : ℕ) (layers : List (Layer ℕ))
    → times (nat_eq number) (map (λ (layer : Layer ℕ). layer.directory)
    (filter (λ (layer : Layer ℕ). nat_eq filesystem layer.filesystem) layers))
    ≡ times (is_inode filesystem number) (map directory_in layers)
layers_use filesystem number [] = refl
layers_use filesystem number (first ∷ rest) = grind (arith, common_steps, layers_use filesystem number rest)

flat_last : {B : Type 0} (g : Filesystem ℕ → List B) (filesystems : List (Filesystem ℕ)) (added : Filesystem ℕ)
    → flat_map g (filesystems ++ added ∷ []) ≡ flat_map g filesystems ++ g added
flat_last g [] added = append-nil (g added)
flat_last g (first ∷ rest) added =
    ap (λ list. g first ++ list) (flat_last g rest added) ∙ sym (append_assoc (g first) (flat_map g rest) (g added))

filter_both : {A : Type 0} (test : A → Bool) (xs ys : List A) → filter test (xs ++ ys) ≡ filter test xs ++ filter test ys
filter_both {A = A} test [] ys = refl
filter_both {A = A} test (x ∷ xs) ys = grind (arith, common_steps, filter_both test xs ys)

-- A world with a filesystem more, which has these layers, and no upper one
module _ (world : World ℕ) (added : Filesystem ℕ) {layers : List (Layer ℕ)}
    (layers_are : of_overlay [] layers_of added ≡ layers)
    (no_objects : (number : ℕ) → objects_of_overlay nat_eq number added ≡ []) where
  abbrev pub with_added_last : World ℕ
  with_added_last = record world { filesystems = world.filesystems ++ added ∷ [] }

  layers_then : (number : ℕ) → layers_in nat_eq with_added_last number ≡ layers_in nat_eq world number
      ++ map (λ (layer : Layer ℕ). layer.directory) (filter (λ (layer : Layer ℕ). nat_eq number layer.filesystem) layers)
  layers_then number = grind (arith, common_steps, map-append)

  -- an inode has a use more for each of these layers that is there
  pub uses_then : (f : Filesystem ℕ) (number : ℕ)
      → inode_uses world f number + times (is_inode f.number number) (map directory_in layers)
      ≡ inode_uses with_added_last f number
  uses_then f number =
      let test = nat_eq number in
      let front = named_in f.files ++ located_in nat_eq world f.number in
      let old = layers_in nat_eq world f.number in
      let own = map (λ (layer : Layer ℕ). layer.directory)
      (filter (λ (layer : Layer ℕ). nat_eq f.number layer.filesystem) layers) in
      let objects = flat_map (objects_of_overlay nat_eq f.number) world.filesystems in
      let one = times_append test (front ++ old) objects in
      let two = times_append test front old in
      let three = times_append test (front ++ (old ++ own)) objects in
      let four = times_append test front (old ++ own) in
      let five = times_append test old own in
      let six = layers_use f.number number layers in
      let sum : cond (test f.files.tree.root) 1 0 + times test ((front ++ old) ++ objects)
      + times (is_inode f.number number) (map directory_in layers)
      ≡ cond (test f.files.tree.root) 1 0 + times test ((front ++ (old ++ own)) ++ objects) =
      omega (arith, one, two, three, four, five, six) in
      sum ∙ (λ i. cond (test f.files.tree.root) 1 0 + times test ((front ++ sym (layers_then f.number) i)
      ++ sym (flat_before (objects_of_overlay nat_eq f.number) world.filesystems added (no_objects f.number)) i))

  pub layers_are_gained : (number : ℕ) → nat_eq number added.number ≡ false
      → Exchanges (map directory_in layers) [] number world with_added_last
  layers_are_gained number other = record {
    same = same;
    uses = λ n.
        let gained = uses_then (filesystem_numbered nat_eq world number) n in
        let at = number_numbered number world.filesystems in
        let first : inode_uses world (filesystem_numbered nat_eq world number) n
        + times (is_inode number n) (map directory_in layers)
        ≡ inode_uses with_added_last (filesystem_numbered nat_eq world number) n =
        subst (λ m. inode_uses world (filesystem_numbered nat_eq world number) n
        + times (is_inode m n) (map directory_in layers)
        ≡ inode_uses with_added_last (filesystem_numbered nat_eq world number) n) at gained in
        let zero : inode_uses with_added_last (filesystem_numbered nat_eq world number) n
        ≡ inode_uses with_added_last (filesystem_numbered nat_eq world number) n + 0 = omega arith in
        first ∙ zero ∙ ap (λ f. inode_uses with_added_last f n + 0) (sym same);
  }
    where
      same : filesystem_numbered nat_eq with_added_last number ≡ filesystem_numbered nat_eq world number
      same = ap (λ found. unwrap_or found (no_filesystem number)) (found_before world.filesystems added number other)

  -- and a filesystem as many layers more
  pub layers_more_there : (number : ℕ) → layer_count with_added_last number
      ≡ layer_count world number + times (λ (layer : Layer ℕ). nat_eq number layer.filesystem) layers
  layers_more_there number = grind (arith, common_steps, times_append)

among_place : (list : List LayerRef) (layer : LayerRef) → Among layer list
    → (place : ℕ) × (slice_get list place ≡ Some layer)
among_place [] layer m = absurd m
among_place (first ∷ rest) layer m = ⊎_elim (λ same. (0, ap Some (sym same)))
    (λ later. let there = among_place rest layer later in (suc there.0, there.1)) m

-- The code's world with a new overlay behind all other filesystems
abbrev pub overlay_last : WorldValue → Filesystems → stored.OverlayEntry → World ℕ
overlay_last value base entry = record (world_of value) {
  filesystems = (world_of value).filesystems ++ overlay_seen (overlay_of_store base entry) ∷ [];
}

-- What a store keeps of plain filesystems once the layers are held
abbrev pub held_by : List Inode → Shown → Shown
held_by layers one = record one {
  inodes = folded (pinned_if (counted one.count)) one.inodes layers;
  mounts = one.mounts + times (λ (inode : Inode). nat_eq inode.0 (counted one.count)) layers;
}

-- An overlay is new, and code holds its layers.
pub record LayersHeld (value : WorldValue) (base : Filesystems) (entry : stored.OverlayEntry) : Type 0 where
  pub whole : IsHeld value
  pub are : AreLayers value.filesystems entry.overlay.lowers
  pub no_upper : entry.above ≡ None
  pub count_is : entry.count ≡ value.next
  pub held : shown base ≡ map (held_by (map layer_of entry.overlay.lowers)) (shown value.filesystems)

-- whose layers are kept there
module _ {value : WorldValue} {base : Filesystems} {entry : stored.OverlayEntry} (it : LayersHeld value base entry) where
  open it use {whole, are, no_upper, count_is}

  abbrev world : World ℕ
  world = world_of value

  abbrev over : Filesystem ℕ
  over = overlay_seen (overlay_of_store base entry)

  abbrev layers : List Inode
  layers = map layer_of entry.overlay.lowers

  gained_are : map directory_in (map layer_seen entry.overlay.lowers) ≡ layers
  gained_are = map_twice directory_in layer_seen entry.overlay.lowers

  pub no_upper_with_it : OverlaysHaveNoUpper (overlay_last value base entry)
  no_upper_with_it = all_last IsReadOnly world.filesystems over whole.overlays.read_only
      (no_upper_seen entry no_upper)

  apart_from_it : (was : FilesystemEntry) → Among was value.filesystems
      → nat_eq (counted was.count) (counted entry.count) ≡ false
  apart_from_it was m =
      let low = filesystem_counted value whole was m in
      ne_eqb (counted was.count) (counted entry.count) (λ same. absurd (omega (arith, low, same, count_is)))

  -- each layer is there
  pub layers_there : (was : FilesystemEntry) → Among was value.filesystems
      → AreThere (counted was.count) (inodes_seen was) (map layer_of entry.overlay.lowers)
  layers_there was m = list_all_from_among test layers (λ inode n.
      let from = among-from_map layer_of entry.overlay.lowers inode n in
      ap test from.2 ∙ by from.0 from.1 (nat_eq (counted was.count) (counted from.0.directory.filesystem.count)) refl)
    where
      test : Inode → Bool
      test inode = not (nat_eq (counted was.count) inode.0) || is_some ((inodes_seen was).inode inode.1)

      by : (layer : LayerRef) → Among layer entry.overlay.lowers → (b : Bool)
          → nat_eq (counted was.count) (counted layer.directory.filesystem.count) ≡ b
          → (not b || is_some ((inodes_seen was).inode (inode_of layer.directory))) ≡ true
      by layer n false e = refl
      by layer n true e =
          let at = among_place entry.overlay.lowers layer n in
          let same : was.count ≡ layer.directory.filesystem.count =
          counted_same was.count layer.directory.filesystem.count (eqb-true _ _ e) in
          inode_is_there ((inodes_seen was).inode (inode_of layer.directory))
          (directory_is_there (node_in ((inodes_seen was).inode (inode_of layer.directory)))
          (ap (λ (o : Option FilesystemEntry). is_directory_node (node_in ((inodes_seen (unwrap_or o
          (no_entry layer.directory.filesystem.count))).inode (inode_of layer.directory))))
          (sym (ap (entry_of value.filesystems) (sym same)
          ∙ one_entry value.filesystems (plain_ones_apart value whole) was m)) ∙ (are at.0 layer at.1).directory))

  -- and counted as a use
  pub counted_with_layers : (was : FilesystemEntry) → Among was value.filesystems
      → IsCounted (overlay_last value base entry) (filesystem_numbered nat_eq (overlay_last value base entry) (counted was.count))
      (exchanged (counted was.count) (map layer_of entry.overlay.lowers) [] (inodes_seen was))
  counted_with_layers was m =
      uses_are_exchanged_beside_overlays world (overlay_last value base entry) layers [] (counted was.count) (inodes_seen was)
      (worlds_have_trees world whole.in_world) (all_in_use world whole.in_world).inodes
      (no_upper_is_in_any (overlay_last value base entry) (counted was.count) no_upper_with_it)
      (subst (λ (list : List Inode). Exchanges list [] (counted was.count) world (overlay_last value base entry)) gained_are
      (layers_are_gained world over {layers = map layer_seen entry.overlay.lowers} (layers_are entry no_upper) (no_objects entry no_upper base)
      (counted was.count)
      (apart_from_it was m)))
      (subst (λ f. IsCounted world f (inodes_seen was)) (sym (found_plain_one value whole was m))
      (counts_there value whole was m)) (layers_there was m)

pub held_each : (layers : List Inode) (all : List Shown) → folded with_layer all layers ≡ map (held_by layers) all
held_each [] all = sym (map-id all)
    ∙ map_alike (λ (one : Shown). one) (held_by []) all (λ one m. λ i. record one { mounts = same one.mounts i })
  where
    same : (n : ℕ) → n ≡ n + 0
    same n = omega arith
held_each (inode ∷ rest) all = held_each rest (with_layer all inode)
    ∙ ap (map (held_by rest)) (map_twice (mounted_if inode.0) pin all)
    ∙ map_twice (held_by rest) (λ (one : Shown). mounted_if inode.0 (pin one)) all
    ∙ map_alike (λ (one : Shown). held_by rest (mounted_if inode.0 (pin one))) (held_by (inode ∷ rest)) all
    (λ one m. by one (nat_eq inode.0 (counted one.count)))
  where
    pin : Shown → Shown
    pin one = record one { inodes = pinned_if (counted one.count) one.inodes inode }

    by : (one : Shown) (b : Bool) → held_by rest (cond b (record (pin one) { mounts = one.mounts + 1 }) (pin one))
        ≡ record one {
          inodes = folded (pinned_if (counted one.count)) (pinned_if (counted one.count) one.inodes inode) rest;
          mounts = one.mounts + (cond b 1 0 + times (λ (other : Inode). nat_eq other.0 (counted one.count)) rest);
        }
    by one true = λ i. record (held_by rest (pin one)) {
      mounts = more one.mounts (times (λ (other : Inode). nat_eq other.0 (counted one.count)) rest) i;
    }
      where
        more : (n k : ℕ) → n + 1 + k ≡ n + (1 + k)
        more n k = omega arith
    by one false = λ i. record (held_by rest (pin one)) {
      mounts = none one.mounts (times (λ (other : Inode). nat_eq other.0 (counted one.count)) rest) i;
    }
      where
        none : (n k : ℕ) → n + k ≡ n + (0 + k)
        none n k = omega arith
