-- What is used of an overlay, and how often: no other overlay has a layer there.
use Rattle.std.proofs.Common.{arith, ◌≡◌, refl, sym, ap, subst, ◌∙◌, true≢false, inl, ⊎_elim, ℕ, nat_eq, nat_lt, eqb-true, Bool, true, false, cond, not, ◌||◌, ◌+◌, List, [], ◌∷◌, ◌++◌, map, filter, filter_map, flat_map, Option, Some, None, is_some, option_to_list, append-nil}
use Rattle.vt_spec.proofs.Found.{found_among}
use Rattle.vt_spec.proofs.Lists.{among_numbers}
use Rattle.vt_spec.proofs.Common.{Among, FileTree, Filesystem, IsWorld, Layer, Location, Mount, Overlay, OverlayInvariants, World, all_locations, among-append, among-from_filter, among-from_filter_map, among-from_flat_map, among-from_map, among_from_all, among_from_list_all, and_true_left, and_true_right, any_pair, common_steps, directory_used, filesystem_numbered, has_its_root, holds_of, is_among, is_directory_at, is_directory_node, is_located_well, is_overlay, is_plain_layer, is_there, layers_in, layers_of, list_all, list_any, list_any-append, located_in, mount_at, mount_numbered, named_in, not-true, objects_of_overlay, of_overlay, or_false_left, or_false_right, overlay_or, root_of, same_truth, upper_object, used_in}
use Rattle.vt_laws_mounts.specs.Counts.Using.{Exchanges, is_inode}
use Rattle.vt_laws_mounts.specs.LettingGo.Counts.{inode_uses, times}
use Rattle.vt_laws_mounts.specs.LettingGo.InUse.{is_inode_used}
use Rattle.vt_laws_mounts.specs.LettingGo.OneByOne.{Inode}
use Rattle.vt_laws_mounts.proofs.letting_go.Lists.{any_counted, flat_map_none, nothing_passes}
use Rattle.vt_laws_mounts.proofs.letting_go.sweeps.OfWorlds.{all_in_use, found_filesystem}
use Rattle.vt_laws_mounts.proofs.letting_go.sweeps.UpperUses.{times_append}
use Rattle.vt_laws_mounts.proofs.letting_go.sweeps.UsesCounted.{used_while_counted}
use Rattle.vt_laws_mounts.proofs.mounts.MountsReplaced.{found_itself}
use Rattle.vt_laws_trees.proofs.layers.layers.LowersWorld.{number_of_filesystem}
use Rattle.vt_laws_trees.proofs.layers.layers.UpperWorld.{overlay_found, overlay_numbers}
use Rattle.vt_laws_trees.proofs.layers.locked.Layers.{plain_layer}
use Rattle.vt_laws_kept.specs.Counts.{LocationsAreExchanged, UnnamedExistWhileLocated, UnnamedUsesAreLocations, locations_on, stays_in}
use Rattle.vt_laws_kept.specs.Kept.{is_unnamed}

-- none pass where none is counted
times_none : {A : Type 0} (test : A → Bool) (list : List A) → list_any test list ≡ false → times test list ≡ 0
times_none test [] e = refl
times_none test (first ∷ list) e =
    grind (arith, common_steps, or_false_left, or_false_right, times_none test list)

-- what is unnamed is no root, and no entry leads to it
pub no_root : (files : FileTree ℕ) (inode : ℕ) → is_unnamed files inode ≡ true → nat_eq inode files.tree.root ≡ false
no_root files inode e =
    or_false_left (nat_eq inode files.tree.root) (is_among nat_eq inode (named_in files)) (not-true _ e)

pub no_name : (files : FileTree ℕ) (inode : ℕ) → is_unnamed files inode ≡ true
    → is_among nat_eq inode (named_in files) ≡ false
no_name files inode e =
    or_false_right (nat_eq inode files.tree.root) (is_among nat_eq inode (named_in files)) (not-true _ e)

module _ (world : World ℕ)
    (one : any_pair (λ (a b : Filesystem ℕ). nat_eq a.number b.number) world.filesystems ≡ false)
    (are : OverlayInvariants nat_eq world) (number : ℕ) (overlay : Overlay ℕ)
    (is : (filesystem_numbered nat_eq world number).overlay ≡ Some overlay) where
  abbrev whole : Filesystem ℕ
  whole = filesystem_numbered nat_eq world number

  -- a layer of another overlay is elsewhere
  pub elsewhere : (merged : Filesystem ℕ) → Among merged world.filesystems → (other : Overlay ℕ)
      → merged.overlay ≡ Some other → (layer : Layer ℕ) → Among layer (layers_of other)
      → nat_eq number layer.filesystem ≡ false
  elsewhere merged m other e layer in_layers = by (nat_eq number layer.filesystem) refl
    where
      plain : is_plain_layer nat_eq world layer ≡ true
      plain = plain_layer world are merged.number other
          (ap (λ (f : Filesystem ℕ). f.overlay) (found_filesystem world.filesystems one merged m) ∙ e) layer in_layers

      by : (b : Bool) → nat_eq number layer.filesystem ≡ b → nat_eq number layer.filesystem ≡ false
      by false f = f
      by true f = absurd (true≢false (sym (and_true_left
          (not (is_overlay (filesystem_numbered nat_eq world layer.filesystem))) _ plain)
          ∙ ap (λ n. not (is_overlay (filesystem_numbered nat_eq world n))) (sym (eqb-true number layer.filesystem f))
          ∙ ap (λ o. not (is_some o)) is))

  no_layer : layers_in nat_eq world number ≡ []
  no_layer = ap (map (λ (layer : Layer ℕ). layer.directory)) (nothing_passes (λ layer. nat_eq number layer.filesystem)
      (flat_map (of_overlay [] layers_of) world.filesystems) (λ layer m.
      let from = among-from_flat_map (of_overlay [] layers_of) world.filesystems layer m in
      by from.0 from.1 layer from.0.overlay refl from.2))
    where
      by : (merged : Filesystem ℕ) → Among merged world.filesystems → (layer : Layer ℕ) → (o : Option (Overlay ℕ))
          → merged.overlay ≡ o → Among layer (overlay_or [] layers_of o) → nat_eq number layer.filesystem ≡ false
      by merged m layer None e n = absurd n
      by merged m layer (Some other) e n = elsewhere merged m other e layer n

  no_object : flat_map (objects_of_overlay nat_eq number) world.filesystems ≡ []
  no_object = flat_map_none (objects_of_overlay nat_eq number) world.filesystems (λ merged m.
      by merged m merged.overlay refl)
    where
      in_upper : (merged : Filesystem ℕ) → Among merged world.filesystems → (other : Overlay ℕ)
          → merged.overlay ≡ Some other → (o : Option (Layer ℕ)) → other.upper ≡ o
          → cond (holds_of (λ layer. nat_eq number layer.filesystem) o)
          (filter_map (λ n. upper_object (other.real n)) merged.files.numbers) [] ≡ []
      in_upper merged m other e None u = refl
      in_upper merged m other e (Some upper) u = ap (λ b. cond b
          (filter_map (λ n. upper_object (other.real n)) merged.files.numbers) []) (elsewhere merged m other e upper
          (subst (λ o. Among upper (option_to_list o ++ option_to_list other.work ++ other.lowers)) (sym u) (inl
          refl)))

      by : (merged : Filesystem ℕ) → Among merged world.filesystems → (o : Option (Overlay ℕ)) → merged.overlay ≡ o
          → overlay_or [] (λ other. cond (holds_of (λ layer. nat_eq number layer.filesystem) other.upper)
          (filter_map (λ n. upper_object (other.real n)) merged.files.numbers) []) o ≡ []
      by merged m None e = refl
      by merged m (Some other) e = in_upper merged m other e other.upper refl

  -- so the root, names and locations use its inodes
  pub used_is : used_in nat_eq world whole
      ≡ whole.files.tree.root ∷ (named_in whole.files ++ located_in nat_eq world number)
  used_is =
      ap (λ n. whole.files.tree.root ∷ (named_in whole.files ++ located_in nat_eq world n ++ layers_in nat_eq world n
      ++ flat_map (objects_of_overlay nat_eq n) world.filesystems)) (number_of_filesystem world number)
      ∙ (λ i. whole.files.tree.root ∷ (named_in whole.files ++ located_in nat_eq world number ++ no_layer i
      ++ no_object i)) ∙ ap (λ rest. whole.files.tree.root ∷ rest)
      (append-nil (named_in whole.files ++ located_in nat_eq world number ++ [])
      ∙ append-nil (named_in whole.files ++ located_in nat_eq world number))

  pub uses_are : (inode : ℕ) → is_unnamed whole.files inode ≡ true
      → inode_uses world whole inode ≡ locations_on world number inode
  uses_are inode e =
      let none = times_none (nat_eq inode) (named_in whole.files) (no_name whole.files inode e) in
      let apart = times_append (nat_eq inode) (named_in whole.files) (located_in nat_eq world number) in
      let at_root : cond (nat_eq inode whole.files.tree.root) 1 0 ≡ 0 =
      ap {B = ℕ} (λ b. cond b 1 0) (no_root whole.files inode e) in
      let first : inode_uses world whole inode ≡ cond (nat_eq inode whole.files.tree.root) 1 0
      + times (nat_eq inode) (named_in whole.files ++ located_in nat_eq world number) =
      ap (times (nat_eq inode)) used_is in
      omega (arith, none, apart, at_root, first)

  pub used_stays : (inode : ℕ) → is_among nat_eq inode (used_in nat_eq world whole) ≡ stays_in world whole inode
  used_stays inode =
      ap (is_among nat_eq inode) used_is
      ∙ ap (λ b. nat_eq inode whole.files.tree.root || b)
      (list_any-append (nat_eq inode) (named_in whole.files) (located_in nat_eq world number))
      ∙ turned (nat_eq inode whole.files.tree.root) (is_among nat_eq inode (named_in whole.files))
      (is_among nat_eq inode (located_in nat_eq world number))
      ∙ ap (λ b. not (is_unnamed whole.files inode) || b)
      (any_counted (nat_eq inode) (located_in nat_eq world number)
      ∙ ap (λ n. nat_lt 0 (locations_on world n inode)) (sym (number_of_filesystem world number)))
    where
      turned : (r n l : Bool) → (r || (n || l)) ≡ (not (not (r || n)) || l)
      turned true n l = refl
      turned false true l = refl
      turned false false l = refl

pub unnamed_uses_are_locations : UnnamedUsesAreLocations
unnamed_uses_are_locations world number overlay inode conditions is unnamed =
    uses_are world conditions.files.one_filesystem conditions.overlays number overlay is inode unnamed

-- What is located exists
module _ (world : World ℕ) (conditions : IsWorld nat_eq world) (number : ℕ) where
  abbrev IsThere : ℕ → Type 0
  IsThere inode = is_there nat_eq world number inode ≡ true

  itself : (mount : Mount ℕ) → Among mount world.mounts → mount_numbered nat_eq world mount.number ≡ mount
  itself = found_itself world.mounts conditions.mounts.one_number

  abbrev points : List (Location ℕ)
  points = filter_map (λ (mount : Mount ℕ). mount.mount_point) world.mounts

  abbrev AtPlace : Location ℕ → Type 0
  AtPlace location = is_there nat_eq world (mount_at nat_eq world location).filesystem location.node ≡ true

  root_there : (mount : Mount ℕ) → Among mount world.mounts → AtPlace (root_of mount)
  root_there mount m =
      let rooted = among_from_list_all (has_its_root nat_eq world) world.mounts conditions.roots mount m in
      ap (λ (other : Mount ℕ). is_there nat_eq world other.filesystem mount.root) (itself mount m)
      ∙ directory_used (filesystem_numbered nat_eq world mount.filesystem).files.tree mount.root
      (and_true_left _ _ rooted)

  point_there : (mount : Mount ℕ) → Among mount world.mounts → (location : Location ℕ)
      → mount.mount_point ≡ Some location → AtPlace location
  point_there mount m location e =
      let rooted = among_from_list_all (has_its_root nat_eq world) world.mounts conditions.roots mount m in
      directory_used (filesystem_numbered nat_eq world (mount_at nat_eq world location).filesystem).files.tree
      location.node (among_from_list_all (is_directory_at nat_eq world) (option_to_list mount.mount_point)
      (and_true_right (is_directory_node ((filesystem_numbered nat_eq world mount.filesystem).files.tree.node
      mount.root))
      _ rooted) location (subst (λ o. Among location (option_to_list o)) (sym e) (inl refl)))

  place_there : (location : Location ℕ)
      → Among location (all_locations world ++ map root_of world.mounts ++ points) → AtPlace location
  place_there location m = ⊎_elim
      (λ front. ⊎_elim
      (λ of_task. and_true_right
      (is_among nat_eq location.mount (map (λ (mount : Mount ℕ). mount.number) world.mounts)) _
      (among_from_list_all (is_located_well nat_eq world) (all_locations world) conditions.tasks.locations_live
      location
      of_task))
      (λ of_root.
      let from = among-from_map root_of world.mounts location of_root in
      subst AtPlace (sym from.2) (root_there from.0 from.1))
      (among-append (all_locations world) (map root_of world.mounts) location front))
      (λ of_point.
      let from = among-from_filter_map (λ (mount : Mount ℕ). mount.mount_point) world.mounts location of_point in
      point_there from.0 from.1 location from.2)
      (among-append (all_locations world ++ map root_of world.mounts) points location m)

  pub located_there : (inode : ℕ) → Among inode (located_in nat_eq world number) → IsThere inode
  located_there inode m =
      let from = among-from_map (λ (location : Location ℕ). location.node)
      (filter (λ location. nat_eq number (mount_at nat_eq world location).filesystem)
      (all_locations world ++ map root_of world.mounts ++ points)) inode m in
      let passed = among-from_filter (λ location. nat_eq number (mount_at nat_eq world location).filesystem)
      (all_locations world ++ map root_of world.mounts ++ points) from.0 from.1 in
      ap (is_there nat_eq world number) from.2
      ∙ ap (λ n. is_there nat_eq world n from.0.node)
      (eqb-true number (mount_at nat_eq world from.0).filesystem passed.1)
      ∙ place_there from.0 passed.0

pub unnamed_exist_while_located : UnnamedExistWhileLocated
unnamed_exist_while_located world number overlay inode conditions is unnamed =
    same_truth (is_some ((filesystem_numbered nat_eq world number).files.tree.node inode))
    (nat_lt 0 (locations_on world number inode))
    (λ there. sym (ap (nat_lt 0) (unnamed_uses_are_locations world number overlay inode conditions is unnamed))
    ∙ sym (used_while_counted world (filesystem_numbered nat_eq world number) inode)
    ∙ among_from_list_all (is_inode_used world (filesystem_numbered nat_eq world number))
    (filesystem_numbered nat_eq world number).files.numbers (among_from_all
    (λ (f : Filesystem ℕ). list_all (is_inode_used world f) f.files.numbers ≡ true) world.filesystems
    (all_in_use world conditions).inodes (filesystem_numbered nat_eq world number)
    (found_among (λ (f : Filesystem ℕ). nat_eq number f.number) world.filesystems
    (filesystem_numbered nat_eq world number) (overlay_found world number overlay is))) inode (among_numbers
    (filesystem_numbered nat_eq world number).files.numbers inode
    (overlay_numbers world conditions number overlay is inode ∙ there)))
    (λ some. located_there world conditions number inode (among_numbers (located_in nat_eq world number) inode
    (any_counted (nat_eq inode) (located_in nat_eq world number) ∙ some)))

-- The uses of an inode, in their parts
uses_in_parts : (world : World ℕ) (f : Filesystem ℕ) (inode : ℕ)
    → inode_uses world f inode
    ≡ cond (nat_eq inode f.files.tree.root) 1 0
    + (times (nat_eq inode) (named_in f.files) + times (nat_eq inode) (located_in nat_eq world f.number)
    + times (nat_eq inode) (layers_in nat_eq world f.number)
    + times (nat_eq inode) (flat_map (objects_of_overlay nat_eq f.number) world.filesystems))
uses_in_parts world f inode =
    cc (
      times_append (nat_eq inode) (named_in f.files ++ located_in nat_eq world f.number ++ layers_in nat_eq world
          f.number)
          (flat_map (objects_of_overlay nat_eq f.number) world.filesystems),
      times_append (nat_eq inode) (named_in f.files ++ located_in nat_eq world f.number)
          (layers_in nat_eq world f.number),
      times_append (nat_eq inode) (named_in f.files) (located_in nat_eq world f.number),
    )

-- what stays is taken off both sums
taken_off : (root named layers objects here there gained lost before after : ℕ)
    → before + gained ≡ after + lost → before ≡ root + (named + here + layers + objects)
    → after ≡ root + (named + there + layers + objects) → here + gained ≡ there + lost
taken_off root named layers objects here there gained lost before after e f g = omega arith

exchanged_by : (world after : World ℕ) (gained lost : List Inode) (number inode : ℕ)
    → after.filesystems ≡ world.filesystems → Exchanges gained lost number world after
    → locations_on world number inode + times (is_inode number inode) gained
    ≡ locations_on after number inode + times (is_inode number inode) lost
exchanged_by world after gained lost number inode same exchanges =
    let f = filesystem_numbered nat_eq world number in
    let others : List (Filesystem ℕ) → ℕ = λ filesystems.
    times (nat_eq inode) (layers_in nat_eq (record world { filesystems = filesystems }) f.number) in
    let objects : List (Filesystem ℕ) → ℕ = λ filesystems.
    times (nat_eq inode) (flat_map (objects_of_overlay nat_eq f.number) filesystems) in
    let at_root : ℕ = cond (nat_eq inode f.files.tree.root) 1 0 in
    let named : ℕ = times (nat_eq inode) (named_in f.files) in
    let then : inode_uses after (filesystem_numbered nat_eq after number) inode
    ≡ at_root + (named + locations_on after f.number inode + others world.filesystems + objects world.filesystems) =
    ap (λ g. inode_uses after g inode) exchanges.same ∙ uses_in_parts after f inode
    ∙ ap (λ filesystems. at_root + (named + locations_on after f.number inode + others filesystems
    + objects filesystems)) same in
    sym (ap (λ n. locations_on world n inode + times (is_inode number inode) gained) (number_of_filesystem world
    number))
    ∙ taken_off at_root named (others world.filesystems) (objects world.filesystems) (locations_on world f.number
    inode)
    (locations_on after f.number inode) (times (is_inode number inode) gained) (times (is_inode number inode) lost)
    (inode_uses world f inode) (inode_uses after (filesystem_numbered nat_eq after number) inode)
    (exchanges.uses inode) (uses_in_parts world f inode) then
    ∙ ap (λ n. locations_on after n inode + times (is_inode number inode) lost) (number_of_filesystem world number)

pub locations_are_exchanged : LocationsAreExchanged
locations_are_exchanged world after gained lost number inode exchanges =
    exchanged_by world (record after { filesystems = world.filesystems }) gained lost number inode refl exchanges
