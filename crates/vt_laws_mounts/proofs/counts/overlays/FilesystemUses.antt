-- What filesystems use: directories of layers, and upper objects.
use Rattle.std.proofs.Common.{◌≡◌, refl, sym, ap, ◌∙◌, ℕ, ◌+◌, nat_eq, Bool, true, false, true≢false, cond, not, List, [], ◌∷◌, ◌++◌, map, filter, flat_map, Option, Some, None, arith, All, filter_map, option_to_list}
use Rattle.vt_spec.proofs.Common.{Filesystem, Layer, Overlay, World, all_locations, common_steps, filesystem_numbered, filter_none, has_layer_on, holds_of, is_overlay, layers_in, layers_of, located_in, named_in, objects_of_overlay, of_overlay, or_parts, overlay_or, root_of, upper_object}
use Rattle.vt_laws_mounts.specs.LettingGo.Counts.{inode_uses, times}
use Rattle.vt_laws_mounts.specs.LettingGo.OneByOne.{Inode}
use Rattle.vt_laws_mounts.specs.LettingGo.Overlays.{uppers_in, used_by_filesystem}
use Rattle.vt_laws_mounts.proofs.letting_go.Lists.{all_from_among, among-from_flat_map, among_from_all, flat_map-filter, flat_map_none, none_among, none_from_among}
use Rattle.vt_laws_mounts.proofs.letting_go.sweeps.InUse.{layers_on}
use Rattle.vt_laws_mounts.proofs.letting_go.sweeps.UpperUses.{times_append}
use Rattle.vt_laws_mounts.proofs.counts.counting.Entries.{one_if}
use Rattle.vt_laws_mounts.proofs.counts.counting.Times.{times_in}
use Rattle.vt_laws_mounts.specs.Counts.BesideOverlays.{HasNoUpperIn, NewTreeIsCountedBesideOverlays, NoUpperIsInAny, OverlaysAreUses, OverlaysTakeTheirUses, PlainOnesUseNothing}
use Rattle.vt_laws_mounts.specs.Counts.Using.{Exchanges, is_inode}
use Rattle.vt_laws_mounts.proofs.counts.using.Places.{count_in, new_tree_counts}
use Rattle.vt_laws_mounts.proofs.counts.using.Swept.{found_number, no_objects_in, uses_split}

-- without an upper layer an overlay has none in any filesystem
pub no_upper_is_in_any : NoUpperIsInAny
no_upper_is_in_any world number none = grind (arith, common_steps, all_from_among, among_from_all, true≢false)

-- Where no overlay has a layer in a filesystem
module _ (world : World ℕ) (number : ℕ)
    (apart : All (λ merged. has_layer_on nat_eq number merged ≡ false) world.filesystems) where
  pub no_layers_there : layers_in nat_eq world number ≡ []
  no_layers_there = ap (map (λ (layer : Layer ℕ). layer.directory))
      (filter_none (λ (layer : Layer ℕ). nat_eq number layer.filesystem)
      (flat_map (of_overlay [] layers_of) world.filesystems)
      (none_from_among (λ (layer : Layer ℕ). nat_eq number layer.filesystem)
      (flat_map (of_overlay [] layers_of) world.filesystems)
      (λ layer m. let from = among-from_flat_map (of_overlay [] layers_of) world.filesystems layer m in
      none_among (λ (other : Layer ℕ). nat_eq number other.filesystem) (of_overlay [] layers_of from.0)
      (sym (layers_on world number from.0)
      ∙ among_from_all (λ merged. has_layer_on nat_eq number merged ≡ false) world.filesystems apart from.0 from.1)
      layer from.2)))

  pub no_upper_there : HasNoUpperIn number world
  no_upper_there = grind (arith, common_steps, all_from_among, among_from_all, or_parts)

-- How often filesystems use an inode
module _ (k n : ℕ) where
  abbrev layers_at : List (Layer ℕ) → ℕ
  layers_at layers = times_in n (map (λ layer. layer.directory) (filter (λ layer. nat_eq k layer.filesystem) layers))

  layers_append : (one other : List (Layer ℕ)) → layers_at (one ++ other) ≡ layers_at one + layers_at other
  layers_append [] other = omega arith
  layers_append (first ∷ rest) other = grind (arith, common_steps, times_in, layers_append rest other)

  -- those of layers
  layers_are_uses : (layers : List (Layer ℕ))
      → times (is_inode k n) (map (λ (layer : Layer ℕ). (layer.filesystem, layer.directory)) layers) ≡ layers_at layers
  layers_are_uses [] = refl
  layers_are_uses (first ∷ rest) = grind (arith, common_steps, times_in, layers_are_uses rest)

  -- those of upper objects
  abbrev of_object : Layer ℕ → Option ℕ → List Inode
  of_object upper object = map (λ x. (upper.filesystem, x)) (option_to_list object) ++ []

  objects_are_uses : (upper : Layer ℕ) (real : ℕ → Option ℕ) (b : Bool) → nat_eq k upper.filesystem ≡ b
      → (numbers : List ℕ) → times (is_inode k n) (flat_map (λ number. of_object upper (real number)) numbers)
      ≡ times_in n (cond b (filter_map real numbers) [])
  objects_are_uses upper real true e [] = refl
  objects_are_uses upper real false e [] = refl
  objects_are_uses upper real true e (first ∷ rest) =
      grind (arith, common_steps, upper, times_in, objects_are_uses upper real true e rest)
  objects_are_uses upper real false e (first ∷ rest) =
      grind (arith, common_steps, upper, objects_are_uses upper real false e rest)

  no_uses : (numbers : List ℕ) → times (is_inode k n) (flat_map (λ (number : ℕ). []) numbers) ≡ 0
  no_uses [] = refl
  no_uses (first ∷ rest) = no_uses rest

  -- those of a filesystem,
  filesystem_uses : (g : Filesystem ℕ) → times (is_inode k n) (used_by_filesystem g)
      ≡ layers_at (of_overlay [] layers_of g) + times_in n (objects_of_overlay nat_eq k g)
  filesystem_uses g = times_append (is_inode k n)
      (map (λ (layer : Layer ℕ). (layer.filesystem, layer.directory)) (of_overlay [] layers_of g))
      (flat_map (λ number. of_overlay [] (uppers_in number) g) g.files.numbers)
      ∙ (λ i. layers_are_uses (of_overlay [] layers_of g) i + by g.overlay i)
    where
      upper : (overlay : Overlay ℕ) (u : Option (Layer ℕ))
          → times (is_inode k n) (flat_map (λ number. flat_map (λ (layer : Layer ℕ).
          map (λ object. (layer.filesystem, object)) (option_to_list (upper_object (overlay.real number))))
          (option_to_list u)) g.files.numbers)
          ≡ times_in n (cond (holds_of (λ (layer : Layer ℕ). nat_eq k layer.filesystem) u)
          (filter_map (λ number. upper_object (overlay.real number)) g.files.numbers) [])
      upper overlay None = no_uses g.files.numbers
      upper overlay (Some layer) =
          objects_are_uses layer (λ number. upper_object (overlay.real number)) (nat_eq k layer.filesystem) refl
          g.files.numbers

      by : (o : Option (Overlay ℕ))
          → times (is_inode k n) (flat_map (λ number. overlay_or [] (uppers_in number) o) g.files.numbers)
          ≡ times_in n (overlay_or [] (λ (overlay : Overlay ℕ).
          cond (holds_of (λ layer. nat_eq k layer.filesystem) overlay.upper)
          (filter_map (λ number. upper_object (overlay.real number)) g.files.numbers) []) o)
      by None = no_uses g.files.numbers
      by (Some overlay) = upper overlay overlay.upper

  -- and those of several
  abbrev uses_of_all : List (Filesystem ℕ) → ℕ
  uses_of_all list =
      layers_at (flat_map (of_overlay [] layers_of) list) + times_in n (flat_map (objects_of_overlay nat_eq k) list)

  pub all_uses : (list : List (Filesystem ℕ))
      → times (is_inode k n) (flat_map used_by_filesystem list) ≡ uses_of_all list
  all_uses [] = refl
  all_uses (first ∷ rest) =
      let later = all_uses rest in let here = filesystem_uses first in
      let both = times_append (is_inode k n) (used_by_filesystem first) (flat_map used_by_filesystem rest) in
      let layers = layers_append (of_overlay [] layers_of first) (flat_map (of_overlay [] layers_of) rest) in
      let objects = times_append (nat_eq n) (objects_of_overlay nat_eq k first)
      (flat_map (objects_of_overlay nat_eq k) rest) in
      omega arith

  taken_apart : (one other : List (Filesystem ℕ)) → times (is_inode k n) (flat_map used_by_filesystem (one ++ other))
      ≡ times (is_inode k n) (flat_map used_by_filesystem one)
      + times (is_inode k n) (flat_map used_by_filesystem other)
  taken_apart [] other = omega arith
  taken_apart (first ∷ rest) other = grind (arith, common_steps, times_append, taken_apart rest other)

-- What overlays use is all that filesystems use.
plain_use_none : (g : Filesystem ℕ) → is_overlay g ≡ false → used_by_filesystem g ≡ []
plain_use_none g e = grind (arith, common_steps, flat_map_none, true≢false)

used_by_overlays : (list : List (Filesystem ℕ))
    → flat_map used_by_filesystem (filter is_overlay list) ≡ flat_map used_by_filesystem list
used_by_overlays list = flat_map-filter _ _ list plain_use_none

-- Where overlays come and go, by the uses that all have
exchanged_by : (world after : World ℕ) (gained lost : List Inode) (k : ℕ)
    → after.mounts ≡ world.mounts → all_locations after ≡ all_locations world
    → ((n : ℕ) → times (is_inode k n) (flat_map used_by_filesystem (filter is_overlay world.filesystems))
    + times (is_inode k n) gained
    ≡ times (is_inode k n) (flat_map used_by_filesystem (filter is_overlay after.filesystems))
    + times (is_inode k n) lost) → filesystem_numbered nat_eq after k ≡ filesystem_numbered nat_eq world k
    → Exchanges gained lost k world after
exchanged_by world after gained lost k mounts locations exchange same = record {
  same = same;
  uses = λ n.
      let now : inode_uses after (filesystem_numbered nat_eq after k) n ≡ inode_uses after f n =
      ap (λ g. inode_uses after g n) same in
      let one = split world n in
      let two = split after n in
      let here : located after n ≡ located world n = (λ i. count_in (mounts i) f.number n
      (locations i ++ map root_of (mounts i) ++ filter_map (λ mount. mount.mount_point) (mounts i))) in
      let before : used world n ≡ used_by (filter is_overlay world.filesystems) n =
      ap (times (is_inode k n)) (sym (used_by_overlays world.filesystems)) in
      let then : used after n ≡ used_by (filter is_overlay after.filesystems) n =
      ap (times (is_inode k n)) (sym (used_by_overlays after.filesystems)) in
      let all : used_by (filter is_overlay world.filesystems) n + times (is_inode k n) gained
      ≡ used_by (filter is_overlay after.filesystems) n + times (is_inode k n) lost = exchange n in
      omega arith;
}
  where
    f : Filesystem ℕ
    f = filesystem_numbered nat_eq world k

    used_by : List (Filesystem ℕ) → ℕ → ℕ
    used_by list n = times (is_inode k n) (flat_map used_by_filesystem list)

    used : World ℕ → ℕ → ℕ
    used some n = used_by some.filesystems n

    located : World ℕ → ℕ → ℕ
    located some n = times_in n (located_in nat_eq some f.number)

    split : (some : World ℕ) (n : ℕ) → inode_uses some f n
        ≡ ((one_if n f.files.tree.root + times_in n (named_in f.files)) + located some n) + used some n
    split some n =
        let whole = uses_split some f n in
        let all : used some n ≡ uses_of_all k n some.filesystems = all_uses k n some.filesystems in
        let layers : times_in n (layers_in nat_eq some f.number)
        ≡ layers_at k n (flat_map (of_overlay [] layers_of) some.filesystems) =
        ap (λ m. times_in n (layers_in nat_eq some m)) (found_number _ k) in
        let objects : times_in n (flat_map (objects_of_overlay nat_eq f.number) some.filesystems) ≡ times_in n
        (flat_map (objects_of_overlay nat_eq k) some.filesystems) = ap
        (λ m. times_in n (flat_map (objects_of_overlay nat_eq m) some.filesystems)) (found_number _ k) in
        omega arith

pub overlays_are_uses : OverlaysAreUses
overlays_are_uses world after gained lost front back k mounts locations were are same =
    exchanged_by world after (flat_map used_by_filesystem gained) (flat_map used_by_filesystem lost) k mounts locations
    (λ n.
    let before : used n (filter is_overlay world.filesystems) ≡ used n (front ++ (lost ++ back)) = ap (used n) were in
    let then : used n (filter is_overlay after.filesystems) ≡ used n (front ++ (gained ++ back)) = ap (used n) are in
    let a = taken_apart k n front (lost ++ back) in let b = taken_apart k n lost back in
    let c = taken_apart k n front (gained ++ back) in let d = taken_apart k n gained back in
    omega arith) same
  where
    used : ℕ → List (Filesystem ℕ) → ℕ
    used n list = times (is_inode k n) (flat_map used_by_filesystem list)

pub overlays_take_their_uses : OverlaysTakeTheirUses
overlays_take_their_uses world after stays k mounts locations are same = exchanged_by world after []
    (flat_map used_by_filesystem (filter (λ merged. not (stays merged)) (filter is_overlay world.filesystems))) k mounts
    locations (λ n.
    let then : used n (filter is_overlay after.filesystems)
    ≡ used n (filter stays (filter is_overlay world.filesystems)) = ap (used n) are in
    let all = both n (filter is_overlay world.filesystems) in
    let none : times (is_inode k n) [] ≡ 0 = refl in
    omega arith) same
  where
    used : ℕ → List (Filesystem ℕ) → ℕ
    used n list = times (is_inode k n) (flat_map used_by_filesystem list)

    -- what stays and what goes uses what all use
    both : (n : ℕ) (list : List (Filesystem ℕ))
        → used n list ≡ used n (filter stays list) + used n (filter (λ merged. not (stays merged)) list)
    both n [] = refl
    both n (first ∷ rest) = grind (arith, common_steps, times_append, both n rest)

pub plain_ones_use_nothing : PlainOnesUseNothing
plain_ones_use_nothing world after k mounts locations are same = exchanged_by world after [] [] k mounts locations
    (λ n. ap (λ l. times (is_inode k n) (flat_map used_by_filesystem l) + 0) (sym are)) same

pub new_tree_is_counted_beside_overlays : NewTreeIsCountedBesideOverlays
new_tree_is_counted_beside_overlays world number root apart one own outside =
    new_tree_counts world number root (no_layers_there world number apart)
    (no_objects_in number world (no_upper_there world number apart)) one own outside
