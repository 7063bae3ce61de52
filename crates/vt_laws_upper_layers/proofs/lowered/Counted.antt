-- Pins are counted.
use Rattle.std.proofs.Common.{arith, ◌≡◌, refl, sym, ap, ◌∙◌, ℕ, ◌+◌, nat_eq, Bool, true, false, cond, List, [], ◌∷◌, ◌++◌, Option, Some, None, map}
use Rattle.std.proofs.lemmas.List.{append-nil}
use Rattle.std.specs.Prelude.{All, filter, find, flat_map, option_map, unwrap_or}
use Rattle.vt_spec.proofs.Common.{All-head, All-tail, Filesystem, Layer, Overlay, World, common_steps, filesystem_numbered, is_overlay, layers_in, layers_of, located_in, named_in, no_filesystem, none_is_some, of_overlay}
use Rattle.vt_laws_trees.proofs.layers.layers.LowersWorld.{number_of_filesystem}
use Rattle.vt_laws_mounts.specs.Counts.Using.{is_inode}
use Rattle.vt_laws_mounts.specs.LettingGo.Counts.{inode_uses, times}
use Rattle.vt_laws_mounts.proofs.letting_go.sweeps.UpperUses.{times_append}
use Rattle.vt_laws_upper_layers.proofs.lowered.Alike.{no_objects}
use Rattle.vt_laws_upper_layers.specs.Lowered.{IsReadOnly, Pins, PinsAreExchanged, PinsAreUses, ReadOnlyWorldsStay, all_pins, inode_of_layer, is_at, lowered, lowered_filesystem, lowered_overlay, no_pins, pins_of}

-- the directories of layers in a filesystem
directories_times : (filesystem number : ℕ) (layers : List (Layer ℕ))
    → times (nat_eq number) (map (λ (layer : Layer ℕ). layer.directory)
    (filter (λ (layer : Layer ℕ). nat_eq filesystem layer.filesystem) layers))
    ≡ times (is_at filesystem number) layers
directories_times filesystem number [] = refl
directories_times filesystem number (first ∷ rest) =
    grind (arith, common_steps, directories_times filesystem number rest)

-- layers, and pins beside them
module _ (filesystem number : ℕ) (pins : Pins) where
  abbrev test : Layer ℕ → Bool
  test = is_at filesystem number

  one : (first : Filesystem ℕ) (o : Option (Overlay ℕ))
      → times test (of_overlay [] layers_of
      (record first { overlay = option_map (lowered_overlay (pins first.number)) o }))
      ≡ times test (of_overlay [] layers_of (record first { overlay = option_map (lowered_overlay []) o }))
      + times test (pins_of pins (record first { overlay = o }))
  one first None = refl
  one first (Some overlay) = times_append test (layers_of overlay) (pins first.number)
      ∙ ap (λ l. times test l + times test (pins first.number)) (sym (append-nil (layers_of overlay)))

  all : (list : List (Filesystem ℕ))
      → times test (flat_map (of_overlay [] layers_of) (map (lowered_filesystem pins) list))
      ≡ times test (flat_map (of_overlay [] layers_of) (map (lowered_filesystem no_pins) list))
      + times test (flat_map (pins_of pins) list)
  all [] = refl
  all (first ∷ rest) =
      let front = times_append test (of_overlay [] layers_of (lowered_filesystem pins first))
      (flat_map (of_overlay [] layers_of) (map (lowered_filesystem pins) rest)) in
      let back = times_append test (of_overlay [] layers_of (lowered_filesystem no_pins first))
      (flat_map (of_overlay [] layers_of) (map (lowered_filesystem no_pins) rest)) in
      let pinned = times_append test (pins_of pins first) (flat_map (pins_of pins) rest) in
      let here = one first first.overlay in
      let there = all rest in
      omega (arith, front, back, pinned, here, there)

-- what is used, in parts
pub parts : (pins : Pins) (world : World ℕ) (filesystem : Filesystem ℕ) (number : ℕ)
    → inode_uses (lowered pins world) (lowered_filesystem pins filesystem) number
    ≡ times (nat_eq number) (filesystem.files.tree.root ∷ (named_in filesystem.files
    ++ located_in nat_eq world filesystem.number))
    + times (is_at filesystem.number number)
    (flat_map (of_overlay [] layers_of) (map (lowered_filesystem pins) world.filesystems))
parts pins world filesystem number =
    let named = named_in filesystem.files ++ located_in nat_eq world filesystem.number in
    let layers = layers_in nat_eq (lowered pins world) filesystem.number in
    ap (λ o. cond (nat_eq number filesystem.files.tree.root) 1 0 + times (nat_eq number) ((named ++ layers) ++ o))
    (no_objects filesystem.number number pins world.filesystems)
    ∙ ap (λ l. cond (nat_eq number filesystem.files.tree.root) 1 0 + times (nat_eq number) l)
    (append-nil (named ++ layers))
    ∙ ap (λ n. cond (nat_eq number filesystem.files.tree.root) 1 0 + n) (times_append (nat_eq number) named layers
    ∙ ap (λ n. times (nat_eq number) named + n) (directories_times filesystem.number number
    (flat_map (of_overlay [] layers_of) (map (lowered_filesystem pins) world.filesystems))))
    ∙ by (cond (nat_eq number filesystem.files.tree.root) 1 0) (times (nat_eq number) named)
    (times (is_at filesystem.number number)
    (flat_map (of_overlay [] layers_of) (map (lowered_filesystem pins) world.filesystems)))
  where
    by : (a b c : ℕ) → a + (b + c) ≡ (a + b) + c
    by a b c = omega arith

pub pins_are_uses : PinsAreUses
pins_are_uses pins world filesystem number =
    let more = parts pins world filesystem number in
    let less = parts no_pins world filesystem number in
    let layers = all filesystem.number number pins world.filesystems in
    omega (arith, more, less, layers)

-- a filesystem of a lowered world
pub numbered-lowered : (pins : Pins) (world : World ℕ) (number : ℕ)
    → filesystem_numbered nat_eq (lowered pins world) number
    ≡ lowered_filesystem pins (filesystem_numbered nat_eq world number)
numbered-lowered pins world number = by world.filesystems
  where
    by : (all : List (Filesystem ℕ))
        → unwrap_or (find (λ (filesystem : Filesystem ℕ). nat_eq number filesystem.number)
        (map (lowered_filesystem pins) all)) (no_filesystem number)
        ≡ lowered_filesystem pins (unwrap_or
        (find (λ (filesystem : Filesystem ℕ). nat_eq number filesystem.number) all) (no_filesystem number))
    by [] = refl
    by (first ∷ rest) = grind (arith, common_steps, by rest)

-- one that is no overlay stays
pub lowered-plain : (pins : Pins) (filesystem : Filesystem ℕ) → is_overlay filesystem ≡ false
    → lowered_filesystem pins filesystem ≡ filesystem
lowered-plain pins filesystem plain = by filesystem.overlay plain
  where
    by : (o : Option (Overlay ℕ)) → Rattle.std.specs.Prelude.is_some o ≡ false
        → record filesystem { overlay = option_map (lowered_overlay (pins filesystem.number)) o }
        ≡ record filesystem { overlay = o }
    by None e = refl
    by (Some overlay) e = absurd (Rattle.std.proofs.Common.true≢false e)

times_inodes : (filesystem number : ℕ) (layers : List (Layer ℕ))
    → times (is_inode filesystem number) (map inode_of_layer layers) ≡ times (is_at filesystem number) layers
times_inodes filesystem number [] = refl
times_inodes filesystem number (first ∷ rest) =
    ap (λ n. cond (is_at filesystem number first) 1 0 + n) (times_inodes filesystem number rest)

pub pins_are_exchanged : PinsAreExchanged
pins_are_exchanged old new world gained lost filesystem plain counted = record {
  same = is_numbered new ∙ sym (is_numbered old);
  uses = λ number.
      let before = uses_of old number in
      let after = uses_of new number in
      let gain = times_inodes filesystem number gained in
      let loss = times_inodes filesystem number lost in
      let pinned = counted number in
      omega (arith, before, after, gain, loss, pinned);
}
  where
    numbered : Filesystem ℕ
    numbered = filesystem_numbered nat_eq world filesystem

    is_numbered : (pins : Pins) → filesystem_numbered nat_eq (lowered pins world) filesystem ≡ numbered
    is_numbered pins = numbered-lowered pins world filesystem ∙ lowered-plain pins numbered plain

    uses_of : (pins : Pins) (number : ℕ)
        → inode_uses (lowered pins world) (filesystem_numbered nat_eq (lowered pins world) filesystem) number
        ≡ inode_uses (lowered no_pins world) (lowered_filesystem no_pins numbered) number
        + times (is_at filesystem number) (all_pins pins world)
    uses_of pins number =
        ap (λ f. inode_uses (lowered pins world) f number) (numbered-lowered pins world filesystem)
        ∙ pins_are_uses pins world numbered number
        ∙ ap (λ n. inode_uses (lowered no_pins world) (lowered_filesystem no_pins numbered) number
        + times (is_at n number) (all_pins pins world)) (number_of_filesystem world filesystem)

-- worlds of read-only overlays
stays : (filesystem : Filesystem ℕ) → IsReadOnly filesystem → lowered_filesystem no_pins filesystem ≡ filesystem
stays filesystem read_only = by filesystem.overlay read_only
  where
    same : (overlay : Overlay ℕ) (upper work : Option (Layer ℕ)) → upper ≡ None → work ≡ None
        → lowered_overlay [] (record overlay { upper = upper; work = work })
        ≡ record overlay { upper = upper; work = work }
    same overlay None None e f = λ i. record overlay { upper = None; work = None; lowers = append-nil overlay.lowers i }
    same overlay (Some upper) work e f = absurd (none_is_some upper (sym e))
    same overlay None (Some work) e f = absurd (none_is_some work (sym f))

    by : (o : Option (Overlay ℕ))
        → ((overlay : Overlay ℕ) → o ≡ Some overlay → (overlay.upper ≡ None) × (overlay.work ≡ None))
        → record filesystem { overlay = option_map (lowered_overlay []) o } ≡ record filesystem { overlay = o }
    by None read_only = refl
    by (Some overlay) read_only = let is = read_only overlay refl in
        λ i. record filesystem { overlay = Some (same overlay overlay.upper overlay.work is.0 is.1 i) }

all_stay : (all : List (Filesystem ℕ)) → All IsReadOnly all → map (lowered_filesystem no_pins) all ≡ all
all_stay [] read_only = refl
all_stay (first ∷ rest) read_only =
    λ i. stays first (All-head IsReadOnly first rest read_only) i
    ∷ all_stay rest (All-tail IsReadOnly first rest read_only) i

pub read_only_stays : ReadOnlyWorldsStay
read_only_stays world read_only = λ i. record world { filesystems = all_stay world.filesystems read_only i }
