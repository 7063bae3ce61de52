-- Layers as they are counted.
use Rattle.std.proofs.Common.{◌≡◌, ◌≤◌, ◌<◌, ◌+◌, ◌-◌, ◌∙◌, ◌∷◌, ◌↔◌, [], arith, ap, Bool, cond, eq-eqb, false, filter, find, get_or, IsErr, length, List, map, nat_eq, ne_eqb, None, not, OnOk, option_map, Option, refl, Some, sym, take, true, unwrap_or, ℕ, Result, length-take-le}
use Rattle.vt_spec.proofs.Common.{Inodes, folded, pinned, unpinned, uses_in, common_steps}
use Rattle.vt_location.specs.Numbers.{most_counted}
use Rattle.vt_location.specs.declared.locations.NodeRef.{NodeRef}
use Rattle.vt_location.specs.Locations.{inode_of, number_of}
use Rattle.vt_fs.specs.FilesystemsValue.{ChangesInodes, FilesystemEntry, Filesystems, Shown, entry_at, entry_of, inodes_at, inodes_seen, no_entry, shown, shown_entry, shown_if, shown_with, with_changed, without}
use Rattle.vt_overlay.specs.declared.merge.layers.LayerRef.{LayerRef}
use Rattle.vt_store.specs.LayersHeld.{HasRoomFor, HaveRoomFor, mounts_changed, mounts_changed_if, mounts_shown, uses_shown, with_layer, with_layers, without_layer, without_unmounted}

abbrev pub found : ℕ → List Shown → Option Shown
found count all = find (λ (one : Shown). nat_eq count one.count) all

-- by its count each is found where it was
pub find-counted : (count : ℕ) (change : Shown → Shown) → ((one : Shown) → (change one).count ≡ one.count)
    → (all : List Shown) → found count (map change all) ≡ option_map change (found count all)
find-counted count change kept [] = refl
find-counted count change kept (one ∷ all) =
    grind (arith, common_steps, find-counted count change kept all, kept one, nat_eq count one.count)

-- What contracts of vt_fs say, as it is shown

pub shown-mounts_changed : (count : ℕ) (change : ℕ → ℕ) (fs : Filesystems)
    → shown (with_changed count (λ entry. record entry { mounts = change entry.mounts }) fs)
    ≡ mounts_changed count change (shown fs)
shown-mounts_changed count change [] = refl
shown-mounts_changed count change (entry ∷ rest) =
    λ i. by (nat_eq count entry.count) i ∷ shown-mounts_changed count change rest i
  where
    by : (b : Bool) → shown_entry (cond b (record entry { mounts = change entry.mounts }) entry)
        ≡ cond b (record (shown_entry entry) { mounts = change entry.mounts }) (shown_entry entry)
    by true = refl
    by false = refl

shown-without : (count : ℕ) (fs : Filesystems)
    → shown (without count fs) ≡ filter (λ (one : Shown). not (nat_eq count one.count)) (shown fs)
shown-without count [] = refl
shown-without count (entry ∷ rest) = grind (arith, common_steps, shown-without count rest, cond)

-- what is found of an entry is what its count shows
pub found-shown : (count : ℕ) (fs : Filesystems) → found count (shown fs) ≡ option_map shown_entry (entry_of fs count)
found-shown count [] = refl
found-shown count (entry ∷ rest) = grind (arith, common_steps, found-shown count rest, nat_eq count entry.count)

pub mounts_are_shown : (count : ℕ) (fs : Filesystems) → (entry_at fs count).mounts ≡ mounts_shown count (shown fs)
mounts_are_shown count fs = grind (arith, common_steps, entry_of fs count, found-shown count fs)

pub uses_are_shown : (count number : ℕ) (fs : Filesystems)
    → uses_in ((inodes_at fs count).inode number) ≡ uses_shown count number (shown fs)
uses_are_shown count number fs = by (entry_of fs count)
    ∙ ap (λ o. unwrap_or (option_map (λ (one : Shown). uses_in (one.inodes.inode number)) o) 0)
    (sym (found-shown count fs))
  where
    by : (o : Option FilesystemEntry) → uses_in ((inodes_seen (unwrap_or o (no_entry count))).inode number)
        ≡ unwrap_or (option_map (λ (one : Shown). uses_in (one.inodes.inode number)) (option_map shown_entry o)) 0
    by None = refl
    by (Some entry) = refl

-- One layer more, and one less

-- the directory of a layer, as a node of its tree
pub record IsAt (layer : LayerRef) (at : NodeRef) : Type 0 where
  pub filesystem : at.filesystem ≡ layer.directory.filesystem
  pub number : number_of at ≡ inode_of layer.directory

module _ (layer : LayerRef) (at : NodeRef) (is : IsAt layer at) where
  abbrev count : ℕ
  count = layer.directory.filesystem.count

  pub layer_pinned : (old mid : Filesystems)
      → ChangesInodes at.filesystem.count (λ inodes. pinned nat_eq inodes (number_of at)) old mid
      → shown mid ≡ shown_with count (λ inodes. pinned nat_eq inodes (inode_of layer.directory)) (shown old)
  layer_pinned old mid changes = grind (arith, common_steps)

  pub layer_more : (old mid new : Filesystems)
      → ChangesInodes at.filesystem.count (λ inodes. pinned nat_eq inodes (number_of at)) old mid
      → new ≡ with_changed count (λ entry. record entry { mounts = entry.mounts + 1 }) mid
      → shown new ≡ with_layer (shown old) layer
  layer_more old mid new changes held = ap shown held ∙ shown-mounts_changed count (λ mounts. mounts + 1) mid
      ∙ ap (mounts_changed count (λ mounts. mounts + 1)) (layer_pinned old mid changes)

  pub layer_less : (old mid new : Filesystems)
      → ChangesInodes at.filesystem.count (λ inodes. unpinned nat_eq inodes (number_of at)) old mid
      → shown new ≡ without_unmounted count (mounts_changed count (λ mounts. mounts - 1) (shown mid))
      → shown new ≡ without_layer (shown old) layer
  layer_less old mid new changes left = grind (arith, common_steps)

  -- its uses
  pub layer_used : (fs : Filesystems) → uses_in ((inodes_at fs at.filesystem.count).inode (number_of at))
      ≡ uses_shown count (inode_of layer.directory) (shown fs)
  layer_used fs = grind (arith, common_steps, uses_are_shown)

module _ (count : ℕ) (old mid : Filesystems) (n : ℕ)
    (released : mid ≡ with_changed count (λ entry. record entry { mounts = entry.mounts - 1 }) old)
    (counts : n ≡ (entry_at mid count).mounts) where
  abbrev less : List Shown
  less = mounts_changed count (λ mounts. mounts - 1) (shown old)

  seen : shown mid ≡ less
  seen = ap shown released ∙ shown-mounts_changed count (λ mounts. mounts - 1) old

  same : n ≡ mounts_shown count less
  same = counts ∙ mounts_are_shown count mid ∙ ap (mounts_shown count) seen

  abbrev left : Bool → List Shown
  left b = cond b (filter (λ (one : Shown). not (nat_eq count one.count)) less) less

  -- a filesystem goes with its last mount, and stays while another shows it
  pub filesystem_goes : (new : Filesystems) → n ≡ 0 → new ≡ without count mid → shown new ≡ without_unmounted count less
  filesystem_goes new zero gone = grind (arith, common_steps, shown-without, seen, eq-eqb, less, same)

  pub filesystem_stays : (n ≡ 0 → ⊥) → shown mid ≡ without_unmounted count less
  filesystem_stays some = seen ∙ ap left (sym (ne_eqb (mounts_shown count less) 0 (λ none. some (same ∙ none))))

-- Room

-- where there is room nothing is refused
pub unlimited : {T E : Type 0} (r : Result T E) {P Q : Type 0} → OnOk r P → (IsErr r ↔ Q) → (Q → ⊥) → P
unlimited r p limit none = grind (arith, common_steps)

-- a change by which what is counted grows by so many at most
grows : (count : ℕ) (change : Shown → Shown) → ((one : Shown) → (change one).count ≡ one.count)
    → (counts : Shown → ℕ) (more : ℕ) → ((one : Shown) → counts (change one) ≤ counts one + more) → (all : List Shown)
    → unwrap_or (option_map counts (found count (map change all))) 0
    ≤ unwrap_or (option_map counts (found count all)) 0 + more
grows count change kept counts more most all = grind (arith, common_steps, find-counted count change kept all)

module _ (layer : LayerRef) where
  abbrev pub home : ℕ
  home = layer.directory.filesystem.count

  abbrev pub pins : Inodes ℕ → Inodes ℕ
  pins inodes = pinned nat_eq inodes (inode_of layer.directory)

  pub pinned_count : (one : Shown) → (shown_if home pins one).count ≡ one.count
  pinned_count one = grind (arith, common_steps)

  pub mounted_count : (one : Shown) → (mounts_changed_if home (λ mounts. mounts + 1) one).count ≡ one.count
  mounted_count one = grind (arith, common_steps)

  layer_uses : (all : List Shown) (count number : ℕ)
      → uses_shown count number (with_layer all layer) ≤ uses_shown count number all + 1
  layer_uses all count number =
      let mounts = grows count (mounts_changed_if home (λ mounts. mounts + 1)) mounted_count
      (λ one. uses_in (one.inodes.inode number)) 0 (λ one. keeps one (nat_eq home one.count))
      (shown_with home pins all) in
      let uses = grows count (shown_if home pins) pinned_count (λ one. uses_in (one.inodes.inode number)) 1
      (λ one. pinned_one one (nat_eq home one.count)) all in
      omega (arith, mounts, uses)
    where
      keeps : (one : Shown) (b : Bool)
          → uses_in ((cond b (record one { mounts = one.mounts + 1 }) one).inodes.inode number)
          ≤ uses_in (one.inodes.inode number) + 0
      keeps one b = grind (arith, common_steps)

      pinned_one : (one : Shown) (b : Bool)
          → uses_in ((cond b (record one { inodes = pins one.inodes }) one).inodes.inode number)
          ≤ uses_in (one.inodes.inode number) + 1
      pinned_one one b = grind (arith, common_steps)

  -- a use is no mount
  pub pinned_mounts : (all : List Shown) (count : ℕ)
      → mounts_shown count (shown_with home pins all) ≤ mounts_shown count all + 0
  pinned_mounts all count =
      grows count (shown_if home pins) pinned_count (λ one. one.mounts) 0 (λ one. keeps one (nat_eq home one.count)) all
    where
      keeps : (one : Shown) (b : Bool) → (cond b (record one { inodes = pins one.inodes }) one).mounts ≤ one.mounts + 0
      keeps one b = grind (arith, common_steps)

  layer_mounts : (all : List Shown) (count : ℕ) → mounts_shown count (with_layer all layer) ≤ mounts_shown count all + 1
  layer_mounts all count =
      let mounts = grows count (mounts_changed_if home (λ mounts. mounts + 1)) mounted_count
      (λ one. one.mounts) 1 (λ one. mounted_one one (nat_eq home one.count)) (shown_with home pins all) in
      let uses = pinned_mounts all count in
      omega (arith, mounts, uses)
    where
      mounted_one : (one : Shown) (b : Bool)
          → (cond b (record one { mounts = one.mounts + 1 }) one).mounts ≤ one.mounts + 1
      mounted_one one b = grind (arith, common_steps)

-- so many layers are so many uses and mounts more at most
layers_uses : (count number : ℕ) (layers : List LayerRef) (all : List Shown)
    → uses_shown count number (with_layers layers all) ≤ uses_shown count number all + length layers
layers_uses count number [] all = omega arith
layers_uses count number (layer ∷ layers) all =
    let rest = layers_uses count number layers (with_layer all layer) in
    let first = layer_uses layer all count number in
    omega (arith, rest, first)

layers_mounts : (count : ℕ) (layers : List LayerRef) (all : List Shown)
    → mounts_shown count (with_layers layers all) ≤ mounts_shown count all + length layers
layers_mounts count [] all = omega arith
layers_mounts count (layer ∷ layers) all =
    let rest = layers_mounts count layers (with_layer all layer) in
    let first = layer_mounts layer all count in
    omega (arith, rest, first)

-- where there is room for each, there is room for the next once some are counted
pub room_at : (layers : List LayerRef) (old new : List Shown) (index : ℕ) (default : LayerRef) → index < length layers
    → HaveRoomFor (length layers) old layers → new ≡ with_layers (take index layers) old
    → HasRoomFor 1 new (get_or layers index default)
room_at layers old new index default within room counted =
    grind (arith, common_steps, length-take-le, layers_uses, layers_mounts)

-- One layer more where there is room

module _ (layer : LayerRef) (at : NodeRef) (is : IsAt layer at) (old mid : Filesystems)
    (room : HasRoomFor 1 (shown old) layer) where
  pub may_pin : uses_in ((inodes_at old at.filesystem.count).inode (number_of at)) ≡ most_counted → ⊥
  may_pin full = grind (arith, common_steps, layer_used)

  pub may_mount : ChangesInodes at.filesystem.count (λ inodes. pinned nat_eq inodes (number_of at)) old mid
      → (entry_at mid layer.directory.filesystem.count).mounts ≡ most_counted → ⊥
  may_mount changes full =
      let most = room.mounts in
      let same = mounts_are_shown layer.directory.filesystem.count mid
      ∙ ap (mounts_shown layer.directory.filesystem.count) (layer_pinned layer at is old mid changes) in
      let kept = pinned_mounts layer (shown old) layer.directory.filesystem.count in
      omega (arith, most, same, kept, full)

-- a fold over one more
pub folded-take : (add : List Shown → LayerRef → List Shown) (all mid new : List Shown) (layers : List LayerRef)
    (index : ℕ) (default : LayerRef) → index < length layers
    → new ≡ add mid (get_or layers index default) → mid ≡ folded add all (take index layers)
    → new ≡ folded add all (take (index + 1) layers)
folded-take add all mid new layers index default within is so_far = grind (arith, common_steps)
