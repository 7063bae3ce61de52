-- A lowered world is swept as the world.
use Rattle.std.proofs.Common.{◌≡◌, refl, sym, ap, ◌∙◌, arith, ℕ, nat_eq, Bool, true, false, not, ◌||◌, ◌&&◌, List, [], ◌∷◌, Option, Some, None, map}
use Rattle.std.specs.Prelude.{All, filter, if◌then◌else◌, option_map}
use Rattle.vt_spec.proofs.Common.{All-head, All-tail, Filesystem, Overlay, World, common_steps, has_layer_on, is_among, is_mounted, is_overlay, list_all, list_any, used_in}
use Rattle.vt_spec.specs.Machine.Settled.{filesystem_lives, only_used, only_used_by, only_used_of, without_dead_groups, without_dead_in, without_dead_inodes, without_dead_mounts}
use Rattle.vt_laws_mounts.specs.LettingGo.TreesOverlays.{in_use_of}
use Rattle.vt_laws_upper_layers.proofs.lowered.Alike.{layer_on, uses_the_same}
use Rattle.vt_laws_upper_layers.specs.Lowered.{ArePinned, FilesystemsGoAlike, InodesGoAlike, MountsGoAlike, Pins, PinsInLayers, SweptAlike, lowered, lowered_filesystem, lowered_overlay}

pub mounts_go : MountsGoAlike
mounts_go pins world = refl

-- Filesystems

module _ (pins : Pins) (world : World ℕ) where
  layers_same : (number : ℕ) (all : List (Filesystem ℕ)) → All (PinsInLayers pins) all
      → list_any (λ (merged : Filesystem ℕ).
      has_layer_on nat_eq number merged && is_mounted nat_eq world merged.number) (map (lowered_filesystem pins) all)
      ≡ list_any (λ (merged : Filesystem ℕ).
      has_layer_on nat_eq number merged && is_mounted nat_eq world merged.number) all
  layers_same number [] fit = refl
  layers_same number (first ∷ rest) fit =
      λ i. (layer_on pins number first (All-head (PinsInLayers pins) first rest fit) i
      && is_mounted nat_eq world first.number)
      || layers_same number rest (All-tail (PinsInLayers pins) first rest fit) i

  pub lives_same : All (PinsInLayers pins) world.filesystems → (filesystem : Filesystem ℕ)
      → filesystem_lives nat_eq (lowered pins world) (lowered_filesystem pins filesystem)
      ≡ filesystem_lives nat_eq world filesystem
  lives_same fit filesystem =
      ap (λ b. is_mounted nat_eq world filesystem.number || b) (layers_same filesystem.number world.filesystems fit)

filtered-map : {A B : Type 0} (f : A → B) (p : A → Bool) (q : B → Bool) → ((a : A) → q (f a) ≡ p a) → (all : List A)
    → filter q (map f all) ≡ map f (filter p all)
filtered-map f p q same [] = refl
filtered-map f p q same (first ∷ rest) = grind (arith, common_steps, same, filtered-map f p q same rest)

pub filesystems_go : FilesystemsGoAlike
filesystems_go pins world fit = λ i. record world {
  filesystems = filtered-map (lowered_filesystem pins) (filesystem_lives nat_eq world)
      (filesystem_lives nat_eq (lowered pins world)) (lives_same pins world fit) world.filesystems i;
}

-- Inodes

-- the filesystem with the inodes alone that pass a test
abbrev restricted : (ℕ → Bool) → Overlay ℕ → Overlay ℕ
restricted test overlay = record overlay { real = λ number. if test number then overlay.real number else None }

abbrev only_by : (all : Bool) → (ℕ → Bool) → Filesystem ℕ → Filesystem ℕ
only_by true test filesystem = filesystem
only_by false test filesystem = record filesystem {
  files = record {
    tree = record {
      root = filesystem.files.tree.root;
      node = λ number. if test number then filesystem.files.tree.node number else None;
    };
    numbers = filter test filesystem.files.numbers;
  };
  overlay = option_map (restricted test) filesystem.overlay;
}

only_is : (all : Bool) (used : List ℕ) (filesystem : Filesystem ℕ)
    → only_used_by nat_eq all used filesystem ≡ only_by all (λ number. is_among nat_eq number used) filesystem
only_is true used filesystem = refl
only_is false used filesystem = refl

lowers_only : (pins : Pins) (all : Bool) (test : ℕ → Bool) (filesystem : Filesystem ℕ)
    → only_by all test (lowered_filesystem pins filesystem) ≡ lowered_filesystem pins (only_by all test filesystem)
lowers_only pins true test filesystem = refl
lowers_only pins false test filesystem = by filesystem.overlay
  where
    by : (o : Option (Overlay ℕ)) → only_by false test (lowered_filesystem pins (record filesystem { overlay = o }))
        ≡ lowered_filesystem pins (only_by false test (record filesystem { overlay = o }))
    by None = refl
    by (Some overlay) = refl

one_swept : (pins : Pins) (world : World ℕ) (filesystem : Filesystem ℕ) → ArePinned pins world filesystem
    → only_used_of nat_eq (used_in nat_eq (lowered pins world) (lowered_filesystem pins filesystem))
    (lowered_filesystem pins filesystem)
    ≡ lowered_filesystem pins (only_used_of nat_eq (used_in nat_eq world filesystem) filesystem)
one_swept pins world filesystem are =
    only_is (list_all now filesystem.files.numbers) used_now (lowered_filesystem pins filesystem)
    ∙ ap (λ test. only_by (list_all test filesystem.files.numbers) test (lowered_filesystem pins filesystem)) same
    ∙ lowers_only pins (list_all before filesystem.files.numbers) before filesystem
    ∙ ap (lowered_filesystem pins) (sym (only_is (list_all before filesystem.files.numbers) used_before filesystem))
  where
    used_now : List ℕ
    used_now = used_in nat_eq (lowered pins world) (lowered_filesystem pins filesystem)

    used_before : List ℕ
    used_before = used_in nat_eq world filesystem

    now : ℕ → Bool
    now number = is_among nat_eq number used_now

    before : ℕ → Bool
    before number = is_among nat_eq number used_before

    same : now ≡ before
    same = λ i. λ number. uses_the_same pins world filesystem number are i

module _ (pins : Pins) (world : World ℕ) (chosen : Filesystem ℕ → Bool)
    (alike : (filesystem : Filesystem ℕ) → chosen (lowered_filesystem pins filesystem) ≡ chosen filesystem) where
  abbrev Pinned : Filesystem ℕ → Type 0
  Pinned filesystem = chosen filesystem ≡ true → ArePinned pins world filesystem

  each : (filesystem : Filesystem ℕ) → Pinned filesystem
      → only_used nat_eq (lowered pins world) (chosen (lowered_filesystem pins filesystem))
      (lowered_filesystem pins filesystem)
      ≡ lowered_filesystem pins (only_used nat_eq world (chosen filesystem) filesystem)
  each filesystem are = ap (λ b. only_used nat_eq (lowered pins world) b (lowered_filesystem pins filesystem))
      (alike filesystem) ∙ by (chosen filesystem) are
    where
      by : (b : Bool) → (b ≡ true → ArePinned pins world filesystem)
          → only_used nat_eq (lowered pins world) b (lowered_filesystem pins filesystem)
          ≡ lowered_filesystem pins (only_used nat_eq world b filesystem)
      by true are = one_swept pins world filesystem (are refl)
      by false are = refl

  all_swept : (all : List (Filesystem ℕ)) → All Pinned all
      → map (λ filesystem. only_used nat_eq (lowered pins world) (chosen filesystem) filesystem)
      (map (lowered_filesystem pins) all)
      ≡ map (lowered_filesystem pins) (map (λ filesystem. only_used nat_eq world (chosen filesystem) filesystem) all)
  all_swept [] are = refl
  all_swept (first ∷ rest) are =
      λ i. each first (All-head Pinned first rest are) i ∷ all_swept rest (All-tail Pinned first rest are) i

  swept : All Pinned world.filesystems
      → without_dead_in nat_eq chosen (lowered pins world) ≡ lowered pins (without_dead_in nat_eq chosen world)
  swept are = λ i. record world { filesystems = all_swept world.filesystems are i }

overlay_alike : (pins : Pins) (filesystem : Filesystem ℕ)
    → is_overlay (lowered_filesystem pins filesystem) ≡ is_overlay filesystem
overlay_alike pins filesystem = by filesystem.overlay
  where
    by : (o : Option (Overlay ℕ))
        → is_overlay (record filesystem { overlay = option_map (lowered_overlay (pins filesystem.number)) o })
        ≡ is_overlay (record filesystem { overlay = o })
    by None = refl
    by (Some overlay) = refl

pub inodes_go : InodesGoAlike
inodes_go pins world are =
    ap (without_dead_in nat_eq (λ filesystem. not (is_overlay filesystem)))
    (swept pins world is_overlay (overlay_alike pins) are.overlays)
    ∙ swept pins (without_dead_in nat_eq is_overlay world) (λ filesystem. not (is_overlay filesystem))
    (λ filesystem. ap not (overlay_alike pins filesystem)) are.plain

-- All

pub swept_alike : SweptAlike
swept_alike pins world fit are = ap (without_dead_groups nat_eq)
    (ap (without_dead_inodes nat_eq) (filesystems_go pins (without_dead_mounts nat_eq world) fit)
    ∙ inodes_go pins (in_use_of world) are)
