-- A lowered world uses the same.
use Rattle.std.proofs.Common.{◌≡◌, refl, sym, ap, ◌∙◌, arith, ℕ, nat_eq, Bool, true, false, ◌||◌, List, [], ◌∷◌, ◌++◌, Option, Some, None, map}
use Rattle.std.specs.Prelude.{All, filter, flat_map, is_some, option_map}
use Rattle.vt_spec.proofs.Common.{All-cons, All-nil, Filesystem, Layer, Overlay, World, common_steps, has_layer_on, is_among, layers_in, layers_of, list_any, list_any-append, located_in, named_in, objects_of_overlay, of_overlay, used_in}
use Rattle.vt_laws_upper_layers.specs.Lowered.{FilesystemsUseTheSame, InodesUseTheSame, LoweredHaveNoUpper, Pins, is_at, is_pinned, is_upper_object, is_used_beside, lowered, lowered_filesystem, lowered_overlay, pins_of}

abbrev HasNoUpper : Filesystem ℕ → Type 0
HasNoUpper filesystem = of_overlay false (λ (overlay : Overlay ℕ). is_some overlay.upper) filesystem ≡ false

none_have : (pins : Pins) (all : List (Filesystem ℕ)) → All HasNoUpper (map (lowered_filesystem pins) all)
none_have pins [] = All-nil HasNoUpper
none_have pins (first ∷ rest) =
    All-cons HasNoUpper (lowered_filesystem pins first) _ (by first.overlay) (none_have pins rest)
  where
    by : (o : Option (Overlay ℕ))
        → HasNoUpper (record first { overlay = option_map (lowered_overlay (pins first.number)) o })
    by None = refl
    by (Some overlay) = refl

pub lowered_have_no_upper : LoweredHaveNoUpper
lowered_have_no_upper pins world = none_have pins world.filesystems

module _ (filesystem number : ℕ) where
  abbrev test : Layer ℕ → Bool
  test = is_at filesystem number

  -- the directories of layers in a filesystem
  directories : (layers : List (Layer ℕ))
      → is_among nat_eq number (map (λ (layer : Layer ℕ). layer.directory)
      (filter (λ (layer : Layer ℕ). nat_eq filesystem layer.filesystem) layers))
      ≡ list_any test layers
  directories [] = refl
  directories (first ∷ rest) = grind (arith, common_steps, directories rest)

  -- layers and pins
  shuffled : (a p b q : Bool) → ((a || p) || (b || q)) ≡ ((a || b) || (p || q))
  shuffled a p b q = grind (arith, common_steps)

  one : (pins : Pins) (first : Filesystem ℕ) (o : Option (Overlay ℕ))
      → list_any test (of_overlay [] layers_of
      (record first { overlay = option_map (lowered_overlay (pins first.number)) o }))
      ≡ (list_any test (of_overlay [] layers_of (record first { overlay = o }))
      || list_any test (pins_of pins (record first { overlay = o })))
  one pins first None = refl
  one pins first (Some overlay) = list_any-append test (layers_of overlay) (pins first.number)

  both : (pins : Pins) (all : List (Filesystem ℕ))
      → list_any test (flat_map (of_overlay [] layers_of) (map (lowered_filesystem pins) all))
      ≡ (list_any test (flat_map (of_overlay [] layers_of) all) || list_any test (flat_map (pins_of pins) all))
  both pins [] = refl
  both pins (first ∷ rest) =
      list_any-append test (of_overlay [] layers_of (lowered_filesystem pins first))
      (flat_map (of_overlay [] layers_of) (map (lowered_filesystem pins) rest))
      ∙ (λ i. one pins first first.overlay i || both pins rest i)
      ∙ shuffled (list_any test (of_overlay [] layers_of first)) (list_any test (pins_of pins first))
      (list_any test (flat_map (of_overlay [] layers_of) rest)) (list_any test (flat_map (pins_of pins) rest))
      ∙ sym (λ i. list_any-append test (of_overlay [] layers_of first) (flat_map (of_overlay [] layers_of) rest) i
      || list_any-append test (pins_of pins first) (flat_map (pins_of pins) rest) i)

  -- a lowered overlay has no upper objects
  none_of : (pins : Pins) (first : Filesystem ℕ) (o : Option (Overlay ℕ))
      → objects_of_overlay nat_eq filesystem
      (record first { overlay = option_map (lowered_overlay (pins first.number)) o }) ≡ []
  none_of pins first None = refl
  none_of pins first (Some overlay) = refl

  pub no_objects : (pins : Pins) (all : List (Filesystem ℕ))
      → flat_map (objects_of_overlay nat_eq filesystem) (map (lowered_filesystem pins) all) ≡ []
  no_objects pins [] = refl
  no_objects pins (first ∷ rest) = λ i. none_of pins first first.overlay i ++ no_objects pins rest i

pub layer_on : FilesystemsUseTheSame
layer_on pins number filesystem in_layers = by filesystem.overlay refl
  where
    test : Layer ℕ → Bool
    test layer = nat_eq number layer.filesystem

    or_same : (a p : Bool) → (p ≡ true → a ≡ true) → (a || p) ≡ a
    or_same true p f = refl
    or_same false true f = sym (f refl)
    or_same false false f = refl

    by : (o : Option (Overlay ℕ)) → filesystem.overlay ≡ o
        → has_layer_on nat_eq number
        (record filesystem { overlay = option_map (lowered_overlay (pins filesystem.number)) o })
        ≡ has_layer_on nat_eq number (record filesystem { overlay = o })
    by None e = refl
    by (Some overlay) e = list_any-append test (layers_of overlay) (pins filesystem.number)
        ∙ or_same (list_any test (layers_of overlay)) (list_any test (pins filesystem.number))
        (in_layers overlay number e)

-- what is used, in parts
used_parts : (world : World ℕ) (filesystem : Filesystem ℕ) (number : ℕ)
    → is_among nat_eq number (used_in nat_eq world filesystem)
    ≡ (is_used_beside world filesystem number || is_upper_object world filesystem.number number)
used_parts world filesystem number =
    let named = named_in filesystem.files ++ located_in nat_eq world filesystem.number in
    let layers = layers_in nat_eq world filesystem.number in
    let objects = flat_map (objects_of_overlay nat_eq filesystem.number) world.filesystems in
    ap (λ b. nat_eq number filesystem.files.tree.root || b)
    (list_any-append (nat_eq number) (named ++ layers) objects
    ∙ ap (λ b. b || list_any (nat_eq number) objects) (list_any-append (nat_eq number) named layers
    ∙ ap (λ b. list_any (nat_eq number) named || b) (directories filesystem.number number
    (flat_map (of_overlay [] layers_of) world.filesystems))))
    ∙ left (nat_eq number filesystem.files.tree.root) (list_any (nat_eq number) named)
    (list_any (is_at filesystem.number number) (flat_map (of_overlay [] layers_of) world.filesystems))
    (list_any (nat_eq number) objects)
  where
    left : (r n y o : Bool) → (r || ((n || y) || o)) ≡ (((r || n) || y) || o)
    left r n y o = grind (arith, common_steps)

pub uses_the_same : InodesUseTheSame
uses_the_same pins world filesystem number are =
    used_parts (lowered pins world) (lowered_filesystem pins filesystem) number
    ∙ (λ i. (is_among nat_eq number (filesystem.files.tree.root ∷ (named_in filesystem.files
    ++ located_in nat_eq world filesystem.number)) || both filesystem.number number pins world.filesystems i)
    || is_among nat_eq number (no_objects filesystem.number number pins world.filesystems i))
    ∙ same (is_among nat_eq number (filesystem.files.tree.root ∷ (named_in filesystem.files
    ++ located_in nat_eq world filesystem.number)))
    (list_any (is_at filesystem.number number) (flat_map (of_overlay [] layers_of) world.filesystems))
    (is_pinned pins world filesystem.number number) (is_upper_object world filesystem.number number)
    (are.objects number) (are.pinned number)
    ∙ sym (used_parts world filesystem number)
  where
    same : (n y p o : Bool) → (o ≡ true → ((n || y) || p) ≡ true) → (p ≡ true → o ≡ true)
        → ((n || (y || p)) || false) ≡ ((n || y) || o)
    same true y p o f g = refl
    same false true p o f g = refl
    same false false true true f g = refl
    same false false true false f g = sym (g refl)
    same false false false true f g = f refl
    same false false false false f g = refl
