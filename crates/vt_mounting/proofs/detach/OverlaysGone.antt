-- A mount goes, and what it alone showed with it: of overlays at most one, whose layers go with it.
use Rattle.std.proofs.Common.{◌≡◌, refl, sym, ap, ◌∙◌, inl, inr, ℕ, ◌+◌, ◌-◌, nat_eq, nat_lt, eqb-true, Bool, true, false, cond, not, List, [], ◌∷◌, map, filter, flat_map, Option, Some, None, is_some, arith, append-nil}
use Rattle.vt_spec.proofs.Common.{Filesystem, Layer, World, any_pair, common_steps, is_mounted, is_overlay, layers_of, list_any, of_overlay, or_parts}
use Rattle.vt_mounting.proofs.Common.{Among, Inode, layer_count, layers_among, mounted_while_counted, mounts_showing, none_among, overlays_use_filesystems, times, times_append, without_mount}
use Rattle.vt_laws_mounts.specs.LettingGo.Overlays.{used_by_filesystem}
use Rattle.vt_laws_mounts.proofs.letting_go.Lists.{flat_map_none}
use Rattle.vt_mounting.specs.Detach.Uses.{Merged, merged_at}
use Rattle.vt_mounting.proofs.detach.LostUses.{positive}

-- the directories of an overlay's layers
abbrev pub layers_used : Filesystem ℕ → List Inode
layers_used overlay = map (λ layer. (layer.filesystem, layer.directory)) (of_overlay [] layers_of overlay)

-- an overlay as code keeps it in a world
abbrev pub merged_in : World ℕ → Filesystem ℕ → Merged
merged_in world overlay = record {
  number = overlay.number;
  mounts = mounts_showing world overlay.number;
  layers = layers_used overlay;
}

-- An overlay without an upper layer uses these directories alone.
pub uses_layers : (overlay : Filesystem ℕ) → of_overlay false (λ o. is_some o.upper) overlay ≡ false
    → used_by_filesystem overlay ≡ layers_used overlay
uses_layers overlay none = grind (arith, common_steps, flat_map_none, append-nil)

-- the layers that go with a mount of a filesystem of this number
abbrev pub layers_gone_by : Option Merged → List Inode
layers_gone_by None = []
layers_gone_by (Some one) = cond (nat_eq (one.mounts - 1) 0) one.layers []

abbrev pub layers_gone : ℕ → List Merged → List Inode
layers_gone number overlays = layers_gone_by (merged_at number overlays)

-- A mount of the filesystem is one of those that show it.
pub record Takes (world : World ℕ) (number filesystem : ℕ) : Type 0 where
  pub showing : (n : ℕ) → mounts_showing world n
      ≡ mounts_showing (without_mount world number) n + cond (nat_eq filesystem n) 1 0

module _ {world : World ℕ} {number filesystem : ℕ} (taking : Takes world number filesystem) where
  open taking use {showing as takes}

  abbrev mounted : World ℕ
  mounted = without_mount world number

  abbrev goes : Filesystem ℕ → Bool
  goes overlay = not (is_mounted nat_eq mounted overlay.number)

  -- a filesystem of another number is shown as before
  pub others_shown : (n : ℕ) → nat_eq filesystem n ≡ false → is_mounted nat_eq mounted n ≡ is_mounted nat_eq world n
  others_shown n apart =
      let took : mounts_showing world n ≡ mounts_showing mounted n + 0 =
      takes n ∙ ap (λ b. mounts_showing mounted n + cond b 1 0) apart in
      let same : mounts_showing mounted n ≡ mounts_showing world n = omega (arith, took) in
      mounted_while_counted mounted n ∙ ap (nat_lt 0) same ∙ sym (mounted_while_counted world n)

  -- one of this number goes with its last mount
  pub goes_at_one : (overlay : Filesystem ℕ) → nat_eq filesystem overlay.number ≡ true
      → goes overlay ≡ nat_eq (mounts_showing world overlay.number - 1) 0
  goes_at_one overlay e =
      let took : mounts_showing world overlay.number ≡ mounts_showing mounted overlay.number + 1 =
      takes overlay.number ∙ ap (λ b. mounts_showing mounted overlay.number + cond b 1 0) e in
      let same : mounts_showing mounted overlay.number ≡ mounts_showing world overlay.number - 1 = omega (arith, took) in
      ap not (mounted_while_counted mounted overlay.number ∙ positive (mounts_showing mounted overlay.number))
      ∙ twice (nat_eq (mounts_showing mounted overlay.number) 0) ∙ ap (λ n. nat_eq n 0) same
    where
      twice : (b : Bool) → not (not b) ≡ b
      twice true = refl
      twice false = refl

  -- The layers that go with the mount are those of the overlays that no mount shows then.
  pub layers_go : (list : List (Filesystem ℕ))
      → any_pair (λ (a b : Filesystem ℕ). nat_eq a.number b.number) list ≡ false
      → ((overlay : Filesystem ℕ) → Among overlay list → is_mounted nat_eq world overlay.number ≡ true)
      → flat_map layers_used (filter goes list) ≡ layers_gone filesystem (map (merged_in world) list)
  layers_go [] apart shown = refl
  layers_go (overlay ∷ rest) apart shown =
      by (nat_eq filesystem overlay.number) refl (layers_go rest parts.1 (λ other m. shown other (inr m)))
    where
      parts : (list_any (λ (b : Filesystem ℕ). nat_eq overlay.number b.number) rest ≡ false)
          × (any_pair (λ (a b : Filesystem ℕ). nat_eq a.number b.number) rest ≡ false)
      parts = or_parts (list_any (λ (b : Filesystem ℕ). nat_eq overlay.number b.number) rest)
          (any_pair (λ (a b : Filesystem ℕ). nat_eq a.number b.number) rest) apart

      none_go : (others : List (Filesystem ℕ)) → ((other : Filesystem ℕ) → Among other others → goes other ≡ false)
          → filter goes others ≡ []
      none_go [] stay = refl
      none_go (other ∷ others) stay =
          ap (λ b. cond b (other ∷ filter goes others) (filter goes others)) (stay other (inl refl))
          ∙ none_go others (λ one m. stay one (inr m))

      alone : (b : Bool) → flat_map layers_used (cond b (overlay ∷ []) []) ≡ cond b (layers_used overlay) []
      alone true = append-nil (layers_used overlay)
      alone false = refl

      by : (b : Bool) → nat_eq filesystem overlay.number ≡ b
          → flat_map layers_used (filter goes rest) ≡ layers_gone filesystem (map (merged_in world) rest)
          → flat_map layers_used (cond (goes overlay) (overlay ∷ filter goes rest) (filter goes rest))
          ≡ layers_gone_by (cond b (Some (merged_in world overlay)) (merged_at filesystem (map (merged_in world) rest)))
      by true e later = ap (λ all. flat_map layers_used (cond (goes overlay) (overlay ∷ all) all))
          (none_go rest (λ other m. ap not (others_shown other.number
          (ap (λ n. nat_eq n other.number) (eqb-true filesystem overlay.number e)
          ∙ none_among (λ (b : Filesystem ℕ). nat_eq overlay.number b.number) rest parts.0 other m) ∙ shown other
          (inr m))))
          ∙ alone (goes overlay) ∙ ap (λ b. cond b (layers_used overlay) []) (goes_at_one overlay e)
      by false e later = ap (λ b. flat_map layers_used (cond b (overlay ∷ filter goes rest) (filter goes rest)))
          (ap not (others_shown overlay.number e ∙ shown overlay (inl refl))) ∙ later

-- Layers are counted of overlays alone,
pub layers_of_overlays : (world : World ℕ) (number : ℕ)
    → layer_count world number ≡ layers_among number (filter is_overlay world.filesystems)
layers_of_overlays world number =
    let counts = overlays_use_filesystems world (record world { filesystems = [] }) []
    (filter is_overlay world.filesystems) [] [] number (sym (append-nil (filter is_overlay world.filesystems))) refl in
    omega (arith, counts)

-- of those that stay and those that go.
pub layers_parted : (number : ℕ) (stays : Filesystem ℕ → Bool) (list : List (Filesystem ℕ)) → layers_among number list
    ≡ layers_among number (filter stays list)
    + times (λ (inode : Inode). nat_eq number inode.0) (flat_map layers_used (filter (λ f. not (stays f)) list))
layers_parted number stays [] = refl
layers_parted number stays (first ∷ rest) = by (stays first) (layers_parted number stays rest)
  where
    is_there : Layer ℕ → Bool
    is_there layer = nat_eq number layer.filesystem

    is_in : Inode → Bool
    is_in inode = nat_eq number inode.0

    own : (layers : List (Layer ℕ))
        → times is_in (map (λ layer. (layer.filesystem, layer.directory)) layers) ≡ times is_there layers
    own [] = refl
    own (layer ∷ layers) = ap (λ n. cond (nat_eq number layer.filesystem) 1 0 + n) (own layers)

    here : List (Filesystem ℕ) → ℕ
    here list = times is_there (flat_map (of_overlay [] layers_of) list)

    gone : List (Filesystem ℕ) → ℕ
    gone list = times is_in (flat_map layers_used list)

    by : (b : Bool) → here rest ≡ here (filter stays rest) + gone (filter (λ f. not (stays f)) rest)
        → here (first ∷ rest) ≡ here (cond b (first ∷ filter stays rest) (filter stays rest))
        + gone (cond (not b) (first ∷ filter (λ f. not (stays f)) rest) (filter (λ f. not (stays f)) rest))
    by true later =
        let all = times_append is_there (of_overlay [] layers_of first) (flat_map (of_overlay [] layers_of) rest) in
        let left = times_append is_there (of_overlay [] layers_of first)
        (flat_map (of_overlay [] layers_of) (filter stays rest)) in
        omega (arith, later, all, left)
    by false later =
        let all = times_append is_there (of_overlay [] layers_of first) (flat_map (of_overlay [] layers_of) rest) in
        let left = times_append is_in (layers_used first) (flat_map layers_used (filter (λ f. not (stays f)) rest)) in
        let same = own (of_overlay [] layers_of first) in
        omega (arith, later, all, left, same)
