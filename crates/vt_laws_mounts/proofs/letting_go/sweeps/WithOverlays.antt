-- The sweep in worlds with overlays: inodes of overlays go one by one, then those of plain trees.
use Rattle.std.proofs.Common.{arith, ◌≡◌, refl, sym, ap, subst, ◌∙◌, ◌⊎◌, inl, inr, ℕ, nat_eq, eqb-true, eq-eqb, Bool, true, false, cond, not, ◌||◌, List, [], ◌∷◌, filter, map, flat_map, ◌++◌, Option, Some, is_some, option_map, option_to_list, All, filter_map}
use Rattle.vt_spec.proofs.Common.{All-filter, Filesystem, Layer, Overlay, World, and_parts, common_steps, filesystem_lives, is_among, is_among_left, is_among_right, is_overlay, layers_in, layers_of, list_all, list_any-append, not-true, objects_of_overlay, of_overlay, only_used, overlay_or, upper_object, used_in, without_dead_filesystems, without_dead_in, without_dead_inodes, without_dead_mounts}
use Rattle.vt_laws_mounts.specs.LettingGo.InUse.{HasTrees, IsListedTree, UppersArePlain, has_upper_in, is_inode_used}
use Rattle.vt_laws_mounts.specs.LettingGo.OneByOne.{Inode, InodesInUseBut, is_inode_among, is_used_or_among}
use Rattle.vt_laws_mounts.specs.LettingGo.Overlays.{AllInodesGoOneByOne, MergedGoOneByOne, RealsAreThere, WithOverlaysAllGoes, is_plain, let_go_plain, uppers_in, uppers_of, uppers_of_inode_in}
use Rattle.vt_laws_mounts.proofs.letting_go.sweeps.InUse.{layers-left, no_objects, no_upper_objects, overlay-left, unused_are_empty}
use Rattle.vt_laws_mounts.proofs.letting_go.Lists.{Among, all_from_among, among-filter, among-filter_map, among-flat_map, among-from_filter, among-from_filter_map, among-from_flat_map, among-from_map, among-map, among_from_all, among_from_list_all, among_numbers, any_among, any_from_among, flat_map-map, is_among_numbers, list_all_from_among}
use Rattle.vt_laws_mounts.proofs.letting_go.sweeps.Merged.{HasReals, left_of, reals_without, without_all}
use Rattle.vt_laws_mounts.proofs.letting_go.sweeps.MergedSteps.{Apart, ChosenAreEmpty, chosen_go_one_by_one}
use Rattle.vt_laws_mounts.proofs.letting_go.sweeps.OneByOne.{filesystems_go_one_by_one, groups_go_one_by_one, mounts_go_one_by_one}

pub overlay_without : (gone : ℕ → Bool) (f : Filesystem ℕ) → is_overlay (without_all gone f) ≡ is_overlay f
overlay_without gone f = grind (arith, common_steps)

plain_without : (gone : ℕ → Bool) (f : Filesystem ℕ) → is_plain (without_all gone f) ≡ is_plain f
plain_without gone f = ap not (overlay_without gone f)

pub upper_without : (number : ℕ) (gone : ℕ → Bool) (f : Filesystem ℕ)
    → has_upper_in number (without_all gone f) ≡ has_upper_in number f
upper_without number gone f = grind (arith, common_steps)

-- no overlay has an upper object in an overlay
overlays_apart : (world : World ℕ) → UppersArePlain world → Apart is_overlay overlay_without world
unfolding Apart
overlays_apart world plain f g m is n are gone =
    let none = among_from_all (λ other. has_upper_in f.number other ≡ false) world.filesystems
    (among_from_all (λ x. is_overlay x ≡ true → All (λ other. has_upper_in x.number other
    ≡ false) world.filesystems) world.filesystems plain f m is) g n in
    grind (arith, common_steps, no_upper_objects, without_all, upper_without)

-- no plain tree has an object
plain_apart : (world : World ℕ) → Apart is_plain plain_without world
unfolding Apart
plain_apart world f g m is n are gone =
    let plain : is_overlay g ≡ false = not-true (is_overlay g) are in
    no_objects world f.number (without_all gone g) (overlay_without gone g ∙ plain)
    ∙ sym (no_objects world f.number g plain)

overlays_empty : (world : World ℕ) → HasTrees world → ChosenAreEmpty is_overlay overlay_without world
unfolding ChosenAreEmpty
overlays_empty world trees f m is =
    unused_are_empty world f (among_from_all (λ x. IsListedTree x.files) world.filesystems trees f m)

pub merged_go_one_by_one : MergedGoOneByOne
merged_go_one_by_one world losers trees plain reals others =
    chosen_go_one_by_one is_overlay overlay_without world losers (overlays_apart world plain)
    (overlays_empty world trees) (λ f m is. (
      among_from_all (λ x. IsListedTree x.files) world.filesystems trees f m,
      among_from_all HasReals world.filesystems reals f m,
      among_from_all (λ x. is_overlay x ≡ true → list_all (is_used_or_among losers world x) x.files.numbers
          ≡ true) world.filesystems others f m is,
    ))

-- An upper object is that of an inode of an overlay with its upper layer there
pub object_parts : (number object : ℕ) (g : Filesystem ℕ) → Among object (objects_of_overlay nat_eq number g)
    → (overlay : Overlay ℕ) × (g.overlay ≡ Some overlay) × (layer : Layer ℕ) × (overlay.upper ≡ Some layer)
    × (nat_eq number layer.filesystem ≡ true)
    × (k : ℕ) × Among k g.files.numbers × (upper_object (overlay.real k) ≡ Some object)
object_parts number object g m = grind (arith, common_steps, among-from_filter_map)

pub object_there : (number object : ℕ) (g : Filesystem ℕ) (overlay : Overlay ℕ) (layer : Layer ℕ)
    → g.overlay ≡ Some overlay → overlay.upper ≡ Some layer
    → nat_eq number layer.filesystem ≡ true → (k : ℕ) → Among k g.files.numbers
    → upper_object (overlay.real k) ≡ Some object → Among object (objects_of_overlay nat_eq number g)
object_there number object g overlay layer e d c k m r = subst (λ l. Among object l) (sym here)
    (among-filter_map _ _ k object m r)
  where
    here : objects_of_overlay nat_eq number g ≡ filter_map (λ n. upper_object (overlay.real n)) g.files.numbers
    here = cc

-- the upper inode of an inode that is looked at is looked at
upper_looked_at : (world : World ℕ) (losers : List Inode) (number object k : ℕ) (g : Filesystem ℕ)
    (overlay : Overlay ℕ) (layer : Layer ℕ)
    → Among g world.filesystems → g.overlay ≡ Some overlay → overlay.upper ≡ Some layer
    → nat_eq number layer.filesystem ≡ true
    → upper_object (overlay.real k) ≡ Some object → is_inode_among g.number k losers ≡ true
    → is_inode_among number object (uppers_of world losers) ≡ true
upper_looked_at world losers number object k g overlay layer m e d c r among =
    let t = any_among _ losers among in
    let parts = and_parts (nat_eq g.number t.0.0) (nat_eq k t.0.1) t.2 in
    any_from_among _ _ _ (among-flat_map _ losers t.0 _ t.1 (among-flat_map _ _ g _ m
    (subst (λ l. Among (layer.filesystem, object) l) (sym (there t.0 parts.0 parts.1)) (inl refl))))
    (cc (eq-eqb object object refl))
  where
    listed : Option (Layer ℕ) → Option ℕ → List Inode
    listed u o = flat_map (λ l. map (λ x. (l.filesystem, x)) (option_to_list o)) (option_to_list u)

    there : (inode : Inode) → nat_eq g.number inode.0 ≡ true → nat_eq k inode.1 ≡ true
        → uppers_of_inode_in inode g ≡ (layer.filesystem, object) ∷ []
    there inode f n = ap (λ b. cond b (of_overlay [] (uppers_in inode.1) g) []) f
        ∙ ap (overlay_or [] (uppers_in inode.1)) e ∙ ap (λ x. uppers_in x overlay) (sym (eqb-true k inode.1 n))
        ∙ (λ i. listed (d i) (r i))

module _ (world : World ℕ) (losers : List Inode) (trees : HasTrees world) (reals : RealsAreThere world)
    (others : InodesInUseBut losers world) where
  abbrev after : World ℕ
  after = without_dead_in nat_eq is_overlay world

  abbrev first : Filesystem ℕ → Filesystem ℕ
  first f = only_used nat_eq world (is_overlay f) f

  overlay_first : (f : Filesystem ℕ) → is_overlay (first f) ≡ is_overlay f
  overlay_first f = grind (arith, common_steps, overlay-left)

  layers_first : (f : Filesystem ℕ) → of_overlay [] layers_of (first f) ≡ of_overlay [] layers_of f
  layers_first f = grind (arith, common_steps, layers-left)

  same_layers : (number : ℕ) → layers_in nat_eq after number ≡ layers_in nat_eq world number
  same_layers number =
      ap (λ layers. map (λ layer. layer.directory) (filter (λ layer. nat_eq number layer.filesystem) layers))
      (flat_map-map first (of_overlay [] layers_of) world.filesystems layers_first)

  -- a plain tree is as it was
  plain_was : (f : Filesystem ℕ) → Among f after.filesystems → is_plain f ≡ true → Among f world.filesystems
  plain_was f m is = grind (arith, common_steps, among-from_map first world.filesystems f m, not-true (is_overlay f) is)

  -- an upper object is one still, or is looked at
  object_left : (number object : ℕ) → Among object (flat_map (objects_of_overlay nat_eq number) world.filesystems)
      → Among object (flat_map (objects_of_overlay nat_eq number) after.filesystems)
      ⊎ (is_inode_among number object (uppers_of world losers) ≡ true)
  object_left number object m =
      let t = among-from_flat_map (objects_of_overlay nat_eq number) world.filesystems object m in
      let p = object_parts number object t.0 t.2 in
      by t.0 t.1 p.0 p.1 p.2 p.3 p.4 p.5 p.6 p.7 (is_inode_used world t.0 p.5) refl
    where
      by : (g : Filesystem ℕ) → Among g world.filesystems → (overlay : Overlay ℕ) → g.overlay ≡ Some overlay
          → (layer : Layer ℕ) → overlay.upper ≡ Some layer
          → nat_eq number layer.filesystem ≡ true → (k : ℕ) → Among k g.files.numbers
          → upper_object (overlay.real k) ≡ Some object → (u : Bool) → is_inode_used world g k ≡ u
          → Among object (flat_map (objects_of_overlay nat_eq number) after.filesystems)
          ⊎ (is_inode_among number object (uppers_of world losers) ≡ true)
      by g n overlay e layer d c k l r true used =
          inl (among-flat_map (objects_of_overlay nat_eq number) after.filesystems (first g) object
          (among-map first world.filesystems g n)
          (subst (λ x. Among object (objects_of_overlay nat_eq number x)) (sym itself)
          (object_there number object (without_all gone g) (reals_without gone overlay) layer
          (ap (option_map (reals_without gone)) e) d c k
          (among-filter (λ x. not (gone x)) g.files.numbers k l (ap (λ b. not (not b)) used)) (cc))))
        where
          gone : ℕ → Bool
          gone = λ x. not (is_among nat_eq x (used_in nat_eq world g))

          itself : first g ≡ without_all gone g
          itself = ap (λ o. only_used nat_eq world (is_some o) g) e ∙ left_of (used_in nat_eq world g) g
              (among_from_all (λ x. IsListedTree x.files) world.filesystems trees g n).numbers
              (among_from_all HasReals world.filesystems reals g n)
      by g n overlay e layer d c k l r false unused =
          inr (upper_looked_at world losers number object k g overlay layer n e d c r
          (looked (is_inode_among g.number k losers) (is_inode_used world g k)
          (among_from_list_all (is_used_or_among losers world g) g.files.numbers
          (among_from_all (λ x. list_all (is_used_or_among losers world x) x.files.numbers
          ≡ true) world.filesystems others g n) k l) unused))
        where
          looked : (a b : Bool) → (a || b) ≡ true → b ≡ false → a ≡ true
          looked true b h f = refl
          looked false b h f = cc

  -- so what was used is used still, or is looked at
  still_used : (f : Filesystem ℕ) (number : ℕ) → is_used_or_among losers world f number ≡ true
      → is_used_or_among (losers ++ uppers_of world losers) after f number ≡ true
  still_used f number h = grind (
    arith,
    common_steps,
    is_among_left,
    same_layers f.number,
    is_among_right,
    is_among_numbers number (flat_map (objects_of_overlay nat_eq f.number) after.filesystems),
    object_left,
    among_numbers number (flat_map (objects_of_overlay nat_eq f.number) world.filesystems),
    list_any-append,
  )

  plain_empty : ChosenAreEmpty is_plain plain_without after
  unfolding ChosenAreEmpty
  plain_empty f m is = unused_are_empty after f
      (among_from_all (λ x. IsListedTree x.files) world.filesystems trees f (plain_was f m is))

  plain_go : without_dead_inodes nat_eq world ≡ let_go_plain after (losers ++ uppers_of world losers)
  plain_go = chosen_go_one_by_one is_plain plain_without after (losers ++ uppers_of world losers)
      (plain_apart after) plain_empty (λ f m is. let was = plain_was f m is in (
        among_from_all (λ x. IsListedTree x.files) world.filesystems trees f was,
        among_from_all HasReals world.filesystems reals f was,
        list_all_from_among (is_used_or_among (losers ++ uppers_of world losers) after f) f.files.numbers
            (λ number n. still_used f number (among_from_list_all (is_used_or_among losers world f) f.files.numbers
            (among_from_all (λ x. list_all (is_used_or_among losers world x) x.files.numbers
            ≡ true) world.filesystems others f was) number n)),
      ))

pub all_inodes_go_one_by_one : AllInodesGoOneByOne
all_inodes_go_one_by_one world losers trees plain reals others =
    grind (arith, common_steps, plain_go, merged_go_one_by_one, all_from_among, among_from_all)

-- The whole sweep
pub with_overlays_all_goes : WithOverlaysAllGoes
with_overlays_all_goes world losers trees plain reals others =
    let mounted = without_dead_mounts nat_eq world in
    let living = without_dead_filesystems nat_eq mounted in
    let trees_living : HasTrees living = All-filter (filesystem_lives nat_eq mounted)
    (λ filesystem. IsListedTree filesystem.files) world.filesystems trees in
    let reals_living : RealsAreThere living =
    All-filter (filesystem_lives nat_eq mounted) HasReals world.filesystems reals in
    let plain_living : UppersArePlain living = all_from_among (λ f. is_overlay f ≡ true
    → All (λ g. has_upper_in f.number g ≡ false) living.filesystems) living.filesystems
    (λ f m is. All-filter (filesystem_lives nat_eq mounted) (λ g. has_upper_in f.number g ≡ false) world.filesystems
    (among_from_all (λ x. is_overlay x ≡ true
    → All (λ g. has_upper_in x.number g ≡ false) world.filesystems) world.filesystems plain f
    (among-from_filter (filesystem_lives nat_eq mounted) world.filesystems f m).0 is)) in
    let inodes = all_inodes_go_one_by_one living losers.inodes trees_living plain_living reals_living others.inodes in
    grind (arith, common_steps, groups_go_one_by_one, filesystems_go_one_by_one, mounts_go_one_by_one)
