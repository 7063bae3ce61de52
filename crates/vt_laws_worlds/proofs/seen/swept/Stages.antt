-- Inodes that nothing uses may go before the sweep of inodes.
use Rattle.std.proofs.Common.{arith, ◌≡◌, refl, sym, ap, subst, ◌∙◌, ⊎_elim, ℕ, nat_eq, Bool, true, false, not, ◌||◌, ◌&&◌, List, [], map, flat_map, ◌++◌, ◌∷◌, All}
use Rattle.vt_spec.proofs.Common.{Filesystem, World, cases_Bool, common_steps, is_among, is_overlay, layers_in, layers_of, located_in, map_alike, map_twice, named_in, not-true, objects_of_overlay, of_overlay, only_used, only_used_of, used_in, without_dead_in, without_dead_inodes}
use Rattle.vt_laws_mounts.proofs.letting_go.sweeps.WithOverlays.{upper_without, overlay_without}
use Rattle.vt_laws_mounts.specs.LettingGo.InUse.{HasTrees, IsListedTree, UppersArePlain, has_upper_in, is_inode_used}
use Rattle.vt_laws_mounts.specs.LettingGo.Overlays.{RealsAreThere}
use Rattle.vt_laws_mounts.proofs.letting_go.Lists.{Among, among-append, among-append_left, among-append_right, among-filter_map, among-flat_map, among-from_filter, among-from_filter_map, among-from_flat_map, among-from_map, among_from_all, among_numbers, flat_map-map, flat_map_none, is_among_numbers}
use Rattle.vt_laws_mounts.proofs.letting_go.sweeps.InUse.{layers-left, no_objects, no_upper_objects, overlay-left, unused_are_empty}
use Rattle.vt_laws_mounts.proofs.letting_go.sweeps.Inodes.{numbers_without}
use Rattle.vt_laws_mounts.proofs.letting_go.sweeps.Merged.{HasReals, left_of, named_without, reals_without, without_all, without_both, without_nothing}
use Rattle.vt_laws_mounts.proofs.letting_go.sweeps.MergedSteps.{layers_without}

-- what is not there has no real object, still
pub reals_less : (gone : ℕ → Bool) (f : Filesystem ℕ) → HasReals f → HasReals (without_all gone f)
reals_less gone f has number none = grind (arith, common_steps, reals_without)

-- an overlay without inodes has fewer upper objects
objects_less : (gone : ℕ → Bool) (number object : ℕ) (f : Filesystem ℕ)
    → Among object (objects_of_overlay nat_eq number (without_all gone f))
    → Among object (objects_of_overlay nat_eq number f)
objects_less gone number object f =
    grind (arith, common_steps, reals_without, among-from_filter_map, among-from_filter, among-filter_map, not-true)

-- what one world uses another one uses too
within : (a b c d : List ℕ) (number : ℕ) → (Among number a → Among number c) → (Among number b → Among number d)
    → Among number (a ++ b) → Among number (c ++ d)
within a b c d number first second m =
    ⊎_elim (λ x. among-append_left c d number (first x)) (λ x. among-append_right c d number (second x))
    (among-append a b number m)

pub used_too : (some more : World ℕ) (f : Filesystem ℕ) (number : ℕ)
    → (Among number (located_in nat_eq some f.number) → Among number (located_in nat_eq more f.number))
    → (Among number (layers_in nat_eq some f.number) → Among number (layers_in nat_eq more f.number))
    → (Among number (flat_map (objects_of_overlay nat_eq f.number) some.filesystems)
    → Among number (flat_map (objects_of_overlay nat_eq f.number) more.filesystems))
    → is_inode_used some f number ≡ true → is_inode_used more f number ≡ true
used_too some more f number located layers objects is = is_among_numbers number (used_in nat_eq more f)
    (within (names ++ located_in nat_eq some f.number ++ layers_in nat_eq some f.number)
    (flat_map (objects_of_overlay nat_eq f.number) some.filesystems)
    (names ++ located_in nat_eq more f.number ++ layers_in nat_eq more f.number)
    (flat_map (objects_of_overlay nat_eq f.number) more.filesystems) number
    (within (names ++ located_in nat_eq some f.number) (layers_in nat_eq some f.number)
    (names ++ located_in nat_eq more f.number) (layers_in nat_eq more f.number) number
    (within names (located_in nat_eq some f.number) names (located_in nat_eq more f.number) number (λ m. m) located)
    layers) objects (among_numbers number (used_in nat_eq some f) is))
  where
    names : List ℕ
    names = f.files.tree.root ∷ named_in f.files

-- a world without the inodes that a test names, of each filesystem
abbrev pub less : (Filesystem ℕ → ℕ → Bool) → Filesystem ℕ → Filesystem ℕ
less went f = without_all (went f) f

abbrev pub with_less : (Filesystem ℕ → ℕ → Bool) → World ℕ → World ℕ
with_less went world = record world { filesystems = map (less went) world.filesystems }

-- A filesystem whose inodes that went nothing uses: the sweep leaves what it leaves of it with them.
module _ (went : Filesystem ℕ → ℕ → Bool) (world : World ℕ) (f : Filesystem ℕ) (tree : IsListedTree f.files)
    (has : HasReals f) (unused : (k : ℕ) → went f k ≡ true → is_inode_used world f k ≡ false)
    (objects : flat_map (objects_of_overlay nat_eq f.number) (with_less went world).filesystems
    ≡ flat_map (objects_of_overlay nat_eq f.number) world.filesystems) where
  abbrev used : List ℕ
  used = used_in nat_eq world f

  used_alike : used_in nat_eq (with_less went world) (less went f) ≡ used
  used_alike =
      let layers : layers_in nat_eq (with_less went world) f.number ≡ layers_in nat_eq world f.number =
      cc (flat_map-map (less went) (of_overlay [] layers_of) world.filesystems (λ g. layers_without (went g) g)) in
      let named = named_without _ f (λ k e. unused_are_empty world f tree k (unused k e)) in
      λ i. f.files.tree.root ∷ (named i ++ located_in nat_eq world f.number ++ layers i ++ objects i)

  pub swept_alike : only_used_of nat_eq (used_in nat_eq (with_less went world) (less went f)) (less went f)
      ≡ only_used_of nat_eq used f
  swept_alike = ap (λ u. only_used_of nat_eq u (less went f)) used_alike
      ∙ left_of used (less went f) (numbers_without (went f) f tree.numbers) (reals_less (went f) f has)
      ∙ without_both (went f) (λ k. not (is_among nat_eq k used)) (λ k. not (is_among nat_eq k used))
      (λ k. by k (went f k) refl) f ∙ sym (left_of used f tree.numbers has)
    where
      by : (k : ℕ) (b : Bool) → went f k ≡ b → not (is_among nat_eq k used) ≡ (b || not (is_among nat_eq k used))
      by k true e = ap not (unused k e)
      by k false e = refl

-- The sweep of inodes, of overlays first
module _ (went : Filesystem ℕ → ℕ → Bool) (world : World ℕ) (trees : HasTrees world) (uppers : UppersArePlain world)
    (reals : RealsAreThere world) (unused : (f : Filesystem ℕ) → Among f world.filesystems → (k : ℕ) → went f k ≡ true
    → is_inode_used world f k ≡ false) where
  abbrev left : World ℕ
  left = with_less went world

  tree_of : (f : Filesystem ℕ) → Among f world.filesystems → IsListedTree f.files
  tree_of f m = among_from_all (λ g. IsListedTree g.files) world.filesystems trees f m

  reals_of : (f : Filesystem ℕ) → Among f world.filesystems → HasReals f
  reals_of f m = among_from_all HasReals world.filesystems reals f m

  -- no overlay has an upper object in an overlay
  no_upper_in : (f : Filesystem ℕ) → Among f world.filesystems → is_overlay f ≡ true → (g : Filesystem ℕ)
      → Among g world.filesystems → has_upper_in f.number g ≡ false
  no_upper_in f m is g n = among_from_all (λ x. has_upper_in f.number x ≡ false) world.filesystems
      (among_from_all (λ x. is_overlay x ≡ true → All (λ y. has_upper_in x.number y ≡ false) world.filesystems)
      world.filesystems uppers f m is) g n

  no_objects_in : (f : Filesystem ℕ) → Among f world.filesystems → is_overlay f ≡ true
      → flat_map (objects_of_overlay nat_eq f.number) world.filesystems ≡ []
  no_objects_in f m is = flat_map_none (objects_of_overlay nat_eq f.number) world.filesystems
      (λ g n. no_upper_objects world f.number g (no_upper_in f m is g n))

  no_objects_left : (f : Filesystem ℕ) → Among f world.filesystems → is_overlay f ≡ true
      → flat_map (objects_of_overlay nat_eq f.number) left.filesystems ≡ []
  no_objects_left f m is = flat_map_none (objects_of_overlay nat_eq f.number) (map (less went) world.filesystems)
      (λ x n. let from = among-from_map _ _ x n in
      no_upper_objects world f.number x (cc (
        upper_without f.number (went from.0) from.0,
        no_upper_in f m is from.0 from.1,
      )))

  -- then inodes of plain trees are still to go
  abbrev plain_went : Filesystem ℕ → ℕ → Bool
  plain_went f k = not (is_overlay f) && went f k

  stays_whole : (f : Filesystem ℕ) → is_overlay f ≡ true → less plain_went f ≡ f
  stays_whole f is = ap (λ b. without_all (λ k. not b && went f k) f) is ∙ without_nothing f

  abbrev first : Filesystem ℕ → Filesystem ℕ
  first f = only_used nat_eq world (is_overlay f) f

  overlay_first : (f : Filesystem ℕ) → is_overlay (first f) ≡ is_overlay f
  overlay_first f = grind (arith, common_steps, overlay-left)

  plain_first : (f : Filesystem ℕ) → is_overlay f ≡ false → first f ≡ f
  plain_first f isnt = cc

  first_alike : (f : Filesystem ℕ) → Among f world.filesystems
      → only_used nat_eq left (is_overlay (less went f)) (less went f) ≡ less plain_went (first f)
  first_alike f m = cc (
    overlay_without (went f) f,
    ⊎_elim (λ is. ap (λ b. only_used nat_eq left b (less went f)) is
        ∙ swept_alike went world f (tree_of f m) (reals_of f m) (unused f m)
        (no_objects_left f m is ∙ sym (no_objects_in f m is)) ∙ sym (ap (λ b. only_used nat_eq world b f) is) ∙ sym
        (stays_whole (first f) (overlay_first f ∙ is))) (λ isnt. ap (λ b. only_used nat_eq left b (less went f)) isnt
        ∙ sym (ap (λ b. without_all (λ k. not b && went f k) f) isnt) ∙ sym (ap (less plain_went) (plain_first f isnt)))
        (cases_Bool (is_overlay f)),
  )

  abbrev second_world : World ℕ
  second_world = without_dead_in nat_eq is_overlay world

  stage_one : without_dead_in nat_eq is_overlay left ≡ with_less plain_went second_world
  stage_one = cc (
    map_twice (λ f. only_used nat_eq left (is_overlay f) f) (less went) world.filesystems,
    map_alike (λ f. only_used nat_eq left (is_overlay (less went f)) (less went f)) (λ f. less plain_went (first f))
        world.filesystems first_alike,
    map_twice (less plain_went) first world.filesystems,
  )

  -- a plain tree that is there then was there before
  was_there : (g : Filesystem ℕ) → Among g second_world.filesystems → is_overlay g ≡ false → Among g world.filesystems
  was_there g m isnt =
      let from = among-from_map first _ g m in
      let same = from.2 ∙ plain_first from.0 (cc (overlay_first from.0)) in
      subst (λ f. Among f world.filesystems) (sym same) from.1

  object_before : (number object : ℕ) (f : Filesystem ℕ) → Among f world.filesystems
      → Among object (objects_of_overlay nat_eq number (first f)) → Among object (objects_of_overlay nat_eq number f)
  object_before number object f m n = ⊎_elim
      (λ is. objects_less (λ k. not (is_among nat_eq k (used_in nat_eq world f))) number object f
      (subst (λ x. Among object (objects_of_overlay nat_eq number x)) (ap (λ b. only_used nat_eq world b f) is
      ∙ left_of (used_in nat_eq world f) f (tree_of f m).numbers (reals_of f m)) n))
      (λ isnt. subst (λ x. Among object (objects_of_overlay nat_eq number x)) (plain_first f isnt) n)
      (cases_Bool (is_overlay f))

  layers_first : (number : ℕ) → layers_in nat_eq second_world number ≡ layers_in nat_eq world number
  layers_first number = grind (arith, common_steps, flat_map-map, layers-left)

  used_before : (f : Filesystem ℕ) (k : ℕ) → is_inode_used second_world f k ≡ true → is_inode_used world f k ≡ true
  used_before f k is = used_too second_world world f k (λ m. m) (subst (Among k) (layers_first f.number))
      (λ m. let from = among-from_flat_map (objects_of_overlay nat_eq f.number) second_world.filesystems k m in
      let one = among-from_map first world.filesystems from.0 from.1 in
      among-flat_map (objects_of_overlay nat_eq f.number) world.filesystems one.0 k one.1
      (object_before f.number k one.0 one.1
      (subst (λ x. Among k (objects_of_overlay nat_eq f.number x)) one.2 from.2))) is

  plain_unused : (g : Filesystem ℕ) → Among g second_world.filesystems → is_overlay g ≡ false → (k : ℕ)
      → plain_went g k ≡ true → is_inode_used second_world g k ≡ false
  plain_unused g m isnt k e = grind (arith, common_steps, used_before, unused, was_there)

  objects_second : (number : ℕ)
      → flat_map (objects_of_overlay nat_eq number) (with_less plain_went second_world).filesystems
      ≡ flat_map (objects_of_overlay nat_eq number) second_world.filesystems
  objects_second number = flat_map-map (less plain_went) (objects_of_overlay nat_eq number) second_world.filesystems
      (λ g. ⊎_elim (λ is. ap (objects_of_overlay nat_eq number) (stays_whole g is))
      (λ isnt. no_objects world number (less plain_went g) (overlay_without (plain_went g) g ∙ isnt)
      ∙ sym (no_objects world number g isnt)) (cases_Bool (is_overlay g)))

  second_alike : (g : Filesystem ℕ) → Among g second_world.filesystems
      → only_used nat_eq (with_less plain_went second_world) (not (is_overlay (less plain_went g))) (less plain_went g)
      ≡ only_used nat_eq second_world (not (is_overlay g)) g
  second_alike g m = cc (
    overlay_without (plain_went g) g,
    ⊎_elim (λ is. ap (λ b. only_used nat_eq (with_less plain_went second_world) (not b) (less plain_went g)) is
        ∙ stays_whole g is ∙ sym (ap (λ b. only_used nat_eq second_world (not b) g) is))
        (λ isnt. ap (λ b. only_used nat_eq (with_less plain_went second_world) (not b) (less plain_went g)) isnt
        ∙ swept_alike plain_went second_world g (tree_of g (was_there g m isnt)) (reals_of g (was_there g m isnt))
        (plain_unused g m isnt) (objects_second g.number) ∙ sym (ap (λ b. only_used nat_eq second_world (not b) g)
        isnt)) (cases_Bool (is_overlay g)),
  )

  pub inodes_before : without_dead_inodes nat_eq left ≡ without_dead_inodes nat_eq world
  inodes_before = ap (without_dead_in nat_eq (λ f. not (is_overlay f))) stage_one
      ∙ ap (λ filesystems. record world { filesystems = filesystems })
      (map_twice (λ f. only_used nat_eq (with_less plain_went second_world) (not (is_overlay f)) f) (less plain_went)
      second_world.filesystems
      ∙ map_alike (λ f. only_used nat_eq (with_less plain_went second_world) (not (is_overlay (less plain_went f)))
      (less plain_went f)) (λ f. only_used nat_eq second_world (not (is_overlay f)) f)
      second_world.filesystems second_alike)
