-- A change after which the world is swept: a sweep before it as well makes no difference.
use Rattle.std.proofs.Common.{arith, ◌≡◌, refl, sym, ap, subst, ◌∙◌, ⊎_elim, ℕ, nat_eq, Bool, true, false, cond, not, ◌||◌, ◌&&◌, List, [], ◌∷◌, filter, map, true≢false, flat_map, ◌++◌, Option, Some, None, option_map, All, filter_map}
use Rattle.vt_spec.proofs.Common.{Filesystem, ListsNumbers, Mount, Namespace, Overlay, Task, World, and_parts, cases_Bool, common_steps, filesystem_lives, has_layer_on, has_members, holds_of, is_among, is_mounted, is_overlay, layers_in, layers_of, list_all, list_any, located_in, map_alike, map_twice, mount_lives, named_in, not-true, objects_of_overlay, of_overlay, only_used, only_used_of, or_cases, overlay_or, settled, upper_object, used_in, with_mounts, without_dead_filesystems, without_dead_groups, without_dead_in, without_dead_mounts}
use Rattle.vt_laws_mounts.specs.LettingGo.InUse.{HasTrees, IsListedTree, UppersArePlain, has_upper_in, is_inode_used}
use Rattle.vt_laws_mounts.specs.LettingGo.Overlays.{RealsAreThere}
use Rattle.vt_laws_mounts.proofs.letting_go.sweeps.InUse.{layers_stay, UnusedAreEmpty, after_first, after_second, first_layers, layers-first, layers-second, layers_on, left_by, named-left, no_objects, no_upper_objects, number-first, number-left, number-second, overlay-left, root-left, second_leaves, unused_are_empty, upper-left}
use Rattle.vt_laws_mounts.proofs.letting_go.sweeps.Inodes.{numbers_without}
use Rattle.vt_laws_mounts.proofs.letting_go.Lists.{Among, among-append, among-append_left, among-append_right, among-filter, among-filter_map, among-flat_map, among-from_filter, among-from_filter_map, among-from_flat_map, among-from_map, among-map, among_from_all, among_numbers, any-filter, any-map, any_among, any_from_among, filter-map, filter_twice, flat_map-map, flat_map-of_map, flat_map_alike, flat_map_none, is_among_numbers, or_left, or_right}
use Rattle.vt_laws_mounts.proofs.letting_go.sweeps.Merged.{HasReals, left_of, reals_without, without_all, without_both}
use Rattle.vt_spec.proofs.Lists.{none-filter}

-- one of two tests that follows from the other
pub follows : (a b : Bool) → (a ≡ true → b ≡ true) → a ≡ (b && a)
follows true b h = sym (ap (λ c. c && true) (h refl))
follows false true h = refl
follows false false h = refl

-- the real objects of an overlay without fewer inodes
objects_more : (some more : ℕ → Bool) (number : ℕ) (g : Filesystem ℕ) → ((k : ℕ) → some k ≡ true → more k ≡ true)
    → (object : ℕ) → Among object (objects_of_overlay nat_eq number (without_all more g))
    → Among object (objects_of_overlay nat_eq number (without_all some g))
objects_more some more number g within object = over _
  where
    over : (o : Option (Overlay ℕ)) → Among object (overlay_or [] (λ overlay.
        cond (holds_of (λ layer. nat_eq number layer.filesystem) overlay.upper)
        (filter_map (λ k. upper_object (overlay.real k)) (filter (λ k. not (more k)) g.files.numbers)) [])
        (option_map (reals_without more) o)) → Among object (overlay_or [] (λ overlay.
        cond (holds_of (λ layer. nat_eq number layer.filesystem) overlay.upper)
        (filter_map (λ k. upper_object (overlay.real k)) (filter (λ k. not (some k)) g.files.numbers)) [])
        (option_map (reals_without some) o))
    over None m = absurd m
    over (Some overlay) m = here _ m
      where
        left : (k : ℕ) (a : Bool) → some k ≡ a → not (more k) ≡ true → some k ≡ false
        left k false e stays = e
        left k true e stays = absurd (cc (within k e))

        here : (b : Bool) → Among object (cond b (filter_map (λ k. upper_object (cond (more k) None (overlay.real k)))
            (filter (λ k. not (more k)) g.files.numbers)) [])
            → Among object (cond b (filter_map (λ k. upper_object (cond (some k) None (overlay.real k)))
            (filter (λ k. not (some k)) g.files.numbers)) [])
        here false n = absurd n
        here true n =
            let from = among-from_filter_map (λ k. upper_object (cond (more k) None (overlay.real k)))
            (filter (λ k. not (more k)) g.files.numbers) object n in
            let listed = among-from_filter (λ k. not (more k)) g.files.numbers from.0 from.1 in
            let stays = left from.0 _ refl listed.1 in
            among-filter_map (λ k. upper_object (cond (some k) None (overlay.real k)))
            (filter (λ k. not (some k)) g.files.numbers) from.0 object (among-filter _ _ from.0 listed.0 (ap not stays))
            (ap (λ b. upper_object (cond b None (overlay.real from.0))) stays ∙ sym
            (ap (λ b. upper_object (cond b None (overlay.real from.0))) (not-true (more from.0) listed.1)) ∙ from.2)

-- What a change makes of a world that was not swept before, and of one that was: the same mounts are in use then, with
-- the same groups, and what is mounted or located then was so before.
pub record SameUses (world once again : World ℕ) : Type 0 where
  pub mounts : filter (mount_lives nat_eq again) again.mounts ≡ filter (mount_lives nat_eq once) once.mounts
  pub master : (group : ℕ) → has_members nat_eq (filter (mount_lives nat_eq once) once.mounts) group ≡ true
      → again.master group ≡ once.master group
  pub mounted : (number : ℕ) → is_mounted nat_eq (without_dead_mounts nat_eq once) number ≡ true
      → is_mounted nat_eq (without_dead_mounts nat_eq world) number ≡ true
  pub located : (filesystem number : ℕ) → Among number (located_in nat_eq (without_dead_mounts nat_eq once) filesystem)
      → Among number (located_in nat_eq (without_dead_mounts nat_eq world) filesystem)

-- The world with other mounts, masters, namespaces and tasks
abbrev pub with_parts : World ℕ → List (Mount ℕ) → (ℕ → Option ℕ) → List (Namespace ℕ) → List (Task ℕ) → World ℕ
with_parts world mounts master namespaces tasks =
    record world { mounts = mounts; master = master; namespaces = namespaces; tasks = tasks }

module _ (world : World ℕ) (once_mounts again_mounts : List (Mount ℕ)) (once_master again_master : ℕ → Option ℕ)
    (namespaces : List (Namespace ℕ)) (tasks : List (Task ℕ))
    (trees : HasTrees world) (uppers : UppersArePlain world) (reals : RealsAreThere world)
    (same : SameUses world (with_parts world once_mounts once_master namespaces tasks)
    (with_parts (settled nat_eq world) again_mounts again_master namespaces tasks)) where
  abbrev once : World ℕ
  once = with_parts world once_mounts once_master namespaces tasks

  abbrev again : World ℕ
  again = with_parts (settled nat_eq world) again_mounts again_master namespaces tasks

  abbrev last_mounts : List (Mount ℕ)
  last_mounts = filter (mount_lives nat_eq once) once_mounts

  same_mounts : filter (mount_lives nat_eq again) again_mounts ≡ last_mounts
  same_mounts = same.mounts

  -- Groups
  same_master : (group : ℕ)
      → cond (has_members nat_eq (filter (mount_lives nat_eq again) again_mounts) group) (again_master group) None
      ≡ cond (has_members nat_eq last_mounts group) (once_master group) None
  same_master group = grind (arith, common_steps)

  -- Filesystems
  abbrev first_living : World ℕ
  first_living = without_dead_filesystems nat_eq (without_dead_mounts nat_eq world)

  abbrev once_living : World ℕ
  once_living = without_dead_filesystems nat_eq (without_dead_mounts nat_eq once)

  abbrev again_living : World ℕ
  again_living = without_dead_filesystems nat_eq (without_dead_mounts nat_eq again)

  last_mounted_was : (number : ℕ) → is_mounted nat_eq (without_dead_mounts nat_eq once) number ≡ true
      → is_mounted nat_eq (without_dead_mounts nat_eq world) number ≡ true
  last_mounted_was = same.mounted

  abbrev lives_first : Filesystem ℕ → Bool
  lives_first f = filesystem_lives nat_eq (without_dead_mounts nat_eq world) f

  abbrev lives_last : Filesystem ℕ → Bool
  lives_last f = filesystem_lives nat_eq (without_dead_mounts nat_eq once) f

  abbrev layered_by : ℕ → Filesystem ℕ → Bool
  layered_by number merged = has_layer_on nat_eq number merged
      && is_mounted nat_eq (without_dead_mounts nat_eq once) merged.number

  lived_first : (f : Filesystem ℕ) → lives_last f ≡ true → lives_first f ≡ true
  lived_first f lives = ⊎_elim (λ here. or_left (is_mounted nat_eq (without_dead_mounts nat_eq world) f.number) _
      (last_mounted_was f.number here)) (λ layered.
      let t = any_among (layered_by f.number) world.filesystems layered in
      let parts = and_parts (has_layer_on nat_eq f.number t.0)
      (is_mounted nat_eq (without_dead_mounts nat_eq once) t.0.number) t.2 in
      or_right (is_mounted nat_eq (without_dead_mounts nat_eq world) f.number) _
      (any_from_among (λ merged. has_layer_on nat_eq f.number merged && is_mounted nat_eq
      (without_dead_mounts nat_eq world) merged.number) world.filesystems t.0 t.1
      (ap (λ b. b && is_mounted nat_eq (without_dead_mounts nat_eq world) t.0.number) parts.0
      ∙ last_mounted_was t.0.number parts.1)))
      (or_cases (is_mounted nat_eq (without_dead_mounts nat_eq once) f.number) _ lives)

  -- what the first sweep leaves of a filesystem
  abbrev swept : Filesystem ℕ → Filesystem ℕ
  swept f = after_second world (after_first world f)

  number-swept : (f : Filesystem ℕ) → (swept f).number ≡ f.number
  number-swept f = number-second world (after_first world f) ∙ number-first world f

  layers-swept : (f : Filesystem ℕ) → of_overlay [] layers_of (swept f) ≡ of_overlay [] layers_of f
  layers-swept f = layers-second world (after_first world f) ∙ layers-first world f

  first_sweep : (settled nat_eq world).filesystems ≡ map swept first_living.filesystems
  first_sweep = map_twice _ _ _

  same_mounted : (number : ℕ) → is_mounted nat_eq (without_dead_mounts nat_eq again) number
      ≡ is_mounted nat_eq (without_dead_mounts nat_eq once) number
  same_mounted number = ap (list_any (λ mount. nat_eq number mount.filesystem)) same_mounts

  same_layered : (number : ℕ) → list_any (λ merged. has_layer_on nat_eq number merged
      && is_mounted nat_eq (without_dead_mounts nat_eq again) merged.number) (settled nat_eq world).filesystems
      ≡ list_any (layered_by number) world.filesystems
  same_layered number = ap (list_any (λ merged. has_layer_on nat_eq number merged && is_mounted nat_eq
      (without_dead_mounts nat_eq again) merged.number)) first_sweep
      ∙ any-map (λ merged. has_layer_on nat_eq number merged && is_mounted nat_eq
      (without_dead_mounts nat_eq again) merged.number) {q = layered_by number} swept first_living.filesystems
      (λ g. ap (λ b. b && is_mounted nat_eq (without_dead_mounts nat_eq again) (swept g).number)
      (layers_on world number (swept g) ∙ ap (list_any (λ layer. nat_eq number layer.filesystem)) (layers-swept g)
      ∙ sym (layers_on world number g)) ∙ ap (λ b. has_layer_on nat_eq number g && b) (same_mounted (swept g).number
      ∙ ap (is_mounted nat_eq (without_dead_mounts nat_eq once)) (number-swept g)))
      ∙ any-filter (layered_by number) lives_first world.filesystems
      (λ g m dead. none g (layered_by number g) refl dead)
    where
      none : (g : Filesystem ℕ) (b : Bool) → layered_by number g ≡ b → lives_first g ≡ false
          → layered_by number g ≡ false
      none g b e dead = grind (arith, common_steps, and_parts, true≢false, or_left, last_mounted_was)

  same_lives : (f : Filesystem ℕ) → filesystem_lives nat_eq (without_dead_mounts nat_eq again) (swept f) ≡ lives_last f
  same_lives f = grind (arith, common_steps, number-swept f, same_mounted f.number, same_layered f.number)

  same_filesystems : again_living.filesystems ≡ map swept once_living.filesystems
  same_filesystems = ap (filter (filesystem_lives nat_eq (without_dead_mounts nat_eq again))) first_sweep ∙ filter-map _
      {q = lives_last} swept first_living.filesystems same_lives ∙ ap (map swept)
      (filter_twice _ _ _ (λ f. follows _ _ (lived_first f)) _)

  -- what lives in the end lived before
  was_living : (f : Filesystem ℕ) → Among f once_living.filesystems → Among f first_living.filesystems
  was_living f m =
      let from = among-from_filter lives_last world.filesystems f m in
      among-filter lives_first world.filesystems f from.0 (lived_first f from.1)

  of_world : (f : Filesystem ℕ) → Among f once_living.filesystems → Among f world.filesystems
  of_world f m = (among-from_filter _ _ f m).0

  -- Inodes: what is at a place in the end was at one before
  was_located_in : (f : Filesystem ℕ) (number : ℕ) → Among number (located_in nat_eq once_living f.number)
      → Among number (located_in nat_eq first_living f.number)
  was_located_in f number m = same.located f.number number m

  was_layer : (filesystem number : ℕ) → Among number (layers_in nat_eq once_living filesystem)
      → Among number (layers_in nat_eq first_living filesystem)
  was_layer = layers_stay once_living first_living (λ f m. (f, was_living f m, refl))

  -- what is used in the end is the same, with a sweep in between and without
  same_uses : (with_sweep without : List (Filesystem ℕ)) (used : List ℕ) (f : Filesystem ℕ) → UnusedAreEmpty used f
      → (all : Bool) → ((number : ℕ) → layers_in nat_eq (record again_living { filesystems = with_sweep }) number
      ≡ layers_in nat_eq (record once_living { filesystems = without }) number)
      → flat_map (objects_of_overlay nat_eq f.number) with_sweep ≡ flat_map (objects_of_overlay nat_eq f.number) without
      → used_in nat_eq (record again_living { filesystems = with_sweep }) (left_by used f all)
      ≡ used_in nat_eq (record once_living { filesystems = without }) f
  same_uses with_sweep without used f empty all layers objects =
      λ i. root-left used f all i ∷ (named-left used f empty all i
      ++ located_in nat_eq (with_mounts once (same_mounts i)) (number-left used f all i)
      ++ (layers (left_by used f all).number ∙ ap (layers_in nat_eq (record once_living { filesystems = without }))
      (number-left used f all)) i
      ++ (ap (λ n. flat_map (objects_of_overlay nat_eq n) with_sweep) (number-left used f all) ∙ objects) i)

  -- and a second sweep takes no less than one alone
  swept_twice : (used later : List ℕ) (f : Filesystem ℕ) → Among f world.filesystems
      → ((number : ℕ) → is_among nat_eq number later ≡ true → is_among nat_eq number used ≡ true)
      → only_used_of nat_eq later (only_used_of nat_eq used f) ≡ only_used_of nat_eq later f
  swept_twice used later f m within = ap (only_used_of nat_eq later) (left_of used f numbers has) ∙ left_of later _
      (numbers_without went f numbers) reals_left ∙ without_both went goes goes (λ number. by number _ refl _ refl) f
      ∙ sym (left_of later f numbers has)
    where
      numbers : ListsNumbers nat_eq f.files
      numbers = (among_from_all (λ g. IsListedTree g.files) world.filesystems trees f m).numbers

      has : HasReals f
      has = among_from_all HasReals world.filesystems reals f m

      went : ℕ → Bool
      went number = not (is_among nat_eq number used)

      goes : ℕ → Bool
      goes number = not (is_among nat_eq number later)

      reals_left : HasReals (without_all went f)
      reals_left number none = grind (arith, common_steps, none, has, reals_without)

      by : (number : ℕ) (b : Bool) → is_among nat_eq number later ≡ b → (c : Bool) → is_among nat_eq number used ≡ c
          → not (is_among nat_eq number later)
          ≡ (not (is_among nat_eq number used) || not (is_among nat_eq number later))
      by number b e true f = ap (λ c. not c || not (is_among nat_eq number later)) (sym f)
      by number false e false f = cc
      by number true e false f = absurd (cc (within number e))

  -- what is used in the end was used before
  used_before : (with_sweep without : World ℕ) (f : Filesystem ℕ)
      → ((number : ℕ) → Among number (located_in nat_eq without f.number)
      → Among number (located_in nat_eq with_sweep f.number))
      → ((number : ℕ) → Among number (layers_in nat_eq without f.number)
      → Among number (layers_in nat_eq with_sweep f.number))
      → ((number : ℕ) → Among number (flat_map (objects_of_overlay nat_eq f.number) without.filesystems)
      → Among number (flat_map (objects_of_overlay nat_eq f.number) with_sweep.filesystems))
      → (number : ℕ) → is_inode_used without f number ≡ true → is_inode_used with_sweep f number ≡ true
  used_before with_sweep without f located layers objects number is =
      is_among_numbers number (used_in nat_eq with_sweep f) (⊎_elim
      (λ front. among-append_left (names ++ located_in nat_eq with_sweep f.number
      ++ layers_in nat_eq with_sweep f.number) objects_then number (⊎_elim
      (λ first. among-append_left (names ++ located_in nat_eq with_sweep f.number)
      (layers_in nat_eq with_sweep f.number) number
      (⊎_elim (λ named. among-append_left names (located_in nat_eq with_sweep f.number) number named)
      (λ at. among-append_right names (located_in nat_eq with_sweep f.number) number (located number at))
      (among-append names (located_in nat_eq without f.number) number first)))
      (λ layer. among-append_right (names ++ located_in nat_eq with_sweep f.number)
      (layers_in nat_eq with_sweep f.number) number (layers number layer))
      (among-append (names ++ located_in nat_eq without f.number) (layers_in nat_eq without f.number) number front)))
      (λ object. among-append_right (names ++ located_in nat_eq with_sweep f.number
      ++ layers_in nat_eq with_sweep f.number) objects_then number (objects number object))
      (among-append (names ++ located_in nat_eq without f.number ++ layers_in nat_eq without f.number)
      (flat_map (objects_of_overlay nat_eq f.number) without.filesystems) number
      (among_numbers number (used_in nat_eq without f) is)))
    where
      names : List ℕ
      names = f.files.tree.root ∷ named_in f.files

      objects_then : List ℕ
      objects_then = flat_map (objects_of_overlay nat_eq f.number) with_sweep.filesystems

  -- Overlays
  again_layers : (number : ℕ) → layers_in nat_eq again_living number ≡ layers_in nat_eq once_living number
  again_layers number =
      cc (same_filesystems, flat_map-map swept (of_overlay [] layers_of) once_living.filesystems layers-swept)

  tree_of : (f : Filesystem ℕ) → Among f once_living.filesystems → IsListedTree f.files
  tree_of f m = among_from_all (λ g. IsListedTree g.files) world.filesystems trees f (of_world f m)

  no_upper_in : (f : Filesystem ℕ) → Among f once_living.filesystems → is_overlay f ≡ true → (g : Filesystem ℕ)
      → Among g once_living.filesystems → has_upper_in f.number g ≡ false
  no_upper_in f m is g n = among_from_all (λ x. has_upper_in f.number x ≡ false) world.filesystems
      (among_from_all (λ x. is_overlay x ≡ true → All (λ y. has_upper_in x.number y
      ≡ false) world.filesystems) world.filesystems uppers f (of_world f m) is) g (of_world g n)

  upper-swept : (number : ℕ) (g : Filesystem ℕ) → has_upper_in number (swept g) ≡ has_upper_in number g
  upper-swept number g = grind (arith, common_steps, upper-left)

  overlay_alike : (f : Filesystem ℕ) → Among f once_living.filesystems → is_overlay f ≡ true
      → after_first again (swept f) ≡ after_first once f
  overlay_alike f m is = ap (λ x. only_used nat_eq again_living (is_overlay x) x) is_left
      ∙ ap (λ b. only_used nat_eq again_living b left) (overlay-left used f all ∙ is)
      ∙ ap (λ u. only_used_of nat_eq u left) (same_uses again_living.filesystems once_living.filesystems used f
      (unused_are_empty first_living f (tree_of f m)) all again_layers (no_objects_again ∙ sym no_objects_once))
      ∙ swept_twice used (used_in nat_eq once_living f) f (of_world f m)
      (used_before first_living once_living f (λ n at. was_located_in f n at) (was_layer f.number)
      (λ n object. absurd (subst (Among n) no_objects_once object)))
      ∙ sym (ap (λ b. only_used nat_eq once_living b f) is)
    where
      used : List ℕ
      used = used_in nat_eq first_living f

      all : Bool
      all = list_all (λ number. is_among nat_eq number used) f.files.numbers

      left : Filesystem ℕ
      left = only_used_of nat_eq used f

      is_left : swept f ≡ left
      is_left = second_leaves world (after_first world f) (ap (λ b. is_overlay (only_used nat_eq first_living b f)) is
          ∙ overlay-left used f all ∙ is) ∙ ap (λ b. only_used nat_eq first_living b f) is

      no_objects_once : flat_map (objects_of_overlay nat_eq f.number) once_living.filesystems ≡ []
      no_objects_once = flat_map_none (objects_of_overlay nat_eq f.number) once_living.filesystems
          (λ g n. no_upper_objects world f.number g (no_upper_in f m is g n))

      no_objects_again : flat_map (objects_of_overlay nat_eq f.number) again_living.filesystems ≡ []
      no_objects_again = ap (flat_map (objects_of_overlay nat_eq f.number)) same_filesystems
          ∙ flat_map_none (objects_of_overlay nat_eq f.number) (map swept once_living.filesystems) (λ x n.
          let from = among-from_map swept once_living.filesystems x n in
          no_upper_objects world f.number x (ap (has_upper_in f.number) from.2 ∙ upper-swept f.number from.0
          ∙ no_upper_in f m is from.0 from.1))

  -- Plain trees
  plain_swept : (f : Filesystem ℕ) → is_overlay f ≡ false
      → swept f ≡ only_used_of nat_eq (used_in nat_eq (without_dead_in nat_eq is_overlay first_living) f) f
  plain_swept f isnt = ap (after_second world) (ap (λ b. only_used nat_eq first_living b f) isnt)
      ∙ ap (λ b. only_used nat_eq (without_dead_in nat_eq is_overlay first_living) (not b) f) isnt

  -- objects that overlays have in a tree
  same_objects_of : (number : ℕ) (g : Filesystem ℕ) → Among g once_living.filesystems
      → objects_of_overlay nat_eq number (after_first again (swept g))
      ≡ objects_of_overlay nat_eq number (after_first once g)
  same_objects_of number g m = ⊎_elim (λ is. ap (objects_of_overlay nat_eq number) (overlay_alike g m is))
      (λ isnt. let left = ap is_overlay (plain_swept g isnt)
      ∙ overlay-left (used_in nat_eq (without_dead_in nat_eq is_overlay first_living) g) g _ ∙ isnt in
      ap (λ b. objects_of_overlay nat_eq number (only_used nat_eq again_living b (swept g))) left
      ∙ no_objects world number (swept g) left
      ∙ sym (ap (λ b. objects_of_overlay nat_eq number (only_used nat_eq once_living b g)) isnt
      ∙ no_objects world number g isnt)) (cases_Bool (is_overlay g))

  same_objects_in : (number : ℕ)
      → flat_map (objects_of_overlay nat_eq number) (without_dead_in nat_eq is_overlay again_living).filesystems
      ≡ flat_map (objects_of_overlay nat_eq number) (without_dead_in nat_eq is_overlay once_living).filesystems
  same_objects_in number =
      ap (λ fs. flat_map (objects_of_overlay nat_eq number) (map (after_first again) fs)) same_filesystems
      ∙ ap (flat_map (objects_of_overlay nat_eq number)) (map_twice (after_first again) swept once_living.filesystems)
      ∙ flat_map-of_map (objects_of_overlay nat_eq number) (λ g. after_first again (swept g)) once_living.filesystems
      ∙ flat_map_alike (λ g. objects_of_overlay nat_eq number (after_first again (swept g)))
      (λ g. objects_of_overlay nat_eq number (after_first once g)) once_living.filesystems (same_objects_of number)
      ∙ sym (flat_map-of_map (objects_of_overlay nat_eq number) (after_first once) once_living.filesystems)

  object_before : (number object : ℕ) (g : Filesystem ℕ) → Among g once_living.filesystems
      → Among object (objects_of_overlay nat_eq number (after_first once g))
      → Among object (objects_of_overlay nat_eq number (after_first world g))
  object_before number object g m n = ⊎_elim (λ is.
      subst (λ x. Among object (objects_of_overlay nat_eq number x))
      (sym (ap (λ b. only_used nat_eq first_living b g) is ∙ left_of (used_in nat_eq first_living g) g numbers has))
      (objects_more (λ k. not (is_among nat_eq k (used_in nat_eq first_living g)))
      (λ k. not (is_among nat_eq k (used_in nat_eq once_living g))) number g
      (λ k went. by k (is_among nat_eq k (used_in nat_eq once_living g)) refl is went) object
      (subst (λ x. Among object (objects_of_overlay nat_eq number x))
      (ap (λ b. only_used nat_eq once_living b g) is ∙ left_of (used_in nat_eq once_living g) g numbers has) n)))
      (λ isnt. absurd (subst (Among object)
      (ap (λ b. objects_of_overlay nat_eq number (only_used nat_eq once_living b g)) isnt
      ∙ no_objects world number g isnt) n)) (cases_Bool (is_overlay g))
    where
      numbers : ListsNumbers nat_eq g.files
      numbers = (tree_of g m).numbers

      has : HasReals g
      has = among_from_all HasReals world.filesystems reals g (of_world g m)

      by : (k : ℕ) (b : Bool) → is_among nat_eq k (used_in nat_eq once_living g) ≡ b → is_overlay g ≡ true
          → not (is_among nat_eq k (used_in nat_eq first_living g)) ≡ true
          → not (is_among nat_eq k (used_in nat_eq once_living g)) ≡ true
      by k false e is went = ap not e
      by k true e is went = absurd (true≢false (sym went ∙ ap not
          (used_before first_living once_living g (λ x at. was_located_in g x at) (was_layer g.number)
          (λ x o. absurd (subst (Among x) (flat_map_none (objects_of_overlay nat_eq g.number) once_living.filesystems
          (λ h l. no_upper_objects world g.number h (no_upper_in g m is h l))) o)) k e)))

  plain_alike : (f : Filesystem ℕ) → Among f once_living.filesystems → is_overlay f ≡ false
      → after_second again (after_first again (swept f)) ≡ after_second once (after_first once f)
  plain_alike f m isnt = ap (λ x. after_second again (after_first again x)) (plain_swept f isnt)
      ∙ ap (λ b. after_second again (only_used nat_eq again_living b left)) left_plain
      ∙ ap (λ b. only_used nat_eq (without_dead_in nat_eq is_overlay again_living) (not b) left) left_plain
      ∙ ap (λ u. only_used_of nat_eq u left) (same_uses (without_dead_in nat_eq is_overlay again_living).filesystems
      (without_dead_in nat_eq is_overlay once_living).filesystems used f
      (unused_are_empty (without_dead_in nat_eq is_overlay first_living) f (tree_of f m)) all
      (λ n. first_layers again n ∙ again_layers n ∙ sym (first_layers once n)) (same_objects_in f.number))
      ∙ swept_twice used (used_in nat_eq (without_dead_in nat_eq is_overlay once_living) f) f (of_world f m)
      (used_before (without_dead_in nat_eq is_overlay first_living) (without_dead_in nat_eq is_overlay once_living) f
      (λ n at. was_located_in f n at) (λ n layer. subst (Among n) (sym (first_layers world f.number))
      (was_layer f.number n (subst (Among n) (first_layers once f.number) layer)))
      (λ n object. let from = among-from_flat_map (objects_of_overlay nat_eq f.number)
      (without_dead_in nat_eq is_overlay once_living).filesystems n object in
      let one = among-from_map (after_first once) once_living.filesystems from.0 from.1 in
      among-flat_map (objects_of_overlay nat_eq f.number) (without_dead_in nat_eq is_overlay first_living).filesystems
      (after_first world one.0) n
      (among-map (after_first world) first_living.filesystems one.0 (was_living one.0 one.1))
      (object_before f.number n one.0 one.1
      (subst (λ x. Among n (objects_of_overlay nat_eq f.number x)) one.2 from.2))))
      ∙ sym (ap (λ b. after_second once (only_used nat_eq once_living b f)) isnt
      ∙ ap (λ b. only_used nat_eq (without_dead_in nat_eq is_overlay once_living) (not b) f) isnt)
    where
      used : List ℕ
      used = used_in nat_eq (without_dead_in nat_eq is_overlay first_living) f

      all : Bool
      all = list_all (λ number. is_among nat_eq number used) f.files.numbers

      left : Filesystem ℕ
      left = only_used_of nat_eq used f

      left_plain : is_overlay left ≡ false
      left_plain = overlay-left used f all ∙ isnt

  overlay_left_so : (f : Filesystem ℕ) → Among f once_living.filesystems → is_overlay f ≡ true
      → after_second again (after_first again (swept f)) ≡ after_second once (after_first once f)
  overlay_left_so f m is = grind (arith, common_steps, overlay_alike f m is, second_leaves, overlay-left)

  same_swept : (settled nat_eq again).filesystems ≡ (settled nat_eq once).filesystems
  same_swept = ap (λ fs. map (after_second again) (map (after_first again) fs)) same_filesystems ∙ ap
      (map (after_second again)) (map_twice _ swept _) ∙ map_twice _ _ _ ∙ map_alike _ _ _
      (λ f m. ⊎_elim (overlay_left_so f m) (plain_alike f m) (cases_Bool _)) ∙ sym (map_twice _ _ _)

  -- a sweep before the change makes no difference after the sweep that follows it
  pub one_sweep_after_both : settled nat_eq again ≡ settled nat_eq once
  one_sweep_after_both = λ i. record once {
    mounts = same_mounts i;
    master = λ group. same_master group i;
    filesystems = same_swept i;
  }

-- A sweep leaves the same world where groups without members ended before it.
pub settled_without_groups : (world : World ℕ) → settled nat_eq (without_dead_groups nat_eq world)
    ≡ settled nat_eq world
settled_without_groups world = grind (arith, common_steps, true≢false, none-filter)
