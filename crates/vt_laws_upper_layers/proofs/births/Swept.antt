-- Inodes that are kept without a name, after the sweep.
use Rattle.std.proofs.Common.{◌≡◌, ◌≢◌, refl, sym, ap, subst, ◌∙◌, true≢false, arith, ℕ, nat_eq, eqb-true, Bool, true, false, cond, not, ◌&&◌, ◌||◌, List, [], ◌∷◌, ◌++◌, Option, Some, None, is_some, map, filter, find, option_map, unwrap_or}
use Rattle.vt_spec.proofs.Common.{Among, Filesystem, HasName, IsTree, IsWorld, ListsNumbers, Overlay, OverlayInvariants, Real, World, among-from_filter, among_from_all, among_from_list_all, among_targets, entries_in, filesystem_lives, filesystem_numbered, is_among, is_among_left, is_among_right, is_overlay, layers_in, list_all, located_in, named_in, no_filesystem, none_is_some, number-only_used, only_used, only_used_by, only_used_of, same_Some, settled, some_from_is_some, targets_in, used_in}
use Rattle.vt_spec.specs.Machine.Settled.{real_among, without_dead_in, without_dead_inodes}
use Rattle.vt_laws_mounts.specs.LettingGo.InUse.{IsListedTree, is_inode_used}
use Rattle.vt_laws_mounts.specs.LettingGo.TreesOverlays.{in_use_of}
use Rattle.vt_laws_mounts.proofs.letting_go.Lists.{among_numbers}
use Rattle.vt_laws_mounts.proofs.letting_go.Trees.{unnamed_is_empty}
use Rattle.vt_laws_mounts.proofs.letting_go.sweeps.OfWorlds.{all_in_use, found_filesystem}
use Rattle.vt_laws_trees.proofs.layers.layers.LowersWorld.{number_of_filesystem}
use Rattle.vt_laws_trees.proofs.layers.locked.Apart.{merged_among}
use Rattle.vt_laws_worlds.specs.Worlds.Kept.{IsUnderWay}
use Rattle.vt_laws_worlds.proofs.overlay_permits.worlds.SweptWorlds.{settling_leaves_every_world}
use Rattle.vt_laws_worlds.proofs.seen.used.Unnamed.{unnamed_are_used_where_located}
use Rattle.vt_laws_upper_layers.specs.Naming.{AreKept, KeptAreLocated}

-- a filesystem is found among the changed ones as it is changed
pub numbered-map : (change : Filesystem ℕ → Filesystem ℕ) → ((f : Filesystem ℕ) → (change f).number ≡ f.number)
    → (number : ℕ) → change (no_filesystem number) ≡ no_filesystem number → (all : List (Filesystem ℕ))
    → unwrap_or (find (λ (f : Filesystem ℕ). nat_eq number f.number) (map change all)) (no_filesystem number)
    ≡ change (unwrap_or (find (λ (f : Filesystem ℕ). nat_eq number f.number) all) (no_filesystem number))
numbered-map change same number none [] = sym none
numbered-map change same number none (first ∷ rest) =
    ap (λ n. unwrap_or (cond (nat_eq number n) (Some (change first))
    (find (λ (f : Filesystem ℕ). nat_eq number f.number) (map change rest))) (no_filesystem number)) (same first)
    ∙ by (nat_eq number first.number) (numbered-map change same number none rest)
  where
    by : (b : Bool)
        → unwrap_or (find (λ (f : Filesystem ℕ). nat_eq number f.number) (map change rest)) (no_filesystem number)
        ≡ change (unwrap_or (find (λ (f : Filesystem ℕ). nat_eq number f.number) rest) (no_filesystem number))
        → unwrap_or (cond b (Some (change first))
        (find (λ (f : Filesystem ℕ). nat_eq number f.number) (map change rest))) (no_filesystem number)
        ≡ change (unwrap_or (cond b (Some first)
        (find (λ (f : Filesystem ℕ). nat_eq number f.number) rest)) (no_filesystem number))
    by true more = refl
    by false more = more

is_overlay-only_used_by : (all : Bool) (used : List ℕ) (f : Filesystem ℕ)
    → is_overlay (only_used_by nat_eq all used f) ≡ is_overlay f
is_overlay-only_used_by true used f = refl
is_overlay-only_used_by false used f = by f.overlay
  where
    by : (o : Option (Overlay ℕ)) → is_some (option_map (real_among nat_eq used) o) ≡ is_some o
    by None = refl
    by (Some overlay) = refl

pub is_overlay-only_used : (world : World ℕ) (chosen : Bool) (f : Filesystem ℕ)
    → is_overlay (only_used nat_eq world chosen f) ≡ is_overlay f
is_overlay-only_used world true f =
    is_overlay-only_used_by (list_all (λ n. is_among nat_eq n (used_in nat_eq world f)) f.files.numbers)
    (used_in nat_eq world f) f
is_overlay-only_used world false f = refl

-- The overlay that the sweep leaves
module _ (world : World ℕ) (under : IsUnderWay world) (number : ℕ) (later : Overlay ℕ)
    (is : (filesystem_numbered nat_eq (settled nat_eq world) number).overlay ≡ Some later) where
  abbrev living : World ℕ
  living = in_use_of world

  abbrev between : World ℕ
  between = without_dead_in nat_eq is_overlay living

  abbrev pub old : Filesystem ℕ
  old = filesystem_numbered nat_eq living number

  first : Filesystem ℕ
  first = filesystem_numbered nat_eq between number

  abbrev pub used : List ℕ
  used = used_in nat_eq living old

  first_is : filesystem_numbered nat_eq between number ≡ only_used nat_eq living (is_overlay old) old
  first_is = numbered-map (λ f. only_used nat_eq living (is_overlay f) f)
      (λ f. number-only_used living (is_overlay f) f) number refl living.filesystems

  second_is : filesystem_numbered nat_eq (settled nat_eq world) number
      ≡ only_used nat_eq between (not (is_overlay (filesystem_numbered nat_eq between number)))
      (filesystem_numbered nat_eq between number)
  second_is = numbered-map (λ f. only_used nat_eq between (not (is_overlay f)) f)
      (λ f. number-only_used between (not (is_overlay f)) f) number refl between.filesystems

  overlay_first : is_overlay (filesystem_numbered nat_eq between number) ≡ true
  overlay_first =
      sym (is_overlay-only_used between (not (is_overlay (filesystem_numbered nat_eq between number)))
      (filesystem_numbered nat_eq between number)) ∙ ap is_overlay (sym second_is) ∙ ap is_some is

  overlay_old : is_overlay old ≡ true
  overlay_old = sym (is_overlay-only_used living (is_overlay old) old) ∙ ap is_overlay (sym first_is) ∙ overlay_first

  pub swept_is : filesystem_numbered nat_eq (settled nat_eq world) number ≡ only_used_of nat_eq used old
  swept_is = second_is
      ∙ ap (λ b. only_used nat_eq between (not b) (filesystem_numbered nat_eq between number)) overlay_first
      ∙ first_is ∙ ap (λ b. only_used nat_eq living b old) overlay_old

  -- it is the one that was there
  pub was : old ≡ filesystem_numbered nat_eq world number
  was =
      let found = some_from_is_some old.overlay overlay_old in
      let among = (among-from_filter (filesystem_lives nat_eq (Rattle.vt_spec.specs.Machine.Settled.without_dead_mounts
      nat_eq world)) world.filesystems old
      (among-from_filter is_overlay living.filesystems old (merged_among living number found.0 found.1)).0).0 in
      sym (found_filesystem world.filesystems under.files.one_filesystem old among)
      ∙ ap (filesystem_numbered nat_eq world) (number_of_filesystem living number)

  module _ (conditions : OverlayInvariants nat_eq world) (overlay : Overlay ℕ)
      (there : (filesystem_numbered nat_eq world number).overlay ≡ Some overlay) where
    abbrev swept : Filesystem ℕ
    swept = filesystem_numbered nat_eq (settled nat_eq world) number

    abbrev all : Bool
    all = list_all (λ n. is_among nat_eq n used) old.files.numbers

    overlay_there : old.overlay ≡ Some overlay
    overlay_there = ap (λ (f : Filesystem ℕ). f.overlay) was ∙ there

    old_among : Among (filesystem_numbered nat_eq world number) world.filesystems
    old_among = (among-from_filter is_overlay world.filesystems (filesystem_numbered nat_eq world number)
        (merged_among world number overlay there)).0

    listed : IsListedTree old.files
    listed = subst (λ (f : Filesystem ℕ). IsListedTree f.files) (sym was) (record {
      tree = among_from_all (λ (f : Filesystem ℕ). IsTree f.files.tree) world.filesystems under.files.trees _ old_among;
      numbers = among_from_all (λ (f : Filesystem ℕ). ListsNumbers nat_eq f.files) world.filesystems
          under.files.numbers _ old_among;
    })

    -- what has a real object is listed
    real_listed : (n : ℕ) → is_some (overlay.real n) ≡ true → is_among nat_eq n old.files.numbers ≡ true
    real_listed n e = by (old.files.tree.node n) refl
      where
        by : (o : Option (Rattle.vt_spec.specs.Tree.Node ℕ)) → old.files.tree.node n ≡ o
            → is_among nat_eq n old.files.numbers ≡ true
        by (Some node) f = listed.numbers n ∙ ap is_some f
        by None f = absurd (true≢false (sym e ∙ ap is_some ((conditions.overlays_merge number overlay there).real_there n
            (ap (λ (g : Filesystem ℕ). g.files.tree.node n) (sym was) ∙ f))))

    -- the overlay that is left
    left_by : (b : Bool) → all ≡ b → (only_used_by nat_eq b used old).overlay ≡ Some later
    left_by b e = ap (λ x. (only_used_by nat_eq x used old).overlay) (sym e)
        ∙ ap (λ (f : Filesystem ℕ). f.overlay) (sym swept_is) ∙ is

    left_whole : all ≡ true → later ≡ overlay
    left_whole e = same_Some later overlay (sym (left_by true e) ∙ overlay_there)

    left_in_part : all ≡ false → later ≡ real_among nat_eq used overlay
    left_in_part e = same_Some later (real_among nat_eq used overlay)
        (sym (left_by false e) ∙ ap (option_map (real_among nat_eq used)) overlay_there)

    -- it has its layers, and real objects that were there
    pub overlay_left : later ≡ record overlay { real = later.real }
    overlay_left = by all refl
      where
        by : (b : Bool) → all ≡ b → later ≡ record overlay { real = later.real }
        by true e = left_whole e ∙ ap (λ r. record overlay { real = r }) (sym (ap (λ (o : Overlay ℕ). o.real) (left_whole e)))
        by false e = left_in_part e
            ∙ ap (λ r. record overlay { real = r }) (sym (ap (λ (o : Overlay ℕ). o.real) (left_in_part e)))

    pub real_left : (n : ℕ) (object : Real ℕ) → later.real n ≡ Some object → overlay.real n ≡ Some object
    real_left n object e = by all refl
      where
        one : (b : Bool) → cond b (overlay.real n) None ≡ Some object → overlay.real n ≡ Some object
        one true f = f
        one false f = none_is_some object f

        by : (b : Bool) → all ≡ b → overlay.real n ≡ Some object
        by true f = sym (ap (λ (o : Overlay ℕ). o.real n) (left_whole f)) ∙ e
        by false f =
            one (is_among nat_eq n used) (sym (ap (λ (o : Overlay ℕ). o.real n) (left_in_part f)) ∙ e)

    real_is : (n : ℕ) → is_some (later.real n) ≡ (is_some (overlay.real n) && is_among nat_eq n used)
    real_is n = by all refl
      where
        and_same : (a b : Bool) → (a ≡ true → b ≡ true) → a ≡ (a && b)
        and_same true b f = sym (f refl)
        and_same false b f = refl

        swapped : (o : Option (Real ℕ)) (b : Bool) → is_some (cond b o None) ≡ (is_some o && b)
        swapped None true = refl
        swapped None false = refl
        swapped (Some object) true = refl
        swapped (Some object) false = refl

        by : (b : Bool) → all ≡ b → is_some (later.real n) ≡ (is_some (overlay.real n) && is_among nat_eq n used)
        by true e =
            ap (λ (o : Overlay ℕ). is_some (o.real n)) (left_whole e)
            ∙ and_same (is_some (overlay.real n)) (is_among nat_eq n used)
            (λ some. among_from_list_all (λ k. is_among nat_eq k used) old.files.numbers e n
            (among_numbers n old.files.numbers (real_listed n some)))
        by false e = ap (λ (o : Overlay ℕ). is_some (o.real n)) (left_in_part e)
            ∙ swapped (overlay.real n) (is_among nat_eq n used)

    -- names stay
    named_stays : (n : ℕ) → HasName old.files.tree n → HasName swept.files.tree n
    named_stays n named = subst (λ (f : Filesystem ℕ). HasName f.files.tree n) (sym swept_is) (by all)
      where
        directory_used : is_among nat_eq named.0 used ≡ true
        directory_used = root (nat_eq named.0 old.files.tree.root) refl
          where
            above : is_among nat_eq named.0 (named_in old.files) ≡ true → is_among nat_eq named.0 used ≡ true
            above e = is_among_right named.0 (old.files.tree.root ∷ []) _
                (is_among_left named.0 (named_in old.files ++ located_in nat_eq living old.number
                ++ layers_in nat_eq living old.number) _
                (is_among_left named.0 (named_in old.files ++ located_in nat_eq living old.number) _
                (is_among_left named.0 (named_in old.files) _ e)))

            root : (b : Bool) → nat_eq named.0 old.files.tree.root ≡ b → is_among nat_eq named.0 used ≡ true
            root true e = is_among_left named.0 (old.files.tree.root ∷ []) _ (ap (λ b. b || false) e)
            root false e = has (is_among nat_eq named.0 (named_in old.files)) refl
              where
                has : (b : Bool) → is_among nat_eq named.0 (named_in old.files) ≡ b
                    → is_among nat_eq named.0 used ≡ true
                has true f = above f
                has false f = absurd (subst (λ list. Among n list)
                    (unnamed_is_empty old.files listed named.0
                    (λ same. true≢false (sym (Rattle.std.proofs.Common.eq-eqb named.0 old.files.tree.root same) ∙ e)) f)
                    (among_numbers n (targets_in (old.files.tree.node named.0))
                    (among_targets named.1 (entries_in (old.files.tree.node named.0)) n named.2)))

        by : (b : Bool) → HasName (only_used_by nat_eq b used old).files.tree n
        by true = named
        by false = (
          named.0,
          named.1,
          ap (λ b. Rattle.vt_spec.specs.Tree.entry_named named.1
              (entries_in (cond b (old.files.tree.node named.0) None))) directory_used ∙ named.2,
        )

    same_root : swept.files.tree.root ≡ old.files.tree.root
    same_root = ap (λ (f : Filesystem ℕ). f.files.tree.root) swept_is ∙ by all
      where
        by : (b : Bool) → (only_used_by nat_eq b used old).files.tree.root ≡ old.files.tree.root
        by true = refl
        by false = refl

    world_later : IsWorld nat_eq (settled nat_eq world)
    world_later = settling_leaves_every_world world under conditions

    -- what is located is used, and what is there without a name is located
    abbrev located : List ℕ
    located = located_in nat_eq (settled nat_eq world) number

    located_used : (n : ℕ) → is_among nat_eq n located ≡ true → is_among nat_eq n used ≡ true
    located_used n e = is_among_right n (old.files.tree.root ∷ []) _
        (is_among_left n (named_in old.files ++ located_in nat_eq living old.number ++ layers_in nat_eq living old.number) _
        (is_among_left n (named_in old.files ++ located_in nat_eq living old.number) _
        (is_among_right n (named_in old.files) (located_in nat_eq living old.number)
        (ap (λ k. is_among nat_eq n (located_in nat_eq living k)) (number_of_filesystem living number) ∙ e))))

    there_located : (n : ℕ) → ¬ (HasName swept.files.tree n) → n ≢ swept.files.tree.root
        → is_some (later.real n) ≡ true → is_among nat_eq n located ≡ true
    there_located n unnamed no_root some =
        sym (unnamed_are_used_where_located (settled nat_eq world) number later n world_later is unnamed no_root)
        ∙ among_from_list_all (is_inode_used (settled nat_eq world) swept) swept.files.numbers
        (among_from_all (λ (f : Filesystem ℕ).
        list_all (is_inode_used (settled nat_eq world) f) f.files.numbers ≡ true)
        (settled nat_eq world).filesystems (all_in_use (settled nat_eq world) world_later).inodes swept swept_among)
        n (among_numbers n swept.files.numbers (by (swept.files.tree.node n) refl))
      where
        swept_among : Among swept (settled nat_eq world).filesystems
        swept_among = (among-from_filter is_overlay (settled nat_eq world).filesystems swept
            (merged_among (settled nat_eq world) number later is)).0

        by : (o : Option (Rattle.vt_spec.specs.Tree.Node ℕ)) → swept.files.tree.node n ≡ o
            → is_among nat_eq n swept.files.numbers ≡ true
        by (Some node) f = among_from_all (λ (g : Filesystem ℕ). ListsNumbers nat_eq g.files)
            (settled nat_eq world).filesystems world_later.files.numbers swept swept_among n ∙ ap is_some f
        by None f = absurd (true≢false (sym some
            ∙ ap is_some ((world_later.overlays.overlays_merge number later is).real_there n f)))

    kept_swept : (kept : ℕ → Bool) → AreKept kept (filesystem_numbered nat_eq world number).files.tree overlay.real
        → AreKept (λ n. kept n && is_among nat_eq n located) swept.files.tree later.real
    kept_swept kept are n unnamed no_root =
        by (is_among nat_eq n used) refl (is_among nat_eq n located) refl (is_some (later.real n)) refl
      where
        old_kept : is_some (overlay.real n) ≡ kept n
        old_kept = are n
            (λ named. unnamed (named_stays n (subst (λ (f : Filesystem ℕ). HasName f.files.tree n) (sym was) named)))
            (λ root. no_root (root ∙ ap (λ (f : Filesystem ℕ). f.files.tree.root) (sym was) ∙ sym same_root))

        left_is : is_some (later.real n) ≡ (kept n && is_among nat_eq n used)
        left_is = real_is n ∙ ap (λ b. b && is_among nat_eq n used) old_kept

        by : (u : Bool) → is_among nat_eq n used ≡ u → (l : Bool) → is_among nat_eq n located ≡ l
            → (r : Bool) → is_some (later.real n) ≡ r
            → is_some (later.real n) ≡ (kept n && is_among nat_eq n located)
        by true e true f r g = left_is ∙ ap (λ b. kept n && b) (e ∙ sym f)
        by false e false f r g = left_is ∙ ap (λ b. kept n && b) (e ∙ sym f)
        by false e true f r g = absurd (true≢false (sym (located_used n f) ∙ e))
        by true e false f true g = absurd (true≢false (sym (there_located n unnamed no_root g) ∙ f))
        by true e false f false g = g ∙ sym (ap (λ b. kept n && b) f ∙ none (kept n))
          where
            none : (b : Bool) → (b && false) ≡ false
            none true = refl
            none false = refl

pub kept_are_located : KeptAreLocated
kept_are_located world number overlay later kept under conditions there is are =
    kept_swept world under number later is conditions overlay there kept are
