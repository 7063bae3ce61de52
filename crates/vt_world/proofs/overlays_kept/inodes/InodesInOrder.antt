-- The inodes of an overlay, in the order of their numbers.
use Rattle.std.proofs.Common.{◌≡◌, refl, sym, ap, subst, ◌∙◌, inl, inr, ℕ, nat_eq, eq-eqb, eqb-true, Bool, true, false, true≢false, cond, ◌||◌, List, [], ◌∷◌, map, find, Option, Some, None, option_map, is_some, unwrap_or, filter_map, Equal}
use Rattle.vt_spec.proofs.Common.{Lower, Merged, MergedInode, Node, OpenLayer, Real, Shown, cons_option, found_among, found_passes, holds_of, is_among, layer_node, lookup, nat_cmp-IsAntisymmetric, none_is_some, paths_from, real_object, real_shown, same_entries, shown, then_some}
use Rattle.vt_laws_mounts.proofs.letting_go.Lists.{Among, among-filter_map, among-from_filter_map, among_numbers, held_number, is_among_numbers}
use Rattle.vt_laws_trees.proofs.layers.layers.ShownDirectories.{AreOpen}
use Rattle.vt_laws_trees.specs.Overlays.MergedTrees.{entries_shown, layers_shown, node_as, parent_shown}
use Rattle.vt_laws_trees.proofs.overlays.steps.WholeParts.{shown_is_there}
use Rattle.vt_laws_trees.specs.Overlays.TreesSeen.{node_by, real_by}
use Rattle.vt_location.specs.InOrder.{cmp_by, in_order_by}
use Rattle.vt_location.proofs.OrderLemmas.{cmp_total, looked-in_order, found-in_order, rises-in_order}
use Rattle.vt_fs.specs.FilesystemsValue.{Filesystems}
use Rattle.vt_overlay.proofs.TreeFound.{layers_are, open_layers}
use Rattle.vt_overlay.specs.MergedTree.{AreLayers, OverlayValue, longest, merged_tree, number_at, numbers_shown, overlay_seen, path_at, plain_world, real_number}
use Rattle.vt_world.specs.OverlaysKept.Inodes.{InodesAreTheTree, InodesHaveTheirObjects, InodesStay, NumbersAreListed, inode_kept, object_at, objects_shown}
use Rattle.vt_world.specs.OverlaysKept.Kept.{real_objects}

-- Objects under some numbers, looked up

module _ {A : Type 0} (at : ℕ → Option A) where
  abbrev pub under : List ℕ → List (ℕ × A)
  under numbers = filter_map (λ number. option_map (λ a. (number, a)) (at number)) numbers

  none_anyhow : (b : Bool) (o : Option A) → o ≡ None → None ≡ cond b o None
  none_anyhow true o e = sym e
  none_anyhow false o e = refl

  -- what is under a number is what is at it, if it is one of these
  under_looked : (numbers : List ℕ) (q : ℕ)
      → lookup (nat_eq q) (under numbers) ≡ cond (is_among nat_eq q numbers) (at q) None
  under_looked [] q = refl
  under_looked (number ∷ rest) q = by (at number) refl (nat_eq q number) refl (under_looked rest q)
    where
      by : (o : Option A) → at number ≡ o → (b : Bool) → nat_eq q number ≡ b
          → lookup (nat_eq q) (under rest) ≡ cond (is_among nat_eq q rest) (at q) None
          → lookup (nat_eq q) (under (number ∷ rest)) ≡ cond (b || is_among nat_eq q rest) (at q) None
      by None e true s later =
          ap (λ o. lookup (nat_eq q) (cons_option (option_map (λ a. (number, a)) o) (under rest))) e ∙ later
          ∙ sym (none_anyhow (is_among nat_eq q rest) (at q) none) ∙ sym none
        where
          none : at q ≡ None
          none = ap at (eqb-true q number s) ∙ e
      by None e false s later =
          ap (λ o. lookup (nat_eq q) (cons_option (option_map (λ a. (number, a)) o) (under rest))) e ∙ later
      by (Some a) e true s later =
          ap (λ o. lookup (nat_eq q) (cons_option (option_map (λ a. (number, a)) o) (under rest))) e
          ∙ ap (λ b. cond b (Some a) (lookup (nat_eq q) (under rest))) s ∙ sym (ap at (eqb-true q number s) ∙ e)
      by (Some a) e false s later =
          ap (λ o. lookup (nat_eq q) (cons_option (option_map (λ a. (number, a)) o) (under rest))) e
          ∙ ap (λ b. cond b (Some a) (lookup (nat_eq q) (under rest))) s ∙ later

  -- Where all numbers at which something is are among them, each is found so.
  module _ (numbers : List ℕ) (all : (q : ℕ) → is_some (at q) ≡ true → is_among nat_eq q numbers ≡ true) where
    pub all_looked : (q : ℕ) → lookup (nat_eq q) (under numbers) ≡ at q
    all_looked q = under_looked numbers q ∙ by (at q) refl
      where
        by : (o : Option A) → at q ≡ o → cond (is_among nat_eq q numbers) o None ≡ o
        by None e = sym (none_anyhow (is_among nat_eq q numbers) None refl)
        by (Some a) e = ap (λ b. cond b (Some a) None) (all q (ap is_some e))

-- so are they in their order, and two lists that have the same at each number are one

tied_numbers : (a b : ℕ) → cmp_by (λ (number : ℕ). number) a b ≡ Equal → a ≡ b
tied_numbers a b e = nat_cmp-IsAntisymmetric a b e

module _ {A : Type 0} where
  in_one_order : (one other : List (ℕ × A)) → ((q : ℕ) → lookup (nat_eq q) one ≡ lookup (nat_eq q) other)
      → in_order_by (λ number. number) one ≡ in_order_by (λ number. number) other
  in_one_order one other same = same_entries (cmp_by (λ number. number)) (cmp_total (λ number. number)) tied_numbers
      (in_order_by (λ number. number) one) (in_order_by (λ number. number) other)
      (rises-in_order (λ number. number) one) (rises-in_order (λ number. number) other)
      (λ q. found-in_order (λ number. number) q one ∙ same q ∙ sym (found-in_order (λ number. number) q other))

-- Inodes that are made of objects under their numbers

pub node_looked : (kept : List (ℕ × (Node ℕ × Real ℕ))) (q : ℕ)
    → option_map (λ (inode : MergedInode ℕ). inode.node) (find (λ inode. nat_eq q inode.number) (map inode_kept kept))
    ≡ option_map (λ object. object.0) (lookup (nat_eq q) kept)
node_looked [] q = refl
node_looked (first ∷ rest) q = by (nat_eq q first.0) (node_looked rest q)
  where
    by : (b : Bool) → option_map (λ (inode : MergedInode ℕ). inode.node)
        (find (λ inode. nat_eq q inode.number) (map inode_kept rest))
        ≡ option_map (λ object. object.0) (lookup (nat_eq q) rest) → option_map (λ (inode : MergedInode ℕ). inode.node)
        (cond b (Some (inode_kept first)) (find (λ inode. nat_eq q inode.number) (map inode_kept rest)))
        ≡ option_map (λ object. object.0) (cond b (Some first.1) (lookup (nat_eq q) rest))
    by true later = refl
    by false later = later

pub real_looked : (kept : List (ℕ × (Node ℕ × Real ℕ))) (q : ℕ)
    → option_map (λ (inode : MergedInode ℕ). inode.real) (find (λ inode. nat_eq q inode.number) (map inode_kept kept))
    ≡ option_map (λ object. object.1) (lookup (nat_eq q) kept)
real_looked [] q = refl
real_looked (first ∷ rest) q = by (nat_eq q first.0) (real_looked rest q)
  where
    by : (b : Bool) → option_map (λ (inode : MergedInode ℕ). inode.real)
        (find (λ inode. nat_eq q inode.number) (map inode_kept rest))
        ≡ option_map (λ object. object.1) (lookup (nat_eq q) rest) → option_map (λ (inode : MergedInode ℕ). inode.real)
        (cond b (Some (inode_kept first)) (find (λ inode. nat_eq q inode.number) (map inode_kept rest)))
        ≡ option_map (λ object. object.1) (cond b (Some first.1) (lookup (nat_eq q) rest))
    by true later = refl
    by false later = later

-- An overlay

module _ (trees : Filesystems) (overlay : OverlayValue) where
  -- each inode of the tree is one that is shown
  inode_shown_there : (q : ℕ) → is_some ((merged_tree trees overlay).node q) ≡ true
      → is_among nat_eq q (numbers_shown trees overlay) ≡ true
  inode_shown_there q there = by (path_at trees overlay q) refl there
    where
      paths : List (List (List ℕ))
      paths = paths_from (longest trees overlay.lowers) (layers_shown (plain_world trees) (overlay_seen overlay)) []

      by : (o : Option (List (List ℕ))) → path_at trees overlay q ≡ o
          → is_some (node_by (real_number trees overlay) (λ number. None) (longest trees overlay.lowers)
          (plain_world trees) (overlay_seen overlay) q o) ≡ true
          → is_among nat_eq q (numbers_shown trees overlay) ≡ true
      by None e there = absurd (true≢false (sym there))
      by (Some path) e there = is_among_numbers q (numbers_shown trees overlay)
          (among-filter_map (number_at trees overlay) paths path q
          (found_among (λ path. holds_of (nat_eq q) (number_at trees overlay path)) paths path e)
          (held_number q (number_at trees overlay path)
          (found_passes (λ path. holds_of (nat_eq q) (number_at trees overlay path)) paths path e)))

  object_shown_there : (q : ℕ) → is_some (object_at trees overlay q) ≡ true
      → is_among nat_eq q (numbers_shown trees overlay) ≡ true
  object_shown_there q there = inode_shown_there q
      (sym (as_many ((merged_tree trees overlay).node q) (unwrap_or (real_objects trees overlay q) (Lower 0 []))) ∙ there)
    where
      as_many : (o : Option (Node ℕ)) (real : Real ℕ)
          → is_some {T = Node ℕ × Real ℕ} (option_map (λ node. (node, real)) o) ≡ is_some o
      as_many None real = refl
      as_many (Some node) real = refl

  looked : (q : ℕ) → lookup (nat_eq q) (objects_shown trees overlay) ≡ object_at trees overlay q
  looked = all_looked (object_at trees overlay) (numbers_shown trees overlay) object_shown_there

  looked_in_order : (q : ℕ)
      → lookup (nat_eq q) (in_order_by (λ number. number) (objects_shown trees overlay)) ≡ object_at trees overlay q
  looked_in_order q = looked-in_order (λ number. number) q (objects_shown trees overlay) ∙ looked q

pub inodes_are_the_tree : InodesAreTheTree
inodes_are_the_tree trees overlay = λ i. record {
  root = (merged_tree trees overlay).root;
  node = λ q. (node_looked (in_order_by (λ number. number) (objects_shown trees overlay)) q
      ∙ ap (option_map (λ object. object.0)) (looked_in_order trees overlay q)
      ∙ first_of ((merged_tree trees overlay).node q) (unwrap_or (real_objects trees overlay q) (Lower 0 []))) i;
}
  where
    first_of : (o : Option (Node ℕ)) (real : Real ℕ)
        → option_map (λ (object : Node ℕ × Real ℕ). object.0) (option_map (λ node. (node, real)) o) ≡ o
    first_of None real = refl
    first_of (Some node) real = refl

-- each inode has a real object, and nothing else has one
module _ (trees : Filesystems) (overlay : OverlayValue) (are : AreLayers trees overlay.lowers) where
  abbrev opened : List (OpenLayer ℕ)
  opened = layers_shown (plain_world trees) (overlay_seen overlay)

  are_opened : AreOpen (layers_shown (plain_world trees) (overlay_seen overlay))
  are_opened = subst AreOpen (sym (layers_are trees overlay are)) (open_layers trees overlay are)

  objects_there : (q : ℕ) → is_some (real_objects trees overlay q) ≡ is_some ((merged_tree trees overlay).node q)
  objects_there q = by (path_at trees overlay q)
    where
      one : (path : List (List ℕ)) (o : Option (Shown ℕ)) → shown opened path ≡ o
          → is_some (option_map (λ (object : Merged ℕ). real_object false object.seen.layer object)
          (option_map (λ seen. record { path = path; seen = seen }) o))
          ≡ is_some (option_map (node_as (parent_shown (real_number trees overlay) (plain_world trees)
          (overlay_seen overlay) path)
          (entries_shown (real_number trees overlay) (plain_world trees) (overlay_seen overlay) path))
          (then_some o (layer_node opened)))
      one path None e = refl
      one path (Some seen) e = sym (shown_is_there opened are_opened path seen e) ∙ as_many (layer_node opened seen)
        where
          as_many : (o : Option (Node ℕ))
              → is_some o ≡ is_some (option_map (node_as (parent_shown (real_number trees overlay) (plain_world trees)
              (overlay_seen overlay) path)
              (entries_shown (real_number trees overlay) (plain_world trees) (overlay_seen overlay) path)) o)
          as_many None = refl
          as_many (Some node) = refl

      by : (o : Option (List (List ℕ)))
          → is_some (real_by (real_number trees overlay) (λ number. None) (longest trees overlay.lowers)
          (plain_world trees) (overlay_seen overlay) q o)
          ≡ is_some (node_by (real_number trees overlay) (λ number. None) (longest trees overlay.lowers)
          (plain_world trees) (overlay_seen overlay) q o)
      by None = refl
      by (Some path) = one path (shown opened path) refl

pub inodes_have_their_objects : InodesHaveTheirObjects
inodes_have_their_objects trees overlay are = λ i. λ q.
    (real_looked (in_order_by (λ number. number) (objects_shown trees overlay)) q
    ∙ ap (option_map (λ object. object.1)) (looked_in_order trees overlay q)
    ∙ second_of ((merged_tree trees overlay).node q) (real_objects trees overlay q)
    (objects_there trees overlay are q)) i
  where
    second_of : (o : Option (Node ℕ)) (real : Option (Real ℕ)) → is_some real ≡ is_some o
        → option_map (λ (object : Node ℕ × Real ℕ). object.1) (option_map (λ node. (node, unwrap_or real (Lower 0 []))) o)
        ≡ real
    second_of None None e = refl
    second_of None (Some object) e = absurd (true≢false e)
    second_of (Some node) None e = absurd (true≢false (sym e))
    second_of (Some node) (Some object) e = refl

pub inodes_stay : InodesStay
inodes_stay old new overlay alike = ap (map inode_kept)
    (in_one_order (objects_shown new overlay) (objects_shown old overlay)
    (λ q. looked new overlay q ∙ same q ∙ sym (looked old overlay q)))
  where
    same : (q : ℕ) → object_at new overlay q ≡ object_at old overlay q
    same q = λ i. option_map (λ node. (node, unwrap_or (alike.real i q) (Lower 0 []))) ((alike.tree i).node q)

-- what passes is found
found_some : {A : Type 0} (test : A → Bool) (list : List A) (a : A) → Among a list → test a ≡ true
    → is_some (find test list) ≡ true
found_some test [] a m e = absurd m
found_some {A = A} test (first ∷ rest) a m e = by (test first) refl m (λ later. found_some test rest a later e)
  where
    by : (b : Bool) → test first ≡ b → Among a (first ∷ rest) → (Among a rest → is_some (find test rest) ≡ true)
        → is_some (cond b (Some first) (find test rest)) ≡ true
    by true s m later = refl
    by false s (inl same) later = absurd (true≢false (sym e ∙ ap test same ∙ s))
    by false s (inr m) later = later m

module _ (trees : Filesystems) (overlay : OverlayValue) (are : AreLayers trees overlay.lowers) where
  abbrev all_paths : List (List (List ℕ))
  all_paths = paths_from (longest trees overlay.lowers) (layers_shown (plain_world trees) (overlay_seen overlay)) []

  -- what is found at a path has a real object
  object_found : (q : ℕ) (o : Option (List (List ℕ))) → path_at trees overlay q ≡ o → is_some o ≡ true
      → is_some (real_by (real_number trees overlay) (λ number. None) (longest trees overlay.lowers)
      (plain_world trees) (overlay_seen overlay) q o) ≡ true
  object_found q None e there = absurd (true≢false (sym there))
  object_found q (Some path) e there = of_number (real_shown nat_eq (plain_world trees) (overlay_seen overlay) path)
      (held_number q (number_at trees overlay path)
      (found_passes (λ path. holds_of (nat_eq q) (number_at trees overlay path)) all_paths path e))
    where
      of_number : (o : Option (Real ℕ)) → option_map (real_number trees overlay) o ≡ Some q → is_some o ≡ true
      of_number None e = absurd (none_is_some q e)
      of_number (Some object) e = refl

  listed_there : (q : ℕ) → is_among nat_eq q (numbers_shown trees overlay) ≡ true
      → is_some ((merged_tree trees overlay).node q) ≡ true
  listed_there q s =
      let one = among-from_filter_map (number_at trees overlay) all_paths q
      (among_numbers q (numbers_shown trees overlay) s) in
      sym (objects_there trees overlay are q) ∙ object_found q (path_at trees overlay q) refl
      (found_some (λ path. holds_of (nat_eq q) (number_at trees overlay path)) all_paths one.0 one.1
      (ap (holds_of (nat_eq q)) one.2 ∙ eq-eqb q q refl))

  listed : (q : ℕ) (a b : Bool) → is_among nat_eq q (numbers_shown trees overlay) ≡ a
      → is_some ((merged_tree trees overlay).node q) ≡ b → a ≡ b
  listed q true true s e = refl
  listed q false false s e = refl
  listed q true false s e = absurd (true≢false (sym (listed_there q s) ∙ e))
  listed q false true s e = absurd (true≢false (sym (inode_shown_there trees overlay q e) ∙ s))

pub numbers_are_listed : NumbersAreListed
numbers_are_listed trees overlay are = λ q. listed trees overlay are q (is_among nat_eq q (numbers_shown trees overlay))
    (is_some ((merged_tree trees overlay).node q)) refl refl
