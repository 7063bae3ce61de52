-- Copies of what a path leads to, front by front.
use Rattle.std.proofs.Common.{arith, ◌≡◌, refl, sym, ap, subst, ◌∙◌, true≢false, ℕ, zero, suc, ◌+◌, nat_eq, Bool, true, false, List, [], ◌∷◌, ◌++◌, length, reverse, Option, Some, None, is_some, option_and_then}
use Rattle.vt_laws_trees.proofs.layers.directories.Lower.{enough}
use Rattle.vt_spec.proofs.Common.{Content, FileTree, Fresh, IsDirectory, IsTree, ListsNumbers, Make, Merge, Node, Real, SameObject, Stack, Tree, a_name, bytes_eq-Decides, chain, changed, common_steps, copied_content, copied_each, copied_up, copy_named, copy_of, copy_of_node, copy_parent, directories_to, entry_at, folded-snoc, is_in_upper, is_kind_in, led, length-reverse, line_by, line_to, map-append, named_parent, none_is_some, nothing_is_no_object, number_at_path, prefixes, same_Some, same_content, then_some, upper_of, with_inode, without_last}
use mathlib.Core.List.{reverse-cons}
use Rattle.vt_laws_trees.proofs.layers.layers.UpperChain.{depth_bound, up_at_root, up_from}
use Rattle.vt_laws_trees.proofs.layers.layers.UpperLine.{ReachedIn, has_entries, is_reached_in, named_so}
use Rattle.vt_laws_trees.proofs.layers.layers.UpperShown.{without_last_of_longer, has_a_name}
use Rattle.vt_laws_trees.specs.Layers.Layers.ChangesUpper.{StandsInUpper}
use Rattle.vt_laws_trees.proofs.layers.layers.ShownDirectories.{last_of}
use Rattle.vt_laws_trees.proofs.layers.layers.ShownNames.{last_name}
use Rattle.vt_laws_trees.proofs.layers.layers.ShownPaths.{last_of_longer, length_longer, not_empty}
use Rattle.vt_laws_trees.specs.Overlays.WhatIsShown.{IsWhole, inode_behind, real_seen}
use Rattle.vt_laws_trees.proofs.overlays.steps.WholeAttributes.{upper_real}
use Rattle.vt_laws_trees.proofs.overlays.steps.WholeNames.{above_named, named_above}
use Rattle.vt_laws_trees.proofs.overlays.steps.WholeParts.{real_by}
use Rattle.vt_laws_worlds.specs.Merging.UpperChanges.{copied_at, copied_to, copy_node, copy_over, led_above, node_seen, object_above}
use Rattle.vt_spec.specs.declared.attributes.Kind.TheVariants.{White}
use Rattle.vt_laws_trees.proofs.layers.views.After.{on_top}
use Rattle.vt_laws_trees.proofs.overlays.changes.WholeTogether.{stands_above}
use Rattle.vt_laws_trees.proofs.layers.layers.CopyingLast.{copied_one_more}

module _ (files : FileTree ℕ) (tree : IsTree files.tree) (numbers : ListsNumbers nat_eq files) where
  chain_length : (steps directory : ℕ) (r : ReachedIn files.tree steps directory)
      → length (chain steps (named_parent nat_eq files.tree) directory) ≡ suc steps
  chain_length zero directory r = cc (up_at_root files tree 0 directory r)
  chain_length (suc steps) directory r = cc (up_from files tree steps steps directory r, chain_length steps r.0 r.2)

  directories_are : (steps directory : ℕ) → ReachedIn files.tree steps directory
      → directories_to nat_eq files directory ≡ reverse (chain steps (named_parent nat_eq files.tree) directory)
  directories_are steps directory r = cc (enough files tree numbers steps directory r (length files.numbers)
      (depth_bound files tree numbers steps directory r))

  pub directories_count : (steps directory : ℕ) → ReachedIn files.tree steps directory
      → length (directories_to nat_eq files directory) ≡ suc steps
  directories_count steps directory r = cc (
    directories_are steps directory r,
    length-reverse (chain steps (named_parent nat_eq files.tree) directory),
    chain_length steps directory r,
  )

  -- the line to a directory is that of the directories down to it
  pub line_is : (steps directory : ℕ) → ReachedIn files.tree steps directory
      → line_to nat_eq files directory ≡ directories_to nat_eq files directory
  line_is steps directory r = by _ refl steps r
    where
      by : (o : Option (ℕ × List ℕ)) → a_name nat_eq files directory ≡ o
          → (steps : ℕ) (r : ReachedIn files.tree steps directory)
          → line_by nat_eq files directory o ≡ directories_to nat_eq files directory
      by None e zero r = cc (up_at_root files tree (length files.numbers) directory r)
      by None e (suc steps) r = cc (has_a_name files numbers r.0 r.1 directory r.3)
      by (Some name) e zero r = absurd (tree.root_unnamed name.0 name.1 (cc (named_so files tree directory name e)))
      by (Some name) e (suc steps) r =
          let parent : name.0 ≡ r.0 = sym (tree.one_parent name.0 name.1 directory (named_so files tree _ name e) r.4)
          ∙ tree.one_parent r.0 r.1 directory r.3 r.4 in
          cc (
            directories_are steps r.0 r.2,
            reverse-cons directory (chain steps (named_parent nat_eq files.tree) r.0),
            up_from files tree steps steps directory r,
            directories_are (suc steps) directory r,
          )

  -- as many steps lead to a directory as its path has names
  pub reached_at : (steps : ℕ) (path : List (List ℕ)) (directory : ℕ) → length path ≡ steps
      → led files.tree files.tree.root path ≡ Some directory
      → IsDirectory files.tree directory → ReachedIn files.tree steps directory
  reached_at steps [] directory is e d = subst (λ n. ReachedIn files.tree n directory) is
      (sym (same_Some files.tree.root directory e))
  reached_at zero (word ∷ path) directory is e d = absurd (let no : ⊥ = omega (arith, is) in no)
  reached_at (suc steps) (word ∷ path) directory is e d =
      let last = last_of (word ∷ path) (not_empty word path) in
      by last.0 last.1 (let same = sym (length_longer last.0 last.1) ∙ ap length last.2 in omega (arith, same, is))
      (led files.tree files.tree.root last.0) refl
      (sym (last_name files.tree files.tree.root last.0 last.1) ∙ ap (led files.tree files.tree.root) last.2 ∙ e)
      (reached_at steps)
    where
      by : (front : List (List ℕ)) (name : List ℕ) → length front ≡ steps → (o : Option ℕ)
          → led files.tree files.tree.root front ≡ o
          → option_and_then (λ parent. entry_at files.tree parent name) o ≡ Some directory
          → ((path : List (List ℕ)) (above : ℕ) → length path ≡ steps → led files.tree files.tree.root path ≡ Some above
          → IsDirectory files.tree above → ReachedIn files.tree steps above)
          → ReachedIn files.tree (suc steps) directory
      by front name n None l f before = none_is_some directory f
      by front name n (Some parent) l f before =
          (parent, name, before front parent n l (has_entries files.tree parent name directory f), f, d)

module _ (fresh : Fresh ℕ) (stack : Stack ℕ) (merge : Merge ℕ) (whole : IsWhole stack merge) where
  abbrev at : List (List ℕ) → Option ℕ
  at path = number_at_path merge.files path

  -- what stands in the upper layer is not copied
  pub one_stays : (m : Merge ℕ) (object copy : ℕ) (o : Option (Node ℕ)) (b : Bool) → b ≡ true
      → copy_of nat_eq m object copy o b ≡ m
  one_stays m object copy None b e = refl
  one_stays m object copy (Some node) true e = refl
  one_stays m object copy (Some node) false e = cc

  -- an object with a name is copied after the directory of that
  pub copied_after : (object : ℕ) (name : ℕ × List ℕ) → a_name nat_eq merge.files object ≡ Some name
      → copied_up nat_eq fresh merge object ≡ copy_of nat_eq (copied_up nat_eq fresh merge name.0) object
      (fresh (length (directories_to nat_eq merge.files name.0)))
      ((copied_up nat_eq fresh merge name.0).files.tree.node object)
      (is_in_upper (copied_up nat_eq fresh merge name.0) object)
  copied_after object name e =
      let entry = named_so merge.files whole.tree object name e in
      let reached = is_reached_in merge.files whole.tree name.0 name.1 object entry in
      ap (λ o. copied_each nat_eq fresh 0 merge (line_by nat_eq merge.files object o)) e
      ∙ copied_one_more fresh 0 merge (directories_to nat_eq merge.files name.0) object
      ∙ ap (λ n. by (copied_each nat_eq fresh 0 merge (directories_to nat_eq merge.files name.0)) n)
      (let h : 0 + length (directories_to nat_eq merge.files name.0) ≡ length
      (directories_to nat_eq merge.files name.0) = omega arith in h)
      ∙ ap (λ l. by (copied_each nat_eq fresh 0 merge l) (length (directories_to nat_eq merge.files name.0)))
      (sym (line_is merge.files whole.tree whole.numbers reached.0 name.0 reached.1))
    where
      by : Merge ℕ → ℕ → Merge ℕ
      by m n = copy_of nat_eq m object (fresh n) (m.files.tree.node object) (is_in_upper m object)

  directory_stays : (steps directory : ℕ) → ReachedIn merge.files.tree steps directory → StandsInUpper merge directory
      → copied_up nat_eq fresh merge directory ≡ merge
  directory_stays zero directory r stands = ap (copied_each nat_eq fresh 0 merge)
      (line_is merge.files whole.tree whole.numbers 0 directory r
      ∙ ap (λ l. reverse l) (up_at_root merge.files whole.tree (length merge.files.numbers) directory r))
      ∙ one_stays merge directory (fresh 0) (merge.files.tree.node directory) (is_in_upper merge directory) stands
  directory_stays (suc steps) directory r stands = by (a_name nat_eq merge.files directory) refl
      (directory_stays steps r.0 r.2 (stands_above stack merge whole r.0 r.1 directory r.3 stands))
    where
      by : (o : Option (ℕ × List ℕ)) → a_name nat_eq merge.files directory ≡ o
          → copied_up nat_eq fresh merge r.0 ≡ merge → copied_up nat_eq fresh merge directory ≡ merge
      by None e above = absurd (cc (has_a_name merge.files whole.numbers r.0 r.1 directory r.3))
      by (Some name) e above =
          let parent : r.0 ≡ name.0 = sym (whole.tree.one_parent r.0 r.1 directory r.3 r.4)
          ∙ whole.tree.one_parent name.0 name.1 directory (named_so merge.files whole.tree directory name e) r.4 in
          copied_after directory name e
          ∙ ap (λ m. copy_of nat_eq m directory (fresh (length (directories_to nat_eq merge.files name.0)))
          (m.files.tree.node directory) (is_in_upper m directory))
          (ap (copied_up nat_eq fresh merge) (sym parent) ∙ above)
          ∙ one_stays merge directory _ (merge.files.tree.node directory) (is_in_upper merge directory) stands

  pub stays : (object : ℕ) → StandsInUpper merge object → copied_up nat_eq fresh merge object ≡ merge
  stays object stands = by (a_name nat_eq merge.files object) refl
    where
      by : (o : Option (ℕ × List ℕ)) → a_name nat_eq merge.files object ≡ o
          → copied_up nat_eq fresh merge object ≡ merge
      by None e = ap (λ o. copied_each nat_eq fresh 0 merge (line_by nat_eq merge.files object o)) e
          ∙ one_stays merge object (fresh 0) (merge.files.tree.node object) (is_in_upper merge object) stands
      by (Some name) e =
          let entry = named_so merge.files whole.tree object name e in
          let reached = is_reached_in merge.files whole.tree name.0 name.1 object entry in
          copied_after object name e
          ∙ ap (λ m. copy_of nat_eq m object (fresh (length (directories_to nat_eq merge.files name.0)))
          (m.files.tree.node object) (is_in_upper m object)) (directory_stays reached.0 name.0 reached.1
          (stands_above stack merge whole name.0 name.1 object entry stands))
          ∙ one_stays merge object _ (merge.files.tree.node object) (is_in_upper merge object) stands

-- One object at a path
module _ (fresh : Fresh ℕ) {stack : Stack ℕ} {merge : Merge ℕ} (whole : IsWhole stack merge) (object : ℕ)
    (there : is_some (merge.files.tree.node object) ≡ true) (path : List (List ℕ))
    (leads : number_at_path merge.files path ≡ Some object) where
  real_here : merge.real object ≡ real_seen stack merge path
  real_here = whole.shown.names path object leads

  -- the upper layer has it there, if it stands there, and else nothing
  pub led_stands : StandsInUpper merge object → led_above stack merge.upper path ≡ Some (upper_of merge object)
  led_stands stands = named_above stack merge whole path object _ leads (upper_real merge object stands)

  pub led_none : is_in_upper merge object ≡ false → led_above stack merge.upper path ≡ None
  led_none low = by _ refl
    where
      no_real : (o : Option (Real ℕ)) → merge.real object ≡ o → o ≡ None → ⊥
      no_real None e n = nothing_is_no_object _ there (subst (λ o. SameObject (merge.files.tree.node object)
          (then_some o (inode_behind stack merge))) e (whole.shown.real_objects object))
      no_real (Some r) e n = cc

      at : (u : ℕ) (white : Bool) → is_kind_in White (merge.upper.tree.node u) ≡ white
          → led_above stack merge.upper path ≡ Some u → ⊥
      at u white e l =
          grind (arith, common_steps, no_real, real_here, real_by, on_top, above_named, true≢false, same_Some)

      by : (o : Option ℕ) → led_above stack merge.upper path ≡ o → o ≡ None
      by None e = refl
      by (Some u) e = absurd (at u (is_kind_in White (merge.upper.tree.node u)) refl e)

  pub same_seen : SameObject (merge.files.tree.node object) (node_seen stack merge.upper path)
  same_seen = subst (λ o. SameObject (then_some o merge.files.tree.node) (node_seen stack merge.upper path)) leads
      (whole.shown.shows path)

-- what is copied is what is shown
pub same_copied : (parent : ℕ) (content other : Content ℕ) → same_content content other ≡ true
    → copied_content parent content ≡ copied_content parent other
same_copied parent content other s = grind (arith, common_steps, true≢false, bytes_eq-Decides)

-- an object is copied under its name in a directory that stands in the upper layer
module _ (fresh : Fresh ℕ) (stack : Stack ℕ) (m : Merge ℕ) (whole : IsWhole stack m) (front : List (List ℕ))
    (name : List ℕ) (parent object : ℕ) (above : number_at_path m.files front ≡ Some parent)
    (leads : number_at_path m.files (front ++ name ∷ []) ≡ Some object)
    (there : is_some (m.files.tree.node object) ≡ true) (stands : StandsInUpper m parent)
    (is : is_in_upper m object ≡ false → a_name nat_eq m.files object ≡ Some (parent, name)) where
  abbrev path : List (List ℕ)
  path = front ++ name ∷ []

  parent_is : object_above stack m.upper (without_last path) ≡ upper_of m parent
  parent_is = cc (
    without_last_of_longer front name,
    named_above stack m whole front parent (upper_of m parent) above (upper_real m parent stands),
  )

  pub one_is_copied : (copy_of nat_eq m object (fresh (length path)) (m.files.tree.node object)
      (is_in_upper m object)).upper ≡ copied_at fresh stack m.upper path
  one_is_copied = by _ refl _ refl
    where
      copy : ℕ
      copy = fresh (length path)

      named : Node ℕ → Option (ℕ × List ℕ) → FileTree ℕ
      named node o = copy_named nat_eq m copy o (with_inode nat_eq m.upper copy
          (record { attr = node.attr; content = copied_content (copy_parent m copy o) node.content }))

      put : ℕ → List ℕ → Node ℕ → FileTree ℕ
      put above last node = changed nat_eq m.upper (Make above last copy node)

      seen : (node : Node ℕ) → is_in_upper m object ≡ false → (o : Option (Node ℕ)) → SameObject (Some node) o
          → (copy_of_node nat_eq m object copy node).upper ≡ copy_over fresh stack m.upper path None o
      seen node low None same = absurd same
      seen node low (Some other) same = ap (named node) (is low) ∙ (λ i. put (upper_of m parent) name (record {
        attr = same.0 i;
        content = same_copied (upper_of m parent) node.content other.content same.1 i;
      })) ∙ (λ i. put (sym parent_is i) (sym (last_of_longer front name []) i) (copy_node (sym parent_is i) other))

      by : (o : Option (Node ℕ)) → m.files.tree.node object ≡ o → (b : Bool) → is_in_upper m object ≡ b
          → (copy_of nat_eq m object (fresh (length path)) o b).upper ≡ copied_at fresh stack m.upper path
      by None e b low = cc
      by (Some node) e true low = cc (led_stands fresh whole object there path leads low)
      by (Some node) e false low = cc (
        seen node low (node_seen stack m.upper path) (subst (λ o. SameObject o (node_seen stack m.upper path)) e
            (same_seen fresh whole object there path leads)),
        led_none fresh whole object there path leads low,
      )

-- Fronts of a longer path
prefixes_longer : (path : List (List ℕ)) (name : List ℕ)
    → prefixes (path ++ name ∷ []) ≡ prefixes path ++ (path ++ name ∷ []) ∷ []
prefixes_longer [] name = refl
prefixes_longer (first ∷ path) name =
    cc (prefixes_longer path name, map-append (λ front. first ∷ front) (prefixes path) ((path ++ name ∷ []) ∷ []))

pub copied_longer : (fresh : Fresh ℕ) (stack : Stack ℕ) (upper : FileTree ℕ) (path : List (List ℕ)) (name : List ℕ)
    → copied_to fresh stack upper (path ++ name ∷ []) ≡ copied_at fresh stack (copied_to fresh stack upper path)
    (path ++ name ∷ [])
copied_longer fresh stack upper path name = cc (
  prefixes_longer path name,
  folded-snoc (copied_at fresh stack) upper (prefixes path) (path ++ name ∷ []),
)

-- where the upper layer has the object of a path, nothing is copied
led_before : (tree : Tree ℕ) (from : ℕ) (path : List (List ℕ)) (name : List ℕ)
    → is_some (led tree from (path ++ name ∷ [])) ≡ true → is_some (led tree from path) ≡ true
led_before tree from path name e = grind (arith, common_steps, last_name, true≢false)

pub none_copied : (fresh : Fresh ℕ) (stack : Stack ℕ) (upper : FileTree ℕ) (steps : ℕ) (path : List (List ℕ))
    → length path ≡ steps → is_some (led_above stack upper path) ≡ true → copied_to fresh stack upper path ≡ upper
none_copied fresh stack upper steps [] n e = refl
none_copied fresh stack upper zero (word ∷ path) n e = absurd (let no : ⊥ = omega (arith, n) in no)
none_copied fresh stack upper (suc steps) (word ∷ path) n e =
    let last = last_of (word ∷ path) (not_empty word path) in
    let has = ap (λ p. is_some (led_above stack upper p)) last.2 ∙ e in
    let before = none_copied fresh stack upper steps last.0
    (let same = sym (length_longer last.0 last.1) ∙ ap length last.2 in omega (arith, same, n))
    (led_before upper.tree stack.directory last.0 last.1 has) in
    ap (copied_to fresh stack upper) (sym last.2) ∙ copied_longer fresh stack upper last.0 last.1
    ∙ ap (λ u. copied_at fresh stack u (last.0 ++ last.1 ∷ [])) before
    ∙ by (last.0 ++ last.1 ∷ []) (led_above stack upper (last.0 ++ last.1 ∷ [])) refl has
  where
    by : (p : List (List ℕ)) (o : Option ℕ) → led_above stack upper p ≡ o → is_some (led_above stack upper p) ≡ true
        → copied_at fresh stack upper p ≡ upper
    by p None l h = absurd cc
    by p (Some u) l h = ap (λ o. copy_over fresh stack upper p o (node_seen stack upper p)) l
