-- An object is copied up with the directories above it, one by one: the tree is still what the layers show.
use Rattle.std.proofs.Common.{arith, ◌≡◌, ◌≢◌, ◌≤◌, ◌⊎◌, inl, inr, refl, sym, ap, subst, ◌∙◌, true≢false, ℕ, zero, suc, ◌+◌, nat_eq, eq-eqb, Bool, true, false, cond, List, [], ◌∷◌, ◌++◌, ⊎_elim, reverse, length, Option, Some, None, is_some}
use Rattle.vt_spec.proofs.Common.{FileTree, Fresh, IsDirectory, IsTree, ListsNumbers, Lower, Merge, Node, Stack, Upper, a_name, chain, common_steps, copied_content, copied_each, copied_up, copy_named, copy_of, copy_of_node, copy_parent, cuts, directories_to, directory_used, entries_of, entries_of-copied_content, is_directory_node, is_in_upper, is_some-node_with_entry, line_by, line_to, named_parent, node_other, none_from_not_some, none_is_some, part-changed_node, same_Some, upper_object, upper_of, with_inode, with_real, ⊤}
use mathlib.Core.List.{reverse-cons}
use Rattle.vt_laws_trees.specs.Layers.Layers.ChangesUpper.{StandsInUpper, IsNewBy}
use Rattle.vt_laws_trees.specs.Layers.Layers.Upper.{IsThere}
use Rattle.vt_laws_trees.specs.Layers.Layers.Views.{view_in}
use Rattle.vt_laws_trees.specs.Overlays.WhatIsShown.{CopiesKeepWhole, IsWhole}
use Rattle.vt_laws_trees.proofs.layers.layers.ShownObjects.{Among}
use Rattle.vt_laws_trees.proofs.layers.layers.UpperChain.{depth_bound, up_at_root, up_from}
use Rattle.vt_laws_trees.proofs.layers.layers.UpperLine.{ReachedIn, has_entries, is_reached_in, named_so, reached_directory}
use Rattle.vt_laws_trees.proofs.overlays.whole.UpperGoes.{Goes, goes_both, goes_none}
use Rattle.vt_laws_trees.specs.Trees.Sizes.{is_fit_node, is_fit_tree}
use Rattle.vt_laws_trees.proofs.trees.ChangesOfSizes.{inode_fits}
use Rattle.vt_laws_trees.proofs.overlays.whole.UpperSizes.{copy_fits_limits, fits_here, name_fits, name_sized}
use Rattle.vt_laws_trees.proofs.overlays.whole.UpperTold.{Told, told_both, told_inode, told_name, told_none}
use Rattle.vt_laws_trees.proofs.overlays.steps.WholeCopied.{copy_cuts, copy_goes, copy_keeps_whole}
use Rattle.vt_laws_trees.proofs.overlays.steps.WholeNames.{top_good}

-- each object of a list comes after the directory of its name
abbrev pub IsLine : FileTree ℕ → List ℕ → List ℕ → Type 0
IsLine files done [] = ⊤
IsLine files done (object ∷ rest) = ((name : ℕ × List ℕ) → a_name nat_eq files object ≡ Some name → Among done name.0)
    × IsLine files (object ∷ done) rest

abbrev and_done : List ℕ → List ℕ → List ℕ
and_done done [] = done
and_done done (object ∷ rest) = and_done (object ∷ done) rest

line_append : (files : FileTree ℕ) (a done b : List ℕ) → IsLine files done a → IsLine files (and_done done a) b
    → IsLine files done (a ++ b)
line_append files [] done b l m = m
line_append files (object ∷ a) done b l m = (l.0, line_append files a (object ∷ done) b l.1 m)

done_still : (a done : List ℕ) (x : ℕ) → Among done x → Among (and_done done a) x
done_still [] done x m = m
done_still (object ∷ a) done x m = done_still a (object ∷ done) x (inr m)

done_too : (a done : List ℕ) (x : ℕ) → Among a x → Among (and_done done a) x
done_too [] done x m = absurd m
done_too (object ∷ a) done x (inl e) = done_still a (object ∷ done) x (inl e)
done_too (object ∷ a) done x (inr m) = done_too a (object ∷ done) x m

among_last : (a : List ℕ) (x : ℕ) → Among (a ++ x ∷ []) x
among_last [] x = inl refl
among_last (first ∷ a) x = inr (among_last a x)

from_longer : (a : List ℕ) (last x : ℕ) → Among (a ++ last ∷ []) x → Among a x ⊎ (last ≡ x)
from_longer [] last x (inl e) = inr e
from_longer [] last x (inr m) = absurd m
from_longer (first ∷ a) last x (inl e) = inl (inl e)
from_longer (first ∷ a) last x (inr m) = ⊎_elim (λ l. inl (inr l)) (λ r. inr r) (from_longer a last x m)

-- the line to a directory, and to an object
pub record GoodLine (files : FileTree ℕ) (list : List ℕ) (last : ℕ) : Type 0 where
  pub line : IsLine files [] list
  pub ends : Among list last
  pub there : (x : ℕ) → Among list x → IsThere files x
  pub directories : IsDirectory files.tree last → (x : ℕ) → Among list x → IsDirectory files.tree x

module _ (files : FileTree ℕ) (tree : IsTree files.tree) (numbers : ListsNumbers nat_eq files) where
  one_more : (list : List ℕ) (last next : ℕ) → GoodLine files list last → IsDirectory files.tree last
      → IsThere files next → ((name : ℕ × List ℕ) → a_name nat_eq files next ≡ Some name → name.0 ≡ last)
      → GoodLine files (list ++ next ∷ []) next
  one_more list last next good is_dir there named = record {
    line = line_append files list [] (next ∷ []) good.line
        (λ name e. subst (Among (and_done [] list)) (sym (named name e)) (done_too list [] last good.ends), tt);
    ends = among_last list next;
    there = λ x m. ⊎_elim (λ l. good.there x l) (λ same. subst (IsThere files) same there) (from_longer list next x m);
    directories = λ d x m. ⊎_elim (λ l. good.directories is_dir x l) (λ same. subst (IsDirectory files.tree) same d)
        (from_longer list next x m);
  }

  to_directory : (steps most directory : ℕ) → ReachedIn files.tree steps directory → steps ≤ most
      → GoodLine files (reverse (chain most (named_parent nat_eq files.tree) directory)) directory
  to_directory zero most directory r h =
      subst (λ list. GoodLine files (reverse list) directory) (sym (up_at_root files tree most directory r)) (record {
        line = (
          λ name e. absurd (tree.root_unnamed name.0 name.1 (named_so files tree directory name e ∙ ap Some r)),
          tt,
        );
        ends = inl refl;
        there = λ x m. ⊎_elim (λ same. subst (IsThere files)
            same (directory_used files.tree directory (reached_directory files tree zero _ r))) (λ none. absurd none) m;
        directories = λ d x m. ⊎_elim (λ same. subst (IsDirectory files.tree) same d) (λ none. absurd none) m;
      })
  to_directory (suc steps) zero directory r h = absurd (let no : ⊥ = omega arith in no)
  to_directory (suc steps) (suc most) directory r h = subst (λ list. GoodLine files list directory)
      (sym (ap (λ list. reverse list) (up_from files tree most steps directory r)
      ∙ reverse-cons directory (chain most (named_parent nat_eq files.tree) r.0)))
      (one_more _ r.0 directory (to_directory steps most r.0 r.2 (omega arith))
      (has_entries files.tree r.0 r.1 directory r.3) (directory_used files.tree directory r.4) (λ name e. sym
      (tree.one_parent name.0 name.1 directory (named_so files tree _ name e) r.4) ∙ tree.one_parent r.0 r.1 _ r.3 r.4))

  pub to_object : (object : ℕ) → IsThere files object → GoodLine files (line_to nat_eq files object) object
  to_object object there = by (a_name nat_eq files object) refl
    where
      by : (named : Option (ℕ × List ℕ)) → a_name nat_eq files object ≡ named
          → GoodLine files (line_by nat_eq files object named) object
      by None e = record {
        line = (λ name is. none_is_some name (sym e ∙ is), tt);
        ends = inl refl;
        there = λ x m. ⊎_elim (λ same. subst (IsThere files) same there) (λ none. absurd none) m;
        directories = λ d x m. ⊎_elim (λ same. subst (IsDirectory files.tree) same d) (λ none. absurd none) m;
      }
      by (Some name) e =
          let reached = is_reached_in files tree name.0 name.1 object (named_so files tree object name e) in
          one_more (directories_to nat_eq files name.0) name.0 object
          (to_directory reached.0 (length files.numbers) name.0 reached.1
          (depth_bound files tree numbers reached.0 name.0 reached.1))
          (has_entries files.tree name.0 name.1 object (named_so files tree object name e)) there
          (λ other is. ap (λ n. n.0) (same_Some other name (sym is ∙ e)))

-- The copies of a line
pub record IsCopied (stack : Stack ℕ) (fresh : Fresh ℕ) (merge later : Merge ℕ) : Type 0 where
  pub whole : IsWhole stack later
  pub files : later.files ≡ merge.files
  pub grows : (n : ℕ) → StandsInUpper merge n → StandsInUpper later n
  pub vacant : (x : ℕ) → merge.upper.tree.node x ≡ None → ((j : ℕ) → x ≢ fresh j) → later.upper.tree.node x ≡ None
  pub lower : (n layer : ℕ) (path : List (List ℕ)) → later.real n ≡ Some (Lower layer path)
      → merge.real n ≡ Some (Lower layer path)
  pub upper : Goes stack.directory merge.upper later.upper
  pub names : Told (IsNewBy fresh) merge.upper later.upper
  pub objects : (n object : ℕ) → later.real n ≡ Some (Upper object)
      → (merge.real n ≡ Some (Upper object)) ⊎ IsNewBy fresh object
  pub sizes : is_fit_tree merge.files ≡ true → is_fit_tree merge.upper ≡ true → is_fit_tree later.upper ≡ true

pub record IsLineCopied (stack : Stack ℕ) (fresh : Fresh ℕ) (merge later : Merge ℕ) (list : List ℕ) : Type 0 where
  pub copied : IsCopied stack fresh merge later
  pub all : (n : ℕ) → Among list n → StandsInUpper later n
  -- copies of directories cut no path
  pub cut : ((x : ℕ) → Among list x → IsDirectory merge.files.tree x) → (path : List (List ℕ))
      → cuts (view_in later.upper stack.directory) path ≡ cuts (view_in merge.upper stack.directory) path

module _ (stack : Stack ℕ) (fresh : Fresh ℕ) (distinct : (j k : ℕ) → fresh j ≡ fresh k → j ≡ k) where
  -- a copy takes no other number
  still_vacant : (merge : Merge ℕ) (copy : ℕ) (node : Node ℕ) (o : Option (ℕ × List ℕ)) (x : ℕ)
      → merge.upper.tree.node x ≡ None → x ≢ copy
      → (copy_named nat_eq merge copy o (with_inode nat_eq merge.upper copy node)).tree.node x ≡ None
  still_vacant merge copy node None x none differ = node_other merge.upper.tree copy (Some node) x differ ∙ none
  still_vacant merge copy node (Some name) x none differ =
      grind (arith, common_steps, none_from_not_some, part-changed_node, is_some-node_with_entry, node_other)

  -- what lies below after a copy lay there before
  pub below_before : (merge : Merge ℕ) (object copy n layer : ℕ) (path : List (List ℕ))
      → with_real nat_eq merge.real object (Upper copy) n ≡ Some (Lower layer path)
      → merge.real n ≡ Some (Lower layer path)
  below_before merge object copy n layer path e = grind (arith, common_steps, none_is_some)

  -- an upper object after a copy was one before, or is the copy
  own_before : (merge : Merge ℕ) (object k n y : ℕ)
      → with_real nat_eq merge.real object (Upper (fresh k)) n ≡ Some (Upper y)
      → (merge.real n ≡ Some (Upper y)) ⊎ IsNewBy fresh y
  own_before merge object k n y e = grind (arith, common_steps, same_Some)

  -- names lead where they led after a copy, or to the copy
  copy_told : (merge : Merge ℕ) (copy : ℕ) (node : Node ℕ) → entries_of node.content ≡ [] → (o : Option (ℕ × List ℕ))
      → IsNewBy fresh copy
      → Told (IsNewBy fresh) merge.upper (copy_named nat_eq merge copy o (with_inode nat_eq merge.upper copy node))
  copy_told merge copy node bare None own = told_inode (IsNewBy fresh) merge.upper copy node bare
  copy_told merge copy node bare (Some name) own = told_both _ merge.upper (with_inode nat_eq merge.upper copy node)
      (copy_named nat_eq merge copy (Some name) (with_inode nat_eq merge.upper copy node))
      (told_inode (IsNewBy fresh) merge.upper copy node bare)
      (told_name (IsNewBy fresh) (with_inode nat_eq merge.upper copy node) (upper_of merge name.0) name.1 copy own)

  -- a copy is within the limits, and so is its name
  copy_sized : (merge : Merge ℕ) → IsWhole stack merge → (object copy : ℕ) (node : Node ℕ)
      → merge.files.tree.node object ≡ Some node
      → (o : Option (ℕ × List ℕ)) → a_name nat_eq merge.files object ≡ o → is_fit_tree merge.files ≡ true
      → is_fit_tree merge.upper ≡ true → is_fit_tree (copy_named nat_eq merge copy o (with_inode nat_eq merge.upper copy
      (record { attr = node.attr; content = copied_content (copy_parent merge copy o) node.content }))) ≡ true
  copy_sized merge whole object copy node is o named f h = by o named
    where
      limits : (p : ℕ) → is_fit_node (record { attr = node.attr; content = copied_content p node.content }) ≡ true
      limits p = copy_fits_limits p node (cc (is, fits_here merge.files whole.numbers f object (ap is_some is)))

      by : (o : Option (ℕ × List ℕ)) → a_name nat_eq merge.files object ≡ o
          → is_fit_tree (copy_named nat_eq merge copy o (with_inode nat_eq merge.upper copy
          (record { attr = node.attr; content = copied_content (copy_parent merge copy o) node.content }))) ≡ true
      by None e = inode_fits merge.upper copy _ (limits copy) h
      by (Some name) e =
          let inode : Node ℕ = record {
            attr = node.attr;
            content = copied_content (upper_of merge name.0) node.content;
          } in
          name_sized (with_inode nat_eq merge.upper copy inode) (upper_of merge name.0) name.1 copy
          (name_fits merge.files whole.numbers f name.0 name.1 object (named_so merge.files whole.tree object name e))
          (inode_fits merge.upper copy inode (limits (upper_of merge name.0)) h)

  grown_still : (merge : Merge ℕ) (object copy n : ℕ) → StandsInUpper merge n
      → is_some (upper_object (with_real nat_eq merge.real object (Upper copy) n)) ≡ true
  grown_still merge object copy n h = by (nat_eq n object)
    where
      by : (b : Bool) → is_some (upper_object (cond b (Some (Upper copy)) (merge.real n))) ≡ true
      by true = refl
      by false = h

  abbrev Rest : ℕ → List ℕ → Type 0
  Rest k rest = (m : Merge ℕ) (ready : List ℕ) → IsWhole stack m → IsLine m.files ready rest
      → ((n : ℕ) → Among ready n → StandsInUpper m n)
      → ((x : ℕ) → Among rest x → IsThere m.files x) → ((j : ℕ) → k + 1 ≤ j → m.upper.tree.node (fresh j) ≡ None)
      → IsLineCopied stack fresh m (copied_each nat_eq fresh (k + 1) m rest) rest

  line_copied : (list : List ℕ) (k : ℕ) (merge : Merge ℕ) (done : List ℕ) → IsWhole stack merge
      → IsLine merge.files done list
      → ((n : ℕ) → Among done n → StandsInUpper merge n) → ((x : ℕ) → Among list x → IsThere merge.files x)
      → ((j : ℕ) → k ≤ j → merge.upper.tree.node (fresh j) ≡ None)
      → IsLineCopied stack fresh merge (copied_each nat_eq fresh k merge list) list
  line_copied [] k merge done whole line up there unused = record {
    copied = record {
      whole = whole;
      files = refl;
      grows = λ n h. h;
      vacant = λ x none out. none;
      lower = λ n layer path e. e;
      upper = goes_none stack.directory merge.upper (top_good stack merge whole);
      names = told_none (IsNewBy fresh) merge.upper;
      objects = λ n o e. inl e;
      sizes = λ f h. h;
    };
    all = λ n m. absurd m;
    cut = λ d path. refl;
  }
  line_copied (object ∷ rest) k merge done whole line up there unused = by _ refl _ refl (line_copied rest (k + 1))
    where
      up_with : (m : Merge ℕ) → ((n : ℕ) → StandsInUpper merge n → StandsInUpper m n) → StandsInUpper m object
          → (n : ℕ) → Among (object ∷ done) n → StandsInUpper m n
      up_with m grows stands n (inl e) = subst (StandsInUpper m) e stands
      up_with m grows stands n (inr l) = grows n (up n l)

      -- it stands there already
      stays : is_in_upper merge object ≡ true → Rest k rest
          → IsLineCopied stack fresh merge (copied_each nat_eq fresh (k + 1) merge rest) (object ∷ rest)
      stays stands later =
          let next = later merge (object ∷ done) whole line.1 (up_with merge (λ n h. h) stands)
          (λ x m. there x (inr m)) (λ j h. unused j (omega arith)) in
          record {
            copied = next.copied;
            all = λ n m. ⊎_elim (λ e. subst (StandsInUpper (copied_each nat_eq fresh (k + 1) merge rest)) e
                (next.copied.grows object stands)) (λ l. next.all n l) m;
            cut = λ d path. next.cut (λ x m. d x (inr m)) path;
          }

      goes : (node : Node ℕ) → merge.files.tree.node object ≡ Some node → is_in_upper merge object ≡ false → Rest k rest
          → IsLineCopied stack fresh merge
          (copied_each nat_eq fresh (k + 1) (copy_of_node nat_eq merge object (fresh k) node) rest) (object ∷ rest)
      goes node is low later =
          let one = copy_of_node nat_eq merge object (fresh k) node in
          let now = copy_keeps_whole stack merge object (fresh k)
          node whole is (none_from_not_some _ low) (unused k (omega arith)) (λ name e. up name.0 (line.0 name e)) in
          let grows : (n : ℕ) → StandsInUpper merge n → StandsInUpper one n = λ n h. grown_still merge object _ n h in
          let stands : StandsInUpper one object =
          ap (λ b. is_some (upper_object (cond b (Some (Upper (fresh k))) (merge.real object))))
          (eq-eqb object object refl) in
          let still : (x : ℕ) → merge.upper.tree.node x ≡ None → x ≢ fresh k → one.upper.tree.node x ≡ None =
          λ x none differ. still_vacant merge (fresh k) (record {
            attr = node.attr;
            content = copied_content (copy_parent merge (fresh k) (a_name nat_eq merge.files object)) node.content;
          }) (a_name nat_eq merge.files object) x none differ in
          let next = later one _ now line.1 (up_with one grows stands) (λ x m. there x (inr m)) (λ j h. still (fresh j)
          (unused j (omega arith)) (λ e. let same = distinct j k e in absurd (let no : ⊥ = omega arith in no))) in
          record {
            copied = record {
              whole = next.copied.whole;
              files = next.copied.files;
              grows = λ n h. next.copied.grows n (grows n h);
              vacant = λ x none out. next.copied.vacant x (still x none (out k)) out;
              lower = λ n layer path e. below_before merge object _ n layer path (next.copied.lower n layer path e);
              upper = goes_both _ _ one.upper _ (copy_goes stack merge object _ node whole is (none_from_not_some _ low)
                  (unused k (omega arith)) (λ name e. up name.0 (line.0 name e))) next.copied.upper;
              names = told_both (IsNewBy fresh) merge.upper one.upper (copied_each nat_eq fresh (k + 1) one rest).upper
                  (copy_told merge (fresh k) (record {
                    attr = node.attr;
                    content = copied_content
                        (copy_parent merge (fresh k) (a_name nat_eq merge.files object)) node.content;
                  }) (entries_of-copied_content _ node.content) _ (k, refl)) next.copied.names;
              objects = λ n o e. ⊎_elim (λ f. own_before merge object k n o f) inr (next.copied.objects n o e);
              sizes = λ f h. next.copied.sizes f (copy_sized merge whole object (fresh k) node is _ refl f h);
            };
            all = λ n m. ⊎_elim (λ e. subst (StandsInUpper (copied_each nat_eq fresh (k + 1) one rest)) e
                (next.copied.grows object stands)) (λ l. next.all n l) m;
            cut = λ d path. next.cut (λ x m. d x (inr m)) path ∙ copy_cuts stack merge object (fresh k) node whole is
                (none_from_not_some (upper_object (merge.real object)) low)
                (unused k (omega arith)) (λ name e. up name.0 (line.0 name e))
                (ap is_directory_node (sym is) ∙ d object (inl refl)) path;
          }

      by : (o : Option (Node ℕ)) → merge.files.tree.node object ≡ o → (b : Bool) → is_in_upper merge object ≡ b
          → Rest k rest → IsLineCopied stack fresh merge
          (copied_each nat_eq fresh (k + 1) (copy_of nat_eq merge object (fresh k) o b) rest) (object ∷ rest)
      by None e b s later = absurd (true≢false (sym (there object (inl refl)) ∙ ap is_some e))
      by (Some node) e true s later = stays s later
      by (Some node) e false s later = goes node e s later

  pub object_copied : (merge : Merge ℕ) (object : ℕ) → IsWhole stack merge
      → ((k : ℕ) → merge.upper.tree.node (fresh k) ≡ None) → IsThere merge.files object
      → IsLineCopied stack fresh merge (copied_up nat_eq fresh merge object) (line_to nat_eq merge.files object)
  object_copied merge object whole unused there =
      let good = to_object merge.files whole.tree whole.numbers object there in
      line_copied _ 0 merge [] whole good.line (λ n m. absurd m) good.there (λ j h. unused j)

  pub stands_copied : (merge : Merge ℕ) (object : ℕ) (whole : IsWhole stack merge)
      (unused : (k : ℕ) → merge.upper.tree.node (fresh k) ≡ None) (there : IsThere merge.files object)
      → StandsInUpper (copied_up nat_eq fresh merge object) object
  stands_copied merge object whole unused there = (object_copied merge object whole unused there).all object
      (to_object merge.files whole.tree whole.numbers object there).ends

pub copies_keep_whole : CopiesKeepWhole
copies_keep_whole fresh stack merge object whole distinct unused there =
    (object_copied stack fresh distinct merge object whole unused there).copied.whole
