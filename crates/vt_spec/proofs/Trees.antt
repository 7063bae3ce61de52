-- Each change of a tree keeps the conditions of a tree.
use Rattle.std.proofs.Common.{◌≡◌, ◌≢◌, refl, sym, ap, subst, ◌∙◌, true≢false, ℕ, nat_eq, Bool, true, false, cond, List, [], ◌∷◌, ◌++◌, ◌⊎◌, inl, inr, ⊎_elim, Option, Some, None, is_some, option_and_then, arith}
use Rattle.std.proofs.lemmas.Bool.Decides.{eqb_tells}
use Rattle.std.proofs.lemmas.Float.{T_from_true}
use Rattle.std.specs.FinMap.Entries.{is_sorted, is_sorted-put}
use Rattle.std.specs.Cmp.Lexicographic.{nat_list_cmp_total}
use Rattle.std.specs.Ordering.{eq_by_cmp, is_eq}
use Rattle.std.specs.Cmp.{tied_itself}
use Rattle.vt_spec.specs.declared.attributes.Attr.{Attr}
use Rattle.vt_spec.specs.Rights.{is_directory}
use Rattle.vt_spec.specs.Tree.{Tree, Node, Content, name_cmp, kind_of, entry_named, with_entry, entries_of, parent_of, new_directory, is_directory_node, entries_in, parent_in, node_with_entry, node_with_bytes, with_node, with_object, with_file_bytes, tree_of_root}
use Rattle.vt_spec.specs.Tree.Content.{Directory, Regular, Symlink, Whiteout}
use Rattle.vt_spec.specs.Laws.Trees.{IsNewIn}
use Rattle.vt_spec.specs.TreeInvariant.{entry_at, led, IsDirectory, HasName, IsReached, IsTree}
use Rattle.vt_spec.proofs.Nodes.{passes, directory_used, same_name, none_is_not, entry_named-with_entry, is_directory-node_with_entry, parent-node_with_entry, is_some-node_with_entry, entries-node_with_entry, is_directory-node_with_bytes, parent-node_with_bytes, is_some-node_with_bytes, entries-node_with_bytes, node_set, node_other, part_kept}

-- the tree of one empty directory is a tree
pub is_tree-tree_of_root : (root : ℕ) (attr : Attr) → IsTree (tree_of_root nat_eq root attr)
is_tree-tree_of_root root attr = grind arith

-- what a step that may find nothing found
pub found : {A B : Type 0} (f : A → Option B) (o : Option A) (b : B) → option_and_then f o ≡ Some b
    → (a : A) × (o ≡ Some a) × (f a ≡ Some b)
found f None b e = absurd (true≢false (sym (ap is_some e)))
found f (Some a) b e = (a, refl, e)

-- a name more leads from where a list of names leads to where that name leads
pub led-append : (tree : Tree ℕ) (from : ℕ) (names : List (List ℕ)) (name : List ℕ) (middle number : ℕ)
    → led tree from names ≡ Some middle → entry_at tree middle name ≡ Some number
    → led tree from (names ++ name ∷ []) ≡ Some number
led-append tree from [] name middle number e h =
    let same : from ≡ middle = cc in
    ap (λ m. option_and_then (λ next. led tree next []) (entry_at tree m name)) same
    ∙ ap (option_and_then (λ next. led tree next [])) h
led-append tree from (first ∷ names) name middle number e h =
    let step = found (λ next. led tree next names) (entry_at tree from first) middle e in
    ap (option_and_then (λ next. led tree next (names ++ name ∷ []))) step.1
    ∙ led-append tree step.0 names name middle number step.2 h

-- names lead on in a tree that keeps the entries of another
pub led_kept : (tree grown : Tree ℕ)
    → ((directory : ℕ) (name : List ℕ) (number : ℕ) → entry_at tree directory name ≡ Some number
    → entry_at grown directory name ≡ Some number) → (from : ℕ) (names : List (List ℕ)) (number : ℕ)
    → led tree from names ≡ Some number → led grown from names ≡ Some number
led_kept tree grown kept from [] number e = e
led_kept tree grown kept from (name ∷ names) number e =
    let step = found (λ next. led tree next names) (entry_at tree from name) number e in
    ap (option_and_then (λ next. led grown next names)) (kept from name step.0 step.1)
    ∙ led_kept tree grown kept step.0 names number step.2

-- Where names lead is where they begin, or is led to by the last of them from where the others lead.
pub last_step : (tree : Tree ℕ) (from : ℕ) (names : List (List ℕ)) (number : ℕ) → led tree from names ≡ Some number
    → (from ≡ number) ⊎ ((directory : ℕ) × (name : List ℕ) × (entry_at tree directory name ≡ Some number)
    × (front : List (List ℕ)) × (led tree from front ≡ Some directory))
last_step tree from [] number e = inl cc
last_step tree from (name ∷ names) number e =
    let step = found (λ next. led tree next names) (entry_at tree from name) number e in
    ⊎_elim (λ same. inr (from, name, step.1 ∙ ap Some same, [], refl)) (λ later. inr (
      later.0,
      later.1,
      later.2,
      name ∷ later.3,
      ap (option_and_then (λ next. led tree next later.3)) step.1 ∙ later.4,
    )) (last_step tree step.0 names number step.2)

-- a place that is reached is the root, or has a name
pub reached_named : (tree : Tree ℕ) (number : ℕ) → IsReached tree number → (tree.root ≡ number) ⊎ HasName tree number
reached_named tree number reached =
    ⊎_elim inl (λ step. inr (step.0, step.1, step.2)) (last_step tree tree.root reached.0 number reached.1)

-- the root is reached
pub root_reached : (tree : Tree ℕ) → IsReached tree tree.root
root_reached tree = ([], refl)

-- what an entry of a place that is reached leads to is reached
pub entry_reached : (tree : Tree ℕ) (directory : ℕ) (name : List ℕ) (number : ℕ) → IsReached tree directory
    → entry_at tree directory name ≡ Some number → IsReached tree number
entry_reached tree directory name number reached e =
    (reached.0 ++ name ∷ [], led-append tree tree.root reached.0 name directory number reached.1 e)

-- the parent of a directory that is reached is reached
pub parent_reached : (tree : Tree ℕ) → IsTree tree → (number : ℕ) → IsDirectory tree number → IsReached tree number
    → IsReached tree (parent_in number (tree.node number))
parent_reached tree conditions number is reached = ⊎_elim
    (λ same. subst (λ n. IsReached tree (parent_in n (tree.node n))) same
    (subst (IsReached tree) (sym conditions.root_parent) (root_reached tree)))
    (λ step. subst (IsReached tree) (sym (conditions.one_parent step.0 step.1 number step.2 is)) (step.3, step.4))
    (last_step tree tree.root reached.0 number reached.1)

-- what a new object holds: no entry, and as a directory the directory's number as its parent
abbrev IsNewContent : ℕ → Content ℕ → Type 0
IsNewContent directory content = (content ≡ new_directory directory) ⊎ (is_directory (kind_of content) ≡ false)

entries_of_new : (directory : ℕ) (content : Content ℕ) → IsNewContent directory content → entries_of content ≡ []
entries_of_new directory (Directory parent entries opaque) (inl e) = ap entries_of e
entries_of_new directory (Directory parent entries opaque) (inr e) = absurd (true≢false e)
entries_of_new directory (Regular bytes) e = refl
entries_of_new directory (Symlink text) e = refl
entries_of_new directory Whiteout e = refl

parent_of_new : (directory own : ℕ) (content : Content ℕ) → IsNewContent directory content
    → is_directory (kind_of content) ≡ true → parent_of own content ≡ directory
parent_of_new directory own content (inl e) d = ap (parent_of own) e
parent_of_new directory own content (inr e) d = absurd (true≢false (sym d ∙ e))

-- A new object in a directory
module _ (tree : Tree ℕ) (directory : ℕ) (name : List ℕ) (number : ℕ) (node : Node ℕ)
    (conditions : IsTree tree) (in_directory : IsDirectory tree directory) (reached : IsReached tree directory)
    (no_entry : entry_at tree directory name ≡ None) (vacant : tree.node number ≡ None)
    (fits : IsNewIn directory node) where
  abbrev grown : Tree ℕ
  grown = with_object nat_eq tree directory name number node

  -- a number that is in use is not the new one
  pub used_differs : (m : ℕ) → is_some (tree.node m) ≡ true → m ≢ number
  used_differs m used e = true≢false (sym used ∙ ap (λ n. is_some (tree.node n)) e ∙ ap is_some vacant)

  pub node_new : grown.node number ≡ Some node
  node_new = node_set (with_node nat_eq tree directory (node_with_entry name number (tree.node directory))) number
      (Some node)

  -- what a directory keeps when it gets an entry is kept at each number but the new one
  pub kept_beside : {A : Type 0} (part : Option (Node ℕ) → A)
      → ((o : Option (Node ℕ)) → part (node_with_entry name number o) ≡ part o) → (m : ℕ) → m ≢ number
      → part (grown.node m) ≡ part (tree.node m)
  kept_beside part same m differ =
      ap part (node_other (with_node nat_eq tree directory (node_with_entry name number (tree.node directory))) number
      (Some node) m differ)
      ∙ part_kept part tree directory (node_with_entry name number (tree.node directory)) (same (tree.node directory)) m

  -- the entries of the directory, and those of the others
  entries_there : entries_in (grown.node directory) ≡ with_entry name number (entries_in (tree.node directory))
  entries_there = ap entries_in (node_other (with_node nat_eq tree directory
      (node_with_entry name number (tree.node directory))) number (Some node) directory
      (used_differs directory (directory_used tree directory in_directory)))
      ∙ ap entries_in (node_set tree directory (node_with_entry name number (tree.node directory)))
      ∙ entries-node_with_entry name number (tree.node directory) in_directory

  entries_new : entries_in (grown.node number) ≡ []
  entries_new = ap entries_in node_new ∙ entries_of_new directory node.content fits

  entries_elsewhere : (m : ℕ) → m ≢ number → m ≢ directory → entries_in (grown.node m) ≡ entries_in (tree.node m)
  entries_elsewhere m new here = ap entries_in (node_other (with_node nat_eq tree directory
      (node_with_entry name number (tree.node directory))) number (Some node) m new)
      ∙ ap entries_in (node_other tree directory (node_with_entry name number (tree.node directory)) m here)

  -- the new name leads to the new object
  pub entry_new : entry_at grown directory name ≡ Some number
  entry_new = ap (entry_named name) entries_there
      ∙ entry_named-with_entry name name number (entries_in (tree.node directory))
      ∙ ap (λ o. cond (is_eq o) (Some number) (entry_named name (entries_in (tree.node directory))))
      (tied_itself nat_list_cmp_total name)

  -- each other name of the directory leads where it led
  entry_there : (n : List ℕ) (k : ℕ) → entry_at tree directory n ≡ Some k → entry_at grown directory n ≡ Some k
  entry_there n k e =
      ap (entry_named n) entries_there ∙ entry_named-with_entry n name number (entries_in (tree.node directory))
      ∙ by (eq_by_cmp name_cmp n name) refl
    where
      by : (b : Bool) → eq_by_cmp name_cmp n name ≡ b
          → cond b (Some number) (entry_named n (entries_in (tree.node directory))) ≡ Some k
      by true tie = none_is_not (entry_at tree directory n) k
          (ap (entry_at tree directory) (same_name n name tie) ∙ no_entry) e
      by false tie = e

  -- every entry stays
  pub entry_kept : (d : ℕ) (n : List ℕ) (k : ℕ) → entry_at tree d n ≡ Some k → entry_at grown d n ≡ Some k
  entry_kept d n k e = ⊎_elim (λ t. none_is_not (entry_at tree d n) k
      (ap (λ m. entry_at tree m n) t.1 ∙ ap (λ o. entry_named n (entries_in o)) vacant) e) (λ t. ⊎_elim
      (λ s. ap (λ m. entry_at grown m n) s.1 ∙ entry_there n k (ap (λ m. entry_at tree m n) (sym s.1) ∙ e))
      (λ s. ap (entry_named n) (entries_elsewhere d t.1 s.1) ∙ e) (eqb_tells d directory)) (eqb_tells d number)

  abbrev IsTheNew : ℕ → List ℕ → ℕ → Type 0
  IsTheNew d n k = (d ≡ directory) × (n ≡ name) × (k ≡ number)

  -- and every entry is the new one or was there
  told_there : (n : List ℕ) (k : ℕ) → entry_at grown directory n ≡ Some k
      → IsTheNew directory n k ⊎ (entry_at tree directory n ≡ Some k)
  told_there n k e = by (eq_by_cmp name_cmp n name) refl
      (sym (entry_named-with_entry n name number (entries_in (tree.node directory)))
      ∙ sym (ap (entry_named n) entries_there) ∙ e)
    where
      by : (b : Bool) → eq_by_cmp name_cmp n name ≡ b
          → cond b (Some number) (entry_named n (entries_in (tree.node directory))) ≡ Some k
          → IsTheNew directory n k ⊎ (entry_at tree directory n ≡ Some k)
      by true tie is = inl (refl, same_name n name tie, cc)
      by false tie is = inr is

  entry_told : (d : ℕ) (n : List ℕ) (k : ℕ) → entry_at grown d n ≡ Some k
      → IsTheNew d n k ⊎ (entry_at tree d n ≡ Some k)
  entry_told d n k e = ⊎_elim
      (λ t. none_is_not (entry_at grown d n) k (ap (λ m. entry_at grown m n) t.1 ∙ ap (entry_named n) entries_new) e)
      (λ t. ⊎_elim (λ s. subst (λ m. IsTheNew m n k ⊎ (entry_at tree m n ≡ Some k)) (sym s.1)
      (told_there n k (ap (λ m. entry_at grown m n) (sym s.1) ∙ e)))
      (λ s. inr (sym (ap (entry_named n) (entries_elsewhere d t.1 s.1)) ∙ e)) (eqb_tells d directory))
      (eqb_tells d number)

  -- the rest of a directory is as it was, at each number but the new one
  directory_beside : (m : ℕ) → m ≢ number → is_directory_node (grown.node m) ≡ is_directory_node (tree.node m)
  directory_beside m new = kept_beside is_directory_node (is_directory-node_with_entry name number) m new

  pub parent_beside : (own m : ℕ) → m ≢ number → parent_in own (grown.node m) ≡ parent_in own (tree.node m)
  parent_beside own m new = kept_beside (parent_in own) (parent-node_with_entry name number own) m new

  used_beside : (m : ℕ) → m ≢ number → is_some (grown.node m) ≡ is_some (tree.node m)
  used_beside m new = kept_beside is_some (is_some-node_with_entry name number) m new

  pub directory_kept : (m : ℕ) → IsDirectory tree m → IsDirectory grown m
  directory_kept m d = directory_beside m (used_differs m (directory_used tree m d)) ∙ d

  -- where an entry that was there leads, there is no new object
  leads_beside : (d : ℕ) (n : List ℕ) (k : ℕ) → entry_at tree d n ≡ Some k → k ≢ number
  leads_beside d n k e = used_differs k (conditions.alive d n k e)

  grown_in_order : (d : ℕ) → is_sorted name_cmp (entries_in (grown.node d)) ≡ true
  grown_in_order d = ⊎_elim
      (λ t. ap (λ m. is_sorted name_cmp (entries_in (grown.node m))) t.1 ∙ ap (is_sorted name_cmp) entries_new)
      (λ t. ⊎_elim
      (λ s. ap (λ m. is_sorted name_cmp (entries_in (grown.node m))) s.1 ∙ ap (is_sorted name_cmp) entries_there
      ∙ passes _ (is_sorted-put name_cmp nat_list_cmp_total name number (entries_in (tree.node directory))
      (T_from_true _ (conditions.in_order directory))))
      (λ s. ap (is_sorted name_cmp) (entries_elsewhere d t.1 s.1) ∙ conditions.in_order d) (eqb_tells d directory))
      (eqb_tells d number)

  grown_alive : (d : ℕ) (n : List ℕ) (k : ℕ) → entry_at grown d n ≡ Some k → is_some (grown.node k) ≡ true
  grown_alive d n k e = ⊎_elim (λ t. ap (λ m. is_some (grown.node m)) t.2 ∙ ap is_some node_new)
      (λ old. used_beside k (leads_beside d n k old) ∙ conditions.alive d n k old) (entry_told d n k e)

  grown_one_parent : (d : ℕ) (n : List ℕ) (k : ℕ) → entry_at grown d n ≡ Some k → IsDirectory grown k
      → parent_in k (grown.node k) ≡ d
  grown_one_parent d n k e is = ⊎_elim (λ t. ap (λ m. parent_in k (grown.node m)) t.2 ∙ ap (parent_in k) node_new
      ∙ parent_of_new directory k node.content fits
      (sym (ap is_directory_node node_new) ∙ ap (λ m. is_directory_node (grown.node m)) (sym t.2) ∙ is) ∙ sym t.0)
      (λ old. parent_beside k k (leads_beside d n k old)
      ∙ conditions.one_parent d n k old (sym (directory_beside k (leads_beside d n k old)) ∙ is)) (entry_told d n k e)

  grown_one_name : (d : ℕ) (n other : List ℕ) (k : ℕ) → entry_at grown d n ≡ Some k → entry_at grown d other ≡ Some k
      → IsDirectory grown k → n ≡ other
  grown_one_name d n other k e f is = ⊎_elim (λ t. ⊎_elim (λ s. t.1 ∙ sym s.1)
      (λ old. absurd (leads_beside d other k old t.2)) (entry_told d other k f)) (λ old. ⊎_elim
      (λ s. absurd (leads_beside d n k old s.2))
      (λ older. conditions.one_name d n other k old older (sym (directory_beside k (leads_beside d n k old)) ∙ is))
      (entry_told d other k f)) (entry_told d n k e)

  grown_parent_directory : (m : ℕ) → IsDirectory grown m → IsDirectory grown (parent_in m (grown.node m))
  grown_parent_directory m is = ⊎_elim (λ t. subst (IsDirectory grown)
      (sym (ap (λ k. parent_in m (grown.node k)) t.1 ∙ ap (parent_in m) node_new
      ∙ parent_of_new directory m node.content fits
      (sym (ap is_directory_node node_new) ∙ ap (λ k. is_directory_node (grown.node k)) (sym t.1) ∙ is)))
      (directory_kept directory in_directory)) (λ t. subst (IsDirectory grown) (sym (parent_beside m m t.1))
      (directory_kept (parent_in m (tree.node m)) (conditions.parent_directory m (sym (directory_beside m t.1) ∙ is))))
      (eqb_tells m number)

  -- names that lead to the directory lead with the new name to the new object
  grown_reached : (m : ℕ) → IsDirectory grown m → HasName grown m → IsReached grown m
  grown_reached m is named = ⊎_elim (λ t. (
    reached.0 ++ name ∷ [],
    led-append grown tree.root reached.0 name directory m
        (led_kept tree grown entry_kept tree.root reached.0 directory reached.1) (entry_new ∙ ap Some (sym t.2)),
  )) (λ old.
      let way = conditions.reached m (sym (directory_beside m (leads_beside named.0 named.1 m old)) ∙ is)
      (named.0, named.1, old) in
      (way.0, led_kept tree grown entry_kept tree.root way.0 m way.1)) (entry_told named.0 named.1 m named.2)

  grown_unnamed_empty : (m : ℕ) → IsDirectory grown m → m ≢ tree.root → ¬ (HasName grown m)
      → entries_in (grown.node m) ≡ []
  grown_unnamed_empty m is root unnamed = ⊎_elim (λ t. ap (λ k. entries_in (grown.node k)) t.1 ∙ entries_new)
      (λ t. ⊎_elim (λ s. absurd (⊎_elim (λ same. root (s.1 ∙ sym same))
      (λ named. unnamed (named.0, named.1, entry_kept named.0 named.1 m (named.2 ∙ ap Some (sym s.1))))
      (reached_named tree directory reached))) (λ s. entries_elsewhere m t.1 s.1
      ∙ conditions.unnamed_empty m (sym (directory_beside m t.1) ∙ is) root
      (λ named. unnamed (named.0, named.1, entry_kept named.0 named.1 m named.2))) (eqb_tells m directory))
      (eqb_tells m number)

  -- a new object under a name that was free, in a directory that names lead to from the root, keeps the conditions of a
  -- tree
  pub is_tree-with_object : IsTree (with_object nat_eq tree directory name number node)
  is_tree-with_object = record {
    root_directory = directory_kept tree.root conditions.root_directory;
    root_parent = parent_beside tree.root tree.root
        (used_differs tree.root (directory_used tree tree.root conditions.root_directory)) ∙ conditions.root_parent;
    root_unnamed = λ d n e. ⊎_elim
        (λ t. used_differs tree.root (directory_used tree tree.root conditions.root_directory) t.2)
        (λ old. conditions.root_unnamed d n old) (entry_told d n tree.root e);
    in_order = grown_in_order;
    alive = grown_alive;
    one_parent = grown_one_parent;
    one_name = grown_one_name;
    parent_directory = grown_parent_directory;
    reached = grown_reached;
    unnamed_empty = grown_unnamed_empty;
  }

-- A file with other bytes
module _ (tree : Tree ℕ) (file : ℕ) (bytes : List ℕ) (conditions : IsTree tree) where
  abbrev rewritten : Tree ℕ
  rewritten = with_file_bytes nat_eq tree file bytes

  -- what a file keeps when it gets other bytes is kept at each number
  pub same_part : {A : Type 0} (part : Option (Node ℕ) → A)
      → ((o : Option (Node ℕ)) → part (node_with_bytes bytes o) ≡ part o) → (m : ℕ)
      → part (rewritten.node m) ≡ part (tree.node m)
  same_part part same m = part_kept part tree file (node_with_bytes bytes (tree.node file)) (same (tree.node file)) m

  same_directory : (m : ℕ) → is_directory_node (rewritten.node m) ≡ is_directory_node (tree.node m)
  same_directory m = same_part is_directory_node (is_directory-node_with_bytes bytes) m

  same_parent : (own m : ℕ) → parent_in own (rewritten.node m) ≡ parent_in own (tree.node m)
  same_parent own m = same_part (parent_in own) (parent-node_with_bytes bytes own) m

  same_used : (m : ℕ) → is_some (rewritten.node m) ≡ is_some (tree.node m)
  same_used m = same_part is_some (is_some-node_with_bytes bytes) m

  same_entries : (m : ℕ) → entries_in (rewritten.node m) ≡ entries_in (tree.node m)
  same_entries m = same_part entries_in (entries-node_with_bytes bytes) m

  pub same_entry : (d : ℕ) (n : List ℕ) → entry_at rewritten d n ≡ entry_at tree d n
  same_entry d n = ap (entry_named n) (same_entries d)

  -- other bytes of a file keep the conditions of a tree
  pub is_tree-with_file_bytes : IsTree (with_file_bytes nat_eq tree file bytes)
  is_tree-with_file_bytes = record {
    root_directory = same_directory tree.root ∙ conditions.root_directory;
    root_parent = same_parent tree.root tree.root ∙ conditions.root_parent;
    root_unnamed = λ d n e. conditions.root_unnamed d n (sym (same_entry d n) ∙ e);
    in_order = λ d. ap (is_sorted name_cmp) (same_entries d) ∙ conditions.in_order d;
    alive = λ d n k e. same_used k ∙ conditions.alive d n k (sym (same_entry d n) ∙ e);
    one_parent = λ d n k e is. same_parent k k
        ∙ conditions.one_parent d n k (sym (same_entry d n) ∙ e) (sym (same_directory k) ∙ is);
    one_name = λ d n other k e f is.
        conditions.one_name d n other k (sym (same_entry d n) ∙ e) (sym (same_entry d other) ∙ f)
        (sym (same_directory k) ∙ is);
    parent_directory = λ m is. subst (IsDirectory rewritten) (sym (same_parent m m))
        (same_directory (parent_in m (tree.node m)) ∙ conditions.parent_directory m (sym (same_directory m) ∙ is));
    reached = λ m is named.
        let way = conditions.reached m (sym (same_directory m) ∙ is)
        (named.0, named.1, sym (same_entry named.0 named.1) ∙ named.2) in
        (way.0, led_kept tree rewritten (λ d n k e. same_entry d n ∙ e) tree.root way.0 m way.1);
    unnamed_empty = λ m is root unnamed. same_entries m ∙ conditions.unnamed_empty m (sym (same_directory m) ∙ is) root
        (λ named. unnamed (named.0, named.1, same_entry named.0 named.1 ∙ named.2));
  }
