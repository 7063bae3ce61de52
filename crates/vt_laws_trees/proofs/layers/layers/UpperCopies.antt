-- A copy-up writes to new inodes and to objects of the upper layer alone: the parents of what is copied are there
-- first.
use Rattle.std.proofs.Common.{◌≡◌, ◌≢◌, ◌≤◌, refl, sym, ap, subst, ◌∙◌, true≢false, arith, ℕ, zero, suc, ◌+◌, nat_eq, eq-eqb, true, false, List, [], ◌∷◌, ◌++◌, reverse, length, Option, Some, None, is_some}
use Rattle.vt_spec.proofs.Common.{FileTree, Fresh, IsTree, ListsNumbers, Merge, Node, Real, a_name, chain, common_steps, copied_each, copied_up, copy_of, directories_to, directory_used, is_in_upper, line_by, named_parent, same_Some, upper_object, upper_of}
use mathlib.Core.List.{reverse-cons}
use Rattle.vt_laws_trees.proofs.layers.layers.LowersKept.{kept_elsewhere}
use Rattle.vt_laws_trees.proofs.layers.layers.UpperChain.{depth_bound, up_at_root, up_from}
use Rattle.vt_laws_trees.proofs.layers.layers.UpperLine.{ReachedIn, is_reached_in, named_so, reached_directory}

-- an inode of the overlay has a real object in the upper layer
abbrev pub HasUpper : (ℕ → Option (Real ℕ)) → ℕ → Type 0
HasUpper real number = is_some (upper_object (real number)) ≡ true

-- a list but for its last is copied, and then its last
copied_last : (fresh : Fresh ℕ) (k : ℕ) (merge : Merge ℕ) (list : List ℕ) (last : ℕ)
    → (copy : ℕ) × (copied_each nat_eq fresh k merge (list ++ last ∷ [])
    ≡ copy_of nat_eq (copied_each nat_eq fresh k merge list) last (fresh copy)
    ((copied_each nat_eq fresh k merge list).files.tree.node last)
    (is_in_upper (copied_each nat_eq fresh k merge list) last))
copied_last fresh k merge [] last = (k, refl)
copied_last fresh k merge (object ∷ list) last =
    copied_last fresh (k + 1) (copy_of nat_eq merge object (fresh k) (merge.files.tree.node object)
    (is_in_upper merge object)) list last

module _ (files : FileTree ℕ) (tree : IsTree files.tree) (numbers : ListsNumbers nat_eq files) (inode : ℕ)
    (node : Option (Node ℕ)) where
  abbrev pub MergeOf : (ℕ → Option (Real ℕ)) → FileTree ℕ → Merge ℕ
  MergeOf real upper = record { files = files; real = real; upper = upper }

  -- an inode of the upper tree is as it was, and is the object of no inode of the overlay, whose root has one
  pub record IsApart (real : ℕ → Option (Real ℕ)) (upper : FileTree ℕ) : Type 0 where
    pub here : upper.tree.node inode ≡ node
    pub apart : (number : ℕ) → upper_object (real number) ≢ Some inode
    pub root : HasUpper real files.tree.root

  abbrev pub Grows : (ℕ → Option (Real ℕ)) → (ℕ → Option (Real ℕ)) → Type 0
  Grows real grown = (number : ℕ) → HasUpper real number → HasUpper grown number

  -- after some copies
  pub record Arrives (before : ℕ → Option (Real ℕ)) (merge : Merge ℕ) (object : ℕ) : Type 0 where
    pub real : ℕ → Option (Real ℕ)
    pub upper : FileTree ℕ
    pub is : merge ≡ MergeOf real upper
    pub fine : IsApart real upper
    pub grows : Grows before real
    pub copied : HasUpper real object

  pub upper_differs : (real : ℕ → Option (Real ℕ)) (upper : FileTree ℕ) → IsApart real upper → (number : ℕ)
      → HasUpper real number → nat_eq inode (upper_of (MergeOf real upper) number) ≡ false
  upper_differs real upper fine number has = grind (arith, common_steps, true≢false)

  -- one copy
  pub copy_arrives : (real : ℕ → Option (Real ℕ)) (upper : FileTree ℕ) → IsApart real upper → (object copy : ℕ)
      → inode ≢ copy → is_some (files.tree.node object) ≡ true
      → ((name : ℕ × List ℕ) → a_name nat_eq files object ≡ Some name → HasUpper real name.0)
      → Arrives real (copy_of nat_eq (MergeOf real upper) object copy (files.tree.node object)
      (is_in_upper (MergeOf real upper) object)) object
  copy_arrives real upper fine object copy new there parents =
      grind (arith, common_steps, MergeOf real upper, MergeOf, kept_elsewhere, upper_differs, true≢false, eq-eqb)

  -- and then another, whose parent the first is
  record ArrivesTwice (before : ℕ → Option (Real ℕ)) (merge : Merge ℕ) (object last : ℕ) : Type 0 where
    arrives : Arrives before merge last
    first : HasUpper arrives.real object

  then_copied : (fresh : Fresh ℕ) → ((k : ℕ) → inode ≢ fresh k)
      → (before : ℕ → Option (Real ℕ)) (merge : Merge ℕ) (object last : ℕ) → Arrives before merge object
      → is_some (files.tree.node last) ≡ true
      → ((name : ℕ × List ℕ) → a_name nat_eq files last ≡ Some name → name.0 ≡ object)
      → (copy : ℕ) → ArrivesTwice before
      (copy_of nat_eq merge last (fresh copy) (merge.files.tree.node last) (is_in_upper merge last)) object last
  then_copied fresh new before merge object last arrived there parents copy =
      let next = copy_arrives arrived.real arrived.upper arrived.fine last (fresh copy) (new copy) there
      (λ name e. subst (HasUpper arrived.real) (sym (parents name e)) arrived.copied) in
      let same = ap (λ m. copy_of nat_eq m last (fresh copy) (m.files.tree.node last)
      (is_in_upper m last)) arrived.is in
      record {
        arrives = record {
          real = next.real;
          upper = next.upper;
          is = same ∙ next.is;
          fine = next.fine;
          grows = λ number h. next.grows number (arrived.grows number h);
          copied = next.copied;
        };
        first = next.grows object arrived.copied;
      }

  -- the directories from the root down to one are copied
  line_arrives : (fresh : Fresh ℕ) → ((k : ℕ) → inode ≢ fresh k)
      → (k : ℕ) (real : ℕ → Option (Real ℕ)) (upper : FileTree ℕ) → IsApart real upper → (steps most directory : ℕ)
      → ReachedIn files.tree steps directory → steps ≤ most
      → Arrives real (copied_each nat_eq fresh k (MergeOf real upper)
      (reverse (chain most (named_parent nat_eq files.tree) directory))) directory
  line_arrives fresh new k real upper fine zero most directory r h =
      subst (λ list. Arrives real (copied_each nat_eq fresh k (MergeOf real upper) (reverse list)) directory)
      (sym (up_at_root files tree most directory r)) (copy_arrives real upper fine directory (fresh k) (new k)
      (directory_used files.tree directory (reached_directory files tree zero directory r))
      (λ name e. absurd (tree.root_unnamed name.0 name.1 (named_so files tree directory name e ∙ ap Some r))))
  line_arrives fresh new k real upper fine (suc steps) zero directory r h = absurd (let no : ⊥ = omega arith in no)
  line_arrives fresh new k real upper fine (suc steps) (suc most) directory r h =
      subst (λ list. Arrives real (copied_each nat_eq fresh k (MergeOf real upper) list) directory)
      (sym (ap (λ list. reverse list) (up_from files tree most steps directory r)
      ∙ reverse-cons directory (chain most (named_parent nat_eq files.tree) r.0)))
      (let last = copied_last fresh k (MergeOf real upper)
      (reverse (chain most (named_parent nat_eq files.tree) r.0)) directory in
      subst (λ m. Arrives real m directory) (sym last.1) (then_copied fresh
      new real _ r.0 directory (line_arrives fresh new k real upper fine steps most r.0 r.2 (omega arith))
      (directory_used files.tree directory r.4)
      (λ name e. sym (tree.one_parent name.0 name.1 directory (named_so files tree directory name e) r.4)
      ∙ tree.one_parent r.0 r.1 directory r.3 r.4) last.0).arrives)

  -- An object is copied, and so is the directory that has a name of it.
  pub record ArrivesWithParent (before : ℕ → Option (Real ℕ)) (merge : Merge ℕ) (object : ℕ) : Type 0 where
    pub arrives : Arrives before merge object
    pub parent : (name : ℕ × List ℕ) → a_name nat_eq files object ≡ Some name → HasUpper arrives.real name.0

  pub up_arrives : (fresh : Fresh ℕ) → ((k : ℕ) → inode ≢ fresh k) → (real : ℕ → Option (Real ℕ)) (upper : FileTree ℕ)
      → IsApart real upper → (object : ℕ) → is_some (files.tree.node object) ≡ true
      → ArrivesWithParent real (copied_up nat_eq fresh (MergeOf real upper) object) object
  up_arrives fresh new real upper fine object there = by (a_name nat_eq files object) refl
    where
      by : (named : Option (ℕ × List ℕ)) → a_name nat_eq files object ≡ named
          → ArrivesWithParent real (copied_each nat_eq fresh 0 (MergeOf real upper)
          (line_by nat_eq files object named)) object
      by None e = record {
        arrives = copy_arrives real upper fine object (fresh 0) (new 0) there (λ name is. absurd cc);
        parent = λ name is. absurd cc;
      }
      by (Some name) e =
          let entry = named_so files tree object name e in
          let reached = is_reached_in files tree name.0 name.1 object entry in
          let last = copied_last fresh 0 (MergeOf real upper) (directories_to nat_eq files name.0) object in
          let both = then_copied fresh new real _ name.0 object (line_arrives fresh new 0 real upper fine
          reached.0 (length files.numbers) name.0 reached.1 (depth_bound files tree numbers reached.0 name.0 reached.1))
          there (λ other is. ap (λ n. n.0) (same_Some other name (cc))) last.0 in
          subst (λ m. ArrivesWithParent real m object) (sym last.1) (record {
            arrives = both.arrives;
            parent = λ other is. cc (same_Some name other (cc), both.first);
          })
