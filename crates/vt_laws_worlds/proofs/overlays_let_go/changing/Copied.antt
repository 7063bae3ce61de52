-- What copies and changes of an overlay add to its upper layer.
use Rattle.std.proofs.Common.{arith, ◌≡◌, refl, ◌∙◌, ◌⊎◌, inl, inr, ⊎_elim, true≢false, ℕ, ◌+◌, nat_eq, eq-eqb, Bool, true, false, List, [], ◌∷◌, Option, Some, None, is_some}
use Rattle.vt_spec.proofs.Common.{Change, FileTree, Fresh, Merge, Node, Real, Upper, a_name, changed, common_steps, copied_content, copied_each, copied_up, copy_named, copy_of, copy_of_node, copy_parent, entries_in, entry_named, eqb_tells, is_in_upper, line_to, root-without_parent, upper_object, with_inode, with_mark, with_moved, with_real, without_contents}
use Rattle.vt_laws_mounts.proofs.letting_go.Lists.{Among}
use Rattle.vt_spec.proofs.Worlds.{numbers-without_parent}

-- Copies are real objects of inodes that are there, and each real object in the upper layer stays.
pub record Grows (before later : Merge ℕ) : Type 0 where
  pub files : later.files ≡ before.files
  pub root : later.upper.tree.root ≡ before.upper.tree.root
  pub grows : (number object : ℕ) → upper_object (before.real number) ≡ Some object
      → upper_object (later.real number) ≡ Some object
  pub there : (number : ℕ) → is_some (later.real number) ≡ true
      → (is_some (before.real number) ≡ true) ⊎ (is_some (before.files.tree.node number) ≡ true)
  pub numbers : (inode : ℕ) → Among inode later.upper.numbers → Among inode before.upper.numbers
      ⊎ ((number : ℕ) × (is_some (before.files.tree.node number) ≡ true)
      × (upper_object (later.real number) ≡ Some inode))

pub grows_not : (merge : Merge ℕ) → Grows merge merge
grows_not merge = grind (arith, common_steps)

pub grows_twice : (first second third : Merge ℕ) → Grows first second → Grows second third → Grows first third
grows_twice first second third one two = record {
  files = two.files ∙ one.files;
  root = two.root ∙ one.root;
  grows = λ number object e. two.grows number object (one.grows number object e);
  there = λ number h. ⊎_elim (one.there number) (λ is. inr (back number is)) (two.there number h);
  numbers = λ inode m. ⊎_elim
      (λ was. ⊎_elim inl (λ new. inr (new.0, new.1, two.grows new.0 inode new.2)) (one.numbers inode was))
      (λ new. inr (new.0, back new.0 new.1, new.2)) (two.numbers inode m);
}
  where
    back : (number : ℕ) → is_some (second.files.tree.node number) ≡ true → is_some (first.files.tree.node number) ≡ true
    back number is = cc

-- one copy
module _ (merge : Merge ℕ) (object copy : ℕ) (node : Node ℕ) (is_node : merge.files.tree.node object ≡ Some node)
    (below : is_in_upper merge object ≡ false) where
  abbrev with_copy : FileTree ℕ
  with_copy = with_inode nat_eq merge.upper copy (record {
    attr = node.attr;
    content = copied_content (copy_parent merge copy (a_name nat_eq merge.files object)) node.content;
  })

  abbrev later_real : ℕ → Option (Real ℕ)
  later_real = with_real nat_eq merge.real object (Upper copy)

  root_named : (named : Option (ℕ × List ℕ))
      → (copy_named nat_eq merge copy named with_copy).tree.root ≡ merge.upper.tree.root
  root_named None = refl
  root_named (Some name) = refl

  numbers_named : (named : Option (ℕ × List ℕ))
      → (copy_named nat_eq merge copy named with_copy).numbers ≡ copy ∷ merge.upper.numbers
  numbers_named None = refl
  numbers_named (Some name) = refl

  real_copy : upper_object (later_real object) ≡ Some copy
  real_copy = cc (eq-eqb object object refl)

  pub grows_by_one : Grows merge (copy_of_node nat_eq merge object copy node)
  grows_by_one = grind (arith, common_steps, root_named, true≢false, eqb_tells, real_copy, numbers_named)

-- and all that a change asks for
grows_each : (fresh : Fresh ℕ) (k : ℕ) (merge : Merge ℕ) (objects : List ℕ)
    → Grows merge (copied_each nat_eq fresh k merge objects)
grows_each fresh k merge [] = grows_not merge
grows_each fresh k merge (object ∷ rest) =
    grows_twice merge _ _ (by _ refl _ refl) (grows_each fresh (k + 1) (copy_of nat_eq merge object (fresh k)
    (merge.files.tree.node object) (is_in_upper merge object)) rest)
  where
    by : (o : Option (Node ℕ)) → merge.files.tree.node object ≡ o → (b : Bool) → is_in_upper merge object ≡ b
        → Grows merge (copy_of nat_eq merge object (fresh k) o b)
    by None e b f = grows_not merge
    by (Some node) e true f = grows_not merge
    by (Some node) e false f = grows_by_one merge object _ node e f

pub grows_up : (fresh : Fresh ℕ) (merge : Merge ℕ) (object : ℕ) → Grows merge (copied_up nat_eq fresh merge object)
grows_up fresh merge object = grows_each fresh 0 merge (line_to nat_eq merge.files object)

-- Numbers and the root of a tree stay in changes of nodes

pub numbers_emptied : (upper : FileTree ℕ) (object : Option ℕ) → (without_contents nat_eq upper object).numbers
    ≡ upper.numbers
numbers_emptied upper None = refl
numbers_emptied upper (Some object) = refl

pub numbers_marked : (mark : Bool) (upper : FileTree ℕ) (object : ℕ)
    → (with_mark nat_eq mark upper object).numbers ≡ upper.numbers
numbers_marked true upper object = refl
numbers_marked false upper object = refl

pub numbers_moved : (files : FileTree ℕ) (from : ℕ) (old : List ℕ) (to : ℕ) (new : List ℕ) (object : ℕ)
    → (with_moved nat_eq files from old to new object).numbers ≡ files.numbers
numbers_moved files from old to new object = numbers-without_parent files _

pub root_moved : (files : FileTree ℕ) (from : ℕ) (old : List ℕ) (to : ℕ) (new : List ℕ) (object : ℕ)
    → (with_moved nat_eq files from old to new object).tree.root ≡ files.tree.root
root_moved files from old to new object = root-without_parent files (entry_named new (entries_in (files.tree.node to)))

-- a change of a tree takes no inode away
pub numbers_stay : (files : FileTree ℕ) (change : Change ℕ) (inode : ℕ) → Among inode files.numbers → Among inode
    (changed nat_eq files change).numbers
numbers_stay files change inode m = grind (arith, common_steps, numbers_moved)
