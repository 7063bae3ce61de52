-- A change of a tree, or of an upper layer, leaves its root, and puts new numbers before those that it had.
use Rattle.std.proofs.Common.{arith, ◌≡◌, refl, ◌∙◌, ⊎_elim, ℕ, nat_eq, Bool, true, false, List, [], ◌∷◌, ◌++◌, ◌*◌, ◌+◌, append_assoc, Option, Some, None, is_some}
use Rattle.vt_spec.proofs.Common.{AddName, Among, Change, CopyUp, FileTree, Fresh, Make, Merge, Move, Node, Remove, SetAttr, SetBytes, SetMark, Stack, among-append, changed, changed_node, common_steps, copied_each, copied_up, copy_of, evens, hides_directory, is_in_upper, line_to, merge_changed, name_left_by, node_with_attr, node_with_bytes, node_with_mark, odds, shown_in_lowers_at, upper_directory_named, upper_of, with_inode, with_mark, with_moved, with_name, without_contents}
use Rattle.vt_laws_sealed.proofs.Common.{IsNewBy}
use Rattle.vt_laws_worlds.proofs.overlays_let_go.changing.Copied.{numbers_moved, root_moved}

-- a tree that has its root, and its numbers behind new ones
pub record Grows (fresh : Fresh ℕ) (old new : FileTree ℕ) : Type 0 where
  pub root : new.tree.root ≡ old.tree.root
  pub more : List ℕ
  pub numbers : new.numbers ≡ more ++ old.numbers
  pub are_new : (object : ℕ) → Among object more → IsNewBy fresh object

grows_by_none : (fresh : Fresh ℕ) (old new : FileTree ℕ) → new.tree.root ≡ old.tree.root → new.numbers ≡ old.numbers
    → Grows fresh old new
grows_by_none fresh old new root same =
    record { root = root; more = []; numbers = same; are_new = λ object m. absurd m }

grows_by_one : (fresh : Fresh ℕ) (old new : FileTree ℕ) (object : ℕ) → new.tree.root ≡ old.tree.root
    → new.numbers ≡ object ∷ old.numbers → IsNewBy fresh object → Grows fresh old new
grows_by_one fresh old new object root numbers is = record {
  root = root;
  more = object ∷ [];
  numbers = numbers;
  are_new = λ other m. ⊎_elim (λ e. (is.0, e ∙ is.1)) (λ none. absurd none) m;
}

grows_on : (fresh : Fresh ℕ) (old middle new : FileTree ℕ) → Grows fresh old middle → Grows fresh middle new
    → Grows fresh old new
grows_on fresh old middle new one two = record {
  root = two.root ∙ one.root;
  more = two.more ++ one.more;
  numbers = cc (two.numbers, one.numbers, append_assoc two.more one.more old.numbers);
  are_new = λ object m. ⊎_elim (two.are_new object) (one.are_new object) (among-append two.more one.more object m);
}

-- by some of the new numbers
grows_by : (fresh supply : Fresh ℕ) → ((k : ℕ) → IsNewBy fresh (supply k)) → (old new : FileTree ℕ)
    → Grows supply old new → Grows fresh old new
grows_by fresh supply within old new grows = record {
  root = grows.root;
  more = grows.more;
  numbers = grows.numbers;
  are_new = λ object m.
      let is = grows.are_new object m in let at = within is.0 in (at.0, is.1 ∙ at.1);
}

-- a plain tree
abbrev pub numbers_made : Change ℕ → List ℕ
numbers_made (Make directory name number node) = number ∷ []
numbers_made (AddName directory name object) = []
numbers_made (Remove directory name object) = []
numbers_made (Move from old to new object) = []
numbers_made (SetBytes file bytes) = []
numbers_made (SetAttr object attr) = []
numbers_made (SetMark directory opaque) = []
numbers_made (CopyUp object) = []

pub numbers-changed : (files : FileTree ℕ) (change : Change ℕ)
    → (changed nat_eq files change).numbers ≡ numbers_made change ++ files.numbers
numbers-changed files change = grind (arith, common_steps, numbers_moved)

pub root-changed : (files : FileTree ℕ) (change : Change ℕ) → (changed nat_eq files change).tree.root ≡ files.tree.root
root-changed files change = grind (arith, common_steps, root_moved)

-- Copies
copy_grows : (fresh : Fresh ℕ) (k : ℕ) (merge : Merge ℕ) (object : ℕ) (node : Option (Node ℕ)) (in_upper : Bool)
    → Grows fresh merge.upper (copy_of nat_eq merge object (fresh k) node in_upper).upper
copy_grows fresh k merge object node in_upper = grind (arith, common_steps, grows_by_none, grows_by_one)

copies_grow : (fresh : Fresh ℕ) (k : ℕ) (merge : Merge ℕ) (list : List ℕ)
    → Grows fresh merge.upper (copied_each nat_eq fresh k merge list).upper
copies_grow fresh k merge [] = grows_by_none fresh merge.upper merge.upper refl refl
copies_grow fresh k merge (object ∷ rest) =
    let one = copy_of nat_eq merge object (fresh k) (merge.files.tree.node object) (is_in_upper merge object) in
    grows_on fresh merge.upper one.upper _ (copy_grows fresh k merge object _ _) (copies_grow fresh (k + 1) one rest)

-- by a part of the new numbers
up_grows : (fresh supply : Fresh ℕ) → ((k : ℕ) → IsNewBy fresh (supply k)) → (merge : Merge ℕ) (object : ℕ)
    → Grows fresh merge.upper (copied_up nat_eq supply merge object).upper
up_grows fresh supply within merge object =
    grows_by fresh supply within merge.upper (copied_up nat_eq supply merge object).upper
    (copies_grow supply 0 merge (line_to nat_eq merge.files object))

-- What is done after copies
mark_grows : (fresh : Fresh ℕ) (opaque : Bool) (upper : FileTree ℕ) (object : ℕ)
    → Grows fresh upper (with_mark nat_eq opaque upper object)
mark_grows fresh true upper object = grows_by_none fresh upper _ refl refl
mark_grows fresh false upper object = grows_by_none fresh upper upper refl refl

emptying_grows : (fresh : Fresh ℕ) (upper : FileTree ℕ) (object : Option ℕ)
    → Grows fresh upper (without_contents nat_eq upper object)
emptying_grows fresh upper None = grows_by_none fresh upper upper refl refl
emptying_grows fresh upper (Some object) = grows_by_none fresh upper _ refl refl

left_grows : (fresh supply : Fresh ℕ) → ((k : ℕ) → IsNewBy fresh (supply k)) → (whiteout : Bool) (stack : Stack ℕ)
    (upper : FileTree ℕ) (directory : ℕ) (name : List ℕ)
    → Grows fresh upper (name_left_by nat_eq whiteout supply stack upper directory name)
left_grows fresh supply within true stack upper directory name = grows_by_one fresh upper _ _ refl refl (within 0)
left_grows fresh supply within false stack upper directory name = grows_by_none fresh upper _ refl refl

move_grows : (fresh : Fresh ℕ) (upper : FileTree ℕ) (from : ℕ) (old : List ℕ) (to : ℕ) (new : List ℕ) (object : ℕ)
    → Grows fresh upper (with_moved nat_eq upper from old to new object)
move_grows fresh upper from old to new object =
    grows_by_none fresh upper _ (root_moved upper from old to new object) (numbers_moved upper from old to new object)

-- one inode more, under a name
make_grows : (fresh : Fresh ℕ) (upper : FileTree ℕ) (directory : ℕ) (name : List ℕ) (number : ℕ) (node : Node ℕ)
    → IsNewBy fresh number
    → Grows fresh upper (with_name nat_eq (with_inode nat_eq upper number node) directory name number)
make_grows fresh upper directory name number node is = grows_by_one fresh upper _ number refl refl is

name_grows : (fresh : Fresh ℕ) (upper : FileTree ℕ) (directory : ℕ) (name : List ℕ) (object : ℕ)
    → Grows fresh upper (with_name nat_eq upper directory name object)
name_grows fresh upper directory name object = grows_by_none fresh upper _ refl refl

inode_grows : (fresh : Fresh ℕ) (upper : FileTree ℕ) (object : ℕ) (change : Option (Node ℕ) → Option (Node ℕ))
    → Grows fresh upper (changed_node nat_eq upper object change)
inode_grows fresh upper object change = grows_by_none fresh upper _ refl refl

-- the supplies of a change
first_of : (fresh : Fresh ℕ) (k : ℕ) → IsNewBy fresh (evens fresh k)
first_of fresh k = (2 * k, refl)

second_of : (fresh : Fresh ℕ) (k : ℕ) → IsNewBy fresh (odds fresh k)
second_of fresh k = (2 * k + 1, refl)

all_of : (fresh : Fresh ℕ) (k : ℕ) → IsNewBy fresh (fresh k)
all_of fresh k = (k, refl)

pub merge_grows : (fresh : Fresh ℕ) (stack : Stack ℕ) (merge : Merge ℕ) (change : Change ℕ)
    → Grows fresh merge.upper (merge_changed nat_eq fresh stack merge change).upper
merge_grows fresh stack merge (Make directory name number node) =
    let copied = copied_up nat_eq (evens fresh) merge directory in
    grows_on fresh merge.upper copied.upper _ (up_grows fresh (evens fresh) (first_of fresh) merge directory)
    (grows_on fresh copied.upper _ _
    (make_grows fresh copied.upper (upper_of copied directory) name (odds fresh 0) _ (second_of fresh 0))
    (mark_grows fresh (hides_directory nat_eq stack copied directory name) _ (odds fresh 0)))
merge_grows fresh stack merge (AddName directory name object) =
    let first = copied_up nat_eq (evens fresh) merge object in
    let copied = copied_up nat_eq (odds fresh) first directory in
    grows_on fresh merge.upper first.upper _ (up_grows fresh (evens fresh) (first_of fresh) merge object)
    (grows_on fresh first.upper copied.upper _ (up_grows fresh (odds fresh) (second_of fresh) first directory)
    (name_grows fresh copied.upper (upper_of copied directory) name (upper_of copied object)))
merge_grows fresh stack merge (Remove directory name object) =
    let copied = copied_up nat_eq (evens fresh) merge directory in
    grows_on fresh merge.upper copied.upper _ (up_grows fresh (evens fresh) (first_of fresh) merge directory)
    (grows_on fresh copied.upper _ _
    (left_grows fresh (odds fresh) (second_of fresh) (is_some (shown_in_lowers_at nat_eq stack copied directory name))
    stack copied.upper (upper_of copied directory) name)
    (emptying_grows fresh _ (upper_directory_named copied directory name)))
merge_grows fresh stack merge (Move from old to new object) =
    let first = copied_up nat_eq (evens fresh) merge object in
    let copied = copied_up nat_eq (evens (odds fresh)) first to in
    grows_on fresh merge.upper first.upper _ (up_grows fresh (evens fresh) (first_of fresh) merge object)
    (grows_on fresh first.upper copied.upper _
    (up_grows fresh (evens (odds fresh)) (λ k. (2 * (2 * k) + 1, refl)) first to)
    (grows_on fresh copied.upper _ _ (emptying_grows fresh copied.upper (upper_directory_named copied to new))
    (grows_on fresh _ _ _ (move_grows fresh (without_contents nat_eq copied.upper (upper_directory_named copied to new))
    (upper_of copied from) old (upper_of copied to) new (upper_of copied object)) (grows_on fresh _ _ _
    (left_grows fresh (odds (odds fresh)) (λ k. (2 * (2 * k + 1) + 1, refl))
    (is_some (shown_in_lowers_at nat_eq stack copied from old)) stack
    (with_moved nat_eq (without_contents nat_eq copied.upper (upper_directory_named copied to new))
    (upper_of copied from) old (upper_of copied to) new (upper_of copied object)) (upper_of copied from) old)
    (mark_grows fresh (hides_directory nat_eq stack copied to new) _ (upper_of copied object))))))
merge_grows fresh stack merge (SetBytes file bytes) =
    let copied = copied_up nat_eq fresh merge file in
    grows_on fresh merge.upper copied.upper _ (up_grows fresh fresh (all_of fresh) merge file)
    (inode_grows fresh copied.upper (upper_of copied file) (node_with_bytes bytes))
merge_grows fresh stack merge (SetAttr object attr) =
    let copied = copied_up nat_eq fresh merge object in
    grows_on fresh merge.upper copied.upper _ (up_grows fresh fresh (all_of fresh) merge object)
    (inode_grows fresh copied.upper (upper_of copied object) (node_with_attr attr))
merge_grows fresh stack merge (SetMark directory opaque) =
    let copied = copied_up nat_eq fresh merge directory in
    grows_on fresh merge.upper copied.upper _ (up_grows fresh fresh (all_of fresh) merge directory)
    (inode_grows fresh copied.upper (upper_of copied directory) (node_with_mark opaque))
merge_grows fresh stack merge (CopyUp object) = up_grows fresh fresh (all_of fresh) merge object
