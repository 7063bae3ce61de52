-- A change of an overlay, with the copies that it needs, in two overlays that are the same but for the order of the
-- numbers beside trees.
use Rattle.std.proofs.Common.{arith, ◌≡◌, refl, sym, ap, subst, ◌∙◌, ◌⊎◌, ⊎_elim, ℕ, nat_eq, ◌+◌, Bool, true, false, cond, List, [], ◌∷◌, ◌++◌, reverse, Option, Some, None, is_some, unwrap_or}
use Rattle.vt_spec.proofs.Common.{AddName, Change, CopyUp, FileTree, Fresh, IsPermutation-cons, Make, Merge, Move, Node, Remove, SameFiles, SetAttr, SetBytes, SetMark, Stack, Upper, a_name, changed_both, common_steps, content_with_parent, copied_content, copied_each, copied_up, copy_named, copy_of, copy_of_node, copy_parent, entries_in, entry_named, evens, hides_directory, is_directory_node, is_directory_shown, is_in_upper, line_by, line_to, merge_changed, merge_with_link, merge_with_moved, merge_with_new, merge_without_name, name_left, name_left_by, node_with_attr, node_with_bytes, node_with_entry, node_with_mark, node_without_entry, odds, shown_in_lowers_at, then_some, upper_directory_named, upper_object, upper_of, with_inode, with_mark, with_moved, with_name, with_real, without_contents, ⊤}
use Rattle.vt_laws_rules.proofs.same.SameFiles.{ancestors_same, path_same}
use Rattle.vt_laws_trees.proofs.runs.answered.AlikeFiles.{changed_alike, node_changed}
use Rattle.vt_spec.specs.Tree.{with_node}

-- the same but for the order of the numbers beside both trees
pub record MergesAlike (one other : Merge ℕ) : Type 0 where
  pub files : SameFiles one.files other.files
  pub real : one.real ≡ other.real
  pub upper : SameFiles one.upper other.upper

-- all of these have an upper object
abbrev pub AllUpper : Merge ℕ → List ℕ → Type 0
AllUpper merge [] = ⊤
AllUpper merge (object ∷ rest) = (is_in_upper merge object ≡ true) × AllUpper merge rest

-- The name by which an object is copied is the same in both, unless the object and all directories above it stand in
-- the upper layer: then nothing is copied.
abbrev pub LinesAlike : Merge ℕ → Merge ℕ → Type 0
LinesAlike one other = (object : ℕ) → (a_name nat_eq one.files object ≡ a_name nat_eq other.files object)
    ⊎ (AllUpper one (line_to nat_eq one.files object) × AllUpper other (line_to nat_eq other.files object))

-- Trees
inode_added : (one other : FileTree ℕ) → SameFiles one other → (number : ℕ) (node again : Node ℕ) → node ≡ again
    → SameFiles (with_inode nat_eq one number node) (with_inode nat_eq other number again)
inode_added one other same number node again alike = record {
  tree = λ i. with_node nat_eq (same.tree i) number (Some (alike i));
  numbers = IsPermutation-cons number one.numbers other.numbers same.numbers;
}

name_added : (one other : FileTree ℕ) → SameFiles one other → (directory again number also : ℕ) (name : List ℕ)
    → directory ≡ again → number ≡ also
    → SameFiles (with_name nat_eq one directory name number) (with_name nat_eq other again name also)
name_added one other same directory again number also name here there =
    subst (λ d. SameFiles (with_name nat_eq one directory name number) (with_name nat_eq other d name also)) here
    (subst (λ n. SameFiles (with_name nat_eq one directory name number) (with_name nat_eq other directory name n)) there
    (node_changed one other same directory (node_with_entry name number)))

-- What stands in the upper layer is not copied, and stands there after each copy.
copy_stays : (merge : Merge ℕ) (object copy : ℕ) (seen : Option (Node ℕ)) → is_in_upper merge object ≡ true
    → copy_of nat_eq merge object copy seen (is_in_upper merge object) ≡ merge
copy_stays merge object copy seen is = grind (arith, common_steps)

all_stay : (fresh : Fresh ℕ) (k : ℕ) (merge : Merge ℕ) (list : List ℕ) → AllUpper merge list
    → copied_each nat_eq fresh k merge list ≡ merge
all_stay fresh k merge [] all = refl
all_stay fresh k merge (object ∷ rest) all = ap (λ m. copied_each nat_eq fresh (k + 1) m rest)
    (copy_stays merge object (fresh k) (merge.files.tree.node object) all.0) ∙ all_stay fresh (k + 1) merge rest all.1

copy_grows : (merge : Merge ℕ) (object copy : ℕ) (seen : Option (Node ℕ)) (b : Bool) (number : ℕ)
    → is_in_upper merge number ≡ true → is_in_upper (copy_of nat_eq merge object copy seen b) number ≡ true
copy_grows merge object copy seen b number is = grind (arith, common_steps)

copy_files : (merge : Merge ℕ) (object copy : ℕ) (seen : Option (Node ℕ)) (b : Bool)
    → (copy_of nat_eq merge object copy seen b).files ≡ merge.files
copy_files merge object copy seen b = grind (arith, common_steps)

-- whatever grows
all_grow : (one other : Merge ℕ) → ((number : ℕ) → is_in_upper one number ≡ true → is_in_upper other number ≡ true)
    → (list : List ℕ) → AllUpper one list → AllUpper other list
all_grow one other grows [] all = tt
all_grow one other grows (object ∷ rest) all = (grows object all.0, all_grow one other grows rest all.1)

-- the last of a line is the object
line_ends : (files : FileTree ℕ) (merge : Merge ℕ) (object : ℕ) (named : Option (ℕ × List ℕ))
    → AllUpper merge (line_by nat_eq files object named) → is_in_upper merge object ≡ true
line_ends files merge object None all = all.0
line_ends files merge object (Some name) all = last _ all
  where
    last : (list : List ℕ) → AllUpper merge (list ++ object ∷ []) → is_in_upper merge object ≡ true
    last [] all = all.0
    last (first ∷ rest) all = last rest all.1

-- One copy
module _ (one other : Merge ℕ) (same : MergesAlike one other) (object copy : ℕ)
    (named : a_name nat_eq one.files object ≡ a_name nat_eq other.files object) where
  upper_same : (number : ℕ) → upper_of one number ≡ upper_of other number
  upper_same number = λ i. unwrap_or (upper_object (same.real i number)) number

  parent_same : (name : Option (ℕ × List ℕ)) → copy_parent one copy name ≡ copy_parent other copy name
  parent_same None = refl
  parent_same (Some name) = upper_same name.0

  made_alike : (name : Option (ℕ × List ℕ)) (files again : FileTree ℕ) → SameFiles files again
      → SameFiles (copy_named nat_eq one copy name files) (copy_named nat_eq other copy name again)
  made_alike None files again alike = alike
  made_alike (Some name) files again alike = name_added files again alike _ _ copy copy name.1 (upper_same name.0) refl

  -- the upper layer with the copy, by the name that it gets
  abbrev with_copy : Merge ℕ → Node ℕ → Option (ℕ × List ℕ) → FileTree ℕ
  with_copy merge node name = copy_named nat_eq merge copy name (with_inode nat_eq merge.upper copy
      (record { attr = node.attr; content = copied_content (copy_parent merge copy name) node.content }))

  copied_alike : (node : Node ℕ) (name : Option (ℕ × List ℕ))
      → SameFiles (with_copy one node name) (with_copy other node name)
  copied_alike node name = made_alike name _ _ (inode_added one.upper other.upper same.upper copy _ _
      (λ i. record { attr = node.attr; content = copied_content (parent_same name i) node.content }))

  node_alike : (node : Node ℕ)
      → MergesAlike (copy_of_node nat_eq one object copy node) (copy_of_node nat_eq other object copy node)
  node_alike node = grind (arith, common_steps, copied_alike)

-- An object of a line, if it stands in the upper layer or has one name in both
copy_alike : (one other : Merge ℕ) → MergesAlike one other → LinesAlike one other → (object copy : ℕ)
    (node again : Option (Node ℕ)) → node ≡ again
    → MergesAlike (copy_of nat_eq one object copy node (is_in_upper one object))
    (copy_of nat_eq other object copy again (is_in_upper other object))
copy_alike one other same lines object copy node again alike =
    subst (λ n. MergesAlike (copy_of nat_eq one object copy node (is_in_upper one object))
    (copy_of nat_eq other object copy n (is_in_upper other object))) alike
    (subst (λ b. MergesAlike (copy_of nat_eq one object copy node (is_in_upper one object))
    (copy_of nat_eq other object copy node b))
    (λ i. is_some (upper_object (same.real i object))) (by node (is_in_upper one object) refl))
  where
    by : (node : Option (Node ℕ)) (b : Bool) → is_in_upper one object ≡ b
        → MergesAlike (copy_of nat_eq one object copy node b) (copy_of nat_eq other object copy node b)
    by None b is = same
    by (Some node) true is = same
    by (Some node) false is = ⊎_elim (λ named. node_alike one other same object copy named node)
        (λ all. absurd (cc (line_ends one.files one object (a_name nat_eq one.files object) all.0))) (lines object)

lines_after_copy : (one other : Merge ℕ) → LinesAlike one other → (object copy : ℕ) (seen again : Option (Node ℕ))
    (b c : Bool) → LinesAlike (copy_of nat_eq one object copy seen b) (copy_of nat_eq other object copy again c)
lines_after_copy one other lines object copy seen again b c number =
    grind (arith, common_steps, copy_files, all_grow, copy_grows)

-- two overlays that are alike, and copy alike
pub record CopyAlike (one other : Merge ℕ) : Type 0 where
  pub same : MergesAlike one other
  pub lines : LinesAlike one other

each_alike : (fresh : Fresh ℕ) (k : ℕ) (one other : Merge ℕ) → CopyAlike one other → (list : List ℕ)
    → CopyAlike (copied_each nat_eq fresh k one list) (copied_each nat_eq fresh k other list)
each_alike fresh k one other alike [] = alike
each_alike fresh k one other alike (object ∷ rest) = each_alike fresh (k + 1) _ _ (record {
  same = copy_alike one other alike.same alike.lines object (fresh k) _ _ (λ i. (alike.same.files.tree i).node object);
  lines = lines_after_copy one other alike.lines object (fresh k) _ _ _ _;
}) rest

-- the line to an object that has one name in both
line_same : (one other : FileTree ℕ) → SameFiles one other → (object : ℕ) (named : Option (ℕ × List ℕ))
    → line_by nat_eq one object named ≡ line_by nat_eq other object named
line_same one other same object None = refl
line_same one other same object (Some name) = λ i. reverse (ancestors_same one other same name.0 i) ++ (object ∷ [])

pub copied_up_alike : (fresh : Fresh ℕ) (one other : Merge ℕ) → CopyAlike one other → (object : ℕ)
    → CopyAlike (copied_up nat_eq fresh one object) (copied_up nat_eq fresh other object)
copied_up_alike fresh one other alike object = ⊎_elim
    (λ named. subst (λ line. CopyAlike (copied_up nat_eq fresh one object) (copied_each nat_eq fresh 0 other line))
    (line_same one.files other.files alike.same.files object _ ∙ (λ i. line_by nat_eq other.files object (named i)))
    (each_alike fresh 0 one other alike (line_to nat_eq one.files object)))
    (λ all. subst (λ m. CopyAlike m (copied_up nat_eq fresh other object)) (sym (all_stay fresh 0 one _ all.0))
    (subst (CopyAlike one) (sym (all_stay fresh 0 other _ all.1)) alike)) (alike.lines object)

-- What is done after the copies
module _ (fresh : Fresh ℕ) (stack : Stack ℕ) (one other : Merge ℕ) (same : MergesAlike one other) where
  upper_is : (number : ℕ) → upper_of one number ≡ upper_of other number
  upper_is number = λ i. unwrap_or (upper_object (same.real i number)) number

  shown_same : (directory : ℕ) (name : List ℕ)
      → shown_in_lowers_at nat_eq stack one directory name ≡ shown_in_lowers_at nat_eq stack other directory name
  shown_same directory name = grind (arith, common_steps, path_same)

  hides_same : (directory : ℕ) (name : List ℕ)
      → hides_directory nat_eq stack one directory name ≡ hides_directory nat_eq stack other directory name
  hides_same directory name = λ i.
      is_directory_shown (record { tree = same.upper.tree i; directory = stack.directory } ∷ stack.lowers)
      (shown_same directory name i)

  left_alike : (files again : FileTree ℕ) → SameFiles files again → (directory : ℕ) (name : List ℕ)
      → SameFiles (name_left nat_eq fresh stack one files directory name)
      (name_left nat_eq fresh stack other again directory name)
  left_alike files again alike directory name =
      subst (λ b. SameFiles (name_left nat_eq fresh stack one files directory name)
      (name_left_by nat_eq b fresh stack again (upper_of other directory) name))
      (λ i. is_some (shown_same directory name i)) (by (is_some (shown_in_lowers_at nat_eq stack one directory name)))
    where
      by : (b : Bool) → SameFiles (name_left_by nat_eq b fresh stack files (upper_of one directory) name)
          (name_left_by nat_eq b fresh stack again (upper_of other directory) name)
      by true = name_added _ _ (inode_added files again alike (fresh 0) _ _ refl) _ _ (fresh 0) _ name (upper_is _) refl
      by false = subst (λ d. SameFiles (name_left_by nat_eq false fresh stack files (upper_of one directory) name)
          (name_left_by nat_eq false fresh stack again d name)) (upper_is directory)
          (node_changed files again alike (upper_of one directory) (node_without_entry name))

  named_same : (directory : ℕ) (name : List ℕ)
      → upper_directory_named one directory name ≡ upper_directory_named other directory name
  named_same directory name = λ i. then_some (entry_named name (entries_in ((same.files.tree i).node directory)))
      (λ object. cond (is_directory_node ((same.files.tree i).node object)) (upper_object (same.real i object)) None)

  emptied_alike : (files again : FileTree ℕ) → SameFiles files again → (object also : Option ℕ) → object ≡ also
      → SameFiles (without_contents nat_eq files object) (without_contents nat_eq again also)
  emptied_alike files again alike object also e = grind (arith, common_steps, node_changed)

  mark_alike : (b c : Bool) → b ≡ c → (files again : FileTree ℕ) → SameFiles files again → (object also : ℕ)
      → object ≡ also → SameFiles (with_mark nat_eq b files object) (with_mark nat_eq c again also)
  mark_alike b c is files again alike object also e = grind (arith, common_steps, node_changed)

  new_alike : (directory : ℕ) (name : List ℕ) (number : ℕ) (node : Node ℕ)
      → MergesAlike (merge_with_new nat_eq fresh stack one directory name number node)
      (merge_with_new nat_eq fresh stack other directory name number node)
  new_alike directory name number node = record {
    files = changed_alike one.files other.files same.files (Make directory name number node);
    real = λ i. with_real nat_eq (same.real i) number (Upper (fresh 0));
    upper = mark_alike _ _ (hides_same directory name) _ _ (name_added _ _ (inode_added one.upper _ same.upper (fresh 0)
        _ _ (λ i. record { attr = node.attr; content = content_with_parent (upper_is directory i) node.content }))
        (upper_of one directory) _ (fresh 0) (fresh 0) name (upper_is directory) refl) (fresh 0) (fresh 0) refl;
  }

  link_alike : (directory : ℕ) (name : List ℕ) (object : ℕ)
      → MergesAlike (merge_with_link nat_eq one directory name object)
      (merge_with_link nat_eq other directory name object)
  link_alike directory name object = grind (arith, common_steps, changed_alike, name_added, upper_is)

  removed_alike : (directory : ℕ) (name : List ℕ) (object : ℕ)
      → MergesAlike (merge_without_name nat_eq fresh stack one directory name object)
      (merge_without_name nat_eq fresh stack other directory name object)
  removed_alike directory name object = record {
    files = changed_alike one.files other.files same.files (Remove directory name object);
    real = same.real;
    upper = emptied_alike _ _ (left_alike one.upper _ same.upper directory name) _ _ (named_same directory name);
  }

  moved_in_upper : (files again : FileTree ℕ) → SameFiles files again → (from to object : ℕ) (old new : List ℕ)
      → SameFiles (with_moved nat_eq files (upper_of one from) old (upper_of one to) new (upper_of one object))
      (with_moved nat_eq again (upper_of other from) old (upper_of other to) new (upper_of other object))
  moved_in_upper files again alike from to object old new =
      subst (SameFiles (with_moved nat_eq files (upper_of one from) old (upper_of one to) new (upper_of one object)))
      (λ i. with_moved nat_eq again (upper_is from i) old (upper_is to i) new (upper_is object i))
      (changed_alike files again alike (Move (upper_of one from) old (upper_of one to) new (upper_of one object)))

  moved_alike : (from : ℕ) (old : List ℕ) (to : ℕ) (new : List ℕ) (object : ℕ)
      → MergesAlike (merge_with_moved nat_eq fresh stack one from old to new object)
      (merge_with_moved nat_eq fresh stack other from old to new object)
  moved_alike from old to new object = record {
    files = changed_alike one.files other.files same.files (Move from old to new object);
    real = same.real;
    upper = mark_alike _ _ (hides_same to new) _ _ (left_alike _ _
        (moved_in_upper _ _ (emptied_alike one.upper other.upper same.upper _ _ (named_same to new)) from to object old
        new) from old) (upper_of one object) (upper_of other object) (upper_is object);
  }

  both_alike : (object : ℕ) (change : Option (Node ℕ) → Option (Node ℕ))
      → MergesAlike (changed_both nat_eq one object change) (changed_both nat_eq other object change)
  both_alike object change = grind (arith, common_steps, node_changed, upper_is)

pub merge_changed_alike : (fresh : Fresh ℕ) (stack : Stack ℕ) (one other : Merge ℕ) → MergesAlike one other
    → LinesAlike one other → (change : Change ℕ)
    → MergesAlike (merge_changed nat_eq fresh stack one change) (merge_changed nat_eq fresh stack other change)
merge_changed_alike fresh stack one other same lines change = by change
  where
    start : CopyAlike one other
    start = record { same = same; lines = lines }

    up : (supply : Fresh ℕ) (object : ℕ)
        → MergesAlike (copied_up nat_eq supply one object) (copied_up nat_eq supply other object)
    up supply object = (copied_up_alike supply one other start object).same

    twice : (supply next : Fresh ℕ) (object directory : ℕ)
        → MergesAlike (copied_up nat_eq next (copied_up nat_eq supply one object) directory)
        (copied_up nat_eq next (copied_up nat_eq supply other object) directory)
    twice supply next object directory =
        (copied_up_alike next _ _ (copied_up_alike supply one other start object) directory).same

    by : (change : Change ℕ)
        → MergesAlike (merge_changed nat_eq fresh stack one change) (merge_changed nat_eq fresh stack other change)
    by (Make directory name number node) = new_alike (odds fresh) stack _ _ (up _ directory) directory name number node
    by (AddName directory name object) = link_alike fresh stack _ _ (twice _ _ object directory) directory name object
    by (Remove directory name object) = removed_alike (odds fresh) stack _ _ (up _ directory) directory name object
    by (Move from old to new object) =
        moved_alike (odds (odds fresh)) stack _ _ (twice (evens fresh) (evens (odds fresh)) object to) from old to new
        object
    by (SetBytes file bytes) = both_alike fresh stack _ _ (up fresh file) file (node_with_bytes bytes)
    by (SetAttr object attr) = both_alike fresh stack _ _ (up fresh object) object (node_with_attr attr)
    by (SetMark directory opaque) = both_alike fresh stack _ _ (up fresh directory) directory (node_with_mark opaque)
    by (CopyUp object) = up fresh object
