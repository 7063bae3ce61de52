-- Copies take no name of the upper layer away: each stands under a name that is free.
use Rattle.std.proofs.Common.{◌≡◌, ◌≢◌, ◌≤◌, refl, sym, ap, subst, ◌∙◌, ◌⊎◌, inl, inr, ⊎_elim, append_assoc, true≢false, arith, ℕ, zero, suc, ◌+◌, nat_eq, eq-eqb, ne_eqb, true, cond, List, [], ◌∷◌, ◌++◌, reverse, Option, Some, None, is_some, unwrap_or}
use Rattle.vt_spec.proofs.Common.{FileTree, Fresh, IsTree, ListsNumbers, Merge, Node, Real, Upper, a_name, bytes_decides, cases_Bool, chain, common_steps, copied_content, copied_each, copied_up, copy_named, copy_of, copy_parent, directory_used, entries_in, entries_of, entries_of-copied_content, entry_at, entry_named, eqb_tells, line_by, line_to, named_parent, node_other, node_set, node_with_entry, none_is_some, same_Some, upper_object, with_inode, with_name, with_real, without_name, ⊤}
use mathlib.Core.List.{reverse-cons}
use Rattle.vt_laws_trees.proofs.layers.layers.CopyingNames.{name_stays_put, name_stays_without}
use Rattle.vt_laws_trees.proofs.layers.layers.UpperChain.{depth_bound, up_at_root, up_from}
use Rattle.vt_laws_trees.proofs.layers.layers.UpperCopies.{HasUpper}
use Rattle.vt_laws_trees.proofs.layers.layers.UpperLine.{ReachedIn, is_reached_in, named_so, reached_directory}

-- a place of an entry is another, or is not
pub one_place : (d directory : ℕ) (n name : List ℕ)
    → ((d ≡ directory) × (n ≡ name)) ⊎ ((d ≡ directory) → (n ≡ name) → ⊥)
one_place d directory n name = ⊎_elim (λ same. ⊎_elim (λ e. inl (same.1, (bytes_decides n name).0 e))
    (λ f. inr (λ a b. true≢false (sym ((bytes_decides n name).1 b) ∙ f))) (cases_Bool _))
    (λ other. inr (λ a b. other.1 a)) (eqb_tells d _)

-- an entry at another place stays
pub put_same : (files : FileTree ℕ) (directory : ℕ) (name : List ℕ) (number d : ℕ) (n : List ℕ)
    → ((d ≡ directory) → (n ≡ name) → ⊥)
    → entry_at (with_name nat_eq files directory name number).tree d n ≡ entry_at files.tree d n
put_same files directory name number d n differ =
    grind (arith, common_steps, node_set, name_stays_put, node_other, eqb_tells)

pub take_same : (files : FileTree ℕ) (directory : ℕ) (name : List ℕ) (d : ℕ) (n : List ℕ)
    → ((d ≡ directory) → (n ≡ name) → ⊥)
    → entry_at (without_name nat_eq files directory name).tree d n ≡ entry_at files.tree d n
take_same files directory name d n differ =
    grind (arith, common_steps, node_set, name_stays_without, node_other, eqb_tells)

module _ (files : FileTree ℕ) (tree : IsTree files.tree) (numbers : ListsNumbers nat_eq files) (start : FileTree ℕ)
    (fresh : Fresh ℕ) (distinct : (j k : ℕ) → fresh j ≡ fresh k → j ≡ k) (spare : ℕ → Type 0)
    (apart : (k : ℕ) → ¬ (spare (fresh k))) where
  abbrev pub MergeOf : (ℕ → Option (Real ℕ)) → FileTree ℕ → Merge ℕ
  MergeOf real upper = record { files = files; real = real; upper = upper }

  -- numbers that are not given out yet
  abbrev pub IsLeft : ℕ → ℕ → Type 0
  IsLeft k inode = ((j : ℕ) × (k ≤ j) × (inode ≡ fresh j)) ⊎ spare inode

  -- All names that there were stand; names of what lies only below are free; two inodes have two upper objects; and
  -- nothing has a number that is left.
  pub record IsFine (k : ℕ) (real : ℕ → Option (Real ℕ)) (upper : FileTree ℕ) : Type 0 where
    pub stays : (directory : ℕ) (name : List ℕ) (number : ℕ) → entry_at start.tree directory name ≡ Some number
        → entry_at upper.tree directory name ≡ Some number
    pub free : (directory : ℕ) (name : List ℕ) (object seen : ℕ) → entry_at files.tree directory name ≡ Some object
        → upper_object (real object) ≡ None → upper_object (real directory) ≡ Some seen
        → entry_at upper.tree seen name ≡ None
    pub one : (a b object : ℕ) → upper_object (real a) ≡ Some object → upper_object (real b) ≡ Some object → a ≡ b
    pub clear : (inode : ℕ) → IsLeft k inode
        → (entries_in (upper.tree.node inode) ≡ []) × ((number : ℕ) → upper_object (real number) ≢ Some inode)

  later_left : (k inode : ℕ) → IsLeft (k + 1) inode → IsLeft k inode
  later_left k inode (inl j) = inl (j.0, (let h = j.1 in omega arith), j.2)
  later_left k inode (inr s) = inr s

  skipped : (k : ℕ) (real : ℕ → Option (Real ℕ)) (upper : FileTree ℕ) → IsFine k real upper → IsFine (k + 1) real upper
  skipped k real upper fine = record {
    stays = fine.stays;
    free = fine.free;
    one = fine.one;
    clear = λ inode left. fine.clear inode (later_left k inode left);
  }

  -- one copy
  module _ (k : ℕ) (real : ℕ → Option (Real ℕ)) (upper : FileTree ℕ) (fine : IsFine k real upper) (object : ℕ)
      (copied : Node ℕ) (empty : entries_of copied.content ≡ []) (below : upper_object (real object) ≡ None) where
    abbrev copy : ℕ
    copy = fresh k

    abbrev added : FileTree ℕ
    added = with_inode nat_eq upper copy copied

    abbrev real_later : ℕ → Option (Real ℕ)
    real_later = with_real nat_eq real object (Upper copy)

    copy_clear : (entries_in (upper.tree.node copy) ≡ []) × ((number : ℕ) → upper_object (real number) ≢ Some copy)
    copy_clear = fine.clear copy (inl (k, omega arith, refl))

    same_added : (d : ℕ) → entries_in (added.tree.node d) ≡ entries_in (upper.tree.node d)
    same_added d = ⊎_elim (λ same. ap (λ b. entries_in (cond b (Some copied) (upper.tree.node d))) same.0 ∙ empty
        ∙ sym (ap (λ n. entries_in (upper.tree.node n)) same.1 ∙ copy_clear.0))
        (λ other. ap (λ b. entries_in (cond b (Some copied) (upper.tree.node d))) other.0) (eqb_tells d copy)

    told : (number seen : ℕ) → upper_object (real_later number) ≡ Some seen
        → ((number ≡ object) × (seen ≡ copy)) ⊎ (upper_object (real number) ≡ Some seen)
    told number seen e = grind (arith, common_steps, same_Some, eqb_tells)

    not_copy : (inode : ℕ) → IsLeft (k + 1) inode → inode ≢ copy
    not_copy inode (inl j) same = let e = distinct j.0 k (cc) in let h = j.1 in let no : ⊥ = omega arith in
        no
    not_copy inode (inr s) same = apart k (subst spare same s)

    fine_by : (later : FileTree ℕ)
        → ((d : ℕ) (n : List ℕ) (x : ℕ) → entry_at upper.tree d n ≡ Some x → entry_at later.tree d n ≡ Some x)
        → ((n : List ℕ) → entry_at later.tree copy n ≡ None)
        → ((d : ℕ) (n : List ℕ) (o seen : ℕ) → entry_at files.tree d n ≡ Some o → o ≢ object
        → upper_object (real d) ≡ Some seen → entry_at later.tree seen n ≡ entry_at upper.tree seen n)
        → ((inode : ℕ) → IsLeft (k + 1) inode → entries_in (later.tree.node inode) ≡ [])
        → IsFine (k + 1) real_later later
    fine_by later keeps at_copy others empties = record {
      stays = λ d n x e. keeps d n x (fine.stays d n x e);
      free = λ d n o seen e under above.
          let another : o ≢ object = λ same. none_is_some copy
          (sym under ∙ ap (λ b. upper_object (cond b (Some (Upper copy)) (real o))) (eq-eqb o object same)) in
          ⊎_elim (λ new. ap (λ v. entry_at later.tree v n) new.1 ∙ at_copy n) (λ old. others d n o seen e another old
          ∙ fine.free d n o seen e
          (sym (ap (λ b. upper_object (cond b (Some (Upper copy)) (real o))) (ne_eqb o object another)) ∙ under) old)
          (told d seen above);
      one = λ a b x e f. ⊎_elim
          (λ s. ⊎_elim (λ t. s.0 ∙ sym t.0) (λ t. absurd (copy_clear.1 b (t ∙ ap Some s.1))) (told b x f))
          (λ s. ⊎_elim (λ t. absurd (copy_clear.1 a (s ∙ ap Some t.1))) (λ t. fine.one a b x s t) (told b x f))
          (told a x e);
      clear = λ inode left. (
        empties inode left,
        λ number e. ⊎_elim (λ new. not_copy inode left new.1)
            (λ old. (fine.clear inode (later_left k inode left)).1 number old) (told number inode e),
      );
    }

    copy_named_fine : (named : Option (ℕ × List ℕ)) → a_name nat_eq files object ≡ named
        → ((name : ℕ × List ℕ) → named ≡ Some name → HasUpper real name.0)
        → IsFine (k + 1) real_later (copy_named nat_eq (MergeOf real upper) copy named added)
    copy_named_fine None e parents = fine_by added (λ d n x h. ap (entry_named n) (same_added d) ∙ h)
        (λ n. ap (entry_named n) (same_added copy ∙ copy_clear.0))
        (λ d n o seen h another above. ap (entry_named n) (same_added seen))
        (λ inode left. same_added inode ∙ (fine.clear inode (later_left k inode left)).0)
    copy_named_fine (Some name) e parents = by (upper_object (real name.0)) refl (parents name refl)
      where
        by : (o : Option ℕ) → upper_object (real name.0) ≡ o → is_some o ≡ true
            → IsFine (k + 1) real_later (with_name nat_eq added (unwrap_or o name.0) name.1 copy)
        by None u h = absurd cc
        by (Some parent) u h = fine_by (with_name nat_eq added parent name.1 copy)
            (λ d n x f. put_same added parent name.1 copy d n
            (λ a b. none_is_some x (sym (fine.free name.0 name.1 object parent
            (named_so files tree object name e) below u)
            ∙ ap (λ m. entry_at upper.tree parent m) (sym b) ∙ ap (λ m. entry_at upper.tree m n) (sym a) ∙ f))
            ∙ ap (entry_named n) (same_added d) ∙ f)
            (λ n. put_same added parent name.1 copy copy n (λ a b. copy_clear.1 name.0 (u ∙ ap Some (sym a)))
            ∙ ap (entry_named n) (same_added copy ∙ copy_clear.0))
            (λ d n o seen f another above. put_same added parent name.1 copy seen n (λ a b. another (same_Some o object
            (sym f ∙ ap (λ m. entry_at files.tree m n) (fine.one d name.0 parent (above ∙ ap Some a) u)
            ∙ ap (entry_at files.tree name.0) b ∙ named_so files tree object name e)))
            ∙ ap (entry_named n) (same_added seen)) (λ inode left.
            ap entries_in (node_other added.tree parent (node_with_entry name.1 copy (added.tree.node parent)) inode
            (λ same. (fine.clear inode (later_left k inode left)).1 name.0 (u ∙ ap Some (sym same))))
            ∙ same_added inode ∙ (fine.clear inode (later_left k inode left)).0)

  -- the directory that has a name of an object stands in the upper layer when the object is copied
  abbrev ParentsStand : (ℕ → Option (Real ℕ)) → List ℕ → Type 0
  ParentsStand real [] = ⊤
  ParentsStand real (object ∷ rest) =
      ((name : ℕ × List ℕ) → a_name nat_eq files object ≡ Some name → HasUpper real name.0)
      × ((later : ℕ → Option (Real ℕ)) → (is_some (files.tree.node object) ≡ true → HasUpper later object)
      → ParentsStand later rest)

  pub record Fine (merge : Merge ℕ) : Type 0 where
    pub k : ℕ
    pub real : ℕ → Option (Real ℕ)
    pub upper : FileTree ℕ
    pub is : merge ≡ MergeOf real upper
    pub fine : IsFine k real upper

  each_fine : (list : List ℕ) (k : ℕ) (real : ℕ → Option (Real ℕ)) (upper : FileTree ℕ) → IsFine k real upper
      → ParentsStand real list → Fine (copied_each nat_eq fresh k (MergeOf real upper) list)
  each_fine [] k real upper fine stand = record { k = k; real = real; upper = upper; is = refl; fine = fine }
  each_fine (object ∷ rest) k real upper fine stand = by (files.tree.node object) refl (upper_object (real object)) refl
      (λ r u f s. each_fine rest (k + 1) r u f s)
    where
      by : (o : Option (Node ℕ)) → files.tree.node object ≡ o → (p : Option ℕ) → upper_object (real object) ≡ p
          → ((r : ℕ → Option (Real ℕ)) (u : FileTree ℕ) → IsFine (k + 1) r u → ParentsStand r rest
          → Fine (copied_each nat_eq fresh (k + 1) (MergeOf r u) rest)) → Fine (copied_each nat_eq fresh (k + 1)
          (copy_of nat_eq (MergeOf real upper) object (fresh k) o (is_some p)) rest)
      by None e p f later = later real upper (skipped k real upper fine) (stand.1 real (λ there. absurd cc))
      by (Some node) e (Some seen) f later =
          later real upper (skipped k real upper fine) (stand.1 real (λ there. ap is_some f))
      by (Some node) e None f later = later (with_real nat_eq real object (Upper (fresh k))) _
          (copy_named_fine k real upper fine object (record {
            attr = node.attr;
            content = copied_content (copy_parent (MergeOf real upper) (fresh k)
                (a_name nat_eq files object)) node.content;
          }) (entries_of-copied_content
          (copy_parent (MergeOf real upper) (fresh k) (a_name nat_eq files object)) node.content) f
          (a_name nat_eq files object) refl stand.0) (stand.1 (with_real nat_eq real object (Upper (fresh k)))
          (λ there. ap (λ b. is_some (upper_object (cond b (Some (Upper (fresh k))) (real object))))
          (eq-eqb object object refl)))

  -- so it is in the line from the root down to an object
  up_stands : (steps most directory : ℕ) → ReachedIn files.tree steps directory → steps ≤ most
      → (real : ℕ → Option (Real ℕ)) (rest : List ℕ)
      → ((later : ℕ → Option (Real ℕ)) → HasUpper later directory → ParentsStand later rest)
      → ParentsStand real (reverse (chain most (named_parent nat_eq files.tree) directory) ++ rest)
  up_stands zero most directory r h real rest next =
      subst (λ list. ParentsStand real (reverse list ++ rest)) (sym (up_at_root files tree most directory r)) (
        λ name e. absurd (tree.root_unnamed name.0 name.1 (named_so files tree directory name e ∙ ap Some r)),
        λ later has. next later (has (directory_used files.tree directory
            (reached_directory files tree zero directory r))),
      )
  up_stands (suc steps) zero directory r h real rest next = absurd (let no : ⊥ = omega arith in no)
  up_stands (suc steps) (suc most) directory r h real rest next = subst (ParentsStand real)
      (sym (ap (λ list. reverse list ++ rest) (up_from files tree most steps directory r)
      ∙ ap (λ list. list ++ rest) (reverse-cons directory (chain most (named_parent nat_eq files.tree) r.0))
      ∙ append_assoc (reverse (chain most (named_parent nat_eq files.tree) r.0)) (directory ∷ []) rest))
      (up_stands steps most r.0 r.2 (omega arith) real (directory ∷ rest) (λ later has. (
        λ name e. subst (HasUpper later)
            (sym (sym (tree.one_parent name.0 name.1 directory (named_so files tree directory name e) r.4)
            ∙ tree.one_parent r.0 r.1 directory r.3 r.4)) has,
        λ last there. next last (there (directory_used files.tree directory r.4)),
      )))

  line_stands : (real : ℕ → Option (Real ℕ)) (object : ℕ) → ParentsStand real (line_to nat_eq files object)
  line_stands real object = by _ refl
    where
      by : (named : Option (ℕ × List ℕ)) → a_name nat_eq files object ≡ named
          → ParentsStand real (line_by nat_eq files object named)
      by None e = (λ name is. cc, λ later has. tt)
      by (Some name) e =
          let reached = is_reached_in files tree name.0 name.1 object (named_so files tree object name e) in
          up_stands _ _ name.0 reached.1 (depth_bound files tree numbers _ name.0 reached.1) real _ (λ later has. (
            λ other is. subst (HasUpper later) (cc) has,
            λ last there. tt,
          ))

  pub line_fine : (object : ℕ) (real : ℕ → Option (Real ℕ)) (upper : FileTree ℕ) → IsFine 0 real upper
      → Fine (copied_up nat_eq fresh (MergeOf real upper) object)
  line_fine object real upper fine = each_fine _ 0 real upper fine (line_stands real object)
