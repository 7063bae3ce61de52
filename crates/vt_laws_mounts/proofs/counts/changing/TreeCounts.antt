-- The counts of a tree's inodes after each change of the tree, before anything is swept.
use Rattle.std.proofs.Common.{◌≡◌, ◌≢◌, refl, sym, ap, subst, ◌∙◌, ⊎_elim, ℕ, suc, ◌+◌, ◌-◌, ◌≤◌, nat_eq, Bool, true, false, true≢false, cond, List, [], ◌∷◌, ◌++◌, length, Option, Some, None, is_some, arith}
use Rattle.vt_spec.proofs.Common.{Inode, Inodes, Node, common_steps, count_after, directory_is_there, entries-node_with_entry, entries_in, entry_named, eqb_tells, inode_with_node, is_directory_node, is_some-node_with_entry, is_sorted, name_cmp, node_in, node_with_entry, some_from_is_some, targets_in, unpinned, used_once_less, uses_in, with_changed, with_entry}
use Rattle.std.proofs.lemmas.Bool.Decides.{leb_tells}
use Rattle.vt_spec.specs.Inodes.{with_inode, with_name}
use Rattle.vt_laws_mounts.proofs.counts.counting.Counts
use Rattle.vt_laws_mounts.proofs.counts.counting.Counts.{at_or, counted_changed, counted_pinned, counted_some, one_if-itself, other_if}
use Rattle.vt_laws_mounts.proofs.counts.counting.Entries.{at_place, named_by, named_changed, one_if, one_if_some, part_at, targets, times_put}
use Rattle.vt_laws_mounts.proofs.counts.counting.Times.{length_removed, removed, times_in, times_removed}

abbrev pub uses_of : (ℕ → ℕ) → (ℕ → Option (Node ℕ)) → List ℕ → ℕ → ℕ
uses_of base node numbers n = base n + times_in n (named_by node numbers)

-- Inodes that count their names in a tree, and other uses beside them. The numbers are those of the tree, each once.
pub record IsTallied (base : ℕ → ℕ) (node : ℕ → Option (Node ℕ)) (numbers : List ℕ) (inodes : Inodes ℕ) : Type 0 where
  pub counted : Counts.IsCounted (uses_of base node numbers) node inodes
  pub once : (n : ℕ) → times_in n numbers ≡ cond (is_some (node n)) 1 0

-- between changes names stand in order
pub record IsGoing (base : ℕ → ℕ) (node : ℕ → Option (Node ℕ)) (numbers : List ℕ) (inodes : Inodes ℕ) : Type 0 where
  pub tallied : IsTallied base node numbers inodes
  pub in_order : (n : ℕ) → is_sorted name_cmp (entries_in (node n)) ≡ true

-- before a change the nodes are the inodes', too
pub record IsStart (base : ℕ → ℕ) (node : ℕ → Option (Node ℕ)) (numbers : List ℕ) (inodes : Inodes ℕ) : Type 0 where
  pub tallied : IsTallied base node numbers inodes
  pub same : (n : ℕ) → node_in (inodes.inode n) ≡ node n
  pub in_order : (n : ℕ) → is_sorted name_cmp (entries_in (node n)) ≡ true

-- other uses, each as many
pub other_uses : (uses now : ℕ → ℕ) (node : ℕ → Option (Node ℕ)) (inodes : Inodes ℕ) → ((n : ℕ) → uses n ≡ now n)
    → Counts.IsCounted uses node inodes → Counts.IsCounted now node inodes
other_uses uses now node inodes same counted = subst (λ u. Counts.IsCounted u node inodes) (λ i. λ n. same n i) counted

-- A node that is changed where it is. If its inode is gone, it has no names in it.
pub changed_counts : (uses : ℕ → ℕ) (node : ℕ → Option (Node ℕ)) (inodes : Inodes ℕ) (place : ℕ)
    (change : Option (Node ℕ) → Option (Node ℕ)) → Counts.IsCounted uses node inodes
    → (is_some (inodes.inode place) ≡ false → targets_in (change (node place)) ≡ [])
    → ((some : Node ℕ) → (new : Node ℕ) × (change (Some some) ≡ Some new))
    → Counts.IsCounted uses (at_place node place change) (with_changed nat_eq inodes place change)
changed_counts uses node inodes place change counted bare some = by _ refl
  where
    by : (o : Option (Inode ℕ)) → inodes.inode place ≡ o
        → Counts.IsCounted uses (at_place node place change) (with_changed nat_eq inodes place change)
    by None is =
        subst (λ k. Counts.IsCounted uses (at_place node place change) (record inodes { inode = k }))
        (λ i. λ n. inode_kept n i) (record {
          uses_are = counted.uses_are;
          in_use = counted.in_use;
          kept = λ n e. ⊎_elim (λ t. absurd (true≢false (sym e ∙ ap (λ k. is_some (inodes.inode k)) t.1 ∙ ap is_some is)))
              (λ t. ap (λ b. cond b (change (node place)) (node n)) t.0 ∙ counted.kept n e) (eqb_tells n place);
          emptied = λ n e. ⊎_elim
              (λ t. ap (λ b. targets_in (cond b (change (node place)) (node n))) t.0 ∙ bare (ap is_some is))
              (λ t. ap (λ b. targets_in (cond b (change (node place)) (node n))) t.0 ∙ counted.emptied n e)
              (eqb_tells n place);
          list = counted.list;
          listed = counted.listed;
          as_many = counted.as_many;
        })
      where
        still_none : (o : Option (Node ℕ)) → inode_with_node o None ≡ None
        still_none None = refl
        still_none (Some x) = refl

        inode_kept : (n : ℕ) → inodes.inode n ≡ cond (nat_eq n place)
            (inode_with_node (change (node_in (inodes.inode place))) (inodes.inode place)) (inodes.inode n)
        inode_kept n = grind (arith, common_steps, still_none, eqb_tells)
    by (Some inode) is = counted_changed counted place is change (some inode.node).0 (some inode.node).1

-- inodes that are changed are there as before
pub is_some-with_changed : (inodes : Inodes ℕ) (place : ℕ) (change : Option (Node ℕ) → Option (Node ℕ)) (n : ℕ)
    → is_some ((with_changed nat_eq inodes place change).inode n) ≡ is_some (inodes.inode n)
is_some-with_changed inodes place change n =
    ⊎_elim (λ t. ap (λ b. is_some (cond b (inode_with_node (change (node_in (inodes.inode place)))
    (inodes.inode place)) (inodes.inode n))) t.0 ∙ by (change (node_in (inodes.inode place))) (inodes.inode place)
    ∙ ap (λ k. is_some (inodes.inode k)) (sym t.1))
    (λ t. ap (λ b. is_some (cond b (inode_with_node (change (node_in (inodes.inode place)))
    (inodes.inode place)) (inodes.inode n))) t.0) (eqb_tells n place)
  where
    by : (o : Option (Node ℕ)) (inode : Option (Inode ℕ)) → is_some (inode_with_node o inode) ≡ is_some inode
    by None inode = refl
    by (Some node) None = refl
    by (Some node) (Some inode) = refl

-- the nodes of inodes that are changed
pub changed_same : (node : ℕ → Option (Node ℕ)) (inodes : Inodes ℕ) (place : ℕ)
    (change : Option (Node ℕ) → Option (Node ℕ)) → ((n : ℕ) → node_in (inodes.inode n) ≡ node n)
    → change None ≡ None → ((some : Node ℕ) → (new : Node ℕ) × (change (Some some) ≡ Some new))
    → (n : ℕ) → node_in ((with_changed nat_eq inodes place change).inode n) ≡ at_place node place change n
changed_same node inodes place change same none some n = ⊎_elim (λ t. ap
    (λ b. node_in (cond b (inode_with_node (change (node_in (inodes.inode place))) (inodes.inode place))
    (inodes.inode n))) t.0 ∙ by _ (same place) ∙ sym (ap (λ b. cond b (change (node place)) (node n)) t.0))
    (λ t. ap (λ b. node_in (cond b (inode_with_node (change (node_in (inodes.inode place))) (inodes.inode place))
    (inodes.inode n))) t.0 ∙ same n ∙ sym (ap (λ b. cond b (change (node place)) (node n)) t.0)) (eqb_tells n place)
  where
    by : (o : Option (Inode ℕ)) → node_in o ≡ node place
        → node_in (inode_with_node (change (node_in o)) o) ≡ change (node place)
    by None e = missing _ ∙ sym none ∙ ap change e
      where
        missing : (o : Option (Node ℕ)) → node_in (inode_with_node o None) ≡ None
        missing None = refl
        missing (Some x) = refl
    by (Some inode) e = let t = some inode.node in
        ap (λ o. node_in (inode_with_node o (Some inode))) t.1 ∙ sym t.1 ∙ ap change e

-- One use less. An inode that is left with none has no entries.
module _ {uses : ℕ → ℕ} (left : ℕ → ℕ) {node : ℕ → Option (Node ℕ)} {inodes : Inodes ℕ} (place : ℕ)
    (counted : Counts.IsCounted uses node inodes) (less : (n : ℕ) → one_if n place + left n ≡ uses n)
    (empty : left place ≡ 0 → targets_in (node place) ≡ []) (inode : Inode ℕ)
    (is : inodes.inode place ≡ Some inode) where
  here_uses : inode.uses ≡ uses place
  here_uses = sym (ap uses_in is) ∙ counted.uses_are place

  here_node : node place ≡ Some inode.node
  here_node = counted.kept place (ap is_some is) ∙ ap node_in is

  here_listed : times_in place counted.list ≡ 1
  here_listed = cc (counted.listed place, is)

  left_here : suc (left place) ≡ inode.uses
  left_here = let e = here_uses in let one = one_if-itself place in let f = less place in omega arith

  left_there : (n : ℕ) → n ≢ place → uses_in (inodes.inode n) ≡ left n
  left_there n apart = let e = counted.uses_are n in let none : one_if n place ≡ 0 = other_if n place apart in let f =
      less n in omega arith

  abbrev one_less : Option (Inode ℕ)
  one_less = Some (record inode { uses = inode.uses - 1 })

  abbrev Left : Bool → Type 0
  Left b = Counts.IsCounted left node (record (with_inode nat_eq inodes place (cond b None one_less)) {
    count = count_after inodes.count (cond b None one_less);
  })

  last : inode.uses ≤ 1 → Left true
  last low = record {
    uses_are = at_or (λ n o. uses_in o ≡ left n) inodes.inode place None (let h = left_here in omega arith) left_there;
    in_use = at_or (λ n o. is_some o ≡ true → 1 ≤ uses_in o) inodes.inode place None (λ e. cc)
        (λ n apart. counted.in_use n);
    kept = at_or (λ n o. is_some o ≡ true → node n ≡ node_in o) inodes.inode place None (λ e. cc)
        (λ n apart. counted.kept n);
    emptied = at_or (λ n o. is_some o ≡ false → targets_in (node n) ≡ []) inodes.inode place None
        (λ e. empty (let h = left_here in omega arith)) (λ n apart. counted.emptied n);
    list = removed place counted.list;
    listed = at_or (λ n o. times_in n (removed place counted.list) ≡ cond (is_some o) 1 0) inodes.inode place None
        (let all : one_if place place + times_in place (removed place counted.list)
        ≡ times_in place counted.list = times_removed place place counted.list (let h = here_listed in omega arith) in
        let one = one_if-itself place in let h = here_listed in omega arith)
        (λ n apart. (let all : one_if n place + times_in n (removed place counted.list)
        ≡ times_in n counted.list = times_removed place n counted.list (let h = here_listed in omega arith) in
        let none : one_if n place ≡ 0 = other_if n place apart in
        let same : times_in n (removed place counted.list) ≡ times_in n counted.list = omega arith in same)
        ∙ counted.listed n);
    as_many = let h : suc (length (removed place counted.list)) ≡ length counted.list =
        length_removed place counted.list
        (let h = here_listed in omega arith) in let g = counted.as_many in omega arith;
  }

  stays : 2 ≤ inode.uses → Left false
  stays high = grind (arith, common_steps, at_or, left_here, left_there, counted, here_node, times_in, here_listed)

  unpinned_here : Counts.IsCounted left node (unpinned nat_eq inodes place)
  unpinned_here = subst (λ o. Counts.IsCounted left node (record (with_inode nat_eq inodes place (used_once_less o)) {
    count = cond (is_some o) (count_after inodes.count (used_once_less o)) inodes.count;
  })) (sym is) (⊎_elim (λ t. subst Left (sym t.0) (last t.1))
      (λ t. subst Left (sym t.0) (stays (let h = t.1 in omega arith))) (leb_tells inode.uses 1))

pub unpinned_counts : (uses left : ℕ → ℕ) (node : ℕ → Option (Node ℕ)) (inodes : Inodes ℕ) (place : ℕ)
    → Counts.IsCounted uses node inodes
    → ((n : ℕ) → one_if n place + left n ≡ uses n) → (left place ≡ 0 → targets_in (node place) ≡ [])
    → Counts.IsCounted left node (unpinned nat_eq inodes place)
unpinned_counts uses left node inodes place counted less empty =
    let found = some_from_is_some (inodes.inode place) (counted_some uses node inodes counted place
    (let l = less place in let one = one_if-itself place in omega arith)) in
    unpinned_here left place counted less empty found.0 found.1

-- Changes that keep entries
module _ (base : ℕ → ℕ) (node : ℕ → Option (Node ℕ)) (numbers : List ℕ) (inodes : Inodes ℕ)
    (going : IsGoing base node numbers inodes) where
  abbrev uses : ℕ → ℕ
  uses = uses_of base node numbers

  counted : Counts.IsCounted uses node inodes
  counted = going.tallied.counted

  once : (n : ℕ) → times_in n numbers ≡ cond (is_some (node n)) 1 0
  once = going.tallied.once

  pub rewritten : (place : ℕ) (change : Option (Node ℕ) → Option (Node ℕ))
      → ((o : Option (Node ℕ)) → entries_in (change o) ≡ entries_in o)
      → change None ≡ None → ((some : Node ℕ) → (new : Node ℕ) × (change (Some some) ≡ Some new))
      → IsTallied base (at_place node place change) numbers (with_changed nat_eq inodes place change)
  rewritten place change entries none some = record {
    counted = other_uses uses (uses_of base (at_place node place change) numbers) (at_place node place change)
        (with_changed nat_eq inodes place change) (λ n. ap (λ l. base n + times_in n l) (sym (names numbers)))
        (changed_counts uses node inodes place change counted
        (λ gone. ap targets (entries (node place)) ∙ counted.emptied place gone) some);
    once = λ n. once n ∙ ap (λ b. cond b 1 0) (sym (part_at is_some node place change (there (node place)) n));
  }
    where
      names : (list : List ℕ) → named_by (at_place node place change) list ≡ named_by node list
      names [] = refl
      names (first ∷ rest) = λ i. targets (part_at entries_in node place change (entries (node place)) first i)
          ++ names rest i

      there : (o : Option (Node ℕ)) → is_some (change o) ≡ is_some o
      there None = ap is_some none
      there (Some x) = ap is_some (some x).1

  pub there_directory : (d : ℕ) → is_directory_node (node d) ≡ true → is_some (node d) ≡ true
  there_directory d is = directory_is_there _ is

  pub once_directory : (d : ℕ) → is_directory_node (node d) ≡ true → times_in d numbers ≡ 1
  once_directory d is = cc (once d, there_directory d is)

  -- entries after a name was added
  pub added_targets : (directory : ℕ) (name : List ℕ) (object : ℕ) → is_directory_node (node directory) ≡ true
      → entry_named name (entries_in (node directory)) ≡ None
      → (n : ℕ) → times_in n (targets_in (node_with_entry name object (node directory)))
      ≡ times_in n (targets_in (node directory)) + one_if n object
  added_targets directory name object is free n =
      let put : times_in n (targets (with_entry name object (entries_in (node directory)))) + one_if_some n
      (entry_named name (entries_in (node directory))) ≡ times_in n (targets (entries_in (node directory))) + one_if n
      object = times_put n name object _ (going.in_order directory) in
      let none : one_if_some n (entry_named name (entries_in (node directory))) ≡ 0 = ap (one_if_some n) free in
      let same : times_in n (targets_in (node_with_entry name object (node directory)))
      ≡ times_in n (targets (with_entry name object (entries_in (node directory)))) = ap (λ e. times_in n (targets e))
      (entries-node_with_entry name object _ is) in
      omega arith

  -- Another name
  pub linked : (directory : ℕ) (name : List ℕ) (object : ℕ) → is_directory_node (node directory) ≡ true
      → is_some (inodes.inode directory) ≡ true → entry_named name (entries_in (node directory)) ≡ None
      → is_some (inodes.inode object) ≡ true
      → IsTallied base (at_place node directory (node_with_entry name object)) numbers
      (with_name nat_eq inodes directory name object)
  linked directory name object is alive free there = record {
    counted =
        let inode = some_from_is_some (inodes_on.inode object)
        (counted_some uses node_on inodes_on counted_on object object_used) in
        other_uses (λ n. one_if n object + uses n) (uses_of base node_on numbers) node_on
        (with_name nat_eq inodes directory name object) more (counted_pinned counted_on object inode.1);
    once = λ n. once n ∙ ap (λ b. cond b 1 0) (sym (part_at is_some node directory (node_with_entry name object)
        (is_some-node_with_entry name object (node directory)) n));
  }
    where
      node_on : ℕ → Option (Node ℕ)
      node_on = at_place node directory (node_with_entry name object)

      inodes_on : Inodes ℕ
      inodes_on = with_changed nat_eq inodes directory (node_with_entry name object)

      counted_on : Counts.IsCounted uses node_on inodes_on
      counted_on = changed_counts uses node inodes directory (node_with_entry name object) counted
          (λ gone. absurd (true≢false (sym alive ∙ gone))) (λ some. (_, refl))

      object_used : 1 ≤ uses object
      object_used = let some = counted.in_use object there in let e = counted.uses_are object in omega arith

      more : (n : ℕ) → one_if n object + uses n ≡ uses_of base node_on numbers n
      more n =
          let names = named_changed n node directory (node_with_entry name object (node directory)) numbers
          (once_directory directory is) in
          let put = added_targets directory name object is free n in
          omega arith
