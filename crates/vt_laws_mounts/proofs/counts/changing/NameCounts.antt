-- The counts of a tree's inodes where names come, go and move, before anything is swept.
use Rattle.std.proofs.Common.{◌≡◌, ◌≢◌, refl, sym, ap, subst, ◌∙◌, ⊎_elim, ◌⊎◌, ℕ, ◌+◌, ◌≤◌, nat_eq, eq-eqb, ne_eqb, Bool, true, false, true≢false, cond, List, [], ◌∷◌, ◌++◌, Option, Some, None, is_some, arith, bytes_eq}
use Rattle.vt_spec.proofs.Common.{Inodes, IsNewIn, Node, bytes_decides, common_steps, directory_from_entry, entries-node_with_entry, entries-node_with_parent, entries-node_without_entry, entries_in, entry_named, eqb_tells, is_directory-node_without_entry, is_directory_node, is_some-node_with_entry, is_some-node_with_parent, is_some-node_without_entry, is_sorted, name_cmp, node_with_entry, node_with_parent, node_without_entry, targets_in, with_changed, with_entry, without_entry}
use Rattle.vt_spec.specs.Inodes.{with_new, without_name, without_replaced}
use Rattle.vt_laws_mounts.proofs.counts.counting.Counts
use Rattle.vt_laws_mounts.proofs.counts.counting.Counts.{apart_one, counted_new, one_if-itself}
use Rattle.vt_laws_mounts.proofs.counts.counting.Entries.{at_other, at_place, changed_at, commute, find_without, found_target, named_apart, named_by, named_changed, new_entries, one_if, one_if_some, part_at, sorted_at, sorted_without, targets, times_put, times_without}
use Rattle.vt_laws_mounts.proofs.counts.counting.Times.{times_append, times_in}
use Rattle.vt_laws_mounts.proofs.counts.changing.TreeCounts.{IsGoing, IsTallied, added_targets, changed_counts, is_some-with_changed, once_directory, other_uses, there_directory, unpinned_counts, uses_of}
use Rattle.vt_spec.proofs.Truths.{zero_or_some}

-- what has a name in it is there
full_alive : {uses : ℕ → ℕ} {node : ℕ → Option (Node ℕ)} {inodes : Inodes ℕ} → Counts.IsCounted uses node inodes
    → (n k : ℕ) → 1 ≤ times_in k (targets_in (node n)) → is_some (inodes.inode n) ≡ false → ⊥
full_alive {node = node} counted n k full gone =
    let none : times_in k (targets_in (node n)) ≡ 0 = ap (times_in k) (counted.emptied n gone) in omega arith

-- A new inode
module _ (base : ℕ → ℕ) (node : ℕ → Option (Node ℕ)) (numbers : List ℕ) (inodes : Inodes ℕ)
    (going : IsGoing base node numbers inodes)
    (directory : ℕ) (name : List ℕ) (number : ℕ) (new : Node ℕ) (is : is_directory_node (node directory) ≡ true)
    (alive : is_some (inodes.inode directory) ≡ true) (free : entry_named name (entries_in (node directory)) ≡ None)
    (vacant : inodes.inode number ≡ None) (no_node : node number ≡ None)
    (fits : IsNewIn directory new) where
  abbrev made_uses : ℕ → ℕ
  made_uses = uses_of base node numbers

  abbrev pub node_on : ℕ → Option (Node ℕ)
  node_on = at_place node directory (node_with_entry name number)

  abbrev inodes_on : Inodes ℕ
  inodes_on = with_changed nat_eq inodes directory (node_with_entry name number)

  abbrev pub node_made : ℕ → Option (Node ℕ)
  node_made = changed_at node_on number (Some new)

  abbrev pub node_made_there : ℕ → Option (Node ℕ)
  node_made_there = at_place (changed_at node number (Some new)) directory (node_with_entry name number)

  apart : number ≢ directory
  apart e = true≢false (sym (there_directory base node _ inodes going _ is)
      ∙ ap (λ n. is_some (node n)) (sym e) ∙ ap is_some no_node)

  pub either_way : (n : ℕ) → node_made n ≡ node_made_there n
  either_way n = grind (arith, common_steps, ne_eqb, apart, eqb_tells)

  made_new : node_made number ≡ Some new
  made_new = ap (λ b. cond b (Some new) (node_on number)) (eq-eqb number number refl)

  no_number : times_in number numbers ≡ 0
  no_number = cc (going.tallied.once number, no_node)

  counted_on : Counts.IsCounted made_uses node_on inodes_on
  counted_on = changed_counts made_uses node inodes directory (node_with_entry name number) going.tallied.counted
      (λ gone. absurd (true≢false (sym alive ∙ gone))) (λ some. (_, refl))

  vacant_on : inodes_on.inode number ≡ None
  vacant_on = cc (ne_eqb number directory apart, vacant)

  more : (n : ℕ) → one_if n number + made_uses n ≡ uses_of base node_made (number ∷ numbers) n
  more n =
      let names = named_changed n node directory (node_with_entry name number (node directory)) numbers
      (once_directory base node numbers inodes going directory is) in
      let put = added_targets base node numbers inodes going directory name number is free n in
      let all : times_in n (named_by node_made (number ∷ numbers))
      ≡ times_in n (targets_in (node_made number)) + times_in n
      (named_by node_made numbers) = times_append n (targets_in (node_made number)) (named_by node_made numbers) in
      let none : times_in n (targets_in (node_made number)) ≡ 0 = ap (λ o. times_in n (targets_in o)) made_new
      ∙ ap (λ e. times_in n (targets e)) (new_entries directory new.content fits) in
      let rest : times_in n (named_by node_made numbers) ≡ times_in n (named_by node_on numbers) = ap (times_in n)
      (named_apart node_on number (Some new) numbers no_number) in
      omega arith

  made_once : (n : ℕ) → one_if n number + times_in n numbers ≡ cond (is_some (node_made n)) 1 0
  made_once n = grind (arith, common_steps, one_if, times_in, no_number, part_at, is_some-node_with_entry, eqb_tells)

  pub made : IsTallied base node_made_there (number ∷ numbers) (with_new nat_eq inodes directory name number new)
  made = subst (λ f. IsTallied base f (number ∷ numbers) (with_new nat_eq inodes directory name number new))
      (λ i. λ n. either_way n i) (record {
        counted = other_uses _ _ _ _ more (counted_new _ _ _ counted_on number new vacant_on);
        once = made_once;
      })

-- A name less
module _ {base : ℕ → ℕ} {node : ℕ → Option (Node ℕ)} {numbers : List ℕ} {inodes : Inodes ℕ}
    (going : IsGoing base node numbers inodes) (directory : ℕ) (name : List ℕ) (object : ℕ)
    (leads : entry_named name (entries_in (node directory)) ≡ Some object) where
  abbrev uses : ℕ → ℕ
  uses = uses_of base node numbers

  pub is_directory_off : is_directory_node (node directory) ≡ true
  is_directory_off = directory_from_entry name object _ leads

  abbrev pub node_off : ℕ → Option (Node ℕ)
  node_off = at_place node directory (node_without_entry name)

  pub off_targets : (n : ℕ) → times_in n (targets_in (node_without_entry name (node directory))) + one_if n object
      ≡ times_in n (targets_in (node directory))
  off_targets n =
      let less : times_in n (targets (without_entry name (entries_in (node directory)))) + one_if_some n
      (entry_named name (entries_in (node directory))) ≡ times_in n (targets (entries_in (node directory)))
      = times_without n name _ (going.in_order directory) in
      let own : one_if_some n (entry_named name (entries_in (node directory))) ≡ one_if n object =
      ap (one_if_some n) leads in
      let same : times_in n (targets_in (node_without_entry name (node directory)))
      ≡ times_in n (targets (without_entry name (entries_in (node directory)))) = ap (λ e. times_in n (targets e))
      (entries-node_without_entry name _) in
      omega arith

  pub is_target : 1 ≤ times_in object (targets_in (node directory))
  is_target = let off = off_targets object in let one = one_if-itself object in omega arith

module _ {base : ℕ → ℕ} {node : ℕ → Option (Node ℕ)} {numbers : List ℕ} {inodes : Inodes ℕ}
    (going : IsGoing base node numbers inodes) (directory : ℕ) (name : List ℕ) (object : ℕ)
    (leads : entry_named name (entries_in (node directory)) ≡ Some object) (empty : entries_in (node object) ≡ []) where
  abbrev uses_r : ℕ → ℕ
  uses_r = uses_of base node numbers

  abbrev node_less : ℕ → Option (Node ℕ)
  node_less = node_off going _ name object leads

  abbrev node_removed : ℕ → Option (Node ℕ)
  node_removed = at_place node_less object (node_with_parent object)

  abbrev inodes_less : Inodes ℕ
  inodes_less = with_changed nat_eq inodes directory (node_without_entry name)

  apart_r : object ≢ directory
  apart_r e =
      let none : times_in object (targets_in (node directory)) ≡ 0 =
      ap (λ n. times_in object (targets_in (node n))) (sym e) ∙ ap (λ l. times_in object (targets l)) empty in
      let some = is_target going _ name object leads in absurd (omega arith)

  removed_entries : (n : ℕ) → entries_in (node_removed n) ≡ entries_in (node_less n)
  removed_entries = part_at entries_in node_less object (node_with_parent object)
      (entries-node_with_parent object (node_less object))

  named_same : (list : List ℕ) → named_by node_removed list ≡ named_by node_less list
  named_same [] = refl
  named_same (first ∷ rest) = λ i. targets (removed_entries first i) ++ named_same rest i

  one_less : (n : ℕ) → one_if n object + uses_of base node_removed numbers n ≡ uses_r n
  one_less n =
      let names = named_changed n node directory (node_without_entry name (node directory)) numbers
      (once_directory base node numbers inodes going directory (is_directory_off going directory name object leads)) in
      let same : times_in n (named_by node_removed numbers) ≡ times_in n (named_by node_less numbers) = ap (times_in n)
      (named_same numbers) in
      let off = off_targets going directory name object leads n in
      omega arith

  pub removed_name : IsTallied base node_removed numbers (without_name nat_eq inodes directory name object)
  removed_name = record {
    counted =
        let first = changed_counts uses_r node inodes directory (node_without_entry name) going.tallied.counted
        (λ gone. absurd (full_alive going.tallied.counted directory object (is_target going directory name object leads)
        gone)) (λ some. (_, refl)) in
        let second = changed_counts uses_r node_less inodes_less object (node_with_parent object) first
        (λ gone. ap targets (entries-node_with_parent object (node_less object)) ∙ first.emptied object gone)
        (λ some. (_, refl)) in
        unpinned_counts uses_r (uses_of base node_removed numbers) node_removed
        (with_changed nat_eq inodes_less object (node_with_parent object)) object second one_less
        (λ none. ap targets (removed_entries object
        ∙ ap entries_in (at_other node directory (node_without_entry name) object apart_r) ∙ empty));
    once = λ n. going.tallied.once n ∙ ap (λ b. cond b 1 0) (sym
        (part_at is_some node_less object (node_with_parent object)
        (is_some-node_with_parent object (node_less object)) n
        ∙ part_at is_some node directory (node_without_entry name)
        (is_some-node_without_entry name (node directory)) n));
  }

-- A name that is moved

module _ (base : ℕ → ℕ) (node : ℕ → Option (Node ℕ)) (numbers : List ℕ) (inodes : Inodes ℕ)
    (going : IsGoing base node numbers inodes)
    (from : ℕ) (old : List ℕ) (to : ℕ) (new : List ℕ) (object : ℕ) (replaced : Option ℕ)
    (leads : entry_named old (entries_in (node from)) ≡ Some object)
    (to_is : is_directory_node (node to) ≡ true) (to_alive : is_some (inodes.inode to) ≡ true) (finds : entry_named new (entries_in (node to)) ≡ replaced)
    (other : one_if_some object replaced ≡ 0)
    (empty : (n : ℕ) → 1 ≤ one_if_some n replaced → entries_in (node n) ≡ []) where
  abbrev uses_m : ℕ → ℕ
  uses_m = uses_of base node numbers

  abbrev node_from : ℕ → Option (Node ℕ)
  node_from = node_off going from old object leads

  abbrev node_to : ℕ → Option (Node ℕ)
  node_to = at_place node_from to (node_with_entry new object)

  abbrev node_under : ℕ → Option (Node ℕ)
  node_under = at_place node_to object (node_with_parent to)

  abbrev node_moved : Option ℕ → ℕ → Option (Node ℕ)
  node_moved None = node_under
  node_moved (Some gone) = at_place node_under gone (node_with_parent gone)

  abbrev inodes_from : Inodes ℕ
  inodes_from = with_changed nat_eq inodes from (node_without_entry old)

  abbrev inodes_to : Inodes ℕ
  inodes_to = with_changed nat_eq inodes_from to (node_with_entry new object)

  abbrev pub inodes_under : Inodes ℕ
  inodes_under = with_changed nat_eq inodes_to object (node_with_parent to)

  from_is : is_directory_node (node from) ≡ true
  from_is = is_directory_off going from old object leads

  off : (n : ℕ) → times_in n (targets_in (node_without_entry old (node from))) + one_if n object
      ≡ times_in n (targets_in (node from))
  off = off_targets going from old object leads

  object_target : 1 ≤ times_in object (targets_in (node from))
  object_target = is_target going from old object leads

  to_from : is_directory_node (node_from to) ≡ true
  to_from =
      part_at is_directory_node node from (node_without_entry old) (is_directory-node_without_entry old (node from)) to
      ∙ to_is

  order_from : (n : ℕ) → is_sorted name_cmp (entries_in (node_from n)) ≡ true
  order_from = sorted_at node from (node_without_entry old) going.in_order
      (ap (is_sorted name_cmp) (entries-node_without_entry old (node from))
      ∙ sorted_without old (entries_in (node from)) (going.in_order from))

  -- the new name still leads where it led
  finds_from : entry_named new (entries_in (node_from to)) ≡ replaced
  finds_from = ⊎_elim (λ t. ap (λ b. entry_named new (entries_in (cond b (node_without_entry old (node from))
      (node to)))) t.0 ∙ ap (entry_named new) (entries-node_without_entry old _) ∙ here t.1 _ refl)
      (λ t. ap (λ b. entry_named new (entries_in (cond b (node_without_entry old (node from)) (node to)))) t.0 ∙ finds)
      (eqb_tells to from)
    where
      here : to ≡ from → (b : Bool) → bytes_eq new old ≡ b
          → entry_named new (without_entry old (entries_in (node from))) ≡ replaced
      here same true e =
          let name : new ≡ old = (bytes_decides new old).0 e in
          let it : replaced ≡ Some object =
          sym finds ∙ (λ i. entry_named (name i) (entries_in (node (same i)))) ∙ leads in
          let one : one_if_some object replaced ≡ one_if object object = ap (one_if_some object) it in
          let self = one_if-itself object in
          absurd (omega (arith, other))
      here same false e = cc (find_without old new _ e, finds)

  on_targets : (n : ℕ) → times_in n (targets_in (node_with_entry new object (node_from to))) + one_if_some n replaced
      ≡ times_in n (targets_in (node_from to)) + one_if n object
  on_targets n =
      let put : times_in n (targets (with_entry new object (entries_in (node_from to)))) + one_if_some n
      (entry_named new (entries_in (node_from to))) ≡ times_in n (targets (entries_in (node_from to))) + one_if n object
      = times_put n new object _ (order_from to) in
      let it : one_if_some n (entry_named new (entries_in (node_from to))) ≡ one_if_some n replaced =
      ap (one_if_some n) finds_from in
      let same : times_in n (targets_in (node_with_entry new object (node_from to)))
      ≡ times_in n (targets (with_entry new object (entries_in (node_from to)))) = ap (λ e. times_in n (targets e))
      (entries-node_with_entry new object _ to_from) in
      omega arith

  entries_moved : (n : ℕ) → entries_in (node_moved replaced n) ≡ entries_in (node_to n)
  entries_moved n = by _
    where
      under : entries_in (node_under n) ≡ entries_in (node_to n)
      under = part_at entries_in node_to object (node_with_parent to) (entries-node_with_parent to (node_to object)) n

      by : (o : Option ℕ) → entries_in (node_moved o n) ≡ entries_in (node_to n)
      by None = under
      by (Some gone) = part_at entries_in node_under gone (node_with_parent gone)
          (entries-node_with_parent gone (node_under gone)) n ∙ under

  some_moved : (n : ℕ) → is_some (node_moved replaced n) ≡ is_some (node n)
  some_moved n = by _
    where
      under : is_some (node_under n) ≡ is_some (node n)
      under = part_at is_some node_to object (node_with_parent to) (is_some-node_with_parent to _) n ∙ part_at is_some
          node_from to (node_with_entry new object) (is_some-node_with_entry new object _) n ∙ part_at is_some node from
          (node_without_entry old) (is_some-node_without_entry old _) n

      by : (o : Option ℕ) → is_some (node_moved o n) ≡ is_some (node n)
      by None = under
      by (Some gone) = part_at is_some node_under gone (node_with_parent gone)
          (is_some-node_with_parent gone _) n ∙ under

  named_moved : (list : List ℕ) → named_by (node_moved replaced) list ≡ named_by node_to list
  named_moved [] = refl
  named_moved (first ∷ rest) = λ i. targets (entries_moved first i) ++ named_moved rest i

  less : (n : ℕ) → one_if_some n replaced + uses_of base (node_moved replaced) numbers n ≡ uses_m n
  less n =
      let one = named_changed n node from (node_without_entry old (node from)) numbers
      (once_directory base node numbers inodes going from from_is) in
      let two = named_changed n node_from to (node_with_entry new object (node_from to)) numbers
      (once_directory base node numbers inodes going to to_is) in
      let same : times_in n (named_by (node_moved replaced) numbers) ≡ times_in n (named_by node_to numbers) =
      ap (times_in n) (named_moved numbers) in
      let a = off n in
      let b = on_targets n in
      omega arith

  counted_from : Counts.IsCounted uses_m node_from inodes_from
  counted_from = changed_counts uses_m node inodes from (node_without_entry old) going.tallied.counted
      (λ gone. absurd (full_alive going.tallied.counted from object object_target gone)) (λ some. (_, refl))

  counted_to : Counts.IsCounted uses_m node_to inodes_to
  counted_to = changed_counts uses_m node_from inodes_from to (node_with_entry new object) counted_from
      (λ gone. absurd (true≢false (sym to_alive ∙ sym (is_some-with_changed inodes from (node_without_entry old) to)
      ∙ gone))) (λ some. (_, refl))

  counted_under : Counts.IsCounted uses_m node_under inodes_under
  counted_under = changed_counts uses_m node_to inodes_to object (node_with_parent to) counted_to
      (λ gone. ap targets (entries-node_with_parent to (node_to object)) ∙ counted_to.emptied object gone)
      (λ some. (_, refl))

  -- a replaced object has no entries, and is neither of the directories
  none_or_one : (n : ℕ) → (one_if_some n replaced ≡ 0) ⊎ (1 ≤ one_if_some n replaced)
  none_or_one n = zero_or_some _

  full_stays : (d n : ℕ) → 1 ≤ times_in n (targets_in (node d)) → one_if_some d replaced ≡ 0
  full_stays d n full = ⊎_elim (λ none. none) (λ gone. absurd (let none : times_in n (targets_in (node d))
      ≡ 0 = ap (λ l. times_in n (targets l)) (empty d gone) in omega arith)) (none_or_one d)

  from_stays : one_if_some from replaced ≡ 0
  from_stays = full_stays from object object_target

  gone_target : (n : ℕ) → one_if_some n replaced ≤ times_in n (targets_in (node to))
  gone_target n = grind (arith, common_steps, one_if_some, times_in, targets, found_target)

  to_stays : one_if_some to replaced ≡ 0
  to_stays = ⊎_elim (λ none. none) (λ gone. full_stays to to (let t = gone_target to in omega arith)) (none_or_one to)

  counted_moved : Counts.IsCounted (uses_of base (node_moved replaced) numbers) (node_moved replaced)
      (without_replaced nat_eq inodes_under replaced)
  counted_moved = by replaced refl
    where
      by : (o : Option ℕ) → replaced ≡ o → Counts.IsCounted (uses_of base (node_moved replaced) numbers) (node_moved o)
          (without_replaced nat_eq inodes_under o)
      by None e = other_uses uses_m (uses_of base (node_moved replaced) numbers) node_under inodes_under
          (λ n. let l = less n in let none : one_if_some n replaced
          ≡ 0 = ap (one_if_some n) e in omega arith) counted_under
      by (Some gone) e =
          let one : one_if_some gone replaced ≡ 1 = ap (one_if_some gone) e ∙ one_if-itself gone in
          let second = changed_counts uses_m node_under inodes_under gone (node_with_parent gone) counted_under
          (λ no. ap targets (entries-node_with_parent gone (node_under gone)) ∙ counted_under.emptied gone no)
          (λ some. (_, refl)) in
          unpinned_counts uses_m (uses_of base (node_moved replaced) numbers) (node_moved (Some gone))
          (with_changed nat_eq inodes_under gone (node_with_parent gone)) gone second
          (λ n. ap (λ o. one_if_some n o + uses_of base (node_moved replaced) numbers n) (sym e) ∙ less n)
          (λ left. ap targets (ap (λ o. entries_in (node_moved o gone)) (sym e) ∙ entries_moved gone
          ∙ ap entries_in (at_other node_from to (node_with_entry new object) gone
          (λ same. let none : one_if_some gone replaced ≡ 0 = ap (λ n. one_if_some n replaced) same
          ∙ to_stays in absurd (omega arith))
          ∙ at_other node from (node_without_entry old) gone (λ same. let none : one_if_some gone replaced
          ≡ 0 = ap (λ n. one_if_some n replaced) same ∙ from_stays in absurd (omega arith)))
          ∙ empty gone (omega arith)))

  -- what the whole machine does first, is done last here
  abbrev pub node_there : Option ℕ → ℕ → Option (Node ℕ)
  node_there None = node_under
  node_there (Some gone) = at_place
      (at_place (at_place (at_place node gone (node_with_parent gone)) from (node_without_entry old)) to
      (node_with_entry new object)) object (node_with_parent to)

  same_there : (o : Option ℕ) → one_if_some from o ≡ 0 → one_if_some to o ≡ 0 → one_if_some object o ≡ 0
      → node_there o ≡ node_moved o
  same_there None a b c = refl
  same_there (Some gone) a b c =
      (λ i. at_place (at_place (λ n. commute node gone from (node_with_parent gone) (node_without_entry old)
      (λ e. apart_one from gone a (sym e)) n i) to (node_with_entry new object)) object (node_with_parent to))
      ∙ (λ i. at_place (λ n. commute node_from gone to (node_with_parent gone) (node_with_entry new object)
      (λ e. apart_one to gone b (sym e)) n i) object (node_with_parent to))
      ∙ (λ i. λ n. commute node_to gone object (node_with_parent gone) (node_with_parent to)
      (λ e. apart_one object gone c (sym e)) n i)

  pub moved : IsTallied base (node_there replaced) numbers (without_replaced nat_eq inodes_under replaced)
  moved = subst (λ f. IsTallied base f numbers (without_replaced nat_eq inodes_under replaced))
      (sym (same_there _ from_stays to_stays other)) (record {
        counted = counted_moved;
        once = λ n. going.tallied.once n ∙ ap (λ b. cond b 1 0) (sym (some_moved n));
      })
