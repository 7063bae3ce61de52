-- A directory loses its names one after the other, while what has them is held.
use Rattle.std.proofs.Common.{All, append-nil, ◌≡◌, ◌∙◌, ◌++◌, ◌+◌, ◌<◌, ◌≤◌, ◌∷◌, ◌||◌, [], ap, arith, Bool, cond, drop, eqb-true, false, is_some, length, List, map, nat_eq, nat_le, None, not, Option, refl, Some, subst, sym, take, true, true≢false, ℕ}
use Rattle.std.proofs.lemmas.List.{take-append-drop}
use Rattle.std.specs.Str.{bytes_eq}
use Rattle.vt_spec.proofs.Common.{All-cons, All-head, All-nil, All-tail, Entries, Inode, Inodes, Node, and_true_right, below_all, bytes_eq-Decides, common_steps, entries-node_with_parent, entries-node_without_entry, entries_in, entry_at, entry_named, entry_named-without_entry, entry_to, has_entry_to, inode_with_node, is_among, is_directory-node_with_parent, is_directory-node_without_entry, is_directory_node, is_some-node_with_parent, is_some-node_without_entry, is_sorted, length-filter_both, name_cmp, nat_eq_itself, node_in, node_with_parent, node_without_entry, or_right, pinned, tree_of, used_once_less, used_once_more, uses_in, without_entry}
use Rattle.vt_spec.specs.Inodes as counting
use Rattle.vt_spec.specs.Lists.{folded}
use Rattle.vt_upper.specs.Leaving.{NamesAreUsed, freed_once}
use Rattle.vt_upper.proofs.RowsEmptied.{ArePlain, has_first, own_gone, not_same, plain_entries}

-- an inode with another parent, and with a name less
abbrev parented : ℕ → Option (Inode ℕ) → Option (Inode ℕ)
parented o inode = inode_with_node (node_with_parent o (node_in inode)) inode

abbrev named_less : List ℕ → Option (Inode ℕ) → Option (Inode ℕ)
named_less name inode = inode_with_node (node_without_entry name (node_in inode)) inode

-- a use more, and one less
used_still : (o : ℕ) (inode : Option (Inode ℕ)) → 0 < uses_in inode
    → used_once_less (parented o (used_once_more inode)) ≡ parented o inode
used_still o None used = absurd (let no : ⊥ = omega (arith, used) in no)
used_still o (Some inode) used = by (nat_le (inode.uses + 1) 1) refl
  where
    parent : Node ℕ → Option (Inode ℕ)
    parent node = Some (record { node = node; uses = inode.uses })

    by : (b : Bool) → nat_le (inode.uses + 1) 1 ≡ b
        → used_once_less (parented o (used_once_more (Some inode))) ≡ parented o (Some inode)
    by true e = absurd (let no : ⊥ = grind (arith, e, used) in no)
    by false e = grind (arith, common_steps, e)

node_parented : (o : ℕ) (inode : Option (Inode ℕ)) → node_in (parented o inode) ≡ node_with_parent o (node_in inode)
node_parented o None = refl
node_parented o (Some inode) = refl

node_named_less : (name : List ℕ) (inode : Option (Inode ℕ))
    → node_in (named_less name inode) ≡ node_without_entry name (node_in inode)
node_named_less name None = refl
node_named_less name (Some inode) = refl

uses_parented : (o : ℕ) (inode : Option (Inode ℕ)) → uses_in (parented o inode) ≡ uses_in inode
uses_parented o None = refl
uses_parented o (Some inode) = refl

uses_named_less : (name : List ℕ) (inode : Option (Inode ℕ)) → uses_in (named_less name inode) ≡ uses_in inode
uses_named_less name None = refl
uses_named_less name (Some inode) = refl

-- entries that are left
among_left : (k : ℕ) (name : List ℕ) (entries : Entries ℕ)
    → is_among nat_eq k (map (λ e. e.1) (without_entry name entries)) ≡ true
    → is_among nat_eq k (map (λ e. e.1) entries) ≡ true
among_left k name [] e = e
among_left k name (entry ∷ rest) e = by (bytes_eq entry.0 name) e (among_left k name rest)
  where
    by : (b : Bool)
        → is_among nat_eq k (map (λ e. e.1) (cond (not b) (entry ∷ without_entry name rest) (without_entry name rest)))
        ≡ true
        → (is_among nat_eq k (map (λ e. e.1) (without_entry name rest)) ≡ true
        → is_among nat_eq k (map (λ e. e.1) rest) ≡ true)
        → is_among nat_eq k (map (λ e. e.1) (entry ∷ rest)) ≡ true
    by true e among = or_right (nat_eq k entry.1) (is_among nat_eq k (map (λ e. e.1) rest)) (among e)
    by false e among = later (nat_eq k entry.1) e
      where
        later : (c : Bool) → (c || is_among nat_eq k (map (λ e. e.1) (without_entry name rest))) ≡ true
            → (c || is_among nat_eq k (map (λ e. e.1) rest)) ≡ true
        later true e = refl
        later false e = among e

pub fewer_left : (name : List ℕ) (entries : Entries ℕ) → length (without_entry name entries) ≤ length entries
fewer_left name entries =
    let both = length-filter_both (λ (entry : List ℕ × ℕ). not (bytes_eq entry.0 name))
    (λ entry. not (not (bytes_eq entry.0 name))) (λ entry. refl) entries in omega (arith, both)

module _ (inodes : Inodes ℕ) (d o : ℕ) (name : List ℕ) (other : nat_eq o d ≡ false)
    (used : 0 < uses_in (inodes.inode o)) where
  abbrev now : Inodes ℕ
  now = freed_once d inodes (name, o)

  abbrev held : Inodes ℕ
  held = pinned nat_eq inodes o

  abbrev left : Inodes ℕ
  left = counting.with_changed nat_eq held d (node_without_entry name)

  turned : nat_eq d o ≡ false
  turned = not_same d o (λ e. true≢false (sym (nat_eq_itself d) ∙ ap (λ n. nat_eq n d) e ∙ other))

  held_there : held.inode o ≡ used_once_more (inodes.inode o)
  held_there = ap (λ b. cond b (used_once_more (inodes.inode o)) (inodes.inode o)) (nat_eq_itself o)

  left_there : left.inode o ≡ used_once_more (inodes.inode o)
  left_there = ap (λ b. cond b (named_less name (held.inode d)) (held.inode o)) other ∙ held_there

  held_directory : held.inode d ≡ inodes.inode d
  held_directory = ap (λ b. cond b (used_once_more (inodes.inode o)) (inodes.inode d)) turned

  -- what has lost the name is its own parent, if it is a directory
  freed_there : now.inode o ≡ parented o (inodes.inode o)
  freed_there =
      ap (λ b. cond b (used_once_less (cond b (parented o (left.inode o)) (left.inode o)))
      (cond b (parented o (left.inode o)) (left.inode o))) (nat_eq_itself o)
      ∙ ap (λ i. used_once_less (parented o i)) left_there ∙ used_still o (inodes.inode o) used

  -- the directory has one name less
  freed_directory : now.inode d ≡ named_less name (inodes.inode d)
  freed_directory =
      ap (λ b. cond b (used_once_less ((counting.with_changed nat_eq left o (node_with_parent o)).inode o))
      (cond b (parented o (left.inode o)) (left.inode d))) turned
      ∙ ap (λ b. cond b (named_less name (held.inode d)) (held.inode d)) (nat_eq_itself d)
      ∙ ap (named_less name) held_directory

  -- all else is as it was
  freed_elsewhere : (m : ℕ) → nat_eq m o ≡ false → nat_eq m d ≡ false → now.inode m ≡ inodes.inode m
  freed_elsewhere m not_o not_d =
      ap (λ b. cond b (used_once_less ((counting.with_changed nat_eq left o (node_with_parent o)).inode o))
      (cond b (parented o (left.inode o)) (left.inode m))) not_o
      ∙ ap (λ b. cond b (named_less name (held.inode d)) (held.inode m)) not_d
      ∙ ap (λ b. cond b (used_once_more (inodes.inode o)) (inodes.inode m)) not_o

  -- so whatever neither change touches
  at_each : {X : Type 0} (look : Option (Inode ℕ) → X)
      → ((inode : Option (Inode ℕ)) → look (parented o inode) ≡ look inode)
      → ((inode : Option (Inode ℕ)) → look (named_less name inode) ≡ look inode)
      → (m : ℕ) → look (now.inode m) ≡ look (inodes.inode m)
  at_each look kept kept_less m = by (nat_eq m o) refl (nat_eq m d) refl
    where
      by : (b : Bool) → nat_eq m o ≡ b → (c : Bool) → nat_eq m d ≡ c → look (now.inode m) ≡ look (inodes.inode m)
      by true e c f = ap (λ n. look (now.inode n)) (eqb-true m o e) ∙ ap look freed_there ∙ kept (inodes.inode o)
          ∙ ap (λ n. look (inodes.inode n)) (sym (eqb-true m o e))
      by false e true f = ap (λ n. look (now.inode n)) (eqb-true m d f) ∙ ap look freed_directory
          ∙ kept_less (inodes.inode d) ∙ ap (λ n. look (inodes.inode n)) (sym (eqb-true m d f))
      by false e false f = ap look (freed_elsewhere m e f)

  pub uses_stay : (m : ℕ) → uses_in (now.inode m) ≡ uses_in (inodes.inode m)
  uses_stay = at_each uses_in (uses_parented o) (uses_named_less name)

  pub there_still : (m : ℕ) → is_some (node_in (now.inode m)) ≡ is_some (node_in (inodes.inode m))
  there_still = at_each (λ i. is_some (node_in i))
      (λ i. ap is_some (node_parented o i) ∙ is_some-node_with_parent o (node_in i))
      (λ i. ap is_some (node_named_less name i) ∙ is_some-node_without_entry name (node_in i))

  pub kind_still : (m : ℕ) → is_directory_node (node_in (now.inode m)) ≡ is_directory_node (node_in (inodes.inode m))
  kind_still = at_each (λ i. is_directory_node (node_in i))
      (λ i. ap is_directory_node (node_parented o i) ∙ is_directory-node_with_parent o (node_in i))
      (λ i. ap is_directory_node (node_named_less name i) ∙ is_directory-node_without_entry name (node_in i))

  pub entries_less : entries_in (node_in (now.inode d)) ≡ without_entry name (entries_in (node_in (inodes.inode d)))
  entries_less = ap (λ i. entries_in (node_in i)) freed_directory
      ∙ ap entries_in (node_named_less name (inodes.inode d)) ∙ entries-node_without_entry name (node_in (inodes.inode d))

  pub entries_else : (m : ℕ) → nat_eq m d ≡ false → entries_in (node_in (now.inode m)) ≡ entries_in (node_in (inodes.inode m))
  entries_else m not_d = by (nat_eq m o) refl
    where
      by : (b : Bool) → nat_eq m o ≡ b → entries_in (node_in (now.inode m)) ≡ entries_in (node_in (inodes.inode m))
      by true e = ap (λ n. entries_in (node_in (now.inode n))) (eqb-true m o e)
          ∙ ap (λ i. entries_in (node_in i)) freed_there ∙ ap entries_in (node_parented o (inodes.inode o))
          ∙ entries-node_with_parent o (node_in (inodes.inode o))
          ∙ ap (λ n. entries_in (node_in (inodes.inode n))) (sym (eqb-true m o e))
      by false e = ap (λ i. entries_in (node_in i)) (freed_elsewhere m e not_d)

  pub names_fewer : (m k : ℕ) → has_entry_to nat_eq (tree_of now) m k ≡ true → has_entry_to nat_eq (tree_of inodes) m k ≡ true
  names_fewer m k e = by (nat_eq m d) refl
    where
      by : (b : Bool) → nat_eq m d ≡ b → has_entry_to nat_eq (tree_of inodes) m k ≡ true
      by true f = ap (λ n. has_entry_to nat_eq (tree_of inodes) n k) (eqb-true m d f)
          ∙ among_left k name (entries_in (node_in (inodes.inode d)))
          (sym (ap (λ es. is_among nat_eq k (map (λ e. e.1) es)) entries_less)
          ∙ ap (λ n. has_entry_to nat_eq (tree_of now) n k) (sym (eqb-true m d f)) ∙ e)
      by false f = sym (ap (λ es. is_among nat_eq k (map (λ e. e.1) es)) (entries_else m f)) ∙ e

-- Uses stay, nothing goes, and no name is new.
pub record IsHeld (was now : Inodes ℕ) : Type 0 where
  pub uses : (m : ℕ) → uses_in (now.inode m) ≡ uses_in (was.inode m)
  pub there : (m : ℕ) → is_some (node_in (now.inode m)) ≡ is_some (node_in (was.inode m))
  pub kind : (m : ℕ) → is_directory_node (node_in (now.inode m)) ≡ is_directory_node (node_in (was.inode m))
  pub names : (m k : ℕ) → has_entry_to nat_eq (tree_of now) m k ≡ true → has_entry_to nat_eq (tree_of was) m k ≡ true

pub held_itself : (inodes : Inodes ℕ) → IsHeld inodes inodes
held_itself inodes = record { uses = λ m. refl; there = λ m. refl; kind = λ m. refl; names = λ m k e. e }

pub held_on : (was now : Inodes ℕ) (d o : ℕ) (name : List ℕ) → nat_eq o d ≡ false → 0 < uses_in (now.inode o)
    → IsHeld was now → IsHeld was (freed_once d now (name, o))
held_on was now d o name other used is = record {
  uses = λ m. uses_stay now d o name other used m ∙ is.uses m;
  there = λ m. there_still now d o name other used m ∙ is.there m;
  kind = λ m. kind_still now d o name other used m ∙ is.kind m;
  names = λ m k e. is.names m k (names_fewer now d o name other used m k e);
}

-- A directory that had more names has these left; none is a directory's; and each other inode has the entries that it had.
pub record IsEmptying (was now : Inodes ℕ) (d : ℕ) (rest : Entries ℕ) : Type 0 where
  pub held : IsHeld was now
  pub entries : entries_in (node_in (now.inode d)) ≡ rest
  pub order : is_sorted name_cmp rest ≡ true
  pub plain : ArePlain (tree_of was) rest
  pub used : All (λ (e : List ℕ × ℕ). 0 < uses_in (was.inode e.1)) rest
  pub others : (m : ℕ) → nat_eq m d ≡ false → entries_in (node_in (now.inode m)) ≡ entries_in (node_in (was.inode m))

module _ (was : Inodes ℕ) (d : ℕ) where
  abbrev UsedIn : List ℕ × ℕ → Type 0
  UsedIn e = 0 < uses_in (was.inode e.1)

  module _ (now : Inodes ℕ) (e : List ℕ × ℕ) (rest : Entries ℕ) (is : IsEmptying was now d (e ∷ rest)) where
    pub is_directory : is_directory_node (node_in (now.inode d)) ≡ true
    is_directory = has_first (node_in (now.inode d)) e rest is.entries

    pub first_plain : is_directory_node (node_in (now.inode e.1)) ≡ false
    first_plain = is.held.kind e.1 ∙ is.plain.0

    pub apart : nat_eq e.1 d ≡ false
    apart = not_same e.1 d
        (λ s. true≢false (sym is_directory ∙ ap (λ n. is_directory_node (node_in (now.inode n))) (sym s) ∙ first_plain))

    pub first_used : 0 < uses_in (now.inode e.1)
    first_used = subst (λ n. 0 < n) (sym (is.held.uses e.1)) (All-head UsedIn e rest is.used)

    pub emptied_once : IsEmptying was (freed_once d now e) d rest
    emptied_once = record {
      held = held_on was now d e.1 e.0 apart first_used is.held;
      entries = entries_less now d e.1 e.0 apart first_used ∙ ap (without_entry e.0) is.entries
          ∙ own_gone e rest is.order;
      order = and_true_right (below_all name_cmp e.0 rest) _ is.order;
      plain = is.plain.1;
      used = All-tail UsedIn e rest is.used;
      others = λ m not_d. entries_else now d e.1 e.0 apart first_used m not_d ∙ is.others m not_d;
    }

  -- names in front of others
  pub emptied_front : (front rest : Entries ℕ) (here : Inodes ℕ) → IsEmptying was here d (front ++ rest)
      → IsEmptying was (folded (freed_once d) here front) d rest
  emptied_front [] rest here is = is
  emptied_front (e ∷ front) rest here is = emptied_front front rest (freed_once d here e)
      (emptied_once here e (front ++ rest) is)

-- an inode that is used is there
pub used_there : (inode : Option (Inode ℕ)) → 0 < uses_in inode → is_some (node_in inode) ≡ true
used_there None used = absurd (let no : ⊥ = omega (arith, used) in no)
used_there (Some inode) used = refl

no_name : (name : List ℕ) (entries : Entries ℕ) → entry_named name (without_entry name entries) ≡ None
no_name name entries = entry_named-without_entry name name entries
    ∙ ap (λ b. cond (not b) (entry_named name entries) None) ((bytes_eq-Decides name name).1 refl)

-- All that is in an inode loses its name.
module _ (inodes : Inodes ℕ) (h : ℕ) (names_used : NamesAreUsed inodes)
    (order : is_sorted name_cmp (entries_in (node_in (inodes.inode h))) ≡ true)
    (plain : (word : List ℕ) (k : ℕ) → entry_at (tree_of inodes) h word ≡ Some k
    → is_directory_node ((tree_of inodes).node k) ≡ false) where
  abbrev within : Entries ℕ
  within = entries_in (node_in (inodes.inode h))

  entries_used : (es : Entries ℕ)
      → ((k : ℕ) → is_among nat_eq k (map (λ e. e.1) es) ≡ true → is_among nat_eq k (map (λ e. e.1) within) ≡ true)
      → All (λ (e : List ℕ × ℕ). 0 < uses_in (inodes.inode e.1)) es
  entries_used [] among = All-nil (λ (e : List ℕ × ℕ). 0 < uses_in (inodes.inode e.1))
  entries_used (e ∷ es) among = All-cons (λ (e : List ℕ × ℕ). 0 < uses_in (inodes.inode e.1)) e es
      (names_used h e.1 (among e.1 (ap (λ b. b || is_among nat_eq e.1 (map (λ e. e.1) es)) (nat_eq_itself e.1))))
      (entries_used es (λ k f. among k (or_right (nat_eq k e.1) (is_among nat_eq k (map (λ e. e.1) es)) f)))

  -- before anything goes
  emptying_start : IsEmptying inodes inodes h within
  emptying_start = record {
    held = held_itself inodes;
    entries = refl;
    order = order;
    plain = plain_entries (tree_of inodes) within order plain;
    used = entries_used within (λ k f. f);
    others = λ m not_d. refl;
  }

  -- after so many names
  pub emptying_at : (k : ℕ) → IsEmptying inodes (folded (freed_once h) inodes (take k within)) h (drop k within)
  emptying_at k = emptied_front inodes h (take k within) (drop k within) inodes
      (subst (IsEmptying inodes inodes h) (sym (take-append-drop k within)) emptying_start)

  abbrev mid : Inodes ℕ
  mid = folded (freed_once h) inodes within

  pub emptied : IsEmptying inodes mid h []
  emptied = emptied_front inodes h within [] inodes (subst (IsEmptying inodes inodes h) (sym (append-nil within))
      emptying_start)

  -- then what has a name in a directory loses it
  module _ (d : ℕ) (name : List ℕ) (named : entry_at (tree_of inodes) d name ≡ Some h) (other : nat_eq h d ≡ false) where
    pub object_used : 0 < uses_in (mid.inode h)
    object_used = subst (λ n. 0 < n) (sym (emptied.held.uses h))
        (names_used d h (entry_to (tree_of inodes) d name h named))

    turned_other : nat_eq d h ≡ false
    turned_other = not_same d h (λ e. true≢false (sym (nat_eq_itself d) ∙ ap (λ n. nat_eq n d) e ∙ other))

    -- the name still leads there
    pub named_mid : entry_at (tree_of mid) d name ≡ Some h
    named_mid = ap (entry_named name) (emptied.others d turned_other) ∙ named

    abbrev last : Inodes ℕ
    last = freed_once d mid (name, h)

    pub record IsAllFreed : Type 0 where
      pub held : IsHeld inodes last
      pub free : entry_at (tree_of last) d name ≡ None
      pub few : length (entries_in (node_in (last.inode d))) ≤ length (entries_in (node_in (inodes.inode d)))
      pub entries : (m k : ℕ) → has_entry_to nat_eq (tree_of last) m k ≡ true → is_some ((tree_of last).node k) ≡ true

    pub all_freed : IsAllFreed
    all_freed =
        let held = held_on inodes mid d h name other object_used emptied.held in
        let entries : entries_in (node_in (last.inode d)) ≡ without_entry name (entries_in (node_in (inodes.inode d))) =
        entries_less mid d h name other object_used ∙ ap (without_entry name) (emptied.others d turned_other) in
        record {
          held = held;
          free = ap (entry_named name) entries ∙ no_name name (entries_in (node_in (inodes.inode d)));
          few =
              let less = fewer_left name (entries_in (node_in (inodes.inode d))) in
              let same = ap length entries in omega (arith, same, less);
          entries = λ m k e. held.there k ∙ used_there (inodes.inode k) (names_used m k (held.names m k e));
        }
