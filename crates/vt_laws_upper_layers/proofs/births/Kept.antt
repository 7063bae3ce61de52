-- Inodes that are kept without a name, after a change.
use Rattle.std.proofs.Common.{◌≡◌, ◌≢◌, refl, sym, ap, subst, ◌∙◌, ⊎_elim, true≢false, ℕ, ◌+◌, nat_eq, eqb-true, eq-eqb, ne_eqb, Bool, true, false, cond, ◌||◌, List, [], ◌∷◌, Option, Some, None, is_some, option_to_list}
use Rattle.vt_spec.proofs.Common.{AddName, Change, CopyUp, FileTree, Fresh, HasName, Make, Merge, Move, Node, Real, Remove, SameObject, SetAttr, SetBytes, SetMark, Stack, Upper, among_from_list_all, bytes_eq_itself, changed, copied_each, copied_up, copy_of, directory_used, entry_at, evens, is_among, is_in_upper, line_to, merge_changed, named_in, odds, or_cases, then_some, with_inode, with_real}
use Rattle.vt_laws_mounts.specs.LettingGo.FileChanges.{MayChange, names_lost}
use Rattle.vt_laws_mounts.specs.LettingGo.InUse.{IsListedTree}
use Rattle.vt_laws_mounts.specs.LettingGo.TreeChanges.{ChangesTree}
use Rattle.vt_laws_mounts.proofs.letting_go.Lists.{among_numbers}
use Rattle.vt_laws_mounts.proofs.letting_go.Trees.{named_among}
use Rattle.vt_laws_mounts.proofs.letting_go.leaving.NamesKept.{changes_keep_names}
use Rattle.vt_laws_trees.proofs.layers.views.Entries.{given, is_entry}
use Rattle.vt_laws_trees.proofs.overlays.whole.UpperWhole.{changes_keep_whole, files_changed}
use Rattle.vt_laws_trees.specs.Overlays.WhatIsShown.{IsWhole, inode_behind}
use Rattle.vt_laws_trees.specs.Overlays.WholeChanges.{IsAskedWell}
use Rattle.vt_laws_trees.specs.Overlays.WholeStays as Whole
use Rattle.vt_laws_worlds.proofs.overlays_let_go.changing.NamesLost.{entry_of}
use Rattle.vt_laws_worlds.specs.Merging.UpperChanges.{AreNew}
use Rattle.vt_laws_upper_layers.specs.Naming.{AreKept, KeptFollowChanges}
use Rattle.vt_laws_upper_layers.proofs.births.Changing.{files_of_one}
use Rattle.vt_laws_upper_layers.proofs.births.Copying.{real_by}

-- each inode that is there has a real object
abbrev HaveObjects : Merge ℕ → Type 0
HaveObjects merge = (n : ℕ) → is_some (merge.files.tree.node n) ≡ true → is_some (merge.real n) ≡ true

have_objects : (stack : Stack ℕ) (merge : Merge ℕ) → IsWhole stack merge → HaveObjects merge
have_objects stack merge whole n = by (merge.files.tree.node n) (merge.real n) (whole.shown.real_objects n)
  where
    by : (o : Option (Node ℕ)) (r : Option (Real ℕ)) → SameObject o (then_some r (inode_behind stack merge))
        → is_some o ≡ true → is_some r ≡ true
    by None r same e = absurd (true≢false (sym e))
    by (Some node) None same e = absurd same
    by (Some node) (Some object) same e = refl

-- a copy gives no other inode one
one_there : (merge : Merge ℕ) → HaveObjects merge → (object copy : ℕ) (o : Option (Node ℕ)) (b : Bool)
    → merge.files.tree.node object ≡ o → (n : ℕ)
    → is_some ((copy_of nat_eq merge object copy o b).real n) ≡ is_some (merge.real n)
one_there merge have object copy None b is n = refl
one_there merge have object copy (Some node) true is n = refl
one_there merge have object copy (Some node) false is n = by (nat_eq n object) refl
  where
    by : (t : Bool) → nat_eq n object ≡ t
        → is_some (with_real nat_eq merge.real object (Upper copy) n) ≡ is_some (merge.real n)
    by true t = ap is_some (real_by merge.real object copy n true t)
        ∙ sym (have n (ap is_some (ap merge.files.tree.node (eqb-true n object t) ∙ is)))
    by false t = ap is_some (real_by merge.real object copy n false t)

-- files stay, and so do the inodes that have real objects
pub record CopiesAsFiles (merge later : Merge ℕ) : Type 0 where
  pub files : later.files ≡ merge.files
  pub there : (n : ℕ) → is_some (later.real n) ≡ is_some (merge.real n)
  pub have : HaveObjects later

both_there : (merge next later : Merge ℕ) → next.files ≡ merge.files
    → ((n : ℕ) → is_some (next.real n) ≡ is_some (merge.real n)) → CopiesAsFiles next later → CopiesAsFiles merge later
both_there merge next later same there rest = record {
  files = rest.files ∙ same;
  there = λ n. rest.there n ∙ there n;
  have = rest.have;
}

each_there : (fresh : Fresh ℕ) (list : List ℕ) (k : ℕ) (merge : Merge ℕ) → HaveObjects merge
    → CopiesAsFiles merge (copied_each nat_eq fresh k merge list)
each_there fresh [] k merge have = record { files = refl; there = λ n. refl; have = have }
each_there fresh (object ∷ rest) k merge have =
    let o = merge.files.tree.node object in
    let b = is_in_upper merge object in
    let next : Merge ℕ = copy_of nat_eq merge object (fresh k) o b in
    let same : next.files ≡ merge.files = files_of_one merge object (fresh k) o b in
    let there : (n : ℕ) → is_some (next.real n) ≡ is_some (merge.real n)
    = one_there merge have object (fresh k) o b refl in
    both_there merge next (copied_each nat_eq fresh (k + 1) next rest) same there
    (each_there fresh rest (k + 1) next
    (λ n e. there n ∙ have n (ap (λ f. is_some (f.tree.node n)) (sym same) ∙ e)))

copied_there : (fresh : Fresh ℕ) (merge : Merge ℕ) (object : ℕ) → HaveObjects merge
    → CopiesAsFiles merge (copied_up nat_eq fresh merge object)
copied_there fresh merge object have = each_there fresh (line_to nat_eq merge.files object) 0 merge have

-- it is not the inode that a change makes
abbrev IsNotMade : Change ℕ → ℕ → Type 0
IsNotMade (Make directory name number node) n = nat_eq n number ≡ false
IsNotMade change n = Rattle.std.specs.Prelude.⊤

changed_there : (fresh : Fresh ℕ) (stack : Stack ℕ) (merge : Merge ℕ) → HaveObjects merge → (change : Change ℕ) (n : ℕ)
    → IsNotMade change n
    → is_some ((merge_changed nat_eq fresh stack merge change).real n) ≡ is_some (merge.real n)
changed_there fresh stack merge have (Make directory name number node) n other =
    ap is_some (real_by (copied_up nat_eq (evens fresh) merge directory).real number (odds fresh 0) n false other)
    ∙ (copied_there (evens fresh) merge directory have).there n
changed_there fresh stack merge have (AddName directory name object) n other =
    let first = copied_there (evens fresh) merge object have in
    (copied_there (odds fresh) (copied_up nat_eq (evens fresh) merge object) directory first.have).there n
    ∙ first.there n
changed_there fresh stack merge have (Remove directory name object) n other =
    (copied_there (evens fresh) merge directory have).there n
changed_there fresh stack merge have (Move from old to new object) n other =
    let first = copied_there (evens fresh) merge object have in
    (copied_there (evens (odds fresh)) (copied_up nat_eq (evens fresh) merge object) to first.have).there n
    ∙ first.there n
changed_there fresh stack merge have (SetBytes file bytes) n other = (copied_there fresh merge file have).there n
changed_there fresh stack merge have (SetAttr object attr) n other = (copied_there fresh merge object have).there n
changed_there fresh stack merge have (SetMark directory opaque) n other =
    (copied_there fresh merge directory have).there n
changed_there fresh stack merge have (CopyUp object) n other = (copied_there fresh merge object have).there n

-- what loses a name had one
lost_named : (files : FileTree ℕ) (change : Change ℕ) (n : ℕ)
    → is_among nat_eq n (names_lost files change) ≡ true → HasName files.tree n
lost_named files change n e = by change e
  where
    at : (d : ℕ) (w : List ℕ) → is_among nat_eq n (option_to_list (entry_at files.tree d w)) ≡ true
        → HasName files.tree n
    at d w e = one (entry_at files.tree d w) refl e
      where
        one : (o : Option ℕ) → entry_at files.tree d w ≡ o → is_among nat_eq n (option_to_list o) ≡ true
            → HasName files.tree n
        one None f e = absurd (true≢false (sym e))
        one (Some k) f e = ⊎_elim (λ same. (d, w, f ∙ ap Some (sym (eqb-true n k same))))
            (λ none. absurd (true≢false (sym none))) (or_cases (nat_eq n k) false e)

    by : (change : Change ℕ) → is_among nat_eq n (names_lost files change) ≡ true → HasName files.tree n
    by (Make directory name number node) e = at directory name e
    by (AddName directory name object) e = at directory name e
    by (Remove directory name object) e = at directory name e
    by (Move from old to new object) e = at to new e
    by (SetBytes file bytes) e = absurd (true≢false (sym e))
    by (SetAttr object attr) e = absurd (true≢false (sym e))
    by (SetMark directory opaque) e = absurd (true≢false (sym e))
    by (CopyUp object) e = absurd (true≢false (sym e))

-- what a change asks for of names
may_change : (stack : Stack ℕ) (merge : Merge ℕ) (change : Change ℕ) → IsAskedWell stack merge change
    → MayChange merge.files change
may_change stack merge (Make directory name number node) asked =
    record { in_directory = asked.0.name_is_free.in_directory; is_new = asked.0.number_is_new }
may_change stack merge (AddName directory name object) asked = tt
may_change stack merge (Remove directory name object) asked = tt
may_change stack merge (Move from old to new object) asked =
    record { named = asked.0.named; in_directory = asked.0.in_directory }
may_change stack merge (SetBytes file bytes) asked = tt
may_change stack merge (SetAttr object attr) asked = tt
may_change stack merge (SetMark directory opaque) asked = tt
may_change stack merge (CopyUp object) asked = tt

-- what is made has a name
not_made : (stack : Stack ℕ) (merge : Merge ℕ) (change : Change ℕ) → IsAskedWell stack merge change → (n : ℕ)
    → ¬ (HasName (changed nat_eq merge.files change).tree n) → IsNotMade change n
not_made stack merge (Make d w number node) asked n unnamed = ne_eqb n number (λ same. unnamed (
  d,
  w,
  named
      ∙ ap Some (sym same),
))
  where
    differ : d ≢ number
    differ same = true≢false (sym (directory_used merge.files.tree d asked.0.name_is_free.in_directory)
        ∙ ap (λ k. is_some (merge.files.tree.node k)) same ∙ ap is_some asked.0.number_is_new)

    stays : (with_inode nat_eq merge.files number node).tree.node d ≡ merge.files.tree.node d
    stays = ap (λ b. cond b (Some node) (merge.files.tree.node d)) (ne_eqb d number differ)

    named : entry_at (changed nat_eq merge.files (Make d w number node)).tree d w ≡ Some number
    named = given (with_inode nat_eq merge.files number node) d w number
        (ap Rattle.vt_spec.specs.Tree.is_directory_node stays ∙ asked.0.name_is_free.in_directory) d w
        ∙ ap (λ b. cond b (Some number) (entry_at (with_inode nat_eq merge.files number node).tree d w)) itself
      where
        itself : is_entry d w d w ≡ true
        itself = cc (eq-eqb d d refl, bytes_eq_itself w)
not_made stack merge (AddName directory name object) asked n unnamed = tt
not_made stack merge (Remove directory name object) asked n unnamed = tt
not_made stack merge (Move from old to new object) asked n unnamed = tt
not_made stack merge (SetBytes file bytes) asked n unnamed = tt
not_made stack merge (SetAttr object attr) asked n unnamed = tt
not_made stack merge (SetMark directory opaque) asked n unnamed = tt
not_made stack merge (CopyUp object) asked n unnamed = tt

module _ (fresh : Fresh ℕ) (stack : Stack ℕ) (merge : Merge ℕ) (whole : IsWhole stack merge)
    (new : AreNew fresh merge.upper) (change : Change ℕ) (asked : IsAskedWell stack merge change) where
  abbrev later : Merge ℕ
  later = merge_changed nat_eq fresh stack merge change

  new_numbers : Whole.AreNew fresh merge
  new_numbers = record { distinct = new.distinct; unused = new.unused }

  whole_later : IsWhole stack later
  whole_later = changes_keep_whole fresh stack merge change whole new_numbers asked

  same : changed nat_eq merge.files change ≡ later.files
  same = files_changed fresh stack merge whole new_numbers change asked

  before : IsListedTree merge.files
  before = record { tree = whole.tree; numbers = whole.numbers }

  after : IsListedTree (changed nat_eq merge.files change)
  after = subst IsListedTree (sym same) (record { tree = whole_later.tree; numbers = whole_later.numbers })

  names : ChangesTree merge.files (changed nat_eq merge.files change) (names_lost merge.files change)
  names = changes_keep_names merge.files change before after (may_change stack merge change asked)

  kept_changed : (kept : ℕ → Bool) → AreKept kept merge.files.tree merge.real
      → AreKept (λ n. kept n || is_among nat_eq n (names_lost merge.files change)) later.files.tree later.real
  kept_changed kept are n unnamed no_root =
      changed_there fresh stack merge (have_objects stack merge whole) change n
      (not_made stack merge change asked n unnamed_then)
      ∙ by (is_among nat_eq n (named_in merge.files)) refl (is_among nat_eq n lost) refl
    where
      lost : List ℕ
      lost = names_lost merge.files change

      unnamed_then : ¬ (HasName (changed nat_eq merge.files change).tree n)
      unnamed_then = subst (λ f. ¬ (HasName f.tree n)) (sym same) unnamed

      there : HasName merge.files.tree n → is_some (merge.real n) ≡ true
      there named = have_objects stack merge whole n (whole.tree.alive named.0 named.1 n named.2)

      or_true : (b : Bool) → (b || true) ≡ true
      or_true true = refl
      or_true false = refl

      or_false : (b : Bool) → (b || false) ≡ b
      or_false true = refl
      or_false false = refl

      -- what had a name lost it
      gone : is_among nat_eq n (named_in merge.files) ≡ true → is_among nat_eq n lost ≡ true
      gone e = ⊎_elim
          (λ still. absurd (unnamed_then (entry_of (changed nat_eq merge.files change) after n
          (among_numbers n (named_in (changed nat_eq merge.files change)) still))))
          (λ is. is)
          (or_cases (is_among nat_eq n (named_in (changed nat_eq merge.files change))) (is_among nat_eq n lost)
          (among_from_list_all (λ k. is_among nat_eq k (named_in (changed nat_eq merge.files change))
          || is_among nat_eq k lost) (named_in merge.files) names.names n (among_numbers n (named_in merge.files) e)))

      by : (b : Bool) → is_among nat_eq n (named_in merge.files) ≡ b → (l : Bool) → is_among nat_eq n lost ≡ l
          → is_some (merge.real n) ≡ (kept n || is_among nat_eq n lost)
      by b e true f = there (lost_named merge.files change n f) ∙ sym (ap (λ x. kept n || x) f ∙ or_true (kept n))
      by true e false f = absurd (true≢false (sym (gone e) ∙ f))
      by false e false f =
          are n (λ named. true≢false (sym (named_among merge.files before n named) ∙ e))
          (λ root. no_root (root ∙ sym names.root ∙ ap (λ g. g.tree.root) same))
          ∙ sym (ap (λ x. kept n || x) f ∙ or_false (kept n))

pub kept_follow_changes : KeptFollowChanges
kept_follow_changes fresh stack merge whole new kept change asked are =
    kept_changed fresh stack merge whole new change asked kept are
