-- What uses an inode of an overlay without a name.
use Rattle.std.proofs.Common.{◌≡◌, ◌≢◌, refl, ap, ◌∙◌, ⊎_elim, ℕ, nat_eq, ne_eqb, eq-eqb, Bool, true, false, ◌||◌, ◌++◌, List, [], ◌∷◌, Option, Some, None, find}
use Rattle.vt_spec.proofs.Common.{FileTree, HasName, IsTree, entries_in, filesystem_numbered, found_is_named, is_among, list_any-append, located_in, named_in, targets_in}
use Rattle.vt_laws_trees.proofs.layers.layers.UpperWorld.{overlay_tree}
use Rattle.vt_laws_mounts.proofs.letting_go.Lists.{Among, among-from_flat_map, among-from_map, among_numbers}
use Rattle.vt_laws_worlds.specs.Seen.InodeUses.{UnnamedAreUsedWhereLocated}
use Rattle.vt_laws_worlds.proofs.seen.used.NoLayers.{used_by_locations}

-- where something passes something is found
found_there : {A : Type 0} (test : A → Bool) (xs : List A) (x : A) → Among x xs → test x ≡ true → find test xs ≢ None
found_there test [] x m e n = absurd m
found_there test (y ∷ ys) x m e n = by _ refl (λ later. found_there test ys x later e)
  where
    by : (b : Bool) → test y ≡ b → (Among x ys → find test ys ≢ None) → ⊥
    by true t rest = cc
    by false t rest = ⊎_elim (λ same. cc) (λ later. rest later (cc)) m

-- what entries lead to has a name
has_name : (files : FileTree ℕ) → IsTree files.tree → (inode : ℕ) → is_among nat_eq inode (named_in files) ≡ true
    → HasName files.tree inode
has_name files tree inode e =
    let from = among-from_flat_map (λ d. targets_in (files.tree.node d)) files.numbers inode
    (among_numbers inode (named_in files) e) in
    let entry = among-from_map (λ (entry : List ℕ × ℕ). entry.1) (entries_in (files.tree.node from.0)) inode from.2 in
    by from.0 (find (λ (entry : List ℕ × ℕ). nat_eq inode entry.1) (entries_in (files.tree.node from.0))) refl
    (found_there (λ (entry : List ℕ × ℕ). nat_eq inode entry.1) (entries_in (files.tree.node from.0)) entry.0
    entry.1 (eq-eqb inode entry.0.1 entry.2))
  where
    by : (directory : ℕ) (o : Option (List ℕ × ℕ))
        → find (λ (entry : List ℕ × ℕ). nat_eq inode entry.1) (entries_in (files.tree.node directory)) ≡ o
        → find (λ (entry : List ℕ × ℕ). nat_eq inode entry.1) (entries_in (files.tree.node directory)) ≢ None
        → HasName files.tree inode
    by directory None f some = absurd (some f)
    by directory (Some entry) f some =
        let named = found_is_named inode (entries_in (files.tree.node directory)) entry (tree.in_order directory) f in
        (directory, entry.0, named.0 ∙ ap Some named.1)

pub unnamed_are_used_where_located : UnnamedAreUsedWhereLocated
unnamed_are_used_where_located world number overlay inode conditions is unnamed no_root =
    let files = (filesystem_numbered nat_eq world number).files in
    ap (is_among nat_eq inode) (used_by_locations world number overlay conditions is)
    ∙ ap (λ b. b || is_among nat_eq inode (named_in files ++ located_in nat_eq world number))
    (ne_eqb inode files.tree.root no_root)
    ∙ list_any-append (nat_eq inode) (named_in files) (located_in nat_eq world number)
    ∙ ap (λ b. b || is_among nat_eq inode (located_in nat_eq world number))
    (by (is_among nat_eq inode (named_in files)) refl)
  where
    by : (b : Bool) → is_among nat_eq inode (named_in (filesystem_numbered nat_eq world number).files) ≡ b
        → is_among nat_eq inode (named_in (filesystem_numbered nat_eq world number).files) ≡ false
    by false e = e
    by true e = absurd (unnamed (has_name (filesystem_numbered nat_eq world number).files
        (overlay_tree world conditions number overlay is) inode e))
