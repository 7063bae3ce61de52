-- Names of a tree, and inodes that are used no more.
use Rattle.std.proofs.Common.{arith, ◌≡◌, ◌≢◌, refl, ap, ◌∙◌, true≢false, ⊎_elim, ℕ, nat_eq, true, false, List, [], map, Option, Some, None, is_some}
use Rattle.vt_spec.proofs.Common.{FileTree, HasName, Node, among_targets, cases_Bool, common_steps, entries_in, entry_named, is_among, is_directory_node, named_in, none_is_not, targets_in}
use Rattle.vt_laws_mounts.specs.LettingGo.InUse.{IsListedTree}
use Rattle.vt_laws_mounts.proofs.letting_go.Lists.{among-flat_map, among_numbers, is_among_numbers}

-- what has an entry is there
there_with_entry : (name : List ℕ) (number : ℕ) (o : Option (Node ℕ)) → entry_named name (entries_in o) ≡ Some number
    → is_some o ≡ true
there_with_entry name number None e = none_is_not None number refl e
there_with_entry name number (Some node) e = refl

-- what is no directory has no entries
pub no_targets : (o : Option (Node ℕ)) → is_directory_node o ≡ false → targets_in o ≡ []
no_targets None e = refl
no_targets (Some node) e = grind (arith, common_steps, true≢false)

-- the named ones are those that have a name
pub named_among : (files : FileTree ℕ) → IsListedTree files → (number : ℕ) → HasName files.tree number
    → is_among nat_eq number (named_in files) ≡ true
named_among files conditions number named = is_among_numbers number (named_in files)
    (among-flat_map (λ directory. targets_in (files.tree.node directory)) files.numbers named.0 number
    (among_numbers named.0 files.numbers
    (conditions.numbers named.0 ∙ there_with_entry named.1 number (files.tree.node named.0) named.2))
    (among_numbers number (targets_in (files.tree.node named.0))
    (among_targets named.1 (entries_in (files.tree.node named.0)) number named.2)))

-- an inode other than the root that has no name has no entries
pub unnamed_is_empty : (files : FileTree ℕ) → IsListedTree files → (number : ℕ) → number ≢ files.tree.root
    → is_among nat_eq number (named_in files) ≡ false → targets_in (files.tree.node number) ≡ []
unnamed_is_empty files conditions number root unnamed = ⊎_elim (λ is. ap (map (λ e. e.1))
    (conditions.tree.unnamed_empty number is root (λ named. cc (named_among files conditions number named))))
    (λ isnt. no_targets _ isnt) (cases_Bool _)
