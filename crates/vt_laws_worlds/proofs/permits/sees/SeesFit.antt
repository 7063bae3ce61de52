-- Each change of a tree that a permit asks for is proper, and fits whoever keeps that tree alone.
use Rattle.std.proofs.Common.{arith, eq-eqb, le-leb, leb-true, ltb-false, ne_eqb, ◌≡◌, ◌≢◌, refl, sym, ap, subst, ◌∙◌, ⊎_elim, true≢false, ℕ, zero, suc, ◌+◌, ◌*◌, nat_eq, nat_le, nat_lt, Bool, true, false, not, List, [], ◌∷◌, ◌&&◌, length, Option, Some, None, option_map, option_and_then}
use Rattle.vt_spec.proofs.Common.{AddName, Allowed, Change, CopyUp, FileTree, Filesystem, Fits, Fresh, Inode, Inodes, IsDirectory, IsReached, IsTree, IsWorld, ListsNumbers, Location, Make, MayReplace, Move, Node, Permit, Remove, SetAttr, SetBytes, SetMark, Task, ToChange, ToList, ToMake, ToOpen, ToOpenNew, ToRead, ToReadPart, ToRemoveDirectory, ToRename, ToStat, ToWritePart, Tree, World, and_true_first, bytes_in, chain, chain_ends, chain_goes_on, common_steps, entry_at, evens, file_is_there, files_at, filesystem_at, has_fit_names, has_fit_text, is_among, is_directory_node, is_empty, is_fit_filesystem, is_kind_in, is_no_larger, largest_file, led, mount_at, node_at, overwritten, parent_above, parent_in, reached_named, tree_of, ⊤}
use Rattle.vt_laws_trees.specs.Calls.Inodes.{change_of, written_if_some}
use Rattle.vt_laws_mounts.proofs.letting_go.Lists.{all_from_among, among_from_all, among_from_list_all, among_numbers}
use Rattle.vt_laws_worlds.proofs.permits.sees.SeesNames.{tree_here}
use Rattle.vt_laws_worlds.proofs.permits.sees.SeesTasks.{given_permits_are_seen_to}
use Rattle.vt_laws_worlds.specs.Permits.Left.{IsGiven}
use Rattle.vt_laws_worlds.specs.Permits.Sees.{GivenChangesAreProper, GivenChangesFit, SeesTo, SeesToChange, tree_at}
use Rattle.vt_spec.specs.declared.attributes.Kind.TheVariants.{File}
use Rattle.vt_spec.proofs.Trees.{parent_reached}
use Rattle.vt_laws_trees.specs.Trees.{IsProper}
use Rattle.vt_laws_trees.specs.Trees.Sizes.{IsFitChange}
use Rattle.vt_laws_trees.proofs.trees.ChangesOfCalls.{mapped_none}
use Rattle.vt_laws_trees.proofs.trees.TreesOfWorlds.{new_at, numbered_all}
use Rattle.vt_laws_trees.proofs.trees.ChangesWithinSizes.{overwritten_length}
use Rattle.vt_laws_worlds.proofs.worlds.CallsKept.{new_numbers}
use Rattle.vt_laws_worlds.proofs.worlds.FitPermitsNamed.{all_permits_fit}
use Rattle.vt_laws_worlds.specs.Worlds.Permits.{NamesWhatIsThere}

-- what a tree alone asks for beside that the change is proper
abbrev More : Tree ℕ → Change ℕ → Type 0
More tree (Make directory name number node) = ⊤
More tree (AddName directory name object) = ⊤
More tree (Remove directory name object) = ⊤
More tree (Move from old to new object) = IsTree tree × ((other : ℕ) → entry_at tree to new ≡ Some other
    → is_directory_node (tree.node other) ≡ is_directory_node (tree.node object))
More tree (SetBytes file bytes) =
    (is_directory_node (tree.node file) ≡ false) × (nat_le (length bytes) largest_file ≡ true)
More tree (SetAttr object attr) = ⊤
More tree (SetMark directory opaque) = is_directory_node (tree.node directory) ≡ true
More tree (CopyUp object) = ⊤

abbrev Facts : Tree ℕ → Change ℕ → Type 0
Facts tree change = IsProper tree change × More tree change

-- A tree alone
module _ (inodes : Inodes ℕ) where
  abbrev tree : Tree ℕ
  tree = tree_of inodes

  -- a move keeps a directory from being put below itself: what does not lead to the new parent is not above it
  module _ (is : IsTree tree) (object to : ℕ)
      (not_under : (names : List (List ℕ)) → led tree object names ≢ Some to) where
    apart : (directory : ℕ) (names : List (List ℕ)) → led tree directory names ≡ Some to
        → nat_eq object directory ≡ false
    apart directory names leads = ne_eqb object directory (λ same. not_under names (cc))

    abbrev parent : ℕ → ℕ
    parent directory = parent_in directory (tree.node directory)

    not_above : (most directory : ℕ) → IsDirectory tree directory → IsReached tree directory → (names : List (List ℕ))
        → led tree directory names ≡ Some to
        → is_among nat_eq object (chain most (parent_above nat_eq inodes) directory) ≡ false
    not_above zero directory there reached names leads = cc (apart directory names leads)
    not_above (suc most) directory there reached names leads = ⊎_elim at_root (λ named.
        let leads_above : led tree (parent directory) (named.1 ∷ names) ≡ Some to =
        ap (option_and_then (λ next. led tree next names))
        (ap (λ d. entry_at tree d named.1) (is.one_parent named.0 named.1 directory named.2 there) ∙ named.2) ∙ leads in
        below (not_above most (parent directory) (is.parent_directory directory there)
        (parent_reached tree is directory there reached) (named.1 ∷ names) leads_above))
        (reached_named tree directory reached)
      where
        -- nothing is above the root
        at_root : tree.root ≡ directory
            → is_among nat_eq object (chain (suc most) (parent_above nat_eq inodes) directory) ≡ false
        at_root same =
            let root = eq-eqb directory inodes.root (sym same) in
            grind (arith, common_steps, chain_ends, apart directory names leads)

        -- above another directory are its parent and what is above that
        below : is_among nat_eq object (chain most (parent_above nat_eq inodes) (parent directory)) ≡ false
            → is_among nat_eq object (chain (suc most) (parent_above nat_eq inodes) directory) ≡ false
        below rest = grind (arith, common_steps, chain_ends, chain_goes_on, apart directory names leads)

  fits : (change : Change ℕ) → Facts tree change → Fits inodes change
  fits (Make directory name number node) facts = (
    facts.0.name_is_free.in_directory,
    facts.0.name_is_free.free,
    mapped_none (λ (inode : Inode ℕ). inode.node) (inodes.inode number) facts.0.number_is_new,
    facts.0.fits,
  )
  fits (AddName directory name object) facts =
      (facts.0.name_is_free.in_directory, facts.0.name_is_free.free, facts.0.no_directory)
  fits (Remove directory name object) facts = (facts.0.named, facts.0.empty)
  fits (Move from old to new object) facts = (
    facts.0.named,
    facts.0.in_directory,
    replaces (entry_at tree to new) refl,
    λ is. not_above facts.1.0 object to facts.0.not_under inodes.count to facts.0.in_directory facts.0.reached [] refl,
  )
    where
      replaces : (o : Option ℕ) → entry_at tree to new ≡ o → MayReplace tree object o
      replaces None e = tt
      replaces (Some other) e = (
        (λ same. facts.0.replaced_other (e ∙ ap Some same)),
        facts.1.1 other e,
        facts.0.replaced_empty other e,
      )
  fits (SetBytes file bytes) facts = (facts.1.0, leb-true (length bytes) largest_file facts.1.1)
  fits (SetAttr object attr) facts = tt
  fits (SetMark directory opaque) facts = facts.1
  fits (CopyUp object) facts = tt

-- a regular file is no directory
file_is_no_directory : (o : Option (Node ℕ)) → is_kind_in File o ≡ true → is_directory_node o ≡ false
file_is_no_directory o e = grind (arith, common_steps, true≢false)

module _ (world : World ℕ) (fresh : Fresh ℕ) (task : Task ℕ) (permit : Permit ℕ) (whole : IsWorld nat_eq world)
    (given : IsGiven fresh world task permit) where
  -- the bytes of a file are within the limit
  bytes_small : (file : Location ℕ) → is_kind_in File (node_at nat_eq world file) ≡ true
      → nat_le (length (bytes_in (node_at nat_eq world file))) largest_file ≡ true
  bytes_small file kind = ⊎_elim in_limit (λ missing. absurd (true≢false
      (sym kind ∙ ap (λ (f : Filesystem ℕ). is_kind_in File (f.files.tree.node file.node)) missing.0)))
      (numbered_all Good
      (mount_at nat_eq world file).filesystem world.filesystems (all_from_among Good world.filesystems (λ f m. (
        among_from_list_all is_fit_filesystem world.filesystems whole.files.fit_filesystems f m,
        among_from_all (λ (g : Filesystem ℕ). ListsNumbers nat_eq g.files) world.filesystems whole.files.numbers f m,
      ))))
    where
      Good : Filesystem ℕ → Type 0
      Good f = (is_fit_filesystem f ≡ true) × ListsNumbers nat_eq f.files

      fit_in : FileTree ℕ → ℕ → Bool
      fit_in files number = is_no_larger files number && has_fit_names files number && has_fit_text files number

      in_limit : Good (filesystem_at nat_eq world file)
          → nat_le (length (bytes_in (node_at nat_eq world file))) largest_file ≡ true
      in_limit good =
          let files = files_at nat_eq world file in
          let listed = among_numbers file.node files.numbers
          (good.1 file.node ∙ file_is_there (node_at nat_eq world file) kind) in
          let fit = among_from_list_all (fit_in files) files.numbers good.0 file.node listed in
          grind (arith, common_steps, and_true_first)

  -- what is known of the change that is asked for
  abbrev FactsOf : Option (Location ℕ × Change ℕ) → Type 0
  FactsOf None = ⊤
  FactsOf (Some made) = Facts (tree_at world made.0) made.1 × IsFitChange made.1

  number_is_new : (directory : Location ℕ) → (tree_at world directory).node (evens fresh 0) ≡ None
  number_is_new directory = new_at fresh world directory (new_numbers world fresh whole given.serves) (2 * 0)

  changed_facts : (location : Location ℕ) (change : Change ℕ) → SeesToChange world location change
      → FactsOf (Some (location, change))
  changed_facts location change seen = grind (arith, common_steps)

  -- what is seen through a mount is in the tree that it shows
  abbrev shown : ℕ → Tree ℕ
  shown mount = tree_at world (record { mount = mount; node = 0 })

  written_facts : (file : Location ℕ) (offset : ℕ) (bytes : List ℕ) → is_kind_in File (node_at nat_eq world file) ≡ true
      → (not (is_empty bytes) && nat_lt largest_file (offset + length bytes)) ≡ false
      → FactsOf (written_if_some world file offset bytes)
  written_facts file offset [] kind short = tt
  written_facts file offset (byte ∷ bytes) kind short =
      let small = le-leb (length (overwritten offset (byte ∷ bytes) (bytes_in (node_at nat_eq world file))))
      largest_file (overwritten_length offset _ _ _ (ltb-false largest_file (offset + length (byte ∷ bytes)) short)
      (leb-true (length (bytes_in (node_at nat_eq world file))) largest_file (bytes_small file kind))) in
      ((tt, (file_is_no_directory _ kind, small)), small)

  facts_of : (permit : Permit ℕ) → NamesWhatIsThere world task permit → SeesTo world task permit
      → FactsOf (change_of fresh world permit)
  facts_of Allowed names seen = tt
  facts_of (ToList directory) names seen = tt
  facts_of (ToStat object) names seen = tt
  facts_of (ToRead file) names seen = tt
  facts_of (ToReadPart file offset size) names seen = tt
  facts_of (ToChange location change) names seen = changed_facts location change seen
  facts_of (ToMake directory name node) names seen = (
    (record { name_is_free = seen.name_is_free; number_is_new = number_is_new directory; fits = seen.fits }, tt),
    (seen.fit_name, seen.small),
  )
  facts_of (ToRemoveDirectory parent name directory) names seen = ((seen.1, tt), tt)
  facts_of (ToRename from old to new object replaced) names seen =
      let kinds : (other : ℕ) → entry_at (tree_at world from) to.node new ≡ Some other
      → is_directory_node ((tree_at world from).node other)
      ≡ is_directory_node ((tree_at world from).node object.node) = λ other e.
      ap (λ m. is_directory_node ((shown m).node other)) (sym seen.to_mount)
      ∙ seen.kinds (record { mount = to.mount; node = other })
      (seen.replaces ∙ ap (option_map (λ number. record { mount = to.mount; node = number }))
      (ap (λ m. entry_at (shown m) to.node new) seen.to_mount ∙ e))
      ∙ ap (λ m. is_directory_node ((shown m).node object.node)) seen.object_mount in
      ((seen.moves, ((tree_here world whole from names.0.directory).tree, kinds)), seen.fit_name)
  facts_of (ToOpen file access) names seen = tt
  facts_of (ToOpenNew directory name node access) names seen = (
    (record { name_is_free = seen.0.name_is_free; number_is_new = number_is_new directory; fits = seen.0.fits }, tt),
    (seen.0.fit_name, seen.0.small),
  )
  facts_of (ToWritePart file offset bytes) names seen = written_facts file offset bytes names seen.1
  facts_of permit names seen = tt

  given_facts : (location : Location ℕ) (change : Change ℕ) → change_of fresh world permit ≡ Some (location, change)
      → Facts (tree_at world location) change × IsFitChange change
  given_facts location change asks = subst FactsOf asks (facts_of permit
      (all_permits_fit world fresh task given.call permit whole given.serves given.called given.no_overlay
      given.judged).names (given_permits_are_seen_to world fresh task permit whole given))

pub given_changes_are_proper : GivenChangesAreProper
given_changes_are_proper world fresh task permit location change whole given asks =
    let facts = given_facts world fresh task permit whole given _ change asks in
    (facts.0.0, facts.1)

pub given_changes_fit : GivenChangesFit
given_changes_fit world fresh task permit location change inodes whole given asks same = fits inodes change
    (subst (λ tree. Facts tree change) (sym same) (given_facts world fresh task permit whole given _ change asks).0)
