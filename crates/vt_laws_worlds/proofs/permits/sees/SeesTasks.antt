-- What each call's judgement sees to.
use Rattle.std.proofs.Common.{List, Ok, Option, Some, [], ap, arith, eqb-true, false, inl, inr, is_some, le-leb, nat_eq, nat_le, not, refl, sym, true, true≢false, ℕ, ◌&&◌, ◌∙◌, ◌≡◌, length}
use Rattle.vt_spec.proofs.Common.{Call, Fresh, Here, IsWorld, Looks, Node, Permit, Task, World, common_steps, deepest_name, descriptor_found, directory_walk, entries_in, entries_in-no_directory, file_mode, holds_of, is_directory_at, is_directory_node, is_directory_there, is_empty, is_kind_in, largest_file, longest_path, looks_of, most_forks, new_file, nil_from_not_some, node_at, object_there, or_parts, overfills, special_word, symlink_walk, task_called}
use Rattle.std.proofs.Math.Nat.{mod-lt}
use Rattle.vt_laws_rules.proofs.given.Ways.{calls_are_granted}
use Rattle.vt_laws_rules.proofs.given.Ways.{IsGranted}
use Rattle.vt_spec.specs.Machine.Judging.{directory_made, symlink_made, whiteout_made}
use Rattle.vt_laws_rules.proofs.given.Ways.IsGranted.{changes_mark, changes_mode, changes_owner, changes_umask, closes, creates, creates_exclusively, drops_capabilities, forks, lists_directory, makes_directory, makes_hard_link, makes_symlink, makes_whiteout, mounts_overlayfs, opens, opens_existing, overwrites_file, reads_file, reads_part, reads_symlink, removes_directory, renames, unlinks, writes_new_file, writes_part}
use Rattle.vt_laws_worlds.proofs.permits.sees.SeesNames.{made_as_file, made_at_new, old_mount, same_kind, tree_here}
use Rattle.vt_laws_worlds.specs.Permits.Sees.{GivenPermitsAreSeenTo, SeesTo}
use Rattle.vt_spec.specs.Machine.Rules.Conditions.{kind_at}
use Rattle.vt_spec.specs.declared.attributes.Kind.TheVariants.{Symlink}
use Rattle.vt_laws_trees.proofs.trees.ChangesByLinks.{may_link}
use Rattle.vt_laws_trees.proofs.trees.ChangesByRemoving.{may_move, old_removable}
use Rattle.vt_laws_trees.proofs.trees.TreesEntered.{ends_link_walk}
use Rattle.vt_laws_trees.proofs.trees.TreesOfMounts.{worlds_are_standing}
use Rattle.vt_laws_trees.proofs.trees.TreesSizes.{fit_name_of, no_longer}
use Rattle.vt_laws_trees.proofs.trees.TreesTasks.{and_from}
use Rattle.vt_laws_trees.proofs.trees.TreesWalked.{at_end, not-false, place_named}
use Rattle.vt_laws_trees.specs.Trees.Calls.{mounts_overlay}
use Rattle.vt_laws_worlds.proofs.worlds.ReachedWalks.{directory_walk_end}
use Rattle.vt_laws_trees.proofs.trees.PlacesReached.{file_is, new_is, new_leaf_is, old_is, old_leaf_is, rename_new_is}

-- a symlink is no directory
link_is_no_directory : (o : Option (Node ℕ)) → is_kind_in Symlink o ≡ true → is_directory_node o ≡ false
link_is_no_directory o e = grind (arith, common_steps, true≢false)

module _ (fresh : Fresh ℕ) (world : World ℕ) (whole : IsWorld nat_eq world) (task : Task ℕ)
    (called : task_called world task.name ≡ Some task) where
  abbrev looks : Looks ℕ
  looks = looks_of nat_eq world

  directory_is : (path : List ℕ) (here : Here ℕ) → directory_walk nat_eq looks task path ≡ Ok here
      → is_directory_at nat_eq world here.location ≡ true
  directory_is path here e = (at_end _ _ here (directory_walk_end world whole task called path) e).1

  -- each way in which a call is granted
  granted_seen : (call : Call) (permit : Permit ℕ) → mounts_overlay call ≡ false
      → IsGranted nat_eq looks (overfills nat_eq fresh world task) task call permit → SeesTo world task permit
  granted_seen call permit other (lists_directory path here end passed) = directory_is path here end
  granted_seen call permit other (reads_symlink path here end passed) =
      link_is_no_directory (node_at nat_eq world here.location)
      (not-false (kind_at looks here.location Symlink) passed.0)
  granted_seen call permit other (reads_file path here end passed) = passed.0
  granted_seen call permit other (overwrites_file path bytes place file end named there passed) =
      (refl, passed.0, no_longer largest_file bytes passed.1.0)
  granted_seen call permit other (writes_new_file path bytes place end named missing fits passed) =
      made_as_file world whole task place (new_file task file_mode bytes) (file_is world task path place end) named.0
      missing (inr refl) (ap (λ b. b && true && true) (no_longer largest_file bytes fits.0))
  granted_seen call permit other (makes_directory path mode place end passed) =
      made_at_new world whole task place (directory_made task place mode)
      (new_is world task path place end) passed.0 passed.1.0 (inl refl) refl
  granted_seen call permit other (makes_symlink text path place fits end passed) =
      made_at_new world whole task place (symlink_made task text)
      (new_leaf_is world task path place end) passed.0 passed.1.0 (inr refl)
      (ap (λ b. b && true) (and_from (not (is_empty text)) (nat_le (length text) longest_path) (ap not fits.0)
      (no_longer longest_path text fits.1.0)))
  granted_seen call permit other (makes_whiteout path place end passed) =
      made_at_new world whole task place (whiteout_made task)
      (new_leaf_is world task path place end) passed.0 passed.1.0 (inr refl) refl
  granted_seen call permit other (makes_hard_link old new from place from_end end named passed) =
      let there : is_some (node_at nat_eq world from.location) ≡ true =
      at_end (λ (here : Here ℕ). is_some (node_at nat_eq world here.location) ≡ true)
      (symlink_walk nat_eq looks task old) from
      (ends_link_walk world whole.files.trees (worlds_are_standing world whole) task old) from_end in
      let is = new_leaf_is world task new place end in (
        refl,
        may_link world task from.location place there is.0 named.0 passed (tree_here world whole place.parent
            (place_named world place.parent place.last place.object named.0 is.0.0).0),
        fit_name_of place.last named.0 is.1,
      )
  granted_seen call permit other (unlinks path place end named passed) =
      let is = old_leaf_is world task path place end in (
        refl,
        old_removable world place named.0 is.0 is.1
            (entries_in-no_directory (node_at nat_eq world (object_there place)) passed.0),
        ap (λ mount. is_directory_node (node_at nat_eq world
            (record { mount = mount; node = (object_there place).node }))) (sym (old_mount world task place named.0 is))
            ∙ passed.0,
      )
  granted_seen call permit other (removes_directory path place end word passed) =
      let named = special_word place.last word.0 word.1.0 word.1.1.0 in
      let is = old_is world task path place end in (
        old_mount world task place named is,
        old_removable world place named is.0 is.1
            (nil_from_not_some (entries_in (node_at nat_eq world (object_there place))) passed.1.0),
        not-false (is_directory_at nat_eq world (object_there place)) passed.0,
      )
  granted_seen call permit other (renames old new from to names another passed) =
      let is = old_leaf_is world task old from names.from_end in
      let to_is = rename_new_is world task new (is_directory_there nat_eq looks from) to names.to_end in
      record {
        to_mount = sym (eqb-true from.parent.mount to.parent.mount
            (not-false (nat_eq from.parent.mount to.parent.mount) passed.1.1.1.1.1.1.1.1.0));
        object_mount = old_mount world task from names.from_named.0 is;
        moves =
            may_move world task from to names.from_named.0 is.0 is.1 names.to_named.0 to_is.0.0 to_is.0.1 another passed
            (tree_here world whole from.parent
            (place_named world from.parent from.last from.object names.from_named.0 is.0).0);
        fit_name = fit_name_of to.last names.to_named.0 to_is.1;
        replaces = (place_named world to.parent to.last to.object names.to_named.0 to_is.0.0).1;
        kinds = λ other e. same_kind (is_directory_at nat_eq world (object_there from))
            (is_directory_at nat_eq world other) (ap (λ o. not (is_directory_at nat_eq world (object_there from))
            && holds_of (is_directory_at nat_eq world) o) (sym e) ∙ passed.0)
            (ap (λ o. is_directory_at nat_eq world (object_there from)
            && holds_of (λ new. not (is_directory_at nat_eq world new)) o) (sym e) ∙ passed.1.0);
      }
  granted_seen call permit other (changes_mode path mode here end passed) = refl
  granted_seen call permit other (changes_owner path uid gid here end passed) = refl
  granted_seen call permit other (changes_mark path mark here admin end passed) = (refl, directory_is path here end)
  granted_seen call permit other (opens path access here room end passed) = (passed.0, room.0)
  granted_seen call permit other (opens_existing path access mode place file room end named there passed) =
      (passed.0, room.0)
  granted_seen call permit other (creates path access mode place room end named missing passed) = (
    made_as_file world whole task place (new_file task mode []) (file_is world task path place end) named.0 missing
        (inr refl) (ap (λ b. b && true && true) (le-leb 0 largest_file (omega arith))),
    room.0,
  )
  granted_seen call permit other (creates_exclusively path access mode place room end named passed) = (
    made_at_new world whole task place (new_file task mode []) (new_is world task path place end)
        named.0 named.1.1.0 (inr refl) (ap (λ b. b && true && true) (le-leb 0 largest_file (omega arith))),
    room.0,
  )
  granted_seen call permit other (reads_part number offset size descriptor found) =
      let there = descriptor_found task number (λ d. d.reads) descriptor found in
      (number, descriptor, there.0, there.1, refl)
  granted_seen call permit other (writes_part number offset bytes descriptor found passed) =
      let there = descriptor_found task number (λ d. d.writes) descriptor found in
      ((number, descriptor, there.0, there.1, refl), passed.0)
  granted_seen call permit other (closes number descriptor found) =
      ap is_some (descriptor_found task number (λ d. true) descriptor found).0
  granted_seen call permit other (changes_umask mode) = mod-lt mode (omega arith)
  granted_seen call permit other (drops_capabilities which) = refl
  granted_seen call permit other (forks words passed) =
      or_parts (nat_le most_forks task.forks) (nat_le deepest_name (length task.name)) passed.0
  granted_seen call permit other (mounts_overlayfs path words flags here layers admin end walked layered passed) =
      absurd (true≢false other)
  granted_seen call permit other granted = tt

pub given_permits_are_seen_to : GivenPermitsAreSeenTo
given_permits_are_seen_to world fresh task permit whole given =
    granted_seen fresh world whole task given.called given.call permit given.no_overlay
    (calls_are_granted nat_eq (looks_of nat_eq world) (overfills nat_eq fresh world task) task given.call permit
    given.judged)
