-- Where a task's walk ends something is, and so where its descriptors are.
use Rattle.std.proofs.Common.{arith, ◌≡◌, refl, subst, ℕ, nat_eq, Bool, true, false, cond, List, Option, Some, None, is_some, Ok, Result, ok_or, inr, find, option_to_list}
use Rattle.vt_spec.proofs.Common.{Among, Descriptor, Here, IsWorld, Location, Stop, Task, World, all_locations, among-flat_map, among-map, among_from_list_all, and_true_left, and_true_right, common_steps, denial, descriptor_at, descriptor_numbered, directory_used, files_at, found_among, is_directory_at, is_located_well, locations_of, node_at, task_called}
use Rattle.vt_spec.specs.declared.errors.Rule.TheVariants.{S4}
use Rattle.vt_spec.proofs.Walk.{symlink_walk, object_walk}
use Rattle.vt_laws_trees.proofs.trees.TreesWalked.{Ends, ok_same}
use Rattle.vt_laws_trees.proofs.trees.TreesEntered.{word_there}
use Rattle.vt_laws_trees.proofs.trees.TreesOfMounts.{worlds_are_standing}
use Rattle.vt_laws_trees.proofs.trees.WalksEnd.{LeadsOn, link_walk_found, object_end}
use Rattle.vt_laws_trees.proofs.trees.TreesTasks.{called_there, called_stands}

module _ (world : World ℕ) (conditions : IsWorld nat_eq world) (task : Task ℕ)
    (called : task_called world task.name ≡ Some task) where
  abbrev There : Location ℕ → Type 0
  There location = is_some (node_at nat_eq world location) ≡ true

  directory_is : (location : Location ℕ) → is_directory_at nat_eq world location ≡ true → There location
  directory_is location is = directory_used (files_at nat_eq world location).tree location.node is

  root_there : There task.root
  root_there = directory_is _ (and_true_left _ _ (and_true_left _ _ (called_stands world conditions task called)))

  own_there : There task.directory
  own_there = directory_is _ (and_true_left _ _ (and_true_right _ _ (called_stands world conditions task called)))

  abbrev EndsThere : Result (Here ℕ) (Stop ℕ) → Type 0
  EndsThere walk = Ends (λ here. There here.location) walk

  leads_on : LeadsOn world task There There
  leads_on = record {
    root = root_there;
    own = own_there;
    found = λ location is. is;
    word = λ here word is. word_there world conditions.files.trees
        (worlds_are_standing world conditions) task here word;
    no_link = λ location is none. is;
  }

  pub object_walk_there : (path : List ℕ) → EndsThere (object_walk nat_eq world task path)
  object_walk_there = object_end leads_on

  pub link_walk_there : (path : List ℕ) → EndsThere (symlink_walk nat_eq world task path)
  link_walk_there = link_walk_found leads_on

  pub descriptor_there : (number : ℕ) (fits : Descriptor ℕ → Bool) (descriptor : Descriptor ℕ)
      → descriptor_at task number fits ≡ Ok descriptor → There descriptor.location
  descriptor_there number fits descriptor e = and_true_right _ _ (among_from_list_all (is_located_well nat_eq world)
      (all_locations world) conditions.tasks.locations_live descriptor.location
      (among-flat_map locations_of world.tasks task descriptor.location (called_there world.tasks task.name task called)
      (inr (inr (among-map (λ d. d.location) task.descriptors descriptor
      (by (descriptor_numbered task number) refl e))))))
    where
      chosen : (held : Descriptor ℕ) → Among held task.descriptors → (b : Bool)
          → ok_or (cond b (Some held) None) (denial S4) ≡ Ok descriptor → Among descriptor task.descriptors
      chosen held m true h = subst (λ d. Among d task.descriptors) (ok_same held descriptor (Ok held) refl h) m
      chosen held m false h = grind (arith, common_steps)

      by : (o : Option (Descriptor ℕ)) → descriptor_numbered task number ≡ o
          → ok_or (find fits (option_to_list o)) (denial S4) ≡ Ok descriptor → Among descriptor task.descriptors
      by o f h = grind (arith, common_steps, chosen, found_among)
