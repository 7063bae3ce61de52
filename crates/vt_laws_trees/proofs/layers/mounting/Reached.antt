-- Names lead to the layers of an overlay when it is mounted.
use Rattle.std.proofs.Common.{arith, ◌≡◌, refl, sym, ap, subst, ◌∙◌, true≢false, ⊎_elim, ℕ, nat_eq, eqb-true, Bool, true, false, not, ◌||◌, List, [], ◌∷◌, ◌++◌, map, Option, Some, None, is_some, Ok, All, option_map, option_to_list}
use Rattle.vt_spec.proofs.Common.{All-cons, All-head, All-nil, All-tail, Filesystem, Gives, IsDirectory, IsReached, IsTree, IsWorld, Layer, LayerLocations, Location, OverlayWords, Task, Tree, World, common_steps, entry_from, filesystem_numbered, has_entry_to, is_directory_at, is_directory_node, is_removed, is_removed_at, layer_at, layers_of, looks_of, mount_at, parent_in, path_walked, walk_end, when, work_walked}
use Rattle.vt_laws_trees.proofs.layers.mounting.Walked.{gives_end, gives_then}
use Rattle.vt_spec.specs.declared.errors.Rule.TheVariants.{W3, W8}
use Rattle.vt_spec.proofs.Tables.{each_walked, layers_walked, overlay_at, source_walk, walked_if_given}
use Rattle.vt_spec.proofs.Walk.{directory_walk}
use Rattle.vt_laws_trees.proofs.trees.TreesOfWorlds.{numbered_all}
use Rattle.vt_laws_trees.proofs.trees.TreesWalked.{Ends, ends_next, ends_then, ends_unless, not-false}

-- a directory that is not removed is reached
reached_tree : (tree : Tree ℕ) → IsTree tree → (directory : ℕ) → IsDirectory tree directory
    → is_removed nat_eq tree directory ≡ false → IsReached tree directory
reached_tree tree is directory is_directory stays = by (nat_eq directory tree.root) refl stays
  where
    named : (b : Bool) → has_entry_to nat_eq tree (parent_in directory (tree.node directory)) directory ≡ b
        → not (false || is_some (when b (parent_in directory (tree.node directory)))) ≡ false → IsReached tree directory
    named true e h =
        let entry = entry_from tree is (parent_in directory (tree.node directory)) directory e in
        is.reached directory is_directory (parent_in directory (tree.node directory), entry.0, entry.1)
    named false e h = absurd (true≢false h)

    by : (b : Bool) → nat_eq directory tree.root ≡ b → not (b || is_some (Rattle.std.proofs.Common.cond b None
        (when (has_entry_to nat_eq tree (parent_in directory (tree.node directory)) directory)
        (parent_in directory (tree.node directory))))) ≡ false → IsReached tree directory
    by true e h = ([], ap Some (sym (eqb-true directory tree.root e)))
    by false e h = named (has_entry_to nat_eq tree (parent_in directory (tree.node directory)) directory) refl h

module _ (world : World ℕ) (conditions : IsWorld nat_eq world) (task : Task ℕ) where
  abbrev ReachedLayer : Layer ℕ → Type 0
  ReachedLayer layer = IsReached (filesystem_numbered nat_eq world layer.filesystem).files.tree layer.directory

  abbrev at : Location ℕ → Layer ℕ
  at location = layer_at (looks_of nat_eq world) location

  abbrev Reached : Location ℕ → Type 0
  Reached location = ReachedLayer (at location)

  reached_at : (location : Location ℕ) → is_directory_at nat_eq world location ≡ true
      → is_removed_at nat_eq world location ≡ false → Reached location
  reached_at location is_directory stays = ⊎_elim
      (λ tree. reached_tree (filesystem_numbered nat_eq world number).files.tree tree location.node is_directory stays)
      (λ none. absurd (true≢false (sym is_directory
      ∙ ap (λ (f : Filesystem ℕ). is_directory_node (f.files.tree.node location.node)) none.0)))
      (numbered_all (λ (f : Filesystem ℕ). IsTree f.files.tree) number world.filesystems conditions.files.trees)
    where
      number : ℕ
      number = (mount_at nat_eq world location).filesystem

  source_reached : (path : List ℕ) → Ends (λ here. Reached here.location) (source_walk nat_eq world task path)
  source_reached path =
      ends_then (λ here. is_directory_at nat_eq world here.location ≡ true) (λ here. Reached here.location)
      (directory_walk nat_eq world task path) _
      (ends_next (λ here. is_directory_at nat_eq world here.location ≡ true) (path_walked nat_eq world task path) _
      (λ here.
      ends_unless (λ there. is_directory_at nat_eq world there.location ≡ true) here.steps
      ((not (is_directory_at nat_eq world here.location), W3) ∷ []) here
      (λ passed. not-false (is_directory_at nat_eq world here.location) passed.0))) (λ here is.
      ends_unless (λ there. Reached there.location) here.steps
      ((is_removed_at nat_eq world here.location, W8) ∷ []) here (λ passed. reached_at here.location is passed.0))

  abbrev AllReached : List (Layer ℕ) → Type 0
  AllReached layers = All ReachedLayer layers

  each_reached : (paths : List (List ℕ))
      → Gives (λ places. AllReached (map at places)) (each_walked nat_eq world task paths)
  each_reached [] = All-nil ReachedLayer
  each_reached (path ∷ paths) = gives_then (λ here. Reached here.location) (λ places. AllReached (map at places))
      (walk_end (source_walk nat_eq world task path)) _
      (gives_end _ (source_walk nat_eq world task path) (source_reached path)) (λ here is.
      gives_then (λ places. AllReached (map at places)) (λ places. AllReached (map at places))
      (each_walked nat_eq world task paths) _
      (each_reached paths) (λ rest are. All-cons ReachedLayer (at here.location) (map at rest) is are))

  given_reached : (path : Option (List ℕ))
      → Gives (λ place. AllReached (option_to_list (option_map at place))) (walked_if_given nat_eq world task path)
  given_reached None = All-nil ReachedLayer
  given_reached (Some path) = grind (arith, common_steps, gives_then, source_walk, gives_end, source_reached)

  both : (a b : List (Layer ℕ)) → AllReached a → AllReached b → AllReached (a ++ b)
  both [] b all other = other
  both (layer ∷ a) b all other = All-cons ReachedLayer layer (a ++ b) (All-head ReachedLayer layer a all)
      (both a b (All-tail ReachedLayer layer a all) other)

  all_reached : (words : OverlayWords) → Gives (λ places. AllReached (layers_of (overlay_at nat_eq world task places)))
      (layers_walked nat_eq world task words)
  all_reached words = gives_then (λ lowers. AllReached (map at lowers)) _ (each_walked nat_eq world task words.lowers) _
      (each_reached words.lowers) (λ lowers low.
      gives_then (λ upper. AllReached (option_to_list (option_map at upper))) _
      (walked_if_given nat_eq world task words.upper) _ (given_reached words.upper) (λ upper up.
      gives_then (λ work. AllReached (option_to_list (option_map at work)))
      (λ places. AllReached (layers_of (overlay_at nat_eq world task places)))
      (walked_if_given nat_eq world task (work_walked words)) _ (given_reached (work_walked words)) (λ work beside.
      both (option_to_list (option_map at upper) ++ option_to_list (option_map at work)) (map at lowers)
      (both (option_to_list (option_map at upper)) (option_to_list (option_map at work)) up beside) low)))

pub layers_are_reached : (world : World ℕ) (task : Task ℕ) (words : OverlayWords) (places : LayerLocations ℕ)
    → IsWorld nat_eq world → layers_walked nat_eq world task words ≡ Ok places → All (λ (layer : Layer ℕ). IsReached
    (filesystem_numbered nat_eq world layer.filesystem).files.tree layer.directory)
    (layers_of (overlay_at nat_eq world task places))
layers_are_reached world task words places conditions walked = subst (Gives (λ places. AllReached world conditions task
    (layers_of (overlay_at nat_eq world task places)))) walked (all_reached world conditions task words)
