-- What is linked is there, and is no directory.
use Rattle.std.proofs.Common.{eqb-true, ◌≡◌, ap, ℕ, nat_eq, true, false, is_some}
use Rattle.vt_spec.proofs.Common.{Location, NoneFails, Place, Task, World, files_at, is_special, linking, name_of, node_at}
use Rattle.vt_spec.proofs.Tables.{hard_link_rules}
use Rattle.vt_laws_trees.specs.Trees.{IsFileTree, MayAddName}
use Rattle.vt_laws_trees.proofs.trees.ChangesByRemoving.{shown}
use Rattle.vt_laws_trees.proofs.trees.ChangesOfCalls.{place_is_free}
use Rattle.vt_laws_trees.proofs.trees.TreesWalked.{IsNewPlace, not-false, place_is_file}

module _ (world : World ℕ) (task : Task ℕ) (old : Location ℕ) (place : Place ℕ)
    (there : is_some (node_at nat_eq world old) ≡ true)
    (is : IsNewPlace world task place) (plain : is_special place.last ≡ false)
    (passed : NoneFails (hard_link_rules nat_eq world task old place (linking old place))) where
  one_mount : old.mount ≡ place.parent.mount
  one_mount = eqb-true old.mount place.parent.mount (not-false (nat_eq old.mount place.parent.mount) passed.1.1.1.1.1.0)

  same_node : node_at nat_eq world old ≡ (files_at nat_eq world place.parent).tree.node old.node
  same_node = ap (λ m. (shown world m).tree.node old.node) one_mount

  pub may_link : IsFileTree (files_at nat_eq world place.parent)
      → MayAddName (files_at nat_eq world place.parent).tree place.parent.node (name_of place.last) old.node
  may_link trees = record {
    name_is_free = place_is_free world place (place_is_file world _ place.last _ is.0) plain passed.0 is.1 trees;
    is_there = cc (same_node);
    no_directory = cc (same_node, passed.1.0);
  }
