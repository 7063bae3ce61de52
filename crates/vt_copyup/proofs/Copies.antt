-- What a plan makes is the definitions' copy.
use Rattle.std.proofs.Common.{◌≡◌, ◌∙◌, ◌∷◌, ◌++◌, [], ap, length, List, map, nat_eq, refl, Some, subst, sym, ℕ}
use Rattle.vt_spec.proofs.Common.{Content, FileTree, Fresh, Make, Node, changed, map_twice}
use Rattle.vt_spec.specs.Machine.CopyUp.{Stack}
use Rattle.vt_spec.specs.Tree.Content.{Directory, Regular, Symlink, Whiteout}
use Rattle.vt_laws_trees.proofs.layers.layers.ShownPaths.{length_longer}
use Rattle.vt_location.specs.Locations.{inode_of}
use Rattle.vt_location.specs.Numbers.{inode_number}
use Rattle.vt_laws_worlds.proofs.seen.copied.InTurn.{copies_in_turn}
use Rattle.vt_laws_worlds.specs.Merging.UpperChanges.{copied_to, copy_node, led_above}
use Rattle.vt_laws_worlds.specs.Seen.CopySteps.{ArePlanned, Copy, made_in_turn}
use Rattle.vt_copyup.specs.Copied.{bare}
use Rattle.vt_copyup.specs.Laws.{AreHanded, PlansMakeCopies}
use Rattle.vt_copyup.specs.Made.{Made, made_copies}
use Rattle.vt_copyup.specs.Planned.{stack_of}
use Rattle.vt_copyup.specs.Plans.{in_turn}
use Rattle.vt_copyup.specs.declared.plans.Piece.{Piece}
use Rattle.vt_copyup.specs.declared.plans.PlannedCopy.{PlannedCopy}

-- a copy of what is copied is the same
copy-bare : (directory : ℕ) (node : Node ℕ) → copy_node directory node ≡ copy_node directory (bare node)
copy-bare directory node = by node.content
  where
    by : (content : Content ℕ) → copy_node directory (record { attr = node.attr; content = content })
        ≡ copy_node directory (bare (record { attr = node.attr; content = content }))
    by (Directory parent entries opaque) = refl
    by (Regular bytes) = refl
    by (Symlink text) = refl
    by Whiteout = refl

module _ (fresh : Fresh ℕ) (stack : Stack ℕ) (tree : FileTree ℕ) (upper : ℕ) where
  pub made_alike : (copies : List Copy) (made : List Made) (front : List (List ℕ)) (files : FileTree ℕ) (directory : ℕ)
      → ArePlanned fresh stack tree front copies
      → map (λ (copy : Copy). copy.name) copies ≡ map (λ (one : Made). one.copy.name.items) made
      → map (λ (copy : Copy). bare copy.node) copies ≡ map (λ (one : Made). one.copy.node) made
      → AreHanded fresh upper (length front) made
      → made_in_turn files directory copies ≡ made_in_turn files directory (made_copies upper made)
  made_alike [] [] front files directory planned names nodes handed = refl
  made_alike [] (one ∷ made) front files directory planned names nodes handed = cc
  made_alike (copy ∷ copies) [] front files directory planned names nodes handed = cc
  made_alike (copy ∷ copies) (one ∷ made) front files directory planned names nodes handed =
      let name : copy.name ≡ one.copy.name.items = cc in
      let node : bare copy.node ≡ one.copy.node = cc in
      let longer = length_longer front copy.name in
      let number : copy.number ≡ inode_number upper one.slot =
      planned.2 ∙ ap fresh longer ∙ sym handed.0 in
      let names_left : map (λ (c : Copy). c.name) copies ≡ map (λ (m : Made). m.copy.name.items) made = cc in
      let nodes_left : map (λ (c : Copy). bare c.node) copies ≡ map (λ (m : Made). m.copy.node) made = cc in
      let same : copy_node directory copy.node ≡ copy_node directory one.copy.node =
      copy-bare directory copy.node ∙ ap (copy_node directory) node in
      made_alike copies made (front ++ copy.name ∷ [])
      (changed nat_eq files (Make directory copy.name copy.number (copy_node directory copy.node))) copy.number
      planned.3 names_left nodes_left (subst (λ n. AreHanded fresh upper n made) (sym longer) handed.1)
      ∙ (λ i. made_in_turn (changed nat_eq files (Make directory (name i) (number i) (same i))) (number i)
      (made_copies upper made))

pub plans_make : PlansMakeCopies
plans_make fresh mounter merge trees upper lowers overlay path plan made is whole same_upper new all handed =
    let stack = stack_of trees upper lowers mounter in
    let f = upper.directory.filesystem.count in
    let planned = is.planned fresh mounter in
    let led : led_above stack merge.upper is.front ≡ Some (inode_of plan.directory) =
    ap (λ files. led_above stack files is.front) same_upper ∙ is.leads in
    let are : ArePlanned fresh stack merge.upper is.front planned.copies =
    subst (λ files. ArePlanned fresh stack files is.front planned.copies) (sym same_upper) planned.planned in
    let names : map (λ (copy : Copy). copy.name) planned.copies ≡ map (λ (one : Made). one.copy.name.items) made =
    planned.names ∙ sym (map_twice (λ (copy : PlannedCopy). copy.name.items) (λ (piece : Piece). piece.copy)
    (in_turn plan)) ∙ ap (map (λ (copy : PlannedCopy). copy.name.items)) (sym all)
    ∙ map_twice (λ (copy : PlannedCopy). copy.name.items) (λ (one : Made). one.copy) made in
    let nodes : map (λ (copy : Copy). bare copy.node) planned.copies ≡ map (λ (one : Made). one.copy.node) made =
    planned.nodes ∙ sym (map_twice (λ (copy : PlannedCopy). copy.node) (λ (piece : Piece). piece.copy)
    (in_turn plan)) ∙ ap (map (λ (copy : PlannedCopy). copy.node)) (sym all)
    ∙ map_twice (λ (copy : PlannedCopy). copy.node) (λ (one : Made). one.copy) made in
    ap (copied_to fresh stack merge.upper) (sym (ap (λ l. is.front ++ l) planned.names ∙ is.whole))
    ∙ copies_in_turn fresh stack merge whole new is.front (inode_of plan.directory) planned.copies led are
    ∙ made_alike fresh stack merge.upper f planned.copies made is.front merge.upper (inode_of plan.directory) are names
    nodes handed
