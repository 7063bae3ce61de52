-- Copies one prefix at a time.
use Rattle.std.proofs.Common.{arith, ◌≡◌, ◌≢◌, refl, sym, ap, subst, ◌∙◌, ℕ, nat_eq, List, [], ◌∷◌, ◌++◌, length, Option, Some, None, unwrap_or, option_map, append-nil}
use Rattle.vt_laws_trees.proofs.layers.layers.ShownPaths.{last_of_longer}
use Rattle.vt_spec.proofs.Common.{FileTree, Fresh, Make, Merge, Node, SameObject, Stack, changed, common_steps, copied_up, none_is_some, number_at_path, same_Some, then_some}
use Rattle.vt_laws_trees.proofs.layers.layers.UpperShown.{without_last_of_longer}
use Rattle.vt_laws_trees.proofs.overlays.steps.WholeLines.{object_copied}
use Rattle.vt_laws_worlds.specs.Merging.UpperChanges.{copied_to, copy_node, copy_over, node_seen, object_above}
use Rattle.vt_laws_worlds.specs.Merging.UpperChanges.Place.{Named}
use Rattle.vt_laws_worlds.proofs.merging.upper.Copying.{copied_longer, same_copied}
use Rattle.vt_laws_worlds.proofs.merging.upper.Places.{copies_are_of_prefixes, path_there, prefixes_lead_to_copies}
use Rattle.vt_laws_worlds.specs.Seen.CopySteps.{CopiesGoStepByStep, CopiesShowTheSame}

-- two inodes that look like one are copied alike
copied_alike : (parent : ℕ) (node a b : Option (Node ℕ)) → SameObject node a → SameObject node b
    → option_map (copy_node parent) a ≡ option_map (copy_node parent) b
copied_alike parent None None None s t = refl
copied_alike parent None None (Some b) s t = absurd t
copied_alike parent None (Some a) b s t = absurd s
copied_alike parent (Some node) None b s t = absurd s
copied_alike parent (Some node) (Some a) None s t = absurd t
copied_alike parent (Some node) (Some a) (Some b) s t =
    let attr = sym s.0 ∙ t.0 in
    let content = sym (same_copied parent _ _ s.1) ∙ same_copied parent _ _ t.1 in
    (λ i. Some (record { attr = attr i; content = content i }))

pub shows_the_same : CopiesShowTheSame
shows_the_same fresh stack merge whole new path other object parent leads =
    let there = path_there stack merge whole path object leads in
    let line = object_copied stack fresh new.distinct merge object whole new.unused there in
    let is = (copies_are_of_prefixes fresh stack merge object (Named path) whole new there leads).0 in
    sym (copied_alike parent (then_some (number_at_path merge.files other) merge.files.tree.node)
    (node_seen stack merge.upper other) (node_seen stack (copied_to fresh stack merge.upper path) other)
    (whole.shown.shows other) (subst (λ files. SameObject (then_some (number_at_path files other) files.tree.node)
    (node_seen stack (copied_to fresh stack merge.upper path) other)) line.copied.files
    (subst (λ upper. SameObject (then_some (number_at_path (copied_up nat_eq fresh merge object).files other)
    (copied_up nat_eq fresh merge object).files.tree.node) (node_seen stack upper other)) is
    (line.copied.whole.shown.shows other))))

-- a path does not lead on to one before it
longer : (front rest : List (List ℕ)) (name : List ℕ) → (front ++ name ∷ []) ++ rest ≢ front
longer [] rest name e = absurd cc
longer (word ∷ front) rest name e = longer front rest name (cc)

module _ (fresh : Fresh ℕ) (stack : Stack ℕ) (merge : Merge ℕ) (front : List (List ℕ)) (name : List ℕ)
    (above : ℕ) (node : Node ℕ) where
  abbrev path : List (List ℕ)
  path = front ++ name ∷ []

  abbrev later : FileTree ℕ
  later = copied_to fresh stack merge.upper front

  over : (seen : Option (Node ℕ)) → object_above stack later front ≡ above
      → option_map (copy_node above) seen ≡ Some (copy_node above node) → copy_over fresh stack later path None seen
      ≡ changed nat_eq later (Make above name (fresh (length path)) (copy_node above node))
  over seen at e = grind (arith, common_steps, none_is_some, without_last_of_longer, last_of_longer, same_Some)

pub step_by_step : CopiesGoStepByStep
step_by_step fresh stack merge whole new front name parent above node leads none seen is =
    let lead = prefixes_lead_to_copies fresh stack merge whole new front (cc) in
    cc (
      copied_longer fresh stack merge.upper front name,
      lead.1 (front ++ name ∷ []) (λ rest. longer front rest name),
      over fresh stack merge front name above node (node_seen stack (copied_to fresh stack merge.upper front)
          (front ++ name ∷ [])) (ap (λ led. unwrap_or led 0) (lead.0 front [] (append-nil front)) ∙ sym is)
          (shows_the_same fresh stack merge whole new front (front ++ name ∷ []) parent above leads ∙ ap
          (option_map (copy_node above)) seen),
    )
