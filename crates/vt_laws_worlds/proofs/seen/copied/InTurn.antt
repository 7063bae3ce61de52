-- Copies that are planned, and made one in the other.
use Rattle.std.proofs.Common.{◌≡◌, refl, sym, ap, subst, ◌∙◌, arith, ℕ, zero, suc, true, List, [], ◌∷◌, ◌++◌, map, length, append_assoc, Option, Some, None, is_some, unwrap_or, append-nil}
use Rattle.vt_spec.proofs.Common.{Fresh, Merge, Node, SameObject, Stack, entry_at, found, map-append, number_at_path, then_some, common_steps}
use Rattle.vt_laws_trees.proofs.layers.layers.ShownDirectories.{last_of}
use Rattle.vt_laws_trees.proofs.layers.layers.ShownNames.{last_name}
use Rattle.vt_laws_trees.proofs.layers.layers.ShownPaths.{length_longer, not_empty}
use Rattle.vt_laws_trees.specs.Overlays.WhatIsShown.{IsWhole}
use Rattle.vt_laws_worlds.specs.Merging.UpperChanges.{AreNew, copied_to, led_above, node_seen}
use Rattle.vt_laws_worlds.proofs.merging.upper.Copying.{none_copied}
use Rattle.vt_laws_worlds.proofs.merging.upper.Places.{path_there}
use Rattle.vt_laws_worlds.specs.Seen.CopySteps.{ArePlanned, CopiesAreMadeInTurn, Copy, PathsHaveTheirCopies, made_in_turn}
use Rattle.vt_laws_worlds.proofs.seen.copied.Stepping.{step_by_step}

abbrev names_of : List Copy → List (List ℕ)
names_of copies = map (λ (copy : Copy). copy.name) copies

-- a path that has a further name leads somewhere
module _ (stack : Stack ℕ) (merge : Merge ℕ) (whole : IsWhole stack merge) where
  seen_leads : (path : List (List ℕ)) (node : Node ℕ) → node_seen stack merge.upper path ≡ Some node
      → (object : ℕ) × (number_at_path merge.files path ≡ Some object)
  seen_leads path node e = grind (arith, common_steps)

  before_leads : (path : List (List ℕ)) (name : List ℕ) (object : ℕ)
      → number_at_path merge.files (path ++ name ∷ []) ≡ Some object
      → (parent : ℕ) × (number_at_path merge.files path ≡ Some parent)
  before_leads path name object e =
      let step = found (λ directory. entry_at merge.files.tree directory name) (number_at_path merge.files path)
      object (sym (last_name merge.files.tree merge.files.tree.root path name) ∙ e) in
      (step.0, step.1)

  -- and what is there is shown
  leads_seen : (path : List (List ℕ)) (object : ℕ) → number_at_path merge.files path ≡ Some object
      → (node : Node ℕ) × (node_seen stack merge.upper path ≡ Some node)
  leads_seen path object e = by _ (path_there stack merge whole path object e) _ refl
      (subst (λ o. SameObject (then_some o merge.files.tree.node) (node_seen stack merge.upper path)) e
      (whole.shown.shows path))
    where
      by : (here : Option (Node ℕ)) → is_some here ≡ true → (there : Option (Node ℕ))
          → node_seen stack merge.upper path ≡ there → SameObject here (node_seen stack merge.upper path)
          → (node : Node ℕ) × (node_seen stack merge.upper path ≡ Some node)
      by here some (Some node) s same = (node, s)
      by None some None s same = cc
      by (Some node) some None s same = absurd (subst (SameObject (Some node)) s same)

module _ (fresh : Fresh ℕ) (stack : Stack ℕ) (merge : Merge ℕ) (whole : IsWhole stack merge)
    (new : AreNew fresh merge.upper) where
  in_turn : (path : List (List ℕ)) (above : ℕ) (copies : List Copy)
      → above ≡ unwrap_or (led_above stack merge.upper path) (fresh (length path))
      → ArePlanned fresh stack merge.upper path copies → copied_to fresh stack merge.upper (path ++ names_of copies)
      ≡ made_in_turn (copied_to fresh stack merge.upper path) above copies
  in_turn path above [] is planned = cc (append-nil path)
  in_turn path above (copy ∷ rest) is planned =
      let leads = seen_leads stack merge whole _ _ planned.1 in
      let parent = before_leads stack merge whole path _ _ leads.1 in
      cc (
        append_assoc path (copy.name ∷ []) (names_of rest),
        in_turn (path ++ copy.name ∷ []) copy.number rest
            (planned.2 ∙ sym (ap (λ o. unwrap_or o (fresh (length (path ++ copy.name ∷ [])))) planned.0)) planned.3,
        step_by_step fresh stack merge whole new path copy.name parent.0 above copy.node parent.1 planned.0
            planned.1 is,
      )

  -- a plan may go on by one name
  one_more : (path : List (List ℕ)) (copies : List Copy) (copy : Copy) (to : List (List ℕ))
      → path ++ names_of copies ≡ to
      → ArePlanned fresh stack merge.upper path copies → ArePlanned fresh stack merge.upper to (copy ∷ [])
      → ArePlanned fresh stack merge.upper path (copies ++ copy ∷ [])
  one_more path [] copy to e planned last =
      subst (λ p. ArePlanned fresh stack merge.upper p (copy ∷ [])) (sym e ∙ append-nil path) last
  one_more path (first ∷ copies) copy to e planned last = (
    planned.0,
    planned.1,
    planned.2,
    one_more (path ++ first.name ∷ []) copies copy to (append_assoc path (first.name ∷ []) (names_of copies) ∙ e)
        planned.3 last,
  )

  record Plan (path : List (List ℕ)) : Type 0 where
    prefix : List (List ℕ)
    above : ℕ
    copies : List Copy
    whole_path : prefix ++ names_of copies ≡ path
    has : led_above stack merge.upper prefix ≡ Some above
    planned : ArePlanned fresh stack merge.upper prefix copies

  -- of a path whose prefixes have one
  module _ (path : List (List ℕ)) (object : ℕ) (e : number_at_path merge.files path ≡ Some object)
      (before : (shorter : List (List ℕ)) (parent : ℕ) → suc (length shorter) ≡ length path
      → number_at_path merge.files shorter ≡ Some parent → Plan shorter) where
    -- the upper layer has nothing there
    missing : (above : List (List ℕ)) (name : List ℕ) → above ++ name ∷ [] ≡ path
        → led_above stack merge.upper path ≡ None → Plan path
    missing above name same none =
        let leads = before_leads stack merge whole above name object (cc) in
        let plan = before above leads.0 (cc (length_longer above name)) leads.1 in
        let node = leads_seen stack merge whole path object e in
        let copy : Copy = record { name = name; node = node.0; number = fresh (length path) } in
        record {
          prefix = plan.prefix;
          above = plan.above;
          copies = plan.copies ++ copy ∷ [];
          whole_path = cc (
            map-append (λ (c : Copy). c.name) plan.copies (copy ∷ []),
            append_assoc plan.prefix (names_of plan.copies) (name ∷ []),
          );
          has = plan.has;
          planned = one_more _ _ copy above plan.whole_path plan.planned (
            cc,
            cc,
            cc,
            tt,
          );
        }

    built : (o : Option ℕ) → led_above stack merge.upper path ≡ o → (way : List (List ℕ)) → path ≡ way → Plan path
    built (Some above) l way w = record {
      prefix = path;
      above = above;
      copies = [];
      whole_path = append-nil path;
      has = l;
      planned = tt;
    }
    built None l [] w = cc
    built None l (word ∷ way) w =
        let last = last_of _ (not_empty word way) in
        missing last.0 last.1 (cc) l

  plan : (steps : ℕ) (path : List (List ℕ)) (object : ℕ) → length path ≡ steps
      → number_at_path merge.files path ≡ Some object → Plan path
  plan zero path object n e =
      built path object e (λ shorter parent m l. absurd (let no : ⊥ = omega (arith, m, n) in no))
      (led_above stack merge.upper path) refl path refl
  plan (suc steps) path object n e =
      built path object e (λ shorter parent m l. plan steps shorter parent (omega (arith, m, n)) l)
      (led_above stack merge.upper path) refl path refl

pub copies_in_turn : CopiesAreMadeInTurn
copies_in_turn fresh stack merge whole new path above copies led planned = cc (
  in_turn fresh stack merge whole new path above copies (sym (ap (λ o. unwrap_or o (fresh (length path))) led))
      planned,
  none_copied fresh stack merge.upper (length path) path refl (ap is_some led),
)

pub paths_have_their_copies : PathsHaveTheirCopies
paths_have_their_copies fresh stack merge whole new path object e =
    let is = plan fresh stack merge whole new _ path object refl e in
    (is.prefix, is.above, is.copies, is.whole_path, is.has, is.planned)
