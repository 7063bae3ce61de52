-- An object at a path is copied with the fronts of that: what leads where, and which numbers are still new.
use Rattle.std.proofs.Common.{arith, ◌≡◌, ◌≢◌, ◌<◌, refl, sym, ap, subst, ◌∙◌, true≢false, ℕ, zero, suc, ◌+◌, nat_eq, ne_eqb, Bool, true, false, cond, List, [], ◌∷◌, ◌++◌, length, Option, Some, None, is_some, option_and_then, unwrap_or, append-nil}
use Rattle.vt_spec.proofs.Common.{FileTree, Fresh, IsDirectory, IsTree, Lower, Make, Merge, Node, Real, SameObject, Shown, Stack, a_name, changed, common_steps, copied_up, copy_of, cuts, directories_to, directory_no_whiteout, directory_used, entries_of-copied_content, entry_at, hides, is_directory_node, is_in_upper, is_some-node_with_entry, last_or, led, led-append, line_to, node_led, node_other, node_with_entry, none_from_not_some, none_is_some, nothing_is_no_object, number_at_path, part-changed_node, real_object, same_Some, shown, then_some, upper_object, upper_of, with_inode, without_last}
use Rattle.vt_laws_trees.specs.Layers.Layers.ChangesUpper.{StandsInUpper}
use Rattle.vt_laws_trees.specs.Layers.Layers.Views.{names_entry, view_in}
use Rattle.vt_laws_trees.proofs.layers.layers.ShownDirectories.{append_assoc, last_of, led_is_there}
use Rattle.vt_laws_trees.proofs.layers.layers.ShownNames.{last_name}
use Rattle.vt_laws_trees.proofs.layers.layers.ShownPaths.{last_of_longer, length_longer, not_empty, one_path}
use Rattle.vt_laws_trees.proofs.layers.layers.UpperLine.{has_entries, is_reached_in, named_so}
use Rattle.vt_laws_trees.proofs.layers.layers.UpperShown.{without_last_of_longer, has_a_name, way_to}
use Rattle.vt_laws_trees.proofs.layers.views.Lower.{is_named}
use Rattle.vt_laws_trees.proofs.layers.views.Fronts.{prefixes_agree, hides_so, hiding_alike}
use Rattle.vt_laws_trees.proofs.layers.views.Moves.{led_parts}
use Rattle.vt_laws_trees.proofs.layers.views.Names.{make_adds_inode, make_adds_path}
use Rattle.vt_laws_trees.specs.Overlays.WhatIsShown.{IsWhole, inode_behind, layers_under}
use Rattle.vt_laws_trees.proofs.overlays.steps.WholeAttributes.{upper_real}
use Rattle.vt_laws_trees.proofs.overlays.steps.WholeLines.{IsLineCopied, object_copied, stands_copied, to_object}
use Rattle.vt_laws_trees.proofs.overlays.steps.WholeNames.{above_named, directory_stands, entry_named_so, named_above}
use Rattle.vt_laws_worlds.specs.Merging.UpperChanges.{copied_at, copied_to, copy_node, copy_over, led_above, node_seen, object_above}
use Rattle.vt_laws_worlds.proofs.merging.upper.Copying.{copied_after, copied_longer, directories_count, led_none, led_stands, none_copied, one_is_copied, reached_at, same_seen, stays}

-- What copies of the fronts of a path leave: numbers that are still new, what other paths lead to, and what the
-- fronts lead to.
pub record Copies (fresh : Fresh ℕ) (stack : Stack ℕ) (upper : FileTree ℕ) (path : List (List ℕ))
    (later : FileTree ℕ) : Type 0 where
  pub vacant : (j : ℕ) → length path < j → later.tree.node (fresh j) ≡ None
  pub others : (other : List (List ℕ)) → ((rest : List (List ℕ)) → other ++ rest ≢ path)
      → led_above stack later other ≡ led_above stack upper other
  pub on : (front rest : List (List ℕ)) → front ++ rest ≡ path
      → led_above stack later front ≡ Some (unwrap_or (led_above stack upper front) (fresh (length front)))

longer_by : (a b : List (List ℕ)) → length (a ++ b) ≡ length a + length b
longer_by [] b = let h : length b ≡ 0 + length b = omega arith in h
longer_by (x ∷ a) b = let rest = longer_by a b in let h : suc (length (a ++ b)) ≡ suc (length a) + length b = omega
    (arith, rest) in h

-- fronts of a path that the upper layer leads along lead there
led_front : (tree : Rattle.vt_spec.specs.Tree.Tree ℕ) (front rest : List (List ℕ)) (from : ℕ)
    → is_some (led tree from (front ++ rest)) ≡ true → is_some (led tree from front) ≡ true
led_front tree [] rest from e = refl
led_front tree (word ∷ front) rest from e = by _ (λ next. led_front tree front rest next) e
  where
    by : (o : Option ℕ) → ((next : ℕ) → is_some (led tree next (front ++ rest)) ≡ true
        → is_some (led tree next front) ≡ true)
        → is_some (option_and_then (λ next. led tree next (front ++ rest)) o) ≡ true
        → is_some (option_and_then (λ next. led tree next front) o) ≡ true
    by None on e = e
    by (Some next) on e = on next e

-- where nothing is copied
none_changes : (fresh : Fresh ℕ) (stack : Stack ℕ) (upper : FileTree ℕ) (path : List (List ℕ))
    → ((k : ℕ) → upper.tree.node (fresh k) ≡ None)
    → is_some (led_above stack upper path) ≡ true → Copies fresh stack upper path upper
none_changes fresh stack upper path unused has = record {
  vacant = λ j h. unused j;
  others = λ other out. refl;
  on = λ front rest is. by front (led_above stack upper front)
      (led_front upper.tree front rest stack.directory (ap (λ p. is_some (led_above stack upper p)) is ∙ has));
}
  where
    by : (front : List (List ℕ)) (o : Option ℕ) → is_some o ≡ true → o ≡ Some (unwrap_or o (fresh (length front)))
    by front None e = cc
    by front (Some u) e = refl

-- One copy more
module _ (fresh : Fresh ℕ) (distinct : (j k : ℕ) → fresh j ≡ fresh k → j ≡ k) (stack : Stack ℕ)
    (upper before : FileTree ℕ) (tree : IsTree before.tree)
    (front : List (List ℕ)) (name : List ℕ) (parent : ℕ) (node : Node ℕ)
    (copies : Copies fresh stack upper front before)
    (leads : led_above stack before front ≡ Some parent) (directory : IsDirectory before.tree parent)
    (free : led_above stack upper (front ++ name ∷ []) ≡ None) where
  abbrev path : List (List ℕ)
  path = front ++ name ∷ []

  abbrev copy : ℕ
  copy = fresh (length path)

  abbrev one_more : FileTree ℕ
  one_more = changed nat_eq before (Make parent name copy (copy_node parent node))

  longer : length path ≡ suc (length front)
  longer = length_longer front name

  not_front : (rest : List (List ℕ)) → path ++ rest ≢ front
  not_front rest e = let all = sym (longer_by path rest) ∙ ap length e in let no : ⊥ = omega (arith, longer, all) in no

  no_entry : entry_at before.tree parent name ≡ None
  no_entry = cc (last_name before.tree stack.directory front name, copies.others path not_front)

  leads_now : (other : List (List ℕ)) → led_above stack one_more other
      ≡ cond (names_entry (view_in before stack.directory) parent name other) (Some copy) (led_above stack before other)
  leads_now = make_adds_path before stack.directory parent copy name (copy_node parent node)
      (record { in_directory = directory; bare = λ replaced e. none_is_some replaced (sym no_entry ∙ e) })
      (copies.vacant (length path) (omega (arith, longer))) (entries_of-copied_content parent node.content)

  -- the entry is that of the path alone
  entry_only : (other : List (List ℕ)) → names_entry (view_in before stack.directory) parent name other ≡ true
      → other ≡ path
  entry_only other e =
      let named = is_named before _ parent name other e in
      cc (one_path before.tree tree stack.directory named.0 front parent named.2 leads directory)

  other_leads : (other : List (List ℕ)) → other ≢ path → led_above stack one_more other ≡ led_above stack before other
  other_leads other differs = grind (arith, common_steps, entry_only, leads_now)

  here : led_above stack one_more path ≡ Some copy
  here = cc (leads_now path, entry_named_so before stack.directory parent name front leads)

  still_new : (j : ℕ) → length path < j → one_more.tree.node (fresh j) ≡ None
  still_new j h = none_from_not_some _ (cc (
    part-changed_node is_some (with_inode nat_eq before copy (copy_node parent node)) parent
        (node_with_entry name copy) (is_some-node_with_entry name copy) (fresh j),
    node_other before.tree copy (Some (copy_node parent node)) (fresh j) (λ e. let same = distinct j (length path) e
        in let no : ⊥ = omega (arith, same, h) in no),
    copies.vacant j (omega (arith, longer, h)),
  ))

  -- and where its path is no front nothing else is cut
  pub cut_elsewhere : IsDirectory before.tree stack.directory → (other : List (List ℕ))
      → ((rest : List (List ℕ)) → path ++ rest ≢ other)
      → cuts (view_in one_more stack.directory) other ≡ cuts (view_in before stack.directory) other
  cut_elsewhere top other out = prefixes_agree (λ f. hides (node_led (view_in before stack.directory) f))
      (λ f. hides (node_led (view_in one_more stack.directory) f)) other
      (λ f is. at f (λ same. out is.0 (ap (λ p. p ++ is.0) (sym same) ∙ is.1)))
    where
      vacant : before.tree.node copy ≡ None
      vacant = copies.vacant (length path) (omega (arith, longer))

      by : (f : List (List ℕ)) (o : Option ℕ) → led_above stack before f ≡ o
          → hides (then_some o one_more.tree.node) ≡ hides (then_some o before.tree.node)
      by f None e = refl
      by f (Some u) e =
          let used = led_is_there (record { tree = before.tree; directory = stack.directory }) tree top f u e in
          hiding_alike (before.tree.node u) (one_more.tree.node u)
          (hides_so _ _ ((make_adds_inode before stack.directory parent copy name
          (copy_node parent node) directory vacant).1 u
          (λ same. true≢false (sym used ∙ ap (λ n. is_some (before.tree.node n)) same ∙ ap is_some vacant))))

      at : (f : List (List ℕ)) → f ≢ path
          → hides (node_led (view_in one_more stack.directory) f) ≡ hides (node_led (view_in before stack.directory) f)
      at f differs = cc (other_leads f differs, by f (led_above stack before f) refl)

  on_front : (other rest : List (List ℕ)) → other ++ rest ≡ path
      → led_above stack one_more other ≡ Some (unwrap_or (led_above stack upper other) (fresh (length other)))
  on_front other [] is =
      let same : other ≡ path = sym (append-nil other) ∙ is in
      ap (led_above stack one_more) same ∙ here
      ∙ sym (ap (λ p. Some (unwrap_or (led_above stack upper p) (fresh (length p)))) same
      ∙ ap (λ o. Some (unwrap_or o copy)) free)
  on_front other (word ∷ rest) is =
      let last = last_of (word ∷ rest) (not_empty word rest) in
      let split : (other ++ last.0) ++ last.1 ∷ [] ≡ path = append_assoc other last.0 (last.1 ∷ [])
      ∙ ap (λ r. other ++ r) last.2 ∙ is in
      let before_is : other ++ last.0 ≡ front = sym (without_last_of_longer (other ++ last.0) last.1)
      ∙ ap without_last split ∙ without_last_of_longer front name in
      other_leads other (λ same. let all = sym (longer_by other (word ∷ rest))
      ∙ ap length (is ∙ sym same) in let no : ⊥ = omega (arith, all) in no) ∙ copies.on other last.0 before_is

  pub one_more_copies : Copies fresh stack upper path one_more
  one_more_copies = record {
    vacant = still_new;
    others = λ other out. other_leads other (λ same. out [] (ap (λ p. p ++ []) same ∙ append-nil path))
        ∙ copies.others other (λ rest e. out (rest ++ name ∷ [])
        (sym (append_assoc other rest (name ∷ [])) ∙ ap (λ p. p ++ name ∷ []) e));
    on = on_front;
  }

-- an object that lies only below has the one path
module _ (stack : Stack ℕ) (merge : Merge ℕ) (whole : IsWhole stack merge) (object : ℕ)
    (low : is_in_upper merge object ≡ false) where
  below_is : (path : List (List ℕ)) → is_some (merge.files.tree.node object) ≡ true
      → number_at_path merge.files path ≡ Some object → (layer : ℕ) × (merge.real object ≡ Some (Lower layer path))
  below_is path there leads = by _ refl
    where
      no_real : (o : Option (Real ℕ)) → merge.real object ≡ o → o ≡ None → ⊥
      no_real None e n = nothing_is_no_object _ there (subst (λ o. SameObject (merge.files.tree.node object)
          (then_some o (inode_behind stack merge))) e (whole.shown.real_objects object))
      no_real (Some r) e n = cc

      at : (layer found : ℕ) → merge.real object ≡ Some
          (real_object true layer (record { path = path; seen = record { layer = layer; object = found } }))
          → (depth : ℕ) × (merge.real object ≡ Some (Lower depth path))
      at zero found e = cc
      at (suc layer) found e = (layer, e)

      by : (o : Option (Shown ℕ)) → shown (layers_under stack merge) path ≡ o
          → (layer : ℕ) × (merge.real object ≡ Some (Lower layer path))
      by None e = absurd (no_real _ refl (cc (whole.shown.names path object leads)))
      by (Some seen) e = at seen.layer seen.object (cc (whole.shown.names path object leads))

  pub one_way : (path other : List (List ℕ)) → is_some (merge.files.tree.node object) ≡ true
      → number_at_path merge.files path ≡ Some object → number_at_path merge.files other ≡ Some object → path ≡ other
  one_way path other there leads other_leads =
      grind (arith, common_steps, leads, other_leads, here, below_is, same_Some)

-- An object at a path is copied with what is shown at its fronts.
module _ (fresh : Fresh ℕ) (distinct : (j k : ℕ) → fresh j ≡ fresh k → j ≡ k) (stack : Stack ℕ) (merge : Merge ℕ)
    (whole : IsWhole stack merge) (unused : (k : ℕ) → merge.upper.tree.node (fresh k) ≡ None) where
  abbrev at : List (List ℕ) → Option ℕ
  at path = number_at_path merge.files path

  pub record IsCopiedTo (path : List (List ℕ)) (object : ℕ) : Type 0 where
    pub is : (copied_up nat_eq fresh merge object).upper ≡ copied_to fresh stack merge.upper path
    pub copies : Copies fresh stack merge.upper path (copied_up nat_eq fresh merge object).upper
    -- what is at no front keeps its real object
    pub else : (number : ℕ) → ((front rest : List (List ℕ)) → front ++ rest ≡ path → at front ≢ Some number)
        → (copied_up nat_eq fresh merge object).real number ≡ merge.real number

  stands_copied_to : (path : List (List ℕ)) (object : ℕ) → is_some (merge.files.tree.node object) ≡ true
      → at path ≡ Some object → StandsInUpper merge object → IsCopiedTo path object
  stands_copied_to path object there leads stands =
      let has = ap is_some (led_stands fresh whole object there path leads stands) in
      let same = stays fresh stack merge whole object stands in
      record {
        is = cc (none_copied fresh stack merge.upper (length path) path refl has);
        else = λ number out. cc;
        copies = subst (λ m. Copies fresh stack merge.upper path m.upper) (sym same)
            (none_changes fresh stack _ path unused has);
      }

  -- what lies only below is copied after the directory that has its name
  module _ (front : List (List ℕ)) (name : List ℕ) (parent object : ℕ) (above : at front ≡ Some parent)
      (entry : entry_at merge.files.tree parent name ≡ Some object)
      (there : is_some (merge.files.tree.node object) ≡ true) (low : is_in_upper merge object ≡ false)
      (before : IsCopiedTo front parent) where
    leads : at (front ++ name ∷ []) ≡ Some object
    leads = cc (last_name merge.files.tree merge.files.tree.root front name)

    parent_there : is_some (merge.files.tree.node parent) ≡ true
    parent_there = directory_used merge.files.tree parent (has_entries merge.files.tree parent name object entry)

    abbrev m : Merge ℕ
    m = copied_up nat_eq fresh merge parent

    line : IsLineCopied stack fresh merge m (line_to nat_eq merge.files parent)
    line = object_copied stack fresh distinct merge parent whole unused parent_there

    stands : StandsInUpper m parent
    stands = stands_copied stack fresh distinct merge parent whole unused parent_there

    above_now : number_at_path m.files front ≡ Some parent
    above_now = cc (line.copied.files, above)

    leads_later : number_at_path m.files (front ++ name ∷ []) ≡ Some object
    leads_later = cc (line.copied.files, leads)

    there_now : is_some (m.files.tree.node object) ≡ true
    there_now = cc (line.copied.files, there)

    -- its name is the last of the path
    name_is : a_name nat_eq merge.files object ≡ Some (parent, name)
    name_is = by (a_name nat_eq merge.files object) refl
      where
        at_name : (other : ℕ × List ℕ) → a_name nat_eq merge.files object ≡ Some other → other ≡ (parent, name)
        at_name other e =
            let found = named_so merge.files whole.tree object other e in
            let reached = is_reached_in merge.files whole.tree other.0 other.1 object found in
            let way = way_to merge.files.tree reached.0 other.0 reached.1 in
            let other_leads = led-append merge.files.tree merge.files.tree.root way.0 other.1 other.0 object way.1
            found in
            let same = one_way stack merge whole object low (way.0 ++ other.1 ∷ [])
            (front ++ name ∷ []) there other_leads leads in
            let prefixes_same = sym (without_last_of_longer way.0 other.1) ∙ ap without_last same
            ∙ without_last_of_longer front name in
            let names_same = sym (last_of_longer way.0 other.1 []) ∙ ap (last_or []) same
            ∙ last_of_longer front name [] in
            let parents_same = same_Some other.0 parent (sym way.1 ∙ ap at prefixes_same ∙ above) in
            λ i. (parents_same i, names_same i)

        by : (o : Option (ℕ × List ℕ)) → a_name nat_eq merge.files object ≡ o → o ≡ Some (parent, name)
        by None e = absurd (cc (has_a_name merge.files whole.numbers parent name object entry))
        by (Some other) e = ap Some (at_name other e)

    count : length (directories_to nat_eq merge.files parent) ≡ length (front ++ name ∷ [])
    count = directories_count merge.files whole.tree whole.numbers (length front) parent
        (reached_at merge.files whole.tree whole.numbers (length front) front parent refl above
        (has_entries merge.files.tree parent name object entry)) ∙ sym (length_longer front name)

    one_copied : (copied_up nat_eq fresh merge object).upper ≡ copied_at fresh stack m.upper (front ++ name ∷ [])
    one_copied = ap (λ n. n.upper) (copied_after fresh stack merge whole object (parent, name) name_is)
        ∙ ap (λ k. (copy_of nat_eq m object (fresh k) (m.files.tree.node object) (is_in_upper m object)).upper) count
        ∙ one_is_copied fresh stack m line.copied.whole front name parent object above_now leads_later there_now stands
        (λ lies. ap (λ files. a_name nat_eq files object) line.copied.files ∙ name_is)

    free : led_above stack merge.upper (front ++ name ∷ []) ≡ None
    free = led_none fresh whole object there _ leads low

    still_free : led_above stack m.upper (front ++ name ∷ []) ≡ None
    still_free = before.copies.others (front ++ name ∷ [])
        (λ rest e. let all = sym (longer_by (front ++ name ∷ []) rest)
        ∙ ap length e in let more = length_longer front name in let no : ⊥ = omega (arith, more, all) in no) ∙ free

    up : led_above stack m.upper front ≡ Some (upper_of m parent)
    up = named_above stack m line.copied.whole front parent (upper_of m parent) above_now (upper_real m parent stands)

    above_is : object_above stack m.upper (without_last (front ++ name ∷ [])) ≡ upper_of m parent
    above_is = cc (without_last_of_longer front name, up)

    up_directory : IsDirectory m.upper.tree (upper_of m parent)
    up_directory = directory_stands stack m line.copied.whole parent (upper_of m parent) (upper_real m parent stands)
        ∙ ap (λ files. is_directory_node (files.tree.node parent)) line.copied.files
        ∙ has_entries merge.files.tree parent name object entry

    -- so it is one copy more
    is_made : (node : Node ℕ) × (copied_at fresh stack m.upper (front ++ name ∷ [])
        ≡ changed nat_eq m.upper (Make (upper_of m parent) name (fresh (length (front ++ name ∷ [])))
        (copy_node (upper_of m parent) node)))
    is_made = by (node_seen stack m.upper (front ++ name ∷ []))
        (same_seen fresh line.copied.whole object there_now (front ++ name ∷ []) leads_later) refl
      where
        by : (o : Option (Node ℕ)) → SameObject (m.files.tree.node object) o
            → node_seen stack m.upper (front ++ name ∷ []) ≡ o
            → (node : Node ℕ) × (copied_at fresh stack m.upper (front ++ name ∷ [])
            ≡ changed nat_eq m.upper (Make (upper_of m parent) name (fresh (length (front ++ name ∷ [])))
            (copy_node (upper_of m parent) node)))
        by None same e = absurd (nothing_is_no_object (m.files.tree.node object) there_now same)
        by (Some node) same e = (
          node,
          ap (λ o. copy_over fresh stack m.upper (front ++ name ∷ []) o
              (node_seen stack m.upper (front ++ name ∷ []))) still_free
              ∙ ap (copy_over fresh stack m.upper (front ++ name ∷ []) None) e
              ∙ (λ i. changed nat_eq m.upper (Make (above_is i) (last_of_longer front name [] i)
              (fresh (length (front ++ name ∷ []))) (copy_node (above_is i) node))),
        )

    top_is : IsTree m.upper.tree × IsDirectory m.upper.tree stack.directory
    top_is = line.copied.whole.layers 0 _ refl

    copies_now : Copies fresh stack merge.upper (front ++ name ∷ [])
        (copied_at fresh stack m.upper (front ++ name ∷ []))
    copies_now = subst (Copies fresh stack merge.upper (front ++ name ∷ [])) (sym is_made.1)
        (one_more_copies fresh distinct stack merge.upper m.upper top_is.0 front name
        (upper_of m parent) is_made.0 before.copies up up_directory free)

    -- a copy cuts no path that does not go through its own
    pub low_cuts : (other : List (List ℕ)) → ((rest : List (List ℕ)) → (front ++ name ∷ []) ++ rest ≢ other)
        → cuts (view_in (copied_up nat_eq fresh merge object).upper stack.directory) other ≡ cuts
        (view_in merge.upper stack.directory) other
    low_cuts other out =
        let good = to_object merge.files whole.tree whole.numbers parent parent_there in
        ap (λ u. cuts (view_in u stack.directory) other) (one_copied ∙ is_made.1)
        ∙ cut_elsewhere fresh distinct stack merge.upper m.upper top_is.0 front name
        (upper_of m parent) is_made.0 before.copies up up_directory free top_is.1 other out
        ∙ line.cut (good.directories (has_entries merge.files.tree parent name object entry)) other

    -- the copy is the object's alone
    real_later : (number : ℕ) → number ≢ object → (copied_up nat_eq fresh merge object).real number ≡ m.real number
    real_later number other = cc (
      copied_after fresh stack merge whole object (parent, name) name_is,
      by (m.files.tree.node object) (is_in_upper m object),
    )
      where
        by : (o : Option (Node ℕ)) (b : Bool)
            → (copy_of nat_eq m object (fresh (length (directories_to nat_eq merge.files parent))) o b).real number
            ≡ m.real number
        by None b = refl
        by (Some node) true = refl
        by (Some node) false = cc (ne_eqb number object other)

    real_else : (number : ℕ) → ((way rest : List (List ℕ)) → way ++ rest ≡ front ++ name ∷ [] → at way ≢ Some number)
        → (copied_up nat_eq fresh merge object).real number ≡ merge.real number
    real_else number out = real_later number (λ same. out (front ++ name ∷ []) [] (append-nil (front ++ name ∷ []))
        (leads ∙ ap Some (sym same))) ∙ before.else number (λ way rest is. out way (rest ++ name ∷ [])
        (sym (append_assoc way rest (name ∷ [])) ∙ ap (λ p. p ++ name ∷ []) is))

    pub low_copied_to : IsCopiedTo (front ++ name ∷ []) object
    low_copied_to = record {
      else = real_else;
      is = one_copied ∙ ap (λ u. copied_at fresh stack u (front ++ name ∷ [])) before.is
          ∙ sym (copied_longer fresh stack merge.upper front name);
      copies = subst (Copies fresh stack merge.upper (front ++ name ∷ [])) (sym one_copied) copies_now;
    }

  root_stands : (object : ℕ) → at [] ≡ Some object → StandsInUpper merge object
  root_stands object leads =
      let found = above_named stack merge whole [] stack.directory refl
      (directory_no_whiteout (merge.upper.tree.node stack.directory) (whole.layers 0 _ refl).1) in
      subst (StandsInUpper merge) (same_Some found.0 object (sym found.1 ∙ leads))
      (ap (λ r. is_some (upper_object r)) found.2)

  pub copied_along : (steps : ℕ) (path : List (List ℕ)) (object : ℕ) → length path ≡ steps
      → is_some (merge.files.tree.node object) ≡ true → at path ≡ Some object → IsCopiedTo path object
  copied_along steps [] object n there leads = stands_copied_to [] object there leads (root_stands object leads)
  copied_along zero (word ∷ path) object n there leads = absurd (let no : ⊥ = omega (arith, n) in no)
  copied_along (suc steps) (word ∷ path) object n there leads =
      let last = last_of (word ∷ path) (not_empty word path) in
      subst (λ p. IsCopiedTo p object) last.2 (by last.0 last.1 (ap at last.2 ∙ leads)
      (let same = sym (length_longer last.0 last.1) ∙ ap length last.2 in omega (arith, same, n))
      (is_in_upper merge object) refl (at last.0) refl
      (sym (last_name merge.files.tree merge.files.tree.root last.0 last.1) ∙ ap at last.2 ∙ leads)
      (copied_along steps))
    where
      by : (front : List (List ℕ)) (name : List ℕ) → at (front ++ name ∷ []) ≡ Some object → length front ≡ steps
          → (b : Bool) → is_in_upper merge object ≡ b → (o : Option ℕ) → at front ≡ o
          → option_and_then (λ d. entry_at merge.files.tree d name) o ≡ Some object
          → ((path : List (List ℕ)) (object : ℕ) → length path ≡ steps
          → is_some (merge.files.tree.node object) ≡ true → at path ≡ Some object → IsCopiedTo path object)
          → IsCopiedTo (front ++ name ∷ []) object
      by front name l k true low o e f before = stands_copied_to (front ++ name ∷ []) object there l low
      by front name l k false low None e f before = none_is_some object f
      by front name l k false low (Some parent) e f before = low_copied_to front name parent object e f there low
          (before front parent k (directory_used merge.files.tree parent
          (has_entries merge.files.tree parent name object f)) e)

  -- Copies of what a path leads to cut no path to a directory that was not cut.
  pub cuts_stay : (path : List (List ℕ)) (object : ℕ) → is_some (merge.files.tree.node object) ≡ true
      → at path ≡ Some object
      → (other : List (List ℕ)) (directory : ℕ) → at other ≡ Some directory → IsDirectory merge.files.tree directory
      → cuts (view_in (copied_up nat_eq fresh merge object).upper stack.directory) other ≡ cuts
      (view_in merge.upper stack.directory) other
  cuts_stay path object there leads other directory other_leads is_directory =
      by (is_directory_node (merge.files.tree.node object)) refl (is_in_upper merge object) refl path refl
    where
      not_through : is_directory_node (merge.files.tree.node object) ≡ false → (rest : List (List ℕ))
          → path ++ rest ≢ other
      not_through file [] e =
          let same = same_Some object directory
          (sym (led_parts merge.files.tree path [] merge.files.tree.root object leads) ∙ ap at e ∙ other_leads) in
          true≢false (sym is_directory ∙ ap (λ n. is_directory_node (merge.files.tree.node n)) (sym same) ∙ file)
      not_through file (word ∷ rest) e = entry (entry_at merge.files.tree object word) refl
          (sym (led_parts merge.files.tree path (word ∷ rest) merge.files.tree.root object leads) ∙ ap at e
          ∙ other_leads)
        where
          entry : (o : Option ℕ) → entry_at merge.files.tree object word ≡ o
              → option_and_then (λ next. led merge.files.tree next rest) o ≡ Some directory → ⊥
          entry None f l = none_is_some directory l
          entry (Some next) f l = true≢false (sym (has_entries merge.files.tree object word next f) ∙ file)

      low : is_directory_node (merge.files.tree.node object) ≡ false → is_in_upper merge object ≡ false
          → (front : List (List ℕ)) (name : List ℕ) → front ++ name ∷ [] ≡ path
          → (o : Option ℕ) → at front ≡ o → option_and_then (λ d. entry_at merge.files.tree d name) o ≡ Some object
          → cuts (view_in (copied_up nat_eq fresh merge object).upper stack.directory) other ≡ cuts
          (view_in merge.upper stack.directory) other
      low file lies front name split None e f = none_is_some object f
      low file lies front name split (Some parent) e f = low_cuts front name parent object e f there lies
          (copied_along (length front) front parent refl
          (directory_used merge.files.tree parent (has_entries merge.files.tree parent name object f)) e)
          other (λ rest same. not_through file rest (ap (λ p. p ++ rest) (sym split) ∙ same))

      by : (d : Bool) → is_directory_node (merge.files.tree.node object) ≡ d → (b : Bool)
          → is_in_upper merge object ≡ b → (way : List (List ℕ)) → path ≡ way
          → cuts (view_in (copied_up nat_eq fresh merge object).upper stack.directory) other ≡ cuts
          (view_in merge.upper stack.directory) other
      by true d b u way e = (object_copied stack fresh distinct merge object whole unused there).cut
          ((to_object merge.files whole.tree whole.numbers object there).directories d) other
      by false d true u way e = ap (λ n. cuts (view_in n.upper stack.directory) other)
          (stays fresh stack merge whole object u)
      by false d false u [] e = absurd (cc (root_stands object (sym (ap at e) ∙ leads)))
      by false d false u (word ∷ way) e =
          let last = last_of (word ∷ way) (not_empty word way) in
          low d u last.0 last.1 (last.2 ∙ sym e) (at last.0) refl
          (sym (last_name merge.files.tree merge.files.tree.root last.0 last.1) ∙ ap at (last.2 ∙ sym e) ∙ leads)
