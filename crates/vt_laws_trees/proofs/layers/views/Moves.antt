-- A move on the view of a layer.
use Rattle.std.proofs.Common.{◌≡◌, ◌≢◌, ◌≤◌, refl, sym, ap, subst, ◌∙◌, true≢false, eq-eqb, arith, ℕ, suc, nat_eq, true, false, cond, List, [], ◌∷◌, ◌++◌, Option, Some, None, option_and_then}
use Rattle.vt_spec.proofs.Common.{FileTree, IsDirectory, IsTree, Tree, bytes_decides, common_steps, entries-node_with_parent, entries-without_parent, entries_in, entry_at, entry_named, led, node_with_parent, none_is_some, part-changed_node, same_Some, with_moved, with_name, without_name, without_parent}
use Rattle.vt_laws_trees.specs.Layers.Layers.Views.{MovedLeadsOn, NewLeadsAsOld, OldLeadsNowhere, ThroughIsSplit}
use Rattle.vt_laws_trees.proofs.layers.layers.CopyingParts.{parent_keeps, without_entry_keeps}
use Rattle.vt_laws_trees.proofs.layers.layers.UpperChain.{one_depth}
use Rattle.vt_laws_trees.proofs.layers.layers.UpperLine.{ReachedIn, has_entries, is_reached_in}
use Rattle.vt_laws_trees.proofs.layers.views.Entries.{entries_stay, given, is_entry, taken}
use Rattle.vt_laws_trees.proofs.layers.views.Names.{no_entries}
use Rattle.vt_laws_trees.proofs.layers.views.Walks.{goes_through_it, passes, split}
use Rattle.vt_spec.proofs.Trees.{found}

pub through_is_split : ThroughIsSplit
through_is_split files top directory name path e =
    split files.tree directory name path top (sym (goes_through_it files.tree directory name path top) ∙ e)

-- a path in two parts
pub led_parts : (tree : Tree ℕ) (way : List (List ℕ)) (rest : List (List ℕ)) (start middle : ℕ)
    → led tree start way ≡ Some middle → led tree start (way ++ rest) ≡ led tree middle rest
led_parts tree [] rest start middle e = ap (λ d. led tree d rest) (same_Some start middle e)
led_parts tree (word ∷ way) rest start middle e =
    let next = found (λ next. led tree next way) (entry_at tree start word) middle e in
    ap (option_and_then (λ next. led tree next (way ++ rest))) next.1 ∙ led_parts tree way rest next.0 middle next.2

-- No names lead from an object up to a directory that has it

-- the steps behind so many names
abbrev after_steps : List (List ℕ) → ℕ → ℕ
after_steps [] steps = steps
after_steps (name ∷ names) steps = after_steps names (suc steps)

more_steps : (names : List (List ℕ)) (steps : ℕ) → steps ≤ after_steps names steps
more_steps [] steps = omega arith
more_steps (name ∷ names) steps = let h = more_steps names (suc steps) in omega arith

leads_to_directory : (tree : Tree ℕ) (names : List (List ℕ)) (next to : ℕ) → led tree next names ≡ Some to
    → IsDirectory tree to → IsDirectory tree next
leads_to_directory tree [] next to e d = subst (IsDirectory tree) (sym (same_Some next to e)) d
leads_to_directory tree (name ∷ names) next to e d = grind (arith, common_steps, none_is_some, has_entries)

steps_on : (tree : Tree ℕ) (names : List (List ℕ)) (steps from to : ℕ) → ReachedIn tree steps from
    → led tree from names ≡ Some to → IsDirectory tree to → ReachedIn tree (after_steps names steps) to
steps_on tree [] steps from to r e d = subst (ReachedIn tree steps) (same_Some from to e) r
steps_on tree (name ∷ names) steps from to r e d =
    let next = found (λ next. led tree next names) (entry_at tree from name) to e in
    let there = leads_to_directory tree names next.0 to next.2 d in
    steps_on tree names (suc steps) next.0 to (from, name, r, next.1, there) next.2 d

pub no_way_up : (files : FileTree ℕ) → IsTree files.tree → (from : ℕ) (old : List ℕ) (object : ℕ)
    → entry_at files.tree from old ≡ Some object → (names : List (List ℕ)) → led files.tree object names ≢ Some from
no_way_up files tree from old object named names e =
    let d = has_entries files.tree from old object named in
    let reached = is_reached_in files tree from old object named in
    let again = steps_on files.tree (old ∷ names) reached.0 from from reached.1 (cc) d in
    let same : after_steps (old ∷ names) reached.0
    ≡ reached.0 = one_depth files tree (after_steps (old ∷ names) reached.0) reached.0 from again reached.1 in
    let more : suc reached.0 ≤ after_steps (old ∷ names) reached.0 = more_steps names (suc reached.0) in
    let no : ⊥ = omega arith in no

-- Two trees, of which the one has an object under another name

module _ (before after : Tree ℕ) (from : ℕ) (old : List ℕ) (to : ℕ) (new : List ℕ) (object : ℕ)
    (told : (other : ℕ) (word : List ℕ) → entry_at after other word ≡ cond (is_entry to new other word) (Some object)
    (cond (is_entry from old other word) None (entry_at before other word))) where
  pub others_led : (path : List (List ℕ)) (start : ℕ) → passes before to new start path ≡ false
      → led after start path ≡ cond (passes before from old start path) None (led before start path)
  others_led [] start e = refl
  others_led (word ∷ rest) start e = grind (arith, common_steps, others_led rest, true≢false)

  module _ (named : entry_at before from old ≡ Some object)
      (not_under : (names : List (List ℕ)) → led before object names ≢ Some to)
      (not_up : (names : List (List ℕ)) → led before object names ≢ Some from)
      (replaced : (k : ℕ) → entry_at before to new ≡ Some k → entries_in (before.node k) ≡ []) where
    passes_not : (directory : ℕ) (name : List ℕ) (start : ℕ) (path : List (List ℕ))
        → ((way rest : List (List ℕ)) → way ++ name ∷ rest ≡ path → led before start way ≡ Some directory → ⊥)
        → passes before directory name start path ≡ false
    passes_not directory name start path none = grind (arith, common_steps, split)

    -- what lies under the object goes through neither name
    object_led : (path : List (List ℕ)) → led after object path ≡ led before object path
    object_led path = others_led path object (passes_not to new object path (λ way rest is l. not_under way l))
        ∙ ap (λ b. cond b None (led before object path))
        (passes_not from old object path (λ way rest is l. not_up way l))

    -- nothing leads on over what is replaced
    stops_there : (o : Option ℕ) → entry_at before to new ≡ o → (rest : List (List ℕ))
        → option_and_then (λ next. led before next rest) o ≡ Some to → ⊥
    stops_there None e rest l = none_is_some to l
    stops_there (Some k) e [] l = grind (arith, common_steps, none_is_some, no_entries, same_Some)
    stops_there (Some k) e (word ∷ rest) l = grind (arith, common_steps, none_is_some, no_entries)

    -- nor does a way to the new name's directory
    way_led : (way : List (List ℕ)) (start : ℕ) → led before start way ≡ Some to → led after start way ≡ Some to
    way_led way start e = others_led way start (passes_not to new start way (λ first rest is l. stops_there _
        refl rest (sym (led_parts before first (new ∷ rest) start to l) ∙ ap (led before start) is ∙ e)))
        ∙ ap (λ b. cond b None (led before start way)) (passes_not from old
        start way (λ first rest is l. not_under rest (sym (ap (option_and_then (λ next. led before next rest)) named)
        ∙ sym (led_parts before first (old ∷ rest) start from l) ∙ ap (led before start) is ∙ e))) ∙ e

    pub moved_led : (way rest : List (List ℕ)) (start : ℕ) → led before start way ≡ Some to
        → led after start (way ++ new ∷ rest) ≡ led before object rest
    moved_led way rest start e =
        cc (led_parts after way (new ∷ rest) start to (way_led way start e), told to new, itself, object_led rest)
      where
        itself : is_entry to new to new ≡ true
        itself = cc (eq-eqb to to refl, (bytes_decides new new).1 refl)

-- The moved tree

module _ (files : FileTree ℕ) (from : ℕ) (old : List ℕ) (to : ℕ) (new : List ℕ) (object : ℕ)
    (is : IsDirectory files.tree to) where
  still : (replaced : Option ℕ)
      → IsDirectory (without_name nat_eq (without_parent nat_eq files replaced) from old).tree to
  still replaced = grind (arith, common_steps, part-changed_node, without_entry_keeps, parent_keeps)

  pub move_told : (other : ℕ) (word : List ℕ)
      → entry_at (with_moved nat_eq files from old to new object).tree other word
      ≡ cond (is_entry to new other word) (Some object)
      (cond (is_entry from old other word) None (entry_at files.tree other word))
  move_told other word =
      let replaced = entry_named new (entries_in (files.tree.node to)) in
      let freed = without_parent nat_eq files replaced in
      let left = without_name nat_eq freed from old in
      ap (entry_named word) (entries_stay (with_name nat_eq left to new object) object (node_with_parent to)
      (entries-node_with_parent to) other) ∙ given left to new object (still replaced) other word
      ∙ ap (cond (is_entry to new other word) (Some object)) (taken freed from old other word
      ∙ ap (λ entries. cond (is_entry from old other word) None (entry_named word entries))
      (entries-without_parent files replaced other))

pub moved_leads_on : MovedLeadsOn
moved_leads_on files top from to object old new tree can way rest e =
    moved_led files.tree (with_moved nat_eq files from old to new object).tree from old to new object
    (move_told files from old to new object can.in_directory)
    can.named can.not_under (no_way_up files tree from old object can.named) can.replaced_empty way rest top e

pub new_leads_as_old : NewLeadsAsOld
new_leads_as_old files top from to object old new tree can old_way new_way rest e f =
    moved_leads_on files top from to object old new tree can new_way rest f
    ∙ sym (led_parts files.tree old_way (old ∷ rest) top from e
    ∙ ap (option_and_then (λ next. led files.tree next rest)) can.named)

pub old_leads_nowhere : OldLeadsNowhere
old_leads_nowhere files top from to object old new can path e =
    others_led files.tree (with_moved nat_eq files from old to new object).tree from old to new object
    (move_told files from old to new object can.in_directory) path top
    (sym (goes_through_it files.tree to new path top) ∙ e)
    ∙ ap (λ b. cond b None (led files.tree top path)) (sym (goes_through_it files.tree from old path top))
