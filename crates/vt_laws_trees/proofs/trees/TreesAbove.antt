-- The directories above a directory, one by one: a directory under another sees it above itself.
use Rattle.std.proofs.Common.{◌≡◌, ◌≢◌, refl, sym, ap, subst, ◌∙◌, true≢false, ℕ, zero, suc, ◌+◌, ◌-◌, ◌<◌, ◌≤◌, arith, nat_eq, eq-eqb, eqb-true, ne_eqb, Bool, true, false, cond, List, [], ◌∷◌, length, ◌||◌, ⊎_elim, Option, Some, None, option_and_then, unwrap_or}
use Rattle.vt_spec.proofs.Common.{AllByRecursion, FileTree, IsDirectory, IsReached, IsTree, Node, Tree, among_targets, cases_lt, chain, common_steps, directory_from_entry, directory_used, entries_in, entry_at, found, has_entry_to, is_among, is_directory_node, is_directory_under, led, named_parent, nat_eq_equiv, none_is_not, or_right, parent_in, same_Some, targets_in, when}
use Rattle.std.proofs.lemmas.Map.Made.{length-le_from_is_member}
use Rattle.std.specs.List.{IsDistinct}
use Rattle.vt_laws_trees.specs.Trees.{IsFileTree}

-- so many steps up
pub up : Tree ℕ → ℕ → Option ℕ → Option ℕ
up tree zero o = o
up tree (suc k) o = option_and_then (named_parent nat_eq tree) (up tree k o)

module _ (tree : Tree ℕ) where
  up_none : (k : ℕ) → up tree k None ≡ None
  unfolding up
  up_none zero = refl
  up_none (suc k) = ap (option_and_then (named_parent nat_eq tree)) (up_none k)

  up_plus : (k j : ℕ) (o : Option ℕ) → up tree (k + j) o ≡ up tree k (up tree j o)
  unfolding up
  up_plus zero j o = ap (λ n. up tree n o) (none j)
    where
      none : (a : ℕ) → 0 + a ≡ a
      none a = omega arith
  up_plus (suc k) j o = cc (later k j, up_plus k j o)
    where
      later : (a b : ℕ) → suc a + b ≡ suc (a + b)
      later a b = omega arith

  -- the first step first
  up_first : (k : ℕ) (o : Option ℕ) → up tree (suc k) o ≡ up tree k (option_and_then (named_parent nat_eq tree) o)
  unfolding up
  up_first zero o = refl
  up_first (suc k) o = ap (option_and_then (named_parent nat_eq tree)) (up_first k o)

  -- what has an entry to something is a directory
  entry_to_directory : (o : Option (Node ℕ)) (k : ℕ) → is_among nat_eq k (targets_in o) ≡ true
      → is_directory_node o ≡ true
  entry_to_directory o k h = grind (arith, common_steps, true≢false)

  parent_is_directory : (k d : ℕ) → named_parent nat_eq tree k ≡ Some d → IsDirectory tree d
  parent_is_directory k d e = grind (arith, common_steps, none_is_not, same_Some, entry_to_directory)

  root_above_none : named_parent nat_eq tree tree.root ≡ None
  root_above_none = ap (λ b. cond b None
      (when (has_entry_to nat_eq tree (parent_in tree.root (tree.node tree.root)) tree.root)
      (parent_in tree.root (tree.node tree.root)))) (eq-eqb tree.root tree.root refl)

  up_directory : (k : ℕ) (d e : ℕ) → IsDirectory tree d → up tree k (Some d) ≡ Some e → IsDirectory tree e
  unfolding up
  up_directory zero d e is h = subst (IsDirectory tree) (same_Some d e h) is
  up_directory (suc k) d e is h =
      let step = found (named_parent nat_eq tree) (up tree k (Some d)) e h in
      parent_is_directory step.0 e step.2

  -- what is up within so many steps is in the chain
  in_chain : (most k d e : ℕ) → k ≤ most → up tree k (Some d) ≡ Some e
      → is_among nat_eq e (chain most (named_parent nat_eq tree) d) ≡ true
  unfolding up
  in_chain zero zero d e le h = ap (λ b. b || false) (eq-eqb e d (sym (same_Some d e h)))
  in_chain zero (suc k) d e le h = absurd (omega arith)
  in_chain (suc most) zero d e le h = by (named_parent nat_eq tree d)
    where
      by : (o : Option ℕ) → is_among nat_eq e
          (elim o [ None ↦ d ∷ [] | Some b ↦ d ∷ chain most (named_parent nat_eq tree) b ]) ≡ true
      by None = ap (λ b. b || false) (eq-eqb e d (sym (same_Some d e h)))
      by (Some b) = ap (λ c. c || is_among nat_eq e (chain most (named_parent nat_eq tree) b))
          (eq-eqb e d (sym (same_Some d e h)))
  in_chain (suc most) (suc k) d e le h = by _ (sym (up_first k _) ∙ h) (λ b g. in_chain most k b e (omega arith) g)
    where
      by : (o : Option ℕ) → up tree k o ≡ Some e
          → ((b : ℕ) → up tree k (Some b) ≡ Some e → is_among nat_eq e (chain most (named_parent nat_eq tree) b) ≡ true)
          → is_among nat_eq e (elim o [ None ↦ d ∷ [] | Some b ↦ d ∷ chain most (named_parent nat_eq tree) b ]) ≡ true
      by None g rest = none_is_not None e refl (sym (up_none k) ∙ g)
      by (Some b) g rest = or_right (nat_eq e d) _ (rest b g)

module _ (tree : Tree ℕ) (conditions : IsTree tree) where
  -- the parent of a directory that has a name is the directory of the name
  pub parent_named : (directory : ℕ) (name : List ℕ) (number : ℕ) → entry_at tree directory name ≡ Some number
      → IsDirectory tree number → named_parent nat_eq tree number ≡ Some directory
  parent_named directory name number entry is = cc (
    ne_eqb number tree.root (λ root. conditions.root_unnamed directory name (entry ∙ ap Some root)),
    conditions.one_parent directory name number entry is,
    among_targets name (entries_in (tree.node directory)) number entry,
  )

  pub led_directory : (from : ℕ) (names : List (List ℕ)) (to : ℕ) → led tree from names ≡ Some to → IsDirectory tree to
      → IsDirectory tree from
  led_directory from [] to e is = subst (IsDirectory tree) (sym (same_Some from to e)) is
  led_directory from (name ∷ names) to e is =
      let step = found (λ next. led tree next names) (entry_at tree from name) to e in
      directory_from_entry name step.0 (tree.node from) step.1

  -- names that lead down lead up
  up_led : (from : ℕ) (names : List (List ℕ)) (to : ℕ) → led tree from names ≡ Some to → IsDirectory tree to
      → up tree (length names) (Some to) ≡ Some from
  unfolding up
  up_led from [] to e is = sym e
  up_led from (name ∷ names) to e is =
      let step = found (λ next. led tree next names) (entry_at tree from name) to e in
      ap (option_and_then (named_parent nat_eq tree)) (up_led step.0 names to step.2 is)
      ∙ parent_named from name step.0 step.1 (led_directory step.0 names to step.2 is)

-- A directory that is reached from the root: the steps up from it lead to directories that differ, and end at the root.
module _ (files : FileTree ℕ) (conditions : IsFileTree files) (to : ℕ) (is : IsDirectory files.tree to)
    (reached : IsReached files.tree to) where
  abbrev height : ℕ
  height = length reached.0

  at_root : up files.tree height (Some to) ≡ Some files.tree.root
  at_root = up_led files.tree conditions.tree files.tree.root reached.0 to reached.1 is

  past_root : (k : ℕ) → height < k → up files.tree k (Some to) ≡ None
  unfolding up
  past_root k lt =
      let more = k - suc height in
      let whole : k ≡ more + suc height = omega arith in
      grind (arith, common_steps, up_plus, at_root, root_above_none, up_none)

  -- what is up is no higher than the root
  low : (k e : ℕ) → up files.tree k (Some to) ≡ Some e → k ≤ height
  low k e h = ⊎_elim (λ lt. none_is_not None e refl (sym (past_root k lt) ∙ h)) (λ le. le) (cases_lt height k)

  -- the directory so many steps up
  abbrev above : ℕ → ℕ
  above k = unwrap_or (up files.tree k (Some to)) 0

  above_there : (k : ℕ) → k ≤ height → up files.tree k (Some to) ≡ Some (above k)
  above_there k le = by (up files.tree k (Some to)) refl
    where
      by : (o : Option ℕ) → up files.tree k (Some to) ≡ o → o ≡ Some (unwrap_or o 0)
      by None e =
          let more = height - k in
          let whole : height ≡ more + k = omega arith in
          none_is_not None files.tree.root refl
          (cc (up_plus files.tree more k (Some to), up_none files.tree more, at_root))
      by (Some x) e = refl

  above_differ : (j k : ℕ) → j < k → k ≤ height → above k ≢ above j
  above_differ j k lt le same =
      let more = height - j in
      let whole : height ≡ more + j = omega arith in
      let past : height < more + k = omega arith in
      none_is_not None files.tree.root refl (sym (past_root (more + k) past) ∙ up_plus files.tree more k (Some to)
      ∙ ap (up files.tree more) (above_there k le ∙ ap Some same ∙ sym (above_there j (omega arith)))
      ∙ sym (up_plus files.tree more j (Some to)) ∙ ap (λ n. up files.tree n (Some to)) (sym whole) ∙ at_root)

  line : ℕ → List ℕ
  line zero = above 0 ∷ []
  line (suc k) = above (suc k) ∷ line k

  line_length : (k : ℕ) → length (line k) ≡ suc k
  unfolding line
  line_length zero = refl
  line_length (suc k) = ap suc (line_length k)

  line_apart : (i k : ℕ) → k < i → i ≤ height → AllByRecursion (λ y. nat_eq (above i) y ≡ false) (line k)
  unfolding line
  line_apart i zero lt le = (ne_eqb (above i) (above 0) (above_differ 0 i lt le), tt)
  line_apart i (suc k) lt le = grind (arith, common_steps, ne_eqb, above_differ, line_apart i k (omega arith) le)

  line_distinct : (k : ℕ) → k ≤ height → IsDistinct nat_eq (line k)
  unfolding line IsDistinct
  line_distinct zero le = (tt, tt)
  line_distinct (suc k) le = (line_apart (suc k) k (omega arith) le, line_distinct k (omega arith))

  above_listed : (k : ℕ) → k ≤ height → is_among nat_eq (above k) files.numbers ≡ true
  above_listed k le = conditions.numbers (above k) ∙ directory_used files.tree (above k)
      (up_directory files.tree k to (above k) is (above_there k le))

  line_listed : (k q : ℕ) → k ≤ height → is_among nat_eq q (line k) ≡ true → is_among nat_eq q files.numbers ≡ true
  unfolding line
  line_listed zero q le h = grind (arith, common_steps, eqb-true, above_listed)
  line_listed (suc k) q le h = by (nat_eq q (above (suc k))) refl h (λ g. line_listed k q (omega arith) g)
    where
      by : (b : Bool) → nat_eq q (above (suc k)) ≡ b → (b || is_among nat_eq q (line k)) ≡ true
          → (is_among nat_eq q (line k) ≡ true → is_among nat_eq q files.numbers ≡ true)
          → is_among nat_eq q files.numbers ≡ true
      by true e g rest = cc (eqb-true q (above (suc k)) e, above_listed (suc k) le)
      by false e g rest = rest g

  -- there are no more steps than inodes
  height_small : height < length files.numbers
  height_small =
      let few = length-le_from_is_member nat_eq_equiv (line height) files.numbers (line_distinct height (omega arith))
      (λ q h. line_listed height q (omega arith) h) in
      omega (arith, few, line_length height)

  -- a directory from which names lead there is seen above
  pub under_seen : (object : ℕ) (names : List (List ℕ)) → led files.tree object names ≡ Some to
      → is_directory_under nat_eq files object to ≡ true
  under_seen object names e =
      let steps = up_led files.tree conditions.tree object names to e is in
      let small : length names ≤ length files.numbers = omega (arith, low (length names) object steps, height_small) in
      in_chain files.tree (length files.numbers) (length names) to object small steps
