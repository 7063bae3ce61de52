-- Each change of an overlay does to its upper layer what it is asked.
use Rattle.std.proofs.Common.{◌≡◌, ◌≢◌, refl, sym, ap, subst, true≢false, arith, ℕ, ◌+◌, ◌*◌, nat_eq, true, ◌++◌, Some, is_some}
use Rattle.vt_spec.proofs.Common.{AddName, Change, CopyUp, Fresh, Make, Merge, Move, Remove, SetAttr, SetBytes, SetMark, Stack, changed_both, common_steps, copied_up, directory_used, evens, line_to, merge_changed, merge_with_link, merge_with_moved, merge_with_new, merge_without_name, node_set, node_with_attr, node_with_bytes, node_with_mark, odds, upper_object, upper_of}
use Rattle.vt_laws_trees.specs.Layers.Layers.ChangesUpper.{ChangesUpper, IsFitToChange, IsLeft, MarksAreRight, NamesLeft, ReachesUpper, RemovedIsEmpty, IsNewBy}
use Rattle.vt_laws_trees.specs.Layers.Layers.Untouched.{IsKept}
use Rattle.vt_laws_trees.specs.Layers.Layers.Upper.{SpeaksOfWhatIsThere}
use Rattle.vt_laws_trees.proofs.layers.layers.CopyingChanges.{made_marked, moved_empty, moved_left, moved_marked, object_there, removed_empty, removed_left}
use Rattle.vt_laws_trees.proofs.layers.layers.CopyingEach.{last_in_line}
use Rattle.vt_laws_trees.proofs.layers.layers.CopyingReaches.{linked_named, made_as, made_named, made_real, moved_named}
use Rattle.vt_laws_trees.proofs.layers.layers.CopyingReady.{IsReady, leaves_upper, next_line, one_line, parent_in_line, stands_now}
use Rattle.vt_laws_trees.proofs.layers.layers.UpperChanges.{changes_keep}
use Rattle.vt_laws_trees.proofs.layers.layers.UpperLine.{has_entries, named_so}

module _ (fresh : Fresh ℕ) (stack : Stack ℕ) (before : Merge ℕ) (fit : IsFitToChange fresh before) where
  rest_stays : (change : Change ℕ) → SpeaksOfWhatIsThere before.files change → (inode : ℕ)
      → ((k : ℕ) → inode ≢ fresh k) → ((number : ℕ) → upper_object (before.real number) ≢ Some inode)
      → IsKept (before.upper.tree.node inode) ((merge_changed nat_eq fresh stack before change).upper.tree.node inode)
  rest_stays change there inode new apart = changes_keep before.files fit.tree fit.numbers
      inode _ fresh new stack before.real before.upper (record { here = refl; apart = apart; root = fit.root })
      change there (λ from old object e later grows copied parent. leaves_upper
      fresh before fit later grows from old object e parent)

  abbrev nothing_spared : ℕ → Type 0
  nothing_spared number = ⊥

  -- copies by one supply, with the other spared
  pub by_evens : (object : ℕ) → IsReady fresh before fit (IsNewBy (odds fresh)) (line_to nat_eq before.files object)
      (copied_up nat_eq (evens fresh) before object)
  by_evens object = one_line fresh before fit (IsNewBy (odds fresh))
      (λ number s. (2 * s.0 + 1, s.1)) (evens fresh) (λ j k e. let same = fit.distinct (2 * j) (2 * k) e in omega arith)
      (λ k s. let same = fit.distinct (2 * k) _ s.1 in let no : ⊥ = omega arith in no) (λ k. (2 * k, refl)) object

  by_all : (object : ℕ) → IsReady fresh before fit nothing_spared (line_to nat_eq before.files object)
      (copied_up nat_eq fresh before object)
  by_all object = one_line fresh before fit nothing_spared (λ number s. absurd s) fresh fit.distinct (λ k s. s)
      (λ k. (k, refl)) object

  -- another line, by a part of what was spared
  pub then_odds : (object other : ℕ) → IsReady fresh before fit nothing_spared
      (line_to nat_eq before.files object ++ line_to nat_eq before.files other)
      (copied_up nat_eq (odds fresh) (copied_up nat_eq (evens fresh) before object) other)
  then_odds object other = next_line fresh before fit _ _ (λ number s. absurd s) _ _ (by_evens object) (odds fresh)
      (λ j k e. let same = fit.distinct _ _ e in omega arith) (λ k s. s) (λ k. (k, refl)) (λ k. (2 * k + 1, refl)) other

  pub then_odd_evens : (object other : ℕ) → IsReady fresh before fit (IsNewBy (odds (odds fresh)))
      (line_to nat_eq before.files object ++ line_to nat_eq before.files other)
      (copied_up nat_eq (evens (odds fresh)) (copied_up nat_eq (evens fresh) before object) other)
  then_odd_evens object other = next_line fresh before fit _ _ (λ number s. (2 * s.0 + 1, s.1)) _ _ (by_evens object)
      (evens (odds fresh)) (λ j k e. let same = fit.distinct (2 * (2 * j) + 1) (2 * (2 * k) + 1) e in omega arith)
      (λ k s. let same = fit.distinct (2 * (2 * k) + 1) (2 * (2 * s.0 + 1) + 1) s.1 in let no : ⊥ = omega arith in no)
      (λ k. (2 * k, refl)) (λ k. (2 * (2 * k) + 1, refl)) other

  pub among_first : (number object other : ℕ)
      → Rattle.vt_spec.specs.Lists.is_among nat_eq number (line_to nat_eq before.files object) ≡ true
      → Rattle.vt_spec.specs.Lists.is_among nat_eq number
      (line_to nat_eq before.files object ++ line_to nat_eq before.files other) ≡ true
  among_first number object other e = grind (arith, common_steps, true≢false)

  pub among_second : (number object other : ℕ)
      → Rattle.vt_spec.specs.Lists.is_among nat_eq number (line_to nat_eq before.files other) ≡ true
      → Rattle.vt_spec.specs.Lists.is_among nat_eq number
      (line_to nat_eq before.files object ++ line_to nat_eq before.files other) ≡ true
  among_second number object other e = grind (arith, common_steps)

  pub in_own_line : (object : ℕ)
      → Rattle.vt_spec.specs.Lists.is_among nat_eq object (line_to nat_eq before.files object) ≡ true
  in_own_line object = last_in_line before.files before.real nothing_spared fresh fit.distinct (λ k s. s) object

  overlay_changes : (change : Change ℕ) → SpeaksOfWhatIsThere before.files change
      → ChangesUpper fresh stack before change (merge_changed nat_eq fresh stack before change)
  overlay_changes (Make directory name number node) there =
      let ready = by_evens directory in
      let seen = object_there ready.soundly.real directory (ready.all directory (in_own_line directory) there) in
      record {
        tree = ap (λ m. (merge_with_new nat_eq (odds fresh) stack m directory name number node).files) ready.soundly.is;
        reaches = subst (λ m. ReachesUpper m (merge_with_new nat_eq (odds fresh) stack m directory name number node)
            (Make directory name number node)) (sym ready.soundly.is) (λ reached. (
              odds fresh 0,
              made_real before.files before.real
                  (odds fresh) stack ready.soundly.real ready.soundly.upper ready.soundly.sound directory name number
                  node seen.0 seen.1 reached,
              made_named before.files before.real
                  (odds fresh) stack ready.soundly.real ready.soundly.upper ready.soundly.sound directory name number
                  node seen.0 seen.1 reached,
              made_as before.files before.real
                  (odds fresh) stack ready.soundly.real ready.soundly.upper ready.soundly.sound directory name number
                  node seen.0 seen.1 reached,
            ));
        stands = stands_now fresh before fit (IsNewBy (odds fresh)) (line_to nat_eq before.files directory) _ ready;
        names_left = tt;
        removed_empty = tt;
        marks = subst (λ m. MarksAreRight stack m (merge_with_new nat_eq
            (odds fresh) stack m directory name number node) (Make directory name number node)) (sym ready.soundly.is)
            (made_marked fit.tree (odds fresh) stack ready.soundly.sound directory name number node seen.0 seen.1);
        rest = rest_stays (Make directory name number node) there;
      }
  overlay_changes (AddName directory name object) there =
      let ready = then_odds object directory in
      let seen = object_there ready.soundly.real directory
      (ready.all directory (among_second directory object directory (in_own_line directory)) there.0) in
      record {
        tree = ap (λ m. (merge_with_link nat_eq m directory name object).files) ready.soundly.is;
        reaches = subst (λ m. ReachesUpper m (merge_with_link nat_eq m directory name object)
            (AddName directory name object)) (sym ready.soundly.is) (λ reached. linked_named
            ready.soundly.sound directory seen.0 seen.1 reached name object);
        stands = stands_now fresh before fit nothing_spared _ _ ready;
        names_left = tt;
        removed_empty = tt;
        marks = tt;
        rest = rest_stays (AddName directory name object) there;
      }
  overlay_changes (Remove directory name object) there =
      let ready = by_evens directory in
      let seen = object_there ready.soundly.real directory (ready.all directory (in_own_line directory) there) in
      record {
        tree = ap (λ m. (merge_without_name nat_eq (odds fresh) stack m directory name object).files) ready.soundly.is;
        reaches = tt;
        stands = stands_now fresh before fit (IsNewBy (odds fresh)) (line_to nat_eq before.files directory) _ ready;
        names_left = subst (λ m. NamesLeft stack m (merge_without_name nat_eq
            (odds fresh) stack m directory name object) (Remove directory name object)) (sym ready.soundly.is)
            (λ e. removed_left fit.tree (odds fresh) stack ready.soundly.sound directory name object seen.0 e seen.1);
        removed_empty = subst (λ m. RemovedIsEmpty m (merge_without_name nat_eq
            (odds fresh) stack m directory name object) (Remove directory name object)) (sym ready.soundly.is)
            (removed_empty fit.tree (odds fresh) stack ready.soundly.sound directory name object);
        marks = tt;
        rest = rest_stays (Remove directory name object) there;
      }
  overlay_changes (Move from old to name object) there =
      let ready = then_odd_evens object to in
      let is = fit.tree.alive from old object there.0 in
      let grows = λ (number : ℕ) (h : is_some (upper_object (before.real number)) ≡ true).
      let stood = object_there before.real number h in ap is_some (ready.soundly.grows number stood.0 stood.1) in
      let from_upper = leaves_upper fresh before fit ready.soundly.real grows from old object there.0
      (λ named e. ready.all named.0 (among_first named.0 object to (parent_in_line before.files object named e))
      (directory_used before.files.tree named.0
      (has_entries before.files.tree named.0 named.1 object (named_so before.files fit.tree object named e)))) in
      let seen_from = object_there ready.soundly.real from from_upper in
      let seen = object_there ready.soundly.real object
      (ready.all object (among_first object object to (in_own_line object)) is) in
      let seen_to = object_there ready.soundly.real to
      (ready.all to (among_second to object to (in_own_line to)) there.1) in
      record {
        tree = ap (λ m. (merge_with_moved nat_eq (odds (odds fresh)) stack m from old to name object).files)
            ready.soundly.is;
        reaches = subst (λ m. ReachesUpper m (merge_with_moved nat_eq
            (odds (odds fresh)) stack m from old to name object) (Move from old to name object)) (sym ready.soundly.is)
            (λ reached another. moved_named before.files before.real
            (odds (odds fresh)) stack ready.soundly.real ready.soundly.upper ready.soundly.sound from old to name object
            seen_from.0 seen_to.0 there.0 seen_from.1 seen_to.1 reached another);
        stands = stands_now fresh before fit (IsNewBy (odds (odds fresh))) _ _ ready;
        names_left = subst (λ m. IsLeft stack m
            (merge_with_moved nat_eq (odds (odds fresh)) stack m from old to name object) from old)
            (sym ready.soundly.is) (moved_left fit.tree
            (odds (odds fresh)) stack ready.soundly.sound from old to name object
            seen_from.0 seen.0 there.0 seen_from.1 seen.1);
        removed_empty = subst (λ m. RemovedIsEmpty m (merge_with_moved nat_eq
            (odds (odds fresh)) stack m from old to name object) (Move from old to name object)) (sym ready.soundly.is)
            (λ replaced number named empty is. moved_empty fit.tree
            (odds (odds fresh)) stack ready.soundly.sound from old to name object
            seen_from.0 seen.0 there.0 seen_from.1 seen.1 replaced number named empty is seen_to.0 seen_to.1);
        marks = subst (λ m. MarksAreRight stack m (merge_with_moved nat_eq
            (odds (odds fresh)) stack m from old to name object) (Move from old to name object)) (sym ready.soundly.is)
            (moved_marked fit.tree (odds (odds fresh)) stack ready.soundly.sound from old to name object
            seen_from.0 seen.0 there.0 seen_from.1 seen.1);
        rest = rest_stays (Move from old to name object) there;
      }
  overlay_changes (SetBytes file bytes) there =
      let ready = by_all file in
      record {
        tree = ap (λ m. (changed_both nat_eq m file (node_with_bytes bytes)).files) ready.soundly.is;
        reaches =
            let copied = copied_up nat_eq fresh before file in
            node_set copied.upper.tree (upper_of copied file) _;
        stands = stands_now fresh before fit nothing_spared (line_to nat_eq before.files file) _ ready;
        names_left = tt;
        removed_empty = tt;
        marks = tt;
        rest = rest_stays (SetBytes file bytes) there;
      }
  overlay_changes (SetAttr object attr) there =
      let ready = by_all object in
      record {
        tree = ap (λ m. (changed_both nat_eq m object (node_with_attr attr)).files) ready.soundly.is;
        reaches =
            let copied = copied_up nat_eq fresh before object in
            node_set copied.upper.tree (upper_of copied object) _;
        stands = stands_now fresh before fit nothing_spared (line_to nat_eq before.files object) _ ready;
        names_left = tt;
        removed_empty = tt;
        marks = tt;
        rest = rest_stays (SetAttr object attr) there;
      }
  overlay_changes (SetMark directory opaque) there =
      let ready = by_all directory in
      record {
        tree = ap (λ m. (changed_both nat_eq m directory (node_with_mark opaque)).files) ready.soundly.is;
        reaches =
            let copied = copied_up nat_eq fresh before directory in
            node_set copied.upper.tree (upper_of copied directory) _;
        stands = stands_now fresh before fit nothing_spared (line_to nat_eq before.files directory) _ ready;
        names_left = tt;
        removed_empty = tt;
        marks = tt;
        rest = rest_stays (SetMark directory opaque) there;
      }
  overlay_changes (CopyUp object) there =
      let ready = by_all object in
      record {
        tree = ap (λ m. m.files) ready.soundly.is;
        reaches = tt;
        stands = stands_now fresh before fit nothing_spared (line_to nat_eq before.files object) _ ready;
        names_left = tt;
        removed_empty = tt;
        marks = tt;
        rest = rest_stays (CopyUp object) there;
      }

pub overlay_changes_as_asked : (fresh : Fresh ℕ) (stack : Stack ℕ) (before : Merge ℕ) (change : Change ℕ)
    → IsFitToChange fresh before → SpeaksOfWhatIsThere before.files change
    → ChangesUpper fresh stack before change (merge_changed nat_eq fresh stack before change)
overlay_changes_as_asked fresh stack before change fit there = overlay_changes fresh stack before fit change there
