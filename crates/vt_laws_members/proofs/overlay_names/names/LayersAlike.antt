-- A change through an overlay makes the same in the part: lower layers of theirs show there what they show in the
-- world.
use Rattle.std.proofs.Common.{◌≡◌, refl, sym, ap, ◌∙◌, ℕ, suc, nat_eq, arith, Bool, true, false, cond, List, [], ◌∷◌, ◌++◌, Option, Some, None, map, not, option_and_then, ◌+◌, slice_get}
use Rattle.vt_spec.proofs.Common.{AddName, Change, CopyUp, FileTree, Fresh, Make, Merge, Move, OpenLayer, Remove, SetAttr, SetBytes, SetMark, Stack, Upper, changed, common_steps, content_with_parent, copied_up, cuts, entry_at, evens, hides, hides_directory, holds_of, is_directory_node, is_directory_shown, is_kind_in, led, led-append, list_any, merge_changed, name_left, node_led, none_is_some, odds, path_to, prefixes, same_Some, shown_from, shown_in_lowers_at, shown_over, upper_directory_named, upper_of, view_of, when, with_inode, with_mark, with_moved, with_name, with_real, without_contents, without_last, ⊤}
use Rattle.vt_laws_members.proofs.Common.{Shown, White}

-- two layers have the same inode at each path
abbrev pub ViewsAlike : OpenLayer ℕ → OpenLayer ℕ → Type 0
ViewsAlike one other = (path : List (List ℕ)) → node_led (view_of one) path ≡ node_led (view_of other) path

-- so their paths lead to the same numbers
module _ (one other : OpenLayer ℕ) (down : one.directory ≡ other.directory) (same : ViewsAlike one other) where
  node_same : (way : List (List ℕ)) (k : ℕ) → led one.tree one.directory way ≡ Some k
      → led other.tree other.directory way ≡ Some k → one.tree.node k ≡ other.tree.node k
  node_same way k e f = cc (same way)

  leads_on : (path way : List (List ℕ)) (k : ℕ) → led one.tree one.directory way ≡ Some k
      → led other.tree other.directory way ≡ Some k → led one.tree k path ≡ led other.tree k path
  leads_on [] way k e f = refl
  leads_on (word ∷ rest) way k e f =
      cc (node_same way k e f, by (entry_at other.tree k word) refl (leads_on rest (way ++ word ∷ [])))
    where
      by : (o : Option ℕ) → entry_at other.tree k word ≡ o
          → ((next : ℕ) → led one.tree one.directory (way ++ word ∷ []) ≡ Some next
          → led other.tree other.directory (way ++ word ∷ []) ≡ Some next
          → led one.tree next rest ≡ led other.tree next rest)
          → option_and_then (λ next. led one.tree next rest) o ≡ option_and_then (λ next. led other.tree next rest) o
      by None there later = refl
      by (Some next) there later = later next (led-append one.tree one.directory way word k next e
          (cc (node_same way k e f))) (led-append other.tree other.directory way word k next f there)

  pub leads_alike : (path : List (List ℕ)) → (view_of one).leads path ≡ (view_of other).leads path
  leads_alike path = cc (leads_on path [] one.directory refl (ap Some (sym down)))

  pub cuts_alike : (path : List (List ℕ)) → cuts (view_of one) path ≡ cuts (view_of other) path
  cuts_alike path i = list_any (λ prefix. hides (same prefix i)) (prefixes path)

-- a list of layers that have the same, one by one
abbrev pub AllAlike : List (OpenLayer ℕ) → List (OpenLayer ℕ) → Type 0
AllAlike [] [] = ⊤
AllAlike [] (other ∷ others) = ⊥
AllAlike (one ∷ ones) [] = ⊥
AllAlike (one ∷ ones) (other ∷ others) = (one.directory ≡ other.directory) × ViewsAlike one other × AllAlike ones others

-- the same object is shown
shown_alike : (ones others : List (OpenLayer ℕ)) → AllAlike ones others → (depth : ℕ) (path : List (List ℕ))
    → shown_from depth (map view_of ones) path ≡ shown_from depth (map view_of others) path
shown_alike [] [] same depth path = refl
shown_alike [] (other ∷ others) none depth path = absurd none
shown_alike (one ∷ ones) [] none depth path = absurd none
shown_alike (one ∷ ones) (other ∷ others) same depth path =
    let leads = leads_alike one other same.0 same.1 path in
    ap (λ o. shown_over (view_of one) depth o (cuts (view_of one) path)
    (shown_from (depth + 1) (map view_of ones) path)) leads
    ∙ (λ i. shown_over (view_of one) depth ((view_of other).leads path) (cuts_alike one other same.0 same.1 path i)
    (shown_alike ones others same.2 (depth + 1) path i)) ∙ by ((view_of other).leads path) refl
  where
    lower : Option (Shown ℕ)
    lower = shown_from (depth + 1) (map view_of others) path

    by : (o : Option ℕ) → (view_of other).leads path ≡ o
        → shown_over (view_of one) depth o (cuts (view_of other) path) lower
        ≡ shown_over (view_of other) depth o (cuts (view_of other) path) lower
    by o e = grind (arith, common_steps, node_same, leads_alike)

-- of one kind
abbrev is_directory_at : ℕ → OpenLayer ℕ → Bool
is_directory_at object layer = is_directory_node (layer.tree.node object)

kind_alike : (ones others : List (OpenLayer ℕ)) → AllAlike ones others → (depth : ℕ) (path : List (List ℕ))
    (seen : Shown ℕ) → shown_from depth (map view_of others) path ≡ Some seen → (n : ℕ) × (seen.layer ≡ depth + n)
    × (holds_of (is_directory_at seen.object) (slice_get ones n)
    ≡ holds_of (is_directory_at seen.object) (slice_get others n))
kind_alike [] [] same depth path seen e = none_is_some seen e
kind_alike [] (other ∷ others) none depth path seen e = absurd none
kind_alike (one ∷ ones) [] none depth path seen e = absurd none
kind_alike (one ∷ ones) (other ∷ others) same depth path seen e =
    by _ refl (cuts (view_of other) path) e (kind_alike ones others same.2 (depth + 1) path seen)
  where
    first : (object : ℕ) → (view_of other).leads path ≡ Some object → (white : Bool)
        → when (not white) (record { layer = depth; object = object }) ≡ Some seen → (n : ℕ) × (seen.layer ≡ depth + n)
        × (holds_of (is_directory_at seen.object) (slice_get (one ∷ ones) n)
        ≡ holds_of (is_directory_at seen.object) (slice_get (other ∷ others) n))
    first object there white h = grind (arith, common_steps, none_is_some, same_Some, node_same, leads_alike)

    by : (o : Option ℕ) → (view_of other).leads path ≡ o → (b : Bool)
        → shown_over (view_of other) depth o b (shown_from (depth + 1) (map view_of others) path) ≡ Some seen
        → (shown_from (depth + 1) (map view_of others) path ≡ Some seen → (n : ℕ) × (seen.layer ≡ (depth + 1) + n)
        × (holds_of (is_directory_at seen.object) (slice_get ones n)
        ≡ holds_of (is_directory_at seen.object) (slice_get others n))) → (n : ℕ) × (seen.layer ≡ depth + n)
        × (holds_of (is_directory_at seen.object) (slice_get (one ∷ ones) n)
        ≡ holds_of (is_directory_at seen.object) (slice_get (other ∷ others) n))
    by (Some object) there b h later = first object there (is_kind_in White ((view_of other).node object)) h
    by None there true h later = none_is_some seen h
    by None there false h later =
        let rest = later h in (
          suc rest.0,
          (let more : (depth + 1) + rest.0 ≡ depth + suc rest.0 = omega arith in rest.1 ∙ more),
          rest.2,
        )

-- Two stacks of one directory and one mounter
module _ (one other : Stack ℕ) (directory_same : one.directory ≡ other.directory)
    (mounter_same : one.mounter ≡ other.mounter) (same : AllAlike one.lowers other.lowers) where
  lowers_shown : (merge : Merge ℕ) (directory : ℕ) (name : List ℕ)
      → shown_in_lowers_at nat_eq one merge directory name ≡ shown_in_lowers_at nat_eq other merge directory name
  lowers_shown merge directory name i =
      cond (cuts (view_of (record { tree = merge.upper.tree; directory = directory_same i }))
      (without_last (path_to nat_eq merge directory name))) None
      (shown_alike one.lowers other.lowers same 1 (path_to nat_eq merge directory name) i)

  hides_same : (merge : Merge ℕ) (directory : ℕ) (name : List ℕ)
      → hides_directory nat_eq one merge directory name ≡ hides_directory nat_eq other merge directory name
  hides_same merge directory name =
      (λ i. is_directory_shown (record { tree = merge.upper.tree; directory = directory_same i } ∷ one.lowers)
      (lowers_shown merge directory name i)) ∙ by (cuts (view_of top) (without_last path))
    where
      path : List (List ℕ)
      path = path_to nat_eq merge directory name

      top : OpenLayer ℕ
      top = record { tree = merge.upper.tree; directory = other.directory }

      of_seen : (o : Option (Shown ℕ)) → shown_from 1 (map view_of other.lowers) path ≡ o
          → is_directory_shown (top ∷ one.lowers) o ≡ is_directory_shown (top ∷ other.lowers) o
      of_seen o e = grind (arith, common_steps, kind_alike)

      by : (b : Bool)
          → is_directory_shown (top ∷ one.lowers) (cond b None (shown_from 1 (map view_of other.lowers) path))
          ≡ is_directory_shown (top ∷ other.lowers) (cond b None (shown_from 1 (map view_of other.lowers) path))
      by true = refl
      by false = of_seen (shown_from 1 (map view_of other.lowers) path) refl

  left_same : (fresh : Fresh ℕ) (merge : Merge ℕ) (upper : FileTree ℕ) (directory : ℕ) (name : List ℕ)
      → name_left nat_eq fresh one merge upper directory name ≡ name_left nat_eq fresh other merge upper directory name
  left_same fresh merge upper directory name = grind (arith, common_steps, lowers_shown)

  -- So a change makes the same of both.
  pub made_same : (fresh : Fresh ℕ) (merge : Merge ℕ) (change : Change ℕ)
      → merge_changed nat_eq fresh one merge change ≡ merge_changed nat_eq fresh other merge change
  made_same fresh merge (Make directory name number node) =
      cc (hides_same (copied_up nat_eq (evens fresh) merge directory) directory name)
    where
      made : Merge ℕ → Bool → Merge ℕ
      made copied b = record {
        files = changed nat_eq copied.files (Make directory name number node);
        real = with_real nat_eq copied.real number (Upper (odds fresh 0));
        upper = with_mark nat_eq b (with_name nat_eq (with_inode nat_eq copied.upper (odds fresh 0)
            (record { attr = node.attr; content = content_with_parent (upper_of copied directory) node.content }))
            (upper_of copied directory) name (odds fresh 0)) (odds fresh 0);
      }
  made_same fresh merge (AddName directory name object) = refl
  made_same fresh merge (Remove directory name object) = cc (left_same (odds fresh) copied copied.upper directory name)
    where
      copied : Merge ℕ
      copied = copied_up nat_eq (evens fresh) merge directory
  made_same fresh merge (Move from old to new object) =
      cc (hides_same copied to new, left_same (odds (odds fresh)) copied freed from old)
    where
      copied : Merge ℕ
      copied = copied_up nat_eq (evens (odds fresh)) (copied_up nat_eq (evens fresh) merge object) to

      freed : FileTree ℕ
      freed = with_moved nat_eq (without_contents nat_eq copied.upper (upper_directory_named copied to new))
          (upper_of copied from) old (upper_of copied to) new (upper_of copied object)

      moved : Bool → FileTree ℕ → Merge ℕ
      moved b upper = record copied {
        files = changed nat_eq copied.files (Move from old to new object);
        upper = with_mark nat_eq b upper (upper_of copied object);
      }
  made_same fresh merge (SetBytes file bytes) = refl
  made_same fresh merge (SetAttr object attr) = refl
  made_same fresh merge (SetMark directory opaque) = refl
  made_same fresh merge (CopyUp object) = refl
