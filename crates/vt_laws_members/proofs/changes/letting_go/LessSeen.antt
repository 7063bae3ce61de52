-- In worlds with the filesystems of a world and of its part, a set that sees less has one part.
use Rattle.std.proofs.Common.{arith, ◌≡◌, refl, sym, ap, subst, ◌∙◌, ⊎_elim, ℕ, nat_eq, Bool, true, false, cond, true≢false, List, [], ◌∷◌, ◌++◌, Option, Some, None, filter, flat_map, map, ◌&&◌, filter_map}
use Rattle.vt_spec.proofs.Common.{Among, FileTree, Filesystem, IsWorld, Layer, Location, Mount, Overlay, Task, TaskName, World, among-append, among-append_left, among-append_right, among-flat_map, among-from_flat_map, among_numbers, and_parts, any_among, any_from_among, change_layers, common_steps, filesystem_numbered, is_among, is_among_numbers, is_member_of, is_under, lies_in_own_lower, list_any, locations, members, mount_in, none_is_some, of_overlay, only_among, own_lowers, own_mounts, part_of, part_of_filesystem, part_of_lower, then_some, used_directly, used_filesystems, when}
use Rattle.vt_laws_members.proofs.Common.{among-each_once, among-from_each_once, filter_map_same, flat_map_alike, found, is_own, same_directly, same_members, same_own, shown_how, used_directly_used}
use Rattle.vt_laws_members.proofs.changes.part.PartAgain.{found_in_part, in_chosen, itself, listed, tree}
use Rattle.vt_laws_members.proofs.changes.letting_go.CutAgain.{HasLowers, cut_alike, lies_under}

-- what is kept of what is kept
pub filter_map_then : {A : Type 0} (f g : A → Option A) (xs : List A)
    → filter_map g (filter_map f xs) ≡ filter_map (λ x. then_some (f x) g) xs
filter_map_then f g [] = refl
filter_map_then {A} f g (x ∷ xs) = grind (arith, common_steps, filter_map_then f g xs)

-- Of these worlds, one has the filesystems of a world, and the other one those of its part.
module _ (world : World ℕ) (names set : List TaskName) (next next_part : World ℕ) where
  abbrev pub now : World ℕ
  now = record next { filesystems = world.filesystems }

  abbrev pub now_part : World ℕ
  now_part = record next_part { filesystems = (part_of nat_eq world names).filesystems }

  -- a set sees the same mounts, groups and namespaces of both, and uses no more filesystems than the first set did
  pub record AreLess : Type 0 where
    pub tasks : members now_part set ≡ members now set
    pub mounts : (part_of nat_eq now_part set).mounts ≡ (part_of nat_eq now set).mounts
    pub masters : (group : ℕ) → list_any (is_member_of nat_eq group) (own_mounts nat_eq now set) ≡ true
        → now_part.master group ≡ now.master group
    pub namespaces : (part_of nat_eq now_part set).namespaces ≡ (part_of nat_eq now set).namespaces
    pub direct : (number : ℕ) → Among number (used_directly nat_eq now set)
        → Among number (used_directly nat_eq world names)

module _ {world : World ℕ} {names : List TaskName} (is : IsWorld nat_eq world) {set : List TaskName}
    {next next_part : World ℕ} (less : AreLess world names set next next_part) where
  abbrev part : World ℕ
  part = part_of nat_eq world names

  abbrev one : World ℕ
  one = record next { filesystems = world.filesystems }

  abbrev other : World ℕ
  other = record next_part { filesystems = part.filesystems }

  -- members and mounts say which mounts are theirs, and what they use
  abbrev owned_by : List (Task ℕ) → List (Mount ℕ) → List (Mount ℕ)
  owned_by tasks mounts = filter (is_own world names tasks) mounts

  abbrev directly_by : List (Task ℕ) → List (Mount ℕ) → List ℕ
  directly_by tasks mounts = map (λ (mount : Mount ℕ). mount.filesystem) (owned_by tasks mounts)
      ++ map (λ (l : Location ℕ). (mount_in nat_eq mounts l.mount).filesystem) (locations tasks)

  tasks_of_parts : members (part_of nat_eq other set) set ≡ members (part_of nat_eq one set) set
  tasks_of_parts = same_members other set ∙ less.tasks ∙ sym (same_members one set)

  pub less_own : own_mounts nat_eq other set ≡ own_mounts nat_eq one set
  less_own = sym (same_own other set) ∙ ap (λ tasks. owned_by tasks (part_of nat_eq other set).mounts) tasks_of_parts
      ∙ ap (owned_by (members (part_of nat_eq one set) set)) less.mounts ∙ same_own one set

  directly_same : used_directly nat_eq other set ≡ used_directly nat_eq one set
  directly_same = sym (same_directly other set)
      ∙ ap (λ tasks. directly_by tasks (part_of nat_eq other set).mounts) tasks_of_parts
      ∙ ap (directly_by (members (part_of nat_eq one set) set)) less.mounts ∙ same_directly one set

  abbrev direct : List ℕ
  direct = used_directly nat_eq one set

  direct_found : (n : ℕ) → Among n direct → filesystem_numbered nat_eq part n ≡ filesystem_numbered nat_eq world n
  direct_found n m = found world names n (used_directly_used world names n (less.direct n m))

  pub less_used : used_filesystems nat_eq other set ≡ used_filesystems nat_eq one set
  less_used = cc (
    directly_same,
    flat_map_alike (λ n. change_layers (filesystem_numbered nat_eq part n)) (λ n. change_layers
        (filesystem_numbered nat_eq world n)) direct (λ n m. cc (direct_found n m)),
  )

  abbrev lowers_in : World ℕ → ℕ → List (Layer ℕ)
  lowers_in w n = of_overlay [] (λ (overlay : Overlay ℕ). overlay.lowers) (filesystem_numbered nat_eq w n)

  pub less_lowers : own_lowers nat_eq other set ≡ own_lowers nat_eq one set
  less_lowers = cc (
    directly_same,
    flat_map_alike (lowers_in part) (lowers_in world) direct (λ n m. cc (direct_found n m)),
  )

  abbrev used : List ℕ
  used = used_filesystems nat_eq one set

  abbrev lowers : List (Layer ℕ)
  lowers = own_lowers nat_eq one set

  abbrev used_before : List ℕ
  used_before = used_filesystems nat_eq world names

  abbrev lowers_before : List (Layer ℕ)
  lowers_before = own_lowers nat_eq world names

  abbrev changed_in : ℕ → List ℕ
  changed_in n = change_layers (filesystem_numbered nat_eq world n)

  pub used_was : (n : ℕ) → is_among nat_eq n used ≡ true → is_among nat_eq n used_before ≡ true
  used_was n h = is_among_numbers used_before n (among-each_once _ n
      (⊎_elim (λ m. among-append_left _ _ n (less.direct n m)) (λ m. let from = among-from_flat_map _ direct n m in
      among-append_right (used_directly nat_eq world names) (flat_map changed_in (used_directly nat_eq world names)) n
      (among-flat_map changed_in (used_directly nat_eq world names) from.0 n (less.direct from.0 from.1) from.2))
      (among-append direct (flat_map changed_in direct) n (among-from_each_once _ n (among_numbers used n h)))))

  pub lower_was : (layer : Layer ℕ) → Among layer lowers → Among layer lowers_before
  lower_was layer m =
      let from = among-from_flat_map (lowers_in world) direct layer m in
      among-flat_map (lowers_in world) _ from.0 layer (less.direct from.0 from.1) from.2

  abbrev has_lower : List (Layer ℕ) → ℕ → Bool
  has_lower layers n = list_any (λ (layer : Layer ℕ). nat_eq n layer.filesystem) layers

  has_was : (n : ℕ) → has_lower lowers n ≡ true → has_lower lowers_before n ≡ true
  has_was n h =
      let at = any_among (λ (layer : Layer ℕ). nat_eq n layer.filesystem) lowers h in
      any_from_among (λ (layer : Layer ℕ). nat_eq n layer.filesystem) lowers_before at.0 (lower_was at.0 at.1) at.2

  -- what the part has of a filesystem, of which the tree is this
  abbrev lowered : FileTree ℕ → Filesystem ℕ → Filesystem ℕ
  lowered files x = record x {
    files = only_among nat_eq (filter (lies_under x.number lowers files) x.files.numbers) x.files;
    change = 0;
  }

  abbrev shown_by : FileTree ℕ → Filesystem ℕ → Option (Filesystem ℕ)
  shown_by files x = cond (is_among nat_eq x.number used) (Some x) (when (has_lower lowers x.number) (lowered files x))

  shown_part : (x : Filesystem ℕ)
      → part_of_filesystem nat_eq other set x ≡ shown_by (filesystem_numbered nat_eq part x.number).files x
  shown_part x = ap (λ u. cond (is_among nat_eq x.number u) (Some x)
      (when (has_lower (own_lowers nat_eq other set) x.number) (part_of_lower nat_eq other set x))) less_used
      ∙ ap (λ l. cond (is_among nat_eq x.number used) (Some x) (when (has_lower l x.number) (record x {
        files = only_among nat_eq
            (filter (lies_under x.number l (filesystem_numbered nat_eq part x.number).files) x.files.numbers) x.files;
        change = 0;
      }))) less_lowers

  abbrev was_shown : Filesystem ℕ → Option (Filesystem ℕ)
  was_shown = part_of_filesystem nat_eq world names

  -- what was not shown is not shown
  none_shown : (x : Filesystem ℕ) → was_shown x ≡ None → None ≡ part_of_filesystem nat_eq one set x
  none_shown x e = by _ refl _ refl (is_among nat_eq x.number used) refl (has_lower lowers x.number) refl
    where
      by : (a : Bool) → is_among nat_eq x.number used_before ≡ a → (b : Bool) → has_lower lowers_before x.number ≡ b
          → (c : Bool) → is_among nat_eq x.number used ≡ c → (d : Bool) → has_lower lowers x.number ≡ d
          → None ≡ cond (is_among nat_eq x.number used) (Some x)
          (when (has_lower lowers x.number) (lowered (filesystem_numbered nat_eq world x.number).files x))
      by a f b g c h d k = grind (arith, common_steps, none_is_some, true≢false, used_was, has_was)

  -- a tree that was shown by lower layers alone
  module _ (x : Filesystem ℕ) (m : Among x world.filesystems)
      (unused : is_among nat_eq x.number used_before ≡ false) (low : has_lower lowers_before x.number ≡ true) where
    abbrev y : Filesystem ℕ
    y = part_of_lower nat_eq world names x

    was_so : was_shown x ≡ Some y
    was_so = ap (λ q. cond q (Some x) (when (has_lower lowers_before x.number) y)) unused ∙ ap (λ q. when q y) low

    unused_now : is_among nat_eq x.number used ≡ false
    unused_now = grind (arith, common_steps, true≢false, used_was)

    pub has_lowers : HasLowers x.number lowers x.files
        (filter (lies_in_own_lower nat_eq world names x.number) x.files.numbers)
    has_lowers = record {
      tree = tree world names is x m unused low;
      listed = listed world names is x m unused low;
      all = λ object there h.
          let at = any_among (λ (l : Layer ℕ). nat_eq x.number l.filesystem
          && is_under nat_eq x.files l.directory object) lowers h in
          let both = and_parts (nat_eq x.number at.0.filesystem) (is_under nat_eq x.files at.0.directory object) at.2 in
          in_chosen world names is x m unused low at.0 (lower_was at.0 at.1) both.0 object
          (sym (listed world names is x m unused low object) ∙ is_among_numbers x.files.numbers object there) both.1;
    }

    lowered_again : lowered y.files y ≡ lowered x.files x
    lowered_again = cc (cut_alike x.number lowers x.files (filter (lies_in_own_lower nat_eq world names x.number)
        x.files.numbers) has_lowers)

    shown_again : part_of_filesystem nat_eq other set y ≡ part_of_filesystem nat_eq one set x
    shown_again = shown_part y
        ∙ ap (λ (f : Filesystem ℕ). shown_by f.files y) (found_in_part world names is x y m was_so)
        ∙ ap (λ q. cond q (Some y) (when (has_lower lowers x.number) (lowered y.files y))) unused_now
        ∙ ap (when (has_lower lowers x.number)) lowered_again
        ∙ ap (λ (f : Filesystem ℕ). when (has_lower lowers x.number) (lowered f.files x))
        (sym (itself world names is x m unused low)) ∙ sym (ap (λ q. cond q (Some x)
        (when (has_lower lowers x.number) (lowered (filesystem_numbered nat_eq world x.number).files x))) unused_now)

  shown_then : (x : Filesystem ℕ) → Among x world.filesystems
      → then_some (was_shown x) (part_of_filesystem nat_eq other set) ≡ part_of_filesystem nat_eq one set x
  shown_then x m = by (was_shown x) refl
    where
      by : (o : Option (Filesystem ℕ)) → was_shown x ≡ o
          → then_some o (part_of_filesystem nat_eq other set) ≡ part_of_filesystem nat_eq one set x
      by None e = none_shown x e
      by (Some z) e = ⊎_elim
          (λ whole. subst (λ f. part_of_filesystem nat_eq other set f ≡ part_of_filesystem nat_eq one set x) whole.0
          (shown_part x ∙ ap (λ (f : Filesystem ℕ). shown_by f.files x) (found world names x.number whole.1)))
          (λ low. subst (λ f. part_of_filesystem nat_eq other set f ≡ part_of_filesystem nat_eq one set x) low.0
          (shown_again x m low.1 low.2)) (shown_how world names x z e)

  filesystems_less : filter_map (part_of_filesystem nat_eq other set) (filter_map was_shown world.filesystems)
      ≡ filter_map (part_of_filesystem nat_eq one set) world.filesystems
  filesystems_less = cc (
    filter_map_then was_shown (part_of_filesystem nat_eq other set) world.filesystems,
    filter_map_same (λ x. then_some (was_shown x) (part_of_filesystem nat_eq other set)) (part_of_filesystem nat_eq
        one set) world.filesystems shown_then,
  )

  -- groups
  master_less : (group : ℕ)
      → cond (list_any (is_member_of nat_eq group) (own_mounts nat_eq other set)) (other.master group) None
      ≡ cond (list_any (is_member_of nat_eq group) (own_mounts nat_eq one set)) (one.master group) None
  master_less group = grind (arith, common_steps, less_own)

  -- so they have one part
  pub one_part : part_of nat_eq other set ≡ part_of nat_eq one set
  one_part i = record {
    mounts = less.mounts i;
    master = λ group. master_less group i;
    filesystems = filesystems_less i;
    namespaces = less.namespaces i;
    tasks = less.tasks i;
    change = 0;
  }
