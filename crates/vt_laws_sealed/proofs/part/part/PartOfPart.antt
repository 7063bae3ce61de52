-- The part of a part is the part.
use Rattle.std.proofs.Common.{inl, inr, ◌≡◌, refl, sym, ap, ◌∙◌, ◌⊎◌, ⊎_elim, ℕ, nat_eq, Bool, true, false, cond, true≢false, List, [], ◌∷◌, Option, Some, None, filter, find, ◌||◌, arith, unwrap_or, filter_map}
use Rattle.vt_spec.proofs.Common.{cases_Bool, Among, Filesystem, Location, Mount, Namespace, Task, TaskName, World, among-append_left, any_from_among, common_steps, cons_option, filesystem_numbered, holds_of, is_among, is_among_numbers, is_at, is_member_task, list_any, locations, map_alike, members, mount_at, no_filesystem, no_mount, none_is_some, own_lowers, own_mounts, part_of, part_of_filesystem, part_of_lower, part_of_master, part_of_mount, roots_and_directories, same_Some, seen_by_descriptor, used_directly, used_filesystems, when}
use Rattle.vt_laws_sealed.proofs.Common.{flat_map_alike}
use Rattle.vt_laws_sealed.specs.Part.Parts.{PartOfThePartIsThePart}
use Rattle.vt_laws_sealed.proofs.part.Kept.{among-each_once, filter_again, filter_kept, find_kept, kept_again}

module _ (world : World ℕ) (names : List TaskName) where
  abbrev part : World ℕ
  part = part_of nat_eq world names

  abbrev theirs : List (Task ℕ)
  theirs = members world names

  pub same_members : members part names ≡ theirs
  same_members = filter_again (is_member_task names) world.tasks

  -- a mount of the part, by the members
  abbrev pub is_own : List (Task ℕ) → Mount ℕ → Bool
  is_own tasks mount = holds_of (λ n. list_any (λ (task : Task ℕ). nat_eq n task.namespace) tasks) mount.namespace

  abbrev pub keep : List (Task ℕ) → Mount ℕ → Option (Mount ℕ)
  keep tasks mount = cond (is_own tasks mount || is_at nat_eq (roots_and_directories tasks) mount) (Some mount)
      (when (is_at nat_eq (locations tasks) mount) (seen_by_descriptor mount))

  -- kept whole, or as a descriptor shows it
  pub kept_how : (tasks : List (Task ℕ)) (x y : Mount ℕ) → keep tasks x ≡ Some y
      → (x ≡ y) ⊎ ((seen_by_descriptor x ≡ y) × (is_own tasks x ≡ false)
      × (is_at nat_eq (roots_and_directories tasks) x ≡ false) × (is_at nat_eq (locations tasks) x ≡ true))
  kept_how tasks x y e = grind (arith, common_steps, same_Some, none_is_some)

  pub kept_whole : (tasks : List (Task ℕ)) (x : Mount ℕ)
      → (is_own tasks x || is_at nat_eq (roots_and_directories tasks) x) ≡ true → keep tasks x ≡ Some x
  kept_whole tasks x e = ap (λ b. cond b (Some x) (when (is_at nat_eq (locations tasks) x) (seen_by_descriptor x))) e

  keeps_again : (tasks : List (Task ℕ)) (x y : Mount ℕ) → keep tasks x ≡ Some y → keep tasks y ≡ Some y
  keeps_again tasks x y e = grind (arith, common_steps)

  whole_own : (x : Mount ℕ) → is_own theirs x ≡ true → keep theirs x ≡ Some x
  whole_own x e = ap (λ b. cond (b || is_at nat_eq (roots_and_directories theirs) x) (Some x)
      (when (is_at nat_eq (locations theirs) x) (seen_by_descriptor x))) e

  none_own : (x y : Mount ℕ) → keep theirs x ≡ Some y → is_own theirs x ≡ false → is_own theirs y ≡ false
  none_own x y e f = ⊎_elim (λ same. ap (is_own theirs) (sym same) ∙ f) (λ stub. ap (is_own theirs) (sym stub.0))
      (kept_how theirs x y e)

  pub same_own : own_mounts nat_eq part names ≡ own_mounts nat_eq world names
  same_own = ap (λ tasks. filter (is_own tasks) (filter_map (keep theirs) world.mounts)) same_members
      ∙ filter_kept (keep theirs) (is_own theirs) whole_own none_own world.mounts

  same_mounts : filter_map (part_of_mount nat_eq part names) part.mounts ≡ part.mounts
  same_mounts = ap (λ tasks. filter_map (keep tasks) (filter_map (keep theirs) world.mounts)) same_members
      ∙ kept_again (keep theirs) (keeps_again theirs) world.mounts

  -- Filesystems that they use

  -- a mount at one of these locations is kept, whole or as a descriptor shows it
  kept_at : (number : ℕ) → ((x : Mount ℕ) → nat_eq number x.number ≡ true → is_at nat_eq (locations theirs) x ≡ true)
      → (x : Mount ℕ) → nat_eq number x.number ≡ true
      → (y : Mount ℕ) × (keep theirs x ≡ Some y) × (nat_eq number y.number ≡ true)
  kept_at number at x e = elim (cases_Bool (is_own theirs x || is_at nat_eq (roots_and_directories theirs) x)) [
    | inl f ↦ (x, ap (λ b. cond b (Some x) (when (is_at nat_eq (locations theirs) x) (seen_by_descriptor x))) f, e)
    | inr f ↦ (
      seen_by_descriptor x,
      ap (λ b. cond b (Some x) (when (is_at nat_eq (locations theirs) x) (seen_by_descriptor x))) f
          ∙ ap (λ b. when b (seen_by_descriptor x)) (at x e),
      e,
    )
  ]

  same_number : (x y : Mount ℕ) → keep theirs x ≡ Some y → y.number ≡ x.number
  same_number x y e =
      ⊎_elim (λ same. ap (λ (m : Mount ℕ). m.number) (sym same)) (λ stub. ap (λ (m : Mount ℕ). m.number) (sym stub.0))
      (kept_how theirs x y e)

  same_filesystem : (x y : Mount ℕ) → keep theirs x ≡ Some y → y.filesystem ≡ x.filesystem
  same_filesystem x y e = ⊎_elim (λ same. ap (λ (m : Mount ℕ). m.filesystem) (sym same))
      (λ stub. ap (λ (m : Mount ℕ). m.filesystem) (sym stub.0)) (kept_how theirs x y e)

  pub located : (location : Location ℕ) → Among location (locations theirs)
      → (mount_at nat_eq part location).filesystem ≡ (mount_at nat_eq world location).filesystem
  located location m = find_kept (keep theirs) (λ mount. nat_eq location.mount mount.number) (kept_at location.mount
      (λ x e. any_from_among (λ (l : Location ℕ). nat_eq l.mount x.number) (locations theirs) location m e))
      (λ x y e f. ap (nat_eq location.mount) (same_number x y e) ∙ f)
      ℕ (λ (mount : Mount ℕ). mount.filesystem) same_filesystem (no_mount location.mount) world.mounts

  pub same_directly : used_directly nat_eq part names ≡ used_directly nat_eq world names
  same_directly = grind (arith, common_steps, same_own, same_members, map_alike, located)

  abbrev used : List ℕ
  used = used_filesystems nat_eq world names

  abbrev shown : Filesystem ℕ → Option (Filesystem ℕ)
  shown = part_of_filesystem nat_eq world names

  pub shown_how : (x y : Filesystem ℕ) → shown x ≡ Some y
      → ((x ≡ y) × (is_among nat_eq x.number used ≡ true)) ⊎ ((part_of_lower nat_eq world names x ≡ y)
      × (is_among nat_eq x.number used ≡ false)
      × (list_any (λ layer. nat_eq x.number layer.filesystem) (own_lowers nat_eq world names) ≡ true))
  shown_how x y e = grind (arith, common_steps, same_Some, none_is_some)

  pub shown_number : (x y : Filesystem ℕ) → shown x ≡ Some y → y.number ≡ x.number
  shown_number x y e = grind (arith, common_steps)

  -- a filesystem that they use is whole in the part
  pub found : (number : ℕ) → is_among nat_eq number used ≡ true
      → filesystem_numbered nat_eq part number ≡ filesystem_numbered nat_eq world number
  found number m = search world.filesystems
    where
      step : (x : Filesystem ℕ) (rest : List (Filesystem ℕ)) (b : Bool) → nat_eq number x.number ≡ b
          → unwrap_or (find (λ f. nat_eq number f.number) (filter_map shown rest)) (no_filesystem number)
          ≡ unwrap_or (find (λ f. nat_eq number f.number) rest) (no_filesystem number)
          → unwrap_or (find (λ f. nat_eq number f.number) (cons_option (shown x) (filter_map shown rest)))
          (no_filesystem number)
          ≡ unwrap_or (cond b (Some x) (find (λ f. nat_eq number f.number) rest)) (no_filesystem number)
      step x rest true e later = grind (arith, common_steps)
      step x rest false e later = grind (arith, common_steps, shown_number)

      search : (list : List (Filesystem ℕ))
          → unwrap_or (find (λ f. nat_eq number f.number) (filter_map shown list)) (no_filesystem number)
          ≡ unwrap_or (find (λ f. nat_eq number f.number) list) (no_filesystem number)
      search [] = refl
      search (x ∷ rest) = step x rest (nat_eq number x.number) refl (search rest)

  pub used_directly_used : (number : ℕ) → Among number (used_directly nat_eq world names)
      → is_among nat_eq number used ≡ true
  used_directly_used number m = grind (arith, common_steps, is_among_numbers, among-each_once, among-append_left)

  pub same_used : used_filesystems nat_eq part names ≡ used
  same_used = grind (arith, common_steps, same_directly, flat_map_alike, found, used_directly_used)

  pub same_lowers : own_lowers nat_eq part names ≡ own_lowers nat_eq world names
  same_lowers = grind (arith, common_steps, same_directly, flat_map_alike, found, used_directly_used)

  -- where each lower layer of theirs is in a filesystem that they use
  module _ (all_used : (number : ℕ)
      → list_any (λ layer. nat_eq number layer.filesystem) (own_lowers nat_eq world names) ≡ true
      → is_among nat_eq number used ≡ true) where
    shown_again : (x y : Filesystem ℕ) → shown x ≡ Some y → part_of_filesystem nat_eq part names y ≡ Some y
    shown_again x y e = grind (arith, common_steps, same_used, true≢false)

    same_shown : filter_map (part_of_filesystem nat_eq part names) part.filesystems ≡ part.filesystems
    same_shown = search world.filesystems
      where
        step : (x : Filesystem ℕ) (rest : List (Filesystem ℕ)) (o : Option (Filesystem ℕ)) → shown x ≡ o
            → filter_map (part_of_filesystem nat_eq part names) (filter_map shown rest) ≡ filter_map shown rest
            → filter_map (part_of_filesystem nat_eq part names) (cons_option o (filter_map shown rest))
            ≡ cons_option o (filter_map shown rest)
        step x rest None e later = later
        step x rest (Some y) e later = cc (shown_again x y e, later)

        search : (list : List (Filesystem ℕ))
            → filter_map (part_of_filesystem nat_eq part names) (filter_map shown list) ≡ filter_map shown list
        search [] = refl
        search (x ∷ rest) = step x rest (shown x) refl (search rest)

    same_masters : part_of_master nat_eq part names ≡ part_of_master nat_eq world names
    same_masters = grind (arith, common_steps, same_own)

    abbrev kept_namespaces : List (Task ℕ) → List (Namespace ℕ) → List (Namespace ℕ)
    kept_namespaces tasks list =
        filter (λ (n : Namespace ℕ). list_any (λ (task : Task ℕ). nat_eq n.number task.namespace) tasks) list

    same_namespaces : kept_namespaces (members part names) part.namespaces ≡ part.namespaces
    same_namespaces = grind (arith, common_steps, same_members, filter_again)

    pub part_of_part : part_of nat_eq part names ≡ part
    part_of_part = grind (arith, common_steps, same_mounts, same_masters, same_shown, same_namespaces, same_members)

pub part_of_the_part_is_the_part : PartOfThePartIsThePart
part_of_the_part_is_the_part world names all_used = part_of_part world names all_used
