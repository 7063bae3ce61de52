-- The part of a world in which tasks change alone, and the tasks of a set see what they saw.
use Rattle.std.proofs.Common.{arith, ◌≡◌, refl, sym, ◌∙◌, ℕ, nat_eq, Bool, cond, List, [], ◌∷◌, ◌++◌, Some, None, filter, flat_map, ◌||◌}
use Rattle.vt_spec.proofs.Common.{Among, Filesystem, Layer, Mount, Namespace, Task, TaskName, World, any_among, any_from_among, change_layers, common_steps, each_once, filesystem_numbered, holds_of, is_among, is_member_of, lies_in_layer, list_any, members, only_among, own_lowers, own_mounts, part_of, part_of_filesystem, same_truth, used_directly, used_filesystems, when}
use Rattle.vt_laws_members.proofs.Common.{among-each_once, among-from_each_once, filter_map_same, keep}

any_once : (p : ℕ → Bool) (xs : List ℕ) → list_any p (each_once nat_eq xs) ≡ list_any p xs
any_once p xs =
    grind (arith, common_steps, same_truth, any_among, any_from_among, among-from_each_once, among-each_once)

pub any_both : {A : Type 0} (p : A → Bool) (xs ys : List A) → list_any p (xs ++ ys) ≡ (list_any p xs || list_any p ys)
any_both p [] ys = refl
any_both p (x ∷ xs) ys = grind (arith, common_steps, any_both p xs ys)

pub any_of_each : {A B : Type 0} (p : B → Bool) (g : A → List B) (xs : List A)
    → list_any p (flat_map g xs) ≡ list_any (λ x. list_any p (g x)) xs
any_of_each p g [] = refl
any_of_each p g (x ∷ xs) = cc (any_both p (g x) (flat_map g xs), any_of_each p g xs)

module _ (world : World ℕ) (names set : List TaskName) (tasks : List (Task ℕ)) (change : ℕ) where
  abbrev pub later : World ℕ
  later = record world { tasks = tasks; change = change }

  abbrev old : List (Task ℕ)
  old = members world names

  abbrev new : List (Task ℕ)
  new = members later set

  -- the tasks of the set see what they saw: the same namespaces, mounts, and filesystems
  pub record SeeAlike : Type 0 where
    pub own : (n : ℕ) → list_any (λ (t : Task ℕ). nat_eq n t.namespace) new
        ≡ list_any (λ (t : Task ℕ). nat_eq n t.namespace) old
    pub mounts : (mount : Mount ℕ) → Among mount world.mounts → keep world names new mount ≡ keep world names old mount
    pub direct : (p : ℕ → Bool) → list_any p (used_directly nat_eq later set)
        ≡ list_any p (used_directly nat_eq world names)

  module _ (alike : SeeAlike) where
    used_same : (n : ℕ) → is_among nat_eq n (used_filesystems nat_eq later set)
        ≡ is_among nat_eq n (used_filesystems nat_eq world names)
    used_same n = spread (used_directly nat_eq later set) ∙ (λ i. alike.direct (nat_eq n) i || alike.direct
        (λ k. list_any (nat_eq n) (change_layers (filesystem_numbered nat_eq world k))) i) ∙ sym (spread _)
      where
        spread : (direct : List ℕ) → list_any (nat_eq n)
            (each_once nat_eq (direct ++ flat_map (λ k. change_layers (filesystem_numbered nat_eq world k)) direct))
            ≡ (list_any (nat_eq n) direct
            || list_any (λ k. list_any (nat_eq n) (change_layers (filesystem_numbered nat_eq world k))) direct)
        spread direct = grind (arith, common_steps, any_once, any_both, any_of_each)

    lowers_same : (p : Layer ℕ → Bool)
        → list_any p (own_lowers nat_eq later set) ≡ list_any p (own_lowers nat_eq world names)
    lowers_same p = grind (arith, common_steps, any_of_each)

    owned_same : own_mounts nat_eq later set ≡ own_mounts nat_eq world names
    owned_same i = filter (λ (mount : Mount ℕ). holds_of (λ n. alike.own n i) mount.namespace) world.mounts

    masters_same : (group : ℕ) → cond (list_any (is_member_of nat_eq group) (own_mounts nat_eq later set))
        (world.master group) None
        ≡ cond (list_any (is_member_of nat_eq group) (own_mounts nat_eq world names)) (world.master group) None
    masters_same group = cc owned_same

    shown_same : (x : Filesystem ℕ) → part_of_filesystem nat_eq later set x ≡ part_of_filesystem nat_eq world names x
    shown_same x i = cond (used_same x.number i) (Some x)
        (when (lowers_same (λ layer. nat_eq x.number layer.filesystem) i) (record x {
          files = only_among nat_eq
              (filter (λ object. lowers_same (lies_in_layer nat_eq world x.number object) i) x.files.numbers) x.files;
          change = 0;
        }))

    -- so their part is as it was, but for the tasks
    pub retasked : part_of nat_eq later set ≡ record (part_of nat_eq world names) { tasks = new }
    retasked i = record {
      mounts = filter_map_same (keep world names new) (keep world names old) world.mounts alike.mounts i;
      master = λ group. masters_same group i;
      filesystems = filter_map_same (part_of_filesystem nat_eq later set) (part_of_filesystem nat_eq world names)
          world.filesystems (λ x m. shown_same x) i;
      namespaces = filter (λ (n : Namespace ℕ). alike.own n.number i) world.namespaces;
      tasks = new;
      change = 0;
    }
