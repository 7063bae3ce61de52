-- An unshare: the mounts of each namespace.
use Rattle.std.proofs.Common.{arith, ◌≡◌, refl, sym, ap, subst, ◌∙◌, true, false, nat_eq, ℕ, None, Option, Some, eq-eqb, eqb-true, filter, flat_map, map, option_to_list, true≢false, ◌++◌, append-nil}
use Rattle.vt_spec.proofs.Common.{Among, Mount, Namespace, among-append_right, among-from_map, among_from_list_all, among_numbers, and_parts, common_steps, copied_mount, evens, false_from_ne_true, filter-append, filter_all, filter_none, holds_of, is_among_numbers, is_listed, is_root_mount, length-map, list_all, mounts_of, none_from_among, numbers_by, numbers_in_use, odds, used_by_filesystem, used_by_mount}
use Rattle.vt_laws_mounts.specs.Mounts.Namespaces.{NewNamespaceIsEmpty, UnshareCopiesMounts, UnshareKeepsCounts, UnshareLeavesNamespaces}
use Rattle.vt_laws_mounts.proofs.mounts.MountsCounted.{filter-map}
use Rattle.vt_laws_mounts.specs.Mounts.Ending.{is_in}

pub unshare_leaves_namespaces : UnshareLeavesNamespaces
unshare_leaves_namespaces world fresh task namespace other =
    let copied = mounts_of nat_eq world task.namespace in
    let copy = copied_mount (numbers_by nat_eq (odds fresh) copied) (evens fresh 0) in
    filter-append (is_in namespace) world.mounts (map copy copied) ∙ ap (λ l. mounts_of nat_eq world namespace ++ l)
    (filter_none (is_in namespace) (map copy copied) (none_from_among (is_in namespace) (map copy copied) (λ mount m.
    ap (is_in namespace) (among-from_map copy copied mount m).2 ∙ other)))
    ∙ append-nil (mounts_of nat_eq world namespace)

pub new_namespace_is_empty : NewNamespaceIsEmpty
new_namespace_is_empty world fresh serves listed = filter_none (is_in (evens fresh 0)) world.mounts
    (none_from_among (is_in (evens fresh 0)) world.mounts (λ mount m.
    by mount.namespace
    (among_from_list_all (λ (x : Mount ℕ). list_all (is_listed nat_eq world) (option_to_list x.namespace)) world.mounts
    listed mount m)))
  where
    by : (found : Option ℕ) → list_all (is_listed nat_eq world) (option_to_list found) ≡ true
        → holds_of (nat_eq (evens fresh 0)) found ≡ false
    by None e = refl
    by (Some namespace) e = false_from_ne_true (nat_eq (evens fresh 0) namespace) (λ same.
        let there : is_listed nat_eq world namespace ≡ true = (and_parts (is_listed nat_eq world namespace) true e).0 in
        let used : Among namespace (numbers_in_use world) =
        among-append_right (flat_map used_by_mount world.mounts ++ flat_map used_by_filesystem world.filesystems)
        (map (λ (other : Namespace ℕ). other.number) world.namespaces) namespace
        (among_numbers (map (λ (other : Namespace ℕ). other.number) world.namespaces) namespace there) in
        true≢false (sym (is_among_numbers (numbers_in_use world) (evens fresh 0)
        (subst (λ n. Among n (numbers_in_use world)) (sym (eqb-true (evens fresh 0) namespace same)) used))
        ∙ serves.unused 0))

pub unshare_copies_mounts : UnshareCopiesMounts
unshare_copies_mounts world fresh task empty =
    let copied = mounts_of nat_eq world task.namespace in
    let copy = copied_mount (numbers_by nat_eq (odds fresh) copied) (evens fresh 0) in
    filter-append (is_in (evens fresh 0)) world.mounts (map copy copied)
    ∙ ap (λ l. l ++ filter (is_in (evens fresh 0)) (map copy copied)) empty
    ∙ filter_all (is_in (evens fresh 0)) (map copy copied) (λ mount m.
    ap (is_in (evens fresh 0)) (among-from_map copy copied mount m).2 ∙ eq-eqb (evens fresh 0) (evens fresh 0) refl)

pub unshare_keeps_counts : UnshareKeepsCounts
unshare_keeps_counts world fresh task empty =
    let copied = mounts_of nat_eq world task.namespace in let new_number = numbers_by nat_eq (odds fresh) copied in
    let copy = copied_mount new_number (evens fresh 0) in let these = unshare_copies_mounts world fresh task empty in
    grind (
      arith,
      common_steps,
      length-map copied copy,
      filter-map,
      length-map (filter (is_root_mount nat_eq) copied) copy,
    )
