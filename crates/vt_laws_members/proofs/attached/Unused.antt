-- Numbers of a supply are no group of the world, and no filesystem that tasks use.
use Rattle.std.proofs.Common.{arith, ◌≡◌, refl, sym, ap, subst, ◌∙◌, inl, inr, ⊎_elim, ℕ, nat_eq, Bool, true, false, true≢false, List, [], ◌++◌, Option, Some, None, flat_map, map, eqb-true, option_to_list}
use Rattle.vt_spec.proofs.Common.{Among, Filesystem, Fresh, IsWorld, Layer, Location, Mount, Namespace, Overlay, Serves, TaskName, World, among-append, among-append_left, among-append_right, among-flat_map, among-from_filter, among-from_map, among_from_list_all, among_numbers, and_parts, change_layers, common_steps, filesystem_numbered, found_among, found_passes, has_its_root, is_among, is_among_numbers, is_directory_node, is_member_of, is_own_mount, layers_of, locations, members, mount_at, mount_numbered, none_from_among, numbers_in_use, overlay_or, own_mounts, source_of, used_by_filesystem, used_by_mount, used_directly, used_filesystems}
use Rattle.vt_laws_members.proofs.Common.{all_in_use, layer_directory, member_group, numbered, source_from_group}
use Rattle.vt_laws_members.proofs.judging.Common.{overlay_there}
use Rattle.vt_laws_members.proofs.attached.GrownPart.{used_how}
use Rattle.vt_laws_members.proofs.attached.Destination.{located_well}

module _ (world : World ℕ) (names : List TaskName) (is : IsWorld nat_eq world) where
  -- a filesystem of the world has this number
  abbrev IsListed : ℕ → Type 0
  IsListed n = (f : Filesystem ℕ) × Among f world.filesystems × (f.number ≡ n)

  listed_by : (n directory : ℕ)
      → is_directory_node ((filesystem_numbered nat_eq world n).files.tree.node directory) ≡ true → IsListed n
  listed_by n directory = grind (arith, common_steps, true≢false, found_among, eqb-true, found_passes)

  listed_mount : (m : Mount ℕ) → Among m world.mounts → IsListed m.filesystem
  listed_mount m n = listed_by m.filesystem m.root
      (and_parts (is_directory_node ((filesystem_numbered nat_eq world m.filesystem).files.tree.node m.root)) _
      (among_from_list_all (has_its_root nat_eq world) world.mounts is.roots m n)).0

  listed_location : (l : Location ℕ) → Among l (locations (members world names))
      → IsListed (mount_at nat_eq world l).filesystem
  listed_location l m =
      let at = among-from_map (λ (x : Mount ℕ). x.number) world.mounts l.mount
      (among_numbers (map (λ (x : Mount ℕ). x.number) world.mounts) l.mount (located_well world names is l m)) in
      rw (ap (mount_numbered nat_eq world) at.2 ∙ numbered world names is.mounts at.0 at.1) (listed_mount at.0 at.1)

  listed_directly : (n : ℕ) → Among n (used_directly nat_eq world names) → IsListed n
  listed_directly n m = ⊎_elim (λ shown. let x = among-from_map (λ (x : Mount ℕ). x.filesystem) _ n shown in
      rw x.2 (listed_mount x.0 (among-from_filter (is_own_mount nat_eq world names) world.mounts x.0 x.1).0))
      (λ at. let l = among-from_map _ (locations (members world names)) n at in rw l.2 (listed_location l.0 l.1))
      (among-append (map (λ (x : Mount ℕ). x.filesystem) (own_mounts nat_eq world names)) _ n m)

  listed_layer : (d n : ℕ) → Among n (change_layers (filesystem_numbered nat_eq world d)) → IsListed n
  listed_layer d n m = by (filesystem_numbered nat_eq world d).overlay refl m
    where
      changes : Overlay ℕ → List ℕ
      changes overlay =
          map (λ (layer : Layer ℕ). layer.filesystem) (option_to_list overlay.upper ++ option_to_list overlay.work)

      by : (o : Option (Overlay ℕ)) → (filesystem_numbered nat_eq world d).overlay ≡ o
          → Among n (overlay_or [] changes o) → IsListed n
      by None e h = absurd h
      by (Some overlay) e h =
          let layer = among-from_map (λ (layer : Layer ℕ). layer.filesystem) _ n h in
          rw layer.2 (listed_by layer.0.filesystem layer.0.directory (layer_directory world names is
          (filesystem_numbered nat_eq world d) (overlay_there world names is d overlay e) layer.0
          (subst (λ o. Among layer.0 (overlay_or [] layers_of o)) (sym e)
          (among-append_left (option_to_list overlay.upper ++ option_to_list overlay.work) overlay.lowers layer.0
          layer.1))))

  used_listed : (n : ℕ) → is_among nat_eq n (used_filesystems nat_eq world names) ≡ true → IsListed n
  used_listed n used = ⊎_elim (listed_directly n) (λ layer. listed_layer _ n layer.2) (used_how world names n used)

  module _ (fresh : Fresh ℕ) (serves : Serves nat_eq world fresh) where
    pub filesystem_unlike : (f : Filesystem ℕ) → Among f world.filesystems → (k : ℕ) → nat_eq f.number (fresh k) ≡ false
    filesystem_unlike f m k = by (nat_eq f.number (fresh k)) refl
      where
        in_use : is_among nat_eq f.number (numbers_in_use world) ≡ true
        in_use = is_among_numbers (numbers_in_use world) f.number
            (among-append_left (flat_map used_by_mount world.mounts ++ flat_map used_by_filesystem world.filesystems)
            (map (λ (n : Namespace ℕ). n.number) world.namespaces) f.number
            (among-append_right (flat_map used_by_mount world.mounts) (flat_map used_by_filesystem world.filesystems)
            f.number (among-flat_map used_by_filesystem world.filesystems f f.number m (inl refl))))

        by : (b : Bool) → nat_eq f.number (fresh k) ≡ b → b ≡ false
        by true e = absurd (true≢false (sym in_use ∙ ap (λ n. is_among nat_eq n (numbers_in_use world))
            (eqb-true f.number (fresh k) e) ∙ serves.unused k))
        by false e = refl

    pub used_unlike : (n : ℕ) → is_among nat_eq n (used_filesystems nat_eq world names) ≡ true → (k : ℕ)
        → nat_eq n (fresh k) ≡ false
    used_unlike n used k = let f = used_listed n used in cc (f.2, filesystem_unlike f.0 f.1 k)

    pub group_new : (k : ℕ) → world.master (fresh k) ≡ None
    group_new k = (all_in_use world is).groups (fresh k)
        (none_from_among (is_member_of nat_eq (fresh k)) world.mounts (λ m n. by m n _ refl))
      where
        sourced : (m : Mount ℕ) → source_of m.propagation ≡ Some (fresh k) → Among (fresh k) (used_by_mount m)
        sourced m e = inr (rw e (inl refl))

        by : (m : Mount ℕ) → Among m world.mounts → (b : Bool) → is_member_of nat_eq (fresh k) m ≡ b → b ≡ false
        by m n true e = absurd (true≢false (sym (is_among_numbers (numbers_in_use world) (fresh k)
            (among-append_left (flat_map used_by_mount world.mounts ++ flat_map used_by_filesystem world.filesystems)
            (map (λ (n : Namespace ℕ). n.number) world.namespaces) (fresh k)
            (among-append_left (flat_map used_by_mount world.mounts) (flat_map used_by_filesystem world.filesystems)
            (fresh k) (among-flat_map used_by_mount world.mounts m (fresh k) n
            (sourced m (source_from_group m.propagation (fresh k) (member_group (fresh k) m e))))))) ∙ serves.unused k))
        by m n false e = refl
