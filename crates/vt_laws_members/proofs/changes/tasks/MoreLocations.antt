-- Where all is in use, it stays in use if tasks use more locations.
use Rattle.std.proofs.Common.{◌≡◌, inl, inr, ⊎_elim, ℕ, nat_eq, Bool, true, List, ◌++◌, filter, flat_map, is_some, map, filter_map}
use Rattle.vt_spec.proofs.Common.{Among, Filesystem, Location, Mount, Task, World, all_from_among, all_locations, among-append, among-append_left, among-append_right, among-filter, among-from_filter, among-from_map, among-map, among_from_all, among_from_list_all, among_numbers, any_among, any_from_among, is_among_numbers, is_located, layers_in, list_all, list_all_from_among, located_in, locations_of, mount_at, mount_lives, named_in, objects_of_overlay, or_cases, or_left, or_right, root_of, used_in}
use Rattle.vt_laws_members.proofs.Common.{AllInUse, is_inode_used}

module _ (world : World ℕ) (tasks : List (Task ℕ)) (change : ℕ) (is : AllInUse world)
    (more : (location : Location ℕ) → Among location (all_locations world)
    → Among location (flat_map locations_of tasks))
  where
    abbrev later : World ℕ
    later = record world { tasks = tasks; change = change }

    located_too : (number : ℕ) → is_located nat_eq world number ≡ true → is_located nat_eq later number ≡ true
    located_too number h =
        let at = any_among (λ (l : Location ℕ). nat_eq number l.mount) (all_locations world) h in
        any_from_among _ (flat_map locations_of tasks) at.0 (more at.0 at.1) at.2

    lives_too : (mount : Mount ℕ) → mount_lives nat_eq world mount ≡ true → mount_lives nat_eq later mount ≡ true
    lives_too mount h = ⊎_elim (or_left (is_some mount.namespace) _) (λ at. or_right (is_some mount.namespace) _
        (located_too mount.number at)) (or_cases (is_some mount.namespace) (is_located nat_eq world mount.number) h)

    abbrev within : ℕ → Location ℕ → Bool
    within filesystem location = nat_eq filesystem (mount_at nat_eq world location).filesystem

    found_too : (filesystem object : ℕ) → Among object (located_in nat_eq world filesystem)
        → Among object (located_in nat_eq later filesystem)
    found_too filesystem object m =
        let from = among-from_map (λ (l : Location ℕ). l.node) _ object m in
        let in_it = among-from_filter (within filesystem) (all_locations world ++ map root_of world.mounts ++ filter_map
        (λ (mount : Mount ℕ). mount.mount_point) world.mounts) from.0 from.1 in
        rw from.2 (among-map (λ (l : Location ℕ). l.node) (filter (within filesystem)
        (flat_map locations_of tasks ++ map root_of world.mounts ++ filter_map (λ (mount : Mount ℕ). mount.mount_point)
        world.mounts)) from.0 (among-filter (within filesystem) (flat_map locations_of tasks ++ map root_of world.mounts
        ++ filter_map (λ (mount : Mount ℕ). mount.mount_point) world.mounts) from.0 (wider from.0 in_it.0) in_it.1))
      where
        wider : (location : Location ℕ) → Among location (all_locations world ++ map root_of world.mounts
            ++ filter_map (λ (mount : Mount ℕ). mount.mount_point) world.mounts)
            → Among location (flat_map locations_of tasks ++ map root_of world.mounts
            ++ filter_map (λ (mount : Mount ℕ). mount.mount_point) world.mounts)
        wider location n = ⊎_elim (λ first. among-append_left _ _ location
            (⊎_elim (λ at. among-append_left _ _ _ (more location at)) (among-append_right (flat_map locations_of tasks)
            (map root_of world.mounts) location) (among-append (all_locations world) (map root_of world.mounts) location
            first))) (among-append_right (flat_map locations_of tasks ++ map root_of world.mounts)
            (filter_map (λ (mount : Mount ℕ). mount.mount_point) world.mounts) location)
            (among-append (all_locations world ++ map root_of world.mounts)
            (filter_map (λ (mount : Mount ℕ). mount.mount_point) world.mounts) location n)

    used_too : (filesystem : Filesystem ℕ) (object : ℕ) → Among object (used_in nat_eq world filesystem)
        → Among object (used_in nat_eq later filesystem)
    used_too filesystem object m = ⊎_elim inl (λ rest. inr (by rest)) m
      where
        named : List ℕ
        named = named_in filesystem.files

        layered : List ℕ
        layered = layers_in nat_eq world filesystem.number

        merged : List ℕ
        merged = flat_map (objects_of_overlay nat_eq filesystem.number) world.filesystems

        by : Among object (named_in filesystem.files ++ located_in nat_eq world filesystem.number
            ++ layers_in nat_eq world filesystem.number
            ++ flat_map (objects_of_overlay nat_eq filesystem.number) world.filesystems)
            → Among object (named_in filesystem.files ++ located_in nat_eq later filesystem.number
            ++ layers_in nat_eq world filesystem.number
            ++ flat_map (objects_of_overlay nat_eq filesystem.number) world.filesystems)
        by n = ⊎_elim (λ three. among-append_left _ merged object (⊎_elim (λ two. among-append_left _ layered object
            (⊎_elim (among-append_left named (located_in nat_eq later filesystem.number) object)
            (λ at. among-append_right named (located_in nat_eq later filesystem.number) object
            (found_too filesystem.number object at)) (among-append named (located_in nat_eq world filesystem.number)
            object two))) (among-append_right (named ++ located_in nat_eq later filesystem.number) layered object)
            (among-append (named ++ located_in nat_eq world filesystem.number) layered object three)))
            (among-append_right (named ++ located_in nat_eq later filesystem.number ++ layered) merged object)
            (among-append (named ++ located_in nat_eq world filesystem.number ++ layered) merged object n)

    pub in_use_later : AllInUse later
    in_use_later = record {
      mounts = list_all_from_among (mount_lives nat_eq later) world.mounts (λ mount m.
          lives_too mount (among_from_list_all (mount_lives nat_eq world) world.mounts is.mounts mount m));
      filesystems = is.filesystems;
      inodes = all_from_among (λ (f : Filesystem ℕ). list_all (is_inode_used later f) f.files.numbers
          ≡ true) world.filesystems (λ f m. list_all_from_among (is_inode_used later f) f.files.numbers (λ object n.
          is_among_numbers (used_in nat_eq later f) object
          (used_too f object (among_numbers (used_in nat_eq world f) object
          (among_from_list_all (is_inode_used world f) f.files.numbers
          (among_from_all (λ (f : Filesystem ℕ). list_all (is_inode_used world f) f.files.numbers
          ≡ true) world.filesystems is.inodes f m) object n)))));
      groups = is.groups;
    }
