-- What a new mount leaves at a destination that is not shared: one mount more, and the filesystem that it shows.
use Rattle.std.proofs.Common.{arith, ◌≡◌, refl, ap, subst, ◌∙◌, ℕ, nat_eq, eq-eqb, true, false, List, [], ◌∷◌, ◌++◌, None, Some, filter, flat_map, is_some, map, append-nil, if◌then◌else◌}
use Rattle.vt_spec.proofs.Common.{Copies, Filesystem, Fresh, Graft, Location, Mount, MountFlags, Private, Serves, Task, ToMountPlain, World, among_numbers, apply, common_steps, copies_at, copies_from, copy_mount_point, graft_of, group_of, mount_at, mount_numbered, new_mount, number-mount_in, odds, plain_filesystem, moved_onto_copy, receivers_of, takes_part, twig_of, type_at_part, with_new_filesystem}
use Rattle.vt_laws_later_calls.proofs.Common.{found_is_there, is_mount, is_one_of, number_is_old}

-- a mount that is in a namespace is one of the world's
pub attached_is_mount : (world : World ℕ) (number : ℕ) → is_some (mount_numbered nat_eq world number).namespace ≡ true
    → is_mount world number ≡ true
attached_is_mount world number attached = subst (λ n. is_mount world n ≡ true) (number-mount_in world.mounts number)
    (is_one_of world.mounts _ (found_is_there world.mounts number attached))

module _ (fresh : Fresh ℕ) (world : World ℕ) (place : Location ℕ) (flags : MountFlags) where
  -- the filesystem that is mounted
  abbrev pub added_filesystem : Filesystem ℕ
  added_filesystem = plain_filesystem nat_eq fresh

  -- the world with that filesystem
  abbrev larger : World ℕ
  larger = with_new_filesystem world added_filesystem

  -- the mount that it comes onto
  abbrev destination : Mount ℕ
  destination = mount_at nat_eq world place

  -- a mount of the filesystem, before it is attached
  abbrev origin : Mount ℕ
  origin = new_mount added_filesystem.number added_filesystem.files.tree.root flags

  -- the number that the new mount gets, where the destination is the only part
  abbrev new_number : ℕ
  new_number = (copies_from nat_eq (odds fresh) (destination ∷ []) (origin ∷ [])).copy destination.number origin.number

  -- the new mount
  abbrev pub added_mount : Mount ℕ
  added_mount = record {
    number = new_number;
    namespace = destination.namespace;
    mount_point = Some place;
    filesystem = added_filesystem.number;
    root = added_filesystem.files.tree.root;
    flags = flags;
    propagation = Private;
  }

  -- the mounts after the attachment, where these are the receivers that take part
  abbrev mounts_with : List (Mount ℕ) → List (Mount ℕ)
  mounts_with others =
      let parts = destination ∷ others in
      let new = copies_from nat_eq (odds fresh) parts (origin ∷ []) in
      let graft = graft_of nat_eq larger new place false (origin ∷ []) in
      map (moved_onto_copy nat_eq larger new graft parts) world.mounts ++ copies_at nat_eq larger new graft parts destination
      ++ flat_map (copies_at nat_eq larger new graft parts) others

  -- the mounts at the destination, whatever the parts
  abbrev mounts_with_copies : List (Mount ℕ) → List (Mount ℕ)
  mounts_with_copies parts =
      let new = copies_from nat_eq (odds fresh) parts (origin ∷ []) in
      let graft = graft_of nat_eq larger new place false (origin ∷ []) in
      map (moved_onto_copy nat_eq larger new graft parts) world.mounts ++ copies_at nat_eq larger new graft parts destination

  -- the attachment, where the destination is the only part
  abbrev alone_graft : Graft ℕ
  alone_graft = graft_of nat_eq larger (copies_from nat_eq (odds fresh) (destination ∷ []) (origin ∷ [])) place false
      (origin ∷ [])

  -- a mount that is not shared has no receivers
  no_receivers : group_of destination.propagation ≡ None
      → filter (takes_part nat_eq larger place) (receivers_of nat_eq larger destination) ≡ []
  no_receivers unshared = cc

  -- without receivers no mount is pushed up
  nothing_is_pushed : (list : List (Mount ℕ))
      → map (moved_onto_copy nat_eq larger (copies_from nat_eq (odds fresh) (destination ∷ []) (origin ∷ [])) alone_graft
      (destination ∷ [])) list ≡ list
  nothing_is_pushed [] = refl
  nothing_is_pushed (mount ∷ list) = cc (nothing_is_pushed list)

  -- numbers of the new mount
  abbrev alone_copies : Copies ℕ
  alone_copies = copies_from nat_eq (odds fresh) (destination ∷ []) (origin ∷ [])

  -- the new mount stands at the destination
  point_is_destination : copy_mount_point nat_eq alone_copies alone_graft destination.number origin ≡ place
  point_is_destination = ap (λ top. if top then (record { mount = destination.number; node = place.node }) else place)
      (eq-eqb added_filesystem.number added_filesystem.number refl)
      ∙ (λ i. record { mount = number-mount_in world.mounts place.mount i; node = place.node })

  -- and is private
  type_is_private : destination.propagation ≡ Private
      → type_at_part nat_eq larger alone_copies alone_graft (destination ∷ []) destination
      (twig_of alone_copies (group_of destination.propagation) origin) ≡ Private
  type_is_private private = grind (arith, common_steps)

  -- on a private mount one mount comes, the last one
  pub mounts-new_mount : destination.propagation ≡ Private → (task : Task ℕ)
      → (apply nat_eq fresh world task (ToMountPlain place flags)).world.mounts ≡ world.mounts ++ (added_mount ∷ [])
  mounts-new_mount private task = ap mounts_with (no_receivers (cc))
      ∙ append-nil (mounts_with_copies (destination ∷ []))
      ∙ (λ i. nothing_is_pushed world.mounts i ++ (record added_mount {
        mount_point = Some (point_is_destination i);
        propagation = type_is_private private i;
      }) ∷ [])

  -- no group is made
  pub master-new_mount : destination.propagation ≡ Private → (task : Task ℕ)
      → (apply nat_eq fresh world task (ToMountPlain place flags)).world.master ≡ world.master
  master-new_mount private task = grind (arith, common_steps, no_receivers)

  -- the number of the new mount is that of no mount of the world
  pub other_number : Serves nat_eq world fresh → (number : ℕ) → is_mount world number ≡ true
      → nat_eq number added_mount.number ≡ false
  other_number serves number there = number_is_old world fresh serves number (among_numbers _ number there) _
