-- The numbers of the world in which an overlay and its mounts have come: those of before, even ones, and the counts that
-- were taken.
use Rattle.std.proofs.Common.{◌≡◌, sym, subst, ◌∙◌, ⊎_elim, ℕ, ◌+◌, ◌*◌, ◌<◌, nat_eq, true, false, List, [], ◌∷◌, ◌++◌, length, map, flat_map, arith, All}
use Rattle.vt_spec.proofs.Common.{Filesystem, Fresh, IsWorld, ListsNumbers, Location, Mount, MountFlags, Namespace, World, attach, common_steps, new_mount, parts_of, renamed, renamed_location, used_by_filesystem, used_by_mount}
use Rattle.vt_mounting.proofs.Common.{Among, HasOwnNodes, IsHeld, KeepsTo, WorldValue, among-append, among-append_left, among-append_right, among-from_flat_map, among_from_all, among_numbers, counted, counted_later, counts_from, is_among_numbers, is_counted_before, leaves_two, used_numbers_are_named, world_of}
use Rattle.vt_laws_worlds.proofs.one_text.in_use.InUseServes.{any_worlds_keep_to_numbers_in_use}
use Rattle.vt_laws_worlds.proofs.permits.taken.TakenHanded.{counted_here}
use Rattle.vt_laws_rules.proofs.numbers.Commuting.{Named, commutes_nat}
use Rattle.vt_laws_rules.proofs.numbers.Renamings.{named_world, renamed_itself}
use Rattle.vt_mounting.proofs.detach.FilesSeen.{nodes_named}
use Rattle.vt_mounting.proofs.attach.NumbersByParts.{attach_same}

-- a supply, a world, a place, and the number and the root of a new mount
abbrev Handed : Type 0 → Type 0
Handed A = Fresh A × World A × Location A × A × A

abbrev named_handed : Named Handed
named_handed = record {
  rename = λ A B there back handed. (
    λ k. there (handed.0 k),
    renamed there back handed.1,
    renamed_location there back handed.2,
    there handed.3,
    there handed.4,
  );
  itself = λ A handed i. (handed.0, renamed_itself handed.1 i, handed.2, handed.3, handed.4);
}

-- A new mount that is attached at a place of the code's world, with counts from the next one on
pub record IsNumbered (value : WorldValue) (place : Location ℕ) (root : ℕ) (fresh : Fresh ℕ) : Type 0 where
  pub whole : IsHeld value
  pub counts : (k : ℕ) → fresh k ≡ counts_from value.next (2 * k + 1)
  pub mount_is_named : is_counted_before value.next place.mount ≡ true
  pub node_is_named : is_counted_before value.next place.node ≡ true
  pub root_is_named : is_counted_before value.next root ≡ true

module _ {value : WorldValue} {place : Location ℕ} {root : ℕ} {fresh : Fresh ℕ} (it : IsNumbered value place root fresh)
    (flags : MountFlags) where
  open it use {whole, counts, mount_is_named, node_is_named, root_is_named}

  abbrev taken : ℕ
  taken = 4 * length (parts_of nat_eq (world_of value) place)

  abbrev tree : List (Mount ℕ)
  tree = new_mount (counted value.next) root flags ∷ []

  abbrev pub attached_there : World ℕ
  attached_there = attach nat_eq (world_of value) fresh place false (new_mount (counted value.next) root flags ∷ [])

  some : 0 < length (parts_of nat_eq (world_of value) place)
  some = omega arith

  pub own_number_named : is_counted_before (value.next + 4 * length (parts_of nat_eq (world_of value) place))
      (counted value.next) ≡ true
  own_number_named = grind (arith, common_steps)

  later : (number : ℕ) → is_counted_before value.next number ≡ true
      → is_counted_before (value.next + taken) number ≡ true
  later number known = counted_later value.next (value.next + taken) number (omega arith) known

  -- it keeps to the counts that were taken
  pub keeps_there : KeepsTo (is_counted_before (value.next + 4 * length (parts_of nat_eq (world_of value) place)))
      (attach nat_eq (world_of value) fresh place false (new_mount (counted value.next) root flags ∷ []))
  keeps_there renaming leaves =
      let old = λ (number : ℕ) (known : is_counted_before value.next number ≡ true).
      leaves number (later number known) in
      sym (commutes_nat Handed World named_handed named_world
      (λ A eq handed. attach eq handed.1 handed.0 handed.2 false (new_mount handed.3 handed.4 flags ∷ [])) renaming
      (fresh, world_of value, place, counted value.next, root))
      ∙ (λ i. attach nat_eq (whole.given renaming old i) (λ k. renaming.there (fresh k)) (record {
        mount = old place.mount mount_is_named i;
        node = old place.node node_is_named i;
      }) false (new_mount (leaves (counted value.next) own_number_named i) (old root root_is_named i) flags ∷ []))
      ∙ attach_same (world_of value) place false tree (omega arith) (λ k. renaming.there (fresh k)) fresh
      (λ k low. leaves (fresh k) (subst (λ n. is_counted_before (value.next + taken) n ≡ true) (sym (counts k))
      (counted_here value.next taken (2 * k + 1) (omega (arith, low)))))

  -- A world with its mounts, whose filesystems have such numbers
  module _ {entered : World ℕ} (is_world : IsWorld nat_eq entered)
      (mounts_are : entered.mounts ≡ (attach nat_eq (world_of value) fresh place false
      (new_mount (counted value.next) root flags ∷ [])).mounts)
      (namespaces_are : entered.namespaces ≡ (world_of value).namespaces) (own : All HasOwnNodes entered.filesystems)
      (files_named : (f : Filesystem ℕ) → Among f entered.filesystems
      → is_counted_before (value.next + 4 * length (parts_of nat_eq (world_of value) place)) f.number ≡ true) where
    abbrev named : ℕ → Type 0
    named number = is_counted_before (value.next + taken) number ≡ true

    mounts_named : (number : ℕ) → Among number (flat_map used_by_mount entered.mounts) → named number
    mounts_named number m = used_numbers_are_named (is_counted_before (value.next + taken)) attached_there keeps_there
        (leaves_two (value.next + taken)) number (is_among_numbers number (mounts_used ++ files_used ++ namespaces_used)
        (among-append_left (mounts_used ++ files_used) namespaces_used number
        (among-append_left mounts_used files_used number
        (subst (λ list. Among number (flat_map used_by_mount list)) mounts_are m))))
      where
        mounts_used : List ℕ
        mounts_used = flat_map used_by_mount attached_there.mounts

        files_used : List ℕ
        files_used = flat_map used_by_filesystem attached_there.filesystems

        namespaces_used : List ℕ
        namespaces_used = map (λ (namespace : Namespace ℕ). namespace.number) attached_there.namespaces

    inodes_named : (f : Filesystem ℕ) → Among f entered.filesystems → (number : ℕ) → Among number f.files.numbers
        → named number
    inodes_named f m number n =
        let there = sym (among_from_all (λ (g : Filesystem ℕ). ListsNumbers nat_eq g.files) entered.filesystems
        is_world.files.numbers f m number) ∙ is_among_numbers number f.files.numbers n in
        let node = among_from_all HasOwnNodes entered.filesystems own f m number there in
        subst named (sym node.3) (nodes_named (value.next + taken) node.0)

    namespaces_named : (number : ℕ)
        → Among number (map (λ (namespace : Namespace ℕ). namespace.number) entered.namespaces) → named number
    namespaces_named number m = later number
        (used_numbers_are_named (is_counted_before value.next) (world_of value) whole.given (leaves_two value.next)
        number (is_among_numbers number ((flat_map used_by_mount (world_of value).mounts
        ++ flat_map used_by_filesystem (world_of value).filesystems) ++ numbers)
        (among-append_right (flat_map used_by_mount (world_of value).mounts
        ++ flat_map used_by_filesystem (world_of value).filesystems) numbers number
        (subst (λ list. Among number (map (λ (namespace : Namespace ℕ). namespace.number) list)) namespaces_are m))))
      where
        numbers : List ℕ
        numbers = map (λ (namespace : Namespace ℕ). namespace.number) (world_of value).namespaces

    pub entered_keeps : KeepsTo (is_counted_before (value.next + 4 * length (parts_of nat_eq (world_of value) place)))
        entered
    entered_keeps =
        any_worlds_keep_to_numbers_in_use (is_counted_before (value.next + taken)) entered is_world (λ number used.
        ⊎_elim (λ front. ⊎_elim (mounts_named number)
        (λ file. let from = among-from_flat_map used_by_filesystem entered.filesystems number file in
        ⊎_elim (λ same. subst named (sym same) (files_named from.0 from.1)) (inodes_named from.0 from.1 number) from.2)
        (among-append (flat_map used_by_mount entered.mounts) (flat_map used_by_filesystem entered.filesystems) number
        front)) (namespaces_named number)
        (among-append (flat_map used_by_mount entered.mounts ++ flat_map used_by_filesystem entered.filesystems)
        (map (λ (namespace : Namespace ℕ). namespace.number) entered.namespaces) number
        (among_numbers number ((flat_map used_by_mount entered.mounts
        ++ flat_map used_by_filesystem entered.filesystems)
        ++ map (λ (namespace : Namespace ℕ). namespace.number) entered.namespaces) used)))
