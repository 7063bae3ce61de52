-- Whether a namespace has too many mounts once a tree is attached: ENOSPC of mount(2).
use Rattle.std.proofs.Common.{◌≡◌, refl, sym, ap, subst, ◌∙◌, ⊎_elim, ◌+◌, ◌-◌, ◌*◌, ℕ, nat_eq, Bool, true, false, true≢false, List, [], ◌∷◌, map, filter, find, length, take, Option, Some, None, is_some, option_map, unwrap_or, arith, take_all, Contains, drop}
use Rattle.vt_spec.proofs.Common.{Filesystem, Among, Copies, Location, Mount, MountFlags, NamespaceInvariants, Overlay, ToBind, ToMountOverlay, ToMountPlain, ToMove, World, all_from_among, attached_by, bind_tree, contains_from_among, copies_from, evens, group_of, has_too_many, length-map, mount_at, mount_numbered, mount_tree, new_mount, no_mount, odds, overlay_filesystem, parts_of, plain_filesystem, receivers, receivers_of, rest_of, takes_part, with_new_filesystem}
use Rattle.vt_location.specs.declared.mounts.Mount.{Mount as Kept}
use Rattle.vt_location.specs.MountValue.{propagation_of}
use Rattle.vt_location.specs.declared.mounts.Propagation.{Propagation}
use Rattle.vt_location.specs.declared.mounts.Propagation.TheVariants.{Private, Shared, Slave, Unbindable}
use Rattle.vt_location.specs.declared.numbers.GroupId.{GroupId}
use Rattle.vt_location.specs.declared.numbers.MountId.{MountId}
use Rattle.vt_location.specs.declared.numbers.NamespaceId.{NamespaceId}
use Rattle.vt_ns.proofs.Common.{IsHeld, WorldValue, among-from_filter, counted, counts_from, mount_of, mounts_in, world_of}
use Rattle.vt_laws_mounts.proofs.mounts.MountsFound.{found_in}
use Rattle.vt_laws_mounts.proofs.mounts.Standing.{trees_have_each_once}
use Rattle.vt_laws_worlds.proofs.permits.taken.PartsKept.{receivers_there, same_parts}
use Rattle.vt_propagate.specs.Filling.{GrowsBy, MovesFrom, count_in}
use Rattle.vt_propagate.proofs.Counting.{absent_counted, added_counted, moved_all}
use Rattle.vt_laws_worlds.proofs.worlds.FewMounts.{shrinks_few}
use Rattle.vt_mounting.proofs.detach.Leaving.{none_among}
use Rattle.vt_mounting.specs.Detach.Looking.{overfills_of}
use Rattle.vt_mounting.proofs.detach.TreesInNamespaces.{alone_in_tree, in_tree}

pub groupless : (kind : Propagation) → ((group : GroupId) → kind ≡ Shared group → ⊥)
    → group_of (propagation_of kind) ≡ None
groupless (Shared group) apart = absurd (apart group refl)
groupless (Slave group) apart = refl
groupless Private apart = refl
groupless Unbindable apart = refl

-- a mount that is not shared is the only part
pub only_part : (world : World ℕ) (place : Location ℕ) (parent : Mount ℕ)
    → find (λ (mount : Mount ℕ). nat_eq place.mount mount.number) world.mounts ≡ Some parent
    → group_of parent.propagation ≡ None → parent ∷ [] ≡ parts_of nat_eq world place
only_part world place parent found alone =
    let there : mount_at nat_eq world place ≡ parent = ap (λ o. unwrap_or o (no_mount place.mount)) found in
    ap (λ receivers. parent ∷ filter (takes_part nat_eq world place) receivers)
    (sym (ap (λ o. unwrap_or (option_map (receivers nat_eq world) o) []) alone))
    ∙ ap (λ mount. mount ∷ filter (takes_part nat_eq world place) (receivers_of nat_eq world mount)) (sym there)

-- A place on a mount that is not there is in no namespace, and nothing is received there.
module _ (mounts : List (Mount ℕ)) (place : Location ℕ)
    (none : find (λ (mount : Mount ℕ). nat_eq place.mount mount.number) mounts ≡ None) where
  missing_at : (world : World ℕ) → mounts ≡ world.mounts → mount_at nat_eq world place ≡ no_mount place.mount
  missing_at world same =
      ap (λ list. unwrap_or (find (λ (mount : Mount ℕ). nat_eq place.mount mount.number) list) (no_mount place.mount))
      (sym same) ∙ ap (λ o. unwrap_or o (no_mount place.mount)) none

  no_parts : (world : World ℕ) → mounts ≡ world.mounts → (size namespace : ℕ)
      → count_in (parts_of nat_eq world place) namespace * size ≡ 0
  no_parts world same size namespace = ap (λ mount. count_in (mount
      ∷ filter (takes_part nat_eq world place) (receivers_of nat_eq world mount)) namespace * size)
      (missing_at world same) ∙ (let zero : 0 * size ≡ 0 = omega arith in zero)

  -- no namespace overfills where nothing is added
  pub nothing_added : (world : World ℕ) (new : Copies ℕ) (tree : List (Mount ℕ)) → mounts ≡ world.mounts
      → NamespaceInvariants nat_eq world → false ≡ has_too_many nat_eq (attached_by nat_eq world new place false tree)
  nothing_added world new tree same invariants =
      sym (shrinks_few world (attached_by nat_eq world new place false tree) (
        λ namespace. let all = added_counted world place new tree namespace in let zero = no_parts world same
            (length tree) namespace in omega (arith, all, zero),
        refl,
      ) invariants.few_mounts)

module _ (value : WorldValue) (held : IsHeld value) (number : ℕ) (place : Location ℕ) where
  abbrev world : World ℕ
  world = world_of value

  abbrev top : Mount ℕ
  top = mount_numbered nat_eq (world_of value) number

  -- the tree of the mount that moves
  abbrev pub tree : List (Mount ℕ)
  tree = mount_tree nat_eq (mounts_in value.mounts) (mount_numbered nat_eq (world_of value) number)

  -- the numbers of its copies
  abbrev pub new : Copies ℕ
  new = copies_from nat_eq (counts_from value.next) (parts_of nat_eq (world_of value) place)
      (mount_tree nat_eq (mounts_in value.mounts) (mount_numbered nat_eq (world_of value) number))

  abbrev moved : World ℕ
  moved = attached_by nat_eq (world_of value) new place true tree

  -- A mount that is there moves with its descendants, which are in its namespace.
  module _ (mount : Mount ℕ) (found : find (λ (one : Mount ℕ). nat_eq number one.number) (mounts_in value.mounts)
      ≡ Some mount) where
    top_is : top ≡ mount
    top_is = ap (λ o. unwrap_or o (no_mount number)) found

    top_there : Among top (mounts_in value.mounts)
    top_there = subst (λ one. Among one (mounts_in value.mounts)) (sym top_is)
        (found_in (λ (one : Mount ℕ). nat_eq number one.number) (mounts_in value.mounts) mount found).0

    in_it : (o : Option ℕ) → top.namespace ≡ o → (x : Mount ℕ) → Among x tree
        → Among x (mounts_in value.mounts) × (x.namespace ≡ top.namespace)
    in_it (Some namespace) is x m = let own = in_tree value held number namespace is x m in (own.0, own.2 ∙ sym is)
    in_it None is x m = ⊎_elim (λ same. (
      subst (λ y. Among y (mounts_in value.mounts)) (sym same) top_there,
      ap (λ (y : Mount ℕ). y.namespace) same,
    )) (λ none. absurd none)
        (subst (Among x) (alone_in_tree value held number is (length (mounts_in value.mounts))) m)

    -- the tree moves out of the namespace of its mount
    pub moves_from : (namespace : Option NamespaceId)
        → mount.namespace ≡ option_map (λ one. counted one.count) namespace → MovesFrom (world_of value) namespace tree
    moves_from namespace is = record {
      there = all_from_among (Contains (mounts_in value.mounts)) tree
          (λ x m. contains_from_among (mounts_in value.mounts) x (in_it top.namespace refl x m).0);
      inside = all_from_among (λ (x : Mount ℕ). x.namespace
          ≡ option_map (λ (one : NamespaceId). counted one.count) namespace) tree (λ x m.
          (in_it top.namespace refl x m).1 ∙ ap (λ (y : Mount ℕ). y.namespace) top_is ∙ is);
      one_number = held.in_world.mounts.one_number;
      each_once = trees_have_each_once world number held.in_world.mounts.one_number held.in_world.mounts.standing;
    }

    -- onto a mount that is not there
    leaves_alone : find (λ (one : Mount ℕ). nat_eq place.mount one.number) (mounts_in value.mounts) ≡ None
        → false ≡ overfills_of value (ToMove number place)
    leaves_alone none = sym (shrinks_few world moved (
      λ namespace.
          let all = moved_all world place new tree held.in_world.mounts.one_number
          (trees_have_each_once world number held.in_world.mounts.one_number held.in_world.mounts.standing)
          (λ x m. (in_it top.namespace refl x m).0) namespace in
          let zero = no_parts (mounts_in value.mounts) place none world refl (length tree) namespace in
          omega (arith, all, zero),
      refl,
    ) held.in_world.namespaces.few_mounts)

  -- A mount that is not there comes to the receivers alone.
  module _ (missing : find (λ (one : Mount ℕ). nat_eq number one.number) (mounts_in value.mounts) ≡ None) where
    alone : tree ≡ no_mount number ∷ []
    alone = alone_in_tree value held number (ap (λ o. (unwrap_or o (no_mount number)).namespace) missing)
        (length (mounts_in value.mounts)) ∙ ap (λ o. unwrap_or o (no_mount number) ∷ []) missing

    abbrev others : List (Mount ℕ)
    others = rest_of (parts_of nat_eq (world_of value) place)

    counted_so : (namespace : ℕ) → count_in moved.mounts namespace
        ≡ count_in (mounts_in value.mounts) namespace + count_in others namespace * 1
    counted_so namespace = absent_counted world place new tree (no_mount number) alone
        (none_among number (mounts_in value.mounts) missing) namespace
        ∙ ap (λ list. count_in (mounts_in value.mounts) namespace + count_in others namespace * length list) alone

    -- where no mount has the number only copies are added
    pub absent_grows : GrowsBy (world_of value) (attached_by nat_eq (world_of value) new place true tree)
        (rest_of (parts_of nat_eq (world_of value) place)) 1
    absent_grows = record {
      there = all_from_among (Contains (mounts_in value.mounts)) others (λ x m.
          contains_from_among (mounts_in value.mounts) x (receivers_there world (mount_at nat_eq world place) x
          (among-from_filter (takes_part nat_eq world place)
          (receivers_of nat_eq world (mount_at nat_eq world place)) x m).0));
      namespaces = refl;
      counts = counted_so;
    }

    adds_nothing : find (λ (one : Mount ℕ). nat_eq place.mount one.number) (mounts_in value.mounts) ≡ None
        → false ≡ overfills_of value (ToMove number place)
    adds_nothing none = sym (shrinks_few world moved (
      λ namespace.
          let all = counted_so namespace in
          let zero : count_in others namespace * 1 ≡ 0 =
          ap (λ one. count_in (filter (takes_part nat_eq world place)
          (receivers_of nat_eq world one)) namespace * 1)
          (missing_at (mounts_in value.mounts) place none world refl) in
          omega (arith, all, zero),
      refl,
    ) held.in_world.namespaces.few_mounts)

  -- a move onto a mount that is not there overfills no namespace
  pub nowhere_moved : find (λ (one : Mount ℕ). nat_eq place.mount one.number) (mounts_in value.mounts) ≡ None
      → false ≡ overfills_of value (ToMove number place)
  nowhere_moved none = by (find (λ (one : Mount ℕ). nat_eq number one.number) (mounts_in value.mounts)) refl
    where
      by : (o : Option (Mount ℕ)) → find (λ (one : Mount ℕ). nat_eq number one.number) (mounts_in value.mounts) ≡ o
          → false ≡ overfills_of value (ToMove number place)
      by None e = adds_nothing e none
      by (Some mount) e = leaves_alone mount e none

-- what is said of each world with these mounts and the parts of the code's world
abbrev pub TellsAdded : WorldValue → Location ℕ → ℕ → Bool → Type 0
TellsAdded value place size too_many =
    (one : World ℕ) (copies : Copies ℕ) (added : List (Mount ℕ)) → mounts_in value.mounts ≡ one.mounts
    → NamespaceInvariants nat_eq one
    → parts_of nat_eq one place ≡ parts_of nat_eq (world_of value) place → length added ≡ size
    → too_many ≡ has_too_many nat_eq (attached_by nat_eq one copies place false added)

module _ (value : WorldValue) (held : IsHeld value) (place : Location ℕ) (too_many : Bool) where
  -- a filesystem more changes no namespace
  larger_so : (filesystem : Filesystem ℕ)
      → NamespaceInvariants nat_eq (with_new_filesystem (world_of value) filesystem)
  larger_so filesystem = let is = held.in_world.namespaces in record {
    one_namespace = is.one_namespace;
    mounts_listed = is.mounts_listed;
    tasks_listed = is.tasks_listed;
    root_mounts = is.root_mounts;
    namespaces_live = is.namespaces_live;
    few_mounts = is.few_mounts;
  }

  -- code tells whether a new mount overfills a namespace
  pub plain_overfills : (flags : MountFlags) → TellsAdded value place 1 too_many
      → too_many ≡ overfills_of value (ToMountPlain place flags)
  plain_overfills flags tells =
      let fresh = counts_from value.next in
      let filesystem = plain_filesystem nat_eq fresh in
      let larger = with_new_filesystem (world_of value) filesystem in
      let added = new_mount filesystem.number filesystem.files.tree.root flags ∷ [] in
      tells larger (copies_from nat_eq (odds fresh) (parts_of nat_eq larger place) added) added refl (larger_so filesystem)
      (same_parts (world_of value) held.in_world filesystem place) refl

  -- whether a new overlay does
  pub overlay_overfills : (overlay : Overlay ℕ) (flags : MountFlags) → TellsAdded value place 1 too_many
      → too_many ≡ overfills_of value (ToMountOverlay place overlay flags)
  overlay_overfills overlay flags tells =
      let fresh = counts_from value.next in
      let filesystem = overlay_filesystem nat_eq (evens fresh) (world_of value) overlay in
      let larger = with_new_filesystem (world_of value) filesystem in
      let added = new_mount filesystem.number filesystem.files.tree.root flags ∷ [] in
      tells larger (copies_from nat_eq (odds fresh) (parts_of nat_eq larger place) added) added refl (larger_so filesystem)
      (same_parts (world_of value) held.in_world filesystem place) refl

  -- and whether a bind does
  pub bind_overfills : (source : Location ℕ) (recursive : Bool)
      → TellsAdded value place (length (bind_tree nat_eq (world_of value) source recursive)) too_many
      → too_many ≡ overfills_of value (ToBind source place recursive)
  bind_overfills source recursive tells =
      let added = bind_tree nat_eq (world_of value) source recursive in
      tells (world_of value) (copies_from nat_eq (counts_from value.next)
      (parts_of nat_eq (world_of value) place) added) added refl held.in_world.namespaces refl refl

-- what is found as it is kept
pub none_found : (got : Option Kept) (found : Option (Mount ℕ)) → option_map mount_of got ≡ found → is_some got ≡ false
    → found ≡ None
none_found None found is none = sym is
none_found (Some kept) found is none = absurd (true≢false none)

-- the receivers are the parts after the first
pub rest_kept : (kept : List Kept) (mounts : List (Mount ℕ)) → map mount_of kept ≡ mounts
    → rest_of mounts ≡ map mount_of (take (length kept - 1) (drop 1 kept))
rest_kept kept mounts is = ap rest_of (sym is) ∙ by kept
  where
    by : (kept : List Kept) → rest_of (map mount_of kept) ≡ map mount_of (take (length kept - 1) (drop 1 kept))
    by [] = refl
    by (first ∷ rest) = ap (map mount_of) (sym (take_all (length (first ∷ rest) - 1) rest (omega arith)))

-- a tree has as many mounts as its list has numbers
pub tree_sized : (ids : List MountId) (mounts : List (Mount ℕ))
    → map (λ (id : MountId). counted id.count) ids ≡ map (λ (mount : Mount ℕ). mount.number) mounts
    → length mounts ≡ length ids
tree_sized ids mounts same = sym (length-map mounts (λ (mount : Mount ℕ). mount.number)) ∙ ap length (sym same)
    ∙ length-map ids (λ (id : MountId). counted id.count)
