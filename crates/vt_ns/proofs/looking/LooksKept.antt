-- What code finds in what is kept of a world is what the definitions see of its value.
use Rattle.std.proofs.Common.{◌≡◌, refl, sym, ap, subst, ◌∙◌, ℕ, nat_eq, true≢false, Bool, true, false, is_some, not, ◌&&◌, ◌||◌, [], ◌∷◌, zero, suc, length, Option, Some, None, option_map, unwrap_or, find, arith}
use Rattle.vt_spec.proofs.Common.{Node, Tree, chain, child_at, filesystem_at, filesystem_numbered, is_directory_under, is_removed, is_removed_at, last_or, list_any, mount_at, mount_numbered, mounts_on, no_mount, node_at, none_is_some, or-true, root_of, stands_on, common_steps}
use Rattle.vt_spec.specs.Machine.Mounts as meant
use Rattle.vt_spec.specs.Machine.Looks.{topmost}
use Rattle.vt_spec.specs.Machine.Walking.{is_lost}
use Rattle.vt_location.specs.declared.locations.Location.{Location}
use Rattle.vt_location.specs.declared.locations.NodeRef.{NodeRef}
use Rattle.vt_location.specs.declared.mounts.Mount.{Mount}
use Rattle.vt_ns.proofs.Common.{IsHeld, StoreValue, WorldValue, counted, counted_test, files_shown, is_small_node, lent_in, lent_of_world, location_of, looks_of_value, mount_of, mounts_in, number_of, stands_over, with_store, world_of}
use Rattle.vt_location.specs.Numbers.{mount_number}
use Rattle.vt_looks.specs.declared.look.Ground.{Ground}
use Rattle.vt_looks.specs.Looking.{IsGround}
use Rattle.vt_fs.specs.Laws.{is_lost_under}
use Rattle.vt_mounting.specs.Detach.Looking.{is_seen}
use Rattle.vt_store.specs.StoreValue.{files_in}
use Rattle.vt_mounting.proofs.detach.LookLemmas.{any_point, missing_root, under_another, unseen_node, unseen_removed, unseen_root}
use Rattle.vt_ns.proofs.looking.StoreLooked.{lent_shown, under_shown}
use Rattle.vt_ns.specs.Lent.{as_lent, real_of_value}
use Rattle.vt_mount.proofs.PointLemmas.{none_at}

-- the mount that is found, or what stands for one that is not there
module _ (value : WorldValue) (number : ℕ) (got : Option Mount) (is_found : option_map mount_of got
    ≡ find (λ (mount : meant.Mount ℕ). nat_eq number mount.number) (mounts_in value.mounts)) where
  -- a mount that is got is that of the world
  pub mount_found : (mount : Mount) → got ≡ Some mount → mount_numbered nat_eq (world_of value) number ≡ mount_of mount
  mount_found mount is = ap (λ o. unwrap_or o (no_mount number)) (sym is_found ∙ ap (option_map mount_of) is)

  -- where none is got the world has none
  pub mount_missing : got ≡ None → mount_numbered nat_eq (world_of value) number ≡ no_mount number
  mount_missing is = ap (λ o. unwrap_or o (no_mount number)) (sym is_found ∙ ap (option_map mount_of) is)

-- what is shown at a location of a world that holds a store
module _ (base : WorldValue) (store : StoreValue) (value : WorldValue) (is : with_store store base ≡ value)
    (held : IsHeld (with_store store base)) (at : Location) (small : is_small_node at.node ≡ true) where
  abbrev kept : WorldValue
  kept = with_store store base

  abbrev count : ℕ
  count = at.node.filesystem.count

  abbrev number : ℕ
  number = number_of at.node

  -- of one that is seen the mount shows its filesystem
  in_filesystem : is_seen kept at ≡ true
      → (mount_at nat_eq (world_of kept) (location_of at)).filesystem ≡ counted at.node.filesystem.count
  in_filesystem seen = grind (arith, common_steps)

  -- the object of a node on the mount of a location that is seen is lent
  pub object_beside : (beside : ℕ) → is_seen value at ≡ true → lent_in store at.node.filesystem.count beside
      ≡ real_of_value value (record { mount = mount_number at.mount; node = beside })
  object_beside beside = subst (λ (v : WorldValue). is_seen v at ≡ true → lent_in store at.node.filesystem.count beside
      ≡ real_of_value v (record { mount = mount_number at.mount; node = beside })) is
      (λ seen. lent_shown base store held count beside
      ∙ ap (λ n. as_lent ((filesystem_numbered nat_eq (world_of kept) n).files.tree.node beside)
      (lent_of_world (world_of kept) n beside)) (sym (in_filesystem seen)))

  -- so is that of its own
  pub object_is : is_seen value at ≡ true
      → lent_in store at.node.filesystem.count (number_of at.node) ≡ real_of_value value (location_of at)
  object_is = object_beside number

  -- and the inode is that of the world
  pub node_is : is_seen value at ≡ true → (files_in store at.node.filesystem.count).tree.node (number_of at.node)
      ≡ node_at nat_eq (world_of value) (location_of at)
  node_is = subst (λ (v : WorldValue). is_seen v at ≡ true
      → (files_in store at.node.filesystem.count).tree.node (number_of at.node)
      ≡ node_at nat_eq (world_of v) (location_of at)) is
      (λ seen. ap (λ (tree : Tree ℕ). tree.node number) (files_shown base store held count)
      ∙ ap (λ n. (filesystem_numbered nat_eq (world_of kept) n).files.tree.node number) (sym (in_filesystem seen)))

  -- at one that is not seen the world has none
  pub no_node : is_seen value at ≡ false → node_at nat_eq (world_of value) (location_of at) ≡ None
  no_node = subst (λ (v : WorldValue). is_seen v at ≡ false → node_at nat_eq (world_of v) (location_of at) ≡ None) is
      (unseen_node kept held at small)

  pub no_object : is_seen value at ≡ false → real_of_value value (location_of at) ≡ None
  no_object unseen =
      ap (λ o. as_lent o (lent_of_world (world_of value) (mount_at nat_eq (world_of value) (location_of at)).filesystem
      (number_of at.node))) (no_node unseen)

  -- so what is there is seen
  pub seen_if_there : is_some (node_at nat_eq (world_of value) (location_of at)) ≡ true → is_seen value at ≡ true
  seen_if_there there = by (is_seen value at) refl
    where
      by : (b : Bool) → is_seen value at ≡ b → b ≡ true
      by true e = refl
      by false e = absurd (true≢false (sym there ∙ ap is_some (no_node e)))

  -- and what is lent
  pub seen_if_lent : (object : Node ℕ) → real_of_value value (location_of at) ≡ Some object → is_seen value at ≡ true
  seen_if_lent object lent = by (is_seen value at) refl
    where
      by : (b : Bool) → is_seen value at ≡ b → b ≡ true
      by true e = refl
      by false e = none_is_some object (sym (no_object e) ∙ lent)

  -- a directory that is seen is removed just where that of the world is
  pub removed_is : is_seen value at ≡ true
      → is_removed nat_eq (files_in store at.node.filesystem.count).tree (number_of at.node)
      ≡ is_removed_at nat_eq (world_of value) (location_of at)
  removed_is = subst (λ (v : WorldValue). is_seen v at ≡ true
      → is_removed nat_eq (files_in store at.node.filesystem.count).tree (number_of at.node)
      ≡ is_removed_at nat_eq (world_of v) (location_of at)) is
      (λ seen. ap (λ (tree : Tree ℕ). is_removed nat_eq tree number) (files_shown base store held count)
      ∙ ap (λ n. is_removed nat_eq (filesystem_numbered nat_eq (world_of kept) n).files.tree number)
      (sym (in_filesystem seen)))

  -- one that is not seen is removed
  pub removed_unseen : is_seen value at ≡ false → is_removed_at nat_eq (world_of value) (location_of at) ≡ true
  removed_unseen =
      subst (λ (v : WorldValue). is_seen v at ≡ false → is_removed_at nat_eq (world_of v) (location_of at) ≡ true) is
      (unseen_removed kept held at small)

  -- a directory lies under another just where the world has it so
  pub under_is : (directory : NodeRef) → is_seen value at ≡ true
      → is_directory_under nat_eq (files_in store at.node.filesystem.count) (number_of at.node) (number_of directory)
      ≡ is_directory_under nat_eq (filesystem_at nat_eq (world_of value) (location_of at)).files (number_of at.node)
      (number_of directory)
  under_is directory = subst (λ (v : WorldValue). is_seen v at ≡ true
      → is_directory_under nat_eq (files_in store at.node.filesystem.count) (number_of at.node) (number_of directory)
      ≡ is_directory_under nat_eq (filesystem_at nat_eq (world_of v) (location_of at)).files (number_of at.node)
      (number_of directory)) is (λ seen. under_shown base store held count number (number_of directory)
      ∙ ap (λ n. is_directory_under nat_eq (filesystem_numbered nat_eq (world_of kept) n).files number
      (number_of directory)) (sym (in_filesystem seen)))

  -- none lies under one of another filesystem
  pub under_apart : (directory : NodeRef) → is_small_node directory ≡ true
      → (is_seen value at && nat_eq directory.filesystem.count at.node.filesystem.count) ≡ false
      → nat_eq (number_of at.node) (number_of directory)
      ≡ is_directory_under nat_eq (filesystem_at nat_eq (world_of value) (location_of at)).files (number_of at.node)
      (number_of directory)
  under_apart directory directory_small =
      subst (λ (v : WorldValue). (is_seen v at && nat_eq directory.filesystem.count at.node.filesystem.count) ≡ false
      → nat_eq (number_of at.node) (number_of directory)
      ≡ is_directory_under nat_eq (filesystem_at nat_eq (world_of v) (location_of at)).files (number_of at.node)
      (number_of directory)) is (λ apart. sym (under_another kept held at small directory directory_small apart))

  -- a mount that passes stands on an inode that is seen just where one does in the world
  pub points_seen : (test : meant.Mount ℕ → Bool) → is_seen value at ≡ true
      → list_any (λ mount. stands_over (number_of at.node) mount && test mount) (mounts_in base.mounts)
      ≡ list_any test (mounts_on nat_eq (world_of value) (location_of at))
  points_seen test = subst (λ (v : WorldValue). is_seen v at ≡ true
      → list_any (λ mount. stands_over (number_of at.node) mount && test mount) (mounts_in base.mounts)
      ≡ list_any test (mounts_on nat_eq (world_of v) (location_of at))) is
      (λ seen. sym (any_point kept held at small test
      ∙ ap (λ b. b && list_any (λ mount. stands_over (number_of at.node) mount && test mount)
      (mounts_in base.mounts)) seen))

  -- none stands on one that is not seen
  pub no_points : (test : meant.Mount ℕ → Bool) → is_seen value at ≡ false
      → list_any test (mounts_on nat_eq (world_of value) (location_of at)) ≡ false
  no_points test = subst (λ (v : WorldValue). is_seen v at ≡ false
      → list_any test (mounts_on nat_eq (world_of v) (location_of at)) ≡ false) is
      (λ unseen. any_point kept held at small test
      ∙ ap (λ b. b && list_any (λ mount. stands_over (number_of at.node) mount && test mount)
      (mounts_in base.mounts)) unseen)

  -- lost on the mount, as it is found
  module _ (got : Option Mount) (is_found : option_map mount_of got
      ≡ find (λ (mount : meant.Mount ℕ). nat_eq (counted at.mount.count) mount.number) (mounts_in base.mounts)) where
    abbrev IsLost : Bool → WorldValue → Type 0
    IsLost answer v = answer ≡ is_lost nat_eq (looks_of_value v) (location_of at)

    -- a location is lost on its mount just where its tree has it so
    pub lost_is : (mount : Mount) → got ≡ Some mount
        → IsLost (is_lost_under (files_in store mount.root.filesystem.count) (number_of mount.root)
        (number_of at.node)) value
    lost_is mount some =
        subst (IsLost (is_lost_under (files_in store mount.root.filesystem.count) (number_of mount.root)
        (number_of at.node))) is
        ((λ i. is_removed nat_eq (files_shown base store held mount.root.filesystem.count i) number
        || not (under_shown base store held mount.root.filesystem.count (number_of mount.root) number i))
        ∙ sym (ap (λ (m : meant.Mount ℕ). is_lost_under
        (filesystem_numbered nat_eq (world_of kept) m.filesystem).files m.root (number_of at.node))
        (mount_found kept (counted at.mount.count) got is_found mount some)))

    not_under : (v : WorldValue) → is_directory_under nat_eq (filesystem_at nat_eq (world_of v) (location_of at)).files
        (mount_at nat_eq (world_of v) (location_of at)).root (number_of at.node) ≡ false → IsLost true v
    not_under v apart = sym (ap (λ b. is_removed_at nat_eq (world_of v) (location_of at) || not b) apart ∙ or-true _)

    -- it is lost where the root is in another filesystem
    pub lost_apart : (mount : Mount) → got ≡ Some mount
        → nat_eq mount.root.filesystem.count at.node.filesystem.count ≡ false → IsLost true value
    lost_apart mount some other = subst (IsLost true) is (not_under kept (unseen_root kept held at small
        (ap (λ (m : meant.Mount ℕ). nat_eq m.filesystem (counted at.node.filesystem.count))
        (mount_found kept (counted at.mount.count) got is_found mount some)
        ∙ counted_test mount.root.filesystem.count at.node.filesystem.count ∙ other)))

    -- and where the mount is not there
    pub lost_missing : got ≡ None → IsLost true value
    lost_missing none = subst (IsLost true) is (not_under kept
        (missing_root kept held at small (mount_missing kept (counted at.mount.count) got is_found none)))

last_of_chain : (n : ℕ) (next : meant.Location ℕ → Option (meant.Location ℕ)) (at : meant.Location ℕ) → next at ≡ None
    → last_or at (chain n next at) ≡ at
last_of_chain zero next at none = refl
last_of_chain (suc n) next at none = ap
    (λ o. last_or at (elim o [ None ↦ at ∷ [] | Some b ↦ at ∷ chain n next b ])) none

-- the filesystem that a mount shows, if it is there
pub shown_there : (number filesystem : ℕ) (o : Option (meant.Mount ℕ))
    → option_map (λ mount. mount.filesystem) o ≡ Some filesystem
    → filesystem ≡ (unwrap_or o (no_mount number)).filesystem
shown_there number filesystem None is = absurd cc
shown_there number filesystem (Some mount) is = cc

-- where none stands on a mount its locations are topmost
pub bare_top : (value : WorldValue) (mount : ℕ) → list_any (stands_on nat_eq mount) (mounts_in value.mounts) ≡ false
    → (at : meant.Location ℕ) → at.mount ≡ mount → topmost (looks_of_value value) at ≡ at
bare_top value mount none at on = last_of_chain (length (mounts_in value.mounts))
    (λ here. option_map root_of (child_at nat_eq (mounts_in value.mounts) here)) at
    (ap (option_map root_of) (none_at at (mounts_in value.mounts)
    (ap (λ n. list_any (stands_on nat_eq n) (mounts_in value.mounts)) on ∙ none)))

-- an inode that is in the filesystem of the ground is seen
pub seen_on : (value : WorldValue) (at : Location) (ground : Ground) (b : Bool)
    → IsGround (looks_of_value value) at.mount ground
    → nat_eq ground.filesystem.count at.node.filesystem.count ≡ b → is_seen value at ≡ b
seen_on value at ground b is same = grind (arith, common_steps)
