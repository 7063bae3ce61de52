-- The tables of each call: their rules are the call's own, and each that is asked after the walks is in the policy's
-- order.
use Rattle.std.proofs.Common.{arith, ◌≡◌, refl, ℕ, Bool, List, None, Some, false, nat_eq, nat_le, true, ◌++◌, ◌∷◌, [], ◌&&◌, ◌+◌}
use Rattle.vt_spec.proofs.Common.{Call, common_steps, Bind, Change, Chdir, Chmod, Chown, Chroot, Close, Descriptor, Exclusive, Exec, Here, LayerLocations, Lazy, LinkTo, Location, Looks, Ls, Lstat, MakeWhiteout, Mkdir, MountOverlay, MountPlain, MoveMount, NoCreation, Opaque, OpenFile, OrCreate, PivotRoot, Place, Pread, Pwrite, Read, ReadOnly, ReadWrite, Readlink, Remount, Rename, Rmdir, Rules, SetBytes, SetType, Setns, Stat, SymlinkAt, Task, Umount, Unlink, World, Write, WriteOnly, file_mode, linking, looks_of, mounter_rules, moving, new_file, object_there, removing, unnumbered, ⊤, SetAttr, attr_at, attr_with_mode, attr_with_owner}
use Rattle.vt_laws_rules.specs.RuleRanks.{is_among, is_in_order_from, rank}
use Rattle.vt_laws_rules.proofs.rules.Outcomes.{among_more, are_own}
use Rattle.vt_spec.specs.Machine.Judging.Judging.{Attaches, Checks, FindsFile, FindsTask, Grants, IfSo, IfThere, Layers, Names, Needs, Refuses, Walks, Words}
use Rattle.vt_spec.specs.declared.errors.Rule.TheVariants.{B1, B2, C2, S2, S4, W9}
use Rattle.vt_spec.specs.Machine.Judging.{Judging, judging, directory_made, symlink_made}
use Rattle.vt_spec.specs.declared.errors.Rule.{Rule}
use Rattle.vt_spec.specs.Machine.Rules.Descriptors.{copy_rules, is_copied_up}
use Rattle.vt_laws_rules.specs.RuleOrder.{has_path, rules_of, walk_rules}
use Rattle.vt_laws_rules.specs.Asked.{last_word_rules}

-- a test that has to pass before
abbrev pub IfTrue : Bool → Type 0 → Type 0
IfTrue true A = A
IfTrue false A = ⊥

pub if_true : {A : Type 0} (test : Bool) → IfTrue test A → (test ≡ true) × A
if_true true a = (refl, a)
if_true false none = absurd none

module _ (own words : List Rule) (walks : Bool) where
  -- a table that is asked after the walks
  abbrev pub Fits : Rules → Type 0
  Fits rules = (are_own own rules && is_in_order_from (rank W9 + 1) rules) ≡ true

  -- the tables of a call, S and K rules `before` its walks alone
  abbrev pub Tabled : (before : Bool) → Judging ℕ → Type 0
  Tabled before (Grants permit) = ⊤
  Tabled before (Checks rules permit) = Fits rules
  Tabled before (Attaches rules permit) = (overfull : Bool) → Fits (rules overfull)
  Tabled before (Refuses rule) = Fits ((true, rule) ∷ [])
  Tabled before (Needs rules next) = IfTrue (before && are_own own rules) (Tabled before next)
  Tabled before (FindsFile number fits next) =
      IfTrue (before && is_among S4 own) ((descriptor : Descriptor ℕ) → Tabled before (next descriptor))
  Tabled before (FindsTask name next) =
      IfTrue (before && is_among S2 own) ((namespace : ℕ) → Tabled before (next namespace))
  Tabled before (Walks aim path next) = IfTrue walks ((here : Here ℕ) → Tabled false (next here))
  Tabled before (Names aim path next) = IfTrue walks ((place : Place ℕ) → Tabled false (next place))
  Tabled before (Layers layers next) = IfTrue walks ((found : LayerLocations ℕ) → Tabled false (next found))
  Tabled before (Words rules next) =
      IfTrue (are_own own rules && are_own (walk_rules ++ words) rules) (Tabled false next)
  Tabled before (IfThere object there missing) =
      ((file : Location ℕ) → Tabled false (there file)) × Tabled false missing
  Tabled before (IfSo test so otherwise) = Tabled false so × Tabled false otherwise

-- the rules of walks are among those of a call with a path
pub walks_of : (call : Call) → has_path call ≡ true → (rule : Rule) → is_among rule walk_rules ≡ true
    → is_among rule (rules_of call) ≡ true
walks_of call path rule among = grind (arith, common_steps, among_more)

-- what the mounter of an overlay is asked, by a call that may be refused by B1 and B2, stands last
mounter_fits : (own : List Rule) (least : ℕ) → is_among B1 own ≡ true → is_among B2 own ≡ true
    → nat_le least (rank B1) ≡ true → (world : World ℕ) (location : Location ℕ) (change : Change ℕ)
    → (are_own own (mounter_rules nat_eq world location change)
    && is_in_order_from least (mounter_rules nat_eq world location change)) ≡ true
mounter_fits own least b1 b2 e world location change = grind (arith, common_steps, are_own)

-- and of a file that is copied up when it is opened
copy_fits : (own : List Rule) → is_among B1 own ≡ true → is_among B2 own ≡ true
    → (copied : Bool) (world : World ℕ) (file : Location ℕ)
    → (are_own own (copy_rules copied (looks_of nat_eq world) file)
    && is_in_order_from (rank B1) (copy_rules copied (looks_of nat_eq world) file)) ≡ true
copy_fits own b1 b2 copied world file = grind (arith, common_steps, are_own)

module _ (world : World ℕ) (task : Task ℕ) where
  abbrev looks : Looks ℕ
  looks = looks_of nat_eq world

  by_mounter : (call : Call) → is_among B1 (rules_of call) ≡ true → is_among B2 (rules_of call) ≡ true
      → (location : Location ℕ) (change : Change ℕ)
      → (are_own (rules_of call) (mounter_rules nat_eq world location change)
      && is_in_order_from (rank B1) (mounter_rules nat_eq world location change)) ≡ true
  by_mounter call b1 b2 location change = mounter_fits (rules_of call) (rank B1) b1 b2 refl world location change

  pub call_tables : (call : Call)
      → Tabled (rules_of call) (last_word_rules call) (has_path call) true (judging nat_eq looks task call)
  unfolding judging
  call_tables (Ls path) = λ here. refl
  call_tables (Stat path) = λ here. tt
  call_tables (Lstat path) = λ here. tt
  call_tables (Readlink path) = λ here. refl
  call_tables (Read path) = λ here. refl
  call_tables (Write path bytes) = λ place. (
    λ file. by_mounter (Write path bytes) refl refl file (SetBytes file.node bytes),
    by_mounter (Write path bytes) refl refl place.parent (unnumbered place (new_file task file_mode bytes)),
  )
  call_tables (Exec path) = λ here. refl
  call_tables (Mkdir path mode) = λ place.
      by_mounter (Mkdir path mode) refl refl place.parent (unnumbered place (directory_made task place mode))
  call_tables (SymlinkAt text path) = λ place.
      by_mounter (SymlinkAt text path) refl refl place.parent (unnumbered place (symlink_made task text))
  call_tables (MakeWhiteout path) = λ place. refl
  call_tables (LinkTo old new) = λ from place.
      by_mounter (LinkTo old new) refl refl place.parent (linking from.location place)
  call_tables (Unlink path) = λ place.
      by_mounter (Unlink path) refl refl place.parent (removing place (object_there place))
  call_tables (Rmdir path) = λ place.
      by_mounter (Rmdir path) refl refl place.parent (removing place (object_there place))
  call_tables (Rename old new) = λ from to.
      (refl, by_mounter (Rename old new) refl refl from.parent (moving from to (object_there from)))
  call_tables (Chmod path mode) = λ here.
      mounter_fits (rules_of (Chmod path mode)) (rank C2) refl refl refl world here.location
      (SetAttr here.location.node (attr_with_mode (attr_at looks here.location) mode))
  call_tables (Chown path uid gid) = λ here.
      mounter_fits (rules_of (Chown path uid gid)) (rank C2) refl refl refl world here.location
      (SetAttr here.location.node (attr_with_owner (attr_at looks here.location) uid gid))
  call_tables (Opaque path mark) = λ here. refl
  call_tables (OpenFile path ReadOnly NoCreation) = λ here. refl
  call_tables (OpenFile path WriteOnly NoCreation) = λ here.
      copy_fits (rules_of (OpenFile path WriteOnly NoCreation)) refl refl (is_copied_up looks here.location WriteOnly) world
      here.location
  call_tables (OpenFile path ReadWrite NoCreation) = λ here.
      copy_fits (rules_of (OpenFile path ReadWrite NoCreation)) refl refl (is_copied_up looks here.location ReadWrite) world
      here.location
  call_tables (OpenFile path access (OrCreate mode)) = λ place. (
    λ file. copy_fits (rules_of (OpenFile path access (OrCreate mode))) refl refl (is_copied_up looks file access)
        world file,
    by_mounter (OpenFile path access (OrCreate mode)) refl refl place.parent (unnumbered place (new_file task mode [])),
  )
  call_tables (OpenFile path access (Exclusive mode)) = λ place.
      by_mounter (OpenFile path access (Exclusive mode)) refl refl place.parent (unnumbered place (new_file task mode []))
  call_tables (Pread number offset size) = λ descriptor. tt
  call_tables (Pwrite number offset bytes) = λ descriptor. refl
  call_tables (Close number) = λ descriptor. tt
  call_tables (Chdir path) = λ here. refl
  call_tables (Chroot path) = λ here. refl
  call_tables (Setns name) = λ namespace. tt
  call_tables (MountPlain path flags) = λ here overfull. refl
  call_tables (MountOverlay path None flags) = λ here. refl
  call_tables (MountOverlay path (Some words) flags) = λ here layers overfull. refl
  call_tables (Bind source path recursive) = λ from here overfull. refl
  call_tables (MoveMount source path) = λ from here overfull. refl
  call_tables (Umount path) = λ here. refl
  call_tables (Lazy path) = λ here. refl
  call_tables (Remount path flags) = λ here. refl
  call_tables (SetType path word recursive) = λ here. refl
  call_tables (PivotRoot new put) = λ root here. refl
  call_tables call = tt
