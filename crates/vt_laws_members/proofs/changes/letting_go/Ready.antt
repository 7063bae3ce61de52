-- Worlds of which a set of tasks sees the sweep by its part alone.
use Rattle.std.proofs.Common.{arith, ◌≡◌, refl, sym, subst, ◌⊎◌, ⊎_elim, ℕ, nat_eq, true, false, List, [], ◌∷◌, Option, Some, None, map, eq-eqb, eqb-true, filter_map}
use Rattle.vt_spec.proofs.Common.{Among, FileTree, Filesystem, Layer, Location, Mount, Task, TaskName, World, all_locations, among-append, among-append_left, among-append_right, among-filter, among-from_filter, among-from_filter_map, among-from_map, among-map, any_among, any_from_among, any_pair, common_steps, cons_option, has_layer_on, is_among, is_at, is_mounted, is_overlay, is_own_mount, list_any, locations, members, mount_at, mount_lives, named_in, none_among, none_from_among, only_among, or_from, or_left, or_parts, own_lowers, own_mounts, part_of, roots_and_directories, used_directly, used_filesystems}
use Rattle.vt_laws_members.proofs.Common.{OneNumberEach, found_itself, is_own, keep, kept_how, kept_whole, shown_at}
use Rattle.vt_laws_members.proofs.changes.letting_go.CutAgain.{HasLowers}

-- a filesystem with a layer is an overlay
pub layered_overlay : (number : ℕ) (merged : Filesystem ℕ) → has_layer_on nat_eq number merged ≡ true
    → is_overlay merged ≡ true
layered_overlay number merged = grind (arith, common_steps)

-- what is kept with its number has a number of its own
pub numbers_kept : {A : Type 0} (key : A → ℕ) (k : A → Option A) → ((x y : A) → k x ≡ Some y → key y ≡ key x)
    → (list : List A) → any_pair (λ x y. nat_eq (key x) (key y)) list ≡ false
    → any_pair (λ x y. nat_eq (key x) (key y)) (filter_map k list) ≡ false
numbers_kept key k same [] e = refl
numbers_kept {A} key k same (x ∷ rest) e =
    let parts = or_parts (list_any (λ y. nat_eq (key x) (key y)) rest) _ e in
    by (k x) refl parts.0 (numbers_kept key k same rest parts.1)
  where
    by : (o : Option A) → k x ≡ o → list_any (λ y. nat_eq (key x) (key y)) rest ≡ false
        → any_pair (λ y z. nat_eq (key y) (key z)) (filter_map k rest) ≡ false
        → any_pair (λ y z. nat_eq (key y) (key z)) (cons_option o (filter_map k rest)) ≡ false
    by o f none later = grind (arith, common_steps, or_from, none_from_among, among-from_filter_map, none_among)

-- mounts of a part have numbers of their own
pub part_numbers : (b : World ℕ) (set : List TaskName) → OneNumberEach b → OneNumberEach (part_of nat_eq b set)
part_numbers b set one = numbers_kept (λ (m : Mount ℕ). m.number) (keep b set (members b set))
    (λ x y e. ⊎_elim (λ same. cc same) (λ stub. cc stub.0) (kept_how b set (members b set) x y e)) b.mounts one

-- a tree that has all of a whole one that lies under lower layers
pub record IsCut (number : ℕ) (lowers : List (Layer ℕ)) (files : FileTree ℕ) : Type 0 where
  pub whole : FileTree ℕ
  pub chosen : List ℕ
  pub has : HasLowers number lowers whole chosen
  pub same : only_among nat_eq chosen whole ≡ files

-- each inode is the root or has a name
abbrev pub AllNamed : Filesystem ℕ → Type 0
AllNamed x =
    (object : ℕ) → Among object x.files.numbers → (object ≡ x.files.tree.root) ⊎ Among object (named_in x.files)

module _ (a : World ℕ) (set : List TaskName) where
  abbrev theirs : List (Task ℕ)
  theirs = members a set

  -- each mount of the filesystem is theirs or in no namespace, and each location on it is theirs
  pub record NoOthers (number : ℕ) : Type 0 where
    pub mounts : (m : Mount ℕ) → Among m a.mounts → m.filesystem ≡ number
        → (is_own a set theirs m ≡ true) ⊎ (m.namespace ≡ None)
    pub locations : (l : Location ℕ) → Among l (all_locations a) → (mount_at nat_eq a l).filesystem ≡ number
        → Among l (locations theirs)

  -- so it is of each overlay with a layer in it
  pub record Alone (number : ℕ) : Type 0 where
    pub itself : NoOthers number
    pub overlays : (merged : Filesystem ℕ) → Among merged a.filesystems → has_layer_on nat_eq number merged ≡ true
        → NoOthers merged.number

  pub record Ready (used : List ℕ) (lowers : List (Layer ℕ)) : Type 0 where
    pub used_are : used_filesystems nat_eq a set ≡ used
    pub lowers_are : own_lowers nat_eq a set ≡ lowers
    pub one : OneNumberEach a
    pub lives : (m : Mount ℕ) → Among m a.mounts → mount_lives nat_eq a m ≡ true
    pub located : (l : Location ℕ) → Among l (locations theirs)
        → (m : Mount ℕ) × Among m a.mounts × (l.mount ≡ m.number)
    -- a mount point is on a mount of the same namespace
    pub parents : (m : Mount ℕ) (l : Location ℕ) → Among m a.mounts → m.mount_point ≡ Some l
        → (n : ℕ) × (m.namespace ≡ Some n) × (k : Mount ℕ) × Among k a.mounts × (l.mount ≡ k.number)
        × (k.namespace ≡ Some n)
    -- a mount with a root or working directory of theirs is theirs, or is detached
    pub stood : (m : Mount ℕ) → Among m a.mounts → is_at nat_eq (roots_and_directories theirs) m ≡ true
        → (is_own a set theirs m ≡ true) ⊎ (m.mount_point ≡ None)
    pub one_filesystem : any_pair (λ (x y : Filesystem ℕ). nat_eq x.number y.number) a.filesystems ≡ false
    pub plain : (x merged : Filesystem ℕ) → Among x a.filesystems → Among merged a.filesystems
        → has_layer_on nat_eq x.number merged ≡ true → x.overlay ≡ None
    -- a filesystem that they use is theirs alone, or loses nothing
    pub free : (x : Filesystem ℕ) → Among x a.filesystems → is_among nat_eq x.number used ≡ true
        → Alone x.number ⊎ AllNamed x
    pub cut : (x : Filesystem ℕ) → Among x a.filesystems → is_among nat_eq x.number used ≡ false
        → list_any (λ (layer : Layer ℕ). nat_eq x.number layer.filesystem) lowers ≡ true → IsCut x.number lowers x.files

  -- each overlay is mounted
  abbrev pub OverlaysMounted : Type 0
  OverlaysMounted = (merged : Filesystem ℕ) → Among merged a.filesystems → is_overlay merged ≡ true
      → is_mounted nat_eq a merged.number ≡ true

module _ (a : World ℕ) (set : List TaskName) (used : List ℕ) (lowers : List (Layer ℕ))
    (it : Ready a set used lowers) where
  abbrev members_of : List (Task ℕ)
  members_of = members a set

  abbrev kept : Mount ℕ → Option (Mount ℕ)
  kept = keep a set members_of

  abbrev shows : Location ℕ → ℕ
  shows location = (mount_at nat_eq a location).filesystem

  abbrev mounted_there : List ℕ
  mounted_there = map (λ (m : Mount ℕ). m.filesystem) (own_mounts nat_eq a set)

  pub mount_is : (m : Mount ℕ) → Among m a.mounts → (l : Location ℕ) → l.mount ≡ m.number → mount_at nat_eq a l ≡ m
  mount_is m n l e = cc (found_itself a.mounts it.one m n)

  -- a mount of a filesystem without others is shown, and they use it
  pub seen_alone : (number : ℕ) → NoOthers a set number → (m : Mount ℕ) → Among m a.mounts → m.filesystem ≡ number
      → ((y : Mount ℕ) × (kept m ≡ Some y)) × Among number (used_directly nat_eq a set)
  seen_alone number none m at e = ⊎_elim owned nowhere (none.mounts m at e)
    where
      owned : is_own a set members_of m ≡ true
          → ((y : Mount ℕ) × (kept m ≡ Some y)) × Among number (used_directly nat_eq a set)
      owned own = (
        (m, kept_whole a set members_of m (or_left (is_own a set members_of m) _ own)),
        among-append_left mounted_there (map shows (locations members_of)) number (subst (λ k. Among k mounted_there) e
            (among-map (λ (x : Mount ℕ). x.filesystem) (own_mounts nat_eq a set) m
            (among-filter (is_own_mount nat_eq a set) a.mounts m at own))),
      )

      nowhere : m.namespace ≡ None → ((y : Mount ℕ) × (kept m ≡ Some y)) × Among number (used_directly nat_eq a set)
      nowhere d =
          let l = any_among (λ (k : Location ℕ). nat_eq m.number k.mount) (all_locations a)
          (cc (it.lives m at)) in
          let same : l.0.mount ≡ m.number = sym (eqb-true m.number l.0.mount l.2) in
          let on : shows l.0 ≡ number = cc (mount_is m at l.0 same) in
          let its = none.locations l.0 l.1 on in (
            shown_at a set m (any_from_among _ (locations members_of) l.0 its (eq-eqb l.0.mount m.number same)),
            among-append_right mounted_there (map shows (locations members_of)) number
                (rw (← on) (among-map shows (locations members_of) l.0 its)),
          )

  -- what they use directly is mounted
  pub direct_mounted : (number : ℕ) → Among number (used_directly nat_eq a set) → is_mounted nat_eq a number ≡ true
  direct_mounted number m = ⊎_elim (λ shown. let at = among-from_map _ (own_mounts nat_eq a set) number shown in mounted
      at.0 (among-from_filter (is_own_mount nat_eq a set) a.mounts at.0 at.1).0 (sym at.2))
      (λ located. let l = among-from_map shows _ number located in let on = it.located l.0 l.1 in mounted on.0 on.1
      (cc (mount_is on.0 on.1 l.0 on.2, l.2))) (among-append mounted_there (map shows (locations members_of)) number m)
    where
      mounted : (x : Mount ℕ) → Among x a.mounts → x.filesystem ≡ number → is_mounted nat_eq a number ≡ true
      mounted x n e = any_from_among _ a.mounts x n (eq-eqb number x.filesystem (sym e))

  -- an overlay without others is one that they use
  pub overlay_used : OverlaysMounted a set → (merged : Filesystem ℕ) → Among merged a.filesystems
      → is_overlay merged ≡ true → NoOthers a set merged.number → Among merged.number (used_directly nat_eq a set)
  overlay_used mounted merged m over none =
      let at = any_among (λ (k : Mount ℕ). nat_eq merged.number k.filesystem) a.mounts (mounted merged m over) in
      (seen_alone merged.number none at.0 at.1 (sym (eqb-true merged.number at.0.filesystem at.2))).1
