-- Directories at which a task may come to stand: the root of a mount of its namespace, also through mounts over it,
-- and the
-- copies of where it stood.
use Rattle.std.proofs.Common.{arith, ◌≡◌, refl, sym, ap, subst, ◌∙◌, inl, inr, ⊎_elim, ℕ, zero, suc, nat_eq, eqb-true, eq-eqb, Bool, true, false, true≢false, find, filter, length, List, [], ◌∷◌, ◌==◌, Option, Some, None, is_some, map, option_map, if◌then◌else◌, option_to_list, unwrap_or}
use Rattle.vt_spec.proofs.Common.{Among, Fresh, IsWorld, Location, Mount, Namespace, Serves, Stands, Task, World, among-append_right, among-filter, among-from_filter, among-from_map, among-map, among_from_all, among_from_list_all, among_numbers, and_from, and_parts, any_among, at_root, chain, chain_ends, chain_goes_on, child_at, common_steps, copied_mount, evens, filesystem_numbered, found_or_none, has_one_root, holds_of, is_among_numbers, is_copied, is_directory_at, is_directory_node, is_listed, is_root_mount, last_or, list_all, location_on_copy, mount_at, mount_numbered, mounts_of, moved_location, namespace_root, node_at, none_among, number-mount_in, numbers_by, odds, on_parent, pivoted_location, pivoted_task, root_mount, root_of, topmost, unshared, unshared_task}
use Rattle.vt_laws_mounts.specs.Mounts.Attaching.{is_mount, numbers_of}
use Rattle.vt_laws_mounts.proofs.mounts.MountsFound.{found_in, found_there}
use Rattle.vt_laws_mounts.proofs.mounts.MountsNumbered.{unshare_keeps_numbers}
use Rattle.vt_laws_mounts.proofs.mounts.MountsPlaces.{stands_there}
use Rattle.vt_laws_mounts.proofs.mounts.MountsReplaced.{found_itself}
use Rattle.vt_laws_worlds.proofs.worlds.PermitsSeen.{unshared_seen}
use Rattle.vt_laws_worlds.proofs.worlds.Placed.{IsPlaced, StandsAt, opens_after, stands_after}
use Rattle.vt_laws_worlds.proofs.worlds.Seen.{KeepsWhatIsSeen, is_in, mount_of_located}
use Rattle.vt_laws_mounts.proofs.letting_go.Lists.{held_number}
pub use Rattle.vt_spec.proofs.NodeChanges.{directory_is_there}

-- what holds from step to step holds of the last
pub last_has : {A : Type 0} (P : A → Type 0) (next : A → Option A) → ((a b : A) → P a → next a ≡ Some b → P b)
    → (n : ℕ) (a d : A) → P a → P (last_or d (chain n next a))
last_has {A = A} P next step zero a d p = p
last_has {A = A} P next step (suc n) a d p = by _ refl (λ b q. last_has P next step n b a q)
  where
    by : (o : Option A) → next a ≡ o → ((b : A) → P b → P (last_or a (chain n next b)))
        → P (last_or d (chain (suc n) next a))
    by None e later = subst (λ l. P (last_or d l)) (sym (chain_ends next n a e)) p
    by (Some b) e later = subst (λ l. P (last_or d l)) (sym (chain_goes_on next n a b e)) (later b (step a b p e))

pub found_some : {A : Type 0} (test : A → Bool) (xs : List A) (x : A) → Among x xs → test x ≡ true
    → (y : A) × (find test xs ≡ Some y) × Among y xs
found_some {A = A} test [] x m e = absurd m
found_some {A = A} test (first ∷ rest) x m e = by _ refl (found_some test rest x)
  where
    by : (b : Bool) → test first ≡ b
        → (Among x rest → test x ≡ true → (y : A) × (find test rest ≡ Some y) × Among y rest)
        → (y : A) × (find test (first ∷ rest) ≡ Some y) × Among y (first ∷ rest)
    by true h later = (first, cc, inl refl)
    by false h later = ⊎_elim (λ same. cc)
        (λ l. let t : (y : A) × (find test rest ≡ Some y) × Among y rest = later l e in
        (t.0, cc, inr t.2)) m

one_is_some : {A : Type 0} (xs : List A) → (length xs == 1) ≡ true → (x : A) × Among x xs
one_is_some [] e = cc
one_is_some (x ∷ xs) e = (x, inl refl)

pub in_own : (own : ℕ) (mount : Mount ℕ) → mount.namespace ≡ Some own → is_in own mount ≡ true
in_own own mount e = cc (and_from (nat_eq own own) true (eq-eqb own own refl) refl)

module _ (world : World ℕ) (is : IsWorld nat_eq world) where
  -- a mount that is in a namespace is there
  pub own_there : (mount own : ℕ) → (mount_numbered nat_eq world mount).namespace ≡ Some own
      → Among (mount_numbered nat_eq world mount) world.mounts
  own_there mount own e = ⊎_elim (λ m. m) (λ none. absurd
      (true≢false (sym (ap is_some e) ∙ ap (λ (x : Mount ℕ). is_some x.namespace) none)))
      (found_or_none world.mounts mount)

  pub itself : (mount : Mount ℕ) → Among mount world.mounts → mount_numbered nat_eq world mount.number ≡ mount
  itself mount m = found_itself _ is.mounts.one_number mount m

  pub is_numbered : (mount : Mount ℕ) → Among mount world.mounts → is_mount world mount.number ≡ true
  is_numbered mount m = is_among_numbers (numbers_of world.mounts) mount.number (among-map _ _ mount m)

  pub root_is_directory : (mount : Mount ℕ) → Among mount world.mounts
      → is_directory_at nat_eq world (root_of mount) ≡ true
  root_is_directory mount m = grind (arith, common_steps, itself, and_parts, among_from_list_all)

  -- the root of a mount of the namespace
  pub root_stands : (own : ℕ) (mount : Mount ℕ) → Among mount world.mounts → is_in own mount ≡ true
      → StandsAt world own (root_of mount)
  root_stands own mount m inside =
      let directory = root_is_directory mount m in
      record {
        located = and_from _ _ (is_numbered mount m) (directory_is_there _ directory);
        directory = directory;
        inside = cc (itself mount m);
      }

  -- what stands over a place is in its namespace
  pub child_in : (own : ℕ) (child : Mount ℕ) → Among child world.mounts → (here : Location ℕ)
      → child.mount_point ≡ Some here → is_in own (mount_at nat_eq world here) ≡ true → is_in own child ≡ true
  child_in own child m here at inside =
      by (among_from_all (λ (x : Mount ℕ). Stands nat_eq world x.number) world.mounts is.mounts.standing child m)
      (itself child m)
    where
      by : Stands nat_eq world child.number → mount_numbered nat_eq world child.number ≡ child → is_in own child ≡ true
      by (at_root number e) same = cc
      by (on_parent number place e namespace later) same =
          let it : Some place ≡ Some here = cc in
          cc

  over_stands : (own : ℕ) (here : Location ℕ) → StandsAt world own here
      → StandsAt world own (topmost nat_eq world.mounts here)
  over_stands own here at = last_has _ _ step (length world.mounts) here here at
    where
      step : (a b : Location ℕ) → StandsAt world own a → option_map root_of (child_at nat_eq world.mounts a) ≡ Some b
          → StandsAt world own b
      step a b stands e = by _ refl e
        where
          by : (o : Option (Mount ℕ)) → child_at nat_eq world.mounts a ≡ o → option_map root_of o ≡ Some b
              → StandsAt world own b
          by None none f = cc
          by (Some child) found f =
              let t = found_in _ _ child found in
              subst (StandsAt world own) (cc)
              (root_stands own child t.0 (child_in own child t.0 a (stands_there a child t.1) stands.inside))

  found_root : (own : ℕ) (default : Location ℕ) (found : Option (Mount ℕ)) (mount : Mount ℕ) → found ≡ Some mount
      → StandsAt world own (topmost nat_eq world.mounts (root_of mount)) → StandsAt world own
      (unwrap_or (option_map (λ (m : Mount ℕ). topmost nat_eq world.mounts (root_of m)) found) default)
  found_root own default found mount e = subst (λ o. StandsAt world own
      (unwrap_or (option_map (λ (m : Mount ℕ). topmost nat_eq world.mounts (root_of m)) o) default)) (sym e)

  -- the root of a namespace that is there
  pub namespace_root_stands : (namespace : ℕ) (task : Task ℕ) → is_listed nat_eq world namespace ≡ true
      → StandsAt world namespace (unwrap_or (namespace_root nat_eq world namespace) task.root)
  namespace_root_stands namespace task listed =
      let named = among-from_map (λ (n : Namespace ℕ). n.number) world.namespaces namespace
      (among_numbers (map (λ (n : Namespace ℕ). n.number) world.namespaces) namespace listed) in
      let mounts = mounts_of nat_eq world namespace in
      let only = one_is_some (filter (is_root_mount nat_eq) mounts)
      (ap (λ n. length (filter (is_root_mount nat_eq) (mounts_of nat_eq world n)) == 1) named.2
      ∙ among_from_list_all (has_one_root nat_eq world) world.namespaces is.namespaces.root_mounts named.0 named.1) in
      let first = among-from_filter (is_root_mount nat_eq) mounts only.0 only.1 in
      let found = found_some (is_root_mount nat_eq) mounts only.0 first.0 first.1 in
      let mount = among-from_filter
      (λ (m : Mount ℕ). holds_of (nat_eq namespace) m.namespace) world.mounts found.0 found.2 in
      found_root namespace task.root (root_mount nat_eq world namespace) found.0 found.1
      (over_stands namespace (root_of found.0) (root_stands namespace found.0 mount.0
      (in_own namespace found.0 (held_number namespace found.0.namespace mount.1))))

-- A pivot
module _ {world : World ℕ} {after : World ℕ} (seen : KeepsWhatIsSeen world after) (root new : Mount ℕ)
    {namespace : ℕ} (at_new : StandsAt world namespace (root_of new)) where
  pivoted_stands : (location : Location ℕ) → StandsAt world namespace location
      → StandsAt after namespace (pivoted_location nat_eq root new location)
  pivoted_stands location at = by _
    where
      by : (b : Bool) → StandsAt after namespace (if b then root_of new else location)
      by true = stands_after world after seen _ _ at_new
      by false = stands_after world after seen _ _ at

  pub pivoted_placed : (task : Task ℕ) → IsPlaced world task
      → IsPlaced after (pivoted_task nat_eq namespace root new task)
  pivoted_placed task at = by (nat_eq namespace task.namespace) refl
    where
      by : (b : Bool) → nat_eq namespace task.namespace ≡ b → IsPlaced after (if b then (record task {
        root = pivoted_location nat_eq root new task.root;
        directory = pivoted_location nat_eq root new task.directory;
      }) else task)
      by true e =
          let own : namespace ≡ task.namespace = eqb-true namespace task.namespace e in
          record {
            root = subst (λ n. StandsAt after n (pivoted_location nat_eq root new task.root)) own
                (pivoted_stands _ (subst (λ n. StandsAt world n task.root) (sym own) at.root));
            directory = subst (λ n. StandsAt after n (pivoted_location nat_eq root new task.directory)) own
                (pivoted_stands _ (subst (λ n. StandsAt world n task.directory) (sym own) at.directory));
            files = λ descriptor m. opens_after world after seen _ (at.files descriptor m);
          }
      by false e = record {
        root = stands_after world after seen task.namespace task.root at.root;
        directory = stands_after world after seen task.namespace task.directory at.directory;
        files = λ descriptor m. opens_after world after seen descriptor.location (at.files descriptor m);
      }

-- Copies of a namespace's mounts
module _ (world : World ℕ) (fresh : Fresh ℕ) (task : Task ℕ) (is : IsWorld nat_eq world)
    (serves : Serves nat_eq world fresh) where
  abbrev copied : List (Mount ℕ)
  copied = mounts_of nat_eq world task.namespace

  abbrev copy : ℕ → ℕ
  copy = numbers_by nat_eq (odds fresh) (mounts_of nat_eq world task.namespace)

  abbrev after : World ℕ
  after = unshared nat_eq world fresh task

  copy_there : (mount : Mount ℕ) → Among mount copied → Among (copied_mount copy (evens fresh 0) mount) after.mounts
  copy_there mount m = among-append_right world.mounts (map (copied_mount copy (evens fresh 0)) copied)
      (copied_mount copy (evens fresh 0) mount) (among-map _ copied mount m)

  pub found_copy : (mount : Mount ℕ) → Among mount copied
      → mount_numbered nat_eq after (copy mount.number) ≡ copied_mount copy (evens fresh 0) mount
  found_copy mount m = found_itself _ (unshare_keeps_numbers world fresh task serves is.mounts.one_number)
      _ (copy_there mount m)

  copied_mount_found : (mount : Mount ℕ) → Among mount copied → (location : Location ℕ) → location.mount ≡ mount.number
      → mount_at nat_eq world location ≡ mount
  copied_mount_found mount m location same = cc (itself world is mount
      (among-from_filter (λ (x : Mount ℕ). holds_of (nat_eq task.namespace) x.namespace) world.mounts mount m).0)

  pub copy_stands : (location : Location ℕ) → StandsAt world task.namespace location → (mount : Mount ℕ)
      → Among mount copied
      → location.mount ≡ mount.number → StandsAt after (evens fresh 0) (location_on_copy copy location)
  copy_stands location at mount m same =
      let number : copy location.mount ≡ copy mount.number = ap copy same in
      let found : mount_numbered nat_eq after (copy location.mount) ≡ copied_mount copy (evens fresh 0) mount =
      ap (mount_numbered nat_eq after) number ∙ found_copy mount m in
      let directory : is_directory_at nat_eq after (location_on_copy copy location) ≡ true =
      ap (λ (x : Mount ℕ). is_directory_node
      ((filesystem_numbered nat_eq world x.filesystem).files.tree.node location.node))
      (found ∙ ap (copied_mount copy (evens fresh 0)) (sym (copied_mount_found mount m location same)))
      ∙ at.directory in
      record {
        located = and_from (is_mount after (copy location.mount))
            (is_some (node_at nat_eq after (location_on_copy copy location))) (ap (is_mount after) number
            ∙ is_among_numbers (numbers_of after.mounts) (copy mount.number)
            (among-map (λ (x : Mount ℕ). x.number) after.mounts (copied_mount copy (evens fresh 0) mount)
            (copy_there mount m)))
            (directory_is_there (node_at nat_eq after (location_on_copy copy location)) directory);
        directory = directory;
        inside = in_own (evens fresh 0) (mount_numbered nat_eq after (copy location.mount))
            (ap (λ (x : Mount ℕ). x.namespace) found);
      }

  moved_stands : (location : Location ℕ) → StandsAt world task.namespace location
      → StandsAt after (evens fresh 0) (moved_location nat_eq copied copy location)
  moved_stands location at = by (is_copied nat_eq copied location) refl
    where
      there : is_mount world location.mount ≡ true
      there = mount_of_located world after (unshared_seen world fresh task) location at.located

      -- a mount that is not copied is in no namespace
      alone : is_copied nat_eq copied location ≡ false → is_in (evens fresh 0) (mount_at nat_eq world location) ≡ true
      alone none = of (mount_at nat_eq world location).namespace refl at.inside
        where
          of : (o : Option ℕ) → (mount_at nat_eq world location).namespace ≡ o
              → list_all (nat_eq task.namespace) (option_to_list o) ≡ true
              → is_in (evens fresh 0) (mount_at nat_eq world location) ≡ true
          of None e h = ap (λ o. list_all (nat_eq (evens fresh 0)) (option_to_list o)) e
          of (Some n) e h =
              let mount = mount_at nat_eq world location in
              let in_it : Among mount copied =
              among-filter (λ (x : Mount ℕ). holds_of (nat_eq task.namespace) x.namespace) world.mounts mount
              (found_there world.mounts location.mount there)
              (ap (holds_of (nat_eq task.namespace)) e ∙ (and_parts (nat_eq task.namespace n) true h).0) in
              absurd (true≢false
              (sym (eq-eqb location.mount mount.number (sym (number-mount_in world.mounts location.mount)))
              ∙ none_among (λ (x : Mount ℕ). nat_eq location.mount x.number) copied none mount in_it))

      by : (b : Bool) → is_copied nat_eq copied location ≡ b
          → StandsAt after (evens fresh 0) (if b then location_on_copy copy location else location)
      by true e =
          let one = any_among (λ (x : Mount ℕ). nat_eq location.mount x.number) copied e in
          copy_stands location at one.0 one.1 (eqb-true location.mount one.0.number one.2)
      by false e = stands_after world after (unshared_seen world fresh task) (evens fresh 0) location
          (record { located = at.located; directory = at.directory; inside = alone e })

  pub unshared_placed : IsPlaced world task → IsPlaced after (unshared_task nat_eq copied copy (evens fresh 0) task)
  unshared_placed at = record {
    root = moved_stands task.root at.root;
    directory = moved_stands task.directory at.directory;
    files = λ descriptor m. opens_after world after (unshared_seen world fresh task) descriptor.location
        (at.files descriptor m);
  }
