-- What mounts show, and where they stand, stays there when mounts are taken away, changed or copied.
use Rattle.std.proofs.Common.{◌≡◌, refl, sym, ap, subst, ◌∙◌, ⊎_elim, ℕ, nat_eq, eqb-true, eq-eqb, Bool, true, false, List, [], ◌∷◌, Option, Some, None, is_some, length, map, option_map, if◌then◌else◌, option_to_list}
use Rattle.vt_spec.proofs.Common.{Among, Fresh, IsWorld, Location, Mount, MountFlags, Serves, Task, TypeWord, World, after_going, among-append, among-filter, among-from_filter, among-from_map, among_from_list_all, and_from, and_parts, copied_mount, deepest_first, detached, directory_is_there, evens, folded, has_its_root, holds_of, inheriting, is_directory_at, is_directory_node, lazily_unmounted, list_all, list_all_from_among, location_on_copy, mount_at, mount_numbered, inherited_mount_point, mount_point_of_parent, mount_tree, mounts_of, named_mounts, namespaces_ended, node_at, number-mount_in, numbers_by, odds, pivoted, pivoted_mount, replaced_if_same, same_Some, taken_away, unmounted, unmounted_if_there, unshared, with_mount, with_mounts, with_type}
use Rattle.vt_laws_mounts.specs.Mounts.Attaching.{is_mount}
use Rattle.vt_laws_mounts.proofs.Groups.{mounts-regrouped}
use Rattle.vt_laws_mounts.proofs.mounts.MountsFound.{found_there}
use Rattle.vt_laws_mounts.proofs.mounts.MountsRetyped.{between, groups_by, retype, retype_keeps}
use Rattle.vt_laws_mounts.proofs.ends.Unmounting.{middle}
use Rattle.vt_laws_mounts.proofs.letting_go.mounting.MountsSwept.{beside_parent}
use Rattle.vt_laws_mounts.proofs.namespaces.Unsharing.{stands_on_mount}
use Rattle.vt_laws_worlds.specs.Worlds.Kept.{MountsShow}
use Rattle.vt_laws_worlds.proofs.worlds.PermitsSeen.{unshared_seen}
use Rattle.vt_laws_worlds.proofs.worlds.Roots.{copy_stands, in_own, last_has, own_there}
use Rattle.vt_laws_worlds.proofs.worlds.Seen.{KeepsWhatIsSeen, directory_after, directory_kept, seen_alike}
use Rattle.vt_laws_worlds.proofs.worlds.SeenMounts.{flags_seen, pivoted_seen, retyped_seen, taken_seen}
use Rattle.vt_laws_trees.specs.Trees.Settling.{inode_in}

-- a directory, seen through a mount of the list
pub record IsPlace (world : World ℕ) (place : Location ℕ) : Type 0 where
  pub listed : is_mount world place.mount ≡ true
  pub directory : is_directory_at nat_eq world place ≡ true

pub record ShowsWell (world : World ℕ) (mount : Mount ℕ) : Type 0 where
  pub root : is_directory_node (inode_in world mount.filesystem mount.root) ≡ true
  pub mount_point : (place : Location ℕ) → mount.mount_point ≡ Some place → IsPlace world place

abbrev pub AllShow : World ℕ → Type 0
AllShow world = (mount : Mount ℕ) → Among mount world.mounts → ShowsWell world mount

module _ (before after : World ℕ) (seen : KeepsWhatIsSeen before after) where
  pub place_after : (place : Location ℕ) → IsPlace before place → IsPlace after place
  place_after place at = record {
    listed = seen.listed place.mount at.listed;
    directory = directory_after before after seen place at.listed at.directory;
  }

  pub shows_after : (mount : Mount ℕ) → ShowsWell before mount → ShowsWell after mount
  shows_after mount shows = record {
    root = directory_kept (inode_in before mount.filesystem mount.root) (inode_in after mount.filesystem mount.root)
        (seen.nodes mount.filesystem mount.root) shows.root;
    mount_point = λ place e. place_after place (shows.mount_point place e);
  }

  -- where the mounts are those that were there
  pub all_show_after : after.mounts ≡ before.mounts → AllShow before → AllShow after
  all_show_after same shows mount m = shows_after mount (shows mount (subst (Among mount) same m))

-- a mount that shows what another does, and stands where it does
pub shows_alike : (world : World ℕ) (one other : Mount ℕ) → other.filesystem ≡ one.filesystem → other.root ≡ one.root
    → other.mount_point ≡ one.mount_point → ShowsWell world one → ShowsWell world other
shows_alike world one other filesystem root place shows = record {
  root = ap (λ f. is_directory_node (inode_in world f other.root)) filesystem
      ∙ ap (λ r. is_directory_node (inode_in world one.filesystem r)) root ∙ shows.root;
  mount_point = λ at e. shows.mount_point at (sym place ∙ e);
}

-- The invariant says so
pub mounts_show : (world : World ℕ) → AllShow world → MountsShow world
mounts_show world shows = list_all_from_among (has_its_root nat_eq world) world.mounts
    (λ mount m. and_from _ _ (shows mount m).root (by _ (λ place e. ((shows mount m).mount_point place e).directory)))
  where
    by : (o : Option (Location ℕ)) → ((place : Location ℕ) → o ≡ Some place → is_directory_at nat_eq world place ≡ true)
        → list_all (is_directory_at nat_eq world) (option_to_list o) ≡ true
    by None h = refl
    by (Some place) h = and_from _ true (h place refl) refl

module _ (world : World ℕ) (is : IsWorld nat_eq world) where
  pub world_shows : AllShow world
  world_shows mount m =
      let parts = and_parts (is_directory_node (inode_in world mount.filesystem mount.root))
      (list_all (is_directory_at nat_eq world) (option_to_list mount.mount_point))
      (among_from_list_all (has_its_root nat_eq world) world.mounts is.roots mount m) in
      record {
        root = parts.0;
        mount_point = λ place at. record {
          listed = stands_on_mount world is.mounts mount m place at;
          directory = (and_parts (is_directory_at nat_eq world place) true
              (sym (ap (λ o. list_all (is_directory_at nat_eq world) (option_to_list o)) at) ∙ parts.1)).0;
        };
      }

  pub own_shows : (mount own : ℕ) → (mount_numbered nat_eq world mount).namespace ≡ Some own
      → ShowsWell world (mount_numbered nat_eq world mount)
  own_shows mount own e = world_shows (mount_numbered nat_eq world mount) (own_there world is mount own e)

-- Mounts are taken away
module _ (world : World ℕ) (gone : List ℕ) (shows : AllShow world) where
  step : (a b : Location ℕ) → IsPlace world a → mount_point_of_parent nat_eq world gone a ≡ Some b → IsPlace world b
  step a b at e = by _ e
    where
      by : (c : Bool) → (if c then (mount_at nat_eq world a).mount_point else None) ≡ Some b → IsPlace world b
      by true f = (shows (mount_at nat_eq world a) (found_there _ _ at.listed)).mount_point b f
      by false f = cc

  left_is_place : (place : Location ℕ) → IsPlace world place → IsPlace world (inherited_mount_point nat_eq world gone place)
  left_is_place place at = last_has _ _ step (length world.mounts) place place at

  going_shows : (mount : Mount ℕ) → ShowsWell world mount → ShowsWell world (after_going nat_eq world gone mount)
  going_shows mount well = by _
    where
      left : (o : Option (Location ℕ)) → mount.mount_point ≡ o → (at : Location ℕ)
          → option_map (inherited_mount_point nat_eq world gone) o ≡ Some at → IsPlace world at
      left None e at f = cc
      left (Some place) e at f = subst (IsPlace world) (cc) (left_is_place place (well.mount_point place e))

      by : (b : Bool) → ShowsWell world (if b then detached mount else
          (record mount { mount_point = option_map (inherited_mount_point nat_eq world gone) mount.mount_point }))
      by true = record { root = well.root; mount_point = λ at f. cc }
      by false = record { root = well.root; mount_point = λ at f. left _ refl at f }

  pub taken_show : AllShow (taken_away nat_eq world gone)
  taken_show mount m =
      let from = among-from_map (inheriting nat_eq (middle world gone))
      (map (after_going nat_eq world gone) world.mounts) mount
      (subst (Among mount) (mounts-regrouped (middle world gone)) m) in
      let old = among-from_map (after_going nat_eq world gone) world.mounts from.0 from.1 in
      let well : ShowsWell world from.0 = subst (ShowsWell world) (sym old.2) (going_shows old.0 (shows old.0 old.1)) in
      shows_after world (taken_away nat_eq world gone) (taken_seen world gone) mount
      (subst (ShowsWell world) (sym from.2) (record { root = well.root; mount_point = well.mount_point }))

lazy_show_step : (world : World ℕ) (mount : Mount ℕ) → AllShow world → AllShow (unmounted_if_there nat_eq world mount)
lazy_show_step world mount shows = by _
  where
    by : (b : Bool) → AllShow (if b then unmounted nat_eq world mount.number else world)
    by true = taken_show world _ shows
    by false = shows

lazy_show_steps : (mounts : List (Mount ℕ)) (world : World ℕ) → AllShow world
    → AllShow (folded (unmounted_if_there nat_eq) world mounts)
lazy_show_steps [] world shows = shows
lazy_show_steps (mount ∷ mounts) world shows = lazy_show_steps mounts _ (lazy_show_step world mount shows)

pub lazy_show : (world : World ℕ) (number : ℕ) → AllShow world → AllShow (lazily_unmounted nat_eq world number)
lazy_show world number = lazy_show_steps (deepest_first nat_eq world
    (mount_tree nat_eq world.mounts (mount_numbered nat_eq world number))) world

pub ended_show : (world : World ℕ) → AllShow world → AllShow (namespaces_ended nat_eq world)
ended_show world shows = all_show_after (taken_away nat_eq world _) (namespaces_ended nat_eq world)
    (seen_alike (taken_away nat_eq world _) (namespaces_ended nat_eq world) refl refl) refl (taken_show world _ shows)

-- Mounts change their types or flags
pub retyped_show : (world : World ℕ) (fresh : Fresh ℕ) (one : ℕ) (word : TypeWord) (recursive : Bool) → AllShow world
    → AllShow (with_type nat_eq fresh world one word recursive)
retyped_show world fresh one word recursive shows mount m =
    let group = groups_by world fresh one recursive in
    let named = named_mounts nat_eq world one recursive in
    let change = retype world group word named in
    let from = among-from_map (inheriting nat_eq (between world group word named)) (map change world.mounts) mount
    (subst (Among mount) (mounts-regrouped (between world group word named)) m) in
    let old = among-from_map change world.mounts from.0 from.1 in
    let kept = retype_keeps world group word named old.0 in
    let well : ShowsWell world from.0 = subst (ShowsWell world) (sym old.2)
    (shows_alike world old.0 (change old.0) kept.filesystem kept.root kept.mount_point (shows old.0 old.1)) in
    shows_after world (with_type nat_eq fresh world one word recursive)
    (retyped_seen world fresh one word recursive) mount
    (subst (ShowsWell world) (sym from.2) (record { root = well.root; mount_point = well.mount_point }))

pub flags_show : (world : World ℕ) (one : ℕ) (flags : MountFlags) → AllShow world
    → ShowsWell world (mount_numbered nat_eq world one) → AllShow (with_mounts world
    (with_mount nat_eq world.mounts (record (mount_numbered nat_eq world one) { flags = flags })))
flags_show world one flags shows well mount m =
    let new = record (mount_numbered nat_eq world one) { flags = flags } in
    let after = with_mounts world (with_mount nat_eq world.mounts new) in
    let from = among-from_map (replaced_if_same nat_eq new) world.mounts mount m in
    shows_after world after (flags_seen world one flags) mount
    (subst (ShowsWell world) (sym from.2) (by from.0 (nat_eq new.number from.0.number) (shows from.0 from.1)))
  where
    by : (old : Mount ℕ) (b : Bool) → ShowsWell world old
        → ShowsWell world (if b then (record (mount_numbered nat_eq world one) { flags = flags }) else old)
    by old true was = record { root = well.root; mount_point = well.mount_point }
    by old false was = was

-- The root is pivoted
pub pivoted_show : (world : World ℕ) (namespace : ℕ) (root new : Mount ℕ) (put : Location ℕ) → AllShow world
    → ShowsWell world root → IsPlace world put → AllShow (pivoted nat_eq world namespace root new put)
pivoted_show world namespace root new put shows at_root_place at_put mount m =
    let from = among-from_map (pivoted_mount nat_eq root new put) world.mounts mount m in
    shows_after world (pivoted nat_eq world namespace root new put) (pivoted_seen root new put world namespace) mount
    (subst (ShowsWell world) (sym from.2)
    (by from.0 (nat_eq from.0.number new.number) (nat_eq from.0.number root.number) (shows from.0 from.1)))
  where
    by : (old : Mount ℕ) (a b : Bool) → ShowsWell world old
        → ShowsWell world (if a then (record old { mount_point = root.mount_point }) else
        (if b then (record old { mount_point = Some put }) else old))
    by old true b was = record { root = was.root; mount_point = at_root_place.mount_point }
    by old false true was =
        record { root = was.root; mount_point = λ place e. subst (IsPlace world) (same_Some put place e) at_put }
    by old false false was = was

-- The mounts of a namespace are copied
module _ (world : World ℕ) (fresh : Fresh ℕ) (task : Task ℕ) (is : IsWorld nat_eq world)
    (serves : Serves nat_eq world fresh) where
  abbrev copied : List (Mount ℕ)
  copied = mounts_of nat_eq world task.namespace

  abbrev copy : ℕ → ℕ
  copy = numbers_by nat_eq (odds fresh) (mounts_of nat_eq world task.namespace)

  abbrev after : World ℕ
  after = unshared nat_eq world fresh task

  is_own : (namespace : Option ℕ) → holds_of (nat_eq task.namespace) namespace ≡ true → namespace ≡ Some task.namespace
  is_own None e = cc
  is_own (Some n) e = cc (eqb-true task.namespace n e)

  copy_mount_point : (mount : Mount ℕ) → Among mount copied → (place : Location ℕ) → mount.mount_point ≡ Some place
      → IsPlace after (location_on_copy copy place)
  copy_mount_point mount m place at =
      let there = among-from_filter
      (λ (x : Mount ℕ). holds_of (nat_eq task.namespace) x.namespace) world.mounts mount m in
      let parent = mount_at nat_eq world place in
      let on = (world_shows world is mount there.0).mount_point place at in
      let namespace : parent.namespace ≡ Some task.namespace =
      sym (beside_parent world is.mounts mount there.0 place at) ∙ is_own mount.namespace there.1 in
      let parent_copied : Among parent copied =
      among-filter (λ (x : Mount ℕ). holds_of (nat_eq task.namespace) x.namespace) world.mounts parent
      (found_there world.mounts place.mount on.listed)
      (ap (holds_of (nat_eq task.namespace)) namespace ∙ eq-eqb task.namespace task.namespace refl) in
      let stands = copy_stands world fresh task is serves place (record {
        located = and_from (is_mount world place.mount) (is_some (node_at nat_eq world place)) on.listed
            (directory_is_there (node_at nat_eq world place) on.directory);
        directory = on.directory;
        inside = in_own task.namespace parent namespace;
      }) parent parent_copied (sym (number-mount_in world.mounts place.mount)) in
      record {
        listed = (and_parts (is_mount after (copy place.mount))
            (is_some (node_at nat_eq after (location_on_copy copy place))) stands.located).0;
        directory = stands.directory;
      }

  pub unshared_show : AllShow after
  unshared_show mount m = ⊎_elim
      (λ old. shows_after world after (unshared_seen world fresh task) mount (world_shows world is mount old)) (λ new.
      let from = among-from_map (copied_mount copy (evens fresh 0)) copied mount new in
      subst (ShowsWell after) (sym from.2) (copy_shows from.0 from.1))
      (among-append world.mounts (map (copied_mount copy (evens fresh 0)) copied) mount m)
    where
      copy_shows : (old : Mount ℕ) → Among old copied → ShowsWell after (copied_mount copy (evens fresh 0) old)
      copy_shows old n = record {
        root = (world_shows world is old (among-from_filter (λ (x : Mount ℕ). holds_of
            (nat_eq task.namespace) x.namespace) world.mounts old n).0).root;
        mount_point = λ at e. by old.mount_point refl at e;
      }
        where
          by : (o : Option (Location ℕ)) → old.mount_point ≡ o → (at : Location ℕ)
              → option_map (location_on_copy copy) o ≡ Some at → IsPlace after at
          by None e at f = absurd cc
          by (Some place) e at f = subst (IsPlace after) (same_Some (location_on_copy copy place) at f)
              (copy_mount_point old n place e)
