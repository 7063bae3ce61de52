-- Where no mount is in a group none is afterwards, if none is made shared.
use Rattle.std.proofs.Common.{arith, ◌≡◌, refl, sym, ap, subst, ⊎_elim, true≢false, ℕ, zero, suc, nat_eq, Bool, true, false, cond, List, [], ◌∷◌, ◌++◌, map, filter, flat_map, length, Option, Some, None, All, option_map}
use Rattle.vt_spec.proofs.Common.{Change, Copies, CopyUp, Filesystem, Fresh, Location, Make, Mount, Move, Permit, Private, Propagation, Remove, SetBytes, Shared, Slave, Task, ToBind, ToChange, ToEnterNamespace, ToExit, ToMake, ToMountOverlay, ToMountPlain, ToMove, ToOpen, ToOpenNew, ToPivot, ToPrivate, ToRemoveDirectory, ToRename, ToSetFlags, ToSetType, ToShared, ToSlave, ToUnbindable, ToUnmount, ToUnmountLazily, ToUnshare, ToWritePart, Twig, TypeWord, Unbindable, World, added_mounts, after_going, all-filter, all-map, and_parts, apply, attach, bind_tree, bindable_children, bindable_tree, bytes_in, children, common_steps, copied_mount, copies_from, deepest_first, detached, evens, filesystem_at, filesystem_changed, filesystems-taken_away, folded, holds_of, inherited, is_copied_up, is_in_ended, is_overlay, list_all, mount_at, mount_lives, mount_numbered, inherited_mount_point, mount_tree, mounts_of, named_mounts, namespace_entered, namespaces_ended, new_mount, node_at, numbers_by, odds, overwritten, pivoted_mount, plain_filesystem, pwritten, regrouped, retyped_mount, settled, stands_on, stands_under, taken_away, type_after, unmounted_if_there, unshared, with_change, with_copy, with_mount, with_mounts, with_moved_mounts, with_new_filesystem, with_new_groups, with_type, without_mounts_on, without_replaced, without_task}
use Rattle.vt_laws_mounts.proofs.letting_go.Lists.{Among, among-from_filter, among-from_flat_map, among_from_list_all, list_all_from_among}
use Rattle.vt_laws_trees.proofs.runs.answered.PlainStays.{plain_numbered}
use Rattle.vt_laws_worlds.proofs.permits.taken.TakenAttached.{at_destination, copy_by, twigs}
use Rattle.vt_laws_worlds.proofs.permits.taken.TakenFirst.{IsNoOverlay, found_ungrouped}
use Rattle.vt_laws_worlds.proofs.permits.taken.TakenTypes.{found_is, makes_groups, tree_is}
use Rattle.vt_laws_worlds.specs.Permits.Steps.{makes_shared}
use Rattle.vt_laws_worlds.specs.Permits.Taken.{IsUngrouped, is_ungrouped}
use Rattle.vt_laws_worlds.specs.Worlds.Kept.{IsPlain}

abbrev free : Mount ℕ → Bool
free mount = is_ungrouped mount.propagation

abbrev AllFree : List (Mount ℕ) → Type 0
AllFree mounts = list_all free mounts ≡ true

all_append : (xs ys : List (Mount ℕ)) → AllFree xs → AllFree ys → AllFree (xs ++ ys)
all_append [] ys first next = next
all_append (mount ∷ xs) ys first next =
    let parts = and_parts (free mount) (list_all free xs) first in
    cc (all_append xs ys parts.1 next)

-- What a group leaves behind
inherited_free : (world : World ℕ) (kind : Propagation ℕ) → is_ungrouped kind ≡ true
    → is_ungrouped (inherited nat_eq world kind) ≡ true
inherited_free world (Shared group) e = e
inherited_free world (Slave master) e = cc
inherited_free world Private e = refl
inherited_free world Unbindable e = refl

regrouped_free : (world : World ℕ) → IsUngrouped world → IsUngrouped (regrouped nat_eq world)
regrouped_free world is = grind (arith, common_steps, all-map, inherited_free)

taken_free : (world : World ℕ) (gone : List ℕ) → IsUngrouped world → IsUngrouped (taken_away nat_eq world gone)
taken_free world gone is = regrouped_free (with_mounts world (map (after_going nat_eq world gone) world.mounts))
    (all-map free (after_going nat_eq world gone) (λ mount e. by mount e _) world.mounts is)
  where
    by : (mount : Mount ℕ) → free mount ≡ true → (b : Bool) → free (cond b (detached mount)
        (record mount { mount_point = option_map (inherited_mount_point nat_eq world gone) mount.mount_point })) ≡ true
    by mount e true = refl
    by mount e false = e

ended_free : (world : World ℕ) → IsUngrouped world → IsUngrouped (namespaces_ended nat_eq world)
ended_free world is =
    taken_free world (map (λ (mount : Mount ℕ). mount.number) (filter (is_in_ended nat_eq world) world.mounts)) is

there_free : (world : World ℕ) (mount : Mount ℕ) → IsUngrouped world
    → IsUngrouped (unmounted_if_there nat_eq world mount)
there_free world mount is = grind (arith, common_steps, taken_free)

folded_free : (list : List (Mount ℕ)) (world : World ℕ) → IsUngrouped world
    → IsUngrouped (folded (unmounted_if_there nat_eq) world list)
folded_free [] world is = is
folded_free (mount ∷ list) world is = folded_free list _ (there_free world mount is)

replaced_free : (new : Mount ℕ) → free new ≡ true → (mounts : List (Mount ℕ)) → AllFree mounts
    → AllFree (with_mount nat_eq mounts new)
replaced_free new is mounts all = grind (arith, common_steps, all-map)

each_replaced : (list mounts : List (Mount ℕ)) → AllFree list → AllFree mounts
    → AllFree (folded (with_mount nat_eq) mounts list)
each_replaced [] mounts first next = next
each_replaced (new ∷ list) mounts first next =
    let parts = and_parts (free new) (list_all free list) first in
    each_replaced list _ parts.1 (replaced_free new parts.0 mounts next)

-- A change of a plain filesystem leaves the mounts.
change_free : (world : World ℕ) → IsPlain world → (fresh : Fresh ℕ) (location : Location ℕ) (change : Change ℕ)
    → IsUngrouped world → IsUngrouped (with_change nat_eq fresh world location change)
change_free world plain fresh location change is = subst IsUngrouped
    (sym (ap (λ o. filesystem_changed nat_eq fresh world (filesystem_at nat_eq world location) o change)
    (plain_numbered world plain (mount_at nat_eq world location).filesystem))) is

-- What is attached
attached_free : (world : World ℕ) (fresh : Fresh ℕ) (place : Location ℕ) (moves : Bool) (mounts : List (Mount ℕ))
    → IsUngrouped world → AllFree mounts → IsUngrouped (attach nat_eq world fresh place moves mounts)
attached_free world fresh place moves mounts is all = subst IsUngrouped
    (sym (at_destination world place mounts (found_ungrouped world.mounts is place.mount) moves fresh)) (by moves)
  where
    new : Copies ℕ
    new = copies_from nat_eq fresh (mount_at nat_eq world place ∷ []) mounts

    made : Bool → List (Mount ℕ)
    made b = map (copy_by world place mounts true b new) (twigs world place mounts)

    start : Bool → List (Mount ℕ)
    start b = map (λ (mount : Mount ℕ). mount) (with_moved_mounts nat_eq b world.mounts (made b))

    copies : (b : Bool) → AllFree (made b)
    copies b =
        all-map free {p = λ (twig : Twig ℕ). is_ungrouped twig.propagation} (copy_by world place mounts true b new)
        (λ twig e. e) (twigs world place mounts) (all-map (λ (twig : Twig ℕ). is_ungrouped twig.propagation)
        (λ (mount : Mount ℕ). record { origin = mount; propagation = mount.propagation }) (λ mount e. e) mounts all)

    front : (list : List (Mount ℕ)) → AllFree list → AllFree (map (λ (mount : Mount ℕ). mount) list)
    front list h = all-map free (λ (mount : Mount ℕ). mount) (λ mount e. e) list h

    by : (b : Bool) → AllFree (start b ++ added_mounts b (made b) ++ [])
    by true = all_append (start true ++ []) [] (all_append (start true) []
        (front (folded (with_mount nat_eq) world.mounts (made true))
        (each_replaced (made true) world.mounts (copies true) is)) refl) refl
    by false = all_append (start false ++ made false) []
        (all_append (start false) (made false) (front world.mounts is) (copies false)) refl

-- A type that is no group's
type_free : (new : ℕ) (word : TypeWord) → makes_groups word ≡ false → (kind : Propagation ℕ)
    → is_ungrouped kind ≡ true → is_ungrouped (type_after new word kind) ≡ true
type_free new word makes kind e = grind (arith, common_steps, true≢false)

module _ (world : World ℕ) (plain : IsPlain world) (is : IsUngrouped world) (task : Task ℕ) (fresh : Fresh ℕ) where
  each_free : (mount : Mount ℕ) → Among mount world.mounts → free mount ≡ true
  each_free = among_from_list_all free _ is

  found_free : (number : ℕ) → free (mount_numbered nat_eq world number) ≡ true
  found_free = found_is _ each_free

  bindable_free : (depth : ℕ) (top : Mount ℕ) → free top ≡ true → (mount : Mount ℕ)
      → Among mount (bindable_tree nat_eq depth world.mounts top) → free mount ≡ true
  bindable_free zero top e mount among = ⊎_elim (λ same. cc) (λ none. absurd none) among
  bindable_free (suc depth) top e mount among = ⊎_elim (λ same. cc) (λ below.
      let found = among-from_flat_map _ _ mount below in
      bindable_free depth _ (child_free _ _ found.1) mount found.2) among
    where
      child_free : (number : ℕ) (child : Mount ℕ) → Among child (bindable_children nat_eq world.mounts number)
          → free child ≡ true
      child_free number child m = each_free child (among-from_filter (stands_on nat_eq number) world.mounts child
          (among-from_filter _ (children nat_eq world.mounts number) child m).0).0

  -- the mounts under a source, which a recursive bind copies with it
  abbrev below : Location ℕ → List (Mount ℕ)
  below source = filter (stands_under nat_eq world source) (bindable_children nat_eq world.mounts source.mount)

  abbrev copied_below : Location ℕ → List (Mount ℕ)
  copied_below source = flat_map (bindable_tree nat_eq (length world.mounts) world.mounts) (below source)

  bind_free : (source : Location ℕ) (recursive : Bool) → AllFree (bind_tree nat_eq world source recursive)
  bind_free source false = cc (found_free source.mount)
  bind_free source true = cc (
    found_free source.mount,
    list_all_from_among free (copied_below source)
        (λ mount among. let found = among-from_flat_map (bindable_tree nat_eq (length world.mounts) world.mounts)
        (below source) mount among in let child = among-from_filter (stands_under nat_eq world source)
        (bindable_children nat_eq world.mounts source.mount) found.0 found.1 in bindable_free (length world.mounts)
        found.0 (each_free found.0 (among-from_filter (stands_on nat_eq source.mount) world.mounts found.0
        (among-from_filter _ (children nat_eq world.mounts source.mount) found.0 child.0).0).0) mount found.2),
  )

  without_free : (gone : Location ℕ) (location : Location ℕ) (change : Change ℕ)
      → IsUngrouped (with_change nat_eq fresh (without_mounts_on nat_eq world gone) location change)
  without_free gone location change = change_free _ (subst (All (λ (f : Filesystem ℕ). is_overlay f ≡ false))
      (sym (filesystems-taken_away world _)) plain) fresh location change (taken_free world _ is)

  renamed_free : (replaced : Option (Location ℕ)) (location : Location ℕ) (change : Change ℕ)
      → IsUngrouped (with_change nat_eq fresh (without_replaced nat_eq world replaced) location change)
  renamed_free None location change = change_free world plain fresh location change is
  renamed_free (Some gone) location change = without_free gone location change

  copy_free : (copies : Bool) (file : Location ℕ) → IsUngrouped (with_copy nat_eq copies fresh world file)
  copy_free true file = change_free world plain fresh file (CopyUp file.node) is
  copy_free false file = is

  written_free : (file : Location ℕ) (offset : ℕ) (bytes : List ℕ)
      → IsUngrouped (pwritten nat_eq fresh world file offset bytes)
  written_free file offset [] = is
  written_free file offset (byte ∷ bytes) = change_free world plain fresh file
      (SetBytes file.node (overwritten offset (byte ∷ bytes) (bytes_in (node_at nat_eq world file)))) is

  typed_free : (number : ℕ) (word : TypeWord) (recursive : Bool) → makes_groups word ≡ false
      → IsUngrouped (with_type nat_eq fresh world number word recursive)
  typed_free number word recursive makes = regrouped_free (record world {
    mounts = map (retyped_mount nat_eq group word named) world.mounts;
    master = with_new_groups nat_eq group world.master named;
  }) (all-map free (retyped_mount nat_eq group word named) (λ mount e. by mount e _) world.mounts is)
    where
      named : List (Mount ℕ)
      named = named_mounts nat_eq world number recursive

      group : ℕ → ℕ
      group = numbers_by nat_eq fresh named

      by : (mount : Mount ℕ) → free mount ≡ true → (b : Bool)
          → free (cond b (record mount { propagation = type_after (group mount.number) word mount.propagation }) mount)
          ≡ true
      by mount e true = type_free (group mount.number) word makes _ e
      by mount e false = e

  pivoted_free : (root new : Mount ℕ) (put : Location ℕ)
      → AllFree (map (pivoted_mount nat_eq root new put) world.mounts)
  pivoted_free root new put = grind (arith, common_steps, all-map)

  applied_free : (permit : Permit ℕ) → IsNoOverlay permit → makes_shared permit ≡ false
      → IsUngrouped (apply nat_eq fresh world task permit).world
  applied_free (ToChange location change) other shared = change_free world plain fresh location change is
  applied_free (ToMake directory name node) other shared =
      change_free world plain (odds fresh) directory (Make directory.node name (evens fresh 0) node) is
  applied_free (ToRemoveDirectory parent name directory) other shared =
      without_free directory parent (Remove parent.node name directory.node)
  applied_free (ToRename from old to new object replaced) other shared =
      renamed_free replaced from (Move from.node old to.node new object.node)
  applied_free (ToOpen file access) other shared = copy_free (is_copied_up nat_eq world file access) file
  applied_free (ToOpenNew directory name node access) other shared =
      change_free world plain (odds fresh) directory (Make directory.node name (evens fresh 0) node) is
  applied_free (ToWritePart file offset bytes) other shared = written_free file offset bytes
  applied_free ToExit other shared = ended_free (without_task world task.name) is
  applied_free ToUnshare other shared = ended_free (unshared nat_eq world fresh task)
      (all_append world.mounts (map copied own) is (all-map free copied (λ mount e. e) own
      (all-filter free (λ (mount : Mount ℕ). holds_of (nat_eq task.namespace) mount.namespace) world.mounts is)))
    where
      own : List (Mount ℕ)
      own = mounts_of nat_eq world task.namespace

      copied : Mount ℕ → Mount ℕ
      copied = copied_mount (numbers_by nat_eq (odds fresh) own) (evens fresh 0)
  applied_free (ToEnterNamespace namespace) other shared = ended_free (namespace_entered nat_eq world task namespace) is
  applied_free (ToMountPlain place flags) other shared =
      attached_free (with_new_filesystem world (plain_filesystem nat_eq fresh)) (odds fresh) place false
      (new_mount (fresh 0) (fresh 2) flags ∷ []) is refl
  applied_free (ToMountOverlay place overlay flags) other shared = absurd (other place overlay flags refl)
  applied_free (ToBind source place recursive) other shared =
      attached_free world fresh place false (bind_tree nat_eq world source recursive) is (bind_free source recursive)
  applied_free (ToMove mount place) other shared =
      attached_free world fresh place true (mount_tree nat_eq world.mounts (mount_numbered nat_eq world mount)) is
      (list_all_from_among free _
      (tree_is world.mounts each_free (length world.mounts) (mount_numbered nat_eq world mount) (found_free mount)))
  applied_free (ToUnmount mount) other shared = taken_free world _ is
  applied_free (ToUnmountLazily mount) other shared = folded_free
      (deepest_first nat_eq world (mount_tree nat_eq world.mounts (mount_numbered nat_eq world mount))) world is
  applied_free (ToSetFlags mount flags) other shared =
      replaced_free (record (mount_numbered nat_eq world mount) { flags = flags }) (found_free mount) world.mounts is
  applied_free (ToSetType mount ToShared recursive) other shared = absurd (true≢false shared)
  applied_free (ToSetType mount ToSlave recursive) other shared = typed_free mount ToSlave recursive refl
  applied_free (ToSetType mount ToPrivate recursive) other shared = typed_free mount ToPrivate recursive refl
  applied_free (ToSetType mount ToUnbindable recursive) other shared = typed_free mount ToUnbindable recursive refl
  applied_free (ToPivot new put) other shared =
      pivoted_free (mount_at nat_eq world task.root) (mount_numbered nat_eq world new) put
  applied_free permit other shared = is

  pub left_free : (permit : Permit ℕ) → IsNoOverlay permit → makes_shared permit ≡ false
      → IsUngrouped (settled nat_eq (apply nat_eq fresh world task permit).world)
  left_free permit other shared = all-filter free (mount_lives nat_eq (apply nat_eq fresh world task permit).world)
      (apply nat_eq fresh world task permit).world.mounts (applied_free permit other shared)
