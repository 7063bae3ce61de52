-- A judgement does not go by the numbers handed in.
use Rattle.std.proofs.Common.{arith, ◌≡◌, refl, sym, ◌∙◌, true≢false, ℕ, nat_eq, nat_lt, Bool, true, false, List, [], ◌∷◌, length, map, filter, Ok}
use Rattle.vt_spec.proofs.Common.{Bind, Call, Copies, Exclusive, Fresh, IsWorld, Location, Looks, Mount, MountFlags, MountOverlay, MountPlain, MoveMount, Namespace, NoCreation, OpenFile, OrCreate, Task, ToBind, ToMountPlain, ToMove, World, admin_rules, and_then, apply, bind_rules, bind_tree, common_steps, copies_from, destination_walk, has_too_many, holds_of, judge, judge_in, judging, length-map, list_any, looks_of, most_mounts, mount_at, mount_numbered, mount_tree, move_rules, new_mount, new_mount_rules, odds, overfills, parts_of, plain_filesystem, rest_of, source_walk, unless, walk_end, with_new_filesystem}
use Rattle.vt_laws_mounts.proofs.letting_go.Lists.{filter-map}
use Rattle.vt_laws_worlds.proofs.permits.taken.AttachedNamespaces.{attached_namespaces, namespaces_after, namespaces_in}
use Rattle.vt_laws_worlds.proofs.permits.taken.PartsKept.{same_parts}
use Rattle.vt_laws_worlds.specs.Permits.Taken.{GivenWithAnySupply, JudgementsDoNotSeeSupplies}
use Rattle.vt_laws_trees.specs.Trees.Calls.{mounts_overlay}

-- how many mounts a namespace has is told by the namespaces of the mounts
count_by : (mounts : List (Mount ℕ)) (number : ℕ)
    → length (filter (λ (mount : Mount ℕ). holds_of (nat_eq number) mount.namespace) mounts)
    ≡ length (filter (holds_of (nat_eq number)) (map (λ (mount : Mount ℕ). mount.namespace) mounts))
count_by mounts number = cc (
  length-map (filter (λ (mount : Mount ℕ). holds_of (nat_eq number) mount.namespace) mounts)
      (λ (mount : Mount ℕ). mount.namespace),
  filter-map (holds_of (nat_eq number)) (λ (mount : Mount ℕ). mount.namespace) mounts (λ mount. refl),
)

many_alike : (one other : World ℕ) → one.namespaces ≡ other.namespaces
    → map (λ (mount : Mount ℕ). mount.namespace) one.mounts ≡ map (λ (mount : Mount ℕ). mount.namespace) other.mounts
    → has_too_many nat_eq one ≡ has_too_many nat_eq other
many_alike one other same alike =
    (λ i. list_any (λ (namespace : Namespace ℕ). nat_lt most_mounts (count_by one.mounts namespace.number i))
    one.namespaces) ∙ (λ i. list_any (λ (namespace : Namespace ℕ).
    nat_lt most_mounts (length (filter (holds_of (nat_eq namespace.number)) (alike i)))) (same i))
    ∙ (λ i. list_any (λ (namespace : Namespace ℕ). nat_lt most_mounts (sym (count_by other.mounts namespace.number) i))
    other.namespaces)

module _ (world : World ℕ) (whole : IsWorld nat_eq world) (task : Task ℕ) (fresh again : Fresh ℕ) where
  abbrev looks : Looks ℕ
  looks = looks_of nat_eq world

  abbrev supplied : Fresh ℕ → Location ℕ → List (Mount ℕ) → Copies ℕ
  supplied supply place tree = copies_from nat_eq supply (parts_of nat_eq world place) tree

  -- the mounts of a new filesystem get namespaces that do not go by its numbers
  new_namespaces : (place : Location ℕ) (flags : MountFlags) (supply : Fresh ℕ)
      → namespaces_in (apply nat_eq supply world task (ToMountPlain place flags)).world.mounts
      ≡ namespaces_after false world.mounts (mount_at nat_eq world place) (rest_of (parts_of nat_eq world place))
      (mount_at nat_eq world place ∷ [])
  new_namespaces place flags supply =
      let added = plain_filesystem nat_eq supply in
      let larger = with_new_filesystem world added in
      let tree = new_mount (supply 0) (supply 2) flags ∷ [] in
      cc (
        attached_namespaces larger place false tree (copies_from nat_eq (odds supply) (parts_of nat_eq larger place)
            tree),
        same_parts world whole added place,
      )

  mount_many : (place : Location ℕ) (flags : MountFlags) → overfills nat_eq fresh world task (ToMountPlain place flags)
      ≡ overfills nat_eq again world task (ToMountPlain place flags)
  mount_many place flags = many_alike (apply nat_eq fresh world task (ToMountPlain place flags)).world
      (apply nat_eq again world task (ToMountPlain place flags)).world refl
      (new_namespaces place flags fresh ∙ sym (new_namespaces place flags again))

  bind_many : (source place : Location ℕ) (recursive : Bool)
      → overfills nat_eq fresh world task (ToBind source place recursive)
      ≡ overfills nat_eq again world task (ToBind source place recursive)
  bind_many source place recursive =
      let tree = bind_tree nat_eq world source recursive in
      many_alike (apply nat_eq fresh world task (ToBind source place recursive)).world
      (apply nat_eq again world task (ToBind source place recursive)).world refl
      (attached_namespaces world place false tree (supplied fresh place tree)
      ∙ sym (attached_namespaces world place false tree (supplied again place tree)))

  move_many : (mount : ℕ) (place : Location ℕ)
      → overfills nat_eq fresh world task (ToMove mount place) ≡ overfills nat_eq again world task (ToMove mount place)
  move_many mount place =
      let tree = mount_tree nat_eq world.mounts (mount_numbered nat_eq world mount) in
      many_alike (apply nat_eq fresh world task (ToMove mount place)).world
      (apply nat_eq again world task (ToMove mount place)).world refl
      (attached_namespaces world place true tree (supplied fresh place tree)
      ∙ sym (attached_namespaces world place true tree (supplied again place tree)))

  mount_judged : (path : List ℕ) (flags : MountFlags)
      → judge nat_eq looks (overfills nat_eq fresh world task) task (MountPlain path flags)
      ≡ judge nat_eq looks (overfills nat_eq again world task) task (MountPlain path flags)
  unfolding judging
  mount_judged path flags = λ i. unless (admin_rules task)
      (and_then (walk_end (destination_walk nat_eq looks task path)) (λ here.
      unless (new_mount_rules nat_eq looks task here.location (mount_many here.location flags i))
      (Ok (ToMountPlain here.location flags))))

  bind_judged : (source path : List ℕ) (recursive : Bool)
      → judge nat_eq looks (overfills nat_eq fresh world task) task (Bind source path recursive)
      ≡ judge nat_eq looks (overfills nat_eq again world task) task (Bind source path recursive)
  unfolding judging
  bind_judged source path recursive = λ i. unless (admin_rules task)
      (and_then (walk_end (source_walk nat_eq looks task source)) (λ from.
      and_then (walk_end (destination_walk nat_eq looks task path)) (λ here.
      unless (bind_rules nat_eq looks task from.location here.location
      (bind_many from.location here.location recursive i)) (Ok (ToBind from.location here.location recursive)))))

  move_judged : (source path : List ℕ) → judge nat_eq looks (overfills nat_eq fresh world task) task (MoveMount source path)
      ≡ judge nat_eq looks (overfills nat_eq again world task) task (MoveMount source path)
  unfolding judging
  move_judged source path = λ i. unless (admin_rules task)
      (and_then (walk_end (source_walk nat_eq looks task source)) (λ from.
      and_then (walk_end (destination_walk nat_eq looks task path)) (λ here.
      unless (move_rules nat_eq looks task from.location here.location (move_many from.location.mount here.location i))
      (Ok (ToMove from.location.mount here.location)))))

  call_judged : (call : Call) → mounts_overlay call ≡ false
      → judge_in nat_eq fresh world task call ≡ judge_in nat_eq again world task call
  unfolding judging
  call_judged (MountPlain path flags) other = mount_judged path flags
  call_judged (MountOverlay path options flags) other = absurd (true≢false other)
  call_judged (Bind source path recursive) other = bind_judged source path recursive
  call_judged (MoveMount source path) other = move_judged source path
  call_judged (OpenFile path access NoCreation) other = refl
  call_judged (OpenFile path access (OrCreate mode)) other = refl
  call_judged (OpenFile path access (Exclusive mode)) other = refl
  call_judged call other = refl

pub judgements_do_not_see_supplies : JudgementsDoNotSeeSupplies
judgements_do_not_see_supplies world task call fresh again whole other =
    call_judged world whole task fresh again call other

pub given_with_any_supply : GivenWithAnySupply
given_with_any_supply world task permit fresh again whole serves given =
    grind (arith, common_steps, judgements_do_not_see_supplies)
