-- Namespaces that end: their mounts are detached one after the other, with a sweep after each, or all at once.
use Rattle.std.proofs.Common.{◌≡◌, refl, sym, ap, subst, ◌∙◌, ℕ, zero, suc, nat_eq, Bool, true, false, List, [], ◌∷◌, ◌++◌, filter, flat_map, map, Option, None, is_some, option_map, length, if◌then◌else◌, arith}
use Rattle.vt_spec.proofs.Common.{Location, Mount, MountInvariants, Namespace, World, among_from_list_all, chain, common_steps, detached, filesystems-taken_away, filter_none, has_child, has_tasks, is_among, is_located, is_nowhere_or_attached, last_or, mount_at, mount_lives, mount_numbered, or_parts, regrouped, settled, stands_on, taken_away, tree_from, with_mounts}
use Rattle.vt_laws_mounts.specs.LettingGo.InUse.{HasTrees, UppersArePlain}
use Rattle.vt_laws_mounts.specs.LettingGo.Leaving.{with_sweeps}
use Rattle.vt_laws_mounts.specs.LettingGo.Mounting.{ended_mounts}
use Rattle.vt_laws_mounts.specs.LettingGo.Overlays.{RealsAreThere}
use Rattle.vt_laws_mounts.specs.LettingGo.Several.{KeepsMounts}
use Rattle.vt_laws_mounts.proofs.letting_go.Lists.{any-filter}
use Rattle.vt_laws_mounts.proofs.letting_go.mounting.MountsSwept.{mounts_stand}
use Rattle.vt_laws_mounts.proofs.letting_go.mounting.TakenInTurn.{one_sweep_for_mounts_with_overlays}
use Rattle.vt_laws_mounts.proofs.ends.Ending.{trees_keep_mounts}
use Rattle.vt_laws_mounts.proofs.mounts.MountsFound.{number-mount_in}
use Rattle.vt_propagate.specs.EndsInTurn.{GoInTurn, GoInTurnSwept, NamespacesEndInTurn, OneByOneAreSweptOnce, TurnsAreSeenSwept, UnlistedNamespacesEndInTurn, with_namespaces, without_one}
use Rattle.vt_propagate.proofs.LazyUnmounts.{parts_are_swept_once}

-- A mount without a child is the whole of its tree

tree_alone : (world : World ℕ) (mount : Mount ℕ) → has_child nat_eq world mount.number ≡ false
    → (depth : ℕ) → tree_from nat_eq depth world.mounts mount ≡ mount ∷ []
tree_alone world mount childless zero = refl
tree_alone world mount childless (suc depth) =
    ap (λ under. mount ∷ flat_map (tree_from nat_eq depth world.mounts) under)
    (filter_none (stands_on nat_eq mount.number) world.mounts childless)

-- so that the invariants of mounts are kept where it is detached
pub alone_keeps_mounts : (world : World ℕ) (number : ℕ) → MountInvariants nat_eq world
    → has_child nat_eq world number ≡ false → MountInvariants nat_eq (without_one world number)
alone_keeps_mounts world number kept childless = subst (λ gone. MountInvariants nat_eq (taken_away nat_eq world gone))
    (ap (λ tree. map (λ (mount : Mount ℕ). mount.number) (tree ++ []))
    (tree_alone world (mount_numbered nat_eq world number)
    (ap (has_child nat_eq world) (number-mount_in world.mounts number) ∙ childless) (length world.mounts))
    ∙ ap (λ one. one ∷ []) (number-mount_in world.mounts number))
    (trees_keep_mounts world (mount_numbered nat_eq world number ∷ []) kept)

-- One by one

-- a list of each number alone
abbrev each_alone : List ℕ → List (List ℕ)
each_alone numbers = map (λ number. number ∷ []) numbers

-- the invariants of mounts hold on the way
turns_keep : (world : World ℕ) (numbers : List ℕ) → MountInvariants nat_eq world → GoInTurn world numbers
    → KeepsMounts (taken_away nat_eq) world (each_alone numbers)
turns_keep world [] kept turns = kept
turns_keep world (number ∷ rest) kept turns = (
  kept,
  turns_keep (without_one world number) rest (alone_keeps_mounts world number kept turns.0) turns.1,
)

-- mounts that go one by one are parts that go, of one mount each
swept_as_parts : (now : World ℕ) (numbers : List ℕ)
    → with_sweeps without_one now numbers ≡ with_sweeps (taken_away nat_eq) now (each_alone numbers)
swept_as_parts now [] = refl
swept_as_parts now (number ∷ rest) = swept_as_parts (settled nat_eq (without_one now number)) rest

parts_together : (numbers : List ℕ) → flat_map (λ part. part) (each_alone numbers) ≡ numbers
parts_together [] = refl
parts_together (number ∷ rest) = ap (λ list. number ∷ list) (parts_together rest)

-- mounts that go one by one leave, once swept, what they leave at once
pub one_by_one_are_swept_once : OneByOneAreSweptOnce
one_by_one_are_swept_once world numbers trees uppers reals kept turns = swept_as_parts (settled nat_eq world) numbers
    ∙ parts_are_swept_once world (each_alone numbers) trees uppers reals (turns_keep world numbers kept turns)
    ∙ ap (λ gone. settled nat_eq (taken_away nat_eq world gone)) (parts_together numbers)

-- Which mounts go is told by a test, so that their order does not count

module _ (world : World ℕ) (goes : ℕ → Bool) where
  -- where a place falls to, as the test says which mounts go
  abbrev falls_by : Location ℕ → Option (Location ℕ)
  falls_by place = if goes place.mount then (mount_at nat_eq world place).mount_point else None

  abbrev left_by : Location ℕ → Location ℕ
  left_by place = last_or place (chain (length world.mounts) falls_by place)

  abbrev after_by : Mount ℕ → Mount ℕ
  after_by mount = if goes mount.number then detached mount
      else record mount { mount_point = option_map left_by mount.mount_point }

  abbrev taken_by : World ℕ
  taken_by = regrouped nat_eq (with_mounts world (map after_by world.mounts))

-- mounts leave the same world in whatever order they are listed
pub taken_in_any_order : (world : World ℕ) (one other : List ℕ)
    → ((number : ℕ) → is_among nat_eq number one ≡ is_among nat_eq number other)
    → taken_away nat_eq world one ≡ taken_away nat_eq world other
taken_in_any_order world one other same = λ i. taken_by world (λ number. same number i)

-- The ends of namespaces

-- a namespace ends by its mounts in turn
pub namespaces_end_in_turn : NamespacesEndInTurn
namespaces_end_in_turn world numbers trees uppers reals kept turns are =
    ap (λ (now : World ℕ). record now { namespaces = filter (has_tasks nat_eq world) world.namespaces })
    (one_by_one_are_swept_once world numbers trees uppers reals kept turns
    ∙ ap (settled nat_eq) (taken_in_any_order world numbers (ended_mounts world) are))

-- Namespaces that are taken off the list first

-- which namespaces are listed makes no difference to mounts that are detached
namespaces_do_not_count : (world : World ℕ) (namespaces : List (Namespace ℕ)) (gone : List ℕ)
    → taken_away nat_eq (with_namespaces world namespaces) gone
    ≡ with_namespaces (taken_away nat_eq world gone) namespaces
namespaces_do_not_count world namespaces gone = grind (arith, common_steps)

-- nor to sweeps after each
sweeps_do_not_count : (namespaces : List (Namespace ℕ)) (numbers : List ℕ) (now : World ℕ)
    → with_sweeps without_one (with_namespaces now namespaces) numbers
    ≡ with_namespaces (with_sweeps without_one now numbers) namespaces
sweeps_do_not_count namespaces [] now = refl
sweeps_do_not_count namespaces (number ∷ rest) now = ap (λ w. with_sweeps without_one (settled nat_eq w) rest)
    (namespaces_do_not_count now namespaces (number ∷ []))
    ∙ sweeps_do_not_count namespaces rest (settled nat_eq (without_one now number))

-- also where it is not listed any more
pub unlisted_namespaces_end_in_turn : UnlistedNamespacesEndInTurn
unlisted_namespaces_end_in_turn world numbers trees uppers reals kept turns are =
    sweeps_do_not_count (filter (has_tasks nat_eq world) world.namespaces) numbers (settled nat_eq world)
    ∙ namespaces_end_in_turn world numbers trees uppers reals kept turns are

-- Children in a world that is swept

-- a mount outside every namespace stands on none
stands_nowhere : (number : ℕ) (mount : Mount ℕ) → is_some mount.namespace ≡ false
    → is_nowhere_or_attached mount ≡ true → stands_on nat_eq number mount ≡ false
stands_nowhere number mount outside nowhere = grind (arith, common_steps)

-- so that a sweep takes no child
has_child_swept : (world : World ℕ) → MountInvariants nat_eq world → (number : ℕ)
    → has_child nat_eq (settled nat_eq world) number ≡ has_child nat_eq world number
has_child_swept world kept number =
    any-filter (stands_on nat_eq number) (mount_lives nat_eq world) world.mounts (λ mount m dead.
    stands_nowhere number mount (or_parts (is_some mount.namespace) (is_located nat_eq world mount.number) dead).0
    (among_from_list_all is_nowhere_or_attached world.mounts kept.nowhere mount m))

-- code has the mounts and groups that the turns leave
pub turns_are_seen_swept : TurnsAreSeenSwept
turns_are_seen_swept world [] trees uppers reals kept turns = tt
turns_are_seen_swept world (number ∷ rest) trees uppers reals kept turns =
    let childless : has_child nat_eq world number ≡ false = sym (has_child_swept world kept number) ∙ turns.0 in
    let after = alone_keeps_mounts world number kept childless in
    let same : world.filesystems ≡ (without_one world number).filesystems =
    sym (filesystems-taken_away world (number ∷ [])) in (
      childless,
      turns_are_seen_swept (without_one world number) rest
          (subst (λ fs. HasTrees (record world { filesystems = fs })) same trees)
          (subst (λ fs. UppersArePlain (record world { filesystems = fs })) same uppers)
          (subst (λ fs. RealsAreThere (record world { filesystems = fs })) same reals) after
          (subst (λ now. GoInTurnSwept now rest)
          (one_sweep_for_mounts_with_overlays world (number ∷ []) trees uppers reals kept
          (mounts_stand (without_one world number) after)) turns.1),
    )
