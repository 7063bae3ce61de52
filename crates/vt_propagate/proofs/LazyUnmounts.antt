-- A lazy unmount, whose events detach mounts in turn, leaves the world from which all of them are detached at once.
use Rattle.std.proofs.Common.{◌≡◌, refl, sym, ap, subst, ◌∙◌, ℕ, nat_eq, Bool, true, false, true≢false, ◌||◌, List, [], ◌∷◌, ◌++◌, Option, None, Some, option_map, is_some, ⊎_elim, Contains, flat_map, if◌then◌else◌, length}
use Rattle.vt_spec.proofs.Common.{Location, Mount, MountInvariants, Stands, World, after_going, all_from_among, among_cases, among_numbers, at_root, contains_from_among, folded, going, going_at, has_child, head_among, is_among, is_going, lazily_unmounted, list_any-append, map_same, mount_numbered, inherited_mount_point, mount_point_of_parent, mount_tree, on_parent, regrouped, same_Some, settled, taken_away, unmounted, unmounted_if_there, with_mounts, without_dead_groups}
use Rattle.vt_group.specs.Grouping.{Grouping, are_rising, peers_of}
use Rattle.vt_group.proofs.Together.{regrouped_living}
use Rattle.vt_laws_mounts.specs.LettingGo.Several.{KeepsMounts}
use Rattle.vt_laws_mounts.proofs.letting_go.mounting.TakenInTurn.{one_sweep_for_all_mounts_with_overlays}
use Rattle.vt_mount.specs.MountsValue.{MountEntry}
use Rattle.vt_mount.proofs.PointLemmas.{end-here}
use Rattle.vt_laws_mounts.proofs.ends.EndingLazy.{IsUnderWay, begun, childless, lazy_unmount_keeps_mounts, next}
use Rattle.vt_laws_mounts.proofs.ends.EndingOrder.{is_taken_in_turn, taken_in_turn}
use Rattle.vt_laws_mounts.proofs.mounts.MountsFound.{number-mount_in}
use Rattle.vt_laws_mounts.proofs.mounts.Standing.{LiesIn, lies_in_tree, stand}
use Rattle.vt_laws_mounts.proofs.mounts.Standing.LiesIn.{itself, under}
use Rattle.vt_laws_mounts.proofs.ends.Unmounting.{kept_by_number}
use Rattle.vt_laws_mounts.proofs.ends.UnmountingEnds.{the_mount_itself_goes}
use Rattle.vt_propagate.specs.LazyUnmounts.{LazyUnmountsAreAtOnce, LazyUnmountsAreSeen, LazyUnmountsSettleAlike, LazyUnmountsTakeTheTree, PartsAreSweptOnce, gone_by, gone_lazily, going_if_there}
use Rattle.vt_propagate.specs.Seen.{IsSeen}
use Rattle.vt_propagate.proofs.TakenTwice.{taken_twice}
use Rattle.vt_laws_mounts.specs.Mounts.Attaching.{numbers_of}
use Rattle.vt_laws_mounts.specs.Mounts.Receivers.{AllGroupsLive}
use Rattle.vt_laws_mounts.proofs.letting_go.SweptBetween.{settled_without_groups}
use Rattle.vt_laws_mounts.specs.LettingGo.Attaching.{is_attached}

-- where nothing goes, nothing changes
pub nothing_taken : (world : World ℕ) → MountInvariants nat_eq world → taken_away nat_eq world [] ≡ world
nothing_taken world kept = ap (λ mounts. regrouped nat_eq (with_mounts world mounts))
    (map_same (after_going nat_eq world []) world.mounts (λ mount m. λ i. record mount {
      mount_point = stays mount.mount_point i;
    })) ∙ regrouped_living world kept.groups
  where
    stays : (o : Option (Location ℕ)) → option_map (inherited_mount_point nat_eq world []) o ≡ o
    stays None = refl
    stays (Some place) = ap Some (end-here (mount_point_of_parent nat_eq world []) (length world.mounts) place refl)

-- the first of some events takes its mounts with all that the others take
abbrev left_by_event : Bool → World ℕ → ℕ → World ℕ
left_by_event there now number = if there then unmounted nat_eq now number else now

abbrev gone_by_event : Bool → World ℕ → ℕ → List ℕ
gone_by_event there now number = if there then going nat_eq now (mount_numbered nat_eq now number) else []

event_and_others : (now : World ℕ) → MountInvariants nat_eq now → (number : ℕ) (there : Bool) (others : List ℕ)
    → without_dead_groups nat_eq (taken_away nat_eq (left_by_event there now number) others)
    ≡ without_dead_groups nat_eq (taken_away nat_eq now (gone_by_event there now number ++ others))
event_and_others now kept number true others =
    taken_twice now (going nat_eq now (mount_numbered nat_eq now number)) others kept
event_and_others now kept number false others = refl

module _ (start : World ℕ) (at_first : MountInvariants nat_eq start) (one : ℕ) where
  events_at_once : (events : List (Mount ℕ)) (now : World ℕ) → IsUnderWay start at_first one now events
      → without_dead_groups nat_eq (folded (unmounted_if_there nat_eq) now events)
      ≡ without_dead_groups nat_eq (taken_away nat_eq now (gone_by now events))
  events_at_once [] now way = ap (without_dead_groups nat_eq) (sym (nothing_taken now way.kept))
  events_at_once (mount ∷ rest) now way =
      events_at_once rest (unmounted_if_there nat_eq now mount) (next start at_first one now mount rest way)
      ∙ event_and_others now way.kept mount.number (is_some (mount_numbered nat_eq now mount.number).namespace)
      (gone_by (unmounted_if_there nat_eq now mount) rest)

-- a lazy unmount takes all its mounts away at once
pub lazy_unmounts_are_at_once : LazyUnmountsAreAtOnce
lazy_unmounts_are_at_once world number kept =
    events_at_once world kept number (taken_in_turn world number) world (begun world kept number)

-- The tree

-- a mount goes in its own event, since nothing stands on it then
goes_itself : (now : World ℕ) → MountInvariants nat_eq now → (number : ℕ) → has_child nat_eq now number ≡ false
    → is_going nat_eq (going nat_eq now (mount_numbered nat_eq now number)) number ≡ true
goes_itself now kept number alone = by (mount_numbered nat_eq now number).mount_point refl
  where
    by : (o : Option (Location ℕ)) → (mount_numbered nat_eq now number).mount_point ≡ o
        → is_going nat_eq (going nat_eq now (mount_numbered nat_eq now number)) number ≡ true
    by None e = ap (λ p. is_going nat_eq (going_at nat_eq now (mount_numbered nat_eq now number) p) number) e
        ∙ head_among number (mount_numbered nat_eq now number).number [] (sym (number-mount_in now.mounts number))
    by (Some place) e = the_mount_itself_goes now number place kept.one_child e alone

-- what stands in a tree stands in the namespace of its top
same_namespace_in : (world : World ℕ) → MountInvariants nat_eq world → (top number : ℕ) → LiesIn world top number
    → (mount_numbered nat_eq world number).namespace ≡ (mount_numbered nat_eq world top).namespace
same_namespace_in world kept top number (itself it) = refl
same_namespace_in world kept top number (under above it place e way) =
    by (stand world kept.one_number kept.standing it) ∙ same_namespace_in world kept above place.mount way
  where
    by : Stands nat_eq world it
        → (mount_numbered nat_eq world it).namespace ≡ (mount_numbered nat_eq world place.mount).namespace
    by (at_root other f) = absurd (true≢false (sym (ap is_some e) ∙ ap is_some f))
    by (on_parent other at f same on) =
        same ∙ ap (λ (p : Location ℕ). (mount_numbered nat_eq world p.mount).namespace) (same_Some at place (sym f ∙ e))

module _ (start : World ℕ) (at_first : MountInvariants nat_eq start) (one : ℕ) where
  -- each mount that has an event, and is attached as yet, goes
  events_take : (events : List (Mount ℕ)) (now : World ℕ) → IsUnderWay start at_first one now events
      → (number : ℕ) → is_among nat_eq number (numbers_of events) ≡ true → is_attached now number ≡ true
      → is_among nat_eq number (gone_by now events) ≡ true
  events_take [] now way number m there = absurd (true≢false (sym m))
  events_take (mount ∷ rest) now way number m there = list_any-append (nat_eq number) (going_if_there now mount)
      (gone_by (unmounted_if_there nat_eq now mount) rest) ∙ ⊎_elim
      (λ same. own same (is_attached now mount.number) refl) (λ later. further (is_attached now mount.number) refl
      (events_take rest (unmounted_if_there nat_eq now mount) (next start at_first one now mount rest way) number
      later)) (among_cases number mount.number (numbers_of rest) m)
    where
      others : Bool
      others = is_among nat_eq number (gone_by (unmounted_if_there nat_eq now mount) rest)

      own : number ≡ mount.number → (b : Bool) → is_attached now mount.number ≡ b
          → (is_among nat_eq number (gone_by_event b now mount.number) || others) ≡ true
      own same true e = ap (λ t. t || others)
          (subst (λ n. is_among nat_eq n (going nat_eq now (mount_numbered nat_eq now mount.number)) ≡ true) (sym same)
          (goes_itself now way.kept mount.number (childless start at_first one now mount rest way)))
      own same false e = absurd (true≢false (sym there ∙ ap (is_attached now) same ∙ e))

      further : (b : Bool) → is_attached now mount.number ≡ b
          → (is_attached (left_by_event b now mount.number) number ≡ true → others ≡ true)
          → (is_among nat_eq number (gone_by_event b now mount.number) || others) ≡ true
      further true e later = by (is_among nat_eq number (gone_by_event true now mount.number)) refl
        where
          by : (goes : Bool) → is_among nat_eq number (gone_by_event true now mount.number) ≡ goes
              → (goes || others) ≡ true
          by true f = refl
          by false f =
              later (ap is_some (kept_by_number now (gone_by_event true now mount.number) number f).namespace ∙ there)
      further false e later = later there

-- and with each mount what stands on it
pub lazy_unmounts_take_the_tree : LazyUnmountsTakeTheTree
lazy_unmounts_take_the_tree world number kept there =
    all_from_among (λ mount. Contains (gone_lazily world number) mount.number)
    (mount_tree nat_eq world.mounts (mount_numbered nat_eq world number)) (λ mount m.
    let lies = subst (λ top. LiesIn world top mount.number) (number-mount_in world.mounts number)
    (lies_in_tree world kept.one_number kept.standing (length world.mounts) (mount_numbered nat_eq world number)
    mount m) in
    contains_from_among (gone_lazily world number) mount.number (among_numbers (gone_lazily world number) mount.number
    (events_take world kept number (taken_in_turn world number) world (begun world kept number) mount.number
    (is_taken_in_turn world kept.one_number kept.standing number mount.number lies)
    (ap is_some (same_namespace_in world kept number mount.number lies) ∙ there))))

-- What the two worlds are seen as, and settled

-- worlds that differ in the masters of groups without members have the same groups
seen_alike : {one : World ℕ} (other : World ℕ) {kept : List MountEntry} {grouping : Grouping}
    → without_dead_groups nat_eq other ≡ without_dead_groups nat_eq one → AllGroupsLive other
    → IsSeen one kept grouping → IsSeen other kept grouping
seen_alike {one} other same live seen =
    let mounts : other.mounts ≡ one.mounts = ap (λ (w : World ℕ). w.mounts) same in
    record {
      mounts = seen.mounts ∙ sym mounts;
      groups = record {
        order = ap (λ m. are_rising (numbers_of m)) mounts ∙ seen.groups.order;
        peers = seen.groups.peers ∙ sym (ap peers_of mounts);
        masters_order = seen.groups.masters_order;
        masters = λ group. seen.groups.masters group ∙ sym (ap (λ (w : World ℕ). w.master group) same);
      };
      living = live;
    }

-- Where the mounts that go are detached at once, code has the mounts and groups of the world after the lazy unmount.
pub seen_lazily : LazyUnmountsAreSeen
seen_lazily world number kept grouping invariants seen =
    seen_alike (lazily_unmounted nat_eq world number) (lazy_unmounts_are_at_once world number invariants)
    (lazy_unmount_keeps_mounts world number invariants).groups seen

-- Parts that are taken in turn settle to the world from which all of them are taken at once.
parts_settle_alike : (world : World ℕ) (parts : List (List ℕ)) → KeepsMounts (taken_away nat_eq) world parts
    → settled nat_eq (folded (taken_away nat_eq) world parts)
    ≡ settled nat_eq (taken_away nat_eq world (flat_map (λ part. part) parts))
parts_settle_alike world [] kept = sym (ap (settled nat_eq) (nothing_taken world kept))
parts_settle_alike world (first ∷ rest) kept =
    let others = flat_map (λ part. part) rest in
    parts_settle_alike (taken_away nat_eq world first) rest kept.1
    ∙ sym (settled_without_groups (taken_away nat_eq (taken_away nat_eq world first) others))
    ∙ ap (settled nat_eq) (taken_twice world first others kept.0)
    ∙ settled_without_groups (taken_away nat_eq world (first ++ others))

-- parts that are taken away in turn leave, once swept, what they leave at once
pub parts_are_swept_once : PartsAreSweptOnce
parts_are_swept_once world parts trees uppers reals kept =
    one_sweep_for_all_mounts_with_overlays world parts trees uppers reals kept ∙ parts_settle_alike world parts kept

-- A lazy unmount settles to the world in which they were detached at once.
pub settled_lazily : LazyUnmountsSettleAlike
settled_lazily world number kept = sym (settled_without_groups (lazily_unmounted nat_eq world number))
    ∙ ap (settled nat_eq) (lazy_unmounts_are_at_once world number kept)
    ∙ settled_without_groups (taken_away nat_eq world (gone_lazily world number))
