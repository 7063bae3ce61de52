-- Steps in turn: overlays that go between them leave the others as they are.
use Rattle.std.proofs.Common.{◌≡◌, ◌∙◌, refl, sym, ap, subst, arith, ℕ, nat_eq, Bool, true, false, cond, ◌&&◌, ◌||◌, List, [], ◌∷◌, filter, map, Contains, Option, Some, None}
use Rattle.std.specs.List.{list_any}
use Rattle.vt_spec.proofs.Common.{All-head, All-tail, Among, all_from_among, among-from_filter, among-from_map, among-map, among_from_all, any_pair, common_steps, contains_from_among, pair-filter, then_some}
use Rattle.vt_births.specs.declared.upper_nodes.UpperNodes.{UpperNodes}
use Rattle.vt_location.specs.Locations.{is_small_node}
use Rattle.vt_layered.specs.LayeredValue.{Above, LayeredValue}
use Rattle.vt_layered.specs.Pins.{IsPinned, IsUnpinned}
use Rattle.vt_store.specs.OverlaysValue.{OverlayEntry, Overlays, layered_of}
use Rattle.vt_store.specs.Pins.{ChangesAbove, ChangesOverlay}
use Rattle.vt_kept_nodes.specs.Counted.{AreApart, CountNodes, CountsAbove, Located, Unnamed}
use Rattle.vt_kept_nodes.specs.Left.{AboveForgets, AreLeftOf, IsLeftOf}
use Rattle.vt_kept_nodes.specs.Turns.{AreFewer, NodesChange, Step, StepsAreCounted, StepsAreJoined, layered_one, located_by_step, node_of_step, of_counts}
use Rattle.vt_kept_nodes.specs.Turns.Step.{Pinned, Unpinned}
use Rattle.vt_kept_nodes.proofs.counting.Changed.{having}
use Rattle.vt_kept_nodes.proofs.counting.CountedOn.{overlays_pinned, overlays_unpinned}
use Rattle.vt_kept_nodes.proofs.counting.LeftOf.{leaving_goes_on, left_as_it_was, overlays_left_pinned, overlays_left_unpinned}

-- Rows

filter_filter : {A : Type 0} (p q : A → Bool) (list : List A)
    → filter p (filter q list) ≡ filter (λ a. q a && p a) list
filter_filter p q [] = refl
filter_filter p q (a ∷ list) = grind (arith, common_steps, filter_filter p q list)

fewer_on : (first mid last : Overlays) → AreFewer first mid → AreFewer mid last → AreFewer first last
fewer_on first mid last is later = (
  λ one. is.0 one && later.0 one,
  later.1 ∙ ap (filter later.0) is.1 ∙ filter_filter later.0 is.0 (of_counts first),
)

fewer_before : (steps : List Step) (first mid last : Overlays) → AreFewer first mid → NodesChange steps mid last
    → NodesChange steps first last
fewer_before [] first mid last is later = fewer_on first mid last is later
fewer_before (step ∷ rest) first mid last is later =
    (later.0, later.1, fewer_on first mid later.0 is later.2, later.3, later.4)

pub steps_are_joined : StepsAreJoined
steps_are_joined [] other first mid last is later = fewer_before other first mid last is later
steps_are_joined (step ∷ rest) other first mid last is later =
    (is.0, is.1, is.2, is.3, steps_are_joined rest other is.1 mid last is.4 later)

-- Counts of overlays

any_counts : (k : ℕ) (overlays : Overlays)
    → list_any (λ (one : ℕ × LayeredValue). nat_eq k one.0) (of_counts overlays)
    ≡ list_any (λ (entry : OverlayEntry). nat_eq k entry.count) overlays
any_counts k [] = refl
any_counts k (entry ∷ overlays) = ap (λ b. nat_eq k entry.count || b) (any_counts k overlays)

pair_counts : (overlays : Overlays)
    → any_pair (λ (a b : ℕ × LayeredValue). nat_eq a.0 b.0) (of_counts overlays)
    ≡ any_pair (λ (a b : OverlayEntry). nat_eq a.count b.count) overlays
pair_counts [] = refl
pair_counts (entry ∷ overlays) = λ i. any_counts entry.count overlays i || pair_counts overlays i

-- Where overlays go

module _ (old new : Overlays) (is : AreFewer old new) where
  was_there : (entry : OverlayEntry) → Among entry new
      → (was : OverlayEntry) × Among was old × (layered_one entry ≡ layered_one was)
  was_there entry m = among-from_map layered_one old (layered_one entry)
      (among-from_filter is.0 (of_counts old) (layered_one entry)
      (subst (Among (layered_one entry)) is.1 (among-map layered_one new entry m))).0

  fewer_left : AreLeftOf old new
  fewer_left = all_from_among Left new (λ entry m.
      let was = was_there entry m in (
        was.0,
        contains_from_among old was.0 was.1,
        record {
          count = ap (λ (one : ℕ × LayeredValue). one.0) was.2;
          overlay = ap (λ (one : ℕ × LayeredValue). one.1.overlay) was.2;
          above = subst (AboveForgets was.0.above) (sym (ap (λ (one : ℕ × LayeredValue). one.1.above) was.2))
              (left_as_it_was was.0).above;
        },
      ))
    where
      Left : OverlayEntry → Type 0
      Left entry = (was : OverlayEntry) × Contains old was × IsLeftOf was entry

  fewer_counted : (unnamed : Unnamed) (on : Located) → CountNodes unnamed on old → CountNodes unnamed on new
  fewer_counted unnamed on counts = all_from_among Counts new (λ entry m.
      let was = was_there entry m in
      subst Counts (sym (λ i. record {
        count = (was.2 i).0;
        overlay = (was.2 i).1.overlay;
        above = (was.2 i).1.above;
        mounts = entry.mounts;
      })) (by was.0 entry.mounts was.0.above (among_from_all Counts old counts was.0 was.1)))
    where
      Counts : OverlayEntry → Type 0
      Counts entry = CountsAbove unnamed on entry entry.above

      by : (was : OverlayEntry) (mounts : ℕ) (above : Option Above) → CountsAbove unnamed on was above
          → CountsAbove unnamed on (record was { mounts = mounts }) above
      by was mounts None counted = tt
      by was mounts (Some above) counted = counted

  fewer_apart : AreApart old → AreApart new
  fewer_apart apart = sym (pair_counts new) ∙ ap (any_pair (λ (a b : ℕ × LayeredValue). nat_eq a.0 b.0)) is.1
      ∙ pair-filter (λ (a b : ℕ × LayeredValue). nat_eq a.0 b.0) is.0 (of_counts old) (pair_counts old ∙ apart)

-- A step changes no count
counts_having : (count : ℕ) (nodes : UpperNodes) (overlays : Overlays)
    → map (λ (entry : OverlayEntry). entry.count)
    (map (λ (entry : OverlayEntry). cond (nat_eq count entry.count) (having nodes entry) entry) overlays)
    ≡ map (λ (entry : OverlayEntry). entry.count) overlays
counts_having count nodes [] = refl
counts_having count nodes (entry ∷ overlays) =
    λ i. by (nat_eq count entry.count) i ∷ counts_having count nodes overlays i
  where
    by : (b : Bool) → (cond b (having nodes entry) entry).count ≡ entry.count
    by true = refl
    by false = refl

any_of_counts : (k : ℕ) (overlays : Overlays)
    → list_any (nat_eq k) (map (λ (entry : OverlayEntry). entry.count) overlays)
    ≡ list_any (λ (entry : OverlayEntry). nat_eq k entry.count) overlays
any_of_counts k [] = refl
any_of_counts k (entry ∷ overlays) = ap (λ b. nat_eq k entry.count || b) (any_of_counts k overlays)

pair_of_counts : (overlays : Overlays) → any_pair nat_eq (map (λ (entry : OverlayEntry). entry.count) overlays)
    ≡ any_pair (λ (a b : OverlayEntry). nat_eq a.count b.count) overlays
pair_of_counts [] = refl
pair_of_counts (entry ∷ overlays) = λ i. any_of_counts entry.count overlays i || pair_of_counts overlays i

apart_changed : (change : UpperNodes → UpperNodes → Type 0) (count : ℕ) (old new : Overlays)
    → ChangesOverlay change count old new → AreApart old → AreApart new
apart_changed change count old new changes apart = sym (pair_of_counts new)
    ∙ ap (any_pair nat_eq) (by (then_some (layered_of old count) (λ (layered : LayeredValue). layered.above)) changes)
    ∙ pair_of_counts old ∙ apart
  where
    by : (o : Option Above) → ChangesAbove change count old new o
        → map (λ (entry : OverlayEntry). entry.count) new ≡ map (λ (entry : OverlayEntry). entry.count) old
    by None is = ap (map (λ (entry : OverlayEntry). entry.count)) is
    by (Some above) is = ap (map (λ (entry : OverlayEntry). entry.count)) is.2 ∙ counts_having count is.0 old

-- A row of steps
pub steps_are_counted : StepsAreCounted
steps_are_counted unnamed on [] old new small apart counts may is = record {
  counts = fewer_counted old new is unnamed on counts;
  left = fewer_left old new is;
  apart = fewer_apart old new is apart;
}
steps_are_counted unnamed on (Pinned node ∷ rest) old new small apart counts may is =
    let own = All-head (λ step. is_small_node (node_of_step step) ≡ true) (Pinned node) rest small in
    let from_apart = fewer_apart old is.0 is.2 apart in
    let from_counts = fewer_counted old is.0 is.2 unnamed on counts in
    let later = steps_are_counted unnamed (located_by_step (Pinned node) on) rest is.1 new
    (All-tail (λ step. is_small_node (node_of_step step) ≡ true) (Pinned node) rest small)
    (apart_changed (IsPinned node) node.filesystem.count is.0 is.1 is.3 from_apart)
    (overlays_pinned unnamed on node is.0 is.1 own from_apart from_counts may.0 is.3) may.1 is.4 in
    record {
      counts = later.counts;
      left = leaving_goes_on old is.0 new (fewer_left old is.0 is.2)
          (leaving_goes_on is.0 is.1 new (overlays_left_pinned node is.0 is.1 from_apart is.3) later.left);
      apart = later.apart;
    }
steps_are_counted unnamed on (Unpinned node ∷ rest) old new small apart counts may is =
    let own = All-head (λ step. is_small_node (node_of_step step) ≡ true) (Unpinned node) rest small in
    let from_apart = fewer_apart old is.0 is.2 apart in
    let from_counts = fewer_counted old is.0 is.2 unnamed on counts in
    let later = steps_are_counted unnamed (located_by_step (Unpinned node) on) rest is.1 new
    (All-tail (λ step. is_small_node (node_of_step step) ≡ true) (Unpinned node) rest small)
    (apart_changed (IsUnpinned node) node.filesystem.count is.0 is.1 is.3 from_apart)
    (overlays_unpinned unnamed on node is.0 is.1 own from_apart from_counts is.3) may.1 is.4 in
    record {
      counts = later.counts;
      left = leaving_goes_on old is.0 new (fewer_left old is.0 is.2)
          (leaving_goes_on is.0 is.1 new
          (overlays_left_unpinned unnamed on node is.0 is.1 from_apart from_counts is.3) later.left);
      apart = later.apart;
    }
