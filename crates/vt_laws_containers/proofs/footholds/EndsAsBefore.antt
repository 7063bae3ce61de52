-- After the sweep, and with change numbers raised, others are as they were before these.
use Rattle.std.proofs.Common.{◌≡◌, refl, sym, ap, subst, ◌∙◌, inl, inr, ⊎_elim, ℕ, nat_eq, Bool, true, false, cond, true≢false, List, [], ◌∷◌, ◌++◌, filter, find, flat_map, map, not, arith, unwrap_or}
use Rattle.vt_spec.proofs.Common.{Among, Filesystem, Location, Mount, Task, TaskName, World, all_locations, among-append, among-append_left, among-append_right, among-from_filter, among-from_map, among-map, any_from_among, common_steps, holds_of, is_among, is_member_task, is_own_namespace, list_all, list_any, locations, locations_of, members, mount_at, mount_lives, no_mount, not-true, number-only_used, numbers_raised, only_used, or_right, other_mounts, outsiders, own_mounts, raised, raised_task, same_name, same_task_name, settled, share_events, used_directly}
use Rattle.vt_laws_containers.proofs.Common.{OthersStayOut, among-flat_map_filter, any_mapped, filter-map, filter_less, raised_is}
use Rattle.vt_laws_sealed.proofs.outsiders.OthersSwept.{others_swept}
use Rattle.vt_laws_members.proofs.changes.letting_go.Ends.{raised_members}
use Rattle.vt_laws_containers.proofs.footholds.AsBefore.{GoesOn, OthersAsBefore, changes_alike, layered_as, without_real}

-- what is in the place of one that goes on goes on
pub going_on : (world : World ℕ) (names : List TaskName) (one other : Filesystem ℕ) → other.number ≡ one.number
    → layered_as other ≡ layered_as one → GoesOn world names one → GoesOn world names other
going_on world names one other number layered goes =
    ⊎_elim (λ old. inl (old.0, old.1, cc (old.2), layered ∙ old.3)) (λ new. inr (
      λ there. new.0 (there.0, there.1, there.2 ∙ number),
      λ n m. new.1 n (subst (Among n) (changes_alike other one layered) m),
    )) goes

-- The sweep
module _ (world left : World ℕ) (names set : List TaskName) (others : OthersAsBefore world left names set) where
  abbrev last : World ℕ
  last = settled nat_eq left

  owns_stay : own_mounts nat_eq last set ≡ own_mounts nat_eq left set
  owns_stay = grind (arith, common_steps, filter_less, true≢false)

  others_stay : other_mounts nat_eq last set ≡ other_mounts nat_eq left set
  others_stay = grind (arith, common_steps, filter_less, true≢false)

  -- a mount with a location on it lives
  found_living : (location : Location ℕ) → Among location (all_locations left)
      → mount_at nat_eq last location ≡ mount_at nat_eq left location
  found_living location m = ap (λ o. unwrap_or o (no_mount location.mount)) (search left.mounts)
    where
      located : (mount : Mount ℕ) → nat_eq location.mount mount.number ≡ true → mount_lives nat_eq left mount ≡ true
      located mount e = grind (arith, common_steps, or_right, any_from_among)

      search : (list : List (Mount ℕ))
          → find (λ (x : Mount ℕ). nat_eq location.mount x.number) (filter (mount_lives nat_eq left) list)
          ≡ find (λ (x : Mount ℕ). nat_eq location.mount x.number) list
      search [] = refl
      search (x ∷ rest) = grind (arith, common_steps, located, true≢false, search rest)

  placed : (test : Task ℕ → Bool) (location : Location ℕ) → Among location (locations (filter test left.tasks))
      → Among location (all_locations left)
  placed test = among-flat_map_filter locations_of test left.tasks

  -- a filesystem that is left is an overlay over the layers that it had
  cut_layered : (w : World ℕ) (b : Bool) (f : Filesystem ℕ) → layered_as (only_used nat_eq w b f) ≡ layered_as f
  cut_layered w true f = grind (arith, common_steps, without_real, layered_as)
  cut_layered w false f = refl

  left_from : (f : Filesystem ℕ) → Among f last.filesystems
      → (was : Filesystem ℕ) × Among was left.filesystems × (f.number ≡ was.number) × (layered_as f ≡ layered_as was)
  left_from f m =
      grind (arith, common_steps, among-from_map, among-from_filter, number-only_used, layered_as, cut_layered)

  out_now : OthersStayOut left left set
  out_now = grind (arith, common_steps)

  direct_was : (number : ℕ) → Among number (used_directly nat_eq last set)
      → Among number (used_directly nat_eq left set)
  direct_was number m = ⊎_elim (λ shown. among-append_left _ _ _
      (subst (λ list. Among number (map (λ (x : Mount ℕ). x.filesystem) list)) owns_stay shown))
      (λ at. let l = among-from_map (λ (l : Location ℕ). (mount_at nat_eq last l).filesystem) _ _ at in
      among-append_right _ _ _ (subst (λ n. Among n located) (sym (cc (l.2, found_living l.0 (placed _ l.0 l.1))))
      (among-map (λ (l : Location ℕ). (mount_at nat_eq left l).filesystem) _ l.0 l.1))) (among-append _ _ _ m)
    where
      mounted : List ℕ
      mounted = map (λ (x : Mount ℕ). x.filesystem) (own_mounts nat_eq left set)

      located : List ℕ
      located = map (λ (l : Location ℕ). (mount_at nat_eq left l).filesystem) (locations (members left set))

  pub swept_as_before : OthersAsBefore world last names set
  swept_as_before =
      let out = others_swept left left set out_now in
      record {
        others = others.others;
        mounts = others_stay ∙ others.mounts;
        shown = λ location m. ap (λ (x : Mount ℕ). x.filesystem)
            (found_living location (placed (λ (t : Task ℕ). not (is_member_task set t)) location
            (subst (λ tasks. Among location (locations tasks)) (sym others.others) m))) ∙ others.shown location m;
        tasks = out.tasks;
        events = out.events;
        places = out.locations;
        filesystems = λ f m.
            let was = left_from f m in
            going_on world names was.0 f was.2 was.3 (others.filesystems was.0 was.1);
        direct = λ number m. others.direct number (direct_was number m);
      }

-- Change numbers
module _ {world left : World ℕ} {names set : List TaskName} (others : OthersAsBefore world left names set)
    (before : World ℕ) (name : TaskName) (changed : List ℕ) (theirs : is_among same_name name names ≡ true) where
  abbrev raised_left : World ℕ
  raised_left = numbers_raised nat_eq before name changed left

  abbrev raise : Task ℕ → Task ℕ
  raise = raised_task name

  own_same : (n : ℕ) → is_own_namespace nat_eq raised_left set n ≡ is_own_namespace nat_eq left set n
  own_same n = grind (arith, common_steps, raised_members, any_mapped, raised_is)

  -- the caller is none of the others
  unraised : (t : Task ℕ) → Among t (outsiders left set) → raise t ≡ t
  unraised t m = by (same_name name t.name) refl
    where
      by : (b : Bool) → same_name name t.name ≡ b → cond b (record t { change = raised t.change }) t ≡ t
      by true e = cc (same_task_name name t.name e, outside)
        where
          outside : is_member_task names t ≡ false
          outside = grind (arith, common_steps, not-true, among-from_filter)
      by false e = refl

  map_same : (f : Task ℕ → Task ℕ) (list : List (Task ℕ)) → ((t : Task ℕ) → Among t list → f t ≡ t) → map f list ≡ list
  map_same f [] same = refl
  map_same f (t ∷ rest) same = cc (same t (inl refl), map_same f rest (λ x m. same x (inr m)))

  outsiders_same : outsiders raised_left set ≡ outsiders left set
  outsiders_same = filter-map (λ (t : Task ℕ). not (is_member_task set t)) raise left.tasks
      (λ t. ap (λ n. not (is_among same_name n set)) (raised_is name (λ (x : Task ℕ). x.name) (λ x. refl) t))
      ∙ map_same raise (outsiders left set) unraised

  abbrev others_by : (ℕ → Bool) → List (Mount ℕ)
  others_by own = filter (λ (mount : Mount ℕ). holds_of (λ n. not (own n)) mount.namespace) left.mounts

  abbrev owned_by : (ℕ → Bool) → List (Mount ℕ)
  owned_by own = filter (λ (mount : Mount ℕ). holds_of own mount.namespace) left.mounts

  places_same : locations (members raised_left set) ≡ locations (members left set)
  places_same = cc (raised_members set name left.tasks, flat (members left set))
    where
      flat : (list : List (Task ℕ)) → flat_map locations_of (map raise list) ≡ flat_map locations_of list
      flat [] = refl
      flat (t ∷ rest) = cc (raised_is name locations_of (λ x. refl) t, flat rest)

  direct_same : used_directly nat_eq raised_left set ≡ used_directly nat_eq left set
  direct_same i = map (λ (mount : Mount ℕ). mount.filesystem) (owned_by (λ n. own_same n i))
      ++ map (λ (l : Location ℕ). (mount_at nat_eq left l).filesystem) (places_same i)

  pub raised_as_before : OthersAsBefore world raised_left names set
  raised_as_before = record {
    others = outsiders_same ∙ others.others;
    mounts = (λ i. others_by (λ n. own_same n i)) ∙ others.mounts;
    shown = others.shown;
    tasks = (λ i. list_all (λ (t : Task ℕ). not (own_same t.namespace i)) (outsiders_same i)) ∙ others.tasks;
    events = (λ i. list_all (λ own. list_all (λ other. not (share_events nat_eq left own other))
        (others_by (λ n. own_same n i))) (owned_by (λ n. own_same n i))) ∙ others.events;
    places = (λ i. list_all (λ location. not (holds_of (λ n. own_same n i) (mount_at nat_eq left location).namespace))
        (locations (outsiders_same i))) ∙ others.places;
    filesystems = λ f m.
        let was = among-from_map _ _ f m in
        going_on world names was.0 f (ap (λ (x : Filesystem ℕ). x.number) was.2 ∙ by_number was.0 _)
        (cc (was.2, by_layers was.0 (list_any (λ number. nat_eq number was.0.number) changed)))
        (others.filesystems was.0 was.1);
    direct = λ number m. others.direct number (subst (Among number) direct_same m);
  }
    where
      by_number : (f : Filesystem ℕ) (b : Bool) → (cond b (record f { change = raised f.change }) f).number ≡ f.number
      by_number f true = refl
      by_number f false = refl

      by_layers : (f : Filesystem ℕ) (b : Bool)
          → layered_as (cond b (record f { change = raised f.change }) f) ≡ layered_as f
      by_layers f true = refl
      by_layers f false = refl
