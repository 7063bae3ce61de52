-- After an unshare(2) of a task of a sealed set others are as they were.
use Rattle.std.proofs.Common.{arith, ◌≡◌, refl, sym, ap, subst, ◌∙◌, ◌⊎◌, inl, inr, ⊎_elim, ℕ, nat_eq, Bool, true, false, cond, true≢false, List, [], ◌∷◌, ◌++◌, Option, Some, None, filter, map, not, ◌||◌, eq-eqb, eqb-true}
use Rattle.vt_spec.proofs.Common.{Among, Fresh, Location, Mount, MountInvariants, Private, Serves, Task, TaskName, Unshare, World, all_locations, among-append, among-append_left, among-append_right, among-filter, among-from_filter, among-from_map, among-map, among_from_list_all, any_among, any_from_among, common_steps, detached, false_from_ne_true, group_of, holds_of, is_among, is_listed, is_member_of, is_member_task, is_own_mount, is_own_namespace, list_all, list_all_from_among, list_any, locations, locations_of, master_of, members, mount_at, mounts_of, name-replaced_if_called, namespaces_ended, not-true, other_mounts, outsiders, own_mounts, replaced_if_called, same_name, same_name_itself, same_task_name, share_events, shares_no_events, task_called, unshared, used_directly}
use Rattle.vt_laws_containers.proofs.Common.{IsApart, IsCallOfTheirs, IsMember, among-flat_map_filter, apart_if_sealed, caller_in, filter-map, found_itself, located_there, namespace_outside, only_task, places_moved, replaced_how, sealing_of, theirs_directly}
use Rattle.vt_laws_mounts.proofs.ends.Ending.{ended_namespaces_keep_mounts}
use Rattle.vt_laws_mounts.proofs.namespaces.Unsharing.{unshare_keeps_mounts}
use Rattle.vt_laws_members.proofs.changes.letting_go.CutNamespace.{in_space}
use Rattle.vt_laws_members.proofs.changes.letting_go.Heard.{own_in}
use Rattle.vt_laws_members.proofs.namespaces.Remade.{remade}
use Rattle.vt_laws_members.proofs.namespaces.Unshared.{CanUnshare, Ends, copy_of, cut, listed_in, moved_to_copies, new_among_spaces, new_space, unshare_plan, unshared_so}
use Rattle.vt_laws_containers.proofs.footholds.AsBefore.{OthersAsBefore}
use Rattle.vt_laws_containers.proofs.footholds.Mirror.{placed_listed}
use Rattle.vt_laws_containers.proofs.footholds.TasksAsBefore.{others_unmoved}

module _ {world : World ℕ} {names : List TaskName} {name : TaskName} (it : IsCallOfTheirs world names name Unshare)
    (task : Task ℕ) (called : task_called world name ≡ Some task) (fresh : Fresh ℕ)
    (serves : Serves nat_eq world fresh) where
  its_apart : IsApart world names
  its_apart = apart_if_sealed (sealing_of it)

  abbrev old : List (Task ℕ)
  old = members world names

  abbrev k : ℕ
  k = task.namespace

  abbrev s : ℕ
  s = new_space fresh

  abbrev copied : List (Mount ℕ)
  copied = mounts_of nat_eq world k

  abbrev copy : Mount ℕ → Mount ℕ
  copy = copy_of fresh copied

  abbrev moved : Task ℕ
  moved = moved_to_copies fresh copied task

  abbrev replaced : Task ℕ → Task ℕ
  replaced = replaced_if_called moved

  abbrev new : List (Task ℕ)
  new = filter (is_member_task names) (map replaced world.tasks)

  abbrev ours : ℕ → Bool
  ours = is_own_namespace nat_eq world names

  abbrev own_left : ℕ → Bool
  own_left n = list_any (λ (t : Task ℕ). nat_eq n t.namespace) new

  abbrev owns : Mount ℕ → Bool
  owns = is_own_mount nat_eq world names

  abbrev owns_left : Mount ℕ → Bool
  owns_left m = holds_of own_left m.namespace

  abbrev is_out : Mount ℕ → Bool
  is_out m = holds_of (λ n. not (ours n)) m.namespace

  abbrev is_out_left : Mount ℕ → Bool
  is_out_left m = holds_of (λ n. not (own_left n)) m.namespace

  -- The caller
  member : IsMember world names task
  member = caller_in it called

  in_world : (t : Task ℕ) → Among t old → Among t world.tasks
  in_world t m = (among-from_filter (is_member_task names) world.tasks t m).0

  only : (t : Task ℕ) → Among t world.tasks → (task ≡ t) ⊎ (same_name task.name t.name ≡ false)
  only t m = grind (arith, common_steps, only_task, in_world, member.among, same_task_name)

  k_own : ours k ≡ true
  k_own = any_from_among (λ (t : Task ℕ). nat_eq k t.namespace) old task member.among (eq-eqb k k refl)

  -- the new namespace is none of the world
  not_new : (n : ℕ) → is_listed nat_eq world n ≡ true → nat_eq n s ≡ false
  not_new n listed =
      let at = listed_in world n listed in
      grind (arith, common_steps, false_from_ne_true, true≢false, eq-eqb, eqb-true, new_among_spaces)

  task_listed : (t : Task ℕ) → Among t world.tasks → is_listed nat_eq world t.namespace ≡ true
  task_listed t m = among_from_list_all (λ (t : Task ℕ). is_listed nat_eq world t.namespace) world.tasks
      it.is.namespaces.tasks_listed t m

  can : CanUnshare world fresh task
  can = grind (arith, common_steps, in_world, member.among, same_name_itself, not_new, task_listed, only)

  -- Tasks of the set
  set_is : new ≡ map replaced old
  set_is = filter-map _ _ _ (λ t. ap (λ n. is_among same_name n names) (name-replaced_if_called moved t))

  how : (t : Task ℕ) → Among t old → ((replaced t ≡ moved) × (task ≡ t)) ⊎ (replaced t ≡ t)
  how t m = replaced_how it task called moved refl t (in_world t m)

  set_from : (t : Task ℕ) → Among t new → (u : Task ℕ) × Among u old × (t ≡ replaced u)
  set_from t m = among-from_map replaced old t (subst (Among t) set_is m)

  in_set : (u : Task ℕ) → Among u old → Among (replaced u) new
  in_set u m = subst (Among (replaced u)) (sym set_is) (among-map replaced old u m)

  -- Their namespaces
  entered : (n : ℕ) → own_left n ≡ true → (ours n ≡ true) ⊎ (n ≡ s)
  entered n h = grind (arith, common_steps, any_among, set_from, eqb-true, any_from_among, how)

  s_own : own_left s ≡ true
  s_own = any_from_among (λ (x : Task ℕ). nat_eq s x.namespace) new moved
      (subst (λ x. Among x new) (ap (λ b. cond b moved task) (same_name_itself task.name)) (in_set task member.among))
      (eq-eqb s s refl)

  still : (n : ℕ) → nat_eq k n ≡ false → ours n ≡ true → own_left n ≡ true
  still n differ h =
      let t = any_among (λ (x : Task ℕ). nat_eq n x.namespace) old h in
      ⊎_elim (λ caller. absurd (true≢false (sym (eq-eqb k n
      (ap (λ (x : Task ℕ). x.namespace) caller.1 ∙ sym (eqb-true n t.0.namespace t.2))) ∙ differ)))
      (λ same. any_from_among (λ (x : Task ℕ). nat_eq n x.namespace) new t.0
      (subst (λ x. Among x new) same (in_set t.0 t.1)) t.2) (how t.0 t.1)

  unentered : (n : ℕ) → is_listed nat_eq world n ≡ true → ours n ≡ false → own_left n ≡ false
  unentered n listed other = false_from_ne_true (own_left n) (λ h.
      ⊎_elim (λ own. cc)
      (λ same. cc (eq-eqb n s same, not_new n listed)) (entered n h))

  own_same : (n : ℕ) → is_listed nat_eq world n ≡ true → nat_eq k n ≡ false → own_left n ≡ ours n
  own_same n listed differ = grind (arith, common_steps, still, unentered)

  -- a mount of another namespace than the caller's is theirs just if it was
  owned_same : (m : Mount ℕ) → Among m world.mounts → in_space k m ≡ false → owns_left m ≡ owns m
  owned_same m n out = by m.namespace refl
    where
      by : (o : Option ℕ) → m.namespace ≡ o → holds_of own_left o ≡ holds_of ours o
      by None e = refl
      by (Some i) e = own_same i (placed_listed its_apart m n i e) (cc)

  outs_same : (m : Mount ℕ) → Among m world.mounts → in_space k m ≡ false → is_out_left m ≡ is_out m
  outs_same m n out = by m.namespace refl
    where
      by : (o : Option ℕ) → m.namespace ≡ o → holds_of (λ i. not (own_left i)) o ≡ holds_of (λ i. not (ours i)) o
      by None e = refl
      by (Some i) e = ap not
          (own_same i (placed_listed its_apart m n i e) (cc))

  own_in_k : (m : Mount ℕ) → in_space k m ≡ true → owns m ≡ true
  own_in_k m e = own_in (sealing_of it) k k_own m e

  own_not_out : (o : Option ℕ) → holds_of ours o ≡ true → holds_of (λ n. not (ours n)) o ≡ false
  own_not_out None own = refl
  own_not_out (Some n) own = ap not own

  none_come : (list : List (Mount ℕ)) → filter is_out_left (map copy list) ≡ []
  none_come [] = refl
  none_come (x ∷ rest) = grind (arith, common_steps, s_own, none_come rest)

  others_are : filter (λ (t : Task ℕ). not (is_member_task names t)) (map replaced world.tasks) ≡ outsiders world names
  others_are = others_unmoved world names name Unshare it task called moved refl

  placed : (test : Task ℕ → Bool) (l : Location ℕ) → Among l (locations (filter test world.tasks))
      → Among l (all_locations world)
  placed test = among-flat_map_filter locations_of test world.tasks

  -- no mount receives events of a private one
  unheard : (y : Mount ℕ) (o : Option ℕ)
      → holds_of (λ g. is_member_of nat_eq g (record y { propagation = Private })) o ≡ false
  unheard y None = refl
  unheard y (Some g) = refl

  private_apart : (y other : Mount ℕ) → share_events nat_eq world (record y { propagation = Private }) other ≡ false
  private_apart y other =
      λ i. unheard y (group_of other.propagation) i || unheard y (master_of world other.propagation) i

  -- whether the old namespace ends
  module _ (ends : Bool) (here : Ends ends world task) where
    abbrev turn : Mount ℕ → Mount ℕ
    turn = cut ends k

    abbrev copies : List (Mount ℕ)
    copies = map copy copied

    abbrev left : World ℕ
    left = remade (unshare_plan ends k fresh copied) world (map replaced world.tasks)

    world_so : namespaces_ended nat_eq (unshared nat_eq world fresh task) ≡ left
    world_so = unshared_so world fresh task can ends here

    left_kept : MountInvariants nat_eq left
    left_kept = subst (MountInvariants nat_eq) world_so (ended_namespaces_keep_mounts (unshared nat_eq world fresh task)
        (unshare_keeps_mounts world fresh task serves it.is.mounts))

    not_cut : (m : Mount ℕ) → in_space k m ≡ false → turn m ≡ m
    not_cut m e = grind (arith, common_steps)

    turned_number : (m : Mount ℕ) → (turn m).number ≡ m.number
    turned_number m = grind (arith, common_steps, in_space)

    turned_shows : (m : Mount ℕ) → (turn m).filesystem ≡ m.filesystem
    turned_shows m = grind (arith, common_steps, in_space)

    turned_kind : (m : Mount ℕ) → ((turn m).propagation ≡ m.propagation) ⊎ ((turn m).propagation ≡ Private)
    turned_kind m = grind (arith, common_steps, in_space)

    -- a mount of the caller's old namespace is none of others
    turned_ours : (m : Mount ℕ) → in_space k m ≡ true → is_out_left (turn m) ≡ false
    turned_ours m e = by ends here
      where
        in_old : (o : Option ℕ) → holds_of (nat_eq k) o ≡ true → own_left k ≡ true
            → holds_of (λ n. not (own_left n)) o ≡ false
        in_old None h own = refl
        in_old (Some n) h own = cc (eqb-true k n h)

        theirs : (t : Task ℕ) → Among t world.tasks → t.namespace ≡ k → (b : Bool)
            → is_member_task names t ≡ b → Among t old
        theirs t m together true f = among-filter (is_member_task names) world.tasks t m f
        theirs t m together false f =
            grind (arith, common_steps, true≢false, k_own, namespace_outside, its_apart, among-filter)

        by : (b : Bool) → Ends b world task → is_out_left (cut b k m) ≡ false
        by true alone = ap (λ c. is_out_left (cond c (detached m) m)) e
        by false (other, n, together, differ) = in_old _ e
            (any_from_among (λ (x : Task ℕ). nat_eq k x.namespace) new other (subst (λ x. Among x new)
            (ap (λ b. cond b moved other) differ) (in_set other (theirs other n together _ refl)))
            (eq-eqb k _ (sym together)))

    outs_stay : (list : List (Mount ℕ)) → ((x : Mount ℕ) → Among x list → Among x world.mounts)
        → filter is_out_left (map turn list ++ copies) ≡ filter is_out list
    outs_stay [] sub = none_come copied
    outs_stay (x ∷ rest) sub = by (in_space k x) refl (outs_stay rest (λ y m. sub y (inr m)))
      where
        by : (b : Bool) → in_space k x ≡ b → filter is_out_left (map turn rest ++ copies) ≡ filter is_out rest
            → filter is_out_left (map turn (x ∷ rest) ++ copies) ≡ filter is_out (x ∷ rest)
        by true e later = cc (turned_ours x e, own_not_out x.namespace (own_in_k x e))
        by false e later = cc (not_cut x e, outs_same x (sub x (inl refl)) e)

    mounts_stay : other_mounts nat_eq left names ≡ other_mounts nat_eq world names
    mounts_stay = outs_stay world.mounts (λ x m. m)

    own_before : (m : Mount ℕ) → Among m world.mounts → owns_left (turn m) ≡ true → owns m ≡ true
    own_before m n h = grind (arith, common_steps, in_space, own_in_k, owned_same, not_cut)

    -- a mount of theirs shows and receives what one of before did
    origin : (y : Mount ℕ) → Among y left.mounts → owns_left y ≡ true
        → (m : Mount ℕ) × Among m (own_mounts nat_eq world names) × (y.filesystem ≡ m.filesystem)
        × ((y.propagation ≡ m.propagation) ⊎ (y.propagation ≡ Private))
    origin y n own = ⊎_elim (λ turned. let from = among-from_map turn world.mounts y turned in (
      from.0,
      among-filter owns world.mounts from.0 from.1 (own_before from.0 from.1 (cc (from.2))),
      cc (from.2, turned_shows from.0),
      subst (λ (x : Mount ℕ). (x.propagation ≡ from.0.propagation) ⊎ (x.propagation ≡ Private)) (sym from.2)
          (turned_kind from.0),
    )) (λ late. let from = among-from_map copy copied y late in
        let at = among-from_filter (in_space k) world.mounts from.0 from.1 in (
          from.0,
          among-filter owns world.mounts from.0 at.0 (own_in_k from.0 at.1),
          ap (λ (x : Mount ℕ). x.filesystem) from.2,
          inl (ap (λ (x : Mount ℕ). x.propagation) from.2),
        )) (among-append (map turn world.mounts) copies y n)

    -- Events
    apart_before : (own other : Mount ℕ) → Among own (own_mounts nat_eq world names)
        → Among other (other_mounts nat_eq world names) → not (share_events nat_eq world own other) ≡ true
    apart_before own other m n = grind (arith, common_steps, among_from_list_all, its_apart)

    apart_now : (y other : Mount ℕ) → Among y (own_mounts nat_eq left names)
        → Among other (other_mounts nat_eq world names) → not (share_events nat_eq left y other) ≡ true
    apart_now y other m n =
        let from = among-from_filter owns_left left.mounts y m in
        let of = origin y from.0 from.1 in
        ⊎_elim (λ same. ap (λ kind. not (share_events nat_eq world (record y { propagation = kind }) other)) same
        ∙ apart_before of.0 other of.1 n)
        (λ alone. ap (λ kind. not (share_events nat_eq world (record y { propagation = kind }) other)) alone
        ∙ ap not (private_apart y other)) of.3

    no_events : shares_no_events nat_eq left names ≡ true
    no_events = grind (arith, common_steps, mounts_stay, list_all_from_among, apart_now)

    -- Locations
    found_left : (y : Mount ℕ) → Among y left.mounts → (l : Location ℕ) → l.mount ≡ y.number
        → mount_at nat_eq left l ≡ y
    found_left y n l e = cc (found_itself left.mounts left_kept.one_number y n)

    at_turned : (m : Mount ℕ) → Among m world.mounts → (l : Location ℕ) → l.mount ≡ m.number
        → mount_at nat_eq left l ≡ turn m
    at_turned m n l e = found_left _ (among-append_left _ _ _ (among-map turn _ m n)) l (e ∙ sym (turned_number m))

    at_old : (m : Mount ℕ) → Among m world.mounts → (l : Location ℕ) → l.mount ≡ m.number → mount_at nat_eq world l ≡ m
    at_old m n l e = cc (found_itself world.mounts it.is.mounts.one_number m n)

    shown_still : (m : Mount ℕ) → Among m world.mounts → (l : Location ℕ) → l.mount ≡ m.number
        → (mount_at nat_eq left l).filesystem ≡ (mount_at nat_eq world l).filesystem
    shown_still m n l e = cc (at_turned m n l e, turned_shows m, at_old m n l e)

    shown_there : (l : Location ℕ) → Among l (all_locations world)
        → (mount_at nat_eq left l).filesystem ≡ (mount_at nat_eq world l).filesystem
    shown_there l m =
        let at = located_there its_apart l m in
        shown_still at.0 at.1 l (eqb-true l.mount at.0.number at.2)

    none_on_own : (l : Location ℕ) → Among l (locations (outsiders world names))
        → not (owns_left (mount_at nat_eq left l)) ≡ true
    none_on_own l m =
        let at = located_there its_apart l (placed (λ (t : Task ℕ). not (is_member_task names t)) l m) in
        let same = eqb-true l.mount at.0.number at.2 in
        ap not (false_from_ne_true (owns_left (mount_at nat_eq left l)) (λ h. true≢false
        (sym (own_before at.0 at.1 (ap owns_left (sym (at_turned at.0 at.1 l same)) ∙ h))
        ∙ ap owns (sym (at_old at.0 at.1 l same)) ∙ not-true (owns (mount_at nat_eq world l))
        (among_from_list_all (λ p. not (owns (mount_at nat_eq world p))) (locations (outsiders world names))
        its_apart.locations l m))))

    -- Filesystems
    abbrev mounted : List ℕ
    mounted = map (λ (m : Mount ℕ). m.filesystem) (own_mounts nat_eq world names)

    abbrev shows : Location ℕ → ℕ
    shows l = (mount_at nat_eq world l).filesystem

    shown_was : (y : Mount ℕ) → Among y left.mounts → owns_left y ≡ true → (n : ℕ) → n ≡ y.filesystem
        → Among n (used_directly nat_eq world names)
    shown_was y m own n e =
        let of = origin y m own in
        grind (arith, common_steps, among-append_left, among-map)

    copy_owned : (y : Mount ℕ) → Among y copies → owns_left y ≡ true
    copy_owned y m = ap owns_left (among-from_map copy copied y m).2 ∙ s_own

    located_was : (l : Location ℕ) → Among l (locations new)
        → Among (mount_at nat_eq left l).filesystem (used_directly nat_eq world names)
    located_was l m = ⊎_elim (λ before. subst (λ i. Among i (used_directly nat_eq world names)) (sym
        (shown_there l (placed _ l before))) (among-append_right _ _ _ (among-map shows _ l before))) (λ rest. ⊎_elim
        (λ on. subst (λ i. Among i (used_directly nat_eq world names)) (sym (shown_still on.0 on.1 l (sym on.2)))
        (theirs_directly world names it.is l on)) (λ late. let there = among-append_right _ _ _ late.1 in
        shown_was _ there (copy_owned _ late.1) (mount_at nat_eq left l).filesystem
        (ap (λ (x : Mount ℕ). x.filesystem) (found_left _ there l late.2))) rest)
        (places_moved it task called fresh serves l m)

    direct_was : (n : ℕ) → Among n (used_directly nat_eq left names) → Among n (used_directly nat_eq world names)
    direct_was n m = ⊎_elim (λ shown. let y = among-from_map (λ (m : Mount ℕ). m.filesystem) _ n shown in
        let own = among-from_filter _ _ y.0 y.1 in
        shown_was y.0 own.0 own.1 n y.2)
        (λ located. let l = among-from_map (λ (l : Location ℕ). (mount_at nat_eq left l).filesystem) _ n located in
        subst (λ i. Among i (used_directly nat_eq world names)) (sym l.2) (located_was l.0 l.1)) (among-append _ _ n m)

    as_before : OthersAsBefore world left names names
    as_before = record {
      others = others_are;
      mounts = mounts_stay;
      shown = λ l m. shown_there l (placed (λ (t : Task ℕ). not (is_member_task names t)) l m);
      tasks = ap (list_all (λ (t : Task ℕ). not (own_left t.namespace))) others_are
          ∙ list_all_from_among (λ (t : Task ℕ). not (own_left t.namespace)) _ (λ t m. ap not
          (unentered _ (task_listed t (among-from_filter (λ (x : Task ℕ). not (is_member_task names x)) _ t m).0)
          (namespace_outside world names its_apart t m)));
      events = no_events;
      places = ap (λ tasks. list_all (λ l. not (owns_left (mount_at nat_eq left l))) (locations tasks)) others_are
          ∙ list_all_from_among (λ l. not (owns_left (mount_at nat_eq left l))) _ none_on_own;
      filesystems = λ f m. inl (f, m, refl, refl);
      direct = λ n m. inl (direct_was n m);
    }

    pub unshared_as_before : OthersAsBefore world (namespaces_ended nat_eq (unshared nat_eq world fresh task)) names
        names
    unshared_as_before = subst (λ w. OthersAsBefore world w names names) (sym world_so) as_before
