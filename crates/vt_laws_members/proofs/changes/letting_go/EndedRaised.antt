-- Where mounts of theirs are detached, the change numbers of namespaces are raised alike.
use Rattle.std.proofs.Common.{arith, ◌≡◌, refl, sym, ap, subst, ◌∙◌, inl, inr, ⊎_elim, ℕ, nat_eq, Bool, true, false, cond, true≢false, List, [], ◌∷◌, Option, Some, None, filter, is_some, map, filter_map}
use Rattle.vt_spec.proofs.Common.{Among, Mount, Namespace, Private, Propagation, Shared, Slave, Task, TaskName, Unbindable, World, after_going, among-filter, among-filter_map, among-from_filter, among-from_map, among-map, any_among, any_from_among, chain, common_steps, cons_option, found_among, groups_up, has_members, heir, holds_of, inherited, is_going, is_located, is_member_of, is_member_task, is_own_mount, length-map, list_any, map_alike, master_above, members, mount_lives, mounts_of, none_is_some, or_left, own_mounts, part_of, raised, raised_namespace, same_Some, same_list, same_mount, same_mounts_in, same_truth, settled, slave_of_heir, source_of, then_some}
use Rattle.vt_laws_members.proofs.Common.{filter-map, is_own, keep, kept_how, member_group, none_hears, sides, source_from_group}
use Rattle.vt_laws_members.proofs.changes.letting_go.Heard.{IsHeard, apart, heard_by_own, master_same, own_in, own_kept, part_source, space_in_part, up_heard}
use Rattle.vt_laws_members.proofs.changes.letting_go.Leaving.{filter_mid}
use Rattle.vt_laws_members.proofs.changes.letting_go.NamespaceLess.{Detaches, ended, ended_by, ended_mount, ended_part, entered_was, member_was, placed_so, stub_stays}
use Rattle.vt_laws_members.proofs.changes.letting_go.Regrouped.{left_by, master_alike, mount_alike}
use Rattle.vt_laws_members.proofs.changes.letting_go.SeeLess.{filter_less}

-- lists whose elements are compared alike
pub same_list_alike : (f g : Mount ℕ → Mount ℕ → Bool) (xs ys : List (Mount ℕ))
    → ((x y : Mount ℕ) → Among x xs → Among y ys → f x y ≡ g x y) → same_list f xs ys ≡ same_list g xs ys
same_list_alike f g [] [] same = refl
same_list_alike f g [] (y ∷ ys) same = refl
same_list_alike f g (x ∷ xs) [] same = refl
same_list_alike f g (x ∷ xs) (y ∷ ys) same =
    cc (same x y (inl refl) (inl refl), same_list_alike f g xs ys (λ u v m n. same u v (inr m) (inr n)))

-- what passes of changed elements, where those that pass are kept
kept_alike : (p : Mount ℕ → Bool) (f g : Mount ℕ → Mount ℕ) (k : Mount ℕ → Option (Mount ℕ)) (xs : List (Mount ℕ))
    → ((x : Mount ℕ) → Among x xs → p (f x) ≡ true → (k x ≡ Some x) × (g x ≡ f x))
    → ((x y : Mount ℕ) → Among x xs → p (f x) ≡ false → k x ≡ Some y → p (g y) ≡ false)
    → filter p (map g (filter_map k xs)) ≡ filter p (map f xs)
kept_alike p f g k [] pass fail = refl
kept_alike p f g k (x ∷ xs) pass fail =
    by (p (f x)) refl (kept_alike p f g k xs (λ y m. pass y (inr m)) (λ y z m. fail y z (inr m)))
  where
    skip : (o : Option (Mount ℕ)) → k x ≡ o → p (f x) ≡ false
        → filter p (map g (cons_option o (filter_map k xs))) ≡ filter p (map g (filter_map k xs))
    skip None e h = refl
    skip (Some y) e h = cc (fail x y (inl refl) h e)

    by : (b : Bool) → p (f x) ≡ b → filter p (map g (filter_map k xs)) ≡ filter p (map f xs)
        → filter p (map g (cons_option (k x) (filter_map k xs)))
        ≡ cond (p (f x)) (f x ∷ filter p (map f xs)) (filter p (map f xs))
    by b h later = grind (arith, common_steps, skip)

-- the namespace of a mount after does not depend on the groups
space_same : (b : Bool) (t u w x : World ℕ) (gone : List ℕ) (m : Mount ℕ)
    → (ended_mount b t w gone m).namespace ≡ (ended_mount b u x gone m).namespace
space_same b t u w x gone m = grind (arith, common_steps, ended_by)

-- the group of a mount after
kind_after : (b : Bool) (t w : World ℕ) (gone : List ℕ) (m : Mount ℕ) → is_going nat_eq gone m.number ≡ false
    → (ended_mount b t w gone m).propagation ≡ cond b (inherited nat_eq t m.propagation) m.propagation
kind_after b t w gone m e = grind (arith, common_steps, ended_by)

pub raised_number : (before after : World ℕ) (n : Namespace ℕ)
    → (raised_namespace nat_eq before after n).number ≡ n.number
raised_number before after n = grind (arith, common_steps)

module _ {world : World ℕ} {names set : List TaskName} {gone : List ℕ} (it : Detaches world names set gone) where
  abbrev part : World ℕ
  part = part_of nat_eq world names

  abbrev old : List (Task ℕ)
  old = members world names

  abbrev new : List (Task ℕ)
  new = filter (is_member_task set) it.tasks

  abbrev owns : List (Mount ℕ)
  owns = own_mounts nat_eq world names

  abbrev kept : Mount ℕ → Option (Mount ℕ)
  kept = keep world names old

  abbrev v : World ℕ
  v = ended it

  abbrev v_part : World ℕ
  v_part = ended_part it

  abbrev t_world : World ℕ
  t_world = left_by world gone

  abbrev t_part : World ℕ
  t_part = left_by part gone

  abbrev after : Mount ℕ → Mount ℕ
  after = ended_mount it.regroups t_world world gone

  abbrev after_part : Mount ℕ → Mount ℕ
  after_part = ended_mount it.regroups t_part part gone

  abbrev u : World ℕ
  u = settled nat_eq v

  abbrev u_part : World ℕ
  u_part = settled nat_eq v_part

  abbrev Heard : ℕ → Type 0
  Heard g = IsHeard it.sealing g

  abbrev its_in : ℕ → Mount ℕ → Bool
  its_in n m = holds_of (nat_eq n) m.namespace

  abbrev is_theirs : ℕ → Bool
  is_theirs n = list_any (λ (t : Task ℕ). nat_eq n t.namespace) old

  attached : (n : ℕ) (m : Mount ℕ) → its_in n m ≡ true → is_some m.namespace ≡ true
  attached n m = grind (arith, common_steps)

  mine : (m : Mount ℕ) → Among m world.mounts → is_own world names old m ≡ true → Among m owns
  mine m n own = among-filter (is_own_mount nat_eq world names) world.mounts m n own

  -- and after
  settled_mounts : (w : World ℕ) (n : ℕ) → mounts_of nat_eq (settled nat_eq w) n ≡ filter (its_in n) w.mounts
  settled_mounts w n = filter_less (its_in n) (mount_lives nat_eq w) w.mounts
      (λ m h. or_left (is_some m.namespace) (is_located nat_eq w m.number) (attached n m h))

  after_in : (n : ℕ) (m : Mount ℕ) → its_in n (after m) ≡ true → (its_in n m ≡ true)
      × (is_going nat_eq gone m.number ≡ false)
  after_in n m h =
      ⊎_elim (λ gone. cc gone.0) (λ stays. (cc stays.0, stays.2)) (placed_so it.regroups t_world world gone m)

  mounts_after : (n : ℕ) → is_theirs n ≡ true → mounts_of nat_eq u_part n ≡ mounts_of nat_eq u n
  mounts_after n own = settled_mounts v_part n ∙ kept_alike (its_in n) after after_part kept world.mounts
      (λ m at h. let own_one = own_in it.sealing n own m (after_in n m h).0 in (
        own_kept it.sealing m own_one,
        mount_alike it.go it.regroups m (mine m at own_one),
      )) (λ m y at h e. ⊎_elim (λ whole. cc (space_same it.regroups t_part t_world part world gone m))
      (λ stub. cc (stub.0, stub_stays it.regroups t_part part gone m)) (kept_how world names old m y e))
      ∙ sym (settled_mounts v n)

  -- masters above, before
  above_before : (m : Mount ℕ) → Among m owns → master_above part m ≡ master_above world m
  above_before m n = by (source_of m.propagation) refl
    where
      by : (o : Option ℕ) → source_of m.propagation ≡ o → then_some o part.master ≡ then_some o world.master
      by None e = refl
      by (Some g) e = master_same it.sealing g
          (heard_by_own it.sealing m n g e)

  -- the source of a mount of theirs after is heard
  heard_after : (m : Mount ℕ) → Among m owns → is_going nat_eq gone m.number ≡ false → (g : ℕ)
      → source_of (after m).propagation ≡ Some g → Heard g
  heard_after m n out g e = by it.regroups m.propagation refl (cc (kind_after it.regroups t_world world gone m out))
    where
      from_heir : (s : ℕ) → Heard s → (o : Option ℕ) → heir nat_eq t_world (Some s) ≡ o
          → source_of (slave_of_heir o) ≡ Some g → Heard g
      from_heir s heard None f h = none_is_some g h
      from_heir s heard (Some above) f h = subst Heard (same_Some above g h) (up_heard it.sealing s above heard
          (rw (← ap (λ i. chain i world.master s) (length-map world.mounts (after_going nat_eq world gone)))
          (found_among (has_members nat_eq t_world.mounts) (groups_up t_world s) above f)))

      by : (c : Bool) (kind : Propagation ℕ) → m.propagation ≡ kind
          → source_of (cond c (inherited nat_eq t_world m.propagation) m.propagation) ≡ Some g → Heard g
      by false kind f h = heard_by_own it.sealing m n g h
      by true (Shared s) f h = heard_by_own it.sealing m n g (cc)
      by true (Slave s) f h = from_heir s (heard_by_own it.sealing m n s (cc)) (heir nat_eq t_world (Some s)) refl (cc)
      by true Private f h = none_is_some g (cc)
      by true Unbindable f h = none_is_some g (cc)

  -- a member after is in its namespace
  member_placed : (t w : World ℕ) (g : ℕ) (m : Mount ℕ) → is_member_of nat_eq g (ended_mount it.regroups t w gone m)
      ≡ true → (ended_mount it.regroups t w gone m).namespace ≡ m.namespace
  member_placed t w g m = grind (arith, common_steps, ended_by, true≢false)

  placed_own : (m : Mount ℕ) → is_own world names old m ≡ true → is_some m.namespace ≡ true
  placed_own m = grind (arith, common_steps)

  -- a group that is heard has members after in both, or in none
  members_after : (g : ℕ) → Heard g → has_members nat_eq u_part.mounts g ≡ has_members nat_eq u.mounts g
  members_after g heard = same_truth (has_members nat_eq u_part.mounts g) (has_members nat_eq u.mounts g)
      (λ h. let y = any_among (is_member_of nat_eq g) u_part.mounts h in
      let lives = among-from_filter (mount_lives nat_eq v_part) v_part.mounts y.0 y.1 in
      let z = among-from_map after_part part.mounts y.0 lives.0 in
      let is_in = ap (is_member_of nat_eq g) (sym z.2) ∙ y.2 in
      let was = member_was it.regroups t_part part gone g z.0 is_in in
      let own = part_source it.sealing z.0 z.1 g
      (source_from_group z.0.propagation g (member_group g z.0 was)) in
      let from = among-from_filter (is_own_mount nat_eq world names) world.mounts z.0 own in
      let alike = mount_alike it.go it.regroups z.0 own in
      lives_on v t_world world z.0 (among-map after world.mounts z.0 from.0)
      (ap (is_member_of nat_eq g) (sym alike) ∙ is_in) from.1)
      (λ h. let y = any_among (is_member_of nat_eq g) u.mounts h in
      let lives = among-from_filter (mount_lives nat_eq v) v.mounts y.0 y.1 in
      let z = among-from_map after world.mounts y.0 lives.0 in
      let is_in = ap (is_member_of nat_eq g) (sym z.2) ∙ y.2 in
      let was = member_was it.regroups t_world world gone g z.0 is_in in
      let own = its_own z.0 z.1 was in
      let from = among-from_filter (is_own_mount nat_eq world names) world.mounts z.0 own in
      let alike = mount_alike it.go it.regroups z.0 own in
      lives_on v_part t_part part z.0 (among-map after_part part.mounts z.0
      (among-filter_map kept world.mounts z.0 z.0 from.0 (own_kept it.sealing z.0 from.1)))
      (ap (is_member_of nat_eq g) alike ∙ is_in) from.1)
    where
      its_own : (m : Mount ℕ) → Among m world.mounts → is_member_of nat_eq g m ≡ true → Among m owns
      its_own m n was = ⊎_elim (λ own. own) (λ other.
          absurd (none_hears world names it.is.mounts (apart it.sealing).events g m heard.0 other was))
          (sides world names it.is.mounts (apart it.sealing).events m g n (member_group g m was))

      lives_on : (w t x : World ℕ) (m : Mount ℕ) → Among (ended_mount it.regroups t x gone m) w.mounts
          → is_member_of nat_eq g (ended_mount it.regroups t x gone m) ≡ true → is_own world names old m ≡ true
          → list_any (is_member_of nat_eq g) (filter (mount_lives nat_eq w) w.mounts) ≡ true
      lives_on w t x m there is_in own =
          grind (arith, common_steps, any_from_among, ended_mount, among-filter, or_left, member_placed, placed_own)

  -- so has its master
  settled_master : (g : ℕ) → Heard g → u_part.master g ≡ u.master g
  settled_master g heard = cc (members_after g heard, master_alike it.go it.regroups g heard)

  above_after : (m : Mount ℕ) → Among m owns → is_going nat_eq gone m.number ≡ false → master_above u_part
      (after m) ≡ master_above u (after m)
  above_after m n out = by (source_of (after m).propagation) refl
    where
      by : (o : Option ℕ) → source_of (after m).propagation ≡ o → then_some o u_part.master ≡ then_some o u.master
      by None e = refl
      by (Some g) e = settled_master g (heard_after m n out g e)

  -- the mounts of a namespace of theirs changed in both, or in none
  spaces_alike : (n : ℕ) → is_theirs n ≡ true → same_mounts_in nat_eq part u_part n ≡ same_mounts_in nat_eq world u n
  spaces_alike n own = cc (
    space_in_part it.sealing n own,
    mounts_after n own,
    same_list_alike (same_mount nat_eq part u_part) (same_mount nat_eq world u) (mounts_of nat_eq world n)
        (mounts_of nat_eq u n) (λ x y m l. let first = among-from_filter (its_in n) world.mounts x m in let second =
        among-from_filter (its_in n) v.mounts y (rw (← settled_mounts v n) l) in let from = among-from_map
        after world.mounts y second.0 in let its = after_in n from.0 (cc (from.2, second.1)) in
        compared x y (above_before x (mine x first.0 (own_in it.sealing n own x first.1)))
        (cc (from.2, above_after from.0 (mine from.0 from.1 (own_in it.sealing n own from.0 its.0)) its.1))),
  )
    where
      compared : (x y : Mount ℕ) → master_above part x ≡ master_above world x → master_above u_part y ≡ master_above u y
          → same_mount nat_eq part u_part x y ≡ same_mount nat_eq world u x y
      compared x y e f = cc

  abbrev spaces : List (Task ℕ) → Namespace ℕ → Bool
  spaces ts n = list_any (λ (t : Task ℕ). nat_eq n.number t.namespace) ts

  abbrev stays : Namespace ℕ → Bool
  stays n = it.lasts n.number

  -- the namespaces of the set that is left, raised
  pub raised_alike : filter (spaces new) (map (raised_namespace nat_eq part u_part) v_part.namespaces)
      ≡ filter (spaces new) (map (raised_namespace nat_eq world u) v.namespaces)
  raised_alike = cc (
    filter-map (spaces new) (raised_namespace nat_eq part u_part) v_part.namespaces (λ n. ap (λ i. list_any (λ
        (t : Task ℕ). nat_eq i t.namespace) new) (raised_number part u_part n)),
    filter_mid (spaces new) stays (spaces old) world.namespaces (λ n h. entered_was it n.number h),
    map_alike (raised_namespace nat_eq part u_part) (raised_namespace nat_eq world u) (filter (spaces new)
        (filter stays world.namespaces)) (λ n m. ap (λ c. cond c n (record n { change = raised n.change }))
        (spaces_alike n.number (entered_was it n.number (among-from_filter (spaces new) (filter stays world.namespaces)
        n m).1))),
    filter-map (spaces new) (raised_namespace nat_eq world u) v.namespaces (λ n. ap (λ i. list_any (λ (t : Task
        ℕ). nat_eq i t.namespace) new) (raised_number world u n)),
  )
