-- Where mounts of theirs change and new ones come, the change numbers of namespaces are raised alike.
use Rattle.std.proofs.Common.{arith, ◌≡◌, refl, sym, ap, subst, ◌∙◌, ⊎_elim, ℕ, nat_eq, Bool, true, cond, List, ◌++◌, Option, Some, None, filter, is_some, map, not, eqb-true}
use Rattle.vt_spec.proofs.Common.{Among, HasLivingGroups, Mount, MountInvariants, Namespace, Task, TaskName, World, among-filter, among-from_filter, among_from_all, among_from_list_all, and_parts, any_among, any_from_among, common_steps, filter-append, has_members, holds_of, is_located, is_member_of, is_member_task, is_nowhere_or_attached, is_own_mount, is_private, map_alike, master_above, members, mount_lives, mounts_of, none_is_some, or_left, part_of, raised, raised_namespace, same_list, same_mount, same_mounts_in, settled, source_of, then_some}
use Rattle.vt_laws_members.proofs.Common.{filter-map, filter_both, is_own, keep, kept_how, live_members, member_group, source_from_group}
use Rattle.vt_laws_members.proofs.changes.letting_go.EndedRaised.{raised_number, same_list_alike}
use Rattle.vt_laws_members.proofs.changes.letting_go.Heard.{heard_by_own, master_same, own_kept, private_source}
use Rattle.vt_laws_members.proofs.changes.letting_go.SeeLess.{filter_less}
use Rattle.vt_laws_members.proofs.namespaces.Remade.{ChangesTheirs, MovesTheirs, Remaking, in_spaces, namespaces_less, own_before, own_was, source_heard, v, v_part}

abbrev its_in : ℕ → Mount ℕ → Bool
its_in n m = holds_of (nat_eq n) m.namespace

attached : (n : ℕ) (m : Mount ℕ) → its_in n m ≡ true → is_some m.namespace ≡ true
attached n m = grind (arith, common_steps)

-- The sweep leaves mounts of namespaces,
settled_mounts : (w : World ℕ) (n : ℕ) → mounts_of nat_eq (settled nat_eq w) n ≡ filter (its_in n) w.mounts
settled_mounts w n = filter_less (its_in n) (mount_lives nat_eq w) w.mounts
    (λ m h. or_left (is_some m.namespace) (is_located nat_eq w m.number) (attached n m h))

-- and so a member of each group from which a mount receives
module _ (b : World ℕ) (kept : MountInvariants nat_eq b) where
  -- a member is in a namespace
  member_attached : (z : Mount ℕ) → Among z b.mounts → (g : ℕ) → is_member_of nat_eq g z ≡ true
      → is_some z.namespace ≡ true
  member_attached z n g h = by z.namespace refl
    where
      by : (o : Option ℕ) → z.namespace ≡ o → is_some o ≡ true
      by (Some j) e = refl
      by None e = none_is_some g (sym (private_source z.propagation (and_parts (not (is_some z.mount_point))
          (is_private z.propagation) (cc (among_from_list_all is_nowhere_or_attached b.mounts kept.nowhere z n))).1) ∙
          source_from_group z.propagation g (member_group g z h))

  settled_members : (y : Mount ℕ) → Among y b.mounts → (g : ℕ) → source_of y.propagation ≡ Some g
      → has_members nat_eq (settled nat_eq b).mounts g ≡ true
  settled_members y n g e =
      let z = any_among (is_member_of nat_eq g) b.mounts (live_members b.master (has_members nat_eq b.mounts) g
      (among_from_all (HasLivingGroups nat_eq b) b.mounts kept.groups y n g e)) in
      any_from_among _ _ z.0 (among-filter _ b.mounts z.0 z.1 (or_left _ _ (member_attached z.0 z.1 g z.2))) z.2

module _ (it : Remaking) (does : ChangesTheirs it) (moves : MovesTheirs it) where
  abbrev world : World ℕ
  world = it.world

  abbrev names : List TaskName
  names = it.names

  abbrev part : World ℕ
  part = part_of nat_eq world names

  abbrev turn : Mount ℕ → Mount ℕ
  turn = it.plan.turn

  abbrev old : List (Task ℕ)
  old = members world names

  abbrev new : List (Task ℕ)
  new = filter (is_member_task names) it.tasks

  abbrev kept : Mount ℕ → Option (Mount ℕ)
  kept = keep world names old

  abbrev after : World ℕ
  after = v it does moves

  abbrev after_part : World ℕ
  after_part = v_part it does moves

  abbrev u : World ℕ
  u = settled nat_eq after

  abbrev u_part : World ℕ
  u_part = settled nat_eq after_part

  -- the mounts of a namespace of theirs
  module _ (n : ℕ) (entered : in_spaces new n ≡ true) where
    owned : (m : Mount ℕ) → its_in n m ≡ true → is_own world names new m ≡ true
    owned m = by m.namespace
      where
        by : (o : Option ℕ) → holds_of (nat_eq n) o ≡ true → holds_of (in_spaces new) o ≡ true
        by None h = cc
        by (Some j) h = cc (eqb-true n j h)

    before : mounts_of nat_eq part n ≡ mounts_of nat_eq world n
    before = filter_both kept (its_in n) (its_in n) world.mounts (λ m at h.
        (own_kept it.sealing m (own_was it does moves m at (owned m h)), h))
        (λ m y at h e. ⊎_elim (λ same. cc) (λ stub. cc stub.0) (kept_how world names old m y e))

    turned : filter (λ m. its_in n (turn m)) part.mounts ≡ filter (λ m. its_in n (turn m)) world.mounts
    turned = filter_both kept (λ m. its_in n (turn m)) (λ m. its_in n (turn m)) world.mounts (λ m at h. (
      own_kept it.sealing m (own_before it does moves m at (owned (turn m) h)),
      h,
    )) (λ m y at h e. ⊎_elim (λ same. ap (λ x. its_in n (turn x)) (sym same) ∙ h)
        (λ stub. ap (λ x. its_in n (turn x)) (sym stub.0) ∙ ap (its_in n) (does.others m at stub.1).1)
        (kept_how world names old m y e))

    split : (w : World ℕ) → filter (its_in n) (map turn w.mounts ++ it.plan.added)
        ≡ map turn (filter (λ m. its_in n (turn m)) w.mounts) ++ filter (its_in n) it.plan.added
    split w =
        cc (filter-append (its_in n) (map turn w.mounts) it.plan.added, filter-map (its_in n) turn w.mounts (λ m. refl))

    later : mounts_of nat_eq u_part n ≡ mounts_of nat_eq u n
    later = cc (settled_mounts after_part n, split part, turned, split world, settled_mounts after n)

    -- masters above
    above_before : (m : Mount ℕ) → Among m (mounts_of nat_eq world n) → master_above part m ≡ master_above world m
    above_before m at = by (source_of m.propagation) refl
      where
        from : Among m world.mounts × (its_in n m ≡ true)
        from = among-from_filter (its_in n) world.mounts m at

        by : (o : Option ℕ) → source_of m.propagation ≡ o → then_some o part.master ≡ then_some o world.master
        by None e = refl
        by (Some g) e = master_same it.sealing g (heard_by_own it.sealing m
            (among-filter (is_own_mount nat_eq world names) world.mounts m from.0
            (own_was it does moves m from.0 (owned m from.1))) g e)

    above_after : (y : Mount ℕ) → Among y (mounts_of nat_eq u n) → master_above u_part y ≡ master_above u y
    above_after y at = by (source_of y.propagation) refl
      where
        from : Among y after.mounts × (its_in n y ≡ true)
        from = among-from_filter (its_in n) after.mounts y (rw (← settled_mounts after n) at)

        there : Among y after_part.mounts
        there = (among-from_filter (its_in n) after_part.mounts y
            (subst (Among y) (sym later ∙ settled_mounts after_part n) at)).0

        by : (o : Option ℕ) → source_of y.propagation ≡ o → then_some o u_part.master ≡ then_some o u.master
        by None e = refl
        by (Some g) e = ap (λ c. cond c (part.master g) None) (settled_members after_part does.kept_there y there g e)
            ∙ master_same it.sealing g (source_heard it does moves y from.0 (owned y from.1) g e) ∙ sym
            (ap (λ c. cond c (world.master g) None) (settled_members after does.kept y from.0 g e))

    -- they changed in both, or in none
    spaces_alike : same_mounts_in nat_eq part u_part n ≡ same_mounts_in nat_eq world u n
    spaces_alike = ap (λ l. same_list (same_mount nat_eq part u_part) l (mounts_of nat_eq u_part n)) before
        ∙ ap (same_list (same_mount nat_eq part u_part) (mounts_of nat_eq world n)) later
        ∙ same_list_alike (same_mount nat_eq part u_part) (same_mount nat_eq world u) (mounts_of nat_eq world n)
        (mounts_of nat_eq u n) (λ x y m l. compared x y (above_before x m) (above_after y l))
      where
        compared : (x y : Mount ℕ) → master_above part x ≡ master_above world x
            → master_above u_part y ≡ master_above u y
            → same_mount nat_eq part u_part x y ≡ same_mount nat_eq world u x y
        compared x y e f = cc

  abbrev spaces : List (Task ℕ) → Namespace ℕ → Bool
  spaces ts n = in_spaces ts n.number

  -- the namespaces of the set, raised
  pub raised_alike : filter (spaces new) (map (raised_namespace nat_eq part u_part) after_part.namespaces)
      ≡ filter (spaces new) (map (raised_namespace nat_eq world u) after.namespaces)
  raised_alike = cc (
    filter-map (spaces new) (raised_namespace nat_eq part u_part) after_part.namespaces (λ n. ap
        (in_spaces new) (raised_number part u_part n)),
    namespaces_less it does moves,
    map_alike
        (raised_namespace nat_eq part u_part) (raised_namespace nat_eq world u) (filter
        (spaces new) after.namespaces) (λ n m. ap (λ c. cond c n (record n { change = raised n.change }))
        (spaces_alike n.number (among-from_filter (spaces new) after.namespaces n m).1)),
    filter-map
        (spaces new) (raised_namespace nat_eq world u) after.namespaces (λ n. ap (in_spaces new)
        (raised_number world u n)),
  )
