-- A world after an unshare(2), whether the namespace that the caller leaves ends or not.
use Rattle.std.proofs.Common.{arith, ◌≡◌, refl, sym, ap, subst, ◌∙◌, ◌⊎◌, inl, ⊎_elim, ℕ, zero, suc, nat_eq, Bool, true, false, cond, true≢false, List, [], ◌∷◌, ◌++◌, Option, Some, None, filter, flat_map, map, not, ◌||◌, ◌&&◌, eq-eqb, eqb-true, option_map, option_to_list}
use Rattle.vt_spec.proofs.Common.{Among, Fresh, HasLivingGroups, Lives, Location, Mount, MountInvariants, Namespace, Serves, Task, World, after_going, among-append, among-append_left, among-append_right, among-filter, among-from_map, among-map, among_from_all, among_from_list_all, among_numbers, and_parts, any_among, any_from_among, chain, chain_ends, common_steps, copied_mount, detached, evens, false_from_ne_true, filter-append, filter_all, has_master, has_members, has_no_master, has_tasks, holds_of, is_among_numbers, is_going, is_listed, is_lost_group, is_member_of, last_or, list_all, list_all_from_among, list_any, lost_a_group, map-append, map_alike, map_same, mount_at, inherited_mount_point, mount_point_of_parent, mounts_of, namespaces_ended, none_from_among, numbers_by, numbers_in_use, odds, or_left, or_right, replaced_if_called, same_name, source_of, then_some, unshared, unshared_task, used_by_filesystem, used_by_mount}
use Rattle.vt_laws_members.proofs.Common.{MountsAreListed, none_lost, unshare_keeps_mounts}
use Rattle.vt_laws_members.proofs.changes.Common.{in_same, in_space, mount_parent, none_ends, numbers_in}
use Rattle.vt_laws_members.proofs.changes.letting_go.ExitLast.{ends_so}
use Rattle.vt_laws_members.proofs.namespaces.Remade.{Plan, remade}

-- a mount of a namespace that ends is detached
abbrev pub cut : Bool → ℕ → Mount ℕ → Mount ℕ
cut ends k m = cond (ends && in_space k m) (detached m) m

-- the new namespace
abbrev pub new_space : Fresh ℕ → ℕ
new_space fresh = evens fresh 0

abbrev pub copy_of : Fresh ℕ → List (Mount ℕ) → Mount ℕ → Mount ℕ
copy_of fresh copied = copied_mount (numbers_by nat_eq (odds fresh) copied) (new_space fresh)

abbrev pub moved_to_copies : Fresh ℕ → List (Mount ℕ) → Task ℕ → Task ℕ
moved_to_copies fresh copied task =
    unshared_task nat_eq copied (numbers_by nat_eq (odds fresh) copied) (new_space fresh) task

-- what an unshare makes of a world, where it ends the namespace that the caller leaves or does not
abbrev pub unshare_plan : Bool → ℕ → Fresh ℕ → List (Mount ℕ) → Plan
unshare_plan ends k fresh copied = record {
  turn = cut ends k;
  added = map (copy_of fresh copied) copied;
  lasts = λ n. not (ends && nat_eq k n.number);
  come = record { number = new_space fresh; change = 0 } ∷ [];
}

-- where a step leads nowhere, the chain ends where it begins
last_itself : (next : Location ℕ → Option (Location ℕ)) (n : ℕ) (l : Location ℕ) → next l ≡ None
    → last_or l (chain n next l) ≡ l
last_itself next zero l e = refl
last_itself next (suc n) l e = cc (chain_ends next n l e)

-- the number of the new namespace is new
pub new_among_spaces : (w : World ℕ) (fresh : Fresh ℕ) → Serves nat_eq w fresh → (n : Namespace ℕ)
    → Among n w.namespaces → nat_eq (new_space fresh) n.number ≡ false
new_among_spaces w fresh serves n m =
    false_from_ne_true _ (λ same. true≢false (sym (is_among_numbers (numbers_in_use w) (new_space fresh)
    (rw (eqb-true (new_space fresh) n.number same) (among-append_right (flat_map used_by_mount w.mounts ++ flat_map
    used_by_filesystem w.filesystems) (map (λ (x : Namespace ℕ). x.number) w.namespaces) n.number
    (among-map (λ (x : Namespace ℕ). x.number) w.namespaces n m)))) ∙ serves.unused 0))

-- a namespace that is listed
pub listed_in : (w : World ℕ) (n : ℕ) → is_listed nat_eq w n ≡ true
    → (x : Namespace ℕ) × Among x w.namespaces × (n ≡ x.number)
listed_in w n h = among-from_map (λ (x : Namespace ℕ). x.number) w.namespaces n (among_numbers _ n h)

-- a world and its task that gets a namespace
pub record CanUnshare (w : World ℕ) (fresh : Fresh ℕ) (task : Task ℕ) : Type 0 where
  pub kept : MountInvariants nat_eq w
  pub serves : Serves nat_eq w fresh
  pub listed : MountsAreListed w
  pub live : list_all (has_tasks nat_eq w) w.namespaces ≡ true
  pub there : Among task w.tasks
  pub named : same_name task.name task.name ≡ true
  pub left : nat_eq task.namespace (new_space fresh) ≡ false
  pub only : (t : Task ℕ) → Among t w.tasks → (task ≡ t) ⊎ (same_name task.name t.name ≡ false)

-- whether another task is in the namespace that the caller leaves
abbrev pub Ends : Bool → World ℕ → Task ℕ → Type 0
Ends true w task =
    (t : Task ℕ) → Among t w.tasks → same_name task.name t.name ≡ false → nat_eq task.namespace t.namespace ≡ false
Ends false w task = (other : Task ℕ) × Among other w.tasks × (other.namespace ≡ task.namespace)
    × (same_name task.name other.name ≡ false)

module _ (w : World ℕ) (fresh : Fresh ℕ) (task : Task ℕ) (can : CanUnshare w fresh task) where
  abbrev k : ℕ
  k = task.namespace

  abbrev s : ℕ
  s = new_space fresh

  abbrev copied : List (Mount ℕ)
  copied = mounts_of nat_eq w k

  abbrev copy : Mount ℕ → Mount ℕ
  copy = copy_of fresh copied

  abbrev copies : List (Mount ℕ)
  copies = map copy copied

  abbrev moved : Task ℕ
  moved = moved_to_copies fresh copied task

  abbrev replaced : Task ℕ → Task ℕ
  replaced = replaced_if_called moved

  abbrev new : Namespace ℕ
  new = record { number = s; change = 0 }

  abbrev base : World ℕ
  base = unshared nat_eq w fresh task

  base_kept : MountInvariants nat_eq base
  base_kept = unshare_keeps_mounts w fresh task can.serves can.kept

  -- a task is replaced, or stays
  its : replaced task ≡ moved
  its = cc can.named

  stays : (t : Task ℕ) → same_name task.name t.name ≡ false → replaced t ≡ t
  stays t e = cc

  moved_in : Among moved base.tasks
  moved_in = subst (λ t. Among t base.tasks) its (among-map replaced w.tasks task can.there)

  pub none_in_new : (m : Mount ℕ) → Among m w.mounts → in_space s m ≡ false
  none_in_new m n = grind (arith, common_steps, among_from_list_all, listed_in, and_parts, new_among_spaces)

  base_listed : MountsAreListed base
  base_listed = list_all_from_among (λ (x : Mount ℕ). list_all (is_listed nat_eq base) (option_to_list x.namespace))
      base.mounts (λ m n. ⊎_elim (λ before. old _ (among_from_list_all _ _ can.listed m before)) (λ fresh_one. cc (
        (among-from_map copy copied m fresh_one).2,
        is_among_numbers
            (map (λ (x : Namespace ℕ). x.number) base.namespaces) s
            (among-map (λ (x : Namespace ℕ). x.number) base.namespaces
            new new_in),
      )) (among-append w.mounts copies m n))
    where
      new_in : Among new base.namespaces
      new_in = among-append_right w.namespaces (new ∷ []) new (inl refl)

      old : (o : Option ℕ) → list_all (is_listed nat_eq w) (option_to_list o) ≡ true
          → list_all (is_listed nat_eq base) (option_to_list o) ≡ true
      old o h = grind (arith, common_steps, listed_in, and_parts, is_among_numbers, among-map, among-append_left)

  -- a namespace with a task of another name, or with the caller where another task is, still has one
  task_in : (n : ℕ) (t : Task ℕ) → Among t w.tasks → same_name task.name t.name ≡ false → n ≡ t.namespace
      → list_any (λ (x : Task ℕ). nat_eq n x.namespace) base.tasks ≡ true
  task_in n t m e f = any_from_among (λ (x : Task ℕ). nat_eq n x.namespace) base.tasks t
      (rw (← stays t e) (among-map replaced w.tasks t m)) (eq-eqb n t.namespace f)

  new_has : has_tasks nat_eq base new ≡ true
  new_has = any_from_among (λ (x : Task ℕ). nat_eq s x.namespace) base.tasks moved moved_in (eq-eqb s s refl)

  others_have : (p : Namespace ℕ → Bool) → (new_passes : p new ≡ true)
      → ((n : Namespace ℕ) → Among n w.namespaces → p n ≡ true) → list_all p base.namespaces ≡ true
  others_have p new_passes old_pass = list_all_from_among p base.namespaces (λ n m. ⊎_elim (old_pass n)
      (λ last. ⊎_elim (λ e. cc) (λ none. absurd none) last) (among-append w.namespaces (new ∷ []) n m))

  -- Another task stays in the namespace
  stays_on : Ends false w task → namespaces_ended nat_eq base ≡ base
  stays_on (other, m, together, differ) = none_ends base base_listed (others_have (has_tasks nat_eq base) new_has
      (λ n at. let t = any_among (λ (x : Task ℕ). nat_eq n.number x.namespace) w.tasks
      (among_from_list_all _ w.namespaces can.live n at) in ⊎_elim (λ same. task_in n.number other m differ
      (cc (eqb-true n.number t.0.namespace t.2))) (λ apart. task_in n.number t.0 t.1 apart
      (eqb-true n.number t.0.namespace t.2)) (can.only t.0 t.1))) (none_lost base base_kept)

  -- The namespace ends
  abbrev gone : List ℕ
  gone = numbers_in base k

  goes : (m : Mount ℕ) → Among m base.mounts → is_going nat_eq gone m.number ≡ in_space k m
  goes m n = in_same base k base_kept.one_number m n

  -- its mounts are detached, and others stay where they are
  cut_so : (m : Mount ℕ) → Among m base.mounts → after_going nat_eq base gone m ≡ cut true k m
  cut_so m n = cc (goes m n, by (in_space k m) refl)
    where
      point_stays : in_space k m ≡ false → (o : Option (Location ℕ)) → m.mount_point ≡ o
          → option_map (inherited_mount_point nat_eq base gone) o ≡ o
      point_stays e None f = refl
      point_stays e (Some l) f =
          let up = mount_parent base base_kept m l n f in
          let out : is_going nat_eq gone l.mount ≡ false = ap (is_going nat_eq gone) up.4 ∙ goes up.2 up.3
          ∙ ap (holds_of (nat_eq k)) (up.5 ∙ sym up.1) ∙ e in
          ap Some (last_itself (mount_point_of_parent nat_eq base gone) _ l
          (ap (λ b. cond b (mount_at nat_eq base l).mount_point None) out))

      by : (b : Bool) → in_space k m ≡ b → cond b (detached m) (record m {
        mount_point = option_map (inherited_mount_point nat_eq base gone) m.mount_point;
      }) ≡ cond b (detached m) m
      by true e = refl
      by false e = ap (λ o. record m { mount_point = o }) (point_stays e m.mount_point refl)

  copy_stays : (m : Mount ℕ) → Among m copies → in_space k m ≡ false
  copy_stays m n = cc ((among-from_map copy copied m n).2, can.left)

  abbrev left_by : World ℕ
  left_by = record base { mounts = map (after_going nat_eq base gone) base.mounts }

  -- a group keeps a member: a copy of one that goes is a member, too
  member_left : (m : Mount ℕ) → Among m base.mounts → in_space k m ≡ false → (g : ℕ)
      → is_member_of nat_eq g m ≡ true → has_members nat_eq left_by.mounts g ≡ true
  member_left m n out g h = any_from_among (is_member_of nat_eq g) left_by.mounts (after_going nat_eq base gone m)
      (among-map (after_going nat_eq base gone) base.mounts m n)
      (ap (is_member_of nat_eq g) (cut_so m n ∙ ap (λ b. cond b (detached m) m) out) ∙ h)

  members_left : (g : ℕ) → has_members nat_eq base.mounts g ≡ true → has_members nat_eq left_by.mounts g ≡ true
  members_left g has =
      let z = any_among (is_member_of nat_eq g) base.mounts has in by z.0 z.1 z.2 (in_space k z.0) refl
    where
      by : (z : Mount ℕ) → Among z base.mounts → is_member_of nat_eq g z ≡ true → (b : Bool) → in_space k z ≡ b
          → has_members nat_eq left_by.mounts g ≡ true
      by z n h false e = member_left z n e g h
      by z n h true e = ⊎_elim (λ old. let c = among-map copy copied z (among-filter (in_space k) w.mounts z old e) in
          member_left (copy z) (among-append_right w.mounts copies (copy z) c) (copy_stays (copy z) c) g h)
          (λ late. cc (copy_stays z late)) (among-append w.mounts copies z n)

  source_left : (g : ℕ) → Lives (has_members nat_eq base.mounts) base.master g
      → is_lost_group nat_eq left_by (Some g) ≡ false
  source_left g (has_no_master it has e) = ap not (members_left it has)
  source_left g (has_master it above has e later) = ap not (members_left it has)

  master_left : (g : ℕ) → Lives (has_members nat_eq base.mounts) base.master g
      → is_lost_group nat_eq left_by (base.master g) ≡ false
  master_left g (has_no_master it has e) = cc
  master_left g (has_master it above has e later) = cc (source_left above later)

  none_lost_there : list_any (lost_a_group nat_eq left_by) left_by.mounts ≡ false
  none_lost_there = none_from_among (lost_a_group nat_eq left_by) left_by.mounts (λ y n. let from = among-from_map _ _ y
      n in cc (from.2, cut_so from.0 from.1, by from.0 from.1 (in_space k from.0)))
    where
      source : (m : Mount ℕ) → Among m base.mounts → (o : Option ℕ) → source_of m.propagation ≡ o
          → (is_lost_group nat_eq left_by o || is_lost_group nat_eq left_by (then_some o left_by.master)) ≡ false
      source m n None e = refl
      source m n (Some g) e =
          let lives = among_from_all (HasLivingGroups nat_eq base) base.mounts base_kept.groups m n g e in
          cc (source_left g lives, master_left g lives)

      by : (m : Mount ℕ) → Among m base.mounts → (b : Bool)
          → lost_a_group nat_eq left_by (cond b (detached m) m) ≡ false
      by m n true = refl
      by m n false = source m n (source_of m.propagation) refl

  none_left : Ends true w task → list_any (λ (t : Task ℕ). nat_eq k t.namespace) base.tasks ≡ false
  none_left alone = none_from_among (λ (t : Task ℕ). nat_eq k t.namespace) base.tasks (λ t m.
      let from = among-from_map replaced w.tasks t m in
      ⊎_elim (λ same. ap (λ (x : Task ℕ). nat_eq k x.namespace) (from.2 ∙ ap replaced (sym same) ∙ its) ∙ can.left)
      (λ apart. ap (λ (x : Task ℕ). nat_eq k x.namespace) (from.2 ∙ stays from.0 apart) ∙ alone from.0 from.1 apart)
      (can.only from.0 from.1))

  other_spaces : Ends true w task
      → list_all (λ (n : Namespace ℕ). nat_eq k n.number || has_tasks nat_eq base n) base.namespaces ≡ true
  other_spaces alone = others_have _ (or_right (nat_eq k s) (has_tasks nat_eq base new) new_has)
      (λ n at. let t = any_among (λ (x : Task ℕ). nat_eq n.number x.namespace) w.tasks
      (among_from_list_all _ w.namespaces can.live n at) in ⊎_elim (λ same. or_left (nat_eq k n.number) _
      (eq-eqb k n.number (cc (eqb-true n.number t.0.namespace t.2)))) (λ apart. or_right (nat_eq k n.number) _
      (task_in n.number t.0 t.1 apart (eqb-true n.number t.0.namespace t.2))) (can.only t.0 t.1))

  -- So the world is remade
  pub unshared_so : (ends : Bool) → Ends ends w task
      → namespaces_ended nat_eq base ≡ remade (unshare_plan ends k fresh copied) w base.tasks
  unshared_so false how = stays_on how ∙ (λ i. record base {
    mounts = sym (map_same (cut false k) w.mounts (λ m n. refl)) i ++ copies;
    namespaces = sym (filter_all (λ (n : Namespace ℕ). true) w.namespaces (λ n m. refl)) i ++ (new ∷ []);
  })
  unshared_so true alone =
      ends_so base k gone refl base_listed (none_left alone) (other_spaces alone) false none_lost_there
      ∙ (λ i. record base {
        mounts = (map_alike (after_going nat_eq base gone) (cut true k) base.mounts cut_so
            ∙ map-append (cut true k) w.mounts copies
            ∙ ap (λ l. map (cut true k) w.mounts ++ l) (map_same (cut true k) copies
            (λ m n. ap (λ b. cond b (detached m) m) (copy_stays m n)))) i;
        namespaces = (filter-append (λ (n : Namespace ℕ). not (nat_eq k n.number)) w.namespaces (new ∷ [])
            ∙ ap (λ b. filter (λ (n : Namespace ℕ). not (nat_eq k n.number)) w.namespaces
            ++ cond (not b) (new ∷ []) []) can.left) i;
      })
