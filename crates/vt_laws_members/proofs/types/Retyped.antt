-- Where mounts of a sealed set change their types, types and masters are left in the part as in the world.
use Rattle.std.proofs.Common.{arith, ◌≡◌, refl, sym, ap, subst, ◌∙◌, ◌⊎◌, inl, inr, ⊎_elim, ℕ, zero, suc, nat_eq, Bool, true, false, cond, true≢false, List, [], ◌∷◌, Option, Some, None, find, length, eq-eqb, eqb-true, option_to_list}
use Rattle.vt_spec.proofs.Common.{cases_Bool, Among, Fresh, IsWorld, Mount, Private, Propagation, Serves, Shared, Slave, Task, TaskName, TypeWord, Unbindable, World, among-filter, among-from_filter, among-from_filter_map, among-from_map, among-map, among_from_list_all, and_parts, any_among, any_from_among, chain, chain_ends, chain_goes_on, common_steps, false_from_ne_true, found_among, found_passes, group_of, groups_up, has_members, heir, holds_of, index_of, inherited, is_among_numbers, is_member_of, is_own_mount, is_private, length-map, list_any, master_after, members, none_is_some, numbers_by, numbers_in_use, own_mounts, part_of, retyped_mount, same_Some, same_truth, shares_no_events, slave_of_heir, source_of, type_after, with_master, with_new_groups}
use Rattle.vt_laws_members.proofs.changes.Common.{IsHeard, above_heard, apart, find_alike, heard_by_own, master_same, own_in_part, part_source, up_heard}
use Rattle.vt_laws_members.proofs.Common.{IsSealed, all_in_use, keep, kept_how, member_group, mount_uses, none_hears, numbered, own_member, same_up, sides, source_from_group}
use Rattle.vt_laws_members.specs.Types.TypeChanges.{takes_groups}
use Rattle.vt_laws_members.proofs.types.Inherited.{between, kind_left, master_left, master_left_so}
use Rattle.vt_laws_members.proofs.types.TypesLeft.{AreTypedAlike}

-- chains by steps that agree on the way
chain_alike : (f g : ℕ → Option ℕ) (P : ℕ → Type 0) → ((a b : ℕ) → f a ≡ Some b → P a → P b)
    → ((a : ℕ) → P a → g a ≡ f a) → (n a : ℕ) → P a → chain n g a ≡ chain n f a
chain_alike f g P on same zero a p = refl
chain_alike f g P on same (suc n) a p =
    grind (arith, common_steps, chain_ends, chain_goes_on, chain_alike f g P on same n)

-- what a private mount inherits
private_alike : (t u : World ℕ) (kind : Propagation ℕ) → is_private kind ≡ true
    → inherited nat_eq t kind ≡ inherited nat_eq u kind
private_alike t u kind e = grind (arith, common_steps, true≢false)

-- who becomes a slave was one, or a member
slave_was : (new : ℕ) (word : TypeWord) (kind : Propagation ℕ) (g : ℕ)
    → master_after (type_after new word kind) ≡ Some g → source_of kind ≡ Some g
slave_was new word kind g e = grind (arith, common_steps, none_is_some)

-- who becomes shared was so, or has a new group
shared_was : (new : ℕ) (word : TypeWord) (kind : Propagation ℕ) (g : ℕ) → group_of (type_after new word kind) ≡ Some g
    → (source_of kind ≡ Some g) ⊎ ((takes_groups word ≡ true) × (new ≡ g))
shared_was new word kind g e = grind (arith, common_steps, same_Some, none_is_some)

-- the type does not depend on the number of a group that is not taken
same_after : (a b : ℕ) (word : TypeWord) (kind : Propagation ℕ) → takes_groups word ≡ false
    → type_after a word kind ≡ type_after b word kind
same_after a b word kind e = grind (arith, common_steps, true≢false)

pub master_source : (kind : Propagation ℕ) (g : ℕ) → master_after kind ≡ Some g → source_of kind ≡ Some g
master_source kind g e = grind (arith, common_steps, none_is_some)

module _ (fresh : Fresh ℕ) (word : TypeWord) (named : List (Mount ℕ)) where
  abbrev number_for : ℕ → ℕ
  number_for = numbers_by nat_eq fresh named

  abbrev pub is_named : Mount ℕ → Bool
  is_named m = list_any (λ (other : Mount ℕ). nat_eq m.number other.number) named

  abbrev pub kind_by : Bool → Mount ℕ → Propagation ℕ
  kind_by chosen m = cond chosen (type_after (number_for m.number) word m.propagation) m.propagation

  -- types and masters before groups inherit
  abbrev pub new_kind : Mount ℕ → Propagation ℕ
  new_kind m = kind_by (is_named m) m

  abbrev pub new_masters : World ℕ → ℕ → Option ℕ
  new_masters w = with_new_groups nat_eq number_for w.master named

  abbrev pub retyped_between : World ℕ → World ℕ
  retyped_between w = between w new_kind (new_masters w)

  abbrev cut : Mount ℕ → Mount ℕ
  cut m = record m { propagation = new_kind m }

  pub retyped_so : (m : Mount ℕ) → retyped_mount nat_eq number_for word named m ≡ cut m
  retyped_so m = grind (arith, common_steps)

  -- masters of new groups are set alike
  new_alike : (a b : ℕ → Option ℕ) (g : ℕ) → a g ≡ b g → (list : List (Mount ℕ))
      → with_new_groups nat_eq number_for a list g ≡ with_new_groups nat_eq number_for b list g
  new_alike a b g e [] = e
  new_alike a b g e (m ∷ rest) = new_alike (with_master nat_eq a (number_for m.number) (master_after m.propagation))
      (with_master nat_eq b (number_for m.number) (master_after m.propagation)) g (cc) rest

  -- those of other groups stay
  old_kept : (a : ℕ → Option ℕ) (g : ℕ) → ((k : ℕ) → nat_eq g (fresh k) ≡ false) → (list : List (Mount ℕ))
      → with_new_groups nat_eq number_for a list g ≡ a g
  old_kept a g old [] = refl
  old_kept a g old (m ∷ rest) =
      old_kept (with_master nat_eq a (number_for m.number) (master_after m.propagation)) g old rest
      ∙ ap (λ b. cond b (master_after m.propagation) (a g)) (old (index_of nat_eq named m.number))

-- a number that a mount's group or master has is none of those handed in
unlike : (w : World ℕ) (supply : Fresh ℕ) → Serves nat_eq w supply → (m : Mount ℕ) → Among m w.mounts → (g : ℕ)
    → source_of m.propagation ≡ Some g → (k : ℕ) → nat_eq g (supply k) ≡ false
unlike w supply serves m n g e k = false_from_ne_true _ (λ same. true≢false (cc (
  eqb-true g (supply k) same,
  is_among_numbers (numbers_in_use w) g
      (mount_uses w m n g (inr (subst (λ o. Among g (option_to_list o)) (sym e) (inl refl)))),
  serves.unused k,
)))

-- the group of this number is new
abbrev pub IsNewGroup : Fresh ℕ → TypeWord → ℕ → Type 0
IsNewGroup fresh word g = (takes_groups word ≡ true) × (k : ℕ) × (fresh k ≡ g)

-- it has no master yet
new_none : (world : World ℕ) → IsWorld nat_eq world → (fresh : Fresh ℕ)
    → Serves nat_eq world fresh → (k : ℕ) → world.master (fresh k) ≡ None
new_none world is fresh serves k = (all_in_use world is).groups (fresh k) (false_from_ne_true _ (λ h.
    let y = any_among (is_member_of nat_eq (fresh k)) world.mounts h in
    true≢false (sym (eq-eqb (fresh k) (fresh k) refl) ∙ unlike world fresh serves y.0 y.1 (fresh k)
    (source_from_group y.0.propagation (fresh k) (member_group (fresh k) y.0 y.2)) k)))

module _ {world : World ℕ} {names : List TaskName} (sealing : IsSealed world names) {fresh : Fresh ℕ}
    (serves : Serves nat_eq world fresh) (word : TypeWord) (named : List (Mount ℕ))
    (named_own : (m : Mount ℕ) → Among m named → Among m (own_mounts nat_eq world names)) (masters_there : ℕ → Option ℕ)
    (kept_there : (g : ℕ) → IsHeard sealing g → masters_there g ≡ (part_of nat_eq world names).master g)
    (agree : (g : ℕ) → IsNewGroup fresh word g → masters_there g ≡ new_masters fresh word named world g) where
  abbrev part : World ℕ
  part = part_of nat_eq world names

  abbrev theirs : List (Task ℕ)
  theirs = members world names

  abbrev owns : List (Mount ℕ)
  owns = own_mounts nat_eq world names

  abbrev events : shares_no_events nat_eq world names ≡ true
  events = (apart sealing).events

  abbrev Heard : ℕ → Type 0
  Heard g = IsHeard sealing g

  abbrev kind : Mount ℕ → Propagation ℕ
  kind = new_kind fresh word named

  abbrev changed : Mount ℕ → Mount ℕ
  changed m = record m { propagation = kind m }

  abbrev t : World ℕ
  t = retyped_between fresh word named world

  abbrev t_part : World ℕ
  t_part = between part kind masters_there

  abbrev has : World ℕ → ℕ → Bool
  has w g = has_members nat_eq w.mounts g

  in_world : (m : Mount ℕ) → Among m owns → Among m world.mounts
  in_world m own = (among-from_filter (is_own_mount nat_eq world names) world.mounts m own).0

  -- The mounts named are theirs, and no others have their numbers
  own_named : (m : Mount ℕ) → Among m world.mounts → is_named fresh word named m ≡ true → Among m owns
  own_named m n h =
      let other = any_among (λ (o : Mount ℕ). nat_eq m.number o.number) named h in
      let own = named_own other.0 other.1 in
      let same : other.0 ≡ m = cc (
        numbered world names sealing.is.mounts other.0 (in_world other.0 own),
        eqb-true
            m.number other.0.number other.2,
        numbered world names sealing.is.mounts m n,
      ) in
      rw (← same) own

  part_named : (m : Mount ℕ) → Among m part.mounts → is_named fresh word named m ≡ true → Among m owns
  part_named m n h =
      let from = among-from_filter_map (keep world names theirs) world.mounts m n in
      ⊎_elim (λ same. own_named m (rw (← same) from.1) h) (λ stub. cc (
        (among-from_filter (is_own_mount nat_eq world names) world.mounts from.0 (own_named from.0 from.1 (cc))).1,
        stub.1,
      ))
      (kept_how world names theirs from.0 m from.2)

  -- Members before inheritance
  member_was : (m : Mount ℕ) (g : ℕ) → is_named fresh word named m ≡ false → is_member_of nat_eq g (changed m) ≡ true
      → is_member_of nat_eq g m ≡ true
  member_was m g e h = cc

  member_own : (m : Mount ℕ) → Among m world.mounts → (g : ℕ) → Heard g → is_member_of nat_eq g (changed m) ≡ true
      → Among m owns
  member_own m n g heard h = elim (cases_Bool (is_named fresh word named m)) [
    | inl e ↦ own_named m n e
    | inr e ↦ ⊎_elim (λ own. own)
        (λ other. absurd (none_hears world names sealing.is.mounts events g m heard.0 other (member_was m g e h)))
        (sides world names sealing.is.mounts events m g n (member_group g m (member_was m g e h)))
  ]

  part_member_own : (m : Mount ℕ) → Among m part.mounts → (g : ℕ) → is_member_of nat_eq g (changed m) ≡ true
      → Among m owns
  part_member_own m n g h = elim (cases_Bool _) [
    | inl e ↦ part_named m n e
    | inr e ↦ part_source sealing m n g
        (source_from_group m.propagation g (member_group g m (member_was m g e h)))
  ]

  is_in : (m : Mount ℕ) → Among m owns → (g : ℕ) → is_member_of nat_eq g (changed m) ≡ true
      → (has t g ≡ true) × (has t_part g ≡ true)
  is_in m own g h = (
    any_from_among (is_member_of nat_eq g) t.mounts (changed m) (among-map changed world.mounts m (in_world m own)) h,
    any_from_among (is_member_of nat_eq g) t_part.mounts (changed m)
        (among-map changed part.mounts m (own_in_part sealing m own)) h,
  )

  has_alike : (g : ℕ) → Heard g → has t_part g ≡ has t g
  has_alike g heard = same_truth _ (has t g) (λ h. let y = any_among (is_member_of nat_eq g) t_part.mounts h in
      let from = among-from_map changed part.mounts y.0 y.1 in
      let its = ap (is_member_of nat_eq g) (sym from.2) ∙ y.2 in
      (is_in from.0 (part_member_own from.0 from.1 g its) g its).0)
      (λ h. let y = any_among (is_member_of nat_eq g) t.mounts h in
      let from = among-from_map changed world.mounts y.0 y.1 in
      let its = ap (is_member_of nat_eq g) (sym from.2) ∙ y.2 in
      (is_in from.0 (member_own from.0 from.1 g heard its) g its).1)

  -- Groups of before and their masters
  heard_old : (g : ℕ) → Heard g → (k : ℕ) → nat_eq g (fresh k) ≡ false
  heard_old g heard =
      let own = own_member world names sealing.is.mounts events g heard.0 heard.1 in
      unlike world fresh serves own.0 (in_world own.0 own.1) g
      (source_from_group own.0.propagation g (member_group g own.0 own.2))

  -- a group of theirs, or a new one
  abbrev IsGroup : ℕ → Type 0
  IsGroup g = Heard g ⊎ IsNewGroup fresh word g

  base_heard : (g above : ℕ) → IsGroup g → world.master g ≡ Some above → Heard above
  base_heard g above group e = ⊎_elim (above_heard sealing above g e) (λ new. none_is_some above
      (cc (new.2, new_none world sealing.is fresh serves new.1))) group

  masters_agree : (g : ℕ) → IsGroup g → masters_there g ≡ t.master g
  masters_agree g group = ⊎_elim (λ heard. kept_there g heard ∙ master_same sealing g heard
      ∙ sym (old_kept fresh word named world.master g (heard_old g heard) named)) (agree g) group

  -- the masters of groups after are heard
  heard_from : (a : ℕ → Option ℕ) (g above : ℕ) → (a g ≡ Some above → Heard above) → (list : List (Mount ℕ))
      → ((m : Mount ℕ) → Among m list → Among m owns)
      → with_new_groups nat_eq (numbers_by nat_eq fresh named) a list g ≡ Some above → Heard above
  heard_from a g above base [] own e = base e
  heard_from a g above base (m ∷ rest) own e =
      heard_from (with_master nat_eq a (numbers_by nat_eq fresh named m.number) (master_after m.propagation)) g above
      (by (nat_eq g (numbers_by nat_eq fresh named m.number))) rest (λ x n. own x (inr n)) e
    where
      by : (b : Bool) → cond b (master_after m.propagation) (a g) ≡ Some above → Heard above
      by true f = heard_by_own sealing m (own m (inl refl)) above (master_source m.propagation above f)
      by false f = base f

  -- Heirs
  up_world : (g : ℕ) → Heard g → groups_up t g ≡ groups_up world g
  up_world g heard = ap (λ n. chain n t.master g) (length-map world.mounts changed)
      ∙ chain_alike world.master t.master Heard (λ a b e. above_heard sealing b a e)
      (λ a p. old_kept fresh word named world.master a (heard_old a p) named) (length world.mounts) g heard

  up_part : (g : ℕ) → Heard g → groups_up t_part g ≡ groups_up world g
  up_part g heard = ap (λ n. chain n t_part.master g) (length-map part.mounts changed)
      ∙ chain_alike part.master masters_there Heard (λ a b e p. above_heard sealing b a
      (sym (master_same sealing a p) ∙ e) p) kept_there (length part.mounts) g heard ∙ same_up world names
      sealing.is.mounts events g heard.0 heard.1

  heir_alike : (o : Option ℕ) → ((g : ℕ) → o ≡ Some g → Heard g) → heir nat_eq t_part o ≡ heir nat_eq t o
  heir_alike None heard = refl
  heir_alike (Some g) heard = ap (find (has t_part)) (up_part g (heard g refl))
      ∙ find_alike (has t_part) (has t) (groups_up world g) (λ x m. has_alike x (up_heard sealing g x (heard g refl) m))
      ∙ ap (find (has t)) (sym (up_world g (heard g refl)))

  -- Types after
  slave_heard : (m : Mount ℕ) → Among m owns → (g : ℕ) → master_after (kind m) ≡ Some g → Heard g
  slave_heard m own g = by (is_named fresh word named m)
    where
      by : (b : Bool) → master_after (kind_by fresh word named b m) ≡ Some g → Heard g
      by true e = heard_by_own sealing m own g
          (slave_was (numbers_by nat_eq fresh named m.number) word m.propagation g e)
      by false e = heard_by_own sealing m own g (master_source m.propagation g e)

  own_alike : (m : Mount ℕ) → Among m owns → inherited nat_eq t_part (kind m) ≡ inherited nat_eq t (kind m)
  own_alike m own = by (kind m) refl
    where
      by : (k : Propagation ℕ) → kind m ≡ k → inherited nat_eq t_part k ≡ inherited nat_eq t k
      by (Shared g) e = refl
      by (Slave g) e = cc (heir_alike (Some g) (λ h f. slave_heard m own h (ap master_after e ∙ f)))
      by Private e = refl
      by Unbindable e = refl

  nowhere_alike : (m : Mount ℕ) → Among m world.mounts → m.namespace ≡ None
      → inherited nat_eq t_part (kind m) ≡ inherited nat_eq t (kind m)
  nowhere_alike m n none =
      grind (arith, common_steps, none, and_parts, among_from_list_all, own_alike, own_named, private_alike)

  -- Groups after
  abbrev HasGroup : ℕ → Type 0
  HasGroup g = IsGroup g × (has t g ≡ true) × (has t_part g ≡ true)

  shared_group : (m : Mount ℕ) → Among m owns → (g : ℕ) → group_of (kind m) ≡ Some g → IsGroup g
  shared_group m own g = by (is_named fresh word named m)
    where
      by : (b : Bool) → group_of (kind_by fresh word named b m) ≡ Some g → IsGroup g
      by true e = ⊎_elim (λ was. inl (heard_by_own sealing m own g was))
          (λ new. inr (new.0, index_of nat_eq named m.number, new.1))
          (shared_was (numbers_by nat_eq fresh named m.number) word m.propagation g e)
      by false e = inl (heard_by_own sealing m own g (source_from_group m.propagation g e))

  group_after : (m : Mount ℕ) → Among m owns → (g : ℕ) → source_of (inherited nat_eq t (kind m)) ≡ Some g → HasGroup g
  group_after m own g = by (kind m) refl
    where
      of_heir : (s : ℕ) → Heard s → (o : Option ℕ) → heir nat_eq t (Some s) ≡ o
          → source_of (slave_of_heir o) ≡ Some g → HasGroup g
      of_heir s heard None f e = none_is_some g e
      of_heir s heard (Some above) f e =
          let its : Heard above = up_heard sealing s above heard (rw (← up_world s heard)
          (found_among (has t) (groups_up t s) above f)) in
          let in_it = found_passes (has t) (groups_up t s) above f in
          rw (← same_Some above g e) (inl its, in_it, has_alike above its ∙ in_it)

      by : (k : Propagation ℕ) → kind m ≡ k → source_of (inherited nat_eq t k) ≡ Some g → HasGroup g
      by (Shared h) f e =
          let mine = ap group_of f ∙ e in
          let both = is_in m own g (ap (holds_of (nat_eq g)) mine ∙ eq-eqb g g refl) in
          (shared_group m own g mine, both.0, both.1)
      by (Slave s) f e = of_heir s (slave_heard m own s (ap master_after f)) (heir nat_eq t (Some s)) refl e
      by Private f e = none_is_some g e
      by Unbindable f e = none_is_some g e

  pub retyped_alike : AreTypedAlike sealing
      (kind_left world kind (new_masters fresh word named world)) (kind_left part kind masters_there)
      (master_left world kind (new_masters fresh word named world)) (master_left part kind masters_there)
  retyped_alike = record {
    types = λ m n place. ⊎_elim
        (λ own. own_alike m (among-filter (is_own_mount nat_eq world names) world.mounts m n own))
        (nowhere_alike m n) place;
    masters = λ m own g e.
        let its = group_after m own g e in
        master_left_so part kind masters_there g its.2 ∙ ap (heir nat_eq t_part) (masters_agree g its.0)
        ∙ heir_alike (t.master g)
        (λ above f. heard_from world.master g above (base_heard g above its.0) named named_own f)
        ∙ sym (master_left_so world kind (new_masters fresh word named world) g its.1);
  }

-- The numbers that are handed in
module _ {world : World ℕ} {names : List TaskName} (sealing : IsSealed world names) {fresh : Fresh ℕ}
    (serves : Serves nat_eq world fresh) (word : TypeWord) (named : List (Mount ℕ))
    (named_own : (m : Mount ℕ) → Among m named → Among m (own_mounts nat_eq world names)) where
  abbrev there : World ℕ
  there = part_of nat_eq world names

  abbrev taken : Mount ℕ → Propagation ℕ
  taken = new_kind fresh word named

  old_there : (supply : Fresh ℕ) → ((m : Mount ℕ) → Among m (own_mounts nat_eq world names) → (g : ℕ)
      → source_of m.propagation ≡ Some g → (k : ℕ) → nat_eq g (supply k) ≡ false)
      → (g : ℕ) → IsHeard sealing g → new_masters supply word named there g ≡ there.master g
  old_there supply unlike_own g heard =
      let own = own_member world names sealing.is.mounts (apart sealing).events g heard.0 heard.1 in
      old_kept supply word named there.master g
      (unlike_own own.0 own.1 g (source_from_group own.0.propagation g (member_group g own.0 own.2))) named

  -- one supply for both
  new_agree : (g : ℕ) → IsNewGroup fresh word g
      → new_masters fresh word named there g ≡ new_masters fresh word named world g
  new_agree g new = grind (arith, common_steps, new_alike, new_none)

  pub alike_by_one : AreTypedAlike sealing
      (kind_left world taken (new_masters fresh word named world))
      (kind_left there taken (new_masters fresh word named there))
      (master_left world taken (new_masters fresh word named world))
      (master_left there taken (new_masters fresh word named there))
  alike_by_one =
      retyped_alike sealing serves word named named_own (new_masters fresh word named there)
      (old_there fresh (λ m own. unlike world fresh serves m (among-from_filter (is_own_mount nat_eq world names)
      world.mounts m own).0)) new_agree

  -- two supplies, where no group is taken
  module _ (other : Fresh ℕ) (serves_there : Serves nat_eq (part_of nat_eq world names) other)
      (no_groups : takes_groups word ≡ false) where
    pub same_kind : (m : Mount ℕ) → new_kind other word named m ≡ taken m
    same_kind m = grind (arith, common_steps, same_after)

    pub alike_by_any : AreTypedAlike sealing
        (kind_left world taken (new_masters fresh word named world))
        (kind_left there taken (new_masters other word named there))
        (master_left world taken (new_masters fresh word named world))
        (master_left there taken (new_masters other word named there))
    alike_by_any = retyped_alike sealing serves word named named_own (new_masters other word named there)
        (old_there other (λ m own. unlike there other serves_there m (own_in_part sealing m own))) (λ g new. cc new.0)
