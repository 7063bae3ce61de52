-- A mount that does not become shared takes no number when its type changes.
use Rattle.std.proofs.Common.{arith, ◌≡◌, refl, sym, ◌∙◌, ⊎_elim, true≢false, ℕ, zero, suc, nat_eq, Bool, true, false, cond, List, [], ◌∷◌, map, Option, None, inl, inr}
use Rattle.vt_spec.proofs.Common.{IsWorld, Mount, Private, Propagation, Shared, Slave, ToPrivate, ToShared, ToSlave, ToUnbindable, TypeWord, Unbindable, World, common_steps, group_of, holds_of, is_member_of, master_after, mount_in, named_mounts, regrouped, retyped, retyped_mount, stands_on, tree_from, type_after, with_new_groups}
use Rattle.vt_laws_mounts.proofs.letting_go.Lists.{Among, among-from_filter, among-from_flat_map, among_from_list_all, none_from_among}
use Rattle.vt_laws_worlds.specs.Permits.Taken.{IsUngrouped, is_ungrouped}
use Rattle.vt_laws_mounts.proofs.letting_go.sweeps.OfWorlds.{all_in_use}

abbrev pub makes_groups : TypeWord → Bool
makes_groups ToShared = true
makes_groups ToSlave = false
makes_groups ToPrivate = false
makes_groups ToUnbindable = false

abbrev pub Ungrouped : Mount ℕ → Type 0
Ungrouped mount = is_ungrouped mount.propagation ≡ true

type_same : (one other : ℕ) (word : TypeWord) → makes_groups word ≡ false → (kind : Propagation ℕ)
    → type_after one word kind ≡ type_after other word kind
type_same one other word e kind = grind (arith, common_steps, true≢false)

no_master : (kind : Propagation ℕ) → is_ungrouped kind ≡ true → master_after kind ≡ None
no_master (Shared group) e = cc
no_master (Slave master) e = cc
no_master Private e = refl
no_master Unbindable e = refl

no_member : (number : ℕ) (kind : Propagation ℕ) → is_ungrouped kind ≡ true
    → holds_of (nat_eq number) (group_of kind) ≡ false
no_member number (Shared group) e = cc
no_member number (Slave master) e = cc
no_member number Private e = refl
no_member number Unbindable e = refl

-- the mounts that are named are ungrouped
pub found_is : (mounts : List (Mount ℕ)) → ((mount : Mount ℕ) → Among mount mounts → Ungrouped mount) → (number : ℕ)
    → Ungrouped (mount_in nat_eq mounts number)
found_is [] all number = refl
found_is (mount ∷ rest) all number =
    grind (arith, common_steps, found_is rest (λ other among. all other (inr among)) number, all)

module _ (mounts : List (Mount ℕ)) (all : (mount : Mount ℕ) → Among mount mounts → Ungrouped mount) where
  pub tree_is : (depth : ℕ) (top : Mount ℕ) → Ungrouped top → (mount : Mount ℕ)
      → Among mount (tree_from nat_eq depth mounts top) → Ungrouped mount
  tree_is zero top is mount among = ⊎_elim (λ same. cc) (λ none. absurd none) among
  tree_is (suc depth) top is mount among = ⊎_elim (λ same. cc) (λ below.
      let found = among-from_flat_map _ _ mount below in
      tree_is depth _
      (all found.0 (among-from_filter (stands_on nat_eq top.number) mounts found.0 found.1).0) mount found.2) among

module _ (world : World ℕ) (whole : IsWorld nat_eq world) (ungrouped : IsUngrouped world) where
  each_is : (mount : Mount ℕ) → Among mount world.mounts → Ungrouped mount
  each_is = among_from_list_all _ _ ungrouped

  named_is : (number : ℕ) (recursive : Bool) (mount : Mount ℕ)
      → Among mount (named_mounts nat_eq world number recursive) → Ungrouped mount
  named_is number recursive mount among = grind (arith, common_steps, tree_is, each_is, found_is)

  -- no group has a master
  no_masters : (group : ℕ) → world.master group ≡ None
  no_masters group = (all_in_use world whole).groups group (none_from_among (is_member_of nat_eq group) world.mounts
      (λ mount among. no_member group _ (each_is mount among)))

  none_left : (group : ℕ → ℕ) (named : List (Mount ℕ)) → ((mount : Mount ℕ) → Among mount named → Ungrouped mount)
      → (master : ℕ → Option ℕ) → ((number : ℕ) → master number ≡ None)
      → (number : ℕ) → with_new_groups nat_eq group master named number ≡ None
  none_left group [] all master none number = none number
  none_left group (mount ∷ rest) all master none number = none_left group rest (λ other among. all other (inr among)) _
      (λ other. by other _) number
    where
      by : (other : ℕ) (b : Bool) → cond b (master_after mount.propagation) (master other) ≡ None
      by other true = no_master _ (all mount (inl refl))
      by other false = none other

  pub retyped_same : (word : TypeWord) → makes_groups word ≡ false → (number : ℕ) (recursive : Bool) (one other : ℕ → ℕ)
      → retyped nat_eq world one word (named_mounts nat_eq world number recursive)
      ≡ retyped nat_eq world other word (named_mounts nat_eq world number recursive)
  retyped_same word makes number recursive one other = λ i. regrouped nat_eq (record world {
    mounts = map (λ mount. mount_same mount i) world.mounts;
    master = λ group. (left one group ∙ sym (left other group)) i;
  })
    where
      named : List (Mount ℕ)
      named = named_mounts nat_eq world number recursive

      left : (group : ℕ → ℕ) (at : ℕ) → with_new_groups nat_eq group world.master named at ≡ None
      left group = none_left group named (named_is number _) _ no_masters

      mount_same : (mount : Mount ℕ)
          → retyped_mount nat_eq one word named mount ≡ retyped_mount nat_eq other word named mount
      mount_same mount = grind (arith, common_steps, type_same)
