-- A task has left a namespace: what code has then is what the sweep leaves, once mounts get the types that groups tell.
use Rattle.std.proofs.Common.{◌≡◌, refl, sym, ap, subst, ◌∙◌, ℕ, nat_eq, eq-eqb, Bool, true, false, ◌&&◌, List, [], map, is_some, arith}
use Rattle.vt_spec.proofs.Common.{Mount, Namespace, World, common_steps, holds_of, regrouped}
use Rattle.vt_mounting.proofs.Common.{Among, AreTyped, Grouping, Has, Inode, IsHeld, MountEntry, NamespaceEntry, TakesAway, Tasks, WorldValue, among_from_all, counted, map_same, none_among, typed_by, typed_entry}
use Rattle.vt_group.proofs.Others.{has_ordered}
use Rattle.vt_mounting.specs.Detach.NamespacesLeft.{MountsAreLeft, NamespaceIsLeft, is_attached_in, namespace_entry, numbers_inside}
use Rattle.vt_mounting.specs.Detach.Uses.{Kept}
use Rattle.vt_mounting.proofs.detach.Midway.{Reached}
use Rattle.vt_mounting.proofs.detach.MidwayDone.{detaches_all}
use Rattle.vt_mounting.proofs.detach.NamespacesEnded.{AllCountOneMore, ends, ends_by}
use Rattle.vt_mounting.proofs.detach.NamespacesTyped.{CanGo, gone_numbers, left_has_groups, left_has_same, left_world}
pub use Rattle.std.proofs.Math.Bool.{and-false}

-- the mounts of a namespace go, if it ends
abbrev pub goes_with : Bool → ℕ → Mount ℕ → Bool
goes_with ends namespace mount = ends && holds_of (nat_eq namespace) mount.namespace

goes_with_attached : (ends : Bool) (namespace : ℕ) (mount : Mount ℕ) → goes_with ends namespace mount ≡ true
    → is_some mount.namespace ≡ true
goes_with_attached ends namespace mount e = grind (arith, common_steps)

-- mounts that have the types that groups tell keep them
all_typed : (groups : Grouping) (entries : List MountEntry) → AreTyped groups entries
    → map (typed_entry groups) entries ≡ entries
all_typed groups entries typed = map_same (typed_entry groups) entries (λ entry m i. record entry {
  mount = among_from_all (λ (one : MountEntry). typed_by groups one.mount ≡ one.mount) entries typed entry m i;
})

-- Mounts that are to go are detached, and none of them is left. Then all get the types that the groups tell, which are
-- those of the world `start` once its groups without members end.
pub record IsLeft (value : WorldValue) (start : World ℕ) (gained : List Inode) (goes : Mount ℕ → Bool) (new : Kept)
    (groups : Grouping) : Type 0 where
  pub entries : List MountEntry
  pub reached : Reached value start gained goes [] (record new { mounts = entries })
  pub all_gone : (entry : MountEntry) → Among entry entries → goes entry.mount ≡ false
  pub typed : new.mounts ≡ map (typed_entry groups) entries
  pub has : Has (regrouped nat_eq start) groups

module _ {value : WorldValue} (whole : IsHeld value) {world : World ℕ} {count : ℕ} {tasks : Tasks}
    {entries : List NamespaceEntry} (all : AllCountOneMore count tasks entries)
    (can_go : CanGo world (goes_with (ends all) (counted count))) (namespaces : List (Namespace ℕ)) where
  abbrev ends_now : Bool
  ends_now = ends all

  abbrev pub going : Mount ℕ → Bool
  going mount = goes_with (ends all) (counted count) mount

  abbrev start : World ℕ
  start = left_world can_go tasks namespaces

  -- before it is left: its groups, what is kept, and the mounts that are to go
  pub record IsBefore (before : Grouping) (gained : List Inode) (old : Kept) : Type 0 where
    pub has : Has world before
    pub reached : Reached value start gained going [] old
    pub typed : AreTyped before old.mounts
    pub inside : ends_now ≡ true → numbers_inside (counted count) old.mounts ≡ gone_numbers can_go tasks namespaces

  module _ {before : Grouping} {gained : List Inode} {old : Kept} (is : IsBefore before gained old) (new : Kept)
      (groups : Grouping) where
    open is use {has, reached, typed, inside}

    -- no namespace ends
    stay : ends_now ≡ false → (new ≡ old) × (groups ≡ before) → IsLeft value start gained going new groups
    stay none same = record {
      entries = new.mounts;
      reached = subst (Reached value start gained going []) (sym same.0) reached;
      all_gone = λ entry m. goes_not entry.mount;
      typed = sym (subst (λ (k : Kept). map (typed_entry groups) k.mounts ≡ k.mounts) (sym same.0)
          (subst (λ one. map (typed_entry one) old.mounts ≡ old.mounts) (sym same.1)
          (all_typed before old.mounts typed)));
      has = subst (Has (regrouped nat_eq start)) (sym same.1)
          (left_has_same can_go tasks namespaces goes_not has);
    }
      where
        goes_not : (mount : Mount ℕ) → going mount ≡ false
        goes_not mount = ap (λ b. goes_with b (counted count) mount) none

    -- one does: its mounts leave their groups at once
    leave : ends_now ≡ true → NamespaceIsLeft (counted count) old before new groups
        → IsLeft value start gained going new groups
    leave last gone = record {
      entries = gone.entries;
      reached = detaches_all (record { whole = whole; attached = goes_with_attached ends_now (counted count) })
          (counted count) (λ mount its. (λ i. last i && holds_of (nat_eq (counted count)) (its i))
          ∙ eq-eqb (counted count) (counted count) refl)
          gone.ends.gone (record new { mounts = gone.entries }) gone.ends.detached reached;
      all_gone = λ entry m.
          ap (λ b. ends_now && b) (none_among (is_attached_in (counted count)) gone.entries gone.ends.none_left entry m)
          ∙ and-false ends_now;
      typed = gone.types (has_ordered world before has) typed;
      has = left_has_groups can_go tasks namespaces groups has
          (subst (TakesAway before groups) (inside last) gone.groups);
    }

    pub leaves : MountsAreLeft (counted count) (namespace_entry count entries) old before new groups
        → IsLeft value start gained going new groups
    leaves left = grind (arith, common_steps, stay, ends_by, leave)
