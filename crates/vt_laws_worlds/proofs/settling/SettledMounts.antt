-- Mounts and namespaces where what nothing uses goes.
use Rattle.std.proofs.Common.{arith, ◌≡◌, sym, ap, ◌∙◌, ℕ, nat_eq, true, List, Some, filter, is_some, length, nat_lt, option_to_list, ◌==◌}
use Rattle.vt_spec.proofs.Common.{Location, Mount, MountInvariants, Namespace, NamespaceInvariants, Stands, World, all-filter, at_root, common_steps, is_listed, is_root_mount, list_all, list_any, most_mounts, mount_at, mount_lives, mount_numbered, mounts_of, on_parent, settled}
use Rattle.vt_laws_mounts.proofs.letting_go.Lists.{all_from_among, among-from_filter, among_from_all, filter_twice}
use Rattle.vt_laws_mounts.proofs.GroupsLiving.{all_live, tested_live}
use Rattle.vt_laws_mounts.proofs.GroupsKept.{settling_keeps_groups}
use Rattle.vt_laws_mounts.proofs.mounts.MountsApart.{settling_keeps_apart}
use Rattle.vt_laws_mounts.proofs.mounts.MountsKept.{settling_keeps_nowhere}
use Rattle.vt_laws_mounts.specs.Mounts.Invariants.{AreApart}
use Rattle.vt_laws_worlds.specs.Worlds.Kept.{IsUnderWay}
use Rattle.vt_laws_worlds.proofs.settling.SettledSeen.{attached_lives, found_still, itself, placed_attached}
use Rattle.vt_laws_mounts.proofs.moves.Moving.{placed_there}

module _ (world : World ℕ) (unsettled : IsUnderWay world) where
  abbrev later : World ℕ
  later = settled nat_eq world

  -- a mount that is found with a place is in a namespace
  found_attached : (number : ℕ) (place : Location ℕ) → (mount_numbered nat_eq world number).mount_point ≡ Some place
      → is_some (mount_numbered nat_eq world number).namespace ≡ true
  found_attached number place e = placed_attached world unsettled (mount_numbered nat_eq world number)
      (placed_there world.mounts number (ap is_some e)) (ap is_some e)

  -- A mount with a place is in a namespace, and so are those below it, so none of them goes
  stands_still : (number : ℕ) → Stands nat_eq world number
      → mount_lives nat_eq world (mount_numbered nat_eq world number) ≡ true → Stands nat_eq later number
  stands_still number (at_root it e) lives =
      at_root it (ap (λ (m : Mount ℕ). m.mount_point) (found_still world unsettled it lives) ∙ e)
  stands_still number (on_parent it place e f stands) lives =
      let below_lives : mount_lives nat_eq world (mount_at nat_eq world place) ≡ true =
      attached_lives world unsettled (mount_at nat_eq world place) (ap is_some (sym f) ∙ found_attached it place e) in
      on_parent it place (ap (λ (m : Mount ℕ). m.mount_point) (found_still world unsettled it lives) ∙ e)
      (ap (λ (m : Mount ℕ). m.namespace) (found_still world unsettled it lives) ∙ f
      ∙ ap (λ (m : Mount ℕ). m.namespace) (sym (found_still world unsettled place.mount below_lives)))
      (stands_still place.mount stands below_lives)

  pub settled_mounts : MountInvariants nat_eq later
  settled_mounts =
      let apart : AreApart later = settling_keeps_apart world
      (record { by_number = unsettled.mounts.one_number; by_place = unsettled.mounts.one_child }) in
      record {
        one_number = apart.by_number;
        one_child = apart.by_place;
        standing = all_from_among (λ (mount : Mount ℕ). Stands nat_eq later mount.number) later.mounts (λ mount m.
            let was = among-from_filter (mount_lives nat_eq world) world.mounts mount m in
            stands_still _ (among_from_all (λ (other : Mount ℕ). Stands nat_eq world other.number) world.mounts
            unsettled.mounts.standing mount was.0) (cc (itself world unsettled mount was.0)));
        nowhere = settling_keeps_nowhere world unsettled.mounts.nowhere;
        groups = all_live later
            (settling_keeps_groups world unsettled.mounts.nowhere (tested_live world unsettled.mounts.groups));
      }

  -- Namespaces keep their mounts
  same_mounts_of : (namespace : ℕ) → mounts_of nat_eq later namespace ≡ mounts_of nat_eq world namespace
  same_mounts_of namespace = grind (arith, common_steps, filter_twice, attached_lives)

  abbrev MountsBy : Type 0
  MountsBy = ℕ → List (Mount ℕ)

  abbrev mounts_by : World ℕ → MountsBy
  mounts_by w namespace = mounts_of nat_eq w namespace

  same_mounts : mounts_by later ≡ mounts_by world
  same_mounts = λ i namespace. same_mounts_of namespace i

  pub settled_namespaces : NamespaceInvariants nat_eq later
  settled_namespaces = record {
    one_namespace = unsettled.namespaces.one_namespace;
    mounts_listed = all-filter (λ (mount : Mount ℕ). list_all (is_listed nat_eq world) (option_to_list mount.namespace))
        (mount_lives nat_eq world) world.mounts unsettled.namespaces.mounts_listed;
    tasks_listed = unsettled.namespaces.tasks_listed;
    root_mounts = ap (λ (mounts : MountsBy). list_all
        (λ (n : Namespace ℕ). length (filter (is_root_mount nat_eq) (mounts n.number)) == 1) world.namespaces)
        same_mounts ∙ unsettled.namespaces.root_mounts;
    namespaces_live = unsettled.namespaces.namespaces_live;
    few_mounts = ap (λ (mounts : MountsBy). list_any
        (λ (n : Namespace ℕ). nat_lt most_mounts (length (mounts n.number))) world.namespaces) same_mounts
        ∙ unsettled.namespaces.few_mounts;
  }
