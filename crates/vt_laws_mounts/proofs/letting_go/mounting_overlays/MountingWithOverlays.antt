-- What goes after each change of mounts in worlds with overlays.
use Rattle.std.proofs.Common.{arith, ◌≡◌, sym, ap, subst, ◌∙◌, ℕ, nat_eq, Bool, true, List, [], ◌∷◌, flat_map, length, map, suc, zero, option_to_list, append-nil}
use Rattle.vt_spec.proofs.Common.{Copies, Mount, Namespace, World, attach, children, common_steps, copies_from, lazily_unmounted, list_any, lost_a_group, mount_at, mount_numbered, parts_of, pivoted, regrouped_by, settled, taken_away, tree_from}
use Rattle.vt_laws_mounts.specs.LettingGo.Attaching.{inodes_of_mount_point}
use Rattle.vt_laws_mounts.specs.LettingGo.Unmounting.{detached_between, groups_of_mounts}
use Rattle.vt_laws_mounts.specs.LettingGo.LeavingOverlays.{IsSettled}
use Rattle.vt_laws_mounts.specs.LettingGo.Mounting.{places_lost}
use Rattle.vt_laws_mounts.specs.LettingGo.MountingOverlays.{EndingWithOverlaysLetsGo, LazyUnmountsWithOverlaysLetGo, MountsOnDirectoriesWithOverlaysLetGo, MovesWithOverlaysLetGo, MovingWithOverlaysLetsGo, PivotsWithOverlaysLetGo, TakingAwayWithOverlaysLetsGo, UnmountsWithOverlaysLetGo, used_by_gone_with_layers, used_by_mounts_with_layers}
use Rattle.vt_laws_mounts.specs.LettingGo.OneByOne.{GroupsInUseBut}
use Rattle.vt_laws_mounts.specs.LettingGo.Overlays.{let_go_all, let_go_all_inodes}
use Rattle.vt_laws_mounts.proofs.letting_go.mounting.Attached.{attached_groups, attached_loses}
use Rattle.vt_laws_mounts.proofs.letting_go.mounting.AttachedSwept.{of_tree}
use Rattle.vt_laws_mounts.proofs.letting_go.mounting.Unmounted
use Rattle.vt_laws_mounts.proofs.letting_go.mounting.Unmounted.{Faded, event_groups, lazily_fades}
use Rattle.vt_laws_mounts.proofs.letting_go.Lists.{Among}
use Rattle.vt_laws_mounts.proofs.letting_go.mounting.MountingMoved
use Rattle.vt_laws_mounts.proofs.letting_go.mounting.MountingOverlays.{all_losers_go}
use Rattle.vt_laws_mounts.proofs.letting_go.mounting.MountingTaken.{change, is_changed, loses, masters, same_namespaces, without}
use Rattle.vt_laws_mounts.proofs.letting_go.mounting.Pivoted

-- the world without mounts, with other namespaces
taken_with_namespaces : (world : World ℕ) (gone groups : List ℕ) (namespaces : List (Namespace ℕ)) → IsSettled world
    → GroupsInUseBut groups (record (taken_away nat_eq world gone) { namespaces = namespaces })
    → settled nat_eq (record (taken_away nat_eq world gone) { namespaces = namespaces })
    ≡ let_go_all (record (taken_away nat_eq world gone) { namespaces = namespaces })
    (used_by_mounts_with_layers world gone (places_lost world gone) groups)
taken_with_namespaces world gone groups namespaces settles hears =
    by (list_any (lost_a_group nat_eq (without world gone namespaces)) (without world gone namespaces).mounts) hears
  where
    taken : Bool → World ℕ
    taken b = record (regrouped_by nat_eq b (without world gone namespaces)) { namespaces = namespaces }

    by : (b : Bool) → GroupsInUseBut groups (taken b) → settled nat_eq (taken b) ≡ let_go_all (taken b)
        (used_by_mounts_with_layers world gone (places_lost world gone) groups)
    by b h = subst (λ w. settled nat_eq w ≡ let_go_all w
        (used_by_mounts_with_layers world gone (places_lost world gone) groups))
        (sym (is_changed world gone namespaces b))
        (all_losers_go world (map (change world gone namespaces b) world.mounts)
        (masters world gone namespaces b) namespaces world.tasks gone
        (places_lost world gone) groups settles (loses world gone namespaces settles.in_use settles.mounts b)
        (subst (GroupsInUseBut groups) (is_changed world gone namespaces b) h))

pub taking_away_with_overlays_lets_go : TakingAwayWithOverlaysLetsGo
taking_away_with_overlays_lets_go world gone groups settles hears =
    grind (arith, common_steps, taken_with_namespaces, same_namespaces)

pub ending_with_overlays_lets_go : EndingWithOverlaysLetsGo
ending_with_overlays_lets_go world groups settles hears = taken_with_namespaces world _ groups _ settles hears

pub moving_with_overlays_lets_go : MovingWithOverlaysLetsGo
moving_with_overlays_lets_go world moved groups change master settles moves nowhere hears = all_losers_go world _ master
    _ _ [] _ groups settles (MountingMoved.loses world moved change master settles.in_use moves nowhere) hears

one_event : (world : World ℕ) (gone : List ℕ) → IsSettled world → settled nat_eq (taken_away nat_eq world gone)
    ≡ let_go_all (taken_away nat_eq world gone) (used_by_gone_with_layers world gone)
one_event world gone settles = taking_away_with_overlays_lets_go world gone (groups_of_mounts world gone) settles
    (event_groups world gone settles.in_use.groups)

pub unmounts_with_overlays_let_go : UnmountsWithOverlaysLetGo
unmounts_with_overlays_let_go fresh world task mount settles = one_event world _ settles

pub mounts_on_directories_with_overlays_let_go : MountsOnDirectoriesWithOverlaysLetGo
mounts_on_directories_with_overlays_let_go world directory settles = one_event world _ settles

pub lazy_unmounts_with_overlays_let_go : LazyUnmountsWithOverlaysLetGo
lazy_unmounts_with_overlays_let_go fresh world task number settles =
    subst (λ w. settled nat_eq w ≡ let_go_all w (used_by_gone_with_layers world gone)) (sym faded.is)
    (all_losers_go world _ _ _ _ gone _ _ settles (Unmounted.loses world now settles.in_use settles.mounts faded)
    (Unmounted.groups world now settles.in_use settles.mounts faded))
  where
    now : World ℕ
    now = lazily_unmounted nat_eq world number

    faded : Faded world now
    faded = lazily_fades world number settles.mounts

    gone : List ℕ
    gone = detached_between world now

pub moves_with_overlays_let_go : MovesWithOverlaysLetGo
moves_with_overlays_let_go fresh world task number place settles located at_attached is = by (length world.mounts)
  where
    mount : Mount ℕ
    mount = mount_numbered nat_eq world number

    moves : (rest : List (Mount ℕ)) → ((x : Mount ℕ) → Among x (mount ∷ rest) → Among x world.mounts)
        → settled nat_eq (attach nat_eq world fresh place true (mount ∷ rest))
        ≡ let_go_all_inodes (attach nat_eq world fresh place true (mount ∷ rest)) (inodes_of_mount_point world mount)
    moves rest there = all_losers_go world after.mounts after.master world.namespaces world.tasks []
        (option_to_list mount.mount_point) [] settles
        (attached_loses world world.filesystems new place true mount rest settles.in_use settles.mounts located
        at_attached (λ e. there)) (λ group among none.
        attached_groups world world.filesystems new place true mount rest settles.in_use settles.mounts located
        at_attached (λ e. there) group none)
        ∙ ap (let_go_all_inodes after) (append-nil (inodes_of_mount_point world mount))
      where
        new : Copies ℕ
        new = copies_from nat_eq fresh (parts_of nat_eq world place) (mount ∷ rest)

        after : World ℕ
        after = attach nat_eq world fresh place true (mount ∷ rest)

    by : (depth : ℕ) → settled nat_eq (attach nat_eq world fresh place true (tree_from nat_eq depth world.mounts mount))
        ≡ let_go_all_inodes (attach nat_eq world fresh place true (tree_from nat_eq depth world.mounts mount))
        (inodes_of_mount_point world mount)
    by zero = moves [] (of_tree world number is zero)
    by (suc depth) = moves (flat_map (tree_from nat_eq depth world.mounts) (children nat_eq world.mounts mount.number))
        (of_tree world number is (suc depth))

pub pivots_with_overlays_let_go : PivotsWithOverlaysLetGo
pivots_with_overlays_let_go fresh world task new put settles old_attached new_attached =
    all_losers_go world _ _ _ _ [] _ [] settles (Pivoted.loses world task.namespace task.root.mount new put
    settles.in_use settles.mounts old_attached new_attached) (λ group among none. Pivoted.groups world task.namespace
    task.root.mount new put settles.in_use settles.mounts old_attached new_attached group none) ∙ ap
    (let_go_all_inodes after) (append-nil (inodes_of_mount_point world (mount_numbered nat_eq world new)))
  where
    after : World ℕ
    after = pivoted nat_eq world task.namespace (mount_at nat_eq world task.root) (mount_numbered nat_eq world new) put
