-- What is attached fills namespaces by its parts in them.
use Rattle.std.proofs.Common.{◌≡◌, ap, ◌∙◌, ⊎_elim, ℕ, nat_eq, nat_lt, true, false, List, [], ◌∷◌, length, arith, ◌+◌, ◌*◌, ◌-◌}
use Rattle.vt_spec.proofs.Common.{Among, Copies, Filesystem, Fresh, IsWorld, Location, Mount, MountFlags, World, attached_by, bind_tree, copies_from, has_too_many, list_any, most_mounts, mounted, new_mount, odds, parts_of, tree_among, with_new_filesystem}
use Rattle.vt_laws_later_calls.proofs.Common.{found_there, mount_count, trees_have_each_once}
use Rattle.vt_laws_mounts.proofs.Counting.{added_counted, moved_all}
use Rattle.vt_laws_worlds.proofs.permits.taken.PartsKept.{same_parts}
use Rattle.vt_laws_later_calls.specs.Limits.Room.{BindsAskForRoom, MovesAskForRoom, NewMountsAskForRoom, OverlaysAskForRoom, how_many_in, lacks_room, tree_of}

-- copies come to each namespace at its parts
copies_ask_for_room : (world : World ℕ) (place : Location ℕ) (new : Copies ℕ) (mounts : List (Mount ℕ))
    → has_too_many nat_eq (attached_by nat_eq world new place false mounts) ≡ lacks_room world place (length mounts)
copies_ask_for_room world place new mounts =
    λ i. list_any (λ namespace. nat_lt most_mounts (added_counted world place new mounts namespace.number i))
    world.namespaces

-- so does a new mount of a filesystem, which changes no parts
mounted_asks_for_room : (world : World ℕ) (fresh : Fresh ℕ) (place : Location ℕ) (filesystem : Filesystem ℕ)
    (flags : MountFlags) → IsWorld nat_eq world
    → has_too_many nat_eq (mounted nat_eq fresh world place filesystem flags) ≡ lacks_room world place 1
mounted_asks_for_room world fresh place filesystem flags is =
    copies_ask_for_room (with_new_filesystem world filesystem) place
    (copies_from nat_eq fresh (parts_of nat_eq (with_new_filesystem world filesystem) place)
    (new_mount filesystem.number filesystem.files.tree.root flags ∷ []))
    (new_mount filesystem.number filesystem.files.tree.root flags ∷ []) ∙ ap (λ parts. list_any (λ namespace.
    nat_lt most_mounts (mount_count world namespace.number + how_many_in namespace.number parts * 1)) world.namespaces)
    (same_parts world is filesystem place)

-- a new mount of a plain filesystem
pub new_mounts_ask_for_room : NewMountsAskForRoom
new_mounts_ask_for_room world fresh task place flags is = mounted_asks_for_room world (odds fresh) place _ flags is

-- a mount of an overlay
pub overlays_ask_for_room : OverlaysAskForRoom
overlays_ask_for_room world fresh task place overlay flags is =
    mounted_asks_for_room world (odds fresh) place _ flags is

-- a bind
pub binds_ask_for_room : BindsAskForRoom
binds_ask_for_room world fresh task source place recursive = copies_ask_for_room world place
    (copies_from nat_eq fresh (parts_of nat_eq world place) (bind_tree nat_eq world source recursive))
    (bind_tree nat_eq world source recursive)

-- a move
pub moves_ask_for_room : MovesAskForRoom
moves_ask_for_room world fresh task mount place is there =
    λ i. list_any (λ namespace. nat_lt most_mounts (counted namespace.number i)) world.namespaces
  where
    tree : List (Mount ℕ)
    tree = tree_of world mount

    new : Copies ℕ
    new = copies_from nat_eq fresh (parts_of nat_eq world place) (tree_of world mount)

    within : (one : Mount ℕ) → Among one (tree_of world mount) → Among one world.mounts
    within one m = ⊎_elim (λ same. rw same (found_there world.mounts mount there)) (λ other. other)
        (tree_among _ world.mounts _ one m)

    counted : (namespace : ℕ) → mount_count (attached_by nat_eq world new place true (tree_of world mount)) namespace
        ≡ mount_count world namespace + how_many_in namespace (parts_of nat_eq world place) * length
        (tree_of world mount) - how_many_in namespace (tree_of world mount)
    counted namespace =
        let all = moved_all world place new _ is.mounts.one_number
        (trees_have_each_once world mount is.mounts.one_number is.mounts.standing) within namespace in
        omega (arith, all)
