-- What lies in a lower layer stays in every call on files, and so do upper layers but for that of one overlay.
use Rattle.std.proofs.Common.{◌≡◌, ◌≢◌, refl, subst, ◌∙◌, ℕ, nat_eq, true, Some, None, inl, ⊎_elim, Contains}
use Rattle.vt_spec.proofs.Common.{Among, Call, Fresh, IsWorld, Layer, Overlay, Task, World, among-append_left, among-append_right, among_from_contains, any_from_among, call_outcome, filesystem_numbered, is_locked, layers_of, lies_or_counts_under, live_layers, task_called, upper_and_work}
use Rattle.vt_laws_trees.specs.Layers.Layers.Locked.{GoesThrough}
use Rattle.vt_laws_trees.specs.Layers.Layers.Untouched.{IsKept, changes_no_mount}
use Rattle.vt_laws_trees.specs.Layers.Layers.Upper.{IsUpperObject}
use Rattle.vt_laws_trees.proofs.layers.locked.Apart.{layer_among, layer_plain, no_lower, no_other, no_overlay_in, object_counts}
use Rattle.vt_laws_trees.proofs.layers.locked.Change.{IsChanged, IsNew, IsNotOf, Leaves, as_it_was, changed_in, changed_stays}
use Rattle.vt_laws_trees.proofs.layers.locked.EachCall.{granted_left}
use Rattle.vt_laws_trees.proofs.layers.layers.LowersCalls.{same_filesystem}
use Rattle.vt_laws_trees.proofs.layers.layers.LowersWorld.{changed_elsewhere, number_of_filesystem}
use Rattle.vt_laws_trees.specs.Trees.Settling.{inode_in}
use Rattle.vt_laws_rules.proofs.given.CallsGranted.{call_holds}

module _ (fresh : Fresh ℕ) (world : World ℕ) (task : Task ℕ) (conditions : IsWorld nat_eq world)
    (called : task_called world task.name ≡ Some task) where
  call_left : (call : Call) → changes_no_mount call ≡ true
      → Leaves world fresh (call_outcome nat_eq fresh world task call).world
  call_left call c = call_holds (Leaves world fresh) fresh world task call (inl refl) (λ permit granted.
      granted_left fresh world task conditions called call permit c granted)

  -- what lies in a layer of an overlay is locked, and stays where it is no upper object of the overlay that is changed
  module _ (call : Call) (c : changes_no_mount call ≡ true) (number : ℕ) (overlay : Overlay ℕ)
      (is : (filesystem_numbered nat_eq world number).overlay ≡ Some overlay) (layer : Layer ℕ)
      (m : Among layer (layers_of overlay)) (inode : ℕ)
      (lies : lies_or_counts_under nat_eq world layer.filesystem inode layer ≡ true)
      (new : IsNew world fresh inode) where
    abbrev later : World ℕ
    later = (call_outcome nat_eq fresh world task call).world

    locked : is_locked nat_eq world layer.filesystem inode ≡ true
    locked = any_from_among _ (live_layers world) layer (layer_among world layers_of number overlay is layer m) lies

    plain : (filesystem_numbered nat_eq world layer.filesystem).overlay ≡ None
    plain = no_overlay_in world conditions layer (layer_plain world conditions number overlay is layer m)

    same_stays : later.filesystems ≡ world.filesystems
        → IsKept (inode_in world layer.filesystem inode) (inode_in later layer.filesystem inode)
    same_stays e = as_it_was world fresh conditions layer.filesystem inode locked new plain later e

    layer_stays : (change : IsChanged world fresh later.filesystems)
        → IsNotOf world fresh conditions layer.filesystem inode locked new plain change.mounted
        → IsKept (inode_in world layer.filesystem inode) (inode_in later layer.filesystem inode)
    layer_stays change not_of = changed_stays world fresh conditions _ inode locked new plain later change not_of

pub lower_layers_stay_locked : (fresh : Fresh ℕ) (world : World ℕ) (task : Task ℕ) (call : Call) (number : ℕ)
    (overlay : Overlay ℕ) (lower : Layer ℕ) (inode : ℕ)
    → IsWorld nat_eq world → task_called world task.name ≡ Some task → changes_no_mount call ≡ true
    → (filesystem_numbered nat_eq world number).overlay ≡ Some overlay → Contains overlay.lowers lower
    → lies_or_counts_under nat_eq world lower.filesystem inode lower ≡ true → ((k : ℕ) → inode ≢ fresh k)
    → IsKept (inode_in world lower.filesystem inode)
    (inode_in (call_outcome nat_eq fresh world task call).world lower.filesystem inode)
lower_layers_stay_locked fresh world task call number overlay lower inode conditions called c is contains lies new =
    let m : Among lower overlay.lowers = among_from_contains overlay.lowers lower contains in
    let in_layers : Among lower (layers_of overlay) = among-append_right _ overlay.lowers lower m in
    ⊎_elim
    (λ e. same_stays fresh world task conditions called call c number overlay is lower in_layers inode lies new e)
    (λ change.
    layer_stays fresh world task conditions called call c number overlay is lower in_layers inode lies new change
    (λ other upper i has at object.
    no_lower world conditions change.mounted other i upper has inode object lower
    (layer_among world (λ o. o.lowers) number overlay is lower m)
    (subst (λ n. lies_or_counts_under nat_eq world n inode lower ≡ true) at lies)))
    (call_left fresh world task conditions called call c)

in_all_layers : (overlay : Overlay ℕ) (layer : Layer ℕ) → Among layer (upper_and_work overlay)
    → Among layer (layers_of overlay)
in_all_layers overlay layer m = among-append_left (upper_and_work overlay) overlay.lowers layer m

pub calls_go_through_one : (fresh : Fresh ℕ) (world : World ℕ) (task : Task ℕ) (call : Call)
    → IsWorld nat_eq world → task_called world task.name ≡ Some task → changes_no_mount call ≡ true
    → (through : ℕ) × GoesThrough fresh world (call_outcome nat_eq fresh world task call).world through
calls_go_through_one fresh world task call conditions called c = ⊎_elim (λ e. (
  0,
  record {
    elsewhere = λ number differ upper. same_filesystem world later number e;
    others = λ number overlay layer inode differ is m lies new. same_stays fresh world task conditions called
        call c number overlay is layer (in_all_layers overlay layer (among_from_contains _ layer m)) inode lies new e;
  },
)) (λ change. (
  change.mounted,
  record {
    elsewhere = λ number differ upper.
        same_filesystem (changed_in change.supply world change.mounted change.change) later number change.so
        ∙ changed_elsewhere change.supply world (filesystem_numbered nat_eq world change.mounted) change.change number
        (λ e. differ (e ∙ number_of_filesystem world change.mounted)) upper;
    others = λ number overlay layer inode differ is m lies new.
        layer_stays fresh world task conditions called call c number overlay is layer
        (in_all_layers overlay layer (among_from_contains (upper_and_work overlay) layer m)) inode lies new change
        (λ other upper i has at object.
        no_other world conditions change.mounted other i upper has inode object number differ overlay is layer
        (among_from_contains (upper_and_work overlay) layer m)
        (subst (λ n. lies_or_counts_under nat_eq world n inode layer ≡ true) at lies));
  },
)) (call_left fresh world task conditions called call c)
  where
    later : World ℕ
    later = (call_outcome nat_eq fresh world task call).world

pub upper_objects_count : (world : World ℕ) (number : ℕ) (overlay : Overlay ℕ) (upper : Layer ℕ) (object : ℕ)
    → IsWorld nat_eq world → (filesystem_numbered nat_eq world number).overlay ≡ Some overlay
    → overlay.upper ≡ Some upper
    → IsUpperObject overlay object → lies_or_counts_under nat_eq world upper.filesystem object upper ≡ true
upper_objects_count world number overlay upper object conditions is has is_object =
    object_counts world conditions number overlay is upper has object is_object
