-- A granted call leaves each layer of every overlay but that which it changes.
use Rattle.std.proofs.Common.{◌≡◌, ◌≢◌, sym, ap, ◌∙◌, true≢false, ℕ, nat_eq, true, Some, is_some, ⊎_elim}
use Rattle.vt_spec.proofs.Common.{Among, IsWorld, Layer, Overlay, World, among-append, among_from_contains, contains_from_among, filesystem_numbered, layers_of, lies_or_counts_under, upper_and_work}
use Rattle.vt_laws_rules.proofs.given.GivenPermits.{permits_are_for_their_calls}
use Rattle.vt_laws_trees.specs.Layers.Layers.Untouched.{IsKept}
use Rattle.vt_laws_trees.proofs.layers.locked.Apart.{layer_plain}
use Rattle.vt_laws_trees.proofs.layers.locked.EveryCall.{lower_layers_stay_locked}
use Rattle.vt_laws_trees.proofs.layers.locked.Paths.{leads_as_before, no_new}
use Rattle.vt_laws_worlds.proofs.worlds.SeenTrees.{unused_inode}
use Rattle.vt_laws_worlds.specs.OverlayPermits.Through.{CallsLeaveOtherLayers, LayerStays, PlainCallsLeaveLayers}
use Rattle.vt_laws_worlds.proofs.overlay_permits.through.CallsThrough.{calls_go_through_their_location}
use Rattle.vt_laws_worlds.proofs.overlay_permits.worlds.LowersAfterCalls.{on_files}
use Rattle.vt_laws_trees.specs.Trees.Settling.{inode_in}

-- Where each inode is kept that is there and lies or counts under a layer, the layer stays
module _ {world : World ℕ} (is : IsWorld nat_eq world) (number : ℕ) (overlay : Overlay ℕ)
    (was : (filesystem_numbered nat_eq world number).overlay ≡ Some overlay) (layer : Layer ℕ)
    (m : Among layer (layers_of overlay)) (later : World ℕ) where
  layer_stays : ((inode : ℕ) → lies_or_counts_under nat_eq world layer.filesystem inode layer ≡ true
      → is_some (inode_in world layer.filesystem inode) ≡ true
      → IsKept (inode_in world layer.filesystem inode) (inode_in later layer.filesystem inode))
      → LayerStays world later layer
  layer_stays kept = record {
    paths = leads_as_before world is layer (layer_plain world is number overlay was layer m) later kept;
    inodes = kept;
  }

pub calls_leave_other_layers : CallsLeaveOtherLayers
calls_leave_other_layers world fresh task call permit location change number overlay layer is serves called granted asks
    differ was contains =
    let m : Among layer (layers_of overlay) = among_from_contains _ layer contains in
    layer_stays is number _ was layer m _ (λ inode lies there.
    let new : (k : ℕ) → inode ≢ fresh k = no_new fresh world _ inode
    (λ k. unused_inode world fresh serves is.files.numbers k layer.filesystem) there in
    ⊎_elim (λ (up : Among layer (upper_and_work overlay)). (calls_go_through_their_location world fresh task call permit
    location change is serves called granted asks).others number overlay layer inode differ was
    (contains_from_among _ layer up) lies new) (λ (low : Among layer overlay.lowers). lower_layers_stay_locked fresh
    world task call number _ layer inode is called (on_files fresh world task call permit _
    (permits_are_for_their_calls fresh world task call permit granted) asks) was (contains_from_among _ layer low) lies
    new) (among-append (upper_and_work overlay) overlay.lowers layer m))

pub plain_calls_leave_layers : PlainCallsLeaveLayers
plain_calls_leave_layers world fresh task call permit location change number overlay layer is serves called granted asks
    plain was =
    calls_leave_other_layers world fresh task call permit location change number overlay layer is serves called granted
    asks (λ same.
    true≢false (sym (ap is_some was) ∙ ap (λ n. is_some (filesystem_numbered nat_eq world n).overlay) same ∙ plain)) was
