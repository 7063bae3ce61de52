-- What an overlay shows depends on its layers, and on what it keeps beside them.
use Rattle.std.proofs.Common.{Some}
use Rattle.vt_layered.specs.LayeredTree.{layered_seen}
use Rattle.vt_layered.proofs.StayingKinds.{layered_stay}
use Rattle.vt_store.specs.Laws.{OverlaysStayWithLayers}
use Rattle.vt_store.specs.StoreValue.{overlay_filesystem}

pub overlays_stay_with_layers : OverlaysStayWithLayers
overlays_stay_with_layers old new entry are all =
    let stays = layered_stay old new entry.overlay entry.above all in
    λ i. record (overlay_filesystem old entry) {
      files = stays.files i;
      overlay = Some (record (layered_seen entry.overlay entry.above) { real = stays.objects i });
    }
