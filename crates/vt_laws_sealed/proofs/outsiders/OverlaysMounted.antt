-- Overlays that others mount over their own layers: mount(2) of an overlay.
use Rattle.std.proofs.Common.{arith, ◌≡◌, refl, sym, ap, subst, ◌∙◌, inl, inr, ⊎_elim, ℕ, nat_eq, false, true≢false, List, [], ◌∷◌, ◌++◌, ◌*◌, ◌+◌, Option, Some, None, Result, Ok, Err, map, eqb-true, eq-eqb, option_map, option_to_list}
use Rattle.vt_spec.proofs.Common.{Among, Call, Filesystem, Fresh, Gives, Here, Layer, LayerLocations, Location, Mount, MountFlags, Overlay, OverlayWords, Permit, Stop, Task, TaskName, ToMountOverlay, World, among-append, among-append_left, among-append_right, among-from_map, and_parts, any_from_among, apply, common_steps, each_walked, evens, false_from_ne_true, given, has_layer_on, judge_in, layer_at, layer_locations, layers_of, layers_walked, looks_of, mount_at, new_mount, no_outsider_on, none_from_among, not-true, odds, overfills, overlay_at, overlay_filesystem, settled, source_walk, walk_end, walked_if_given, work_walked}
use Rattle.vt_laws_sealed.proofs.Common.{Ends, IsGranted, IsGround, calls_are_granted, mounts_overlayfs, name_found, permits_are_for_their_calls, searched_ground, sets_type, source_ways_are_searched, takes_uses}
use Rattle.vt_laws_sealed.proofs.outsiders.OthersCalls.{IsOthersCall, apart_from}
use Rattle.vt_laws_trees.proofs.layers.mounting.Walked.{gives_end, gives_then}
use Rattle.vt_laws_worlds.proofs.worlds.FitPermits.{own_if}
use Rattle.vt_laws_sealed.proofs.outsiders.Attaching.{AttachesApart, attaching_leaves_apart}
use Rattle.vt_laws_sealed.proofs.outsiders.Entering.{ground_outside, task_there}
use Rattle.vt_laws_sealed.proofs.outsiders.Filesystems.{larger_sees, larger_with_overlay}
use Rattle.vt_laws_sealed.proofs.outsiders.OtherMounts.{namespace_outside}
use Rattle.vt_laws_sealed.proofs.outsiders.OwnTasks.{IsOutside, caller_outside, nothing_is_swept}
use Rattle.vt_laws_sealed.proofs.outsiders.Staying.{LeavesApart}

-- where one of the others may be, others have a foothold
pub outside_uses : (world : World ℕ) (names : List TaskName) (location : Location ℕ) → IsOutside world names location
    → no_outsider_on nat_eq world names (mount_at nat_eq world location).filesystem ≡ false
outside_uses world names location outside =
    grind (arith, common_steps, false_from_ne_true, and_parts, true≢false, any_from_among, eq-eqb, not-true)

module _ {world : World ℕ} {fresh : Fresh ℕ} {names : List TaskName} {name : TaskName} {call : Call}
    {task : Task ℕ} (outsider : IsOthersCall world fresh names name call task) where
  abbrev OnGround : Location ℕ → Type 0
  OnGround location = IsGround world outsider.is task (task_there outsider)
      location.mount

  abbrev AreOnGround : List (Location ℕ) → Type 0
  AreOnGround places = (place : Location ℕ) → Among place places → OnGround place

  source_ground : (path : List ℕ)
      → Ends (λ (here : Here ℕ). OnGround here.location) (source_walk nat_eq (looks_of nat_eq world) task path)
  source_ground path = by (source_walk nat_eq (looks_of nat_eq world) task path) refl
    where
      by : (r : Result (Here ℕ) (Stop ℕ)) → source_walk nat_eq (looks_of nat_eq world) task path ≡ r → Ends
          (λ (here : Here ℕ). OnGround here.location) r
      by (Ok here) e =
          searched_ground world outsider.is task (task_there outsider) path here.location
          (source_ways_are_searched world task path here e)
      by (Err stop) e = tt

  each_ground : (paths : List (List ℕ)) → Gives AreOnGround (each_walked nat_eq (looks_of nat_eq world) task paths)
  each_ground [] = λ place m. absurd m
  each_ground (path ∷ paths) = gives_then (λ (here : Here ℕ). OnGround here.location) AreOnGround
      (walk_end (source_walk nat_eq (looks_of nat_eq world) task path)) _
      (gives_end _ (source_walk nat_eq (looks_of nat_eq world) task path) (source_ground path)) (λ here ground.
      gives_then AreOnGround AreOnGround (each_walked nat_eq (looks_of nat_eq world) task paths) _ (each_ground paths)
      (λ rest are place m. ⊎_elim (λ e. subst OnGround (sym e) ground) (are place) m))

  given_ground : (path : Option (List ℕ))
      → Gives (λ place. AreOnGround (option_to_list place)) (walked_if_given nat_eq (looks_of nat_eq world) task path)
  given_ground path = search (arith, common_steps, gives_then, gives_end, source_ground)

  layers_ground : (words : OverlayWords)
      → Gives (λ places. AreOnGround (layer_locations places)) (layers_walked nat_eq (looks_of nat_eq world) task words)
  layers_ground words = gives_then AreOnGround (λ places. AreOnGround (layer_locations places))
      (each_walked nat_eq (looks_of nat_eq world) task words.lowers) _ (each_ground words.lowers) (λ lowers low.
      gives_then (λ place. AreOnGround (option_to_list place)) (λ places. AreOnGround (layer_locations places))
      (walked_if_given nat_eq (looks_of nat_eq world) task words.upper) _ (given_ground words.upper) (λ upper up.
      gives_then (λ place. AreOnGround (option_to_list place)) (λ places. AreOnGround (layer_locations places))
      (walked_if_given nat_eq (looks_of nat_eq world) task (work_walked words)) _ (given_ground (work_walked words))
      (λ work at place m. ⊎_elim
      (λ two. ⊎_elim (low place) (up place) (among-append lowers (option_to_list upper) place two)) (at place)
      (among-append (lowers ++ option_to_list upper) (option_to_list work) place m))))

  -- a layer is a directory at one of these places
  layer_from : (places : LayerLocations ℕ) (layer : Layer ℕ)
      → Among layer (layers_of (overlay_at (looks_of nat_eq world) task places))
      → (place : Location ℕ) × Among place (layer_locations places)
      × (layer.filesystem ≡ (mount_at nat_eq world place).filesystem)
  layer_from places layer m = ⊎_elim (λ two. ⊎_elim (λ upper. let at = given_from places.upper upper in (
    at.0,
    among-append_left (places.lowers ++ option_to_list places.upper) (option_to_list places.work) at.0
        (among-append_right places.lowers (option_to_list places.upper) at.0 at.1),
    at.2,
  )) (λ work. let at = given_from places.work work in (
    at.0,
    among-append_right (places.lowers ++ option_to_list places.upper) (option_to_list places.work) at.0 at.1,
    at.2,
  )) (among-append (option_to_list (option_map (layer_at (looks_of nat_eq world)) places.upper))
      (option_to_list (option_map (layer_at (looks_of nat_eq world)) places.work)) layer two))
      (λ lower. let at = among-from_map (layer_at (looks_of nat_eq world)) places.lowers layer lower in (
        at.0,
        among-append_left (places.lowers ++ option_to_list places.upper) (option_to_list places.work) at.0
            (among-append_left places.lowers (option_to_list places.upper) at.0 at.1),
        ap (λ (l : Layer ℕ). l.filesystem) at.2,
      )) (among-append (option_to_list (option_map (layer_at (looks_of nat_eq world)) places.upper)
      ++ option_to_list (option_map (layer_at (looks_of nat_eq world)) places.work))
      (map (layer_at (looks_of nat_eq world)) places.lowers) layer m)
    where
      given_from : (o : Option (Location ℕ))
          → Among layer (option_to_list (option_map (layer_at (looks_of nat_eq world)) o))
          → (place : Location ℕ) × Among place (option_to_list o)
          × (layer.filesystem ≡ (mount_at nat_eq world place).filesystem)
      given_from None n = absurd n
      given_from (Some place) n =
          ⊎_elim (λ e. (place, inl refl, ap (λ (l : Layer ℕ). l.filesystem) e)) (λ none. absurd none) n

  -- So others have a foothold where a layer is, and the overlay is mounted on a mount of their namespace.
  abbrev IsOfOthers : Location ℕ → Overlay ℕ → Type 0
  IsOfOthers place overlay = ((mount_at nat_eq world place).namespace ≡ Some task.namespace)
      × ((layer : Layer ℕ) → Among layer (layers_of overlay)
      → no_outsider_on nat_eq world names layer.filesystem ≡ false)

  granted_of_others : (asked : Call) (permit : Permit ℕ)
      → IsGranted nat_eq (looks_of nat_eq world) (overfills nat_eq fresh world task) task asked permit
      → (place : Location ℕ) (overlay : Overlay ℕ) (flags : MountFlags) → permit ≡ ToMountOverlay place overlay flags
      → IsOfOthers place overlay
  granted_of_others asked permit (mounts_overlayfs path words wanted here places admin end walked layered passed)
      place overlay flags e =
      let same_place : here.location ≡ place = cc in
      let same_overlay : overlay_at (looks_of nat_eq world) task places ≡ overlay = cc in (
        subst (λ (l : Location ℕ). (mount_at nat_eq world l).namespace ≡ Some task.namespace) same_place
            (own_if world outsider.is task
            (cc (name_found world name task outsider.called, outsider.called)) here.location
            passed.0),
        subst (λ (o : Overlay ℕ). (layer : Layer ℕ) → Among layer (layers_of o)
            → no_outsider_on nat_eq world names layer.filesystem ≡ false) same_overlay (λ layer m.
            let from = layer_from places layer m in
            ap (no_outsider_on nat_eq world names) from.2 ∙ outside_uses world names from.0
            (ground_outside outsider from.0 (given (λ there. AreOnGround (layer_locations there))
            (layers_walked nat_eq (looks_of nat_eq world) task words)
            places (layers_ground words) walked from.0 from.1))),
      )
  granted_of_others asked permit granted place overlay flags e = absurd cc

  pub overlay_leaves : (place : Location ℕ) (overlay : Overlay ℕ) (flags : MountFlags)
      → judge_in nat_eq fresh world task call ≡ Ok (ToMountOverlay place overlay flags)
      → LeavesApart world (settled nat_eq (apply nat_eq fresh world task (ToMountOverlay place overlay flags)).world)
      names []
  overlay_leaves place overlay flags judged =
      let set_apart = apart_from outsider.it in
      let for = permits_are_for_their_calls fresh world task call (ToMountOverlay place overlay flags) judged in
      let others = granted_of_others call (ToMountOverlay place overlay flags)
      (calls_are_granted nat_eq (looks_of nat_eq world) (overfills nat_eq fresh world task) task call
      (ToMountOverlay place overlay flags) judged) place overlay flags refl in
      let added : Filesystem ℕ = overlay_filesystem nat_eq (evens fresh) world overlay in
      let attaches : AttachesApart world names fresh = record {
        attaching = record {
          apart = set_apart;
          serves = outsider.serves;
          filesystems = world.filesystems ++ added ∷ [];
          supply = odds fresh;
          supplied = λ k. (2 * k + 1, refl);
          place = place;
          mounts = new_mount added.number added.files.tree.root flags ∷ [];
          origins = λ origin m. ⊎_elim
              (λ e. inr (ap (λ (x : Mount ℕ). x.propagation) e, 0, ap (λ (x : Mount ℕ). x.filesystem) e))
              (λ none. absurd none) m;
          moves = false;
        };
        sees_base = larger_sees set_apart fresh outsider.serves added 0 refl;
        more = added ∷ [];
        grown = larger_with_overlay set_apart fresh outsider.serves added 0 refl refl;
        none_there = λ merged m number free. ⊎_elim (λ e. ap (has_layer_on nat_eq number) e ∙ none_from_among
            (λ (layer : Layer ℕ). nat_eq number layer.filesystem) (layers_of overlay)
            (λ layer n. false_from_ne_true (nat_eq number layer.filesystem) (λ at. true≢false (sym free
            ∙ ap (no_outsider_on nat_eq world names) (eqb-true number layer.filesystem at) ∙ others.1 layer n))))
            (λ none. absurd none) m;
        namespace = task.namespace;
        outside = namespace_outside world names set_apart task (caller_outside outsider);
        placed = others.0;
        in_place = λ moving. absurd cc;
      } in
      subst (λ w. LeavesApart world w names []) (sym (nothing_is_swept outsider (ToMountOverlay place overlay flags)
      judged (ap takes_uses for.2) (ap sets_type for.2) refl))
      (attaching_leaves_apart attaches)
