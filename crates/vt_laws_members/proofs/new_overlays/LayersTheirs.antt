-- The layers of an overlay that a task of a sealed set mounts lie in filesystems that the set uses.
use Rattle.std.proofs.Common.{◌≡◌, refl, subst, inl, ⊎_elim, ℕ, nat_eq, true, List, [], ◌∷◌, ◌++◌, Option, Some, None, Ok, Err, Result, IfOk, option_map, option_to_list}
use Rattle.vt_spec.proofs.Common.{Among, Fresh, Here, Layer, LayerLocations, Location, MountFlags, MountOverlay, Overlay, OverlayWords, Permit, Stop, Task, TaskName, ToMountOverlay, World, among-append, among-append_left, among-append_right, among-from_map, and_then, each_walked, is_among, layer_at, layer_locations, layers_of, layers_walked, looks_of, members, mount_at, overfills, overlay_at, shown_layers, source_walk, used_directly, used_filesystems, walk_end, walked_if_given, work_walked}
use Rattle.vt_laws_members.proofs.Common.{AreLayers, Deny, Each, IsGranted, is_own, mounts_overlayfs, used_directly_used}
use Rattle.vt_laws_members.proofs.judging.Common.{IsMember, owned, theirs_directly, theirs_from}
use Rattle.vt_laws_trees.proofs.layers.mounting.Walked.{are_walked, has_layers, shown_plain}
use Rattle.vt_laws_members.specs.Judging.{is_theirs}
use Rattle.vt_laws_members.proofs.changes.Common.{StandsHere}
use Rattle.vt_laws_members.proofs.attached.Destination.{at_destination, at_source}

-- what a result gives, if it is none of a refusal
then_ok : {A B : Type 0} (Q : A → Type 0) (R : B → Type 0) (r : Result A Deny) (next : A → Result B Deny) → IfOk r Q
    → ((a : A) → Q a → IfOk (next a) R) → IfOk (and_then r next) R
then_ok Q R (Ok a) next q h = h a q
then_ok Q R (Err deny) next q h = tt

end_ok : {A : Type 0} (Q : A → Type 0) (r : Result A (Stop ℕ)) → IfOk r Q → IfOk (walk_end r) Q
end_ok Q (Ok a) q = q
end_ok Q (Err stop) q = tt

module _ {world : World ℕ} {names : List TaskName} {task : Task ℕ} (member : IsMember world names task) where
  abbrev At : Location ℕ → Type 0
  At l = is_theirs world names l.mount ≡ true

  abbrev AreAt : LayerLocations ℕ → Type 0
  AreAt places = Each At (layer_locations places)

  abbrev StandsThere : Here ℕ → Type 0
  StandsThere = StandsHere member

  -- Walks of the layers
  each_at : (paths : List (List ℕ)) → IfOk (each_walked nat_eq (looks_of nat_eq world) task paths) (Each At)
  each_at [] = λ l m. absurd m
  each_at (path ∷ paths) = then_ok StandsThere (Each At) (walk_end (source_walk nat_eq (looks_of nat_eq world) task
      path)) _ (end_ok StandsThere (source_walk nat_eq (looks_of nat_eq world) task path) (at_source member path))
      (λ here on. then_ok (Each At) (Each At) (each_walked nat_eq (looks_of nat_eq world) task paths) _ (each_at paths)
      (λ rest all l m. ⊎_elim (λ same. rw same on) (λ later. all l later) m))

  given_at : (path : Option (List ℕ))
      → IfOk (walked_if_given nat_eq (looks_of nat_eq world) task path) (λ place. Each At (option_to_list place))
  given_at None = λ l m. absurd m
  given_at (Some path) = then_ok StandsThere _ _ _ (end_ok StandsThere (source_walk nat_eq (looks_of nat_eq world) task
      path) (at_source member path)) (λ here on l m. ⊎_elim (λ same. rw same on) (λ none. absurd none) m)

  layers_at : (words : OverlayWords) → IfOk (layers_walked nat_eq (looks_of nat_eq world) task words) AreAt
  layers_at words =
      then_ok (Each At) AreAt (each_walked nat_eq (looks_of nat_eq world) task words.lowers) _ (each_at words.lowers)
      (λ lowers below.
      then_ok (λ place. Each At (option_to_list place)) AreAt
      (walked_if_given nat_eq (looks_of nat_eq world) task words.upper) _ (given_at words.upper) (λ upper above.
      then_ok (λ place. Each At (option_to_list place)) AreAt
      (walked_if_given nat_eq (looks_of nat_eq world) task (work_walked words)) _ (given_at (work_walked words))
      (λ work beside l m.
      ⊎_elim (λ some. ⊎_elim (below l) (above l) (among-append lowers (option_to_list upper) l some)) (beside l)
      (among-append (lowers ++ option_to_list upper) (option_to_list work) l m))))

  -- Layers at these places
  module _ (places : LayerLocations ℕ) (all : AreAt places) where
    abbrev overlay : Overlay ℕ
    overlay = overlay_at (looks_of nat_eq world) task places

    abbrev layer_there : Location ℕ → Layer ℕ
    layer_there = layer_at (looks_of nat_eq world)

    abbrev IsUsed : Layer ℕ → Type 0
    IsUsed layer = Among layer.filesystem (used_directly nat_eq world names)

    used_at : (l : Location ℕ) → At l → IsUsed (layer_there l)
    used_at l on = theirs_directly world names member.is l (theirs_from world names member.is.mounts l.mount on)

    given_used : (o : Option (Location ℕ)) → Each At (option_to_list o)
        → Each IsUsed (option_to_list (option_map layer_there o))
    given_used None at layer m = absurd m
    given_used (Some l) at layer m = ⊎_elim (λ same. rw same (used_at l (at l (inl refl)))) (λ none. absurd none) m

    lowers_used : Each IsUsed overlay.lowers
    lowers_used layer m =
        let from = among-from_map layer_there places.lowers layer m in
        rw from.2 (used_at from.0 (all from.0 (among-append_left (places.lowers ++ option_to_list places.upper)
        (option_to_list places.work) from.0 (among-append_left places.lowers (option_to_list places.upper) from.0
        from.1))))

    upper_used : Each IsUsed (option_to_list overlay.upper)
    upper_used = given_used places.upper (λ l m. all l (among-append_left _ (option_to_list places.work) l
        (among-append_right places.lowers (option_to_list places.upper) l m)))

    work_used : Each IsUsed (option_to_list overlay.work)
    work_used = given_used places.work (λ l m. all l
        (among-append_right (places.lowers ++ option_to_list places.upper) (option_to_list places.work) l m))

    pub all_used : Each IsUsed (layers_of overlay)
    all_used layer m = ⊎_elim (λ written. ⊎_elim (upper_used layer) (work_used layer)
        (among-append (option_to_list overlay.upper) (option_to_list overlay.work) layer written)) (lowers_used layer)
        (among-append (option_to_list overlay.upper ++ option_to_list overlay.work) overlay.lowers layer m)

    pub shown_used : (layer : Layer ℕ) → Among layer (shown_layers overlay)
        → is_among nat_eq layer.filesystem (used_filesystems nat_eq world names) ≡ true
    shown_used layer m = used_directly_used world names layer.filesystem (⊎_elim (upper_used layer) (lowers_used layer)
        (among-append (option_to_list overlay.upper) overlay.lowers layer m))

  -- What a granted mount of an overlay attaches
  pub record MountsOverlay (flags : MountFlags) (permit : Permit ℕ) : Type 0 where
    pub here : Location ℕ
    pub places : LayerLocations ℕ
    pub is_so : permit ≡ ToMountOverlay here (overlay_at (looks_of nat_eq world) task places) flags
    pub on : At here
    pub own : is_own world names (members world names) (mount_at nat_eq world here) ≡ true
    pub all : AreAt places
    pub are_layers : AreLayers world (overlay_at (looks_of nat_eq world) task places)

  pub mounts_overlay : (fresh : Fresh ℕ) (path : List ℕ) (options : Option OverlayWords) (flags : MountFlags)
      (permit : Permit ℕ) → IsGranted nat_eq (looks_of nat_eq world) (overfills nat_eq fresh world task) task
      (MountOverlay path options flags) permit → MountsOverlay flags permit
  mounts_overlay fresh path options flags permit
      (mounts_overlayfs _ words _ here places admin end walked layered passed) =
      let are = are_walked world task words places walked in record {
        here = here.location;
        places = places;
        is_so = refl;
        on = subst (λ r. IfOk r StandsThere) end (at_destination member path);
        own = owned member here.location passed.0;
        all = subst (λ r. IfOk r AreAt) walked (layers_at words);
        are_layers = (has_layers world task places are layered, shown_plain world task places are layered);
      }
