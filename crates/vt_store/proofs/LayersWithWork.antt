-- The layers of an overlay, and its work directory behind them.
use Rattle.std.proofs.Common.{◌≡◌, ◌∙◌, ◌++◌, ◌∷◌, [], ap, arith, get_or, length, List, None, option_map, Option, refl, Some, subst, suc, sym, take, ℕ}
use Rattle.vt_spec.proofs.Common.{all_from_among, among-append_left, among_from_all, folded, folded-snoc, none_is_some, same_Some}
use Rattle.vt_fs.specs.FilesystemsValue.{Shown}
use Rattle.vt_overlay.specs.declared.merge.layers.LayerRef.{LayerRef}
use Rattle.vt_layered.specs.LayeredValue.{Above, LayeredValue, held_layers}
use Rattle.vt_store.specs.LayersHeld.{HasRoomFor, HaveRoomFor, with_layers}
use Rattle.vt_store.proofs.LayersCounted.{room_at}

take_front : (xs ys : List LayerRef) → take (length xs) (xs ++ ys) ≡ xs
take_front [] ys = refl
take_front (x ∷ xs) ys = ap (λ l. x ∷ l) (take_front xs ys)

get_behind : (xs : List LayerRef) (y default : LayerRef) → get_or (xs ++ y ∷ []) (length xs) default ≡ y
get_behind [] y default = refl
get_behind (x ∷ xs) y default = get_behind xs y default

longer : (xs : List LayerRef) (y : LayerRef) → length (xs ++ y ∷ []) ≡ suc (length xs)
longer [] y = refl
longer (x ∷ xs) y = ap suc (longer xs y)

-- the work directory of an overlay
abbrev pub work_of : LayeredValue → Option LayerRef
work_of layered = option_map (λ (above : Above). above.work) layered.above

module _ (layered : LayeredValue) where
  abbrev lowers : List LayerRef
  lowers = layered.overlay.lowers

  abbrev pub held : List LayerRef
  held = held_layers layered.overlay layered.above

  pub held_alone : work_of layered ≡ None → held ≡ layered.overlay.lowers
  held_alone none = by layered.above none
    where
      by : (above : Option Above) → option_map (λ (one : Above). one.work) above ≡ None
          → held_layers layered.overlay above ≡ layered.overlay.lowers
      by None e = refl
      by (Some above) e = none_is_some above.work (sym e)

  pub held_with : (work : LayerRef) → work_of layered ≡ Some work → held ≡ layered.overlay.lowers ++ work ∷ []
  held_with work some = by layered.above some
    where
      by : (above : Option Above) → option_map (λ (one : Above). one.work) above ≡ Some work
          → held_layers layered.overlay above ≡ layered.overlay.lowers ++ work ∷ []
      by None e = none_is_some work e
      by (Some above) e = ap (λ w. layered.overlay.lowers ++ w ∷ []) (same_Some above.work work e)

  -- a fold over them
  pub folded_alone : (add : List Shown → LayerRef → List Shown) (all new : List Shown) → work_of layered ≡ None
      → new ≡ folded add all lowers → new ≡ folded add all held
  folded_alone add all new none is = is ∙ ap (folded add all) (sym (held_alone none))

  pub folded_with : (add : List Shown → LayerRef → List Shown) (all mid new : List Shown) (work : LayerRef)
      → work_of layered ≡ Some work → mid ≡ folded add all lowers → new ≡ add mid work → new ≡ folded add all held
  folded_with add all mid new work some so_far is = is ∙ ap (λ one. add one work) so_far
      ∙ sym (folded-snoc add all lowers work) ∙ ap (folded add all) (sym (held_with work some))

  -- room for all of them is room for the layers,
  pub room_first : (all : List Shown) → HaveRoomFor (length held) all held → HaveRoomFor (length lowers) all lowers
  room_first all room = by layered.above room
    where
      fewer : (one : LayerRef) → (n : ℕ) → n ≡ suc (length lowers) → HasRoomFor n all one
          → HasRoomFor (length lowers) all one
      fewer one n same has = record { uses = omega (arith, same, has.uses); mounts = omega (arith, same, has.mounts) }

      by : (above : Option Above)
          → HaveRoomFor (length (held_layers layered.overlay above)) all (held_layers layered.overlay above)
          → HaveRoomFor (length lowers) all lowers
      by None room = room
      by (Some above) room = all_from_among (HasRoomFor (length lowers) all) lowers (λ one m.
          fewer one (length (lowers ++ above.work ∷ [])) (longer lowers above.work)
          (among_from_all (HasRoomFor (length (lowers ++ above.work ∷ [])) all) (lowers ++ above.work ∷ []) room one
          (among-append_left lowers (above.work ∷ []) one m)))

  -- and then for the work directory
  pub room_last : (all mid : List Shown) (work : LayerRef) → work_of layered ≡ Some work
      → HaveRoomFor (length held) all held → mid ≡ with_layers lowers all → HasRoomFor 1 mid work
  room_last all mid work some room counted =
      subst (HasRoomFor 1 mid) (get_behind lowers work work)
      (room_at (lowers ++ work ∷ []) all mid (length lowers) work
      (let more = longer lowers work in omega (arith, more))
      (subst (λ (layers : List LayerRef). HaveRoomFor (length layers) all layers) (held_with work some) room)
      (counted ∙ ap (λ layers. with_layers layers all) (sym (take_front lowers (work ∷ [])))))
