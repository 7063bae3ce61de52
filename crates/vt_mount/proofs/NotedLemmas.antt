-- What is noted of a mount that moves.
use Rattle.std.proofs.Common.{◌≡◌, Bool, true, false, cond, ◌&&◌, List, [], ◌∷◌, ◌++◌, map, Option, None, Some, option_map, sym, ap, ◌∙◌, append-nil, option_to_list, ℕ}
use Rattle.vt_spec.proofs.Common.{Location as Place, and_true_left, and_true_right, eq_by_cmp, list_all, list_all-append, lookup, map-append}
use Rattle.vt_location.specs.Numbers.{same_id}
use Rattle.vt_location.specs.declared.locations.Location.{Location}
use Rattle.vt_location.specs.declared.numbers.MountId.{MountId}
use Rattle.vt_mount.specs.declared.mounted.Mounted.{Mounted}
use Rattle.vt_mount.specs.declared.moving.NewPoint.{NewPoint}
use Rattle.vt_mount.specs.declared.moving.Moved.{Moved}
use Rattle.vt_mount.specs.Indexed.{is_kept_small}
use Rattle.vt_mount.specs.Moving.{is_small_point, is_small, move_of, moves_by}
use Rattle.vt_mount.specs.MountsValue.{MountEntry, entries_of, entry_of, id_cmp, in_order}
use Rattle.vt_mount.proofs.EntryLemmas.{kept-entry}
use Rattle.vt_mount.proofs.OrderLemmas.{found, found-in_order}

abbrev pub entry_move : NewPoint → MountEntry → ℕ × Option (Place ℕ) × Location
entry_move point entry = (entry.mount.number, entry.mount.mount_point, point.place)

slot-found : (id : MountId) (x : Mounted) (kept : List (MountId × Mounted)) → found id kept ≡ Some x
    → list_all is_kept_small kept ≡ true → is_small_point x.mount_point ≡ true
slot-found id x [] there slots = absurd cc
slot-found id x (one ∷ kept) there slots =
    by (eq_by_cmp id_cmp id one.0) there (λ later. slot-found id x kept later (and_true_right _ _ slots))
  where
    by : (b : Bool) → cond b (Some one.1) (found id kept) ≡ Some x
        → (found id kept ≡ Some x → is_small_point x.mount_point ≡ true) → is_small_point x.mount_point ≡ true
    by true here rest =
        let held : one.1 ≡ x = cc in
        ap (λ (kept : Mounted). is_small_point kept.mount_point) (sym held) ∙ and_true_left _ _ slots
    by false here rest = rest here

module _ (moves new : List Moved) (point : NewPoint) (x : Mounted) (es : List (MountId × Mounted))
    (is : new ≡ moves ++ record { mount = point.mount; from = x.mount_point; to = point.place } ∷ [])
    (there : lookup (same_id point.mount) es ≡ Some x) where
  pub moves-noted : map move_of new ≡ map move_of moves ++ moves_by point (entries_of es)
  moves-noted = ap (map move_of) is
      ∙ map-append move_of moves (record { mount = point.mount; from = x.mount_point; to = point.place } ∷ [])
      ∙ ap (λ (found : Option MountEntry). map move_of moves ++ option_to_list (option_map (entry_move point) found))
      (sym (kept-entry point.mount es ∙ ap (option_map (λ one. entry_of (point.mount, one))) there))

  pub small-noted : list_all is_kept_small (in_order es) ≡ true → is_small_point (Some point.place) ≡ true
      → list_all is_small moves ≡ true → list_all is_small new ≡ true
  small-noted slots to small =
      let from = slot-found point.mount x (in_order es) (found-in_order point.mount es ∙ there) slots in
      ap (list_all is_small) is
      ∙ list_all-append is_small moves (record { mount = point.mount; from = x.mount_point; to = point.place } ∷ [])
      ∙ (λ i. small i && ((from i && to i) && true))

pub moves-absent : (moves : List Moved) (point : NewPoint) (es : List (MountId × Mounted))
    → lookup (same_id point.mount) es ≡ None → map move_of moves ≡ map move_of moves ++ moves_by point (entries_of es)
moves-absent moves point es none = sym (append-nil (map move_of moves))
    ∙ ap (λ (found : Option MountEntry). map move_of moves ++ option_to_list (option_map (entry_move point) found))
    (sym (kept-entry point.mount es ∙ ap (option_map (λ one. entry_of (point.mount, one))) none))
