-- Filesystems of a part: their numbers, layers and cuts.
use Rattle.std.proofs.Common.{arith, ◌≡◌, refl, ⊎_elim, ℕ, nat_eq, true, false, List, Option, Some, None, filter}
use Rattle.vt_spec.proofs.Common.{Among, Filesystem, IsWorld, Layer, TaskName, World, among-from_filter_map, any_pair, common_steps, has_layer_on, is_among, lies_in_own_lower, list_any, own_lowers, part_of, part_of_filesystem, used_filesystems}
use Rattle.vt_laws_members.proofs.Common.{shown_how, shown_number}
use Rattle.vt_laws_members.proofs.changes.letting_go.LessSeen.{AreLess, has_lowers}
use Rattle.vt_laws_members.proofs.changes.letting_go.Ready.{IsCut, numbers_kept}
use Rattle.vt_laws_members.proofs.changes.letting_go.WorldReady.{plain_in, whole_cut}

module _ (world : World ℕ) (names : List TaskName) (is : IsWorld nat_eq world) where
  abbrev part : World ℕ
  part = part_of nat_eq world names

  abbrev shown : Filesystem ℕ → Option (Filesystem ℕ)
  shown = part_of_filesystem nat_eq world names

  shown_overlay : (x y : Filesystem ℕ) → shown x ≡ Some y → y.overlay ≡ x.overlay
  shown_overlay x y e = grind (arith, common_steps, shown_how)

  pub numbers_in_part : any_pair (λ (x y : Filesystem ℕ). nat_eq x.number y.number) part.filesystems ≡ false
  numbers_in_part = numbers_kept _ shown (shown_number world names) world.filesystems is.files.one_filesystem

  pub plain_in_part : (y merged : Filesystem ℕ) → Among y part.filesystems → Among merged part.filesystems
      → has_layer_on nat_eq y.number merged ≡ true → y.overlay ≡ None
  plain_in_part y merged m n has =
      grind (arith, common_steps, among-from_filter_map, shown_number, shown_overlay, plain_in)

  module _ (set : List TaskName) (next next_part : World ℕ) (less : AreLess world names set next next_part) where
    abbrev now : World ℕ
    now = record next { filesystems = world.filesystems }

    pub cut_in_part : (y : Filesystem ℕ) → Among y part.filesystems
        → is_among nat_eq y.number (used_filesystems nat_eq now set) ≡ false
        → list_any (λ (layer : Layer ℕ). nat_eq y.number layer.filesystem) (own_lowers nat_eq now set) ≡ true
        → IsCut y.number (own_lowers nat_eq now set) y.files
    cut_in_part y m unused low =
        let from = among-from_filter_map shown world.filesystems y m in
        ⊎_elim (λ whole. rw (← whole.0) (whole_cut world is (own_lowers nat_eq now set) from.0 from.1))
        (λ lower. rw (← lower.0) (record {
          whole = from.0.files;
          chosen = filter
              (lies_in_own_lower nat_eq world names from.0.number) from.0.files.numbers;
          has = has_lowers is less from.0
              from.1 lower.1 lower.2;
          same = refl;
        })) (shown_how world names from.0 y from.2)
