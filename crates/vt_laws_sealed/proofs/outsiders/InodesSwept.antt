-- The sweep of inodes takes nothing that a sealed set sees.
use Rattle.std.proofs.Common.{arith, ◌≡◌, refl, sym, ap, ◌∙◌, inr, ℕ, nat_eq, Bool, true, false, List, [], None, option_map}
use Rattle.vt_spec.proofs.Common.{Among, FileTree, Filesystem, IsDirectory, Layer, TaskName, World, among-append_left, among-filter, among-flat_map, among-map, any_pair, common_steps, has_layer_on, is_among, is_among_numbers, is_overlay, layers_in, layers_of, list_any, located_in, named_in, number-only_used, of_overlay, only_used, only_used_by, own_lowers, real_among, sealed, used_filesystems, used_in, without_dead_in}
use Rattle.vt_laws_sealed.proofs.Common.{IsFileTree, OneNumberEach, named_is_used}
use Rattle.vt_laws_sealed.specs.Part.Parts.{SeesTheSame}
use Rattle.vt_laws_sealed.specs.Part.Seals.{IsApart}
use Rattle.vt_laws_sealed.proofs.outsiders.CutTrees.{lower_part_same}
use Rattle.vt_laws_sealed.proofs.outsiders.FilesystemsStepped.{filesystems_stepped}
use Rattle.vt_laws_sealed.proofs.outsiders.SeenLater.{lowered_by, used_later, used_was, lower_of}
use Rattle.vt_laws_sealed.proofs.outsiders.InodesUsed.{in_third, used_whole}

-- A filesystem of which inodes go keeps its layers if it is an overlay.

pub cut_overlay : (world : World ℕ) (chosen : Bool) (x : Filesystem ℕ)
    → is_overlay (only_used nat_eq world chosen x) ≡ is_overlay x
cut_overlay world chosen x = grind (arith, common_steps)

pub cut_layers : (number : ℕ) (world : World ℕ) (chosen : Bool) (x : Filesystem ℕ)
    → has_layer_on nat_eq number (only_used nat_eq world chosen x) ≡ has_layer_on nat_eq number x
cut_layers number world false x = refl
cut_layers number world true x = grind (arith, common_steps)

-- a plain tree, in which the layers that are there are directories
pub record IsLowerTree (lowers : List (Layer ℕ)) (x : Filesystem ℕ) : Type 0 where
  pub plain : x.overlay ≡ None
  pub files : IsFileTree x.files
  pub directories : (layer : Layer ℕ) → Among layer lowers → nat_eq x.number layer.filesystem ≡ true
      → IsDirectory x.files.tree layer.directory

-- Inodes: of the filesystems that are chosen those go that nothing uses.
module _ {world before : World ℕ} {names : List TaskName} (apart : IsApart world names)
    (sealed_off : sealed nat_eq world names ≡ true) (sees : SeesTheSame world before names)
    (one : OneNumberEach before) (chosen : Filesystem ℕ → Bool)
    (trees : (x : Filesystem ℕ) → Among x before.filesystems
    → list_any (λ (layer : Layer ℕ). nat_eq x.number layer.filesystem) (own_lowers nat_eq world names) ≡ true
    → IsLowerTree (own_lowers nat_eq world names) x)
    (one_filesystem : any_pair (λ (a b : Filesystem ℕ). nat_eq a.number b.number) before.filesystems ≡ false) where
  abbrev swept : World ℕ
  swept = without_dead_in nat_eq chosen before

  abbrev used : List ℕ
  used = used_filesystems nat_eq world names

  abbrev lowers : List (Layer ℕ)
  lowers = own_lowers nat_eq world names

  abbrev sweep : Filesystem ℕ → Filesystem ℕ
  sweep x = only_used nat_eq before (chosen x) x

  sweep_number : (x : Filesystem ℕ) → (sweep x).number ≡ x.number
  sweep_number x = number-only_used before (chosen x) x

  -- what they use stays whole
  used_is : (x : Filesystem ℕ) → Among x before.filesystems → is_among nat_eq x.number used ≡ true → sweep x ≡ x
  used_is x m is = search (arith, common_steps, used_whole, used_was)

  -- what the part has of a lower tree stays
  top_used : (x : Filesystem ℕ) (layer : Layer ℕ) → Among layer lowers → nat_eq x.number layer.filesystem ≡ true
      → is_among nat_eq layer.directory (used_in nat_eq before x) ≡ true
  top_used x layer m e =
      let of = lower_of world before names sees layer m in
      is_among_numbers (used_in nat_eq before x) layer.directory (inr (among-append_left _ _ layer.directory
      (in_third (named_in x.files) (located_in nat_eq before x.number) (layers_in nat_eq before x.number)
      layer.directory (among-map (λ (l : Layer ℕ). l.directory) _ layer
      (among-filter (λ (l : Layer ℕ). nat_eq x.number l.filesystem) _ layer (among-flat_map (of_overlay [] layers_of)
      before.filesystems of.0 layer (used_later world before names sees of.0 of.1 of.2) of.3) e)))))

  lower_same : (x : Filesystem ℕ) → Among x before.filesystems
      → list_any (λ (layer : Layer ℕ). nat_eq x.number layer.filesystem) lowers ≡ true
      → lowered_by used lowers (sweep x).files (sweep x) ≡ lowered_by used lowers x.files x
  lower_same x m lower =
      let it = trees x m lower in
      by_choice it.plain it.files (λ layer n e. (top_used x layer n e, it.directories layer n e)) (chosen x)
    where
      by_all : x.overlay ≡ None → IsFileTree x.files
          → ((layer : Layer ℕ) → Among layer lowers → nat_eq x.number layer.filesystem ≡ true
          → (is_among nat_eq layer.directory (used_in nat_eq before x) ≡ true)
          × IsDirectory x.files.tree layer.directory)
          → (b : Bool) → lowered_by used lowers (only_used_by nat_eq b (used_in nat_eq before x) x).files
          (only_used_by nat_eq b (used_in nat_eq before x) x) ≡ lowered_by used lowers x.files x
      by_all plain conditions tops true = refl
      by_all plain conditions tops false = ap (λ (files : FileTree ℕ). record x {
        files = files;
        overlay = option_map (real_among nat_eq (used_in nat_eq before x)) x.overlay;
        change = 0;
      }) (lower_part_same (named_is_used before x conditions) conditions
          x.number lowers tops) ∙ ap (λ o. record (lowered_by used lowers x.files x) {
            overlay = option_map (real_among nat_eq (used_in nat_eq before x)) o;
          }) plain ∙ ap (λ o. record (lowered_by used lowers x.files x) { overlay = o }) (sym plain)

      by_choice : x.overlay ≡ None → IsFileTree x.files
          → ((layer : Layer ℕ) → Among layer lowers → nat_eq x.number layer.filesystem ≡ true
          → (is_among nat_eq layer.directory (used_in nat_eq before x) ≡ true)
          × IsDirectory x.files.tree layer.directory)
          → (b : Bool) → lowered_by used lowers (only_used nat_eq before b x).files (only_used nat_eq before b x)
          ≡ lowered_by used lowers x.files x
      by_choice plain conditions tops true = by_all plain conditions tops _
      by_choice plain conditions tops false = refl

  pub inodes_swept : SeesTheSame world swept names
  inodes_swept = filesystems_stepped sees one_filesystem sweep sweep_number used_is lower_same
