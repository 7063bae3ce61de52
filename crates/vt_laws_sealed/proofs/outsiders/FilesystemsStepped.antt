-- Each filesystem is replaced by another one of its number: what a sealed set uses stays, and so does what its part has
-- of lower layers.
use Rattle.std.proofs.Common.{◌≡◌, refl, sym, ap, ◌∙◌, inl, inr, ℕ, nat_eq, Bool, true, false, cond, List, [], ◌∷◌, Some, find, map, not, ◌||◌, eqb-true, unwrap_or}
use Rattle.vt_spec.proofs.Common.{cases_Bool, Among, Filesystem, Layer, TaskName, World, among-map, among_from_contains, any_pair, filesystem_numbered, has_layer_on, is_among, is_overlay, list_any, no_filesystem, no_outsider_on, overlays, own_lowers, pair-map, used_alone, used_directly, used_filesystems, when}
use Rattle.vt_laws_sealed.proofs.Common.{filter-map, found_filesystem}
use Rattle.vt_laws_sealed.specs.Part.Parts.{SeesTheSame, shown_of}
use Rattle.vt_laws_sealed.proofs.part.Kept.{filter_map_map, filter_map_same}
use Rattle.vt_laws_sealed.proofs.part.part.PartOfPart.{used_directly_used}
use Rattle.vt_laws_sealed.proofs.outsiders.SeenLater.{lowered_by}
use Rattle.vt_laws_sealed.proofs.outsiders.Raising.{all-map_same}

module _ {world before : World ℕ} {names : List TaskName} (sees : SeesTheSame world before names)
    (one_filesystem : any_pair (λ (a b : Filesystem ℕ). nat_eq a.number b.number) before.filesystems ≡ false)
    (step : Filesystem ℕ → Filesystem ℕ) (step_number : (x : Filesystem ℕ) → (step x).number ≡ x.number)
    (used_is : (x : Filesystem ℕ) → Among x before.filesystems
    → is_among nat_eq x.number (used_filesystems nat_eq world names) ≡ true → step x ≡ x)
    (lower_same : (x : Filesystem ℕ) → Among x before.filesystems
    → list_any (λ (layer : Layer ℕ). nat_eq x.number layer.filesystem) (own_lowers nat_eq world names) ≡ true
    → lowered_by (used_filesystems nat_eq world names) (own_lowers nat_eq world names) (step x).files (step x)
    ≡ lowered_by (used_filesystems nat_eq world names) (own_lowers nat_eq world names) x.files x) where
  abbrev pub stepped : World ℕ
  stepped = record before { filesystems = map step before.filesystems }

  abbrev used : List ℕ
  used = used_filesystems nat_eq world names

  abbrev lowers : List (Layer ℕ)
  lowers = own_lowers nat_eq world names

  found_stepped : (number : ℕ) → is_among nat_eq number used ≡ true → (list : List (Filesystem ℕ))
      → ((x : Filesystem ℕ) → Among x list → Among x before.filesystems)
      → find (λ (f : Filesystem ℕ). nat_eq number f.number) (map step list)
      ≡ find (λ (f : Filesystem ℕ). nat_eq number f.number) list
  found_stepped number is [] all = refl
  found_stepped number is (f ∷ rest) all =
      cc (step_number f, by (nat_eq number f.number) refl (found_stepped number is rest (λ x m. all x (inr m))))
    where
      by : (b : Bool) → nat_eq number f.number ≡ b → find (λ (x : Filesystem ℕ). nat_eq number x.number) (map step rest)
          ≡ find (λ (x : Filesystem ℕ). nat_eq number x.number) rest
          → cond b (Some (step f)) (find (λ (x : Filesystem ℕ). nat_eq number x.number) (map step rest))
          ≡ cond b (Some f) (find (λ (x : Filesystem ℕ). nat_eq number x.number) rest)
      by true e later = ap Some (used_is f (all f (inl refl))
          (cc (eqb-true number f.number e)))
      by false e later = later

  -- each filesystem is shown as before
  found_before : (x : Filesystem ℕ) → Among x before.filesystems → filesystem_numbered nat_eq before x.number ≡ x
  found_before = found_filesystem before.filesystems one_filesystem

  found_after : (x : Filesystem ℕ) → Among x before.filesystems → filesystem_numbered nat_eq stepped x.number ≡ step x
  found_after x m = ap (filesystem_numbered nat_eq stepped) (sym (step_number x)) ∙ found_filesystem stepped.filesystems
      (pair-map (λ (a b : Filesystem ℕ). nat_eq a.number b.number)
      (λ (a b : Filesystem ℕ). nat_eq a.number b.number) step before.filesystems
      (λ a b n k e. ap (λ j. nat_eq j (step b).number) (step_number a) ∙ ap (nat_eq a.number) (step_number b) ∙ e)
      one_filesystem) (step x) (among-map step before.filesystems x m)

  each_shown : (x : Filesystem ℕ) → Among x before.filesystems
      → shown_of stepped used lowers (step x) ≡ shown_of before used lowers x
  each_shown x m = elim (cases_Bool (is_among nat_eq x.number used)) [
    | inl e ↦ ap (λ y. shown_of stepped used lowers y) (used_is x m e)
        ∙ ap (λ b. cond b (Some x) (when (list_any (λ (layer : Layer ℕ). nat_eq x.number layer.filesystem) lowers)
        (lowered_by used lowers (filesystem_numbered nat_eq stepped x.number).files x))) e
        ∙ sym (ap (λ b. cond b (Some x) (when
        (list_any (λ (layer : Layer ℕ). nat_eq x.number layer.filesystem) lowers)
        (lowered_by used lowers (filesystem_numbered nat_eq before x.number).files x))) e)
    | inr e ↦ ap (λ (f : Filesystem ℕ). cond (is_among nat_eq (step x).number used) (Some (step x))
        (when (list_any (λ (layer : Layer ℕ). nat_eq (step x).number layer.filesystem) lowers)
        (lowered_by used lowers f.files (step x))))
        (ap (filesystem_numbered nat_eq stepped) (step_number x) ∙ found_after x m)
        ∙ ap (λ n. cond (is_among nat_eq n used) (Some (step x))
        (when (list_any (λ (layer : Layer ℕ). nat_eq n layer.filesystem) lowers)
        (lowered_by used lowers (step x).files (step x)))) (step_number x) ∙ ap (λ b. cond b (Some (step x)) (when
        (list_any (λ (layer : Layer ℕ). nat_eq x.number layer.filesystem) lowers)
        (lowered_by used lowers (step x).files (step x)))) e
        ∙ lower_by (list_any (λ (layer : Layer ℕ). nat_eq x.number layer.filesystem) lowers) refl
        ∙ sym (ap (λ (f : Filesystem ℕ). cond (is_among nat_eq x.number used) (Some x)
        (when (list_any (λ (layer : Layer ℕ). nat_eq x.number layer.filesystem) lowers)
        (lowered_by used lowers f.files x))) (found_before x m)
        ∙ ap (λ b. cond b (Some x) (when (list_any (λ (layer : Layer ℕ). nat_eq x.number layer.filesystem) lowers)
        (lowered_by used lowers x.files x))) e)
  ]
    where
      lower_by : (c : Bool) → list_any (λ (layer : Layer ℕ). nat_eq x.number layer.filesystem) lowers ≡ c
          → when c (lowered_by used lowers (step x).files (step x)) ≡ when c (lowered_by used lowers x.files x)
      lower_by true e = ap Some (lower_same x m e)
      lower_by false e = refl

  pub filesystems_stepped : SeesTheSame world stepped names
  filesystems_stepped = record {
    tasks = sees.tasks;
    mounts = sees.mounts;
    masters = sees.masters;
    direct = λ number m. ap (λ o. unwrap_or o (no_filesystem number))
        (found_stepped number (used_directly_used world names number
        (among_from_contains (used_directly nat_eq world names) number m)) before.filesystems (λ x n. n))
        ∙ sees.direct number m;
    filesystems = filter_map_map (shown_of stepped used lowers) step before.filesystems
        ∙ filter_map_same (λ x. shown_of stepped used lowers (step x)) (shown_of before used lowers) before.filesystems
        each_shown ∙ sees.filesystems;
    namespaces = sees.namespaces;
  }

-- Where overlays stay over their layers, others have the footholds that they had.
pub stepping_keeps_footholds : (before : World ℕ) (names : List TaskName) (step : Filesystem ℕ → Filesystem ℕ)
    → ((x : Filesystem ℕ) → (step x).number ≡ x.number) → ((x : Filesystem ℕ) → is_overlay (step x) ≡ is_overlay x)
    → ((number : ℕ) (x : Filesystem ℕ) → has_layer_on nat_eq number (step x) ≡ has_layer_on nat_eq number x)
    → (number : ℕ) → used_alone nat_eq (record before { filesystems = map step before.filesystems }) names number
    ≡ used_alone nat_eq before names number
stepping_keeps_footholds before names step step_number step_overlay step_layers number =
    cc (
      filter-map is_overlay step before.filesystems step_overlay,
      all-map_same free_in free_in step (overlays before) (λ merged.
          ap (λ b. not b || no_outsider_on nat_eq before names (step merged).number) (step_layers number merged)
          ∙ ap (λ n. not (has_layer_on nat_eq number merged) || no_outsider_on nat_eq before names n)
          (step_number merged)),
    )
  where
    free_in : Filesystem ℕ → Bool
    free_in merged = not (has_layer_on nat_eq number merged) || no_outsider_on nat_eq before names merged.number
