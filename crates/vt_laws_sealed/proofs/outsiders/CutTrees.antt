-- What lies under a directory of a tree lies there, too, once what nothing uses is gone.
use Rattle.std.proofs.Common.{arith, ◌≡◌, refl, ap, ◌∙◌, inl, inr, ℕ, nat_eq, Bool, true, false, cond, true≢false, List, [], ◌∷◌, Option, Some, None, filter, ◌&&◌, option_and_then}
use Rattle.vt_spec.proofs.Common.{Among, FileTree, IsDirectory, Layer, among-from_filter, among_numbers, and_parts, any_among, common_steps, entry_at, is_among, is_under, led, list_any, none_is_some, only_among, same_Some, same_truth}
use Rattle.vt_laws_sealed.proofs.Common.{IsFileTree, entry_used, kept_file_tree, led_under, under_led}
use Rattle.vt_laws_trees.specs.Trees.Settling.{HoldsTree}

module _ (used : List ℕ) (files : FileTree ℕ) (holds : HoldsTree used files) (conditions : IsFileTree files) where
  abbrev cut : FileTree ℕ
  cut = only_among nat_eq used files

  cut_is : IsFileTree cut
  cut_is = kept_file_tree used files holds conditions

  entry_was : (directory : ℕ) (name : List ℕ) (number : ℕ) → entry_at cut.tree directory name ≡ Some number
      → entry_at files.tree directory name ≡ Some number
  entry_was directory name number = search (arith, common_steps, none_is_some)

  entry_kept : (directory : ℕ) (name : List ℕ) (number : ℕ) → entry_at files.tree directory name ≡ Some number
      → entry_at cut.tree directory name ≡ Some number
  entry_kept directory name number e = cc (entry_used used files holds conditions directory name number e)

  -- names lead where they led, and to what is used
  led_was : (path : List (List ℕ)) (from object : ℕ) → led cut.tree from path ≡ Some object
      → led files.tree from path ≡ Some object
  led_was [] from object e = e
  led_was (name ∷ path) from object e = by (λ next. led_was path next object) (entry_at cut.tree from name) refl e
    where
      by : ((next : ℕ) → led cut.tree next path ≡ Some object → led files.tree next path ≡ Some object) → (o : Option ℕ)
          → entry_at cut.tree from name ≡ o → option_and_then (λ next. led cut.tree next path) o ≡ Some object
          → led files.tree from (name ∷ path) ≡ Some object
      by below None f h = none_is_some object h
      by below (Some next) f h =
          cc (entry_was from name next f, below next h)

  led_kept : (path : List (List ℕ)) (from object : ℕ) → led files.tree from path ≡ Some object
      → led cut.tree from path ≡ Some object
  led_kept [] from object e = e
  led_kept (name ∷ path) from object e = by (λ next. led_kept path next object) (entry_at files.tree from name) refl e
    where
      by : ((next : ℕ) → led files.tree next path ≡ Some object → led cut.tree next path ≡ Some object) → (o : Option ℕ)
          → entry_at files.tree from name ≡ o → option_and_then (λ next. led files.tree next path) o ≡ Some object
          → led cut.tree from (name ∷ path) ≡ Some object
      by below None f h = none_is_some object h
      by below (Some next) f h =
          cc (entry_kept from name next f, below next h)

  led_used : (path : List (List ℕ)) (from object : ℕ) → is_among nat_eq from used ≡ true
      → led files.tree from path ≡ Some object → is_among nat_eq object used ≡ true
  led_used [] from object is e = cc (same_Some from object e)
  led_used (name ∷ path) from object is e = by (λ next. led_used path next object) _ refl e
    where
      by : ((next : ℕ) → is_among nat_eq next used ≡ true → led files.tree next path ≡ Some object
          → is_among nat_eq object used ≡ true) → (o : Option ℕ) → entry_at files.tree from name ≡ o
          → option_and_then (λ next. led files.tree next path) o ≡ Some object → is_among nat_eq object used ≡ true
      by below None f h = none_is_some object h
      by below (Some next) f h = below next (holds.named next (from, name, f)) h

  -- so what lies under a directory that is used
  module _ (top : ℕ) (is : is_among nat_eq top used ≡ true) (directory : IsDirectory files.tree top) where
    pub under_used : (object : ℕ) → is_under nat_eq files top object ≡ true → is_among nat_eq object used ≡ true
    under_used object h =
        let way = under_led files conditions.tree top object h in led_used way.0 top object is way.1

    directory_kept : IsDirectory cut.tree top
    directory_kept = cc

    pub under_same : (object : ℕ) → is_under nat_eq cut top object ≡ is_under nat_eq files top object
    under_same object = same_truth _ _ (λ h. let way = under_led cut cut_is.tree top object h in
        led_under files conditions.tree top conditions.numbers directory object (way.0, led_was way.0 top object way.1))
        (λ h. let way = under_led files conditions.tree top object h in
        led_under cut cut_is.tree top cut_is.numbers directory_kept object (way.0, led_kept way.0 top object way.1))

-- tests that agree
pub any_alike : (p q : Layer ℕ → Bool) (list : List (Layer ℕ)) → ((x : Layer ℕ) → Among x list → p x ≡ q x)
    → list_any p list ≡ list_any q list
any_alike p q [] same = refl
any_alike p q (x ∷ rest) same = cc (same x (inl refl), any_alike p q rest (λ y m. same y (inr m)))

pub filter_same : (p q : ℕ → Bool) (xs : List ℕ) → ((x : ℕ) → p x ≡ q x) → filter p xs ≡ filter q xs
filter_same p q [] same = refl
filter_same p q (x ∷ xs) same = cc (same x, filter_same p q xs same)

-- of two lists of which one has all of the other, the other is left
filter_within : (p : ℕ → Bool) (used : List ℕ) (xs : List ℕ)
    → ((x : ℕ) → Among x xs → p x ≡ true → is_among nat_eq x used ≡ true)
    → filter p (filter (λ x. is_among nat_eq x used) xs) ≡ filter p xs
filter_within p used [] within = refl
filter_within p used (x ∷ xs) within = grind (arith, common_steps, true≢false, filter_within p used xs)

-- The part of a lower tree is the same once what nothing uses is gone.
module _ {used : List ℕ} {files : FileTree ℕ} (holds : HoldsTree used files) (conditions : IsFileTree files)
    (number : ℕ) (lowers : List (Layer ℕ)) (tops : (layer : Layer ℕ) → Among layer lowers
    → nat_eq number layer.filesystem ≡ true
    → (is_among nat_eq layer.directory used ≡ true) × IsDirectory files.tree layer.directory) where
  abbrev lies_in : FileTree ℕ → ℕ → Bool
  lies_in tree object =
      list_any (λ (layer : Layer ℕ). nat_eq number layer.filesystem && is_under nat_eq tree layer.directory object)
      lowers

  lies_used : (object : ℕ) → lies_in files object ≡ true → is_among nat_eq object used ≡ true
  lies_used object h =
      let at = any_among (λ (layer : Layer ℕ). nat_eq number layer.filesystem
      && is_under nat_eq files layer.directory object) lowers h in
      let both = and_parts (nat_eq number at.0.filesystem) (is_under nat_eq files at.0.directory object) at.2 in
      let top = tops at.0 at.1 both.0 in
      under_used used files holds conditions at.0.directory top.0 top.1 object both.1

  lies_same : (object : ℕ) → lies_in (only_among nat_eq used files) object ≡ lies_in files object
  lies_same object = any_alike _ _ lowers (λ layer m. by layer m (nat_eq number layer.filesystem) refl)
    where
      by : (layer : Layer ℕ) → Among layer lowers → (b : Bool) → nat_eq number layer.filesystem ≡ b
          → (b && is_under nat_eq (only_among nat_eq used files) layer.directory object)
          ≡ (b && is_under nat_eq files layer.directory object)
      by layer m true e =
          let top = tops layer m e in under_same used files holds conditions layer.directory top.0 top.1 object
      by layer m false e = refl

  abbrev chosen : List ℕ
  chosen = filter (lies_in files) files.numbers

  pub numbers_same : filter (lies_in (only_among nat_eq used files)) (only_among nat_eq used files).numbers ≡ chosen
  numbers_same = filter_same _ _ _ lies_same ∙ filter_within (lies_in files) used files.numbers (λ x m. lies_used x)

  node_same : (object : ℕ) → cond (is_among nat_eq object chosen)
      (cond (is_among nat_eq object used) (files.tree.node object) None) None
      ≡ cond (is_among nat_eq object chosen) (files.tree.node object) None
  node_same object = by (is_among nat_eq object chosen) refl
    where
      by : (b : Bool) → is_among nat_eq object chosen ≡ b
          → cond b (cond (is_among nat_eq object used) (files.tree.node object) None) None
          ≡ cond b (files.tree.node object) None
      by true e = ap (λ c. cond c (files.tree.node object) None)
          (lies_used object (among-from_filter (lies_in files) files.numbers object (among_numbers chosen object e)).1)
      by false e = refl

  pub lower_part_same : only_among nat_eq (filter (lies_in (only_among nat_eq used files))
      (only_among nat_eq used files).numbers) (only_among nat_eq used files) ≡ only_among nat_eq chosen files
  lower_part_same = ap (λ list. only_among nat_eq list (only_among nat_eq used files)) numbers_same ∙ (λ i. record {
    tree = record { root = files.tree.root; node = λ object. node_same object i };
    numbers = filter_within (λ x. is_among nat_eq x chosen) used files.numbers
        (λ x m h. lies_used x (among-from_filter (lies_in files) files.numbers x (among_numbers chosen x h)).1) i;
  })
