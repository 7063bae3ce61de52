-- What lies under directories of a tree that is changed elsewhere: a part of the tree has the same of it.
use Rattle.std.proofs.Common.{arith, ◌≡◌, refl, sym, ap, ◌∙◌, ℕ, nat_eq, Bool, true, false, cond, true≢false, List, [], ◌∷◌, ◌++◌, Option, Some, None, filter, is_some, ◌&&◌}
use Rattle.vt_spec.proofs.Common.{Among, FileTree, IsDirectory, Layer, Node, among-from_filter, among_numbers, and_parts, any_among, common_steps, directory_used, entries_in, entry_named, false_from_ne_true, is_among, is_directory_node, is_under, led, list_any, only_among, same_truth}
use Rattle.vt_laws_sealed.proofs.Common.{IsFileTree, led_under, under_led}
use Rattle.vt_laws_trees.proofs.layers.layers.ShownDirectories.{led_is_there}
use Rattle.vt_laws_trees.proofs.layers.views.Stay.{led_where}
use Rattle.vt_laws_sealed.proofs.outsiders.CutTrees.{any_alike, filter_same}

-- what is put before a list, and does not pass
filter_without : (p : ℕ → Bool) (more xs : List ℕ) → ((x : ℕ) → Among x more → p x ≡ false)
    → filter p (more ++ xs) ≡ filter p xs
filter_without p [] xs none = refl
filter_without p (x ∷ more) xs none = grind (arith, common_steps, filter_without p more xs)

-- A tree that has its numbers behind new ones, and keeps what lies under the layers
pub record KeepsBelow (old new : FileTree ℕ) (number : ℕ) (lowers : List (Layer ℕ)) : Type 0 where
  pub was : IsFileTree old
  pub is : IsFileTree new
  pub root : new.tree.root ≡ old.tree.root
  pub more : List ℕ
  pub numbers : new.numbers ≡ more ++ old.numbers
  pub none : (object : ℕ) → Among object more → old.tree.node object ≡ None
  pub tops : (layer : Layer ℕ) → Among layer lowers → nat_eq number layer.filesystem ≡ true
      → IsDirectory old.tree layer.directory
  pub stays : (layer : Layer ℕ) → Among layer lowers → nat_eq number layer.filesystem ≡ true → (object : ℕ)
      → is_under nat_eq old layer.directory object ≡ true → is_some (old.tree.node object) ≡ true
      → new.tree.node object ≡ old.tree.node object

module _ (old new : FileTree ℕ) (number : ℕ) (lowers : List (Layer ℕ)) (keeps : KeepsBelow old new number lowers) where
  -- Under one of the layers
  module _ (layer : Layer ℕ) (m : Among layer lowers) (at : nat_eq number layer.filesystem ≡ true) where
    abbrev top : ℕ
    top = layer.directory

    top_directory : IsDirectory old.tree top
    top_directory = keeps.tops layer m at

    led_under_it : (path : List (List ℕ)) (object : ℕ) → led old.tree top path ≡ Some object
        → is_under nat_eq old top object ≡ true
    led_under_it path object e = led_under old keeps.was.tree top keeps.was.numbers top_directory object (path, e)

    led_there : (path : List (List ℕ)) (object : ℕ) → led old.tree top path ≡ Some object
        → is_some (old.tree.node object) ≡ true
    led_there path object e = led_is_there _ keeps.was.tree top_directory path object e

    pub under_there : (object : ℕ) → is_under nat_eq old top object ≡ true → is_some (old.tree.node object) ≡ true
    under_there object h =
        let way = under_led old keeps.was.tree top object h in led_there way.0 object way.1

    leads : (path : List (List ℕ)) → led new.tree top path ≡ led old.tree top path
    leads path = led_where old.tree new.tree path top (λ way inode e word.
        ap (λ (node : Option (Node ℕ)). entry_named word (entries_in node))
        (keeps.stays layer m at inode (led_under_it way inode e) (led_there way inode e)))

    still_directory : IsDirectory new.tree top
    still_directory = ap is_directory_node
        (keeps.stays layer m at top (led_under_it [] top refl) (directory_used old.tree top top_directory))
        ∙ top_directory

    pub under_same : (object : ℕ) → is_under nat_eq new top object ≡ is_under nat_eq old top object
    under_same object = same_truth (is_under nat_eq new top object) (is_under nat_eq old top object)
        (λ h. let way = under_led new keeps.is.tree top object h in
        led_under_it way.0 object (sym (leads way.0) ∙ way.1))
        (λ h. let way = under_led old keeps.was.tree top object h in
        led_under new keeps.is.tree top keeps.is.numbers still_directory object (way.0, leads way.0 ∙ way.1))

  abbrev lies_in : FileTree ℕ → ℕ → Bool
  lies_in tree object =
      list_any (λ (layer : Layer ℕ). nat_eq number layer.filesystem && is_under nat_eq tree layer.directory object)
      lowers

  lies_same : (object : ℕ) → lies_in new object ≡ lies_in old object
  lies_same object = grind (arith, common_steps, any_alike, under_same)

  lying : (object : ℕ) → lies_in old object ≡ true
      → (is_some (old.tree.node object) ≡ true) × (new.tree.node object ≡ old.tree.node object)
  lying object h = search (arith, common_steps, any_among, and_parts, under_there)

  new_lies_nowhere : (object : ℕ) → Among object keeps.more → lies_in old object ≡ false
  new_lies_nowhere object m = false_from_ne_true _ (λ h. cc ((lying object h).0, keeps.none object m))

  abbrev chosen : List ℕ
  chosen = filter (lies_in old) old.numbers

  chosen_lies : (object : ℕ) → is_among nat_eq object chosen ≡ true → lies_in old object ≡ true
  chosen_lies object h = (among-from_filter (lies_in old) old.numbers object (among_numbers chosen object h)).1

  numbers_same : filter (lies_in new) new.numbers ≡ chosen
  numbers_same = ap (filter (lies_in new)) keeps.numbers ∙ filter_same (lies_in new) (lies_in old)
      (keeps.more ++ old.numbers) lies_same ∙ filter_without (lies_in old) _ old.numbers new_lies_nowhere

  node_same : (object : ℕ) → cond (is_among nat_eq object chosen) (new.tree.node object) None
      ≡ cond (is_among nat_eq object chosen) (old.tree.node object) None
  node_same object = search (arith, common_steps, lying, chosen_lies)

  pub lower_part_stays : only_among nat_eq (filter (lies_in new) new.numbers) new ≡ only_among nat_eq chosen old
  lower_part_stays = ap (λ list. only_among nat_eq list new) numbers_same ∙ (λ i. record {
    tree = record { root = keeps.root i; node = λ object. node_same object i };
    numbers = chosen_same i;
  })
    where
      chosen_same : filter (λ object. is_among nat_eq object chosen) new.numbers
          ≡ filter (λ object. is_among nat_eq object chosen) old.numbers
      chosen_same =
          search (arith, common_steps, filter_without, false_from_ne_true, true≢false, chosen_lies, new_lies_nowhere)
