-- Each inode of a newly mounted overlay has a name.
use Rattle.std.proofs.Common.{◌≡◌, ◌≢◌, refl, sym, ap, subst, ◌∙◌, ⊎_elim, ℕ, nat_eq, eq-eqb, Bool, true, ◌||◌, List, [], ◌∷◌, Option, Some, None, is_some, option_and_then, option_map}
use Rattle.vt_spec.proofs.Common.{Filesystem, Fresh, HasName, Merged, MergedInode, OpenLayer, Shown, Tree, entry_at, eqb_tells, evens, evens-distinct, inode_of, is_among, led, named_in, none_is_some, odds, overlay_filesystem, same_Some, shown}
use Rattle.vt_laws_trees.proofs.layers.directories.Fit.{new_overlay_is_tree, new_overlay_lists_numbers}
use Rattle.vt_laws_trees.proofs.layers.layers.ShownDirectories.{last_of}
use Rattle.vt_laws_trees.proofs.layers.layers.ShownMerged.{CanMerge, inodes, number}
use Rattle.vt_laws_trees.proofs.layers.layers.ShownMounted.{can_merge, bounded, layers, root_shown}
use Rattle.vt_laws_trees.proofs.layers.layers.ShownNames.{last_name}
use Rattle.vt_laws_trees.proofs.layers.layers.ShownObjects.{object_is}
use Rattle.vt_laws_trees.proofs.layers.layers.ShownPaths.{not_empty}
use Rattle.vt_laws_trees.proofs.layers.layers.ShownTree.{Arrives, arrives, merged_tree}
use Rattle.vt_laws_trees.proofs.layers.layers.ShownWhole.{is_of_object}
use Rattle.vt_laws_mounts.specs.LettingGo.InUse.{IsListedTree}
use Rattle.vt_laws_mounts.proofs.letting_go.mounting.AttachedSwept.{new_filesystems_keep_all}
use Rattle.vt_laws_mounts.proofs.letting_go.Lists.{is_among_numbers, list_all_from_among, or_left, or_right}
use Rattle.vt_laws_mounts.proofs.letting_go.sweeps.OfWorlds.{locations_of_worlds_stand, worlds_are_settled}
use Rattle.vt_laws_mounts.proofs.letting_go.Trees.{named_among}
use Rattle.vt_laws_worlds.specs.OverlaysLetGo.NewOverlays.{NewMountsOfOverlaysKeepAll, NewOverlaysAreNamed}

-- what names lead to from the root is the root or has a name
named_if_led : (tree : Tree ℕ) (path : List (List ℕ)) (n : ℕ) → n ≢ tree.root → led tree tree.root path ≡ Some n
    → HasName tree n
named_if_led tree [] n isnt e = absurd (isnt (sym (same_Some tree.root n e)))
named_if_led tree (name ∷ path) n isnt e =
    let last = last_of (name ∷ path) (not_empty name path) in
    by last.1 (led tree tree.root last.0)
    (sym (last_name tree tree.root last.0 last.1) ∙ ap (led tree tree.root) last.2 ∙ e)
  where
    by : (last : List ℕ) (o : Option ℕ) → option_and_then (λ directory. entry_at tree directory last) o ≡ Some n
        → HasName tree n
    by last None f = none_is_some n f
    by last (Some directory) f = (directory, last, f)

-- each inode of a merged tree is led to
module _ {layers : List (OpenLayer ℕ)} {longest : ℕ} {fresh : Fresh ℕ} (can : CanMerge layers longest fresh)
    (has_upper : Bool) (top : Shown ℕ) (is_top : shown layers [] ≡ Some top) where
  abbrev tree : Tree ℕ
  tree = merged_tree can has_upper top is_top

  abbrev num : Merged ℕ → ℕ
  num = number can has_upper

  led_to : (n : ℕ) → is_some (tree.node n) ≡ true → (path : List (List ℕ)) × (led tree tree.root path ≡ Some n)
  led_to n there = by (inode_of (inodes can has_upper) n nat_eq) refl there
    where
      arrives_at : (path : List (List ℕ)) (seen : Shown ℕ) → shown layers path ≡ Some seen
          → led tree tree.root path ≡ Some (num (record { path = path; seen = seen }))
      arrives_at path seen s =
          subst (λ o. Arrives can has_upper top is_top o path (led tree tree.root path)) s
          (arrives can has_upper top is_top path)

      by : (o : Option (MergedInode ℕ)) → inode_of (inodes can has_upper) n nat_eq ≡ o
          → is_some (option_map (λ inode. inode.node) o) ≡ true
          → (path : List (List ℕ)) × (led tree tree.root path ≡ Some n)
      by None e h = absurd cc
      by (Some inode) e h =
          let is = is_of_object can has_upper n inode e in (
            is.object.path,
            arrives_at is.object.path is.object.seen (object_is layers can.opens longest can.bounded is.object is.among)
                ∙ ap Some (sym is.numbered),
          )

pub new_overlays_are_named : NewOverlaysAreNamed
new_overlays_are_named fresh world overlay conditions are_layers distinct =
    list_all_from_among (λ n. nat_eq n made.files.tree.root || is_among nat_eq n (named_in made.files))
    made.files.numbers (λ n m.
    ⊎_elim (λ root. or_left (nat_eq n made.files.tree.root) _ (eq-eqb n made.files.tree.root root.1))
    (λ other. or_right (nat_eq n made.files.tree.root) (is_among nat_eq n (named_in made.files))
    (named_among made.files listed n
    (named n other.1 (sym (listed.numbers n) ∙ is_among_numbers n made.files.numbers m))))
    (eqb_tells n made.files.tree.root))
  where
    made : Filesystem ℕ
    made = overlay_filesystem nat_eq fresh world overlay

    listed : IsListedTree made.files
    listed = record {
      tree = new_overlay_is_tree fresh world overlay conditions are_layers distinct;
      numbers = new_overlay_lists_numbers fresh world overlay conditions are_layers distinct;
    }

    named : (n : ℕ) → n ≢ made.files.tree.root → is_some (made.files.tree.node n) ≡ true → HasName made.files.tree n
    named n isnt there =
        let leads = led_to (can_merge world conditions overlay are_layers fresh distinct) (is_some overlay.upper)
        (root_shown world conditions overlay are_layers).0 (root_shown world conditions overlay are_layers).1 n there in
        named_if_led made.files.tree leads.0 n isnt leads.1

pub new_mounts_of_overlays_keep_all : NewMountsOfOverlaysKeepAll
new_mounts_of_overlays_keep_all fresh world task place overlay flags conditions are_layers distinct at_attached =
    let settles = worlds_are_settled world conditions in
    new_filesystems_keep_all (odds fresh) world place (overlay_filesystem nat_eq (evens fresh) world overlay) flags
    settles.in_use settles.mounts (locations_of_worlds_stand world conditions) at_attached
    (new_overlays_are_named (evens fresh) world overlay conditions are_layers (evens-distinct fresh distinct))
