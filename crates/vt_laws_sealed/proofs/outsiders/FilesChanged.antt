-- What others change of filesystems is nothing that a sealed set uses, and nothing of its lower layers.
use Rattle.std.proofs.Common.{arith, ◌≡◌, ◌≢◌, refl, sym, ap, subst, ◌∙◌, ℕ, nat_eq, Bool, true, false, cond, true≢false, List, Some, None, is_some, map, eqb-true, ne_eqb, option_map}
use Rattle.vt_spec.proofs.Common.{AddName, Among, Change, CopyUp, FileTree, Filesystem, Layer, Location, Make, Merge, Move, Overlay, Remove, SetAttr, SetBytes, SetMark, TaskName, World, changed, common_steps, directory_used, false_from_ne_true, files_at, filesystem_numbered, has_layer_on, is_among, is_overlay, layers_of, list_any, map_alike, map_twice, overlay_or, own_lowers, replaced_if_numbered, used_filesystems, with_files, ⊤}
use Rattle.vt_laws_sealed.proofs.Common.{AsksWell, SparesInode, found_filesystem, has_entries, number_of_filesystem}
use Rattle.vt_laws_trees.proofs.layers.layers.LowersKept.{kept_elsewhere}
use Rattle.vt_laws_sealed.specs.Part.Seals.{IsApart}
use Rattle.vt_laws_sealed.proofs.outsiders.ChangesGround.{MarksWhatIsThere}
use Rattle.vt_laws_sealed.proofs.outsiders.FilesStep.{IsFilesStep}
use Rattle.vt_laws_sealed.proofs.outsiders.LowersChanged.{KeepsBelow, lower_part_stays}
use Rattle.vt_laws_sealed.proofs.outsiders.NumbersGrown.{numbers_made}
use Rattle.vt_laws_sealed.proofs.outsiders.SeenLater.{lowered_by}

-- the inode to which a change of a plain tree writes first
abbrev pub written_to : Change ℕ → ℕ
written_to (Make directory name number node) = directory
written_to (AddName directory name object) = directory
written_to (Remove directory name object) = directory
written_to (Move from old to new object) = from
written_to (SetBytes file bytes) = file
written_to (SetAttr object attr) = object
written_to (SetMark directory opaque) = directory
written_to (CopyUp object) = object

-- it is there
pub written_there : (world : World ℕ) (location : Location ℕ) (change : Change ℕ) → AsksWell world location change
    → MarksWhatIsThere world location change
    → is_some ((files_at nat_eq world location).tree.node (written_to change)) ≡ true
written_there world location change asked marked = grind (arith, common_steps, directory_used, has_entries)

-- it is not spared, but for what is copied up
abbrev pub IsCopy : Change ℕ → Type 0
IsCopy (CopyUp object) = ⊤
IsCopy change = ⊥

pub written_not_spared : (files : FileTree ℕ) (change : Change ℕ) → SparesInode files change (written_to change)
    → IsCopy change
written_not_spared files change spares = grind (arith, common_steps)

-- what a plain change makes was not there
pub made_was_not_there : (world : World ℕ) (location : Location ℕ) (change : Change ℕ)
    → AsksWell world location change → (object : ℕ) → Among object (numbers_made change)
    → (files_at nat_eq world location).tree.node object ≡ None
made_was_not_there world location change asked object m = grind (arith, common_steps)

-- a plain change leaves what it spares, if that is not what it makes
pub spared_stays : (files : FileTree ℕ) (change : Change ℕ) (inode : ℕ) → SparesInode files change inode
    → (Among inode (numbers_made change) → ⊥) → (changed nat_eq files change).tree.node inode ≡ files.tree.node inode
spared_stays files change inode spares old = grind (arith, common_steps, kept_elsewhere, ne_eqb)

-- A filesystem that is replaced
abbrev rewritten : ℕ → FileTree ℕ → Filesystem ℕ → Filesystem ℕ
rewritten number files x = cond (nat_eq number x.number) (record x { files = files }) x

abbrev with_real_objects : Merge ℕ → Overlay ℕ → Overlay ℕ
with_real_objects merge overlay = record overlay { real = merge.real }

abbrev remerged : ℕ → Merge ℕ → Filesystem ℕ → Filesystem ℕ
remerged number merge x = cond (nat_eq number x.number)
    (record x { files = merge.files; overlay = option_map (with_real_objects merge) x.overlay }) x

-- with its number, its layers, and what is an overlay
rewritten_number : (number : ℕ) (files : FileTree ℕ) (x : Filesystem ℕ) → (rewritten number files x).number ≡ x.number
rewritten_number number files x = grind (arith, common_steps)

rewritten_overlay : (number : ℕ) (files : FileTree ℕ) (x : Filesystem ℕ)
    → (rewritten number files x).overlay ≡ x.overlay
rewritten_overlay number files x = grind (arith, common_steps)

remerged_number : (number : ℕ) (merge : Merge ℕ) (x : Filesystem ℕ) → (remerged number merge x).number ≡ x.number
remerged_number number merge x = grind (arith, common_steps)

remerged_overlay : (number : ℕ) (merge : Merge ℕ) (x : Filesystem ℕ)
    → is_overlay (remerged number merge x) ≡ is_overlay x
remerged_overlay number merge x = grind (arith, common_steps)

remerged_layers : (layer number : ℕ) (merge : Merge ℕ) (x : Filesystem ℕ)
    → has_layer_on nat_eq layer (remerged number merge x) ≡ has_layer_on nat_eq layer x
remerged_layers layer number merge x = grind (arith, common_steps)

module _ {world : World ℕ} {names : List TaskName} (apart : IsApart world names) where
  found : (x : Filesystem ℕ) → Among x world.filesystems → (number : ℕ) → nat_eq number x.number ≡ true
      → filesystem_numbered nat_eq world number ≡ x
  found x m number e = ap (filesystem_numbered nat_eq world) (eqb-true number x.number e)
      ∙ found_filesystem world.filesystems apart.is.files.one_filesystem x m

  -- a filesystem put in the place of another one is that one with other files
  pub replaced_is_rewritten : (number : ℕ) (files : FileTree ℕ)
      → map (replaced_if_numbered nat_eq (with_files (filesystem_numbered nat_eq world number) files)) world.filesystems
      ≡ map (rewritten number files) world.filesystems
  replaced_is_rewritten number files = map_alike _ (rewritten number files) world.filesystems
      (λ x m. cc (number_of_filesystem world number, by x m (nat_eq number x.number) refl))
    where
      by : (x : Filesystem ℕ) → Among x world.filesystems → (b : Bool) → nat_eq number x.number ≡ b
          → cond b (with_files (filesystem_numbered nat_eq world number) files) x ≡ cond b
          (record x { files = files }) x
      by x m true e = ap (λ (f : Filesystem ℕ). record f { files = files }) (found x m number e)
      by x m false e = refl

  pub replaced_is_remerged : (number upper : ℕ) (overlay : Overlay ℕ) (merge : Merge ℕ) → upper ≢ number
      → (filesystem_numbered nat_eq world number).overlay ≡ Some overlay
      → map (replaced_if_numbered nat_eq (with_files (filesystem_numbered nat_eq world upper) merge.upper))
      (map (replaced_if_numbered nat_eq (record (filesystem_numbered nat_eq world number) {
        files = merge.files;
        overlay = Some (with_real_objects merge overlay);
      })) world.filesystems) ≡ map (λ x. rewritten upper merge.upper (remerged number merge x)) world.filesystems
  replaced_is_remerged number upper overlay merge elsewhere is =
      map_twice (replaced_if_numbered nat_eq (with_files (filesystem_numbered nat_eq world upper) merge.upper))
      (replaced_if_numbered nat_eq new) world.filesystems ∙ map_alike
      (λ x. replaced_if_numbered nat_eq (with_files (filesystem_numbered nat_eq world upper) merge.upper)
      (replaced_if_numbered nat_eq new x)) (λ x. rewritten upper merge.upper (remerged number merge x)) _
      (λ x m. ap (replaced_if_numbered nat_eq (with_files (filesystem_numbered nat_eq world upper) merge.upper))
      (ap (λ n. cond (nat_eq n x.number) new x) (number_of_filesystem world number) ∙ merged x m
      (nat_eq number x.number) refl) ∙ ap (λ n. cond (nat_eq n (remerged number merge x).number)
      (with_files (filesystem_numbered nat_eq world upper) merge.upper) (remerged number merge x))
      (number_of_filesystem world upper) ∙ above x m (nat_eq upper (remerged number merge x).number) refl)
    where
      new : Filesystem ℕ
      new = record (filesystem_numbered nat_eq world number) {
        files = merge.files;
        overlay = Some (with_real_objects merge overlay);
      }

      merged : (x : Filesystem ℕ) → Among x world.filesystems → (b : Bool) → nat_eq number x.number ≡ b
          → cond b new x ≡ cond b (record x {
            files = merge.files;
            overlay = option_map (with_real_objects merge) x.overlay;
          }) x
      merged x m b e = grind (arith, common_steps, found)

      other_there : (x : Filesystem ℕ) → nat_eq upper x.number ≡ true → remerged number merge x ≡ x
      other_there x e = grind (arith, common_steps, eqb-true upper x.number e)

      above : (x : Filesystem ℕ) → Among x world.filesystems → (b : Bool)
          → nat_eq upper (remerged number merge x).number ≡ b
          → cond b (with_files (filesystem_numbered nat_eq world upper) merge.upper) (remerged number merge x)
          ≡ cond b (record (remerged number merge x) { files = merge.upper }) (remerged number merge x)
      above x m true e =
          let at : nat_eq upper x.number ≡ true = cc (remerged_number number merge x) in
          ap (λ (f : Filesystem ℕ). record f { files = merge.upper }) (found x m upper at ∙ sym (other_there x at))
      above x m false e = refl

  abbrev is_used : ℕ → Bool
  is_used number = is_among nat_eq number (used_filesystems nat_eq world names)

  abbrev has_lower : ℕ → Bool
  has_lower number = list_any (λ (layer : Layer ℕ). nat_eq number layer.filesystem) (own_lowers nat_eq world names)

  unused_differs : (number : ℕ) → is_used number ≡ false → (x : Filesystem ℕ) → is_used x.number ≡ true
      → nat_eq number x.number ≡ false
  unused_differs number unused x used = false_from_ne_true _ (λ e. cc (used, eqb-true number x.number e, unused))

  -- what the part has of a tree that keeps what lies under their layers
  lowered_stays : (number : ℕ) (files : FileTree ℕ)
      → KeepsBelow (filesystem_numbered nat_eq world number).files files number (own_lowers nat_eq world names)
      → (x : Filesystem ℕ) → Among x world.filesystems
      → lowered_by (used_filesystems nat_eq world names) (own_lowers nat_eq world names)
      (rewritten number files x).files (rewritten number files x)
      ≡ lowered_by (used_filesystems nat_eq world names) (own_lowers nat_eq world names) x.files x
  lowered_stays number files keeps x m = by (nat_eq number x.number) refl
    where
      lowered : Filesystem ℕ → Filesystem ℕ
      lowered y = lowered_by (used_filesystems nat_eq world names) (own_lowers nat_eq world names) y.files y

      by : (b : Bool) → nat_eq number x.number ≡ b → lowered (cond b (record x { files = files }) x) ≡ lowered x
      by true e = ap (λ (f : FileTree ℕ). record x { files = f; change = 0 })
          (lower_part_stays x.files files x.number (own_lowers nat_eq world names)
          (subst (λ n. KeepsBelow x.files files n (own_lowers nat_eq world names)) (eqb-true number x.number e)
          (subst (λ (f : Filesystem ℕ). KeepsBelow f.files files number (own_lowers nat_eq world names))
          (found x m number e) keeps)))
      by false e = refl

  -- A change of a plain tree
  pub plain_step : (number : ℕ) (files : FileTree ℕ) → is_used number ≡ false → (has_lower number ≡ true
      → KeepsBelow (filesystem_numbered nat_eq world number).files files number (own_lowers nat_eq world names))
      → IsFilesStep world names (rewritten number files)
  plain_step number files unused keeps = record {
    number = rewritten_number number files;
    overlay = λ x. ap is_some (rewritten_overlay number files x);
    layers = λ layer x. ap (overlay_or false (λ overlay. list_any (λ l. nat_eq layer l.filesystem) (layers_of overlay)))
        (rewritten_overlay number files x);
    used = λ x m used. ap (λ b. cond b (record x { files = files }) x) (unused_differs number unused x used);
    lower = λ x m lower. by x m lower (nat_eq number x.number) refl;
  }
    where
      lowered : Filesystem ℕ → Filesystem ℕ
      lowered y = lowered_by (used_filesystems nat_eq world names) (own_lowers nat_eq world names) y.files y

      by : (x : Filesystem ℕ) → Among x world.filesystems → has_lower x.number ≡ true → (b : Bool)
          → nat_eq number x.number ≡ b → lowered (rewritten number files x) ≡ lowered x
      by x m lower true e = lowered_stays number files (keeps (cc (eqb-true number x.number e))) x m
      by x m lower false e = ap lowered (ap (λ b. cond b (record x { files = files }) x) e)

  -- and of an overlay, with its upper layer
  pub merged_step : (number upper : ℕ) (merge : Merge ℕ) → is_used number ≡ false → is_used upper ≡ false
      → has_lower number ≡ false → (has_lower upper ≡ true
      → KeepsBelow (filesystem_numbered nat_eq world upper).files merge.upper upper (own_lowers nat_eq world names))
      → IsFilesStep world names (λ x. rewritten upper merge.upper (remerged number merge x))
  merged_step number upper merge unused unused_upper no_lower keeps = record {
    number = λ x. above.number (remerged number merge x) ∙ remerged_number number merge x;
    overlay = λ x. above.overlay (remerged number merge x) ∙ remerged_overlay number merge x;
    layers = λ layer x. above.layers layer (remerged number merge x) ∙ remerged_layers layer number merge x;
    used = λ x m used. cc (stays x (unused_differs number unused x used), above.used x m used);
    lower = λ x m lower.
        ap (λ y. lowered (rewritten upper merge.upper y)) (stays x (false_from_ne_true (nat_eq number x.number) (λ e.
        true≢false (sym lower ∙ ap has_lower (sym (eqb-true number x.number e)) ∙ no_lower)))) ∙ above.lower x m lower;
  }
    where
      above : IsFilesStep world names (rewritten upper merge.upper)
      above = plain_step upper merge.upper unused_upper keeps

      lowered : Filesystem ℕ → Filesystem ℕ
      lowered y = lowered_by (used_filesystems nat_eq world names) (own_lowers nat_eq world names) y.files y

      stays : (x : Filesystem ℕ) → nat_eq number x.number ≡ false → remerged number merge x ≡ x
      stays x e = grind (arith, common_steps)
