-- What a change of an overlay adds to its tree and to its upper layer: inodes that are there as real objects or by
-- name.
use Rattle.std.proofs.Common.{◌≡◌, refl, sym, ap, subst, ◌∙◌, ◌⊎◌, inl, inr, ⊎_elim, true≢false, ℕ, nat_eq, eq-eqb, Bool, true, cond, List, Option, Some, None, is_some, arith}
use Rattle.vt_spec.proofs.Common.{AddName, Change, CopyUp, FileTree, Fresh, HasName, IsTree, Make, Merge, Move, Real, Remove, SetAttr, SetBytes, SetMark, Shown, Stack, Upper, changed, copied_up, directory_used, entry_at, eqb_tells, evens, hides_directory, merge_changed, merge_with_moved, merge_without_name, name_left_by, odds, shown_in_lowers_at, upper_directory_named, upper_object, upper_of, with_mark, with_moved, without_contents, common_steps}
use Rattle.vt_laws_trees.specs.Layers.Layers.ChangesUpper.{IsFitToChange, IsNewBy}
use Rattle.vt_laws_trees.proofs.layers.layers.CopyingChanges.{moved_with, object_there, removed_with}
use Rattle.vt_laws_trees.proofs.layers.layers.CopyingEachChange.{among_first, by_evens, in_own_line, then_odd_evens}
use Rattle.vt_laws_trees.proofs.layers.layers.CopyingNames.{LeftWith}
use Rattle.vt_laws_trees.proofs.layers.layers.CopyingReady.{leaves_upper, parent_in_line}
use Rattle.vt_laws_trees.proofs.layers.layers.CopyingSound.{IsSound, State}
use Rattle.vt_laws_trees.proofs.layers.layers.UpperLine.{has_entries, named_so}
use Rattle.vt_laws_mounts.specs.LettingGo.FileChanges.{MayChange}
use Rattle.vt_laws_mounts.proofs.letting_go.Lists.{Among, among_numbers}
use Rattle.vt_laws_worlds.specs.OverlaysLetGo.OverlayChanges.{NameIsThere}
use Rattle.vt_laws_worlds.proofs.overlays_let_go.changing.Copied.{Grows, grows_twice, grows_up, numbers_emptied, numbers_marked, numbers_moved, numbers_stay, root_moved}
use Rattle.vt_spec.proofs.Worlds.{root-emptied, root-marked, root-name_left_by}

-- a change of an overlay
pub record Adds (change : Change ℕ) (before later : Merge ℕ) : Type 0 where
  pub files : later.files ≡ changed nat_eq before.files change
  pub root : later.upper.tree.root ≡ before.upper.tree.root
  pub grows : (number object : ℕ) → upper_object (before.real number) ≡ Some object
      → upper_object (later.real number) ≡ Some object
  -- what has a real object is there
  pub reals : (number : ℕ) → is_some (later.real number) ≡ true → Among number later.files.numbers
  -- an inode of the upper layer was there, is a real object, or has a name
  pub numbers : (inode : ℕ) → Among inode later.upper.numbers → Among inode before.upper.numbers
      ⊎ (((number : ℕ) × Among number later.files.numbers × (upper_object (later.real number) ≡ Some inode))
      ⊎ HasName later.upper.tree inode)

-- Whiteouts have a name
module _ {files : FileTree ℕ} (tree : IsTree files.tree) {first : ℕ → Option (Real ℕ)} (fresh : Fresh ℕ)
    (stack : Stack ℕ) {real : ℕ → Option (Real ℕ)} {upper : FileTree ℕ}
    (sound : IsSound files first (IsNewBy fresh) real upper) where
  abbrev here : Merge ℕ
  here = State files first (IsNewBy fresh) real upper

  abbrev WasOrIsNamed : FileTree ℕ → ℕ → Type 0
  WasOrIsNamed later inode = Among inode upper.numbers ⊎ HasName later.tree inode

  removed_named : (directory : ℕ) (name : List ℕ) (object seen : ℕ) → entry_at files.tree directory name ≡ Some object
      → upper_object (real directory) ≡ Some seen → (inode : ℕ)
      → Among inode (merge_without_name nat_eq fresh stack here directory name object).upper.numbers
      → WasOrIsNamed (merge_without_name nat_eq fresh stack here directory name object).upper inode
  removed_named directory name object seen e has inode = by _
      (removed_with tree fresh stack sound _ name object seen e has)
    where
      later : Option (Shown ℕ) → FileTree ℕ
      later o = without_contents nat_eq (name_left_by nat_eq (is_some o) fresh stack upper
          (upper_of here directory) name) (upper_directory_named here directory name)

      by : (o : Option (Shown ℕ)) → LeftWith (fresh 0) o stack (later o) (upper_of here directory) name
          → Among inode (later o).numbers → WasOrIsNamed (later o) inode
      by None left m = inl (subst (Among inode) (numbers_emptied _ (upper_directory_named here directory name)) m)
      by (Some shown) left m = ⊎_elim (λ same. inr (upper_of here directory, name, cc)) inl
          (subst (Among inode) (numbers_emptied _ (upper_directory_named here directory name)) m)

  moved_named : (from : ℕ) (old : List ℕ) (to : ℕ) (name : List ℕ) (object seen_from seen : ℕ)
      → entry_at files.tree from old ≡ Some object
      → upper_object (real from) ≡ Some seen_from → upper_object (real object) ≡ Some seen → (inode : ℕ)
      → Among inode (merge_with_moved nat_eq fresh stack here from old to name object).upper.numbers
      → WasOrIsNamed (merge_with_moved nat_eq fresh stack here from old to name object).upper inode
  moved_named from old to name object seen_from seen e has_from has inode =
      by (shown_in_lowers_at nat_eq stack here from old)
      (moved_with tree fresh stack sound from old to name object seen_from seen e has_from has)
    where
      away : FileTree ℕ
      away = with_moved nat_eq (without_contents nat_eq upper (upper_directory_named here to name))
          (upper_of here from) old (upper_of here to) name (upper_of here object)

      mark : Bool
      mark = hides_directory nat_eq stack here to name

      later : Option (Shown ℕ) → FileTree ℕ
      later o = with_mark nat_eq mark (name_left_by nat_eq (is_some o) fresh stack away (upper_of here from) old)
          (upper_of here object)

      was : Among inode away.numbers → Among inode upper.numbers
      was m = subst (Among inode)
          (numbers_moved (without_contents nat_eq upper (upper_directory_named here to name)) (upper_of here from) old
          (upper_of here to) name (upper_of here object) ∙ numbers_emptied upper (upper_directory_named here to name)) m

      by : (o : Option (Shown ℕ)) → LeftWith (fresh 0) o stack (later o) (upper_of here from) old
          → Among inode (later o).numbers → WasOrIsNamed (later o) inode
      by None left m = inl (was (subst (Among inode) (numbers_marked mark _ (upper_of here object)) m))
      by (Some shown) left m =
          ⊎_elim (λ same. inr (upper_of here from, old, left.0 ∙ ap Some (sym same))) (λ l. inl (was l))
          (subst (Among inode) (numbers_marked mark _ (upper_of here object)) m)

module _ (fresh : Fresh ℕ) (stack : Stack ℕ) (before : Merge ℕ) (fit : IsFitToChange fresh before)
    (reals : (number : ℕ) → is_some (before.real number) ≡ true → is_some (before.files.tree.node number) ≡ true) where
  listed : (number : ℕ) → is_some (before.files.tree.node number) ≡ true → Among number before.files.numbers
  listed number is = among_numbers number before.files.numbers (fit.numbers number ∙ is)

  there_still : (copied : Merge ℕ) → Grows before copied → (number : ℕ) → is_some (copied.real number) ≡ true
      → is_some (before.files.tree.node number) ≡ true
  there_still copied grown number h = ⊎_elim (reals number) (λ is. is) (grown.there number h)

  -- where what is copied is changed, with no new real object
  adds_no_object : (change : Change ℕ) (copied later : Merge ℕ) → Grows before copied
      → later.files ≡ changed nat_eq copied.files change
      → later.real ≡ copied.real → later.upper.tree.root ≡ copied.upper.tree.root
      → ((inode : ℕ) → Among inode later.upper.numbers
      → Among inode copied.upper.numbers ⊎ HasName later.upper.tree inode) → Adds change before later
  adds_no_object change copied later grown files real root numbers = record {
    files = files_so;
    root = root ∙ grown.root;
    grows = λ number object e. ap (λ r. upper_object (r number)) real ∙ grown.grows number object e;
    reals = λ number h. there_later number
        (there_still copied grown number (ap (λ r. is_some (r number)) (sym real) ∙ h));
    numbers = λ inode m. ⊎_elim (λ was. ⊎_elim inl
        (λ new. inr (inl (new.0, there_later new.0 new.1, ap (λ r. upper_object (r new.0)) real ∙ new.2)))
        (grown.numbers inode was)) (λ named. inr (inr named)) (numbers inode m);
  }
    where
      files_so : later.files ≡ changed nat_eq before.files change
      files_so = cc (files, grown.files)

      there_later : (number : ℕ) → is_some (before.files.tree.node number) ≡ true → Among number later.files.numbers
      there_later number is = subst (λ (f : FileTree ℕ). Among number f.numbers) (sym files_so)
          (numbers_stay before.files change number (listed number is))

  pub adds : (change : Change ℕ) → MayChange before.files change → NameIsThere before.files change
      → Adds change before (merge_changed nat_eq fresh stack before change)
  adds (Make directory name number node) may named = record {
    files = files_so;
    root = root-marked mark _ (odds fresh 0) ∙ grown.root;
    grows = λ other object e. ⊎_elim (λ same. absurd (true≢false (sym
        (there_still copied grown other (seen_real other object (grown.grows other object e)))
        ∙ ap (λ n. is_some (before.files.tree.node n)) same.1 ∙ ap is_some may.is_new)))
        (λ differ. ap (λ b. upper_object (cond b (Some (Upper (odds fresh 0))) (copied.real other))) differ.0
        ∙ grown.grows other object e) (eqb_tells other number);
    reals = λ other h. ⊎_elim (λ same. subst (λ (f : FileTree ℕ). Among other f.numbers) (sym files_so) (inl same.1))
        (λ differ. there_later other (there_still copied grown other
        (ap (λ b. is_some (cond b (Some (Upper (odds fresh 0))) (copied.real other))) (sym differ.0) ∙ h)))
        (eqb_tells other number);
    numbers = λ inode m. ⊎_elim (λ new. inr (inl (
      number,
      subst (λ (f : FileTree ℕ). Among number f.numbers) (sym files_so) (inl refl),
      ap (λ b. upper_object (cond b (Some (Upper (odds fresh 0))) (copied.real number)))
          (eq-eqb number number refl) ∙ ap Some (sym new),
    ))) (λ old. ⊎_elim inl (λ new. inr (inl (new.0, there_later new.0 new.1, later_real new.0 inode new.1 new.2)))
        (grown.numbers inode old)) (subst (Among inode) (numbers_marked mark _ (odds fresh 0)) m);
  }
    where
      copied : Merge ℕ
      copied = copied_up nat_eq (evens fresh) before directory

      grown : Grows before copied
      grown = grows_up (evens fresh) before directory

      mark : Bool
      mark = hides_directory nat_eq stack copied directory name

      files_so : (merge_changed nat_eq fresh stack before (Make directory name number node)).files
          ≡ changed nat_eq before.files (Make directory name number node)
      files_so = ap (λ f. changed nat_eq f (Make directory name number node)) grown.files

      seen_real : (other object : ℕ) → upper_object (copied.real other) ≡ Some object
          → is_some (copied.real other) ≡ true
      seen_real other object e = grind (arith, common_steps)

      there_later : (other : ℕ) → is_some (before.files.tree.node other) ≡ true
          → Among other (merge_changed nat_eq fresh stack before (Make directory name number node)).files.numbers
      there_later other is = subst (λ (f : FileTree ℕ). Among other f.numbers) (sym files_so) (inr (listed other is))

      later_real : (other inode : ℕ) → is_some (before.files.tree.node other) ≡ true
          → upper_object (copied.real other) ≡ Some inode
          → upper_object ((merge_changed nat_eq fresh stack before (Make directory name number node)).real other)
          ≡ Some inode
      later_real other inode is e = ⊎_elim (λ same. absurd (cc (same.1, may.is_new)))
          (λ differ. ap (λ b. upper_object (cond b (Some (Upper (odds fresh 0))) (copied.real other))) differ.0 ∙ e)
          (eqb_tells other number)
  adds (AddName directory name object) may named =
      let first = copied_up nat_eq (evens fresh) before object in
      let copied = copied_up nat_eq (odds fresh) first directory in
      adds_no_object (AddName directory name object) copied
      (merge_changed nat_eq fresh stack before (AddName directory name object))
      (grows_twice before first copied (grows_up (evens fresh) before object) (grows_up (odds fresh) first directory))
      refl refl refl (λ inode m. inl m)
  adds (Remove directory name object) may named =
      let ready = by_evens fresh stack before fit directory in
      let seen = object_there ready.soundly.real directory
      (ready.all directory (in_own_line fresh stack before fit directory) (directory_used before.files.tree directory
      (has_entries before.files.tree directory name object named))) in
      adds_no_object (Remove directory name object) (copied_up nat_eq (evens fresh) before directory)
      (merge_changed nat_eq fresh stack before (Remove directory name object))
      (grows_up (evens fresh) before directory) refl refl
      (root-emptied _ (upper_directory_named (copied_up nat_eq (evens fresh) before directory) directory name)
      ∙ root-name_left_by (is_some
      (shown_in_lowers_at nat_eq stack (copied_up nat_eq (evens fresh) before directory) directory name))
      (odds fresh) stack (copied_up nat_eq (evens fresh) before directory).upper
      (upper_of (copied_up nat_eq (evens fresh) before directory) directory) name)
      (subst (λ m. (inode : ℕ) → Among inode (merge_without_name nat_eq
      (odds fresh) stack m directory name object).upper.numbers → Among inode m.upper.numbers ⊎ HasName
      (merge_without_name nat_eq (odds fresh) stack m directory name object).upper.tree inode) (sym ready.soundly.is)
      (removed_named fit.tree (odds fresh) stack ready.soundly.sound directory name object seen.0 named seen.1))
  adds (Move from old to new object) may named =
      let ready = then_odd_evens fresh stack before fit object to in
      let is = fit.tree.alive from old object may.named in
      let grows = λ (number : ℕ) (h : is_some (upper_object (before.real number)) ≡ true).
      let stood = object_there before.real number h in ap is_some (ready.soundly.grows number stood.0 stood.1) in
      let from_upper = leaves_upper fresh before fit ready.soundly.real grows from old object may.named
      (λ name e. ready.all name.0 (among_first fresh stack before fit name.0 object to
      (parent_in_line before.files object name e))
      (directory_used before.files.tree name.0 (has_entries before.files.tree name.0 name.1 object
      (named_so before.files fit.tree object name e)))) in
      let seen_from = object_there ready.soundly.real from from_upper in
      let seen = object_there ready.soundly.real object
      (ready.all object (among_first fresh stack before fit object object to
      (in_own_line fresh stack before fit object)) is) in
      let first = copied_up nat_eq (evens fresh) before object in
      let copied = copied_up nat_eq (evens (odds fresh)) first to in
      adds_no_object (Move from old to new object) copied
      (merge_changed nat_eq fresh stack before (Move from old to new object))
      (grows_twice before first copied (grows_up (evens fresh) before object)
      (grows_up (evens (odds fresh)) first to)) refl refl
      (root-marked (hides_directory nat_eq stack copied to new) _ (upper_of copied object)
      ∙ root-name_left_by (is_some (shown_in_lowers_at nat_eq stack copied from old)) (odds (odds fresh)) stack _
      (upper_of copied from) old
      ∙ root_moved (without_contents nat_eq copied.upper (upper_directory_named copied to new))
      (upper_of copied from) old (upper_of copied to) new (upper_of copied object)
      ∙ root-emptied copied.upper (upper_directory_named copied to new)) (subst (λ m. (inode : ℕ) → Among inode
      (merge_with_moved nat_eq (odds (odds fresh)) stack m from old to new object).upper.numbers
      → Among inode m.upper.numbers ⊎ HasName
      (merge_with_moved nat_eq (odds (odds fresh)) stack m from old to new object).upper.tree inode)
      (sym ready.soundly.is) (moved_named fit.tree (odds (odds fresh)) stack ready.soundly.sound
      from old to new object seen_from.0 seen.0 may.named seen_from.1 seen.1))
  adds (SetBytes file bytes) may named = adds_no_object (SetBytes file bytes) (copied_up nat_eq fresh before file)
      (merge_changed nat_eq fresh stack before (SetBytes file bytes))
      (grows_up fresh before file) refl refl refl (λ inode m. inl m)
  adds (SetAttr object attr) may named = adds_no_object (SetAttr object attr) (copied_up nat_eq fresh before object)
      (merge_changed nat_eq fresh stack before (SetAttr object attr))
      (grows_up fresh before object) refl refl refl (λ inode m. inl m)
  adds (SetMark directory opaque) may named =
      adds_no_object (SetMark directory opaque) (copied_up nat_eq fresh before directory)
      (merge_changed nat_eq fresh stack before (SetMark directory opaque))
      (grows_up fresh before directory) refl refl refl (λ inode m. inl m)
  adds (CopyUp object) may named = adds_no_object (CopyUp object) (copied_up nat_eq fresh before object)
      (merge_changed nat_eq fresh stack before (CopyUp object))
      (grows_up fresh before object) refl refl refl (λ inode m. inl m)
