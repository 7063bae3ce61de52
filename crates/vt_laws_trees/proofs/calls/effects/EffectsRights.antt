-- A right stands behind each effect.
use Rattle.std.proofs.Common.{arith, Bool, List, None, Option, Result, Some, [], ap, eqb-true, false, inl, inr, nat_eq, refl, subst, sym, true, true≢false, ℕ, ◌&&◌, ◌==◌, ◌||◌, ◌∙◌, ◌∷◌, ◌≡◌, Ok, ◌⊎◌}
use Rattle.vt_spec.proofs.Common.{Call, Change, Fresh, Location, Looks, Node, NoneFails, Permit, Place, SetAttr, Stop, Task, ToChange, ToRename, ToWritePart, World, after, and_parts, attr_at, attr_in, attr_with_mode, attr_with_owner, bytes_of, cap_sys_admin, common_steps, descriptor_found, descriptor_numbered, entries_of, entry_named, execute_right, has_all, holds_of, is_among, is_directory_there, is_special, judged, looks_of, may_chown, may_not, mount_at, name_of, node_allows, node_at, opaque_of, or_parts, overfills, owns, rename_rules, same_Some, special_word, write_right, ⊤}
use Rattle.vt_laws_trees.proofs.calls.effects.EffectsSearched.{IsSearched, MaySearch, searched_file_walk, searched_new_leaf_walk, searched_new_walk, searched_old_leaf_walk, searched_old_walk, searched_rename_walk}
use Rattle.vt_laws_trees.proofs.calls.inodes.InodesEntries.{other_entries_stay}
use Rattle.vt_laws_trees.proofs.calls.inodes.InodesOwn.{calls_change_their_own}
use Rattle.vt_laws_trees.proofs.calls.inodes.InodesPartLaws.{only_chmod_changes_modes, only_chown_changes_owners, only_naming_changes_entries, only_opaque_changes_marks, only_writes_change_bytes}
use Rattle.vt_laws_trees.specs.Calls.Effects.{ChangesAreByRight, HasOpenFor, MayDo}
use Rattle.vt_laws_trees.specs.Calls.Inodes.{IsNotHanded, StaysIfThere, change_of, changes_names, entries_named_by, is_own, is_own_entry, owner_of, same_entry, sets_mark, sets_mode, sets_owner, writes_bytes}
use Rattle.vt_laws_rules.proofs.given.Ways.{calls_are_granted}
use Rattle.vt_laws_rules.proofs.given.Ways.{IsGranted}
use Rattle.vt_laws_rules.proofs.given.Ways.IsGranted.{changes_mark, changes_mode, changes_owner, creates, creates_exclusively, keeps_names, makes_directory, makes_hard_link, makes_symlink, makes_whiteout, opens, opens_existing, overwrites_file, removes_directory, renames, unlinks, writes_new_file, writes_part}
use Rattle.vt_spec.specs.Rights.{cap_chown, is_member}
use Rattle.vt_spec.specs.declared.attributes.Attr.{Attr}
use Rattle.vt_laws_trees.proofs.trees.TreesWalked.{Ends, at_end, not-false}
use Rattle.vt_laws_trees.specs.Trees.Settling.{inode_in}

-- Entries
module _ (fresh : Fresh ℕ) (world : World ℕ) (task : Task ℕ) where
  abbrev looks : Looks ℕ
  looks = looks_of nat_eq world

  abbrev MayEnter : ℕ → ℕ → Type 0
  MayEnter filesystem number = MayDo world task filesystem number write_right
      × MayDo world task filesystem number execute_right

  -- the directories whose entries a change names may be written and searched
  abbrev NamedRights : Option (Location ℕ × Change ℕ) → Type 0
  NamedRights None = ⊤
  NamedRights (Some made) =
      (directory : ℕ) (name : List ℕ) → is_among same_entry (directory, name) (entries_named_by made.1) ≡ true
      → MayEnter (mount_at nat_eq world made.0).filesystem directory

  abbrev HasRights : Permit ℕ → Type 0
  HasRights permit = NamedRights (change_of fresh world permit)

  abbrev MayAt : Location ℕ → Type 0
  MayAt location = (node_allows task.credentials write_right (node_at nat_eq world location) ≡ true)
      × (node_allows task.credentials execute_right (node_at nat_eq world location) ≡ true)

  one : (location : Location ℕ) (entry : List ℕ) → MayAt location → (directory : ℕ) (name : List ℕ)
      → is_among same_entry (directory, name) ((location.node, entry) ∷ []) ≡ true
      → MayEnter (mount_at nat_eq world location).filesystem directory
  one location entry may directory name e = grind (arith, common_steps, may, eqb-true, true≢false)

  abbrev Granted : Call → Permit ℕ → Type 0
  Granted = IsGranted nat_eq looks (overfills nat_eq fresh world task) task

  -- rename(2): both places are on one mount
  renamed_named : (from to : Place ℕ) (old : Location ℕ) (replaced : Option (Location ℕ))
      → NoneFails (rename_rules nat_eq looks task from to old)
      → MaySearch world task from.parent → MaySearch world task to.parent
      → HasRights (ToRename from.parent (name_of from.last) to.parent (name_of to.last) old replaced)
  renamed_named from to old replaced passed from_searched to_searched directory name e = by _ refl e
    where
      may : (may_not looks task from.parent write_right ≡ false) × (may_not looks task to.parent write_right ≡ false)
      may = or_parts _ _ passed.1.1.1.1.1.1.1.1.1.0

      by : (b : Bool) → same_entry (directory, name) (from.parent.node, name_of from.last) ≡ b
          → (same_entry (directory, name) (from.parent.node, name_of from.last)
          || is_among same_entry (directory, name) ((to.parent.node, name_of to.last) ∷ [])) ≡ true
          → MayEnter (mount_at nat_eq world from.parent).filesystem directory
      by true f e = one from.parent _ (not-false _ may.0, from_searched) directory name (ap (λ b. b || false) f)
      by false f e =
          let mounts : from.parent.mount ≡ to.parent.mount = eqb-true from.parent.mount to.parent.mount
          (not-false _ passed.1.1.1.1.1.1.1.1.0) in
          subst (λ m. MayEnter (mount_at nat_eq world
          (record { mount = m; node = from.parent.node })).filesystem directory) (sym mounts)
          (one to.parent (name_of to.last) (not-false _ may.1, to_searched) directory name
          (ap (λ b. b || is_among same_entry (directory, name) ((to.parent.node, name_of to.last) ∷ [])) (sym f) ∙ e))

  -- where a walk ends, the directory of a name may be searched
  searched : (walk : Result (Place ℕ) (Stop ℕ)) (place : Place ℕ) → walk ≡ Ok place
      → Ends (IsSearched world task) walk → is_special place.last ≡ false → MaySearch world task place.parent
  searched walk place end ends = at_end (IsSearched world task) walk place ends end

  names_granted : (call : Call) (permit : Permit ℕ) → Granted call permit → changes_names call ≡ true → HasRights permit
  names_granted call permit (overwrites_file path bytes place file end named there passed) changes =
      λ directory name e. absurd (true≢false (sym e))
  names_granted call permit (writes_new_file path bytes place end named missing fits passed) changes = one _ _ (
    not-false _ passed.1.1.1.0,
    searched _ place end (searched_file_walk world task path) (or_parts _ place.slash named.0).0,
  )
  names_granted call permit (makes_directory path mode place end passed) changes = one place.parent _ (
    not-false _ passed.1.1.1.1.1.0,
    searched _ place end (searched_new_walk world task path) passed.0,
  )
  names_granted call permit (makes_symlink text path place fits end passed) changes = one place.parent _ (
    not-false _ passed.1.1.1.1.1.0,
    searched _ place end (searched_new_leaf_walk world task path) passed.0,
  )
  names_granted call permit (makes_whiteout path place end passed) changes = one place.parent (name_of place.last) (
    not-false _ passed.1.1.1.1.1.0,
    searched _ place end (searched_new_leaf_walk world task path) passed.0,
  )
  names_granted call permit (makes_hard_link old new from place from_end end named passed) changes = one _ _ (
    not-false _ passed.1.1.1.1.1.1.0,
    searched _ place end (searched_new_leaf_walk world task new) named.0,
  )
  names_granted call permit (unlinks path place end named passed) changes = one place.parent (name_of place.last) (
    not-false _ passed.1.1.1.1.0,
    searched _ place end (searched_old_leaf_walk world task path) named.0,
  )
  names_granted call permit (removes_directory path place end word passed) changes = one place.parent _ (
    not-false _ passed.1.1.1.1.1.1.0,
    searched _ place end (searched_old_walk world task path) (special_word place.last word.0 word.1.0 word.1.1.0),
  )
  names_granted call permit (keeps_names old new from to names same passed) changes = tt
  names_granted call permit (renames old new from to names two passed) changes = renamed_named from to _ to.object
      passed (searched _ from names.from_end (searched_old_leaf_walk world task old) names.from_named.0) (searched _
      to names.to_end (searched_rename_walk world task new (is_directory_there nat_eq looks from)) names.to_named.0)
  names_granted call permit (opens path access here room end passed) changes = tt
  names_granted call permit (opens_existing path access mode place file room end named there passed) changes = tt
  names_granted call permit (creates path access mode place room end named missing passed) changes = one _ _ (
    not-false _ passed.1.1.1.0,
    searched _ place end (searched_file_walk world task path) (or_parts _ place.slash named.0).0,
  )
  names_granted call permit (creates_exclusively path access mode place room end named passed) changes = one _ _ (
    not-false _ passed.1.1.1.0,
    searched _ place end (searched_new_walk world task path) named.0,
  )
  names_granted call permit granted changes = absurd (true≢false (sym changes))

-- Bytes and attributes
module _ (fresh : Fresh ℕ) (world : World ℕ) (task : Task ℕ) (filesystem number : ℕ)
    (handed : IsNotHanded fresh number) where
  abbrev shown : Looks ℕ
  shown = looks_of nat_eq world

  head_two : (a b c : Bool) → (a && (b || (c || false))) ≡ true → c ≡ false → (a ≡ true) × (b ≡ true)
  head_two true true c e f = (refl, refl)
  head_two true false true e f = absurd (true≢false f)
  head_two true false false e f = absurd (true≢false (sym e))
  head_two false b c e f = absurd (true≢false (sym e))

  -- what is said of the inode at a location is said of the one that is named
  at_location : (P : ℕ → ℕ → Type 0) (location : Location ℕ)
      → P (mount_at nat_eq world location).filesystem location.node
      → (nat_eq filesystem (mount_at nat_eq world location).filesystem && (nat_eq number location.node || false)) ≡ true
      → P filesystem number
  at_location P location is e = grind (arith, common_steps, head_two, eqb-true)

  at_directory : (P : ℕ → ℕ → Type 0) (location : Location ℕ)
      → P (mount_at nat_eq world location).filesystem location.node
      → (nat_eq filesystem (mount_at nat_eq world location).filesystem && (nat_eq number location.node || (nat_eq number
      (fresh 0) || false))) ≡ true → P filesystem number
  at_directory P location is e =
      let parts = head_two _ (nat_eq number location.node) (nat_eq number (fresh 0)) e (handed 0) in
      subst (λ f. P f number) (sym (eqb-true filesystem (mount_at nat_eq world location).filesystem parts.0))
      (subst (P (mount_at nat_eq world location).filesystem) (sym (eqb-true number location.node parts.1)) is)

  abbrev MayWrite : ℕ → ℕ → Type 0
  MayWrite f n = MayDo world task f n write_right ⊎ HasOpenFor (λ descriptor. descriptor.writes) world task f n

  abbrev WrittenByRight : Permit ℕ → Type 0
  WrittenByRight permit = is_own fresh world permit filesystem number ≡ true → MayWrite filesystem number

  abbrev GrantedHere : Call → Permit ℕ → Type 0
  GrantedHere = IsGranted nat_eq shown (overfills nat_eq fresh world task) task

  bytes_granted : (call : Call) (permit : Permit ℕ) → GrantedHere call permit → writes_bytes call ≡ true
      → WrittenByRight permit
  bytes_granted call permit (overwrites_file path bytes place file end named there passed) writes =
      at_location MayWrite file (inl (not-false _ passed.1.1.1.1.1.1.0))
  bytes_granted call permit (writes_new_file path bytes place end named missing fits passed) writes =
      at_directory MayWrite place.parent (inl (not-false _ passed.1.1.1.0))
  bytes_granted call permit (writes_part which offset bytes descriptor found passed) writes = by bytes
    where
      there : (descriptor_numbered task which ≡ Some descriptor) × (descriptor.writes ≡ true)
      there = descriptor_found task which (λ d. d.writes) descriptor found

      by : (bytes : List ℕ) → WrittenByRight (ToWritePart descriptor.location offset bytes)
      by [] e = absurd (true≢false (sym e))
      by (byte ∷ bytes) e =
          at_location MayWrite descriptor.location (inr (descriptor, which, there.0, there.1, refl, refl)) e
  bytes_granted call permit granted writes = absurd (true≢false (sym writes))

  -- attributes
  abbrev OwnedSo : (Node ℕ → Bool) → Permit ℕ → Type 0
  OwnedSo so permit =
      is_own fresh world permit filesystem number ≡ true → (was : Node ℕ) → inode_in world filesystem number ≡ Some was
      → so was ≡ true

  set_so : (so : Node ℕ → Bool) (here : Location ℕ) (so_attr : Attr → Bool)
      → so_attr (attr_in (node_at nat_eq world here)) ≡ true → ((was : Node ℕ) → so was ≡ so_attr was.attr)
      → (attr : Attr) → OwnedSo so (ToChange here (SetAttr here.node attr))
  set_so so here so_attr holds same attr = at_location
      (λ f n. (was : Node ℕ) → inode_in world f n ≡ Some was → so was ≡ true) here (λ was is. cc (same was, is, holds))

  mode_granted : (call : Call) (permit : Permit ℕ) → GrantedHere call permit → sets_mode call ≡ true
      → OwnedSo (λ was. owns task.credentials was.attr) permit
  mode_granted call permit (changes_mode path mode here end passed) sets = set_so _
      here.location _ (not-false _ passed.1.1.1.0) (λ was. refl) (attr_with_mode (attr_at shown here.location) mode)
  mode_granted call permit granted sets = absurd (true≢false (sym sets))

  abbrev chowns : Attr → Bool
  chowns attr = has_all task.credentials.capabilities cap_chown || (task.credentials.uid == attr.uid)

  some_of : (a b c d : Bool) → (a || (b && c && d)) ≡ true → (a || b) ≡ true
  some_of true b c d h = refl
  some_of false true c d h = refl
  some_of false false c d h = h

  owner_or : (old new : Attr) → may_chown task.credentials old new ≡ true → chowns old ≡ true
  owner_or old new h = some_of (has_all task.credentials.capabilities cap_chown) (task.credentials.uid == old.uid)
      (new.uid == old.uid) (new.gid == old.gid || is_member task.credentials new.gid) h

  owner_granted : (call : Call) (permit : Permit ℕ) → GrantedHere call permit → sets_owner call ≡ true
      → OwnedSo (λ was. chowns was.attr) permit
  owner_granted call permit (changes_owner path uid gid here end passed) sets = set_so _ here.location
      chowns (owner_or (attr_at shown here.location) (attr_with_owner (attr_at shown here.location) uid gid)
      (not-false _ passed.1.1.1.0)) (λ was. refl) (attr_with_owner (attr_at shown here.location) uid gid)
  owner_granted call permit granted sets = absurd (true≢false (sym sets))

  mark_granted : (call : Call) (permit : Permit ℕ) → GrantedHere call permit → sets_mark call ≡ true
      → has_all task.credentials.capabilities cap_sys_admin ≡ true
  mark_granted call permit (changes_mark path mark here admin end passed) sets = not-false _ admin.0
  mark_granted call permit granted sets = absurd (true≢false (sym sets))

either : {P : Type 0} (b : Bool) → (b ≡ false → P) → (b ≡ true → P) → P
either true is_not is = is refl
either false is_not is = is_not refl

-- what stays where both are there
stays : {A : Type 0} (part : Node ℕ → A) (o p : Option (Node ℕ)) (was now : Node ℕ) → o ≡ Some was → p ≡ Some now
    → StaysIfThere part o p → part now ≡ part was
stays part None p was now e f h = cc
stays part (Some a) None was now e f h = cc
stays part (Some a) (Some b) was now e f h = ap part (same_Some now b (sym f)) ∙ h ∙ ap part (same_Some a was e)

unchanged : (o p : Option (Node ℕ)) (was now : Node ℕ) → o ≡ Some was → p ≡ Some now → (p ≡ o) ⊎ (p ≡ None) → was ≡ now
unchanged o p was now e f (inl same) = same_Some was now (sym e ∙ sym same ∙ f)
unchanged o p was now e f (inr gone) = grind (arith, common_steps)

pub changes_are_by_right : ChangesAreByRight
changes_are_by_right fresh world name call task permit filesystem number was now plain other called judged handed before
    after = record {
      bytes = by_own (λ r. (bytes_of r.content ≡ bytes_of was.content) ⊎ (MayDo world task filesystem number write_right
          ⊎ HasOpenFor (λ descriptor. descriptor.writes) world task filesystem number)) (inl refl) (λ own. either
          (writes_bytes call) (λ e. inl (stays (λ node. bytes_of node.content) (inode_in world filesystem number) _
          was now before after (only_writes_change_bytes fresh world name call filesystem number plain other e handed)))
          (λ e. inr (bytes_granted fresh world task filesystem number handed call permit granted e own)));
      mode = by_own (λ r. (r.attr.mode ≡ was.attr.mode) ⊎ (owns task.credentials was.attr ≡ true)) (inl refl)
          (λ own. either (sets_mode call) (λ e. inl (stays (λ node. node.attr.mode) (inode_in world filesystem number) _
          was now before after (only_chmod_changes_modes fresh world name call filesystem number plain other e handed)))
          (λ e. inr (mode_granted fresh world task filesystem number handed call permit granted e own was before)));
      owner =
          by_own (λ r. (owner_of r ≡ owner_of was) ⊎ (chowns fresh world task filesystem number handed was.attr ≡ true))
          (inl refl) (λ own. either (sets_owner call) (λ e. inl (stays owner_of (inode_in world filesystem number) _ was
          now before after (only_chown_changes_owners fresh world name call filesystem number plain other e handed)))
          (λ e. inr (owner_granted fresh world task filesystem number handed call permit granted e own was before)));
      entries = λ entry. entry_by entry (is_own_entry fresh world permit filesystem number entry) refl;
      mark = either (sets_mark call) (λ e. inl (stays (λ node. opaque_of node.content) _ _ was
          now before after (only_opaque_changes_marks fresh world name call filesystem number plain other e handed)))
          (λ e. inr (mark_granted fresh world task filesystem number handed call permit granted e));
    }
  where
    granted : IsGranted nat_eq (looks_of nat_eq world) (overfills nat_eq fresh world task) task call permit
    granted = calls_are_granted nat_eq (looks_of nat_eq world) _ task call permit judged

    -- an inode that the permit does not name is as it was
    by_own : (P : Node ℕ → Type 0) → P was → (is_own fresh world permit filesystem number ≡ true → P now) → P now
    by_own P same own = either _ (λ e. subst P (unchanged (inode_in world filesystem number) _ was now before after
        (calls_change_their_own fresh world name call task permit filesystem number plain other called judged e)) same)
        own

    entry_by : (entry : List ℕ) (b : Bool) → is_own_entry fresh world permit filesystem number entry ≡ b
        → (entry_named entry (entries_of now.content) ≡ entry_named entry (entries_of was.content))
        ⊎ (MayDo world task filesystem number write_right × MayDo world task filesystem number execute_right)
    entry_by entry false e = inl (stays _ (inode_in world filesystem number) _ was now before after (other_entries_stay
        entry fresh world name call task permit filesystem number plain other called judged e handed))
    entry_by entry true e = either (changes_names call) (λ f. inl (ap (entry_named entry) (stays _ _ _ was
        now before after (only_naming_changes_entries fresh world name call filesystem number plain other f handed))))
        (λ f. inr (rights (change_of fresh world permit) (names_granted fresh world task call permit granted f) e))
      where
        rights : (o : Option (Location ℕ × Change ℕ)) → NamedRights fresh world task o → holds_of (λ made.
            nat_eq filesystem (mount_at nat_eq world made.0).filesystem
            && is_among same_entry (number, entry) (entries_named_by made.1)) o ≡ true
            → MayDo world task filesystem number write_right × MayDo world task filesystem number execute_right
        rights None h g = absurd (true≢false (sym g))
        rights (Some made) h g =
            let parts = and_parts (nat_eq filesystem (mount_at nat_eq world made.0).filesystem) _ g in
            subst (λ f. MayDo world task f number write_right × MayDo world task f number execute_right)
            (sym (eqb-true filesystem (mount_at nat_eq world made.0).filesystem parts.0)) (h number entry parts.1)
