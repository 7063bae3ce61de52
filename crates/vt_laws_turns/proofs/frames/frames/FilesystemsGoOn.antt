-- The filesystems after a permit are those before it, but for those that it changes, or new.
use Rattle.std.proofs.Common.{arith, ◌≡◌, refl, sym, ap, subst, ◌∙◌, ◌⊎◌, ⊎_elim, ℕ, nat_eq, Bool, true, false, cond, List, [], ◌∷◌, ◌++◌, ◌*◌, ◌||◌, map, not, Option, Some, None, eqb-true}
use Rattle.vt_spec.proofs.Common.{Among, Change, CopyUp, Filesystem, Fresh, Layer, Location, Make, Merge, Move, Overlay, Permit, Remove, Task, ToChange, ToEnterNamespace, ToExit, ToMake, ToMountOverlay, ToMountPlain, ToOpen, ToOpenNew, ToRemoveDirectory, ToRename, ToSetType, ToUnmount, ToUnmountLazily, ToUnshare, ToWritePart, World, among-append, among-from_map, apply, changed, changed_at, changed_if, common_steps, evens, filesystem_at, filesystem_changed, filesystem_numbered, filesystems-taken_away, filesystems-without_replaced, filesystems_changed, going, is_copied_up, is_empty, list_any, merge_changed, merge_of, mount_at, mount_numbered, namespace_entered, nat_eq_itself, numbers_of_change, odds, overlay_changed, overlay_filesystem, plain_filesystem, pwritten, replaced_if_numbered, stack_of, unshared, with_change, with_copy, with_files, without_mounts_on, without_replaced, without_task}
use Rattle.vt_laws_trees.proofs.layers.layers.LowersCalls.{same_filesystem}
use Rattle.vt_laws_trees.proofs.layers.layers.LowersWorld.{number_of_filesystem}
use Rattle.vt_laws_turns.proofs.Common.{lazy_is_of_mounts, types_are_of_mounts}
use Rattle.vt_spec.specs.Machine.Filesystems.{numbers_over}

-- a filesystem of a list has this number
abbrev pub Has : List (Filesystem ℕ) → ℕ → Type 0
Has list number = (was : Filesystem ℕ) × Among was list × (was.number ≡ number)

-- It is one of a world's, or is in the place of one whose number is to be raised, or has a number that was handed in, and
-- the change number 0.
pub data GoesOn (world : World ℕ) (changed : List ℕ) (new : ℕ) (filesystem : Filesystem ℕ) : Type 0 where
  Old : Among filesystem world.filesystems → GoesOn world changed new filesystem
  Changed : list_any (λ number. nat_eq number filesystem.number) changed ≡ true
      → Has world.filesystems filesystem.number
      → filesystem.change ≡ (filesystem_numbered nat_eq world filesystem.number).change
      → GoesOn world changed new filesystem
  New : filesystem.number ≡ new → filesystem.change ≡ 0 → GoesOn world changed new filesystem

-- one in the place of another
in_replaced : (new : Filesystem ℕ) (list : List (Filesystem ℕ)) (f : Filesystem ℕ)
    → Among f (map (replaced_if_numbered nat_eq new) list) → ((f ≡ new) × Has list f.number) ⊎ Among f list
in_replaced new [] f m = absurd m
in_replaced new (first ∷ rest) f m = grind (arith, common_steps, first, eqb-true, in_replaced new rest f)

-- a number that is there is there before one is in the place of another
has_before : (new : Filesystem ℕ) (list : List (Filesystem ℕ)) (number : ℕ)
    → Has (map (replaced_if_numbered nat_eq new) list) number → Has list number
has_before new list number (was, m, e) =
    let from = among-from_map (replaced_if_numbered nat_eq new) list was m in (
      from.0,
      from.1,
      cc (by from.0 (nat_eq new.number from.0.number) refl, from.2, e),
    )
  where
    by : (old : Filesystem ℕ) (b : Bool) → nat_eq new.number old.number ≡ b → old.number ≡ (cond b new old).number
    by old true same = sym (eqb-true new.number old.number same)
    by old false same = refl

module _ (world middle : World ℕ) (same : middle.filesystems ≡ world.filesystems) (new : ℕ) where
  -- one that is like a filesystem of the world but for its files
  like : (n : ℕ) (changed : List ℕ) (f : Filesystem ℕ) → Has middle.filesystems f.number
      → f.number ≡ (filesystem_numbered nat_eq middle n).number
      → f.change ≡ (filesystem_numbered nat_eq middle n).change
      → list_any (λ number. nat_eq number (filesystem_numbered nat_eq middle n).number) changed ≡ true
      → GoesOn world changed new f
  like n changed f has number change raised =
      Changed (ap (λ k. list_any (λ other. nat_eq other k) changed) number ∙ raised)
      (subst (λ list. Has list f.number) same has) (change ∙ ap (λ (g : Filesystem ℕ). g.change)
      (sym (ap (filesystem_numbered nat_eq middle) (number ∙ number_of_filesystem middle n))
      ∙ same_filesystem world middle f.number same))

  -- a change of one filesystem, and of an overlay its upper layer's
  module _ (fresh : Fresh ℕ) (location : Location ℕ) (change : Change ℕ) (f : Filesystem ℕ) where
    abbrev here : Filesystem ℕ
    here = filesystem_at nat_eq middle location

    abbrev its_number : ℕ
    its_number = (mount_at nat_eq middle location).filesystem

    here_raised : (rest : List ℕ) → list_any (λ number. nat_eq number here.number) (here.number ∷ rest) ≡ true
    here_raised rest = ap (λ b. b || list_any (λ number. nat_eq number here.number) rest) (nat_eq_itself here.number)

    below_raised : (below : ℕ) → list_any (λ number. nat_eq number below) (here.number ∷ below ∷ []) ≡ true
    below_raised below = grind (arith, common_steps, nat_eq_itself)

    old : {changed : List ℕ} → Among f middle.filesystems → GoesOn world changed new f
    old m = Old (subst (Among f) same m)

    -- what is in the place of another, with a number that is raised
    placed : (one : Filesystem ℕ) (n : ℕ) (changed : List ℕ) → one.number ≡ (filesystem_numbered nat_eq middle n).number
        → one.change ≡ (filesystem_numbered nat_eq middle n).change
        → list_any (λ number. nat_eq number (filesystem_numbered nat_eq middle n).number) changed ≡ true
        → f ≡ one → Has middle.filesystems f.number → GoesOn world changed new f
    placed one n changed number of_change raised is has =
        like n changed f has (ap (λ (g : Filesystem ℕ). g.number) is ∙ number)
        (ap (λ (g : Filesystem ℕ). g.change) is ∙ of_change) raised

    by_upper : (overlay : Overlay ℕ) (upper : Option (Layer ℕ))
        → Among f (overlay_changed nat_eq fresh middle here overlay upper change).filesystems
        → GoesOn world (numbers_over nat_eq middle here upper) new f
    by_upper overlay None m = old m
    by_upper overlay (Some upper) m =
        let below : Filesystem ℕ = filesystem_numbered nat_eq middle upper.filesystem in
        let merged : Merge ℕ = merge_changed nat_eq fresh (stack_of nat_eq middle overlay upper)
        (merge_of nat_eq middle here overlay upper) change in
        let one : Filesystem ℕ =
        record here { files = merged.files; overlay = Some (record overlay { real = merged.real }) } in
        ⊎_elim (λ at. placed (with_files below merged.upper) upper.filesystem (here.number ∷ below.number ∷ []) refl refl
        (below_raised below.number) at.0 (has_before one middle.filesystems f.number at.1))
        (λ kept. ⊎_elim (λ at. placed one its_number (here.number ∷ below.number ∷ []) refl refl
        (here_raised (below.number ∷ [])) at.0 at.1) old (in_replaced one middle.filesystems f kept))
        (in_replaced (with_files below merged.upper) (map (replaced_if_numbered nat_eq one) middle.filesystems) f m)

    by_overlay : (overlay : Option (Overlay ℕ))
        → Among f (filesystem_changed nat_eq fresh middle here overlay change).filesystems
        → GoesOn world (numbers_of_change nat_eq middle here overlay) new f
    by_overlay None m =
        let one : Filesystem ℕ = with_files here (changed nat_eq here.files change) in
        ⊎_elim (λ at. placed one its_number (here.number ∷ []) refl refl (here_raised []) at.0 at.1) old
        (in_replaced one middle.filesystems f m)
    by_overlay (Some overlay) m = by_upper overlay overlay.upper m

    pub change_goes_on : Among f (with_change nat_eq fresh middle location change).filesystems
        → GoesOn world (changed_at nat_eq middle location) new f
    change_goes_on m = by_overlay here.overlay m

module _ (world : World ℕ) (fresh : Fresh ℕ) (task : Task ℕ) where
  abbrev after : Permit ℕ → World ℕ
  after permit = (apply nat_eq fresh world task permit).world

  abbrev pub AllGoOn : Permit ℕ → Type 0
  AllGoOn permit = (f : Filesystem ℕ) → Among f (after permit).filesystems
      → GoesOn world (filesystems_changed nat_eq world permit) (fresh (2 * 0)) f

  stay : (permit : Permit ℕ) → (after permit).filesystems ≡ world.filesystems → AllGoOn permit
  stay permit same f m = Old (subst (Among f) same m)

  copies : (b : Bool) (file : Location ℕ) (f : Filesystem ℕ) → Among f (with_copy nat_eq b fresh world file).filesystems
      → GoesOn world (changed_if nat_eq b world file) (fresh (2 * 0)) f
  copies true file f m = change_goes_on world world refl (fresh (2 * 0)) fresh file (CopyUp file.node) f m
  copies false file f m = Old m

  writes : (file : Location ℕ) (offset : ℕ) (bytes : List ℕ) (f : Filesystem ℕ)
      → Among f (pwritten nat_eq fresh world file offset bytes).filesystems
      → GoesOn world (changed_if nat_eq (not (is_empty bytes)) world file) (fresh (2 * 0)) f
  writes file offset [] f m = Old m
  writes file offset (byte ∷ bytes) f m = change_goes_on world world refl (fresh (2 * 0)) fresh file _ f m

  more : (changed : List ℕ) (added : Filesystem ℕ) → added.number ≡ fresh (2 * 0) → added.change ≡ 0
      → (f : Filesystem ℕ) → Among f (world.filesystems ++ (added ∷ [])) → GoesOn world changed (fresh (2 * 0)) f
  more changed added number change f m = ⊎_elim Old
      (λ last. ⊎_elim (λ e. New (cc) (cc)) (λ none. absurd none) last)
      (among-append world.filesystems (added ∷ []) f m)

  pub filesystems_go_on : (permit : Permit ℕ) → AllGoOn permit
  filesystems_go_on (ToChange location change) = change_goes_on world world refl (fresh (2 * 0)) fresh location change
  filesystems_go_on (ToMake directory name node) =
      change_goes_on world world refl (fresh (2 * 0)) (odds fresh) directory
      (Make directory.node name (evens fresh 0) node)
  filesystems_go_on (ToRemoveDirectory parent name directory) =
      change_goes_on world (without_mounts_on nat_eq world directory) (filesystems-taken_away world _)
      (fresh (2 * 0)) fresh parent (Remove parent.node name directory.node)
  filesystems_go_on (ToRename from old to new object replaced) =
      change_goes_on world (without_replaced nat_eq world replaced) (filesystems-without_replaced world replaced)
      (fresh (2 * 0)) fresh from (Move from.node old to.node new object.node)
  filesystems_go_on (ToOpen file access) = copies (is_copied_up nat_eq world file access) file
  filesystems_go_on (ToOpenNew directory name node access) =
      change_goes_on world world refl (fresh (2 * 0)) (odds fresh) directory
      (Make directory.node name (evens fresh 0) node)
  filesystems_go_on (ToWritePart file offset bytes) = writes file offset bytes
  filesystems_go_on ToExit = stay ToExit (filesystems-taken_away (without_task world task.name) _)
  filesystems_go_on ToUnshare = stay ToUnshare (filesystems-taken_away (unshared nat_eq world fresh task) _)
  filesystems_go_on (ToEnterNamespace namespace) =
      stay (ToEnterNamespace namespace) (filesystems-taken_away (namespace_entered nat_eq world task namespace) _)
  filesystems_go_on (ToMountPlain place flags) = more [] (plain_filesystem nat_eq fresh) refl refl
  filesystems_go_on (ToMountOverlay place overlay flags) =
      more [] (overlay_filesystem nat_eq (evens fresh) world overlay) refl refl
  filesystems_go_on (ToUnmount mount) =
      stay (ToUnmount mount) (filesystems-taken_away world (going nat_eq world (mount_numbered nat_eq world mount)))
  filesystems_go_on (ToUnmountLazily mount) = stay (ToUnmountLazily mount) (lazy_is_of_mounts world mount).filesystems
  filesystems_go_on (ToSetType mount word recursive) =
      stay (ToSetType mount word recursive) (types_are_of_mounts world fresh mount word recursive).filesystems
  filesystems_go_on permit = stay permit refl
