-- What a change that is granted leaves as it was: what is locked, but for upper objects of the overlay that is changed.
use Rattle.std.proofs.Common.{arith, ◌≡◌, ◌≢◌, refl, sym, ap, subst, ◌∙◌, ℕ, nat_eq, true, false, List, Option, Some, None, inr, ◌⊎◌, ⊎_elim}
use Rattle.vt_spec.proofs.Common.{Change, Filesystem, Fresh, IsWorld, Layer, Location, Overlay, World, changed, common_steps, eqb_tells, filesystem_changed, filesystem_numbered, is_among, is_locked, mount_at, none_is_some, same_Some, with_change, with_files}
use Rattle.vt_laws_trees.specs.Layers.Layers.Untouched.{IsKept, inodes_changed}
use Rattle.vt_laws_trees.specs.Layers.Layers.Upper.{IsUpperObject, SpeaksOfWhatIsThere}
use Rattle.vt_laws_trees.proofs.layers.layers.LowersCalls.{Stays, same_filesystem, stays_itself}
use Rattle.vt_laws_trees.proofs.layers.layers.LowersKept.{kept_same, others_stay}
use Rattle.vt_laws_trees.proofs.layers.layers.LowersWorld.{changed_elsewhere, filesystem_there, number_of_filesystem}
use Rattle.vt_laws_trees.proofs.layers.layers.UpperWorld.{change_keeps}
use Rattle.vt_laws_trees.specs.Trees.Settling.{inode_in}

-- a world with a change of the filesystem that has a number
abbrev pub changed_in : Fresh ℕ → World ℕ → ℕ → Change ℕ → World ℕ
changed_in supply world mounted change =
    filesystem_changed nat_eq supply world (filesystem_numbered nat_eq world mounted)
    (filesystem_numbered nat_eq world mounted).overlay change

-- it looks at the filesystems alone
looks_at_filesystems : (supply : Fresh ℕ) (world base : World ℕ) (mounted : ℕ) (change : Change ℕ)
    → (changed_in supply world mounted change).filesystems
    ≡ (changed_in supply (record base { filesystems = world.filesystems }) mounted change).filesystems
looks_at_filesystems supply world base mounted change = grind (arith, common_steps)

module _ (world : World ℕ) (fresh : Fresh ℕ) where
  abbrev pub IsNew : ℕ → Type 0
  IsNew inode = (k : ℕ) → inode ≢ fresh k

  -- A change that a call is granted: with some of the new numbers, of nothing that is locked, and through an overlay of
  -- what is there
  pub record IsGranted (supply : Fresh ℕ) (mounted : ℕ) (change : Change ℕ) : Type 0 where
    pub part : (inode : ℕ) → IsNew inode → (k : ℕ) → inode ≢ supply k
    pub unlocked : (inode : ℕ) → is_locked nat_eq world mounted inode ≡ true → IsNew inode
        → is_among nat_eq inode (inodes_changed change) ≡ false
    pub there : (overlay : Overlay ℕ) → (filesystem_numbered nat_eq world mounted).overlay ≡ Some overlay
        → SpeaksOfWhatIsThere (filesystem_numbered nat_eq world mounted).files change

  pub record IsChanged (later : List (Filesystem ℕ)) : Type 0 where
    pub supply : Fresh ℕ
    pub mounted : ℕ
    pub change : Change ℕ
    pub granted : IsGranted supply mounted change
    pub so : later ≡ (changed_in supply world mounted change).filesystems

  -- the filesystems that a call leaves: as they were, or with one change that is granted
  abbrev pub Leaves : World ℕ → Type 0
  Leaves later = (later.filesystems ≡ world.filesystems) ⊎ IsChanged later.filesystems

  pub leaves_change : (supply : Fresh ℕ) (before : World ℕ) (location : Location ℕ) (change : Change ℕ)
      → before.filesystems ≡ world.filesystems
      → (mount_at nat_eq before location).filesystem ≡ (mount_at nat_eq world location).filesystem
      → IsGranted supply (mount_at nat_eq world location).filesystem change
      → Leaves (with_change nat_eq supply before location change)
  leaves_change supply before location change same at granted = inr (record {
    supply = supply;
    mounted = (mount_at nat_eq world location).filesystem;
    change = change;
    granted = granted;
    so = looks_at_filesystems supply before world (mount_at nat_eq before location).filesystem change
        ∙ ap (λ m. (changed_in supply (record world { filesystems = before.filesystems }) m change).filesystems) at
        ∙ ap (λ list. (changed_in supply (record world { filesystems = list })
        (mount_at nat_eq world location).filesystem change).filesystems) same;
  })

  module _ (conditions : IsWorld nat_eq world) (filesystem inode : ℕ)
      (locked : is_locked nat_eq world filesystem inode ≡ true) (new : IsNew inode)
      (plain : (filesystem_numbered nat_eq world filesystem).overlay ≡ None) where
    -- no upper object of the overlay that is mounted
    abbrev pub IsNotOf : ℕ → Type 0
    IsNotOf mounted =
        (overlay : Overlay ℕ) (upper : Layer ℕ) → (filesystem_numbered nat_eq world mounted).overlay ≡ Some overlay
        → overlay.upper ≡ Some upper → filesystem ≡ upper.filesystem → ¬ (IsUpperObject overlay inode)

    module _ (supply : Fresh ℕ) (mounted : ℕ) (change : Change ℕ) (granted : IsGranted supply mounted change)
        (not_of : IsNotOf mounted) where
      at_mounted : filesystem ≡ mounted → Stays world filesystem inode (changed_in supply world mounted change)
      at_mounted at = subst (λ o. Stays world
          filesystem inode (filesystem_changed nat_eq supply world (filesystem_numbered nat_eq world mounted) o change))
          (sym (ap (λ n. (filesystem_numbered nat_eq world n).overlay) (sym at) ∙ plain))
          (filesystem_there (λ f. IsKept (inode_in world filesystem inode) (f.files.tree.node inode))
          world (with_files (filesystem_numbered nat_eq world mounted) (changed nat_eq _ change))
          filesystem (at ∙ sym (number_of_filesystem world mounted)) (subst (λ n. IsKept (inode_in world n inode)
          ((changed nat_eq (filesystem_numbered nat_eq world mounted).files change).tree.node inode))
          (sym at) (others_stay (filesystem_numbered nat_eq world mounted).files
          change inode (granted.unlocked inode (ap (λ n. is_locked nat_eq world n inode) (sym at) ∙ locked) new)))
          (λ none. kept_same (inode_in world filesystem inode) None (sym (ap (λ f. f.files.tree.node inode) none))))

      elsewhere : filesystem ≢ mounted → ((overlay : Overlay ℕ) (upper : Layer ℕ)
          → (filesystem_numbered nat_eq world mounted).overlay ≡ Some overlay → overlay.upper ≡ Some upper
          → filesystem ≢ upper.filesystem) → Stays world filesystem inode (changed_in supply world mounted change)
      elsewhere away no_upper = kept_same _ _ (ap (λ f. f.files.tree.node inode) (changed_elsewhere supply
          world _ change filesystem (λ e. away (e ∙ number_of_filesystem world mounted)) no_upper))

      beside : filesystem ≢ mounted → Stays world filesystem inode (changed_in supply world mounted change)
      beside away = by (filesystem_numbered nat_eq world mounted).overlay refl
        where
          layered : (overlay : Overlay ℕ) → (filesystem_numbered nat_eq world mounted).overlay ≡ Some overlay
              → (o : Option (Layer ℕ)) → overlay.upper ≡ o
              → Stays world filesystem inode (changed_in supply world mounted change)
          layered overlay is None has = elsewhere away (λ other upper i h.
              none_is_some upper (cc (same_Some overlay other (sym is ∙ i))))
          layered overlay is (Some upper) has = ⊎_elim (λ t.
              subst (λ n. Stays world n inode (changed_in supply world mounted change)) (sym t.1)
              (change_keeps world conditions mounted overlay is upper has inode
              (not_of overlay upper is has t.1) supply (granted.part inode new) change (granted.there overlay is)))
              (λ t.
              elsewhere away (λ other on i h same.
              t.1 (cc (same_Some on upper (sym h ∙ ap (λ v. v.upper) (same_Some other overlay (sym i ∙ is)) ∙ has)))))
              (eqb_tells filesystem upper.filesystem)

          by : (o : Option (Overlay ℕ)) → (filesystem_numbered nat_eq world mounted).overlay ≡ o
              → Stays world filesystem inode (changed_in supply world mounted change)
          by None e = elsewhere away (λ overlay upper i h. absurd (none_is_some overlay (sym e ∙ i)))
          by (Some overlay) e = layered overlay e overlay.upper refl

      pub granted_keeps : Stays world filesystem inode (changed_in supply world mounted change)
      granted_keeps = ⊎_elim (λ t. at_mounted t.1) (λ t. beside t.1) (eqb_tells filesystem mounted)

    -- and so for what a call leaves
    stays_as : (later other : World ℕ) → later.filesystems ≡ other.filesystems → Stays world filesystem inode other
        → Stays world filesystem inode later
    stays_as later other e = subst (λ f. IsKept (inode_in world filesystem inode) (f.files.tree.node inode))
        (sym (same_filesystem other later filesystem e))

    pub as_it_was : (later : World ℕ) → later.filesystems ≡ world.filesystems → Stays world filesystem inode later
    as_it_was later e = stays_as later world e (stays_itself world filesystem inode)

    pub changed_stays : (later : World ℕ) (change : IsChanged later.filesystems) → IsNotOf change.mounted
        → Stays world filesystem inode later
    changed_stays later change not_of =
        stays_as later (changed_in change.supply world change.mounted change.change) change.so
        (granted_keeps change.supply change.mounted change.change change.granted not_of)
