-- The namespaces and filesystems that a permit leaves have the change numbers that they had; what is new has 0.
use Rattle.std.proofs.Common.{◌≡◌, refl, sym, ap, ◌∙◌, inl, ⊎_elim, ℕ, nat_eq, List, ◌*◌, Option, Some, None, find, map, eqb-true, unwrap_or}
use Rattle.vt_spec.proofs.Common.{Among, Filesystem, Fresh, Namespace, Permit, Task, World, among-append_right, among-map, apply, filesystem_numbered, filesystems_changed, found_among, found_passes, no_filesystem, settled}
use Rattle.vt_laws_turns.proofs.Common.{find_none, unused_by_filesystem, unused_number}
use Rattle.vt_laws_turns.proofs.frames.Found.{found_there}
use Rattle.vt_laws_turns.proofs.frames.frames.FilesystemsGoOn.{GoesOn, filesystems_go_on}
use Rattle.vt_laws_turns.proofs.frames.frames.FilesystemsGoOn.GoesOn.{Changed, New, Old}
use Rattle.vt_laws_turns.proofs.frames.frames.NamespacesGoOn.{namespaces_go_on}
use Rattle.vt_laws_turns.proofs.frames.frames.SweptFilesystems.{swept_stays}
use Rattle.vt_spec.specs.Machine.Run.{Serves}

abbrev pub NamespacesHave : (ℕ → ℕ) → List (Namespace ℕ) → Type 0
NamespacesHave numbers namespaces =
    (namespace : Namespace ℕ) → Among namespace namespaces → namespace.change ≡ numbers namespace.number

abbrev pub FilesystemsHave : (ℕ → ℕ) → List (Filesystem ℕ) → Type 0
FilesystemsHave numbers filesystems =
    (filesystem : Filesystem ℕ) → Among filesystem filesystems → filesystem.change ≡ numbers filesystem.number

module _ (world : World ℕ) (fresh : Fresh ℕ) (serves : Serves nat_eq world fresh) where
  -- a number that is handed in is none of these
  pub no_namespace : find (λ (namespace : Namespace ℕ). nat_eq (fresh (2 * 0)) namespace.number) world.namespaces ≡ None
  no_namespace = find_none (λ (namespace : Namespace ℕ). nat_eq (fresh (2 * 0)) namespace.number) world.namespaces
      (λ namespace m. unused_number world fresh serves (2 * 0) namespace.number
      (among-append_right _ (map (λ (one : Namespace ℕ). one.number) world.namespaces) namespace.number
      (among-map (λ (one : Namespace ℕ). one.number) world.namespaces namespace m)))

  pub no_filesystem_of : find (λ (filesystem : Filesystem ℕ). nat_eq (fresh (2 * 0)) filesystem.number) world.filesystems
      ≡ None
  no_filesystem_of = find_none (λ (filesystem : Filesystem ℕ). nat_eq (fresh (2 * 0)) filesystem.number)
      world.filesystems
      (λ filesystem m. unused_by_filesystem world fresh serves (2 * 0) filesystem m filesystem.number (inl refl))

module _ (world : World ℕ) (fresh : Fresh ℕ) (task : Task ℕ) (permit : Permit ℕ) (numbers : ℕ → ℕ)
    (unused : numbers (fresh (2 * 0)) ≡ 0) where
  abbrev applied : World ℕ
  applied = (apply nat_eq fresh world task permit).world

  pub namespaces_have : NamespacesHave numbers world.namespaces → NamespacesHave numbers applied.namespaces
  namespaces_have have namespace m = ⊎_elim (have namespace) (λ new. cc (new.0, new.1, unused))
      (namespaces_go_on world fresh task permit namespace m)

  -- one that is there has the change number of what is found by its number
  numbered_has : FilesystemsHave numbers world.filesystems → (number : ℕ) (was : Filesystem ℕ)
      → Among was world.filesystems → was.number ≡ number
      → (filesystem_numbered nat_eq world number).change ≡ numbers number
  numbered_has have number was m e = by (find (λ f. nat_eq number f.number) world.filesystems) refl
    where
      by : (found : Option (Filesystem ℕ)) → find (λ (f : Filesystem ℕ). nat_eq number f.number) world.filesystems ≡ found
          → (unwrap_or found (no_filesystem number)).change ≡ numbers number
      by None none = absurd (found_there (λ (f : Filesystem ℕ). f.number) number world.filesystems was m e none)
      by (Some found) is =
          let same : number ≡ found.number = eqb-true number found.number
          (found_passes (λ (f : Filesystem ℕ). nat_eq number f.number) world.filesystems found is) in
          have found (found_among (λ (f : Filesystem ℕ). nat_eq number f.number) world.filesystems found is)
          ∙ ap numbers (sym same)

  pub filesystems_have : FilesystemsHave numbers world.filesystems → FilesystemsHave numbers applied.filesystems
  filesystems_have have filesystem m = by (filesystems_go_on world fresh task permit filesystem m)
    where
      by : GoesOn world (filesystems_changed nat_eq world permit) (fresh (2 * 0)) filesystem
          → filesystem.change ≡ numbers filesystem.number
      by (Old there) = have filesystem there
      by (Changed raised has same) = same ∙ numbered_has have filesystem.number has.0 has.1 has.2
      by (New new zero) = zero ∙ sym unused ∙ ap numbers (sym new)

  pub swept_have : FilesystemsHave numbers world.filesystems
      → FilesystemsHave numbers (settled nat_eq applied).filesystems
  swept_have have filesystem m =
      let swept = swept_stays applied filesystem m in
      swept.2.change ∙ filesystems_have have swept.0 swept.1 ∙ ap numbers (sym swept.2.number)
