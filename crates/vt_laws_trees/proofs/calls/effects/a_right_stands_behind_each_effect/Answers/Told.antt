-- What a call tells its task may read.
use Rattle.std.proofs.Common.{◌≡◌, refl, sym, ap, inl, inr, ◌⊎◌, true≢false, ℕ, nat_eq, Bool, true, false, List, [], take, drop, Some, Result, Ok}
use Rattle.vt_spec.proofs.Common.{Access, Answer, Bytes, Call, Descriptor, Fresh, Location, Names, NoneFails, Opened, Permit, Place, Pread, Task, ToOpen, World, apply, bytes_in, descriptor_found, descriptor_numbered, is_copied_up, is_kind_in, looks_of, name_of, names_in, new_file, node_allows, node_at, open_new_permit, open_rules, opened, overfills, read_right, with_copy, with_new_inode}
use Rattle.vt_laws_trees.specs.Calls.Effects.{BytesAreToldByRight, NamesAreToldByRight, OpensAreByRight, TellsOf}
use Rattle.vt_laws_trees.specs.Calls.Effects.TellsOf.{a_directory, a_symlink, an_object}
use Rattle.vt_spec.specs.declared.attributes.Kind.TheVariants.{Symlink}
use Rattle.vt_spec.specs.declared.errors.Deny.{Deny}
use Rattle.vt_spec.specs.Machine.Rules.Descriptors.{access_rights}
use Rattle.vt_laws_trees.proofs.trees.TreesWalked.{not-false}
use Rattle.vt_laws_rules.proofs.given.Ways.{calls_are_granted}
use Rattle.vt_laws_rules.proofs.given.Ways.{IsGranted}
use Rattle.vt_laws_rules.proofs.given.Ways.IsGranted.{creates, creates_exclusively, lists_directory, opens, opens_existing, reads_file, reads_part, reads_symlink}

are_names : Result Answer Deny → Bool
are_names (Ok (Names names)) = true
are_names answer = false

are_bytes : Result Answer Deny → Bool
are_bytes (Ok (Bytes bytes)) = true
are_bytes answer = false

same_names : (a b : List (List ℕ)) → Path (Result Answer Deny) (Ok (Names a)) (Ok (Names b)) → a ≡ b
same_names a b e = cc

same_bytes : (a b : List ℕ) → Path (Result Answer Deny) (Ok (Bytes a)) (Ok (Bytes b)) → a ≡ b
same_bytes a b e = cc

module _ (fresh : Fresh ℕ) (world : World ℕ) (task : Task ℕ) where
  abbrev Granted : Call → Permit ℕ → Type 0
  Granted = IsGranted nat_eq (looks_of nat_eq world) (overfills nat_eq fresh world task) task

  -- the permits that tell names, and bytes
  names_granted : (call : Call) (permit : Permit ℕ) (names : List (List ℕ)) → Granted call permit
      → (apply nat_eq fresh world task permit).answer ≡ Ok (Names names)
      → (directory : Location ℕ) × TellsOf world task call directory
      × (names ≡ names_in (node_at nat_eq world directory))
      × (node_allows task.credentials read_right (node_at nat_eq world directory) ≡ true)
  unfolding are_names
  names_granted call permit names (lists_directory path here end passed) e =
      (here.location, a_directory path here end, sym (same_names _ names e), not-false _ passed.0)
  names_granted call permit names granted e = absurd (true≢false (sym (ap are_names e)))

  abbrev ToldBytes : Call → List ℕ → Type 0
  ToldBytes call bytes =
      ((file : Location ℕ) × TellsOf world task call file × (bytes ≡ bytes_in (node_at nat_eq world file))
      × (node_allows task.credentials read_right (node_at nat_eq world file) ≡ true))
      ⊎ (((file : Location ℕ) × TellsOf world task call file × (bytes ≡ bytes_in (node_at nat_eq world file))
      × (is_kind_in Symlink (node_at nat_eq world file) ≡ true))
      ⊎ ((descriptor : Descriptor ℕ) × (which offset size : ℕ) × (call ≡ Pread which offset size)
      × (descriptor_numbered task which ≡ Some descriptor) × (descriptor.reads ≡ true) × (bytes
      ≡ take size (drop offset (bytes_in (node_at nat_eq world descriptor.location))))))

  bytes_granted : (call : Call) (permit : Permit ℕ) (bytes : List ℕ) → Granted call permit
      → (apply nat_eq fresh world task permit).answer ≡ Ok (Bytes bytes) → ToldBytes call bytes
  unfolding are_bytes
  bytes_granted call permit bytes (reads_file path here end passed) e =
      inl (here.location, an_object path here end, sym (same_bytes _ bytes e), not-false _ passed.1.1.0)
  bytes_granted call permit bytes (reads_symlink path here end passed) e =
      inr (inl (here.location, a_symlink path here end, sym (same_bytes _ bytes e), not-false _ passed.0))
  bytes_granted call permit bytes (reads_part which offset size descriptor found) e =
      let there = descriptor_found task which (λ d. d.reads) descriptor found in
      inr (inr (descriptor, which, offset, size, refl, there.0, there.1, sym (same_bytes _ bytes e)))
  bytes_granted call permit bytes granted e = absurd (true≢false (sym (ap are_bytes e)))

-- open(2)
are_opened : Result Answer Deny → Bool
are_opened (Ok (Opened number)) = true
are_opened answer = false

module _ (fresh : Fresh ℕ) (world : World ℕ) (task : Task ℕ) where
  abbrev Opens : Permit ℕ → Type 0
  Opens permit = (file : Location ℕ) × (access : Access) × (left : World ℕ)
      × (apply nat_eq fresh world task permit ≡ opened left task file access)
      × ((node_allows task.credentials (access_rights access) (node_at nat_eq world file) ≡ true)
      ⊎ (file.node ≡ fresh 0))

  opens_there : (file : Location ℕ) (access : Access)
      → NoneFails (open_rules (looks_of nat_eq world) task file access) → Opens (ToOpen file access)
  opens_there file access passed = (
    file,
    access,
    with_copy nat_eq (is_copied_up nat_eq world file access) fresh world file,
    refl,
    inl (not-false _ passed.1.1.1.1.1.0),
  )

  opens_new : (place : Place ℕ) (access : Access) (mode : ℕ) → Opens (open_new_permit task place access mode)
  opens_new place access mode = (
    record { mount = place.parent.mount; node = fresh 0 },
    access,
    with_new_inode nat_eq fresh world place.parent (name_of place.last) (new_file task mode []),
    refl,
    inr refl,
  )

  opens_granted : (call : Call) (permit : Permit ℕ) (number : ℕ) → Granted fresh world task call permit
      → (apply nat_eq fresh world task permit).answer ≡ Ok (Opened number) → Opens permit
  unfolding are_opened
  opens_granted call permit number (opens path access here room end passed) e = opens_there here.location access passed
  opens_granted call permit number (opens_existing path access mode place file room end named there passed) e =
      opens_there file access passed
  opens_granted call permit number (creates path access mode place room end named missing passed) e =
      opens_new place access mode
  opens_granted call permit number (creates_exclusively path access mode place room end named passed) e =
      opens_new place access mode
  opens_granted call permit number granted e = absurd (true≢false (sym (ap are_opened e)))

pub opens_are_by_right : OpensAreByRight
opens_are_by_right fresh world call task permit number given e = opens_granted fresh world task call permit number
    (calls_are_granted nat_eq (looks_of nat_eq world) (overfills nat_eq fresh world task) task call permit given) e

pub names_are_told_by_right : NamesAreToldByRight
names_are_told_by_right fresh world call task permit names given e = names_granted fresh world task call permit names
    (calls_are_granted nat_eq (looks_of nat_eq world) (overfills nat_eq fresh world task) task call permit given) e

pub bytes_are_told_by_right : BytesAreToldByRight
bytes_are_told_by_right fresh world call task permit bytes given e = bytes_granted fresh world task call permit bytes
    (calls_are_granted nat_eq (looks_of nat_eq world) (overfills nat_eq fresh world task) task call permit given) e
