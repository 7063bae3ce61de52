-- Bytes that were written by a descriptor are read by one.
use Rattle.std.proofs.Common.{◌≡◌, refl, sym, ap, ◌∙◌, ⊎_elim, ℕ, nat_eq, eq-eqb, Bool, true, cond, List, [], ◌∷◌, length, take, drop, Option, Some, Ok, ok_or, option_to_list, find, true≢false, inr, ◌+◌, ◌-◌, ◌++◌, arith, replicate, append_assoc, length-append, length-take-le}
use Rattle.vt_spec.proofs.Common.{Bytes, Call, Descriptor, Done, Filesystem, Fresh, IsWorld, Location, Looks, Node, Permit, Pread, Pwrite, SetBytes, Task, TaskName, ToWritePart, World, apply, bytes_in, common_steps, denial, descriptor_numbered, drop-append_seam, found_among, granted, has_regular_files_open, is_kind_in, judging, locations_of, looks_of, mount_at, node_at, node_with_bytes, overwritten, padded, policy, pwritten, raised_task, same_Some, take-append_seam, task_called, with_change, with_filesystem}
use Rattle.std.proofs.lemmas.List.{length-replicate}
use Rattle.vt_laws_later_calls.proofs.Common.{Among, File, IsGranted, IsPlain, S4, among-map, among_from_list_all, called_there, change_of_plain, changed_one, found_new, numbered, old_number, tasks-pwritten, writes_part}
use Rattle.vt_laws_later_calls.specs.Later.{IsOneInode, PwriteThenPread}
use Rattle.vt_laws_later_calls.proofs.Granted.{HasSucceeded, has_succeeded}
use Rattle.vt_laws_later_calls.proofs.Stays.{still_called, still_seen}

-- bytes with zeros after them, as long as they must be
padded_long : (offset : ℕ) (old : List ℕ) → length (padded offset old) ≡ length old + (offset - length old)
padded_long offset old =
    cc (length-append old (replicate {A = ℕ} (offset - length old) 0), length-replicate {A = ℕ} (offset - length old) 0)

-- what was written over is at its offset
written_over : (offset : ℕ) (new old : List ℕ) → take (length new) (drop offset (overwritten offset new old)) ≡ new
written_over offset new old =
    let long : length (padded offset old) ≡ length old + (offset - length old) = padded_long offset old in
    let front : length (take offset (padded offset old)) ≡ offset = length-take-le offset (padded offset old)
    (omega arith) in
    cc (
      append_assoc (take offset (padded offset old)) new (drop (offset + length new) old),
      drop-append_seam (take offset (padded offset old)) (new ++ drop (offset + length new) old),
      take-append_seam new (drop (offset + length new) old),
    )

-- a descriptor that is there and may do it is found
descriptor_found : (o : Option (Descriptor ℕ)) (may : Descriptor ℕ → Bool) (descriptor : Descriptor ℕ)
    → o ≡ Some descriptor → may descriptor ≡ true → ok_or (find may (option_to_list o)) (denial S4) ≡ Ok descriptor
descriptor_found o may descriptor is e = cc

-- a task with its change number raised has what it had
pub raised_descriptors : (name : TaskName) (task : Task ℕ) → (raised_task name task).descriptors ≡ task.descriptors
raised_descriptors name task = grind (arith, common_steps)

-- what pread answers by a descriptor that reads
pub pread_of : (world : World ℕ) (fresh : Fresh ℕ) (name : TaskName) (task : Task ℕ) (read : Descriptor ℕ)
    (number offset size : ℕ) → task_called world name ≡ Some task → descriptor_numbered task number ≡ Some read
    → read.reads ≡ true → (policy nat_eq fresh world name (Pread number offset size)).answer
    ≡ Ok (Bytes (take size (drop offset (bytes_in (node_at nat_eq world read.location)))))
unfolding judging
pread_of world fresh name task read number offset size called is reads =
    grind (arith, common_steps, number, descriptor_found)

-- what a granted pwrite was permitted
pwrite_parts : (looks : Looks ℕ) {too_many : Permit ℕ → Bool} (task : Task ℕ) (written : Descriptor ℕ) (offset : ℕ)
    (bytes : List ℕ) (permit : Permit ℕ) → descriptor_numbered task written.number ≡ Some written
    → IsGranted nat_eq looks too_many task (Pwrite written.number offset bytes) permit
    → permit ≡ ToWritePart written.location offset bytes
pwrite_parts looks task written offset bytes permit is (writes_part _ _ _ descriptor found passed) =
    cc (same_Some descriptor written (sym (Rattle.vt_spec.proofs.Given.descriptor_found task written.number
    (λ d. d.writes) descriptor found).0 ∙ is))

-- a regular file with other bytes has these
bytes_set : (bytes : List ℕ) (o : Option (Node ℕ)) → is_kind_in File o ≡ true
    → bytes_in (node_with_bytes bytes o) ≡ bytes
bytes_set bytes o e = grind (arith, common_steps)

-- Where a file's bytes were set, it is seen with them from wherever it is seen.
pub set_seen : (fresh : Fresh ℕ) (world : World ℕ) (plain : IsPlain world) (file other : Location ℕ) (bytes : List ℕ)
    → IsOneInode world other file → is_kind_in File (node_at nat_eq world file) ≡ true
    → bytes_in (node_at nat_eq (with_change nat_eq fresh world file (SetBytes file.node bytes)) other) ≡ bytes
set_seen fresh world plain file other bytes same regular =
    ap (λ w. bytes_in (node_at nat_eq w other)) (change_of_plain fresh world plain file (SetBytes file.node bytes))
    ∙ ap (λ n. bytes_in ((numbered n (with_filesystem nat_eq world new).filesystems).files.tree.node other.node))
    (same.0 ∙ sym number) ∙ ap (λ (f : Filesystem ℕ). bytes_in (f.files.tree.node other.node)) found
    ∙ ap (λ b. bytes_in (cond b (node_with_bytes bytes (node_at nat_eq world file))
    ((node_at nat_eq world (record file { node = other.node }))))) (eq-eqb other.node file.node same.1)
    ∙ bytes_set bytes (node_at nat_eq world file) regular
  where
    new : Filesystem ℕ
    new = changed_one fresh world plain file (SetBytes file.node bytes)

    number : new.number ≡ (mount_at nat_eq world file).filesystem
    number = old_number fresh world plain file (SetBytes file.node bytes)

    found : numbered new.number (with_filesystem nat_eq world new).filesystems ≡ new
    found = ⊎_elim (λ is. is) (λ none. absurd (true≢false (sym regular
        ∙ ap (λ n. is_kind_in File ((numbered n world.filesystems).files.tree.node file.node)) (sym number)
        ∙ ap (λ (f : Filesystem ℕ). is_kind_in File (f.files.tree.node file.node)) none.1)))
        (found_new new world.filesystems)

-- an open file is regular
open_regular : (world : World ℕ) (name : TaskName) (task : Task ℕ) (number : ℕ) (descriptor : Descriptor ℕ)
    → IsWorld nat_eq world → task_called world name ≡ Some task → descriptor_numbered task number ≡ Some descriptor
    → is_kind_in File (node_at nat_eq world descriptor.location) ≡ true
open_regular world name task number descriptor is called found =
    among_from_list_all (λ (d : Descriptor ℕ). is_kind_in File (node_at nat_eq world d.location)) task.descriptors
    (among_from_list_all (has_regular_files_open nat_eq world) world.tasks is.tasks.open_files task
    (called_there world.tasks name task called))
    descriptor (found_among (λ (d : Descriptor ℕ). nat_eq number d.number) task.descriptors descriptor found)

-- a descriptor's file is among what its task uses
pub descriptor_located : (task : Task ℕ) (number : ℕ) (descriptor : Descriptor ℕ)
    → descriptor_numbered task number ≡ Some descriptor → Among descriptor.location (locations_of task)
descriptor_located task number descriptor found =
    inr (inr (among-map (λ (d : Descriptor ℕ). d.location) task.descriptors descriptor
    (found_among (λ (d : Descriptor ℕ). nat_eq number d.number) task.descriptors descriptor found)))

module _ (world : World ℕ) (fresh : Fresh ℕ) (plain : IsPlain world) (file other : Location ℕ) (offset : ℕ)
    (same : IsOneInode world other file) (regular : is_kind_in File (node_at nat_eq world file) ≡ true) where
  written_there : (bytes : List ℕ) → take (length bytes)
      (drop offset (bytes_in (node_at nat_eq (pwritten nat_eq fresh world file offset bytes) other))) ≡ bytes
  written_there [] = refl
  written_there (byte ∷ bytes) = ap (λ all. take (length (byte ∷ bytes)) (drop offset all))
      (set_seen fresh world plain file other
      (overwritten offset (byte ∷ bytes) (bytes_in (node_at nat_eq world file))) same regular)
      ∙ written_over offset (byte ∷ bytes) (bytes_in (node_at nat_eq world file))

pub pwrite_then_pread : PwriteThenPread
pwrite_then_pread world fresh name reader task reading written read offset bytes is plain serves called found
    called_too found_too same reads granted later_fresh =
    pread_of later later_fresh reader (raised_task name reading) read read.number offset (length bytes)
    (still_called it reader reading there)
    (ap (find (λ (d : Descriptor ℕ). nat_eq read.number d.number)) (raised_descriptors name reading) ∙ found_too) reads
    ∙ ap (λ o. Ok (Bytes (take (length bytes) (drop offset (bytes_in o)))))
    (still_seen it reader reading there read.location
    (descriptor_located reading read.number read found_too) ∙ ap (λ w. node_at nat_eq w read.location) spent)
    ∙ ap (λ b. Ok (Bytes b)) (written_there world fresh plain written.location read.location offset same
    (open_regular world name task written.number written is called found) bytes)
  where
    call : Call
    call = Pwrite written.number offset bytes

    later : World ℕ
    later = (policy nat_eq fresh world name (Pwrite written.number offset bytes)).world

    it : HasSucceeded world fresh name (Pwrite written.number offset bytes) Done
    it = has_succeeded is plain serves refl refl refl granted

    task_is : task ≡ it.did.task
    task_is = same_Some task it.did.task (cc it.did.called)

    spent : (apply nat_eq fresh world it.did.task it.did.permit).world
        ≡ pwritten nat_eq fresh world written.location offset bytes
    spent = ap (λ p. (apply nat_eq fresh world it.did.task p).world) (pwrite_parts (looks_of nat_eq world) it.did.task
        written offset bytes it.did.permit (cc (task_is, found)) it.did.granted)

    there : task_called (apply nat_eq fresh world it.did.task it.did.permit).world reader ≡ Some reading
    there = cc (spent, tasks-pwritten fresh world written.location offset bytes)
