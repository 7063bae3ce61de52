-- Open files: the descriptors of a task, and what open(2), close(2) and pwrite(2) leave.
use Rattle.std.specs.Prelude.{Bool, List, [], drop, false, filter, if◌then◌else◌, length, nat_lt, not, replicate, take, true, ℕ, ◌++◌, ◌+◌, ◌-◌, ◌==◌, ◌∷◌}
use Rattle.vt_spec.specs.Language.Answers.Answer.{Opened}
use Rattle.vt_spec.specs.Language.Calls.{Access, opens_for_reading, opens_for_writing}
use Rattle.vt_spec.specs.Language.Changes.Change.{CopyUp, SetBytes}
use Rattle.vt_spec.specs.Lists.{Fresh}
use Rattle.vt_spec.specs.Machine.Filesystems.{with_change}
use Rattle.vt_spec.specs.Machine.Looks.{looks_of}
use Rattle.vt_spec.specs.Machine.Mounts.{Location}
use Rattle.vt_spec.specs.Machine.Outcomes.{Outcome, granted}
use Rattle.vt_spec.specs.Machine.Rules.Descriptors
use Rattle.vt_spec.specs.Machine.World.{Descriptor, Task, World, node_at, with_task}
use Rattle.vt_spec.specs.Tree.{bytes_in}

-- the bytes with zeros after them up to an offset: lseek(2)
abbrev pub padded : ℕ → List ℕ → List ℕ
padded offset bytes = bytes ++ replicate (offset - length bytes) 0

-- the bytes with others at an offset, zeros between: pwrite(2)
abbrev pub overwritten : ℕ → List ℕ → List ℕ → List ℕ
overwritten offset new bytes = take offset (padded offset bytes) ++ new ++ drop (offset + length new) bytes

module _ {N : Type 0} where
  -- the least number that is free, the descriptors standing in order of their numbers: open(2)
  abbrev pub free_from : ℕ → List (Descriptor N) → ℕ
  free_from number [] = number
  free_from number (descriptor ∷ rest) = if descriptor.number == number then free_from (number + 1) rest else number

  -- the number of the task's next descriptor
  abbrev pub free_number : Task N → ℕ
  free_number task = free_from 0 task.descriptors

  -- descriptors with a new one, in order of their numbers
  abbrev pub inserted : Descriptor N → List (Descriptor N) → List (Descriptor N)
  inserted new [] = new ∷ []
  inserted new (descriptor ∷ rest) =
      if nat_lt new.number descriptor.number then new ∷ descriptor ∷ rest else descriptor ∷ inserted new rest

  -- the task with a new descriptor on a file
  abbrev pub with_descriptor : Task N → Location N → Access → Task N
  with_descriptor task file access = record task {
    descriptors = inserted
        (record {
          number = free_number task;
          location = file;
          reads = opens_for_reading access;
          writes = opens_for_writing access;
        })
        task.descriptors;
  }

  -- the task without a descriptor: close(2)
  abbrev pub without_descriptor : Task N → ℕ → Task N
  without_descriptor task number =
      record task { descriptors = filter (λ descriptor. not (number == descriptor.number)) task.descriptors }

  -- the task gets a descriptor on a file, and its number is the answer: open(2)
  abbrev pub opened : World N → Task N → Location N → Access → Outcome N
  opened world task file access =
      granted (Opened (free_number task)) (with_task world (with_descriptor task file access))

module _ {N : Type 0} (eq : N → N → Bool) where
  -- an object that lies only in lower layers is copied up when it is opened for writing: overlayfs, "upper and lower"
  abbrev pub is_copied_up : World N → Location N → Access → Bool
  is_copied_up world = Descriptors.is_copied_up (looks_of eq world)

  -- the world with an object of lower layers copied up, if it has to be: overlayfs, "upper and lower"
  abbrev pub with_copy : (copied : Bool) → Fresh N → World N → Location N → World N
  with_copy true fresh world file = with_change eq fresh world file (CopyUp file.node)
  with_copy false fresh world file = world

  -- the world with bytes at an offset of a file; no bytes change nothing
  abbrev pub pwritten : Fresh N → World N → Location N → ℕ → List ℕ → World N
  pwritten fresh world file offset [] = world
  pwritten fresh world file offset (byte ∷ bytes) =
      with_change eq fresh world file
      (SetBytes file.node (overwritten offset (byte ∷ bytes) (bytes_in (node_at eq world file))))
