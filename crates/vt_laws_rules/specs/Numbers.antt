-- Numbers of inodes, mounts, groups, filesystems and namespaces do not matter: no call tells them, and all that is done
-- with them is to compare them (profile).
use Rattle.std.specs.Prelude.{All, Bool, List, None, Option, Some, [], false, length, map, nat_eq, nat_lt, option_map, true, ℕ, ⊤, ◌&&◌, ◌++◌, ◌+◌, ◌∷◌, ◌≡◌, ◌≢◌}
use Rattle.std.specs.List.{list_all}
use Rattle.vt_spec.specs.Language.Calls.{Call, Directive, TaskName}
use Rattle.vt_spec.specs.Lists.{Fresh, is_among}
use Rattle.vt_spec.specs.Machine.Mounts.{Location, Mount, Propagation}
use Rattle.vt_spec.specs.Machine.Mounts.Propagation.{Private, Shared, Slave, Unbindable}
use Rattle.vt_spec.specs.Machine.Outcomes.{Outcome}
use Rattle.vt_spec.specs.Machine.Policy.{policy}
use Rattle.vt_spec.specs.Machine.Renaming.{SameWorld, renamed}
use Rattle.vt_spec.specs.Machine.Run.{Serves, Step, Tells, first_world, line_step, numbers_in_use, step_text, step_world, text_of}
use Rattle.vt_spec.specs.Machine.Run.Step.{Answered, Silent}
use Rattle.vt_spec.specs.Language.Script.{Grammar, Who, lines_of}
use Rattle.vt_spec.specs.Machine.Sealed.{directed}
use Rattle.vt_spec.specs.Machine.Turns.{Progress, Sched, Turned, turn}
use Rattle.vt_spec.specs.Machine.World.{Descriptor, Filesystem, Layer, Namespace, Overlay, Real, Task, World, opening}
use Rattle.vt_spec.specs.Machine.World.Real.{Lower, Upper}
use Rattle.vt_spec.specs.Tree.{Content, Node}
use Rattle.vt_laws_rules.specs.Renaming.{Leaves, Renaming}
use Rattle.vt_spec.specs.Tree.Content.{Directory, Regular, Symlink, Whiteout}

module _ {N M : Type 0} (there : N → M) (back : M → N) where
  abbrev pub renamed_supply : Fresh N → Fresh M
  renamed_supply fresh k = there (fresh k)

  abbrev pub renamed_outcome : Outcome N → Outcome M
  renamed_outcome outcome = record { answer = outcome.answer; world = renamed there back outcome.world }

  abbrev pub renamed_step : Step N → Step M
  renamed_step Silent = Silent
  renamed_step (Answered outcome) = Answered (renamed_outcome outcome)

  -- calls in turns: what is held of a filesystem is held of it under its other number
  abbrev pub renamed_held : N × ℕ → M × ℕ
  renamed_held held = (there held.0, held.1)

  abbrev pub renamed_progress : Progress N → Progress M
  renamed_progress progress = record {
    task = progress.task;
    walked = progress.walked;
    restarts = progress.restarts;
    task_change = progress.task_change;
    namespace_change = progress.namespace_change;
    filesystems = map renamed_held progress.filesystems;
  }

  abbrev pub renamed_sched : Sched N → Sched M
  renamed_sched sched =
      record { world = renamed there back sched.world; queues = sched.queues; under_way = map renamed_progress sched.under_way }

  abbrev pub renamed_turned : Turned N → Turned M
  renamed_turned turned = record { sched = renamed_sched turned.sched; reply = turned.reply }

-- A call in a renamed world, to which the renamed numbers are handed in, is answered alike and leaves the renamed
-- world.
abbrev pub CallsDoNotSeeNumbers : Type 0
CallsDoNotSeeNumbers =
    (renaming : Renaming ℕ ℕ) (fresh : Fresh ℕ) (world : World ℕ) (name : TaskName) (call : Call)
    → policy nat_eq (renamed_supply renaming.there renaming.back fresh)
    (renamed renaming.there renaming.back world) name call
    ≡ renamed_outcome renaming.there renaming.back (policy nat_eq fresh world name call)

-- So is a directive,
abbrev pub DirectivesDoNotSeeNumbers : Type 0
DirectivesDoNotSeeNumbers =
    (renaming : Renaming ℕ ℕ) (world : World ℕ) (directive : Directive)
    → directed nat_eq (renamed renaming.there renaming.back world) directive
    ≡ renamed_outcome renaming.there renaming.back (directed nat_eq world directive)

-- each line of a script,
abbrev pub LinesDoNotSeeNumbers : Type 0
LinesDoNotSeeNumbers =
    (renaming : Renaming ℕ ℕ) (grammar : Grammar) (fresh : Option (Fresh ℕ)) (world : World ℕ) (line : List ℕ)
    → line_step nat_eq grammar (renamed renaming.there renaming.back world) line
    (option_map (renamed_supply renaming.there renaming.back) fresh)
    ≡ renamed_step renaming.there renaming.back (line_step nat_eq grammar world line fresh)

-- and each turn of a schedule.
abbrev pub TurnsDoNotSeeNumbers : Type 0
TurnsDoNotSeeNumbers =
    (renaming : Renaming ℕ ℕ) (fresh : Option (Fresh ℕ)) (sched : Sched ℕ) (who : Who)
    → turn nat_eq (renamed_sched renaming.there renaming.back sched) who
    (option_map (renamed_supply renaming.there renaming.back) fresh)
    ≡ renamed_turned renaming.there renaming.back (turn nat_eq sched who fresh)

-- Two worlds that are the same but for their numbers answer each call alike, and stay the same but for their numbers.
abbrev pub SameWorldsAnswerAlike : Type 0
SameWorldsAnswerAlike =
    (world other : World ℕ) (same : SameWorld world other) (fresh : Fresh ℕ) (name : TaskName) (call : Call)
    → ((policy nat_eq (renamed_supply same.there same.back fresh) other name call).answer
    ≡ (policy nat_eq fresh world name call).answer)
    × SameWorld (policy nat_eq fresh world name call).world
    (policy nat_eq (renamed_supply same.there same.back fresh) other name call).world

-- A call changes no number but those that are handed in and those that it names.

-- A world keeps to some numbers where it has no others in it: whoever renames only others leaves it as it is.
abbrev pub KeepsTo : (ℕ → Bool) → World ℕ → Type 0
KeepsTo named world =
    (renaming : Renaming ℕ ℕ) → Leaves renaming named → renamed renaming.there renaming.back world ≡ world

-- the numbers of a supply are among some numbers
abbrev pub IsSuppliedFrom : (ℕ → Bool) → Fresh ℕ → Type 0
IsSuppliedFrom named fresh = (k : ℕ) → named (fresh k) ≡ true

-- at least two numbers are left out
abbrev pub LeavesOutTwo : (ℕ → Bool) → Type 0
LeavesOutTwo named = (one other : ℕ) × (one ≢ other) × (named one ≡ false) × (named other ≡ false)

-- The opening world keeps to its four numbers: of its mount, its namespace, its filesystem and its root directory.
abbrev pub OpeningKeepsToFour : Type 0
OpeningKeepsToFour =
    (named : ℕ → Bool) (fresh : Fresh ℕ)
    → named (fresh 0) ≡ true → named (fresh 1) ≡ true → named (fresh 2) ≡ true → named (fresh 3) ≡ true
    → KeepsTo named (opening nat_eq fresh)

-- In plain words: a world keeps to some numbers where each number that it has anywhere is one of them.
abbrev pub none_or : {A : Type 0} → (A → Bool) → Option A → Bool
none_or test None = true
none_or test (Some a) = test a

module _ (named : ℕ → Bool) where
  abbrev pub location_named : Location ℕ → Bool
  location_named location = named location.mount && named location.node

  abbrev pub propagation_named : Propagation ℕ → Bool
  propagation_named (Shared group) = named group
  propagation_named (Slave master) = named master
  propagation_named Private = true
  propagation_named Unbindable = true

  abbrev pub mount_named : Mount ℕ → Bool
  mount_named mount =
      named mount.number && none_or named mount.namespace && none_or location_named mount.mount_point && named mount.filesystem
      && named mount.root && propagation_named mount.propagation

  abbrev pub content_named : Content ℕ → Bool
  content_named (Directory parent entries opaque) = named parent && list_all (λ entry. named entry.1) entries
  content_named (Regular bytes) = true
  content_named (Symlink text) = true
  content_named Whiteout = true

  abbrev pub node_named : Node ℕ → Bool
  node_named node = content_named node.content

  abbrev pub layer_named : Layer ℕ → Bool
  layer_named layer = named layer.filesystem && named layer.directory

  abbrev pub real_named : Real ℕ → Bool
  real_named (Upper object) = named object
  real_named (Lower layer path) = true

  abbrev pub namespace_named : Namespace ℕ → Bool
  namespace_named namespace = named namespace.number

  abbrev pub descriptor_named : Descriptor ℕ → Bool
  descriptor_named descriptor = location_named descriptor.location

  abbrev pub task_named : Task ℕ → Bool
  task_named task =
      named task.namespace && location_named task.root && location_named task.directory
      && list_all descriptor_named task.descriptors

  -- what is found by its number is found at these numbers alone, and has these numbers alone
  pub record IsFoundAmong {A : Type 0} (test : A → Bool) (find : ℕ → Option A) : Type 0 where
    pub nowhere_else : (number : ℕ) → named number ≡ false → find number ≡ None
    pub has_only : (number : ℕ) → none_or test (find number) ≡ true

  pub record OverlayNamed (overlay : Overlay ℕ) : Type 0 where
    pub upper : none_or layer_named overlay.upper ≡ true
    pub work : none_or layer_named overlay.work ≡ true
    pub lowers : list_all layer_named overlay.lowers ≡ true
    pub real : IsFoundAmong real_named overlay.real

  abbrev pub OverlayIfAnyNamed : Option (Overlay ℕ) → Type 0
  OverlayIfAnyNamed None = ⊤
  OverlayIfAnyNamed (Some overlay) = OverlayNamed overlay

  pub record FilesystemNamed (filesystem : Filesystem ℕ) : Type 0 where
    pub number : named filesystem.number ≡ true
    pub root : named filesystem.files.tree.root ≡ true
    pub nodes : IsFoundAmong node_named filesystem.files.tree.node
    pub numbers : list_all named filesystem.files.numbers ≡ true
    pub overlay : OverlayIfAnyNamed filesystem.overlay

  pub record WorldNamed (world : World ℕ) : Type 0 where
    pub mounts : list_all mount_named world.mounts ≡ true
    pub masters : IsFoundAmong named world.master
    pub filesystems : All FilesystemNamed world.filesystems
    pub namespaces : list_all namespace_named world.namespaces ≡ true
    pub tasks : list_all task_named world.tasks ≡ true

abbrev pub NamedIsKept : Type 0
NamedIsKept = (named : ℕ → Bool) (world : World ℕ) → WorldNamed named world → KeepsTo named world

-- A world that keeps to some numbers, and a supply from them: so does the world after each call,
abbrev pub CallsKeepToNumbers : Type 0
CallsKeepToNumbers =
    (named : ℕ → Bool) (fresh : Fresh ℕ) (world : World ℕ) (name : TaskName) (call : Call)
    → KeepsTo named world → IsSuppliedFrom named fresh
    → KeepsTo named (policy nat_eq fresh world name call).world

-- and the world after each line.
abbrev pub LinesKeepToNumbers : Type 0
LinesKeepToNumbers =
    (named : ℕ → Bool) (grammar : Grammar) (fresh : Fresh ℕ) (world : World ℕ) (line : List ℕ)
    → KeepsTo named world → IsSuppliedFrom named fresh
    → KeepsTo named (step_world world (line_step nat_eq grammar world line (Some fresh)))

-- So what a world has in use is among the numbers that it keeps to, and what is in use after a call is among those that
-- the world kept to and those that were handed in.
abbrev pub UsedNumbersAreNamed : Type 0
UsedNumbersAreNamed =
    (named : ℕ → Bool) (world : World ℕ) → KeepsTo named world → LeavesOutTwo named
    → (number : ℕ) → is_among nat_eq number (numbers_in_use world) ≡ true → named number ≡ true

abbrev pub CallsMakeNoOtherNumber : Type 0
CallsMakeNoOtherNumber =
    (named : ℕ → Bool) (fresh : Fresh ℕ) (world : World ℕ) (name : TaskName) (call : Call)
    → KeepsTo named world → IsSuppliedFrom named fresh → LeavesOutTwo named
    → (number : ℕ) → is_among nat_eq number (numbers_in_use (policy nat_eq fresh world name call).world) ≡ true
    → named number ≡ true

-- The text of a script is one, whatever unused numbers are handed in.

-- What becomes of a number where a line is handed its new ones: it is kept, it is a new one, or it is left over.
pub data Lot : Type 0 where
  Kept : Lot
  New : (place : ℕ) → Lot
  LeftOver : (place : ℕ) → Lot

-- A supply with room: each number is kept, or it is one of the new ones, or it is left over for later; endless are new,
-- and endless are left over.
pub record Allotment : Type 0 where
  pub lot : ℕ → Lot
  pub new : Fresh ℕ
  pub left_over : Fresh ℕ
  pub new_lot : (place : ℕ) → lot (new place) ≡ New place
  pub left_over_lot : (place : ℕ) → lot (left_over place) ≡ LeftOver place
  pub lot_new : (number place : ℕ) → lot number ≡ New place → new place ≡ number
  pub lot_left_over : (number place : ℕ) → lot number ≡ LeftOver place → left_over place ≡ number

abbrev pub is_kept_lot : Lot → Bool
is_kept_lot Kept = true
is_kept_lot (New place) = false
is_kept_lot (LeftOver place) = false

abbrev pub is_in_hand_lot : Lot → Bool
is_in_hand_lot Kept = true
is_in_hand_lot (New place) = true
is_in_hand_lot (LeftOver place) = false

-- the numbers that are kept, and those that are in hand after the line: the kept and the new ones
abbrev pub is_kept : Allotment → ℕ → Bool
is_kept allotment number = is_kept_lot (allotment.lot number)

abbrev pub is_in_hand : Allotment → ℕ → Bool
is_in_hand allotment number = is_in_hand_lot (allotment.lot number)

-- Which new numbers a call is handed does not matter: in two worlds that are the same but for their numbers, of which
-- the one keeps to what its allotment keeps, and the other's allotment keeps the same numbers renamed, a call is
-- answered alike, and leaves worlds that are the same but for their numbers.
abbrev pub SuppliesDoNotMatter : Type 0
SuppliesDoNotMatter =
    (world other : World ℕ) (same : SameWorld world other) (first second : Allotment) (name : TaskName) (call : Call)
    → KeepsTo (is_kept first) world → ((number : ℕ) → is_kept second number ≡ is_kept first (same.back number))
    → ((policy nat_eq second.new other name call).answer ≡ (policy nat_eq first.new world name call).answer)
    × SameWorld (policy nat_eq first.new world name call).world (policy nat_eq second.new other name call).world

-- Of the numbers in hand some may be given back, if the world keeps to those that are kept. So a number is used again
-- only where nothing has it any more.
pub record ServesWithRoom (in_hand : ℕ → Bool) (world : World ℕ) (allotment : Allotment) : Type 0 where
  pub from_hand : (number : ℕ) → is_kept allotment number ≡ true → in_hand number ≡ true
  pub keeps : KeepsTo (is_kept allotment) world

-- Which text may be written for these lines, of which the refused ones are given from the first line on: each line is
-- handed a supply with room, of numbers that the world does not keep to.
abbrev pub TellsWithRoom : Grammar → (ℕ → Bool) → World ℕ → ℕ → List (List ℕ) → List Bool → List ℕ → Type 0
TellsWithRoom grammar in_hand world number [] refused text = text ≡ []
TellsWithRoom grammar in_hand world number (line ∷ lines) [] text = ⊥
TellsWithRoom grammar in_hand world number (line ∷ lines) (true ∷ refused) text =
    (rest : List ℕ) × (text ≡ step_text number (line_step nat_eq grammar world line None) ++ rest)
    × TellsWithRoom grammar in_hand (step_world world (line_step nat_eq grammar world line None))
    (number + 1) lines refused rest
TellsWithRoom grammar in_hand world number (line ∷ lines) (false ∷ refused) text =
    (allotment : Allotment) × ServesWithRoom in_hand world allotment
    × (rest : List ℕ) × (text ≡ step_text number (line_step nat_eq grammar world line (Some allotment.new)) ++ rest)
    × TellsWithRoom grammar (is_in_hand allotment)
    (step_world world (line_step nat_eq grammar world line (Some allotment.new)))
    (number + 1) lines refused rest

-- the opening world has the first four numbers in hand
abbrev pub first_four : ℕ → Bool
first_four number = nat_lt number 4

-- the text may be what a script is answered with
abbrev pub MayBeText : Grammar → List Bool → List ℕ → List ℕ → Type 0
MayBeText grammar refused script text = TellsWithRoom grammar first_four first_world 1 (lines_of script) refused text

-- Whatever numbers are handed in, a script has one text.
abbrev pub AnyTwoTextsAreOne : Type 0
AnyTwoTextsAreOne =
    (grammar : Grammar) (refused : List Bool) (script text other : List ℕ)
    → MayBeText grammar refused script text → MayBeText grammar refused script other → text ≡ other

-- A world keeps to the numbers in hand, line after line: one who gives no number back need show nothing.
abbrev pub WorldsKeepToHand : Type 0
WorldsKeepToHand =
    (grammar : Grammar) (in_hand : ℕ → Bool) (world : World ℕ) (allotment : Allotment) (line : List ℕ)
    → ServesWithRoom in_hand world allotment
    → KeepsTo (is_in_hand allotment) (step_world world (line_step nat_eq grammar world line (Some allotment.new)))

-- A supply with room serves: none of its numbers is in use, and each is another one. So each such text is one that the
-- definition of the machine allows.
abbrev pub RoomServes : Type 0
RoomServes =
    (in_hand : ℕ → Bool) (world : World ℕ) (allotment : Allotment) → ServesWithRoom in_hand world allotment
    → Serves nat_eq world allotment.new

abbrev pub TextsAreTold : Type 0
TextsAreTold =
    (grammar : Grammar) (refused : List Bool) (script text : List ℕ)
    → MayBeText grammar refused script text → Tells nat_eq grammar first_world 1 (lines_of script) refused text

-- The text that is computed, with a row of numbers for each line, is a text of the script,
abbrev pub SomeTextIsThere : Type 0
SomeTextIsThere =
    (grammar : Grammar) (refused : List Bool) (script : List ℕ) → length refused ≡ length (lines_of script)
    → MayBeText grammar refused script (text_of grammar refused script)

-- and whatever numbers are handed in, it is the text.
abbrev pub WholeMachineHasOneText : Type 0
WholeMachineHasOneText =
    (grammar : Grammar) (refused : List Bool) (script text : List ℕ)
    → MayBeText grammar refused script text → text ≡ text_of grammar refused script
