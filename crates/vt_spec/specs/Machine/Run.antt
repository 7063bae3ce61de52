-- A script's answers: the policy folded over its lines (profile).
use Rattle.std.specs.Prelude.{Bool, List, None, Option, Some, [], false, flat_map, length, map, nat_eq, nat_lt, option_to_list, true, ℕ, ◌*◌, ◌++◌, ◌+◌, ◌/◌, ◌∷◌, ◌≡◌}
use Rattle.std.specs.Fmt.{digits}
use Rattle.vt_spec.specs.declared.errors.Rule.TheVariants.{S1, S5}
use Rattle.vt_spec.specs.Errors.{denial}
use Rattle.vt_spec.specs.Machine.Judging.{judging}
use Rattle.vt_spec.specs.Lists.{Fresh, is_among}
use Rattle.vt_spec.specs.Machine.Mounts.{Mount, source_of}
use Rattle.vt_spec.specs.Machine.Outcomes.{Outcome, denied}
use Rattle.vt_spec.specs.Machine.Policy.{policy}
use Rattle.vt_spec.specs.Language.Printed.{reply_line}
use Rattle.vt_spec.specs.Language.Script.{Grammar, Request, Version, is_silent, lines_of, overlays, request_of, whole}
use Rattle.vt_spec.specs.Language.Limits.{longest_line}
use Rattle.vt_spec.specs.Language.Script.Request.{Asking, Calling}
use Rattle.vt_spec.specs.Language.Script.Version.{One}
use Rattle.vt_spec.specs.Machine.Sealed.{directed, sealed}
use Rattle.vt_spec.specs.Machine.World.{Filesystem, World, opening}

-- what a line leads to: nothing, or an outcome that is answered
pub data Step (N : Type 0) : Type 0 where
  Silent : Step N
  Answered : (outcome : Outcome N) → Step N

module _ {N : Type 0} where
  -- the text that a step writes for the line of this number
  abbrev pub step_text : ℕ → Step N → List ℕ
  step_text number Silent = []
  step_text number (Answered outcome) = reply_line number outcome.answer

  -- the world after a step
  abbrev pub step_world : World N → Step N → World N
  step_world world Silent = world
  step_world world (Answered outcome) = outcome.world

  -- the numbers of a mount, and of its group or master
  abbrev pub used_by_mount : Mount N → List N
  used_by_mount mount = mount.number ∷ option_to_list (source_of mount.propagation)

  -- the numbers of a filesystem and of its inodes
  abbrev pub used_by_filesystem : Filesystem N → List N
  used_by_filesystem filesystem = filesystem.number ∷ filesystem.files.numbers

  -- the numbers in use: by a mount, a group, a filesystem, a namespace, or an inode
  abbrev pub numbers_in_use : World N → List N
  numbers_in_use world =
      flat_map used_by_mount world.mounts ++ flat_map used_by_filesystem world.filesystems
      ++ map (λ namespace. namespace.number) world.namespaces

module _ {N : Type 0} (eq : N → N → Bool) where
  -- a call goes to the policy and a directive to `directed`; any other line is S1
  abbrev pub requested : World N → Option Request → Fresh N → Outcome N
  requested world None fresh = denied world (denial S1)
  requested world (Some (Calling task call)) fresh = policy eq fresh world task call
  requested world (Some (Asking directive)) fresh = directed eq world directive

  -- if an allocation fails, the line answers S5 and has no effect
  abbrev pub spoken_step : Grammar → World N → List ℕ → Option (Fresh N) → Step N
  spoken_step grammar world line None = Answered (denied world (denial S5))
  spoken_step grammar world line (Some fresh) = Answered (requested world (request_of grammar line) fresh)

  -- a line that is too long is S1, and a silent one has no answer
  abbrev pub line_step_by : (too_long : Bool) → (silent : Bool) → Grammar → World N → List ℕ → Option (Fresh N) → Step N
  line_step_by true silent grammar world line fresh = Answered (denied world (denial S1))
  line_step_by false true grammar world line fresh = Silent
  line_step_by false false grammar world line fresh = spoken_step grammar world line fresh

  -- the step of a line, to which new numbers are handed in for what its call may make, or none where an allocation
  -- fails
  abbrev pub line_step : Grammar → World N → List ℕ → Option (Fresh N) → Step N
  line_step grammar world line fresh =
      line_step_by (nat_lt longest_line (length line)) (is_silent line) grammar world line fresh

  -- a supply may serve a line if none of its numbers is in use and no two are equal
  pub record Serves (world : World N) (fresh : Fresh N) : Type 0 where
    pub unused : (k : ℕ) → is_among eq (fresh k) (numbers_in_use world) ≡ false
    pub apart : (j k : ℕ) → eq (fresh j) (fresh k) ≡ true → j ≡ k

  -- Which text may be written for these lines, where those in which an allocation fails are given from the first line
  -- on: each line is handed some numbers that are not in use.
  abbrev pub Tells : Grammar → World N → ℕ → List (List ℕ) → List Bool → List ℕ → Type 0
  Tells grammar world number [] refused text = text ≡ []
  Tells grammar world number (line ∷ lines) [] text = ⊥
  Tells grammar world number (line ∷ lines) (true ∷ refused) text =
      (rest : List ℕ) × (text ≡ step_text number (line_step grammar world line None) ++ rest)
      × Tells grammar (step_world world (line_step grammar world line None)) (number + 1) lines refused rest
  Tells grammar world number (line ∷ lines) (false ∷ refused) text =
      (fresh : Fresh N) × Serves world fresh
      × (rest : List ℕ) × (text ≡ step_text number (line_step grammar world line (Some fresh)) ++ rest)
      × Tells grammar (step_world world (line_step grammar world line (Some fresh))) (number + 1) lines refused rest

-- The opening world has the first four numbers. All others stand in endless rows, one for each line, along the
-- diagonals: Cantor's pairing. So no two lines share a number, however many each takes.

-- the opening world, with these numbers
abbrev pub first_world : World ℕ
first_world = opening nat_eq (λ place. place)

-- the numbers for the line of this number
abbrev pub numbers_for : ℕ → Fresh ℕ
numbers_for line place = 4 + ((line + place) * (line + place + 1)) / 2 + line

-- what the line of this number is handed: numbers, or nothing where an allocation fails
abbrev pub handed : ℕ → List Bool → Option (Fresh ℕ)
handed number [] = Some (numbers_for number)
handed number (true ∷ refused) = None
handed number (false ∷ refused) = Some (numbers_for number)

-- whether an allocation fails, for the lines after this one
abbrev pub later : List Bool → List Bool
later [] = []
later (line ∷ lines) = lines

-- the text of the answers to these lines, in some of which an allocation fails
abbrev pub text_from : Grammar → World ℕ → ℕ → List (List ℕ) → List Bool → List ℕ
text_from grammar world number [] refused = []
text_from grammar world number (line ∷ lines) refused =
    step_text number (line_step nat_eq grammar world line (handed number refused))
    ++ text_from grammar (step_world world (line_step nat_eq grammar world line (handed number refused)))
    (number + 1) lines (later refused)

-- the world after these lines, where no allocation fails
abbrev pub world_from : Grammar → World ℕ → ℕ → List (List ℕ) → World ℕ
world_from grammar world number [] = world
world_from grammar world number (line ∷ lines) =
    world_from grammar (step_world world (line_step nat_eq grammar world line (handed number []))) (number + 1) lines

-- the answers to a script: an allocation fails in those of its lines whose place in the list is `true`
abbrev pub text_of : Grammar → List Bool → List ℕ → List ℕ
text_of grammar refused script = text_from grammar first_world 1 (lines_of script) refused

-- the answers of the product as it is today, in a version of the script's language
unfoldable pub script_text_as : Version → List Bool → List ℕ → List ℕ
script_text_as version refused script = text_of (overlays version) refused script

-- and those to a script of the first version
abbrev pub script_text : List Bool → List ℕ → List ℕ
script_text refused script = script_text_as One refused script

-- the answers of the whole machine, in a version of the script's language
unfoldable pub machine_text : Version → List Bool → List ℕ → List ℕ
machine_text version refused script = text_of (whole version) refused script

-- what a proof by computation opens
unfoldable pub everything : Unit {0}
unfolding digits script_text_as machine_text request_of sealed judging
everything = tt
