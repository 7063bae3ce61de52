-- Which rules a call is refused by, and by which of several that fail.
use Rattle.std.specs.Prelude.{Bool, Err, IfOk, IsErrAnd, List, None, Ok, Option, Some, [], false, if◌then◌else◌, map, nat_eq, true, ℕ, ◌++◌, ◌∷◌, ◌≡◌, ◌≢◌}
use Rattle.vt_laws_rules.specs.Asked.{IsAnsweredByLeast, IsLeastOf, asked_first, asked_last, failing, last_word_rules}
use Rattle.vt_spec.specs.Machine.Rules.Descriptors.{exclusive_word_rules}
use Rattle.vt_laws_rules.specs.RuleRanks.{IsInOrder, IsInOrderAfterWalk, is_among}
use Rattle.vt_spec.specs.declared.errors.Deny.{Deny}
use Rattle.vt_spec.specs.declared.errors.Rule.{Rule}
use Rattle.vt_spec.specs.declared.errors.Rule.TheVariants.{B1, B2, C1, C2, C3, E1, E2, E3, E4, E5, E6, E7, E8, E9, F1, F2, F3, K1, L1, M10, M11, M12, M2, M3, M4, M5, M6, M7, M8, M9, O1, O2, O3, O4, O5, P1, P2, S1, S2, S3, S4, S5, S6, W1, W2, W3, W4, W5, W6, W7, W8, W9}
use Rattle.vt_spec.specs.Errors.{Rules, denial}
use Rattle.vt_spec.specs.Language.Calls.{Call, Creation, TaskName, opens_for_writing}
use Rattle.vt_spec.specs.Language.Calls.Call.{Bind, Chdir, Chmod, Chown, Chroot, Close, Drop, Exec, Exit, Fork, Lazy, LinkTo, ListMounts, Ls, Lstat, MakeWhiteout, Mkdir, MountOverlay, MountPlain, MoveMount, Opaque, OpenFile, PivotRoot, Pread, Pwrite, Read, Readlink, Remount, Rename, Rmdir, SetType, Setns, Stat, SymlinkAt, Umask, Umount, Unlink, Unshare, Write}
use Rattle.vt_spec.specs.Language.Calls.Creation.{Exclusive, NoCreation, OrCreate}
use Rattle.vt_spec.specs.Lists.{Fresh}
use Rattle.vt_spec.specs.Machine.Outcomes.{Outcome}
use Rattle.vt_spec.specs.Machine.Looks.{looks_of}
use Rattle.vt_spec.specs.Machine.Policy.{policy}
use Rattle.vt_spec.specs.Machine.Run.{line_step}
use Rattle.vt_spec.specs.Machine.Run.Step.{Answered}
use Rattle.vt_spec.specs.Language.Script.{Grammar, Request, request_of}
use Rattle.vt_spec.specs.Language.Script.Request.{Asking, Calling}
use Rattle.vt_spec.specs.Machine.Mounts.{Location}
use Rattle.vt_spec.specs.Machine.Rules.Making.{symlink_text_rules}
use Rattle.vt_spec.specs.Machine.Rules.Removing.{rename_new_walk, rmdir_word_rules}
use Rattle.vt_spec.specs.Machine.Walking.{Here, LastWord, Place, follow_rules, new_leaf_walk, new_name_rules, old_leaf_walk, place_walk, search_rules, stepped, walk_end}
use Rattle.vt_spec.specs.Machine.World.{Task, World, is_removed_at, task_called}
use Rattle.vt_spec.specs.PathText.{path_rules}

-- the rules of walks, which each call with a path has: path_resolution(7); those of a removed directory and of
-- nosymfollow too
abbrev pub walk_rules : List Rule
walk_rules = W1 ∷ W2 ∷ W3 ∷ W4 ∷ W5 ∷ W6 ∷ W7 ∷ W8 ∷ W9 ∷ []

abbrev pub has_path : Call → Bool
has_path (Pread descriptor offset size) = false
has_path (Pwrite descriptor offset bytes) = false
has_path (Close descriptor) = false
has_path (Umask mode) = false
has_path (Drop which) = false
has_path (Fork words) = false
has_path Exit = false
has_path Unshare = false
has_path (Setns name) = false
has_path ListMounts = false
has_path call = true

-- open(2): only who writes, or may make the file, meets a read-only mount, a locked layer and a copy of the file
abbrev pub own_rules_of_open : Creation → Bool → List Rule
own_rules_of_open NoCreation false = S3 ∷ E2 ∷ E9 ∷ C1 ∷ B1 ∷ []
own_rules_of_open NoCreation true = S3 ∷ E2 ∷ E9 ∷ F1 ∷ F2 ∷ L1 ∷ C1 ∷ B1 ∷ B2 ∷ []
own_rules_of_open (OrCreate mode) writes = S3 ∷ E2 ∷ E9 ∷ F1 ∷ F2 ∷ L1 ∷ C1 ∷ B1 ∷ B2 ∷ []
own_rules_of_open (Exclusive mode) writes = S3 ∷ E1 ∷ E2 ∷ F1 ∷ F2 ∷ L1 ∷ C1 ∷ B1 ∷ B2 ∷ []

-- The rules that a call has beside those of its walks; B1 and B2 are what an overlay's mounter is asked. The errors of
-- each are those of its man page, and where that leaves a choice the profile's.
abbrev pub own_rules : Call → List Rule
own_rules (Ls path) = C1 ∷ B1 ∷ []
own_rules (Stat path) = []
own_rules (Lstat path) = []
own_rules (Readlink path) = E5 ∷ []
own_rules (Read path) = E2 ∷ E9 ∷ C1 ∷ B1 ∷ []
own_rules (Write path bytes) = E2 ∷ E6 ∷ E9 ∷ F1 ∷ F2 ∷ L1 ∷ C1 ∷ B1 ∷ B2 ∷ []
own_rules (Exec path) = E8 ∷ F3 ∷ C1 ∷ B1 ∷ []
own_rules (Mkdir path mode) = E1 ∷ F1 ∷ F2 ∷ L1 ∷ C1 ∷ B1 ∷ B2 ∷ []
own_rules (SymlinkAt text path) = E1 ∷ F1 ∷ F2 ∷ L1 ∷ C1 ∷ B1 ∷ B2 ∷ []
own_rules (MakeWhiteout path) = E1 ∷ F1 ∷ F2 ∷ L1 ∷ C1 ∷ O4 ∷ []
own_rules (LinkTo old new) = E1 ∷ E7 ∷ F1 ∷ F2 ∷ L1 ∷ P2 ∷ C1 ∷ B1 ∷ B2 ∷ []
own_rules (Unlink path) = E2 ∷ F1 ∷ F2 ∷ L1 ∷ C1 ∷ C3 ∷ B1 ∷ B2 ∷ []
own_rules (Rmdir path) = E3 ∷ E4 ∷ E5 ∷ F1 ∷ F2 ∷ L1 ∷ P1 ∷ C1 ∷ C3 ∷ B1 ∷ B2 ∷ []
own_rules (Rename old new) = E2 ∷ E3 ∷ E4 ∷ E5 ∷ F1 ∷ F2 ∷ L1 ∷ P1 ∷ P2 ∷ C1 ∷ C3 ∷ O1 ∷ B1 ∷ B2 ∷ []
own_rules (Chmod path mode) = F1 ∷ F2 ∷ L1 ∷ C2 ∷ B1 ∷ B2 ∷ []
own_rules (Chown path uid gid) = F1 ∷ F2 ∷ L1 ∷ C2 ∷ B1 ∷ B2 ∷ []
own_rules (Opaque path mark) = K1 ∷ F1 ∷ F2 ∷ L1 ∷ O4 ∷ []
own_rules (OpenFile path access creation) = own_rules_of_open creation (opens_for_writing access)
own_rules (Pread descriptor offset size) = S4 ∷ []
own_rules (Pwrite descriptor offset bytes) = S4 ∷ E6 ∷ L1 ∷ []
own_rules (Close descriptor) = S4 ∷ []
own_rules (Chdir path) = C1 ∷ B1 ∷ []
own_rules (Chroot path) = K1 ∷ C1 ∷ B1 ∷ []
own_rules (Umask mode) = []
own_rules (Drop which) = []
own_rules (Fork words) = S6 ∷ K1 ∷ []
own_rules Exit = []
own_rules Unshare = K1 ∷ []
own_rules (Setns name) = K1 ∷ []
own_rules (MountPlain path flags) = K1 ∷ M2 ∷ M9 ∷ []
own_rules (MountOverlay path options flags) = K1 ∷ O2 ∷ O3 ∷ O5 ∷ M2 ∷ M9 ∷ []
own_rules (Bind source path recursive) = K1 ∷ M2 ∷ M3 ∷ M9 ∷ []
own_rules (MoveMount source path) = K1 ∷ M2 ∷ M4 ∷ M5 ∷ M6 ∷ M7 ∷ M9 ∷ M10 ∷ []
own_rules (Umount path) = K1 ∷ M2 ∷ M7 ∷ M8 ∷ M10 ∷ []
own_rules (Lazy path) = K1 ∷ M2 ∷ M7 ∷ M10 ∷ []
own_rules (Remount path flags) = K1 ∷ M2 ∷ M7 ∷ M8 ∷ []
own_rules (SetType path word recursive) = K1 ∷ M2 ∷ M7 ∷ []
own_rules (PivotRoot new put) = K1 ∷ M2 ∷ M7 ∷ M11 ∷ M12 ∷ []
own_rules ListMounts = []

-- the rules that a call may be refused by: no such task, its own, and those of its walks
abbrev pub rules_of : Call → List Rule
rules_of call = (S2 ∷ own_rules call) ++ (if has_path call then walk_rules else [])

-- each refusal is by one of the call's rules
abbrev pub DenialIsOwn : Type 0
DenialIsOwn =
    (fresh : Fresh ℕ) (world : World ℕ) (name : TaskName) (call : Call) (deny : Deny)
    → (policy nat_eq fresh world name call).answer ≡ Err deny
    → is_among deny.rule (rules_of call) ≡ true

-- each refusal has the error of its rule
abbrev pub DenialHasErrorOfRule : Type 0
DenialHasErrorOfRule =
    (fresh : Fresh ℕ) (world : World ℕ) (name : TaskName) (call : Call) (deny : Deny)
    → (policy nat_eq fresh world name call).answer ≡ Err deny
    → deny ≡ denial deny.rule

-- The rules that a line may be refused by: of the grammar, of memory, and those of what it asks for. A line that is too
-- long is of none of the grammar, whatever it asks for (profile).
abbrev pub rules_of_request : Option Request → List Rule
rules_of_request None = S1 ∷ S5 ∷ []
rules_of_request (Some (Calling name call)) = S1 ∷ S5 ∷ rules_of call
rules_of_request (Some (Asking directive)) = S1 ∷ S5 ∷ S2 ∷ []

-- each refusal of a line is by one of its rules, with the error of the rule
abbrev pub DeniedLineIsOwn : Type 0
DeniedLineIsOwn =
    (grammar : Grammar) (world : World ℕ) (line : List ℕ) (fresh : Option (Fresh ℕ)) (outcome : Outcome ℕ) (deny : Deny)
    → line_step nat_eq grammar world line fresh ≡ Answered outcome
    → outcome.answer ≡ Err deny
    → (deny ≡ denial deny.rule) × (is_among deny.rule (rules_of_request (request_of grammar line)) ≡ true)

-- a call of a task that is not there is refused: ESRCH
abbrev pub NoTaskIsRefused : Type 0
NoTaskIsRefused =
    (fresh : Fresh ℕ) (world : World ℕ) (name : TaskName) (call : Call)
    → task_called world name ≡ None
    → (policy nat_eq fresh world name call).answer ≡ Err (denial S2)

-- where a rule fails that is asked before the walks, the call is refused by the least of those that fail (profile)
abbrev pub FirstRulesAnswer : Type 0
FirstRulesAnswer =
    (fresh : Fresh ℕ) (world : World ℕ) (name : TaskName) (task : Task ℕ) (call : Call)
    → task_called world name ≡ Some task
    → failing (asked_first world task call) ≢ []
    → IsErrAnd (policy nat_eq fresh world name call).answer
    (λ deny. IsLeastOf deny.rule (failing (asked_first world task call)))

-- where none of those fails, a walk that is refused is the call's refusal, path by path (profile)
abbrev pub WalksAnswerNext : Type 0
WalksAnswerNext =
    (fresh : Fresh ℕ) (world : World ℕ) (name : TaskName) (task : Task ℕ) (call : Call) (deny : Deny)
    → task_called world name ≡ Some task
    → failing (asked_first world task call) ≡ []
    → asked_last fresh world task call ≡ Err deny
    → (policy nat_eq fresh world name call).answer ≡ Err deny

-- Where the walks are done too, the call is refused by the least of the rules of its last table that fail, and granted
-- where none fails (profile).
abbrev pub LastRulesAnswer : Type 0
LastRulesAnswer =
    (fresh : Fresh ℕ) (world : World ℕ) (name : TaskName) (task : Task ℕ) (call : Call) (rules : Rules)
    → task_called world name ≡ Some task
    → failing (asked_first world task call) ≡ []
    → asked_last fresh world task call ≡ Ok rules
    → IsAnsweredByLeast (policy nat_eq fresh world name call).answer (failing rules)

-- a walk is refused by a rule of walks, or by its last word where that is out of the table's order
abbrev pub WalksRefuseAsWalks : Type 0
WalksRefuseAsWalks =
    (fresh : Fresh ℕ) (world : World ℕ) (task : Task ℕ) (call : Call) (deny : Deny)
    → failing (asked_first world task call) ≡ []
    → asked_last fresh world task call ≡ Err deny
    → is_among deny.rule (walk_rules ++ last_word_rules call) ≡ true

-- the rules that a call asks before its walks are in the policy's order, and before those of walks
abbrev pub FirstTablesInOrder : Type 0
FirstTablesInOrder = (world : World ℕ) (task : Task ℕ) (call : Call)
    → IsInOrder (asked_first world task call ++ ((true, W1) ∷ []))

-- the rules that a call asks after its walks are in the policy's order, and after those of walks
abbrev pub LastTablesInOrder : Type 0
LastTablesInOrder = (fresh : Fresh ℕ) (world : World ℕ) (task : Task ℕ) (call : Call)
    → IfOk (asked_last fresh world task call) IsInOrderAfterWalk

-- a path's text, and the text of a link that is made
abbrev pub TextRulesInOrder : Type 0
TextRulesInOrder = (text : List ℕ) → IsInOrder (path_rules text) × IsInOrder (symlink_text_rules text)

-- the rules of one word: the directory that it is looked up in, and then the step itself, by W6 or W8
abbrev pub StepRulesInOrder : Type 0
StepRulesInOrder =
    (world : World ℕ) (task : Task ℕ) (here : Location ℕ) (word : LastWord) (deny : Deny)
    → stepped nat_eq (looks_of nat_eq world) task here word ≡ Err deny
    → IsInOrder (search_rules nat_eq (looks_of nat_eq world) task here ++ ((true, deny.rule) ∷ []))

-- the rules of a directory in which a name is made: whether it may be searched, and then whether it is removed
abbrev pub ParentRulesInOrder : Type 0
ParentRulesInOrder =
    (world : World ℕ) (task : Task ℕ) (place : Place ℕ)
    → IsInOrder (search_rules nat_eq (looks_of nat_eq world) task place.parent
    ++ new_name_rules nat_eq (looks_of nat_eq world) place)

-- The special last words of rmdir and of an exclusive open. They are asked with the walk, so each before the call's
-- last table, which begins with a lesser rule, E3 or E1 (profile). Those of rename are one rule, P1.
abbrev pub LastWordRulesInOrder : Type 0
LastWordRulesInOrder = (place : Place ℕ)
    → IsInOrderAfterWalk (rmdir_word_rules place) × IsInOrderAfterWalk (exclusive_word_rules place)

-- The one table in another order: whether a link is followed at all, and how many were, is asked before its text is
-- looked at, so W9 before W7 before W2 (profile).
abbrev pub FollowRulesInReverse : Type 0
FollowRulesInReverse =
    (world : World ℕ) (link : Here ℕ) (text : List ℕ)
    → map (λ row. row.1) (follow_rules nat_eq (looks_of nat_eq world) link text) ≡ (W9 ∷ W7 ∷ W2 ∷ [])

-- a slash behind a missing name is asked last: a removed directory, W8, answers before it, though W6 is the lesser rule
-- (profile)
abbrev pub RemovedBeforeSlash : Type 0
RemovedBeforeSlash =
    (world : World ℕ) (task : Task ℕ) (path : List ℕ) (place : Place ℕ)
    → place_walk nat_eq (looks_of nat_eq world) task path ≡ Ok place
    → place.object ≡ None
    → is_removed_at nat_eq world place.parent ≡ true
    → walk_end (new_leaf_walk nat_eq (looks_of nat_eq world) task path) ≡ Err (denial W8)

-- a missing name, W6, answers before the slash behind it asks for a directory, though W3 is the lesser rule (profile)
abbrev pub MissingBeforeSlash : Type 0
MissingBeforeSlash =
    (world : World ℕ) (task : Task ℕ) (path : List ℕ) (place : Place ℕ)
    → place_walk nat_eq (looks_of nat_eq world) task path ≡ Ok place
    → place.object ≡ None
    → walk_end (old_leaf_walk nat_eq (looks_of nat_eq world) task path) ≡ Err (denial W6)

-- the new name of a rename: a removed directory, W8, answers before the slash asks that the old object is a directory,
-- though W3 is the lesser rule (profile)
abbrev pub RemovedBeforeSlashOfRename : Type 0
RemovedBeforeSlashOfRename =
    (world : World ℕ) (task : Task ℕ) (path : List ℕ) (place : Place ℕ) (old_is_directory : Bool)
    → place_walk nat_eq (looks_of nat_eq world) task path ≡ Ok place
    → place.object ≡ None
    → is_removed_at nat_eq world place.parent ≡ true
    → walk_end (rename_new_walk nat_eq (looks_of nat_eq world) task path old_is_directory) ≡ Err (denial W8)
