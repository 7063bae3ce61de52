-- Calls as their words are read, and what becomes of a line that asks for one.
use Rattle.std.specs.Prelude.{List, None, Option, Some, length, option_map, ℕ, ⊤, ◌<◌, ◌≡◌, ◌⊎◌, IsSomeAnd, Result, Ok, Err}
use Rattle.vt_spec.specs.Language.Calls as spec
use Rattle.vt_spec.specs.Language.Calls.Call.{Fork, Pwrite, Setns, Write}
use Rattle.vt_spec.specs.Language.Calls.Directive.{AskPeers, AskSealed}
use Rattle.vt_spec.specs.Language.Script.{Request, Version, call_read, call_words, mount_words, names_no_upper, no_more, path_word, word_then}
use Rattle.vt_spec.specs.Language.Script.Request.{Asking, Calling}
use Rattle.vt_spec.specs.Errors.{denial}
use Rattle.vt_spec.specs.declared.errors.Deny.{Deny}
use Rattle.vt_spec.specs.declared.errors.Rule.TheVariants.{S1, S5}
use Rattle.vt_request.specs.declared.request.Call.{Call}
use Rattle.vt_request.specs.declared.request.Directive.{Directive}
use Rattle.vt_request.specs.declared.task.TheConstants.{INLINE_NUMBERS}
use Rattle.vt_request.specs.Requests.{call_of, capabilities_of, directive_of}
use Rattle.vt_line.specs.Names.{name_text}
use Rattle.vt_line.specs.declared.names.CallName.{CallName}
use Rattle.vt_line.specs.declared.line.Line.{Line}
use Rattle.vt_line.specs.declared.line.Line.TheVariants as line
use Rattle.vt_line.specs.declared.calls.tasks.Child.{Child}
use Rattle.vt_line.specs.declared.calls.ReadError.{ReadError}
use Rattle.vt_line.specs.declared.calls.ReadError.TheVariants.{Grammar, Memory}

-- A call takes memory for the bytes that it writes, for a list of groups, and for a task's name of many numbers. The
-- others take none: their paths and texts are lent. No bytes and no groups take none.
abbrev pub KeepsWords : spec.Call → Type 0
KeepsWords (Write path bytes) = 0 < length bytes
KeepsWords (Pwrite descriptor offset bytes) = 0 < length bytes
KeepsWords (Fork (Some words)) = 0 < length words.groups
KeepsWords (Setns task) = INLINE_NUMBERS < length task
KeepsWords call = ⊥

-- A directive takes memory for the tasks that it names.
abbrev pub KeepsNames : spec.Directive → Type 0
KeepsNames AskPeers = ⊥
KeepsNames (AskSealed tasks) = ⊤

-- A request takes memory for what its call keeps, and for a task's name of many numbers, or for what its directive keeps.
abbrev pub TakesMemory : Request → Type 0
TakesMemory (Calling task call) = KeepsWords call ⊎ (INLINE_NUMBERS < length task)
TakesMemory (Asking directive) = KeepsNames directive

-- a call as the grammar reads it, which knows no options of an upper layer
abbrev pub as_read : Option spec.Call → Option spec.Call
as_read = option_map (call_read names_no_upper)

-- the call that a version of the language has for a name and words, and the same as the grammar reads it
abbrev pub call_worded : Version → CallName → List (List ℕ) → Option spec.Call
call_worded version name words = call_words version (name_text name) words

abbrev pub call_named : Version → CallName → List (List ℕ) → Option spec.Call
call_named version name words = as_read (call_worded version name words)

-- the mount of a filesystem of this kind with the words behind it
abbrev pub mount_named : Version → List ℕ → List (List ℕ) → Option spec.Call
mount_named version kind words = as_read (mount_words version kind words)

-- a call was read, or why none was
abbrev pub IsCallRead : Option spec.Call → Result Call ReadError → Type 0
IsCallRead asked (Ok call) = asked ≡ Some (call_of call)
IsCallRead asked (Err Grammar) = asked ≡ None
IsCallRead asked (Err Memory) = IsSomeAnd asked KeepsWords

-- a directive was read, or why none was
abbrev pub IsDirectiveRead : Option spec.Directive → Result Directive ReadError → Type 0
IsDirectiveRead asked (Ok directive) = asked ≡ Some (directive_of directive)
IsDirectiveRead asked (Err Grammar) = asked ≡ None
IsDirectiveRead asked (Err Memory) = IsSomeAnd asked KeepsNames

-- the refusal of a line of which no call or directive was read
abbrev pub refusal : ReadError → Deny
refusal Grammar = denial S1
refusal Memory = denial S5

-- the request that a line asks for; one without an answer asks for none
abbrev pub AsksFor : Line → Option Request → Type 0
AsksFor line.Silent asked = ⊥
AsksFor (line.Call task call) asked = asked ≡ Some (Calling task (call_of call))
AsksFor (line.Ask directive) asked = asked ≡ Some (Asking (directive_of directive))

-- a request was read, or why none was
abbrev pub IsRequestRead : Option Request → Result Line Deny → Type 0
IsRequestRead asked (Ok line) = AsksFor line asked
IsRequestRead asked (Err deny) =
    ((deny ≡ denial S1) × (asked ≡ None)) ⊎ ((deny ≡ denial S5) × IsSomeAnd asked TakesMemory)

-- a path, and no more
unfoldable pub lone_path : List (List ℕ) → Option (List ℕ)
lone_path words = word_then path_word no_more words

-- two paths, and no more
unfoldable pub path_pair : List (List ℕ) → Option (List ℕ × List ℕ)
path_pair words = word_then path_word (λ first. word_then path_word (λ second. no_more (first, second))) words

-- a child's credentials
abbrev pub child_of : Child → spec.ForkWords
child_of child = record { uid = child.uid; gid = child.gid; groups = child.groups.items; capabilities = capabilities_of child.caps }

-- two paths as a call
abbrev pub with_pair : (List ℕ → List ℕ → spec.Call) → List ℕ × List ℕ → spec.Call
with_pair call (first, second) = call first second
