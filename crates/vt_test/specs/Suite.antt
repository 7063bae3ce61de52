-- The scripts of a file, and what was read of them.
use Rattle.std.specs.Prelude.{All, Bool, List, [], false, if◌then◌else◌, not, ℕ, ◌++◌, ◌||◌, ◌∷◌, ◌≡◌}
use Rattle.std.specs.List.{flat_map, list_any}
use Rattle.vt_line.specs.Versions.{version_of}
use Rattle.vt_spec.specs.Language.Script.{Version, is_silent, lines_of}
use Rattle.vt_spec.specs.PathText.{is_empty}
use Rattle.vt_wanted.specs.Entries.{calls_of}
use Rattle.vt_test.specs.declared.suite.Reading.{Reading}
use Rattle.vt_test.specs.declared.suite.Script.{Script}

-- a text has a line that is neither a comment nor of spaces alone
abbrev pub has_call : List ℕ → Bool
has_call text = list_any (λ line. not (is_silent line)) (lines_of text)

-- the line of a name, without the name
abbrev pub name_line : List ℕ → List ℕ
name_line [] = []
name_line (byte ∷ name) = 10 ∷ []

-- the lines of a script in its file: that of its name, if it has one, and its own
abbrev pub lines_in : Script → List ℕ
lines_in script = name_line script.name.now ++ script.text.items

abbrev pub is_in : Version → Script → Type 0
is_in version script = version_of script.version ≡ version

-- Scripts in this version of their language, with these calls, in their order. None is left out, but for a beginning that
-- has no call.
pub record HaveCalls (version : Version) (calls : List ℕ) (scripts : List Script) : Type 0 where
  pub versions : All (is_in version) scripts
  pub head : List ℕ
  pub silent : has_call head ≡ false
  pub told : calls ≡ head ++ flat_map lines_in scripts

-- the scripts of a file have the calls of all its lines
abbrev pub AreScriptsOf : Version → List ℕ → List Script → Type 0
AreScriptsOf version file scripts = HaveCalls version (calls_of file) scripts

-- these calls are those of the scripts that were read, and of the one that is read
pub record IsRead (version : Version) (calls : List ℕ) (done : List Script) (script : Script) : Type 0 where
  pub versions : All (is_in version) done
  pub own_version : is_in version script
  pub head : List ℕ
  pub silent : has_call head ≡ false
  pub told : calls ≡ head ++ (flat_map lines_in done ++ lines_in script)
  pub first : script.name.now ≡ [] → (done ≡ []) × (head ≡ [])

-- a script that ends is kept if it has a name or a call
abbrev pub is_kept : Script → Bool
is_kept script = not (is_empty script.name.now) || has_call script.text.items

abbrev pub kept_after : List Script → Script → List Script
kept_after done script = if is_kept script then done ++ script ∷ [] else done

-- If no allocation failed, reading went on by these calls.
abbrev pub ReadsOn : List ℕ → Reading → Reading → Type 0
ReadsOn more old new = new.failed ≡ false → (old.failed ≡ false)
    × ((version : Version) (calls : List ℕ) → IsRead version calls old.done.items old.script
    → IsRead version (calls ++ more) new.done.items new.script)

-- If no allocation failed, these are the calls of the whole file.
abbrev pub ReadsAll : List ℕ → Reading → Reading → Type 0
ReadsAll file old new = new.failed ≡ false → (old.failed ≡ false)
    × ((version : Version) → IsRead version [] old.done.items old.script → AreScriptsOf version file new.done.items)

-- If no allocation failed, a script that was read goes on by this text.
pub record SaysMore (more : List ℕ) (old new : Reading) : Type 0 where
  pub not_failed : old.failed ≡ false
  pub done : new.done.items ≡ old.done.items
  pub name : new.script.name.now ≡ old.script.name.now
  pub version : new.script.version ≡ old.script.version
  pub text : new.script.text.items ≡ old.script.text.items ++ more

-- If no allocation failed, a script has ended, and another has begun.
pub record Ends (next : Script) (old new : Reading) : Type 0 where
  pub not_failed : old.failed ≡ false
  pub done : new.done.items ≡ kept_after old.done.items old.script
  pub script : new.script ≡ next
