-- The exit status of the program (profile), and the faults that come before anything is written.
use Rattle.std.specs.Prelude.{ℕ, ◌≡◌, Result, Ok, Err, Bool, true, false}
use Rattle.vt_run.specs.declared.fault.Fault.{Fault}
use Rattle.vt_line.specs.declared.fault.RunFault.{RunFault}
use Rattle.vt_line.specs.declared.fault.RunFault.TheVariants.{Memory}
use Rattle.vt_run.specs.declared.fault.Fault.TheVariants.{Words, Help, Open, Read, Write, Found, Run}

-- 0 where all is well: of a run, all was read and answered, denials included; 2 where the words are refused or ask for help; else 1
abbrev pub status_of : {T : Type 0} → Result T Fault → ℕ
status_of (Ok t) = 0
status_of (Err (Words text)) = 2
status_of (Err (Help text)) = 2
status_of (Err (Open name cause)) = 1
status_of (Err (Read name cause)) = 1
status_of (Err (Write cause)) = 1
status_of (Err Found) = 1
status_of (Err (Run fault)) = 1

abbrev is_memory : RunFault → Bool
is_memory Memory = true
is_memory _ = false

-- a fault of the words: they are refused, ask for help, or could not be read for want of memory
abbrev pub is_of_words : Fault → Bool
is_of_words (Words text) = true
is_of_words (Help text) = true
is_of_words (Open name cause) = false
is_of_words (Read name cause) = false
is_of_words (Write cause) = false
is_of_words Found = false
is_of_words (Run fault) = is_memory fault

abbrev pub IsOfWords : Fault → Type 0
IsOfWords fault = is_of_words fault ≡ true

-- a fault before the script was opened: nothing was written
abbrev pub comes_before_output : Fault → Bool
comes_before_output (Words text) = true
comes_before_output (Help text) = true
comes_before_output (Open name cause) = true
comes_before_output (Read name cause) = false
comes_before_output (Write cause) = false
comes_before_output Found = false
comes_before_output (Run fault) = false

-- a fault of a run: a file cannot be opened, a device failed, or an allocation did
abbrev pub is_of_run : Fault → Bool
is_of_run (Words text) = false
is_of_run (Help text) = false
is_of_run (Open name cause) = true
is_of_run (Read name cause) = true
is_of_run (Write cause) = true
is_of_run Found = false
is_of_run (Run fault) = true
