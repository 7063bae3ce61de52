-- What a session does between two bytes of a script, and what a run leaves in a sink.
use Rattle.std.specs.Prelude.{◌≡◌, ℕ, ◌+◌, Bool, List, [], ◌∷◌, ◌++◌, length, Option, Result, Ok, Err}
use Rattle.vt_io.specs.declared.output.Sink.{Ghosts}
use Rattle.vt_io.specs.Sink.{Wrote, WroteFront}
use Rattle.vt_io.specs.LineBuffer.{LineSoFar, Holds}
use Rattle.vt_spec.specs.Language.Script.{Version, lines_of}
use Rattle.vt_spec.specs.Language.Script.Version.{One}
use Rattle.vt_spec.specs.Machine.Run.{script_text_as, step_text, step_world}
use Rattle.vt_spec.specs.Machine.SameWorlds.{SameWorlds}
use Rattle.vt_spec.specs.Machine.World.{World}
use Rattle.vt_laws_rules.specs.Numbers.{Allotment}
use Rattle.vt_answers.specs.Ends.{HasNumbers}
use Rattle.vt_script.specs.Handed.{IsHanded, TellsHanded, step_of}
use Rattle.vt_script.specs.Progress.{Moment, Runs, HasNoNewline, whole_lines}
use Rattle.vt_script.specs.Refused.{MayBeRefusedIn}

-- a session: the version of its script's language, the world, how many lines are answered, and what is kept of the
-- next line
pub record State : Type 0 where
  pub version : Version
  pub world : World ℕ
  pub answered : ℕ
  pub kept : LineSoFar

-- the moment of a run at which a session stands, if it has read this of the next line
abbrev pub moment : State → List ℕ → Moment
moment state line =
    record { version = state.version; world = state.world; answered = state.answered; line = line }

-- these bytes were read of the next line, and there are numbers for what it may make
pub record IsReading (state : State) (line : List ℕ) : Type 0 where
  pub held : Holds line state.kept
  pub whole : HasNoNewline line
  pub numbers : HasNumbers state.world

-- a line of which some byte was read
abbrev pub begun : List ℕ → ℕ
begun [] = 0
begun (byte ∷ bytes) = 1

-- how many lines are answered or begun
abbrev pub lines_begun : State → ℕ
lines_begun state = state.answered + begun state.kept.bytes

-- the step of a line leaves this world, but for change numbers and the order of numbers beside trees
abbrev pub IsLeftBy : Version → World ℕ → List ℕ → World ℕ → Type 0
IsLeftBy version old line new =
    (handed : Option Allotment) × IsHanded version old line handed
    × SameWorlds (step_world old (step_of version old line handed)) new

-- what may be told of the last line
pub record IsLast (old : Moment) (text : List ℕ) : Type 0 where
  pub refused : List Bool
  pub tells : TellsHanded old.version old.world (old.answered + 1) (lines_of old.line) refused text

module _ {W : Type 0} (sink : Ghosts W) where
  -- bytes were read, and the lines that ended were answered
  pub record Fed (old : Moment) (bytes : List ℕ) (new : State) (before after : W) : Type 0 where
    pub line : List ℕ
    pub text : List ℕ
    pub reading : IsReading new line
    pub runs : Runs old bytes text (moment new line)
    pub wrote : Wrote sink before after text

  -- a write failed in the text of some of the bytes
  pub record Broke (old : Moment) (bytes : List ℕ) (before after : W) : Type 0 where
    pub read : List ℕ
    pub unread : List ℕ
    pub text : List ℕ
    pub new : Moment
    pub split : bytes ≡ read ++ unread
    pub runs : Runs old read text new
    pub wrote : WroteFront sink before after text

  abbrev pub Feeds : {T E : Type 0} → Moment → List ℕ → Result T E → State → W → W → Type 0
  Feeds old bytes (Ok t) new before after = Fed old bytes new before after
  Feeds old bytes (Err fault) new before after = Broke old bytes before after

  -- the last line was answered, if there is one
  pub record Closed (old : Moment) (before after : W) : Type 0 where
    pub text : List ℕ
    pub told : IsLast old text
    pub wrote : Wrote sink before after text

  -- a write failed in the text of the last line
  pub record BrokeLast (old : Moment) (before after : W) : Type 0 where
    pub text : List ℕ
    pub told : IsLast old text
    pub wrote : WroteFront sink before after text

  abbrev pub Closes : {T E : Type 0} → Moment → Result T E → W → W → Type 0
  Closes old (Ok t) before after = Closed old before after
  Closes old (Err fault) before after = BrokeLast old before after

  -- one line was answered by its step, which leaves this world but for change numbers and the order of numbers beside
  -- trees, with numbers for what the next line may make
  pub record Replied (version : Version) (old : World ℕ) (line : List ℕ) (number : ℕ) (new : World ℕ) (before after : W) : Type 0 where
    pub handed : Option Allotment
    pub serves : IsHanded version old line handed
    pub world : SameWorlds (step_world old (step_of version old line handed)) new
    pub numbers : HasNumbers new
    pub wrote : Wrote sink before after (step_text number (step_of version old line handed))

  -- a write failed in the text of one line
  pub record BrokeReply (version : Version) (old : World ℕ) (line : List ℕ) (number : ℕ) (before after : W) : Type 0 where
    pub handed : Option Allotment
    pub serves : IsHanded version old line handed
    pub wrote : WroteFront sink before after (step_text number (step_of version old line handed))

  abbrev pub Replies : {T E : Type 0} → Version → World ℕ → List ℕ → ℕ → Result T E → World ℕ → W → W → Type 0
  Replies version old line number (Ok t) new before after = Replied version old line number new before after
  Replies version old line number (Err fault) new before after = BrokeReply version old line number before after

  -- the sink was given the policy's answers to the script, in a version of its language, where allocations may have
  -- failed in lines that may fail
  abbrev pub AnswersScriptIn : Version → List ℕ → W → W → Type 0
  AnswersScriptIn version script before after =
      (refused : List Bool) × MayBeRefusedIn version (lines_of script) refused
      × (sink.written after ≡ sink.written before ++ script_text_as version refused script)

  -- the sink was given the policy's answers to the complete lines of what was read of the script
  abbrev pub AnswersWholeLinesIn : Version → List ℕ → List ℕ → W → W → Type 0
  AnswersWholeLinesIn version script unread before after =
      (read : List ℕ) × (script ≡ read ++ unread) × AnswersScriptIn version (whole_lines read) before after

  -- the sink was given a beginning of the policy's answers to the script
  abbrev pub BeginsToAnswerIn : Version → List ℕ → W → W → Type 0
  BeginsToAnswerIn version script before after =
      (refused : List Bool) × MayBeRefusedIn version (lines_of script) refused × (text : List ℕ) × (more : List ℕ)
      × (sink.written after ≡ sink.written before ++ text) × (script_text_as version refused script ≡ text ++ more)

  -- The source gave so many bytes at its last read, and these are unread. The complete lines that it gave before that
  -- read are answered. Then the sink was given a beginning of the answers to what this read gave: so it was in these that
  -- a write failed, and the source was asked no more.
  pub record EndsAtOnceIn (version : Version) (script : List ℕ) (given : ℕ) (unread : List ℕ) (before after : W) : Type 0 where
    pub read : List ℕ
    pub last : List ℕ
    pub split : script ≡ read ++ last ++ unread
    pub size : length last ≡ given
    pub answered : List Bool
    pub refused : List Bool
    pub front : List ℕ
    pub more : List ℕ
    pub lines : MayBeRefusedIn version (lines_of (whole_lines read)) answered
    pub all_lines : MayBeRefusedIn version (lines_of (read ++ last)) (answered ++ refused)
    pub written : sink.written after
        ≡ sink.written before ++ script_text_as version answered (whole_lines read) ++ front
    pub text : script_text_as version (answered ++ refused) (read ++ last)
        ≡ script_text_as version answered (whole_lines read) ++ front ++ more

  -- the same of a script of the first version
  abbrev pub AnswersScript : List ℕ → W → W → Type 0
  AnswersScript script before after = AnswersScriptIn One script before after

  abbrev pub AnswersWholeLines : List ℕ → List ℕ → W → W → Type 0
  AnswersWholeLines script unread before after = AnswersWholeLinesIn One script unread before after

  abbrev pub BeginsToAnswer : List ℕ → W → W → Type 0
  BeginsToAnswer script before after = BeginsToAnswerIn One script before after

  abbrev pub EndsAtOnce : List ℕ → ℕ → List ℕ → W → W → Type 0
  EndsAtOnce script given unread before after = EndsAtOnceIn One script given unread before after
