-- How the steps of a session follow one another.
use Rattle.std.proofs.Common.{◌≡◌, ◌≢◌, ℕ, ◌+◌, List, [], ◌∷◌, ◌++◌, length, take, Option, is_none, Result, Ok, Err, refl, sym, ap, ◌∙◌, subst, append_assoc, arith, nat_lt, length-append, length-take, ◌≤◌, append-nil}
use Rattle.vt_spec.proofs.Common.{World, lines_of, step_text, step_world}
use Rattle.vt_io.specs.declared.output.Sink.{Ghosts}
use Rattle.vt_io.specs.LineBuffer.{Holds}
use Rattle.vt_io.specs.declared.line.TheConstants.{LONGEST_LINE}
use Rattle.vt_io.proofs.Printing.{Wrote-nothing, Wrote-append, WroteFront-append}
use Rattle.vt_laws_rules.specs.Numbers.{Allotment}
use Rattle.vt_laws_trees.proofs.runs.answered.AlikeWorlds.{sameness_is_an_equivalence}
use Rattle.vt_answers.specs.Ends.{HasNumbers}
use Rattle.vt_script.specs.Progress.{Moment, Runs, HasNoNewline, after_line}
use Rattle.vt_script.specs.Handed.{IsHanded, TellsHanded, step_of}
use Rattle.vt_script.specs.Session.{State, moment, IsReading, Fed, Feeds, Broke, begun, lines_begun, IsLast, Closed, BrokeLast, Closes, Replied, BrokeReply, Replies}
use Rattle.vt_script.proofs.RunLemmas.{stays, runs_then, runs_bytes, runs_line, lines_of-last, HasNoNewline-append}

same_moment : {a b : Moment} → a.version ≡ b.version → a.world ≡ b.world → a.answered ≡ b.answered → a.line ≡ b.line
    → a ≡ b
same_moment {a} {b} v w n l = λ i. record { version = v i; world = w i; answered = n i; line = l i }

-- a last line is the only one
last_line : (line : List ℕ) (byte : ℕ) (bytes : List ℕ) → line ≡ byte ∷ bytes → HasNoNewline line
    → lines_of line ≡ line ∷ []
last_line line byte bytes some whole =
    ap lines_of some ∙ lines_of-last byte bytes (subst HasNoNewline some whole) ∙ ap (λ l. l ∷ []) (sym some)

module _ {W : Type 0} (sink : Ghosts W) where
  -- nothing was read yet
  pub fed_nothing : (state : State) (line : List ℕ) (x : W) → IsReading state line
      → Fed sink (moment state line) [] state x x
  fed_nothing state line x reading = record {
    line = line;
    text = [];
    reading = reading;
    runs = stays (moment state line);
    wrote = Wrote-nothing sink x;
  }

  -- what was read one after another
  pub fed_then : (old : Moment) (read more : List ℕ) (middle new : State) (x y z : W)
      (first : Fed sink old read middle x y) → Fed sink (moment middle first.line) more new y z
      → Fed sink old (read ++ more) new x z
  fed_then old read more middle new x y z first second = record {
    line = second.line;
    text = first.text ++ second.text;
    reading = second.reading;
    runs = runs_then old (moment middle first.line)
        (moment new second.line) read more first.text second.text first.runs second.runs;
    wrote = Wrote-append sink first.wrote second.wrote;
  }

  -- a write failed later on
  pub broke_then : (old : Moment) (read more : List ℕ) (middle : State) (x y z : W)
      (first : Fed sink old read middle x y) → Broke sink (moment middle first.line) more y z
      → Broke sink old (read ++ more) x z
  broke_then old read more middle x y z first second = record {
    read = read ++ second.read;
    unread = second.unread;
    text = first.text ++ second.text;
    new = second.new;
    split = ap (λ xs. read ++ xs) second.split ∙ sym (append_assoc read second.read second.unread);
    runs = runs_then old (moment middle first.line) second.new read second.read first.text second.text first.runs second.runs;
    wrote = WroteFront-append sink first.wrote second.wrote;
  }

  -- a write failed before more was read
  pub broke_before : (old : Moment) (read more : List ℕ) (x y : W) → Broke sink old read x y
      → Broke sink old (read ++ more) x y
  broke_before old read more x y broke = record {
    read = broke.read;
    unread = broke.unread ++ more;
    text = broke.text;
    new = broke.new;
    split = ap (λ xs. xs ++ more) broke.split ∙ append_assoc broke.read broke.unread more;
    runs = broke.runs;
    wrote = broke.wrote;
  }

  -- bytes that go onto the line
  pub fed_bytes : (old new : State) (line bytes : List ℕ) (x : W) → IsReading old line → HasNoNewline bytes
      → new.version ≡ old.version → new.world ≡ old.world → new.answered ≡ old.answered → Holds (line ++ bytes) new.kept →
      Fed sink (moment old line) bytes new x x
  fed_bytes old new line bytes x reading others version world answered held =
      let same : moment new (line ++ bytes) ≡ record (moment old line) { line = line ++ bytes } = cc in
      record {
        line = line ++ bytes;
        text = [];
        reading = record {
          held = held;
          whole = HasNoNewline-append line bytes reading.whole others;
          numbers = subst HasNumbers (sym world) reading.numbers;
        };
        runs = subst (λ m. Runs (moment old line) bytes [] m) (sym same) (runs_bytes (moment old line) bytes);
        wrote = Wrote-nothing sink x;
      }

  -- a line that was answered at its newline
  pub fed_line : (old new : State) (line : List ℕ) (x y : W) → IsReading old line
      → Replied sink old.version old.world line (old.answered + 1) new.world x y → new.version ≡ old.version
      → new.answered ≡ old.answered + 1 → Holds [] new.kept → Fed sink (moment old line) (10 ∷ []) new x y
  fed_line old new line x y reading replied version answered held =
      let step = step_of old.version old.world line replied.handed in
      let same : moment new [] ≡ after_line (moment old line) new.world = same_moment version refl answered refl in
      record {
        line = [];
        text = step_text (old.answered + 1) step;
        reading = record { held = held; whole = tt; numbers = replied.numbers };
        runs = subst (λ m. Runs (moment old line) (10 ∷ []) (step_text (old.answered + 1) step) m) (sym same)
            (runs_line (moment old line) replied.handed new.world reading.whole replied.serves replied.world);
        wrote = replied.wrote;
      }

  -- a write failed in the answer to a line
  pub broke_line : (old : State) (line : List ℕ) (x y : W) → IsReading old line
      → BrokeReply sink old.version old.world line (old.answered + 1) x y → Broke sink (moment old line) (10 ∷ []) x y
  broke_line old line x y reading broke =
      let step = step_of old.version old.world line broke.handed in
      let left = step_world old.world step in
      record {
        read = 10 ∷ [];
        unread = [];
        text = step_text (old.answered + 1) step;
        new = after_line (moment old line) left;
        split = refl;
        runs = runs_line (moment old line) broke.handed left reading.whole broke.serves (sameness_is_an_equivalence.itself left);
        wrote = broke.wrote;
      }

  -- the session once it has read a line, before its newline
  abbrev read_whole : State → List ℕ → State
  read_whole state line = record state {
    kept = record { bytes = take LONGEST_LINE line; overlong = nat_lt LONGEST_LINE (length line) };
  }

  abbrev read_at_once : (old : State) (line : List ℕ) (x : W) → IsReading old [] → HasNoNewline line
      → Fed sink (moment old []) line (read_whole old line) x x
  read_at_once old line x reading whole = record {
    line = line;
    text = [];
    reading = record {
      held = record { bytes = refl; overlong = refl };
      whole = whole;
      numbers = reading.numbers;
    };
    runs = runs_bytes (moment old []) line;
    wrote = Wrote-nothing sink x;
  }

  -- a line that was read at once, and answered
  pub fed_whole : (old new : State) (line : List ℕ) (x y : W) → IsReading old [] → HasNoNewline line
      → Replied sink old.version old.world line (old.answered + 1) new.world x y → new.version ≡ old.version
      → new.answered ≡ old.answered + 1 → Holds [] new.kept → Fed sink (moment old []) (line ++ 10 ∷ []) new x y
  fed_whole old new line x y reading whole replied version answered held =
      let first = read_at_once old line x reading whole in
      fed_then (moment old []) line (10 ∷ []) (read_whole old line) new x x y first
      (fed_line (read_whole old line) new line x y first.reading replied version answered held)

  -- a write failed in the answer to a line that was read at once
  pub broke_whole : (old : State) (line : List ℕ) (x y : W) → IsReading old [] → HasNoNewline line
      → BrokeReply sink old.version old.world line (old.answered + 1) x y
      → Broke sink (moment old []) (line ++ 10 ∷ []) x y
  broke_whole old line x y reading whole broke =
      let first = read_at_once old line x reading whole in
      broke_then (moment old []) line (10 ∷ []) (read_whole old line) x x y first
      (broke_line (read_whole old line) line x y first.reading broke)

-- what may be told of a last line of which some byte was read
told_last : (moment : Moment) (handed : Option Allotment) (byte : ℕ) (bytes : List ℕ) → moment.line ≡ byte ∷ bytes
    → HasNoNewline moment.line → IsHanded moment.version moment.world moment.line handed →
    IsLast moment (step_text (moment.answered + 1) (step_of moment.version moment.world moment.line handed))
told_last moment handed byte bytes some whole serves =
    let step = step_of moment.version moment.world moment.line handed in
    let left = step_world moment.world step in
    record {
      refused = is_none handed ∷ [];
      tells = subst (λ lines. TellsHanded moment.version moment.world (moment.answered + 1) lines (is_none handed ∷ [])
          (step_text (moment.answered + 1) step)) (sym (last_line moment.line byte bytes some whole))
          (handed, refl, serves, left, sameness_is_an_equivalence.itself left, [], sym (append-nil _), refl);
    }

module _ {W : Type 0} (sink : Ghosts W) where
  -- there is no last line
  pub closed_none : (state : State) (line : List ℕ) (x : W) → line ≡ [] → Closed sink (moment state line) x x
  closed_none state line x none = record {
    text = [];
    told = record {
      refused = [];
      tells = subst (λ l. TellsHanded state.version state.world (state.answered + 1) (lines_of l) [] []) (sym none) refl;
    };
    wrote = Wrote-nothing sink x;
  }

  -- the last line was answered
  pub closed_reply : (state : State) (line : List ℕ) (new : World ℕ) (x y : W) → line ≢ [] → IsReading state line
      → Replied sink state.version state.world line (state.answered + 1) new x y → Closed sink (moment state line) x y
  closed_reply state [] new x y some reading replied = absurd (some refl)
  closed_reply state (byte ∷ bytes) new x y some reading replied = record {
    text = step_text (state.answered + 1) (step_of state.version state.world (byte ∷ bytes) replied.handed);
    told = told_last (moment state (byte ∷ bytes)) replied.handed byte bytes refl reading.whole replied.serves;
    wrote = replied.wrote;
  }

  -- a write failed in the answer to the last line
  pub broke_last : (state : State) (line : List ℕ) (x y : W) → line ≢ [] → IsReading state line
      → BrokeReply sink state.version state.world line (state.answered + 1) x y → BrokeLast sink (moment state line) x y
  broke_last state [] x y some reading broke = absurd (some refl)
  broke_last state (byte ∷ bytes) x y some reading broke = record {
    text = step_text (state.answered + 1) (step_of state.version state.world (byte ∷ bytes) broke.handed);
    told = told_last (moment state (byte ∷ bytes)) broke.handed byte bytes refl reading.whole broke.serves;
    wrote = broke.wrote;
  }

  -- the last line was answered, or a write failed
  pub closes_reply : {T E : Type 0} (state : State) (line : List ℕ) (new : World ℕ) (x y : W) (r : Result T E)
      → line ≢ [] → IsReading state line → Replies sink state.version state.world line (state.answered + 1) r new x y
      → Closes sink (moment state line) r x y
  closes_reply state line new x y (Ok t) some reading replied = closed_reply state line new x y some reading replied
  closes_reply state line new x y (Err fault) some reading broke = broke_last state line x y some reading broke

  -- what was fed first, and then what a call did with more bytes
  pub feeds_then : {T E : Type 0} (old : Moment) (read more : List ℕ) (middle new : State) (x y z : W) (r : Result T E)
      (first : Fed sink old read middle x y) →
      Feeds sink (moment middle first.line) more r new y z → Feeds sink old (read ++ more) r new x z
  feeds_then old read more middle new x y z
      (Ok t) first second = fed_then sink old read more middle new x y z first second
  feeds_then old read more middle new x y z
      (Err fault) first broke = broke_then sink old read more middle x y z first broke

-- a line is begun at its first byte
begun-grows : (old new : List ℕ) (size : ℕ) → length new ≤ length old + size → begun new ≤ begun old + size
begun-grows old [] size longer = omega arith
begun-grows [] (byte ∷ new) size longer = omega arith
begun-grows (first ∷ old) (byte ∷ new) size longer = omega arith

-- where some byte was read of the next line, one more line is begun
pub begun_of_some : (line : List ℕ) → line ≢ [] → begun line ≡ 1
begun_of_some [] some = absurd (some refl)
begun_of_some (byte ∷ line) some = refl

pub lines_begun-grows : (old new : State) (bytes : List ℕ) → new.answered ≡ old.answered
    → new.kept.bytes ≡ take 8192 (old.kept.bytes ++ bytes) → lines_begun new ≤ lines_begun old + length bytes
lines_begun-grows old new bytes answered kept =
    let longer : length new.kept.bytes ≤ length old.kept.bytes + length bytes =
    omega (arith, ap length kept, length-take 8192 (old.kept.bytes ++ bytes), length-append old.kept.bytes bytes) in
    omega (arith, answered, begun-grows old.kept.bytes new.kept.bytes (length bytes) longer)
