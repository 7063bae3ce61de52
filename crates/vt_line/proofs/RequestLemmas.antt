-- What a line asks for, by its texts.
use Rattle.std.proofs.Common.{inl, inr, ⊎_elim, eqb, IfErr, IfOk, IfSome, Bool, List, None, Ok, Option, Result, Some, Err, [], ap, arith, codes, cond, false, length, nat_le, lit≤, option_map, refl, subst, suc, sym, true, unwrap_or, ℕ, ◌<◌, ◌≡◌, ◌≤◌, ◌∙◌, ◌∷◌, ◌&&◌, ◌||◌, ◌⊎◌, leb, IsSomeAnd, bytes_eq}
use Rattle.vt_spec.proofs.Common.{AskSealed, Asking, Call, Calling, MountOverlay, MountPlain, Nobody, One, Request, Someone, Two, Version, and-false, asked_by, call_words, capabilities_word, denial, each_of, false≢true, groups_word, identity_word, is_plain, is_silent, list_all, longest_line, nat_tests, no_more, options_of, path_word, plain_flags, raw_tokens, request_of, request_of_texts, task_word, then_some, token_text, word_then}
use Rattle.vt_spec.specs.declared.errors.Deny.{Deny}
use Rattle.vt_spec.specs.declared.errors.Rule.TheVariants.{S1, S5}
use Rattle.vt_spec.specs.Language.Calls as asked
use Rattle.vt_spec.specs.Language.Script.{access_word, attribute_words, bytes_word, call_asked, chown_call, creation_words, descriptor_word, descriptor_words, directive_asked, flags_or_plain, flags_word, fork_words, kept_or_identity, may_have, mode_word, mount_words, mounting_words, naming_words, offset_word, overlays, path_alone, second_words, some_tasks, task_words, two_paths, type_word, yes_or_no_word}
use Rattle.vt_line.specs.declared.calls.ReadError.{ReadError}
use Rattle.vt_line.specs.declared.calls.ReadError.TheVariants.{Grammar, Memory}
use Rattle.vt_line.specs.declared.names.CallName.{CallName}
use Rattle.vt_line.specs.declared.names.CallName.TheVariants.{Chmod, Chown, Close, Drop, Exit, Fork, Mkdir, Mount, Mounts, Opaque, Open, Pair, Path, PivotRoot, Pread, Pwrite, Remount, SetType, SetTypeRecursive, Setns, Umask, Unshare, Write}
use Rattle.vt_line.specs.declared.names.PairCall.{PairCall}
use Rattle.vt_line.specs.declared.names.PairCall.TheVariants as pair
use Rattle.vt_line.specs.declared.names.PathCall.{PathCall}
use Rattle.vt_line.specs.declared.names.PathCall.TheVariants as path
use Rattle.vt_line.specs.declared.line.Line.{Line}
use Rattle.vt_line.specs.declared.line.Line.TheVariants as line
use Rattle.vt_line.specs.Calls.{AsksFor, IsCallRead, IsRequestRead, KeepsWords, TakesMemory, as_read, call_named, refusal}
use Rattle.vt_line.specs.Lines.{IsReadingOf, IsSilent, IsSpoken}
use Rattle.vt_line.specs.Names.{name_text, pair_text, path_text}
use Rattle.vt_line.specs.Tokens.{few_texts}
use Rattle.vt_line.proofs.Splits.{each_of-length}
use Rattle.vt_line.proofs.TokenLemmas.{plain-tokens}

-- What reads at most so many words answers nothing to more.
abbrev Stops : {B : Type 0} → ℕ → (List (List ℕ) → Option B) → Type 0
Stops most read = (words : List (List ℕ)) → most < length words → read words ≡ None

none_then : {A B : Type 0} (a : Option A) (next : A → Option B) → ((x : A) → next x ≡ None) → then_some a next ≡ None
none_then None next none = refl
none_then (Some a) next none = none a

no_more-stops : {B : Type 0} (b : B) → Stops 0 (no_more b)
no_more-stops b [] h = absurd (omega arith)
no_more-stops b (word ∷ rest) h = refl

word_then-stops : {A B : Type 0} (most : ℕ) (read : List ℕ → Option A) (next : A → List (List ℕ) → Option B)
    → ((a : A) → Stops most (next a)) → Stops (suc most) (word_then read next)
word_then-stops most read next stops [] h = refl
word_then-stops most read next stops (word ∷ rest) h = none_then (read word) (λ a. next a rest)
    (λ a. stops a rest (omega arith))

may_have-stops : {A B : Type 0} (read : List ℕ → Option A) (b : Option A → B) → Stops 1 (may_have read b)
may_have-stops read b [] h = absurd (omega arith)
may_have-stops read b (word ∷ rest) h = none_then (read word) (λ a. no_more (b (Some a)) rest)
    (λ a. no_more-stops (b (Some a)) rest (omega arith))

-- a branch of the grammar, and those after it
neither : {B : Type 0} (test : Bool) (this others : Option B) → this ≡ None → others ≡ None → cond test this others ≡ None
neither true this others e f = e
neither false this others e f = f

-- `sealed` names so many tasks at most
some_tasks-many : (words : List (List ℕ)) → 64 < length words → some_tasks words ≡ None
some_tasks-many words many =
    let over : nat_le (length words) 64 ≡ false = grind (arith, nat_tests) in
    ap (λ few. cond (nat_le 1 (length words) && few) (option_map AskSealed (each_of task_word words)) None) over
    ∙ ap (λ test. cond test (option_map AskSealed (each_of task_word words)) None) (and-false (nat_le 1 (length words)))

module _ (version : Version) (words : List (List ℕ)) (many : 4 < length words) where
  by : {B : Type 0} (most : ℕ) (read : List (List ℕ) → Option B) → Stops most read → most ≤ 4 → read words ≡ None
  by most read stops few = stops words (omega arith)

  one_path : (call : List ℕ → Call) → path_alone call words ≡ None
  one_path call = by 1 (path_alone call)
      (word_then-stops 0 path_word (λ path. no_more (call path)) (λ path. no_more-stops (call path))) (lit≤ tt)

  a_pair : (call : List ℕ → List ℕ → Call) → two_paths call words ≡ None
  a_pair call = by 2 (two_paths call) (word_then-stops 1 path_word
      (λ first. word_then path_word (λ second. no_more (call first second)))
      (λ first. word_then-stops 0 path_word (λ second. no_more (call first second))
      (λ second. no_more-stops (call first second)))) (lit≤ tt)

  mounted : (kind : List ℕ) (rest : List (List ℕ)) → 3 < length rest → mount_words version kind rest ≡ None
  mounted kind rest h = neither (bytes_eq kind (codes "plain")) _ _
      (word_then-stops 1 path_word (λ path. flags_or_plain version (λ given. MountPlain path given))
      (λ path. may_have-stops (flags_word version) (λ given. MountPlain path (unwrap_or given plain_flags))) rest
      (omega arith)) (neither (bytes_eq kind (codes "overlay")) _ _ (word_then-stops 2 path_word (λ path.
      word_then bytes_word (λ options. flags_or_plain version (λ given. MountOverlay path (options_of options) given)))
      (λ path. word_then-stops 1 bytes_word
      (λ options. flags_or_plain version (λ given. MountOverlay path (options_of options) given))
      (λ options. may_have-stops (flags_word version)
      (λ given. MountOverlay path (options_of options) (unwrap_or given plain_flags)))) rest (omega arith)) refl)

  second-none : (version : Version) (name : List ℕ) → second_words version name words ≡ None
  second-none One name = refl
  second-none Two name = neither (bytes_eq name (codes "pivot_root")) _ _ (a_pair asked.Call.PivotRoot) refl

  mounting-none : (name : List ℕ) → mounting_words version name words ≡ None
  mounting-none name =
      neither (bytes_eq name (codes "mount")) _ _ (by 4 _ (word_then-stops 3 bytes_word _ mounted) (lit≤ tt))
      (neither (bytes_eq name (codes "bind")) _ _ (a_pair _) (neither (bytes_eq name (codes "rbind")) _ _ (a_pair _)
      (neither (bytes_eq name (codes "move")) _ _ (a_pair _) (neither (bytes_eq name (codes "umount")) _ _ (one_path _)
      (neither (bytes_eq name (codes "lazy")) _ _ (one_path _) (neither (bytes_eq name (codes "remount")) _ _
      (by 2 _ (word_then-stops 1 path_word _ (λ path. word_then-stops 0 (flags_word version) _ (λ given. no_more-stops _)))
      (lit≤ tt)) (neither (bytes_eq name (codes "type")) _ _
      (by 2 _ (word_then-stops 1 path_word _ (λ path. word_then-stops 0 type_word _ (λ word. no_more-stops _)))
      (lit≤ tt)) (neither (bytes_eq name (codes "rtype")) _ _
      (by 2 _ (word_then-stops 1 path_word _ (λ path. word_then-stops 0 type_word _ (λ word. no_more-stops _)))
      (lit≤ tt))
      (neither (bytes_eq name (codes "mounts")) _ _ (by 0 _ (no_more-stops _) (lit≤ tt)) (second-none version name))))))))))

  forked : Stops 4 fork_words
  forked [] h = absurd (omega arith)
  forked (word ∷ rest) h = word_then-stops 3 identity_word _
      (λ uid. word_then-stops 2 identity_word _ (λ gid. word_then-stops 1 groups_word _ (λ groups.
      word_then-stops 0 capabilities_word _ (λ capabilities. no_more-stops _)))) (word ∷ rest) h

  task-none : (name : List ℕ) → task_words version name words ≡ None
  task-none name = neither (bytes_eq name (codes "chdir")) _ _ (one_path _)
      (neither (bytes_eq name (codes "chroot")) _ _ (one_path _)
      (neither (bytes_eq name (codes "umask")) _ _ (by 1 _ (word_then-stops 0 mode_word _ (λ mode. no_more-stops _)) (lit≤ tt))
      (neither (bytes_eq name (codes "drop")) _ _ (by 1 _ (word_then-stops 0 capabilities_word _ (λ which. no_more-stops _)) (lit≤ tt))
      (neither (bytes_eq name (codes "fork")) _ _ (by 4 _ forked (lit≤ tt))
      (neither (bytes_eq name (codes "exit")) _ _ (by 0 _ (no_more-stops _) (lit≤ tt))
      (neither (bytes_eq name (codes "unshare")) _ _ (by 0 _ (no_more-stops _) (lit≤ tt))
      (neither (bytes_eq name (codes "setns")) _ _ (by 1 _ (word_then-stops 0 task_word _ (λ task. no_more-stops _)) (lit≤ tt))
      (mounting-none name))))))))

  created : Stops 2 creation_words
  created [] h = absurd (omega arith)
  created (word ∷ rest) h =
      neither (bytes_eq word (codes "create")) _ _ (word_then-stops 0 mode_word _ (λ mode. no_more-stops _) rest (omega arith))
      (neither (bytes_eq word (codes "excl")) _ _ (word_then-stops 0 mode_word _ (λ mode. no_more-stops _) rest (omega arith)) refl)

  descriptor-none : (name : List ℕ) → descriptor_words version name words ≡ None
  descriptor-none name = neither (bytes_eq name (codes "open")) _ _
      (by 4 _ (word_then-stops 3 path_word _ (λ path. word_then-stops 2 access_word _
      (λ access rest h. ap (option_map _) (created rest h)))) (lit≤ tt)) (neither (bytes_eq name (codes "pread")) _ _
      (by 3 _ (word_then-stops 2 descriptor_word _ (λ number. word_then-stops 1 offset_word _ (λ offset.
      word_then-stops 0 offset_word _ (λ size. no_more-stops _)))) (lit≤ tt))
      (neither (bytes_eq name (codes "pwrite")) _ _
      (by 3 _ (word_then-stops 2 descriptor_word _ (λ number. word_then-stops 1 offset_word _ (λ offset.
      word_then-stops 0 bytes_word _ (λ bytes. no_more-stops _)))) (lit≤ tt))
      (neither (bytes_eq name (codes "close")) _ _ (by 1 _ (word_then-stops 0 descriptor_word _ (λ number. no_more-stops _)) (lit≤ tt))
      (task-none name))))

  chown-stops : (path : List ℕ) (uid gid : Option ℕ) → Stops 0 (chown_call path uid gid)
  chown-stops path None None rest h = refl
  chown-stops path None (Some gid) rest h = no_more-stops _ rest h
  chown-stops path (Some uid) gid rest h = no_more-stops _ rest h

  attribute-none : (name : List ℕ) → attribute_words version name words ≡ None
  attribute-none name = neither (bytes_eq name (codes "chmod")) _ _
      (by 2 _ (word_then-stops 1 path_word _ (λ path. word_then-stops 0 mode_word _ (λ mode. no_more-stops _)))
      (lit≤ tt)) (neither (bytes_eq name (codes "chown")) _ _
      (by 3 _ (word_then-stops 2 path_word _ (λ path. word_then-stops 1 kept_or_identity _ (λ uid.
      word_then-stops 0 kept_or_identity _ (λ gid. chown-stops path uid gid)))) (lit≤ tt))
      (neither (bytes_eq name (codes "opaque")) _ _
      (by 2 _ (word_then-stops 1 path_word _ (λ path. word_then-stops 0 yes_or_no_word _ (λ mark. no_more-stops _)))
      (lit≤ tt)) (descriptor-none name)))

  naming-none : (name : List ℕ) → naming_words version name words ≡ None
  naming-none name = neither (bytes_eq name (codes "mkdir")) _ _
      (by 2 _ (word_then-stops 1 path_word _ (λ path. may_have-stops mode_word (asked.Call.Mkdir path))) (lit≤ tt))
      (neither (bytes_eq name (codes "symlink")) _ _ (a_pair asked.Call.SymlinkAt)
      (neither (bytes_eq name (codes "whiteout")) _ _ (one_path asked.Call.MakeWhiteout)
      (neither (bytes_eq name (codes "link")) _ _ (a_pair asked.Call.LinkTo)
      (neither (bytes_eq name (codes "unlink")) _ _ (one_path asked.Call.Unlink)
      (neither (bytes_eq name (codes "rmdir")) _ _ (one_path asked.Call.Rmdir)
      (neither (bytes_eq name (codes "rename")) _ _ (a_pair asked.Call.Rename) (attribute-none name)))))))

  -- no call has more than four words
  call-none : (name : List ℕ) → call_words version name words ≡ None
  call-none name = neither (bytes_eq name (codes "ls")) _ _ (one_path asked.Call.Ls)
      (neither (bytes_eq name (codes "stat")) _ _ (one_path asked.Call.Stat)
      (neither (bytes_eq name (codes "lstat")) _ _ (one_path asked.Call.Lstat)
      (neither (bytes_eq name (codes "readlink")) _ _ (one_path asked.Call.Readlink)
      (neither (bytes_eq name (codes "read")) _ _ (one_path asked.Call.Read)
      (neither (bytes_eq name (codes "write")) _ _
      (by 2 _ (word_then-stops 1 path_word _ (λ path. word_then-stops 0 bytes_word _ (λ bytes. no_more-stops _)))
      (lit≤ tt)) (neither (bytes_eq name (codes "exec")) _ _ (one_path asked.Call.Exec) (naming-none name)))))))

module _ (version : Version) where
  -- Whose line it is
  someone-asked : (task : Option (List ℕ)) (words : List (List ℕ)) →
      asked_by (overlays version) (option_map Someone task) words ≡ then_some task (λ task. call_asked (overlays version) task words)
  someone-asked None words = refl
  someone-asked (Some task) words = refl

  texts-someones : (text : List ℕ) (words : List (List ℕ)) → bytes_eq text (codes "!") ≡ false
      → request_of_texts (overlays version) (text ∷ words) ≡ asked_by (overlays version) (option_map Someone (task_word text)) words
  texts-someones text words other =
      ap (λ test. asked_by (overlays version) (cond test (Some Nobody) (option_map Someone (task_word text))) words) other

  texts-nobodys : (text : List ℕ) (words : List (List ℕ)) → bytes_eq text (codes "!") ≡ true
      → request_of_texts (overlays version) (text ∷ words) ≡ directive_asked (overlays version) words
  texts-nobodys text words same =
      ap (λ test. asked_by (overlays version) (cond test (Some Nobody) (option_map Someone (task_word text))) words) same

  -- the names of the product's calls are known
  path-known : (name : PathCall) → (overlays version).knows (path_text name) ≡ true
  path-known path.Ls = refl
  path-known path.Stat = refl
  path-known path.Lstat = refl
  path-known path.Readlink = refl
  path-known path.Read = refl
  path-known path.Exec = refl
  path-known path.Unlink = refl
  path-known path.Rmdir = refl
  path-known path.Chdir = refl
  path-known path.Chroot = refl
  path-known path.Umount = refl
  path-known path.Lazy = refl
  path-known path.Whiteout = refl

  pair-known : (name : PairCall) → (overlays version).knows (pair_text name) ≡ true
  pair-known pair.Symlink = refl
  pair-known pair.Link = refl
  pair-known pair.Rename = refl
  pair-known pair.Bind = refl
  pair-known pair.Rbind = refl
  pair-known pair.Move = refl

  name-known : (name : CallName) → (overlays version).knows (name_text name) ≡ true
  name-known (Path name) = path-known name
  name-known (Pair name) = pair-known name
  name-known Write = refl
  name-known Mkdir = refl
  name-known Chmod = refl
  name-known Chown = refl
  name-known Opaque = refl
  name-known Open = refl
  name-known Pread = refl
  name-known Pwrite = refl
  name-known Close = refl
  name-known Umask = refl
  name-known Drop = refl
  name-known Fork = refl
  name-known Exit = refl
  name-known Unshare = refl
  name-known Setns = refl
  name-known Mount = refl
  name-known Remount = refl
  name-known SetType = refl
  name-known SetTypeRecursive = refl
  name-known Mounts = refl
  name-known PivotRoot = refl

  call-asked : (task : List ℕ) (name : CallName) (words : List (List ℕ)) →
      call_asked (overlays version) task (name_text name ∷ words) ≡ option_map (Calling task) (call_named version name words)
  call-asked task name words = ap (λ known. cond known (option_map (Calling task) (call_named version name words)) None)
      (name-known name)

  -- what a task asks for, once it and its call are known
  pub task-named : (first second : List ℕ) (words : List (List ℕ)) (task : List ℕ) (name : CallName)
      → task_word first ≡ Some task → second ≡ name_text name
      → asked_by (overlays version) (option_map Someone (task_word first)) (second ∷ words)
      ≡ option_map (Calling task) (call_named version name words)
  task-named first second words task name e f = someone-asked (task_word first) (second ∷ words)
      ∙ ap (λ task. then_some task (λ task. call_asked (overlays version) task (second ∷ words))) e
      ∙ ap (λ second. call_asked (overlays version) task (second ∷ words)) f ∙ call-asked task name words

  asked-none : (test : Bool) (task : List ℕ) (call : Option Call) → call ≡ None
      → cond test (option_map (Calling task) (as_read call)) None ≡ None
  asked-none true task call e = ap (λ call. option_map (Calling task) (as_read call)) e
  asked-none false task call e = refl

  -- no directive has more words than tasks may be named
  directive-many : (name : List ℕ) (words : List (List ℕ)) → 64 < length words
      → directive_asked (overlays version) (name ∷ words) ≡ None
  directive-many name words many = ap (option_map Asking) (neither (bytes_eq name (codes "peers")) _ _
      (no_more-stops asked.Directive.AskPeers words (omega arith))
      (neither (bytes_eq name (codes "sealed")) _ _ (some_tasks-many words many) refl))

  request-many : (texts : List (List ℕ)) → 66 < length texts → request_of_texts (overlays version) texts ≡ None
  request-many [] h = absurd (omega arith)
  request-many (first ∷ []) h = absurd (omega arith)
  request-many (first ∷ name ∷ words) h = by_test (bytes_eq first (codes "!")) refl where
    by_test : (test : Bool) → bytes_eq first (codes "!") ≡ test
        → request_of_texts (overlays version) (first ∷ name ∷ words) ≡ None
    by_test true e = texts-nobodys first (name ∷ words) e ∙ directive-many name words (omega arith)
    by_test false e =
        texts-someones first (name ∷ words) e ∙ someone-asked (task_word first) (name ∷ words)
        ∙ none_then (task_word first) (λ task. call_asked (overlays version) task (name ∷ words))
        (λ task. asked-none ((overlays version).knows name) task
        (call_words version name words) (call-none version words (omega arith) name))

  -- the texts are as many as the tokens
  many_texts : (texts : Option (List (List ℕ))) → ((all : List (List ℕ)) → texts ≡ Some all → 66 < length all)
      → then_some texts (request_of_texts (overlays version)) ≡ None
  many_texts None many = refl
  many_texts (Some all) many = request-many all (many all refl)

  pub request-few : (line : List ℕ)
      → request_of (overlays version) line ≡ then_some (few_texts line) (request_of_texts (overlays version))
  unfolding request_of
  request-few line = by_test (leb (length (raw_tokens line)) 66) refl where
    by_test : (test : Bool) → leb (length (raw_tokens line)) 66 ≡ test →
        then_some (each_of token_text (raw_tokens line)) (request_of_texts (overlays version))
        ≡ then_some (cond test (each_of token_text (raw_tokens line)) None) (request_of_texts (overlays version))
    by_test true e = refl
    by_test false e =
        let many : 66 < length (raw_tokens line) = grind (arith, nat_tests) in
        many_texts (each_of token_text (raw_tokens line))
        (λ all is. let same = each_of-length token_text (raw_tokens line) all is in omega arith)

-- how a call was read is how the request was
some_takes : (task : List ℕ) (call : Option Call) → IsSomeAnd call KeepsWords
    → IsSomeAnd (option_map (Calling task) call) TakesMemory
some_takes task None keeps = keeps
some_takes task (Some call) keeps = inl keeps

pub request-long : (asked : Option Request) (task : List ℕ) (call : Option Call) (c : Call)
    → asked ≡ option_map (Calling task) call → call ≡ Some c → 8 < length task → IsRequestRead asked (Err (denial S5))
request-long asked task call c is there long =
    inr (refl, subst (λ asked. IsSomeAnd asked TakesMemory) (sym (is ∙ ap (option_map (Calling task)) there)) (inr long))

pub if_some : {A : Type 0} (P : A → Type 0) (a : Option A) (x : A) → a ≡ Some x → IfSome a P → P x
if_some P a x e h = subst (λ a. IfSome a P) e h

pub request-refused : (asked : Option Request) (task : List ℕ) (call : Option Call) (e : ReadError)
    → asked ≡ option_map (Calling task) call → IsCallRead call (Err e) → IsRequestRead asked (Err (refusal e))
request-refused asked task call Grammar is none = inl (refl, is ∙ ap (option_map (Calling task)) none)
request-refused asked task call Memory is some =
    inr (refl, subst (λ asked. IsSomeAnd asked TakesMemory) (sym is) (some_takes task call some))

-- a line without escapes is read by its tokens
pub request-plain : (version : Version) (line : List ℕ) → list_all (λ byte. eqb byte 32 || is_plain byte) line ≡ true
    → request_of (overlays version) line ≡ request_of_texts (overlays version) (raw_tokens line)
unfolding request_of
request-plain version line plain = ap (λ texts. then_some texts (request_of_texts (overlays version)))
    (plain-tokens line plain)

-- how a line was read, by its request
pub read-silent : (text : List ℕ) (asked : Option Request) (r : Result Line Deny) → is_silent text ≡ false
    → IsRequestRead asked r → (r ≡ Ok line.Silent → IsSilent text) × (IsSilent text → r ≡ Ok line.Silent)
read-silent text asked r spoken read = (
  λ is. absurd (subst (λ r. IsRequestRead asked r) is read),
  λ silent. absurd (false≢true (sym spoken ∙ silent.1)),
)

pub read-reading : (version : Version) (text : List ℕ) (r : Result Line Deny) → IsSpoken text
    → IsRequestRead (request_of (overlays version) text) r → IfOk r (IsReadingOf version text)
read-reading version text (Ok line.Silent) spoken read = absurd read
read-reading version text (Ok (line.Call task call)) spoken read = (spoken, read)
read-reading version text (Ok (line.Ask directive)) spoken read = (spoken, read)
read-reading version text (Err deny) spoken read = tt

pub read-refused : (asked : Option Request) (r : Result Line Deny) → IsRequestRead asked r
    → IfErr r (λ deny. (deny ≡ denial S1) ⊎ (deny ≡ denial S5))
read-refused asked (Ok line) read = tt
read-refused asked (Err deny) (inl grammar) = inl grammar.0
read-refused asked (Err deny) (inr memory) = inr memory.0

lacks : (asked : Option Request) (line : Line) → AsksFor line asked → asked ≡ None → ⊥
lacks asked line.Silent read none = read
lacks asked (line.Call task call) read none = cc
lacks asked (line.Ask directive) read none = cc

-- no refusal is by two rules
apart : (deny : Deny) → deny ≡ denial S1 → deny ≡ denial S5 → ⊥
apart deny grammar memory =
    let same : S1 ≡ S5 = sym (ap (λ d. d.rule) grammar) ∙ ap (λ d. d.rule) memory in
    cc

grammar-refusal : (asked : Option Request) (r : Result Line Deny) → IsRequestRead asked r
    → (r ≡ Err (denial S1) → asked ≡ None) × (asked ≡ None → r ≡ Err (denial S1))
grammar-refusal asked (Ok line) read = (λ is. cc, λ none. absurd (lacks asked line read none))
grammar-refusal asked (Err deny) (inl grammar) = (λ is. grammar.1, λ none. ap Err grammar.0)
grammar-refusal asked (Err deny) (inr memory) = (
  λ is. let grammar : deny ≡ denial S1 = cc in absurd (apart deny grammar memory.0),
  λ none. absurd (subst (λ asked. IsSomeAnd asked TakesMemory) none memory.1),
)

pub read-grammar : (text : List ℕ) (asked : Option Request) (r : Result Line Deny) → IsSpoken text
    → IsRequestRead asked r → (r ≡ Err (denial S1) → (longest_line < length text) ⊎ (IsSpoken text × (asked ≡ None)))
    × ((longest_line < length text) ⊎ (IsSpoken text × (asked ≡ None)) → r ≡ Err (denial S1))
read-grammar text asked r spoken read =
    let ways = grammar-refusal asked r read in (
      λ is. inr (spoken, ways.0 is),
      λ why. ⊎_elim (λ long. let short = spoken.0 in absurd (omega arith)) (λ none. ways.1 none.1) why,
    )

pub read-memory : (text : List ℕ) (asked : Option Request) (r : Result Line Deny) → IsSpoken text
    → IsRequestRead asked r → r ≡ Err (denial S5) → IsSpoken text × IsSomeAnd asked TakesMemory
read-memory text asked (Ok line) spoken read is = cc
read-memory text asked (Err deny) spoken (inl grammar) is =
    let memory : deny ≡ denial S5 = cc in
    absurd (apart deny grammar.0 memory)
read-memory text asked (Err deny) spoken (inr memory) is = (spoken, memory.1)
