-- Calls by their names and words.
use Rattle.std.proofs.Common.{List, None, Option, Some, Result, is_some, not, option_map, refl, false, true, subst, sym, ap, ◌≡◌, ◌∙◌, ◌∷◌, [], ℕ}
use Rattle.vt_spec.proofs.Common.{Call, One, OverlayWords, Two, Version, call_read, no_more, options_of, path_word, then_some, when, word_then}
use Rattle.vt_spec.specs.Language.Calls as spec
use Rattle.vt_spec.specs.Language.Script.{known_options, names_no_upper, path_alone, two_paths}
use Rattle.vt_request.specs.declared.request.Call.{Call as KeptCall}
use Rattle.vt_line.specs.declared.names.CallName.{CallName}
use Rattle.vt_line.specs.declared.names.CallName.TheVariants.{Pair, Path, PivotRoot}
use Rattle.vt_line.specs.declared.names.PairCall.{PairCall}
use Rattle.vt_line.specs.declared.names.PairCall.TheVariants as pair
use Rattle.vt_line.specs.declared.names.PathCall.{PathCall}
use Rattle.vt_line.specs.declared.names.PathCall.TheVariants as path
use Rattle.vt_line.specs.declared.calls.ReadError.{ReadError}
use Rattle.vt_line.specs.Calls.{IsCallRead, as_read, call_named, lone_path, path_pair, with_pair}
use Rattle.vt_line.specs.Names.{pair_call, path_call}

-- Words that are read alone, and then made a call
then_some-map : {A B C : Type 0} (f : B → C) (a : Option A) (next : A → Option B) (next' : A → Option C)
    → ((x : A) → next' x ≡ option_map f (next x)) → then_some a next' ≡ option_map f (then_some a next)
then_some-map f None next next' e = refl
then_some-map f (Some a) next next' e = e a

no_more-map : {A B : Type 0} (f : A → B) (a : A) (words : List (List ℕ))
    → no_more (f a) words ≡ option_map f (no_more a words)
no_more-map f a [] = refl
no_more-map f a (word ∷ rest) = refl

word_then-map : {A B C : Type 0} (f : B → C) (read : List ℕ → Option A) (next : A → List (List ℕ) → Option B)
    (next' : A → List (List ℕ) → Option C) (words : List (List ℕ)) →
    ((x : A) (rest : List (List ℕ)) → next' x rest ≡ option_map f (next x rest)) →
    word_then read next' words ≡ option_map f (word_then read next words)
word_then-map f read next next' [] e = refl
word_then-map f read next next' (word ∷ rest) e = then_some-map f (read word) (λ a. next a rest) (λ a. next' a rest)
    (λ a. e a rest)

path_alone-lone : (call : List ℕ → Call) (words : List (List ℕ))
    → path_alone call words ≡ option_map call (lone_path words)
unfolding lone_path
path_alone-lone call words = word_then-map call path_word no_more (λ path. no_more (call path)) words
    (λ path rest. no_more-map call path rest)

two_paths-pair : (call : List ℕ → List ℕ → Call) (words : List (List ℕ))
    → two_paths call words ≡ option_map (with_pair call) (path_pair words)
unfolding path_pair
two_paths-pair call words =
    word_then-map (with_pair call) path_word (λ first. word_then path_word (λ second. no_more (first, second)))
    (λ first. word_then path_word (λ second. no_more (call first second))) words
    (λ first rest. word_then-map (with_pair call) path_word (λ second. no_more (first, second))
    (λ second. no_more (call first second)) rest (λ second rest. no_more-map (with_pair call) (first, second) rest))

-- options are read, unless they name an upper layer
pub is_some-map : {A B : Type 0} (f : A → B) (o : Option A) → is_some (option_map f o) ≡ is_some o
is_some-map f None = refl
is_some-map f (Some a) = refl

pub known_none : (text : List ℕ) → options_of text ≡ None → None ≡ known_options names_no_upper (options_of text)
known_none text none = sym (ap (known_options names_no_upper) none)

pub known_upper : (text : List ℕ) (words : OverlayWords) → options_of text ≡ Some words → is_some words.upper ≡ true
    → None ≡ known_options names_no_upper (options_of text)
known_upper text words is upper =
    sym (ap (known_options names_no_upper) is ∙ ap (λ there. when (not there) words) upper)

pub known_some : (text : List ℕ) (words : OverlayWords) → options_of text ≡ Some words → is_some words.upper ≡ false
    → Some words ≡ known_options names_no_upper (options_of text)
known_some text words is upper =
    sym (ap (known_options names_no_upper) is ∙ ap (λ there. when (not there) words) upper)

-- calls that have no options are read as they are
had : {A : Type 0} (call : A → Call) (words : Option A) → ((x : A) → call_read names_no_upper (call x) ≡ call x)
    → as_read (option_map call words) ≡ option_map call words
had call None same = refl
had call (Some x) same = ap Some (same x)

path_had : (call : List ℕ → Call) (words : List (List ℕ))
    → ((path : List ℕ) → call_read names_no_upper (call path) ≡ call path)
    → as_read (path_alone call words) ≡ option_map call (lone_path words)
path_had call words same = ap as_read (path_alone-lone call words) ∙ had call (lone_path words) same

pair_had : (call : List ℕ → List ℕ → Call) (words : List (List ℕ))
    → ((a b : List ℕ) → call_read names_no_upper (call a b) ≡ call a b)
    → as_read (two_paths call words) ≡ option_map (with_pair call) (path_pair words)
pair_had call words same =
    ap as_read (two_paths-pair call words) ∙ had (with_pair call) (path_pair words) (λ pair. same pair.0 pair.1)

path_named : (version : Version) (name : PathCall) (words : List (List ℕ))
    → call_named version (Path name) words ≡ option_map (path_call name) (lone_path words)
path_named version path.Ls words = path_had spec.Call.Ls words (λ path. refl)
path_named version path.Stat words = path_had spec.Call.Stat words (λ path. refl)
path_named version path.Lstat words = path_had spec.Call.Lstat words (λ path. refl)
path_named version path.Readlink words = path_had spec.Call.Readlink words (λ path. refl)
path_named version path.Read words = path_had spec.Call.Read words (λ path. refl)
path_named version path.Exec words = path_had spec.Call.Exec words (λ path. refl)
path_named version path.Unlink words = path_had spec.Call.Unlink words (λ path. refl)
path_named version path.Rmdir words = path_had spec.Call.Rmdir words (λ path. refl)
path_named version path.Chdir words = path_had spec.Call.Chdir words (λ path. refl)
path_named version path.Chroot words = path_had spec.Call.Chroot words (λ path. refl)
path_named version path.Umount words = path_had spec.Call.Umount words (λ path. refl)
path_named version path.Lazy words = path_had spec.Call.Lazy words (λ path. refl)
path_named version path.Whiteout words = path_had spec.Call.MakeWhiteout words (λ path. refl)

pair_named : (version : Version) (name : PairCall) (words : List (List ℕ))
    → call_named version (Pair name) words ≡ option_map (with_pair (pair_call name)) (path_pair words)
pair_named version pair.Symlink words = pair_had spec.Call.SymlinkAt words (λ first second. refl)
pair_named version pair.Link words = pair_had spec.Call.LinkTo words (λ first second. refl)
pair_named version pair.Rename words = pair_had spec.Call.Rename words (λ first second. refl)
pair_named version pair.Bind words = pair_had (λ source path. spec.Call.Bind source path false) words (λ first second. refl)
pair_named version pair.Rbind words = pair_had (λ source path. spec.Call.Bind source path true) words (λ first second. refl)
pair_named version pair.Move words = pair_had spec.Call.MoveMount words (λ first second. refl)

-- a path alone, or two, that were not read
pub path_refused : (version : Version) (name : PathCall) (words : List (List ℕ)) → lone_path words ≡ None
    → call_named version (Path name) words ≡ None
path_refused version name words none = path_named version name words ∙ ap (option_map (path_call name)) none

pub pair_refused : (version : Version) (name : PairCall) (words : List (List ℕ)) → path_pair words ≡ None
    → call_named version (Pair name) words ≡ None
pair_refused version name words none = pair_named version name words ∙ ap (option_map (with_pair (pair_call name))) none

-- and those that were
pub path_asked : (version : Version) (name : CallName) (of : PathCall) (words : List (List ℕ)) (path : List ℕ) → name ≡ Path of
    → lone_path words ≡ Some path → call_named version name words ≡ Some (path_call of path)
path_asked version name of words path is e =
    ap (λ name. call_named version name words) is ∙ path_named version of words ∙ ap (option_map (path_call of)) e

pub pair_asked : (version : Version) (name : CallName) (of : PairCall) (words : List (List ℕ)) (a b : List ℕ) → name ≡ Pair of
    → path_pair words ≡ Some (a, b) → call_named version name words ≡ Some (pair_call of a b)
pair_asked version name of words a b is e =
    ap (λ name. call_named version name words) is ∙ pair_named version of words ∙ ap (option_map (with_pair (pair_call of))) e

-- pivot_root has its words in the second version alone
pivot_named : (words : List (List ℕ))
    → call_named Two PivotRoot words ≡ option_map (with_pair spec.Call.PivotRoot) (path_pair words)
pivot_named words = pair_had spec.Call.PivotRoot words (λ new put. refl)

pub pivot_lacking : (version : Version) (words : List (List ℕ)) → version ≡ One
    → call_named version PivotRoot words ≡ None
pivot_lacking version words is = ap (λ version. call_named version PivotRoot words) is

pub pivot_refused : (version : Version) (words : List (List ℕ)) → version ≡ Two → path_pair words ≡ None
    → call_named version PivotRoot words ≡ None
pivot_refused version words is none = ap (λ version. call_named version PivotRoot words) is ∙ pivot_named words
    ∙ ap (option_map (with_pair spec.Call.PivotRoot)) none

pub pivot_asked : (version : Version) (words : List (List ℕ)) (new put : List ℕ) → version ≡ Two
    → path_pair words ≡ Some (new, put) → call_named version PivotRoot words ≡ Some (spec.Call.PivotRoot new put)
pivot_asked version words new put is e = ap (λ version. call_named version PivotRoot words) is ∙ pivot_named words
    ∙ ap (option_map (with_pair spec.Call.PivotRoot)) e

-- each version has the same calls of paths
pub path_every : (version : Version) (name : CallName) (of : PathCall) (words : List (List ℕ)) (read : Result KeptCall ReadError)
    → name ≡ Path of → IsCallRead (call_named One (Path of) words) read → IsCallRead (call_named version name words) read
path_every version name of words read is known =
    let same : call_named One (Path of) words ≡ call_named version name words =
    path_named One of words ∙ sym (path_named version of words) ∙ ap (λ name. call_named version name words) (sym is) in
    subst (λ asked. IsCallRead asked read) same known

pub pair_every : (version : Version) (name : CallName) (of : PairCall) (words : List (List ℕ)) (read : Result KeptCall ReadError)
    → name ≡ Pair of → IsCallRead (call_named One (Pair of) words) read → IsCallRead (call_named version name words) read
pair_every version name of words read is known =
    let same : call_named One (Pair of) words ≡ call_named version name words =
    pair_named One of words ∙ sym (pair_named version of words) ∙ ap (λ name. call_named version name words) (sym is) in
    subst (λ asked. IsCallRead asked read) same known
