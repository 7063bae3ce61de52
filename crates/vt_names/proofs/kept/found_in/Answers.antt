use Rattle.std.proofs.Common.{Contains, ap, subst, sym, ◌∙◌}
use Rattle.std.specs.Map.{lookup}
use Rattle.lru.specs.LruCache.{LruCache, promoted}
use Rattle.lru.proofs.CallerLemmas.{Contains-promoted}
use Rattle.vt_spec.specs.Lists.{then_some}
use Rattle.vt_names.specs.declared.kept.KeptName.{KeptName}
use Rattle.vt_names.specs.declared.kept.NameKey.{NameKey}
use Rattle.vt_names.specs.Pairs.{entries_of, said_by}
use Rattle.vt_names.proofs.Places.{first-entries, said-lookup, same_key}
use Rattle.vt_names.proofs.kept.found_in.Goals as goal

pub returns-in-Some-clause-answer : goal.returns-in-Some-clause-answer
returns-in-Some-clause-answer c = c.said_of.ensures
    ∙ sym (said-lookup c.args.directory c.args.name.now c.args.cache.now.entries c.requires c.len.ensures.valid.0
    ∙ ap (λ found. then_some found (said_by c.args.name.now))
    (ap (λ key. lookup (same_key key) c.args.cache.now.entries) (sym c.new-key.ensures) ∙ sym c.in-Some.ensures.value))

pub returns-in-None-clause-answer : goal.returns-in-None-clause-answer
returns-in-None-clause-answer c =
    sym (said-lookup c.args.directory c.args.name.now c.args.cache.now.entries c.requires c.len.ensures.valid.0
    ∙ ap (λ found. then_some found (said_by c.args.name.now))
    (ap (λ key. lookup (same_key key) c.args.cache.now.entries) (sym c.new-key.ensures) ∙ sym c.in-None.ensures.value))

pub returns-in-Some-clause-entries : goal.returns-in-Some-clause-entries
returns-in-Some-clause-entries c =
    ap (λ (cache : LruCache NameKey KeptName). entries_of cache.entries) c.get-2.follows.holds-at-none
    ∙ ap (λ key. entries_of (promoted (same_key key) c.args.cache.now.entries)) c.new-key.ensures
    ∙ first-entries c.args.directory c.args.name.now c.args.cache.now.entries c.requires c.len.ensures.valid.0

pub returns-in-None-clause-entries : goal.returns-in-None-clause-entries
returns-in-None-clause-entries c =
    ap (λ (cache : LruCache NameKey KeptName). entries_of cache.entries) c.get-2.follows.holds-at-none
    ∙ ap (λ key. entries_of (promoted (same_key key) c.args.cache.now.entries)) c.new-key.ensures
    ∙ first-entries c.args.directory c.args.name.now c.args.cache.now.entries c.requires c.len.ensures.valid.0

pub returns-in-Some-clause-digests : goal.returns-in-Some-clause-digests
returns-in-Some-clause-digests c pair there = c.requires pair
    (Contains-promoted (same_key c.new-key.result) c.args.cache.now.entries pair
    (subst (λ (cache : LruCache NameKey KeptName). Contains cache.entries pair) c.get-2.follows.holds-at-none there))

pub returns-in-None-clause-digests : goal.returns-in-None-clause-digests
returns-in-None-clause-digests c pair there = c.requires pair
    (Contains-promoted (same_key c.new-key.result) c.args.cache.now.entries pair
    (subst (λ (cache : LruCache NameKey KeptName). Contains cache.entries pair) c.get-2.follows.holds-at-none there))
