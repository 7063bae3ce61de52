use Rattle.std.proofs.Common.{Contains, ap, subst, ◌∙◌}
use Rattle.std.specs.Map.{remove_entry}
use Rattle.lru.specs.LruCache.{LruCache}
use Rattle.lru.proofs.CallerLemmas.{Contains-remove_entry}
use Rattle.vt_names.specs.declared.kept.KeptName.{KeptName}
use Rattle.vt_names.specs.declared.kept.NameKey.{NameKey}
use Rattle.vt_names.specs.Pairs.{entries_of}
use Rattle.vt_names.proofs.Places.{others-entries, same_key}
use Rattle.vt_names.proofs.kept.forget_in.Goals as goal

pub returns-clause-entries : goal.returns-clause-entries
returns-clause-entries c = ap (λ (cache : LruCache NameKey KeptName). entries_of cache.entries) c.pop.ensures.entries
    ∙ ap (λ key. entries_of (remove_entry (same_key key) c.args.cache.now.entries)) c.new.ensures
    ∙ others-entries c.args.directory c.args.name.now c.args.cache.now.entries c.requires c.len.ensures.valid.0

pub returns-clause-digests : goal.returns-clause-digests
returns-clause-digests c pair there = c.requires pair
    (Contains-remove_entry (same_key c.new.result) c.args.cache.now.entries pair
    (subst (λ (cache : LruCache NameKey KeptName). Contains cache.entries pair) c.pop.ensures.entries there))
