use Rattle.std.proofs.Common.{Contains, ap, subst, ◌∙◌}
use Rattle.lru.specs.LruCache.{LruCache, put_entries}
use Rattle.vt_names.specs.declared.kept.KeptName.{KeptName}
use Rattle.vt_names.specs.declared.kept.NameKey.{NameKey}
use Rattle.vt_names.specs.Pairs.{entries_of, key_of}
use Rattle.vt_names.proofs.Places.{digests-put, kept-entries, same_key}
use Rattle.vt_names.proofs.kept.keep_in.Goals as goal

pub returns-clause-ok : goal.returns-clause-ok
returns-clause-ok c = ap (λ (cache : LruCache NameKey KeptName). entries_of cache.entries) c.in_ok-put.ensures.entries
    ∙ ap (λ key. entries_of (put_entries same_key c.args.cache.now key c.args.kept))
    (c.new-key.ensures ∙ ap (key_of c.args.directory) c.as_slice.ensures.value)
    ∙ kept-entries c.args.cache.now c.args.directory c.args.kept c.requires c.len.ensures.valid

pub returns-clause-digests : goal.returns-clause-digests
returns-clause-digests c pair there = digests-put c.args.cache.now c.args.directory c.args.kept c.requires pair
    (subst (λ key. Contains (put_entries same_key c.args.cache.now key c.args.kept) pair)
    (c.new-key.ensures ∙ ap (key_of c.args.directory) c.as_slice.ensures.value)
    (subst (λ (cache : LruCache NameKey KeptName). Contains cache.entries pair) c.in_ok-put.ensures.entries there))
