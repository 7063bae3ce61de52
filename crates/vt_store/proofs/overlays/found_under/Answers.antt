use Rattle.std.proofs.Common.{lt-ltb, sym}
use Rattle.vt_store.proofs.overlays.found_under.Goals as goal

pub returns-then-id-oldest : goal.returns-then-id-oldest
returns-then-id-oldest c = sym (c.requires c.args.id (lt-ltb c.args.id.count c.args.oldest c.if-id-oldest.true))
