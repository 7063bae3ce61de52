use Rattle.std.proofs.Common.{rules}
use Rattle.vt_text.proofs.PathWords.{ends_in_slash_at}
use Rattle.vt_text.proofs.link.ends_in_slash.Goals as goal

pub returns : goal.returns
returns c = rw (ends_in_slash_at c.args.text.now) (search rules)
