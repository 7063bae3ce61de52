use Rattle.std.proofs.Common.{rules}
use Rattle.vt_text.proofs.PathWords.{ends_in_slash_at}
use Rattle.vt_text.proofs.path.PathText.ends_in_slash.Goals as goal

pub returns : goal.returns
returns c = rw (ends_in_slash_at c.args.self.now) (search rules)
