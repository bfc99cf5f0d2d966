use Rattle.std.proofs.Common.{arith, rules}
use Rattle.digest.proofs.Words.{digest-cut, digest-whole}
use Rattle.digest.proofs.digest.Goals as goal

pub returns-then-words-lt8 : goal.returns-then-words-lt8
returns-then-words-lt8 c = rw (digest-cut c.args.key c.args.len (search rules) _ c.word.ensures, c.stir.ensures, c.part.ensures, c.whole-d.ensures)

pub returns : goal.returns
returns c = rw (digest-whole c.args.key c.args.len (search rules) (omega arith), c.stir-2.ensures, c.whole-d.ensures)
