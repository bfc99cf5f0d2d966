use Rattle.std.specs.Prelude.{Some}
use mathlib.Core.Path.{sym, ap, ◌∙◌}
use Rattle.block_option.specs.Option.{unpacked}
use Rattle.block_option.proofs.Laws.{read-few, read-long}
use Rattle.block_option.proofs.read.Goals as goal

pub returns-then-byte_limit-option : goal.returns-then-byte_limit-option
returns-then-byte_limit-option c = sym (read-long _ _ (rw c.byte_limit.ensures.0 at c.if-byte_limit-option.true))

pub returns : goal.returns
returns c = ap Some (c.unpack.ensures ∙ ap unpacked c.scalar_of.ensures) ∙ sym (read-few _ _ (rw c.byte_limit.ensures.0 at c.if-byte_limit-option.false))
