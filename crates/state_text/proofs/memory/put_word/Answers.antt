use Rattle.state_text.specs.Memory.{word_text}
use Rattle.state_text.proofs.memory.put_word.Goals as goal

pub returns-clause-put : goal.returns-clause-put
unfolding word_text
returns-clause-put c = rw c.to_be_bytes-bytes.ensures at c.put_hex.ensures.put
