-- An answer in numbers, as it crosses to C: a number of our own for each case, document 01's for a refusal, and document 01's values.
use Rattle.block_state.specs.declared.Said.{Said}
use Rattle.block_state.specs.declared.Answer.{Answer}
use Rattle.block_state.specs.State.{recording}
use Rattle.apart.specs.Answers.{kind_number, said}
use Rattle.replies.specs.declared.Reply.{Reply}

abbrev pub in_numbers : Said → Reply
in_numbers s =
    record {
      kind = kind_number s.kind;
      refusal = s.number;
      code = s.code;
      block1 = recording s.block1;
      block2 = recording s.block2;
      part = s.part;
      head = s.head;
    }

abbrev pub reply_of : Answer → Reply
reply_of a = in_numbers (said a)
