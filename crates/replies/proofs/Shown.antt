-- The numbers that cross to C lose nothing: the answer can be read back from them, and they show the bytes that the answer shows. Assumes nothing.
use Rattle.refusal.specs.declared.Refusal.TheVariants.{OffLimits, ClockBack, TableFull, TooLargeToEncode, NoBlockValue, Jump, NoRoom, PastTheEnd, NotNext, BadForm}
use Rattle.refusal.specs.Numbers.{refusal_number}
use Rattle.refusal.specs.declared.Refusal.{Refusal}
use Rattle.std.specs.Prelude.{Option, Some, None}
use Prim.Native.Nat.{ℕ, ◌-◌}
use mathlib.Core.Bool.{cond, ◌&&◌}
use mathlib.Core.Path.{◌≡◌, refl, ap}
use mathlib.Core.List.{List}
use native.Mathlib.Omega.{arith}
use lib.ListN.{length}
use lib.Seq.{take_all}
use lib.Dec.{eqb, leb}
use Rattle.pieces.specs.Memory.{part, within}
use Rattle.block_value.specs.declared.BlockValue.{BlockValue}
use Rattle.block_state.specs.declared.Recorded.{Recorded}
use Rattle.block_state.specs.State.{recording, recorded_block}
use Rattle.block_state.specs.declared.Answer.{Answer}
use Rattle.block_state.specs.declared.Answer.TheVariants.{Continue, TooLarge, Handed, Pass, Served, Plain, Whole, First, Refused}
use Rattle.pieces.proofs.Tests.{by_cases}
use Rattle.answer_sources.specs.declared.Source.{Source}
use Rattle.answer_sources.specs.declared.Source.TheVariants.{Nothing, Message, Within}
use Rattle.answer_sources.specs.Parts.{bytes_of, body_of, served_head, served_chunk, sent_bytes}
use Rattle.replies.specs.declared.Reply.{Reply}
use Rattle.replies.specs.Reply.{reply_of}
use Rattle.replies.specs.Found.{found_in, bytes_at, body_in, served_head_in, chunk_in, sent_in}

-- ---- reading back

abbrev value_of : Recorded → BlockValue
value_of b = record { num = b.num; more = b.more; size_exponent = b.exponent }

abbrev refusal_of : ℕ → Refusal
refusal_of n =
    cond (eqb n 1) OffLimits
    (cond (eqb n 2) ClockBack
    (cond (eqb n 3) TableFull
    (cond (eqb n 4) TooLargeToEncode
    (cond (eqb n 5) NoBlockValue
    (cond (eqb n 6) Jump
    (cond (eqb n 7) NoRoom
    (cond (eqb n 8) PastTheEnd
    (cond (eqb n 9) NotNext
    BadForm))))))))

refused : (n : Refusal) → refusal_of (refusal_number n) ≡ n
refused OffLimits = refl
refused ClockBack = refl
refused TableFull = refl
refused TooLargeToEncode = refl
refused NoBlockValue = refl
refused Jump = refl
refused NoRoom = refl
refused PastTheEnd = refl
refused NotNext = refl
refused BadForm = refl

abbrev pub answer_of : Reply → Answer
answer_of r =
    cond (eqb r.kind 1) (Continue (value_of r.block1))
    (cond (eqb r.kind 2) (TooLarge (value_of r.block1))
    (cond (eqb r.kind 3) (Handed (value_of r.block1) r.part)
    (cond (eqb r.kind 4) Pass
    (cond (eqb r.kind 5) (Served (record { block1 = recorded_block r.block1; block2 = value_of r.block2; head = r.head; chunk = r.part }))
    (cond (eqb r.kind 6) Plain
    (cond (eqb r.kind 7) (Whole (value_of r.block2) r.part)
    (cond (eqb r.kind 8) (First (value_of r.block2) r.part)
    (Refused (refusal_of r.refusal)))))))))

-- a recorded value can be read back
recorded : (b : Option BlockValue) → recorded_block (recording b) ≡ b
recorded None = refl
recorded (Some b) = refl

pub read_back : (a : Answer) → answer_of (reply_of a) ≡ a
read_back (Continue b) = refl
read_back (TooLarge b) = refl
read_back (Handed b body) = refl
read_back Pass = refl
read_back (Served s) = ap (λ (b : Option BlockValue). Served (record { block1 = b; block2 = s.block2; head = s.head; chunk = s.chunk })) (recorded s.block1)
read_back Plain = refl
read_back (Whole b chunk) = refl
read_back (First b chunk) = refl
read_back (Refused n) = ap (λ (k : Refusal). Refused k) (refused n)

-- ---- what is shown

pub found-bytes : (s : Source) (message memory : List ℕ) → bytes_at (found_in s (length message) (length memory)) message memory ≡ bytes_of s message memory
unfolding found_in bytes_at within part
found-bytes Nothing message memory = refl
found-bytes Message message memory = let all : length message - 0 ≡ length message = omega arith in rw all (take_all (length message) message (omega arith))
found-bytes (Within p) message memory = by_cases (leb p.from p.to && leb p.to (length memory)) (λ e. rw e) (λ e. rw e)

-- The bytes that a caller takes of each part are those that the functions of `answers` lend.
module _ (a : Answer) where
  pub body_bytes : (payload upload : List ℕ) → bytes_at (found_in (body_in (reply_of a)) (length payload) (length upload)) payload upload ≡ body_of a payload upload
  body_bytes payload upload = found-bytes _ payload upload

  pub head_bytes_lem : (m : List ℕ) → bytes_at (found_in (served_head_in (reply_of a)) (length m) (length m)) m m ≡ served_head a m
  head_bytes_lem m = found-bytes _ m m

  pub chunk_bytes : (m : List ℕ) → bytes_at (found_in (chunk_in (reply_of a)) (length m) (length m)) m m ≡ served_chunk a m
  chunk_bytes m = found-bytes _ m m

  pub sent-bytes : (m : List ℕ) → bytes_at (found_in (sent_in (reply_of a)) (length m) (length m)) m m ≡ sent_bytes a m
  sent-bytes m = found-bytes _ m m
