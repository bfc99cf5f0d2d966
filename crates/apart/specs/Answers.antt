-- What each answer says, in document 01's numbers and values, and the parts that it names. The promises use it.
use Rattle.std.specs.Prelude.{ℕ, ◌+◌, ◌*◌, cond, ◌||◌, eqb, Option, Some, None}
use Rattle.block_value.specs.declared.BlockValue.{BlockValue}
use Rattle.block_state.specs.declared.Part.{Part}
use Rattle.block_state.specs.declared.Said.{Said}
use Rattle.block_state.specs.declared.Kind.{Kind}
use Rattle.block_state.specs.declared.Kind.TheVariants as kind
use Rattle.block_state.specs.declared.Answer.{Answer}
use Rattle.refusal.specs.Numbers.{refusal_number}
use Rattle.refusal.specs.declared.Refusal.{Refusal}
use Rattle.refusal.specs.declared.Refusal.TheVariants.{PastTheEnd, NotNext, BadForm}
use Rattle.block_state.specs.declared.Answer.TheVariants.{Continue, TooLarge, Handed, Pass, Served, Plain, Whole, First, Refused}

-- The nine answers, by document 01's names.
abbrev pub continue : Kind
continue = kind.Continue

abbrev pub too_large : Kind
too_large = kind.TooLarge

abbrev pub handed : Kind
handed = kind.Handed

abbrev pub pass : Kind
pass = kind.Pass

abbrev pub served : Kind
served = kind.Served

abbrev pub plain : Kind
plain = kind.Plain

abbrev pub whole : Kind
whole = kind.Whole

abbrev pub first : Kind
first = kind.First

abbrev pub refusal : Kind
refusal = kind.Refused

-- Numbers of our own for them, as they cross to C.
abbrev pub kind_number : Kind → ℕ
kind_number kind.Refused = 0
kind_number kind.Continue = 1
kind_number kind.TooLarge = 2
kind_number kind.Handed = 3
kind_number kind.Pass = 4
kind_number kind.Served = 5
kind_number kind.Plain = 6
kind_number kind.Whole = 7
kind_number kind.First = 8

-- A response code: class (3 bits) and detail (5 bits).
abbrev pub coap_code : ℕ → ℕ → ℕ
coap_code class detail = class * 32 + detail

-- 0 where the response that goes out has its own.
abbrev pub of_its_own : ℕ
of_its_own = 0

-- 9 is 4.08 and 10 is 4.00, as document 01 says; 8 is the Rust's bad request, 4.00; 4, 5 and 6 are its internal
-- error, 5.00 (so is a 5 where the Rust panics), and so are the others, which it has not.
abbrev pub refusal_code : Refusal → ℕ
refusal_code NotNext = coap_code 4 8
refusal_code BadForm = coap_code 4 0
refusal_code PastTheEnd = coap_code 4 0
refusal_code other = coap_code 5 0

-- The part of an answer that names none.
abbrev pub nowhere : Part
nowhere = record { from = 0; to = 0 }

abbrev pub saying : Kind → ℕ → Option BlockValue → Option BlockValue → ℕ → Part → Part → Said
saying kind number block1 block2 code part head =
    record { kind = kind; number = number; block1 = block1; block2 = block2; code = code; part = part; head = head }

-- The kind, a refusal's number (else 0), the two block values to send, the response code, the body or the chunk, and the cached head.
abbrev pub said : Answer → Said
said (Continue b) = saying continue 0 (Some b) None (coap_code 2 31) nowhere nowhere
said (TooLarge b) = saying too_large 0 (Some b) None (coap_code 4 13) nowhere nowhere
said (Handed b body) = saying handed 0 (Some b) None of_its_own body nowhere
said Pass = saying pass 0 None None of_its_own nowhere nowhere
said (Served s) = saying served 0 s.block1 (Some s.block2) of_its_own s.chunk s.head
said Plain = saying plain 0 None None of_its_own nowhere nowhere
said (Whole b chunk) = saying whole 0 None (Some b) of_its_own chunk nowhere
said (First b chunk) = saying first 0 None (Some b) of_its_own chunk nowhere
said (Refused n) = saying refusal (refusal_number n) None None (refusal_code n) nowhere nowhere
