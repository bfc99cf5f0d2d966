-- Any two results that a public call's contract allows are equal: the answer, the table and every byte of both memories, for refused calls as
-- well. Assumes nothing.
--
-- Both calls, `intercept_request` and `intercept_response`, ensure Meant of their results: `call-determined`. The steps ensure the same of a
-- state, a piece and an answer: `step-determined`. `extending_splice` ensures an equation of its answer and one of the piece by that answer:
-- `splice-determined`. Every other public function of the handler but `request_change` and `response_change` (docs/PROMISES.md, "One result") ensures an equation
-- of its result, r ≡ .. or now r ≡ .., or of the one memory that it changes, now mem.exit ≡ .. (with a bound beside it in places): `one-result`.
use Rattle.std.specs.Prelude.{Result}
use mathlib.Core.Path.{◌≡◌, sym, ap, ◌∙◌}
use mathlib.Core.List.{List}
use Prim.Native.Nat.{ℕ}
use Rattle.refusal.specs.declared.Refusal.{Refusal}
use Rattle.splicing.specs.Splice.{left_by}
use Rattle.config.specs.declared.Config.{Config}
use Rattle.block_state.specs.declared.BlockState.{BlockState}
use Rattle.block_state.specs.declared.Answer.{Answer}
use Rattle.block_state.specs.Step.{Left, left}
use Rattle.block_table.specs.declared.Table.{Table}
use Rattle.call.specs.Call.{World, Call, Done, done}
use Rattle.call.specs.Contract.{world, Meant}

pub one-result : {A : Type 0} {x r s : A} → r ≡ x → s ≡ x → r ≡ s
one-result e f = e ∙ sym f

-- two results of one call: tables, upload memories, response memories and answers
pub record Same (t t' : Table) (u u' d d' : List ℕ) (a a' : Answer) : Type 0 where
  pub table : t ≡ t'
  pub upload : u ≡ u'
  pub response : d ≡ d'
  pub answer : a ≡ a'

pub call-determined : (c : Config) (w : World) (q : Call) (t t' : Table) (u u' d d' : List ℕ) (a a' : Answer)
    → Meant c w q (world t u d) a → Meant c w q (world t' u' d') a' → Same t t' u u' d d' a a'
call-determined c w q t t' u u' d d' a a' m n =
    let e : done (world t u d) a ≡ done (world t' u' d') a' = one-result m n in
    record {
      table = ap (λ (r : Done). r.world.table) e;
      upload = ap (λ (r : Done). r.world.upload) e;
      response = ap (λ (r : Done). r.world.response) e;
      answer = ap (λ (r : Done). r.answer) e;
    }

pub step-determined : (g : Left) (s s' : BlockState) (p p' : List ℕ) (a a' : Answer) → left s p a ≡ g → left s' p' a' ≡ g
    → (s ≡ s') × (p ≡ p') × (a ≡ a')
step-determined g s s' p p' a a' m n =
    let e : left s p a ≡ left s' p' a' = one-result m n in
    (ap (λ (l : Left). l.state) e, ap (λ (l : Left). l.piece) e, ap (λ (l : Left). l.answer) e)

pub splice-determined : (x r r' : Result ℕ Refusal) (piece p p' : List ℕ) (l a s : ℕ) (payload : List ℕ) → r ≡ x → r' ≡ x
    → p ≡ left_by r piece l a s payload → p' ≡ left_by r' piece l a s payload → (r ≡ r') × (p ≡ p')
splice-determined x r r' piece p p' l a s payload m n e f =
    let same : r ≡ r' = one-result m n in
    (same, e ∙ ap (λ (y : Result ℕ Refusal). left_by y piece l a s payload) same ∙ sym f)
