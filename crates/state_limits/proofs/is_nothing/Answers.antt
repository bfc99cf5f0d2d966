use mathlib.Core.Path.{◌≡◌, refl, ◌∙◌}
use mathlib.Core.Bool.{Bool, true, false, not, ◌&&◌, beq}
use lib.Dec.{eqb}
use Rattle.block_state.specs.State.{is_nothing}
use Rattle.state_limits.proofs.is_nothing.Goals as goal

-- Field by field, as the derived `==` looks at them.
regroup : (len exponent held head payload given more exponent-2 num : Bool)
    → ((len && exponent) && ((beq held false && (head && payload)) && (beq given false && (beq more false && (exponent-2 && num)))))
    ≡ (len && exponent && not held && head && payload && not given && num && not more && exponent-2)
regroup false b c d e f g h i = refl
regroup true false c d e f g h i = refl
regroup true true true d e f g h i = refl
regroup true true false false e f g h i = refl
regroup true true false true false f g h i = refl
regroup true true false true true true g h i = refl
regroup true true false true true false true h true = refl
regroup true true false true true false true h false = refl
regroup true true false true true false false true true = refl
regroup true true false true true false false true false = refl
regroup true true false true true false false false true = refl
regroup true true false true true false false false false = refl

pub returns : goal.returns
unfolding is_nothing
returns c =
    let zero = c.default.ensures in
    let s = c.args.state in
    let fields = regroup (eqb s.assembled.len 0) (eqb s.assembled.exponent 0) s.cached.held (eqb s.cached.head 0) (eqb s.cached.payload 0)
    s.recorded.given s.recorded.more (eqb s.recorded.exponent 0) (eqb s.recorded.num 0) in
    c.eq.ensures ∙ rw (zero.0.0, zero.0.1, zero.1.0.0, zero.1.0.1.0, zero.1.0.1.1, zero.1.1.0, zero.1.1.1.0, zero.1.1.1.1.0, zero.1.1.1.1.1) fields
